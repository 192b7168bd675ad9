-- Each kind of step on a task word keeps the law.
use Rattle.std.proofs.lemmas.Bool.{both_ways}
use Rattle.std.proofs.Common.{refl, sym, ◌∙◌, ap, subst, arith, inl, inr}
use Rattle.std.specs.Prelude.{ℕ, ◌≡◌, ◌≢◌, ◌⊎◌, Bool, true, false, ◌==◌, if◌then◌else◌, None, List}
use Rattle.wait_model.specs.{declared.steps.Step.Step, declared.tasks.TaskRecord.TaskRecord, Functions.put, Views.View}
use Rattle.wait_model.specs.{Tables.Table, Tables.next, Locations.Location, Locations.word_in}
use Rattle.wait_model.specs.Tasks.{IsLawful, IsLawfulWord, task_of, task_word, woken, slept, sleep_of, raised, accepted}
use Rattle.wait_model.specs.Tasks.{meets, pending}
use Rattle.wait_model.specs.declared.steps.Step.TheVariants as step
use Rattle.wait_model.specs.declared.tasks.Sleep.TheVariants as sleep
use Rattle.wait_model.specs.Locations as place
use Rattle.wait_model.proofs.WordLaws.DecodedWords.{task_read}
use Rattle.wait_model.proofs.Functions.{put_at, put_same, put_other}
use Rattle.wait_model.proofs.WordLaws.LawfulWords.{woken_lawful, slept_lawful}
use Rattle.wait_rule.specs.{declared.journal.Item.Item, Rule.IsLawfulTable, Rule.IsRuled}
use Rattle.wait_rule.specs.Items.{Book, after_sleep, after_awake, with_state, Fits}
use Rattle.wait_rule.proofs.{KnownLaws.HeadLinks.off_links, KnownLaws.HeadLinks.wake_links}
use Rattle.wait_rule.proofs.{KnownLaws.MemberPlaces.still_places, TableSteps.KeptSteps.Leaves}
use Rattle.wait_rule.proofs.{TableSteps.KeptSteps.KeepsLaw, StepKinds.EntryKinds.load_leaves}
use Rattle.wait_rule.proofs.StepKinds.TaskBits.{word_lawful}

raised_lawful : (fatal : Bool) (t : TaskRecord) → IsLawful t → IsLawful (raised fatal t)
raised_lawful fatal t l = record { state = l.state; fatal = λ _. refl; runnable = l.runnable }

accepted_lawful : (t : TaskRecord) → IsLawful t → IsLawful (accepted t)
accepted_lawful t l = record { state = l.state; fatal = λ h. absurd (cc); runnable = l.runnable }

stored_lawful : (t : TaskRecord) (v : ℕ) → IsLawful t → t.runnable ≡ true
    → (v ≡ 0) ⊎ ((v ≡ 1) ⊎ ((v ≡ 2) ⊎ (v ≡ 0x102))) → IsLawful (record t { state = v })
stored_lawful t v l r s = record { state = s; fatal = l.fatal; runnable = λ _. r }

-- what task u's new record x leaves, at a step of task a that knows b then
task_leaves : (s : Table) (a u : ℕ) (x : TaskRecord) (b : Book) (history : ℕ → List Step) (view : ℕ → View)
    → IsLawfulTable s → IsLawful x → (a ≡ u → Fits x b) → (a ≢ u → Fits (s.task a) b)
    → ((c : Book) → a ≢ u → Fits (s.task u) c → Fits x c)
    → Leaves s (record s { task = put s.task u x; history = history; view = view }) a (place.Task u) (task_word x) b
task_leaves s a u x b history view l lx mine other theirs = record {
  lawful = record {
    tasks = λ t. put_at IsLawful s.task u x t (λ _. lx) (λ _. l.tasks t);
    entries = l.entries;
    marks = l.marks;
    spent = l.spent;
    bits = l.bits;
  };
  own = put_at (λ (t : TaskRecord). Fits t b) s.task u x a mine other;
  others = λ t ne c f. put_at (λ (y : TaskRecord). Fits y c) s.task u x t
      (λ q. theirs c (λ e. ne (q ∙ sym e)) (subst (λ (i : ℕ). Fits (s.task i) c) q f)) (λ _. f);
  left = ap task_word (put_same s.task u x);
  rest = rest_of;
}
  where
    rest_of : (k : Location) → k ≢ place.Task u
        → word_in (record s { task = put s.task u x; history = history; view = view }) k ≡ word_in s k
    rest_of (place.Task i) ne = ap task_word (put_other s.task u x i (λ e. ne (ap place.Task e)))
    rest_of k ne = refl

woken_fits : (mask : ℕ) (t : TaskRecord) (b : Book) → Fits t b → Fits (woken mask t) b
woken_fits mask t b f = by (meets mask t.state)
  where
    by : (y : Bool) → Fits (if y then record t { state = 0; runnable = true } else t) b
    by true = record { up = λ _. refl; stored = inl refl; rose = λ _ _. refl }
    by false = f

-- a change that leaves the state and the run queue as they were
same_fits : (t x : TaskRecord) (b : Book) → x.state ≡ t.state → x.runnable ≡ t.runnable → Fits t b → Fits x b
same_fits t x b state runs f = record {
  up = λ h. runs ∙ f.up h;
  stored = subst (λ (k : ℕ). (k ≡ 0) ⊎ (k ≡ b.state)) (sym state) f.stored;
  rose = λ h r. state ∙ f.rose h (sym runs ∙ r);
}

slept_fits : (t : TaskRecord) (b : Book) → b.awake ≡ true → Fits t b → Fits (slept t) (after_sleep (sleep_of t) b)
slept_fits t b up f = by (t.state == 0) refl (pending t.state t)
  where
    of_zero : (n : ℕ) → (n == 0) ≡ true → n ≡ 0
    of_zero n q = grind arith

    awake_not_down : {A : Type 0} → b.awake ≡ false → A
    awake_not_down h = absurd (both_ways true (sym up ∙ h) refl)

    by : (y : Bool) → (t.state == 0) ≡ y → (z : Bool)
        → Fits (if y then t else if z then record t { state = 0 } else record t { runnable = false })
        (after_sleep (if y then sleep.Stay else if z then sleep.Signal else sleep.Asleep) b)
    by true q z = record { up = f.up; stored = inl (of_zero t.state q); rose = λ h. awake_not_down h }
    by false q true = record { up = f.up; stored = inl refl; rose = λ h. awake_not_down h }
    by false q false = record { up = λ h. absurd (cc); stored = f.stored; rose = λ h r. absurd (cc) }

awake_fits : (t : TaskRecord) (b : Book) → Fits t b → Fits t (after_awake b.awake t.runnable b)
awake_fits t b f = by b.awake refl t.runnable refl
  where
    by : (y : Bool) → b.awake ≡ y → (z : Bool) → t.runnable ≡ z → Fits t (after_awake y z b)
    by true q z r = f
    by false q true r = record { up = λ _. r; stored = inl (f.rose q r); rose = λ h. absurd (cc) }
    by false q false r = f

module _ (s : Table) (items : ℕ → List Item) (ruled : IsRuled s items) (u : ℕ) where
  -- what a lawful task's word shows
  lawful_at : IsLawful (s.task u)
  lawful_at = ruled.lawful.tasks u

  pub reads : task_of (task_word (s.task u)) ≡ s.task u
  reads = task_read (s.task u) lawful_at

  pub is_lawful : IsLawfulWord (task_word (s.task u))
  is_lawful = word_lawful (s.task u) lawful_at

  module _ (a : ℕ) (b : Book) (fits : Fits (s.task a) b) where
    at_own : a ≡ u → Fits (s.task u) b
    at_own q = subst (λ (i : ℕ). Fits (s.task i) b) q fits

    pub wakes : (mask : ℕ) → KeepsLaw s a (place.Task u) (task_word (woken mask (task_of (task_word (s.task u)))))
        (step.Wake u mask (task_word (s.task u))) b
    wakes mask = record {
      allowed = reads;
      stored = tt;
      orderly = tt;
      places = still_places s a (step.Wake u mask (task_word (s.task u))) refl refl;
      links = wake_links s a u mask (task_word (s.task u));
      leaves = subst (λ (x : TaskRecord). Leaves s (next s a (step.Wake u mask (task_word (s.task u)))) a (place.Task u)
          (task_word (woken mask x)) b) (sym reads)
          (task_leaves s a u (woken mask (s.task u)) b _ _ ruled.lawful (woken_lawful mask (s.task u) lawful_at)
          (λ q. woken_fits mask (s.task u) b (at_own q)) (λ _. fits)
          (λ c _ f. woken_fits mask (s.task u) c f));
    }

    pub signals : (fatal : Bool) (n : ℕ) → n ≡ task_word (raised fatal (s.task u))
        → KeepsLaw s a (place.Task u) n (step.Signal u fatal (task_word (s.task u))) b
    signals fatal n is = record {
      allowed = reads;
      stored = tt;
      orderly = tt;
      places = still_places s a (step.Signal u fatal (task_word (s.task u))) refl refl;
      links = off_links s a (step.Signal u fatal (task_word (s.task u))) tt;
      leaves = subst (λ (k : ℕ). Leaves s (next s a (step.Signal u fatal (task_word (s.task u)))) a
          (place.Task u) k b) (sym is)
          (task_leaves s a u (raised fatal (s.task u)) b _ _ ruled.lawful
          (raised_lawful fatal (s.task u) lawful_at)
          (λ q. same_fits (s.task u) (raised fatal (s.task u)) b refl refl (at_own q)) (λ _. fits)
          (λ c _ f. same_fits (s.task u) (raised fatal (s.task u)) c refl refl f));
    }

-- steps on the own word
module _ (s : Table) (items : ℕ → List Item) (ruled : IsRuled s items) (a : ℕ) (b : Book)
    (fits : Fits (s.task a) b) where
  mine : IsLawful (s.task a)
  mine = ruled.lawful.tasks a

  own : task_of (task_word (s.task a)) ≡ s.task a
  own = reads s items ruled a

  pub looks : KeepsLaw s a (place.Task a) (task_word (s.task a)) (step.Look (task_word (s.task a))) b
  looks = record {
    allowed = own;
    stored = tt;
    orderly = tt;
    places = still_places s a (step.Look (task_word (s.task a))) refl refl;
    links = off_links s a (step.Look (task_word (s.task a))) tt;
    leaves = load_leaves s a (place.Task a) b _ _ ruled.lawful fits;
  }

  pub accepts : (n : ℕ) → n ≡ task_word (accepted (s.task a))
      → KeepsLaw s a (place.Task a) n (step.Accept (task_word (s.task a))) b
  accepts n is = record {
    allowed = own;
    stored = tt;
    orderly = tt;
    places = still_places s a (step.Accept (task_word (s.task a))) refl refl;
    links = off_links s a (step.Accept (task_word (s.task a))) tt;
    leaves = subst (λ (k : ℕ). Leaves s (next s a (step.Accept (task_word (s.task a)))) a (place.Task a) k b) (sym is)
        (task_leaves s a a (accepted (s.task a)) b _ _ ruled.lawful (accepted_lawful (s.task a) mine)
        (λ _. same_fits (s.task a) (accepted (s.task a)) b refl refl fits) (λ _. fits)
        (λ c ne f. absurd (ne refl)));
  }

  pub sleeps : b.awake ≡ true → (s.view a).hold.head ≡ None
      → KeepsLaw s a (place.Task a) (task_word (slept (task_of (task_word (s.task a)))))
      (step.Sleep (task_word (s.task a))) b
  sleeps up free = record {
    allowed = (own, free);
    stored = tt;
    orderly = tt;
    places = still_places s a (step.Sleep (task_word (s.task a))) refl refl;
    links = off_links s a (step.Sleep (task_word (s.task a))) tt;
    leaves = subst (λ (x : TaskRecord). Leaves s (next s a (step.Sleep (task_word (s.task a)))) a (place.Task a)
        (task_word (slept x)) (after_sleep (sleep_of x) b))
        (sym own)
        (task_leaves s a a (slept (s.task a)) (after_sleep (sleep_of (s.task a)) b) _ _ ruled.lawful
        (slept_lawful (s.task a) mine (fits.up up)) (λ _. slept_fits (s.task a) b up fits) (λ ne. absurd (ne refl))
        (λ c ne f. absurd (ne refl)));
  }

  pub stores : (v n : ℕ) → b.awake ≡ true → (v ≡ 0) ⊎ ((v ≡ 1) ⊎ ((v ≡ 2) ⊎ (v ≡ 0x102)))
      → n ≡ task_word (record (s.task a) { state = v })
      → KeepsLaw s a (place.Task a) n (step.State v) b
  stores v n up is_state is = record {
    allowed = tt;
    stored = tt;
    orderly = tt;
    places = still_places s a (step.State v) refl refl;
    links = off_links s a (step.State v) tt;
    leaves = subst (λ (k : ℕ). Leaves s (next s a (step.State v)) a (place.Task a) k (with_state v b)) (sym is)
        (task_leaves s a a (record (s.task a) { state = v }) (with_state v b) _ _ ruled.lawful
        (stored_lawful (s.task a) v mine (fits.up up) is_state) (λ _. record {
          up = λ _. fits.up up;
          stored = inr refl;
          rose = λ h. absurd (both_ways true (sym up ∙ h) refl);
        }) (λ ne. absurd (ne refl)) (λ c ne f. absurd (ne refl)));
  }

  -- a look of a task that sleeps
  pub awakes : Fits (s.task a) (after_awake b.awake (task_of (task_word (s.task a))).runnable b)
  awakes = subst (λ (x : TaskRecord). Fits (s.task a) (after_awake b.awake x.runnable b)) (sym own)
      (awake_fits (s.task a) b fits)
