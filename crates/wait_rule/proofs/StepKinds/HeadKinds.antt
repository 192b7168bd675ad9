-- Each kind of step on a head word keeps the law.
use Rattle.std.proofs.lemmas.Option.{none-some}
use Rattle.std.proofs.Common.{refl, sym, ◌∙◌, ap, subst, arith}
use Rattle.std.specs.Prelude.{ℕ, ◌≡◌, ◌≢◌, ◌+◌, ◌-◌, ◌%◌, ◌<◌, ◌^◌, Bool, true, false, ◌==◌, if◌then◌else◌, Option}
use Rattle.std.specs.Prelude.{Some, None, List}
use Rattle.std.proofs.lemmas.Bool.Decides.{nat_tests}
use mathlib.Core.Path.{fun_ext}
use Rattle.wait_model.specs.{declared.watches.Aim.Aim, declared.steps.Step.Step, declared.tasks.TaskRecord.TaskRecord}
use Rattle.wait_model.specs.{Functions.put, Words.head_word, Words.spent_of, Views.View as Told, Views.Hold, Fold.after}
use Rattle.wait_model.specs.{Permits.HandsOn, Rows.AimsAt, Rows.MaySpend, Locations.Location, Locations.word_in}
use Rattle.wait_model.specs.Tables.{Table, next, raised_spent}
use Rattle.wait_model.specs.declared.steps.Step.TheVariants as step
use Rattle.wait_model.specs.Locations as place
use Rattle.wait_model.proofs.Functions.{put_at, put_same, put_other}
use Rattle.wait_model.proofs.StepLaws.UnlockSteps.{unlock_hold}
use Rattle.wait_rule.specs.{Notes.Notes, Notes.note_step, Members.MarkAgrees, Rule.IsLawfulTable}
use Rattle.wait_rule.specs.Tickets.{Ticket, served, taken, given}
use Rattle.wait_rule.specs.Items.{Book, nothing, with_head, Fits}
use Rattle.wait_rule.proofs.KnownLaws.HeadLinks.{KeepsLinks, both_at}
use Rattle.wait_rule.proofs.KnownLaws.MemberPlaces.{still_places}
use Rattle.wait_rule.proofs.TableSteps.KeptSteps.{Leaves, KeepsLaw}

-- one more in the word of a free head is the word of a held one
pub lock_word : (n : ℕ) → n < 2 ^ 62 → (head_word false n + 1) % 2 ^ 64 ≡ head_word true n
lock_word n small = omega arith

-- and one less in the word of a held head is the word of a free one
pub unlock_word : (n : ℕ) → n < 2 ^ 62 → (head_word true n + (2 ^ 64 - 1)) % 2 ^ 64 ≡ head_word false n
unlock_word n small = omega arith

pub raised_small : (sp : Bool) (n : ℕ) → n < 2 ^ 62 → raised_spent sp n < 2 ^ 62
raised_small false n small = small
raised_small true n small = by (n == 2 ^ 62 - 1) refl
  where
    by : (b : Bool) → (n == 2 ^ 62 - 1) ≡ b → (if b then n else n + 1) < 2 ^ 62
    by true q = small
    by false q = let ne : n ≢ 2 ^ 62 - 1 = grind (arith, nat_tests) in omega arith

fits_head : (t : TaskRecord) (b : Book) (h : Option ℕ) (o : Ticket) → Fits t b → Fits t (with_head h o b)
fits_head t b h o f = record { up = f.up; stored = f.stored; rose = f.rose }

-- what a step on a head word leaves
head_leaves : (s : Table) (a h : ℕ) (held : Bool) (n : ℕ) (b : Book) (history : ℕ → List Step) (view : ℕ → Told)
    → IsLawfulTable s → Fits (s.task a) b → n < 2 ^ 62
    → Leaves s (record s { holder = put s.holder h held; spent = put s.spent h n; history = history; view = view }) a
    (place.Head h) (head_word held n) b
head_leaves s a h held n b history view l f small = record {
  lawful = record {
    tasks = l.tasks;
    entries = l.entries;
    marks = l.marks;
    spent = λ i. put_at (λ (m : ℕ). m < 2 ^ 62) s.spent h n i (λ _. small) (λ _. l.spent i);
    bits = l.bits;
  };
  own = f;
  others = λ t ne c g. g;
  left = λ i. head_word (put_same s.holder h held i) (put_same s.spent h n i);
  rest = rest_of;
}
  where
    rest_of : (k : Location) → k ≢ place.Head h
        → word_in (record s { holder = put s.holder h held; spent = put s.spent h n; history = history; view = view }) k
        ≡ word_in s k
    rest_of (place.Head i) ne = λ j. head_word (put_other s.holder h held i (λ e. ne (ap place.Head e)) j)
        (put_other s.spent h n i (λ e. ne (ap place.Head e)) j)
    rest_of k ne = refl

put_again : {A : Type 0} (f : ℕ → A) (k : ℕ) → put f k (f k) ≡ f
put_again f k = fun_ext (λ i. put_at (λ y. y ≡ f i) f k (f k) i (λ e. ap f (sym e)) (λ _. refl))

none_held : {A : Type 0} (o : Option ℕ) (h : ℕ) → o ≡ None → o ≡ Some h → A
none_held o h e q = absurd (none-some h (sym e ∙ q))

same_head : (h i : ℕ) → ◌≡◌ {A = Option ℕ} (Some h) (Some i) → h ≡ i
same_head h i e = cc

module _ (s : Table) (a h : ℕ) where
  module _ (walk : Option Aim) (w : ℕ) (out : (s.view a).hold.head ≡ None) (reads : spent_of w ≡ s.spent h) where
    lock_links : KeepsLinks s a (step.Lock h walk w)
    lock_links notes r = record {
      holder = λ i held. by i held;
      spent = λ d i. put_at (λ (v : Told). v.hold.head ≡ Some i → s.spent i ≡ v.checks.found i) s.view a
          (after (step.Lock h walk w) (s.view a)) d
          (λ _ q. subst (λ (j : ℕ). s.spent j ≡ put (s.view a).checks.found h (spent_of w) j) (same_head h i q)
          (sym (put_same (s.view a).checks.found h (spent_of w) ∙ reads)))
          (λ _ q. r.spent d i q);
      own = λ t. put_at (λ (k : Notes). s.mark t ≡ k.own) notes a
          (note_step a (step.Lock h walk w) (s.view a) (notes a)) t
          (λ same. r.own t ∙ ap (λ (i : ℕ). (notes i).own) same) (λ _. r.own t);
      shown = λ d i t. both_at (λ (v : Told) (k : Notes). v.hold.head ≡ Some i → MarkAgrees i (k.marks t) (s.mark t))
          s.view notes a (after (step.Lock h walk w) (s.view a)) (note_step a (step.Lock h walk w) (s.view a)
          (notes a)) d
          (λ _ q. tt) (λ _ q. r.shown d i t q);
    }
      where
        V : ℕ → Told
        V = put s.view a (after (step.Lock h walk w) (s.view a))

        old : (i : ℕ) → s.holder i ≡ true → (d : ℕ) × ((V d).hold.head ≡ Some i)
        old i held =
            let d = r.holder i held in (
              d.0,
              put_at (λ (v : Told). v.hold.head ≡ Some i) s.view a (after (step.Lock h walk w) (s.view a)) d.0
                  (λ same. none_held (s.view a).hold.head i out (ap (λ (j : ℕ). (s.view j).hold.head) (sym same) ∙ d.1))
                  (λ _. d.1),
            )

        by : (i : ℕ) → put s.holder h true i ≡ true → (d : ℕ) × ((V d).hold.head ≡ Some i)
        by i = put_at (λ (x : Bool). x ≡ true → (d : ℕ) × ((V d).hold.head ≡ Some i)) s.holder h true i
            (λ e _. (
              a,
              ap (λ (v : Told). v.hold.head)
                  (put_same s.view a (after (step.Lock h walk w) (s.view a))) ∙ ap (λ (j : ℕ). Some j) (sym e),
            ))
            (λ _ held. old i held)

    pub locks : (b : Book) → IsLawfulTable s → Fits (s.task a) b → s.holder h ≡ false → AimsAt walk h
        → (n : ℕ) × (b.ticket ≡ served h n)
        → KeepsLaw s a (place.Head h) (head_word true (s.spent h)) (step.Lock h walk w) b
    locks b l f free aims turn = record {
      allowed = (free, out, reads, aims);
      stored = tt;
      orderly = turn;
      places = still_places s a (step.Lock h walk w) refl refl;
      links = lock_links;
      leaves = subst (λ (g : ℕ → ℕ). Leaves s (record (next s a (step.Lock h walk w)) { spent = g }) a (place.Head h)
          (head_word true (s.spent h)) (with_head (Some h) (taken h) b)) (put_again s.spent h)
          (head_leaves s a h true (s.spent h) (with_head (Some h) (taken h) b) _ _ l
          (fits_head (s.task a) b (Some h) (taken h) f)
          (l.spent h));
    }

  module _ (sp : Bool) (held : (s.view a).hold.head ≡ Some h)
      (one : (x y i : ℕ) → (s.view x).hold.head ≡ Some i → (s.view y).hold.head ≡ Some i → x ≡ y) where
    gone : (after (step.Unlock h sp) (s.view a)).hold.head ≡ None
    gone = ap (λ (k : Hold). k.head) (unlock_hold (s.view a) (s.view a).walk sp)

    unlock_links : KeepsLinks s a (step.Unlock h sp)
    unlock_links notes r = record {
      holder = λ i. put_at (λ (x : Bool). x ≡ true → (d : ℕ) × ((V d).hold.head ≡ Some i)) s.holder h false i
          (λ _ q. absurd (cc)) (λ ne q. old i ne q);
      spent = λ d i. put_at (λ (v : Told). v.hold.head ≡ Some i → spent_after i ≡ v.checks.found i) s.view a
          (after (step.Unlock h sp) (s.view a)) d
          (λ _ q. none_held _ i gone q)
          (λ ne q. put_other s.spent h (raised_spent sp (s.spent h)) i
          (λ e. ne (one d a h (q ∙ ap (λ (j : ℕ). Some j) e) held)) ∙ r.spent d i q);
      own = λ t. put_at (λ (k : Notes). s.mark t ≡ k.own) notes a
          (note_step a (step.Unlock h sp) (s.view a) (notes a)) t
          (λ same. r.own t ∙ ap (λ (i : ℕ). (notes i).own) same) (λ _. r.own t);
      shown = λ d i t. both_at (λ (v : Told) (k : Notes). v.hold.head ≡ Some i → MarkAgrees i (k.marks t) (s.mark t))
          s.view notes a (after (step.Unlock h sp) (s.view a)) (note_step a (step.Unlock h sp) (s.view a) (notes a)) d
          (λ _ q. tt) (λ _ q. r.shown d i t q);
    }
      where
        V : ℕ → Told
        V = put s.view a (after (step.Unlock h sp) (s.view a))

        spent_after : ℕ → ℕ
        spent_after = put s.spent h (raised_spent sp (s.spent h))

        old : (i : ℕ) → i ≢ h → s.holder i ≡ true → (d : ℕ) × ((V d).hold.head ≡ Some i)
        old i ne q =
            let d = r.holder i q in (
              d.0,
              put_at (λ (v : Told). v.hold.head ≡ Some i) s.view a (after (step.Unlock h sp) (s.view a)) d.0
                  (λ same. absurd
                  (ne (sym (same_head h i (sym held ∙ (ap (λ (j : ℕ). (s.view j).hold.head) (sym same) ∙ d.1))))))
                  (λ _. d.1),
            )

    pub unlocks : (b : Book) → IsLawfulTable s → Fits (s.task a) b → MaySpend (s.view a) sp → b.differs ≡ nothing
        → HandsOn s a (step.Unlock h sp)
        → KeepsLaw s a (place.Head h) (head_word false (raised_spent sp (s.spent h))) (step.Unlock h sp) b
    unlocks b l f may clear hands = record {
      allowed = (held, may);
      stored = hands;
      orderly = clear;
      places = still_places s a (step.Unlock h sp) refl refl;
      links = unlock_links;
      leaves = head_leaves s a h false (raised_spent sp (s.spent h)) (with_head None (given h) b) _ _ l
          (fits_head (s.task a) b None (given h) f) (raised_small sp (s.spent h) (l.spent h));
    }
