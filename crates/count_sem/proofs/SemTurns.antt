-- Each step keeps the account of a semaphore's permits.
use Rattle.std.proofs.Common.{refl, sym, ◌∙◌, ap, subst, arith, inl, inr}
use Rattle.std.proofs.lemmas.Bool.Decides.{eqb_tells}
use Rattle.std.specs.Prelude.{ℕ, ◌≡◌, ◌≢◌, ◌+◌, ◌<◌, ◌≤◌, ◌⊎◌, Bool, true, false, not, ◌&&◌, ◌==◌, if◌then◌else◌}
use Rattle.std.specs.Prelude.{Option, Some, None}
use Rattle.wait_model.specs.{declared.layout.TheConstants.TASKS, declared.layout.TheConstants.ENTRIES}
use Rattle.wait_model.specs.{declared.steps.Step.Step, declared.watches.Aim.Aim, declared.watches.Entry.Entry}
use Rattle.wait_model.specs.{Facts.Agrees, Facts.Kept, Fold.after, Fold.holding, Functions.put, Rows.Allowed, Runs.own}
use Rattle.wait_model.specs.{Tables.Table, Tables.next, Totals.sum_below, Words.entry_of, Words.flag}
use Rattle.wait_model.specs.Permits.{Dealt, HandsOnOf, MayGiveBack, ShowsNobody, deals, done_head, is_in, is_seen}
use Rattle.wait_model.specs.Permits.{shows_at}
use Rattle.wait_model.specs.PermitFacts.{AreViewsTold, IsExact, dealt_in, is_settled}
use Rattle.wait_model.specs.Views.{Hold, Look, View, look_at, off, shown, unseen}
use Rattle.wait_model.specs.Watches.{head_of, owner, stands_at}
use Rattle.wait_model.specs.declared.steps.Step.TheVariants as step
use Rattle.wait_model.specs.declared.watches.Watch.TheVariants as watch
use Rattle.wait_model.proofs.{PermitLaws.PermitQueues.owner_small, StepLaws.UnlockSteps.unlock_hold}
use Rattle.wait_model.proofs.Functions.{put_at, put_other, put_same}
use Rattle.wait_model.proofs.PermitLaws.OwnTurns.{clash, held_is, in_is, out}
use Rattle.wait_model.proofs.PermitLaws.PermitTurns.{due, due_settled, due_standing, look_seen, seen_of, seen_shows}
use Rattle.wait_model.proofs.PermitLaws.PermitTurns.{unsettled}
use Rattle.count_sem.specs.{declared.ups.TheConstants.FULL, SemPermits.IsRaise, SemPermits.IsSemStep}
use Rattle.count_sem.proofs.SemSums.{due_of, due_then, given_sum, gives, owed_moved, owed_other, owed_own, owed_to}
use Rattle.count_sem.proofs.SemSums.{sums_next, takes}

stands_of : (o : Option Entry) (e : Entry) (h : ℕ) → o ≡ Some e → stands_at o h ≡ (head_of e.watch == h)
stands_of o e h q = ap (λ (p : Option Entry). stands_at p h) q

-- a place that is written anew and stood no more than before at the head
frame_put : (f : ℕ → Option Entry) (y h : ℕ) (o : Option Entry) → stands_at o h ≡ stands_at (f y) h → (z : ℕ)
    → stands_at (put f y o z) h ≡ stands_at (f z) h
frame_put f y h o same z = put_at (λ (p : Option Entry). stands_at p h ≡ stands_at (f z) h) f y o z
    (λ q. same ∙ ap (λ (i : ℕ). stands_at (f i) h) (sym q)) (λ _. refl)

-- the account
pub record IsPaid (s : Table) (d : ℕ) : Type 0 where
  pub none : (x : ℕ) → stands_at (s.entry x) (done_head d) ≡ true → s.words.dones d ≡ 0
  pub total : given_sum s d ≡ sum_below TASKS (owed_to s d) + s.words.dones d
  pub below : s.words.dones d ≤ FULL

module _ (s : Table) (a : ℕ) (d : ℕ) (told : AreViewsTold s) (lt : a < TASKS) (k : Kept s) (x : IsExact s d)
    (p : IsPaid s d) where
  abbrev v : View
  v = s.view a

  abbrev w : Dealt
  w = dealt_in s d a

  abbrev h : ℕ
  h = done_head d

  abbrev stood : ℕ → Bool
  stood y = stands_at (s.entry y) h

  abbrev now : ℕ
  now = s.words.dones d

  -- what a step leaves that takes nobody off at the head and queues nobody there
  record IsTurn (e : Step) : Type 0 where
    frame : (y : ℕ) → stands_at ((next s a e).entry y) h ≡ stood y
    moved : gives s a e d told + (due_of s d a + now) ≡ (takes s a e d told + due_then s a e d told)
        + (next s a e).words.dones d
    none : (y : ℕ) → stood y ≡ true → (next s a e).words.dones d ≡ 0
    below : (next s a e).words.dones d ≤ FULL

  turned : (e : Step) → IsTurn e → IsPaid (next s a e) d
  turned e t = record {
    none = λ y st. t.none y (sym (t.frame y) ∙ st);
    total = sums_next s a e d told lt a lt (λ i ne. owed_other s a e d told i ne (t.frame (own i)))
        (let m = t.moved in let o = owed_own s a e d told in omega (arith, m, o)) p.total;
    below = t.below;
  }

  -- a step that leaves the count, and neither gives nor takes
  record IsQuiet (e : Step) : Type 0 where
    frame : (y : ℕ) → stands_at ((next s a e).entry y) h ≡ stood y
    done : (next s a e).words.dones d ≡ now
    gave : gives s a e d told ≡ 0
    took : takes s a e d told ≡ 0
    due : due_then s a e d told ≡ due_of s d a

  stays : (e : Step) → IsQuiet e → IsPaid (next s a e) d
  stays e q = turned e (record {
    frame = q.frame;
    moved = let g = q.gave in let t = q.took in let u = q.due in let n = q.done in omega (arith, g, t, u, n);
    none = λ y st. q.done ∙ p.none y st;
    below = let n = q.done in let b = p.below in omega (arith, n, b);
  })

  due_same : (e : Step) → (deals d (own a) v w e).left ≡ w.left
      → is_settled d (own a) (after e v) ≡ is_settled d (own a) v
      → stands_at ((next s a e).entry (own a)) h ≡ stood (own a) → due_then s a e d told ≡ due_of s d a
  due_same e left settled stands =
      ap (λ (l : Bool). due l (is_settled d (own a) (after e v)) (stands_at ((next s a e).entry (own a)) h)) left
      ∙ ap (λ (b : Bool). due w.left b (stands_at ((next s a e).entry (own a)) h)) settled
      ∙ ap (λ (b : Bool). due w.left (is_settled d (own a) v) b) stands

  settled_same : (e : Step) → (after e v).hold.head ≡ v.hold.head → (after e v).hold.book ≡ v.hold.book
      → is_settled d (own a) (after e v) ≡ is_settled d (own a) v
  settled_same e head book = ap (λ (o : Option ℕ). holding o h && is_seen ((after e v).hold.book (own a))) head
      ∙ ap (λ (b : ℕ → Look). holding v.hold.head h && is_seen (b (own a))) book

  -- a step that leaves entries, counts, the hold's head and its book as they were
  quietly : (e : Step) → (next s a e).entry ≡ s.entry → (next s a e).words.dones d ≡ now
      → (after e v).hold.head ≡ v.hold.head → (after e v).hold.book ≡ v.hold.book
      → (deals d (own a) v w e).left ≡ w.left → gives s a e d told ≡ 0 → takes s a e d told ≡ 0
      → IsPaid (next s a e) d
  quietly e entry done head book left gave took = stays e (record {
    frame = λ y. ap (λ (f : ℕ → Option Entry). stands_at (f y) h) entry;
    done = done;
    gave = gave;
    took = took;
    due = due_same e left (settled_same e head book)
        (ap (λ (f : ℕ → Option Entry). stands_at (f (own a)) h) entry);
  })

  -- a lock
  unlooked : (b : Bool) → (b && false) ≡ false
  unlooked true = refl
  unlooked false = refl

  lock_paid : (i : ℕ) (aim : Option Aim) (f : ℕ) → v.hold.head ≡ None → IsPaid (next s a (step.Lock i aim f)) d
  lock_paid i aim f none = stays (step.Lock i aim f) (record {
    frame = λ y. refl;
    done = refl;
    gave = refl;
    took = refl;
    due = due_same (step.Lock i aim f) refl
        (unlooked (holding (Some i) h)
        ∙ sym (ap (λ (o : Option ℕ). holding o h && is_seen (v.hold.book (own a))) none)) refl;
  })

  -- an unlock
  module _ (i : ℕ) (sp : Bool) (al : v.hold.head ≡ Some i) where
    abbrev gives_back : Step
    gives_back = step.Unlock i sp

    unsettled_then : is_settled d (own a) (after gives_back v) ≡ false
    unsettled_then = ap (λ (b : Hold). holding b.head h && is_seen (b.book (own a))) (unlock_hold v v.walk sp)

    other_unlock : (i == h) ≡ false → IsPaid (next s a gives_back) d
    other_unlock ne = stays gives_back (record {
      frame = λ y. refl;
      done = refl;
      gave = refl;
      took = refl;
      due = due_same gives_back (rw ne refl) (unsettled_then ∙ sym (unsettled s a d told k x away (own a))) refl;
    })
      where
        away : is_in d v ≡ false
        away = held_is v.hold.head h i al ∙ ne

    module _ (is : i ≡ h) (eq : (i == h) ≡ true) (seen : w.left ≡ true → v.hold.book (own a) ≢ unseen) where
      here : is_in d v ≡ true
      here = held_is v.hold.head h i al ∙ eq

      before : (l : Bool) → w.left ≡ l → due l (is_settled d (own a) v) (stood (own a)) ≡ 0
      before false q = refl
      before true q = ap (λ (b : Bool). due true (b && is_seen (v.hold.book (own a))) (stood (own a))) here
          ∙ (ap (λ (b : Bool). due true b (stood (own a))) (seen_of (v.hold.book (own a)) (seen q))
          ∙ due_settled true (stood (own a)))

      later : (l : Look) → Agrees h l (s.entry (own a)) → due (shows_at h l) false (stood (own a)) ≡ 0
      later unseen ag = refl
      later off ag = refl
      later (shown e) ag = ap (λ (b : Bool). due (head_of e.watch == h) false b) (stands_of (s.entry (own a)) e h ag.0)
          ∙ none (head_of e.watch == h)
        where
          none : (b : Bool) → due b false b ≡ 0
          none true = refl
          none false = refl
      later l ag = refl

      after_it : due_then s a gives_back d told ≡ 0
      after_it = ap (λ (b : Bool). due (if b then shows_at h (v.hold.book (own a)) else w.left)
          (is_settled d (own a) (after gives_back v)) (stood (own a))) eq
          ∙ (ap (λ (b : Bool). due (shows_at h (v.hold.book (own a))) b (stood (own a))) unsettled_then
          ∙ later (v.hold.book (own a)) ((k.facts.views a).hold.agrees h (own a) (al ∙ ap (λ (j : ℕ). Some j) is)))

      own_unlock : IsPaid (next s a gives_back) d
      own_unlock = stays gives_back (record {
        frame = λ y. refl;
        done = refl;
        gave = refl;
        took = refl;
        due = after_it ∙ sym (before w.left refl);
      })

    unlock_paid : (i ≡ h → MayGiveBack d (own a) v w) → IsPaid (next s a gives_back) d
    unlock_paid on = elim (eqb_tells i h) [
      | inl q ↦ own_unlock q.1 q.0 (on q.1).0
      | inr q ↦ other_unlock q.0
    ]

  -- a look at an entry word
  module _ (y f : ℕ) (al : entry_of f ≡ s.entry y) where
    abbrev looked : Step
    looked = step.Saw y f

    abbrev seen_then : ℕ → Bool
    seen_then z = is_seen (put v.hold.book y (look_at v.hold.head (entry_of f)) z)

    away_look : (is_in d v && (y == own a)) ≡ false → is_settled d (own a) (after looked v) ≡ is_settled d (own a) v
        → IsPaid (next s a looked) d
    away_look ne settled = stays looked (record {
      frame = λ z. refl;
      done = refl;
      gave = refl;
      took = ap (λ (b : Bool). flag (b && (w.left && (not (is_seen (v.hold.book (own a)))
          && not (stands_at (entry_of f) h))))) ne;
      due = due_same looked refl settled refl;
    })

    here_look : is_in d v ≡ true → y ≡ own a → (y == own a) ≡ true → IsPaid (next s a looked) d
    here_look inside is eq = turned looked (record {
      frame = λ z. refl;
      moved =
          let now_due = found in
          let then_due : due_then s a looked d told ≡ 0 = ap (λ (b : Bool). due w.left b (stood (own a))) settled
          ∙ due_settled w.left (stood (own a)) in
          omega (arith, now_due, then_due);
      none = p.none;
      below = p.below;
    })
      where
        settled : is_settled d (own a) (after looked v) ≡ true
        settled = ap (λ (b : Bool). b && seen_then (own a)) inside
            ∙ ap (λ (j : ℕ). seen_then j) (sym is)
            ∙ ap is_seen (put_same v.hold.book y (look_at v.hold.head (entry_of f)))
            ∙ ap (λ (o : Option ℕ). is_seen (look_at o (entry_of f))) (in_is v.hold.head h inside)
            ∙ look_seen h (entry_of f)

        found : takes s a looked d told ≡ due_of s d a
        found = ap (λ (b : Bool). flag ((b && (y == own a)) && (w.left && (not (is_seen (v.hold.book (own a)))
            && not (stands_at (entry_of f) h))))) inside
            ∙ ap (λ (b : Bool). flag (b && (w.left && (not (is_seen (v.hold.book (own a)))
            && not (stands_at (entry_of f) h))))) eq
            ∙ ap (λ (o : Option Entry). due w.left (is_seen (v.hold.book (own a))) (stands_at o h)) (al ∙ ap s.entry is)
            ∙ ap (λ (b : Bool). due w.left (b && is_seen (v.hold.book (own a))) (stood (own a))) (sym inside)

    saw_paid : IsPaid (next s a looked) d
    saw_paid = by (is_in d v) refl (eqb_tells y (own a))
      where
        by : (t : Bool) → is_in d v ≡ t
            → (((y == own a) ≡ true) × (y ≡ own a)) ⊎ (((y == own a) ≡ false) × (y ≢ own a)) → IsPaid (next s a looked)
            d
        by true q (inl r) = here_look q r.1 r.0
        by true q (inr r) = away_look (rw (q, r.0) refl) (ap (λ (l : Look). is_in d v && is_seen l)
            (put_other v.hold.book y (look_at v.hold.head (entry_of f)) (own a) (λ z. r.1 (sym z))))
        by false q r = away_look (ap (λ (b : Bool). b && (y == own a)) q)
            (ap (λ (b : Bool). b && seen_then (own a)) q
            ∙ sym (ap (λ (b : Bool). b && is_seen (v.hold.book (own a))) q))

  -- an add
  module _ (y : ℕ) (e : Entry) (mine : owner y ≡ a) (free : s.entry y ≡ None)
      (held : v.hold.head ≡ Some (head_of e.watch)) (book : v.hold.book y ≡ off) where
    abbrev queued : Step
    queued = step.Queue y e

    other_queue : (head_of e.watch == h) ≡ false → IsPaid (next s a queued) d
    other_queue ne = stays queued (record {
      frame = frame_put s.entry y h (Some e) (ne ∙ sym (ap (λ (o : Option Entry). stands_at o h) free));
      done = refl;
      gave = refl;
      took = refl;
      due = due_same queued refl
          (ap (λ (b : Bool). b && is_seen (put v.hold.book y (shown e) (own a))) away
          ∙ sym (unsettled s a d told k x away (own a)))
          (frame_put s.entry y h (Some e) (ne ∙ sym (ap (λ (o : Option Entry). stands_at o h) free)) (own a));
    })
      where
        away : is_in d v ≡ false
        away = held_is v.hold.head h (head_of e.watch) held ∙ ne

    own_queue : (head_of e.watch == h) ≡ true → y ≡ own a → w.count ≡ Some 0 → IsPaid (next s a queued) d
    own_queue eq is known = record {
      none = λ z st. zero;
      total = sums_next s a queued d told lt a lt
          (λ i ne. owed_other s a queued d told i ne (ap (λ (o : Option Entry). stands_at o h)
          (put_other s.entry y (Some e) (own i) (λ q. ne (same_owner i (q ∙ is))))))
          (let o = owed_own s a queued d told in
          let t = due_then_none in let b = due_none in omega (arith, o, t, b)) p.total;
      below = p.below;
    }
      where
        inside : is_in d v ≡ true
        inside = held_is v.hold.head h (head_of e.watch) held ∙ eq

        zero : now ≡ 0
        zero = x.known a 0 known

        same_owner : (i : ℕ) → own i ≡ own a → i ≡ a
        same_owner i q = omega (arith, q)

        due_then_none : due_then s a queued d told ≡ 0
        due_then_none = ap (λ (b : Bool). due w.left (b && is_seen (put v.hold.book y (shown e) (own a)))
            (stands_at (put s.entry y (Some e) (own a)) h)) inside
            ∙ (ap (λ (l : Look). due w.left (is_seen l) (stands_at (put s.entry y (Some e) (own a)) h))
            (ap (put v.hold.book y (shown e)) (sym is) ∙ put_same v.hold.book y (shown e))
            ∙ due_settled w.left (stands_at (put s.entry y (Some e) (own a)) h))

        due_none : due_of s d a ≡ 0
        due_none = ap (λ (b : Bool). due w.left (b && is_seen (v.hold.book (own a))) (stood (own a))) inside
            ∙ (ap (λ (l : Look). due w.left (is_seen l) (stood (own a))) (ap v.hold.book (sym is) ∙ book)
            ∙ due_settled w.left (stood (own a)))

    queue_paid : (head_of e.watch ≡ h → (y ≡ own a) × (w.count ≡ Some 0)) → IsPaid (next s a queued) d
    queue_paid on = elim (eqb_tells (head_of e.watch) h) [
      | inl q ↦ own_queue q.0 (on q.1).0 (on q.1).1
      | inr q ↦ other_queue q.0
    ]

  -- a removal
  module _ (y : ℕ) (e : Entry) (stands : s.entry y ≡ Some e) (held : v.hold.head ≡ Some (head_of e.watch)) where
    abbrev taken : Step
    taken = step.Unqueue y

    other_unqueue : (head_of e.watch == h) ≡ false → IsPaid (next s a taken) d
    other_unqueue ne = stays taken (record {
      frame = frame_put s.entry y h None (sym (stands_of (s.entry y) e h stands ∙ ne));
      done = refl;
      gave = ap (λ (b : Bool). flag (b && not (y == own a))) away;
      took = refl;
      due = due_same taken refl
          (ap (λ (b : Bool). b && is_seen (put v.hold.book y off (own a))) away
          ∙ sym (unsettled s a d told k x away (own a)))
          (frame_put s.entry y h None (sym (stands_of (s.entry y) e h stands ∙ ne)) (own a));
    })
      where
        away : is_in d v ≡ false
        away = held_is v.hold.head h (head_of e.watch) held ∙ ne

    module _ (eq : (head_of e.watch == h) ≡ true) where
      inside : is_in d v ≡ true
      inside = held_is v.hold.head h (head_of e.watch) held ∙ eq

      stood_there : stood y ≡ true
      stood_there = stands_of (s.entry y) e h stands ∙ eq

      gone : stands_at (put s.entry y None y) h ≡ false
      gone = ap (λ (o : Option Entry). stands_at o h) (put_same s.entry y None)

      first : y ≡ own (owner y)
      first = (x.there y stood_there).0

      elsewhere_same : (z : ℕ) → z ≢ y → stands_at (put s.entry y None z) h ≡ stood z
      elsewhere_same z ne = ap (λ (o : Option Entry). stands_at o h) (put_other s.entry y None z ne)

      none_then : (z : ℕ) → stands_at (put s.entry y None z) h ≡ true → now ≡ 0
      none_then z st = p.none y stood_there

      -- the own one
      mine_off : owner y ≡ a → IsPaid (next s a taken) d
      mine_off mine = record {
        none = none_then;
        total = sums_next s a taken d told lt a lt
            (λ i ne. owed_other s a taken d told i ne (elsewhere_same (own i) (λ q. ne (same_owner i (q ∙ at_a)))))
            (let o = owed_own s a taken d told in
            let t = due_then_none in
            let b = due_none in
            let g = gave_none in omega (arith, o, t, b, g)) p.total;
        below = p.below;
      }
        where
          at_a : y ≡ own a
          at_a = first ∙ ap own mine

          same_owner : (i : ℕ) → own i ≡ own a → i ≡ a
          same_owner i q = omega (arith, q)

          gave_none : gives s a taken d told ≡ 0
          gave_none = ap (λ (b : Bool). flag (b && not (y == own a))) inside
              ∙ ap (λ (b : Bool). flag (not b)) (let q : (y == own a) ≡ true = grind (arith, at_a) in q)

          due_then_none : due_then s a taken d told ≡ 0
          due_then_none = ap (λ (b : Bool). due w.left (b && is_seen (put v.hold.book y off (own a)))
              (stands_at (put s.entry y None (own a)) h)) inside
              ∙ (ap (λ (l : Look). due w.left (is_seen l) (stands_at (put s.entry y None (own a)) h))
              (ap (put v.hold.book y off) (sym at_a) ∙ put_same v.hold.book y off)
              ∙ due_settled w.left (stands_at (put s.entry y None (own a)) h))

          due_none : due_of s d a ≡ 0
          due_none = ap (λ (b : Bool). due w.left (is_settled d (own a) v) b)
              (ap (λ (j : ℕ). stood j) (sym at_a) ∙ stood_there)
              ∙ due_standing w.left (is_settled d (own a) v)

      -- another's: its task is given a permit
      others_off : owner y ≢ a → IsPaid (next s a taken) d
      others_off ne = record {
        none = none_then;
        total = sums_next s a taken d told lt (owner y) (owner_small y (k.facts.named y e stands)) others
            (let o = owed_moved s a taken d told (owner y) ne in
            let t = due_later in
            let b = due_before in
            let g = gave_one in omega (arith, o, t, b, g)) p.total;
        below = p.below;
      }
        where
          own_of : (i : ℕ) → own i ≡ y → i ≡ owner y
          own_of i r = let q : own i ≡ own (owner y) = r ∙ first in omega (arith, q)

          apart : own a ≢ y
          apart q = ne (sym (own_of a q))

          gave_one : gives s a taken d told ≡ 1
          gave_one = ap (λ (b : Bool). flag (b && not (y == own a))) inside
              ∙ ap (λ (b : Bool). flag (not b))
              (elim (eqb_tells y (own a)) as (λ _. (y == own a) ≡ false) [
                | inl q ↦ absurd (apart (sym q.1))
                | inr q ↦ q.0
              ])

          mine_same : owed_to (next s a taken) d a ≡ owed_to s d a
          mine_same =
              let o = owed_own s a taken d told in
              let u : due_then s a taken d told ≡ due_of s d a = due_same taken refl
              (ap (λ (l : Look). is_in d v && is_seen l) (put_other v.hold.book y off (own a) apart))
              (elsewhere_same (own a) apart) in
              omega (arith, o, u)

          others : (i : ℕ) → i ≢ owner y → owed_to (next s a taken) d i ≡ owed_to s d i
          others i apart_too = elim (eqb_tells i a) [
            | inl q ↦ subst (λ (j : ℕ). owed_to (next s a taken) d j ≡ owed_to s d j) (sym q.1) mine_same
            | inr q ↦ owed_other s a taken d told i q.1 (elsewhere_same (own i) (λ r. apart_too (own_of i r)))
          ]

          away : is_in d (s.view (owner y)) ≡ false
          away = out s a taken d told lt k x (owner y) ne inside

          left_there : (dealt_in s d (owner y)).left ≡ true
          left_there = elim (x.there y stood_there).1 [
            | inl q ↦ absurd (clash (is_settled d y (s.view (owner y))) q
                (ap (λ (b : Bool). b && is_seen ((s.view (owner y)).hold.book y)) away))
            | inr q ↦ q
          ]

          due_before : due_of s d (owner y) ≡ 0
          due_before = ap (λ (b : Bool). due (dealt_in s d (owner y)).left
              (is_settled d (own (owner y)) (s.view (owner y))) b)
              (ap (λ (j : ℕ). stood j) (sym first) ∙ stood_there)
              ∙ due_standing (dealt_in s d (owner y)).left (is_settled d (own (owner y)) (s.view (owner y)))

          due_later : due (dealt_in s d (owner y)).left (is_settled d (own (owner y)) (s.view (owner y)))
              (stands_at (put s.entry y None (own (owner y))) h) ≡ 1
          due_later = ap (λ (l : Bool). due l (is_settled d (own (owner y)) (s.view (owner y)))
              (stands_at (put s.entry y None (own (owner y))) h)) left_there
              ∙ (ap (λ (b : Bool). due true (b && is_seen ((s.view (owner y)).hold.book (own (owner y))))
              (stands_at (put s.entry y None (own (owner y))) h)) away
              ∙ ap (λ (b : Bool). due true false b)
              (ap (λ (j : ℕ). stands_at (put s.entry y None j) h) (sym first) ∙ gone))

    unqueue_paid : IsPaid (next s a taken) d
    unqueue_paid = elim (eqb_tells (head_of e.watch) h) [
      | inl q ↦ elim (eqb_tells (owner y) a) [
        | inl r ↦ mine_off q.0 r.1
        | inr r ↦ others_off q.0 r.1
      ]
      | inr q ↦ other_unqueue q.0
    ]

  -- a store of the count
  module _ (c n r : ℕ) (read : r ≡ s.words.dones c) (held : v.hold.head ≡ Some (done_head c)) where
    same_cell : c ≡ d → r ≡ now
    same_cell is = read ∙ ap s.words.dones is

    stored : c ≡ d → put s.words.dones c n d ≡ n
    stored is = ap (put s.words.dones c n) (sym is) ∙ put_same s.words.dones c n

    other_cell : c ≢ d → put s.words.dones c n d ≡ now
    other_cell ne = put_other s.words.dones c n d (λ q. ne (sym q))

    nobody : (y : ℕ) → c ≡ d → ShowsNobody h v → stood y ≡ true → ⊥
    nobody y is none st =
        let it = none y (standing_index (s.entry y) refl st) in
        clash (shows_at h (v.hold.book y))
        (seen_shows h (v.hold.book y) (s.entry y) ((k.facts.views a).hold.agrees h y (held ∙ ap (λ (j : ℕ). Some
        (done_head j)) is)) it.0 st) it.1
      where
        standing_index : (o : Option Entry) → s.entry y ≡ o → stands_at o h ≡ true → y < ENTRIES
        standing_index None q st = absurd (cc)
        standing_index (Some e) q st = k.facts.named y e q

    abbrev raises : Step
    raises = step.Publish (watch.Done c) n r

    raise_paid : ((c == d) ≡ true → IsRaise d v n r) → IsPaid (next s a raises) d
    raise_paid may = elim (eqb_tells c d) [
      | inl q ↦
          let it = may q.0 in
          turned raises (record {
            frame = λ y. refl;
            moved =
                let g : gives s a raises d told ≡ 1 = ap flag q.0 in
                let u : due_then s a raises d told ≡ due_of s d a = due_same raises refl refl refl in
                let one = it.one in
                let same = same_cell q.1 in
                let to = stored q.1 in
                omega (arith, g, u, one, same, to);
            none = λ y st. absurd (nobody y q.1 it.nobody st);
            below =
                let b = it.below in
                let one = it.one in
                let to = stored q.1 in
                omega (arith, b, one, to);
          })
      | inr q ↦ quietly raises refl (other_cell q.1) refl refl refl (ap flag q.0) refl
    ]

    abbrev lowers : Step
    lowers = step.Consume (watch.Done c) n r

    lower_paid : ((c == d) ≡ true → n + 1 ≡ r) → IsPaid (next s a lowers) d
    lower_paid may = elim (eqb_tells c d) [
      | inl q ↦
          let one = may q.0 in
          let same = same_cell q.1 in
          let to = stored q.1 in
          turned lowers (record {
            frame = λ y. refl;
            moved =
                let g : takes s a lowers d told ≡ 1 = ap flag q.0 in
                let u : due_then s a lowers d told ≡ due_of s d a = due_same lowers refl refl refl in
                omega (arith, g, u, one, same, to);
            none = λ y st. let zero = p.none y st in absurd (omega (arith, one, same, zero));
            below = let b = p.below in omega (arith, b, one, same, to);
          })
      | inr q ↦ quietly lowers refl (other_cell q.1) refl refl refl refl (ap flag q.0)
    ]

  pub paid_step : (e : Step) → Allowed s a e → HandsOnOf d a v w e → IsSemStep d v e → IsPaid (next s a e) d
  paid_step (step.Lock i aim f) al on sem = lock_paid i aim f al.1
  paid_step (step.Unlock i sp) al on sem = unlock_paid i sp al.0 on
  paid_step (step.Saw y f) al on sem = saw_paid y f al
  paid_step (step.Queue y e) al on sem = queue_paid y e al.0 al.2 al.3 al.5 on
  paid_step (step.Unqueue y) al on sem = unqueue_paid y al.0 al.1 al.2
  paid_step (step.Publish (watch.Done c) n r) al on sem = raise_paid c n r al.2 al.0 sem
  paid_step (step.Consume (watch.Done c) n r) al on sem = lower_paid c n r al.2 al.1 sem
  paid_step (step.Load (watch.Done c) r) al on sem =
      quietly (step.Load (watch.Done c) r) refl refl refl refl refl refl refl
  paid_step (step.Load (watch.Plain c) r) al on sem =
      quietly (step.Load (watch.Plain c) r) refl refl refl refl refl refl refl
  paid_step (step.Load (watch.Bit c b) r) al on sem =
      quietly (step.Load (watch.Bit c b) r) refl refl refl refl refl refl refl
  paid_step (step.Load (watch.Var c o) r) al on sem =
      quietly (step.Load (watch.Var c o) r) refl refl refl refl refl refl refl
  paid_step (step.Publish (watch.Plain c) n r) al on sem =
      quietly (step.Publish (watch.Plain c) n r) refl refl refl refl
      refl refl refl
  paid_step (step.Publish (watch.Bit c b) n r) al on sem =
      quietly (step.Publish (watch.Bit c b) n r) refl refl refl refl
      refl refl refl
  paid_step (step.Publish (watch.Var c o) n r) al on sem =
      quietly (step.Publish (watch.Var c o) n r) refl refl refl refl
      refl refl refl
  paid_step (step.Consume (watch.Plain c) n r) al on sem =
      quietly (step.Consume (watch.Plain c) n r) refl refl refl refl
      refl refl refl
  paid_step (step.Consume (watch.Bit c b) n r) al on sem =
      quietly (step.Consume (watch.Bit c b) n r) refl refl refl refl
      refl refl refl
  paid_step (step.Consume (watch.Var c o) n r) al on sem =
      quietly (step.Consume (watch.Var c o) n r) refl refl refl refl
      refl refl refl
  paid_step e al on sem = quietly e refl refl refl refl refl refl refl
