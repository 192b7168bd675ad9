-- The second entry is taken off where it is queued.
use Rattle.std.proofs.Common.{◌∙◌, ap, sym, refl, subst, inl}
use Rattle.std.specs.Prelude.{ℕ, ◌≡◌, ◌<◌, Bool, true, false, is_some, Option, Some, None}
use Rattle.wait_model.specs.{declared.layout.TheConstants.FIRST_DONE_HEAD, declared.watches.Entry.Entry}
use Rattle.wait_model.specs.{declared.watches.Watch.Watch, Programs.zero_answer, Watches.head_of}
use Rattle.wait_model.specs.declared.points.FinishPoint.TheVariants as finishing
use Rattle.wait_model.specs.declared.points.Next.TheVariants as next
use Rattle.wait_model.specs.declared.points.Point.TheVariants as at
use Rattle.wait_model.specs.declared.steps.Step.TheVariants as step
use Rattle.wait_rule.specs.declared.journal.Item.TheVariants as item
use Rattle.wait_rule.specs.{HandedPermits.OwesNoPermit, Known.Known}
use Rattle.wait_rule.specs.Queues.{IsTold, MayUnqueue, at_head, index, saw, walk_of_hold}
use Rattle.wait_rule.specs.Says.{IsFree, added, stored_with, told_of, unlocked_with}
use Rattle.wait_rule.specs.Stays.{Carries, lock_change, only, take_off_change, unlock_change, with_entry}
use Rattle.wait_rule.specs.Transitions.{IsSeenAs, OnlyLooks, Program, by_step}
use Rattle.wait_rule.proofs.{KnownLaws.MemberBits.bit_looks, KnownLaws.StayingParts.owes_also}
use Rattle.wait_rule.proofs.{KnownLaws.StayingParts.owes_out, KnownLaws.Transitions.only_none}
use Rattle.wq_head.specs.Adds.{HasRemoved}
use Rattle.wq_head.specs.Holds.{HasLocked, HasUnlocked, IsHolding}
use Rattle.wq_head.proofs.{LockWaits.turn_looks, LockWaits.turn_of, PermitHeads.owes_low}
use Rattle.wait_class.specs.{Findings.saw_nothing, Findings.saw_entry as finds, Posts.Runs}
use Rattle.wait_class.proofs.Ground.Going.{runs_on, runs_one}
use Rattle.wait_event.specs.{PartSteps.part_change, Prepares.IsNoWaiter, Prepares.leave_change}
use Rattle.wait_event.proofs.{Finishing.watch_stored, PartSteps.part_of}
use Rattle.wait_event.proofs.Entering.{hold_carried, runs_lock, unlock_looks}
use Rattle.poll_wait.specs.Seconds.{HasLeftSecond, MayLeave, leave_program, second_of}
use Rattle.poll_wait.specs.SecondSteps.{HasSeenSecond, IsSecondAtHead, ParesSecond, SecondCarries}
use Rattle.poll_wait.proofs.Carrying.{carries_more, carries_on}
use Rattle.poll_wait.proofs.Joining.{none_found, own_second, seconds_on}
use Rattle.poll_wait.proofs.SecondLooks.{finds_second, owner_second, second_is, second_looks, second_shows, second_stored}

take_second : (a b : Known) → Carries (take_off_change (second_of a)) a b → SecondCarries a b
take_second a b c = part_of (with_entry (second_of a)) (λ x. x) (only (second_of a)) false (λ σ. σ) (second_of a) a b c
    (λ x other. other) (λ x o. owes_also (second_of a) x b (c.owes x o))

-- the removal in a hold
module _ (old mid : Known) (o : Option Entry) (own : HasSeenSecond old mid o) (held : IsHolding old) where
  pub pares_may : IsSecondAtHead old → is_some o ≡ true → (me : ℕ) → me ≡ old.view.number → MayUnqueue mid me 1
  pares_may home some me mine = by o refl some
    where
      by : (g : Option Entry) → o ≡ g → is_some g ≡ true → MayUnqueue mid me 1
      by None is some = absurd (cc)
      by (Some e) is hit = record {
        entry = e;
        shows = ap (λ (n : ℕ). (told_of mid).hold.book (index n 1)) mine
            ∙ second_shows old mid o own old.at held.locked held.told e is (home e (second_stored old mid o own e is));
        may = inl (mine ∙ sym own.carries.number);
      }

  pub pares_on : (new : Known) (b : Bool) → b ≡ is_some o → b ≡ true → (me : ℕ) → me ≡ old.view.number
      → HasRemoved mid new me 1 → ParesSecond old new true
  pares_on new b tells hit me mine r = record {
    seen = mid;
    entry = o;
    looked = own;
    is_found = sym hit ∙ tells;
    takes = subst (λ (n : ℕ). HasRemoved mid new n 1) (mine ∙ sym own.carries.number) r;
  }

  pub pares_off : (b : Bool) → b ≡ is_some o → b ≡ false → ParesSecond old mid false
  pares_off b tells miss = record { seen = mid; entry = o; looked = own; is_found = sym miss ∙ tells; takes = refl }

pub pares_second : (old new : Known) (found : Bool) → ParesSecond old new found → SecondCarries old new
pares_second old new true x = seconds_on old x.seen new (own_second old x.seen x.entry x.looked)
    (take_second x.seen new x.takes.carries)
pares_second old new false x = subst (λ (k : Known). SecondCarries old k) (sym x.takes)
    (own_second old x.seen x.entry x.looked)

pares_out : (old new : Known) (found : Bool) → ParesSecond old new found
    → (told_of new).bits.stored (second_of old) ≡ None
pares_out old new true x = ap (λ (n : ℕ). (told_of new).bits.stored (index n 1)) (sym x.looked.carries.number)
    ∙ x.takes.out
pares_out old new false x = ap (λ (k : Known). (told_of k).bits.stored (second_of old)) x.takes
    ∙ (second_is old x.seen x.entry x.looked ∙ none_found x.entry x.is_found)

-- the removal and the unlock as the rest of a finish
module _ (me : ℕ) (w : Watch) (a c new : Known) (held : IsHolding a) (home : IsSecondAtHead a) (mine : a.view.number ≡ me)
    (here : a.at ≡ head_of w) (z : HasUnlocked c new false) where
  abbrev g : Program
  g = leave_program me w

  abbrev x : ℕ
  x = index me 1

  mine_is : second_of a ≡ x
  mine_is = ap (λ (m : ℕ). index m 1) mine

  module _ (found : Bool) (y : ParesSecond a c found) where
    shows : (o : Option Entry) → y.entry ≡ o → IsSeenAs ((told_of y.seen).hold.book x) o
    shows o is = subst (λ (i : ℕ). IsSeenAs ((told_of y.seen).hold.book i) o) mine_is
        (finds_second a y.seen y.entry y.looked a.at held.locked held.told
        (λ e some. home e (second_stored a y.seen y.entry y.looked e some)) o is)

    looks : OnlyLooks a y.seen
    looks = second_looks a y.seen y.entry y.looked a.at held.locked

  by_taking : (y : ParesSecond a c true) (o : Option Entry) → y.entry ≡ o → true ≡ is_some o
      → Runs g a new (next.Go (at.Finish finishing.Queue false)) (next.Ends zero_answer)
  by_taking y None is some = absurd (cc)
  by_taking y (Some e) is some = runs_on g a c new (next.Go (at.Finish finishing.Queue false))
      (next.Go (at.Finish finishing.Unlock false)) (next.Ends zero_answer)
      (runs_one g (at.Finish finishing.Queue false) a y.seen c (finds (Some e)) (by_step (step.Unqueue x))
      (looks true y) (owner_second me) (tt, shows true y (Some e) is, refl)
      (subst (OnlyLooks (added y.seen (item.Made (step.Unqueue x))))
      (sym (y.takes.is ∙ ap (λ (n : ℕ). stored_with y.seen (step.Unqueue (index n 1))) (y.looked.carries.number ∙ mine)))
      (bit_looks y.seen (step.Unqueue x))))
      (runs_one g (at.Finish finishing.Unlock false) c c new saw_nothing (by_step (step.Unlock c.at false)) (only_none c)
      (y.takes.carries.at ∙ (y.looked.carries.at ∙ here), refl) (tt, tt, tt) (unlock_looks c new z.is))

  by_giving : (y : ParesSecond a c false) (o : Option Entry) → y.entry ≡ o → false ≡ is_some o
      → Runs g a new (next.Go (at.Finish finishing.Queue false)) (next.Ends zero_answer)
  by_giving y (Some e) is some = absurd (cc)
  by_giving y None is some = runs_one g (at.Finish finishing.Queue false) a y.seen new (finds None)
      (by_step (step.Unlock y.seen.at false)) (looks false y) (y.looked.carries.at ∙ here, refl)
      (tt, shows false y None is, tt)
      (unlock_looks y.seen new (z.is ∙ ap (λ (k : Known). unlocked_with k k.at false) y.takes))

  pub pared_runs : (found : Bool) → ParesSecond a c found
      → Runs g a new (next.Go (at.Finish finishing.Queue false)) (next.Ends zero_answer)
  pared_runs true y = by_taking y y.entry refl y.is_found
  pared_runs false y = by_giving y y.entry refl y.is_found

module _ (old k : Known) (o : Option Entry) (may : MayLeave old) (told : IsTold old) (h : HasSeenSecond old k o) where
  abbrev w : Watch
  w = watch_stored ((told_of old).bits.stored (second_of old))

  abbrev f : Program
  f = leave_program old.view.number w

  abbrev i : ℕ
  i = second_of old

  peek_is : k ≡ added old (item.Made (step.Peek i h.word))
  peek_is = h.is ∙ ap (λ (q : Option ℕ). added old (item.Made (saw q i h.word))) may.free.head

  looks_on : OnlyLooks (added old (item.Made (step.Peek i h.word))) k
  looks_on = subst (OnlyLooks (added old (item.Made (step.Peek i h.word)))) (sym peek_is)
      (only_none (added old (item.Made (step.Peek i h.word))))

  about : (e : Entry) → (told_of old).bits.stored i ≡ Some e → w ≡ e.watch
  about e some = ap watch_stored some

  shows_now : (told_of k).bits.stored (second_of k) ≡ o
  shows_now = ap (λ (n : ℕ). (told_of k).bits.stored (index n 1)) h.carries.number ∙ second_is old k o h

  free_now : IsFree k
  free_now = record { head = h.carries.head ∙ may.free.head; ticket = h.carries.ticket ∙ may.free.ticket }

  look_carried : Carries (record (leave_change i k.at) { to = with_entry i }) old k
  look_carried = carries_more (λ x. x) (λ x. x) (λ x. false) true (λ σ. σ) (λ m. m) (with_entry i) (with_entry i)
      (only i) old k h.carries (λ x other. refl) (λ x. h.carries.owes (with_entry i x))

  -- it is owed no more where it is off
  gone_carried : (new : Known) → Carries (record (leave_change i new.at) { to = with_entry i }) old new
      → (told_of new).bits.stored i ≡ None → Carries (leave_change i new.at) old new
  gone_carried new c out = carries_more (with_entry i) (with_entry i) (only i) true (λ σ. σ) (λ _. new.at) (with_entry i)
      (λ x. x) (only i) old new c (λ x other. other) (λ x owed. owes_out i x new out (c.owes x owed))

  -- it was off
  module _ (none : o ≡ None) where
    pub leave_off : HasLeftSecond old k
    leave_off = record {
      watch = w;
      about = about;
      runs = runs_one f (at.Finish finishing.Look false) old old k (finds None) (by_step (step.Peek i h.word))
          (only_none old) refl (sym none ∙ h.reads, tt, tt) looks_on;
      up = h.carries.awake ∙ may.up;
      free = free_now;
      out = shows_now ∙ none;
    }

    pub off_carried : Carries (leave_change i k.at) old k
    off_carried = gone_carried k look_carried (second_is old k o h ∙ none)

  -- it is queued: its head is locked, and it is taken off if it still stands there
  module _ (e : Entry) (some : o ≡ Some e) where
    was : (told_of old).bits.stored i ≡ Some e
    was = second_stored old k o h e some

    its_watch : w ≡ e.watch
    its_watch = about e was

    pub leave_low : head_of e.watch < FIRST_DONE_HEAD
    leave_low = subst IsNoWaiter was may.home

    pub leave_free : IsFree k
    leave_free = free_now

    pub leave_up : k.book.awake ≡ true
    leave_up = h.carries.awake ∙ may.up

    module _ (a : Known) (l : HasLocked k a (head_of e.watch) (walk_of_hold (head_of e.watch) None))
        (one : Carries (lock_change (head_of e.watch)) k a) where
      abbrev here : ℕ
      here = head_of e.watch

      number : a.view.number ≡ old.view.number
      number = one.number ∙ h.carries.number

      pub leave_home : IsSecondAtHead a
      leave_home d stands =
          let now : (told_of a).bits.stored (second_of a) ≡ Some e =
          ap (λ (n : ℕ). (told_of a).bits.stored (index n 1)) one.number ∙ (one.stored (second_of k) refl refl
          ∙ (shows_now ∙ some)) in
          let same : Some e ≡ Some d = sym now ∙ stands in
          let it : e ≡ d = cc in
          ap (λ (x : Entry). head_of x.watch) (sym it) ∙ sym one.at

      pub leave_owes : (c : Known) → c.at ≡ a.at → OwesNoPermit c
      leave_owes c at_a = owes_low c here (at_a ∙ one.at) leave_low

      abbrev turn : Known
      turn = turn_of k a here (walk_of_hold here None) l

      abbrev locked : Known
      locked = at_head here (added turn (item.Made (step.Lock here (walk_of_hold here None) l.found)))

      locks : Runs f k a (next.Go (at.Finish finishing.Lock false)) (next.Go (at.Finish finishing.Queue false))
      locks = runs_lock f (next.Go (at.Finish finishing.Lock false)) (next.Go (at.Finish finishing.Queue false)) k a here l
          (runs_one f (at.Finish finishing.Lock false) k turn locked saw_nothing
          (by_step (step.Lock here (walk_of_hold here None) l.found)) (turn_looks k a here (walk_of_hold here None) l)
          (ap head_of (sym its_watch), ap (λ (n : ℕ). walk_of_hold n None) (ap head_of (sym its_watch))) (tt, tt, tt)
          (only_none locked))

      module _ (held : IsHolding a) (c : Known) (found : Bool) (y : ParesSecond a c found) (new : Known)
          (z : HasUnlocked c new false) (three : Carries unlock_change c new) where
        p : SecondCarries a c
        p = pares_second a c found y

        out_now : (told_of new).bits.stored (second_of a) ≡ None
        out_now = three.stored (second_of a) refl refl ∙ pares_out a c found y

        pub leave_on : HasLeftSecond old new
        leave_on = record {
          watch = w;
          about = about;
          runs = runs_on f old k new (next.Go (at.Finish finishing.Look false))
              (next.Go (at.Finish finishing.Lock false)) (next.Ends zero_answer)
              (runs_one f (at.Finish finishing.Look false) old old k (finds (Some e)) (by_step (step.Peek i h.word))
              (only_none old) refl (sym some ∙ h.reads, tt, tt) looks_on)
              (runs_on f k a new (next.Go (at.Finish finishing.Lock false))
              (next.Go (at.Finish finishing.Queue false)) (next.Ends zero_answer) locks
              (pared_runs old.view.number w a c new held leave_home number (one.at ∙ ap head_of (sym its_watch)) z found
              y));
          up = three.awake ∙ (p.awake ∙ (one.awake ∙ (h.carries.awake ∙ may.up)));
          free = z.free;
          out = ap (λ (n : ℕ). (told_of new).bits.stored (index n 1)) (three.number ∙ p.number) ∙ out_now;
        }

        held_none : (told_of k).hold.head ≡ None
        held_none = h.carries.hold ∙ (told.head ∙ may.free.head)

        a_is : second_of a ≡ i
        a_is = ap (λ (n : ℕ). index n 1) number

        pub on_carried : Carries (leave_change i new.at) old new
        on_carried = gone_carried new
            (carries_on (with_entry i) (with_entry i) (with_entry i) (only i) (λ σ. σ) (λ σ. σ) (λ _. k.at) (λ _. new.at)
            old k new look_carried
            (hold_carried (with_entry i) (with_entry i) (only i) true k a c new free_now held_none here one
            (subst (λ (n : ℕ). Carries (part_change n (λ σ. σ)) a c) a_is p) three))
            (subst (λ (n : ℕ). (told_of new).bits.stored n ≡ None) a_is out_now)
