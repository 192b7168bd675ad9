-- Finishes: the store of the state, the look at the own entry, and the hold in which it is taken off.
use Rattle.std.proofs.Common.{◌∙◌, ap, sym, refl, subst}
use Rattle.std.specs.Prelude.{ℕ, ◌≡◌, ◌<◌, Bool, false, Option, Some, None}
use Rattle.wait_model.specs.{declared.layout.TheConstants.FIRST_DONE_HEAD, declared.watches.Entry.Entry}
use Rattle.wait_model.specs.{declared.watches.Watch.Watch, Programs.zero_answer, Watches.head_of}
use Rattle.wait_model.specs.declared.points.FinishPoint.TheVariants as finishing
use Rattle.wait_model.specs.declared.points.Next.TheVariants as next
use Rattle.wait_model.specs.declared.points.Point.TheVariants as at
use Rattle.wait_model.specs.declared.steps.Step.TheVariants as step
use Rattle.wait_model.specs.declared.watches.Watch.TheVariants as watch
use Rattle.wait_rule.specs.declared.journal.Item.TheVariants as item
use Rattle.wait_rule.specs.{HandedPermits.OwesNoPermit, Known.Known}
use Rattle.wait_rule.specs.Queues.{at_head, index, saw, walk_of_hold}
use Rattle.wait_rule.specs.Says.{IsFree, IsUp, added, told_of}
use Rattle.wait_rule.specs.Stays.{Carries, lock_change, state_change, unlock_change}
use Rattle.wait_rule.specs.Transitions.{OnlyLooks, Program, by_step}
use Rattle.wait_rule.proofs.KnownLaws.Transitions.{only_none}
use Rattle.wq_head.specs.Holds.{HasLocked, HasUnlocked, IsHolding}
use Rattle.wq_head.proofs.{LockWaits.turn_looks, LockWaits.turn_of, PermitHeads.owes_low}
use Rattle.wait_class.specs.Findings.{saw_nothing, saw_entry as finds}
use Rattle.wait_class.specs.Posts.{HasSeenOwn, Keeps, Runs, own_of}
use Rattle.wait_class.proofs.Ground.Going.{runs_on, runs_one}
use Rattle.wait_class.proofs.Ground.Keeping.{keeps_on, own_keeps}
use Rattle.wait_class.proofs.Ground.Standing.{owner_own, seen_is, seen_stored, state_keeps, state_looks, state_up}
use Rattle.wait_event.specs.PartSteps.{IsAtHead, ParesPart}
use Rattle.wait_event.specs.Prepares.{HasFinished, IsNoWaiter, MayFinish, finish_program}
use Rattle.wait_event.proofs.Entering.{runs_lock}
use Rattle.wait_event.proofs.PartSteps.{pares_out, pares_part, part_keeps}
use Rattle.wait_event.proofs.Preparing.{IsParing, lock_keeps, pared_runs, unlock_keeps}

-- the watch of a stored entry, and any where there is none
abbrev pub watch_stored : Option Entry → Watch
watch_stored None = watch.Plain 0
watch_stored (Some e) = e.watch

paring : (me : ℕ) (w : Watch) → IsParing (finish_program me w) (at.Finish finishing.Queue false)
    (at.Finish finishing.Unlock false) (next.Ends zero_answer) me (head_of w)
paring me w = record {
  takes = λ j e x. record { made = owner_own me; finds = (tt, x, refl); goes = refl };
  gives = λ j here x. record { made = (here, refl); finds = (tt, x, tt); goes = refl };
  unlocks = λ j here. record { made = (here, refl); finds = (tt, tt, tt); goes = refl };
}

module _ (old mid : Known) (may : MayFinish old) (is : mid ≡ added old (item.Made (step.State 0)))
    (carries : Carries (state_change 0) old mid) (k : Known) (o : Option Entry) (h : HasSeenOwn mid k o) where
  abbrev w : Watch
  w = watch_stored ((told_of old).bits.stored (own_of old))

  abbrev f : Program
  f = finish_program old.view.number w

  abbrev i : ℕ
  i = own_of old

  mid_own : own_of mid ≡ i
  mid_own = ap (λ (n : ℕ). index n 0) carries.number

  stores : Runs f old mid (next.Go (at.Finish finishing.State false)) (next.Go (at.Finish finishing.Look false))
  stores = runs_one f (at.Finish finishing.State false) old old mid saw_nothing (by_step (step.State 0)) (only_none old)
      refl (tt, tt, tt) (state_looks old mid 0 is carries)

  free_mid : mid.book.head ≡ None
  free_mid = carries.head ∙ may.free.head

  peek_is : k ≡ added mid (item.Made (step.Peek i h.word))
  peek_is = h.is ∙ (λ j. added mid (item.Made (saw (free_mid j) (mid_own j) h.word)))

  looks_on : OnlyLooks (added mid (item.Made (step.Peek i h.word))) k
  looks_on = subst (OnlyLooks (added mid (item.Made (step.Peek i h.word)))) (sym peek_is)
      (only_none (added mid (item.Made (step.Peek i h.word))))

  keeps_mid : Keeps i old mid
  keeps_mid = state_keeps old mid 0 is carries

  keeps_look : Keeps i old k
  keeps_look = keeps_on i old mid k keeps_mid (subst (λ (n : ℕ). Keeps n mid k) mid_own (own_keeps mid k o h))

  about : (e : Entry) → (told_of old).bits.stored i ≡ Some e → w ≡ e.watch
  about e some = ap watch_stored some

  up_look : IsUp k
  up_look = h.carries.awake ∙ state_up old mid 0 is carries may.up

  running : k.book.state ≡ 0
  running = h.carries.state ∙ carries.state

  number : k.view.number ≡ old.view.number
  number = h.carries.number ∙ carries.number

  shows : (told_of k).bits.stored (own_of k) ≡ o
  shows = ap (λ (n : ℕ). (told_of k).bits.stored (index n 0)) h.carries.number ∙ seen_is mid k o h

  -- it was off
  pub finish_off : o ≡ None → HasFinished old k
  finish_off none = record {
    watch = w;
    about = about;
    runs = runs_on f old mid k (next.Go (at.Finish finishing.State false)) (next.Go (at.Finish finishing.Look false))
        (next.Ends zero_answer) stores
        (runs_one f (at.Finish finishing.Look false) mid mid k (finds None) (by_step (step.Peek i h.word))
        (only_none mid) refl (sym none ∙ h.reads, tt, tt) looks_on);
    keeps = keeps_look;
    up = up_look;
    free = record { head = h.carries.head ∙ free_mid; ticket = h.carries.ticket ∙ (carries.ticket ∙ may.free.ticket) };
    out = shows ∙ none;
    running = running;
  }

  -- it is queued: its head is locked, and it is taken off if it still stands there
  module _ (e : Entry) (some : o ≡ Some e) where
    was : (told_of old).bits.stored i ≡ Some e
    was = sym (carries.stored i refl refl) ∙ (ap (λ (n : ℕ). (told_of mid).bits.stored n) (sym mid_own)
        ∙ seen_stored mid k o h e some)

    its_watch : w ≡ e.watch
    its_watch = about e was

    pub finish_low : head_of e.watch < FIRST_DONE_HEAD
    finish_low = subst IsNoWaiter was may.home

    pub finish_free : IsFree k
    finish_free = record {
      head = h.carries.head ∙ free_mid;
      ticket = h.carries.ticket ∙ (carries.ticket ∙ may.free.ticket);
    }

    module _ (a : Known) (l : HasLocked k a (head_of e.watch) (walk_of_hold (head_of e.watch) None))
        (one : Carries (lock_change (head_of e.watch)) k a) where
      abbrev here : ℕ
      here = head_of e.watch

      a_own : own_of a ≡ i
      a_own = ap (λ (n : ℕ). index n 0) (one.number ∙ number)

      pub finish_home : IsAtHead a
      finish_home d stands =
          let now : (told_of a).bits.stored (own_of a) ≡ Some e =
          ap (λ (n : ℕ). (told_of a).bits.stored (index n 0)) one.number ∙ (one.stored (own_of k) refl refl
          ∙ (shows ∙ some)) in
          let same : Some e ≡ Some d = sym now ∙ stands in
          let it : e ≡ d = cc in
          ap (λ (g : Entry). head_of g.watch) (sym it) ∙ sym one.at

      pub finish_owes : (c : Known) → c.at ≡ a.at → OwesNoPermit c
      finish_owes c at_a = owes_low c here (at_a ∙ one.at) finish_low

      abbrev turn : Known
      turn = turn_of k a here (walk_of_hold here None) l

      abbrev locked : Known
      locked = at_head here (added turn (item.Made (step.Lock here (walk_of_hold here None) l.found)))

      locks : Runs f k a (next.Go (at.Finish finishing.Lock false)) (next.Go (at.Finish finishing.Queue false))
      locks = runs_lock f (next.Go (at.Finish finishing.Lock false)) (next.Go (at.Finish finishing.Queue false)) k a here l
          (runs_one f (at.Finish finishing.Lock false) k turn locked saw_nothing
          (by_step (step.Lock here (walk_of_hold here None) l.found)) (turn_looks k a here (walk_of_hold here None) l)
          (ap head_of (sym its_watch), ap (λ (n : ℕ). walk_of_hold n None) (ap head_of (sym its_watch))) (tt, tt, tt)
          (only_none locked))

      pub finish_on : IsHolding a → (c : Known) (found : Bool) → ParesPart a c found → (new : Known)
          → HasUnlocked c new false → Carries unlock_change c new → HasFinished old new
      finish_on held c found y new z three =
          let p = pares_part a c found y in record {
            watch = w;
            about = about;
            runs = runs_on f old mid new (next.Go (at.Finish finishing.State false))
                (next.Go (at.Finish finishing.Look false)) (next.Ends zero_answer) stores
                (runs_on f mid k new (next.Go (at.Finish finishing.Look false))
                (next.Go (at.Finish finishing.Lock false)) (next.Ends zero_answer)
                (runs_one f (at.Finish finishing.Look false) mid mid k (finds (Some e)) (by_step (step.Peek i h.word))
                (only_none mid) refl (sym some ∙ h.reads, tt, tt) looks_on)
                (runs_on f k a new (next.Go (at.Finish finishing.Lock false))
                (next.Go (at.Finish finishing.Queue false)) (next.Ends zero_answer) locks
                (pared_runs a held finish_home c new z f (at.Finish finishing.Queue false)
                (at.Finish finishing.Unlock false) (next.Ends zero_answer) old.view.number (head_of w)
                (paring old.view.number w) (one.number ∙ number) (one.at ∙ ap head_of (sym its_watch)) found y)));
            keeps = keeps_on i old k new keeps_look
                (keeps_on i k a new (lock_keeps i here k a one)
                (keeps_on i a c new (subst (λ (n : ℕ). Keeps n a c) a_own (part_keeps (λ s. s) a c p))
                (unlock_keeps i c new three)));
            up = three.awake ∙ (p.awake ∙ (one.awake ∙ up_look));
            free = z.free;
            out = ap (λ (n : ℕ). (told_of new).bits.stored (index n 0)) (three.number ∙ p.number)
                ∙ (three.stored (own_of a) refl refl ∙ pares_out a c found y);
            running = three.state ∙ (p.state ∙ (one.state ∙ running));
          }
