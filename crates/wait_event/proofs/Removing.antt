-- The call that takes the own entry of a task off: its transitions, and what it carries on.
use Rattle.std.proofs.Common.{◌∙◌, ap, sym, refl, subst, inl, arith}
use Rattle.std.specs.Prelude.{ℕ, ◌≡◌, ◌+◌, ◌<◌, false, true, Option, Some, None}
use Rattle.wait_model.specs.{declared.watches.Entry.Entry, declared.watches.Watch.Watch, Programs.plain_cond}
use Rattle.wait_model.specs.{Programs.zero_answer, Views.View as Told, Watches.head_of}
use Rattle.wait_model.specs.declared.layout.TheConstants.{FIRST_DONE_HEAD, FIRST_PLAIN_HEAD, HEADS}
use Rattle.wait_model.specs.declared.calls.Call.TheVariants as calls
use Rattle.wait_model.specs.declared.points.Point.TheVariants as at
use Rattle.wait_model.specs.declared.points.RemovePoint.TheVariants as removing
use Rattle.wait_model.specs.declared.points.Next.TheVariants as next
use Rattle.wait_model.specs.declared.steps.Step.TheVariants as step
use Rattle.wait_model.specs.declared.watches.Watch.TheVariants as watch
use Rattle.wait_rule.specs.declared.journal.Item.TheVariants as item
use Rattle.wait_rule.specs.{Items.Book, HandedPermits.OwesNoPermit, Known.Known, Members.IsOwnKind}
use Rattle.wait_rule.specs.Says.{IsFree, added, stored_with, told_of}
use Rattle.wait_rule.specs.Queues.{IsTold, MayUnqueue, index, at_head, walk_of_hold}
use Rattle.wait_rule.specs.Stays.{Carries, lock_change, only, take_off_change, unlock_change, with_entry}
use Rattle.wait_rule.specs.Transitions.{OnlyLooks, Program, by_step, call_program}
use Rattle.wait_rule.proofs.{KnownLaws.MemberBits.bit_looks, KnownLaws.Transitions.only_none}
use Rattle.wq_head.specs.Adds.{HasRemoved}
use Rattle.wq_head.specs.Holds.{HasLocked, HasUnlocked, IsHolding}
use Rattle.wq_head.proofs.PermitHeads.{owes_low}
use Rattle.wq_head.proofs.LockWaits.{turn_looks, turn_of, turn_told}
use Rattle.wait_class.specs.Posts.{IsOut, HasSeenOwn, Runs, own_of}
use Rattle.wait_class.specs.Findings.{saw_nothing, saw_entry as finds}
use Rattle.wait_event.specs.Entries.{HasRemovedOwn, MayRemove, remove_change}
use Rattle.wait_event.proofs.Entering.{hold_carried, looked_carried, runs_lock, unlock_looks}
use Rattle.wait_class.proofs.{WatchHeads.head_fits, Ground.Going.runs_on, Ground.Going.runs_one}
use Rattle.wait_class.proofs.Ground.Standing.{owner_own, seen_book, seen_looks, seen_shows}
use Rattle.wait_event.proofs.PermitHeads.{cond_low}

head_plain : (c : ℕ) → head_of (watch.Plain c) ≡ FIRST_PLAIN_HEAD + c
unfolding head_of
head_plain c = refl

-- what a removal says
pub record Removes (old new : Known) : Type 0 where
  pub removed : HasRemovedOwn old new
  pub out : IsOut new
  pub carries : Carries (remove_change (own_of old) new.at) old new

module _ (old seen : Known) (may : MayRemove old) (told : IsTold old) (e : Entry) (same : seen ≡ old)
    (stands : (told_of old).bits.stored (own_of old) ≡ Some e) where
  same_entry : e ≡ may.entry
  same_entry = let both : Some e ≡ Some may.entry = sym stands ∙ may.queued in cc

  same_number : seen.view.number ≡ old.view.number
  same_number = ap (λ (k : Known). k.view.number) same

  about : e.watch ≡ watch.Plain may.cond
  about = ap (λ (f : Entry). f.watch) same_entry ∙ may.about

  pub head_fit : (h : ℕ) → h ≡ head_of e.watch → h < HEADS
  head_fit h is =
      let full = may.full in
      subst (λ (n : ℕ). n < HEADS) (sym (is ∙ ap head_of about)) (head_fits may.cond (omega (arith, full)))

  head_is : head_of e.watch ≡ FIRST_PLAIN_HEAD + plain_cond e.watch
  head_is = subst (λ (w : Watch). head_of w ≡ FIRST_PLAIN_HEAD + plain_cond w) (sym about) (head_plain may.cond)

  seen_free : IsFree seen
  seen_free = subst IsFree (sym same) may.free

  seen_none : (told_of seen).hold.head ≡ None
  seen_none = subst (λ (k : Known). (told_of k).hold.head ≡ None) (sym same) (told.head ∙ may.free.head)

  shown_some : (told_of seen).bits.stored (index old.view.number 0) ≡ Some e
  shown_some = ap (λ (k : Known). (told_of k).bits.stored (index old.view.number 0)) same ∙ stands

  module _ (held : Known) (h : ℕ) (here : h ≡ head_of e.watch) (l : HasLocked seen held h (walk_of_hold h None))
      (holds : IsHolding held) (one : Carries (lock_change h) seen held) (looked : Known) (p : Option Entry)
      (again : HasSeenOwn held looked p) where
    held_stored : (told_of held).bits.stored (index held.view.number 0) ≡ Some e
    held_stored = ap (λ (n : ℕ). (told_of held).bits.stored (index n 0)) (one.number ∙ same_number)
        ∙ (one.stored (index old.view.number 0) refl refl ∙ shown_some)

    still : p ≡ Some e
    still = again.reads ∙ again.knew.stands 0 (omega arith) refl e held_stored
        (subst (λ (f : Entry). IsOwnKind f.kind) (sym same_entry) may.kind)

    held_at : held.at ≡ h
    held_at = ap (λ (k : Known). k.at) l.is

    held_head : held.book.head ≡ Some h
    held_head = holds.locked ∙ ap Some held_at

    held_told : (told_of held).hold.head ≡ Some h
    held_told = holds.told ∙ ap Some held_at

    pub may_take : (n : ℕ) → n ≡ seen.view.number → MayUnqueue looked n 0
    may_take n mine = record {
      entry = e;
      shows = ap (λ (m : ℕ). (told_of looked).hold.book (index m 0)) (mine ∙ sym one.number)
          ∙ seen_shows held looked p again h held_head held_told e still (sym here);
      may = inl (mine ∙ sym (again.carries.number ∙ one.number));
    }

    pub looked_holds : IsHolding looked
    looked_holds = record {
      locked = again.carries.head ∙ (holds.locked ∙ ap Some (sym again.carries.at));
      agreed = ap (λ (b : Book). b.differs) (seen_book held looked p again) ∙ holds.agreed;
      told = again.carries.hold ∙ (holds.told ∙ ap Some (sym again.carries.at));
    }

    -- its head is none of a completion
    pub taken_owes : (n : ℕ) (taken : Known) → HasRemoved looked taken n 0 → OwesNoPermit taken
    taken_owes n taken r = owes_low taken h (r.carries.at ∙ (again.carries.at ∙ held_at))
        (subst (λ (i : ℕ). i < FIRST_DONE_HEAD) (sym (here ∙ ap head_of about)) (cond_low may.cond may.full))

    module _ (n : ℕ) (mine : n ≡ seen.view.number) (taken : Known) (r : HasRemoved looked taken n 0) (new : Known)
        (back : HasUnlocked taken new false) (three : Carries unlock_change taken new) where
      abbrev f : Program
      f = call_program old.view.number 0 calls.Remove

      abbrev i : ℕ
      i = index old.view.number 0

      n_is : n ≡ old.view.number
      n_is = mine ∙ same_number

      abbrev turn : Known
      turn = turn_of seen held h (walk_of_hold h None) l

      abbrev locked : Known
      locked = at_head h (added turn (item.Made (step.Lock h (walk_of_hold h None) l.found)))

      locks : Runs f seen held (next.Go (at.Remove removing.Lock))
          (next.Go (at.Remove (removing.Queue (plain_cond e.watch))))
      locks = runs_lock f (next.Go (at.Remove removing.Lock))
          (next.Go (at.Remove (removing.Queue (plain_cond e.watch)))) seen held h l
          (runs_one f (at.Remove removing.Lock) seen turn locked (finds (Some e))
          (by_step (step.Lock h (walk_of_hold h None) l.found)) (turn_looks seen held h (walk_of_hold h None) l)
          (here ∙ head_is, ap (λ (m : ℕ). walk_of_hold m None) (here ∙ head_is)) (
            tt,
            (
              i,
              refl,
              sym (ap (λ (v : Told). v.bits.stored i) (turn_told seen held h (walk_of_hold h None) l)
                  ∙ shown_some),
            ),
            tt,
          ) (only_none locked))

      takes : Runs f held taken (next.Go (at.Remove (removing.Queue (plain_cond e.watch))))
          (next.Go (at.Remove (removing.Unlock (plain_cond e.watch))))
      takes = runs_one f (at.Remove (removing.Queue (plain_cond e.watch))) held looked taken saw_nothing
          (by_step (step.Unqueue i)) (seen_looks held looked p again h held_head) (owner_own old.view.number)
          (tt, tt, refl)
          (subst (OnlyLooks (added looked (item.Made (step.Unqueue i))))
          (sym (r.is ∙ ap (λ (m : ℕ). stored_with looked (step.Unqueue (index m 0))) n_is))
          (bit_looks looked (step.Unqueue i)))

      unlocks : Runs f taken new (next.Go (at.Remove (removing.Unlock (plain_cond e.watch)))) (next.Ends zero_answer)
      unlocks = runs_one f (at.Remove (removing.Unlock (plain_cond e.watch))) taken taken new saw_nothing
          (by_step (step.Unlock taken.at false)) (only_none taken)
          (r.carries.at ∙ (again.carries.at ∙ (held_at ∙ (here ∙ head_is))), refl) (tt, tt, tt)
          (unlock_looks taken new back.is)

      removed_own : HasRemovedOwn old new
      removed_own = record {
        runs = subst (λ (k : Known). Runs f k new (next.Go (at.Remove removing.Lock)) (next.Ends zero_answer)) same
            (runs_on f seen held new (next.Go (at.Remove removing.Lock))
            (next.Go (at.Remove (removing.Queue (plain_cond e.watch)))) (next.Ends zero_answer) locks
            (runs_on f held taken new (next.Go (at.Remove (removing.Queue (plain_cond e.watch))))
            (next.Go (at.Remove (removing.Unlock (plain_cond e.watch)))) (next.Ends zero_answer) takes unlocks));
      }

      removed_out : IsOut new
      removed_out = ap (λ (m : ℕ). (told_of new).bits.stored (index m 0))
          (three.number ∙ (r.carries.number ∙ (again.carries.number ∙ (one.number ∙ sym mine))))
          ∙ (three.stored (index n 0) refl refl ∙ r.out)

      removed_carried : Carries (remove_change (own_of old) new.at) old new
      removed_carried = subst (λ (k : Known). Carries (remove_change (own_of old) new.at) k new) same
          (hold_carried (with_entry i) (λ y. y) (only i) true seen held taken new seen_free seen_none h one
          (looked_carried (with_entry i) (λ y. y) (only i) false (λ m. m) held looked taken again.carries
          (subst (λ (m : ℕ). Carries (take_off_change (index m 0)) looked taken) n_is r.carries)) three)

      pub removes : Removes old new
      removes = record { removed = removed_own; out = removed_out; carries = removed_carried }
