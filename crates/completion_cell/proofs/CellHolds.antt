-- The holds of the calls that wait for nobody but a lock, from where each began.
use Rattle.std.proofs.Common.{◌∙◌, ap, sym, refl, subst}
use Rattle.std.specs.Prelude.{ℕ, ◌≡◌, ◌+◌, ◌-◌, ◌==◌, not, Bool, true, false, MatchBool}
use Rattle.wait_model.specs.declared.layout.TheConstants.{ALL_DONE}
use Rattle.wait_model.specs.declared.steps.Step.TheVariants as step
use Rattle.wait_model.specs.declared.watches.Watch.TheVariants as watch
use Rattle.wait_rule.specs.declared.journal.Item.TheVariants as item
use Rattle.wait_rule.specs.{Counts.FindsCount, Counts.StoresCount, HandedPermits.OwesNoPermit, HandedPermits.StaysOff}
use Rattle.wait_rule.specs.{Known.Known, Stays.Carries, Stays.unchanged}
use Rattle.wait_rule.specs.Says.{IsFree, added, unlocked_with}
use Rattle.wait_rule.proofs.KnownLaws.CarriedTasks.{unchanged_none, unchanged_on}
use Rattle.wait_rule.proofs.KnownLaws.Turns.{unlocked_free}
use Rattle.wq_head.specs.{Holds.IsHolding, LockTurns.TookLock}
use Rattle.wq_head.specs.Selects.{HasSelected, IsSimpleHold, KeepsHold}
use Rattle.wq_head.proofs.{CarriedHolds.unlock_carried, KeptHolds.hold_carried, LockWaits.unlocked}
use Rattle.completion_cell.specs.declared.cell_turns.CellCall.TheVariants as call
use Rattle.completion_cell.specs.{Asks.HasCountedDone, Asks.TakesOne, Completes.RaisesOne}
use Rattle.completion_cell.specs.CellTurns.{HasPeeked, HoldsForCell, IsCellOver, cell_head}
use Rattle.completion_cell.proofs.Asking.{behind_load, clears_none, free_on, is_done_asked, none_held, reinit_reset}
use Rattle.completion_cell.proofs.Asking.{take_carried, tried_some, try_carried, try_counted, whole_carried}
use Rattle.completion_cell.proofs.CallPermits.{ask_off, complete_all_hold, complete_hold, is_done_hold, reinit_hold}
use Rattle.completion_cell.proofs.CallPermits.{try_hold}
use Rattle.completion_cell.proofs.Completing.{all_at, all_carried, all_holds, complete_at, complete_carried, complete_counted, complete_holds, complete_simple, has_completed, has_completed_all, stored_agreed, count_agreed}
use Rattle.completion_cell.proofs.Permits.{MayEndHold, ends_off, ends_owing_none}
use Rattle.completion_cell.proofs.Ground.{holding_on}

-- where a call did nothing before its ticket
took_from : (d : ℕ) (start base now : Known) → start ≡ base → TookLock base now (cell_head d)
    → TookLock start now (cell_head d)
took_from d start base now same t = subst (λ (k : Known). TookLock k now (cell_head d)) (sym same) t

gives_free : (m new : Known) (spent : Bool) → new ≡ unlocked_with m m.at spent → IsFree new
gives_free m new spent is = subst IsFree (sym is) (unlocked_free m m.at spent)

-- a count that is taken leaves no word that differs from its bit
-- `complete`
module _ (d v n : ℕ) (start a a2 b m new : Known) (i : HoldsForCell call.Complete d start a)
    (is : a2 ≡ added a (item.Made (step.Load (watch.Done d) v))) (finds : FindsCount a d v)
    (loaded : Carries unchanged a a2) where
  abbrev one_took : TookLock start a (cell_head d)
  one_took = took_from d start i.base a i.begun i.took

  pub one_counted : HasCountedDone a2 d v
  one_counted = complete_counted start a a2 b m new d v n (cell_head d) refl i.free i.told one_took.locked
      one_took.simple one_took.carries
      is finds loaded

  module _ (raised : Bool) (raises : RaisesOne v raised)
      (made : MatchBool raised (StoresCount a2 b d (v + 1)) (b ≡ a2)) where
    pub one_holds : IsHolding b
    one_holds = complete_holds start a a2 b m new d v n (cell_head d) refl i.free i.told one_took.locked
        one_took.simple one_took.carries
        is finds loaded raised raises made one_took.held

    pub one_at : b.at ≡ cell_head d
    one_at = complete_at start a a2 b m new d v n (cell_head d) refl i.free i.told one_took.locked one_took.simple
        one_took.carries
        is finds loaded raised raises made

    pub one_simple : IsSimpleHold b
    one_simple = complete_simple start a a2 b m new d v n (cell_head d) refl i.free i.told one_took.locked
        one_took.simple one_took.carries
        is finds loaded raised raises made

    module _ (s : HasSelected b m 1 n) (k : KeepsHold b m) (keeps : IsSimpleHold b → IsSimpleHold m) where
      one_may : MayEndHold d start m
      one_may = complete_hold start a a2 b m d v n (cell_head d) refl i.free i.told one_took.locked one_took.carries
          is loaded
          one_counted raised made s (hold_carried b m k)

      pub one_owes : OwesNoPermit m
      one_owes = ends_owing_none d start m one_may i.left

      pub one_over : new ≡ unlocked_with m m.at (n == 1) → IsCellOver call.Complete d true start new
      one_over gave =
          let u = unlocked m new (n == 1) gave in
          let carries = complete_carried start a a2 b m new d v n (cell_head d) refl i.free i.told one_took.locked
          one_took.simple
          one_took.carries is finds loaded raised raises made s (hold_carried b m k) keeps u
          (unlock_carried m new (n == 1) gave) in record {
            ends = has_completed start a a2 b m new d v n (cell_head d) refl i.free i.told one_took.locked
                one_took.simple one_took.carries
                is finds loaded raised raises made s (hold_carried b m k) keeps u;
            up = carries.awake ∙ i.up;
            free = gives_free m new (n == 1) gave;
            carries = carries;
            off = ends_off d start m new (n == 1) one_may gave;
          }

-- `complete_all`
module _ (d n : ℕ) (start a b m new : Known) (i : HoldsForCell call.CompleteAll d start a)
    (stored : StoresCount a b d ALL_DONE) where
  abbrev every_took : TookLock start a (cell_head d)
  every_took = took_from d start i.base a i.begun i.took

  pub every_holds : IsHolding b
  every_holds = all_holds start a b m new d n (cell_head d) refl i.free i.told every_took.locked every_took.simple
      every_took.carries stored every_took.held

  pub every_at : b.at ≡ cell_head d
  every_at = all_at start a b m new d n (cell_head d) refl i.free i.told every_took.locked every_took.simple
      every_took.carries stored

  module _ (s : HasSelected b m 0 n) (k : KeepsHold b m) (keeps : IsSimpleHold b → IsSimpleHold m) where
    every_may : MayEndHold d start m
    every_may = complete_all_hold start a b m d n (cell_head d) refl i.free i.told every_took.locked
        every_took.carries stored s
        (hold_carried b m k)

    pub every_owes : OwesNoPermit m
    every_owes = ends_owing_none d start m every_may i.left

    pub every_over : new ≡ unlocked_with m m.at false → IsCellOver call.CompleteAll d true start new
    every_over gave =
        let u = unlocked m new false gave in
        let carries = all_carried start a b m new d n (cell_head d) refl i.free i.told every_took.locked
        every_took.simple every_took.carries
        stored s (hold_carried b m k) keeps u (unlock_carried m new false gave) in record {
          ends = has_completed_all start a b m new d n (cell_head d) refl i.free i.told every_took.locked
              every_took.simple every_took.carries
              stored s (hold_carried b m k) keeps u;
          up = carries.awake ∙ i.up;
          free = gives_free m new false gave;
          carries = carries;
          off = ends_off d start m new false every_may gave;
        }

-- `reinit`
module _ (d : ℕ) (start a b new : Known) (i : HoldsForCell call.Reinit d start a) (stored : StoresCount a b d 0) where
  abbrev reset_took : TookLock start a (cell_head d)
  reset_took = took_from d start i.base a i.begun i.took

  pub reset_holds : IsHolding b
  reset_holds = holding_on a b stored.publishes.head stored.publishes.hold stored.publishes.at
      (stored_agreed a b d 0 stored.found stored.is) reset_took.held

  reset_may : MayEndHold d start b
  reset_may = reinit_hold start a b d (cell_head d) refl i.free i.told reset_took.locked reset_took.carries stored

  pub reset_owes : OwesNoPermit b
  reset_owes = ends_owing_none d start b reset_may i.left

  pub reset_over : (hit : Bool) → new ≡ unlocked_with b b.at false → IsCellOver call.Reinit d hit start new
  reset_over hit gave =
      let u = unlocked b new false gave in
      let carries = whole_carried start a b new i.free (none_held start i.told i.free) (cell_head d) reset_took.carries
      (stored.consumes (clears_none d stored.found)) (unlock_carried b new false gave) in record {
        ends = reinit_reset start a b new d (cell_head d) refl reset_took.locked stored u;
        up = carries.awake ∙ i.up;
        free = gives_free b new false gave;
        carries = carries;
        off = ends_off d start b new false reset_may gave;
      }

-- `is_done`
module _ (d : ℕ) (start a new : Known) (i : HoldsForCell call.IsDone d start a) where
  abbrev done_peek : HasPeeked d start i.base
  done_peek = i.begun

  done_may : MayEndHold d i.base a
  done_may = is_done_hold i.base a d (cell_head d) refl (done_peek.carries.hold ∙ none_held start i.told i.free)
      i.took.locked
      i.took.carries

  base_off : StaysOff start i.base
  base_off = ask_off start i.base d done_peek.count done_peek.is done_peek.carries i.free i.told

  pub done_owes : OwesNoPermit a
  done_owes = ends_owing_none d i.base a done_may (base_off d i.left)

  pub done_over : new ≡ unlocked_with a a.at false → IsCellOver call.IsDone d true start new
  done_over gave =
      let u = unlocked a new false gave in
      let carries = behind_load start i.base new done_peek.carries (whole_carried i.base a a new
      (free_on start i.base done_peek.carries i.free) (done_peek.carries.hold ∙ none_held start i.told i.free)
      (cell_head d)
      i.took.carries (unchanged_none a) (unlock_carried a new false gave)) in record {
        ends = is_done_asked start i.base a new d done_peek.count (cell_head d) refl done_peek.is done_peek.carries
            done_peek.some done_peek.finds i.took.locked u;
        up = carries.awake ∙ i.up;
        free = gives_free a new false gave;
        carries = carries;
        off = λ e left. ends_off d i.base a new false done_may gave e (base_off e left);
      }

-- `try_wait`
module _ (d n : ℕ) (start a a2 b new : Known) (i : HoldsForCell call.TryWait d start a)
    (again : a2 ≡ added a (item.Made (step.Load (watch.Done d) n))) (finds : FindsCount a d n)
    (loaded : Carries unchanged a a2) where
  abbrev tried_peek : HasPeeked d start i.base
  tried_peek = i.begun

  pub tried_counted : HasCountedDone a2 d n
  tried_counted = try_counted start i.base a a2 d tried_peek.count n (cell_head d) refl tried_peek.is
      tried_peek.carries tried_peek.some tried_peek.finds i.took.locked again
      finds loaded

  module _ (took : Bool) (takes : TakesOne n took) (made : MatchBool took (StoresCount a2 b d (n - 1)) (b ≡ a2)) where
    tried_carries : Carries unchanged a b
    tried_carries = unchanged_on a a2 b loaded (take_carried a2 b d n tried_counted took takes made)

    pub tried_holds : IsHolding b
    tried_holds = holding_on a b tried_carries.head tried_carries.hold tried_carries.at
        (count_agreed a2 b d (n - 1) took made ∙ ap (λ (k : Known). k.book.differs) again) i.took.held

    pub tried_at : b.at ≡ cell_head d
    tried_at = tried_carries.at ∙ i.took.carries.at

    tried_may : MayEndHold d i.base b
    tried_may = try_hold i.base a a2 b d n (cell_head d) refl (tried_peek.carries.hold ∙ none_held start i.told i.free)
        i.took.locked i.took.carries again loaded tried_counted took made

    tried_off : StaysOff start i.base
    tried_off = ask_off start i.base d tried_peek.count tried_peek.is tried_peek.carries i.free i.told

    pub tried_owes : OwesNoPermit b
    tried_owes = ends_owing_none d i.base b tried_may (tried_off d i.left)

    pub tried_over : new ≡ unlocked_with b b.at false → IsCellOver call.TryWait d (not (n == 0)) start new
    tried_over gave =
        let u = unlocked b new false gave in
        let carries = try_carried start i.base a a2 d tried_peek.count n (cell_head d) refl tried_peek.is
        tried_peek.carries tried_peek.some tried_peek.finds i.took.locked
        again finds loaded b new took takes made u i.free i.told i.took.carries (unlock_carried b new false gave)
        in record {
          ends = tried_some start i.base a a2 d tried_peek.count n (cell_head d) refl tried_peek.is tried_peek.carries
              tried_peek.some tried_peek.finds i.took.locked again
              finds loaded b new took takes made u;
          up = carries.awake ∙ i.up;
          free = gives_free b new false gave;
          carries = carries;
          off = λ e left. ends_off d i.base b new false tried_may gave e (tried_off e left);
        }
