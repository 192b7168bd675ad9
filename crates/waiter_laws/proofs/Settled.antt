-- Who owes no wake of a watch any more has woken all for whom it was.
use Rattle.std.proofs.Common.{◌∙◌, ap, refl, sym}
use Rattle.std.specs.Prelude.{ℕ, ◌≡◌, Bool, true, false, not, ◌&&◌, List}
use Rattle.wait_model.specs.{declared.steps.Step.Step, declared.watches.Aim.Aim, declared.watches.Mode.Mode}
use Rattle.wait_model.specs.{declared.watches.Watch.Watch, Fold.view_of, Tables.Table, Tasks.meets, Watches.same}
use Rattle.wait_model.specs.Watches.{mask_of}
use Rattle.wait_model.specs.declared.watches.Mode.TheVariants as mode
use Rattle.wait_model.specs.declared.watches.Watch.TheVariants as watch
use Rattle.wait_model.proofs.Sameness.{same_refl}
use Rattle.wait_rule.specs.{Items.steps_of, Known.Known, LosesNone.OwesBeside, LosesNone.OwesNoneOf, Says.Excuse}
use Rattle.wait_rule.specs.{Says.told_of, Stays.Carries}
use Rattle.wait_rule.proofs.KnownLaws.LosesNone.{owes_no_wake, settled_leave_none}
use Rattle.wait_rule.proofs.KnownLaws.Setters.{rule_settles_all}
use Rattle.wq_head.specs.Walks.{HasEnded}
use Rattle.wait_event.specs.Conds.{set_change}
use Rattle.completion_cell.specs.{declared.cell_turns.CellCall.CellCall, CellTurns.change_of}
use Rattle.completion_cell.specs.declared.cell_turns.CellCall.TheVariants as cell_call
use Rattle.waiter_laws.specs.Settled.{CellsSettle, SettledWakeAll, SettlesAll, SwakesSettle, WakesAll, WakesSettle}
use Rattle.waiter_laws.specs.Settled.{makes_done}

-- by the order that leads to the table its list is as its history
wakes_all : (c : Watch) (m : Mode) (k : Known) → OwesNoneOf c m k → WakesAll c m k
wakes_all c m k none s items ruled list on set σ met = rule_settles_all s items ruled k.view.number c on σ (record {
  before = set.before;
  publish = set.publish;
  later = set.later;
  split = set.split;
  is_publish = set.is_publish;
  whole = set.whole;
  settled = ap (λ (es : List Step). (view_of es).duty.owes c σ)
      (ap (λ (t : Table). t.history k.view.number) (sym ruled.whole.interleaved.leads)
      ∙ (ruled.histories k.view.number ∙ ap steps_of list)) ∙ none c σ (same_refl c) met;
  watch = set.watch;
  stays = set.stays;
})

pub settled_wake_all : SettledWakeAll
settled_wake_all c m k none = (settled_leave_none c m k none, wakes_all c m k none)

pub ended_owes_none : (old new : Known) (a : Aim) → HasEnded old new a → OwesNoneOf a.watch a.mode new
ended_owes_none old new a ended d σ is met = ended.owes d σ
    ∙ by ((told_of old).duty.owes d σ) (same d a.watch) (meets (mask_of a.mode) σ) is met
  where
    by : (owed is_it meet : Bool) → is_it ≡ true → meet ≡ true → (owed && not (is_it && meet)) ≡ false
    by false is_it meet p q = refl
    by true true true p q = refl
    by true true false p q = absurd (cc)
    by true false meet p q = absurd (cc)

pub wakes_settle : WakesSettle
wakes_settle start new r q walked turned = settled_wake_all q.aim.watch q.aim.mode new
    (ended_owes_none start new q.aim turned.turns.ended)

pub swakes_settle : SwakesSettle
swakes_settle start new r q n x none owed turned = settled_wake_all (watch.Plain q.cond) mode.Normal new
    (owes_no_wake (watch.Plain q.cond) x new (record { most = turned.turns.carries.owes x owed; none = none }))

cell_settles : (start new : Known) (d : ℕ) (x : Excuse) → OwesBeside (watch.Done d) x start
    → Carries (set_change (watch.Done d) mode.Normal new.at) start new → SettlesAll (watch.Done d) mode.Normal new
cell_settles start new d x owed carries = settled_wake_all (watch.Done d) mode.Normal new
    (owes_no_wake (watch.Done d) x new (record { most = carries.owes x owed.most; none = owed.none }))

pub cells_settle : CellsSettle
cells_settle start new r q hit x calls owed turned = by q.call calls turned.turns.carries
  where
    by : (a : CellCall) → makes_done a ≡ true → Carries (change_of a q.cell new.at) start new
        → SettlesAll (watch.Done q.cell) mode.Normal new
    by cell_call.Complete is carries = cell_settles start new q.cell x owed carries
    by cell_call.CompleteAll is carries = cell_settles start new q.cell x owed carries
    by a is carries = absurd (cc)
