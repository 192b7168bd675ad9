-- The worked scripts, computed.
use Rattle.std.proofs.Common.{refl, sym, ◌∙◌, ap, subst, arith}
use Rattle.std.specs.Prelude.{ℕ, zero, suc, ◌≡◌, ◌<◌, Bool, true, false, ◌&&◌, if◌then◌else◌, nat_lt, is_none, List, []}
use Rattle.std.specs.Prelude.{◌∷◌, ◌++◌, Option, Some, None}
use Rattle.wait_model.specs.{declared.layout.TheConstants.TASKS, declared.calls.Call.Call, declared.calls.Ran.Ran}
use Rattle.wait_model.specs.{declared.points.Progress.Progress, declared.points.Planned.Planned, Tasks.meets}
use Rattle.wait_model.specs.Runs.{State, looks, planned, busy_head, found_by, happens, start_state, state_of, Continues}
use Rattle.wait_model.specs.Runs.{IsItem, IsRun}
use Rattle.wait_model.specs.Watches.{hashed, head_of, owner}
use Rattle.wait_model.specs.Worked.{Line, opens, runs, Replay, may_open, opened_call, next_of, with_event, makes_events}
use Rattle.wait_model.specs.Worked.{line_done, lines_done, replay, replayed, IsOver, ReplaysRun, WorkedScripts}
use Rattle.wait_model.specs.declared.calls.Ran.TheVariants as ran
use Rattle.wait_model.specs.declared.points.Progress.TheVariants as now
use Rattle.wait_model.proofs.RunLaws.EveryRun.{state_after-push, run_push}

-- a replay whose list of items is a run, and whose state is the one after it
record IsSo (r : Replay) : Type 0 where
  is_run : IsRun r.run
  is_state : r.state ≡ state_of r.run

one_more : (r : Replay) (item : Ran) → IsSo r → IsItem r.state item
    → IsRun (r.run ++ item ∷ []) × (happens r.state item ≡ state_of (r.run ++ item ∷ []))
one_more r item so h = (
  run_push start_state r.run item so.is_run (subst (λ (s : State). IsItem s item)
      so.is_state h),
  ap (λ (s : State). happens s item) so.is_state
      ∙ sym (state_after-push start_state r.run item),
)

opened_so : (r : Replay) (me : ℕ) (c : Call) → IsSo r → IsSo (opened_call r me c)
opened_so r me c so = by (may_open r.state me c) refl
  where
    by : (b : Bool) → may_open r.state me c ≡ b
        → IsSo (if b then record {
          run = r.run ++ ran.Opened me c ∷ [];
          told = r.told;
          state = happens r.state (ran.Opened me c);
        } else r)
    by true h = let m = one_more r (ran.Opened me c) so (
      grind (arith, h),
      grind (arith, h),
      grind (arith, h),
    ) in
        record { is_run = m.0; is_state = m.1 }
    by false h = so

none_of : (o : Option ℕ) → is_none o ≡ true → o ≡ None
none_of None h = refl
none_of (Some n) h = absurd (cc)

open_item : (s : State) (me : ℕ) (pl p : Planned) (b : Bool)
    → (nat_lt me TASKS && ((s.table.task me).runnable && is_none (busy_head s pl.event))) ≡ b
    → (if b then Some pl else None) ≡ Some p
    → (me < TASKS) × ((s.table.task me).runnable ≡ true) × (busy_head s pl.event ≡ None) × (pl ≡ p)
open_item s me pl p true h e = (
  grind (arith, h),
  grind (arith, h),
  none_of (busy_head s pl.event) (grind (arith, h)),
  cc,
)
open_item s me pl p false h e = absurd (cc)

made_item : (s : State) (me : ℕ) (q : Progress) (p : Planned) → s.progress me ≡ q → next_of s me q ≡ Some p
    → IsItem s (ran.Made me p.event (found_by s me p.event))
made_item s me now.Fresh p is h = absurd (cc)
made_item s me now.Idle p is h = absurd (cc)
made_item s me (now.Open call pt) p is h =
    by (open_item s me (planned s me call pt) p
    (nat_lt me TASKS && ((s.table.task me).runnable && is_none (busy_head s (planned s me call pt).event)))
    refl h)
  where
    by : (me < TASKS) × ((s.table.task me).runnable ≡ true)
        × (busy_head s (planned s me call pt).event ≡ None) × (planned s me call pt ≡ p)
        → IsItem s (ran.Made me p.event (found_by s me p.event))
    by k = (
      k.0,
      subst (λ (q : Progress). Continues s me q p.event (found_by s me p.event)) (sym is) (
        ap (λ (x : Planned). x.event) (sym k.3),
        refl,
        k.1,
        ap (λ (x : Planned). busy_head s x.event) (sym k.3) ∙ k.2,
      ),
    )

makes_so : (me n : ℕ) (r : Replay) → IsSo r → IsSo (makes_events me n r)
makes_so me zero r so = so
makes_so me (suc n) r so = by (λ k. makes_so me n k) (next_of r.state me (r.state.progress me)) refl
  where
    by : ((k : Replay) → IsSo k → IsSo (makes_events me n k)) → (o : Option Planned)
        → next_of r.state me (r.state.progress me) ≡ o
        → IsSo (elim o as (λ _. Replay) [ None ↦ r | Some p ↦ makes_events me n (with_event r me p) ])
    by more None h = so
    by more (Some p) h =
        let m = one_more r (ran.Made me p.event (found_by r.state me p.event)) so
        (made_item r.state me (r.state.progress me) p refl h) in
        more (with_event r me p) (record { is_run = m.0; is_state = m.1 })

line_so : (r : Replay) (line : Line) → IsSo r → IsSo (line_done r line)
line_so r (opens me c) so = opened_so r me c so
line_so r (runs me n) so = makes_so me n r so

lines_so : (r : Replay) (lines : List Line) → IsSo r → IsSo (lines_done r lines)
lines_so r [] so = so
lines_so r (line ∷ lines) so = lines_so (line_done r line) lines (line_so r line so)

pub replays_run : ReplaysRun
replays_run lines = by (lines_so (record { run = []; told = []; state = start_state }) lines
    (record { is_run = tt; is_state = refl }))
  where
    by : IsSo (replay lines) → IsRun (replay lines).run × ((replay lines).state ≡ state_of (replay lines).run)
    by so = (so.is_run, so.is_state)

over_99 : IsOver (replayed 99).state
unfolding looks hashed head_of owner meets
over_99 = record { first = refl; second = refl; queue = refl; task = refl; word = refl }

over_5 : IsOver (replayed 5).state
unfolding looks hashed head_of owner meets
over_5 = record { first = refl; second = refl; queue = refl; task = refl; word = refl }

over_6 : IsOver (replayed 6).state
unfolding looks hashed head_of owner meets
over_6 = record { first = refl; second = refl; queue = refl; task = refl; word = refl }

pub worked_scripts : WorkedScripts
unfolding looks hashed head_of owner meets
worked_scripts = record {
  asleep_first = refl;
  asleep_first_ends = over_99;
  woken_before_load = refl;
  woken_before_load_ends = over_5;
  woken_before_sleep = refl;
  woken_before_sleep_ends = over_6;
}
