use Rattle.std.proofs.Common.{refl, arith, sym, ◌∙◌, ap, subst, ◌≡◌, ℕ, ◌<◌, ◌↔◌, List, Some, slice_get, slice_index_or}
use Rattle.std.proofs.Common.{is_some, false}
use Rattle.wait_model.specs.{declared.layout.TheConstants.TASKS, declared.calls.Ran.Ran}
use Rattle.wait_model.specs.{declared.points.Progress.Progress, Runs.state_of, Openings.IsOpened}
use Rattle.std.proofs.lemmas.Option.{get_or_from_slice_get}
use Rattle.wait_model.specs.declared.points.Progress.TheVariants as now
use Rattle.wait_model.proofs.WaitLaws.Openings.{fresh_told}
use Rattle.wait_core.specs.Stepped.{call_shown}
use Rattle.wait_core.proofs.engine.Core.call_of.Goals as goal

-- the stored progress is that of the run's state
progress_is : (run seen : List Ran) (points : List Progress) (t i : ℕ) (p : Progress)
    → ((k : ℕ) → k < TASKS → slice_get points k ≡ Some ((state_of run).progress k)) → run ≡ seen → t < TASKS → i ≡ t
    → p ≡ slice_index_or points i p → (state_of seen).progress t ≡ p
progress_is run seen points t i p has is lt at el =
    ap (λ (r : List Ran). (state_of r).progress t) (sym is)
    ∙ sym (el ∙ get_or_from_slice_get points i ((state_of run).progress t) p
    (ap (slice_get points) at ∙ has t lt))

-- what the answer says, by the progress
never_of : (run : List Ran) (t : ℕ) (p : Progress) → (state_of run).progress t ≡ p
    → (is_some (call_shown p) ≡ false) ↔ (IsOpened t run → ⊥)
never_of run t now.Fresh h = (λ _. (fresh_told run t).0 h, λ _. refl)
never_of run t now.Idle h = (
  λ z. absurd (cc),
  λ n.
      let z : now.Idle ≡ now.Fresh = sym h ∙ (fresh_told run t).1 n in absurd (cc),
)
never_of run t (now.Open call p) h = (
  λ z. absurd (cc),
  λ n.
      let z : now.Open call p ≡ now.Fresh = sym h ∙ (fresh_told run t).1 n in absurd (cc),
)

is-Fresh : (c : goal.In-Fresh) → (state_of c.args.self.now).progress c.args.task ≡ now.Fresh
is-Fresh c = progress_is c.self.inside.run.items c.args.self.now c.self.inside.progress.items c.args.task
    c.from.result now.Fresh c.self.invariant.core.progress c.self.view_is (omega arith) c.from.ensures
    (subst (λ (p : Progress). p ≡ slice_index_or c.self.inside.progress.items c.from.result p) c.in-Fresh.is
    c.index.ensures)

pub returns-in-Fresh-clause-never : goal.returns-in-Fresh-clause-never
returns-in-Fresh-clause-never c = never_of c.args.self.now c.args.task now.Fresh (is-Fresh c)

is-Idle : (c : goal.In-Idle) → (state_of c.args.self.now).progress c.args.task ≡ now.Idle
is-Idle c = progress_is c.self.inside.run.items c.args.self.now c.self.inside.progress.items c.args.task
    c.from.result now.Idle c.self.invariant.core.progress c.self.view_is (omega arith) c.from.ensures
    (subst (λ (p : Progress). p ≡ slice_index_or c.self.inside.progress.items c.from.result p) c.in-Idle.is
    c.index.ensures)

pub returns-in-Idle-clause-call : goal.returns-in-Idle-clause-call
returns-in-Idle-clause-call c = ap call_shown (sym (is-Idle c))

pub returns-in-Idle-clause-never : goal.returns-in-Idle-clause-never
returns-in-Idle-clause-never c = never_of c.args.self.now c.args.task now.Idle (is-Idle c)

is-Open : (c : goal.In-Open) → (state_of c.args.self.now).progress c.args.task ≡ (now.Open c.in-Open.call
    c.in-Open.point)
is-Open c = progress_is c.self.inside.run.items c.args.self.now c.self.inside.progress.items c.args.task
    c.from.result (now.Open c.in-Open.call c.in-Open.point) c.self.invariant.core.progress c.self.view_is (omega arith)
    c.from.ensures
    (subst (λ (p : Progress). p ≡ slice_index_or c.self.inside.progress.items c.from.result p) c.in-Open.is
    c.index.ensures)

pub returns-in-Open-clause-call : goal.returns-in-Open-clause-call
returns-in-Open-clause-call c = ap call_shown (sym (is-Open c))

pub returns-in-Open-clause-never : goal.returns-in-Open-clause-never
returns-in-Open-clause-never c = never_of c.args.self.now c.args.task (now.Open c.in-Open.call c.in-Open.point)
    (is-Open c)
