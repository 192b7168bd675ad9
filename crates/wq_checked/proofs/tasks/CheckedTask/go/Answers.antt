use Rattle.std.proofs.Common.{rules, ◌≡◌, subst}
use Rattle.std.specs.Prelude.{◌||◌, true, None, Option}
use Rattle.wq_checked.specs.{Checked.Checked, Locks.Passes, Locks.awaited_in, Reasons.stopped_reason}
use Rattle.wq_checked.specs.declared.calls.Awaited.{Awaited}
use Rattle.wq_checked.proofs.Drawn.{goes_drawn}
use Rattle.wq_checked.proofs.tasks.CheckedTask.go.Goals as goal

pub returns-in_default : goal.returns-in_default
returns-in_default c =
    let t = c.self.inside in
    let g = c.go_on-next in
    let under : stopped_reason t.running ≡ None = search rules in
    record {
      refused = tt;
      same = tt;
      under = search rules;
      goes = search rules;
      asks = search rules;
      rouses = search rules;
      awaits = goes_drawn (c.args.asks || true) t.kept t.task t.running g.new.task g.result.0 g.result.1 under c.self.invariant.1
          (g.ensures.goes true);
      passes = subst (λ (x : Checked). Passes (awaited_in x.running) g.result.1 c.args.passed.now c.passed_on.result)
          c.self.view_is (subst (λ (o : Option Awaited). Passes o g.result.1 c.args.passed.now c.passed_on.result)
          c.awaited.ensures c.passed_on.ensures);
      none = tt;
      passes_none = tt;
    }
