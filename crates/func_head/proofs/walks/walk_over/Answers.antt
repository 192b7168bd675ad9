-- One more call, and what the walk is at its end.
use Rattle.std.proofs.Common.{arith, rules}
use Rattle.std.proofs.lemmas.Grind.{common_steps}
use Rattle.func_head.specs.Walks.{entry, seen_by}
use Rattle.func_head.proofs.WalkSteps.{calls_on, calls_last, calls_over, few_of, stay_of}
use Rattle.func_head.proofs.walks.walk_over.Goals as goal

pub calls-preserved : goal.calls-preserved
calls-preserved g c =
    let below = c.calls-test.true in
    let same = c.calls.invariant.same in
    record {
      in_range = grind (arith, common_steps, below);
      same = grind (arith, common_steps, same);
      walk = calls_on _ c.args.mode c.args.key.now c.calls.turn c.call.new.turn c.calls.entries c.calls.at
          c.index-entries-at.result c.call.new.self _ c.calls.invariant.walk (search rules) (search rules)
          (search rules) (search rules) (search rules);
    }

pub returns-in-Some-clause-walk : goal.returns-in-Some-clause-walk
returns-in-Some-clause-walk g c = calls_last _ c.args.mode c.args.key.now c.calls.turn c.call.new.turn
    c.calls.entries c.calls.at c.index-entries-at.result c.call.new.self c.in-Some.end _ c.walked.result
    c.calls.invariant.walk (search rules) (search rules) (search rules) (search rules) (search rules) (search rules)

pub returns-in-Some-clause-few : goal.returns-in-Some-clause-few
returns-in-Some-clause-few g c =
    few_of c.args.mode c.args.count c.args.key.now
    (seen_by c.args.entries.now (λ e. entry e.id e.exclusive e.priority
    ((goal.WakeFn-dyn g (e.func.vtable, e.func.value)).meaning e.func.value)))
    _ c.walked.result (returns-in-Some-clause-walk g c)

pub returns-in-Some-clause-stay : goal.returns-in-Some-clause-stay
returns-in-Some-clause-stay g c =
    stay_of c.args.mode c.args.count c.args.key.now
    (seen_by c.args.entries.now (λ e. entry e.id e.exclusive e.priority
    ((goal.WakeFn-dyn g (e.func.vtable, e.func.value)).meaning e.func.value)))
    _ c.walked.result (returns-in-Some-clause-walk g c)

pub returns-clause-few : goal.returns-clause-few
returns-clause-few g c =
    few_of c.args.mode c.args.count c.args.key.now
    (seen_by c.args.entries.now (λ e. entry e.id e.exclusive e.priority
    ((goal.WakeFn-dyn g (e.func.vtable, e.func.value)).meaning e.func.value)))
    _ c.walked-2.result (calls_over _ c.args.mode c.args.key.now c.calls.turn c.calls.entries c.calls.at _
    c.walked-2.result c.calls.invariant.walk c.calls-test.false c.walked-2.ensures)

pub returns-clause-stay : goal.returns-clause-stay
returns-clause-stay g c =
    stay_of c.args.mode c.args.count c.args.key.now
    (seen_by c.args.entries.now (λ e. entry e.id e.exclusive e.priority
    ((goal.WakeFn-dyn g (e.func.vtable, e.func.value)).meaning e.func.value)))
    _ c.walked-2.result (calls_over _ c.args.mode c.args.key.now c.calls.turn c.calls.entries c.calls.at _
    c.walked-2.result c.calls.invariant.walk c.calls-test.false c.walked-2.ensures)
