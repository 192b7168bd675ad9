use Rattle.std.proofs.Common.{◌≤◌, arith}
use Rattle.wait_model.specs.declared.layout.TheConstants.{BREAK}
use Rattle.wait_core.proofs.ScannedArrivals.{walk_begins, walk_ends, walk_calls, walk_passes, walk_breaks}
use Rattle.wait_core.proofs.arrivals.arrive.Goals as goal

pub loop-calls-init : goal.loop-calls-init
loop-calls-init c = record {
  goes_on = λ s n shown sound. walk_begins c.args.words.now s n shown sound c.args.head c.args.watch c.args.place _
      c.args.called (omega (arith, c.min-least.ensures));
  fits = λ h. h;
}

pub returns-in_default-clause-arrived : goal.returns-in_default-clause-arrived
returns-in_default-clause-arrived c = λ s n shown sound.
    walk_ends c.args.words.now s n shown sound c.args.head c.args.watch c.loop-calls.calls c.loop-calls.least _
    (c.loop-calls.invariant.goes_on s n shown sound) c.loop-calls-test.true
    (c.in_default.ensures.member s n shown sound)

pub returns-then-is_called-clause-arrived : goal.returns-then-is_called-clause-arrived
returns-then-is_called-clause-arrived c = λ s n shown sound.
    walk_calls c.args.words.now s n shown sound c.args.head c.args.watch c.loop-calls.calls c.loop-calls.least _
    (c.loop-calls.invariant.goes_on s n shown sound) c.loop-calls-test.true c.in-Some.member
    (c.in-Some.ensures.member s n shown sound) _ (c.is_called.ensures s n shown sound) c.if-is_called.true

pub loop-calls-preserved : goal.loop-calls-preserved
loop-calls-preserved c = record {
  goes_on = λ s n shown sound.
      walk_passes c.args.words.now s n shown sound c.args.head c.args.watch c.loop-calls.calls c.loop-calls.least _
      (c.loop-calls.invariant.goes_on s n shown sound) c.loop-calls-test.true c.in-Some.member
      (c.in-Some.ensures.member s n shown sound) _ (c.is_called.ensures s n shown sound) _
      (omega (arith, c.rank-least.ensures)) c.if-is_called.false;
  fits = λ h. let few : c.loop-calls.calls ≤ BREAK = c.loop-calls-test.true in omega arith;
}

pub returns-clause-arrived : goal.returns-clause-arrived
returns-clause-arrived c = λ s n shown sound.
    walk_breaks c.args.words.now s n shown sound c.args.head c.args.watch c.loop-calls.calls c.loop-calls.least _
    (c.loop-calls.invariant.goes_on s n shown sound) c.loop-calls-test.false _
    (c.member_ranked-member.ensures.member s n shown sound) _ c.is_some.ensures
