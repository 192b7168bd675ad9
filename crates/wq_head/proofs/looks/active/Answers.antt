use Rattle.std.proofs.Common.{◌≡◌, arith, subst}
use Rattle.wait_model.specs.declared.layout.TheConstants.{MEMBER_WORDS}
use Rattle.wq_head.proofs.HeadLooks.{HasFoundNone, none_more, bit_found, few_looks, carried, none_scanned}
use Rattle.wq_head.proofs.HeadLooks.{none_ended, none_looks}
use Rattle.wq_head.proofs.looks.active.Goals as goal

pub returns-then-member_load-ne0 : goal.returns-then-member_load-ne0
returns-then-member_load-ne0 c =
    let l = c.member_load.ensures in
    let old = c.args.task.now in
    let now = c.loop-i.task in
    let new = c.member_load.new.task in
    let i = c.loop-i.i in
    let w = c.member_load.result in
    let h = c.args.head in record {
      scanned = bit_found old now new h i w c.loop-i.invariant l.step l.looks l.carries c.if-member_load-ne0.true;
      ended = λ no. absurd (cc);
      looks = few_looks old now new h i w c.loop-i.invariant l.step l.looks l.carries (omega (
        arith,
        c.loop-i-test.true,
      ));
      carries = carried old now new h i w c.loop-i.invariant l.step l.looks l.carries;
    }

pub loop-i-preserved : goal.loop-i-preserved
loop-i-preserved c =
    let l = c.member_load.ensures in
    none_more c.args.task.now c.loop-i.task c.member_load.new.task c.args.head c.loop-i.i c.member_load.result
    c.loop-i.invariant l.step l.looks l.carries (omega (arith, c.if-member_load-ne0.false))

pub returns : goal.returns
returns c =
    let end = c.loop-i.auto in
    let all : c.loop-i.i ≡ MEMBER_WORDS = omega (arith, end, c.loop-i-test.false) in
    let s = subst (HasFoundNone c.args.task.now c.loop-i.task c.args.head) all c.loop-i.invariant in record {
      scanned = none_scanned c.args.task.now c.loop-i.task c.args.head s;
      ended = λ _. none_ended c.args.task.now c.loop-i.task c.args.head s;
      looks = none_looks c.args.task.now c.loop-i.task c.args.head s;
      carries = c.loop-i.invariant.carries;
    }
