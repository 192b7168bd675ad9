use Rattle.std.proofs.Common.{refl, false, arith}
use Rattle.wq_head.proofs.{BitLooks.clear_on, BitLooks.saw_word, FoundMembers.found_none, OneMoreLook.holding_on}
use Rattle.wq_head.proofs.OneMoreLook.{looks_on}
use Rattle.wq_head.proofs.found_queues.clear_words.Goals as goal

pub loop-i-preserved : goal.loop-i-preserved
loop-i-preserved c =
    let l = c.held_member_load-word.ensures in
    let old = c.args.task.now in
    let now = c.loop-i.task in
    let new = c.held_member_load-word.new.task in
    let w = c.held_member_load-word.result in
    let held = holding_on old now c.loop-i.invariant.looks c.requires.held in
    let looks = saw_word now.at c.loop-i.i w now new held refl l.saw in
    found_none old now new c.loop-i.i w false c.loop-i.invariant looks l.looks
    (λ k small. c.next_bit.ensures.clear k (omega arith) (omega (arith, small, c.if-next_bit-lt-WORD_BITS.false)))

pub returns-then-next_bit-lt-WORD_BITS : goal.returns-then-next_bit-lt-WORD_BITS
returns-then-next_bit-lt-WORD_BITS c =
    let l = c.held_member_load-word.ensures in
    let old = c.args.task.now in
    let now = c.loop-i.task in
    let new = c.held_member_load-word.new.task in
    let w = c.held_member_load-word.result in
    let held = holding_on old now c.loop-i.invariant.looks c.requires.held in
    let looks = saw_word now.at c.loop-i.i w now new held refl l.saw in record {
      looks = looks_on old now new c.loop-i.invariant.looks looks.looks;
      within = omega (arith, c.loop-i-test.true, c.loop-i.auto.i-end);
      none = λ m over under. clear_on now new looks.looks m (c.loop-i.invariant.told m over under);
    }
