use Rattle.std.proofs.Common.{◌<◌, ◌*◌, ◌/◌, ℕ, sym, refl, subst, arith}
use Rattle.wait_model.specs.declared.layout.TheConstants.{MEMBERS, WORD_BITS}
use Rattle.wq_head.specs.Looking.{AreByBits, AreNone}
use Rattle.wq_head.proofs.OneMoreLook.{looks_on}
use Rattle.wq_head.proofs.LookedWords.{none_on, looked_on, looked_past, set_there}
use Rattle.wq_head.proofs.looking.next_set.Goals as goal

pub returns-then-bit-lt-WORD_BITS-clause-looks : goal.returns-then-bit-lt-WORD_BITS-clause-looks
returns-then-bit-lt-WORD_BITS-clause-looks c = looks_on c.args.task.now c.loop-looking.task c.load_first.new.task
    c.loop-looking.invariant.looks c.load_first.ensures.looks

pub returns-then-bit-lt-WORD_BITS-clause-next : goal.returns-then-bit-lt-WORD_BITS-clause-next
returns-then-bit-lt-WORD_BITS-clause-next c =
    let i = c.loop-looking.invariant in
    let e = c.load_first.ensures in
    let b = c.next_bit-bit.ensures in
    let next = c.load_first.new.looking.next in
    let inside = c.if-bit-lt-WORD_BITS.true in
    let few : next < MEMBERS = omega (arith, e.same, c.loop-looking-test.true) in
    let none = subst (AreNone c.loop-looking.task c.args.looking.now.next) (sym e.same) i.none in
    let told = subst (λ (n : ℕ). AreByBits c.load_first.new.task (WORD_BITS * (n / WORD_BITS))
    c.load_first.new.looking.word WORD_BITS) (sym e.same) e.told in (
      omega (arith, i.low, e.same, b.low),
      omega (arith, few, inside),
      none_on c.loop-looking.task c.load_first.new.task e.looks c.args.looking.now.next next
          c.load_first.new.looking.word c.next_bit-bit.result few none told b.low b.high b.clear,
      refl,
      looked_past c.loop-looking.task c.load_first.new.task e.looks c.args.looking.now.next next
          c.load_first.new.looking.word c.next_bit-bit.result few none told b.low b.high b.clear inside,
      set_there c.loop-looking.task c.load_first.new.task e.looks c.args.looking.now.next next
          c.load_first.new.looking.word c.next_bit-bit.result few none told b.low b.high b.clear inside
          (b.set inside),
    )

pub loop-looking-preserved : goal.loop-looking-preserved
loop-looking-preserved c =
    let i = c.loop-looking.invariant in
    let e = c.load_first.ensures in
    let b = c.next_bit-bit.ensures in
    let next = c.load_first.new.looking.next in
    let few : next < MEMBERS = omega (arith, e.same, c.loop-looking-test.true) in
    let none = subst (AreNone c.loop-looking.task c.args.looking.now.next) (sym e.same) i.none in
    let told = subst (λ (n : ℕ). AreByBits c.load_first.new.task (WORD_BITS * (n / WORD_BITS))
    c.load_first.new.looking.word WORD_BITS) (sym e.same) e.told in record {
      looks = looks_on c.args.task.now c.loop-looking.task c.load_first.new.task i.looks e.looks;
      looked = looked_on c.loop-looking.task c.load_first.new.task e.looks c.args.looking.now.next next
          c.load_first.new.looking.word c.next_bit-bit.result few none told b.low b.high b.clear
          (omega (arith, b.high, c.if-bit-lt-WORD_BITS.false));
      none = none_on c.loop-looking.task c.load_first.new.task e.looks c.args.looking.now.next next
          c.load_first.new.looking.word c.next_bit-bit.result few none told b.low b.high b.clear;
      low = omega (arith, i.low, e.same, b.low);
      loaded = omega (arith, i.loaded, e.loaded, e.same, b.high, c.if-bit-lt-WORD_BITS.false);
    }
