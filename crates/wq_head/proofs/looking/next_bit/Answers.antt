use Rattle.std.proofs.Common.{◌≡◌, ◌<◌, ◌/◌, ◌^◌, arith}
use Rattle.std.proofs.Math.Nat.{div-le_self}
use Rattle.wq_head.proofs.NextBits.{none_from, next_low, next_clear, next_set}
use Rattle.wq_head.proofs.looking.next_bit.Goals as goal

pub returns-then-word-eq0-clause-clear : goal.returns-then-word-eq0-clause-clear
returns-then-word-eq0-clause-clear c =
    let none : c.args.word / 2 ^ c.args.from ≡ 0 =
    omega (arith, c.if-word-eq0.true, div-le_self c.args.word (2 ^ c.args.from)) in
    λ b low few. none_from c.args.word c.args.from b none low

pub returns-then-rest-eq0-clause-clear : goal.returns-then-rest-eq0-clause-clear
returns-then-rest-eq0-clause-clear c = λ b low few. none_from c.args.word c.args.from b c.if-rest-eq0.true low

pub returns-else-rest-eq0-clause-high : goal.returns-else-rest-eq0-clause-high
returns-else-rest-eq0-clause-high c =
    let some : 0 < c.args.word / 2 ^ c.args.from = omega (arith, c.if-rest-eq0.false) in
    let small : c.args.word / 2 ^ c.args.from < 2 ^ 64 =
    omega (arith, c.ranges.word.fits, div-le_self c.args.word (2 ^ c.args.from)) in
    let low = next_low c.args.word c.args.from c.ranges.word.fits some small in omega (arith, low)

pub returns-else-rest-eq0-clause-clear : goal.returns-else-rest-eq0-clause-clear
returns-else-rest-eq0-clause-clear c =
    let some : 0 < c.args.word / 2 ^ c.args.from = omega (arith, c.if-rest-eq0.false) in
    let small : c.args.word / 2 ^ c.args.from < 2 ^ 64 =
    omega (arith, c.ranges.word.fits, div-le_self c.args.word (2 ^ c.args.from)) in
    next_clear c.args.word c.args.from c.ranges.word.fits some small

pub returns-else-rest-eq0-clause-set : goal.returns-else-rest-eq0-clause-set
returns-else-rest-eq0-clause-set c =
    let some : 0 < c.args.word / 2 ^ c.args.from = omega (arith, c.if-rest-eq0.false) in
    let small : c.args.word / 2 ^ c.args.from < 2 ^ 64 =
    omega (arith, c.ranges.word.fits, div-le_self c.args.word (2 ^ c.args.from)) in
    λ inside. next_set c.args.word c.args.from c.ranges.word.fits some small
