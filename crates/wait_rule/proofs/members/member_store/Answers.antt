use Rattle.std.proofs.Common.{refl, ◌∙◌, sym, subst, arith}
use Rattle.wait_rule.specs.{Known.Known, Queues.MayStoreMember}
use Rattle.wait_rule.proofs.{TableSteps.BitMoves.bit_moves, KnownLaws.CarriedSteps.member_carried}
use Rattle.wait_rule.proofs.{KnownLaws.StepCalls.may_step, KnownLaws.StepCalls.known_by}
use Rattle.wait_rule.proofs.members.member_store.Goals as goal

pub fetch_or-requires : goal.fetch_or-requires
fetch_or-requires c =
    let may = subst (λ (k : Known). MayStoreMember k c.args.head c.args.index c.args.on) (sym c.task.view_is)
    c.requires.may in
    may_step c.task.view_is c.requires.of c.domain.view_is c.domain.invariant
    (omega (arith, c.requires.head, c.requires.index, c.member_at-at.ensures))
    (bit_moves _ _ _ c.task.invariant.1 c.args.head c.args.index _ 0 _ c.requires.head c.requires.index
    c.member_at-at.ensures may.held may.named (may.is ∙ c.if-on.true))

pub fetch_and-requires : goal.fetch_and-requires
fetch_and-requires c =
    let may = subst (λ (k : Known). MayStoreMember k c.args.head c.args.index c.args.on) (sym c.task.view_is)
    c.requires.may in
    may_step c.task.view_is c.requires.of c.domain.view_is c.domain.invariant
    (omega (arith, c.requires.head, c.requires.index, c.member_at-at.ensures))
    (bit_moves _ _ _ c.task.invariant.1 c.args.head c.args.index _ 0 _ c.requires.head c.requires.index
    c.member_at-at.ensures may.held may.named (may.is ∙ c.if-on.false))

pub returns-then-on : goal.returns-then-on
returns-then-on c =
    let now = known_by c.fetch_or.ensures.0 c.fetch_or.ensures.2 refl c.task.view_is in
    record { step = now; carries = member_carried c.args.task.now _ now }

pub returns-else-on : goal.returns-else-on
returns-else-on c =
    let now = known_by c.fetch_and.ensures.0 c.fetch_and.ensures.2 refl c.task.view_is in
    record { step = now; carries = member_carried c.args.task.now _ now }
