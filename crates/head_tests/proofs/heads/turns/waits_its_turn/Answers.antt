use Rattle.std.proofs.Common.{ℕ, ◌<◌, inl, lit<, subst, sym}
use Rattle.head_tests.proofs.heads.turns.waits_its_turn.Goals as goal

pub give_back-requires-clause-permits : goal.give_back-requires-clause-permits
give_back-requires-clause-permits g c =
    let waits = c.in-Err.ensures.turned _ c.draw_lock-ticket.ensures.awaits in
    let took = c.in-Ok.ensures.turned _ waits in
    inl (subst (λ (h : ℕ). h < 320) (sym took.carries.at) (lit< tt))
