use Rattle.std.proofs.Common.{sym, refl, subst, arith}
use Rattle.wait_rule.specs.declared.journal.Item.TheVariants as item
use Rattle.wq_head.specs.{Roused.RousesNone, Turns.IsAtWake}
use Rattle.wq_head.proofs.{FullHeads.head_small, RousedTasks.none_added, WakeTurns.draws_next}
use Rattle.wq_head.proofs.wakes.draw_turn.Goals as goal

pub draw-run-requires-clause-head : goal.draw-run-requires-clause-head
draw-run-requires-clause-head c =
    let small = (head_small c.args.run.now.aim.watch c.requires.at.1.full) in
    let is = c.requires.head in
    omega (arith, small, is)

pub draw-run-requires-in-Next-clause-head : goal.draw-run-requires-in-Next-clause-head
draw-run-requires-in-Next-clause-head c =
    let small = (head_small c.args.run.now.aim.watch c.requires.at.1.full) in
    let is = c.requires.head in
    omega (arith, small, is)

pub returns-in-First-clause-rouses : goal.returns-in-First-clause-rouses
returns-in-First-clause-rouses c = subst (RousesNone c.args.task.now) (sym c.draw-run.ensures.step)
    (none_added c.args.task.now (item.Drawn c.args.head c.draw-run.result) refl)

pub returns-in-Next-clause-drawn : goal.returns-in-Next-clause-drawn
returns-in-Next-clause-drawn c start is_at = draws_next start c.args.task.now c.args.run.now c.draw-run-in-Next.new.task
    c.args.head c.draw-run-in-Next.result c.requires.head c.draw-run-in-Next.ensures.step
    (subst (IsAtWake start c.args.task.now c.args.run.now) c.in-Next.is is_at)

pub returns-in-Next-clause-rouses : goal.returns-in-Next-clause-rouses
returns-in-Next-clause-rouses c = subst (RousesNone c.args.task.now) (sym c.draw-run-in-Next.ensures.step)
    (none_added c.args.task.now (item.Drawn c.args.head c.draw-run-in-Next.result) refl)
