use Rattle.std.proofs.Common.{◌∙◌, ap, sym, refl, subst, arith}
use Rattle.std.specs.Prelude.{ℕ, ◌≡◌}
use Rattle.wait_model.specs.{declared.watches.Aim.Aim, Watches.head_of}
use Rattle.wait_rule.specs.declared.journal.Item.TheVariants as item
use Rattle.wait_rule.specs.{Known.Known, Says.added}
use Rattle.wq_head.specs.{declared.wakes.WakeRun.WakeRun, declared.wakes.WakeStage.WakeStage, Roused.RousesNone}
use Rattle.wq_head.specs.{Turns.InWalk, Turns.drawn_by, Walks.MayWake}
use Rattle.wq_head.specs.declared.wakes.WakeStage.TheVariants as stage
use Rattle.wq_head.proofs.FullHeads.{head_small}
use Rattle.wq_head.proofs.RousedTasks.{none_added, rousing_on, rousing_from, rousing_none}
use Rattle.wq_head.proofs.WakeTurns.{outside_on, waits_on, served_on, rests_of}
use Rattle.wq_head.proofs.wakes.wake_stretch.Goals as goal

pub serving_load-run-requires-clause-head : goal.serving_load-run-requires-clause-head
serving_load-run-requires-clause-head c =
    let small = (head_small c.args.run.now.aim.watch c.requires.at.1.full) in
    let is = c.head_of-head.ensures in
    omega (arith, small, is)

-- another number is served
pub returns-then-run-clause-turned : goal.returns-then-run-clause-turned
returns-then-run-clause-turned c start is_at =
    let d = c.draw_turn-at in
    let at_h = c.head_of-head.ensures ∙ ap (λ (a : Aim). head_of a.watch) (sym d.ensures.aim) in
    let at = d.ensures.drawn start is_at in record {
      aim = d.ensures.aim;
      outside = outside_on start d.new.task c.serving_load-run.new.task d.new.run c.head_of-head.result
          c.serving_load-run.result at_h c.serving_load-run.ensures.step d.result d.ensures.turn at;
      turns = waits_on start d.new.task c.serving_load-run.new.task d.new.run c.head_of-head.result
          c.serving_load-run.result at_h c.serving_load-run.ensures.step d.result d.ensures.turn at c.if-run.true;
    }

pub returns-then-run-clause-rests : goal.returns-then-run-clause-rests
returns-then-run-clause-rests c = rests_of c.requires.at.0 _ c.args.run.now _ _
    (returns-then-run-clause-turned c c.requires.at.0 c.requires.at.1)

pub returns-then-run-clause-rouses : goal.returns-then-run-clause-rouses
returns-then-run-clause-rouses c =
    let d = c.draw_turn-at in
    rousing_on c.args.task.now c.args.task.now c.serving_load-run.new.task c.args.rousing.now
    (subst (RousesNone d.new.task) (sym c.serving_load-run.ensures.step) (none_added d.new.task
    (item.Serving c.head_of-head.result c.serving_load-run.result) refl) ∙ d.ensures.rouses)
    (rousing_none c.args.task.now c.args.rousing.now c.requires.none)

drawn_again : (old : Known) (r : WakeRun) (served : ℕ) (at : WakeStage) → drawn_by old r at
    ≡ drawn_by old (record { aim = r.aim; ticket = r.ticket; served = served; walk = r.walk }) at
drawn_again old r served stage.First = refl
drawn_again old r served stage.FirstTurn = refl
drawn_again old r served stage.Next = refl
drawn_again old r served stage.NextTurn = refl

pub returns-then-run-clause-refused : goal.returns-then-run-clause-refused
returns-then-run-clause-refused c =
    let d = c.draw_turn-at in
    let served = c.serving_load-run.result in
    let at_h = c.head_of-head.ensures ∙ ap (λ (a : Aim). head_of a.watch) (sym d.ensures.aim) in
    let drawn = d.ensures.draws ∙ drawn_again c.args.task.now d.new.run served c.args.stage in record {
      looked = c.serving_load-run.ensures.step ∙ (λ i. added (drawn i) (item.Serving (at_h i) served));
      other = c.if-run.true;
    }

pub begin_hold-requires-clause-served : goal.begin_hold-requires-clause-served
begin_hold-requires-clause-served c =
    let d = c.draw_turn-at in
    let at_h = c.head_of-head.ensures ∙ ap (λ (a : Aim). head_of a.watch) (sym d.ensures.aim) in (
      c.requires.at.0,
      served_on c.requires.at.0 d.new.task c.serving_load-run.new.task d.new.run c.head_of-head.result
          c.serving_load-run.result at_h c.serving_load-run.ensures.step d.result d.ensures.turn
          (d.ensures.drawn c.requires.at.0 c.requires.at.1) c.if-run.false,
    )

pub hold-requires-clause-walks : goal.hold-requires-clause-walks
hold-requires-clause-walks c =
    let d = c.draw_turn-at in
    let start = c.requires.at.0 in
    let at_h = c.head_of-head.ensures ∙ ap (λ (a : Aim). head_of a.watch) (sym d.ensures.aim) in
    let served = served_on start d.new.task c.serving_load-run.new.task d.new.run c.head_of-head.result
    c.serving_load-run.result at_h c.serving_load-run.ensures.step d.result d.ensures.turn
    (d.ensures.drawn start c.requires.at.1) c.if-run.false in (
      start,
      subst (λ (a : Aim). InWalk a start c.begin_hold.new.task c.begin_hold.new.run.walk)
          (sym c.begin_hold.ensures.aim) (c.begin_hold.ensures.walks start served),
    )

pub returns-clause-turned : goal.returns-clause-turned
returns-clause-turned c start is_at =
    let d = c.draw_turn-at in
    let at_h = c.head_of-head.ensures ∙ ap (λ (a : Aim). head_of a.watch) (sym d.ensures.aim) in
    let served = served_on start d.new.task c.serving_load-run.new.task d.new.run c.head_of-head.result
    c.serving_load-run.result at_h c.serving_load-run.ensures.step d.result d.ensures.turn
    (d.ensures.drawn start is_at) c.if-run.false in
    let walks = subst (λ (a : Aim). InWalk a start c.begin_hold.new.task c.begin_hold.new.run.walk)
    (sym c.begin_hold.ensures.aim) (c.begin_hold.ensures.walks start served) in
    let t = c.hold.ensures.turned start is_at.up is_at.idle
    (subst (λ (a : Aim). MayWake a.watch start) (sym (c.begin_hold.ensures.aim ∙ d.ensures.aim)) is_at.tries) walks in
    record { aim = t.aim ∙ (c.begin_hold.ensures.aim ∙ d.ensures.aim); outside = t.outside; turns = t.turns }

pub returns-clause-rests : goal.returns-clause-rests
returns-clause-rests c = rests_of c.requires.at.0 _ c.args.run.now _ _
    (returns-clause-turned c c.requires.at.0 c.requires.at.1)

pub returns-clause-rouses : goal.returns-clause-rouses
returns-clause-rouses c =
    let d = c.draw_turn-at in
    rousing_from c.args.task.now c.begin_hold.new.task c.hold.new.task c.hold.new.rousing
    (c.begin_hold.ensures.rouses ∙ (subst (RousesNone d.new.task) (sym c.serving_load-run.ensures.step)
    (none_added d.new.task (item.Serving c.head_of-head.result c.serving_load-run.result) refl) ∙ d.ensures.rouses))
    c.hold.ensures.rouses

pub returns-clause-refused : goal.returns-clause-refused
returns-clause-refused c = c.hold.ensures.refused c.args.task.now c.args.stage
