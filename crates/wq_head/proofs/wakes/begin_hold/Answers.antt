use Rattle.std.proofs.Common.{◌∙◌, ap, sym, refl, subst, arith}
use Rattle.std.specs.Prelude.{Some}
use Rattle.wait_model.specs.declared.steps.Step.TheVariants as step
use Rattle.wait_model.specs.Tables.{mark_of}
use Rattle.wait_rule.specs.declared.journal.Item.TheVariants as item
use Rattle.wait_rule.specs.{Known.Known, Queues.walk_of_hold}
use Rattle.wq_head.specs.{Roused.RousesNone, Turns.InWalk, Walking.with_left}
use Rattle.wq_head.proofs.{FullHeads.head_small, RousedTasks.none_added, RousedTasks.none_marked}
use Rattle.wq_head.proofs.WakeTurns.{not_next, begins_turn, begins_up, begins_resumes, begins_walks, goes_turn}
use Rattle.wq_head.proofs.WakeTurns.{goes_resumes, goes_takes, goes_walks}
use Rattle.wq_head.proofs.wakes.begin_hold.Goals as goal

pub lock_step-requires-clause-turn : goal.lock_step-requires-clause-turn
lock_step-requires-clause-turn c =
    let v = c.requires.served in
    goes_turn v.0 c.args.task.now c.args.run.now c.args.stage v.1 c.args.head c.requires.head c.in-NextTurn.is

pub lock_step-requires-clause-head : goal.lock_step-requires-clause-head
lock_step-requires-clause-head c =
    let small = (head_small c.args.run.now.aim.watch c.requires.served.1.at.full) in
    let is = c.requires.head in
    omega (arith, small, is)

pub lock_step-requires-clause-simple : goal.lock_step-requires-clause-simple
lock_step-requires-clause-simple c high =
    let small = (head_small c.args.run.now.aim.watch c.requires.served.1.at.full) in
    let is = c.requires.head in
    absurd (omega (arith, small, is, high))

pub lock_step-requires-clause-resumes : goal.lock_step-requires-clause-resumes
lock_step-requires-clause-resumes c =
    let v = c.requires.served in
    goes_resumes v.0 c.args.task.now c.args.run.now c.args.stage v.1 c.args.head c.requires.head c.in-NextTurn.is

pub mark_member-requires-clause-may : goal.mark_member-requires-clause-may
mark_member-requires-clause-may c =
    let v = c.requires.served in
    goes_takes v.0 c.args.task.now c.args.run.now c.args.stage v.1 c.args.head c.requires.head c.in-NextTurn.is
    c.lock_step.new.task c.lock_step.ensures.step

pub returns-in-NextTurn-clause-walks : goal.returns-in-NextTurn-clause-walks
returns-in-NextTurn-clause-walks c start v =
    goes_walks start c.args.task.now c.args.run.now c.args.stage v c.args.head c.requires.head c.in-NextTurn.is
    c.lock_step.new.task c.lock_step.ensures.step c.mark_member.new.task c.mark_member.ensures.step

pub returns-in-NextTurn-clause-rouses : goal.returns-in-NextTurn-clause-rouses
returns-in-NextTurn-clause-rouses c =
    let l = c.lock_step.ensures.step in
    let rest = Some (with_left c.args.run.now.aim c.args.run.now.walk.left) in
    subst (RousesNone c.args.task.now) (sym c.mark_member.ensures.step) (none_marked c.lock_step.new.task (mark_of 0)
    ∙ subst (RousesNone c.args.task.now) (sym l.3) (none_added c.args.task.now
    (item.Made (step.Lock c.args.head (walk_of_hold c.args.head rest) l.0)) refl))

-- the first hold
pub lock_step-requires-in_default : goal.lock_step-requires-in_default
lock_step-requires-in_default c =
    let v = c.requires.served in
    let first = not_next c.args.stage v.1.turn c.in_default.not-NextTurn in
    let small = (head_small c.args.run.now.aim.watch v.1.at.full) in
    let is = c.requires.head in record {
      of = c.requires.of;
      up = begins_up v.0 c.args.task.now c.args.run.now c.args.stage v.1 c.args.head c.requires.head first;
      turn = begins_turn v.0 c.args.task.now c.args.run.now c.args.stage v.1 c.args.head c.requires.head first;
      head = omega (arith, small, is);
      aims = sym c.requires.head;
      simple = λ high. absurd (omega (arith, small, is, high));
      resumes = begins_resumes v.0 c.args.task.now c.args.run.now c.args.stage v.1 c.args.head c.requires.head first;
    }

pub returns-in_default : goal.returns-in_default
returns-in_default c =
    let l = c.lock_step-in_default.ensures.step in
    let k = c.lock_step-in_default.new.task in record {
      of = ap (λ (j : Known). j.domain) l.3 ∙ c.requires.of;
      aim = refl;
      walks = λ start v. subst (InWalk c.args.run.now.aim start k) (sym c.begun-run.ensures)
          (begins_walks start c.args.task.now c.args.run.now c.args.stage v c.args.head c.requires.head
          (not_next c.args.stage v.turn c.in_default.not-NextTurn) k l);
      rouses = subst (RousesNone c.args.task.now) (sym l.3) (none_added c.args.task.now
          (item.Made (step.Lock c.args.head (walk_of_hold c.args.head (Some c.args.run.now.aim)) l.0)) refl);
    }
