use Rattle.std.proofs.Common.{◌∙◌, ◌≡◌, sym, refl, subst}
use Rattle.std.specs.Prelude.{true, false, None}
use Rattle.wait_model.specs.declared.steps.Step.TheVariants as step
use Rattle.wait_model.specs.Watches.{head_of}
use Rattle.wait_rule.specs.{Known.Known, Says.stored_with}
use Rattle.wait_rule.proofs.KnownLaws.Turns.{unlocked_free}
use Rattle.wq_head.proofs.{PermitHeads.walk_owes, EntryFunctions.keeps_on}
use Rattle.wq_head.proofs.WholeWalk.{turned_over, come_on, walk_passed, walk_spent, walk_stopped}
use Rattle.wq_head.proofs.RousedTasks.{none_stored, none_unlocked, rousing_on, rousing_unlocked}
use Rattle.wq_head.specs.Roused.{RousesNone}
use Rattle.wq_head.proofs.wakes.hold.Goals as goal

pub returns-in-Passed-clause-turned : goal.returns-in-Passed-clause-turned
returns-in-Passed-clause-turned c start up idle tries i =
    let mid = c.walk_hold.new.task in
    let over = c.in-Passed.ensures.over in
    turned_over start mid c.give_back.new.task _ _ false _ refl c.give_back.ensures.given
    (walk_passed c.args.run.now.aim start c.args.task.now mid c.give_back.new.task c.args.run.now.walk
    c.in-Passed.walk i c.in-Passed.ensures.keeps over.0 idle c.requires.small c.requires.full over.1 over.2 over.3
    over.4 c.give_back.ensures.given c.walked.result c.walked.ensures)

pub returns-in-Spent-clause-turned : goal.returns-in-Spent-clause-turned
returns-in-Spent-clause-turned c start up idle tries i =
    let mid = c.walk_hold.new.task in
    let over = c.in-Spent.ensures.over in
    turned_over start mid c.give_back-in-Spent.new.task _ _ true _ refl c.give_back-in-Spent.ensures.given
    (walk_spent c.args.run.now.aim start c.args.task.now mid c.give_back-in-Spent.new.task
    c.args.run.now.walk c.in-Spent.walk i c.in-Spent.ensures.keeps over.0 idle c.requires.small over.1 over.2
    c.give_back-in-Spent.ensures.given c.walked-in-Spent.result c.walked-in-Spent.ensures)

pub returns-in-Stopped-clause-turned : goal.returns-in-Stopped-clause-turned
returns-in-Stopped-clause-turned c start up idle tries i =
    let mid = c.walk_hold.new.task in
    let over = c.in-Stopped.ensures.over in
    turned_over start mid c.give_back-in-Stopped.new.task _ _ false _ refl c.give_back-in-Stopped.ensures.given
    (walk_stopped c.args.run.now.aim start c.args.task.now mid c.give_back-in-Stopped.new.task
    c.args.run.now.walk c.in-Stopped.walk i c.in-Stopped.ensures.keeps over.0 idle c.requires.small over.1
    over.2 over.3 c.give_back-in-Stopped.ensures.given c.walked-in-Stopped.result c.walked-in-Stopped.ensures)

pub returns-in-Breaks-clause-turned : goal.returns-in-Breaks-clause-turned
returns-in-Breaks-clause-turned c start up idle tries i =
    let a = c.args.run.now.aim in
    let mid = c.walk_hold.new.task in
    let over = c.in-Breaks.ensures.over in
    let e = c.break_off-run.ensures in
    let free = unlocked_free (stored_with mid (step.Mark (head_of a.watch) c.break_off-run.result.place)) mid.at false
    in record {
      aim = refl;
      outside = subst (λ (k : Known). k.book.head ≡ None) (sym e.made) free.head;
      turns = record {
        up = up;
        idle = idle;
        full = c.requires.full;
        tries = tries;
        small = c.requires.small;
        stands = record {
          last = mid;
          passed = c.in-Breaks.walk;
          before = c.in-Breaks.before;
          come = come_on a start c.args.task.now mid c.args.run.now.walk c.in-Breaks.walk i.come over.0;
          keeps = keeps_on a start c.args.task.now mid i.keeps c.in-Breaks.ensures.keeps;
          going = over.1;
          calling = over.2;
          meets = over.3;
          breaks = over.4;
          place = e.place;
          left = e.left;
          spent = e.spent;
          calls = e.calls;
          counts = e.counts;
          is = e.made;
        };
      };
    }

-- whom it is to rouse
pub returns-in-Passed-clause-rouses : goal.returns-in-Passed-clause-rouses
returns-in-Passed-clause-rouses c = rousing_unlocked c.args.task.now c.walk_hold.new.task c.give_back.new.task
    c.walk_hold.new.rousing false c.give_back.ensures.given c.walk_hold.ensures.rouses

pub returns-in-Spent-clause-rouses : goal.returns-in-Spent-clause-rouses
returns-in-Spent-clause-rouses c = rousing_unlocked c.args.task.now c.walk_hold.new.task c.give_back-in-Spent.new.task
    c.walk_hold.new.rousing true c.give_back-in-Spent.ensures.given c.walk_hold.ensures.rouses

pub returns-in-Stopped-clause-rouses : goal.returns-in-Stopped-clause-rouses
returns-in-Stopped-clause-rouses c = rousing_unlocked c.args.task.now c.walk_hold.new.task
    c.give_back-in-Stopped.new.task c.walk_hold.new.rousing false c.give_back-in-Stopped.ensures.given
    c.walk_hold.ensures.rouses

pub returns-in-Breaks-clause-rouses : goal.returns-in-Breaks-clause-rouses
returns-in-Breaks-clause-rouses c =
    let mid = c.walk_hold.new.task in
    let mark = step.Mark (head_of c.args.run.now.aim.watch) c.break_off-run.result.place in
    rousing_on c.args.task.now mid c.break_off-run.new.task c.walk_hold.new.rousing
    (subst (RousesNone mid) (sym c.break_off-run.ensures.made) (none_unlocked (stored_with mid mark) mid.at false
    ∙ none_stored mid mark refl)) c.walk_hold.ensures.rouses

-- its head is none of a completion
pub give_back-requires-clause-permits : goal.give_back-requires-clause-permits
give_back-requires-clause-permits c = walk_owes c.args.run.now.aim.watch c.walk_hold.new.task c.requires.full
    c.in-Passed.ensures.over.2.walking.held.at

pub give_back-requires-in-Spent-clause-permits : goal.give_back-requires-in-Spent-clause-permits
give_back-requires-in-Spent-clause-permits c = walk_owes c.args.run.now.aim.watch c.walk_hold.new.task c.requires.full
    c.in-Spent.ensures.over.2.at

pub give_back-requires-in-Stopped-clause-permits : goal.give_back-requires-in-Stopped-clause-permits
give_back-requires-in-Stopped-clause-permits c = walk_owes c.args.run.now.aim.watch c.walk_hold.new.task
    c.requires.full c.in-Stopped.ensures.over.2.0.at
