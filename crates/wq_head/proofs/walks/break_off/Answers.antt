use Rattle.std.proofs.Common.{◌∙◌, ◌≡◌, ℕ, ap, sym, subst, arith}
use Rattle.std.specs.Prelude.{false}
use Rattle.wait_model.specs.declared.steps.Step.TheVariants as step
use Rattle.wait_model.specs.Watches.{head_of}
use Rattle.wait_rule.specs.{Known.Known, Says.stored_with, Says.unlocked_with}
use Rattle.wq_head.specs.{Turns.next_at, Walking.Counts}
use Rattle.wq_head.proofs.{PermitHeads.walk_owes, FullHeads.head_small, BreakingHold.place_small, BrokenHold.may_put}
use Rattle.wq_head.proofs.BrokenHold.{breaks_off}
use Rattle.wq_head.proofs.walks.break_off.Goals as goal

pub mark_word_of-requires-clause-head : goal.mark_word_of-requires-clause-head
mark_word_of-requires-clause-head c =
    let small = (head_small c.args.aim.watch c.requires.full) in
    let is = c.head_of-head.ensures in
    omega (arith, small, is)

pub mark_word_of-requires-clause-place : goal.mark_word_of-requires-clause-place
mark_word_of-requires-clause-place c =
    let q = c.requires in
    place_small c.args.aim q.full c.args.task.now c.args.walk c.args.before q.going q.calling q.meets q.before
    c.mark_place-place.result c.mark_place-place.ensures

pub mark_member-requires-clause-may : goal.mark_member-requires-clause-may
mark_member-requires-clause-may c =
    let q = c.requires in
    may_put c.args.aim q.full c.args.task.now c.args.walk c.args.before q.going q.calling q.meets q.before
    c.mark_place-place.result c.mark_place-place.ensures c.head_of-head.result c.head_of-head.ensures
    c.mark_word_of.result c.mark_word_of.ensures

pub returns : goal.returns
returns c =
    let q = c.requires in
    let r = c.resumed.ensures in
    let made = breaks_off c.args.aim q.full c.args.task.now c.args.walk c.args.before q.going q.calling q.meets q.before
    c.mark_place-place.result c.mark_place-place.ensures c.head_of-head.result c.head_of-head.ensures
    c.mark_word_of.result c.mark_word_of.ensures c.mark_member.new.task c.give_back.new.task c.mark_member.ensures.step
    c.give_back.ensures.given in record {
      made = subst (λ (p : ℕ). c.give_back.new.task ≡ unlocked_with (stored_with c.args.task.now
          (step.Mark (head_of c.args.aim.watch) p)) c.args.task.now.at false) (sym r.place) made;
      passes = c.put.ensures ∙ (c.give_back.ensures.head
          ∙ (ap (λ (k : Known). k.at) c.mark_member.ensures.step ∙ q.calling.walking.held.at));
      place = r.place ∙ c.mark_place-place.ensures;
      counts = λ real n. subst (λ (p : ℕ). Counts c.resumed.result (next_at p real)) (sym r.place) (r.counts real n);
      left = r.left;
      spent = r.spent;
      calls = r.calls;
    }

pub give_back-requires-clause-permits : goal.give_back-requires-clause-permits
give_back-requires-clause-permits c = walk_owes c.args.aim.watch c.mark_member.new.task c.requires.full
    (ap (λ (k : Known). k.at) c.mark_member.ensures.step ∙ c.requires.calling.walking.held.at)
