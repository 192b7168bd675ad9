use Rattle.std.proofs.Common.{◌+◌, Option, subst, sym}
use Rattle.wq_head.specs.{declared.looks.ShownMember.ShownMember, Looks.IsSurveyed, Looks.first_with}
use Rattle.wq_head.proofs.SurveyedMembers.{surveyed_more}
use Rattle.wq_head.proofs.looks.survey_member.Goals as goal

pub returns-clause-surveyed : goal.returns-clause-surveyed
returns-clause-surveyed c =
    let at = c.look_at-at.ensures in
    let ends = c.args.ends in
    let low = c.args.low in
    let high = c.args.high in
    let new = c.look_at-at.new.task in
    subst (λ (f : Option ShownMember). IsSurveyed new (c.args.m + 1) low high f c.last_with-last.result)
    (sym c.first_with-first.ensures)
    (subst (IsSurveyed new (c.args.m + 1) low high (first_with ends.first low high c.args.m c.look_at-at.result.place))
    (sym c.last_with-last.ensures)
    (surveyed_more c.args.task.now new at.looks c.args.m low high ends.first ends.last
    c.requires.surveyed c.look_at-at.result.place at.place at.seen at.below at.stands))
