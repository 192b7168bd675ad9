use Rattle.std.proofs.Common.{◌∙◌, refl, sym}
use Rattle.wq_head.proofs.SoleMembers.{sole_found, sole_on}
use Rattle.wq_head.proofs.found_queues.sole_member.Goals as goal

pub returns-clause-finds : goal.returns-clause-finds
returns-clause-finds c =
    let new = c.look_at.new.task in
    sole_found new c.args.member (sole_on c.args.task.now new c.look_at.ensures.looks c.args.member c.requires.sole)
    (record { place = c.in-Some.place; member = c.args.member }) refl (sym c.look_at.ensures.place ∙ c.in-Some.is)
