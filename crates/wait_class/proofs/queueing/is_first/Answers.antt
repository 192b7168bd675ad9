use Rattle.wait_class.proofs.FormPlaces.{tells_asked}
use Rattle.wait_class.proofs.queueing.is_first.Goals as goal

pub returns-then-asked-clause-tells : goal.returns-then-asked-clause-tells
returns-then-asked-clause-tells c = tells_asked c.has_members.new.task c.args.asked c.if-asked.true
    c.has_members.result c.has_members.ensures.whole c.has_members.ensures.tells
