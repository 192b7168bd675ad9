use Rattle.std.proofs.Common.{rules}
use Rattle.sugwelan_c.specs.Served.{stays}
use Rattle.sugwelan_c.proofs.Further.{one_more}
use Rattle.sugwelan_c.proofs.serving.go_further.Goals as goal

pub loop-stretch-init : goal.loop-stretch-init
loop-stretch-init c = stays

pub loop-stretch-preserved : goal.loop-stretch-preserved
loop-stretch-preserved c =
    one_more _ _ _ _ _ _ _ _ _ _ _ _ _ c.loop-stretch.invariant (c.may_go_on.ensures (search rules)) c.go_on-reply.ensures.replies
    c.go_on-reply.ensures.names c.go_on-reply.ensures.gives
