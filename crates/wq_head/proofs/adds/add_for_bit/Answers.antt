use Rattle.std.proofs.Common.{refl, sym, true}
use Rattle.std.proofs.lemmas.Result.{IfOk-weaker}
use Rattle.wait_model.specs.declared.watches.Kind.TheVariants as kind
use Rattle.wq_head.specs.Adds.{tail_entry}
use Rattle.wq_head.proofs.{HashedAdds.added_for_bit, PermitHeads.bit_low, PermitHeads.found_low}
use Rattle.wq_head.proofs.adds.add_for_bit.Goals as goal

pub add-requires-clause-permits : goal.add-requires-clause-permits
add-requires-clause-permits c = found_low c.args.task.now 0 _ (sym c.requires.head)
    (bit_low c.args.watch kind.Bit c.requires.suits)

pub returns-clause-queued : goal.returns-clause-queued
returns-clause-queued c = IfOk-weaker c.add.result _ _ (λ _ h. added_for_bit c.args.task.now c.add.new.task 0
    (tail_entry true c.args.watch kind.Bit) (λ p. refl) h) c.add.ensures.queued
