use Rattle.std.proofs.Common.{◌≡◌, arith, inl}
use Rattle.wait_model.specs.declared.layout.TheConstants.{FIRST_PLAIN_HEAD}
use Rattle.wait_model.proofs.WordLaws.DecodedWords.{head_plain}
use Rattle.head_tests.proofs.steps.queues.spends_count.Goals as goal

pub lock_step-requires-clause-aims : goal.lock_step-requires-clause-aims
lock_step-requires-clause-aims g c = head_plain 0

pub unlock_step-requires-clause-permits : goal.unlock_step-requires-clause-permits
unlock_step-requires-clause-permits g c =
    let at : c.select_own.new.task.at ≡ FIRST_PLAIN_HEAD = c.select_own.ensures.at in
    inl (omega (arith, at))
