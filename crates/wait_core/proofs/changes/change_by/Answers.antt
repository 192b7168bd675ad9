use Rattle.std.proofs.Common.{refl, arith}
use Rattle.wait_model.proofs.WordLaws.ShownSteps.{event_shown}
use Rattle.wait_model.specs.Points.{given_at}
use Rattle.wait_core.proofs.changes.change_by.Goals as goal

pub returns-clause-shown : goal.returns-clause-shown
returns-clause-shown c = λ s n shown sound allowed joins marked.
    rw (
      c.position-at.ensures,
      c.left_by.ensures s n c.args.me (omega arith) (rw c.position-at.ensures refl) shown
          sound allowed joins marked,
    )
    (event_shown c.args.words.now s shown c.args.me (given_at c.args.call c.args.point) (omega arith) c.args.event
    allowed joins)
