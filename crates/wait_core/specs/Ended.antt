-- To be believed.
-- The answer of a call that ended.
use Rattle.std.specs.declared.option.Option.{Option}
use Rattle.std.specs.declared.option.Option.TheVariants.{Some, None}
use Rattle.wait_model.specs.{declared.calls.Answer.Answer, declared.points.Next.Next}
use Rattle.wait_model.specs.declared.points.Next.TheVariants as next

abbrev pub answer_of : Next → Option Answer
answer_of (next.Go p) = None
answer_of (next.Ends a) = Some a
