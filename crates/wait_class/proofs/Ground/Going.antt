-- Transitions of a program, and their runs.
use Rattle.std.proofs.Common.{refl}
use Rattle.std.specs.Prelude.{[], ◌∷◌, ◌++◌}
use Rattle.wait_model.specs.{declared.points.Point.Point, declared.points.Next.Next, declared.points.Seen.Seen}
use Rattle.wait_model.specs.declared.points.Next.TheVariants as next
use Rattle.wait_rule.specs.Known.{Known}
use Rattle.wait_rule.specs.Transitions.{OnlyLooks, Program, StepOrLook, IsMadeFor, Finds, after_step_or_look}
use Rattle.wait_rule.proofs.KnownLaws.Transitions.{only_none, looks_last, goes_none, goes_on}
use Rattle.wait_class.specs.Posts.{Runs}

abbrev pub runs_looks : (f : Program) (old new : Known) (n : Next) → OnlyLooks old new → Runs f old new n n
runs_looks f old new n looks = record { transitions = []; goes = goes_none f old new n looks }

abbrev pub runs_none : (f : Program) (k : Known) (n : Next) → Runs f k k n n
runs_none f k n = runs_looks f k k n (only_none k)

-- one event, behind looks and before others
abbrev pub runs_one : (f : Program) (p : Point) (old knew new : Known) (seen : Seen) (did : StepOrLook) → OnlyLooks
    old knew
    → IsMadeFor knew f.own (f.given p) (f.plan p seen).event did → Finds knew f p did seen
    → OnlyLooks (after_step_or_look did knew) new → Runs f old new (next.Go p) (f.plan p seen).next
runs_one f p old knew new seen did before is finds behind = record {
  transitions = record { seen = seen; knew = knew; did = did } ∷ [];
  goes = (record { looks = before; is = is; finds = finds }, (behind, refl));
}

abbrev pub runs_on : (f : Program) (old mid new : Known) (from by to : Next) → Runs f old mid from by → Runs f mid
    new by to
    → Runs f old new from to
runs_on f old mid new from by to a b = record {
  transitions = a.transitions ++ b.transitions;
  goes = goes_on f old mid new from by to a.transitions b.transitions a.goes b.goes;
}

-- and looks behind them
abbrev pub runs_and_looks : (f : Program) (old mid new : Known) (from to : Next) → Runs f old mid from to → OnlyLooks
    mid new
    → Runs f old new from to
runs_and_looks f old mid new from to a looks = record {
  transitions = a.transitions;
  goes = looks_last f old mid new from to a.transitions a.goes looks;
}
