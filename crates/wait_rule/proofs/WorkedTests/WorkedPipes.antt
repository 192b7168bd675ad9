-- What lists tell of the ends of a pipe, on small ones: a writer that sends "A" and closes, and a reader that gets it.
use Rattle.std.proofs.Common.{refl}
use Rattle.std.specs.Prelude.{ℕ, ◌≡◌, ◌+◌, ◌*◌, true, false, List, [], ◌∷◌}
use Rattle.wait_model.specs.declared.watches.Watch.TheVariants as watch
use Rattle.wait_model.specs.declared.steps.Step.TheVariants as step
use Rattle.wait_rule.specs.declared.journal.EndAct.TheVariants as act
use Rattle.wait_rule.specs.declared.journal.Item.{Item}
use Rattle.wait_rule.specs.declared.journal.Item.TheVariants as item
use Rattle.wait_rule.specs.Pipes.{end_of, moved_bytes, no_end}

-- one byte, which is 65
abbrev pub cell : ℕ
cell = 256 * 65 + 1

-- the writer of pipe 1 looks at the reader's word, stores the cell, passes it on and closes its end
abbrev pub written : List Item
written = item.Piped 2 act.Claim 0 ∷ item.Made (step.Load (watch.Var 3 0) 0) ∷ item.Piped 2 act.Cell cell
    ∷ item.Made (step.Publish (watch.Var 2 0) 2 0) ∷ []

abbrev pub closed_then : List Item
closed_then = item.Piped 2 act.Claim 0 ∷ item.Piped 2 act.Cell cell ∷ item.Made (step.Publish (watch.Var 2 0) 2 0)
    ∷ item.Made (step.Publish (watch.Var 2 0) 3 2) ∷ []

abbrev pub got : List Item
got = item.Piped 3 act.Claim 0 ∷ item.Made (step.Load (watch.Var 2 0) 2) ∷ item.Piped 3 act.Cell cell
    ∷ item.Made (step.Publish (watch.Var 3 0) 2 0) ∷ item.Made (step.Load (watch.Var 2 0) 3) ∷ []

-- Who finds an end claimed has not got it, and learns nothing of it by a look at the other end.
abbrev pub late : List Item
late = item.Piped 2 act.Claim 1 ∷ item.Made (step.Load (watch.Var 3 0) 2) ∷ []

pub sends : moved_bytes (end_of 2 written) ≡ 65 ∷ []
sends = refl

pub has_sent : ((end_of 2 written).count ≡ 1) × ((end_of 2 written).shut ≡ false)
has_sent = (refl, refl)

pub closes : ((end_of 2 closed_then).count ≡ 1) × ((end_of 2 closed_then).before ≡ 1)
    × ((end_of 2 closed_then).shut ≡ true)
closes = (refl, refl, refl)

pub gets : moved_bytes (end_of 3 got) ≡ 65 ∷ []
gets = refl

pub has_got : ((end_of 3 got).seen ≡ 1) × ((end_of 3 got).ended ≡ true) × ((end_of 3 got).count ≡ 1)
has_got = (refl, refl, refl)

pub not_other : (end_of 3 written ≡ no_end) × (end_of 2 late ≡ no_end)
not_other = (refl, refl)
