-- To be believed.
-- What the watchers of a copy are shown.
use Rattle.std.specs.Prelude.{ℕ, ◌≡◌, ◌<◌, ◌≤◌, ◌++◌, List, [], length, Option, Some}
use Rattle.std.specs.List.{All, concat}
use Rattle.func_head.specs.Walks.{EntryState, shown_all}
use Rattle.copy_plan.specs.{declared.TheConstants.PIECE, declared.stop.Stop.Stop}
use Rattle.copy_plan.specs.declared.stop.Stop.TheVariants as stop

-- unless the sink failed
abbrev pub UnlessFailed : Option Stop → Type 0 → Type 0
UnlessFailed (Some stop.WriteFault) X = Unit {0}
UnlessFailed (Some stop.Memory) X = Unit {0}
UnlessFailed _ X = X

-- a piece has a byte at least, and `PIECE` bytes at most
abbrev pub IsPiece : List ℕ → Type 0
IsPiece piece = (0 < length piece) × (length piece ≤ PIECE)

-- The bytes that went into the sink are pieces, and each of these was shown, in their order. Where the sink failed in
-- the midst of a piece, a part of it stands behind them, and that was not shown.
pub record ShowsPieces (seen_old seen_new : List EntryState) (bytes : List ℕ) (how : Option Stop) : Type 0 where
  pub pieces : List (List ℕ)
  pub part : List ℕ
  pub whole : bytes ≡ concat pieces ++ part
  pub each : All IsPiece pieces
  pub none : UnlessFailed how (part ≡ [])
  pub seen : seen_new ≡ shown_all pieces seen_old
