-- To be believed.
-- What a merger passed on: pieces, each from one of its two sides.
use Rattle.std.specs.Prelude.{ℕ, ◌≡◌, ◌++◌, List, [], ◌∷◌}
use Rattle.flow_merge.specs.declared.TheConstants.{LEFT_PIPE, RIGHT_PIPE}
use Rattle.flow_merge.specs.declared.sides.Side.{Side}
use Rattle.flow_merge.specs.declared.sides.Side.TheVariants as sides

-- the pipe that a merger reads on a side
abbrev pub side_pipe : Side → ℕ
side_pipe sides.Left = LEFT_PIPE
side_pipe sides.Right = RIGHT_PIPE

-- bytes that it read there at once
pub record Piece : Type 0 where
  pub side : Side
  pub bytes : List ℕ

-- the bytes of a piece where it is of this side, and none where it is of the other
abbrev pub bytes_if : Side → Side → List ℕ → List ℕ
bytes_if sides.Left sides.Left bytes = bytes
bytes_if sides.Right sides.Right bytes = bytes
bytes_if _ _ bytes = []

-- the bytes of the pieces of one side, in their order
abbrev pub bytes_of : Side → List Piece → List ℕ
bytes_of s [] = []
bytes_of s (p ∷ ps) = bytes_if s p.side p.bytes ++ bytes_of s ps

-- and of all of them
abbrev pub merged_bytes : List Piece → List ℕ
merged_bytes [] = []
merged_bytes (p ∷ ps) = p.bytes ++ merged_bytes ps

-- Pieces that were passed on whole, in this order, and then a front of one more that was read.
pub record Passed : Type 0 where
  pub pieces : List Piece
  pub part : Piece
  pub front : List ℕ
  pub rest : List ℕ
  pub parts : part.bytes ≡ front ++ rest

-- what was read of one side, and what was sent
abbrev pub read_of : Side → Passed → List ℕ
read_of s p = bytes_of s p.pieces ++ bytes_if s p.part.side p.part.bytes

abbrev pub sent_of : Passed → List ℕ
sent_of p = merged_bytes p.pieces ++ p.front
