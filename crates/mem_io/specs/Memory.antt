-- For tests alone.
-- What contracts see of the source and the sink in memory.
use Rattle.std.specs.Prelude.{ℕ, List}
use Rattle.mem_io.specs.Fails.{Calls}

-- a source: the bytes that are left, and its reads
pub record SourceState : Type 0 where
  pub left : List ℕ
  pub reads : Calls

-- a sink: the bytes that it holds, its writes, and how many of them wanted memory
pub record SinkState : Type 0 where
  pub held : List ℕ
  pub writes : Calls
  pub wants : ℕ
