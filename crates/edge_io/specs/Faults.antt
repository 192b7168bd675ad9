-- To be believed.
-- What the counts of sources and sinks say of their faults.
use Rattle.std.specs.Prelude.{◌≡◌, ◌<◌, ℕ, ◌+◌, ◌^◌, ◌-◌, min, Result, Ok, Err}
use Rattle.edge_io.specs.declared.sink.SinkFault.{SinkFault}
use Rattle.edge_io.specs.declared.sink.SinkFault.TheVariants.{Failed, OutOfMemory}

-- A count of 64 bits has risen, or stands at its end.
abbrev pub HasRisen : ℕ → ℕ → Type 0
HasRisen old new = (new < 2 ^ 64 - 1) → (old < new)

-- A count of 64 bits has risen by one, or stands at its end.
abbrev pub HasCounted : ℕ → ℕ → Type 0
HasCounted old new = new ≡ min (old + 1) (2 ^ 64 - 1)

-- A count of 64 bits has not risen: it is as it was, and not at its end.
abbrev pub HasStayed : ℕ → ℕ → Type 0
HasStayed old new = (new ≡ old) × (new < 2 ^ 64 - 1)

-- A sink's count of failed writes: one more where Failed is answered, and else as it was.
abbrev pub FaultIsFailed : ℕ → ℕ → SinkFault → Type 0
FaultIsFailed old new Failed = HasCounted old new
FaultIsFailed old new OutOfMemory = new ≡ old

abbrev pub CountsFailed : {T : Type 0} → ℕ → ℕ → Result T SinkFault → Type 0
CountsFailed old new (Ok x) = new ≡ old
CountsFailed old new (Err fault) = FaultIsFailed old new fault

-- A sink's count of writes that wanted memory or room: one more where OutOfMemory is answered, and else as it was.
abbrev pub FaultIsWant : ℕ → ℕ → SinkFault → Type 0
FaultIsWant old new Failed = new ≡ old
FaultIsWant old new OutOfMemory = HasCounted old new

abbrev pub CountsWanted : {T : Type 0} → ℕ → ℕ → Result T SinkFault → Type 0
CountsWanted old new (Ok x) = new ≡ old
CountsWanted old new (Err fault) = FaultIsWant old new fault
