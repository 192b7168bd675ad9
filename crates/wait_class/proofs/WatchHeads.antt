-- The heads of watches that are there.
use Rattle.std.proofs.Common.{arith}
use Rattle.std.specs.Prelude.{ℕ, ◌<◌, ◌+◌, ◌*◌}
use Rattle.wait_model.specs.declared.layout.TheConstants.{BIT_WORDS, HEADS, PLAIN_CONDITIONS, WORD_BITS}
use Rattle.wait_model.specs.declared.watches.Watch.{Watch}
use Rattle.wait_model.specs.declared.watches.Watch.TheVariants as watch
use Rattle.wait_model.specs.Watches.{IsThere, hashed, head_of}

pub head_fits : (c : ℕ) → c < PLAIN_CONDITIONS → head_of (watch.Plain c) < HEADS
unfolding head_of
head_fits c small = omega (arith, small)

hashed_fits : (n : ℕ) → hashed n < HEADS
unfolding hashed
hashed_fits n = omega arith

pub watch_fits : (w : Watch) → IsThere w → head_of w < HEADS
unfolding head_of
watch_fits (watch.Plain c) there = omega (arith, there)
watch_fits (watch.Done d) there = omega (arith, there)
watch_fits (watch.Bit w b) there = hashed_fits (w * WORD_BITS + b)
watch_fits (watch.Var v o) there = hashed_fits (BIT_WORDS + v)
