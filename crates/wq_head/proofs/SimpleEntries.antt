-- The entries of a simple head: simple ones, and all for the head's own watch.
use Rattle.std.proofs.Common.{ap, refl, arith}
use Rattle.std.proofs.lemmas.Bool.Decides.{nat_tests}
use Rattle.std.specs.Prelude.{ℕ, ◌-◌, ◌*◌, ◌+◌, ◌≡◌, ◌≤◌, Bool, true, false, nat_lt, if◌then◌else◌, Some, None}
use Rattle.wait_model.specs.{declared.watches.Watch.Watch, declared.watches.Entry.Entry, declared.watches.Kind.Kind}
use Rattle.wait_model.specs.{Watches.counted, Watches.head_of, Words.Suited}
use Rattle.wait_model.specs.declared.layout.TheConstants.{FIRST_SIMPLE_HEAD, FIRST_PLAIN_HEAD, FIRST_DONE_HEAD}
use Rattle.wait_model.specs.declared.layout.TheConstants.{BIT_WORDS, WORD_BITS}
use Rattle.wait_model.specs.declared.watches.Watch.TheVariants as watch
use Rattle.wait_model.specs.declared.watches.Kind.TheVariants as kind
use Rattle.wait_rule.specs.{Queues.simple_watch, Queues.walk_of_hold, Members.IsStanding}
use Rattle.wq_head.specs.Selects.{simple_aim}
use Rattle.wq_head.proofs.FullHeads.{hashed_low}

-- only the last plain conditions and completions have simple heads
simple_kind : (w : Watch) (k : Kind) → Suited w k → FIRST_SIMPLE_HEAD ≤ head_of w → k ≡ kind.Simple
unfolding head_of
simple_kind (watch.Plain c) k suits high = suits.2 (omega (arith, high))
simple_kind (watch.Done d) k suits high = suits.1
simple_kind (watch.Bit w b) k suits high = let low = hashed_low (w * WORD_BITS + b) in absurd (omega (arith, high))
simple_kind (watch.Var v o) k suits high = let low = hashed_low (BIT_WORDS + v) in absurd (omega (arith, high))

pub is_simple_entry : (x : ℕ) (e : Entry) (h : ℕ) → IsStanding x e → head_of e.watch ≡ h → FIRST_SIMPLE_HEAD ≤ h
    → e.kind ≡ kind.Simple
is_simple_entry x e h at here high = simple_kind e.watch e.kind at.lawful.suited (omega (arith, here))

-- what a simple head's own watch is
pub simple_counted : (h : ℕ) → counted (simple_watch h) ≡ true
simple_counted h = by (nat_lt h FIRST_DONE_HEAD)
  where
    by : (b : Bool) → counted (if b then watch.Plain (h - FIRST_PLAIN_HEAD) else watch.Done (h - FIRST_DONE_HEAD))
        ≡ true
    by true = refl
    by false = refl

-- the walk of a hold of a simple head
pub walk_is_simple : (h : ℕ) → FIRST_SIMPLE_HEAD ≤ h → walk_of_hold h None ≡ Some (simple_aim h)
walk_is_simple h high = ap (λ (b : Bool). if b then None else Some (simple_aim h)) far
  where
    far : nat_lt h FIRST_SIMPLE_HEAD ≡ false
    far = grind (arith, nat_tests)
