-- What the ranges of a call's numbers say of each.
use Rattle.std.proofs.Common.{◌<◌, refl, subst}
use Rattle.std.proofs.lemmas.Bool.{ltb-false, ltb-true}
use Rattle.std.specs.Prelude.{ℕ, ◌≡◌, ◌&&◌, Bool, true, false, not, nat_lt, Option, Some, None, if◌then◌else◌}
use Rattle.wait_model.specs.declared.layout.TheConstants.{BIT_WORDS, CLAIMS, COMPLETIONS, FIRST_SIMPLE, PLAIN_CONDITIONS}
use Rattle.wait_model.specs.declared.layout.TheConstants.{VARIABLES, WORD_BITS}
use Rattle.wait_model.specs.declared.watches.Watch.TheVariants as watch
use Rattle.wait_model.proofs.Functions.{both_left, both_right}
use Rattle.completion_cell.specs.declared.cell_turns.CellCall.{CellCall}
use Rattle.completion_cell.specs.declared.cell_turns.CellCall.TheVariants as cell_call
use Rattle.swait_queue.specs.SimpleWaits.{IsSimpleCond}
use Rattle.wq_checked.specs.{Kept.keeps_in, declared.calls.Call.Call, declared.kept_bits.KeptBits.KeptBits}
use Rattle.wq_checked.specs.declared.reasons.Refused.{Refused}
use Rattle.wq_checked.specs.Begins.{if_kept, numbers_fit, keeping_reason, or_else}
use Rattle.wq_checked.specs.declared.calls.Call.TheVariants as call
use Rattle.wq_checked.specs.declared.reasons.Refused.TheVariants as reason

-- a call that is not refused begins where none is under way
pub none_busy : (b u : Bool) (r k : Option Refused) → (if not b then Some reason.OutOfRange else (
    if u then Some reason.NotListed else or_else r k)) ≡ None → r ≡ None
none_busy false u r k h = absurd (cc)
none_busy true true r k h = absurd (cc)
none_busy true false (Some e) k h = absurd (cc)
none_busy true false None k h = refl

opposite : (b : Bool) → not b ≡ true → b ≡ false
opposite true h = absurd (cc)
opposite false h = refl

pub full_cond : (c : ℕ) → (nat_lt c FIRST_SIMPLE && true) ≡ true → c < FIRST_SIMPLE
full_cond c h = ltb-true c FIRST_SIMPLE (both_left (nat_lt c FIRST_SIMPLE) true h)

pub simple_cond : (c : ℕ) → (not (nat_lt c FIRST_SIMPLE) && nat_lt c PLAIN_CONDITIONS) ≡ true → IsSimpleCond c
simple_cond c h = record {
  simple = ltb-false c FIRST_SIMPLE (opposite (nat_lt c FIRST_SIMPLE)
      (both_left (not (nat_lt c FIRST_SIMPLE)) (nat_lt c PLAIN_CONDITIONS) h));
  plain = ltb-true c PLAIN_CONDITIONS (both_right (not (nat_lt c FIRST_SIMPLE)) (nat_lt c PLAIN_CONDITIONS) h);
}

pub cell_there : (q : CellCall) (d : ℕ) → numbers_fit (call.Cell q d) ≡ true → d < COMPLETIONS
cell_there cell_call.Complete d h = ltb-true d COMPLETIONS h
cell_there cell_call.CompleteAll d h = ltb-true d COMPLETIONS h
cell_there cell_call.Reinit d h = ltb-true d COMPLETIONS h
cell_there cell_call.TryWait d h = ltb-true d COMPLETIONS h
cell_there cell_call.IsDone d h = ltb-true d COMPLETIONS h

pub var_there : (v x : ℕ) → numbers_fit (call.SetVar v x) ≡ true → v < VARIABLES
var_there v x h = ltb-true v VARIABLES (both_right (not (nat_lt v CLAIMS)) (nat_lt v VARIABLES) h)

pub bit_there : (w b : ℕ) → numbers_fit (call.ClearBit w b) ≡ true → (w < BIT_WORDS) × (b < WORD_BITS)
bit_there w b h = (
  ltb-true w BIT_WORDS (both_left (nat_lt w BIT_WORDS) (nat_lt b WORD_BITS) h),
  ltb-true b WORD_BITS (both_right (nat_lt w BIT_WORDS) (nat_lt b WORD_BITS) h),
)

-- who may give a bit back keeps it
kept_true : (b : Bool) → if_kept reason.NotHeld (not b) ≡ None → b ≡ true
kept_true true h = refl
kept_true false h = absurd (cc)

pub kept_bit : (w b : ℕ) (ks : KeptBits) (q : Call) → q ≡ call.ClearBit w b → keeping_reason q ks ≡ None
    → keeps_in ks (watch.Bit w b) ≡ true
kept_bit w b ks q is h = kept_true (keeps_in ks (watch.Bit w b))
    (subst (λ (c : Call). keeping_reason c ks ≡ None) is h)
