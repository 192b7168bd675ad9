-- Events that come to the end of a rest after one step: a load, a look, an add, an entry taken off.
use Rattle.std.proofs.lemmas.Nat.{pow_pos}
use Rattle.std.proofs.lemmas.Nat.Bits.{bit_at-pow_same}
use Rattle.std.proofs.Common.{ap, refl, sym, subst, arith, inl, inr}
use Rattle.std.proofs.lemmas.Bool.Decides.{eqb_tells, nat_tests}
use Rattle.std.specs.Prelude.{◌<◌, ◌/◌, ◌%◌, ◌^◌, ℕ, ◌≡◌, ◌+◌, ◌-◌, ◌==◌, Bool, true, false, not, ◌∷◌}
use Rattle.wait_model.specs.{declared.layout.TheConstants.ALL_DONE, declared.queues.Form.Form}
use Rattle.wait_model.specs.{declared.watches.Watch.Watch, Words.flag, Words.bit_at, SentenceBits.tries}
use Rattle.wait_model.specs.{SentenceCounts.counts, SentenceCounts.lowers, Findings.Noted}
use Rattle.wait_model.specs.Watches.{head_of, number_of, misses}
use Rattle.wait_model.specs.SentenceSteps.{is_met, queues, takes_off, unlocks, stores}
use Rattle.wait_model.specs.declared.calls.Event.TheVariants as event
use Rattle.wait_model.specs.declared.watches.Watch.TheVariants as watch
use Rattle.wait_model.specs.Phrases.{Rest, gives, finds, when◌then◌otherwise◌}
use Rattle.wait_model.proofs.SentenceLaws.SentenceRests.{AfterLoad, Some_turns, CanEnd, first, found}

pub some : (R : ℕ → Rest) (n : ℕ) → CanEnd (R n) → CanEnd (Some_turns R)
some R n (w, a, h) = (w, a, (n, h))

pub loaded : (m : Noted) (R : Rest) → CanEnd R → CanEnd (AfterLoad m R)
loaded m R (w, a, h) = (w, a, λ _. h)

-- a word in which a bit stands so
pub valued : (b : ℕ) (was_set : Bool) → (value : ℕ) × (bit_at value b ≡ was_set)
unfolding bit_at
valued b true = (2 ^ b, ap (λ (n : ℕ). n == 1) (bit_at-pow_same b))
valued b false = (0, zeroes (2 ^ b) (pow_pos b))
  where
    zeroes : (n : ℕ) → 0 < n → ((0 / n) % 2 == 1) ≡ false
    zeroes n h = grind (arith, nat_tests)

-- a value that sets the watch
one_off : (old : ℕ) → (old + 1 == old) ≡ false
one_off old = elim (eqb_tells (old + 1) old) [
  | inl h ↦ absurd (let z = h.1 in omega arith)
  | inr h ↦ h.0
]

met_by : (c : Watch) → (v : ℕ) × (misses c v ≡ false)
met_by (watch.Plain c) = (1, refl)
met_by (watch.Done d) = (1, refl)
met_by (watch.Bit w b) = valued b false
met_by (watch.Var v old) = (old + 1, one_off old)

pub met : (c : Watch) (R : Bool → Rest) → CanEnd (R true) → CanEnd (is_met c R)
met c R (w, a, h) =
    let (v, q) = met_by c in
    (event.Load (number_of c) v ∷ w, a, (v, (refl, subst (λ (b : Bool). R (not b) w a) (sym q) h)))

pub looked : (b : Bool) (R : Bool → Rest) → CanEnd (R false)
    → CanEnd ((when b then finds event.Look otherwise gives false) R)
looked true R h = found event.Look R false h
looked false R h = h

pub queued : (c : Watch) (form : Form) (b : Bool) (R : Bool → Rest) → CanEnd (R true) → CanEnd (queues c form b R)
queued c form true R (w, a, h) = (w, a, (true, h))
queued c form false R (w, a, h) = (event.Queue (head_of c) form ∷ w, a, (false, (refl, h)))

pub off : (me : ℕ) (b : Bool) (R : Rest) → CanEnd R → CanEnd (takes_off me b (λ _. R))
off me true R (w, a, h) = (w, a, (false, h))
off me false R h = h

-- a done count that is not 0
pub count_loaded : (c : Watch) (R : ℕ → Rest) → CanEnd (R 1) → CanEnd (counts c R)
count_loaded c R (w, a, h) = (event.Load (number_of c) 1 ∷ w, a, (1, (refl, (omega arith, h))))

pub lowered : (c : Watch) (count : ℕ) (R : Rest) → CanEnd R → CanEnd (lowers c count (λ _. R))
lowered c count R h = by (count == ALL_DONE)
  where
    by : (full : Bool) → CanEnd
        ((when full then unlocks c otherwise (λ rest. stores c (count - 1) (λ _. unlocks c rest))) (λ _. R))
    by true = first (event.Unlock (head_of c) false) R h
    by false = first (event.Set (number_of c) (count - 1)) (unlocks c (λ _. R))
        (first (event.Unlock (head_of c) false) R h)

-- an exchange that gets the bit
pub tried : (w b : ℕ) (R : Bool → Rest) → CanEnd (R true) → CanEnd (tries w b R)
tried w b R h = found (λ (x : Bool). event.Tas w b (flag x)) (λ x. R (not x)) false h
