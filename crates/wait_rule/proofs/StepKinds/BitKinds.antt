-- Each kind of step on a bit word keeps the law.
use Rattle.std.proofs.Common.{refl, ap, arith}
use Rattle.std.specs.Prelude.{ℕ, ◌≡◌, ◌≢◌, ◌<◌, ◌≤◌, Bool, true, false, Option, Some, None, List}
use Rattle.wait_model.specs.{declared.layout.TheConstants.WORD_BITS, declared.steps.Step.Step, Functions.put}
use Rattle.wait_model.specs.{Words.bit_word, Views.View as Told, Tables.Table, Locations.Location, Locations.word_in}
use Rattle.wait_model.specs.declared.watches.Watch.TheVariants as watch
use Rattle.wait_model.specs.declared.steps.Step.TheVariants as step
use Rattle.wait_model.specs.Locations as place
use Rattle.wait_model.proofs.WordLaws.CondWords.{tas_step, clear_step}
use Rattle.wait_model.proofs.Functions.{put_at, put_same, put_other}
use Rattle.wait_rule.specs.{declared.journal.Item.Item, Rule.IsLawfulTable, Rule.IsRuled}
use Rattle.wait_rule.specs.Items.{Book, nothing, Fits}
use Rattle.wait_rule.proofs.{KnownLaws.HeadLinks.off_links, KnownLaws.MemberPlaces.still_places}
use Rattle.wait_rule.proofs.{TableSteps.KeptSteps.Leaves, TableSteps.KeptSteps.KeepsLaw}
use Rattle.wait_rule.proofs.{StepKinds.EntryKinds.with_words, StepKinds.EntryKinds.words_leave}

-- a word with one bit changed has no bits above its own
low_still : (bits : ℕ → ℕ → Bool) (w b : ℕ) (v : Bool) → b < WORD_BITS
    → ((i k : ℕ) → WORD_BITS ≤ k → bits i k ≡ false) → (i k : ℕ) → WORD_BITS ≤ k
    → put bits w (put (bits w) b v) i k ≡ false
low_still bits w b v small low i k far = put_at (λ (f : ℕ → Bool). f k ≡ false) bits w (put (bits w) b v) i
    (λ _. put_at (λ (x : Bool). x ≡ false) (bits w) b v k (λ same. absurd (omega arith)) (λ _. low w k far))
    (λ _. low i k far)

-- what a step on a bit leaves
pub bit_leaves : (s : Table) (a w b : ℕ) (v : Bool) (k : Book) (pages : ℕ → Option ℕ) (history : ℕ → List Step)
    (view : ℕ → Told) → b < WORD_BITS → IsLawfulTable s → Fits (s.task a) k
    → Leaves s
    (with_words s (record (s.words) { bits = put s.words.bits w (put (s.words.bits w) b v) }) pages history view)
    a (place.Bits w) (bit_word WORD_BITS (put (s.words.bits w) b v)) k
bit_leaves s a w b v k pages history view small l f = words_leave s a _ (place.Bits w) _ k pages history view l f
    (low_still s.words.bits w b v small l.bits)
    (ap (bit_word WORD_BITS) (put_same s.words.bits w (put (s.words.bits w) b v))) rest_of
  where
    rest_of : (j : Location) → j ≢ place.Bits w
        → word_in (with_words s (record (s.words) { bits = put s.words.bits w (put (s.words.bits w) b v) }) pages
        history view) j ≡ word_in s j
    rest_of (place.Bits i) ne = ap (bit_word WORD_BITS)
        (put_other s.words.bits w (put (s.words.bits w) b v) i (λ e. ne (ap place.Bits e)))
    rest_of j ne = refl

module _ (s : Table) (items : ℕ → List Item) (ruled : IsRuled s items) (a : ℕ) (k : Book)
    (fits : Fits (s.task a) k) (w b : ℕ) (small : b < WORD_BITS) where
  abbrev found : ℕ
  found = bit_word WORD_BITS (s.words.bits w)

  -- a test-and-set, where no word differs from its member bit
  pub bit_sets : ((h : ℕ) → (s.view a).hold.head ≡ Some h → k.differs ≡ nothing)
      → KeepsLaw s a (place.Bits w) (bit_word WORD_BITS (put (s.words.bits w) b true))
      (step.Consume (watch.Bit w b) 1 (bit_word WORD_BITS (s.words.bits w))) k
  bit_sets clear = record {
    allowed = tas_step s a w b ruled.lawful.bits;
    stored = tt;
    orderly = λ bit. clear;
    places = still_places s a (step.Consume (watch.Bit w b) 1 found) refl refl;
    links = off_links s a (step.Consume (watch.Bit w b) 1 found) tt;
    leaves = bit_leaves s a w b true k s.taken _ _ small ruled.lawful fits;
  }

  -- a clear, by a task that keeps the bit and is RUNNING
  pub bit_clears : (s.view a).hold.head ≡ None → (s.task a).state ≡ 0
      → (s.view a).bits.keeps (watch.Bit w b) ≡ true
      → KeepsLaw s a (place.Bits w) (bit_word WORD_BITS (put (s.words.bits w) b false))
      (step.Publish (watch.Bit w b) 0 (bit_word WORD_BITS (s.words.bits w))) k
  bit_clears out running keeps = record {
    allowed = clear_step s a w b ruled.lawful.bits out running keeps;
    stored = tt;
    orderly = tt;
    places = still_places s a (step.Publish (watch.Bit w b) 0 found) refl refl;
    links = off_links s a (step.Publish (watch.Bit w b) 0 found) tt;
    leaves = bit_leaves s a w b false k s.taken _ _ small ruled.lawful fits;
  }
