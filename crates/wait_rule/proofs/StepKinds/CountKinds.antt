-- Each kind of step on a done count keeps the law.
use Rattle.std.proofs.Common.{refl, ap, arith}
use Rattle.std.specs.Prelude.{ℕ, ◌≡◌, ◌≢◌, Bool, true, false, ◌||◌, ◌==◌, nat_lt, if◌then◌else◌, Some, List}
use Rattle.std.proofs.lemmas.Bool.Decides.{nat_tests}
use Rattle.wait_model.specs.{declared.layout.TheConstants.ALL_DONE, declared.steps.Step.Step, DoneCounts.IsStored}
use Rattle.wait_model.specs.{Functions.put, Runs.is_publishing, Runs.set_step, Watches.head_of, Views.View as Told}
use Rattle.wait_model.specs.{Tables.Table, Locations.Location, Locations.word_in}
use Rattle.wait_model.specs.declared.watches.Watch.TheVariants as watch
use Rattle.wait_model.specs.declared.steps.Step.TheVariants as step
use Rattle.wait_model.specs.Locations as place
use Rattle.wait_model.proofs.Functions.{put_same, put_other}
use Rattle.wait_rule.specs.{declared.journal.Item.Item, Rule.IsLawfulTable, Rule.IsRuled}
use Rattle.wait_rule.specs.Items.{Book, nothing, Fits}
use Rattle.wait_rule.proofs.{KnownLaws.HeadLinks.off_links, KnownLaws.MemberPlaces.still_places}
use Rattle.wait_rule.proofs.{TableSteps.KeptSteps.Leaves, TableSteps.KeptSteps.KeepsLaw}
use Rattle.wait_rule.proofs.StepKinds.EntryKinds.{load_leaves, with_words, words_leave}

-- what a step on a done count leaves
count_leaves : (s : Table) (a d n : ℕ) (b : Book) (history : ℕ → List Step) (view : ℕ → Told)
    → IsLawfulTable s → Fits (s.task a) b
    → Leaves s (with_words s (record (s.words) { dones = put s.words.dones d n }) s.taken history view) a
    (place.Done d) n b
count_leaves s a d n b history view l f = words_leave s a _ (place.Done d) n b s.taken history view l f l.bits
    (put_same s.words.dones d n) rest_of
  where
    rest_of : (k : Location) → k ≢ place.Done d
        → word_in (with_words s (record (s.words) { dones = put s.words.dones d n }) s.taken history view) k ≡ word_in s k
    rest_of (place.Done i) ne = put_other s.words.dones d n i (λ e. ne (ap place.Done e))
    rest_of k ne = refl

-- a store that is no publish sets no count that was 0
consumes_none : (found value : ℕ) → (nat_lt found value || (value == ALL_DONE)) ≡ false → found ≡ 0 → value ≡ 0
consumes_none found value is zero = grind (arith, nat_tests, is, zero)

module _ (s : Table) (items : ℕ → List Item) (ruled : IsRuled s items) (a : ℕ) (b : Book)
    (fits : Fits (s.task a) b) (d : ℕ) where
  pub count_loads : ((h : ℕ) → (s.view a).hold.head ≡ Some h → b.differs ≡ nothing)
      → KeepsLaw s a (place.Done d) (s.words.dones d) (step.Load (watch.Done d) (s.words.dones d)) b
  count_loads clear = record {
    allowed = refl;
    stored = tt;
    orderly = clear;
    places = still_places s a (step.Load (watch.Done d) (s.words.dones d)) refl refl;
    links = off_links s a (step.Load (watch.Done d) (s.words.dones d)) tt;
    leaves = load_leaves s a (place.Done d) b _ _ ruled.lawful fits;
  }

  module _ (n : ℕ) (held : (s.view a).hold.head ≡ Some (head_of (watch.Done d)))
      (stored : IsStored n (s.words.dones d)) where
    count_publishes : KeepsLaw s a (place.Done d) n (step.Publish (watch.Done d) n (s.words.dones d)) b
    count_publishes = record {
      allowed = (held, (λ q. absurd (cc)), refl);
      stored = stored;
      orderly = tt;
      places = still_places s a (step.Publish (watch.Done d) n (s.words.dones d)) refl refl;
      links = off_links s a (step.Publish (watch.Done d) n (s.words.dones d)) tt;
      leaves = count_leaves s a d n b _ _ ruled.lawful fits;
    }

    count_consumes : (s.words.dones d ≡ 0 → n ≡ 0)
        → KeepsLaw s a (place.Done d) n (step.Consume (watch.Done d) n (s.words.dones d)) b
    count_consumes zero = record {
      allowed = (zero, held, refl);
      stored = stored;
      orderly = λ bit. absurd (cc);
      places = still_places s a (step.Consume (watch.Done d) n (s.words.dones d)) refl refl;
      links = off_links s a (step.Consume (watch.Done d) n (s.words.dones d)) tt;
      leaves = count_leaves s a d n b _ _ ruled.lawful fits;
    }

    pub count_stores : KeepsLaw s a (place.Done d) n (set_step (watch.Done d) n (s.words.dones d)) b
    count_stores = by (is_publishing (watch.Done d) (s.words.dones d) n) refl
      where
        by : (p : Bool) → is_publishing (watch.Done d) (s.words.dones d) n ≡ p
            → KeepsLaw s a (place.Done d) n (if p then step.Publish (watch.Done d) n (s.words.dones d)
            else step.Consume (watch.Done d) n (s.words.dones d)) b
        by true is = count_publishes
        by false is = count_consumes (consumes_none (s.words.dones d) n is)
