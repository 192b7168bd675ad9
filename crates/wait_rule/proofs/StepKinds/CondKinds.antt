-- Each kind of step on a condition word keeps the law.
use Rattle.std.proofs.Common.{refl, sym, ap, subst}
use Rattle.std.specs.Prelude.{ℕ, ◌≡◌, ◌≢◌, Some, None, List}
use Rattle.wait_model.specs.{declared.watches.Watch.Watch, declared.steps.Step.Step, Functions.put, Watches.IsThere}
use Rattle.wait_model.specs.{Watches.number_of, Views.View as Told}
use Rattle.wait_model.specs.Tables.{Table, next, value_of}
use Rattle.wait_model.specs.Locations.{Location, word_in, cond_at}
use Rattle.wait_model.specs.declared.watches.Watch.TheVariants as watch
use Rattle.wait_model.specs.declared.steps.Step.TheVariants as step
use Rattle.wait_model.specs.Locations as place
use Rattle.wait_model.proofs.WordLaws.CondWords.{number_value, reads_value}
use Rattle.wait_model.proofs.Functions.{put_same, put_other}
use Rattle.wait_rule.specs.{declared.journal.Item.Item, Rule.IsLawfulTable, Rule.IsRuled}
use Rattle.wait_rule.specs.Items.{Book, nothing, Fits}
use Rattle.wait_rule.proofs.{KnownLaws.HeadLinks.off_links, KnownLaws.MemberPlaces.still_places}
use Rattle.wait_rule.proofs.{TableSteps.KeptSteps.Leaves, TableSteps.KeptSteps.KeepsLaw}
use Rattle.wait_rule.proofs.StepKinds.EntryKinds.{load_leaves, with_words, words_leave}

-- what a step on a plain condition leaves, and one on a variable
plain_leaves : (s : Table) (a c n : ℕ) (b : Book) (history : ℕ → List Step) (view : ℕ → Told)
    → IsLawfulTable s → Fits (s.task a) b
    → Leaves s (with_words s (record (s.words) { plains = put s.words.plains c n }) s.taken history view) a
    (place.Plain c) n b
plain_leaves s a c n b history view l f = words_leave s a _ (place.Plain c) n b s.taken history view l f l.bits
    (put_same s.words.plains c n) rest_of
  where
    rest_of : (k : Location) → k ≢ place.Plain c
        → word_in (with_words s (record (s.words) { plains = put s.words.plains c n }) s.taken history view) k ≡ word_in s k
    rest_of (place.Plain i) ne = put_other s.words.plains c n i (λ e. ne (ap place.Plain e))
    rest_of k ne = refl

var_leaves : (s : Table) (a v n : ℕ) (b : Book) (history : ℕ → List Step) (view : ℕ → Told)
    → IsLawfulTable s → Fits (s.task a) b
    → Leaves s (with_words s (record (s.words) { vars = put s.words.vars v n }) s.taken history view) a
    (place.Var v) n b
var_leaves s a v n b history view l f = words_leave s a _ (place.Var v) n b s.taken history view l f l.bits
    (put_same s.words.vars v n) rest_of
  where
    rest_of : (k : Location) → k ≢ place.Var v
        → word_in (with_words s (record (s.words) { vars = put s.words.vars v n }) s.taken history view) k ≡ word_in s k
    rest_of (place.Var i) ne = put_other s.words.vars v n i (λ e. ne (ap place.Var e))
    rest_of k ne = refl

module _ (s : Table) (items : ℕ → List Item) (ruled : IsRuled s items) (a : ℕ) (b : Book)
    (fits : Fits (s.task a) b) where
  pub cond_loads : (c : Watch) → IsThere c → ((h : ℕ) → (s.view a).hold.head ≡ Some h → b.differs ≡ nothing)
      → KeepsLaw s a (cond_at (number_of c)) (word_in s (cond_at (number_of c)))
      (step.Load c (word_in s (cond_at (number_of c)))) b
  cond_loads c is clear = subst (λ (n : ℕ). KeepsLaw s a (cond_at (number_of c)) n (step.Load c n) b) (sym
      (number_value s c is))
      (record {
        allowed = reads_value s.words ruled.lawful.bits c is;
        stored = tt;
        orderly = clear;
        places = still_places s a (step.Load c (value_of s.words c)) refl refl;
        links = off_links s a (step.Load c (value_of s.words c)) tt;
        leaves = subst (λ (n : ℕ). Leaves s (next s a (step.Load c (value_of s.words c))) a (cond_at (number_of c)) n b)
            (number_value s c is)
            (load_leaves s a (cond_at (number_of c)) b _ _ ruled.lawful fits);
      })

  pub plain_publishes : (c n : ℕ) → (s.view a).hold.head ≡ None
      → KeepsLaw s a (place.Plain c) n (step.Publish (watch.Plain c) n (s.words.plains c)) b
  plain_publishes c n out = record {
    allowed = (out, (λ q. absurd (cc)), refl);
    stored = tt;
    orderly = tt;
    places = still_places s a (step.Publish (watch.Plain c) n (s.words.plains c)) refl refl;
    links = off_links s a (step.Publish (watch.Plain c) n (s.words.plains c)) tt;
    leaves = plain_leaves s a c n b _ _ ruled.lawful fits;
  }

  pub var_publishes : (v o n : ℕ) → (s.view a).hold.head ≡ None
      → KeepsLaw s a (place.Var v) n (step.Publish (watch.Var v o) n (s.words.vars v)) b
  var_publishes v o n out = record {
    allowed = (out, (λ q. absurd (cc)), refl);
    stored = tt;
    orderly = tt;
    places = still_places s a (step.Publish (watch.Var v o) n (s.words.vars v)) refl refl;
    links = off_links s a (step.Publish (watch.Var v o) n (s.words.vars v)) tt;
    leaves = var_leaves s a v n b _ _ ruled.lawful fits;
  }

  pub plain_consumes : (c : ℕ) → KeepsLaw s a (place.Plain c) 0 (step.Consume (watch.Plain c) 0 (s.words.plains c)) b
  plain_consumes c = record {
    allowed = (tt, tt, refl);
    stored = tt;
    orderly = λ bit. absurd (cc);
    places = still_places s a (step.Consume (watch.Plain c) 0 (s.words.plains c)) refl refl;
    links = off_links s a (step.Consume (watch.Plain c) 0 (s.words.plains c)) tt;
    leaves = plain_leaves s a c 0 b _ _ ruled.lawful fits;
  }
