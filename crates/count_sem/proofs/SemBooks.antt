-- Loads and stores of a count change nothing of what a hold has seen.
use Rattle.std.proofs.Common.{◌∙◌, ap, sym, refl}
use Rattle.std.specs.Prelude.{ℕ, ◌≡◌, ◌||◌, ◌==◌, nat_lt, if◌then◌else◌, Bool, true, false}
use Rattle.wait_model.specs.{declared.layout.TheConstants.ALL_DONE, declared.steps.Step.Step, Runs.set_step}
use Rattle.wait_model.specs.Views.{View as Told}
use Rattle.wait_model.specs.declared.steps.Step.TheVariants as step
use Rattle.wait_model.specs.declared.watches.Watch.TheVariants as watch
use Rattle.wait_rule.specs.declared.journal.Item.TheVariants as item
use Rattle.wait_rule.specs.{Known.Known, Notes.Notes, Queues.IsWholeBook}
use Rattle.wait_rule.specs.Says.{added, noted, told_of}
use Rattle.wait_rule.proofs.KnownLaws.AfterSteps.{noted_added, told_added}
use Rattle.wq_head.specs.Selects.{ShowsNoEntry}
use Rattle.wq_head.proofs.ShownMembers.{entry_same, whole_same}

-- what a hold has seen stays
pub record SameBook (k new : Known) : Type 0 where
  pub book : (told_of new).hold.book ≡ (told_of k).hold.book
  pub marks : (noted new).marks ≡ (noted k).marks
  pub at : new.at ≡ k.at

pub book_on : (k mid new : Known) → SameBook k mid → SameBook mid new → SameBook k new
book_on k mid new one two = record {
  book = two.book ∙ one.book;
  marks = two.marks ∙ one.marks;
  at = two.at ∙ one.at;
}

-- a step that touches neither
book_made : (e : Step) (k new : Known) → new ≡ added k (item.Made e)
    → (told_of (added k (item.Made e))).hold.book ≡ (told_of k).hold.book
    → (noted (added k (item.Made e))).marks ≡ (noted k).marks → (added k (item.Made e)).at ≡ k.at → SameBook k new
book_made e k new is book marks here = record {
  book = ap (λ (x : Known). (told_of x).hold.book) is ∙ book;
  marks = ap (λ (x : Known). (noted x).marks) is ∙ marks;
  at = ap (λ (x : Known). x.at) is ∙ here;
}

pub book_load : (k new : Known) (d v : ℕ) → new ≡ added k (item.Made (step.Load (watch.Done d) v)) → SameBook k new
book_load k new d v is = book_made (step.Load (watch.Done d) v) k new is
    (ap (λ (u : Told). u.hold.book) (told_added k (item.Made (step.Load (watch.Done d) v))))
    (ap (λ (n : Notes). n.marks) (noted_added k (item.Made (step.Load (watch.Done d) v)))) refl

pub book_store : (k new : Known) (d n r : ℕ) → new ≡ added k (item.Made (set_step (watch.Done d) n r)) → SameBook k new
book_store k new d n r is = by (nat_lt r n || (n == ALL_DONE)) is
  where
    by : (b : Bool) → new ≡ added k (item.Made (if b then step.Publish (watch.Done d) n r
        else step.Consume (watch.Done d) n r)) → SameBook k new
    by true made = book_made (step.Publish (watch.Done d) n r) k new made
        (ap (λ (u : Told). u.hold.book) (told_added k (item.Made (step.Publish (watch.Done d) n r))))
        (ap (λ (m : Notes). m.marks) (noted_added k (item.Made (step.Publish (watch.Done d) n r)))) refl
    by false made = book_made (step.Consume (watch.Done d) n r) k new made
        (ap (λ (u : Told). u.hold.book) (told_added k (item.Made (step.Consume (watch.Done d) n r))))
        (ap (λ (m : Notes). m.marks) (noted_added k (item.Made (step.Consume (watch.Done d) n r)))) refl

pub whole_on : (k new : Known) → SameBook k new → IsWholeBook k → IsWholeBook new
whole_on k new s w = whole_same k new s.book s.marks s.at w

pub nobody_on : (k new : Known) → SameBook k new → ShowsNoEntry k → ShowsNoEntry new
nobody_on k new s none x e low is = none x e low (sym (entry_same k new s.book s.marks s.at x) ∙ is)
