-- What a task knows of the member bit that it has yet to store, and after it stored it.
use Rattle.std.proofs.Common.{refl, ◌∙◌, ap}
use Rattle.std.specs.Prelude.{ℕ, ◌≡◌, ◌+◌, ◌/◌, ◌%◌, ◌^◌, Bool, true, false, not, ◌==◌, if◌then◌else◌, Option, Some}
use Rattle.std.specs.Prelude.{None, [], ◌∷◌}
use Rattle.wait_model.specs.{declared.layout.TheConstants.ENTRIES, declared.queues.Mark.Mark, declared.steps.Step.Step}
use Rattle.wait_model.specs.{Fold.after, Tables.mark_of}
use Rattle.wait_rule.specs.{declared.journal.Item.Item, Notes.note_step, MemberWords.index_named, MemberWords.is_put}
use Rattle.wait_rule.specs.{Known.Known, Transitions.OnlyLooks}
use Rattle.wait_rule.specs.Items.{Book, learn, learn_step}
use Rattle.wait_rule.specs.Says.{added, stored_with, told_of, noted}
use Rattle.wait_rule.specs.Queues.{IsAgreed, marked, MayStoreMember}
use Rattle.wait_rule.specs.declared.journal.Item.TheVariants as item
use Rattle.wait_rule.proofs.KnownLaws.AfterSteps.{told_added, noted_added}

-- after a store of a word its bit may be stored
pub may_store : (k q : Known) (h i : ℕ) (on : Bool) (y : Item) → q ≡ added k y → (learn y k.book).head ≡ Some h
    → index_named k.view.number (learn y k.book).differs ≡ Some i → is_put (learn y k.book).differs ≡ on
    → MayStoreMember q h i on
may_store k q h i on y new held index is = record {
  held = ap (λ (z : Known). z.book.head) new ∙ held;
  named = ap (λ (z : Known). index_named z.view.number z.book.differs) new ∙ index;
  is = ap (λ (z : Known). is_put z.book.differs) new ∙ is;
}

-- a store of a bit tells of no word
module _ (k q : Known) (is : q ≡ added k item.Member) where
  pub bit_told : told_of q ≡ told_of k
  bit_told = ap told_of is ∙ told_added k item.Member

  pub bit_noted : noted q ≡ noted k
  bit_noted = ap noted is ∙ noted_added k item.Member

  pub bit_at : q.at ≡ k.at
  bit_at = ap (λ (z : Known). z.at) is

  pub bit_number : q.view.number ≡ k.view.number
  bit_number = ap (λ (z : Known). z.view.number) is

  pub bit_head : q.book.head ≡ k.book.head
  bit_head = ap (λ (z : Known). z.book.head) is

  pub bit_agreed : IsAgreed q
  bit_agreed = ap (λ (z : Known). z.book.differs) is

-- a step that stores a word, with its bit
pub told_stored : (k : Known) (e : Step) → told_of (stored_with k e) ≡ after e (told_of k)
told_stored k e = told_added (added k (item.Made e)) item.Member ∙ told_added k (item.Made e)

pub noted_stored : (k : Known) (e : Step)
    → noted (stored_with k e) ≡ note_step k.view.number e (told_of k) (noted k)
noted_stored k e = noted_added (added k (item.Made e)) item.Member ∙ noted_added k (item.Made e)

-- the store of the bit is no event
pub bit_looks : (k : Known) (e : Step) → OnlyLooks (added k (item.Made e)) (stored_with k e)
bit_looks k e = record { items = item.Member ∷ []; looks = (tt, tt); is = refl }

-- what the store of a bookmark leaves to be stored
pub mark_index : (o : Option Mark) (b : Book) (me : ℕ)
    → index_named me (learn_step (marked o) b).differs ≡ Some (ENTRIES + me)
mark_index None b me = refl
mark_index (Some m) b me = refl

pub mark_head : (o : Option Mark) (b : Book) → (learn_step (marked o) b).head ≡ b.head
mark_head None b = refl
mark_head (Some m) b = refl

pub mark_put : (w : ℕ) (b : Book) → is_put (learn_step (marked (mark_of w)) b).differs ≡ not (w == 0)
unfolding mark_of
mark_put w b = by (w == 0)
  where
    by : (t : Bool) → is_put (learn_step (marked (if t then None else Some (record {
      head = (w / 2 ^ 40) % 2 ^ 9;
      place = w % 2 ^ 40;
    }))) b).differs ≡ not t
    by true = refl
    by false = refl
