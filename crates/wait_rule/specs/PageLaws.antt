-- To be believed.
-- Pages that are handed over, in each table that meets the rule.
use Rattle.std.specs.Prelude.{ℕ, ◌≡◌, true, false, Some, None, List, [], ◌∷◌}
use Rattle.wait_model.specs.{declared.watches.Entry.Entry, Tables.Table, BitKeepers.HoldsBit}
use Rattle.wait_model.specs.Watches.{head_of, owner, page}
use Rattle.wait_model.specs.declared.watches.Kind.TheVariants as kind
use Rattle.wait_model.specs.declared.steps.Step.TheVariants as step
use Rattle.wait_rule.specs.{declared.journal.Item.Item, Rule.IsRuled}
use Rattle.wait_rule.specs.Items.{nothing, at_entry, page_taken, page_told, book_of}
use Rattle.wait_rule.specs.Asked.{nothing_asked, waits_for, was_given, asked_by_items, all_asked}
use Rattle.wait_rule.specs.Pages.{uses_flag, IsAskedAt, IsPageless}
use Rattle.wait_rule.specs.declared.journal.Item.TheVariants as item

-- A page that a walk took for the task of an entry is one for which the task's list tells that it waits, or that it was
-- given. That task holds the page, also while it sleeps, and no other one does.
pub record IsAwaited (s : Table) (items : ℕ → List Item) (x p : ℕ) : Type 0 where
  pub asked : IsAskedAt x p (all_asked items (owner x))
  pub holds : HoldsBit s (owner x) p 0
  pub alone : (a : ℕ) → HoldsBit s a p 0 → a ≡ owner x

abbrev pub RuleTakesForWaiters : Type 0
RuleTakesForWaiters = (s : Table) (items : ℕ → List Item) → IsRuled s items → (x p : ℕ) → s.taken x ≡ Some p
    → IsAwaited s items x p

-- Once nobody holds the page's head, such a page was handed over whole: DONE stands in the flag word, and no entry that
-- waits by the flag word stands.
pub record IsHandedWhole (s : Table) (x : ℕ) : Type 0 where
  pub done : s.done x ≡ true
  pub off : (e : Entry) → s.entry x ≡ Some e → uses_flag e.kind ≡ false

abbrev pub RuleHandsWhole : Type 0
RuleHandsWhole = (s : Table) (items : ℕ → List Item) → IsRuled s items → (x p : ℕ) → s.taken x ≡ Some p
    → s.holder (head_of (page p)) ≡ false → IsHandedWhole s x

-- A task that asks for no page has none left with it: none is taken for it, and no entry of its own for a page stands.
pub record HasNoPage (s : Table) (x : ℕ) : Type 0 where
  pub taken : s.taken x ≡ None
  pub pageless : IsPageless (s.entry x)

abbrev pub RuleLeavesNone : Type 0
RuleLeavesNone = (s : Table) (items : ℕ → List Item) → IsRuled s items → (t x : ℕ)
    → all_asked items t ≡ nothing_asked → owner x ≡ t → HasNoPage s x

-- What small lists tell. Task 1 queues its entry 2 for page 3, and finds it off: the page was given to it, until it
-- takes note of it. Where it takes the entry off itself, it asks for nothing.
abbrev pub worked_queue : Item
worked_queue = item.Made (step.Queue 2 (record {
  watch = page 3;
  place = 0;
  exclusive = true;
  priority = false;
  kind = kind.Page;
}))

abbrev pub worked_off : Item
worked_off = item.Made (step.Saw 2 0)

pub record WorkedPages : Type 0 where
  pub waits : asked_by_items (worked_queue ∷ []) ≡ waits_for 2 3
  pub given : asked_by_items (worked_queue ∷ worked_off ∷ []) ≡ was_given 2 3
  pub noted : asked_by_items (worked_queue ∷ worked_off ∷ item.Made (step.Unflag 2 (Some 3)) ∷ []) ≡ nothing_asked
  pub left : asked_by_items (worked_queue ∷ item.Made (step.Unqueue 2) ∷ []) ≡ nothing_asked
  pub taken : (book_of (item.Made (step.TasFor 2 3 0) ∷ [])).differs ≡ page_taken 2
  pub set : (book_of (item.Made (step.TasFor 2 3 1) ∷ [])).differs ≡ nothing
  pub told : (book_of (item.Made (step.TasFor 2 3 0) ∷ item.Made (step.Handed 2) ∷ [])).differs ≡ page_told 2
  pub off : (book_of (item.Made (step.TasFor 2 3 0) ∷ item.Made (step.Handed 2) ∷ item.Made (step.Unqueue 2)
      ∷ [])).differs ≡ at_entry 2 false
