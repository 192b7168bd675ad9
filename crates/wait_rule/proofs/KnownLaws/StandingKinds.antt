-- Entries for pages: which entries they are, and that a task that asks for none has none.
use Rattle.std.proofs.Common.{◌∙◌, ap, sym, inl, inr}
use Rattle.std.specs.Prelude.{ℕ, ◌≡◌, ◌⊎◌, true, false, Some, None, List}
use Rattle.wait_model.specs.{declared.watches.Watch.Watch, declared.watches.Entry.Entry, declared.watches.Kind.Kind}
use Rattle.wait_model.specs.{Words.Suited, Tables.Table}
use Rattle.wait_model.specs.Watches.{is_page, owner, page, word_of}
use Rattle.wait_model.specs.declared.watches.Watch.TheVariants as watch
use Rattle.wait_model.specs.declared.watches.Kind.TheVariants as kind
use Rattle.wait_rule.specs.{declared.journal.Item.Item, MemberWords.all_differences, Members.IsStanding, Rule.IsRuled}
use Rattle.wait_rule.specs.Asked.{nothing_asked, waits_at, was_given_at, all_asked}
use Rattle.wait_rule.specs.Pages.{uses_flag, IsAskedAt, IsPageState}
use Rattle.wait_rule.proofs.KnownLaws.PageStates.{none_some}
use Rattle.wait_rule.proofs.KnownLaws.PageSteps.{not_both, unflagged}
use Rattle.wait_rule.proofs.KnownLaws.MemberSteps.{AsksNone, MayAsk}

pub plain_not_page : (k : Kind) → (k ≡ kind.Default) ⊎ ((k ≡ kind.Autoremove) ⊎ ((k ≡ kind.Woken) ⊎ (k ≡ kind.Simple)))
    → is_page k ≡ false
plain_not_page k (inl is) = ap is_page is
plain_not_page k (inr (inl is)) = ap is_page is
plain_not_page k (inr (inr (inl is))) = ap is_page is
plain_not_page k (inr (inr (inr is))) = ap is_page is

-- an entry of kind Page is one for a page
pub page_watch : (x : ℕ) (e : Entry) → IsStanding x e → is_page e.kind ≡ true → e.watch ≡ page (word_of e.watch)
page_watch x e at = by e.watch e.kind at.lawful.suited
  where
    by : (w : Watch) (k : Kind) → Suited w k → is_page k ≡ true → w ≡ page (word_of w)
    by (watch.Plain c) k suited is = not_both (is_page k) is (plain_not_page k suited.1)
    by (watch.Done d) k suited is = not_both (is_page k) is (ap is_page suited.1)
    by (watch.Bit w b) k suited is = elim suited.2 [
      | inl bit ↦ not_both (is_page k) is (ap is_page bit)
      | inr paged ↦ ap (λ (c : ℕ). watch.Bit w c) paged.1
    ]
    by (watch.Var v o) k suited is = not_both (is_page k) is (ap is_page suited.2)

module _ (s : Table) (items : ℕ → List Item) (r : IsRuled s items) where
  -- a task that asks for nothing asks for no page at any index
  not_asked : {A : Type 0} (a x p : ℕ) → all_asked items a ≡ nothing_asked → owner x ≡ a
      → IsAskedAt x p (all_asked items (owner x)) → A
  not_asked a x p none mine (inl w) = none_some p (sym (ap (waits_at x) (ap (all_asked items) mine ∙ none)) ∙ w)
  not_asked a x p none mine (inr g) = none_some p (sym (ap (was_given_at x) (ap (all_asked items) mine ∙ none)) ∙ g)

  -- no page is taken for such a task, and no entry of its own for a page stands
  pub asks_none : (a : ℕ) → all_asked items a ≡ nothing_asked → AsksNone s a
  asks_none a none = record {
    taken = λ x mine. taken x mine (r.pages.each x);
    none = λ x e mine is. pageless x mine e is (r.pages.each x);
  }
    where
      taken : (x : ℕ) → owner x ≡ a → IsPageState s (all_differences items) (all_asked items) x → s.taken x ≡ None
      taken x mine (inl i) = i.taken
      taken x mine (inr (inl i)) = i.1.taken
      taken x mine (inr (inr (inl i))) = not_asked a x i.0 none mine i.2.asked
      taken x mine (inr (inr (inr i))) = not_asked a x i.0 none mine
          (elim i.1.asked [ inl w ↦ inl w.0 | inr g ↦ inr g ])

      pageless : (x : ℕ) → owner x ≡ a → (e : Entry) → s.entry x ≡ Some e
          → IsPageState s (all_differences items) (all_asked items) x → is_page e.kind ≡ false
      pageless x mine e is (inl i) = i.none e is
      pageless x mine e is (inr (inl i)) = not_asked a x i.0 none mine (inl i.1.waits)
      pageless x mine e is (inr (inr (inl i))) = not_asked a x i.0 none mine i.2.asked
      pageless x mine e is (inr (inr (inr i))) = unflagged e.kind (i.1.off e is)

  -- who asks for nothing may queue any entry
  pub may_ask : (a x : ℕ) (e : Entry) → IsStanding x e → (uses_flag e.kind ≡ true
      → all_asked items a ≡ nothing_asked) → MayAsk s a e
  may_ask a x e standing none = record {
    asks_none = λ uses. asks_none a (none uses);
    watch = page_watch x e standing;
  }
