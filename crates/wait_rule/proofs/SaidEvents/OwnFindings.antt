-- An own entry that the history has not stored is found off.
use Rattle.std.proofs.lemmas.Option.{none-some}
use Rattle.std.proofs.Common.{refl, sym, ◌∙◌, ap, subst}
use Rattle.std.specs.Prelude.{ℕ, ◌≡◌, Option, Some, None, List}
use Rattle.wait_model.specs.{declared.steps.Step.Step, declared.watches.Entry.Entry, Watches.owner, Words.entry_of}
use Rattle.wait_model.specs.{Fold.view_of, Facts.Agrees}
use Rattle.wait_model.specs.Views.{View as Told, Look, unseen, off, elsewhere, shown}
use Rattle.wait_model.specs.declared.steps.Step.TheVariants as step
use Rattle.wait_rule.specs.Transitions.{IsSeenAs}
use Rattle.wait_rule.proofs.KnownLaws.Moments.{Moment, NextStep}

shown_unseen : {A : Type 0} (l : Look) (e : Entry) → l ≡ shown e → l ≡ unseen → A
shown_unseen l e is none = absurd (let z : shown e ≡ unseen = sym is ∙ none in cc)

stored_none : {A : Type 0} (o : Option Entry) (e : Entry) → o ≡ None → o ≡ Some e → A
stored_none o e none some = absurd (none-some e (sym none ∙ some))

module _ (me : ℕ) (front : List Step) (z : Moment me front) (x : ℕ) (mine : owner x ≡ me)
    (out : (view_of front).bits.stored x ≡ None) where
  there_not : {A : Type 0} (e : Entry) → z.table.entry x ≡ Some e → A
  there_not e is = stored_none ((view_of front).bits.stored x) e out
      (ap (λ (v : Told). v.bits.stored x) (sym z.view)
      ∙ subst (λ (i : ℕ). (z.table.view i).bits.stored x ≡ Some e) mine (z.kept.bits.stored_is x e is))

  agrees_at : (h : ℕ) → (view_of front).hold.head ≡ Some h → (e : Entry) → (view_of front).hold.book x ≡ shown e
      → z.table.entry x ≡ Some e
  agrees_at h held e is =
      let a : Agrees h ((z.table.view me).hold.book x) (z.table.entry x) =
      (z.kept.facts.views me).hold.agrees h x (ap (λ (v : Told). v.hold.head) z.view ∙ held) in
      let b : Agrees h (shown e) (z.table.entry x) =
      subst (λ (l : Look). Agrees h l (z.table.entry x)) (ap (λ (v : Told). v.hold.book x) z.view ∙ is) a in
      b.0

  shown_not : {A : Type 0} (o : Option ℕ) → (view_of front).hold.head ≡ o → (e : Entry)
      → (view_of front).hold.book x ≡ shown e → A
  shown_not None none e is = shown_unseen ((view_of front).hold.book x) e is (z.sees none x)
  shown_not (Some h) held e is = there_not e (agrees_at h held e is)

  -- in a hold
  pub own_off : (o : Option Entry) → IsSeenAs ((view_of front).hold.book x) o → o ≡ None
  own_off o = by ((view_of front).hold.book x) refl
    where
      by : (l : Look) → (view_of front).hold.book x ≡ l → IsSeenAs l o → o ≡ None
      by unseen is h = absurd h
      by off is h = h
      by elsewhere is h = absurd h
      by (shown e) is h = shown_not (view_of front).hold.head refl e is

  -- as its word shows
  pub word_off : (o : Option Entry) → o ≡ z.table.entry x → o ≡ None
  word_off None is = refl
  word_off (Some e) is = there_not e (sym is)

-- and as a load without the lock finds it
pub peek_off : (me : ℕ) (front : List Step) (x w : ℕ) → NextStep me front (step.Peek x w) → owner x ≡ me
    → (view_of front).bits.stored x ≡ None → (o : Option Entry) → o ≡ entry_of w → o ≡ None
peek_off me front x w n mine out o is = word_off me front n.moment x mine out o (is ∙ n.allowed.0)
