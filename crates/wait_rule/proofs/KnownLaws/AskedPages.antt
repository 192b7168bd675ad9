-- What lists with more items tell of pages, and what is said of pages where a task stored a member bit.
use Rattle.std.proofs.Common.{refl, sym, ◌∙◌, ap, subst, inl, inr}
use Rattle.std.specs.Prelude.{ℕ, ◌≡◌, ◌≢◌, ◌⊎◌, ◌&&◌, not, Bool, true, false, if◌then◌else◌, Some, None}
use Rattle.std.specs.Prelude.{List, [], ◌∷◌, ◌++◌}
use mathlib.Core.Path.{fun_ext}
use Rattle.wait_model.specs.{declared.watches.Entry.Entry, declared.steps.Step.Step, Functions.put, Words.entry_of}
use Rattle.wait_model.specs.{Fold.is_off, Tables.Table}
use Rattle.wait_model.specs.Watches.{is_page, was_clear, owner, page, word_of}
use Rattle.wait_model.specs.declared.steps.Step.TheVariants as step
use Rattle.wait_model.proofs.Functions.{put_case, put_same, put_other}
use Rattle.wait_rule.specs.{declared.journal.Item.Item, MemberWords.index_named, Known.Known}
use Rattle.wait_rule.specs.Items.{Difference, nothing, at_entry, at_mark, steps_of}
use Rattle.wait_rule.specs.Asked.{Asked, nothing_asked, waits_for, was_given, given_if, ask_step, after_item}
use Rattle.wait_rule.specs.Asked.{asked_from, asked_by_items, all_asked, is_asking}
use Rattle.wait_rule.specs.Pages.{taken_entry, IsHandedBy, ArePageStates}
use Rattle.wait_rule.specs.Says.{AsksNoPage, Obligation, added, asks_for, excuses, has_duty, no_excuse}
use Rattle.wait_rule.specs.Says.{page_asked}
use Rattle.wait_rule.specs.declared.journal.Item.TheVariants as item
use Rattle.wait_rule.proofs.KnownLaws.PageStates.{none_some, IsSameAt, hands_still, state_still}
use Rattle.wait_rule.proofs.KnownLaws.MemberSteps.{put_again}

-- A list with more items: what the task asks for, and what that is where none of them is a step.
pub asked_append : (k : Asked) (xs ys : List Item) → asked_from k (xs ++ ys) ≡ asked_from (asked_from k xs) ys
asked_append k [] ys = refl
asked_append k (x ∷ xs) ys = asked_append (after_item x k) xs ys

-- one item more
pub asked_added : (k : Known) (i : Item) → asks_for (added k i) ≡ after_item i (asks_for k)
asked_added k i = asked_append nothing_asked k.view.items (i ∷ [])

pub asked_quiet : (k : Asked) (xs : List Item) → steps_of xs ≡ [] → asked_from k xs ≡ k
asked_quiet k [] none = refl
asked_quiet k (item.Made e ∷ xs) none = absurd (cc)
asked_quiet k (x ∷ xs) none = asked_quiet k xs none

pub asked_next : (items : ℕ → List Item) (a : ℕ) (xs : List Item)
    → all_asked (put items a (items a ++ xs)) ≡ put (all_asked items) a (asked_from (asked_by_items (items a)) xs)
asked_next items a xs = fun_ext (λ t. by t (put_case items a (items a ++ xs) t))
  where
    K : ℕ → Asked
    K = put (all_asked items) a (asked_from (asked_by_items (items a)) xs)

    by : (t : ℕ) → ((t ≡ a) × (put items a (items a ++ xs) t ≡ items a ++ xs))
        ⊎ ((t ≢ a) × (put items a (items a ++ xs) t ≡ items t)) → asked_by_items (put items a (items a ++ xs) t) ≡ K t
    by t (inl q) = ap asked_by_items q.1 ∙ (asked_append nothing_asked (items a) xs
        ∙ sym (ap K q.0 ∙ put_same (all_asked items) a (asked_from (asked_by_items (items a)) xs)))
    by t (inr q) = ap asked_by_items q.1
        ∙ sym (put_other (all_asked items) a (asked_from (asked_by_items (items a)) xs) t q.0)

pub asked_same : (items : ℕ → List Item) (a : ℕ) (xs : List Item) → steps_of xs ≡ []
    → all_asked (put items a (items a ++ xs)) ≡ all_asked items
asked_same items a xs none = asked_next items a xs
    ∙ put_again (all_asked items) a (asked_from (asked_by_items (items a)) xs) (asked_quiet (asked_by_items (items a)) xs none)

-- What a task has yet to store changes, but no page that it has to hand over.
abbrev pub HandsSame : Difference → Difference → Type 0
HandsSame old new = (new ≡ old) ⊎ ((taken_entry old ≡ None) × (taken_entry new ≡ None))

-- it stored a member bit, and so had no page to hand over
pub named_hands : (me x : ℕ) (d : Difference) → index_named me d ≡ Some x → HandsSame d nothing
named_hands me x (at_entry y on) is = inr (refl, refl)
named_hands me x (at_mark on) is = inr (refl, refl)
named_hands me x _ is = none_some x is

pub pages_seen : (s : Table) (a : ℕ) (d : Difference) (differs : ℕ → Difference) (asked : ℕ → Asked)
    → HandsSame (differs a) d → ArePageStates s differs asked → ArePageStates s (put differs a d) asked
pages_seen s a d differs asked (inl is) r = subst (λ (f : ℕ → Difference). ArePageStates s f asked)
    (sym (put_again differs a d is)) r
pages_seen s a d differs asked (inr none) r = record {
  each = λ y. state_still s s differs D asked asked y (still y) (r.each y);
  own = r.own;
  hands = λ c y is. by c y is (put_case differs a d c);
}
  where
    D : ℕ → Difference
    D = put differs a d

    still : (y : ℕ) → IsSameAt s s differs D asked asked y
    still y = record {
      entry = refl;
      taken = refl;
      done = λ p t is. is;
      waits = refl;
      given = refl;
      stored = refl;
      hands = λ c is. (
        put_other differs a d c (λ q. none_some y (sym (ap (λ (i : ℕ). taken_entry (differs i)) q ∙ none.0) ∙ is)),
        refl,
      );
    }

    by : (c y : ℕ) → taken_entry (D c) ≡ Some y → ((c ≡ a) × (D c ≡ d)) ⊎ ((c ≢ a) × (D c ≡ differs c))
        → (p : ℕ) × IsHandedBy s (D c) (asked (owner y)) y p c
    by c y is (inl q) = none_some y (sym (ap taken_entry q.1 ∙ none.1) ∙ is)
    by c y is (inr q) =
        let i = r.hands c y (sym (ap taken_entry q.1) ∙ is) in
        (i.0, hands_still s s differs D asked asked y (still y) i.0 c i.1)

-- a page that is asked for by nobody is given to nobody
given_none : (b : Bool) (x : ℕ) → given_if b x nothing_asked ≡ nothing_asked
given_none true x = refl
given_none false x = refl

-- A task that asks for no page asks for none after a step that queues no entry for a page.
pub asks_nothing : (e : Step) → ((x : ℕ) (f : Entry) → e ≡ step.Queue x f → is_page f.kind ≡ false)
    → ask_step e nothing_asked ≡ nothing_asked
asks_nothing (step.Queue x f) none = ap (λ (t : Bool). if t then waits_for x (word_of f.watch) else nothing_asked)
    (none x f refl)
asks_nothing (step.Saw x w) none = given_none (is_off (entry_of w)) x
asks_nothing (step.Peek x w) none = given_none (is_off (entry_of w)) x
asks_nothing (step.TasFor x p w) none = given_none (was_clear (page p) w) x
asks_nothing e none = refl

pub asks_nothing_of : (k : Asked) → is_asking k ≡ false → k ≡ nothing_asked
asks_nothing_of nothing_asked none = refl
asks_nothing_of (waits_for x p) none = absurd (cc)
asks_nothing_of (was_given x p) none = absurd (cc)

-- who is not excused of it asks for none, in the words of its debts or of its list
pub asks_no_page : (k : Known) → AsksNoPage k → asks_for k ≡ nothing_asked
asks_no_page k none = asks_nothing_of (asks_for k) (by (is_asking (asks_for k)) (none page_asked refl))
  where
    by : (b : Bool) → (b && true) ≡ false → b ≡ false
    by true is = is
    by false is = refl

pub no_page_asked : (k : Known) → asks_for k ≡ nothing_asked → AsksNoPage k
no_page_asked k none d is = subst (λ (o : Obligation). (has_duty k o && not (excuses no_excuse o)) ≡ false) (sym is)
    (ap (λ (q : Asked). is_asking q && true) none)
