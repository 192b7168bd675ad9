-- A look at the member words of a head without its lock, one word after another.
use Rattle.std.proofs.Common.{◌∙◌, ap, sym, refl, inl, inr, arith, eq-eqb, eqb-true}
use Rattle.std.proofs.lemmas.Bool.{or_left, or_right}
use Rattle.std.specs.Prelude.{ℕ, zero, suc, ◌≡◌, ◌≢◌, ◌+◌, ◌<◌, ◌≤◌, ◌==◌, ◌&&◌, ◌||◌, not, Bool, true, false}
use Rattle.std.specs.Prelude.{List, [], ◌∷◌, ◌++◌}
use Rattle.std.proofs.lemmas.Bool.Decides.{nat_tests}
use Rattle.wait_model.specs.{declared.layout.TheConstants.MEMBER_WORDS, declared.watches.Watch.Watch}
use Rattle.wait_model.specs.{declared.steps.Step.Step, Tasks.meets, Scans.empty_scans, Scans.empty_look}
use Rattle.wait_model.specs.{Views.View as Told, Fold.after, Fold.view_of}
use Rattle.wait_model.specs.Watches.{head_of, mask_of, same}
use Rattle.wait_model.specs.declared.steps.Step.TheVariants as step
use Rattle.wait_model.specs.declared.watches.Mode.TheVariants as mode
use Rattle.wait_model.proofs.{Sameness.same_head, HistoryLaws.HeadScans.empty_looks_end}
use Rattle.wait_rule.specs.{declared.journal.Item.Item, Items.steps_of, Known.Known, LookCounts.Looked}
use Rattle.wait_rule.specs.LookCounts.{LooksAtMost}
use Rattle.wait_rule.specs.Says.{Excuse, OwesBut, told_of, history_of, added, grown, wake_of}
use Rattle.wait_rule.specs.Stays.{with_wakes, Carries, unchanged}
use Rattle.wait_rule.specs.Transitions.{AreScansOf, has_bit, has_word}
use Rattle.wait_rule.specs.declared.journal.Item.TheVariants as item
use Rattle.wait_rule.proofs.{KnownLaws.AfterSteps.told_added}
use Rattle.wait_rule.proofs.{KnownLaws.Transitions.grown_more}
use Rattle.wait_rule.proofs.TableSteps.ItemLists.{steps_append}
use Rattle.wait_rule.proofs.KnownLaws.CarriedTasks.{or_none, owes_more, owes_wakes, unchanged_on}
use Rattle.wq_head.specs.Scanned.{HasScanned, HasEndedAt, spares_head}
use Rattle.wq_head.proofs.FirstAndLast.{below_or}

-- loads of n words from word i on, each of which found no bit
abbrev pub scans : ℕ → ℕ → ℕ → List Item
scans h i zero = []
scans h i (suc n) = item.Made (step.Scan h i 0) ∷ scans h (suc i) n

abbrev load : ℕ → ℕ → ℕ → List Item
load h i w = item.Made (step.Scan h i w) ∷ []

scans_more : (h i n : ℕ) → scans h i (suc n) ≡ scans h i n ++ load h (i + n) 0
scans_more h i zero = ap (λ (j : ℕ). load h j 0) (let e : i ≡ i + 0 = omega arith in e)
scans_more h i (suc n) = ap (λ (xs : List Item). item.Made (step.Scan h i 0) ∷ xs) (scans_more h (suc i) n
    ∙ ap (λ (j : ℕ). scans h (suc i) n ++ load h j 0) (let e : suc i + n ≡ i + suc n = omega arith in e))

scans_of : (h i n : ℕ) → AreScansOf h (scans h i n)
scans_of h i zero = tt
scans_of h i (suc n) = (refl, scans_of h (suc i) n)

scans_steps : (h i n : ℕ) → steps_of (scans h i n) ≡ empty_scans h i n
scans_steps h i zero = refl
scans_steps h i (suc n) = ap (λ (es : List Step). step.Scan h i 0 ∷ es) (scans_steps h (suc i) n)

scans_none : (h i n : ℕ) → has_bit (scans h i n) ≡ false
scans_none h i zero = refl
scans_none h i (suc n) = scans_none h (suc i) n

scans_all : (h i n j : ℕ) → i ≤ j → j < i + n → has_word j (scans h i n) ≡ true
scans_all h i zero j low high = absurd (omega arith)
scans_all h i (suc n) j low high = elim (below_or i j) [
  | inl behind ↦ or_right (i == j) (has_word j (scans h (suc i) n))
      (scans_all h (suc i) n j (omega arith) (omega arith))
  | inr here ↦ or_left (i == j) (has_word j (scans h (suc i) n)) (eq-eqb i j (omega arith))
]

of_append : (h : ℕ) (xs ys : List Item) → AreScansOf h xs → AreScansOf h ys → AreScansOf h (xs ++ ys)
of_append h [] ys one two = two
of_append h (x ∷ xs) ys one two = (one.0, of_append h xs ys one.1 two)

bit_append : (xs ys : List Item) → has_bit ys ≡ true → has_bit (xs ++ ys) ≡ true
bit_append [] ys is = is
bit_append (x ∷ xs) ys is = or_right _ (has_bit (xs ++ ys)) (bit_append xs ys is)

-- the look has found no bit in the first n words
pub record HasFoundNone (old now : Known) (h n : ℕ) : Type 0 where
  pub is : now ≡ grown old (scans h 0 n) old.book
  pub bits : (told_of now).bits ≡ (told_of old).bits
  pub mark : (told_of now).mark ≡ (told_of old).mark
  pub looked : Looked n old now
  pub carries : Carries unchanged old now

-- what one load more leaves
module _ (old now new : Known) (h n w : ℕ) (s : HasFoundNone old now h n) (made : new ≡ added now (item.Made
    (step.Scan h n w)))
    (one : Looked 1 now new) (carry : Carries unchanged now new) where
  told : told_of new ≡ after (step.Scan h n w) (told_of now)
  told = ap told_of made ∙ told_added now (item.Made (step.Scan h n w))

  all_items : new ≡ grown old (scans h 0 n ++ load h n w) old.book
  all_items = made ∙ ((λ i. grown (s.is i) (load h n w) (s.is i).book)
      ∙ grown_more old (scans h 0 n) (load h n w) old.book old.book)

  pub none_more : w ≡ 0 → HasFoundNone old new h (n + 1)
  none_more zero_is = record {
    is = all_items ∙ ap (λ (xs : List Item). grown old xs old.book)
        (ap (λ (v : ℕ). scans h 0 n ++ load h n v) zero_is
        ∙ (ap (λ (j : ℕ). scans h 0 n ++ load h j 0) (let e : n ≡ 0 + n = omega arith in e)
        ∙ (sym (scans_more h 0 n) ∙ ap (scans h 0) (let e : suc n ≡ n + 1 = omega arith in e))));
    bits = ap (λ (v : Told). v.bits) told ∙ s.bits;
    mark = ap (λ (v : Told). v.mark) told ∙ s.mark;
    looked = let a = s.looked in omega (arith, one, a);
    carries = unchanged_on old now new s.carries carry;
  }

  pub bit_found : w ≢ 0 → HasScanned old new h true
  bit_found some = record {
    items = scans h 0 n ++ load h n w;
    loads = of_append h (scans h 0 n) (load h n w) (scans_of h 0 n) (refl, tt);
    found = bit_append (scans h 0 n) (load h n w) (or_left (not (w == 0)) false (let t : not (w == 0) ≡ true =
        grind (arith, nat_tests, some) in t));
    all = λ no. absurd (cc);
    is = all_items;
  }

  pub few_looks : n < MEMBER_WORDS → LooksAtMost MEMBER_WORDS old new
  few_looks few = let a = s.looked in omega (arith, one, a, few)

  pub carried : Carries unchanged old new
  carried = unchanged_on old now new s.carries carry

-- a look that found no bit at all
module _ (old new : Known) (h : ℕ) (s : HasFoundNone old new h MEMBER_WORDS) where
  pub none_scanned : HasScanned old new h false
  none_scanned = record {
    items = scans h 0 MEMBER_WORDS;
    loads = scans_of h 0 MEMBER_WORDS;
    found = scans_none h 0 MEMBER_WORDS;
    all = λ _ i few. scans_all h 0 MEMBER_WORDS i (omega arith) (omega arith);
    is = s.is;
  }

  history : told_of new ≡ view_of (history_of old ++ empty_look h)
  history = ap told_of s.is ∙ ap view_of (steps_append old.view.items (scans h 0 MEMBER_WORDS)
      ∙ ap (λ (es : List Step). history_of old ++ es) (scans_steps h 0 MEMBER_WORDS))

  here : (c : Watch) (σ : ℕ) → head_of c ≡ h → (told_of new).duty.owes c σ ≡ false
  here c σ at = ap (λ (v : Told). v.duty.owes c σ) history ∙ (empty_looks_end (history_of old) h).here c σ at

  elsewhere : (c : Watch) (σ : ℕ) → head_of c ≢ h → (told_of new).duty.owes c σ ≡ (told_of old).duty.owes c σ
  elsewhere c σ away = ap (λ (v : Told). v.duty.owes c σ) history
      ∙ (empty_looks_end (history_of old) h).elsewhere c σ away

  -- an excuse of the wakes of this head is needed no more
  spared : (x : Excuse) (c : Watch) (σ : ℕ) (b n : Bool) → (head_of c == h) ≡ b
      → ((told_of old).duty.owes c σ && not ((x.wakes c σ || b) || n)) ≡ false
      → ((told_of new).duty.owes c σ && not (x.wakes c σ || n)) ≡ false
  spared x c σ true n at owes = ap (λ (o : Bool). o && not (x.wakes c σ || n))
      (here c σ (eqb-true (head_of c) h at))
  spared x c σ false n away owes =
      let far : head_of c ≢ h = λ e. (let t : (head_of c == h) ≡ true = eq-eqb (head_of c) h e in
      let z : true ≡ false = sym t ∙ away in cc) in
      ap (λ (o : Bool). o && not (x.wakes c σ || n)) (elsewhere c σ far)
      ∙ (ap (λ (b : Bool). (told_of old).duty.owes c σ && not (b || n)) (sym (or_none (x.wakes c σ))) ∙ owes)

  pub none_ended : HasEndedAt old new h
  none_ended = record {
    here = here;
    elsewhere = elsewhere;
    settled = λ x o. owes_wakes (spares_head h x) x new refl refl refl refl refl
        (λ c σ. spared x c σ (head_of c == h) (not (meets (mask_of mode.Normal) σ)) refl (o.debts.none (wake_of c σ)))
        (s.carries.owes (spares_head h x) o);
  }

  pub none_looks : LooksAtMost MEMBER_WORDS old new
  none_looks = let a = s.looked in omega (arith, a)

-- a look that found no member ends what a publish began, as a wake does
at_its_head : (a s m e : Bool) → (s ≡ true → e ≡ true) → (a || (s && m)) ≡ true → (a || e) ≡ true
at_its_head true s m e here is = refl
at_its_head false true m e here is = here refl
at_its_head false false m e here is = absurd (cc)

pub found_none_over : (c : Watch) (old new : Known) → HasEndedAt old new (head_of c) → (x : Excuse)
    → OwesBut (with_wakes c mode.Normal x) old → OwesBut x new
unfolding with_wakes
found_none_over c old new ended x o = ended.settled x (owes_more (with_wakes c mode.Normal x)
    (spares_head (head_of c) x) old refl refl refl refl refl
    (λ d σ. at_its_head (x.wakes d σ) (same d c) (meets (mask_of mode.Normal) σ) (head_of d == head_of c)
    (λ alike. eq-eqb (head_of d) (head_of c) (same_head d c alike))) o)
