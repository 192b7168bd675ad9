-- What a word that is read in its place is spelled as.
use Rattle.std.proofs.Common.{◌≡◌, ◌⊎◌, inl, inr, ⊎_elim, ℕ, ◌+◌, ◌-◌, ◌<◌, Bool, true, false, cond, eqb, List, [], ◌∷◌}
use Rattle.std.proofs.Common.{◌++◌, Option, Some, None, Result, Ok, Err, codes, decimal, append_assoc, drop, length}
use Rattle.std.proofs.Common.{get_or, ◌^◌, refl, ap, sym, ◌∙◌, subst, arith, nat_le, nat_lt, ◌≤◌}
use mathlib.Core.Bool.{◌&&◌, ◌||◌, not}
use Rattle.std.proofs.lemmas.Bool.Decides.{nat_tests}
use Rattle.std.proofs.lemmas.Grind.{common_steps}
use Rattle.std.proofs.lemmas.List.Sums.{split_at_first, passes_at_first}
use Rattle.std.specs.List.{position_or_len, before_first, after_first}
use Rattle.std.specs.Str.{bytes_eq}
use Rattle.std.specs.Cmp.Lexicographic.{same_text}
use Rattle.wait_model.specs.{declared.tasks.How.How, declared.tasks.SleepState.SleepState, declared.watches.Mode.Mode}
use Rattle.wait_model.specs.{declared.watches.Kind.Kind, declared.queues.Form.Form, Tasks.looks_in, Tasks.is_killable}
use Rattle.wait_model.specs.Admission.{IsStandingKind}
use Rattle.wait_model.specs.declared.layout.TheConstants.{BIT_WORDS, COMPLETIONS, FIRST_SIMPLE, PLAIN_CONDITIONS}
use Rattle.wait_model.specs.declared.layout.TheConstants.{VARIABLES, WORD_BITS}
use Rattle.wait_script.specs.{declared.reason.Reason.Reason, declared.reason.Reason.TheVariants.BadNumber}
use Rattle.wait_script.specs.{declared.reason.Reason.TheVariants.BadCondition, Number.numeral_value, Words.both_of}
use Rattle.wait_script.specs.{Words.made_of, Text.form_text, Text.bit_text}
use Rattle.wait_script.specs.Fields.{last_cond, last_cell, last_var, last_word, last_bit, number_within, number_at}
use Rattle.wait_script.specs.Fields.{value_at, numbered_at, cond_field, cell_at, page_at, var_at, is_dot, bit_at}
use Rattle.wait_script.specs.Fields.{keyword_at, hows, states, simple_states, modes, kinds, forms, signal_words}
use Rattle.wait_script.specs.Fields.{extents, how_at, state_at, simple_state_at, mode_at, kind_field, form_at, fatal_at}
use Rattle.wait_script.specs.Fields.{all_at}
use Rattle.wait_script.specs.Spelling.{cond_word, cell_word, page_word, var_word, how_word, state_word, mode_word}
use Rattle.wait_script.specs.Spelling.{kind_word, fatal_word, extent_word}
use Rattle.wait_script.proofs.{ReadNumbers.number_is}
pub use Rattle.wait_script.proofs.Truths.{both_true}

pub chosen : {A : Type 0} (b : Bool) (x y z : A) → cond b x y ≡ z → ((b ≡ true) × (x ≡ z))
    ⊎ ((b ≡ false) × (y ≡ z))
chosen true x y z e = inl (refl, e)
chosen false x y z e = inr (refl, e)

pub made_ok : {A B : Type 0} (f : A → B) (r : Result A Reason) (y : B) → made_of f r ≡ Ok y → (x : A) × (r ≡ Ok x)
    × (f x ≡ y)
made_ok f (Ok x) y e = (x, refl, cc)
made_ok f (Err why) y e = cc

pub both_ok : {A B : Type 0} (a : Result A Reason) (b : Result B Reason) (p : A × B) → both_of a b ≡ Ok p → (a ≡ Ok p.0)
    × (b ≡ Ok p.1)
both_ok (Ok x) (Ok y) p e = let q : (x, y) ≡ p = cc in (ap (λ r. Ok r.0) q, ap (λ r. Ok r.1) q)
both_ok (Ok x) (Err v) p e = cc
both_ok (Err u) (Ok y) p e = cc
both_ok (Err u) (Err v) p e = cc

within_ok : (why : Reason) (low most : ℕ) (o : Option ℕ) (n : ℕ) → number_within why low most o ≡ Ok n → (o ≡ Some n)
    × ((low ≤ n) × (n ≤ most))
within_ok why low most None n e = absurd (cc (e))
within_ok why low most (Some m) n e =
    ⊎_elim
    (λ p. (cc (p.1), fits m n p.0 (cc (p.1))))
    (λ p. absurd (cc (p.1)))
    (chosen (nat_le low m && nat_le m most) (Ok m) (Err why) (Ok n) e)
  where
    fits : (m n : ℕ) → (nat_le low m && nat_le m most) ≡ true → m ≡ n → (low ≤ n) × (n ≤ most)
    fits m n t q = (grind (arith, nat_tests), grind (arith, nat_tests))

pub number_ok : (low most : ℕ) (word : List ℕ) (n : ℕ) → number_at low most word ≡ Ok n → word ≡ decimal n
number_ok low most word n e = number_is word n (within_ok BadNumber low most (numeral_value word) n e).0

pub number_fits : (low most : ℕ) (word : List ℕ) (n : ℕ) → number_at low most word ≡ Ok n
    → (low ≤ n) × (n ≤ most)
number_fits low most word n e = (within_ok BadNumber low most (numeral_value word) n e).1

below : (most n : ℕ) → n ≤ most → nat_lt n (most + 1) ≡ true
below most n h = grind (arith, nat_tests)

-- a number that a script has room for is below a number of the core's
pub number_below : (low most all : ℕ) (word : List ℕ) (n : ℕ) → number_at low most word ≡ Ok n → most < all
    → nat_lt n all ≡ true
number_below low most all word n e room =
    let h : n ≤ most = (number_fits low most word n e).1 in grind (arith, nat_tests)

pub value_ok : (word : List ℕ) (n : ℕ) → value_at word ≡ Ok n → word ≡ decimal n
value_ok word n e = number_ok 0 (2 ^ 64 - 1) word n e

pub value_below : (word : List ℕ) (n : ℕ) → value_at word ≡ Ok n → n < 2 ^ 64
value_below word n e =
    let most : n ≤ (2 ^ 64 - 1) = (number_fits 0 (2 ^ 64 - 1) word n e).1 in
    omega (arith, most)

numbered_ok : (letter low most : ℕ) (word : List ℕ) (n : ℕ) → numbered_at letter low most word ≡ Ok n
    → word ≡ letter ∷ decimal n
numbered_ok letter low most [] n e = cc
numbered_ok letter low most (c ∷ digits) n e =
    ⊎_elim
    (λ p. same c digits (decimal n) p.0
    (number_is digits n (within_ok BadCondition low most (numeral_value digits) n p.1).0))
    (λ p. cc (p.1))
    (chosen (eqb c letter) (number_within BadCondition low most (numeral_value digits)) (Err BadCondition) (Ok n) e)
  where
    same : (c : ℕ) (digits text : List ℕ) → eqb c letter ≡ true → digits ≡ text → c ∷ digits ≡ letter ∷ text
    same c digits text e d = let f : c ≡ letter = grind (arith, nat_tests) in cc

numbered_fits : (letter low most : ℕ) (word : List ℕ) (n : ℕ) → numbered_at letter low most word ≡ Ok n
    → (low ≤ n) × (n ≤ most)
numbered_fits letter low most [] n e = absurd (cc (e))
numbered_fits letter low most (c ∷ digits) n e =
    ⊎_elim
    (λ p. (within_ok BadCondition low most (numeral_value digits) n p.1).1)
    (λ p. absurd (cc (p.1)))
    (chosen (eqb c letter) (number_within BadCondition low most (numeral_value digits)) (Err BadCondition) (Ok n) e)

pub cond_below : (low most : ℕ) (word : List ℕ) (n : ℕ) → cond_field low most word ≡ Ok n
    → nat_lt n (most + 1) ≡ true
cond_below low most word n e = below most n (numbered_fits 99 low most word n e).1

-- the condition of a simple queue
pub simple_between : (word : List ℕ) (n : ℕ) → cond_field FIRST_SIMPLE last_cond word ≡ Ok n
    → (not (nat_lt n FIRST_SIMPLE) && nat_lt n PLAIN_CONDITIONS) ≡ true
simple_between word n e =
    let f = numbered_fits 99 FIRST_SIMPLE last_cond word n e in
    let from : nat_lt n FIRST_SIMPLE ≡ false = grind (arith, nat_tests, f.0) in
    both_true (not (nat_lt n FIRST_SIMPLE)) (nat_lt n PLAIN_CONDITIONS) (ap not from) (below last_cond n f.1)

pub page_below : (word : List ℕ) (n : ℕ) → page_at word ≡ Ok n → nat_lt n BIT_WORDS ≡ true
page_below word n e = below last_word n (numbered_fits 98 0 last_word word n e).1

pub cell_below : (word : List ℕ) (n : ℕ) → cell_at word ≡ Ok n → nat_lt n COMPLETIONS ≡ true
cell_below word n e = below last_cell n (numbered_fits 100 0 last_cell word n e).1

pub var_below : (word : List ℕ) (n : ℕ) → var_at word ≡ Ok n → nat_lt n VARIABLES ≡ true
var_below word n e = below last_var n (numbered_fits 118 0 last_var word n e).1

pub cond_ok : (low most : ℕ) (word : List ℕ) (n : ℕ) → cond_field low most word ≡ Ok n → word ≡ cond_word n
cond_ok low most word n e = numbered_ok 99 low most word n e

pub cell_ok : (word : List ℕ) (n : ℕ) → cell_at word ≡ Ok n → word ≡ cell_word n
cell_ok word n e = numbered_ok 100 0 last_cell word n e

pub page_ok : (word : List ℕ) (n : ℕ) → page_at word ≡ Ok n → word ≡ page_word n
page_ok word n e = numbered_ok 98 0 last_word word n e

pub var_ok : (word : List ℕ) (n : ℕ) → var_at word ≡ Ok n → word ≡ var_word n
var_ok word n e = numbered_ok 118 0 last_var word n e

-- after the last byte there is no number
no_dot : (word : List ℕ) (n : ℕ) → nat_lt (position_or_len is_dot word) (length word) ≡ false
    → number_within BadCondition 0 last_bit (numeral_value (after_first is_dot word)) ≡ Ok n → ⊥
no_dot word n h e =
    let none : after_first is_dot word ≡ [] = past word (position_or_len is_dot word) h in
    let f : number_within BadCondition 0 last_bit (numeral_value []) ≡ Ok n =
    sym (ap (λ w. number_within BadCondition 0 last_bit (numeral_value w)) none) ∙ e in
    cc (f)
  where
    past : (word : List ℕ) (k : ℕ) → nat_lt k (length word) ≡ false → drop (k + 1) word ≡ []
    past word k h = grind (arith, common_steps, nat_tests)

cut_at : (word front back : List ℕ) (c : ℕ) (w b : ℕ) → word ≡ front ++ (c ∷ back) → is_dot c ≡ true
    → front ≡ 98 ∷ decimal w → back ≡ decimal b → word ≡ bit_text w b
cut_at word front back c w b cut dot f g =
    let d : c ≡ 46 = grind (arith, nat_tests) in
    cut ∙ ap (λ x. x ++ (c ∷ back)) f ∙ ap (λ x. (98 ∷ decimal w) ++ (x ∷ back)) d
    ∙ ap (λ x. (98 ∷ decimal w) ++ (46 ∷ x)) g
    ∙ sym (append_assoc (codes "b" ++ decimal w) (codes ".") (decimal b))

pub bit_ok : (word : List ℕ) (p : ℕ × ℕ) → bit_at word ≡ Ok p → word ≡ bit_text p.0 p.1
bit_ok word p e =
    let f = both_ok (numbered_at 98 0 last_word (before_first is_dot word))
    (number_within BadCondition 0 last_bit (numeral_value (after_first is_dot word))) p e in
    found (nat_lt (position_or_len is_dot word) (length word)) refl f
  where
    found : (r : Bool) → nat_lt (position_or_len is_dot word) (length word) ≡ r
        → (numbered_at 98 0 last_word (before_first is_dot word) ≡ Ok p.0)
        × (number_within BadCondition 0 last_bit (numeral_value (after_first is_dot word)) ≡ Ok p.1)
        → word ≡ bit_text p.0 p.1
    found true h f =
        let lt : position_or_len is_dot word < length word = grind (arith, nat_tests) in
        cut_at word (before_first is_dot word) (after_first is_dot word)
        (get_or word (position_or_len is_dot word) 0) p.0 p.1
        (split_at_first is_dot word 0 lt) (passes_at_first is_dot word 0 lt)
        (numbered_ok 98 0 last_word (before_first is_dot word) p.0 f.0)
        (number_is (after_first is_dot word) p.1
        (within_ok BadCondition 0 last_bit (numeral_value (after_first is_dot word)) p.1 f.1).0)
    found false h f = absurd (no_dot word p.1 h f.1)

pub bit_below : (word : List ℕ) (p : ℕ × ℕ) → bit_at word ≡ Ok p
    → (nat_lt p.0 BIT_WORDS && nat_lt p.1 WORD_BITS) ≡ true
bit_below word p e =
    let f = both_ok (numbered_at 98 0 last_word (before_first is_dot word))
    (number_within BadCondition 0 last_bit (numeral_value (after_first is_dot word))) p e in
    both_true (nat_lt p.0 BIT_WORDS) (nat_lt p.1 WORD_BITS)
    (below last_word p.0 (numbered_fits 98 0 last_word (before_first is_dot word) p.0 f.0).1)
    (below last_bit p.1 (within_ok BadCondition 0 last_bit (numeral_value (after_first is_dot word)) p.1 f.1).1.1)

-- something stands of each keyword of a table and its value
abbrev AreAll : {A : Type 0} → (List ℕ → A → Type 0) → List (List ℕ × A) → Type 0
AreAll P [] = Unit {0}
AreAll P (entry ∷ table) = P entry.0 entry.1 × AreAll P table

-- so it stands of a word that is read by the table
keyword_ok : {A : Type 0} (P : List ℕ → A → Type 0) (table : List (List ℕ × A)) → AreAll P table
    → (word : List ℕ) (x : A) → keyword_at table word ≡ Ok x → P word x
keyword_ok P [] all word x e = absurd (cc (e))
keyword_ok P (entry ∷ table) all word x e =
    ⊎_elim
    (λ p. subst (λ w. P w x) (sym (same_text word entry.0 (sym p.0)))
    (subst (λ y. P entry.0 y) (cc (p.1)) all.0))
    (λ p. keyword_ok P table all.1 word x p.1)
    (chosen (bytes_eq word entry.0) (Ok entry.1) (keyword_at table word) (Ok x) e)

-- a wait that is read is not both exclusive and uninterruptible
abbrev IsHow : List ℕ → How → Type 0
IsHow word how = (word ≡ how_word how) × ((not how.exclusive || looks_in how.state) ≡ true)

how_read : (word : List ℕ) (how : How) → how_at word ≡ Ok how → IsHow word how
how_read word how e =
    keyword_ok IsHow hows
    ((refl, refl), ((refl, refl), ((refl, refl), ((refl, refl), ((refl, refl), tt)))))
    word how e

pub how_ok : (word : List ℕ) (how : How) → how_at word ≡ Ok how → word ≡ how_word how
how_ok word how e = (how_read word how e).0

pub how_listed : (word : List ℕ) (how : How) → how_at word ≡ Ok how
    → (not how.exclusive || looks_in how.state) ≡ true
how_listed word how e = (how_read word how e).1

pub state_ok : (word : List ℕ) (state : SleepState) → state_at word ≡ Ok state → word ≡ state_word state
state_ok word state e = keyword_ok (λ w s. w ≡ state_word s) states (refl, (refl, (refl, tt))) word state e

-- a simple wait that is read is not killable
abbrev IsSimpleState : List ℕ → SleepState → Type 0
IsSimpleState word state = (word ≡ state_word state) × (not (is_killable state) ≡ true)

simple_read : (word : List ℕ) (state : SleepState) → simple_state_at word ≡ Ok state
    → IsSimpleState word state
simple_read word state e = keyword_ok IsSimpleState simple_states (
  (refl, refl),
  ((refl, refl), tt),
) word state e

pub simple_state_ok : (word : List ℕ) (state : SleepState) → simple_state_at word ≡ Ok state
    → word ≡ state_word state
simple_state_ok word state e = (simple_read word state e).0

pub simple_state_listed : (word : List ℕ) (state : SleepState) → simple_state_at word ≡ Ok state
    → not (is_killable state) ≡ true
simple_state_listed word state e = (simple_read word state e).1

pub mode_ok : (word : List ℕ) (mode : Mode) → mode_at word ≡ Ok mode → word ≡ mode_word mode
mode_ok word mode e = keyword_ok (λ w m. w ≡ mode_word m) modes (refl, (refl, tt)) word mode e

pub kind_ok : (word : List ℕ) (kind : Kind) → kind_field word ≡ Ok kind → word ≡ kind_word kind
kind_ok word kind e = keyword_ok (λ w k. w ≡ kind_word k) kinds (refl, (refl, tt)) word kind e

pub kind_listed : (word : List ℕ) (kind : Kind) → kind_field word ≡ Ok kind → IsStandingKind kind
kind_listed word kind e = keyword_ok (λ w k. IsStandingKind k) kinds (refl, (refl, tt)) word kind e

pub form_ok : (word : List ℕ) (form : Form) → form_at word ≡ Ok form → word ≡ form_text form
form_ok word form e = keyword_ok (λ w f. w ≡ form_text f) forms (refl, (refl, (refl, tt))) word form e

pub fatal_ok : (word : List ℕ) (fatal : Bool) → fatal_at word ≡ Ok fatal → word ≡ fatal_word fatal
fatal_ok word fatal e = keyword_ok (λ w b. w ≡ fatal_word b) signal_words (refl, (refl, tt)) word fatal e

pub all_ok : (word : List ℕ) (all : Bool) → all_at word ≡ Ok all → word ≡ extent_word all
all_ok word all e = keyword_ok (λ w b. w ≡ extent_word b) extents (refl, (refl, tt)) word all e
