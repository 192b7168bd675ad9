-- Words, and what they say in their places.
use Rattle.std.proofs.Common.{◌≡◌, ℕ, ◌+◌, ◌-◌, ◌^◌, ◌<◌, ◌≤◌, Bool, true, false, cond, eqb, List, [], ◌∷◌, ◌++◌, Ok}
use Rattle.std.proofs.Common.{Err, length, take, drop, codes, decimal, refl, ap, ◌∙◌, arith, append_assoc, nat_le}
use Rattle.std.proofs.Common.{nat_lt, length-append}
use mathlib.Core.Bool.{◌&&◌, ◌||◌, not}
use Rattle.std.proofs.lemmas.Bool.Decides.{nat_tests}
use Rattle.std.proofs.lemmas.List.Folds.{list_all-append}
use Rattle.std.proofs.lemmas.Fmt.{length-decimal-le}
use Rattle.std.proofs.Math.Seq.{take-append_seam, drop-append-add}
use Rattle.std.specs.List.{list_all, position_or_len, before_first, after_first}
use Rattle.std.specs.Str.{all_ascii_digits}
use Rattle.std.specs.Char.{is_ascii_digit}
use Rattle.wait_model.specs.{declared.tasks.How.How, declared.tasks.SleepState.SleepState, declared.watches.Mode.Mode}
use Rattle.wait_model.specs.{declared.watches.Kind.Kind, declared.queues.Form.Form, Tasks.looks_in, Tasks.is_killable}
use Rattle.wait_model.specs.Admission.{is_standing}
use Rattle.wait_model.specs.declared.tasks.SleepState.TheVariants.{Uninterruptible, Interruptible, Killable}
use Rattle.wait_model.specs.declared.watches.Mode.TheVariants as mode
use Rattle.wait_model.specs.declared.watches.Kind.TheVariants as kind
use Rattle.wait_model.specs.declared.queues.Form.TheVariants as form
use Rattle.wait_script.specs.{declared.reason.Reason.Reason, declared.reason.Reason.TheVariants.BadNumber}
use Rattle.wait_script.specs.{declared.reason.Reason.TheVariants.BadCondition, Number.numeral_value, Words.both_of}
use Rattle.wait_script.specs.{Text.form_text, Text.bit_text}
use Rattle.wait_script.specs.Fields.{last_word, last_bit, number_within, number_at, value_at, numbered_at, is_dot}
use Rattle.wait_script.specs.Fields.{bit_at, how_at, state_at, simple_state_at, mode_at, kind_field, form_at, fatal_at}
use Rattle.wait_script.specs.Fields.{all_at}
use Rattle.wait_script.specs.Spelling.{how_word, state_word, mode_word, kind_word, fatal_word, extent_word}
use Rattle.wait_script.proofs.ReadNumbers.{number_again, decimal_digits}
pub use Rattle.wait_script.proofs.Truths.{both_true, parts_true}

-- a word has at most 20 bytes, no space, no line feed, and is printable
abbrev pub in_word : ℕ → Bool
in_word b = nat_lt 32 b && nat_lt b 127

abbrev pub is_word : List ℕ → Bool
is_word word = list_all in_word word && nat_le (length word) 20

abbrev pub IsWord : List ℕ → Type 0
IsWord word = is_word word ≡ true

abbrev pub AreWords : List (List ℕ) → Type 0
AreWords [] = Unit {0}
AreWords (word ∷ words) = IsWord word × AreWords words

word_by : (word : List ℕ) → list_all in_word word ≡ true → length word ≤ 20 → IsWord word
word_by word h n =
    both_true (list_all in_word word) (nat_le (length word) 20) h (at_most (length word) n)
  where
    at_most : (n : ℕ) → n ≤ 20 → nat_le n 20 ≡ true
    at_most n h = grind (arith, nat_tests)

digit_in_word : (c : ℕ) → is_ascii_digit c ≡ true → in_word c ≡ true
digit_in_word c h = grind (arith, nat_tests)

digits_in_word : (ds : List ℕ) → all_ascii_digits ds ≡ true → list_all in_word ds ≡ true
digits_in_word [] h = refl
digits_in_word (c ∷ cs) h =
    let p = parts_true (is_ascii_digit c) (all_ascii_digits cs) h in
    both_true (in_word c) (list_all in_word cs) (digit_in_word c p.0) (digits_in_word cs p.1)

pub number_word : (n : ℕ) → n < 2 ^ 64 → IsWord (decimal n)
number_word n h =
    word_by (decimal n) (digits_in_word (decimal n) (decimal_digits n h))
    (length-decimal-le 20 n (omega arith) (omega (arith, h)) h)

short_number : (n : ℕ) → n < 1000 → length (decimal n) ≤ 3
short_number n h = length-decimal-le 3 n (omega arith) (omega (arith, h)) (omega (arith, h))

pub letter_word : (letter n : ℕ) → in_word letter ≡ true → n < 1000 → IsWord (letter ∷ decimal n)
letter_word letter n l h =
    let few = short_number n h in
    word_by (letter ∷ decimal n)
    (both_true (in_word letter) (list_all in_word (decimal n)) l
    (digits_in_word (decimal n) (decimal_digits n (omega (arith, h)))))
    (omega (arith, few))

bit_parts : (w b : ℕ) → bit_text w b ≡ (98 ∷ decimal w) ++ (46 ∷ decimal b)
bit_parts w b = append_assoc (codes "b" ++ decimal w) (codes ".") (decimal b)

pub bit_word : (w b : ℕ) → w < 1000 → b < 1000 → IsWord (bit_text w b)
bit_word w b h k =
    ap is_word (bit_parts w b)
    ∙ word_by ((98 ∷ decimal w) ++ (46 ∷ decimal b))
    (list_all-append in_word (98 ∷ decimal w) (46 ∷ decimal b)
    ∙ both_true (list_all in_word (decimal w)) (list_all in_word (decimal b))
    (digits_in_word (decimal w) (decimal_digits w (omega (arith, h))))
    (digits_in_word (decimal b) (decimal_digits b (omega (arith, k)))))
    few
  where
    few : length ((98 ∷ decimal w) ++ (46 ∷ decimal b)) ≤ 20
    few =
        let m = short_number w h in
        let n = short_number b k in
        rw (length-append) (omega (arith, m, n))

-- numbers in their ranges
within_read : (why : Reason) (low most n : ℕ) → low ≤ n → n ≤ most → n < 2 ^ 64
    → number_within why low most (numeral_value (decimal n)) ≡ Ok n
within_read why low most n a b h =
    let t : (nat_le low n && nat_le n most) ≡ true = grind (arith, nat_tests) in
    ap (number_within why low most) (number_again n h) ∙ ap (λ b. cond b (Ok n) (Err why)) t

pub number_read : (low most n : ℕ) → low ≤ n → n ≤ most → n < 2 ^ 64 → number_at low most (decimal n) ≡ Ok n
number_read low most n a b h = within_read BadNumber low most n a b h

pub value_read : (n : ℕ) → n < 2 ^ 64 → value_at (decimal n) ≡ Ok n
value_read n h = number_read 0 (2 ^ 64 - 1) n (omega arith) (omega (arith, h)) h

pub numbered_read : (letter low most n : ℕ) → low ≤ n → n ≤ most → n < 2 ^ 64
    → numbered_at letter low most (letter ∷ decimal n) ≡ Ok n
numbered_read letter low most n a b h =
    let same : eqb letter letter ≡ true = grind (arith, nat_tests) in
    ap (λ b. cond b (number_within BadCondition low most (numeral_value (decimal n))) (Err BadCondition)) same
    ∙ within_read BadCondition low most n a b h

-- no digit is a dot
at_dot : (front back : List ℕ) → all_ascii_digits front ≡ true
    → position_or_len is_dot (front ++ (46 ∷ back)) ≡ length front
at_dot [] back h = refl
at_dot (c ∷ cs) back h =
    let p = parts_true (is_ascii_digit c) (all_ascii_digits cs) h in
    ap (λ b. cond (not b) (1 + position_or_len is_dot (cs ++ (46 ∷ back))) 0) (no_dot c p.0)
    ∙ one (position_or_len is_dot (cs ++ (46 ∷ back))) (at_dot cs back p.1)
  where
    no_dot : (c : ℕ) → is_ascii_digit c ≡ true → is_dot c ≡ false
    no_dot c h = grind (arith, nat_tests)

    one : (n : ℕ) → n ≡ length cs → 1 + n ≡ length (c ∷ cs)
    one n e = omega (arith, e)

module _ (w b : ℕ) (h : w ≤ last_word) (k : b ≤ last_bit) where
  abbrev text : List ℕ
  text = (98 ∷ decimal w) ++ (46 ∷ decimal b)

  stands : position_or_len is_dot text ≡ length (98 ∷ decimal w)
  stands = one (position_or_len is_dot (decimal w ++ (46 ∷ decimal b))) (decimal w)
      (at_dot (decimal w) (decimal b) (decimal_digits w (omega (arith, h))))
    where
      one : (n : ℕ) (ds : List ℕ) → n ≡ length ds → 1 + n ≡ length (98 ∷ ds)
      one n ds e = omega (arith, e)

  front : before_first is_dot text ≡ 98 ∷ decimal w
  front = ap (λ n. take n text) stands ∙ take-append_seam (98 ∷ decimal w) (46 ∷ decimal b)

  back : after_first is_dot text ≡ decimal b
  back = ap (λ n. drop (n + 1) text) stands ∙ drop-append-add (98 ∷ decimal w) (46 ∷ decimal b) 1

  pub bit_read : bit_at (bit_text w b) ≡ Ok (w, b)
  bit_read =
      ap bit_at (bit_parts w b)
      ∙ ap (λ f. both_of (numbered_at 98 0 last_word f)
      (number_within BadCondition 0 last_bit (numeral_value (after_first is_dot text)))) front
      ∙ ap (λ g. both_of (numbered_at 98 0 last_word (98 ∷ decimal w))
      (number_within BadCondition 0 last_bit (numeral_value g))) back
      ∙ ap (λ r. both_of r (number_within BadCondition 0 last_bit (numeral_value (decimal b))))
      (numbered_read 98 0 last_word w (omega arith) h (omega (arith, h)))
      ∙ ap (λ r. both_of (Ok w) r) (within_read BadCondition 0 last_bit b (omega arith) k (omega (arith, k)))

-- keywords
pub state_is_word : (s : SleepState) → IsWord (state_word s)
state_is_word Uninterruptible = refl
state_is_word Interruptible = refl
state_is_word Killable = refl

pub state_read : (s : SleepState) → state_at (state_word s) ≡ Ok s
state_read Uninterruptible = refl
state_read Interruptible = refl
state_read Killable = refl

pub simple_state_read : (s : SleepState) → not (is_killable s) ≡ true → simple_state_at (state_word s) ≡ Ok s
simple_state_read Uninterruptible h = refl
simple_state_read Interruptible h = refl
simple_state_read Killable h = absurd (cc (h))

abbrev how_by : SleepState → Bool → How
how_by s x = record { state = s; exclusive = x }

how_is_word_by : (s : SleepState) (x : Bool) → IsWord (how_word (how_by s x))
how_is_word_by Uninterruptible false = refl
how_is_word_by Uninterruptible true = refl
how_is_word_by Interruptible false = refl
how_is_word_by Interruptible true = refl
how_is_word_by Killable false = refl
how_is_word_by Killable true = refl

pub how_is_word : (how : How) → IsWord (how_word how)
how_is_word how = how_is_word_by how.state how.exclusive

how_read_by : (s : SleepState) (x : Bool) → (not x || looks_in s) ≡ true
    → how_at (how_word (how_by s x)) ≡ Ok (how_by s x)
how_read_by Uninterruptible false h = refl
how_read_by Uninterruptible true h = absurd (cc (h))
how_read_by Interruptible false h = refl
how_read_by Interruptible true h = refl
how_read_by Killable false h = refl
how_read_by Killable true h = refl

pub how_read : (how : How) → (not how.exclusive || looks_in how.state) ≡ true → how_at (how_word how) ≡ Ok how
how_read how h = how_read_by how.state how.exclusive h

pub mode_is_word : (m : Mode) → IsWord (mode_word m)
mode_is_word mode.Interruptible = refl
mode_is_word mode.Normal = refl

pub mode_read : (m : Mode) → mode_at (mode_word m) ≡ Ok m
mode_read mode.Interruptible = refl
mode_read mode.Normal = refl

pub kind_is_word : (k : Kind) → is_standing k ≡ true → IsWord (kind_word k)
kind_is_word kind.Default h = refl
kind_is_word kind.Autoremove h = absurd (cc (h))
kind_is_word kind.Woken h = refl
kind_is_word kind.Bit h = absurd (cc (h))
kind_is_word kind.Var h = absurd (cc (h))
kind_is_word kind.Simple h = absurd (cc (h))
kind_is_word kind.Page h = absurd (cc (h))

pub kind_read : (k : Kind) → is_standing k ≡ true → kind_field (kind_word k) ≡ Ok k
kind_read kind.Default h = refl
kind_read kind.Autoremove h = absurd (cc (h))
kind_read kind.Woken h = refl
kind_read kind.Bit h = absurd (cc (h))
kind_read kind.Var h = absurd (cc (h))
kind_read kind.Simple h = absurd (cc (h))
kind_read kind.Page h = absurd (cc (h))

pub form_is_word : (f : Form) → IsWord (form_text f)
form_is_word form.Front = refl
form_is_word form.Tail = refl
form_is_word form.Priority = refl

pub form_read : (f : Form) → form_at (form_text f) ≡ Ok f
form_read form.Front = refl
form_read form.Tail = refl
form_read form.Priority = refl

pub fatal_is_word : (b : Bool) → IsWord (fatal_word b)
fatal_is_word true = refl
fatal_is_word false = refl

pub fatal_read : (b : Bool) → fatal_at (fatal_word b) ≡ Ok b
fatal_read true = refl
fatal_read false = refl

pub all_is_word : (b : Bool) → IsWord (extent_word b)
all_is_word true = refl
all_is_word false = refl

pub all_read : (b : Bool) → all_at (extent_word b) ≡ Ok b
all_read true = refl
all_read false = refl
