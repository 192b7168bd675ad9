-- Where a line is cut into words.
use Rattle.std.proofs.Common.{◌≡◌, ℕ, ◌+◌, ◌-◌, ◌<◌, ◌≢◌, Bool, true, false, cond, eqb, not, List, [], ◌∷◌, ◌++◌, Some}
use Rattle.std.proofs.Common.{None, length, map, take, drop, get_or, refl, ap, sym, ◌∙◌, arith, nat_lt, position}
use Rattle.std.proofs.Common.{append_assoc, subst, suc}
use Rattle.std.proofs.lemmas.Bool.Decides.{nat_tests}
use Rattle.std.proofs.lemmas.Grind.{common_steps}
use Rattle.std.proofs.lemmas.List.{map_push}
use Rattle.std.specs.List.{list_all, onto_first, position_or_len}
use denote.Ref.{Bor}
use mathlib.Core.Bool.{◌&&◌}
use Rattle.wait_script.specs.{Lines.is_printable, Words.words_of}
use Rattle.wait_script.specs.Reading.{is_stop}
use Rattle.wait_script.proofs.Truths.{some_by, none_by}

-- the space ends a word, and stands in no word; another byte that ends a word is in no line
space : (x : ℕ) → x ≡ 32 → (eqb x 32 ≡ true) × (is_printable x ≡ true)
space x e = (grind (arith, nat_tests), grind (arith, nat_tests))

graphic : (x : ℕ) → is_stop x ≡ false → (eqb x 32 ≡ false) × (is_printable x ≡ true)
graphic x e = (grind (arith, nat_tests), grind (arith, nat_tests))

odd : (x : ℕ) → is_stop x ≡ true → x ≢ 32 → is_printable x ≡ false
odd x e n = grind (arith, nat_tests)

-- the words and the bytes after the first n, where a space stands at n
abbrev IsCut : List ℕ → ℕ → Type 0
IsCut text n = (words_of text ≡ take n text ∷ words_of (drop (suc n) text))
    × (list_all is_printable text ≡ list_all is_printable (drop (suc n) text))

-- how far the bytes that don't stop go, by whether the first stops
abbrev far : Bool → ℕ → ℕ
far b n = cond (not b) (1 + n) 0

one_suc : (n : ℕ) → 1 + n ≡ suc n
one_suc n = omega arith

one_past : (n : ℕ) → n + 1 ≡ suc n
one_past n = omega arith

one_on : (x : ℕ) (xs : List ℕ) (n : ℕ) → get_or (x ∷ xs) (1 + n) 0 ≡ get_or xs n 0
one_on x xs n = ap (λ k. get_or (x ∷ xs) k 0) (one_suc n)

step : (b : Bool) (x : ℕ) (xs : List ℕ) (n : ℕ) → is_stop x ≡ b → far b n < length (x ∷ xs)
    → get_or (x ∷ xs) (far b n) 0 ≡ 32
    → (n < length xs → get_or xs n 0 ≡ 32 → IsCut xs n)
    → IsCut (x ∷ xs) (far b n)
step true x xs n s lt e h =
    let p = space x e in (
      ap (λ b. cond b ([] ∷ words_of xs) (onto_first x (words_of xs))) p.0,
      ap (λ b. b && list_all is_printable xs) p.1,
    )
step false x xs n s lt e h =
    let p = graphic x s in
    let r = h (omega arith) (sym (one_on x xs n) ∙ e) in
    subst (IsCut (x ∷ xs)) (sym (one_suc n)) (
      ap (λ b. cond b ([] ∷ words_of xs) (onto_first x (words_of xs))) p.0 ∙ ap (onto_first x) r.0,
      ap (λ b. b && list_all is_printable xs) p.1 ∙ r.1,
    )

cut : (text : List ℕ) → position_or_len is_stop text < length text
    → get_or text (position_or_len is_stop text) 0 ≡ 32
    → IsCut text (position_or_len is_stop text)
cut [] lt e = absurd (omega arith)
cut (x ∷ xs) lt e = step (is_stop x) x xs (position_or_len is_stop xs) refl lt e (cut xs)

odd_step : (b : Bool) (x : ℕ) (xs : List ℕ) (n : ℕ) → is_stop x ≡ b → far b n < length (x ∷ xs)
    → get_or (x ∷ xs) (far b n) 0 ≢ 32
    → (n < length xs → get_or xs n 0 ≢ 32 → list_all is_printable xs ≡ false)
    → list_all is_printable (x ∷ xs) ≡ false
odd_step true x xs n s lt e h = ap (λ b. b && list_all is_printable xs) (odd x s e)
odd_step false x xs n s lt e h =
    ap (λ b. b && list_all is_printable xs) (graphic x s).1 ∙ h (omega arith) (λ z. e (one_on x xs n ∙ z))

odd_at : (text : List ℕ) → position_or_len is_stop text < length text
    → get_or text (position_or_len is_stop text) 0 ≢ 32
    → list_all is_printable text ≡ false
odd_at [] lt e = absurd (omega arith)
odd_at (x ∷ xs) lt e = odd_step (is_stop x) x xs (position_or_len is_stop xs) refl lt e (odd_at xs)

-- the words and the bytes, where nothing stops
abbrev IsLastCut : List ℕ → Type 0
IsLastCut text = (words_of text ≡ text ∷ []) × (list_all is_printable text ≡ true)

last_step : (b : Bool) (x : ℕ) (xs : List ℕ) (n : ℕ) → is_stop x ≡ b
    → nat_lt (far b n) (length (x ∷ xs)) ≡ false
    → (nat_lt n (length xs) ≡ false → IsLastCut xs)
    → IsLastCut (x ∷ xs)
last_step true x xs n s e h = absurd (not_empty x xs e)
  where
    not_empty : (x : ℕ) (xs : List ℕ) → nat_lt 0 (length (x ∷ xs)) ≡ false → ⊥
    not_empty x xs e = grind (arith, nat_tests)
last_step false x xs n s e h =
    let p = graphic x s in
    let r = h (grind (arith, nat_tests)) in (
      ap (λ b. cond b ([] ∷ words_of xs) (onto_first x (words_of xs))) p.0 ∙ ap (onto_first x) r.0,
      ap (λ b. b && list_all is_printable xs) p.1 ∙ r.1,
    )

whole : (text : List ℕ) → nat_lt (position_or_len is_stop text) (length text) ≡ false → IsLastCut text
whole [] e = (refl, refl)
whole (x ∷ xs) e = last_step (is_stop x) x xs (position_or_len is_stop xs) refl e (whole xs)

below : (m n : ℕ) → nat_lt m n ≡ true → m < n
below m n e = grind (arith, nat_tests)

word_at : (text : List ℕ) (n : ℕ) → position is_stop text ≡ Some n → get_or text n 0 ≡ 32 → IsCut text n
word_at text n e s =
    let p = position_or_len is_stop text in
    let at = some_by (nat_lt p (length text)) p n e in
    subst (IsCut text) at.1 (cut text (below p (length text) at.0) (ap (λ k. get_or text k 0) at.1 ∙ s))

odd_byte : (text : List ℕ) (n : ℕ) → position is_stop text ≡ Some n → get_or text n 0 ≢ 32
    → list_all is_printable text ≡ false
odd_byte text n e s =
    let p = position_or_len is_stop text in
    let at = some_by (nat_lt p (length text)) p n e in
    odd_at text (below p (length text) at.0) (λ z. s (sym (ap (λ k. get_or text k 0) at.1) ∙ z))

last : (text : List ℕ) → position is_stop text ≡ None → IsLastCut text
last text e = whole text (none_by _ (position_or_len is_stop text) e)

-- what is cut so far: words, and what is left of the line
abbrev pub IsSplit : List ℕ → List (Bor (List ℕ)) → List ℕ → Type 0
IsSplit line words rest = (words_of line ≡ map (λ w. w.now) words ++ words_of rest)
    × (list_all is_printable line ≡ list_all is_printable rest)

module _ (line : List ℕ) (words : List (Bor (List ℕ))) (rest : List ℕ) (so_far : IsSplit line words rest) where
  pub stops : (n : ℕ) → position is_stop rest ≡ Some n → get_or rest n 0 ≢ 32
      → list_all is_printable line ≡ false
  stops n e s = so_far.1 ∙ odd_byte rest n e s

  pub one_more : (n : ℕ) (w : Bor (List ℕ)) (more : List ℕ) → position is_stop rest ≡ Some n
      → get_or rest n 0 ≡ 32
      → w.now ≡ take n rest → more ≡ drop (n + 1) rest → IsSplit line (words ++ w ∷ []) more
  one_more n w more e s is from =
      let c = word_at rest n e s in
      let m : more ≡ drop (suc n) rest = from ∙ ap (λ k. drop k rest) (one_past n) in (
        so_far.0 ∙ ap (λ ws. map (λ w. w.now) words ++ ws) c.0
            ∙ ap (λ x. map (λ w. w.now) words ++ x ∷ words_of (drop (suc n) rest)) (sym is)
            ∙ ap (λ r. map (λ w. w.now) words ++ w.now ∷ words_of r) (sym m)
            ∙ sym (append_assoc (map (λ w. w.now) words) (w.now ∷ []) (words_of more))
            ∙ ap (λ ws. ws ++ words_of more) (sym (map_push (λ w. w.now) words w)),
        so_far.1 ∙ c.1 ∙ ap (list_all is_printable) (sym m),
      )

  pub all_words : (w : Bor (List ℕ)) → position is_stop rest ≡ None → w.now ≡ rest
      → (map (λ w. w.now) (words ++ w ∷ []) ≡ words_of line) × (true ≡ list_all is_printable line)
  all_words w e is =
      let l = last rest e in (
        map_push (λ w. w.now) words w ∙ ap (λ x. map (λ w. w.now) words ++ x ∷ []) is
            ∙ sym (so_far.0 ∙ ap (λ ws. map (λ w. w.now) words ++ ws) l.0),
        sym (so_far.1 ∙ l.1),
      )

-- `&text[n..]`
pub rest_from : (text : List ℕ) (n : ℕ) → take (length text - n) (drop n text) ≡ drop n text
rest_from text n = grind (arith, common_steps)
