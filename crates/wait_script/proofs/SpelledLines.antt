-- A script that is spelled as lines that fit is read as those lines.
use Rattle.std.proofs.Common.{◌≡◌, ℕ, ◌+◌, ◌*◌, ◌≤◌, ◌<◌, Bool, true, false, cond, eqb, List, [], ◌∷◌, ◌++◌, Ok, Err}
use Rattle.std.proofs.Common.{All, length, refl, ap, ◌∙◌, arith, append_assoc, nat_le, nat_lt, length-append}
use Rattle.std.proofs.lemmas.Bool.Decides.{nat_tests}
use Rattle.std.proofs.lemmas.List.Splits.{slice_split_at, slice_split_none}
use Rattle.std.proofs.lemmas.List.Folds.{list_all-append}
use Rattle.std.proofs.lemmas.List.Elements.{All-nil, All-cons, All-head, All-tail}
use Rattle.std.specs.List.{join_with_byte, flat_map, list_all}
use Rattle.wait_model.specs.declared.layout.TheConstants.{LINE_BYTES}
use Rattle.wait_script.specs.{declared.line.Line.Line, declared.reason.Reason.TheVariants.LongLine}
use Rattle.wait_script.specs.{declared.reason.Reason.TheVariants.BadByte, declared.version.Version.Version}
use Rattle.wait_script.specs.{declared.version.Version.TheVariants.One, declared.version.Version.TheVariants.Two}
use Rattle.wait_script.specs.{Words.words_of, Reading.IsFirstLine, Versions.header_of}
use Rattle.wait_script.specs.Lines.{VersionedLines, words_at, header_at, line_at, is_printable}
use Rattle.wait_script.specs.Script.{is_end, parts_of, and_lines, lines_from, versioned, script_of}
use Rattle.wait_script.specs.Spelling.{line_words, line_text, script_text, IsFit, IsFitScript}
use Rattle.wait_script.proofs.{LineParts.lines_from-step, LineParts.good_header, SpelledForms.line_said}
use Rattle.wait_script.proofs.SpelledWords.{both_true, parts_true, in_word, IsWord, AreWords}

no_space : (x : ℕ) → in_word x ≡ true → eqb x 32 ≡ false
no_space x h = grind (arith, nat_tests)

prints : (x : ℕ) → in_word x ≡ true → is_printable x ≡ true
prints x h = grind (arith, nat_tests)

no_end : (x : ℕ) → is_printable x ≡ true → is_end x ≡ false
no_end x h = grind (arith, nat_tests)

all_of : (p : ℕ → Bool) (P : ℕ → Type 0) → ((x : ℕ) → p x ≡ true → P x) → (xs : List ℕ) → list_all p xs ≡ true
    → All P xs
all_of p P f [] h = All-nil P
all_of p P f (x ∷ xs) h =
    let q = parts_true (p x) (list_all p xs) h in
    All-cons P x xs (f x q.0) (all_of p P f xs q.1)

bytes_of : (word : List ℕ) → IsWord word → list_all in_word word ≡ true
bytes_of word h = (parts_true (list_all in_word word) (nat_le (length word) 20) h).0

few_of : (word : List ℕ) → IsWord word → length word ≤ 20
few_of word h = at_most (length word) (parts_true (list_all in_word word) (nat_le (length word) 20) h).1
  where
    at_most : (n : ℕ) → nat_le n 20 ≡ true → n ≤ 20
    at_most n h = grind (arith, nat_tests)

-- words that are joined by spaces are cut there
cut_words : (word : List ℕ) (words : List (List ℕ)) → IsWord word → AreWords words
    → words_of (join_with_byte 32 (word ∷ words)) ≡ word ∷ words
cut_words word [] h hs =
    slice_split_none (λ b. eqb b 32) word (all_of in_word _ no_space word (bytes_of word h))
cut_words word (next ∷ words) h hs =
    slice_split_at (λ b. eqb b 32) word 32 (join_with_byte 32 (next ∷ words))
    (all_of in_word _ no_space word (bytes_of word h)) refl
    ∙ ap (λ ws. word ∷ ws) (cut_words next words hs.0 hs.1)

word_prints : (word : List ℕ) → list_all in_word word ≡ true → list_all is_printable word ≡ true
word_prints [] h = refl
word_prints (x ∷ xs) h =
    let p = parts_true (in_word x) (list_all in_word xs) h in
    both_true (is_printable x) (list_all is_printable xs) (prints x p.0) (word_prints xs p.1)

words_print : (word : List ℕ) (words : List (List ℕ)) → IsWord word → AreWords words
    → list_all is_printable (join_with_byte 32 (word ∷ words)) ≡ true
words_print word [] h hs = word_prints word (bytes_of word h)
words_print word (next ∷ words) h hs =
    list_all-append is_printable word (32 ∷ join_with_byte 32 (next ∷ words))
    ∙ both_true (list_all is_printable word) _ (word_prints word (bytes_of word h))
    (words_print next words hs.0 hs.1)

-- so many words have no more than so many bytes
short : (word : List ℕ) (words : List (List ℕ)) → IsWord word → AreWords words
    → length (join_with_byte 32 (word ∷ words)) ≤ 20 + 21 * length words
short word [] h hs = let n = few_of word h in omega (arith, n)
short word (next ∷ words) h hs =
    let n = few_of word h in
    let m = short next words hs.0 hs.1 in
    rw (length-append) (omega (arith, n, m))

-- what is said by words is read from their text
line_from : (v : Version) (l : Line) (word : List ℕ) (words : List (List ℕ)) → line_words l ≡ word ∷ words
    → IsWord word → AreWords words → length words ≤ 5 → words_at v (word ∷ words) ≡ Ok l
    → (line_at v (line_text l) ≡ Ok l) × (list_all is_printable (line_text l) ≡ true)
line_from v l word words is h hs few said =
    let text : line_text l ≡ join_with_byte 32 (word ∷ words) = ap (join_with_byte 32) is in
    let print = ap (list_all is_printable) text ∙ words_print word words h hs in
    let cut : words_of (line_text l) ≡ word ∷ words = ap words_of text ∙ cut_words word words h hs in
    let most : nat_lt LINE_BYTES (length (line_text l)) ≡ false =
    ap (λ t. nat_lt LINE_BYTES (length t)) text
    ∙ fits (length (join_with_byte 32 (word ∷ words))) (length words) (short word words h hs) few in (
      ap (λ b. cond b (Err LongLine) (cond (list_all is_printable (line_text l)) (words_at v (words_of (line_text l)))
          (Err BadByte))) most
          ∙ ap (λ b. cond b (words_at v (words_of (line_text l))) (Err BadByte)) print
          ∙ ap (words_at v) cut ∙ said,
      print,
    )
  where
    fits : (n m : ℕ) → n ≤ 20 + 21 * m → m ≤ 5 → nat_lt LINE_BYTES n ≡ false
    fits n m h few = let le : n ≤ LINE_BYTES = omega (arith, h, few) in grind (arith, nat_tests)

read_back : (v : Version) (l : Line) → IsFit v l → (line_at v (line_text l) ≡ Ok l)
    × (list_all is_printable (line_text l) ≡ true)
read_back v l h = let s = line_said v l h in line_from v l s.0 s.1 s.2 s.3 s.4 s.5 s.6

-- a line that is spelled so at the front is read first
pub spelled_first : (v : Version) (bytes : List ℕ) (l : Line) (more : List ℕ) → IsFit v l
    → bytes ≡ line_text l ++ 10 ∷ more → IsFirstLine v bytes (Ok l) more
spelled_first v bytes l more fit e = λ number.
    ap (λ b. lines_from v number (parts_of b)) e
    ∙ ap (lines_from v number) (slice_split_at is_end (line_text l) 10 more
    (all_of is_printable _ no_end (line_text l) (read_back v l fit).1) refl)
    ∙ lines_from-step v number (line_text l) more
    ∙ ap (λ r. and_lines number r (lines_from v (number + 1) (parts_of more))) (read_back v l fit).0

pub shorter : (bytes text more : List ℕ) → bytes ≡ text ++ 10 ∷ more → length more < length bytes
shorter bytes text more e = let l = length-append text (10 ∷ more) in
    let n : length bytes ≡ length (text ++ 10 ∷ more) = ap length e in omega (arith, l, n)

abbrev ended : Line → List ℕ
ended l = line_text l ++ 10 ∷ []

next_part : (v : Version) (l : Line) (lines : List Line) → IsFit v l
    → parts_of (flat_map ended (l ∷ lines)) ≡ line_text l ∷ parts_of (flat_map ended lines)
next_part v l lines h =
    ap parts_of (append_assoc (line_text l) (10 ∷ []) (flat_map ended lines))
    ∙ slice_split_at is_end (line_text l) 10 (flat_map ended lines)
    (all_of is_printable _ no_end (line_text l) (read_back v l h).1) refl

lines_read : (v : Version) (number : ℕ) (lines : List Line) → All (IsFit v) lines
    → lines_from v number (parts_of (flat_map ended lines)) ≡ Ok lines
lines_read v number [] h = refl
lines_read v number (l ∷ lines) h =
    let fit = All-head (IsFit v) l lines h in
    ap (lines_from v number) (next_part v l lines fit)
    ∙ lines_from-step v number (line_text l) (flat_map ended lines)
    ∙ ap (λ r. and_lines number r (lines_from v (number + 1) (parts_of (flat_map ended lines))))
    (read_back v l fit).0
    ∙ ap (and_lines number (Ok l)) (lines_read v (number + 1) lines (All-tail (IsFit v) l lines h))

-- the first line of a version names it, and is one line
header_read : (v : Version) → (header_at (header_of v) ≡ Ok v) × (list_all is_printable (header_of v) ≡ true)
header_read One = (refl, refl)
header_read Two = (refl, refl)

pub script_read : (s : VersionedLines) → IsFitScript s → script_of (script_text s) ≡ Ok s
script_read s h =
    let header = header_of s.version in
    let more = flat_map ended s.lines in
    let read = header_read s.version in
    good_header (script_text s) header more s.version
    (slice_split_at is_end header 10 more (all_of is_printable _ no_end header read.1) refl)
    read.0
    ∙ ap (versioned s.version) (lines_read s.version 2 s.lines h)
