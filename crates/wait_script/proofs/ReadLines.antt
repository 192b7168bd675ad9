-- What is read is spelled so, and has its numbers in their ranges.
use Rattle.std.proofs.Common.{◌≡◌, ⊎_elim, ℕ, ◌+◌, Bool, true, false, cond, eqb, List, [], ◌∷◌, ◌++◌, Result, Ok, Err}
use Rattle.std.proofs.Common.{length, codes, refl, ap, sym, ◌∙◌, subst, arith, append_assoc, nat_lt, ◌≤◌, All}
use Rattle.std.proofs.lemmas.Bool.Decides.{nat_tests}
use Rattle.std.proofs.lemmas.List.Elements.{All-nil, All-cons}
use Rattle.std.proofs.lemmas.List.Splits.{join_with_byte-slice_split}
use Rattle.std.specs.List.{join_with_byte, flat_map, list_all}
use Rattle.std.specs.Str.{bytes_eq}
use Rattle.std.specs.Cmp.Lexicographic.{same_text}
use Rattle.wait_model.specs.declared.layout.TheConstants.{EVENTS, LINE_BYTES}
use Rattle.wait_script.specs.{declared.line.Line.Line, declared.reason.Reason.Reason, declared.version.Version.Version}
use Rattle.wait_script.specs.{declared.version.Version.TheVariants.One, declared.version.Version.TheVariants.Two}
use Rattle.wait_script.specs.{Words.words_of, Words.both_of, Fields.number_at, Fields.last_priority_task}
use Rattle.wait_script.specs.{Versions.header_of, Versions.last_task}
use Rattle.wait_script.specs.declared.reason.Reason.TheVariants.{CutLine, LongLine, BadByte, NoHeader, UnknownWord}
use Rattle.wait_script.specs.Forms.{named_at, is_priority_add, last_of}
use Rattle.wait_script.specs.Lines.{VersionedLines, step_at, call_at, words_at, plain_at, version_at, header_at}
use Rattle.wait_script.specs.Lines.{line_at, is_printable}
use Rattle.wait_script.specs.Script.{parts_of, and_lines, lines_from, versioned, under, headed, script_of}
use Rattle.wait_script.specs.Spelling.{line_words, line_text, script_text, IsFit, IsFitScript}
use Rattle.wait_script.specs.declared.line.Line.TheVariants as line
use Rattle.wait_script.proofs.{Callers.last_by, Callers.for_task, ReadForms.named_ok, Versions.first_tasks}
use Rattle.wait_script.proofs.ReadFields.{chosen, made_ok, both_ok, number_ok, number_fits}

-- the words of a line, and the line that they say
abbrev IsLineReadAs : Version → List (List ℕ) → Line → Type 0
IsLineReadAs v words l = (words ≡ line_words l) × IsFit v l

words3 : (name a x : List ℕ) (b y : List (List ℕ)) → a ≡ x → b ≡ y → name ∷ a ∷ b ≡ name ∷ x ∷ y
words3 name a x b y p q = cc

step_ok : (v : Version) (words : List (List ℕ)) (l : Line) → step_at v words ≡ Ok l
    → IsLineReadAs v (codes "step" ∷ words) l
step_ok v [] l e = absurd (cc (e))
step_ok v (a ∷ []) l e = absurd (cc (e))
step_ok v (a ∷ b ∷ []) l e =
    let task = number_at 0 (last_task v) a in
    let m = made_ok (λ f. line.Step f.0 f.1) (both_of task (number_at 1 EVENTS b)) l e in
    let f = both_ok task (number_at 1 EVENTS b) m.0 m.1 in
    let n = number_fits 1 EVENTS b m.0.1 f.1 in
    subst (λ x. IsLineReadAs v (codes "step" ∷ a ∷ b ∷ []) x) m.2 (
      words3 (codes "step") a _ (b ∷ []) _ (number_ok 0 (last_task v) a m.0.0 f.0)
          (ap (λ w. w ∷ []) (number_ok 1 EVENTS b m.0.1 f.1)),
      ((number_fits 0 (last_task v) a m.0.0 f.0).1, n.0, n.1),
    )
step_ok v (a ∷ b ∷ d ∷ more) l e = absurd (cc (e))

-- no call is for a task above the last one
last_fits : (v : Version) (b : Bool) (n : ℕ) → n ≤ cond b last_priority_task (last_task v) → n ≤ last_task v
last_fits v true n h = omega (arith, h, first_tasks v)
last_fits v false n h = h

call_ok : (v : Version) (words : List (List ℕ)) (l : Line) → call_at v words ≡ Ok l
    → IsLineReadAs v (codes "call" ∷ words) l
call_ok v [] l e = absurd (cc (e))
call_ok v (a ∷ []) l e = absurd (cc (e))
call_ok v (a ∷ name ∷ rest) l e =
    let last = last_of v name rest in
    let task = number_at 0 last a in
    let m = made_ok (λ f. line.Call f.0 f.1) (both_of task (named_at v name rest)) l e in
    let f = both_ok task (named_at v name rest) m.0 m.1 in
    let n = named_ok v name rest m.0.1 f.1 in
    let most : m.0.0 ≤ last = (number_fits 0 last a m.0.0 f.0).1 in
    let low = last_fits v (is_priority_add name rest) m.0.0 most in
    let fit = n.1 in
    subst (λ x. IsLineReadAs v (codes "call" ∷ a ∷ name ∷ rest) x) m.2 (
      words3 (codes "call") a _ (name ∷ rest) _ (number_ok 0 last a m.0.0 f.0) n.0,
      (
        low,
        (for_task v m.0.1 m.0.0 low (subst (λ ws. m.0.0 ≤ last_by v ws) n.0 most) fit.0, fit.1, fit.2, fit.3),
      ),
    )

words_ok : (v : Version) (words : List (List ℕ)) (l : Line) → words_at v words ≡ Ok l → IsLineReadAs v words l
words_ok v [] l e = absurd (cc (e))
words_ok v (verb ∷ rest) l e =
    ⊎_elim
    (λ p. subst (λ n. IsLineReadAs v (n ∷ rest) l) (sym (same_text verb (codes "call") (sym p.0)))
    (call_ok v rest l p.1))
    (λ p. ⊎_elim
    (λ q. subst (λ n. IsLineReadAs v (n ∷ rest) l) (sym (same_text verb (codes "step") (sym q.0)))
    (step_ok v rest l q.1))
    (λ q. absurd (cc (q.1)))
    (chosen (bytes_eq verb (codes "step")) (step_at v rest) (Err UnknownWord) (Ok l) p.1))
    (chosen (bytes_eq verb (codes "call")) (call_at v rest) _ (Ok l) e)

plain_ok : {A : Type 0} (says : List ℕ → Result A Reason) (text : List ℕ) (x : A) → plain_at says text ≡ Ok x
    → says text ≡ Ok x
plain_ok says text x e =
    ⊎_elim
    (λ p. cc (p.1))
    (λ p. ⊎_elim (λ q. q.1) (λ q. cc (q.1)) (chosen (list_all is_printable text) (says text) (Err BadByte)
    (Ok x) p.1))
    (chosen (nat_lt LINE_BYTES (length text)) (Err LongLine) _ (Ok x) e)

-- the text of a line, and the line that it says
abbrev IsLine : Version → List ℕ → Line → Type 0
IsLine v text l = (text ≡ line_text l) × IsFit v l

line_ok : (v : Version) (text : List ℕ) (l : Line) → line_at v text ≡ Ok l → IsLine v text l
line_ok v text l e =
    let r = words_ok v (words_of text) l (plain_ok (λ x. words_at v (words_of x)) text l e) in
    (sym (join_with_byte-slice_split 32 text) ∙ ap (join_with_byte 32) r.0, r.1)

-- a first line that names a version is the one of that version
named_by : (text : List ℕ) (one v : Version) → bytes_eq text (header_of one) ≡ true
    → ◌≡◌ {A = Result Version Reason} (Ok one) (Ok v) → text ≡ header_of v
named_by text one v is e =
    let same : one ≡ v = cc in
    subst (λ u. text ≡ header_of u) same (same_text text (header_of one) (sym is))

header_ok : (text : List ℕ) (v : Version) → header_at text ≡ Ok v → text ≡ header_of v
header_ok text v e =
    ⊎_elim
    (λ p. named_by text One v p.0 p.1)
    (λ p. ⊎_elim
    (λ q. named_by text Two v q.0 q.1)
    (λ q. absurd (cc (q.1)))
    (chosen (bytes_eq text (header_of Two)) (Ok Two) (Err NoHeader) (Ok v) p.1))
    (chosen (bytes_eq text (header_of One)) (Ok One) _ (Ok v) (plain_ok version_at text v e))

and_ok : (number : ℕ) (a : Result Line Reason) (b : Result (List Line) (ℕ × Reason)) (lines : List Line)
    → and_lines number a b ≡ Ok lines
    → (l : Line) × (more : List Line) × (a ≡ Ok l) × (b ≡ Ok more) × (l ∷ more ≡ lines)
and_ok number (Ok l) (Ok more) lines e = (l, more, refl, refl, cc)
and_ok number (Ok l) (Err bad) lines e = cc
and_ok number (Err why) b lines e = cc

empty : (part : List ℕ) → eqb (length part) 0 ≡ true → part ≡ []
empty [] e = refl
empty (x ∷ xs) e = absurd (no x xs e)
  where
    no : (x : ℕ) (xs : List ℕ) → eqb (length (x ∷ xs)) 0 ≡ true → ⊥
    no x xs e = grind (arith, nat_tests)

abbrev ended : Line → List ℕ
ended l = line_text l ++ 10 ∷ []

-- the text of lines, and the lines that it says
abbrev AreLines : Version → List ℕ → List Line → Type 0
AreLines v text lines = (text ≡ flat_map ended lines) × All (IsFit v) lines

no_lines : (v : Version) (part : List ℕ) (lines : List Line) → part ≡ [] → [] ≡ lines → AreLines v part lines
no_lines v part lines e q = subst (λ ls. AreLines v part ls) q (e, All-nil (IsFit v))

one_more : (v : Version) (part rest : List ℕ) (l : Line) (more lines : List Line) → IsLine v part l
    → AreLines v rest more → l ∷ more ≡ lines → AreLines v (part ++ (10 ∷ rest)) lines
one_more v part rest l more lines a b e =
    subst (λ ls. AreLines v (part ++ (10 ∷ rest)) ls) e
    (joined part (line_text l) rest (flat_map ended more) a.0 b.0, All-cons (IsFit v) l more a.1 b.1)
  where
    joined : (a x b y : List ℕ) → a ≡ x → b ≡ y → a ++ (10 ∷ b) ≡ (x ++ 10 ∷ []) ++ y
    joined a x b y p q = ap (λ u. u ++ (10 ∷ b)) p ∙ ap (λ u. x ++ (10 ∷ u)) q
        ∙ sym (append_assoc x (10 ∷ []) y)

lines_ok : (v : Version) (number : ℕ) (part : List ℕ) (parts : List (List ℕ)) (lines : List Line)
    → lines_from v number (part ∷ parts) ≡ Ok lines
    → AreLines v (join_with_byte 10 (part ∷ parts)) lines
lines_ok v number part [] lines e =
    ⊎_elim
    (λ p. no_lines v part lines (empty part p.0) (cc (p.1)))
    (λ p. absurd (cc (p.1)))
    (chosen (eqb (length part) 0) (Ok []) (Err (number, CutLine)) (Ok lines) e)
lines_ok v number part (next ∷ more) lines e =
    let a = and_ok number (line_at v part) (lines_from v (number + 1) (next ∷ more)) lines e in
    one_more v part (join_with_byte 10 (next ∷ more)) a.0 a.1 lines (line_ok v part a.0 a.2)
    (lines_ok v (number + 1) next more a.1 a.3) a.4

-- the bytes of a script, and what they say
abbrev pub IsScript : List ℕ → VersionedLines → Type 0
IsScript bytes s = (bytes ≡ script_text s) × IsFitScript s

versioned_ok : (v : Version) (r : Result (List Line) (ℕ × Reason)) (s : VersionedLines) → versioned v r ≡ Ok s
    → (lines : List Line) × (r ≡ Ok lines) × (record { version = v; lines = lines } ≡ s)
versioned_ok v (Ok lines) s e = (lines, refl, cc)
versioned_ok v (Err bad) s e = absurd (cc (e))

under_ok : (h : Result Version Reason) (parts : List (List ℕ)) (s : VersionedLines) → under h parts ≡ Ok s
    → (v : Version) × (lines : List Line) × (h ≡ Ok v) × (lines_from v 2 parts ≡ Ok lines)
    × (record { version = v; lines = lines } ≡ s)
under_ok (Ok v) parts s e =
    let r = versioned_ok v (lines_from v 2 parts) s e in
    (v, r.0, refl, r.1, r.2)
under_ok (Err why) parts s e = absurd (cc (e))

headed_ok : (parts : List (List ℕ)) (s : VersionedLines) → headed parts ≡ Ok s
    → IsScript (join_with_byte 10 parts) s
headed_ok [] s e = absurd (cc (e))
headed_ok (header ∷ []) s e =
    ⊎_elim (λ p. absurd (cc (p.1))) (λ p. absurd (cc (p.1))) (chosen (eqb (length header) 0) (Err (1, NoHeader))
    (Err (1, CutLine)) (Ok s) e)
headed_ok (header ∷ next ∷ more) s e =
    let u = under_ok (header_at header) (next ∷ more) s e in
    let r = lines_ok u.0 2 next more u.1 u.3 in
    subst (λ x. IsScript (join_with_byte 10 (header ∷ next ∷ more)) x) u.4 (
      ap (λ h. h ++ (10 ∷ join_with_byte 10 (next ∷ more))) (header_ok header u.0 u.2)
          ∙ ap (λ x. header_of u.0 ++ (10 ∷ x)) r.0,
      r.1,
    )

-- what is read is spelled so, and fits
pub script_ok : (bytes : List ℕ) (s : VersionedLines) → script_of bytes ≡ Ok s → IsScript bytes s
script_ok bytes s e =
    let r = headed_ok (parts_of bytes) s e in
    (sym (join_with_byte-slice_split 10 bytes) ∙ r.0, r.1)
