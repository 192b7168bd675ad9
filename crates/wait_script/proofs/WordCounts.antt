-- The words of a form: too few of them, too many, and as many as there are fields.
use Rattle.std.proofs.Common.{◌≡◌, ℕ, ◌<◌, ◌≤◌, List, [], ◌∷◌, Result, Ok, Err, length, map, get_or, take, drop, ◌-◌, arith, refl, sym}
use Rattle.std.proofs.Common.{ap, ◌∙◌}
use Rattle.std.specs.Result.{IsErrAnd}
use denote.Ref.{Bor}
use Rattle.wait_model.specs.{declared.calls.Call.Call}
use Rattle.wait_script.specs.{declared.reason.Reason.Reason}
use Rattle.wait_script.specs.{declared.reason.Reason.TheVariants.WordCount, declared.version.Version.Version}
use Rattle.wait_script.specs.{Words.both_of, Words.made_of, Lines.step_at}
use Rattle.wait_script.specs.Lines.{call_at}
use Rattle.wait_script.specs.Forms.{form1, form2, form3}

-- an error that is passed on
pub passed : {A B : Type 0} (make : A → B) (fields : Result A Reason) (e : Reason) → Err e ≡ fields
    → (r : Result B Reason) → IsErrAnd r (λ why. why ≡ e) → r ≡ made_of make fields
passed make fields e is (Ok x) h = absurd h
passed make fields e is (Err why) h = ap Err h ∙ ap (made_of make) is

-- the fields of two words, and of three
pub two : {A B : Type 0} {r : Result (A × B) Reason} {u f : Result A Reason} {v g : Result B Reason} → r ≡ both_of u v
    → u ≡ f → v ≡ g → r ≡ both_of f g
two {f = f} {v = v} is h k = is ∙ ap (λ x. both_of x v) h ∙ ap (both_of f) k

module _ {A : Type 0} (f : List ℕ → Result A Reason) (make : A → Call) where
  pub few1 : (words : List (Bor (List ℕ))) → length words < 1 → Err WordCount ≡ form1 f make (map (λ w. w.now) words)
  few1 [] n = refl
  few1 (a ∷ more) n = absurd (omega arith)

  pub many1 : (words : List (Bor (List ℕ))) → 2 ≤ length words → Err WordCount ≡ form1 f make (map (λ w. w.now) words)
  many1 [] n = absurd (omega arith)
  many1 (a ∷ []) n = absurd (omega arith)
  many1 (a ∷ b ∷ more) n = refl

  pub at1 : (words : List (Bor (List ℕ))) (d : Bor (List ℕ)) → 1 ≤ length words → length words < 2
      → form1 f make (map (λ w. w.now) words) ≡ made_of make (f (get_or words 0 d).now)
  at1 [] d n m = absurd (omega arith)
  at1 (a ∷ []) d n m = refl
  at1 (a ∷ b ∷ more) d n m = absurd (omega arith)

  pub ok1 : (words : List (Bor (List ℕ))) (d : Bor (List ℕ)) {x : A} → 1 ≤ length words → length words < 2
      → Ok x ≡ f (get_or words 0 d).now → Ok (make x) ≡ form1 f make (map (λ w. w.now) words)
  ok1 words d n m is = ap (made_of make) is ∙ sym (at1 words d n m)

  pub err1 : (words : List (Bor (List ℕ))) (d : Bor (List ℕ)) {e : Reason} {r : Result Call Reason} → 1 ≤ length words
      → length words < 2 → Err e ≡ f (get_or words 0 d).now → IsErrAnd r (λ why. why ≡ e)
      → r ≡ form1 f make (map (λ w. w.now) words)
  err1 words d {e = e} {r = r} n m is h = passed make _ e is r h ∙ sym (at1 words d n m)

module _ {A B : Type 0} (f : List ℕ → Result A Reason) (g : List ℕ → Result B Reason) (make : A → B → Call) where
  pub few2 : (words : List (Bor (List ℕ))) → length words < 2
      → Err WordCount ≡ form2 f g make (map (λ w. w.now) words)
  few2 [] n = refl
  few2 (a ∷ []) n = refl
  few2 (a ∷ b ∷ more) n = absurd (omega arith)

  pub many2 : (words : List (Bor (List ℕ))) → 3 ≤ length words
      → Err WordCount ≡ form2 f g make (map (λ w. w.now) words)
  many2 [] n = absurd (omega arith)
  many2 (a ∷ []) n = absurd (omega arith)
  many2 (a ∷ b ∷ []) n = absurd (omega arith)
  many2 (a ∷ b ∷ c ∷ more) n = refl

  at2 : (words : List (Bor (List ℕ))) (d : Bor (List ℕ)) → 2 ≤ length words → length words < 3
      → form2 f g make (map (λ w. w.now) words)
      ≡ made_of (λ x. make x.0 x.1) (both_of (f (get_or words 0 d).now) (g (get_or words 1 d).now))
  at2 [] d n m = absurd (omega arith)
  at2 (a ∷ []) d n m = absurd (omega arith)
  at2 (a ∷ b ∷ []) d n m = refl
  at2 (a ∷ b ∷ c ∷ more) d n m = absurd (omega arith)

  pub ok2 : (words : List (Bor (List ℕ))) (d : Bor (List ℕ)) {x : A × B} {u : Result A Reason} {v : Result B Reason}
      → 2 ≤ length words → length words < 3 → Ok x ≡ both_of u v → u ≡ f (get_or words 0 d).now
      → v ≡ g (get_or words 1 d).now → Ok (make x.0 x.1) ≡ form2 f g make (map (λ w. w.now) words)
  ok2 words d n m is h k = ap (made_of (λ x. make x.0 x.1)) (two is h k) ∙ sym (at2 words d n m)

  pub err2 : (words : List (Bor (List ℕ))) (d : Bor (List ℕ)) {e : Reason} {u : Result A Reason} {v : Result B Reason}
      {r : Result Call Reason} → 2 ≤ length words → length words < 3 → Err e ≡ both_of u v
      → u ≡ f (get_or words 0 d).now → v ≡ g (get_or words 1 d).now → IsErrAnd r (λ why. why ≡ e)
      → r ≡ form2 f g make (map (λ w. w.now) words)
  err2 words d {e = e} {r = r} n m is h k fault =
      passed (λ x. make x.0 x.1) _ e (two is h k) r fault ∙ sym (at2 words d n m)

module _ {A B C : Type 0} (f : List ℕ → Result A Reason) (g : List ℕ → Result B Reason)
    (h : List ℕ → Result C Reason) (make : A → B → C → Call) where
  pub few3 : (words : List (Bor (List ℕ))) → length words < 3
      → Err WordCount ≡ form3 f g h make (map (λ w. w.now) words)
  few3 [] n = refl
  few3 (a ∷ []) n = refl
  few3 (a ∷ b ∷ []) n = refl
  few3 (a ∷ b ∷ c ∷ more) n = absurd (omega arith)

  pub many3 : (words : List (Bor (List ℕ))) → 4 ≤ length words
      → Err WordCount ≡ form3 f g h make (map (λ w. w.now) words)
  many3 [] n = absurd (omega arith)
  many3 (a ∷ []) n = absurd (omega arith)
  many3 (a ∷ b ∷ []) n = absurd (omega arith)
  many3 (a ∷ b ∷ c ∷ []) n = absurd (omega arith)
  many3 (a ∷ b ∷ c ∷ e ∷ more) n = refl

  at3 : (words : List (Bor (List ℕ))) (d : Bor (List ℕ)) → 3 ≤ length words → length words < 4
      → form3 f g h make (map (λ w. w.now) words)
      ≡ made_of (λ x. make x.0 x.1.0 x.1.1)
      (both_of (f (get_or words 0 d).now) (both_of (g (get_or words 1 d).now) (h (get_or words 2 d).now)))
  at3 [] d n m = absurd (omega arith)
  at3 (a ∷ []) d n m = absurd (omega arith)
  at3 (a ∷ b ∷ []) d n m = absurd (omega arith)
  at3 (a ∷ b ∷ c ∷ []) d n m = refl
  at3 (a ∷ b ∷ c ∷ e ∷ more) d n m = absurd (omega arith)

  pub ok3 : (words : List (Bor (List ℕ))) (d : Bor (List ℕ)) {x : A × (B × C)} {u : Result A Reason}
      {vw : Result (B × C) Reason} {v : Result B Reason} {w : Result C Reason}
      → 3 ≤ length words → length words < 4 → Ok x ≡ both_of u vw → vw ≡ both_of v w
      → u ≡ f (get_or words 0 d).now → v ≡ g (get_or words 1 d).now → w ≡ h (get_or words 2 d).now
      → Ok (make x.0 x.1.0 x.1.1) ≡ form3 f g h make (map (λ w. w.now) words)
  ok3 words d n m is more p q r =
      ap (made_of (λ x. make x.0 x.1.0 x.1.1)) (two is p (two more q r)) ∙ sym (at3 words d n m)

  pub err3 : (words : List (Bor (List ℕ))) (d : Bor (List ℕ)) {e : Reason} {u : Result A Reason}
      {vw : Result (B × C) Reason} {v : Result B Reason} {w : Result C Reason} {r : Result Call Reason}
      → 3 ≤ length words → length words < 4 → Err e ≡ both_of u vw → vw ≡ both_of v w
      → u ≡ f (get_or words 0 d).now → v ≡ g (get_or words 1 d).now → w ≡ h (get_or words 2 d).now
      → IsErrAnd r (λ why. why ≡ e) → r ≡ form3 f g h make (map (λ w. w.now) words)
  err3 words d {e = e} {r = r} n m is more p q s fault =
      passed (λ x. make x.0 x.1.0 x.1.1) _ e (two is p (two more q s)) r fault ∙ sym (at3 words d n m)

pub few_step : (v : Version) (words : List (Bor (List ℕ))) → length words < 2
    → Err WordCount ≡ step_at v (map (λ w. w.now) words)
few_step v [] n = refl
few_step v (a ∷ []) n = refl
few_step v (a ∷ b ∷ more) n = absurd (omega arith)

pub many_step : (v : Version) (words : List (Bor (List ℕ))) → 3 ≤ length words
    → Err WordCount ≡ step_at v (map (λ w. w.now) words)
many_step v [] n = absurd (omega arith)
many_step v (a ∷ []) n = absurd (omega arith)
many_step v (a ∷ b ∷ []) n = absurd (omega arith)
many_step v (a ∷ b ∷ c ∷ more) n = refl

pub few_call : (v : Version) (words : List (Bor (List ℕ))) → length words < 2
    → Err WordCount ≡ call_at v (map (λ w. w.now) words)
few_call v [] n = refl
few_call v (a ∷ []) n = refl
few_call v (a ∷ b ∷ more) n = absurd (omega arith)

-- the words after the first two
abbrev pub others : List (Bor (List ℕ)) → List (List ℕ)
others words = map (λ w. w.now) (take (length words - 2) (drop 2 words))
