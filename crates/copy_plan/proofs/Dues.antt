-- Signals of a plan that become due in several steps: those of each step together are those of all.
use Rattle.std.proofs.Common.{refl, sym, ◌∙◌, ap, subst, arith}
use Rattle.std.specs.Prelude.{ℕ, ◌≡◌, ◌≤◌, ◌<◌, ◌+◌, ◌&&◌, Bool, true, false, if◌then◌else◌, nat_le, List, [], ◌∷◌}
use Rattle.std.specs.Prelude.{length}
use Rattle.std.proofs.lemmas.Bool.Decides.{nat_tests}
use Rattle.copy_plan.specs.{declared.plan.Planned.Planned, Plans.due_in, Plans.fatal_of}

-- how many it is that a test lets through of one
abbrev pub one_if : Bool → ℕ
one_if b = if b then 1 else 0

-- none is due from a number to a lower one
module _ (from to : ℕ) (up : to < from) where
  none_between : (o : ℕ) (b : Bool) → nat_le from o ≡ b → (b && nat_le o to) ≡ false
  none_between o false is = refl
  none_between o true is = grind (arith, nat_tests)

  pub due_none : (ps : List Planned) → due_in from to ps ≡ []
  due_none [] = refl
  due_none (p ∷ ps) = ap (λ (b : Bool). if b then p ∷ due_in from to ps else due_in from to ps)
      (none_between p.offset (nat_le from p.offset) refl) ∙ due_none ps

-- the tests of one signal
low_tests : (f t m s : Bool) → t ≡ true → m ≡ true → s ≡ false → one_if (f && t) ≡ one_if (f && m) + one_if (s && t)
low_tests f t m s e1 e2 e3 =
    subst (λ (x : Bool). one_if (f && x) ≡ one_if (f && m) + one_if (s && x)) (sym e1)
    (subst (λ (x : Bool). one_if (f && true) ≡ one_if (f && x) + one_if (s && true)) (sym e2)
    (subst (λ (x : Bool). one_if (f && true) ≡ one_if (f && true) + one_if (x && true)) (sym e3) (by f)))
  where
    by : (f : Bool) → one_if (f && true) ≡ one_if (f && true) + 0
    by true = refl
    by false = refl

high_tests : (f t m s : Bool) → f ≡ true → m ≡ false → s ≡ true → one_if (f && t) ≡ one_if (f && m) + one_if (s && t)
high_tests f t m s e1 e2 e3 =
    subst (λ (x : Bool). one_if (x && t) ≡ one_if (x && m) + one_if (s && t)) (sym e1)
    (subst (λ (x : Bool). one_if t ≡ one_if x + one_if (s && t)) (sym e2)
    (subst (λ (x : Bool). one_if t ≡ 0 + one_if (x && t)) (sym e3) (by t)))
  where
    by : (t : Bool) → one_if t ≡ 0 + one_if t
    by true = refl
    by false = refl

module _ (from mid to : ℕ) (low : from ≤ mid + 1) (high : mid ≤ to) where
  tests : (o : ℕ) (b : Bool) → nat_le o mid ≡ b → one_if (nat_le from o && nat_le o to)
      ≡ one_if (nat_le from o && nat_le o mid) + one_if (nat_le (mid + 1) o && nat_le o to)
  tests o true is =
      let l : o ≤ mid = grind (arith, nat_tests) in
      low_tests (nat_le from o) (nat_le o to) (nat_le o mid) (nat_le (mid + 1) o) (grind (arith, nat_tests)) is
      (grind (arith, nat_tests))
  tests o false is =
      let l : mid < o = grind (arith, nat_tests) in
      high_tests (nat_le from o) (nat_le o to) (nat_le o mid) (nat_le (mid + 1) o) (grind (arith, nat_tests)) is
      (grind (arith, nat_tests))

  length_flag : (b : Bool) (p : Planned) (xs : List Planned) → length (if b then p ∷ xs else xs) ≡ length xs + one_if b
  length_flag true p xs = omega arith
  length_flag false p xs = omega arith

  pub due_split : (ps : List Planned) → length (due_in from to ps)
      ≡ length (due_in from mid ps) + length (due_in (mid + 1) to ps)
  due_split [] = refl
  due_split (p ∷ ps) =
      let e = tests p.offset (nat_le p.offset mid) refl in
      let r = due_split ps in
      let x = length_flag (nat_le from p.offset && nat_le p.offset to) p (due_in from to ps) in
      let y = length_flag (nat_le from p.offset && nat_le p.offset mid) p (due_in from mid ps) in
      let z = length_flag (nat_le (mid + 1) p.offset && nat_le p.offset to) p (due_in (mid + 1) to ps) in
      omega arith

  -- and the fatal ones
  fatal_flag : (b f : Bool) (p : Planned) (xs : List Planned) → p.fatal ≡ f
      → length (fatal_of (if b then p ∷ xs else xs)) ≡ length (fatal_of xs) + (if f then one_if b else 0)
  fatal_flag false true p xs is = omega arith
  fatal_flag false false p xs is = omega arith
  fatal_flag true f p xs is = ap (λ (x : Bool). length (if x then p ∷ fatal_of xs else fatal_of xs)) is ∙ by f
    where
      by : (f : Bool) → length (if f then p ∷ fatal_of xs else fatal_of xs)
          ≡ length (fatal_of xs) + (if f then 1 else 0)
      by true = omega arith
      by false = omega arith

  fatal_step : (f : Bool) (x y z a b c u v w : ℕ) → u ≡ v + w → a ≡ b + c → x ≡ a + (if f then u else 0)
      → y ≡ b + (if f then v else 0) → z ≡ c + (if f then w else 0) → x ≡ y + z
  fatal_step true x y z a b c u v w e1 e2 e3 e4 e5 = omega arith
  fatal_step false x y z a b c u v w e1 e2 e3 e4 e5 = omega arith

  pub kills_split : (ps : List Planned) → length (fatal_of (due_in from to ps))
      ≡ length (fatal_of (due_in from mid ps)) + length (fatal_of (due_in (mid + 1) to ps))
  kills_split [] = refl
  kills_split (p ∷ ps) = fatal_step p.fatal _ _ _ _ _ _ _ _ _ (tests p.offset (nat_le p.offset mid) refl)
      (kills_split ps)
      (fatal_flag (nat_le from p.offset && nat_le p.offset to) p.fatal p (due_in from to ps) refl)
      (fatal_flag (nat_le from p.offset && nat_le p.offset mid) p.fatal p (due_in from mid ps) refl)
      (fatal_flag (nat_le (mid + 1) p.offset && nat_le p.offset to) p.fatal p (due_in (mid + 1) to ps) refl)
