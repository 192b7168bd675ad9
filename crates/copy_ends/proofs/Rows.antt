-- The bytes of a copy in a row: what the source gave, what went through the pipes, and what the sink got.
use Rattle.std.proofs.Common.{sym, ap, ◌∙◌, subst, append-nil, append_assoc}
use Rattle.std.specs.Prelude.{ℕ, ◌≡◌, ◌++◌, List, [], Option, None, Some, IfSome}
use Rattle.std.specs.Io.KnownBytes.{prepend_known}

-- each a front of the one before it
pub in_row : (given w0 r0 w1 r1 front a b c d e : List ℕ) → given ≡ w0 ++ a → w0 ≡ r0 ++ b → r0 ≡ w1 ++ c
    → w1 ≡ r1 ++ d → r1 ≡ front ++ e → given ≡ front ++ (e ++ (d ++ (c ++ (b ++ a))))
in_row given w0 r0 w1 r1 front a b c d e one two three four five =
    one ∙ (ap (λ (xs : List ℕ). xs ++ a) two ∙ (append_assoc r0 b a ∙ (ap (λ (xs : List ℕ). xs ++ (b ++ a)) three
    ∙ (append_assoc w1 c (b ++ a) ∙ (ap (λ (xs : List ℕ). xs ++ (c ++ (b ++ a))) four
    ∙ (append_assoc r1 d (c ++ (b ++ a)) ∙ (ap (λ (xs : List ℕ). xs ++ (d ++ (c ++ (b ++ a)))) five
    ∙ append_assoc front e (d ++ (c ++ (b ++ a))))))))))

-- a front that is all
pub no_rest : (text front rest : List ℕ) → text ≡ front ++ rest → rest ≡ [] → text ≡ front
no_rest text front rest e none = e ∙ (ap (λ (xs : List ℕ). front ++ xs) none ∙ append-nil front)

-- what is so of all that was given is so of all that a source had, where nothing is left of it
pub gave_all : (P : List ℕ → Type 0) (left_old left_new : Option (List ℕ)) (given : List ℕ)
    → left_old ≡ prepend_known given left_new → IfSome left_new (λ bytes. bytes ≡ []) → P given → IfSome left_old P
gave_all P left_old left_new given left none is =
    subst (λ (o : Option (List ℕ)). IfSome o P) (sym left) (by left_new none)
  where
    by : (o : Option (List ℕ)) → IfSome o (λ bytes. bytes ≡ []) → IfSome (prepend_known given o) P
    by None none = tt
    by (Some xs) none = subst P (sym (ap (λ (ys : List ℕ). given ++ ys) none ∙ append-nil given)) is
