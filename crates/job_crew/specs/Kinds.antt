-- For proofs alone.
-- What is asked of one of five kinds, and what it did.
use Rattle.job_crew.specs.declared.crew.OneOf.{OneOf}
use Rattle.job_crew.specs.declared.crew.OneOf.TheVariants as one

-- What is asked of it by its kind.
abbrev pub IfOneOf : {A B C D E : Type 0} → OneOf A B C D E → (A → Type 0) → (B → Type 0) → (C → Type 0)
    → (D → Type 0) → (E → Type 0) → Type 0
IfOneOf (one.First x) a b c d e = a x
IfOneOf (one.Second x) a b c d e = b x
IfOneOf (one.Third x) a b c d e = c x
IfOneOf (one.Fourth x) a b c d e = d x
IfOneOf (one.Fifth x) a b c d e = e x

-- Two are of one kind, and what is said of that kind holds of them.
abbrev pub IfBothOneOf : {A B C D E F G H I J : Type 0} → OneOf A B C D E → OneOf F G H I J → (A → F → Type 0)
    → (B → G → Type 0) → (C → H → Type 0) → (D → I → Type 0) → (E → J → Type 0) → Type 0
IfBothOneOf (one.First x) (one.First y) a b c d e = a x y
IfBothOneOf (one.Second x) (one.Second y) a b c d e = b x y
IfBothOneOf (one.Third x) (one.Third y) a b c d e = c x y
IfBothOneOf (one.Fourth x) (one.Fourth y) a b c d e = d x y
IfBothOneOf (one.Fifth x) (one.Fifth y) a b c d e = e x y
IfBothOneOf _ _ a b c d e = ⊥

-- It is of this kind.
abbrev pub IsFirstOne : {A B C D E : Type 0} → OneOf A B C D E → Type 0
IsFirstOne (one.First x) = Unit {0}
IsFirstOne _ = ⊥

abbrev pub IsSecondOne : {A B C D E : Type 0} → OneOf A B C D E → Type 0
IsSecondOne (one.Second x) = Unit {0}
IsSecondOne _ = ⊥

abbrev pub IsThirdOne : {A B C D E : Type 0} → OneOf A B C D E → Type 0
IsThirdOne (one.Third x) = Unit {0}
IsThirdOne _ = ⊥

abbrev pub IsFourthOne : {A B C D E : Type 0} → OneOf A B C D E → Type 0
IsFourthOne (one.Fourth x) = Unit {0}
IsFourthOne _ = ⊥

abbrev pub IsFifthOne : {A B C D E : Type 0} → OneOf A B C D E → Type 0
IsFifthOne (one.Fifth x) = Unit {0}
IsFifthOne _ = ⊥

-- Five are each of a kind of its own, in the order of the kinds.
abbrev pub AreSorted : {A B C D E : Type 0}
    → OneOf A B C D E × (OneOf A B C D E × (OneOf A B C D E × (OneOf A B C D E × OneOf A B C D E))) → Type 0
AreSorted five = IsFirstOne five.0
    × (IsSecondOne five.1.0 × (IsThirdOne five.1.1.0 × (IsFourthOne five.1.1.1.0 × IsFifthOne five.1.1.1.1)))
