-- To be believed.
-- Phrases: what a call's events say, in the order in which they come.
use Rattle.std.specs.Prelude.{◌≡◌, ℕ, zero, suc, Bool, true, false, List, [], ◌∷◌}
use Rattle.wait_model.specs.{declared.calls.Event.Event, declared.calls.Answer.Answer}

-- which lists of events are left of a call, each with the answer that the call gives after it
abbrev pub Rest : Type 1
Rest = List Event → Answer → Type 0

-- a phrase says the events until something of the type A is known, and then comes the rest
abbrev pub Phrase : Type 0 → Type 1
Phrase A = (A → Rest) → Rest

-- one phrase after the other
infixl 10 ◌>>=◌
abbrev pub ◌>>=◌ : {A B : Type 0} → Phrase A → (A → Phrase B) → Phrase B
m >>= f = λ rest. m (λ x. f x rest)

infixl 10 ◌>>◌
abbrev pub ◌>>◌ : {B : Type 0} → Phrase (Unit {0}) → Phrase B → Phrase B
m >> n = λ rest. m (λ x. n rest)

-- no event
abbrev pub gives : {A : Type 0} → A → Phrase A
gives x = λ rest. rest x

-- this event
abbrev pub first_is : Event → Rest → Rest
first_is e rest [] a = ⊥
first_is e rest (x ∷ w) a = (x ≡ e) × rest w a

abbrev pub makes : Event → Phrase (Unit {0})
makes e = λ rest. first_is e (rest tt)

-- something that no event shows
abbrev pub any : (A : Type 0) → Phrase A
any A = λ rest w a. (x : A) × rest x w a

-- an event that shows what it found
abbrev pub finds : {A : Type 0} → (A → Event) → Phrase A
finds {A} f = λ rest w a. (x : A) × first_is (f x) (rest x) w a

-- only where this holds
abbrev pub given : Type 0 → Phrase (Unit {0})
given P = λ rest w a. P × rest tt w a

-- one of two
infix 5 when◌then◌otherwise◌
abbrev pub when◌then◌otherwise◌ : {A : Type 0} → Bool → Phrase A → Phrase A → Phrase A
when true then m otherwise n = m
when false then m otherwise n = n

-- the phrase, or nothing
abbrev pub maybe : Phrase (Unit {0}) → Phrase (Unit {0})
maybe m = any Bool >>= λ b. when b then m otherwise gives tt

-- a turn of a loop leads to one more, or out of it
pub data Turn (S A : Type 0) : Type 0 where
  repeats : S → Turn S A
  leaves : A → Turn S A

-- at most n turns
abbrev pub after_turn : {S A : Type 0} → (S → Phrase A) → Turn S A → Phrase A
after_turn m (repeats s) = m s
after_turn m (leaves x) = gives x

abbrev pub turns : {S A : Type 0} → ℕ → (S → Phrase (Turn S A)) → S → Phrase A
turns zero body s = λ rest w a. ⊥
turns (suc n) body s = body s >>= after_turn (turns n body)

-- turns until one leaves
abbrev pub repeat : {S A : Type 0} → (S → Phrase (Turn S A)) → S → Phrase A
repeat body s = any ℕ >>= λ n. turns n body s

-- nothing is left, and the answer is b
abbrev pub ends : Answer → Rest
ends b [] a = a ≡ b
ends b (x ∷ w) a = ⊥
