-- Words that are refused before a command is known.
use Rattle.std.proofs.Common.{◌≡◌, ℕ, ◌⊎◌, List, Option, Some, None, Err, true, IfSome, refl, sym, ap, subst, inl, inr}
use Rattle.waitq_alone.specs.{Fault.status_of, declared.fault.Fault.Fault}
use Rattle.waitq_alone.specs.Commands.{Request, Replay, Drill, Copy, Merge, may_end_with, verdict_at, without_files}
use Rattle.waitq_alone.specs.Outcome.{Verdict, TooLong, BadLine, Text, Answers}
use Rattle.waitq_alone.specs.declared.fault.Fault.TheVariants as fault
use Rattle.edge_io.proofs.Prefix.{nothing}

-- Words are refused for want of memory, or because they are no command.
abbrev pub IsRefusal : Option Request → Fault → Type 0
IsRefusal o f = (f ≡ fault.Memory) ⊎ ((f ≡ fault.Usage) × (o ≡ None))

by_memory : (o : Option Request) → may_end_with o 7 ≡ true
by_memory None = refl
by_memory (Some Replay) = refl
by_memory (Some (Drill seed count)) = refl
by_memory (Some (Copy src dst plan)) = refl
by_memory (Some (Merge a b dst)) = refl

pub refusal_fits : (o : Option Request) (f : Fault) → IsRefusal o f → may_end_with o (status_of f) ≡ true
refusal_fits o f (inl m) = subst (λ (g : Fault). may_end_with o (status_of g) ≡ true) (sym m) (by_memory o)
refusal_fits o f (inr u) =
    subst (λ (g : Fault). may_end_with o (status_of g) ≡ true) (sym u.0)
    (subst (λ (p : Option Request). may_end_with p 2 ≡ true) (sym u.1) refl)

wants : (v : Verdict) (old : Option (List ℕ)) → Answers v old old (Err fault.Memory)
wants TooLong old = refl
wants (BadLine line why) old = refl
wants (Text text) old = nothing old text

wanted : (v : Option Verdict) (old : Option (List ℕ)) → IfSome v (λ w. Answers w old old (Err fault.Memory))
wanted None old = tt
wanted (Some v) old = wants v old

pub refusal_answers : (o : Option Request) (f : Fault) (input old : Option (List ℕ)) → IsRefusal o f
    → IfSome (verdict_at o input) (λ w. Answers w old old (Err f))
refusal_answers o f input old (inl m) =
    subst (λ (g : Fault). IfSome (verdict_at o input) (λ w. Answers w old old (Err g))) (sym m)
    (wanted (verdict_at o input) old)
refusal_answers o f input old (inr u) =
    subst (λ (p : Option Request). IfSome (verdict_at p input) (λ w. Answers w old old (Err f))) (sym u.1) tt

-- who has no files refuses the same words for the same causes
pub refused_without : (o : Option Request) (f : Fault) → IsRefusal o f → IsRefusal (without_files o) f
refused_without o f (inl m) = inl m
refused_without o f (inr u) = inr (u.0, ap without_files u.1)

-- words that are no command leave what was written as it was
pub unknown_answers : (v : Option Verdict) (old : Option (List ℕ)) → IfSome v (λ w. Answers w old old (Err fault.Usage))
unknown_answers None old = tt
unknown_answers (Some v) old = refl
