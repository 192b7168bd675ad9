-- What words leave that are refused before a command is known.
use Rattle.std.proofs.Common.{◌≡◌, ℕ, List, Option, Some, None, Err, refl, ap, ◌∙◌, inl, inr, arith}
use Rattle.atomic_table.specs.Seated.{TableId}
use Rattle.wait_rule.specs.Known.{Known}
use Rattle.func_head.specs.Walks.{EntryState}
use Rattle.copy_plan.specs.declared.plan.Planned.{Planned}
use Rattle.waitq_alone.specs.{Fault.status_of, declared.fault.Fault.Fault}
use Rattle.waitq_alone.specs.Commands.{Request, Replay, Drill, Copy, Merge}
use Rattle.waitq_copy.specs.{Copying.CopyLeft, Copying.Outside, Run.IfCopy}
use Rattle.waitq_alone.proofs.Refusals.{IsRefusal}
use Rattle.waitq_alone.specs.declared.fault.Fault.TheVariants as fault

-- where they ask for a copy, they were refused for want of memory alone
pub of_copies : (o : Option Request) (f : Fault) (p : List ℕ → List ℕ → List Planned → Type 0) → IsRefusal o f
    → (f ≡ fault.Memory → (src dst : List ℕ) (plan : List Planned) → p src dst plan) → IfCopy o p
of_copies None f p r h = tt
of_copies (Some Replay) f p r h = tt
of_copies (Some (Drill seed count)) f p r h = tt
of_copies (Some (Merge a b dst)) f p r h = tt
of_copies (Some (Copy src dst plan)) f p (inl m) h = h m src dst plan
of_copies (Some (Copy src dst plan)) f p (inr u) h = absurd (cc u.1)

pub left_by_want : (domain : TableId) (task : Known) (o : Outside) (src dst : List ℕ) (plan : List Planned)
    (watchers : List EntryState) (f : Fault) → f ≡ fault.Memory
    → CopyLeft domain task task o o src dst plan watchers (Err f)
left_by_want domain task o src dst plan watchers f m = inl (record {
  why = fault.Memory;
  answered = ap Err m;
  task = λ number. refl;
  files = refl;
  held = refl;
  faults = refl;
  cause = record { cause = inl tt };
})

pub not_killed : (f : Fault) (n : ℕ) → f ≡ fault.Memory → n ≡ status_of f → n ≡ 6 → ⊥
not_killed f n m e six =
    let seven : n ≡ 7 = e ∙ ap status_of m in omega (arith, seven, six)
