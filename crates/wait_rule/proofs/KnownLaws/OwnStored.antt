-- A task's history stores own entries alone.
use Rattle.std.proofs.Common.{◌∙◌, ap, refl, sym, subst}
use Rattle.std.specs.Prelude.{ℕ, ◌≡◌, ◌≢◌, Bool, true, false, if◌then◌else◌, Option, Some, None, List, [], ◌∷◌}
use Rattle.wait_model.specs.{declared.watches.Entry.Entry, declared.steps.Step.Step, Functions.put, Watches.owner}
use Rattle.wait_model.specs.{Words.entry_of, Views.View as Told, Views.Bits, Tables.Table, Rows.Allowed}
use Rattle.wait_model.specs.Reached.{OwnStored}
use Rattle.wait_model.specs.Fold.{after, forgotten, is_off}
use Rattle.wait_model.specs.declared.steps.Step.TheVariants as step
use Rattle.wait_model.proofs.{Functions.put_at, StepLaws.UnlockSteps.unlock_bits}
use Rattle.wait_rule.specs.Interleavings.{TaskStep, table_of, AreAllowed, IsInterleaved}

forgets : (a : ℕ) (v : Told) (x : ℕ) (f : Option Entry) → OwnStored a v → (y : ℕ) → owner y ≢ a
    → forgotten v x f y ≡ None
forgets a v x f was y other = by (is_off f)
  where
    by : (b : Bool) → (if b then put v.bits.stored x None else v.bits.stored) y ≡ None
    by true = put_at (λ (o : Option Entry). o ≡ None) v.bits.stored x None y (λ _. refl) (λ _. was y other)
    by false = was y other

owned_after : (s : Table) (a : ℕ) (e : Step) → Allowed s a e → OwnStored a (s.view a)
    → OwnStored a (after e (s.view a))
owned_after s a (step.Unlock h sp) may was = λ y other. ap (λ (b : Bits). b.stored y)
    (unlock_bits (s.view a) (s.view a).walk sp) ∙ was y other
owned_after s a (step.Saw x w) may was = forgets a (s.view a) x (entry_of w) was
owned_after s a (step.Peek x w) may was = forgets a (s.view a) x (entry_of w) was
owned_after s a (step.Queue x e) may was = λ y other. put_at (λ (o : Option Entry). o ≡ None) (s.view a).bits.stored x
    (Some e) y (λ same. absurd (other (ap owner same ∙ may.0))) (λ _. was y other)
owned_after s a (step.Unqueue x) may was = λ y other. put_at (λ (o : Option Entry). o ≡ None) (s.view a).bits.stored x
    None y (λ _. refl) (λ _. was y other)
owned_after s a e may was = was

owned_of : (xs : List TaskStep) → AreAllowed xs → (a : ℕ) → OwnStored a ((table_of xs).view a)
owned_of [] may a = λ y other. refl
owned_of (x ∷ xs) may a = put_at (OwnStored a) (table_of xs).view x.task (after x.made ((table_of xs).view x.task)) a
    (λ q. subst (λ (t : ℕ). OwnStored t (after x.made ((table_of xs).view x.task))) (sym q)
    (owned_after (table_of xs) x.task x.made may.1 (owned_of xs may.2 x.task))) (λ ne. owned_of xs may.2 a)

pub owned : (s : Table) → IsInterleaved s → (a : ℕ) → OwnStored a (s.view a)
owned s k a = subst (λ (t : Table). OwnStored a (t.view a)) (sym k.leads) (owned_of k.steps k.allowed a)
