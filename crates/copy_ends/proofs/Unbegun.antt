-- A task that joined four others that have made no step.
use Rattle.std.proofs.Common.{refl, sym, ap, ◌∙◌, subst}
use Rattle.std.specs.Prelude.{ℕ, ◌≡◌, ◌-◌, List, [], ◌∷◌}
use Rattle.atomic_table.specs.Seated.{TableId}
use Rattle.wait_model.specs.declared.layout.TheConstants.{TASKS}
use Rattle.wait_rule.specs.{declared.journal.Item.Item, Journals.fresh, Journals.has_of, Known.Known}
use Rattle.wait_rule.specs.Says.{IsClean, newcomer, seen_with}
use Rattle.copy_ends.specs.Copied.{HasNoSteps, joined_four}
use Rattle.copy_ends.proofs.{Idlers.joined_clean, Crews.of_each, Crews.parts_from, JoinedFour.four}

none_of : (number : ℕ) → has_of number (four [] [] [] []) ≡ []
none_of number = of_each (λ (xs : List Item). xs ≡ []) ([] ∷ [] ∷ [] ∷ [] ∷ []) refl (refl, (refl, (refl, (refl, tt)))) number

module _ (domain : TableId) (old one two three fourth new : Known) (rest : old ≡ newcomer domain 0 5 (TASKS - 5))
    (e1 : one ≡ newcomer domain 1 2 0) (e2 : two ≡ newcomer domain 2 3 0) (e3 : three ≡ newcomer domain 3 4 0)
    (e4 : fourth ≡ newcomer domain 4 5 0)
    (joined : new ≡ seen_with old (joined_four old.view one.view two.view three.view fourth.view)) where
  whole : new ≡ seen_with (newcomer domain 0 5 (TASKS - 5)) (four [] [] [] [])
  whole = joined
      ∙ (ap (λ (k : Known). seen_with k (joined_four k.view one.view two.view three.view fourth.view)) rest
      ∙ (ap (λ (k : Known). seen_with (newcomer domain 0 5 (TASKS - 5)) (joined_four (fresh 0 5 (TASKS - 5)) k.view
      two.view three.view fourth.view)) e1
      ∙ (ap (λ (k : Known). seen_with (newcomer domain 0 5 (TASKS - 5)) (joined_four (fresh 0 5 (TASKS - 5))
      (fresh 1 2 0) k.view three.view fourth.view)) e2
      ∙ (ap (λ (k : Known). seen_with (newcomer domain 0 5 (TASKS - 5)) (joined_four (fresh 0 5 (TASKS - 5))
      (fresh 1 2 0) (fresh 2 3 0) k.view fourth.view)) e3
      ∙ ap (λ (k : Known). seen_with (newcomer domain 0 5 (TASKS - 5)) (joined_four (fresh 0 5 (TASKS - 5))
      (fresh 1 2 0) (fresh 2 3 0) (fresh 3 4 0) k.view)) e4))))

  pub no_steps : HasNoSteps domain new
  no_steps = record {
    domain = ap (λ (k : Known). k.domain) whole;
    lists = λ number. subst (λ (k : Known). has_of number k.view ≡ []) (sym whole) (none_of number);
  }

  pub still_clean : IsClean new
  still_clean = subst IsClean (sym whole)
      (joined_clean domain 5 (TASKS - 5) (parts_from 1 ([] ∷ [] ∷ [] ∷ [] ∷ [])))
