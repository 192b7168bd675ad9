-- What a history ends with, and the places that it noted, over more steps.
use Rattle.std.proofs.Common.{◌∙◌, ap, sym, subst, append-nil, append_assoc, refl}
use Rattle.std.specs.Prelude.{ℕ, ◌≡◌, ◌||◌, ◌&&◌, Bool, true, false, List, [], ◌∷◌, ◌++◌}
use Rattle.wait_model.specs.declared.steps.Step.{Step}
use Rattle.wait_rule.specs.{declared.journal.Item.Item, Items.steps_of, Ends.WasWorn, Known.Known}
use Rattle.wait_rule.specs.Says.{added, history_of, stored_with, unlocked_with}
use Rattle.wait_model.specs.declared.steps.Step.TheVariants as step
use Rattle.wait_rule.specs.declared.journal.Item.TheVariants as item
use Rattle.wait_rule.proofs.{KnownLaws.TaskHistories.history_after, TableSteps.ItemLists.steps_append}
use Rattle.wait_rule.proofs.WornHeads.WornNotes.{notes_stay}
use Rattle.wait_class.specs.{Posts.EndsWith, Posts.FoundWorn, Tables.has_sleep, Tables.is_sleep}
use Rattle.wait_class.specs.Laws.{Calm, Unmoved, moves_entries, moves_entry, state_behind}

pub ends_more : (old new : Known) (es more : List Step) → EndsWith old es → history_of new ≡ history_of old ++ more
    → EndsWith new (es ++ more)
ends_more old new es more e is = (e.0, is ∙ (ap (λ (l : List Step). l ++ more) e.1 ∙ append_assoc e.0 es more))

-- items that are no steps add nothing
silent : (k : Known) (x : Item) → steps_of (x ∷ []) ≡ [] → history_of (added k x) ≡ history_of k
silent k x none = steps_append k.view.items (x ∷ [])
    ∙ (ap (λ (l : List Step). steps_of k.view.items ++ l) none ∙ append-nil (steps_of k.view.items))

pub unlocked_history : (old new : Known) → new ≡ unlocked_with old old.at false
    → history_of new ≡ history_of old ++ step.Unlock old.at false ∷ []
unlocked_history old new is = ap history_of is
    ∙ (silent (added old (item.Made (step.Unlock old.at false))) item.Served refl
    ∙ history_after old (added old (item.Made (step.Unlock old.at false))) (step.Unlock old.at false) refl)

pub stored_history : (old new : Known) (e : Step) → new ≡ stored_with old e → history_of new ≡ history_of old ++ e ∷ []
stored_history old new e is = ap history_of is
    ∙ (silent (added old (item.Made e)) item.Member refl ∙ history_after old (added old (item.Made e)) e refl)

-- two more
pub two_more : (old mid new : Known) (e d : Step) → history_of mid ≡ history_of old ++ e ∷ []
    → history_of new ≡ history_of mid ++ d ∷ [] → history_of new ≡ history_of old ++ e ∷ d ∷ []
two_more old mid new e d one two = two ∙ (ap (λ (l : List Step). l ++ d ∷ []) one
    ∙ append_assoc (history_of old) (e ∷ []) (d ∷ []))

pub ends_calm : (old new : Known) (es fs : List Step) → Calm fs old new → EndsWith old es → EndsWith new (es ++ fs)
ends_calm old new es fs calm e = ends_more old new es fs e calm.history

pub ends_still : (old new : Known) (es : List Step) → Unmoved old new → EndsWith old es → EndsWith new es
ends_still old new es still e = (e.0, still.history ∙ e.1)

-- no step more
pub unmoved_by : (old new : Known) → Calm [] old new → Unmoved old new
unmoved_by old new calm = record {
  number = calm.number;
  items = calm.items;
  grown = calm.grown;
  history = calm.history ∙ append-nil (history_of old);
}

pub worn_still : (old new : Known) (h p : ℕ) → Unmoved old new → WasWorn old.view.number old.view.items h p
    → WasWorn new.view.number new.view.items h p
worn_still old new h p still noted = subst (λ (l : List Item). WasWorn new.view.number l h p) (sym still.grown)
    (subst (λ (n : ℕ). WasWorn n (old.view.items ++ still.items) h p) (sym still.number)
    (notes_stay old.view.number old.view.items still.items h p noted))

pub worn_calm : (old new : Known) (es : List Step) (h p : ℕ) → Calm es old new
    → WasWorn old.view.number old.view.items h p → WasWorn new.view.number new.view.items h p
worn_calm old new es h p calm noted = subst (λ (l : List Item). WasWorn new.view.number l h p) (sym calm.grown)
    (subst (λ (n : ℕ). WasWorn n (old.view.items ++ calm.items) h p) (sym calm.number)
    (notes_stay old.view.number old.view.items calm.items h p noted))

-- the place that was noted stays so
pub found_still : (old new : Known) (h p : ℕ) → Unmoved old new → FoundWorn old h p [] → FoundWorn new h p []
found_still old new h p still f = record {
  noted = worn_still old new h p still f.noted;
  ends = ends_still old new (step.Unlock h false ∷ []) still f.ends;
}

pub found_calm : (old new : Known) (es : List Step) (h p : ℕ) → Calm es old new → FoundWorn old h p []
    → FoundWorn new h p es
found_calm old new es h p calm f = record {
  noted = worn_calm old new es h p calm f.noted;
  ends = ends_calm old new (step.Unlock h false ∷ []) es calm f.ends;
}

or_assoc : (a b c : Bool) → ((a || b) || c) ≡ (a || (b || c))
or_assoc true b c = refl
or_assoc false b c = refl

pub and_left : (a b : Bool) → (a && b) ≡ true → a ≡ true
and_left true b is = refl
and_left false b is = absurd (cc)

pub or_left : (a b : Bool) → (a || b) ≡ false → a ≡ false
or_left true b is = is
or_left false b is = refl

pub or_right : (a b : Bool) → (a || b) ≡ false → b ≡ false
or_right true b is = absurd (cc)
or_right false b is = is

or_none : (a b : Bool) → a ≡ false → b ≡ false → (a || b) ≡ false
or_none true b one two = one
or_none false b one two = two

pub sleeps_more : (es fs : List Step) → has_sleep (es ++ fs) ≡ (has_sleep es || has_sleep fs)
sleeps_more [] fs = refl
sleeps_more (e ∷ es) fs = ap (λ (b : Bool). is_sleep e || b) (sleeps_more es fs)
    ∙ sym (or_assoc (is_sleep e) (has_sleep es) (has_sleep fs))

pub awake_more : (es fs : List Step) → has_sleep es ≡ false → has_sleep fs ≡ false → has_sleep (es ++ fs) ≡ false
awake_more es fs one two = sleeps_more es fs ∙ or_none (has_sleep es) (has_sleep fs) one two

pub moves_more : (es fs : List Step) → moves_entries (es ++ fs) ≡ (moves_entries es || moves_entries fs)
moves_more [] fs = refl
moves_more (e ∷ es) fs = ap (λ (b : Bool). moves_entry e || b) (moves_more es fs)
    ∙ sym (or_assoc (moves_entry e) (moves_entries es) (moves_entries fs))

pub behind_more : (es fs : List Step) (σ : ℕ) → state_behind fs (state_behind es σ) ≡ state_behind (es ++ fs) σ
behind_more [] fs σ = refl
behind_more (step.State τ ∷ es) fs σ = behind_more es fs τ
behind_more (e ∷ es) fs σ = behind_more es fs σ
