-- Steps that are no sleep.
use Rattle.std.proofs.Common.{◌∙◌, ap, append_assoc, append-nil, refl, sym}
use Rattle.std.specs.Prelude.{ℕ, ◌≡◌, ◌||◌, Bool, false, Option, Some, None, List, [], ◌∷◌, ◌++◌}
use Rattle.wait_model.specs.{declared.steps.Step.Step, declared.watches.Aim.Aim, declared.watches.Entry.Entry}
use Rattle.wait_model.specs.declared.steps.Step.TheVariants as step
use Rattle.wait_rule.specs.{declared.journal.Item.Item, Items.steps_of, Known.Known, Transitions.AreLooks}
use Rattle.wait_rule.specs.Transitions.{OnlyLooks}
use Rattle.wait_rule.specs.Queues.{at_head, index, saw}
use Rattle.wait_rule.specs.Says.{added, history_of, stored_with, unlocked_with}
use Rattle.wait_rule.specs.declared.journal.Item.TheVariants as item
use Rattle.wait_rule.proofs.{KnownLaws.TaskHistories.history_after, KnownLaws.Transitions.only_looked}
use Rattle.wait_rule.proofs.TableSteps.ItemLists.{steps_append}
use Rattle.wq_head.specs.Looks.{Looks}
use Rattle.wait_class.specs.{Laws.HasJoined, Posts.HasSeenOwn}
use Rattle.wait_class.specs.Tables.{CallTable, SleepsNot, has_sleep, is_sleep}
use Rattle.wait_class.proofs.Histories.{awake_more, stored_history, unlocked_history}
use Rattle.wait_class.proofs.Turns.{looks_history}

pub awake_step : (old new : Known) (e : Step) → new ≡ added old (item.Made e) → is_sleep e ≡ false → SleepsNot old new
awake_step old new e is none = record {
  steps = e ∷ [];
  history = history_after old new e is;
  awake = ap (λ (b : Bool). b || false) none;
}

awake_items : (old new : Known) (xs : List Item) → new.view.items ≡ old.view.items ++ xs
    → has_sleep (steps_of xs) ≡ false → SleepsNot old new
awake_items old new xs grown none = record {
  steps = steps_of xs;
  history = ap steps_of grown ∙ steps_append old.view.items xs;
  awake = none;
}

-- a look at the served number, and the lock taken
pub awake_served : (old new : Known) (h w : ℕ) → new ≡ added old (item.Serving h w) → SleepsNot old new
awake_served old new h w is = awake_items old new (item.Serving h w ∷ []) (ap (λ (k : Known). k.view.items) is) refl

pub awake_locked : (old new : Known) (h : ℕ) (aim : Option Aim) (w : ℕ)
    → new ≡ at_head h (added old (item.Made (step.Lock h aim w))) → SleepsNot old new
awake_locked old new h aim w is = awake_items old new (item.Made (step.Lock h aim w) ∷ [])
    (ap (λ (k : Known). k.view.items) is) refl

pub awake_stored : (old new : Known) (e : Step) → new ≡ stored_with old e → is_sleep e ≡ false → SleepsNot old new
awake_stored old new e is none = record {
  steps = e ∷ [];
  history = stored_history old new e is;
  awake = ap (λ (b : Bool). b || false) none;
}

pub awake_still : (old new : Known) → history_of new ≡ history_of old → SleepsNot old new
awake_still old new still = record {
  steps = [];
  history = still ∙ sym (append-nil (history_of old));
  awake = refl;
}

pub sleeps_not_same : (old new : Known) → new ≡ old → SleepsNot old new
sleeps_not_same old new is = awake_still old new (ap history_of is)

pub sleeps_not_on : (old mid new : Known) → SleepsNot old mid → SleepsNot mid new → SleepsNot old new
sleeps_not_on old mid new a b = record {
  steps = a.steps ++ b.steps;
  history = b.history ∙ (ap (λ (l : List Step). l ++ b.steps) a.history
      ∙ append_assoc (history_of old) a.steps b.steps);
  awake = awake_more a.steps b.steps a.awake b.awake;
}

-- looks make no sleep
looks_awake : (xs : List Item) → AreLooks xs → has_sleep (steps_of xs) ≡ false
looks_awake [] l = refl
looks_awake (item.Made (step.Saw y w) ∷ xs) l = looks_awake xs l.1
looks_awake (item.Made e ∷ xs) l = absurd l.0
looks_awake (item.Tally i n w ∷ xs) l = absurd l.0
looks_awake (item.Piped i a w ∷ xs) l = absurd l.0
looks_awake (_ ∷ xs) l = looks_awake xs l.1

pub only_awake : (old new : Known) → OnlyLooks old new → SleepsNot old new
only_awake old new l = record {
  steps = steps_of l.items;
  history = looks_history old new l;
  awake = looks_awake l.items l.looks;
}

-- a look at the own entry
saw_awake : (h : Option ℕ) (x w : ℕ) → is_sleep (saw h x w) ≡ false
saw_awake None x w = refl
saw_awake (Some h) x w = refl

pub awake_seen : (old new : Known) (o : Option Entry) → HasSeenOwn old new o → SleepsNot old new
awake_seen old new o own = awake_step old new (saw old.book.head (index old.view.number 0) own.word) own.is
    (saw_awake old.book.head (index old.view.number 0) own.word)

pub awake_unlocked : (old new : Known) → new ≡ unlocked_with old old.at false → SleepsNot old new
awake_unlocked old new is = record {
  steps = step.Unlock old.at false ∷ [];
  history = unlocked_history old new is;
  awake = refl;
}

pub awake_back : (old mid new : Known) (o : Option Entry) → HasSeenOwn old mid o → new ≡ unlocked_with mid mid.at false
    → SleepsNot old new
awake_back old mid new o own is = sleeps_not_on old mid new (awake_seen old mid o own) (awake_unlocked mid new is)

-- an add
pub awake_looked : (old new : Known) → Looks old new → SleepsNot old new
awake_looked old new l = only_awake old new (only_looked old new l.items l.same l.looks l.is)

pub awake_joined : {C S O : Type 0} (t : CallTable C S O) (old new : Known) (r : C) (s : S)
    → HasJoined t r s old new → SleepsNot old new
awake_joined t old new r s j = sleeps_not_on old j.seen new (awake_looked old j.seen j.looks)
    (awake_stored j.seen new (step.Queue (index old.view.number 0) j.entry) j.is refl)
