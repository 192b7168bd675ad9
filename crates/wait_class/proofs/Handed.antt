-- Which lock a part of a call gave back, read off what it added.
use Rattle.std.proofs.Common.{◌∙◌, ap, append_assoc, append-nil, refl, sym}
use Rattle.std.specs.Prelude.{ℕ, ◌≡◌, Bool, false, Option, Some, None, List, [], ◌∷◌, ◌++◌}
use Rattle.wait_model.specs.{declared.layout.TheConstants.HEADS, declared.steps.Step.Step, declared.watches.Aim.Aim}
use Rattle.wait_model.specs.declared.watches.Entry.{Entry}
use Rattle.wait_model.specs.declared.steps.Step.TheVariants as step
use Rattle.wait_rule.specs.{declared.journal.Item.Item, Items.steps_of, Known.Known, Transitions.AreLooks}
use Rattle.wait_rule.specs.Transitions.{OnlyLooks}
use Rattle.wait_rule.specs.Queues.{at_head, index, saw}
use Rattle.wait_rule.specs.Says.{added, history_of, stored_with, unlocked_with}
use Rattle.wait_rule.specs.declared.journal.Item.TheVariants as item
use Rattle.wait_rule.proofs.{KnownLaws.TaskHistories.history_after, KnownLaws.Transitions.only_looked}
use Rattle.wait_rule.proofs.TableSteps.ItemLists.{steps_append}
use Rattle.wq_head.specs.Looks.{Looks}
use Rattle.wait_class.specs.{Posts.HasSeenOwn, Laws.HasJoined, Laws.Calm, Tables.CallTable}
use Rattle.wait_class.specs.Handing.{LastGiven, given_back_by, last_given_back}
use Rattle.wait_class.proofs.Turns.{looks_history}

-- steps one after another
last_on : (es fs : List Step) (h : ℕ) → last_given_back (es ++ fs) h ≡ last_given_back fs (last_given_back es h)
last_on [] fs h = refl
last_on (e ∷ es) fs h = last_on es fs (given_back_by e h)

-- looks give no lock back
looks_give : (xs : List Item) (h : ℕ) → AreLooks xs → last_given_back (steps_of xs) h ≡ h
looks_give [] h l = refl
looks_give (item.Made (step.Saw y w) ∷ xs) h l = looks_give xs h l.1
looks_give (item.Made e ∷ xs) h l = absurd l.0
looks_give (item.Tally p n w ∷ xs) h l = absurd l.0
looks_give (item.Piped k a w ∷ xs) h l = absurd l.0
looks_give (_ ∷ xs) h l = looks_give xs h l.1

module _ (old new : Known) where
  pub given_step : (e : Step) → new ≡ added old (item.Made e) → LastGiven old new (last_given_back (e ∷ []) HEADS)
  given_step e is = record { steps = e ∷ []; history = history_after old new e is; last = refl }

  pub given_items : (xs : List Item) → new.view.items ≡ old.view.items ++ xs
      → LastGiven old new (last_given_back (steps_of xs) HEADS)
  given_items xs grown = record {
    steps = steps_of xs;
    history = ap steps_of grown ∙ steps_append old.view.items xs;
    last = refl;
  }

  pub given_stored : (e : Step) → new ≡ stored_with old e → LastGiven old new (last_given_back (e ∷ []) HEADS)
  given_stored e is = given_items (item.Made e ∷ item.Member ∷ [])
      (ap (λ (k : Known). k.view.items) is ∙ append_assoc old.view.items (item.Made e ∷ []) (item.Member ∷ []))

  pub given_unlocked : (h : ℕ) (spent : Bool) → new ≡ unlocked_with old h spent → LastGiven old new h
  given_unlocked h spent is = given_items (item.Made (step.Unlock h spent) ∷ item.Served ∷ [])
      (ap (λ (k : Known). k.view.items) is
      ∙ append_assoc old.view.items (item.Made (step.Unlock h spent) ∷ []) (item.Served ∷ []))

  pub given_still : history_of new ≡ history_of old → LastGiven old new HEADS
  given_still still = record { steps = []; history = still ∙ sym (append-nil (history_of old)); last = refl }

  pub given_looks : OnlyLooks old new → LastGiven old new HEADS
  given_looks l = record {
    steps = steps_of l.items;
    history = looks_history old new l;
    last = sym (looks_give l.items HEADS l.looks);
  }

  pub given_calm : (es : List Step) → Calm es old new → LastGiven old new (last_given_back es HEADS)
  given_calm es c = record { steps = es; history = c.history; last = refl }

  -- the number that a turn tells
  pub given_as : (h n : ℕ) → n ≡ h → LastGiven old new h → LastGiven old new n
  given_as h n same g = record { steps = g.steps; history = g.history; last = same ∙ g.last }

-- a look at the own entry
saw_gives : (h : Option ℕ) (x w n : ℕ) → last_given_back (saw h x w ∷ []) n ≡ n
saw_gives None x w n = refl
saw_gives (Some h) x w n = refl

pub given_seen : (old new : Known) (o : Option Entry) → HasSeenOwn old new o → LastGiven old new HEADS
given_seen old new o own = given_as old new _ HEADS (sym (saw_gives old.book.head _ own.word HEADS))
    (given_step old new (saw old.book.head (index old.view.number 0) own.word) own.is)

-- parts one after another, the first of which gave none back
pub given_on : (old mid new : Known) (h : ℕ) → LastGiven old mid HEADS → LastGiven mid new h → LastGiven old new h
given_on old mid new h a b = record {
  steps = a.steps ++ b.steps;
  history = b.history ∙ (ap (λ (es : List Step). es ++ b.steps) a.history
      ∙ append_assoc (history_of old) a.steps b.steps);
  last = b.last ∙ (ap (last_given_back b.steps) a.last ∙ sym (last_on a.steps b.steps HEADS));
}

-- the head that is given back behind a look at the own entry
pub given_back : (old mid new : Known) (o : Option Entry) → HasSeenOwn old mid o → (h : ℕ) → h ≡ mid.at
    → new ≡ unlocked_with mid mid.at false → LastGiven old new h
given_back old mid new o own h same is = given_as old new mid.at h same (given_on old mid new mid.at
    (given_seen old mid o own) (given_unlocked mid new mid.at false is))

-- a look at the served number, and the lock taken
pub given_looked : (old new : Known) (h w : ℕ) → new ≡ added old (item.Serving h w) → LastGiven old new HEADS
given_looked old new h w is = given_items old new (item.Serving h w ∷ []) (ap (λ (k : Known). k.view.items) is)

pub given_locked : (old new : Known) (h : ℕ) (aim : Option Aim) (w : ℕ)
    → new ≡ at_head h (added old (item.Made (step.Lock h aim w))) → LastGiven old new HEADS
given_locked old new h aim w is = given_items old new (item.Made (step.Lock h aim w) ∷ [])
    (ap (λ (k : Known). k.view.items) is)

-- an add
pub given_member_looks : (old new : Known) → Looks old new → LastGiven old new HEADS
given_member_looks old new l = given_looks old new (only_looked old new l.items l.same l.looks l.is)

pub given_added : (old seen new : Known) → Looks old seen → (x : ℕ) (entry : Entry)
    → new ≡ stored_with seen (step.Queue x entry) → LastGiven old new HEADS
given_added old seen new looks x entry is = given_on old seen new HEADS (given_member_looks old seen looks)
    (given_stored seen new (step.Queue x entry) is)

pub given_joined : {C S O : Type 0} (t : CallTable C S O) (old new : Known) (r : C) (s : S)
    → HasJoined t r s old new → LastGiven old new HEADS
given_joined t old new r s j = given_added old j.seen new j.looks (index old.view.number 0) j.entry j.is
