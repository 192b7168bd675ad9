-- To be believed.
-- What a wait makes that is left: first events that begin the sentence of its call, and behind them phrases of its own.
use Rattle.std.specs.Prelude.{ℕ, ◌≡◌, ◌⊎◌, Bool, true, false, List, [], ◌∷◌, ◌++◌}
use Rattle.wait_model.specs.{declared.calls.Answer.Answer, declared.calls.Call.Call, declared.calls.Event.Event}
use Rattle.wait_model.specs.{Phrases.Phrase, Phrases.ends, Sentences.Begins, Sentences.Follows}
use Rattle.wait_model.specs.declared.calls.Event.TheVariants as event
use Rattle.wait_rule.specs.Heeding.{trail_of}

-- the events follow the phrase as far as they go: with some more events they come to its end
abbrev pub Opens : Phrase Answer → List Event → Type 0
Opens m made = (w : List Event) × (a : Answer) × m ends (made ++ w) a

-- The ways out of a wait. Of each: what is made from there on, as a phrase; and where a wait is asked that goes out so,
-- by its events up to there, the latest first (`trail_of`).
pub record WaysOut (X : Type 0) : Type 1 where
  pub phrase : X → Phrase Answer
  pub From : X → List Event → Type 0

-- From a way out a wait makes its phrase, to the end; or it makes a part of that, is asked again, and goes out there.
pub data MakesFrom {X : Type 0} (o : WaysOut X) : X → List Event → Answer → Type 0 where
  to_the_end : (x : X) (w : List Event) (a : Answer) → o.phrase x ends w a → MakesFrom o x w a
  asked_again : (x y : X) (v w : List Event) (a : Answer) → Opens (o.phrase x) v → o.From y (trail_of [] v)
      → MakesFrom o y w a → MakesFrom o x (v ++ w) a

-- A word of a wait that went out: its first part begins the sentence of the call, and ends where it was asked; what is
-- behind was made from there, to this answer.
pub record IsLeftWord {X : Type 0} (me : ℕ) (call : Call) (o : WaysOut X) (w : List Event) (a : Answer) : Type 0 where
  pub first : List Event
  pub begins : Begins me call first
  pub way : X
  pub from : o.From way (trail_of [] first)
  pub behind : List Event
  pub makes : MakesFrom o way behind a
  pub is : w ≡ first ++ behind

-- a word of one that may have gone out, or went straight to the end of its sentence
abbrev pub IsWordTo : {X : Type 0} → ℕ → Call → WaysOut X → List Event → Answer → Type 0
IsWordTo me call o w a = Follows me call w a ⊎ IsLeftWord me call o w a

-- whether a lock is held behind these events, the latest first
abbrev pub holds_lock : List Event → Bool
holds_lock [] = false
holds_lock (event.Lock h ∷ trail) = true
holds_lock (event.Unlock h spent ∷ trail) = false
holds_lock (e ∷ trail) = holds_lock trail
