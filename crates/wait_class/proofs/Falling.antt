-- A stretch comes to a place at which no head is held.
use Rattle.std.proofs.Common.{◌∙◌, ap, append_assoc, append-nil, arith, inl, inr, refl, subst, sym}
use Rattle.std.proofs.lemmas.Bool.Decides.{nat_tests}
use Rattle.std.specs.Prelude.{ℕ, ◌≡◌, ◌<◌, ◌≤◌, ◌+◌, ◌⊎◌, ◌||◌, not, nat_lt, Bool, true, false, List, [], ◌∷◌, ◌++◌}
use Rattle.wait_model.specs.{declared.layout.TheConstants.HEADS, declared.steps.Step.Step, PointFacts.holds}
use Rattle.wait_model.specs.declared.steps.Step.TheVariants as step
use Rattle.wait_rule.specs.{Known.Known, Says.history_of, declared.tries.FailedTries.FailedTries, Tried.IsOneMore}
use Rattle.wait_class.specs.{declared.stages.Run.Run, declared.stages.Turn.Turn, Handing.LastGiven}
use Rattle.wait_class.specs.Tables.{Advances, IsStop, MadeEvent, ShowsTurn, SleptLast, CallTable, falls}
use Rattle.wait_class.specs.declared.stages.Turn.TheVariants as turn

-- it has made nothing yet, or an event
abbrev pub IsBegun : {C : Type 0} → Known → Known → Run C → Run C → Type 0
IsBegun old new r q = ((new ≡ old) × (q ≡ r)) ⊎ MadeEvent old new

pub made_on : (old mid new : Known) → MadeEvent old mid → (es : List Step) → history_of new ≡ history_of mid ++ es
    → MadeEvent old new
made_on old mid new m es more = record {
  before = m.before;
  event = m.event;
  behind = m.behind ++ es;
  is = more ∙ (ap (λ (l : List Step). l ++ es) m.is
      ∙ (append_assoc (history_of old) (m.before ++ m.event ∷ m.behind) es
      ∙ ap (λ (l : List Step). history_of old ++ l) (append_assoc m.before (m.event ∷ m.behind) es)));
}

pub begun_on : {C : Type 0} (old mid new : Known) (r q : Run C) → IsBegun old mid r q → MadeEvent mid new
    → MadeEvent old new
begun_on old mid new r q (inl same) made = subst (λ (k : Known). MadeEvent k new) same.0 made
begun_on old mid new r q (inr before) made = made_on old mid new before (made.before ++ made.event ∷ made.behind) made.is

pub slept_on : (old mid new : Known) → MadeEvent old mid → SleptLast mid new → SleptLast old new
slept_on old mid new m x = record {
  before = (m.before ++ m.event ∷ m.behind) ++ x.before;
  found = x.found;
  is = x.is ∙ ap (λ (l : List Step). l ++ step.Sleep x.found ∷ []) (ap (λ (l : List Step). l ++ x.before) m.is
      ∙ append_assoc (history_of old) (m.before ++ m.event ∷ m.behind) x.before);
}

pub goes_slept : {C : Type 0} (old mid new : Known) (r q : Run C) → IsBegun old mid r q → SleptLast mid new
    → SleptLast old new
goes_slept old mid new r q (inl same) x = subst (λ (k : Known). SleptLast k new) same.0 x
goes_slept old mid new r q (inr made) x = slept_on old mid new made x

module _ {C S O : Type 0} (t : CallTable C S O) (old mid new : Known) (r q w : Run C) (n : S)
    (begun : IsBegun old mid r q) where
  -- where the head is held a turn has made an event
  pub goes_made : ShowsTurn t mid new q w (turn.Again n) → holds (t.point_of n) ≡ true → MadeEvent old new
  goes_made (inl made) held = begun_on old mid new r q begun made
  goes_made (inr failed) held = absurd (let no : true ≡ false = sym held ∙ failed.free in cc)

  pub goes_shown : ShowsTurn t mid new q w (turn.Again n) → ShowsTurn t old new r w (turn.Again n)
  goes_shown (inl made) = inl (begun_on old mid new r q begun made)
  goes_shown (inr failed) = by begun
    where
      by : IsBegun old mid r q → ShowsTurn t old new r w (turn.Again n)
      by (inl same) = subst (λ (k : Known). ShowsTurn t k new r w (turn.Again n)) same.0
          (subst (λ (p : Run C). ShowsTurn t mid new p w (turn.Again n)) same.1 (inr failed))
      by (inr made) = inl (made_on old mid new made [] (failed.still ∙ sym (append-nil (history_of mid))))

-- a place at which no head is held
pub falls_still : (h : Bool) → not h ≡ true → h ≡ false
falls_still true is = absurd (cc)
falls_still false is = refl

-- a turn that is not to go on at once
module _ {C S O : Type 0} (t : CallTable C S O) where
  pub other_shown : (old mid new : Known) (r q w : Run C) → IsBegun old mid r q → (u : Turn S O)
      → ((n : S) → u ≡ turn.Again n → ⊥) → ShowsTurn t mid new q w u → ShowsTurn t old new r w u
  other_shown old mid new r q w begun (turn.Again n) other x = absurd (other n refl)
  other_shown old mid new r q w begun (turn.Asleep n) other x = goes_slept old mid new r q begun x
  other_shown old mid new r q w begun (turn.Locked n) other x = x
  other_shown old mid new r q w begun (turn.Done o) other x = tt

  pub other_stops : (s : S) (u : Turn S O) → ((n : S) → u ≡ turn.Again n → ⊥) → falls t s u ≡ true → IsStop t u
  other_stops s (turn.Again n) other f = absurd (other n refl)
  other_stops s (turn.Asleep n) other f = falls_still (holds (t.point_of n)) f
  other_stops s (turn.Locked n) other f = falls_still (holds (t.point_of n)) f
  other_stops s (turn.Done o) other f = tt

-- behind what is no event
pub shown_behind : {C S O : Type 0} (t : CallTable C S O) (old mid new : Known) (r q w : Run C)
    → history_of mid ≡ history_of old → q.failed ≡ r.failed → (u : Turn S O) → ShowsTurn t mid new q w u
    → ShowsTurn t old new r w u
shown_behind t old mid new r q w still kept (turn.Again n) (inl made) = inl (record {
  before = made.before;
  event = made.event;
  behind = made.behind;
  is = made.is ∙ ap (λ (l : List Step). l ++ (made.before ++ made.event ∷ made.behind)) still;
})
shown_behind t old mid new r q w still kept (turn.Again n) (inr failed) = inr (record {
  count = subst (λ (f : FailedTries). IsOneMore f w.failed) kept failed.count;
  still = failed.still ∙ still;
  free = failed.free;
})
shown_behind t old mid new r q w still kept (turn.Locked n) found = found
shown_behind t old mid new r q w still kept (turn.Asleep n) x = record {
  before = x.before;
  found = x.found;
  is = x.is ∙ ap (λ (l : List Step). (l ++ x.before) ++ step.Sleep x.found ∷ []) still;
}
shown_behind t old mid new r q w still kept (turn.Done o) x = tt

-- a stretch under way
pub record IsInStretch {C S O : Type 0} (t : CallTable C S O) (old new : Known) (r q : Run C) (s n : S) (turns : ℕ) :
    Type 0 where
  pub way : Advances t old new r q s (turn.Again n)
  pub begun : IsBegun old new r q
  pub given : LastGiven old new HEADS
  pub low : t.depth n + turns ≤ 6

pub held_yes : (h r : Bool) → r ≡ not h → r ≡ false → h ≡ true
held_yes true r is down = refl
held_yes false r is down = absurd (cc)

pub falls_by : (h : Bool) (a b : ℕ) → (not h || nat_lt a b) ≡ true → h ≡ true → a < b
falls_by true a b is held = grind (arith, nat_tests)
falls_by false a b is held = absurd (cc)
