-- A turn of a wake: one try of the lock, and what the task may do in the hold then.
use Rattle.std.proofs.Common.{◌∙◌, ap, sym, refl, subst}
use Rattle.std.specs.Prelude.{ℕ, ◌≡◌, ◌≢◌, false, Option, Some, None}
use Rattle.wait_model.specs.{declared.watches.Aim.Aim, Watches.head_of, Words.held_of, Tables.mark_of}
use Rattle.wait_model.specs.declared.steps.Step.TheVariants as step
use Rattle.wait_rule.specs.declared.journal.Item.TheVariants as item
use Rattle.wait_rule.specs.{Known.Known, Members.IsHeadWord}
use Rattle.wait_rule.specs.Says.{IsUp, IsFree, added, stored_with}
use Rattle.wait_rule.specs.Queues.{IsTurn, MayStoreMark, Resumes, at_head, marked, walk_of_hold}
use Rattle.wq_head.specs.{declared.wakes.WakeRun.WakeRun, Holds.HasWaited, Holds.HasLocked}
use Rattle.wq_head.specs.{declared.wakes.WakeTurn.WakeTurn, declared.wakes.WakeStage.WakeStage, Walking.with_left}
use Rattle.wq_head.specs.Turns.{HasTurned, WakeRests, InWalk, IsAtWake, StandsAtWake, IsServed, IsTurnStage, IsBroken}
use Rattle.wq_head.specs.Turns.{HasDrawn, first_counts}
use Rattle.wq_head.specs.declared.wakes.WakeStage.TheVariants as stage
use Rattle.wq_head.specs.declared.wakes.WakeTurn.TheVariants as turn
use Rattle.wq_head.proofs.{FirstHold.begins_walk, FirstHold.locked_full, OwnBookmark.own_clear}
use Rattle.wq_head.proofs.BrokenHold.{base_up, base_free, may_go, may_take, goes_back}
use Rattle.wq_head.proofs.DrawnTurns.{draws, drawn_outside, still_waits, turn_is, turn_up, turn_goes, turn_locked}

-- what the step that takes a lock answers
abbrev pub Locks : Known → Known → ℕ → Option Aim → Type 0
Locks now new h walk = (word : ℕ) × IsHeadWord word × (held_of word ≡ false)
    × (new ≡ at_head h (added now (item.Made (step.Lock h (walk_of_hold h walk) word))))

-- the first hold
module _ (start mid new : Known) (r : WakeRun) (h found : ℕ) (at : IsAtWake start mid r stage.FirstTurn)
    (at_h : h ≡ head_of r.aim.watch) (is : new ≡ added mid (item.Serving h found)) where
  drawn : HasWaited (added start (item.Drawn h r.ticket)) mid
  drawn = subst (λ (i : ℕ). HasWaited (added start (item.Drawn i r.ticket)) mid) (sym at_h) at.stands

  pub first_waits : found ≢ r.ticket → HasDrawn start new r
  first_waits other = subst (λ (i : ℕ). HasWaited (added start (item.Drawn i r.ticket)) new) at_h
      (still_waits start mid new h r.ticket found drawn is other)

  pub first_outside : new.book.head ≡ None
  first_outside = ap (λ (k : Known). k.book.head) is
      ∙ (drawn_outside start mid new h r.ticket found drawn is ∙ at.idle.free.head)

  module _ (same : found ≡ r.ticket) where
    pub first_turn : IsTurn new h
    first_turn = turn_is start mid new h r.ticket found drawn is same

    pub first_up : IsUp new
    first_up = turn_up start mid new h r.ticket found drawn is same at.up

    pub first_resumes : Resumes new h (Some r.aim)
    first_resumes = turn_goes start mid new h r.ticket found drawn is same (Some r.aim) (λ m own _.
        let none = own_clear start at.idle.unmarked in
        let clash : Some m ≡ None = sym own ∙ none in
        absurd (cc))

    pub first_walks : (three : Known) → Locks new three h (Some r.aim)
        → InWalk r.aim start three (first_counts r.aim)
    first_walks three l = begins_walk r.aim start three at.up at.idle at.tries
        (subst (λ (i : ℕ). HasLocked start three i (Some r.aim)) at_h (locked_full r.aim at.full start three h at_h
        (turn_locked start mid new h r.ticket found drawn is same (walk_of_hold h (Some r.aim)) three l)))

-- the next hold, after a break
module _ (start mid new : Known) (r : WakeRun) (h found : ℕ) (at : IsAtWake start mid r stage.NextTurn)
    (at_h : h ≡ head_of r.aim.watch) (is : new ≡ added mid (item.Serving h found)) where
  abbrev base : Known
  base = at.stands.0

  abbrev broken : IsBroken r.aim start base r.walk
  broken = at.stands.1

  abbrev rest : Aim
  rest = with_left r.aim r.walk.left

  drawn_next : HasWaited (added base (item.Drawn h r.ticket)) mid
  drawn_next = subst (λ (i : ℕ). HasWaited (added base (item.Drawn i r.ticket)) mid) (sym at_h) at.stands.2

  pub next_waits : found ≢ r.ticket → HasDrawn base new r
  next_waits other = subst (λ (i : ℕ). HasWaited (added base (item.Drawn i r.ticket)) new) at_h
      (still_waits base mid new h r.ticket found drawn_next is other)

  pub next_outside : new.book.head ≡ None
  next_outside = ap (λ (k : Known). k.book.head) is ∙ (drawn_outside base mid new h r.ticket found drawn_next is
      ∙ (base_free r.aim at.full start base r.walk broken).head)

  module _ (same : found ≡ r.ticket) where
    pub next_turn : IsTurn new h
    next_turn = turn_is base mid new h r.ticket found drawn_next is same

    pub next_up : IsUp new
    next_up = turn_up base mid new h r.ticket found drawn_next is same (base_up r.aim at.full start base r.walk broken)

    pub next_resumes : Resumes new h (Some rest)
    next_resumes = turn_goes base mid new h r.ticket found drawn_next is same (Some rest)
        (subst (λ (i : ℕ). Resumes base i (Some rest)) (sym at_h) (may_go r.aim at.full start base r.walk broken))

    module _ (three : Known) (l : Locks new three h (Some rest)) where
      locked : HasLocked base three (head_of r.aim.watch) (Some rest)
      locked = subst (λ (i : ℕ). HasLocked base three i (Some rest)) at_h (locked_full rest at.full base three h at_h
          (turn_locked base mid new h r.ticket found drawn_next is same (walk_of_hold h (Some rest)) three l))

      pub next_takes : MayStoreMark three 0
      next_takes = may_take r.aim at.full start base r.walk broken three locked

      pub next_walks : (four : Known) → four ≡ stored_with three (marked (mark_of 0)) → InWalk r.aim start four r.walk
      next_walks four made = goes_back r.aim at.full start base r.walk broken three locked four made

-- it stands there at another stage, with its aim
stands_there : (start mid now : Known) (r : WakeRun) (n m : ℕ) (s t : WakeStage) → IsAtWake start mid r s
    → StandsAtWake start now (record r { ticket = n; served = m }) t
    → IsAtWake start now (record r { ticket = n; served = m }) t
stands_there start mid now r n m s t at stands = record {
  up = at.up;
  idle = at.idle;
  full = at.full;
  tries = at.tries;
  small = at.small;
  stands = stands;
}

-- the draw of a ticket, by the stage before it
module _ (start now : Known) (r : WakeRun) where
  pub free_first : IsAtWake start now r stage.First → IsFree now
  free_first at = subst IsFree (sym at.stands) at.idle.free

  pub free_next : IsAtWake start now r stage.Next → IsFree now
  free_next at = base_free r.aim at.full start now r.walk at.stands

  pub up_first : IsAtWake start now r stage.First → IsUp now
  up_first at = subst IsUp (sym at.stands) at.up

  pub up_next : IsAtWake start now r stage.Next → IsUp now
  up_next at = base_up r.aim at.full start now r.walk at.stands

  -- between two looks at the ticket
  pub up_drawn : (s : WakeStage) → IsTurnStage s → IsAtWake start now r s → IsUp now
  up_drawn stage.FirstTurn turn at = ap (λ (k : Known). k.book.awake) at.stands.is ∙ at.up
  up_drawn stage.NextTurn turn at = ap (λ (k : Known). k.book.awake) at.stands.2.is
      ∙ base_up r.aim at.full start at.stands.0 r.walk at.stands.1
  up_drawn stage.First turn at = absurd turn
  up_drawn stage.Next turn at = absurd turn

  module _ (new : Known) (h n : ℕ) (at_h : h ≡ head_of r.aim.watch) (is : new ≡ added now (item.Drawn h n)) where
    pub draws_first : IsAtWake start now r stage.First → IsAtWake start new (record r { ticket = n }) stage.FirstTurn
    draws_first at = stands_there start now new r n r.served stage.First stage.FirstTurn at
        (draws start new (head_of r.aim.watch) n (is ∙ (λ i. added (at.stands i) (item.Drawn (at_h i) n))))

    pub draws_next : IsAtWake start now r stage.Next → IsAtWake start new (record r { ticket = n }) stage.NextTurn
    draws_next at = stands_there start now new r n r.served stage.Next stage.NextTurn at (
      now,
      at.stands,
      draws now new (head_of r.aim.watch) n (is ∙ (λ i. added now (item.Drawn (at_h i) n))),
    )

-- one look at the number that is served, by the stage at which the ticket is drawn
module _ (start mid new : Known) (r : WakeRun) (h found : ℕ) (at_h : h ≡ head_of r.aim.watch)
    (is : new ≡ added mid (item.Serving h found)) where
  pub waits_on : (s : WakeStage) → IsTurnStage s → IsAtWake start mid r s → found ≢ r.ticket
      → IsAtWake start new (record r { served = found }) s
  waits_on stage.FirstTurn turn at other = stands_there start mid new r r.ticket found stage.FirstTurn stage.FirstTurn
      at (first_waits start mid new r h found at at_h is other)
  waits_on stage.NextTurn turn at other = stands_there start mid new r r.ticket found stage.NextTurn stage.NextTurn at
      (at.stands.0, at.stands.1, next_waits start mid new r h found at at_h is other)
  waits_on stage.First turn at other = absurd turn
  waits_on stage.Next turn at other = absurd turn

  pub outside_on : (s : WakeStage) → IsTurnStage s → IsAtWake start mid r s → new.book.head ≡ None
  outside_on stage.FirstTurn turn at = first_outside start mid new r h found at at_h is
  outside_on stage.NextTurn turn at = next_outside start mid new r h found at at_h is
  outside_on stage.First turn at = absurd turn
  outside_on stage.Next turn at = absurd turn

  looked_at : (s : WakeStage) → IsTurnStage s → IsAtWake start mid r s → IsAtWake start mid (record r { served = found }) s
  looked_at stage.FirstTurn turn at =
      stands_there start mid mid r r.ticket found stage.FirstTurn stage.FirstTurn at at.stands
  looked_at stage.NextTurn turn at =
      stands_there start mid mid r r.ticket found stage.NextTurn stage.NextTurn at at.stands
  looked_at stage.First turn at = absurd turn
  looked_at stage.Next turn at = absurd turn

  pub served_on : (s : WakeStage) → IsTurnStage s → IsAtWake start mid r s → found ≡ r.ticket
      → IsServed start new (record r { served = found }) s
  served_on s turn at same = record {
    turn = turn;
    last = mid;
    at = looked_at s turn at;
    is = is ∙ (λ i. added mid (item.Serving (at_h i) (same i)));
  }

-- whose ticket is served takes the lock
pub not_next : (s : WakeStage) → IsTurnStage s → (s ≡ stage.NextTurn → ⊥) → s ≡ stage.FirstTurn
not_next stage.FirstTurn turn other = refl
not_next stage.NextTurn turn other = absurd (other refl)
not_next stage.First turn other = absurd turn
not_next stage.Next turn other = absurd turn

module _ (start now : Known) (r : WakeRun) (s : WakeStage) (v : IsServed start now r s) (h : ℕ)
    (at_h : h ≡ head_of r.aim.watch) where
  served : now ≡ added v.last (item.Serving h r.ticket)
  served = v.is ∙ sym (ap (λ (i : ℕ). added v.last (item.Serving i r.ticket)) at_h)

  module _ (first : s ≡ stage.FirstTurn) where
    at_first : IsAtWake start v.last r stage.FirstTurn
    at_first = subst (IsAtWake start v.last r) first v.at

    pub begins_turn : IsTurn now h
    begins_turn = first_turn start v.last now r h r.ticket at_first at_h served refl

    pub begins_up : IsUp now
    begins_up = first_up start v.last now r h r.ticket at_first at_h served refl

    pub begins_resumes : Resumes now h (Some r.aim)
    begins_resumes = first_resumes start v.last now r h r.ticket at_first at_h served refl

    pub begins_walks : (three : Known) → Locks now three h (Some r.aim) → InWalk r.aim start three (first_counts r.aim)
    begins_walks = first_walks start v.last now r h r.ticket at_first at_h served refl

  module _ (next : s ≡ stage.NextTurn) where
    at_next : IsAtWake start v.last r stage.NextTurn
    at_next = subst (IsAtWake start v.last r) next v.at

    pub goes_turn : IsTurn now h
    goes_turn = next_turn start v.last now r h r.ticket at_next at_h served refl

    pub goes_up : IsUp now
    goes_up = next_up start v.last now r h r.ticket at_next at_h served refl

    pub goes_resumes : Resumes now h (Some (with_left r.aim r.walk.left))
    goes_resumes = next_resumes start v.last now r h r.ticket at_next at_h served refl

    module _ (three : Known) (l : Locks now three h (Some (with_left r.aim r.walk.left))) where
      pub goes_takes : MayStoreMark three 0
      goes_takes = next_takes start v.last now r h r.ticket at_next at_h served refl three l

      pub goes_walks : (four : Known) → four ≡ stored_with three (marked (mark_of 0)) → InWalk r.aim start four r.walk
      goes_walks = next_walks start v.last now r h r.ticket at_next at_h served refl three l

-- where a turn left the wake
pub rests_of : (start new : Known) (r s : WakeRun) (t : WakeTurn) → HasTurned start new r s t → WakeRests new s t
rests_of start new r s (turn.Locked after_it) h = (start, h.turns)
rests_of start new r s turn.Broken h = (start, h.turns)
rests_of start new r s (turn.Done result) h = (h.turns.up, h.turns.idle)
rests_of start new r s (turn.Starved failed) h = h.turns
