-- What calls on mutexes leave of a task, and which mutexes it holds then.
use Rattle.std.proofs.Common.{◌∙◌, ap, refl, sym, subst, arith, inl, inr}
use Rattle.std.proofs.lemmas.Bool.Decides.{eqb_tells, nat_tests}
use Rattle.std.specs.Prelude.{ℕ, suc, ◌≡◌, ◌≢◌, ◌==◌, ◌||◌, not, Bool, true, false, if◌then◌else◌, Some, None, Result, Err, [], ◌∷◌}
use Rattle.wait_model.specs.declared.points.Next.TheVariants as next
use Rattle.wait_model.specs.declared.points.Point.TheVariants as at
use Rattle.wait_model.specs.declared.points.WalkPoint.TheVariants as walking
use Rattle.wait_model.specs.declared.calls.Answer.TheVariants as answer
use Rattle.wait_model.specs.{declared.queues.Walked.Walked, declared.steps.Step.Step, declared.watches.Aim.Aim}
use Rattle.wait_model.specs.declared.steps.Step.TheVariants as step
use Rattle.wait_model.specs.declared.tasks.SleepState.TheVariants as states
use Rattle.wait_model.specs.declared.watches.Watch.TheVariants as watch
use Rattle.wait_rule.specs.declared.journal.Item.TheVariants as item
use Rattle.wait_rule.specs.{Known.Known, Queues.IsIdle, Queues.index, Stays.Carries, Stays.unchanged}
use Rattle.wait_rule.specs.Says.{IsUp, added, history_of}
use Rattle.wait_rule.proofs.{KnownLaws.TaskHistories.history_after}
use Rattle.wq_head.specs.{declared.adds.Worn.Worn, Walks.HasWoken}
use Rattle.wait_class.specs.Posts.{IsOut}
use Rattle.wait_event.specs.Ends.{wait_change}
use Rattle.wait_event.proofs.Changes.{carried_on, carried_wider, idle_on, out_on}
use Rattle.wait_event.proofs.Setting.{takes}
use Rattle.futex_table.specs.{declared.futexes.FutexEnd.FutexEnd, FutexEnds.EndsFutexWait}
use Rattle.futex_table.specs.Holding.{HoldsMutex, OthersStayHeld, StayHeld, holds_after, holds_in, holds_mutex}
use Rattle.futex_table.specs.Mutexes.{HasTriedMutex, HasWaitedRounds, LocksMutex, WaitsRound, worn_in}
use Rattle.futex_table.proofs.WordSteps.{holds_on, walk_holds}

-- one step more
pub one_holds : (m : ℕ) (old new : Known) (e : Step) → new ≡ added old (item.Made e)
    → holds_mutex new m ≡ holds_after m e (holds_mutex old m)
one_holds m old new e is = ap (holds_in m) (history_after old new e is)
    ∙ holds_on m (history_of old) (e ∷ []) false

-- a walk
pub woken_holds : (old new : Known) (aim : Aim) (w : Walked) → HasWoken old new aim w → StayHeld old new
woken_holds old new aim w woken = walk_holds aim woken.transitions (next.Go (at.Walk walking.Lock))
    (next.Ends (answer.Walk woken.walked)) old new woken.goes

-- a store of a word
stored_here : (m : ℕ) (b : Bool) → (if m == m then false else b) ≡ false
stored_here m b = ap (λ (c : Bool). if c then false else b) (let same : (m == m) ≡ true = grind (arith, nat_tests) in same)

stored_else : (c m : ℕ) (b : Bool) → m ≢ c → (if c == m then false else b) ≡ b
stored_else c m b ne = ap (λ (d : Bool). if d then false else b)
    (let other : (c == m) ≡ false = grind (arith, nat_tests) in other)

pub stored_frees : (c value found : ℕ) (old mid : Known)
    → mid ≡ added old (item.Made (step.Publish (watch.Plain c) value found)) → holds_mutex mid c ≡ false
stored_frees c value found old mid is = one_holds c old mid (step.Publish (watch.Plain c) value found) is
    ∙ stored_here c (holds_mutex old c)

pub stored_others : (c value found : ℕ) (old mid : Known)
    → mid ≡ added old (item.Made (step.Publish (watch.Plain c) value found)) → OthersStayHeld c old mid
stored_others c value found old mid is m ne = one_holds m old mid (step.Publish (watch.Plain c) value found) is
    ∙ stored_else c m (holds_mutex old m) ne

pub set_frees : (c value found : ℕ) (old mid new : Known) (aim : Aim) (w : Walked)
    → mid ≡ added old (item.Made (step.Publish (watch.Plain c) value found)) → HasWoken mid new aim w
    → holds_mutex new c ≡ false
set_frees c value found old mid new aim w is woken = woken_holds mid new aim w woken c
    ∙ stored_frees c value found old mid is

pub set_others : (c value found : ℕ) (old mid new : Known) (aim : Aim) (w : Walked)
    → mid ≡ added old (item.Made (step.Publish (watch.Plain c) value found)) → HasWoken mid new aim w
    → OthersStayHeld c old new
set_others c value found old mid new aim w is woken m ne = woken_holds mid new aim w woken m
    ∙ stored_others c value found old mid is m ne

-- a take
took_here : (c r : ℕ) (b : Bool) → (if c == c then b || not (r == 0) else b) ≡ (b || not (r == 0))
took_here c r b = ap (λ (d : Bool). if d then b || not (r == 0) else b)
    (let same : (c == c) ≡ true = grind (arith, nat_tests) in same)

took_else : (c m r : ℕ) (b : Bool) → m ≢ c → (if c == m then b || not (r == 0) else b) ≡ b
took_else c m r b ne = ap (λ (d : Bool). if d then b || not (r == 0) else b)
    (let other : (c == m) ≡ false = grind (arith, nat_tests) in other)

module _ (c r : ℕ) (old new : Known) (is : new ≡ added old (item.Made (step.Consume (watch.Plain c) 0 r))) where
  pub took_holds : (hit : Bool) → hit ≡ not (r == 0) → holds_mutex new c ≡ (holds_mutex old c || hit)
  took_holds hit tells = one_holds c old new (step.Consume (watch.Plain c) 0 r) is
      ∙ (took_here c r (holds_mutex old c) ∙ ap (λ (b : Bool). holds_mutex old c || b) (sym tells))

  pub took_others : OthersStayHeld c old new
  took_others m ne = one_holds m old new (step.Consume (watch.Plain c) 0 r) is
      ∙ took_else c m r (holds_mutex old m) ne

  pub took_tried : (hit : Bool) → hit ≡ not (r == 0) → HasTriedMutex old new c hit
  took_tried hit tells = record { found = r; took = takes old new c r is; tells = tells }

-- over a call that changes nothing
module _ (old new : Known) (c : Carries unchanged old new) where
  pub idle_still : IsIdle old → IsIdle new
  idle_still = idle_on unchanged c

  pub out_still : IsOut old → IsOut new
  out_still = out_on c refl

  pub still_waits : (i : ℕ) → Carries (wait_change i new.at) old new
  still_waits i = carried_wider (wait_change i new.at) c (λ x p. refl) (λ w p. refl) c.owes

-- one part behind another
pub waits_on : (i : ℕ) (x y z : Known) → Carries (wait_change i y.at) x y → Carries (wait_change i z.at) y z
    → Carries (wait_change i z.at) x z
waits_on i x y z a b = carried_on (wait_change i z.at) a b

-- What a task is between the rounds of a lock: as it began.
pub record IsBetween (old now : Known) : Type 0 where
  pub up : IsUp now
  pub idle : IsIdle now
  pub out : IsOut now
  pub carries : Carries (wait_change (index old.view.number 0) now.at) old now
  pub held : StayHeld old now

-- a try behind the rounds
module _ (old now tried : Known) (m : ℕ) (b : IsBetween old now) (still : Carries unchanged now tried) where
  pub try_carries : Carries (wait_change (index old.view.number 0) tried.at) old tried
  try_carries = waits_on (index old.view.number 0) old now tried b.carries
      (still_waits now tried still (index old.view.number 0))

  pub try_out : IsOut tried
  try_out = out_still now tried still b.out

  pub try_held : (hit : Bool) → holds_mutex tried m ≡ (holds_mutex now m || hit)
      → holds_mutex tried m ≡ (holds_mutex old m || hit)
  try_held hit is = is ∙ ap (λ (c : Bool). c || hit) (b.held m)

  pub try_others : OthersStayHeld m now tried → OthersStayHeld m old tried
  try_others others n ne = others n ne ∙ b.held n

  or_false : (c : Bool) → (c || false) ≡ c
  or_false true = refl
  or_false false = refl

  either_held : (hit : Bool) → hit ≡ false → holds_mutex tried m ≡ (holds_mutex now m || hit)
      → OthersStayHeld m now tried → StayHeld now tried
  either_held hit none is others n = elim (eqb_tells n m) [
    | inl q ↦ subst (λ (j : ℕ). holds_mutex tried j ≡ holds_mutex now j) (sym q.1)
        (is ∙ (ap (λ (c : Bool). holds_mutex now m || c) none ∙ or_false (holds_mutex now m)))
    | inr q ↦ others n q.1
  ]

  -- and a wait behind that
  module _ (hit : Bool) (none : hit ≡ false) (is : holds_mutex tried m ≡ (holds_mutex now m || hit))
      (others : OthersStayHeld m now tried) (new : Known) (stays : StayHeld tried new)
      (carries : Carries (wait_change (index tried.view.number 0) new.at) tried new) where
    pub again_carries : Carries (wait_change (index old.view.number 0) new.at) old new
    again_carries = waits_on (index old.view.number 0) old tried new try_carries
        (subst (λ (n : ℕ). Carries (wait_change (index n 0) new.at) tried new)
        (still.number ∙ b.carries.number) carries)

    pub again_held : StayHeld old new
    again_held n = stays n ∙ (either_held hit none is others n ∙ b.held n)

    pub again_unlocked : holds_mutex new m ≡ (holds_mutex old m || false)
    again_unlocked = again_held m ∙ sym (or_false (holds_mutex old m))

    pub again_between : IsUp new → IsIdle new → IsOut new → IsBetween old new
    again_between up idle out = record {
      up = up;
      idle = idle;
      out = out;
      carries = again_carries;
      held = again_held;
    }

-- What a task is while it waits for a mutex: as it began, and it has made rounds.
pub record IsWaiting (old now : Known) (m : ℕ) : Type 0 where
  pub waited : HasWaitedRounds m old now
  pub up : IsUp now
  pub idle : IsIdle now
  pub out : IsOut now
  pub carries : Carries (wait_change (index old.view.number 0) now.at) old now
  pub held : StayHeld old now

module _ (old now tried : Known) (m : ℕ) (w : IsWaiting old now m) (still : Carries unchanged now tried) where
  between : IsBetween old now
  between = record { up = w.up; idle = w.idle; out = w.out; carries = w.carries; held = w.held }

  pub tried_carries : Carries (wait_change (index old.view.number 0) tried.at) old tried
  tried_carries = try_carries old now tried m between still

  pub tried_out : IsOut tried
  tried_out = try_out old now tried m between still

  pub tried_held : (hit : Bool) → holds_mutex tried m ≡ (holds_mutex now m || hit)
      → holds_mutex tried m ≡ (holds_mutex old m || hit)
  tried_held = try_held old now tried m between still

  pub tried_others : OthersStayHeld m now tried → OthersStayHeld m old tried
  tried_others = try_others old now tried m between still

  module _ (hit : Bool) (none : hit ≡ false) (found : HasTriedMutex now tried m hit)
      (is : holds_mutex tried m ≡ (holds_mutex now m || hit)) (others : OthersStayHeld m now tried) (new : Known)
      (end : Result (Unit {0}) FutexEnd) (ends : EndsFutexWait tried new m 0 states.Uninterruptible end)
      (stays : StayHeld tried new)
      (carries : Carries (wait_change (index tried.view.number 0) new.at) tried new) where
    pub round : WaitsRound m now new end
    round = record {
      tried = tried;
      found = subst (HasTriedMutex now tried m) none found;
      waited = ends;
    }

    pub round_carries : Carries (wait_change (index old.view.number 0) new.at) old new
    round_carries = again_carries old now tried m between still hit none is others new stays carries

    pub round_held : StayHeld old new
    round_held = again_held old now tried m between still hit none is others new stays carries

    pub round_more : IsUp new → IsIdle new → IsOut new → worn_in end ≡ None → IsWaiting old new m
    round_more up idle out on = record {
      waited = record { count = suc w.waited.count; rounds = (now, end, w.waited.rounds, round, on) };
      up = up;
      idle = idle;
      out = out;
      carries = round_carries;
      held = round_held;
    }

    pub round_worn : (v : Worn) → worn_in end ≡ Some v → LocksMutex old new m (Err v)
    round_worn v is_worn = (now, end, w.waited, round, is_worn)

    pub round_unlocked : holds_mutex new m ≡ (holds_mutex old m || false)
    round_unlocked = again_unlocked old now tried m between still hit none is others new stays carries

-- so a try that took the mutex holds it
or_true : (b : Bool) → (b || true) ≡ true
or_true true = refl
or_true false = refl

pub tried_holds : (b hit : Bool) (k : Known) (m : ℕ) → holds_mutex k m ≡ (b || hit) → hit ≡ true → HoldsMutex k m
tried_holds b hit k m is sure = is ∙ (ap (λ (c : Bool). b || c) sure ∙ or_true b)
