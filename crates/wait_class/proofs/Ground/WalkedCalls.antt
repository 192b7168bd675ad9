-- The walk of a call that publishes is the walk of its aim, and has one hold at least.
use Rattle.std.proofs.Common.{sym, subst, arith}
use Rattle.std.specs.Prelude.{ℕ, ◌<◌, Bool, true, false, if◌then◌else◌, Option, Some, None, List, [], ◌∷◌}
use Rattle.wait_model.specs.declared.calls.Answer.TheVariants as answer
use Rattle.wait_model.specs.{declared.calls.Call.Call, declared.calls.Event.Event, declared.points.Given.Given}
use Rattle.wait_model.specs.{declared.points.Next.Next, declared.points.PageStage.PageStage}
use Rattle.wait_model.specs.{declared.points.Planned.Planned, declared.points.Seen.Seen}
use Rattle.wait_model.specs.{declared.points.WalkPoint.WalkPoint, declared.queues.CalledEntry.CalledEntry}
use Rattle.wait_model.specs.{declared.queues.Mark.Mark, declared.queues.Walking.Walking, declared.steps.Step.Step}
use Rattle.wait_model.specs.{declared.watches.Aim.Aim, declared.watches.Kind.Kind, Points.call_aim, Tasks.meets}
use Rattle.wait_model.specs.Programs.{call_entry, call_next, call_or_break, go, hands_event, onward, past, reached}
use Rattle.wait_model.specs.Programs.{resumed, walk_event}
use Rattle.wait_model.specs.Watches.{head_of, mask_of, misses}
use Rattle.wait_model.specs.declared.calls.Event.TheVariants as event
use Rattle.wait_model.specs.declared.points.Next.TheVariants as next
use Rattle.wait_model.specs.declared.points.PageStage.TheVariants as staging
use Rattle.wait_model.specs.declared.points.Point.TheVariants as at
use Rattle.wait_model.specs.declared.points.WalkPoint.TheVariants as walking
use Rattle.wait_model.specs.declared.steps.Step.TheVariants as step
use Rattle.wait_model.specs.declared.watches.Kind.TheVariants as kind
use Rattle.wait_rule.specs.Known.{Known}
use Rattle.wait_rule.specs.Transitions.{Finds, Goes, IsAbout, IsMadeFor, IsStepFor, StepOrLook, Transition}
use Rattle.wait_rule.specs.Transitions.{after_transition, by_look, by_step, call_program, walk_program}

-- a walk that goes on or has ended, with one hold at least
abbrev pub HasHoldAt : WalkPoint → Type 0
HasHoldAt walking.Lock = Unit {0}
HasHoldAt (walking.Call w) = 0 < w.holds
HasHoldAt (walking.Bit w c) = 0 < w.holds
HasHoldAt (walking.Page st w c) = 0 < w.holds
HasHoldAt (walking.Stopped w) = 0 < w.holds
HasHoldAt (walking.Wake w c) = 0 < w.holds
HasHoldAt (walking.Unqueue w who) = 0 < w.holds
HasHoldAt (walking.Spent w) = 0 < w.holds
HasHoldAt (walking.BreakUnlock w) = 0 < w.holds
HasHoldAt (walking.BreakLock w) = 0 < w.holds
HasHoldAt (walking.Unmark w) = 0 < w.holds

abbrev pub HasHold : Next → Type 0
HasHold (next.Go (at.Walk p)) = HasHoldAt p
HasHold (next.Go p) = ⊥
HasHold (next.Ends (answer.Walk w)) = 0 < w.holds
HasHold (next.Ends a) = ⊥

either_hold : (b : Bool) (p q : WalkPoint) → HasHoldAt p → HasHoldAt q → HasHoldAt (if b then p else q)
either_hold true p q one two = one
either_hold false p q one two = two

if_hold : (b : Bool) (x y : Planned) → HasHold x.next → HasHold y.next → HasHold (if b then x else y).next
if_hold true x y one two = one
if_hold false x y one two = two

onward_hold : (w : Walking) → 0 < w.holds → HasHold (next.Go (onward w))
onward_hold w h = by w.spent
  where
    by : (b : Bool) → HasHold (next.Go (if b then at.Walk (walking.Spent w) else at.Walk (walking.Call w)))
    by true = h
    by false = h

module _ (aim : Aim) where
  off_hold : (w : Walking) (c : CalledEntry) (hit : Bool) → 0 < w.holds
      → HasHoldAt (if hit then walking.Unqueue (past w c hit) c.who else walking.Call (past w c hit))
  off_hold w c hit h = either_hold hit (walking.Unqueue (past w c hit) c.who) (walking.Call (past w c hit)) h h

  entry_hold : (w : Walking) (c : CalledEntry) (k : Kind) (seen : Seen) (hit : Bool) → 0 < w.holds
      → HasHold (call_entry aim w c k seen hit).next
  entry_hold w c kind.Default seen hit h = onward_hold (past w c hit) h
  entry_hold w c kind.Autoremove seen hit h = off_hold w c hit h
  entry_hold w c kind.Woken seen hit h = h
  entry_hold w c kind.Bit seen hit h = either_hold (misses aim.watch seen.value) (walking.Call (past w c false))
      (walking.Bit w c) h h
  entry_hold w c kind.Var seen hit h = off_hold w c hit h
  entry_hold w c kind.Simple seen hit h = onward_hold (past w c hit) h
  entry_hold w c kind.Page seen hit h = either_hold (misses aim.watch seen.value) (walking.Stopped w)
      (walking.Page staging.Try w c) h h

  next_hold : (w : Walking) (o : Option CalledEntry) (seen : Seen) (hit : Bool) → 0 < w.holds
      → HasHold (call_next aim w o seen hit).next
  next_hold w None seen hit h = h
  next_hold w (Some c) seen hit h = entry_hold w c c.kind seen hit h

  break_hold : (w : Walking) (seen : Seen) (hit : Bool) → 0 < w.holds
      → HasHold (call_or_break aim w seen hit).next
  break_hold w seen hit h = if_hold seen.breaks (go (event.Mark (head_of aim.watch)) (at.Walk (walking.BreakUnlock w)))
      (call_next aim w seen.called seen hit) h (next_hold w seen.called seen hit h)

  page_hold : (st : PageStage) (w : Walking) (c : CalledEntry) (seen : Seen) → 0 < w.holds
      → HasHold (hands_event aim st w c seen).next
  page_hold staging.Try w c seen h = either_hold (misses aim.watch seen.value) (walking.Stopped w)
      (walking.Page staging.Hand w c) h h
  page_hold staging.Hand w c seen h = h
  page_hold staging.Wake w c seen h = h
  page_hold staging.Off w c seen h = onward_hold (past w c true) h

  resumed_hold : (w : Walking) (o : Option Mark) → 0 < w.holds → 0 < (resumed w o).holds
  resumed_hold w None h = h
  resumed_hold w (Some k) h = h

  walk_hold : (p : WalkPoint) (seen : Seen) → HasHoldAt p → HasHold (walk_event aim p seen).next
  walk_hold walking.Lock seen h = omega arith
  walk_hold (walking.Call w) seen h = break_hold (reached w seen.calls) seen
      (meets (mask_of aim.mode) seen.other.state) h
  walk_hold (walking.Bit w c) seen h = off_hold w c (meets (mask_of aim.mode) seen.other.state) h
  walk_hold (walking.Page st w c) seen h = page_hold st w c seen h
  walk_hold (walking.Wake w c) seen h = onward_hold (past w c (meets (mask_of aim.mode) seen.other.state)) h
  walk_hold (walking.Unqueue w who) seen h = onward_hold w h
  walk_hold (walking.BreakLock w) seen h = omega arith
  walk_hold (walking.Unmark w) seen h = resumed_hold w seen.mark h
  walk_hold _ seen h = h

-- no event of a walk asks for an own entry
step_own : (k : Known) (own : Option ℕ) (g : Given) (ev : Event) (e : Step) → IsStepFor k None g ev e
    → IsStepFor k own g ev e
step_own k own g (event.Queue h form) (step.Queue x en) m = absurd (let never = m.0 in cc)
step_own k own g (event.Queued hit) (step.Peek x w) m = absurd (cc)
step_own k own g (event.Flag hit) (step.Flag x w) m = absurd (cc)
step_own k own g event.Unflag (step.Unflag x o) m = absurd (let never = m.0 in cc)
step_own k own g ev e m = m

made_own : (k : Known) (own : Option ℕ) (g : Given) (ev : Event) (did : StepOrLook) → IsMadeFor k None g ev did
    → IsMadeFor k own g ev did
made_own k own g ev (by_step e) m = step_own k own g ev e m
made_own k own g (event.Active h hit) (by_look xs) m = m
made_own k own g ev (by_look xs) m = absurd m

about_own : (k : Known) (own : Option ℕ) (p : WalkPoint) (e : Step) (seen : Seen) → IsAbout k None (at.Walk p) e seen
    → IsAbout k own (at.Walk p) e seen
about_own k own (walking.Call w) (step.Woken x) seen m = m
about_own k own (walking.Unqueue w who) (step.Unqueue x) seen m = m
about_own k own (walking.Page st w c) (step.Unqueue x) seen m = m
about_own k own p (step.Unqueue x) seen m = absurd (cc)
about_own k own p e seen m = m

module _ (me : ℕ) (call : Call) where
  abbrev aim_is : Aim
  aim_is = call_aim call

  finds_own : (k : Known) (p : WalkPoint) (did : StepOrLook) (seen : Seen)
      → Finds k (walk_program aim_is) (at.Walk p) did seen → Finds k (call_program me 0 call) (at.Walk p) did seen
  finds_own k (walking.Call w) (by_step e) seen m = (
    m.0,
    m.1,
    about_own k (call_program me 0 call).own (walking.Call w)
        e seen m.2,
  )
  finds_own k (walking.Unmark w) (by_step e) seen m = (
    m.0,
    m.1,
    about_own k (call_program me 0 call).own
        (walking.Unmark w) e seen m.2,
  )
  finds_own k p (by_step e) seen m = (m.0, tt, about_own k (call_program me 0 call).own p e seen m.2)
  finds_own k (walking.Call w) (by_look xs) seen m = m
  finds_own k (walking.Unmark w) (by_look xs) seen m = m
  finds_own k p (by_look xs) seen m = tt

  pub walk_goes : (ts : List Transition) (old new : Known) (n m : Next) → HasHold n
      → Goes (walk_program aim_is) old n ts new m → Goes (call_program me 0 call) old n ts new m
  walk_goes [] old new n m h g = g
  walk_goes (t ∷ ts) old new (next.Ends a) m h g = absurd g
  walk_goes (t ∷ ts) old new (next.Go (at.Walk p)) m h g = (
    record {
      looks = g.0.looks;
      is = made_own t.knew (call_program me 0 call).own ((walk_program aim_is).given (at.Walk p))
          (walk_event aim_is p t.seen).event t.did g.0.is;
      finds = finds_own t.knew p t.did t.seen g.0.finds;
    },
    walk_goes ts (after_transition t) new (walk_event aim_is p t.seen).next m (walk_hold aim_is p t.seen h) g.1,
  )
  walk_goes (t ∷ ts) old new (next.Go p) m h g = absurd h

  pub walk_ends_held : (ts : List Transition) (old new : Known) (n m : Next) → HasHold n
      → Goes (walk_program aim_is) old n ts new m → HasHold m
  walk_ends_held [] old new n m h g = subst HasHold (sym g.1) h
  walk_ends_held (t ∷ ts) old new (next.Ends a) m h g = absurd g
  walk_ends_held (t ∷ ts) old new (next.Go (at.Walk p)) m h g = walk_ends_held ts (after_transition t) new
      (walk_event aim_is p t.seen).next m (walk_hold aim_is p t.seen h) g.1
  walk_ends_held (t ∷ ts) old new (next.Go p) m h g = absurd h
