-- A walk's answer tells how many exclusive entries its wakes met, and how many pages it handed over.
use Rattle.std.proofs.Common.{refl, ap, arith}
use Rattle.std.specs.Prelude.{ℕ, ◌≡◌, ◌+◌, ◌&&◌, Bool, true, false, if◌then◌else◌, Option, Some, None, List, [], ◌∷◌}
use Rattle.wait_model.specs.declared.calls.Event.TheVariants as event
use Rattle.wait_model.specs.declared.calls.Answer.TheVariants as answer
use Rattle.wait_model.specs.{declared.queues.CalledEntry.CalledEntry, declared.queues.Mark.Mark}
use Rattle.wait_model.specs.{declared.queues.Walked.Walked, declared.queues.Walking.Walking, declared.watches.Aim.Aim}
use Rattle.wait_model.specs.{declared.watches.Kind.Kind, declared.points.Next.Next, declared.points.Seen.Seen}
use Rattle.wait_model.specs.{declared.points.WalkPoint.WalkPoint, declared.points.PageStage.PageStage, Tasks.meets}
use Rattle.wait_model.specs.Watches.{mask_of, misses, head_of}
use Rattle.wait_model.specs.Programs.{call_entry, call_next, go, onward, past, reached, resumed, walk_event}
use Rattle.wait_model.specs.declared.watches.Kind.TheVariants as kind
use Rattle.wait_model.specs.declared.points.Next.TheVariants as next
use Rattle.wait_model.specs.declared.points.Point.TheVariants as at
use Rattle.wait_model.specs.declared.points.WalkPoint.TheVariants as walking
use Rattle.wait_model.specs.declared.points.PageStage.TheVariants as staging
use Rattle.wait_rule.specs.Known.{Known}
use Rattle.wait_rule.specs.Selecting.{RunsTell, is_exclusive_called, selects_at, selects_in, yes_by}
use Rattle.wait_rule.specs.Transitions.{Goes, Program, Transition, after_transition, walk_program}

module _ (aim : Aim) where
  -- so many it has selected so far
  abbrev ChosenAt : ℕ → WalkPoint → Type 0
  ChosenAt n walking.Lock = n ≡ 0
  ChosenAt n (walking.Call w) = w.selected ≡ n
  ChosenAt n (walking.Wake w c) = w.selected ≡ n
  ChosenAt n (walking.Bit w c) = w.selected ≡ n
  ChosenAt n (walking.Page st w c) = w.selected ≡ n
  ChosenAt n (walking.Stopped w) = w.selected ≡ n
  ChosenAt n (walking.Unqueue w who) = w.selected ≡ n
  ChosenAt n (walking.Spent w) = w.selected ≡ n
  ChosenAt n (walking.BreakUnlock w) = w.selected ≡ n
  ChosenAt n (walking.BreakLock w) = w.selected ≡ n
  ChosenAt n (walking.Unmark w) = w.selected ≡ n

  abbrev LedTo : ℕ → Next → Type 0
  LedTo n (next.Go (at.Walk p)) = ChosenAt n p
  LedTo n (next.Go p) = ⊥
  LedTo n (next.Ends a) = (k : Walked) → a ≡ answer.Walk k → k.selected ≡ n

  -- one more where the entry is exclusive and its wake met
  one_by : (x hit : Bool) (who : ℕ) (w : Walking) (n : ℕ) → w.selected ≡ n
      → (if hit && x then w.selected + 1 else w.selected)
      ≡ n + (if x then yes_by false (event.Wake who hit) else 0)
  one_by true true who w n is = omega (arith, is)
  one_by false true who w n is = omega (arith, is)
  one_by true false who w n is = omega (arith, is)
  one_by false false who w n is = omega (arith, is)

  onward_led : (n : ℕ) (w : Walking) → w.selected ≡ n → LedTo n (next.Go (onward w))
  onward_led n w is = by w.spent
    where
      by : (b : Bool) → LedTo n (next.Go (if b then at.Walk (walking.Spent w) else at.Walk (walking.Call w)))
      by true = is
      by false = is

  wake_led : (n : ℕ) (w : Walking) (c : CalledEntry) (hit : Bool) → w.selected ≡ n
      → LedTo (n + (if c.exclusive then yes_by false (event.Wake c.who hit) else 0)) (next.Go (onward (past w c hit)))
  wake_led n w c hit is = onward_led (n + (if c.exclusive then yes_by false (event.Wake c.who hit) else 0))
      (past w c hit)
      (one_by c.exclusive hit c.who w n is)

  off_led : (n : ℕ) (w : Walking) (c : CalledEntry) (hit : Bool) → w.selected ≡ n
      → LedTo (n + (if c.exclusive then yes_by false (event.Wake c.who hit) else 0))
      (next.Go (at.Walk (if hit then walking.Unqueue (past w c hit) c.who else walking.Call (past w c hit))))
  off_led n w c true is = one_by c.exclusive true c.who w n is
  off_led n w c false is = one_by c.exclusive false c.who w n is

  -- an event that is no wake
  none_more : (x : Bool) (n m : ℕ) → m ≡ 0 → (s : ℕ) → s ≡ n → s ≡ n + (if x then m else 0)
  none_more true n m zero s is = omega (arith, zero, is)
  none_more false n m zero s is = omega (arith, is)

  test_led : (x : Bool) (n : ℕ) (b : Bool) (w : Walking) (c : CalledEntry) → w.selected ≡ n
      → LedTo (n + (if x then 0 else 0)) (next.Go (at.Walk (if b then walking.Call (past w c false)
      else walking.Bit w c)))
  test_led x n true w c is = none_more x n 0 refl w.selected is
  test_led x n false w c is = none_more x n 0 refl w.selected is

  page_led : (x : Bool) (n : ℕ) (b : Bool) (st : PageStage) (w : Walking) (c : CalledEntry) → w.selected ≡ n
      → LedTo (n + (if x then 0 else 0)) (next.Go (at.Walk (if b then walking.Stopped w
      else walking.Page st w c)))
  page_led x n true st w c is = none_more x n 0 refl w.selected is
  page_led x n false st w c is = none_more x n 0 refl w.selected is

  entry_led : (n : ℕ) (w : Walking) (c : CalledEntry) (j : Kind) (seen : Seen) (hit : Bool) → w.selected ≡ n
      → LedTo (n + (if c.exclusive then yes_by false (call_entry aim w c j seen hit).event else 0))
      (call_entry aim w c j seen hit).next
  entry_led n w c kind.Default seen hit is = wake_led n w c hit is
  entry_led n w c kind.Autoremove seen hit is = off_led n w c hit is
  entry_led n w c kind.Woken seen hit is = none_more c.exclusive n 0 refl w.selected is
  entry_led n w c kind.Bit seen hit is = test_led c.exclusive n (misses aim.watch seen.value) w c is
  entry_led n w c kind.Page seen hit is = page_led c.exclusive n (misses aim.watch seen.value) staging.Try w c is
  entry_led n w c kind.Var seen hit is = off_led n w c hit is
  entry_led n w c kind.Simple seen hit is = wake_led n w c hit is

  walk_is : (k j : Walked) → answer.Walk k ≡ answer.Walk j → k ≡ j
  walk_is k j is = cc

  ended : (n m : ℕ) (j : Walked) → m ≡ 0 → j.selected ≡ n → (k : Walked) → answer.Walk j ≡ answer.Walk k
      → k.selected ≡ n + m
  ended n m j zero is k same = let z : j.selected ≡ k.selected = ap (λ (w : Walked). w.selected) (walk_is j k same) in
      omega (arith, zero, is, z)

  next_led : (n : ℕ) (w : Walking) (o : Option CalledEntry) (seen : Seen) (hit : Bool) → w.selected ≡ n
      → LedTo (n + (if is_exclusive_called o then yes_by false (call_next aim w o seen hit).event else 0))
      (call_next aim w o seen hit).next
  next_led n w None seen hit is = ended n 0 _ refl is
  next_led n w (Some c) seen hit is = entry_led n w c c.kind seen hit is

  call_led : (n : ℕ) (w : Walking) (b : Bool) (seen : Seen) (hit : Bool) → w.selected ≡ n
      → LedTo (n + (if is_exclusive_called seen.called then yes_by false (if b
      then go (event.Mark (head_of aim.watch)) (at.Walk (walking.BreakUnlock w))
      else call_next aim w seen.called seen hit).event else 0))
      (if b then go (event.Mark (head_of aim.watch)) (at.Walk (walking.BreakUnlock w))
      else call_next aim w seen.called seen hit).next
  call_led n w true seen hit is = none_more (is_exclusive_called seen.called) n 0 refl w.selected is
  call_led n w false seen hit is = next_led n w seen.called seen hit is

  resumed_is : (n : ℕ) (w : Walking) (o : Option Mark) → w.selected ≡ n → (resumed w o).selected ≡ n
  resumed_is n w None is = is
  resumed_is n w (Some q) is = is

  walk_led : (n : ℕ) (p : WalkPoint) (seen : Seen) → ChosenAt n p
      → LedTo (n + selects_at aim (at.Walk p) seen) (walk_event aim p seen).next
  walk_led n (walking.Page staging.Try w c) seen is = page_led false n (misses aim.watch seen.value) staging.Hand w c is
  walk_led n (walking.Page staging.Hand w c) seen is = omega (arith, is)
  walk_led n (walking.Page staging.Wake w c) seen is = omega (arith, is)
  walk_led n (walking.Page staging.Off w c) seen is = onward_led (n + (if c.exclusive then 1 else 0)) (past w c true)
      (one_by c.exclusive true c.who w n is)
  walk_led n (walking.Stopped w) seen is = ended n 0 _ refl is
  walk_led n walking.Lock seen zero = omega (arith, zero)
  walk_led n (walking.Call w) seen is = call_led n (reached w seen.calls) seen.breaks seen
      (meets (mask_of aim.mode) seen.other.state) is
  walk_led n (walking.Bit w c) seen is = off_led n w c (meets (mask_of aim.mode) seen.other.state) is
  walk_led n (walking.Wake w c) seen is = wake_led n w c (meets (mask_of aim.mode) seen.other.state) is
  walk_led n (walking.Unqueue w who) seen is = onward_led (n + 0) w (omega (arith, is))
  walk_led n (walking.Spent w) seen is = ended n 0 _ refl is
  walk_led n (walking.BreakUnlock w) seen is = omega (arith, is)
  walk_led n (walking.BreakLock w) seen is = omega (arith, is)
  walk_led n (walking.Unmark w) seen is = let z = resumed_is n w seen.mark is in omega (arith, z)

  abbrev f : Program
  f = walk_program aim

  tail : (ts : List Transition) (j new : Known) (n : ℕ) (k : Walked)
      → ((q : WalkPoint) → Goes f j (next.Go (at.Walk q)) ts new (next.Ends (answer.Walk k)) → ChosenAt n q
      → k.selected ≡ n + selects_in aim (next.Go (at.Walk q)) ts)
      → (nx : Next) → Goes f j nx ts new (next.Ends (answer.Walk k)) → LedTo n nx
      → k.selected ≡ n + selects_in aim nx ts
  tail ts j new n k rec (next.Go (at.Walk q)) g led = rec q g led
  tail ts j new n k rec (next.Go p) g led = absurd led
  tail [] j new n k rec (next.Ends b) g led =
      let same : b ≡ answer.Walk k = (let z : next.Ends (answer.Walk k) ≡ next.Ends b = g.1 in cc) in
      let is = led k same in omega (arith, is)
  tail (t ∷ ts) j new n k rec (next.Ends b) g led = absurd g

  tells : (ts : List Transition) (p : WalkPoint) (old new : Known) (n : ℕ) (k : Walked) → ChosenAt n p
      → Goes f old (next.Go (at.Walk p)) ts new (next.Ends (answer.Walk k))
      → k.selected ≡ n + selects_in aim (next.Go (at.Walk p)) ts
  tells [] p old new n k h g = absurd (let z : next.Ends (answer.Walk k) ≡ next.Go (at.Walk p) = g.1 in cc)
  tells (t ∷ ts) p old new n k h g =
      let one : ℕ = selects_at aim (at.Walk p) t.seen in
      let nx : Next = (walk_event aim p t.seen).next in
      let rest = tail ts (after_transition t) new (n + one) k
      (λ q on led. tells ts q (after_transition t) new (n + one) k led on) nx g.1 (walk_led n p t.seen h) in
      omega (arith, rest)

pub runs_tell : RunsTell
runs_tell aim old new k m = let h = tells aim m.transitions walking.Lock old new 0 k refl m.goes in omega (arith, h)
