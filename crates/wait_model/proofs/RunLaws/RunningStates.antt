-- At points where a call does not stir, a task that is awake is in state RUNNING.
use Rattle.std.proofs.lemmas.Bool.{both_ways}
use Rattle.std.proofs.Common.{refl, sym, ◌∙◌, ap, subst, arith, inl, inr}
use Rattle.std.proofs.lemmas.Bool.Decides.{nat_tests}
use Rattle.std.specs.Prelude.{ℕ, ◌≡◌, ◌≢◌, ◌⊎◌, Bool, true, false, ◌==◌, if◌then◌else◌}
use Rattle.wait_model.specs.{declared.calls.Call.Call, declared.calls.Event.Event, declared.points.Given.Given}
use Rattle.wait_model.specs.{declared.points.Next.Next, declared.points.Point.Point, declared.points.Progress.Progress}
use Rattle.wait_model.specs.{declared.tasks.TaskRecord.TaskRecord, Tables.next, Tables.value_of, Words.head_word}
use Rattle.wait_model.specs.{Points.given_at, Programs.program_start}
use Rattle.wait_model.specs.Runs.{State, seen_by, planned, progress_at, is_open, after_event}
use Rattle.wait_model.specs.Reached.{stirs, Rests, IsFitted}
use Rattle.wait_model.specs.Tasks.{meets, pending, woken, slept, raised, accepted}
use Rattle.wait_model.proofs.{HistoryLaws.HoldLooks.looks_same, HistoryLaws.UnlockedLooks.peeks_same}
use Rattle.wait_model.proofs.{WordLaws.CondWords.set_rest, Functions.put_at, Functions.put_same}
use Rattle.wait_model.proofs.RunLaws.StateMoves.{KeepsState, IsMoved, stirs_next, program_moved}
use Rattle.wait_model.specs.declared.calls.Event.TheVariants as event
use Rattle.wait_model.specs.declared.points.Next.TheVariants as next
use Rattle.wait_model.specs.declared.points.Progress.TheVariants as now
use Rattle.wait_model.specs.declared.steps.Step.TheVariants as step

-- the task is in state RUNNING if it is awake, or it is as it was
abbrev pub Settles : TaskRecord → TaskRecord → Type 0
Settles t u = (u.runnable ≡ true → u.state ≡ 0) ⊎ ((u.state ≡ t.state) × (u.runnable ≡ t.runnable))

slept_rests : (u : TaskRecord) → (slept u).runnable ≡ true → (slept u).state ≡ 0
slept_rests u = by (u.state == 0) (pending u.state u) refl
  where
    by : (a b : Bool) → (u.state == 0) ≡ a → (if a then u else if b then record u { state = 0 }
        else record u { runnable = false }).runnable ≡ true → (if a then u else if b then record u { state = 0 }
        else record u { runnable = false }).state ≡ 0
    by true b s r = grind (arith, nat_tests)
    by false true s r = refl
    by false false s r = absurd (cc)

woken_settles : (mask : ℕ) (t : TaskRecord) → Settles t (woken mask t)
woken_settles mask t = by (meets mask t.state)
  where
    by : (b : Bool) → Settles t (if b then record t { state = 0; runnable = true } else t)
    by true = inl (λ _. refl)
    by false = inr (refl, refl)

-- the events that store a state
abbrev stores_state : Event → Bool
stores_state (event.State v) = true
stores_state _ = false

module _ (s : State) (me : ℕ) (g : Given) where
  -- a change of one task's word
  one : (who : ℕ) (u : TaskRecord) (t : ℕ) → Settles (s.table.task who) u
      → Settles (s.table.task t) (if t == who then u else s.table.task t)
  one who u t h = put_at (λ v. Settles (s.table.task t) v) s.table.task who u t
      (λ q. subst (λ (i : ℕ). Settles (s.table.task i) u) (sym q) h) (λ _. inr (refl, refl))

  same_task : (f : ℕ → TaskRecord) (t : ℕ) → f ≡ s.table.task → Settles (s.table.task t) (f t)
  same_task f t e = subst (λ (k : ℕ → TaskRecord). Settles (s.table.task t) (k t)) (sym e) (inr (refl, refl))

  settles : (e : Event) (t : ℕ) → (t ≡ me → stores_state e ≡ false)
      → Settles (s.table.task t) ((after_event s me g e).table.task t)
  settles (event.State v) t n = put_at (λ u. Settles (s.table.task t) u) s.table.task me _ t
      (λ q. absurd (both_ways true (n q) refl)) (λ _. inr (refl, refl))
  settles (event.Sleep x) t n = one me (slept (s.table.task me)) t
      (inl (slept_rests (s.table.task me)))
  settles (event.Wake who hit) t n = one who (woken g.mask (s.table.task who)) t
      (woken_settles g.mask (s.table.task who))
  settles (event.Signal who fatal) t n = one who (raised fatal (s.table.task who)) t (inr (refl, refl))
  settles (event.Accept x) t n = one me (accepted (s.table.task me)) t (inr (refl, refl))
  settles (event.Lock h) t n = same_task _ t
      (looks_same (next s.table me (step.Lock h g.walk (head_word (s.table.holder h) (s.table.spent h))))
      s.table.entry me).task
  settles (event.Active h hit) t n = same_task _ t (peeks_same s.table s.table.entry me).task
  settles (event.Set c v) t n = same_task _ t
      (set_rest s.table me g.watch v (value_of s.table.words g.watch)).task
  settles e t n = inr (refl, refl)

-- what rests is at rest after an event that lets it be
settled : (t u : TaskRecord) → Settles t u → (t.runnable ≡ true → t.state ≡ 0) → u.runnable ≡ true → u.state ≡ 0
settled t u (inl h) was r = h r
settled t u (inr h) was r = h.0 ∙ was (sym h.1 ∙ r)

settled_at : (p : Progress) (t u : TaskRecord) → Settles t u → Rests p t → Rests p u
settled_at (now.Open call p) t u h was = λ still. settled t u h (was still)
settled_at now.Idle t u h was = settled t u h was
settled_at now.Fresh t u h was = settled t u h was

-- another task's event
pub others_rest : (s : State) (me : ℕ) (g : Given) (e : Event) (b : ℕ) → b ≢ me
    → Rests (s.progress b) (s.table.task b) → Rests (s.progress b) ((after_event s me g e).table.task b)
others_rest s me g e b ne = settled_at (s.progress b) (s.table.task b) ((after_event s me g e).table.task b)
    (settles s me g e b (λ q. absurd (ne q)))

-- an own event
rests_next : (call : Call) (x : Next) (t : TaskRecord) → (stirs_next call x ≡ false → t.runnable ≡ true → t.state ≡ 0)
    → Rests (progress_at call x) t
rests_next call (next.Go p) t h = h
rests_next call (next.Ends a) t h = h refl

module _ (s : State) (me : ℕ) (g : Given) (before behind : Bool)
    (was : before ≡ false → (s.table.task me).state ≡ 0) (runs : (s.table.task me).runnable ≡ true) where
  rests_after : (e : Event) → KeepsState before e behind → behind ≡ false
      → ((after_event s me g e).table.task me).runnable ≡ true → ((after_event s me g e).table.task me).state ≡ 0
  rests_after (event.State v) (inl z) still r = ap (λ (t : TaskRecord). t.state) (put_same s.table.task me _) ∙ z
  rests_after (event.State v) (inr z) still r = absurd (both_ways true (sym z ∙ still) refl)
  rests_after (event.Sleep x) k still r = put_at (λ (u : TaskRecord). u.runnable ≡ true → u.state ≡ 0) s.table.task me
      (slept (s.table.task me)) me (λ _. slept_rests (s.table.task me)) (λ n. absurd (n refl)) r
  rests_after e k still r = settled (s.table.task me) ((after_event s me g e).table.task me)
      (settles s me g e me (λ _. refl)) (λ _. was (k still)) r

pub program_rests : (s : State) (me : ℕ) (call : Call) (p : Point) → IsFitted call p
    → Rests (now.Open call p) (s.table.task me) → (s.table.task me).runnable ≡ true
    → Rests (progress_at call (planned s me call p).next)
    ((after_event s me (given_at call p) (planned s me call p).event).table.task me)
program_rests s me call p fit was runs =
    let m : IsMoved (stirs call p) call (planned s me call p) =
    program_moved call me (seen_by s me call p) p fit in
    rests_next call (planned s me call p).next _
    (rests_after s me (given_at call p) (stirs call p) (stirs_next call (planned s me call p).next)
    (λ still. was still runs) runs (planned s me call p).event m.state)

-- a call begins at rest
pub begun_rests : (p : Progress) (call : Call) (t : TaskRecord) → is_open p ≡ false → Rests p t
    → Rests (now.Open call (program_start call)) t
begun_rests now.Fresh call t c h = λ _. h
begun_rests now.Idle call t c h = λ _. h
begun_rests (now.Open d p) call t c h = absurd (cc)
