-- A task's bookmark stands exactly while its walk breaks.
use Rattle.std.proofs.Common.{refl, sym, ◌∙◌, ap}
use Rattle.std.specs.Prelude.{ℕ, ◌≡◌, ◌≢◌, Bool, true, false, if◌then◌else◌, Option, Some, None}
use Rattle.wait_model.specs.{declared.queues.Mark.Mark, declared.queues.CalledEntry.CalledEntry}
use Rattle.wait_model.specs.{declared.queues.Walking.Walking, declared.watches.Kind.Kind, declared.calls.Call.Call}
use Rattle.wait_model.specs.{declared.calls.Event.Event, declared.points.Point.Point}
use Rattle.wait_model.specs.{declared.points.WalkPoint.WalkPoint, declared.points.Given.Given}
use Rattle.wait_model.specs.{declared.points.Next.Next, declared.points.Planned.Planned}
use Rattle.wait_model.specs.{declared.points.Progress.Progress, declared.points.Seen.Seen, Reached.mark_head}
use Rattle.wait_model.specs.{Reached.marked_at, Tables.steps, Tables.value_of, Words.head_word, Tasks.meets}
use Rattle.wait_model.specs.{Watches.mask_of, declared.points.PageStage.PageStage}
use Rattle.wait_model.specs.Runs.{State, mark_for, event_steps, seen_by, planned, progress_at, is_open}
use Rattle.wait_model.specs.Points.{call_aim, call_head, mode_of, given_at}
use Rattle.wait_model.specs.Programs.{program_start, go, load, call_fails, past, onward, wake_off_event, tests}
use Rattle.wait_model.specs.Programs.{call_entry, call_next, reached, hands_event}
use Rattle.wait_model.specs.declared.watches.Kind.TheVariants as kind
use Rattle.wait_model.specs.declared.calls.Call.TheVariants as calls
use Rattle.wait_model.specs.declared.calls.Event.TheVariants as event
use Rattle.wait_model.specs.declared.points.Point.TheVariants as at
use Rattle.wait_model.specs.declared.points.WalkPoint.TheVariants as walking
use Rattle.wait_model.specs.declared.points.Next.TheVariants as next
use Rattle.wait_model.specs.declared.points.Progress.TheVariants as now
use Rattle.wait_model.specs.declared.steps.Step.TheVariants as step
use Rattle.wait_model.specs.Tables as tables
use Rattle.wait_model.proofs.{HistoryLaws.HoldLooks.looks_same, HistoryLaws.UnlockedLooks.peeks_same}
use Rattle.wait_model.proofs.{WordLaws.CondWords.set_rest, Functions.put_same, Functions.put_other}
use Rattle.wait_model.proofs.QueueLaws.OutsideWalks.{IsUnmarked, goes_away, IsAway, program_away}
use Rattle.wait_model.specs.declared.points.PageStage.TheVariants as staging

module _ (s : State) (me : ℕ) (g : Given) where
  marks_left : (e : Event) → IsUnmarked e → (steps s.table me (event_steps s me g e)).mark ≡ s.table.mark
  marks_left (event.Lock h) u =
      (looks_same (tables.next s.table me (step.Lock h g.walk (head_word (s.table.holder h) (s.table.spent h))))
      s.table.entry me).mark
  marks_left (event.Active h hit) u = (peeks_same s.table s.table.entry me).mark
  marks_left (event.Mark h) u = absurd u
  marks_left (event.Unmark h) u = absurd u
  marks_left (event.Set c v) u = (set_rest s.table me g.watch v (value_of s.table.words g.watch)).mark
  marks_left e u = refl

  -- no event moves another task's bookmark
  pub marks_other : (e : Event) (t : ℕ) → t ≢ me
      → (steps s.table me (event_steps s me g e)).mark t ≡ s.table.mark t
  marks_other (event.Mark h) t ne = put_other s.table.mark me (Some (mark_for s.table.entry g h (s.queue h))) t ne
  marks_other (event.Unmark h) t ne = put_other s.table.mark me None t ne
  marks_other e t ne = ap (λ (f : ℕ → Option Mark). f t) (marks_left e tt)

-- an event that moves no bookmark, after which no bookmark stands
pub record IsCalm (call : Call) (x : Planned) : Type 0 where
  pub event : IsUnmarked x.event
  pub next : marked_at (progress_at call x.next) ≡ None

away_marked : (call : Call) (q : Next) → goes_away q ≡ true → marked_at (progress_at call q) ≡ None
away_marked call (next.Go (at.Walk walking.Lock)) h = refl
away_marked call (next.Go (at.Walk p)) h = absurd (cc)
away_marked call (next.Go p) h = refl
away_marked call (next.Ends a) h = refl

away_calm : (call : Call) (x : Planned) → IsAway x → IsCalm call x
away_calm call x a = record { event = a.event; next = away_marked call x.next a.next }

module _ (call : Call) where
  onward_calm : (w : Walking) (e : Event) → IsUnmarked e → IsCalm call (go e (onward w))
  onward_calm w e u = by w.spent
    where
      by : (b : Bool) → IsCalm call (go e (if b then at.Walk (walking.Spent w) else at.Walk (walking.Call w)))
      by true = record { event = u; next = refl }
      by false = record { event = u; next = refl }

  off_calm : (w : Walking) (c : CalledEntry) (hit : Bool) → IsCalm call (wake_off_event w c hit)
  off_calm w c true = record { event = tt; next = refl }
  off_calm w c false = record { event = tt; next = refl }

  -- a walk that stops where it finds a page set
  page_calm : (b : Bool) (e : Event) → IsUnmarked e → (w : Walking) (p : WalkPoint)
      → marked_at (now.Open call (at.Walk p)) ≡ None
      → IsCalm call (go e (at.Walk (if b then walking.Stopped w else p)))
  page_calm true e u w p h = record { event = u; next = refl }
  page_calm false e u w p h = record { event = u; next = h }

  module _ (seen : Seen) where
    tests_calm : (w : Walking) (c : CalledEntry) → IsCalm call (tests (call_aim call) w c seen)
    tests_calm w c = by (call_fails call seen)
      where
        by : (b : Bool) → IsCalm call (go (load call seen)
            (at.Walk (if b then walking.Call (past w c false) else walking.Bit w c)))
        by true = record { event = tt; next = refl }
        by false = record { event = tt; next = refl }

    entry_calm : (w : Walking) (c : CalledEntry) (k : Kind) (hit : Bool)
        → IsCalm call (call_entry (call_aim call) w c k seen hit)
    entry_calm w c kind.Default hit = onward_calm (past w c hit) (event.Wake c.who hit) tt
    entry_calm w c kind.Autoremove hit = off_calm w c hit
    entry_calm w c kind.Woken hit = record { event = tt; next = refl }
    entry_calm w c kind.Bit hit = tests_calm w c
    entry_calm w c kind.Var hit = off_calm w c hit
    entry_calm w c kind.Simple hit = onward_calm (past w c hit) (event.Wake c.who hit) tt
    entry_calm w c kind.Page hit = page_calm (call_fails call seen) (load call seen) tt w (walking.Page staging.Try w c)
        refl

    -- the walk hands a page
    hands_calm : (st : PageStage) (w : Walking) (c : CalledEntry)
        → IsCalm call (hands_event (call_aim call) st w c seen)
    hands_calm staging.Try w c = page_calm (call_fails call seen) _ tt w (walking.Page staging.Hand w c) refl
    hands_calm staging.Hand w c = record { event = tt; next = refl }
    hands_calm staging.Wake w c = record { event = tt; next = refl }
    hands_calm staging.Off w c = onward_calm (past w c true) (event.Unqueue c.who) tt

    next_calm : (w : Walking) (o : Option CalledEntry) (hit : Bool)
        → IsCalm call (call_next (call_aim call) w o seen hit)
    next_calm w None hit = record { event = tt; next = refl }
    next_calm w (Some c) hit = entry_calm w c c.kind hit

module _ (s : State) (me : ℕ) (call : Call) where
  -- the bookmark after an event
  abbrev After : Given → Planned → Type 0
  After g x = mark_head ((steps s.table me (event_steps s me g x.event)).mark me)
      ≡ marked_at (progress_at call x.next)

  calm_after : (g : Given) (x : Planned) → mark_head (s.table.mark me) ≡ None → IsCalm call x → After g x
  calm_after g x h c = ap (λ (f : ℕ → Option Mark). mark_head (f me)) (marks_left s me g x.event c.event) ∙ h
      ∙ sym c.next

  break_after : (g : Given) (w : Walking) (b : Bool) (x : Planned) → mark_head (s.table.mark me) ≡ None
      → IsCalm call x
      → After g (if b then go (event.Mark (call_head call)) (at.Walk (walking.BreakUnlock w)) else x)
  break_after g w true x h c = ap mark_head (put_same s.table.mark me (Some (mark_for s.table.entry g (call_head call)
      (s.queue (call_head call)))))
  break_after g w false x h c = calm_after g x h c

  module _ (p : WalkPoint) where
    abbrev given : Given
    given = given_at call (at.Walk p)

    abbrev seen : Seen
    seen = seen_by s me call (at.Walk p)

    abbrev goal : Type 0
    goal = After given (planned s me call (at.Walk p))

    walk_calm : mark_head (s.table.mark me) ≡ None → IsCalm call (planned s me call (at.Walk p)) → goal
    walk_calm h c = calm_after given (planned s me call (at.Walk p)) h c

  walk_after : (p : WalkPoint) → mark_head (s.table.mark me) ≡ marked_at (now.Open call (at.Walk p)) → goal p
  walk_after walking.Lock h = walk_calm walking.Lock h (record { event = tt; next = refl })
  walk_after (walking.Call w) h =
      let x : Seen = seen (walking.Call w) in
      break_after (given (walking.Call w)) (reached w x.calls) x.breaks
      (call_next (call_aim call) (reached w x.calls) x.called x (meets (mask_of (mode_of call)) x.other.state)) h
      (next_calm call x (reached w x.calls) x.called (meets (mask_of (mode_of call)) x.other.state))
  walk_after (walking.Wake w c) h = walk_calm (walking.Wake w c) h
      (onward_calm call (past w c (meets (mask_of (mode_of call)) (seen (walking.Wake w c)).other.state))
      (event.Wake c.who (meets (mask_of (mode_of call)) (seen (walking.Wake w c)).other.state)) tt)
  walk_after (walking.Bit w c) h = walk_calm (walking.Bit w c) h
      (off_calm call w c (meets (mask_of (mode_of call)) (seen (walking.Bit w c)).other.state))
  walk_after (walking.Page st w c) h = walk_calm (walking.Page st w c) h
      (hands_calm call (seen (walking.Page st w c)) st w c)
  walk_after (walking.Stopped w) h = walk_calm (walking.Stopped w) h (record { event = tt; next = refl })
  walk_after (walking.Unqueue w who) h = walk_calm (walking.Unqueue w who) h
      (onward_calm call w (event.Unqueue who) tt)
  walk_after (walking.Spent w) h = walk_calm (walking.Spent w) h (record { event = tt; next = refl })
  walk_after (walking.BreakUnlock w) h = h
  walk_after (walking.BreakLock w) h = ap (λ (f : ℕ → Option Mark). mark_head (f me))
      (marks_left s me (given (walking.BreakLock w)) (event.Lock (call_head call)) tt) ∙ h
  walk_after (walking.Unmark w) h = ap mark_head (put_same s.table.mark me None)

  pub program_marked : (p : Point) → mark_head (s.table.mark me) ≡ marked_at (now.Open call p)
      → After (given_at call p) (planned s me call p)
  program_marked (at.Walk p) h = walk_after p h
  program_marked p h = calm_after (given_at call p) (planned s me call p) h
      (away_calm call (planned s me call p) (program_away call me (seen_by s me call p) p tt))

-- a call begins without a bookmark
pub start_marked : (call : Call) → marked_at (now.Open call (program_start call)) ≡ None
start_marked calls.Remove = refl
start_marked call = refl

pub closed_marked : (p : Progress) → is_open p ≡ false → marked_at p ≡ None
closed_marked now.Fresh c = refl
closed_marked now.Idle c = refl
closed_marked (now.Open call p) c = absurd (cc)
