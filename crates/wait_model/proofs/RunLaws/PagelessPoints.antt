-- Outside locks of pages, and outside the stages in which a walk hands a page, no event takes a page for a task, and
-- the program does not come to those places.
use Rattle.std.proofs.Common.{refl, sym}
use Rattle.std.specs.Prelude.{ℕ, ◌≡◌, Bool, true, false, if◌then◌else◌, Option, Some, None}
use Rattle.wait_model.specs.{declared.queues.CalledEntry.CalledEntry, declared.calls.Call.Call}
use Rattle.wait_model.specs.{declared.calls.Event.Event, declared.points.Point.Point, declared.points.Planned.Planned}
use Rattle.wait_model.specs.{declared.points.Next.Next, declared.points.Seen.Seen, Tasks.meets, Watches.mask_of}
use Rattle.wait_model.specs.{Points.call_aim, Points.mode_of, declared.queues.Walking.Walking}
use Rattle.wait_model.specs.{declared.watches.Kind.Kind, declared.points.WalkPoint.WalkPoint}
use Rattle.wait_model.specs.Programs.{program, go, call_fails, load, call_entry, call_next, walk_event, onward, past}
use Rattle.wait_model.specs.Programs.{wake_off_event, reached}
use Rattle.wait_model.specs.declared.calls.Event.TheVariants as event
use Rattle.wait_model.specs.declared.points.Point.TheVariants as at
use Rattle.wait_model.specs.declared.points.WalkPoint.TheVariants as walking
use Rattle.wait_model.specs.declared.points.Next.TheVariants as next
use Rattle.wait_model.specs.declared.points.PagePoint.TheVariants as paging
use Rattle.wait_model.specs.declared.watches.Kind.TheVariants as kind
use Rattle.wait_model.specs.declared.points.PageStage.TheVariants as staging
use Rattle.wait_model.proofs.WaitLaws.OutsideStages.{either}
use Rattle.wait_model.proofs.QueueLaws.OutsideWalks.{IsPlainEvent, goes_plain, IsPlain, program_plain}

-- the events that take no page for a task
abbrev pub IsSober : Event → Type 0
IsSober (event.TasFor p who found) = ⊥
IsSober _ = Unit {0}

abbrev pub IsElsewhere : Point → Type 0
IsElsewhere (at.Page p) = ⊥
IsElsewhere (at.Walk (walking.Page st w c)) = ⊥
IsElsewhere _ = Unit {0}

-- the places at which something is known of a page that was taken, but for the one at which a walk is about to try it
abbrev pub enters_page : Next → Bool
enters_page (next.Go (at.Page paging.Lock)) = true
enters_page (next.Go (at.Page paging.Queue)) = true
enters_page (next.Go (at.Walk (walking.Page staging.Hand w c))) = true
enters_page (next.Go (at.Walk (walking.Page staging.Wake w c))) = true
enters_page (next.Go (at.Walk (walking.Page staging.Off w c))) = true
enters_page _ = false

pub record IsApart (x : Planned) : Type 0 where
  pub event : IsSober x.event
  pub next : enters_page x.next ≡ false

sober : (e : Event) → IsPlainEvent e → IsSober e
sober (event.TasFor p who found) u = u
sober e u = tt

stays_apart : (n : Next) → goes_plain n ≡ true → enters_page n ≡ false
stays_apart (next.Go (at.Page paging.Lock)) h = sym h
stays_apart (next.Go (at.Page paging.Queue)) h = sym h
stays_apart (next.Go (at.Walk (walking.Page st w c))) h = absurd (cc)
stays_apart n h = refl

plain_apart : (x : Planned) → IsPlain x → IsApart x
plain_apart x h = record { event = sober x.event h.event; next = stays_apart x.next h.next }

module _ (call : Call) (me : ℕ) (seen : Seen) where
  -- walks, but for the stages of a page
  onward_apart : (w : Walking) (e : Event) → IsSober e → IsApart (go e (onward w))
  onward_apart w e u = either (λ (p : Point). IsApart (go e p)) w.spent (at.Walk (walking.Spent w)) (at.Walk (walking.Call w))
      (record { event = u; next = refl }) (record { event = u; next = refl })

  off_apart : (w : Walking) (c : CalledEntry) (hit : Bool) → IsApart (wake_off_event w c hit)
  off_apart w c true = record { event = tt; next = refl }
  off_apart w c false = record { event = tt; next = refl }

  tested_apart : (b : Bool) (e : Event) (p q : WalkPoint) → IsSober e → enters_page (next.Go (at.Walk p)) ≡ false
      → enters_page (next.Go (at.Walk q)) ≡ false → IsApart (go e (at.Walk (if b then p else q)))
  tested_apart true e p q u h k = record { event = u; next = h }
  tested_apart false e p q u h k = record { event = u; next = k }

  entry_apart : (w : Walking) (c : CalledEntry) (k : Kind) (hit : Bool)
      → IsApart (call_entry (call_aim call) w c k seen hit)
  entry_apart w c kind.Default hit = onward_apart (past w c hit) (event.Wake c.who hit) tt
  entry_apart w c kind.Autoremove hit = off_apart w c hit
  entry_apart w c kind.Woken hit = record { event = tt; next = refl }
  entry_apart w c kind.Bit hit = tested_apart (call_fails call seen) (load call seen)
      (walking.Call (past w c false)) (walking.Bit w c) tt refl refl
  entry_apart w c kind.Var hit = off_apart w c hit
  entry_apart w c kind.Simple hit = onward_apart (past w c hit) (event.Wake c.who hit) tt
  entry_apart w c kind.Page hit = tested_apart (call_fails call seen) (load call seen) (walking.Stopped w)
      (walking.Page staging.Try w c) tt refl refl

  next_apart : (w : Walking) (o : Option CalledEntry) (hit : Bool)
      → IsApart (call_next (call_aim call) w o seen hit)
  next_apart w None hit = record { event = tt; next = refl }
  next_apart w (Some c) hit = entry_apart w c c.kind hit

  walk_apart : (p : WalkPoint) → IsElsewhere (at.Walk p) → IsApart (walk_event (call_aim call) p seen)
  walk_apart (walking.Call w) o = either IsApart seen.breaks _ _ (record { event = tt; next = refl })
      (next_apart (reached w seen.calls) seen.called (meets (mask_of (mode_of call)) seen.other.state))
  walk_apart (walking.Wake w c) o = onward_apart (past w c (meets (mask_of (mode_of call)) seen.other.state))
      (event.Wake c.who (meets (mask_of (mode_of call)) seen.other.state)) tt
  walk_apart (walking.Bit w c) o = off_apart w c (meets (mask_of (mode_of call)) seen.other.state)
  walk_apart (walking.Page st w c) o = absurd o
  walk_apart (walking.Unqueue w who) o = onward_apart w (event.Unqueue who) tt
  walk_apart _ o = record { event = tt; next = refl }

  -- each event of a program outside locks of pages, and outside the stages in which a walk hands one
  pub program_apart : (p : Point) → IsElsewhere p → IsApart (program me call p seen)
  program_apart (at.Page p) o = absurd o
  program_apart (at.Walk p) o = walk_apart p o
  program_apart p o = plain_apart (program me call p seen) (program_plain call me seen p tt)
