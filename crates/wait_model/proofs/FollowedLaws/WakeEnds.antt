-- Where a call that wakes comes to its end, no entry for its watch is before its walk, or stands at all.
use Rattle.std.proofs.Common.{refl, sym, ◌∙◌, ap, subst, arith}
use Rattle.std.proofs.lemmas.Bool.{lt-ltb, ltb-true}
use Rattle.std.specs.Prelude.{ℕ, ◌≡◌, ◌<◌, Bool, true, false, if◌then◌else◌, nat_lt, Option, Some, None, List, [], ◌∷◌}
use Rattle.wait_model.specs.{declared.layout.TheConstants.ENTRIES, declared.watches.Watch.Watch}
use Rattle.wait_model.specs.{declared.watches.Entry.Entry, declared.watches.Kind.Kind, declared.watches.Aim.Aim}
use Rattle.wait_model.specs.{declared.queues.Member.Member, declared.queues.CalledEntry.CalledEntry}
use Rattle.wait_model.specs.{declared.queues.Walking.Walking, declared.queues.Walked.Walked}
use Rattle.wait_model.specs.{declared.calls.Answer.Answer, declared.calls.Call.Call, declared.calls.Event.Event}
use Rattle.wait_model.specs.{declared.points.Point.Point, declared.points.WalkPoint.WalkPoint}
use Rattle.wait_model.specs.{declared.points.PageStage.PageStage, declared.points.SelectPoint.SelectPoint}
use Rattle.wait_model.specs.{declared.points.Seen.Seen, declared.points.Planned.Planned, Tasks.meets}
use Rattle.wait_model.specs.Watches.{same, mask_of, owner}
use Rattle.wait_model.specs.Queues.{rank, is_entry, entry_from, has_members, Arrival, IsIn}
use Rattle.wait_model.specs.Points.{call_aim, call_watch, call_head, mode_of, called_task, given_at}
use Rattle.wait_model.specs.Programs.{go, reached, hands_event, call_entry, call_next, select_next, select_ends}
use Rattle.wait_model.specs.Programs.{is_enough, active_event, selected_answer}
use Rattle.wait_model.specs.Runs.{State, called_as, called_of, called_by, seen_by, event_steps, planned}
use Rattle.wait_model.specs.Followed.{is_wake, is_end, comes_to_end}
use Rattle.wait_model.specs.Reached.{IsCallSound, IsMember, IsSound}
use Rattle.wait_model.specs.declared.watches.Kind.TheVariants as kind
use Rattle.wait_model.specs.declared.watches.Mode.TheVariants as mode
use Rattle.wait_model.specs.declared.calls.Answer.TheVariants as answers
use Rattle.wait_model.specs.declared.calls.Call.TheVariants as calls
use Rattle.wait_model.specs.declared.calls.Event.TheVariants as event
use Rattle.wait_model.specs.declared.points.Point.TheVariants as at
use Rattle.wait_model.specs.declared.points.WalkPoint.TheVariants as walking
use Rattle.wait_model.specs.declared.points.PageStage.TheVariants as staging
use Rattle.wait_model.specs.declared.points.SelectPoint.TheVariants as selecting
use Rattle.wait_model.specs.declared.points.Next.TheVariants as next
use Rattle.wait_model.specs.declared.points.Progress.TheVariants as now
use Rattle.wait_model.proofs.{Sameness.same_head, Sameness.same_trans, QueueLaws.CalledFirst.not_called}
use Rattle.wait_model.proofs.{QueueLaws.FoundEntries.reach, QueueLaws.MemberStands.member_is}
use Rattle.wait_model.proofs.{QueueLaws.PlacesApart.entry_number, QueueLaws.PlacesApart.entry_inside}
use Rattle.wait_model.proofs.{QueueLaws.QueueOrder.IsFirstFrom, QueueLaws.QueueOrder.first_is}
use Rattle.wait_model.proofs.{FollowedLaws.OldWaiters.has_store, FollowedLaws.OldWaiters.peeks_store}
use Rattle.wait_model.proofs.FollowedLaws.AheadEntries.{is_walk, walks_for, IsAhead}
use Rattle.wait_model.proofs.FollowedLaws.WakePoints.{is_of_walk, is_of_selection, is_of_publisher, is_at_home}

-- a call that wakes is at a point of a walk, of a selection, or of a publisher
abbrev is_waking : Point → Bool
is_waking (at.Walk p) = true
is_waking (at.Select p) = true
is_waking at.Publish = true
is_waking at.Active = true
is_waking _ = false

of_walk : (p : Point) → is_of_walk p ≡ true → is_waking p ≡ true
of_walk (at.Walk p) h = refl
of_walk p h = absurd (cc)

of_selection : (p : Point) → is_of_selection p ≡ true → is_waking p ≡ true
of_selection (at.Select p) h = refl
of_selection p h = absurd (cc)

of_publisher : (p : Point) → is_of_publisher p ≡ true → is_waking p ≡ true
of_publisher at.Publish h = refl
of_publisher at.Active h = refl
of_publisher (at.Walk p) h = refl
of_publisher p h = absurd (cc)

waking_point : (call : Call) (p : Point) → is_wake call ≡ true → is_at_home call p ≡ true → is_waking p ≡ true
waking_point (calls.Wake c m n) p w h = of_walk p h
waking_point (calls.SimpleWake c all) p w h = of_selection p h
waking_point (calls.Complete d) p w h = of_selection p h
waking_point (calls.CompleteAll d) p w h = of_selection p h
waking_point (calls.ClearBit i b) p w h = of_publisher p h
waking_point (calls.SetVar v x) p w h = of_publisher p h
waking_point call p w h = absurd (cc)

-- one that walks calls whoever waits
walking_call : (call : Call) (p : WalkPoint) → is_wake call ≡ true → is_at_home call (at.Walk p) ≡ true
    → is_walk call ≡ true
walking_call (calls.Wake c mode.Normal n) p w h = refl
walking_call (calls.ClearBit i b) p w h = refl
walking_call (calls.SetVar v x) p w h = refl
walking_call call p w h = absurd (cc)

-- a call that goes on does not end
goes_on : (p : Point) (a : Answer) → next.Go p ≡ next.Ends a → ⊥
goes_on p a h = cc

entry_on : (aim : Aim) (w : Walking) (c : CalledEntry) (k : Kind) (seen : Seen) (hit : Bool) (a : Answer)
    → (call_entry aim w c k seen hit).next ≡ next.Ends a → ⊥
entry_on aim w c kind.Default seen hit a h = goes_on _ a h
entry_on aim w c _ seen hit a h = goes_on _ a h

hands_on : (aim : Aim) (st : PageStage) (w : Walking) (c : CalledEntry) (seen : Seen) (a : Answer)
    → (hands_event aim st w c seen).next ≡ next.Ends a → ⊥
hands_on aim staging.Try w c seen a h = goes_on _ a h
hands_on aim _ w c seen a h = goes_on _ a h

-- a walk that ended otherwise, and a selection that used up its count, did not come to their ends
not_whole : (w : Walked) (e : Event) (a : Answer) → next.Ends (answers.Walk w) ≡ next.Ends a → is_end w.end ≡ false
    → comes_to_end e a ≡ true → ⊥
not_whole w e a h other whole =
    let same : answers.Walk w ≡ a = cc in
    let z : true ≡ false = sym (subst (λ (b : Answer). comes_to_end e b ≡ true) (sym same) whole) ∙ other in cc

not_selected : (h : ℕ) (call : Call) (j : ℕ) (a : Answer) → next.Ends (selected_answer call j) ≡ next.Ends a
    → comes_to_end (event.Unlock h true) a ≡ true → ⊥
not_selected h call j a end whole =
    let same : selected_answer call j ≡ a = cc in
    by call (subst (λ (b : Answer). comes_to_end (event.Unlock h true) b ≡ true) (sym same) whole)
  where
    by : (c : Call) → comes_to_end (event.Unlock h true) (selected_answer c j) ≡ true → ⊥
    by (calls.SimpleWake c all) k = cc
    by c k = cc

untrue : false ≡ true → ⊥
untrue h = cc

none_below : (n : ℕ) → n < 0 → ⊥
none_below n h = omega arith

some_called : (entry : ℕ → Option Entry) (m : Member) (g : Entry) → entry m.at ≡ Some g
    → called_by entry (Some m) ≡ None → ⊥
some_called entry m g is h =
    let z : Some (called_of (owner m.at) g) ≡ None = sym (ap (called_as (owner m.at)) is) ∙ h in cc

empty : (q : List Member) (m : Member) → has_members q ≡ false → IsIn m q → ⊥
empty [] m h i = i
empty (x ∷ xs) m h i = cc

module _ (s : State) (n me : ℕ) (call : Call) (on : Watch) (sound : IsSound s n)
    (wakes : is_wake call ≡ true) (for_call : same on (call_watch call) ≡ true) where
  -- no entry for the watch is before the walk, and no state or entry is stored
  abbrev pub Gone : Point → Planned → Type 0
  Gone p x = ((y : ℕ) (e : Entry) → s.table.entry y ≡ Some e → same on e.watch ≡ true
      → IsAhead (s.table.mark me) (now.Open call p) on e.place → ⊥)
      × (has_store (event_steps s me (given_at call p) x.event) ≡ false)

  -- it is so where the call comes to its end
  abbrev Ends : Point → Planned → Type 0
  Ends p x = (a : Answer) → x.next ≡ next.Ends a → comes_to_end x.event a ≡ true → Gone p x

  key_of : (e : Entry) → same on e.watch ≡ true → same e.watch (call_watch call) ≡ true
  key_of e w = same_trans on e.watch (call_watch call) w ∙ for_call

  -- an entry for the watch is a member of the call's queue
  member_of : (y : ℕ) (e : Entry) → s.table.entry y ≡ Some e → same on e.watch ≡ true
      → IsIn (record { at = y; place = e.place }) (s.queue (call_head call))
  member_of y e stands watches = subst (λ (h : ℕ). IsIn (record { at = y; place = e.place }) (s.queue h))
      (same_head e.watch (call_watch call) (key_of e watches))
      (entry_inside s.table.entry s.table.mark s.queue n sound.linked y e stands)

  -- the end of a walk
  module _ (w : Walking) (k : IsCallSound n call (at.Walk (walking.Call w)))
      (home : is_at_home call (at.Walk (walking.Call w)) ≡ true) where
    abbrev r : Arrival
    r = reach s.table.entry s.table.mark s.queue n sound.linked (call_watch call) w.place w.calls k.walk.calls

    abbrev calls_on : Option CalledEntry → Planned
    calls_on o = call_next (call_aim call) (reached w r.calls) o (seen_by s me call (at.Walk (walking.Call w)))
        (meets (mask_of (mode_of call)) (s.table.task (called_task o)).state)

    walks : walks_for call on ≡ true
    walks = rw (walking_call call (walking.Call w) wakes home) for_call

    called_ends : (o : Option CalledEntry) → r.breaks ≡ false → called_by s.table.entry r.member ≡ o
        → Ends (at.Walk (walking.Call w)) (calls_on o)
    called_ends None unbroken is a end whole = (
      (λ y e stands watches ah. not_called s.table.entry s.table.mark s.queue n sound.linked (call_watch call) w.place
          w.calls k.walk.calls y e stands (key_of e watches) (ah walks) unbroken is),
      refl,
    )
    called_ends (Some d) unbroken is a end whole = absurd (entry_on (call_aim call) (reached w r.calls) d d.kind
        (seen_by s me call (at.Walk (walking.Call w))) (meets (mask_of (mode_of call)) (s.table.task d.who).state) a
        end)

    turn_ends : (b : Bool) → r.breaks ≡ b → Ends (at.Walk (walking.Call w)) (if b
        then go (event.Mark (call_head call)) (at.Walk (walking.BreakUnlock (reached w r.calls)))
        else calls_on (called_by s.table.entry (if b then None else r.member)))
    turn_ends true is a end whole = absurd (goes_on _ a end)
    turn_ends false is a end whole = called_ends (called_by s.table.entry r.member) is refl a end whole

  walk_ends : (p : WalkPoint) → IsCallSound n call (at.Walk p) → is_at_home call (at.Walk p) ≡ true
      → Ends (at.Walk p) (planned s me call (at.Walk p))
  walk_ends (walking.Call w) k home a end whole = turn_ends w k home (r w k home).breaks refl a end whole
  walk_ends (walking.Spent w) k home a end whole = absurd (not_whole _ (event.Unlock (call_head call) true) a end
      refl whole)
  walk_ends (walking.Stopped w) k home a end whole = absurd (not_whole _ (event.Unlock (call_head call) false) a end
      refl whole)
  walk_ends (walking.Page st w c) k home a end whole = absurd (hands_on (call_aim call) st w c
      (seen_by s me call (at.Walk (walking.Page st w c))) a end)
  walk_ends _ k home a end whole = absurd (goes_on _ a end)

  -- the end of a selection: no entry is left
  none_first : (o : Option Member) → IsFirstFrom is_entry 0 (s.queue (call_head call)) o
      → called_by s.table.entry o ≡ None → (y : ℕ) (e : Entry) → s.table.entry y ≡ Some e → same on e.watch ≡ true → ⊥
  none_first None f none y e stands watches =
      let small : y < ENTRIES = entry_number s.table.entry s.table.mark s.queue n sound.linked y e stands in
      let b : nat_lt y ENTRIES ≡ true = lt-ltb y ENTRIES small in
      none_below (rank (record { at = y; place = e.place }))
      (f (record { at = y; place = e.place }) (member_of y e stands watches) b)
  none_first (Some m) f none y e stands watches =
      let k : IsMember s.table.entry (call_head call) m = member_is s.table.entry s.table.mark s.queue n
      (call_head call) m
      sound.linked.ordered (ltb-true m.at ENTRIES f.1) f.0 in
      some_called s.table.entry m k.entry k.stands none

  chosen_ends : (j : ℕ) (o : Option CalledEntry)
      → called_by s.table.entry (entry_from 0 (s.queue (call_head call))) ≡ o → (hit : Bool)
      → Ends (at.Select (selecting.Next j)) (select_next call j o hit)
  chosen_ends j None is hit a end whole = (
    (λ y e stands watches ah. none_first (entry_from 0 (s.queue (call_head call)))
        (first_is is_entry 0 (s.queue (call_head call)) (sound.linked.ordered.order (call_head call))) is y e stands
        watches),
    refl,
  )
  chosen_ends j (Some c) is hit a end whole = absurd (goes_on _ a end)

  select_ended : (p : SelectPoint) → Ends (at.Select p) (planned s me call (at.Select p))
  select_ended (selecting.Next j) a end whole = by (is_enough call j) a end whole
    where
      by : (b : Bool) → Ends (at.Select (selecting.Next j)) (if b then select_ends call j true
          else select_next call j (called_by s.table.entry (entry_from 0 (s.queue (call_head call))))
          (meets (mask_of mode.Normal) (s.table.task (called_task
          (called_by s.table.entry (entry_from 0 (s.queue (call_head call)))))).state))
      by true a end whole = absurd (not_selected (call_head call) call j a end whole)
      by false a end whole = chosen_ends j (called_by s.table.entry (entry_from 0 (s.queue (call_head call)))) refl _
          a end whole
  select_ended _ a end whole = absurd (goes_on _ a end)

  -- a look without the lock that finds no member
  active_ends : (b : Bool) → has_members (s.queue (call_head call)) ≡ b → Ends at.Active (active_event call b)
  active_ends true is a end whole = absurd (goes_on _ a end)
  active_ends false is a end whole = (
    (λ y e stands watches ah. empty (s.queue (call_head call)) (record { at = y; place = e.place }) is
        (member_of y e stands watches)),
    peeks_store s.table.entry,
  )

  pub ends_gone : (p : Point) → IsCallSound n call p → is_at_home call p ≡ true → Ends p (planned s me call p)
  ends_gone (at.Walk p) k home a end whole = walk_ends p k home a end whole
  ends_gone (at.Select p) k home a end whole = select_ended p a end whole
  ends_gone at.Active k home a end whole = active_ends (has_members (s.queue (call_head call))) refl a end whole
  ends_gone at.Publish k home a end whole = absurd (goes_on _ a end)
  ends_gone p k home a end whole = absurd (untrue (waking_point call p wakes home))
