-- The entry that a walk calls is one of its watch, and stands in the queue of its head.
use Rattle.std.proofs.lemmas.Bool.Decides.{nat_tests}
use Rattle.std.proofs.Common.{refl, sym, ◌∙◌, ap, subst, arith}
use Rattle.std.specs.Prelude.{ℕ, ◌≡◌, ◌+◌, ◌<◌, ◌≤◌, Bool, true, false, if◌then◌else◌, List, Option, Some, None}
use Rattle.wait_model.specs.{declared.watches.Watch.Watch, declared.watches.Entry.Entry, declared.queues.Member.Member}
use Rattle.wait_model.specs.{declared.queues.Mark.Mark, declared.queues.CalledEntry.CalledEntry}
use Rattle.wait_model.specs.{declared.queues.Walking.Walking, declared.calls.Call.Call, declared.points.Planned.Planned}
use Rattle.wait_model.specs.Tasks.{meets}
use Rattle.wait_model.specs.declared.layout.TheConstants.{TASKS, ENTRIES, BREAK}
use Rattle.wait_model.specs.Points.{call_aim, call_head, called_task, mode_of}
use Rattle.wait_model.specs.Programs.{call_next, go, reached}
use Rattle.wait_model.specs.Runs.{State, seen_by, own, arrives_from, called_as, called_by, called_of}
use Rattle.wait_model.specs.Reached.{IsQueued, IsMember, IsLinked}
use Rattle.wait_model.specs.Watches.{same, head_of, mask_of, owner, is_for}
use Rattle.wait_model.specs.Queues.{is_entry, rank_at, members_from, Arrival, IsIn}
use Rattle.wait_model.specs.declared.calls.Event.TheVariants as event
use Rattle.wait_model.specs.declared.points.Point.TheVariants as at
use Rattle.wait_model.specs.declared.points.WalkPoint.TheVariants as walking
use Rattle.wait_model.proofs.{QueueLaws.MemberStands.member_is, WordLaws.DecodedWords.owner_own, Functions.both_left}
use Rattle.wait_model.proofs.Functions.{both_right}
use Rattle.wait_model.proofs.QueueLaws.Arrivals.{from_in, ordered_from, is_called, IsReached, arrives_in, arrives}

-- what a walk makes of the entry that it comes to; its hold breaks first, or it calls that
abbrev pub calls_on : State → ℕ → Call → Walking → Arrival → Option CalledEntry → Planned
calls_on s me call w r o = call_next (call_aim call) (reached w r.calls) o (seen_by s me call (at.Walk (walking.Call w)))
    (meets (mask_of (mode_of call)) (s.table.task (called_task o)).state)

abbrev pub breaks_or_calls : State → ℕ → Call → Walking → Arrival → Bool → Planned
breaks_or_calls s me call w r b = if b
    then go (event.Mark (call_head call)) (at.Walk (walking.BreakUnlock (reached w r.calls)))
    else calls_on s me call w r (called_by s.table.entry (if b then None else r.member))

pub record IsFoundEntry (entry : ℕ → Option Entry) (n : ℕ) (c : Watch) (d : CalledEntry) : Type 0 where
  pub it : Entry
  pub seen : d ≡ called_of d.who it
  pub queued : IsQueued n (own d.who) it
  pub number : d.who < TASKS
  pub stands : entry (own d.who) ≡ Some it
  pub head : head_of it.watch ≡ head_of c
  pub key : same it.watch c ≡ true

module _ (entry : ℕ → Option Entry) (mark : ℕ → Option Mark) (queue : ℕ → List Member) (n : ℕ)
    (l : IsLinked entry mark queue n) (c : Watch) where
  -- a member that is an entry of the watch
  found_at : (m : Member) (it : IsMember entry (head_of c) m) → is_for c (entry m.at) ≡ true
      → IsFoundEntry entry n c (called_of (owner m.at) it.entry)
  found_at m it key = record {
    it = it.entry;
    seen = refl;
    queued = subst (λ (j : ℕ). IsQueued n j it.entry) (sym there) q;
    number = subst (λ (j : ℕ). j < TASKS) (sym whose) q.number;
    stands = ap entry there ∙ it.stands;
    head = it.head;
    key = sym (ap (is_for c) it.stands) ∙ key;
  }
    where
      q : IsQueued n m.at it.entry
      q = l.entries m.at it.entry it.stands

      whose : owner m.at ≡ q.task
      whose = ap owner q.is_own ∙ owner_own q.task

      there : own (owner m.at) ≡ m.at
      there = ap own whose ∙ sym q.is_own

  -- where a walk goes on from a place, in a hold that has called so many entries
  module _ (place calls : ℕ) (few : calls ≤ BREAK + 1) where
    abbrev pub reach : Arrival
    reach = arrives_from entry c place calls (queue (head_of c))

    abbrev key : Member → Bool
    key m = is_for c (entry m.at)

    pub arrived : IsReached key (members_from (rank_at place) (queue (head_of c))) reach
    arrived = arrives key calls (members_from (rank_at place) (queue (head_of c))) few
        (ordered_from (rank_at place) (queue (head_of c)) (l.ordered.order (head_of c)))

    pub reach_calls : reach.calls ≤ BREAK + 1
    reach_calls = arrived.calls

    pub inside : (m : Member) → reach.member ≡ Some m → IsIn m (queue (head_of c))
    inside m e = (from_in (rank_at place) m (queue (head_of c))
        (arrives_in key calls (members_from (rank_at place) (queue (head_of c))) m e)).0

    -- what holds of no entry and of each entry that it may call holds of the one that it calls
    pub walk_case : (T : Option CalledEntry → Type 0) → T None
        → ((d : CalledEntry) → IsFoundEntry entry n c d → reach.calls ≤ BREAK → T (Some d)) → reach.breaks ≡ false
        → T (called_by entry reach.member)
    walk_case T none some on = by reach.member (λ m e. (inside m e, arrived.called m e on))
      where
        by : (o : Option Member) → ((m : Member) → o ≡ Some m → IsIn m (queue (head_of c))
            × ((is_called key m ≡ true) × (reach.calls ≤ BREAK))) → T (called_by entry o)
        by None f = none
        by (Some m) f =
            let i = f m refl in
            let small : m.at < ENTRIES = (let t : is_entry m ≡ true = both_left (is_entry m) (key m) i.1.0
            in grind (arith, nat_tests)) in
            let it : IsMember entry (head_of c) m = member_is entry mark queue n (head_of c) m l.ordered small i.0 in
            subst (λ (o : Option Entry). T (called_as (owner m.at) o)) (sym it.stands)
            (some (called_of (owner m.at) it.entry)
            (found_at m it (both_right (is_entry m) (key m) i.1.0)) i.1.1)
