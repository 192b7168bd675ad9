-- Accounts follow runs: turns that a signal ends, whom a walk has selected, and the signals of each task.
use Rattle.std.proofs.lemmas.Bool.{both_ways}
use Rattle.std.proofs.lemmas.Bool.Decides.{nat_tests, eqb_tells}
use Rattle.std.proofs.Common.{refl, sym, ◌∙◌, ap, subst, arith, inl, inr}
use Rattle.std.specs.Prelude.{ℕ, ◌≡◌, ◌≢◌, ◌+◌, ◌-◌, ◌<◌, ◌⊎◌, Bool, true, false, not, ◌&&◌, ◌==◌, if◌then◌else◌}
use Rattle.std.specs.Prelude.{is_some, nat_le, nat_lt, List, [], ◌∷◌, Option, Some, None}
use Rattle.wait_model.specs.{declared.layout.TheConstants.ENTRIES, declared.layout.TheConstants.BREAK}
use Rattle.wait_model.specs.{declared.calls.Call.Call, declared.calls.Event.Event, declared.queues.Walking.Walking}
use Rattle.wait_model.specs.{declared.queues.CalledEntry.CalledEntry, declared.queues.Member.Member}
use Rattle.wait_model.specs.{declared.watches.Kind.Kind, declared.watches.Entry.Entry, declared.points.Point.Point}
use Rattle.wait_model.specs.{declared.points.WalkPoint.WalkPoint, declared.points.Seen.Seen}
use Rattle.wait_model.specs.{declared.points.Planned.Planned, declared.points.Progress.Progress, Tables.value_of}
use Rattle.wait_model.specs.{declared.queues.Mark.Mark, Selections.IsSignalledTurn, Selections.signalled_hold}
use Rattle.wait_model.specs.declared.points.PagePoint.{PagePoint}
use Rattle.wait_model.specs.Tasks.{meets, pending, sleep_of, state_mask, looks_in}
use Rattle.wait_model.specs.Watches.{owner, mask_of, is_for, is_page}
use Rattle.wait_model.specs.Points.{call_aim, call_watch, call_number, call_head, is_await, is_bit_wait, is_lock}
use Rattle.wait_model.specs.Points.{state_in, mode_of, count_of, called_task}
use Rattle.wait_model.specs.Programs.{program_start, signalled_at, prepared_at, slept_at, is_at_end, is_enough}
use Rattle.wait_model.specs.Programs.{select_next, await_after, look_event, past, onward, wake_event, wake_off_event}
use Rattle.wait_model.specs.Programs.{call_entry, call_next, reached, resumed, call_fails, ask, acted, finished}
use Rattle.wait_model.specs.Programs.{publishing_event, active_event, page_queue, page_last}
use Rattle.wait_model.specs.Queues.{rank, rank_at, is_entry, members_from, arrive, IsIn}
use Rattle.wait_model.specs.Runs.{State, own, called_member, called_as, called_by, called_of, seen_by, planned}
use Rattle.wait_model.specs.Runs.{progress_at}
use Rattle.wait_model.specs.Reached.{IsFitted, IsMember, IsQueued, IsPlaced, IsFlagged, IsSound}
use Rattle.wait_model.specs.Accounts.{is_exclusive_entry, one_if, event_selects, is_woken_exclusive}
use Rattle.wait_model.specs.declared.calls.Call.TheVariants as calls
use Rattle.wait_model.specs.declared.calls.Event.TheVariants as event
use Rattle.wait_model.specs.declared.watches.Kind.TheVariants as kind
use Rattle.wait_model.specs.declared.points.Point.TheVariants as at
use Rattle.wait_model.specs.declared.points.PreparePoint.TheVariants as preparing
use Rattle.wait_model.specs.declared.points.LeavePoint.TheVariants as leaving
use Rattle.wait_model.specs.declared.points.FinishPoint.TheVariants as finishing
use Rattle.wait_model.specs.declared.points.WalkPoint.TheVariants as walking
use Rattle.wait_model.specs.declared.points.AddPoint.TheVariants as adding
use Rattle.wait_model.specs.declared.points.RemovePoint.TheVariants as removing
use Rattle.wait_model.specs.declared.points.WokenPoint.TheVariants as hearing
use Rattle.wait_model.specs.declared.points.SelectPoint.TheVariants as selecting
use Rattle.wait_model.specs.declared.points.AwaitPoint.TheVariants as awaiting
use Rattle.wait_model.specs.declared.points.CountPoint.TheVariants as counting
use Rattle.wait_model.specs.declared.points.BitPoint.TheVariants as biting
use Rattle.wait_model.specs.declared.points.Progress.TheVariants as now
use Rattle.wait_model.proofs.{QueueLaws.MemberStands.member_is, WordLaws.DecodedWords.owner_own}
use Rattle.wait_model.proofs.WaitLaws.OutsideStages.{either, both, unset, is_aside, aside_step}
use Rattle.wait_model.specs.declared.points.PagePoint.TheVariants as paging
use Rattle.wait_model.specs.declared.points.PageStage.TheVariants as staging

-- what a task's latest events are where it looks for a signal: it took the lock, and a wait for a completion
-- loaded the done count as 0
abbrev pub IsLooking : Call → List Event → Type 0
IsLooking call trail =
    ((is_await call ≡ false) × (rest : List Event) × (trail ≡ event.Lock (call_head call) ∷ rest))
    ⊎ ((is_await call ≡ true) × (rest : List Event)
    × (trail ≡ event.Load (call_number call) 0 ∷ event.Lock (call_head call) ∷ rest))

-- what a task's latest events are at the places of a signalled turn
abbrev pub IsTurn : Call → Point → ℕ → List Event → Type 0
IsTurn call (at.Prepare preparing.Look) me trail = IsLooking call trail
IsTurn call (at.Await (awaiting.Load waited)) me trail = (rest : List Event)
    × (trail ≡ event.Lock (call_head call) ∷ rest)
IsTurn call (at.Await (awaiting.Run true)) me trail = (rest : List Event)
    × (trail ≡ event.Look true ∷ event.Load (call_number call) 0 ∷ event.Lock (call_head call) ∷ rest)
IsTurn call (at.Await (awaiting.Off true)) me trail = (rest : List Event)
    × (trail ≡ signalled_hold (call_head call) (call_number call) rest)
IsTurn call (at.Await (awaiting.Last true)) me trail = (rest : List Event)
    × (trail ≡ event.Unqueue me ∷ signalled_hold (call_head call) (call_number call) rest)
IsTurn call (at.Leave leaving.Queue) me trail = (rest : List Event)
    × (trail ≡ event.Look true ∷ event.Lock (call_head call) ∷ rest)
IsTurn call (at.Leave leaving.Unlock) me trail = (rest : List Event)
    × (trail ≡ event.Unqueue me ∷ event.Look true ∷ event.Lock (call_head call) ∷ rest)
IsTurn call (at.Leave leaving.Load) me trail = IsSignalledTurn me (call_head call) trail
IsTurn call _ me trail = Unit {0}

abbrev pub TurnAt : Progress → ℕ → List Event → Type 0
TurnAt (now.Open call p) me trail = IsTurn call p me trail
TurnAt now.Idle me trail = Unit {0}
TurnAt now.Fresh me trail = Unit {0}

module _ (s : State) (me : ℕ) (call : Call) (trail : List Event) where
  -- after an event, at the place to which it leads
  abbrev T : Planned → Type 0
  T x = TurnAt (progress_at call x.next) me (x.event ∷ trail)

  abbrev Led : Event → Point → Type 0
  Led e q = IsTurn call q me (e ∷ trail)

  turn_signalled : (c : Call) → IsLooking c trail → IsTurn c (signalled_at c) me (event.Look true ∷ trail)
  turn_signalled (calls.WaitFor d st) (inl h) = absurd (both_ways true h.0 refl)
  turn_signalled (calls.WaitFor d st) (inr h) = (h.1, ap (λ l. event.Look true ∷ l) h.2)
  turn_signalled calls.Remove (inl h) = (h.1, ap (λ l. event.Look true ∷ l) h.2)
  turn_signalled calls.Remove (inr h) = absurd (both_ways false refl h.0)
  turn_signalled c (inl h) = (h.1, ap (λ l. event.Look true ∷ l) h.2)
  turn_signalled c (inr h) = absurd (both_ways false refl h.0)

  turn_prepared : (c : Call) (l : List Event) → IsTurn c (prepared_at c) me l
  turn_prepared (calls.WaitFor d st) l = tt
  turn_prepared c l = tt

  turn_slept : (c : Call) (l : List Event) → IsTurn c (slept_at c) me l
  turn_slept (calls.WaitFor d st) l = tt
  turn_slept c l = tt

  -- the places aside of a wait's turns say nothing of them
  turn_aside : (q : Point) (e : Event) → is_aside q ≡ true → Led e q
  turn_aside (at.Prepare preparing.Lock) e h = tt
  turn_aside (at.Await (awaiting.Run false)) e h = tt
  turn_aside (at.Await (awaiting.Off false)) e h = tt
  turn_aside (at.Await (awaiting.Last false)) e h = tt
  turn_aside q e h = grind arith

  -- the load of a wait for a completion in its hold
  turn_load : (waited zero : Bool) (v : ℕ) → (v == 0) ≡ zero → is_await call ≡ true
      → (rest : List Event) → trail ≡ event.Lock (call_head call) ∷ rest
      → IsTurn call (await_after call waited zero) me (event.Load (call_number call) v ∷ trail)
  turn_load waited true v z w rest h = either (λ q. Led (event.Load (call_number call) v) (at.Prepare q))
      (not (is_bit_wait call) && looks_in (state_in call)) preparing.Look preparing.Queue
      (inr (
        w,
        rest,
        ap (λ (k : ℕ). event.Load (call_number call) k ∷ trail) zero_is
            ∙ ap (λ l. event.Load (call_number call) 0 ∷ l) h,
      )) tt
    where
      zero_is : v ≡ 0
      zero_is = grind (arith, nat_tests, z)
  turn_load true false v z w rest h = tt
  turn_load false false v z w rest h = tt

  turn_finished : (failed : Bool) (e : Event) → T (finished call failed e)
  turn_finished failed e = either T (failed && is_lock call) _ _ tt tt

  pub turn_step : (p : Point) → IsFitted call p → IsTurn call p me trail → T (planned s me call p)
  turn_step (at.Prepare preparing.Lock) f h = either (λ q. Led (event.Lock (call_head call)) (at.Prepare q))
      (not (is_bit_wait call) && looks_in (state_in call)) preparing.Look preparing.Queue (inl (f, trail, refl)) tt
  turn_step (at.Prepare preparing.Look) f h = both (λ b. T (look_event call b))
      (pending (state_mask (state_in call)) (s.table.task me)) (turn_signalled call h) tt
  turn_step (at.Prepare preparing.Queue) f h = either T (is_some (s.table.entry (own me))) _ _ tt tt
  turn_step (at.Prepare preparing.State) f h = tt
  turn_step (at.Prepare preparing.Unlock) f h = turn_prepared call (event.Unlock (call_head call) false ∷ trail)
  turn_step at.Test f h = either (Led (event.Load (call_number call) (value_of s.table.words (call_watch call))))
      (unset s call) _ _ tt tt
  turn_step at.Sleep f h = turn_slept call (event.Sleep (sleep_of (s.table.task me)) ∷ trail)
  turn_step (at.Leave leaving.Queue) f h = either T (is_some (s.table.entry (own me))) _ _
      (h.0, ap (λ l. event.Unqueue me ∷ l) h.1)
      (record { earlier = h.0; turn = inl (ap (λ l. event.Unlock (call_head call) false ∷ l) h.1) })
  turn_step (at.Leave leaving.Unlock) f h = record {
    earlier = h.0;
    turn = inr (ap (λ l. event.Unlock (call_head call) false ∷ l) h.1);
  }
  turn_step (at.Finish finishing.Look true) f h = either T (is_some (s.table.entry (own me))) _ _ tt
      (turn_finished true _)
  turn_step (at.Finish finishing.Queue true) f h = either T (is_some (s.table.entry (own me))) _ _ tt
      (turn_finished true _)
  turn_step (at.Finish finishing.Unlock true) f h = turn_finished true _
  turn_step (at.Bit biting.Look) f h = both
      (λ b. IsTurn call (acted call b) me (event.Look b ∷ trail))
      (pending (state_mask (state_in call)) (s.table.task me)) (either
      (λ q. IsTurn call q me (event.Look true ∷ trail)) (is_lock call) _ _ tt tt) tt
  turn_step (at.Bit (biting.Again failed)) f h = either
      (Led (ask call (seen_by s me call (at.Bit (biting.Again failed))))) (unset s call && not failed) _ _ tt tt
  turn_step (at.Await (awaiting.Lock waited)) f h = (trail, refl)
  turn_step (at.Await (awaiting.Load waited)) f h = turn_load waited (value_of s.table.words (call_watch call) == 0)
      (value_of s.table.words (call_watch call)) refl f h.0 h.1
  turn_step (at.Await (awaiting.Run true)) f h = (h.0, ap (λ l. event.State 0 ∷ l) h.1)
  turn_step (at.Await (awaiting.Off true)) f h = either T (is_some (s.table.entry (own me))) _ _
      (h.0, ap (λ l. event.Unqueue me ∷ l) h.1) tt
  turn_step (at.Await (awaiting.Run false)) f h = aside_step s me call T (λ e a. tt) (λ e q. turn_aside q e)
      (at.Await (awaiting.Run false)) tt
  turn_step (at.Await (awaiting.Off false)) f h = aside_step s me call T (λ e a. tt) (λ e q. turn_aside q e)
      (at.Await (awaiting.Off false)) tt
  turn_step p f h = grind arith

-- the member that a walk calls is an entry of the queue
abbrev IsCalled : List Member → Option Member → Type 0
IsCalled q None = Unit {0}
IsCalled q (Some m) = IsIn m q × (is_entry m ≡ true)

called_later : (m : Member) (ms : List Member) (o : Option Member) → IsCalled ms o → IsCalled (m ∷ ms) o
called_later m ms None i = tt
called_later m ms (Some x) i = (inr i.0, i.1)

module _ (key : Member → Bool) (least : ℕ) where
  called_here : (calls : ℕ) (m : Member) (q ms : List Member) (a b d : Bool) → is_entry m ≡ b
      → ((n : ℕ) → IsCalled q (called_member (arrive key n ms)))
      → IsCalled (m ∷ q) (called_member (if a then record { calls = calls; member = Some m; breaks = true }
      else if b && d then record { calls = calls; member = Some m; breaks = false }
      else arrive key (if b then calls + 1 else calls) ms))
  called_here calls m q ms true b d e h = tt
  called_here calls m q ms false true true e h = (inl refl, e)
  called_here calls m q ms false true false e h = called_later m q _ (h (calls + 1))
  called_here calls m q ms false false d e h = called_later m q _ (h calls)

  from_here : (m : Member) (q ms : List Member) (b : Bool) (n : ℕ)
      → ((k : ℕ) → IsCalled q (called_member (arrive key k ms)))
      → IsCalled (m ∷ q) (called_member (arrive key n (if b then m ∷ ms else ms)))
  from_here m q ms true n h = called_here n m q ms (nat_lt BREAK n) (is_entry m) (key m) refl h
  from_here m q ms false n h = called_later m q _ (h n)

  arrived : (calls : ℕ) (q : List Member) → IsCalled q (called_member (arrive key calls (members_from least q)))
  arrived calls [] = tt
  arrived calls (m ∷ q) = from_here m q (members_from least q) (nat_le least (rank m)) calls (λ n. arrived n q)

-- what is left of a walk's count, with what it has selected, is the count
abbrev pub IsSum : Call → Walking → Type 0
IsSum call w = (count_of call ≡ 0) ⊎ (w.selected + w.left ≡ count_of call)

abbrev pub IsOn : Call → Walking → Type 0
IsOn call w = (count_of call ≡ 0) ⊎ ((w.selected + w.left ≡ count_of call) × (0 < w.left))

abbrev pub IsAfterCall : Call → Walking → Type 0
IsAfterCall call w = (count_of call ≡ 0) ⊎ ((w.selected + w.left ≡ count_of call) × (w.spent ≡ false → 0 < w.left))

abbrev pub IsChosen : Call → Point → ℕ → Type 0
IsChosen call at.Publish k = k ≡ 0
IsChosen call at.Active k = k ≡ 0
IsChosen call (at.Walk walking.Lock) k = k ≡ 0
IsChosen call (at.Walk (walking.Call w)) k = (k ≡ w.selected) × IsOn call w
IsChosen call (at.Walk (walking.Wake w c)) k = (k ≡ w.selected) × IsOn call w × (is_page c.kind ≡ false)
IsChosen call (at.Walk (walking.Bit w c)) k = (k ≡ w.selected) × IsOn call w × (is_page c.kind ≡ false)
IsChosen call (at.Walk (walking.Page staging.Try w c)) k = (k ≡ w.selected) × IsOn call w × (c.kind ≡ kind.Page)
IsChosen call (at.Walk (walking.Page staging.Hand w c)) k = (k ≡ w.selected) × IsOn call w × (c.kind ≡ kind.Page)
IsChosen call (at.Walk (walking.Page staging.Wake w c)) k = (k ≡ (past w c true).selected)
    × IsAfterCall call (past w c true) × (c.kind ≡ kind.Page)
IsChosen call (at.Walk (walking.Page staging.Off w c)) k = (k ≡ (past w c true).selected)
    × IsAfterCall call (past w c true)
IsChosen call (at.Walk (walking.Stopped w)) k = (k ≡ w.selected) × IsOn call w
IsChosen call (at.Walk (walking.Unqueue w who)) k = (k ≡ w.selected) × IsAfterCall call w
IsChosen call (at.Walk (walking.Spent w)) k = (k ≡ w.selected) × IsSum call w
IsChosen call (at.Walk (walking.BreakUnlock w)) k = (k ≡ w.selected) × IsOn call w
IsChosen call (at.Walk (walking.BreakLock w)) k = (k ≡ w.selected) × IsOn call w
IsChosen call (at.Walk (walking.Unmark w)) k = (k ≡ w.selected) × IsOn call w
IsChosen call _ k = Unit {0}

abbrev pub ChosenAt : Progress → ℕ → Type 0
ChosenAt (now.Open call p) k = IsChosen call p k
ChosenAt now.Idle k = Unit {0}
ChosenAt now.Fresh k = Unit {0}

module _ (call : Call) where
  -- the count after one more entry
  pub after_past : (w : Walking) (c : CalledEntry) (hit : Bool) → IsOn call w → IsAfterCall call (past w c hit)
  after_past w c hit (inl z) = inl z
  after_past w c hit (inr on) = by hit c.exclusive
    where
      by : (a b : Bool) → IsAfterCall call (record {
        place = c.place + 1;
        woken = if a then w.woken + 1
            else w.woken;
        selected = if a && b then w.selected + 1 else w.selected;
        left = if a && b then w.left - 1 else w.left;
        spent = (a && b) && (w.left == 1);
        calls = w.calls + 1;
        holds = w.holds;
      })
      by true true = inr (
        omega (arith, on.0, on.1),
        λ sp. let ne : w.left ≢ 1 = grind (arith, nat_tests, sp)
            in omega (arith, on.1),
      )
      by true false = inr (on.0, λ sp. on.1)
      by false b = inr (on.0, λ sp. on.1)

  pub after_sum : (w : Walking) → IsAfterCall call w → IsSum call w
  after_sum w (inl z) = inl z
  after_sum w (inr b) = inr b.0

  pub after_on : (w : Walking) → IsAfterCall call w → w.spent ≡ false → IsOn call w
  after_on w (inl z) sp = inl z
  after_on w (inr b) sp = inr (b.0, b.1 sp)

  pub on_sum : (w : Walking) → IsOn call w → IsSum call w
  on_sum w (inl z) = inl z
  on_sum w (inr b) = inr b.0

  -- what the walk's number of selections is after one more entry
  pub chosen_past : (w : Walking) (c : CalledEntry) (hit : Bool) (k : ℕ) (x : Bool) → x ≡ c.exclusive
      → k ≡ w.selected → k + one_if (hit && x) ≡ (past w c hit).selected
  chosen_past w c hit k x is e = by hit x c.exclusive is
    where
      by : (a b d : Bool) → b ≡ d → k + one_if (a && b) ≡ (if a && d then w.selected + 1 else w.selected)
      by true true true s = omega (arith, e)
      by true false false s = omega (arith, e)
      by false b d s = omega (arith, e)
      by true true false s = absurd (cc)
      by true false true s = absurd (cc)

  -- where the walk goes on
  pub onward_chosen : (w : Walking) (k : ℕ) → k ≡ w.selected → IsAfterCall call w → IsChosen call (onward w) k
  onward_chosen w k e b = by w.spent refl
    where
      by : (sp : Bool) → w.spent ≡ sp → IsChosen call (if sp then at.Walk (walking.Spent w)
          else at.Walk (walking.Call w)) k
      by true z = (e, after_sum w b)
      by false z = (e, after_on w b z)

module _ (s : State) (n me : ℕ) (call : Call) (k : ℕ) (sound : IsSound s n) where
  abbrev C : Planned → Type 0
  C x = ChosenAt (progress_at call x.next) (k + event_selects s x.event)

  module _ (w : Walking) (c : CalledEntry) (hit : Bool) (e : k ≡ w.selected) (on : IsOn call w)
      (is : is_woken_exclusive (s.table.entry (own c.who)) ≡ c.exclusive) where
    number : k + one_if (hit && is_woken_exclusive (s.table.entry (own c.who))) ≡ (past w c hit).selected
    number = chosen_past call w c hit k _ is e

    pub wakes_chosen : C (wake_event w c hit)
    wakes_chosen = onward_chosen call (past w c hit) _ number (after_past call w c hit on)

    off_chosen : C (wake_off_event w c hit)
    off_chosen = by hit number (after_past call w c hit on)
      where
        by : (b : Bool) → k + one_if (b && is_woken_exclusive (s.table.entry (own c.who)))
            ≡ (past w c b).selected → IsAfterCall call (past w c b) → C (wake_off_event w c b)
        by true num b = (num, b)
        by false num b = (num, on)

  module _ (w : Walking) (c : CalledEntry) (hit : Bool) (e : k ≡ w.selected) (on : IsOn call w)
      (is : is_page c.kind ≡ false → is_woken_exclusive (s.table.entry (own c.who)) ≡ c.exclusive) where
    entry_chosen : (j : Kind) → c.kind ≡ j → (seen : Seen) → C (call_entry (call_aim call) w c j seen hit)
    entry_chosen kind.Autoremove q seen = off_chosen w c hit e on (is (ap is_page q))
    entry_chosen kind.Var q seen = off_chosen w c hit e on (is (ap is_page q))
    entry_chosen kind.Woken q seen = (omega (arith, e), on, ap is_page q)
    entry_chosen kind.Bit q seen = either (λ (p : WalkPoint). IsChosen call (at.Walk p) (k + 0))
        (call_fails call seen) _ _
        (omega (arith, e), on) (omega (arith, e), on, ap is_page q)
    entry_chosen kind.Page q seen = either (λ (p : WalkPoint). IsChosen call (at.Walk p) (k + 0))
        (call_fails call seen) _ _
        (omega (arith, e), on) (omega (arith, e), on, q)
    entry_chosen kind.Default q seen = wakes_chosen w c hit e on (is (ap is_page q))
    entry_chosen kind.Simple q seen = wakes_chosen w c hit e on (is (ap is_page q))

  both_plain : (a b : Bool) → b ≡ false → (a && not b) ≡ a
  both_plain true false h = refl
  both_plain true true h = absurd (cc)
  both_plain false b h = refl

  both_paged : (a b : Bool) → b ≡ true → (a && not b) ≡ false
  both_paged true true h = refl
  both_paged true false h = absurd (cc)
  both_paged false b h = refl

  exclusive_is : (who : ℕ) (d : Entry) → s.table.entry (own who) ≡ Some d → is_page d.kind ≡ false
      → is_woken_exclusive (s.table.entry (own who)) ≡ d.exclusive
  exclusive_is who d h np = ap is_woken_exclusive h ∙ both_plain d.exclusive (is_page d.kind) np

  -- the wake after a hand-off selects nobody more
  none_more : (j : ℕ) (a x : Bool) → x ≡ false → j + one_if (a && x) ≡ j
  none_more j true false h = omega arith
  none_more j true true h = absurd (cc)
  none_more j false x h = omega arith

  -- the entry of the next member
  next_chosen : (w : Walking) (m : Option Member) (seen : Seen) → k ≡ w.selected → IsOn call w
      → IsCalled (s.queue (call_head call)) m
      → C (call_next (call_aim call) w (called_by s.table.entry m) seen
      (meets (mask_of (mode_of call)) (s.table.task (called_task (called_by s.table.entry m))).state))
  next_chosen w None seen e on f = tt
  next_chosen w (Some m) seen e on f =
      let small : m.at < ENTRIES = (let t : is_entry m ≡ true = f.1 in grind (arith, nat_tests)) in
      let it : IsMember s.table.entry (call_head call) m =
      member_is s.table.entry s.table.mark s.queue n (call_head call) m sound.linked.ordered small f.0 in
      let q : IsQueued n m.at it.entry = sound.linked.entries m.at it.entry it.stands in
      let whose : owner m.at ≡ q.task = ap owner q.is_own ∙ owner_own q.task in
      let there : s.table.entry (own (owner m.at)) ≡ Some it.entry = ap (λ (j : ℕ). s.table.entry (own j)) whose
      ∙ ap s.table.entry (sym q.is_own) ∙ it.stands in
      subst (λ (o : Option Entry). C (call_next (call_aim call) w (called_as (owner m.at) o) seen
      (meets (mask_of (mode_of call)) (s.table.task (called_task (called_as (owner m.at) o))).state)))
      (sym it.stands) (entry_chosen w (called_of (owner m.at) it.entry) _ e on
      (exclusive_is (owner m.at) it.entry there) it.entry.kind refl seen)

  start_on : (count_of call ≡ 0) ⊎ ((0 + count_of call ≡ count_of call) × (0 < count_of call))
  start_on = elim (eqb_tells (count_of call) 0) [
    | inl z ↦ inl z.1
    | inr z ↦ let ne : count_of call ≢ 0 = z.1 in inr (omega arith, omega arith)
  ]

  walk_chosen : (p : WalkPoint) → IsPlaced s.table.entry (s.table.view me) me (now.Open call (at.Walk p))
      → IsChosen call (at.Walk p) k → C (planned s me call (at.Walk p))
  walk_chosen walking.Lock pl h = (omega (arith, h), start_on)
  walk_chosen (walking.Call w) pl h = either C (seen_by s me call (at.Walk (walking.Call w))).breaks _ _
      (omega (arith, h.0), h.1)
      (next_chosen (reached w (seen_by s me call (at.Walk (walking.Call w))).calls)
      (called_member (arrive key w.calls (members_from (rank_at w.place) (s.queue (call_head call)))))
      (seen_by s me call (at.Walk (walking.Call w))) h.0 h.1
      (arrived key (rank_at w.place) w.calls (s.queue (call_head call))))
    where
      key : Member → Bool
      key m = is_for (call_watch call) (s.table.entry m.at)
  walk_chosen (walking.Bit w c) pl h =
      let t : IsFlagged s.table.entry c (Some (call_head call)) (call_watch call) = pl.flagged c refl in
      off_chosen w c _ h.0 h.1 (exclusive_is c.who t.it t.stands
      (ap (λ (d : CalledEntry). is_page d.kind) (sym t.seen) ∙ h.2)
      ∙ sym (ap (λ (d : CalledEntry). d.exclusive) t.seen))
  walk_chosen (walking.Wake w c) pl h =
      let t : IsFlagged s.table.entry c (Some (call_head call)) (call_watch call) = pl.flagged c refl in
      wakes_chosen w c _ h.0 h.1 (exclusive_is c.who t.it t.stands
      (ap (λ (d : CalledEntry). is_page d.kind) (sym t.seen) ∙ h.2)
      ∙ sym (ap (λ (d : CalledEntry). d.exclusive) t.seen))
  walk_chosen (walking.Page staging.Try w c) pl h = either (λ (p : WalkPoint). IsChosen call (at.Walk p) (k + 0))
      (unset s call) _ _ (omega (arith, h.0), h.1) (omega (arith, h.0), h.1, h.2)
  walk_chosen (walking.Page staging.Hand w c) pl h =
      let t : IsFlagged s.table.entry c (Some (call_head call)) (call_watch call) = pl.flagged c refl in (
        chosen_past call w c true k _
            (ap is_exclusive_entry t.stands ∙ sym (ap (λ (d : CalledEntry). d.exclusive) t.seen)) h.0,
        after_past call w c true h.1,
        h.2,
      )
  walk_chosen (walking.Page staging.Wake w c) pl h =
      let t : IsFlagged s.table.entry c (Some (call_head call)) (call_watch call) = pl.flagged c refl in (
        none_more k _ _ (ap is_woken_exclusive t.stands ∙ both_paged t.it.exclusive (is_page t.it.kind)
            (ap (λ (d : CalledEntry). is_page d.kind) (sym t.seen) ∙ ap is_page h.2)) ∙ h.0,
        h.1,
      )
  walk_chosen (walking.Page staging.Off w c) pl h = onward_chosen call (past w c true) _ (omega (arith, h.0)) h.1
  walk_chosen (walking.Stopped w) pl h = tt
  walk_chosen (walking.Unqueue w who) pl h = onward_chosen call w _ (omega (arith, h.0)) h.1
  walk_chosen (walking.Spent w) pl h = tt
  walk_chosen (walking.BreakUnlock w) pl h = (omega (arith, h.0), h.1)
  walk_chosen (walking.BreakLock w) pl h = (omega (arith, h.0), h.1)
  walk_chosen (walking.Unmark w) pl h = by (s.table.mark me)
    where
      by : (o : Option Mark) → IsChosen call (at.Walk (walking.Call (resumed w o))) (k + 0)
      by None = (omega (arith, h.0), h.1)
      by (Some j) = (omega (arith, h.0), h.1)

  chosen_signalled : (c : Call) (j : ℕ) → IsChosen c (signalled_at c) j
  chosen_signalled (calls.WaitFor d st) j = tt
  chosen_signalled c j = tt

  chosen_prepared : (c : Call) (j : ℕ) → IsChosen c (prepared_at c) j
  chosen_prepared (calls.WaitFor d st) j = tt
  chosen_prepared c j = tt

  chosen_slept : (c : Call) (j : ℕ) → IsChosen c (slept_at c) j
  chosen_slept (calls.WaitFor d st) j = tt
  chosen_slept c j = tt

  chosen_select : (i : ℕ) (o : Option CalledEntry) (hit : Bool) → C (select_next call i o hit)
  chosen_select i None hit = tt
  chosen_select i (Some c) hit = tt

  chosen_await : (waited zero : Bool) (j : ℕ) → IsChosen call (await_after call waited zero) j
  chosen_await waited true j = tt
  chosen_await true false j = tt
  chosen_await false false j = tt

  chosen_finished : (failed : Bool) (e : Event) → C (finished call failed e)
  chosen_finished failed e = either C (failed && is_lock call) _ _ tt tt

  -- after its look for members a publish begins its walk
  chosen_active : (b : Bool) → k ≡ 0 → C (active_event call b)
  chosen_active true h = omega (arith, h)
  chosen_active false h = tt

  published_selects : (c : Call) → event_selects s (publishing_event c) ≡ 0
  published_selects (calls.ClearBit w b) = refl
  published_selects c = refl

  page_chosen : (p : PagePoint) → C (planned s me call (at.Page p))
  page_chosen paging.First = either C (unset s call) _ _ tt tt
  page_chosen paging.Queue = both (λ b. C (page_queue call b)) (seen_by s me call (at.Page paging.Queue)).worn tt tt
  page_chosen (paging.Unlock true) = tt
  page_chosen (paging.Finish finishing.Look) = either C (is_some (s.table.entry (own me))) _ _ tt tt
  page_chosen (paging.Finish finishing.Queue) = either C (is_some (s.table.entry (own me))) _ _ tt tt
  page_chosen paging.Last = both (λ b. C (page_last b)) (seen_by s me call (at.Page paging.Last)).flag tt tt
  page_chosen p = tt

  pub chosen_step : (p : Point) → IsPlaced s.table.entry (s.table.view me) me (now.Open call p)
      → IsChosen call p k → C (planned s me call p)
  chosen_step (at.Walk p) pl h = walk_chosen p pl h
  chosen_step at.First pl h = either C (unset s call) _ _ tt tt
  chosen_step (at.Prepare preparing.Look) pl h = both (λ b. C (look_event call b))
      (pending (state_mask (state_in call)) (s.table.task me)) (chosen_signalled call _) tt
  chosen_step (at.Prepare preparing.Queue) pl h = either C (is_some (s.table.entry (own me))) _ _ tt tt
  chosen_step (at.Prepare preparing.Unlock) pl h = chosen_prepared call _
  chosen_step at.Sleep pl h = chosen_slept call _
  chosen_step at.Test pl h = either (λ q. IsChosen call q (k + 0)) (unset s call) _ _ tt tt
  chosen_step (at.Leave leaving.Queue) pl h = either C (is_some (s.table.entry (own me))) _ _ tt tt
  chosen_step (at.Leave leaving.Load) pl h = either C (unset s call) _ _ tt tt
  chosen_step (at.Finish finishing.Look failed) pl h = either C (is_some (s.table.entry (own me))) _ _ tt
      (chosen_finished failed _)
  chosen_step (at.Finish finishing.Queue failed) pl h = either C (is_some (s.table.entry (own me))) _ _ tt
      (chosen_finished failed _)
  chosen_step (at.Finish finishing.Unlock failed) pl h = chosen_finished failed _
  chosen_step (at.Bit biting.Look) pl h = both (λ b. IsChosen call (acted call b) (k + 0))
      (pending (state_mask (state_in call)) (s.table.task me))
      (either (λ q. IsChosen call q (k + 0)) (is_lock call) _ _ tt tt) tt
  chosen_step (at.Bit (biting.Again failed)) pl h = either
      (λ q. IsChosen call q (k + event_selects s (ask call (seen_by s me call (at.Bit (biting.Again failed))))))
      (unset s call && not failed) _ _ tt tt
  chosen_step (at.Bit biting.First) pl h = either C (unset s call) _ _ tt tt
  chosen_step at.Worn pl h = either C (unset s call) _ _ tt (either C (is_lock call) _ _ tt tt)
  chosen_step at.Publish pl h = omega (arith, h, published_selects call)
  chosen_step at.Active pl h = chosen_active (seen_by s me call at.Active).members h
  chosen_step (at.Add adding.Lock) pl h = tt
  chosen_step (at.Remove removing.Lock) pl h = tt
  chosen_step (at.Woken hearing.State) pl h = tt
  chosen_step (at.Select (selecting.Next i)) pl h = either C (is_enough call i) _ _ tt (chosen_select i _ _)
  chosen_step (at.Await (awaiting.Load waited)) pl h = chosen_await waited _ _
  chosen_step (at.Await (awaiting.Off true)) pl h = either C (is_some (s.table.entry (own me))) _ _ tt tt
  chosen_step (at.Await (awaiting.Off false)) pl h = either C (is_some (s.table.entry (own me))) _ _ tt
      (either C (is_at_end (value_of s.table.words (call_watch call))) _ _ tt tt)
  chosen_step (at.Await (awaiting.Last false)) pl h =
      either C (is_at_end (value_of s.table.words (call_watch call))) _ _ tt tt
  chosen_step (at.Count counting.Peek) pl h = either C (value_of s.table.words (call_watch call) == 0) _ _ tt tt
  chosen_step (at.Page p) pl h = page_chosen p
  chosen_step p pl h = tt

-- a call that is opened has selected nobody yet, and is in no turn
pub start_turn : (call : Call) (me : ℕ) (trail : List Event) → IsTurn call (program_start call) me trail
start_turn calls.Remove me trail = tt
start_turn call me trail = tt

pub start_chosen : (call : Call) → IsChosen call (program_start call) 0
start_chosen (calls.Wake c m n) = refl
start_chosen call = cc
