-- The answers of a step and of a start, by what the code read.
use Rattle.std.specs.Prelude.{◌≡◌, ℕ, ◌+◌, ◌*◌, ◌<◌, ◌≤◌, Bool, true, false, ◌==◌, if◌then◌else◌, List, [], ◌∷◌, ◌++◌}
use Rattle.std.specs.Prelude.{slice_get, slice_set, length, not, nat_lt}
use Rattle.wait_model.specs.{declared.calls.Call.Call, declared.calls.Event.Event, declared.points.Seen.Seen}
use Rattle.wait_model.specs.{declared.points.WalkPoint.WalkPoint, declared.queues.CalledEntry.CalledEntry}
use Rattle.wait_model.specs.{declared.watches.Kind.Kind, declared.tasks.TaskRecord.TaskRecord}
use Rattle.wait_model.specs.{declared.points.Planned.Planned, declared.points.Point.Point}
use Rattle.wait_model.specs.{declared.points.PageStage.PageStage, declared.queues.Walking.Walking}
use Rattle.wait_model.specs.{declared.watches.Entry.Entry, declared.points.Progress.Progress, declared.calls.Ran.Ran}
use Rattle.wait_model.specs.{Watches.IsThere, Shown.IsInRange, Tables.Table}
use Rattle.wait_model.specs.declared.layout.TheConstants.{TASKS, BIT_WORDS, WORD_BITS, BREAK, EVENTS, RUN_ITEMS}
use Rattle.wait_model.specs.Programs.{program, program_start, walk_event, hands_event, call_entry, call_next, go}
use Rattle.wait_model.specs.Programs.{IsFitting, IsFittingWalk}
use Rattle.wait_model.specs.Points.{call_watch, call_head, call_aim, given_at, IsNamed, IsReachable}
use Rattle.wait_model.specs.Admission.{is_in_range, lacks_bit, is_queued_twice, lacks_entry, IsListed}
use Rattle.wait_model.specs.Locations.{Shows, IsLocation, location_of}
use Rattle.wait_model.specs.Reached.{IsSound, IsSoundCall, IsCallSound, IsCounted, Allows, Joins}
use Rattle.wait_model.specs.Runs.{State, start_state, after_event, given_by, planned, progress_at, found_by, seen_by}
use Rattle.wait_model.specs.Runs.{arrives_at, arrives_from, own, state_of, busy_head, made_in, is_open}
use Rattle.std.specs.declared.option.Option.{Option}
use Rattle.std.specs.declared.option.Option.TheVariants.{Some, None}
use Rattle.std.proofs.Common.{refl, arith, ap, sym, ◌∙◌, subst, get_or}
use Rattle.std.proofs.lemmas.Option.{slice_get_read}
use Rattle.wait_model.specs.declared.calls.Event.TheVariants as events
use Rattle.wait_model.specs.declared.watches.Kind.TheVariants as kind
use Rattle.wait_model.specs.declared.points.Point.TheVariants as at
use Rattle.wait_model.specs.declared.points.WalkPoint.TheVariants as walking
use Rattle.wait_model.specs.declared.points.PageStage.TheVariants as staging
use Rattle.wait_model.specs.declared.points.SelectPoint.TheVariants as selecting
use Rattle.wait_model.specs.declared.points.Progress.TheVariants as now
use Rattle.wait_model.specs.declared.calls.Ran.TheVariants as ran
use Rattle.wait_model.specs.declared.calls.Call.TheVariants as calls
use Rattle.wait_model.proofs.{Functions.both_left, Functions.both_right, RunLaws.EveryRun.admits_parts}
use Rattle.wait_model.proofs.{RunLaws.EveryRun.state_after-push, QueueLaws.OutsideWalks.IsUnmarked}
use Rattle.wait_model.proofs.{QueueLaws.OutsideWalks.program_away, WordLaws.ShownSteps.event_located}
use Rattle.wait_core.specs.{declared.arrivals.Arrived.Arrived, Arrivals.arrived, Arrivals.IsMarkedBy}
use Rattle.wait_core.specs.{declared.engine.Stepped.Stepped, Ended.answer_of, declared.reads.Found.Found, Core.IsCore}
use Rattle.wait_core.specs.Core.{open_calls}
use Rattle.wait_core.specs.Stepped.{stepped, event_or_refusal, first_refusal, started, MayStep, IsFound}
use Rattle.wait_core.specs.Keepers.{ShowsKeepers, ShowsTaken, keeps_shown, kept_after, taken_after}
use Rattle.std.proofs.lemmas.Bool.Decides.{nat_tests}
use Rattle.wait_core.specs.declared.engine.Stepped.TheVariants as answers
use Rattle.wait_core.specs.declared.engine.StartFault.TheVariants as faults
use Rattle.std.specs.declared.result.Result.TheVariants.{Ok, Err}
use Rattle.wait_core.proofs.KeptCore.{calls_few, MayOpen, sound, allowed_in_range, open_is, allowed, joins, made_core}
use Rattle.wait_core.proofs.KeptCore.{keepers_kept, taken_kept, opened_room, opened_core}

-- a bookmark is put only where a walk breaks, and then where it went on from its place
module _ (s : State) (me : ℕ) (call : Call) (seen : Seen) (walk : Arrived) where
  unmarked : (p : Point) (x e : Event) → IsUnmarked x → x ≡ e → IsMarkedBy s call p e walk
  unmarked p x (events.Mark h) u is = absurd (subst IsUnmarked is u)
  unmarked p x e u is = tt

  entry_unmarked : (w : Walking) (c : CalledEntry) (k : Kind) (hit : Bool)
      → IsUnmarked (call_entry (call_aim call) w c k seen hit).event
  entry_unmarked w c kind.Default hit = tt
  entry_unmarked w c _ hit = tt

  hands_unmarked : (st : PageStage) (w : Walking) (c : CalledEntry)
      → IsUnmarked (hands_event (call_aim call) st w c seen).event
  hands_unmarked staging.Try w c = tt
  hands_unmarked _ w c = tt

  next_unmarked : (w : Walking) (o : Option CalledEntry) (hit : Bool)
      → IsUnmarked (call_next (call_aim call) w o seen hit).event
  next_unmarked w None hit = tt
  next_unmarked w (Some c) hit = entry_unmarked w c c.kind hit

  called_marked : (w v : Walking) (b hit : Bool) (e : Event)
      → walk ≡ arrived (arrives_at s.table.entry call (at.Walk (walking.Call w)) (s.queue (call_head call)))
      → (if b then go (events.Mark (call_head call)) (at.Walk (walking.BreakUnlock v))
      else call_next (call_aim call) v seen.called seen hit).event ≡ e
      → IsMarkedBy s call (at.Walk (walking.Call w)) e walk
  called_marked w v true hit (events.Mark h) goes is =
      let k : call_head call ≡ h = cc in
      ap (λ (a : Arrived). a.member) goes ∙ ap (λ i. (arrives_from s.table.entry (call_watch call) w.place w.calls
      (s.queue i)).member) k
  called_marked w v true hit e goes is = tt
  called_marked w v false hit e goes is = unmarked (at.Walk (walking.Call w)) _ e (next_unmarked v seen.called hit) is

  walk_marked : (q : WalkPoint) (e : Event)
      → walk ≡ arrived (arrives_at s.table.entry call (at.Walk q) (s.queue (call_head call)))
      → (walk_event (call_aim call) q seen).event ≡ e → IsMarkedBy s call (at.Walk q) e walk
  walk_marked (walking.Call w) e goes is = called_marked w _ seen.breaks _ e goes is
  walk_marked (walking.Unmark w) (events.Mark h) goes is = absurd (cc)
  walk_marked (walking.Unmark w) e goes is = tt
  walk_marked walking.Lock e goes is = unmarked (at.Walk walking.Lock) _ e tt is
  walk_marked (walking.Bit w c) e goes is = unmarked (at.Walk (walking.Bit w c)) _ e tt is
  walk_marked (walking.Wake w c) e goes is = unmarked (at.Walk (walking.Wake w c)) _ e tt is
  walk_marked (walking.Unqueue w who) e goes is = unmarked (at.Walk (walking.Unqueue w who)) _ e tt is
  walk_marked (walking.Page st w c) e goes is = unmarked (at.Walk (walking.Page st w c)) _ e (hands_unmarked st w c) is
  walk_marked (walking.Stopped w) e goes is = unmarked (at.Walk (walking.Stopped w)) _ e tt is
  walk_marked (walking.Spent w) e goes is = unmarked (at.Walk (walking.Spent w)) _ e tt is
  walk_marked (walking.BreakUnlock w) e goes is = unmarked (at.Walk (walking.BreakUnlock w)) _ e tt is
  walk_marked (walking.BreakLock w) e goes is = unmarked (at.Walk (walking.BreakLock w)) _ e tt is

  pub marked : (p : Point) (e : Event)
      → walk ≡ arrived (arrives_at s.table.entry call p (s.queue (call_head call)))
      → (program me call p seen).event ≡ e → IsMarkedBy s call p e walk
  marked (at.Walk q) e goes is = walk_marked q e goes is
  marked p e goes is = unmarked p _ e (program_away call me seen p tt).event is

-- what is read at a task's place
pub read_progress : (points : List Progress) (me slot : ℕ) (r : Progress) → length points ≡ TASKS → me < TASKS
    → slot ≡ me → r ≡ get_or points slot r → slice_get points me ≡ Some r
read_progress points me slot r l inside same is =
    slice_get_read points (length points) me r refl (omega arith)
    (subst (λ (j : ℕ). r ≡ get_or points j r) same is)

-- an open call of a core's run whose task is awake, and the event that its program plans
pub record IsPlanned (points : List Progress) (items : List Ran) (me : ℕ) (call : Call) (p : Point) (plan : Planned)
    : Type 0 where
  pub stands : slice_get points me ≡ Some (now.Open call p)
  pub runs : ((state_of items).table.task me).runnable ≡ true
  pub is : plan ≡ planned (state_of items) me call p

-- the answers of a step
module _ (words : List ℕ) (points : List Progress) (items : List Ran) (count capacity : ℕ)
    (core : IsCore words points items count capacity) (me : ℕ) (mine : me < TASKS) (v : List Ran)
    (view : items ≡ v) where
  -- the run as callers see it
  told : (x : Stepped) → x ≡ stepped (state_of items) (made_in items) me ((state_of items).progress me)
      → x ≡ stepped (state_of v) (made_in v) me ((state_of v).progress me)
  told x h = subst (λ (w : List Ran). x ≡ stepped (state_of w) (made_in w) me ((state_of w).progress me)) view
      h

  closed_answer : (x : Progress) → ((call : Call) (p : Point) → x ≡ now.Open call p → ⊥)
      → stepped (state_of items) (made_in items) me x ≡ answers.NoCall
  closed_answer now.Fresh h = refl
  closed_answer now.Idle h = refl
  closed_answer (now.Open call p) h = absurd (h call p refl)

  pub no_call : (r : Progress) → slice_get points me ≡ Some r
      → ((call : Call) (p : Point) → r ≡ now.Open call p → ⊥)
      → answers.NoCall ≡ stepped (state_of v) (made_in v) me ((state_of v).progress me)
  no_call r is h =
      let e : Some ((state_of items).progress me) ≡ Some r = sym (core.progress me mine) ∙ is in
      let s : (state_of items).progress me ≡ r = cc in
      told answers.NoCall (sym (ap (stepped (state_of items) (made_in items) me) s ∙ closed_answer r h))

  module _ (call : Call) (p : Point) (stands : slice_get points me ≡ Some (now.Open call p)) where
    by_task : (b : Bool) → ((state_of items).table.task me).runnable ≡ b
        → stepped (state_of items) (made_in items) me ((state_of items).progress me)
        ≡ (if b then event_or_refusal (made_in items) (planned (state_of items) me call p)
        (busy_head (state_of items) (planned (state_of items) me call p).event) else answers.Asleep)
    by_task b r = ap (stepped (state_of items) (made_in items) me)
        (open_is words points items count capacity core me mine call p stands)
        ∙ ap (λ b. if b then event_or_refusal (made_in items) (planned (state_of items) me call p)
        (busy_head (state_of items) (planned (state_of items) me call p).event) else answers.Asleep) r

    pub asleep : ((state_of items).table.task me).runnable ≡ false
        → answers.Asleep ≡ stepped (state_of v) (made_in v) me ((state_of v).progress me)
    asleep r = told answers.Asleep (sym (by_task false r))

  module _ {call : Call} {p : Point} {plan : Planned} (due : IsPlanned points items me call p plan) where
    by_lock : (lock : Option ℕ) → lock ≡ busy_head (state_of items) plan.event
        → stepped (state_of items) (made_in items) me ((state_of items).progress me)
        ≡ event_or_refusal (made_in items) plan lock
    by_lock lock is = by_task call p due.stands true due.runs
        ∙ sym (ap (λ (x : Planned). event_or_refusal (made_in items) x (busy_head (state_of items) x.event)) due.is)
        ∙ ap (event_or_refusal (made_in items) plan) (sym is)

    pub busy : (head : ℕ) → Some head ≡ busy_head (state_of items) plan.event
        → answers.Busy head ≡ stepped (state_of v) (made_in v) me ((state_of v).progress me)
    busy head held = told (answers.Busy head) (sym (by_lock (Some head) held))

    by_room : None ≡ busy_head (state_of items) plan.event → (b : Bool) → (made_in items == EVENTS) ≡ b
        → (if b then answers.Full else answers.Made plan.event (answer_of plan.next))
        ≡ stepped (state_of v) (made_in v) me ((state_of v).progress me)
    by_room free b t = told _ (sym (by_lock None free
        ∙ ap (λ b. if b then answers.Full else answers.Made plan.event (answer_of plan.next)) t))

    pub full : None ≡ busy_head (state_of items) plan.event → count ≡ EVENTS
        → answers.Full ≡ stepped (state_of v) (made_in v) me ((state_of v).progress me)
    full free n =
        let m : count ≡ made_in items = core.made in
        by_room free true (grind (arith, nat_tests))

    pub made : None ≡ busy_head (state_of items) plan.event → (count ≡ EVENTS → ⊥)
        → answers.Made plan.event (answer_of plan.next)
        ≡ stepped (state_of v) (made_in v) me ((state_of v).progress me)
    made free n =
        let m : count ≡ made_in items = core.made in
        let ne : (made_in items ≡ EVENTS) → ⊥ = λ k. n (m ∙ k) in
        by_room free false (grind (arith, nat_tests))

-- small steps between what the code read and what the state has
pub opened_at : (words : List ℕ) (points : List Progress) (items : List Ran) (count capacity : ℕ)
    → IsCore words points items count capacity → (me slot : ℕ) (r : Progress) (call : Call) (p : Point)
    → me < TASKS → slot ≡ me → r ≡ get_or points slot r → r ≡ now.Open call p
    → slice_get points me ≡ Some (now.Open call p)
opened_at words points items count capacity core me slot r call p mine same read is =
    read_progress points me slot r core.tasks mine same read ∙ ap (λ (x : Progress). Some x) is

-- an open call and its task, in the run of a core and as callers see it
pub standing : (words : List ℕ) (points : List Progress) (items : List Ran) (count capacity : ℕ)
    → IsCore words points items count capacity → (me : ℕ) → me < TASKS → (v : List Ran) → items ≡ v
    → (call : Call) (p : Point) → MayStep v me call p → slice_get points me ≡ Some (now.Open call p)
standing words points items count capacity core me mine v same call p may =
    core.progress me mine ∙ ap Some (ap (λ (w : List Ran). (state_of w).progress me) same ∙ may.stands)

pub planned_here : {words : List ℕ} {points : List Progress} {items v : List Ran} {count capacity : ℕ}
    → IsCore words points items count capacity → {me : ℕ} → me < TASKS → items ≡ v → {call : Call} {p : Point}
    → MayStep v me call p → {found : Found} → IsFound v me call p found → {plan : Planned}
    → plan ≡ program me call p found.seen → IsPlanned points items me call p plan
planned_here core {me = me} mine same {call = call} {p = p} may found is = record {
  stands = standing _ _ _ _ _ core me mine _ same call p may;
  runs = ap (λ (w : List Ran). ((state_of w).table.task me).runnable) same ∙ may.awake;
  is = is ∙ ap (program me call p) found.seen
      ∙ ap (λ (w : List Ran). program me call p (seen_by (state_of w) me call p)) (sym same);
}

pub may_step : (words : List ℕ) (points : List Progress) (items : List Ran) (count capacity : ℕ)
    → IsCore words points items count capacity → (me : ℕ) → me < TASKS → (v : List Ran) → items ≡ v
    → (call : Call) (p : Point) → slice_get points me ≡ Some (now.Open call p)
    → ((state_of items).table.task me).runnable ≡ true → MayStep v me call p
may_step words points items count capacity core me mine v same call p stands awake = record {
  stands = sym (ap (λ (w : List Ran). (state_of w).progress me) same)
      ∙ open_is words points items count capacity core me mine call p stands;
  awake = sym (ap (λ (w : List Ran). ((state_of w).table.task me).runnable) same) ∙ awake;
}

-- what is read again there is the same
pub opened_again : (points : List Progress) (me slot : ℕ) (r : Progress) (call : Call) (p : Point)
    → length points ≡ TASKS → me < TASKS → slot ≡ me → r ≡ get_or points slot r
    → slice_get points me ≡ Some (now.Open call p) → r ≡ now.Open call p
opened_again points me slot r call p l mine same read stands =
    let a : Some r ≡ Some (now.Open call p) = sym (read_progress points me slot r l mine same read) ∙ stands in cc

pub shown_in : (now' words : List ℕ) (s : State) → now' ≡ words → Shows words s.table → Shows now' s.table
shown_in now' words s e h = subst (λ (w : List ℕ). Shows w s.table) (sym e) h

-- what a reader finds in the words of a core, it finds in the state of the core's run
pub read_here : {words now' : List ℕ} {points : List Progress} {items : List Ran} {count capacity : ℕ} {A : Type 0}
    {x : A} {f : State → A} → IsCore words points items count capacity → now' ≡ words
    → ((s : State) (n : ℕ) → Shows now' s.table → IsSound s n → x ≡ f s) → x ≡ f (state_of items)
read_here {items = items} core same reads =
    reads (state_of items) _ (shown_in _ _ (state_of items) same core.shown) (sound _ _ _ _ _ core)

-- the record that is read tells whether the task in the state runs
pub runs_not : (b : Bool) (t u : TaskRecord) → t ≡ u → not t.runnable ≡ b → u.runnable ≡ not b
runs_not b t u e h = subst (λ (x : TaskRecord). x.runnable ≡ not b) e (turned t.runnable h)
  where
    turned : (c : Bool) → not c ≡ b → c ≡ not b
    turned true h = ap not h
    turned false h = ap not h

-- what a sound call says of its point's numbers
pub call_limit : (n : ℕ) (call : Call) (p : Point) → IsSoundCall n (now.Open call p)
    → IsThere (call_watch call)
call_limit n call p k = k.watch

pub call_reaches : (n : ℕ) (call : Call) (p : Point) → IsSoundCall n (now.Open call p) → IsReachable call p
call_reaches n call p k = (k.who, named p k)
  where
    named : (p : Point) → IsCallSound n call p → IsNamed p
    named (at.Walk (walking.Wake w c)) k = k.walk.1
    named (at.Walk (walking.Bit w c)) k = k.walk.1
    named (at.Walk (walking.Page st w c)) k = k.walk.1
    named p k = tt

counted_fits : (n : ℕ) (w : Walking) → n ≤ EVENTS → IsCounted n w → IsFittingWalk w
counted_fits n w few k = record {
  woken = (let l : w.woken ≤ n = k.woken in omega arith);
  selected = (let l : w.woken ≤ n = k.woken in let m : w.selected ≤ w.woken = k.selected in omega arith);
  calls = (let l : w.calls ≤ BREAK + 1 = k.calls in omega arith);
  holds = (let l : w.holds ≤ n = k.holds in omega arith);
}

pub call_fits : (n : ℕ) (call : Call) (p : Point) → n ≤ EVENTS → IsSoundCall n (now.Open call p) → IsFitting p
call_fits n call (at.Walk (walking.Call w)) few k = counted_fits n w few k.walk
call_fits n call (at.Walk (walking.BreakLock w)) few k = counted_fits n w few k.walk
call_fits n call (at.Walk (walking.Wake w c)) few k = (counted_fits n w few k.walk.0, k.walk.2)
call_fits n call (at.Walk (walking.Bit w c)) few k = (counted_fits n w few k.walk.0, k.walk.2)
call_fits n call (at.Walk (walking.Page st w c)) few k = (counted_fits n w few k.walk.0, k.walk.2)
call_fits n call (at.Select (selecting.Next j)) few k = let l : j ≤ n = k.walk in omega arith
call_fits n call p few k = tt

pub room_left : (words : List ℕ) (points : List Progress) (items : List Ran) (count capacity : ℕ)
    → IsCore words points items count capacity → (count ≡ EVENTS → ⊥) → length items < capacity
room_left words points items count capacity core more =
    let r : length items ≤ 2 * count + open_calls points = core.room in
    let f : open_calls points ≤ length points = calls_few points in
    let t : length points ≡ TASKS = core.tasks in
    let n : count < EVENTS = (let m : count ≤ EVENTS = core.few in omega arith) in
    let k : RUN_ITEMS ≤ capacity = core.reserved in
    omega arith

-- what holds of the planned event, and after it
module _ {words : List ℕ} {points : List Progress} {items : List Ran} {count capacity : ℕ}
    (core : IsCore words points items count capacity) {me : ℕ} (mine : me < TASKS) {call : Call} {p : Point}
    {plan : Planned} (due : IsPlanned points items me call p plan) where
  pub plan_allowed : Allows (state_of items) me plan.event
  plan_allowed = subst (λ (x : Planned). Allows (state_of items) me x.event) (sym due.is)
      (allowed words points items count capacity core me mine call p due.stands due.runs)

  pub plan_in_range : IsInRange plan.event
  plan_in_range = allowed_in_range (state_of items) me plan.event plan_allowed

  pub plan_joins : Joins (given_at call p) plan.event
  plan_joins = subst (λ (x : Planned). Joins (given_at call p) x.event) (sym due.is)
      (joins words points items count capacity core me mine call p due.stands due.runs)

  pub plan_located : IsLocation (location_of me plan.event)
  plan_located = event_located words (state_of items) core.shown me (given_at call p) mine plan.event plan_allowed

  pub plan_marked : (walk : Arrived) → walk ≡ arrived (arrives_at (state_of items).table.entry call p
      ((state_of items).queue (call_head call))) → IsMarkedBy (state_of items) call p plan.event walk
  plan_marked walk goes = marked (state_of items) me call (seen_by (state_of items) me call p) walk p plan.event goes
      (ap (λ (x : Planned). x.event) (sym due.is))

  -- who keeps each bit after it, and which page was taken for each task
  module _ (pages : List (Option ℕ)) (noted_pages : ShowsTaken pages (state_of items).table.taken) (found : ℕ)
      (items' : List Ran) (grown : items' ≡ items ++ ran.Made me plan.event found ∷ []) where
    -- what holds of the state after the planned event holds of the state after the grown run
    grown_state : (P : State → Type 0) → ((t : State) (f : ℕ → Progress) → P t → P (record t { progress = f }))
        → P (after_event (state_of items) me (given_at call p) plan.event) → P (state_of items')
    grown_state P any h = subst (λ (w : List Ran). P (state_of w)) (sym grown)
        (subst P (sym (state_after-push start_state items (ran.Made me plan.event found)))
        (any (after_event (state_of items) me (given_by ((state_of items).progress me)) plan.event) _
        (subst (λ (x : Progress). P (after_event (state_of items) me (given_by x) plan.event))
        (sym (open_is words points items count capacity core me mine call p due.stands)) h)))

    pub stepped_keepers : (keepers : List (Option ℕ)) → ShowsKeepers keepers (state_of items).table.view
        → None ≡ busy_head (state_of items) plan.event → (keepers' : List (Option ℕ))
        → keepers' ≡ kept_after me plan.event pages keepers → ShowsKeepers keepers' (state_of items').table.view
    stepped_keepers keepers shown free keepers' noted = grown_state (λ t. ShowsKeepers keepers' t.table.view)
        (λ t f h. h)
        (subst (λ (k : List (Option ℕ)). ShowsKeepers k
        (after_event (state_of items) me (given_at call p) plan.event).table.view) (sym noted)
        (subst (λ (x : Planned). ShowsKeepers (kept_after me x.event pages keepers)
        (after_event (state_of items) me (given_at call p) x.event).table.view) (sym due.is)
        (keepers_kept words points items count capacity core me mine call p due.stands due.runs pages noted_pages
        keepers shown (sym (free ∙ ap (λ (y : Planned). busy_head (state_of items) y.event) due.is)))))

    pub stepped_taken : (pages' : List (Option ℕ)) → pages' ≡ taken_after me plan.event pages
        → ShowsTaken pages' (state_of items').table.taken
    stepped_taken pages' noted = grown_state (λ t. ShowsTaken pages' t.table.taken) (λ t f h. h)
        (subst (λ (k : List (Option ℕ)). ShowsTaken k
        (after_event (state_of items) me (given_at call p) plan.event).table.taken) (sym noted)
        (subst (λ (x : Planned). ShowsTaken (taken_after me x.event pages)
        (after_event (state_of items) me (given_at call p) x.event).table.taken) (sym due.is)
        (taken_kept words points items count capacity core me mine call p due.stands due.runs pages noted_pages)))

  -- the core after what the code did
  pub stepped_core : (found : ℕ) → found ≡ found_by (state_of items) me plan.event
      → None ≡ busy_head (state_of items) plan.event → (count ≡ EVENTS → ⊥) → (after : List ℕ)
      → Shows after (after_event (state_of items) me (given_at call p) plan.event).table
      → (x : Progress) → x ≡ progress_at call plan.next → (slot : ℕ) → slot ≡ me
      → (items' : List Ran) → items' ≡ items ++ ran.Made me plan.event found ∷ [] → (capacity' : ℕ)
      → capacity ≤ capacity' → IsCore after (slice_set points slot x) items' (count + 1) capacity'
  stepped_core found was free few after shown x goes slot same items' grown capacity' more =
      let fewer : count < EVENTS = let n : count ≤ EVENTS = core.few in omega arith in
      let k = made_core words points items count capacity core me mine call p due.stands found capacity' after x
      (was ∙ ap (λ (y : Planned). found_by (state_of items) me y.event) due.is) due.runs
      (sym (free ∙ ap (λ (y : Planned). busy_head (state_of items) y.event) due.is)) fewer more
      (subst (λ (y : Planned). Shows after (after_event (state_of items) me (given_at call p) y.event).table)
      due.is shown) (sym (goes ∙ ap (λ (y : Planned). progress_at call y.next) due.is)) in
      let g : items' ≡ items ++ ran.Made me (planned (state_of items) me call p).event found ∷ [] = grown
      ∙ ap (λ (y : Planned). items ++ ran.Made me y.event found ∷ []) due.is in
      rw (same, g) k

pub in_range_here : {words : List ℕ} {points : List Progress} {items v : List Ran} {count capacity : ℕ}
    → IsCore words points items count capacity → {me : ℕ} → me < TASKS → items ≡ v → {call : Call} {p : Point}
    → MayStep v me call p → {found : Found} → IsFound v me call p found → {plan : Planned}
    → plan ≡ program me call p found.seen → IsInRange plan.event
in_range_here core mine same may found is = plan_in_range core mine (planned_here core mine same may found is)

pub grown_run : (items v items' : List Ran) (me : ℕ) (e : Event) (found : ℕ) → items ≡ v
    → found ≡ found_by (state_of items) me e → items' ≡ items ++ ran.Made me e found ∷ [] → items' ≡ v
    ++ ran.Made me e (found_by (state_of v) me e) ∷ []
grown_run items v items' me e found view was grown =
    grown ∙ ap (λ n. items ++ ran.Made me e n ∷ []) was
    ∙ ap (λ (w : List Ran). w ++ ran.Made me e (found_by (state_of w) me e) ∷ []) view

-- whether the task lacks the bit that it would clear, by the list of keepers
pub lacks_shown : (s : State) (me : ℕ) (call : Call) (keepers : List (Option ℕ)) → ShowsKeepers keepers s.table.view
    → me < TASKS → is_in_range me call ≡ true
    → lacks_bit call (keeps_shown keepers me call) ≡ lacks_bit call ((s.table.view me).bits.keeps (call_watch call))
lacks_shown s me (calls.ClearBit w b) keepers shown mine fits =
    let lw : w < BIT_WORDS = grind (arith, nat_tests, both_left (nat_lt w BIT_WORDS) (nat_lt b WORD_BITS) fits) in
    let lb : b < WORD_BITS = grind (arith, nat_tests, both_right (nat_lt w BIT_WORDS) (nat_lt b WORD_BITS) fits) in
    ap not (sym (shown.each me w b mine lw lb))
lacks_shown s me call keepers shown mine fits = refl

-- a task whose place is read as closed has no call open
pub closed_here : {words : List ℕ} {points : List Progress} {items : List Ran} {count capacity : ℕ}
    → IsCore words points items count capacity → {me : ℕ} → me < TASKS → {slot : ℕ} → slot ≡ me → {r : Progress}
    → r ≡ get_or points slot r → {t : Bool} → t ≡ is_open r → t ≡ false
    → is_open ((state_of items).progress me) ≡ false
closed_here {points = points} {items = items} core {me = me} mine {slot = slot} same {r = r} read test shut =
    let a : slice_get points me ≡ Some r = read_progress points me slot r core.tasks mine same read in
    let b : Some ((state_of items).progress me) ≡ Some r = sym (core.progress me mine) ∙ a in
    let d : (state_of items).progress me ≡ r = cc in
    ap is_open d ∙ sym test ∙ shut

-- an opening that is refused for a bit or for the own entry, by what the code read
module _ {words : List ℕ} {points : List Progress} {items : List Ran} {count capacity : ℕ}
    (core : IsCore words points items count capacity) {me : ℕ} (mine : me < TASKS)
    (closed : is_open ((state_of items).progress me) ≡ false) (call : Call) {v : List Ran} (view : items ≡ v)
    {fits : Bool} (fit : fits ≡ is_in_range me call) (fitting : fits ≡ true) {keepers : List (Option ℕ)}
    (shown : ShowsKeepers keepers (state_of items).table.view) {read : List (Option ℕ)} (same : read ≡ keepers)
    {keeps : Bool} (keep : keeps ≡ keeps_shown read me call) {loose : Bool} (lack : loose ≡ lacks_bit call keeps)
  where
    abbrev twice_in : Bool
    twice_in = is_queued_twice call ((state_of items).table.entry (own me))

    abbrev lacks_in : Bool
    lacks_in = lacks_entry call ((state_of items).table.entry (own me))

    loose_is : loose ≡ lacks_bit call (((state_of items).table.view me).bits.keeps (call_watch call))
    loose_is = lack ∙ ap (lacks_bit call) (keep ∙ ap (λ (k : List (Option ℕ)). keeps_shown k me call) same)
        ∙ lacks_shown (state_of items) me call keepers shown mine (sym fit ∙ fitting)

    bit_checked : first_refusal true loose twice_in lacks_in ≡ started (state_of v) me call
    bit_checked = subst (λ (w : List Ran). first_refusal true loose twice_in lacks_in
        ≡ started (state_of w) me call) view
        (sym (rw (closed, sym fit ∙ fitting) (ap (λ b. first_refusal true b twice_in lacks_in) (sym loose_is))))

    pub loose_refused : loose ≡ true → Err faults.NotHeld ≡ started (state_of v) me call
    loose_refused y = ap (λ b. first_refusal true b twice_in lacks_in) (sym y) ∙ bit_checked

    module _ (held : loose ≡ false) {entry : Option Entry} (is : entry ≡ (state_of items).table.entry (own me)) where
      entry_checked : first_refusal true false (is_queued_twice call entry) (lacks_entry call entry)
          ≡ started (state_of v)
          me call
      entry_checked = ap (λ (o : Option Entry). first_refusal true false (is_queued_twice call o)
          (lacks_entry call o)) is
          ∙ ap (λ b. first_refusal true b twice_in lacks_in) (sym held) ∙ bit_checked

      pub queued_refused : {twice : Bool} → twice ≡ is_queued_twice call entry → twice ≡ true
          → Err faults.EntryQueued ≡ started (state_of v) me call
      queued_refused k y =
          ap (λ b. first_refusal true false b (lacks_entry call entry)) (sym y ∙ k) ∙ entry_checked

      module _ {twice lacks : Bool} (k : twice ≡ is_queued_twice call entry) (once : twice ≡ false)
          (l : lacks ≡ lacks_entry call entry) where
        pub lacking_refused : lacks ≡ true → Err faults.NoEntry ≡ started (state_of v) me call
        lacking_refused y =
            ap (λ b. first_refusal true false b true) (sym once ∙ k)
            ∙ ap (λ b. first_refusal true false (is_queued_twice call entry) b) (sym y ∙ l) ∙ entry_checked

        -- what the code found lets the call be opened
        pub may_open : lacks ≡ false → IsListed call → MayOpen (state_of items) me call
        may_open has listed =
            rw (← is, sym fit ∙ fitting, sym loose_is ∙ held, sym k ∙ once, sym l ∙ has, listed) refl

-- an opening, by what the code read
module _ {words : List ℕ} {points : List Progress} {items : List Ran} {count capacity : ℕ}
    (core : IsCore words points items count capacity) {me : ℕ} (mine : me < TASKS)
    (closed : is_open ((state_of items).progress me) ≡ false) (call : Call)
    (may : MayOpen (state_of items) me call) where
  pub room_to_open : length items < capacity
  room_to_open =
      let r : length items < 2 * count + TASKS =
      opened_room words points items count capacity core me mine call closed may in
      let n : count ≤ EVENTS = core.few in
      let k : RUN_ITEMS ≤ capacity = core.reserved in
      omega arith

  module _ (items' : List Ran) (grown : items' ≡ items ++ ran.Opened me call ∷ []) where
    pub started_core : {slot : ℕ} → slot ≡ me → {p : Point} → p ≡ program_start call → {capacity' : ℕ}
        → capacity ≤ capacity' → IsCore words (slice_set points slot (now.Open call p)) items' count capacity'
    started_core same begins {capacity' = capacity'} more =
        rw (same, begins, grown) (opened_core words points items count capacity core me mine call closed
        may capacity' more)

    -- nothing but the task's progress is another
    same_table : (P : Table → Type 0) → P (state_of items).table → P (state_of items').table
    same_table P h = subst (λ (w : List Ran). P (state_of w).table) (sym grown)
        (subst (λ (t : State). P t.table) (sym (state_after-push start_state items (ran.Opened me call))) h)

    pub started_keepers : {keepers : List (Option ℕ)} → ShowsKeepers keepers (state_of items).table.view
        → ShowsKeepers keepers (state_of items').table.view
    started_keepers {keepers = keepers} shown = same_table (λ t. ShowsKeepers keepers t.view) shown

    pub started_taken : {pages : List (Option ℕ)} → ShowsTaken pages (state_of items).table.taken
        → ShowsTaken pages (state_of items').table.taken
    started_taken {pages = pages} shown = same_table (λ t. ShowsTaken pages t.taken) shown

  pub started_ok : (v : List Ran) → items ≡ v → Ok tt ≡ started (state_of v) me call
  started_ok v view = subst (λ (w : List Ran). Ok tt ≡ started (state_of w) me call) view
      (sym (rw (
        closed,
        (admits_parts me call _ _ may).0,
        (admits_parts me call _ _ may).4,
        (admits_parts me call _ _ may).1,
        (admits_parts me call _ _ may).2,
      ) refl))
