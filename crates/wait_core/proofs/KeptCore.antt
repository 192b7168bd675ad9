-- A core is kept by an opening and by an event.
use Rattle.std.specs.Prelude.{◌≡◌, ℕ, ◌+◌, ◌*◌, ◌<◌, ◌≤◌, Bool, true, false, if◌then◌else◌, List, [], ◌∷◌, ◌++◌}
use Rattle.std.specs.Prelude.{slice_get, slice_set, length, ◌≢◌, Option}
use Rattle.wait_model.specs.{declared.calls.Call.Call, declared.calls.Event.Event, declared.points.Point.Point}
use Rattle.wait_model.specs.{declared.watches.Entry.Entry, Views.View, declared.points.Progress.Progress}
use Rattle.wait_model.specs.{declared.calls.Ran.Ran, Programs.program_start, Points.call_watch, Points.given_at}
use Rattle.wait_model.specs.{Admission.admits, Shown.IsInRange, Locations.Shows}
use Rattle.wait_model.specs.declared.layout.TheConstants.{TASKS, EVENTS, RUN_ITEMS}
use Rattle.wait_model.specs.Reached.{HandsAt, marked_at, IsSound, IsSoundCall, IsPlaced, Allows, Joins, Rests}
use Rattle.wait_model.specs.Reached.{KeepsCleared, CountedAt, CountedBy}
use Rattle.wait_model.specs.Runs.{State, start_state, after_event, planned, seen_by, progress_at, progress_after}
use Rattle.wait_model.specs.Runs.{given_by, found_by, own, happens, state_of, IsItem, Continues, busy_head, made_in}
use Rattle.wait_model.specs.Runs.{is_open, IsRun}
use Rattle.std.specs.declared.option.Option.TheVariants.{Some, None}
use Rattle.std.proofs.Common.{refl, arith, ap, sym, ◌∙◌, subst, inl, inr, length-set, length-append, get_or-set_other}
use Rattle.std.proofs.lemmas.Option.{slice_get-get_or, slice_get_within, get_or_from_slice_get}
use Rattle.std.proofs.lemmas.List.Sums.{sum_by-set, sum_by-cons}
use Rattle.std.proofs.lemmas.Grind.{get_or-set_at}
use Rattle.wait_model.specs.declared.calls.Event.TheVariants as event
use Rattle.wait_model.specs.declared.points.Point.TheVariants as at
use Rattle.wait_model.specs.declared.points.WalkPoint.TheVariants as walking
use Rattle.wait_model.specs.declared.points.Progress.TheVariants as now
use Rattle.wait_model.specs.declared.calls.Ran.TheVariants as ran
use Rattle.wait_model.proofs.{Functions.put_at, RunLaws.WalkEvents.program_fine, RunLaws.FineEvents.Fine}
use Rattle.wait_model.proofs.RunLaws.EveryRun.{sound_of, state_after-push, run_push, made_push, opened_push}
use Rattle.wait_core.specs.Core.{IsCore, open_calls, one_if_open}
use Rattle.wait_core.specs.Keepers.{ShowsKeepers, ShowsTaken, kept_after, taken_after}
use Rattle.wait_core.proofs.{NotedBits.WalksPage, NotedBits.noted, KeptBits.event_keepers, KeptBits.event_taken}

-- a walk that tries a page knows that it is for one
page_of : (entry : ℕ → Option Entry) (v : View) (call : Call) (p : Point) → CountedAt entry v call p
    → WalksPage call p
page_of entry v call (at.Walk (walking.Page st w c)) z = z.1
page_of entry v call p z = tt

-- an allowed event's numbers are in range
pub allowed_in_range : (s : State) (me : ℕ) (e : Event) → Allows s me e → IsInRange e
allowed_in_range s me (event.State v) a = elim a [
  | inl z ↦ omega arith
  | inr z ↦ elim z [
    | inl y ↦ omega arith
    | inr y ↦ elim y [ inl x ↦ omega arith | inr x ↦ omega arith ]
  ]
]
allowed_in_range s me (event.Queue head form) a = a.0
allowed_in_range s me e a = assumption

-- what the state has to let a call be opened
abbrev pub MayOpen : State → ℕ → Call → Type 0
MayOpen s me call = admits me call (s.table.entry (own me)) ((s.table.view me).bits.keeps (call_watch call))
    ≡ true

-- an element after a write
get_set_same : (points : List Progress) (me t : ℕ) (x : Progress) → me < length points → t ≡ me
    → slice_get (slice_set points me x) t ≡ Some x
get_set_same points me t x inside same =
    let l : t < length (slice_set points me x) = rw length-set (omega arith) in
    slice_get-get_or (slice_set points me x) t x l
    ∙ ap (λ (v : Progress). Some v) (get_or-set_at points me t x x same inside)

pub get_set_other : (points : List Progress) (me t : ℕ) (x : Progress) → t < length points → t ≢ me
    → slice_get (slice_set points me x) t ≡ slice_get points t
get_set_other points me t x inside ne =
    let l : t < length (slice_set points me x) = rw length-set inside in
    slice_get-get_or (slice_set points me x) t x l
    ∙ ap (λ (v : Progress). Some v) (get_or-set_other points me t x x ne)
    ∙ sym (slice_get-get_or points t x inside)

-- the open calls after a write
calls_set : (points : List Progress) (me : ℕ) (x y : Progress) → slice_get points me ≡ Some y
    → open_calls (slice_set points me x) + one_if_open y ≡ open_calls points + one_if_open x
calls_set points me x y is =
    ap (λ v. open_calls (slice_set points me x) + one_if_open v)
    (sym (get_or_from_slice_get points me y x is))
    ∙ sum_by-set one_if_open points me x x (slice_get_within points me y is)

one_at_most : (b : Bool) → (if b then 1 else 0) ≤ 1
one_at_most true = omega arith
one_at_most false = omega arith

pub calls_few : (points : List Progress) → open_calls points ≤ length points
calls_few [] = omega arith
calls_few (p ∷ ps) =
    let e : open_calls (p ∷ ps) ≡ one_if_open p + open_calls ps = sum_by-cons one_if_open p ps in
    let a : one_if_open p ≤ 1 = one_at_most (is_open p) in
    let b : open_calls ps ≤ length ps = calls_few ps in
    let l : length (p ∷ ps) ≡ length ps + 1 = omega arith in
    rw e (omega arith)

module _ (words : List ℕ) (points : List Progress) (items : List Ran) (count capacity : ℕ)
    (core : IsCore words points items count capacity) where
  -- what is a law of every run holds of the core's run, as callers see it
  pub by_law : {P : List Ran → Type 0} → ((run : List Ran) → IsRun run → made_in run ≤ EVENTS → P run)
      → (v : List Ran) → items ≡ v → P v
  by_law {P = P} law v view = subst P view (law items core.run (subst (λ n. n ≤ EVENTS) core.made core.few))

  pub sound : IsSound (state_of items) count
  sound = subst (IsSound (state_of items)) (sym core.made) (by_law sound_of items refl)

  module _ (me : ℕ) (mine : me < TASKS) (call : Call) (p : Point)
      (stands : slice_get points me ≡ Some (now.Open call p)) where
    pub open_is : (state_of items).progress me ≡ now.Open call p
    open_is = let e : Some ((state_of items).progress me) ≡ Some (now.Open call p) =
        sym (core.progress me mine) ∙ stands in cc

    pub call_sound : IsSoundCall count (now.Open call p)
    call_sound = subst (IsSoundCall count) open_is (sound.calls me)

    module _ (runs : ((state_of items).table.task me).runnable ≡ true) where
      fine : Fine (state_of items) count me call sound mine (given_at call p)
          (planned (state_of items) me call p)
      fine = program_fine (state_of items) count me call sound mine p call_sound
          (subst (λ (x : Progress). IsPlaced (state_of items).table.entry ((state_of items).table.view me) me x)
          open_is (sound.placed me)) (sound.marked me ∙ ap marked_at open_is)
          (subst (CountedBy (state_of items).table.entry ((state_of items).table.view me)) open_is
          (sound.counted me))
          (subst (HandsAt (state_of items).table.taken me) open_is (sound.handed.places me))
          (subst (λ (x : Progress). KeepsCleared x ((state_of items).table.view me)) open_is (sound.keeps me))
          (subst (λ (x : Progress). Rests x ((state_of items).table.task me)) open_is (sound.rests me)) runs

      pub allowed : Allows (state_of items) me (planned (state_of items) me call p).event
      allowed = fine.allows

      pub joins : Joins (given_at call p) (planned (state_of items) me call p).event
      joins = fine.joins

      walks_page : WalksPage call p
      walks_page = page_of (state_of items).table.entry ((state_of items).table.view me) call p
          (subst (CountedBy (state_of items).table.entry ((state_of items).table.view me)) open_is (sound.counted me))

      -- who keeps each bit after the event, and which page was taken for each task
      module _ (pages : List (Option ℕ)) (noted_pages : ShowsTaken pages (state_of items).table.taken) where
        pub keepers_kept : (keepers : List (Option ℕ)) → ShowsKeepers keepers (state_of items).table.view
            → busy_head (state_of items) (planned (state_of items) me call p).event ≡ None
            → ShowsKeepers (kept_after me (planned (state_of items) me call p).event pages keepers)
            (after_event (state_of items) me (given_at call p) (planned (state_of items) me call p).event).table.view
        keepers_kept keepers shown free = event_keepers (state_of items) me (given_at call p) mine sound.kept keepers
            shown pages noted_pages (planned (state_of items) me call p).event allowed joins
            (noted me call (seen_by (state_of items) me call p) p call_sound.fitted walks_page) (fine.made free)

        pub taken_kept : ShowsTaken (taken_after me (planned (state_of items) me call p).event pages)
            (after_event (state_of items) me (given_at call p) (planned (state_of items) me call p).event).table.taken
        taken_kept = event_taken (state_of items) me (given_at call p) mine pages noted_pages
            (planned (state_of items) me call p).event allowed
            (noted me call (seen_by (state_of items) me call p) p call_sound.fitted walks_page)

    pub plan_is : (found : ℕ)
        → (found ≡ found_by (state_of items) me (planned (state_of items) me call p).event)
        → ((state_of items).table.task me).runnable ≡ true
        → busy_head (state_of items) (planned (state_of items) me call p).event ≡ None
        → IsItem (state_of items) (ran.Made me (planned (state_of items) me call p).event found)
    plan_is found is runs free = (
      mine,
      subst (λ (x : Progress). Continues (state_of items) me x
          (planned (state_of items) me call p).event found) (sym open_is) (refl, is, runs, free),
    )

    -- the core after an event
    made_points : (found : ℕ) (x : Progress) → progress_at call (planned (state_of items) me call p).next ≡ x
        → (t : ℕ) → t < TASKS
        → slice_get (slice_set points me x) t ≡ Some
        ((happens (state_of items) (ran.Made me (planned (state_of items) me call p).event found)).progress t)
    made_points found x is t inside = put_at (λ v. slice_get (slice_set points me x) t ≡ Some v)
        (state_of items).progress me (progress_after (state_of items) me ((state_of items).progress me)) t
        (λ same. get_set_same points me t x (omega (arith, core.tasks)) same
        ∙ ap (λ (v : Progress). Some v) (sym is ∙ sym (ap (progress_after (state_of items) me) open_is)))
        (λ ne. get_set_other points me t x (omega (arith, core.tasks)) ne ∙ core.progress t inside)

    pub made_core : (found capacity' : ℕ) (after : List ℕ) (x : Progress)
        → found ≡ found_by (state_of items) me (planned (state_of items) me call p).event
        → ((state_of items).table.task me).runnable ≡ true
        → busy_head (state_of items) (planned (state_of items) me call p).event ≡ None
        → count < EVENTS → capacity ≤ capacity'
        → Shows after (after_event (state_of items) me (given_at call p)
        (planned (state_of items) me call p).event).table
        → progress_at call (planned (state_of items) me call p).next ≡ x
        → IsCore after (slice_set points me x) (items
        ++ ran.Made me (planned (state_of items) me call p).event found ∷ []) (count + 1) capacity'
    made_core found capacity' after x is runs free few more shown goes =
        let item : Ran = ran.Made me (planned (state_of items) me call p).event found in
        let new : state_of (items ++ item ∷ []) ≡ happens (state_of items) item =
        state_after-push start_state items item in
        record {
          run = run_push start_state items item core.run (plan_is found is runs free);
          shown = subst (λ (s : State). Shows after s.table) (sym new)
              (subst (λ (x : Progress). Shows after (after_event (state_of items) me (given_by x)
              (planned (state_of items) me call p).event).table) (sym open_is) shown);
          tasks = length-set points me x ∙ core.tasks;
          progress = λ t inside. made_points found x goes t inside
              ∙ ap (λ (s : State). Some (s.progress t)) (sym new);
          made = ap (λ n. n + 1) core.made ∙ sym (made_push items me _ found);
          few = omega arith;
          room =
              let r : length items ≤ 2 * count + open_calls points = core.room in
              let c : open_calls (slice_set points me x) + 1 ≡ open_calls points + one_if_open x =
              calls_set points me x (now.Open call p) stands in
              rw length-append (omega arith);
          reserved = let r : RUN_ITEMS ≤ capacity = core.reserved in omega arith;
        }

  -- the core after an opening
  module _ (me : ℕ) (mine : me < TASKS) (call : Call) (closed : is_open ((state_of items).progress me) ≡ false)
      (may : MayOpen (state_of items) me call) where
    opened_points : (t : ℕ) → t < TASKS
        → slice_get (slice_set points me (now.Open call (program_start call))) t ≡ Some
        ((happens (state_of items) (ran.Opened me call)).progress t)
    opened_points t inside =
        put_at (λ v. slice_get (slice_set points me (now.Open call (program_start call))) t ≡ Some v)
        (state_of items).progress me (now.Open call (program_start call)) t
        (λ same. get_set_same points me t _ (omega (arith, core.tasks)) same)
        (λ ne. get_set_other points me t _ (omega (arith, core.tasks)) ne ∙ core.progress t inside)

    calls_opened : open_calls (slice_set points me (now.Open call (program_start call))) ≡ open_calls points + 1
    calls_opened =
        let c : open_calls (slice_set points me (now.Open call (program_start call))) + one_if_open
        ((state_of items).progress me) ≡ open_calls points + 1 =
        calls_set points me (now.Open call (program_start call)) ((state_of items).progress me)
        (core.progress me mine) in
        let z : one_if_open ((state_of items).progress me) ≡ 0 = ap (λ b. if b then 1 else 0) closed in
        omega arith

    pub opened_room : length items < 2 * count + TASKS
    opened_room =
        let r : length items ≤ 2 * count + open_calls points = core.room in
        let c = calls_opened in
        let f : open_calls (slice_set points me (now.Open call (program_start call))) ≤ TASKS =
        (let l = calls_few (slice_set points me (now.Open call (program_start call)))
        in omega (arith, l, length-set points me (now.Open call (program_start call)), core.tasks)) in
        omega arith

    pub opened_core : (capacity' : ℕ) → capacity ≤ capacity'
        → IsCore words (slice_set points me (now.Open call (program_start call))) (items
        ++ ran.Opened me call ∷ []) count capacity'
    opened_core capacity' more =
        let item : Ran = ran.Opened me call in
        let new : state_of (items ++ item ∷ []) ≡ happens (state_of items) item =
        state_after-push start_state items item in
        record {
          run = run_push start_state items item core.run (mine, closed, may);
          shown = subst (λ (s : State). Shows words s.table) (sym new) core.shown;
          tasks = length-set points me _ ∙ core.tasks;
          progress = λ t inside. opened_points t inside ∙ ap (λ (s : State). Some (s.progress t)) (sym new);
          made = core.made ∙ sym (opened_push items me call);
          few = core.few;
          room =
              let r : length items ≤ 2 * count + open_calls points = core.room in
              let c = calls_opened in
              rw length-append (omega arith);
          reserved = let r : RUN_ITEMS ≤ capacity = core.reserved in omega arith;
        }
