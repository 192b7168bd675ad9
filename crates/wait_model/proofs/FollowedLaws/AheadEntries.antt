-- A walk that wakes whoever waits for a watch has each of them before it: behind its place no owner of an entry waits.
-- This holds after each event of the walk's own, where the watch is set.
use Rattle.std.proofs.lemmas.Option.{none-some}
use Rattle.std.proofs.lemmas.Bool.{both_ways}
use Rattle.std.proofs.Common.{refl, sym, ◌∙◌, ap, subst, arith, inl, inr}
use Rattle.std.specs.Prelude.{ℕ, ◌≡◌, ◌≢◌, ◌+◌, ◌<◌, ◌≤◌, ◌⊎◌, ◌&&◌, Bool, true, false, if◌then◌else◌, Option, Some}
use Rattle.std.specs.Prelude.{None}
use Rattle.wait_model.specs.{declared.tasks.TaskRecord.TaskRecord, declared.watches.Watch.Watch}
use Rattle.wait_model.specs.{declared.watches.Entry.Entry, declared.watches.Kind.Kind}
use Rattle.wait_model.specs.{declared.queues.CalledEntry.CalledEntry, declared.queues.Walking.Walking}
use Rattle.wait_model.specs.{declared.queues.Mark.Mark, declared.calls.Call.Call, declared.points.Point.Point}
use Rattle.wait_model.specs.{declared.points.WalkPoint.WalkPoint, declared.points.PageStage.PageStage}
use Rattle.wait_model.specs.{declared.points.Seen.Seen, declared.points.Planned.Planned}
use Rattle.wait_model.specs.{declared.points.Progress.Progress, Functions.put, Laws.Waits, Laws.Unheard}
use Rattle.wait_model.specs.{Queues.mark_place, Queues.Arrival}
use Rattle.wait_model.specs.declared.layout.TheConstants.{RUNNING, INTERRUPTIBLE, UNINTERRUPTIBLE, KILLABLE, NORMAL}
use Rattle.wait_model.specs.Tasks.{IsLawful, meets, woken}
use Rattle.wait_model.specs.Watches.{same, is_done, is_bit, is_woken, is_page, counted, misses, number_of, word_of}
use Rattle.wait_model.specs.Watches.{bit_of, mask_of, owner}
use Rattle.wait_model.specs.Words.{head_word, bit_at, flag, Suited}
use Rattle.wait_model.specs.Tables.{Table, met, steps, value_of}
use Rattle.wait_model.specs.Points.{call_aim, call_watch, call_head, mode_of, called_task, given_at, walk_mask}
use Rattle.wait_model.specs.Programs.{go, load, call_fails, past, onward, reached, resumed, wake_event, wake_off_event}
use Rattle.wait_model.specs.Programs.{tests, tests_page, hands_event, call_entry, call_next}
use Rattle.wait_model.specs.Runs.{State, own, arrives_from, mark_for, called_by, seen_by, event_steps, planned}
use Rattle.wait_model.specs.Runs.{progress_at}
use Rattle.wait_model.specs.Reached.{IsFlagged, IsPlaced, IsCallSound, CountedAt, IsSound}
use Rattle.wait_model.specs.declared.watches.Watch.TheVariants as watch
use Rattle.wait_model.specs.declared.watches.Kind.TheVariants as kind
use Rattle.wait_model.specs.declared.watches.Mode.TheVariants as mode
use Rattle.wait_model.specs.declared.calls.Call.TheVariants as calls
use Rattle.wait_model.specs.declared.calls.Event.TheVariants as event
use Rattle.wait_model.specs.declared.points.Point.TheVariants as at
use Rattle.wait_model.specs.declared.points.WalkPoint.TheVariants as walking
use Rattle.wait_model.specs.declared.points.PageStage.TheVariants as staging
use Rattle.wait_model.specs.declared.points.Progress.TheVariants as now
use Rattle.wait_model.specs.declared.steps.Step.TheVariants as step
use Rattle.wait_model.specs.Tables as tables
use Rattle.wait_model.proofs.{HistoryLaws.HoldLooks.looks_same, QueueLaws.PlacesApart.AreApart}
use Rattle.wait_model.proofs.{RunLaws.WalkCounts.one_of_bits, RunLaws.WalkCounts.bit_kind}
use Rattle.wait_model.proofs.{WaitLaws.NextStages.misses_fails, WordLaws.CondWords.reads_value}
use Rattle.wait_model.proofs.WordLaws.DecodedWords.{owner_own}
use Rattle.wait_model.proofs.Functions.{put_at, put_same, both_left, both_right}
use Rattle.wait_model.proofs.Sameness.{same_head, same_bit, same_trans, same_bit_is, same_done_is, failing_unmet}
use Rattle.wait_model.proofs.QueueLaws.FoundEntries.{IsFoundEntry, reach, walk_case}
use Rattle.wait_model.proofs.QueueLaws.CalledFirst.{one_or_behind, marked_before, at_or_behind}

-- the calls whose walk wakes whoever waits for their watch, in whatever state
abbrev pub is_walk : Call → Bool
is_walk (calls.Wake c mode.Normal n) = true
is_walk (calls.ClearBit w b) = true
is_walk (calls.SetVar v x) = true
is_walk _ = false

abbrev pub walks_for : Call → Watch → Bool
walks_for call on = is_walk call && same on (call_watch call)

-- a walk that breaks goes on from its place or from its bookmark
abbrev pub IsBehindMark : Option Mark → Walking → ℕ → Type 0
IsBehindMark mark w place = (w.place ≤ place) × ((k : Mark) → mark ≡ Some k → k.place ≤ place)

-- an entry at this place is still before the walk
abbrev pub Ahead : Option Mark → Point → ℕ → Type 0
Ahead mark (at.Walk (walking.Call w)) place = w.place ≤ place
Ahead mark (at.Walk (walking.Wake w c)) place = c.place ≤ place
Ahead mark (at.Walk (walking.Bit w c)) place = c.place ≤ place
Ahead mark (at.Walk (walking.Page st w c)) place = c.place ≤ place
Ahead mark (at.Walk (walking.Unqueue w who)) place = w.place ≤ place
Ahead mark (at.Walk (walking.BreakUnlock w)) place = IsBehindMark mark w place
Ahead mark (at.Walk (walking.BreakLock w)) place = IsBehindMark mark w place
Ahead mark (at.Walk (walking.Unmark w)) place = IsBehindMark mark w place
Ahead mark _ place = Unit {0}

-- the flag of a Woken entry at this place is still to be set
abbrev pub FlagAhead : Option Mark → Point → ℕ → Type 0
FlagAhead mark (at.Walk (walking.Wake w c)) place = c.place < place
FlagAhead mark p place = Ahead mark p place

abbrev pub IsAhead : Option Mark → Progress → Watch → ℕ → Type 0
IsAhead mark (now.Open call p) on place = walks_for call on ≡ true → Ahead mark p place
IsAhead mark now.Idle on place = Unit {0}
IsAhead mark now.Fresh on place = Unit {0}

abbrev pub IsFlagAhead : Option Mark → Progress → Watch → ℕ → Type 0
IsFlagAhead mark (now.Open call p) on place = walks_for call on ≡ true → FlagAhead mark p place
IsFlagAhead mark now.Idle on place = Unit {0}
IsFlagAhead mark now.Fresh on place = Unit {0}

-- whose flag is to be set is to be called
pub flag_first : (mark : Option Mark) (q : Progress) (on : Watch) (place : ℕ) → IsFlagAhead mark q on place
    → IsAhead mark q on place
flag_first mark (now.Open call (at.Walk (walking.Wake w c))) on place h = λ walks.
    let lt : c.place < place = h walks in omega arith
flag_first mark (now.Open call (at.Walk p)) on place h = h
flag_first mark (now.Open call p) on place h = h
flag_first mark now.Idle on place h = tt
flag_first mark now.Fresh on place h = tt

-- such a walk has the mode Normal, and its watch is no completion
walk_mode : (call : Call) → is_walk call ≡ true → mode_of call ≡ mode.Normal
walk_mode (calls.Wake c mode.Normal n) h = refl
walk_mode (calls.Wake c mode.Interruptible n) h = absurd (cc)
walk_mode call h = refl

walk_done : (call : Call) → is_walk call ≡ true → is_done (call_watch call) ≡ false
walk_done (calls.Wake c m n) h = refl
walk_done call h = cc

pub walks_none_done : (call : Call) (on : Watch) → walks_for call on ≡ true → is_done on ≡ true → ⊥
walks_none_done call on h d =
    let c : same on (call_watch call) ≡ true = both_right (is_walk call) (same on (call_watch call)) h in
    let e : on ≡ call_watch call = same_done_is on (call_watch call) d c in
    absurd (both_ways true (sym d ∙ ap is_done e
    ∙ walk_done call (both_left (is_walk call) (same on (call_watch call)) h)) refl)

-- a task whose word is lawful runs after a wake with the ordinary mask
meets_normal : (v : ℕ) → (v ≡ INTERRUPTIBLE) ⊎ ((v ≡ UNINTERRUPTIBLE) ⊎ (v ≡ KILLABLE)) → meets NORMAL v ≡ true
unfolding meets
meets_normal v (inl e) = rw e refl
meets_normal v (inr (inl e)) = rw e refl
meets_normal v (inr (inr e)) = rw e refl

woken_runs : (t : TaskRecord) → IsLawful t → (woken NORMAL t).state ≡ 0
woken_runs t l = by (meets NORMAL t.state) refl l.state
  where
    by : (b : Bool) → meets NORMAL t.state ≡ b → (t.state ≡ RUNNING)
        ⊎ ((t.state ≡ INTERRUPTIBLE) ⊎ ((t.state ≡ UNINTERRUPTIBLE) ⊎ (t.state ≡ KILLABLE)))
        → (if b then record t { state = RUNNING; runnable = true } else t).state ≡ 0
    by true h k = refl
    by false h (inl e) = e
    by false h (inr k) = absurd (both_ways true (sym (meets_normal t.state k) ∙ h) refl)

-- an entry whose watch's count is spent is for no page
counted_kind : (c d : Watch) (k : Kind) → same c d ≡ true → counted d ≡ true → Suited c k → is_page k ≡ false
counted_kind (watch.Plain c) d k key is f = elim f.1 [
  | inl q ↦ ap is_page q
  | inr (inl q) ↦ ap is_page q
  | inr (inr (inl q)) ↦ ap is_page q
  | inr (inr (inr q)) ↦ ap is_page q
]
counted_kind (watch.Done c) d k key is f = ap is_page f.1
counted_kind (watch.Var v o) d k key is f = ap is_page f.2
counted_kind (watch.Bit w b) (watch.Bit v a) k key is f = absurd (cc)
counted_kind (watch.Bit w b) d k key is f = absurd (cc)

module _ (s : State) (n me : ℕ) (call : Call) (on : Watch) (sound : IsSound s n) (apart : AreApart s.table.entry)
    (walks : walks_for call on ≡ true) (set : met s.table.words on ≡ true) where
  abbrev m : Option Mark
  m = s.table.mark me

  abbrev after_of : WalkPoint → Planned → Table
  after_of p x = steps s.table me (event_steps s me (given_at call (at.Walk p)) x.event)

  -- whoever waits after the event, and was before the walk, is before it still; and so it is with flags
  abbrev A : WalkPoint → Planned → Type 0
  A p x = (y : ℕ) (e : Entry) (i σ : ℕ) → Waits (after_of p x) y e on i σ → s.table.entry y ≡ Some e
      → Ahead m (at.Walk p) e.place → IsAhead ((after_of p x).mark me) (progress_at call x.next) on e.place

  abbrev F : WalkPoint → Planned → Type 0
  F p x = (y : ℕ) (e : Entry) (i : ℕ) → Unheard (after_of p x) y e on i → s.table.entry y ≡ Some e
      → FlagAhead m (at.Walk p) e.place → IsFlagAhead ((after_of p x).mark me) (progress_at call x.next) on e.place

  abbrev Both : WalkPoint → Planned → Type 0
  Both p x = A p x × F p x

  for_call : same on (call_watch call) ≡ true
  for_call = both_right (is_walk call) (same on (call_watch call)) walks

  -- an entry that stands for the watch is one of the walk's watch
  key_of : (e : Entry) → same on e.watch ≡ true → same e.watch (call_watch call) ≡ true
  key_of e w = same_trans on e.watch (call_watch call) w ∙ for_call

  mask_normal : (p : WalkPoint) → walk_mask (call_aim call) p ≡ NORMAL
  mask_normal (walking.Page st w c) = refl
  mask_normal p = ap mask_of (walk_mode call (both_left (is_walk call) (same on (call_watch call)) walks))

  -- whom the walk has woken does not wait, but by an entry for a page
  not_woken : (p : WalkPoint) (who y : ℕ) (hit : Bool) (q : Point) (e : Entry) (i σ : ℕ)
      → Waits (after_of p (go (event.Wake who hit) q)) y e on i σ → is_page e.kind ≡ false → y ≢ own who
  not_woken p who y hit q e i σ z np is = (z.down np).1 (sym (z.down np).0
      ∙ put_at (λ t. t.state ≡ 0) s.table.task who (woken (walk_mask (call_aim call) p) (s.table.task who)) (owner y)
      (λ _. subst (λ (k : ℕ). (woken k (s.table.task who)).state ≡ 0) (sym (mask_normal p))
      (woken_runs (s.table.task who) (sound.lawful who)))
      (λ ne. absurd (ne (ap owner is ∙ owner_own who))))

  -- the entry of this task, if it stands, is for no page
  abbrev Unpaged : CalledEntry → Type 0
  Unpaged c = (e : Entry) → s.table.entry (own c.who) ≡ Some e → is_page e.kind ≡ false

  -- the entries before the walk are the one that it calls, and such as stand behind it
  abbrev Turn : WalkPoint → CalledEntry → Type 0
  Turn p c = (y : ℕ) (e : Entry) → s.table.entry y ≡ Some e → same on e.watch ≡ true → Ahead m (at.Walk p) e.place
      → (y ≡ own c.who) ⊎ (c.place < e.place)

  -- those whose flag is to be set stand behind it
  abbrev FlagTurn : WalkPoint → CalledEntry → Type 0
  FlagTurn p c = (y : ℕ) (e : Entry) → s.table.entry y ≡ Some e → same on e.watch ≡ true → is_woken e.kind ≡ true
      → FlagAhead m (at.Walk p) e.place → c.place < e.place

  gone_on : (p : WalkPoint) (c : CalledEntry) (hit : Bool) (q : Point) → Turn p c → Unpaged c
      → (y : ℕ) (e : Entry) (i σ : ℕ) → Waits (after_of p (go (event.Wake c.who hit) q)) y e on i σ
      → s.table.entry y ≡ Some e → Ahead m (at.Walk p) e.place → c.place + 1 ≤ e.place
  gone_on p c hit q turn un y e i σ z stands ah = elim (turn y e stands z.watches ah) [
    | inl is ↦ absurd (not_woken p c.who y hit q e i σ z (un e (ap s.table.entry (sym is) ∙ stands)) is)
    | inr lt ↦ omega arith
  ]

  wake_both : (p : WalkPoint) (w : Walking) (c : CalledEntry) (hit : Bool) → Turn p c → FlagTurn p c → Unpaged c
      → Both p (wake_event w c hit)
  wake_both p w c hit turn flags un = by (past w c hit).spent
    where
      by : (b : Bool) → Both p (go (event.Wake c.who hit) (if b then at.Walk (walking.Spent (past w c hit))
          else at.Walk (walking.Call (past w c hit))))
      by true = ((λ y e i σ z stands ah. λ _. tt), (λ y e i z stands ah. λ _. tt))
      by false = (
        (λ y e i σ z stands ah. λ _.
            gone_on p c hit (at.Walk (walking.Call (past w c hit))) turn un y e i σ z stands ah),
        (λ y e i z stands ah. λ _. let lt : c.place < e.place = flags y e stands z.watches z.kind ah in omega arith),
      )

  off_both : (p : WalkPoint) (w : Walking) (c : CalledEntry) (hit : Bool) → Turn p c → FlagTurn p c → Unpaged c
      → Both p (wake_off_event w c hit)
  off_both p w c hit turn flags un = by hit
    where
      by : (b : Bool) → Both p (go (event.Wake c.who hit) (at.Walk (if b
          then walking.Unqueue (past w c hit) c.who else walking.Call (past w c hit))))
      by true = (
        (λ y e i σ z stands ah. λ _.
            gone_on p c hit (at.Walk (walking.Unqueue (past w c hit) c.who)) turn un y e i σ z stands ah),
        (λ y e i z stands ah. λ _. let lt : c.place < e.place = flags y e stands z.watches z.kind ah in omega arith),
      )
      by false = (
        (λ y e i σ z stands ah. λ _.
            gone_on p c hit (at.Walk (walking.Call (past w c hit))) turn un y e i σ z stands ah),
        (λ y e i z stands ah. λ _. let lt : c.place < e.place = flags y e stands z.watches z.kind ah in omega arith),
      )

  -- the walk calls an entry
  module _ (w u : Walking) (d : CalledEntry) (f : IsFoundEntry s.table.entry n (call_watch call) d)
      (there : IsCallSound n call (at.Walk (walking.Call w))) (turn : Turn (walking.Call w) d) where
    same_entry : (y : ℕ) (e : Entry) → s.table.entry y ≡ Some e → y ≡ own d.who → e ≡ f.it
    same_entry y e stands is = let z : Some e ≡ Some f.it = sym stands ∙ ap s.table.entry is ∙ f.stands in cc

    -- one of another kind than Woken has no flag that counts
    no_flag : (j : Kind) → d.kind ≡ j → is_woken j ≡ false → FlagTurn (walking.Call w) d
    no_flag j is other y e stands watches wo ah = elim (turn y e stands watches ah) [
      | inl q ↦ absurd (let k : true ≡ false = sym wo
          ∙ ap (λ (g : Entry). is_woken g.kind) (same_entry y e stands q)
          ∙ ap is_woken (sym (ap (λ (g : CalledEntry). g.kind) f.seen) ∙ is) ∙ other in cc)
      | inr lt ↦ lt
    ]

    -- its place, or one behind it
    from_here : (y : ℕ) (e : Entry) → s.table.entry y ≡ Some e → same on e.watch ≡ true
        → Ahead m (at.Walk (walking.Call w)) e.place → d.place ≤ e.place
    from_here y e stands watches ah = elim (turn y e stands watches ah) [
      | inl q ↦ let k : e.place ≡ d.place = ap (λ (g : Entry). g.place) (same_entry y e stands q)
          ∙ sym (ap (λ (g : CalledEntry). g.place) f.seen) in omega arith
      | inr lt ↦ omega arith
    ]

    flag_both : Both (walking.Call w) (go (event.Woken d.who) (at.Walk (walking.Wake u d)))
    flag_both = (
      (λ y e i σ z stands ah. λ _. from_here y e stands z.watches ah),
      (λ y e i z stands ah. λ _. elim (turn y e stands z.watches ah) [
        | inl q ↦ absurd (let no : put s.table.flag (own d.who) true y ≡ false = z.quiet in
            absurd (both_ways true (sym (put_same s.table.flag (own d.who) true)
            ∙ ap (put s.table.flag (own d.who) true) (sym q) ∙ no) refl))
        | inr lt ↦ lt
      ]),
    )

    -- a bit that is set is not met
    bit_clear : d.kind ≡ kind.Bit → call_fails call (seen_by s me call (at.Walk (walking.Call w))) ≡ true → ⊥
    bit_clear is fails =
        let b : is_bit (call_watch call) ≡ true = one_of_bits f.it.watch (call_watch call) f.key
        (bit_kind f.it.watch (subst (λ (k : Kind). Suited f.it.watch k)
        (sym (ap (λ (g : CalledEntry). g.kind) f.seen) ∙ is) f.queued.lawful.suited)) in
        let one : on ≡ call_watch call = same_bit_is on (call_watch call) (same_bit on (call_watch call) for_call b)
        for_call in
        let un : met s.table.words (call_watch call) ≡ false = failing_unmet s.table.words (call_watch call)
        (value_of s.table.words (call_watch call)) (call_watch call)
        (reads_value s.table.words sound.low (call_watch call) there.watch)
        (misses_fails (call_watch call) (value_of s.table.words (call_watch call)) fails) in
        absurd (both_ways true (sym set ∙ ap (met s.table.words) one ∙ un) refl)

    test_both : d.kind ≡ kind.Bit → (seen : Seen) → seen ≡ seen_by s me call (at.Walk (walking.Call w))
        → Both (walking.Call w) (tests (call_aim call) u d seen)
    test_both is seen sees = by (call_fails call seen) refl
      where
        by : (b : Bool) → call_fails call seen ≡ b → Both (walking.Call w) (go (load call seen)
            (at.Walk (if b then walking.Call (past u d false) else walking.Bit u d)))
        by true h = absurd (bit_clear is (sym (ap (call_fails call) sees) ∙ h))
        by false h = (
          (λ y e i σ z stands ah. λ _. from_here y e stands z.watches ah),
          (λ y e i z stands ah. λ _. from_here y e stands z.watches ah),
        )

    -- a page that is found set stops the walk; else the entry is the next that it tries the page for
    page_both : (seen : Seen) → Both (walking.Call w) (tests_page (call_aim call) u d seen)
    page_both seen = by (misses (call_watch call) seen.value)
      where
        by : (b : Bool) → Both (walking.Call w) (go (event.Load (number_of (call_watch call)) seen.value)
            (at.Walk (if b then walking.Stopped u else walking.Page staging.Try u d)))
        by true = ((λ y e i σ z stands ah. λ _. tt), (λ y e i z stands ah. λ _. tt))
        by false = (
          (λ y e i σ z stands ah. λ _. from_here y e stands z.watches ah),
          (λ y e i z stands ah. λ _. from_here y e stands z.watches ah),
        )

    -- an entry of this kind is for no page
    unpaged : (j : Kind) → d.kind ≡ j → is_page j ≡ false → Unpaged d
    unpaged j is np e stands =
        let z : Some e ≡ Some f.it = sym stands ∙ f.stands in
        let same : e ≡ f.it = cc in
        ap (λ (g : Entry). is_page g.kind) same ∙ ap (λ (g : CalledEntry). is_page g.kind) (sym f.seen)
        ∙ ap is_page is ∙ np

    entry_both : (j : Kind) (hit : Bool) → d.kind ≡ j → Both (walking.Call w)
        (call_entry (call_aim call) u d j (seen_by s me call (at.Walk (walking.Call w))) hit)
    entry_both kind.Default hit is = wake_both (walking.Call w) u d hit turn (no_flag kind.Default is refl)
        (unpaged kind.Default is refl)
    entry_both kind.Autoremove hit is = off_both (walking.Call w) u d hit turn (no_flag kind.Autoremove is refl)
        (unpaged kind.Autoremove is refl)
    entry_both kind.Woken hit is = flag_both
    entry_both kind.Bit hit is = test_both is (seen_by s me call (at.Walk (walking.Call w))) refl
    entry_both kind.Var hit is = off_both (walking.Call w) u d hit turn (no_flag kind.Var is refl)
        (unpaged kind.Var is refl)
    entry_both kind.Simple hit is = wake_both (walking.Call w) u d hit turn (no_flag kind.Simple is refl)
        (unpaged kind.Simple is refl)
    entry_both kind.Page hit is = page_both (seen_by s me call (at.Walk (walking.Call w)))

  -- the walk breaks, ends, or calls the next entry
  module _ (w : Walking) (k : IsCallSound n call (at.Walk (walking.Call w))) where
    abbrev r : Arrival
    r = reach s.table.entry s.table.mark s.queue n sound.linked (call_watch call) w.place w.calls k.walk.calls

    abbrev calls_on : Option CalledEntry → Planned
    calls_on o = call_next (call_aim call) (reached w r.calls) o (seen_by s me call (at.Walk (walking.Call w)))
        (meets (mask_of (mode_of call)) (s.table.task (called_task o)).state)

    found : r.breaks ≡ false → (d : CalledEntry) → called_by s.table.entry r.member ≡ Some d
        → IsFoundEntry s.table.entry n (call_watch call) d
    found none d = walk_case s.table.entry s.table.mark s.queue n sound.linked (call_watch call) w.place w.calls
        k.walk.calls (λ o. o ≡ Some d → IsFoundEntry s.table.entry n (call_watch call) d) (λ z. absurd (cc))
        (λ c f few z. let q : c ≡ d = cc in subst (IsFoundEntry s.table.entry n (call_watch call)) q f) none

    turn_of : (d : CalledEntry) → called_by s.table.entry r.member ≡ Some d → Turn (walking.Call w) d
    turn_of d is y e stands watches ah = at_or_behind s.table.entry s.table.mark s.queue n sound.linked
        (call_watch call) w.place w.calls k.walk.calls y e stands (key_of e watches) ah apart d is

    called_both : (o : Option CalledEntry) → r.breaks ≡ false → called_by s.table.entry r.member ≡ o
        → Both (walking.Call w) (calls_on o)
    called_both None none is = ((λ y e i σ z stands ah. tt), (λ y e i z stands ah. tt))
    called_both (Some d) none is = entry_both w (reached w r.calls) d (found none d is) k (turn_of d is) d.kind
        (meets (mask_of (mode_of call)) (s.table.task d.who).state) refl

    -- the bookmark goes to no place behind an entry that is before the walk
    marked_place : (h : ℕ) (q : Point) (y : ℕ) (e : Entry) → s.table.entry y ≡ Some e → same on e.watch ≡ true
        → w.place ≤ e.place
        → (j : Mark) → (after_of (walking.Call w) (go (event.Mark h) q)).mark me ≡ Some j → h ≡ call_head call
        → j.place ≤ e.place
    marked_place h q y e stands watches ah j is head = subst (λ (i : ℕ). i ≤ e.place) place
        (marked_before s.table.entry s.table.mark s.queue n sound.linked (call_watch call) w.place w.calls
        k.walk.calls y e stands (key_of e watches) ah)
      where
        place : mark_place r.member ≡ j.place
        place =
            let z = sym (put_same s.table.mark me
            (Some (mark_for s.table.entry (given_at call (at.Walk (walking.Call w))) h (s.queue h)))) ∙ is in
            mark_at j (mark_for s.table.entry (given_at call (at.Walk (walking.Call w))) h (s.queue h)) z
            (ap (λ (i : ℕ). mark_place (arrives_from s.table.entry (call_watch call) w.place w.calls
            (s.queue i)).member) (sym head))
          where
            mark_at : (a b : Mark) → Some b ≡ Some a → mark_place r.member ≡ b.place → mark_place r.member ≡ a.place
            mark_at a b s p = let t : b ≡ a = cc in p ∙ ap (λ (i : Mark). i.place) t

    turn_both : (b : Bool) → r.breaks ≡ b → Both (walking.Call w) (if b
        then go (event.Mark (call_head call)) (at.Walk (walking.BreakUnlock (reached w r.calls)))
        else calls_on (called_by s.table.entry (if b then None else r.member)))
    turn_both true is = (
      (λ y e i σ z stands ah. λ _. (
        ah,
        λ j mk. marked_place (call_head call) (at.Walk (walking.BreakUnlock (reached w r.calls))) y e stands z.watches
            ah j mk refl,
      )),
      (λ y e i z stands ah. λ _. (
        ah,
        λ j mk. marked_place (call_head call) (at.Walk (walking.BreakUnlock (reached w r.calls))) y e stands z.watches
            ah j mk refl,
      )),
    )
    turn_both false is = called_both (called_by s.table.entry r.member) is refl

  -- the walk is between two events of an entry's function
  module _ (c : CalledEntry) (g : IsFlagged s.table.entry c (Some (call_head call)) (call_watch call)) where
    flagged_turn : (y : ℕ) (e : Entry) → s.table.entry y ≡ Some e → same on e.watch ≡ true → c.place ≤ e.place
        → (y ≡ own c.who) ⊎ (c.place < e.place)
    flagged_turn y e stands watches le =
        let p : c.place ≡ g.it.place = ap (λ (d : CalledEntry). d.place) g.seen in
        elim (one_or_behind s.table.entry s.table.mark s.queue n sound.linked apart (own c.who) y g.it e g.stands stands
        (same_head g.it.watch (call_watch call) g.key ∙ sym (same_head e.watch (call_watch call) (key_of e watches)))
        (omega arith)) [
          | inl q ↦ inl (sym q)
          | inr lt ↦ inr (omega arith)
        ]

    -- the entry that the walk saw is for no page, where its kind says so, or where the count of its watch is spent
    seen_unpaged : is_page c.kind ≡ false → Unpaged c
    seen_unpaged np e stands =
        let z : Some e ≡ Some g.it = sym stands ∙ g.stands in
        let same : e ≡ g.it = cc in
        ap (λ (d : Entry). is_page d.kind) same ∙ ap (λ (d : CalledEntry). is_page d.kind) (sym g.seen) ∙ np

    counted_unpaged : counted (call_watch call) ≡ true → Unpaged c
    counted_unpaged is e stands =
        let z : Some e ≡ Some g.it = sym stands ∙ g.stands in
        let same : e ≡ g.it = cc in
        ap (λ (d : Entry). is_page d.kind) same
        ∙ counted_kind g.it.watch (call_watch call) g.it.kind g.key is
        (sound.linked.entries (own c.who) g.it g.stands).lawful.suited

  take_both : (w : Walking) (who : ℕ) → Both (walking.Unqueue w who) (go (event.Unqueue who) (onward w))
  take_both w who = by w.spent
    where
      by : (b : Bool) → Both (walking.Unqueue w who) (go (event.Unqueue who) (if b then at.Walk (walking.Spent w)
          else at.Walk (walking.Call w)))
      by true = ((λ y e i σ z stands ah. λ _. tt), (λ y e i z stands ah. λ _. tt))
      by false = ((λ y e i σ z stands ah. λ _. ah), (λ y e i z stands ah. λ _. ah))

  -- the walk is between two events of the function of an entry for a page: until it is off, the entry is before the
  -- walk
  hands_both : (st : PageStage) (w : Walking) (c : CalledEntry) (seen : Seen) → Turn (walking.Page st w c) c
      → Both (walking.Page st w c) (hands_event (call_aim call) st w c seen)
  hands_both staging.Try w c seen turn = by (misses (call_watch call) seen.value)
    where
      by : (b : Bool) → Both (walking.Page staging.Try w c) (go (event.TasFor (word_of (call_watch call)) c.who
          (flag (bit_at seen.value (bit_of (call_watch call)))))
          (at.Walk (if b then walking.Stopped w else walking.Page staging.Hand w c)))
      by true = ((λ y e i σ z stands ah. λ _. tt), (λ y e i z stands ah. λ _. tt))
      by false = ((λ y e i σ z stands ah. λ _. ah), (λ y e i z stands ah. λ _. ah))
  hands_both staging.Hand w c seen turn = ((λ y e i σ z stands ah. λ _. ah), (λ y e i z stands ah. λ _. ah))
  hands_both staging.Wake w c seen turn = ((λ y e i σ z stands ah. λ _. ah), (λ y e i z stands ah. λ _. ah))
  hands_both staging.Off w c seen turn = by (past w c true).spent
    where
      behind : (y : ℕ) (e : Entry) → put s.table.entry (own c.who) None y ≡ Some e → s.table.entry y ≡ Some e
          → same on e.watch ≡ true → c.place ≤ e.place → c.place + 1 ≤ e.place
      behind y e left stands watches ah = elim (turn y e stands watches ah) [
        | inl is ↦ absurd (none-some e (sym (put_same s.table.entry (own c.who) None)
            ∙ ap (put s.table.entry (own c.who) None) (sym is) ∙ left))
        | inr lt ↦ omega arith
      ]

      by : (b : Bool) → Both (walking.Page staging.Off w c) (go (event.Unqueue c.who)
          (if b then at.Walk (walking.Spent (past w c true)) else at.Walk (walking.Call (past w c true))))
      by true = ((λ y e i σ z stands ah. λ _. tt), (λ y e i z stands ah. λ _. tt))
      by false = (
        (λ y e i σ z stands ah. λ _. behind y e z.stands stands z.watches ah),
        (λ y e i z stands ah. λ _. behind y e z.stands stands z.watches ah),
      )

  resumed_place : (w : Walking) (o : Option Mark) (place : ℕ) → IsBehindMark o w place → (resumed w o).place ≤ place
  resumed_place w None place h = h.0
  resumed_place w (Some k) place h = h.1 k refl

  -- a lock leaves the bookmark
  locked_mark : (p : WalkPoint) (h : ℕ) → (steps s.table me (event_steps s me (given_at call (at.Walk p))
      (event.Lock h))).mark ≡ s.table.mark
  locked_mark p h = (looks_same (tables.next s.table me
      (step.Lock h (given_at call (at.Walk p)).walk (head_word (s.table.holder h) (s.table.spent h)))) s.table.entry
      me).mark

  still_behind : (w : Walking) (place : ℕ) (f : ℕ → Option Mark) → f ≡ s.table.mark → IsBehindMark m w place
      → IsBehindMark (f me) w place
  still_behind w place f e h = (h.0, λ k z. h.1 k (sym (ap (λ (g : ℕ → Option Mark). g me) e) ∙ z))

  pub walk_both : (p : WalkPoint) → IsCallSound n call (at.Walk p)
      → IsPlaced s.table.entry (s.table.view me) me (now.Open call (at.Walk p))
      → CountedAt s.table.entry (s.table.view me) call (at.Walk p) → Both p (planned s me call (at.Walk p))
  walk_both walking.Lock k pl z = ((λ y e i σ w stands ah. λ _. omega arith), (λ y e i w stands ah. λ _. omega arith))
  walk_both (walking.Call w) k pl z = turn_both w k (r w k).breaks refl
  walk_both (walking.Wake w c) k pl z = wake_both (walking.Wake w c) w c
      (meets (mask_of (mode_of call)) (s.table.task c.who).state) (flagged_turn c (pl.flagged c refl))
      (λ y e stands watches wo ah. ah) (counted_unpaged c (pl.flagged c refl) z.1)
  walk_both (walking.Bit w c) k pl z = off_both (walking.Bit w c) w c
      (meets (mask_of (mode_of call)) (s.table.task c.who).state) (flagged_turn c (pl.flagged c refl))
      (λ y e stands watches wo ah. absurd (both_ways true (sym wo
      ∙ (sound.kept.facts.suits y e stands).1 (same_bit e.watch (call_watch call) (key_of e watches) z.1)) refl))
      (seen_unpaged c (pl.flagged c refl) z.3)
  walk_both (walking.Page st w c) k pl z = hands_both st w c (seen_by s me call (at.Walk (walking.Page st w c)))
      (flagged_turn c (pl.flagged c refl))
  walk_both (walking.Unqueue w who) k pl z = take_both w who
  walk_both (walking.Spent w) k pl z = ((λ y e i σ f stands ah. tt), (λ y e i f stands ah. tt))
  walk_both (walking.Stopped w) k pl z = ((λ y e i σ f stands ah. tt), (λ y e i f stands ah. tt))
  walk_both (walking.BreakUnlock w) k pl z = ((λ y e i σ f stands ah. λ _. ah), (λ y e i f stands ah. λ _. ah))
  walk_both (walking.BreakLock w) k pl z = (
    (λ y e i σ f stands ah. λ _. still_behind w e.place _ (locked_mark (walking.BreakLock w) (call_head call)) ah),
    (λ y e i f stands ah. λ _. still_behind w e.place _ (locked_mark (walking.BreakLock w) (call_head call)) ah),
  )
  walk_both (walking.Unmark w) k pl z = (
    (λ y e i σ f stands ah. λ _. resumed_place w m e.place ah),
    (λ y e i f stands ah. λ _. resumed_place w m e.place ah),
  )
