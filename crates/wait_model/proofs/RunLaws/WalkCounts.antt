-- What a walk knows of its count: at each event that its task makes, and at each of another task.
use Rattle.std.proofs.lemmas.Option.{none-some}
use Rattle.std.proofs.lemmas.Bool.{both_ways}
use Rattle.std.proofs.Common.{refl, sym, ◌∙◌, ap, subst, arith, inl, inr}
use Rattle.std.specs.Prelude.{ℕ, zero, suc, ◌≡◌, ◌≢◌, ◌<◌, Bool, true, false, not, ◌&&◌, ◌||◌, ◌==◌, if◌then◌else◌}
use Rattle.std.specs.Prelude.{Option, Some, None}
use Rattle.wait_model.specs.{declared.layout.TheConstants.TASKS, declared.layout.TheConstants.ENTRIES}
use Rattle.wait_model.specs.{declared.watches.Watch.Watch, declared.watches.Kind.Kind, declared.watches.Entry.Entry}
use Rattle.wait_model.specs.{declared.watches.Aim.Aim, declared.queues.CalledEntry.CalledEntry}
use Rattle.wait_model.specs.{declared.queues.Walking.Walking, declared.queues.Mark.Mark, declared.calls.Call.Call}
use Rattle.wait_model.specs.{declared.calls.Event.Event, declared.points.Point.Point}
use Rattle.wait_model.specs.{declared.points.WalkPoint.WalkPoint, declared.points.Given.Given}
use Rattle.wait_model.specs.{declared.points.Seen.Seen, declared.points.Next.Next, declared.points.Planned.Planned}
use Rattle.wait_model.specs.{declared.points.Progress.Progress, Functions.put, Admission.is_standing}
use Rattle.wait_model.specs.{Admission.IsStandingKind, declared.tasks.TaskRecord.TaskRecord, Facts.Agrees, Facts.Facts}
use Rattle.wait_model.specs.{Tasks.meets, Tables.steps, Tables.value_of, Queues.place_for, Queues.Arrival}
use Rattle.wait_model.specs.declared.points.PageStage.{PageStage}
use Rattle.wait_model.specs.Runs.{called_of, State, own, entry_for, looks_below, looks, seen_by, event_steps, planned}
use Rattle.wait_model.specs.Runs.{progress_at, after_event, busy_head}
use Rattle.wait_model.specs.Reached.{free, IsHome, held_at, taken_by, IsQueued, IsTaken, IsFlagged, IsPlaced}
use Rattle.wait_model.specs.Reached.{IsCallSound, WalksFor, IsSelecting, MayEndSpent, CountedAt, CountedBy, IsSound}
use Rattle.wait_model.specs.Watches.{same, head_of, counted, is_bit, is_var, mask_of, owner, is_page, page, word_of}
use Rattle.wait_model.specs.Watches.{bit_of, misses, was_clear}
use Rattle.wait_model.specs.Words.{entry_word, head_word, Suited, bit_at, flag}
use Rattle.wait_model.specs.Views.{View, Walk, Look, unseen, off, elsewhere, shown}
use Rattle.wait_model.specs.Fold.{begun, is_off, picks, after, after_all}
use Rattle.wait_model.specs.Points.{call_aim, call_watch, call_head, mode_of, given_at}
use Rattle.wait_model.specs.Programs.{go, load, call_fails, past, onward, reached, resumed, wake_event, wake_off_event}
use Rattle.wait_model.specs.Programs.{tests, call_entry, tests_page}
use Rattle.wait_model.specs.declared.watches.Watch.TheVariants as watch
use Rattle.wait_model.specs.declared.watches.Kind.TheVariants as kind
use Rattle.wait_model.specs.declared.calls.Event.TheVariants as event
use Rattle.wait_model.specs.declared.points.Point.TheVariants as at
use Rattle.wait_model.specs.declared.points.WalkPoint.TheVariants as walking
use Rattle.wait_model.specs.declared.points.Next.TheVariants as next
use Rattle.wait_model.specs.declared.points.Progress.TheVariants as now
use Rattle.wait_model.specs.declared.steps.Step.TheVariants as step
use Rattle.wait_model.specs.Tables as tables
use Rattle.wait_model.proofs.{RunLaws.OthersEvents.Changes, WordLaws.DecodedWords.task_read}
use Rattle.wait_model.proofs.{WordLaws.DecodedWords.owner_own, HistoryLaws.HoldLooks.looks_same}
use Rattle.wait_model.proofs.{HistoryLaws.UnlockedLooks.peeks_same, WordLaws.CondWords.set_rest, Functions.put_at}
use Rattle.wait_model.proofs.Functions.{both_left}
use Rattle.wait_model.proofs.QueueLaws.FoundEntries.{IsFoundEntry, breaks_or_calls, calls_on, reach, walk_case}
use Rattle.wait_model.proofs.QueueLaws.OutsideWalks.{IsOutside, goes_away, program_away}
use Rattle.wait_model.proofs.Sameness.{same_refl, same_head, same_trans, same_bit_is}
use Rattle.wait_model.specs.declared.points.PageStage.TheVariants as staging

-- a place outside walks, or before the lock of one, tells nothing of a count
away_counted : (entry : ℕ → Option Entry) (v : View) (call : Call) (q : Next) → goes_away q ≡ true
    → CountedBy entry v (progress_at call q)
away_counted entry v call (next.Go (at.Walk walking.Lock)) h = tt
away_counted entry v call (next.Go (at.Walk p)) h = absurd (cc)
away_counted entry v call (next.Go p) h = tt
away_counted entry v call (next.Ends a) h = tt

-- the looks after a lock leave the walk that it began
looks_walk_below : (f : ℕ → Option Entry) (n : ℕ) (v : View) → (after_all v (looks_below f n)).walk ≡ v.walk
looks_walk_below f zero v = refl
looks_walk_below f (suc n) v = looks_walk_below f n (after (step.Saw n (entry_word (f n))) v)

looks_walk : (f : ℕ → Option Entry) (v : View) → (after_all v (looks f)).walk ≡ v.walk
unfolding looks
looks_walk f v = looks_walk_below f ENTRIES v

-- a walk that a lock begins or goes on with is for the aim's watch
begun_for : (o : Option Walk) (a : Aim) (w : Walk) → begun o (Some a) ≡ Some w → same a.watch w.watch ≡ true
begun_for None a w e =
    let s : record { watch = a.watch; mask = mask_of a.mode; from = 0 } ≡ w = cc in
    subst (λ (x : Walk). same a.watch x.watch ≡ true) s (same_refl a.watch)
begun_for (Some u) a w e = by (same a.watch u.watch) (u.mask == mask_of a.mode) refl e
  where
    by : (b d : Bool) → same a.watch u.watch ≡ b → (if b && d then Some u
        else Some (record { watch = a.watch; mask = mask_of a.mode; from = 0 })) ≡ Some w → same a.watch w.watch ≡ true
    by true true t e = let s : u ≡ w = cc in subst (λ (x : Walk). same a.watch x.watch ≡ true) s t
    by true false t e =
        let s : record { watch = a.watch; mask = mask_of a.mode; from = 0 } ≡ w = cc in
        subst (λ (x : Walk). same a.watch x.watch ≡ true) s (same_refl a.watch)
    by false d t e =
        let s : record { watch = a.watch; mask = mask_of a.mode; from = 0 } ≡ w = cc in
        subst (λ (x : Walk). same a.watch x.watch ≡ true) s (same_refl a.watch)

-- watches by kinds
counted_ends : (c : Watch) → counted c ≡ true → (is_var c ≡ false) × (is_bit c ≡ true → ⊥)
counted_ends (watch.Plain c) h = (refl, λ b. cc)
counted_ends (watch.Done d) h = (refl, λ b. cc)
counted_ends (watch.Bit w b) h = absurd (cc)
counted_ends (watch.Var v o) h = absurd (cc)

abbrev is_keyed : Kind → Bool
is_keyed kind.Bit = true
is_keyed kind.Var = true
is_keyed kind.Page = true
is_keyed _ = false

-- an entry of another kind is one of a watch with a spent count, one of a bit's kind is one of a bit
kind_counted : (c d : Watch) (k : Kind) → Suited c k → same c d ≡ true → is_keyed k ≡ false → counted d ≡ true
kind_counted (watch.Plain c) (watch.Plain d) k s h i = refl
kind_counted (watch.Done c) (watch.Done d) k s h i = refl
kind_counted (watch.Bit w b) d k s h i = absurd (elim s.2 [
  | inl e ↦ absurd (both_ways true (sym (ap is_keyed e) ∙ i) refl)
  | inr e ↦ absurd (both_ways true (sym (ap is_keyed e.0) ∙ i) refl)
])
kind_counted (watch.Var v o) d k s h i = absurd (both_ways true (sym (ap is_keyed s.2) ∙ i) refl)
kind_counted _ _ k s h i = absurd (cc)

pub one_of_bits : (c d : Watch) → same c d ≡ true → is_bit c ≡ true → is_bit d ≡ true
one_of_bits (watch.Bit w b) (watch.Bit v a) s h = refl
one_of_bits _ _ s h = absurd (cc)

one_of_vars : (c d : Watch) → same c d ≡ true → is_var d ≡ true → is_var c ≡ true
one_of_vars (watch.Var v o) d s h = refl
one_of_vars (watch.Plain c) (watch.Var v o) s h = absurd (cc)
one_of_vars (watch.Done c) (watch.Var v o) s h = absurd (cc)
one_of_vars (watch.Bit w b) (watch.Var v o) s h = absurd (cc)
one_of_vars _ _ s h = absurd (cc)

not_var : (c : Watch) → (is_var c ≡ true → ⊥) → is_var c ≡ false
not_var (watch.Var v o) h = absurd (h refl)
not_var _ h = refl

abbrev of_bits : Kind → Bool
of_bits kind.Bit = true
of_bits kind.Page = true
of_bits _ = false

bit_suited : (c : Watch) (k : Kind) → Suited c k → of_bits k ≡ true → is_bit c ≡ true
bit_suited (watch.Bit w b) k s i = refl
bit_suited (watch.Var v o) k s i = absurd (both_ways false refl (sym (ap of_bits s.2) ∙ i))
bit_suited (watch.Done d) k s i = absurd (both_ways false refl (sym (ap of_bits s.1) ∙ i))
bit_suited (watch.Plain c) k s i = absurd (elim s.1 [
  | inl a ↦ both_ways false refl (sym (ap of_bits a) ∙ i)
  | inr a ↦ elim a [
    | inl b ↦ both_ways false refl (sym (ap of_bits b) ∙ i)
    | inr b ↦ elim b [
      | inl d ↦ both_ways false refl (sym (ap of_bits d) ∙ i)
      | inr d ↦ both_ways false refl (sym (ap of_bits d) ∙ i)
    ]
  ]
])

pub bit_kind : (c : Watch) → Suited c kind.Bit → is_bit c ≡ true
bit_kind c s = bit_suited c kind.Bit s refl

-- an entry of a page is one of the page
page_watch : (c : Watch) → Suited c kind.Page → c ≡ page (word_of c)
page_watch (watch.Bit w b) s = elim s.2 [
  | inl e ↦ absurd (cc)
  | inr e ↦ ap (λ (k : ℕ). watch.Bit w k) e.1
]
page_watch c s = absurd (let z : is_bit c ≡ true = bit_suited c kind.Page s refl in cc)

-- a walk's watch that calls such an entry is the page
walk_page : (c d : Watch) → c ≡ page (word_of c) → same c d ≡ true → d ≡ page (word_of d)
walk_page c d p s =
    let bit : is_bit c ≡ true = ap is_bit p in
    let e : c ≡ d = same_bit_is c d bit s in subst (λ (w : Watch). w ≡ page (word_of w)) e p

-- the step that takes off an entry that stands at the held head is of that entry
seen_entry : (h : ℕ) (o : Option Entry) (e : Entry) (l : Look) → o ≡ Some e → head_of e.watch ≡ h
    → Agrees h l o → l ≢ unseen → l ≡ shown e
seen_entry h o e unseen is at a n = absurd (n refl)
seen_entry h o e off is at a n = absurd (a e is at)
seen_entry h o e elsewhere is at a n = absurd (a e is at)
seen_entry h o e (shown f) is at a n =
    let z : Some f ≡ Some e = sym a.0 ∙ is in
    let y : f ≡ e = cc in ap shown y

or_both : (a b c : Bool) → b ≡ true → c ≡ true → (a || (b && c)) ≡ true
or_both true b c h k = refl
or_both false b c h k = rw (h, k) refl

or_left : (a b : Bool) → a ≡ true → (a || b) ≡ true
or_left a b h = rw h refl

or_true : (a : Bool) → (a || true) ≡ true
or_true true = refl
or_true false = refl

picked_up : (before : Bool) (o : Option Walk) (l : Look) (roused : Bool) (mine : Option Entry) (w : Walk) (e : Entry)
    → o ≡ Some w → l ≡ shown e → roused ≡ true → mine ≡ None → e.exclusive ≡ true → is_bit w.watch ≡ true
    → same e.watch w.watch ≡ true → is_page e.kind ≡ false
    → (before || picks o l roused (not (is_off mine))) ≡ true
picked_up before o l roused mine w e a b c d x i j k = rw (a, b, c, d, x, i, j, k) (or_true before)

module _ (s : State) (n me : ℕ) (call : Call) (sound : IsSound s n) (mine : me < TASKS) where
  abbrev v : View
  v = s.table.view me

  abbrev P : WalkPoint → Type 0
  P p = IsPlaced s.table.entry v me (now.Open call (at.Walk p))

  abbrev C : WalkPoint → Type 0
  C p = CountedAt s.table.entry v call (at.Walk p)

  -- what is known after an event
  abbrev T : Point → Planned → Type 0
  T p x = CountedBy (steps s.table me (event_steps s me (given_at call p) x.event)).entry
      (after_all v (event_steps s me (given_at call p) x.event)) (progress_at call x.next)

  abbrev W : WalkPoint → Planned → Type 0
  W p x = T (at.Walk p) x

  -- a walk for a watch with a spent count wakes a task
  wakes_counted : (p : WalkPoint) (w : Walking) (c : CalledEntry) (hit : Bool) → WalksFor call v
      → counted (call_watch call) ≡ true → W p (wake_event w c hit)
  wakes_counted p w c hit f h = by (past w c hit).spent
    where
      by : (b : Bool) → W p (go (event.Wake c.who hit) (if b then at.Walk (walking.Spent (past w c hit))
          else at.Walk (walking.Call (past w c hit))))
      by true =
          let z = counted_ends (call_watch call) h in
          (f, record { shared = z.0; picked = λ b u i. absurd (z.1 b) })
      by false = f

  -- a walk wakes the task of an entry that it takes off next
  off_counted : (p : WalkPoint) (w : Walking) (c : CalledEntry) (hit : Bool)
      → meets (given_at call (at.Walk p)).mask (s.table.task c.who).state ≡ hit → WalksFor call v
      → (it : Entry) → c ≡ called_of c.who it → s.table.entry (own c.who) ≡ Some it → IsQueued n (own c.who) it
      → same it.watch (call_watch call) ≡ true
      → (is_bit (call_watch call) ≡ true → v.bits.stored (own c.who) ≡ None) → is_page it.kind ≡ false
      → W p (wake_off_event w c hit)
  off_counted p w c false met f it seen stands q key other np = f
  off_counted p w c true met f it seen stands q key other np = (
    f,
    λ spent.
        let x : it.exclusive ≡ true = sym (ap (λ (d : CalledEntry). d.exclusive) seen)
        ∙ both_left c.exclusive (w.left == 1) spent in
        record {
          shared = not_var (call_watch call)
              (λ b. absurd (both_ways true (sym x ∙ q.shared (one_of_vars it.watch (call_watch call) key b)) refl));
          it = it;
          stands = stands;
          exclusive = x;
          key = key;
          roused = λ b. or_both (v.hold.roused c.who) _ (c.who == c.who)
              (ap (λ (t : TaskRecord). meets (given_at call (at.Walk p)).mask t.state)
              (task_read (s.table.task c.who) (sound.lawful c.who)) ∙ met) (grind arith);
          other = other;
          unpaged = λ _. np;
        },
  )

  -- a walk loads the bit of an entry
  tests_counted : (p : WalkPoint) (w : Walking) (c : CalledEntry) (seen : Seen) → WalksFor call v
      → is_bit (call_watch call) ≡ true → v.bits.stored (own c.who) ≡ None → is_page c.kind ≡ false
      → W p (tests (call_aim call) w c seen)
  tests_counted p w c seen f bit other np = by (call_fails call seen)
    where
      by : (b : Bool) → W p (go (load call seen) (at.Walk (if b then walking.Call (past w c false)
          else walking.Bit w c)))
      by true = f
      by false = (f, bit, other, np)

  -- a walk loads a page, and takes it for the entry's task where that finds it clear
  pages_counted : (p : WalkPoint) (w : Walking) (c : CalledEntry) (seen : Seen) → WalksFor call v
      → call_watch call ≡ page (word_of (call_watch call)) → W p (tests_page (call_aim call) w c seen)
  pages_counted p w c seen f is = by (call_fails call seen)
    where
      by : (b : Bool) → W p (go (load call seen) (at.Walk (if b then walking.Stopped w
          else walking.Page staging.Try w c)))
      by true = tt
      by false = (f, is, λ t. absurd (cc))

  tried_counted : (w : Walking) (c : CalledEntry) → WalksFor call v
      → call_watch call ≡ page (word_of (call_watch call))
      → W (walking.Page staging.Try w c) (planned s me call (at.Walk (walking.Page staging.Try w c)))
  tried_counted w c f is = by (call_fails call (seen_by s me call (at.Walk (walking.Page staging.Try w c)))) refl
    where
      k : ℕ
      k = word_of (call_watch call)

      r : ℕ
      r = value_of s.table.words (call_watch call)

      e : Event
      e = event.TasFor k c.who (flag (bit_at r (bit_of (call_watch call))))

      clear : misses (call_watch call) r ≡ false → was_clear (page k) (value_of s.table.words (page k)) ≡ true
      clear q = ap not (sym (ap (λ (d : Watch). misses d (value_of s.table.words d)) is) ∙ q)

      by : (b : Bool) → misses (call_watch call) r ≡ b → W (walking.Page staging.Try w c) (go e (at.Walk (if b
          then walking.Stopped w else walking.Page staging.Hand w c)))
      by true q = tt
      by false q = (f, is, λ _ u i. taken u i)
        where
          taken : (u : Walk) → v.walk ≡ Some u
              → (after (step.TasFor (own c.who) k (value_of s.table.words (page k))) v).hold.picked ≡ true
          taken u i = rw (i, sym_page u i, clear q) (or_true v.hold.picked)
            where
              sym_page : (u : Walk) → v.walk ≡ Some u → same (page k) u.watch ≡ true
              sym_page u i = subst (λ (d : Watch). same d u.watch ≡ true) is (f u i)

  hands_counted : (st : PageStage) (w : Walking) (c : CalledEntry) → C (walking.Page st w c)
      → W (walking.Page st w c) (planned s me call (at.Walk (walking.Page st w c)))
  hands_counted staging.Try w c z = tried_counted w c z.0 z.1
  hands_counted staging.Hand w c z = (z.0, z.1, λ _. z.2 refl)
  hands_counted staging.Wake w c z = (z.0, z.1, λ _. z.2 refl)
  hands_counted staging.Off w c z = by (past w c true).spent
    where
      ends : MayEndSpent (after (step.Unqueue (own c.who)) v) call
      ends = record { shared = ap is_var z.1; picked = λ b u i. or_left v.hold.picked _ (z.2 refl u i) }

      by : (b : Bool) → W (walking.Page staging.Off w c) (go (event.Unqueue c.who)
          (if b then at.Walk (walking.Spent (past w c true)) else at.Walk (walking.Call (past w c true))))
      by true = (z.0, ends)
      by false = z.0

  -- an entry that the walk finds
  module _ (w : Walking) (pl : P (walking.Call w)) (f : WalksFor call v) (u : Walking) (c : CalledEntry)
      (d : IsFoundEntry s.table.entry n (call_watch call) c) where
    -- one that goes is none of the own task, whose entry stays
    others_bit : is_standing d.it.kind ≡ false → v.bits.stored (own c.who) ≡ None
    others_bit is = sound.stored me (own c.who) apart
      where
        apart : owner (own c.who) ≢ me
        apart same =
            let mine : own c.who ≡ own me = ap own (sym (owner_own c.who) ∙ same) in
            let there : s.table.entry (own me) ≡ Some d.it = sym (ap s.table.entry mine) ∙ d.stands in
            let h : IsStandingKind d.it.kind = subst (IsHome free (call_watch call)) there pl.home in
            absurd (both_ways true (sym h ∙ is) refl)

    kind_met : (j : Kind) → d.it.kind ≡ j → is_keyed j ≡ false → counted (call_watch call) ≡ true
    kind_met j is other = kind_counted d.it.watch (call_watch call) d.it.kind d.queued.lawful.suited d.key
        (ap is_keyed is ∙ other)

    is_bits : d.it.kind ≡ kind.Bit → is_bit (call_watch call) ≡ true
    is_bits is = one_of_bits d.it.watch (call_watch call) d.key
        (bit_kind d.it.watch (subst (Suited d.it.watch) is d.queued.lawful.suited))

    is_paged : d.it.kind ≡ kind.Page → call_watch call ≡ page (word_of (call_watch call))
    is_paged is = walk_page d.it.watch (call_watch call)
        (page_watch d.it.watch (subst (Suited d.it.watch) is d.queued.lawful.suited)) d.key

    kind_seen : (j : Kind) → d.it.kind ≡ j → is_page c.kind ≡ is_page j
    kind_seen j is = ap (λ (x : CalledEntry). is_page x.kind) d.seen ∙ ap is_page is

    entry_counted : (j : Kind) (seen : Seen) (hit : Bool)
        → meets (mask_of (mode_of call)) (s.table.task c.who).state ≡ hit → d.it.kind ≡ j
        → W (walking.Call w) (call_entry (call_aim call) u c j seen hit)
    entry_counted kind.Default seen hit met is = wakes_counted (walking.Call w) u c hit f
        (kind_met kind.Default is refl)
    entry_counted kind.Autoremove seen hit met is = off_counted (walking.Call w) u c hit met f d.it
        d.seen d.stands d.queued
        d.key
        (λ b. others_bit (ap is_standing is)) (ap is_page is)
    entry_counted kind.Woken seen hit met is = (f, kind_met kind.Woken is refl)
    entry_counted kind.Bit seen hit met is = tests_counted (walking.Call w) u c seen f (is_bits is)
        (others_bit (ap is_standing is)) (kind_seen kind.Bit is)
    entry_counted kind.Page seen hit met is = pages_counted (walking.Call w) u c seen f (is_paged is)
    entry_counted kind.Var seen hit met is = off_counted (walking.Call w) u c hit met f d.it d.seen d.stands d.queued
        d.key
        (λ b. others_bit (ap is_standing is)) (ap is_page is)
    entry_counted kind.Simple seen hit met is = wakes_counted (walking.Call w) u c hit f (kind_met kind.Simple is refl)

  -- a walk breaks, or calls the next entry
  module _ (w : Walking) (k : IsCallSound n call (at.Walk (walking.Call w))) (pl : P (walking.Call w))
      (f : WalksFor call v) where
    abbrev r : Arrival
    r = reach s.table.entry s.table.mark s.queue n sound.linked (call_watch call) w.place w.calls k.walk.calls

    turn_counted : (b : Bool) → r.breaks ≡ b → W (walking.Call w) (breaks_or_calls s me call w r b)
    turn_counted true is = f
    turn_counted false is = walk_case s.table.entry s.table.mark s.queue n sound.linked (call_watch call) w.place
        w.calls k.walk.calls (λ o. W (walking.Call w) (calls_on s me call w r o)) tt
        (λ c d few. entry_counted w pl f (reached w r.calls) c d c.kind
        (seen_by s me call (at.Walk (walking.Call w)))
        (meets (mask_of (mode_of call)) (s.table.task c.who).state) refl
        (sym (ap (λ (x : CalledEntry). x.kind) d.seen))) is

  -- the walk takes off the entry that it has woken
  take_counted : (w : Walking) (who : ℕ) → who < TASKS → P (walking.Unqueue w who)
      → C (walking.Unqueue w who) → W (walking.Unqueue w who) (go (event.Unqueue who) (onward w))
  take_counted w who small pl z = by w.spent refl
    where
      ends : IsSelecting s.table.entry v call who
          → MayEndSpent (after (step.Unqueue (own who)) v) call
      ends g = record {
        shared = g.shared;
        picked = λ b u i. picked_up v.hold.picked v.walk (v.hold.book (own who)) (v.hold.roused (owner (own who)))
            (v.bits.stored (own who)) u g.it i
            (seen_entry (call_head call) (s.table.entry (own who)) g.it (v.hold.book (own who)) g.stands
            (same_head g.it.watch (call_watch call) g.key)
            ((sound.kept.facts.views me).hold.agrees (call_head call) (own who) pl.head)
            (sound.whole me (call_head call) (own who) pl.head (omega arith)))
            (ap v.hold.roused (owner_own who) ∙ g.roused b) (g.other b) g.exclusive
            (one_of_bits (call_watch call) u.watch (z.0 u i) b)
            (sym (same_trans g.it.watch (call_watch call) u.watch g.key) ∙ z.0 u i) (g.unpaged b);
      }

      by : (b : Bool) → w.spent ≡ b → W (walking.Unqueue w who) (go (event.Unqueue who)
          (if b then at.Walk (walking.Spent w) else at.Walk (walking.Call w)))
      by true is = (z.0, ends (z.1 is))
      by false is = z.0

  lock_counted : (a : Aim) (h word : ℕ) → a.watch ≡ call_watch call
      → WalksFor call (after_all (after (step.Lock h (Some a) word) v) (looks s.table.entry))
  lock_counted a h word is w i = subst (λ (c : Watch). same c w.watch ≡ true) is
      (begun_for v.walk a w (sym (looks_walk s.table.entry (after (step.Lock h (Some a) word) v)) ∙ i))

  resume_counted : (w : Walking) (o : Option Mark) → WalksFor call v
      → W (walking.Unmark w) (go (event.Unmark (call_head call)) (at.Walk (walking.Call (resumed w o))))
  resume_counted w o f = f

  walk_counted : (p : WalkPoint) → IsCallSound n call (at.Walk p) → P p → C p
      → W p (planned s me call (at.Walk p))
  walk_counted walking.Lock k pl z = lock_counted _ (call_head call) _ refl
  walk_counted (walking.Call w) k pl z = turn_counted w k pl z (r w k pl z).breaks refl
  walk_counted (walking.Wake w c) k pl z = wakes_counted (walking.Wake w c) w c
      (meets (mask_of (mode_of call)) (s.table.task c.who).state) z.0 z.1
  walk_counted (walking.Bit w c) k pl z = off_counted (walking.Bit w c) w c
      (meets (mask_of (mode_of call)) (s.table.task c.who).state) refl z.0 g.it g.seen g.stands
      (sound.linked.entries (own c.who) g.it g.stands) g.key (λ _. z.2)
      (sym (ap (λ (x : CalledEntry). is_page x.kind) g.seen) ∙ z.3)
    where
      g : IsFlagged s.table.entry c (Some (call_head call)) (call_watch call)
      g = pl.flagged c refl
  walk_counted (walking.Page st w c) k pl z = hands_counted st w c z
  walk_counted (walking.Unqueue w who) k pl z = take_counted w who k.walk.1 pl z
  walk_counted (walking.BreakLock w) k pl z = lock_counted _ (call_head call) _ refl
  walk_counted (walking.Unmark w) k pl z = resume_counted w (s.table.mark me) z
  walk_counted _ k pl z = tt

  outside_counted : (p : Point) → IsOutside p → T p (planned s me call p)
  outside_counted p o =
      away_counted (steps s.table me (event_steps s me (given_at call p) (planned s me call p).event)).entry
      (after_all v (event_steps s me (given_at call p) (planned s me call p).event)) call (planned s me call p).next
      (program_away call me (seen_by s me call p) p o).next

  -- the count after each event of a task's own
  pub program_counted : (p : Point) → IsCallSound n call p → IsPlaced s.table.entry v me (now.Open call p)
      → CountedAt s.table.entry v call p → busy_head s (planned s me call p).event ≡ None
      → CountedBy (steps s.table me (event_steps s me (given_at call p) (planned s me call p).event)).entry
      (after_all v (event_steps s me (given_at call p) (planned s me call p).event))
      (progress_at call (planned s me call p).next)
  program_counted (at.Walk p) k pl z busy = walk_counted p k pl z
  program_counted p k pl z busy = outside_counted p tt

-- an event of another task leaves the entry that a walk takes off
kept_counted : (entry entry2 : ℕ → Option Entry) (v : View) (p : Progress)
    → ((who : ℕ) (e : Entry) → taken_by p ≡ Some who → entry (own who) ≡ Some e → entry2 (own who) ≡ Some e)
    → CountedBy entry v p → CountedBy entry2 v p
kept_counted entry entry2 v (now.Open call (at.Walk (walking.Unqueue w who))) keep z = (
  z.0,
  λ spent.
      let g = z.1 spent in
      record {
        shared = g.shared;
        it = g.it;
        stands = keep who g.it refl g.stands;
        exclusive = g.exclusive;
        key = g.key;
        roused = g.roused;
        other = g.other;
        unpaged = g.unpaged;
      },
)
kept_counted entry entry2 v (now.Open call (at.Walk p)) keep z = z
kept_counted entry entry2 v _ keep z = z

same_entries : (entry entry2 : ℕ → Option Entry) (v : View) (p : Progress) → entry2 ≡ entry → CountedBy entry v p
    → CountedBy entry2 v p
same_entries entry entry2 v p same z = subst (λ (f : ℕ → Option Entry). CountedBy f v p) (sym same) z

pub others_counted : (s : State) (me : ℕ) (g : Given) (e : Event) (b : ℕ) → b ≢ me → Changes s me e
    → Facts s.table → IsPlaced s.table.entry (s.table.view b) b (s.progress b)
    → CountedBy s.table.entry (s.table.view b) (s.progress b)
    → CountedBy (after_event s me g e).table.entry (s.table.view b) (s.progress b)
others_counted s me g (event.Queue h form) b ne c k pl z =
    kept_counted s.table.entry (put s.table.entry (own me) (Some it)) (s.table.view b) (s.progress b) keep z
  where
    it : Entry
    it = entry_for g form (place_for form (s.queue h))

    keep : (who : ℕ) (d : Entry) → taken_by (s.progress b) ≡ Some who → s.table.entry (own who) ≡ Some d
        → put s.table.entry (own me) (Some it) (own who) ≡ Some d
    keep who d t stands = put_at (λ o. o ≡ Some d) s.table.entry (own me) (Some it) (own who)
        (λ q. absurd (none-some d (sym c ∙ sym (ap s.table.entry q) ∙ stands))) (λ _. stands)
others_counted s me g (event.Unqueue u) b ne c k pl z =
    kept_counted s.table.entry (put s.table.entry (own u) None) (s.table.view b) (s.progress b) keep z
  where
    keep : (who : ℕ) (d : Entry) → taken_by (s.progress b) ≡ Some who → s.table.entry (own who) ≡ Some d
        → put s.table.entry (own u) None (own who) ≡ Some d
    keep who d t stands = put_at (λ o. o ≡ Some d) s.table.entry (own u) None (own who) (λ q. absurd (apart q))
        (λ _. stands)
      where
        taken : IsTaken s.table.entry who (held_at (s.progress b))
        taken = pl.taken who t

        apart : own who ≡ own u → ⊥
        apart q =
            let y : Some taken.it ≡ Some c.it = sym taken.stands ∙ ap s.table.entry q ∙ c.stands in
            let one : taken.it ≡ c.it = cc in
            ne (k.one_holder b me (head_of c.it.watch)
            (pl.head ∙ taken.head ∙ ap (λ (i : Entry). Some (head_of i.watch)) one) c.head)
others_counted s me g (event.Lock h) b ne c k pl z =
    same_entries s.table.entry (after_event s me g (event.Lock h)).table.entry (s.table.view b) (s.progress b)
    (looks_same (tables.next s.table me (step.Lock h g.walk (head_word (s.table.holder h) (s.table.spent h))))
    s.table.entry me).entry z
others_counted s me g (event.Set c v) b ne h k pl z =
    same_entries s.table.entry (after_event s me g (event.Set c v)).table.entry (s.table.view b) (s.progress b)
    (set_rest s.table me g.watch v (value_of s.table.words g.watch)).entry z
others_counted s me g (event.Active h hit) b ne c k pl z =
    same_entries s.table.entry (after_event s me g (event.Active h hit)).table.entry (s.table.view b) (s.progress b)
    (peeks_same s.table s.table.entry me).entry z
others_counted s me g e b ne c k pl z = z
