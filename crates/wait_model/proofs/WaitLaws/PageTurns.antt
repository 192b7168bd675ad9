-- The turns of a wait for a page: whoever is told of its page before its entry is taken off does not sleep any more,
-- and whoever sleeps has found the page set since its entry was queued.
use Rattle.std.proofs.lemmas.Bool.{both_ways}
use Rattle.std.proofs.lemmas.Bool.Decides.{nat_tests}
use Rattle.std.proofs.Common.{refl, sym, ◌∙◌, ap, subst, arith, inl, inr}
use Rattle.std.specs.Prelude.{ℕ, ◌≡◌, ◌≢◌, ◌⊎◌, Bool, true, false, ◌||◌, ◌==◌, if◌then◌else◌, is_some, Option}
use Rattle.std.specs.Prelude.{Some, None}
use Rattle.wait_model.specs.{declared.watches.Watch.Watch, declared.watches.Entry.Entry}
use Rattle.wait_model.specs.{declared.tasks.TaskRecord.TaskRecord, declared.calls.Call.Call, declared.calls.Event.Event}
use Rattle.wait_model.specs.{declared.points.Given.Given, declared.points.Planned.Planned, declared.points.Seen.Seen}
use Rattle.wait_model.specs.{declared.points.Next.Next, declared.points.Point.Point}
use Rattle.wait_model.specs.{declared.points.PagePoint.PagePoint, declared.points.Progress.Progress, Words.head_word}
use Rattle.wait_model.specs.{Views.View, Views.Checks, Fold.after_all, Fold.found_set, Tables.Table, Tables.value_of}
use Rattle.wait_model.specs.{Queues.place_for, Selections.is_page_lock}
use Rattle.wait_model.specs.Tasks.{meets, IsLawful, pending, looks_in, state_mask, slept, woken}
use Rattle.wait_model.specs.Watches.{is_page, is_bit, misses, word_of, page, mask_of}
use Rattle.wait_model.specs.Points.{call_watch, call_head, state_in, given_at}
use Rattle.wait_model.specs.Programs.{go, ends_with, exchange, zero_answer, interrupted, page_event, page_queue}
use Rattle.wait_model.specs.Programs.{call_fails}
use Rattle.wait_model.specs.Reached.{handed_by, HomeAt, IsHome, pages, seated, zone}
use Rattle.wait_model.specs.Runs.{State, own, planned, seen_by, progress_at, event_steps, is_publishing, after_event}
use Rattle.wait_model.specs.Runs.{entry_for}
use Rattle.wait_model.specs.declared.watches.Mode.TheVariants as mode
use Rattle.wait_model.specs.declared.steps.Step.TheVariants as step
use Rattle.wait_model.specs.declared.calls.Call.TheVariants as calls
use Rattle.wait_model.specs.declared.calls.Event.TheVariants as event
use Rattle.wait_model.specs.declared.points.Next.TheVariants as next
use Rattle.wait_model.specs.declared.points.Point.TheVariants as at
use Rattle.wait_model.specs.declared.points.PagePoint.TheVariants as paging
use Rattle.wait_model.specs.declared.points.PageStage.TheVariants as staging
use Rattle.wait_model.specs.declared.points.WalkPoint.TheVariants as walking
use Rattle.wait_model.specs.declared.points.LeavePoint.TheVariants as leaving
use Rattle.wait_model.specs.declared.points.FinishPoint.TheVariants as finishing
use Rattle.wait_model.specs.declared.points.AddPoint.TheVariants as adding
use Rattle.wait_model.specs.declared.points.RemovePoint.TheVariants as removing
use Rattle.wait_model.specs.declared.points.AwaitPoint.TheVariants as awaiting
use Rattle.wait_model.specs.declared.points.BitPoint.TheVariants as biting
use Rattle.wait_model.specs.declared.points.Progress.TheVariants as now
use Rattle.wait_model.specs.Tables as tables
use Rattle.wait_model.proofs.{HistoryLaws.HoldLooks.looks_same, HistoryLaws.UnlockedLooks.peeks_same}
use Rattle.wait_model.proofs.{StepLaws.UnlockSteps.unlock_checks, WordLaws.CondWords.set_rest}
use Rattle.wait_model.proofs.{RunLaws.OthersEvents.own_one, RunLaws.PagelessPoints.IsElsewhere}
use Rattle.wait_model.proofs.RunLaws.PagelessPoints.{enters_page}
use Rattle.wait_model.proofs.Functions.{put_at, put_case, put_same}
use Rattle.wait_model.proofs.WaitLaws.WaitStages.{IsListening, IsAwake, IsRoused, own_up, low_woken}

-- whom a walk has told that it took a page for it, and whom it has woken since
abbrev pub told_by : Progress → Option ℕ
told_by (now.Open call (at.Walk (walking.Page staging.Wake w c))) = Some c.who
told_by (now.Open call (at.Walk (walking.Page staging.Off w c))) = Some c.who
told_by _ = None

abbrev pub roused_by : Progress → Option ℕ
roused_by (now.Open call (at.Walk (walking.Page staging.Off w c))) = Some c.who
roused_by _ = None

-- a task that has read its flag as not set, and is about to look for a signal or to sleep
abbrev pub has_asked : Progress → Bool
has_asked (now.Open call (at.Page paging.Look)) = true
has_asked (now.Open call (at.Page paging.Sleep)) = true
has_asked _ = false

-- a task in the turns of such a wait: its entry was queued, and the page was found set once more
abbrev pub is_turning : Progress → Bool
is_turning (now.Open call (at.Page (paging.Unlock false))) = true
is_turning (now.Open call (at.Page paging.State)) = true
is_turning (now.Open call (at.Page paging.Flag)) = true
is_turning (now.Open call (at.Page paging.Look)) = true
is_turning (now.Open call (at.Page paging.Sleep)) = true
is_turning _ = false

-- awake, and RUNNING where it has asked: its sleep will stay awake
abbrev pub IsUp : Progress → TaskRecord → Type 0
IsUp q t = (t.runnable ≡ true) × (has_asked q ≡ true → t.state ≡ 0)

-- since its entry was queued the task found the page set
abbrev pub FoundSet : Progress → View → ℕ → Type 0
FoundSet (now.Open call p) v me = is_turning (now.Open call p) ≡ true
    → v.checks.tas_failed (own me) (call_watch call) ≡ true
FoundSet now.Idle v me = Unit {0}
FoundSet now.Fresh v me = Unit {0}

-- a call that locks a page stands at the places of one
abbrev pub IsPaged : Progress → Type 0
IsPaged (now.Open (calls.LockPage w st) (at.Page p)) = Unit {0}
IsPaged (now.Open (calls.LockPage w st) p) = ⊥
IsPaged _ = Unit {0}

abbrev pub is_paging : Progress → Bool
is_paging (now.Open call (at.Page p)) = true
is_paging _ = false

pub record ArePagesTold (s : State) : Type 0 where
  pub told : (a u : ℕ) → told_by (s.progress a) ≡ Some u → s.table.flag (own u) ≡ true
  pub up : (a u : ℕ) → roused_by (s.progress a) ≡ Some u → IsUp (s.progress u) (s.table.task u)
  pub off : (t : ℕ) → is_turning (s.progress t) ≡ true → s.table.entry (own t) ≡ None
      → (s.table.flag (own t) ≡ true) × IsUp (s.progress t) (s.table.task t)
  pub found : (t : ℕ) → FoundSet (s.progress t) (s.table.view t) t
  pub paged : (t : ℕ) → IsPaged (s.progress t)
  pub awake : (t : ℕ) → is_paging (s.progress t) ≡ true → is_turning (s.progress t) ≡ false
      → (s.table.task t).runnable ≡ true

pub told_hands : (q : Progress) (u : ℕ) → told_by q ≡ Some u → handed_by q ≡ Some u
told_hands (now.Open call (at.Walk (walking.Page staging.Wake w c))) u h = h
told_hands (now.Open call (at.Walk (walking.Page staging.Off w c))) u h = h
told_hands (now.Open call (at.Walk (walking.Page staging.Try w c))) u h = absurd (cc)
told_hands (now.Open call (at.Walk (walking.Page staging.Hand w c))) u h = absurd (cc)
told_hands q u h = absurd (cc)

pub roused_told : (q : Progress) (u : ℕ) → roused_by q ≡ Some u → told_by q ≡ Some u
roused_told (now.Open call (at.Walk (walking.Page staging.Off w c))) u h = h
roused_told q u h = absurd (cc)

-- a place outside pages, and one that a program leads to which is none of theirs
pub apart_told : (call : Call) (x : Next) (u : ℕ) → enters_page x ≡ false → told_by (progress_at call x) ≡ Some u → ⊥
apart_told call (next.Go (at.Walk (walking.Page staging.Wake w c))) u a t = cc
apart_told call (next.Go (at.Walk (walking.Page staging.Off w c))) u a t = cc
apart_told call (next.Go (at.Walk (walking.Page staging.Try w c))) u a t = cc
apart_told call (next.Go (at.Walk (walking.Page staging.Hand w c))) u a t = cc
apart_told call (next.Go p) u a t = cc
apart_told call (next.Ends a) u n t = cc

-- only a call that locks a page stands at its places
pub paging_locks : (call : Call) (p : PagePoint) → IsListening call → call_watch call ≡ page (word_of (call_watch call))
    → is_page_lock call ≡ true
paging_locks (calls.LockPage w st) p l f = refl
paging_locks (calls.Woken st) p l f = absurd (both_ways false refl (ap is_bit f))
paging_locks calls.Remove p l f = absurd l
paging_locks call p l f = absurd l

pub turning_paging : (q : Progress) → is_paging q ≡ false → is_turning q ≡ false
turning_paging (now.Open call (at.Page p)) h = absurd (cc)
turning_paging q h = refl

pub any_paging : (call : Call) (p : Point) → is_paging (now.Open calls.Accept p) ≡ is_paging (now.Open call p)
any_paging call (at.Page p) = refl
any_paging call p = refl

-- an entry of a page is that of a task at a place of its wait
pub no_zone : (p : Point) → is_paging (now.Open calls.Accept p) ≡ false → (zone p ≡ pages) ⊎ (zone p ≡ seated) → ⊥
no_zone (at.Page p) o h = cc
no_zone (at.Leave leaving.Queue) o h = elim h [ inl q ↦ cc | inr q ↦ cc ]
no_zone (at.Finish finishing.Unlock failed) o h = elim h [ inl q ↦ cc | inr q ↦ cc ]
no_zone (at.Bit biting.Try) o h = elim h [ inl q ↦ cc | inr q ↦ cc ]
no_zone (at.Bit biting.First) o h = elim h [ inl q ↦ cc | inr q ↦ cc ]
no_zone (at.Bit biting.Last) o h = elim h [ inl q ↦ cc | inr q ↦ cc ]
no_zone (at.Add adding.Unlock) o h = elim h [ inl q ↦ cc | inr q ↦ cc ]
no_zone (at.Remove removing.Lock) o h = elim h [ inl q ↦ cc | inr q ↦ cc ]
no_zone (at.Await (awaiting.Lock true)) o h = elim h [ inl q ↦ cc | inr q ↦ cc ]
no_zone (at.Await (awaiting.Load true)) o h = elim h [ inl q ↦ cc | inr q ↦ cc ]
no_zone (at.Await (awaiting.Off stopped)) o h = elim h [ inl q ↦ cc | inr q ↦ cc ]
no_zone p o h = elim h [ inl q ↦ cc | inr q ↦ cc ]

pub elsewhere_paging : (call : Call) (p : Point) → IsElsewhere p → is_paging (now.Open call p) ≡ false
elsewhere_paging call (at.Page p) o = absurd o
elsewhere_paging call p o = refl

-- a task of whose sleep nothing comes
slept_up : (t : TaskRecord) → t.runnable ≡ true → t.state ≡ 0 → (slept t).runnable ≡ true
slept_up t r z =
    let q : (t.state == 0) ≡ true = grind (arith, nat_tests) in
    ap (λ (b : Bool). (if b then t else if pending t.state t then record t { state = 0 }
    else record t { runnable = false }).runnable) q ∙ r

-- what an event leaves of flags and entries
module _ (s : State) (me : ℕ) (g : Given) where
  abbrev pub A : Event → Table
  A e = (after_event s me g e).table

  pub flag_stays : (e : Event) (u : ℕ) → (e ≡ event.Unflag → u ≢ me) → s.table.flag (own u) ≡ true
      → (A e).flag (own u) ≡ true
  flag_stays (event.Woken who) u o h = put_at (λ b. b ≡ true) s.table.flag (own who) true (own u) (λ _. refl) (λ _. h)
  flag_stays (event.Handed who) u o h = put_at (λ b. b ≡ true) s.table.flag (own who) true (own u) (λ _. refl) (λ _. h)
  flag_stays event.Unflag u o h = put_at (λ b. b ≡ true) s.table.flag (own me) false (own u)
      (λ q. absurd (o refl (own_one u me q))) (λ _. h)
  flag_stays (event.Lock k) u o h = ap (λ (f : ℕ → Bool). f (own u)) (looks_same (tables.next s.table me
      (step.Lock k g.walk (head_word (s.table.holder k) (s.table.spent k)))) s.table.entry me).flag ∙ h
  flag_stays (event.Active k hit) u o h = ap (λ (f : ℕ → Bool). f (own u))
      (peeks_same s.table s.table.entry me).flag ∙ h
  flag_stays (event.Set c v) u o h = by (is_publishing g.watch (value_of s.table.words g.watch) v)
    where
      by : (b : Bool) → (tables.next s.table me (if b
          then step.Publish g.watch v (value_of s.table.words g.watch)
          else step.Consume g.watch v (value_of s.table.words g.watch))).flag (own u) ≡ true
      by true = h
      by false = h
  flag_stays e u o h = h

  -- an entry that is gone was taken off
  pub went : (e : Event) (t : ℕ) (d : Entry) → s.table.entry (own t) ≡ Some d → (A e).entry (own t) ≡ None
      → e ≡ event.Unqueue t
  went (event.Unqueue who) t d is gone = elim (put_case s.table.entry (own who) None (own t)) [
    | inl q ↦ ap (λ (i : ℕ). event.Unqueue i) (sym (own_one t who q.0))
    | inr q ↦ absurd (let z : Some d ≡ None = sym is ∙ sym q.1 ∙ gone in cc)
  ]
  went (event.Queue h form) t d is gone = elim (put_case s.table.entry (own me)
      (Some (entry_for g form (place_for form (s.queue h)))) (own t)) [
        | inl q ↦ absurd (let z : Some (entry_for g form (place_for form (s.queue h))) ≡ None = sym q.1 ∙ gone in cc)
        | inr q ↦ absurd (let z : Some d ≡ None = sym is ∙ sym q.1 ∙ gone in cc)
      ]
  went (event.Lock k) t d is gone = absurd (let z : Some d ≡ None = sym is
      ∙ sym (ap (λ (f : ℕ → Option Entry). f (own t)) (looks_same (tables.next s.table me (step.Lock k g.walk
      (head_word (s.table.holder k) (s.table.spent k)))) s.table.entry me).entry) ∙ gone in cc)
  went (event.Active k hit) t d is gone = absurd (let z : Some d ≡ None = sym is
      ∙ sym (ap (λ (f : ℕ → Option Entry). f (own t)) (peeks_same s.table s.table.entry me).entry) ∙ gone in cc)
  went (event.Set c v) t d is gone = absurd (let z : Some d ≡ None = sym is
      ∙ sym (ap (λ (f : ℕ → Option Entry). f (own t))
      (set_rest s.table me g.watch v (value_of s.table.words g.watch)).entry) ∙ gone in cc)
  went e t d is gone = absurd (let z : Some d ≡ None = sym is ∙ gone in cc)

-- whoever is up stays so by the events of others
pub up_still : (q : Progress) (t u : TaskRecord) → IsRoused t u → IsUp q t → IsUp q u
up_still q t u (inl r) h = (r.1 ∙ h.0, λ z. r.0 ∙ h.1 z)
up_still q t u (inr r) h = (r.1, λ _. r.0)

-- where the calls of a page lead
abbrev pub Lands : Next → Type 0
Lands (next.Go (at.Page p)) = Unit {0}
Lands (next.Go p) = ⊥
Lands (next.Ends a) = Unit {0}

lands_if : (b : Bool) (x y : Planned) → Lands x.next → Lands y.next → Lands (if b then x else y).next
lands_if true x y h k = h
lands_if false x y h k = k

pub page_lands : (me : ℕ) (call : Call) (p : PagePoint) (seen : Seen) → seen.worn ≡ false
    → Lands (page_event me call p seen).next
page_lands me call paging.First seen w = lands_if (call_fails call seen) _ _ tt tt
page_lands me call paging.Queue seen w = subst (λ (b : Bool). Lands (page_queue call b).next) (sym w) tt
page_lands me call (paging.Unlock true) seen w = tt
page_lands me call (paging.Finish finishing.Look) seen w = lands_if (is_some seen.entry) _ _ tt tt
page_lands me call (paging.Finish finishing.Queue) seen w = lands_if (is_some seen.entry) _ _ tt tt
page_lands me call paging.Last seen w = lands_if seen.flag _ _ tt tt
page_lands me call p seen w = tt

pub lands_paged : (call : Call) (x : Next) → Lands x → IsPaged (progress_at call x)
lands_paged (calls.LockPage w st) (next.Go (at.Page p)) l = tt
lands_paged (calls.LockPage w st) (next.Go p) l = l
lands_paged (calls.LockPage w st) (next.Ends a) l = tt
lands_paged calls.Remove (next.Go p) l = tt
lands_paged calls.Remove (next.Ends a) l = tt
lands_paged call (next.Go p) l = tt
lands_paged call (next.Ends a) l = tt

pub lands_untold : (call : Call) (x : Next) (u : ℕ) → Lands x → told_by (progress_at call x) ≡ Some u → ⊥
lands_untold call (next.Go (at.Page p)) u l t = cc
lands_untold call (next.Go p) u l t = l
lands_untold call (next.Ends a) u l t = cc

-- who is elsewhere is in another call, and stays in it
pub moved_paged : (call : Call) (p : Point) (x : Next) → is_paging (now.Open call p) ≡ false → IsPaged (now.Open call p)
    → IsPaged (progress_at call x)
moved_paged (calls.LockPage w st) (at.Page p) x o g = absurd (cc)
moved_paged (calls.LockPage w st) p x o g = absurd g
moved_paged calls.Remove p (next.Go q) o g = tt
moved_paged calls.Remove p (next.Ends a) o g = tt
moved_paged call p (next.Go q) o g = tt
moved_paged call p (next.Ends a) o g = tt

pub unlocked_paged : (call : Call) (p : Point) → is_paging (now.Open call p) ≡ false → IsPaged (now.Open call p)
    → is_page_lock call ≡ true → ⊥
unlocked_paged (calls.LockPage w st) (at.Page p) o g l = cc
unlocked_paged (calls.LockPage w st) p o g l = g
unlocked_paged call p o g l = cc

-- a test-and-set that found the page set
set_found : (c : Watch) (w r : ℕ) → c ≡ page w → misses c r ≡ true → found_set c r c ≡ true
set_found c w r is m = subst (λ (d : Watch). misses d r ≡ true → found_set d r d ≡ true) (sym is)
    (λ h. let q : (w == w) ≡ true = grind (arith, nat_tests) in rw (q, h) refl) m

or_true : (b : Bool) → (b || true) ≡ true
or_true true = refl
or_true false = refl

-- an event of the call that locks a page
module _ (s : State) (me : ℕ) (call : Call) (runs : (s.table.task me).runnable ≡ true) where
  abbrev pub X : PagePoint → Planned
  X p = planned s me call (at.Page p)

  abbrev pub N : PagePoint → Progress
  N p = progress_at call (X p).next

  abbrev pub G : PagePoint → Given
  G p = given_at call (at.Page p)

  abbrev pub B : PagePoint → Table
  B p = A s me (G p) (X p).event

  abbrev Calm : PagePoint → Planned → Type 0
  Calm p x = IsUp (progress_at call x.next) ((A s me (G p) x.event).task me)

  calm : (p : PagePoint) (x : Planned) → IsAwake s me (G p) x.event → has_asked (progress_at call x.next) ≡ false
      → Calm p x
  calm p x w h = (own_up s me (G p) x.event w runs, λ z. absurd (both_ways false refl (sym h ∙ z)))

  calm_both : (p : PagePoint) (b : Bool) (x y : Planned) → IsAwake s me (G p) x.event
      → has_asked (progress_at call x.next) ≡ false → IsAwake s me (G p) y.event
      → has_asked (progress_at call y.next) ≡ false → Calm p (if b then x else y)
  calm_both p true x y wx hx wy hy = calm p x wx hx
  calm_both p false x y wx hx wy hy = calm p y wy hy

  pub up_next : (p : PagePoint) → s.table.flag (own me) ≡ true → IsUp (now.Open call (at.Page p)) (s.table.task me)
      → IsUp (N p) ((B p).task me)
  up_next paging.First f h = calm_both paging.First
      (misses (call_watch call) (value_of s.table.words (call_watch call)))
      (go (exchange call (seen_by s me call (at.Page paging.First))) (at.Page paging.Unflag))
      (ends_with (exchange call (seen_by s me call (at.Page paging.First))) zero_answer) tt refl tt refl
  up_next paging.Unflag f h = calm paging.Unflag (X paging.Unflag) tt refl
  up_next paging.Lock f h = calm paging.Lock (X paging.Lock) tt refl
  up_next paging.Queue f h = calm paging.Queue (X paging.Queue) tt refl
  up_next paging.Try f h = by (misses (call_watch call) (value_of s.table.words (call_watch call)))
    where
      by : (b : Bool) → IsUp (now.Open call (at.Page (if b then paging.Unlock false else paging.Off)))
          (s.table.task me)
      by true = (runs, λ z. absurd (cc))
      by false = (runs, λ z. absurd (cc))
  up_next paging.Off f h = calm paging.Off (X paging.Off) tt refl
  up_next (paging.Unlock true) f h = calm (paging.Unlock true) (X (paging.Unlock true)) tt refl
  up_next (paging.Unlock false) f h = calm (paging.Unlock false) (X (paging.Unlock false)) tt refl
  up_next paging.State f h = calm paging.State (X paging.State) tt refl
  up_next paging.Flag f h = by (s.table.flag (own me)) f
    where
      by : (b : Bool) → b ≡ true → IsUp (now.Open call (at.Page (if b then paging.Finish finishing.State
          else if looks_in (state_in call) then paging.Look else paging.Sleep))) (s.table.task me)
      by true z = (runs, λ y. absurd (cc))
      by false z = absurd (cc)
  up_next paging.Look f h = by (pending (state_mask (state_in call)) (s.table.task me))
    where
      by : (b : Bool) → IsUp (now.Open call (at.Page (if b then paging.Finish finishing.State else paging.Sleep)))
          (s.table.task me)
      by true = (runs, λ y. absurd (cc))
      by false = (runs, λ _. h.1 refl)
  up_next paging.Sleep f h = (
    ap (λ (k : TaskRecord). k.runnable) (put_same s.table.task me (slept (s.table.task me)))
        ∙ slept_up (s.table.task me) runs (h.1 refl),
    λ z. absurd (cc),
  )
  up_next (paging.Finish finishing.State) f h = calm (paging.Finish finishing.State)
      (X (paging.Finish finishing.State)) tt refl
  up_next (paging.Finish finishing.Look) f h = calm_both (paging.Finish finishing.Look)
      (is_some (s.table.entry (own me))) (go (event.Queued true) (at.Page (paging.Finish finishing.Lock)))
      (go (event.Queued false) (at.Page paging.Last)) tt refl tt refl
  up_next (paging.Finish finishing.Lock) f h = calm (paging.Finish finishing.Lock)
      (X (paging.Finish finishing.Lock)) tt refl
  up_next (paging.Finish finishing.Queue) f h = calm_both (paging.Finish finishing.Queue)
      (is_some (s.table.entry (own me))) (go (event.Unqueue me) (at.Page (paging.Finish finishing.Unlock)))
      (go (event.Unlock (call_head call) false) (at.Page paging.Last)) tt refl tt refl
  up_next (paging.Finish finishing.Unlock) f h = calm (paging.Finish finishing.Unlock)
      (X (paging.Finish finishing.Unlock)) tt refl
  up_next paging.Last f h = calm_both paging.Last (s.table.flag (own me)) (go (event.Flag true) (at.Page paging.Clear))
      (ends_with (event.Flag false) interrupted) tt refl tt refl
  up_next paging.Clear f h = calm paging.Clear (X paging.Clear) tt refl

  -- only its sleep may put it down, and that leads to a turn
  abbrev W : PagePoint → Planned → Type 0
  W p x = IsAwake s me (G p) x.event

  awake_if : (p : PagePoint) (b : Bool) (x y : Planned) → W p x → W p y → W p (if b then x else y)
  awake_if p true x y h k = h
  awake_if p false x y h k = k

  pub awake_event : (p : PagePoint) → is_turning (N p) ≡ false → W p (X p)
  awake_event paging.First t = awake_if paging.First
      (misses (call_watch call) (value_of s.table.words (call_watch call))) _ _ tt tt
  awake_event paging.Sleep t = absurd (cc)
  awake_event (paging.Unlock true) t = tt
  awake_event (paging.Unlock false) t = tt
  awake_event (paging.Finish finishing.State) t = tt
  awake_event (paging.Finish finishing.Look) t = awake_if (paging.Finish finishing.Look)
      (is_some (s.table.entry (own me))) _ _ tt tt
  awake_event (paging.Finish finishing.Lock) t = tt
  awake_event (paging.Finish finishing.Queue) t = awake_if (paging.Finish finishing.Queue)
      (is_some (s.table.entry (own me))) _ _ tt tt
  awake_event (paging.Finish finishing.Unlock) t = tt
  awake_event paging.Last t = awake_if paging.Last (s.table.flag (own me)) _ _ tt tt
  awake_event p t = tt

  -- where it leads to a turn
  abbrev pub V : PagePoint → View
  V p = after_all (s.table.view me) (event_steps s me (G p) (X p).event)

  abbrev Turns : Planned → Type 0
  Turns x = is_turning (progress_at call x.next) ≡ true

  not_if : (b : Bool) (x y : Planned) → (Turns x → ⊥) → (Turns y → ⊥) → Turns (if b then x else y) → ⊥
  not_if true x y h k t = h t
  not_if false x y h k t = k t

  -- the other places lead to none
  abbrev pub IsTurnPoint : PagePoint → Type 0
  IsTurnPoint p = (is_turning (now.Open call (at.Page p)) ≡ true) ⊎ (p ≡ paging.Try)

  pub leads_to_turn : (p : PagePoint) → is_turning (N p) ≡ true → IsTurnPoint p
  leads_to_turn paging.First t = absurd (not_if
      (misses (call_watch call) (value_of s.table.words (call_watch call))) _ _ (λ z. cc) (λ z. cc) t)
  leads_to_turn paging.Try t = inr refl
  leads_to_turn (paging.Unlock true) t = absurd (cc)
  leads_to_turn (paging.Finish finishing.State) t = absurd (cc)
  leads_to_turn (paging.Finish finishing.Look) t = absurd (not_if (is_some (s.table.entry (own me))) _ _ (λ z. cc)
      (λ z. cc) t)
  leads_to_turn (paging.Finish finishing.Lock) t = absurd (cc)
  leads_to_turn (paging.Finish finishing.Queue) t = absurd (not_if (is_some (s.table.entry (own me))) _ _ (λ z. cc)
      (λ z. cc) t)
  leads_to_turn (paging.Finish finishing.Unlock) t = absurd (cc)
  leads_to_turn paging.Last t = absurd (not_if (s.table.flag (own me)) _ _ (λ z. cc) (λ z. cc) t)
  leads_to_turn p t = grind arith

  -- the entry and the found page of a turn
  turn_entry : (p : PagePoint) → IsTurnPoint p → (B p).entry (own me) ≡ s.table.entry (own me)
  turn_entry (paging.Unlock true) t = absurd (elim t [ inl q ↦ cc | inr q ↦ cc ])
  turn_entry p t = grind arith

  pub page_found : (p : PagePoint) → call_watch call ≡ page (word_of (call_watch call))
      → FoundSet (now.Open call (at.Page p)) (s.table.view me) me → is_turning (N p) ≡ true → IsTurnPoint p
      → (V p).checks.tas_failed (own me) (call_watch call) ≡ true
  page_found paging.Try f h t k = by (misses (call_watch call) (value_of s.table.words (call_watch call))) refl t
    where
      by : (b : Bool) → misses (call_watch call) (value_of s.table.words (call_watch call)) ≡ b
          → is_turning (now.Open call (at.Page (if b then paging.Unlock false else paging.Off))) ≡ true
          → (V paging.Try).checks.tas_failed (own me) (call_watch call) ≡ true
      by true m z = ap (λ (b : Bool). (s.table.view me).checks.tas_failed (own me) (call_watch call) || b)
          (set_found (call_watch call) (word_of (call_watch call)) (value_of s.table.words (call_watch call)) f m)
          ∙ or_true ((s.table.view me).checks.tas_failed (own me) (call_watch call))
      by false m z = absurd (cc)
  page_found (paging.Unlock false) f h t k = ap (λ (c : Checks). c.tas_failed (own me) (call_watch call))
      (unlock_checks (s.table.view me) (s.table.view me).walk false) ∙ h refl
  page_found (paging.Unlock true) f h t k = absurd (elim k [ inl q ↦ cc | inr q ↦ cc ])
  page_found p f h t k = grind arith

  -- a task in a turn whose entry is off was told
  pub turn_off : (p : PagePoint) → IsTurnPoint p → HomeAt (now.Open call (at.Page p)) (s.table.entry (own me))
      → (is_turning (now.Open call (at.Page p)) ≡ true → s.table.entry (own me) ≡ None
      → (s.table.flag (own me) ≡ true) × IsUp (now.Open call (at.Page p)) (s.table.task me))
      → (B p).entry (own me) ≡ None → ((B p).flag (own me) ≡ true) × IsUp (N p) ((B p).task me)
  turn_off p (inr q) home old gone = absurd (subst (IsHome seated (call_watch call))
      (sym (turn_entry p (inr q)) ∙ gone)
      (subst (λ (x : PagePoint). HomeAt (now.Open call (at.Page x)) (s.table.entry (own me))) q home))
  turn_off p (inl q) home old gone =
      let k = old q (sym (turn_entry p (inl q)) ∙ gone) in
      (flag_stays s me (G p) (X p).event me (λ u. absurd (no_unflag p q u)) k.0, up_next p k.0 k.1)
    where
      no_unflag : (p : PagePoint) → is_turning (now.Open call (at.Page p)) ≡ true → (X p).event ≡ event.Unflag → ⊥
      no_unflag (paging.Unlock false) q u = cc
      no_unflag paging.State q u = cc
      no_unflag paging.Flag q u = cc
      no_unflag paging.Look q u = cc
      no_unflag paging.Sleep q u = cc
      no_unflag (paging.Unlock true) q u = cc
      no_unflag p q u = cc

pub turning_page : (q : Progress) (d : Entry) → is_turning q ≡ true → HomeAt q (Some d) → is_page d.kind ≡ true
turning_page (now.Open call (at.Page (paging.Unlock true))) d t h = absurd (cc)
turning_page q d t h = grind arith

pub hands_not : (call : Call) (p : Point) (v : ℕ) → IsElsewhere p → handed_by (now.Open call p) ≡ Some v → ⊥
hands_not call (at.Walk (walking.Page st w c)) v o h = absurd o
hands_not call p v o h = cc

-- a wake with the ordinary mask leaves its task runnable
pub woken_runs : (t : TaskRecord) → IsLawful t → (woken (mask_of mode.Normal) t).runnable ≡ true
woken_runs t l = by (meets (mask_of mode.Normal) t.state) refl (low_woken t l)
  where
    by : (b : Bool) → meets (mask_of mode.Normal) t.state ≡ b
        → (if meets (mask_of mode.Normal) t.state then record t { state = 0; runnable = true } else t).state ≡ 0
        → (if meets (mask_of mode.Normal) t.state then record t { state = 0; runnable = true } else t).runnable ≡ true
    by true q z = rw q refl
    by false q z = rw q (l.runnable (sym (ap (λ (b : Bool). (if b then record t { state = 0; runnable = true }
        else t).state) q) ∙ z))
