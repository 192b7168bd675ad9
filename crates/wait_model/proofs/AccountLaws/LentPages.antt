-- A page that a walk took for a task is one that its open call locks, and whoever has not taken note of it is told of
-- it.
use Rattle.std.proofs.lemmas.Option.{none-some}
use Rattle.std.proofs.lemmas.Bool.{both_ways}
use Rattle.std.proofs.lemmas.Bool.Decides.{eqb_tells}
use Rattle.std.proofs.Common.{refl, sym, ◌∙◌, ap, subst, arith, inl, inr}
use Rattle.std.specs.Prelude.{ℕ, ◌≡◌, ◌≢◌, ◌+◌, ◌≤◌, ◌⊎◌, Bool, true, false, not, if◌then◌else◌, is_some, Option, Some}
use Rattle.std.specs.Prelude.{None, List, [], ◌∷◌}
use Rattle.wait_model.specs.{declared.layout.TheConstants.EVENTS, declared.watches.Watch.Watch}
use Rattle.wait_model.specs.{declared.watches.Entry.Entry, declared.calls.Call.Call, declared.calls.Event.Event}
use Rattle.wait_model.specs.{declared.calls.Ran.Ran, declared.queues.CalledEntry.CalledEntry}
use Rattle.wait_model.specs.{declared.points.Given.Given, declared.points.Planned.Planned}
use Rattle.wait_model.specs.{declared.points.PagePoint.PagePoint, declared.points.Progress.Progress}
use Rattle.wait_model.specs.{declared.points.Seen.Seen, Functions.put, Tables.value_of, Lent.IsLocking}
use Rattle.wait_model.specs.{Lent.NoRunLeavesPage, Selections.is_page_lock}
use Rattle.wait_model.specs.Tasks.{pending, looks_in, state_mask}
use Rattle.wait_model.specs.Words.{head_word, bit_at, flag}
use Rattle.wait_model.specs.Watches.{is_page, is_bit, bare, head_of, misses, was_clear, word_of, bit_of, page}
use Rattle.wait_model.specs.Points.{call_watch, call_head, state_in}
use Rattle.wait_model.specs.Programs.{program_start, page_event, page_queue, page_last, call_fails}
use Rattle.wait_model.specs.Reached.{held_at, handed_by, HomeAt, IsFlagged, IsSound, IsSoundCall, IsPlaced, CountedBy}
use Rattle.wait_model.specs.Reached.{zone}
use Rattle.wait_model.specs.Runs.{State, own, is_open, given_by, planned, seen_by, progress_at, progress_after}
use Rattle.wait_model.specs.Runs.{is_publishing, happens, start_state, state_after, state_of, Continues, IsRunFrom}
use Rattle.wait_model.specs.Runs.{IsRun, made_in}
use Rattle.wait_model.specs.declared.steps.Step.TheVariants as step
use Rattle.wait_model.specs.declared.calls.Call.TheVariants as calls
use Rattle.wait_model.specs.declared.calls.Event.TheVariants as event
use Rattle.wait_model.specs.declared.calls.Ran.TheVariants as ran
use Rattle.wait_model.specs.declared.points.Point.TheVariants as at
use Rattle.wait_model.specs.declared.points.PagePoint.TheVariants as paging
use Rattle.wait_model.specs.declared.points.FinishPoint.TheVariants as finishing
use Rattle.wait_model.specs.declared.points.PageStage.TheVariants as staging
use Rattle.wait_model.specs.declared.points.WalkPoint.TheVariants as walking
use Rattle.wait_model.specs.declared.points.Progress.TheVariants as now
use Rattle.wait_model.specs.Tables as tables
use Rattle.wait_model.proofs.{Sameness.same_bit, Sameness.same_bit_is, HistoryLaws.HoldLooks.looks_same}
use Rattle.wait_model.proofs.{HistoryLaws.UnlockedLooks.peeks_same, RunLaws.OthersEvents.own_one}
use Rattle.wait_model.proofs.{RunLaws.PagelessPoints.IsSober, RunLaws.PagelessPoints.program_apart}
use Rattle.wait_model.proofs.{AccountLaws.GivenUpWaits.is_off, WaitLaws.WaitStages.FitsStage}
use Rattle.wait_model.proofs.{WaitLaws.Waiters.page_zone, WaitLaws.Waiters.fits_of}
use Rattle.wait_model.proofs.Functions.{put_at, put_case, put_same, put_other}
use Rattle.wait_model.proofs.RunLaws.EveryRun.{opened_sound, made_sound, start_sound, sound_of}
use Rattle.wait_model.proofs.RunLaws.PagesHanded.{IsHanding, handing_of, standing_plain}
use Rattle.wait_model.proofs.WaitLaws.PageTurns.{A, flag_stays, no_zone, paging_locks}

false_not : false ≡ true → ⊥
false_not e = cc

none_not : (n : ℕ) → (o : Option ℕ) → o ≡ None → o ≡ Some n → ⊥
none_not n o is e = cc

some_not : (it : Entry) (o : Option Entry) → o ≡ None → o ≡ Some it → ⊥
some_not it o is e = cc

abbrev is_unflag : Event → Bool
is_unflag event.Unflag = true
is_unflag _ = false

unflags_not : (e : Event) → is_unflag e ≡ false → e ≡ event.Unflag → ⊥
unflags_not e other is = false_not (sym other ∙ ap is_unflag is)

try_parts : (p q who v x y : ℕ) → event.TasFor p who x ≡ event.TasFor q v y → (p ≡ q) × (who ≡ v)
try_parts p q who v x y is = (cc, cc)

-- the places at which a page may have been taken for the call that locks it
abbrev pub may_hold : PagePoint → Bool
may_hold (paging.Unlock false) = true
may_hold paging.State = true
may_hold paging.Flag = true
may_hold paging.Look = true
may_hold paging.Sleep = true
may_hold (paging.Finish p) = true
may_hold paging.Last = true
may_hold paging.Clear = true
may_hold _ = false

-- the open call locks the page, and stands at such a place
abbrev pub LocksPage : Progress → ℕ → Type 0
LocksPage (now.Open call (at.Page p)) w = (call_watch call ≡ page w) × (may_hold p ≡ true)
LocksPage _ w = ⊥

-- a walk has taken a page for this task, and is about to tell it so
abbrev pub tells_next : Progress → Option ℕ
tells_next (now.Open call (at.Walk (walking.Page staging.Hand w c))) = Some c.who
tells_next _ = None

pub record ArePagesLent (s : State) : Type 0 where
  pub locks : (v w : ℕ) → s.table.taken (own v) ≡ Some w → LocksPage (s.progress v) w
  pub noted : (v w : ℕ) → s.table.taken (own v) ≡ Some w
      → (s.table.flag (own v) ≡ true) ⊎ ((a : ℕ) × (tells_next (s.progress a) ≡ Some v))

tells_hands : (q : Progress) (v : ℕ) → tells_next q ≡ Some v → handed_by q ≡ Some v
tells_hands (now.Open call (at.Walk (walking.Page staging.Hand w c))) v h = h
tells_hands (now.Open call (at.Walk (walking.Page staging.Wake w c))) v h = absurd (cc)
tells_hands (now.Open call (at.Walk (walking.Page staging.Off w c))) v h = absurd (cc)
tells_hands (now.Open call (at.Walk (walking.Page staging.Try w c))) v h = absurd (cc)
tells_hands q v h = absurd (cc)

-- what an event leaves of the pages that were taken: one that is taken after it was so before, or it took it
module _ (s : State) (me : ℕ) (g : Given) where
  taken_or : (e : Event) (v w : ℕ) → (A s me g e).taken (own v) ≡ Some w
      → ((s.table.taken (own v) ≡ Some w) × (e ≡ event.Unflag → v ≢ me))
      ⊎ ((x : ℕ) × (e ≡ event.TasFor w v x) × (was_clear (page w) (value_of s.table.words (page w)) ≡ true))
  taken_or (event.TasFor p who x) v w h = by (was_clear (page p) (value_of s.table.words (page p))) refl h
    where
      by : (b : Bool) → was_clear (page p) (value_of s.table.words (page p)) ≡ b
          → (if b then put s.table.taken (own who) (Some p) else s.table.taken) (own v) ≡ Some w
          → ((s.table.taken (own v) ≡ Some w) × (event.TasFor p who x ≡ event.Unflag → v ≢ me))
          ⊎ ((y : ℕ) × (event.TasFor p who x ≡ event.TasFor w v y)
          × (was_clear (page w) (value_of s.table.words (page w)) ≡ true))
      by false q k = inl (k, λ z. absurd (unflags_not (event.TasFor p who x) refl z))
      by true q k = elim (put_case s.table.taken (own who) (Some p) (own v)) [
        | inl i ↦ inr (let z : Some p ≡ Some w = sym i.1 ∙ k in let y : p ≡ w = cc in (
          x,
          ap (λ (j : ℕ). event.TasFor j who x) y ∙ ap (λ (j : ℕ). event.TasFor w j x) (sym (own_one v who i.0)),
          subst (λ (j : ℕ). was_clear (page j) (value_of s.table.words (page j)) ≡ true) y q,
        ))
        | inr i ↦ inl (sym i.1 ∙ k, λ z. absurd (unflags_not (event.TasFor p who x) refl z))
      ]
  taken_or event.Unflag v w h = elim (put_case s.table.taken (own me) None (own v)) [
    | inl i ↦ absurd (none-some w (sym i.1 ∙ h))
    | inr i ↦ inl (sym i.1 ∙ h, λ _ q. i.0 (ap own q))
  ]
  taken_or (event.Lock k) v w h = inl (
    sym (ap (λ (f : ℕ → Option ℕ). f (own v)) (looks_same (tables.next s.table me (step.Lock k g.walk
        (head_word (s.table.holder k) (s.table.spent k)))) s.table.entry me).taken) ∙ h,
    λ z. absurd (unflags_not (event.Lock k) refl z),
  )
  taken_or (event.Active k hit) v w h = inl (
    sym (ap (λ (f : ℕ → Option ℕ). f (own v)) (peeks_same s.table s.table.entry me).taken) ∙ h,
    λ z. absurd (unflags_not (event.Active k hit) refl z),
  )
  taken_or (event.Set c n) v w h = by (is_publishing g.watch (value_of s.table.words g.watch) n) h
    where
      by : (b : Bool) → (tables.next s.table me (if b
          then step.Publish g.watch n (value_of s.table.words g.watch)
          else step.Consume g.watch n (value_of s.table.words g.watch))).taken (own v) ≡ Some w
          → ((s.table.taken (own v) ≡ Some w) × (event.Set c n ≡ event.Unflag → v ≢ me))
          ⊎ ((x : ℕ) × (event.Set c n ≡ event.TasFor w v x)
          × (was_clear (page w) (value_of s.table.words (page w)) ≡ true))
      by true k = inl (k, λ z. absurd (unflags_not (event.Set c n) refl z))
      by false k = inl (k, λ z. absurd (unflags_not (event.Set c n) refl z))
  taken_or e v w h = inl (h, λ z. absurd (unflags_not e refl z))

-- only a walk at a page's entry tries one for another task
abbrev is_try : Event → Bool
is_try (event.TasFor w v x) = true
is_try _ = false

try_if : (b : Bool) (x y : Planned) → is_try x.event ≡ false → is_try y.event ≡ false
    → is_try (if b then x else y).event ≡ false
try_if true x y h k = h
try_if false x y h k = k

page_tries : (me : ℕ) (call : Call) (p : PagePoint) (seen : Seen) → is_try (page_event me call p seen).event ≡ false
page_tries me call paging.First seen = try_if (call_fails call seen) _ _ refl refl
page_tries me call paging.Queue seen = by seen.worn
  where
    by : (b : Bool) → is_try (page_queue call b).event ≡ false
    by true = refl
    by false = refl
page_tries me call (paging.Unlock true) seen = refl
page_tries me call (paging.Unlock false) seen = refl
page_tries me call (paging.Finish finishing.State) seen = refl
page_tries me call (paging.Finish finishing.Look) seen = try_if (is_some seen.entry) _ _ refl refl
page_tries me call (paging.Finish finishing.Lock) seen = refl
page_tries me call (paging.Finish finishing.Queue) seen = try_if (is_some seen.entry) _ _ refl refl
page_tries me call (paging.Finish finishing.Unlock) seen = refl
page_tries me call paging.Last seen = by seen.flag
  where
    by : (b : Bool) → is_try (page_last b).event ≡ false
    by true = refl
    by false = refl
page_tries me call p seen = refl

sober_tries : (e : Event) → IsSober e → is_try e ≡ false
sober_tries (event.TasFor w v x) o = absurd o
sober_tries e o = refl

clear_not : (b : Bool) → not b ≡ true → b ≡ false
clear_not true h = absurd (cc)
clear_not false h = refl

-- where a task with an entry of a page stands: at a place at which the page may be taken for it, or in its own hold
page_bare : (c : Watch) → c ≡ page (word_of c) → bare c ≡ c
page_bare c is = subst (λ (d : Watch). bare d ≡ d) (sym is) refl

lent_at : (n : ℕ) (q : Progress) (it : Entry) (w : ℕ) → is_page it.kind ≡ true → it.watch ≡ page w → IsSoundCall n q
    → HomeAt q (Some it) → LocksPage q w ⊎ (held_at q ≡ Some (head_of it.watch))
lent_at n (now.Open call (at.Page (paging.Unlock false))) it w pg is k h =
    inl (sym (sym is ∙ h.0 ∙ page_bare (call_watch call) k.fitted), refl)
lent_at n (now.Open call (at.Page paging.State)) it w pg is k h =
    inl (sym (sym is ∙ h.0 ∙ page_bare (call_watch call) k.fitted), refl)
lent_at n (now.Open call (at.Page paging.Flag)) it w pg is k h =
    inl (sym (sym is ∙ h.0 ∙ page_bare (call_watch call) k.fitted), refl)
lent_at n (now.Open call (at.Page paging.Look)) it w pg is k h =
    inl (sym (sym is ∙ h.0 ∙ page_bare (call_watch call) k.fitted), refl)
lent_at n (now.Open call (at.Page paging.Sleep)) it w pg is k h =
    inl (sym (sym is ∙ h.0 ∙ page_bare (call_watch call) k.fitted), refl)
lent_at n (now.Open call (at.Page (paging.Finish finishing.State))) it w pg is k h =
    inl (sym (sym is ∙ h.0 ∙ page_bare (call_watch call) k.fitted), refl)
lent_at n (now.Open call (at.Page (paging.Finish finishing.Look))) it w pg is k h =
    inl (sym (sym is ∙ h.0 ∙ page_bare (call_watch call) k.fitted), refl)
lent_at n (now.Open call (at.Page (paging.Finish finishing.Lock))) it w pg is k h =
    inl (sym (sym is ∙ h.0 ∙ page_bare (call_watch call) k.fitted), refl)
lent_at n (now.Open call (at.Page (paging.Finish finishing.Queue))) it w pg is k h =
    inl (sym (sym is ∙ h.0 ∙ page_bare (call_watch call) k.fitted), refl)
lent_at n (now.Open call (at.Page paging.Try)) it w pg is k h =
    inr (ap (λ (c : Watch). Some (head_of c)) (sym (page_bare (call_watch call) k.fitted) ∙ sym h.0))
lent_at n (now.Open call (at.Page paging.Off)) it w pg is k h =
    inr (ap (λ (c : Watch). Some (head_of c)) (sym (page_bare (call_watch call) k.fitted) ∙ sym h.0))
lent_at n (now.Open call (at.Page paging.First)) it w pg is k h = absurd h
lent_at n (now.Open call (at.Page paging.Unflag)) it w pg is k h = absurd h
lent_at n (now.Open call (at.Page paging.Lock)) it w pg is k h = absurd h
lent_at n (now.Open call (at.Page paging.Queue)) it w pg is k h = absurd h
lent_at n (now.Open call (at.Page (paging.Unlock true))) it w pg is k h = absurd h
lent_at n (now.Open call (at.Page (paging.Finish finishing.Unlock))) it w pg is k h = absurd h
lent_at n (now.Open call (at.Page paging.Last)) it w pg is k h = absurd h
lent_at n (now.Open call (at.Page paging.Clear)) it w pg is k h = absurd h
lent_at n (now.Open call p) it w pg is k h = absurd (no_zone p refl (page_zone (zone p) (call_watch call) it pg h))
lent_at n now.Idle it w pg is k h = absurd (let z : is_page it.kind ≡ false = standing_plain it.kind h in cc)
lent_at n now.Fresh it w pg is k h = absurd (let z : is_page it.kind ≡ false = standing_plain it.kind h in cc)

-- where its own events lead
module _ (s : State) (me : ℕ) (call : Call) where
  abbrev X : PagePoint → Planned
  X p = planned s me call (at.Page p)

  lock_if : (w : ℕ) (b : Bool) (x y : Planned) → LocksPage (progress_at call x.next) w
      → LocksPage (progress_at call y.next) w → LocksPage (progress_at call (if b then x else y).next) w
  lock_if w true x y h k = h
  lock_if w false x y h k = k

  locks_next : (p : PagePoint) (w : ℕ) → LocksPage (now.Open call (at.Page p)) w → ((X p).event ≡ event.Unflag → ⊥)
      → (p ≡ paging.Last → s.table.flag (own me) ≡ true) → LocksPage (progress_at call (X p).next) w
  locks_next (paging.Unlock false) w l u f = (l.0, refl)
  locks_next (paging.Unlock true) w l u f = absurd (both_ways false refl l.1)
  locks_next paging.State w l u f = (l.0, refl)
  locks_next paging.Flag w l u f = by (s.table.flag (own me)) (looks_in (state_in call))
    where
      by : (b k : Bool) → LocksPage (now.Open call (at.Page (if b then paging.Finish finishing.State
          else if k then paging.Look else paging.Sleep))) w
      by true k = (l.0, refl)
      by false true = (l.0, refl)
      by false false = (l.0, refl)
  locks_next paging.Look w l u f = by (pending (state_mask (state_in call)) (s.table.task me))
    where
      by : (b : Bool) → LocksPage (now.Open call (at.Page (if b then paging.Finish finishing.State
          else paging.Sleep))) w
      by true = (l.0, refl)
      by false = (l.0, refl)
  locks_next paging.Sleep w l u f = (l.0, refl)
  locks_next (paging.Finish finishing.State) w l u f = (l.0, refl)
  locks_next (paging.Finish finishing.Look) w l u f = lock_if w (is_some (s.table.entry (own me))) _ _ (l.0, refl)
      (l.0, refl)
  locks_next (paging.Finish finishing.Lock) w l u f = (l.0, refl)
  locks_next (paging.Finish finishing.Queue) w l u f = lock_if w (is_some (s.table.entry (own me))) _ _ (l.0, refl)
      (l.0, refl)
  locks_next (paging.Finish finishing.Unlock) w l u f = (l.0, refl)
  locks_next paging.Last w l u f = by (s.table.flag (own me)) (f refl)
    where
      by : (b : Bool) → b ≡ true → LocksPage (progress_at call (page_last b).next) w
      by true z = (l.0, refl)
      by false z = absurd (cc)
  locks_next paging.Clear w l u f = absurd (u refl)
  locks_next p w l u f = absurd (both_ways false refl l.1)

-- one event of a run
module _ (s : State) (n me : ℕ) (e : Event) (value : ℕ) (sound : IsSound s n) (lent : ArePagesLent s) where
  abbrev u : State
  u = happens s (ran.Made me e value)

  abbrev np : Progress
  np = progress_after s me (s.progress me)

  -- a walk tries a page for a task: that locks the page, and the walk is about to tell it so
  tried : (w v x : ℕ) → e ≡ event.TasFor w v x → was_clear (page w) (value_of s.table.words (page w)) ≡ true
      → (q : Progress) → s.progress me ≡ q → Continues s me q e value
      → LocksPage (s.progress v) w × (tells_next np ≡ Some v) × (v ≢ me)
  tried w v x is cl now.Fresh at_q c = absurd c
  tried w v x is cl now.Idle at_q c = absurd c
  tried w v x is cl (now.Open call (at.Page p)) at_q c = absurd (false_not
      (sym (page_tries me call p (seen_by s me call (at.Page p))) ∙ ap is_try (sym c.0 ∙ is)))
  tried w v x is cl (now.Open call (at.Walk (walking.Page staging.Hand k d))) at_q c =
      absurd (false_not (ap is_try (sym c.0 ∙ is)))
  tried w v x is cl (now.Open call (at.Walk (walking.Page staging.Wake k d))) at_q c =
      absurd (false_not (ap is_try (sym c.0 ∙ is)))
  tried w v x is cl (now.Open call (at.Walk (walking.Page staging.Off k d))) at_q c =
      absurd (false_not (ap is_try (sym c.0 ∙ is)))
  tried w v x is cl (now.Open call (at.Walk (walking.Page staging.Try k d))) at_q c =
      (locks (lent_at n (s.progress v) f.it w pg watch_is (sound.calls v) home), tells, apart)
    where
      r : ℕ
      r = value_of s.table.words (call_watch call)

      same_event : event.TasFor (word_of (call_watch call)) d.who (flag (bit_at r (bit_of (call_watch call))))
          ≡ event.TasFor w v x
      same_event = sym c.0 ∙ is

      parts : (word_of (call_watch call) ≡ w) × (d.who ≡ v)
      parts = try_parts (word_of (call_watch call)) w d.who v (flag (bit_at r (bit_of (call_watch call)))) x same_event

      who_is : d.who ≡ v
      who_is = parts.1

      word_is : word_of (call_watch call) ≡ w
      word_is = parts.0

      k_sound : IsSoundCall n (now.Open call (at.Walk (walking.Page staging.Try k d)))
      k_sound = subst (IsSoundCall n) at_q (sound.calls me)

      pl : IsPlaced s.table.entry (s.table.view me) me (now.Open call (at.Walk (walking.Page staging.Try k d)))
      pl = subst (IsPlaced s.table.entry (s.table.view me) me) at_q (sound.placed me)

      aims : call_watch call ≡ page (word_of (call_watch call))
      aims = (subst (CountedBy s.table.entry (s.table.view me)) at_q (sound.counted me)).1

      call_page : call_watch call ≡ page w
      call_page = aims ∙ ap page word_is

      f : IsFlagged s.table.entry d (Some (call_head call)) (call_watch call)
      f = pl.flagged d refl

      pg : is_page f.it.kind ≡ true
      pg = ap (λ (i : CalledEntry). is_page i.kind) (sym f.seen) ∙ ap is_page k_sound.walk.4

      watch_is : f.it.watch ≡ page w
      watch_is = let bit : is_bit (call_watch call) ≡ true = ap is_bit aims in
          same_bit_is f.it.watch (call_watch call) (same_bit f.it.watch (call_watch call) f.key bit) f.key ∙ call_page

      home : HomeAt (s.progress v) (Some f.it)
      home = subst (HomeAt (s.progress v)) (ap (λ (i : ℕ). s.table.entry (own i)) (sym who_is) ∙ f.stands)
          (sound.placed v).home

      apart : v ≢ me
      apart q = let z = subst (λ (i : Progress). HomeAt i (Some f.it)) (ap s.progress q ∙ at_q) home in
          false_not (sym (standing_plain f.it.kind z) ∙ pg)

      locks : LocksPage (s.progress v) w ⊎ (held_at (s.progress v) ≡ Some (head_of f.it.watch))
          → LocksPage (s.progress v) w
      locks (inl l) = l
      locks (inr h) = absurd (apart (sound.kept.facts.one_holder v me (head_of f.it.watch)
          ((sound.placed v).head ∙ h) (pl.head ∙ f.head)))

      missed : misses (call_watch call) r ≡ false
      missed = ap (λ (i : Watch). misses i (value_of s.table.words i)) call_page ∙ clear_not (bit_at
          (value_of s.table.words (page w)) 0) cl

      tells : tells_next np ≡ Some v
      tells = ap tells_next (ap (progress_after s me) at_q
          ∙ ap (λ (b : Bool). now.Open call (at.Walk (if b then walking.Stopped k else walking.Page staging.Hand k d)))
          missed) ∙ ap (λ (i : ℕ). Some i) who_is
  tried w v x is cl (now.Open call p) at_q c = absurd (false_not
      (sym (sober_tries (planned s me call p).event (program_apart call me (seen_by s me call p) p tt).event)
      ∙ ap is_try (sym c.0 ∙ is)))

  -- who is told of its page
  told_on : (v w : ℕ) → (e ≡ event.Unflag → v ≢ me)
      → (s.table.flag (own v) ≡ true) ⊎ ((a : ℕ) × (tells_next (s.progress a) ≡ Some v))
      → (q : Progress) → s.progress me ≡ q → Continues s me q e value
      → (u.table.flag (own v) ≡ true) ⊎ ((a : ℕ) × (tells_next (put s.progress me np a) ≡ Some v))
  told_on v w o (inl h) q at_q c = inl (flag_stays s me (given_by (s.progress me)) e v o h)
  told_on v w o (inr h) q at_q c = elim (eqb_tells h.0 me) [
    | inl k ↦ inl (tells (subst (λ (i : ℕ). tells_next (s.progress i) ≡ Some v) k.1 h.1) q at_q c)
    | inr k ↦ inr (h.0, ap tells_next (put_other s.progress me np h.0 k.1) ∙ h.1)
  ]
    where
      tells : tells_next (s.progress me) ≡ Some v → (q : Progress) → s.progress me ≡ q → Continues s me q e value
          → u.table.flag (own v) ≡ true
      tells t (now.Open call (at.Walk (walking.Page staging.Hand k d))) at_q c =
          let z : Some d.who ≡ Some v = sym (ap tells_next at_q) ∙ t in
          let y : d.who ≡ v = cc in
          subst (λ (i : Event). (A s me (given_by (s.progress me)) i).flag (own v) ≡ true) (sym c.0)
          (put_at (λ b. b ≡ true) s.table.flag (own d.who) true (own v) (λ _. refl)
          (λ ne. absurd (ne (sym (ap own y)))))
      tells t (now.Open call (at.Walk (walking.Page staging.Try k d))) at_q c =
          absurd (none_not v (tells_next (s.progress me)) (ap tells_next at_q) t)
      tells t (now.Open call (at.Walk (walking.Page staging.Wake k d))) at_q c =
          absurd (none_not v (tells_next (s.progress me)) (ap tells_next at_q) t)
      tells t (now.Open call (at.Walk (walking.Page staging.Off k d))) at_q c =
          absurd (none_not v (tells_next (s.progress me)) (ap tells_next at_q) t)
      tells t (now.Open call p) at_q c = absurd (none_not v (tells_next (s.progress me)) (ap tells_next at_q) t)
      tells t now.Idle at_q c = absurd c
      tells t now.Fresh at_q c = absurd c

  -- whose entry is off is not about to be told
  untold : (w : ℕ) → s.table.taken (own me) ≡ Some w → s.table.entry (own me) ≡ None → s.table.flag (own me) ≡ true
  untold w t none = by (lent.noted me w t)
    where
      by : (s.table.flag (own me) ≡ true) ⊎ ((a : ℕ) × (tells_next (s.progress a) ≡ Some me))
          → s.table.flag (own me) ≡ true
      by (inl h) = h
      by (inr h) =
          let f : IsHanding s.table.entry me (s.table.view h.0).hold.head =
          handing_of s.table.entry (s.table.view h.0) n h.0 me (s.progress h.0) (sound.placed h.0) (sound.calls h.0)
          (tells_hands (s.progress h.0) me h.1) in
          absurd (some_not f.it (s.table.entry (own me)) none f.stands)

  own_locks : (w : ℕ) → s.table.taken (own me) ≡ Some w → (e ≡ event.Unflag → ⊥) → (q : Progress) → s.progress me ≡ q
      → LocksPage q w → Continues s me q e value → LocksPage np w
  own_locks w t o (now.Open call (at.Page p)) at_q l c =
      subst (λ (i : Progress). LocksPage i w) (sym (ap (progress_after s me) at_q))
      (locks_next s me call p w l (λ z. o (c.0 ∙ z)) (λ z. untold w t (off (subst (λ (i : PagePoint).
      HomeAt (now.Open call (at.Page i)) (s.table.entry (own me))) z
      (subst (λ (i : Progress). HomeAt i (s.table.entry (own me))) at_q (sound.placed me).home)))))
    where
      off : HomeAt (now.Open call (at.Page paging.Last)) (s.table.entry (own me)) → s.table.entry (own me) ≡ None
      off h = is_off (s.table.entry (own me)) (call_watch call) h
  own_locks w t o (now.Open call p) at_q l c = absurd l
  own_locks w t o now.Idle at_q l c = absurd l
  own_locks w t o now.Fresh at_q l c = absurd l

  next_locks : (v w : ℕ) → u.table.taken (own v) ≡ Some w → Continues s me (s.progress me) e value
      → LocksPage (put s.progress me np v) w
  next_locks v w t c = by (taken_or s me (given_by (s.progress me)) e v w t)
    where
      by : ((s.table.taken (own v) ≡ Some w) × (e ≡ event.Unflag → v ≢ me))
          ⊎ ((x : ℕ) × (e ≡ event.TasFor w v x)
          × (was_clear (page w) (value_of s.table.words (page w)) ≡ true)) → LocksPage (put s.progress me np v) w
      by (inl h) = put_at (λ i. LocksPage i w) s.progress me np v
          (λ q. own_locks w (ap (λ (i : ℕ). s.table.taken (own i)) (sym q) ∙ h.0) (λ z. h.1 z q) (s.progress me) refl
          (subst (λ (i : ℕ). LocksPage (s.progress i) w) q (lent.locks v w h.0)) c)
          (λ _. lent.locks v w h.0)
      by (inr h) = let k = tried w v h.0 h.1 h.2 (s.progress me) refl c in
          subst (λ (i : Progress). LocksPage i w) (sym (put_other s.progress me np v k.2)) k.0

  next_noted : (v w : ℕ) → u.table.taken (own v) ≡ Some w → Continues s me (s.progress me) e value
      → (u.table.flag (own v) ≡ true) ⊎ ((a : ℕ) × (tells_next (put s.progress me np a) ≡ Some v))
  next_noted v w t c = by (taken_or s me (given_by (s.progress me)) e v w t)
    where
      by : ((s.table.taken (own v) ≡ Some w) × (e ≡ event.Unflag → v ≢ me))
          ⊎ ((x : ℕ) × (e ≡ event.TasFor w v x)
          × (was_clear (page w) (value_of s.table.words (page w)) ≡ true))
          → (u.table.flag (own v) ≡ true) ⊎ ((a : ℕ) × (tells_next (put s.progress me np a) ≡ Some v))
      by (inl h) = told_on v w h.1 (lent.noted v w h.0) (s.progress me) refl c
      by (inr h) = let k = tried w v h.0 h.1 h.2 (s.progress me) refl c in
          inr (me, ap tells_next (put_same s.progress me np) ∙ k.1)

  pub made_lent : Continues s me (s.progress me) e value → ArePagesLent u
  made_lent c = record { locks = λ v w t. next_locks v w t c; noted = λ v w t. next_noted v w t c }

-- an opening: the task had no page taken for it
closed_locks : (q : Progress) (w : ℕ) → is_open q ≡ false → LocksPage q w → ⊥
closed_locks now.Fresh w c l = l
closed_locks now.Idle w c l = l
closed_locks (now.Open call p) w c l = cc

closed_tells : (q : Progress) (v : ℕ) → is_open q ≡ false → tells_next q ≡ Some v → ⊥
closed_tells now.Fresh v c l = cc
closed_tells now.Idle v c l = cc
closed_tells (now.Open call p) v c l = cc

opened_lent : (s : State) (me : ℕ) (call : Call) → ArePagesLent s → is_open (s.progress me) ≡ false
    → ArePagesLent (happens s (ran.Opened me call))
opened_lent s me call lent shut = record {
  locks = λ v w t. put_at (λ q. LocksPage q w) s.progress me (now.Open call (program_start call)) v
      (λ q. absurd (closed_locks (s.progress me) w shut (subst (λ (i : ℕ). LocksPage (s.progress i) w) q
      (lent.locks v w t)))) (λ _. lent.locks v w t);
  noted = λ v w t. elim (lent.noted v w t) [
    | inl h ↦ inl h
    | inr h ↦ inr (
      h.0,
      put_at (λ q. tells_next q ≡ Some v) s.progress me (now.Open call (program_start call)) h.0
          (λ q. absurd (closed_tells (s.progress me) v shut (subst (λ (i : ℕ). tells_next (s.progress i) ≡ Some v) q
          h.1))) (λ _. h.1),
    )
  ];
}

lent_after : (s : State) (items : List Ran) (n : ℕ) → IsRunFrom s items → IsSound s n → ArePagesLent s
    → n + made_in items ≤ EVENTS → ArePagesLent (state_after s items)
lent_after s [] n r sound lent few = lent
lent_after s (ran.Opened me call ∷ items) n r sound lent few =
    lent_after (happens s (ran.Opened me call)) items n r.1 (opened_sound s n me call sound r.0)
    (opened_lent s me call lent r.0.1) few
lent_after s (ran.Made me e value ∷ items) n r sound lent few =
    lent_after (happens s (ran.Made me e value)) items (n + 1) r.1 (made_sound s n me e value sound (omega arith) r.0)
    (made_lent s n me e value sound lent r.0.1) (omega arith)

start_lent : ArePagesLent start_state
start_lent = record { locks = λ v w t. absurd (cc); noted = λ v w t. absurd (cc) }

pub lent_of : (run : List Ran) → IsRun run → made_in run ≤ EVENTS → ArePagesLent (state_of run)
lent_of run r few = lent_after start_state run 0 r start_sound start_lent (omega (arith, few))

-- only a call that locks a page stands at its places
locking : (call : Call) (p : PagePoint) (w : ℕ) → is_page_lock call ≡ true → call_watch call ≡ page w
    → IsLocking (now.Open call (at.Page p)) w
locking (calls.LockPage k st) p w l is = cc
locking call p w l is = absurd (cc)

lent_lock : (n : ℕ) (q : Progress) (w : ℕ) → FitsStage q → IsSoundCall n q → LocksPage q w → IsLocking q w
lent_lock n (now.Open call (at.Page p)) w f k l = locking call p w (paging_locks call p f k.fitted) l.0
lent_lock n (now.Open call p) w f k l = absurd l
lent_lock n now.Idle w f k l = absurd l
lent_lock n now.Fresh w f k l = absurd l

pub no_run_leaves_page : NoRunLeavesPage
no_run_leaves_page run r few t w h = lent_lock (made_in run) ((state_of run).progress t) w (fits_of run r few t)
    ((sound_of run r few).calls t) ((lent_of run r few).locks t w h)
