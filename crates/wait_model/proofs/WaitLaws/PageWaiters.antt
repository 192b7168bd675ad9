-- In every run whoever waits for a page is told of it before its entry is taken off.
use Rattle.std.proofs.lemmas.Bool.{both_ways}
use Rattle.std.proofs.lemmas.Option.{none-some}
use Rattle.std.proofs.lemmas.Bool.Decides.{eqb_tells}
use Rattle.std.proofs.Common.{refl, sym, ◌∙◌, ap, subst, arith, inl, inr}
use Rattle.std.specs.Prelude.{ℕ, ◌≡◌, ◌≢◌, ◌+◌, ◌≤◌, Bool, true, false, if◌then◌else◌, Option, Some, None, List, []}
use Rattle.std.specs.Prelude.{◌∷◌}
use Rattle.wait_model.specs.{declared.layout.TheConstants.EVENTS, declared.watches.Entry.Entry}
use Rattle.wait_model.specs.{declared.tasks.TaskRecord.TaskRecord, declared.calls.Call.Call, declared.calls.Event.Event}
use Rattle.wait_model.specs.{declared.calls.Ran.Ran, declared.queues.Walking.Walking}
use Rattle.wait_model.specs.{declared.queues.CalledEntry.CalledEntry, declared.points.Given.Given}
use Rattle.wait_model.specs.{declared.points.Next.Next, declared.points.Point.Point}
use Rattle.wait_model.specs.{declared.points.PagePoint.PagePoint, declared.points.PageStage.PageStage}
use Rattle.wait_model.specs.{declared.points.Progress.Progress, Functions.put, Tasks.woken, Views.View, Tables.Table}
use Rattle.wait_model.specs.{Tables.value_of, Points.call_watch, Points.given_at, Programs.program_start, Programs.past}
use Rattle.wait_model.specs.Watches.{is_page, misses, word_of, page, mask_of}
use Rattle.wait_model.specs.Reached.{held_at, handed_by, HomeAt, IsTaken, IsSound, IsSoundCall, zone}
use Rattle.wait_model.specs.Runs.{State, own, given_by, planned, seen_by, progress_at, progress_after, event_steps}
use Rattle.wait_model.specs.Runs.{happens, start_state, state_after, state_of, Continues, IsItem, IsRunFrom, IsRun}
use Rattle.wait_model.specs.Runs.{made_in}
use Rattle.wait_model.specs.declared.watches.Mode.TheVariants as mode
use Rattle.wait_model.specs.declared.calls.Call.TheVariants as calls
use Rattle.wait_model.specs.declared.calls.Event.TheVariants as event
use Rattle.wait_model.specs.declared.calls.Ran.TheVariants as ran
use Rattle.wait_model.specs.declared.points.Next.TheVariants as next
use Rattle.wait_model.specs.declared.points.Point.TheVariants as at
use Rattle.wait_model.specs.declared.points.PageStage.TheVariants as staging
use Rattle.wait_model.specs.declared.points.WalkPoint.TheVariants as walking
use Rattle.wait_model.specs.declared.points.Progress.TheVariants as now
use Rattle.wait_model.proofs.Functions.{put_at, put_same, put_other}
use Rattle.wait_model.proofs.HistoryLaws.HoldLooks.{steps_own, steps_other}
use Rattle.wait_model.proofs.RunLaws.OthersEvents.{Changes}
use Rattle.wait_model.proofs.RunLaws.EveryRun.{IsMade, made_of, opened_sound, made_sound, start_sound}
use Rattle.wait_model.proofs.RunLaws.PagelessPoints.{IsElsewhere, IsApart, program_apart}
use Rattle.wait_model.proofs.RunLaws.PagesHanded.{IsHanding, handing_of, standing_plain}
use Rattle.wait_model.proofs.WaitLaws.WaitStages.{FitsStage, IsRoused, others_roused, own_up, roused_up, low_woken}
use Rattle.wait_model.proofs.WaitLaws.Waiters.{TakesAt, IsAlert, IsTurn, turn_of, made_alert, opened_alert, start_alert}
use Rattle.wait_model.proofs.WaitLaws.Waiters.{closed_up, page_zone}
use Rattle.wait_model.proofs.WaitLaws.PageTurns.{A, X, N, B, V, Lands, told_by, roused_by, has_asked, is_turning, IsUp}
use Rattle.wait_model.proofs.WaitLaws.PageTurns.{FoundSet, IsPaged, is_paging, ArePagesTold, told_hands, roused_told}
use Rattle.wait_model.proofs.WaitLaws.PageTurns.{apart_told, paging_locks, turning_paging, any_paging, no_zone}
use Rattle.wait_model.proofs.WaitLaws.PageTurns.{elsewhere_paging, flag_stays, went, up_still, page_lands, lands_paged}
use Rattle.wait_model.proofs.WaitLaws.PageTurns.{lands_untold, moved_paged, unlocked_paged, turn_off, leads_to_turn}
use Rattle.wait_model.proofs.WaitLaws.PageTurns.{page_found, up_next, awake_event, turning_page, hands_not, woken_runs}

abbrev is_unqueue : Event → Bool
is_unqueue (event.Unqueue v) = true
is_unqueue _ = false

unqueues_not : (e : Event) (v : ℕ) → is_unqueue e ≡ false → e ≡ event.Unqueue v → ⊥
unqueues_not e v other is = both_ways (is_unqueue e) other (ap is_unqueue is)

-- one event of a run
module _ (s : State) (n me : ℕ) (e : Event) (found : ℕ) (sound : IsSound s n)
    (sound2 : IsSound (happens s (ran.Made me e found)) (n + 1)) (al : IsAlert s) (pt : ArePagesTold s)
    (m : IsMade s n me (s.progress me) e) (turn : IsTurn s me (s.progress me) e) where
  abbrev u : State
  u = happens s (ran.Made me e found)

  abbrev g : Given
  g = given_by (s.progress me)

  abbrev np : Progress
  np = progress_after s me (s.progress me)

  -- the entry of a task that a walk hands a page is one of kind Page, of a task at a place of its wait
  handed_entry : (a t : ℕ) → handed_by (s.progress a) ≡ Some t
      → IsHanding s.table.entry t (s.table.view a).hold.head
  handed_entry a t h = handing_of s.table.entry (s.table.view a) n a t (s.progress a) (sound.placed a) (sound.calls a) h

  home_paging : (t : ℕ) (q : Progress) (d : Entry) → is_page d.kind ≡ true → HomeAt q (Some d)
      → is_paging q ≡ true
  home_paging t (now.Open call p) d pg home = by (is_paging (now.Open call p)) refl
    where
      by : (b : Bool) → is_paging (now.Open call p) ≡ b → is_paging (now.Open call p) ≡ true
      by true q = q
      by false q = absurd (no_zone p (any_paging call p ∙ q) (page_zone (zone p) (call_watch call) d pg home))
  home_paging t now.Idle d pg home = absurd (let z : is_page d.kind ≡ false = standing_plain d.kind home in cc)
  home_paging t now.Fresh d pg home = absurd (let z : is_page d.kind ≡ false = standing_plain d.kind home in cc)

  handed_paging : (a t : ℕ) → handed_by (s.progress a) ≡ Some t → is_paging (s.progress t) ≡ true
  handed_paging a t h =
      let f = handed_entry a t h in
      home_paging t (s.progress t) f.it f.kind (subst (HomeAt (s.progress t)) f.stands (sound.placed t).home)

  -- nobody clears the flag of an entry of a page that is queued
  no_unflag : (a t : ℕ) → handed_by (s.progress a) ≡ Some t → e ≡ event.Unflag → t ≢ me
  no_unflag a t h is q =
      let f = handed_entry a t h in
      let c : Changes s me event.Unflag = subst (Changes s me) is m.changes in
      let z : is_page f.it.kind ≡ false = c f.it (sym (ap (λ (i : ℕ). s.table.entry (own i)) q) ∙ f.stands) in
      let y : is_page f.it.kind ≡ true = f.kind in cc

  roused : (t : ℕ) → t ≢ me → IsRoused (s.table.task t) (u.table.task t)
  roused t ne = others_roused s me g e t ne

  -- who comes to a place of a page was at one
  module _ (call : Call) (p : Point) (is : s.progress me ≡ now.Open call p)
      (away : is_paging (now.Open call p) ≡ false) where
    abbrev P : Next → Progress
    P x = progress_at call x

    pub goes : np ≡ P (planned s me call p).next
    goes = ap (progress_after s me) is

    pub stays_away : (x : Next) → np ≡ P x → is_paging (P x) ≡ false
    stays_away (next.Ends a) k = refl
    stays_away (next.Go (at.Page d)) k = absurd (unlocked_paged call p away (subst IsPaged is (pt.paged me))
        (paging_locks call d (subst FitsStage k turn.fits)
        (subst (IsSoundCall (n + 1)) (put_same s.progress me np ∙ k) (sound2.calls me)).fitted))
    stays_away (next.Go d) k = refl

  -- what the task itself is after its event
  record OwnPart (t : Table) (q : Progress) : Type 0 where
    told : (v : ℕ) → told_by q ≡ Some v → t.flag (own v) ≡ true
    up : (v : ℕ) → roused_by q ≡ Some v → IsUp (put s.progress me q v) (t.task v)
    off : is_turning q ≡ true → t.entry (own me) ≡ None → (t.flag (own me) ≡ true) × IsUp q (t.task me)
    set_page : FoundSet q (t.view me) me
    paged : IsPaged q
    awake : is_paging q ≡ true → is_turning q ≡ false → (t.task me).runnable ≡ true
    up_own : s.table.flag (own me) ≡ true → IsUp (s.progress me) (s.table.task me) → is_paging (s.progress me) ≡ true
        → IsUp q (t.task me)
    off_by : (v : ℕ) → e ≡ event.Unqueue v → handed_by (s.progress me) ≡ Some v → roused_by (s.progress me) ≡ Some v

  -- then the whole
  module _ (it : OwnPart u.table np) where
    whole_up : (a v : ℕ) → roused_by (s.progress a) ≡ Some v → IsUp (put s.progress me np v) (u.table.task v)
    whole_up a v h = elim (eqb_tells v me) [
      | inl q ↦ subst (λ (i : ℕ). IsUp (put s.progress me np i) (u.table.task i)) (sym q.1)
          (subst (λ (r : Progress). IsUp r (u.table.task me)) (sym (put_same s.progress me np))
          (it.up_own (subst (λ (i : ℕ). s.table.flag (own i) ≡ true) q.1 (pt.told a v (roused_told (s.progress a) v h)))
          (subst (λ (i : ℕ). IsUp (s.progress i) (s.table.task i)) q.1 (pt.up a v h))
          (subst (λ (i : ℕ). is_paging (s.progress i) ≡ true) q.1 (handed_paging a v
          (told_hands (s.progress a) v (roused_told (s.progress a) v h))))))
      | inr q ↦ subst (λ (r : Progress). IsUp r (u.table.task v)) (sym (put_other s.progress me np v q.1))
          (up_still (s.progress v) (s.table.task v) (u.table.task v) (roused v q.1) (pt.up a v h))
    ]

    gone_told : (v : ℕ) → v ≢ me → is_turning (s.progress v) ≡ true → (d : Entry) → s.table.entry (own v) ≡ Some d
        → e ≡ event.Unqueue v → TakesAt s me (s.progress me) (event.Unqueue v)
        → (s.table.flag (own v) ≡ true) × IsUp (s.progress v) (s.table.task v)
    gone_told v ne h d st w (inl q) = absurd (ne q)
    gone_told v ne h d st w (inr (inl k)) =
        let t : IsTaken s.table.entry v (held_at (s.progress me)) = (sound.placed me).taken v k in
        let y : is_page d.kind ≡ true = turning_page (s.progress v) d h
        (subst (HomeAt (s.progress v)) st (sound.placed v).home) in
        let z : Some t.it ≡ Some d = sym t.stands ∙ st in
        let one : t.it ≡ d = cc in
        absurd (let x : is_page d.kind ≡ false = sym (ap (λ (i : Entry). is_page i.kind) one) ∙ t.unpaged in cc)
    gone_told v ne h d st w (inr (inr k)) =
        let r = it.off_by v w k in
        (pt.told me v (roused_told (s.progress me) v r), pt.up me v r)

    other_off : (v : ℕ) → v ≢ me → is_turning (s.progress v) ≡ true → u.table.entry (own v) ≡ None
        → (o : Option Entry) → s.table.entry (own v) ≡ o
        → (u.table.flag (own v) ≡ true) × IsUp (s.progress v) (u.table.task v)
    other_off v ne h gone None st =
        let k = pt.off v h st in (
          flag_stays s me g e v (λ _. ne) k.0,
          up_still (s.progress v) (s.table.task v) (u.table.task v) (roused v ne) k.1,
        )
    other_off v ne h gone (Some d) st =
        let w : e ≡ event.Unqueue v = went s me g e v d st gone in
        let k = gone_told v ne h d st w (subst (TakesAt s me (s.progress me)) w turn.takes) in (
          flag_stays s me g e v (λ _. ne) k.0,
          up_still (s.progress v) (s.table.task v) (u.table.task v) (roused v ne) k.1,
        )

    whole : ArePagesTold u
    whole = record {
      told = λ a v. put_at (λ q. told_by q ≡ Some v → u.table.flag (own v) ≡ true) s.progress me np a
          (λ _. it.told v)
          (λ _ h. flag_stays s me g e v (no_unflag a v (told_hands (s.progress a) v h)) (pt.told a v h));
      up = λ a v. put_at (λ q. roused_by q ≡ Some v → IsUp (put s.progress me np v) (u.table.task v)) s.progress me np a
          (λ _. it.up v) (λ _. whole_up a v);
      off = λ v. put_at (λ q. is_turning q ≡ true → u.table.entry (own v) ≡ None
          → (u.table.flag (own v) ≡ true) × IsUp q (u.table.task v)) s.progress me np v
          (λ q. subst (λ (i : ℕ). is_turning np ≡ true → u.table.entry (own i) ≡ None
          → (u.table.flag (own i) ≡ true) × IsUp np (u.table.task i)) (sym q) it.off)
          (λ ne h gone. other_off v ne h gone (s.table.entry (own v)) refl);
      found = λ v. put_at (λ q. FoundSet q (u.table.view v) v) s.progress me np v
          (λ q. subst (λ (i : ℕ). FoundSet np (u.table.view i) i) (sym q) it.set_page)
          (λ ne. subst (λ (w : View). FoundSet (s.progress v) w v)
          (sym (steps_other s.table me v (event_steps s me g e) ne)) (pt.found v));
      paged = λ v. put_at IsPaged s.progress me np v (λ _. it.paged) (λ _. pt.paged v);
      awake = λ v. put_at (λ q. is_paging q ≡ true → is_turning q ≡ false → (u.table.task v).runnable ≡ true)
          s.progress me np v
          (λ q. subst (λ (i : ℕ). is_paging np ≡ true → is_turning np ≡ false → (u.table.task i).runnable ≡ true)
          (sym q) it.awake)
          (λ ne h k. roused_up (s.table.task v) (u.table.task v) (roused v ne) (pt.awake v h k));
    }

  runs : (s.table.task me).runnable ≡ true
  runs = m.runs

  -- by the place of the task
  module _ (call : Call) (p : Point) (is : s.progress me ≡ now.Open call p) (c : e ≡ (planned s me call p).event) where
    abbrev T : Table
    T = A s me (given_at call p) (planned s me call p).event

    to_whole : OwnPart T (progress_at call (planned s me call p).next) → ArePagesTold u
    to_whole it = whole (subst (λ (t : Table). OwnPart t np)
        (sym (ap (λ (q : Progress). A s me (given_by q) e) is ∙ ap (A s me (given_at call p)) c))
        (subst (OwnPart T) (sym (ap (progress_after s me) is)) it))

    -- a place away from pages
    module _ (away : is_paging (now.Open call p) ≡ false)
        (told : (v : ℕ) → told_by (progress_at call (planned s me call p).next) ≡ Some v → T.flag (own v) ≡ true)
        (up : (v : ℕ) → roused_by (progress_at call (planned s me call p).next) ≡ Some v
        → IsUp (put s.progress me (progress_at call (planned s me call p).next) v) (T.task v))
        (off_by : (v : ℕ) → (planned s me call p).event ≡ event.Unqueue v → handed_by (now.Open call p) ≡ Some v
        → roused_by (now.Open call p) ≡ Some v) where
      abbrev Q : Progress
      Q = progress_at call (planned s me call p).next

      unpaging : is_paging Q ≡ false
      unpaging = stays_away call p is away (planned s me call p).next (goes call p is away)

      nothing_found : (q : Progress) → is_paging q ≡ false → (v : View) → FoundSet q v me
      nothing_found now.Idle a v = tt
      nothing_found now.Fresh a v = tt
      nothing_found (now.Open d k) a v = λ z. absurd (both_ways (is_turning (now.Open d k))
          (turning_paging (now.Open d k) a) z)

      away_whole : ArePagesTold u
      away_whole = to_whole (record {
        told = told;
        up = up;
        off = λ h _. absurd (both_ways (is_turning Q) (turning_paging Q unpaging) h);
        set_page = nothing_found Q unpaging (T.view me);
        paged = moved_paged call p (planned s me call p).next away (subst IsPaged is (pt.paged me));
        awake = λ h _. absurd (both_ways (is_paging Q) unpaging h);
        up_own = λ f h a. absurd (both_ways (is_paging (s.progress me)) (ap is_paging is ∙ away) a);
        off_by = λ v w h. ap roused_by is ∙ off_by v (sym c ∙ w) (sym (ap handed_by is) ∙ h);
      })

  page_whole : (call : Call) (p : PagePoint) → s.progress me ≡ now.Open call (at.Page p)
      → e ≡ (planned s me call (at.Page p)).event → ArePagesTold u
  page_whole call p is c = to_whole call (at.Page p) is c (record {
    told = λ v t. absurd (lands_untold call (X s me call runs p).next v lands t);
    up = λ v t. absurd (lands_untold call (X s me call runs p).next v lands (roused_told (N s me call runs p) v t));
    off = λ t gone. turn_off s me call runs p (leads_to_turn s me call runs p t)
        (subst (λ (q : Progress). HomeAt q (s.table.entry (own me))) is (sound.placed me).home)
        (λ h none. subst (λ (q : Progress). (s.table.flag (own me) ≡ true) × IsUp q (s.table.task me)) is
        (pt.off me (ap is_turning is ∙ h) none)) gone;
    set_page = goes_on (X s me call runs p).next refl;
    paged = lands_paged call (X s me call runs p).next lands;
    awake = λ _ t. own_up s me (given_at call (at.Page p)) (X s me call runs p).event (awake_event s me call runs p t)
        runs;
    up_own = λ f h _. up_next s me call runs p f (subst (λ (q : Progress). IsUp q (s.table.task me)) is h);
    off_by = λ v w h. absurd (none-some v (sym (ap handed_by is) ∙ h));
  })
    where
      lands : Lands (X s me call runs p).next
      lands = page_lands me call p (seen_by s me call (at.Page p)) refl

      fits : call_watch call ≡ page (word_of (call_watch call))
      fits = (subst (IsSoundCall n) is (sound.calls me)).fitted

      before : FoundSet (now.Open call (at.Page p)) (s.table.view me) me
      before = subst (λ (q : Progress). FoundSet q (s.table.view me) me) is (pt.found me)

      view_is : (B s me call runs p).view me ≡ V s me call runs p
      view_is = steps_own s.table me (event_steps s me (given_at call (at.Page p)) (X s me call runs p).event)

      goes_on : (x : Next) → (X s me call runs p).next ≡ x
          → FoundSet (progress_at call x) ((B s me call runs p).view me) me
      goes_on (next.Ends a) k = tt
      goes_on (next.Go q) k = λ t.
          subst (λ (v : View). v.checks.tas_failed (own me) (call_watch call) ≡ true) (sym view_is)
          (page_found s me call runs p fits before (ap (λ (x : Next). is_turning (progress_at call x)) k ∙ t)
          (leads_to_turn s me call runs p (ap (λ (x : Next). is_turning (progress_at call x)) k ∙ t)))

  -- the function of a page's entry
  walk_whole : (call : Call) (st : PageStage) (w : Walking) (d : CalledEntry)
      → s.progress me ≡ now.Open call (at.Walk (walking.Page st w d))
      → e ≡ (planned s me call (at.Walk (walking.Page st w d))).event → ArePagesTold u
  walk_whole call staging.Try w d is c = away_whole call (at.Walk (walking.Page staging.Try w d)) is c refl
      (λ v t. absurd (none (misses (call_watch call) (value_of s.table.words (call_watch call))) v t))
      (λ v t. absurd (none (misses (call_watch call) (value_of s.table.words (call_watch call))) v (roused_told
      (progress_at call (planned s me call (at.Walk (walking.Page staging.Try w d))).next) v t)))
      (λ v q h. absurd (unqueues_not _ v refl q))
    where
      none : (b : Bool) (v : ℕ) → told_by (now.Open call (at.Walk (if b then walking.Stopped w
          else walking.Page staging.Hand w d))) ≡ Some v → ⊥
      none true v t = cc
      none false v t = cc
  walk_whole call staging.Hand w d is c = away_whole call (at.Walk (walking.Page staging.Hand w d)) is c refl
      (λ v t. put_at (λ b. b ≡ true) s.table.flag (own d.who) true (own v) (λ _. refl)
      (λ ne. absurd (ne (let z : Some d.who ≡ Some v = t in let y : d.who ≡ v = cc in sym (ap own y)))))
      (λ v t. absurd (none-some v t))
      (λ v q h. absurd (unqueues_not _ v refl q))
  walk_whole call staging.Wake w d is c = away_whole call (at.Walk (walking.Page staging.Wake w d)) is c refl
      (λ v t. pt.told me v (ap told_by is ∙ t))
      (λ v t. let z : Some d.who ≡ Some v = t in let y : d.who ≡ v = cc in
      subst (λ (i : ℕ). IsUp (put s.progress me (now.Open call (at.Walk (walking.Page staging.Off w d))) i)
      (put s.table.task d.who (woken (mask_of mode.Normal) (s.table.task d.who)) i)) y woken_up)
      (λ v q h. absurd (unqueues_not _ v refl q))
    where
      rec : TaskRecord
      rec = woken (mask_of mode.Normal) (s.table.task d.who)

      low : rec.state ≡ 0
      low = low_woken (s.table.task d.who) (sound.lawful d.who)

      woken_up : IsUp (put s.progress me (now.Open call (at.Walk (walking.Page staging.Off w d))) d.who)
          (put s.table.task d.who rec d.who)
      woken_up = subst (IsUp (put s.progress me (now.Open call (at.Walk (walking.Page staging.Off w d))) d.who))
          (sym (put_same s.table.task d.who rec)) (woken_runs (s.table.task d.who) (sound.lawful d.who), λ _. low)
  walk_whole call staging.Off w d is c = away_whole call (at.Walk (walking.Page staging.Off w d)) is c refl
      (λ v t. absurd (none (past w d true).spent v t))
      (λ v t. absurd (none (past w d true).spent v (roused_told
      (progress_at call (planned s me call (at.Walk (walking.Page staging.Off w d))).next) v t)))
      (λ v q h. h)
    where
      none : (b : Bool) (v : ℕ) → told_by (now.Open call (if b then at.Walk (walking.Spent (past w d true))
          else at.Walk (walking.Call (past w d true)))) ≡ Some v → ⊥
      none true v t = cc
      none false v t = cc

  elsewhere_whole : (call : Call) (p : Point) → IsElsewhere p → s.progress me ≡ now.Open call p
      → e ≡ (planned s me call p).event → ArePagesTold u
  elsewhere_whole call p o is c = away_whole call p is c (elsewhere_paging call p o)
      (λ v t. absurd (apart_told call (planned s me call p).next v a.next t))
      (λ v t. absurd (apart_told call (planned s me call p).next v a.next
      (roused_told (progress_at call (planned s me call p).next) v t)))
      (λ v q h. absurd (hands_not call p v o h))
    where
      a : IsApart (planned s me call p)
      a = program_apart call me (seen_by s me call p) p o

  pub next_told : Continues s me (s.progress me) e found → ArePagesTold u
  next_told c = by (s.progress me) refl c
    where
      by : (q : Progress) → s.progress me ≡ q → Continues s me q e found → ArePagesTold u
      by now.Fresh is k = absurd k
      by now.Idle is k = absurd k
      by (now.Open call (at.Page p)) is k = page_whole call p is k.0
      by (now.Open call (at.Walk (walking.Page st w d))) is k = walk_whole call st w d is k.0
      by (now.Open call p) is k = elsewhere_whole call p tt is k.0

-- a call that is opened, and a whole run
opened_at_page : (call : Call) → IsPaged (now.Open call (program_start call))
opened_at_page (calls.LockPage w st) = tt
opened_at_page call = tt

opened_untold : (call : Call) (v : ℕ) → told_by (now.Open call (program_start call)) ≡ Some v → ⊥
opened_untold calls.Remove v t = cc
opened_untold call v t = cc

opened_unturned : (call : Call) → is_turning (now.Open call (program_start call)) ≡ false
opened_unturned calls.Remove = refl
opened_unturned call = refl

opened_unasked : (call : Call) → has_asked (now.Open call (program_start call)) ≡ false
opened_unasked calls.Remove = refl
opened_unasked call = refl

-- no page is handed to a task without an open call
pub opened_told : (s : State) (n me : ℕ) (call : Call) → IsSound s n → IsAlert s → ArePagesTold s
    → IsItem s (ran.Opened me call) → ArePagesTold (happens s (ran.Opened me call))
opened_told s n me call sound al pt item = record {
  told = λ a v. put_at (λ q. told_by q ≡ Some v → s.table.flag (own v) ≡ true) s.progress me op a
      (λ _ t. absurd (opened_untold call v t)) (λ _. pt.told a v);
  up = λ a v. put_at (λ q. roused_by q ≡ Some v → IsUp (put s.progress me op v) (s.table.task v)) s.progress me op a
      (λ _ t. absurd (opened_untold call v (roused_told op v t)))
      (λ _ t. put_at (λ q. IsUp q (s.table.task v)) s.progress me op v
      (λ q. (
        subst (λ (i : ℕ). (s.table.task i).runnable ≡ true) (sym q) closed_runs,
        λ z. absurd (both_ways (has_asked op) (opened_unasked call) z),
      ))
      (λ _. pt.up a v t));
  off = λ v. put_at (λ q. is_turning q ≡ true → s.table.entry (own v) ≡ None
      → (s.table.flag (own v) ≡ true) × IsUp q (s.table.task v)) s.progress me op v
      (λ _ t _. absurd (both_ways (is_turning op) (opened_unturned call) t)) (λ _. pt.off v);
  found = λ v. put_at (λ q. FoundSet q (s.table.view v) v) s.progress me op v
      (λ _. λ t. absurd (both_ways (is_turning op) (opened_unturned call) t)) (λ _. pt.found v);
  paged = λ v. put_at IsPaged s.progress me op v (λ _. opened_at_page call) (λ _. pt.paged v);
  awake = λ v. put_at (λ q. is_paging q ≡ true → is_turning q ≡ false → (s.table.task v).runnable ≡ true)
      s.progress me op v (λ q _ _. subst (λ (i : ℕ). (s.table.task i).runnable ≡ true) (sym q) closed_runs)
      (λ _. pt.awake v);
}
  where
    op : Progress
    op = now.Open call (program_start call)

    closed_runs : (s.table.task me).runnable ≡ true
    closed_runs = closed_up (s.progress me) (s.table.task me) (s.table.entry (own me)) (s.table.history me) (own me)
        item.1 (al.staged me)

told_after : (s : State) (items : List Ran) (n : ℕ) → IsRunFrom s items → IsSound s n → IsAlert s → ArePagesTold s
    → n + made_in items ≤ EVENTS → ArePagesTold (state_after s items)
told_after s [] n r sound al pt few = pt
told_after s (ran.Opened me call ∷ items) n r sound al pt few =
    told_after (happens s (ran.Opened me call)) items n r.1 (opened_sound s n me call sound r.0)
    (opened_alert s me call al r.0) (opened_told s n me call sound al pt r.0) few
told_after s (ran.Made me e found ∷ items) n r sound al pt few =
    let two : IsSound (happens s (ran.Made me e found)) (n + 1) =
    made_sound s n me e found sound (omega arith) r.0 in
    told_after (happens s (ran.Made me e found)) items (n + 1) r.1 two (made_alert s n me e found sound al r.0)
    (next_told s n me e found sound two al pt
    (made_of s n me e found sound r.0.0 (s.progress me) refl r.0.1)
    (turn_of s n me e found sound al (s.progress me) refl (sound.placed me) r.0.1) r.0.1)
    (omega arith)

pub start_told : ArePagesTold start_state
start_told = record {
  told = λ a v t. absurd (cc);
  up = λ a v t. absurd (cc);
  off = λ v t. absurd (cc);
  found = λ v. tt;
  paged = λ v. tt;
  awake = λ v t. absurd (cc);
}

pub told_of : (run : List Ran) → IsRun run → made_in run ≤ EVENTS → ArePagesTold (state_of run)
told_of run r few = told_after start_state run 0 r start_sound start_alert start_told (omega (arith, few))
