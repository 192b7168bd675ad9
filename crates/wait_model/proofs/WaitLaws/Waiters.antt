-- What every run keeps of its waits: only after its sleep is a wait's task down, and then its entry is queued.
use Rattle.std.proofs.lemmas.Option.{none-some}
use Rattle.std.proofs.lemmas.Bool.{both_ways}
use Rattle.wait_model.specs.{declared.layout.TheConstants.EVENTS, Admission.IsGoing, declared.watches.Entry.Entry}
use Rattle.wait_model.specs.{declared.tasks.TaskRecord.TaskRecord, declared.steps.Step.Step, declared.calls.Call.Call}
use Rattle.wait_model.specs.{declared.calls.Event.Event, declared.calls.Ran.Ran, declared.points.Point.Point}
use Rattle.wait_model.specs.{declared.points.PreparePoint.PreparePoint, declared.points.AwaitPoint.AwaitPoint}
use Rattle.wait_model.specs.{declared.points.BitPoint.BitPoint, declared.points.WokenPoint.WokenPoint}
use Rattle.wait_model.specs.{declared.points.Given.Given, declared.points.Progress.Progress, Functions.put}
use Rattle.wait_model.specs.{Words.head_word, Points.call_watch, Programs.program_start}
use Rattle.wait_model.specs.{declared.points.PagePoint.PagePoint, declared.watches.Watch.Watch}
use Rattle.wait_model.specs.Tables.{value_of, Table, next, steps}
use Rattle.wait_model.specs.Watches.{bare, kind_for, is_page, head_of}
use Rattle.wait_model.specs.Tasks.{IsLawful, meets, pending, woken, slept}
use Rattle.wait_model.specs.Runs.{State, given_by, own, event_steps, planned, progress_after, after_event, happens}
use Rattle.wait_model.specs.Runs.{start_state, state_after, state_of, is_open, Continues, IsItem, IsRunFrom, IsRun}
use Rattle.wait_model.specs.Runs.{made_in}
use Rattle.wait_model.specs.Reached.{held_at, taken_by, HomeAt, IsTaken, IsPlaced, IsSound, handed_by, Zone, absent}
use Rattle.wait_model.specs.Reached.{waits, free, stands, parts, pages, seated, zone, IsHome}
use Rattle.wait_model.proofs.{WordLaws.CondWords.head_of_bare, WordLaws.CondWords.set_rest}
use Rattle.wait_model.proofs.{HistoryLaws.HoldLooks.looks_same, HistoryLaws.UnlockedLooks.peeks_same}
use Rattle.wait_model.proofs.{RunLaws.OthersEvents.own_one, RunLaws.OthersEvents.Changes, RunLaws.FineEvents.one_there}
use Rattle.wait_model.proofs.WaitLaws.NextStages.{good}
use Rattle.wait_model.proofs.Functions.{put_at, put_case, put_same, put_other}
use Rattle.wait_model.proofs.RunLaws.EveryRun.{IsMade, made_of, opened_sound, made_sound, start_sound}
use Rattle.wait_model.proofs.WaitLaws.WaitStages.{Stage, outside, inside, testing, tested, dozing, napping, stage}
use Rattle.wait_model.proofs.WaitLaws.WaitStages.{IsTested, IsAt, IsStaged, IsListening, FitsStage, IsUpInStage}
use Rattle.wait_model.proofs.WaitLaws.WaitStages.{IsRoused, IsLeftStage, roused_up, staged_still, others_roused}
use Rattle.wait_model.proofs.WaitLaws.LeavingStages.{stage_in, Takes, Stores, IsGood}
use Rattle.wait_model.proofs.RunLaws.PagesHanded.{IsHanding, handing_of, kind_plain, standing_plain}
use Rattle.std.proofs.lemmas.Bool.Decides.{eqb_tells}
use Rattle.std.proofs.Common.{refl, sym, ◌∙◌, ap, subst, arith, inl, inr}
use Rattle.std.specs.Prelude.{ℕ, ◌≡◌, ◌≢◌, ◌+◌, ◌≤◌, ◌⊎◌, Bool, true, false, ◌==◌, if◌then◌else◌, is_some, Option, Some}
use Rattle.std.specs.Prelude.{None, List, [], ◌∷◌, ◌++◌}
use Rattle.wait_model.specs.declared.steps.Step.TheVariants as step
use Rattle.wait_model.specs.declared.calls.Call.TheVariants as calls
use Rattle.wait_model.specs.declared.calls.Event.TheVariants as event
use Rattle.wait_model.specs.declared.calls.Ran.TheVariants as ran
use Rattle.wait_model.specs.declared.points.Point.TheVariants as at
use Rattle.wait_model.specs.declared.points.PreparePoint.TheVariants as preparing
use Rattle.wait_model.specs.declared.points.AwaitPoint.TheVariants as awaiting
use Rattle.wait_model.specs.declared.points.BitPoint.TheVariants as biting
use Rattle.wait_model.specs.declared.points.WokenPoint.TheVariants as hearing
use Rattle.wait_model.specs.declared.points.Progress.TheVariants as now
use Rattle.wait_model.specs.declared.points.PagePoint.TheVariants as paging
use Rattle.wait_model.specs.declared.points.LeavePoint.TheVariants as leaving
use Rattle.wait_model.specs.declared.points.FinishPoint.TheVariants as finishing
use Rattle.wait_model.specs.declared.points.AddPoint.TheVariants as adding
use Rattle.wait_model.specs.declared.points.RemovePoint.TheVariants as removing

-- what holds of the waits in every state of a run
pub record IsAlert (s : State) : Type 0 where
  pub staged : (t : ℕ) → IsStaged (s.progress t) (s.table.task t) (s.table.entry (own t)) (s.table.history t)
      (own t)
  pub fits : (t : ℕ) → FitsStage (s.progress t)
  pub taken : (t who : ℕ) → taken_by (s.progress t) ≡ Some who → (s.table.task who).state ≡ 0

-- what an event of a task says of it
abbrev pub TakesAt : State → ℕ → Progress → Event → Type 0
TakesAt s me q (event.Unqueue who) = (who ≡ me) ⊎ ((taken_by q ≡ Some who) ⊎ (handed_by q ≡ Some who))
TakesAt s me q _ = Unit {0}

abbrev pub StoresAt : State → ℕ → Event → Type 0
StoresAt s me (event.State v) = (v ≡ 0) ⊎ ((e : Entry) → s.table.entry (own me) ≡ Some e
    → IsGoing e.kind → is_page e.kind ≡ false → (s.table.view me).hold.head ≡ Some (head_of e.watch))
StoresAt s me _ = Unit {0}

pub record IsTurn (s : State) (me : ℕ) (q : Progress) (e : Event) : Type 0 where
  pub staged : IsStaged (progress_after s me q) ((after_event s me (given_by q) e).table.task me)
      ((after_event s me (given_by q) e).table.entry (own me))
      ((after_event s me (given_by q) e).table.history me) (own me)
  pub fits : FitsStage (progress_after s me q)
  pub taken : (who : ℕ) → taken_by (progress_after s me q) ≡ Some who
      → ((after_event s me (given_by q) e).table.task who).state ≡ 0
  pub takes : TakesAt s me q e
  pub stores : StoresAt s me e

takes_at : (s : State) (me : ℕ) (call : Call) (p : Point) (e : Event) → Takes s me call p e
    → TakesAt s me (now.Open call p) e
takes_at s me call p (event.Unqueue who) t = t
takes_at s me call p e t = tt

stores_at : (s : State) (me : ℕ) (call : Call) (p : Point) (e : Event) → Stores s me call p e
    → StoresAt s me e
stores_at s me call p (event.State v) t = t
stores_at s me call p e t = tt

pub turn_of : (s : State) (n me : ℕ) (e : Event) (found : ℕ) → IsSound s n → IsAlert s → (q : Progress)
    → s.progress me ≡ q → IsPlaced s.table.entry (s.table.view me) me q → Continues s me q e found
    → IsTurn s me q e
turn_of s n me e found sound al now.Fresh is pl c = absurd c
turn_of s n me e found sound al now.Idle is pl c = absurd c
turn_of s n me e found sound al (now.Open call p) is pl c =
    by (good s me call p (record {
      up = c.2;
      lawful = sound.lawful;
      home = pl.home;
      held = pl.head;
      fits = subst FitsStage is (al.fits me);
      old = subst (λ (q : Progress). IsStaged q (s.table.task me) (s.table.entry (own me))
          (s.table.history me)
          (own me)) is (al.staged me);
    }))
  where
    by : IsGood s me call p (planned s me call p) → IsTurn s me (now.Open call p) e
    by g = subst (IsTurn s me (now.Open call p)) (sym c.0) (record {
      staged = g.staged;
      fits = g.fits;
      taken = g.taken;
      takes = takes_at s me call p (planned s me call p).event g.takes;
      stores = stores_at s me call p (planned s me call p).event g.stores;
    })

woken_not : (p : WokenPoint) → stage (at.Woken p) ≡ inside → ⊥
woken_not hearing.State g = cc
woken_not p g = cc

-- neither the hold in which a wait stores its state nor a sleep on a flag
abbrev IsApart : Stage → Type 0
IsApart inside = ⊥
IsApart napping = ⊥
IsApart _ = Unit {0}

bit_apart : (p : BitPoint) → IsApart (stage (at.Bit p))
bit_apart biting.Try = tt
bit_apart p = tt

await_apart : (p : AwaitPoint) → IsApart (stage (at.Await p))
await_apart (awaiting.Lock true) = tt
await_apart p = tt

page_not : (p : PagePoint) → stage (at.Page p) ≡ inside → ⊥
page_not paging.First g = cc
page_not p g = cc

-- a task in the hold in which it stores its state holds its entry's head
inside_held : (q : Progress) (it : Entry) → stage_in q ≡ inside → HomeAt q (Some it)
    → held_at q ≡ Some (head_of it.watch)
inside_held (now.Open call (at.Prepare preparing.State)) it g h = ap (λ n. Some n)
    (sym (head_of_bare (call_watch call)) ∙ ap head_of (sym h.0))
inside_held (now.Open call (at.Prepare preparing.Unlock)) it g h = ap (λ n. Some n)
    (sym (head_of_bare (call_watch call)) ∙ ap head_of (sym h.0))
inside_held (now.Open call (at.Woken p)) it g h = absurd (woken_not p g)
inside_held (now.Open call (at.Bit p)) it g h = absurd (subst IsApart g (bit_apart p))
inside_held (now.Open call (at.Await p)) it g h = absurd (subst IsApart g (await_apart p))
inside_held (now.Open call (at.Page p)) it g h = absurd (page_not p g)
inside_held q it g h = absurd (cc)

-- whose entry for a page is queued waits for its flag
pub page_zone : (z : Zone) (c : Watch) (e : Entry) → is_page e.kind ≡ true → IsHome z c (Some e)
    → (z ≡ pages) ⊎ (z ≡ seated)
page_zone absent c e p h = absurd h
page_zone waits c e p h = absurd (let z : is_page e.kind ≡ false = ap is_page h.1 ∙ kind_plain c in cc)
page_zone free c e p h = absurd (let z : is_page e.kind ≡ false = standing_plain e.kind h in cc)
page_zone stands c e p h = absurd (let z : is_page e.kind ≡ false = standing_plain e.kind h in cc)
page_zone (parts k) c e p h = absurd (let z : is_page e.kind ≡ false = standing_plain e.kind h.0 in cc)
page_zone pages c e p h = inl refl
page_zone seated c e p h = inr refl

zone_naps : (p : Point) → (zone p ≡ pages) ⊎ (zone p ≡ seated) → stage p ≡ napping
zone_naps (at.Page paging.First) h = absurd (elim h [ inl q ↦ cc | inr q ↦ cc ])
zone_naps (at.Page p) h = refl
zone_naps (at.Leave leaving.Queue) h = absurd (elim h [ inl q ↦ cc | inr q ↦ cc ])
zone_naps (at.Finish finishing.Unlock failed) h = absurd (elim h [ inl q ↦ cc | inr q ↦ cc ])
zone_naps (at.Bit biting.Try) h = absurd (elim h [ inl q ↦ cc | inr q ↦ cc ])
zone_naps (at.Bit biting.First) h = absurd (elim h [ inl q ↦ cc | inr q ↦ cc ])
zone_naps (at.Bit biting.Last) h = absurd (elim h [ inl q ↦ cc | inr q ↦ cc ])
zone_naps (at.Add adding.Unlock) h = absurd (elim h [ inl q ↦ cc | inr q ↦ cc ])
zone_naps (at.Remove removing.Lock) h = absurd (elim h [ inl q ↦ cc | inr q ↦ cc ])
zone_naps (at.Await (awaiting.Lock true)) h = absurd (elim h [ inl q ↦ cc | inr q ↦ cc ])
zone_naps (at.Await (awaiting.Load true)) h = absurd (elim h [ inl q ↦ cc | inr q ↦ cc ])
zone_naps (at.Await (awaiting.Off stopped)) h = absurd (elim h [ inl q ↦ cc | inr q ↦ cc ])
zone_naps p h = absurd (elim h [ inl q ↦ cc | inr q ↦ cc ])

page_naps : (q : Progress) (e : Entry) → is_page e.kind ≡ true → HomeAt q (Some e) → stage_in q ≡ napping
page_naps (now.Open call p) e pg h = zone_naps p (page_zone (zone p) (call_watch call) e pg h)
page_naps now.Idle e pg h = absurd (let z : is_page e.kind ≡ false = standing_plain e.kind h in cc)
page_naps now.Fresh e pg h = absurd (let z : is_page e.kind ≡ false = standing_plain e.kind h in cc)

-- what an event of one task does to another's entry
module _ (s : State) (me : ℕ) (q : Progress) (t : ℕ) (ne : t ≢ me) (lawful : IsLawful (s.table.task t))
  where
    others_left : (g : Given) (e : Event) → (taken_by q ≡ Some t → (s.table.task t).state ≡ 0)
        → (handed_by q ≡ Some t → stage_in (s.progress t) ≡ napping)
        → TakesAt s me q e
        → Changes s me e → ((it : Entry) → s.table.entry (own t) ≡ Some it
        → (s.table.view me).hold.head ≡ Some (head_of it.watch) → stage_in (s.progress t) ≡ inside → ⊥)
        → IsLeftStage (stage_in (s.progress t)) ((after_event s me g e).table.task t) (s.table.entry (own t))
        ((after_event s me g e).table.entry (own t))
    others_left g (event.Unqueue who) low naps takes c apart =
        by (put_case s.table.entry (own who) None (own t)) takes
      where
        gone : own t ≡ own who → (who ≡ me) ⊎ ((taken_by q ≡ Some who) ⊎ (handed_by q ≡ Some who))
            → (IsUpInStage (s.table.task t) × (stage_in (s.progress t) ≡ inside → ⊥))
            ⊎ (stage_in (s.progress t) ≡ napping)
        gone h (inl m) = absurd (ne (own_one t who h ∙ m))
        gone h (inr (inr k)) = inr (naps (k ∙ ap (λ n. Some n) (sym (own_one t who h))))
        gone h (inr (inl k)) = inl (
            let z : (s.table.task t).state ≡ 0 = low (k ∙ ap (λ n. Some n) (sym (own_one t who h))) in
            ((z, lawful.runnable z), apart c.it (ap s.table.entry h ∙ c.stands) c.head))

        by : ((own t ≡ own who) × (put s.table.entry (own who) None (own t) ≡ None))
            ⊎ ((own t ≢ own who) × (put s.table.entry (own who) None (own t) ≡ s.table.entry (own t)))
            → (who ≡ me) ⊎ ((taken_by q ≡ Some who) ⊎ (handed_by q ≡ Some who))
            → IsLeftStage (stage_in (s.progress t)) (s.table.task t) (s.table.entry (own t))
            (put s.table.entry (own who) None (own t))
        by (inl h) k = inr (gone h.0 k)
        by (inr h) k = inl h.1
    others_left g (event.Queue h form) low naps takes c apart = inl (put_other s.table.entry (own me) _ (own t)
        (λ z. ne (own_one t me z)))
    others_left g (event.Lock h) low naps takes c apart = inl (ap (λ (f : ℕ → Option Entry). f (own t))
        (looks_same (next s.table me (step.Lock h g.walk (head_word (s.table.holder h) (s.table.spent h))))
        s.table.entry me).entry)
    others_left g (event.Active h hit) low naps takes c apart = inl (ap (λ (f : ℕ → Option Entry). f (own t))
        (peeks_same s.table s.table.entry me).entry)
    others_left g (event.Set c v) low naps takes h apart = inl (ap (λ (f : ℕ → Option Entry). f (own t))
        (set_rest s.table me g.watch v (value_of s.table.words g.watch)).entry)
    others_left g e low naps takes c apart = inl refl

still_staged : (q : Progress) (t u : TaskRecord) (o p : Option Entry) (es : List Step) (x : ℕ) → IsRoused t u
    → IsLeftStage (stage_in q) u o p → IsStaged q t o es x → IsStaged q u p es x
still_staged (now.Open call at) t u o p es x r l a = staged_still (stage at) t u o p es x call r l a
still_staged now.Idle t u o p es x r l a = roused_up t u r a
still_staged now.Fresh t u o p es x r l a = roused_up t u r a

history_other : (t : Table) (a b : ℕ) (es : List Step) → b ≢ a → (steps t a es).history b ≡ t.history b
history_other t a b [] ne = refl
history_other t a b (e ∷ es) ne = history_other (next t a e) a b es ne
    ∙ put_other t.history a (t.history a ++ e ∷ []) b ne

-- a task that is RUNNING stays so, but for its own store of another state
roused_zero : (t u : TaskRecord) → IsRoused t u → t.state ≡ 0 → u.state ≡ 0
roused_zero t u (inl r) z = r.0 ∙ z
roused_zero t u (inr r) z = r.0

slept_zero : (t : TaskRecord) → t.state ≡ 0 → (slept t).state ≡ 0
slept_zero t z = by (t.state == 0) (pending t.state t)
  where
    by : (a b : Bool) → (if a then t else if b then record t { state = 0 }
        else record t { runnable = false }).state ≡ 0
    by true b = z
    by false true = refl
    by false false = z

woken_zero : (mask : ℕ) (t : TaskRecord) → t.state ≡ 0 → (woken mask t).state ≡ 0
woken_zero mask t z = by (meets mask t.state)
  where
    by : (b : Bool) → (if b then record t { state = 0; runnable = true } else t).state ≡ 0
    by true = refl
    by false = z

own_zero : (s : State) (me : ℕ) (g : Given) (e : Event) → (s.table.task me).state ≡ 0
    → ((v : ℕ) → e ≡ event.State v → v ≡ 0) → ((after_event s me g e).table.task me).state ≡ 0
own_zero s me g (event.State v) z h = ap (λ (k : TaskRecord). k.state) (put_same s.table.task me _) ∙ h v refl
own_zero s me g (event.Sleep x) z h = ap (λ (k : TaskRecord). k.state) (put_same s.table.task me _)
    ∙ slept_zero (s.table.task me) z
own_zero s me g (event.Accept x) z h = ap (λ (k : TaskRecord). k.state) (put_same s.table.task me _) ∙ z
own_zero s me g (event.Wake who hit) z h = put_at (λ (k : TaskRecord). k.state ≡ 0) s.table.task who _ me
    (λ q. woken_zero g.mask (s.table.task who) (ap (λ (i : ℕ). (s.table.task i).state) (sym q) ∙ z))
    (λ _. z)
own_zero s me g (event.Signal who fatal) z h = put_at (λ (k : TaskRecord). k.state ≡ 0) s.table.task who _ me
    (λ q. ap (λ (i : ℕ). (s.table.task i).state) (sym q) ∙ z) (λ _. z)
own_zero s me g (event.Lock k) z h = ap (λ (f : ℕ → TaskRecord). (f me).state)
    (looks_same (next s.table me (step.Lock k g.walk (head_word (s.table.holder k) (s.table.spent k))))
    s.table.entry me).task ∙ z
own_zero s me g (event.Active k hit) z h = ap (λ (f : ℕ → TaskRecord). (f me).state)
    (peeks_same s.table s.table.entry me).task ∙ z
own_zero s me g (event.Set c v) z h = ap (λ (f : ℕ → TaskRecord). (f me).state)
    (set_rest s.table me g.watch v (value_of s.table.words g.watch)).task ∙ z
own_zero s me g e z h = z

-- who is to be taken off stays RUNNING: it stores no other state while its entry's head is held by another
module _ (s : State) (n : ℕ) (sound : IsSound s n) (al : IsAlert s) (me : ℕ) (e : Event)
    (m : IsMade s n me (s.progress me) e) (turn : IsTurn s me (s.progress me) e) where
  abbrev after : State
  after = after_event s me (given_by (s.progress me)) e

  stored_zero : (t : ℕ) → t ≢ me → taken_by (s.progress t) ≡ Some me → (d : Event) → StoresAt s me d
      → (v : ℕ)
      → d ≡ event.State v → v ≡ 0
  stored_zero t ne k d st v is = by (subst (StoresAt s me) is st)
    where
      it : IsTaken s.table.entry me (held_at (s.progress t))
      it = (sound.placed t).taken me k

      by : StoresAt s me (event.State v) → v ≡ 0
      by (inl z) = z
      by (inr f) = absurd (ne (sound.kept.facts.one_holder t me (head_of it.it.watch)
          ((sound.placed t).head ∙ it.head) (f it.it it.stands it.kind it.unpaged)))

  still_zero : (t who : ℕ) → t ≢ me → taken_by (s.progress t) ≡ Some who → (after.table.task who).state ≡ 0
  still_zero t who ne k = by (eqb_tells who me)
    where
      by : (((who == me) ≡ true) × (who ≡ me)) ⊎ (((who == me) ≡ false) × (who ≢ me))
          → (after.table.task who).state ≡ 0
      by (inl h) =
          let z : (s.table.task me).state ≡ 0 = ap (λ (i : ℕ). (s.table.task i).state) (sym h.1)
          ∙ al.taken t who k
          in
          ap (λ (i : ℕ). (after.table.task i).state) h.1
          ∙ own_zero s me (given_by (s.progress me)) e z
          (stored_zero t ne (k ∙ ap (λ (i : ℕ). Some i) h.1) e turn.stores)
      by (inr h) = roused_zero (s.table.task who) (after.table.task who)
          (others_roused s me (given_by (s.progress me)) e who h.1) (al.taken t who k)

  apart : (t : ℕ) → t ≢ me → (it : Entry) → s.table.entry (own t) ≡ Some it
      → (s.table.view me).hold.head ≡ Some (head_of it.watch) → stage_in (s.progress t) ≡ inside → ⊥
  apart t ne it is held g = ne (sound.kept.facts.one_holder t me (head_of it.watch)
      ((sound.placed t).head ∙ inside_held (s.progress t) it g
      (subst (λ (o : Option Entry). HomeAt (s.progress t) o) is (sound.placed t).home)) held)

  -- whom a walk hands a page waits for its flag
  naps_when : (t : ℕ) → handed_by (s.progress me) ≡ Some t → stage_in (s.progress t) ≡ napping
  naps_when t h =
      let f : IsHanding s.table.entry t (s.table.view me).hold.head =
      handing_of s.table.entry (s.table.view me) n me t (s.progress me) (sound.placed me) (sound.calls me) h in
      page_naps (s.progress t) f.it f.kind (subst (HomeAt (s.progress t)) f.stands (sound.placed t).home)

  others_staged : (t : ℕ) → t ≢ me
      → IsStaged (s.progress t) (after.table.task t) (after.table.entry (own t))
      (after.table.history t) (own t)
  others_staged t ne = subst (λ (h : List Step). IsStaged (s.progress t) (after.table.task t)
      (after.table.entry (own t)) h (own t))
      (sym (history_other s.table me t (event_steps s me (given_by (s.progress me)) e) ne))
      (still_staged (s.progress t) (s.table.task t) (after.table.task t) (s.table.entry (own t))
      (after.table.entry (own t)) (s.table.history t) (own t)
      (others_roused s me (given_by (s.progress me)) e t ne)
      (others_left s me (s.progress me) t ne (sound.lawful t) (given_by (s.progress me)) e
      (al.taken me t) (naps_when t) turn.takes m.changes (apart t ne))
      (al.staged t))

-- an event, a call that is opened, and a whole run
pub made_alert : (s : State) (n me : ℕ) (e : Event) (found : ℕ) → IsSound s n → IsAlert s
    → IsItem s (ran.Made me e found) → IsAlert (happens s (ran.Made me e found))
made_alert s n me e found sound al item =
    let m : IsMade s n me (s.progress me) e = made_of s n me e found sound item.0
    (s.progress me) refl item.1 in
    let turn : IsTurn s me (s.progress me) e = turn_of s n me e found sound al (s.progress me) refl
    (sound.placed me)
    item.1 in
    record {
      staged = λ t. put_at (λ q. IsStaged q ((after_event s me (given_by (s.progress me)) e).table.task t)
          ((after_event s me (given_by (s.progress me)) e).table.entry (own t))
          ((after_event s me (given_by (s.progress me)) e).table.history t) (own t)) s.progress me _ t
          (λ q. subst (λ (i : ℕ). IsStaged (progress_after s me (s.progress me))
          ((after_event s me (given_by (s.progress me)) e).table.task i)
          ((after_event s me (given_by (s.progress me)) e).table.entry (own i))
          ((after_event s me (given_by (s.progress me)) e).table.history i) (own i))
          (sym q) turn.staged)
          (λ ne. others_staged s n sound al me e m turn t ne);
      fits = λ t. put_at FitsStage s.progress me _ t (λ _. turn.fits) (λ _. al.fits t);
      taken = λ t who. put_at (λ q. taken_by q ≡ Some who
          → ((after_event s me (given_by (s.progress me)) e).table.task who).state ≡ 0) s.progress me _ t
          (λ _. turn.taken who) (λ ne k. still_zero s n sound al me e m turn t who ne k);
    }

start_stage : (call : Call) → stage (program_start call) ≡ outside
start_stage calls.Remove = refl
start_stage call = refl

start_fits : (call : Call) → FitsStage (now.Open call (program_start call))
start_fits (calls.Woken st) = tt
start_fits call = tt

start_takes : (call : Call) → taken_by (now.Open call (program_start call)) ≡ None
start_takes calls.Remove = refl
start_takes call = refl

pub closed_up : (q : Progress) (t : TaskRecord) (o : Option Entry) (es : List Step) (x : ℕ) → is_open q ≡ false
    → IsStaged q t o es x → t.runnable ≡ true
closed_up now.Fresh t o es x c a = a
closed_up now.Idle t o es x c a = a
closed_up (now.Open call p) t o es x c a = absurd (cc)

pub opened_alert : (s : State) (me : ℕ) (call : Call) → IsAlert s → IsItem s (ran.Opened me call)
    → IsAlert (happens s (ran.Opened me call))
opened_alert s me call al item = record {
  staged = λ t. put_at (λ q. IsStaged q (s.table.task t) (s.table.entry (own t)) (s.table.history t)
      (own t))
      s.progress me _ t
      (λ q. subst (λ (i : ℕ). IsStaged (now.Open call (program_start call)) (s.table.task i)
      (s.table.entry (own i)) (s.table.history i) (own i)) (sym q)
      (subst (λ (g : Stage). IsAt g (s.table.task me) (s.table.entry (own me)) (s.table.history me) (own me) call)
      (sym (start_stage call)) (closed_up (s.progress me) (s.table.task me) (s.table.entry (own me))
      (s.table.history me) (own me) item.1 (al.staged me))))
      (λ _. al.staged t);
  fits = λ t. put_at FitsStage s.progress me _ t (λ _. start_fits call) (λ _. al.fits t);
  taken = λ t who. put_at (λ q. taken_by q ≡ Some who → (s.table.task who).state ≡ 0) s.progress me _ t
      (λ _ k. absurd (none-some who (sym (start_takes call) ∙ k))) (λ _. al.taken t who);
}

alert_after : (s : State) (items : List Ran) (n : ℕ) → IsRunFrom s items → IsSound s n → IsAlert s
    → n + made_in items ≤ EVENTS → IsAlert (state_after s items)
    × IsSound (state_after s items) (n + made_in items)
alert_after s [] n r sound al few = (al, subst (IsSound s) (omega arith) sound)
alert_after s (ran.Opened me call ∷ items) n r sound al few =
    alert_after (happens s (ran.Opened me call)) items n r.1 (opened_sound s n me call sound r.0)
    (opened_alert s me call al r.0) few
alert_after s (ran.Made me e found ∷ items) n r sound al few =
    let k = alert_after (happens s (ran.Made me e found)) items (n + 1) r.1
    (made_sound s n me e found sound (omega arith) r.0) (made_alert s n me e found sound al r.0)
    (omega arith) in
    (k.0, subst (IsSound (state_after (happens s (ran.Made me e found)) items)) (omega arith) k.1)

pub start_alert : IsAlert start_state
start_alert = record { staged = λ t. refl; fits = λ t. tt; taken = λ t who k. absurd (cc) }

-- only after its sleep a wait's task may be down
down_stage : (g : Stage) (t : TaskRecord) (o : Option Entry) (es : List Step) (x : ℕ) (call : Call)
    → IsAt g t o es x call
    → (g ≡ napping → ⊥) → t.runnable ≡ false → (g ≡ dozing) × (is_some o ≡ true) × IsTested call es x
down_stage outside t o es x call a n d = absurd (both_ways true (sym a ∙ d) refl)
down_stage inside t o es x call a n d = absurd (both_ways true (sym a.0 ∙ d) refl)
down_stage testing t o es x call a n d = absurd (both_ways true (sym a.0 ∙ d) refl)
down_stage tested t o es x call a n d = absurd (both_ways true (sym a.0 ∙ d) refl)
down_stage dozing t o es x call a n d = let k = a d in (refl, k.0, k.1)
down_stage napping t o es x call a n d = absurd (n refl)

prepare_naps : (p : PreparePoint) → stage (at.Prepare p) ≡ napping → ⊥
prepare_naps preparing.Lock g = cc
prepare_naps p g = cc

-- the task is in a call other than a wait for a flag, and no point of it is one of such a wait
module _ (call : Call) (other : IsListening call → ⊥) where
  not_napping : (p : Point) → FitsStage (now.Open call p) → stage p ≡ napping → ⊥
  not_napping (at.Woken p) f g = other f
  not_napping (at.Page p) f g = other f
  not_napping (at.Prepare p) f g = prepare_naps p g
  not_napping (at.Bit p) f g = subst IsApart g (bit_apart p)
  not_napping (at.Await p) f g = subst IsApart g (await_apart p)
  not_napping p f g = cc

  bit_home : (p : BitPoint) (e : Entry) → stage (at.Bit p) ≡ dozing → HomeAt (now.Open call (at.Bit p)) (Some e)
      → (e.watch ≡ bare (call_watch call)) × (e.kind ≡ kind_for (call_watch call))
  bit_home biting.Look e g h = h
  bit_home (biting.Again hit) e g h = h
  bit_home p e g h = absurd (cc)

  await_home : (p : AwaitPoint) (e : Entry) → stage (at.Await p) ≡ dozing
      → HomeAt (now.Open call (at.Await p)) (Some e)
      → (e.watch ≡ bare (call_watch call)) × (e.kind ≡ kind_for (call_watch call))
  await_home (awaiting.Lock true) e g h = h
  await_home (awaiting.Lock false) e g h = absurd (cc)
  await_home p e g h = absurd (cc)

  dozing_home : (p : Point) (e : Entry) → FitsStage (now.Open call p) → stage p ≡ dozing
      → HomeAt (now.Open call p) (Some e)
      → (e.watch ≡ bare (call_watch call)) × (e.kind ≡ kind_for (call_watch call))
  dozing_home (at.Woken p) e f g h = absurd (other f)
  dozing_home (at.Page p) e f g h = absurd (other f)
  dozing_home (at.Prepare p) e f g h = h
  dozing_home (at.Bit p) e f g h = bit_home p e g h
  dozing_home (at.Await p) e f g h = await_home p e g h
  dozing_home p e f g h = absurd (cc)

-- who is asleep has its entry queued for the call's watch
pub record IsDownInWait (s : State) (t : ℕ) (call : Call) (p : Point) : Type 0 where
  pub dozes : stage p ≡ dozing
  pub entry : Entry
  pub stands : s.table.entry (own t) ≡ Some entry
  pub watch : entry.watch ≡ bare (call_watch call)
  pub kind : entry.kind ≡ kind_for (call_watch call)
  pub state : (s.table.task t).state ≢ 0
  pub tested : IsTested call (s.table.history t) (own t)

asleep_down : (s : State) (n t : ℕ) (call : Call) (p : Point) → IsSound s n → IsAlert s
    → s.progress t ≡ now.Open call p → (IsListening call → ⊥) → (s.table.task t).runnable ≡ false
    → IsDownInWait s t call p
asleep_down s n t call p sound al is other down =
    by (down_stage (stage p) (s.table.task t) (s.table.entry (own t)) (s.table.history t) (own t) call
    (subst (λ (q : Progress). IsStaged q (s.table.task t) (s.table.entry (own t)) (s.table.history t) (own t))
    is (al.staged t)) (not_napping call other p fits) down)
  where
    fits : FitsStage (now.Open call p)
    fits = subst FitsStage is (al.fits t)

    low : (s.table.task t).state ≡ 0 → ⊥
    low z = absurd (both_ways true (sym ((sound.lawful t).runnable z) ∙ down) refl)

    is_down : (e : Entry) → s.table.entry (own t) ≡ Some e → stage p ≡ dozing
        → IsTested call (s.table.history t) (own t) → IsDownInWait s t call p
    is_down e there g l =
        let home = dozing_home call other p e fits g
        (subst (λ (o : Option Entry). HomeAt (now.Open call p) o)
        there (subst (λ (q : Progress). HomeAt q (s.table.entry (own t))) is (sound.placed t).home)) in
        record {
          dozes = g;
          entry = e;
          stands = there;
          watch = home.0;
          kind = home.1;
          state = low;
          tested = l;
        }

    by : (stage p ≡ dozing) × (is_some (s.table.entry (own t)) ≡ true) × IsTested call (s.table.history t) (own t)
        → IsDownInWait s t call p
    by k = let o = one_there (s.table.entry (own t)) k.1 in is_down o.0 o.1 k.0 k.2

pub down_of : (run : List Ran) → IsRun run → made_in run ≤ EVENTS → (t : ℕ) (call : Call) (p : Point)
    → (state_of run).progress t ≡ now.Open call p → (IsListening call → ⊥)
    → ((state_of run).table.task t).runnable ≡ false → IsDownInWait (state_of run) t call p
down_of run r few t call p is other down =
    let k = alert_after start_state run 0 r start_sound start_alert (omega (arith, few)) in
    asleep_down (state_of run) (0 + made_in run) t call p k.1 k.0 is other down

-- each task stands where its call may
pub fits_of : (run : List Ran) → IsRun run → made_in run ≤ EVENTS → (t : ℕ) → FitsStage ((state_of run).progress t)
fits_of run r few t = (alert_after start_state run 0 r start_sound start_alert (omega (arith, few))).0.fits t
