-- While the entry of a task for whom a page was taken is queued, a walk is about to take it off.
use Rattle.std.proofs.lemmas.Bool.{both_ways}
use Rattle.std.proofs.lemmas.Option.{none-some, same_Some}
use Rattle.std.proofs.Common.{refl, sym, ◌∙◌, ap, subst, inl, inr}
use Rattle.std.specs.Prelude.{ℕ, ◌≡◌, ◌≢◌, Option, Some, None, Bool, true, false, ◌⊎◌, if◌then◌else◌, is_some}
use Rattle.std.specs.Prelude.{cond, not, ◌+◌}
use Rattle.wait_model.specs.{declared.calls.Call.Call, declared.calls.Event.Event, declared.points.Progress.Progress}
use Rattle.wait_model.specs.{declared.watches.Entry.Entry, Facts.Facts, declared.queues.Form.Form}
use Rattle.wait_model.specs.{declared.queues.Walking.Walking, declared.queues.CalledEntry.CalledEntry}
use Rattle.wait_model.specs.{declared.points.Point.Point, declared.points.PageStage.PageStage}
use Rattle.wait_model.specs.{declared.points.Next.Next, declared.points.Given.Given, declared.watches.Kind.Kind}
use Rattle.wait_model.specs.{declared.watches.Watch.Watch, Functions.put, Views.View, Queues.place_for}
use Rattle.wait_model.specs.{Admission.IsStandingKind, declared.points.PagePoint.PagePoint}
use Rattle.wait_model.specs.{declared.points.FinishPoint.FinishPoint, declared.points.Seen.Seen}
use Rattle.wait_model.specs.declared.points.Planned.{Planned}
use Rattle.wait_model.specs.Programs.{program_start, page_event, page_finish_event, page_queue, page_last, call_fails}
use Rattle.wait_model.specs.Programs.{past}
use Rattle.wait_model.specs.Reached.{ArePagesHanded, HandsAt, handed_by, IsPlaced, IsSoundCall, IsHome, absent}
use Rattle.wait_model.specs.Reached.{IsFitted, CountedBy}
use Rattle.wait_model.specs.Runs.{State, own, is_open, happens, Continues, event_steps, is_publishing, entry_for}
use Rattle.wait_model.specs.Runs.{progress_at, given_by, progress_after, planned, seen_by}
use Rattle.wait_model.specs.Watches.{is_page, head_of, kind_for, page, word_of, bit_of, misses, was_clear}
use Rattle.wait_model.specs.Words.{head_word, bit_at, flag}
use Rattle.wait_model.specs.Tables.{Table, steps, value_of}
use Rattle.wait_model.specs.Points.{call_watch, kind_at, kind_of, state_in}
use Rattle.wait_model.specs.Tasks.{looks_in, pending, state_mask}
use Rattle.wait_model.specs.declared.calls.Ran.TheVariants as ran
use Rattle.wait_model.specs.declared.calls.Call.TheVariants as calls
use Rattle.wait_model.specs.declared.points.Progress.TheVariants as now
use Rattle.wait_model.proofs.{Sameness.each_kind, RunLaws.OthersEvents.Changes, RunLaws.OthersEvents.own_one}
use Rattle.wait_model.proofs.{WordLaws.CondWords.set_rest, HistoryLaws.HoldLooks.looks_same}
use Rattle.wait_model.proofs.{HistoryLaws.UnlockedLooks.peeks_same, WaitLaws.OutsideStages.either}
use Rattle.wait_model.proofs.WaitLaws.OutsideStages.{both}
use Rattle.wait_model.proofs.Functions.{put_at, put_case, put_same}
use Rattle.wait_model.proofs.RunLaws.PagelessPoints.{IsSober, IsElsewhere, enters_page, IsApart, program_apart}
use Rattle.wait_model.specs.declared.calls.Event.TheVariants as event
use Rattle.wait_model.specs.declared.points.Point.TheVariants as at
use Rattle.wait_model.specs.declared.points.WalkPoint.TheVariants as walking
use Rattle.wait_model.specs.declared.points.PageStage.TheVariants as staging
use Rattle.wait_model.specs.declared.points.PagePoint.TheVariants as paging
use Rattle.wait_model.specs.declared.points.Next.TheVariants as next
use Rattle.wait_model.specs.declared.steps.Step.TheVariants as step
use Rattle.wait_model.specs.declared.watches.Kind.TheVariants as kind
use Rattle.wait_model.specs.Tables as tables
use Rattle.wait_model.specs.declared.points.FinishPoint.TheVariants as finishing

start_hands : (taken : ℕ → Option ℕ) (me : ℕ) (call : Call) → HandsAt taken me (now.Open call (program_start call))
start_hands taken me calls.Remove = tt
start_hands taken me call = tt

closed_hands : (p : Progress) (u : ℕ) → is_open p ≡ false → handed_by p ≡ Some u → (A : Type 0) → A
closed_hands now.Fresh u c h A = absurd (cc)
closed_hands now.Idle u c h A = absurd (cc)
closed_hands (now.Open call p) u c h A = absurd (cc)

pub opened_handed : (s : State) (me : ℕ) (call : Call) → ArePagesHanded s.table.taken s.table.entry s.progress
    → is_open (s.progress me) ≡ false
    → ArePagesHanded s.table.taken s.table.entry (happens s (ran.Opened me call)).progress
opened_handed s me call h closed = record {
  places = λ t. put_at (HandsAt s.table.taken t) s.progress me (now.Open call (program_start call)) t
      (λ _. start_hands s.table.taken t call) (λ _. h.places t);
  amid = λ u p e st pg tk. let a = h.amid u p e st pg tk in (
    a.0,
    put_at (λ q. handed_by q ≡ Some u) s.progress me (now.Open call (program_start call)) a.0
        (λ q. closed_hands (s.progress me) u closed (subst (λ (i : ℕ). handed_by (s.progress i) ≡ Some u) q a.1)
        (handed_by (now.Open call (program_start call)) ≡ Some u)) (λ _. a.1),
  );
}

-- what an event changes of the pages that were taken
taken_left : (s : State) (me : ℕ) (g : Given) (e : Event) → IsSober e
    → ((steps s.table me (event_steps s me g e)).taken ≡ s.table.taken)
    ⊎ ((e ≡ event.Unflag) × ((steps s.table me (event_steps s me g e)).taken ≡ put s.table.taken (own me) None))
taken_left s me g (event.TasFor p who found) o = absurd o
taken_left s me g event.Unflag o = inr (refl, refl)
taken_left s me g (event.Lock h) o = inl (looks_same (tables.next s.table me (step.Lock h g.walk
    (head_word (s.table.holder h) (s.table.spent h)))) s.table.entry me).taken
taken_left s me g (event.Active h hit) o = inl (peeks_same s.table s.table.entry me).taken
taken_left s me g (event.Set c v) o = inl (set_taken (is_publishing g.watch (value_of s.table.words g.watch) v))
  where
    set_taken : (b : Bool) → (tables.next s.table me (if b then step.Publish g.watch v (value_of s.table.words g.watch)
        else step.Consume g.watch v (value_of s.table.words g.watch))).taken ≡ s.table.taken
    set_taken true = refl
    set_taken false = refl
taken_left s me g e o = inl refl

-- and of the entries: one that stands after it stood before, or was queued by it
entry_left : (s : State) (me : ℕ) (g : Given) (e : Event) (u : ℕ) (d : Entry)
    → (steps s.table me (event_steps s me g e)).entry (own u) ≡ Some d
    → (s.table.entry (own u) ≡ Some d)
    ⊎ ((h : ℕ) × (f : Form) × (e ≡ event.Queue h f) × (u ≡ me) × (d.kind ≡ g.kind))
entry_left s me g (event.Queue h form) u d st = elim (put_case s.table.entry (own me)
    (Some (entry_for g form (place_for form (s.queue h)))) (own u)) [
      | inl q ↦ inr (
        h,
        form,
        refl,
        own_one u me q.0,
        sym (ap (λ (i : Entry). i.kind) (same_Some (entry_for g form (place_for form (s.queue h))) d (sym q.1 ∙ st))),
      )
      | inr q ↦ inl (sym q.1 ∙ st)
    ]
entry_left s me g (event.Unqueue who) u d st = elim (put_case s.table.entry (own who) None (own u)) [
  | inl q ↦ absurd (none-some d (sym q.1 ∙ st))
  | inr q ↦ inl (sym q.1 ∙ st)
]
entry_left s me g (event.Lock h) u d st = inl (sym (ap (λ (f : ℕ → Option Entry). f (own u)) (looks_same
    (tables.next s.table me (step.Lock h g.walk (head_word (s.table.holder h) (s.table.spent h)))) s.table.entry
    me).entry) ∙ st)
entry_left s me g (event.Active h hit) u d st = inl (sym (ap (λ (f : ℕ → Option Entry). f (own u))
    (peeks_same s.table s.table.entry me).entry) ∙ st)
entry_left s me g (event.Set c v) u d st = inl (sym (ap (λ (f : ℕ → Option Entry). f (own u))
    (set_rest s.table me g.watch v (value_of s.table.words g.watch)).entry) ∙ st)
entry_left s me g e u d st = inl st

-- a walk that hands a page holds the head of its entry, which is one of kind Page
pub record IsHanding (entry : ℕ → Option Entry) (u : ℕ) (held : Option ℕ) : Type 0 where
  pub it : Entry
  pub stands : entry (own u) ≡ Some it
  pub head : held ≡ Some (head_of it.watch)
  pub kind : is_page it.kind ≡ true

handing_at : (entry : ℕ → Option Entry) (v : View) (a u : ℕ) (call : Call) (st : PageStage) (w : Walking)
    (c : CalledEntry) → IsPlaced entry v a (now.Open call (at.Walk (walking.Page st w c))) → c.kind ≡ kind.Page
    → c.who ≡ u → IsHanding entry u v.hold.head
handing_at entry v a u call st w c pl k same = subst (λ (i : ℕ). IsHanding entry i v.hold.head) same (record {
  it = (pl.flagged c refl).it;
  stands = (pl.flagged c refl).stands;
  head = pl.head ∙ (pl.flagged c refl).head;
  kind = sym (ap (λ (d : CalledEntry). is_page d.kind) (pl.flagged c refl).seen) ∙ ap is_page k;
})

trying_at : (entry : ℕ → Option Entry) (v : View) (n a : ℕ) (call : Call) (w : Walking) (c : CalledEntry)
    → IsPlaced entry v a (now.Open call (at.Walk (walking.Page staging.Try w c)))
    → IsSoundCall n (now.Open call (at.Walk (walking.Page staging.Try w c))) → IsHanding entry c.who v.hold.head
trying_at entry v n a call w c pl k = handing_at entry v a c.who call staging.Try w c pl k.walk.4 refl

pub handing_of : (entry : ℕ → Option Entry) (v : View) (n a u : ℕ) (p : Progress) → IsPlaced entry v a p
    → IsSoundCall n p → handed_by p ≡ Some u → IsHanding entry u v.hold.head
handing_of entry v n a u (now.Open call (at.Walk (walking.Page staging.Try w c))) pl k h = absurd (cc)
handing_of entry v n a u (now.Open call (at.Walk (walking.Page staging.Hand w c))) pl k h =
    handing_at entry v a u call staging.Hand w c pl k.walk.4 (cc)
handing_of entry v n a u (now.Open call (at.Walk (walking.Page staging.Wake w c))) pl k h =
    handing_at entry v a u call staging.Wake w c pl k.walk.4 (cc)
handing_of entry v n a u (now.Open call (at.Walk (walking.Page staging.Off w c))) pl k h =
    handing_at entry v a u call staging.Off w c pl k.walk.4 (cc)
handing_of entry v n a u p pl k h = absurd (cc)

-- the whole after an event of a task
module _ (s : State) (n me : ℕ) (g : Given) (e : Event) (np : Progress)
    (h : ArePagesHanded s.table.taken s.table.entry s.progress)
    (pl : (t : ℕ) → IsPlaced s.table.entry (s.table.view t) t (s.progress t))
    (k : (t : ℕ) → IsSoundCall n (s.progress t)) (changes : Changes s me e) where
  abbrev after_it : Table
  after_it = steps s.table me (event_steps s me g e)

  -- an event that takes no page, of a task that hands none
  module _ (sober : IsSober e) (hands_none : (u : ℕ) → handed_by (s.progress me) ≡ Some u → ⊥)
      (queues : (x : ℕ) (f : Form) → e ≡ event.Queue x f → is_page g.kind ≡ true → s.table.taken (own me) ≡ None)
    where
      was_taken : (u q : ℕ) → after_it.taken (own u) ≡ Some q → s.table.taken (own u) ≡ Some q
      was_taken u q t = elim (taken_left s me g e sober) [
        | inl same ↦ subst (λ (f : ℕ → Option ℕ). f (own u) ≡ Some q) same t
        | inr un ↦ let z : put s.table.taken (own me) None (own u) ≡ Some q =
            subst (λ (f : ℕ → Option ℕ). f (own u) ≡ Some q) un.1 t in
            elim (put_case s.table.taken (own me) None (own u)) [
              | inl i ↦ absurd (none-some q (sym i.1 ∙ z))
              | inr i ↦ sym i.1 ∙ z
            ]
      ]

      still_none : (u : ℕ) → s.table.taken (own u) ≡ None → after_it.taken (own u) ≡ None
      still_none u t = elim (taken_left s me g e sober) [
        | inl same ↦ subst (λ (f : ℕ → Option ℕ). f (own u) ≡ None) (sym same) t
        | inr un ↦ subst (λ (f : ℕ → Option ℕ). f (own u) ≡ None) (sym un.1)
            (put_at (λ o. o ≡ None) s.table.taken (own me) None (own u) (λ _. refl) (λ _. t))
      ]

      -- who clears the own flag has no entry queued for a page
      still_some : (a u q : ℕ) → handed_by (s.progress a) ≡ Some u → s.table.taken (own u) ≡ Some q
          → after_it.taken (own u) ≡ Some q
      still_some a u q i t = elim (taken_left s me g e sober) [
        | inl same ↦ subst (λ (f : ℕ → Option ℕ). f (own u) ≡ Some q) (sym same) t
        | inr un ↦ subst (λ (f : ℕ → Option ℕ). f (own u) ≡ Some q) (sym un.1)
            (put_at (λ o. o ≡ Some q) s.table.taken (own me) None (own u)
            (λ r. absurd (paged a u i r (subst (Changes s me) un.0 changes))) (λ _. t))
      ]
        where
          paged : (a u : ℕ) → handed_by (s.progress a) ≡ Some u → own u ≡ own me → Changes s me event.Unflag → ⊥
          paged a u i r c =
              let f : IsHanding s.table.entry u (s.table.view a).hold.head =
              handing_of s.table.entry (s.table.view a) n a u (s.progress a) (pl a) (k a) i in
              both_ways (is_page f.it.kind) (c f.it (sym (ap s.table.entry r) ∙ f.stands)) f.kind

      sober_amid : (u q : ℕ) (d : Entry) → after_it.entry (own u) ≡ Some d → is_page d.kind ≡ true
          → after_it.taken (own u) ≡ Some q → (a : ℕ) × (handed_by (put s.progress me np a) ≡ Some u)
      sober_amid u q d st pg tk = elim (entry_left s me g e u d st) [
        | inl old ↦ let a = h.amid u q d old pg (was_taken u q tk) in (
          a.0,
          put_at (λ r. handed_by r ≡ Some u) s.progress me np a.0
              (λ i. absurd (hands_none u (subst (λ (j : ℕ). handed_by (s.progress j) ≡ Some u) i a.1))) (λ _. a.1),
        )
        | inr new ↦ absurd (none-some q (sym (queues new.0 new.1 new.2 (sym (ap is_page new.4) ∙ pg))
            ∙ (sym (ap (λ (i : ℕ). s.table.taken (own i)) new.3) ∙ was_taken u q tk)))
      ]

      still_place : (t : ℕ) (p : Progress) → s.progress t ≡ p → HandsAt s.table.taken t p → HandsAt after_it.taken t p
      still_place t (now.Open call (at.Walk (walking.Page staging.Try w c))) is i = still_none c.who i
      still_place t (now.Open call (at.Walk (walking.Page staging.Hand w c))) is i =
          (i.0, still_some t c.who i.0 (ap handed_by is) i.1)
      still_place t (now.Open call (at.Walk (walking.Page staging.Wake w c))) is i =
          (i.0, still_some t c.who i.0 (ap handed_by is) i.1)
      still_place t (now.Open call (at.Walk (walking.Page staging.Off w c))) is i =
          (i.0, still_some t c.who i.0 (ap handed_by is) i.1)
      still_place t (now.Open call (at.Page paging.Lock)) is i = still_none t i
      still_place t (now.Open call (at.Page paging.Queue)) is i = still_none t i
      still_place t p is i = tt

      pub sober_handed : HandsAt after_it.taken me np
          → ArePagesHanded after_it.taken after_it.entry (put s.progress me np)
      sober_handed here = record {
        places = λ t. put_at (HandsAt after_it.taken t) s.progress me np t
            (λ q. subst (λ (i : ℕ). HandsAt after_it.taken i np) (sym q) here)
            (λ _. still_place t (s.progress t) refl (h.places t));
        amid = sober_amid;
      }

  -- an event that changes no page, of a task that hands one to another or to none as before
  same_handed : after_it.taken ≡ s.table.taken
      → ((u : ℕ) (d : Entry) → after_it.entry (own u) ≡ Some d → s.table.entry (own u) ≡ Some d)
      → HandsAt s.table.taken me np
      → ((u : ℕ) (d : Entry) → after_it.entry (own u) ≡ Some d → handed_by (s.progress me) ≡ Some u
      → handed_by np ≡ Some u)
      → ArePagesHanded after_it.taken after_it.entry (put s.progress me np)
  same_handed same entry here keep = record {
    places = λ t. subst (λ (f : ℕ → Option ℕ). HandsAt f t (put s.progress me np t)) (sym same)
        (put_at (HandsAt s.table.taken t) s.progress me np t
        (λ q. subst (λ (i : ℕ). HandsAt s.table.taken i np) (sym q) here) (λ _. h.places t));
    amid = λ u q d st pg tk.
        let a = h.amid u q d (entry u d st) pg (subst (λ (f : ℕ → Option ℕ). f (own u) ≡ Some q) same tk) in (
          a.0,
          put_at (λ r. handed_by r ≡ Some u) s.progress me np a.0
              (λ i. keep u d st (subst (λ (j : ℕ). handed_by (s.progress j) ≡ Some u) i a.1)) (λ _. a.1),
        );
  }

  -- a walk has taken the page for the task of an entry, at whose head it stands
  module _ (call : Call) (w : Walking) (c : CalledEntry) (q : ℕ)
      (is : s.progress me ≡ now.Open call (at.Walk (walking.Page staging.Try w c)))
      (facts : Facts s.table) (goes : np ≡ now.Open call (at.Walk (walking.Page staging.Hand w c)))
      (taken : after_it.taken ≡ put s.table.taken (own c.who) (Some q)) (entry : after_it.entry ≡ s.table.entry) where
    mine : IsHanding s.table.entry c.who (s.table.view me).hold.head
    mine = trying_at s.table.entry (s.table.view me) n me call w c (subst (IsPlaced s.table.entry (s.table.view me) me)
        is (pl me)) (subst (IsSoundCall n) is (k me))

    apart : (t u : ℕ) → IsHanding s.table.entry u (s.table.view t).hold.head → own u ≡ own c.who → t ≡ me
    apart t u f same =
        let z : Some f.it ≡ Some mine.it = sym f.stands ∙ ap s.table.entry same ∙ mine.stands in
        let one : f.it ≡ mine.it = cc in
        facts.one_holder t me (head_of mine.it.watch) (f.head ∙ ap (λ (d : Entry). Some (head_of d.watch)) one)
        mine.head

    others : (t : ℕ) → t ≢ me → (p : Progress) → s.progress t ≡ p → IsPlaced s.table.entry (s.table.view t) t p
        → IsSoundCall n p → HandsAt s.table.taken t p → HandsAt (put s.table.taken (own c.who) (Some q)) t p
    others t ne (now.Open x (at.Walk (walking.Page staging.Try v d))) eq pt kt i =
        put_at (λ o. o ≡ None) s.table.taken (own c.who) (Some q) (own d.who)
        (λ same. absurd (ne (apart t d.who (trying_at s.table.entry (s.table.view t) n t x v d pt kt) same))) (λ _. i)
    others t ne (now.Open x (at.Walk (walking.Page staging.Hand v d))) eq pt kt i =
        put_at (λ o. (r : ℕ) × (o ≡ Some r)) s.table.taken (own c.who) (Some q) (own d.who) (λ _. (q, refl)) (λ _. i)
    others t ne (now.Open x (at.Walk (walking.Page staging.Wake v d))) eq pt kt i =
        put_at (λ o. (r : ℕ) × (o ≡ Some r)) s.table.taken (own c.who) (Some q) (own d.who) (λ _. (q, refl)) (λ _. i)
    others t ne (now.Open x (at.Walk (walking.Page staging.Off v d))) eq pt kt i =
        put_at (λ o. (r : ℕ) × (o ≡ Some r)) s.table.taken (own c.who) (Some q) (own d.who) (λ _. (q, refl)) (λ _. i)
    others t ne (now.Open x (at.Page paging.Lock)) eq pt kt i =
        put_at (λ o. o ≡ None) s.table.taken (own c.who) (Some q) (own t)
        (λ same. absurd (subst (IsHome absent (call_watch x)) (ap s.table.entry same ∙ mine.stands) pt.home)) (λ _. i)
    others t ne (now.Open x (at.Page paging.Queue)) eq pt kt i =
        put_at (λ o. o ≡ None) s.table.taken (own c.who) (Some q) (own t)
        (λ same. absurd (subst (IsHome absent (call_watch x)) (ap s.table.entry same ∙ mine.stands) pt.home)) (λ _. i)
    others t ne p eq pt kt i = tt

    tried_handed : ArePagesHanded after_it.taken after_it.entry (put s.progress me np)
    tried_handed = rw (taken, entry, goes) (record {
      places = λ t. put_at (HandsAt (put s.table.taken (own c.who) (Some q)) t) s.progress me
          (now.Open call (at.Walk (walking.Page staging.Hand w c))) t
          (λ _. (
            q,
            put_at (λ o. o ≡ Some q) s.table.taken (own c.who) (Some q) (own c.who) (λ _. refl)
                (λ ne. absurd (ne refl)),
          ))
          (λ ne. others t ne (s.progress t) refl (pl t) (k t) (h.places t));
      amid = λ u r d st pg tk. elim (put_case s.table.taken (own c.who) (Some q) (own u)) [
        | inl i ↦ (
          me,
          put_at (λ x. handed_by x ≡ Some u) s.progress me (now.Open call (at.Walk (walking.Page staging.Hand w c))) me
              (λ _. ap (λ (j : ℕ). Some j) (sym (own_one u c.who i.0))) (λ ne. absurd (ne refl)),
        )
        | inr i ↦ let a = h.amid u r d st pg (sym i.1 ∙ tk) in (
          a.0,
          put_at (λ x. handed_by x ≡ Some u) s.progress me (now.Open call (at.Walk (walking.Page staging.Hand w c))) a.0
              (λ j. absurd (let z : handed_by (now.Open call (at.Walk (walking.Page staging.Try w c))) ≡ Some u =
              subst (λ (x : Progress). handed_by x ≡ Some u) (ap s.progress j ∙ is) a.1 in cc)) (λ _. a.1),
        )
      ];
    })

-- an entry that a call queues outside locks of pages is none of a page
pub kind_plain : (c : Watch) → is_page (kind_for c) ≡ false
kind_plain c = each_kind (λ k. is_page k ≡ false) refl refl refl refl c

pub standing_plain : (j : Kind) → IsStandingKind j → is_page j ≡ false
standing_plain kind.Page s = absurd (cc)
standing_plain j s = refl

elsewhere_plain : (call : Call) (p : Point) → IsElsewhere p → IsFitted call p → is_page (kind_at call p) ≡ false
elsewhere_plain call (at.Add p) o f = standing_plain (kind_of call) f.0
elsewhere_plain call (at.Page p) o f = absurd o
elsewhere_plain call p o f = kind_plain (call_watch call)

elsewhere_hands : (call : Call) (p : Point) (u : ℕ) → IsElsewhere p → handed_by (now.Open call p) ≡ Some u → ⊥
elsewhere_hands call (at.Walk (walking.Page st w c)) u o h = absurd o
elsewhere_hands call p u o h = cc

-- where a program goes that does not come to a page's places, but for the one at which the walk is about to try it
not_entered : (taken : ℕ → Option ℕ) (me : ℕ) (call : Call) (x : Next) → enters_page x ≡ false
    → ((w : Walking) (c : CalledEntry) → x ≡ next.Go (at.Walk (walking.Page staging.Try w c))
    → taken (own c.who) ≡ None)
    → HandsAt taken me (progress_at call x)
not_entered taken me call (next.Ends a) f t = tt
not_entered taken me call (next.Go (at.Walk (walking.Page staging.Try w c))) f t = t w c refl
not_entered taken me call (next.Go (at.Walk (walking.Page staging.Hand w c))) f t = absurd (cc)
not_entered taken me call (next.Go (at.Walk (walking.Page staging.Wake w c))) f t = absurd (cc)
not_entered taken me call (next.Go (at.Walk (walking.Page staging.Off w c))) f t = absurd (cc)
not_entered taken me call (next.Go (at.Page paging.Lock)) f t = absurd (cc)
not_entered taken me call (next.Go (at.Page paging.Queue)) f t = absurd (cc)
not_entered taken me call (next.Go p) f t = tt

-- the events of a call that locks a page
module _ (me : ℕ) (call : Call) (seen : Seen) where
  abbrev Sober : Planned → Type 0
  Sober x = IsSober x.event

  abbrev QueuesNot : ℕ → Form → Planned → Type 0
  QueuesNot x f y = y.event ≡ event.Queue x f → ⊥

  abbrev HereAt : (ℕ → Option ℕ) → PagePoint → Type 0
  HereAt taken p = HandsAt taken me (now.Open call (at.Page p))

  abbrev Here : (ℕ → Option ℕ) → Planned → Type 0
  Here taken x = HandsAt taken me (progress_at call x.next)

  finish_sober : (p : FinishPoint) → IsSober (page_finish_event me call p seen).event
  finish_sober finishing.Look = either Sober (is_some seen.entry) _ _ tt tt
  finish_sober finishing.Queue = either Sober (is_some seen.entry) _ _ tt tt
  finish_sober _ = tt

  page_sober : (p : PagePoint) → IsSober (page_event me call p seen).event
  page_sober paging.First = either Sober (call_fails call seen) _ _ tt tt
  page_sober paging.Queue = both (λ b. Sober (page_queue call b)) seen.worn tt tt
  page_sober (paging.Unlock true) = tt
  page_sober (paging.Unlock false) = tt
  page_sober (paging.Finish p) = finish_sober p
  page_sober paging.Last = both (λ b. Sober (page_last b)) seen.flag tt tt
  page_sober p = tt

  -- only one of its places queues an entry
  finish_queues : (p : FinishPoint) (x : ℕ) (f : Form) → (page_finish_event me call p seen).event ≡ event.Queue x f → ⊥
  finish_queues finishing.Look x f q = either (QueuesNot x f) (is_some seen.entry) _ _ (λ r. cc) (λ r. cc) q
  finish_queues finishing.Queue x f q = either (QueuesNot x f) (is_some seen.entry) _ _ (λ r. cc) (λ r. cc) q
  finish_queues _ x f q = cc

  page_queues : (taken : ℕ → Option ℕ) (p : PagePoint) (x : ℕ) (f : Form)
      → (page_event me call p seen).event ≡ event.Queue x f → HandsAt taken me (now.Open call (at.Page p))
      → taken (own me) ≡ None
  page_queues taken paging.Queue x f q h = h
  page_queues taken paging.First x f q h =
      absurd (either (QueuesNot x f) (call_fails call seen) _ _ (λ r. cc) (λ r. cc) q)
  page_queues taken (paging.Unlock true) x f q h = absurd (cc)
  page_queues taken (paging.Unlock false) x f q h = absurd (cc)
  page_queues taken (paging.Finish p) x f q h = absurd (finish_queues p x f q)
  page_queues taken paging.Last x f q h =
      absurd (both (λ b. QueuesNot x f (page_last b)) seen.flag (λ r. cc) (λ r. cc) q)
  page_queues taken p x f q h = absurd (cc)

  -- where it goes
  finish_here : (taken : ℕ → Option ℕ) (p : FinishPoint)
      → HandsAt taken me (progress_at call (page_finish_event me call p seen).next)
  finish_here taken finishing.Look = either (Here taken) (is_some seen.entry) _ _ tt tt
  finish_here taken finishing.Queue = either (Here taken) (is_some seen.entry) _ _ tt tt
  finish_here taken _ = tt

  page_here : (taken taken2 : ℕ → Option ℕ) (p : PagePoint) → HandsAt taken me (now.Open call (at.Page p))
      → (taken (own me) ≡ None → taken2 (own me) ≡ None)
      → ((page_event me call p seen).event ≡ event.Unflag → taken2 (own me) ≡ None)
      → HandsAt taken2 me (progress_at call (page_event me call p seen).next)
  page_here taken taken2 paging.First h still un = either (Here taken2) (call_fails call seen) _ _ tt tt
  page_here taken taken2 paging.Unflag h still un = un refl
  page_here taken taken2 paging.Lock h still un = still h
  page_here taken taken2 paging.Queue h still un = both (λ b. Here taken2 (page_queue call b)) seen.worn tt tt
  page_here taken taken2 paging.Try h still un = either (HereAt taken2) (call_fails call seen) _ _ tt tt
  page_here taken taken2 (paging.Unlock true) h still un = tt
  page_here taken taken2 (paging.Unlock false) h still un = tt
  page_here taken taken2 paging.Flag h still un = either (HereAt taken2) seen.flag _ _ tt
      (either (HereAt taken2) (looks_in (state_in call)) _ _ tt tt)
  page_here taken taken2 paging.Look h still un =
      either (HereAt taken2) (pending (state_mask (state_in call)) seen.own) _ _ tt tt
  page_here taken taken2 (paging.Finish p) h still un = finish_here taken2 p
  page_here taken taken2 paging.Last h still un = both (λ b. Here taken2 (page_last b)) seen.flag tt tt
  page_here taken taken2 p h still un = tt

-- an event that a run makes
module _ (s : State) (n me : ℕ) (e : Event) (found : ℕ)
    (h : ArePagesHanded s.table.taken s.table.entry s.progress)
    (pl : (t : ℕ) → IsPlaced s.table.entry (s.table.view t) t (s.progress t))
    (k : (t : ℕ) → IsSoundCall n (s.progress t)) (facts : Facts s.table) (changes : Changes s me e)
    (pl2 : (t : ℕ) → IsPlaced (happens s (ran.Made me e found)).table.entry
    ((happens s (ran.Made me e found)).table.view t) t ((happens s (ran.Made me e found)).progress t))
    (k2 : (t : ℕ) → IsSoundCall (n + 1) ((happens s (ran.Made me e found)).progress t))
    (facts2 : Facts (happens s (ran.Made me e found)).table)
    (aims : CountedBy s.table.entry (s.table.view me) (s.progress me)) where
  abbrev u : State
  u = happens s (ran.Made me e found)

  abbrev g : Given
  g = given_by (s.progress me)

  abbrev np : Progress
  np = progress_after s me (s.progress me)

  abbrev Goal : Type 0
  Goal = ArePagesHanded u.table.taken u.table.entry u.progress

  module _ (call : Call) (p : Point) (is : s.progress me ≡ now.Open call p) (c : e ≡ (planned s me call p).event) where
    abbrev x : Planned
    x = planned s me call p

    goes : np ≡ progress_at call x.next
    goes = ap (progress_after s me) is

    kind_is : g.kind ≡ kind_at call p
    kind_is = ap (λ (q : Progress). (given_by q).kind) is

    fits : IsFitted call p
    fits = (subst (IsSoundCall n) is (k me)).fitted

    here_first : HandsAt s.table.taken me (now.Open call p)
    here_first = subst (HandsAt s.table.taken me) is (h.places me)

    elsewhere : IsElsewhere p → Goal
    elsewhere o = sober_handed s n me g e np h pl k changes sober none queues
        (subst (HandsAt u.table.taken me) (sym goes) (not_entered u.table.taken me call x.next a.next untaken))
      where
        a : IsApart x
        a = program_apart call me (seen_by s me call p) p o

        sober : IsSober e
        sober = subst IsSober (sym c) a.event

        none : (v : ℕ) → handed_by (s.progress me) ≡ Some v → ⊥
        none v i = elsewhere_hands call p v o (sym (ap handed_by is) ∙ i)

        queues : (y : ℕ) (f : Form) → e ≡ event.Queue y f → is_page g.kind ≡ true → s.table.taken (own me) ≡ None
        queues y f q pg = absurd (both_ways (is_page g.kind) (ap is_page kind_is ∙ elsewhere_plain call p o fits)
            pg)

        untaken : (w : Walking) (d : CalledEntry) → x.next ≡ next.Go (at.Walk (walking.Page staging.Try w d))
            → u.table.taken (own d.who) ≡ None
        untaken w d q = by (u.table.taken (own d.who)) refl
          where
            at_try : np ≡ now.Open call (at.Walk (walking.Page staging.Try w d))
            at_try = goes ∙ ap (progress_at call) q

            now_me : u.progress me ≡ now.Open call (at.Walk (walking.Page staging.Try w d))
            now_me = put_same s.progress me np ∙ at_try

            f : IsHanding u.table.entry d.who (u.table.view me).hold.head
            f = trying_at u.table.entry (u.table.view me) (n + 1) me call w d
                (subst (IsPlaced u.table.entry (u.table.view me) me) now_me (pl2 me))
                (subst (IsSoundCall (n + 1)) now_me (k2 me))

            other : (i : ℕ) → handed_by (u.progress i) ≡ Some d.who → ⊥
            other i j =
                let y : IsHanding u.table.entry d.who (u.table.view i).hold.head =
                handing_of u.table.entry (u.table.view i) (n + 1) i d.who (u.progress i) (pl2 i) (k2 i) j in
                let one : y.it ≡ f.it = same_Some y.it f.it (sym y.stands ∙ f.stands) in
                let same : i ≡ me = facts2.one_holder i me (head_of f.it.watch)
                (y.head ∙ ap (λ (t : Entry). Some (head_of t.watch)) one) f.head in
                none-some d.who (subst (λ (r : Progress). handed_by r ≡ Some d.who) (ap u.progress same ∙ now_me) j)

            by : (o : Option ℕ) → u.table.taken (own d.who) ≡ o → u.table.taken (own d.who) ≡ None
            by None t = t
            by (Some r) t = let m = sober_amid s n me g e np h pl k changes sober none queues d.who r f.it f.stands
                f.kind t in absurd (other m.0 m.1)

  page_case : (call : Call) (p : PagePoint) → s.progress me ≡ now.Open call (at.Page p)
      → e ≡ (planned s me call (at.Page p)).event → Goal
  page_case call p is c = sober_handed s n me g e np h pl k changes sober none queues
      (subst (HandsAt u.table.taken me) (sym (goes call (at.Page p) is c))
      (page_here me call (seen_by s me call (at.Page p)) s.table.taken u.table.taken p
      (here_first call (at.Page p) is c)
      (still_none s n me g e np h pl k changes sober none queues me) cleared))
    where
      sober : IsSober e
      sober = subst IsSober (sym c) (page_sober me call (seen_by s me call (at.Page p)) p)

      none : (v : ℕ) → handed_by (s.progress me) ≡ Some v → ⊥
      none v i = absurd (none-some v (sym (ap handed_by is) ∙ i))

      queues : (y : ℕ) (f : Form) → e ≡ event.Queue y f → is_page g.kind ≡ true → s.table.taken (own me) ≡ None
      queues y f q pg = page_queues me call (seen_by s me call (at.Page p)) s.table.taken p y f (sym c ∙ q)
          (here_first call (at.Page p) is c)

      cleared : (planned s me call (at.Page p)).event ≡ event.Unflag → u.table.taken (own me) ≡ None
      cleared q = subst (λ (i : Event). (steps s.table me (event_steps s me g i)).taken (own me) ≡ None)
          (sym (c ∙ q)) (put_same s.table.taken (own me) None)

  -- an event that takes no page and no entry, and leaves the task handing one as before
  handing : (call : Call) (p : Point) → s.progress me ≡ now.Open call p → (c : e ≡ (planned s me call p).event)
      → (steps s.table me (event_steps s me g (planned s me call p).event)).taken ≡ s.table.taken
      → (steps s.table me (event_steps s me g (planned s me call p).event)).entry ≡ s.table.entry
      → HandsAt s.table.taken me (progress_at call (planned s me call p).next)
      → handed_by (progress_at call (planned s me call p).next) ≡ handed_by (now.Open call p) → Goal
  handing call p is c taken entry here hands = same_handed s n me g e np h pl k changes
      (ap (λ (i : Event). (steps s.table me (event_steps s me g i)).taken) c ∙ taken)
      (λ v t st. subst (λ (f : ℕ → Option Entry). f (own v) ≡ Some t)
      (ap (λ (i : Event). (steps s.table me (event_steps s me g i)).entry) c ∙ entry) st)
      (subst (HandsAt s.table.taken me) (sym (goes call p is c)) here)
      (λ v t st i. ap handed_by (goes call p is c) ∙ (hands ∙ (sym (ap handed_by is) ∙ i)))

  walk_case_of : (call : Call) (st : PageStage) (w : Walking) (d : CalledEntry)
      → s.progress me ≡ now.Open call (at.Walk (walking.Page st w d))
      → e ≡ (planned s me call (at.Walk (walking.Page st w d))).event → Goal
  walk_case_of call staging.Try w d is c = by (misses (call_watch call) r) refl
    where
      p : ℕ
      p = word_of (call_watch call)

      r : ℕ
      r = value_of s.table.words (call_watch call)

      event_is : e ≡ event.TasFor p d.who (flag (bit_at r (bit_of (call_watch call))))
      event_is = c

      taken_is : u.table.taken ≡ cond (was_clear (page p) (value_of s.table.words (page p)))
          (put s.table.taken (own d.who) (Some p)) s.table.taken
      taken_is = ap (λ (i : Event). (steps s.table me (event_steps s me g i)).taken) event_is

      entry_is : u.table.entry ≡ s.table.entry
      entry_is = ap (λ (i : Event). (steps s.table me (event_steps s me g i)).entry) event_is

      sound : IsSoundCall n (now.Open call (at.Walk (walking.Page staging.Try w d)))
      sound = subst (IsSoundCall n) is (k me)

      is_page_call : call_watch call ≡ page p
      is_page_call = (subst (CountedBy s.table.entry (s.table.view me)) is aims).1

      clear_is : (b : Bool) → misses (call_watch call) r ≡ b
          → was_clear (page p) (value_of s.table.words (page p)) ≡ not b
      clear_is b q = ap not (sym (ap (λ (i : Watch). misses i (value_of s.table.words i)) is_page_call) ∙ q)

      goes_to_is : (b : Bool) → misses (call_watch call) r ≡ b
          → np ≡ now.Open call (at.Walk (if b then walking.Stopped w else walking.Page staging.Hand w d))
      goes_to_is b q = goes call (at.Walk (walking.Page staging.Try w d)) is c
          ∙ ap (λ (i : Bool). now.Open call (at.Walk
          (if i then walking.Stopped w else walking.Page staging.Hand w d))) q

      by : (b : Bool) → misses (call_watch call) r ≡ b → Goal
      by true q = same_handed s n me g e np h pl k changes
          (taken_is ∙ ap (λ (i : Bool). cond i (put s.table.taken (own d.who) (Some p)) s.table.taken)
          (clear_is true q))
          (λ v t st. subst (λ (f : ℕ → Option Entry). f (own v) ≡ Some t) entry_is st)
          (subst (HandsAt s.table.taken me) (sym (goes_to_is true q)) tt)
          (λ v t st i. absurd (none-some v (sym (ap handed_by is) ∙ i)))
      by false q = tried_handed s n me g e np h pl k changes call w d p is facts (goes_to_is false q)
          (taken_is ∙ ap (λ (i : Bool). cond i (put s.table.taken (own d.who) (Some p)) s.table.taken)
          (clear_is false q))
          entry_is
  walk_case_of call staging.Hand w d is c = handing call (at.Walk (walking.Page staging.Hand w d)) is c refl refl
      (here_first call (at.Walk (walking.Page staging.Hand w d)) is c) refl
  walk_case_of call staging.Wake w d is c = handing call (at.Walk (walking.Page staging.Wake w d)) is c refl refl
      (here_first call (at.Walk (walking.Page staging.Wake w d)) is c) refl
  walk_case_of call staging.Off w d is c = same_handed s n me g e np h pl k changes
      (ap (λ (i : Event). (steps s.table me (event_steps s me g i)).taken) c)
      (λ v t st. (left v t st).1)
      (subst (HandsAt s.table.taken me) (sym (goes call (at.Walk (walking.Page staging.Off w d)) is c))
      (onward_here (past w d true).spent))
      (λ v t st i. absurd ((left v t st).0 (sym (same_Some d.who v (sym (ap handed_by is) ∙ i)))))
    where
      left : (v : ℕ) (t : Entry) → u.table.entry (own v) ≡ Some t
          → (v ≢ d.who) × (s.table.entry (own v) ≡ Some t)
      left v t st = elim (put_case s.table.entry (own d.who) None (own v)) [
        | inl q ↦ absurd (none-some t (sym q.1 ∙ there))
        | inr q ↦ ((λ i. q.0 (ap own i)), sym q.1 ∙ there)
      ]
        where
          there : put s.table.entry (own d.who) None (own v) ≡ Some t
          there = subst (λ (f : ℕ → Option Entry). f (own v) ≡ Some t)
              (ap (λ (i : Event). (steps s.table me (event_steps s me g i)).entry) c) st

      onward_here : (b : Bool) → HandsAt s.table.taken me (now.Open call
          (if b then at.Walk (walking.Spent (past w d true)) else at.Walk (walking.Call (past w d true))))
      onward_here true = tt
      onward_here false = tt

  pub made_handed : Continues s me (s.progress me) e found → Goal
  made_handed c = by (s.progress me) refl c
    where
      by : (q : Progress) → s.progress me ≡ q → Continues s me q e found → Goal
      by now.Fresh is c = absurd c
      by now.Idle is c = absurd c
      by (now.Open call (at.Page p)) is c = page_case call p is c.0
      by (now.Open call (at.Walk (walking.Page st w d))) is c = walk_case_of call st w d is c.0
      by (now.Open call p) is c = elsewhere call p is c.0 tt
