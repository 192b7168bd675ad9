-- Each event of a selection at a completion's head, and of a look at its count, hands permits on.
use Rattle.std.proofs.lemmas.Option.{none-some}
use Rattle.std.proofs.Common.{refl, sym, ◌∙◌, ap, subst, arith, inl, inr}
use Rattle.std.proofs.lemmas.Bool.Decides.{eqb_tells, nat_tests}
use Rattle.std.specs.Prelude.{ℕ, ◌≡◌, ◌+◌, ◌-◌, ◌<◌, ◌≤◌, Bool, true, false, not, ◌&&◌, ◌==◌, if◌then◌else◌, nat_lt}
use Rattle.std.specs.Prelude.{Option, Some, None}
use Rattle.wait_model.specs.{declared.layout.TheConstants.TASKS, declared.layout.TheConstants.ENTRIES}
use Rattle.wait_model.specs.{declared.calls.Call.Call, declared.points.CountPoint.CountPoint, declared.points.Next.Next}
use Rattle.wait_model.specs.{declared.points.Planned.Planned, declared.points.Point.Point}
use Rattle.wait_model.specs.{declared.points.SelectPoint.SelectPoint, declared.queues.Member.Member}
use Rattle.wait_model.specs.{declared.watches.Entry.Entry, Counts.taken_done, PermitFacts.IsAccounted}
use Rattle.wait_model.specs.{PermitFacts.dealt_in, Tables.value_of, Tasks.meets, Views.View, Fold.holding}
use Rattle.wait_model.specs.{Functions.put, Words.flag}
use Rattle.wait_model.specs.Permits.{Dealt, after_read, deals, done_head, is_in, shows_at, ShowsNobody}
use Rattle.wait_model.specs.PermitPlaces.{DealtAt, IsDealt, Selected, Selects, is_about}
use Rattle.wait_model.specs.Points.{call_head, called_task, call_number, call_watch, count_of, head_at, is_await}
use Rattle.wait_model.specs.Programs.{completed, count_from, done_in, ends_with, go, is_at_end, is_enough, select_ends}
use Rattle.wait_model.specs.Programs.{select_from, select_next, selected_answer, takes, zero_answer}
use Rattle.wait_model.specs.Queues.{IsIn, entry_from, is_entry}
use Rattle.wait_model.specs.Reached.{IsCallSound, IsPlaced, IsSound, holds}
use Rattle.wait_model.specs.Runs.{State, called_as, called_by, own, planned, progress_at}
use Rattle.wait_model.specs.Watches.{head_of, mask_of, owner, stands_at}
use Rattle.wait_model.specs.declared.calls.Event.TheVariants as event
use Rattle.wait_model.specs.declared.points.CountPoint.TheVariants as counting
use Rattle.wait_model.specs.declared.points.Next.TheVariants as next
use Rattle.wait_model.specs.declared.points.Point.TheVariants as at
use Rattle.wait_model.specs.declared.points.Progress.TheVariants as now
use Rattle.wait_model.specs.declared.points.SelectPoint.TheVariants as selecting
use Rattle.wait_model.specs.declared.steps.Step.TheVariants as step
use Rattle.wait_model.specs.declared.watches.Mode.TheVariants as mode
use Rattle.wait_model.specs.declared.watches.Watch.TheVariants as watch
use Rattle.wait_model.proofs.{QueueLaws.MemberStands.member_is, QueueLaws.PlacesApart.entry_inside}
use Rattle.wait_model.proofs.{QueueLaws.QueueOrder.IsFirstFrom, QueueLaws.QueueOrder.first_is}
use Rattle.wait_model.proofs.{PermitLaws.OwnTurns.clash, PermitLaws.OwnTurns.known_is}
use Rattle.wait_model.proofs.Functions.{put_at, both_left, both_right}
use Rattle.wait_model.proofs.PermitLaws.CountDebts.{load_outside, read_debt, stored_debt, taken_most}
use Rattle.wait_model.proofs.PermitLaws.PermitEvents.{Leaves, agrees, at_place, await_leaves, bare, completes}
use Rattle.wait_model.proofs.PermitLaws.PermitEvents.{count_begins, count_cases, ends, flipped, head_is, held, loads}
use Rattle.wait_model.proofs.PermitLaws.PermitEvents.{locks, out_debt, prepare_leaves, select_begins, shows_none}
use Rattle.wait_model.proofs.PermitLaws.PermitEvents.{sleep_leaves, still, stores, to, unlock_ends}

module _ (s : State) (n me : ℕ) (call : Call) (d : ℕ) (sound : IsSound s n) (mine : me < TASKS)
    (acc : IsAccounted s.table) (is : call_watch call ≡ watch.Done d) (about : is_about d call ≡ true) where
  abbrev v : View
  v = s.table.view me

  abbrev w : Dealt
  w = dealt_in s.table d me

  abbrev h : ℕ
  h = done_head d

  abbrev done_now : ℕ
  done_now = value_of s.table.words (call_watch call)

  abbrev P : Point → Type 0
  P p = IsPlaced s.table.entry (s.table.view me) me (now.Open call p)

  abbrev D : Point → Type 0
  D p = IsDealt d s.table.entry me (now.Open call p) (dealt_in s.table d me)

  abbrev L : Point → Planned → Type 0
  L p x = Leaves s n me call d sound mine acc is about p x

  -- a selection
  selects_none : (debt : ℕ) → debt ≡ 0 → Selects call 0 debt
  selects_none debt z = elim (count_cases call d about) [
    | inl q ↦ inl q
    | inr q ↦ inr (q, omega (arith, z))
  ]

  select_lock_leaves : P (at.Select selecting.Lock) → D (at.Select selecting.Lock) → L (at.Select selecting.Lock)
      (go (event.Lock (call_head call)) (at.Select (select_from call)))
  select_lock_leaves pl dl =
      let f = at_place s n me call d sound mine acc is about (at.Select selecting.Lock) pl dl in
      let b = bare s n me call d sound mine acc is about (at.Select selecting.Lock) pl dl f in
      let z = out_debt s n me call d sound mine acc is about (at.Select selecting.Lock) pl refl in
      locks s n me call d sound mine acc is about (at.Select selecting.Lock) pl dl (at.Select (select_from call))
      (λ u l debt.
      let none : flag w.left ≡ 0 = ap flag b.0 in
      to s n me call d sound mine acc is about s.table.entry u (at.Select (select_from call)) (λ _. (l ∙ b.0, b.1))
      (select_begins call d u about f (omega (arith, debt, z, none))))

  select_load_leaves : (e : Bool) → P (at.Select selecting.Load) → D (at.Select selecting.Load)
      → L (at.Select selecting.Load) (go (event.Load (call_number call) done_now)
      (at.Select (if e then selecting.Next 0 else selecting.Store)))
  select_load_leaves e pl dl = loads s n me call d sound mine acc is about (at.Select selecting.Load) pl dl refl refl
      (next.Go (at.Select (if e then selecting.Next 0 else selecting.Store)))
      (to s n me call d sound mine acc is about s.table.entry _ (at.Select
      (if e then selecting.Next 0 else selecting.Store))
      (bare s n me call d sound mine acc is about (at.Select selecting.Load) pl dl) (by e))
    where
      k : (is_await call ≡ false) × (w.debt ≡ 0)
      k = at_place s n me call d sound mine acc is about (at.Select selecting.Load) pl dl

      none : after_read done_now w.debt ≡ 0
      none = let b = read_debt done_now w.debt in let z = k.1 in omega (arith, b, z)

      by : (b : Bool) → DealtAt call (at.Select (if b then selecting.Next 0 else selecting.Store))
          (record { left = w.left; debt = after_read done_now w.debt; count = Some done_now })
      by true = (k.0, selects_none (after_read done_now w.debt) none)
      by false = (k.0, none)

  module _ (j : ℕ) (pl : P (at.Select (selecting.Next j))) (dl : D (at.Select (selecting.Next j))) where
    chosen : (is_await call ≡ false) × Selects call j w.debt
    chosen = at_place s n me call d sound mine acc is about (at.Select (selecting.Next j)) pl dl

    unqueued : (w.left ≡ false) × (stands_at (s.table.entry (own me)) h ≡ false)
    unqueued = bare s n me call d sound mine acc is about (at.Select (selecting.Next j)) pl dl chosen.0

    -- as many as it selects
    enough_debt : is_enough call j ≡ true → Selects call j w.debt → w.debt ≡ 0
    enough_debt e (inl none) =
        let some : not (j == 0) ≡ true = both_left (not (j == 0)) (j == count_of call) e in
        let is_count : (j == count_of call) ≡ true = both_right (not (j == 0)) (j == count_of call) e in
        absurd (elim (eqb_tells j 0) [
          | inl q ↦ clash (j == 0) q.0 (flipped (j == 0) some)
          | inr q ↦ elim (eqb_tells j (count_of call)) [
            | inl r ↦ q.1 (r.1 ∙ none)
            | inr r ↦ clash (j == count_of call) is_count r.0
          ]
        ])
    enough_debt e (inr k) =
        let some : not (j == 0) ≡ true = both_left (not (j == 0)) (j == count_of call) e in
        elim (eqb_tells j 0) [
          | inl q ↦ absurd (clash (j == 0) q.0 (flipped (j == 0) some))
          | inr q ↦ let l = k.1 in let ne = q.1 in omega (arith, l, ne)
        ]

    -- fewer
    one_more : is_enough call j ≡ false → Selects call j w.debt → Selected call (j + 1) w.debt
    one_more e (inl none) = inl none
    one_more e (inr k) = elim (eqb_tells j 0) [
      | inl q ↦ inr (k.0, (let z = q.1 in omega (arith, z)), (let l = k.1 in omega (arith, l)))
      | inr q ↦ absurd (elim (eqb_tells j (count_of call)) [
        | inl r ↦ clash (is_enough call j) (ap (λ (b : Bool). not b && (j == count_of call)) q.0 ∙ r.0) e
        | inr r ↦ r.1 (let l = k.1 in let ne = q.1 in let one = k.0 in omega (arith, l, ne, one))
      ])
    ]

    nobody : IsFirstFrom is_entry 0 (s.queue (call_head call)) None → ShowsNobody h v
    nobody first x lt = (sound.whole me h x held_now lt, hidden x lt (s.table.entry x) refl)
      where
        held_now : v.hold.head ≡ Some h
        held_now = held s n me call d sound mine acc is about (at.Select (selecting.Next j)) pl dl refl refl

        stands_none : (y : ℕ) → y < ENTRIES → (o : Option Entry) → s.table.entry y ≡ o → stands_at o h ≡ false
        stands_none y lt None q = refl
        stands_none y lt (Some e) q = by (head_of e.watch == h) refl
          where
            by : (b : Bool) → (head_of e.watch == h) ≡ b → (head_of e.watch == h) ≡ false
            by false r = r
            by true r = absurd (
                let there : IsIn (record { at = y; place = e.place }) (s.queue (head_of e.watch)) =
                entry_inside s.table.entry s.table.mark s.queue n sound.linked y e q in
                let at_head : head_of e.watch ≡ call_head call = (let g : head_of e.watch ≡ h = grind (arith, r) in
                g ∙ sym (head_is s n me call d sound mine acc is about)) in
                let small : nat_lt y ENTRIES ≡ true = grind (arith, nat_tests, lt) in
                let under = first (record { at = y; place = e.place })
                (subst (λ (i : ℕ). IsIn (record { at = y; place = e.place }) (s.queue i)) at_head there) small in
                omega (arith, under))

        hidden : (y : ℕ) → y < ENTRIES → (o : Option Entry) → s.table.entry y ≡ o
            → shows_at h (v.hold.book y) ≡ false
        hidden y lt o q = shows_none h (v.hold.book y) (s.table.entry y)
            (agrees s n me call d sound mine acc is about (at.Select (selecting.Next j)) pl dl refl refl y)
            (stands_none y lt (s.table.entry y) refl)

    select_next_leaves : (m : Option Member) → IsFirstFrom is_entry 0 (s.queue (call_head call)) m
        → is_enough call j ≡ false → (hit : Bool)
        → L (at.Select (selecting.Next j)) (select_next call j (called_by s.table.entry m) hit)
    select_next_leaves None first e hit = unlock_ends s n me call d sound mine acc is about (at.Select
        (selecting.Next j)) pl dl refl refl false
        (selected_answer call j) (inr (nobody first)) unqueued.1
    select_next_leaves (Some m) first e hit = by (s.table.entry m.at) refl
      where
        by : (o : Option Entry) → s.table.entry m.at ≡ o
            → L (at.Select (selecting.Next j)) (select_next call j (called_as (owner m.at) o) hit)
        by None q = absurd (
            let small : m.at < ENTRIES = (let t : is_entry m ≡ true = first.1 in grind (arith, nat_tests)) in
            let it = member_is s.table.entry s.table.mark s.queue n
            (call_head call) m sound.linked.ordered small first.0
            in
            absurd (none-some it.entry (sym q ∙ it.stands)))
        by (Some g) q = still s n me call d sound mine acc is about (at.Select (selecting.Next j)) pl dl _
            (tt, tt) refl refl
            (to s n me call d sound mine acc is about s.table.entry w (at.Select (selecting.Off (j + 1)
            (owner m.at))) (λ _. unqueued)
            (chosen.0, one_more e chosen.1))

    select_turn_leaves : (b : Bool) → is_enough call j ≡ b → (hit : Bool)
        → L (at.Select (selecting.Next j)) (if b then select_ends call j true
        else select_next call j (called_by s.table.entry (entry_from 0 (s.queue (call_head call)))) hit)
    select_turn_leaves true e hit = unlock_ends s n me call d sound mine acc is about (at.Select
        (selecting.Next j)) pl dl refl refl true
        (selected_answer call j) (inl (enough_debt e chosen.1)) unqueued.1
    select_turn_leaves false e hit = select_next_leaves (entry_from 0 (s.queue (call_head call)))
        (first_is is_entry 0 (s.queue (call_head call)) (sound.linked.ordered.order (call_head call))) e hit

  module _ (j who : ℕ) (pl : P (at.Select (selecting.Off j who))) (dl : D (at.Select (selecting.Off j who))) where
    taking : (is_await call ≡ false) × Selected call j w.debt
    taking = at_place s n me call d sound mine acc is about (at.Select (selecting.Off j who)) pl dl

    unqueued_here : (w.left ≡ false) × (stands_at (s.table.entry (own me)) h ≡ false)
    unqueued_here = bare s n me call d sound mine acc is about (at.Select (selecting.Off j who)) pl dl taking.0

    -- another task's entry
    others : (own who == own me) ≡ false
    others = elim (eqb_tells (own who) (own me)) [
      | inl q ↦ absurd (
          let t = pl.taken who refl in
          let at_head : head_of t.it.watch ≡ h = sym (known_is (Some (call_head call)) (call_head call)
          (head_of t.it.watch) refl t.head) ∙ head_is s n me call d sound mine acc is about in
          let there : stands_at (s.table.entry (own me)) h ≡ true =
          ap (λ (i : ℕ). stands_at (s.table.entry i) h) (sym q.1)
          ∙ ap (λ (o : Option Entry). stands_at o h) t.stands ∙ (grind (arith, at_head)) in
          clash (stands_at (s.table.entry (own me)) h) there unqueued_here.1)
      | inr q ↦ q.0
    ]

    off_selects : Selected call j w.debt → Selects call j (w.debt - flag (not (own who == own me)))
    off_selects (inl none) = inl none
    off_selects (inr k) = inr (
      k.0,
      (
          let one : flag (not (own who == own me)) ≡ 1 = ap (λ (b : Bool). flag (not b)) others in
          let a = k.1 in
          let b = k.2 in
          omega (arith, one, a, b)),
    )

    select_off_leaves : L (at.Select (selecting.Off j who)) (go (event.Unqueue who) (at.Select (selecting.Next j)))
    select_off_leaves = record {
      hands = (tt, tt);
      leads = to s n me call d sound mine acc is about (put s.table.entry (own who) None) (deals d (own me) v w
          (step.Unqueue (own who)))
          (at.Select (selecting.Next j))
          (λ _. (
            unqueued_here.0,
            put_at (λ (o : Option Entry). stands_at o h ≡ false) s.table.entry (own who) None (own me)
                (λ _. refl) (λ _. unqueued_here.1),
          ))
          (taking.0, off_selects taking.1);
    }

  select_leaves : (p : SelectPoint) → P (at.Select p) → D (at.Select p)
      → L (at.Select p) (planned s me call (at.Select p))
  select_leaves selecting.Lock pl dl = select_lock_leaves pl dl
  select_leaves selecting.Load pl dl = select_load_leaves (is_at_end done_now) pl dl
  select_leaves selecting.Store pl dl =
      let k = at_place s n me call d sound mine acc is about (at.Select selecting.Store) pl dl in
      stores s n me call d sound mine acc is about (at.Select selecting.Store) pl dl (completed call done_now)
      (next.Go (at.Select (selecting.Next 0)))
      (to s n me call d sound mine acc is about s.table.entry _ (at.Select (selecting.Next 0))
      (bare s n me call d sound mine acc is about (at.Select selecting.Store) pl dl)
      (k.0, completes call d done_now w about k.1))
  select_leaves (selecting.Next j) pl dl = select_turn_leaves j pl dl (is_enough call j) refl
      (meets (mask_of mode.Normal)
      (s.table.task (called_task (called_by s.table.entry (entry_from 0 (s.queue (call_head call)))))).state)
  select_leaves (selecting.Off j who) pl dl = select_off_leaves j who pl dl

  -- a look at the count, or a take
  module _ (p : Point) (within : holds p ≡ true) (head : head_at call p ≡ call_head call) (pl : P p) (dl : D p)
      (k : (is_await call ≡ false) × (w.debt ≡ 0)) where
    count_loads : (q : CountPoint) → DealtAt call (at.Count q)
        (record { left = w.left; debt = after_read done_now w.debt; count = Some done_now })
        → L p (go (event.Load (call_number call) done_now) (at.Count q))
    count_loads q at_next = loads s n me call d sound mine acc is about p pl dl within head (next.Go (at.Count q))
        (to s n me call d sound mine acc is about s.table.entry _ (at.Count q)
        (bare s n me call d sound mine acc is about p pl dl) at_next)

    count_none : after_read done_now w.debt ≡ 0
    count_none = let b = read_debt done_now w.debt in let z = k.1 in omega (arith, b, z)

    count_load_leaves : (b e : Bool) → L p (go (event.Load (call_number call) done_now) (at.Count (if b
        then counting.Unlock false else (if e then counting.Unlock true else counting.Store))))
    count_load_leaves true e = count_loads (counting.Unlock false) (k.0, count_none)
    count_load_leaves false true = count_loads (counting.Unlock true) (k.0, count_none)
    count_load_leaves false false = count_loads counting.Store (k.0, count_none)

    count_store_leaves : (value : ℕ) (hit : Bool) → value ≤ done_now
        → L p (go (event.Set (call_number call) value) (at.Count (counting.Unlock hit)))
    count_store_leaves value hit le = stores s n me call d sound mine acc is about p pl dl value (next.Go (at.Count
        (counting.Unlock hit)))
        (to s n me call d sound mine acc is about s.table.entry _ (at.Count (counting.Unlock hit))
        (bare s n me call d sound mine acc is about p pl dl)
        (k.0, (let b = stored_debt value done_now w.debt in let z = k.1 in omega (arith, b, z, le))))

  count_peek_leaves : (b : Bool) → P (at.Count counting.Peek) → D (at.Count counting.Peek)
      → L (at.Count counting.Peek) (if b then ends_with (event.Load (call_number call) done_now) zero_answer
      else go (event.Load (call_number call) done_now) (at.Count counting.Lock))
  count_peek_leaves b pl dl = by b
    where
      f : is_await call ≡ false
      f = at_place s n me call d sound mine acc is about (at.Count counting.Peek) pl dl

      away : is_in d v ≡ false
      away = ap (λ (o : Option ℕ). holding o h) pl.head

      after_it : Dealt
      after_it = record { left = w.left; debt = after_read done_now w.debt; count = w.count }

      peeked : (x : Next) → IsDealt d s.table.entry me (progress_at call x) after_it
          → L (at.Count counting.Peek) (record { event = event.Load (call_number call) done_now; next = x })
      peeked x k = record {
        hands = (tt, tt);
        leads = subst (λ (u : Dealt). IsDealt d s.table.entry me (progress_at call x) u)
            (sym (load_outside d (own me) v w (call_watch call) done_now is away)) k;
      }

      by : (t : Bool) → L (at.Count counting.Peek) (if t
          then ends_with (event.Load (call_number call) done_now) zero_answer
          else go (event.Load (call_number call) done_now) (at.Count counting.Lock))
      by true =
          let u = bare s n me call d sound mine acc is about (at.Count counting.Peek) pl dl f in
          let r = read_debt done_now w.debt in
          let z = out_debt s n me call d sound mine acc is about (at.Count counting.Peek) pl refl in
          peeked (next.Ends zero_answer) (ends s n me call d sound mine acc is about s.table.entry after_it u.0 u.1
          (omega (arith, r, z)))
      by false = peeked (next.Go (at.Count counting.Lock))
          (to s n me call d sound mine acc is about s.table.entry after_it (at.Count counting.Lock)
          (bare s n me call d sound mine acc is about (at.Count counting.Peek) pl dl) f)

  count_lock_leaves : P (at.Count counting.Lock) → D (at.Count counting.Lock) → L (at.Count counting.Lock)
      (go (event.Lock (call_head call)) (at.Count (count_from call)))
  count_lock_leaves pl dl =
      let f = at_place s n me call d sound mine acc is about (at.Count counting.Lock) pl dl in
      let b = bare s n me call d sound mine acc is about (at.Count counting.Lock) pl dl f in
      let z = out_debt s n me call d sound mine acc is about (at.Count counting.Lock) pl refl in
      locks s n me call d sound mine acc is about (at.Count counting.Lock) pl dl (at.Count (count_from call))
      (λ u l debt.
      let none : flag w.left ≡ 0 = ap flag b.0 in
      to s n me call d sound mine acc is about s.table.entry u (at.Count (count_from call)) (λ _. (l ∙ b.0, b.1))
      (count_begins call u f (omega (arith, debt, z, none))))

  less : (b : Bool) → (if b then taken_done (done_in done_now) else 0) ≤ done_now
  less true = taken_most done_now
  less false = omega arith

  count_leaves : (p : CountPoint) → P (at.Count p) → D (at.Count p)
      → L (at.Count p) (planned s me call (at.Count p))
  count_leaves counting.Peek pl dl = count_peek_leaves (done_now == 0) pl dl
  count_leaves counting.Lock pl dl = count_lock_leaves pl dl
  count_leaves counting.Load pl dl = count_load_leaves (at.Count counting.Load) refl refl pl dl
      (at_place s n me call d sound mine acc is about (at.Count counting.Load) pl dl) (done_now == 0)
      (is_at_end done_now)
  count_leaves counting.Store pl dl = count_store_leaves (at.Count counting.Store) refl refl pl dl
      (at_place s n me call d sound mine acc is about (at.Count counting.Store) pl dl)
      (if takes call then taken_done (done_in done_now) else 0) (takes call)
      (less (takes call))
  count_leaves (counting.Unlock hit) pl dl =
      let k = at_place s n me call d sound mine acc is about (at.Count (counting.Unlock hit)) pl dl in
      unlock_ends s n me call d sound mine acc is about (at.Count (counting.Unlock hit)) pl dl refl refl false _
      (inl k.1)
      (bare s n me call d sound mine acc is about (at.Count (counting.Unlock hit)) pl dl k.0).1

  pub program_leaves : (p : Point) → IsCallSound n call p → P p → D p → L p (planned s me call p)
  program_leaves (at.Prepare p) k pl dl = prepare_leaves s n me call d sound mine acc is about p pl dl
  program_leaves at.Sleep k pl dl = sleep_leaves s n me call d sound mine acc is about pl dl
  program_leaves (at.Await p) k pl dl = await_leaves s n me call d sound mine acc is about k.fitted p pl dl
  program_leaves (at.Select p) k pl dl = select_leaves p pl dl
  program_leaves (at.Count p) k pl dl = count_leaves p pl dl
  program_leaves p k pl dl = absurd (at_place s n me call d sound mine acc is about p pl dl)
