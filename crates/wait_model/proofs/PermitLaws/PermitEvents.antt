-- Each event of a call about a completion meets the conditions on permits, and leads to the next place.
use Rattle.std.proofs.Common.{refl, sym, ◌∙◌, ap, subst, arith, inl, inr}
use Rattle.std.proofs.lemmas.Bool.Decides.{eqb_tells}
use Rattle.std.specs.Prelude.{ℕ, ◌≡◌, ◌≢◌, ◌+◌, ◌<◌, ◌≤◌, ◌⊎◌, Bool, true, false, not, ◌&&◌, ◌==◌, if◌then◌else◌}
use Rattle.std.specs.Prelude.{is_some, Option, Some, None, List, [], ◌∷◌}
use Rattle.wait_model.specs.{declared.calls.Call.Call, declared.calls.Answer.Answer}
use Rattle.wait_model.specs.{declared.points.AwaitPoint.AwaitPoint, declared.points.Next.Next}
use Rattle.wait_model.specs.{declared.points.Planned.Planned, declared.points.Point.Point}
use Rattle.wait_model.specs.{declared.points.PreparePoint.PreparePoint, declared.steps.Step.Step}
use Rattle.wait_model.specs.{declared.watches.Entry.Entry, Counts.taken_done, Facts.Agrees, PermitFacts.IsAccounted}
use Rattle.wait_model.specs.{PermitFacts.dealt_in, Queues.place_for, Fold.holding, Functions.put, Words.flag}
use Rattle.wait_model.specs.Words.{head_word}
use Rattle.wait_model.specs.declared.layout.TheConstants.{TASKS, ENTRIES, ALL_DONE}
use Rattle.wait_model.specs.Permits.{Dealt, HandsOnOf, after_read, after_store, deals, deals_all, done_head, is_in}
use Rattle.wait_model.specs.Permits.{shows_at, ShowsNobody}
use Rattle.wait_model.specs.PermitPlaces.{AllHandOn, DealtAt, IsDealt, Selects, Settles, is_about}
use Rattle.wait_model.specs.Points.{call_head, call_number, call_watch, count_of, form_of, given_at, head_at, is_await}
use Rattle.wait_model.specs.Points.{is_bit_wait, state_in}
use Rattle.wait_model.specs.Programs.{await_after, completed, count_from, done_in, ends_with, go, is_at_end}
use Rattle.wait_model.specs.Programs.{prepared_at, select_from, signalled, signalled_at, slept_at, zero_answer}
use Rattle.wait_model.specs.Reached.{IsHome, IsPlaced, IsSound, absent, holds}
use Rattle.wait_model.specs.Runs.{State, entry_for, event_steps, is_publishing, looks, own, planned, progress_at}
use Rattle.wait_model.specs.Runs.{set_step}
use Rattle.wait_model.specs.Tables.{next, steps, value_of}
use Rattle.wait_model.specs.Tasks.{looks_in, pending, state_mask}
use Rattle.wait_model.specs.Views.{Look, View, shown}
use Rattle.wait_model.specs.Watches.{head_of, same, stands_at}
use Rattle.wait_model.specs.declared.calls.Call.TheVariants as calls
use Rattle.wait_model.specs.declared.calls.Event.TheVariants as event
use Rattle.wait_model.specs.declared.points.AwaitPoint.TheVariants as awaiting
use Rattle.wait_model.specs.declared.points.Next.TheVariants as next
use Rattle.wait_model.specs.declared.points.Point.TheVariants as at
use Rattle.wait_model.specs.declared.points.PreparePoint.TheVariants as preparing
use Rattle.wait_model.specs.declared.points.Progress.TheVariants as now
use Rattle.wait_model.specs.declared.steps.Step.TheVariants as step
use Rattle.wait_model.specs.declared.watches.Watch.TheVariants as watch
use Rattle.wait_model.proofs.{HistoryLaws.HoldLooks.looks_same, RunLaws.FineEvents.none_there}
use Rattle.wait_model.proofs.WordLaws.CondWords.{set_rest}
use Rattle.wait_model.proofs.PermitLaws.CountDebts.{IsLocked, at_end_large, load_about, locked, looks_hand, raised_most}
use Rattle.wait_model.proofs.PermitLaws.CountDebts.{read_debt, read_end, set_about, stored_debt, taken_one}
use Rattle.wait_model.proofs.PermitLaws.OwnTurns.{clash, flag_small, held_is}

-- a book that shows an entry at the head tells that it stands there
pub shows_stands : (h : ℕ) (l : Look) (o : Option Entry) → Agrees h l o → shows_at h l ≡ true → stands_at o h ≡ true
shows_stands h (shown e) o ag sh = ap (λ (p : Option Entry). stands_at p h) ag.0 ∙ sh
shows_stands h _ o ag sh = absurd (cc)

pub shows_none : (h : ℕ) (l : Look) (o : Option Entry) → Agrees h l o → stands_at o h ≡ false → shows_at h l ≡ false
shows_none h l o ag st = by (shows_at h l) refl
  where
    by : (b : Bool) → shows_at h l ≡ b → shows_at h l ≡ false
    by false q = q
    by true q = absurd (clash (stands_at o h) (shows_stands h l o ag q) st)

pub flipped : (b : Bool) → not b ≡ true → b ≡ false
flipped true h = absurd (cc)
flipped false h = refl

-- where a wait for a completion goes
await_points : (call : Call) → is_await call ≡ true → (signalled_at call ≡ at.Await (awaiting.Run true))
    × (prepared_at call ≡ at.Sleep) × (slept_at call ≡ at.Await (awaiting.Lock true))
await_points (calls.WaitFor d st) h = (refl, refl, refl)
await_points call h = absurd (cc)

-- how many entries a call about a completion selects
pub count_cases : (call : Call) (d : ℕ) → is_about d call ≡ true → (count_of call ≡ 0) ⊎ (count_of call ≡ 1)
count_cases (calls.Complete c) d h = inr refl
count_cases calls.Remove d h = inl refl
count_cases call d h = grind arith

pub select_begins : (call : Call) (d : ℕ) (w : Dealt) → is_about d call ≡ true → is_await call ≡ false → w.debt ≡ 0
    → DealtAt call (at.Select (select_from call)) w
select_begins (calls.Complete c) d w h f z = (f, z)
select_begins (calls.CompleteAll c) d w h f z = (f, z)
select_begins calls.Remove d w h f z = absurd (cc)
select_begins call d w h f z = (
  f,
  elim (count_cases call d h) [
    | inl q ↦ inl q
    | inr q ↦ inr (q, omega (arith, z))
  ],
)

pub count_begins : (call : Call) (w : Dealt) → is_await call ≡ false → w.debt ≡ 0
    → DealtAt call (at.Count (count_from call)) w
count_begins (calls.TryWait d) w f z = (f, z)
count_begins (calls.Reinit d) w f z = (f, z)
count_begins call w f z = (f, z)

-- what a `complete` makes
pub completes : (call : Call) (d value : ℕ) (w : Dealt) → is_about d call ≡ true → w.debt ≡ 0
    → Selects call 0 (after_store (completed call value) value w.debt)
completes (calls.CompleteAll c) d value w h z = inl refl
completes calls.Remove d value w h z = absurd (cc)
completes call d value w h z = elim (count_cases call d h) [
  | inl q ↦ inl q
  | inr q ↦ inr (
    q,
    (
        let s = stored_debt (completed call value) value w.debt in
        let r = raised_most value in
        omega (arith, s, r, z)),
  )
]

module _ (s : State) (n me : ℕ) (call : Call) (d : ℕ) (sound : IsSound s n) (mine : me < TASKS)
    (acc : IsAccounted s.table) (is : call_watch call ≡ watch.Done d) (about : is_about d call ≡ true) where
  abbrev v : View
  v = s.table.view me

  abbrev w : Dealt
  w = dealt_in s.table d me

  abbrev h : ℕ
  h = done_head d

  abbrev done_now : ℕ
  done_now = value_of s.table.words (call_watch call)

  abbrev P : Point → Type 0
  P p = IsPlaced s.table.entry (s.table.view me) me (now.Open call p)

  abbrev D : Point → Type 0
  D p = IsDealt d s.table.entry me (now.Open call p) (dealt_in s.table d me)

  -- what an event does, and what it leaves
  pub record Leaves (p : Point) (x : Planned) : Type 0 where
    pub hands : AllHandOn d s.table me (event_steps s me (given_at call p) x.event)
    pub leads : IsDealt d (steps s.table me (event_steps s me (given_at call p) x.event)).entry me
        (progress_at call x.next) (deals_all d (own me) (s.table.view me) (dealt_in s.table d me)
        (event_steps s me (given_at call p) x.event))

  -- to a next point, and to the call's end
  pub to : (entry : ℕ → Option Entry) (u : Dealt) (q : Point)
      → (is_await call ≡ false → (u.left ≡ false) × (stands_at (entry (own me)) h ≡ false)) → DealtAt call q u
      → IsDealt d entry me (now.Open call q) u
  to entry u q bare place = record {
    bare = λ f. bare (sym (by (is_await call)) ∙ ap (λ (b : Bool). is_await call && b) (sym about) ∙ f);
    calm = λ f. absurd (clash (is_about d call) about f);
    place = λ _. place;
  }
    where
      by : (b : Bool) → (b && true) ≡ b
      by true = refl
      by false = refl

  pub ends : (entry : ℕ → Option Entry) (u : Dealt) → u.left ≡ false → stands_at (entry (own me)) h ≡ false → u.debt ≡ 0
      → IsDealt d entry me now.Idle u
  ends entry u left stands debt = record { bare = λ _. (left, stands); calm = λ _. debt; place = tt }

  pub head_is : call_head call ≡ h
  head_is = ap head_of is

  head_same : (call_head call == h) ≡ true
  head_same = let q = head_is in grind (arith, q)

  value_is : done_now ≡ s.table.words.dones d
  value_is = ap (value_of s.table.words) is

  value_known : (r : ℕ) → w.count ≡ Some r → done_now ≡ r
  value_known r c = value_is ∙ (acc.exact d).known me r c

  own_small : own me < ENTRIES
  own_small = omega (arith, mine)

  -- nobody stands at the own place
  none_stands : (o : Option Entry) → o ≡ None → stands_at o h ≡ false
  none_stands o q = ap (λ (p : Option Entry). stands_at p h) q

  absent_none : (o : Option Entry) → IsHome absent (call_watch call) o → o ≡ None
  absent_none None k = refl
  absent_none (Some e) k = absurd k

  module _ (p : Point) (pl : P p) (dl : D p) where
    pub at_place : DealtAt call p w
    at_place = dl.place about

    pub bare : is_await call ≡ false → (w.left ≡ false) × (stands_at (s.table.entry (own me)) h ≡ false)
    bare f = dl.bare (ap (λ (b : Bool). b && is_about d call) f)

    -- a step that changes neither entries nor what is known
    pub still : (x : Planned) → AllHandOn d s.table me (event_steps s me (given_at call p) x.event)
        → (steps s.table me (event_steps s me (given_at call p) x.event)).entry ≡ s.table.entry
        → deals_all d (own me) v w (event_steps s me (given_at call p) x.event) ≡ w
        → IsDealt d s.table.entry me (progress_at call x.next) w → Leaves p x
    still x hands entry same k = record {
      hands = hands;
      leads = subst (λ (f : ℕ → Option Entry). IsDealt d f me (progress_at call x.next)
          (deals_all d (own me) v w (event_steps s me (given_at call p) x.event))) (sym entry)
          (subst (λ (u : Dealt). IsDealt d s.table.entry me (progress_at call x.next) u) (sym same) k);
    }

    module _ (within : holds p ≡ true) (head : head_at call p ≡ call_head call) where
      pub held : v.hold.head ≡ Some h
      held = pl.head ∙ ap (λ (b : Bool). if b then Some (head_at call p) else None) within
          ∙ ap (λ (i : ℕ). Some i) (head ∙ head_is)

      inside : is_in d v ≡ true
      inside = held_is v.hold.head h h held ∙ same
        where
          same : (h == h) ≡ true
          same = grind arith

      pub agrees : (y : ℕ) → Agrees h (v.hold.book y) (s.table.entry y)
      agrees y = (sound.kept.facts.views me).hold.agrees h y held

      -- the unlock
      unlock_hands : (spent : Bool) → (w.debt ≡ 0) ⊎ ShowsNobody h v
          → AllHandOn d s.table me (step.Unlock (call_head call) spent ∷ [])
      unlock_hands spent owes = (λ q. (λ l. sound.whole me h (own me) held own_small, owes), tt)

      unlock_debt : (b : Bool) → b ≡ true → (if b then 0 else w.debt) ≡ 0
      unlock_debt b q = ap (λ (t : Bool). if t then 0 else w.debt) q

      unlock_left : stands_at (s.table.entry (own me)) h ≡ false
          → (if call_head call == h then shows_at h (v.hold.book (own me)) else w.left) ≡ false
      unlock_left st = ap (λ (t : Bool). if t then shows_at h (v.hold.book (own me)) else w.left) head_same
          ∙ shows_none h (v.hold.book (own me)) (s.table.entry (own me)) (agrees (own me)) st

      pub unlock_ends : (spent : Bool) (a : Answer) → (w.debt ≡ 0) ⊎ ShowsNobody h v
          → stands_at (s.table.entry (own me)) h ≡ false → Leaves p (ends_with (event.Unlock (call_head call) spent) a)
      unlock_ends spent a owes st = record {
        hands = unlock_hands spent owes;
        leads = ends s.table.entry (deals d (own me) v w (step.Unlock (call_head call) spent)) (unlock_left st) st
            (unlock_debt (call_head call == h) head_same);
      }

      -- a load of the count
      pub loads : (x : Next) → IsDealt d s.table.entry me (progress_at call x)
          (record { left = w.left; debt = after_read done_now w.debt; count = Some done_now })
          → Leaves p (record { event = event.Load (call_number call) done_now; next = x })
      loads x k = record {
        hands = (tt, tt);
        leads = subst (λ (u : Dealt). IsDealt d s.table.entry me (progress_at call x) u)
            (sym (load_about d (own me) v w (call_watch call) done_now is inside)) k;
      }

    -- a store of the count
    pub stores : (value : ℕ) (x : Next) → IsDealt d s.table.entry me (progress_at call x)
        (record { left = w.left; debt = after_store value done_now w.debt; count = Some value })
        → Leaves p (record { event = event.Set (call_number call) value; next = x })
    stores value x k = record {
      hands = (by (is_publishing (call_watch call) done_now value), tt);
      leads = subst (λ (f : ℕ → Option Entry). IsDealt d f me (progress_at call x)
          (deals d (own me) v w (set_step (call_watch call) value done_now)))
          (sym (set_rest s.table me (call_watch call) value done_now).entry)
          (subst (λ (u : Dealt). IsDealt d s.table.entry me (progress_at call x) u)
          (sym (set_about d (own me) v w (call_watch call) value done_now is)) k);
    }
      where
        by : (b : Bool) → HandsOnOf d me v w (if b then step.Publish (call_watch call) value done_now
            else step.Consume (call_watch call) value done_now)
        by true = tt
        by false = tt

    -- a lock, with its looks
    abbrev lock_steps : List Step
    lock_steps = step.Lock (call_head call) (given_at call p).walk
        (head_word (s.table.holder (call_head call)) (s.table.spent (call_head call))) ∷ looks s.table.entry

    pub locks : (q : Point) → ((u : Dealt) → u.left ≡ w.left → u.debt ≤ w.debt + flag w.left
        → IsDealt d s.table.entry me (now.Open call q) u) → Leaves p (go (event.Lock (call_head call)) q)
    locks q k = record {
      hands = (
        tt,
        looks_hand d s.table.entry (next s.table me (step.Lock (call_head call) (given_at call p).walk
            (head_word (s.table.holder (call_head call)) (s.table.spent (call_head call))))) me,
      );
      leads = subst (λ (f : ℕ → Option Entry). IsDealt d f me (now.Open call q)
          (deals_all d (own me) v w lock_steps))
          (sym (looks_same (next s.table me (step.Lock (call_head call) (given_at call p).walk
          (head_word (s.table.holder (call_head call)) (s.table.spent (call_head call))))) s.table.entry me).entry)
          (k (deals_all d (own me) v w lock_steps) l.left l.debt);
    }
      where
        l : IsLocked (deals_all d (own me) v w lock_steps) w
        l = locked d (own me) (call_head call) (given_at call p).walk
            (head_word (s.table.holder (call_head call)) (s.table.spent (call_head call))) s.table.entry v w

  -- outside of holds nothing is owed
  pub out_debt : (p : Point) → P p → holds p ≡ false → w.debt ≡ 0
  out_debt p pl out = ((acc.exact d).quiet me (ap (λ (o : Option ℕ). holding o h)
      (pl.head ∙ ap (λ (b : Bool). if b then Some (head_at call p) else None) out))).0

  -- a wait for the completion prepares
  prepare_queue_leaves : (b : Bool) → P (at.Prepare preparing.Queue) → D (at.Prepare preparing.Queue)
      → Leaves (at.Prepare preparing.Queue) (if b
      then go (event.State (state_mask (state_in call))) (at.Prepare preparing.Unlock)
      else go (event.Queue (call_head call) (form_of call)) (at.Prepare preparing.State))
  prepare_queue_leaves true pl dl =
      let k = at_place (at.Prepare preparing.Queue) pl dl in
      still (at.Prepare preparing.Queue) pl dl _ (tt, tt) refl refl (to s.table.entry w (at.Prepare preparing.Unlock)
      (λ f. absurd (clash (is_await call) k.0 f)) (k.0, k.1))
  prepare_queue_leaves false pl dl =
      let k = at_place (at.Prepare preparing.Queue) pl dl in
      record {
        hands = ((λ q. (refl, k.2)), tt);
        leads = to (put s.table.entry (own me) (Some (entry_for (given_at call (at.Prepare preparing.Queue))
            (form_of call)
            (place_for (form_of call) (s.queue (call_head call)))))) w (at.Prepare preparing.State)
            (λ f. absurd (clash (is_await call) k.0 f)) (k.0, k.1);
      }

  prepare_look_leaves : (hit : Bool) → P (at.Prepare preparing.Look) → D (at.Prepare preparing.Look)
      → Leaves (at.Prepare preparing.Look) (go (event.Look hit)
      (if hit then signalled_at call else at.Prepare preparing.Queue))
  prepare_look_leaves true pl dl =
      let k = at_place (at.Prepare preparing.Look) pl dl in
      still (at.Prepare preparing.Look) pl dl _ (tt, tt) refl refl (to s.table.entry w (signalled_at call)
      (λ f. absurd (clash (is_await call) k.0 f))
      (subst (λ (q : Point). DealtAt call q w) (sym (await_points call k.0).0) k.1))
  prepare_look_leaves false pl dl =
      let k = at_place (at.Prepare preparing.Look) pl dl in
      still (at.Prepare preparing.Look) pl dl _ (tt, tt) refl refl (to s.table.entry w (at.Prepare preparing.Queue)
      (λ f. absurd (clash (is_await call) k.0 f)) k)

  pub prepare_leaves : (p : PreparePoint) → P (at.Prepare p) → D (at.Prepare p)
      → Leaves (at.Prepare p) (planned s me call (at.Prepare p))
  prepare_leaves preparing.Lock pl dl = absurd (at_place (at.Prepare preparing.Lock) pl dl)
  prepare_leaves preparing.Look pl dl = prepare_look_leaves (pending (state_mask (state_in call))
      (s.table.task me)) pl dl
  prepare_leaves preparing.Queue pl dl = prepare_queue_leaves (is_some (s.table.entry (own me))) pl dl
  prepare_leaves preparing.State pl dl =
      let k = at_place (at.Prepare preparing.State) pl dl in
      still (at.Prepare preparing.State) pl dl _ (tt, tt) refl refl (to s.table.entry w (at.Prepare preparing.Unlock)
      (λ f. absurd (clash (is_await call) k.0 f)) k)
  prepare_leaves preparing.Unlock pl dl =
      let k = at_place (at.Prepare preparing.Unlock) pl dl in
      record {
        hands = unlock_hands (at.Prepare preparing.Unlock) pl dl refl refl false (inl k.1);
        leads = to s.table.entry (deals d (own me) v w (step.Unlock (call_head call) false)) (prepared_at call)
            (λ f. absurd (clash (is_await call) k.0 f))
            (subst (λ (q : Point). DealtAt call q (deals d (own me) v w (step.Unlock (call_head call) false)))
            (sym (await_points call k.0).1) k.0);
      }

  pub sleep_leaves : P at.Sleep → D at.Sleep → Leaves at.Sleep (planned s me call at.Sleep)
  sleep_leaves pl dl =
      let k = at_place at.Sleep pl dl in
      still at.Sleep pl dl _ (tt, tt) refl refl (to s.table.entry w (slept_at call)
      (λ f. absurd (clash (is_await call) k f))
      (subst (λ (q : Point). DealtAt call q w) (sym (await_points call k).2) tt))

  -- what is settled stays so
  settles_same : (b : Bool) (u : Dealt) → u.debt ≡ w.debt → u.count ≡ w.count → Settles b w → Settles b u
  settles_same true u q c k = q ∙ k
  settles_same false u q c k = (
    let l = k.0 in omega (arith, q, l),
    (k.1.0, c ∙ k.1.1, k.1.2, λ large. q ∙ k.1.3 large),
  )

  module _ (wait : is_await call ≡ true) where
    never : {A : Type 0} → is_await call ≡ false → A
    never f = absurd (clash (is_await call) wait f)

    await_lock_leaves : (waited : Bool) → P (at.Await (awaiting.Lock waited)) → D (at.Await (awaiting.Lock waited))
        → Leaves (at.Await (awaiting.Lock waited)) (go (event.Lock (call_head call)) (at.Await (awaiting.Load waited)))
    await_lock_leaves waited pl dl = locks (at.Await (awaiting.Lock waited)) pl dl (at.Await (awaiting.Load waited))
        (λ u l b. to s.table.entry u (at.Await (awaiting.Load waited)) never
        (let z = out_debt (at.Await (awaiting.Lock waited)) pl refl in
        let one = flag_small w.left in
        omega (arith, b, z, one)))

    await_prepares : (waited c : Bool) → done_now ≡ 0 → P (at.Await (awaiting.Load waited))
        → D (at.Await (awaiting.Load waited)) → Leaves (at.Await (awaiting.Load waited))
        (go (event.Load (call_number call) done_now) (at.Prepare (if c then preparing.Look else preparing.Queue)))
    await_prepares waited c zero pl dl = loads (at.Await (awaiting.Load waited)) pl dl refl refl
        (next.Go (at.Prepare (if c then preparing.Look else preparing.Queue)))
        (to s.table.entry _ (at.Prepare (if c then preparing.Look else preparing.Queue)) never (by c))
      where
        none : after_read done_now w.debt ≡ 0
        none = ap (λ (r : ℕ). after_read r w.debt) zero

        by : (b : Bool) → DealtAt call (at.Prepare (if b then preparing.Look else preparing.Queue))
            (record { left = w.left; debt = after_read done_now w.debt; count = Some done_now })
        by true = (wait, none, ap (λ (r : ℕ). Some r) zero)
        by false = (wait, none, ap (λ (r : ℕ). Some r) zero)

    await_finds : (waited : Bool) → done_now ≢ 0 → P (at.Await (awaiting.Load waited))
        → D (at.Await (awaiting.Load waited)) → Leaves (at.Await (awaiting.Load waited))
        (go (event.Load (call_number call) done_now) (at.Await
        (if waited then awaiting.Run false else awaiting.Last false)))
    await_finds waited some pl dl = loads (at.Await (awaiting.Load waited)) pl dl refl refl
        (next.Go (at.Await (if waited then awaiting.Run false else awaiting.Last false)))
        (to s.table.entry _ (at.Await (if waited then awaiting.Run false else awaiting.Last false)) never (by waited))
      where
        abbrev_debt : w.debt ≤ 1
        abbrev_debt = at_place (at.Await (awaiting.Load waited)) pl dl

        settles : Settles false (record { left = w.left; debt = after_read done_now w.debt; count = Some done_now })
        settles = (
          let b = read_debt done_now w.debt in let c = abbrev_debt in omega (arith, b, c),
          (done_now, refl, some, λ large. read_end done_now w.debt large abbrev_debt),
        )

        by : (b : Bool) → DealtAt call (at.Await (if b then awaiting.Run false else awaiting.Last false))
            (record { left = w.left; debt = after_read done_now w.debt; count = Some done_now })
        by true = settles
        by false = settles

    await_load_leaves : (waited b : Bool) → (((done_now == 0) ≡ true) × (done_now ≡ 0)) ⊎
        (((done_now == 0) ≡ false) × (done_now ≢ 0))
        → P (at.Await (awaiting.Load waited)) → D (at.Await (awaiting.Load waited))
        → Leaves (at.Await (awaiting.Load waited))
        (go (event.Load (call_number call) done_now) (await_after call waited (done_now == 0)))
    await_load_leaves waited b (inl q) pl dl = subst (λ (t : Bool). Leaves (at.Await (awaiting.Load waited))
        (go (event.Load (call_number call) done_now) (await_after call waited t))) (sym q.0)
        (await_prepares waited (not (is_bit_wait call) && looks_in (state_in call)) q.1 pl dl)
    await_load_leaves waited b (inr q) pl dl = subst (λ (t : Bool). Leaves (at.Await (awaiting.Load waited))
        (go (event.Load (call_number call) done_now) (await_after call waited t))) (sym q.0)
        (await_finds waited q.1 pl dl)

    -- its end, where the own entry is off
    module _ (p : Point) (within : holds p ≡ true) (head : head_at call p ≡ call_head call) (pl : P p) (dl : D p)
        (off : s.table.entry (own me) ≡ None) where
      await_stops : Settles true w → Leaves p (ends_with (event.Unlock (call_head call) false) signalled)
      await_stops k = unlock_ends p pl dl within head false signalled (inl k)
          (none_stands (s.table.entry (own me)) off)

      await_takes : (e : Bool) → is_at_end done_now ≡ e → Settles false w → Leaves p
          (if e then ends_with (event.Unlock (call_head call) false) zero_answer
          else go (event.Set (call_number call) (taken_done (done_in done_now))) (at.Await awaiting.Unlock))
      await_takes true q k = unlock_ends p pl dl within head false zero_answer
          (inl (k.1.3 (subst (λ (r : ℕ). ALL_DONE ≤ r) (value_known k.1.0 k.1.1) (at_end_large done_now q))))
          (none_stands (s.table.entry (own me)) off)
      await_takes false q k = stores p pl dl (taken_done (done_in done_now)) (next.Go (at.Await awaiting.Unlock))
          (to s.table.entry _ (at.Await awaiting.Unlock) never (
          let known = value_known k.1.0 k.1.1 in
          let one = taken_one done_now (λ z. k.1.2 (sym known ∙ z)) q in
          let b = stored_debt (taken_done (done_in done_now)) done_now w.debt in
          let l = k.0 in
          omega (arith, one, b, l)))

    await_off_leaves : (stopped b : Bool) → is_some (s.table.entry (own me)) ≡ b
        → P (at.Await (awaiting.Off stopped)) → D (at.Await (awaiting.Off stopped))
        → Leaves (at.Await (awaiting.Off stopped)) (if b then go (event.Unqueue me) (at.Await (awaiting.Last stopped))
        else (if stopped then ends_with (event.Unlock (call_head call) false) signalled
        else (if is_at_end done_now then ends_with (event.Unlock (call_head call) false) zero_answer
        else go (event.Set (call_number call) (taken_done (done_in done_now))) (at.Await awaiting.Unlock))))
    await_off_leaves stopped true q pl dl = record {
      hands = (tt, tt);
      leads = to (put s.table.entry (own me) None) (deals d (own me) v w (step.Unqueue (own me)))
          (at.Await (awaiting.Last stopped)) never (settles_same stopped (deals d (own me) v w (step.Unqueue (own me)))
          (omega (arith, same)) refl (at_place (at.Await (awaiting.Off stopped)) pl dl));
    }
      where
        same : flag (not (own me == own me)) ≡ 0
        same = grind arith
    await_off_leaves true false q pl dl = await_stops (at.Await (awaiting.Off true)) refl refl pl dl
        (none_there (s.table.entry (own me)) q) (at_place (at.Await (awaiting.Off true)) pl dl)
    await_off_leaves false false q pl dl = await_takes (at.Await (awaiting.Off false)) refl refl pl dl
        (none_there (s.table.entry (own me)) q) (is_at_end done_now) refl (at_place (at.Await
        (awaiting.Off false)) pl dl)

    pub await_leaves : (p : AwaitPoint) → P (at.Await p) → D (at.Await p)
        → Leaves (at.Await p) (planned s me call (at.Await p))
    await_leaves (awaiting.Lock waited) pl dl = await_lock_leaves waited pl dl
    await_leaves (awaiting.Load waited) pl dl = await_load_leaves waited true (eqb_tells done_now 0) pl dl
    await_leaves (awaiting.Run stopped) pl dl = still (at.Await (awaiting.Run stopped)) pl dl _ (tt, tt) refl refl
        (to s.table.entry w (at.Await (awaiting.Off stopped)) never (at_place (at.Await (awaiting.Run stopped)) pl dl))
    await_leaves (awaiting.Off true) pl dl = await_off_leaves true (is_some (s.table.entry (own me))) refl pl dl
    await_leaves (awaiting.Off false) pl dl = await_off_leaves false (is_some (s.table.entry (own me))) refl pl dl
    await_leaves (awaiting.Last true) pl dl = await_stops (at.Await (awaiting.Last true)) refl refl pl dl
        (absent_none (s.table.entry (own me)) pl.home) (at_place (at.Await (awaiting.Last true)) pl dl)
    await_leaves (awaiting.Last false) pl dl = await_takes (at.Await (awaiting.Last false)) refl refl pl dl
        (absent_none (s.table.entry (own me)) pl.home) (is_at_end done_now) refl
        (at_place (at.Await (awaiting.Last false)) pl dl)
    await_leaves awaiting.Unlock pl dl = unlock_ends (at.Await awaiting.Unlock) pl dl refl refl false zero_answer
        (inl (at_place (at.Await awaiting.Unlock) pl dl))
        (none_stands (s.table.entry (own me)) (absent_none (s.table.entry (own me)) pl.home))
