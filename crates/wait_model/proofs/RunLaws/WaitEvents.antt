-- Each event of a wait, and of a call on an entry that stands, is fine.
use Rattle.std.proofs.lemmas.Bool.{both_ways}
use Rattle.wait_model.specs.{declared.calls.Call.Call, declared.points.Point.Point}
use Rattle.wait_model.specs.{declared.points.PreparePoint.PreparePoint, declared.points.LeavePoint.LeavePoint}
use Rattle.wait_model.specs.{declared.points.FinishPoint.FinishPoint, declared.points.Next.Next}
use Rattle.wait_model.specs.{declared.calls.Answer.Answer, declared.points.AddPoint.AddPoint}
use Rattle.wait_model.specs.{declared.points.RemovePoint.RemovePoint, declared.points.WokenPoint.WokenPoint}
use Rattle.wait_model.specs.{declared.points.Planned.Planned, declared.watches.Watch.Watch, declared.watches.Kind.Kind}
use Rattle.wait_model.specs.{declared.watches.Entry.Entry, declared.tasks.SleepState.SleepState, Admission.is_standing}
use Rattle.wait_model.specs.{Admission.IsStandingKind, Words.Suited, Rows.MaySpend, Rows.Reads, Tables.value_of}
use Rattle.wait_model.specs.Functions.{put}
use Rattle.wait_model.specs.declared.layout.TheConstants.{TASKS, PLAIN_CONDITIONS, FIRST_SIMPLE, CONDITIONS}
use Rattle.wait_model.specs.declared.layout.TheConstants.{FIRST_PLAIN_HEAD, HEADS}
use Rattle.wait_model.specs.Reached.{is_amid_function, Zone, absent, waits, free, stands, parts, IsHome, HomeAt, holds}
use Rattle.wait_model.specs.Reached.{zone, held_at, stands_between, IsPlaced, IsSoundCall, IsCallSound, IsWalkSound}
use Rattle.wait_model.specs.Reached.{IsFitted, is_preparing, IsSound}
use Rattle.wait_model.specs.Runs.{State, own, planned, progress_at}
use Rattle.wait_model.specs.Tasks.{IsState, pending, state_mask, looks_in, task_word, task_of}
use Rattle.wait_model.specs.Watches.{head_of, IsThere, misses, counted, is_page}
use Rattle.wait_model.specs.Points.{call_watch, call_number, is_bit_wait, is_lock, call_head, state_in, form_of}
use Rattle.wait_model.specs.Points.{head_at, given_at}
use Rattle.wait_model.specs.Programs.{go, ends_with, zero_answer, signalled, interrupted, finished, look_event}
use Rattle.wait_model.specs.Programs.{signalled_at, prepared_at, slept_at, plain_cond, cond_in}
use Rattle.std.proofs.Common.{refl, sym, ◌∙◌, ap, subst, arith, inl, inr}
use Rattle.std.specs.Prelude.{ℕ, ◌≡◌, ◌<◌, ◌+◌, Option, Some, None, Bool, true, false, not, ◌&&◌, if◌then◌else◌}
use Rattle.std.specs.Prelude.{is_some}
use Rattle.wait_model.proofs.{RunLaws.OthersEvents.IsGone, Functions.put_same, Functions.both_left}
use Rattle.wait_model.proofs.WordLaws.DecodedWords.{task_read, head_plain, done_read_back, owner_own}
use Rattle.wait_model.proofs.WordLaws.CondWords.{head_of_bare, head_below, number_below, head_counted, reads_value}
use Rattle.wait_model.proofs.WordLaws.CondWords.{waits_suited}
use Rattle.wait_model.proofs.RunLaws.FineEvents.{Fine, Leads, goes, inside, outside, still_fine, still_on, lock_fine}
use Rattle.wait_model.proofs.RunLaws.FineEvents.{leads_by, unlock_fine, queue_fine, unqueue_fine, none_there, one_there}
use Rattle.wait_model.proofs.RunLaws.FineEvents.{read, unflag_fine}
use Rattle.wait_model.specs.declared.calls.Call.TheVariants as calls
use Rattle.wait_model.specs.declared.calls.Event.TheVariants as event
use Rattle.wait_model.specs.declared.points.Point.TheVariants as at
use Rattle.wait_model.specs.declared.points.PreparePoint.TheVariants as preparing
use Rattle.wait_model.specs.declared.points.LeavePoint.TheVariants as leaving
use Rattle.wait_model.specs.declared.points.FinishPoint.TheVariants as finishing
use Rattle.wait_model.specs.declared.points.BitPoint.TheVariants as biting
use Rattle.wait_model.specs.declared.points.AddPoint.TheVariants as adding
use Rattle.wait_model.specs.declared.points.RemovePoint.TheVariants as removing
use Rattle.wait_model.specs.declared.points.WokenPoint.TheVariants as hearing
use Rattle.wait_model.specs.declared.points.Next.TheVariants as next
use Rattle.wait_model.specs.declared.points.Progress.TheVariants as now
use Rattle.wait_model.specs.declared.watches.Kind.TheVariants as kind
use Rattle.wait_model.specs.declared.watches.Watch.TheVariants as watch
use Rattle.wait_model.specs.declared.tasks.SleepState.TheVariants as states

-- an entry that is off may be off wherever it may be
pub off_waits : (c : Watch) (o : Option Entry) → IsHome absent c o → IsHome waits c o
off_waits c None h = tt
off_waits c (Some e) h = absurd h

pub off_free : (c d : Watch) (o : Option Entry) → IsHome absent c o → IsHome free d o
off_free c d None h = tt
off_free c d (Some e) h = absurd h

pub none_free : (d : Watch) (o : Option Entry) → o ≡ None → IsHome free d o
none_free d o e = subst (IsHome free d) (sym e) tt

pub none_absent : (d : Watch) (o : Option Entry) → o ≡ None → IsHome absent d o
none_absent d o e = subst (IsHome absent d) (sym e) tt

pub is_off : (c : Watch) (o : Option Entry) → IsHome absent c o → o ≡ None
is_off c None h = refl
is_off c (Some e) h = absurd h

-- an entry that may stand anywhere is none of a page
pub free_unpaged : (c : Watch) (e : Entry) → IsHome free c (Some e) → is_page e.kind ≡ false
free_unpaged c e h = by e.kind h
  where
    by : (k : Kind) → IsStandingKind k → is_page k ≡ false
    by kind.Page s = absurd (cc)
    by k s = refl

pub mask_state : (st : SleepState) → IsState (state_mask st)
mask_state states.Uninterruptible = inr (inr (inl refl))
mask_state states.Interruptible = inr (inl refl)
mask_state states.Killable = inr (inr (inr refl))

pub stands_suited : (c : ℕ) (k : Kind) → c < FIRST_SIMPLE → IsStandingKind k → Suited (watch.Plain c) k
stands_suited c kind.Default h s = (omega (arith, h), inl refl, λ l. absurd (omega (arith, h)))
stands_suited c kind.Woken h s = (omega (arith, h), inr (inr (inl refl)), λ l. absurd (omega (arith, h)))
stands_suited c _ h s = absurd (cc)

-- an entry that stands is one of a plain condition
not_standing : (k j : Kind) → k ≡ j → is_standing j ≡ false → IsStandingKind k → ⊥
not_standing k j e never s = absurd (both_ways true (sym s ∙ ap is_standing e ∙ never) refl)

stands_plain : (w : Watch) (k : Kind) → Suited w k → IsStandingKind k
    → (w ≡ watch.Plain (plain_cond w)) × (plain_cond w < PLAIN_CONDITIONS)
stands_plain (watch.Plain c) k h s = (refl, h.0)
stands_plain (watch.Done d) k h s = absurd (not_standing k kind.Simple h.1 refl s)
stands_plain (watch.Bit i b) k h s = absurd (elim h.2 [
  | inl e ↦ not_standing k kind.Bit e refl s
  | inr e ↦ not_standing k kind.Page e.0 refl s
])
stands_plain (watch.Var v o) k h s = absurd (not_standing k kind.Var h.2 refl s)

-- the next place of a wait, inside a hold or outside, where its entry may be queued
record IsWaitingAt (call : Call) (q : Point) (within : Bool) : Type 0 where
  head : head_at call q ≡ call_head call
  home : zone q ≡ waits
  held : holds q ≡ within
  calm : is_preparing (now.Open call q) ≡ false
  taken : is_amid_function q ≡ false
  numbers : (n : ℕ) → IsWalkSound n q
  fitted : IsFitted call q

waits_at : {call : Call} {q : Point} {within : Bool} → head_at call q ≡ call_head call → zone q ≡ waits
    → holds q ≡ within → is_preparing (now.Open call q) ≡ false → is_amid_function q ≡ false
    → ((n : ℕ) → IsWalkSound n q) → IsFitted call q → IsWaitingAt call q within
waits_at head home held calm taken numbers fitted = record {
  head = head;
  home = home;
  held = held;
  calm = calm;
  taken = taken;
  numbers = numbers;
  fitted = fitted;
}

signalled_waits : (call : Call) → IsWaitingAt call (signalled_at call) true
signalled_waits (calls.WaitFor d st) = waits_at refl refl refl refl refl (λ n. tt) refl
signalled_waits call = waits_at refl refl refl refl refl (λ n. tt) tt

prepared_waits : (call : Call) → IsWaitingAt call (prepared_at call) false
prepared_waits (calls.WaitFor d st) = waits_at refl refl refl refl refl (λ n. tt) tt
prepared_waits (calls.WaitBit w b st) = waits_at refl refl refl refl refl (λ n. tt) refl
prepared_waits (calls.LockBit w b st) = waits_at refl refl refl refl refl (λ n. tt) refl
prepared_waits call = waits_at refl refl refl refl refl (λ n. tt) tt

slept_waits : (call : Call) → IsWaitingAt call (slept_at call) false
slept_waits (calls.WaitFor d st) = waits_at refl refl refl refl refl (λ n. tt) refl
slept_waits call = waits_at refl refl refl refl refl (λ n. tt) refl

module _ (s : State) (n me : ℕ) (call : Call) (sound : IsSound s n) (mine : me < TASKS) where
  abbrev F : Point → Planned → Type 0
  F p x = Fine s n me call sound mine (given_at call p) x

  abbrev P : Point → Type 0
  P p = IsPlaced s.table.entry (s.table.view me) me (now.Open call p)

  pub own_read : task_of (task_word (s.table.task me)) ≡ s.table.task me
  own_read = task_read (s.table.task me) (sound.lawful me)

  pub no_spend : MaySpend (s.table.view me) false
  no_spend w i q = absurd (cc)

  pub may_spend : IsThere (call_watch call) → counted (call_watch call) ≡ true
      → (s.table.view me).hold.head ≡ Some (call_head call) → MaySpend (s.table.view me) true
  may_spend c k held w i q = inl (head_counted w.watch (call_watch call) c k
      ((sound.kept.facts.views me).hold.aimed (call_head call) w held i))

  -- from one place of a call to another, or to its end
  pub to : (p q : Point) → IsCallSound n call p → head_at call q ≡ call_head call → IsWalkSound (n + 1) q
      → IsFitted call q → IsCallSound (n + 1) call q
  to p q k at w a = goes s n me call sound mine p q k at w a

  pub head_small : (p : Point) → IsCallSound n call p → call_head call < HEADS
  head_small p k = head_below (call_watch call) k.watch

  -- a load of the call's condition
  pub loads : (p : Point) → IsCallSound n call p → Reads s.table.words (call_watch call)
      (value_of s.table.words (call_watch call))
  loads p k = reads_value s.table.words sound.low (call_watch call) k.watch

  pub load_small : (p : Point) → IsCallSound n call p → call_number call < CONDITIONS
  load_small p k = number_below (call_watch call) k.watch

  -- where a call goes that was signalled, that has prepared, that has slept
  to_waiting : (p q : Point) (within : Bool) → IsCallSound n call p → IsWaitingAt call q within
      → IsCallSound (n + 1) call q
  to_waiting p q within k w = to p q k w.head (w.numbers (n + 1)) w.fitted

  waiting_home : (q : Point) (within : Bool) → IsWaitingAt call q within
      → IsHome waits (call_watch call) (s.table.entry (own me)) → HomeAt (now.Open call q) (s.table.entry (own me))
  waiting_home q within w h = subst (λ (z : Zone). IsHome z (call_watch call) (s.table.entry (own me)))
      (sym w.home) h

  -- a store of the own state
  pub state_fine : (p q : Point) (v : ℕ) → P p → IsState v → IsCallSound (n + 1) call q
      → Leads s n me call sound mine p (now.Open call q) → F p (go (event.State v) q)
  state_fine p q v pl h k l = still_fine s n me call sound mine p pl (go (event.State v) q) tt h tt (tt, tt) k l

  -- the own entry of a wait stands at the head that the task holds
  pub own_gone : (p : Point) → P p → IsHome waits (call_watch call) (s.table.entry (own me)) → holds p ≡ true
      → head_at call p ≡ call_head call → is_some (s.table.entry (own me)) ≡ true → IsGone s me me
  own_gone p pl home within at there =
      let e = one_there (s.table.entry (own me)) there in
      let h : IsHome waits (call_watch call) (Some e.0) = subst (IsHome waits (call_watch call)) e.1 home in
      record {
        it = e.0;
        stands = e.1;
        head = inside s n me call sound mine p pl within
            ∙ ap (λ i. Some i) (at ∙ sym (head_of_bare (call_watch call)) ∙ ap head_of (sym h.0));
        goes = inl refl;
      }

  pub gone_home : (q : Point) → HomeAt (now.Open call q) None
      → HomeAt (now.Open call q) (put s.table.entry (own me) None (own me))
  gone_home q h = subst (HomeAt (now.Open call q)) (sym (put_same s.table.entry (own me) None)) h

  -- a wait: the first load
  pub first_fine : (b : Bool) → IsCallSound n call at.First → P at.First → F at.First (if b
      then go (event.Load (call_number call) (value_of s.table.words (call_watch call))) (at.Prepare preparing.Lock)
      else ends_with (event.Load (call_number call) (value_of s.table.words (call_watch call))) zero_answer)
  first_fine true k pl = still_fine s n me call sound mine at.First pl _ tt (load_small at.First k) tt
      (loads at.First k, tt)
      (to at.First (at.Prepare preparing.Lock) k refl tt k.fitted)
      (leads_by s n me call sound mine refl (off_waits (call_watch call) (s.table.entry (own me)) pl.home)
      refl refl)
  first_fine false k pl = still_fine s n me call sound mine at.First pl _ tt (load_small at.First k) tt
      (loads at.First k, tt) tt
      (leads_by s n me call sound mine refl (off_free (call_watch call) (watch.Plain 0) (s.table.entry (own me)) pl.home)
      refl refl)

  -- preparing
  prepare_lock_fine : (b : Bool) → IsCallSound n call (at.Prepare preparing.Lock)
      → P (at.Prepare preparing.Lock) → F (at.Prepare preparing.Lock) (go (event.Lock (call_head call))
      (at.Prepare (if b then preparing.Look else preparing.Queue)))
  prepare_lock_fine true k pl = lock_fine s n me call sound mine (at.Prepare preparing.Lock) pl
      (call_head call) refl (at.Prepare preparing.Look) (head_small (at.Prepare preparing.Lock) k) tt refl refl
      (to (at.Prepare preparing.Lock) (at.Prepare preparing.Look) k refl tt tt) pl.home refl
  prepare_lock_fine false k pl = lock_fine s n me call sound mine (at.Prepare preparing.Lock) pl
      (call_head call) refl (at.Prepare preparing.Queue) (head_small (at.Prepare preparing.Lock) k) tt refl refl
      (to (at.Prepare preparing.Lock) (at.Prepare preparing.Queue) k refl tt tt) pl.home refl

  look_fine : (b : Bool) → IsCallSound n call (at.Prepare preparing.Look) → P (at.Prepare preparing.Look)
      → F (at.Prepare preparing.Look) (look_event call b)
  look_fine true k pl =
      let w : IsWaitingAt call (signalled_at call) true = signalled_waits call in
      still_fine s n me call sound mine (at.Prepare preparing.Look) pl (look_event call true) tt tt tt
      (own_read, tt) (to_waiting (at.Prepare preparing.Look) (signalled_at call) true k w)
      (record {
        same = ap (λ h. Some h) (sym w.head)
            ∙ sym (ap (λ b. if b then Some (head_at call (signalled_at call)) else None) w.held);
        home = waiting_home (signalled_at call) true w pl.home;
        calm = w.calm;
        taken = w.taken;
      })
  look_fine false k pl = still_on s n me call sound mine (at.Prepare preparing.Look) pl (look_event call false) tt tt
      tt (own_read, tt) (to (at.Prepare preparing.Look) (at.Prepare preparing.Queue) k refl tt tt)
      (record { same = refl; home = pl.home; prepared = refl; taken = refl })

  queue_at : (b : Bool) → is_some (s.table.entry (own me)) ≡ b → IsCallSound n call (at.Prepare preparing.Queue)
      → P (at.Prepare preparing.Queue) → F (at.Prepare preparing.Queue) (if b
      then go (event.State (state_mask (state_in call))) (at.Prepare preparing.Unlock)
      else go (event.Queue (call_head call) (form_of call)) (at.Prepare preparing.State))
  queue_at true there k pl = state_fine (at.Prepare preparing.Queue) (at.Prepare preparing.Unlock) _ pl
      (mask_state (state_in call)) (to (at.Prepare preparing.Queue) (at.Prepare preparing.Unlock) k refl tt tt)
      (record { same = refl; home = pl.home; calm = refl; taken = refl })
  queue_at false there k pl = queue_fine s n me call sound mine (at.Prepare preparing.Queue) pl
      (at.Prepare preparing.State) refl refl refl refl k.watch refl (none_there (s.table.entry (own me)) there)
      (waits_suited (call_watch call) k.watch)
      (to (at.Prepare preparing.Queue) (at.Prepare preparing.State) k refl tt tt)
      (λ e w j. (w, j)) refl refl

  pub prepare_fine : (p : PreparePoint) → IsCallSound n call (at.Prepare p) → P (at.Prepare p)
      → F (at.Prepare p) (planned s me call (at.Prepare p))
  prepare_fine preparing.Lock k pl = prepare_lock_fine (not (is_bit_wait call) && looks_in (state_in call)) k pl
  prepare_fine preparing.Look k pl = look_fine (pending (state_mask (state_in call)) (s.table.task me)) k pl
  prepare_fine preparing.Queue k pl = queue_at (is_some (s.table.entry (own me))) refl k pl
  prepare_fine preparing.State k pl = state_fine (at.Prepare preparing.State) (at.Prepare preparing.Unlock) _ pl
      (mask_state (state_in call)) (to (at.Prepare preparing.State) (at.Prepare preparing.Unlock) k refl tt tt)
      (record { same = refl; home = pl.home; calm = refl; taken = refl })
  prepare_fine preparing.Unlock k pl =
      let w : IsWaitingAt call (prepared_at call) false = prepared_waits call in
      unlock_fine s n me call sound mine (at.Prepare preparing.Unlock) pl (call_head call) false
      (next.Go (prepared_at call)) refl refl (head_small (at.Prepare preparing.Unlock) k) no_spend
      (to_waiting (at.Prepare preparing.Unlock) (prepared_at call) false k w)
      (ap (λ b. if b then Some (head_at call (prepared_at call)) else None) w.held)
      (waiting_home (prepared_at call) false w pl.home) w.calm w.taken

  -- the load after preparing, and the sleep
  pub test_fine : (b : Bool) → IsCallSound n call at.Test → P at.Test → F at.Test
      (go (event.Load (call_number call) (value_of s.table.words (call_watch call)))
      (if b then at.Sleep else at.Finish finishing.State false))
  test_fine true k pl = still_fine s n me call sound mine at.Test pl _ tt (load_small at.Test k) tt
      (loads at.Test k, tt)
      (to at.Test at.Sleep k refl tt tt)
      (record { same = refl; home = pl.home; calm = refl; taken = refl })
  test_fine false k pl = still_fine s n me call sound mine at.Test pl _ tt (load_small at.Test k) tt
      (loads at.Test k, tt)
      (to at.Test (at.Finish finishing.State false) k refl tt (λ f. absurd (cc)))
      (record { same = refl; home = pl.home; calm = refl; taken = refl })

  pub sleep_fine : IsCallSound n call at.Sleep → P at.Sleep → F at.Sleep (planned s me call at.Sleep)
  sleep_fine k pl =
      let w : IsWaitingAt call (slept_at call) false = slept_waits call in
      still_fine s n me call sound mine at.Sleep pl _ tt tt tt
      ((own_read, outside s n me call sound mine at.Sleep pl refl), tt)
      (to_waiting at.Sleep (slept_at call) false k w)
      (record {
        same = sym (ap (λ b. if b then Some (head_at call (slept_at call)) else None) w.held);
        home = waiting_home (slept_at call) false w pl.home;
        calm = w.calm;
        taken = w.taken;
      })

  -- a signalled turn
  leave_off : (b : Bool) → is_some (s.table.entry (own me)) ≡ b → IsCallSound n call (at.Leave leaving.Queue)
      → P (at.Leave leaving.Queue) → F (at.Leave leaving.Queue) (if b
      then go (event.Unqueue me) (at.Leave leaving.Unlock)
      else go (event.Unlock (call_head call) false) (at.Leave leaving.Load))
  leave_off true there k pl = unqueue_fine s n me call sound mine (at.Leave leaving.Queue) pl
      (at.Leave leaving.Unlock) me mine (own_gone (at.Leave leaving.Queue) pl pl.home refl refl there)
      (to (at.Leave leaving.Queue) (at.Leave leaving.Unlock) k refl tt tt) refl refl refl
      (gone_home (at.Leave leaving.Unlock) tt)
  leave_off false there k pl = unlock_fine s n me call sound mine (at.Leave leaving.Queue) pl
      (call_head call) false (next.Go (at.Leave leaving.Load)) refl refl
      (head_small (at.Leave leaving.Queue) k) no_spend
      (to (at.Leave leaving.Queue) (at.Leave leaving.Load) k refl tt tt) refl
      (none_absent (call_watch call) (s.table.entry (own me)) (none_there (s.table.entry (own me)) there)) refl refl

  leave_load : (b : Bool) → IsCallSound n call (at.Leave leaving.Load) → P (at.Leave leaving.Load)
      → F (at.Leave leaving.Load) (if b
      then ends_with (event.Load (call_number call) (value_of s.table.words (call_watch call))) signalled
      else go (event.Load (call_number call) (value_of s.table.words (call_watch call)))
      (at.Finish finishing.State false))
  leave_load true k pl = still_fine s n me call sound mine (at.Leave leaving.Load) pl _ tt
      (load_small (at.Leave leaving.Load) k) tt
      (loads (at.Leave leaving.Load) k, tt) tt (leads_by s n me call sound mine refl (off_free (call_watch call) (watch.Plain 0) (s.table.entry (own me)) pl.home)
      refl refl)
  leave_load false k pl = still_fine s n me call sound mine (at.Leave leaving.Load) pl _ tt
      (load_small (at.Leave leaving.Load) k) tt
      (loads (at.Leave leaving.Load) k, tt) (to (at.Leave leaving.Load) (at.Finish finishing.State false) k refl
      tt (λ f. absurd (cc)))
      (leads_by s n me call sound mine refl (off_waits (call_watch call) (s.table.entry (own me)) pl.home)
      refl refl)

  pub leave_fine : (p : LeavePoint) → IsCallSound n call (at.Leave p) → P (at.Leave p)
      → F (at.Leave p) (planned s me call (at.Leave p))
  leave_fine leaving.Queue k pl = leave_off (is_some (s.table.entry (own me))) refl k pl
  leave_fine leaving.Unlock k pl = unlock_fine s n me call sound mine (at.Leave leaving.Unlock) pl
      (call_head call) false (next.Go (at.Leave leaving.Load)) refl refl
      (head_small (at.Leave leaving.Unlock) k) no_spend
      (to (at.Leave leaving.Unlock) (at.Leave leaving.Load) k refl tt tt) refl pl.home refl refl
  leave_fine leaving.Load k pl = leave_load
      (misses (call_watch call) (value_of s.table.words (call_watch call))) k pl

  -- finishing: after it a wait ends, or one that takes a bit makes its last try
  record GoesOn (x : Next) : Type 0 where
    next_call : IsSoundCall (n + 1) (progress_at call x)
    held : held_at (progress_at call x) ≡ None
    home : s.table.entry (own me) ≡ None → HomeAt (progress_at call x) (s.table.entry (own me))
    calm : is_preparing (progress_at call x) ≡ false
    taken : stands_between (progress_at call x) ≡ false

  ends_on : (a : Answer) → GoesOn (next.Ends a)
  ends_on a = record {
    next_call = tt;
    held = refl;
    home = none_free (watch.Plain 0) (s.table.entry (own me));
    calm = refl;
    taken = refl;
  }

  module _ (failed : Bool) where
    last_on : (p : Point) → IsCallSound n call p → is_bit_wait call ≡ true
        → GoesOn (next.Go (at.Bit biting.Last))
    last_on p k fit = record {
      next_call = to p (at.Bit biting.Last) k refl tt fit;
      held = refl;
      home = none_absent (call_watch call) (s.table.entry (own me));
      calm = refl;
      taken = refl;
    }

    -- by a look that finds the own entry off, or by an unlock
    look_on : (x : Next) → GoesOn x → IsCallSound n call (at.Finish finishing.Look failed)
        → P (at.Finish finishing.Look failed) → s.table.entry (own me) ≡ None
        → F (at.Finish finishing.Look failed) (record { event = event.Queued false; next = x })
    look_on x b k pl off = still_fine s n me call sound mine (at.Finish finishing.Look failed) pl _ tt tt tt (
      (
        read s n me call sound mine (own me),
        outside s n me call sound mine (at.Finish finishing.Look failed) pl refl,
      ),
      tt,
    ) b.next_call (record { same = sym b.held; home = b.home off; calm = b.calm; taken = b.taken })

    look_over : (last : Bool) → (last ≡ true → is_bit_wait call ≡ true)
        → IsCallSound n call (at.Finish finishing.Look failed) → P (at.Finish finishing.Look failed)
        → s.table.entry (own me) ≡ None → F (at.Finish finishing.Look failed) (if last
        then go (event.Queued false) (at.Bit biting.Last)
        else ends_with (event.Queued false) (if failed then interrupted else zero_answer))
    look_over true fit k pl off = look_on (next.Go (at.Bit biting.Last))
        (last_on (at.Finish finishing.Look failed) k (fit refl)) k pl off
    look_over false fit k pl off = look_on _ (ends_on _) k pl off

    unlock_on : (p : Point) → P p → holds p ≡ true → head_at call p ≡ call_head call → IsCallSound n call p
        → (x : Next) → GoesOn x → s.table.entry (own me) ≡ None
        → F p (record { event = event.Unlock (call_head call) false; next = x })
    unlock_on p pl within head k x b off = unlock_fine s n me call sound mine p pl (call_head call) false x
        within head (head_small p k) no_spend b.next_call b.held (b.home off) b.calm b.taken

    unlock_over : (p : Point) → P p → holds p ≡ true → head_at call p ≡ call_head call → IsCallSound n call p
        → (last : Bool) → (last ≡ true → is_bit_wait call ≡ true) → s.table.entry (own me) ≡ None
        → F p (if last then go (event.Unlock (call_head call) false) (at.Bit biting.Last)
        else ends_with (event.Unlock (call_head call) false) (if failed then interrupted else zero_answer))
    unlock_over p pl within head k true fit off = unlock_on p pl within head k (next.Go (at.Bit biting.Last))
        (last_on p k (fit refl)) off
    unlock_over p pl within head k false fit off = unlock_on p pl within head k _ (ends_on _) off

    -- the last try is that of an interrupted wait for a bit
    tries_last : (failed ≡ true → is_bit_wait call ≡ true) → (failed && is_lock call) ≡ true
        → is_bit_wait call ≡ true
    tries_last fit h = fit (both_left failed (is_lock call) h)

    finish_look : (b : Bool) → is_some (s.table.entry (own me)) ≡ b
        → IsCallSound n call (at.Finish finishing.Look failed) → P (at.Finish finishing.Look failed)
        → F (at.Finish finishing.Look failed) (if b
        then go (event.Queued true) (at.Finish finishing.Lock failed)
        else finished call failed (event.Queued false))
    finish_look true there k pl = still_fine s n me call sound mine (at.Finish finishing.Look failed) pl _ tt tt tt (
      (
        read s n me call sound mine (own me),
        outside s n me call sound mine (at.Finish finishing.Look failed) pl refl,
      ),
      tt,
    ) (to (at.Finish finishing.Look failed) (at.Finish finishing.Lock failed) k refl tt k.fitted)
        (record { same = refl; home = pl.home; calm = refl; taken = refl })
    finish_look false there k pl = look_over (failed && is_lock call) (tries_last k.fitted) k pl
        (none_there (s.table.entry (own me)) there)

    finish_off : (b : Bool) → is_some (s.table.entry (own me)) ≡ b
        → IsCallSound n call (at.Finish finishing.Queue failed) → P (at.Finish finishing.Queue failed)
        → F (at.Finish finishing.Queue failed) (if b
        then go (event.Unqueue me) (at.Finish finishing.Unlock failed)
        else finished call failed (event.Unlock (call_head call) false))
    finish_off true there k pl = unqueue_fine s n me call sound mine (at.Finish finishing.Queue failed) pl
        (at.Finish finishing.Unlock failed) me mine
        (own_gone (at.Finish finishing.Queue failed) pl pl.home refl refl there)
        (to (at.Finish finishing.Queue failed) (at.Finish finishing.Unlock failed) k refl tt k.fitted) refl refl
        refl (gone_home (at.Finish finishing.Unlock failed) tt)
    finish_off false there k pl = unlock_over (at.Finish finishing.Queue failed) pl refl refl k
        (failed && is_lock call) (tries_last k.fitted) (none_there (s.table.entry (own me)) there)

    pub finish_fine : (p : FinishPoint) → IsCallSound n call (at.Finish p failed) → P (at.Finish p failed)
        → F (at.Finish p failed) (planned s me call (at.Finish p failed))
    finish_fine finishing.State k pl = state_fine (at.Finish finishing.State failed)
        (at.Finish finishing.Look failed) 0 pl (inl refl)
        (to (at.Finish finishing.State failed) (at.Finish finishing.Look failed) k refl tt k.fitted)
        (record { same = refl; home = pl.home; calm = refl; taken = refl })
    finish_fine finishing.Look k pl = finish_look (is_some (s.table.entry (own me))) refl k pl
    finish_fine finishing.Lock k pl = lock_fine s n me call sound mine (at.Finish finishing.Lock failed) pl
        (call_head call) refl (at.Finish finishing.Queue failed) (head_small (at.Finish finishing.Lock failed) k)
        tt refl refl
        (to (at.Finish finishing.Lock failed) (at.Finish finishing.Queue failed) k refl tt k.fitted) pl.home refl
    finish_fine finishing.Queue k pl = finish_off (is_some (s.table.entry (own me))) refl k pl
    finish_fine finishing.Unlock k pl = unlock_over (at.Finish finishing.Unlock failed) pl refl refl k
        (failed && is_lock call) (tries_last k.fitted) (is_off (call_watch call) (s.table.entry (own me)) pl.home)

  -- an entry is added
  pub add_fine : (p : AddPoint) → IsCallSound n call (at.Add p) → P (at.Add p)
      → F (at.Add p) (planned s me call (at.Add p))
  add_fine adding.Lock k pl = lock_fine s n me call sound mine (at.Add adding.Lock) pl (call_head call) refl
      (at.Add adding.Queue) (head_small (at.Add adding.Lock) k) tt refl refl
      (to (at.Add adding.Lock) (at.Add adding.Queue) k refl tt k.fitted) pl.home refl
  add_fine adding.Queue k pl = queue_fine s n me call sound mine (at.Add adding.Queue) pl (at.Add adding.Unlock)
      refl refl refl refl k.watch refl (is_off (call_watch call) (s.table.entry (own me)) pl.home) k.fitted.1
      (to (at.Add adding.Queue) (at.Add adding.Unlock) k refl tt k.fitted)
      (λ e w j. subst IsStandingKind (sym j) k.fitted.0) refl refl
  add_fine adding.Unlock k pl = unlock_fine s n me call sound mine (at.Add adding.Unlock) pl (call_head call)
      false (next.Ends zero_answer) refl refl (head_small (at.Add adding.Unlock) k) no_spend tt refl pl.home refl
      refl

  -- the own entry is removed
  remove_lock : (o : Option Entry) → s.table.entry (own me) ≡ o → IsCallSound n call (at.Remove removing.Lock)
      → P (at.Remove removing.Lock) → F (at.Remove removing.Lock) (go (event.Lock (FIRST_PLAIN_HEAD + cond_in o))
      (at.Remove (removing.Queue (cond_in o))))
  remove_lock None is k pl = absurd (subst (IsHome stands (call_watch call)) is pl.home)
  remove_lock (Some e) is k pl =
      let standing : IsStandingKind e.kind = subst (IsHome stands (call_watch call)) is pl.home in
      let q = sound.linked.entries (own me) e is in
      let w = stands_plain e.watch e.kind q.lawful.suited standing in
      let small : FIRST_PLAIN_HEAD + plain_cond e.watch < HEADS = omega (arith, w.1) in
      lock_fine s n me call sound mine (at.Remove removing.Lock) pl (FIRST_PLAIN_HEAD + plain_cond e.watch) refl
      (at.Remove (removing.Queue (plain_cond e.watch))) small tt refl refl
      (record { watch = k.watch; who = k.who; head = small; walk = tt; fitted = tt })
      (subst (IsHome (parts (plain_cond e.watch)) (call_watch call)) (sym is)
      (standing, w.0)) refl

  remove_off : (c : ℕ) (o : Option Entry) → s.table.entry (own me) ≡ o
      → IsCallSound n call (at.Remove (removing.Queue c)) → P (at.Remove (removing.Queue c))
      → F (at.Remove (removing.Queue c)) (go (event.Unqueue me) (at.Remove (removing.Unlock c)))
  remove_off c None is k pl = absurd (subst (IsHome (parts c) (call_watch call)) is pl.home)
  remove_off c (Some e) is k pl =
      let h : IsHome (parts c) (call_watch call) (Some e) =
      subst (IsHome (parts c) (call_watch call)) is pl.home in
      unqueue_fine s n me call sound mine (at.Remove (removing.Queue c)) pl (at.Remove (removing.Unlock c)) me
      mine (record {
        it = e;
        stands = is;
        head = inside s n me call sound mine (at.Remove (removing.Queue c)) pl
            refl ∙ ap (λ i. Some i) (sym (head_plain c) ∙ ap head_of (sym h.1));
        goes = inl refl;
      })
      (record { watch = k.watch; who = k.who; head = k.head; walk = tt; fitted = tt }) refl refl refl
      (gone_home (at.Remove (removing.Unlock c)) tt)

  pub remove_fine : (p : RemovePoint) → IsCallSound n call (at.Remove p) → P (at.Remove p)
      → F (at.Remove p) (planned s me call (at.Remove p))
  remove_fine removing.Lock k pl = remove_lock (s.table.entry (own me)) refl k pl
  remove_fine (removing.Queue c) k pl = remove_off c (s.table.entry (own me)) refl k pl
  remove_fine (removing.Unlock c) k pl = unlock_fine s n me call sound mine (at.Remove (removing.Unlock c)) pl
      (FIRST_PLAIN_HEAD + c) false (next.Ends zero_answer) refl refl k.head no_spend tt refl
      (off_free (call_watch call) (watch.Plain 0) (s.table.entry (own me)) pl.home) refl
      refl

  -- a wait for a flag
  flag_fine : (b : Bool) → s.table.flag (own me) ≡ b → IsCallSound n call (at.Woken hearing.Flag)
      → P (at.Woken hearing.Flag) → F (at.Woken hearing.Flag) (go (event.Flag b)
      (at.Woken (if b then hearing.Run else hearing.Sleep)))
  flag_fine true is k pl = still_fine s n me call sound mine (at.Woken hearing.Flag) pl _ tt tt tt
      ((owner_own me, done_read_back (s.table.flag (own me)) (s.table.done (own me))), tt)
      (to (at.Woken hearing.Flag) (at.Woken hearing.Run) k refl tt tt)
      (record { same = refl; home = pl.home; calm = refl; taken = refl })
  flag_fine false is k pl = still_fine s n me call sound mine (at.Woken hearing.Flag) pl _ tt tt tt
      ((owner_own me, done_read_back (s.table.flag (own me)) (s.table.done (own me))), tt)
      (to (at.Woken hearing.Flag) (at.Woken hearing.Sleep) k refl tt tt)
      (record { same = refl; home = pl.home; calm = refl; taken = refl })

  pub woken_fine : (p : WokenPoint) → IsCallSound n call (at.Woken p) → P (at.Woken p)
      → F (at.Woken p) (planned s me call (at.Woken p))
  woken_fine hearing.State k pl = state_fine (at.Woken hearing.State) (at.Woken hearing.Flag) _ pl
      (mask_state (state_in call)) (to (at.Woken hearing.State) (at.Woken hearing.Flag) k refl tt tt)
      (record { same = refl; home = pl.home; calm = refl; taken = refl })
  woken_fine hearing.Flag k pl = flag_fine (s.table.flag (own me)) refl k pl
  woken_fine hearing.Sleep k pl = still_fine s n me call sound mine (at.Woken hearing.Sleep) pl _ tt tt tt
      ((own_read, outside s n me call sound mine (at.Woken hearing.Sleep) pl refl), tt)
      (to (at.Woken hearing.Sleep) (at.Woken hearing.Run) k refl tt tt)
      (record { same = refl; home = pl.home; calm = refl; taken = refl })
  woken_fine hearing.Run k pl = state_fine (at.Woken hearing.Run) (at.Woken hearing.Clear) 0 pl (inl refl)
      (to (at.Woken hearing.Run) (at.Woken hearing.Clear) k refl tt tt)
      (record { same = refl; home = pl.home; calm = refl; taken = refl })
  woken_fine hearing.Clear k pl = unflag_fine s n me call sound mine (at.Woken hearing.Clear) pl _
      (λ e q. free_unpaged (call_watch call) e (subst (IsHome free (call_watch call)) q pl.home)) tt
      (record { same = refl; home = pl.home; calm = refl; taken = refl })
