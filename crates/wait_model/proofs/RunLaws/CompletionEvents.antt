-- Each event of a selection, of a wait for a completion, and of a look at a done count is fine.
use Rattle.wait_model.specs.{declared.layout.TheConstants.TASKS, declared.layout.TheConstants.ENTRIES}
use Rattle.wait_model.specs.{DoneCounts.IsStored, Counts.taken_done, declared.queues.Member.Member}
use Rattle.wait_model.specs.{declared.calls.Call.Call, declared.points.Point.Point}
use Rattle.wait_model.specs.{declared.points.SelectPoint.SelectPoint, declared.points.AwaitPoint.AwaitPoint}
use Rattle.wait_model.specs.{declared.points.CountPoint.CountPoint, declared.points.Planned.Planned}
use Rattle.wait_model.specs.{declared.watches.Entry.Entry, declared.watches.Watch.Watch, Queues.is_entry}
use Rattle.wait_model.specs.{Queues.entry_from, Tables.value_of}
use Rattle.wait_model.specs.Programs.{done_in, go, ends_with, zero_answer, signalled, is_at_end, completed, select_from}
use Rattle.wait_model.specs.Programs.{is_enough, select_ends, select_next, await_after, count_from, takes}
use Rattle.wait_model.specs.Reached.{is_amid_function, absent, waits, IsHome, HomeAt, holds, IsTaken, IsQueued}
use Rattle.wait_model.specs.Reached.{IsMember, IsPlaced, IsWalkSound, IsSimpleHead, IsFitted, IsCallSound, IsSound}
use Rattle.wait_model.specs.Runs.{State, own, called_as, called_by, called_of, planned}
use Rattle.wait_model.specs.Tasks.{meets, task_word, task_of, looks_in}
use Rattle.wait_model.specs.Watches.{owner, is_done, is_bit, mask_of}
use Rattle.wait_model.specs.Points.{is_await, is_bit_wait, call_watch, call_head, call_number, state_in, called_task}
use Rattle.wait_model.specs.Points.{head_at, given_at}
use Rattle.std.proofs.Common.{refl, sym, ◌∙◌, ap, subst, arith, inl, inr}
use Rattle.std.specs.Prelude.{ℕ, ◌≡◌, ◌+◌, ◌<◌, ◌≤◌, Option, Some, None, Bool, true, false, not, ◌&&◌, ◌==◌}
use Rattle.std.specs.Prelude.{if◌then◌else◌, is_some}
use Rattle.wait_model.specs.declared.watches.Watch.TheVariants as watch
use Rattle.wait_model.proofs.{QueueLaws.QueueOrder.IsFirstFrom, QueueLaws.QueueOrder.first_is}
use Rattle.wait_model.proofs.{WordLaws.DecodedWords.task_read, WordLaws.DecodedWords.owner_own, Functions.put_at}
use Rattle.wait_model.proofs.QueueLaws.MemberStands.{member_is}
use Rattle.wait_model.proofs.WordLaws.CondWords.{await_done, head_below, number_value, done_simple, simple_counted}
use Rattle.wait_model.proofs.WordLaws.CondWords.{going_at, done_store, raised_counts, taken_counts, unpaged_at}
use Rattle.wait_model.proofs.RunLaws.FineEvents.{Fine, Leads, inside, still_fine, still_on, store_fine, lock_fine}
use Rattle.wait_model.proofs.RunLaws.FineEvents.{unlock_fine, unqueue_fine, none_there}
use Rattle.wait_model.proofs.RunLaws.WaitEvents.{off_waits, off_free, none_absent, no_spend, may_spend, loads}
use Rattle.wait_model.proofs.RunLaws.WaitEvents.{load_small, head_small, to, state_fine, own_gone, gone_home}
use Rattle.std.proofs.lemmas.Bool.Decides.{nat_tests}
use Rattle.wait_model.specs.declared.watches.Mode.TheVariants as mode
use Rattle.wait_model.specs.declared.calls.Call.TheVariants as calls
use Rattle.wait_model.specs.declared.calls.Event.TheVariants as event
use Rattle.wait_model.specs.declared.points.Point.TheVariants as at
use Rattle.wait_model.specs.declared.points.PreparePoint.TheVariants as preparing
use Rattle.wait_model.specs.declared.points.SelectPoint.TheVariants as selecting
use Rattle.wait_model.specs.declared.points.AwaitPoint.TheVariants as awaiting
use Rattle.wait_model.specs.declared.points.CountPoint.TheVariants as counting
use Rattle.wait_model.specs.declared.points.Next.TheVariants as next
use Rattle.wait_model.specs.declared.points.Progress.TheVariants as now

-- where a selection goes after its lock, and a look at a done count
record IsAfterLock (call : Call) (q : Point) : Type 0 where
  held : holds q ≡ true
  numbers : (n : ℕ) → IsWalkSound n q
  fitted : IsFitted call q
  taken : is_amid_function q ≡ false

select_begins : (call : Call) → IsSimpleHead (call_watch call) → IsAfterLock call (at.Select (select_from call))
select_begins (calls.Complete d) h = record { held = refl; numbers = λ n. tt; fitted = refl; taken = refl }
select_begins (calls.CompleteAll d) h = record { held = refl; numbers = λ n. tt; fitted = refl; taken = refl }
select_begins call h = record { held = refl; numbers = λ n. omega arith; fitted = h; taken = refl }

count_begins : (call : Call) → is_done (call_watch call) ≡ true → IsAfterLock call (at.Count (count_from call))
count_begins (calls.TryWait d) h = record { held = refl; numbers = λ n. tt; fitted = h; taken = refl }
count_begins (calls.Reinit d) h = record { held = refl; numbers = λ n. tt; fitted = h; taken = refl }
count_begins call h = record { held = refl; numbers = λ n. tt; fitted = h; taken = refl }

-- a done count is no word of bits
done_word : (c : Watch) → is_done c ≡ true → is_bit c ≡ false
done_word (watch.Bit i b) h = absurd (cc)
done_word _ h = refl

completed_counts : (call : Call) (done : ℕ) → IsStored (completed call done) done
completed_counts (calls.CompleteAll d) done = (omega arith, inr (inr (inr refl)))
completed_counts call done = raised_counts done

module _ (s : State) (n me : ℕ) (call : Call) (sound : IsSound s n) (mine : me < TASKS) where
  abbrev F : Point → Planned → Type 0
  F p x = Fine s n me call sound mine (given_at call p) x

  abbrev P : Point → Type 0
  P p = IsPlaced s.table.entry (s.table.view me) me (now.Open call p)

  abbrev done_now : ℕ
  done_now = value_of s.table.words (call_watch call)

  read_task : (who : ℕ) → task_of (task_word (s.table.task who)) ≡ s.table.task who
  read_task who = task_read (s.table.task who) (sound.lawful who)

  -- a store of the done count in the hold of its head
  done_fine : (p : Point) → P p → holds p ≡ true → (head_at call p ≡ call_head call) → IsCallSound n call p
      → is_done (call_watch call) ≡ true → (v : ℕ) → IsStored v done_now → (q : Point) → IsCallSound (n + 1) call q
      → Leads s n me call sound mine p (now.Open call q) → F p (go (event.Set (call_number call) v) q)
  done_fine p pl within head k done v counts q next_call leads =
      store_fine s n me call sound mine p pl v (next.Go q) k.watch (done_word (call_watch call) done)
      (λ l u. subst (λ (f : ℕ). IsStored v f) (sym (number_value s.table (call_watch call) k.watch)) counts)
      (done_store s.table me (call_watch call) done
      (inside s n me call sound mine p pl within ∙ ap (λ h. Some h) head) v) next_call leads

  -- a load of the call's condition from one place to another
  load_fine : (p q : Point) → P p → IsCallSound n call p → IsCallSound (n + 1) call q
      → Leads s n me call sound mine p (now.Open call q)
      → F p (go (event.Load (call_number call) done_now) q)
  load_fine p q pl k next_call leads = still_fine s n me call sound mine p pl _ tt
      (load_small s n me call sound mine p k) tt (loads s n me call sound mine p k, tt) next_call leads

  -- a selection
  select_load_fine : (b : Bool) → IsCallSound n call (at.Select selecting.Load) → P (at.Select selecting.Load)
      → F (at.Select selecting.Load) (go (event.Load (call_number call) done_now)
      (at.Select (if b then selecting.Next 0 else selecting.Store)))
  select_load_fine true k pl = load_fine (at.Select selecting.Load) (at.Select (selecting.Next 0)) pl k
      (to s n me call sound mine (at.Select selecting.Load) (at.Select (selecting.Next 0)) k refl (omega arith)
      (done_simple (call_watch call) k.fitted))
      (record { same = refl; home = pl.home; calm = refl; taken = refl })
  select_load_fine false k pl = load_fine (at.Select selecting.Load) (at.Select selecting.Store) pl k
      (to s n me call sound mine (at.Select selecting.Load) (at.Select selecting.Store) k refl tt k.fitted)
      (record { same = refl; home = pl.home; calm = refl; taken = refl })

  module _ (j : ℕ) (k : IsCallSound n call (at.Select (selecting.Next j))) (pl : P (at.Select (selecting.Next j)))
    where
      held : (s.table.view me).hold.head ≡ Some (call_head call)
      held = inside s n me call sound mine (at.Select (selecting.Next j)) pl refl

      -- the unlock that ends it
      select_ends_fine : (spent : Bool) → F (at.Select (selecting.Next j)) (select_ends call j spent)
      select_ends_fine true = unlock_fine s n me call sound mine (at.Select (selecting.Next j)) pl
          (call_head call) true (next.Ends _) refl refl
          (head_small s n me call sound mine (at.Select (selecting.Next j)) k)
          (may_spend s n me call sound mine k.watch (simple_counted (call_watch call) k.fitted) held)
          tt refl pl.home refl refl
      select_ends_fine false = unlock_fine s n me call sound mine (at.Select (selecting.Next j)) pl
          (call_head call) false (next.Ends _) refl refl
          (head_small s n me call sound mine (at.Select (selecting.Next j)) k)
          (no_spend s n me call sound mine) tt refl pl.home refl refl

      -- the first entry of the queue
      module _ (m : Member) (it : IsMember s.table.entry (call_head call) m) where
        q : IsQueued n m.at it.entry
        q = sound.linked.entries m.at it.entry it.stands

        whose : owner m.at ≡ q.task
        whose = ap owner q.is_own ∙ owner_own q.task

        number : owner m.at < TASKS
        number = subst (λ (i : ℕ). i < TASKS) (sym whose) q.number

        stands_there : s.table.entry (own (owner m.at)) ≡ Some it.entry
        stands_there = ap (λ (i : ℕ). s.table.entry (own i)) whose ∙ ap s.table.entry (sym q.is_own) ∙ it.stands

        chosen_fine : (hit : Bool) → F (at.Select (selecting.Next j)) (select_next call j
            (Some (called_of (owner m.at) it.entry)) hit)
        chosen_fine hit = record {
          allows = number;
          joins = tt;
          changes = tt;
          next_call = to s n me call sound mine (at.Select (selecting.Next j))
              (at.Select (selecting.Off (j + 1) (owner m.at))) k refl
              ((let l : j ≤ n = k.walk in omega arith), number) k.fitted;
          made = λ _. (read_task (owner m.at), tt);
          placed = record {
            head = held;
            home = pl.home;
            off_book = λ pr z. absurd (cc);
            flagged = λ d t. absurd (cc);
            taken = λ who t. let same : owner m.at ≡ who = cc in record {
              it = it.entry;
              stands = subst (λ (i : ℕ). s.table.entry (own i) ≡ Some it.entry) same stands_there;
              head = ap (λ (i : ℕ). Some i) (sym it.head);
              kind = going_at it.entry.watch it.entry.kind (call_watch call) q.lawful.suited k.watch k.fitted
                  it.head;
              unpaged = unpaged_at it.entry.watch it.entry.kind (call_watch call) q.lawful.suited k.watch k.fitted
                  it.head;
            };
          };
        }

      select_next_fine : (m : Option Member) → IsFirstFrom is_entry 0 (s.queue (call_head call)) m
          → F (at.Select (selecting.Next j)) (select_next call j (called_by s.table.entry m)
          (meets (mask_of mode.Normal) (s.table.task (called_task (called_by s.table.entry m))).state))
      select_next_fine None f = select_ends_fine false
      select_next_fine (Some m) f =
          let small : m.at < ENTRIES = (let t : is_entry m ≡ true = f.1 in grind (arith, nat_tests)) in
          let e : IsMember s.table.entry (call_head call) m =
          member_is s.table.entry s.table.mark s.queue n (call_head call) m sound.linked.ordered small f.0 in
          subst (λ (o : Option Entry). F (at.Select (selecting.Next j)) (select_next call j
          (called_as (owner m.at) o)
          (meets (mask_of mode.Normal) (s.table.task (called_task (called_as (owner m.at) o))).state)))
          (sym e.stands)
          (chosen_fine m e (meets (mask_of mode.Normal) (s.table.task (owner m.at)).state))

      select_turn_fine : (b : Bool) → F (at.Select (selecting.Next j)) (if b then select_ends call j true
          else select_next call j (called_by s.table.entry (entry_from 0 (s.queue (call_head call))))
          (meets (mask_of mode.Normal)
          (s.table.task (called_task (called_by s.table.entry (entry_from 0 (s.queue (call_head call)))))).state))
      select_turn_fine true = select_ends_fine true
      select_turn_fine false = select_next_fine (entry_from 0 (s.queue (call_head call)))
          (first_is is_entry 0 (s.queue (call_head call)) (sound.linked.ordered.order (call_head call)))

  pub select_fine : (p : SelectPoint) → IsCallSound n call (at.Select p) → P (at.Select p)
      → F (at.Select p) (planned s me call (at.Select p))
  select_fine selecting.Lock k pl =
      let b : IsAfterLock call (at.Select (select_from call)) = select_begins call k.fitted in
      lock_fine s n me call sound mine (at.Select selecting.Lock) pl (call_head call) refl
      (at.Select (select_from call)) (head_small s n me call sound mine (at.Select selecting.Lock) k) refl b.held
      refl (to s n me call sound mine (at.Select selecting.Lock) (at.Select (select_from call)) k refl
      (b.numbers (n + 1)) b.fitted) pl.home b.taken
  select_fine selecting.Load k pl = select_load_fine (is_at_end done_now) k pl
  select_fine selecting.Store k pl = done_fine (at.Select selecting.Store) pl refl refl k k.fitted
      (completed call done_now) (completed_counts call done_now) (at.Select (selecting.Next 0))
      (to s n me call sound mine (at.Select selecting.Store) (at.Select (selecting.Next 0)) k refl (omega arith)
      (done_simple (call_watch call) k.fitted))
      (record { same = refl; home = pl.home; calm = refl; taken = refl })
  select_fine (selecting.Next j) k pl = select_turn_fine j k pl (is_enough call j)
  select_fine (selecting.Off j who) k pl = unqueue_fine s n me call sound mine (at.Select (selecting.Off j who)) pl
      (at.Select (selecting.Next j)) who k.walk.1
      (record { it = t.it; stands = t.stands; head = pl.head ∙ t.head; goes = inr t.kind })
      (to s n me call sound mine (at.Select (selecting.Off j who)) (at.Select (selecting.Next j)) k refl
      (let l : j ≤ n = k.walk.0 in omega arith) k.fitted)
      refl refl refl
      (put_at (HomeAt (now.Open call (at.Select (selecting.Next j)))) s.table.entry (own who) None (own me)
      (λ _. tt) (λ _. pl.home))
    where
      t : IsTaken s.table.entry who (Some (call_head call))
      t = pl.taken who refl

  -- a wait for a completion: its end, at a place inside the hold where the own entry is off
  ends_fine : (p : Point) → holds p ≡ true → head_at call p ≡ call_head call → IsCallSound n call p
      → is_await call ≡ true → P p → IsHome absent (call_watch call) (s.table.entry (own me))
      → (b e : Bool)
      → F p (if b then ends_with (event.Unlock (call_head call) false) signalled
      else (if e then ends_with (event.Unlock (call_head call) false) zero_answer
      else go (event.Set (call_number call) (taken_done (done_in done_now))) (at.Await awaiting.Unlock)))
  ends_fine p within head k waits_here pl off true e = unlock_fine s n me call sound mine p pl (call_head call) false
      (next.Ends signalled) within head (head_below (call_watch call) k.watch) (no_spend s n me call sound mine) tt
      refl (off_free (call_watch call) (call_watch call) (s.table.entry (own me)) off) refl refl
  ends_fine p within head k waits_here pl off false true = unlock_fine s n me call sound mine p pl (call_head call)
      false (next.Ends zero_answer) within head (head_below (call_watch call) k.watch)
      (no_spend s n me call sound mine) tt refl
      (off_free (call_watch call) (call_watch call) (s.table.entry (own me)) off) refl refl
  ends_fine p within head k waits_here pl off false false = done_fine p pl within head k
      (await_done call waits_here) (taken_done (done_in done_now))
      (taken_counts done_now) (at.Await awaiting.Unlock)
      (to s n me call sound mine p (at.Await awaiting.Unlock) k refl tt waits_here)
      (record {
        same = ap (λ b. if b then Some (head_at call p) else None) within ∙ ap (λ h. Some h) head;
        home = off;
        calm = refl;
        taken = refl;
      })

  await_lock_fine : (waited : Bool) → IsCallSound n call (at.Await (awaiting.Lock waited))
      → P (at.Await (awaiting.Lock waited)) → F (at.Await (awaiting.Lock waited))
      (go (event.Lock (call_head call)) (at.Await (awaiting.Load waited)))
  await_lock_fine true k pl = lock_fine s n me call sound mine (at.Await (awaiting.Lock true)) pl (call_head call)
      refl (at.Await (awaiting.Load true)) (head_small s n me call sound mine (at.Await (awaiting.Lock true)) k) tt
      refl refl (to s n me call sound mine (at.Await (awaiting.Lock true)) (at.Await (awaiting.Load true)) k refl tt
      k.fitted) pl.home refl
  await_lock_fine false k pl = lock_fine s n me call sound mine (at.Await (awaiting.Lock false)) pl
      (call_head call) refl (at.Await (awaiting.Load false))
      (head_small s n me call sound mine (at.Await (awaiting.Lock false)) k) tt refl refl
      (to s n me call sound mine (at.Await (awaiting.Lock false)) (at.Await (awaiting.Load false)) k refl tt
      k.fitted) pl.home refl

  -- the load after the lock: the call prepares again, or takes the count
  await_load_on : (waited b : Bool) → IsCallSound n call (at.Await (awaiting.Load waited))
      → P (at.Await (awaiting.Load waited)) → IsHome waits (call_watch call) (s.table.entry (own me))
      → F (at.Await (awaiting.Load waited)) (go (event.Load (call_number call) done_now)
      (at.Prepare (if b then preparing.Look else preparing.Queue)))
  await_load_on waited true k pl home = still_on s n me call sound mine (at.Await (awaiting.Load waited)) pl _ tt
      (load_small s n me call sound mine (at.Await (awaiting.Load waited)) k) tt
      (loads s n me call sound mine (at.Await (awaiting.Load waited)) k, tt)
      (to s n me call sound mine (at.Await (awaiting.Load waited)) (at.Prepare preparing.Look) k refl tt tt)
      (record { same = refl; home = home; prepared = refl; taken = refl })
  await_load_on waited false k pl home = still_on s n me call sound mine (at.Await (awaiting.Load waited)) pl _ tt
      (load_small s n me call sound mine (at.Await (awaiting.Load waited)) k) tt
      (loads s n me call sound mine (at.Await (awaiting.Load waited)) k, tt)
      (to s n me call sound mine (at.Await (awaiting.Load waited)) (at.Prepare preparing.Queue) k refl tt tt)
      (record { same = refl; home = home; prepared = refl; taken = refl })

  await_load_fine : (waited zero : Bool) → IsCallSound n call (at.Await (awaiting.Load waited))
      → P (at.Await (awaiting.Load waited)) → F (at.Await (awaiting.Load waited))
      (go (event.Load (call_number call) done_now) (await_after call waited zero))
  await_load_fine true true k pl = await_load_on true (not (is_bit_wait call) && looks_in (state_in call)) k pl pl.home
  await_load_fine false true k pl = await_load_on false (not (is_bit_wait call) && looks_in (state_in call)) k pl
      (off_waits (call_watch call) (s.table.entry (own me)) pl.home)
  await_load_fine true false k pl = load_fine (at.Await (awaiting.Load true)) (at.Await (awaiting.Run false)) pl k
      (to s n me call sound mine (at.Await (awaiting.Load true)) (at.Await (awaiting.Run false)) k refl tt
      k.fitted)
      (record { same = refl; home = pl.home; calm = refl; taken = refl })
  await_load_fine false false k pl = load_fine (at.Await (awaiting.Load false)) (at.Await (awaiting.Last false)) pl
      k (to s n me call sound mine (at.Await (awaiting.Load false)) (at.Await (awaiting.Last false)) k refl tt
      k.fitted)
      (record { same = refl; home = pl.home; calm = refl; taken = refl })

  await_off_fine : (stopped b : Bool) → is_some (s.table.entry (own me)) ≡ b
      → IsCallSound n call (at.Await (awaiting.Off stopped)) → P (at.Await (awaiting.Off stopped))
      → F (at.Await (awaiting.Off stopped)) (if b then go (event.Unqueue me) (at.Await (awaiting.Last stopped))
      else (if stopped then ends_with (event.Unlock (call_head call) false) signalled
      else (if is_at_end done_now then ends_with (event.Unlock (call_head call) false) zero_answer
      else go (event.Set (call_number call) (taken_done (done_in done_now))) (at.Await awaiting.Unlock))))
  await_off_fine stopped true there k pl = unqueue_fine s n me call sound mine (at.Await (awaiting.Off stopped)) pl
      (at.Await (awaiting.Last stopped)) me mine
      (own_gone s n me call sound mine (at.Await (awaiting.Off stopped)) pl pl.home refl refl there)
      (to s n me call sound mine (at.Await (awaiting.Off stopped)) (at.Await (awaiting.Last stopped)) k refl tt
      k.fitted) refl refl refl (gone_home s n me call sound mine (at.Await (awaiting.Last stopped)) tt)
  await_off_fine stopped false there k pl = ends_fine (at.Await (awaiting.Off stopped)) refl refl k k.fitted pl
      (none_absent (call_watch call) (s.table.entry (own me)) (none_there (s.table.entry (own me)) there)) stopped
      (is_at_end done_now)

  pub await_fine : (p : AwaitPoint) → IsCallSound n call (at.Await p) → P (at.Await p)
      → F (at.Await p) (planned s me call (at.Await p))
  await_fine (awaiting.Lock waited) k pl = await_lock_fine waited k pl
  await_fine (awaiting.Load waited) k pl = await_load_fine waited (done_now == 0) k pl
  await_fine (awaiting.Run stopped) k pl = state_fine s n me call sound mine (at.Await (awaiting.Run stopped))
      (at.Await (awaiting.Off stopped)) 0 pl (inl refl)
      (to s n me call sound mine (at.Await (awaiting.Run stopped)) (at.Await (awaiting.Off stopped)) k refl tt
      k.fitted)
      (record { same = refl; home = pl.home; calm = refl; taken = refl })
  await_fine (awaiting.Off true) k pl = await_off_fine true (is_some (s.table.entry (own me))) refl k pl
  await_fine (awaiting.Off false) k pl = await_off_fine false (is_some (s.table.entry (own me))) refl k pl
  await_fine (awaiting.Last true) k pl = ends_fine (at.Await (awaiting.Last true)) refl refl k k.fitted pl pl.home
      true (is_at_end done_now)
  await_fine (awaiting.Last false) k pl = ends_fine (at.Await (awaiting.Last false)) refl refl k k.fitted pl
      pl.home false (is_at_end done_now)
  await_fine awaiting.Unlock k pl = unlock_fine s n me call sound mine (at.Await awaiting.Unlock) pl
      (call_head call) false (next.Ends zero_answer) refl refl
      (head_small s n me call sound mine (at.Await awaiting.Unlock) k) (no_spend s n me call sound mine) tt refl
      (off_free (call_watch call) (call_watch call) (s.table.entry (own me)) pl.home) refl refl

  -- a look at a done count
  count_peek_fine : (b : Bool) → IsCallSound n call (at.Count counting.Peek) → P (at.Count counting.Peek)
      → F (at.Count counting.Peek) (if b then ends_with (event.Load (call_number call) done_now) zero_answer
      else go (event.Load (call_number call) done_now) (at.Count counting.Lock))
  count_peek_fine true k pl = still_fine s n me call sound mine (at.Count counting.Peek) pl _ tt
      (load_small s n me call sound mine (at.Count counting.Peek) k) tt
      (loads s n me call sound mine (at.Count counting.Peek) k, tt) tt
      (record { same = refl; home = pl.home; calm = refl; taken = refl })
  count_peek_fine false k pl = load_fine (at.Count counting.Peek) (at.Count counting.Lock) pl k
      (to s n me call sound mine (at.Count counting.Peek) (at.Count counting.Lock) k refl tt k.fitted)
      (record { same = refl; home = pl.home; calm = refl; taken = refl })

  count_load_fine : (b e : Bool) → IsCallSound n call (at.Count counting.Load) → P (at.Count counting.Load)
      → F (at.Count counting.Load) (go (event.Load (call_number call) done_now) (at.Count (if b
      then counting.Unlock false else (if e then counting.Unlock true else counting.Store))))
  count_load_fine true e k pl = load_fine (at.Count counting.Load) (at.Count (counting.Unlock false)) pl k
      (to s n me call sound mine (at.Count counting.Load) (at.Count (counting.Unlock false)) k refl tt k.fitted)
      (record { same = refl; home = pl.home; calm = refl; taken = refl })
  count_load_fine false true k pl = load_fine (at.Count counting.Load) (at.Count (counting.Unlock true)) pl k
      (to s n me call sound mine (at.Count counting.Load) (at.Count (counting.Unlock true)) k refl tt k.fitted)
      (record { same = refl; home = pl.home; calm = refl; taken = refl })
  count_load_fine false false k pl = load_fine (at.Count counting.Load) (at.Count counting.Store) pl k
      (to s n me call sound mine (at.Count counting.Load) (at.Count counting.Store) k refl tt k.fitted)
      (record { same = refl; home = pl.home; calm = refl; taken = refl })

  count_store_fine : (v : ℕ) (hit : Bool) → IsStored v done_now → IsCallSound n call (at.Count counting.Store)
      → P (at.Count counting.Store) → F (at.Count counting.Store) (go (event.Set (call_number call) v)
      (at.Count (counting.Unlock hit)))
  count_store_fine v hit counts k pl = done_fine (at.Count counting.Store) pl refl refl k k.fitted v counts
      (at.Count (counting.Unlock hit))
      (to s n me call sound mine (at.Count counting.Store) (at.Count (counting.Unlock hit)) k refl tt k.fitted)
      (record { same = refl; home = pl.home; calm = refl; taken = refl })

  stored_counts : (b : Bool) → IsStored (if b then taken_done (done_in done_now) else 0) done_now
  stored_counts true = taken_counts done_now
  stored_counts false = (omega arith, inr (inr (inl refl)))

  pub count_fine : (p : CountPoint) → IsCallSound n call (at.Count p) → P (at.Count p)
      → F (at.Count p) (planned s me call (at.Count p))
  count_fine counting.Peek k pl = count_peek_fine (done_now == 0) k pl
  count_fine counting.Lock k pl =
      let b : IsAfterLock call (at.Count (count_from call)) = count_begins call k.fitted in
      lock_fine s n me call sound mine (at.Count counting.Lock) pl (call_head call) refl
      (at.Count (count_from call)) (head_small s n me call sound mine (at.Count counting.Lock) k) tt b.held refl
      (to s n me call sound mine (at.Count counting.Lock) (at.Count (count_from call)) k refl
      (b.numbers (n + 1)) b.fitted) pl.home b.taken
  count_fine counting.Load k pl = count_load_fine (done_now == 0) (is_at_end done_now) k pl
  count_fine counting.Store k pl = count_store_fine (if takes call then taken_done (done_in done_now)
      else 0) (takes call)
      (stored_counts (takes call)) k pl
  count_fine (counting.Unlock hit) k pl = unlock_fine s n me call sound mine (at.Count (counting.Unlock hit)) pl
      (call_head call) false (next.Ends _) refl refl
      (head_small s n me call sound mine (at.Count (counting.Unlock hit)) k) (no_spend s n me call sound mine) tt
      refl pl.home refl refl
