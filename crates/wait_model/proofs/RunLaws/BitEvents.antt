-- Each event by which a bit is taken or waited for is fine, and so are the publish of a bit or a variable and the
-- look for members after it.
use Rattle.std.proofs.Common.{refl, arith}
use Rattle.std.specs.Prelude.{ℕ, ◌≡◌, ◌+◌, ◌<◌, Bool, true, false, not, ◌&&◌, if◌then◌else◌}
use Rattle.wait_model.specs.{declared.layout.TheConstants.TASKS, declared.calls.Call.Call, declared.calls.Event.Event}
use Rattle.wait_model.specs.{declared.points.BitPoint.BitPoint, declared.points.Next.Next}
use Rattle.wait_model.specs.{declared.points.Planned.Planned, declared.points.Point.Point, declared.watches.Watch.Watch}
use Rattle.wait_model.specs.{Tables.value_of, Words.bit_at, Words.flag}
use Rattle.wait_model.specs.Points.{call_watch, is_await, is_bit_wait, is_lock, call_number, call_head, state_in}
use Rattle.wait_model.specs.Points.{given_at}
use Rattle.wait_model.specs.Programs.{go, ends_with, zero_answer, sleep_event, active_event, no_walk}
use Rattle.wait_model.specs.Reached.{IsPlaced, IsSoundCall, IsCallSound, IsSound, KeepsCleared}
use Rattle.wait_model.specs.Runs.{State, own, seen_by, planned, progress_at}
use Rattle.wait_model.specs.Tasks.{pending, state_mask, looks_in}
use Rattle.wait_model.specs.Watches.{is_bit, word_of, bit_of, misses}
use Rattle.wait_model.proofs.WordLaws.CondWords.{var_store}
use Rattle.wait_model.proofs.RunLaws.FineEvents.{Fine, Leads, outside, still_fine, store_fine, tas_fine, clear_fine, leads_by}
use Rattle.wait_model.proofs.RunLaws.FineEvents.{active_fine}
use Rattle.wait_model.proofs.RunLaws.WaitEvents.{off_waits, off_free, own_read, to, head_small, loads, load_small}
use Rattle.wait_model.specs.declared.calls.Call.TheVariants as calls
use Rattle.wait_model.specs.declared.calls.Event.TheVariants as event
use Rattle.wait_model.specs.declared.points.BitPoint.TheVariants as biting
use Rattle.wait_model.specs.declared.points.FinishPoint.TheVariants as finishing
use Rattle.wait_model.specs.declared.points.Next.TheVariants as next
use Rattle.wait_model.specs.declared.points.Point.TheVariants as at
use Rattle.wait_model.specs.declared.points.PreparePoint.TheVariants as preparing
use Rattle.wait_model.specs.declared.points.Progress.TheVariants as now
use Rattle.wait_model.specs.declared.points.WalkPoint.TheVariants as walking
use Rattle.wait_model.specs.declared.watches.Watch.TheVariants as watch

-- a call that waits for a bit is about one, and waits for no completion
waits_bit : (call : Call) → is_bit_wait call ≡ true → is_bit (call_watch call) ≡ true
waits_bit (calls.WaitBit w b st) h = refl
waits_bit (calls.LockBit w b st) h = refl
waits_bit call h = absurd (cc)

no_await : (call : Call) → is_bit_wait call ≡ true → is_await call ≡ false
no_await (calls.WaitFor d st) h = absurd (cc)
no_await call h = refl

bit_is : (c : Watch) → is_bit c ≡ true → c ≡ watch.Bit (word_of c) (bit_of c)
bit_is (watch.Bit w b) h = refl
bit_is _ h = absurd (cc)

module _ (s : State) (n me : ℕ) (call : Call) (sound : IsSound s n) (mine : me < TASKS) where
  abbrev F : Point → Planned → Type 0
  F p x = Fine s n me call sound mine (given_at call p) x

  abbrev P : Point → Type 0
  P p = IsPlaced s.table.entry (s.table.view me) me (now.Open call p)

  abbrev L : Point → Next → Type 0
  L p x = Leads s n me call sound mine p (progress_at call x)

  -- the exchange that sets the call's bit, and the load of its word
  abbrev pub found : ℕ
  found = value_of s.table.words (call_watch call)

  abbrev pub taking : Event
  taking = event.Tas (word_of (call_watch call)) (bit_of (call_watch call))
      (flag (bit_at found (bit_of (call_watch call))))

  abbrev loading : Event
  loading = event.Load (call_number call) found

  pub take_fine : (p : Point) (x : Next) → P p → IsCallSound n call p → is_bit (call_watch call) ≡ true
      → IsSoundCall (n + 1) (progress_at call x) → L p x → F p (record { event = taking; next = x })
  take_fine p x pl k b next_call leads = tas_fine s n me call sound mine p pl (word_of (call_watch call))
      (bit_of (call_watch call)) (flag (bit_at found (bit_of (call_watch call)))) x (bit_is (call_watch call) b)
      k.watch next_call leads

  load_fine : (p : Point) (x : Next) → P p → IsCallSound n call p
      → IsSoundCall (n + 1) (progress_at call x) → L p x → F p (record { event = loading; next = x })
  load_fine p x pl k next_call leads = still_fine s n me call sound mine p pl
      (record { event = loading; next = x }) tt (load_small s n me call sound mine p k) tt
      (loads s n me call sound mine p k, tt) next_call leads

  -- a wait loads the word, and one that takes the bit tries to set it
  ask_fine : (lock : Bool) (p : Point) (x : Next) → P p → IsCallSound n call p → is_bit_wait call ≡ true
      → IsSoundCall (n + 1) (progress_at call x) → L p x
      → F p (record { event = if lock then taking else loading; next = x })
  ask_fine true p x pl k w next_call leads = take_fine p x pl k (waits_bit call w) next_call leads
  ask_fine false p x pl k w next_call leads = load_fine p x pl k next_call leads

  first_fine : (b : Bool) → IsCallSound n call (at.Bit biting.First) → P (at.Bit biting.First)
      → F (at.Bit biting.First) (if b then go (if is_lock call then taking else loading) (at.Prepare preparing.Lock)
      else ends_with (if is_lock call then taking else loading) zero_answer)
  first_fine true k pl = ask_fine (is_lock call) (at.Bit biting.First) (next.Go (at.Prepare preparing.Lock)) pl k
      k.fitted (to s n me call sound mine (at.Bit biting.First) (at.Prepare preparing.Lock) k refl tt
      (no_await call k.fitted))
      (leads_by s n me call sound mine refl (off_waits (call_watch call) (s.table.entry (own me)) pl.home)
      refl refl)
  first_fine false k pl = ask_fine (is_lock call) (at.Bit biting.First) (next.Ends zero_answer) pl k k.fitted tt
      (leads_by s n me call sound mine refl (off_free (call_watch call) (watch.Plain 0) (s.table.entry (own me)) pl.home)
      refl refl)

  -- after preparing
  test_fine : (b : Bool) → IsCallSound n call (at.Bit biting.Load) → P (at.Bit biting.Load)
      → F (at.Bit biting.Load) (go loading (at.Bit (if b then biting.Sleep else biting.Again false)))
  test_fine true k pl = load_fine (at.Bit biting.Load) (next.Go (at.Bit biting.Sleep)) pl k
      (to s n me call sound mine (at.Bit biting.Load) (at.Bit biting.Sleep) k refl tt k.fitted)
      (record { same = refl; home = pl.home; calm = refl; taken = refl })
  test_fine false k pl = load_fine (at.Bit biting.Load) (next.Go (at.Bit (biting.Again false))) pl k
      (to s n me call sound mine (at.Bit biting.Load) (at.Bit (biting.Again false)) k refl tt k.fitted)
      (record { same = refl; home = pl.home; calm = refl; taken = refl })

  sleep_fine : (b : Bool) → IsCallSound n call (at.Bit biting.Sleep) → P (at.Bit biting.Sleep)
      → F (at.Bit biting.Sleep) (sleep_event (seen_by s me call (at.Bit biting.Sleep))
      (at.Bit (if b then biting.Look else biting.Again false)))
  sleep_fine true k pl = still_fine s n me call sound mine (at.Bit biting.Sleep) pl _ tt tt tt
      ((own_read s n me call sound mine, outside s n me call sound mine (at.Bit biting.Sleep) pl refl), tt)
      (to s n me call sound mine (at.Bit biting.Sleep) (at.Bit biting.Look) k refl tt k.fitted)
      (record { same = refl; home = pl.home; calm = refl; taken = refl })
  sleep_fine false k pl = still_fine s n me call sound mine (at.Bit biting.Sleep) pl _ tt tt tt
      ((own_read s n me call sound mine, outside s n me call sound mine (at.Bit biting.Sleep) pl refl), tt)
      (to s n me call sound mine (at.Bit biting.Sleep) (at.Bit (biting.Again false)) k refl tt k.fitted)
      (record { same = refl; home = pl.home; calm = refl; taken = refl })

  look_fine : (hit lock : Bool) → IsCallSound n call (at.Bit biting.Look) → P (at.Bit biting.Look)
      → F (at.Bit biting.Look) (go (event.Look hit)
      (if lock then at.Finish finishing.State true else at.Bit (biting.Again hit)))
  look_fine hit true k pl = still_fine s n me call sound mine (at.Bit biting.Look) pl _ tt tt tt
      (own_read s n me call sound mine, tt)
      (to s n me call sound mine (at.Bit biting.Look) (at.Finish finishing.State true) k refl tt (λ _. k.fitted))
      (record { same = refl; home = pl.home; calm = refl; taken = refl })
  look_fine hit false k pl = still_fine s n me call sound mine (at.Bit biting.Look) pl _ tt tt tt
      (own_read s n me call sound mine, tt)
      (to s n me call sound mine (at.Bit biting.Look) (at.Bit (biting.Again hit)) k refl tt k.fitted)
      (record { same = refl; home = pl.home; calm = refl; taken = refl })

  again_fine : (failed more : Bool) → IsCallSound n call (at.Bit (biting.Again failed))
      → P (at.Bit (biting.Again failed)) → F (at.Bit (biting.Again failed))
      (go (if is_lock call then taking else loading)
      (if more then at.Prepare preparing.Lock else at.Finish finishing.State failed))
  again_fine failed true k pl = ask_fine (is_lock call) (at.Bit (biting.Again failed))
      (next.Go (at.Prepare preparing.Lock)) pl k k.fitted
      (to s n me call sound mine (at.Bit (biting.Again failed)) (at.Prepare preparing.Lock) k refl tt
      (no_await call k.fitted))
      (record { same = refl; home = pl.home; calm = refl; taken = refl })
  again_fine failed false k pl = ask_fine (is_lock call) (at.Bit (biting.Again failed))
      (next.Go (at.Finish finishing.State failed)) pl k k.fitted
      (to s n me call sound mine (at.Bit (biting.Again failed)) (at.Finish finishing.State failed) k refl tt
      (λ _. k.fitted))
      (record { same = refl; home = pl.home; calm = refl; taken = refl })

  pub bit_fine : (p : BitPoint) → IsCallSound n call (at.Bit p) → P (at.Bit p)
      → F (at.Bit p) (planned s me call (at.Bit p))
  bit_fine biting.Try k pl = take_fine (at.Bit biting.Try) (next.Ends _) pl k k.fitted tt
      (record { same = refl; home = pl.home; calm = refl; taken = refl })
  bit_fine biting.First k pl = first_fine (misses (call_watch call) found) k pl
  bit_fine biting.Load k pl = test_fine (misses (call_watch call) found) k pl
  bit_fine biting.Sleep k pl = sleep_fine (looks_in (state_in call)) k pl
  bit_fine biting.Look k pl = look_fine (pending (state_mask (state_in call)) (s.table.task me))
      (pending (state_mask (state_in call)) (s.table.task me) && is_lock call) k pl
  bit_fine (biting.Again failed) k pl = again_fine failed (misses (call_watch call) found && not failed) k pl
  bit_fine biting.Last k pl = take_fine (at.Bit biting.Last) (next.Ends _) pl k (waits_bit call k.fitted) tt
      (leads_by s n me call sound mine refl (off_free (call_watch call) (watch.Plain 0) (s.table.entry (own me)) pl.home)
      refl refl)

  -- the look for members, and the walk where there are some
  pub members_fine : (b : Bool) → IsCallSound n call at.Active → P at.Active → F at.Active (active_event call b)
  members_fine true k pl = active_fine s n me call sound mine at.Active pl (call_head call) true
      (next.Go (at.Walk walking.Lock)) (head_small s n me call sound mine at.Active k) refl
      (to s n me call sound mine at.Active (at.Walk walking.Lock) k refl tt tt)
      (record { same = refl; home = pl.home; calm = refl; taken = refl })
  members_fine false k pl = active_fine s n me call sound mine at.Active pl (call_head call) false
      (next.Ends no_walk) (head_small s n me call sound mine at.Active k) refl tt
      (record { same = refl; home = pl.home; calm = refl; taken = refl })

-- the clear of a bit that the task keeps, or the store of a variable
pub publish_fine : (s : State) (n me : ℕ) (call : Call) (sound : IsSound s n) (mine : me < TASKS)
    → IsCallSound n call at.Publish → IsPlaced s.table.entry (s.table.view me) me (now.Open call at.Publish)
    → KeepsCleared (now.Open call at.Publish) (s.table.view me) → (s.table.task me).state ≡ 0
    → Fine s n me call sound mine (given_at call at.Publish) (planned s me call at.Publish)
publish_fine s n me (calls.ClearBit w b) sound mine k pl keeps rest =
    clear_fine s n me (calls.ClearBit w b) sound mine at.Publish pl w b (next.Go at.Active) refl k.watch refl rest
    keeps (to s n me (calls.ClearBit w b) sound mine at.Publish at.Active k refl tt tt)
    (record { same = refl; home = pl.home; calm = refl; taken = refl })
publish_fine s n me (calls.SetVar v x) sound mine k pl keeps rest =
    store_fine s n me (calls.SetVar v x) sound mine at.Publish pl x (next.Go at.Active) k.watch refl
    (λ l u. absurd (omega (arith, l, u)))
    (var_store s.table me v 0 (outside s n me (calls.SetVar v x) sound mine at.Publish pl refl) x)
    (to s n me (calls.SetVar v x) sound mine at.Publish at.Active k refl tt tt)
    (record { same = refl; home = pl.home; calm = refl; taken = refl })
publish_fine s n me call sound mine k pl keeps rest = absurd (let f = k.fitted in cc)
