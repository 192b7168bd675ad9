-- A wait for a bit gives up only after a turn that a signal ended: what its latest events are at each place.
use Rattle.std.proofs.lemmas.Bool.{both_ways}
use Rattle.std.proofs.Common.{refl, sym, ◌∙◌, ap, arith, inl}
use Rattle.std.proofs.lemmas.List.Elements.{All-nil, All-cons}
use Rattle.std.specs.Prelude.{ℕ, ◌≡◌, ◌≢◌, Bool, true, false, not, ◌&&◌, if◌then◌else◌, is_some, List, [], ◌∷◌, Option}
use Rattle.std.specs.Prelude.{Some, None}
use Rattle.wait_model.specs.{declared.calls.Call.Call, declared.calls.Event.Event, declared.tasks.Sleep.Sleep}
use Rattle.wait_model.specs.{declared.watches.Watch.Watch, declared.watches.Entry.Entry}
use Rattle.wait_model.specs.{declared.points.Planned.Planned, declared.points.Seen.Seen}
use Rattle.wait_model.specs.{declared.points.Progress.Progress, declared.points.Point.Point}
use Rattle.wait_model.specs.{declared.points.FinishPoint.FinishPoint, Words.bit_at, Words.flag, Tables.value_of}
use Rattle.wait_model.specs.Accounts.{Account}
use Rattle.wait_model.specs.Tasks.{pending, sleep_of, state_mask, looks_in}
use Rattle.wait_model.specs.Watches.{misses, word_of, bit_of}
use Rattle.wait_model.specs.Points.{call_watch, call_number, call_head, is_bit_wait, is_lock, state_in}
use Rattle.wait_model.specs.Programs.{go, ends_with, program_start, signalled_at, prepared_at, slept_at, signalled}
use Rattle.wait_model.specs.Programs.{interrupted, zero_answer, exchange, ask, look_event, await_after, page_last}
use Rattle.wait_model.specs.Runs.{State, own, seen_by, planned, progress_at}
use Rattle.wait_model.specs.Reached.{absent, IsFitted, HomeAt, IsHome}
use Rattle.wait_model.specs.Selections.{is_finish_event, is_page_lock, IsBrokenOff, IsGivenUp, IsPageGivenUp}
use Rattle.wait_model.specs.declared.calls.Call.TheVariants as calls
use Rattle.wait_model.specs.declared.calls.Event.TheVariants as event
use Rattle.wait_model.specs.declared.points.Next.TheVariants as next
use Rattle.wait_model.specs.declared.points.Progress.TheVariants as now
use Rattle.wait_model.specs.declared.points.Point.TheVariants as at
use Rattle.wait_model.specs.declared.points.PreparePoint.TheVariants as preparing
use Rattle.wait_model.specs.declared.points.LeavePoint.TheVariants as leaving
use Rattle.wait_model.specs.declared.points.FinishPoint.TheVariants as finishing
use Rattle.wait_model.specs.declared.points.AwaitPoint.TheVariants as awaiting
use Rattle.wait_model.specs.declared.points.BitPoint.TheVariants as biting
use Rattle.wait_model.proofs.{WaitLaws.WaitStages.FitsStage, WaitLaws.PageTurns.paging_locks}
use Rattle.wait_model.proofs.{AccountLaws.PageTrails.PageTrailAt, RunLaws.FineEvents.none_there}
use Rattle.wait_model.proofs.{AccountLaws.Refusals.refusal, AccountLaws.Refusals.not_interrupted}
use Rattle.wait_model.proofs.WaitLaws.OutsideStages.{either, both, unset, is_aside}
use Rattle.wait_model.specs.declared.points.PagePoint.TheVariants as paging
use Rattle.std.specs.Prelude.{◌⊎◌}
use Rattle.std.proofs.Common.{inl, inr}

abbrev pub EntryIsOff : Call → List Event → Type 0
EntryIsOff call trail = IsBrokenOff (call_head call) (call_number call) (bit_of (call_watch call)) trail

-- a wait for a bit gave its lock back, loaded the bit's word and found the bit set, and slept
abbrev pub IsLoaded : Call → List Event → Type 0
IsLoaded call trail = (rest : List Event) × (found : ℕ) × (bit_at found (bit_of (call_watch call)) ≡ true)
    × (trail ≡ event.Load (call_number call) found ∷ event.Unlock (call_head call) false ∷ rest)

abbrev pub IsSlept : Call → List Event → Type 0
IsSlept call trail = (rest : List Event) × (found : ℕ) × (sleep : Sleep)
    × (bit_at found (bit_of (call_watch call)) ≡ true)
    × (trail ≡ event.Sleep sleep ∷ event.Load (call_number call) found ∷ event.Unlock (call_head call) false ∷ rest)

-- what a task's latest events are at the places of a wait for a bit
abbrev pub IsBroken : Call → Point → List Event → Type 0
IsBroken call (at.Bit biting.Load) trail = (rest : List Event)
    × (trail ≡ event.Unlock (call_head call) false ∷ rest)
IsBroken call (at.Bit biting.Sleep) trail = IsLoaded call trail
IsBroken call (at.Bit biting.Look) trail = IsSlept call trail
IsBroken call (at.Bit (biting.Again true)) trail = (is_lock call ≡ false) × EntryIsOff call trail
IsBroken call (at.Bit biting.Last) trail = EntryIsOff call trail
IsBroken call (at.Finish p true) trail = EntryIsOff call trail
IsBroken call _ trail = Unit {0}

abbrev pub BrokenAt : Progress → List Event → Type 0
BrokenAt (now.Open call p) trail = IsBroken call p trail
BrokenAt now.Idle trail = Unit {0}
BrokenAt now.Fresh trail = Unit {0}

-- one more event of a finish
more : (head number bit : ℕ) (e : Event) (trail : List Event) → is_finish_event e ≡ true
    → IsBrokenOff head number bit trail → IsBrokenOff head number bit (e ∷ trail)
more head number bit e trail f b = record {
  finish = e ∷ b.finish;
  found = b.found;
  sleep = b.sleep;
  earlier = b.earlier;
  turn = ap (λ (l : List Event). e ∷ l) b.turn;
  is_finish = All-cons (λ d. is_finish_event d ≡ true) e b.finish f b.is_finish;
  set = b.set;
}

-- a look for a signal that found one
broken_off : (call : Call) (trail : List Event) → IsSlept call trail → EntryIsOff call (event.Look true ∷ trail)
broken_off call trail h = record {
  finish = [];
  found = h.1;
  sleep = h.2;
  earlier = h.0;
  turn = ap (λ (l : List Event). event.Look true ∷ l) h.4;
  is_finish = All-nil (λ d. is_finish_event d ≡ true);
  set = h.3;
}

-- a wait for a bit fails where the bit is set
pub bit_misses : (call : Call) (r : ℕ) → is_bit_wait call ≡ true
    → misses (call_watch call) r ≡ bit_at r (bit_of (call_watch call))
bit_misses (calls.WaitBit w b st) r h = refl
bit_misses (calls.LockBit w b st) r h = refl
bit_misses call r h = absurd (cc)

module _ (s : State) (me : ℕ) (call : Call) (trail : List Event) where
  -- after an event, at the place to which it leads
  abbrev B : Planned → Type 0
  B x = BrokenAt (progress_at call x.next) (x.event ∷ trail)

  abbrev Led : Event → Point → Type 0
  Led e q = IsBroken call q (e ∷ trail)

  abbrev found : ℕ
  found = value_of s.table.words (call_watch call)

  -- the places aside of a wait's turns say nothing of them
  broken_aside : (q : Point) (e : Event) → is_aside q ≡ true → Led e q
  broken_aside (at.Finish p true) e h = absurd (cc)
  broken_aside (at.Finish p false) e h = tt
  broken_aside (at.Bit p) e h = absurd (cc)
  broken_aside q e h = tt

  broken_signalled : (c : Call) (l : List Event) → IsBroken c (signalled_at c) l
  broken_signalled (calls.WaitFor d st) l = tt
  broken_signalled c l = tt

  broken_prepared : (c : Call) → IsBroken c (prepared_at c) (event.Unlock (call_head c) false ∷ trail)
  broken_prepared (calls.WaitBit w b st) = (trail, refl)
  broken_prepared (calls.LockBit w b st) = (trail, refl)
  broken_prepared c = tt

  broken_slept : (c : Call) (l : List Event) → IsBroken c (slept_at c) l
  broken_slept (calls.WaitFor d st) l = tt
  broken_slept c l = tt

  broken_await : (waited zero : Bool) (l : List Event) → IsBroken call (await_after call waited zero) l
  broken_await waited true l = tt
  broken_await true false l = tt
  broken_await false false l = tt

  -- the load after the hold, and the sleep
  broken_load : (b : Bool) → misses (call_watch call) found ≡ b → is_bit_wait call ≡ true → (rest : List Event)
      → trail ≡ event.Unlock (call_head call) false ∷ rest
      → Led (event.Load (call_number call) found) (at.Bit (if b then biting.Sleep else biting.Again false))
  broken_load true m w rest h = (
    rest,
    found,
    sym (bit_misses call found w) ∙ m,
    ap (λ (l : List Event). event.Load (call_number call) found ∷ l) h,
  )
  broken_load false m w rest h = tt

  broken_sleep : (x : Sleep) (b : Bool) → IsLoaded call trail
      → Led (event.Sleep x) (at.Bit (if b then biting.Look else biting.Again false))
  broken_sleep x true h = (h.0, h.1, x, h.2, ap (λ (l : List Event). event.Sleep x ∷ l) h.3)
  broken_sleep x false h = tt

  -- the look for a signal: who takes the bit finishes before it tries once more
  broken_look : (hit lock : Bool) → is_lock call ≡ lock → IsSlept call trail
      → Led (event.Look hit) (if hit && lock then at.Finish finishing.State true else at.Bit (biting.Again hit))
  broken_look true true l h = broken_off call trail h
  broken_look true false l h = (l, broken_off call trail h)
  broken_look false lock l h = tt

  broken_again : (e : Event) (b failed : Bool) → IsBroken call (at.Bit (biting.Again failed)) trail
      → (is_lock call ≡ false → is_finish_event e ≡ true)
      → Led e (if b && not failed then at.Prepare preparing.Lock else at.Finish finishing.State failed)
  broken_again e true true h f = more _ _ _ e trail (f h.0) h.1
  broken_again e false true h f = more _ _ _ e trail (f h.0) h.1
  broken_again e true false h f = tt
  broken_again e false false h f = tt

  ask_finishes : (seen : Seen) (b : Bool) → is_lock call ≡ b → b ≡ false → is_finish_event (ask call seen) ≡ true
  ask_finishes seen true l z = absurd (cc)
  ask_finishes seen false l z = ap
      (λ (b : Bool). is_finish_event (if b then exchange call seen else event.Load (call_number call) seen.value)) l

  broken_finished : (e : Event) (b : Bool) → is_finish_event e ≡ true → EntryIsOff call trail
      → B (if b then go e (at.Bit biting.Last) else ends_with e interrupted)
  broken_finished e true f h = more _ _ _ e trail f h
  broken_finished e false f h = tt

  broken_finish : (p : FinishPoint) → EntryIsOff call trail → B (planned s me call (at.Finish p true))
  broken_finish finishing.State h = more _ _ _ _ trail refl h
  broken_finish finishing.Look h = either B (is_some (s.table.entry (own me))) _ _ (more _ _ _ _ trail refl h)
      (broken_finished _ (is_lock call) refl h)
  broken_finish finishing.Lock h = more _ _ _ _ trail refl h
  broken_finish finishing.Queue h = either B (is_some (s.table.entry (own me))) _ _ (more _ _ _ _ trail refl h)
      (broken_finished _ (is_lock call) refl h)
  broken_finish finishing.Unlock h = broken_finished _ (is_lock call) refl h

  pub broken_step : (p : Point) → IsFitted call p → IsBroken call p trail → B (planned s me call p)
  broken_step (at.Prepare preparing.Look) f h = both (λ b. B (look_event call b))
      (pending (state_mask (state_in call)) (s.table.task me)) (broken_signalled call _) tt
  broken_step (at.Prepare preparing.Queue) f h = either B (is_some (s.table.entry (own me))) _ _ tt tt
  broken_step (at.Prepare preparing.Unlock) f h = broken_prepared call
  broken_step at.Test f h = either (Led (event.Load (call_number call) found)) (unset s call) _ _ tt tt
  broken_step at.Sleep f h = broken_slept call (event.Sleep (sleep_of (s.table.task me)) ∷ trail)
  broken_step (at.Leave leaving.Queue) f h = either B (is_some (s.table.entry (own me))) _ _ tt tt
  broken_step (at.Finish p true) f h = broken_finish p h
  broken_step (at.Bit biting.Load) f h = broken_load (unset s call) refl f h.0 h.1
  broken_step (at.Bit biting.Sleep) f h = broken_sleep (sleep_of (s.table.task me)) (looks_in (state_in call)) h
  broken_step (at.Bit biting.Look) f h = broken_look (pending (state_mask (state_in call)) (s.table.task me))
      (is_lock call) refl h
  broken_step (at.Bit (biting.Again failed)) f h = broken_again
      (ask call (seen_by s me call (at.Bit (biting.Again failed)))) (unset s call) failed h
      (ask_finishes (seen_by s me call (at.Bit (biting.Again failed))) (is_lock call) refl)
  broken_step (at.Await (awaiting.Load waited)) f h = broken_await waited _ _
  broken_step (at.Await (awaiting.Off true)) f h = either B (is_some (s.table.entry (own me))) _ _ tt tt
  broken_step p f h = grind arith

-- a call that is opened is in no such turn
pub start_broken : (call : Call) (trail : List Event) → IsBroken call (program_start call) trail
start_broken calls.Remove trail = tt
start_broken call trail = tt

-- an entry that is off
pub is_off : (o : Option Entry) (c : Watch) → IsHome absent c o → o ≡ None
is_off None c h = refl
is_off (Some e) c h = absurd h

module _ (s : State) (me : ℕ) (call : Call) (a : Account) where
  abbrev Gives : Planned → Type 0
  Gives x = x.next ≡ next.Ends interrupted → IsGivenUp s a me call x.event
      ⊎ IsPageGivenUp s a me call x.event

  -- an event after which the call goes on, or answers something else
  gives_not : (x : Planned) → refusal x.next ≢ refusal (next.Ends interrupted) → Gives x
  gives_not x h z = absurd (h (ap refusal z))

  gives_on : (e : Event) (p : Point) → Gives (go e p)
  gives_on e p = gives_not (go e p) (λ z. omega (arith, z))

  -- the end of a finish, with the entry off
  gives_finished : (e : Event) (b : Bool) → is_lock call ≡ b → is_bit_wait call ≡ true → EntryIsOff call (a.trail me)
      → s.table.entry (own me) ≡ None
      → Gives (if b then go e (at.Bit biting.Last) else ends_with e interrupted)
  gives_finished e true l w h none = gives_on e (at.Bit biting.Last)
  gives_finished e false l w h none = λ z. inl (record {
    waits = w;
    turn = h;
    off = none;
    last = λ k. absurd (both_ways false refl (sym l ∙ k));
  })

  gives_off : (e d : Event) (p : Point) (b : Bool) → is_some (s.table.entry (own me)) ≡ b → is_bit_wait call ≡ true
      → EntryIsOff call (a.trail me)
      → Gives (if b then go d p else if is_lock call then go e (at.Bit biting.Last) else ends_with e interrupted)
  gives_off e d p true i w h = gives_on d p
  gives_off e d p false i w h = gives_finished e (is_lock call) refl w h (none_there (s.table.entry (own me)) i)

  -- the last try
  gives_last : (b : Bool) → unset s call ≡ b → is_bit_wait call ≡ true → EntryIsOff call (a.trail me)
      → s.table.entry (own me) ≡ None
      → Gives (ends_with (exchange call (seen_by s me call (at.Bit biting.Last)))
      (if b then interrupted else zero_answer))
  gives_last true u w h none = λ z. inl (record {
    waits = w;
    turn = h;
    off = none;
    last = λ k. ap
        (λ (d : Bool). event.Tas (word_of (call_watch call)) (bit_of (call_watch call)) (flag d))
        (sym (bit_misses call (value_of s.table.words (call_watch call)) w) ∙ u);
  })
  gives_last false u w h none = gives_not _ (λ z. omega (arith, z))

  gives_finish : (p : FinishPoint) → is_bit_wait call ≡ true → EntryIsOff call (a.trail me)
      → HomeAt (now.Open call (at.Finish p true)) (s.table.entry (own me))
      → Gives (planned s me call (at.Finish p true))
  gives_finish finishing.State w h home = gives_on _ _
  gives_finish finishing.Look w h home = gives_off _ _ _ (is_some (s.table.entry (own me))) refl w h
  gives_finish finishing.Lock w h home = gives_on _ _
  gives_finish finishing.Queue w h home = gives_off _ _ _ (is_some (s.table.entry (own me))) refl w h
  gives_finish finishing.Unlock w h home = gives_finished _ (is_lock call) refl w h
      (is_off (s.table.entry (own me)) (call_watch call) home)

  -- a signalled wait answers otherwise
  gives_signalled : (e d : Event) (p : Point) (b : Bool) → Gives (if b then ends_with e signalled else go d p)
  gives_signalled e d p true = gives_not _ (λ z. omega (arith, z))
  gives_signalled e d p false = gives_on d p

  -- the last reading of a wait for a page
  gives_page : (b : Bool) → s.table.flag (own me) ≡ b → is_page_lock call ≡ true
      → PageTrailAt (now.Open call (at.Page paging.Last)) (s.table.flag (own me)) (a.trail me)
      → s.table.entry (own me) ≡ None → Gives (page_last b)
  gives_page true q l t none = gives_on _ _
  gives_page false q l (inl z) none = absurd (both_ways false refl (sym q ∙ z))
  gives_page false q l (inr t) none = λ z. inr (record { waits = l; turn = t; off = none; flag = refl })

  pub given_up : (p : Point) → IsFitted call p → FitsStage (now.Open call p) → IsBroken call p (a.trail me)
      → PageTrailAt (now.Open call p) (s.table.flag (own me)) (a.trail me)
      → HomeAt (now.Open call p) (s.table.entry (own me)) → Gives (planned s me call p)
  given_up (at.Finish p true) f l h t home = gives_finish p (f refl) h home
  given_up (at.Bit biting.Last) f l h t home = gives_last (unset s call) refl f h
      (is_off (s.table.entry (own me)) (call_watch call) home)
  given_up (at.Page paging.Last) f l h t home = gives_page (s.table.flag (own me)) refl
      (paging_locks call paging.Last l f) t (is_off (s.table.entry (own me)) (call_watch call) home)
  given_up (at.Leave leaving.Load) f l h t home = gives_signalled _ _ _ (unset s call)
  given_up (at.Await (awaiting.Off true)) f l h t home = either Gives (is_some (s.table.entry (own me))) _ _
      (gives_on _ _) (gives_not _ (λ z. omega (arith, z)))
  given_up (at.Await (awaiting.Last true)) f l h t home = gives_not _ (λ z. omega (arith, z))
  given_up at.Worn f l h t home = absurd f
  given_up at.First f l h t home = λ z. absurd (not_interrupted s me call at.First tt z)
  given_up p f l h t home = λ z. absurd (not_interrupted s me call p tt z)
