-- The facts and the laws hold in every state that a run reaches.
use Rattle.std.proofs.lemmas.Option.{none-some}
use Rattle.std.proofs.lemmas.Bool.{both_ways}
use Rattle.std.proofs.lemmas.Bool.Decides.{nat_tests, eqb_tells}
use Rattle.std.proofs.Common.{refl, sym, ◌∙◌, ap, subst, arith, inl, inr}
use Rattle.std.specs.Prelude.{ℕ, ◌≡◌, ◌≢◌, ◌+◌, ◌<◌, ◌≤◌, Option, Some, None, Bool, true, false, not, ◌&&◌, nat_lt}
use Rattle.std.specs.Prelude.{if◌then◌else◌, List, [], ◌∷◌, ◌++◌}
use Rattle.wait_model.specs.{declared.calls.Call.Call, declared.calls.Event.Event, declared.calls.Ran.Ran}
use Rattle.wait_model.specs.{declared.points.Point.Point, declared.points.Progress.Progress}
use Rattle.wait_model.specs.{declared.watches.Entry.Entry, declared.steps.Step.Step, Views.View, Fold.after_all}
use Rattle.wait_model.specs.{Tables.Table, Tables.steps, Laws.NoLostWake, Laws.NoLostFlag, Watches.IsThere}
use Rattle.wait_model.specs.{Programs.program_start, Rows.AllAllowed, declared.queues.Mark.Mark, Queues.stand_by}
use Rattle.wait_model.specs.Facts.{Kept}
use Rattle.wait_model.specs.declared.layout.TheConstants.{TASKS, ENTRIES, PLAIN_CONDITIONS, FIRST_SIMPLE, BIT_WORDS}
use Rattle.wait_model.specs.declared.layout.TheConstants.{WORD_BITS, HEADS, EVENTS}
use Rattle.wait_model.specs.Runs.{State, given_by, own, event_steps, planned, progress_after, happens, start_state}
use Rattle.wait_model.specs.Runs.{state_after, state_of, is_open, after_event, busy_head, Continues, IsItem, IsRunFrom}
use Rattle.wait_model.specs.Runs.{IsRun, made_in}
use Rattle.wait_model.specs.Admission.{is_in_range, lacks_bit, is_queued_twice, lacks_entry, is_listed, IsListed}
use Rattle.wait_model.specs.Admission.{admits}
use Rattle.wait_model.specs.Reached.{Rests, HasLookedAtAll, OwnStored, KeepsCleared, CountedAt, CountedBy, IsCallSound}
use Rattle.wait_model.specs.Reached.{free, IsHome, HomeAt, taken_off, flagged, held_at, is_preparing, IsPlaced}
use Rattle.wait_model.specs.Reached.{IsWalkSound, IsFitted, IsSoundCall, mark_head, marked_at, IsSound, Allows, Joins}
use Rattle.wait_model.specs.Reached.{HandsAt}
use Rattle.wait_model.specs.Points.{call_watch, call_head, who_of, head_at, given_at}
use Rattle.wait_model.proofs.{RunLaws.OthersEvents.Changes, RunLaws.OthersEvents.others_placed}
use Rattle.wait_model.proofs.{WordLaws.LawfulWords.event_lawful, WordLaws.LawfulWords.event_linked}
use Rattle.wait_model.proofs.{RunLaws.WalkEvents.counted_later, RunLaws.WalkEvents.program_fine}
use Rattle.wait_model.proofs.{RunLaws.WalkCounts.program_counted, RunLaws.WalkCounts.others_counted}
use Rattle.wait_model.proofs.{RunLaws.FineEvents.Fine, QueueLaws.LinkedQueues.queued_read}
use Rattle.wait_model.proofs.{RunLaws.WaitEvents.stands_suited, WordLaws.CondWords.head_below}
use Rattle.wait_model.proofs.{StepLaws.StartLaws.start_kept, BitLaws.BitClears.program_keeps}
use Rattle.wait_model.proofs.{BitLaws.BitClears.begun_keeps, BitLaws.HighBits.event_low}
use Rattle.wait_model.proofs.{RunLaws.PagesHanded.opened_handed, RunLaws.PagesHanded.made_handed}
use Rattle.wait_model.proofs.HistoryLaws.HoldLooks.{steps_own, steps_other, steps_keep}
use Rattle.wait_model.proofs.QueueLaws.OwnBookmarks.{marks_other, program_marked, start_marked, closed_marked}
use Rattle.wait_model.proofs.Functions.{put_at, both_left, both_right}
use Rattle.wait_model.proofs.RunLaws.RunningStates.{others_rest, program_rests, begun_rests}
use Rattle.wait_model.proofs.RunLaws.WholeLooks.{event_whole, event_stored, start_whole, start_stored}
use Rattle.wait_model.specs.declared.calls.Call.TheVariants as calls
use Rattle.wait_model.specs.declared.calls.Ran.TheVariants as ran
use Rattle.wait_model.specs.declared.points.Point.TheVariants as at
use Rattle.wait_model.specs.declared.points.WalkPoint.TheVariants as walking
use Rattle.wait_model.specs.declared.points.SelectPoint.TheVariants as selecting
use Rattle.wait_model.specs.declared.points.Progress.TheVariants as now
use Rattle.wait_model.specs.declared.watches.Watch.TheVariants as watch

walk_later : (n : ℕ) (p : Point) → IsWalkSound n p → IsWalkSound (n + 1) p
walk_later n (at.Walk (walking.Call w)) k = counted_later n w k
walk_later n (at.Walk (walking.Wake w c)) k = (counted_later n w k.0, k.1, k.2, k.3)
walk_later n (at.Walk (walking.Bit w c)) k = (counted_later n w k.0, k.1, k.2, k.3)
walk_later n (at.Walk (walking.Page st w c)) k = (counted_later n w k.0, k.1, k.2, k.3, k.4)
walk_later n (at.Walk (walking.Stopped w)) k = counted_later n w k
walk_later n (at.Walk (walking.Unqueue w who)) k = (counted_later n w k.0, k.1)
walk_later n (at.Walk (walking.Spent w)) k = counted_later n w k
walk_later n (at.Select (selecting.Next j)) k = omega (arith, k)
walk_later n (at.Select (selecting.Off j who)) k = (omega (arith, k.0), k.1)
walk_later n (at.Walk (walking.BreakUnlock w)) k = counted_later n w k
walk_later n (at.Walk (walking.BreakLock w)) k = counted_later n w k
walk_later n (at.Walk (walking.Unmark w)) k = counted_later n w k
walk_later n p k = tt

call_later : (n : ℕ) (p : Progress) → IsSoundCall n p → IsSoundCall (n + 1) p
call_later n (now.Open call p) k = record {
  watch = k.watch;
  who = k.who;
  head = k.head;
  walk = walk_later n p k.walk;
  fitted = k.fitted;
}
call_later n now.Idle k = tt
call_later n now.Fresh k = tt

-- what lets a call be opened
pub admits_parts : (me : ℕ) (call : Call) (o : Option Entry) (keeps : Bool) → admits me call o keeps ≡ true
    → (is_in_range me call ≡ true) × (is_queued_twice call o ≡ false) × (lacks_entry call o ≡ false)
    × IsListed call × (lacks_bit call keeps ≡ false)
admits_parts me call o keeps = by (is_in_range me call) (lacks_bit call keeps) (is_queued_twice call o)
    (lacks_entry call o) (is_listed call)
  where
    by : (a k b d e : Bool) → (a && (not k && (not b && (not d && e)))) ≡ true → (a ≡ true) × (b ≡ false)
        × (d ≡ false) × (e ≡ true) × (k ≡ false)
    by true false false false true h = (refl, refl, refl, refl, refl)
    by true false false false false h = absurd (cc)
    by true false false true e h = absurd (cc)
    by true false true d e h = absurd (cc)
    by true true b d e h = absurd (cc)
    by false k b d e h = absurd (cc)

begins : (n : ℕ) (call : Call) → IsThere (call_watch call) → who_of call < TASKS
    → IsFitted call (program_start call) → head_at call (program_start call) ≡ call_head call
    → IsWalkSound n (program_start call) → IsSoundCall n (now.Open call (program_start call))
begins n call c w f h k = record {
  watch = c;
  who = w;
  head = subst (λ (i : ℕ). i < HEADS) (sym h) (head_below (call_watch call) c);
  walk = k;
  fitted = f;
}

-- the ranges of a word of bits and its bit
bit_there : (w b : ℕ) → (nat_lt w BIT_WORDS && nat_lt b WORD_BITS) ≡ true → (w < BIT_WORDS) × (b < WORD_BITS)
bit_there w b h =
    let word : nat_lt w BIT_WORDS ≡ true = both_left (nat_lt w BIT_WORDS) _ h in
    let bit : nat_lt b WORD_BITS ≡ true = both_right (nat_lt w BIT_WORDS) _ h in
    (grind (arith, nat_tests), grind (arith, nat_tests))

start_sound_call : (n me : ℕ) (call : Call) → is_in_range me call ≡ true → IsListed call
    → IsSoundCall n (now.Open call (program_start call))
start_sound_call n me (calls.Wait c how) h l = begins n (calls.Wait c how)
    (grind (arith, nat_tests, h)) (omega arith) refl refl tt
start_sound_call n me (calls.Take c) h l = begins n (calls.Take c)
    (grind (arith, nat_tests, h)) (omega arith) refl refl tt
start_sound_call n me (calls.Wake c m k) h l =
    let small : nat_lt c FIRST_SIMPLE ≡ true = both_left (nat_lt c FIRST_SIMPLE) _ h in
    begins n (calls.Wake c m k) (grind (arith, nat_tests)) (omega arith) tt refl tt
start_sound_call n me (calls.Add c k f) h l =
    let small : nat_lt c FIRST_SIMPLE ≡ true = both_left (nat_lt c FIRST_SIMPLE) _ h in
    let below : c < FIRST_SIMPLE = grind (arith, nat_tests) in
    begins n (calls.Add c k f) (omega arith) (omega arith) (l, stands_suited c k below l) refl tt
start_sound_call n me calls.Remove h l = begins n calls.Remove (omega arith) (omega arith) tt refl tt
start_sound_call n me (calls.Woken st) h l = begins n (calls.Woken st) (omega arith) (omega arith) tt refl tt
start_sound_call n me (calls.Signal u deadly) h l = begins n (calls.Signal u deadly) (omega arith)
    (grind (arith, nat_tests, h)) tt refl tt
start_sound_call n me calls.Accept h l = begins n calls.Accept (omega arith) (omega arith) tt refl tt
start_sound_call n me (calls.Kick u) h l = begins n (calls.Kick u) (omega arith)
    (grind (arith, nat_tests, h)) tt refl tt
start_sound_call n me (calls.SimpleWait c st) h l =
    let small : nat_lt c PLAIN_CONDITIONS ≡ true = both_right (not (nat_lt c FIRST_SIMPLE)) _ h in
    begins n (calls.SimpleWait c st) (grind (arith, nat_tests)) (omega arith) refl refl tt
start_sound_call n me (calls.SimpleWake c all) h l =
    let small : nat_lt c PLAIN_CONDITIONS ≡ true = both_right (not (nat_lt c FIRST_SIMPLE)) _ h in
    let large : not (nat_lt c FIRST_SIMPLE) ≡ true = both_left (not (nat_lt c FIRST_SIMPLE)) _ h in
    begins n (calls.SimpleWake c all) (grind (arith, nat_tests)) (omega arith)
    (grind (arith, nat_tests)) refl tt
start_sound_call n me (calls.Reinit d) h l = begins n (calls.Reinit d)
    (grind (arith, nat_tests, h)) (omega arith) refl refl tt
start_sound_call n me (calls.WaitFor d st) h l = begins n (calls.WaitFor d st)
    (grind (arith, nat_tests, h)) (omega arith) refl refl tt
start_sound_call n me (calls.TryWait d) h l = begins n (calls.TryWait d)
    (grind (arith, nat_tests, h)) (omega arith) refl refl tt
start_sound_call n me (calls.IsDone d) h l = begins n (calls.IsDone d)
    (grind (arith, nat_tests, h)) (omega arith) refl refl tt
start_sound_call n me (calls.TryBit w b) h l = begins n (calls.TryBit w b) (bit_there w b h) (omega arith) refl
    refl tt
start_sound_call n me (calls.WaitBit w b st) h l = begins n (calls.WaitBit w b st) (bit_there w b h)
    (omega arith) refl refl tt
start_sound_call n me (calls.LockBit w b st) h l = begins n (calls.LockBit w b st) (bit_there w b h)
    (omega arith) refl refl tt
start_sound_call n me (calls.LockPage w st) h l = begins n (calls.LockPage w st)
    (grind (arith, nat_tests, h), omega arith) (omega arith) refl refl tt
start_sound_call n me (calls.ClearBit w b) h l = begins n (calls.ClearBit w b) (bit_there w b h) (omega arith)
    refl refl tt
start_sound_call n me (calls.WaitVar v old st) h l = begins n (calls.WaitVar v old st)
    (grind (arith, nat_tests, h)) (omega arith) refl refl tt
start_sound_call n me (calls.SetVar v x) h l = begins n (calls.SetVar v x)
    (grind (arith, nat_tests, h)) (omega arith) refl refl tt
start_sound_call n me call h l = begins n call (grind (arith, nat_tests, h)) (omega arith) tt refl tt

-- what stands at a call's beginning: an entry that stays, but none where the call queues, and one where the
-- call removes it
idle_home : (p : Progress) (o : Option Entry) → is_open p ≡ false → HomeAt p o → IsHome free (watch.Plain 0) o
idle_home now.Fresh o c h = h
idle_home now.Idle o c h = h
idle_home (now.Open call p) o c h = absurd (cc)

start_home : (call : Call) (o : Option Entry) → IsHome free (watch.Plain 0) o → is_queued_twice call o ≡ false
    → lacks_entry call o ≡ false → HomeAt (now.Open call (program_start call)) o
start_home (calls.Wait c how) None h q k = tt
start_home (calls.Wait c how) (Some e) h q k = absurd (cc)
start_home (calls.Add c j f) None h q k = tt
start_home (calls.Add c j f) (Some e) h q k = absurd (cc)
start_home (calls.SimpleWait c st) None h q k = tt
start_home (calls.SimpleWait c st) (Some e) h q k = absurd (cc)
start_home (calls.WaitFor d st) None h q k = tt
start_home (calls.WaitFor d st) (Some e) h q k = absurd (cc)
start_home (calls.WaitBit w b st) None h q k = tt
start_home (calls.WaitBit w b st) (Some e) h q k = absurd (cc)
start_home (calls.LockBit w b st) None h q k = tt
start_home (calls.LockBit w b st) (Some e) h q k = absurd (cc)
start_home (calls.LockPage w st) None h q k = tt
start_home (calls.LockPage w st) (Some e) h q k = absurd (cc)
start_home (calls.WaitVar v old st) None h q k = tt
start_home (calls.WaitVar v old st) (Some e) h q k = absurd (cc)
start_home calls.Remove None h q k = absurd (cc)
start_home calls.Remove (Some e) h q k = h
start_home call None h q k = tt
start_home call (Some e) h q k = h

-- a call begins outside a hold
start_free : (call : Call) → (held_at (now.Open call (program_start call)) ≡ None)
    × (is_preparing (now.Open call (program_start call)) ≡ false) × (taken_off (program_start call) ≡ None)
    × (flagged (program_start call) ≡ None)
start_free calls.Remove = (refl, refl, refl, refl)
start_free call = (refl, refl, refl, refl)

begun_placed : (entry : ℕ → Option Entry) (v : View) (me : ℕ) (call : Call) (p : Progress) → is_open p ≡ false
    → is_queued_twice call (entry (own me)) ≡ false → lacks_entry call (entry (own me)) ≡ false
    → IsPlaced entry v me p → IsPlaced entry v me (now.Open call (program_start call))
begun_placed entry v me call p closed twice lacks pl = record {
  head = pl.head ∙ no_hold_at p closed ∙ sym (start_free call).0;
  home = start_home call (entry (own me)) (idle_home p (entry (own me)) closed pl.home) twice lacks;
  off_book = λ pr z. absurd (both_ways true (sym pr ∙ (start_free call).1) refl);
  taken = λ who t. absurd (none-some who (sym (start_free call).2 ∙ t));
  flagged = λ c t. absurd (none-some c (sym (start_free call).3 ∙ t));
}
  where
    no_hold_at : (q : Progress) → is_open q ≡ false → held_at q ≡ None
    no_hold_at now.Fresh e = refl
    no_hold_at now.Idle e = refl
    no_hold_at (now.Open c p) e = absurd (cc)

-- no call begins inside a walk
begun_counted : (entry : ℕ → Option Entry) (v : View) (call : Call)
    → CountedBy entry v (now.Open call (program_start call))
begun_counted entry v calls.Remove = tt
begun_counted entry v call = tt

pub opened_sound : (s : State) (n me : ℕ) (call : Call) → IsSound s n → IsItem s (ran.Opened me call)
    → IsSound (happens s (ran.Opened me call)) n
opened_sound s n me call sound item =
    let a = admits_parts me call (s.table.entry (own me)) _ item.2 in
    record {
      lawful = sound.lawful;
      linked = sound.linked;
      calls = λ t. put_at (IsSoundCall n) s.progress me _ t (λ _. start_sound_call n me call a.0 a.3)
          (λ _. sound.calls t);
      marked = λ t. put_at (λ p. mark_head (s.table.mark t) ≡ marked_at p) s.progress me _ t
          (λ q. sound.marked t ∙ ap (λ i. marked_at (s.progress i)) q ∙ closed_marked (s.progress me) item.1
          ∙ sym (start_marked call))
          (λ _. sound.marked t);
      placed = λ t. put_at (λ p. IsPlaced s.table.entry (s.table.view t) t p) s.progress me _ t
          (λ q. subst (λ (i : ℕ). IsPlaced s.table.entry (s.table.view i) i
          (now.Open call (program_start call))) (sym q)
          (begun_placed s.table.entry (s.table.view me) me call (s.progress me) item.1 a.1 a.2
          (sound.placed me)))
          (λ _. sound.placed t);
      rests = λ t. put_at (λ p. Rests p (s.table.task t)) s.progress me _ t
          (λ q. subst (λ (i : ℕ). Rests (now.Open call (program_start call)) (s.table.task i)) (sym q)
          (begun_rests (s.progress me) call (s.table.task me) item.1 (sound.rests me)))
          (λ _. sound.rests t);
      whole = sound.whole;
      stored = sound.stored;
      keeps = λ t. put_at (λ p. KeepsCleared p (s.table.view t)) s.progress me _ t
          (λ q. subst (λ (i : ℕ). KeepsCleared (now.Open call (program_start call)) (s.table.view i)) (sym q)
          (begun_keeps call (s.table.view me) a.4))
          (λ _. sound.keeps t);
      counted = λ t. put_at (λ p. CountedBy s.table.entry (s.table.view t) p) s.progress me _ t
          (λ _. begun_counted s.table.entry (s.table.view t) call) (λ _. sound.counted t);
      low = sound.low;
      handed = opened_handed s me call sound.handed item.1;
      kept = sound.kept;
      few = sound.few;
    }

-- an event that is made continues its program, so it is fine
pub record IsMade (s : State) (n me : ℕ) (q : Progress) (e : Event) : Type 0 where
  pub allows : Allows s me e
  pub joins : Joins (given_by q) e
  pub changes : Changes s me e
  pub next_call : IsSoundCall (n + 1) (progress_after s me q)
  pub made : AllAllowed s.table me (event_steps s me (given_by q) e)
  pub placed : IsPlaced (steps s.table me (event_steps s me (given_by q) e)).entry
      (after_all (s.table.view me) (event_steps s me (given_by q) e)) me (progress_after s me q)
  pub marked : mark_head ((steps s.table me (event_steps s me (given_by q) e)).mark me)
      ≡ marked_at (progress_after s me q)
  pub runs : (s.table.task me).runnable ≡ true
  pub rests : Rests (progress_after s me q) ((after_event s me (given_by q) e).table.task me)
  pub keeps : (v : View) → KeepsCleared (progress_after s me q) v
  pub counted : CountedBy (steps s.table me (event_steps s me (given_by q) e)).entry
      (after_all (s.table.view me) (event_steps s me (given_by q) e)) (progress_after s me q)

pub made_of : (s : State) (n me : ℕ) (e : Event) (found : ℕ) → IsSound s n → me < TASKS → (q : Progress)
    → s.progress me ≡ q → Continues s me q e found → IsMade s n me q e
made_of s n me e found sound mine now.Fresh is c = absurd c
made_of s n me e found sound mine now.Idle is c = absurd c
made_of s n me e found sound mine (now.Open call p) is c =
    of_fine (program_fine s n me call sound mine p k pl mk z hand keep rest c.2)
  where
    k : IsCallSound n call p
    k = subst (IsSoundCall n) is (sound.calls me)

    pl : IsPlaced s.table.entry (s.table.view me) me (now.Open call p)
    pl = subst (λ (x : Progress). IsPlaced s.table.entry (s.table.view me) me x) is (sound.placed me)

    mk : mark_head (s.table.mark me) ≡ marked_at (now.Open call p)
    mk = sound.marked me ∙ ap marked_at is

    z : CountedAt s.table.entry (s.table.view me) call p
    z = subst (CountedBy s.table.entry (s.table.view me)) is (sound.counted me)

    hand : HandsAt s.table.taken me (now.Open call p)
    hand = subst (HandsAt s.table.taken me) is (sound.handed.places me)

    keep : KeepsCleared (now.Open call p) (s.table.view me)
    keep = subst (λ (x : Progress). KeepsCleared x (s.table.view me)) is (sound.keeps me)

    rest : Rests (now.Open call p) (s.table.task me)
    rest = subst (λ (x : Progress). Rests x (s.table.task me)) is (sound.rests me)

    free : busy_head s (planned s me call p).event ≡ None
    free = sym (ap (busy_head s) c.0) ∙ c.3

    of_fine : Fine s n me call sound mine (given_at call p) (planned s me call p)
        → IsMade s n me (now.Open call p) e
    of_fine f = subst (IsMade s n me (now.Open call p)) (sym c.0)
        (record {
          allows = f.allows;
          joins = f.joins;
          changes = f.changes;
          next_call = f.next_call;
          made = f.made free;
          placed = f.placed;
          marked = program_marked s me call p mk;
          runs = c.2;
          rests = program_rests s me call p k.fitted rest c.2;
          keeps = program_keeps s me call p k.fitted;
          counted = program_counted s n me call sound mine p k pl z free;
        })

-- what holds of the own view after the steps, and of another task's
steps_view : (P : View → Type 0) (t : Table) (a b : ℕ) (es : List Step) → (b ≡ a → P (after_all (t.view a) es))
    → (b ≢ a → P (t.view b)) → P ((steps t a es).view b)
steps_view P t a b es here there = elim (eqb_tells b a) [
  | inl q ↦ subst (λ (i : ℕ). P ((steps t a es).view i)) (sym q.1) (subst P (sym (steps_own t a es)) (here q.1))
  | inr q ↦ subst P (sym (steps_other t a b es q.1)) (there q.1)
]

pub made_sound : (s : State) (n me : ℕ) (e : Event) (found : ℕ) → IsSound s n → n < EVENTS
    → IsItem s (ran.Made me e found) → IsSound (happens s (ran.Made me e found)) (n + 1)
made_sound s n me e found sound few item =
    let m : IsMade s n me (s.progress me) e = made_of s n me e found sound item.0 (s.progress me) refl item.1
    in
    let es : List Step = event_steps s me (given_by (s.progress me)) e in
    let kept : Kept (steps s.table me es) = steps_keep s.table me es sound.kept m.made in
    let calls : (t : ℕ) → IsSoundCall (n + 1) ((happens s (ran.Made me e found)).progress t) =
    λ t. put_at (IsSoundCall (n + 1)) s.progress me _ t (λ _. m.next_call)
    (λ _. call_later n (s.progress t) (sound.calls t)) in
    let placed : (t : ℕ) → IsPlaced (steps s.table me es).entry ((steps s.table me es).view t) t
    ((happens s (ran.Made me e found)).progress t) =
    λ t. put_at (λ p. IsPlaced (steps s.table me es).entry ((steps s.table me es).view t) t p)
    s.progress me _ t
    (λ q. subst (λ (i : ℕ). IsPlaced (steps s.table me es).entry ((steps s.table me es).view i) i
    (progress_after s me (s.progress me))) (sym q)
    (subst (λ (v : View). IsPlaced (steps s.table me es).entry v me
    (progress_after s me (s.progress me))) (sym (steps_own s.table me es)) m.placed))
    (λ ne. subst (λ (v : View). IsPlaced (steps s.table me es).entry v t (s.progress t))
    (sym (steps_other s.table me t es ne))
    (others_placed s me (given_by (s.progress me)) e t ne m.changes sound.kept.facts (sound.placed t))) in
    record {
      lawful = event_lawful s me (given_by (s.progress me)) e sound.lawful m.runs m.allows;
      linked = event_linked s me (given_by (s.progress me)) e n few sound.linked item.0 m.allows
          m.changes m.joins;
      calls = calls;
      placed = placed;
      marked = λ t. put_at (λ p. mark_head ((steps s.table me es).mark t) ≡ marked_at p) s.progress me _ t
          (λ q. subst (λ (i : ℕ). mark_head ((steps s.table me es).mark i)
          ≡ marked_at (progress_after s me (s.progress me))) (sym q) m.marked)
          (λ ne. ap mark_head (marks_other s me (given_by (s.progress me)) e t ne) ∙ sound.marked t);
      rests = λ t. put_at (λ p. Rests p ((steps s.table me es).task t)) s.progress me _ t
          (λ q. subst (λ (i : ℕ). Rests (progress_after s me (s.progress me)) ((steps s.table me es).task i))
          (sym q) m.rests)
          (λ ne. others_rest s me (given_by (s.progress me)) e t ne (sound.rests t));
      whole = λ t. steps_view HasLookedAtAll s.table me t es
          (λ _. event_whole s me (given_by (s.progress me))
          (queued_read s.table.entry s.table.mark s.queue n sound.linked) (s.table.view me) e (sound.whole me))
          (λ _. sound.whole t);
      stored = λ t. steps_view (OwnStored t) s.table me t es
          (λ q. subst (λ (i : ℕ). OwnStored i (after_all (s.table.view me) es)) (sym q)
          (event_stored s me (given_by (s.progress me)) (s.table.view me) e (sound.stored me)))
          (λ _. sound.stored t);
      keeps = λ t. put_at (λ p. KeepsCleared p ((steps s.table me es).view t)) s.progress me _ t
          (λ _. m.keeps ((steps s.table me es).view t))
          (λ ne. subst (KeepsCleared (s.progress t)) (sym (steps_other s.table me t es ne)) (sound.keeps t));
      counted = λ t. put_at (λ p. CountedBy (steps s.table me es).entry ((steps s.table me es).view t) p)
          s.progress me _ t
          (λ q. subst (λ (i : ℕ). CountedBy (steps s.table me es).entry ((steps s.table me es).view i)
          (progress_after s me (s.progress me))) (sym q)
          (subst (λ (v : View). CountedBy (steps s.table me es).entry v
          (progress_after s me (s.progress me))) (sym (steps_own s.table me es)) m.counted))
          (λ ne. subst (λ (v : View). CountedBy (steps s.table me es).entry v (s.progress t))
          (sym (steps_other s.table me t es ne))
          (others_counted s me (given_by (s.progress me)) e t ne m.changes sound.kept.facts (sound.placed t)
          (sound.counted t)));
      low = event_low s me (given_by (s.progress me)) sound.low e m.allows m.joins;
      handed = made_handed s n me e found sound.handed sound.placed sound.calls sound.kept.facts m.changes placed calls
          kept.facts (sound.counted me) item.1;
      kept = kept;
      few = omega arith;
    }

-- a whole run
pub reached : (s : State) (items : List Ran) (n : ℕ) → IsRunFrom s items → IsSound s n
    → n + made_in items ≤ EVENTS → IsSound (state_after s items) (n + made_in items)
reached s [] n r sound few = subst (IsSound s) (omega arith) sound
reached s (ran.Opened me call ∷ items) n r sound few = reached (happens s (ran.Opened me call)) items n r.1
    (opened_sound s n me call sound r.0) few
reached s (ran.Made me e found ∷ items) n r sound few =
    subst (IsSound (state_after (happens s (ran.Made me e found)) items)) (omega arith)
    (reached (happens s (ran.Made me e found)) items (n + 1) r.1
    (made_sound s n me e found sound (omega arith) r.0) (omega arith))

-- nothing stands at the start
nothing : (b : Bool) (k : Mark) → (if b then stand_by None else None) ≡ Some k → ⊥
nothing true k h = cc
nothing false k h = cc

pub start_sound : IsSound start_state 0
start_sound = record {
  lawful = λ t. record { state = inl refl; fatal = λ h. absurd (cc); runnable = λ _. refl };
  linked = record {
    entries = λ x e h. absurd (cc);
    marks = λ t k h. absurd (cc);
    ordered = record {
      inside = λ x k h. absurd (nothing (nat_lt x ENTRIES) k h);
      members = λ h m i. absurd i;
      order = λ h. tt;
    };
  };
  marked = λ t. refl;
  calls = λ t. tt;
  placed = λ t. record {
    head = refl;
    home = tt;
    off_book = λ pr z. absurd (cc);
    taken = λ who t. absurd (cc);
    flagged = λ c t. absurd (cc);
  };
  rests = λ t r. refl;
  whole = λ t. start_whole;
  stored = start_stored;
  keeps = λ t. tt;
  counted = λ t. tt;
  low = λ i k from. refl;
  handed = record { places = λ t. tt; amid = λ u p e h. absurd (cc) };
  kept = start_kept;
  few = omega arith;
}

pub sound_of : (run : List Ran) → IsRun run → made_in run ≤ EVENTS → IsSound (state_of run) (made_in run)
sound_of run r few = subst (IsSound (state_of run)) (omega arith)
    (reached start_state run 0 r start_sound (omega arith))

-- no wake is lost in any state that a run reaches
pub no_lost_wake : (run : List Ran) → IsRun run → made_in run ≤ EVENTS → NoLostWake (state_of run).table
no_lost_wake run r few = (sound_of run r few).kept.no_lost_wake

pub no_lost_flag : (run : List Ran) → IsRun run → made_in run ≤ EVENTS → NoLostFlag (state_of run).table
no_lost_flag run r few = (sound_of run r few).kept.no_lost_flag

-- a run with one more item
pub state_after-push : (s : State) (items : List Ran) (item : Ran)
    → state_after s (items ++ item ∷ []) ≡ happens (state_after s items) item
state_after-push s [] item = refl
state_after-push s (x ∷ items) item = state_after-push (happens s x) items item

pub run_push : (s : State) (items : List Ran) (item : Ran) → IsRunFrom s items
    → IsItem (state_after s items) item → IsRunFrom s (items ++ item ∷ [])
run_push s [] item r h = (h, tt)
run_push s (x ∷ items) item r h = (r.0, run_push (happens s x) items item r.1 h)

pub made_push : (items : List Ran) (me : ℕ) (e : Event) (found : ℕ)
    → made_in (items ++ ran.Made me e found ∷ []) ≡ made_in items + 1
made_push [] me e found = refl
made_push (ran.Opened m c ∷ items) me e found = made_push items me e found
made_push (ran.Made m c f ∷ items) me e found = ap (λ n. n + 1) (made_push items me e found)

pub opened_push : (items : List Ran) (me : ℕ) (call : Call)
    → made_in (items ++ ran.Opened me call ∷ []) ≡ made_in items
opened_push [] me call = refl
opened_push (ran.Opened m c ∷ items) me call = opened_push items me call
opened_push (ran.Made m c f ∷ items) me call = ap (λ n. n + 1) (opened_push items me call)
