-- Waits for bits that are left make their words.
use Rattle.std.proofs.Common.{refl, subst}
use Rattle.std.specs.Prelude.{ℕ, ◌≡◌, ◌&&◌, Bool, true, false, not, is_some, if◌then◌else◌, Some, List, ◌∷◌}
use Rattle.wait_model.specs.{declared.calls.Answer.Answer, declared.calls.Event.Event, declared.points.Planned.Planned}
use Rattle.wait_model.specs.{declared.points.Point.Point, declared.tasks.SleepState.SleepState, Phrases.ends}
use Rattle.wait_model.specs.{PointFacts.holds, Programs.call_fails, Programs.program, SentenceSteps.finishes}
use Rattle.wait_model.specs.{SentenceSteps.minus_4, Tasks.pending, Tasks.state_mask, Watches.misses, Watches.number_of}
use Rattle.wait_model.specs.declared.calls.Call.TheVariants as calls
use Rattle.wait_model.specs.declared.calls.Event.TheVariants as event
use Rattle.wait_model.specs.declared.points.BitPoint.TheVariants as biting
use Rattle.wait_model.specs.declared.points.FinishPoint.TheVariants as finishing
use Rattle.wait_model.specs.declared.points.Point.TheVariants as at
use Rattle.wait_model.specs.declared.points.PreparePoint.TheVariants as preparing
use Rattle.wait_model.specs.declared.watches.Watch.TheVariants as watch
use Rattle.wait_model.proofs.{SentenceLaws.SentenceBits.answered_by, SentenceLaws.SentenceBits.wait_rest}
use Rattle.wait_model.proofs.{SentenceLaws.SentenceRests.first_more, WaitLaws.OutsideStages.either}
use Rattle.wait_rule.specs.{Known.Known, Says.MeetsLaw, Transitions.call_program}
use Rattle.wait_class.specs.{declared.frame_stages.Stage.Stage, Posts.IsOut}
use Rattle.wait_class.specs.declared.frame_stages.Stage.TheVariants as stage
use Rattle.wait_class.specs.declared.stages.Turn.TheVariants as turn
use Rattle.wait_leave.specs.declared.exits.Exit.{Exit}
use Rattle.wait_leave.specs.declared.exits.Until.TheVariants as until
use Rattle.bit_wait.specs.{LockTables.lock_table, declared.lock_runs.LockBit.LockBit}
use Rattle.bit_wait.specs.{declared.lock_runs.LockOutcome.LockOutcome, declared.lock_runs.LockTest.LockTest}
use Rattle.bit_wait.specs.{declared.waits.BitOutcome.BitOutcome, declared.waits.BitTest.BitTest}
use Rattle.bit_wait.specs.declared.waits.WaitBit.{WaitBit}
use Rattle.bit_wait.specs.BitLeaves.{EndsBitWaitUntil, bit_exit, bit_exits, bit_failed_in, bit_until_in}
use Rattle.bit_wait.specs.BitTables.{answer_to_bit, bit_table, is_bit_worn}
use Rattle.bit_wait.specs.LockLeaves.{EndsBitLockUntil, failed_in, lock_exit, lock_exits, until_in}
use Rattle.bit_wait.specs.LockTables as locks
use Rattle.bit_wait.specs.declared.lock_runs.LockOutcome.TheVariants as lock_outcome
use Rattle.bit_wait.specs.declared.lock_runs.LockTest.TheVariants as lock_test
use Rattle.bit_wait.specs.declared.waits.BitOutcome.TheVariants as outcome
use Rattle.bit_wait.specs.declared.waits.BitTest.TheVariants as test
use Rattle.left_sentences.specs.LeftWords.{IsLeftWord, WaysOut, holds_lock}
use Rattle.left_sentences.specs.BitWays.{LeftBitLocksFollow, LeftBitWaitsFollow, bit_says, finishes_and_tries}
use Rattle.left_sentences.specs.BitWays.{loads_and_finishes, lock_says, out_of_holds}
use Rattle.left_sentences.proofs.LeftWays.{AnyRun, IsRunOf, LeadsOut, Speech, before_law, before_rest, gone_by, kept}
use Rattle.left_sentences.proofs.LeftWays.{left_word, of_way, plain_follows, rested_number}
use Rattle.left_sentences.proofs.RunsTo.{AtNext, Before, Leads}

-- at each point of such a wait a lock is held where the point says so
abbrev BitAt : Point → List Event → Type 0
BitAt (at.Prepare preparing.Look) trail = ⊥
BitAt (at.Prepare p) trail = holds_lock trail ≡ holds (at.Prepare p)
BitAt at.Worn trail = holds_lock trail ≡ false
BitAt (at.Bit p) trail = holds_lock trail ≡ false
BitAt (at.Finish p failed) trail = holds_lock trail ≡ holds (at.Finish p failed)
BitAt _ trail = ⊥

abbrev Led : List Event → Planned → Type 0
Led trail u = AtNext BitAt (u.event ∷ trail) u.next

one_of : (b : Bool) (p q : Point) (trail : List Event) → BitAt p trail → BitAt q trail
    → BitAt (if b then p else q) trail
one_of b p q trail l r = either (λ (j : Point). BitAt j trail) b p q l r

module _ (me w b : ℕ) (st : SleepState) where
  wait_leads : Leads BitAt (call_program me 0 (calls.WaitBit w b st))
  wait_leads (at.Bit biting.Try) seen trail h = tt
  wait_leads (at.Bit biting.First) seen trail h =
      either (Led trail) (call_fails (calls.WaitBit w b st) seen) _ _ h tt
  wait_leads (at.Bit biting.Load) seen trail h = h
  wait_leads (at.Bit biting.Sleep) seen trail h = h
  wait_leads (at.Bit biting.Look) seen trail h =
      one_of (pending (state_mask st) seen.own && false) (at.Finish finishing.State true)
      (at.Bit (biting.Again (pending (state_mask st) seen.own)))
      (event.Look (pending (state_mask st) seen.own) ∷ trail) h h
  wait_leads (at.Bit (biting.Again failed)) seen trail h =
      one_of (call_fails (calls.WaitBit w b st) seen && not failed) (at.Prepare preparing.Lock)
      (at.Finish finishing.State failed) (event.Load (number_of (watch.Bit w b)) seen.value ∷ trail) h h
  wait_leads (at.Bit biting.Last) seen trail h = tt
  wait_leads (at.Prepare preparing.Lock) seen trail h = refl
  wait_leads (at.Prepare preparing.Look) seen trail h = absurd h
  wait_leads (at.Prepare preparing.Queue) seen trail h =
      either (Led trail) (is_some seen.entry) _ _ h (either (Led trail) seen.worn _ _ refl h)
  wait_leads (at.Prepare preparing.State) seen trail h = h
  wait_leads (at.Prepare preparing.Unlock) seen trail h = refl
  wait_leads at.Worn seen trail h = either (Led trail) (call_fails (calls.WaitBit w b st) seen) _ _ tt h
  wait_leads (at.Finish finishing.State failed) seen trail h = h
  wait_leads (at.Finish finishing.Look failed) seen trail h =
      either (Led trail) (is_some seen.entry) _ _ h (either (Led trail) (failed && false) _ _ h tt)
  wait_leads (at.Finish finishing.Lock failed) seen trail h = refl
  wait_leads (at.Finish finishing.Queue failed) seen trail h =
      either (Led trail) (is_some seen.entry) _ _ h (either (Led trail) (failed && false) _ _ refl tt)
  wait_leads (at.Finish finishing.Unlock failed) seen trail h = either (Led trail) (failed && false) _ _ refl tt
  wait_leads p seen trail h = absurd h

  lock_leads : Leads BitAt (call_program me 0 (calls.LockBit w b st))
  lock_leads (at.Bit biting.Try) seen trail h = tt
  lock_leads (at.Bit biting.First) seen trail h =
      either (Led trail) (call_fails (calls.LockBit w b st) seen) _ _ h tt
  lock_leads (at.Bit biting.Load) seen trail h = h
  lock_leads (at.Bit biting.Sleep) seen trail h = h
  lock_leads (at.Bit biting.Look) seen trail h =
      one_of (pending (state_mask st) seen.own && true) (at.Finish finishing.State true)
      (at.Bit (biting.Again (pending (state_mask st) seen.own)))
      (event.Look (pending (state_mask st) seen.own) ∷ trail) h h
  lock_leads (at.Bit (biting.Again failed)) seen trail h =
      one_of (call_fails (calls.LockBit w b st) seen && not failed) (at.Prepare preparing.Lock)
      (at.Finish finishing.State failed) ((program me (calls.LockBit w b st) (at.Bit (biting.Again failed)) seen).event
      ∷ trail) h h
  lock_leads (at.Bit biting.Last) seen trail h = tt
  lock_leads (at.Prepare preparing.Lock) seen trail h = refl
  lock_leads (at.Prepare preparing.Look) seen trail h = absurd h
  lock_leads (at.Prepare preparing.Queue) seen trail h =
      either (Led trail) (is_some seen.entry) _ _ h (either (Led trail) seen.worn _ _ refl h)
  lock_leads (at.Prepare preparing.State) seen trail h = h
  lock_leads (at.Prepare preparing.Unlock) seen trail h = refl
  lock_leads at.Worn seen trail h = either (Led trail) (call_fails (calls.LockBit w b st) seen) _ _ tt tt
  lock_leads (at.Finish finishing.State failed) seen trail h = h
  lock_leads (at.Finish finishing.Look failed) seen trail h =
      either (Led trail) (is_some seen.entry) _ _ h (either (Led trail) (failed && true) _ _ h tt)
  lock_leads (at.Finish finishing.Lock failed) seen trail h = refl
  lock_leads (at.Finish finishing.Queue failed) seen trail h =
      either (Led trail) (is_some seen.entry) _ _ h (either (Led trail) (failed && true) _ _ refl tt)
  lock_leads (at.Finish finishing.Unlock failed) seen trail h = either (Led trail) (failed && true) _ _ refl tt
  lock_leads p seen trail h = absurd h

  -- where the action failed it finishes whatever its load finds
  failed_ends : (n : ℕ) (met : Bool) (v : List Event) (a : Answer) → answered_by me w b st n true met v a
      → finishes me (watch.Bit w b) true (λ x. ends minus_4) v a
  failed_ends n true v a h = h
  failed_ends n false v a h = h

  left_again : (v : List Event) (a : Answer) → wait_rest me w b st kept (at.Bit (biting.Again true)) v a
      → loads_and_finishes me (watch.Bit w b) ends v a
  left_again v a (n, (value, h)) = (
    value,
    first_more (event.Load (number_of (watch.Bit w b)) value)
        (answered_by me w b st n true (not (misses (watch.Bit w b) value)))
        (finishes me (watch.Bit w b) true (λ x. ends minus_4))
        (failed_ends n (not (misses (watch.Bit w b) value))) v a h,
  )

  -- the exits
  abbrev bit_ways : WaysOut (Unit {0})
  bit_ways = out_of_holds (loads_and_finishes me (watch.Bit w b))

  abbrev bit_way : Exit (Stage BitTest) BitOutcome
  bit_way = record { to = turn.Again (stage.Test (test.Again true)); rests = false }

  abbrev BitOut : Stage BitTest → Exit (Stage BitTest) BitOutcome → Type 0
  BitOut s e = LeadsOut bit_table me (calls.WaitBit w b st) bit_ways BitAt s e

  out_by_load : (s : Stage BitTest) (e : Exit (Stage BitTest) BitOutcome) → bit_way ≡ e
      → ((trail : List Event) → BitAt (bit_table.point_of s) trail → holds_lock trail ≡ false) → BitOut s e
  out_by_load s e is from = subst (BitOut s) is (record {
    way = tt;
    from = from;
    rest = left_again;
    start = refl;
  })

  bit_outs : (s : Stage BitTest) (e : Exit (Stage BitTest) BitOutcome) → bit_exit s ≡ Some e → BitOut s e
  bit_outs (stage.Test test.First) e is = out_by_load (stage.Test test.First) e (let z : bit_way ≡ e = cc in z)
      (λ trail h. h)
  bit_outs (stage.Test test.Load) e is = out_by_load (stage.Test test.Load) e (let z : bit_way ≡ e = cc in z)
      (λ trail h. h)
  bit_outs (stage.Test (test.Again false)) e is = out_by_load (stage.Test (test.Again false)) e
      (let z : bit_way ≡ e = cc in z) (λ trail h. h)
  bit_outs stage.PrepareLock e is = out_by_load stage.PrepareLock e (let z : bit_way ≡ e = cc in z) (λ trail h. h)
  bit_outs stage.Sleep e is = out_by_load stage.Sleep e (let z : bit_way ≡ e = cc in z) (λ trail h. h)
  bit_outs stage.Look e is = out_by_load stage.Look e (let z : bit_way ≡ e = cc in z) (λ trail h. h)
  bit_outs (stage.Test (test.Again true)) e is = absurd (cc)
  bit_outs s e is = absurd (cc)

  bit_speech : Speech bit_table bit_exits me (calls.WaitBit w b st) bit_ways BitAt AnyRun
  bit_speech = record {
    follows = plain_follows me (calls.WaitBit w b st) refl refl;
    fine = λ r q j ts s e tells is. tt;
    same = λ r. refl;
    leads = wait_leads;
    outs = λ r s e is. bit_outs s e is;
  }

  abbrev lock_ways : WaysOut (Unit {0})
  lock_ways = out_of_holds (finishes_and_tries me w b)

  abbrev lock_way : Exit (Stage LockTest) LockOutcome
  lock_way = record { to = turn.Again (stage.FinishState true); rests = false }

  abbrev LockOut : Stage LockTest → Exit (Stage LockTest) LockOutcome → Type 0
  LockOut s e = LeadsOut lock_table me (calls.LockBit w b st) lock_ways BitAt s e

  out_by_finish : (s : Stage LockTest) (e : Exit (Stage LockTest) LockOutcome) → lock_way ≡ e
      → ((trail : List Event) → BitAt (lock_table.point_of s) trail → holds_lock trail ≡ false) → LockOut s e
  out_by_finish s e is from = subst (LockOut s) is (record {
    way = tt;
    from = from;
    rest = λ v a h. h;
    start = refl;
  })

  lock_outs : (s : Stage LockTest) (e : Exit (Stage LockTest) LockOutcome) → lock_exit s ≡ Some e → LockOut s e
  lock_outs (stage.Test lock_test.First) e is = out_by_finish (stage.Test lock_test.First) e
      (let z : lock_way ≡ e = cc in z) (λ trail h. h)
  lock_outs (stage.Test lock_test.Load) e is = out_by_finish (stage.Test lock_test.Load) e
      (let z : lock_way ≡ e = cc in z) (λ trail h. h)
  lock_outs (stage.Test lock_test.Again) e is = out_by_finish (stage.Test lock_test.Again) e
      (let z : lock_way ≡ e = cc in z) (λ trail h. h)
  lock_outs stage.PrepareLock e is = out_by_finish stage.PrepareLock e (let z : lock_way ≡ e = cc in z) (λ trail h. h)
  lock_outs stage.Sleep e is = out_by_finish stage.Sleep e (let z : lock_way ≡ e = cc in z) (λ trail h. h)
  lock_outs stage.Look e is = out_by_finish stage.Look e (let z : lock_way ≡ e = cc in z) (λ trail h. h)
  lock_outs s e is = absurd (cc)

  lock_speech : Speech lock_table lock_exits me (calls.LockBit w b st) lock_ways BitAt AnyRun
  lock_speech = record {
    follows = plain_follows me (calls.LockBit w b st) refl refl;
    fine = λ r q j ts s e tells is. tt;
    same = λ r. refl;
    leads = lock_leads;
    outs = λ r s e is. lock_outs s e is;
  }

-- one that was left has been asked, and ended as one whose action failed
bit_failed_asked : (b : Bool) (r : WaitBit) (seen : ℕ) → until.Left seen ≡ bit_failed_in b r → b ≡ true
bit_failed_asked true r seen is = refl
bit_failed_asked false r seen is = absurd (cc)

bit_left_asked : (r : WaitBit) (d : BitOutcome) (seen : ℕ) → until.Left seen ≡ bit_until_in r d
    → (r.asked ≡ true) × (answer_to_bit d ≡ minus_4)
bit_left_asked r outcome.Interrupted seen is = (bit_failed_asked r.asked r seen is, refl)
bit_left_asked r d seen is = absurd (cc)

lock_failed_asked : (b : Bool) (r : LockBit) (seen : ℕ) → until.Left seen ≡ failed_in b r → b ≡ true
lock_failed_asked true r seen is = refl
lock_failed_asked false r seen is = absurd (cc)

lock_left_asked : (r : LockBit) (d : LockOutcome) (seen : ℕ) → until.Left seen ≡ until_in r d
    → (r.asked ≡ true) × (locks.answer_to_lock d ≡ minus_4)
lock_left_asked r lock_outcome.Interrupted seen is = (lock_failed_asked r.asked r seen is, refl)
lock_left_asked r d seen is = absurd (cc)

module _ (old new : Known) (w b : ℕ) (st : SleepState) (seen : ℕ) (law : MeetsLaw new.view) (out : IsOut old) where
  abbrev me : ℕ
  me = old.view.number

  module _ {A : Type 0} (e : EndsBitWaitUntil A old new w b st (until.Left seen)) where
    bit_fresh : call_program me 0 (calls.WaitBit e.first.of.wait.word e.first.of.wait.bit e.first.of.wait.state)
        ≡ call_program me 0 (calls.WaitBit w b st)
    bit_fresh i = call_program me 0 (calls.WaitBit (e.fresh.word i) (e.fresh.bit i) (e.fresh.state i))

    bit_is : IsRunOf bit_table me (calls.WaitBit w b st) old e.first.of
    bit_is = record { number = refl; program = bit_fresh }

    bit_number : e.leaves.ended.view.number ≡ me
    bit_number = (of_way bit_table bit_exits me (calls.WaitBit w b st) (bit_ways me w b st) BitAt
        AnyRun (bit_speech me w b st) old e.first (stage.Test test.First) bit_is e.leaves.ended e.leaves.at
        (turn.Done e.leaves.outcome) e.leaves.came).number

    bit_before : Before law.table me e.leaves.ended
    bit_before = before_rest law.table me (is_bit_worn e.leaves.outcome) e.leaves.ended new e.leaves.rests
        (before_law new law me (rested_number (is_bit_worn e.leaves.outcome) e.leaves.ended new me e.leaves.rests
        bit_number))

    pub bit_left : IsLeftWord me (calls.WaitBit w b st) (bit_ways me w b st)
        (bit_says old new w b st (until.Left seen) e) minus_4
    bit_left =
        let asked = bit_left_asked e.leaves.at.of.wait e.leaves.outcome seen e.leaves.answer in
        subst (λ (a : Answer). IsLeftWord me (calls.WaitBit w b st) (bit_ways me w b st)
        (bit_says old new w b st (until.Left seen) e) a) asked.1
        (left_word bit_table bit_exits me (calls.WaitBit w b st) (bit_ways me w b st) BitAt AnyRun (bit_speech me w b
        st)
        law.table law.ruled.whole.interleaved old e.first (stage.Test test.First) bit_is (λ _ _. out) (λ v a h. h) refl
        e.leaves.ended e.leaves.at e.leaves.outcome e.leaves.came (gone_by bit_table bit_exits old e.first
        (stage.Test test.First) e.leaves.ended e.leaves.at (turn.Done e.leaves.outcome) e.leaves.came asked.0
        e.fresh.unasked) (λ r q ts tells. tt) bit_before)

  module _ {A : Type 0} (e : EndsBitLockUntil A old new w b st (until.Left seen)) where
    lock_fresh : call_program me 0 (calls.LockBit e.first.of.wait.word e.first.of.wait.bit e.first.of.wait.state)
        ≡ call_program me 0 (calls.LockBit w b st)
    lock_fresh i = call_program me 0 (calls.LockBit (e.fresh.word i) (e.fresh.bit i) (e.fresh.state i))

    lock_is : IsRunOf lock_table me (calls.LockBit w b st) old e.first.of
    lock_is = record { number = refl; program = lock_fresh }

    lock_number : e.leaves.ended.view.number ≡ me
    lock_number = (of_way lock_table lock_exits me (calls.LockBit w b st) (lock_ways me w b st) BitAt
        AnyRun (lock_speech me w b st) old e.first (stage.Test lock_test.First) lock_is e.leaves.ended e.leaves.at
        (turn.Done e.leaves.outcome) e.leaves.came).number

    lock_before : Before law.table me e.leaves.ended
    lock_before = before_rest law.table me e.leaves.at.of.wait.worn e.leaves.ended new e.leaves.rests
        (before_law new law me (rested_number e.leaves.at.of.wait.worn e.leaves.ended new me e.leaves.rests
        lock_number))

    pub lock_left : IsLeftWord me (calls.LockBit w b st) (lock_ways me w b st)
        (lock_says old new w b st (until.Left seen) e) minus_4
    lock_left =
        let asked = lock_left_asked e.leaves.at.of.wait e.leaves.outcome seen e.leaves.answer in
        subst (λ (a : Answer). IsLeftWord me (calls.LockBit w b st) (lock_ways me w b st)
        (lock_says old new w b st (until.Left seen) e) a) asked.1
        (left_word lock_table lock_exits me (calls.LockBit w b st) (lock_ways me w b st) BitAt AnyRun (lock_speech me w
        b st)
        law.table law.ruled.whole.interleaved old e.first (stage.Test lock_test.First) lock_is (λ _ _. out)
        (λ v a h. h) refl e.leaves.ended e.leaves.at e.leaves.outcome e.leaves.came (gone_by lock_table lock_exits old
        e.first (stage.Test lock_test.First) e.leaves.ended e.leaves.at (turn.Done e.leaves.outcome) e.leaves.came
        asked.0 e.unasked) (λ r q ts tells. tt) lock_before)

pub left_bit_waits_follow : (A : Type 0) → LeftBitWaitsFollow A
left_bit_waits_follow A old new w b st seen law out e = bit_left old new w b st seen law out e

pub left_bit_locks_follow : (A : Type 0) → LeftBitLocksFollow A
left_bit_locks_follow A old new w b st seen law out e = lock_left old new w b st seen law out e
