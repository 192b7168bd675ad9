-- The bit is tried.
use Rattle.std.proofs.Common.{ap, sym, refl, subst, inl}
use Rattle.std.specs.Prelude.{ℕ, ◌≡◌, ◌&&◌, not, Bool, true, false, if◌then◌else◌, Ok, Some, [], ◌∷◌, ◌++◌}
use Rattle.wait_model.specs.declared.calls.Answer.TheVariants as answer
use Rattle.wait_model.specs.{declared.calls.Event.Event, declared.points.Planned.Planned, declared.points.Point.Point}
use Rattle.wait_model.specs.{declared.watches.Watch.Watch, Points.given_at, Watches.was_clear, Words.bit_at}
use Rattle.wait_model.specs.Programs.{ends_with, exchange, go, interrupted, zero_answer}
use Rattle.wait_model.specs.declared.points.BitPoint.TheVariants as biting
use Rattle.wait_model.specs.declared.points.FinishPoint.TheVariants as finishing
use Rattle.wait_model.specs.declared.points.Next.TheVariants as next
use Rattle.wait_model.specs.declared.points.Point.TheVariants as at
use Rattle.wait_model.specs.declared.points.PreparePoint.TheVariants as preparing
use Rattle.wait_model.specs.declared.steps.Step.TheVariants as step
use Rattle.wait_rule.specs.declared.journal.Item.TheVariants as item
use Rattle.wait_rule.specs.{Bits.SetsBit, Ends.WasWorn, Known.Known, Queues.index, Says.added}
use Rattle.wait_rule.specs.{Says.history_of, Transitions.IsMadeFor, Transitions.by_step}
use Rattle.wait_rule.proofs.{KnownLaws.TaskHistories.history_after, WornHeads.WornNotes.notes_stay}
use Rattle.wait_class.specs.{Posts.EndsWith, Findings.with_value, declared.frame_stages.Framed.Framed}
use Rattle.wait_class.specs.{declared.stages.Run.Run, Laws.IsPlainTurn}
use Rattle.wait_class.specs.Tables.{IsAt, Turned}
use Rattle.wait_class.proofs.{Histories.ends_more, Ground.Standing.home_waits, Turns.GoesOn, Turns.advance_by}
use Rattle.wait_class.proofs.Ways.{either_event}
use Rattle.wait_class.specs.declared.frame_stages.Stage.TheVariants as stage
use Rattle.wait_class.specs.declared.stages.Turn.TheVariants as turn
use Rattle.bit_wait.specs.{LockStays.LockKeeps, LockEnds.ComesBehindWorn, declared.lock_runs.LockBit.LockBit}
use Rattle.bit_wait.specs.declared.lock_runs.LockTest.{LockTest}
use Rattle.bit_wait.specs.LockTables.{stands_worn, EndTrail, FailTrail, WhyFailed, LockTurn, lock_bit_in, lock_bit_call}
use Rattle.bit_wait.specs.LockTables.{lock_head_in, lock_frame, lock_table, tried_to, tries_bit}
use Rattle.bit_wait.specs.declared.lock_runs.LockOutcome.TheVariants as outcome
use Rattle.bit_wait.specs.declared.lock_runs.LockTest.TheVariants as test
use Rattle.bit_wait.proofs.{LockKinds.set_goes, LockLaws.more_signal}

module _ (old new : Known) (r : Run (Framed LockBit)) (v : ℕ)
    (is : new ≡ added old (item.Made (step.Consume (lock_bit_in r.of.wait) 1 v)))
    (sets : SetsBit old new (lock_bit_in r.of.wait) (was_clear (lock_bit_in r.of.wait) v)) where
  abbrev w : LockBit
  w = r.of.wait

  -- the run has what it found too, and whether that was behind a hold that found no place
  abbrev w_seen : LockBit
  w_seen = record w { seen = v }

  abbrev q : LockTest → Framed LockBit
  q x = record { wait = record w { seen = v; worn = stands_worn x } }

  abbrev seen : Event
  seen = exchange (lock_bit_call w) (with_value v)

  abbrev prepares : Planned
  prepares = go seen (at.Prepare preparing.Lock)

  abbrev over : Planned
  over = ends_with seen zero_answer

  abbrev worn : Planned
  worn = ends_with seen answer.Worn

  abbrev Made : Point → Event → Type 0
  Made p x = IsMadeFor old (Some (index old.view.number 0)) (given_at (lock_bit_call w) p) x
      (by_step (step.Consume (lock_bit_in w) 1 v))

  more : history_of new ≡ history_of old ++ tries_bit w_seen
  more = history_after old new (step.Consume (lock_bit_in w) 1 v) is

  over_trail : (x : LockTest) → ComesBehindWorn new w.word w.bit (Ok tt) (stands_worn x) → was_clear (lock_bit_in w) v ≡ true
      → EndTrail new (q x).wait outcome.Over
  over_trail x behind clear = record {
    cause = tt;
    behind = behind;
    keeps = λ is. sets.keeps clear;
    tries = sets.tries;
  }

  -- behind a hold that found no place
  worn_noted : (a : IsAt lock_table old r (stage.Test test.Worn))
      → WasWorn new.view.number new.view.items (lock_head_in w) w.place
  worn_noted a = subst (λ (k : Known). WasWorn k.view.number k.view.items (lock_head_in w) w.place) (sym is)
      (notes_stay old.view.number old.view.items (item.Made (step.Consume (lock_bit_in w) 1 v) ∷ []) (lock_head_in w) w.place
      a.trail.0.noted)

  worn_ends : (a : IsAt lock_table old r (stage.Test test.Worn))
      → EndsWith new (step.Unlock (lock_head_in w) false ∷ tries_bit w_seen)
  worn_ends a = ends_more old new (step.Unlock (lock_head_in w) false ∷ []) (tries_bit w_seen) a.trail.0.ends more

  -- what a wait that failed found at last
  why : (b : Bool) → FailTrail b old w → bit_at v w.bit ≡ true → WhyFailed b new (q test.Last).wait
  why true f set = record { last = (history_of old, more); set = set }
  why false f set =
      let g = more_signal old new w.state (tries_bit w_seen) more refl f in record {
        before = g.before;
        sleep = g.sleep;
        look = g.look;
        more = g.more;
        ends = g.ends;
        pends = g.pends;
        awake = g.awake;
        last = (history_of old, more);
        set = set;
      }

  same_keeps : (i : ℕ) (c : Watch) (g h : Bool) (j k : Known) → LockKeeps i c g h j k → LockKeeps i c g h j k
  same_keeps i c g h j k y = y

  try_from : (x : LockTest) → lock_frame.loads x ≡ false → (a : IsAt lock_table old r (stage.Test x)) → (b : Bool)
      → bit_at v w.bit ≡ b → GoesOn lock_table old new r.of (q x) (stage.Test x) (tried_to x b)
  try_from test.Load own a b set = absurd (cc)
  try_from test.First own a true set = set_goes lock_table old new r
      (stage.Test test.First) w.word w.bit v refl same_keeps is sets refl refl refl a (q test.First) (λ x did. tt) (turn.Again stage.PrepareLock) true set refl
      (ap (λ (c : Bool). (if c then prepares else over).next) set)
      (either_event (Made (at.Bit biting.First)) (bit_at v w.bit) prepares over (refl, refl) (refl, refl))
      (refl, tt, tt) refl refl (λ σ s. inl s) (home_waits (lock_bit_in w)) tt
  try_from test.First own a false set = set_goes lock_table old new r
      (stage.Test test.First) w.word w.bit v refl same_keeps is sets refl refl refl a (q test.First) (λ x did. tt) (turn.Done outcome.Over) false set refl
      (ap (λ (c : Bool). (if c then prepares else over).next) set)
      (either_event (Made (at.Bit biting.First)) (bit_at v w.bit) prepares over (refl, refl) (refl, refl))
      (refl, tt, tt) refl refl (λ σ s. s) (λ o h. h) (over_trail test.First tt (ap not set))
  try_from test.Again own a true set = set_goes lock_table old new r
      (stage.Test test.Again) w.word w.bit v refl same_keeps is sets refl refl refl a (q test.Again) (λ x did. tt) (turn.Again stage.PrepareLock) true set refl
      (ap (λ (c : Bool). next.Go (if c && not false then at.Prepare preparing.Lock
      else at.Finish finishing.State false)) set)
      (refl, refl) (refl, tt, tt) refl refl (λ σ s. s) (λ o h. h)
      tt
  try_from test.Again own a false set = set_goes lock_table old new r
      (stage.Test test.Again) w.word w.bit v refl same_keeps is sets refl refl refl a (q test.Again) (λ x did. tt) (turn.Again (stage.FinishState false)) false set refl
      (ap (λ (c : Bool). next.Go (if c && not false then at.Prepare preparing.Lock
      else at.Finish finishing.State false)) set)
      (refl, refl) (refl, tt, tt) refl refl (λ σ s. s) (λ o h. h)
      (record { keeps = sets.keeps (ap not set); tries = sets.tries }, refl)
  try_from test.Last own a true set = set_goes lock_table old new r
      (stage.Test test.Last) w.word w.bit v refl same_keeps is sets refl refl refl a (q test.Last) (λ x did. tt) (turn.Done outcome.Interrupted) true set refl
      (ap (λ (c : Bool). next.Ends (if c then interrupted else zero_answer)) set)
      (refl, refl) (refl, tt, tt) refl refl (λ σ s. s) (λ o h. h)
      (record {
        cause = why w.asked a.trail set;
        behind = refl;
        keeps = λ no. absurd (cc);
        tries = sets.tries;
      })
  try_from test.Last own a false set = set_goes lock_table old new r
      (stage.Test test.Last) w.word w.bit v refl same_keeps is sets refl refl refl a (q test.Last) (λ x did. tt) (turn.Done outcome.Over) false set refl
      (ap (λ (c : Bool). next.Ends (if c then interrupted else zero_answer)) set)
      (refl, refl) (refl, tt, tt) refl refl (λ σ s. s) (λ o h. h)
      (over_trail test.Last tt (ap not set))
  try_from test.Worn own a true set = set_goes lock_table old new r
      (stage.Test test.Worn) w.word w.bit v refl same_keeps is sets refl refl refl a (q test.Worn) (λ x did. tt) (turn.Done outcome.Worn) true set refl
      (ap (λ (c : Bool). (if c then worn else over).next) set)
      (either_event (Made at.Worn) (bit_at v w.bit) worn over (refl, refl) (refl, refl))
      (refl, tt, tt) refl refl (λ σ s. s) (λ o h. h) (record {
        cause = record { head = refl; noted = worn_noted a; found = v; ends = worn_ends a; set = set };
        behind = refl;
        keeps = λ no. absurd (cc);
        tries = sets.tries;
      })
  try_from test.Worn own a false set = set_goes lock_table old new r
      (stage.Test test.Worn) w.word w.bit v refl same_keeps is sets refl refl refl a (q test.Worn) (λ x did. tt) (turn.Done outcome.Over) false set refl
      (ap (λ (c : Bool). (if c then worn else over).next) set)
      (either_event (Made at.Worn) (bit_at v w.bit) worn over (refl, refl) (refl, refl))
      (refl, tt, tt) refl refl (λ σ s. s) (λ o h. h) (over_trail test.Worn (record {
        place = w.place;
        noted = worn_noted a;
        found = v;
        ends = worn_ends a;
        clear = set;
      }) (ap not set))

plain_tries : (x : LockTest) (b : Bool) → IsPlainTurn lock_table (tried_to x b)
plain_tries test.First true = refl
plain_tries test.First false = tt
plain_tries test.Load true = refl
plain_tries test.Load false = tt
plain_tries test.Again true = refl
plain_tries test.Again false = refl
plain_tries test.Worn true = tt
plain_tries test.Worn false = tt
plain_tries test.Last true = tt
plain_tries test.Last false = tt

abbrev run_after : Run (Framed LockBit) → ℕ → Bool → Run (Framed LockBit)
run_after r v worn = record r { of = record { wait = record r.of.wait { seen = v; worn = worn } } }

pub try_advances : (old new : Known) (r : Run (Framed LockBit)) (x : LockTest) → lock_frame.loads x ≡ false
    → IsAt lock_table old r (stage.Test x) → (v : ℕ)
    → new ≡ added old (item.Made (step.Consume (lock_bit_in r.of.wait) 1 v))
    → SetsBit old new (lock_bit_in r.of.wait) (was_clear (lock_bit_in r.of.wait) v) → (worn : Bool) → worn ≡ stands_worn x
    → (b : Bool) → b ≡ bit_at v r.of.wait.bit → (u : LockTurn) → u ≡ tried_to x b
    → Turned lock_table old new r (run_after r v worn) (stage.Test x) u
try_advances old new r x own a v is sets worn behind b tells u to =
    subst (λ (n : LockTurn). Turned lock_table old new r (run_after r v worn) (stage.Test x) n) (sym to)
    (subst (λ (g : Bool). Turned lock_table old new r (run_after r v g) (stage.Test x) (tried_to x b)) (sym behind)
    (advance_by lock_table old new r (run_after r v (stands_worn x)) (stage.Test x)
    (tried_to x b) refl (record { word = a.fits.word; bit = a.fits.bit }) (plain_tries x b)
    (try_from old new r v is sets x own a b (sym tells))))
