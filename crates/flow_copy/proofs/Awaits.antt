-- What the waits of a controller leave of it: for a completion, and for the page whose tally it reads.
use Rattle.std.proofs.Common.{refl, ◌∙◌, ap, append-nil, arith}
use Rattle.std.specs.Prelude.{ℕ, ◌≡◌, ◌==◌, if◌then◌else◌, Bool, true, false, Result, Err}
use Rattle.std.proofs.lemmas.Bool.{false≢true}
use Rattle.wait_model.specs.declared.calls.Call.TheVariants as calls
use Rattle.wait_model.specs.declared.points.AwaitPoint.TheVariants as awaiting
use Rattle.wait_model.specs.declared.points.Next.TheVariants as next
use Rattle.wait_model.specs.declared.points.Point.TheVariants as at
use Rattle.wait_model.specs.{declared.queues.Walked.Walked, declared.tasks.TaskRecord.TaskRecord, Watches.page}
use Rattle.wait_model.specs.Tasks.{meets, pending, state_mask, task_of}
use Rattle.wait_model.specs.declared.tasks.SleepState.TheVariants as states
use Rattle.wait_model.specs.declared.watches.Watch.TheVariants as watch
use Rattle.wait_rule.specs.{declared.journal.Item.Item, Bits.SetsBit, HandedPermits.StaysOff, Known.Known}
use Rattle.wait_rule.specs.{PipeSays.EndsStay, Stays.Carries, Tallies.amount_of, Transitions.call_program}
use Rattle.wait_rule.specs.Aside.{Grows, GrowsAside, signals_of}
use Rattle.wait_rule.specs.Queues.{IsIdle, index}
use Rattle.wait_rule.specs.Says.{FindsTally, IsClean, IsUp, added}
use Rattle.wait_rule.specs.declared.journal.Item.TheVariants as item
use Rattle.wait_rule.proofs.{KnownLaws.AsideCalls.calls_grow_aside, KnownLaws.CarriedEnds.programs_leave_ends}
use Rattle.wait_event.specs.{declared.wait_events.WaitEnd.WaitEnd, Ends.wait_change}
use Rattle.wait_event.specs.declared.wait_events.WaitEnd.TheVariants as wait_end
use Rattle.wait_class.specs.Posts.{IsOut, Runs}
use Rattle.completion_cell.specs.AwaitEnds.{EndsAwait, answer_of_await}
use Rattle.bit_wait.specs.{declared.wait_calls.BitEnd.BitEnd, Clears.HasClearedBit, Tries.HasTriedBit}
use Rattle.bit_wait.specs.declared.wait_calls.BitEnd.TheVariants as bit_end
use Rattle.page_lock.specs.PageEnds.{EndsPageLock}
use Rattle.copy_plan.specs.declared.TheConstants.{COUNTED_PAGE, ENDED_CELL}
use Rattle.copy_ends.specs.Copied.{IsControlEnd, ReadTally}
use Rattle.copy_turns.specs.Work.{Apart, IsAtWork, but_ends}
use Rattle.copy_turns.proofs.Frames.{item_end, item_grows, item_signals, item_sum}
use Rattle.copy_turns.proofs.PartLaws.{grows_then}

-- no signal is admitted in state UNINTERRUPTIBLE
admits_none : (t : TaskRecord) → pending (state_mask states.Uninterruptible) t ≡ true → ⊥
unfolding meets
admits_none t is = by t.signal t.fatal is
  where
    by : (s f : Bool) → pending (state_mask states.Uninterruptible) (record t { signal = s; fatal = f }) ≡ true → ⊥
    by true true is = false≢true is
    by true false is = false≢true is
    by false f is = false≢true is

module _ (old new : Known) (result : Result (Unit {0}) WaitEnd)
    (waited : EndsAwait old new ENDED_CELL states.Uninterruptible result) where
  abbrev runs : Runs (call_program old.view.number 0 (calls.WaitFor ENDED_CELL states.Uninterruptible)) old new
      (next.Go (at.Await (awaiting.Lock false))) (next.Ends (answer_of_await result))
  runs = waited.awaited.runs

  awaited_aside : GrowsAside old new
  awaited_aside = calls_grow_aside old.view.number 0 (calls.WaitFor ENDED_CELL states.Uninterruptible) old new
      (next.Go (at.Await (awaiting.Lock false))) (next.Ends (answer_of_await result)) runs.transitions tt (λ e. absurd (cc))
      runs.goes

  awaited_ends : EndsStay old new
  awaited_ends = programs_leave_ends (call_program old.view.number 0 (calls.WaitFor ENDED_CELL states.Uninterruptible))
      (λ p v o e. let f : watch.Done ENDED_CELL ≡ watch.Var v o = e in absurd (cc)) old new
      (next.Go (at.Await (awaiting.Lock false))) (next.Ends (answer_of_await result)) runs.transitions runs.goes

  pub awaited_apart : IsAtWork old → IsUp new → IsIdle new → IsOut new
      → Carries (wait_change (index old.view.number 0) new.at) old new → StaysOff old new → Apart old new
  awaited_apart work up idle out c off = record {
    works = record {
      work = record {
        up = up;
        idle = idle;
        out = out;
        owes = c.owes but_ends work.owes;
        off = off ENDED_CELL work.off;
      };
      domain = c.domain;
      grows = awaited_aside.grows;
      owes = c.owes;
      claims = λ j. ap (λ e. e.mine) (awaited_ends j);
    };
    ends = awaited_ends;
    sums = awaited_aside.sums;
    signals = awaited_aside.signals;
  }

pub awaited_signal : (old new : Known) (seen : ℕ) (selected : Bool)
    → EndsAwait old new ENDED_CELL states.Uninterruptible (Err (wait_end.Signal seen selected)) → ⊥
awaited_signal old new seen selected waited = admits_none (task_of waited.cause.look) waited.cause.showed

pub locked_end : (old new : Known) (e : BitEnd)
    → EndsPageLock old new COUNTED_PAGE states.Uninterruptible (Err e) → IsControlEnd new e
locked_end old new (bit_end.Worn h p) waited = waited.cause.noted
locked_end old new (bit_end.Interrupted seen) waited = admits_none (task_of waited.cause.look) waited.cause.pends

pub aside_then : (a b c : Known) → GrowsAside a b → GrowsAside b c → GrowsAside a c
aside_then a b c one two = record {
  grows = grows_then a b c one.grows two.grows;
  sums = λ p. two.sums p ∙ one.sums p;
  signals = two.signals ∙ one.signals;
  claims = λ j. two.claims j ∙ one.claims j;
}

pub tried_aside : (old new : Known) (clear : Bool) → HasTriedBit old new COUNTED_PAGE 0 clear → GrowsAside old new
tried_aside old new clear tried = calls_grow_aside old.view.number 0 (calls.TryBit COUNTED_PAGE 0) old new _ _
    tried.transitions tt (λ e. absurd (cc)) tried.goes

pub cleared_aside : (old new : Known) (walked : Walked) → HasClearedBit old new COUNTED_PAGE 0 walked
    → GrowsAside old new
cleared_aside old new walked cleared = calls_grow_aside old.view.number 0 (calls.ClearBit COUNTED_PAGE 0) old new _ _
    cleared.runs.transitions tt (λ e. absurd (cc)) cleared.runs.goes

nothing_more : (p found : ℕ) → amount_of p (item.Tally COUNTED_PAGE 0 found) ≡ 0
nothing_more p found = by (COUNTED_PAGE == p) 0 0 refl
  where
    by : (t : Bool) (n m : ℕ) → n ≡ m → (if t then n else m) ≡ m
    by true n m same = same
    by false n m same = refl

pub added_aside : (old new : Known) (found : ℕ) → new ≡ added old (item.Tally COUNTED_PAGE 0 found)
    → GrowsAside old new
added_aside old new found is =
    let x : Item = item.Tally COUNTED_PAGE 0 found in
    record {
      grows = item_grows old new x is;
      sums = λ p. let e = item_sum old new x is p in let f = nothing_more p found in omega arith;
      signals = item_signals old new x is ∙ append-nil (signals_of old.view.items);
      claims = λ j. ap (λ e. e.mine) (item_end old new x is j);
    }

pub read_tally : (old locked told new : Known) (walked : Walked) (found : ℕ) → Grows old locked
    → FindsTally locked.view COUNTED_PAGE found → told ≡ added locked (item.Tally COUNTED_PAGE 0 found)
    → HasClearedBit told new COUNTED_PAGE 0 walked → ReadTally old new found
read_tally old locked told new walked found before finds is cleared = record {
  mid = locked;
  before = before;
  finds = finds;
  later = (aside_then locked told new (added_aside locked told found is) (cleared_aside told new walked cleared)).grows;
}

-- A task that tries the page until it gets it owes nothing still.
pub record Trying (old now : Known) : Type 0 where
  pub clean : IsClean now
  pub domain : now.domain ≡ old.domain
  pub aside : GrowsAside old now

pub tries_more : (old a b : Known) (clear : Bool) → Trying old a → HasTriedBit a b COUNTED_PAGE 0 clear
    → SetsBit a b (page COUNTED_PAGE) clear → IsClean b → Trying old b
tries_more old a b clear t tried sets clean = record {
  clean = clean;
  domain = sets.stays.domain ∙ t.domain;
  aside = aside_then old a b t.aside (tried_aside a b clear tried);
}
