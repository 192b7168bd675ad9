-- What a lock of the page, an add to its tally and an unlock leave of a worker.
use Rattle.std.proofs.Common.{refl, sym, ◌∙◌, ap, subst, inr, append-nil, arith}
use Rattle.std.specs.Prelude.{ℕ, ◌≡◌, ◌≢◌, ◌+◌, ◌<◌, ◌==◌, if◌then◌else◌, Bool, true, false, None, Result}
use Rattle.std.proofs.lemmas.Bool.Decides.{nat_tests}
use Rattle.wait_model.specs.{declared.calls.Call.Call, declared.layout.TheConstants.FIRST_DONE_HEAD}
use Rattle.wait_model.specs.{declared.points.Next.Next, declared.queues.Walked.Walked}
use Rattle.wait_model.specs.{declared.tasks.SleepState.SleepState, declared.watches.Watch.Watch, Points.call_watch}
use Rattle.wait_model.specs.Views.{View as Told}
use Rattle.wait_model.specs.Watches.{hashed, head_of, page}
use Rattle.wait_model.specs.declared.calls.Call.TheVariants as calls
use Rattle.wait_model.specs.declared.points.Next.TheVariants as next
use Rattle.wait_model.specs.declared.points.Point.TheVariants as at
use Rattle.wait_model.specs.declared.watches.Watch.TheVariants as watch
use Rattle.wait_rule.specs.{declared.journal.Item.Item, Aside.GrowsAside, Aside.raises_none, Bits.KeepsBitOf}
use Rattle.wait_rule.specs.{HandedPermits.StaysOff, Known.Known, PipeSays.EndsStay, Tallies.amount_of}
use Rattle.wait_rule.specs.{Tallies.amounts_of, Transitions.call_program}
use Rattle.wait_rule.specs.Queues.{IsIdle, IsTold, index}
use Rattle.wait_rule.specs.Says.{Excuse, IsUp, OwesBut, TriesNone, added}
use Rattle.wait_rule.specs.Says.{told_of}
use Rattle.wait_rule.specs.Stays.{Carries, unchanged, with_bit, with_bits}
use Rattle.wait_rule.specs.declared.journal.Item.TheVariants as item
use Rattle.wait_rule.proofs.{KnownLaws.AsideCalls.calls_grow_aside, KnownLaws.CarriedEnds.programs_leave_ends}
use Rattle.wait_rule.proofs.KnownLaws.OtherCalls.{others_stay_off}
use Rattle.wait_class.specs.Posts.{IsOut, Runs}
use Rattle.bit_wait.specs.{declared.wait_calls.BitEnd.BitEnd, Clears.GivesBack, Clears.HasClearedBit}
use Rattle.page_lock.specs.{PageEnds.EndsPageLock, PageStays.TakesPage}
use Rattle.copy_plan.specs.declared.TheConstants.{COUNTED_PAGE, ENDED_CELL}
use Rattle.copy_turns.specs.Turns.{CountedAll}
use Rattle.copy_turns.specs.Work.{Apart, IsAtWork, Locks, Works, but_ends}
use Rattle.copy_turns.proofs.Frames.{item_end, item_grows, item_off, item_signals, item_sum, still_idle, still_out}
use Rattle.copy_turns.proofs.PartLaws.{ends_then, grows_then, sums_then}

-- a task at work holds no head
pub holds_none : (k : Known) → IsTold k → IsIdle k → (told_of k).hold.head ≡ None
holds_none k told idle = told.head ∙ idle.free.head

-- A call about a page, whatever it is.
low : head_of (page COUNTED_PAGE) < FIRST_DONE_HEAD
unfolding head_of hashed
low = omega arith

module _ (call : Call) (about : call_watch call ≡ page COUNTED_PAGE) (silent : raises_none call) (old new : Known)
    (from to : Next) (away : from ≢ next.Go at.Raise)
    (runs : Runs (call_program old.view.number 0 call) old new from to)
  where
    page_aside : GrowsAside old new
    page_aside = calls_grow_aside old.view.number 0 call old new from to runs.transitions silent away runs.goes

    page_ends : EndsStay old new
    page_ends = programs_leave_ends (call_program old.view.number 0 call)
        (λ p v o e. let f : page COUNTED_PAGE ≡ watch.Var v o = sym about ∙ e in absurd (cc)) old new from to
        runs.transitions runs.goes

    page_off : (told_of old).hold.head ≡ None → StaysOff old new
    page_off free = others_stay_off (call_program old.view.number 0 call) old new from to runs.transitions
        (inr (λ p. subst (λ (w : Watch). head_of w < FIRST_DONE_HEAD) (sym about) low)) free runs.goes

-- A wait for the page, that took it or did not.
module _ (old new : Known) (st : SleepState) (result : Result (Unit {0}) BitEnd) (told : IsTold old)
    (work : IsAtWork old) (waited : EndsPageLock old new COUNTED_PAGE st result) (up : IsUp new) (idle : IsIdle new)
    (out : IsOut new) where
  waited_aside : GrowsAside old new
  waited_aside = page_aside (calls.LockPage COUNTED_PAGE st) refl tt old new _ _ (λ e. absurd (cc)) waited.runs

  waited_ends : EndsStay old new
  waited_ends = page_ends (calls.LockPage COUNTED_PAGE st) refl tt old new _ _ (λ e. absurd (cc)) waited.runs

  waited_off : StaysOff old new
  waited_off = page_off (calls.LockPage COUNTED_PAGE st) refl tt old new _ _ (λ e. absurd (cc)) waited.runs
      (holds_none old told work.idle)

  pub locked : TakesPage old new COUNTED_PAGE true → Locks old new
  unfolding with_bits
  locked takes = record {
    up = up;
    idle = idle;
    out = out;
    off = waited_off ENDED_CELL work.off;
    keeps = takes.keeps refl;
    domain = takes.stays.domain;
    grows = waited_aside.grows;
    owes = takes.owes;
    ends = waited_ends;
    sums = waited_aside.sums;
    signals = waited_aside.signals;
  }

  pub unlocked : TakesPage old new COUNTED_PAGE false → Apart old new
  unfolding with_bits
  unlocked takes = record {
    works = record {
      work = record {
        up = up;
        idle = idle;
        out = out;
        owes = takes.owes but_ends work.owes;
        off = waited_off ENDED_CELL work.off;
      };
      domain = takes.stays.domain;
      grows = waited_aside.grows;
      owes = takes.owes;
      claims = λ j. ap (λ e. e.mine) (waited_ends j);
    };
    ends = waited_ends;
    sums = waited_aside.sums;
    signals = waited_aside.signals;
  }

-- and a lock after other parts
pub locks_after : (a b c : Known) → Apart a b → Locks b c → Locks a c
locks_after a b c one two = record {
  up = two.up;
  idle = two.idle;
  out = two.out;
  off = two.off;
  keeps = two.keeps;
  domain = two.domain ∙ one.works.domain;
  grows = grows_then a b c one.works.grows two.grows;
  owes = λ x o. two.owes x (one.works.owes x o);
  ends = ends_then a b c one.ends two.ends;
  sums = sums_then a b c one.sums two.sums;
  signals = two.signals ∙ one.signals;
}

-- An add to the tally of the page that the task has locked, and then an unlock.
test_off : (a b : ℕ) → a ≢ b → (a == b) ≡ false
test_off a b ne = grind (arith, nat_tests)

module _ (old a b : Known) (n found : ℕ) (work : IsAtWork old) (locks : Locks old a)
    (is : b ≡ added a (item.Tally COUNTED_PAGE n found)) (c : Carries unchanged a b) where
  pub may_unlock : told_of b ≡ told_of a → TriesNone (told_of b)
  may_unlock same = subst TriesNone (sym same) (locks.owes but_ends work.owes).tries_none

  pub keeps_page : told_of b ≡ told_of a → KeepsBitOf b (page COUNTED_PAGE)
  keeps_page same = ap (λ (v : Told). v.bits.keeps (page COUNTED_PAGE)) same ∙ locks.keeps

  module _ (new : Known) (walked : Walked) (told : IsTold b)
      (cleared : HasClearedBit b new COUNTED_PAGE 0 walked) (up : IsUp new) (idle : IsIdle new)
      (gives : GivesBack b new (page COUNTED_PAGE)) where
    abbrev x : Item
    x = item.Tally COUNTED_PAGE n found

    cleared_aside : GrowsAside b new
    cleared_aside = page_aside (calls.ClearBit COUNTED_PAGE 0) refl tt b new _ _ (λ e. absurd (cc)) cleared.runs

    ends : EndsStay old new
    ends j = page_ends (calls.ClearBit COUNTED_PAGE 0) refl tt b new _ _ (λ e. absurd (cc)) cleared.runs j
        ∙ (item_end a b x is j ∙ locks.ends j)

    out : IsOut new
    out = gives.stays.out (index new.view.number 0)
        (subst (λ (m : ℕ). (told_of b).bits.stored (index m 0) ≡ None) (sym gives.stays.number)
        (still_out a b c locks.out))

    owes : (y : Excuse) → OwesBut y old → OwesBut y new
    owes y o = gives.owes y (c.owes (with_bit (page COUNTED_PAGE) y) (locks.owes y o))

    works : Works old new
    works = record {
      work = record {
        up = up;
        idle = idle;
        out = out;
        owes = owes but_ends work.owes;
        off = page_off (calls.ClearBit COUNTED_PAGE 0) refl tt b new _ _ (λ e. absurd (cc)) cleared.runs
            (holds_none b told (still_idle a b c locks.idle)) ENDED_CELL (item_off a b x is tt ENDED_CELL locks.off);
      };
      domain = gives.stays.domain ∙ (c.domain ∙ locks.domain);
      grows = grows_then old a new locks.grows (grows_then a b new (item_grows a b x is) cleared_aside.grows);
      owes = owes;
      claims = λ j. ap (λ e. e.mine) (ends j);
    }

    sum : (p : ℕ) → amounts_of p new.view.items ≡ amounts_of p old.view.items + amount_of p x
    sum p =
        let e = cleared_aside.sums p in let f = item_sum a b x is p in let g = locks.sums p in
        let h : amounts_of p a.view.items + amount_of p x ≡ amounts_of p old.view.items + amount_of p x
        = ap (λ (m : ℕ). m + amount_of p x) g in
        e ∙ (f ∙ h)

    other_sum : (p : ℕ) → p ≢ COUNTED_PAGE → amount_of p x ≡ 0
    other_sum p ne = ap (λ (t : Bool). if t then n else 0) (test_off COUNTED_PAGE p (λ e. ne (sym e)))

    pub counted_all : CountedAll n old new
    counted_all = record {
      works = works;
      ends = ends;
      counted = record {
        own = sum COUNTED_PAGE;
        others = λ p ne. let e = sum p in let f = other_sum p ne in omega arith;
      };
      signals = cleared_aside.signals ∙ (item_signals a b x is ∙ (append-nil _ ∙ locks.signals));
    }
