-- A task that is done with its work and one that begins it, and the controller, whose whole work is parts about no
-- pipe.
use Rattle.std.proofs.Common.{refl, sym, ◌∙◌, subst, arith}
use Rattle.std.proofs.lemmas.Bool.{eqb-false, eqb-true}
use Rattle.std.specs.Prelude.{ℕ, zero, suc, ◌≡◌, ◌+◌, ◌&&◌, eqb, not, Bool, true, false, List, []}
use Rattle.std.specs.Prelude.{Result, Ok, Err, MatchResult}
use Rattle.atomic_table.specs.Seated.{TableId}
use Rattle.bit_wait.specs.declared.wait_calls.BitEnd.{BitEnd}
use Rattle.bit_wait.specs.declared.wait_calls.BitEnd.TheVariants as bit_end
use Rattle.wait_rule.specs.{declared.journal.Journal.Journal, declared.journal.Part.Part, Known.Known}
use Rattle.wait_rule.specs.{Queues.IsIdle, Queues.index, Tallies.amounts_of}
use Rattle.wait_rule.specs.Says.{Obligation, IsClean, OwesBut, end_unclosed, excuses, has_duty, newcomer, no_excuse}
use Rattle.wait_rule.specs.Says.{page_asked, seen_with, wake_of}
use Rattle.copy_plan.specs.declared.TheConstants.{COUNTED_PAGE}
use Rattle.copy_ends.specs.Copied.{AwaitsWorker, ControlEnds, Controlled, IsControlEnd, ReadTally, WaitsTimes}
use Rattle.copy_ends.specs.Did.{IsIdler}
use Rattle.copy_turns.specs.Turns.{CountedAll}
use Rattle.copy_turns.specs.Work.{Apart, Counted, IsAtWork, SumsStay, but_ends}
use Rattle.copy_turns.proofs.PartLaws.{grows_then}

and_false : (b : Bool) → (b && false) ≡ false
and_false true = refl
and_false false = refl

-- who owes nothing owes nothing but to close its ends
pub but_ends_more : (k : Known) → OwesBut no_excuse k → OwesBut but_ends k
but_ends_more k o = record {
  unmarked = o.unmarked;
  debts = record { none = by; off = o.debts.off; shows = o.debts.shows };
  unqueued = o.unqueued;
  holds = o.holds;
  tries = o.tries;
  tries_none = o.tries_none;
}
  where
    by : (d : Obligation) → (has_duty k d && not (excuses but_ends d)) ≡ false
    by (wake_of c σ) = o.debts.none (wake_of c σ)
    by page_asked = o.debts.none page_asked
    by (end_unclosed e) = and_false (has_duty k (end_unclosed e))

pub is_idle : (k : Known) → IsClean k → IsIdle k
is_idle k clean = record { running = clean.running; free = clean.free; unmarked = clean.settled.unmarked }

pub at_work : (k : Known) → IsIdler k → IsAtWork k
at_work k i = record {
  up = i.clean.up;
  idle = is_idle k i.clean;
  out = i.clean.settled.unqueued (index k.view.number 0);
  owes = but_ends_more k i.clean.settled;
  off = i.off;
}

-- who owed nothing owes nothing after such parts
pub idler_after : (old new : Known) → IsIdler old → Apart old new → IsIdler new
idler_after old new i a = record {
  clean = record {
    up = a.works.work.up;
    running = a.works.work.idle.running;
    free = a.works.work.idle.free;
    settled = a.works.owes no_excuse i.clean.settled;
  };
  off = a.works.work.off;
}

pub controlled : (old new : Known) → IsIdler old → Apart old new → Controlled old new
controlled old new i a = record {
  served = record { idler = idler_after old new i a; domain = a.works.domain; grows = a.works.grows };
  ends = a.ends;
  sums = a.sums;
  signals = a.signals;
}

pub controlled_then : (a b c : Known) → Controlled a b → Controlled b c → Controlled a c
controlled_then a b c one two = record {
  served = record {
    idler = two.served.idler;
    domain = two.served.domain ∙ one.served.domain;
    grows = grows_then a b c one.served.grows two.served.grows;
  };
  ends = λ j. two.ends j ∙ one.ends j;
  sums = λ p. two.sums p ∙ one.sums p;
  signals = two.signals ∙ one.signals;
}

-- an add of nothing
sums_of_none : (a b : Known) → Counted 0 a b → SumsStay a b
sums_of_none a b n p = by (eqb COUNTED_PAGE p) refl
  where
    by : (t : Bool) → eqb COUNTED_PAGE p ≡ t → amounts_of p b.view.items ≡ amounts_of p a.view.items
    by true e = subst (λ (q : ℕ). amounts_of q b.view.items ≡ amounts_of q a.view.items) (eqb-true COUNTED_PAGE p e)
        (let own = n.own in omega arith)
    by false e = n.others p (λ f. eqb-false COUNTED_PAGE p e (sym f))

pub counted_apart : (a b : Known) → CountedAll 0 a b → Apart a b
counted_apart a b n = record {
  works = n.works;
  ends = n.ends;
  sums = sums_of_none a b n.counted;
  signals = n.signals;
}

-- one wait more, and the tally read behind all of them
pub waits_more : (n m : ℕ) (a b c : Known) → m ≡ n + 1 → WaitsTimes n a b → AwaitsWorker b c → WaitsTimes m a c
waits_more n zero a b c e one two = absurd (omega (arith, e))
waits_more n (suc m) a b c e one two = (b, subst (λ (k : ℕ). WaitsTimes k a b) (omega (arith, e)) one, two)

pub control_ends : (n : ℕ) (a b c : Known) (total : Result ℕ BitEnd) → WaitsTimes n a b
    → MatchResult total (ReadTally b c) (IsControlEnd c) → ControlEnds n a c total
control_ends n a b c (Ok total) one two = record { waited = b; waits = one; reads = two }
control_ends n a b c (Err (bit_end.Worn h p)) one two = two
control_ends n a b c (Err (bit_end.Interrupted seen)) one two = two

-- and one that has made none but has joined others
abbrev joined_parts : ℕ → ℕ → List Part → Journal
joined_parts next spare ps = record {
  lives = true;
  number = 0;
  next = next;
  spare = spare;
  items = [];
  joined = ps;
}

pub joined_clean : (domain : TableId) (next spare : ℕ) (ps : List Part)
    → IsClean (seen_with (newcomer domain 0 next spare) (joined_parts next spare ps))
joined_clean domain next spare ps = record {
  up = refl;
  running = refl;
  free = record { head = refl; ticket = refl };
  settled = record {
    unmarked = refl;
    debts = record { none = by; off = λ none d o. refl; shows = λ none d o. refl };
    unqueued = λ i. refl;
    holds = λ w. refl;
    tries = λ w. refl;
    tries_none = λ x w. refl;
  };
}
  where
    by : (u : Obligation) → (has_duty (seen_with (newcomer domain 0 next spare) (joined_parts next spare ps)) u
        && not (excuses no_excuse u)) ≡ false
    by (wake_of w σ) = refl
    by page_asked = refl
    by (end_unclosed e) = refl
