-- What the parts of a poll carry on of both entries.
use Rattle.std.proofs.Common.{◌∙◌, ap, sym, refl, subst, arith}
use Rattle.std.proofs.lemmas.Bool.Decides.{nat_tests}
use Rattle.std.specs.Prelude.{ℕ, ◌≡◌, ◌==◌, ◌||◌, Bool, true, false, Option, Some, None, Result, Ok, Err}
use Rattle.wait_model.specs.{declared.tasks.SleepState.SleepState, Tasks.state_mask}
use Rattle.wait_rule.specs.{Known.Known, Queues.index, Says.Excuse, Says.told_of}
use Rattle.wait_rule.specs.Stays.{Carries, no_entries, only, unchanged, with_entry}
use Rattle.wait_rule.proofs.KnownLaws.StayingParts.{owes_also}
use Rattle.wait_class.specs.Posts.{IsOut, own_of}
use Rattle.wait_event.specs.Prepares.{CarriesPrepare, finish_change, leave_change, with_signal}
use Rattle.wq_head.specs.declared.adds.Worn.{Worn}
use Rattle.poll_wait.specs.{declared.turns.Poll.Poll, declared.turns.PollEnd.PollEnd, declared.turns.Ready.Ready}
use Rattle.poll_wait.specs.{Seconds.join_change, Seconds.second_of}
use Rattle.poll_wait.specs.Polls.{is_either, pair_change, with_both}
use Rattle.poll_wait.specs.TurnSteps.{EndsSo, HasDone, PairCarries, TurnCarries}
use Rattle.poll_wait.proofs.Carrying.{carries_more, carries_on, owes_swap}

neither : (a b : Bool) → (a || b) ≡ false → (a ≡ false) × (b ≡ false)
neither true b is = absurd (cc)
neither false b is = (refl, is)

first_away : (me x : ℕ) → is_either me x ≡ false → only (index me 0) x ≡ false
first_away me x is = (neither (only (index me 0) x) (only (index me 1) x) is).0

second_away : (me x : ℕ) → is_either me x ≡ false → only (index me 1) x ≡ false
second_away me x is = (neither (only (index me 0) x) (only (index me 1) x) is).1

-- one after the other
module _ (from by to : Excuse → Excuse) (s t : ℕ → ℕ) (me : ℕ) (a b c : Known) where
  pub both_on : Carries (pair_change me from by s b.at) a b → Carries (pair_change me by to t c.at) b c
      → Carries (pair_change me from to (λ σ. t (s σ)) c.at) a c
  both_on = carries_on from by to (is_either me) s t (λ _. b.at) (λ _. c.at) a b c

pub pairs_on : (s t : ℕ → ℕ) (a b c : Known) → PairCarries s a b → PairCarries t b c → PairCarries (λ σ. t (s σ)) a c
pairs_on s t a b c one two =
    let me = a.view.number in
    both_on (with_both me) (with_both me) (with_both me) s t me a b c one
    (subst (λ (n : ℕ). Carries (pair_change n (with_both n) (with_both n) t c.at) b c) one.number two)

-- the same state, said otherwise
pub state_as : (f g : Excuse → Excuse) (me : ℕ) (s t : ℕ → ℕ) (a b : Known) → t a.book.state ≡ s a.book.state
    → Carries (pair_change me f g s b.at) a b → Carries (pair_change me f g t b.at) a b
state_as f g me s t a b is c = record {
  domain = c.domain;
  number = c.number;
  awake = c.awake;
  state = c.state ∙ sym is;
  head = c.head;
  ticket = c.ticket;
  hold = c.hold;
  at = c.at;
  mark = c.mark;
  fewer = c.fewer;
  stored = c.stored;
  out = c.out;
  stands = c.stands;
  keeps = c.keeps;
  owes = c.owes;
}

-- steps that are about no entry
pub still_pair : (s : ℕ → ℕ) (a b : Known) → Carries (record unchanged { state = s }) a b → PairCarries s a b
still_pair s a b c = carries_more (λ x. x) (λ x. x) no_entries false s (λ h. h) (with_both a.view.number)
    (with_both a.view.number) (is_either a.view.number) a b c (λ x other. refl) (λ x. c.owes (with_both a.view.number x))

-- a prepare of the first entry, and an add of the second
pub prepare_pair : (old new : Known) (st : SleepState) (r : Result (Unit {0}) Worn)
    → CarriesPrepare old new st (with_signal r) → TurnCarries old new
prepare_pair old new st (Ok u) c =
    let me = old.view.number in record {
      state = state_mask st;
      carries = carries_more (with_entry (index me 0)) (with_entry (index me 0)) (only (index me 0)) true
          (λ _. state_mask st) (λ _. new.at) (with_both me) (with_both me) (is_either me) old new c (first_away me)
          (λ x. c.owes (with_entry (index me 1) x));
    }
prepare_pair old new st (Err v) c =
    let me = old.view.number in record {
      state = old.book.state;
      carries = state_as (with_both me) (with_both me) me (λ σ. σ) (λ _. old.book.state) old new refl
          (carries_more (with_entry (index me 0)) (λ x. x) (only (index me 0)) true (λ σ. σ) (λ _. new.at) (with_both me)
          (with_both me) (is_either me) old new c (first_away me)
          (λ x o. owes_also (index me 0) (with_entry (index me 1) x) new (c.owes (with_entry (index me 1) x) o)));
    }

pub join_pair : (old new : Known) → Carries (join_change (second_of old) new.at) old new → PairCarries (λ σ. σ) old new
join_pair old new c =
    let me = old.view.number in
    let i = index me 0 in
    let j = index me 1 in
    carries_more (with_entry j) (with_entry j) (only j) true (λ σ. σ) (λ _. new.at) (with_both me) (with_both me)
    (is_either me) old new c (second_away me)
    (λ x o. owes_swap j i x new (c.owes (with_entry i x) (owes_swap i j x old o)))

pub queue_pair : (old mid new : Known) → TurnCarries old mid → PairCarries (λ σ. σ) mid new → TurnCarries old new
queue_pair old mid new one two = record {
  state = one.state;
  carries = pairs_on (λ _. one.state) (λ σ. σ) old mid new one.carries two;
}

-- a finish of the first, and the second one taken off
pub leave_pair : (old mid new : Known) → Carries (finish_change (own_of old) mid.at) old mid
    → Carries (leave_change (second_of mid) new.at) mid new
    → Carries (pair_change old.view.number (with_both old.view.number) (λ x. x) (λ _. 0) new.at) old new
leave_pair old mid new one two =
    let me = old.view.number in
    let i = index me 0 in
    let j = index me 1 in
    let last : Carries (leave_change j new.at) mid new =
    subst (λ (n : ℕ). Carries (leave_change (index n 1) new.at) mid new) one.number two in
    both_on (with_both me) (with_entry j) (λ x. x) (λ _. 0) (λ σ. σ) me old mid new
    (carries_more (with_entry i) (λ x. x) (only i) true (λ _. 0) (λ _. mid.at) (with_both me) (with_entry j) (is_either me)
    old mid one (first_away me) (λ x. one.owes (with_entry j x)))
    (carries_more (with_entry j) (λ x. x) (only j) true (λ σ. σ) (λ _. new.at) (with_entry j) (λ x. x) (is_either me) mid new
    last (second_away me) (λ x. last.owes x))

-- the first one stays off over that of the second
pub out_stays : (old mid new : Known) → mid.view.number ≡ old.view.number → IsOut mid
    → Carries (leave_change (second_of mid) new.at) mid new → IsOut new
out_stays old mid new number out c = ap (λ (n : ℕ). (told_of new).bits.stored (index n 0)) c.number
    ∙ c.out (own_of mid) (by mid.view.number) out
  where
    by : (n : ℕ) → (index n 0 == index n 1) ≡ false
    by n = grind (arith, nat_tests)

-- what a turn leaves the task with
pub done_then : (s : ℕ → ℕ) (a b c : Known) → PairCarries s a b → HasDone b c → HasDone a c
done_then s a b c one two =
    let me = a.view.number in record {
      up = two.up;
      out = two.out;
      out_second = two.out_second;
      carries = both_on (with_both me) (with_both me) (λ x. x) s (λ _. 0) me a b c one
          (subst (λ (n : ℕ). Carries (pair_change n (with_both n) (λ x. x) (λ _. 0) c.at) b c) one.number two.carries);
    }

pub ends_then : (p : Poll) (s : ℕ → ℕ) (a b c : Known) (r : Option (Result Ready PollEnd)) → PairCarries s a b
    → EndsSo p b c r → EndsSo p a c r
ends_then p s a b c None one two = record {
  may = two.may;
  carries = pairs_on s (λ _. 0) a b c one two.carries;
}
ends_then p s a b c (Some r) one two = done_then s a b c one two
