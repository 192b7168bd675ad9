-- What calls carry on, one after the other.
use Rattle.std.proofs.Common.{refl}
use Rattle.std.specs.Prelude.{ℕ, ◌≡◌, ◌==◌, ◌||◌, Bool, true, false, Option}
use Rattle.wait_model.specs.declared.watches.Entry.{Entry}
use Rattle.wait_rule.specs.{Known.Known}
use Rattle.wait_rule.specs.Says.{Excuse, IsOutBut, OwesBut, told_of}
use Rattle.wait_rule.specs.Stays.{Carries, Change, unchanged, with_entry}
use Rattle.wait_rule.proofs.KnownLaws.Debts.{entries_debts}
use Rattle.wait_event.proofs.Changes.{carried_on, carried_wider}

-- a change of what it owes, of some entries, of the state and of the head that was locked last, with looks at others
abbrev pub changes : (from to : Excuse → Excuse) (but : ℕ → Bool) (state at : ℕ → ℕ) → Change
changes from to but state at = record unchanged {
  from = from;
  to = to;
  but = but;
  looks = true;
  state = state;
  at = at;
}

-- said of more entries, and for another excuse
pub carries_more : (f g : Excuse → Excuse) (less : ℕ → Bool) (looks : Bool) (s at : ℕ → ℕ) (from to : Excuse → Excuse)
    (but : ℕ → Bool) (a b : Known)
    → Carries (record unchanged { from = f; to = g; but = less; looks = looks; state = s; at = at }) a b
    → ((x : ℕ) → but x ≡ false → less x ≡ false) → ((x : Excuse) → OwesBut (from x) a → OwesBut (to x) b)
    → Carries (changes from to but s (λ _. b.at)) a b
carries_more f g less looks s at from to but a b c away owes = carried_wider (changes from to but s (λ _. b.at)) c away
    (λ w p. refl) owes

pub carries_on : (f g e : Excuse → Excuse) (but : ℕ → Bool) (s t p q : ℕ → ℕ) (a b c : Known)
    → Carries (changes f g but s p) a b → Carries (changes g e but t q) b c
    → Carries (changes f e but (λ σ. t (s σ)) (λ h. q (p h))) a c
carries_on f g e but s t p q a b c one two = carried_on (changes g e but t q) one two

-- two entries of which it is excused, in either order
out_swap : (a b c : Bool) (s : Option Entry) → IsOutBut (a || (b || c)) s → IsOutBut (b || (a || c)) s
out_swap true true c s o = tt
out_swap true false c s o = tt
out_swap false true c s o = tt
out_swap false false c s o = o

pub owes_swap : (i j : ℕ) (x : Excuse) (k : Known) → OwesBut (with_entry i (with_entry j x)) k
    → OwesBut (with_entry j (with_entry i x)) k
unfolding with_entry
owes_swap i j x k o = record {
  unmarked = o.unmarked;
  debts = entries_debts (with_entry i (with_entry j x)) (with_entry j (with_entry i x)) k refl refl refl refl o.debts;
  unqueued = λ y. out_swap (y == i) (y == j) (x.entries y) ((told_of k).bits.stored y) (o.unqueued y);
  holds = o.holds;
  tries = o.tries;
  tries_none = o.tries_none;
}
