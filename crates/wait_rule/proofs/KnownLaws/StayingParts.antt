-- What stays of a task after looks and steps.
use Rattle.std.proofs.Common.{◌∙◌, ap, sym, refl, subst, inl, inr, eqb-true}
use Rattle.std.specs.Prelude.{ℕ, ◌≡◌, ◌⊎◌, ◌&&◌, ◌||◌, ◌==◌, not, Bool, true, false, if◌then◌else◌, Option, Some, None}
use Rattle.wait_model.specs.{declared.watches.Watch.Watch, declared.watches.Entry.Entry, Functions.put, Words.entry_of}
use Rattle.wait_model.specs.{Fold.is_off, Fold.after_look}
use Rattle.wait_model.specs.Views.{View as Told, Bits, is_trying_for}
use Rattle.wait_model.proofs.Functions.{put_at, put_same}
use Rattle.wait_rule.specs.{Known.Known, LeftEntries.HasLeftNone, LeftEntries.ShowsNoOwn, Queues.KnewEntry}
use Rattle.wait_rule.specs.Queues.{index}
use Rattle.wait_rule.specs.Says.{Debts, Excuse, IsOutBut, OwesBut, TriesNone, told_of}
use Rattle.wait_rule.specs.Stays.{Stays, StaysOwing, no_entries, with_entry, with_left_entry}
use Rattle.wait_rule.proofs.KnownLaws.Debts.{entries_debts, left_debts, off_debts}

pub stays_on : (but : ℕ → Bool) (x y z : Known) → Stays but x y → Stays but y z → Stays but x z
stays_on but x y z one two = record {
  domain = two.domain ∙ one.domain;
  number = two.number ∙ one.number;
  state = two.state ∙ one.state;
  awake = two.awake ∙ one.awake;
  still = λ i out. elim (two.still i out) [
    | inl same ↦ elim (one.still i out) [ inl was ↦ inl (same ∙ was) | inr none ↦ inr (same ∙ none) ]
    | inr none ↦ inr none
  ];
  stands = λ slot few out e is own.
      let n = one.number in
      subst (λ (m : ℕ). (told_of z).bits.stored (index m slot) ≡ Some e) n
      (two.stands slot few (ap (λ (m : ℕ). but (index m slot)) n ∙ out) e
      (subst (λ (m : ℕ). (told_of y).bits.stored (index m slot) ≡ Some e) (sym n)
      (one.stands slot few out e is own)) own);
  keeps = λ c. two.keeps c ∙ one.keeps c;
  tries_none = λ none. two.tries_none (one.tries_none none);
  tries = λ none c out. two.tries (one.tries_none none) c (one.tries none c out);
  debts = λ f d. two.debts f (one.debts f d);
}

-- but for no entry word is as but for some
pub stays_but : (but : ℕ → Bool) (x y : Known) → Stays no_entries x y → Stays but x y
stays_but but x y s = record {
  domain = s.domain;
  number = s.number;
  state = s.state;
  awake = s.awake;
  still = λ i out. s.still i refl;
  stands = λ slot few out e is own. s.stands slot few refl e is own;
  keeps = s.keeps;
  tries_none = s.tries_none;
  tries = s.tries;
  debts = s.debts;
}

-- where the bits and the debts stay, all of this stays
pub stays_bits : (x y : Known) → y.domain ≡ x.domain → y.view.number ≡ x.view.number → y.book.state ≡ x.book.state
    → y.book.awake ≡ x.book.awake → (told_of y).bits ≡ (told_of x).bits → ((f : Excuse) → Debts f x → Debts f y)
    → Stays no_entries x y
stays_bits x y domain number state awake bits debts = record {
  domain = domain;
  number = number;
  state = state;
  awake = awake;
  still = λ i out. inl (ap (λ (b : Bits). b.stored i) bits);
  stands = λ slot few out e is own. ap (λ (b : Bits). b.stored (index x.view.number slot)) bits ∙ is;
  keeps = λ c. ap (λ (b : Bits). b.keeps c) bits;
  tries_none = λ none i c. ap (λ (b : Bits). is_trying_for (b.stored i) c) bits ∙ none i c;
  tries = λ none c out. ap (λ (b : Bits). b.pending c) bits ∙ out;
  debts = debts;
}

pub stays_same : (k : Known) → Stays no_entries k k
stays_same k = stays_bits k k refl refl refl refl refl (λ f d. d)

-- a look at an entry word, in a hold or outside of one
module _ (v : Told) (x : ℕ) (f : Option Entry) where
  look_still_by : (y : ℕ) (b : Bool) → ((if b then put v.bits.stored x None else v.bits.stored) y ≡ v.bits.stored y)
      ⊎ ((if b then put v.bits.stored x None else v.bits.stored) y ≡ None)
  look_still_by y true = put_at (λ (s : Option Entry). (s ≡ v.bits.stored y) ⊎ (s ≡ None)) v.bits.stored x None y
      (λ _. inr refl) (λ _. inl refl)
  look_still_by y false = inl refl

  look_stands_by : (y : ℕ) (e : Entry) → v.bits.stored y ≡ Some e → (y ≡ x → f ≡ Some e) → (b : Bool) → is_off f ≡ b
      → (if b then put v.bits.stored x None else v.bits.stored) y ≡ Some e
  look_stands_by y e is found true off = put_at (λ (s : Option Entry). s ≡ Some e) v.bits.stored x None y
      (λ same. let off_too : false ≡ true = sym (ap is_off (found same)) ∙ off in absurd (cc)) (λ _. is)
  look_stands_by y e is found false off = is

  no_and : (b m : Bool) → (b && (false && m)) ≡ false
  no_and true m = refl
  no_and false m = refl

  or_none : (b : Bool) → (b || false) ≡ b
  or_none true = refl
  or_none false = refl

  none_tries : TriesNone v → (y : ℕ) (c : Watch) → is_trying_for ((after_look x f v).stored y) c ≡ false
  none_tries none y c = elim (look_still_by y (is_off f)) [
    | inl same ↦ ap (λ (s : Option Entry). is_trying_for s c) same ∙ none y c
    | inr out ↦ ap (λ (s : Option Entry). is_trying_for s c) out
  ]

  same_tries : TriesNone v → (c : Watch) → (after_look x f v).pending c ≡ v.bits.pending c
  same_tries none c = ap (λ (t : Bool). v.bits.pending c || (is_off f && (t && not (v.bits.keeps c)))) (none x c)
      ∙ (ap (λ (t : Bool). v.bits.pending c || t) (no_and (is_off f) (not (v.bits.keeps c)))
      ∙ or_none (v.bits.pending c))

pub look_stays : (old new : Known) (x w : ℕ) → KnewEntry old x w → new.domain ≡ old.domain
    → new.view.number ≡ old.view.number → new.book ≡ old.book
    → (told_of new).bits ≡ after_look x (entry_of w) (told_of old) → ((f : Excuse) → Debts f old → Debts f new)
    → Stays no_entries old new
look_stays old new x w knew domain number book bits debts = record {
  domain = domain;
  number = number;
  state = ap (λ (b : _). b.state) book;
  awake = ap (λ (b : _). b.awake) book;
  still = λ y out. subst (λ (b : Bits). (b.stored y ≡ (told_of old).bits.stored y) ⊎ (b.stored y ≡ None)) (sym bits)
      (look_still_by (told_of old) x (entry_of w) y (is_off (entry_of w)));
  stands = λ slot few out e is own. ap (λ (b : Bits). b.stored (index old.view.number slot)) bits
      ∙ look_stands_by (told_of old) x (entry_of w) (index old.view.number slot) e is
      (λ same. knew.stands slot few (sym same) e (ap (told_of old).bits.stored (sym same) ∙ is) own)
      (is_off (entry_of w)) refl;
  keeps = λ c. ap (λ (b : Bits). b.keeps c) bits;
  tries_none = λ none y c. ap (λ (b : Bits). is_trying_for (b.stored y) c) bits
      ∙ none_tries (told_of old) x (entry_of w) none y c;
  tries = λ none c out. ap (λ (b : Bits). b.pending c) bits
      ∙ (same_tries (told_of old) x (entry_of w) none c ∙ out);
  debts = debts;
}

-- an entry that was found off is stored no more
pub look_out : (old new : Known) (x w : ℕ) → (told_of new).bits ≡ after_look x (entry_of w) (told_of old)
    → entry_of w ≡ None → (told_of new).bits.stored x ≡ None
look_out old new x w bits none = ap (λ (b : Bits). b.stored x) bits
    ∙ (ap (λ (f : Option Entry). (if is_off f then put (told_of old).bits.stored x None else
    (told_of old).bits.stored) x) none
    ∙ put_same (told_of old).bits.stored x None)

pub out_by : (b : Bool) (was now : Option Entry) → (now ≡ was) ⊎ (now ≡ None) → IsOutBut b was → IsOutBut b now
out_by true was now s is = tt
out_by false was now (inl same) is = same ∙ is
out_by false was now (inr none) is = none

-- what a task owes, where all of this and the bookmark stay
pub stays_owing : (old new : Known) → Stays no_entries old new → (told_of new).mark ≡ (told_of old).mark
    → StaysOwing old new
stays_owing old new s mark x o = record {
  unmarked = mark ∙ o.unmarked;
  debts = s.debts x o.debts;
  unqueued = λ i. out_by (x.entries i) ((told_of old).bits.stored i) ((told_of new).bits.stored i) (s.still i refl)
      (o.unqueued i);
  holds = λ c. ap (λ (b : Bool). not (x.bits c) && b) (s.keeps c) ∙ o.holds c;
  tries = λ c. s.tries o.tries_none c (o.tries c);
  tries_none = s.tries_none o.tries_none;
}

-- an entry that the task is excused of too, and then no more
out_also : (i y : ℕ) (b : Bool) (s : Option Entry) → IsOutBut b s → (t : Bool) → IsOutBut (t || b) s
out_also i y b s is true = tt
out_also i y b s is false = is

pub owes_also : (i : ℕ) (x : Excuse) (k : Known) → OwesBut x k → OwesBut (with_entry i x) k
unfolding with_entry
owes_also i x k o = record {
  unmarked = o.unmarked;
  debts = entries_debts x (with_entry i x) k refl refl refl refl o.debts;
  unqueued = λ y. out_also i y (x.entries y) ((told_of k).bits.stored y) (o.unqueued y) (y == i);
  holds = o.holds;
  tries = o.tries;
  tries_none = o.tries_none;
}

out_more : (x : Excuse) (k : Known) (y : ℕ) (b : Bool) → (told_of k).bits.stored y ≡ None
    → IsOutBut b ((told_of k).bits.stored y)
out_more x k y true is = tt
out_more x k y false is = is

pub owes_out : (i : ℕ) (x : Excuse) (k : Known) → (told_of k).bits.stored i ≡ None → OwesBut (with_entry i x) k → OwesBut x k
unfolding with_entry
owes_out i x k none o = record {
  unmarked = o.unmarked;
  debts = entries_debts (with_entry i x) x k refl refl refl refl o.debts;
  unqueued = λ y. by y (y == i) refl (o.unqueued y);
  holds = o.holds;
  tries = o.tries;
  tries_none = o.tries_none;
}
  where
    by : (y : ℕ) (t : Bool) → (y == i) ≡ t → IsOutBut (t || x.entries y) ((told_of k).bits.stored y)
        → IsOutBut (x.entries y) ((told_of k).bits.stored y)
    by y true same is = out_more x k y (x.entries y) (ap (told_of k).bits.stored (eqb-true y i same) ∙ none)
    by y false same is = is

-- that it may have left its entry at a completion, and then that it has not
pub owes_left : (x : Excuse) (k : Known) → OwesBut x k → OwesBut (with_left_entry x) k
unfolding with_left_entry
owes_left x k o = record {
  unmarked = o.unmarked;
  debts = left_debts x k o.debts;
  unqueued = o.unqueued;
  holds = o.holds;
  tries = o.tries;
  tries_none = o.tries_none;
}

pub owes_off : (x : Excuse) (k : Known) → (x.left ≡ false → HasLeftNone k) → (x.left ≡ false → ShowsNoOwn k)
    → OwesBut (with_left_entry x) k → OwesBut x k
unfolding with_left_entry
owes_off x k off shows o = record {
  unmarked = o.unmarked;
  debts = off_debts x k off shows o.debts;
  unqueued = o.unqueued;
  holds = o.holds;
  tries = o.tries;
  tries_none = o.tries_none;
}
