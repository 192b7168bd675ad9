-- What stays of a task over the steps of a call.
use Rattle.std.proofs.Common.{◌∙◌, ap, sym, refl, subst}
use Rattle.std.specs.Prelude.{ℕ, ◌≡◌, ◌==◌, ◌||◌, Bool, true, false, Option, Some}
use Rattle.wait_model.specs.{declared.watches.Watch.Watch, declared.watches.Entry.Entry, Views.View as Told}
use Rattle.wait_model.specs.Fold.{view_of}
use Rattle.wait_rule.specs.{declared.journal.Journal.Journal, Items.steps_of, Known.Known, Queues.index}
use Rattle.wait_rule.specs.Says.{Debts, Excuse, IsOutBut, OwesBut, told_of}
use Rattle.wait_rule.specs.Stays.{StaysOwing, Change, Carries, only_looks, with_entry, queue_change, take_off_change}
use Rattle.wait_rule.proofs.{KnownLaws.StayingParts.owes_also, KnownLaws.Debts.entries_debts}
use Rattle.wait_rule.proofs.{KnownLaws.Debts.list_debts, KnownLaws.SettledTasks.owes_told}
use Rattle.wait_class.specs.Posts.{HasSeenOwn, Keeps, KeepsBut}

pub keeps_none : {f : Excuse → Excuse} (i : ℕ) (k : Known) → KeepsBut f i k k
keeps_none i k = record {
  domain = refl;
  number = refl;
  mark = refl;
  fewer = λ w σ is. is;
  out = λ x away none. none;
  stands = λ slot few away e is own. is;
  keeps = λ d. refl;
  owes = λ x o. o;
}

pub keeps_on : {f : Excuse → Excuse} (i : ℕ) (old mid new : Known) → KeepsBut f i old mid → KeepsBut f i mid new
    → KeepsBut f i old new
keeps_on i old mid new a b = record {
  domain = b.domain ∙ a.domain;
  number = b.number ∙ a.number;
  mark = b.mark ∙ a.mark;
  fewer = λ w σ is. b.fewer w σ (a.fewer w σ is);
  out = λ x away none. b.out x away (a.out x away none);
  stands = λ slot few away e is own.
      subst (λ (m : ℕ). (told_of new).bits.stored (index m slot) ≡ Some e) a.number
      (b.stands slot few (ap (λ (m : ℕ). index m slot == i) a.number ∙ away) e
      (subst (λ (m : ℕ). (told_of mid).bits.stored (index m slot) ≡ Some e) (sym a.number)
      (a.stands slot few away e is own)) own);
  keeps = λ d. b.keeps d ∙ a.keeps d;
  owes = λ x o. b.owes x (a.owes x o);
}

-- of a history that tells the same of wakes and entries
pub keeps_told : {f : Excuse → Excuse} (i : ℕ) (old new : Known) → new.domain ≡ old.domain → new.view.number ≡ old.view.number
    → (told_of new).mark ≡ (told_of old).mark → (told_of new).duty.owes ≡ (told_of old).duty.owes
    → (told_of new).bits.stored ≡ (told_of old).bits.stored
    → ((d : Watch) → (told_of new).bits.keeps d ≡ (told_of old).bits.keeps d) → StaysOwing old new
    → KeepsBut f i old new
keeps_told {f} i old new domain number mark duty stored keeps owing = record {
  domain = domain;
  number = number;
  mark = mark;
  fewer = λ w σ is. (λ j. duty j w σ) ∙ is;
  out = λ x away none. (λ j. stored j x) ∙ none;
  stands = λ slot few away e is own. (λ j. stored j (index old.view.number slot)) ∙ is;
  keeps = keeps;
  owes = λ x. owing (with_entry i (f x));
}

-- of items that tell nothing
pub same_owing : (old new : Known) → told_of new ≡ told_of old → ((x : Excuse) → Debts x old → Debts x new)
    → StaysOwing old new
same_owing old new told debts = owes_told old new (ap (λ (v : Told). v.mark) told)
    (λ i. ap (λ (v : Told). v.bits.stored i) told) (λ c. ap (λ (v : Told). v.bits.keeps c) told)
    (λ c none. ap (λ (v : Told). v.bits.pending c) told ∙ none) debts

-- the head that it took last is no part of what it owes
pub placed_owing : (old new : Known) → new.view ≡ old.view → StaysOwing old new
placed_owing old new same = same_owing old new (ap (λ (v : Journal). view_of (steps_of v.items)) same)
    (λ x. list_debts x old new same)

pub keeps_same : {f : Excuse → Excuse} (i : ℕ) (old new : Known) → new.domain ≡ old.domain → new.view.number ≡ old.view.number
    → told_of new ≡ told_of old → ((x : Excuse) → Debts x old → Debts x new)
    → KeepsBut f i old new
keeps_same i old new domain number told debts = keeps_told i old new domain number (ap (λ (v : Told). v.mark) told)
    (ap (λ (v : Told). v.duty.owes) told) (ap (λ (v : Told). v.bits.stored) told)
    (λ d. ap (λ (v : Told). v.bits.keeps d) told) (same_owing old new told debts)

-- of a call that changes no more than the own entry
pub keeps_of : {f : Excuse → Excuse} (i : ℕ) (c : Change) (old new : Known) → Carries c old new → ((w : Watch) → c.publishes w ≡ false)
    → ((x : ℕ) → (x == i) ≡ false → c.but x ≡ false)
    → ((x : Excuse) → OwesBut (with_entry i (f x)) old → OwesBut (with_entry i (f x)) new) → KeepsBut f i old new
keeps_of i c old new carries none but owes = record {
  domain = carries.domain;
  number = carries.number;
  mark = carries.mark;
  fewer = λ w σ is. carries.fewer w σ (none w) is;
  out = λ x away is. carries.out x (but x away) is;
  stands = λ slot few away e is own. carries.stands slot few (but (index old.view.number slot) away) e is own;
  keeps = λ d. carries.keeps d (none d);
  owes = owes;
}

-- an entry of which it is excused twice
twice : (a b : Bool) (s : Option Entry) → IsOutBut (a || (a || b)) s → IsOutBut (a || b) s
twice true b s o = o
twice false b s o = o

pub once : (i : ℕ) (x : Excuse) (k : Known) → OwesBut (with_entry i (with_entry i x)) k → OwesBut (with_entry i x) k
unfolding with_entry
once i x k o = record {
  unmarked = o.unmarked;
  debts = entries_debts (with_entry i (with_entry i x)) (with_entry i x) k refl refl refl refl o.debts;
  unqueued = λ y. twice (y == i) (x.entries y) ((told_of k).bits.stored y) (o.unqueued y);
  holds = o.holds;
  tries = o.tries;
  tries_none = o.tries_none;
}

pub keeps_queued : (i : ℕ) (old new : Known) → Carries (queue_change i) old new → Keeps i old new
keeps_queued i old new c = keeps_of i (queue_change i) old new c (λ w. refl) (λ x away. away)
    (λ x o. once i x new (c.owes (with_entry i x) o))

pub keeps_taken : {f : Excuse → Excuse} (i : ℕ) (old new : Known) → Carries (take_off_change i) old new
    → KeepsBut f i old new
keeps_taken {f} i old new c = keeps_of i (take_off_change i) old new c (λ w. refl) (λ x away. away)
    (λ x o. owes_also i (f x) new (c.owes (f x) o))

-- of a look at the own entry
pub own_keeps : {f : Excuse → Excuse} (old new : Known) (o : Option Entry) → HasSeenOwn old new o
    → KeepsBut f (index old.view.number 0) old new
own_keeps {f} old new o h = keeps_of (index old.view.number 0) only_looks old new h.carries (λ w. refl) (λ x away. refl)
    (λ x. h.carries.owes (with_entry (index old.view.number 0) (f x)))
