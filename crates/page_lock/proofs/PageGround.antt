-- What stays of a task over the steps of a call that locks a page.
use Rattle.std.proofs.Common.{◌∙◌, ap, sym, refl, subst}
use Rattle.std.specs.Prelude.{ℕ, ◌≡◌, ◌==◌, ◌&&◌, ◌||◌, not, Bool, true, false, Option, Some, None}
use Rattle.wait_model.specs.{declared.watches.Watch.Watch, declared.watches.Entry.Entry, Views.View as Told}
use Rattle.wait_model.specs.{Views.is_trying_for, Fold.after, Watches.page, Watches.same}
use Rattle.wait_model.specs.declared.steps.Step.TheVariants as step
use Rattle.wait_rule.specs.declared.journal.Item.TheVariants as item
use Rattle.wait_rule.specs.{Bits.SetsBit, Bits.taken_bits, Known.Known, Queues.index}
use Rattle.wait_rule.specs.Asked.{Asked, nothing_asked, is_asking}
use Rattle.wait_rule.specs.Says.{AsksNoPage, Debts, Obligation, Excuse, IsOutBut, OwesBut, added, asks_for}
use Rattle.wait_rule.specs.Says.{end_unclosed, excuses, has_duty, has_end, is_excused, no_excuse, page_asked, told_of}
use Rattle.wait_rule.specs.Says.{wake_of}
use Rattle.wait_rule.specs.Stays.{Carries, with_bits, with_entry, with_page}
use Rattle.wait_rule.proofs.KnownLaws.AfterSteps.{told_added}
use Rattle.wait_rule.proofs.KnownLaws.Debts.{LeavesNone, end_added, entries_debts, leaves_added, leaves_of}
use Rattle.wait_rule.proofs.KnownLaws.StayingParts.{owes_also, owes_out}
use Rattle.wq_head.specs.Adds.{page_change}
use Rattle.wait_class.specs.{Posts.Keeps, Laws.KeepsLaws}
use Rattle.wait_class.proofs.{Ground.Keeping.keeps_none, Stays.wait_stays}
use Rattle.page_lock.specs.PageStays.{PageKeeps, amid}

-- a part that takes no bit
pub page_keeps_of : (i : ℕ) (c : Watch) (g : Bool) (old new : Known) → Keeps i old new → PageKeeps i c g g old new
page_keeps_of i c g old new k = record {
  domain = k.domain;
  number = k.number;
  mark = k.mark;
  fewer = k.fewer;
  out = k.out;
  stands = k.stands;
  grows = λ is. is;
  keeps = λ d away. k.keeps d;
  owes = λ x. k.owes (with_page (with_bits (taken_bits c g) x));
}

-- nothing yet
page_keeps_none : (i : ℕ) (c : Watch) (g : Bool) (k : Known) → PageKeeps i c g g k k
page_keeps_none i c g k = page_keeps_of i c g k k (keeps_none i k)

none_before : (has had s : Bool) → (has ≡ false → had ≡ false) → (has && s) ≡ false → (had && s) ≡ false
none_before false had s grows is = ap (λ (b : Bool). b && s) (grows refl)
none_before true true s grows is = is
none_before true false s grows is = refl

-- one part after another
pub page_keeps_on : (i : ℕ) (c : Watch) (had by has : Bool) (old mid new : Known) → PageKeeps i c had by old mid
    → PageKeeps i c by has mid new → PageKeeps i c had has old new
page_keeps_on i c had by has old mid new a b = record {
  domain = b.domain ∙ a.domain;
  number = b.number ∙ a.number;
  mark = b.mark ∙ a.mark;
  fewer = λ w σ is. b.fewer w σ (a.fewer w σ is);
  out = λ x away none. b.out x away (a.out x away none);
  stands = λ slot few away e is own.
      subst (λ (m : ℕ). (told_of new).bits.stored (index m slot) ≡ Some e) a.number
      (b.stands slot few (ap (λ (m : ℕ). index m slot == i) a.number ∙ away) e
      (subst (λ (m : ℕ). (told_of mid).bits.stored (index m slot) ≡ Some e) (sym a.number)
      (a.stands slot few away e is own)) own);
  grows = λ is. a.grows (b.grows is);
  keeps = λ d away. b.keeps d away ∙ a.keeps d (none_before has by (same d c) b.grows away);
  owes = λ x o. b.owes x (a.owes x o);
}

-- what stays over each kind of event
pub page_stays : KeepsLaws PageKeeps
page_stays = record {
  domain = λ i c g h old new k. k.domain;
  number = λ i c g h old new k. k.number;
  none = page_keeps_none;
  on = page_keeps_on;
  told = λ i c g old new domain number told debts. page_keeps_of i c g old new
      (wait_stays.told i c g old new domain number told debts);
  lock = λ i c g old h x. page_keeps_of i c g old _ (wait_stays.lock i c g old h x);
  unlock = λ i c g old new is. page_keeps_of i c g old new (wait_stays.unlock i c g old new is);
  state = λ i c g old new σ is carries. page_keeps_of i c g old new (wait_stays.state i c g old new σ is carries);
  look = λ i c g old new w is carries. page_keeps_of i c g old new (wait_stays.look i c g old new w is carries);
  load = λ i c d g old new v is carries. page_keeps_of i c g old new (wait_stays.load i c d g old new v is carries);
  own = λ c g old new o h. page_keeps_of (index old.view.number 0) c g old new (wait_stays.own c g old new o h);
  removed = λ i c g old new is carries. page_keeps_of i c g old new (wait_stays.removed i c g old new is carries);
  looks = λ i c g old new out l. page_keeps_of i c g old new (wait_stays.looks i c g old new out l);
}

-- an entry of which it is excused twice
twice : (a b : Bool) (s : Option Entry) → IsOutBut (a || (a || b)) s → IsOutBut (a || b) s
twice true b s o = o
twice false b s o = o

owes_once : (i : ℕ) (c : Watch) (g : Bool) (x : Excuse) (k : Known)
    → OwesBut (with_page (with_entry i (amid i c g x))) k → OwesBut (amid i c g x) k
unfolding with_page with_entry with_bits
owes_once i c g x k o = record {
  unmarked = o.unmarked;
  debts = entries_debts (with_page (with_entry i (amid i c g x))) (amid i c g x) k refl refl refl refl o.debts;
  unqueued = λ y. twice (y == i) (x.entries y) ((told_of k).bits.stored y) (o.unqueued y);
  holds = o.holds;
  tries = o.tries;
  tries_none = o.tries_none;
}

-- the entry is queued
pub page_keeps_queued : (i : ℕ) (c : Watch) (g : Bool) (old new : Known) → Carries (page_change i) old new
    → PageKeeps i c g g old new
page_keeps_queued i c g old new k = record {
  domain = k.domain;
  number = k.number;
  mark = k.mark;
  fewer = λ w σ is. k.fewer w σ refl is;
  out = λ y away none. k.out y away none;
  stands = λ slot few away e is own. k.stands slot few away e is own;
  grows = λ is. is;
  keeps = λ d away. k.keeps d refl;
  owes = λ x o. owes_once i c g x new (k.owes (amid i c g x) o);
}

-- the page is tried
set_owes : (i : ℕ) (c : Watch) (got : Bool) (old new : Known) → SetsBit old new c got → (x : Excuse)
    → OwesBut (amid i c false x) old → OwesBut (amid i c got x) new
unfolding with_page with_entry with_bits
set_owes i c got old new s x o = s.owes (amid i c false x) o

pub page_keeps_set : (i : ℕ) (c : Watch) (got : Bool) (old new : Known) → SetsBit old new c got
    → PageKeeps i c false got old new
page_keeps_set i c got old new s = record {
  domain = s.stays.domain;
  number = s.stays.number;
  mark = s.stays.mark;
  fewer = λ w σ is. ap (λ d. d.owes w σ) s.duty ∙ is;
  out = λ y away none. s.stays.out y none;
  stands = λ slot few away e is own. s.stays.stands slot few e is own;
  grows = λ is. refl;
  keeps = s.stays.keeps;
  owes = set_owes i c got old new s;
}

-- the task takes note of the page
noted_holds : (s b k : Bool) → (not b && k) ≡ false → (not (s || b) && (k || s)) ≡ false
noted_holds true b k is = refl
noted_holds false true k is = refl
noted_holds false false true is = absurd (cc)
noted_holds false false false is = refl

or_away : (k s : Bool) → s ≡ false → (k || s) ≡ k
or_away true s is = refl
or_away false s is = is

module _ (i x p : ℕ) (old new : Known) (is : new ≡ added old (item.Made (step.Unflag x (Some p)))) where
  note_told : told_of new ≡ after (step.Unflag x (Some p)) (told_of old)
  note_told = ap told_of is ∙ told_added old (item.Made (step.Unflag x (Some p)))

  note_debts : (f : Excuse) → Debts (amid i (page p) false f) old → Debts (amid i (page p) true f) new
  unfolding with_page with_entry with_bits
  note_debts f d = record { none = by; off = λ none. (leaves none).off; shows = λ none. (leaves none).shows }
    where
      leaves : f.left ≡ false → LeavesNone new
      leaves none = leaves_added old new (item.Made (step.Unflag x (Some p))) (tt, tt) is
          (leaves_of (amid i (page p) false f) old d none)

      none_and : (b : Bool) → (b && false) ≡ false
      none_and true = refl
      none_and false = refl

      by : (o : Obligation) → (has_duty new o && not (excuses (amid i (page p) true f) o)) ≡ false
      by (wake_of c σ) = ap (λ (v : Told). v.duty.owes c σ && not (is_excused f c σ)) note_told ∙ d.none (wake_of c σ)
      by page_asked = none_and (is_asking (asks_for new))
      by (end_unclosed e) = ap (λ (b : Bool). b && not (f.ends e)) (ap (has_end e) is
          ∙ end_added old (item.Made (step.Unflag x (Some p))) e) ∙ d.none (end_unclosed e)

  note_owes : (f : Excuse) → OwesBut (amid i (page p) false f) old → OwesBut (amid i (page p) true f) new
  unfolding with_page with_entry with_bits
  note_owes f o = record {
    unmarked = ap (λ (v : Told). v.mark) note_told ∙ o.unmarked;
    debts = note_debts f o.debts;
    unqueued = λ y. subst (λ (v : Told). IsOutBut ((y == i) || f.entries y) (v.bits.stored y)) (sym note_told)
        (o.unqueued y);
    holds = λ d. ap (λ (v : Told). not (same d (page p) || f.bits d) && v.bits.keeps d) note_told
        ∙ noted_holds (same d (page p)) (f.bits d) ((told_of old).bits.keeps d) (o.holds d);
    tries = λ d. ap (λ (v : Told). v.bits.pending d) note_told ∙ o.tries d;
    tries_none = λ y d. ap (λ (v : Told). is_trying_for (v.bits.stored y) d) note_told ∙ o.tries_none y d;
  }

  pub page_keeps_noted : PageKeeps i (page p) false true old new
  page_keeps_noted = record {
    domain = ap (λ (k : Known). k.domain) is;
    number = ap (λ (k : Known). k.view.number) is;
    mark = ap (λ (v : Told). v.mark) note_told;
    fewer = λ w σ none. ap (λ (v : Told). v.duty.owes w σ) note_told ∙ none;
    out = λ y away none. ap (λ (v : Told). v.bits.stored y) note_told ∙ none;
    stands = λ slot few away e at own. ap (λ (v : Told). v.bits.stored (index old.view.number slot)) note_told ∙ at;
    grows = λ none. refl;
    keeps = λ d away. ap (λ (v : Told). v.bits.keeps d) note_told
        ∙ or_away ((told_of old).bits.keeps d) (same d (page p)) away;
    owes = note_owes;
  }

-- as the call begins, and at its end
pub amid_from : (i : ℕ) (c : Watch) (x : Excuse) (k : Known) → OwesBut x k → OwesBut (amid i c false x) k
unfolding with_page with_entry with_bits
amid_from i c x k o = owes_also i (with_page (with_bits (taken_bits c false) x)) k (record {
  unmarked = o.unmarked;
  debts = record { none = by; off = o.debts.off; shows = o.debts.shows };
  unqueued = o.unqueued;
  holds = o.holds;
  tries = o.tries;
  tries_none = o.tries_none;
})
  where
    none_and : (b : Bool) → (b && false) ≡ false
    none_and true = refl
    none_and false = refl

    by : (d : Obligation) → (has_duty k d && not (excuses (with_page (with_bits (taken_bits c false) x)) d)) ≡ false
    by (wake_of w σ) = o.debts.none (wake_of w σ)
    by page_asked = none_and (is_asking (asks_for k))
    by (end_unclosed e) = o.debts.none (end_unclosed e)

pub amid_to : (i : ℕ) (c : Watch) (g : Bool) (x : Excuse) (k : Known) → (told_of k).bits.stored i ≡ None
    → asks_for k ≡ nothing_asked → OwesBut (amid i c g x) k → OwesBut (with_bits (taken_bits c g) x) k
unfolding with_page with_bits
amid_to i c g x k out none o =
    let u = owes_out i (with_page (with_bits (taken_bits c g) x)) k out o in record {
      unmarked = u.unmarked;
      debts = record { none = by u; off = u.debts.off; shows = u.debts.shows };
      unqueued = u.unqueued;
      holds = u.holds;
      tries = u.tries;
      tries_none = u.tries_none;
    }
  where
    by : OwesBut (with_page (with_bits (taken_bits c g) x)) k → (d : Obligation)
        → (has_duty k d && not (excuses (with_bits (taken_bits c g) x) d)) ≡ false
    by u (wake_of w σ) = u.debts.none (wake_of w σ)
    by u page_asked = ap (λ (q : Asked). is_asking q && not x.asks) none
    by u (end_unclosed e) = u.debts.none (end_unclosed e)

-- who asks for nothing asks for no page
pub unasked_asks : (k : Known) → asks_for k ≡ nothing_asked → AsksNoPage k
unasked_asks k none d is = subst (λ (o : Obligation). (has_duty k o && not (excuses no_excuse o)) ≡ false) (sym is)
    (ap (λ (q : Asked). is_asking q && true) none)
