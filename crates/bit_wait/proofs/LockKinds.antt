-- Calls that take a bit: what stays of the task, the test-and-set of the bit, and what a whole call leaves.
use Rattle.std.proofs.Common.{◌∙◌, ap, sym, refl, subst, inl, inr}
use Rattle.std.proofs.lemmas.Bool.Decides.{eqb_tells}
use Rattle.std.specs.Prelude.{ℕ, ◌≡◌, ◌≢◌, ◌<◌, ◌⊎◌, ◌==◌, ◌&&◌, ◌||◌, not, Bool, true, false, MatchBool}
use Rattle.std.specs.Prelude.{Option, Some, None, [], ◌∷◌}
use Rattle.wait_model.specs.{declared.layout.TheConstants.SLOTS, declared.points.Next.Next, declared.steps.Step.Step}
use Rattle.wait_model.specs.{declared.watches.Entry.Entry, declared.watches.Watch.Watch, Views.View as Told}
use Rattle.wait_model.specs.{Views.is_trying_for, Watches.same, Watches.was_clear, Words.bit_at}
use Rattle.wait_model.specs.declared.points.Next.TheVariants as next
use Rattle.wait_model.specs.declared.steps.Step.TheVariants as step
use Rattle.wait_model.specs.declared.watches.Watch.TheVariants as watch
use Rattle.wait_model.proofs.Sameness.{same_bit, same_bit_is}
use Rattle.wait_rule.specs.declared.journal.Item.TheVariants as item
use Rattle.wait_rule.specs.{Known.Known, Members.IsOwnKind, Stays.with_bits}
use Rattle.wait_rule.specs.Bits.{SetsBit, StaysBeside, taken_bits}
use Rattle.wait_rule.specs.Queues.{IsIdle, at_head, index, walk_of_hold}
use Rattle.wait_rule.specs.Says.{Excuse, IsClean, IsOutBut, IsUp, OwesBut, added, no_excuse, told_of}
use Rattle.wait_rule.specs.Transitions.{Finds, Goes, IsMadeFor, OnlyLooks, Program, Transition, by_step}
use Rattle.wait_rule.proofs.{KnownLaws.AfterSteps.told_added, KnownLaws.TaskHistories.history_after}
use Rattle.wait_rule.proofs.KnownLaws.Transitions.{only_none}
use Rattle.wait_rule.proofs.KnownLaws.Debts.{added_debts, entries_debts, list_debts}
use Rattle.wait_class.specs.{Findings.with_value, declared.stages.Run.Run, declared.stages.Turn.Turn}
use Rattle.wait_class.specs.Posts.{IsOut, Post, Stands}
use Rattle.wait_class.specs.Laws.{HomeGoes, IsFreeStage, KeepsLaws, StateGoes, TurnTrail, turn_post}
use Rattle.wait_class.specs.Tables.{IsAt, CallTable, next_in, plan_program, post_of, took_in, watch_in}
use Rattle.wait_class.proofs.{Ground.Standing.stands_on, Wholes.Rested}
use Rattle.wait_class.proofs.Turns.{GoesOn, free_head, stands_plain}
use Rattle.bit_wait.specs.{Holders.IsHolder, LockStays.LockKeeps, LockStays.TakesBit}
use Rattle.bit_wait.proofs.Holders.{holds_or_owes}
use Rattle.bit_wait.proofs.LockGround.{gone, lock_keeps_by, lock_keeps_looks, lock_keeps_none, lock_keeps_on}
use Rattle.bit_wait.proofs.LockGround.{lock_keeps_own, lock_keeps_removed, lock_keeps_same, lock_keeps_set}
use Rattle.bit_wait.proofs.LockGround.{lock_keeps_step, lock_keeps_unlock}

-- what stays of the task
pub lock_stays : KeepsLaws LockKeeps
lock_stays = record {
  domain = λ i c g h old new k. k.domain;
  number = λ i c g h old new k. k.number;
  none = lock_keeps_none;
  on = lock_keeps_on;
  told = lock_keeps_same;
  lock = λ i c g old h x.
      let e : Step = step.Lock h (walk_of_hold h None) x in
      let told = told_added old (item.Made e) in
      lock_keeps_by i c g old (at_head h (added old (item.Made e))) refl refl (ap (λ (v : Told). v.mark) told)
      (λ d σ none. ap (λ (v : Told). v.duty.owes d σ) told ∙ none) (λ y. ap (λ (v : Told). v.bits.stored y) told)
      (λ d. ap (λ (v : Told). v.bits.keeps d) told) (λ d none. ap (λ (v : Told). v.bits.pending d) told ∙ none)
      (λ y d. list_debts y (added old (item.Made e)) (at_head h (added old (item.Made e))) refl
      (added_debts old (added old (item.Made e)) (item.Made e) refl refl y d));
  unlock = lock_keeps_unlock;
  state = λ i c g old new σ is carries. lock_keeps_step i c g old new (step.State σ) is (λ v. refl) refl (λ v. refl)
      (λ v. refl) (λ v d none. none);
  look = λ i c g old new w is carries. lock_keeps_step i c g old new (step.Look w) is (λ v. refl) refl (λ v. refl)
      (λ v. refl) (λ v d none. none);
  load = λ i c d g old new v is carries. lock_keeps_step i c g old new (step.Load d v) is (λ u. refl) refl (λ u. refl)
      (λ u. refl) (λ u x none. gone _ _ none);
  own = lock_keeps_own;
  removed = λ i c g old new is carries. lock_keeps_removed c g i old new is;
  looks = λ i c g old new out l. lock_keeps_looks c g i old new out l;
}

-- The bit is tried, where no head is held: by the way that it goes.
module _ {C S O : Type 0} (t : CallTable C S O) (old new : Known) (r : Run C) (s : S) (w n v : ℕ)
    (bit : watch_in t r.of ≡ watch.Bit w n)
    (keeps : (i : ℕ) (c : Watch) (g h : Bool) (a b : Known) → LockKeeps i c g h a b → t.Keeps i c g h a b)
    (is : new ≡ added old (item.Made (step.Consume (watch.Bit w n) 1 v)))
    (sets : SetsBit old new (watch.Bit w n) (was_clear (watch.Bit w n) v)) (fresh : t.drawn s ≡ false)
    (free : IsFreeStage t s) (untaken : t.took s ≡ false) (a : IsAt t old r s) where
  abbrev e : Step
  e = step.Consume (watch.Bit w n) 1 v

  abbrev f : Program
  f = plan_program old.view.number 0 (t.plan_of r.of)

  abbrev p : Post
  p = post_of t r.of s

  st : Stands old p
  st = stands_plain t old r s fresh a.stands

  clear_head : p.head ≡ None
  clear_head = free_head None (t.plan_of r.of) (t.point_of s) free

  abbrev did : Transition
  did = record { seen = with_value v; knew = old; did = by_step e }

  pub set_goes : (q : C) → ((x : Transition) → x.did ≡ by_step e → t.Tells r.of q (x ∷ [])) → (u : Turn S O) (b : Bool)
      → bit_at v n ≡ b → not b ≡ took_in t u
      → ((t.plan_of r.of).makes old.view.number (t.point_of s) (with_value v)).next ≡ next_in t u
      → IsMadeFor old (Some (index old.view.number 0)) ((t.plan_of r.of).given (t.point_of s))
      ((t.plan_of r.of).makes old.view.number (t.point_of s) (with_value v)).event (by_step e)
      → Finds old f (t.point_of s) (by_step e) (with_value v) → (turn_post t q u).head ≡ None
      → (turn_post t q u).ticket ≡ p.ticket → StateGoes t r.of s q u → HomeGoes t r.of s q u → TurnTrail t new q u
      → GoesOn t old new r.of q s u
  set_goes q tells u b set took to made finds still ticket state home trail = record {
    goes = record {
      runs = record {
        transitions = did ∷ [];
        goes = subst (λ (m : Next). Goes f old (next.Go (t.point_of s)) (did ∷ []) new m) to (
          record { looks = only_none old; is = made; finds = finds },
          (subst (OnlyLooks (added old (item.Made e))) (sym is) (only_none (added old (item.Made e))), refl),
        );
      };
      tells = tells did refl;
      made = record { before = []; event = e; behind = []; is = history_after old new e is };
    };
    keeps = subst (λ (c : Watch). t.Keeps (index old.view.number 0) c (t.took s) (took_in t u) old new) (sym bit)
        (subst (λ (h : Bool). t.Keeps (index old.view.number 0) (watch.Bit w n) h (took_in t u) old new) (sym untaken)
        (subst (λ (g : Bool). t.Keeps (index old.view.number 0) (watch.Bit w n) false g old new) (ap not set ∙ took)
        (keeps (index old.view.number 0) (watch.Bit w n) false (not (bit_at v n)) old new
        (lock_keeps_set (index old.view.number 0) w n v old new is sets))));
    lands = record {
      up = sets.stays.awake ∙ a.up;
      stands = subst (λ (k : Known). Stands k (turn_post t q u)) (sym is)
          (stands_on old e p (turn_post t q u) st (st.head ∙ (clear_head ∙ sym still)) still
          (st.told ∙ (clear_head ∙ sym still)) (st.ticket ∙ sym ticket) (state old.book.state st.state)
          (home ((told_of old).bits.stored (index old.view.number 0)) st.home));
      trail = trail;
    };
  }

out_none : (b : Bool) (s : Option Entry) → s ≡ None → IsOutBut b s
out_none true s none = tt
out_none false s none = none

held_on : (g t was now : Bool) → (g ≡ false → now ≡ was) → (not t && was) ≡ false → (not (g || t) && now) ≡ false
held_on true t was now same is = refl
held_on false t was now same is = ap (λ (k : Bool). not t && k) (same refl) ∙ is

-- the entries of a task behind a call of the one of this index, which is off before it and behind it
pub entries_out : (i : ℕ) (old new : Known) → (told_of new).bits.stored i ≡ None
    → ((y : ℕ) → (y == i) ≡ false → (told_of old).bits.stored y ≡ None → (told_of new).bits.stored y ≡ None)
    → (y : ℕ) → (told_of old).bits.stored y ≡ None → (told_of new).bits.stored y ≡ None
entries_out i old new gone others y is = by (eqb_tells y i)
  where
    by : (((y == i) ≡ true) × (y ≡ i)) ⊎ (((y == i) ≡ false) × (y ≢ i)) → (told_of new).bits.stored y ≡ None
    by (inl q) = ap (told_of new).bits.stored q.1 ∙ gone
    by (inr q) = others y q.0 is

pub entries_stand : (i : ℕ) (old new : Known) → (told_of old).bits.stored i ≡ None
    → ((slot : ℕ) → slot < SLOTS → (index old.view.number slot == i) ≡ false → (e : Entry)
    → (told_of old).bits.stored (index old.view.number slot) ≡ Some e → IsOwnKind e.kind
    → (told_of new).bits.stored (index old.view.number slot) ≡ Some e)
    → (slot : ℕ) → slot < SLOTS → (e : Entry) → (told_of old).bits.stored (index old.view.number slot) ≡ Some e
    → IsOwnKind e.kind → (told_of new).bits.stored (index old.view.number slot) ≡ Some e
entries_stand i old new out others slot few e is own = by (eqb_tells (index old.view.number slot) i)
  where
    by : (((index old.view.number slot == i) ≡ true) × (index old.view.number slot ≡ i))
        ⊎ (((index old.view.number slot == i) ≡ false) × (index old.view.number slot ≢ i))
        → (told_of new).bits.stored (index old.view.number slot) ≡ Some e
    by (inl q) = absurd (let no : None ≡ Some e = sym (ap (told_of old).bits.stored q.1 ∙ out) ∙ is in cc)
    by (inr q) = others slot few q.0 e is own

-- by the parts that a whole call leaves, whatever it answers
module _ (old ended new : Known) (w b : ℕ) (g : Bool)
    (k : LockKeeps (index old.view.number 0) (watch.Bit w b) false g old ended) (rest : Rested ended new)
    (up : IsUp old) (idle : IsIdle old) (out : IsOut old) (held : (told_of old).hold.head ≡ None)
    (up_new : IsUp new) (idle_new : IsIdle new) (held_new : (told_of new).hold.head ≡ None)
    (out_new : (told_of new).bits.stored (index old.view.number 0) ≡ None)
    (none : (told_of new).bits.pending (watch.Bit w b) ≡ false)
    (kept : g ≡ true → (told_of new).bits.keeps (watch.Bit w b) ≡ true) where
  abbrev c : Watch
  c = watch.Bit w b

  abbrev i : ℕ
  i = index old.view.number 0

  none_stored : (y : ℕ) → (told_of old).bits.stored y ≡ None → (told_of new).bits.stored y ≡ None
  none_stored = entries_out i old new out_new (λ y away is. rest.stored y ∙ k.out y away is)

  slots_stand : (slot : ℕ) → slot < SLOTS → (e : Entry)
      → (told_of old).bits.stored (index old.view.number slot) ≡ Some e → IsOwnKind e.kind
      → (told_of new).bits.stored (index old.view.number slot) ≡ Some e
  slots_stand = entries_stand i old new out
      (λ slot few away e is own. rest.stored (index old.view.number slot) ∙ k.stands slot few away e is own)

  stays : StaysBeside (taken_bits c g) old new
  stays = record {
    domain = rest.domain ∙ k.domain;
    number = rest.number ∙ k.number;
    awake = up_new ∙ sym up;
    state = idle_new.running ∙ sym idle.running;
    head = idle_new.free.head ∙ sym idle.free.head;
    ticket = idle_new.free.ticket ∙ sym idle.free.ticket;
    hold = held_new ∙ sym held;
    mark = rest.mark ∙ k.mark;
    out = none_stored;
    stands = slots_stand;
    keeps = λ d away. rest.keeps d ∙ k.keeps d away;
  }

  none_tried : (d : Watch) → ((same d c ≡ false) → (told_of new).bits.pending d ≡ false)
      → (told_of new).bits.pending d ≡ false
  none_tried d away = by (same d c) refl
    where
      by : (s : Bool) → same d c ≡ s → (told_of new).bits.pending d ≡ false
      by true is = ap (told_of new).bits.pending (same_bit_is d c (same_bit d c is refl) is) ∙ none
      by false is = away is

  takes_owes : (x : Excuse) → OwesBut x old → OwesBut (with_bits (taken_bits c g) x) new
  unfolding with_bits
  takes_owes x o =
      let m = k.owes x (record {
        unmarked = o.unmarked;
        debts = o.debts;
        unqueued = λ y away. o.unqueued y;
        tries = λ d away. o.tries d;
        others = λ y away d. o.tries_none y d;
        own = λ d away. o.tries_none i d;
      }) in record {
        unmarked = rest.mark ∙ m.unmarked;
        debts = entries_debts x (with_bits (taken_bits c g) x) new refl refl refl refl (rest.debts x m.debts);
        unqueued = λ y. unqueued m.unqueued y (eqb_tells y i);
        holds = λ d. held_on (taken_bits c g d) (x.bits d) ((told_of old).bits.keeps d) ((told_of new).bits.keeps d)
            (λ away. rest.keeps d ∙ k.keeps d away) (o.holds d);
        tries = λ d. none_tried d (λ away. rest.pending d ∙ m.tries d away);
        tries_none = λ y d. trying m.others y d (eqb_tells y i);
      }
    where
      unqueued : ((y : ℕ) → (y == i) ≡ false → IsOutBut (x.entries y) ((told_of ended).bits.stored y)) → (y : ℕ)
          → (((y == i) ≡ true) × (y ≡ i)) ⊎ (((y == i) ≡ false) × (y ≢ i))
          → IsOutBut (x.entries y) ((told_of new).bits.stored y)
      unqueued f y (inl q) = out_none (x.entries y) ((told_of new).bits.stored y)
          (ap (told_of new).bits.stored q.1 ∙ out_new)
      unqueued f y (inr q) = subst (IsOutBut (x.entries y)) (sym (rest.stored y)) (f y q.0)

      trying : ((y : ℕ) → (y == i) ≡ false → (d : Watch) → is_trying_for ((told_of ended).bits.stored y) d ≡ false)
          → (y : ℕ) (d : Watch) → (((y == i) ≡ true) × (y ≡ i)) ⊎ (((y == i) ≡ false) × (y ≢ i))
          → is_trying_for ((told_of new).bits.stored y) d ≡ false
      trying f y d (inl q) = ap (λ (s : Option Entry). is_trying_for s d)
          (ap (told_of new).bits.stored q.1 ∙ out_new)
      trying f y d (inr q) = ap (λ (s : Option Entry). is_trying_for s d) (rest.stored y) ∙ f y q.0 d

  pub takes_bit : TakesBit old new c g
  takes_bit = record {
    stays = stays;
    keeps = kept;
    tries = none;
    fewer = λ d σ free. rest.owes d σ ∙ k.fewer d σ free;
    owes = takes_owes;
  }

-- who owed nothing
pub locks_clean : (old new : Known) (c : Watch) → IsClean old → IsUp new → IsIdle new → (g : Bool)
    → TakesBit old new c g → MatchBool g (IsHolder new c) (IsClean new)
locks_clean old new c clean up idle g t = holds_or_owes new c up idle g t.keeps (t.owes no_excuse clean.settled)
