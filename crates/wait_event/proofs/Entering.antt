-- The calls that add an entry of a task and remove it: their transitions, and what they carry on.
use Rattle.std.proofs.Common.{◌∙◌, ap, sym, refl, subst, inl, inr}
use Rattle.std.specs.Prelude.{ℕ, ◌≡◌, ◌<◌, ◌&&◌, not, Bool, true, false, Some, None, Result, Ok, Err, IfOk, IfErr}
use Rattle.std.specs.Prelude.{[], ◌∷◌, ◌++◌}
use Rattle.wait_model.specs.{declared.layout.TheConstants.FIRST_SIMPLE, declared.points.Next.Next}
use Rattle.wait_model.specs.{declared.queues.Form.Form, declared.watches.Entry.Entry, declared.watches.Kind.Kind}
use Rattle.wait_model.specs.{Programs.zero_answer, Watches.head_of, Watches.is_simple}
use Rattle.wait_model.specs.Queues.{is_exclusive, is_priority, place_for}
use Rattle.wait_model.specs.declared.calls.Call.TheVariants as calls
use Rattle.wait_model.specs.declared.calls.Answer.TheVariants as answer
use Rattle.wait_model.specs.declared.points.Point.TheVariants as at
use Rattle.wait_model.specs.declared.points.AddPoint.TheVariants as adding
use Rattle.wait_model.specs.declared.points.Next.TheVariants as next
use Rattle.wait_model.specs.declared.steps.Step.TheVariants as step
use Rattle.wait_model.specs.declared.watches.Kind.TheVariants as kind
use Rattle.wait_model.specs.declared.watches.Watch.TheVariants as watch
use Rattle.wait_rule.specs.{declared.journal.Item.Item, Ends.WasWorn, Known.Known, Members.IsOwnKind, Shown.shown_queue}
use Rattle.wait_rule.specs.Says.{Excuse, IsFree, IsUp, added, stored_with, told_of, unlocked_with}
use Rattle.wait_rule.specs.Queues.{IsTold, index, at_head, walk_of_hold}
use Rattle.wait_rule.specs.Stays.{Carries, lock_change, only, only_looks, queue_change, unchanged, unlock_change}
use Rattle.wait_rule.specs.Stays.{with_entry}
use Rattle.wait_rule.specs.Transitions.{OnlyLooks, Program, by_step, call_program}
use Rattle.wait_rule.specs.declared.journal.Item.TheVariants as item
use Rattle.wait_rule.proofs.{KnownLaws.MemberBits.bit_looks, KnownLaws.Transitions.only_none}
use Rattle.wait_rule.proofs.{KnownLaws.Transitions.only_looked, KnownLaws.Turns.serve_looks}
use Rattle.wait_rule.proofs.WornHeads.WornNotes.{notes_stay}
use Rattle.wq_head.specs.{declared.adds.Worn.Worn, Holds.HasLocked, Holds.HasUnlocked}
use Rattle.wq_head.specs.Adds.{HasAdded, IsFormPlace, IsFormWorn}
use Rattle.wq_head.proofs.LockWaits.{turn_looks, turn_of}
use Rattle.wait_event.specs.Entries.{EndsAdd, HasWokenEntry, MayRemove, add_change, hold_change}
use Rattle.wait_class.specs.{Posts.Runs, Posts.own_of, Queueing.form_entry, Findings.saw_nothing, Findings.with_worn}
use Rattle.wait_class.proofs.Ground.Going.{runs_on, runs_one}
use Rattle.wait_class.proofs.FormPlaces.{form_is, form_left, form_worn}

-- what a hold of its own carries on: the lock, what it does, and the unlock
module _ (from to : Excuse → Excuse) (but : ℕ → Bool) (looks : Bool) (old a b new : Known) (free : IsFree old)
    (none : (told_of old).hold.head ≡ None) (h : ℕ) (one : Carries (lock_change h) old a)
    (two : Carries (record unchanged { from = from; to = to; but = but; looks = looks }) a b)
    (three : Carries unlock_change b new) where
  stands_on : (slot : ℕ) → (e : Entry) → but (index old.view.number slot) ≡ false
      → ((told_of a).bits.stored (index a.view.number slot) ≡ Some e
      → but (index a.view.number slot) ≡ false → (told_of b).bits.stored (index a.view.number slot) ≡ Some e)
      → ((told_of b).bits.stored (index b.view.number slot) ≡ Some e
      → (told_of new).bits.stored (index b.view.number slot) ≡ Some e)
      → (told_of a).bits.stored (index old.view.number slot) ≡ Some e
      → (told_of new).bits.stored (index old.view.number slot) ≡ Some e
  stands_on slot e away second third first =
      let at_a = subst (λ (n : ℕ). (told_of a).bits.stored (index n slot) ≡ Some e) (sym one.number) first in
      let at_b = second at_a (ap (λ (n : ℕ). but (index n slot)) one.number ∙ away) in
      let at_c = third (subst (λ (n : ℕ). (told_of b).bits.stored (index n slot) ≡ Some e) (sym two.number) at_b) in
      subst (λ (n : ℕ). (told_of new).bits.stored (index n slot) ≡ Some e) (two.number ∙ one.number) at_c

  pub hold_carried : Carries (record (hold_change new.at) { from = from; to = to; but = but }) old new
  hold_carried = record {
    domain = three.domain ∙ (two.domain ∙ one.domain);
    number = three.number ∙ (two.number ∙ one.number);
    awake = three.awake ∙ (two.awake ∙ one.awake);
    state = three.state ∙ (two.state ∙ one.state);
    head = three.head ∙ sym free.head;
    ticket = three.ticket ∙ sym free.ticket;
    hold = three.hold ∙ sym none;
    at = refl;
    mark = three.mark ∙ (two.mark ∙ one.mark);
    fewer = λ w σ p is. three.fewer w σ refl (two.fewer w σ refl (one.fewer w σ refl is));
    stored = λ x no away. absurd (cc);
    out = λ x away is. three.out x refl (two.out x away (one.out x refl is));
    stands = λ slot few away e is own. stands_on slot e away
        (λ first off. two.stands slot few off e first own) (λ second. three.stands slot few refl e second own)
        (one.stands slot few refl e is own);
    keeps = λ d _. three.keeps d refl ∙ (two.keeps d refl ∙ one.keeps d refl);
    owes = λ x o. three.owes (to x) (two.owes x (one.owes (from x) o));
  }

-- a look before it
module _ (from to : Excuse → Excuse) (but : ℕ → Bool) (looks : Bool) (at : ℕ → ℕ) (old mid new : Known)
    (one : Carries only_looks old mid)
    (two : Carries (record unchanged { from = from; to = to; but = but; looks = looks; at = at }) mid new) where
  pub looked_carried : Carries (record unchanged { from = from; to = to; but = but; looks = true; at = at }) old new
  looked_carried = record {
    domain = two.domain ∙ one.domain;
    number = two.number ∙ one.number;
    awake = two.awake ∙ one.awake;
    state = two.state ∙ one.state;
    head = two.head ∙ one.head;
    ticket = two.ticket ∙ one.ticket;
    hold = two.hold ∙ one.hold;
    at = two.at ∙ ap at one.at;
    mark = two.mark ∙ one.mark;
    fewer = λ w σ p is. two.fewer w σ refl (one.fewer w σ refl is);
    stored = λ x no away. absurd (cc);
    out = λ x away is. two.out x away (one.out x refl is);
    stands = λ slot few away e is own. subst (λ (n : ℕ). (told_of new).bits.stored (index n slot) ≡ Some e) one.number
        (two.stands slot few (ap (λ (n : ℕ). but (index n slot)) one.number ∙ away) e
        (subst (λ (n : ℕ). (told_of mid).bits.stored (index n slot) ≡ Some e) (sym one.number)
        (one.stands slot few refl e is own)) own);
    keeps = λ d _. two.keeps d refl ∙ one.keeps d refl;
    owes = λ x o. two.owes x (one.owes (from x) o);
  }

-- the lock, and the unlock
pub runs_lock : (f : Program) (p : _) (n : Next) (old a : Known) (h : ℕ) → (l : HasLocked old a h (walk_of_hold h None))
    → Runs f old (at_head h (added (turn_of old a h (walk_of_hold h None) l)
    (item.Made (step.Lock h (walk_of_hold h None) l.found)))) p n → Runs f old a p n
runs_lock f p n old a h l r = subst (λ (k : Known). Runs f old k p n) (sym l.is) r

pub note_unlocked : (b new : Known) (w : Worn) → new ≡ unlocked_with b b.at false
    → WasWorn b.view.number b.view.items w.head w.place → WasWorn new.view.number new.view.items w.head w.place
note_unlocked b new w is noted =
    let u : Item = item.Made (step.Unlock b.at false) in
    subst (λ (k : Known). WasWorn k.view.number k.view.items w.head w.place) (sym is)
    (notes_stay b.view.number (b.view.items ++ u ∷ []) (item.Served ∷ []) w.head w.place
    (notes_stay b.view.number b.view.items (u ∷ []) w.head w.place noted))

pub unlock_looks : (b new : Known) → new ≡ unlocked_with b b.at false
    → OnlyLooks (added b (item.Made (step.Unlock b.at false))) new
unlock_looks b new is = subst (OnlyLooks (added b (item.Made (step.Unlock b.at false)))) (sym is)
    (serve_looks b b.at false)

-- the entry that is queued
given_is : (c : ℕ) (k : Kind) → is_simple k ≡ false → (form : Form) (p q : ℕ) → q ≡ p
    → form_entry form (watch.Plain c) k p ≡ record {
      watch = watch.Plain c;
      place = q;
      exclusive = is_exclusive form && not (is_simple k);
      priority = is_priority form;
      kind = k;
    }
given_is c k simple form p q is i = record {
  watch = watch.Plain c;
  place = sym is i;
  exclusive = is_exclusive form && not (is_simple k);
  priority = is_priority form;
  kind = k;
}

own_simple : (k : Kind) → IsOwnKind k → is_simple k ≡ false
own_simple k (inl is) = ap is_simple is
own_simple k (inr is) = ap is_simple is

-- the lock of the head
pub lock_at : (old a : Known) (c h : ℕ) → h ≡ head_of (watch.Plain c) → HasLocked old a h (walk_of_hold h None)
    → HasLocked old a (head_of (watch.Plain c)) (walk_of_hold (head_of (watch.Plain c)) None)
lock_at old a c h is l = subst (λ (n : ℕ). HasLocked old a n (walk_of_hold n None)) is l

pub lock_carries : (old a : Known) (c h : ℕ) → h ≡ head_of (watch.Plain c) → Carries (lock_change h) old a
    → Carries (lock_change (head_of (watch.Plain c))) old a
lock_carries old a c h is l = subst (λ (n : ℕ). Carries (lock_change n) old a) is l

-- what an add says, by its answer
pub record EntersBy (old new : Known) (c : ℕ) (k : Kind) (form : Form) (r : Result (Unit {0}) Worn) : Type 0 where
  pub added : EndsAdd old new c k form r
  pub stands : IfOk r (λ _. MayRemove new)
  pub woken : IfOk r (λ _. k ≡ kind.Woken → HasWokenEntry new)
  pub carries : IfOk r (λ _. Carries (add_change (own_of old) new.at) old new)
  pub same : IfErr r (λ _. Carries (hold_change new.at) old new)

-- an add
module _ (old a b new : Known) (c : ℕ) (k : Kind) (form : Form) (own : IsOwnKind k)
    (l : HasLocked old a (head_of (watch.Plain c)) (walk_of_hold (head_of (watch.Plain c)) None))
    (u : HasUnlocked b new false) where
  abbrev f : Program
  f = call_program old.view.number 0 (calls.Add c k form)

  abbrev h : ℕ
  h = head_of (watch.Plain c)

  locks : Runs f old a (next.Go (at.Add adding.Lock)) (next.Go (at.Add adding.Queue))
  locks = runs_lock f (next.Go (at.Add adding.Lock)) (next.Go (at.Add adding.Queue)) old a h l
      (runs_one f (at.Add adding.Lock) old (turn_of old a h (walk_of_hold h None) l)
      (at_head h (added (turn_of old a h (walk_of_hold h None) l)
      (item.Made (step.Lock h (walk_of_hold h None) l.found)))) saw_nothing
      (by_step (step.Lock h (walk_of_hold h None) l.found)) (turn_looks old a h (walk_of_hold h None) l) (refl, refl)
      (tt, tt, tt) (only_none (at_head h (added (turn_of old a h (walk_of_hold h None) l)
      (item.Made (step.Lock h (walk_of_hold h None) l.found))))))

  at_lock : a.at ≡ h
  at_lock = ap (λ (j : Known). j.at) l.is

  unlocks : b.at ≡ h → Runs f b new (next.Go (at.Add adding.Unlock)) (next.Ends zero_answer)
  unlocks at_b = runs_one f (at.Add adding.Unlock) b b new saw_nothing (by_step (step.Unlock b.at false)) (only_none b)
      (at_b, refl) (tt, tt, tt) (unlock_looks b new u.is)

  -- it found a place
  adds : (number : a.view.number ≡ old.view.number)
      → HasAdded (IsFormPlace form) a b 0 (form_entry form (watch.Plain c) k)
      → Runs f a b (next.Go (at.Add adding.Queue)) (next.Go (at.Add adding.Unlock))
  adds number x =
      let i = index old.view.number 0 in
      let e = form_entry form (watch.Plain c) k x.place in
      let same : index a.view.number 0 ≡ i = ap (λ (n : ℕ). index n 0) number in
      runs_one f (at.Add adding.Queue) a x.seen b (with_worn false) (by_step (step.Queue i e))
      (only_looked a x.seen x.looks.items x.looks.same x.looks.looks x.looks.is) (
        refl,
        sym (ap (λ (j : Known). j.at) x.looks.is ∙ at_lock),
        x.whole,
        given_is c k (own_simple k own) form x.place (place_for form (shown_queue x.seen))
            (form_is x.seen x.low form x.place x.sort),
      )
      (tt, (x.whole, sym (form_left x.seen x.low form x.place x.sort)), tt)
      (subst (OnlyLooks (added x.seen (item.Made (step.Queue i e))))
      (sym (x.is ∙ ap (λ (n : ℕ). stored_with x.seen (step.Queue n e)) same)) (bit_looks x.seen (step.Queue i e)))

  -- it found none
  finds_none : (w : Worn) → IsFormWorn form a b w
      → Runs f a new (next.Go (at.Add adding.Queue)) (next.Ends answer.Worn)
  finds_none w worn =
      let x = form_worn form a b w worn in
      runs_one f (at.Add adding.Queue) a b new (with_worn true) (by_step (step.Unlock b.at false))
      (only_looked a b x.looks.items x.looks.same x.looks.looks x.looks.is)
      (ap (λ (j : Known). j.at) x.looks.is ∙ at_lock, refl) (tt, (x.whole, sym x.worn), tt) (unlock_looks b new u.is)

  module _ (free : IsFree old) (told : IsTold old) (one : Carries (lock_change h) old a)
      (three : Carries unlock_change b new) where
    held_none : (told_of old).hold.head ≡ None
    held_none = told.head ∙ free.head

    added_own : HasAdded (IsFormPlace form) a b 0 (form_entry form (watch.Plain c) k) → EndsAdd old new c k form (Ok tt)
    added_own x =
        let i = index old.view.number 0 in record {
          runs = runs_on f old a new (next.Go (at.Add adding.Lock)) (next.Go (at.Add adding.Queue))
              (next.Ends zero_answer) locks
              (runs_on f a b new (next.Go (at.Add adding.Queue)) (next.Go (at.Add adding.Unlock))
              (next.Ends zero_answer) (adds one.number x) (unlocks (x.carries.at ∙ at_lock)));
          entry = (
            x.place,
            three.stored i refl refl
                ∙ (ap (λ (n : ℕ). (told_of b).bits.stored (index n 0)) (sym one.number) ∙ x.queued),
          );
        }

    worn_own : (w : Worn) → IsFormWorn form a b w → WasWorn b.view.number b.view.items w.head w.place
        → EndsAdd old new c k form (Err w)
    worn_own w worn noted = record {
      runs = runs_on f old a new (next.Go (at.Add adding.Lock)) (next.Go (at.Add adding.Queue)) (next.Ends answer.Worn)
          locks (finds_none w worn);
      entry = ((form_worn form a b w worn).head ∙ at_lock, note_unlocked b new w u.is noted);
    }

    ends_add : (r : Result (Unit {0}) Worn)
        → IfOk r (λ _. HasAdded (IsFormPlace form) a b 0 (form_entry form (watch.Plain c) k))
        → IfErr r (λ w. IsFormWorn form a b w) → IfErr r (λ w. WasWorn b.view.number b.view.items w.head w.place)
        → EndsAdd old new c k form r
    ends_add (Ok u) x worn noted = added_own x
    ends_add (Err w) x worn noted = worn_own w worn noted

    add_carries : (r : Result (Unit {0}) Worn)
        → IfOk r (λ _. HasAdded (IsFormPlace form) a b 0 (form_entry form (watch.Plain c) k))
        → IfOk r (λ _. Carries (add_change (own_of old) new.at) old new)
    add_carries (Ok u) x =
        let i = index old.view.number 0 in
        hold_carried (λ y. y) (with_entry i) (only i) true old a b new free held_none h one
        (subst (λ (n : ℕ). Carries (queue_change (index n 0)) a b) one.number x.carries) three
    add_carries (Err w) x = tt

    worn_carries : (r : Result (Unit {0}) Worn) → IfErr r (λ w. Carries only_looks a b)
        → IfErr r (λ w. Carries (hold_change new.at) old new)
    worn_carries (Ok u) two = tt
    worn_carries (Err w) two =
        hold_carried (λ y. y) (λ y. y) (λ x. false) true old a b new free held_none h one two three

    add_stands : IsUp old → c < FIRST_SIMPLE → (r : Result (Unit {0}) Worn)
        → IfOk r (λ _. HasAdded (IsFormPlace form) a b 0 (form_entry form (watch.Plain c) k))
        → IfOk r (λ _. MayRemove new)
    add_stands up full (Ok u) x =
        let number = three.number ∙ (x.carries.number ∙ one.number) in record {
          up = three.awake ∙ (x.carries.awake ∙ (one.awake ∙ up));
          free = record { head = three.head; ticket = three.ticket };
          cond = c;
          full = full;
          entry = form_entry form (watch.Plain c) k x.place;
          queued = ap (λ (n : ℕ). (told_of new).bits.stored (index n 0)) number
              ∙ (three.stored (index old.view.number 0) refl refl
              ∙ (ap (λ (n : ℕ). (told_of b).bits.stored (index n 0)) (sym one.number) ∙ x.queued));
          kind = own;
          about = refl;
        }
    add_stands up full (Err w) x = tt

    add_woken : IsUp old → c < FIRST_SIMPLE → (r : Result (Unit {0}) Worn)
        → IfOk r (λ _. HasAdded (IsFormPlace form) a b 0 (form_entry form (watch.Plain c) k))
        → IfOk r (λ _. k ≡ kind.Woken → HasWokenEntry new)
    unfolding add_stands
    add_woken up full (Ok u) x = λ is.
        let m = add_stands up full (Ok u) x in
        record { cond = m.cond; full = m.full; entry = m.entry; queued = m.queued; kind = is; about = m.about }
    add_woken up full (Err w) x = tt

    pub enters : IsUp old → c < FIRST_SIMPLE → (r : Result (Unit {0}) Worn)
        → IfOk r (λ _. HasAdded (IsFormPlace form) a b 0 (form_entry form (watch.Plain c) k))
        → IfErr r (λ w. IsFormWorn form a b w) → IfErr r (λ w. WasWorn b.view.number b.view.items w.head w.place)
        → IfErr r (λ w. Carries only_looks a b) → EntersBy old new c k form r
    enters up full r x worn noted two = record {
      added = ends_add r x worn noted;
      stands = add_stands up full r x;
      woken = add_woken up full r x;
      carries = add_carries r x;
      same = worn_carries r two;
    }
