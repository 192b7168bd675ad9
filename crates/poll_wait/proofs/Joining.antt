-- The second entry is queued, in its hold and as a whole.
use Rattle.std.proofs.Common.{◌∙◌, ap, sym, refl, subst}
use Rattle.std.specs.Prelude.{ℕ, ◌≡◌, ◌<◌, Bool, true, false, is_some, Option, Some, None, Result, Ok, Err, [], ◌∷◌}
use Rattle.wait_model.specs.{declared.layout.TheConstants.FIRST_DONE_HEAD, declared.points.Next.Next}
use Rattle.wait_model.specs.{declared.watches.Entry.Entry, declared.watches.Kind.Kind, declared.watches.Watch.Watch}
use Rattle.wait_model.specs.{Programs.zero_answer, Views.Look}
use Rattle.wait_model.specs.Watches.{bare, head_of, kind_for}
use Rattle.wait_model.specs.declared.calls.Answer.TheVariants as answer
use Rattle.wait_model.specs.declared.points.Next.TheVariants as next
use Rattle.wait_model.specs.declared.points.Point.TheVariants as at
use Rattle.wait_model.specs.declared.points.PreparePoint.TheVariants as preparing
use Rattle.wait_model.specs.declared.queues.Form.TheVariants as forms
use Rattle.wait_model.specs.declared.steps.Step.TheVariants as step
use Rattle.wait_rule.specs.{declared.journal.Item.Item, Ends.WasWorn, HandedPermits.OwesNoPermit, Known.Known}
use Rattle.wait_rule.specs.Queues.{IsFrontPlace, IsTold, at_head, index, saw, walk_of_hold}
use Rattle.wait_rule.specs.Says.{added, stored_with, told_of}
use Rattle.wait_rule.specs.Stays.{Carries, lock_change, no_entries, only, queue_change, unlock_change, with_entry}
use Rattle.wait_rule.specs.Transitions.{Goes, IsSeenAs, OnlyLooks, Program, by_step, is_worn}
use Rattle.wait_rule.specs.declared.journal.Item.TheVariants as item
use Rattle.wait_rule.proofs.{KnownLaws.MemberBits.bit_looks, WornHeads.WornNotes.notes_stay}
use Rattle.wait_rule.proofs.KnownLaws.Transitions.{only_looked, only_none, only_on}
use Rattle.wq_head.specs.{declared.adds.Worn.Worn, Looks.Looks}
use Rattle.wq_head.specs.Adds.{HasAdded, IsFrontWorn, front_entry}
use Rattle.wq_head.specs.Holds.{HasLocked, HasUnlocked, IsHolding}
use Rattle.wq_head.proofs.{CarriedHolds.looks_carried, LockWaits.turn_looks, LockWaits.turn_of, OneMoreLook.whole_of}
use Rattle.wq_head.proofs.PermitHeads.{owes_low}
use Rattle.wait_class.specs.Findings.{saw_nothing, with_worn, saw_entry as finds}
use Rattle.wait_class.specs.Posts.{Runs}
use Rattle.wait_class.proofs.{Ground.Keeping.once, Ground.Standing.bare_head, WornPlaces.queue_same}
use Rattle.wait_class.proofs.WornPlaces.{whole_seen}
use Rattle.wait_class.proofs.FormPlaces.{form_is, form_left, form_worn}
use Rattle.wait_class.proofs.Ground.Going.{runs_looks, runs_on, runs_one}
use Rattle.wait_event.specs.{PartSteps.part_change, Prepares.IsPart}
use Rattle.wait_event.proofs.Entering.{hold_carried, note_unlocked, runs_lock, unlock_looks}
use Rattle.wait_event.proofs.PartSteps.{part_of}
use Rattle.poll_wait.specs.Seconds.{EndsJoin, MayJoinSecond, join_change, join_program, second_of}
use Rattle.poll_wait.specs.SecondSteps.{HasJoinedHeld, HasSeenSecond, JoinsHeld, SecondCarries, joined_at}
use Rattle.poll_wait.proofs.Carrying.{carries_on}
use Rattle.poll_wait.proofs.SecondLooks.{finds_second, hold_looks, second_is, second_looks, second_stored}

-- what steps in the hold carry on
pub seconds_on : (a b c : Known) → SecondCarries a b → SecondCarries b c → SecondCarries a c
seconds_on a b c one two =
    let i = second_of a in
    carries_on (with_entry i) (with_entry i) (with_entry i) (only i) (λ σ. σ) (λ σ. σ) (λ h. h) (λ h. h) a b c one
    (subst (λ (n : ℕ). Carries (part_change (index n 1) (λ σ. σ)) b c) one.number two)

pub own_second : (a b : Known) (o : Option Entry) → HasSeenSecond a b o → SecondCarries a b
own_second a b o h = part_of (λ x. x) (λ x. x) no_entries true (λ σ. σ) (second_of a) a b h.carries (λ x other. refl)
    (λ x. h.carries.owes (with_entry (second_of a) x))

looks_second : (a b : Known) → Looks a b → SecondCarries a b
looks_second a b l =
    let c = looks_carried a b l in
    part_of (λ x. x) (λ x. x) no_entries true (λ σ. σ) (second_of a) a b c (λ x other. refl)
    (λ x. c.owes (with_entry (second_of a) x))

queue_second : (a b : Known) → Carries (queue_change (second_of a)) a b → SecondCarries a b
queue_second a b c = part_of (λ x. x) (with_entry (second_of a)) (only (second_of a)) true (λ σ. σ) (second_of a) a b c
    (λ x other. other) (λ x o. once (second_of a) x b (c.owes (with_entry (second_of a) x) o))

pub none_found : (o : Option Entry) → false ≡ is_some o → o ≡ None
none_found None is = refl
none_found (Some e) is = absurd (cc)

module _ (w : Watch) (old mid : Known) (o : Option Entry) (own : HasSeenSecond old mid o) (held : IsHolding old)
    (here : head_of w ≡ old.at) (home : IsPart w (kind_for w) ((told_of old).bits.stored (second_of old))) where
  abbrev f : Program
  f = join_program old.view.number w

  abbrev i : ℕ
  i = second_of old

  is_part : (e : Entry) → o ≡ Some e → IsPart w (kind_for w) (Some e)
  is_part e some = subst (IsPart w (kind_for w)) (second_stored old mid o own e some) home

  found : (g : Option Entry) → o ≡ g → IsSeenAs ((told_of mid).hold.book i) g
  found g is = finds_second old mid o own old.at held.locked held.told
      (λ e some. ap head_of (is_part e some).0 ∙ (bare_head w ∙ here)) g is

  -- it is queued still
  pub stays_joined : (b : Bool) → b ≡ is_some o → b ≡ true → JoinsHeld w old mid (Ok tt)
  stays_joined b tells hit_is = by o refl (sym tells ∙ hit_is)
    where
      by : (g : Option Entry) → o ≡ g → is_some g ≡ true → HasJoinedHeld w old mid
      by None at some = absurd (cc)
      by (Some e) some hit = record {
        still = true;
        runs = runs_looks f old mid (next.Go (at.Prepare preparing.Queue)) (second_looks old mid o own old.at held.locked);
        carries = own_second old mid o own;
        entry = e;
        queued = second_is old mid o own ∙ some;
        shows = λ _. found (Some e) some;
        home = is_part e some;
      }

  -- it was off
  module _ (b : Bool) (tells : b ≡ is_some o) (miss : b ≡ false) where
    none : o ≡ None
    none = none_found o (sym miss ∙ tells)

    pub second_off : (told_of mid).bits.stored (second_of mid) ≡ None
    second_off = ap (λ (n : ℕ). (told_of mid).bits.stored (index n 1)) own.carries.number
        ∙ (second_is old mid o own ∙ none)

    same : second_of mid ≡ i
    same = ap (λ (n : ℕ). index n 1) own.carries.number

    -- it is queued
    pub adds_joined : (k : Kind) → k ≡ kind_for w → (c : Watch) → c ≡ bare w → (new : Known)
        → HasAdded IsFrontPlace mid new 1 (front_entry c k) → JoinsHeld w old new (Ok tt)
    adds_joined k kind c is new x = by
        (subst (λ (d : Watch). HasAdded IsFrontPlace mid new 1 (front_entry d (kind_for w))) is
        (subst (λ (d : Kind). HasAdded IsFrontPlace mid new 1 (front_entry c d)) kind x))
      where
        by : HasAdded IsFrontPlace mid new 1 (front_entry (bare w) (kind_for w)) → HasJoinedHeld w old new
        by y =
            let e : Entry = front_entry (bare w) (kind_for w) y.place in record {
              still = false;
              runs = runs_one f (at.Prepare preparing.Queue) old y.seen new (finds None) (by_step (step.Queue i e))
                  (only_on old mid y.seen (second_looks old mid o own old.at held.locked)
                  (only_looked mid y.seen y.looks.items y.looks.same y.looks.looks y.looks.is)) (
                    refl,
                    here ∙ (sym own.carries.at ∙ sym (ap (λ (k : Known). k.at) y.looks.is)),
                    y.whole,
                    ap (front_entry (bare w) (kind_for w)) (sym (form_is y.seen y.low forms.Front y.place y.sort)),
                  ) (
                    tt,
                    (
                      subst (λ (l : Look). IsSeenAs l None)
                          (sym (ap (λ (n : ℕ). (told_of y.seen).hold.book n) (sym same) ∙ y.is_off)) refl,
                      λ _. (y.whole, sym (form_left y.seen y.low forms.Front y.place y.sort)),
                    ),
                    tt,
                  )
                  (subst (OnlyLooks (added y.seen (item.Made (step.Queue i e))))
                  (sym (y.is ∙ ap (λ (n : ℕ). stored_with y.seen (step.Queue n e)) same))
                  (bit_looks y.seen (step.Queue i e)));
              carries = seconds_on old mid new (own_second old mid o own) (queue_second mid new y.carries);
              entry = e;
              queued = ap (λ (n : ℕ). (told_of new).bits.stored n) (sym same) ∙ y.queued;
              shows = λ never. absurd (cc);
              home = (refl, refl);
            }

    -- no place is left, and its word is looked at once more
    module _ (v : Worn) (mid3 new : Known) (worn : IsFrontWorn mid mid3 v)
        (noted : WasWorn mid3.view.number mid3.view.items v.head v.place) (held3 : IsHolding mid3) (u : Option Entry)
        (own3 : HasSeenSecond mid3 new u) where
      number3 : mid3.view.number ≡ old.view.number
      number3 = ap (λ (k : Known). k.view.number) (form_worn forms.Front mid mid3 v worn).looks.is ∙ own.carries.number

      out3 : (told_of mid3).bits.stored (second_of mid3) ≡ None
      out3 =
          let c = looks_carried mid mid3 (form_worn forms.Front mid mid3 v worn).looks in
          c.out (second_of mid3) refl (ap (λ (n : ℕ). (told_of mid).bits.stored (index n 1)) c.number ∙ second_off)

      no_entry : (g : Option Entry) → u ≡ g → g ≡ None
      no_entry None is = refl
      no_entry (Some e) is =
          let never : None ≡ Some e = sym out3 ∙ second_stored mid3 new u own3 e is in absurd (cc)

      off3 : u ≡ None
      off3 = no_entry u refl

      note_on : WasWorn new.view.number new.view.items v.head v.place
      note_on =
          let x : Item = item.Made (saw mid3.book.head (second_of mid3) own3.word) in
          subst (λ (k : Known). WasWorn k.view.number k.view.items v.head v.place) (sym own3.is)
          (notes_stay mid3.view.number mid3.view.items (x ∷ []) v.head v.place noted)

      pub wears_joined : JoinsHeld w old new (Err v)
      wears_joined =
          let x = form_worn forms.Front mid mid3 v worn in
          let seen3 = whole_seen mid3 x.whole in
          let looks3 = hold_looks mid3 new u own3 held3 in
          let same3 : second_of mid3 ≡ i = ap (λ (n : ℕ). index n 1) number3 in
          record {
            looks = only_on old mid3 new
                (only_on old mid mid3 (second_looks old mid o own old.at held.locked)
                (only_looked mid mid3 x.looks.items x.looks.same x.looks.looks x.looks.is))
                (second_looks mid3 new u own3 mid3.at held3.locked);
            carries = seconds_on old mid3 new
                (seconds_on old mid mid3 (own_second old mid o own) (looks_second mid mid3 x.looks))
                (own_second mid3 new u own3);
            out = ap (λ (n : ℕ). (told_of new).bits.stored n) (sym same3) ∙ (second_is mid3 new u own3 ∙ off3);
            shows = subst (λ (n : ℕ). IsSeenAs ((told_of new).hold.book n) None) same3
                (finds_second mid3 new u own3 mid3.at held3.locked held3.told
                (λ e some. absurd (let never : None ≡ Some e = sym off3 ∙ some in cc)) None off3);
            whole = whole_of new (λ m low. looks3.from.still m (seen3 m low));
            worn = ap (λ q. is_worn forms.Front q) (queue_same new mid3
                (λ m low. looks3.from.places m (seen3 m low))) ∙ x.worn;
            head = x.head ∙ own.carries.at;
            noted = note_on;
          }

-- the head that is held stays
pub held_at : (w : Watch) (a b : Known) (r : Result (Unit {0}) Worn) → JoinsHeld w a b r → b.at ≡ a.at
held_at w a b (Ok u) x = x.carries.at
held_at w a b (Err v) x = x.carries.at

-- in the hold
module _ (w : Watch) (old a : Known) where
  pub joins_home : MayJoinSecond old w → Carries (lock_change (head_of w)) old a
      → IsPart w (kind_for w) ((told_of a).bits.stored (second_of a))
  joins_home may one = subst (IsPart w (kind_for w))
      (sym (ap (λ (n : ℕ). (told_of a).bits.stored (index n 1)) one.number ∙ one.stored (second_of old) refl refl)) may.home

  pub joins_low : Carries (lock_change (head_of w)) old a → head_of w < FIRST_DONE_HEAD → (c : Known) → c.at ≡ a.at
      → OwesNoPermit c
  joins_low one low c same = owes_low c (head_of w) (same ∙ one.at) low

-- the whole add: the lock, what the hold does, and the unlock
module _ (w : Watch) (old a b new : Known) (may : MayJoinSecond old w) (told : IsTold old)
    (l : HasLocked old a (head_of w) (walk_of_hold (head_of w) None)) (one : Carries (lock_change (head_of w)) old a)
  where
    abbrev h : ℕ
    h = head_of w

    abbrev g : Program
    g = join_program old.view.number w

    abbrev turn : Known
    turn = turn_of old a h (walk_of_hold h None) l

    abbrev locked : Known
    locked = at_head h (added turn (item.Made (step.Lock h (walk_of_hold h None) l.found)))

    locks : Runs g old a (next.Go (at.Prepare preparing.Lock)) (next.Go (at.Prepare preparing.Queue))
    locks = runs_lock g (next.Go (at.Prepare preparing.Lock)) (next.Go (at.Prepare preparing.Queue)) old a h l
        (runs_one g (at.Prepare preparing.Lock) old turn locked saw_nothing
        (by_step (step.Lock h (walk_of_hold h None) l.found)) (turn_looks old a h (walk_of_hold h None) l) (refl, refl)
        (tt, tt, tt) (only_none locked))

    module _ (u : HasUnlocked b new false) (three : Carries unlock_change b new) where
      for_number : (from to : Next) → Runs (join_program a.view.number w) a b from to → Runs g a b from to
      for_number from to r = record {
        transitions = r.transitions;
        goes = subst (λ (n : ℕ). Goes (join_program n w) a from r.transitions b to) one.number r.goes;
      }

      second_same : second_of a ≡ second_of old
      second_same = ap (λ (n : ℕ). index n 1) one.number

      at_lock : (b.at ≡ a.at) → b.at ≡ h
      at_lock same = same ∙ one.at

      unlocks : (x : HasJoinedHeld w a b) → Runs g b new (next.Go (joined_at x.still)) (next.Ends zero_answer)
      unlocks x = by x.still refl
        where
          by : (s : Bool) → x.still ≡ s → Runs g b new (next.Go (joined_at s)) (next.Ends zero_answer)
          by true is = runs_one g (at.Prepare preparing.Queue) b b new (finds (Some x.entry))
              (by_step (step.Unlock b.at false)) (only_none b) (at_lock x.carries.at, refl) (
                tt,
                (
                  subst (λ (n : ℕ). IsSeenAs ((told_of b).hold.book n) (Some x.entry)) second_same (x.shows is),
                  λ never. absurd (cc),
                ),
                tt,
              ) (unlock_looks b new u.is)
          by false is = runs_one g (at.Prepare preparing.Unlock) b b new saw_nothing (by_step (step.Unlock b.at false))
              (only_none b) (at_lock x.carries.at, refl) (tt, tt, tt) (unlock_looks b new u.is)

      held_none : (told_of old).hold.head ≡ None
      held_none = told.head ∙ may.free.head

      join_carried : SecondCarries a b → Carries (join_change (second_of old) new.at) old new
      join_carried two =
          let i = second_of old in
          hold_carried (with_entry i) (with_entry i) (only i) true old a b new may.free held_none h one
          (subst (λ (n : ℕ). Carries (part_change n (λ σ. σ)) a b) second_same two) three

      stored_on : (o : Option Entry) → SecondCarries a b → (told_of b).bits.stored (second_of a) ≡ o
          → (told_of new).bits.stored (second_of new) ≡ o
      stored_on o two is = ap (λ (n : ℕ). (told_of new).bits.stored (index n 1)) (three.number ∙ two.number)
          ∙ (three.stored (second_of a) refl refl ∙ is)

      pub join_ends : (r : Result (Unit {0}) Worn) → JoinsHeld w a b r → EndsJoin old new w r
      join_ends (Ok v) x = (
        runs_on g old a new (next.Go (at.Prepare preparing.Lock)) (next.Go (at.Prepare preparing.Queue))
            (next.Ends zero_answer) locks
            (runs_on g a b new (next.Go (at.Prepare preparing.Queue)) (next.Go (joined_at x.still)) (next.Ends zero_answer)
            (for_number (next.Go (at.Prepare preparing.Queue)) (next.Go (joined_at x.still)) x.runs) (unlocks x)),
        record { entry = x.entry; stored = stored_on (Some x.entry) x.carries x.queued; part = x.home },
      )
      join_ends (Err v) x = (
        runs_on g old a new (next.Go (at.Prepare preparing.Lock)) (next.Go (at.Prepare preparing.Queue))
            (next.Ends answer.Worn) locks
            (runs_one g (at.Prepare preparing.Queue) a b new (with_worn true) (by_step (step.Unlock b.at false)) x.looks
            (at_lock x.carries.at, refl) (
              tt,
              (
                subst (λ (n : ℕ). IsSeenAs ((told_of b).hold.book n) None) second_same x.shows,
                λ _. (x.whole, sym x.worn),
              ),
              tt,
            ) (unlock_looks b new u.is)),
        stored_on None x.carries x.out,
        x.head ∙ one.at,
        note_unlocked b new v u.is x.noted,
      )

      pub join_may : (r : Result (Unit {0}) Worn) → JoinsHeld w a b r → MayJoinSecond new w
      join_may (Ok v) x = record {
        up = three.awake ∙ (x.carries.awake ∙ (one.awake ∙ may.up));
        free = u.free;
        home = subst (IsPart w (kind_for w)) (sym (stored_on (Some x.entry) x.carries x.queued)) x.home;
      }
      join_may (Err v) x = record {
        up = three.awake ∙ (x.carries.awake ∙ (one.awake ∙ may.up));
        free = u.free;
        home = subst (IsPart w (kind_for w)) (sym (stored_on None x.carries x.out)) tt;
      }

      pub join_carries : (r : Result (Unit {0}) Worn) → JoinsHeld w a b r
          → Carries (join_change (second_of old) new.at) old new
      join_carries (Ok v) x = join_carried x.carries
      join_carries (Err v) x = join_carried x.carries
