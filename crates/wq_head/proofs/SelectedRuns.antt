-- Selections as transitions of the program of a call, from its lock to its last unlock.
use Rattle.std.proofs.Common.{◌∙◌, ap, sym, refl, subst, inl, inr, eqb-true, eq-eqb, arith}
use Rattle.std.proofs.lemmas.Bool.{and_right}
use Rattle.std.proofs.lemmas.Bool.Decides.{nat_tests}
use Rattle.std.specs.Prelude.{ℕ, zero, suc, ◌+◌, ◌≡◌, ◌≢◌, ◌<◌, ◌≤◌, ◌==◌, ◌&&◌, not, if◌then◌else◌}
use Rattle.std.specs.Prelude.{Bool, true, false, Option, Some, None, List, [], ◌∷◌, ◌++◌}
use Rattle.wait_model.specs.{declared.layout.TheConstants.MEMBERS, declared.layout.TheConstants.FIRST_SIMPLE_HEAD}
use Rattle.wait_model.specs.{declared.calls.Call.Call, declared.points.Planned.Planned, declared.points.Seen.Seen}
use Rattle.wait_model.specs.{declared.points.Next.Next, declared.queues.CalledEntry.CalledEntry}
use Rattle.wait_model.specs.{declared.queues.Member.Member, declared.watches.Entry.Entry, Queues.is_entry}
use Rattle.wait_model.specs.{Queues.entry_from, Tasks.meets, Tasks.task_of, Watches.mask_of, Watches.owner}
use Rattle.wait_model.specs.Points.{call_head, call_watch, count_of, mode_of}
use Rattle.wait_model.specs.Programs.{go, is_enough, program, select_ends, select_from, select_next, selected_answer}
use Rattle.wait_model.specs.Runs.{called_as, called_by, called_of}
use Rattle.wait_model.specs.declared.calls.Event.TheVariants as event
use Rattle.wait_model.specs.declared.points.Point.TheVariants as at
use Rattle.wait_model.specs.declared.points.SelectPoint.TheVariants as selecting
use Rattle.wait_model.specs.declared.points.Next.TheVariants as next
use Rattle.wait_model.specs.declared.steps.Step.TheVariants as step
use Rattle.wait_model.specs.declared.watches.Mode.TheVariants as mode
use Rattle.wait_model.proofs.QueueLaws.QueueOrder.{IsFirstFrom, first_is}
use Rattle.wait_rule.specs.declared.journal.Item.TheVariants as item
use Rattle.wait_rule.specs.{Known.Known, Says.added, Says.unlocked_with}
use Rattle.wait_rule.specs.Queues.{IsWholeBook, IsWalkOfCall, simple_watch, walk_of_hold}
use Rattle.wait_rule.specs.Shown.{shown_entry, shown_queue, queue_below}
use Rattle.wait_rule.specs.Transitions.{Program, Transition, OnlyLooks, Goes, IsMadeFor, IsTransition, by_step}
use Rattle.wait_rule.specs.Transitions.{after_transition, call_program}
use Rattle.wait_rule.proofs.{KnownLaws.MemberBits.bit_looks, KnownLaws.Turns.serve_looks}
use Rattle.wait_rule.proofs.KnownLaws.Transitions.{only_none, goes_on, looks_first}
use Rattle.wq_head.specs.Holds.{HasLocked}
use Rattle.wq_head.specs.Selects.{SelectsFirst, SelectsMany, HasSelected, EndsSelection, simple_aim}
use Rattle.wq_head.proofs.{EntryWakes.blank_seen, LockWaits.turn_of, LockWaits.turn_looks, LookingHold.looks_only}
use Rattle.wq_head.proofs.{MemberStands.entry_shown, ShownMembers.place_same, ShownQueue.queue_in_order}
use Rattle.wq_head.proofs.{ShownQueue.queue_has, SimpleEntries.walk_is_simple}
use Rattle.wq_head.proofs.FirstEntries.{no_entry, wake_book, wake_notes}

-- as many as a call selects
not_enough : (n most : ℕ) → (most ≢ 0 → n < most) → (not (n == 0) && (n == most)) ≡ false
not_enough n most fewer = by (n == most) refl (n == 0) refl
  where
    by : (b : Bool) → (n == most) ≡ b → (z : Bool) → (n == 0) ≡ z → (not z && b) ≡ false
    by false other z is = and_right (not z) false refl
    by true same true is = refl
    by true same false is =
        let all = eqb-true n most same in
        let few = fewer (λ none. let z : n ≡ 0 = all ∙ none in
        let y : true ≡ false = sym (eq-eqb n 0 z) ∙ is in absurd (cc)) in
        absurd (omega (arith, all, few))

enough : (n most : ℕ) → most ≢ 0 → n ≡ most → (not (n == 0) && (n == most)) ≡ true
enough n most some all = by (n == 0) refl
  where
    by : (z : Bool) → (n == 0) ≡ z → (not z && (n == most)) ≡ true
    by true is = absurd (some (sym all ∙ eqb-true n 0 is))
    by false is = eq-eqb n most all

module _ (me slot : ℕ) (call : Call) where
  abbrev f : Program
  f = call_program me slot call

  abbrev pub at_next : ℕ → Next
  at_next n = next.Go (at.Select (selecting.Next n))

  -- one selection
  module _ (old new : Known) (s : SelectsFirst old new) (n : ℕ) (more : is_enough call n ≡ false) where
    abbrev x : ℕ
    x = s.member.at

    first : IsFirstFrom is_entry 0 (shown_queue s.seen) (Some s.member)
    first = subst (IsFirstFrom is_entry 0 (shown_queue s.seen)) s.first
        (first_is is_entry 0 (shown_queue s.seen) (queue_in_order s.seen))

    found : (e : Entry) × (shown_entry s.seen x ≡ Some e) × (e.place ≡ s.member.place)
    found = let is = first.1 in entry_shown s.seen x s.member.place (grind (arith, nat_tests))
        (queue_has s.seen s.member first.0).1

    abbrev c : CalledEntry
    c = called_of (owner x) found.0

    abbrev hit : Bool
    hit = meets (mask_of mode.Normal) (task_of s.found).state

    abbrev finds_it : Seen
    finds_it = record (blank_seen (task_of s.found)) { called = Some c }

    abbrev wakes : Planned
    wakes = go (event.Wake (owner x) hit) (at.Select (selecting.Off (n + 1) (owner x)))

    planned : program me call (at.Select (selecting.Next n)) finds_it ≡ wakes
    planned = ap (λ (b : Bool). if b then select_ends call n true else select_next call n (Some c) hit) more

    abbrev woke : Known
    woke = added s.seen (item.Made (step.Wake (owner x) (mask_of mode.Normal) s.found))

    abbrev wake_transition : Transition
    wake_transition = record {
      seen = finds_it;
      knew = s.seen;
      did = by_step (step.Wake (owner x) (mask_of mode.Normal) s.found);
    }

    wake_is : IsTransition f (at.Select (selecting.Next n)) old wake_transition
    wake_is = record {
      looks = looks_only (simple_aim old.at) old s.seen s.looks;
      is = subst (λ (p : Planned). IsMadeFor s.seen f.own (f.given (at.Select (selecting.Next n))) p.event
          (by_step (step.Wake (owner x) (mask_of mode.Normal) s.found))) (sym planned) (refl, refl);
      finds = (
        refl,
        (s.whole, sym (ap (called_by (shown_entry s.seen)) s.first ∙ ap (called_as (owner x)) found.1)),
        tt,
      );
    }

    abbrev off_transition : Transition
    off_transition = record { seen = blank_seen (task_of 0); knew = woke; did = by_step (step.Unqueue x) }

    still_first : entry_from 0 (shown_queue woke) ≡ Some s.member
    unfolding shown_queue
    still_first = (λ i. entry_from 0 (queue_below (λ m. place_same s.seen woke
        (wake_book s.seen (owner x) (mask_of mode.Normal) s.found)
        (wake_notes s.seen (owner x) (mask_of mode.Normal) s.found) refl m i) MEMBERS)) ∙ s.first

    off_is : IsTransition f (at.Select (selecting.Off (n + 1) (owner x))) woke off_transition
    off_is = record { looks = only_none woke; is = refl; finds = (tt, tt, (s.member, still_first, refl)) }

    behind : OnlyLooks (added woke (item.Made (step.Unqueue x))) new
    behind = subst (OnlyLooks (added woke (item.Made (step.Unqueue x)))) (sym s.is) (bit_looks woke (step.Unqueue x))

    one_goes : Goes f old (at_next n) (wake_transition ∷ off_transition ∷ []) new (at_next (n + 1))
    one_goes = (
      wake_is,
      subst (λ (m : Next). Goes f woke m (off_transition ∷ []) new (at_next (n + 1)))
          (sym (ap (λ (p : Planned). p.next) planned)) (off_is, (behind, refl)),
    )

  -- so many selections
  pub selects_go : (most : ℕ) → count_of call ≡ most → (old new : Known) (n : ℕ) → SelectsMany old n new
      → (most ≢ 0 → n ≤ most) → (ts : List Transition) × Goes f old (at_next 0) ts new (at_next n)
  selects_go most counts old new zero is few = ([], (subst (OnlyLooks old) (sym is) (only_none old), refl))
  selects_go most counts old new (suc n) s few =
      let less = few_less in
      let before = selects_go most counts old s.0 n s.1 (λ some. let l = few some in omega (arith, l)) in
      let last = one_goes s.0 new s.2 n more in (
        before.0 ++ wake_transition s.0 new s.2 n more ∷ off_transition s.0 new s.2 n more ∷ [],
        subst (λ (m : ℕ). Goes f old (at_next 0) (before.0 ++ wake_transition s.0 new s.2 n more
            ∷ off_transition s.0 new s.2 n more ∷ []) new (at_next m)) (let e : n + 1 ≡ suc n = omega arith in e)
            (goes_on f old s.0 new (at_next 0) (at_next n) (at_next (n + 1)) before.0
            (wake_transition s.0 new s.2 n more ∷ off_transition s.0 new s.2 n more ∷ []) before.1 last),
      )
    where
      few_less : most ≢ 0 → n < most
      few_less some = let l = few some in omega (arith, l)

      more : is_enough call n ≡ false
      more = ap (λ (m : ℕ). not (n == 0) && (n == m)) counts ∙ not_enough n most few_less

  -- as many as were asked for: then the next event is the unlock
  module _ (most n : ℕ) (counts : count_of call ≡ most) (new : Known) (ends : EndsSelection new most n) where
    at_most : most ≢ 0 → n ≤ most
    at_most some = elim ends [
      | inl all ↦ let e = all.1 in omega (arith, e)
      | inr none ↦ let l = none.1 some in omega (arith, l)
    ]

    abbrev finds_none : Seen
    finds_none = record (blank_seen (task_of 0)) {
      called = called_by (shown_entry new) (entry_from 0 (shown_queue new));
    }

    ended : (b : Bool) → is_enough call n ≡ b → program me call (at.Select (selecting.Next n)) finds_none
        ≡ select_ends call n b
    ended true is = ap (λ (b : Bool). if b then select_ends call n true
        else select_next call n finds_none.called (meets (mask_of mode.Normal) finds_none.other.state)) is
    ended false is = elim ends [
      | inl all ↦
          let yes = ap (λ (m : ℕ). not (n == 0) && (n == m)) counts ∙ enough n most all.0 all.1 in
          let z : true ≡ false = sym yes ∙ is in
          absurd (cc)
      | inr none ↦ ap (λ (b : Bool). if b then select_ends call n true
          else select_next call n finds_none.called (meets (mask_of mode.Normal) finds_none.other.state)) is
          ∙ ap (λ (o : Option Member). select_next call n (called_by (shown_entry new) o)
          (meets (mask_of mode.Normal) finds_none.other.state)) (no_entry new none.0)
    ]

    abbrev end_transition : Bool → Transition
    end_transition b = record { seen = finds_none; knew = new; did = by_step (step.Unlock new.at b) }

    end_goes : (b : Bool) → is_enough call n ≡ b → IsWholeBook new → new.at ≡ call_head call
        → Goes f new (at_next n) (end_transition b ∷ []) (unlocked_with new new.at b)
        (next.Ends (selected_answer call n))
    end_goes b is whole here = (
      record {
        looks = only_none new;
        is = subst (λ (p : Planned). IsMadeFor new f.own (f.given (at.Select (selecting.Next n))) p.event
            (by_step (step.Unlock new.at b))) (sym (ended b is)) (here, refl);
        finds = (tt, (whole, refl), tt);
      },
      subst (λ (m : Next). Goes f (added new (item.Made (step.Unlock new.at b))) m [] (unlocked_with new new.at b)
          (next.Ends (selected_answer call n))) (sym (ap (λ (p : Planned). p.next) (ended b is)))
          (serve_looks new new.at b, refl),
    )

  -- a selection, and the unlock after it
  pub selected_goes : (most n : ℕ) → count_of call ≡ most → (old new : Known) → HasSelected old new most n
      → (ts : List Transition) × Goes f old (at_next 0) ts new (at_next n)
  selected_goes most n counts old new s =
      let g = selects_go most counts s.seen new n s.selects (at_most most n counts new s.ends) in (
        g.0,
        looks_first f old s.seen new (at_next 0) (at_next n) g.0
            (looks_only (simple_aim old.at) old s.seen s.looks) g.1,
      )

  pub selected_ends : (most n : ℕ) → count_of call ≡ most → (old new out : Known) → HasSelected old new most n
      → new.at ≡ call_head call → (b : Bool) → is_enough call n ≡ b → out ≡ unlocked_with new new.at b
      → (ts : List Transition) × Goes f old (at_next 0) ts out (next.Ends (selected_answer call n))
  selected_ends most n counts old new out s here b is end =
      let g = selected_goes most n counts old new s in (
        g.0 ++ end_transition most n counts new s.ends b ∷ [],
        subst (λ (k : Known). Goes f old (at_next 0) (g.0 ++ end_transition most n counts new s.ends b ∷ []) k
            (next.Ends (selected_answer call n))) (sym end)
            (goes_on f old new (unlocked_with new new.at b) (at_next 0) (at_next n)
            (next.Ends (selected_answer call n)) g.0 (end_transition most n counts new s.ends b ∷ []) g.1
            (end_goes most n counts new s.ends b is s.whole here)),
      )

  -- the lock before it
  module _ (old new : Known) (h : ℕ) (l : HasLocked old new h (walk_of_hold h None)) (high : FIRST_SIMPLE_HEAD ≤ h)
      (own : simple_watch h ≡ call_watch call) (normal : mode_of call ≡ mode.Normal) (here : h ≡ call_head call) where
    abbrev pub lock_transition : Transition
    lock_transition = record {
      seen = blank_seen (task_of 0);
      knew = turn_of old new h (walk_of_hold h None) l;
      did = by_step (step.Lock h (walk_of_hold h None) l.found);
    }

    recorded : IsWalkOfCall h (walk_of_hold h None)
        (Some (record { watch = call_watch call; mode = mode_of call; count = count_of call }))
    recorded = (simple_aim h, walk_is_simple h high, own, sym normal, λ low. absurd (omega (arith, low, high)))

    pub lock_goes : Goes f old (next.Go (at.Select selecting.Lock)) (lock_transition ∷ []) new
        (next.Go (at.Select (select_from call)))
    lock_goes = (
      record {
        looks = turn_looks old new h (walk_of_hold h None) l;
        is = (
          here,
          subst (λ (g : ℕ). IsWalkOfCall g (walk_of_hold h None) (Some (record {
            watch = call_watch call;
            mode = mode_of call;
            count = count_of call;
          }))) here recorded,
        );
        finds = (tt, tt, tt);
      },
      (
        subst (OnlyLooks (after_transition lock_transition)) (sym l.is) (only_none (after_transition lock_transition)),
        refl,
      ),
    )
