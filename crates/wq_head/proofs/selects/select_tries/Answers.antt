use Rattle.std.proofs.Common.{◌≡◌, ◌<◌, ◌≤◌, ℕ, ap, sym, subst, inl, inr, length, List, arith}
use Rattle.std.proofs.Common.{slice_index_or, refl, true, Result, Ok, Err, IfOk, IfErr, MatchResult}
use Rattle.wait_model.specs.declared.layout.TheConstants.{ENTRIES, FIRST_SIMPLE_HEAD}
use Rattle.wait_model.specs.declared.queues.Member.{Member}
use Rattle.wait_rule.specs.{Known.Known, Shown.shown_queue, declared.tries.FailedTries.FailedTries, Queues.MayRise}
use Rattle.wait_rule.specs.Tried.{IsStarved}
use Rattle.wq_head.specs.{Members.member_of, declared.looks.ShownMember.ShownMember, FoundQueues.IsFoundQueue}
use Rattle.wq_head.specs.{Holds.IsHolding, Looks.Looks, Selecting.HasSelectedSole, Selecting.IsFirstEntry}
use Rattle.wq_head.specs.Selects.{EndsSelection, HasSelected, IsSimpleHold, KeepsHold, ShowsNoEntry}
use Rattle.wq_head.specs.declared.found_queues.FoundQueue.TheVariants as found
use Rattle.wq_head.proofs.{FirstAndLast.below_or, OneMoreLook.looks_on, RousedTasks.rousing_looked}
use Rattle.wq_head.proofs.KeptHolds.{hold_carried, hold_holds, hold_looks, hold_on, hold_simple}
use Rattle.wq_head.proofs.SelectingHold.{InSelection, selection_starts, first_here, passes_mark, takes_entry}
use Rattle.wq_head.proofs.SelectingHold.{selection_is, selection_rises, none_left}
use Rattle.wq_head.proofs.selects.select_tries.Goals as goal

-- where nobody is queued
pub returns-in-Empty : goal.returns-in-Empty
returns-in-Empty c =
    let old = c.args.task.now in
    let new = c.find_queue.new.task in
    let looks = c.find_queue.ensures.looks in
    let found = subst (IsFoundQueue new) c.in-Empty.is c.find_queue.ensures.finds in
    let end : length (shown_queue new) ≤ 0 = let none : length (shown_queue new) ≡ 0 = ap length found.2 in omega
    (arith, none) in
    let start = selection_starts old new c.requires.held
    (subst (λ (h : ℕ). FIRST_SIMPLE_HEAD ≤ h) c.requires.head c.requires.simple) looks found.0 found.1 in
    record {
      selected = selection_is old new new 0 0 start c.args.most
          (inr (none_left old new new 0 0 start end, λ some. omega arith));
      held = hold_holds old new start.keeps c.requires.held;
      hold = start.keeps;
      keeps = hold_simple old new start.keeps;
      rises = λ some. absurd (omega arith);
      carries = hold_carried old new start.keeps;
      rouses = rousing_looked old new c.args.rousing.now looks c.requires.none;
      starved = tt;
    }

-- where one member is alone
module _ (old mid : Known) (s : ShownMember) (held : IsHolding old) (simple : FIRST_SIMPLE_HEAD ≤ old.at)
    (looks : Looks old mid) (sole : IsFoundQueue mid (found.Sole s)) where
  before : InSelection old mid mid 0 0
  before = selection_starts old mid held simple looks sole.0 sole.1

  one : length (shown_queue mid) ≡ 1
  one = ap length sole.2

  inside : 0 < length (shown_queue mid)
  inside = omega (arith, one)

  end : length (shown_queue mid) ≤ 1
  end = omega (arith, one)

  here : member_of s ≡ slice_index_or (shown_queue mid) 0 (member_of s)
  here = subst (λ (q : List Member). member_of s ≡ slice_index_or q 0 (member_of s)) (sym sole.2) refl

  sole_first : s.member < ENTRIES → IsFirstEntry mid s.member
  sole_first low = first_here old mid mid 0 0 before s inside here low

  module _ (new : Known) where
    abbrev Ends : Result ℕ FailedTries → Type 0
    Ends r = MatchResult r (λ (n : ℕ). HasSelectedSole mid new s.member n)
        (λ (failed : FailedTries). IsStarved failed × KeepsHold mid new)

    sole_keeps : (r : Result ℕ FailedTries) → Ends r → KeepsHold old new
    sole_keeps (Ok n) t = elim t [
      | inl mark ↦ subst (KeepsHold old) (sym mark.2) before.keeps
      | inr entry ↦ hold_on old mid new before.keeps entry.2.keeps
    ]
    sole_keeps (Err failed) t = hold_on old mid new before.keeps t.1

    went : (n : ℕ) → HasSelectedSole mid new s.member n → InSelection old new mid 1 n
    went n (inl mark) = subst (λ (k : Known). InSelection old k mid 1 n) (sym mark.2)
        (subst (InSelection old mid mid 1) (sym mark.1) (passes_mark old mid mid 0 0 before s inside here mark.0))
    went n (inr entry) = subst (InSelection old new mid 1) (sym entry.1)
        (takes_entry old mid mid 0 0 before s inside here entry.0 new entry.2)

    ends_by : (most n : ℕ) → n ≤ 1 → ShowsNoEntry new → EndsSelection new most n
    ends_by most n few none = elim (below_or n most) [
      | inl under ↦ inr (none, λ some. under)
      | inr over ↦ elim (below_or 0 most) [
        | inl some ↦ inl ((λ zero_asked. omega (arith, zero_asked, some)), omega (arith, few, over, some))
        | inr all ↦ inr (none, λ some. absurd (some (omega (arith, all))))
      ]
    ]

    sole_selects : (most : ℕ) (r : Result ℕ FailedTries) → Ends r → IfOk r (λ (n : ℕ). HasSelected old new most n)
    sole_selects most (Ok n) t = selection_is old new mid 1 n (went n t) most
        (ends_by most n (went n t).few (none_left old new mid 1 n (went n t) end))
    sole_selects most (Err failed) t = tt

    sole_rises : (r : Result ℕ FailedTries) → Ends r
        → IfOk r (λ (n : ℕ). 0 < n → IsSimpleHold old → MayRise new true)
    sole_rises (Ok n) t = λ some was. selection_rises old new mid 1 n (went n t) some
        (hold_simple old new (went n t).keeps was)
    sole_rises (Err failed) t = tt

    sole_starves : (r : Result ℕ FailedTries) → Ends r → IfErr r (λ (failed : FailedTries). IsStarved failed)
    sole_starves (Ok n) t = tt
    sole_starves (Err failed) t = t.0

pub take_sole-requires-clause-first : goal.take_sole-requires-clause-first
take_sole-requires-clause-first c low = sole_first c.args.task.now c.find_queue.new.task c.in-Sole.stand c.requires.held
    (subst (λ (h : ℕ). FIRST_SIMPLE_HEAD ≤ h) c.requires.head c.requires.simple) c.in-Sole.ensures.looks
    c.in-Sole.ensures.finds low

pub returns-in-Sole : goal.returns-in-Sole
returns-in-Sole c =
    let old = c.args.task.now in
    let mid = c.find_queue.new.task in
    let new = c.take_sole.new.task in
    let s = c.in-Sole.stand in
    let simple = subst (λ (h : ℕ). FIRST_SIMPLE_HEAD ≤ h) c.requires.head c.requires.simple in
    let looks = c.in-Sole.ensures.looks in
    let sole = c.in-Sole.ensures.finds in
    let r = c.take_sole.result in
    let t = c.take_sole.ensures.taken in
    let keeps = sole_keeps old mid s c.requires.held simple looks sole new r t in
    record {
      selected = sole_selects old mid s c.requires.held simple looks sole new c.args.most r t;
      held = hold_holds old new keeps c.requires.held;
      hold = keeps;
      keeps = hold_simple old new keeps;
      rises = sole_rises old mid s c.requires.held simple looks sole new r t;
      carries = hold_carried old new keeps;
      rouses = c.take_sole.ensures.rouses old (rousing_looked old mid c.args.rousing.now looks c.requires.none);
      starved = sole_starves old mid s c.requires.held simple looks sole new r t;
    }

-- where several are
module _ (old mid : Known) (looks : Looks old mid) (new : Known) where
  several_selects : (most : ℕ) (r : Result ℕ FailedTries) → IfOk r (λ (n : ℕ). HasSelected mid new most n)
      → IfOk r (λ (n : ℕ). HasSelected old new most n)
  several_selects most (Ok n) s = record {
    seen = s.seen;
    looks = looks_on old mid s.seen looks s.looks;
    selects = s.selects;
    whole = s.whole;
    ends = s.ends;
  }
  several_selects most (Err failed) s = tt

  several_rises : (r : Result ℕ FailedTries) → IfOk r (λ (n : ℕ). 0 < n → IsSimpleHold mid → MayRise new true)
      → IfOk r (λ (n : ℕ). 0 < n → IsSimpleHold old → MayRise new true)
  several_rises (Ok n) s = λ some was. s some (hold_simple old mid (hold_looks old mid looks) was)
  several_rises (Err failed) s = tt

pub returns-in-Several : goal.returns-in-Several
returns-in-Several c =
    let old = c.args.task.now in
    let mid = c.find_queue.new.task in
    let new = c.select_several.new.task in
    let looks = c.in-Several.ensures.looks in
    let s = c.select_several.ensures in
    let keeps = hold_on old mid new (hold_looks old mid looks) s.hold in
    record {
      selected = several_selects old mid looks new c.args.most c.select_several.result s.selected;
      held = hold_holds old new keeps c.requires.held;
      hold = keeps;
      keeps = hold_simple old new keeps;
      rises = several_rises old mid looks new c.select_several.result s.rises;
      carries = hold_carried old new keeps;
      rouses = s.rouses old (rousing_looked old mid c.args.rousing.now looks c.requires.none);
      starved = s.starved;
    }
