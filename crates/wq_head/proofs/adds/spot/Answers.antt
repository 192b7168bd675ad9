use Rattle.std.proofs.Common.{IfErr, IfOk, refl, subst, sym}
use Rattle.wait_model.specs.declared.layout.TheConstants.{ENTRIES, FIRST_PLACE, FIRST_PRIORITY, MEMBERS, MIDDLE, PLACES}
use Rattle.wait_model.specs.declared.queues.Form.{Form}
use Rattle.wait_model.specs.Places.{front_for, priority_for, tail_for}
use Rattle.wait_rule.specs.Queues.{IsHighest, IsLowest}
use Rattle.wq_head.specs.Adds.{IsFormPlace, IsFormWorn}
use Rattle.wq_head.proofs.AddedEntries.{highest_of, lowest_of, prior_of, spot_found, spot_worn}
use Rattle.wq_head.proofs.adds.spot.Goals as goal

pub returns-in-Front-clause-place : goal.returns-in-Front-clause-place
returns-in-Front-clause-place c =
    let k = c.survey-ends.new.task in
    subst (λ (f : Form). IfOk c.left.result (λ p. IsFormPlace f k p)) (sym c.in-Front.is)
    (spot_found (IsLowest k MEMBERS MIDDLE PLACES) front_for _ _ _
    (lowest_of k MIDDLE PLACES c.survey-ends.result.first c.survey-ends.ensures.first)
    c.first_place-lowest.ensures c.front_place.ensures c.left.result c.left.ensures.place)

pub returns-in-Tail-clause-place : goal.returns-in-Tail-clause-place
returns-in-Tail-clause-place c =
    let k = c.survey-ends-in-Tail.new.task in
    subst (λ (f : Form). IfOk c.left-in-Tail.result (λ p. IsFormPlace f k p)) (sym c.in-Tail.is)
    (spot_found (IsHighest k MEMBERS MIDDLE PLACES) tail_for _ _ _
    (highest_of k MIDDLE PLACES c.survey-ends-in-Tail.result.last c.survey-ends-in-Tail.ensures.last)
    c.last_place-highest.ensures c.tail_place.ensures c.left-in-Tail.result c.left-in-Tail.ensures.place)

pub returns-in-Tail-clause-worn : goal.returns-in-Tail-clause-worn
returns-in-Tail-clause-worn c =
    let k = c.survey-ends-in-Tail.new.task in
    let s = c.survey-ends-in-Tail.ensures in
    let l = c.left-in-Tail.ensures in
    subst (λ (f : Form). IfErr c.left-in-Tail.result (λ w. IsFormWorn f c.args.task.now k w)) (sym c.in-Tail.is)
    (spot_worn (IsHighest k MEMBERS MIDDLE PLACES) tail_for _ _ _
    (highest_of k MIDDLE PLACES c.survey-ends-in-Tail.result.last s.last) c.last_place-highest.ensures c.tail_place.ensures
    c.left-in-Tail.result FIRST_PLACE refl c.args.task.now k c.args.head c.requires.head s.looks s.whole s.below l.none l.head
    l.end)

pub returns-in-Priority-clause-place : goal.returns-in-Priority-clause-place
returns-in-Priority-clause-place c =
    let k = c.survey-ends-in-Priority.new.task in
    subst (λ (f : Form). IfOk c.left-in-Priority.result (λ p. IsFormPlace f k p)) (sym c.in-Priority.is)
    (spot_found (IsHighest k ENTRIES 0 MIDDLE) priority_for _ _ _
    (prior_of k c.survey-ends-in-Priority.ensures.stands c.survey-ends-in-Priority.result.last c.survey-ends-in-Priority.ensures.last)
    c.last_place-last.ensures c.priority_place.ensures c.left-in-Priority.result c.left-in-Priority.ensures.place)

pub returns-in-Priority-clause-worn : goal.returns-in-Priority-clause-worn
returns-in-Priority-clause-worn c =
    let k = c.survey-ends-in-Priority.new.task in
    let s = c.survey-ends-in-Priority.ensures in
    let l = c.left-in-Priority.ensures in
    subst (λ (f : Form). IfErr c.left-in-Priority.result (λ w. IsFormWorn f c.args.task.now k w)) (sym c.in-Priority.is)
    (spot_worn (IsHighest k ENTRIES 0 MIDDLE) priority_for _ _ _
    (prior_of k c.survey-ends-in-Priority.ensures.stands c.survey-ends-in-Priority.result.last s.last) c.last_place-last.ensures c.priority_place.ensures
    c.left-in-Priority.result FIRST_PRIORITY refl c.args.task.now k c.args.head c.requires.head s.looks s.whole s.below l.none l.head
    l.end)
