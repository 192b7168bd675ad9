use Rattle.std.proofs.Common.{◌≡◌, ◌+◌, ◌<◌, ◌≤◌, ◌∙◌, ℕ, ap, sym, subst, inr, length, List, arith, slice_index_or}
use Rattle.std.proofs.lemmas.List.{length-map}
use Rattle.wait_model.specs.{declared.layout.TheConstants.FIRST_SIMPLE_HEAD, declared.queues.Member.Member}
use Rattle.wait_rule.specs.{Known.Known, Shown.shown_queue}
use Rattle.wq_head.specs.{declared.rousing.Rousing.Rousing, Lists.members_in, Lists.stand_in, Members.member_of}
use Rattle.wq_head.specs.{Roused.IsRousing, Roused.tasks_in}
use Rattle.wq_head.proofs.{KeptHolds.hold_on, KeptHolds.hold_simple, RousedTasks.none_looked, RousedTasks.rousing_on}
use Rattle.wq_head.proofs.selects.select_several.Goals.{then-stand-lt-ENTRIES+in_ok-take_first+else-selected-most}
use Rattle.wq_head.proofs.selects.select_several.Goals.{else-stand-lt-ENTRIES}
use Rattle.wq_head.proofs.SelectingHold.{InSelection, selection_starts, first_here, passes_mark, takes_entry}
use Rattle.wq_head.proofs.SelectingHold.{selection_is, selection_rises, none_left, queue_few}
use Rattle.wq_head.proofs.selects.select_several.Goals as goal

pub loop-i-init : goal.loop-i-init
loop-i-init c =
    let l = c.members.ensures in
    let old = c.args.task.now in
    let new = c.members.new.task in (
      new,
      l.queue,
      selection_starts old new c.requires.held
          (subst (λ (h : ℕ). FIRST_SIMPLE_HEAD ≤ h) c.requires.head c.requires.simple) l.looks l.whole l.stands,
      λ some. omega arith,
      λ start told. rousing_on start old new c.args.rousing.now (none_looked old new l.looks) told,
      (let none = ap length c.requires.none in omega (arith, none)),
    )

pub overflow_add-selected : goal.overflow_add-selected
overflow_add-selected c =
    let i = c.loop-i.invariant in
    let inside = ap length (sym i.1) ∙ length-map (members_in c.members.new.into) stand_in in
    let few = i.2.few in
    let all = queue_few i.0 in
    omega (arith, few, all, inside, c.loop-i-test.true, c.len-i-end.ensures)

pub take_first-requires-clause-first : goal.take_first-requires-clause-first
take_first-requires-clause-first c =
    let i = c.loop-i.invariant in
    let inside = ap length (sym i.1) ∙ length-map (members_in c.members.new.into) stand_in in
    first_here c.args.task.now c.loop-i.task i.0 c.loop-i.i c.loop-i.selected i.2 c.stand-stand.result
    (omega (arith, inside, c.loop-i-test.true, c.len-i-end.ensures))
    (subst (λ (q : List Member). member_of c.stand-stand.result ≡ slice_index_or q c.loop-i.i
    (member_of c.stand-stand.result)) i.1 c.stand-stand.ensures) c.if-stand-lt-ENTRIES.true

pub loop-i-preserved : goal.loop-i-preserved
loop-i-preserved c =
    let i = c.loop-i.invariant in
    let inside = ap length (sym i.1) ∙ length-map (members_in c.members.new.into) stand_in in
    let in_queue : c.loop-i.i < length (shown_queue i.0) =
    omega (arith, inside, c.loop-i-test.true, c.len-i-end.ensures) in
    let here = subst (λ (q : List Member). member_of c.stand-stand.result ≡ slice_index_or q c.loop-i.i
    (member_of c.stand-stand.result)) i.1 c.stand-stand.ensures in
    let set = λ (t : Known) (n : ℕ) (at : c.if-stand-lt-ENTRIES.task ≡ t) (by : c.if-stand-lt-ENTRIES.selected ≡ n)
    (h : InSelection c.args.task.now t i.0 (c.loop-i.i + 1) n).
    subst (λ (k : Known). InSelection c.args.task.now k i.0 (c.loop-i.i + 1) c.if-stand-lt-ENTRIES.selected)
    (sym at) (subst (λ (m : ℕ). InSelection c.args.task.now t i.0 (c.loop-i.i + 1) m) (sym by) h) in
    let told = λ (t : Known) (r : Rousing) (at : c.if-stand-lt-ENTRIES.task ≡ t)
    (by : c.if-stand-lt-ENTRIES.rousing ≡ r) (start : Known) (h : IsRousing start t r).
    subst (λ (k : Known). IsRousing start k c.if-stand-lt-ENTRIES.rousing) (sym at)
    (subst (λ (q : Rousing). IsRousing start t q) (sym by) h) in (
      i.0,
      i.1,
      elim c.if-stand-lt-ENTRIES.branch [
        | then-stand-lt-ENTRIES+in_ok-take_first+else-selected-most w ↦
            set w.take_first.new.task (c.loop-i.selected + 1) w.task-is w.selected-is
            (takes_entry c.args.task.now c.loop-i.task i.0 c.loop-i.i c.loop-i.selected i.2 c.stand-stand.result
            in_queue here w.if-stand-lt-ENTRIES.true w.take_first.new.task w.in_ok-take_first.ensures.taken)
        | else-stand-lt-ENTRIES w ↦
            set c.loop-i.task c.loop-i.selected w.task-is w.selected-is
            (passes_mark c.args.task.now c.loop-i.task i.0 c.loop-i.i c.loop-i.selected i.2 c.stand-stand.result
            in_queue here (omega (arith, w.if-stand-lt-ENTRIES.false)))
      ],
      elim c.if-stand-lt-ENTRIES.branch [
        | then-stand-lt-ENTRIES+in_ok-take_first+else-selected-most w ↦ λ some.
            let was = i.3 some in omega (arith, was, w.if-selected-most.false, w.selected-is)
        | else-stand-lt-ENTRIES w ↦ λ some. let was = i.3 some in omega (arith, was, w.selected-is)
      ],
      elim c.if-stand-lt-ENTRIES.branch [
        | then-stand-lt-ENTRIES+in_ok-take_first+else-selected-most w ↦ λ start was. told w.take_first.new.task
            w.take_first.new.rousing w.task-is w.rousing-is start (w.take_first.ensures.rouses.tells start (i.4 start was))
        | else-stand-lt-ENTRIES w ↦ λ start was. told c.loop-i.task c.loop-i.rousing w.task-is w.rousing-is start
            (i.4 start was)
      ],
      elim c.if-stand-lt-ENTRIES.branch [
        | then-stand-lt-ENTRIES+in_ok-take_first+else-selected-most w ↦
            let was = i.5 in
            let more = w.take_first.ensures.rouses.room in
            let by = ap (λ (r : Rousing). length (tasks_in r)) w.rousing-is in
            omega (arith, was, more, by, w.selected-is)
        | else-stand-lt-ENTRIES w ↦
            let was = i.5 in
            let by = ap (λ (r : Rousing). length (tasks_in r)) w.rousing-is in
            omega (arith, was, by, w.selected-is)
      ],
    )

pub returns-then-selected-most-clause-rises : goal.returns-then-selected-most-clause-rises
returns-then-selected-most-clause-rises c =
    let i = c.loop-i.invariant in
    let inside = ap length (sym i.1) ∙ length-map (members_in c.members.new.into) stand_in in
    let in_queue : c.loop-i.i < length (shown_queue i.0) =
    omega (arith, inside, c.loop-i-test.true, c.len-i-end.ensures) in
    let here = subst (λ (q : List Member). member_of c.stand-stand.result ≡ slice_index_or q c.loop-i.i
    (member_of c.stand-stand.result)) i.1 c.stand-stand.ensures in
    let h = takes_entry c.args.task.now c.loop-i.task i.0 c.loop-i.i c.loop-i.selected i.2 c.stand-stand.result
    in_queue here c.if-stand-lt-ENTRIES.true c.take_first.new.task c.in_ok-take_first.ensures.taken in
    λ some simple. selection_rises c.args.task.now c.take_first.new.task i.0 (c.loop-i.i + 1) (c.loop-i.selected + 1) h
    some (hold_simple c.args.task.now c.take_first.new.task h.keeps simple)

pub returns-clause-selected : goal.returns-clause-selected
returns-clause-selected c =
    let i = c.loop-i.invariant in
    let inside = ap length (sym i.1) ∙ length-map (members_in c.members.new.into) stand_in in
    selection_is c.args.task.now c.loop-i.task i.0 c.loop-i.i c.loop-i.selected i.2 c.args.most
    (inr (
      none_left c.args.task.now c.loop-i.task i.0 c.loop-i.i c.loop-i.selected i.2
          (omega (arith, inside, c.loop-i-test.false, c.len-i-end.ensures)),
      i.3,
    ))

pub returns-clause-rises : goal.returns-clause-rises
returns-clause-rises c = λ some simple.
    let i = c.loop-i.invariant in
    selection_rises c.args.task.now c.loop-i.task i.0 c.loop-i.i c.loop-i.selected i.2 some
    (hold_simple c.args.task.now c.loop-i.task i.2.keeps simple)

pub returns-then-selected-most-clause-hold : goal.returns-then-selected-most-clause-hold
returns-then-selected-most-clause-hold c = hold_on c.args.task.now c.loop-i.task c.take_first.new.task
    c.loop-i.invariant.2.keeps c.in_ok-take_first.ensures.taken.keeps

-- whom it is to rouse
pub take_first-requires-clause-room : goal.take_first-requires-clause-room
take_first-requires-clause-room c =
    let i = c.loop-i.invariant in
    let inside = ap length (sym i.1) ∙ length-map (members_in c.members.new.into) stand_in in
    let few = i.2.few in
    let room = i.5 in
    let all = queue_few i.0 in
    omega (arith, few, room, all, inside, c.loop-i-test.true, c.len-i-end.ensures)
