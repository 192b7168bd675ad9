use Rattle.std.proofs.Common.{◌∙◌, ◌≡◌, ◌+◌, ap, sym, refl, subst, inl}
use Rattle.std.proofs.Common.{inr, length, slice_index_or, List, ◌<◌, ◌≤◌, arith}
use Rattle.wait_model.specs.{declared.layout.TheConstants.ENTRIES, declared.layout.TheConstants.BREAK}
use Rattle.wait_model.specs.{declared.queues.Member.Member, declared.queues.Walking.Walking}
use Rattle.wait_rule.specs.{Known.Known, Shown.shown_queue}
use Rattle.wq_head.specs.{declared.rousing.Rousing.Rousing, Members.member_of, Walking.HoldKeeps, Walking.IsHoldOver}
use Rattle.wq_head.proofs.CallingHold.{hold_starts, seen_next, next_here, hold_passes, hold_on, hold_halts}
use Rattle.wq_head.proofs.CallingHold.{hold_spends, hold_breaks, hold_ends, hold_empty}
use Rattle.wq_head.proofs.GoneOver.{GoesOver}
use Rattle.wq_head.proofs.walks.walk_queue.Goals as goal
use Rattle.wq_head.proofs.walks.walk_queue.Goals.{then-walk-stand+else-walk-gt-BREAK+then-stand-lt-ENTRIES+in-Ok+else-walk}
use Rattle.wq_head.proofs.walks.walk_queue.Goals.{then-walk-stand+else-walk-gt-BREAK+else-stand-lt-ENTRIES}
use Rattle.wq_head.proofs.walks.walk_queue.Goals.{else-walk-stand}

pub loop-i-init : goal.loop-i-init
loop-i-init c =
    let q = c.requires.queue in
    let none = ap length c.requires.none in
    let few = c.requires.calls in (
      λ start is looks. hold_starts c.args.aim c.requires.full start c.args.task.now c.args.walk c.requires.calls
          c.requires.going is looks q.whole q.stands,
      λ start told. told,
      omega (arith, none, few),
      refl,
    )

pub call_next-requires-clause-calling : goal.call_next-requires-clause-calling
call_next-requires-clause-calling c =
    let x = c.requires.starting in
    (c.loop-i.invariant.0 x.0 x.1 x.2).calling

pub call_next-requires-clause-going : goal.call_next-requires-clause-going
call_next-requires-clause-going c =
    let x = c.requires.starting in
    (c.loop-i.invariant.0 x.0 x.1 x.2).going

pub returns-in-Err-clause-walks : goal.returns-in-Err-clause-walks
returns-in-Err-clause-walks c start is looks =
    let new = c.call_next.new.task in
    let h = hold_halts c.args.aim c.requires.full start c.loop-i.task c.args.walk c.loop-i.walk c.args.task.now c.loop-i.i
    (c.loop-i.invariant.0 start is looks) new c.in-Err.why c.in-Err.ensures.halts in (
      subst (HoldKeeps c.args.aim start new) (sym c.halted.ensures) h.0,
      subst (IsHoldOver c.args.aim start new c.args.walk) (sym c.halted.ensures) h.1,
    )

pub returns-then-walk-gt-BREAK-clause-walks : goal.returns-then-walk-gt-BREAK-clause-walks
returns-then-walk-gt-BREAK-clause-walks c start is looks =
    let i = c.loop-i.invariant.0 start is looks in
    let inside = ap length c.requires.queue.queue in
    let b = hold_breaks c.args.aim c.requires.full start c.loop-i.task c.args.walk c.loop-i.walk c.args.task.now
    c.loop-i.i i c.stand-stand.result (omega (arith, inside, c.loop-i-test.true, c.len-i-end.ensures))
    (subst (λ (q : List Member). member_of c.stand-stand.result ≡ slice_index_or q c.loop-i.i
    (member_of c.stand-stand.result)) c.requires.queue.queue c.stand-stand.ensures) c.if-walk-stand.true
    (omega (arith, c.if-walk-gt-BREAK.true)) in
    (i.keeps, (i.gone, i.going, i.calling, b.0, b.1))

pub call_next-requires-clause-next : goal.call_next-requires-clause-next
call_next-requires-clause-next c =
    let x = c.requires.starting in
    let i = c.loop-i.invariant.0 x.0 x.1 x.2 in
    let inside = ap length c.requires.queue.queue in
    seen_next c.args.aim c.requires.full x.0 c.loop-i.task c.args.walk c.loop-i.walk c.args.task.now c.loop-i.i i
    c.stand-stand.result
    (next_here c.args.aim c.requires.full x.0 c.loop-i.task c.args.walk c.loop-i.walk c.args.task.now c.loop-i.i i
    c.stand-stand.result (omega (arith, inside, c.loop-i-test.true, c.len-i-end.ensures))
    (subst (λ (q : List Member). member_of c.stand-stand.result ≡ slice_index_or q c.loop-i.i
    (member_of c.stand-stand.result)) c.requires.queue.queue c.stand-stand.ensures) ENTRIES (omega arith)
    c.if-walk-stand.true c.if-stand-lt-ENTRIES.true (inl refl))

-- a call that used up the count
pub returns-then-walk-clause-walks : goal.returns-then-walk-clause-walks
returns-then-walk-clause-walks c start is looks =
    let n = c.in-Ok.ensures.called in
    hold_spends c.args.aim c.requires.full start c.loop-i.task c.args.walk c.loop-i.walk c.args.task.now c.loop-i.i
    (c.loop-i.invariant.0 start is looks) c.call_next.new.task c.in-Ok.called n.gone n.keeps c.if-walk.true n.calling
    n.spends

pub loop-i-preserved : goal.loop-i-preserved
loop-i-preserved c =
    let i = c.loop-i.invariant in
    let a = c.args.aim in
    let old = c.args.task.now in
    let s = c.stand-stand.result in
    let inside = ap length c.requires.queue.queue in
    let in_queue : c.loop-i.i < length (shown_queue old) =
    omega (arith, inside, c.loop-i-test.true, c.len-i-end.ensures) in
    let here = subst (λ (q : List Member). member_of s ≡ slice_index_or q c.loop-i.i (member_of s))
    c.requires.queue.queue c.stand-stand.ensures in
    let on = λ (t : Known) (u : Walking) (r : Rousing).
    GoesOver a old c.args.walk c.args.rousing.now (c.loop-i.i + 1) t u r in
    let set = λ (t : Known) (u : Walking) (r : Rousing) (at : c.if-walk-stand.task ≡ t) (by : c.if-walk-stand.walk ≡ u)
    (to : c.if-walk-stand.rousing ≡ r)
    (n : GoesOver a old c.args.walk c.args.rousing.now (c.loop-i.i + 1) t u r).
    subst (λ (k : Known). on k c.if-walk-stand.walk c.if-walk-stand.rousing) (sym at)
    (subst (λ (v : Walking). on t v c.if-walk-stand.rousing) (sym by) (subst (on t u) (sym to) n)) in
    elim c.if-walk-stand.branch [
      | then-walk-stand+else-walk-gt-BREAK+then-stand-lt-ENTRIES+in-Ok+else-walk w ↦
          let n = w.in-Ok.ensures.called in
          let h = w.call_next.ensures.rouses in
          let room = h.room in
          let before = i.2 in
          let calls = n.calls in
          let under : c.loop-i.walk.calls ≤ BREAK = omega (arith, w.if-walk-gt-BREAK.false) in
          set w.call_next.new.task w.in-Ok.called w.call_next.new.rousing w.task-is w.walk-is w.rousing-is (
            λ start is looks.
                let x = i.0 start is looks in
                hold_on a c.requires.full start c.loop-i.task c.args.walk c.loop-i.walk old c.loop-i.i x s in_queue here
                w.call_next.new.task w.in-Ok.called
                (next_here a c.requires.full start c.loop-i.task c.args.walk c.loop-i.walk old c.loop-i.i x s in_queue
                here ENTRIES (omega arith) w.if-walk-stand.true w.if-stand-lt-ENTRIES.true (inl refl)) under n.gone
                n.keeps w.if-walk.false n.calling n.place n.calls n.same,
            λ start told. h.tells start (i.1 start told),
            omega (arith, room, before, calls),
            h.domain ∙ i.3,
          )
      | then-walk-stand+else-walk-gt-BREAK+else-stand-lt-ENTRIES w ↦
          set c.loop-i.task c.loop-i.walk c.loop-i.rousing w.task-is w.walk-is w.rousing-is (
            λ start is looks. hold_passes a c.requires.full start c.loop-i.task c.args.walk c.loop-i.walk old
                c.loop-i.i (i.0 start is looks) s in_queue here
                (inr (omega (arith, w.if-stand-lt-ENTRIES.false), omega (arith, w.if-walk-gt-BREAK.false))),
            i.1,
            i.2,
            i.3,
          )
      | else-walk-stand w ↦
          set c.loop-i.task c.loop-i.walk c.loop-i.rousing w.task-is w.walk-is w.rousing-is (
            λ start is looks. hold_passes a c.requires.full start c.loop-i.task c.args.walk c.loop-i.walk old
                c.loop-i.i (i.0 start is looks) s in_queue here (inl (omega (arith, w.if-walk-stand.false))),
            i.1,
            i.2,
            i.3,
          )
    ]

pub returns-clause-walks : goal.returns-clause-walks
returns-clause-walks c start is looks =
    let i = c.loop-i.invariant.0 start is looks in
    let inside = ap length c.requires.queue.queue in
    let end : length (shown_queue c.args.task.now) ≤ c.loop-i.i =
    omega (arith, inside, c.loop-i-test.false, c.len-i-end.ensures) in (
      i.keeps,
      (
        i.gone,
        i.going,
        i.calling,
        hold_ends c.args.aim c.requires.full start c.loop-i.task c.args.walk c.loop-i.walk c.args.task.now c.loop-i.i
            i end,
        hold_empty c.args.aim c.requires.full start c.loop-i.task c.args.walk c.loop-i.walk c.args.task.now
            c.loop-i.i i end,
      ),
    )
