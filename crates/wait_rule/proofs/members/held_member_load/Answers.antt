use Rattle.std.proofs.Common.{sym, subst, arith}
use Rattle.std.specs.Prelude.{ℕ, ◌≡◌, ◌-◌, ◌/◌, ◌%◌}
use Rattle.wait_model.specs.declared.layout.TheConstants.{MEMBER_WORDS, MEMBER_AT}
use Rattle.wait_rule.specs.{Known.Known, Known.known, Journals.pushed, Queues.IsLocked, Queues.IsAgreed}
use Rattle.wait_rule.specs.MemberLooks.{SawWord}
use Rattle.wait_rule.proofs.{TableSteps.LookedBits.see_moves, KnownLaws.LookCounts.word_looked}
use Rattle.wait_rule.proofs.KnownLaws.StepCalls.{may_step}
use Rattle.wait_rule.proofs.members.held_member_load.Goals as goal

pub load-requires : goal.load-requires
load-requires c =
    let t = c.task.inside in
    let head = c.task.invariant.7 in
    let word = c.requires.word in
    let at = c.member_at-at.ensures in
    may_step c.task.view_is c.requires.of c.domain.view_is c.domain.invariant (omega arith)
    (see_moves _ _ _ c.task.invariant.1 t.head c.args.i _ head word at
    (subst IsLocked (sym c.task.view_is) c.requires.held)
    (subst IsAgreed (sym c.task.view_is) c.requires.agreed))

pub returns-clause-saw : goal.returns-clause-saw
returns-clause-saw c =
    let e = c.load.ensures in
    let t = c.task.inside in
    let word = c.requires.word in
    let head = c.task.invariant.7 in
    let at = c.member_at-at.ensures in
    let head_is : (c.member_at-at.result - MEMBER_AT) / MEMBER_WORDS ≡ t.head = omega arith in
    let word_is : (c.member_at-at.result - MEMBER_AT) % MEMBER_WORDS ≡ c.args.i = omega arith in
    let after : known t.seat.table_id (pushed t.seat.me.0 e.2.0) t.head
    ≡ known c.load.new.seat.table_id c.load.new.seat.me.0 t.head =
    λ j. known (sym e.0 j) (sym e.2.1 j).0 t.head in
    subst (λ (k : Known). SawWord c.args.task.now.at c.args.i c.load.result c.args.task.now k) after
    (subst (λ (k : Known). SawWord k.at c.args.i c.load.result k
    (known t.seat.table_id (pushed t.seat.me.0 e.2.0) t.head)) c.task.view_is
    (subst (λ (i : ℕ). SawWord t.head i c.load.result (known t.seat.table_id t.seat.me.0 t.head)
    (known t.seat.table_id (pushed t.seat.me.0 e.2.0) t.head)) word_is
    (subst (λ (h : ℕ). SawWord h ((c.member_at-at.result - MEMBER_AT) % MEMBER_WORDS) c.load.result
    (known t.seat.table_id t.seat.me.0 t.head) (known t.seat.table_id (pushed t.seat.me.0 e.2.0) t.head)) head_is
    (e.2.2 t.seat.table_id t.head))))

pub returns-clause-looks : goal.returns-clause-looks
returns-clause-looks c = word_looked c.args.task.now.at c.args.i c.load.result c.args.task.now _
    (returns-clause-saw c)
