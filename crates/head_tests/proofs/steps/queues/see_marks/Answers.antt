use Rattle.std.proofs.Common.{◌∙◌, sym, ap, subst}
use Rattle.std.specs.Prelude.{◌≡◌, ◌+◌, Bool, Some}
use Rattle.wait_model.specs.{Views.View as Told, Tables.mark_of}
use Rattle.wait_rule.specs.{Says.told_of, Looking.HasSeenMarks}
use Rattle.wait_rule.proofs.KnownLaws.MemberLooks.{mark_more, mark_off, zero_mark}
use Rattle.head_tests.proofs.steps.queues.see_marks.Goals.{then-mark_load-ne0, else-mark_load-ne0}
use Rattle.head_tests.proofs.steps.queues.see_marks.Goals as goal

pub loop-who-preserved : goal.loop-who-preserved
loop-who-preserved c =
    let first = c.args.task.now in
    let old = c.loop-who.task in
    let new = c.mark_load.new.task in
    let t = c.loop-who.who in
    let w = c.mark_load.result in
    let inv = c.loop-who.invariant in
    let told : (told_of old).hold.head ≡ Some first.at =
    ap (λ (v : Told). v.hold.head) inv.told ∙ (c.told.ensures.head ∙ c.requires.held) in
    elim c.if-mark_load-ne0.branch [
      | then-mark_load-ne0 b ↦ subst (λ (e : Bool). HasSeenMarks first new e (t + 1)) (sym b.empty-is)
          (mark_more first old new first.at t w told c.mark_load.ensures.step c.loop-who.empty inv)
      | else-mark_load-ne0 b ↦ subst (λ (e : Bool). HasSeenMarks first new e (t + 1)) (sym b.empty-is)
          (mark_off first old new first.at t w told c.mark_load.ensures.step
          (ap mark_of b.if-mark_load-ne0.false ∙ zero_mark) c.loop-who.empty inv)
    ]
