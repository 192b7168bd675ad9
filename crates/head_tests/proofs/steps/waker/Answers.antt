use Rattle.std.proofs.Common.{◌∙◌, ap, sym, refl, arith, eq-eqb}
use Rattle.std.specs.Prelude.{ℕ, ◌≡◌, ◌&&◌, Bool, true, false, [], ◌∷◌, ◌++◌}
use Rattle.wait_model.specs.{declared.layout.TheConstants.NORMAL, Words.flag, Fold.met_task, Totals.total}
use Rattle.wait_model.specs.declared.steps.Step.TheVariants as step
use Rattle.wait_model.proofs.HistoryLaws.StepTotals.{total_snoc}
use Rattle.wait_rule.specs.declared.journal.Item.TheVariants as item
use Rattle.wait_rule.specs.{Known.Known, Says.added, Says.history_of}
use Rattle.head_tests.specs.Meeting.{wakes_task}
use Rattle.wait_rule.proofs.KnownLaws.TaskHistories.{history_after}
use Rattle.head_tests.proofs.steps.waker.Goals as goal

counted : (who found : ℕ) (old new : Known) (yes_it : Bool) → new ≡ added old (item.Made (step.Wake who 3 found))
    → met_task NORMAL found ≡ yes_it → total (wakes_task who) (history_of old) ≡ 0
    → total (wakes_task who) (history_of new) ≡ flag yes_it
counted who found old new met is answer none =
    let now : total (wakes_task who) (history_of new)
    ≡ total (wakes_task who) (history_of old ++ step.Wake who 3 found ∷ []) =
    ap (total (wakes_task who)) (history_after old new (step.Wake who 3 found) is) in
    let sum = total_snoc (wakes_task who) (history_of old) (step.Wake who 3 found) in
    let one : wakes_task who (step.Wake who 3 found) ≡ flag met =
    ap (λ b. flag (b && met_task NORMAL found)) (eq-eqb who who refl) ∙ ap flag answer in
    omega arith

pub returns-then-wake_task-clause-woken : goal.returns-then-wake_task-clause-woken
returns-then-wake_task-clause-woken g c =
    let s = c.wake_task.ensures.step in
    counted c.args.who s.0 c.loop.task c.wake_task.new.task true s.2 (sym s.3 ∙ c.if-wake_task.true)
    c.loop.invariant.2

pub loop-preserved : goal.loop-preserved
loop-preserved g c =
    let s = c.wake_task.ensures.step in (
      ap (λ (k : Known). k.domain) s.2 ∙ c.loop.invariant.0,
      ap (λ (k : Known). k.book.awake) s.2 ∙ c.loop.invariant.1,
      counted c.args.who s.0 c.loop.task c.wake_task.new.task false s.2 (sym s.3 ∙ c.if-wake_task.false)
          c.loop.invariant.2,
      ap (λ (k : Known). k.view.joined) s.2 ∙ c.loop.invariant.3,
    )
