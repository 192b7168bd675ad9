use Rattle.std.proofs.Common.{◌∙◌, ◌<◌, ◌≤◌, ℕ, arith, rules, subst, sym}
use Rattle.wait_model.specs.declared.layout.TheConstants.{FIRST_SIMPLE_HEAD, HEADS}
use Rattle.wq_head.specs.Selects.{HasSelected}
use Rattle.completion_cell.proofs.{Completing.done_simple, Ground.head_there}
use Rattle.count_sem.proofs.Raising.{found_nobody, given_by, given_owes, took_of}
use Rattle.count_sem.proofs.ups.up.Goals as goal

pub lock-requires-clause-head : goal.lock-requires-clause-head
lock-requires-clause-head g c = subst (λ (n : ℕ). n < HEADS) (sym c.head_of-head.ensures)
    (head_there c.args.cell c.requires.cell)

pub select-requires-clause-simple : goal.select-requires-clause-simple
select-requires-clause-simple g c = subst (λ (n : ℕ). FIRST_SIMPLE_HEAD ≤ n) (sym c.head_of-head.ensures)
    (done_simple c.args.cell)

pub unlock-requires-clause-rise : goal.unlock-requires-clause-rise
unlock-requires-clause-rise g c = c.select.ensures.rises (omega (arith, c.if-select-eq1.true))
    (c.lock.ensures.simple (subst (λ (n : ℕ). FIRST_SIMPLE_HEAD ≤ n) (sym c.head_of-head.ensures)
    (done_simple c.args.cell)))

pub unlock-requires-clause-permits : goal.unlock-requires-clause-permits
unlock-requires-clause-permits g c =
    let k = c.lock.ensures in
    given_owes c.args.cell c.args.task.now c.lock.new.task c.select.new.task c.select.new.task
    (took_of c.args.cell c.head_of-head.result c.args.task.now c.lock.new.task c.head_of-head.ensures
    (k.carries.awake ∙ c.requires.up) k.locked k.held k.stays k.settled k.carries k.simple) c.requires.free
    c.told.ensures
    (subst (λ (n : ℕ). HasSelected c.lock.new.task c.select.new.task 1 n) c.if-select-eq1.true
    c.select.ensures.selected) c.select.ensures.hold c.requires.left

pub returns-then-select-eq1 : goal.returns-then-select-eq1
returns-then-select-eq1 g c =
    let k = c.lock.ensures in
    let e = given_by c.args.cell c.args.task.now c.lock.new.task c.select.new.task c.unlock.new.task
    (took_of c.args.cell c.head_of-head.result c.args.task.now c.lock.new.task c.head_of-head.ensures
    (k.carries.awake ∙ c.requires.up) k.locked k.held k.stays k.settled k.carries k.simple) c.requires.free
    c.told.ensures
    (subst (λ (n : ℕ). HasSelected c.lock.new.task c.select.new.task 1 n) c.if-select-eq1.true
    c.select.ensures.selected) c.select.ensures.hold c.unlock.ensures.unlocked.is c.select.ensures.keeps in
    record { raised = e.raised; up = search rules; free = search rules; carries = e.carries; off = e.off }

pub raise-requires-clause-found : goal.raise-requires-clause-found
raise-requires-clause-found g c =
    let k = c.lock.ensures in (
      c.args.task.now,
      found_nobody c.args.cell c.select.result c.args.task.now c.lock.new.task c.select.new.task c.requires.free
          c.told.ensures c.requires.left c.requires.up
          (took_of c.args.cell c.head_of-head.result c.args.task.now c.lock.new.task c.head_of-head.ensures
          (k.carries.awake ∙ c.requires.up) k.locked k.held k.stays k.settled k.carries k.simple)
          c.select.ensures.selected c.if-select-eq1.false c.select.ensures.hold c.select.ensures.keeps,
    )

pub returns : goal.returns
returns g c =
    let k = c.lock.ensures in
    let r = c.raise.ensures in
    let f = found_nobody c.args.cell c.select.result c.args.task.now c.lock.new.task c.select.new.task c.requires.free
    c.told.ensures c.requires.left c.requires.up
    (took_of c.args.cell c.head_of-head.result c.args.task.now c.lock.new.task c.head_of-head.ensures
    (k.carries.awake ∙ c.requires.up) k.locked k.held k.stays k.settled k.carries k.simple)
    c.select.ensures.selected c.if-select-eq1.false c.select.ensures.hold c.select.ensures.keeps in record {
      raised = r.raised c.args.task.now f;
      up = r.up;
      free = r.free;
      carries = r.carries c.args.task.now f;
      off = r.off c.args.task.now f;
    }
