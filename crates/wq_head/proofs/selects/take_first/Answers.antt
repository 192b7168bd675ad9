use Rattle.std.proofs.Common.{◌∙◌, ◌/◌, ◌%◌, ℕ, ap, refl, sym, subst}
use Rattle.std.proofs.lemmas.Result.{err_from_is_err_and}
use Rattle.wait_model.specs.declared.layout.TheConstants.{SLOTS}
use Rattle.wait_model.specs.declared.steps.Step.TheVariants as step
use Rattle.wait_rule.specs.declared.journal.Item.TheVariants as item
use Rattle.wait_rule.specs.{Known.Known, Says.added}
use Rattle.wait_rule.specs.Queues.{KnewEntry, MayUnqueue, index, saw}
use Rattle.wq_head.specs.{Roused.RousesNone, Selects.KeepsHold}
use Rattle.wq_head.proofs.FirstEntries.{first_looks, index_of, owner_of, take_may, taken_by}
use Rattle.wq_head.proofs.KeptHolds.{hold_looks}
use Rattle.wq_head.proofs.RousedTasks.{none_saw, none_stored, roused_then, then_roused}
use Rattle.wq_head.proofs.selects.take_first.Goals as goal

pub unqueue_member-requires-clause-may : goal.unqueue_member-requires-clause-may
unqueue_member-requires-clause-may c =
    let old = c.args.task.now in
    let x = c.args.member in
    let l = c.entry_load in
    let s = c.in_ok-wake_later.ensures.step in
    let woke = s.2 ∙ ap (λ (m : ℕ). added l.new.task (item.Made (step.Wake (x / SLOTS) m s.0))) c.mask.ensures in
    subst (λ (k : Known). MayUnqueue k (x / SLOTS) (x % SLOTS)) (sym woke)
    (take_may old l.new.task x l.result.0 c.requires.first
    (l.ensures.step ∙ ap (λ (y : ℕ). added old (item.Made (saw old.book.head y l.result.0))) (index_of x))
    (subst (λ (y : ℕ). KnewEntry old y l.result.0) (index_of x) l.ensures.knew)
    (x / SLOTS) s.0 (owner_of x) (x % SLOTS) (index_of x))

pub returns-clause-taken : goal.returns-clause-taken
returns-clause-taken c =
    let old = c.args.task.now in
    let x = c.args.member in
    let l = c.entry_load in
    let s = c.in_ok-wake_later.ensures.step in
    let woke = s.2 ∙ ap (λ (m : ℕ). added l.new.task (item.Made (step.Wake (x / SLOTS) m s.0))) c.mask.ensures in
    taken_by old l.new.task x l.result.0 c.requires.first
    (l.ensures.step ∙ ap (λ (y : ℕ). added old (item.Made (saw old.book.head y l.result.0))) (index_of x))
    (subst (λ (y : ℕ). KnewEntry old y l.result.0) (index_of x) l.ensures.knew)
    (x / SLOTS) s.0 (owner_of x) s.1 c.wake_later.new.task woke (x % SLOTS) (index_of x) c.unqueue_member.new.task
    c.unqueue_member.ensures.step

pub returns-clause-rouses : goal.returns-clause-rouses
returns-clause-rouses c =
    let old = c.args.task.now in
    let l = c.entry_load in
    let w = c.wake_later in
    let x = index (c.args.member / SLOTS) (c.args.member % SLOTS) in
    then_roused old l.new.task c.unqueue_member.new.task c.args.rousing.now w.new.rousing
    (subst (RousesNone old) (sym l.ensures.step) (none_saw old old.book.head x l.result.0))
    (ap (λ (k : Known). k.domain) l.ensures.step)
    (roused_then l.new.task w.new.task c.unqueue_member.new.task c.args.rousing.now w.new.rousing w.ensures.rouses
    (subst (RousesNone w.new.task) (sym c.unqueue_member.ensures.step) (none_stored w.new.task (step.Unqueue x) refl))
    (ap (λ (k : Known). k.domain) c.unqueue_member.ensures.step))

-- the word of the entry was loaded alone
pub returns-in_err-wake_later-clause-taken : goal.returns-in_err-wake_later-clause-taken
returns-in_err-wake_later-clause-taken c =
    let old = c.args.task.now in
    let x = c.args.member in
    let l = c.entry_load in
    let s = c.in_err-wake_later.ensures.starved in
    let p = err_from_is_err_and c.from_residual.result c.from_residual.ensures.1 in
    rw (p.1, p.2) (
      s.0,
      subst (KeepsHold old) (sym s.1) (hold_looks old l.new.task (first_looks old l.new.task x l.result.0
          c.requires.first
          (l.ensures.step ∙ ap (λ (y : ℕ). added old (item.Made (saw old.book.head y l.result.0))) (index_of x))
          (subst (λ (y : ℕ). KnewEntry old y l.result.0) (index_of x) l.ensures.knew))),
    )

pub returns-in_err-wake_later-clause-rouses : goal.returns-in_err-wake_later-clause-rouses
returns-in_err-wake_later-clause-rouses c =
    let old = c.args.task.now in
    let l = c.entry_load in
    let w = c.wake_later in
    let x = index (c.args.member / SLOTS) (c.args.member % SLOTS) in
    then_roused old l.new.task w.new.task c.args.rousing.now w.new.rousing
    (subst (RousesNone old) (sym l.ensures.step) (none_saw old old.book.head x l.result.0))
    (ap (λ (k : Known). k.domain) l.ensures.step) w.ensures.rouses
