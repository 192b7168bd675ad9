use Rattle.std.proofs.Common.{◌∙◌, subst, sym}
use Rattle.wait_model.specs.declared.watches.Watch.TheVariants as watch
use Rattle.wait_model.specs.declared.watches.Kind.TheVariants as kind
use Rattle.wq_head.specs.Adds.{front_entry}
use Rattle.wq_head.proofs.ReadyTasks.{look_holds}
use Rattle.head_tests.specs.Leaving.{HasEntry}
use Rattle.head_tests.proofs.LeavingTask.{default_reads, off_left, on_may, removed_left}
use Rattle.head_tests.proofs.heads.leaving.take_off.Goals as goal

pub remove-requires-clause-held : goal.remove-requires-clause-held
remove-requires-clause-held c =
    let s = c.entry_load-word.ensures in
    look_holds c.args.task.now c.entry_load-word.new.task c.number-who.result c.entry_load-word.result.0 c.requires.held
    s.step s.knew

pub remove-requires-clause-may : goal.remove-requires-clause-may
remove-requires-clause-may c =
    let s = c.entry_load-word.ensures in
    let q = c.requires in
    let n = c.number-who.ensures.number in
    let h = subst (HasEntry c.args.task.now) c.in-Default.is q.entry in
    on_may c.args.task.now c.entry_load-word.new.task c.number-who.result c.entry_load-word.result.0 kind.Default n
    q.held q.at h s.step s.knew (front_entry (watch.Plain 0) kind.Default h.place)
    (default_reads c.args.task.now c.number-who.result c.entry_load-word.result.0 n h s.knew)

pub returns-in-Default : goal.returns-in-Default
returns-in-Default c =
    let s = c.entry_load-word.ensures in
    let q = c.requires in
    removed_left c.args.task.now c.entry_load-word.new.task c.number-who.result c.entry_load-word.result.0 c.args.kind
    c.number-who.ensures.number q.held q.at q.entry s.step s.knew c.remove.new.task c.remove.ensures.removed

pub remove-requires-in-Some-clause-held : goal.remove-requires-in-Some-clause-held
remove-requires-in-Some-clause-held c =
    let s = c.entry_load-word.ensures in
    look_holds c.args.task.now c.entry_load-word.new.task c.number-who.result c.entry_load-word.result.0 c.requires.held
    s.step s.knew

pub remove-requires-in-Some-clause-may : goal.remove-requires-in-Some-clause-may
remove-requires-in-Some-clause-may c =
    let s = c.entry_load-word.ensures in
    let q = c.requires in
    on_may c.args.task.now c.entry_load-word.new.task c.number-who.result c.entry_load-word.result.0 c.args.kind
    c.number-who.ensures.number q.held q.at q.entry s.step s.knew _ (sym c.entry_of.ensures ∙ c.in-Some.is)

pub returns-in-None : goal.returns-in-None
returns-in-None c =
    let s = c.entry_load-word.ensures in
    let q = c.requires in
    off_left c.args.task.now c.entry_load-word.new.task c.number-who.result c.entry_load-word.result.0 c.args.kind
    c.number-who.ensures.number q.held q.at q.entry s.step s.knew (sym c.entry_of.ensures ∙ c.in-None.is)

pub returns-in-Some : goal.returns-in-Some
returns-in-Some c =
    let s = c.entry_load-word.ensures in
    let q = c.requires in
    removed_left c.args.task.now c.entry_load-word.new.task c.number-who.result c.entry_load-word.result.0 c.args.kind
    c.number-who.ensures.number q.held q.at q.entry s.step s.knew c.remove-in-Some.new.task
    c.remove-in-Some.ensures.removed
