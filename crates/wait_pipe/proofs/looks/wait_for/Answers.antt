use Rattle.std.proofs.Common.{◌∙◌, ap, subst, sym}
use Rattle.std.specs.Prelude.{ℕ, ◌/◌, IfErr, Result}
use Rattle.wait_model.specs.declared.layout.TheConstants.{PIPE_ENDS}
use Rattle.wait_pipe.proofs.Looking.{other_apart, other_pipe, wait_caused, wait_waits}
use Rattle.wait_pipe.specs.{declared.pieces.PipeEnd.PipeEnd, Pieces.IsReadCause}
use Rattle.wait_pipe.proofs.looks.wait_for.Goals as goal

pub returns-clause-waits : goal.returns-clause-waits
returns-clause-waits g c = wait_waits c.args.own c.other_of-var.result c.args.word _ c.args.task.now
    c.wait_var-waited.new.task c.wait_var-waited.result
    (λ q. other_apart c.args.own (sym c.other_of-var.ensures ∙ q))
    (ap (λ (v : ℕ). v / PIPE_ENDS) c.other_of-var.ensures ∙ other_pipe c.args.own)
    c.wait_var-waited.ensures.waited (c.told.ensures.head ∙ c.requires.ready.idle.free.head)
    c.wait_var-waited.ensures.up c.wait_var-waited.ensures.idle
    c.wait_var-waited.ensures.out c.wait_var-waited.ensures.carries

pub returns-clause-cause : goal.returns-clause-cause
unfolding returns-clause-waits
returns-clause-cause g c = subst (λ (r : Result (Unit {0}) PipeEnd). IfErr r (IsReadCause c.args.own
    c.wait_var-waited.new.task)) (sym c.answer_of.ensures)
    (wait_caused c.args.own c.other_of-var.result c.args.word c.args.task.now c.wait_var-waited.new.task
    c.wait_var-waited.result c.other_of-var.ensures c.wait_var-waited.ensures.waited (returns-clause-waits g c)
    c.requires.none)
