use Rattle.std.proofs.Common.{◌∙◌, ap, subst, sym}
use Rattle.std.specs.Prelude.{ℕ, ◌/◌, Result, true}
use Rattle.wait_model.specs.declared.layout.TheConstants.{PIPE_ENDS}
use Rattle.wait_leave.specs.declared.exits.Until.{Until}
use Rattle.wait_pipe.proofs.{LeftWaits.until_caused, LeftWaits.until_waits, Looking.other_apart, Looking.other_pipe}
use Rattle.wait_pipe.specs.{declared.pieces.PipeEnd.PipeEnd, PieceLeaves.IsPieceUntil}
use Rattle.wait_pipe.proofs.looks.wait_for_until.Goals as goal

pub returns-clause-waits : goal.returns-clause-waits
returns-clause-waits g c = until_waits (g.Q.Fn.post c.args.asks tt true) c.args.own c.other_of-var.result c.args.word _
    c.args.task.now c.wait_var_until-waited.new.task c.wait_var_until-waited.result
    (λ q. other_apart c.args.own (sym c.other_of-var.ensures ∙ q))
    (ap (λ (v : ℕ). v / PIPE_ENDS) c.other_of-var.ensures ∙ other_pipe c.args.own)
    c.wait_var_until-waited.ensures.waited (c.told.ensures.head ∙ c.requires.ready.idle.free.head)
    c.wait_var_until-waited.ensures.up c.wait_var_until-waited.ensures.idle
    c.wait_var_until-waited.ensures.out c.wait_var_until-waited.ensures.carries

pub returns-clause-cause : goal.returns-clause-cause
unfolding returns-clause-waits
returns-clause-cause g c = subst (λ (r : Until (Result (Unit {0}) PipeEnd)).
    IsPieceUntil (g.Q.Fn.post c.args.asks tt true) c.args.own c.wait_var_until-waited.new.task r)
    (sym c.until_of.ensures)
    (until_caused (g.Q.Fn.post c.args.asks tt true) c.args.own c.other_of-var.result c.args.word c.args.task.now
    c.wait_var_until-waited.new.task c.wait_var_until-waited.result c.other_of-var.ensures
    c.wait_var_until-waited.ensures.waited (returns-clause-waits g c) c.requires.none)
