use Rattle.std.proofs.Common.{◌≡◌, ◌+◌, ◌*◌, ◌∙◌, arith}
use Rattle.wait_model.specs.{declared.layout.TheConstants.FLAG_AT, Runs.own}
use Rattle.wait_core.proofs.FoundMembers.{flag_word_is}
use Rattle.wait_core.proofs.reads.read_flag.Goals as goal

pub returns : goal.returns
returns c = λ s shown.
    let at : c.flag_at.result ≡ FLAG_AT + 2 * c.args.who = omega (arith, c.flag_at.ensures) in
    c.flag_of.ensures ∙ rw at (flag_word_is c.args.words.now s.table (own c.args.who) shown (omega arith))
