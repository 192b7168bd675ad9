use Rattle.std.proofs.Common.{◌/◌, refl}
use Rattle.wait_model.specs.declared.layout.TheConstants.{WORD_BITS}
use Rattle.wq_head.proofs.BitLooks.{saw_word}
use Rattle.wq_head.proofs.looking.load_first.Goals as goal

pub returns-then-looking-eq0-clause-looks : goal.returns-then-looking-eq0-clause-looks
returns-then-looking-eq0-clause-looks c =
    let load = saw_word c.args.task.now.at (c.args.looking.now.next / WORD_BITS) c.held_member_load-looking.result
    c.args.task.now c.held_member_load-looking.new.task c.requires.held refl
    c.held_member_load-looking.ensures.saw in load.looks

pub returns-then-looking-eq0-clause-told : goal.returns-then-looking-eq0-clause-told
returns-then-looking-eq0-clause-told c =
    let load = saw_word c.args.task.now.at (c.args.looking.now.next / WORD_BITS) c.held_member_load-looking.result
    c.args.task.now c.held_member_load-looking.new.task c.requires.held refl
    c.held_member_load-looking.ensures.saw in load.told
