use Rattle.waitq_alone.proofs.command.all_words.Goals as goal

pub returns : goal.returns
returns c =
    let one = c.with_command-one.ensures _ _ c.bare_words.ensures c.new.ensures.app c.new.ensures.local in
    let two = c.with_command-two.ensures _ _ one c.drill_words.ensures.app c.drill_words.ensures.local in
    let three = c.with_command-three.ensures _ _ two c.copy_words.ensures.app c.copy_words.ensures.local in
    c.with_command.ensures _ _ three c.merge_words.ensures.app c.merge_words.ensures.local
