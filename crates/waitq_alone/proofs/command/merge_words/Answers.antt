use Rattle.waitq_alone.proofs.command.merge_words.Goals as goal

pub returns-clause-app : goal.returns-clause-app
returns-clause-app c =
    c.with_word.ensures.app _ (c.with_word-second.ensures.app _ (c.with_word-first.ensures.app _ c.new.ensures.app))
