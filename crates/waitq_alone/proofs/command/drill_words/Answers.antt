use Rattle.waitq_alone.proofs.command.drill_words.Goals as goal

pub returns-clause-app : goal.returns-clause-app
returns-clause-app c = c.with_word.ensures.app _ (c.with_word-seeded.ensures.app _ c.new.ensures.app)
