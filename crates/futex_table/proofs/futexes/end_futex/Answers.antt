use Rattle.futex_table.proofs.FutexEndings.{ends_clean}
use Rattle.futex_table.proofs.futexes.end_futex.Goals as goal

pub returns-clause-clean : goal.returns-clause-clean
returns-clause-clean c = λ p i. ends_clean i.old c.args.task.now i.began c.args.wait.now i.start c.args.outcome i.came
    i.clean i.told
