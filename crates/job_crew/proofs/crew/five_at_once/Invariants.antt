use Rattle.job_crew.proofs.crew.five_at_once.Given as goal

abbrev pub ghosts-with_ledger : goal.ghosts-with_ledger
ghosts-with_ledger g a = record { name = a.blank.name; parts = a.blank.parts }
