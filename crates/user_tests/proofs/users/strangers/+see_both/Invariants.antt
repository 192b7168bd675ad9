use Rattle.user_tests.proofs.users.strangers.+see_both.Given as goal

abbrev pub decreases-see_both : goal.decreases-see_both
decreases-see_both g l = l.depth
