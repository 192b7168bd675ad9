-- The laws on the flags of entries of kind Woken, by the rule.
use Rattle.std.proofs.Common.{refl}
use Rattle.wait_model.specs.Watches.{owner}
use Rattle.wait_rule.specs.FlagLaws.{FlagsComeFirst, RuleLosesNoFlag, StepsLoseNoFlag, WorkedFlags}
use Rattle.wait_rule.proofs.KnownLaws.Moments.{kept_of}

pub rule_loses_no_flag : RuleLosesNoFlag
rule_loses_no_flag s items ruled = ruled.whole.kept.no_lost_flag

pub steps_lose_no_flag : StepsLoseNoFlag
steps_lose_no_flag xs may = (kept_of xs may).no_lost_flag

pub flags_come_first : FlagsComeFirst
flags_come_first s items ruled a x rung = (ruled.whole.kept.facts.views a).rung x rung

pub worked_flags : WorkedFlags
unfolding owner
worked_flags = record { flag_first = refl; wake_first = refl; no_flag = refl }
