use Rattle.waiter_laws.proofs.Listening.{hearings_are_one, listeners_are_kept, stretches_end_listening}
use Rattle.waiter_laws.proofs.laws.no_listener_lost.Goals as goal

pub returns-clause-asleep : goal.returns-clause-asleep
returns-clause-asleep c = listeners_are_kept

pub returns-clause-stretches : goal.returns-clause-stretches
returns-clause-stretches c = stretches_end_listening

pub returns-clause-join : goal.returns-clause-join
returns-clause-join c = hearings_are_one
