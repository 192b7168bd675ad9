use Rattle.flow_copy.proofs.Sparing.{readers_heed, relays_heed, writers_heed}
use Rattle.flow_copy.proofs.laws.workers_heed_kills.Goals as goal

pub returns-clause-readers : goal.returns-clause-readers
returns-clause-readers c = readers_heed

pub returns-clause-relays : goal.returns-clause-relays
returns-clause-relays c = relays_heed

pub returns-clause-writers : goal.returns-clause-writers
returns-clause-writers c = writers_heed
