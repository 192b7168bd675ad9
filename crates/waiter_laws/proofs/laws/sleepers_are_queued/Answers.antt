use Rattle.waiter_laws.proofs.QueuedWaits as queued
use Rattle.waiter_laws.proofs.laws.sleepers_are_queued.Goals as goal

pub returns : goal.returns
returns c = record { queued = queued.sleepers_are_queued }
