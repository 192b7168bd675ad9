use Rattle.wait_event.specs.Waits.{wait_table}
use Rattle.wait_event.proofs.WaitLaws.{wait_lawful}
use Rattle.completion_cell.specs.Awaits.{await_table}
use Rattle.completion_cell.proofs.AwaitLaws.{await_lawful}
use Rattle.wait_class.proofs.Framing.{framed_lawful}
use Rattle.bit_wait.specs.{BitTables.bit_frame, BitTables.bit_table, LockTables.lock_frame, LockTables.lock_table}
use Rattle.bit_wait.proofs.{BitLaws.bit_lawful, LockLaws.lock_lawful}
use Rattle.page_lock.specs.PageTables.{page_table}
use Rattle.page_lock.proofs.PageLaws.{page_lawful}
use Rattle.waiter_laws.proofs.Stretches.{awaiters_are_kept, bit_lockers_are_kept, bit_waiters_are_kept}
use Rattle.waiter_laws.proofs.Stretches.{page_waiters_are_kept, sleep_is_last_of_all, stretches_are_one}
use Rattle.waiter_laws.proofs.Stretches.{waiters_are_kept}
use Rattle.waiter_laws.proofs.laws.no_stretch_loses_waiters.Goals as goal

pub returns-clause-waits : goal.returns-clause-waits
returns-clause-waits c = waiters_are_kept

pub returns-clause-cells : goal.returns-clause-cells
returns-clause-cells c = awaiters_are_kept

pub returns-clause-pages : goal.returns-clause-pages
returns-clause-pages c = page_waiters_are_kept

pub returns-clause-bits : goal.returns-clause-bits
returns-clause-bits c = bit_waiters_are_kept

pub returns-clause-locks : goal.returns-clause-locks
returns-clause-locks c = bit_lockers_are_kept

pub returns-clause-waits_join : goal.returns-clause-waits_join
returns-clause-waits_join c = stretches_are_one wait_table wait_lawful

pub returns-clause-cells_join : goal.returns-clause-cells_join
returns-clause-cells_join c = stretches_are_one await_table await_lawful

pub returns-clause-pages_join : goal.returns-clause-pages_join
returns-clause-pages_join c = stretches_are_one page_table page_lawful

pub returns-clause-bits_join : goal.returns-clause-bits_join
returns-clause-bits_join c = stretches_are_one bit_table (framed_lawful bit_frame bit_lawful)

pub returns-clause-locks_join : goal.returns-clause-locks_join
returns-clause-locks_join c = stretches_are_one lock_table (framed_lawful lock_frame lock_lawful)

pub returns-clause-bits_last : goal.returns-clause-bits_last
returns-clause-bits_last c = sleep_is_last_of_all bit_table

pub returns-clause-locks_last : goal.returns-clause-locks_last
returns-clause-locks_last c = sleep_is_last_of_all lock_table
