-- To be believed.
-- What each call is about, which calls a task may open by their numbers, and where their programs begin.
use Rattle.std.specs.Prelude.{ℕ, Bool, true, false, not, ◌&&◌, ◌||◌, nat_lt}
use Rattle.wait_model.specs.{declared.calls.Call.Call, declared.points.Point.Point, declared.watches.Watch.Watch}
use Rattle.wait_model.specs.{Queues.is_priority, Watches.page}
use Rattle.wait_model.specs.declared.layout.TheConstants.{TASKS, PLAIN_CONDITIONS, FIRST_SIMPLE, COMPLETIONS, BIT_WORDS}
use Rattle.wait_model.specs.declared.layout.TheConstants.{WORD_BITS, VARIABLES, PRIORITY_TASKS}
use Rattle.wait_model.specs.declared.calls.Call.TheVariants as calls
use Rattle.wait_model.specs.declared.points.AddPoint.TheVariants as adding
use Rattle.wait_model.specs.declared.points.AwaitPoint.TheVariants as awaiting
use Rattle.wait_model.specs.declared.points.BitPoint.TheVariants as biting
use Rattle.wait_model.specs.declared.points.CountPoint.TheVariants as counting
use Rattle.wait_model.specs.declared.points.PagePoint.TheVariants as paging
use Rattle.wait_model.specs.declared.points.Point.TheVariants as at
use Rattle.wait_model.specs.declared.points.RemovePoint.TheVariants as removing
use Rattle.wait_model.specs.declared.points.SelectPoint.TheVariants as selecting
use Rattle.wait_model.specs.declared.points.WalkPoint.TheVariants as walking
use Rattle.wait_model.specs.declared.points.WokenPoint.TheVariants as hearing
use Rattle.wait_model.specs.declared.watches.Watch.TheVariants as watch

-- what a call is about
abbrev pub call_watch : Call → Watch
call_watch (calls.Wait c how) = watch.Plain c
call_watch (calls.Set c v) = watch.Plain c
call_watch (calls.Take c) = watch.Plain c
call_watch (calls.Read c) = watch.Plain c
call_watch (calls.Wake c m n) = watch.Plain c
call_watch (calls.Add c k f) = watch.Plain c
call_watch (calls.SimpleWait c st) = watch.Plain c
call_watch (calls.SimpleWake c all) = watch.Plain c
call_watch (calls.Complete d) = watch.Done d
call_watch (calls.CompleteAll d) = watch.Done d
call_watch (calls.Reinit d) = watch.Done d
call_watch (calls.WaitFor d st) = watch.Done d
call_watch (calls.TryWait d) = watch.Done d
call_watch (calls.IsDone d) = watch.Done d
call_watch (calls.TryBit w b) = watch.Bit w b
call_watch (calls.WaitBit w b st) = watch.Bit w b
call_watch (calls.LockBit w b st) = watch.Bit w b
call_watch (calls.LockPage w st) = page w
call_watch (calls.ClearBit w b) = watch.Bit w b
call_watch (calls.WaitVar v old st) = watch.Var v old
call_watch (calls.SetVar v x) = watch.Var v 0
call_watch _ = watch.Plain 0

-- the numbers of a call that a task opens are in their ranges: conditions below `FIRST_SIMPLE` have full heads, all
-- others simple ones, and only tasks below `PRIORITY_TASKS` add with priority
abbrev pub is_in_range : ℕ → Call → Bool
is_in_range me (calls.Wait c how) = nat_lt c FIRST_SIMPLE
is_in_range me (calls.Set c v) = nat_lt c PLAIN_CONDITIONS
is_in_range me (calls.Take c) = nat_lt c PLAIN_CONDITIONS
is_in_range me (calls.Read c) = nat_lt c PLAIN_CONDITIONS
is_in_range me (calls.Wake c m n) = nat_lt c FIRST_SIMPLE && nat_lt n TASKS
is_in_range me (calls.Add c k f) = nat_lt c FIRST_SIMPLE && (not (is_priority f) || nat_lt me PRIORITY_TASKS)
is_in_range me (calls.Signal u deadly) = nat_lt u TASKS
is_in_range me (calls.Kick u) = nat_lt u TASKS
is_in_range me (calls.SimpleWait c st) = not (nat_lt c FIRST_SIMPLE) && nat_lt c PLAIN_CONDITIONS
is_in_range me (calls.SimpleWake c all) = not (nat_lt c FIRST_SIMPLE) && nat_lt c PLAIN_CONDITIONS
is_in_range me (calls.Complete d) = nat_lt d COMPLETIONS
is_in_range me (calls.CompleteAll d) = nat_lt d COMPLETIONS
is_in_range me (calls.Reinit d) = nat_lt d COMPLETIONS
is_in_range me (calls.WaitFor d st) = nat_lt d COMPLETIONS
is_in_range me (calls.TryWait d) = nat_lt d COMPLETIONS
is_in_range me (calls.IsDone d) = nat_lt d COMPLETIONS
is_in_range me (calls.TryBit w b) = nat_lt w BIT_WORDS && nat_lt b WORD_BITS
is_in_range me (calls.WaitBit w b st) = nat_lt w BIT_WORDS && nat_lt b WORD_BITS
is_in_range me (calls.LockBit w b st) = nat_lt w BIT_WORDS && nat_lt b WORD_BITS
is_in_range me (calls.LockPage w st) = nat_lt w BIT_WORDS
is_in_range me (calls.ClearBit w b) = nat_lt w BIT_WORDS && nat_lt b WORD_BITS
is_in_range me (calls.WaitVar v old st) = nat_lt v VARIABLES
is_in_range me (calls.SetVar v x) = nat_lt v VARIABLES
is_in_range me _ = true

-- where the program of a call begins
abbrev pub program_start : Call → Point
program_start (calls.Wait c how) = at.First
program_start (calls.Set c v) = at.Store
program_start (calls.Take c) = at.Take
program_start (calls.Read c) = at.Read
program_start (calls.Wake c m n) = at.Walk walking.Lock
program_start (calls.Add c k f) = at.Add adding.Lock
program_start calls.Remove = at.Remove removing.Lock
program_start (calls.Woken st) = at.Woken hearing.State
program_start (calls.Signal u deadly) = at.Raise
program_start calls.Accept = at.Accept
program_start (calls.Kick u) = at.Kick
program_start (calls.SimpleWait c st) = at.First
program_start (calls.SimpleWake c all) = at.Select selecting.Lock
program_start (calls.Complete d) = at.Select selecting.Lock
program_start (calls.CompleteAll d) = at.Select selecting.Lock
program_start (calls.Reinit d) = at.Count counting.Lock
program_start (calls.WaitFor d st) = at.Await (awaiting.Lock false)
program_start (calls.TryWait d) = at.Count counting.Peek
program_start (calls.IsDone d) = at.Count counting.Peek
program_start (calls.TryBit w b) = at.Bit biting.Try
program_start (calls.WaitBit w b st) = at.Bit biting.First
program_start (calls.LockBit w b st) = at.Bit biting.First
program_start (calls.LockPage w st) = at.Page paging.First
program_start (calls.ClearBit w b) = at.Publish
program_start (calls.WaitVar v old st) = at.First
program_start (calls.SetVar v x) = at.Publish
