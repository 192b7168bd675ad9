-- To be believed.
-- What the events of a call that waits find.
use Rattle.std.specs.Prelude.{ℕ, Bool, false, Option, None}
use Rattle.wait_model.specs.{declared.points.Seen.Seen, declared.tasks.TaskRecord.TaskRecord}
use Rattle.wait_model.specs.{declared.watches.Entry.Entry, Tasks.task_of}

-- what a program finds where it asks for nothing, for a value, for an entry, and for the own record
abbrev pub saw_nothing : Seen
saw_nothing = record {
  own = task_of 0;
  entry = None;
  flag = false;
  value = 0;
  called = None;
  breaks = false;
  calls = 0;
  members = false;
  worn = false;
  mark = None;
  other = task_of 0;
}

abbrev pub with_value : ℕ → Seen
with_value r = record saw_nothing { value = r }

abbrev pub saw_entry : Option Entry → Seen
saw_entry o = record saw_nothing { entry = o }

abbrev pub with_worn : Bool → Seen
with_worn b = record saw_nothing { worn = b }

abbrev pub with_own : TaskRecord → Seen
with_own t = record saw_nothing { own = t }
