-- To be believed.
-- Findings: what a task may find at a point of its call, by what it has made of the call so far.
use Rattle.std.specs.Prelude.{ℕ, ◌≡◌, ◌<◌, ◌≤◌, Bool, true, false, None, is_some}
use Rattle.wait_model.specs.{declared.layout.TheConstants.BREAK, declared.layout.TheConstants.ALL_DONE}
use Rattle.wait_model.specs.{declared.calls.Call.Call, declared.calls.Event.Event, declared.points.Seen.Seen}
use Rattle.wait_model.specs.{declared.points.Point.Point, Watches.is_done, Points.call_watch, SentenceWalks.shares_head}
use Rattle.wait_model.specs.declared.calls.Call.TheVariants as calls
use Rattle.wait_model.specs.declared.calls.Event.TheVariants as event
use Rattle.wait_model.specs.declared.points.Point.TheVariants as at
use Rattle.wait_model.specs.declared.points.WalkPoint.TheVariants as walking

-- What the own events of a call tell: whether it queued its entry, whether it holds a lock, and what its last load
-- found, where only stores of the own state, looks and removals came after it.
pub record Noted : Type 0 where
  pub queued : Bool
  pub held : Bool
  pub loaded : Bool
  pub count : ℕ

abbrev pub none_noted : Noted
none_noted = record { queued = false; held = false; loaded = false; count = 0 }

abbrev pub notes : Noted → Event → Noted
notes m (event.Queue h form) = record m { queued = true; loaded = false }
notes m (event.Load c value) = record m { loaded = true; count = value }
notes m (event.State v) = m
notes m (event.Look hit) = m
notes m (event.Unqueue who) = m
notes m (event.Lock h) = record m { held = true; loaded = false }
notes m (event.Unlock h spent) = record m { held = false; loaded = false }
notes m _ = record m { loaded = false }

-- the calls that sleep until their watch is set: their own entry is off until they queue it; a wait for a flag is none,
-- since its caller loads its condition itself
abbrev pub is_waiting : Call → Bool
is_waiting (calls.Wait c how) = true
is_waiting (calls.SimpleWait c st) = true
is_waiting (calls.WaitFor d st) = true
is_waiting (calls.WaitBit w b st) = true
is_waiting (calls.LockBit w b st) = true
is_waiting (calls.LockPage w st) = true
is_waiting (calls.WaitVar v old st) = true
is_waiting _ = false

abbrev pub IsOff : Call → Noted → Seen → Type 0
IsOff call m seen = is_waiting call ≡ true → m.queued ≡ false → seen.entry ≡ None

-- a done count that is loaded has 32 bits, and in a hold it stays as it was loaded
abbrev pub IsRanged : Call → Noted → Seen → Type 0
IsRanged call m seen = is_done (call_watch call) ≡ true → m.loaded ≡ false → seen.value ≤ ALL_DONE

abbrev pub CountStays : Call → Noted → Seen → Type 0
CountStays call m seen = is_done (call_watch call) ≡ true → m.loaded ≡ true → m.held ≡ true → seen.value ≡ m.count

-- a walk breaks exactly where its hold has called more than `BREAK` entries; at a head of one watch it passes no
-- strangers
abbrev pub MayComeTo : Call → Point → Seen → Type 0
MayComeTo call (at.Walk (walking.Call w)) seen = (w.calls ≤ seen.calls)
    × (shares_head (call_watch call) ≡ false → seen.calls ≡ w.calls)
    × (seen.breaks ≡ true → BREAK < seen.calls)
    × (seen.breaks ≡ false → is_some seen.called ≡ true → seen.calls ≤ BREAK)
MayComeTo call _ seen = Unit {0}

abbrev pub Fair : Call → Noted → Seen → Type 0
Fair call m seen = IsOff call m seen × IsRanged call m seen × CountStays call m seen

abbrev pub MayFind : Call → Point → Noted → Seen → Type 0
MayFind call p m seen = Fair call m seen × MayComeTo call p seen
