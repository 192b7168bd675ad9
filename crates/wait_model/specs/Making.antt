-- To be believed.
-- The program of a call makes whatever follows its sentence, for findings that a task may have.
use Rattle.std.specs.Prelude.{ℕ, ◌≡◌, false, List, [], ◌∷◌}
use Rattle.wait_model.specs.{declared.calls.Call.Call, declared.calls.Event.Event, declared.calls.Answer.Answer}
use Rattle.wait_model.specs.{declared.points.Next.Next, declared.points.Seen.Seen, declared.points.Point.Point}
use Rattle.wait_model.specs.{Watches.is_done, Points.call_watch, Programs.program, Programs.program_start, Phrases.Rest}
use Rattle.wait_model.specs.{Phrases.ends, Sentences.Follows}
use Rattle.wait_model.specs.Findings.{Noted, none_noted, notes, MayFind}
use Rattle.wait_model.specs.declared.points.Next.TheVariants as next

abbrev pub goes_to : (Point → Rest) → Next → Rest
goes_to R (next.Go p) = R p
goes_to R (next.Ends b) = ends b

-- from this point on the program makes these events, for some findings, and gives this answer
abbrev pub Makes : ℕ → Call → Noted → Point → Rest
Makes me call m p [] a = ⊥
Makes me call m p (e ∷ w) a = (seen : Seen) × MayFind call p m seen × (e ≡ (program me call p seen).event)
    × goes_to (λ q v b. Makes me call (notes m e) q w b) (program me call p seen).next w a

abbrev pub SentencesAreMade : Type 0
SentencesAreMade = (me : ℕ) (call : Call) (w : List Event) (a : Answer) → Follows me call w a
    → Makes me call none_noted (program_start call) w a

-- and it makes nothing else for such findings; of a call about a completion the law on runs says so
abbrev pub ProgramsFollow : Type 0
ProgramsFollow = (me : ℕ) (call : Call) (w : List Event) (a : Answer) → is_done (call_watch call) ≡ false
    → Makes me call none_noted (program_start call) w a → Follows me call w a
