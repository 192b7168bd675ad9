-- The verdicts of bytes and of lines.
use Rattle.std.proofs.Common.{◌≡◌, ℕ, ◌≤◌, List, length, Option, Some, None, Result, Ok, Err}
use Rattle.std.proofs.Common.{IfSome, refl, ap, sym, ◌∙◌, subst, arith, sum_by}
use Rattle.std.proofs.lemmas.Bool.Decides.{nat_tests}
use Rattle.edge_io.specs.{Text.HoldsPrefix, declared.sink.SinkFault.SinkFault}
use Rattle.edge_io.specs.declared.sink.SinkFault.TheVariants as sink
use Rattle.wait_model.specs.declared.layout.TheConstants.{EVENTS, INPUT_BYTES}
use Rattle.wait_script.specs.{Lines.VersionedLines, Lines.events_asked, Script.script_of, Replay.replay_text}
use Rattle.wait_script.specs.declared.script.ReadScript.{ReadScript}
use Rattle.waitq_alone.specs.{declared.fault.Fault.Fault}
use Rattle.waitq_alone.specs.Fault.{sink_fault, script_fault, status_of}
use Rattle.waitq_alone.specs.Outcome.{Verdict, TooLong, BadLine, Text, script_verdict, verdict_of, IsFaultOf, Answers}
use Rattle.waitq_alone.specs.Outcome.{LeavesUnwritten, IsBad}
use Rattle.waitq_alone.specs.declared.fault.Fault.TheVariants as fault
use Rattle.wait_script.specs.Script as script
use Rattle.wait_script.specs.declared.script.ReadScript.TheVariants as read
use Rattle.edge_io.proofs.Prefix.{nothing}

pub at : (v w : Verdict) (old new : Option (List ℕ)) (r : Result (Unit {0}) Fault) → v ≡ w
    → Answers w old new r → Answers v old new r
at v w old new r e h = subst (λ (u : Verdict). Answers u old new r) (sym e) h

pub few : (s : VersionedLines) → sum_by events_asked s.lines ≤ EVENTS
    → script_verdict (Ok s) ≡ Text (replay_text s.lines)
few s h = grind (arith, nat_tests)

pub short : (bytes : List ℕ) → length bytes ≤ INPUT_BYTES → verdict_of bytes ≡ script_verdict (script_of bytes)
short bytes h = grind (arith, nat_tests)

pub broken : (old new : Option (List ℕ)) (text : List ℕ) (e : SinkFault) → HoldsPrefix old new text
    → IsFaultOf (Text text) old new (sink_fault e)
broken old new text sink.Failed p = p
broken old new text sink.OutOfMemory p = p

-- want of memory before anything was written
pub quiet : (v : Verdict) (old : Option (List ℕ)) → IsFaultOf v old old fault.Memory
quiet TooLong old = refl
quiet (BadLine line why) old = refl
quiet (Text text) old = nothing old text

pub refused : (bytes : List ℕ) (old : Option (List ℕ)) (e : ReadScript) → length bytes ≤ INPUT_BYTES
    → script.Refuses e (script_of bytes) → IsFaultOf (verdict_of bytes) old old (script_fault e)
refused bytes old (read.Bad line why) le h =
    let e : verdict_of bytes ≡ BadLine line why = short bytes le ∙ ap script_verdict h in
    subst (λ (u : Verdict). IsFaultOf u old old (fault.Script line why)) (sym e) (refl, refl, refl)
refused bytes old read.OutOfMemory le h = quiet (verdict_of bytes) old

bad : (v : Verdict) (old new : Option (List ℕ)) (f : Fault) → IsFaultOf v old new f → status_of f ≡ 3 → IsBad v
bad (BadLine line why) old new f h e = tt
bad v old new fault.Usage h e = absurd (omega arith)
bad v old new f h e = absurd (grind arith)

-- a sink failed
pub touched : (old new : Option (List ℕ)) (e : SinkFault) → LeavesUnwritten old new (Err (sink_fault e))
touched old new sink.Failed = tt
touched old new sink.OutOfMemory = tt

-- of the bytes that were read, which are those that the input had
pub of_input : (input : Option (List ℕ)) (read seen : List ℕ) (old new : Option (List ℕ))
    (answer : Result (Unit {0}) Fault) → IfSome input (λ bytes. bytes ≡ read) → seen ≡ read
    → Answers (verdict_of seen) old new answer → IfSome input (λ bytes. Answers (verdict_of bytes) old new answer)
of_input None read seen old new answer w e h = tt
of_input (Some bytes) read seen old new answer w e h =
    at (verdict_of bytes) (verdict_of seen) old new answer (ap verdict_of (w ∙ sym e)) h
