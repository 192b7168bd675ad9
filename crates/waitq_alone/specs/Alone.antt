-- To be believed.
-- Which status an answer has, and what of it is written where.
use Rattle.std.specs.Prelude.{◌≡◌, ℕ, List, Option, Result, Ok, Err, IfSome}
use Rattle.std.specs.Prelude.{Bool, ◌||◌, ◌==◌}
use Rattle.std.specs.Io.KnownBytes.{append_known}
use Rattle.edge_io.specs.Text.{HoldsPrefix}
use Rattle.waitq_alone.specs.{Fault.status_of, Fault.fault_text, Outcome.Verdict, Outcome.Answers}
use Rattle.waitq_alone.specs.declared.fault.Fault.{Fault}

abbrev pub exit_status : Result (Unit {0}) Fault → ℕ
exit_status (Ok x) = 0
exit_status (Err fault) = status_of fault

-- A fault's line, or a front of it, was written: the whole line where the counts of the stream have stayed.
-- Nothing was written where there is no fault.
abbrev pub Reports : Option (List ℕ) → Option (List ℕ) → Type 0 → Result (Unit {0}) Fault → Type 0
Reports old new stayed (Ok x) = new ≡ old
Reports old new stayed (Err fault) =
    HoldsPrefix old new (fault_text fault) × (stayed → new ≡ append_known old (fault_text fault))

-- the statuses of refused words, a refused script, an input that can't be read, a copy that was killed, a refused
-- input, and a queue without a place
abbrev pub is_quiet : ℕ → Bool
is_quiet status = status == 2 || status == 3 || status == 4 || status == 6 || status == 8 || status == 9

-- The status is that of an answer, as the verdict has it, and err got the answer's line, in whole where err_stayed
-- holds.
pub record Finishes (verdict : Option Verdict) (out_old out_new err_old err_new : Option (List ℕ))
    (err_stayed : Type 0) (status : ℕ) : Type 0 where
  pub answer : Result (Unit {0}) Fault
  pub number : status ≡ exit_status answer
  pub outcome : IfSome verdict (λ v. Answers v out_old out_new answer)
  pub line : Reports err_old err_new err_stayed answer
