-- Lines that were read before others.
use Rattle.std.proofs.Common.{◌≡◌, ℕ, ◌+◌, List, ◌∷◌, ◌++◌, Result, Ok, Err, ap, sym, ◌∙◌}
use Rattle.wait_script.specs.{declared.line.Line.Line, declared.reason.Reason.Reason, declared.version.Version.Version}
use Rattle.wait_script.specs.{Lines.line_at, Reading.IsFirstLine}
use Rattle.wait_script.specs.Script.{parts_of, lines_from, and_lines}
use Rattle.wait_script.proofs.LineParts.{lines_from-step}

abbrev pub carried : List Line → Result (List Line) (ℕ × Reason) → Result (List Line) (ℕ × Reason)
carried front (Ok lines) = Ok (front ++ lines)
carried front (Err bad) = Err bad

-- the first line, by where it ends
pub read_first : (v : Version) (bytes line more : List ℕ) (read : Result Line Reason)
    → parts_of bytes ≡ line ∷ parts_of more → read ≡ line_at v line → IsFirstLine v bytes read more
read_first v bytes line more read cut e = λ number.
    ap (lines_from v number) cut ∙ lines_from-step v number line more
    ∙ ap (λ r. and_lines number r (lines_from v (number + 1) (parts_of more))) (sym e)

-- a bad line ends the reading
pub stops : (v : Version) (bytes rest more : List ℕ) (front : List Line) (number : ℕ) (why : Reason)
    → carried front (lines_from v number (parts_of rest)) ≡ lines_from v 2 (parts_of bytes)
    → IsFirstLine v rest (Err why) more
    → lines_from v 2 (parts_of bytes) ≡ Err (number, why)
stops v bytes rest more front number why same first = sym same ∙ ap (carried front) (first number)
