-- What an answer to bytes says of their spelling, and of what a core asks.
use Rattle.std.proofs.Common.{◌≡◌, ℕ, List, Result, Ok, Err, IfOk, All, refl, ap, ◌∙◌}
use Rattle.wait_script.specs.{declared.line.Line.Line, declared.version.Version.Version}
use Rattle.wait_script.specs.{declared.script.ReadScript.ReadScript, declared.script.ReadScript.TheVariants.Bad}
use Rattle.wait_script.specs.{declared.script.ReadScript.TheVariants.OutOfMemory, Lines.VersionedLines}
use Rattle.wait_script.specs.Script.{script_of, AnswersAs, IsReadAs}
use Rattle.wait_script.specs.Spelling.{script_text, IsFit, IsFitScript, IsPlayable}
use Rattle.wait_script.specs.declared.line.Line.TheVariants as line
use Rattle.wait_script.proofs.{ReadLines.script_ok, SpelledLines.script_read}

line_plays : (v : Version) (l : Line) → IsFit v l → IsPlayable l
line_plays v (line.Call task c) h = h.1.1
line_plays v (line.Step task count) h = tt

pub fit_plays : (s : VersionedLines) → IsFitScript s → All IsPlayable s.lines
fit_plays s h = λ k d inside. line_plays s.version _ (h k d inside)

module _ (bytes : List ℕ) where
  pub spelled : (r : Result VersionedLines ReadScript) → AnswersAs (λ s. s) r (script_of bytes)
      → IfOk r (λ s. bytes ≡ script_text s)
  spelled (Ok s) h = (script_ok bytes s h).0
  spelled (Err e) h = tt

  pub fits : (r : Result VersionedLines ReadScript) → AnswersAs (λ s. s) r (script_of bytes)
      → IfOk r IsFitScript
  fits (Ok s) h = (script_ok bytes s h).1
  fits (Err e) h = tt

  pub again : (r : Result VersionedLines ReadScript) → AnswersAs (λ s. s) r (script_of bytes)
      → (s : VersionedLines) → IsFitScript s → bytes ≡ script_text s → IsReadAs s r
  again (Ok read) h s fit is =
      let e : script_of bytes ≡ Ok s = ap script_of is ∙ script_read s fit in
      cc
  again (Err (Bad line why)) h s fit is =
      let e : script_of bytes ≡ Ok s = ap script_of is ∙ script_read s fit in
      absurd (cc (h, e))
  again (Err OutOfMemory) h s fit is = refl

  pub plays : (r : Result VersionedLines ReadScript) → AnswersAs (λ s. s) r (script_of bytes)
      → IfOk r (λ s. All IsPlayable s.lines)
  plays (Ok s) h = fit_plays s (script_ok bytes s h).1
  plays (Err e) h = tt
