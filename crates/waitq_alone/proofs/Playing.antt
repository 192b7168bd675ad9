-- One step, and one line, of a replay's text.
use Rattle.std.proofs.Common.{◌≡◌, ℕ, suc, ◌+◌, ◌-◌, ◌<◌, ◌≤◌, Bool, true, false, cond, List, [], ◌∷◌, ◌++◌, length}
use Rattle.std.proofs.Common.{drop, get_or, Option, Result, Ok, Err, OnOk, refl, ap, sym, ◌∙◌, arith, add-one}
use Rattle.std.proofs.Common.{drop-cons}
use Rattle.std.proofs.lemmas.List.{append-nil}
use Rattle.std.proofs.lemmas.Grind.{common_steps}
use Rattle.edge_io.specs.Text.{Midway, WritesText}
use Rattle.edge_io.proofs.{Prefix.finished, Sending.emptied, Sending.stuck}
use Rattle.wait_model.specs.declared.calls.Ran.{Ran}
use Rattle.wait_core.specs.declared.engine.Stepped.{Stepped}
use Rattle.wait_script.specs.{declared.line.Line.Line, Text.step_text, Ending.ending_text}
use Rattle.wait_script.specs.Replay.{stops, then_text, played_steps, answer_at, run_after, replay_line, replay_from}

-- the text of n steps and one more, by the answer of the first
abbrev after : ℕ → List Ran → ℕ → Stepped → List ℕ × List Ran
after n run task answer =
    cond (stops answer) (step_text task answer, run_after run task answer)
    (then_text (step_text task answer) (played_steps n (run_after run task answer) task))

module _ (count i : ℕ) (run : List Ran) (task : ℕ) (answer : Stepped) (new : List Ran) (lt : i < count)
    (is : answer ≡ answer_at run task) (grown : new ≡ run_after run task answer) where
  at_step : played_steps (count - i) run task ≡ after (count - (i + 1)) run task answer
  at_step =
      let one : count - i ≡ suc (count - (i + 1)) = omega arith in
      ap (λ n. played_steps n run task) one ∙ ap (after (count - (i + 1)) run task) (sym is)

  pub stopping : stops answer ≡ true → played_steps (count - i) run task ≡ (step_text task answer, new)
  stopping stop =
      at_step
      ∙ ap (λ b. cond b (step_text task answer, run_after run task answer)
      (then_text (step_text task answer) (played_steps (count - (i + 1)) (run_after run task answer) task))) stop
      ∙ ap (λ r. (step_text task answer, r)) (sym grown)

  pub going : stops answer ≡ false
      → played_steps (count - i) run task ≡ then_text (step_text task answer)
      (played_steps (count - (i + 1)) new task)
  going stop =
      at_step
      ∙ ap (λ b. cond b (step_text task answer, run_after run task answer)
      (then_text (step_text task answer) (played_steps (count - (i + 1)) (run_after run task answer) task))) stop
      ∙ ap (λ r. then_text (step_text task answer) (played_steps (count - (i + 1)) r task)) (sym grown)

  -- the text begins with that of the next step
  pub piece : (rest : List ℕ) × ((played_steps (count - i) run task).0 ≡ step_text task answer ++ rest)
  piece =
      let f = first (stops answer) (step_text task answer) (run_after run task answer)
      (played_steps (count - (i + 1)) (run_after run task answer) task) in
      (f.0, ap (λ r. r.0) at_step ∙ f.1)
    where
      first : (b : Bool) (text : List ℕ) (now : List Ran) (more : List ℕ × List Ran)
          → (rest : List ℕ) × ((cond b (text, now) (then_text text more)).0 ≡ text ++ rest)
      first true text now more = ([], sym (append-nil text))
      first false text now more = (more.0, refl)

-- the next line
pub replay-at : (lines : List Line) (i : ℕ) (d : Line) (run : List Ran) → i < length lines
    → replay_from run (drop i lines)
    ≡ (replay_line run (get_or lines i d)).0 ++ replay_from (replay_line run (get_or lines i d)).1
    (drop (i + 1) lines)
replay-at lines i d run lt =
    let cut : drop i lines ≡ get_or lines i d ∷ drop (i + 1) lines = rw (add-one) (drop-cons lines i d lt) in
    ap (replay_from run) cut

-- after the last line
pub last_text : (lines : List Line) (i : ℕ) (run : List Ran) → length lines ≤ i
    → replay_from run (drop i lines) ≡ ending_text run ++ []
last_text lines i run le = let none : drop i lines ≡ [] = grind (arith, common_steps)
    in ap (replay_from run) none ∙ sym (append-nil (ending_text run))

-- what was in the buffer goes out last
pub drained : {T E : Type 0} (r : Result T E) (old now new : Option (List ℕ)) (buffer after text : List ℕ)
    → Midway old now (buffer ++ []) text → Midway now new after buffer → OnOk r (after ≡ [])
    → WritesText old new text r
drained (Ok x) old now new buffer after text m sent empty =
    finished old new [] text (emptied old now new buffer after [] text m sent empty) refl
drained (Err e) old now new buffer after text m sent empty = stuck old now new buffer after [] text m sent

-- nothing is to come any more
pub all_sent : (old now : Option (List ℕ)) (buffer text : List ℕ) → Midway old now (buffer ++ []) text
    → Midway old now buffer text
all_sent old now buffer text m = record {
  front = m.front;
  whole = m.whole ∙ ap (λ xs. m.front ++ xs) (append-nil buffer);
  held = m.held;
}
