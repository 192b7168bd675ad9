-- The lines of a drill: they are fit, and each call asks for 40 events.
use Rattle.std.proofs.Common.{◌≡◌, ℕ, zero, suc, ◌+◌, ◌-◌, ◌*◌, ◌/◌, ◌^◌, ◌<◌, ◌≤◌, Bool, true, false, ◌==◌}
use Rattle.std.proofs.Common.{if◌then◌else◌, ◌&&◌, List, [], ◌∷◌, ◌++◌, All, refl, ap, sym, ◌∙◌, append_assoc, arith}
use Rattle.std.proofs.Common.{sum_by}
use Rattle.std.proofs.lemmas.Bool.{lt-ltb}
use Rattle.std.proofs.lemmas.List.Elements.{All-cons, All-append}
use Rattle.std.proofs.lemmas.List.{append-nil}
use Rattle.std.proofs.lemmas.List.Sums.{sum_by-append}
use Rattle.std.proofs.lemmas.Nat.{mod_below}
use Rattle.rand_xoshiro.specs.SplitMix64.{mix_u64}
use Rattle.wait_model.specs.declared.calls.Call.{Call}
use Rattle.wait_model.specs.declared.calls.Call.TheVariants as call
use Rattle.wait_model.specs.declared.watches.Mode.TheVariants as mode
use Rattle.wait_model.specs.declared.layout.TheConstants.{FIRST_SIMPLE, PLAIN_CONDITIONS, TASKS}
use Rattle.wait_script.specs.{declared.line.Line.Line, declared.version.Version.TheVariants.One, Versions.last_task}
use Rattle.wait_script.specs.{Lines.events_asked, Spelling.IsFit, Spelling.IsFitCall}
use Rattle.wait_script.specs.declared.line.Line.TheVariants as line
use Rattle.drill_gen.specs.Drill.{callers, call_kinds, conds, most_steps, plain, int, int_ex, task_in, kind_in}
use Rattle.drill_gen.specs.Drill.{drawn_cond, whom_in, call_of, drawn_call, drawn_lines, drawn_from, drill_of}

either : (task : ℕ) (test : Bool) (one other : Call) → IsFitCall One task one → IsFitCall One task other
    → IsFitCall One task (if test then one else other)
either task true one other fit more = fit
either task false one other fit more = more

fit_call : (task kind cond whom : ℕ) → cond < conds → whom < callers → IsFitCall One task (call_of kind cond whom)
fit_call task kind cond whom few near =
    let full = lt-ltb cond FIRST_SIMPLE (omega arith) in
    let any = lt-ltb cond PLAIN_CONDITIONS (omega arith) in
    let there = lt-ltb whom TASKS (omega arith) in
    let low : whom ≤ last_task One = omega (arith, near) in
    let none : 0 < 2 ^ 64 = omega arith in
    let one : 1 < 2 ^ 64 = omega arith in
    let from_6 = if kind == 6 then call.Signal whom false else call.Accept in
    let from_5 = if kind == 5 then call.Take cond else from_6 in
    let from_4 = if kind == 4 then call.Wake cond mode.Normal 0 else from_5 in
    let from_3 = if kind == 3 then call.Set cond 1 else from_4 in
    let from_2 = if kind == 2 then call.Wait cond int_ex else from_3 in
    let from_1 = if kind == 1 then call.Wait cond int else from_2 in
    let fit_6 = either task (kind == 6) (call.Signal whom false) call.Accept (there, refl, none, low)
    (refl, refl, none, tt) in
    let fit_5 = either task (kind == 5) (call.Take cond) from_6 (any, refl, none, tt) fit_6 in
    let woken = ap (λ b. b && true) full in
    let fit_4 = either task (kind == 4) (call.Wake cond mode.Normal 0) from_5 (woken, refl, none, omega arith) fit_5 in
    let fit_3 = either task (kind == 3) (call.Set cond 1) from_4 (any, refl, one, tt) fit_4 in
    let fit_2 = either task (kind == 2) (call.Wait cond int_ex) from_3 (full, refl, none, tt) fit_3 in
    let fit_1 = either task (kind == 1) (call.Wait cond int) from_2 (full, refl, none, tt) fit_2 in
    either task (kind == 0) (call.Wait cond plain) from_1 (full, refl, none, tt) fit_1

nothing : All (IsFit One) []
nothing k d lt = absurd (omega arith)

fit_lines : (word : ℕ) → All (IsFit One) (drawn_lines word)
fit_lines word =
    let near : task_in word < callers = mod_below word callers (omega arith) in
    let few : drawn_cond word < conds = mod_below (word / (callers * call_kinds)) conds (omega arith) in
    let there : whom_in word < callers = mod_below (word / (callers * call_kinds * conds)) callers (omega arith) in
    let task : task_in word ≤ last_task One = omega (arith, near) in
    let opened = fit_call (task_in word) (kind_in word) (drawn_cond word) (whom_in word) few there in
    All-cons (IsFit One) (line.Call (task_in word) (drawn_call word)) (line.Step (task_in word) most_steps ∷ [])
    (task, opened)
    (All-cons (IsFit One) (line.Step (task_in word) most_steps) [] (task, omega arith, omega arith) nothing)

fit_from : (state count : ℕ) → All (IsFit One) (drawn_from state count)
fit_from state zero = nothing
fit_from state (suc count) =
    All-append (IsFit One) (drawn_lines (mix_u64 state).0) (drawn_from (mix_u64 state).1 count)
    (fit_lines (mix_u64 state).0) (fit_from (mix_u64 state).1 count)

pub fits : (seed count : ℕ) → All (IsFit One) (drill_of seed count)
fits seed count = fit_from seed count

asks_from : (state count : ℕ) → sum_by events_asked (drawn_from state count) ≡ most_steps * count
asks_from state zero = refl
asks_from state (suc count) =
    let here = sum_by-append events_asked (drawn_lines (mix_u64 state).0) (drawn_from (mix_u64 state).1 count) in
    let more = asks_from (mix_u64 state).1 count in
    grind (arith, here, more)

pub asks : (seed count : ℕ) → sum_by events_asked (drill_of seed count) ≡ most_steps * count
asks seed count = asks_from seed count

-- the lines of one more word
pub goes_on : (whole before after : List Line) (count call state next word : ℕ) → call < count
    → (word, next) ≡ mix_u64 state → after ≡ before ++ drawn_lines word
    → whole ≡ before ++ drawn_from state (count - call)
    → whole ≡ after ++ drawn_from next (count - (call + 1))
goes_on whole before after count call state next word lt drew pushed was =
    let left = count - (call + 1) in
    let one : count - call ≡ suc left = omega arith in
    was ∙ ap (λ n. before ++ drawn_from state n) one
    ∙ sym (append_assoc before (drawn_lines (mix_u64 state).0) (drawn_from (mix_u64 state).1 left))
    ∙ ap (λ p. (before ++ drawn_lines p.0) ++ drawn_from p.1 left) (sym drew)
    ∙ ap (λ xs. xs ++ drawn_from next left) (sym pushed)

-- the lines once no word is left to draw
pub all_drawn : (whole lines : List Line) (count call state : ℕ) → count ≤ call
    → whole ≡ lines ++ drawn_from state (count - call) → whole ≡ lines
all_drawn whole lines count call state le was =
    let none : count - call ≡ 0 = omega arith in
    was ∙ ap (λ n. lines ++ drawn_from state n) none ∙ append-nil lines
