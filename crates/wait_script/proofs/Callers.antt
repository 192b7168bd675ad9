-- Which tasks of a script may make a call, by its words.
use Rattle.std.proofs.Common.{◌≡◌, ℕ, ◌≤◌, Bool, true, false, List, [], ◌∷◌, nat_le, nat_lt, refl, sym, ◌∙◌, arith}
use mathlib.Core.Bool.{◌&&◌}
use Rattle.std.proofs.lemmas.Bool.Decides.{nat_tests}
use Rattle.wait_model.specs.{declared.calls.Call.Call, declared.layout.TheConstants.FIRST_SIMPLE}
use Rattle.wait_model.specs.{declared.layout.TheConstants.PRIORITY_TASKS, Admission.is_in_range}
use Rattle.wait_model.specs.declared.calls.Call.TheVariants as call
use Rattle.wait_model.specs.declared.queues.Form.TheVariants as form
use Rattle.wait_script.specs.{declared.version.Version.Version, Fields.last_priority_task, Forms.last_of}
use Rattle.wait_script.specs.{Forms.call_words, Versions.last_task}
use Rattle.wait_script.proofs.Truths.{both_true, parts_true}

-- the last task that may make a call
abbrev pub last_by : Version → List (List ℕ) → ℕ
last_by v [] = last_task v
last_by v (name ∷ rest) = last_of v name rest

any_task : (b : Bool) (task last : ℕ) → task ≤ last → b ≡ (b && nat_le task last)
any_task true task last h = grind (arith, nat_tests)
any_task false task last h = refl

first_tasks : (b : Bool) (task : ℕ) → (b && nat_lt task PRIORITY_TASKS)
    ≡ ((b && true) && nat_le task last_priority_task)
first_tasks true task = grind (arith, nat_tests)
first_tasks false task = refl

-- the ranges of a task are those of task 0, and that the task is none after the last
ranged : (v : Version) (c : Call) (task : ℕ) → task ≤ last_task v
    → is_in_range task c ≡ (is_in_range 0 c && nat_le task (last_by v (call_words c)))
ranged v (call.Add c k form.Front) task h = any_task (nat_lt c FIRST_SIMPLE && true) task (last_task v) h
ranged v (call.Add c k form.Tail) task h = any_task (nat_lt c FIRST_SIMPLE && true) task (last_task v) h
ranged v (call.Add c k form.Priority) task h = first_tasks (nat_lt c FIRST_SIMPLE) task
ranged v _ task h = any_task _ task (last_task v) h

pub for_task : (v : Version) (c : Call) (task : ℕ) → task ≤ last_task v → task ≤ last_by v (call_words c)
    → is_in_range 0 c ≡ true → is_in_range task c ≡ true
for_task v c task h most r =
    let last = last_by v (call_words c) in
    ranged v c task h ∙ both_true (is_in_range 0 c) (nat_le task last) r (test task last most)
  where
    test : (n m : ℕ) → n ≤ m → nat_le n m ≡ true
    test n m h = grind (arith, nat_tests)

pub is_caller : (v : Version) (c : Call) (task : ℕ) → task ≤ last_task v → is_in_range task c ≡ true
    → task ≤ last_by v (call_words c)
is_caller v c task h r =
    let last = last_by v (call_words c) in
    at_most task last (parts_true (is_in_range 0 c) (nat_le task last) (sym (ranged v c task h) ∙ r)).1
  where
    at_most : (n m : ℕ) → nat_le n m ≡ true → n ≤ m
    at_most n m h = grind (arith, nat_tests)
