-- What waking, sleeping and signals leave of a task's word is read back.
use Rattle.std.proofs.Common.{arith}
use Rattle.std.specs.Prelude.{ℕ, ◌≡◌, ◌<◌, Bool, true, false, ◌==◌, if◌then◌else◌}
use Rattle.wait_model.specs.declared.layout.TheConstants.{STATES}
use Rattle.wait_model.specs.Tasks.{meets, pending, woken, slept, raised, accepted, task_word, task_of}
use Rattle.wait_model.proofs.WordLaws.DecodedWords.{record_read}

small : (w : ℕ) → (task_of w).state < STATES
unfolding task_of
small w = omega arith

pub woken_read : (mask w : ℕ) → task_of (task_word (woken mask (task_of w))) ≡ woken mask (task_of w)
woken_read mask w = record_read (woken mask (task_of w)) (by (meets mask (task_of w).state))
  where
    by : (b : Bool) → (if b then record (task_of w) { state = 0; runnable = true } else task_of w).state < STATES
    by true = omega arith
    by false = small w

pub slept_read : (w : ℕ) → task_of (task_word (slept (task_of w))) ≡ slept (task_of w)
slept_read w = record_read (slept (task_of w)) (by ((task_of w).state == 0)
    (pending (task_of w).state (task_of w)))
  where
    by : (a b : Bool) → (if a then task_of w else if b then record (task_of w) { state = 0 }
        else record (task_of w) { runnable = false }).state < STATES
    by true b = small w
    by false true = omega arith
    by false false = small w

pub raised_read : (fatal : Bool) (w : ℕ) → task_of (task_word (raised fatal (task_of w)))
    ≡ raised fatal (task_of w)
raised_read fatal w = record_read (raised fatal (task_of w)) (small w)

pub accepted_read : (w : ℕ) → task_of (task_word (accepted (task_of w))) ≡ accepted (task_of w)
accepted_read w = record_read (accepted (task_of w)) (small w)
