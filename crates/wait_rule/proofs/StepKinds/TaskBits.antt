-- What the bits of masks make of a task's word. Each fact is tried at every state and every flag.
use Rattle.std.proofs.Common.{refl, sym, subst, arith, inl, inr, bit_or, eqb-true}
use Rattle.std.specs.Prelude.{◌*◌, ℕ, ◌≡◌, ◌+◌, ◌<◌, ◌⊎◌, Bool, true, false, ◌&&◌, ◌==◌, bit_and}
use Rattle.wait_model.specs.declared.layout.TheConstants.{RUNNING, INTERRUPTIBLE, UNINTERRUPTIBLE, KILLABLE, RUNNABLE}
use Rattle.wait_model.specs.declared.layout.TheConstants.{SIGNAL, FATAL}
use Rattle.wait_model.specs.declared.tasks.TaskRecord.{TaskRecord}
use Rattle.wait_model.specs.Tasks.{task_word, IsLawful, raised, accepted, bit, IsLawfulWord}
use Rattle.wait_model.proofs.WordLaws.DecodedWords.{task_read}
use Rattle.wait_rule.specs.declared.tasks.TheConstants.{NO_STATE, NO_SIGNAL}
use Rattle.wait_rule.specs.Plays.{fatal_bits}

abbrev of : ℕ → Bool → Bool → Bool → TaskRecord
of s a b c = record { state = s; runnable = a; signal = b; fatal = c }

abbrev all : (Bool → Bool) → Bool
all f = f true && f false

abbrev at_state : (TaskRecord → Bool) → ℕ → Bool
at_state test s = all (λ a. all (λ b. all (λ c. test (of s a b c))))

abbrev everywhere : (TaskRecord → Bool) → Bool
everywhere test = at_state test RUNNING && (at_state test INTERRUPTIBLE
    && (at_state test UNINTERRUPTIBLE && at_state test KILLABLE))

left : (a b : Bool) → (a && b) ≡ true → a ≡ true
left true b h = refl
left false b h = h

right : (a b : Bool) → (a && b) ≡ true → b ≡ true
right true b h = h
right false b h = absurd (cc)

pick : (f : Bool → Bool) (x : Bool) → all f ≡ true → f x ≡ true
pick f true h = left (f true) (f false) h
pick f false h = right (f true) (f false) h

by_flags : (test : TaskRecord → Bool) (s : ℕ) (a b c : Bool) → at_state test s ≡ true → test (of s a b c) ≡ true
by_flags test s a b c h = pick (λ c. test (of s a b c)) c
    (pick (λ b. all (λ c. test (of s a b c))) b (pick (λ a. all (λ b. all (λ c. test (of s a b c)))) a h))

abbrev from_two : (TaskRecord → Bool) → Bool
from_two test = at_state test UNINTERRUPTIBLE && at_state test KILLABLE

abbrev from_one : (TaskRecord → Bool) → Bool
from_one test = at_state test INTERRUPTIBLE && from_two test

by_state : (test : TaskRecord → Bool) (s : ℕ) (a b c : Bool)
    → (s ≡ RUNNING) ⊎ ((s ≡ INTERRUPTIBLE) ⊎ ((s ≡ UNINTERRUPTIBLE) ⊎ (s ≡ KILLABLE))) → everywhere test ≡ true
    → test (of s a b c) ≡ true
by_state test s a b c (inl q) h = subst (λ (k : ℕ). test (of k a b c) ≡ true) (sym q)
    (by_flags test RUNNING a b c (left (at_state test RUNNING) (from_one test) h))
by_state test s a b c (inr (inl q)) h = subst (λ (k : ℕ). test (of k a b c) ≡ true) (sym q)
    (by_flags test INTERRUPTIBLE a b c (left (at_state test INTERRUPTIBLE) (from_two test)
    (right (at_state test RUNNING) (from_one test) h)))
by_state test s a b c (inr (inr (inl q))) h = subst (λ (k : ℕ). test (of k a b c) ≡ true) (sym q)
    (by_flags test UNINTERRUPTIBLE a b c (left (at_state test UNINTERRUPTIBLE) (at_state test KILLABLE)
    (right (at_state test INTERRUPTIBLE) (from_two test) (right (at_state test RUNNING) (from_one test) h))))
by_state test s a b c (inr (inr (inr q))) h = subst (λ (k : ℕ). test (of k a b c) ≡ true) (sym q)
    (by_flags test KILLABLE a b c (right (at_state test UNINTERRUPTIBLE) (at_state test KILLABLE)
    (right (at_state test INTERRUPTIBLE) (from_two test) (right (at_state test RUNNING) (from_one test) h))))

-- what holds of each lawful task
tried : (test : TaskRecord → Bool) (t : TaskRecord) → IsLawful t → everywhere test ≡ true → test t ≡ true
tried test t l h = by_state test t.state t.runnable t.signal t.fatal l.state h

pub run_word : (t : TaskRecord) → IsLawful t
    → bit_and (task_word t) NO_STATE ≡ task_word (record t { state = RUNNING })
run_word t l = eqb-true (bit_and (task_word t) NO_STATE) (task_word (record t { state = RUNNING }))
    (tried (λ t. bit_and (task_word t) NO_STATE == task_word (record t { state = RUNNING })) t l refl)

pub raised_word : (t : TaskRecord) → IsLawful t → bit_or (task_word t) SIGNAL ≡ task_word (raised false t)
raised_word t l = eqb-true (bit_or (task_word t) SIGNAL) (task_word (raised false t))
    (tried (λ t. bit_or (task_word t) SIGNAL == task_word (raised false t)) t l refl)

pub fatal_word : (t : TaskRecord) → IsLawful t → bit_or (task_word t) fatal_bits ≡ task_word (raised true t)
fatal_word t l = eqb-true (bit_or (task_word t) fatal_bits) (task_word (raised true t))
    (tried (λ t. bit_or (task_word t) fatal_bits == task_word (raised true t)) t l refl)

pub accepted_word : (t : TaskRecord) → IsLawful t
    → bit_and (task_word t) NO_SIGNAL ≡ task_word (accepted t)
accepted_word t l = eqb-true (bit_and (task_word t) NO_SIGNAL) (task_word (accepted t))
    (tried (λ t. bit_and (task_word t) NO_SIGNAL == task_word (accepted t)) t l refl)

-- a state over RUNNING or over itself
abbrev or_test : ℕ → TaskRecord → Bool
or_test v t = bit_or (task_word (record t { state = v })) v == task_word (record t { state = v })

abbrev or_first : ℕ → TaskRecord → Bool
or_first v t = bit_or (task_word (record t { state = RUNNING })) v == task_word (record t { state = v })

over : (v : ℕ) (t : TaskRecord) → IsLawful t → everywhere (or_test v) ≡ true → everywhere (or_first v) ≡ true
    → (t.state ≡ RUNNING) ⊎ (t.state ≡ v) → bit_or (task_word t) v ≡ task_word (record t { state = v })
over v t l same first (inl q) =
    let e : bit_or (task_word (record t { state = RUNNING })) v ≡ task_word (record t { state = v }) =
    eqb-true (bit_or (task_word (record t { state = RUNNING })) v) (task_word (record t { state = v }))
    (tried (or_first v) t l first) in
    subst (λ (k : ℕ). bit_or (task_word (record t { state = k })) v ≡ task_word (record t { state = v })) (sym q) e
over v t l same first (inr q) =
    let e : bit_or (task_word (record t { state = v })) v ≡ task_word (record t { state = v }) =
    eqb-true (bit_or (task_word (record t { state = v })) v) (task_word (record t { state = v }))
    (tried (or_test v) t l same) in
    subst (λ (k : ℕ). bit_or (task_word (record t { state = k })) v ≡ task_word (record t { state = v })) (sym q) e

pub state_word : (v : ℕ) (t : TaskRecord) → IsLawful t → (v ≡ INTERRUPTIBLE) ⊎ ((v ≡ UNINTERRUPTIBLE) ⊎ (v ≡ KILLABLE))
    → (t.state ≡ RUNNING) ⊎ (t.state ≡ v) → bit_or (task_word t) v ≡ task_word (record t { state = v })
state_word v t l (inl q) h = subst
    (λ (k : ℕ). (t.state ≡ RUNNING) ⊎ (t.state ≡ k) → bit_or (task_word t) k ≡ task_word (record t { state = k }))
    (sym q)
    (over INTERRUPTIBLE t l refl refl) h
state_word v t l (inr (inl q)) h = subst
    (λ (k : ℕ). (t.state ≡ RUNNING) ⊎ (t.state ≡ k) → bit_or (task_word t) k ≡ task_word (record t { state = k }))
    (sym q)
    (over UNINTERRUPTIBLE t l refl refl) h
state_word v t l (inr (inr q)) h = subst
    (λ (k : ℕ). (t.state ≡ RUNNING) ⊎ (t.state ≡ k) → bit_or (task_word t) k ≡ task_word (record t { state = k }))
    (sym q)
    (over KILLABLE t l refl refl) h

bit_most : (b : Bool) (n : ℕ) → bit b n < n + 1
bit_most true n = omega arith
bit_most false n = omega arith

-- the word of a lawful task is lawful
pub word_lawful : (t : TaskRecord) → IsLawful t → IsLawfulWord (task_word t)
word_lawful t l = (fits l.state, subst IsLawful (sym (task_read t l)) l)
  where
    fits : (t.state ≡ RUNNING) ⊎ ((t.state ≡ INTERRUPTIBLE) ⊎ ((t.state ≡ UNINTERRUPTIBLE) ⊎ (t.state ≡ KILLABLE)))
        → task_word t < 2 * FATAL
    fits (inl q) =
        let a = bit_most t.runnable RUNNABLE in
        let b = bit_most t.signal SIGNAL in
        let c = bit_most t.fatal FATAL in
        omega arith
    fits (inr (inl q)) =
        let a = bit_most t.runnable RUNNABLE in
        let b = bit_most t.signal SIGNAL in
        let c = bit_most t.fatal FATAL in
        omega arith
    fits (inr (inr (inl q))) =
        let a = bit_most t.runnable RUNNABLE in
        let b = bit_most t.signal SIGNAL in
        let c = bit_most t.fatal FATAL in
        omega arith
    fits (inr (inr (inr q))) =
        let a = bit_most t.runnable RUNNABLE in
        let b = bit_most t.signal SIGNAL in
        let c = bit_most t.fatal FATAL in
        omega arith
