-- Words are read back to what they were made of.
use Rattle.std.proofs.Common.{refl, sym, ◌∙◌, ap, subst, arith, inl, inr}
use Rattle.std.specs.Prelude.{ℕ, ◌≡◌, ◌+◌, ◌-◌, ◌*◌, ◌/◌, ◌%◌, ◌^◌, ◌<◌, ◌⊎◌, Some, None, Bool, true, false, ◌==◌}
use Rattle.std.specs.Prelude.{nat_lt, if◌then◌else◌, ◌||◌}
use Rattle.wait_model.specs.{declared.watches.Watch.Watch, declared.watches.Kind.Kind, declared.watches.Entry.Entry}
use Rattle.wait_model.specs.{declared.tasks.TaskRecord.TaskRecord, Runs.own, Watches.head_of, Watches.owner}
use Rattle.wait_model.specs.{declared.queues.Mark.Mark, Tables.mark_of, Locations.mark_word}
use Rattle.wait_model.specs.declared.layout.TheConstants.{PLAIN_CONDITIONS, WORD_BITS, FIRST_PLAIN_HEAD, PLACES, STATES}
use Rattle.wait_model.specs.declared.layout.TheConstants.{RUNNABLE, SIGNAL, FATAL}
use Rattle.wait_model.specs.Tasks.{bit, task_word, task_of, IsLawful}
use Rattle.wait_model.specs.Words.{flag, kind_code, kind_numbered, key_of, watch_at, entry_word, Suited, IsLawfulEntry}
use Rattle.wait_model.specs.Words.{entry_of, head_word, held_of, spent_of, flag_of, done_word}
use Rattle.wait_model.specs.declared.watches.Watch.TheVariants as watch
use Rattle.wait_model.specs.declared.watches.Kind.TheVariants as kind

-- the parts of an entry word
module _ (key code prio excl place : ℕ) (hk : key < 2 ^ 14) (hc : code < 8) (hp : prio < 2) (hx : excl < 2)
    (hl : place < PLACES) where
  abbrev word : ℕ
  word = 2 ^ 63 + 2 ^ 45 * key + 2 ^ 42 * code + 2 ^ 41 * prio + 2 ^ 40 * excl + place

  key_read : (word / 2 ^ 45) % 2 ^ 14 ≡ key
  key_read = omega (arith, hk, hc, hp, hx, hl)

  code_read : (word / 2 ^ 42) % 8 ≡ code
  code_read = omega (arith, hk, hc, hp, hx, hl)

  priority_read : (word / 2 ^ 41) % 2 ≡ prio
  priority_read = omega (arith, hk, hc, hp, hx, hl)

  exclusive_read : (word / 2 ^ 40) % 2 ≡ excl
  exclusive_read = omega (arith, hk, hc, hp, hx, hl)

  place_read : word % 2 ^ 40 ≡ place
  place_read = omega (arith, hk, hc, hp, hx, hl)

  not_zero : (word == 0) ≡ false
  not_zero = grind arith

kind_read : (k : Kind) → kind_numbered (kind_code k) ≡ k
kind_read kind.Default = refl
kind_read _ = refl

code_small : (k : Kind) → kind_code k < 8
code_small kind.Default = omega arith
code_small _ = omega arith

flag_small : (b : Bool) → flag b < 2
flag_small true = omega arith
flag_small false = omega arith

flag_read : (b : Bool) → (flag b == 1) ≡ b
flag_read true = refl
flag_read false = refl

key_small : (c : Watch) (k : Kind) → Suited c k → key_of c < 2 ^ 14
key_small (watch.Bit w b) k h = omega (arith, h.0, h.1)
key_small _ k h = omega (arith, h.0)

-- a plain condition's entry is of none of the kinds of bits and variables
plain_code : (k : Kind) → (k ≡ kind.Default)
    ⊎ ((k ≡ kind.Autoremove) ⊎ ((k ≡ kind.Woken) ⊎ (k ≡ kind.Simple)))
    → (((kind_code k == 3) || (kind_code k == 6)) ≡ false) × ((kind_code k == 4) ≡ false)
plain_code kind.Bit h =
    absurd (elim h [
      | inl a ↦ cc
      | inr b ↦ elim b [ inl a ↦ cc | inr d ↦ elim d [ inl a ↦ cc | inr a ↦ cc ] ]
    ])
plain_code kind.Page h =
    absurd (elim h [
      | inl a ↦ cc
      | inr b ↦ elim b [ inl a ↦ cc | inr d ↦ elim d [ inl a ↦ cc | inr a ↦ cc ] ]
    ])
plain_code kind.Var h =
    absurd (elim h [
      | inl a ↦ cc
      | inr b ↦ elim b [ inl a ↦ cc | inr d ↦ elim d [ inl a ↦ cc | inr a ↦ cc ] ]
    ])
plain_code _ h = (refl, refl)

watch_read : (c : Watch) (k : Kind) → Suited c k → watch_at (kind_code k) (key_of c) ≡ c
watch_read (watch.Plain c) k h =
    let p = plain_code k h.1 in
    let q : nat_lt c PLAIN_CONDITIONS ≡ true = grind (arith, h.0) in
    rw (p.0, p.1, q) refl
watch_read (watch.Done d) k h = subst (λ (j : Kind). watch_at (kind_code j) (PLAIN_CONDITIONS + d) ≡ watch.Done d)
    (sym h.1)
    (done_read (nat_lt (PLAIN_CONDITIONS + d) PLAIN_CONDITIONS) (grind arith))
  where
    inner : ((PLAIN_CONDITIONS + d) - PLAIN_CONDITIONS) % 2 ^ 8 ≡ d
    inner = omega (arith, h.0)

    done_read : (b : Bool) → b ≡ false
        → (if b then watch.Plain (PLAIN_CONDITIONS + d)
        else watch.Done (((PLAIN_CONDITIONS + d) - PLAIN_CONDITIONS) % 2 ^ 8)) ≡ watch.Done d
    done_read true e = absurd (cc)
    done_read false e = ap (λ n. watch.Done n) inner
watch_read (watch.Bit w b) k h = elim h.2 [
  | inl e ↦ subst (λ (j : Kind). watch_at (kind_code j) (WORD_BITS * w + b) ≡ watch.Bit w b) (sym e) bit_read
  | inr e ↦ subst (λ (j : Kind). watch_at (kind_code j) (WORD_BITS * w + b) ≡ watch.Bit w b) (sym e.0) bit_read
]
  where
    word_is : (WORD_BITS * w + b) / WORD_BITS ≡ w
    word_is = omega (arith, h.1)

    bit_is : (WORD_BITS * w + b) % WORD_BITS ≡ b
    bit_is = omega (arith, h.1)

    bit_read : watch.Bit ((WORD_BITS * w + b) / WORD_BITS) ((WORD_BITS * w + b) % WORD_BITS) ≡ watch.Bit w b
    bit_read = rw (word_is, bit_is) refl
watch_read (watch.Var v o) k h = subst (λ (j : Kind). watch_at (kind_code j) v ≡ watch.Var v o) (sym h.2)
    (ap (λ n. watch.Var n 0) var_is ∙ ap (λ n. watch.Var v n) (sym h.1))
  where
    var_is : v % 2 ^ 8 ≡ v
    var_is = omega (arith, h.0)

pub entry_read : (e : Entry) → IsLawfulEntry e → entry_of (entry_word (Some e)) ≡ Some e
unfolding entry_of
entry_read e h =
    let hk = key_small e.watch e.kind h.suited in
    let hc = code_small e.kind in
    let hp = flag_small e.priority in
    let hx = flag_small e.exclusive in
    let a = key_read (key_of e.watch) (kind_code e.kind) (flag e.priority) (flag e.exclusive) e.place hk hc hp
    hx h.place in
    let b = code_read (key_of e.watch) (kind_code e.kind) (flag e.priority) (flag e.exclusive) e.place hk hc
    hp hx h.place in
    let p = priority_read (key_of e.watch) (kind_code e.kind) (flag e.priority) (flag e.exclusive) e.place hk
    hc hp hx h.place in
    let x = exclusive_read (key_of e.watch) (kind_code e.kind) (flag e.priority) (flag e.exclusive) e.place hk
    hc hp hx h.place in
    let l = place_read (key_of e.watch) (kind_code e.kind) (flag e.priority) (flag e.exclusive) e.place hk hc
    hp hx h.place in
    let z = not_zero (key_of e.watch) (kind_code e.kind) (flag e.priority) (flag e.exclusive) e.place hk hc hp
    hx h.place in
    rw (z, b, a, p, x, l) (rw (
      kind_read e.kind,
      watch_read e.watch e.kind h.suited,
      flag_read e.priority,
      flag_read e.exclusive,
    ) refl)

pub none_read : entry_of (entry_word None) ≡ None
unfolding entry_of
none_read = refl

module _ (s : ℕ) (fits : s < STATES) where
  state_read : (a b c : Bool) → (s + bit a RUNNABLE + bit b SIGNAL + bit c FATAL) % STATES ≡ s
  state_read a b c = grind arith

  runnable_read : (a b c : Bool)
      → (((s + bit a RUNNABLE + bit b SIGNAL + bit c FATAL) / RUNNABLE) % 2 == 1) ≡ a
  runnable_read a b c = grind arith

  signal_read : (a b c : Bool)
      → (((s + bit a RUNNABLE + bit b SIGNAL + bit c FATAL) / SIGNAL) % 2 == 1) ≡ b
  signal_read a b c = grind arith

  fatal_read : (a b c : Bool) → (((s + bit a RUNNABLE + bit b SIGNAL + bit c FATAL) / FATAL) % 2 == 1)
      ≡ c
  fatal_read a b c = grind arith

-- a lawful state has 16 bits
small_state : (t : TaskRecord) → IsLawful t → t.state < STATES
small_state t l = elim l.state [
  | inl a ↦ omega arith
  | inr b ↦ elim b [ inl a ↦ omega arith | inr d ↦ elim d [ inl a ↦ omega arith | inr a ↦ omega arith ] ]
]

pub record_read : (t : TaskRecord) → t.state < STATES → task_of (task_word t) ≡ t
unfolding task_of
record_read t h = rw (
  state_read t.state h t.runnable t.signal t.fatal,
  runnable_read t.state h t.runnable t.signal t.fatal,
  signal_read t.state h t.runnable t.signal t.fatal,
  fatal_read t.state h t.runnable t.signal t.fatal,
) refl

pub task_read : (t : TaskRecord) → IsLawful t → task_of (task_word t) ≡ t
task_read t l = record_read t (small_state t l)

pub spent_read : (held : Bool) (n : ℕ) → spent_of (head_word held n) ≡ n
unfolding spent_of
spent_read true n = omega arith
spent_read false n = omega arith

pub held_read : (held : Bool) (n : ℕ) → held_of (head_word held n) ≡ held
unfolding held_of
held_read true n = grind arith
held_read false n = grind arith

pub done_read_back : (woken done : Bool) → flag_of (done_word woken done) ≡ woken
unfolding flag_of
done_read_back true true = refl
done_read_back true false = refl
done_read_back false done = refl

pub head_plain : (c : ℕ) → head_of (watch.Plain c) ≡ FIRST_PLAIN_HEAD + c
unfolding head_of
head_plain c = refl

pub owner_own : (t : ℕ) → owner (own t) ≡ t
unfolding owner
owner_own t = omega arith

-- the word of a bookmark shows it
mark_head_read : (h p : ℕ) → h < 2 ^ 9 → p < PLACES → ((2 ^ 63 + 2 ^ 40 * h + p) / 2 ^ 40) % 2 ^ 9 ≡ h
mark_head_read h p a b = grind arith

mark_place_read : (h p : ℕ) → p < PLACES → (2 ^ 63 + 2 ^ 40 * h + p) % 2 ^ 40 ≡ p
mark_place_read h p b = grind arith

mark_not_zero : (h p : ℕ) → (2 ^ 63 + 2 ^ 40 * h + p == 0) ≡ false
mark_not_zero h p = grind arith

pub mark_read : (k : Mark) → k.head < 2 ^ 9 → k.place < PLACES → mark_of (mark_word (Some k)) ≡ Some k
unfolding mark_of
mark_read k a b = rw (
  mark_not_zero k.head k.place,
  mark_head_read k.head k.place a b,
  mark_place_read k.head k.place b,
) refl

pub no_mark_read : mark_of (mark_word None) ≡ None
unfolding mark_of
no_mark_read = refl
