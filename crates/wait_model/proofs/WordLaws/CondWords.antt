-- The words of conditions by their numbers, and what a store of one leaves.
use Rattle.std.proofs.lemmas.Bool.Decides.{nat_tests}
use Rattle.std.proofs.Common.{refl, ap, arith, inl, inr}
use Rattle.std.specs.Prelude.{ℕ, ◌≡◌, ◌+◌, ◌-◌, ◌*◌, ◌<◌, Bool, true, false, ◌||◌, ◌==◌, nat_lt, if◌then◌else◌, Some}
use Rattle.std.specs.Prelude.{None}
use Rattle.wait_model.specs.{declared.watches.Watch.Watch, declared.watches.Kind.Kind, declared.calls.Call.Call}
use Rattle.wait_model.specs.{Queues.is_exclusive, Words.Suited, Runs.is_publishing, Runs.set_step, Rows.Reads}
use Rattle.wait_model.specs.{Rows.Allowed, Reached.IsPlain, Reached.IsSimpleHead, Admission.IsGoing, Programs.done_in}
use Rattle.wait_model.specs.{DoneCounts.IsStored, Counts.raised_done, Counts.taken_done, Views.View, Fold.after}
use Rattle.wait_model.specs.declared.layout.TheConstants.{PLAIN_CONDITIONS, FIRST_SIMPLE, COMPLETIONS, BIT_WORDS}
use Rattle.wait_model.specs.declared.layout.TheConstants.{WORD_BITS, VARIABLES, FIRST_DONE, FIRST_BIT_WORD}
use Rattle.wait_model.specs.declared.layout.TheConstants.{FIRST_VARIABLE, CONDITIONS, HASHED_HEADS, HEADS, CONDITION_AT}
use Rattle.wait_model.specs.declared.layout.TheConstants.{ALL_DONE}
use Rattle.wait_model.specs.Watches.{hashed, head_of, IsThere, number_of, bare, kind_for, counted, is_done, is_bit}
use Rattle.wait_model.specs.Watches.{is_var, is_woken, is_simple, is_page}
use Rattle.wait_model.specs.Points.{call_watch, is_await, form_of}
use Rattle.wait_model.specs.Tables.{AreBitsLow, Words, Table, next, value_of}
use Rattle.wait_model.specs.Locations.{Plain, Done, Bits, Var, IsLocation, position_of, cond_at, word_in}
use Rattle.wait_model.specs.declared.watches.Watch.TheVariants as watch
use Rattle.wait_model.specs.declared.watches.Kind.TheVariants as kind
use Rattle.wait_model.specs.declared.steps.Step.TheVariants as step
use Rattle.wait_model.specs.declared.calls.Call.TheVariants as calls
use Rattle.wait_model.proofs.WordLaws.BitWords.{bit_word_reads}
use Rattle.std.specs.Prelude.{min, ◌≢◌}

-- the number of a condition word, its place, and its value
pub cond_located : (c : ℕ) → c < CONDITIONS → IsLocation (cond_at c)
cond_located c fits = grind (arith, nat_tests)

pub cond_position : (c : ℕ) → c < CONDITIONS → position_of (cond_at c) ≡ CONDITION_AT + c
cond_position c fits = grind (arith, nat_tests)

pub number_below : (c : Watch) → IsThere c → number_of c < CONDITIONS
number_below (watch.Bit w b) h = omega (arith, h.0)
number_below _ h = omega (arith, h)

pub plain_at : (c : ℕ) → c < PLAIN_CONDITIONS → cond_at c ≡ Plain c
plain_at c h = let a : nat_lt c FIRST_DONE ≡ true = grind (arith, nat_tests) in rw a refl

pub done_at : (d : ℕ) → d < COMPLETIONS → cond_at (FIRST_DONE + d) ≡ Done d
done_at d h =
    let a : nat_lt (FIRST_DONE + d) FIRST_DONE ≡ false = grind (arith, nat_tests) in
    let b : nat_lt (FIRST_DONE + d) FIRST_BIT_WORD ≡ true = grind (arith, nat_tests) in
    let s : (FIRST_DONE + d) - FIRST_DONE ≡ d = omega arith in
    rw (a, b, s) refl

pub bits_at : (w : ℕ) → w < BIT_WORDS → cond_at (FIRST_BIT_WORD + w) ≡ Bits w
bits_at w h =
    let a : nat_lt (FIRST_BIT_WORD + w) FIRST_DONE ≡ false = grind (arith, nat_tests) in
    let b : nat_lt (FIRST_BIT_WORD + w) FIRST_BIT_WORD ≡ false = grind (arith, nat_tests) in
    let d : nat_lt (FIRST_BIT_WORD + w) FIRST_VARIABLE ≡ true = grind (arith, nat_tests) in
    let s : (FIRST_BIT_WORD + w) - FIRST_BIT_WORD ≡ w = omega arith in
    rw (a, b, d, s) refl

pub var_at : (v : ℕ) → v < VARIABLES → cond_at (FIRST_VARIABLE + v) ≡ Var v
var_at v h =
    let a : nat_lt (FIRST_VARIABLE + v) FIRST_DONE ≡ false = grind (arith, nat_tests) in
    let b : nat_lt (FIRST_VARIABLE + v) FIRST_BIT_WORD ≡ false = grind (arith, nat_tests) in
    let d : nat_lt (FIRST_VARIABLE + v) FIRST_VARIABLE ≡ false = grind (arith, nat_tests) in
    let s : (FIRST_VARIABLE + v) - FIRST_VARIABLE ≡ v = omega arith in
    rw (a, b, d, s) refl

pub number_value : (t : Table) (c : Watch) → IsThere c → word_in t (cond_at (number_of c)) ≡ value_of t.words c
number_value t (watch.Plain c) h = ap (word_in t) (plain_at c h)
number_value t (watch.Done d) h = ap (word_in t) (done_at d h)
number_value t (watch.Bit w b) h = ap (word_in t) (bits_at w h.0)
number_value t (watch.Var v o) h = ap (word_in t) (var_at v h)

pub reads_value : (w : Words) → AreBitsLow w → (c : Watch) → IsThere c → Reads w c (value_of w c)
reads_value w low (watch.Bit i b) h = bit_word_reads w i b (low i)
reads_value w low _ h = refl

-- heads
pub head_of_bare : (c : Watch) → head_of (bare c) ≡ head_of c
unfolding head_of
head_of_bare (watch.Plain c) = refl
head_of_bare _ = refl

hashed_below : (n : ℕ) → hashed n < HASHED_HEADS
unfolding hashed
hashed_below n = omega arith

pub head_below : (c : Watch) → IsThere c → head_of c < HEADS
unfolding head_of
head_below (watch.Plain c) h = omega (arith, h)
head_below (watch.Done d) h = omega (arith, h)
head_below (watch.Bit w b) h = let l : hashed (w * WORD_BITS + b) < HASHED_HEADS = hashed_below (w * WORD_BITS + b) in
    omega arith
head_below (watch.Var v o) h = let l : hashed (BIT_WORDS + v) < HASHED_HEADS = hashed_below (BIT_WORDS + v) in
    omega arith

-- a walk over the head of a plain condition or a completion has a spent count
pub head_counted : (w c : Watch) → IsThere c → counted c ≡ true → head_of w ≡ head_of c → counted w ≡ true
unfolding head_of
head_counted (watch.Plain d) c h k e = refl
head_counted (watch.Done d) c h k e = refl
head_counted (watch.Bit i b) (watch.Plain c) h k e =
    absurd (let l : hashed (i * WORD_BITS + b) < HASHED_HEADS = hashed_below (i * WORD_BITS + b) in omega arith)
head_counted (watch.Bit i b) (watch.Done c) h k e =
    absurd (let l : hashed (i * WORD_BITS + b) < HASHED_HEADS = hashed_below (i * WORD_BITS + b) in omega arith)
head_counted (watch.Bit i b) (watch.Bit j a) h k e = absurd (cc)
head_counted (watch.Bit i b) (watch.Var v o) h k e = absurd (cc)
head_counted (watch.Var v o) (watch.Plain c) h k e =
    absurd (let l : hashed (BIT_WORDS + v) < HASHED_HEADS = hashed_below (BIT_WORDS + v) in omega arith)
head_counted (watch.Var v o) (watch.Done c) h k e =
    absurd (let l : hashed (BIT_WORDS + v) < HASHED_HEADS = hashed_below (BIT_WORDS + v) in omega arith)
head_counted (watch.Var v o) (watch.Bit j a) h k e = absurd (cc)
head_counted (watch.Var v o) (watch.Var j a) h k e = absurd (cc)

-- a wait for a variable is woken by each wake
pub var_shared : (call : Call) → is_var (call_watch call) ≡ true → is_exclusive (form_of call) ≡ false
var_shared (calls.WaitVar v old st) h = refl
var_shared (calls.SetVar v x) h = refl
var_shared call h = absurd (cc)

-- a selection is from the queue of a watch with a spent count
pub simple_counted : (c : Watch) → IsSimpleHead c → counted c ≡ true
simple_counted (watch.Plain c) h = refl
simple_counted (watch.Done d) h = refl
simple_counted (watch.Bit i b) h = absurd h
simple_counted (watch.Var v o) h = absurd h

pub done_simple : (c : Watch) → is_done c ≡ true → IsSimpleHead c
done_simple (watch.Done d) h = tt
done_simple _ h = absurd (cc)

pub await_done : (call : Call) → is_await call ≡ true → is_done (call_watch call) ≡ true
await_done (calls.WaitFor d st) h = refl
await_done call h = absurd (cc)

-- an entry by which a call waits suits what it waits for, and goes when it is woken
pub waits_suited : (c : Watch) → IsThere c → Suited (bare c) (kind_for c)
waits_suited (watch.Plain c) h = by (nat_lt c FIRST_SIMPLE) refl
  where
    by : (b : Bool) → nat_lt c FIRST_SIMPLE ≡ b → Suited (watch.Plain c) (if b then kind.Autoremove else kind.Simple)
    by true q = (
      h,
      inr (inl refl),
      λ l. absurd (let z : c < FIRST_SIMPLE = grind (arith, nat_tests) in
          omega arith),
    )
    by false q = (h, inr (inr (inr refl)), λ l. refl)
waits_suited (watch.Done d) h = (h, refl)
waits_suited (watch.Bit w b) h = (h.0, h.1, inl refl)
waits_suited (watch.Var v o) h = (h, refl, refl)

pub suits_of : (c : Watch) (k : Kind) → Suited c k → (is_done c ≡ true → is_simple k ≡ true)
    × (is_bit c ≡ true → is_woken k ≡ false)
suits_of (watch.Plain c) k h = ((λ b. absurd (cc)), (λ b. absurd (cc)))
suits_of (watch.Done d) k h = ((λ b. ap is_simple h.1), (λ b. absurd (cc)))
suits_of (watch.Bit w b) k h = (
  (λ b. absurd (cc)),
  (λ _. elim h.2 [ inl e ↦ ap is_woken e | inr e ↦ ap is_woken e.0 ]),
)
suits_of (watch.Var v o) k h = ((λ b. absurd (cc)), (λ b. absurd (cc)))

pub going_kind : (k j : Kind) → k ≡ j → IsGoing j → IsGoing k
going_kind k j e g = subst_going
  where
    subst_going : IsGoing k
    subst_going = rw e g

-- every entry at a simple head goes when it is woken
pub going_at : (w : Watch) (k : Kind) (c : Watch) → Suited w k → IsThere c → IsSimpleHead c
    → head_of w ≡ head_of c → IsGoing k
unfolding head_of
going_at (watch.Plain x) k (watch.Plain c) s t h e = going_kind k kind.Simple (s.2 (omega (arith, h, e))) refl
going_at (watch.Plain x) k (watch.Done d) s t h e = absurd (omega (arith, s.0, e))
going_at (watch.Plain x) k (watch.Bit i b) s t h e = absurd h
going_at (watch.Plain x) k (watch.Var v o) s t h e = absurd h
going_at (watch.Done d) k c s t h e = going_kind k kind.Simple s.1 refl
going_at (watch.Bit i b) k c s t h e =
    elim s.2 [ inl q ↦ going_kind k kind.Bit q refl | inr q ↦ going_kind k kind.Page q.0 refl ]
going_at (watch.Var v o) k c s t h e = going_kind k kind.Var s.2 refl

-- and none is one for a page
pub unpaged_at : (w : Watch) (k : Kind) (c : Watch) → Suited w k → IsThere c → IsSimpleHead c
    → head_of w ≡ head_of c → is_page k ≡ false
unfolding head_of
unpaged_at (watch.Plain x) k (watch.Plain c) s t h e = ap is_page (s.2 (omega (arith, h, e)))
unpaged_at (watch.Plain x) k (watch.Done d) s t h e = absurd (omega (arith, s.0, e))
unpaged_at (watch.Plain x) k (watch.Bit i b) s t h e = absurd h
unpaged_at (watch.Plain x) k (watch.Var v o) s t h e = absurd h
unpaged_at (watch.Done d) k c s t h e = ap is_page s.1
unpaged_at (watch.Bit i b) k (watch.Plain c) s t h e =
    absurd (let z : counted (watch.Bit i b) ≡ true = head_counted (watch.Bit i b) (watch.Plain c) t refl e in cc)
unpaged_at (watch.Bit i b) k (watch.Done d) s t h e =
    absurd (let z : counted (watch.Bit i b) ≡ true = head_counted (watch.Bit i b) (watch.Done d) t refl e in cc)
unpaged_at (watch.Bit i b) k (watch.Bit j d) s t h e = absurd h
unpaged_at (watch.Bit i b) k (watch.Var v o) s t h e = absurd h
unpaged_at (watch.Var v o) k c s t h e = ap is_page s.2

-- a store leaves all but the words, and the task's own view
pub record StoresOnly (t u : Table) : Type 0 where
  pub task : u.task ≡ t.task
  pub entry : u.entry ≡ t.entry
  pub mark : u.mark ≡ t.mark

module _ (t : Table) (a : ℕ) (c : Watch) (value found : ℕ) where
  pub set_rest : StoresOnly t (next t a (set_step c value found))
  set_rest = by (is_publishing c found value)
    where
      by : (b : Bool) → StoresOnly t (next t a (if b then step.Publish c value found
          else step.Consume c value found))
      by true = record { task = refl; entry = refl; mark = refl }
      by false = record { task = refl; entry = refl; mark = refl }

pub set_head : (c : Watch) (value found : ℕ) (v : View) → (after (set_step c value found) v).hold.head ≡ v.hold.head
set_head c value found v = by (is_publishing c found value)
  where
    by : (b : Bool) → (after (if b then step.Publish c value found else step.Consume c value found) v).hold.head
        ≡ v.hold.head
    by true = refl
    by false = refl

-- a store of a plain condition by a task that holds nothing, and one of a done count in a hold of its head
module _ (s : Table) (a : ℕ) where
  pub plain_store : (c : Watch) → IsPlain c → (s.view a).hold.head ≡ None → (value : ℕ)
      → Allowed s a (set_step c value (value_of s.words c))
  plain_store (watch.Plain c) h out value = (out, (λ b. absurd (cc)), refl)
  plain_store _ h out value = absurd h

  -- a store of a variable, and the steps that set a bit and clear it
  pub var_store : (v o : ℕ) → (s.view a).hold.head ≡ None → (value : ℕ)
      → Allowed s a (set_step (watch.Var v o) value (value_of s.words (watch.Var v o)))
  var_store v o out value = (out, (λ b. absurd (cc)), refl)

  pub tas_step : (w b : ℕ) → AreBitsLow s.words
      → Allowed s a (step.Consume (watch.Bit w b) 1 (value_of s.words (watch.Bit w b)))
  tas_step w b low = (tt, tt, bit_word_reads s.words w b (low w))

  pub clear_step : (w b : ℕ) → AreBitsLow s.words → (s.view a).hold.head ≡ None → (s.task a).state ≡ 0
      → (s.view a).bits.keeps (watch.Bit w b) ≡ true
      → Allowed s a (step.Publish (watch.Bit w b) 0 (value_of s.words (watch.Bit w b)))
  clear_step w b low out state keeps = (out, (λ _. (state, keeps)), bit_word_reads s.words w b (low w))

  pub done_store : (c : Watch) → is_done c ≡ true → (s.view a).hold.head ≡ Some (head_of c) → (value : ℕ)
      → Allowed s a (set_step c value (value_of s.words c))
  done_store (watch.Done d) h held value = by (nat_lt (s.words.dones d) value) (value == ALL_DONE) refl refl
    where
      by : (b e : Bool) → nat_lt (s.words.dones d) value ≡ b → (value == ALL_DONE) ≡ e
          → Allowed s a (if b || e then step.Publish (watch.Done d) value (s.words.dones d)
          else step.Consume (watch.Done d) value (s.words.dones d))
      by true e p q = (held, (λ b. absurd (cc)), refl)
      by false true p q = (held, (λ b. absurd (cc)), refl)
      by false false p q = ((λ z. grind (arith, nat_tests)), held, refl)
  done_store _ h held value = absurd (cc)

  pub take_store : (c : Watch) (k : ℕ) → c ≡ watch.Plain k → Allowed s a (step.Consume c 0 (value_of s.words c))
  take_store c k e = rw e (tt, tt, refl)

-- the stores that the calls on completions make
pub raised_counts : (value : ℕ) → IsStored (raised_done (done_in value)) value
raised_counts value = by (min value ALL_DONE == ALL_DONE) refl
  where
    by : (b : Bool) → (min value ALL_DONE == ALL_DONE) ≡ b
        → IsStored (if b then min value ALL_DONE else min value ALL_DONE + 1) value
    by true q = (omega arith, inr (inr (inr (grind (arith, nat_tests)))))
    by false q = (
      let ne : min value ALL_DONE ≢ ALL_DONE = grind (arith, nat_tests) in omega arith,
      inl (let ne : min value ALL_DONE ≢ ALL_DONE = grind (arith, nat_tests) in omega arith),
    )

pub taken_counts : (value : ℕ) → IsStored (taken_done (done_in value)) value
taken_counts value = by (min value ALL_DONE == ALL_DONE) refl
  where
    less : (z : Bool) → (value == 0) ≡ z → min value ALL_DONE ≢ ALL_DONE → IsStored (min value ALL_DONE - 1) value
    less true r ne = (omega arith, inr (inr (inl (let v : value ≡ 0 = grind (arith, nat_tests) in omega arith))))
    less false r ne = (omega arith, inr (inl (let v : value ≢ 0 = grind (arith, nat_tests) in omega arith)))

    by : (b : Bool) → (min value ALL_DONE == ALL_DONE) ≡ b
        → IsStored (if b then min value ALL_DONE else min value ALL_DONE - 1) value
    by true q = (omega arith, inr (inr (inr (grind (arith, nat_tests)))))
    by false q = less (value == 0) refl (grind (arith, nat_tests))
