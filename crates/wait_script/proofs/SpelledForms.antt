-- The words of a line that fits say that line.
use Rattle.std.proofs.Common.{◌≡◌, ℕ, ◌+◌, ◌≤◌, Bool, true, false, List, [], ◌∷◌, Result, Ok, length, codes, decimal}
use Rattle.std.proofs.Common.{refl, sym, subst, arith, nat_lt}
use mathlib.Core.Bool.{◌&&◌, ◌||◌, not}
use Rattle.std.proofs.lemmas.Bool.Decides.{nat_tests}
use Rattle.wait_model.specs.{declared.calls.Call.Call, declared.tasks.SleepState.SleepState, Queues.is_priority}
use Rattle.wait_model.specs.declared.layout.TheConstants.{BIT_WORDS, EVENTS, FIRST_SIMPLE, PLAIN_CONDITIONS}
use Rattle.wait_model.specs.declared.layout.TheConstants.{PRIORITY_TASKS, TASKS, WORD_BITS}
use Rattle.wait_model.specs.declared.calls.Call.TheVariants as call
use Rattle.wait_script.specs.{declared.reason.Reason.Reason, declared.line.Line.Line, declared.version.Version.Version}
use Rattle.wait_script.specs.{declared.version.Version.TheVariants.Two, Words.both_of, Words.made_of, Forms.named_at}
use Rattle.wait_script.specs.{Forms.last_of, Lines.words_at, Versions.last_task, Versions.most_selected}
use Rattle.wait_script.specs.Fields.{last_full, last_cond, last_cell, last_var, last_word, last_bit}
use Rattle.wait_script.specs.Spelling.{call_words, line_words, IsFitCall, IsFit}
use Rattle.wait_script.specs.declared.line.Line.TheVariants as line
use Rattle.wait_script.proofs.{Callers.last_by, Callers.is_caller, Versions.few_tasks, Versions.few_selected}
use Rattle.wait_script.proofs.SpelledWords.{parts_true, IsWord, AreWords, number_word, letter_word, bit_word}
use Rattle.wait_script.proofs.SpelledWords.{number_read, value_read, numbered_read, bit_read, state_is_word, state_read}
use Rattle.wait_script.proofs.SpelledWords.{simple_state_read, how_is_word, how_read, mode_is_word, mode_read}
use Rattle.wait_script.proofs.SpelledWords.{kind_is_word, kind_read, form_is_word, form_read, fatal_is_word, fatal_read}
use Rattle.wait_script.proofs.SpelledWords.{all_is_word, all_read}

-- fields that are read make their call
made1 : {A B : Type 0} (f : A → B) (r : Result A Reason) (x : A) → r ≡ Ok x → made_of f r ≡ Ok (f x)
made1 f r x p = rw p refl

made2 : {A B C : Type 0} (f : A × B → C) (a : Result A Reason) (b : Result B Reason) (x : A) (y : B) → a ≡ Ok x
    → b ≡ Ok y → made_of f (both_of a b) ≡ Ok (f (x, y))
made2 f a b x y p q = rw (p, q) refl

made3 : {A B C D : Type 0} (f : A × (B × C) → D) (a : Result A Reason) (b : Result B Reason) (d : Result C Reason)
    (x : A) (y : B) (z : C) → a ≡ Ok x → b ≡ Ok y → d ≡ Ok z
    → made_of f (both_of a (both_of b d)) ≡ Ok (f (x, (y, z)))
made3 f a b d x y z p q r = rw (p, q, r) refl

upto : (most n : ℕ) → nat_lt n (most + 1) ≡ true → n ≤ most
upto most n h = grind (arith, nat_tests)

from_simple : (n : ℕ) → (not (nat_lt n FIRST_SIMPLE) && nat_lt n PLAIN_CONDITIONS) ≡ true
    → (FIRST_SIMPLE ≤ n) × (n ≤ last_cond)
from_simple n h =
    let p = parts_true (not (nat_lt n FIRST_SIMPLE)) (nat_lt n PLAIN_CONDITIONS) h in
    (at_least n (nat_lt n FIRST_SIMPLE) p.0 refl, upto last_cond n p.1)
  where
    at_least : (n : ℕ) (b : Bool) → not b ≡ true → nat_lt n FIRST_SIMPLE ≡ b → FIRST_SIMPLE ≤ n
    at_least n true t e = absurd (cc (t))
    at_least n false t e = grind (arith, nat_tests)

-- words say a call
abbrev Says : Version → List (List ℕ) → Call → Type 0
Says v [] c = ⊥
Says v (name ∷ rest) c = (named_at v name rest ≡ Ok c) × IsWord name × AreWords rest × (length rest ≤ 3)

page_said : (w : ℕ) (state : SleepState) → w ≤ last_word
    → Says Two (call_words (call.LockPage w state)) (call.LockPage w state)
page_said w state m = (
  made2 (λ f. call.LockPage f.0 f.1) _ _ w state (numbered_read 98 0 last_word w (omega arith) m (omega (arith, m)))
      (state_read state),
  refl,
  (letter_word 98 w refl (omega (arith, m)), (state_is_word state, tt)),
  omega arith,
)

call_said : (v : Version) (c : Call) (task : ℕ) → IsFitCall v task c → Says v (call_words c) c
call_said v (call.Wait cond how) task h =
    let m = upto last_full cond h.0 in (
      made2 (λ f. call.Wait f.0 f.1) _ _ cond how (numbered_read 99 0 last_full cond (omega (arith, m))
          (omega (arith, m)) (omega (arith, m))) (how_read how h.1),
      refl,
      (letter_word 99 cond refl (omega (arith, m)), (how_is_word how, tt)),
      omega arith,
    )
call_said v (call.Set cond value) task h =
    let m = upto last_cond cond h.0 in (
      made2 (λ f. call.Set f.0 f.1) _ _ cond value (numbered_read 99 0 last_cond cond (omega (arith, m))
          (omega (arith, m)) (omega (arith, m))) (value_read value h.2),
      refl,
      (letter_word 99 cond refl (omega (arith, m)), (number_word value h.2, tt)),
      omega arith,
    )
call_said v (call.Take cond) task h =
    let m = upto last_cond cond h.0 in (
      made1 (λ f. call.Take f) _ cond (numbered_read 99 0 last_cond cond (omega (arith, m)) (omega (arith, m))
          (omega (arith, m))),
      refl,
      (letter_word 99 cond refl (omega (arith, m)), tt),
      omega arith,
    )
call_said v (call.Read cond) task h =
    let m = upto last_cond cond h.0 in (
      made1 (λ f. call.Read f) _ cond (numbered_read 99 0 last_cond cond (omega (arith, m)) (omega (arith, m))
          (omega (arith, m))),
      refl,
      (letter_word 99 cond refl (omega (arith, m)), tt),
      omega arith,
    )
call_said v (call.Wake cond mode count) task h =
    let p = parts_true (nat_lt cond FIRST_SIMPLE) (nat_lt count TASKS) h.0 in
    let m = upto last_full cond p.0 in
    let n = h.3 in
    let few = few_selected v in (
      made3 (λ f. call.Wake f.0 f.1.0 f.1.1) _ _ _ cond mode count
          (numbered_read 99 0 last_full cond (omega (arith, m)) (omega (arith, m)) (omega (arith, m)))
          (mode_read mode)
          (number_read 0 (most_selected v) count (omega arith) n (omega (arith, n, few))),
      refl,
      (
        letter_word 99 cond refl (omega (arith, m)),
        (mode_is_word mode, (number_word count (omega (arith, n, few)), tt)),
      ),
      omega arith,
    )
call_said v (call.Add cond kind form) task h =
    let p = parts_true (nat_lt cond FIRST_SIMPLE) (not (is_priority form) || nat_lt task PRIORITY_TASKS) h.0 in
    let m = upto last_full cond p.0 in (
      made3 (λ f. call.Add f.0 f.1.0 f.1.1) _ _ _ cond kind form
          (numbered_read 99 0 last_full cond (omega (arith, m)) (omega (arith, m)) (omega (arith, m)))
          (kind_read kind h.1)
          (form_read form),
      refl,
      (letter_word 99 cond refl (omega (arith, m)), (kind_is_word kind h.1, (form_is_word form, tt))),
      omega arith,
    )
call_said v call.Remove task h =
    (refl, refl, tt, omega arith)
call_said v (call.Woken state) task h =
    (made1 (λ f. call.Woken f) _ state (state_read state), refl, (state_is_word state, tt), omega arith)
call_said v (call.Signal who fatal) task h =
    let m = h.3 in (
      made2 (λ f. call.Signal f.0 f.1) _ _ who fatal
          (number_read 0 (last_task v) who (omega arith) m (omega (arith, m, few_tasks v)))
          (fatal_read fatal),
      refl,
      (number_word who (omega (arith, m, few_tasks v)), (fatal_is_word fatal, tt)),
      omega arith,
    )
call_said v call.Accept task h =
    (refl, refl, tt, omega arith)
call_said v (call.Kick who) task h =
    let m = h.3 in (
      made1 (λ f. call.Kick f) _ who (number_read 0 (last_task v) who (omega arith) m (omega (arith, m, few_tasks v))),
      refl,
      (number_word who (omega (arith, m, few_tasks v)), tt),
      omega arith,
    )
call_said v (call.SimpleWait cond state) task h =
    let p = from_simple cond h.0 in (
      made2 (λ f. call.SimpleWait f.0 f.1) _ _ cond state
          (numbered_read 99 FIRST_SIMPLE last_cond cond p.0 p.1 (omega (arith, p.1))) (simple_state_read state h.1),
      refl,
      (letter_word 99 cond refl (omega (arith, p.1)), (state_is_word state, tt)),
      omega arith,
    )
call_said v (call.SimpleWake cond all) task h =
    let p = from_simple cond h.0 in (
      made2 (λ f. call.SimpleWake f.0 f.1) _ _ cond all
          (numbered_read 99 FIRST_SIMPLE last_cond cond p.0 p.1 (omega (arith, p.1))) (all_read all),
      refl,
      (letter_word 99 cond refl (omega (arith, p.1)), (all_is_word all, tt)),
      omega arith,
    )
call_said v (call.Complete cell) task h =
    let m = upto last_cell cell h.0 in (
      made1 (λ f. call.Complete f) _ cell (numbered_read 100 0 last_cell cell (omega arith) m (omega (arith, m))),
      refl,
      (letter_word 100 cell refl (omega (arith, m)), tt),
      omega arith,
    )
call_said v (call.CompleteAll cell) task h =
    let m = upto last_cell cell h.0 in (
      made1 (λ f. call.CompleteAll f) _ cell (numbered_read 100 0 last_cell cell (omega arith) m (omega (arith, m))),
      refl,
      (letter_word 100 cell refl (omega (arith, m)), tt),
      omega arith,
    )
call_said v (call.Reinit cell) task h =
    let m = upto last_cell cell h.0 in (
      made1 (λ f. call.Reinit f) _ cell (numbered_read 100 0 last_cell cell (omega arith) m (omega (arith, m))),
      refl,
      (letter_word 100 cell refl (omega (arith, m)), tt),
      omega arith,
    )
call_said v (call.WaitFor cell state) task h =
    let m = upto last_cell cell h.0 in (
      made2 (λ f. call.WaitFor f.0 f.1) _ _ cell state (numbered_read 100 0 last_cell cell (omega arith) m
          (omega (arith, m))) (state_read state),
      refl,
      (
        letter_word 100 cell refl (omega (arith, m)),
        (state_is_word state, tt),
      ),
      omega arith,
    )
call_said v (call.TryWait cell) task h =
    let m = upto last_cell cell h.0 in (
      made1 (λ f. call.TryWait f) _ cell (numbered_read 100 0 last_cell cell (omega arith) m (omega (arith, m))),
      refl,
      (letter_word 100 cell refl (omega (arith, m)), tt),
      omega arith,
    )
call_said v (call.IsDone cell) task h =
    let m = upto last_cell cell h.0 in (
      made1 (λ f. call.IsDone f) _ cell (numbered_read 100 0 last_cell cell (omega arith) m (omega (arith, m))),
      refl,
      (letter_word 100 cell refl (omega (arith, m)), tt),
      omega arith,
    )
call_said v (call.TryBit w b) task h =
    let p = parts_true (nat_lt w BIT_WORDS) (nat_lt b WORD_BITS) h.0 in
    let m = upto last_word w p.0 in
    let n = upto last_bit b p.1 in (
      made1 (λ f. call.TryBit f.0 f.1) _ (w, b) (bit_read w b m n),
      refl,
      (bit_word w b (omega (arith, m)) (omega (arith, n)), tt),
      omega arith,
    )
call_said v (call.WaitBit w b state) task h =
    let p = parts_true (nat_lt w BIT_WORDS) (nat_lt b WORD_BITS) h.0 in
    let m = upto last_word w p.0 in
    let n = upto last_bit b p.1 in (
      made2 (λ f. call.WaitBit f.0.0 f.0.1 f.1) _ _ (w, b) state (bit_read w b m n) (state_read state),
      refl,
      (bit_word w b (omega (arith, m)) (omega (arith, n)), (state_is_word state, tt)),
      omega arith,
    )
call_said v (call.LockBit w b state) task h =
    let p = parts_true (nat_lt w BIT_WORDS) (nat_lt b WORD_BITS) h.0 in
    let m = upto last_word w p.0 in
    let n = upto last_bit b p.1 in (
      made2 (λ f. call.LockBit f.0.0 f.0.1 f.1) _ _ (w, b) state (bit_read w b m n) (state_read state),
      refl,
      (bit_word w b (omega (arith, m)) (omega (arith, n)), (state_is_word state, tt)),
      omega arith,
    )
call_said v (call.LockPage w state) task h =
    let c = call.LockPage w state in
    subst (λ u. Says u (call_words c) c) (sym h.3) (page_said w state (upto last_word w h.0))
call_said v (call.ClearBit w b) task h =
    let p = parts_true (nat_lt w BIT_WORDS) (nat_lt b WORD_BITS) h.0 in
    let m = upto last_word w p.0 in
    let n = upto last_bit b p.1 in (
      made1 (λ f. call.ClearBit f.0 f.1) _ (w, b) (bit_read w b m n),
      refl,
      (bit_word w b (omega (arith, m)) (omega (arith, n)), tt),
      omega arith,
    )
call_said v (call.WaitVar var old state) task h =
    let m = upto last_var var h.0 in (
      made3 (λ f. call.WaitVar f.0 f.1.0 f.1.1) _ _ _ var old state
          (numbered_read 118 0 last_var var (omega arith) m (omega (arith, m))) (value_read old h.2)
          (state_read state),
      refl,
      (letter_word 118 var refl (omega (arith, m)), (number_word old h.2, (state_is_word state, tt))),
      omega arith,
    )
call_said v (call.SetVar var value) task h =
    let m = upto last_var var h.0 in (
      made2 (λ f. call.SetVar f.0 f.1) _ _ var value (numbered_read 118 0 last_var var (omega arith) m
          (omega (arith, m))) (value_read value h.2),
      refl,
      (
        letter_word 118 var refl (omega (arith, m)),
        (number_word value h.2, tt),
      ),
      omega arith,
    )

-- the words of a line are a first one and others, at most five, and say it
abbrev pub IsSaid : Version → Line → Type 0
IsSaid v l = (word : List ℕ) × (words : List (List ℕ)) × (line_words l ≡ word ∷ words) × IsWord word
    × AreWords words × (length words ≤ 5) × (words_at v (word ∷ words) ≡ Ok l)

said_call : (v : Version) (task : ℕ) (c : Call) (words : List (List ℕ)) → call_words c ≡ words → Says v words c
    → task ≤ last_by v words → task ≤ last_task v → IsSaid v (line.Call task c)
said_call v task c [] is s fit most = absurd s
said_call v task c (name ∷ rest) is s fit most = (
  codes "call",
  decimal task ∷ name ∷ rest,
  rw is refl,
  refl,
  (number_word task (omega (arith, most, few_tasks v)), (s.1, s.2)),
  omega (arith, s.3),
  made2 (λ f. line.Call f.0 f.1) _ _ task c
      (number_read 0 (last_of v name rest) task (omega arith) fit (omega (arith, most, few_tasks v))) s.0,
)

pub line_said : (v : Version) (l : Line) → IsFit v l → IsSaid v l
line_said v (line.Call task c) h =
    said_call v task c (call_words c) refl (call_said v c task h.1) (is_caller v c task h.0 h.1.0) h.0
line_said v (line.Step task count) h = (
  codes "step",
  decimal task ∷ decimal count ∷ [],
  refl,
  refl,
  (number_word task (omega (arith, h.0, few_tasks v)), (number_word count (omega (arith, h.2)), tt)),
  omega arith,
  made2 (λ f. line.Step f.0 f.1) _ _ task count
      (number_read 0 (last_task v) task (omega arith) h.0 (omega (arith, h.0, few_tasks v)))
      (number_read 1 EVENTS count h.1 h.2 (omega (arith, h.2))),
)
