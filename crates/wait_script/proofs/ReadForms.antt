-- A call that is read is spelled so, and is one that a core has: a lemma a form.
use Rattle.std.proofs.Common.{◌≡◌, ⊎_elim, ℕ, ◌^◌, ◌<◌, true, nat_lt, List, [], ◌∷◌}
use Rattle.std.proofs.Common.{Result, Ok, codes, refl, sym, subst, arith}
use mathlib.Core.Bool.{◌||◌, not}
use Rattle.std.specs.Str.{bytes_eq}
use Rattle.std.specs.Cmp.Lexicographic.{same_text}
use Rattle.wait_model.specs.{declared.calls.Call.Call, declared.queues.Form.Form, Queues.is_priority}
use Rattle.wait_model.specs.declared.layout.TheConstants.{FIRST_SIMPLE, PRIORITY_TASKS, TASKS}
use Rattle.wait_model.specs.declared.calls.Call.TheVariants as call
use Rattle.wait_model.specs.declared.queues.Form.TheVariants as form
use Rattle.wait_script.specs.{declared.reason.Reason.Reason, declared.version.Version.Version}
use Rattle.wait_script.specs.{declared.version.Version.TheVariants.One, declared.version.Version.TheVariants.Two}
use Rattle.wait_script.specs.{Words.both_of, Versions.last_task, Versions.most_selected, Spelling.call_words}
use Rattle.wait_script.specs.Spelling.{IsFitCall}
use Rattle.wait_script.specs.Fields.{number_at, value_at, cond_field, cell_at, var_at, bit_at, page_at, how_at}
use Rattle.wait_script.specs.Fields.{state_at, simple_state_at, mode_at, kind_field, form_at, fatal_at, all_at}
use Rattle.wait_script.specs.Fields.{last_full, last_cond}
use Rattle.wait_script.specs.Forms.{form0, form1, form2, form3, wait_at, set_at, take_at, read_at, wake_at, add_at}
use Rattle.wait_script.specs.Forms.{remove_at, woken_at, signal_at, accept_at, kick_at, simple_wait_at, simple_wake_at}
use Rattle.wait_script.specs.Forms.{complete_at, complete_all_at, reinit_at, wait_for_at, try_wait_at, is_done_at}
use Rattle.wait_script.specs.Forms.{try_bit_at, wait_bit_at, lock_bit_at, clear_bit_at, wait_var_at, set_var_at}
use Rattle.wait_script.specs.Forms.{lock_page_at, further_forms, call_forms, call_in, named_at}
use Rattle.wait_script.proofs.Versions.{few_tasks, few_selected}
use Rattle.wait_script.proofs.ReadFields.{chosen, made_ok, both_ok, both_true, number_ok, number_fits, number_below}
use Rattle.wait_script.proofs.ReadFields.{value_ok, value_below, cond_ok, cond_below, simple_between, cell_ok}
use Rattle.wait_script.proofs.ReadFields.{cell_below, var_ok, var_below, bit_ok, page_ok, page_below, bit_below, how_ok}
use Rattle.wait_script.proofs.ReadFields.{how_listed, state_ok, simple_state_ok, simple_state_listed, mode_ok, kind_ok}
use Rattle.wait_script.proofs.ReadFields.{kind_listed, form_ok, fatal_ok, all_ok}

-- what stands of the right fields in their places stands of the words of a form and its call
met0 : (made : Call) (P : List (List ℕ) → Call → Type 0) → P [] made
    → (words : List (List ℕ)) (c : Call) → form0 made words ≡ Ok c → P words c
met0 made P h [] c e = subst (λ x. P [] x) (cc (e)) h
met0 made P h (a ∷ more) c e = absurd (cc (e))

met1 : {A : Type 0} (f : List ℕ → Result A Reason) (make : A → Call) (P : List (List ℕ) → Call → Type 0)
    → ((a : List ℕ) (x : A) → f a ≡ Ok x → P (a ∷ []) (make x))
    → (words : List (List ℕ)) (c : Call) → form1 f make words ≡ Ok c → P words c
met1 f make P h [] c e = absurd (cc (e))
met1 f make P h (a ∷ []) c e = let m = made_ok make (f a) c e in subst (λ y. P (a ∷ []) y) m.2 (h a m.0 m.1)
met1 f make P h (a ∷ b ∷ more) c e = absurd (cc (e))

met2 : {A B : Type 0} (f : List ℕ → Result A Reason) (g : List ℕ → Result B Reason) (make : A → B → Call)
    (P : List (List ℕ) → Call → Type 0)
    → ((a b : List ℕ) (x : A) (y : B) → f a ≡ Ok x → g b ≡ Ok y → P (a ∷ b ∷ []) (make x y))
    → (words : List (List ℕ)) (c : Call) → form2 f g make words ≡ Ok c → P words c
met2 f g make P h [] c e = absurd (cc (e))
met2 f g make P h (a ∷ []) c e = absurd (cc (e))
met2 f g make P h (a ∷ b ∷ []) c e =
    let m = made_ok (λ x. make x.0 x.1) (both_of (f a) (g b)) c e in
    let p = both_ok (f a) (g b) m.0 m.1 in
    subst (λ y. P (a ∷ b ∷ []) y) m.2 (h a b m.0.0 m.0.1 p.0 p.1)
met2 f g make P h (a ∷ b ∷ d ∷ more) c e = absurd (cc (e))

met3 : {A B C : Type 0} (f : List ℕ → Result A Reason) (g : List ℕ → Result B Reason) (k : List ℕ → Result C Reason)
    (make : A → B → C → Call) (P : List (List ℕ) → Call → Type 0)
    → ((a b d : List ℕ) (x : A) (y : B) (z : C) → f a ≡ Ok x → g b ≡ Ok y → k d ≡ Ok z
    → P (a ∷ b ∷ d ∷ []) (make x y z))
    → (words : List (List ℕ)) (c : Call) → form3 f g k make words ≡ Ok c → P words c
met3 f g k make P h [] c e = absurd (cc (e))
met3 f g k make P h (a ∷ []) c e = absurd (cc (e))
met3 f g k make P h (a ∷ b ∷ []) c e = absurd (cc (e))
met3 f g k make P h (a ∷ b ∷ d ∷ []) c e =
    let m = made_ok (λ x. make x.0 x.1.0 x.1.1) (both_of (f a) (both_of (g b) (k d))) c e in
    let p = both_ok (f a) (both_of (g b) (k d)) m.0 m.1 in
    let q = both_ok (g b) (k d) m.0.1 p.1 in
    subst (λ y. P (a ∷ b ∷ d ∷ []) y) m.2 (h a b d m.0.0 m.0.1.0 m.0.1.1 p.0 q.0 q.1)
met3 f g k make P h (a ∷ b ∷ d ∷ x ∷ more) c e = absurd (cc (e))

-- a name and the words after it, and the call that they say
abbrev pub IsRead : Version → List ℕ → List (List ℕ) → Call → Type 0
IsRead v name words c = (name ∷ words ≡ call_words c) × IsFitCall v 0 c

words1 : (name a x : List ℕ) → a ≡ x → name ∷ a ∷ [] ≡ name ∷ x ∷ []
words1 name a x p = cc

words2 : (name a b x y : List ℕ) → a ≡ x → b ≡ y → name ∷ a ∷ b ∷ [] ≡ name ∷ x ∷ y ∷ []
words2 name a b x y p q = cc

words3 : (name a b d x y z : List ℕ) → a ≡ x → b ≡ y → d ≡ z → name ∷ a ∷ b ∷ d ∷ [] ≡ name ∷ x ∷ y ∷ z ∷ []
words3 name a b d x y z p q r = cc

-- a call without a number of 64 bits
none : 0 < 2 ^ 64
none = omega arith

-- the forms of a table read what they say under their names
abbrev AreRead : Version → List (List ℕ × (List (List ℕ) → Result Call Reason)) → Type 0
AreRead v [] = Unit {0}
AreRead v (entry ∷ table) =
    ((words : List (List ℕ)) (c : Call) → entry.1 words ≡ Ok c → IsRead v entry.0 words c) × AreRead v table

lock_page_ok : (words : List (List ℕ)) (c : Call) → lock_page_at words ≡ Ok c
    → IsRead Two (codes "lockpage") words c
lock_page_ok words c e =
    met2 page_at state_at (λ word state. call.LockPage word state) (IsRead Two (codes "lockpage"))
    (λ a b x y p q. (
      words2 (codes "lockpage") a b _ _ (page_ok a x p) (state_ok b y q),
      (page_below a x p, refl, none, refl),
    )) words c e

further_read : (v : Version) → AreRead v (further_forms v)
further_read One = tt
further_read Two = (lock_page_ok, tt)

module _ (v : Version) where
  wait_ok : (words : List (List ℕ)) (c : Call) → wait_at words ≡ Ok c → IsRead v (codes "wait") words c
  wait_ok words c e =
      met2 (cond_field 0 last_full) how_at (λ cond how. call.Wait cond how) (IsRead v (codes "wait"))
      (λ a b x y p q. (
        words2 (codes "wait") a b _ _ (cond_ok 0 last_full a x p) (how_ok b y q),
        (cond_below 0 last_full a x p, how_listed b y q, none, tt),
      )) words
      c e

  set_ok : (words : List (List ℕ)) (c : Call) → set_at words ≡ Ok c → IsRead v (codes "set") words c
  set_ok words c e =
      met2 (cond_field 0 last_cond) value_at (λ cond value. call.Set cond value) (IsRead v (codes "set"))
      (λ a b x y p q. (
        words2 (codes "set") a b _ _ (cond_ok 0 last_cond a x p) (value_ok b y q),
        (cond_below 0 last_cond a x p, refl, value_below b y q, tt),
      )) words c e

  take_ok : (words : List (List ℕ)) (c : Call) → take_at words ≡ Ok c → IsRead v (codes "take") words c
  take_ok words c e =
      met1 (cond_field 0 last_cond) (λ cond. call.Take cond) (IsRead v (codes "take"))
      (λ a x p. (words1 (codes "take") a _ (cond_ok 0 last_cond a x p), (cond_below 0 last_cond a x p, refl, none, tt)))
      words c e

  read_ok : (words : List (List ℕ)) (c : Call) → read_at words ≡ Ok c → IsRead v (codes "read") words c
  read_ok words c e =
      met1 (cond_field 0 last_cond) (λ cond. call.Read cond) (IsRead v (codes "read"))
      (λ a x p. (words1 (codes "read") a _ (cond_ok 0 last_cond a x p), (cond_below 0 last_cond a x p, refl, none, tt)))
      words c e

  wake_ok : (words : List (List ℕ)) (c : Call) → wake_at v words ≡ Ok c → IsRead v (codes "wake") words c
  wake_ok words c e =
      met3 (cond_field 0 last_full) mode_at (number_at 0 (most_selected v))
      (λ cond mode count. call.Wake cond mode count)
      (IsRead v (codes "wake"))
      (λ a b d x y z p q r. (
        words3 (codes "wake") a b d _ _ _ (cond_ok 0 last_full a x p) (mode_ok b y q)
            (number_ok 0 (most_selected v) d z r),
        (
          both_true (nat_lt x FIRST_SIMPLE) (nat_lt z TASKS) (cond_below 0 last_full a x p)
              (number_below 0 (most_selected v) TASKS d z r (few_selected v)),
          refl,
          none,
          (number_fits 0 (most_selected v) d z r).1,
        ),
      ))
      words c e

  -- task 0 adds in each form
  any_form : (f : Form) → (not (is_priority f) || nat_lt 0 PRIORITY_TASKS) ≡ true
  any_form form.Front = refl
  any_form form.Tail = refl
  any_form form.Priority = refl

  add_ok : (words : List (List ℕ)) (c : Call) → add_at words ≡ Ok c → IsRead v (codes "add") words c
  add_ok words c e =
      met3 (cond_field 0 last_full) kind_field form_at (λ cond kind form. call.Add cond kind form)
      (IsRead v (codes "add"))
      (λ a b d x y z p q r. (
        words3 (codes "add") a b d _ _ _ (cond_ok 0 last_full a x p) (kind_ok b y q) (form_ok d z r),
        (both_true (nat_lt x FIRST_SIMPLE) _ (cond_below 0 last_full a x p) (any_form z), kind_listed b y q, none, tt),
      ))
      words c e

  remove_ok : (words : List (List ℕ)) (c : Call) → remove_at words ≡ Ok c → IsRead v (codes "remove") words c
  remove_ok words c e = met0 call.Remove (IsRead v (codes "remove")) (refl, (refl, refl, none, tt)) words c e

  woken_ok : (words : List (List ℕ)) (c : Call) → woken_at words ≡ Ok c → IsRead v (codes "woken") words c
  woken_ok words c e =
      met1 state_at (λ state. call.Woken state) (IsRead v (codes "woken"))
      (λ a x p. (words1 (codes "woken") a _ (state_ok a x p), (refl, refl, none, tt))) words c e

  signal_ok : (words : List (List ℕ)) (c : Call) → signal_at v words ≡ Ok c → IsRead v (codes "signal") words c
  signal_ok words c e =
      met2 (number_at 0 (last_task v)) fatal_at (λ who fatal. call.Signal who fatal) (IsRead v (codes "signal"))
      (λ a b x y p q. (
        words2 (codes "signal") a b _ _ (number_ok 0 (last_task v) a x p) (fatal_ok b y q),
        (number_below 0 (last_task v) TASKS a x p (few_tasks v), refl, none, (number_fits 0 (last_task v) a x p).1),
      ))
      words c e

  accept_ok : (words : List (List ℕ)) (c : Call) → accept_at words ≡ Ok c → IsRead v (codes "accept") words c
  accept_ok words c e = met0 call.Accept (IsRead v (codes "accept")) (refl, (refl, refl, none, tt)) words c e

  kick_ok : (words : List (List ℕ)) (c : Call) → kick_at v words ≡ Ok c → IsRead v (codes "kick") words c
  kick_ok words c e =
      met1 (number_at 0 (last_task v)) (λ who. call.Kick who) (IsRead v (codes "kick"))
      (λ a x p. (
        words1 (codes "kick") a _ (number_ok 0 (last_task v) a x p),
        (number_below 0 (last_task v) TASKS a x p (few_tasks v), refl, none, (number_fits 0 (last_task v) a x p).1),
      )) words c e

  simple_wait_ok : (words : List (List ℕ)) (c : Call) → simple_wait_at words ≡ Ok c
      → IsRead v (codes "swait") words c
  simple_wait_ok words c e =
      met2 (cond_field FIRST_SIMPLE last_cond) simple_state_at (λ cond state. call.SimpleWait cond state)
      (IsRead v (codes "swait"))
      (λ a b x y p q. (
        words2 (codes "swait") a b _ _ (cond_ok FIRST_SIMPLE last_cond a x p) (simple_state_ok b y q),
        (simple_between a x p, simple_state_listed b y q, none, tt),
      )) words c e

  simple_wake_ok : (words : List (List ℕ)) (c : Call) → simple_wake_at words ≡ Ok c
      → IsRead v (codes "swake") words c
  simple_wake_ok words c e =
      met2 (cond_field FIRST_SIMPLE last_cond) all_at (λ cond all. call.SimpleWake cond all) (IsRead v (codes "swake"))
      (λ a b x y p q. (
        words2 (codes "swake") a b _ _ (cond_ok FIRST_SIMPLE last_cond a x p) (all_ok b y q),
        (simple_between a x p, refl, none, tt),
      )) words c e

  complete_ok : (words : List (List ℕ)) (c : Call) → complete_at words ≡ Ok c
      → IsRead v (codes "complete") words c
  complete_ok words c e =
      met1 cell_at (λ cell. call.Complete cell) (IsRead v (codes "complete"))
      (λ a x p. (words1 (codes "complete") a _ (cell_ok a x p), (cell_below a x p, refl, none, tt))) words c e

  complete_all_ok : (words : List (List ℕ)) (c : Call) → complete_all_at words ≡ Ok c
      → IsRead v (codes "completeall") words c
  complete_all_ok words c e =
      met1 cell_at (λ cell. call.CompleteAll cell) (IsRead v (codes "completeall"))
      (λ a x p. (words1 (codes "completeall") a _ (cell_ok a x p), (cell_below a x p, refl, none, tt))) words c e

  reinit_ok : (words : List (List ℕ)) (c : Call) → reinit_at words ≡ Ok c → IsRead v (codes "reinit") words c
  reinit_ok words c e =
      met1 cell_at (λ cell. call.Reinit cell) (IsRead v (codes "reinit"))
      (λ a x p. (words1 (codes "reinit") a _ (cell_ok a x p), (cell_below a x p, refl, none, tt))) words c e

  wait_for_ok : (words : List (List ℕ)) (c : Call) → wait_for_at words ≡ Ok c → IsRead v (codes "waitfor") words c
  wait_for_ok words c e =
      met2 cell_at state_at (λ cell state. call.WaitFor cell state) (IsRead v (codes "waitfor"))
      (λ a b x y p q. (
        words2 (codes "waitfor") a b _ _ (cell_ok a x p) (state_ok b y q),
        (cell_below a x p, refl, none, tt),
      )) words c e

  try_wait_ok : (words : List (List ℕ)) (c : Call) → try_wait_at words ≡ Ok c → IsRead v (codes "trywait") words c
  try_wait_ok words c e =
      met1 cell_at (λ cell. call.TryWait cell) (IsRead v (codes "trywait"))
      (λ a x p. (words1 (codes "trywait") a _ (cell_ok a x p), (cell_below a x p, refl, none, tt))) words c e

  is_done_ok : (words : List (List ℕ)) (c : Call) → is_done_at words ≡ Ok c → IsRead v (codes "isdone") words c
  is_done_ok words c e =
      met1 cell_at (λ cell. call.IsDone cell) (IsRead v (codes "isdone"))
      (λ a x p. (words1 (codes "isdone") a _ (cell_ok a x p), (cell_below a x p, refl, none, tt))) words c e

  try_bit_ok : (words : List (List ℕ)) (c : Call) → try_bit_at words ≡ Ok c → IsRead v (codes "trybit") words c
  try_bit_ok words c e =
      met1 bit_at (λ b. call.TryBit b.0 b.1) (IsRead v (codes "trybit"))
      (λ a x p. (words1 (codes "trybit") a _ (bit_ok a x p), (bit_below a x p, refl, none, tt))) words c e

  wait_bit_ok : (words : List (List ℕ)) (c : Call) → wait_bit_at words ≡ Ok c → IsRead v (codes "waitbit") words c
  wait_bit_ok words c e =
      met2 bit_at state_at (λ b state. call.WaitBit b.0 b.1 state) (IsRead v (codes "waitbit"))
      (λ a b x y p q. (
        words2 (codes "waitbit") a b _ _ (bit_ok a x p) (state_ok b y q),
        (bit_below a x p, refl, none, tt),
      )) words c e

  lock_bit_ok : (words : List (List ℕ)) (c : Call) → lock_bit_at words ≡ Ok c → IsRead v (codes "lockbit") words c
  lock_bit_ok words c e =
      met2 bit_at state_at (λ b state. call.LockBit b.0 b.1 state) (IsRead v (codes "lockbit"))
      (λ a b x y p q. (
        words2 (codes "lockbit") a b _ _ (bit_ok a x p) (state_ok b y q),
        (bit_below a x p, refl, none, tt),
      )) words c e

  clear_bit_ok : (words : List (List ℕ)) (c : Call) → clear_bit_at words ≡ Ok c
      → IsRead v (codes "clearbit") words c
  clear_bit_ok words c e =
      met1 bit_at (λ b. call.ClearBit b.0 b.1) (IsRead v (codes "clearbit"))
      (λ a x p. (words1 (codes "clearbit") a _ (bit_ok a x p), (bit_below a x p, refl, none, tt))) words c e

  wait_var_ok : (words : List (List ℕ)) (c : Call) → wait_var_at words ≡ Ok c → IsRead v (codes "waitvar") words c
  wait_var_ok words c e =
      met3 var_at value_at state_at (λ var old state. call.WaitVar var old state) (IsRead v (codes "waitvar"))
      (λ a b d x y z p q r. (
        words3 (codes "waitvar") a b d _ _ _ (var_ok a x p) (value_ok b y q) (state_ok d z r),
        (var_below a x p, refl, value_below b y q, tt),
      ))
      words c e

  set_var_ok : (words : List (List ℕ)) (c : Call) → set_var_at words ≡ Ok c → IsRead v (codes "setvar") words c
  set_var_ok words c e =
      met2 var_at value_at (λ var value. call.SetVar var value) (IsRead v (codes "setvar"))
      (λ a b x y p q. (
        words2 (codes "setvar") a b _ _ (var_ok a x p) (value_ok b y q),
        (var_below a x p, refl, value_below b y q, tt),
      )) words c e

  call_ok : (table : List (List ℕ × (List (List ℕ) → Result Call Reason))) → AreRead v table
      → (name : List ℕ) (rest : List (List ℕ)) (c : Call) → call_in table name rest ≡ Ok c → IsRead v name rest c
  call_ok [] all name rest c e = absurd (cc (e))
  call_ok (entry ∷ table) all name rest c e =
      ⊎_elim
      (λ p. subst (λ n. IsRead v n rest c) (sym (same_text name entry.0 (sym p.0))) (all.0 rest c p.1))
      (λ p. call_ok table all.1 name rest c p.1)
      (chosen (bytes_eq name entry.0) (entry.1 rest) (call_in table name rest) (Ok c) e)

  all_read : AreRead v (call_forms v)
  all_read = (
    wait_ok,
    (
      set_ok,
      (
        take_ok,
        (
          read_ok,
          (
            wake_ok,
            (
              add_ok,
              (
                remove_ok,
                (
                  woken_ok,
                  (
                    signal_ok,
                    (
                      accept_ok,
                      (
                        kick_ok,
                        (
                          simple_wait_ok,
                          (
                            simple_wake_ok,
                            (
                              complete_ok,
                              (
                                complete_all_ok,
                                (
                                  reinit_ok,
                                  (
                                    wait_for_ok,
                                    (
                                      try_wait_ok,
                                      (
                                        is_done_ok,
                                        (
                                          try_bit_ok,
                                          (
                                            wait_bit_ok,
                                            (lock_bit_ok, (clear_bit_ok, (wait_var_ok, (set_var_ok, further_read v)))),
                                          ),
                                        ),
                                      ),
                                    ),
                                  ),
                                ),
                              ),
                            ),
                          ),
                        ),
                      ),
                    ),
                  ),
                ),
              ),
            ),
          ),
        ),
      ),
    ),
  )

  pub named_ok : (name : List ℕ) (rest : List (List ℕ)) (c : Call) → named_at v name rest ≡ Ok c
      → IsRead v name rest c
  named_ok name rest c e = call_ok (call_forms v) all_read name rest c e
