-- Words that are read one after another.
use Rattle.std.proofs.Common.{◌≡◌, ℕ, ◌+◌, ◌-◌, ◌<◌, List, [], ◌∷◌, ◌++◌, length, map, get_or, take, drop, Option, Some}
use Rattle.std.proofs.Common.{None, refl, ap, ◌∙◌, Bool, true, false, add-one, append_assoc, drop-cons, codes}
use Rattle.std.proofs.lemmas.List.{take_rest}
use Rattle.std.specs.Prelude.{if◌then◌else◌, nat_le}
use Rattle.copy_plan.specs.{declared.TheConstants.SIGNALS, declared.gate.Who.Who, declared.plan.Planned.Planned}
use Rattle.copy_plan.specs.declared.gate.Who.TheVariants.{Reader, Relay, Writer}
use Rattle.wait_script.specs.Number.{numeral_value}
use Rattle.waitq_alone.specs.Events.{begins, planned_at, target_at, event_of, events_of, before, plan_of}

-- signals that were read, with those that follow
abbrev pub joined : List Planned → Option (List Planned) → Option (List Planned)
joined ps (Some qs) = Some (ps ++ qs)
joined ps None = None

one_more : (ps : List Planned) (p : Planned) (rest : Option (List Planned))
    → joined ps (before (Some p) rest) ≡ joined (ps ++ p ∷ []) rest
one_more ps p (Some qs) = rw append_assoc refl
one_more ps p None = refl

module _ {X : Type 0} (bytes : X → List ℕ) where
  -- after the word at a place
  pub next : (xs : List X) (i : ℕ) (d : X) (ps : List Planned) (p : Planned) → i < length xs
      → event_of (bytes (get_or xs i d)) ≡ Some p
      → joined ps (events_of (map bytes (drop i xs))) ≡ joined (ps ++ p ∷ []) (events_of (map bytes (drop (i + 1) xs)))
  next xs i d ps p below is = rw (add-one, drop-cons xs i d, is) (one_more ps p _)

  -- a word that names no signal
  pub stops : (xs : List X) (i : ℕ) (d : X) (ps : List Planned) → i < length xs
      → event_of (bytes (get_or xs i d)) ≡ None → joined ps (events_of (map bytes (drop i xs))) ≡ None
  stops xs i d ps below is = rw (drop-cons xs i d, is) refl

  either : (b : Bool) (x : Option (List Planned)) → (if b then x else x) ≡ x
  either true x = refl
  either false x = refl

  -- and so there is no plan
  pub unplanned : (xs : List X) → events_of (map bytes xs) ≡ None → plan_of (map bytes xs) ≡ None
  unplanned xs e = rw e (either (nat_le (length (map bytes xs)) SIGNALS) None)

-- a signal by its worker
module _ (fatal : Bool) (word : List ℕ) where
  for_worker : (who : Who) (n : ℕ) {r : Option Planned}
      → r ≡ planned_at who fatal (numeral_value (take (length word - n) (drop n word)))
      → r ≡ planned_at who fatal (numeral_value (drop n word))
  for_worker who n is = is ∙ ap (λ w. planned_at who fatal (numeral_value w)) (take_rest word n)

  pub for_reader : {r : Option Planned} → begins word (codes "reader@") ≡ true
      → r ≡ planned_at Reader fatal (numeral_value (take (length word - 7) (drop 7 word))) → r ≡ target_at fatal word
  for_reader a is = rw a (for_worker Reader 7 is)

  pub for_relay : {r : Option Planned} → begins word (codes "reader@") ≡ false → begins word (codes "relay@") ≡ true
      → r ≡ planned_at Relay fatal (numeral_value (take (length word - 6) (drop 6 word))) → r ≡ target_at fatal word
  for_relay a b is = rw (a, b) (for_worker Relay 6 is)

  pub for_writer : {r : Option Planned} → begins word (codes "reader@") ≡ false → begins word (codes "relay@") ≡ false
      → begins word (codes "writer@") ≡ true
      → r ≡ planned_at Writer fatal (numeral_value (take (length word - 7) (drop 7 word))) → r ≡ target_at fatal word
  for_writer a b d is = rw (a, b, d) (for_worker Writer 7 is)

  pub for_none : begins word (codes "reader@") ≡ false → begins word (codes "relay@") ≡ false
      → begins word (codes "writer@") ≡ false → None ≡ target_at fatal word
  for_none a b d = rw (a, b, d) refl

-- a signal by its beginning
module _ (word : List ℕ) where
  pub plain_event : {r : Option Planned} → begins word (codes "signal:") ≡ true
      → r ≡ target_at false (take (length word - 7) (drop 7 word)) → r ≡ event_of word
  plain_event a is = rw a (is ∙ ap (target_at false) (take_rest word 7))

  pub fatal_event : {r : Option Planned} → begins word (codes "signal:") ≡ false → begins word (codes "kill:") ≡ true
      → r ≡ target_at true (take (length word - 5) (drop 5 word)) → r ≡ event_of word
  fatal_event a b is = rw (a, b) (is ∙ ap (target_at true) (take_rest word 5))

  pub no_event : begins word (codes "signal:") ≡ false → begins word (codes "kill:") ≡ false → None ≡ event_of word
  no_event a b = rw (a, b) refl
