-- What the stop of a copy or of a merge tells of the stops of its tasks.
use Rattle.std.proofs.Common.{◌≡◌, ℕ, zero, suc, ◌<◌, ◌⊎◌, List, [], ◌∷◌, Bool, true, false, inl, inr, refl, sym, ap}
use Rattle.std.proofs.Common.{◌∙◌, subst, arith}
use Rattle.std.specs.Prelude.{Result, Ok, Err, ◌==◌, if◌then◌else◌}
use Rattle.std.proofs.lemmas.Bool.{eqb-true, false≢true}
use Rattle.atomic_table.specs.Seated.{TableId}
use Rattle.edge_io.specs.Faults.{HasRisen}
use Rattle.bit_wait.specs.declared.wait_calls.BitEnd.{BitEnd}
use Rattle.bit_wait.specs.declared.wait_calls.BitEnd.TheVariants as bit_end
use Rattle.wait_rule.specs.{Aside.Grows, Ends.WasWorn, declared.journal.Journal.Journal, Journals.has_of, Known.Known}
use Rattle.wait_rule.specs.{Says.IsShown, Says.newcomer}
use Rattle.copy_plan.specs.{declared.kinds.Kind.Kind, declared.stop.Stop.Stop}
use Rattle.copy_plan.specs.Kinds.{copy_stop, first_or, is_of}
use Rattle.copy_plan.specs.declared.kinds.Kind.TheVariants as kind
use Rattle.copy_plan.specs.declared.stop.Stop.TheVariants as stop
use Rattle.copy_ends.specs.Copied.{ControlEnds, NotesAreLate, control_stop}
use Rattle.waitq_copy.specs.Copying.{WasTableFull}

abbrev pub IsNamed : Stop → Type 0
IsNamed stop.Finished = ⊥
IsNamed stop.Broken = ⊥
IsNamed stop.Killed = ⊥
IsNamed stop.Taken = ⊥
IsNamed _ = Unit {0}

named_of : (k : Kind) (how : Stop) → is_of k how ≡ true → IsNamed how
named_of kind.Memory stop.Memory e = tt
named_of kind.Worn (stop.Worn h p) e = tt
named_of kind.ReadFault stop.ReadFault e = tt
named_of kind.WriteFault stop.WriteFault e = tt
named_of kind.Long stop.Long e = tt
named_of k how e = absurd (false≢true e)

-- a stop stands in a list
abbrev pub Among : Stop → List Stop → Type 0
Among s [] = ⊥
Among s (x ∷ xs) = (x ≡ s) ⊎ Among s xs

-- the first of the kind stands among them, or the other is answered
first_among : (k : Kind) (ss : List Stop) (other how : Stop) → first_or k ss other ≡ how
    → (Among how ss × (is_of k how ≡ true)) ⊎ (other ≡ how)
first_among k [] other how e = inr e
first_among k (s ∷ ss) other how e = by (is_of k s) refl e (first_among k ss other how)
  where
    more : (Among how ss × (is_of k how ≡ true)) ⊎ (other ≡ how)
        → (((s ≡ how) ⊎ Among how ss) × (is_of k how ≡ true)) ⊎ (other ≡ how)
    more (inl a) = inl (inr a.0, a.1)
    more (inr f) = inr f

    by : (b : Bool) → is_of k s ≡ b → (if b then s else first_or k ss other) ≡ how
        → (first_or k ss other ≡ how → (Among how ss × (is_of k how ≡ true)) ⊎ (other ≡ how))
        → (((s ≡ how) ⊎ Among how ss) × (is_of k how ≡ true)) ⊎ (other ≡ how)
    by true t f go = inl (inl f, sym (ap (is_of k) f) ∙ t)
    by false t f go = more (go f)

-- A stop of a copy is one of its tasks' that a copy names, or tells whether there were kills.
pub data Cause (ss : List Stop) (kills : ℕ) (how : Stop) : Type 0 where
  named : IsNamed how → Among how ss → Cause ss kills how
  finished : how ≡ stop.Finished → kills ≡ 0 → Cause ss kills how
  killed : how ≡ stop.Killed → 0 < kills → Cause ss kills how

above : (n : ℕ) → (n == 0) ≡ false → 0 < n
above zero g = absurd (false≢true (sym g))
above (suc n) g = omega arith

module _ (ss : List Stop) (kills : ℕ) (how : Stop) where
  last : (b : Bool) → (kills == 0) ≡ b → (if b then stop.Finished else stop.Killed) ≡ how → Cause ss kills how
  last true is f = finished (sym f) (eqb-true kills 0 is)
  last false is f = killed (sym f) (above kills is)

  -- of this kind, or of one of the kinds behind it
  at : (k : Kind) (other : Stop) → (other ≡ how → Cause ss kills how) → first_or k ss other ≡ how → Cause ss kills how
  at k other go e = by (first_among k ss other how e)
    where
      by : (Among how ss × (is_of k how ≡ true)) ⊎ (other ≡ how) → Cause ss kills how
      by (inl a) = named (named_of k how a.1) a.0
      by (inr f) = go f

  pub cause_of : copy_stop ss kills ≡ how → Cause ss kills how
  cause_of e =
      let plain : Stop = if kills == 0 then stop.Finished else stop.Killed in
      let long : Stop = first_or kind.Long ss plain in
      let unwritten : Stop = first_or kind.WriteFault ss long in
      let unread : Stop = first_or kind.ReadFault ss unwritten in
      let worn : Stop = first_or kind.Worn ss unread in
      at kind.Memory worn (at kind.Worn unread (at kind.ReadFault unwritten (at kind.WriteFault long
      (at kind.Long plain (last (kills == 0) refl))))) e

pub kills_of : (ss : List Stop) (kills : ℕ) → Cause ss kills stop.Killed → 0 < kills
kills_of ss kills (named e a) = absurd e
kills_of ss kills (finished e n) = absurd (cc e)
kills_of ss kills (killed e n) = n

pub spared_of : (ss : List Stop) (kills : ℕ) → Cause ss kills stop.Finished → kills ≡ 0
spared_of ss kills (named e a) = absurd e
spared_of ss kills (finished e n) = n
spared_of ss kills (killed e n) = absurd (cc e)

pub never_broken : (ss : List Stop) (kills : ℕ) → Cause ss kills stop.Broken → ⊥
never_broken ss kills (named e a) = e
never_broken ss kills (finished e n) = cc e
never_broken ss kills (killed e n) = cc e

pub never_taken : (ss : List Stop) (kills : ℕ) → Cause ss kills stop.Taken → ⊥
never_taken ss kills (named e a) = e
never_taken ss kills (finished e n) = cc e
never_taken ss kills (killed e n) = cc e

pub among_named : (ss : List Stop) (kills : ℕ) (how : Stop) → (how ≡ stop.Finished → ⊥) → (how ≡ stop.Killed → ⊥)
    → Cause ss kills how → Among how ss
among_named ss kills how nf nk (named e a) = a
among_named ss kills how nf nk (finished e n) = absurd (nf e)
among_named ss kills how nf nk (killed e n) = absurd (nk e)

pub controls : (total : Result ℕ BitEnd) (how : Stop) → control_stop total ≡ how
    → (how ≡ stop.Finished) ⊎ ((h : ℕ) × (p : ℕ) × (total ≡ Err (bit_end.Worn h p)) × (how ≡ stop.Worn h p))
controls (Ok n) how e = inl (sym e)
controls (Err (bit_end.Worn h p)) how e = inr (h, p, refl, sym e)
controls (Err (bit_end.Interrupted seen)) how e = inl (sym e)

pub full_at : (task k : Known) (domain : TableId) (number next h p : ℕ) → Grows (newcomer domain number next 0) k
    → has_of number task.view ≡ k.view.items → (shown : Journal) (law : IsShown shown)
    → NotesAreLate shown law number task → WasWorn k.view.number k.view.items h p → WasTableFull task p
full_at task k domain number next h p g l shown law notes w =
    let worn : WasWorn number (has_of number task.view) h p =
    subst (λ (items : _). WasWorn number items h p) (sym l)
    (subst (λ (n : ℕ). WasWorn n k.view.items h p) (ap (λ v. v.number) g.view) w) in record {
      number = number;
      head = h;
      worn = worn;
      shown = shown;
      law = law;
      late = notes h p worn;
    }

-- no fault but that of a queue is a controller's
pub no_control : (total : Result ℕ BitEnd) (s : Stop) → (s ≡ stop.Finished → ⊥) → ((h p : ℕ) → s ≡ stop.Worn h p → ⊥)
    → control_stop total ≡ s → ⊥
no_control total s nf nw e = by (controls total s e)
  where
    by : (s ≡ stop.Finished) ⊎ ((h : ℕ) × (p : ℕ) × (total ≡ Err (bit_end.Worn h p)) × (s ≡ stop.Worn h p)) → ⊥
    by (inl f) = nf f
    by (inr w) = nw w.0 w.1 w.3

-- and where a controller found no place
pub full_control : (task k : Known) (domain : TableId) (number next n h p : ℕ) (total : Result ℕ BitEnd)
    → Grows (newcomer domain number next 0) k → has_of number task.view ≡ k.view.items → (shown : Journal)
    (law : IsShown shown) → NotesAreLate shown law number task
    → ControlEnds n (newcomer domain number next 0) k total → control_stop total ≡ stop.Worn h p → WasTableFull task p
full_control task k domain number next n h p total g l shown law notes ends e = by (controls total (stop.Worn h p) e)
  where
    counted : (h2 p2 : ℕ) → total ≡ Err (bit_end.Worn h2 p2) → stop.Worn h p ≡ stop.Worn h2 p2 → WasTableFull task p
    counted h2 p2 t s =
        let w : WasWorn k.view.number k.view.items h2 p2 =
        subst (λ (r : Result ℕ BitEnd). ControlEnds n (newcomer domain number next 0) k r) t ends in
        let same_head : h2 ≡ h = cc s in
        let same_place : p2 ≡ p = cc s in
        full_at task k domain number next h p g l shown law notes
        (subst (λ (x : ℕ). WasWorn k.view.number k.view.items h x) same_place
        (subst (λ (x : ℕ). WasWorn k.view.number k.view.items x p2) same_head w))

    by : ((stop.Worn h p) ≡ stop.Finished) ⊎ ((h2 : ℕ) × (p2 : ℕ) × (total ≡ Err (bit_end.Worn h2 p2))
        × ((stop.Worn h p) ≡ stop.Worn h2 p2)) → WasTableFull task p
    by (inl f) = absurd (cc f)
    by (inr w) = counted w.0 w.1 w.2 w.3

pub rises : (n : ℕ) → HasRisen 0 n → 0 < n
rises zero h = h (omega arith)
rises (suc n) h = omega arith
