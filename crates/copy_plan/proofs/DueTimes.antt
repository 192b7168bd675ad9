-- Signals of a plan that become due at numbers that rise: as many as are due up to the last of them.
use Rattle.std.proofs.Common.{sym, ◌∙◌, ap, subst, append_assoc, length-append, arith}
use Rattle.std.specs.Prelude.{ℕ, ◌≡◌, ◌≤◌, ◌+◌, ◌++◌, List, [], ◌∷◌, length}
use Rattle.copy_plan.specs.declared.plan.Planned.{Planned}
use Rattle.copy_plan.specs.Plans.{Rises, due_at, due_in, fatal_of}
use Rattle.copy_plan.proofs.DueParts.{fatal_append}
use Rattle.copy_plan.proofs.Dues.{due_none, kills_split}

rise_within : (from : ℕ) (ns : List ℕ) (to : ℕ) → Rises from ns to → from ≤ to + 1
rise_within from [] to r = omega (arith, r)
rise_within from (n ∷ ns) to r =
    let low = r.0 in let high = rise_within (n + 1) ns to r.1 in omega arith

pub due_at_kills : (from : ℕ) (ns : List ℕ) (to : ℕ) → Rises from ns to → (ps : List Planned)
    → length (fatal_of (due_at from ns ps)) ≡ length (fatal_of (due_in from to ps))
due_at_kills from [] to r ps =
    sym (ap (λ (l : List Planned). length (fatal_of l)) (due_none from to (omega (arith, r)) ps))
due_at_kills from (n ∷ ns) to r ps =
    let low = r.0 in
    let high = rise_within (n + 1) ns to r.1 in
    let all = ap length (fatal_append (due_in from n ps) (due_at (n + 1) ns ps)) in
    let both = length-append (fatal_of (due_in from n ps)) (fatal_of (due_at (n + 1) ns ps)) in
    let later = due_at_kills (n + 1) ns to r.1 ps in
    let parts = kills_split from n to (omega arith) (omega arith) ps in
    omega arith

-- numbers behind others
pub rises_then : (from : ℕ) (xs ys : List ℕ) (mid to : ℕ) → Rises from xs mid → Rises (mid + 1) ys to
    → Rises from (xs ++ ys) to
rises_then from [] ys mid to one two = subst (λ (n : ℕ). Rises n ys to) (sym one) two
rises_then from (x ∷ xs) ys mid to one two = (one.0, rises_then (x + 1) xs ys mid to one.1 two)

pub due_at_then : (from : ℕ) (xs ys : List ℕ) (mid : ℕ) → Rises from xs mid → (ps : List Planned)
    → due_at from (xs ++ ys) ps ≡ due_at from xs ps ++ due_at (mid + 1) ys ps
due_at_then from [] ys mid one ps = ap (λ (n : ℕ). due_at n ys ps) one
due_at_then from (x ∷ xs) ys mid one ps =
    ap (λ (l : List Planned). due_in from x ps ++ l) (due_at_then (x + 1) xs ys mid one.1 ps)
    ∙ sym (append_assoc (due_in from x ps) (due_at (x + 1) xs ps) (due_at (mid + 1) ys ps))
