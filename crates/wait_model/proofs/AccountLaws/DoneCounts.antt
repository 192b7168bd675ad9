-- A completion's count is balanced by all its stores.
use Rattle.std.proofs.Common.{refl, sym, ◌∙◌, ap, arith, inl, inr}
use Rattle.std.proofs.lemmas.Bool.Decides.{eqb_tells}
use Rattle.std.specs.Prelude.{ℕ, ◌≡◌, ◌≤◌, ◌+◌, ◌⊎◌, false, ◌==◌, if◌then◌else◌, List, [], ◌∷◌}
use Rattle.wait_model.specs.{declared.layout.TheConstants.ALL_DONE, declared.steps.Step.Step, Functions.put}
use Rattle.wait_model.specs.{Histories.Lacks, Rows.Allowed, Totals.total}
use Rattle.wait_model.specs.Tables.{Table, next, start}
use Rattle.wait_model.specs.DoneCounts.{raises_by_one, lowers_by_one, grants, throws, of_store, total_stored}
use Rattle.wait_model.specs.DoneCounts.{IsBalanced, IsStored, IsDoneStore, CountsStayBalanced, CountsStartBalanced}
use Rattle.wait_model.specs.DoneCounts.{ends_count, TakesAreCompleted}
use Rattle.wait_model.specs.declared.watches.Watch.TheVariants as watch
use Rattle.wait_model.specs.declared.steps.Step.TheVariants as step
use Rattle.wait_model.proofs.Functions.{put_same, put_other}
use Rattle.wait_model.proofs.HistoryLaws.StepTotals.{total_grown, sum_zero}

-- one store of the count
one_store : (value found : ℕ) → found ≤ ALL_DONE → IsStored value found
    → raises_by_one value found + grants value found + found ≡ lowers_by_one value found + throws value found + value
one_store value found small is = elim is.1 [
  | inl q ↦ grind (arith, q)
  | inr q ↦ elim q [
    | inl p ↦ grind (arith, p)
    | inr p ↦ elim p [ inl z ↦ grind (arith, z, small) | inr z ↦ grind (arith, z, small) ]
  ]
]

-- what a step does to the count: nothing, or it is a store
pub record Stored (s : Table) (a : ℕ) (e : Step) (d : ℕ) : Type 0 where
  pub value : ℕ
  pub found : ℕ
  pub is_found : found ≡ s.words.dones d
  pub is_stored : IsStored value found
  pub counts : (count : ℕ → ℕ → ℕ) → of_store count d e ≡ count value found
  pub now : (next s a e).words.dones d ≡ value

pub record Untouched (s : Table) (a : ℕ) (e : Step) (d : ℕ) : Type 0 where
  pub counts : (count : ℕ → ℕ → ℕ) → of_store count d e ≡ 0
  pub same : (next s a e).words.dones d ≡ s.words.dones d

-- a store of completion c, for completion d
by_store : (s : Table) (a : ℕ) (e : Step) (c d value found : ℕ)
    → ((count : ℕ → ℕ → ℕ) → of_store count d e ≡ (if c == d then count value found else 0))
    → (next s a e).words.dones ≡ put s.words.dones c value → found ≡ s.words.dones c → IsStored value found
    → Untouched s a e d ⊎ Stored s a e d
by_store s a e c d value found counts now read is = elim (eqb_tells c d) [
  | inl q ↦ inr (record {
    value = value;
    found = found;
    is_found = read ∙ ap s.words.dones q.1;
    is_stored = is;
    counts = λ count. counts count ∙ rw q.0 refl;
    now = ap (λ (f : ℕ → ℕ). f d) now ∙ ap (put s.words.dones c value) (sym q.1)
        ∙ put_same s.words.dones c value;
  })
  | inr q ↦ inl (record {
    counts = λ count. counts count ∙ rw q.0 refl;
    same = ap (λ (f : ℕ → ℕ). f d) now ∙ put_other s.words.dones c value d (λ p. q.1 (sym p));
  })
]

effect : (s : Table) (a : ℕ) (e : Step) (d : ℕ) → Allowed s a e → IsDoneStore e
    → Untouched s a e d ⊎ Stored s a e d
effect s a (step.Publish (watch.Done c) n r) d al is =
    by_store s a (step.Publish (watch.Done c) n r) c d n r (λ count. refl) refl al.2 is
effect s a (step.Consume (watch.Done c) n r) d al is =
    by_store s a (step.Consume (watch.Done c) n r) c d n r (λ count. refl) refl al.2 is
effect s a e d al is = inl (record { counts = λ count. refl; same = refl })

pub counts_stay_balanced : CountsStayBalanced
counts_stay_balanced n s a e d lt al is k = by (effect s a e d al is)
  where
    grown : (count : ℕ → ℕ → ℕ) → total_stored n count (next s a e) d ≡ total_stored n count s d + of_store count d e
    grown count = total_grown n a (of_store count d) s.history e lt

    -- the sums with what the step adds to each
    balanced : (raise grant lower throw now : ℕ) → of_store raises_by_one d e ≡ raise → of_store grants d e ≡ grant
        → of_store lowers_by_one d e ≡ lower → of_store throws d e ≡ throw → (next s a e).words.dones d ≡ now
        → raise + grant + s.words.dones d ≡ lower + throw + now
        → total_stored n raises_by_one (next s a e) d + total_stored n grants (next s a e) d
        ≡ total_stored n lowers_by_one (next s a e) d + total_stored n throws (next s a e) d
        + (next s a e).words.dones d
    balanced raise grant lower throw now p q r t z one =
        let b = k.balance in
        let g = grown raises_by_one in
        let h = grown grants in
        let i = grown lowers_by_one in
        let j = grown throws in
        omega (arith, b, g, h, i, j, p, q, r, t, z, one)

    by : Untouched s a e d ⊎ Stored s a e d → IsBalanced n (next s a e) d
    by (inl u) = record {
      range = let r = k.range in let q = u.same in omega (arith, q, r);
      balance = balanced 0 0 0 0 (s.words.dones d) (u.counts raises_by_one) (u.counts grants) (u.counts lowers_by_one)
          (u.counts throws) u.same (omega arith);
    }
    by (inr u) = record {
      range = let r = u.is_stored.0 in let q = u.now in omega (arith, q, r);
      balance = balanced (raises_by_one u.value u.found) (grants u.value u.found) (lowers_by_one u.value u.found)
          (throws u.value u.found) u.value (u.counts raises_by_one) (u.counts grants) (u.counts lowers_by_one)
          (u.counts throws) u.now
          (let f = u.is_found in
          let small = k.range in
          let one = one_store u.value u.found (omega (arith, f, small)) u.is_stored in
          omega (arith, f, one));
    }

pub counts_start_balanced : CountsStartBalanced
counts_start_balanced n d = record {
  range = omega arith;
  balance =
      let p = none raises_by_one in
      let q = none grants in
      let r = none lowers_by_one in
      let t = none throws in
      omega (arith, p, q, r, t);
}
  where
    none : (count : ℕ → ℕ → ℕ) → total_stored n count start d ≡ 0
    none count = sum_zero n (λ a. total (of_store count d) (start.history a)) (λ i lt. refl)

-- a store that is none of the end grants nothing
none_granted : (e : Step) (d : ℕ) → ends_count d e ≡ false → of_store grants d e ≡ 0
none_granted (step.Publish (watch.Done c) value found) d h = grind arith
none_granted (step.Consume (watch.Done c) value found) d h = grind arith
none_granted e d h = refl

none_in : (es : List Step) (d : ℕ) → Lacks (ends_count d) es → total (of_store grants d) es ≡ 0
none_in [] d l = refl
none_in (e ∷ es) d l =
    let here = none_granted e d l.0 in
    let ih = none_in es d l.1 in
    omega (arith, here, ih)

pub takes_are_completed : TakesAreCompleted
takes_are_completed n s d k none =
    let z : total_stored n grants s d ≡ 0 =
    sum_zero n (λ a. total (of_store grants d) (s.history a))
    (λ a lt. none_in (s.history a) d (none a lt)) in
    let b = k.balance in
    omega (arith, b, z)
