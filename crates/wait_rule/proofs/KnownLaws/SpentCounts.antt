-- The spent count of a head is the number of unlocks by which wakes used up their count, in all histories.
use Rattle.std.proofs.lemmas.Bool.Decides.{eqb_tells, nat_tests}
use Rattle.std.proofs.Common.{refl, sym, ◌∙◌, ap, subst, arith, inl, inr}
use Rattle.std.specs.Prelude.{ℕ, ◌≡◌, ◌≢◌, ◌+◌, ◌-◌, ◌^◌, ◌<◌, ◌⊎◌, ◌==◌, ◌&&◌, Bool, true, false, if◌then◌else◌, List}
use Rattle.std.specs.Prelude.{[], ◌∷◌}
use Rattle.wait_model.specs.{declared.layout.TheConstants.TASKS, declared.steps.Step.Step, Functions.put, Words.flag}
use Rattle.wait_model.specs.Totals.{total}
use Rattle.wait_model.specs.Tables.{Table, next, raised_spent}
use Rattle.wait_model.specs.declared.steps.Step.TheVariants as step
use Rattle.wait_model.proofs.Functions.{put_case}
use Rattle.wait_model.proofs.HistoryLaws.StepTotals.{sum_same, sum_zero, total_grown}
use Rattle.wait_rule.specs.Interleavings.{AreAllowed, TaskStep, table_of}
use Rattle.wait_rule.specs.TableLaws.{AllCountSpent, RuleCountsSpent, SpentIs, histories_in, spends_at, spent_in}

spent_grows : (s : Table) (a : ℕ) (e : Step) (h : ℕ) → a < TASKS
    → spent_in h (next s a e).history ≡ spent_in h s.history + spends_at h e
spent_grows s a e h few = total_grown TASKS a (spends_at h) s.history e few

one_more : (n c : ℕ) (b : Bool) → SpentIs n c → SpentIs (n + flag b) (raised_spent b c)
one_more n c false k = subst (λ (m : ℕ). SpentIs m c) (let z : n ≡ n + 0 = omega arith in z) k
one_more n c true k = by (c == 2 ^ 62 - 1) refl k
  where
    by : (b : Bool) → (c == 2 ^ 62 - 1) ≡ b → SpentIs n c → SpentIs (n + 1) (if b then c else c + 1)
    by true is (inl p) = let e : c ≡ 2 ^ 62 - 1 = grind (arith, nat_tests, is) in let q = p.1 in
        inr (omega (arith, e, q), e)
    by true is (inr p) = let q = p.0 in inr (omega (arith, q), p.1)
    by false is (inl p) =
        let ne : c ≢ 2 ^ 62 - 1 = grind (arith, nat_tests, is) in
        let q = p.1 in
        let r = p.0 in
        inl (omega (arith, ne, q, r), omega (arith, q))
    by false is (inr p) =
        let ne : c ≢ 2 ^ 62 - 1 = grind (arith, nat_tests, is) in absurd (ne p.1)

-- an unlock
unlocked : (s : Table) (g : ℕ) (b : Bool) (h : ℕ) → SpentIs (spent_in h s.history) (s.spent h)
    → SpentIs (spent_in h s.history + flag ((g == h) && b)) (put s.spent g (raised_spent b (s.spent g)) h)
unlocked s g b h k = by (put_case s.spent g (raised_spent b (s.spent g)) h) (eqb_tells g h)
  where
    n : ℕ
    n = spent_in h s.history

    At : Bool → Bool → Type 0
    At c t = SpentIs (n + flag (t && c)) (put s.spent g (raised_spent c (s.spent g)) h)

    by : ((h ≡ g) × (put s.spent g (raised_spent b (s.spent g)) h ≡ raised_spent b (s.spent g)))
        ⊎ ((h ≢ g) × (put s.spent g (raised_spent b (s.spent g)) h ≡ s.spent h))
        → (((g == h) ≡ true) × (g ≡ h)) ⊎ (((g == h) ≡ false) × (g ≢ h))
        → SpentIs (n + flag ((g == h) && b)) (put s.spent g (raised_spent b (s.spent g)) h)
    by (inl p) (inl q) = subst (At b) (sym q.0) (subst (SpentIs (n + flag b))
        (sym (p.1 ∙ ap (λ (i : ℕ). raised_spent b (s.spent i)) (sym p.0))) (one_more n (s.spent h) b k))
    by (inl p) (inr q) = absurd (q.1 (sym p.0))
    by (inr p) (inl q) = absurd (p.0 (sym q.1))
    by (inr p) (inr q) = subst (At b) (sym q.0) (subst (SpentIs (n + 0)) (sym p.1) (one_more n (s.spent h) false k))

spent_step : (s : Table) (a : ℕ) (e : Step) (h : ℕ) → SpentIs (spent_in h s.history) (s.spent h)
    → SpentIs (spent_in h s.history + spends_at h e) ((next s a e).spent h)
spent_step s a (step.Unlock g b) h k = unlocked s g b h k
spent_step s a e h k = one_more (spent_in h s.history) (s.spent h) false k

pub spent_of : (xs : List TaskStep) → AreAllowed xs → (h : ℕ)
    → SpentIs (spent_in h (table_of xs).history) ((table_of xs).spent h)
spent_of [] may h = inl (let z : spent_in h (table_of []).history ≡ 0 = none in omega (arith, z), sym none)
  where
    none : spent_in h (table_of []).history ≡ 0
    none = sum_zero TASKS (λ a. total (spends_at h) ((table_of []).history a)) (λ a few. refl)
spent_of (x ∷ xs) may h = subst (λ (n : ℕ). SpentIs n ((table_of (x ∷ xs)).spent h))
    (sym (spent_grows (table_of xs) x.task x.made h may.0))
    (spent_step (table_of xs) x.task x.made h (spent_of xs may.2 h))

pub rule_counts_spent : RuleCountsSpent
rule_counts_spent s items ruled h =
    let k = ruled.whole.interleaved in
    subst (λ (t : Table). SpentIs (spent_in h t.history) (t.spent h)) (sym k.leads) (spent_of k.steps k.allowed h)

pub all_count_spent : AllCountSpent
all_count_spent v law all h = subst (λ (n : ℕ). SpentIs n (law.table.spent h))
    (sum_same TASKS (λ a. total (spends_at h) (histories_in v a)) (λ a. total (spends_at h) (law.table.history a))
    (λ a few. ap (total (spends_at h)) (law.history a (all a few))))
    (rule_counts_spent law.table law.items law.ruled h)
