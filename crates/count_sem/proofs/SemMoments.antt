-- The law on permits of semaphores, after each order of steps and on a Domain.
use Rattle.std.proofs.Common.{refl, sym, ◌∙◌, ap, subst, arith, eq-eqb, inl, inr}
use Rattle.std.proofs.lemmas.Bool.Decides.{eqb_tells, nat_tests}
use Rattle.std.specs.Prelude.{ℕ, zero, suc, ◌≡◌, ◌≢◌, ◌<◌, ◌+◌, ◌==◌, Bool, true, false, ◌&&◌, Some, List, [], ◌∷◌}
use Rattle.std.specs.Prelude.{◌++◌}
use Rattle.wait_model.specs.{declared.layout.TheConstants.ALL_DONE, declared.layout.TheConstants.TASKS}
use Rattle.wait_model.specs.{declared.steps.Step.Step, Facts.Kept, Fold.view_of, Functions.put, PermitFacts.IsExact}
use Rattle.wait_model.specs.{PermitFacts.dealt_in, Rows.Allowed, Runs.own, Tables.Table, Tables.start, Totals.sum_below}
use Rattle.wait_model.specs.{Views.View, Views.blank, Watches.stands_at, Words.flag}
use Rattle.wait_model.specs.Permits.{done_head, is_handed, is_in, is_seen}
use Rattle.wait_model.specs.declared.steps.Step.TheVariants as step
use Rattle.wait_model.specs.declared.watches.Watch.TheVariants as watch
use Rattle.wait_model.proofs.{HistoryLaws.StepTotals.sum_same, HistoryLaws.StepTotals.sum_zero}
use Rattle.wait_model.proofs.{PermitLaws.OwnTurns.clash, PermitLaws.OwnTurns.in_is, PermitLaws.PermitTurns.due}
use Rattle.wait_model.proofs.Functions.{put_case, put_other, put_same}
use Rattle.wait_rule.specs.Interleavings.{AreAllowed, AreHanded, TaskStep, table_of}
use Rattle.wait_rule.proofs.{KnownLaws.HandedPermits.accounted_of, KnownLaws.Moments.kept_of}
use Rattle.count_sem.specs.SemPermits.{AllKeepPermits, AllUseAsSemaphore, FindsNoEnd, IsSemStep, KeepsPermits}
use Rattle.count_sem.specs.SemPermits.{RuleKeepsPermits, StepsKeepPermits, UsesAsSemaphore, permits_given}
use Rattle.count_sem.specs.SemPermits.{permits_taken}
use Rattle.count_sem.proofs.SemSums.{due_of, owed_to, sem_before, sem_last}
use Rattle.count_sem.proofs.SemTurns.{IsPaid, paid_step}

-- the histories before the latest step
module _ (d : ℕ) (s : Table) (a : ℕ) (e : Step) (lt : a < TASKS) where
  used_before : AllUseAsSemaphore d (put s.history a (s.history a ++ e ∷ [])) → AllUseAsSemaphore d s.history
  used_before all t few = elim (eqb_tells t a) [
    | inl q ↦ subst (λ (i : ℕ). UsesAsSemaphore d (s.history i)) (sym q.1)
        (sem_before d blank (s.history a) e
        (subst (UsesAsSemaphore d) (put_same s.history a (s.history a ++ e ∷ [])) (all a lt)))
    | inr q ↦ subst (UsesAsSemaphore d) (put_other s.history a (s.history a ++ e ∷ []) t q.1) (all t few)
  ]

  used_last : AllUseAsSemaphore d (put s.history a (s.history a ++ e ∷ [])) → IsSemStep d (view_of (s.history a)) e
  used_last all = sem_last d blank (s.history a) e
      (subst (UsesAsSemaphore d) (put_same s.history a (s.history a ++ e ∷ [])) (all a lt))

-- the sum of two functions
sum_both : (n : ℕ) (f g : ℕ → ℕ) → sum_below n (λ i. f i + g i) ≡ sum_below n f + sum_below n g
unfolding sum_below
sum_both zero f g = refl
sum_both (suc n) f g = let ih = sum_both n f g in omega (arith, ih)

start_paid : (d : ℕ) → IsPaid start d
start_paid d = record {
  none = λ x st. refl;
  total =
      let one = sum_zero TASKS (λ b. permits_given d b (start.history b)) (λ i _. refl) in
      let two = sum_zero TASKS (owed_to start d) (λ i _. refl) in
      omega (arith, one, two);
  below = omega arith;
}

paid_of : (xs : List TaskStep) → AreAllowed xs → AreHanded xs → (d : ℕ) → AllUseAsSemaphore d (table_of xs).history
    → IsPaid (table_of xs) d
paid_of [] may on d all = start_paid d
paid_of (x ∷ xs) may on d all =
    let acc = accounted_of xs may.2 on.1 in
    paid_step (table_of xs) x.task d acc.views may.0 (kept_of xs may.2) (acc.exact d)
    (paid_of xs may.2 on.1 d (used_before d (table_of xs) x.task x.made may.0 all)) x.made may.1 (on.0 d)
    (subst (λ (v : View). IsSemStep d v x.made) (sym (acc.views x.task))
    (used_last d (table_of xs) x.task x.made may.0 all))

-- each load of the count found it below its end
abbrev IsLowLoad : ℕ → Step → Type 0
IsLowLoad d (step.Load (watch.Done c) n) = (c == d) ≡ true → n < ALL_DONE
IsLowLoad d e = Unit {0}

abbrev AreLowLoads : ℕ → List Step → Type 0
AreLowLoads d [] = Unit {0}
AreLowLoads d (e ∷ es) = IsLowLoad d e × AreLowLoads d es

low_more : (d : ℕ) (es : List Step) (e : Step) → AreLowLoads d es → IsLowLoad d e → AreLowLoads d (es ++ e ∷ [])
low_more d [] e are is = (is, tt)
low_more d (f ∷ es) e are is = (are.0, low_more d es e are.1 is)

low_at : (d n : ℕ) (front rest : List Step) → AreLowLoads d (front ++ step.Load (watch.Done d) n ∷ rest) → n < ALL_DONE
low_at d n [] rest are = are.0 (eq-eqb d d refl)
low_at d n (f ∷ front) rest are = low_at d n front rest are.1

low_step : (s : Table) (d a : ℕ) (e : Step) → s.words.dones d < ALL_DONE → Allowed s a e → IsLowLoad d e
low_step s d a (step.Load (watch.Done c) n) below may = λ same.
    let q : c ≡ d = grind (arith, nat_tests) in
    let found : n ≡ s.words.dones d = may ∙ ap s.words.dones q in
    omega (arith, found, below)
low_step s d a e below may = tt

low_loads : (xs : List TaskStep) → AreAllowed xs → AreHanded xs → (d : ℕ) → AllUseAsSemaphore d (table_of xs).history
    → (a : ℕ) → AreLowLoads d ((table_of xs).history a)
low_loads [] may on d all a = tt
low_loads (x ∷ xs) may on d all a =
    let h = (table_of xs).history in
    let before = used_before d (table_of xs) x.task x.made may.0 all in
    let low = (paid_of xs may.2 on.1 d before).below in
    elim (put_case h x.task (h x.task ++ x.made ∷ []) a) [
      | inl q ↦ subst (AreLowLoads d) (sym q.1) (low_more d (h x.task) x.made (low_loads xs may.2 on.1 d before x.task)
          (low_step (table_of xs) d x.task x.made (omega (arith, low)) may.1))
      | inr q ↦ subst (AreLowLoads d) (sym q.1) (low_loads xs may.2 on.1 d before a)
    ]

finds_of : (d : ℕ) (es : List Step) → AreLowLoads d es → FindsNoEnd d es
finds_of d es are n front rest is = low_at d n front rest (subst (AreLowLoads d) is are)

-- what the account says
module _ (s : Table) (d : ℕ) (k : Kept s) (x : IsExact s d) (p : IsPaid s d)
    (low : (a : ℕ) → AreLowLoads d (s.history a))
  where
    none_queued : (b : Bool) (a n y : ℕ) → stands_at (s.entry y) (done_head d) ≡ b → (dealt_in s d a).count ≡ Some n
        → n ≢ 0 → stands_at (s.entry y) (done_head d) ≡ false
    none_queued false a n y is known some = is
    none_queued true a n y is known some = absurd (some (sym (x.known a n known) ∙ p.none y is))

    away : s.holder (done_head d) ≡ false → (a : ℕ) → (t : Bool) → is_in d (s.view a) ≡ t → is_in d (s.view a) ≡ false
    away free a false q = q
    away free a true q = absurd (clash (s.holder (done_head d))
        ((k.facts.views a).hold.held (done_head d) (in_is (s.view a).hold.head (done_head d) q)) free)

    due_handed : s.holder (done_head d) ≡ false → (a : ℕ)
        → due_of s d a ≡ flag (is_handed (dealt_in s d a) (stands_at (s.entry (own a)) (done_head d)))
    due_handed free a = ap (λ (b : Bool). due (dealt_in s d a).left (b && is_seen ((s.view a).hold.book (own a)))
        (stands_at (s.entry (own a)) (done_head d))) (away free a (is_in d (s.view a)) refl)

    keeps : KeepsPermits s d
    keeps = record {
      none = p.none;
      alone = λ a n y known some. none_queued (stands_at (s.entry y) (done_head d)) a n y refl known some;
      sums = λ free.
          let t = p.total in
          let parts = sum_both TASKS (λ a. permits_taken d a (s.history a)) (due_of s d) in
          let same = sum_same TASKS (λ a. flag (is_handed (dealt_in s d a) (stands_at (s.entry (own a)) (done_head d))))
          (due_of s d) (λ a _. due_handed free a) in
          omega (arith, t, parts, same);
      below = let b = p.below in omega (arith, b);
      found = λ a. finds_of d (s.history a) (low a);
    }

pub steps_keep : StepsKeepPermits
steps_keep xs may on d all = keeps (table_of xs) d (kept_of xs may) ((accounted_of xs may on).exact d)
    (paid_of xs may on d all) (low_loads xs may on d all)

pub rule_keeps : RuleKeepsPermits
rule_keeps s items ruled d all =
    let k = ruled.whole.interleaved in
    subst (λ (t : Table). KeepsPermits t d) (sym k.leads)
    (steps_keep k.steps k.allowed k.handed d (subst (λ (t : Table). AllUseAsSemaphore d t.history) k.leads all))

pub all_keep : AllKeepPermits
all_keep v law all d use_all = (
  λ t few. law.history t (all t few),
  rule_keeps law.table law.items law.ruled d (λ t few. subst (UsesAsSemaphore d) (sym (law.history t (all t few)))
      (use_all t few)),
)
