-- No task takes a signal that nobody raised at it.
use Rattle.std.proofs.Common.{refl, sym, ◌∙◌, ap, subst, arith, inl, inr}
use Rattle.std.proofs.lemmas.Bool.Decides.{eqb_tells}
use Rattle.std.specs.Prelude.{ℕ, ◌≡◌, ◌≢◌, ◌+◌, ◌<◌, ◌≤◌, Bool, true, false, ◌&&◌, ◌||◌, ◌==◌}
use Rattle.wait_model.specs.{declared.layout.TheConstants.TASKS, declared.tasks.TaskRecord.TaskRecord}
use Rattle.wait_model.specs.{declared.steps.Step.Step, Words.flag, Tables.Table, Tables.next, Totals.total}
use Rattle.wait_model.specs.{Totals.total_below, Functions.put}
use Rattle.wait_model.specs.Tasks.{woken, slept, raised, accepted, task_of}
use Rattle.wait_model.specs.SignalCounts.{is_signalled, takes_fatal, takes_any, raises_fatal, raises_any, AreRaised}
use Rattle.wait_model.specs.SignalCounts.{SignalsStayRaised, SignalsStartRaised, NoRunInventsSignals}
use Rattle.wait_model.specs.declared.steps.Step.TheVariants as step
use Rattle.wait_model.proofs.Functions.{put_at, put_same, put_other}
use Rattle.wait_model.proofs.HistoryLaws.StepTotals.{total_grown, total_still, total_own, total_other}
use Rattle.wait_model.proofs.StepLaws.TableLaws.{table_law}

-- a step that takes nothing, and after which no more is pending than it raised
quiet : (n : ℕ) (s : Table) (a : ℕ) (e : Step) (t : ℕ) (takes raises : Step → ℕ) (p q : ℕ) → a < n
    → takes e ≡ 0 → q ≤ p + raises e
    → total takes (s.history t) + p ≤ total_below n raises s.history
    → total takes ((next s a e).history t) + q ≤ total_below n raises (next s a e).history
quiet n s a e t takes raises p q lt none more h =
    let own = total_still takes s.history a e t none in
    let all = total_grown n a raises s.history e lt in
    omega (arith, own, all, more, h)

-- a step that takes what is pending at its own task
taken : (n : ℕ) (s : Table) (a : ℕ) (e : Step) (t : ℕ) (takes raises : Step → ℕ) (p q : ℕ) → a < n
    → (t ≡ a → (takes e ≡ p) × (q ≡ 0)) → (t ≢ a → q ≡ p)
    → total takes (s.history t) + p ≤ total_below n raises s.history
    → total takes ((next s a e).history t) + q ≤ total_below n raises (next s a e).history
taken n s a e t takes raises p q lt mine other h = elim (eqb_tells t a) [
  | inl r ↦ (
      let own = total_own takes s.history a e t r.1 in
      let all = total_grown n a raises s.history e lt in
      let here = (mine r.1).0 in
      let gone = (mine r.1).1 in
      omega (arith, own, all, here, gone, h)
      )
  | inr r ↦ (
      let own = total_other takes s.history a e t r.1 in
      let all = total_grown n a raises s.history e lt in
      let same = other r.1 in
      omega (arith, own, all, same, h)
      )
]

-- what is pending at t stays as it was
abbrev Same : Table → ℕ → Step → ℕ → Type 0
Same s a e t = (((next s a e).task t).signal ≡ (s.task t).signal)
    × (((next s a e).task t).fatal ≡ (s.task t).fatal)

still : (n : ℕ) (s : Table) (a : ℕ) (e : Step) (t : ℕ) → a < n → takes_fatal e ≡ 0 → takes_any e ≡ 0
    → Same s a e t → AreRaised n s t → AreRaised n (next s a e) t
still n s a e t lt zf za same r = record {
  fatal = quiet n s a e t takes_fatal (raises_fatal t) (flag (s.task t).fatal)
      (flag ((next s a e).task t).fatal)
      lt zf (fatal_same) r.fatal;
  any = quiet n s a e t takes_any (raises_any t) (flag (is_signalled (s.task t)))
      (flag (is_signalled ((next s a e).task t))) lt za any_same r.any;
}
  where
    fatal_same : flag ((next s a e).task t).fatal ≤ flag (s.task t).fatal + raises_fatal t e
    fatal_same = let q = ap flag same.1 in omega (arith, q)

    any_same : flag (is_signalled ((next s a e).task t)) ≤ flag (is_signalled (s.task t)) + raises_any t e
    any_same =
        let q : flag (is_signalled ((next s a e).task t)) ≡ flag (is_signalled (s.task t)) =
        rw (same.0, same.1) refl
        in
        omega (arith, q)

abbrev Alike : TaskRecord → TaskRecord → Type 0
Alike t u = (t.signal ≡ u.signal) × (t.fatal ≡ u.fatal)

-- one task's record is changed to one of the same signals
put_alike : (s : Table) (b : ℕ) (v : TaskRecord) (t : ℕ) (e : Step) (a : ℕ) → Alike v (s.task b)
    → Alike (put s.task b v t) (s.task t)
put_alike s b v t e a al = put_at (λ (u : TaskRecord). Alike u (s.task t)) s.task b v t
    (λ q. subst (λ (i : ℕ). Alike v (s.task i)) (sym q) al) (λ _. (refl, refl))

slept_alike : (u : TaskRecord) → Alike (slept u) u
slept_alike u = grind arith

woken_alike : (mask : ℕ) (u : TaskRecord) → Alike (woken mask u) u
woken_alike mask u = grind arith

flag_or : (f b : Bool) → flag (f || b) ≤ flag b + flag f
flag_or true true = omega arith
flag_or true false = omega arith
flag_or false true = omega arith
flag_or false false = omega arith

flag_most : (b : Bool) (m : ℕ) → flag b ≤ m + 1
flag_most true m = omega arith
flag_most false m = omega arith

-- a raise adds at most itself to what is pending
raised_at : (s : Table) (who : ℕ) (f : Bool) (t : ℕ)
    → (flag (put s.task who (raised f (s.task who)) t).fatal ≤ flag (s.task t).fatal + flag ((t == who) && f))
    × (flag (is_signalled (put s.task who (raised f (s.task who)) t)) ≤ flag (is_signalled (s.task t)) + flag
    (t == who))
raised_at s who f t = elim (eqb_tells t who) [
  | inl q ↦ subst
      (λ (i : ℕ). (flag (put s.task who (raised f (s.task who)) t).fatal ≤ flag (s.task i).fatal + flag
      ((t == who) && f))
      × (flag (is_signalled (put s.task who (raised f (s.task who)) t)) ≤ flag (is_signalled (s.task i)) +
      flag (t == who)))
      (sym q.1) (rw q.0 (flag_or f (s.task who).fatal, flag_most true (flag (is_signalled (s.task who)))))
  | inr q ↦ rw q.0 (omega arith, omega arith)
]

-- what an accept takes is what was pending, and nothing is pending after it
accepted_at : (s : Table) (a w t : ℕ) → t ≡ a → task_of w ≡ s.task a
    → ((flag (task_of w).fatal ≡ flag (s.task t).fatal)
    × (flag (put s.task a (accepted (s.task a)) t).fatal ≡ 0))
    × ((flag (is_signalled (task_of w)) ≡ flag (is_signalled (s.task t)))
    × (flag (is_signalled (put s.task a (accepted (s.task a)) t)) ≡ 0))
accepted_at s a w t q al =
    let now : put s.task a (accepted (s.task a)) t ≡ accepted (s.task a) =
    ap (put s.task a (accepted (s.task a))) q ∙ put_same s.task a (accepted (s.task a)) in
    let was : task_of w ≡ s.task t = al ∙ ap s.task (sym q) in (
      (ap (λ (u : TaskRecord). flag u.fatal) was, ap (λ (u : TaskRecord). flag u.fatal) now),
      (ap (λ (u : TaskRecord). flag (is_signalled u)) was, ap (λ (u : TaskRecord). flag (is_signalled u)) now),
    )

pub signals_stay_raised : SignalsStayRaised
signals_stay_raised n s a (step.State σ) t lt al r = still n s a (step.State σ) t lt refl refl
    (put_alike s a (record (s.task a) { state = σ }) t (step.State σ) a (refl, refl)) r
signals_stay_raised n s a (step.Sleep w) t lt al r = still n s a (step.Sleep w) t lt refl refl
    (put_alike s a (slept (s.task a)) t (step.Sleep w) a (slept_alike (s.task a))) r
signals_stay_raised n s a (step.Wake who mask w) t lt al r = still n s a (step.Wake who mask w) t lt refl refl
    (put_alike s who (woken mask (s.task who)) t (step.Wake who mask w) a (woken_alike mask (s.task who))) r
signals_stay_raised n s a (step.Signal who f w) t lt al r = record {
  fatal = quiet n s a (step.Signal who f w) t takes_fatal (raises_fatal t) (flag (s.task t).fatal)
      (flag (put s.task who (raised f (s.task who)) t).fatal) lt refl (raised_at s who f t).0 r.fatal;
  any = quiet n s a (step.Signal who f w) t takes_any (raises_any t) (flag (is_signalled (s.task t)))
      (flag (is_signalled (put s.task who (raised f (s.task who)) t))) lt refl (raised_at s who f t).1 r.any;
}
signals_stay_raised n s a (step.Accept w) t lt al r = record {
  fatal = taken n s a (step.Accept w) t takes_fatal (raises_fatal t) (flag (s.task t).fatal)
      (flag (put s.task a (accepted (s.task a)) t).fatal) lt
      (λ q. (accepted_at s a w t q al).0)
      (λ ne. ap (λ (u : TaskRecord). flag u.fatal) (put_other s.task a (accepted (s.task a)) t ne)) r.fatal;
  any = taken n s a (step.Accept w) t takes_any (raises_any t) (flag (is_signalled (s.task t)))
      (flag (is_signalled (put s.task a (accepted (s.task a)) t))) lt
      (λ q. (accepted_at s a w t q al).1) (λ ne. ap (λ (u : TaskRecord). flag (is_signalled u))
      (put_other s.task a (accepted (s.task a)) t ne)) r.any;
}
signals_stay_raised n s a e t lt al r = still n s a e t lt refl refl (refl, refl) r

pub signals_start_raised : SignalsStartRaised
signals_start_raised n t = record { fatal = omega arith; any = omega arith }

pub no_run_invents_signals : NoRunInventsSignals
no_run_invents_signals run r few t = table_law (λ (s : Table). AreRaised TASKS s t)
    (signals_start_raised TASKS t)
    (λ s a e lt k told al. signals_stay_raised TASKS s a e t lt al) run r few
