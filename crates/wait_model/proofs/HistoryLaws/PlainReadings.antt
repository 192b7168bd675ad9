-- The fold's readings are the ones that are stated plainly.
use Rattle.std.proofs.lemmas.Option.{none-some}
use Rattle.std.proofs.lemmas.Bool.{both_ways}
use Rattle.std.proofs.Common.{refl, sym, ◌∙◌, ap, subst, arith, inl, inr}
use Rattle.std.specs.Prelude.{ℕ, ◌≡◌, ◌⊎◌, Option, Some, None, Bool, true, false, cond, not, ◌&&◌, ◌||◌, List, [], ◌∷◌}
use Rattle.std.specs.Prelude.{◌++◌}
use Rattle.wait_model.specs.{declared.watches.Watch.Watch, declared.steps.Step.Step, Histories.publishes}
use Rattle.wait_model.specs.Watches.{head_of}
use Rattle.wait_model.specs.Views.{Walk, Checks, View, blank}
use Rattle.wait_model.specs.Fold.{after_unlock, after, after_all, view_of}
use Rattle.wait_model.specs.Readings.{stores_own, fails, Quiet, FailedLoad}
use Rattle.wait_model.specs.Told.{ends_walk, ends_wake, Unended, Owing, FailedTold, OwingTold}
use Rattle.wait_model.proofs.StepLaws.UnlockSteps.{unlock_checks}
use Rattle.wait_model.specs.declared.steps.Step.TheVariants as step

after_append : (v : View) (es fs : List Step) → after_all v (es ++ fs) ≡ after_all (after_all v es) fs
after_append v [] fs = refl
after_append v (e ∷ es) fs = after_append (after e v) es fs

-- what any step does to this reading
failed_after : (e : Step) (v : View) (x : ℕ) (c : Watch)
    → (after e v).checks.failed x c ≡ cond (stores_own e x) None
    (cond (fails e c) (Some (v.checks.found (head_of c))) (v.checks.failed x c))
failed_after (step.Queue y d) v x c = grind arith
failed_after (step.Unlock h sp) v x c = ap (λ (k : Checks). k.failed x c) (unlock_checks v v.walk sp)
failed_after e v x c = refl

-- a failed load of the steps, or one from before them
abbrev Found : View → List Step → ℕ → Watch → ℕ → Type 0
Found v es x c n = ((l : FailedLoad es x c) × (n ≡ (after_all v l.before).checks.found (head_of c)))
    ⊎ ((v.checks.failed x c ≡ Some n) × Quiet x c es)

find : (es : List Step) (v : View) (x : ℕ) (c : Watch) (n : ℕ) → (after_all v es).checks.failed x c ≡ Some n
    → Found v es x c n
find [] v x c n h = inr (h, tt)
find (e ∷ es) v x c n h = by (find es (after e v) x c n h)
  where
    at : (b : Bool) → stores_own e x ≡ b → (f : Bool) → fails e c ≡ f
        → cond (stores_own e x) None (cond (fails e c) (Some (v.checks.found (head_of c))) (v.checks.failed x c))
        ≡ Some n → Quiet x c es → Found v (e ∷ es) x c n
    at true p f q h r =
        absurd (let z : cond (stores_own e x) None (cond (fails e c) (Some (v.checks.found (head_of c)))
        (v.checks.failed x c)) ≡ None = rw p refl in cc)
    at false p true q h r = inl (
      record { before = []; load = e; later = es; split = refl; is_load = q; is_no_store = p; quiet = r },
      (let z : Some (v.checks.found (head_of c)) ≡ Some n = (rw (p, q) at h)
          in cc),
    )
    at false p false q h r = inr ((rw (p, q) at h), ((p, q), r))

    by : Found (after e v) es x c n → Found v (e ∷ es) x c n
    by (inl l) = inl (
      record {
        before = e ∷ l.0.before;
        load = l.0.load;
        later = l.0.later;
        split = ap (λ (t : List Step). e ∷ t) l.0.split;
        is_load = l.0.is_load;
        is_no_store = l.0.is_no_store;
        quiet = l.0.quiet;
      },
      l.1,
    )
    by (inr q) = at (stores_own e x) refl (fails e c) refl (sym (failed_after e v x c) ∙ q.0) q.1

quiet_after : (es : List Step) (v : View) (x : ℕ) (c : Watch) → Quiet x c es
    → (after_all v es).checks.failed x c ≡ v.checks.failed x c
quiet_after [] v x c q = refl
quiet_after (e ∷ es) v x c q = quiet_after es (after e v) x c q.1 ∙ failed_after e v x c
    ∙ rw (q.0.0, q.0.1) refl

failed_of : (es : List Step) (x : ℕ) (c : Watch) (l : FailedLoad es x c)
    → (view_of es).checks.failed x c ≡ Some ((view_of l.before).checks.found (head_of c))
failed_of es x c l =
    ap (λ (t : List Step). (view_of t).checks.failed x c) l.split
    ∙ ap (λ (v : View). v.checks.failed x c) (after_append blank l.before (l.load ∷ l.later))
    ∙ quiet_after l.later (after l.load (view_of l.before)) x c l.quiet
    ∙ failed_after l.load (view_of l.before) x c
    ∙ rw (l.is_no_store, l.is_load) refl

pub failed_told : FailedTold
failed_told es x c = (λ n h. by n (find es blank x c n h), failed_of es x c)
  where
    by : (n : ℕ) → Found blank es x c n → (l : FailedLoad es x c)
        × (n ≡ (view_of l.before).checks.found (head_of c))
    by n (inl l) = l
    by n (inr q) = absurd (none-some n q.0)

-- what any step does to what is owed
owes_unlocked : (v : View) (o : Option Walk) (sp : Bool) (c : Watch) (σ : ℕ)
    → (after_unlock v o sp).duty.owes c σ ≡ (v.duty.owes c σ && not (ends_walk o sp v c σ))
owes_unlocked v None sp c σ = grind arith
owes_unlocked v (Some w) sp c σ = grind arith

stays : (b : Bool) → b ≡ (false || (b && not false))
stays true = refl
stays false = refl

pub owes_after : (e : Step) (v : View) (c : Watch) (σ : ℕ) → (after e v).duty.owes c σ ≡ (publishes e c
    || (v.duty.owes c σ && not (ends_wake e v c σ)))
owes_after (step.Publish d n r) v c σ = grind arith
owes_after (step.Unlock h sp) v c σ = owes_unlocked v v.walk sp c σ
owes_after (step.Peek y w) v c σ = refl
owes_after (step.Scan h i w) v c σ = refl
owes_after _ v c σ = stays (v.duty.owes c σ)

-- a publish of the steps that is still owed, or one from before them
pub record OwingFrom (v : View) (es : List Step) (c : Watch) (σ : ℕ) : Type 0 where
  pub before : List Step
  pub publish : Step
  pub later : List Step
  pub split : es ≡ before ++ publish ∷ later
  pub is_publish : publishes publish c ≡ true
  pub unended : Unended c σ (after_all v (before ++ publish ∷ [])) later

owed : (es : List Step) (v : View) (c : Watch) (σ : ℕ) → (after_all v es).duty.owes c σ ≡ true
    → OwingFrom v es c σ ⊎ ((v.duty.owes c σ ≡ true) × Unended c σ v es)
owed [] v c σ h = inr (h, tt)
owed (e ∷ es) v c σ h = by (owed es (after e v) c σ h)
  where
    at : (b : Bool) → publishes e c ≡ b → (f : Bool) → ends_wake e v c σ ≡ f
        → (publishes e c || (v.duty.owes c σ && not (ends_wake e v c σ))) ≡ true → Unended c σ (after e v) es
        → OwingFrom v (e ∷ es) c σ ⊎ ((v.duty.owes c σ ≡ true) × Unended c σ v (e ∷ es))
    at true p f q h u = inl (record { before = []; publish = e; later = es; split = refl; is_publish = p; unended = u })
    at false p true q h u = absurd (grind arith)
    at false p false q h u = inr (grind arith, (q, u))

    by : OwingFrom (after e v) es c σ ⊎ (((after e v).duty.owes c σ ≡ true) × Unended c σ (after e v) es)
        → OwingFrom v (e ∷ es) c σ ⊎ ((v.duty.owes c σ ≡ true) × Unended c σ v (e ∷ es))
    by (inl o) = inl (record {
      before = e ∷ o.before;
      publish = o.publish;
      later = o.later;
      split = ap (λ (t : List Step). e ∷ t) o.split;
      is_publish = o.is_publish;
      unended = o.unended;
    })
    by (inr q) = at (publishes e c) refl (ends_wake e v c σ) refl (sym (owes_after e v c σ) ∙ q.0) q.1

still_owed : (es : List Step) (v : View) (c : Watch) (σ : ℕ) → v.duty.owes c σ ≡ true → Unended c σ v es
    → (after_all v es).duty.owes c σ ≡ true
still_owed [] v c σ h u = h
still_owed (e ∷ es) v c σ h u = still_owed es (after e v) c σ (owes_after e v c σ
    ∙ rw (h, u.0) (grind arith)) u.1

owes_of : (es : List Step) (c : Watch) (σ : ℕ) → Owing es c σ → (view_of es).duty.owes c σ ≡ true
owes_of es c σ o =
    ap (λ (t : List Step). (view_of t).duty.owes c σ) o.split
    ∙ ap (λ (v : View). v.duty.owes c σ) (after_append blank o.before (o.publish ∷ o.later))
    ∙ still_owed o.later (after o.publish (view_of o.before)) c σ
    (owes_after o.publish (view_of o.before) c σ ∙ rw o.is_publish refl)
    (subst (λ (v : View). Unended c σ v o.later) (after_append blank o.before (o.publish ∷ [])) o.unended)

pub owing_told : OwingTold
owing_told es c σ = (λ h. by (owed es blank c σ h), owes_of es c σ)
  where
    by : OwingFrom blank es c σ ⊎ ((blank.duty.owes c σ ≡ true) × Unended c σ blank es) → Owing es c σ
    by (inl o) = record {
      before = o.before;
      publish = o.publish;
      later = o.later;
      split = o.split;
      is_publish = o.is_publish;
      unended = o.unended;
    }
    by (inr q) = absurd (both_ways false refl q.0)
