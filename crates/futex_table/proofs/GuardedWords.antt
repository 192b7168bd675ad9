-- What a holder of a mutex has read in a word that holders alone change stands there.
use Rattle.std.proofs.Common.{◌∙◌, ap, refl, sym, subst, arith, inl, inr}
use Rattle.std.proofs.lemmas.Bool.Decides.{eqb_tells, nat_tests}
use Rattle.std.specs.Prelude.{ℕ, ◌<◌, ◌≡◌, ◌≢◌, ◌⊎◌, ◌==◌, ◌&&◌, ◌||◌, not, eqb, Bool, true, false, if◌then◌else◌, Option, Some, None, List, [], ◌∷◌, ◌++◌}
use Rattle.wait_model.specs.{declared.layout.TheConstants.TASKS, declared.steps.Step.Step, Functions.put, Rows.Allowed}
use Rattle.wait_model.specs.{Tables.Table, Tables.next}
use Rattle.wait_model.specs.declared.steps.Step.TheVariants as step
use Rattle.wait_model.specs.declared.watches.Watch.TheVariants as watch
use Rattle.wait_model.proofs.Functions.{put_other, put_same}
use Rattle.wait_rule.specs.Interleavings.{AreAllowed, TaskStep, table_of}
use Rattle.wait_rule.specs.Setters.{step_by}
use Rattle.futex_table.specs.GuardedWords.{AreGuardedSteps, IsGuardedStep, RuleKeepsRead, StepsKeepRead, read_after}
use Rattle.futex_table.specs.GuardedWords.{read_from, read_in}
use Rattle.futex_table.specs.Holding.{holds_after, holds_from, holds_in}
use Rattle.futex_table.specs.OneHolder.{AreMutexSteps, AreUnopened, HasOneHolder}
use Rattle.futex_table.proofs.Holders.{held, holders_are_one, nobody_holds}

some_is : (x y : ℕ) → Some x ≡ Some y → x ≡ y
some_is x y q = cc

none_some : {A : Type 0} (v : ℕ) → None ≡ Some v → A
none_some v q = absurd (cc)

true_false : {A : Type 0} → true ≡ false → A
true_false q = absurd (cc)

-- one step more
pub read_on : (m c : ℕ) (es : List Step) (e : Step) (b : Bool) (o : Option ℕ)
    → read_from m c (es ++ e ∷ []) b o ≡ read_after m c e (holds_from m es b) (read_from m c es b o)
read_on m c [] e b o = refl
read_on m c (d ∷ es) e b o = read_on m c es e (holds_after m d b) (read_after m c d b o)

-- who does not hold the mutex has read nothing
or_off : (a b : Bool) → (a || b) ≡ false → a ≡ false
or_off true b q = absurd (cc)
or_off false b q = refl

none_after : (m c : ℕ) (e : Step) (b : Bool) (o : Option ℕ) → (b ≡ false → o ≡ None) → holds_after m e b ≡ false
    → read_after m c e b o ≡ None
none_after m c (step.Load (watch.Plain d) r) b o none off =
    ap (λ (h : Bool). if h && (d == c) then Some r else o) off ∙ none off
none_after m c (step.Publish (watch.Plain d) n r) b o none off = by (d == m) off
  where
    by : (z : Bool) → (if z then false else b) ≡ false
        → (if z then None else (if b && (d == c) then Some n else o)) ≡ None
    by true q = refl
    by false q = ap (λ (h : Bool). if h && (d == c) then Some n else o) q ∙ none q
none_after m c (step.Consume (watch.Plain d) n r) b o none off = by (d == c) (low (d == m) off)
  where
    low : (z : Bool) → (if z then b || not (r == 0) else b) ≡ false → b ≡ false
    low true q = or_off b (not (r == 0)) q
    low false q = q

    by : (z : Bool) → b ≡ false → (if z then None else o) ≡ None
    by true q = refl
    by false q = none q
none_after m c (step.Load (watch.Done d) r) b o none off = none off
none_after m c (step.Load (watch.Bit d i) r) b o none off = none off
none_after m c (step.Load (watch.Var d i) r) b o none off = none off
none_after m c (step.Publish (watch.Done d) n r) b o none off = none off
none_after m c (step.Publish (watch.Bit d i) n r) b o none off = none off
none_after m c (step.Publish (watch.Var d i) n r) b o none off = none off
none_after m c (step.Consume (watch.Done d) n r) b o none off = none off
none_after m c (step.Consume (watch.Bit d i) n r) b o none off = none off
none_after m c (step.Consume (watch.Var d i) n r) b o none off = none off
none_after m c e b o none off = none off

none_from : (m c : ℕ) (es : List Step) (b : Bool) (o : Option ℕ) → (b ≡ false → o ≡ None)
    → holds_from m es b ≡ false → read_from m c es b o ≡ None
none_from m c [] b o none off = none off
none_from m c (e ∷ es) b o none off = none_from m c es (holds_after m e b) (read_after m c e b o)
    (none_after m c e b o none) off

pub holds_if : (m c : ℕ) (es : List Step) (v : ℕ) → read_in m c es ≡ Some v → holds_in m es ≡ true
holds_if m c es v is = by (holds_in m es) refl
  where
    by : (b : Bool) → holds_in m es ≡ b → holds_in m es ≡ true
    by true q = q
    by false q = none_some v (sym (none_from m c es false None (λ _. refl) q) ∙ is)

module _ (m c : ℕ) where
  -- what each task has read stands
  abbrev Stands : Table → Type 0
  Stands s = (t v : ℕ) → t < TASKS → read_in m c (s.history t) ≡ Some v → s.words.plains c ≡ v

  module _ (s : Table) (a : ℕ) (lt : a < TASKS) (one : HasOneHolder s m) (stands : Stands s) where
    abbrev b : Bool
    b = holds_in m (s.history a)

    abbrev o : Option ℕ
    o = read_in m c (s.history a)

    there : (d : ℕ) → (d == c) ≡ true → c ≡ d
    there d is = grind (arith, nat_tests)

    away : (d : ℕ) → (d == c) ≡ false → c ≢ d
    away d is q = absurd (grind (arith, nat_tests))

    -- a step of the task itself
    own : (e : Step) → Allowed s a e → IsGuardedStep m c (s.history a) e → (v : ℕ) → read_after m c e b o ≡ Some v
        → (next s a e).words.plains c ≡ v
    own (step.Load (watch.Plain d) r) may guard v is = by b (d == c) refl is
      where
        by : (h z : Bool) → (d == c) ≡ z → (if h && z then Some r else o) ≡ Some v → s.words.plains c ≡ v
        by true true q w = ap s.words.plains (there d q) ∙ (sym may ∙ some_is r v w)
        by true false q w = stands a v lt w
        by false z q w = stands a v lt w
    own (step.Publish (watch.Plain d) n r) may guard v is = by (d == m) b (d == c) refl refl is guard
      where
        by : (k h z : Bool) → b ≡ h → (d == c) ≡ z → (if k then None else (if h && z then Some n else o)) ≡ Some v
            → (z ≡ true → b ≡ true) → put s.words.plains d n c ≡ v
        by true h z p q w g = none_some v w
        by false true true p q w g = ap (put s.words.plains d n) (there d q)
            ∙ (put_same s.words.plains d n ∙ some_is n v w)
        by false true false p q w g = put_other s.words.plains d n c (away d q) ∙ stands a v lt w
        by false false true p q w g = true_false (sym (g refl) ∙ p)
        by false false false p q w g = put_other s.words.plains d n c (away d q) ∙ stands a v lt w
    own (step.Consume (watch.Plain d) n r) may guard v is = by (d == c) refl is
      where
        by : (z : Bool) → (d == c) ≡ z → (if z then None else o) ≡ Some v → put s.words.plains d 0 c ≡ v
        by true q w = none_some v w
        by false q w = put_other s.words.plains d 0 c (away d q) ∙ stands a v lt w
    own (step.Load (watch.Done d) r) may guard v is = stands a v lt is
    own (step.Load (watch.Bit d i) r) may guard v is = stands a v lt is
    own (step.Load (watch.Var d i) r) may guard v is = stands a v lt is
    own (step.Publish (watch.Done d) n r) may guard v is = stands a v lt is
    own (step.Publish (watch.Bit d i) n r) may guard v is = stands a v lt is
    own (step.Publish (watch.Var d i) n r) may guard v is = stands a v lt is
    own (step.Consume (watch.Done d) n r) may guard v is = stands a v lt is
    own (step.Consume (watch.Bit d i) n r) may guard v is = stands a v lt is
    own (step.Consume (watch.Var d i) n r) may guard v is = stands a v lt is
    own e may guard v is = stands a v lt is

    -- a step of another
    other : (e : Step) → IsGuardedStep m c (s.history a) e → (t v : ℕ) → t < TASKS → t ≢ a
        → read_in m c (s.history t) ≡ Some v → (next s a e).words.plains c ≡ v
    other (step.Publish (watch.Plain d) n r) guard t v few ne is = by (d == c) refl
      where
        by : (z : Bool) → (d == c) ≡ z → put s.words.plains d n c ≡ v
        by true q = absurd (ne (holders_are_one s m t a one few lt (holds_if m c (s.history t) v is) (guard q)))
        by false q = put_other s.words.plains d n c (away d q) ∙ stands t v few is
    other (step.Consume (watch.Plain d) n r) guard t v few ne is = by (d == c) refl
      where
        by : (z : Bool) → (d == c) ≡ z → put s.words.plains d 0 c ≡ v
        by true q = absurd (ne (holders_are_one s m t a one few lt (holds_if m c (s.history t) v is) (guard q)))
        by false q = put_other s.words.plains d 0 c (away d q) ∙ stands t v few is
    other (step.Publish (watch.Done d) n r) guard t v few ne is = stands t v few is
    other (step.Publish (watch.Bit d i) n r) guard t v few ne is = stands t v few is
    other (step.Publish (watch.Var d i) n r) guard t v few ne is = stands t v few is
    other (step.Consume (watch.Done d) n r) guard t v few ne is = stands t v few is
    other (step.Consume (watch.Bit d i) n r) guard t v few ne is = stands t v few is
    other (step.Consume (watch.Var d i) n r) guard t v few ne is = stands t v few is
    other e guard t v few ne is = stands t v few is

    step_stands : (e : Step) → Allowed s a e → IsGuardedStep m c (s.history a) e → Stands (next s a e)
    step_stands e may guard t v few is = by (eqb_tells t a)
      where
        by : ((eqb t a ≡ true) × (t ≡ a)) ⊎ ((eqb t a ≡ false) × (t ≢ a)) → (next s a e).words.plains c ≡ v
        by (inl q) = own e may guard v (sym (read_on m c (s.history a) e false None)
            ∙ (ap (read_in m c) (sym (put_same s.history a (s.history a ++ e ∷ [])))
            ∙ (ap (λ (i : ℕ). read_in m c ((next s a e).history i)) (sym q.1) ∙ is)))
        by (inr q) = other e guard t v few q.1
            (ap (read_in m c) (sym (put_other s.history a (s.history a ++ e ∷ []) t q.1)) ∙ is)

  all_stand : (later before : List TaskStep) (a r : ℕ) → AreUnopened m before
      → AreAllowed (later ++ step_by a (step.Publish (watch.Plain m) 1 r) ∷ before)
      → AreMutexSteps m later (step_by a (step.Publish (watch.Plain m) 1 r) ∷ before)
      → AreGuardedSteps m c later (step_by a (step.Publish (watch.Plain m) 1 r) ∷ before)
      → Stands (table_of (later ++ step_by a (step.Publish (watch.Plain m) 1 r) ∷ before))
  all_stand [] before a r un may alone guarded = λ t v few is. true_false
      (sym (holds_if m c ((table_of (step_by a (step.Publish (watch.Plain m) 1 r) ∷ before)).history t) v is)
      ∙ nobody_holds m before a r un may t)
  all_stand (x ∷ xs) before a r un may alone guarded = step_stands
      (table_of (xs ++ step_by a (step.Publish (watch.Plain m) 1 r) ∷ before)) x.task may.0
      (held m xs before a r un may.2 alone.1) (all_stand xs before a r un may.2 alone.1 guarded.1) x.made may.1
      guarded.0

pub steps_keep_read : StepsKeepRead
steps_keep_read xs may m c w t v few is =
    let z = w.opened in
    ap (λ (ys : List TaskStep). (table_of ys).words.plains c) z.split
    ∙ all_stand m c z.later z.before z.opener z.found z.unopened (subst AreAllowed z.split may) z.alone w.guarded t v few
    (ap (λ (ys : List TaskStep). read_in m c ((table_of ys).history t)) (sym z.split) ∙ is)

pub rule_keeps_read : RuleKeepsRead
rule_keeps_read s items ruled m c w t v few is =
    let o = ruled.whole.interleaved in
    ap (λ (u : Table). u.words.plains c) o.leads
    ∙ steps_keep_read o.steps o.allowed m c w t v few
    (ap (λ (u : Table). read_in m c (u.history t)) (sym o.leads) ∙ is)
