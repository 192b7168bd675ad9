-- While a watch is set nobody begins to wait for it: who waits after a step waited before it, or had loaded the watch
-- before, as the owner of a Woken entry that finds its flag clear, or of an entry for a completion in its hold.
use Rattle.std.proofs.lemmas.Bool.{both_ways}
use Rattle.std.proofs.Common.{refl, sym, ◌∙◌, ap, subst, arith, inl, inr}
use Rattle.std.specs.Prelude.{ℕ, zero, suc, ◌≡◌, ◌≢◌, ◌⊎◌, Option, Some, None, Bool, true, false, ◌&&◌, List, [], ◌∷◌}
use Rattle.wait_model.specs.{declared.layout.TheConstants.ENTRIES, declared.watches.Watch.Watch}
use Rattle.wait_model.specs.{declared.watches.Entry.Entry, declared.steps.Step.Step}
use Rattle.wait_model.specs.{declared.tasks.TaskRecord.TaskRecord, declared.calls.Event.Event}
use Rattle.wait_model.specs.{declared.points.Given.Given, Facts.Facts, Facts.Kept, Fold.after, Laws.Waits, Laws.Unheard}
use Rattle.wait_model.specs.{Rows.Allowed, Rows.AllAllowed}
use Rattle.wait_model.specs.Views.{View, Hold, Checks, checked}
use Rattle.wait_model.specs.Watches.{same, is_done, is_bit, is_page, failing, owner}
use Rattle.wait_model.specs.Words.{entry_word, flag_of, head_word}
use Rattle.wait_model.specs.Tables.{Words, Table, met, next, steps, consume}
use Rattle.wait_model.specs.Runs.{State, looks_below, looks, peeks_below, all_peeks, event_steps}
use Rattle.wait_model.specs.declared.steps.Step.TheVariants as step
use Rattle.wait_model.specs.declared.calls.Event.TheVariants as event
use Rattle.wait_model.proofs.{Functions.put_case, Functions.bool_or, Sameness.failing_unmet, Sameness.tas_unmet}
use Rattle.wait_model.proofs.{StepLaws.KeptLaws.step_keeps, StepLaws.UntouchedParts.back_view}
use Rattle.wait_model.proofs.{StepLaws.UntouchedParts.at_view, StepLaws.WakeSteps.wake_state}
use Rattle.wait_model.proofs.StepLaws.LoadSteps.{loaded_checked}
use Rattle.wait_model.proofs.StepLaws.QuietSteps.{back_waits, slept_state, signal_state, accept_state, unflag_checked}
use Rattle.wait_model.proofs.StepLaws.QuietSteps.{consumed_checked}
use Rattle.wait_model.proofs.StepLaws.StoreSteps.{stored_own, stored_page, stored_task, queued_own, queued_other}
use Rattle.wait_model.proofs.StepLaws.StoreSteps.{flag_own}
use Rattle.wait_model.proofs.StepLaws.FlagSteps.{back_unheard, low_put, own_low}
use Rattle.wait_model.proofs.StepLaws.UnlockSteps.{unlock_checks, unlock_checked, unlock_hold}

-- the task has found the done count 0 in the hold that it is in
abbrev pub FoundZero : Table → ℕ → Watch → Type 0
FoundZero s a on = (n : ℕ) × (is_done on ≡ true) × ((s.view a).hold.zero on ≡ Some n)

-- a store of the own state or entry is among the steps
abbrev pub has_store : List Step → Bool
has_store [] = false
has_store (step.State σ ∷ es) = true
has_store (step.Queue y d ∷ es) = true
has_store (ev ∷ es) = has_store es

-- The owner of the entry waited before task a made these steps, or had loaded the watch as not set: for a completion
-- task a itself had, and stores its state or its entry in these steps.
abbrev pub Before : List Step → Table → ℕ → ℕ → Entry → Watch → ℕ → ℕ → Type 0
Before es s a x e on n σ = Waits s x e on n σ ⊎ (Unheard s x e on n ⊎ (FoundZero s a on × (has_store es ≡ true)))

unmet_absurd : (w : Words) (on : Watch) (P : Type 0) → met w on ≡ true → met w on ≡ false → P
unmet_absurd w on P h k = absurd (both_ways true (sym h ∙ k) refl)

module _ (s : Table) (a x : ℕ) (e : Entry) (on : Watch) (n σ : ℕ) (was : met s.words on ≡ true) where
  -- the store of the own state is no step of a wait for a page, which sleeps by its flag
  stored_before : (state : ℕ) → Waits (next s a (step.State state)) x e on n σ
      → Before (step.State state ∷ []) s a x e on n σ
  stored_before state z = by (is_page e.kind) refl
    where
      by : (b : Bool) → is_page e.kind ≡ b → Before (step.State state ∷ []) s a x e on n σ
      by true pa = inl (record {
        stands = z.stands;
        watches = z.watches;
        down = λ np. absurd (cc);
        failed = back_view s a (after (step.State state) (s.view a)) (λ v. checked v x e on ≡ Some n)
            (stored_page (s.view a) state x e on n pa) (owner x) z.failed;
        is_set = z.is_set;
      })
      by false np = elim (put_case s.view a (after (step.State state) (s.view a)) (owner x)) [
        | inl q ↦ let own : (is_done on ≡ true) × ((s.view a).hold.zero on ≡ Some n) =
            stored_own (s.view a) state x e on n np (subst (λ (v : View). checked v x e on ≡ Some n) q.1 z.failed) in
            inr (inr ((n, own.0, own.1), refl))
        | inr q ↦ let same_task : (next s a (step.State state)).task (owner x) ≡ s.task (owner x) =
            stored_task s a state (owner x) q.0 in
            inl (record {
              stands = z.stands;
              watches = z.watches;
              down = λ np. (ap (λ (t : TaskRecord). t.state) (sym same_task) ∙ (z.down np).0, (z.down np).1);
              failed = subst (λ (v : View). checked v x e on ≡ Some n) q.1 z.failed;
              is_set = z.is_set;
            })
      ]

  queued_before : (y : ℕ) (d : Entry) → Facts s → Allowed s a (step.Queue y d)
      → Waits (next s a (step.Queue y d)) x e on n σ → Before (step.Queue y d ∷ []) s a x e on n σ
  queued_before y d k al z = elim (put_case s.entry y (Some d) x) [
    | inl q ↦ let own : (is_done on ≡ true) × ((s.view a).hold.prepared ≡ true)
        × ((s.view a).checks.zero_failed x on ≡ Some n)
        = queued_own (s.view a) y d x e on n q.0 (at_view s a (owner x) (after (step.Queue y d) (s.view a))
        (λ v. checked v x e on ≡ Some n) (ap owner q.0 ∙ al.0) z.failed) in
        inr (inr ((n, own.0, (k.views a).zero.here x on n own.1 own.2), refl))
    | inr q ↦ inl (back_waits s a (step.Queue y d) x e on n σ (queued_other (s.view a) y d x e on n q.0)
        (λ h. sym q.1 ∙ h) (λ _ h. h) (λ h. h) z)
  ]

  loaded_before : (l : Watch) (r : ℕ) → Allowed s a (step.Load l r) → Waits (next s a (step.Load l r)) x e on n σ
      → Before (step.Load l r ∷ []) s a x e on n σ
  loaded_before l r al z = elim (bool_or (failing l r on)) [
    | inl f ↦ unmet_absurd s.words on _ was (failing_unmet s.words l r on al f)
    | inr f ↦ inl (back_waits s a (step.Load l r) x e on n σ (loaded_checked (s.view a) l r x e on n f) (λ q. q)
        (λ _ q. q) (λ q. q) z)
  ]

  flagged_before : (y w : ℕ) → Allowed s a (step.Flag y w) → Waits (next s a (step.Flag y w)) x e on n σ
      → Before (step.Flag y w ∷ []) s a x e on n σ
  flagged_before y w al z = elim (put_case s.view a (after (step.Flag y w) (s.view a)) (owner x)) [
    | inl q ↦ elim (flag_own (s.view a) y w x e on n
        (subst (λ (v : View). checked v x e on ≡ Some n) q.1 z.failed)) [
          | inl old ↦ inl (record {
            stands = z.stands;
            watches = z.watches;
            down = z.down;
            failed = subst (λ (i : ℕ). checked (s.view i) x e on ≡ Some n) (sym q.0) old;
            is_set = z.is_set;
          })
          | inr fresh ↦ inr (inl (record {
            stands = z.stands;
            watches = z.watches;
            kind = fresh.2;
            low = subst (λ (i : ℕ). (s.view i).checks.low x on ≡ Some n) (sym q.0) fresh.3;
            quiet = (let fx : s.flag x ≡ s.flag y = ap s.flag fresh.0 in
                let fy : flag_of w ≡ s.flag y = al.1 in let no : flag_of w ≡ false = fresh.1 in cc);
            is_set = z.is_set;
          }))
        ]
    | inr q ↦ inl (record {
      stands = z.stands;
      watches = z.watches;
      down = z.down;
      failed = subst (λ (v : View). checked v x e on ≡ Some n) q.1 z.failed;
      is_set = z.is_set;
    })
  ]

  -- after an exchange of the bit that it waits for, the bit is not met
  consumed_before : (c : Watch) (v r : ℕ) → Waits (next s a (step.Consume c v r)) x e on n σ
      → Before (step.Consume c v r ∷ []) s a x e on n σ
  consumed_before c v r z = elim (bool_or (is_bit c && same on c)) [
    | inl b ↦ unmet_absurd (consume s.words c v) on _ z.is_set (tas_unmet s.words c on v (grind arith) (grind arith))
    | inr b ↦ inl (back_waits s a (step.Consume c v r) x e on n σ (consumed_checked (s.view a) c v r x e on n b)
        (λ q. q) (λ _ q. q) (λ _. was) z)
  ]

  -- one step, before which the watch was set
  waits_before : (ev : Step) → Facts s → Allowed s a ev → Waits (next s a ev) x e on n σ
      → Before (ev ∷ []) s a x e on n σ
  waits_before (step.State σ) k al z = stored_before σ z
  waits_before (step.Sleep w) k al z = inl (back_waits s a (step.Sleep w) x e on n σ (λ q. q) (λ q. q)
      (λ ne q. sym (slept_state s a w (owner x) (subst (λ (i : ℕ). i ≢ 0) (sym q) ne)) ∙ q) (λ q. q) z)
  waits_before (step.Wake who mask w) k al z = inl (back_waits s a (step.Wake who mask w) x e on n σ (λ q. q)
      (λ q. q) (λ ne q. sym (wake_state s a who mask w (owner x) (subst (λ (i : ℕ). i ≢ 0) (sym q) ne)).0 ∙ q)
      (λ q. q) z)
  waits_before (step.Signal who fatal w) k al z = inl (back_waits s a (step.Signal who fatal w) x e on n σ
      (λ q. q) (λ q. q) (λ _ q. sym (signal_state s a who fatal w (owner x)) ∙ q) (λ q. q) z)
  waits_before (step.Accept w) k al z = inl (back_waits s a (step.Accept w) x e on n σ (λ q. q) (λ q. q)
      (λ _ q. sym (accept_state s a w (owner x)) ∙ q) (λ q. q) z)
  waits_before (step.Unlock h sp) k al z = inl (back_waits s a (step.Unlock h sp) x e on n σ
      (λ q. sym (unlock_checked (s.view a) (s.view a).walk sp x e on) ∙ q) (λ q. q) (λ _ q. q) (λ q. q) z)
  waits_before (step.Queue y d) k al z = queued_before y d k al z
  waits_before (step.Unqueue y) k al z = inl (back_waits s a (step.Unqueue y) x e on n σ (λ q. q)
      (λ q. grind arith) (λ _ q. q) (λ q. q) z)
  waits_before (step.Load l r) k al z = loaded_before l r al z
  waits_before (step.Consume c v r) k al z = consumed_before c v r z
  waits_before (step.Unflag y o) k al z = inl (back_waits s a (step.Unflag y o) x e on n σ
      (unflag_checked (s.view a) y o x e on n) (λ q. q) (λ _ q. q) (λ q. q) z)
  waits_before (step.Flag y w) k al z = flagged_before y w al z
  waits_before ev k al z = inl (back_waits s a ev x e on n σ (λ q. q) (λ q. q) (λ _ q. q) (λ _. was) z)

  -- the same of a failed load of the owner of a Woken entry whose flag is clear
  unheard_before : (ev : Step) → Allowed s a ev → Unheard (next s a ev) x e on n → Unheard s x e on n
  unheard_before (step.Unlock h sp) al z = back_unheard s a (step.Unlock h sp) x e on n
      (λ q. sym (ap (λ (k : Checks). k.low x on) (unlock_checks (s.view a) (s.view a).walk sp)) ∙ q) (λ q. q)
      (λ q. q) (λ q. q) z
  unheard_before (step.Queue y d) al z = elim (put_case s.entry y (Some d) x) [
    | inl q ↦ absurd (own_low s a y x on n (after (step.Queue y d) (s.view a)) al.0 refl z.low q.0)
    | inr q ↦ back_unheard s a (step.Queue y d) x e on n (λ h. (low_put (s.view a).checks.low y x on n h).1)
        (λ h. sym q.1 ∙ h) (λ h. h) (λ h. h) z
  ]
  unheard_before (step.Unqueue y) al z = back_unheard s a (step.Unqueue y) x e on n (λ q. q) (λ q. grind arith)
      (λ q. q) (λ q. q) z
  unheard_before (step.Load l r) al z = elim (bool_or (failing l r on)) [
    | inl f ↦ unmet_absurd s.words on _ was (failing_unmet s.words l r on al f)
    | inr f ↦ back_unheard s a (step.Load l r) x e on n (λ q. grind arith) (λ q. q) (λ q. q) (λ q. q) z
  ]
  unheard_before (step.Woken y) al z = elim (put_case s.flag y true x) [
    | inl q ↦ absurd (let is : (next s a (step.Woken y)).flag x ≡ false = z.quiet in
        absurd (both_ways true (sym q.1 ∙ is) refl))
    | inr q ↦ back_unheard s a (step.Woken y) x e on n (λ h. h) (λ h. h) (λ h. sym q.1 ∙ h) (λ h. h) z
  ]
  unheard_before (step.Unflag y o) al z = elim (put_case s.flag y false x) [
    | inl q ↦ absurd (own_low s a y x on n (after (step.Unflag y o) (s.view a)) al.0 refl z.low q.0)
    | inr q ↦ back_unheard s a (step.Unflag y o) x e on n (λ h. (low_put (s.view a).checks.low y x on n h).1)
        (λ h. h) (λ h. sym q.1 ∙ h) (λ h. h) z
  ]
  unheard_before (step.Handed y) al z = elim (put_case s.flag y true x) [
    | inl q ↦ absurd (let is : (next s a (step.Handed y)).flag x ≡ false = z.quiet in
        absurd (both_ways true (sym q.1 ∙ is) refl))
    | inr q ↦ back_unheard s a (step.Handed y) x e on n (λ h. h) (λ h. h) (λ h. sym q.1 ∙ h) (λ h. h) z
  ]
  unheard_before ev al z = back_unheard s a ev x e on n (λ q. q) (λ q. q) (λ q. q) (λ _. was) z

-- a done count that a task finds 0 in its hold it found so before a step before which it was not 0
zero_own : (w : Words) (v : View) (on : Watch) (n : ℕ) (s : Table) (a : ℕ) → s.words ≡ w → s.view a ≡ v
    → met w on ≡ true → (ev : Step) → Allowed s a ev → (after ev v).hold.zero on ≡ Some n → v.hold.zero on ≡ Some n
zero_own w v on n s a sw sv was (step.Lock h aim f) al z = absurd (cc)
zero_own w v on n s a sw sv was (step.Unlock h sp) al z =
    absurd (let q : None ≡ Some n = sym (ap (λ (h : Hold). h.zero on) (unlock_hold v v.walk sp)) ∙ z in cc)
zero_own w v on n s a sw sv was (step.Load l r) al z = elim (bool_or (failing l r on)) [
  | inl f ↦ unmet_absurd w on _ was
      (subst (λ (u : Words). met u on ≡ false) sw (failing_unmet s.words l r on al f))
  | inr f ↦ grind arith
]
zero_own w v on n s a sw sv was ev al z = z

zero_before : (s : Table) (a b : ℕ) (on : Watch) (n : ℕ) → met s.words on ≡ true → (ev : Step) → Allowed s a ev
    → ((next s a ev).view b).hold.zero on ≡ Some n → (s.view b).hold.zero on ≡ Some n
zero_before s a b on n was ev al z = back_view s a (after ev (s.view a)) (λ v. v.hold.zero on ≡ Some n)
    (zero_own s.words (s.view a) on n s a refl refl was ev al) b z

-- the watch is set before each of the steps
abbrev pub AllMet : Watch → Table → ℕ → List Step → Type 0
AllMet on s a [] = Unit {0}
AllMet on s a (ev ∷ es) = (met s.words on ≡ true) × AllMet on (next s a ev) a es

looks_met_below : (on : Watch) (f : ℕ → Option Entry) (n : ℕ) (t : Table) (a : ℕ) → met t.words on ≡ true
    → AllMet on t a (looks_below f n)
looks_met_below on f zero t a m = tt
looks_met_below on f (suc n) t a m = (m, looks_met_below on f n (next t a (step.Saw n (entry_word (f n)))) a m)

looks_met : (on : Watch) (f : ℕ → Option Entry) (t : Table) (a : ℕ) → met t.words on ≡ true → AllMet on t a (looks f)
unfolding looks
looks_met on f t a m = looks_met_below on f ENTRIES t a m

peeks_met_below : (on : Watch) (f : ℕ → Option Entry) (n : ℕ) (t : Table) (a : ℕ) → met t.words on ≡ true
    → AllMet on t a (peeks_below f n)
peeks_met_below on f zero t a m = tt
peeks_met_below on f (suc n) t a m = (m, peeks_met_below on f n (next t a (step.Peek n (entry_word (f n)))) a m)

peeks_met : (on : Watch) (f : ℕ → Option Entry) (t : Table) (a : ℕ) → met t.words on ≡ true
    → AllMet on t a (all_peeks f)
unfolding all_peeks
peeks_met on f t a m = peeks_met_below on f ENTRIES t a m

-- the steps of an event before which it is set
pub event_met : (on : Watch) (s : State) (me : ℕ) (g : Given) (e : Event) → met s.table.words on ≡ true
    → AllMet on s.table me (event_steps s me g e)
event_met on s me g (event.Lock h) m = (
  m,
  looks_met on s.table.entry (next s.table me (step.Lock h g.walk (head_word (s.table.holder h) (s.table.spent h)))) me
      m,
)
event_met on s me g (event.Active h hit) m = peeks_met on s.table.entry s.table me m
event_met on s me g e m = (m, tt)

-- a store among the steps, first or later
stores_first : (ev : Step) (es : List Step) → has_store (ev ∷ []) ≡ true → has_store (ev ∷ es) ≡ true
stores_first (step.State σ) es h = refl
stores_first (step.Queue y d) es h = refl
stores_first ev es h = absurd (cc)

stores_later : (ev : Step) (es : List Step) → has_store es ≡ true → has_store (ev ∷ es) ≡ true
stores_later (step.State σ) es h = refl
stores_later (step.Queue y d) es h = refl
stores_later ev es h = h

peeks_store_below : (f : ℕ → Option Entry) (n : ℕ) → has_store (peeks_below f n) ≡ false
peeks_store_below f zero = refl
peeks_store_below f (suc n) = peeks_store_below f n

-- looks without the lock store nothing
pub peeks_store : (f : ℕ → Option Entry) → has_store (all_peeks f) ≡ false
unfolding all_peeks
peeks_store f = peeks_store_below f ENTRIES

-- steps of one task in a row
pub waits_all : (es : List Step) (s : Table) (a x : ℕ) (e : Entry) (on : Watch) (n σ : ℕ) → Kept s
    → AllAllowed s a es → AllMet on s a es → Waits (steps s a es) x e on n σ → Before es s a x e on n σ
waits_all [] s a x e on n σ k al m z = inl z
waits_all (ev ∷ es) s a x e on n σ k al m z =
    by (waits_all es (next s a ev) a x e on n σ (step_keeps s a ev k al.0) al.1 m.1 z)
  where
    first : Before (ev ∷ []) s a x e on n σ → Before (ev ∷ es) s a x e on n σ
    first (inl w) = inl w
    first (inr (inl u)) = inr (inl u)
    first (inr (inr d)) = inr (inr (d.0, stores_first ev es d.1))

    by : Before es (next s a ev) a x e on n σ → Before (ev ∷ es) s a x e on n σ
    by (inl w) = first (waits_before s a x e on n σ m.0 ev k.facts al.0 w)
    by (inr (inl u)) = inr (inl (unheard_before s a x e on n σ m.0 ev al.0 u))
    by (inr (inr d)) = inr (inr (
      (d.0.0, d.0.1, zero_before s a a on d.0.0 m.0 ev al.0 d.0.2),
      stores_later ev es d.1,
    ))

pub unheard_all : (es : List Step) (s : Table) (a x : ℕ) (e : Entry) (on : Watch) (n : ℕ)
    → AllAllowed s a es → AllMet on s a es → Unheard (steps s a es) x e on n → Unheard s x e on n
unheard_all [] s a x e on n al m z = z
unheard_all (ev ∷ es) s a x e on n al m z =
    unheard_before s a x e on n 0 m.0 ev al.0 (unheard_all es (next s a ev) a x e on n al.1 m.1 z)

pub zero_all : (es : List Step) (s : Table) (a b : ℕ) (on : Watch) → AllAllowed s a es → AllMet on s a es
    → FoundZero (steps s a es) b on → FoundZero s b on
zero_all [] s a b on al m z = z
zero_all (ev ∷ es) s a b on al m z = by (zero_all es (next s a ev) a b on al.1 m.1 z)
  where
    by : FoundZero (next s a ev) b on → FoundZero s b on
    by d = (d.0, d.1, zero_before s a b on d.0 m.0 ev al.0 d.2)
