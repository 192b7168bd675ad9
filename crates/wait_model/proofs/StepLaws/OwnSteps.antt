-- A task that is trying a bit goes on to, as long as the bit is clear.
use Rattle.std.proofs.Common.{refl, sym, ◌∙◌, ap, subst, arith, inl, inr}
use Rattle.std.specs.Prelude.{ℕ, ◌≡◌, ◌≢◌, ◌⊎◌, Option, Some, None, Bool, true, false, cond, not, ◌&&◌, ◌||◌}
use Rattle.wait_model.specs.{declared.watches.Watch.Watch, declared.watches.Entry.Entry, declared.steps.Step.Step}
use Rattle.wait_model.specs.{Facts.Facts, Words.entry_of, Functions.put, Rows.Reads, Rows.Allowed}
use Rattle.wait_model.specs.Views.{Bits, View, is_trying_for}
use Rattle.wait_model.specs.Fold.{after_unlock, is_off, settled, forgotten, after}
use Rattle.wait_model.specs.Watches.{same, head_of, is_bit, failing, owner}
use Rattle.wait_model.specs.Tables.{Table, met, consume, next}
use Rattle.wait_model.specs.Laws.{TryingBy, Trying, Tried}
use Rattle.wait_model.proofs.{Sameness.failing_unmet, Sameness.tas_unmet, StepLaws.UnlockSteps.unlock_bits}
use Rattle.wait_model.proofs.{Functions.put_case, Functions.put_at}
use Rattle.wait_model.specs.declared.steps.Step.TheVariants as step

abbrev pub TriedMoves : Table → ℕ → Step → Type 0
TriedMoves s a ev = (c : Watch) → met (next s a ev).words c ≡ true → Tried s c → Tried (next s a ev) c

pub tried_from : (s : Table) (a : ℕ) (ev : Step)
    → ((c : Watch) → met (next s a ev).words c ≡ true → Trying s a c
    → TryingBy (next s a ev).entry a (after ev (s.view a)) c)
    → ((x : ℕ) → owner x ≢ a → s.entry x ≡ None → (next s a ev).entry x ≡ None)
    → TriedMoves s a ev
tried_from s a ev own entries c is t = (
  t.0,
  put_at (λ (v : View). TryingBy (next s a ev).entry t.0 v c) s.view a (after ev (s.view a)) t.0
      (λ q. subst (λ (i : ℕ). TryingBy (next s a ev).entry i (after ev (s.view a)) c) (sym q)
      (own c is (subst (λ (i : ℕ). Trying s i c) q t.1)))
      (λ ne. other ne t.1),
)
  where
    other : t.0 ≢ a → Trying s t.0 c → TryingBy (next s a ev).entry t.0 (s.view t.0) c
    other ne r = (
      r.0,
      r.1,
      elim r.2 [ inl p ↦ inl p | inr p ↦ inr (p.0, p.1, p.2, entries p.0 (λ q. ne (sym p.1 ∙ q)) p.3) ],
    )

-- a step that changes nothing that trying speaks of
pub tried_quiet : (s : Table) (a : ℕ) (ev : Step)
    → ((c : Watch) → Trying s a c → TryingBy (next s a ev).entry a (after ev (s.view a)) c)
    → ((x : ℕ) → s.entry x ≡ None → (next s a ev).entry x ≡ None) → TriedMoves s a ev
tried_quiet s a ev own entries = tried_from s a ev (λ c _. own c) (λ x _. entries x)

pub tried_stored : (s : Table) (a σ : ℕ) → TriedMoves s a (step.State σ)
tried_stored s a σ = tried_quiet s a (step.State σ)
    (λ c t. (t.0, (let g : (s.view a).bits.got c ≡ false = t.1 in grind arith), t.2)) (λ x h. h)

pub tried_unlocked : (s : Table) (a h : ℕ) (sp : Bool) → TriedMoves s a (step.Unlock h sp)
tried_unlocked s a h sp = tried_quiet s a (step.Unlock h sp)
    (λ c t. let same_bits : (after_unlock (s.view a) (s.view a).walk sp).bits ≡ (s.view a).bits =
    unlock_bits (s.view a) (s.view a).walk sp in (
      t.0,
      ap (λ (b : Bits). b.got c) same_bits ∙ t.1,
      elim t.2 [
        | inl p ↦ inl (ap (λ (b : Bits). b.pending c) same_bits ∙ p)
        | inr p ↦ inr (p.0, p.1, ap (λ (b : Bits). is_trying_for (b.stored p.0) c) same_bits ∙ p.2, p.3)
      ],
    ))
    (λ x h. h)

-- a look or a hold that shows the own entry off makes the bit one to be tried, unless the task holds it
pub settle : (s : Table) (a y : ℕ) (f : Option Entry) (c : Watch) → Facts s → f ≡ s.entry y
    → met s.words c ≡ true → Trying s a c
    → (settled (s.view a) y f c ≡ true)
    ⊎ ((x : ℕ) × (owner x ≡ a) × (is_trying_for (forgotten (s.view a) y f x) c ≡ true) × (s.entry x ≡ None))
settle s a y f c k al is t = elim t.2 [
  | inl p ↦ inl (grind arith)
  | inr p ↦ go p (put_case (s.view a).bits.stored y None p.0)
]
  where
    kept : (s.view a).bits.keeps c ≡ true → ⊥
    kept h = let u : met s.words c ≡ false = (k.views a).bits.kept c t.0 h in cc

    on : (b : Bool) → (s.view a).bits.keeps c ≡ b → (s.view a).bits.keeps c ≡ false
    on true q = absurd (kept q)
    on false q = q

    go : (p : (x : ℕ) × (owner x ≡ a) × (is_trying_for ((s.view a).bits.stored x) c ≡ true) × (s.entry x ≡ None))
        → ((p.0 ≡ y) × (put (s.view a).bits.stored y None p.0 ≡ None))
        ⊎ ((p.0 ≢ y) × (put (s.view a).bits.stored y None p.0 ≡ (s.view a).bits.stored p.0))
        → (settled (s.view a) y f c ≡ true)
        ⊎ ((x : ℕ) × (owner x ≡ a) × (is_trying_for (forgotten (s.view a) y f x) c ≡ true) × (s.entry x ≡ None))
    go p (inl q) =
        inl (by (s.view a).bits.stored y f p.0 q.0 p.2 (let z : s.entry p.0 ≡ s.entry y = ap s.entry q.0 in al
        ∙ (sym z ∙ p.3)) (on ((s.view a).bits.keeps c) refl))
      where
        by : (st : ℕ → Option Entry) (y : ℕ) (f : Option Entry) (x : ℕ) → x ≡ y → is_trying_for (st x) c ≡ true
            → f ≡ None → (s.view a).bits.keeps c ≡ false
            → ((s.view a).bits.pending c || (is_off f && (is_trying_for (st y) c && not ((s.view a).bits.keeps c)))) ≡
            true
        by st y f x q tri nof kp = let ty : is_trying_for (st y) c ≡ true =
            subst (λ (i : ℕ). is_trying_for (st i) c ≡ true) q tri in let fo : is_off f ≡ true = ap is_off nof
            in grind arith
    go p (inr q) = inr (p.0, p.1, by (is_off f), p.3)
      where
        by : (b : Bool) → is_trying_for (cond b (put (s.view a).bits.stored y None) (s.view a).bits.stored p.0) c ≡
            true
        by true = ap (λ o. is_trying_for o c) q.1 ∙ p.2
        by false = p.2

pub tried_saw : (s : Table) (a y w : ℕ) → Facts s → entry_of w ≡ s.entry y → TriedMoves s a (step.Saw y w)
tried_saw s a y w k al = tried_from s a (step.Saw y w)
    (λ c is t. (t.0, t.1, settle s a y (entry_of w) c k al is t)) (λ x _ h. h)

pub tried_peeked : (s : Table) (a y w : ℕ) → Facts s → entry_of w ≡ s.entry y → TriedMoves s a (step.Peek y w)
tried_peeked s a y w k al = tried_from s a (step.Peek y w)
    (λ c is t. (t.0, t.1, settle s a y (entry_of w) c k al is t)) (λ x _ h. h)

pub tried_loaded : (s : Table) (a : ℕ) (l : Watch) (r : ℕ) → Reads s.words l r
    → TriedMoves s a (step.Load l r)
tried_loaded s a l r al = tried_from s a (step.Load l r)
    (λ c is t. (t.0, t.1, elim t.2 [ inl p ↦ inl (go c is p (failing l r c) refl) | inr p ↦ inr p ]))
    (λ x _ h. h)
  where
    go : (c : Watch) → met s.words c ≡ true → (s.view a).bits.pending c ≡ true → (b : Bool)
        → failing l r c ≡ b → ((s.view a).bits.pending c && not (failing l r c)) ≡ true
    go c is p true q = absurd (let u : met s.words c ≡ false = failing_unmet s.words l r c al q in cc)
    go c is p false q = grind arith

pub tried_consumed : (s : Table) (a : ℕ) (c : Watch) (n r : ℕ) → TriedMoves s a (step.Consume c n r)
tried_consumed s a c n r = tried_from s a (step.Consume c n r)
    (λ d is t. go d is t (is_bit c && same d c) refl) (λ x _ h. h)
  where
    go : (d : Watch) → met (consume s.words c n) d ≡ true → Trying s a d → (b : Bool)
        → (is_bit c && same d c) ≡ b → TryingBy s.entry a (after (step.Consume c n r) (s.view a)) d
    go d is t true q = absurd (let u : met (consume s.words c n) d ≡ false =
        tas_unmet s.words c d n (grind arith) (grind arith) in cc)
    go d is t false q = (
      t.0,
      (let g : (s.view a).bits.got d ≡ false = t.1 in grind arith),
      elim t.2 [ inl p ↦ inl (grind arith) | inr p ↦ inr p ],
    )

pub tried_queued : (s : Table) (a y : ℕ) (d : Entry) → Facts s → Allowed s a (step.Queue y d)
    → TriedMoves s a (step.Queue y d)
tried_queued s a y d k al = tried_from s a (step.Queue y d)
    (λ c is t. (
      t.0,
      (let g : (s.view a).bits.got c ≡ false = t.1 in grind arith),
      elim t.2 [ inl p ↦ inl p | inr p ↦ inr (p.0, p.1, stored c p, entry c p) ],
    ))
    (λ x ne h. put_at (λ o. o ≡ None) s.entry y (Some d) x (λ q. absurd (ne (ap owner q ∙ al.0))) (λ _. h))
  where
    none : (s.view a).bits.stored y ≡ None
    none = (k.views a).bits.seen (head_of d.watch) y al.3 al.5

    apart_at : (c : Watch) (p : (x : ℕ) × (owner x ≡ a) × (is_trying_for ((s.view a).bits.stored x) c ≡ true)
        × (s.entry x ≡ None)) → p.0 ≡ y → ⊥
    apart_at c p q = let z : (s.view a).bits.stored p.0 ≡ None = ap (s.view a).bits.stored q ∙ none
        in let f : is_trying_for ((s.view a).bits.stored p.0) c ≡ false = ap (λ o. is_trying_for o c) z
        in let t : is_trying_for ((s.view a).bits.stored p.0) c ≡ true = p.2 in cc

    stored : (c : Watch) (p : (x : ℕ) × (owner x ≡ a) × (is_trying_for ((s.view a).bits.stored x) c ≡ true)
        × (s.entry x ≡ None)) → is_trying_for (put (s.view a).bits.stored y (Some d) p.0) c ≡ true
    stored c p = put_at (λ o. is_trying_for o c ≡ true) (s.view a).bits.stored y (Some d) p.0
        (λ q. absurd (apart_at c p q)) (λ _. p.2)

    entry : (c : Watch) (p : (x : ℕ) × (owner x ≡ a) × (is_trying_for ((s.view a).bits.stored x) c ≡ true)
        × (s.entry x ≡ None)) → put s.entry y (Some d) p.0 ≡ None
    entry c p = put_at (λ o. o ≡ None) s.entry y (Some d) p.0 (λ q. absurd (apart_at c p q)) (λ _. p.3)

pub tried_unqueued : (s : Table) (a y : ℕ) → Allowed s a (step.Unqueue y) → TriedMoves s a (step.Unqueue y)
tried_unqueued s a y al = tried_from s a (step.Unqueue y)
    (λ c is t. (
      t.0,
      t.1,
      elim t.2 [
        | inl p ↦ inl p
        | inr p ↦ inr (
          p.0,
          p.1,
          put_at (λ o. is_trying_for o c ≡ true) (s.view a).bits.stored y None p.0
              (λ q. absurd (let z : s.entry p.0 ≡ s.entry y = ap s.entry q in let n : s.entry p.0 ≡ None = p.3
              in cc (al.1))) (λ _. p.2),
          put_at (λ o. o ≡ None) s.entry y None p.0 (λ _. refl) (λ _. p.3),
        )
      ],
    ))
    (λ x ne h. put_at (λ o. o ≡ None) s.entry y None x (λ _. refl) (λ _. h))
