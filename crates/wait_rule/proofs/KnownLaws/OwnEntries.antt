-- What a step does to own entries that their tasks alone take off.
use Rattle.std.proofs.Common.{refl, sym, ◌∙◌, ap, inl, inr}
use Rattle.std.specs.Prelude.{ℕ, ◌≡◌, ◌≢◌, ◌⊎◌, Bool, true, false, ◌||◌, if◌then◌else◌, Option, Some, None}
use Rattle.wait_model.specs.{declared.watches.Entry.Entry, declared.steps.Step.Step, Functions.put, Watches.owner}
use Rattle.wait_model.specs.{Words.entry_of, Rows.Allowed, DoneCounts.IsDoneStore, Permits.HandsOn}
use Rattle.wait_model.specs.Views.{View as Told, Walk, all_passed}
use Rattle.wait_model.specs.Fold.{after, after_unlock, forgotten, is_off}
use Rattle.wait_model.specs.Tables.{Table, next, word_step}
use Rattle.wait_model.specs.declared.steps.Step.TheVariants as step
use Rattle.wait_model.proofs.Functions.{put_case, put_at}
use Rattle.wait_rule.specs.{Members.IsOwnKind, Rule.OwnStand}

-- What the calls' steps keep beside the model's conditions: of stores in done counts; of entries that a task takes off:
-- it is the own one, or none that its task alone takes off; and of permits, where a head is given back or an entry is
-- queued.
abbrev pub IsFair : Table → ℕ → Step → Type 0
IsFair s a (step.Unqueue x) = (owner x ≡ a) ⊎ ((e : Entry) → s.entry x ≡ Some e → IsOwnKind e.kind → ⊥)
IsFair s a (step.Unlock h sp) = HandsOn s a (step.Unlock h sp)
IsFair s a (step.Queue x e) = HandsOn s a (step.Queue x e)
IsFair s a e = IsDoneStore e

pub done_store : (s : Table) (a : ℕ) (e : Step) → IsFair s a e → IsDoneStore e
done_store s a (step.Unqueue x) f = tt
done_store s a e f = assumption

pub hands_on : (s : Table) (a : ℕ) (e : Step) → IsFair s a e → HandsOn s a e
hands_on s a (step.Unlock h sp) f = f
hands_on s a (step.Queue x e) f = f
hands_on s a e f = λ d. tt

-- the task's own entries are those that its history had stored before
abbrev ForgetsOnly : Step → Told → Type 0
ForgetsOnly e v = (x : ℕ) (d : Entry) → (after e v).bits.stored x ≡ Some d → v.bits.stored x ≡ Some d

-- a step that changes no entry and stores none
same_stand : (s : Table) (a : ℕ) (e : Step) → (word_step s a e).entry ≡ s.entry → ForgetsOnly e (s.view a)
    → OwnStand s → OwnStand (next s a e)
same_stand s a e entry forgets r x d is own = ap (λ (f : ℕ → Option Entry). f x) entry ∙ r x d
    (put_at (λ (v : Told). v.bits.stored x ≡ Some d → (s.view (owner x)).bits.stored x ≡ Some d) s.view a
    (after e (s.view a)) (owner x)
    (λ q now. ap (λ (i : ℕ). (s.view i).bits.stored x) q ∙ forgets x d now) (λ _ now. now) is) own

unlock_forgets : (v : Told) (o : Option Walk) (spent : Bool) (x : ℕ) (d : Entry)
    → (after_unlock v o spent).bits.stored x ≡ Some d → v.bits.stored x ≡ Some d
unlock_forgets v None spent x d = λ is. is
unlock_forgets v (Some w) spent x d = by (spent || all_passed v w (λ _. false)) _ _ refl refl
  where
    by : (b : Bool) (y z : Told) → y.bits ≡ v.bits → z.bits ≡ v.bits
        → (if b then y else z).bits.stored x ≡ Some d → v.bits.stored x ≡ Some d
    by true y z one two is = sym (ap (λ b. b.stored x) one) ∙ is
    by false y z one two is = sym (ap (λ b. b.stored x) two) ∙ is

look_forgets : (v : Told) (y : ℕ) (f : Option Entry) (x : ℕ) (d : Entry) → forgotten v y f x ≡ Some d
    → v.bits.stored x ≡ Some d
look_forgets v y f x d = by (is_off f)
  where
    by : (b : Bool) → (if b then put v.bits.stored y None else v.bits.stored) x ≡ Some d
        → v.bits.stored x ≡ Some d
    by true = put_at (λ (o : Option Entry). o ≡ Some d → v.bits.stored x ≡ Some d) v.bits.stored y None x
        (λ _ is. absurd (cc)) (λ _ is. is)
    by false = λ is. is

queue_stand : (s : Table) (a x : ℕ) (e : Entry) → owner x ≡ a → OwnStand s → OwnStand (next s a (step.Queue x e))
queue_stand s a x e mine r y d is own = by (put_case s.entry x (Some e) y) (put_case s.view a V (owner y))
  where
    V : Told
    V = after (step.Queue x e) (s.view a)

    by : ((y ≡ x) × (put s.entry x (Some e) y ≡ Some e)) ⊎ ((y ≢ x) × (put s.entry x (Some e) y ≡ s.entry y))
        → ((owner y ≡ a) × (put s.view a V (owner y) ≡ V))
        ⊎ ((owner y ≢ a) × (put s.view a V (owner y) ≡ s.view (owner y)))
        → put s.entry x (Some e) y ≡ Some d
    by (inl p) (inl q) = p.1 ∙ (sym (put_at (λ (o : Option Entry). o ≡ Some e) (s.view a).bits.stored x (Some e) y
        (λ _. refl) (λ ne. absurd (ne p.0))) ∙ (sym (ap (λ (v : Told). v.bits.stored y) q.1) ∙ is))
    by (inl p) (inr q) = absurd (q.0 (ap owner p.0 ∙ mine))
    by (inr p) (inl q) = p.1 ∙ r y d (ap (λ (i : ℕ). (s.view i).bits.stored y) q.0
        ∙ put_at (λ (o : Option Entry). o ≡ Some d → (s.view a).bits.stored y ≡ Some d) (s.view a).bits.stored x
        (Some e) y (λ same. absurd (p.0 same)) (λ _ now. now)
        (sym (ap (λ (v : Told). v.bits.stored y) q.1) ∙ is)) own
    by (inr p) (inr q) = p.1 ∙ r y d (sym (ap (λ (v : Told). v.bits.stored y) q.1) ∙ is) own

unqueue_stand : (s : Table) (a x : ℕ) → IsFair s a (step.Unqueue x) → OwnStand s → OwnStand (next s a (step.Unqueue x))
unqueue_stand s a x fair r y d is own = by (put_case s.entry x None y) (put_case s.view a V (owner y))
  where
    V : Told
    V = after (step.Unqueue x) (s.view a)

    -- an entry of another task that is taken off was none that its task alone takes off
    others : (owner x ≡ a) ⊎ ((e : Entry) → s.entry x ≡ Some e → IsOwnKind e.kind → ⊥) → owner x ≢ a
        → s.entry x ≡ Some d → ⊥
    others (inl mine) ne stands = ne mine
    others (inr not_own) ne stands = not_own d stands own

    by : ((y ≡ x) × (put s.entry x None y ≡ None)) ⊎ ((y ≢ x) × (put s.entry x None y ≡ s.entry y))
        → ((owner y ≡ a) × (put s.view a V (owner y) ≡ V))
        ⊎ ((owner y ≢ a) × (put s.view a V (owner y) ≡ s.view (owner y)))
        → put s.entry x None y ≡ Some d
    by (inl p) (inl q) = absurd (let z : None ≡ Some d =
        sym (put_at (λ (o : Option Entry). o ≡ None) (s.view a).bits.stored x None y (λ _. refl)
        (λ ne. absurd (ne p.0))) ∙ (sym (ap (λ (v : Told). v.bits.stored y) q.1) ∙ is) in cc)
    by (inl p) (inr q) = absurd (others fair (λ mine. q.0 (ap owner p.0 ∙ mine))
        (ap s.entry (sym p.0) ∙ r y d (sym (ap (λ (v : Told). v.bits.stored y) q.1) ∙ is) own))
    by (inr p) (inl q) = p.1 ∙ r y d (ap (λ (i : ℕ). (s.view i).bits.stored y) q.0
        ∙ put_at (λ (o : Option Entry). o ≡ Some d → (s.view a).bits.stored y ≡ Some d) (s.view a).bits.stored x
        None y (λ same. absurd (p.0 same)) (λ _ now. now)
        (sym (ap (λ (v : Told). v.bits.stored y) q.1) ∙ is)) own
    by (inr p) (inr q) = p.1 ∙ r y d (sym (ap (λ (v : Told). v.bits.stored y) q.1) ∙ is) own

pub own_next : (s : Table) (a : ℕ) (e : Step) → Allowed s a e → IsFair s a e → OwnStand s → OwnStand (next s a e)
own_next s a (step.State σ) al f r = same_stand s a (step.State σ) refl (λ x d is. is) r
own_next s a (step.Sleep w) al f r = same_stand s a (step.Sleep w) refl (λ x d is. is) r
own_next s a (step.Wake who mask w) al f r = same_stand s a (step.Wake who mask w) refl (λ x d is. is) r
own_next s a (step.Signal who fatal w) al f r = same_stand s a (step.Signal who fatal w) refl (λ x d is. is) r
own_next s a (step.Accept w) al f r = same_stand s a (step.Accept w) refl (λ x d is. is) r
own_next s a (step.Look w) al f r = same_stand s a (step.Look w) refl (λ x d is. is) r
own_next s a (step.Lock h aim w) al f r = same_stand s a (step.Lock h aim w) refl (λ x d is. is) r
own_next s a (step.Unlock h sp) al f r = same_stand s a (step.Unlock h sp) refl
    (unlock_forgets (s.view a) (s.view a).walk sp) r
own_next s a (step.Saw x w) al f r = same_stand s a (step.Saw x w) refl (look_forgets (s.view a) x (entry_of w)) r
own_next s a (step.Peek x w) al f r = same_stand s a (step.Peek x w) refl (look_forgets (s.view a) x (entry_of w)) r
own_next s a (step.Scan h i w) al f r = same_stand s a (step.Scan h i w) refl (λ x d is. is) r
own_next s a (step.Queue x e) al f r = queue_stand s a x e al.0 r
own_next s a (step.Unqueue x) al f r = unqueue_stand s a x f r
own_next s a (step.Mark h q) al f r = same_stand s a (step.Mark h q) refl (λ x d is. is) r
own_next s a step.Unmark al f r = same_stand s a step.Unmark refl (λ x d is. is) r
own_next s a (step.Load l w) al f r = same_stand s a (step.Load l w) refl (λ x d is. is) r
own_next s a (step.Publish c n w) al f r = same_stand s a (step.Publish c n w) refl (λ x d is. is) r
own_next s a (step.Consume c n w) al f r = same_stand s a (step.Consume c n w) refl (λ x d is. is) r
own_next s a (step.Woken x) al f r = same_stand s a (step.Woken x) refl (λ x d is. is) r
own_next s a (step.Unflag x o) al f r = same_stand s a (step.Unflag x o) refl (λ x d is. is) r
own_next s a (step.Flag x w) al f r = same_stand s a (step.Flag x w) refl (λ x d is. is) r
own_next s a (step.TasFor x p w) al f r = same_stand s a (step.TasFor x p w) refl (λ x d is. is) r
own_next s a (step.Handed x) al f r = same_stand s a (step.Handed x) refl (λ x d is. is) r
