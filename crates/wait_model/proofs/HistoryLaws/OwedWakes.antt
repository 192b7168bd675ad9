-- What the task owes by its history is what it owes by its view.
use Rattle.std.proofs.Common.{refl, sym, ◌∙◌, ap, subst, arith, inl, inr}
use Rattle.std.proofs.lemmas.List.{append_assoc, append-nil}
use Rattle.std.specs.Prelude.{ℕ, ◌≡◌, ◌<◌, ◌⊎◌, Option, Some, None, Bool, true, false, ◌||◌, List, [], ◌∷◌, ◌++◌}
use Rattle.wait_model.specs.{declared.layout.TheConstants.ENTRIES, declared.watches.Watch.Watch}
use Rattle.wait_model.specs.{declared.steps.Step.Step, Words.entry_of, Owed.EndsWake, Owed.Owes}
use Rattle.wait_model.specs.Views.{View, Walk, blank, concerns, all_passed}
use Rattle.wait_model.specs.Fold.{after, after_all, view_of, peeks, scanned}
use Rattle.wait_model.specs.Walks.{WalkHold, HasPassed, GoneBy}
use Rattle.wait_model.specs.Told.{ends_walk, ends_wake, Unended, Owing, OwesTold}
use Rattle.wait_model.specs.declared.steps.Step.TheVariants as step
use Rattle.wait_model.proofs.{HistoryLaws.Stretches.after_append, HistoryLaws.HoldLooks.after_snoc}
use Rattle.wait_model.proofs.HistoryLaws.PlainReadings.{owing_told}
use Rattle.wait_model.proofs.HistoryLaws.HoldWalks.{IsForWalk, HasWalk, Locked}
use Rattle.wait_model.proofs.HistoryLaws.CalledEntries.{both, hold_walk, seen_off, off_seen, aims, hold_for}
use Rattle.wait_model.proofs.HistoryLaws.HoldBooks.{all_cleared_of, passed_at, cleared_at}
use Rattle.wait_model.proofs.HistoryLaws.LeftWalks.{WalksLocked, GoesOn, walks_locked, locked_left, has_passed}
use Rattle.wait_model.proofs.HistoryLaws.LeftWalks.{gone_before, goes_on}
use Rattle.wait_model.proofs.HistoryLaws.PassedPlaces.{concerned, all_past, IsBehind, gone_by}

-- a wake that has ended by the history has ended by the view
ends_fold : (es : List Step) (e : Step) (c : Watch) (σ : ℕ) → (view_of es).duty.owes c σ ≡ true
    → EndsWake es e c σ → ends_wake e (view_of es) c σ ≡ true
ends_fold es (step.Unlock h spent) c σ owes k = by (hold_walk es c σ k.0) k.1
  where
    behind : (f : IsForWalk k.0.aim (view_of es).walk) → (p : ℕ) → IsBehind c σ (view_of es).walk p
        → p < f.walk.from
    behind f p g = subst (λ (u : Walk). p < u.from)
        (let z : Some g.0 ≡ Some f.walk = sym g.1 ∙ f.is in let q : g.0 ≡ f.walk = cc in q) g.2

    by : IsForWalk k.0.aim (view_of es).walk
        → (spent ≡ true) ⊎ ((x : ℕ) → x < ENTRIES → HasPassed (GoneBy es c σ) (λ _. ⊥) es c σ k.0 x)
        → ends_walk (view_of es).walk spent (view_of es) c σ ≡ true
    by f (inl q) = let z : concerns f.walk c σ ≡ true =
        concerned f.walk k.0.aim c σ f.watch f.mask k.0.watch
        k.0.mode in rw f.is (rw q z)
    by f (inr q) =
        let z : concerns f.walk c σ ≡ true = concerned f.walk k.0.aim c σ f.watch f.mask k.0.watch k.0.mode
        in
        let a : all_passed (view_of es) f.walk (λ _. false) ≡ true =
        all_past (GoneBy es c σ) (λ _. ⊥) (λ _. false) es c σ k.0 f.walk (λ p n. absurd n)
        (λ p g. behind f p (gone_by es c σ p owes g)) f.is q in
        rw f.is (rw (a, z) (grind arith))
ends_fold es (step.Peek y w) c σ owes k = all_cleared_of (peeks (view_of es).duty.cleared y (entry_of w) c)
    (λ x lt. sym (ap (λ (v : View). v.duty.cleared c x) (after_snoc blank es (step.Peek y w)))
    ∙ seen_off (es ++ step.Peek y w ∷ []) c x (k x lt))
ends_fold es (step.Scan h i w) c σ owes k = all_cleared_of (scanned (view_of es).duty.cleared h i w c)
    (λ x lt. sym (ap (λ (v : View). v.duty.cleared c x) (after_snoc blank es (step.Scan h i w)))
    ∙ seen_off (es ++ step.Scan h i w ∷ []) c x (k x lt))
ends_fold es e c σ owes k = absurd k

-- the view after the publish and some steps more
view_after_publish : (before : List Step) (publish : Step) (front : List Step)
    → view_of (before ++ publish ∷ front) ≡ after_all (view_of (before ++ publish ∷ [])) front
view_after_publish before publish front = after_append blank before (publish ∷ front)
    ∙ ap (λ (v : View). after_all v front) (sym (after_snoc blank before publish))

unended_at : (c : Watch) (σ : ℕ) (v : View) (front : List Step) (e : Step) (rest : List Step)
    → Unended c σ v (front ++ e ∷ rest) → Unended c σ v front × (ends_wake e (after_all v front) c σ ≡ false)
unended_at c σ v [] e rest u = (tt, u.0)
unended_at c σ v (d ∷ front) e rest u =
    let r = unended_at c σ (after d v) front e rest u.1 in ((u.0, r.0), r.1)

owes_of : (es : List Step) (c : Watch) (σ : ℕ) → Owing es c σ → Owes es c σ
owes_of es c σ o = record {
  before = o.before;
  publish = o.publish;
  later = o.later;
  split = o.split;
  is_publish = o.is_publish;
  unended = λ front e rest eq k. by front e
      (unended_at c σ (view_of (o.before ++ o.publish ∷ [])) front e rest
      (subst (Unended c σ (view_of (o.before ++ o.publish ∷ []))) eq o.unended)) k;
}
  where
    by : (front : List Step) (e : Step) → Unended c σ (view_of (o.before ++ o.publish ∷ [])) front
        × (ends_wake e (after_all (view_of (o.before ++ o.publish ∷ [])) front) c σ ≡ false)
        → EndsWake (o.before ++ o.publish ∷ front) e c σ → ⊥
    by front e u k =
        let owes : (view_of (o.before ++ o.publish ∷ front)).duty.owes c σ ≡ true =
        (owing_told (o.before ++ o.publish ∷ front) c σ).1 (record {
          before = o.before;
          publish = o.publish;
          later = front;
          split = refl;
          is_publish = o.is_publish;
          unended = u.0;
        })
        in
        let z : ends_wake e (view_of (o.before ++ o.publish ∷ front)) c σ ≡ true =
        ends_fold (o.before ++ o.publish ∷ front) e c σ owes k in
        let y : ends_wake e (view_of (o.before ++ o.publish ∷ front)) c σ ≡ false =
        ap (λ (v : View). ends_wake e v c σ) (view_after_publish o.before o.publish front) ∙ u.1 in cc

-- from here on the other way round, for histories in which locks that are given back were held
-- a wake that has ended by the view has ended by the history
stops_never : (p : ℕ) → false ≡ true → ⊥
stops_never p h = absurd (cc)

unlock_plain : (es : List Step) (h : ℕ) (spent : Bool) (c : Watch) (σ : ℕ) (o : Option Walk)
    → (HasWalk (view_of es).walk → Locked es) → GoesOn es c σ o → (view_of es).walk ≡ o
    → ends_walk o spent (view_of es) c σ ≡ true → EndsWake es (step.Unlock h spent) c σ
unlock_plain es h spent c σ None l g is e = absurd (cc)
unlock_plain es h spent c σ (Some w) l g is e =
    by (both (spent || all_passed (view_of es) w (λ _. false)) (concerns w c σ) e) (l (w, is))
  where
    at : (con : concerns w c σ ≡ true) → Locked es → (k : WalkHold es c σ) → (b : Bool)
        → (b || all_passed (view_of es) w (λ _. false)) ≡ true
        → (b ≡ true) ⊎ ((x : ℕ) → x < ENTRIES → HasPassed (GoneBy es c σ) (λ _. ⊥) es c σ k x)
    at con locked k true p = inl refl
    at con locked k false p = inr (λ x lt. has_passed (GoneBy es c σ) (λ _. ⊥) (λ _. false) es c σ k x w
        (record { gone_by = gone_before es c σ w (g con); stops = stops_never }) locked is con
        (passed_at (view_of es) w x p lt))

    by : ((spent || all_passed (view_of es) w (λ _. false)) ≡ true) × (concerns w c σ ≡ true) → Locked es
        → EndsWake es (step.Unlock h spent) c σ
    by p k = let a = aims es c σ w k is p.1 in
        (hold_for es c σ k a.0 a.1, at p.1 k (hold_for es c σ k a.0 a.1) spent p.0)

ends_plain : (es : List Step) (e : Step) (rest : List Step) (c : Watch) (σ : ℕ) → WalksLocked (es ++ e ∷ rest)
    → ends_wake e (view_of es) c σ ≡ true → EndsWake es e c σ
ends_plain es (step.Unlock h spent) rest c σ l p =
    unlock_plain es h spent c σ (view_of es).walk (l es h spent rest refl)
    (goes_on es c σ (locked_left es (step.Unlock h spent ∷ rest) l)) refl p
ends_plain es (step.Peek y w) rest c σ l p = λ x lt. off_seen (es ++ step.Peek y w ∷ []) c x
    (ap (λ (v : View). v.duty.cleared c x) (after_snoc blank es (step.Peek y w))
    ∙ cleared_at (peeks (view_of es).duty.cleared y (entry_of w) c) x p lt)
ends_plain es (step.Scan h i w) rest c σ l p = λ x lt. off_seen (es ++ step.Scan h i w ∷ []) c x
    (ap (λ (v : View). v.duty.cleared c x) (after_snoc blank es (step.Scan h i w))
    ∙ cleared_at (scanned (view_of es).duty.cleared h i w c) x p lt)
ends_plain es e rest c σ l p = absurd (cc)

-- no wake ends in the steps after a publish, one by one
unended_of : (before : List Step) (publish : Step) (front later : List Step) (c : Watch) (σ : ℕ)
    → WalksLocked (before ++ publish ∷ (front ++ later))
    → ((mid : List Step) (e : Step) (rest : List Step) → later ≡ mid ++ e ∷ rest
    → EndsWake (before ++ publish ∷ (front ++ mid)) e c σ → ⊥)
    → Unended c σ (view_of (before ++ publish ∷ front)) later
unended_of before publish front [] c σ l none = tt
unended_of before publish front (e ∷ es) c σ l none = (
  by (ends_wake e (view_of (before ++ publish ∷ front)) c σ) refl,
  subst (λ (v : View). Unended c σ v es) is
      (unended_of before publish (front ++ e ∷ []) es c σ
      (subst (λ (t : List Step). WalksLocked (before ++ publish ∷ t))
      (sym (append_assoc front (e ∷ []) es)) l)
      (λ mid d rest eq k. none (e ∷ mid) d rest (ap (λ (t : List Step). e ∷ t) eq)
      (subst (λ (t : List Step). EndsWake (before ++ publish ∷ t) d c σ)
      (append_assoc front (e ∷ []) mid) k))),
)
  where
    is : view_of (before ++ publish ∷ (front ++ e ∷ [])) ≡ after e (view_of (before ++ publish ∷ front))
    is = ap view_of (sym (append_assoc before (publish ∷ front) (e ∷ [])))
        ∙ after_snoc blank (before ++ publish ∷ front) e

    by : (b : Bool) → ends_wake e (view_of (before ++ publish ∷ front)) c σ ≡ b
        → ends_wake e (view_of (before ++ publish ∷ front)) c σ ≡ false
    by false h = h
    by true h = absurd (none [] e es refl (subst (λ (t : List Step). EndsWake (before ++ publish ∷ t) e c σ)
        (sym (append-nil front)) (ends_plain (before ++ publish ∷ front) e es c σ
        (subst WalksLocked (sym (append_assoc before (publish ∷ front) (e ∷ es))) l) h)))

of_owes : (es : List Step) (c : Watch) (σ : ℕ) → WalksLocked es → Owes es c σ → Owing es c σ
of_owes es c σ l o = record {
  before = o.before;
  publish = o.publish;
  later = o.later;
  split = o.split;
  is_publish = o.is_publish;
  unended = unended_of o.before o.publish [] o.later c σ (subst WalksLocked o.split l) o.unended;
}

pub owes_told : OwesTold
owes_told es c σ = (owes_of es c σ, λ l. of_owes es c σ (walks_locked es l))
