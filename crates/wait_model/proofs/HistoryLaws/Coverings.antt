-- What the fold covers is what the history says plainly.
use Rattle.std.proofs.Common.{refl, arith, inl, inr}
use Rattle.std.specs.Prelude.{ℕ, ◌≡◌, ◌⊎◌, Option, Some, None, Bool, true, false, not, ◌&&◌, ◌||◌, List, nat_le}
use Rattle.wait_model.specs.{declared.watches.Entry.Entry, declared.steps.Step.Step, Fold.view_of, Histories.Lacks}
use Rattle.wait_model.specs.{Histories.is_mark, Walks.CalledNow, Coverings.Covering, Told.CoveringTold}
use Rattle.wait_model.specs.Watches.{is_woken, is_simple, is_page}
use Rattle.wait_model.specs.Views.{Walk, blank, concerns, gone, ahead, covers}
use Rattle.wait_model.proofs.{HistoryLaws.PassedPlaces.gone_not, HistoryLaws.PlainReadings.owing_told}
use Rattle.wait_model.proofs.HistoryLaws.OwedWakes.{owes_told}
use Rattle.wait_model.proofs.HistoryLaws.HoldWalks.{AtFirst, first_in, locked_of}
use Rattle.wait_model.proofs.HistoryLaws.CalledEntries.{called_not, seen_off, off_seen, called_now}

parts : (o c s a : Bool) → (o && (not c && (s || a))) ≡ true → (o ≡ true) × (c ≡ false) × ((s || a) ≡ true)
parts true false s a h = (refl, refl, h)
parts true true s a h = absurd (cc)
parts false c s a h = absurd (cc)

told : (es : List Step) (x : ℕ) (e : Entry) (σ : ℕ) → covers (view_of es) x e σ ≡ true → Covering es x e σ
told es x e σ h = of_parts (parts ((view_of es).duty.owes e.watch σ) ((view_of es).duty.cleared e.watch x)
    (is_simple e.kind) (ahead (view_of es).walk (gone (view_of es) x e) e.watch σ e.place) h)
  where
    unless : {A : Type 0} (s : Bool) (a : Bool) → (s || a) ≡ true → (A → a ≡ false) → (s ≡ true) ⊎ (A → ⊥)
    unless true a h f = inl refl
    unless false a h f = inr (λ x. let z : a ≡ false = f x in cc)

    of_parts : ((view_of es).duty.owes e.watch σ ≡ true) × ((view_of es).duty.cleared e.watch x ≡ false)
        × ((is_simple e.kind || ahead (view_of es).walk (gone (view_of es) x e) e.watch σ e.place) ≡ true)
        → Covering es x e σ
    of_parts p = record {
      owes = (owes_told es e.watch σ).0 ((owing_told es e.watch σ).0 p.0);
      unseen = λ s. let z : (view_of es).duty.cleared e.watch x ≡ true = seen_off es e.watch x s in
          let n : (view_of es).duty.cleared e.watch x ≡ false = p.1 in absurd (cc);
      uncalled = unless (is_simple e.kind)
          (ahead (view_of es).walk (gone (view_of es) x e) e.watch σ e.place) p.2 (called_not es x e σ);
      ahead = unless (is_simple e.kind)
          (ahead (view_of es).walk (gone (view_of es) x e) e.watch σ e.place) p.2
          (gone_not es e σ (gone (view_of es) x e) p.0);
    }

from_zero : (n : ℕ) → (nat_le 0 n && true) ≡ true
from_zero n = grind arith

-- what is not passed is ahead
ahead_of : (es : List Step) (x : ℕ) (e : Entry) (σ : ℕ) → Lacks is_mark es → (CalledNow es x e σ → ⊥)
    → (o : Option Walk) → (view_of es).walk ≡ o → AtFirst o
    → ahead o (gone (view_of es) x e) e.watch σ e.place
    ≡ true
ahead_of es x e σ l none None is f = refl
ahead_of es x e σ l none (Some w) is f = by (concerns w e.watch σ) refl (gone (view_of es) x e) refl
  where
    by : (c : Bool) → concerns w e.watch σ ≡ c → (g : Bool) → gone (view_of es) x e ≡ g
        → (not (concerns w e.watch σ) || (nat_le w.from e.place && not (gone (view_of es) x e))) ≡ true
    by false p g q = rw p refl
    by true p true q = absurd (none (called_now es x e σ w (locked_of es l (w, is)) is p (is_woken e.kind) (is_page e.kind) refl refl q))
    by true p false q = rw (p, q, f) (from_zero e.place)

told_back : (es : List Step) (x : ℕ) (e : Entry) (σ : ℕ) → Lacks is_mark es → Covering es x e σ
    → covers (view_of es) x e σ ≡ true
told_back es x e σ l c = all ((view_of es).duty.owes e.watch σ) ((view_of es).duty.cleared e.watch x)
    (is_simple e.kind) (ahead (view_of es).walk (gone (view_of es) x e) e.watch σ e.place)
    ((owing_told es e.watch σ).1 ((owes_told es e.watch σ).1 (inl l) c.owes))
    (λ h. c.unseen (off_seen es e.watch x h)) (by c.uncalled)
  where
    all : (o d s a : Bool) → o ≡ true → (d ≡ true → ⊥) → (s ≡ true) ⊎ (a ≡ true)
        → (o && (not d && (s || a))) ≡ true
    all true false s a h n (inl p) = rw p refl
    all true false s a h n (inr p) = grind arith
    all true true s a h n p = absurd (n refl)
    all false d s a h n p = absurd (cc)

    by : (is_simple e.kind ≡ true) ⊎ (CalledNow es x e σ → ⊥) → (is_simple e.kind ≡ true)
        ⊎ (ahead (view_of es).walk (gone (view_of es) x e) e.watch σ e.place ≡ true)
    by (inl p) = inl p
    by (inr p) = inr (ahead_of es x e σ l p (view_of es).walk refl (first_in es blank refl l tt))

pub covering_told : CoveringTold
covering_told es x e σ = (told es x e σ, told_back es x e σ)
