-- The holds of the calls that ask a count, take one of it, clear it and raise it may end.
use Rattle.std.proofs.Common.{refl, ◌∙◌, ap, arith, inl, inr}
use Rattle.std.specs.Prelude.{ℕ, ◌≡◌, ◌≤◌, ◌+◌, ◌-◌, Bool, true, false, None, [], ◌∷◌, MatchBool}
use Rattle.wait_model.specs.{declared.layout.TheConstants.ALL_DONE, Permits.after_store, Permits.done_head}
use Rattle.wait_model.specs.{Runs.set_step, Watches.head_of}
use Rattle.wait_model.specs.declared.steps.Step.TheVariants as step
use Rattle.wait_model.specs.declared.watches.Watch.TheVariants as watch
use Rattle.wait_rule.specs.declared.journal.Item.TheVariants as item
use Rattle.wait_rule.specs.{Counts.StoresCount, HandedPermits.StaysOff, Known.Known, Queues.IsTold, Queues.walk_of_hold}
use Rattle.wait_rule.specs.Says.{IsFree, added, told_of}
use Rattle.wait_rule.specs.Stays.{Carries, lock_change, only_looks, unchanged}
use Rattle.wait_rule.proofs.{KnownLaws.CalledPermits.left_on, KnownLaws.HeldPermits.owed}
use Rattle.wait_rule.proofs.KnownLaws.TaskHistories.{history_after}
use Rattle.wq_head.specs.{Holds.HasLocked, Selects.HasSelected}
use Rattle.completion_cell.specs.Asks.{HasCountedDone}
use Rattle.completion_cell.proofs.Asking.{none_held}
use Rattle.completion_cell.proofs.Permits.{Inside, MayEndHold, hold_made, inside_join, inside_none, inside_step}
use Rattle.completion_cell.proofs.Permits.{load_owes, lowers, nobody, raises, selection_inside, store_inside}
use Rattle.completion_cell.proofs.Permits.{store_owes}

-- a load without the lock
pub ask_off : (old a : Known) (d v : ℕ) → a ≡ added old (item.Made (step.Load (watch.Done d) v))
    → Carries unchanged old a → IsFree old → IsTold old → StaysOff old a
ask_off old a d v is one free told = left_on old a (step.Load (watch.Done d) v ∷ []) one.number
    (history_after old a (step.Load (watch.Done d) v) is) (tt, tt) (none_held old told free)

-- a hold in which nothing is done
pub is_done_hold : (a b : Known) (d h : ℕ) → h ≡ head_of (watch.Done d) → (told_of a).hold.head ≡ None
    → HasLocked a b h (walk_of_hold h None) → Carries (lock_change h) a b → MayEndHold d a b
is_done_hold a b d h same out l lock = hold_made d a b b h same l (λ k. k) (inside_none d b b refl)
    (ap (λ (k : Known). k.at) l.is ∙ same) lock.number out (inl refl)

-- the count is cleared
pub reinit_hold : (old a b : Known) (d h : ℕ) → h ≡ head_of (watch.Done d) → IsFree old → IsTold old
    → HasLocked old a h (walk_of_hold h None) → Carries (lock_change h) old a → StoresCount a b d 0
    → MayEndHold d old b
reinit_hold old a b d h same free told l lock s = hold_made d old a b h same l
    (owed d (set_step (watch.Done d) 0 s.found))
    (inside_step d a b (set_step (watch.Done d) 0 s.found) (store_inside d 0 s.found) s.is)
    (s.publishes.at ∙ (ap (λ (k : Known). k.at) l.is ∙ same)) (s.publishes.number ∙ lock.number)
    (none_held old told free) (inl (store_owes d 0 s.found 0 ∙ lowers 0 s.found (omega arith)))

-- What a store of a count that a hold has loaded leaves of it, where it owed nothing.
record Stores (d : ℕ) (old new : Known) (most : ℕ) : Type 0 where
  owes : ℕ → ℕ
  steps : Inside d old new owes
  debt : owes 0 ≤ most
  at : new.at ≡ old.at
  number : new.view.number ≡ old.view.number

stays_stored : (d : ℕ) (old new : Known) (most : ℕ) → new ≡ old → Stores d old new most
stays_stored d old new most is = record {
  owes = λ k. k;
  steps = inside_none d old new is;
  debt = omega arith;
  at = ap (λ (k : Known). k.at) is;
  number = ap (λ (k : Known). k.view.number) is;
}

is_stored : (d n : ℕ) (old new : Known) (most : ℕ) → (s : StoresCount old new d n) → after_store n s.found 0 ≤ most
    → Stores d old new most
is_stored d n old new most s few = record {
  owes = owed d (set_step (watch.Done d) n s.found);
  steps = inside_step d old new (set_step (watch.Done d) n s.found) (store_inside d n s.found) s.is;
  debt = let e = store_owes d n s.found 0 in omega (arith, e, few);
  at = s.publishes.at;
  number = s.publishes.number;
}

takes : (d n : ℕ) (old new : Known) → HasCountedDone old d n → (took : Bool)
    → MatchBool took (StoresCount old new d (n - 1)) (new ≡ old) → Stores d old new 0
takes d n old new c true s =
    let same = s.finds.1 c.held n c.loaded in
    let none = lowers (n - 1) s.found (omega (arith, same)) in
    is_stored d (n - 1) old new 0 s (omega (arith, none))
takes d n old new c false s = stays_stored d old new 0 s

makes : (d n : ℕ) (old new : Known) → HasCountedDone old d n → (raised : Bool)
    → MatchBool raised (StoresCount old new d (n + 1)) (new ≡ old) → Stores d old new 1
makes d n old new c true s =
    let same = ap (λ (r : ℕ). after_store (n + 1) r 0) (s.finds.1 c.held n c.loaded) in
    let one = raises n in
    is_stored d (n + 1) old new 1 s (omega (arith, same, one))
makes d n old new c false s = stays_stored d old new 1 s

-- one is taken of the count
pub try_hold : (a b b2 c : Known) (d n h : ℕ) → h ≡ head_of (watch.Done d) → (told_of a).hold.head ≡ None
    → HasLocked a b h (walk_of_hold h None) → Carries (lock_change h) a b
    → b2 ≡ added b (item.Made (step.Load (watch.Done d) n)) → Carries unchanged b b2 → HasCountedDone b2 d n → (took : Bool)
    → MatchBool took (StoresCount b2 c d (n - 1)) (c ≡ b2) → MayEndHold d a c
try_hold a b b2 c d n h same out l lock again two counted took made =
    let t = takes d n b2 c counted took made in
    let start = ap t.owes (load_owes d n) in
    let none = t.debt in
    hold_made d a b c h same l (λ k. t.owes (owed d (step.Load (watch.Done d) n) k))
    (inside_join d b b2 c (owed d (step.Load (watch.Done d) n)) t.owes
    (inside_step d b b2 (step.Load (watch.Done d) n) tt again) t.steps)
    (t.at ∙ (two.at ∙ (ap (λ (k : Known). k.at) l.is ∙ same))) (t.number ∙ (two.number ∙ lock.number)) out
    (inl (omega (arith, start, none)))

-- the count is raised by one, and an entry taken off
pub complete_hold : (old a a2 b m : Known) (d v n h : ℕ) → h ≡ head_of (watch.Done d) → IsFree old → IsTold old
    → HasLocked old a h (walk_of_hold h None) → Carries (lock_change h) old a
    → a2 ≡ added a (item.Made (step.Load (watch.Done d) v)) → Carries unchanged a a2 → HasCountedDone a2 d v
    → (raised : Bool) → MatchBool raised (StoresCount a2 b d (v + 1)) (b ≡ a2) → HasSelected b m 1 n
    → Carries only_looks b m → MayEndHold d old m
complete_hold old a a2 b m d v n h same free told l lock is loaded counted raised made s select =
    hold_made d old a m h same l (λ k. t.owes (owed d (step.Load (watch.Done d) v) k) - n)
    (inside_join d a b m (λ k. t.owes (owed d (step.Load (watch.Done d) v) k)) (λ k. k - n)
    (inside_join d a a2 b (owed d (step.Load (watch.Done d) v)) t.owes
    (inside_step d a a2 (step.Load (watch.Done d) v) tt is) t.steps)
    (selection_inside d b m 1 n s))
    (select.at ∙ (t.at ∙ (loaded.at ∙ (ap (λ (k : Known). k.at) l.is ∙ same))))
    (select.number ∙ (t.number ∙ (loaded.number ∙ lock.number))) (none_held old told free)
    (elim s.ends [ inl all ↦ inl (handed all.1) | inr none ↦ inr (nobody (done_head d) m s.whole none.0) ])
  where
    t : Stores d a2 b 1
    t = makes d v a2 b counted raised made

    handed : n ≡ 1 → t.owes (owed d (step.Load (watch.Done d) v) 0) - n ≡ 0
    handed all =
        let start = ap t.owes (load_owes d v) in
        let few = t.debt in
        omega (arith, start, few, all)

-- the count is granted for good, and all entries are taken off
pub complete_all_hold : (old a b m : Known) (d n h : ℕ) → h ≡ head_of (watch.Done d) → IsFree old → IsTold old
    → HasLocked old a h (walk_of_hold h None) → Carries (lock_change h) old a → StoresCount a b d ALL_DONE
    → HasSelected b m 0 n → Carries only_looks b m → MayEndHold d old m
complete_all_hold old a b m d n h same free told l lock stored s select = hold_made d old a m h same l
    (λ k. owed d (set_step (watch.Done d) ALL_DONE stored.found) k - n)
    (inside_join d a b m (owed d (set_step (watch.Done d) ALL_DONE stored.found)) (λ k. k - n)
    (inside_step d a b (set_step (watch.Done d) ALL_DONE stored.found) (store_inside d ALL_DONE stored.found) stored.is)
    (selection_inside d b m 0 n s))
    (select.at ∙ (stored.publishes.at ∙ (ap (λ (k : Known). k.at) l.is ∙ same)))
    (select.number ∙ (stored.publishes.number ∙ lock.number)) (none_held old told free)
    (elim s.ends [
      | inl all ↦ absurd (all.0 refl)
      | inr none ↦ inr (nobody (done_head d) m s.whole none.0)
    ])
