-- What calls on condition variables leave of a task.
use Rattle.std.proofs.Common.{◌∙◌, refl, subst}
use Rattle.std.specs.Prelude.{ℕ, ◌≡◌, Result, Ok, Err}
use Rattle.wait_model.specs.declared.steps.Step.TheVariants as step
use Rattle.wait_model.specs.declared.watches.Mode.TheVariants as mode
use Rattle.wait_model.specs.declared.watches.Watch.{Watch}
use Rattle.wait_model.specs.declared.watches.Watch.TheVariants as watch
use Rattle.wait_rule.specs.declared.journal.Item.TheVariants as item
use Rattle.wait_rule.specs.{Known.Known, Says.added, Stays.Carries, Stays.unchanged}
use Rattle.wait_rule.specs.Queues.{index}
use Rattle.wq_head.specs.declared.adds.Worn.{Worn}
use Rattle.wait_class.specs.Posts.{IsOut}
use Rattle.wait_event.specs.{Conds.set_change, Ends.wait_change}
use Rattle.wait_event.proofs.Changes.{carried_on, carried_wider, out_on}
use Rattle.futex_table.specs.{declared.futexes.FutexEnd.FutexEnd, Mutexes.is_locked}
use Rattle.futex_table.specs.CondVars.{cond_answer, cond_change, is_mutex_held}
use Rattle.futex_table.specs.Holding.{StayHeld}
use Rattle.futex_table.specs.declared.futexes.FutexEnd.TheVariants as futex_end
use Rattle.futex_table.proofs.Mutexing.{one_holds}

pub load_held : (c v : ℕ) (old new : Known) → new ≡ added old (item.Made (step.Load (watch.Plain c) v))
    → StayHeld old new
load_held c v old new is m = one_holds m old new (step.Load (watch.Plain c) v) is

-- over the wake that gives the mutex back
pub sets_out : (c : Watch) (old new : Known) → Carries (set_change c mode.Normal new.at) old new → IsOut old → IsOut new
sets_out c old new a = out_on a refl

module _ (m i : ℕ) (old new : Known) where
  pub of_unchanged : Carries unchanged old new → Carries (cond_change m i new.at) old new
  of_unchanged c = carried_wider (cond_change m i new.at) c (λ x p. refl) (λ w p. refl) c.owes

  pub of_set : Carries (set_change (watch.Plain m) mode.Normal new.at) old new → Carries (cond_change m i new.at) old new
  of_set c = carried_wider (cond_change m i new.at) c (λ x p. refl) (λ w p. p) c.owes

  pub of_wait : Carries (wait_change i new.at) old new → Carries (cond_change m i new.at) old new
  of_wait c = carried_wider (cond_change m i new.at) c (λ x p. p) (λ w p. refl) c.owes

pub cond_on : (m i : ℕ) (x y z : Known) → Carries (cond_change m i y.at) x y → Carries (cond_change m i z.at) y z
    → Carries (cond_change m i z.at) x z
cond_on m i x y z a b = carried_on (cond_change m i z.at) a b

-- the four parts of a wait, one behind the other
pub cond_carries : (m : ℕ) (old loaded unlocked waited new : Known) → Carries unchanged old loaded
    → Carries (set_change (watch.Plain m) mode.Normal unlocked.at) loaded unlocked
    → Carries (wait_change (index unlocked.view.number 0) waited.at) unlocked waited
    → Carries (wait_change (index waited.view.number 0) new.at) waited new
    → Carries (cond_change m (index old.view.number 0) new.at) old new
cond_carries m old loaded unlocked waited new a b c d =
    let i = index old.view.number 0 in
    let third = subst (λ (n : ℕ). Carries (wait_change (index n 0) waited.at) unlocked waited)
    (b.number ∙ a.number) c in
    let fourth = subst (λ (n : ℕ). Carries (wait_change (index n 0) new.at) waited new)
    (c.number ∙ (b.number ∙ a.number)) d in
    cond_on m i old waited new
    (cond_on m i old unlocked waited
    (cond_on m i old loaded unlocked (of_unchanged m i old loaded a) (of_set m i loaded unlocked b))
    (of_wait m i unlocked waited third)) (of_wait m i waited new fourth)

-- whether the mutex is held
pub answer_held : (end : Result (Unit {0}) FutexEnd) (lock : Result (Unit {0}) Worn)
    → is_mutex_held (cond_answer end lock) ≡ is_locked lock
answer_held (Err (futex_end.Worn h p)) lock = refl
answer_held (Err (futex_end.Again seen)) (Err w) = refl
answer_held (Err (futex_end.Again seen)) (Ok u) = refl
answer_held (Err futex_end.Interrupted) (Err w) = refl
answer_held (Err futex_end.Interrupted) (Ok u) = refl
answer_held (Ok v) (Err w) = refl
answer_held (Ok v) (Ok u) = refl
