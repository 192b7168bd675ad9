-- Who sleeps on a futex queued its entry in a hold in which it had loaded the expected value.
use Rattle.std.proofs.Common.{◌∙◌, ap, append_assoc, refl, subst, sym}
use Rattle.std.specs.Prelude.{◌≡◌, ◌≢◌, true, false, Some, List, [], ◌∷◌, ◌++◌}
use Rattle.wait_model.specs.{declared.steps.Step.Step, declared.watches.Entry.Entry, Histories.Lacks}
use Rattle.wait_model.specs.{Histories.turns_lock, Tables.Table, Tasks.state_mask}
use Rattle.wait_model.specs.declared.steps.Step.TheVariants as step
use Rattle.wait_model.specs.declared.watches.Kind.TheVariants as kinds
use Rattle.wait_model.proofs.HistoryLaws.Stretches.{lacks_append}
use Rattle.wait_rule.specs.{Items.steps_of, Known.Known, Queues.index, Says.history_of}
use Rattle.wait_class.specs.{declared.stages.Run.Run, Tables.IsAsleepAt}
use Rattle.wait_class.proofs.Ground.Standing.{owner_own}
use Rattle.futex_table.specs.{StaleSleepers.SleepersSleepFor, StaleSleepers.SleepsFor}
use Rattle.futex_table.specs.{declared.waits.FutexStage.FutexStage, declared.waits.FutexWait.FutexWait}
use Rattle.futex_table.specs.FutexTables.{AreSaws, FutexTrail, SleptByValue, futex_head, futex_table, futex_word}
use Rattle.futex_table.specs.FutexTables.{is_behind_futex_sleep}
use Rattle.futex_table.specs.Sleepers.{RuleQueuedByValue, SleepersQueuedByValue, SleepsByValue, StretchesQueuedByValue}
use Rattle.futex_table.specs.declared.waits.FutexStage.TheVariants as stage

slept_there : (k : Known) (r : FutexWait) (s : FutexStage) → is_behind_futex_sleep s ≡ true → FutexTrail k r s
    → SleptByValue k r
slept_there k r stage.Queued is u = u
slept_there k r s is u = absurd (cc)

pub sleepers_queued : SleepersQueuedByValue
sleepers_queued k r s a =
    let u = slept_there k r.of s a.place a.trail in record { found = u.found; queued = u.queued }

pub rule_queued : RuleQueuedByValue
rule_queued k r s a t items ruled own = subst (λ (es : List Step). SleepsByValue es (index k.view.number 0) r.of)
    (sym (ruled.histories k.view.number ∙ ap steps_of own)) (sleepers_queued k r s a)

pub stretches_queued : StretchesQueuedByValue
stretches_queued old new r q s place a = sleepers_queued new q place a.lands

-- such a task is one that a walk behind a change of the word wakes
pub saws_turn : (es : List Step) → AreSaws es → Lacks turns_lock es
saws_turn [] l = tt
saws_turn (step.Saw x w ∷ es) l = (refl, saws_turn es l)
saws_turn (e ∷ es) l = absurd l

pub sleeps_for : (k : Known) (r : Run FutexWait) (s : FutexStage) → IsAsleepAt futex_table k r s → (u : Table)
    → u.history k.view.number ≡ history_of k → (e : Entry) → u.entry (index k.view.number 0) ≡ Some e
    → e.watch ≡ futex_word r.of.futex → e.kind ≡ kinds.Autoremove → (u.task k.view.number).state ≢ 0
    → SleepsFor u k.view.number (index k.view.number 0) e r.of.futex r.of.expected (u.task k.view.number).state
sleeps_for k r s a u same e stands of sort down =
    let z = sleepers_queued k r s a in
    let q = z.queued in
    let stored = step.Queue (index k.view.number 0) q.entry ∷ step.State (state_mask r.of.state) ∷ [] in
    let behind = step.Unlock (futex_head r.of.futex) false ∷ step.Sleep z.found ∷ [] in
    record {
      front = q.before;
      aim = q.aim;
      word = q.word;
      inside = q.looks ++ stored;
      head = futex_head r.of.futex;
      spent = false;
      rest = step.Sleep z.found ∷ [];
      history = same ∙ (q.is ∙ ap (λ (l : List Step). q.before ++ step.Lock (futex_head r.of.futex) q.aim q.word
          ∷ step.Load (futex_word r.of.futex) r.of.expected ∷ l) (sym (append_assoc q.looks stored behind)));
      within = lacks_append turns_lock q.looks stored (saws_turn q.looks q.saws) (refl, (refl, tt));
      steady = (refl, tt);
      own = owner_own k.view.number;
      stands = stands;
      watch = of;
      kind = sort;
      state = refl;
      down = down;
    }

pub sleepers_sleep_for : SleepersSleepFor
sleepers_sleep_for k r s a u items ruled own e stands of sort down =
    sleeps_for k r s a u (ruled.histories k.view.number ∙ ap steps_of own) e stands of sort down
