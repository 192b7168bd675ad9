-- The events of a wait for a flag.
use Rattle.std.proofs.Common.{◌∙◌, ap, sym, refl, subst, inl, inr, append_assoc}
use Rattle.std.specs.Prelude.{ℕ, ◌≡◌, ◌⊎◌, Bool, true, false, if◌then◌else◌, None, List, [], ◌∷◌, ◌++◌}
use Rattle.wait_model.specs.declared.points.Point.TheVariants as at
use Rattle.wait_model.specs.declared.points.WokenPoint.TheVariants as hearing
use Rattle.wait_model.specs.declared.points.Next.TheVariants as next
use Rattle.wait_model.specs.{declared.points.Seen.Seen, declared.steps.Step.Step, declared.tasks.Sleep.Sleep}
use Rattle.wait_model.specs.{declared.tasks.SleepState.SleepState, Words.flag_of}
use Rattle.wait_model.specs.Tasks.{sleep_of, state_mask, task_of}
use Rattle.wait_model.specs.declared.steps.Step.TheVariants as step
use Rattle.wait_model.specs.declared.tasks.Sleep.TheVariants as sleeping
use Rattle.wait_rule.specs.declared.journal.Item.TheVariants as item
use Rattle.wait_rule.specs.{Known.Known, Says.added, Says.history_of, Transitions.by_step}
use Rattle.wait_rule.specs.Items.{Book, after_sleep, with_state}
use Rattle.wait_rule.specs.Stays.{Carries, state_change, unchanged}
use Rattle.wait_rule.proofs.{KnownLaws.Debts.added_debts, KnownLaws.AfterSteps.told_added}
use Rattle.wait_rule.proofs.{KnownLaws.TaskHistories.history_after, KnownLaws.Transitions.only_none}
use Rattle.wait_class.specs.Posts.{IsStateFor, Post, Stands, EndsWith, own_of}
use Rattle.wait_class.specs.Findings.{saw_nothing, with_own}
use Rattle.wait_event.specs.WokenWaits.{HasHeardSo, Hears, IsHearing, KeepsEntries, WentHearing, WokenTrail, heard_post}
use Rattle.wait_event.specs.WokenWaits.{heard_steps, unless_set, woken_point, woken_post, woken_program}
use Rattle.wait_event.specs.declared.woken_waits.WokenStage.{WokenStage}
use Rattle.wait_event.specs.declared.woken_waits.WokenStage.TheVariants as stage
use Rattle.wait_event.specs.declared.woken_waits.WokenTurn.TheVariants as turn
use Rattle.wait_class.proofs.{Ground.Standing.stands_on, Ground.Going.runs_one}
use Rattle.wait_event.proofs.Hearing.Entries.{keeps_by, keeps_told, woken_stays}

-- the last steps, with one more
ends_more : (k : Known) (e : Step) (es : List Step) → EndsWith k es → EndsWith (added k (item.Made e)) (es ++ e ∷ [])
ends_more k e es h = (
  h.0,
  history_after k (added k (item.Made e)) e refl
      ∙ (ap (λ (hs : List Step). hs ++ e ∷ []) h.1 ∙ append_assoc h.0 es (e ∷ [])),
)

unless_more : (b : Bool) (own : ℕ) (es more : List Step) → unless_set b own es ++ more ≡ unless_set b own (es ++ more)
unless_more true own es more = refl
unless_more false own es more = refl

heard_more : (k : Known) (st : SleepState) (e : Step) (es : List Step) → HasHeardSo k st es
    → HasHeardSo (added k (item.Made e)) st (es ++ e ∷ [])
heard_more k st e es (found, own, ends) = (
  found,
  own,
  subst (λ (more : List Step). EndsWith (added k (item.Made e))
      (step.State (state_mask st) ∷ step.Flag (own_of k) found ∷ more)) (unless_more (flag_of found) own es (e ∷ []))
      (ends_more k e (heard_steps st (own_of k) found own es) ends),
)

-- what the program finds of the flag
abbrev pub with_flag : Bool → Seen
with_flag b = record saw_nothing { flag = b }

module _ (old : Known) (st : SleepState) where
  -- the state is stored
  state_made : (σ : ℕ) → σ ≡ state_mask st → IsHearing old st stage.State
      → Carries (state_change σ) old (added old (item.Made (step.State σ)))
      → Hears old (added old (item.Made (step.State σ))) st stage.State (turn.Again stage.Flag)
  state_made σ same a carries =
      let new = added old (item.Made (step.State σ)) in
      let keeps = keeps_by (λ _. σ) old new carries in record {
        went = record {
          runs = runs_one (woken_program old.view.number st) (at.Woken hearing.State) old old new saw_nothing
              (by_step (step.State σ)) (only_none old) same (tt, tt, tt) (only_none new);
          keeps = keeps;
        };
        lands = record {
          up = carries.awake ∙ a.up;
          stands = stands_on old (step.State σ) (woken_post st stage.State) (woken_post st stage.Flag) a.stands
              a.stands.head refl a.stands.told a.stands.ticket (inr same) a.stands.home;
          entry = woken_stays old new keeps a.entry;
          trail = (
            history_of old,
            history_after old new (step.State σ) refl
                ∙ ap (λ (n : ℕ). history_of old ++ step.State n ∷ []) same,
          );
        };
      }

  -- the flag is loaded
  module _ (w : ℕ) (a : IsHearing old st stage.Flag)
      (carries : Carries unchanged old (added old (item.Made (step.Flag (own_of old) w)))) where
    abbrev loaded : Known
    loaded = added old (item.Made (step.Flag (own_of old) w))

    flag_keeps : KeepsEntries old loaded
    flag_keeps = keeps_by (λ σ. σ) old loaded carries

    flag_went : (b : Bool) → b ≡ flag_of w → WentHearing old loaded st (next.Go (at.Woken hearing.Flag))
        (next.Go (at.Woken (if b then hearing.Run else hearing.Sleep)))
    flag_went b is = record {
      runs = runs_one (woken_program old.view.number st) (at.Woken hearing.Flag) old old loaded (with_flag b)
          (by_step (step.Flag (own_of old) w)) (only_none old) refl (is, tt, tt) (only_none loaded);
      keeps = flag_keeps;
    }

    flag_lands : (s : WokenStage) → woken_post st s ≡ woken_post st stage.Run
        → WokenTrail loaded st (woken_point s) → IsHearing loaded st s
    flag_lands s post trail = record {
      up = carries.awake ∙ a.up;
      stands = subst (λ (q : Post). Stands loaded q) (sym post)
          (stands_on old (step.Flag (own_of old) w) (woken_post st stage.Flag) (woken_post st stage.Run) a.stands
          a.stands.head refl a.stands.told a.stands.ticket a.stands.state a.stands.home);
      entry = woken_stays old loaded flag_keeps a.entry;
      trail = trail;
    }

    flag_ends : EndsWith loaded (step.State (state_mask st) ∷ step.Flag (own_of old) w ∷ [])
    flag_ends = ends_more old (step.Flag (own_of old) w) (step.State (state_mask st) ∷ []) a.trail

    flag_set : true ≡ flag_of w → Hears old loaded st stage.Flag (turn.Again stage.Run)
    flag_set is = record {
      went = flag_went true is;
      lands = flag_lands stage.Run refl (
        w,
        0,
        subst (λ (b : Bool). EndsWith loaded (step.State (state_mask st) ∷ step.Flag (own_of old) w
            ∷ unless_set b 0 [])) is flag_ends,
      );
    }

    flag_clear : false ≡ flag_of w → Hears old loaded st stage.Flag (turn.Again stage.Sleep)
    flag_clear is = record {
      went = flag_went false is;
      lands = flag_lands stage.Sleep refl (w, sym is, flag_ends);
    }

  -- one try to sleep, by what it leaves of the book
  module _ (w : ℕ) (a : IsHearing old st stage.Sleep) where
    abbrev slept : Known
    slept = added old (item.Made (step.Sleep w))

    sleep_stands : (b : Book) → after_sleep (sleep_of (task_of w)) old.book ≡ b → b.head ≡ old.book.head
        → b.ticket ≡ old.book.ticket → IsStateFor true (state_mask st) b.state → Stands slept (woken_post st stage.Run)
    sleep_stands b is head ticket state = stands_on old (step.Sleep w) (woken_post st stage.Sleep)
        (woken_post st stage.Run) a.stands
        (ap (λ (d : Book). d.head) is ∙ (head ∙ a.stands.head)) refl a.stands.told
        (ap (λ (d : Book). d.ticket) is ∙ (ticket ∙ a.stands.ticket))
        (subst (λ (d : Book). IsStateFor true (state_mask st) d.state) (sym is) state) a.stands.home

    sleep_trail : HasHeardSo slept st []
    sleep_trail = (
      a.trail.0,
      w,
      subst (λ (b : Bool). EndsWith slept (step.State (state_mask st) ∷ step.Flag (own_of old) a.trail.0
          ∷ unless_set b w [])) (sym a.trail.1)
          (ends_more old (step.Sleep w)
          (step.State (state_mask st) ∷ step.Flag (own_of old) a.trail.0 ∷ []) a.trail.2),
    )

    sleep_keeps : KeepsEntries old slept
    sleep_keeps = keeps_told old slept refl refl refl (told_added old (item.Made (step.Sleep w)))
        (added_debts old slept (item.Made (step.Sleep w)) refl refl)

    sleep_went : WentHearing old slept st (next.Go (at.Woken hearing.Sleep)) (next.Go (at.Woken hearing.Run))
    sleep_went = record {
      runs = runs_one (woken_program old.view.number st) (at.Woken hearing.Sleep) old old slept
          (with_own (task_of w)) (by_step (step.Sleep w)) (only_none old) tt (refl, tt, tt) (only_none slept);
      keeps = sleep_keeps;
    }

    sleep_up : (sleep_of (task_of w) ≡ sleeping.Stay) ⊎ (sleep_of (task_of w) ≡ sleeping.Signal)
        → Hears old slept st stage.Sleep (turn.Again stage.Run)
    sleep_up stays =
        let is = stays_book (sleep_of (task_of w)) stays in record {
          went = sleep_went;
          lands = record {
            up = ap (λ (b : Book). b.awake) is ∙ a.up;
            stands = sleep_stands (with_state 0 old.book) is refl refl (inl refl);
            entry = woken_stays old slept sleep_keeps a.entry;
            trail = sleep_trail;
          };
        }
      where
        stays_book : (x : Sleep) → (x ≡ sleeping.Stay) ⊎ (x ≡ sleeping.Signal)
            → after_sleep x old.book ≡ with_state 0 old.book
        stays_book x (inl e) = ap (λ (y : Sleep). after_sleep y old.book) e
        stays_book x (inr e) = ap (λ (y : Sleep). after_sleep y old.book) e

    sleep_down : sleep_of (task_of w) ≡ sleeping.Asleep → Hears old slept st stage.Sleep turn.Asleep
    sleep_down asleep =
        let is : after_sleep (sleep_of (task_of w)) old.book ≡ after_sleep sleeping.Asleep old.book =
        ap (λ (y : Sleep). after_sleep y old.book) asleep in record {
          went = sleep_went;
          lands = record {
            down = ap (λ (b : Book). b.awake) is;
            stands = sleep_stands (after_sleep sleeping.Asleep old.book) is refl refl a.stands.state;
            entry = woken_stays old slept sleep_keeps a.entry;
            trail = sleep_trail;
          };
        }

  -- RUNNING is stored
  run_made : IsHearing old st stage.Run → Carries (state_change 0) old (added old (item.Made (step.State 0)))
      → Hears old (added old (item.Made (step.State 0))) st stage.Run (turn.Again stage.Clear)
  run_made a carries =
      let new = added old (item.Made (step.State 0)) in
      let keeps = keeps_by (λ _. 0) old new carries in record {
        went = record {
          runs = runs_one (woken_program old.view.number st) (at.Woken hearing.Run) old old new saw_nothing
              (by_step (step.State 0)) (only_none old) refl (tt, tt, tt) (only_none new);
          keeps = keeps;
        };
        lands = record {
          up = carries.awake ∙ a.up;
          stands = stands_on old (step.State 0) (woken_post st stage.Run) (woken_post st stage.Clear) a.stands
              a.stands.head refl a.stands.told a.stands.ticket refl a.stands.home;
          entry = woken_stays old new keeps a.entry;
          trail = heard_more old st (step.State 0) [] a.trail;
        };
      }

  -- the flag is cleared
  clear_made : IsHearing old st stage.Clear
      → Carries unchanged old (added old (item.Made (step.Unflag (own_of old) None)))
      → Hears old (added old (item.Made (step.Unflag (own_of old) None))) st stage.Clear turn.Done
  clear_made a carries =
      let e = step.Unflag (own_of old) None in
      let new = added old (item.Made e) in
      let keeps = keeps_by (λ σ. σ) old new carries in record {
        went = record {
          runs = runs_one (woken_program old.view.number st) (at.Woken hearing.Clear) old old new saw_nothing (by_step e)
              (only_none old) (refl, inl refl) (tt, tt, tt) (only_none new);
          keeps = keeps;
        };
        lands = record {
          up = carries.awake ∙ a.up;
          stands = stands_on old e (woken_post st stage.Clear) (heard_post st) a.stands a.stands.head refl a.stands.told
              a.stands.ticket a.stands.state a.stands.home;
          entry = woken_stays old new keeps a.entry;
          trail = heard_more old st e (step.State 0 ∷ []) a.trail;
        };
      }

-- by the step that the call below made
pub state_hears : (old new : Known) (st : SleepState) (σ : ℕ) → σ ≡ state_mask st → IsHearing old st stage.State
    → new ≡ added old (item.Made (step.State σ)) → Carries (state_change σ) old new
    → Hears old new st stage.State (turn.Again stage.Flag)
state_hears old new st σ same a is carries =
    subst (λ (k : Known). Hears old k st stage.State (turn.Again stage.Flag)) (sym is)
    (state_made old st σ same a (subst (Carries (state_change σ) old) is carries))

pub flag_hears : (old new : Known) (st : SleepState) (w : ℕ) → IsHearing old st stage.Flag
    → new ≡ added old (item.Made (step.Flag (own_of old) w)) → Carries unchanged old new
    → (true ≡ flag_of w → Hears old new st stage.Flag (turn.Again stage.Run))
    × (false ≡ flag_of w → Hears old new st stage.Flag (turn.Again stage.Sleep))
flag_hears old new st w a is carries =
    let more = subst (Carries unchanged old) is carries in (
      λ set. subst (λ (k : Known). Hears old k st stage.Flag (turn.Again stage.Run)) (sym is)
          (flag_set old st w a more set),
      λ clear. subst (λ (k : Known). Hears old k st stage.Flag (turn.Again stage.Sleep)) (sym is)
          (flag_clear old st w a more clear),
    )

pub up_hears : (old new : Known) (st : SleepState) → IsHearing old st stage.Sleep → (w : ℕ)
    → new ≡ added old (item.Made (step.Sleep w)) → (x : Sleep) → x ≡ sleep_of (task_of w)
    → (x ≡ sleeping.Stay) ⊎ (x ≡ sleeping.Signal) → Hears old new st stage.Sleep (turn.Again stage.Run)
up_hears old new st a w is x tells stays =
    subst (λ (k : Known). Hears old k st stage.Sleep (turn.Again stage.Run)) (sym is)
    (sleep_up old st w a (elim stays [ inl e ↦ inl (sym tells ∙ e) | inr e ↦ inr (sym tells ∙ e) ]))

pub down_hears : (old new : Known) (st : SleepState) → IsHearing old st stage.Sleep → (w : ℕ)
    → new ≡ added old (item.Made (step.Sleep w)) → (x : Sleep) → x ≡ sleep_of (task_of w) → x ≡ sleeping.Asleep
    → Hears old new st stage.Sleep turn.Asleep
down_hears old new st a w is x tells asleep =
    subst (λ (k : Known). Hears old k st stage.Sleep turn.Asleep) (sym is)
    (sleep_down old st w a (sym tells ∙ asleep))

pub run_hears : (old new : Known) (st : SleepState) → IsHearing old st stage.Run
    → new ≡ added old (item.Made (step.State 0)) → Carries (state_change 0) old new
    → Hears old new st stage.Run (turn.Again stage.Clear)
run_hears old new st a is carries =
    subst (λ (k : Known). Hears old k st stage.Run (turn.Again stage.Clear)) (sym is)
    (run_made old st a (subst (Carries (state_change 0) old) is carries))

pub clear_hears : (old new : Known) (st : SleepState) → IsHearing old st stage.Clear
    → new ≡ added old (item.Made (step.Unflag (own_of old) None)) → Carries unchanged old new
    → Hears old new st stage.Clear turn.Done
clear_hears old new st a is carries =
    subst (λ (k : Known). Hears old k st stage.Clear turn.Done) (sym is)
    (clear_made old st a (subst (Carries unchanged old) is carries))
