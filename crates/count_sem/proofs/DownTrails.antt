-- What the stages of a `down` say of its last steps, over one event and the next.
use Rattle.std.proofs.Common.{◌∙◌, ap, sym, refl, subst, append-nil, eqb-true}
use Rattle.std.specs.Prelude.{ℕ, ◌≡◌, ◌==◌, ◌&&◌, if◌then◌else◌, Bool, true, false, is_some, Option, Some, None, List}
use Rattle.std.specs.Prelude.{[], ◌∷◌, ◌++◌}
use Rattle.wait_model.specs.{declared.steps.Step.Step, declared.watches.Aim.Aim, Watches.mask_of, Watches.same}
use Rattle.wait_model.specs.Words.{entry_of}
use Rattle.wait_model.specs.Fold.{after, begun, view_of}
use Rattle.wait_model.specs.Tasks.{pending, state_mask, task_of}
use Rattle.wait_model.specs.Views.{View, Walk, blank}
use Rattle.wait_model.specs.declared.steps.Step.TheVariants as step
use Rattle.wait_model.proofs.HistoryLaws.HoldLooks.{after_snoc}
use Rattle.wait_rule.specs.{Known.Known, Queues.index, Queues.walk_of_hold, Says.history_of, Says.told_of}
use Rattle.wait_class.specs.{Posts.EndsWith, Posts.own_of, Laws.Calm, Laws.Unmoved}
use Rattle.wait_class.proofs.Histories.{ends_calm, ends_still}
use Rattle.wq_head.specs.{Selects.simple_aim, Walking.IsUnder}
use Rattle.wq_head.proofs.{FullHeads.one_of, SimpleEntries.walk_is_simple}
use Rattle.completion_cell.specs.HeldPermits.{Held, Knows, WaitsIn}
use Rattle.completion_cell.proofs.{AwaitTrails.knows_by, AwaitTrails.still_left, Completing.done_simple}
use Rattle.completion_cell.proofs.{HeldSteps.held_by, WaitFronts.waits_on}
use Rattle.count_sem.specs.{SemPrograms.sem_head, declared.downs.DownCall.DownCall, declared.downs.DownStage.DownStage}
use Rattle.count_sem.specs.Downs.{DownTrail, FoundDownSignal, FoundZero, GaveBack, HasCount, HasFoundZero, HasLeftDown}
use Rattle.count_sem.specs.Downs.{HasWalk, OutFor, SeesOwn, WentOutOfDown, down_head, found_zero, looked_by}
use Rattle.count_sem.specs.declared.downs.DownStage.TheVariants as stage

-- the own entry is the same one
pub own_same : (old new : Known) → new.view.number ≡ old.view.number → own_of new ≡ own_of old
own_same old new number = ap (λ (n : ℕ). index n 0) number

-- more steps behind those of a hold that found 0
zero_more : (old new : Known) (b : Bool) (d x w : ℕ) (es fs : List Step) → Calm fs old new
    → EndsWith old (found_zero b d x w es) → EndsWith new (found_zero b d x w (es ++ fs))
zero_more old new true d x w es fs c u = ends_calm old new (found_zero true d x w es) fs c u
zero_more old new false d x w es fs c u = ends_calm old new (found_zero false d x w es) fs c u

pub zero_on : (old new : Known) (r : DownCall) (es fs : List Step) → Calm fs old new → FoundZero old r es
    → FoundZero new r (es ++ fs)
zero_on old new r es fs c u = record {
  word = u.word;
  ends = subst (λ (x : ℕ). EndsWith new (found_zero r.again r.cell x u.word (es ++ fs)))
      (sym (own_same old new c.number)) (zero_more old new r.again r.cell (own_of old) u.word es fs c u.ends);
  stood = u.stood;
}

signal_on : (old new : Known) (r : DownCall) (es fs : List Step) → Calm fs old new → FoundDownSignal old r es
    → FoundDownSignal new r (es ++ fs)
signal_on old new r es fs c u = record {
  look = u.look;
  pends = u.pends;
  zero = zero_on old new r (step.Look u.look ∷ es) fs c u.zero;
}

pub found_on : (old new : Known) (r : DownCall) (es fs : List Step) → Calm fs old new → HasFoundZero old r es
    → HasFoundZero new r (es ++ fs)
found_on old new r es fs c u = by u.look u.zero
  where
    by : (o : Option ℕ) → FoundZero old r (looked_by o es) → HasFoundZero new r (es ++ fs)
    by None z = record { look = None; zero = zero_on old new r es fs c z }
    by (Some w) z = record { look = Some w; zero = zero_on old new r (step.Look w ∷ es) fs c z }

-- it goes out, by what asks for it
out_on : (b : Bool) (old new : Known) (r : DownCall) (es fs : List Step) → Calm fs old new → OutFor b old r es
    → OutFor b new r (es ++ fs)
out_on true old new r es fs c u = found_on old new r es fs c u
out_on false old new r es fs c u = signal_on old new r es fs c u

out_as : (b : Bool) (k : Known) (r : DownCall) (es fs : List Step) → es ≡ fs → OutFor b k r es → OutFor b k r fs
out_as b k r es fs is u = subst (OutFor b k r) is u

-- a look that showed a signal
pub out_signal : (b : Bool) (k : Known) (r : DownCall) (w : ℕ) → pending (state_mask r.state) (task_of w) ≡ true
    → FoundZero k r (step.Look w ∷ []) → OutFor b k r []
out_signal true k r w is z = record { look = Some w; zero = z }
out_signal false k r w is z = record { look = w; pends = is; zero = z }

-- the own entry was found queued in a hold that it goes out of, and taken off; or found off, and the head given back
module _ (old new : Known) (r : DownCall) (w : ℕ) (u : OutFor r.asked old r []) where
  pub left_taken : Calm (step.Saw (own_of old) w ∷ step.Unqueue (own_of old) ∷ []) old new
      → is_some (entry_of w) ≡ true → HasLeftDown new r
  left_taken c some = record {
    entry = w;
    queued = some;
    why = out_as r.asked new r _ _ (ap (λ (x : ℕ). step.Saw x w ∷ step.Unqueue x ∷ [])
        (sym (own_same old new c.number)))
        (out_on r.asked old new r [] (step.Saw (own_of old) w ∷ step.Unqueue (own_of old) ∷ []) c u);
  }

  pub left_none : Calm (step.Saw (own_of old) w ∷ step.Unlock (sem_head r.cell) false ∷ []) old new
      → is_some (entry_of w) ≡ false → WentOutOfDown new r
  left_none c none = record {
    entry = w;
    why = out_as r.asked new r _ _ (ap (λ (b : Bool). step.Saw (own_of new) w
        ∷ (if b then step.Unqueue (own_of new) ∷ step.Unlock (sem_head r.cell) false ∷ []
        else step.Unlock (sem_head r.cell) false ∷ [])) (sym none))
        (out_as r.asked new r _ _ (ap (λ (x : ℕ). step.Saw x w ∷ step.Unlock (sem_head r.cell) false ∷ [])
        (sym (own_same old new c.number)))
        (out_on r.asked old new r [] (step.Saw (own_of old) w ∷ step.Unlock (sem_head r.cell) false ∷ []) c u));
  }

-- and then the head is given back
pub left_given : (old new : Known) (r : DownCall) → Calm (step.Unlock (sem_head r.cell) false ∷ []) old new
    → HasLeftDown old r → WentOutOfDown new r
left_given old new r c u = record {
  entry = u.entry;
  why = out_as r.asked new r _ _ (ap (λ (b : Bool). step.Saw (own_of new) u.entry
      ∷ (if b then step.Unqueue (own_of new) ∷ step.Unlock (sem_head r.cell) false ∷ []
      else step.Unlock (sem_head r.cell) false ∷ [])) (sym u.queued))
      (out_as r.asked new r _ _ (ap (λ (x : ℕ). step.Saw x u.entry ∷ step.Unqueue x ∷ step.Unlock (sem_head r.cell)
      false ∷ [])
      (sym (own_same old new c.number)))
      (out_on r.asked old new r _ (step.Unlock (sem_head r.cell) false ∷ []) c u.why));
}

pub gave_back : (old new : Known) (r : DownCall) → Calm (step.Unlock (down_head r) false ∷ []) old new → GaveBack new r
gave_back old new r c = (history_of old, c.history)

-- the walk that the lock begins
and_left : (a b : Bool) → (a && b) ≡ true → a ≡ true
and_left true b is = refl
and_left false b is = absurd (cc)

and_right : (a b : Bool) → (a && b) ≡ true → b ≡ true
and_right true b is = is
and_right false b is = absurd (cc)

begun_under : (a : Aim) (v : View) (o : Option Walk) → v.walk ≡ begun o (Some a) → (w : Walk) × IsUnder a v w
begun_under a v None is = (
  record { watch = a.watch; mask = mask_of a.mode; from = 0 },
  record { under = is; watch = λ c. refl; mask = refl },
)
begun_under a v (Some w) is = by (same a.watch w.watch && (w.mask == mask_of a.mode)) refl
  where
    walks : (b : Bool) → (same a.watch w.watch && (w.mask == mask_of a.mode)) ≡ b
        → v.walk ≡ (if b then Some w else Some (record { watch = a.watch; mask = mask_of a.mode; from = 0 }))
    walks b on = is ∙ ap (λ (c : Bool). if c then Some w else Some (record {
      watch = a.watch;
      mask = mask_of a.mode;
      from = 0;
    })) on

    by : (b : Bool) → (same a.watch w.watch && (w.mask == mask_of a.mode)) ≡ b → (u : Walk) × IsUnder a v u
    by true goes_on = (
      w,
      record {
        under = walks true goes_on;
        watch = λ c.
            let one = one_of a.watch w.watch (and_left (same a.watch w.watch) (w.mask == mask_of a.mode) goes_on) in
            sym (one.likes c);
        mask = eqb-true w.mask (mask_of a.mode) (and_right (same a.watch w.watch) (w.mask == mask_of a.mode) goes_on);
      },
    )
    by false anew = (
      record { watch = a.watch; mask = mask_of a.mode; from = 0 },
      record { under = walks false anew; watch = λ c. refl; mask = refl },
    )

told_step : (old new : Known) (e : Step) → history_of new ≡ history_of old ++ e ∷ [] → told_of new ≡ after e
    (told_of old)
told_step old new e is = ap view_of is ∙ after_snoc blank (history_of old) e

pub lock_walk : (old new : Known) (d x : ℕ)
    → Calm (step.Lock (sem_head d) (walk_of_hold (sem_head d) None) x ∷ []) old new → HasWalk new d
lock_walk old new d x c = begun_under (simple_aim (sem_head d)) (told_of new) (told_of old).walk
    (ap (λ (v : View). v.walk) (told_step old new _ c.history)
    ∙ ap (begun (told_of old).walk) (walk_is_simple (sem_head d) (done_simple d)))

-- a step that leaves the walk as it is
pub walk_on : (old new : Known) (d : ℕ) → (told_of new).walk ≡ (told_of old).walk → HasWalk old d → HasWalk new d
walk_on old new d walk u = (
  u.0,
  record { under = walk ∙ u.1.under; watch = u.1.watch; mask = u.1.mask },
)

-- where nothing is made each stage says what it said
module _ (old new : Known) (still : Unmoved old new) where
  number_is : new.view.number ≡ old.view.number
  number_is = still.number

  nothing_made : history_of new ≡ history_of old ++ []
  nothing_made = still.history ∙ sym (append-nil (history_of old))

  told_is : told_of new ≡ told_of old
  told_is = ap view_of still.history

  held_still : (d : ℕ) (o : Option ℕ) (n : ℕ) → Held d old new o n o n
  held_still d o n = held_by d old new [] o o n n nothing_made number_is (refl, refl)

  knows_still : (d n : ℕ) → Knows old d n → Knows new d n
  knows_still d n = knows_by d old new n [] nothing_made number_is (λ k. (refl, refl)) refl

  count_still : (r : DownCall) → HasCount old r → HasCount new r
  count_still r u = record { knows = knows_still r.cell r.count u.knows; some = u.some }

  zero_still : (r : DownCall) (es : List Step) → FoundZero old r es → FoundZero new r es
  zero_still r es u = record {
    word = u.word;
    ends = subst (λ (x : ℕ). EndsWith new (found_zero r.again r.cell x u.word es)) (sym (own_same old new number_is))
        (ends_still old new _ still u.ends);
    stood = u.stood;
  }

  found_still : (r : DownCall) (es : List Step) → HasFoundZero old r es → HasFoundZero new r es
  found_still r es u = record { look = u.look; zero = zero_still r (looked_by u.look es) u.zero }

  out_still : (b : Bool) (r : DownCall) (es : List Step) → OutFor b old r es → OutFor b new r es
  out_still true r es u = found_still r es u
  out_still false r es u = record {
    look = u.look;
    pends = u.pends;
    zero = zero_still r (step.Look u.look ∷ es) u.zero;
  }

  sees_still : SeesOwn old → SeesOwn new
  sees_still u = (
    u.0,
    ap (λ (v : View). v.hold.book (own_of new)) told_is
        ∙ (ap (told_of old).hold.book (own_same old new number_is) ∙ u.1),
  )

  waits_still : (d : ℕ) (o : Option ℕ) (n : ℕ) → WaitsIn d old o n → WaitsIn d new o n
  waits_still d o n u = waits_on d old new o o n n (held_still d o n) u

  pub still_down : (r : DownCall) (s : DownStage) → DownTrail old r s → DownTrail new r s
  still_down r stage.First u = (still_left old new still r.cell u.0, u.1)
  still_down r stage.FirstTurn u = (still_left old new still r.cell u.0, u.1)
  still_down r stage.FirstLoad u = (
    record {
      knows = u.0.knows;
      owes = u.0.owes;
      few = u.0.few;
      waits = waits_still r.cell u.0.knows u.0.owes u.0.waits;
    },
    u.1,
  )
  still_down r stage.AgainLoad u = (
    (u.0.0, u.0.1, ends_still old new _ still u.0.2),
    walk_on old new r.cell (ap (λ (v : View). v.walk) told_is) u.1,
  )
  still_down r stage.Look u = (knows_still r.cell 0 u.0, zero_still r [] u.1)
  still_down r stage.Queue u = (knows_still r.cell 0 u.0, found_still r [] u.1)
  still_down r stage.State u = knows_still r.cell 0 u
  still_down r stage.Unlock u = knows_still r.cell 0 u
  still_down r stage.LeaveQueue u = (knows_still r.cell 0 u.0, out_still r.asked r [] u.1)
  still_down r stage.LeaveUnlock u = (
    knows_still r.cell 0 u.0,
    record {
      entry = u.1.entry;
      queued = u.1.queued;
      why = out_as r.asked new r _ _ (ap (λ (x : ℕ). step.Saw x u.1.entry ∷ step.Unqueue x ∷ [])
          (sym (own_same old new number_is))) (out_still r.asked r _ u.1.why);
    },
  )
  still_down r stage.TakeQueue u = (count_still r u.0, sees_still u.1)
  still_down r stage.TakeStore u = (count_still r u.0, u.1)
  still_down r stage.TakeUnlock u = (u.0, waits_still r.cell u.0 0 u.1)
  still_down r stage.Again u = tt
  still_down r stage.AgainTurn u = tt
  still_down r stage.Sleep u = tt
