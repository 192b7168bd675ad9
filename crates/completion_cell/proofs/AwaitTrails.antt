-- What the stages of a wait for a completion say of its last steps, and of permits: over one event and the next.
use Rattle.std.proofs.Common.{◌∙◌, ap, sym, refl, subst, arith, append-nil, append_assoc, eq-eqb}
use Rattle.std.specs.Prelude.{ℕ, ◌≡◌, ◌≤◌, if◌then◌else◌, Bool, true, false, is_some, Option, Some, None, List, [], ◌∷◌, ◌++◌}
use Rattle.wait_model.specs.{declared.steps.Step.Step, declared.watches.Aim.Aim, Runs.own, Words.entry_of}
use Rattle.wait_model.specs.Permits.{after_read, dealt, done_head}
use Rattle.wait_model.specs.declared.steps.Step.TheVariants as step
use Rattle.wait_model.specs.declared.watches.Watch.TheVariants as watch
use Rattle.wait_model.proofs.PermitLaws.CountDebts.{read_debt, read_end}
use Rattle.wait_rule.specs.{HandedPermits.OwesNoPermit, HeldValues.count_in, HeldValues.value_from, Known.Known}
use Rattle.wait_rule.specs.{LeftEntries.LeftOff, Queues.index, Says.history_of, Transitions.OnlyLooks}
use Rattle.wait_rule.proofs.{KnownLaws.CalledPermits.order_as, KnownLaws.HandedSteps.order_front}
use Rattle.wait_class.specs.{Posts.EndsWith, Posts.own_of, Laws.Calm, Laws.Unmoved}
use Rattle.wait_class.proofs.Histories.{ends_calm, ends_still}
use Rattle.completion_cell.specs.Awaits.{HasGivenBack, HasJustLocked, HasPared, LeavesBy, LeavesFor, AwaitTrail, WhyStopped, await_head}
use Rattle.completion_cell.specs.HeldPermits.{Deals, HasBegunHold, HasLoadedCount, Held, IsDebtSettled, Knows, WaitsForPermit}
use Rattle.completion_cell.specs.declared.awaits.AwaitCall.{AwaitCall}
use Rattle.completion_cell.specs.declared.awaits.AwaitStage.{AwaitStage}
use Rattle.completion_cell.specs.declared.awaits.AwaitStage.TheVariants as stage
use Rattle.completion_cell.proofs.Ground.{count_after_step, looked_count, value_append}
use Rattle.completion_cell.proofs.HeldSteps.{held_by, held_only}
use Rattle.completion_cell.proofs.HoldTurns.{begins_looking, begins_off, found, found_few}
use Rattle.completion_cell.proofs.WaitFronts.{loaded_on, waits_may_end, waits_on, zero_waits}

-- The count stays known over steps that say nothing of it, and so does what of it is the task's to take.
pub knows_by : (d : ℕ) (old new : Known) (n : ℕ) (es : List Step) → history_of new ≡ history_of old ++ es
    → new.view.number ≡ old.view.number
    → ((k : ℕ) → Deals d (own old.view.number) es (Some n) k (Some n) k)
    → value_from (watch.Done d) (Some n) es ≡ Some n → Knows old d n → Knows new d n
knows_by d old new n es is number deals value u = record {
  counts = (
    ap (count_in d) is ∙ (value_append (watch.Done d) None (history_of old) es
        ∙ (ap (λ (o : Option ℕ). value_from (watch.Done d) o es) u.counts.0 ∙ value)),
    u.counts.1,
  );
  loaded = loaded_on d old new n (λ k. held_by d old new es (Some n) (Some n) k k is number (deals k)) u.loaded;
}

pub knows_looks : (d : ℕ) (old new : Known) (n : ℕ) → OnlyLooks old new → Knows old d n → Knows new d n
knows_looks d old new n l u = record {
  counts = (looked_count d old new l ∙ u.counts.0, u.counts.1);
  loaded = loaded_on d old new n (λ k. held_only d old new (Some n) k l) u.loaded;
}

mine : (k : Known) → own_of k ≡ own k.view.number
mine k = omega arith

-- a look at the own word, a stored state, and a look at the own entry with what comes behind it
module _ (d : ℕ) (old new : Known) (n : ℕ) where
  pub knows_look : (w : ℕ) → Calm (step.Look w ∷ []) old new → Knows old d n → Knows new d n
  knows_look w c = knows_by d old new n (step.Look w ∷ []) c.history c.number (λ k. (tt, (refl, refl))) refl

  pub knows_state : (σ : ℕ) → Calm (step.State σ ∷ []) old new → Knows old d n → Knows new d n
  knows_state σ c = knows_by d old new n (step.State σ ∷ []) c.history c.number (λ k. (tt, (refl, refl))) refl

  pub knows_saw : (x w : ℕ) → Calm (step.Saw x w ∷ []) old new → Knows old d n → Knows new d n
  knows_saw x w c = knows_by d old new n (step.Saw x w ∷ []) c.history c.number (λ k. (tt, (refl, refl))) refl

  pub knows_stayed : (x w σ : ℕ) → Calm (step.Saw x w ∷ step.State σ ∷ []) old new → Knows old d n → Knows new d n
  knows_stayed x w σ c = knows_by d old new n (step.Saw x w ∷ step.State σ ∷ []) c.history c.number
      (λ k. (tt, (tt, (refl, refl)))) refl

  pub knows_off : (w : ℕ) → Calm (step.Saw (own_of old) w ∷ step.Unqueue (own_of old) ∷ []) old new → Knows old d n
      → Knows new d n
  knows_off w c = knows_by d old new n (step.Saw (own_of old) w ∷ step.Unqueue (own_of old) ∷ []) c.history c.number
      (λ k. (tt, (mine old, (refl, refl)))) refl

-- where the count is 0 nothing is owed
pub knows_none : (d : ℕ) (k : Known) → k.at ≡ done_head d → Knows k d 0 → OwesNoPermit k
knows_none d k at u = waits_may_end d k (Some 0) at (zero_waits d k u.loaded)

-- the count is loaded
pub load_settles : (n k : ℕ) → k ≤ 1 → IsDebtSettled n (after_read n k)
load_settles n k few = (
  (let less = read_debt n k in omega (arith, less, few)),
  (λ end. read_end n k end few),
  λ zero. ap (λ (m : ℕ). after_read m k) zero,
)

pub load_loaded : (d : ℕ) (old new : Known) (n : ℕ) → history_of new ≡ history_of old ++ step.Load (watch.Done d) n ∷ []
    → new.view.number ≡ old.view.number → HasBegunHold d old → HasLoadedCount d new n
load_loaded d old new n is number b = record {
  owes = after_read n b.owes;
  settled = load_settles n b.owes b.few;
  waits = waits_on d old new b.knows (Some n) b.owes (after_read n b.owes)
      (held_by d old new (step.Load (watch.Done d) n ∷ []) b.knows (Some n) b.owes (after_read n b.owes) is number (
        tt,
        (
          ap (λ (c : Bool). if c then Some n else b.knows) (eq-eqb d d refl),
          ap (λ (c : Bool). if c then after_read n b.owes else b.owes) (eq-eqb d d refl),
        ),
      )) b.waits;
}

-- How a hold begins: the first one, before which the task has left its own entry off, and a further one, in which it has
-- looked at that.
module _ (d : ℕ) (old new : Known) where
  pub first_begun : (aim : Option Aim) (w : ℕ) → Calm (step.Lock (done_head d) aim w ∷ []) old new → LeftOff d old
      → HasBegunHold d new
  first_begun aim w c left = record {
    knows = None;
    owes = 0;
    few = omega arith;
    waits = λ order.
        let a = old.view.number in
        let lock = step.Lock (done_head d) aim w in
        let front = order_as a new (history_of old ++ lock ∷ []) c.number c.history order in
        subst (λ (i : ℕ). WaitsForPermit d i (history_of new) None 0) (sym c.number)
        (subst (λ (l : List Step). WaitsForPermit d a l None 0) (sym c.history)
        (begins_off d a (history_of old) aim w (left (order_front a (history_of old) (lock ∷ []) front))));
  }

  pub again_begun : (w : ℕ) → history_of new ≡ history_of old ++ step.Saw (own_of old) w ∷ []
      → new.view.number ≡ old.view.number → HasJustLocked old d → HasBegunHold d new
  again_begun w is number u =
      let a = old.view.number in
      let front = u.2.0 in
      let lock = step.Lock (done_head d) u.0 u.1 in
      let more : history_of new ≡ (front ++ lock ∷ []) ++ step.Saw (own a) w ∷ [] =
      is ∙ ((λ i. history_of old ++ step.Saw (mine old i) w ∷ [])
      ∙ ap (λ (l : List Step). l ++ step.Saw (own a) w ∷ []) u.2.1) in
      record {
        knows = None;
        owes = found d a front u.0 u.1 w;
        few = found_few d a front u.0 u.1 w;
        waits = λ order. subst (λ (i : ℕ). WaitsForPermit d i (history_of new) None (found d a front u.0 u.1 w)) (sym number)
            (subst (λ (l : List Step). WaitsForPermit d a l None (found d a front u.0 u.1 w)) (sym more)
            (begins_looking d a front u.0 u.1 w));
      }

-- it goes out for a signal, and what its hold knows then
pub leaves_for : (k : Known) (r : AwaitCall) (more : List Step) → LeavesBy k r more → (b : Bool) → LeavesFor b k r more
leaves_for k r more u true = (
  u.knows,
  (
    u.ends.0 ++ step.Load (watch.Done r.cell) 0 ∷ step.Look u.word ∷ [],
    u.ends.1 ∙ sym (append_assoc u.ends.0 (step.Load (watch.Done r.cell) 0 ∷ step.Look u.word ∷ []) more),
  ),
)
leaves_for k r more u false = u

pub knows_for : (k : Known) (r : AwaitCall) (more : List Step) (b : Bool) → LeavesFor b k r more → Knows k r.cell 0
knows_for k r more true u = u.0
knows_for k r more false u = u.knows

-- where nothing is made each stage says what it said
module _ (old new : Known) (still : Unmoved old new) where
  same_number : new.view.number ≡ old.view.number
  same_number = still.number

  nothing_made : history_of new ≡ history_of old ++ []
  nothing_made = still.history ∙ sym (append-nil (history_of old))

  pub still_left : (d : ℕ) → LeftOff d old → LeftOff d new
  still_left d left order = subst (λ (i : ℕ). (dealt d i (history_of new)).left ≡ false) (sym same_number)
      (subst (λ (l : List Step). (dealt d old.view.number l).left ≡ false) (sym still.history)
      (left (order_as old.view.number new (history_of old) same_number still.history order)))

  still_held : (d : ℕ) (o : Option ℕ) (n : ℕ) → Held d old new o n o n
  still_held d o n = held_by d old new [] o o n n nothing_made same_number (refl, refl)

  still_knows : (d n : ℕ) → Knows old d n → Knows new d n
  still_knows d n = knows_by d old new n [] nothing_made same_number (λ k. (refl, refl)) refl

  still_leaves : (r : AwaitCall) (more : List Step) → LeavesBy old r more → LeavesBy new r more
  still_leaves r more u = record {
    word = u.word;
    pends = u.pends;
    ends = ends_still old new _ still u.ends;
    knows = still_knows r.cell 0 u.knows;
  }

  still_for : (r : AwaitCall) (more : List Step) (b : Bool) → LeavesFor b old r more → LeavesFor b new r more
  still_for r more true u = (still_knows r.cell 0 u.0, ends_still old new _ still u.1)
  still_for r more false u = still_leaves r more u

  pub still_by : (r : AwaitCall) (s : AwaitStage) → AwaitTrail old r s → AwaitTrail new r s
  still_by r stage.First u = still_left r.cell u
  still_by r stage.FirstTurn u = still_left r.cell u
  still_by r stage.FirstLoad u = record {
    knows = u.knows;
    owes = u.owes;
    few = u.few;
    waits = waits_on r.cell old new u.knows u.knows u.owes u.owes (still_held r.cell u.knows u.owes) u.waits;
  }
  still_by r stage.AgainLoad u = (u.0, u.1, ends_still old new _ still u.2)
  still_by r stage.Look u = (still_knows r.cell 0 u.0, ends_still old new _ still u.1)
  still_by r stage.Queue u = still_knows r.cell 0 u
  still_by r stage.State u = still_knows r.cell 0 u
  still_by r stage.Unlock u = still_knows r.cell 0 u
  still_by r stage.LeaveState u = still_for r [] r.asked u
  still_by r stage.LeaveQueue u = still_for r (step.State 0 ∷ []) r.asked u
  still_by r stage.LeaveUnlock u = record {
    entry = u.entry;
    queued = u.queued;
    leaves = subst (λ (n : ℕ). LeavesFor r.asked new r (step.State 0 ∷ step.Saw (index n 0) u.entry
        ∷ step.Unqueue (index n 0) ∷ [])) (sym same_number) (still_for r _ r.asked u.leaves);
  }
  still_by r stage.TakeState u = (still_knows r.cell r.count u.0, u.1)
  still_by r stage.TakeQueue u = (still_knows r.cell r.count u.0, u.1)
  still_by r stage.TakeStore u = (still_knows r.cell r.count u.0, u.1)
  still_by r stage.TakeUnlock u = (
    u.0,
    waits_on r.cell old new u.0 u.0 0 0 (still_held r.cell u.0 0) u.1,
  )
  still_by r stage.Again u = tt
  still_by r stage.AgainTurn u = tt
  still_by r stage.Sleep u = tt

-- how a wait ends
pub gives_back : (old new : Known) (r : AwaitCall) → Calm (step.Unlock (await_head r) false ∷ []) old new
    → HasGivenBack new r
gives_back old new r c = (history_of old, c.history)

-- on the way out, and these steps more
pub leaves_calm : (old new : Known) (r : AwaitCall) (more es : List Step) (b : Bool) → Calm es old new
    → Knows new r.cell 0 → LeavesFor b old r more → LeavesFor b new r (more ++ es)
leaves_calm old new r more es true c knows u = (knows, ends_calm old new more es c u.1)
leaves_calm old new r more es false c knows u = record {
  word = u.word;
  pends = u.pends;
  ends = ends_calm old new (step.Load (watch.Done r.cell) 0 ∷ step.Look u.word ∷ more) es c u.ends;
  knows = knows;
}

-- the own entry was looked at, and taken off where it was queued
module _ (old new : Known) (r : AwaitCall) (w : ℕ) (u : LeavesFor r.asked old r (step.State 0 ∷ [])) where
  known : Knows old r.cell 0
  known = knows_for old r (step.State 0 ∷ []) r.asked u

  left_by_saw : (found : Bool) (more : List Step) → Calm (step.Saw (own_of old) w ∷ more) old new
      → more ≡ (if found then step.Unqueue (own_of old) ∷ [] else []) → is_some (entry_of w) ≡ found
      → Knows new r.cell 0 → HasPared new r found
  left_by_saw found more c is queued knows = record {
    entry = w;
    queued = queued;
    leaves = subst (λ (n : ℕ). LeavesFor r.asked new r (step.State 0 ∷ step.Saw (index n 0) w
        ∷ (if found then step.Unqueue (index n 0) ∷ [] else []))) (sym c.number)
        (subst (λ (l : List Step). LeavesFor r.asked new r (step.State 0 ∷ step.Saw (own_of old) w ∷ l)) is
        (leaves_calm old new r (step.State 0 ∷ []) (step.Saw (own_of old) w ∷ more) r.asked c knows u));
  }

  pub left_off : Calm (step.Saw (own_of old) w ∷ []) old new → is_some (entry_of w) ≡ false → HasPared new r false
  left_off c none = left_by_saw false [] c refl none (knows_saw r.cell old new 0 (own_of old) w c known)

  pub left_queued : Calm (step.Saw (own_of old) w ∷ step.Unqueue (own_of old) ∷ []) old new
      → is_some (entry_of w) ≡ true → HasPared new r true
  left_queued c some = left_by_saw true (step.Unqueue (own_of old) ∷ []) c refl some
      (knows_off r.cell old new 0 w c known)

-- and the head is given back
abbrev out_steps : AwaitCall → ℕ → ℕ → Bool → List Step
out_steps r e x queued = step.State 0 ∷ step.Saw x e
    ∷ (if queued then step.Unqueue x ∷ step.Unlock (await_head r) false ∷ []
    else step.Unlock (await_head r) false ∷ [])

abbrev quit_steps : AwaitCall → ℕ → ℕ → ℕ → Bool → List Step
quit_steps r w e x queued = step.Load (watch.Done r.cell) 0 ∷ step.Look w ∷ step.State 0 ∷ step.Saw x e
    ∷ (if queued then step.Unqueue x ∷ step.Unlock (await_head r) false ∷ []
    else step.Unlock (await_head r) false ∷ [])

module _ (old new : Known) (r : AwaitCall) (c : Calm (step.Unlock (await_head r) false ∷ []) old new) where
  quit_ends : (w e : ℕ) (queued : Bool) → EndsWith old (step.Load (watch.Done r.cell) 0 ∷ step.Look w ∷ step.State 0
      ∷ step.Saw (own_of old) e ∷ (if queued then step.Unqueue (own_of old) ∷ [] else []))
      → EndsWith new (quit_steps r w e (own_of old) queued)
  quit_ends w e true u = ends_calm old new _ (step.Unlock (await_head r) false ∷ []) c u
  quit_ends w e false u = ends_calm old new _ (step.Unlock (await_head r) false ∷ []) c u

  out_ends : (e : ℕ) (queued : Bool) → EndsWith old (step.State 0 ∷ step.Saw (own_of old) e
      ∷ (if queued then step.Unqueue (own_of old) ∷ [] else []))
      → EndsWith new (out_steps r e (own_of old) queued)
  out_ends e true u = ends_calm old new _ (step.Unlock (await_head r) false ∷ []) c u
  out_ends e false u = ends_calm old new _ (step.Unlock (await_head r) false ∷ []) c u

  quit_for : (found : Bool) (e : ℕ) → is_some (entry_of e) ≡ found → (b : Bool)
      → LeavesFor b old r (step.State 0 ∷ step.Saw (own_of old) e
      ∷ (if found then step.Unqueue (own_of old) ∷ [] else [])) → WhyStopped b new r found
  quit_for found e queued true u = record {
    entry = e;
    queued = sym queued;
    zero = count_after_step r.cell old new (step.Unlock (await_head r) false) c.history ∙ u.0.counts.0;
    ends = subst (λ (q : Bool). EndsWith new (out_steps r e (own_of new) q)) (sym queued)
        (subst (λ (n : ℕ). EndsWith new (out_steps r e (index n 0) found)) (sym c.number) (out_ends e found u.1));
  }
  quit_for found e queued false u = record {
    look = u.word;
    entry = e;
    pends = u.pends;
    queued = sym queued;
    ends = subst (λ (b : Bool). EndsWith new (quit_steps r u.word e (own_of new) b)) (sym queued)
        (subst (λ (n : ℕ). EndsWith new (quit_steps r u.word e (index n 0) found)) (sym c.number)
        (quit_ends u.word e found u.ends));
  }

  pub has_quit : (found : Bool) → HasPared old r found → WhyStopped r.asked new r found
  has_quit found u = quit_for found u.entry u.queued r.asked u.leaves
