-- What a wait's history ends with, after more steps.
use Rattle.std.proofs.Common.{◌∙◌, ap, sym, refl, subst, append_assoc, arith}
use Rattle.std.proofs.lemmas.Bool.Decides.{nat_tests}
use Rattle.std.specs.Prelude.{ℕ, ◌≡◌, Bool, true, false, if◌then◌else◌, is_some, Option, List, [], ◌∷◌, ◌++◌}
use Rattle.wait_model.specs.{declared.steps.Step.Step, declared.watches.Entry.Entry, declared.watches.Watch.Watch}
use Rattle.wait_model.specs.{Watches.misses, Words.entry_of}
use Rattle.wait_model.specs.declared.steps.Step.TheVariants as step
use Rattle.wait_model.specs.declared.watches.Watch.TheVariants as watch
use Rattle.wait_rule.specs.{Known.Known, Queues.index, Says.history_of, Says.told_of}
use Rattle.wait_class.specs.{Posts.EndsWith, Posts.own_of, Laws.Calm, Laws.Unmoved}
use Rattle.wait_class.proofs.Histories.{ends_calm, ends_still, found_still, unmoved_by}
use Rattle.wait_event.specs.{declared.waits.WaitCall.WaitCall, declared.waits.WaitStage.WaitStage}
use Rattle.wait_event.specs.Waits.{GoesOff, IsQueuedIn, IsUnset, LeftQueue, LeftSo, PartedQueue, SawSignal, TakesOwnOff}
use Rattle.wait_event.specs.Waits.{WaitTrailAt, head_of_wait, is_slept, last_load, wait_left_by, off_by}
use Rattle.wait_event.specs.declared.waits.WaitStage.TheVariants as stage

own_same : (old new : Known) → new.view.number ≡ old.view.number → own_of old ≡ own_of new
own_same old new number = ap (λ (n : ℕ). index n 0) (sym number)

-- a load that does not set the watch
pub unset_by : (w : Watch) (v : ℕ) → misses w v ≡ true → IsUnset w v
unset_by (watch.Plain c) v miss = let zero : v ≡ 0 = grind (arith, nat_tests) in zero
unset_by (watch.Var u old) v miss = let same : v ≡ old = grind (arith, nat_tests) in same
unset_by (watch.Done d) v miss = miss
unset_by (watch.Bit i b) v miss = miss

-- the entry stays queued
pub queued_calm : (es : List Step) (old new : Known) → Calm es old new
    → (told : (told_of new).bits.stored (own_of new) ≡ (told_of old).bits.stored (own_of old))
    → is_some ((told_of old).bits.stored (own_of old)) ≡ true
    → is_some ((told_of new).bits.stored (own_of new)) ≡ true
queued_calm es old new calm told queued = ap (λ (o : Option Entry). is_some o) told ∙ queued

pub queued_still : (old new : Known) (σ : ℕ) → Calm [] old new → IsQueuedIn old σ → IsQueuedIn new σ
queued_still old new σ calm q = record {
  queued = queued_calm [] old new calm (calm.stored refl) q.queued;
  state = calm.state refl ∙ q.state;
}

-- the entry is taken off, and the head given back
abbrev pub off_steps : ℕ → ℕ → List Step
off_steps x e = step.Saw x e ∷ step.Unqueue x ∷ []

abbrev pub taken_steps : ℕ → ℕ → ℕ → List Step
taken_steps x w e = step.Look w ∷ off_steps x e

pub parted_taken : (x h e : ℕ) → is_some (entry_of e) ≡ true
    → off_by x h e ++ [] ≡ off_steps x e ++ step.Unlock h false ∷ []
parted_taken x h e is = ap (λ (b : Bool). step.Saw x e ∷ ((if b
    then step.Unqueue x ∷ step.Unlock h false ∷ []
    else step.Unlock h false ∷ []) ++ [])) is

pub parted_off : (x h e : ℕ) → is_some (entry_of e) ≡ false
    → off_by x h e ++ [] ≡ step.Saw x e ∷ step.Unlock h false ∷ []
parted_off x h e is = ap (λ (b : Bool). step.Saw x e ∷ ((if b
    then step.Unqueue x ∷ step.Unlock h false ∷ []
    else step.Unlock h false ∷ []) ++ [])) is

pub left_taken : (x h w e : ℕ) → is_some (entry_of e) ≡ true
    → wait_left_by x h w e ++ [] ≡ taken_steps x w e ++ step.Unlock h false ∷ []
left_taken x h w e is = ap (λ (l : List Step). step.Look w ∷ l) (parted_taken x h e is)

pub left_off : (x h w e : ℕ) → is_some (entry_of e) ≡ false
    → wait_left_by x h w e ++ [] ≡ step.Look w ∷ step.Saw x e ∷ step.Unlock h false ∷ []
left_off x h w e is = ap (λ (l : List Step). step.Look w ∷ l) (parted_off x h e is)

-- a wait that left for a signal
module _ (old new : Known) (r : WaitCall) where
  abbrev h : ℕ
  h = head_of_wait r

  signal_takes : (w : ℕ) → Calm (step.Saw (own_of old) w ∷ step.Unqueue (own_of old) ∷ []) old new
      → is_some (entry_of w) ≡ true → GoesOff false old r → TakesOwnOff false new r
  signal_takes w calm shows u = (
    u.0,
    w,
    u.1,
    shows,
    subst (λ (x : ℕ). EndsWith new (taken_steps x u.0 w)) (own_same old new calm.number)
        (ends_calm old new (step.Look u.0 ∷ []) (step.Saw (own_of old) w ∷ step.Unqueue (own_of old) ∷ []) calm u.2),
  )

  signal_gives : Calm (step.Unlock h false ∷ []) old new → TakesOwnOff false old r → LeftQueue new r true []
  signal_gives calm u = record {
    look = u.0;
    entry = u.1;
    showed = u.2;
    found = sym u.3;
    ends = subst (EndsWith new) (sym (left_taken (own_of new) h u.0 u.1 u.3))
        (subst (λ (x : ℕ). EndsWith new (taken_steps x u.0 u.1 ++ step.Unlock h false ∷ []))
        (own_same old new calm.number)
        (ends_calm old new (taken_steps (own_of old) u.0 u.1) (step.Unlock h false ∷ []) calm u.4));
  }

  signal_off : (w : ℕ) → Calm (step.Saw (own_of old) w ∷ step.Unlock h false ∷ []) old new
      → is_some (entry_of w) ≡ false → GoesOff false old r → LeftQueue new r false []
  signal_off w calm shows u = record {
    look = u.0;
    entry = w;
    showed = u.1;
    found = sym shows;
    ends = subst (EndsWith new) (sym (left_off (own_of new) h u.0 w shows))
        (subst (λ (x : ℕ). EndsWith new (step.Look u.0 ∷ step.Saw x w ∷ step.Unlock h false ∷ []))
        (own_same old new calm.number)
        (ends_calm old new (step.Look u.0 ∷ []) (step.Saw (own_of old) w ∷ step.Unlock h false ∷ []) calm u.2));
  }

  signal_still : (found : Bool) → Unmoved old new → LeftQueue old r found [] → LeftQueue new r found []
  signal_still found still l = record {
    look = l.look;
    entry = l.entry;
    showed = l.showed;
    found = l.found;
    ends = subst (λ (x : ℕ). EndsWith new (wait_left_by x h l.look l.entry ++ [])) (own_same old new still.number)
        (ends_still old new (wait_left_by (own_of old) h l.look l.entry ++ []) still l.ends);
  }

  -- and one that was asked to
  asked_takes : (w : ℕ) → Calm (step.Saw (own_of old) w ∷ step.Unqueue (own_of old) ∷ []) old new
      → is_some (entry_of w) ≡ true → TakesOwnOff true new r
  asked_takes w calm shows = (
    w,
    shows,
    subst (λ (x : ℕ). EndsWith new (off_steps x w)) (own_same old new calm.number) (history_of old, calm.history),
  )

  asked_gives : Calm (step.Unlock h false ∷ []) old new → TakesOwnOff true old r → PartedQueue new r true []
  asked_gives calm u = record {
    entry = u.0;
    found = sym u.1;
    ends = subst (EndsWith new) (sym (parted_taken (own_of new) h u.0 u.1))
        (subst (λ (x : ℕ). EndsWith new (off_steps x u.0 ++ step.Unlock h false ∷ [])) (own_same old new calm.number)
        (ends_calm old new (off_steps (own_of old) u.0) (step.Unlock h false ∷ []) calm u.2));
  }

  asked_off : (w : ℕ) → Calm (step.Saw (own_of old) w ∷ step.Unlock h false ∷ []) old new
      → is_some (entry_of w) ≡ false → PartedQueue new r false []
  asked_off w calm shows = record {
    entry = w;
    found = sym shows;
    ends = subst (EndsWith new) (sym (parted_off (own_of new) h w shows))
        (subst (λ (x : ℕ). EndsWith new (step.Saw x w ∷ step.Unlock h false ∷ [])) (own_same old new calm.number)
        (history_of old, calm.history));
  }

  asked_still : (found : Bool) → Unmoved old new → PartedQueue old r found [] → PartedQueue new r found []
  asked_still found still l = record {
    entry = l.entry;
    found = l.found;
    ends = subst (λ (x : ℕ). EndsWith new (off_by x h l.entry ++ [])) (own_same old new still.number)
        (ends_still old new (off_by (own_of old) h l.entry ++ []) still l.ends);
  }

  -- either
  pub takes_entry : (b : Bool) (w : ℕ) → Calm (step.Saw (own_of old) w ∷ step.Unqueue (own_of old) ∷ []) old new
      → is_some (entry_of w) ≡ true → GoesOff b old r → TakesOwnOff b new r
  takes_entry true w calm shows u = asked_takes w calm shows
  takes_entry false w calm shows u = signal_takes w calm shows u

  pub gives_back : (b : Bool) → Calm (step.Unlock h false ∷ []) old new → TakesOwnOff b old r → LeftSo b new r true []
  gives_back true calm u = asked_gives calm u
  gives_back false calm u = signal_gives calm u

  pub finds_off : (b : Bool) (w : ℕ) → Calm (step.Saw (own_of old) w ∷ step.Unlock h false ∷ []) old new
      → is_some (entry_of w) ≡ false → GoesOff b old r → LeftSo b new r false []
  finds_off true w calm shows u = asked_off w calm shows
  finds_off false w calm shows u = signal_off w calm shows u

  pub left_still : (b found : Bool) → Unmoved old new → LeftSo b old r found [] → LeftSo b new r found []
  left_still true found still l = asked_still found still l
  left_still false found still l = signal_still found still l

  goes_still : (b : Bool) → Unmoved old new → GoesOff b old r → GoesOff b new r
  goes_still true still u = tt
  goes_still false still u = (u.0, u.1, ends_still old new (step.Look u.0 ∷ []) still u.2)

  takes_still : (b : Bool) → Unmoved old new → TakesOwnOff b old r → TakesOwnOff b new r
  takes_still true still u = (
    u.0,
    u.1,
    subst (λ (x : ℕ). EndsWith new (off_steps x u.0)) (own_same old new still.number)
        (ends_still old new (off_steps (own_of old) u.0) still u.2),
  )
  takes_still false still u = (
    u.0,
    u.1,
    u.2,
    u.3,
    subst (λ (x : ℕ). EndsWith new (taken_steps x u.0 u.1)) (own_same old new still.number)
        (ends_still old new (taken_steps (own_of old) u.0 u.1) still u.4),
  )

-- a signal was found by a wait that was asked, or not
pub signal_seen : (b : Bool) (k : Known) (r : WaitCall) (w : ℕ) → SawSignal r w → EndsWith k (step.Look w ∷ [])
    → GoesOff b k r
signal_seen true k r w is ends = tt
signal_seen false k r w is ends = (w, is, ends)

-- the last load of a wait that left its queue
module _ (old new : Known) (r : WaitCall) (v : ℕ) (calm : Calm (step.Load r.watch v ∷ []) old new) where
  abbrev q : WaitCall
  q = record r { seen = v }

  signal_loads : (found : Bool) → LeftQueue old r found [] → LeftQueue new q found (last_load q)
  signal_loads found l = record {
    look = l.look;
    entry = l.entry;
    showed = l.showed;
    found = l.found;
    ends = subst (λ (x : ℕ). EndsWith new (wait_left_by x (head_of_wait r) l.look l.entry ++ last_load q))
        (own_same old new calm.number)
        (subst (EndsWith new) (append_assoc (wait_left_by (own_of old) (head_of_wait r) l.look l.entry) [] (last_load q))
        (ends_calm old new (wait_left_by (own_of old) (head_of_wait r) l.look l.entry ++ []) (last_load q) calm l.ends));
  }

  asked_loads : (found : Bool) → PartedQueue old r found [] → PartedQueue new q found (last_load q)
  asked_loads found l = record {
    entry = l.entry;
    found = l.found;
    ends = subst (λ (x : ℕ). EndsWith new (off_by x (head_of_wait r) l.entry ++ last_load q))
        (own_same old new calm.number)
        (subst (EndsWith new) (append_assoc (off_by (own_of old) (head_of_wait r) l.entry) [] (last_load q))
        (ends_calm old new (off_by (own_of old) (head_of_wait r) l.entry ++ []) (last_load q) calm l.ends));
  }

  pub left_loads : (b found : Bool) → LeftSo b old r found [] → LeftSo b new q found (last_load q)
  left_loads true found l = asked_loads found l
  left_loads false found l = signal_loads found l

-- what stays where nothing was made
pub trail_still : (old new : Known) (r : WaitCall) (s : WaitStage) → Calm [] old new → WaitTrailAt old r s → WaitTrailAt new r s
trail_still old new r stage.PrepareState calm u = queued_calm [] old new calm (calm.stored refl) u
trail_still old new r stage.PrepareUnlock calm u = queued_still old new _ calm u
trail_still old new r stage.Test calm u = queued_still old new _ calm u
trail_still old new r stage.LeaveQueue calm u = goes_still old new r r.asked (unmoved_by old new calm) u
trail_still old new r stage.LeaveUnlock calm u = takes_still old new r r.asked (unmoved_by old new calm) u
trail_still old new r (stage.LeaveLoad found) calm u = left_still old new r r.asked found (unmoved_by old new calm) u
trail_still old new r stage.Worn calm u = found_still old new (head_of_wait r) r.place (unmoved_by old new calm) u
trail_still old new r s calm u = u

pub trail_rises : (old new : Known) (r : WaitCall) (s : WaitStage) → is_slept s ≡ true → Unmoved old new
    → WaitTrailAt old r s → WaitTrailAt new r s
trail_rises old new r stage.PrepareLock slept still u = u
trail_rises old new r s slept still u = absurd (cc)
