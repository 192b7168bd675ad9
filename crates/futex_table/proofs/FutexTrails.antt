-- What the history of a wait on a futex ends with, after more steps.
use Rattle.std.proofs.Common.{◌∙◌, ap, sym, refl, subst, append_assoc, inl, inr}
use Rattle.std.specs.Prelude.{ℕ, ◌≡◌, Bool, true, false, if◌then◌else◌, is_some, Option, None, List, [], ◌∷◌, ◌++◌}
use Rattle.wait_model.specs.{declared.steps.Step.Step, declared.watches.Aim.Aim, declared.watches.Entry.Entry}
use Rattle.wait_model.specs.{Functions.put, Histories.Lacks, Views.View, Views.blank, Words.entry_of}
use Rattle.wait_model.specs.Fold.{after, is_off, view_of}
use Rattle.wait_model.specs.declared.steps.Step.TheVariants as step
use Rattle.wait_model.proofs.{Functions.put_same, HistoryLaws.HoldLooks.after_snoc, HistoryLaws.Stretches.lacks_append}
use Rattle.wait_rule.specs.{declared.journal.Item.Item, Items.steps_of, Known.Known, Queues.index, Says.history_of}
use Rattle.wait_rule.specs.{Says.told_of, Transitions.AreLooks, Transitions.OnlyLooks}
use Rattle.wait_class.specs.Posts.{EndsWith, IsOut, own_of}
use Rattle.wait_class.specs.Laws.{Calm, HasJoined, Unmoved, moves_entries}
use Rattle.wait_class.proofs.Histories.{ends_calm, ends_still, stored_history, unmoved_by}
use Rattle.wait_class.proofs.Turns.{looks_history}
use Rattle.wait_rule.proofs.TableSteps.ItemLists.{steps_append}
use Rattle.wq_head.specs.Looks.{Looks}
use Rattle.wait_event.proofs.LookedSteps.{looks_all}
use Rattle.futex_table.specs.FutexTables.{AreSaws, FoundOff, FutexTrail, HasLoadedWord, HasQueuedBy, LeftAtOnce, LeftByValue, LeftForSignal, ShowsSignal, StandsByValue, TakenAtOnce, futex_head, futex_table, futex_word, is_behind_futex_sleep, is_word_load}
use Rattle.futex_table.specs.declared.waits.FutexStage.{FutexStage}
use Rattle.futex_table.specs.declared.waits.FutexStage.TheVariants as stage
use Rattle.futex_table.specs.declared.waits.FutexWait.{FutexWait}

own_same : (old new : Known) → new.view.number ≡ old.view.number → own_of old ≡ own_of new
own_same old new number = ap (λ (n : ℕ). index n 0) (sym number)

-- the last of two steps
pub ends_snoc : (old new : Known) (d e : Step) → history_of new ≡ history_of old ++ d ∷ e ∷ [] → EndsWith new (e ∷ [])
ends_snoc old new d e is = (history_of old ++ d ∷ [], is ∙ sym (append_assoc (history_of old) (d ∷ []) (e ∷ [])))

-- the entry stays off
pub out_calm : (old new : Known) (es : List Step) → Calm es old new → moves_entries es ≡ false → IsOut old → IsOut new
out_calm old new es calm still out = calm.stored still ∙ out

-- what two more steps tell of the own entry
told_two : (old new : Known) (d e : Step) → history_of new ≡ history_of old ++ d ∷ e ∷ []
    → told_of new ≡ after e (after d (told_of old))
told_two old new d e is = ap view_of (is ∙ sym (append_assoc (history_of old) (d ∷ []) (e ∷ [])))
    ∙ (after_snoc blank (history_of old ++ d ∷ []) e ∙ ap (after e) (after_snoc blank (history_of old) d))

-- an entry that was taken off is off
pub taken_out : (old new : Known) (w : ℕ) → Calm (step.Saw (own_of old) w ∷ step.Unqueue (own_of old) ∷ []) old new
    → IsOut new
taken_out old new w calm = subst (λ (x : ℕ). (told_of new).bits.stored x ≡ None) (own_same old new calm.number)
    (ap (λ (v : View). v.bits.stored (own_of old))
    (told_two old new (step.Saw (own_of old) w) (step.Unqueue (own_of old)) calm.history)
    ∙ put_same ((after (step.Saw (own_of old) w) (told_of old)).bits.stored) (own_of old) None)

-- a look leaves an entry off that was off
seen_out : (b : Bool) (stored : ℕ → Option Entry) (x : ℕ) → stored x ≡ None
    → (if b then put stored x None else stored) x ≡ None
seen_out true stored x out = put_same stored x None
seen_out false stored x out = out

pub never_stays : {A : Type 0} (old new : Known) (w σ : ℕ)
    → Calm (step.Saw (own_of old) w ∷ step.State σ ∷ []) old new → IsOut old
    → is_some ((told_of new).bits.stored (own_of new)) ≡ true → A
never_stays old new w σ calm out queued =
    let none : (told_of new).bits.stored (own_of new) ≡ None =
    subst (λ (x : ℕ). (told_of new).bits.stored x ≡ None) (own_same old new calm.number)
    (ap (λ (v : View). v.bits.stored (own_of old))
    (told_two old new (step.Saw (own_of old) w) (step.State σ) calm.history)
    ∙ seen_out (is_off (entry_of w)) ((told_of old).bits.stored) (own_of old) out) in
    let no : false ≡ true = sym (ap (λ (o : Option Entry). is_some o) none) ∙ queued in absurd (cc)

-- the load behind the lock
pub loads : (old new : Known) (f v : ℕ) → Calm (step.Load (futex_word f) v ∷ []) old new
    → ((aim : Option Aim) × (w : ℕ) × EndsWith old (step.Lock (futex_head f) aim w ∷ [])) → HasLoadedWord new f v []
loads old new f v calm u = record {
  aim = u.0;
  word = u.1;
  ends = ends_calm old new (step.Lock (futex_head f) u.0 u.1 ∷ []) (step.Load (futex_word f) v ∷ []) calm u.2;
}

pub loaded_on : (old new : Known) (f v : ℕ) (more es : List Step) → Calm es old new → HasLoadedWord old f v more
    → HasLoadedWord new f v (more ++ es)
loaded_on old new f v more es calm u = record {
  aim = u.aim;
  word = u.word;
  ends = ends_calm old new (step.Lock (futex_head f) u.aim u.word ∷ step.Load (futex_word f) v ∷ more) es calm u.ends;
}

pub loaded_more : (old new : Known) (f v : ℕ) (es : List Step) → Calm es old new → HasLoadedWord old f v []
    → HasLoadedWord new f v es
loaded_more old new f v es calm u = record {
  aim = u.aim;
  word = u.word;
  ends = ends_calm old new (step.Lock (futex_head f) u.aim u.word ∷ step.Load (futex_word f) v ∷ []) es calm u.ends;
}

-- looks in a hold
saws_on : (es fs : List Step) → AreSaws es → AreSaws fs → AreSaws (es ++ fs)
saws_on [] fs one two = two
saws_on (step.Saw x w ∷ es) fs one two = saws_on es fs one two
saws_on (e ∷ es) fs one two = absurd one

saws_of : (xs : List Item) → AreLooks xs → AreSaws (steps_of xs)
saws_of = looks_all AreSaws tt (λ x w es saws. saws)

looked_history : (old new : Known) (l : Looks old new) → history_of new ≡ history_of old ++ steps_of l.items
looked_history old new l = ap history_of l.is ∙ steps_append old.view.items l.items

-- the entry is queued behind the load, and looks
pub joins : (old mid new : Known) (r : FutexWait) → OnlyLooks old mid
    → HasJoined futex_table r stage.Queue mid new → HasLoadedWord old r.futex r.expected [] → HasQueuedBy new r []
joins old mid new r looks x u =
    let q = step.Queue (index mid.view.number 0) x.entry in
    let one = step.Lock (futex_head r.futex) u.aim u.word in
    let two = step.Load (futex_word r.futex) r.expected in
    let a = steps_of looks.items in
    let b = steps_of x.looks.items in
    let is : history_of new ≡ ((history_of old ++ a) ++ b) ++ q ∷ [] =
    stored_history x.seen new q x.is
    ∙ ap (λ (l : List Step). l ++ q ∷ []) (looked_history mid x.seen x.looks
    ∙ ap (λ (l : List Step). l ++ b) (looks_history old mid looks)) in
    let front : ((history_of old ++ a) ++ b) ++ q ∷ [] ≡ history_of old ++ ((a ++ b) ++ q ∷ []) =
    ap (λ (l : List Step). l ++ q ∷ []) (append_assoc (history_of old) a b)
    ∙ append_assoc (history_of old) (a ++ b) (q ∷ []) in
    let whole : history_of old ++ ((a ++ b) ++ q ∷ []) ≡ u.ends.0 ++ one ∷ two ∷ ((a ++ b) ++ q ∷ []) =
    ap (λ (l : List Step). l ++ ((a ++ b) ++ q ∷ [])) u.ends.1
    ∙ append_assoc u.ends.0 (one ∷ two ∷ []) ((a ++ b) ++ q ∷ []) in
    let number : new.view.number ≡ mid.view.number = ap (λ (k : Known). k.view.number) x.is
    ∙ ap (λ (k : Known). k.view.number) x.looks.is in
    record {
      before = u.ends.0;
      aim = u.aim;
      word = u.word;
      looks = a ++ b;
      entry = x.entry;
      saws = saws_on a b (saws_of looks.items looks.looks) (saws_of x.looks.items x.looks.looks);
      watch = x.home.0;
      kind = x.home.1;
      is = is ∙ (front ∙ (whole ∙ ap (λ (i : ℕ). u.ends.0 ++ one ∷ two ∷ ((a ++ b) ++ step.Queue i x.entry ∷ []))
          (own_same mid new number)));
    }

-- more steps behind

pub queued_more : (old new : Known) (r : FutexWait) (more es : List Step) → Calm es old new → HasQueuedBy old r more
    → HasQueuedBy new r (more ++ es)
queued_more old new r more es calm u =
    let one = step.Lock (futex_head r.futex) u.aim u.word in
    let two = step.Load (futex_word r.futex) r.expected in
    let q = step.Queue (own_of old) u.entry in
    record {
      before = u.before;
      aim = u.aim;
      word = u.word;
      looks = u.looks;
      entry = u.entry;
      saws = u.saws;
      watch = u.watch;
      kind = u.kind;
      is = calm.history ∙ (ap (λ (l : List Step). l ++ es) u.is
          ∙ (append_assoc u.before (one ∷ two ∷ (u.looks ++ q ∷ more)) es
          ∙ (ap (λ (l : List Step). u.before ++ one ∷ two ∷ l) (append_assoc u.looks (q ∷ more) es)
          ∙ ap (λ (i : ℕ). u.before ++ one ∷ two ∷ (u.looks ++ step.Queue i u.entry ∷ (more ++ es)))
          (own_same old new calm.number))));
    }

queued_unmoved : (old new : Known) (r : FutexWait) (more : List Step) → Unmoved old new → HasQueuedBy old r more
    → HasQueuedBy new r more
queued_unmoved old new r more still u =
    let one = step.Lock (futex_head r.futex) u.aim u.word in
    let two = step.Load (futex_word r.futex) r.expected in
    record {
      before = u.before;
      aim = u.aim;
      word = u.word;
      looks = u.looks;
      entry = u.entry;
      saws = u.saws;
      watch = u.watch;
      kind = u.kind;
      is = still.history ∙ (u.is
          ∙ ap (λ (i : ℕ). u.before ++ one ∷ two ∷ (u.looks ++ step.Queue i u.entry ∷ more))
          (own_same old new still.number));
    }

-- the entry is taken off after a signal, and the head given back
pub takes_entry : (old new : Known) (r : FutexWait) (w : ℕ)
    → Calm (step.Saw (own_of old) w ∷ step.Unqueue (own_of old) ∷ []) old new → is_some (entry_of w) ≡ true
    → ((v : ℕ) × ShowsSignal r v × EndsWith old (step.Look v ∷ [])) → LeftForSignal new r []
takes_entry old new r w calm shows u = record {
  look = u.0;
  entry = w;
  showed = u.1;
  stood = shows;
  ends = subst (λ (x : ℕ). EndsWith new (step.Look u.0 ∷ step.Saw x w ∷ step.Unqueue x ∷ []))
      (own_same old new calm.number)
      (ends_calm old new (step.Look u.0 ∷ []) (step.Saw (own_of old) w ∷ step.Unqueue (own_of old) ∷ []) calm u.2);
}

pub left_more : (old new : Known) (r : FutexWait) (es : List Step) → Calm es old new → LeftForSignal old r []
    → LeftForSignal new r es
left_more old new r es calm u = record {
  look = u.look;
  entry = u.entry;
  showed = u.showed;
  stood = u.stood;
  ends = subst (λ (x : ℕ). EndsWith new (step.Look u.look ∷ step.Saw x u.entry ∷ step.Unqueue x ∷ es))
      (own_same old new calm.number)
      (ends_calm old new (step.Look u.look ∷ step.Saw (own_of old) u.entry ∷ step.Unqueue (own_of old) ∷ []) es calm
      u.ends);
}

-- the own entry was found off
pub peeked_off : (old new : Known) (f w : ℕ) → Calm (step.Peek (own_of old) w ∷ []) old new
    → is_some (entry_of w) ≡ false → FoundOff new f
peeked_off old new f w calm off = record {
  entry = w;
  off = off;
  ends = inl (
    history_of old,
    calm.history
        ∙ ap (λ (x : ℕ). history_of old ++ step.Peek x w ∷ []) (own_same old new calm.number),
  );
}

pub held_off : (old new : Known) (f w : ℕ) → Calm (step.Saw (own_of old) w ∷ step.Unlock (futex_head f) false ∷ []) old new
    → is_some (entry_of w) ≡ false → FoundOff new f
held_off old new f w calm off = record {
  entry = w;
  off = off;
  ends = inr (
    history_of old,
    calm.history
        ∙ ap (λ (x : ℕ). history_of old ++ step.Saw x w ∷ step.Unlock (futex_head f) false ∷ [])
        (own_same old new calm.number),
  );
}

-- its entry stands since, over more steps that load nothing
pub stands_more : (old new : Known) (r : FutexWait) (es : List Step) → Calm es old new → Lacks is_word_load es
    → StandsByValue old r → StandsByValue new r
stands_more old new r es calm none u = record {
  since = u.since ++ es;
  queued = queued_more old new r u.since es calm u.queued;
  unloaded = lacks_append is_word_load u.since es u.unloaded none;
}

pub stands_from : (old new : Known) (r : FutexWait) (more es : List Step) → Calm es old new
    → Lacks is_word_load (more ++ es) → HasQueuedBy old r more → StandsByValue new r
stands_from old new r more es calm none u = record {
  since = more ++ es;
  queued = queued_more old new r more es calm u;
  unloaded = none;
}

-- a wait that is left takes its entry off, and gives the head back
pub leaves_entry : (old new : Known) (r : FutexWait) (w : ℕ)
    → Calm (step.Saw (own_of old) w ∷ step.Unqueue (own_of old) ∷ []) old new → is_some (entry_of w) ≡ true
    → StandsByValue old r → LeftByValue new r.futex r.expected []
leaves_entry old new r w calm shows u = record {
  since = u.since;
  unloaded = u.unloaded;
  entry = w;
  stood = shows;
  queued = subst (λ (x : ℕ). HasQueuedBy new r (u.since ++ step.Saw x w ∷ step.Unqueue x ∷ []))
      (own_same old new calm.number)
      (queued_more old new r u.since (step.Saw (own_of old) w ∷ step.Unqueue (own_of old) ∷ []) calm u.queued);
}

pub left_by_more : (old new : Known) (r : FutexWait) (more es : List Step) → Calm es old new
    → LeftByValue old r.futex r.expected more → LeftByValue new r.futex r.expected (more ++ es)
left_by_more old new r more es calm u =
    let last = step.Saw (own_of old) u.entry ∷ step.Unqueue (own_of old) ∷ more in
    record {
      since = u.since;
      unloaded = u.unloaded;
      entry = u.entry;
      stood = u.stood;
      queued = subst (λ (x : ℕ). HasQueuedBy new r (u.since ++ step.Saw x u.entry ∷ step.Unqueue x ∷ (more ++ es)))
          (own_same old new calm.number)
          (subst (λ (l : List Step). HasQueuedBy new r l) (append_assoc u.since last es)
          (queued_more old new r (u.since ++ last) es calm u.queued));
    }

-- so does one that has queued none, where it had queued one before
pub takes_at_once : (old new : Known) (f v w : ℕ)
    → Calm (step.Saw (own_of old) w ∷ step.Unqueue (own_of old) ∷ []) old new → is_some (entry_of w) ≡ true
    → HasLoadedWord old f v [] → TakenAtOnce new f v
takes_at_once old new f v w calm shows u = record {
  entry = w;
  stood = shows;
  loaded = subst (λ (x : ℕ). HasLoadedWord new f v (step.Saw x w ∷ step.Unqueue x ∷ [])) (own_same old new calm.number)
      (loaded_on old new f v [] _ calm u);
}

pub taken_more : (old new : Known) (f v : ℕ) → Calm [] old new → TakenAtOnce old f v → TakenAtOnce new f v
taken_more old new f v calm u = record {
  entry = u.entry;
  stood = u.stood;
  loaded = subst (λ (x : ℕ). HasLoadedWord new f v (step.Saw x u.entry ∷ step.Unqueue x ∷ []))
      (own_same old new calm.number)
      (loaded_on old new f v (step.Saw (own_of old) u.entry ∷ step.Unqueue (own_of old) ∷ []) [] calm u.loaded);
}

off_steps : ℕ → ℕ → ℕ → Bool → List Step
off_steps x h e b = step.Saw x e ∷ (if b then step.Unqueue x ∷ step.Unlock h false ∷ [] else step.Unlock h false ∷ [])

pub gives_at_once : (old new : Known) (f v : ℕ) → Calm (step.Unlock (futex_head f) false ∷ []) old new
    → TakenAtOnce old f v → LeftAtOnce new f v
unfolding off_steps
gives_at_once old new f v calm u = record {
  entry = u.entry;
  loaded = subst (λ (b : Bool). HasLoadedWord new f v (off_steps (own_of new) (futex_head f) u.entry b)) (sym u.stood)
      (subst (λ (x : ℕ). HasLoadedWord new f v (off_steps x (futex_head f) u.entry true)) (own_same old new calm.number)
      (loaded_on old new f v (step.Saw (own_of old) u.entry ∷ step.Unqueue (own_of old) ∷ []) _ calm u.loaded));
}

pub off_at_once : (old new : Known) (f v w : ℕ)
    → Calm (step.Saw (own_of old) w ∷ step.Unlock (futex_head f) false ∷ []) old new → is_some (entry_of w) ≡ false
    → HasLoadedWord old f v [] → LeftAtOnce new f v
unfolding off_steps
off_at_once old new f v w calm off u = record {
  entry = w;
  loaded = subst (λ (b : Bool). HasLoadedWord new f v (off_steps (own_of new) (futex_head f) w b)) (sym off)
      (subst (λ (x : ℕ). HasLoadedWord new f v (off_steps x (futex_head f) w false)) (own_same old new calm.number)
      (loaded_on old new f v [] _ calm u));
}

-- what stays where nothing was made
module _ (old new : Known) (r : FutexWait) (calm : Calm [] old new) where
  abbrev still : Unmoved old new
  still = unmoved_by old new calm

  loaded_still : (v : ℕ) → HasLoadedWord old r.futex v [] → HasLoadedWord new r.futex v []
  loaded_still v u = record {
    aim = u.aim;
    word = u.word;
    ends = ends_still old new (step.Lock (futex_head r.futex) u.aim u.word ∷ step.Load (futex_word r.futex) v ∷ []) still
        u.ends;
  }

  out_still : IsOut old → IsOut new
  out_still out = out_calm old new [] calm refl out

  pub futex_still : (s : FutexStage) → FutexTrail old r s → FutexTrail new r s
  futex_still stage.First u = out_still u
  futex_still stage.Turn u = out_still u
  futex_still stage.Load u = (
    out_still u.0,
    (
      u.1.0,
      u.1.1,
      ends_still old new (step.Lock (futex_head r.futex) u.1.0 u.1.1 ∷ []) still u.1.2,
    ),
  )
  futex_still stage.Again u = (loaded_still r.seen u.0, u.1)
  futex_still stage.Queue u = (out_still u.0, loaded_still r.expected u.1)
  futex_still stage.State u = queued_unmoved old new r _ still u
  futex_still stage.Unlock u = queued_unmoved old new r _ still u
  futex_still stage.Sleep u = queued_unmoved old new r _ still u
  futex_still stage.Queued u = record { found = u.found; queued = queued_unmoved old new r _ still u.queued }
  futex_still (stage.Off true) u = (u.0, u.1, ends_still old new (step.Look u.0 ∷ []) still u.2)
  futex_still (stage.OffUnlock true) u = left_more old new r [] calm u
  futex_still (stage.OffUnlock false) u = out_still u
  futex_still stage.OffLock u = stands_more old new r [] calm tt u
  futex_still stage.OffTurn u = stands_more old new r [] calm tt u
  futex_still stage.OffLook u = stands_more old new r [] calm tt u
  futex_still (stage.Off false) u = stands_more old new r [] calm tt u
  futex_still (stage.Leave false) u = (u.0, stands_more old new r [] calm tt u.1)
  futex_still (stage.Leave true) u = (u.0, loaded_still r.expected u.1)
  futex_still (stage.LeaveUnlock false) u = (u.0, left_by_more old new r [] [] calm u.1)
  futex_still (stage.LeaveUnlock true) u = (u.0, taken_more old new r.futex r.expected calm u.1)

pub futex_rises : (old new : Known) (r : FutexWait) (s : FutexStage) → is_behind_futex_sleep s ≡ true → Unmoved old new
    → FutexTrail old r s → FutexTrail new r s
futex_rises old new r stage.Queued slept still u = record {
  found = u.found;
  queued = queued_unmoved old new r _ still u.queued;
}
futex_rises old new r s slept still u = absurd (cc)
