-- What an event that continues a program owes: it is allowed, as are its word steps, and it leads to the
-- program's next place.
use Rattle.std.proofs.lemmas.Bool.{both_ways}
use Rattle.wait_model.specs.{DoneCounts.IsStored, declared.calls.Call.Call, declared.calls.Event.Event}
use Rattle.wait_model.specs.{declared.queues.CalledEntry.CalledEntry, declared.points.Point.Point}
use Rattle.wait_model.specs.{declared.points.Next.Next, declared.points.Planned.Planned}
use Rattle.wait_model.specs.{declared.points.Progress.Progress, declared.points.Given.Given}
use Rattle.wait_model.specs.{declared.watches.Entry.Entry, declared.queues.Mark.Mark, declared.steps.Step.Step}
use Rattle.wait_model.specs.{declared.watches.Watch.Watch, Locations.word_in, Locations.cond_at, Programs.go}
use Rattle.wait_model.specs.{Queues.place_for, Functions.put}
use Rattle.wait_model.specs.declared.layout.TheConstants.{TASKS, FIRST_DONE, FIRST_BIT_WORD, HEADS}
use Rattle.wait_model.specs.Runs.{State, own, entry_for, looks, set_step, event_steps, progress_at, busy_head}
use Rattle.wait_model.specs.Reached.{is_amid_function, stands_between, flagged_by, holds, held_at, HomeAt, is_preparing}
use Rattle.wait_model.specs.Reached.{taken_by, IsTaken, IsFlagged, aimed_by, IsPlaced, IsSoundCall, IsCallSound}
use Rattle.wait_model.specs.Reached.{IsWalkSound, IsFitted, IsSound, Allows, Joins}
use Rattle.wait_model.specs.Views.{Hold, View, Look, look_at}
use Rattle.wait_model.specs.Fold.{after_unlock, after, after_all}
use Rattle.wait_model.specs.Watches.{bare, is_bit, IsThere, is_page}
use Rattle.wait_model.specs.Tables.{next, steps, value_of}
use Rattle.wait_model.specs.Words.{entry_word, entry_of, head_word, Suited}
use Rattle.wait_model.specs.Points.{call_watch, call_number, call_head, form_of, head_at, aim_at, kind_at, given_at}
use Rattle.wait_model.specs.Rows.{AimsAt, MaySpend, Allowed, AllAllowed}
use Rattle.std.proofs.Common.{refl, sym, ◌∙◌, ap, subst, arith}
use Rattle.std.specs.Prelude.{ℕ, ◌≡◌, ◌+◌, ◌<◌, ◌≤◌, Option, Some, None, Bool, true, false, if◌then◌else◌, ◌∷◌, is_some}
use Rattle.wait_model.specs.declared.watches.Watch.TheVariants as watch
use Rattle.wait_model.proofs.{WordLaws.DecodedWords.spent_read, WordLaws.DecodedWords.owner_own}
use Rattle.wait_model.proofs.{StepLaws.UnlockSteps.unlock_hold, Functions.put_same, QueueLaws.LinkedQueues.queued_read}
use Rattle.wait_model.proofs.WordLaws.CondWords.{head_of_bare, head_below, number_below, suits_of, var_shared, set_rest}
use Rattle.wait_model.proofs.WordLaws.CondWords.{set_head, tas_step, clear_step}
use Rattle.wait_model.proofs.HistoryLaws.UnlockedLooks.{peeks_same, peeks_allowed, peeks_hold}
use Rattle.wait_model.proofs.RunLaws.OthersEvents.{placed_same, IsGone, Changes}
use Rattle.wait_model.proofs.HistoryLaws.HoldLooks.{looks_same, looks_allowed, looks_head, looks_book}
use Rattle.wait_model.specs.declared.calls.Event.TheVariants as event
use Rattle.wait_model.specs.declared.points.Point.TheVariants as at
use Rattle.wait_model.specs.declared.points.WalkPoint.TheVariants as walking
use Rattle.wait_model.specs.declared.points.SelectPoint.TheVariants as selecting
use Rattle.wait_model.specs.declared.points.Progress.TheVariants as now
use Rattle.wait_model.specs.declared.steps.Step.TheVariants as step

pub none_there : {A : Type 0} (o : Option A) → is_some o ≡ false → o ≡ None
none_there None h = refl
none_there (Some e) h = absurd (cc)

pub one_there : (o : Option Entry) → is_some o ≡ true → (e : Entry) × (o ≡ Some e)
one_there None h = absurd (cc)
one_there (Some e) h = (e, refl)

-- the events that change no entry and no hold
abbrev pub IsStill : Event → Type 0
IsStill (event.Lock h) = ⊥
IsStill (event.Unlock h used) = ⊥
IsStill (event.Queue h form) = ⊥
IsStill (event.Unqueue who) = ⊥
IsStill (event.Set c v) = ⊥
IsStill (event.Mark h) = ⊥
IsStill (event.Unmark h) = ⊥
IsStill (event.Active h hit) = ⊥
IsStill (event.Tas w b v) = ⊥
IsStill (event.Clear w b) = ⊥
IsStill event.Unflag = ⊥
IsStill _ = Unit {0}

module _ (s : State) (me : ℕ) (g : Given) where
  still_entry : (e : Event) → IsStill e → (steps s.table me (event_steps s me g e)).entry ≡ s.table.entry
  still_entry (event.Lock h) i = absurd i
  still_entry e i = grind arith

  still_head : (e : Event) (v : View) → IsStill e → (after_all v (event_steps s me g e)).hold.head ≡ v.hold.head
  still_head (event.Lock h) v i = absurd i
  still_head (event.Unlock h used) v i = absurd i
  still_head (event.Queue h form) v i = absurd i
  still_head (event.Unqueue who) v i = absurd i
  still_head (event.Set c v) x i = absurd i
  still_head (event.Mark h) v i = absurd i
  still_head (event.Unmark h) v i = absurd i
  still_head (event.Active h hit) v i = absurd i
  still_head e v i = refl

  still_book : (e : Event) (v : View) → IsStill e → (after_all v (event_steps s me g e)).hold.book ≡ v.hold.book
  still_book (event.Lock h) v i = absurd i
  still_book (event.Unlock h used) v i = absurd i
  still_book (event.Queue h form) v i = absurd i
  still_book (event.Unqueue who) v i = absurd i
  still_book (event.Set c v) x i = absurd i
  still_book (event.Active h hit) v i = absurd i
  still_book e v i = refl

  still_changes : (e : Event) → IsStill e → Changes s me e
  still_changes (event.Lock h) i = absurd i
  still_changes e i = grind arith

module _ (s : State) (n me : ℕ) (call : Call) (sound : IsSound s n) (mine : me < TASKS) where
  -- the event is allowed, so are its word steps unless its lock is held, and the task stands where the
  -- program goes
  pub record Fine (g : Given) (p : Planned) : Type 0 where
    pub allows : Allows s me p.event
    pub joins : Joins g p.event
    pub changes : Changes s me p.event
    pub next_call : IsSoundCall (n + 1) (progress_at call p.next)
    pub made : busy_head s p.event ≡ None → AllAllowed s.table me (event_steps s me g p.event)
    pub placed : IsPlaced (steps s.table me (event_steps s me g p.event)).entry
        (after_all (s.table.view me) (event_steps s me g p.event)) me (progress_at call p.next)

  pub read : (x : ℕ) → entry_of (entry_word (s.table.entry x)) ≡ s.table.entry x
  read = queued_read s.table.entry s.table.mark s.queue n sound.linked

  -- a call that goes on at a place outside removals
  pub goes : (p q : Point) → IsCallSound n call p → head_at call q ≡ call_head call → IsWalkSound (n + 1) q
      → IsFitted call q → IsCallSound (n + 1) call q
  goes p q k at w f = record {
    watch = k.watch;
    who = k.who;
    head = subst (λ (h : ℕ). h < HEADS) (sym at) (head_below (call_watch call) k.watch);
    walk = w;
    fitted = f;
  }

  -- from one place to another with no change of entries and of the hold
  pub record Leads (p : Point) (q : Progress) : Type 0 where
    pub same : held_at (now.Open call p) ≡ held_at q
    pub home : HomeAt q (s.table.entry (own me))
    pub calm : is_preparing q ≡ false
    pub taken : stands_between q ≡ false

  pub leads_by : {p : Point} {q : Progress} → held_at (now.Open call p) ≡ held_at q → HomeAt q (s.table.entry (own me))
      → is_preparing q ≡ false → stands_between q ≡ false → Leads p q
  leads_by same home calm taken = record { same = same; home = home; calm = calm; taken = taken }

  nobody : (q : Progress) (entry : ℕ → Option Entry) → stands_between q ≡ false → (who : ℕ)
      → taken_by q ≡ Some who → IsTaken entry who (held_at q)
  nobody (now.Open c (at.Walk (walking.Unqueue w u))) entry none who t = absurd (cc)
  nobody (now.Open c (at.Select (selecting.Off j u))) entry none who t = absurd (cc)
  nobody q entry none who t = absurd (cc)

  unflagged : (q : Progress) (entry : ℕ → Option Entry) → stands_between q ≡ false → (c : CalledEntry)
      → flagged_by q ≡ Some c → IsFlagged entry c (held_at q) (aimed_by q)
  unflagged (now.Open d (at.Walk (walking.Wake w u))) entry none c t = absurd (cc)
  unflagged q entry none c t = absurd (cc)

  module _ (p : Point) (pl : IsPlaced s.table.entry (s.table.view me) me (now.Open call p)) where
    pub inside : holds p ≡ true → (s.table.view me).hold.head ≡ Some (head_at call p)
    inside within = pl.head ∙ ap (λ b. if b then Some (head_at call p) else None) within

    pub outside : holds p ≡ false → (s.table.view me).hold.head ≡ None
    outside out = pl.head ∙ ap (λ b. if b then Some (head_at call p) else None) out

    pub led : (q : Progress) → Leads p q → (v : View) → v.hold.head ≡ (s.table.view me).hold.head
        → IsPlaced s.table.entry v me q
    led q l v same = record {
      head = same ∙ pl.head ∙ l.same;
      home = l.home;
      off_book = λ pr none. absurd (both_ways true (sym pr ∙ l.calm) refl);
      taken = nobody q s.table.entry l.taken;
      flagged = unflagged q s.table.entry l.taken;
    }

    -- an event that changes no entry
    still_placed : (x : Planned) → IsStill x.event → Allows s me x.event → Joins (given_at call p) x.event
        → AllAllowed s.table me (event_steps s me (given_at call p) x.event)
        → IsSoundCall (n + 1) (progress_at call x.next)
        → IsPlaced s.table.entry (after_all (s.table.view me) (event_steps s me (given_at call p) x.event)) me
        (progress_at call x.next)
        → Fine (given_at call p) x
    still_placed x still allows joins made next_call placed = record {
      allows = allows;
      joins = joins;
      changes = still_changes s me (given_at call p) x.event still;
      next_call = next_call;
      made = λ _. made;
      placed = placed_same s.table.entry _ _ me (progress_at call x.next)
          (still_entry s me (given_at call p) x.event still) placed;
    }

    pub still_fine : (x : Planned) → IsStill x.event → Allows s me x.event → Joins (given_at call p) x.event
        → AllAllowed s.table me (event_steps s me (given_at call p) x.event)
        → IsSoundCall (n + 1) (progress_at call x.next) → Leads p (progress_at call x.next)
        → Fine (given_at call p) x
    still_fine x still allows joins made next_call leads = still_placed x still allows joins made next_call
        (led (progress_at call x.next) leads _ (still_head s me (given_at call p) x.event (s.table.view me) still))

    -- a store of the call's condition
    pub store_fine : (v : ℕ) (x : Next) → IsThere (call_watch call) → is_bit (call_watch call) ≡ false
        → (FIRST_DONE ≤ call_number call → call_number call < FIRST_BIT_WORD
        → IsStored v (word_in s.table (cond_at (call_number call))))
        → Allowed s.table me (set_step (call_watch call) v (value_of s.table.words (call_watch call)))
        → IsSoundCall (n + 1) (progress_at call x) → Leads p (progress_at call x)
        → Fine (given_at call p) (record { event = event.Set (call_number call) v; next = x })
    store_fine v x there word counts allowed next_call leads = record {
      allows = number_below (call_watch call) there;
      joins = (refl, there, word);
      changes = counts;
      next_call = next_call;
      made = λ _. (allowed, tt);
      placed = placed_same s.table.entry _ _ me (progress_at call x)
          (set_rest s.table me (call_watch call) v (value_of s.table.words (call_watch call))).entry
          (led (progress_at call x) leads _
          (set_head (call_watch call) v (value_of s.table.words (call_watch call)) (s.table.view me)));
    }

    -- a bit is set, and it is cleared by the task that keeps it
    pub tas_fine : (w b v : ℕ) (x : Next) → call_watch call ≡ watch.Bit w b → IsThere (call_watch call)
        → IsSoundCall (n + 1) (progress_at call x) → Leads p (progress_at call x)
        → Fine (given_at call p) (record { event = event.Tas w b v; next = x })
    tas_fine w b v x is there next_call leads = record {
      allows = subst IsThere is there;
      joins = is;
      changes = tt;
      next_call = next_call;
      made = λ _. (
        subst (λ (c : Watch). Allowed s.table me (step.Consume c 1 (value_of s.table.words c))) (sym is)
            (tas_step s.table me w b sound.low),
        tt,
      );
      placed = led (progress_at call x) leads _ refl;
    }

    pub clear_fine : (w b : ℕ) (x : Next) → call_watch call ≡ watch.Bit w b → IsThere (call_watch call)
        → holds p ≡ false → (s.table.task me).state ≡ 0 → (s.table.view me).bits.keeps (watch.Bit w b) ≡ true
        → IsSoundCall (n + 1) (progress_at call x) → Leads p (progress_at call x)
        → Fine (given_at call p) (record { event = event.Clear w b; next = x })
    clear_fine w b x is there out state keeps next_call leads = record {
      allows = subst IsThere is there;
      joins = is;
      changes = tt;
      next_call = next_call;
      made = λ _. (
        subst (λ (c : Watch). Allowed s.table me (step.Publish c 0 (value_of s.table.words c))) (sym is)
            (clear_step s.table me w b sound.low (outside out) state keeps),
        tt,
      );
      placed = led (progress_at call x) leads _ refl;
    }

    -- the own flag is cleared by a task that has no entry queued for a page
    pub unflag_fine : (x : Next) → ((e : Entry) → s.table.entry (own me) ≡ Some e → is_page e.kind ≡ false)
        → IsSoundCall (n + 1) (progress_at call x) → Leads p (progress_at call x)
        → Fine (given_at call p) (record { event = event.Unflag; next = x })
    unflag_fine x none next_call leads = record {
      allows = tt;
      joins = tt;
      changes = none;
      next_call = next_call;
      made = λ _. ((owner_own me, refl), tt);
      placed = led (progress_at call x) leads _ refl;
    }

    -- a look for members without the lock
    pub active_fine : (h : ℕ) (hit : Bool) (x : Next) → h < HEADS → holds p ≡ false
        → IsSoundCall (n + 1) (progress_at call x) → Leads p (progress_at call x)
        → Fine (given_at call p) (record { event = event.Active h hit; next = x })
    active_fine h hit x exists out next_call leads = record {
      allows = exists;
      joins = tt;
      changes = tt;
      next_call = next_call;
      made = λ _. peeks_allowed s.table me s.table.entry read refl (outside out);
      placed = placed_same s.table.entry _ _ me (progress_at call x) (peeks_same s.table s.table.entry me).entry
          (led (progress_at call x) leads _
          (ap (λ (h : Hold). h.head) (peeks_hold s.table.entry (s.table.view me))));
    }

    -- from one place inside a hold to another, where the hold has looked at the own entry word
    pub record LeadsOn (q : Progress) : Type 0 where
      pub same : held_at (now.Open call p) ≡ held_at q
      pub home : HomeAt q (s.table.entry (own me))
      pub prepared : is_preparing (now.Open call p) ≡ true
      pub taken : stands_between q ≡ false

    pub still_on : (x : Planned) → IsStill x.event → Allows s me x.event → Joins (given_at call p) x.event
        → AllAllowed s.table me (event_steps s me (given_at call p) x.event)
        → IsSoundCall (n + 1) (progress_at call x.next) → LeadsOn (progress_at call x.next)
        → Fine (given_at call p) x
    still_on x still allows joins made next_call l = still_placed x still allows joins made next_call (record {
      head = still_head s me (given_at call p) x.event (s.table.view me) still ∙ pl.head ∙ l.same;
      home = l.home;
      off_book = λ pr none. ap (λ (b : ℕ → Look). b (own me))
          (still_book s me (given_at call p) x.event (s.table.view me) still)
          ∙ pl.off_book l.prepared none;
      taken = nobody (progress_at call x.next) s.table.entry l.taken;
      flagged = unflagged (progress_at call x.next) s.table.entry l.taken;
    })

    -- a lock, and where it leads
    module _ (h : ℕ) (out : holds p ≡ false) where
      abbrev took : Step
      took = step.Lock h (aim_at call p) (head_word (s.table.holder h) (s.table.spent h))

      free : (if s.table.holder h then Some h else None) ≡ None → s.table.holder h ≡ false
      free q = by (s.table.holder h) q
        where
          by : (b : Bool) → (if b then Some h else None) ≡ None → b ≡ false
          by true q = absurd (cc)
          by false q = refl

      lock_steps : AimsAt (aim_at call p) h → busy_head s (event.Lock h) ≡ None
          → AllAllowed s.table me (took ∷ looks s.table.entry)
      lock_steps at busy = (
        (free busy, outside out, spent_read (s.table.holder h) (s.table.spent h), at),
        looks_allowed (next s.table me took) me s.table.entry read refl,
      )

      lock_placed : (q : Point) → holds q ≡ true → head_at call q ≡ h
          → HomeAt (now.Open call q) (s.table.entry (own me)) → is_amid_function q ≡ false
          → IsPlaced (steps (next s.table me took) me (looks s.table.entry)).entry
          (after_all (after took (s.table.view me)) (looks s.table.entry)) me (now.Open call q)
      lock_placed q within at home none = placed_same s.table.entry _ _ me (now.Open call q)
          (looks_same (next s.table me took) s.table.entry me).entry (record {
            head = looks_head s.table.entry (after took (s.table.view me)) ∙ ap (λ i. Some i) (sym at)
                ∙ sym (ap (λ b. if b then Some (head_at call q) else None) within);
            home = home;
            off_book = λ pr off. looks_book s.table.entry (own me) (after took (s.table.view me)) (omega arith) read
                ∙ ap (look_at (Some h)) off;
            taken = nobody (now.Open call q) s.table.entry none;
            flagged = unflagged (now.Open call q) s.table.entry none;
          })

      pub lock_fine : (q : Point) → h < HEADS → AimsAt (aim_at call p) h → holds q ≡ true → head_at call q ≡ h
          → IsCallSound (n + 1) call q → HomeAt (now.Open call q) (s.table.entry (own me))
          → is_amid_function q ≡ false → Fine (given_at call p) (go (event.Lock h) q)
      lock_fine q exists aim within at k home none = record {
        allows = exists;
        joins = tt;
        changes = tt;
        next_call = k;
        made = lock_steps aim;
        placed = lock_placed q within at home none;
      }

    unlocked_head : (spent : Bool)
        → (after_unlock (s.table.view me) (s.table.view me).walk spent).hold.head ≡ None
    unlocked_head spent = ap (λ (h : Hold). h.head) (unlock_hold (s.table.view me) (s.table.view me).walk spent)

    -- an unlock, and where it leads
    pub unlock_fine : (h : ℕ) (spent : Bool) (x : Next) → holds p ≡ true → head_at call p ≡ h → h < HEADS
        → MaySpend (s.table.view me) spent → IsSoundCall (n + 1) (progress_at call x)
        → held_at (progress_at call x) ≡ None → HomeAt (progress_at call x) (s.table.entry (own me))
        → is_preparing (progress_at call x) ≡ false → stands_between (progress_at call x) ≡ false
        → Fine (given_at call p) (record { event = event.Unlock h spent; next = x })
    unlock_fine h spent x within at exists may k held home calm none = record {
      allows = exists;
      joins = tt;
      changes = tt;
      next_call = k;
      made = λ _. ((inside within ∙ ap (λ i. Some i) at, may), tt);
      placed = record {
        head = unlocked_head spent ∙ sym held;
        home = home;
        off_book = λ pr off. absurd (both_ways true (sym pr ∙ calm) refl);
        taken = nobody (progress_at call x) s.table.entry none;
        flagged = unflagged (progress_at call x) s.table.entry none;
      };
    }

    -- the own entry is queued
    entry_at : (q : Point) → ((e : Entry) → e.watch ≡ bare (call_watch call) → e.kind ≡ kind_at call p
        → HomeAt (now.Open call q) (Some e)) → (e : Entry) → e.watch ≡ bare (call_watch call) → e.kind ≡ kind_at call p
        → HomeAt (now.Open call q) (put s.table.entry (own me) (Some e) (own me))
    entry_at q home e w k = subst (HomeAt (now.Open call q)) (sym (put_same s.table.entry (own me) (Some e)))
        (home e w k)

    pub queue_fine : (q : Point) → holds p ≡ true → holds q ≡ true → head_at call p ≡ call_head call
        → head_at call q ≡ call_head call → IsThere (call_watch call) → is_preparing (now.Open call p) ≡ true
        → s.table.entry (own me) ≡ None → Suited (bare (call_watch call)) (kind_at call p)
        → IsCallSound (n + 1) call q
        → ((e : Entry) → e.watch ≡ bare (call_watch call) → e.kind ≡ kind_at call p → HomeAt (now.Open call q) (Some e))
        → is_preparing (now.Open call q) ≡ false → is_amid_function q ≡ false
        → Fine (given_at call p) (go (event.Queue (call_head call) (form_of call)) q)
    queue_fine q within after at goes_at there pr none suited k home calm nobody_taken = record {
      allows = (head_below (call_watch call) there, mine, none);
      joins = (head_of_bare (call_watch call), suited, var_shared call);
      changes = none;
      next_call = k;
      made = λ _. (
        (
          owner_own me,
          omega arith,
          none,
          held ∙ ap (λ k. Some k) (sym (head_of_bare (call_watch call))),
          suits_of (bare (call_watch call)) (kind_at call p) suited,
          pl.off_book pr none,
        ),
        tt,
      );
      placed = record {
        head = held ∙ ap (λ k. Some k) (sym goes_at)
            ∙ sym (ap (λ b. if b then Some (head_at call q) else None) after);
        home = entry_at q home
            (entry_for (given_at call p) (form_of call) (place_for (form_of call) (s.queue (call_head call))))
            refl refl;
        off_book = λ pr2 off. absurd (both_ways true (sym pr2 ∙ calm) refl);
        taken = nobody (now.Open call q) _ nobody_taken;
        flagged = unflagged (now.Open call q) _ nobody_taken;
      };
    }
      where
        held : (s.table.view me).hold.head ≡ Some (call_head call)
        held = inside within ∙ ap (λ i. Some i) at

    -- an entry of the head that the task holds is taken off
    pub unqueue_fine : (q : Point) (who : ℕ) → who < TASKS → IsGone s me who → IsCallSound (n + 1) call q
        → held_at (now.Open call p) ≡ held_at (now.Open call q) → is_preparing (now.Open call q) ≡ false
        → is_amid_function q ≡ false → HomeAt (now.Open call q) (put s.table.entry (own who) None (own me))
        → Fine (given_at call p) (go (event.Unqueue who) q)
    unqueue_fine q who number gone k same calm none home = record {
      allows = number;
      joins = tt;
      changes = gone;
      next_call = k;
      made = λ _. ((gone.it, gone.stands, gone.head), tt);
      placed = record {
        head = pl.head ∙ same;
        home = home;
        off_book = λ pr off. absurd (both_ways true (sym pr ∙ calm) refl);
        taken = nobody (now.Open call q) _ none;
        flagged = unflagged (now.Open call q) _ none;
      };
    }

    -- the own bookmark goes into the queue of the head that the task holds, or comes out of it
    pub mark_fine : (q : Point) (h : ℕ) → holds p ≡ true → head_at call p ≡ h → h < HEADS
        → s.table.mark me ≡ None → IsCallSound (n + 1) call q
        → Leads p (now.Open call q) → Fine (given_at call p) (go (event.Mark h) q)
    mark_fine q h within at exists out k leads = record {
      allows = exists;
      joins = tt;
      changes = out;
      next_call = k;
      made = λ _. (inside within ∙ ap (λ i. Some i) at, tt);
      placed = led (now.Open call q) leads _ refl;
    }

    pub unmark_fine : (q : Point) (h : ℕ) → holds p ≡ true → head_at call p ≡ h → h < HEADS → (k : Mark)
        → s.table.mark me ≡ Some k → k.head ≡ h → IsCallSound (n + 1) call q → Leads p (now.Open call q)
        → Fine (given_at call p) (go (event.Unmark h) q)
    unmark_fine q h within at exists k is same sound_call leads = record {
      allows = exists;
      joins = tt;
      changes = (k, is, same);
      next_call = sound_call;
      made = λ _. ((h, inside within ∙ ap (λ i. Some i) at), tt);
      placed = led (now.Open call q) leads _ refl;
    }
