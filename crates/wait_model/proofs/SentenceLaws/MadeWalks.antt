-- The program of a walk makes whatever follows its sentence.
use Rattle.std.proofs.Common.{arith, refl, sym, ◌∙◌, subst}
use Rattle.std.specs.Prelude.{ℕ, ◌≤◌, zero, suc, ◌≡◌, ◌==◌, Bool, true, false, not, List, [], ◌∷◌, Some, if◌then◌else◌}
use Rattle.std.specs.Prelude.{◌&&◌}
use Rattle.wait_model.specs.{declared.calls.Call.Call, declared.calls.Event.Event, declared.calls.Answer.Answer}
use Rattle.wait_model.specs.{declared.tasks.TaskRecord.TaskRecord, declared.queues.CalledEntry.CalledEntry}
use Rattle.wait_model.specs.{declared.watches.Watch.Watch, declared.watches.Kind.Kind, declared.points.Seen.Seen}
use Rattle.wait_model.specs.{declared.points.Point.Point, declared.queues.Walking.Walking}
use Rattle.wait_model.specs.{declared.points.WalkPoint.WalkPoint, Tasks.meets, Findings.Noted, Findings.MayFind}
use Rattle.wait_model.specs.{Words.flag, Words.bit_at}
use Rattle.wait_model.specs.Watches.{is_done, number_of, mask_of, misses, is_page, word_of, bit_of}
use Rattle.wait_model.specs.Points.{call_aim, call_watch, call_head, mode_of}
use Rattle.wait_model.specs.Programs.{go, walk_event, past, onward, reached, call_entry, again as next_hold}
use Rattle.wait_model.specs.SentenceWalks.{tallied, walked, wakes_off, hands_over, takes_page, calls_function}
use Rattle.wait_model.specs.SentenceWalks.{WalkTally, Ahead, a_break, the_end, an_entry, comes_to, passes, shares_head}
use Rattle.wait_model.specs.declared.calls.Event.TheVariants as event
use Rattle.wait_model.specs.declared.watches.Watch.TheVariants as watch
use Rattle.wait_model.specs.declared.watches.Kind.TheVariants as kind
use Rattle.wait_model.specs.declared.points.Point.TheVariants as at
use Rattle.wait_model.specs.declared.queues.End.TheVariants as end_as
use Rattle.wait_model.specs.declared.points.WalkPoint.TheVariants as walking
use Rattle.wait_model.specs.Phrases.{Rest, ◌>>◌, makes, gives, when◌then◌otherwise◌, repeats, leaves}
use Rattle.wait_model.proofs.SentenceLaws.SentenceWalks as walks
use Rattle.wait_model.proofs.SentenceLaws.SentenceWalks.{walk_rest, tally}
use Rattle.wait_model.proofs.SentenceLaws.MadeFindings.{sees, fair, shown}
use Rattle.wait_model.proofs.SentenceLaws.MadeEvents.{Leads, rousing}
use Rattle.wait_model.specs.declared.points.PageStage.TheVariants as staging
use Rattle.wait_model.specs.declared.watches.Mode.TheVariants as mode

-- the strangers that a walk passed
passed_back : (c : Watch) (t : WalkTally) (F : WalkTally → Rest) (v : List Event) (a : Answer) → passes c t F v a
    → (calls : ℕ) × (t.calls ≤ calls) × (shares_head c ≡ false → calls ≡ t.calls) × F (record t { calls = calls }) v a
passed_back (watch.Plain c) t F v a h = (t.calls, omega arith, λ z. refl, h)
passed_back (watch.Done d) t F v a h = (t.calls, omega arith, λ z. refl, h)
passed_back (watch.Bit i b) t F v a h = (h.0, h.1.0, λ z. absurd (cc), h.1.1)
passed_back (watch.Var x old) t F v a h = (h.0, h.1.0, λ z. absurd (cc), h.1.1)

module _ (call : Call) (plain : is_done (call_watch call) ≡ false) (R : Noted → Point → Rest)
    (is : (m : Noted) (p : WalkPoint) (w : List Event) (a : Answer) → walk_rest call p w a → R m (at.Walk p) w a) where
  onward_back : (s : Bool) (m : Noted) (n : ℕ) (w : Walking) (v : List Event) (a : Answer)
      → walks.past_rest call s n w v a
      → R m (if s then at.Walk (walking.Spent w) else at.Walk (walking.Call w)) v a
  onward_back true m n w v a h = is m (walking.Spent w) v a h
  onward_back false m n w v a h = is m (walking.Call w) v a (n, h)

  past_back : (s : Bool) (n : ℕ) (w : Walking) (c : CalledEntry) (hit : Bool) (v : List Event) (a : Answer)
      → (when s then
      (do
        makes (event.Unlock (call_head call) true)
        gives (leaves (walked (tallied (tally w) c.exclusive hit) end_as.Spent)))
      otherwise gives (repeats (tallied (tally w) c.exclusive hit))) (walks.over call n) v a
      → walks.past_rest call s n (past w c hit) v a
  past_back true n w c hit v a h = h
  past_back false n w c hit v a h = h

  module _ (m : Noted) where
    wakes_back : (n : ℕ) (w : Walking) (c : CalledEntry) (hit : Bool) (x : Event) (v : List Event) (a : Answer)
        → (x ≡ event.Wake c.who hit) × walks.called_rest call n w c hit v a
        → Leads R m x (go (event.Wake c.who hit) (onward (past w c hit))) v a
    wakes_back n w c hit x v a h = (
      h.0,
      onward_back ((hit && c.exclusive) && (w.left == 1)) _ n (past w c hit) v a
          (past_back ((hit && c.exclusive) && (w.left == 1)) n w c hit v a h.1),
    )

    wakes_off_back : (n : ℕ) (w : Walking) (c : CalledEntry) (hit : Bool) (x : Event) (v : List Event) (a : Answer)
        → (x ≡ event.Wake c.who hit) × (when hit then (do makes (event.Unqueue c.who); gives true) otherwise gives
        false) (walks.called_rest call n w c) v a
        → Leads R m x (go (event.Wake c.who hit)
        (at.Walk (if hit then walking.Unqueue (past w c hit) c.who else walking.Call (past w c hit)))) v a
    wakes_off_back n w c true x [] a h = absurd h.1
    wakes_off_back n w c true x (y ∷ v) a h = (
      h.0,
      is _ (walking.Unqueue (past w c true) c.who) (y ∷ v) a
          (n, (h.1.0, past_back ((true && c.exclusive) && (w.left == 1)) n w c true v a h.1.1)),
    )
    wakes_off_back n w c false x v a h = (h.0, is _ (walking.Call (past w c false)) v a (n, h.1))

    tests_back : (n : ℕ) (w : Walking) (c : CalledEntry) (value : ℕ) (miss : Bool) (v : List Event) (a : Answer)
        → (when not miss then wakes_off c.who otherwise gives false) (walks.called_rest call n w c) v a
        → Leads R m (event.Load (number_of (call_watch call)) value)
        (go (event.Load (number_of (call_watch call)) value)
        (at.Walk (if miss then walking.Call (past w c false) else walking.Bit w c))) v a
    tests_back n w c value true v a h = (refl, is _ (walking.Call (past w c false)) v a (n, h))
    tests_back n w c value false v a h = (refl, is _ (walking.Bit w c) v a (n, h))

    page_back : (n : ℕ) (w : Walking) (c : CalledEntry) (value : ℕ) (miss : Bool) (v : List Event) (a : Answer)
        → (when not miss then takes_page (call_watch call) c.who otherwise gives false)
        (walks.judged_rest call true n w c) v a
        → Leads R m (event.Load (number_of (call_watch call)) value)
        (go (event.Load (number_of (call_watch call)) value)
        (at.Walk (if miss then walking.Stopped w else walking.Page staging.Try w c))) v a
    page_back n w c value true v a h = (refl, is _ (walking.Stopped w) v a h)
    page_back n w c value false v a h = (refl, is _ (walking.Page staging.Try w c) v a (n, h))

    try_back : (n : ℕ) (w : Walking) (c : CalledEntry) (e : Event) (miss : Bool) (x : Event) (v : List Event)
        (a : Answer)
        → (x ≡ e) × (when miss then gives false otherwise hands_over c.who) (walks.judged_rest call true n w c) v a
        → Leads R m x (go e (at.Walk (if miss then walking.Stopped w else walking.Page staging.Hand w c))) v a
    try_back n w c e true x v a h = (h.0, is _ (walking.Stopped w) v a h.1)
    try_back n w c e false x v a h = (h.0, is _ (walking.Page staging.Hand w c) v a (n, h.1))

    function_back : (n : ℕ) (w : Walking) (c : CalledEntry) (k : Kind) (x : Event) (v : List Event) (a : Answer)
        → calls_function (call_watch call) k c.who (walks.judged_rest call (is_page k) n w c) (x ∷ v) a
        → (value : ℕ) × (t : TaskRecord) × ((seen : Seen) → seen.value ≡ value
        → Leads R m x (call_entry (call_aim call) w c k seen (meets (mask_of (mode_of call)) t.state)) v a)
    function_back n w c kind.Default x v a h =
        let (t, q) = rousing (mode_of call) h.0 in (
          0,
          t,
          λ seen e. subst (λ (b : Bool). Leads R m x (go (event.Wake c.who b) (onward (past w c b))) v a) (sym q)
              (wakes_back n w c h.0 x v a h.1),
        )
    function_back n w c kind.Simple x v a h =
        let (t, q) = rousing (mode_of call) h.0 in (
          0,
          t,
          λ seen e. subst (λ (b : Bool). Leads R m x (go (event.Wake c.who b) (onward (past w c b))) v a) (sym q)
              (wakes_back n w c h.0 x v a h.1),
        )
    function_back n w c kind.Autoremove x v a h =
        let (t, q) = rousing (mode_of call) h.0 in (
          0,
          t,
          λ seen e. subst (λ (b : Bool). Leads R m x (go (event.Wake c.who b)
              (at.Walk (if b then walking.Unqueue (past w c b) c.who else walking.Call (past w c b)))) v a) (sym q)
              (wakes_off_back n w c h.0 x v a h.1),
        )
    function_back n w c kind.Var x v a h =
        let (t, q) = rousing (mode_of call) h.0 in (
          0,
          t,
          λ seen e. subst (λ (b : Bool). Leads R m x (go (event.Wake c.who b)
              (at.Walk (if b then walking.Unqueue (past w c b) c.who else walking.Call (past w c b)))) v a) (sym q)
              (wakes_off_back n w c h.0 x v a h.1),
        )
    function_back n w c kind.Woken x v a h = (0, (sees m).own, λ seen e. (h.0, is _ (walking.Wake w c) v a (n, h.1)))
    function_back n w c kind.Bit x v a h = (
      h.0,
      (sees m).own,
      λ seen e. subst (λ (value : ℕ). Leads R m x (go (event.Load (number_of (call_watch call)) value)
          (at.Walk (if misses (call_watch call) value then walking.Call (past w c false) else walking.Bit w c))) v a)
          (sym e)
          (let y = tests_back n w c h.0 (misses (call_watch call) h.0) v a h.1.1 in (h.1.0 ∙ y.0, y.1)),
    )
    function_back n w c kind.Page x v a h = (
      h.0,
      (sees m).own,
      λ seen e. subst (λ (value : ℕ). Leads R m x (go (event.Load (number_of (call_watch call)) value)
          (at.Walk (if misses (call_watch call) value then walking.Stopped w else walking.Page staging.Try w c))) v a)
          (sym e)
          (let y = page_back n w c h.0 (misses (call_watch call) h.0) v a h.1.1 in (h.1.0 ∙ y.0, y.1)),
    )

    abbrev At : WalkPoint → Event → Rest
    At p x v a = (seen : Seen) × MayFind call (at.Walk p) m seen × Leads R m x (walk_event (call_aim call) p seen) v a

    ahead_back : (n : ℕ) (w : Walking) (calls : ℕ) → w.calls ≤ calls
        → (shares_head (call_watch call) ≡ false → calls ≡ w.calls)
        → (next : Ahead) (x : Event) (v : List Event) (a : Answer)
        → comes_to (call_watch call) (record (tally w) { calls = calls }) next (walks.over call n) (x ∷ v) a
        → At (walking.Call w) x v a
    ahead_back n w calls le same a_break x v a h = (
      record (sees m) { breaks = true; calls = calls },
      (fair call m, (le, same, λ z. h.0, λ z. absurd (cc))),
      (h.1.0, is _ (walking.BreakUnlock (reached w calls)) v a (n, h.1.1)),
    )
    ahead_back n w calls le same the_end x v a h = (
      record (sees m) { calls = calls },
      (fair call m, (le, same, λ z. absurd (cc), λ z y. absurd (cc))),
      (h.0, h.1),
    )
    ahead_back n w calls le same (an_entry c) x v a h =
        let (value, t, f) = function_back n (reached w calls) c c.kind x v a h.1 in (
          record (sees m) { calls = calls; called = Some c; other = t; value = value },
          (shown call m value plain, (le, same, λ z. absurd (cc), λ z y. h.0)),
          f (record (sees m) { calls = calls; called = Some c; other = t; value = value }) refl,
        )

    call_back : (n : ℕ) (w : Walking) (x : Event) (v : List Event) (a : Answer) → walks.onward_rest call n w (x ∷ v) a
        → At (walking.Call w) x v a
    call_back zero w x v a h = absurd h
    call_back (suc n) w x v a h =
        let (calls, le, same, y) = passed_back (call_watch call) (tally w) (walks.Ahead_rest call n) (x ∷ v) a h in
        ahead_back n w calls le same y.0 x v a y.1

    pub walk_back : (p : WalkPoint) (x : Event) (v : List Event) (a : Answer) → walk_rest call p (x ∷ v) a → At p x v a
    walk_back walking.Lock x v a h = (sees m, (fair call m, tt), (h.0, is _ (walking.Call _) v a h.1))
    walk_back (walking.Call w) x v a h = call_back h.0 w x v a h.1
    walk_back (walking.Wake w c) x v a h =
        let (t, q) = rousing (mode_of call) h.1.0 in (
          record (sees m) { other = t },
          (fair call m, tt),
          subst (λ (b : Bool). Leads R m x (go (event.Wake c.who b) (onward (past w c b))) v a) (sym q)
              (wakes_back h.0 w c h.1.0 x v a h.1.1),
        )
    walk_back (walking.Bit w c) x v a h =
        let (t, q) = rousing (mode_of call) h.1.0 in (
          record (sees m) { other = t },
          (fair call m, tt),
          subst (λ (b : Bool). Leads R m x (go (event.Wake c.who b)
              (at.Walk (if b then walking.Unqueue (past w c b) c.who else walking.Call (past w c b)))) v a) (sym q)
              (wakes_off_back h.0 w c h.1.0 x v a h.1.1),
        )
    walk_back (walking.Page staging.Try w c) x v a h = (
      record (sees m) { value = h.1.0 },
      (shown call m h.1.0 plain, tt),
      try_back h.0 w c
          (event.TasFor (word_of (call_watch call)) c.who (flag (bit_at h.1.0 (bit_of (call_watch call)))))
          (misses (call_watch call) h.1.0) x v a h.1.1,
    )
    walk_back (walking.Page staging.Hand w c) x v a h =
        (sees m, (fair call m, tt), (h.1.0, is _ (walking.Page staging.Wake w c) v a (h.0, h.1.1)))
    walk_back (walking.Page staging.Wake w c) x v a h =
        let (t, q) = rousing mode.Normal h.1.0 in (
          record (sees m) { other = t },
          (fair call m, tt),
          subst (λ (b : Bool). Leads R m x (go (event.Wake c.who b) (at.Walk (walking.Page staging.Off w c))) v a)
              (sym q) (h.1.1.0, is _ (walking.Page staging.Off w c) v a (h.0, h.1.1.1)),
        )
    walk_back (walking.Page staging.Off w c) x v a h = (
      sees m,
      (fair call m, tt),
      (
        h.1.0,
        onward_back ((true && c.exclusive) && (w.left == 1)) _ h.0 (past w c true) v a
            (past_back ((true && c.exclusive) && (w.left == 1)) h.0 w c true v a h.1.1),
      ),
    )
    walk_back (walking.Stopped w) x v a h = (sees m, (fair call m, tt), (h.0, h.1))
    walk_back (walking.Unqueue w who) x v a h =
        (sees m, (fair call m, tt), (h.1.0, onward_back w.spent _ h.0 w v a h.1.1))
    walk_back (walking.Spent w) x v a h = (sees m, (fair call m, tt), (h.0, h.1))
    walk_back (walking.BreakUnlock w) x v a h =
        (sees m, (fair call m, tt), (h.1.0, is _ (walking.BreakLock w) v a (h.0, h.1.1)))
    walk_back (walking.BreakLock w) x v a h =
        (sees m, (fair call m, tt), (h.1.0, is _ (walking.Unmark (next_hold w)) v a (h.0, h.1.1)))
    walk_back (walking.Unmark w) x v a h = (sees m, (fair call m, tt), (h.1.0, is _ (walking.Call w) v a (h.0, h.1.1)))

  function_empty : (n : ℕ) (w : Walking) (c : CalledEntry) (k : Kind) (a : Answer)
      → calls_function (call_watch call) k c.who (walks.judged_rest call (is_page k) n w c) [] a → ⊥
  function_empty n w c kind.Woken a h = h
  function_empty n w c _ a h = h.1

  ahead_empty : (n : ℕ) (w : Walking) (calls : ℕ) (next : Ahead) (a : Answer)
      → comes_to (call_watch call) (record (tally w) { calls = calls }) next (walks.over call n) [] a → ⊥
  ahead_empty n w calls a_break a h = h.1
  ahead_empty n w calls the_end a h = h
  ahead_empty n w calls (an_entry c) a h = function_empty n (reached w calls) c c.kind a h.1

  call_empty : (n : ℕ) (w : Walking) (a : Answer) → walks.onward_rest call n w [] a → ⊥
  call_empty zero w a h = h
  call_empty (suc n) w a h =
      let (calls, le, same, y) = passed_back (call_watch call) (tally w) (walks.Ahead_rest call n) [] a h in
      ahead_empty n w calls y.0 a y.1

  pub walk_none : (p : WalkPoint) (a : Answer) → walk_rest call p [] a → ⊥
  walk_none walking.Lock a h = h
  walk_none (walking.Call w) a h = call_empty h.0 w a h.1
  walk_none (walking.Wake w c) a h = h.1.1
  walk_none (walking.Bit w c) a h = h.1.1
  walk_none (walking.Page staging.Try w c) a h = h.1.1
  walk_none (walking.Page staging.Wake w c) a h = h.1.1
  walk_none (walking.Stopped w) a h = h
  walk_none (walking.Spent w) a h = h
  walk_none _ a h = h.1
