-- What is left of the sentence of a walk at each point of its program.
use Rattle.std.proofs.Common.{refl, subst}
use Rattle.std.specs.Prelude.{ℕ, zero, suc, ◌≡◌, ◌==◌, ◌≤◌, ◌<◌, Bool, true, false, not, List, Option, Some, None}
use Rattle.std.specs.Prelude.{is_some, if◌then◌else◌, ◌&&◌}
use Rattle.wait_model.specs.{declared.layout.TheConstants.BREAK, declared.calls.Call.Call, declared.calls.Event.Event}
use Rattle.wait_model.specs.{declared.calls.Answer.Answer, declared.queues.CalledEntry.CalledEntry}
use Rattle.wait_model.specs.{declared.queues.Walking.Walking, declared.queues.Mark.Mark, declared.watches.Watch.Watch}
use Rattle.wait_model.specs.{declared.watches.Kind.Kind, declared.points.Planned.Planned, declared.points.Seen.Seen}
use Rattle.wait_model.specs.{declared.points.Point.Point, declared.points.WalkPoint.WalkPoint, Tasks.meets}
use Rattle.wait_model.specs.{SentenceSteps.locks, SentenceSteps.unlocks, Findings.Noted, Findings.MayComeTo, Words.flag}
use Rattle.wait_model.specs.{Words.bit_at, declared.points.PageStage.PageStage}
use Rattle.wait_model.specs.Watches.{number_of, mask_of, misses, is_page, word_of, bit_of}
use Rattle.wait_model.specs.Points.{call_aim, call_watch, call_head, count_of, mode_of}
use Rattle.wait_model.specs.Programs.{go, walk_event, past, onward, reached, resumed, call_next, call_entry}
use Rattle.wait_model.specs.Programs.{again as next_hold}
use Rattle.wait_model.specs.Phrases.{repeats, leaves, after_turn, turns, ends}
use Rattle.wait_model.specs.SentenceWalks.{WalkTally, tallied, walked, wakes_off, hands_over, takes_page, at_stop}
use Rattle.wait_model.specs.SentenceWalks.{calls_function, Ahead, a_break, the_end, an_entry, comes_to, passes}
use Rattle.wait_model.specs.SentenceWalks.{shares_head, walk_turn, walks}
use Rattle.wait_model.specs.declared.calls.Event.TheVariants as event
use Rattle.wait_model.specs.declared.queues.End.TheVariants as end_as
use Rattle.wait_model.specs.declared.watches.Watch.TheVariants as watch
use Rattle.wait_model.specs.declared.watches.Kind.TheVariants as kind
use Rattle.wait_model.specs.declared.points.Point.TheVariants as at
use Rattle.wait_model.specs.declared.points.WalkPoint.TheVariants as walking
use Rattle.wait_model.specs.Phrases.{Rest, Phrase, ◌>>◌, gives, makes, finds, when◌then◌otherwise◌, first_is, Turn}
use Rattle.wait_model.proofs.SentenceLaws.SentenceRests.{Says, Some_turns, first_more}
use Rattle.wait_model.specs.declared.points.PageStage.TheVariants as staging
use Rattle.wait_model.specs.declared.watches.Mode.TheVariants as mode

-- strangers are passed only at a head that is shared
pub passed : (c : Watch) (t : WalkTally) (F : WalkTally → Rest) (calls : ℕ) → t.calls ≤ calls
    → (shares_head c ≡ false → calls ≡ t.calls) → (v : List Event) (a : Answer)
    → F (record t { calls = calls }) v a → passes c t F v a
passed (watch.Plain c) t F calls le same v a h = subst (λ (n : ℕ). F (record t { calls = n }) v a) (same refl) h
passed (watch.Done d) t F calls le same v a h = subst (λ (n : ℕ). F (record t { calls = n }) v a) (same refl) h
passed (watch.Bit w b) t F calls le same v a h = (calls, (le, h))
passed (watch.Var x old) t F calls le same v a h = (calls, (le, h))

-- what a walk has counted
abbrev pub tally : Walking → WalkTally
tally w = record { woken = w.woken; selected = w.selected; left = w.left; holds = w.holds; calls = w.calls }

module _ (call : Call) where
  abbrev pub body : WalkTally → Phrase (Turn WalkTally Answer)
  body = walk_turn (call_watch call)

  abbrev pub over : ℕ → Turn WalkTally Answer → Rest
  over n t = after_turn (turns n body) t ends

  -- what it comes to
  abbrev pub Ahead_rest : ℕ → WalkTally → Rest
  Ahead_rest n t v a = (next : Ahead) × comes_to (call_watch call) t next (over n) v a

  abbrev pub onward_rest : ℕ → Walking → Rest
  onward_rest n w = turns n body (tally w) ends

  abbrev pub spent_rest : Walking → Rest
  spent_rest w = makes (event.Unlock (call_head call) true) (λ _. ends (walked (tally w) end_as.Spent))

  -- after an entry whose function answered
  abbrev pub past_rest : Bool → ℕ → Walking → Rest
  past_rest true n w = spent_rest w
  past_rest false n w = onward_rest n w

  abbrev pub called_rest : ℕ → Walking → CalledEntry → Bool → Rest
  called_rest n w c hit = (when (hit && c.exclusive) && (w.left == 1)
      then
      (do
        makes (event.Unlock (call_head call) true)
        gives (leaves (walked (tallied (tally w) c.exclusive hit) end_as.Spent)))
      otherwise gives (repeats (tallied (tally w) c.exclusive hit))) (over n)

  -- a page that was found set stops the walk
  abbrev pub judged_rest : Bool → ℕ → Walking → CalledEntry → Bool → Rest
  judged_rest paged n w c hit = (when paged && not hit then at_stop (call_watch call) (tally w)
      otherwise when (hit && c.exclusive) && (w.left == 1)
      then
      (do
        makes (event.Unlock (call_head call) true)
        gives (leaves (walked (tallied (tally w) c.exclusive hit) end_as.Spent)))
      otherwise gives (repeats (tallied (tally w) c.exclusive hit))) (over n)

  abbrev pub stopped_rest : Walking → Rest
  stopped_rest w = makes (event.Unlock (call_head call) false) (λ _. ends (walked (tally w) end_as.Stopped))

  abbrev pub page_rest : PageStage → Walking → CalledEntry → ℕ → Rest
  page_rest staging.Try w c n = takes_page (call_watch call) c.who (judged_rest true n w c)
  page_rest staging.Hand w c n = hands_over c.who (judged_rest true n w c)
  page_rest staging.Wake w c n = finds (event.Wake c.who)
      (λ _. makes (event.Unqueue c.who) (λ _. judged_rest true n w c true))
  page_rest staging.Off w c n = makes (event.Unqueue c.who) (λ _. judged_rest true n w c true)

  abbrev pub walk_rest : WalkPoint → Rest
  walk_rest walking.Lock = walks (call_watch call) (count_of call) ends
  walk_rest (walking.Call w) = Some_turns (λ n. onward_rest n w)
  walk_rest (walking.Wake w c) = Some_turns (λ n. finds (event.Wake c.who) (called_rest n w c))
  walk_rest (walking.Bit w c) = Some_turns (λ n. wakes_off c.who (called_rest n w c))
  walk_rest (walking.Page st w c) = Some_turns (page_rest st w c)
  walk_rest (walking.Stopped w) = stopped_rest w
  walk_rest (walking.Unqueue w who) = Some_turns (λ n. makes (event.Unqueue who) (λ _. past_rest w.spent n w))
  walk_rest (walking.Spent w) = spent_rest w
  walk_rest (walking.BreakUnlock w) = Some_turns (λ n. unlocks (call_watch call) (λ _. locks (call_watch call)
      (λ _. makes (event.Unmark (call_head call)) (λ _. onward_rest n (next_hold w)))))
  walk_rest (walking.BreakLock w) = Some_turns (λ n. locks (call_watch call)
      (λ _. makes (event.Unmark (call_head call)) (λ _. onward_rest n (next_hold w))))
  walk_rest (walking.Unmark w) = Some_turns (λ n. makes (event.Unmark (call_head call)) (λ _. onward_rest n w))

  same_past : (s : Bool) (n : ℕ) (w : Walking) (c : CalledEntry) (hit : Bool) (v : List Event) (a : Answer)
      → past_rest s n (past w c hit) v a → (when s
      then
      (do
        makes (event.Unlock (call_head call) true)
        gives (leaves (walked (tallied (tally w) c.exclusive hit) end_as.Spent)))
      otherwise gives (repeats (tallied (tally w) c.exclusive hit))) (over n) v a
  same_past true n w c hit v a h = h
  same_past false n w c hit v a h = h

  module _ (R : Noted → Point → Rest) (m : Noted)
      (is : (n : Noted) (p : WalkPoint) (w : List Event) (a : Answer) → R n (at.Walk p) w a → walk_rest p w a) where
    onward_said : (n : Noted) (s : Bool) (w : Walking) (v : List Event) (a : Answer)
        → R n (if s then at.Walk (walking.Spent w) else at.Walk (walking.Call w)) v a → (k : ℕ) × past_rest s k w v a
    onward_said n true w v a h = (zero, is n (walking.Spent w) v a h)
    onward_said n false w v a h = is n (walking.Call w) v a h

    -- the function of an entry
    abbrev Called_said : Walking → CalledEntry → Phrase Bool → Planned → Type 0
    Called_said w c f x = Says R m x (Some_turns (λ n. f (called_rest n w c)))

    abbrev Judged_said : Bool → Walking → CalledEntry → Phrase Bool → Planned → Type 0
    Judged_said paged w c f x = Says R m x (Some_turns (λ n. f (judged_rest paged n w c)))

    wakes_said : (w : Walking) (c : CalledEntry) (hit : Bool) → Called_said w c (finds (event.Wake c.who))
        (go (event.Wake c.who hit) (onward (past w c hit)))
    wakes_said w c hit v a h =
        let (n, x) = onward_said _ ((hit && c.exclusive) && (w.left == 1)) (past w c hit) v a h in
        (n, (hit, (refl, same_past ((hit && c.exclusive) && (w.left == 1)) n w c hit v a x)))

    wakes_off_said : (w : Walking) (c : CalledEntry) (hit : Bool)
        → Called_said w c (wakes_off c.who) (go (event.Wake c.who hit)
        (at.Walk (if hit then walking.Unqueue (past w c hit) c.who else walking.Call (past w c hit))))
    wakes_off_said w c true v a h =
        let (n, x) = is _ (walking.Unqueue (past w c true) c.who) v a h in (
          n,
          (
            true,
            (
              refl,
              first_more (event.Unqueue c.who)
                  (past_rest ((true && c.exclusive) && (w.left == 1)) n (past w c true)) (called_rest n w c true)
                  (same_past ((true && c.exclusive) && (w.left == 1)) n w c true) v a x,
            ),
          ),
        )
    wakes_off_said w c false v a h =
        let (n, x) = is _ (walking.Call (past w c false)) v a h in (n, (false, (refl, x)))

    tests_said : (w : Walking) (c : CalledEntry) (value : ℕ) (miss : Bool)
        → Says R m (go (event.Load (number_of (call_watch call)) value)
        (at.Walk (if miss then walking.Call (past w c false) else walking.Bit w c)))
        (λ v a. (n : ℕ) × first_is (event.Load (number_of (call_watch call)) value)
        ((when not miss then wakes_off c.who otherwise gives false) (called_rest n w c)) v a)
    tests_said w c value true v a h = let (n, x) = is _ (walking.Call (past w c false)) v a h in (n, (refl, x))
    tests_said w c value false v a h = let (n, x) = is _ (walking.Bit w c) v a h in (n, (refl, x))

    page_said : (w : Walking) (c : CalledEntry) (value : ℕ) (miss : Bool)
        → Says R m (go (event.Load (number_of (call_watch call)) value)
        (at.Walk (if miss then walking.Stopped w else walking.Page staging.Try w c)))
        (λ v a. (n : ℕ) × first_is (event.Load (number_of (call_watch call)) value)
        ((when not miss then takes_page (call_watch call) c.who otherwise gives false) (judged_rest true n w c)) v a)
    page_said w c value true v a h = (zero, (refl, is _ (walking.Stopped w) v a h))
    page_said w c value false v a h = let (n, x) = is _ (walking.Page staging.Try w c) v a h in (n, (refl, x))

    try_said : (w : Walking) (c : CalledEntry) (e : Event) (miss : Bool)
        → Says R m (go e (at.Walk (if miss then walking.Stopped w else walking.Page staging.Hand w c)))
        (λ v a. (n : ℕ) × first_is e
        ((when miss then gives false otherwise hands_over c.who) (judged_rest true n w c)) v a)
    try_said w c e true v a h = (zero, (refl, is _ (walking.Stopped w) v a h))
    try_said w c e false v a h = let (n, x) = is _ (walking.Page staging.Hand w c) v a h in (n, (refl, x))

    function_said : (w : Walking) (c : CalledEntry) (k : Kind) (seen : Seen) (hit : Bool)
        → Judged_said (is_page k) w c (calls_function (call_watch call) k c.who)
        (call_entry (call_aim call) w c k seen hit)
    function_said w c kind.Default seen hit v a h = wakes_said w c hit v a h
    function_said w c kind.Autoremove seen hit v a h = wakes_off_said w c hit v a h
    function_said w c kind.Woken seen hit v a h = let (n, x) = is _ (walking.Wake w c) v a h in (n, (refl, x))
    function_said w c kind.Bit seen hit v a h =
        let (n, x) = tests_said w c seen.value (misses (call_watch call) seen.value) v a h in (n, (seen.value, x))
    function_said w c kind.Var seen hit v a h = wakes_off_said w c hit v a h
    function_said w c kind.Simple seen hit v a h = wakes_said w c hit v a h
    function_said w c kind.Page seen hit v a h =
        let (n, x) = page_said w c seen.value (misses (call_watch call) seen.value) v a h in (n, (seen.value, x))

    next_said : (w : Walking) (calls : ℕ) (o : Option CalledEntry) (seen : Seen) (hit : Bool) → w.calls ≤ calls
        → (shares_head (call_watch call) ≡ false → calls ≡ w.calls)
        → (is_some o ≡ true → calls ≤ BREAK)
        → Says R m (call_next (call_aim call) (reached w calls) o seen hit) (walk_rest (walking.Call w))
    next_said w calls None seen hit le same few v a h = (
      1,
      passed (call_watch call) (tally w) (Ahead_rest 0) calls le same _ a
          (the_end, (refl, h)),
    )
    next_said w calls (Some c) seen hit le same few v a h =
        let (n, x) = function_said (reached w calls) c c.kind seen hit v a h in
        (suc n, passed (call_watch call) (tally w) (Ahead_rest n) calls le same _ a (an_entry c, (few refl, x)))

    break_said : (w : Walking) (b : Bool) (seen : Seen) (hit : Bool) → w.calls ≤ seen.calls
        → (shares_head (call_watch call) ≡ false → seen.calls ≡ w.calls)
        → (b ≡ true → BREAK < seen.calls) → (b ≡ false → is_some seen.called ≡ true → seen.calls ≤ BREAK)
        → Says R m (if b then go (event.Mark (call_head call)) (at.Walk (walking.BreakUnlock (reached w seen.calls)))
        else call_next (call_aim call) (reached w seen.calls) seen.called seen hit) (walk_rest (walking.Call w))
    break_said w true seen hit le same many few v a h =
        let (n, x) = is _ (walking.BreakUnlock (reached w seen.calls)) v a h in (
          suc n,
          passed (call_watch call) (tally w) (Ahead_rest n) seen.calls le same _ a (
            a_break,
            (many refl, (refl, x)),
          ),
        )
    break_said w false seen hit le same many few v a h = next_said w seen.calls seen.called seen hit
        le same (few refl) v a h

    resumed_said : (n : Noted) (w : Walking) (o : Option Mark) (v : List Event) (a : Answer)
        → R n (at.Walk (walking.Call (resumed w o))) v a
        → Some_turns (λ n. onward_rest n w) v a
    resumed_said n w None v a h = is _ (walking.Call w) v a h
    resumed_said n w (Some k) v a h = is _ (walking.Call (resumed w (Some k))) v a h

    pub walk_said : (p : WalkPoint) (seen : Seen) → MayComeTo call (at.Walk p) seen
        → Says R m (walk_event (call_aim call) p seen) (walk_rest p)
    walk_said walking.Lock seen k v a h = (refl, is _ (walking.Call _) v a h)
    walk_said (walking.Call w) seen k v a h =
        break_said w seen.breaks seen (meets (mask_of (mode_of call)) seen.other.state)
        k.0 k.1 k.2 k.3 v a h
    walk_said (walking.Bit w c) seen k v a h =
        wakes_off_said w c (meets (mask_of (mode_of call)) seen.other.state) v a h
    walk_said (walking.Wake w c) seen k v a h = wakes_said w c (meets (mask_of (mode_of call)) seen.other.state) v a h
    walk_said (walking.Page staging.Try w c) seen k v a h =
        let (n, x) = try_said w c
        (event.TasFor (word_of (call_watch call)) c.who (flag (bit_at seen.value (bit_of (call_watch call)))))
        (misses (call_watch call) seen.value) v a h in (n, (seen.value, x))
    walk_said (walking.Page staging.Hand w c) seen k v a h =
        let (n, x) = is _ (walking.Page staging.Wake w c) v a h in (n, (refl, x))
    walk_said (walking.Page staging.Wake w c) seen k v a h =
        let (n, x) = is _ (walking.Page staging.Off w c) v a h in
        (n, (meets (mask_of mode.Normal) seen.other.state, (refl, x)))
    walk_said (walking.Page staging.Off w c) seen k v a h =
        let (n, x) = onward_said _ ((true && c.exclusive) && (w.left == 1)) (past w c true) v a h in
        (n, (refl, same_past ((true && c.exclusive) && (w.left == 1)) n w c true v a x))
    walk_said (walking.Stopped w) seen k v a h = (refl, h)
    walk_said (walking.Unqueue w who) seen k v a h = let (n, x) = onward_said _ w.spent w v a h in (n, (refl, x))
    walk_said (walking.Spent w) seen k v a h = (refl, h)
    walk_said (walking.BreakUnlock w) seen k v a h = let (n, x) = is _ (walking.BreakLock w) v a h in (n, (refl, x))
    walk_said (walking.BreakLock w) seen k v a h = let (n, x) = is _ (walking.Unmark (next_hold w)) v a h in
        (n, (refl, x))
    walk_said (walking.Unmark w) seen k v a h = let (n, x) = resumed_said _ w seen.mark v a h in (n, (refl, x))
