-- The program of each call makes whatever follows its sentence.
use Rattle.std.proofs.Common.{refl, sym, ap, ◌∙◌, subst}
use Rattle.std.specs.Prelude.{ℕ, pos, ◌≡◌, Bool, true, false, List, [], ◌∷◌, Some, if◌then◌else◌}
use Rattle.wait_model.specs.{declared.calls.Call.Call, declared.calls.Event.Event, declared.calls.Answer.Answer}
use Rattle.wait_model.specs.{declared.tasks.TaskRecord.TaskRecord, declared.watches.Kind.Kind}
use Rattle.wait_model.specs.{declared.watches.Mode.Mode, declared.points.Planned.Planned, declared.points.Point.Point}
use Rattle.wait_model.specs.{declared.tasks.SleepState.SleepState, declared.queues.Form.Form, Tasks.meets}
use Rattle.wait_model.specs.{Tasks.raise_mask, Words.bit_at, Words.flag, Points.call_watch, Points.count_of}
use Rattle.wait_model.specs.{Phrases.Rest, Phrases.ends, Sentences.sentence, Sentences.Follows, SentenceWalks.wakes_one}
use Rattle.wait_model.specs.SentenceWalks.{walks}
use Rattle.wait_model.specs.Watches.{head_of, is_done, mask_of}
use Rattle.wait_model.specs.Programs.{program_start, ends_with, kicked}
use Rattle.wait_model.specs.Making.{goes_to, Makes, SentencesAreMade}
use Rattle.wait_model.specs.Findings.{Noted, none_noted, notes}
use Rattle.wait_model.specs.declared.calls.Call.TheVariants as calls
use Rattle.wait_model.specs.declared.calls.Event.TheVariants as event
use Rattle.wait_model.specs.declared.watches.Mode.TheVariants as mode
use Rattle.wait_model.specs.declared.watches.Watch.TheVariants as watch
use Rattle.wait_model.specs.declared.points.Point.TheVariants as at
use Rattle.wait_model.specs.declared.calls.Answer.TheVariants as answer
use Rattle.wait_model.specs.declared.tasks.Taken.TheVariants as taken
use Rattle.wait_model.specs.declared.points.WalkPoint.TheVariants as walking
use Rattle.wait_model.proofs.{SentenceLaws.SentenceWalks.walk_rest, SentenceLaws.StepEnds.valued}
use Rattle.wait_model.proofs.{SentenceLaws.ShortCalls.short_made, SentenceLaws.SentenceWaits.loop_of}
use Rattle.wait_model.proofs.{SentenceLaws.MadeWaits.loop_made, SentenceLaws.MadeAwaits.wait_for_made}
use Rattle.wait_model.proofs.{SentenceLaws.MadeBits.wait_bit_made, SentenceLaws.MadeBits.lock_bit_made}
use Rattle.wait_model.proofs.{SentenceLaws.MadeWalks.walk_back, SentenceLaws.MadeWalks.walk_none}
use Rattle.wait_model.proofs.SentenceLaws.MadePages.{lock_page_made}
use Rattle.wait_model.proofs.SentenceLaws.MadeFindings.{sees, fair, shown, some_entry, sleeping}
use Rattle.wait_model.proofs.SentenceLaws.MadeCounts.{select_made, try_made, is_done_made, reinit_made}
use Rattle.wait_model.proofs.SentenceLaws.MadeEvents.{MakesFirst, all_made, rousing}

-- a wake walk alone
module _ (me c n : ℕ) (i : Mode) where
  abbrev waker : Call
  waker = calls.Wake c i n

  abbrev Walking_left : Noted → Point → Rest
  Walking_left m (at.Walk p) = walk_rest waker p
  Walking_left m _ = λ w a. ⊥

  walking_back : (p : Point) (m : Noted) (x : Event) (w : List Event) (a : Answer) → Walking_left m p (x ∷ w) a
      → MakesFirst me waker Walking_left m p x w a
  walking_back (at.Walk p) m x w a h = walk_back waker refl Walking_left (λ m q v b g. g) m p x w a h
  walking_back p m x w a h = absurd h

  walking_none : (p : Point) (m : Noted) (a : Answer) → Walking_left m p [] a → ⊥
  walking_none (at.Walk p) m a h = walk_none waker refl Walking_left (λ m q v b g. g) p a h
  walking_none p m a h = h

-- a publish, a look for members, and a walk
module _ (me : ℕ) (call : Call) where
  abbrev Publishing : Noted → Point → Rest
  Publishing m at.Publish = sentence 0 call ends
  Publishing m at.Active = wakes_one (call_watch call) ends
  Publishing m (at.Walk p) = walk_rest call p
  Publishing m _ = λ w a. ⊥

  module _ (plain : is_done (call_watch call) ≡ false) (one : count_of call ≡ 1)
      (publishes : (m : Noted) (x : Event) (w : List Event) (a : Answer) → sentence 0 call ends (x ∷ w) a
      → MakesFirst me call Publishing m at.Publish x w a) (begins : (a : Answer) → sentence 0 call ends [] a → ⊥) where
    publishing_back : (p : Point) (m : Noted) (x : Event) (w : List Event) (a : Answer) → Publishing m p (x ∷ w) a
        → MakesFirst me call Publishing m p x w a
    publishing_back at.Publish m x w a h = publishes m x w a h
    publishing_back at.Active m x w a (true, h) = (
      record (sees m) { members = true },
      (fair call m, tt),
      (h.0, subst (λ (n : ℕ). walks (call_watch call) n ends w a) (sym one) h.1),
    )
    publishing_back at.Active m x w a (false, h) = (sees m, (fair call m, tt), (h.0, h.1))
    publishing_back (at.Walk p) m x w a h = walk_back call plain Publishing (λ m q v b g. g) m p x w a h
    publishing_back p m x w a h = absurd h

    publishing_none : (p : Point) (m : Noted) (a : Answer) → Publishing m p [] a → ⊥
    publishing_none at.Publish m a h = begins a h
    publishing_none at.Active m a h = h.1
    publishing_none (at.Walk p) m a h = walk_none call plain Publishing (λ m q v b g. g) p a h
    publishing_none p m a h = h

    publishing_made : (w : List Event) (a : Answer) → sentence 0 call ends w a → Makes me call none_noted at.Publish w a
    publishing_made w a h = all_made me call Publishing publishing_none publishing_back w none_noted at.Publish a h

-- the calls of few events
add_made : (me c : ℕ) (k : Kind) (f : Form) (w : List Event) (a : Answer) → Follows me (calls.Add c k f) w a
    → Makes me (calls.Add c k f) none_noted (program_start (calls.Add c k f)) w a
add_made me c k f [] a h = absurd h
add_made me c k f (x ∷ []) a (q, (true, h)) = absurd h
add_made me c k f (x ∷ []) a (q, (false, h)) = absurd h
add_made me c k f (x ∷ y ∷ w) a (q, (true, h)) =
    let call : Call = calls.Add c k f in
    let m : Noted = notes none_noted x in
    (sees none_noted, (fair call none_noted, tt), q, (record (sees m) { worn = true }, (fair call m, tt), h.0, h.1))
add_made me c k f (x ∷ y ∷ []) a (q, (false, h)) = absurd h.1
add_made me c k f (x ∷ y ∷ z ∷ w) a (q, (false, h)) =
    let call : Call = calls.Add c k f in
    let m : Noted = notes none_noted x in
    let n : Noted = notes m y in (
      sees none_noted,
      (fair call none_noted, tt),
      q,
      (sees m, (fair call m, tt), h.0, (sees n, (fair call n, tt), h.1.0, h.1.1)),
    )

remove_made : (me : ℕ) (w : List Event) (a : Answer) → Follows me calls.Remove w a
    → Makes me calls.Remove none_noted (program_start calls.Remove) w a
unfolding head_of
remove_made me [] a h = absurd h.1
remove_made me (x ∷ []) a h = absurd h.1.1
remove_made me (x ∷ y ∷ []) a h = absurd h.1.1.1
remove_made me (x ∷ y ∷ z ∷ w) a h =
    let m : Noted = notes none_noted x in
    let n : Noted = notes m y in (
      record (sees none_noted) { entry = Some (record some_entry { watch = watch.Plain h.0 }) },
      ((λ z. absurd (cc), λ z. absurd (cc), λ z. absurd (cc)), tt),
      h.1.0,
      (sees m, (fair calls.Remove m, tt), h.1.1.0, (sees n, (fair calls.Remove n, tt), h.1.1.1.0, h.1.1.1.1)),
    )

woken_made : (me : ℕ) (st : SleepState) (w : List Event) (a : Answer) → Follows me (calls.Woken st) w a
    → Makes me (calls.Woken st) none_noted (program_start (calls.Woken st)) w a
woken_made me st [] a h = absurd h
woken_made me st (x ∷ []) a h = absurd h.1.1
woken_made me st (x ∷ y ∷ []) a (q, (true, h)) = absurd h.1
woken_made me st (x ∷ y ∷ z ∷ []) a (q, (true, h)) = absurd h.1.1
woken_made me st (x ∷ y ∷ z ∷ u ∷ w) a (q, (true, h)) =
    let call : Call = calls.Woken st in
    let m : Noted = notes none_noted x in
    let n : Noted = notes m y in
    let o : Noted = notes n z in (
      sees none_noted,
      (fair call none_noted, tt),
      q,
      (
        record (sees m) { flag = true },
        (fair call m, tt),
        h.0,
        (sees n, (fair call n, tt), h.1.0, (sees o, (fair call o, tt), h.1.1.0, h.1.1.1)),
      ),
    )
woken_made me st (x ∷ y ∷ []) a (q, (false, h)) = absurd h.1.1
woken_made me st (x ∷ y ∷ z ∷ []) a (q, (false, h)) = absurd h.1.1.1
woken_made me st (x ∷ y ∷ z ∷ u ∷ []) a (q, (false, h)) = absurd h.1.1.1.1
woken_made me st (x ∷ y ∷ z ∷ u ∷ v ∷ w) a (q, (false, h)) =
    let (t, e) = sleeping h.1.0 in
    let call : Call = calls.Woken st in
    let m : Noted = notes none_noted x in
    let n : Noted = notes m y in
    let o : Noted = notes n z in
    let p : Noted = notes o u in (
      sees none_noted,
      (fair call none_noted, tt),
      q,
      (
        sees m,
        (fair call m, tt),
        h.0,
        (
          record (sees n) { own = t },
          (fair call n, tt),
          h.1.1.0 ∙ ap event.Sleep (sym e),
          (sees o, (fair call o, tt), h.1.1.1.0, (sees p, (fair call p, tt), h.1.1.1.1.0, h.1.1.1.1.1)),
        ),
      ),
    )

raising : (fatal hit : Bool) → (t : TaskRecord) × (meets (raise_mask fatal) t.state ≡ hit)
unfolding meets
raising true true = (record { state = 1; runnable = false; signal = false; fatal = false }, refl)
raising true false = (record { state = 0; runnable = true; signal = false; fatal = false }, refl)
raising false true = (record { state = 1; runnable = false; signal = false; fatal = false }, refl)
raising false false = (record { state = 0; runnable = true; signal = false; fatal = false }, refl)

signal_made : (me u : ℕ) (fatal : Bool) (w : List Event) (a : Answer) → Follows me (calls.Signal u fatal) w a
    → Makes me (calls.Signal u fatal) none_noted (program_start (calls.Signal u fatal)) w a
signal_made me u fatal [] a h = absurd h
signal_made me u fatal (x ∷ []) a h = absurd h.1.1
signal_made me u fatal (x ∷ y ∷ w) a h =
    let (t, e) = raising fatal h.1.0 in
    let m : Noted = notes none_noted x in (
      sees none_noted,
      (fair (calls.Signal u fatal) none_noted, tt),
      h.0,
      (
        record (sees m) { other = t },
        (fair (calls.Signal u fatal) m, tt),
        h.1.1.0 ∙ ap (event.Wake u) (sym e),
        h.1.1.1,
      ),
    )

accept_made : (me : ℕ) (w : List Event) (a : Answer) → Follows me calls.Accept w a
    → Makes me calls.Accept none_noted (program_start calls.Accept) w a
accept_made me [] a h = absurd h.1
accept_made me (x ∷ w) a (taken.Nothing, h) = (sees none_noted, (fair calls.Accept none_noted, tt), h.0, h.1)
accept_made me (x ∷ w) a (taken.Plain, h) = (
  record (sees none_noted) { own = record { state = 0; runnable = true; signal = true; fatal = false } },
  (fair calls.Accept none_noted, tt),
  h.0,
  h.1,
)
accept_made me (x ∷ w) a (taken.Fatal, h) = (
  record (sees none_noted) { own = record { state = 0; runnable = true; signal = true; fatal = true } },
  (fair calls.Accept none_noted, tt),
  h.0,
  h.1,
)

-- an event whose finding is a Bool, and which ends the call
by_found : (me : ℕ) (call : Call) (x : Event) (w : List Event) (a : Answer) (F : Bool → Planned) (b c : Bool) → b ≡ c
    → (x ≡ (F c).event) × goes_to (λ q v d. Makes me call (notes none_noted x) q w d) (F c).next w a
    → (x ≡ (F b).event) × goes_to (λ q v d. Makes me call (notes none_noted x) q w d) (F b).next w a
by_found me call x w a F b c q h = subst (λ (k : Bool). (x ≡ (F k).event)
    × goes_to (λ q v d. Makes me call (notes none_noted x) q w d) (F k).next w a) (sym q) h

kick_made : (me u : ℕ) (w : List Event) (a : Answer) → Follows me (calls.Kick u) w a
    → Makes me (calls.Kick u) none_noted (program_start (calls.Kick u)) w a
kick_made me u [] a h = absurd h.1
kick_made me u (x ∷ w) a (true, h) =
    let (t, e) = rousing mode.Normal true in
    let y = by_found me (calls.Kick u) x w a (kicked u) (meets (mask_of mode.Normal) t.state) true e (h.0, h.1) in
    (record (sees none_noted) { other = t }, (fair (calls.Kick u) none_noted, tt), y.0, y.1)
kick_made me u (x ∷ w) a (false, h) =
    let (t, e) = rousing mode.Normal false in
    let y = by_found me (calls.Kick u) x w a (kicked u) (meets (mask_of mode.Normal) t.state) false e (h.0, h.1) in
    (record (sees none_noted) { other = t }, (fair (calls.Kick u) none_noted, tt), y.0, y.1)

abbrev tested : ℕ → ℕ → Bool → Planned
tested i b was_set = ends_with (event.Tas i b (flag was_set)) (answer.Number (if was_set then pos 0 else pos 1))

bit_made : (me i b : ℕ) (w : List Event) (a : Answer) → Follows me (calls.TryBit i b) w a
    → Makes me (calls.TryBit i b) none_noted (program_start (calls.TryBit i b)) w a
bit_made me i b [] a h = absurd h.1
bit_made me i b (x ∷ w) a (true, h) =
    let (value, e) = valued b true in
    let y = by_found me (calls.TryBit i b) x w a (tested i b) (bit_at value b) true e (h.0, h.1) in
    (record (sees none_noted) { value = value }, (shown (calls.TryBit i b) none_noted value refl, tt), y.0, y.1)
bit_made me i b (x ∷ w) a (false, h) =
    let (value, e) = valued b false in
    let y = by_found me (calls.TryBit i b) x w a (tested i b) (bit_at value b) false e (h.0, h.1) in
    (record (sees none_noted) { value = value }, (shown (calls.TryBit i b) none_noted value refl, tt), y.0, y.1)

pub sentences_are_made : SentencesAreMade
sentences_are_made me (calls.Wait c how) w a h = loop_made me (calls.Wait c how)
    (loop_of refl refl refl refl refl refl refl refl) w none_noted at.First a (tt, h)
sentences_are_made me (calls.SimpleWait c st) w a h = loop_made me (calls.SimpleWait c st)
    (loop_of refl refl refl refl refl refl refl refl) w none_noted at.First a (tt, h)
sentences_are_made me (calls.WaitVar v old st) w a h = loop_made me (calls.WaitVar v old st)
    (loop_of refl refl refl refl refl refl refl refl) w none_noted at.First a (tt, h)
sentences_are_made me (calls.Wake c i n) w a h = all_made me (calls.Wake c i n) (Walking_left me c n i)
    (walking_none me c n i)
    (walking_back me c n i) w none_noted (at.Walk walking.Lock) a h
sentences_are_made me (calls.Add c k f) w a h = add_made me c k f w a h
sentences_are_made me calls.Remove w a h = remove_made me w a h
sentences_are_made me (calls.Woken st) w a h = woken_made me st w a h
sentences_are_made me (calls.Signal u fatal) w a h = signal_made me u fatal w a h
sentences_are_made me calls.Accept w a h = accept_made me w a h
sentences_are_made me (calls.Kick u) w a h = kick_made me u w a h
sentences_are_made me (calls.SimpleWake c b) w a h = select_made me (calls.SimpleWake c b) w a tt h
sentences_are_made me (calls.Complete d) w a h = select_made me (calls.Complete d) w a tt h
sentences_are_made me (calls.CompleteAll d) w a h = select_made me (calls.CompleteAll d) w a tt h
sentences_are_made me (calls.Reinit d) w a h = reinit_made me d w a h
sentences_are_made me (calls.WaitFor d st) w a h = wait_for_made me d st w a h
sentences_are_made me (calls.TryWait d) w a h = try_made me d w a h
sentences_are_made me (calls.IsDone d) w a h = is_done_made me d w a h
sentences_are_made me (calls.TryBit i b) w a h = bit_made me i b w a h
sentences_are_made me (calls.WaitBit i b st) w a h = wait_bit_made me i b st w a h
sentences_are_made me (calls.LockBit i b st) w a h = lock_bit_made me i b st w a h
sentences_are_made me (calls.LockPage i st) w a h = lock_page_made me i st w a h
sentences_are_made me (calls.ClearBit i b) w a h = publishing_made me (calls.ClearBit i b) refl refl
    (λ m x w a h. (sees m, (fair (calls.ClearBit i b) m, tt), (h.0, h.1))) (λ a h. h) w a h
sentences_are_made me (calls.SetVar v y) w a h = publishing_made me (calls.SetVar v y) refl refl
    (λ m x w a h. (sees m, (fair (calls.SetVar v y) m, tt), (h.0, h.1))) (λ a h. h) w a h
sentences_are_made me call w a h = short_made me call refl w a h
