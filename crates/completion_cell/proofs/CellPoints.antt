-- The points of calls on completions: what of the sentence each point's event says, by what the task finds there.
use Rattle.std.proofs.Common.{refl, sym, ◌∙◌, ap, subst, arith}
use Rattle.std.specs.Prelude.{ℕ, ◌≡◌, ◌≤◌, ◌==◌, Bool, true, false, if◌then◌else◌, is_some, Option, Some, None, List}
use Rattle.wait_model.specs.{declared.layout.TheConstants.ALL_DONE, declared.calls.Answer.Answer}
use Rattle.wait_model.specs.{declared.calls.Call.Call, declared.calls.Event.Event, declared.points.Planned.Planned}
use Rattle.wait_model.specs.{declared.points.Point.Point, declared.points.Seen.Seen}
use Rattle.wait_model.specs.{declared.queues.CalledEntry.CalledEntry, declared.tasks.SleepState.SleepState}
use Rattle.wait_model.specs.{declared.watches.Entry.Entry, Points.call_head, Points.call_watch, Tasks.meets}
use Rattle.wait_model.specs.{Watches.is_done, Watches.mask_of}
use Rattle.wait_model.specs.Findings.{MayComeTo, Noted, is_waiting}
use Rattle.wait_model.specs.Programs.{await_ends, is_at_end, is_enough, program, select_next}
use Rattle.wait_model.specs.declared.calls.Call.TheVariants as calls
use Rattle.wait_model.specs.declared.calls.Event.TheVariants as event
use Rattle.wait_model.specs.declared.points.AwaitPoint.TheVariants as awaiting
use Rattle.wait_model.specs.declared.points.CountPoint.TheVariants as counting
use Rattle.wait_model.specs.declared.points.Point.TheVariants as at
use Rattle.wait_model.specs.declared.points.PreparePoint.TheVariants as preparing
use Rattle.wait_model.specs.declared.points.SelectPoint.TheVariants as selecting
use Rattle.wait_model.specs.declared.watches.Mode.TheVariants as mode
use Rattle.wait_model.proofs.SentenceLaws.SentenceCalls.{rest_of, says}
use Rattle.wait_model.proofs.SentenceLaws.SentenceRests.{Knows, Says}
use Rattle.wait_model.proofs.WaitLaws.OutsideStages.{either}

-- the points of these calls' programs
abbrev pub is_cell_point : Point → Bool
is_cell_point (at.Prepare p) = true
is_cell_point at.Sleep = true
is_cell_point (at.Await p) = true
is_cell_point (at.Select p) = true
is_cell_point (at.Count p) = true
is_cell_point _ = false

-- elsewhere these calls have nothing to say
pub unspoken : (me : ℕ) (call : Call) (m : Noted) (p : Point) → is_done (call_watch call) ≡ true
    → is_cell_point p ≡ false → (w : List Event) (a : Answer) → rest_of me call m p w a
unspoken me call m (at.Prepare p) done is w a = absurd (cc)
unspoken me call m at.Sleep done is w a = absurd (cc)
unspoken me call m (at.Await p) done is w a = absurd (cc)
unspoken me call m (at.Select p) done is w a = absurd (cc)
unspoken me call m (at.Count p) done is w a = absurd (cc)
unspoken me (calls.WaitFor d st) m p done is w a = tt
unspoken me (calls.Complete d) m p done is w a = tt
unspoken me (calls.CompleteAll d) m p done is w a = tt
unspoken me (calls.TryWait d) m p done is w a = tt
unspoken me (calls.IsDone d) m p done is w a = tt
unspoken me (calls.Reinit d) m p done is w a = tt
unspoken me call m p done is w a = absurd (cc)

-- where a program loads the count, where it stores what it made of it, and where it reads the own entry
abbrev pub loads_at : Point → Bool
loads_at (at.Await (awaiting.Load waited)) = true
loads_at (at.Select selecting.Load) = true
loads_at (at.Count counting.Peek) = true
loads_at (at.Count counting.Load) = true
loads_at _ = false

abbrev pub uses_at : Call → Point → Bool
uses_at (calls.WaitFor d st) (at.Await (awaiting.Off false)) = true
uses_at (calls.WaitFor d st) (at.Await (awaiting.Last false)) = true
uses_at (calls.Complete d) (at.Select selecting.Store) = true
uses_at (calls.TryWait d) (at.Count counting.Store) = true
uses_at _ _ = false

abbrev pub reads_entry : Point → Bool
reads_entry (at.Prepare preparing.Queue) = true
reads_entry (at.Await (awaiting.Off stopped)) = true
reads_entry _ = false

-- what a task finds at a point, by what it has made of the call so far
pub record FindsThere (call : Call) (p : Point) (m : Noted) (seen : Seen) : Type 0 where
  pub off : is_waiting call ≡ true → m.queued ≡ false → reads_entry p ≡ true → seen.entry ≡ None
  pub range : loads_at p ≡ true → seen.value ≤ ALL_DONE
  pub count : uses_at call p ≡ true → m.loaded ≡ true → seen.value ≡ m.count
  pub few : m.loaded ≡ true → m.count ≤ ALL_DONE

-- what it may be said to have found where the program reads neither: no entry that the call has not queued, and the
-- count that it has loaded
abbrev entry_as : Noted → Seen → Option Entry
entry_as m seen = if m.queued then seen.entry else None

abbrev count_as : Noted → ℕ
count_as m = if m.loaded then m.count else 0

abbrev as_found : Noted → Seen → Seen
as_found m seen = record seen { entry = entry_as m seen; value = count_as m }

-- where it reads the count; a load of it comes where none is known
abbrev as_loading : Noted → Seen → Seen
as_loading m seen = record seen { entry = entry_as m seen }

abbrev unloaded : Noted → Noted
unloaded m = record m { loaded = false }

entry_off : (m : Noted) (seen : Seen) → m.queued ≡ false → entry_as m seen ≡ None
entry_off m seen q = ap (λ (b : Bool). if b then seen.entry else None) q

entry_same : (m : Noted) (seen : Seen) → (m.queued ≡ false → seen.entry ≡ None) → entry_as m seen ≡ seen.entry
entry_same m seen off = by m.queued refl
  where
    by : (b : Bool) → m.queued ≡ b → (if b then seen.entry else None) ≡ seen.entry
    by true q = refl
    by false q = sym (off q)

count_small : (m : Noted) → (m.loaded ≡ true → m.count ≤ ALL_DONE) → count_as m ≤ ALL_DONE
count_small m few = by m.loaded refl
  where
    by : (b : Bool) → m.loaded ≡ b → (if b then m.count else 0) ≤ ALL_DONE
    by true l = few l
    by false l = omega arith

module _ (me : ℕ) (m : Noted) (seen : Seen) where
  abbrev Spoken : Call → Point → Type 0
  Spoken call p = Says (rest_of me call) m (program me call p seen) (rest_of me call m p)

  -- by something else that the program does not tell from what was found
  by_other : (call : Call) (p : Point) (other : Seen) → program me call p other ≡ program me call p seen
      → Knows call p m other → Spoken call p
  by_other call p other same k =
      subst (λ (x : Planned). Says (rest_of me call) m x (rest_of me call m p)) same (says me m call p other k)

  module _ (call : Call) (p : Point) (f : FindsThere call p m seen) where
    -- where it reads no count
    knows_unread : MayComeTo call p (as_found m seen) → Knows call p m (as_found m seen)
    knows_unread come = record {
      off = λ w q. entry_off m seen q;
      range = λ d. count_small m f.few;
      count = λ d l h. ap (λ (b : Bool). if b then m.count else 0) l;
      walk = come;
    }

    -- where it loads the count, of which nothing is known yet
    knows_load : loads_at p ≡ true → MayComeTo call p (as_loading m seen)
        → Knows call p (unloaded m) (as_loading m seen)
    knows_load loads come = record {
      off = λ w q. entry_off m seen q;
      range = λ d. f.range loads;
      count = λ d l h. absurd (let z : false ≡ true = l in cc);
      walk = come;
    }

    -- where it uses the count that it has loaded
    knows_use : uses_at call p ≡ true → m.loaded ≡ true → MayComeTo call p (as_loading m seen)
        → Knows call p m (as_loading m seen)
    knows_use uses loaded come = record {
      off = λ w q. entry_off m seen q;
      range = λ d. subst (λ (n : ℕ). n ≤ ALL_DONE) (sym (f.count uses loaded)) (f.few loaded);
      count = λ d l h. f.count uses loaded;
      walk = come;
    }

  -- so an event says its part of the sentence, where the program reads no count, and where it uses the one that the
  -- call has loaded; where it has loaded none, nothing is left to be said
  unread_said : (call : Call) (p : Point) → FindsThere call p m seen
      → program me call p (as_found m seen) ≡ program me call p seen → MayComeTo call p (as_found m seen)
      → Spoken call p
  unread_said call p f same come = by_other call p (as_found m seen) same (knows_unread call p f come)

  used_said : (call : Call) (p : Point) → FindsThere call p m seen → uses_at call p ≡ true
      → program me call p (as_loading m seen) ≡ program me call p seen → MayComeTo call p (as_loading m seen)
      → ((m.loaded ≡ true → ⊥) → Spoken call p) → Spoken call p
  used_said call p f uses same come else_said = by m.loaded refl
    where
      by : (b : Bool) → m.loaded ≡ b → Spoken call p
      by true is = by_other call p (as_loading m seen) same (knows_use call p f uses is come)
      by false is = else_said (λ l. let z : false ≡ true = sym is ∙ l in cc)

  -- the own entry where a wait reads it
  own_same : (d : ℕ) (st : SleepState) (p : Point) → FindsThere (calls.WaitFor d st) p m seen → reads_entry p ≡ true
      → entry_as m seen ≡ seen.entry
  own_same d st p f reads = entry_same m seen (λ q. f.off refl q reads)

  module _ (d : ℕ) (st : SleepState) where
    abbrev wait : Call
    wait = calls.WaitFor d st

    await_spoken : (p : Point) → FindsThere wait p m seen → Spoken wait p
    await_spoken (at.Prepare preparing.Lock) f = unread_said wait (at.Prepare preparing.Lock) f refl tt
    await_spoken (at.Prepare preparing.Look) f = unread_said wait (at.Prepare preparing.Look) f refl tt
    await_spoken (at.Prepare preparing.Queue) f = unread_said wait (at.Prepare preparing.Queue) f
        (λ i. program me wait (at.Prepare preparing.Queue)
        (record seen { entry = own_same d st (at.Prepare preparing.Queue) f refl i; value = count_as m })) tt
    await_spoken (at.Prepare preparing.State) f = unread_said wait (at.Prepare preparing.State) f refl tt
    await_spoken (at.Prepare preparing.Unlock) f = unread_said wait (at.Prepare preparing.Unlock) f refl tt
    await_spoken at.Sleep f = unread_said wait at.Sleep f refl tt
    await_spoken (at.Await (awaiting.Lock waited)) f = unread_said wait (at.Await (awaiting.Lock waited)) f refl tt
    await_spoken (at.Await (awaiting.Load false)) f = says me (unloaded m) wait (at.Await (awaiting.Load false))
        (as_loading m seen) (knows_load wait (at.Await (awaiting.Load false)) f refl tt)
    await_spoken (at.Await (awaiting.Load true)) f = says me (unloaded m) wait (at.Await (awaiting.Load true))
        (as_loading m seen) (knows_load wait (at.Await (awaiting.Load true)) f refl tt)
    await_spoken (at.Await (awaiting.Run stopped)) f = unread_said wait (at.Await (awaiting.Run stopped)) f refl tt
    await_spoken (at.Await (awaiting.Off true)) f = unread_said wait (at.Await (awaiting.Off true)) f
        (λ i. program me wait (at.Await (awaiting.Off true))
        (record seen { entry = own_same d st (at.Await (awaiting.Off true)) f refl i; value = count_as m })) tt
    await_spoken (at.Await (awaiting.Off false)) f = used_said wait (at.Await (awaiting.Off false)) f refl
        (λ i. program me wait (at.Await (awaiting.Off false))
        (record seen { entry = own_same d st (at.Await (awaiting.Off false)) f refl i })) tt
        (λ none w a h l. absurd (none l))
    await_spoken (at.Await (awaiting.Last true)) f = unread_said wait (at.Await (awaiting.Last true)) f refl tt
    await_spoken (at.Await (awaiting.Last false)) f = used_said wait (at.Await (awaiting.Last false)) f refl refl tt
        (λ none w a h l. absurd (none l))
    await_spoken (at.Await awaiting.Unlock) f = unread_said wait (at.Await awaiting.Unlock) f refl tt
    await_spoken p f = λ w a h. tt

  -- the calls that raise a count
  module _ (d : ℕ) where
    abbrev one : Call
    one = calls.Complete d

    abbrev every : Call
    every = calls.CompleteAll d

    one_spoken : (p : Point) → FindsThere one p m seen → Spoken one p
    one_spoken (at.Select selecting.Lock) f = unread_said one (at.Select selecting.Lock) f refl tt
    one_spoken (at.Select selecting.Load) f = says me (unloaded m) one (at.Select selecting.Load) (as_loading m seen)
        (knows_load one (at.Select selecting.Load) f refl tt)
    one_spoken (at.Select selecting.Store) f = used_said one (at.Select selecting.Store) f refl refl tt
        (λ none w a h l. absurd (none l))
    one_spoken (at.Select (selecting.Next n)) f = unread_said one (at.Select (selecting.Next n)) f refl tt
    one_spoken (at.Select (selecting.Off n who)) f = unread_said one (at.Select (selecting.Off n who)) f refl tt
    one_spoken p f = λ w a h. tt

    every_spoken : (p : Point) → FindsThere every p m seen → Spoken every p
    every_spoken (at.Select selecting.Lock) f = unread_said every (at.Select selecting.Lock) f refl tt
    every_spoken (at.Select selecting.Store) f = unread_said every (at.Select selecting.Store) f refl tt
    every_spoken (at.Select (selecting.Next n)) f = unread_said every (at.Select (selecting.Next n)) f refl tt
    every_spoken (at.Select (selecting.Off n who)) f = unread_said every (at.Select (selecting.Off n who)) f refl tt
    every_spoken p f = λ w a h. tt

  -- the calls that ask a count, take one of it, and clear it; a load without the lock is in no hold
  peek_said : (call : Call) → FindsThere call (at.Count counting.Peek) m seen → Spoken call (at.Count counting.Peek)
  peek_said call f = by_other call (at.Count counting.Peek) (as_loading m seen) refl (record {
    off = λ w q. entry_off m seen q;
    range = λ d. f.range refl;
    count = λ d l h. absurd (let z : ◌≡◌ {A = Option ℕ} None (Some (call_head call)) = h in cc);
    walk = tt;
  })

  module _ (d : ℕ) where
    abbrev take : Call
    take = calls.TryWait d

    abbrev ask : Call
    ask = calls.IsDone d

    abbrev reset : Call
    reset = calls.Reinit d

    take_spoken : (p : Point) → FindsThere take p m seen → Spoken take p
    take_spoken (at.Count counting.Peek) f = peek_said take f
    take_spoken (at.Count counting.Lock) f = unread_said take (at.Count counting.Lock) f refl tt
    take_spoken (at.Count counting.Load) f = says me (unloaded m) take (at.Count counting.Load) (as_loading m seen)
        (knows_load take (at.Count counting.Load) f refl tt)
    take_spoken (at.Count counting.Store) f = used_said take (at.Count counting.Store) f refl refl tt
        (λ none w a h l. absurd (none l))
    take_spoken (at.Count (counting.Unlock hit)) f = unread_said take (at.Count (counting.Unlock hit)) f refl tt
    take_spoken p f = λ w a h. tt

    ask_spoken : (p : Point) → FindsThere ask p m seen → Spoken ask p
    ask_spoken (at.Count counting.Peek) f = peek_said ask f
    ask_spoken (at.Count counting.Lock) f = unread_said ask (at.Count counting.Lock) f refl tt
    ask_spoken (at.Count (counting.Unlock hit)) f = unread_said ask (at.Count (counting.Unlock hit)) f refl tt
    ask_spoken p f = λ w a h. tt

    reset_spoken : (p : Point) → FindsThere reset p m seen → Spoken reset p
    reset_spoken (at.Count counting.Lock) f = unread_said reset (at.Count counting.Lock) f refl tt
    reset_spoken (at.Count counting.Store) f = unread_said reset (at.Count counting.Store) f refl tt
    reset_spoken (at.Count (counting.Unlock hit)) f = unread_said reset (at.Count (counting.Unlock hit)) f refl tt
    reset_spoken p f = λ w a h. tt

  pub cell_spoken : (call : Call) (p : Point) → is_done (call_watch call) ≡ true → FindsThere call p m seen
      → Spoken call p
  cell_spoken (calls.WaitFor d st) p done f = await_spoken d st p f
  cell_spoken (calls.Complete d) p done f = one_spoken d p f
  cell_spoken (calls.CompleteAll d) p done f = every_spoken d p f
  cell_spoken (calls.TryWait d) p done f = take_spoken d p f
  cell_spoken (calls.IsDone d) p done f = ask_spoken d p f
  cell_spoken (calls.Reinit d) p done f = reset_spoken d p f
  cell_spoken call p done f = absurd (cc)

-- an event that is a load shows the value that was found
abbrev pub ShowsLoad : ℕ → Event → Type 0
ShowsLoad n (event.Load c v) = v ≡ n
ShowsLoad n e = Unit {0}

module _ (me : ℕ) (call : Call) (seen : Seen) where
  abbrev Shown : Planned → Type 0
  Shown x = ShowsLoad seen.value x.event

  ends_shown : (stopped : Bool) → Shown (await_ends call stopped seen)
  ends_shown true = tt
  ends_shown false = either Shown (is_at_end seen.value) _ _ tt tt

  next_shown : (n : ℕ) (called : Option CalledEntry) (hit : Bool) → Shown (select_next call n called hit)
  next_shown n None hit = tt
  next_shown n (Some c) hit = tt

  pub loads_shown : (p : Point) → is_cell_point p ≡ true → Shown (program me call p seen)
  loads_shown (at.Prepare preparing.Lock) cell = tt
  loads_shown (at.Prepare preparing.Look) cell = tt
  loads_shown (at.Prepare preparing.Queue) cell = either Shown (is_some seen.entry) _ _ tt
      (either Shown seen.worn _ _ tt tt)
  loads_shown (at.Prepare preparing.State) cell = tt
  loads_shown (at.Prepare preparing.Unlock) cell = tt
  loads_shown at.Sleep cell = tt
  loads_shown (at.Await (awaiting.Lock waited)) cell = tt
  loads_shown (at.Await (awaiting.Load waited)) cell = refl
  loads_shown (at.Await (awaiting.Run stopped)) cell = tt
  loads_shown (at.Await (awaiting.Off stopped)) cell = either Shown (is_some seen.entry) _ _ tt (ends_shown stopped)
  loads_shown (at.Await (awaiting.Last stopped)) cell = ends_shown stopped
  loads_shown (at.Await awaiting.Unlock) cell = tt
  loads_shown (at.Select selecting.Lock) cell = tt
  loads_shown (at.Select selecting.Load) cell = refl
  loads_shown (at.Select selecting.Store) cell = tt
  loads_shown (at.Select (selecting.Next n)) cell = either Shown (is_enough call n) _ _ tt
      (next_shown n seen.called (meets (mask_of mode.Normal) seen.other.state))
  loads_shown (at.Select (selecting.Off n who)) cell = tt
  loads_shown (at.Count counting.Peek) cell = either Shown (seen.value == 0) _ _ refl refl
  loads_shown (at.Count counting.Lock) cell = tt
  loads_shown (at.Count counting.Load) cell = refl
  loads_shown (at.Count counting.Store) cell = tt
  loads_shown (at.Count (counting.Unlock hit)) cell = tt
  loads_shown p cell = absurd (cc)
