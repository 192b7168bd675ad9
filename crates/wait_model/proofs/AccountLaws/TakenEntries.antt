-- What a selection from a simple queue has taken off: at each place of its call, and by its answer.
use Rattle.std.proofs.lemmas.Bool.{both_ways}
use Rattle.std.proofs.lemmas.Bool.Decides.{nat_tests}
use Rattle.std.proofs.Common.{refl, sym, ◌∙◌, ap, arith}
use Rattle.std.specs.Prelude.{ℕ, ◌≡◌, ◌+◌, ◌<◌, ◌≤◌, Bool, true, false, not, ◌&&◌, ◌==◌, if◌then◌else◌, is_some, pos}
use Rattle.std.specs.Prelude.{Option, Some, None}
use Rattle.wait_model.specs.{declared.calls.Call.Call, declared.calls.Event.Event, declared.calls.Answer.Answer}
use Rattle.wait_model.specs.{declared.queues.Walking.Walking, declared.queues.CalledEntry.CalledEntry}
use Rattle.wait_model.specs.{declared.watches.Kind.Kind, declared.points.Planned.Planned, declared.points.Next.Next}
use Rattle.wait_model.specs.{declared.points.Progress.Progress, declared.points.Seen.Seen, declared.points.Point.Point}
use Rattle.wait_model.specs.{declared.points.WalkPoint.WalkPoint, declared.points.SelectPoint.SelectPoint}
use Rattle.wait_model.specs.{Watches.mask_of, Tables.value_of, Accounts.unqueues, Selections.is_selection}
use Rattle.wait_model.specs.Tasks.{meets, pending, state_mask}
use Rattle.wait_model.specs.Points.{call_watch, call_aim, is_lock, state_in, mode_of, count_of}
use Rattle.wait_model.specs.Programs.{program_start, signalled_at, prepared_at, slept_at, look_event, ask, acted}
use Rattle.wait_model.specs.Programs.{finished, past, onward, reached, call_entry, call_next, is_at_end, is_enough}
use Rattle.wait_model.specs.Programs.{select_from, select_next, await_after, active_event, await_ends, page_queue}
use Rattle.wait_model.specs.Programs.{page_last}
use Rattle.wait_model.specs.Runs.{State, own, seen_by, planned, progress_at}
use Rattle.wait_model.specs.declared.calls.Call.TheVariants as calls
use Rattle.wait_model.specs.declared.calls.Answer.TheVariants as answer
use Rattle.wait_model.specs.declared.watches.Kind.TheVariants as kind
use Rattle.wait_model.specs.declared.points.Next.TheVariants as next
use Rattle.wait_model.specs.declared.points.Progress.TheVariants as now
use Rattle.wait_model.specs.declared.points.Point.TheVariants as at
use Rattle.wait_model.specs.declared.points.PreparePoint.TheVariants as preparing
use Rattle.wait_model.specs.declared.points.LeavePoint.TheVariants as leaving
use Rattle.wait_model.specs.declared.points.FinishPoint.TheVariants as finishing
use Rattle.wait_model.specs.declared.points.BitPoint.TheVariants as biting
use Rattle.wait_model.specs.declared.points.WalkPoint.TheVariants as walking
use Rattle.wait_model.specs.declared.points.AddPoint.TheVariants as adding
use Rattle.wait_model.specs.declared.points.RemovePoint.TheVariants as removing
use Rattle.wait_model.specs.declared.points.WokenPoint.TheVariants as hearing
use Rattle.wait_model.specs.declared.points.SelectPoint.TheVariants as selecting
use Rattle.wait_model.specs.declared.points.AwaitPoint.TheVariants as awaiting
use Rattle.wait_model.specs.declared.points.CountPoint.TheVariants as counting
use Rattle.wait_model.proofs.WaitLaws.OutsideStages.{either, both, unset}
use Rattle.wait_model.specs.declared.points.PagePoint.TheVariants as paging
use Rattle.wait_model.specs.declared.points.PageStage.TheVariants as staging

-- so many entries are within the count of a call that has one
abbrev pub IsWithin : Call → ℕ → Type 0
IsWithin call i = 0 < count_of call → i ≤ count_of call

-- what a selection has taken off at each of its places; a call at another place is none
abbrev pub TookOff : Call → Point → ℕ → Type 0
TookOff call (at.Select selecting.Lock) k = k ≡ 0
TookOff call (at.Select selecting.Load) k = k ≡ 0
TookOff call (at.Select selecting.Store) k = k ≡ 0
TookOff call (at.Select (selecting.Next i)) k = (k ≡ i) × IsWithin call i
TookOff call (at.Select (selecting.Off i who)) k = (k + 1 ≡ i) × IsWithin call i
TookOff call _ k = is_selection call ≡ false

abbrev pub OffAt : Progress → ℕ → Type 0
OffAt (now.Open call p) k = TookOff call p k
OffAt now.Idle k = Unit {0}
OffAt now.Fresh k = Unit {0}

-- a call that has not all that it selects takes one more
one_more : (call : Call) (i : ℕ) → is_enough call i ≡ false → IsWithin call i → IsWithin call (i + 1)
one_more call i less w c = by (i == 0) (i == count_of call) refl refl less
  where
    by : (a b : Bool) → (i == 0) ≡ a → (i == count_of call) ≡ b → (not a && b) ≡ false → i + 1 ≤ count_of call
    by true b z e h = let y : i ≡ 0 = grind (arith, nat_tests) in omega arith
    by false true z e h = absurd (cc)
    by false false z e h = let l : i ≤ count_of call = w c in grind (arith, nat_tests)

module _ (s : State) (me : ℕ) (call : Call) (k : ℕ) where
  -- after an event, at the place to which it leads
  abbrev T : Planned → Type 0
  T x = OffAt (progress_at call x.next) (k + unqueues x.event)

  -- the places of selections
  from_lock : (c : Call) → k ≡ 0 → TookOff c (at.Select (select_from c)) (k + 0)
  from_lock (calls.Complete d) h = omega (arith, h)
  from_lock (calls.CompleteAll d) h = omega (arith, h)
  from_lock calls.Remove h = (omega (arith, h), λ c. omega arith)
  from_lock c h = (omega (arith, h), λ d. omega arith)

  next_off : (i : ℕ) (o : Option CalledEntry) (hit : Bool) → k ≡ i → IsWithin call (i + 1)
      → T (select_next call i o hit)
  next_off i None hit e w = tt
  next_off i (Some c) hit e w = (omega (arith, e), w)

  by_enough : (i : ℕ) (o : Option CalledEntry) (hit b : Bool) (x : Planned) → is_enough call i ≡ b → T x → k ≡ i
      → IsWithin call i → T (if b then x else select_next call i o hit)
  by_enough i o hit true x is h e w = h
  by_enough i o hit false x is h e w = next_off i o hit e (one_more call i is w)

  select_off : (p : SelectPoint) → TookOff call (at.Select p) k → T (planned s me call (at.Select p))
  select_off selecting.Lock h = from_lock call h
  select_off selecting.Load h = either (λ (q : SelectPoint). TookOff call (at.Select q) (k + 0))
      (is_at_end (value_of s.table.words (call_watch call))) _ _ (omega (arith, h), λ c. omega arith) (omega (arith, h))
  select_off selecting.Store h = (omega (arith, h), λ c. omega arith)
  select_off (selecting.Next i) h = by_enough i _ _ (is_enough call i) _ refl tt h.0 h.1
  select_off (selecting.Off i who) h = (omega (arith, h.0), h.1)

  -- every other place leads to no selection
  signalled_off : (c : Call) (j : ℕ) → is_selection c ≡ false → TookOff c (signalled_at c) j
  signalled_off (calls.WaitFor d st) j h = h
  signalled_off calls.Remove j h = h
  signalled_off c j h = h

  prepared_off : (c : Call) (j : ℕ) → is_selection c ≡ false → TookOff c (prepared_at c) j
  prepared_off (calls.WaitFor d st) j h = h
  prepared_off c j h = h

  slept_off : (c : Call) (j : ℕ) → is_selection c ≡ false → TookOff c (slept_at c) j
  slept_off (calls.WaitFor d st) j h = h
  slept_off calls.Remove j h = h
  slept_off c j h = h

  module _ (h : is_selection call ≡ false) where
    finished_off : (failed : Bool) (e : Event) → T (finished call failed e)
    finished_off failed e = either T (failed && is_lock call) _ _ h tt

    active_off : (b : Bool) → T (active_event call b)
    active_off true = h
    active_off false = tt

    await_off : (waited zero : Bool) (j : ℕ) → TookOff call (await_after call waited zero) j
    await_off waited true j = h
    await_off true false j = h
    await_off false false j = h

    ends_off : (stopped : Bool) (seen : Seen) → T (await_ends call stopped seen)
    ends_off true seen = tt
    ends_off false seen = either T (is_at_end seen.value) _ _ tt h

    onward_off : (w : Walking) (j : ℕ) → TookOff call (onward w) j
    onward_off w j = either (λ (q : Point). TookOff call q j) w.spent _ _ h h

    entry_off : (w : Walking) (c : CalledEntry) (j : Kind) (seen : Seen) (hit : Bool)
        → T (call_entry (call_aim call) w c j seen hit)
    entry_off w c kind.Autoremove seen hit = h
    entry_off w c j seen hit = grind arith

    called_off : (w : Walking) (o : Option CalledEntry) (seen : Seen) (hit : Bool)
        → T (call_next (call_aim call) w o seen hit)
    called_off w None seen hit = tt
    called_off w (Some c) seen hit = entry_off w c c.kind seen hit

    walk_off : (p : WalkPoint) → T (planned s me call (at.Walk p))
    walk_off (walking.Call w) =
        let seen = seen_by s me call (at.Walk (walking.Call w)) in
        either T seen.breaks _ _ h (called_off (reached w seen.calls) seen.called seen
        (meets (mask_of (mode_of call)) seen.other.state))
    walk_off (walking.Wake w c) = onward_off (past w c
        (meets (mask_of (mode_of call)) (seen_by s me call (at.Walk (walking.Wake w c))).other.state)) _
    walk_off (walking.Unqueue w who) = onward_off w _
    walk_off (walking.Spent w) = tt
    walk_off (walking.Stopped w) = tt
    walk_off (walking.Page staging.Off w c) = onward_off (past w c true) _
    walk_off p = h

  pub off_step : (p : Point) → TookOff call p k → T (planned s me call p)
  off_step (at.Select p) h = select_off p h
  off_step (at.Walk p) h = walk_off h p
  off_step at.First h = either T (unset s call) _ _ h tt
  off_step (at.Prepare preparing.Look) h = both (λ b. T (look_event call b))
      (pending (state_mask (state_in call)) (s.table.task me)) (signalled_off call _ h) h
  off_step (at.Prepare preparing.Queue) h = either T (is_some (s.table.entry (own me))) _ _ h h
  off_step (at.Prepare preparing.Unlock) h = prepared_off call _ h
  off_step at.Sleep h = slept_off call _ h
  off_step at.Test h = either (λ q. TookOff call q (k + 0)) (unset s call) _ _ h h
  off_step at.Worn h = either T (unset s call) _ _ tt (either T (is_lock call) _ _ tt h)
  off_step (at.Leave leaving.Queue) h = either T (is_some (s.table.entry (own me))) _ _ h h
  off_step (at.Leave leaving.Load) h = either T (unset s call) _ _ tt h
  off_step (at.Finish finishing.Look failed) h = either T (is_some (s.table.entry (own me))) _ _ h
      (finished_off h failed _)
  off_step (at.Finish finishing.Queue failed) h = either T (is_some (s.table.entry (own me))) _ _ h
      (finished_off h failed _)
  off_step (at.Finish finishing.Unlock failed) h = finished_off h failed _
  off_step (at.Bit biting.Try) h = tt
  off_step (at.Bit biting.Last) h = tt
  off_step (at.Bit biting.First) h = either T (unset s call) _ _ h tt
  off_step (at.Bit biting.Look) h = both (λ b. TookOff call (acted call b) (k + 0))
      (pending (state_mask (state_in call)) (s.table.task me))
      (either (λ q. TookOff call q (k + 0)) (is_lock call) _ _ h h) h
  off_step (at.Bit (biting.Again failed)) h = either
      (λ q. TookOff call q (k + unqueues (ask call (seen_by s me call (at.Bit (biting.Again failed))))))
      (unset s call && not failed) _ _ h h
  off_step at.Active h = active_off h (seen_by s me call at.Active).members
  off_step (at.Add adding.Unlock) h = tt
  off_step (at.Remove (removing.Unlock c)) h = tt
  off_step (at.Woken hearing.Clear) h = tt
  off_step (at.Await (awaiting.Load waited)) h = await_off h waited _ _
  off_step (at.Await (awaiting.Off stopped)) h = either T (is_some (s.table.entry (own me))) _ _ h
      (ends_off h stopped _)
  off_step (at.Await (awaiting.Last stopped)) h = ends_off h stopped _
  off_step (at.Await awaiting.Unlock) h = tt
  off_step (at.Count counting.Peek) h = either T (value_of s.table.words (call_watch call) == 0) _ _ tt h
  off_step (at.Count (counting.Unlock hit)) h = tt
  off_step (at.Page paging.First) h = either T (unset s call) _ _ h tt
  off_step (at.Page paging.Queue) h = both (λ b. T (page_queue call b))
      (seen_by s me call (at.Page paging.Queue)).worn h h
  off_step (at.Page (paging.Unlock true)) h = tt
  off_step (at.Page (paging.Finish finishing.Look)) h = either T (is_some (s.table.entry (own me))) _ _ h h
  off_step (at.Page (paging.Finish finishing.Queue)) h = either T (is_some (s.table.entry (own me))) _ _ h h
  off_step (at.Page paging.Last) h = both (λ b. T (page_last b)) (seen_by s me call (at.Page paging.Last)).flag h tt
  off_step (at.Page paging.Clear) h = tt
  off_step p h = assumption

  -- no event takes off more than the count leaves
  abbrev Below : Planned → Type 0
  Below x = k + unqueues x.event ≤ count_of call

  next_below : (i : ℕ) (o : Option CalledEntry) (hit : Bool) → k ≤ count_of call → Below (select_next call i o hit)
  next_below i None hit l = omega (arith, l)
  next_below i (Some c) hit l = omega (arith, l)

  pub off_below : (p : Point) → TookOff call p k → is_selection call ≡ true → 0 < count_of call
      → Below (planned s me call p)
  off_below (at.Select (selecting.Next i)) h is c =
      let l : i ≤ count_of call = h.1 c in
      either Below (is_enough call i) _ _ (omega (arith, h.0)) (next_below i _ _ (omega (arith, h.0)))
  off_below (at.Select (selecting.Off i who)) h is c =
      let l : i ≤ count_of call = h.1 c in omega (arith, h.0)
  off_below p h is c = grind arith

-- whether a call ends there, and what it answers then
abbrev ends : Next → Bool
ends (next.Ends a) = true
ends (next.Go p) = false

abbrev answered : Next → Answer → Answer
answered (next.Ends a) b = a
answered (next.Go p) b = b

pub start_off : (call : Call) → TookOff call (program_start call) 0
start_off (calls.SimpleWake c all) = refl
start_off call = refl

module _ (s : State) (me c : ℕ) (all : Bool) (k : ℕ) where
  abbrev call : Call
  call = calls.SimpleWake c all

  abbrev Told : Planned → Type 0
  Told y = (x : Answer) → y.next ≡ next.Ends x → x ≡ answer.Number (pos k)

  ended : (i : ℕ) (x : Answer) → k ≡ i → next.Ends (answer.Number (pos i)) ≡ next.Ends x
      → x ≡ answer.Number (pos k)
  ended i x q e = sym (ap (λ n. answered n x) e) ∙ ap (λ n. answer.Number (pos n)) (sym q)

  next_told : (i : ℕ) (o : Option CalledEntry) (hit : Bool) → k ≡ i → Told (select_next call i o hit)
  next_told i None hit q x e = ended i x q e
  next_told i (Some d) hit q x e = absurd (both_ways false refl (ap ends e))

  pub off_told : (p : Point) (x : Answer) → TookOff call p k → (planned s me call p).next ≡ next.Ends x
      → x ≡ answer.Number (pos k)
  off_told (at.Select (selecting.Next i)) x h e = either Told (is_enough call i) _ _ (λ y. ended i y h.0)
      (next_told i _ _ h.0) x e
  off_told p x h e = grind arith
