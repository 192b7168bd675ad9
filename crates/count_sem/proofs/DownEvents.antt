-- The events of a `down`, and what each makes of the permits that its task has given and taken.
use Rattle.std.proofs.Common.{refl, sym, ◌∙◌, ap, subst, arith, eq-eqb, inl, inr}
use Rattle.std.proofs.lemmas.Bool.Decides.{nat_tests}
use Rattle.std.specs.Prelude.{ℕ, zero, suc, ◌≡◌, ◌+◌, ◌-◌, ◌<◌, ◌≤◌, ◌==◌, ◌||◌, Bool, true, false, is_some}
use Rattle.std.specs.Prelude.{if◌then◌else◌, Option, Some, None, List, [], ◌∷◌, ◌++◌}
use Rattle.wait_model.specs.{declared.layout.TheConstants.ALL_DONE, declared.layout.TheConstants.ENTRIES}
use Rattle.wait_model.specs.{declared.points.Given.Given, declared.points.Next.Next, declared.points.Planned.Planned}
use Rattle.wait_model.specs.{declared.points.Point.Point, declared.points.Seen.Seen}
use Rattle.wait_model.specs.{declared.queues.CalledEntry.CalledEntry, declared.queues.Member.Member}
use Rattle.wait_model.specs.{declared.steps.Step.Step, declared.tasks.SleepState.SleepState}
use Rattle.wait_model.specs.{declared.watches.Entry.Entry, declared.watches.Watch.Watch, Facts.Agrees, Fold.view_of}
use Rattle.wait_model.specs.{Queues.entry_from, Queues.is_entry, Views.Look, Views.shown}
use Rattle.wait_model.specs.Permits.{dealt, done_head, shows_at}
use Rattle.wait_model.specs.Programs.{ends_with, go, is_at_end, signalled, zero_answer}
use Rattle.wait_model.specs.Runs.{called_as, called_by, own}
use Rattle.wait_model.specs.Tasks.{looks_in, meets, pending, sleep_of, state_mask}
use Rattle.wait_model.specs.Watches.{head_of, mask_of, number_of, owner}
use Rattle.wait_model.specs.declared.calls.Answer.TheVariants as answer
use Rattle.wait_model.specs.declared.calls.Event.TheVariants as event
use Rattle.wait_model.specs.declared.points.AwaitPoint.TheVariants as awaiting
use Rattle.wait_model.specs.declared.points.FinishPoint.TheVariants as finishing
use Rattle.wait_model.specs.declared.points.LeavePoint.TheVariants as leaving
use Rattle.wait_model.specs.declared.points.Next.TheVariants as next
use Rattle.wait_model.specs.declared.points.Point.TheVariants as at
use Rattle.wait_model.specs.declared.points.PreparePoint.TheVariants as preparing
use Rattle.wait_model.specs.declared.points.SelectPoint.TheVariants as selecting
use Rattle.wait_model.specs.declared.queues.Form.TheVariants as forms
use Rattle.wait_model.specs.declared.steps.Step.TheVariants as step
use Rattle.wait_model.specs.declared.watches.Mode.TheVariants as mode
use Rattle.wait_model.specs.declared.watches.Watch.TheVariants as watch
use Rattle.wait_model.proofs.PermitLaws.OwnTurns.{clash, known_is}
use Rattle.wait_model.proofs.QueueLaws.QueueOrder.{IsFirstFrom, first_is}
use Rattle.wait_rule.specs.{declared.journal.Item.Item, HeldValues.count_in, Interleavings.table_of, Known.Known}
use Rattle.wait_rule.specs.{Queues.index, Says.history_of, Says.told_of, Shown.shown_entry, Shown.shown_queue}
use Rattle.wait_rule.specs.Transitions.{Finds, FindsFirst, FindsStep, IsMadeFor, IsSeenAs, IsStepFor, Program, by_look}
use Rattle.wait_rule.specs.Transitions.{by_step}
use Rattle.wait_rule.proofs.KnownLaws.HandedSteps.{OrderStep}
use Rattle.wq_head.proofs.{MemberStands.look_is_shown, ShownQueue.queue_in_order}
use Rattle.count_sem.specs.SemPermits.{IsRaise, IsSemStep, takes_permit}
use Rattle.count_sem.specs.SemPrograms.{again_next, down_part, joined, pass_gives, pass_next, sem_head, sem_lock}
use Rattle.count_sem.specs.SemPrograms.{sem_set, sem_unlock}
use Rattle.count_sem.proofs.{AnswerRuns.PointsHold, SemCalls.low_of, SemCalls.some_of}
use Rattle.count_sem.proofs.AnsweredUps.{Has, has_still, has_take, locked}
use Rattle.count_sem.proofs.DownHolds.{HasCome, IsAsleep, IsCalm, IsGone, IsPast, IsSpent, IsStill, IsThere, IsWaiting}
use Rattle.count_sem.proofs.DownHolds.{agrees_in, asleep_on, asleep_unlock, come_lock, gone_on, gone_spent, load_calm}
use Rattle.count_sem.proofs.DownHolds.{look_calm, own_look, past_unlock, shows_some, sleep_calm, some_shows, spent_off}
use Rattle.count_sem.proofs.DownHolds.{spent_on, spent_other, state_calm, still_shows, there_on, there_queue}
use Rattle.count_sem.proofs.DownHolds.{waiting_on, waiting_spent, wake_calm}
use Rattle.count_sem.proofs.DownPermits.{DownHolds, DownPlace, downer}
use Rattle.count_sem.proofs.LoadedEnds.{HasLoadedEnd, at_end, found_end, loaded_on}
use Rattle.count_sem.proofs.SemPoints.{FoundLow, IsIn, found_low, loads_it, lock_in, low_on, lowers_one, nobody_first}
use Rattle.count_sem.proofs.SemPoints.{off_keeps}

-- no event of a `down` is a look for members
abbrev NoScan : Planned → Type 0
NoScan x = (k : Known) (self : Option ℕ) (g : Given) (xs : List Item) → IsMadeFor k self g x.event (by_look xs) → ⊥

either_scan : (b : Bool) (x y : Planned) → NoScan x → NoScan y → NoScan (if b then x else y)
either_scan true x y one two = one
either_scan false x y one two = two

pass_scan : (c : ℕ) (o : Option CalledEntry) (seen : Seen) → NoScan (pass_next c o seen)
pass_scan c None seen k self g xs made = absurd made
pass_scan c (Some called) seen k self g xs made = absurd made

give_scan : (c : ℕ) (o : Option CalledEntry) (seen : Seen) → NoScan (pass_gives c o seen)
give_scan c None seen k self g xs made = absurd made
give_scan c (Some called) seen k self g xs made = absurd made

no_scan : (me c : ℕ) (st : SleepState) (p : Point) (seen : Seen) → NoScan (down_part me c st p seen)
no_scan me c st (at.Await (awaiting.Lock false)) seen = λ k self g xs made. absurd made
no_scan me c st (at.Await (awaiting.Lock true)) seen = λ k self g xs made. absurd made
no_scan me c st (at.Await (awaiting.Load waited)) seen = λ k self g xs made. absurd made
no_scan me c st (at.Await (awaiting.Off stopped)) seen = λ k self g xs made. absurd made
no_scan me c st (at.Await (awaiting.Last stopped)) seen = λ k self g xs made. absurd made
no_scan me c st (at.Prepare preparing.Look) seen = λ k self g xs made. absurd made
no_scan me c st (at.Prepare preparing.Queue) seen = either_scan (is_some seen.entry) _ _
    (λ k self g xs made. absurd made)
    (either_scan seen.worn _ _ (λ k self g xs made. absurd made) (λ k self g xs made. absurd made))
no_scan me c st (at.Prepare preparing.State) seen = λ k self g xs made. absurd made
no_scan me c st (at.Prepare preparing.Unlock) seen = λ k self g xs made. absurd made
no_scan me c st at.Sleep seen = λ k self g xs made. absurd made
no_scan me c st (at.Leave leaving.Queue) seen = λ k self g xs made. absurd made
no_scan me c st (at.Finish finishing.Queue failed) seen = either_scan (is_some seen.entry) _ _
    (λ k self g xs made. absurd made) (λ k self g xs made. absurd made)
no_scan me c st (at.Finish finishing.Unlock failed) seen = λ k self g xs made. absurd made
no_scan me c st (at.Select (selecting.Next zero)) seen = pass_scan c seen.called seen
no_scan me c st (at.Select (selecting.Next (suc n))) seen = give_scan c seen.called seen
no_scan me c st (at.Select (selecting.Off n who)) seen = λ k self g xs made. absurd made
no_scan me c st (at.Select p) seen = λ k self g xs made. absurd made
no_scan me c st p seen = λ k self g xs made. absurd made

none_of : (o : Option Entry) → is_some o ≡ false → o ≡ None
none_of None is = refl
none_of (Some e) is = absurd (cc)

some_in : (o : Option Entry) → is_some o ≡ true → (e : Entry) × (o ≡ Some e)
some_in None is = absurd (cc)
some_in (Some e) is = (e, refl)

-- whom a selection finds the hold shows
called_entry : (who : ℕ) (o : Option Entry) (c : CalledEntry) → Some c ≡ called_as who o → (e : Entry) × (o ≡ Some e)
called_entry who None c is = absurd (cc)
called_entry who (Some e) c is = (e, refl)

module _ (k : Known) (c : CalledEntry) where
  called_by_some : (o : Option Member) → entry_from 0 (shown_queue k) ≡ o → Some c ≡ called_by (shown_entry k) o
      → (x : ℕ) × (e : Entry) × (x < ENTRIES) × ((told_of k).hold.book x ≡ shown e)
  called_by_some None at is = absurd (cc)
  called_by_some (Some m) at is =
      let f : IsFirstFrom is_entry 0 (shown_queue k) (Some m) = subst (IsFirstFrom is_entry 0 (shown_queue k)) at
      (first_is is_entry 0 (shown_queue k) (queue_in_order k)) in
      let t = f.1 in
      let e = called_entry (owner m.at) (shown_entry k m.at) c is in
      (m.at, e.0, grind (arith, nat_tests), look_is_shown ((told_of k).hold.book m.at) e.0 e.1)

  shown_first : (seen : Seen) → FindsFirst k seen → seen.called ≡ Some c
      → (x : ℕ) × (e : Entry) × (x < ENTRIES) × ((told_of k).hold.book x ≡ shown e)
  shown_first seen first is = called_by_some (entry_from 0 (shown_queue k)) refl (sym is ∙ first.1)

module _ (c me g t : ℕ) (st : SleepState) (seen : Seen) (k : Known) where
  abbrev here : List Step
  here = history_of k

  abbrev f : Program
  f = downer c me g t st

  abbrev Then : Next → Step → Type 0
  Then n e = DownPlace c me g t (joined n) (here ++ e ∷ [])

  abbrev Makes : Point → Planned → Type 0
  Makes p x = (e : Step) → OrderStep me here e → IsStepFor k f.own (f.given p) x.event e
      → Finds k f p (by_step e) seen → Then x.next e

  same_index : index me 0 ≡ own me
  same_index = omega arith

  own_is : (x : ℕ) → Some (index me 0) ≡ Some x → own me ≡ x
  own_is x is = let q : index me 0 ≡ x = cc in sym same_index ∙ q

  own_seen : IsSeenAs ((told_of k).hold.book (index me 0)) seen.entry → IsSeenAs (own_look c me here) seen.entry
  own_seen is = subst (λ (i : ℕ). IsSeenAs ((view_of here).hold.book i) seen.entry) same_index is

  calmly : (e : Step) → IsCalm e → (gave took : ℕ) → Has c me here gave took → Has c me (here ++ e ∷ []) gave took
  calmly e calm gave took has = has_still c me here e gave took has
      (calm.quiet.gives c (own me) (view_of here) (dealt c me here))
      (calm.quiet.takes c (own me) (view_of here) (dealt c me here))

  -- the hold that finds its own entry queued shows it
  sees_there : (e : Step) (o : OrderStep me here e) → IsIn c here → is_some seen.entry ≡ true
      → IsSeenAs (own_look c me here) seen.entry → shows_at (done_head c) (own_look c me here) ≡ true
  sees_there e o held some is =
      let x = some_in seen.entry some in
      some_shows (done_head c) (own_look c me here) ((table_of o.order.steps).entry (own me)) x.0
      (agrees_in c me here o.order held (own me))
      (subst (λ (y : Option Entry). IsSeenAs (own_look c me here) y) x.1 is)

  -- an unlock ends a hold
  unlocks : (p : Point) (spent : Bool) (gave took : ℕ) → Has c me here gave took → (e : Step)
      → IsStepFor k f.own (f.given p) (sem_unlock c spent) e
      → IsPast c me (here ++ e ∷ []) × Has c me (here ++ e ∷ []) gave took
  unlocks p spent gave took has (step.Unlock i s) made = past_unlock c me here gave took has i s
  unlocks p spent gave took has e made = absurd made

  ends_zero : (p : ℕ) → p ≤ 1 → (gave took : ℕ) → gave ≡ g + p → took ≡ t + (p + 1) → (e : Step)
      → IsPast c me (here ++ e ∷ []) × Has c me (here ++ e ∷ []) gave took → Then (next.Ends zero_answer) e
  ends_zero p few gave took one two e q =
      inl (p, few, q.0, record { gave = q.1.gave ∙ one; took = q.1.took ∙ two })

  -- the locks
  first_lock : DownHolds c me g t (at.Await (awaiting.Lock false)) here → (e : Step)
      → IsStepFor k f.own (f.given (at.Await (awaiting.Lock false))) (sem_lock c) e
      → Then (next.Go (at.Await (awaiting.Load false))) e
  first_lock q (step.Lock i aim w) made =
      let s = locked c me g t here i w aim q.0 q.1 in
      inl (
        (
          s.away,
          lock_in c here k f.own (f.given (at.Await (awaiting.Lock false))) (done_head c) (step.Lock i aim w)
              refl made,
        ),
        s.has,
      )
  first_lock q e made = absurd made

  again_lock : DownHolds c me g t (at.Await (awaiting.Lock true)) here → (e : Step)
      → IsStepFor k f.own (f.given (at.Await (awaiting.Lock true))) (sem_lock c) e
      → Then (next.Go (at.Leave leaving.Queue)) e
  again_lock q (step.Lock i aim w) made =
      inl (inl (subst (λ (j : ℕ). HasCome c me (here ++ step.Lock j aim w ∷ [])
      × Has c me (here ++ step.Lock j aim w ∷ []) g t) (sym made.0) (come_lock c me here g t q.1 aim w q.0.left)))
  again_lock q e made = absurd made

  -- the count is loaded
  waits_then : (b : Bool) (e : Step) → IsWaiting c me (here ++ e ∷ []) × Has c me (here ++ e ∷ []) g t
      → Then (next.Go (at.Prepare (if b then preparing.Look else preparing.Queue))) e
  waits_then true e q = inl q
  waits_then false e q = inl q

  module _ (p : Point) (e : Step) (o : OrderStep me here e)
      (made : IsStepFor k f.own (f.given p) (event.Load (number_of (watch.Done c)) seen.value) e)
      (finds : FindsStep e seen) where
    calm : IsCalm e
    calm = load_calm k f.own (f.given p) (number_of (watch.Done c)) seen.value e made

    low : IsIn c here → (seen.value == 0) ≡ false → is_at_end seen.value ≡ false → FoundLow c (here ++ e ∷ [])
    low held some is = found_low c here e seen.value (loads_it c here k f.own (f.given p) (number_of (watch.Done c))
        seen.value seen.value e seen refl refl made finds) held (some_of seen.value some) (low_of seen.value is)

    ended : is_at_end seen.value ≡ true → HasLoadedEnd c (here ++ e ∷ [])
    ended is = found_end c k f.own (f.given p) refl seen e is made finds

    first_then : (z b : Bool) → (seen.value == 0) ≡ z → is_at_end seen.value ≡ b
        → DownHolds c me g t (at.Await (awaiting.Load false)) here
        → Then (next.Go (if z then at.Prepare (if looks_in st then preparing.Look else preparing.Queue)
        else at.Await (if b then awaiting.Unlock else awaiting.Last false))) e
    first_then true b none is q = waits_then (looks_in st) e
        (waiting_on c me here e calm.still o (inl q.0), calmly e calm g t q.1)
    first_then false true some is q = inr (ended is)
    first_then false false some is q = inl (
      spent_on c me here e calm.still (waiting_spent c me here (inl q.0)),
      low q.0.1 some is,
      calmly e calm g t q.1,
    )

    queued_then : (z b : Bool) → (seen.value == 0) ≡ z → is_at_end seen.value ≡ b
        → IsThere c me here × Has c me here g t
        → Then (next.Go (if z then at.Prepare (if looks_in st then preparing.Look else preparing.Queue)
        else at.Await (awaiting.Off false))) e
    queued_then true b none is q = waits_then (looks_in st) e
        (inr (there_on c me here e calm.still q.0), calmly e calm g t q.1)
    queued_then false true some is q = inr (ended is)
    queued_then false false some is q =
        inl (there_on c me here e calm.still q.0, low q.0.held some is, calmly e calm g t q.1)

    given_then : (z b : Bool) → (seen.value == 0) ≡ z → is_at_end seen.value ≡ b
        → IsGone c me here × Has c me here g (t + 1)
        → Then (if z || b then next.Go (at.Await awaiting.Unlock) else next.Ends (answer.Value 0)) e
    given_then true b none is q = inl (
      spent_on c me here e calm.still (gone_spent c me here q.0),
      calmly e calm g (t + 1) q.1,
    )
    given_then false true some is q = inr (ended is)
    given_then false false some is q =
        inl (gone_on c me here e calm.still q.0, low q.0.held some is, calmly e calm g (t + 1) q.1)

    -- behind a look at the own entry
    again_then : (queued : Bool) → is_some seen.entry ≡ queued → IsSeenAs (own_look c me here) seen.entry
        → DownHolds c me g t (at.Leave leaving.Queue) here → Then (again_next st queued seen.value) e
    again_then queued is own (inl q) = absurd (subst (λ (l : Look). IsSeenAs l seen.entry) q.0.unseen own)
    again_then true is own (inr (inl q)) = queued_then (seen.value == 0) (is_at_end seen.value) refl refl q
    again_then false is own (inr (inl q)) = absurd (shows_some (done_head c) (own_look c me here) seen.entry q.0.shows
        own (none_of seen.entry is))
    again_then true is own (inr (inr q)) = absurd (clash (shows_at (done_head c) (own_look c me here))
        (sees_there e o q.0.held is own) q.0.away)
    again_then false is own (inr (inr q)) = given_then (seen.value == 0) (is_at_end seen.value) refl refl q

  -- It prepares. One that finds its own entry there has queued it.
  look_then : (b : Bool) (e : Step) → IsWaiting c me (here ++ e ∷ []) × Has c me (here ++ e ∷ []) g t
      → Then (next.Go (if b then at.Finish finishing.Queue true else at.Prepare preparing.Queue)) e
  look_then true e q = inl q
  look_then false e q = inl q

  in_waiting : IsWaiting c me here → IsIn c here
  in_waiting (inl q) = q.1
  in_waiting (inr q) = q.held

  queued_there : (e : Step) (o : OrderStep me here e) → IsWaiting c me here → is_some seen.entry ≡ true
      → IsSeenAs (own_look c me here) seen.entry → IsThere c me here
  queued_there e o (inr q) some own = q
  queued_there e o (inl q) some own = absurd (clash (shows_at (done_head c) (own_look c me here))
      (sees_there e o q.1 some own) q.0.away)

  joins : DownHolds c me g t (at.Prepare preparing.Queue) here → (e : Step)
      → IsStepFor k f.own (f.given (at.Prepare preparing.Queue)) (event.Queue (sem_head c) forms.Tail) e
      → Then (next.Go (at.Prepare preparing.State)) e
  joins q (step.Queue x y) made =
      inl (subst (λ (i : ℕ). IsThere c me (here ++ step.Queue i y ∷ []) × Has c me (here ++ step.Queue i y ∷ []) g t)
      (own_is x made.0)
      (there_queue c me here g t q.1 y (in_waiting q.0) (ap (λ (i : Entry). head_of i.watch) made.3)))
  joins q e made = absurd made

  queue_makes : (b w : Bool) → is_some seen.entry ≡ b → DownHolds c me g t (at.Prepare preparing.Queue) here
      → Makes (at.Prepare preparing.Queue)
      (if b then go (event.State (state_mask st)) (at.Prepare preparing.Unlock)
      else if w then ends_with (sem_unlock c false) answer.Worn
      else go (event.Queue (sem_head c) forms.Tail) (at.Prepare preparing.State))
  queue_makes true w is q e o made finds =
      let calm = state_calm k f.own (f.given (at.Prepare preparing.Queue)) (state_mask st) e made in
      inl (there_on c me here e calm.still (queued_there e o q.0 is (own_seen finds.1.0)), calmly e calm g t q.1)
  queue_makes false true is q e o made finds = inl (unlocks (at.Prepare preparing.Queue) false g t q.1 e made)
  queue_makes false false is q e o made finds = joins q e made

  sleeps : DownHolds c me g t (at.Prepare preparing.Unlock) here → (e : Step)
      → IsStepFor k f.own (f.given (at.Prepare preparing.Unlock)) (sem_unlock c false) e → Then (next.Go at.Sleep) e
  sleeps q (step.Unlock i s) made =
      inl (subst (λ (j : ℕ). IsAsleep c me (here ++ step.Unlock j s ∷ []) × Has c me (here ++ step.Unlock j s ∷ []) g t)
      (sym made.0) (asleep_unlock c me here g t q.1 s q.0))
  sleeps q e made = absurd made

  -- the own entry is taken off
  own_off : (p : Point) (gave took : ℕ) → Has c me here gave took → IsIn c here → (x : ℕ) → Some (index me 0) ≡ Some x
      → IsSpent c me (here ++ step.Unqueue x ∷ []) × Has c me (here ++ step.Unqueue x ∷ []) gave took
  own_off p gave took has held x is = subst (λ (i : ℕ). IsSpent c me (here ++ step.Unqueue i ∷ [])
      × Has c me (here ++ step.Unqueue i ∷ []) gave took) (own_is x is) (spent_off c me here gave took has held)

  leave_off : (failed : Bool) → DownHolds c me g t (at.Finish finishing.Queue failed) here
      → Makes (at.Finish finishing.Queue failed) (go (event.Unqueue me) (at.Finish finishing.Unlock true))
  leave_off failed q (step.Unqueue x) o made finds =
      inl (own_off (at.Finish finishing.Queue failed) g t q.1 (in_waiting q.0) x finds.2)
  leave_off failed q e o made finds = absurd made

  leave_makes : (b failed : Bool) → DownHolds c me g t (at.Finish finishing.Queue failed) here
      → Makes (at.Finish finishing.Queue failed) (if b then go (event.Unqueue me) (at.Finish finishing.Unlock true)
      else ends_with (sem_unlock c false) signalled)
  leave_makes true failed q = leave_off failed q
  leave_makes false failed q = λ e o made finds. inl (unlocks (at.Finish finishing.Queue failed) false g t q.1 e made)

  off_then : (b : Bool) → is_at_end seen.value ≡ b → (e : Step) → seen.value < ALL_DONE
      → IsSpent c me (here ++ e ∷ []) × Has c me (here ++ e ∷ []) g t → FoundLow c (here ++ e ∷ [])
      → Then (next.Go (at.Await (if b then awaiting.Unlock else awaiting.Last false))) e
  off_then true is e few q found = absurd (at_end seen.value is few)
  off_then false is e few q found = inl (q.0, found, q.1)

  off_makes : (stopped : Bool) → DownHolds c me g t (at.Await (awaiting.Off stopped)) here
      → Makes (at.Await (awaiting.Off stopped)) (down_part me c st (at.Await (awaiting.Off stopped)) seen)
  off_makes stopped q (step.Unqueue x) o made finds =
      let p = at.Await (awaiting.Off stopped) in
      let same = known_is (count_in c here) seen.value q.1.found.count finds.1.1 q.1.found.known in
      let few = q.1.low in
      off_then (is_at_end seen.value) refl (step.Unqueue x) (omega (arith, same, few))
      (own_off p g t q.2 q.0.held x finds.2)
      (low_on c here (step.Unqueue x) (off_keeps c here k f.own (f.given p) me (step.Unqueue x) made) q.1)
  off_makes stopped q e o made finds = absurd made

  -- one is taken of the count
  consume_still : (l : Watch) (n r : ℕ) → IsStill (step.Consume l n r)
  consume_still l n r = record { head = λ v. refl; book = λ v. refl; left = λ h x v b. refl; low = tt }

  lowers : (p : Point) (gave took : ℕ) → FoundLow c here → Has c me here gave took → (e : Step) → OrderStep me here e
      → IsStepFor k f.own (f.given p) (sem_set c (seen.value - 1)) e → FindsStep e seen
      → IsStill e × Has c me (here ++ e ∷ []) gave (took + 1)
  lowers p gave took q has (step.Publish l n r) o made finds =
      let low = lowers_one c me c k f.own (f.given p) refl q.found.count q.found.known q.found.some q.low
      (number_of (watch.Done c)) (seen.value - 1) (step.Publish l n r) seen (λ _. refl) o made finds in
      let raise : IsRaise c (view_of here) n r =
      subst (λ (w : Watch). IsSemStep c (view_of here) (step.Publish w n r)) made.0 low (eq-eqb c c refl) in
      let one = raise.one in
      let to = made.1 in
      absurd (omega (arith, one, to, finds))
  lowers p gave took q has (step.Consume l n r) o made finds = (
    consume_still l n r,
    has_take c me here (step.Consume l n r) gave took has refl
        (ap (λ (w : Watch). takes_permit c (own me) (view_of here) (dealt c me here) (step.Consume w n r)) made.0
        ∙ eq-eqb c c refl),
  )
  lowers p gave took q has e o made finds = absurd made

  -- it hands on
  pass_makes : (y : Option CalledEntry) → seen.called ≡ y → DownHolds c me g t (at.Select (selecting.Next zero)) here
      → Makes (at.Select (selecting.Next zero)) (pass_next c y seen)
  pass_makes None is q e o made finds = ends_zero 0 (omega arith) g (t + 1) (omega arith) (omega arith) e
      (unlocks (at.Select (selecting.Next zero)) false g (t + 1) q.2 e made)
  pass_makes (Some called) is q e o made finds =
      let l = lowers (at.Select (selecting.Next zero)) g (t + 1) q.1 q.2 e o made finds.0 in
      let x = shown_first k called seen finds.1 is in
      let there = agrees_in c me here o.order q.0.held x.0 in
      inl (
        gone_on c me here e l.0 q.0,
        (
          x.0,
          x.2,
          still_shows c me here e l.0 x.0 (shown_here x.0 ((table_of o.order.steps).entry x.0) x.1
              (subst (λ (y : Look). Agrees (done_head c) y
              ((table_of o.order.steps).entry x.0)) x.3 there) x.3),
        ),
        l.1,
      )
    where
      shown_here : (x : ℕ) (y : Option Entry) (i : Entry) → Agrees (done_head c) (shown i) y
          → (view_of here).hold.book x ≡ shown i → shows_at (done_head c) ((view_of here).hold.book x) ≡ true
      shown_here x y i there at = ap (λ (l : Look). shows_at (done_head c) l) at
          ∙ eq-eqb (head_of i.watch) (done_head c) there.1

  gives_makes : (n : ℕ) (y : Option CalledEntry) → seen.called ≡ y
      → DownHolds c me g t (at.Select (selecting.Next (suc n))) here
      → Makes (at.Select (selecting.Next (suc n))) (pass_gives c y seen)
  gives_makes n None is q e o made finds =
      absurd (clash (shows_at (done_head c) ((view_of here).hold.book q.1.0)) q.1.2
      (nobody_first k seen finds.1 is (done_head c) q.1.0 q.1.1).1)
  gives_makes n (Some called) is q e o made finds =
      let calm = wake_calm k f.own (f.given (at.Select (selecting.Next (suc n)))) called.who
      (meets (mask_of mode.Normal) seen.other.state) e made in
      inl (gone_on c me here e calm.still q.0, calmly e calm g ((t + 1) + 1) q.2)

  takes_off : (n who : ℕ) → DownHolds c me g t (at.Select (selecting.Off n who)) here
      → Makes (at.Select (selecting.Off n who)) (go (event.Unqueue who) (at.Select selecting.Store))
  takes_off n who q (step.Unqueue x) o made finds = inl (spent_other c me here g ((t + 1) + 1) q.1 x o q.0)
  takes_off n who q e o made finds = absurd made

  makes : (p : Point) → DownHolds c me g t p here → Makes p (down_part me c st p seen)
  makes (at.Await (awaiting.Lock false)) q e o made finds = first_lock q e made
  makes (at.Await (awaiting.Lock true)) q e o made finds = again_lock q e made
  makes (at.Await (awaiting.Load waited)) q e o made finds = first_then (at.Await (awaiting.Load waited)) e o made
      finds.0 (seen.value == 0) (is_at_end seen.value) refl refl q
  makes (at.Await (awaiting.Off stopped)) q e o made finds = off_makes stopped q e o made finds
  makes (at.Await (awaiting.Last stopped)) q e o made finds =
      let l = lowers (at.Await (awaiting.Last stopped)) g t q.1 q.2 e o made finds.0 in
      inl (spent_on c me here e l.0 q.0, l.1)
  makes (at.Await awaiting.Unlock) q e o made finds = ends_zero 0 (omega arith) g (t + 1) (omega arith) (omega arith) e
      (unlocks (at.Await awaiting.Unlock) false g (t + 1) q.1 e made)
  makes (at.Prepare preparing.Look) q e o made finds =
      let calm = look_calm k f.own (f.given (at.Prepare preparing.Look)) (pending (state_mask st) seen.own) e made in
      look_then (pending (state_mask st) seen.own) e
      (waiting_on c me here e calm.still o q.0, calmly e calm g t q.1)
  makes (at.Prepare preparing.Queue) q e o made finds =
      queue_makes (is_some seen.entry) seen.worn refl q e o made finds
  makes (at.Prepare preparing.State) q e o made finds =
      let calm = state_calm k f.own (f.given (at.Prepare preparing.State)) (state_mask st) e made in
      inl (there_on c me here e calm.still q.0, calmly e calm g t q.1)
  makes (at.Prepare preparing.Unlock) q e o made finds = sleeps q e made
  makes at.Sleep q e o made finds =
      let calm = sleep_calm k f.own (f.given at.Sleep) (sleep_of seen.own) e made in
      inl (asleep_on c me here e calm.still q.0, calmly e calm g t q.1)
  makes (at.Leave leaving.Queue) q e o made finds =
      again_then (at.Leave leaving.Queue) e o made finds.0 (is_some seen.entry) refl (own_seen finds.1) q
  makes (at.Finish finishing.Queue failed) q e o made finds = leave_makes (is_some seen.entry) failed q e o made finds
  makes (at.Finish finishing.Unlock failed) q e o made finds =
      inl (unlocks (at.Finish finishing.Unlock failed) false g t q.1 e made)
  makes (at.Select (selecting.Next zero)) q e o made finds = pass_makes seen.called refl q e o made finds
  makes (at.Select (selecting.Next (suc n))) q e o made finds = gives_makes n seen.called refl q e o made finds
  makes (at.Select (selecting.Off n who)) q e o made finds = takes_off n who q e o made finds
  makes (at.Select selecting.Store) q e o made finds =
      ends_zero 1 (omega arith) (g + 1) ((t + 1) + 1) (omega arith) (omega arith) e
      (unlocks (at.Select selecting.Store) true (g + 1) ((t + 1) + 1) q.1 e made)
  makes p q e o made finds = absurd q

pub down_points : (c me g t : ℕ) (st : SleepState) → PointsHold me (downer c me g t st) (DownPlace c me g t)
down_points c me g t st p seen k q = record {
  looks = λ xs made. no_scan me c st p seen k (downer c me g t st).own ((downer c me g t st).given p) xs made;
  steps = λ e o made finds. elim q [
    | inl is ↦ makes c me g t st seen k p is e o made finds
    | inr l ↦ inr (loaded_on c (history_of k) e l)
  ];
}
