-- Waits for completions that are left make their words. They take none of the count, so it is asked of what they loaded
-- alone that it has 32 bits.
use Rattle.std.proofs.Common.{◌∙◌, ap, append_assoc, append-nil, arith, inl, inr, refl, subst, sym}
use Rattle.std.proofs.lemmas.Bool.{eqb-true}
use Rattle.std.specs.Prelude.{ℕ, ◌≡◌, ◌≤◌, ◌==◌, Bool, true, false, is_some, if◌then◌else◌, Some, None, List, [], ◌∷◌, ◌++◌}
use Rattle.wait_model.specs.{declared.layout.TheConstants.ALL_DONE, declared.calls.Answer.Answer}
use Rattle.wait_model.specs.{declared.calls.Call.Call, declared.calls.Event.Event, declared.points.Given.Given}
use Rattle.wait_model.specs.{declared.points.Next.Next, declared.points.Planned.Planned, declared.points.Point.Point}
use Rattle.wait_model.specs.{declared.points.Seen.Seen, declared.steps.Step.Step, declared.tasks.SleepState.SleepState}
use Rattle.wait_model.specs.{declared.watches.Watch.Watch, Findings.Noted, Findings.notes, Points.call_number}
use Rattle.wait_model.specs.{SentenceSteps.minus_512, Tables.Table}
use Rattle.wait_model.specs.Programs.{is_at_end, program, zero_answer}
use Rattle.wait_model.specs.SentenceCounts.{await_end, await_turn, by_count, counts}
use Rattle.wait_model.specs.Tasks.{looks_in, pending, state_mask}
use Rattle.wait_model.specs.Watches.{head_of, number_of, owner}
use Rattle.wait_model.specs.declared.calls.Call.TheVariants as calls
use Rattle.wait_model.specs.declared.calls.Event.TheVariants as event
use Rattle.wait_model.specs.declared.points.AwaitPoint.TheVariants as awaiting
use Rattle.wait_model.specs.declared.points.Next.TheVariants as next
use Rattle.wait_model.specs.declared.points.Point.TheVariants as at
use Rattle.wait_model.specs.declared.points.PreparePoint.TheVariants as preparing
use Rattle.wait_model.specs.declared.steps.Step.TheVariants as step
use Rattle.wait_model.specs.declared.watches.Watch.TheVariants as watch
use Rattle.wait_model.specs.Phrases.{Rest, ends, gives, leaves, repeat, repeats, when◌then◌otherwise◌}
use Rattle.wait_model.proofs.{SentenceLaws.SentenceCalls.rest_of, SentenceLaws.SentenceEnds.can_end}
use Rattle.wait_model.proofs.WaitLaws.OutsideStages.{either}
use Rattle.wait_model.proofs.SentenceLaws.SentenceAwaits.{await_rest, loaded, over}
use Rattle.wait_model.proofs.SentenceLaws.SentenceRests.{CanEnd, first_more, left_at as left_of}
use Rattle.wait_rule.specs.{Interleavings.IsInterleaved, Known.Known, Queues.index, SaidEvents.said}
use Rattle.wait_rule.specs.Says.{MeetsLaw, history_of, told_of}
use Rattle.wait_rule.specs.Transitions.{Finds, FindsAt, Goes, IsMadeFor, IsSeenAs, Program, StepOrLook, Transition}
use Rattle.wait_rule.specs.Transitions.{after_transition, by_look, by_step, call_program}
use Rattle.wait_rule.proofs.{KnownLaws.Moments.moment_of, SaidEvents.OwnFindings.own_off}
use Rattle.wait_rule.proofs.SaidEvents.Fronts.{IsOff, off_on, off_still, queued_before, step_follows, steps_made}
use Rattle.wait_class.specs.declared.stages.Turn.TheVariants as turn
use Rattle.wait_class.specs.Posts.{IsOut}
use Rattle.wait_leave.specs.declared.exits.Exit.{Exit}
use Rattle.wait_leave.specs.declared.exits.Until.TheVariants as until
use Rattle.completion_cell.specs.{LoadedCounts.AreInRange, LoadedCounts.InRange, declared.awaits.AwaitCall.AwaitCall}
use Rattle.completion_cell.specs.{declared.awaits.AwaitOutcome.AwaitOutcome, declared.awaits.AwaitStage.AwaitStage}
use Rattle.completion_cell.specs.AwaitLeaves.{EndsAwaitUntil, await_exit, await_exits, await_stopped, await_until}
use Rattle.completion_cell.specs.Awaits.{answer_to_await, await_table, await_point_at}
use Rattle.completion_cell.specs.declared.awaits.AwaitOutcome.TheVariants as outcome
use Rattle.completion_cell.specs.declared.awaits.AwaitStage.TheVariants as stage
use Rattle.completion_cell.proofs.CellPoints.{FindsThere, ShowsLoad, cell_spoken, is_cell_point, loads_at, loads_shown, reads_entry, uses_at}
use Rattle.left_sentences.specs.CellWays.{CellFrom, HasLoadedZero, LeftAwaitsFollow, await_says, before_sleep, cell_ways, counts_once_more, in_hold}
use Rattle.left_sentences.specs.CondWays.{HasPrepared}
use Rattle.left_sentences.specs.LeftWords.{IsLeftWord}
use Rattle.left_sentences.proofs.LeftWays.{FollowsOn, IsRunOf, LeadsOut, Speech, before_law, gone_by, kept, left_word}
use Rattle.left_sentences.proofs.LeftWays.{of_way}
use Rattle.left_sentences.proofs.RunsTo.{AtNext, Before, Leads, OffFirst, all_notes}

-- from where it takes one of the count it goes to the answer 0 alone
abbrev is_taking : Point → Bool
is_taking (at.Await (awaiting.Run false)) = true
is_taking (at.Await (awaiting.Off false)) = true
is_taking (at.Await (awaiting.Last false)) = true
is_taking (at.Await awaiting.Unlock) = true
is_taking _ = false

abbrev TakesTo : Next → Type 0
TakesTo (next.Go p) = is_taking p ≡ true
TakesTo (next.Ends a) = a ≡ zero_answer

-- what a load finds
loaded_is : (k : Known) (f : Program) (p : Point) (g : Given) (c v : ℕ) (did : StepOrLook) (seen : Seen)
    → IsMadeFor k f.own g (event.Load c v) did → Finds k f p did seen → InRange did → seen.value ≤ ALL_DONE
loaded_is k f p g c v (by_step (step.Load l r)) seen made finds ranged =
    subst (λ (n : ℕ). n ≤ ALL_DONE) (sym finds.0) ranged
loaded_is k f p g c v (by_step e) seen made finds ranged = absurd made
loaded_is k f p g c v (by_look xs) seen made finds ranged = absurd made

module _ (me d : ℕ) (st : SleepState) where
  abbrev call : Call
  call = calls.WaitFor d st

  abbrev f : Program
  f = call_program me 0 call

  lowers_next : (seen : Seen) → TakesTo (program me call (at.Await (awaiting.Last false)) seen).next
  lowers_next seen = either (λ (u : Planned). TakesTo u.next) (is_at_end seen.value) _ _ refl refl

  takes_next : (p : Point) (seen : Seen) → is_taking p ≡ true → TakesTo (program me call p seen).next
  takes_next (at.Await (awaiting.Run false)) seen is = refl
  takes_next (at.Await (awaiting.Off false)) seen is = either (λ (u : Planned). TakesTo u.next) (is_some seen.entry) _ _
      refl (lowers_next seen)
  takes_next (at.Await (awaiting.Last false)) seen is = lowers_next seen
  takes_next (at.Await awaiting.Unlock) seen is = refl
  takes_next p seen is = absurd (cc)

  takes_on : (ts : List Transition) (l n : Next) (old new : Known) → Goes f old l ts new n → TakesTo l → TakesTo n
  takes_on [] l n old new g h = subst TakesTo (sym g.1) h
  takes_on (t ∷ ts) (next.Go p) n old new g h = takes_on ts (program me call p t.seen).next n (after_transition t) new
      g.1 (takes_next p t.seen h)
  takes_on (t ∷ ts) (next.Ends a) n old new g h = absurd g

  -- a count that was noted has 32 bits
  abbrev Few : Noted → Type 0
  Few m = m.loaded ≡ true → m.count ≤ ALL_DONE

  few_after : (t : Transition) (p : Point) (m : Noted) (ev : Event) → IsMadeFor t.knew f.own (f.given p) ev t.did
      → Finds t.knew f p t.did t.seen → InRange t.did → ShowsLoad t.seen.value ev → Few m → Few (notes m ev)
  few_after t p m (event.Load c v) made finds ranged shows few = λ _. subst (λ (n : ℕ). n ≤ ALL_DONE) (sym shows)
      (loaded_is t.knew f p (f.given p) c v t.did t.seen made finds ranged)
  few_after t p m ev made finds ranged shows few = grind arith

  uses_taking : (p : Point) → uses_at call p ≡ true → is_taking p ≡ true
  uses_taking (at.Await (awaiting.Off false)) is = refl
  uses_taking (at.Await (awaiting.Last false)) is = refl
  uses_taking p is = absurd (cc)

  -- the points of its program; elsewhere it has nothing to say
  abbrev is_here : Point → Bool
  is_here (at.Prepare p) = true
  is_here at.Sleep = true
  is_here (at.Await p) = true
  is_here _ = false

  here_cell : (p : Point) → is_here p ≡ true → is_cell_point p ≡ true
  here_cell (at.Prepare p) is = refl
  here_cell p is = cc

  elsewhere : (m : Noted) (p : Point) → is_here p ≡ false → (w : List Event) (a : Answer) → rest_of me call m p w a
  elsewhere m (at.Prepare p) is w a = absurd (cc)
  elsewhere m at.Sleep is w a = absurd (cc)
  elsewhere m (at.Await p) is w a = absurd (cc)
  elsewhere m p is w a = tt

  own_task : owner (index me 0) ≡ me
  unfolding owner
  own_task = omega arith

  module _ (s : Table) (all : IsInterleaved s) where
    -- what it finds at a point
    module _ (t : Transition) (rest : List Step)
        (split : s.history me ≡ history_of t.knew ++ (steps_made t.did ++ rest)) where
      seen_off : IsOff t.knew (index me 0) → IsSeenAs ((told_of t.knew).hold.book (index me 0)) t.seen.entry
          → t.seen.entry ≡ None
      seen_off out h = own_off me (history_of t.knew)
          (moment_of s all me (history_of t.knew) (steps_made t.did ++ rest) split) (index me 0) own_task out
          t.seen.entry h

      finds_at : (p : Point) (did : StepOrLook) → Finds t.knew f p did t.seen
          → FindsAt t.knew f.own f.form (f.given p) p t.seen
      finds_at p (by_step e) finds = finds.1
      finds_at p (by_look xs) finds = finds

      found_off : (p : Point) → Finds t.knew f p t.did t.seen → reads_entry p ≡ true → IsOff t.knew (index me 0)
          → t.seen.entry ≡ None
      found_off (at.Prepare preparing.Queue) finds reads out =
          seen_off out (finds_at (at.Prepare preparing.Queue) t.did finds).0
      found_off (at.Await (awaiting.Off stopped)) finds reads out =
          seen_off out (finds_at (at.Await (awaiting.Off stopped)) t.did finds).0
      found_off p finds reads out = absurd (cc)

      found_range : (p : Point) → IsMadeFor t.knew f.own (f.given p) (program me call p t.seen).event t.did
          → Finds t.knew f p t.did t.seen → InRange t.did → is_here p ≡ true → loads_at p ≡ true
          → t.seen.value ≤ ALL_DONE
      found_range (at.Await (awaiting.Load waited)) made finds ranged here loads = loaded_is t.knew f
          (at.Await (awaiting.Load waited)) (f.given (at.Await (awaiting.Load waited))) (call_number call) t.seen.value
          t.did t.seen made finds ranged
      found_range p made finds ranged here loads = absurd (cc)

    -- the events after the first
    tail : (m : Noted) (k new : Known) (n : Next) (v : List Event) (a : Answer) (ts : List Transition)
        → ((p : Point) → Goes f k (next.Go p) ts new n
        → left_of (rest_of me call (all_notes m (said f (next.Go p) ts))) n v a
        → rest_of me call m p (said f (next.Go p) ts ++ v) a)
        → (l : Next) → Goes f k l ts new n → left_of (rest_of me call (all_notes m (said f l ts))) n v a
        → left_of (rest_of me call m) l (said f l ts ++ v) a
    tail m k new n v a ts rec (next.Go p) g left = rec p g left
    tail m k new n v a [] rec (next.Ends b) g left = subst (λ (j : Next). left_of (rest_of me call m) j v a) g.1 left
    tail m k new n v a (t ∷ ts) rec (next.Ends b) g left = absurd g

    -- an event begins what is left of the sentence
    event_said : (t : Transition) (ts : List Transition) (p : Point) (n : Next) (m : Noted) (old new : Known)
        (v : List Event) (a : Answer) (later : List Step) → s.history me ≡ history_of new ++ later → InRange t.did
        → (TakesTo n → ⊥) → OffFirst me call m old → Few m → Goes f old (next.Go p) (t ∷ ts) new n
        → ((j : Point) → OffFirst me call (notes m (program me call p t.seen).event) (after_transition t)
        → Few (notes m (program me call p t.seen).event) → Goes f (after_transition t) (next.Go j) ts new n
        → left_of (rest_of me call (all_notes (notes m (program me call p t.seen).event) (said f (next.Go j) ts))) n v a
        → rest_of me call (notes m (program me call p t.seen).event) j (said f (next.Go j) ts ++ v) a)
        → left_of (rest_of me call (all_notes m (said f (next.Go p) (t ∷ ts)))) n v a
        → rest_of me call m p (said f (next.Go p) (t ∷ ts) ++ v) a
    event_said t ts p n m old new v a later h ranged none out few g rec left = by (is_here p) refl
      where
        split : (rest : List Step) × (s.history me ≡ history_of t.knew ++ (steps_made t.did ++ rest))
        split = let r = step_follows f new (program me call p t.seen).next n t ts g.1 in (
          r.0 ++ later,
          h ∙ (ap (λ (es : List Step). es ++ later) r.1
              ∙ (append_assoc (history_of t.knew) (steps_made t.did ++ r.0) later
              ∙ ap (λ (es : List Step). history_of t.knew ++ es) (append_assoc (steps_made t.did) r.0 later))),
        )

        out_there : OffFirst me call m t.knew
        out_there w z = off_on old t.knew (index me 0) g.0.looks (out w z)

        there : is_here p ≡ true → FindsThere call p m t.seen
        there here = record {
          off = λ w z reads. found_off t split.0 split.1 p g.0.finds reads (out_there w z);
          range = found_range t split.0 split.1 p g.0.is g.0.finds ranged here;
          count = λ uses loads. absurd (none (takes_on ts (program me call p t.seen).next n (after_transition t) new g.1
              (takes_next p t.seen (uses_taking p uses))));
          few = few;
        }

        by : (b : Bool) → is_here p ≡ b → rest_of me call m p ((program me call p t.seen).event
            ∷ (said f (program me call p t.seen).next ts ++ v)) a
        by false is = elsewhere m p is ((program me call p t.seen).event
            ∷ (said f (program me call p t.seen).next ts ++ v)) a
        by true is = cell_spoken me m t.seen call p refl (there is) (said f (program me call p t.seen).next ts ++ v) a
            (tail (notes m (program me call p t.seen).event) (after_transition t) new n v a ts
            (λ j on l. rec j (λ w z. off_still t.knew f.own (f.given p) (program me call p t.seen).event t.did m
            (index me 0) g.0.is z (out_there w (queued_before m (program me call p t.seen).event z)))
            (few_after t p m (program me call p t.seen).event g.0.is g.0.finds ranged
            (loads_shown me call t.seen p (here_cell p is)) few) on l)
            (program me call p t.seen).next g.1 left)

    -- up to a place at which it has taken none of the count
    cell_said : (ts : List Transition) (p : Point) (n : Next) (m : Noted) (old new : Known) (v : List Event) (a :
        Answer)
        (later : List Step) → s.history me ≡ history_of new ++ later → AreInRange ts → (TakesTo n → ⊥)
        → OffFirst me call m old → Few m → Goes f old (next.Go p) ts new n
        → left_of (rest_of me call (all_notes m (said f (next.Go p) ts))) n v a
        → rest_of me call m p (said f (next.Go p) ts ++ v) a
    cell_said [] p n m old new v a later h ranged none out few g left =
        subst (λ (j : Next). left_of (rest_of me call m) j v a) g.1 left
    cell_said (t ∷ ts) p n m old new v a later h ranged none out few g left =
        event_said t ts p n m old new v a later h ranged.0 none out few g
        (λ j off small on l. cell_said ts j n (notes m (program me call p t.seen).event) (after_transition t) new v a
        later h ranged.1 none off small on l) left

  -- what is asked of the transitions, and of where they lead
  abbrev Fine : List Transition → Next → Type 0
  Fine ts n = AreInRange ts × (TakesTo n → ⊥)

  few_first : (m : Noted) → m.loaded ≡ false → Few m
  few_first m is l = absurd (let z : true ≡ false = sym l ∙ is in cc)

  cell_follows : FollowsOn me call Fine
  cell_follows = record {
    to_point = λ s all ts p q m old new fine h out z g.
        let c : CanEnd (rest_of me call (all_notes m (said f (next.Go p) ts)) q) =
        can_end me call (all_notes m (said f (next.Go p) ts)) q in (
          c.0,
          c.1,
          cell_said s all ts p (next.Go q) m old new c.0 c.1 h.0 h.1 fine.0 fine.1 out (few_first m z) g c.2,
        );
    to_answer = λ s all ts p b m old new fine h out z g. subst (λ (w : List Event). rest_of me call m p w b)
        (append-nil (said f (next.Go p) ts))
        (cell_said s all ts p (next.Ends b) m old new [] b h.0 h.1 fine.0 fine.1 out (few_first m z) g refl);
  }

  -- the latest events at each point of such a wait
  abbrev c : Watch
  c = watch.Done d

  abbrev CellAt : Point → List Event → Type 0
  CellAt (at.Await (awaiting.Load waited)) trail = (more : List Event) × (trail ≡ event.Lock (head_of c) ∷ more)
  CellAt (at.Await p) trail = Unit {0}
  CellAt (at.Prepare preparing.Lock) trail = ⊥
  CellAt (at.Prepare preparing.Look) trail = HasLoadedZero c trail
  CellAt (at.Prepare preparing.Queue) trail = CellFrom d st in_hold trail
  CellAt (at.Prepare preparing.State) trail = Unit {0}
  CellAt (at.Prepare preparing.Unlock) trail = (more : List Event) × (trail ≡ event.State (state_mask st) ∷ more)
  CellAt at.Sleep trail = HasPrepared c st trail
  CellAt _ trail = ⊥

  abbrev Led : List Event → Planned → Type 0
  Led trail u = AtNext CellAt (u.event ∷ trail) u.next

  one_of : (b : Bool) (u v : Planned) (trail : List Event) → Led trail u → Led trail v → Led trail (if b then u else v)
  one_of b u v trail l r = either (Led trail) b u v l r

  ends_led : (stopped : Bool) (seen : Seen) (trail : List Event)
      → Led trail (program me call (at.Await (awaiting.Last stopped)) seen)
  ends_led true seen trail = tt
  ends_led false seen trail = one_of (is_at_end seen.value) _ _ trail tt tt

  zero_led : (b looks : Bool) (v : ℕ) (trail : List Event) → (b ≡ true → v ≡ 0)
      → (more : List Event) × (trail ≡ event.Lock (head_of c) ∷ more) → (other : Point)
      → ((t : List Event) → CellAt other t)
      → CellAt (if b then at.Prepare (if looks then preparing.Look else preparing.Queue) else other)
      (event.Load (number_of c) v ∷ trail)
  zero_led true true v trail is h other any =
      (h.0, λ i. event.Load (number_of c) (is refl i) ∷ h.1 i)
  zero_led true false v trail is h other any =
      inl (h.0, λ i. event.Load (number_of c) (is refl i) ∷ h.1 i)
  zero_led false looks v trail is h other any = any (event.Load (number_of c) v ∷ trail)

  look_led : (hit : Bool) (trail : List Event) → HasLoadedZero c trail
      → CellAt (if hit then at.Await (awaiting.Run true) else at.Prepare preparing.Queue) (event.Look hit ∷ trail)
  look_led true trail h = tt
  look_led false trail h = inr (trail, refl, h)

  cell_leads : Leads CellAt f
  cell_leads (at.Await (awaiting.Lock waited)) seen trail h = (trail, refl)
  cell_leads (at.Await (awaiting.Load true)) seen trail h = zero_led (seen.value == 0) (looks_in st) seen.value trail
      (eqb-true seen.value 0) h (at.Await (awaiting.Run false)) (λ t. tt)
  cell_leads (at.Await (awaiting.Load false)) seen trail h = zero_led (seen.value == 0) (looks_in st) seen.value trail
      (eqb-true seen.value 0) h (at.Await (awaiting.Last false)) (λ t. tt)
  cell_leads (at.Await (awaiting.Off stopped)) seen trail h =
      one_of (is_some seen.entry) _ _ trail tt (ends_led stopped seen trail)
  cell_leads (at.Await (awaiting.Last stopped)) seen trail h = ends_led stopped seen trail
  cell_leads (at.Prepare preparing.Lock) seen trail h = absurd h
  cell_leads (at.Prepare preparing.Look) seen trail h = look_led (pending (state_mask st) seen.own) trail h
  cell_leads (at.Prepare preparing.Queue) seen trail h =
      one_of (is_some seen.entry) _ _ trail (trail, refl) (one_of seen.worn _ _ trail tt tt)
  cell_leads (at.Prepare preparing.State) seen trail h = (trail, refl)
  cell_leads (at.Prepare preparing.Unlock) seen trail h =
      (h.0, ap (λ (w : List Event). event.Unlock (head_of c) false ∷ w) h.1)
  cell_leads p seen trail h = grind arith

  -- what is left of the sentence where it goes on to its next hold
  abbrev loaded_by : ℕ → Bool → ℕ → Rest
  loaded_by n b count = over me d st n (if b then repeats true else leaves (by_count count))

  counted : (b : Bool) (n count : ℕ) (w : List Event) (a : Answer) → loaded_by n b count w a
      → (when b then repeat (await_turn c st) true otherwise gives (by_count count)) (λ left. await_end me c left ends)
      w a
  counted true n count w a h = (n, h)
  counted false n count w a h = h

  next_hold : (w : List Event) (a : Answer) → await_rest me d st kept (at.Await (awaiting.Lock true)) w a
      → counts_once_more me c st ends (event.State 0 ∷ w) a
  next_hold w a (n, h) = (
    refl,
    first_more (event.Lock (head_of c)) (counts c (loaded me d st n)) (counts c
        (λ count. (when count == 0 then repeat (await_turn c st) true otherwise gives (by_count count))
        (λ left. await_end me c left ends))) (λ v b k. (
          k.0,
          first_more (event.Load (number_of c) k.0)
              (λ x y. (k.0 ≤ ALL_DONE) × loaded me d st n k.0 x y)
              (λ x y. (k.0 ≤ ALL_DONE) × (when k.0 == 0 then repeat (await_turn c st) true otherwise gives (by_count
              k.0))
              (λ left. await_end me c left ends) x y)
              (λ x y z. (z.0, counted (k.0 == 0) n k.0 x y z.1)) v b k.1,
        )) w a h,
  )

  -- the exits
  abbrev hold_exit : Exit AwaitStage AwaitOutcome
  hold_exit = record { to = turn.Again stage.LeaveState; rests = false }

  abbrev next_exit : Exit AwaitStage AwaitOutcome
  next_exit = record { to = turn.Again stage.Again; rests = true }

  abbrev Out : AwaitStage → Exit AwaitStage AwaitOutcome → Type 0
  Out s e = LeadsOut await_table me call (cell_ways me d st) CellAt s e

  out_of_hold : (s : AwaitStage) (e : Exit AwaitStage AwaitOutcome) → hold_exit ≡ e
      → ((trail : List Event) → CellAt (await_point_at s) trail → CellFrom d st in_hold trail) → Out s e
  out_of_hold s e is from = subst (Out s) is (record {
    way = in_hold;
    from = from;
    rest = λ w a h. h;
    start = tt;
  })

  cell_outs : (s : AwaitStage) (e : Exit AwaitStage AwaitOutcome) → await_exit s ≡ Some e → Out s e
  cell_outs stage.Look e is = out_of_hold stage.Look e (let z : hold_exit ≡ e = cc in z) (λ trail h. inl h)
  cell_outs stage.Queue e is = out_of_hold stage.Queue e (let z : hold_exit ≡ e = cc in z) (λ trail h. h)
  cell_outs stage.Sleep e is = subst (Out stage.Sleep) (let z : next_exit ≡ e = cc in z) (record {
    way = before_sleep;
    from = λ trail h. h;
    rest = next_hold;
    start = tt;
  })
  cell_outs s e is = absurd (cc)

  exit_takes : (s : AwaitStage) (e : Exit AwaitStage AwaitOutcome) → await_exit s ≡ Some e
      → is_taking (await_point_at s) ≡ true → ⊥
  exit_takes stage.Look e is z = absurd (cc)
  exit_takes s e is z = absurd (cc)

  cell_speech : Speech await_table await_exits me call (cell_ways me d st) CellAt Fine
  cell_speech = record {
    follows = cell_follows;
    fine = λ r q j ts s e tells is. (tells.ranged, exit_takes s e is);
    same = λ r. refl;
    leads = cell_leads;
    outs = λ r s e is. cell_outs s e is;
  }

-- one that was left has been asked, and ended as one that a signal stopped
stopped_asked : (b : Bool) (r : AwaitCall) (found : Bool) (seen : ℕ) → until.Left seen ≡ await_stopped b r found
    → b ≡ true
stopped_asked true r found seen is = refl
stopped_asked false r found seen is = absurd (cc)

await_left_asked : (r : AwaitCall) (o : AwaitOutcome) (seen : ℕ) → until.Left seen ≡ await_until r o
    → (r.asked ≡ true) × (answer_to_await o ≡ minus_512)
await_left_asked r (outcome.Signalled found) seen is = (stopped_asked r.asked r found seen is, refl)
await_left_asked r o seen is = absurd (cc)

takes_none : (a : Answer) → a ≡ minus_512 → TakesTo (next.Ends a) → ⊥
takes_none a is z = absurd (let y : minus_512 ≡ zero_answer = sym is ∙ z in cc)

module _ {A : Type 0} (old new : Known) (d : ℕ) (st : SleepState) (seen : ℕ) (law : MeetsLaw new.view)
    (out : IsOut old) (e : EndsAwaitUntil A old new d st (until.Left seen)) where
  abbrev who : ℕ
  who = old.view.number

  cell_fresh : call_program who 0 (calls.WaitFor e.first.of.cell e.first.of.state)
      ≡ call_program who 0 (calls.WaitFor d st)
  cell_fresh i = call_program who 0 (calls.WaitFor (e.fresh.cell i) (e.fresh.state_is i))

  cell_is : IsRunOf await_table who (calls.WaitFor d st) old e.first.of
  cell_is = record { number = refl; program = cell_fresh }

  cell_before : Before law.table who new
  cell_before = before_law new law who (of_way await_table await_exits who (calls.WaitFor d st) (cell_ways who d st)
      (CellAt who d st) (Fine who d st) (cell_speech who d st) old e.first stage.First cell_is new e.leaves.at
      (turn.Done e.leaves.outcome) e.leaves.came).number

  cell_left : IsLeftWord who (calls.WaitFor d st) (cell_ways who d st) (await_says old new d st (until.Left seen) e)
      minus_512
  cell_left =
      let asked = await_left_asked e.leaves.at.of e.leaves.outcome seen e.leaves.answer in
      subst (λ (a : Answer). IsLeftWord who (calls.WaitFor d st) (cell_ways who d st)
      (await_says old new d st (until.Left seen) e) a) asked.1
      (left_word await_table await_exits who (calls.WaitFor d st) (cell_ways who d st) (CellAt who d st)
      (Fine who d st) (cell_speech who d st) law.table law.ruled.whole.interleaved old e.first stage.First cell_is
      (λ _ _. out) (λ v a h. h) tt new e.leaves.at e.leaves.outcome e.leaves.came (gone_by await_table await_exits old
      e.first stage.First new e.leaves.at (turn.Done e.leaves.outcome) e.leaves.came asked.0 e.fresh.unasked)
      (λ r q ts tells. (tells.ranged, takes_none (answer_to_await e.leaves.outcome) asked.1)) cell_before)

pub left_awaits_follow : (A : Type 0) → LeftAwaitsFollow A
left_awaits_follow A old new d st seen law out e = cell_left old new d st seen law out e
