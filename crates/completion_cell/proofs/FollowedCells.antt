-- What a task makes of a call on a completion follows the sentence of the call: the counts that it has loaded are in
-- their range, and while it holds the head its count stays as its hold has loaded it.
use Rattle.std.proofs.Common.{refl, sym, ◌∙◌, ap, subst, arith, append_assoc, eq-eqb}
use Rattle.std.specs.Prelude.{ℕ, ◌≡◌, ◌≤◌, ◌==◌, Bool, true, false, if◌then◌else◌, Option, Some, None, List, [], ◌∷◌}
use Rattle.std.specs.Prelude.{◌++◌}
use Rattle.wait_model.specs.{declared.layout.TheConstants.ALL_DONE, declared.calls.Answer.Answer}
use Rattle.wait_model.specs.{declared.calls.Call.Call, declared.calls.Event.Event, declared.points.Given.Given}
use Rattle.wait_model.specs.{declared.points.Next.Next, declared.points.Planned.Planned, declared.points.Point.Point}
use Rattle.wait_model.specs.{declared.points.Seen.Seen, declared.steps.Step.Step, declared.watches.Watch.Watch}
use Rattle.wait_model.specs.{Counts.taken_done, Points.call_number, Points.call_watch, Rows.Allowed, Sentences.Follows}
use Rattle.wait_model.specs.{Tables.Table, Watches.is_done, Watches.owner}
use Rattle.wait_model.specs.Findings.{Noted, is_waiting, none_noted, notes}
use Rattle.wait_model.specs.Programs.{completed, done_in, ends_with, go, load, program, program_start, takes}
use Rattle.wait_model.specs.Programs.{zero_answer}
use Rattle.wait_model.specs.declared.calls.Call.TheVariants as calls
use Rattle.wait_model.specs.declared.calls.Event.TheVariants as event
use Rattle.wait_model.specs.declared.points.AwaitPoint.TheVariants as awaiting
use Rattle.wait_model.specs.declared.points.CountPoint.TheVariants as counting
use Rattle.wait_model.specs.declared.points.Next.TheVariants as next
use Rattle.wait_model.specs.declared.points.Point.TheVariants as at
use Rattle.wait_model.specs.declared.points.PreparePoint.TheVariants as preparing
use Rattle.wait_model.specs.declared.points.SelectPoint.TheVariants as selecting
use Rattle.wait_model.specs.declared.steps.Step.TheVariants as step
use Rattle.wait_model.specs.declared.watches.Watch.TheVariants as watch
use Rattle.wait_model.proofs.{SentenceLaws.SentenceCalls.rest_of, SentenceLaws.SentenceCalls.start_said}
use Rattle.wait_model.proofs.{SentenceLaws.SentenceRests.left_at, WaitLaws.OutsideStages.either}
use Rattle.wait_rule.specs.{declared.journal.Item.Item, Items.steps_of, Known.Known, LeftEntries.Order, Queues.index}
use Rattle.wait_rule.specs.{Rule.IsRuled, SaidEvents.MayOpen, SaidEvents.said, Says.history_of, Says.told_of}
use Rattle.wait_rule.specs.HeldValues.{CountsStand, count_in, value_after, value_from}
use Rattle.wait_rule.specs.Interleavings.{AreAllowed, IsInterleaved, TaskStep, table_of}
use Rattle.wait_rule.specs.Transitions.{Finds, FindsAt, Goes, IsMadeFor, IsSeenAs, OnlyLooks, Program, StepOrLook}
use Rattle.wait_rule.specs.Transitions.{Transition, after_step_or_look, after_transition, by_look, by_step}
use Rattle.wait_rule.specs.Transitions.{call_program}
use Rattle.wait_rule.proofs.{KnownLaws.HandedSteps.OrderStep, KnownLaws.HandedSteps.order_step}
use Rattle.wait_rule.proofs.{KnownLaws.HeldCounts.counts_next, KnownLaws.Moments.kept_of, KnownLaws.Moments.moment_of}
use Rattle.wait_rule.proofs.{SaidEvents.OwnFindings.own_off, TableSteps.ItemLists.steps_append}
use Rattle.wait_rule.proofs.SaidEvents.Fronts.{IsOff, off_on, off_still, queued_before, step_follows, step_history}
use Rattle.wait_rule.proofs.SaidEvents.Fronts.{steps_made}
use Rattle.completion_cell.specs.LoadedCounts.{AreInRange, InRange}
use Rattle.completion_cell.proofs.CellPoints.{FindsThere, ShowsLoad, cell_spoken, is_cell_point, loads_at, loads_shown}
use Rattle.completion_cell.proofs.CellPoints.{reads_entry, unspoken, uses_at}
use Rattle.completion_cell.proofs.Ground.{looked_count, value_append}

-- in each table of an interleaving a held count stands as its hold has loaded or stored it
counts_stand : (xs : List TaskStep) → AreAllowed xs → CountsStand (table_of xs)
counts_stand [] may = λ a d n held counts. absurd (let z : ◌≡◌ {A = Option ℕ} None (Some n) = counts in cc)
counts_stand (x ∷ xs) may = counts_next (table_of xs) x.task x.made may.1 (kept_of xs may.2).facts.one_holder
    (counts_stand xs may.2)

some_is : (n m : ℕ) → ◌≡◌ {A = Option ℕ} (Some n) (Some m) → n ≡ m
some_is n m is = cc

-- so a store finds what the hold has loaded
module _ (me : ℕ) (front : List Step) (d n : ℕ) (counted : count_in d front ≡ Some n) where
  publish_finds : (w : Watch) (m r : ℕ) → w ≡ watch.Done d → OrderStep me front (step.Publish w m r) → r ≡ n
  publish_finds w m r same o =
      let a : Allowed (table_of o.order.steps) me (step.Publish (watch.Done d) m r) =
      subst (λ (c : Watch). Allowed (table_of o.order.steps) me (step.Publish c m r)) same o.allowed in
      a.2 ∙ counts_stand o.order.steps o.order.may me d n a.0 (ap (count_in d) o.order.is ∙ counted)

  consume_finds : (w : Watch) (m r : ℕ) → w ≡ watch.Done d → OrderStep me front (step.Consume w m r) → r ≡ n
  consume_finds w m r same o =
      let a : Allowed (table_of o.order.steps) me (step.Consume (watch.Done d) m r) =
      subst (λ (c : Watch). Allowed (table_of o.order.steps) me (step.Consume c m r)) same o.allowed in
      a.2 ∙ counts_stand o.order.steps o.order.may me d n a.1 (ap (count_in d) o.order.is ∙ counted)

-- the points at which some of these calls use the count
abbrev is_use : Point → Bool
is_use (at.Await (awaiting.Off false)) = true
is_use (at.Await (awaiting.Last false)) = true
is_use (at.Select selecting.Store) = true
is_use (at.Count counting.Store) = true
is_use _ = false

use_of : (call : Call) (p : Point) → uses_at call p ≡ true → is_use p ≡ true
use_of (calls.WaitFor d st) (at.Await (awaiting.Off false)) is = refl
use_of (calls.WaitFor d st) (at.Await (awaiting.Last false)) is = refl
use_of (calls.Complete d) (at.Select selecting.Store) is = refl
use_of (calls.TryWait d) (at.Count counting.Store) is = refl
use_of call p is = absurd (cc)

-- what a load finds
loaded_is : (k : Known) (f : Program) (p : Point) (g : Given) (c v : ℕ) (did : StepOrLook) (seen : Seen)
    → IsMadeFor k f.own g (event.Load c v) did → Finds k f p did seen → InRange did → seen.value ≤ ALL_DONE
loaded_is k f p g c v (by_step (step.Load l r)) seen made finds ranged =
    subst (λ (n : ℕ). n ≤ ALL_DONE) (sym finds.0) ranged
loaded_is k f p g c v (by_step e) seen made finds ranged = absurd made
loaded_is k f p g c v (by_look xs) seen made finds ranged = absurd made

-- the events after which a load is still the last that the call has made of its count
abbrev keeps_load : Event → Bool
keeps_load (event.State v) = true
keeps_load (event.Look hit) = true
keeps_load (event.Unqueue who) = true
keeps_load _ = false

keeps_value : (k : Known) (own : Option ℕ) (g : Given) (ev : Event) (did : StepOrLook) → keeps_load ev ≡ true
    → IsMadeFor k own g ev did → (c : Watch) (o : Option ℕ) → value_from c o (steps_made did) ≡ o
keeps_value k own g (event.State v) (by_step (step.State σ)) keeps made c o = refl
keeps_value k own g (event.State v) (by_step e) keeps made c o = absurd made
keeps_value k own g (event.Look hit) (by_step (step.Look w)) keeps made c o = refl
keeps_value k own g (event.Look hit) (by_step e) keeps made c o = absurd made
keeps_value k own g (event.Unqueue who) (by_step (step.Unqueue x)) keeps made c o = refl
keeps_value k own g (event.Unqueue who) (by_step e) keeps made c o = absurd made
keeps_value k own g (event.State v) (by_look xs) keeps made c o = absurd made
keeps_value k own g (event.Look hit) (by_look xs) keeps made c o = absurd made
keeps_value k own g (event.Unqueue who) (by_look xs) keeps made c o = absurd made
keeps_value k own g ev did keeps made c o = absurd (cc)

count_made : (d : ℕ) (k : Known) (did : StepOrLook) → count_in d (history_of (after_step_or_look did k))
    ≡ value_from (watch.Done d) (count_in d (history_of k)) (steps_made did)
count_made d k did = ap (count_in d) (step_history did k)
    ∙ value_append (watch.Done d) None (history_of k) (steps_made did)

-- a load of the call's own count
load_counts : (d : ℕ) (k : Known) (f : Program) (p : Point) (g : Given) → g.watch ≡ watch.Done d → (c v : ℕ)
    (did : StepOrLook) (seen : Seen) → IsMadeFor k f.own g (event.Load c v) did → Finds k f p did seen
    → v ≡ seen.value → count_in d (history_of (after_step_or_look did k)) ≡ Some v
load_counts d k f p g about c v (by_step (step.Load l r)) seen made finds shows =
    count_made d k (by_step (step.Load l r))
    ∙ (ap (λ (w : Watch). value_after (watch.Done d) (step.Load w r) (count_in d (history_of k))) (made ∙ about)
    ∙ (ap (λ (b : Bool). if b then Some r else count_in d (history_of k)) (eq-eqb d d refl)
    ∙ ap (λ (n : ℕ). Some n) (sym finds.0 ∙ sym shows)))
load_counts d k f p g about c v (by_step e) seen made finds shows = absurd made
load_counts d k f p g about c v (by_look xs) seen made finds shows = absurd made

module _ (s : Table) (all : IsInterleaved s) (me d : ℕ) (call : Call) (about : call_watch call ≡ watch.Done d)
    (done : is_done (call_watch call) ≡ true) where
  abbrev f : Program
  f = call_program me 0 call

  abbrev x : ℕ
  x = index me 0

  own_task : owner x ≡ me
  unfolding owner
  own_task = omega arith

  order_of : (front rest : List Step) → s.history me ≡ front ++ rest → Order me (front ++ rest)
  order_of front rest split = record {
    steps = all.steps;
    may = all.allowed;
    on = all.handed;
    is = ap (λ (t : Table). t.history me) (sym all.leads) ∙ split;
  }

  -- what the events so far tell of what the task knows
  record Ready (k : Known) (m : Noted) : Type 0 where
    off : is_waiting call ≡ true → m.queued ≡ false → IsOff k x
    few : m.loaded ≡ true → m.count ≤ ALL_DONE
    counts : m.loaded ≡ true → count_in d (history_of k) ≡ Some m.count

  -- after looks
  ready_on : (old k : Known) (m : Noted) → OnlyLooks old k → Ready old m → Ready k m
  ready_on old k m looks r = record {
    off = λ w q. off_on old k x looks (r.off w q);
    few = r.few;
    counts = λ l. looked_count d old k looks ∙ r.counts l;
  }

  -- what the task finds
  module _ (t : Transition) (m : Noted) (r : Ready t.knew m) (rest : List Step)
      (split : s.history me ≡ history_of t.knew ++ (steps_made t.did ++ rest)) where
    seen_off : IsOff t.knew x → IsSeenAs ((told_of t.knew).hold.book x) t.seen.entry → t.seen.entry ≡ None
    seen_off out h = own_off me (history_of t.knew)
        (moment_of s all me (history_of t.knew) (steps_made t.did ++ rest) split) x own_task out t.seen.entry h

    finds_at : (p : Point) (did : StepOrLook) → Finds t.knew f p did t.seen
        → FindsAt t.knew f.own f.form (f.given p) p t.seen
    finds_at p (by_step e) finds = finds.1
    finds_at p (by_look xs) finds = finds

    found_off : (p : Point) → Finds t.knew f p t.did t.seen → reads_entry p ≡ true → IsOff t.knew x
        → t.seen.entry ≡ None
    found_off (at.Prepare preparing.Queue) finds reads out =
        seen_off out (finds_at (at.Prepare preparing.Queue) t.did finds).0
    found_off (at.Await (awaiting.Off stopped)) finds reads out =
        seen_off out (finds_at (at.Await (awaiting.Off stopped)) t.did finds).0
    found_off p finds reads out = absurd (cc)

    found_range : (p : Point) → IsMadeFor t.knew f.own (f.given p) (program me call p t.seen).event t.did
        → Finds t.knew f p t.did t.seen → InRange t.did → loads_at p ≡ true → t.seen.value ≤ ALL_DONE
    found_range (at.Await (awaiting.Load waited)) made finds ranged loads = loaded_is t.knew f
        (at.Await (awaiting.Load waited)) (f.given (at.Await (awaiting.Load waited))) (call_number call) t.seen.value t.did t.seen made
        finds ranged
    found_range (at.Select selecting.Load) made finds ranged loads = loaded_is t.knew f (at.Select selecting.Load)
        (f.given (at.Select selecting.Load)) (call_number call) t.seen.value t.did t.seen made finds ranged
    found_range (at.Count counting.Load) made finds ranged loads = loaded_is t.knew f (at.Count counting.Load)
        (f.given (at.Count counting.Load)) (call_number call) t.seen.value t.did t.seen made finds ranged
    found_range (at.Count counting.Peek) made finds ranged loads = loaded_is t.knew f (at.Count counting.Peek)
        (f.given (at.Count counting.Peek)) (call_number call) t.seen.value t.did t.seen
        (subst (λ (e : Event). IsMadeFor t.knew f.own (f.given (at.Count counting.Peek)) e t.did)
        (either (λ (y : Planned). y.event ≡ load call t.seen) (t.seen.value == 0)
        (ends_with (load call t.seen) zero_answer) (go (load call t.seen) (at.Count counting.Lock)) refl refl) made)
        finds ranged
    found_range p made finds ranged loads = absurd (cc)

    -- a hold has loaded what it stores
    value_is : m.loaded ≡ true → value_from (call_watch call) None (history_of t.knew) ≡ Some t.seen.value
        → t.seen.value ≡ m.count
    value_is l finds = some_is t.seen.value m.count
        (sym finds ∙ (ap (λ (c : Watch). value_from c None (history_of t.knew)) about ∙ r.counts l))

    stored_is : (g : Given) → g.watch ≡ call_watch call → (p : Point) (c v : ℕ) (did : StepOrLook) → t.did ≡ did
        → IsMadeFor t.knew f.own g (event.Set c v) did → Finds t.knew f p did t.seen → m.loaded ≡ true
        → t.seen.value ≡ m.count
    stored_is g same p c v (by_step (step.Publish l n y)) is made finds loaded = finds.0
        ∙ publish_finds me (history_of t.knew) d m.count (r.counts loaded) l n y (made.0 ∙ (same ∙ about))
        (order_step me (history_of t.knew) (step.Publish l n y) rest (subst (λ (h : List Step). Order me h)
        (ap (λ (z : StepOrLook). history_of t.knew ++ (steps_made z ++ rest)) is)
        (order_of (history_of t.knew) (steps_made t.did ++ rest) split)))
    stored_is g same p c v (by_step (step.Consume l n y)) is made finds loaded = finds.0
        ∙ consume_finds me (history_of t.knew) d m.count (r.counts loaded) l n y (made.0 ∙ (same ∙ about))
        (order_step me (history_of t.knew) (step.Consume l n y) rest (subst (λ (h : List Step). Order me h)
        (ap (λ (z : StepOrLook). history_of t.knew ++ (steps_made z ++ rest)) is)
        (order_of (history_of t.knew) (steps_made t.did ++ rest) split)))
    stored_is g same p c v (by_step e) is made finds loaded = absurd made
    stored_is g same p c v (by_look xs) is made finds loaded = absurd made

    found_count : (p : Point) → IsMadeFor t.knew f.own (f.given p) (program me call p t.seen).event t.did
        → Finds t.knew f p t.did t.seen → is_use p ≡ true → m.loaded ≡ true → t.seen.value ≡ m.count
    found_count (at.Await (awaiting.Off false)) made finds uses loaded =
        value_is loaded (finds_at (at.Await (awaiting.Off false)) t.did finds).1
    found_count (at.Await (awaiting.Last false)) made finds uses loaded =
        value_is loaded (finds_at (at.Await (awaiting.Last false)) t.did finds)
    found_count (at.Select selecting.Store) made finds uses loaded = stored_is (f.given (at.Select selecting.Store))
        refl (at.Select selecting.Store) (call_number call) (completed call t.seen.value) t.did refl made finds loaded
    found_count (at.Count counting.Store) made finds uses loaded = stored_is (f.given (at.Count counting.Store))
        refl (at.Count counting.Store) (call_number call)
        (if takes call then taken_done (done_in t.seen.value) else 0) t.did refl made finds loaded
    found_count p made finds uses loaded = absurd (cc)

    finds_there : (p : Point) → IsMadeFor t.knew f.own (f.given p) (program me call p t.seen).event t.did
        → Finds t.knew f p t.did t.seen → InRange t.did → FindsThere call p m t.seen
    finds_there p made finds ranged = record {
      off = λ w q reads. found_off p finds reads (r.off w q);
      range = found_range p made finds ranged;
      count = λ uses loaded. found_count p made finds (use_of call p uses) loaded;
      few = r.few;
    }

    -- what it knows after the event
    record Counted (n : Noted) : Type 0 where
      few : n.loaded ≡ true → n.count ≤ ALL_DONE
      counts : n.loaded ≡ true → count_in d (history_of (after_transition t)) ≡ Some n.count

    kept_count : (g : Given) (ev : Event) → keeps_load ev ≡ true → IsMadeFor t.knew f.own g ev t.did → m.loaded ≡ true
        → count_in d (history_of (after_transition t)) ≡ Some m.count
    kept_count g ev keeps made l = count_made d t.knew t.did
        ∙ (keeps_value t.knew f.own g ev t.did keeps made (watch.Done d) (count_in d (history_of t.knew)) ∙ r.counts l)

    counted : (p : Point) (g : Given) → g.watch ≡ call_watch call → (ev : Event)
        → IsMadeFor t.knew f.own g ev t.did → Finds t.knew f p t.did t.seen → InRange t.did
        → ShowsLoad t.seen.value ev → Counted (notes m ev)
    counted p g same (event.Load c v) made finds ranged shows = record {
      few = λ _. subst (λ (n : ℕ). n ≤ ALL_DONE) (sym shows) (loaded_is t.knew f p g c v t.did t.seen made finds ranged);
      counts = λ _. load_counts d t.knew f p g (same ∙ about) c v t.did t.seen made finds shows;
    }
    counted p g same (event.State v) made finds ranged shows =
        record { few = r.few; counts = kept_count g (event.State v) refl made }
    counted p g same (event.Look hit) made finds ranged shows =
        record { few = r.few; counts = kept_count g (event.Look hit) refl made }
    counted p g same (event.Unqueue who) made finds ranged shows =
        record { few = r.few; counts = kept_count g (event.Unqueue who) refl made }
    counted p g same ev made finds ranged shows = record { few = λ l. absurd (cc); counts = λ l. absurd (cc) }

    ready_after : (p : Point) (g : Given) → g.watch ≡ call_watch call → (ev : Event)
        → IsMadeFor t.knew f.own g ev t.did → Finds t.knew f p t.did t.seen → InRange t.did
        → ShowsLoad t.seen.value ev → Ready (after_transition t) (notes m ev)
    ready_after p g same ev made finds ranged shows =
        let c : Counted (notes m ev) = counted p g same ev made finds ranged shows in record {
          off = λ w q. off_still t.knew f.own g ev t.did m x made q (r.off w (queued_before m ev q));
          few = c.few;
          counts = c.counts;
        }

  -- the events after the first
  tail : (m : Noted) (k new : Known) (a : Answer) (ts : List Transition)
      → ((q : Point) → Goes f k (next.Go q) ts new (next.Ends a) → rest_of me call m q (said f (next.Go q) ts) a)
      → (n : Next) → Goes f k n ts new (next.Ends a) → left_at (rest_of me call m) n (said f n ts) a
  tail m k new a ts rec (next.Go q) g = rec q g
  tail m k new a [] rec (next.Ends b) g = let z : next.Ends a ≡ next.Ends b = g.1 in cc
  tail m k new a (t ∷ ts) rec (next.Ends b) g = absurd g

  -- an event begins what is left of the sentence
  event_said : (t : Transition) (ts : List Transition) (p : Point) (m : Noted) (old new : Known) (a : Answer)
      (later : List Step) → s.history me ≡ history_of new ++ later → InRange t.did → Ready old m
      → Goes f old (next.Go p) (t ∷ ts) new (next.Ends a)
      → ((q : Point) → Ready (after_transition t) (notes m (program me call p t.seen).event)
      → Goes f (after_transition t) (next.Go q) ts new (next.Ends a)
      → rest_of me call (notes m (program me call p t.seen).event) q (said f (next.Go q) ts) a)
      → rest_of me call m p ((program me call p t.seen).event ∷ said f (program me call p t.seen).next ts) a
  event_said t ts p m old new a later h ranged r g rec = by (is_cell_point p) refl
    where
      split : (rest : List Step) × (s.history me ≡ history_of t.knew ++ (steps_made t.did ++ rest))
      split = let z = step_follows f new (program me call p t.seen).next (next.Ends a) t ts g.1 in (
        z.0 ++ later,
        h ∙ (ap (λ (es : List Step). es ++ later) z.1
            ∙ (append_assoc (history_of t.knew) (steps_made t.did ++ z.0) later
            ∙ ap (λ (es : List Step). history_of t.knew ++ es) (append_assoc (steps_made t.did) z.0 later))),
      )

      here : Ready t.knew m
      here = ready_on old t.knew m g.0.looks r

      by : (b : Bool) → is_cell_point p ≡ b
          → rest_of me call m p ((program me call p t.seen).event ∷ said f (program me call p t.seen).next ts) a
      by false is = unspoken me call m p done is
          ((program me call p t.seen).event ∷ said f (program me call p t.seen).next ts) a
      by true is = cell_spoken me m t.seen call p done
          (finds_there t m here split.0 split.1 p g.0.is g.0.finds ranged)
          (said f (program me call p t.seen).next ts) a
          (tail (notes m (program me call p t.seen).event) (after_transition t) new a ts
          (λ q on. rec q (ready_after t m here split.0 split.1 p (f.given p) refl (program me call p t.seen).event
          g.0.is g.0.finds ranged (loads_shown me call t.seen p is)) on) (program me call p t.seen).next g.1)

  follows : (ts : List Transition) (p : Point) (m : Noted) (old new : Known) (a : Answer) (later : List Step)
      → s.history me ≡ history_of new ++ later → AreInRange ts → Ready old m
      → Goes f old (next.Go p) ts new (next.Ends a) → rest_of me call m p (said f (next.Go p) ts) a
  follows [] p m old new a later h ranged r g = absurd (let z : next.Ends a ≡ next.Go p = g.1 in cc)
  follows (t ∷ ts) p m old new a later h ranged r g = event_said t ts p m old new a later h ranged.0 r g
      (λ q here on. follows ts q (notes m (program me call p t.seen).event) (after_transition t) new a later h ranged.1
      here on)

-- In each table that meets the rule, in which the task's list begins as it was after the call: what the task made of
-- the call follows the sentence of the call to its end.
pub cells_follow : (s : Table) (items : ℕ → List Item) → IsRuled s items → (d : ℕ) (call : Call)
    → call_watch call ≡ watch.Done d → is_done (call_watch call) ≡ true → (old new : Known) (a : Answer)
    (more : List Item) → items old.view.number ≡ new.view.items ++ more → MayOpen call 0 old
    → (ts : List Transition) → AreInRange ts
    → Goes (call_program old.view.number 0 call) old (next.Go (program_start call)) ts new (next.Ends a)
    → Follows old.view.number call (said (call_program old.view.number 0 call) (next.Go (program_start call)) ts) a
cells_follow s items ruled d call about done old new a more list begins ts ranged goes =
    start_said old.view.number call (said (call_program old.view.number 0 call) (next.Go (program_start call)) ts) a
    (follows s ruled.whole.interleaved old.view.number d call about done ts (program_start call) none_noted old new a
    (steps_of more)
    (ruled.histories old.view.number ∙ (ap steps_of list ∙ steps_append new.view.items more)) ranged
    (record {
      off = λ w q. begins w;
      few = λ l. absurd (let z : false ≡ true = l in cc);
      counts = λ l. absurd (let z : false ≡ true = l in cc);
    }) goes)
