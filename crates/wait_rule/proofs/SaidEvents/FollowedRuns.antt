-- What a task makes of a call follows the sentence of the call.
use Rattle.std.proofs.lemmas.Bool.{both_ways}
use Rattle.std.proofs.Common.{refl, sym, ◌∙◌, ap, subst, arith, append_assoc}
use Rattle.std.specs.Prelude.{ℕ, ◌≡◌, ◌<◌, Bool, true, false, if◌then◌else◌, Option, Some, None, is_some, List, [], ◌∷◌}
use Rattle.std.specs.Prelude.{◌++◌}
use Rattle.wait_model.specs.{declared.calls.Call.Call, declared.calls.Event.Event, declared.calls.Answer.Answer}
use Rattle.wait_model.specs.{declared.layout.TheConstants.SLOTS, declared.points.Given.Given, declared.points.Next.Next}
use Rattle.wait_model.specs.{declared.points.Planned.Planned, declared.points.Seen.Seen, declared.points.Point.Point}
use Rattle.wait_model.specs.{declared.steps.Step.Step, declared.watches.Entry.Entry, Watches.is_done, Watches.owner}
use Rattle.wait_model.specs.{Points.call_watch, Tables.Table}
use Rattle.wait_model.specs.Programs.{program, program_start, go, finished}
use Rattle.wait_model.specs.Findings.{Noted, none_noted, notes, is_waiting, MayComeTo}
use Rattle.wait_model.specs.declared.calls.Call.TheVariants as calls
use Rattle.wait_model.specs.declared.calls.Event.TheVariants as event
use Rattle.wait_model.specs.declared.points.Next.TheVariants as next
use Rattle.wait_model.specs.declared.points.Point.TheVariants as at
use Rattle.wait_model.specs.declared.points.PreparePoint.TheVariants as preparing
use Rattle.wait_model.specs.declared.points.LeavePoint.TheVariants as leaving
use Rattle.wait_model.specs.declared.points.FinishPoint.TheVariants as finishing
use Rattle.wait_model.specs.declared.points.AwaitPoint.TheVariants as awaiting
use Rattle.wait_model.specs.declared.points.PagePoint.TheVariants as paging
use Rattle.wait_model.specs.declared.points.RemovePoint.TheVariants as removing
use Rattle.wait_model.specs.declared.points.BitPoint.TheVariants as biting
use Rattle.wait_model.specs.declared.points.AddPoint.TheVariants as adding
use Rattle.wait_model.specs.declared.points.WokenPoint.TheVariants as hearing
use Rattle.wait_model.specs.declared.points.SelectPoint.TheVariants as selecting
use Rattle.wait_model.specs.declared.points.CountPoint.TheVariants as counting
use Rattle.wait_model.specs.declared.steps.Step.TheVariants as step
use Rattle.wait_model.proofs.SentenceLaws.SentenceRests.{Knows, Says, left_at}
use Rattle.wait_model.proofs.SentenceLaws.SentenceCalls.{rest_of, start_said, says}
use Rattle.wait_rule.specs.{Items.steps_of, Interleavings.IsInterleaved, Known.Known, Queues.index, Says.history_of}
use Rattle.wait_rule.specs.Says.{told_of}
use Rattle.wait_rule.specs.SaidEvents.{said, is_walking, RunsFollow}
use Rattle.wait_rule.specs.Transitions.{Finds, FindsAt, Goes, IsMadeFor, IsSeenAs, Program, StepOrLook, Transition}
use Rattle.wait_rule.specs.Transitions.{after_transition, by_look, by_step, call_program}
use Rattle.wait_rule.proofs.KnownLaws.Moments.{moment_of, next_step}
use Rattle.wait_rule.proofs.TableSteps.ItemLists.{steps_append}
use Rattle.wait_rule.proofs.SaidEvents.OwnFindings.{own_off, peek_off}
use Rattle.wait_rule.proofs.SaidEvents.Fronts.{IsOff, off_on, off_still, queued_before, step_follows, steps_made}

-- where a program reads the own entry
abbrev reads_entry : Point → Bool
reads_entry (at.Prepare preparing.Queue) = true
reads_entry (at.Leave leaving.Queue) = true
reads_entry (at.Finish finishing.Look failed) = true
reads_entry (at.Finish finishing.Queue failed) = true
reads_entry (at.Await (awaiting.Off stopped)) = true
reads_entry (at.Page (paging.Finish finishing.Look)) = true
reads_entry (at.Page (paging.Finish finishing.Queue)) = true
reads_entry (at.Remove removing.Lock) = true
reads_entry _ = false

-- points of walks
abbrev is_walk : Point → Bool
is_walk (at.Walk p) = true
is_walk _ = false

-- elsewhere it does not matter
entry_unread : (me : ℕ) (call : Call) (p : Point) (seen : Seen) → is_walk p ≡ false → reads_entry p ≡ false
    → program me call p (record seen { entry = None }) ≡ program me call p seen
entry_unread me call (at.Prepare preparing.Queue) seen walks is_false = absurd (cc)
entry_unread me call (at.Leave leaving.Queue) seen walks is_false = absurd (cc)
entry_unread me call (at.Finish finishing.Look failed) seen walks is_false = absurd (cc)
entry_unread me call (at.Finish finishing.Queue failed) seen walks is_false = absurd (cc)
entry_unread me call (at.Await (awaiting.Off stopped)) seen walks is_false = absurd (cc)
entry_unread me call (at.Page (paging.Finish finishing.Look)) seen walks is_false = absurd (cc)
entry_unread me call (at.Page (paging.Finish finishing.Queue)) seen walks is_false = absurd (cc)
entry_unread me call (at.Await (awaiting.Last true)) seen walks is_false = refl
entry_unread me call (at.Await (awaiting.Last false)) seen walks is_false = refl
entry_unread me call (at.Remove removing.Lock) seen walks is_false = absurd (cc)
entry_unread me call (at.Walk p) seen walks is_false = absurd (cc)
entry_unread me call (at.Bit biting.Try) seen walks is_false = refl
entry_unread me call (at.Add adding.Lock) seen walks is_false = refl
entry_unread me call (at.Woken hearing.State) seen walks is_false = refl
entry_unread me call (at.Select selecting.Lock) seen walks is_false = refl
entry_unread me call (at.Count counting.Peek) seen walks is_false = refl
entry_unread me call p seen walks is_false = refl

is_none : (o : Option Entry) → is_some o ≡ false → o ≡ None
is_none None h = refl
is_none (Some e) h = absurd (cc)

with_none : (seen : Seen) → seen.entry ≡ None → record seen { entry = None } ≡ seen
with_none seen is = λ i. record seen { entry = sym is i }

come_to : (call : Call) (p : Point) (seen : Seen) → is_walk p ≡ false → MayComeTo call p seen
come_to call (at.Walk p) seen is_false = absurd (cc)
come_to call p seen is_false = tt

-- a call that does not walk has nothing to say there
unspoken : (me : ℕ) (call : Call) (m : Noted) (p : Point) → is_walking call ≡ false → is_walk p ≡ true
    → (w : List Event) (a : Answer) → rest_of me call m p w a
unspoken me (calls.Wake c mode n) m p quiet is w a = absurd (cc)
unspoken me (calls.ClearBit i b) m p quiet is w a = absurd (cc)
unspoken me (calls.SetVar v x) m p quiet is w a = absurd (cc)
unspoken me call m (at.Walk p) quiet is w a = tt
unspoken me call m p quiet is w a = absurd (cc)

owner_own : (me slot : ℕ) → slot < SLOTS → owner (index me slot) ≡ me
unfolding owner
owner_own me slot small = omega (arith, small)

-- a look at the own entry that finds it is a load of its word
peeked : (k : Known) (x : ℕ) (g : Given) (q : Point) (other : Planned) (o : Option Entry) (did : StepOrLook)
    → IsMadeFor k (Some x) g (if is_some o then go (event.Queued true) q else other).event did → is_some o ≡ true
    → (w : ℕ) × (did ≡ by_step (step.Peek x w))
peeked k x g q other None did made some = absurd (cc)
peeked k x g q other (Some d) (by_step (step.Peek y w)) made some = (
  w,
  let same : x ≡ y = cc in
      ap (λ (i : ℕ). by_step (step.Peek i w)) (sym same),
)
peeked k x g q other (Some d) (by_step e) made some = absurd made
peeked k x g q other (Some d) (by_look xs) made some = absurd made

module _ (s : Table) (all : IsInterleaved s) (me : ℕ) (call : Call) (slot : ℕ) (small : slot < SLOTS)
    (plain : is_done (call_watch call) ≡ false) (quiet : is_walking call ≡ false) where
  abbrev f : Program
  f = call_program me slot call

  abbrev x : ℕ
  x = index me slot

  -- an own entry that the history has not stored is found off
  module _ (t : Transition) (rest : List Step)
      (split : s.history me ≡ history_of t.knew ++ (steps_made t.did ++ rest)) (out : IsOff t.knew x) where
    seen_off : IsSeenAs ((told_of t.knew).hold.book x) t.seen.entry → t.seen.entry ≡ None
    seen_off h = own_off me (history_of t.knew)
        (moment_of s all me (history_of t.knew) (steps_made t.did ++ rest) split) x (owner_own me slot small) out
        t.seen.entry h

    looked_off : (p q : Point) (other : Planned) → IsMadeFor t.knew (Some x) (f.given p)
        (if is_some t.seen.entry then go (event.Queued true) q else other).event t.did
        → Finds t.knew f p t.did t.seen → t.seen.entry ≡ None
    looked_off p q other made finds = by (is_some t.seen.entry) refl
      where
        by : (b : Bool) → is_some t.seen.entry ≡ b → t.seen.entry ≡ None
        by false none = is_none t.seen.entry none
        by true some =
            let look = peeked t.knew x (f.given p) q other t.seen.entry t.did made some in
            let found : Finds t.knew f p (by_step (step.Peek x look.0)) t.seen =
            subst (λ (d : StepOrLook). Finds t.knew f p d t.seen) look.1 finds in
            peek_off me (history_of t.knew) x look.0 (next_step s all me (history_of t.knew) (step.Peek x look.0) rest
            (subst (λ (d : StepOrLook). s.history me ≡ history_of t.knew ++ (steps_made d ++ rest)) look.1 split))
            (owner_own me slot small) out t.seen.entry found.0

    finds_at : (p : Point) (did : StepOrLook) → Finds t.knew f p did t.seen
        → FindsAt t.knew (Some x) f.form (f.given p) p t.seen
    finds_at p (by_step e) finds = finds.1
    finds_at p (by_look xs) finds = finds

    removed_off : (y : ℕ) → Some x ≡ Some y → t.seen.entry ≡ (told_of t.knew).bits.stored y → t.seen.entry ≡ None
    removed_off y same is = let q : y ≡ x = cc in
        is ∙ (ap (told_of t.knew).bits.stored q ∙ out)

    pub found_off : (p : Point) → IsMadeFor t.knew (Some x) (f.given p) (program me call p t.seen).event t.did
        → Finds t.knew f p t.did t.seen → reads_entry p ≡ true → t.seen.entry ≡ None
    found_off (at.Prepare preparing.Queue) made finds reads =
        seen_off (finds_at (at.Prepare preparing.Queue) t.did finds).0
    found_off (at.Leave leaving.Queue) made finds reads =
        seen_off (finds_at (at.Leave leaving.Queue) t.did finds)
    found_off (at.Finish finishing.Look failed) made finds reads = looked_off (at.Finish finishing.Look failed)
        (at.Finish finishing.Lock failed) (finished call failed (event.Queued false)) made finds
    found_off (at.Finish finishing.Queue failed) made finds reads =
        seen_off (finds_at (at.Finish finishing.Queue failed) t.did finds)
    found_off (at.Await (awaiting.Off stopped)) made finds reads =
        seen_off (finds_at (at.Await (awaiting.Off stopped)) t.did finds).0
    found_off (at.Page (paging.Finish finishing.Look)) made finds reads =
        looked_off (at.Page (paging.Finish finishing.Look)) (at.Page (paging.Finish finishing.Lock))
        (go (event.Queued false) (at.Page paging.Last)) made finds
    found_off (at.Page (paging.Finish finishing.Queue)) made finds reads =
        seen_off (finds_at (at.Page (paging.Finish finishing.Queue)) t.did finds)
    found_off (at.Remove removing.Lock) made finds reads =
        let h = finds_at (at.Remove removing.Lock) t.did finds in removed_off h.0 h.1 h.2
    found_off p made finds reads = absurd (cc)

  -- what the sentence needs of what the task finds
  knows : (p : Point) (m : Noted) (seen : Seen) → is_walk p ≡ false
      → (is_waiting call ≡ true → m.queued ≡ false → seen.entry ≡ None) → Knows call p m seen
  knows p m seen is_false off = record {
    off = off;
    range = λ d. absurd (both_ways true (sym d ∙ plain) refl);
    count = λ d. absurd (both_ways true (sym d ∙ plain) refl);
    walk = come_to call p seen is_false;
  }

  abbrev Spoken : Point → Noted → Planned → Type 0
  Spoken p m plan = Says (rest_of me call) m plan (rest_of me call m p)

  spoken : (p : Point) (m : Noted) (seen : Seen) → is_walk p ≡ false
      → (is_waiting call ≡ true → m.queued ≡ false → reads_entry p ≡ true → seen.entry ≡ None)
      → Spoken p m (program me call p seen)
  spoken p m seen is_false off = by (is_waiting call) refl m.queued refl
    where
      same : is_waiting call ≡ true → m.queued ≡ false → (r : Bool) → reads_entry p ≡ r
          → program me call p (record seen { entry = None }) ≡ program me call p seen
      same w z false r = entry_unread me call p seen is_false r
      same w z true r = ap (program me call p) (with_none seen (off w z r))

      by : (b : Bool) → is_waiting call ≡ b → (q : Bool) → m.queued ≡ q → Spoken p m (program me call p seen)
      by false not_waiting q is = says me m call p seen
          (knows p m seen is_false (λ w z. absurd (both_ways false refl (sym not_waiting ∙ w))))
      by true waiting true is = says me m call p seen
          (knows p m seen is_false (λ w z. absurd (both_ways true (sym is ∙ z) refl)))
      by true waiting false is = subst (Spoken p m) (same waiting is (reads_entry p) refl)
          (says me m call p (record seen { entry = None })
          (knows p m (record seen { entry = None }) is_false (λ _ _. refl)))

  -- the events after the first
  tail : (m : Noted) (k new : Known) (a : Answer) (ts : List Transition)
      → ((q : Point) → Goes f k (next.Go q) ts new (next.Ends a) → rest_of me call m q (said f (next.Go q) ts) a)
      → (n : Next) → Goes f k n ts new (next.Ends a) → left_at (rest_of me call m) n (said f n ts) a
  tail m k new a ts rec (next.Go q) g = rec q g
  tail m k new a [] rec (next.Ends b) g = let z : next.Ends a ≡ next.Ends b = g.1 in cc
  tail m k new a (t ∷ ts) rec (next.Ends b) g = absurd g

  pub first_said : (p : Point) (m : Noted) (seen : Seen) (w : List Event) (a : Answer)
      → (is_waiting call ≡ true → m.queued ≡ false → reads_entry p ≡ true → seen.entry ≡ None)
      → left_at (rest_of me call (notes m (program me call p seen).event)) (program me call p seen).next w a
      → rest_of me call m p ((program me call p seen).event ∷ w) a
  first_said p m seen w a off left = by (is_walk p) refl
    where
      by : (b : Bool) → is_walk p ≡ b → rest_of me call m p ((program me call p seen).event ∷ w) a
      by true is = unspoken me call m p quiet is ((program me call p seen).event ∷ w) a
      by false is = spoken p m seen is off w a left

  follows : (ts : List Transition) (p : Point) (m : Noted) (old new : Known) (a : Answer) (later : List Step)
      → s.history me ≡ history_of new ++ later → (is_waiting call ≡ true → m.queued ≡ false → IsOff old x)
      → Goes f old (next.Go p) ts new (next.Ends a) → rest_of me call m p (said f (next.Go p) ts) a
  follows [] p m old new a later h out g = absurd (let z : next.Ends a ≡ next.Go p = g.1 in cc)
  follows (t ∷ ts) p m old new a later h out g =
      let ev : Event = (program me call p t.seen).event in
      let r = step_follows f new (program me call p t.seen).next (next.Ends a) t ts g.1 in
      let split : s.history me ≡ history_of t.knew ++ (steps_made t.did ++ (r.0 ++ later)) =
      h ∙ (ap (λ (es : List Step). es ++ later) r.1
      ∙ (append_assoc (history_of t.knew) (steps_made t.did ++ r.0) later
      ∙ ap (λ (es : List Step). history_of t.knew ++ es) (append_assoc (steps_made t.did) r.0 later))) in
      first_said p m t.seen (said f (program me call p t.seen).next ts) a
      (λ w z reads. found_off t (r.0 ++ later) split (off_on old t.knew x g.0.looks (out w z)) p g.0.is g.0.finds reads)
      (tail (notes m ev) (after_transition t) new a ts
      (λ q on. follows ts q (notes m ev) (after_transition t) new a later h
      (λ w z. off_still t.knew (Some x) (f.given p) ev t.did m x g.0.is z
      (off_on old t.knew x g.0.looks (out w (queued_before m ev z)))) on)
      (program me call p t.seen).next g.1)

pub runs_follow : RunsFollow
runs_follow s items ruled call slot old new a more list small plain quiet begins m =
    start_said old.view.number call
    (said (call_program old.view.number slot call) (next.Go (program_start call)) m.transitions) a
    (follows s ruled.whole.interleaved old.view.number call slot small plain quiet m.transitions (program_start call)
    none_noted old new a (steps_of more)
    (ruled.histories old.view.number ∙ (ap steps_of list ∙ steps_append new.view.items more)) (λ w z. begins w) m.goes)
