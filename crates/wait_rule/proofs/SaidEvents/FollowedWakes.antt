-- What a task makes of a call that walks follows the sentence of the call: of a wake of a plain condition, of a bit
-- that is given back, and of a variable that is published.
use Rattle.std.proofs.lemmas.Bool.{both_ways}
use Rattle.std.proofs.Common.{refl, sym, ◌∙◌, ap, subst, append_assoc}
use Rattle.std.specs.Prelude.{ℕ, ◌≡◌, ◌≤◌, ◌<◌, Bool, true, false, is_some, Option, Some, List, [], ◌∷◌, ◌++◌}
use Rattle.wait_model.specs.{declared.layout.TheConstants.BREAK, declared.calls.Call.Call, declared.calls.Answer.Answer}
use Rattle.wait_model.specs.{declared.queues.Walking.Walking, declared.watches.Aim.Aim, declared.points.Planned.Planned}
use Rattle.wait_model.specs.{declared.points.Next.Next, declared.points.Seen.Seen, declared.points.Point.Point}
use Rattle.wait_model.specs.{declared.steps.Step.Step, Tables.Table, Watches.head_of, Watches.is_done, Points.call_aim}
use Rattle.wait_model.specs.{Points.call_watch, Runs.arrives_from, SentenceWalks.shares_head}
use Rattle.wait_model.specs.Programs.{active_event, program, program_start}
use Rattle.wait_model.specs.Findings.{Noted, is_waiting, none_noted, notes, MayComeTo}
use Rattle.wait_model.specs.declared.calls.Call.TheVariants as calls
use Rattle.wait_model.specs.declared.points.Next.TheVariants as next
use Rattle.wait_model.specs.declared.points.Point.TheVariants as at
use Rattle.wait_model.specs.declared.points.WalkPoint.TheVariants as walking
use Rattle.wait_model.proofs.SentenceLaws.SentenceRests.{Knows, left_at}
use Rattle.wait_model.proofs.SentenceLaws.SentenceCalls.{rest_of, says, start_said}
use Rattle.wait_rule.specs.{Interleavings.IsInterleaved, Items.steps_of, Known.Known, Says.history_of}
use Rattle.wait_rule.specs.{Shown.shown_entry, Shown.shown_queue}
use Rattle.wait_rule.specs.SaidEvents.{said, is_walking, MayWalk, WakesFollow}
use Rattle.wait_rule.specs.Transitions.{Finds, FindsNext, Goes, Program, StepOrLook, Transition, after_transition}
use Rattle.wait_rule.specs.Transitions.{by_look, by_step, call_program}
use Rattle.wait_rule.proofs.{KnownLaws.Moments.Moment, KnownLaws.Moments.moment_of, TableSteps.ItemLists.steps_append}
use Rattle.wait_rule.proofs.{SaidEvents.Fronts.step_follows, SaidEvents.Fronts.steps_made}
use Rattle.wait_rule.proofs.SaidEvents.FollowedWalks.{head_by, head_in, head_on, made_head, walk_holds, HeldAt, HeldOn}
use Rattle.wait_rule.proofs.SaidEvents.WalkFindings.{Arrives, arrives, no_strangers, some_called}

module _ (s : Table) (all : IsInterleaved s) (me slot : ℕ) (call : Call) (walks : is_walking call ≡ true)
    (may : MayWalk call) where
  abbrev f : Program
  f = call_program me slot call

  abbrev aim : Aim
  aim = call_aim call

  -- the points of such a call, and that its head is held at those of a walk but its locks
  abbrev At : Point → Option ℕ → Type 0
  At at.Publish o = Unit {0}
  At at.Active o = Unit {0}
  At (at.Walk p) o = HeldAt aim p o
  At p o = ⊥

  abbrev On : Option ℕ → Next → Type 0
  On o (next.Go p) = At p o
  On o (next.Ends a) = Unit {0}

  walk_on : (o : Option ℕ) (n : Next) → HeldOn aim o n → On o n
  walk_on o (next.Go (at.Walk p)) held = held
  walk_on o (next.Go p) held = absurd held
  walk_on o (next.Ends a) held = tt

  active_on : (o : Option ℕ) (hit : Bool) → On o (active_event call hit).next
  active_on o true = tt
  active_on o false = tt

  stays_at : (o : Option ℕ) (p : Point) (seen : Seen) → At p o
      → On (head_by (program me call p seen).event o) (program me call p seen).next
  stays_at o at.Publish seen held = tt
  stays_at o at.Active seen held = active_on (head_by (active_event call seen.members).event o) seen.members
  stays_at o (at.Walk p) seen held = walk_on (head_by (program me call (at.Walk p) seen).event o)
      (program me call (at.Walk p) seen).next (walk_holds aim o p seen held)
  stays_at o p seen held = absurd held

  start_at : (o : Option ℕ) → At (program_start call) o
  start_at o = by call walks
    where
      by : (c : Call) → is_walking c ≡ true → At (program_start c) o
      by (calls.Wake c mode n) is = tt
      by (calls.ClearBit w b) is = tt
      by (calls.SetVar v x) is = tt
      by c is = absurd (cc)

  not_done : is_done (call_watch call) ≡ false
  not_done = by call walks
    where
      by : (c : Call) → is_walking c ≡ true → is_done (call_watch c) ≡ false
      by (calls.Wake c mode n) is = refl
      by (calls.ClearBit w b) is = refl
      by (calls.SetVar v x) is = refl
      by c is = absurd (cc)

  not_waiting : is_waiting call ≡ false
  not_waiting = by call walks
    where
      by : (c : Call) → is_walking c ≡ true → is_waiting c ≡ false
      by (calls.Wake c mode n) is = refl
      by (calls.ClearBit w b) is = refl
      by (calls.SetVar v x) is = refl
      by c is = absurd (cc)

  -- where the walk goes on, by the queue that its hold shows
  abbrev ComesTo : Call → Walking → Transition → Type 0
  ComesTo c w t = FindsNext t.knew
      (arrives_from (shown_entry t.knew) (call_watch c) w.place w.calls (shown_queue t.knew)) t.seen

  finds_next : (w : Walking) (t : Transition) (did : StepOrLook) → Finds t.knew f (at.Walk (walking.Call w)) did t.seen
      → ComesTo call w t
  finds_next w t (by_step e) finds = finds.1
  finds_next w t (by_look xs) finds = finds

  -- at the head of one watch it passes no strangers
  passes_none : (w : Walking) (t : Transition) → Moment me (history_of t.knew)
      → head_in t.knew ≡ Some (head_of (call_watch call)) → ComesTo call w t
      → shares_head (call_watch call) ≡ false → t.seen.calls ≡ w.calls
  passes_none w t z held finds alone = by call walks may held finds alone
    where
      by : (c : Call) → is_walking c ≡ true → MayWalk c → head_in t.knew ≡ Some (head_of (call_watch c))
          → ComesTo c w t → shares_head (call_watch c) ≡ false → t.seen.calls ≡ w.calls
      by (calls.Wake c mode n) is small at_head found lone = found.calls
          ∙ no_strangers me t.knew z c small at_head w.place w.calls
      by (calls.ClearBit i b) is small at_head found lone = absurd (cc)
      by (calls.SetVar v x) is small at_head found lone = absurd (cc)
      by c is small at_head found lone = absurd (cc)

  may_come : (w : Walking) (t : Transition) → Moment me (history_of t.knew)
      → head_in t.knew ≡ Some (head_of (call_watch call)) → ComesTo call w t
      → MayComeTo call (at.Walk (walking.Call w)) t.seen
  may_come w t z held finds =
      let r = arrives_from (shown_entry t.knew) (call_watch call) w.place w.calls (shown_queue t.knew) in
      let k : Arrives w.calls r = arrives _ w.calls _ in (
        subst (λ (j : ℕ). w.calls ≤ j) (sym finds.calls) k.more,
        passes_none w t z held finds,
        λ b. subst (λ (j : ℕ). BREAK < j) (sym finds.calls) (k.many (sym finds.breaks ∙ b)),
        λ b d. subst (λ (j : ℕ). j ≤ BREAK) (sym finds.calls) (k.few (sym finds.breaks ∙ b)
            (some_called (shown_entry t.knew) r.breaks r.member (sym finds.breaks ∙ b)
            (ap is_some (sym finds.called) ∙ d))),
      )

  come_to : (p : Point) (t : Transition) → Moment me (history_of t.knew) → At p (head_in t.knew)
      → Finds t.knew f p t.did t.seen → MayComeTo call p t.seen
  come_to (at.Walk (walking.Call w)) t z held finds = may_come w t z held (finds_next w t t.did finds)
  come_to p t z held finds = tt

  knows : (p : Point) (m : Noted) (seen : Seen) → MayComeTo call p seen → Knows call p m seen
  knows p m seen come = record {
    off = λ w. absurd (both_ways true (sym w ∙ not_waiting) refl);
    range = λ d. absurd (both_ways true (sym d ∙ not_done) refl);
    count = λ d. absurd (both_ways true (sym d ∙ not_done) refl);
    walk = come;
  }

  tail : (m : Noted) (k new : Known) (a : Answer) (ts : List Transition)
      → ((q : Point) → At q (head_in k) → Goes f k (next.Go q) ts new (next.Ends a)
      → rest_of me call m q (said f (next.Go q) ts) a)
      → (nx : Next) → On (head_in k) nx → Goes f k nx ts new (next.Ends a) → left_at (rest_of me call m) nx
      (said f nx ts) a
  tail m k new a ts rec (next.Go q) held g = rec q held g
  tail m k new a [] rec (next.Ends b) held g = let z : next.Ends a ≡ next.Ends b = g.1 in cc
  tail m k new a (t ∷ ts) rec (next.Ends b) held g = absurd g

  at_knew : (p : Point) (old : Known) (t : Transition) → head_in t.knew ≡ head_in old → At p (head_in old)
      → At p (head_in t.knew)
  at_knew p old t same = subst (At p) (sym same)

  pub follows : (ts : List Transition) (p : Point) (m : Noted) (old new : Known) (a : Answer) (later : List Step)
      → s.history me ≡ history_of new ++ later → At p (head_in old) → Goes f old (next.Go p) ts new (next.Ends a)
      → rest_of me call m p (said f (next.Go p) ts) a
  follows [] p m old new a later same held g = absurd (let z : next.Ends a ≡ next.Go p = g.1 in cc)
  follows (t ∷ ts) p m old new a later same held g =
      let plan : Planned = program me call p t.seen in
      let r = step_follows f new plan.next (next.Ends a) t ts g.1 in
      let split : s.history me ≡ history_of t.knew ++ (steps_made t.did ++ (r.0 ++ later)) =
      same ∙ (ap (λ (es : List Step). es ++ later) r.1
      ∙ (append_assoc (history_of t.knew) (steps_made t.did ++ r.0) later
      ∙ ap (λ (es : List Step). history_of t.knew ++ es) (append_assoc (steps_made t.did) r.0 later))) in
      let held_knew : At p (head_in t.knew) = at_knew p old t (head_on old t.knew g.0.looks) held in
      let z : Moment me (history_of t.knew) =
      moment_of s all me (history_of t.knew) (steps_made t.did ++ (r.0 ++ later)) split in
      says me m call p t.seen (knows p m t.seen (come_to p t z held_knew g.0.finds)) (said f plan.next ts) a
      (tail (notes m plan.event) (after_transition t) new a ts
      (λ q on more. follows ts q (notes m plan.event) (after_transition t) new a later same on more) plan.next
      (subst (λ (o : Option ℕ). On o plan.next) (sym (made_head t.knew f.own (f.given p) plan.event t.did g.0.is))
      (stays_at (head_in t.knew) p t.seen held_knew)) g.1)

pub wakes_follow : WakesFollow
wakes_follow s items ruled call slot old new a more list walks may m =
    start_said old.view.number call
    (said (call_program old.view.number slot call) (next.Go (program_start call)) m.transitions) a
    (follows s ruled.whole.interleaved old.view.number slot call walks may m.transitions (program_start call) none_noted
    old new a (steps_of more)
    (ruled.histories old.view.number ∙ (ap steps_of list ∙ steps_append new.view.items more))
    (start_at s ruled.whole.interleaved old.view.number slot call walks may _) m.goes)
