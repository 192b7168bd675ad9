-- What a task has made of a call that is not over begins the sentence of the call.
use Rattle.std.proofs.Common.{◌∙◌, ap, subst, append_assoc}
use Rattle.std.specs.Prelude.{ℕ, ◌≡◌, ◌<◌, true, false, List, [], ◌∷◌, ◌++◌}
use Rattle.wait_model.specs.{declared.layout.TheConstants.SLOTS, declared.calls.Call.Call, declared.calls.Event.Event}
use Rattle.wait_model.specs.{declared.calls.Answer.Answer, declared.points.Next.Next, declared.points.Point.Point}
use Rattle.wait_model.specs.{declared.steps.Step.Step, Watches.is_done, Points.call_watch, Programs.program}
use Rattle.wait_model.specs.{Programs.program_start, Tables.Table}
use Rattle.wait_model.specs.Findings.{Noted, none_noted, notes, is_waiting}
use Rattle.wait_model.specs.declared.points.Next.TheVariants as next
use Rattle.wait_model.proofs.SentenceLaws.SentenceRests.{CanEnd, left_at}
use Rattle.wait_model.proofs.SentenceLaws.SentenceCalls.{rest_of, start_said}
use Rattle.wait_model.proofs.SentenceLaws.SentenceEnds.{can_end}
use Rattle.wait_rule.specs.{Items.steps_of, Interleavings.IsInterleaved, Known.Known, Queues.index, Says.history_of}
use Rattle.wait_rule.specs.SaidEvents.{said, is_walking, RunsBegin}
use Rattle.wait_rule.specs.Transitions.{Goes, Program, Transition, after_transition, call_program}
use Rattle.wait_rule.proofs.TableSteps.ItemLists.{steps_append}
use Rattle.wait_rule.proofs.SaidEvents.Fronts.{IsOff, off_on, off_still, queued_before, step_follows, steps_made}
use Rattle.wait_rule.proofs.SaidEvents.FollowedRuns.{first_said, found_off}

-- what more events tell
abbrev all_notes : Noted → List Event → Noted
all_notes m [] = m
all_notes m (e ∷ w) = all_notes (notes m e) w

module _ (s : Table) (all : IsInterleaved s) (me : ℕ) (call : Call) (slot : ℕ) (small : slot < SLOTS)
    (plain : is_done (call_watch call) ≡ false) (quiet : is_walking call ≡ false) where
  abbrev f : Program
  f = call_program me slot call

  tail : (m : Noted) (k new : Known) (q : Point) (v : List Event) (a : Answer) (ts : List Transition)
      → ((p : Point) → Goes f k (next.Go p) ts new (next.Go q)
      → rest_of me call (all_notes m (said f (next.Go p) ts)) q v a
      → rest_of me call m p (said f (next.Go p) ts ++ v) a)
      → (n : Next) → Goes f k n ts new (next.Go q) → rest_of me call (all_notes m (said f n ts)) q v a
      → left_at (rest_of me call m) n (said f n ts ++ v) a
  tail m k new q v a ts rec (next.Go p) g left = rec p g left
  tail m k new q v a [] rec (next.Ends b) g left = absurd (let z : next.Go q ≡ next.Ends b = g.1 in cc)
  tail m k new q v a (t ∷ ts) rec (next.Ends b) g left = absurd g

  begins : (ts : List Transition) (p q : Point) (m : Noted) (old new : Known) (v : List Event) (a : Answer)
      (later : List Step) → s.history me ≡ history_of new ++ later
      → (is_waiting call ≡ true → m.queued ≡ false → IsOff old (index me slot))
      → Goes f old (next.Go p) ts new (next.Go q) → rest_of me call (all_notes m (said f (next.Go p) ts)) q v a
      → rest_of me call m p (said f (next.Go p) ts ++ v) a
  begins [] p q m old new v a later h out g left =
      subst (λ (r : Point). rest_of me call m r v a) (let z : next.Go q ≡ next.Go p = g.1 in let y : q ≡ p = cc in y)
      left
  begins (t ∷ ts) p q m old new v a later h out g left =
      let ev : Event = (program me call p t.seen).event in
      let nx : Next = (program me call p t.seen).next in
      let r = step_follows f new nx (next.Go q) t ts g.1 in
      let split : s.history me ≡ history_of t.knew ++ (steps_made t.did ++ (r.0 ++ later)) =
      h ∙ (ap (λ (es : List Step). es ++ later) r.1
      ∙ (append_assoc (history_of t.knew) (steps_made t.did ++ r.0) later
      ∙ ap (λ (es : List Step). history_of t.knew ++ es) (append_assoc (steps_made t.did) r.0 later))) in
      first_said s all me call slot small plain quiet p m t.seen (said f nx ts ++ v) a
      (λ w z reads. found_off s all me call slot small plain quiet t (r.0 ++ later) split
      (off_on old t.knew (index me slot) g.0.looks (out w z)) p g.0.is g.0.finds reads)
      (tail (notes m ev) (after_transition t) new q v a ts
      (λ j on l. begins ts j q (notes m ev) (after_transition t) new v a later h
      (λ w z. off_still t.knew f.own (f.given p) ev t.did m (index me slot) g.0.is z
      (off_on old t.knew (index me slot) g.0.looks (out w (queued_before m ev z)))) on l)
      nx g.1 left)

pub runs_begin : RunsBegin
runs_begin s items ruled call slot old new p more list small plain quiet off_first m =
    let me : ℕ = old.view.number in
    let w : List Event = said (call_program me slot call) (next.Go (program_start call)) m.transitions in
    let rest : CanEnd (rest_of me call (all_notes none_noted w) p) = can_end me call (all_notes none_noted w) p in (
      rest.0,
      rest.1,
      start_said me call (w ++ rest.0) rest.1
          (begins s ruled.whole.interleaved me call slot small plain quiet m.transitions (program_start call) p
          none_noted old new rest.0 rest.1 (steps_of more)
          (ruled.histories me ∙ (ap steps_of list ∙ steps_append new.view.items more)) (λ i z. off_first i) m.goes
          rest.2),
    )
