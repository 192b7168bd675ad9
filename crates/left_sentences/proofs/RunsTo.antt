-- What a task makes of a call from a point on begins what is left of the sentence there, and is all of it at the end.
use Rattle.std.proofs.Common.{◌∙◌, ap, arith, refl, subst, sym, append-nil, append_assoc}
use Rattle.std.specs.Prelude.{ℕ, ◌≡◌, true, false, List, [], ◌∷◌, ◌++◌}
use Rattle.wait_model.specs.{declared.calls.Answer.Answer, declared.calls.Call.Call, declared.calls.Event.Event}
use Rattle.wait_model.specs.{declared.points.Next.Next, declared.points.Point.Point, declared.points.Seen.Seen}
use Rattle.wait_model.specs.{declared.steps.Step.Step, Points.call_watch, Programs.program, Tables.Table}
use Rattle.wait_model.specs.Watches.{is_done}
use Rattle.wait_model.specs.Findings.{Noted, is_waiting, notes}
use Rattle.wait_model.specs.declared.points.Next.TheVariants as next
use Rattle.wait_model.proofs.{SentenceLaws.SentenceCalls.rest_of, SentenceLaws.SentenceEnds.can_end}
use Rattle.wait_model.proofs.{SentenceLaws.SentenceRests.CanEnd, SentenceLaws.SentenceRests.left_at}
use Rattle.wait_rule.specs.{Heeding.trail_of, Interleavings.IsInterleaved, Known.Known, Queues.index}
use Rattle.wait_rule.specs.{SaidEvents.is_walking, SaidEvents.said, Says.history_of}
use Rattle.wait_rule.specs.Transitions.{Goes, Program, Transition, after_transition, call_program}
use Rattle.wait_rule.proofs.SaidEvents.FollowedRuns.{first_said, found_off}
use Rattle.wait_rule.proofs.SaidEvents.Fronts.{IsOff, off_on, off_still, queued_before, step_follows, steps_made}

-- what more events tell
abbrev pub all_notes : Noted → List Event → Noted
all_notes m [] = m
all_notes m (e ∷ w) = all_notes (notes m e) w

-- the task's later steps, in a table
abbrev pub Before : Table → ℕ → Known → Type 0
Before s me k = (later : List Step) × (s.history me ≡ history_of k ++ later)

-- until the call has queued its entry it is off
abbrev pub OffFirst : ℕ → Call → Noted → Known → Type 0
OffFirst me call m k = is_waiting call ≡ true → m.queued ≡ false → IsOff k (index me 0)

module _ (s : Table) (all : IsInterleaved s) (me : ℕ) (call : Call)
    (plain : is_done (call_watch call) ≡ false) (quiet : is_walking call ≡ false) where
  abbrev f : Program
  f = call_program me 0 call

  tail : (m : Noted) (k new : Known) (n : Next) (v : List Event) (a : Answer) (ts : List Transition)
      → ((p : Point) → Goes f k (next.Go p) ts new n
      → left_at (rest_of me call (all_notes m (said f (next.Go p) ts))) n v a
      → rest_of me call m p (said f (next.Go p) ts ++ v) a)
      → (l : Next) → Goes f k l ts new n → left_at (rest_of me call (all_notes m (said f l ts))) n v a
      → left_at (rest_of me call m) l (said f l ts ++ v) a
  tail m k new n v a ts rec (next.Go p) g left = rec p g left
  tail m k new n v a [] rec (next.Ends b) g left = subst (λ (j : Next). left_at (rest_of me call m) j v a) g.1 left
  tail m k new n v a (t ∷ ts) rec (next.Ends b) g left = absurd g

  goes_said : (ts : List Transition) (p : Point) (n : Next) (m : Noted) (old new : Known) (v : List Event) (a : Answer)
      (later : List Step) → s.history me ≡ history_of new ++ later → OffFirst me call m old
      → Goes f old (next.Go p) ts new n → left_at (rest_of me call (all_notes m (said f (next.Go p) ts))) n v a
      → rest_of me call m p (said f (next.Go p) ts ++ v) a
  goes_said [] p n m old new v a later h out g left =
      subst (λ (j : Next). left_at (rest_of me call m) j v a) g.1 left
  goes_said (t ∷ ts) p n m old new v a later h out g left =
      let ev : Event = (program me call p t.seen).event in
      let nx : Next = (program me call p t.seen).next in
      let r = step_follows f new nx n t ts g.1 in
      let split : s.history me ≡ history_of t.knew ++ (steps_made t.did ++ (r.0 ++ later)) =
      h ∙ (ap (λ (es : List Step). es ++ later) r.1
      ∙ (append_assoc (history_of t.knew) (steps_made t.did ++ r.0) later
      ∙ ap (λ (es : List Step). history_of t.knew ++ es) (append_assoc (steps_made t.did) r.0 later))) in
      first_said s all me call 0 (omega arith) plain quiet p m t.seen (said f nx ts ++ v) a
      (λ w z reads. found_off s all me call 0 (omega arith) plain quiet t (r.0 ++ later) split
      (off_on old t.knew (index me 0) g.0.looks (out w z)) p g.0.is g.0.finds reads)
      (tail (notes m ev) (after_transition t) new n v a ts
      (λ j on l. goes_said ts j n (notes m ev) (after_transition t) new v a later h
      (λ w z. off_still t.knew f.own (f.given p) ev t.did m (index me 0) g.0.is z
      (off_on old t.knew (index me 0) g.0.looks (out w (queued_before m ev z)))) on l)
      nx g.1 left)

  -- what it makes to another point can be gone on with to the end
  pub goes_open : (ts : List Transition) (p q : Point) (m : Noted) (old new : Known) → Before s me new
      → OffFirst me call m old → Goes f old (next.Go p) ts new (next.Go q)
      → (v : List Event) × (a : Answer) × rest_of me call m p (said f (next.Go p) ts ++ v) a
  goes_open ts p q m old new h out g =
      let c : CanEnd (rest_of me call (all_notes m (said f (next.Go p) ts)) q) =
      can_end me call (all_notes m (said f (next.Go p) ts)) q in (
        c.0,
        c.1,
        goes_said ts p (next.Go q) m old new c.0 c.1 h.0 h.1 out g c.2,
      )

  -- and what it makes to an answer is the end
  pub goes_whole : (ts : List Transition) (p : Point) (b : Answer) (m : Noted) (old new : Known) → Before s me new
      → OffFirst me call m old → Goes f old (next.Go p) ts new (next.Ends b)
      → rest_of me call m p (said f (next.Go p) ts) b
  goes_whole ts p b m old new h out g = subst (λ (w : List Event). rest_of me call m p w b)
      (append-nil (said f (next.Go p) ts))
      (goes_said ts p (next.Ends b) m old new [] b h.0 h.1 out g refl)

-- what a program is led to by its latest events, the latest first
module _ (At : Point → List Event → Type 0) where
  abbrev pub AtNext : List Event → Next → Type 0
  AtNext trail (next.Go q) = At q trail
  AtNext trail (next.Ends a) = Unit {0}

  abbrev pub Leads : Program → Type 0
  Leads g = (p : Point) (seen : Seen) (trail : List Event) → At p trail
      → AtNext ((g.plan p seen).event ∷ trail) (g.plan p seen).next

  pub led : (g : Program) → Leads g → (ts : List Transition) (n m : Next) (old new : Known) (trail : List Event)
      → Goes g old n ts new m → AtNext trail n → AtNext (trail_of trail (said g n ts)) m
  led g leads [] (next.Go p) m old new trail goes h = subst (AtNext trail) (sym goes.1) h
  led g leads [] (next.Ends b) m old new trail goes h = subst (AtNext trail) (sym goes.1) h
  led g leads (t ∷ ts) (next.Go p) m old new trail goes h = led g leads ts (g.plan p t.seen).next m
      (after_transition t) new ((g.plan p t.seen).event ∷ trail) goes.1 (leads p t.seen trail h)
  led g leads (t ∷ ts) (next.Ends b) m old new trail goes h = absurd goes
