-- Laws of a table by the way from one stage to the next.
use Rattle.std.proofs.Common.{◌∙◌, ap, refl, subst, sym}
use Rattle.std.specs.Prelude.{if◌then◌else◌, ℕ, ◌≡◌, Bool, true, false, Some, None, [], ◌∷◌}
use Rattle.wait_model.specs.{declared.calls.Event.Event, declared.points.Planned.Planned, declared.points.Point.Point}
use Rattle.wait_model.specs.{Programs.go, PointFacts.IsHome, Tasks.pending, Tasks.task_of}
use Rattle.wait_model.specs.declared.steps.Step.TheVariants as step
use Rattle.wait_rule.specs.{Known.Known, Queues.index, Tickets.no_ticket}
use Rattle.wait_rule.specs.Transitions.{Finds, IsMadeFor, Transition, by_step}
use Rattle.wait_class.specs.{Findings.with_own, Findings.with_value, declared.frame_stages.Stage.Stage}
use Rattle.wait_class.specs.{declared.stages.Turn.Turn, FrameLaws.FinishLaw, Frames.FrameTable, Frames.framed}
use Rattle.wait_class.specs.Laws.{HomeGoes, IsFreeStage, LoadLaw, LookLaw, SleepLaw, StateGoes, mask_in, Calm}
use Rattle.wait_class.specs.Laws.{IsPlainTurn, TurnTrail, turn_post}
use Rattle.wait_class.specs.Tables.{CallTable, falls, next_in, plan_program, post_of, took_in, stage_watch}
use Rattle.wait_class.specs.declared.stages.Turn.TheVariants as turn

-- a way with no event of the lock
pub record Way {C S O : Type 0} (t : CallTable C S O) (r : C) (s : S) (q : C) (u : Turn S O) : Type 0 where
  pub plain : IsPlainTurn t u
  pub falls : falls t s u ≡ true
  pub took : t.took s ≡ took_in t u
  pub head : (turn_post t q u).head ≡ (post_of t r s).head
  pub ticket : (turn_post t q u).ticket ≡ (post_of t r s).ticket
  pub state : StateGoes t r s q u
  pub home : HomeGoes t r s q u

pub way : {C S O : Type 0} (t : CallTable C S O) (r : C) (s : S) (q : C) (u : Turn S O) → IsPlainTurn t u
    → falls t s u ≡ true → t.took s ≡ took_in t u → (turn_post t q u).head ≡ (post_of t r s).head
    → (turn_post t q u).ticket ≡ (post_of t r s).ticket → StateGoes t r s q u → HomeGoes t r s q u → Way t r s q u
way t r s q u plain falls took head ticket state home = record {
  plain = plain;
  falls = falls;
  took = took;
  head = head;
  ticket = ticket;
  state = state;
  home = home;
}

module _ {C S O : Type 0} (t : CallTable C S O) (r : C) (s : S) (fresh : t.drawn s ≡ false) where
  pub load_by : (v : ℕ) (q : C) (u : Turn S O) → t.plan_of q ≡ t.plan_of r → (t.Fits r → t.Fits q)
      → ((x : Transition) → x.did ≡ by_step (step.Load (stage_watch t r s) v) → t.Tells r q (x ∷ [])) → Way t r s q u
      → ((me : ℕ) → ((t.plan_of r).makes me (t.point_of s) (with_value v)).next ≡ next_in t u)
      → ((me : ℕ) (k : Known) → IsMadeFor k (Some (index me 0)) ((t.plan_of r).given (t.point_of s))
      ((t.plan_of r).makes me (t.point_of s) (with_value v)).event (by_step (step.Load (stage_watch t r s) v)))
      → ((me : ℕ) (k : Known) → Finds k (plan_program me 0 (t.plan_of r)) (t.point_of s)
      (by_step (step.Load (stage_watch t r s) v)) (with_value v))
      → ((old new : Known) → Calm (step.Load (stage_watch t r s) v ∷ []) old new → t.Trail old r s → TurnTrail t new q u)
      → LoadLaw t r s v q u
  load_by v q u same fits tells w goes is finds trail = record {
    fresh = fresh;
    same = same;
    fits = fits;
    tells = tells;
    moves = record {
      plain = w.plain;
      falls = w.falls;
      took = w.took;
      goes = goes;
      is = λ me k x ok. is me k;
      finds = λ me k x ok. finds me k;
    };
    leaves = record { head = w.head; ticket = w.ticket };
    state = w.state;
    home = w.home;
    trail = trail;
  }

  -- a load by whose value the call goes two ways
  pub load_fork : (v : ℕ) (q : C) (b : Bool) (one two : Turn S O) (x y : Planned) (e : Event)
      → t.plan_of q ≡ t.plan_of r → (t.Fits r → t.Fits q)
      → ((x : Transition) → x.did ≡ by_step (step.Load (stage_watch t r s) v) → t.Tells r q (x ∷ []))
      → ((me : ℕ) → (t.plan_of r).makes me (t.point_of s) (with_value v) ≡ (if b then x else y))
      → (x.event ≡ e) × (x.next ≡ next_in t one) → (y.event ≡ e) × (y.next ≡ next_in t two)
      → ((k : Known) (me : ℕ) → IsMadeFor k (Some (index me 0)) ((t.plan_of r).given (t.point_of s)) e
      (by_step (step.Load (stage_watch t r s) v)))
      → ((me : ℕ) (k : Known) → Finds k (plan_program me 0 (t.plan_of r)) (t.point_of s)
      (by_step (step.Load (stage_watch t r s) v)) (with_value v))
      → Way t r s q one → Way t r s q two
      → ((old new : Known) → b ≡ true → Calm (step.Load (stage_watch t r s) v ∷ []) old new → t.Trail old r s
      → TurnTrail t new q one)
      → ((old new : Known) → b ≡ false → Calm (step.Load (stage_watch t r s) v ∷ []) old new → t.Trail old r s
      → TurnTrail t new q two) → LoadLaw t r s v q (if b then one else two)
  load_fork v q true one two x y e same fits tells plan at_x at_y made finds w1 w2 t1 t2 = load_by v q one same fits tells w1
      (λ me. ap (λ (p : Planned). p.next) (plan me) ∙ at_x.1)
      (λ me k. subst (λ (z : Event). IsMadeFor k (Some (index me 0)) ((t.plan_of r).given (t.point_of s)) z
      (by_step (step.Load (stage_watch t r s) v))) (sym (ap (λ (p : Planned). p.event) (plan me) ∙ at_x.0)) (made k me))
      finds (λ old new calm u. t1 old new refl calm u)
  load_fork v q false one two x y e same fits tells plan at_x at_y made finds w1 w2 t1 t2 = load_by v q two same fits tells w2
      (λ me. ap (λ (p : Planned). p.next) (plan me) ∙ at_y.1)
      (λ me k. subst (λ (z : Event). IsMadeFor k (Some (index me 0)) ((t.plan_of r).given (t.point_of s)) z
      (by_step (step.Load (stage_watch t r s) v))) (sym (ap (λ (p : Planned). p.event) (plan me) ∙ at_y.0)) (made k me))
      finds (λ old new calm u. t2 old new refl calm u)

  pub look_by : (hit : Bool) → Way t r s r (t.found_to r s hit)
      → ((w me : ℕ) → pending (mask_in t r) (task_of w) ≡ hit
      → ((t.plan_of r).makes me (t.point_of s) (with_own (task_of w))).next ≡ next_in t (t.found_to r s hit))
      → ((w me : ℕ) (k : Known) → IsMadeFor k (Some (index me 0)) ((t.plan_of r).given (t.point_of s))
      ((t.plan_of r).makes me (t.point_of s) (with_own (task_of w))).event (by_step (step.Look w)))
      → ((w me : ℕ) (k : Known) → Finds k (plan_program me 0 (t.plan_of r)) (t.point_of s) (by_step (step.Look w))
      (with_own (task_of w)))
      → ((old new : Known) (w : ℕ) → pending (mask_in t r) (task_of w) ≡ hit → Calm (step.Look w ∷ []) old new
      → t.Trail old r s → TurnTrail t new r (t.found_to r s hit)) → LookLaw t r s hit
  look_by hit y goes is finds trail = record {
    fresh = fresh;
    moves = λ w tells. record {
      plain = y.plain;
      falls = y.falls;
      took = y.took;
      goes = λ me. goes w me tells;
      is = λ me k x ok. is w me k;
      finds = λ me k x ok. finds w me k;
    };
    leaves = record { head = y.head; ticket = y.ticket };
    state = y.state;
    home = y.home;
    trail = trail;
  }

  pub sleep_by : (n : S) → IsFreeStage t s → IsFreeStage t n → t.asleep_at n ≡ true
      → t.drawn n ≡ false → t.took s ≡ t.took n
      → falls t s (turn.Again n) ≡ true → HomeGoes t r s r (turn.Again n)
      → ((w me : ℕ) → ((t.plan_of r).makes me (t.point_of s) (with_own (task_of w))).next ≡ next_in t (turn.Again n))
      → ((w me : ℕ) (k : Known) → IsMadeFor k (Some (index me 0)) ((t.plan_of r).given (t.point_of s))
      ((t.plan_of r).makes me (t.point_of s) (with_own (task_of w))).event (by_step (step.Sleep w)))
      → ((w me : ℕ) (k : Known) → Finds k (plan_program me 0 (t.plan_of r)) (t.point_of s) (by_step (step.Sleep w))
      (with_own (task_of w)))
      → ((old new : Known) (w : ℕ) → Calm (step.Sleep w ∷ []) old new → t.Trail old r s → t.Trail new r n)
      → SleepLaw t r s n
  sleep_by n free woken place plain took falls home goes is finds trail = record {
    free = free;
    fresh = fresh;
    woken = woken;
    place = place;
    moves = λ w. record {
      plain = plain;
      falls = falls;
      took = took;
      goes = goes w;
      is = λ me k x ok. is w me k;
      finds = λ me k x ok. finds w me k;
    };
    home = home;
    trail = trail;
  }

-- the event of a way that tests
pub either_event : (P : Event → Type 0) (b : Bool) (x y : Planned) → P x.event → P y.event
    → P (if b then x else y).event
either_event P true x y one two = one
either_event P false x y one two = two

-- a program that goes one of two ways behind the same event
pub go_if : (b : Bool) (e : Event) (p q : Point) → go e (if b then p else q) ≡ (if b then go e p else go e q)
go_if true e p q = refl
go_if false e p q = refl

-- behind a finish
pub finish_by : {W T O : Type 0} (f : FrameTable W T O) (r : W) (failed : Bool)
    → IsPlainTurn (framed f) (f.finished r failed)
    → ((s : Stage T) → falls (framed f) s (f.finished r failed) ≡ true)
    → f.took_finish failed ≡ took_in (framed f) (f.finished r failed)
    → (turn_post (framed f) (record { wait = r }) (f.finished r failed)).head ≡ None
    → (turn_post (framed f) (record { wait = r }) (f.finished r failed)).ticket ≡ no_ticket
    → IsHome (turn_post (framed f) (record { wait = r }) (f.finished r failed)).zone
    (turn_post (framed f) (record { wait = r }) (f.finished r failed)).watch None
    → ((k : Known) → f.FinishTrail k r failed → TurnTrail (framed f) k (record { wait = r }) (f.finished r failed))
    → FinishLaw f r failed
finish_by f r failed plain falls took head ticket home trail = record {
  plain = plain;
  falls = falls;
  took = took;
  head = head;
  ticket = ticket;
  home = home;
  trail = trail;
}
