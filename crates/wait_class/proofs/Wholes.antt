-- Whole calls: how they begin, and how the task stands behind them.
use Rattle.std.proofs.Common.{◌∙◌, ap, sym, refl, subst}
use Rattle.std.specs.Prelude.{ℕ, ◌≡◌, Bool, true, false, Option, Some, None}
use Rattle.wait_model.specs.{declared.calls.Answer.Answer, declared.watches.Entry.Entry, declared.watches.Watch.Watch}
use Rattle.wait_model.specs.{Fold.after, Views.View as Told}
use Rattle.wait_model.specs.PointFacts.{Zone, IsHome, absent, holds}
use Rattle.wait_model.specs.declared.points.Next.TheVariants as next
use Rattle.wait_model.specs.declared.steps.Step.TheVariants as step
use Rattle.wait_rule.specs.declared.journal.Item.TheVariants as item
use Rattle.wait_rule.specs.{Known.Known, Tickets.no_ticket, Transitions.Goes}
use Rattle.wait_rule.specs.Queues.{IsIdle, IsTold, index}
use Rattle.wait_rule.specs.Says.{Debts, Excuse, IsUp, told_of}
use Rattle.wait_rule.proofs.{KnownLaws.AfterSteps.told_added, KnownLaws.Debts.added_debts}
use Rattle.wait_class.specs.{declared.stages.Run.Run, Wholes.HasRested}
use Rattle.wait_class.specs.Posts.{IsOut, IsStateFor, Post, Runs, Stands, zone_at}
use Rattle.wait_class.specs.Tables.{Advances, IsAt, Plan, CallTable, plan_program, post_of, stage_watch}
use Rattle.wait_class.specs.declared.stages.Turn.TheVariants as turn
use Rattle.wait_class.proofs.Turns.{free_head, free_ticket, plain_post}

-- a task that is idle, with its entry off, may begin
pub begins : {C S O : Type 0} (t : CallTable C S O) (k : Known) (r : Run C) (s : S) → t.Fits r.of → t.drawn s ≡ false
    → holds (t.point_of s) ≡ false → (t.plan_of r.of).stirs (t.point_of s) ≡ false
    → zone_at (t.point_of s) ≡ absent → t.Trail k r.of s → IsTold k → IsUp k → IsIdle k → IsOut k → IsAt t k r s
begins t k r s fits fresh free rests zone trail told up idle out =
    let p = post_of t r.of s in
    let head = free_head None (t.plan_of r.of) (t.point_of s) free in
    record {
      fits = fits;
      up = up;
      stands = subst (Stands k) (sym (plain_post t r s fresh)) (record {
        head = idle.free.head ∙ sym head;
        at = λ h is. absurd (let none : Some h ≡ None = sym is ∙ head in cc);
        told = told.head ∙ (idle.free.head ∙ sym head);
        ticket = idle.free.ticket ∙ sym (free_ticket None (t.plan_of r.of) (t.point_of s) free);
        agreed = λ h is. absurd (let none : Some h ≡ None = sym is ∙ head in cc);
        state = subst (λ (b : Bool). IsStateFor b p.state k.book.state) (sym rests) idle.running;
        home = subst (λ (z : Zone). IsHome z (stage_watch t r.of s) ((told_of k).bits.stored (index k.view.number 0)))
            (sym zone) (subst (IsHome absent (stage_watch t r.of s)) (sym out) tt);
      });
      trail = trail;
    }

pub none_of : (c : Watch) (o : Option Entry) → IsHome absent c o → o ≡ None
none_of c None h = refl
none_of c (Some e) h = absurd h

-- what a rest leaves: the task is RUNNING, and all else as it was
pub record Rested (old new : Known) : Type 0 where
  pub domain : new.domain ≡ old.domain
  pub number : new.view.number ≡ old.view.number
  pub awake : new.book.awake ≡ old.book.awake
  pub state : new.book.state ≡ 0
  pub head : new.book.head ≡ old.book.head
  pub ticket : new.book.ticket ≡ old.book.ticket
  pub hold : (told_of new).hold.head ≡ (told_of old).hold.head
  pub mark : (told_of new).mark ≡ (told_of old).mark
  pub owes : (w : Watch) (σ : ℕ) → (told_of new).duty.owes w σ ≡ (told_of old).duty.owes w σ
  pub stored : (y : ℕ) → (told_of new).bits.stored y ≡ (told_of old).bits.stored y
  pub keeps : (d : Watch) → (told_of new).bits.keeps d ≡ (told_of old).bits.keeps d
  pub pending : (d : Watch) → (told_of new).bits.pending d ≡ (told_of old).bits.pending d
  pub debts : (x : Excuse) → Debts x old → Debts x new

pub rests : (old new : Known) (b : Bool) (σ : ℕ) → HasRested old new b → IsStateFor b σ old.book.state → Rested old new
rests old new false σ is state = record {
  domain = ap (λ (k : Known). k.domain) is;
  number = ap (λ (k : Known). k.view.number) is;
  awake = ap (λ (k : Known). k.book.awake) is;
  state = ap (λ (k : Known). k.book.state) is ∙ state;
  head = ap (λ (k : Known). k.book.head) is;
  ticket = ap (λ (k : Known). k.book.ticket) is;
  hold = ap (λ (k : Known). (told_of k).hold.head) is;
  mark = ap (λ (k : Known). (told_of k).mark) is;
  owes = λ w τ. ap (λ (k : Known). (told_of k).duty.owes w τ) is;
  stored = λ y. ap (λ (k : Known). (told_of k).bits.stored y) is;
  keeps = λ d. ap (λ (k : Known). (told_of k).bits.keeps d) is;
  pending = λ d. ap (λ (k : Known). (told_of k).bits.pending d) is;
  debts = λ x d. subst (Debts x) (sym is) d;
}
rests old new true σ is state =
    let told : told_of new ≡ after (step.State 0) (told_of old) =
    ap told_of is ∙ told_added old (item.Made (step.State 0)) in
    record {
      domain = ap (λ (k : Known). k.domain) is;
      number = ap (λ (k : Known). k.view.number) is;
      awake = ap (λ (k : Known). k.book.awake) is;
      state = ap (λ (k : Known). k.book.state) is;
      head = ap (λ (k : Known). k.book.head) is;
      ticket = ap (λ (k : Known). k.book.ticket) is;
      hold = ap (λ (v : Told). v.hold.head) told;
      mark = ap (λ (v : Told). v.mark) told;
      owes = λ w τ. ap (λ (v : Told). v.duty.owes w τ) told;
      stored = λ y. ap (λ (v : Told). v.bits.stored y) told;
      keeps = λ d. ap (λ (v : Told). v.bits.keeps d) told;
      pending = λ d. ap (λ (v : Told). v.bits.pending d) told;
      debts = added_debts old new (item.Made (step.State 0)) refl is;
    }

-- an end with no head, no ticket and no entry: the task is idle again
pub rested_out : (ended new : Known) (p : Post) → Stands ended p → p.zone ≡ absent → Rested ended new → IsOut new
rested_out ended new p s zone x = ap (λ (n : ℕ). (told_of new).bits.stored (index n 0)) x.number
    ∙ (x.stored (index ended.view.number 0)
    ∙ none_of p.watch ((told_of ended).bits.stored (index ended.view.number 0))
    (subst (λ (z : Zone). IsHome z p.watch ((told_of ended).bits.stored (index ended.view.number 0))) zone s.home))

pub rested_idle : (ended new : Known) (p : Post) → Stands ended p → p.head ≡ None → p.ticket ≡ no_ticket
    → Rested ended new → (told_of ended).mark ≡ None → IsIdle new
rested_idle ended new p s free none x unmarked = record {
  running = x.state;
  free = record { head = x.head ∙ (s.head ∙ free); ticket = x.ticket ∙ (s.ticket ∙ none) };
  unmarked = x.mark ∙ unmarked;
}

-- the run of a whole call, by the call that it began as
pub ended_runs : {C S O : Type 0} (t : CallTable C S O) (old new : Known) (r q : Run C) (s : S) (o : O)
    → Advances t old new r q s (turn.Done o) → (plan : Plan) → t.plan_of r.of ≡ plan → (x : Answer)
    → t.answer_of o ≡ x
    → Runs (plan_program old.view.number 0 plan) old new (next.Go (t.point_of s)) (next.Ends x)
ended_runs t old new r q s o a plan began x is = record {
  transitions = a.went.runs.transitions;
  goes = subst (λ (y : Answer). Goes (plan_program old.view.number 0 plan) old (next.Go (t.point_of s))
      a.went.runs.transitions new (next.Ends y)) is
      (subst (λ (c : Plan). Goes (plan_program old.view.number 0 c) old (next.Go (t.point_of s))
      a.went.runs.transitions new (next.Ends (t.answer_of o))) began a.went.runs.goes);
}
