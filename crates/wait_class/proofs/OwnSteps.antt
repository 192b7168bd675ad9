-- An event of a call's own, by the way that it goes.
use Rattle.std.proofs.Common.{◌∙◌, ap, refl, subst, sym}
use Rattle.std.specs.Prelude.{Some, [], ◌≡◌, ◌∷◌}
use Rattle.wait_model.specs.{declared.points.Next.Next, declared.points.Seen.Seen, declared.steps.Step.Step, Fold.after}
use Rattle.wait_model.specs.{PointFacts.IsHome, Views.View as Told}
use Rattle.wait_model.specs.declared.points.Next.TheVariants as next
use Rattle.wait_rule.specs.declared.journal.Item.TheVariants as item
use Rattle.wait_rule.specs.{Items.Book, Items.learn_step, Known.Known, Queues.index}
use Rattle.wait_rule.specs.Says.{IsUp, added, told_of}
use Rattle.wait_rule.specs.Transitions.{Finds, Goes, IsMadeFor, OnlyLooks, Program, Transition, after_step_or_look}
use Rattle.wait_rule.specs.Transitions.{by_step}
use Rattle.wait_rule.proofs.KnownLaws.AfterSteps.{told_added}
use Rattle.wait_class.specs.{declared.stages.Turn.Turn, Laws.TurnTrail, Laws.turn_post}
use Rattle.wait_class.specs.Posts.{IsStateFor, Post, Stands}
use Rattle.wait_class.specs.Tables.{CallTable, next_in, plan_program, took_in, watch_in}
use Rattle.wait_class.proofs.Turns.{GoesOn, made_between}

-- a step that leaves the book and the hold as they were, in a hold or outside of one
pub stands_same : (k : Known) (e : Step) (p q : Post) → Stands k p → learn_step e k.book ≡ k.book
    → (after e (told_of k)).hold.head ≡ (told_of k).hold.head → q.head ≡ p.head → q.ticket ≡ p.ticket
    → IsStateFor q.stirs q.state k.book.state
    → IsHome q.zone q.watch ((after e (told_of k)).bits.stored (index k.view.number 0))
    → Stands (added k (item.Made e)) q
stands_same k e p q s book hold head ticket state home = record {
  head = ap (λ (b : Book). b.head) book ∙ (s.head ∙ sym head);
  at = λ h is. s.at h (sym head ∙ is);
  told = ap (λ (v : Told). v.hold.head) (told_added k (item.Made e)) ∙ (hold ∙ (s.told ∙ sym head));
  ticket = ap (λ (b : Book). b.ticket) book ∙ (s.ticket ∙ sym ticket);
  agreed = λ h is. ap (λ (b : Book). b.differs) book ∙ s.agreed h (sym head ∙ is);
  state = subst (λ (b : Book). IsStateFor q.stirs q.state b.state) (sym book) state;
  home = subst (λ (v : Told). IsHome q.zone q.watch (v.bits.stored (index k.view.number 0)))
      (sym (told_added k (item.Made e))) home;
}

-- by what it found, and how the task stands behind it
module _ {C S O : Type 0} (t : CallTable C S O) (old knew new : Known) (r q : C) (s : S) (u : Turn S O) (e : Step)
    (seen : Seen) (before : OnlyLooks old knew) (behind : OnlyLooks (after_step_or_look (by_step e) knew) new) where
  abbrev f : Program
  f = plan_program old.view.number 0 (t.plan_of r)

  abbrev did : Transition
  did = record { seen = seen; knew = knew; did = by_step e }

  pub own_goes : ((x : Transition) → x.did ≡ by_step e → t.Tells r q (x ∷ []))
      → t.Keeps (index old.view.number 0) (watch_in t r) (t.took s) (took_in t u) old new
      → ((t.plan_of r).makes old.view.number (t.point_of s) seen).next ≡ next_in t u
      → IsMadeFor knew (Some (index old.view.number 0)) ((t.plan_of r).given (t.point_of s))
      ((t.plan_of r).makes old.view.number (t.point_of s) seen).event (by_step e)
      → Finds knew f (t.point_of s) (by_step e) seen → IsUp new → Stands new (turn_post t q u) → TurnTrail t new q u
      → GoesOn t old new r q s u
  own_goes tells keeps to made finds up stands trail = record {
    goes = record {
      runs = record {
        transitions = did ∷ [];
        goes = subst (λ (m : Next). Goes f old (next.Go (t.point_of s)) (did ∷ []) new m) to
            (record { looks = before; is = made; finds = finds }, (behind, refl));
      };
      tells = tells did refl;
      made = made_between e old knew new before behind;
    };
    keeps = keeps;
    lands = record { up = up; stands = stands; trail = trail };
  }
