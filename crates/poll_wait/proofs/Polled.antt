-- What a poll may wait for, and where its two entries are over the parts of it.
use Rattle.std.proofs.Common.{◌∙◌, ap, sym, refl, subst, arith}
use Rattle.std.proofs.lemmas.Bool.Decides.{nat_tests}
use Rattle.std.specs.Prelude.{ℕ, ◌≡◌, ◌<◌, nat_lt, Bool, true, false, if◌then◌else◌, Option, Some, None, Result, Ok, Err}
use Rattle.wait_model.specs.{declared.layout.TheConstants.FIRST_DONE_HEAD, declared.layout.TheConstants.FIRST_SIMPLE}
use Rattle.wait_model.specs.{declared.calls.Answer.Answer, declared.tasks.How.How, declared.watches.Entry.Entry}
use Rattle.wait_model.specs.{declared.watches.Kind.Kind, declared.watches.Watch.Watch, Programs.zero_answer}
use Rattle.wait_model.specs.{Watches.head_of, Watches.kind_for}
use Rattle.wait_model.specs.declared.points.FinishPoint.TheVariants as finishing
use Rattle.wait_model.specs.declared.points.Next.TheVariants as next
use Rattle.wait_model.specs.declared.points.Point.TheVariants as at
use Rattle.wait_model.specs.declared.points.PreparePoint.TheVariants as preparing
use Rattle.wait_model.specs.declared.watches.Kind.TheVariants as kind
use Rattle.wait_model.specs.declared.watches.Watch.TheVariants as watch
use Rattle.wait_rule.specs.{Known.Known, Queues.index, Says.told_of, Stays.Carries, Stays.unchanged}
use Rattle.wait_class.specs.Posts.{own_of}
use Rattle.wait_class.proofs.Ground.Standing.{bare_head}
use Rattle.wait_event.specs.Prepares.{EndsPrepare, HasFinished, IsNoWaiter, IsPart, Prepares, SuitsWait, any_how, with_signal}
use Rattle.wait_event.proofs.Conditions.{suits_low}
use Rattle.wq_head.specs.declared.adds.Worn.{Worn}
use Rattle.poll_wait.specs.declared.turns.Poll.{Poll}
use Rattle.poll_wait.specs.Polls.{HasBoth, IsPoll, front_in}
use Rattle.poll_wait.specs.Seconds.{EndsJoin, IsPolled, JoinsSecond, MayJoinSecond, second_of}
use Rattle.poll_wait.proofs.Near.{Keeps, entry_kept}
use Rattle.poll_wait.proofs.Programs.{OnFinish, OnPrepare, finish_near, join_near, prepare_near}

pub suits_by : (w : Watch) (how : How) → how.exclusive ≡ false → IsPolled w → SuitsWait w (kind_for w) how
suits_by (watch.Plain c) how front full =
    let low : nat_lt c FIRST_SIMPLE ≡ true = grind (arith, nat_tests, full) in
    subst (λ (b : Bool). SuitsWait (watch.Plain c) (if b then kind.Autoremove else kind.Simple) how) (sym low) full
suits_by (watch.Var v o) how front few = (few, front)
suits_by w how front never = absurd never

pub polled_low : (w : Watch) → IsPolled w → head_of w < FIRST_DONE_HEAD
polled_low w is = suits_low w (kind_for w) any_how (suits_by w any_how refl is)

pub part_low : (w : Watch) (k : Kind) (o : Option Entry) → head_of w < FIRST_DONE_HEAD → IsPart w k o → IsNoWaiter o
part_low w k None low part = tt
part_low w k (Some e) low part = subst (λ (h : ℕ). h < FIRST_DONE_HEAD) (sym (ap head_of part.0 ∙ bare_head w)) low

pub part_kept : (w : Watch) (k : Kind) (o n : Option Entry) → ((e : Entry) → n ≡ Some e → o ≡ Some e) → IsPart w k o
    → IsPart w k n
part_kept w k o None keep part = tt
part_kept w k o (Some e) keep part = subst (IsPart w k) (keep e refl) part

-- the two entries are two
pub first_other : (me : ℕ) → Some (index me 0) ≡ Some (index me 1) → ⊥
first_other me is = let same : index me 0 ≡ index me 1 = cc in omega (arith, same)

pub second_other : (me : ℕ) → Some (index me 1) ≡ Some (index me 0) → ⊥
second_other me is = let same : index me 1 ≡ index me 0 = cc in omega (arith, same)

-- the second one over a prepare and a finish of the first, and the first one over an add of the second
pub prepare_keeps : (old new : Known) (w : Watch) (k : Kind) (how : How) (a : Answer) → head_of w < FIRST_DONE_HEAD
    → Prepares old new w k how false a → Keeps (second_of old) old new
prepare_keeps old new w k how a low x = entry_kept (second_of old) _ OnPrepare (prepare_near old.view.number w low k how)
    (first_other old.view.number) x.runs.transitions old (next.Go (at.Prepare preparing.Lock)) new (next.Ends a) tt
    x.runs.goes

pub finish_keeps : (old new : Known) → HasFinished old new → Keeps (second_of old) old new
finish_keeps old new x = entry_kept (second_of old) _ OnFinish (finish_near old.view.number x.watch)
    (first_other old.view.number) x.runs.transitions old (next.Go (at.Finish finishing.State false)) new
    (next.Ends zero_answer) tt x.runs.goes

pub join_keeps : (old new : Known) (w : Watch) (a : Answer) → head_of w < FIRST_DONE_HEAD → JoinsSecond old new w a
    → Keeps (own_of old) old new
join_keeps old new w a low x = entry_kept (own_of old) _ OnPrepare (join_near old.view.number w low)
    (second_other old.view.number) x.transitions old (next.Go (at.Prepare preparing.Lock)) new (next.Ends a) tt x.goes

-- so both are off, or for these watches, over each
module _ (p : Poll) (is : IsPoll p) where
  prepared_has : (old new : Known) (a : Answer) → new.view.number ≡ old.view.number → HasBoth p old
      → Prepares old new p.first (kind_for p.first) (front_in p.state) false a → HasBoth p new
  prepared_has old new a number has x = record {
    up = x.up;
    free = x.free;
    first = x.home;
    second = part_kept p.second (kind_for p.second) ((told_of old).bits.stored (second_of old))
        ((told_of new).bits.stored (second_of new))
        (λ e now. prepare_keeps old new p.first (kind_for p.first) (front_in p.state) a (polled_low p.first is.first) x e
        (ap (λ (n : ℕ). (told_of new).bits.stored (index n 1)) (sym number) ∙ now)) has.second;
  }

  pub prepare_has : (old new : Known) (r : Result (Unit {0}) Worn) → new.view.number ≡ old.view.number → HasBoth p old
      → EndsPrepare old new p.first (kind_for p.first) (front_in p.state) false (with_signal r) → HasBoth p new
  prepare_has old new (Ok u) number has x = prepared_has old new _ number has x.0
  prepare_has old new (Err v) number has x = prepared_has old new _ number has x.0

  joined_has : (old new : Known) (a : Answer) → new.view.number ≡ old.view.number → HasBoth p old → MayJoinSecond new p.second
      → JoinsSecond old new p.second a → HasBoth p new
  joined_has old new a number has may x = record {
    up = may.up;
    free = may.free;
    first = part_kept p.first (kind_for p.first) ((told_of old).bits.stored (own_of old))
        ((told_of new).bits.stored (own_of new))
        (λ e now. join_keeps old new p.second a (polled_low p.second is.second) x e
        (ap (λ (n : ℕ). (told_of new).bits.stored (index n 0)) (sym number) ∙ now)) has.first;
    second = may.home;
  }

  pub join_has : (old new : Known) (r : Result (Unit {0}) Worn) → new.view.number ≡ old.view.number → HasBoth p old
      → MayJoinSecond new p.second → EndsJoin old new p.second r → HasBoth p new
  join_has old new (Ok u) number has may x = joined_has old new _ number has may x.0
  join_has old new (Err v) number has may x = joined_has old new _ number has may x.0

  -- over steps that are about no entry
  pub still_has : (s : ℕ → ℕ) (old new : Known) → Carries (record unchanged { state = s }) old new → HasBoth p old
      → HasBoth p new
  still_has s old new c has = record {
    up = c.awake ∙ has.up;
    free = record { head = c.head ∙ has.free.head; ticket = c.ticket ∙ has.free.ticket };
    first = subst (IsPart p.first (kind_for p.first))
        (sym (ap (λ (n : ℕ). (told_of new).bits.stored (index n 0)) c.number ∙ c.stored (own_of old) refl refl)) has.first;
    second = subst (IsPart p.second (kind_for p.second))
        (sym (ap (λ (n : ℕ). (told_of new).bits.stored (index n 1)) c.number ∙ c.stored (second_of old) refl refl))
        has.second;
  }
