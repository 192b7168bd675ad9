-- Conditions that are taken, and set with a wake behind.
use Rattle.std.proofs.Common.{◌∙◌, sym, refl, subst}
use Rattle.std.specs.Prelude.{ℕ, ◌≡◌, ◌||◌, ◌&&◌, Bool, true, false, Some, None}
use Rattle.wait_model.specs.declared.calls.Call.TheVariants as calls
use Rattle.wait_model.specs.declared.points.Next.TheVariants as next
use Rattle.wait_model.specs.declared.points.Point.TheVariants as at
use Rattle.wait_model.specs.declared.steps.Step.TheVariants as step
use Rattle.wait_model.specs.{declared.queues.Walked.Walked, declared.watches.Mode.Mode, declared.watches.Watch.Watch}
use Rattle.wait_model.specs.{Programs.zero_answer, Tasks.meets, Watches.same, Watches.mask_of}
use Rattle.wait_model.specs.declared.watches.Mode.TheVariants as mode
use Rattle.wait_model.specs.declared.watches.Watch.TheVariants as watch
use Rattle.wait_rule.specs.declared.journal.Item.TheVariants as item
use Rattle.wait_rule.specs.{Known.Known, Queues.IsIdle, Queues.index, Transitions.by_step, Transitions.call_program}
use Rattle.wait_rule.specs.Says.{Excuse, OwesBut, added, told_of}
use Rattle.wait_rule.specs.Stays.{Carries, publish_change, wake_all_change, with_wakes}
use Rattle.wait_rule.proofs.{KnownLaws.CarriedTasks.owes_more, KnownLaws.Transitions.only_none}
use Rattle.wq_head.specs.Walks.{HasWoken, HasEnded}
use Rattle.wait_class.specs.{Posts.Runs, Findings.with_value}
use Rattle.wait_event.specs.Conds.{HasSet, HasTakenCond, left_owed, set_change}
use Rattle.wait_class.proofs.Ground.Going.{runs_one}

pub takes : (old new : Known) (c v : ℕ) → new ≡ added old (item.Made (step.Consume (watch.Plain c) 0 v))
    → HasTakenCond old new c v
takes old new c v is = subst (λ (k : Known). HasTakenCond old k c v) (sym is)
    (runs_one (call_program old.view.number 0 (calls.Take c)) at.Take old old
    (added old (item.Made (step.Consume (watch.Plain c) 0 v))) (with_value v)
    (by_step (step.Consume (watch.Plain c) 0 v)) (only_none old) (refl, refl) (refl, tt, tt)
    (only_none (added old (item.Made (step.Consume (watch.Plain c) 0 v)))))

-- the publish
pub sets : (old mid : Known) (c value r : ℕ) → mid ≡ added old (item.Made (step.Publish (watch.Plain c) value r))
    → Runs (call_program old.view.number 0 (calls.Set c value)) old mid (next.Go at.Store) (next.Ends zero_answer)
sets old mid c value r is = subst (λ (k : Known). Runs (call_program old.view.number 0 (calls.Set c value)) old k
    (next.Go at.Store) (next.Ends zero_answer)) (sym is)
    (runs_one (call_program old.view.number 0 (calls.Set c value)) at.Store old old
    (added old (item.Made (step.Publish (watch.Plain c) value r))) (with_value r)
    (by_step (step.Publish (watch.Plain c) value r)) (only_none old) (refl, refl, refl) (refl, tt, tt)
    (only_none (added old (item.Made (step.Publish (watch.Plain c) value r)))))

pub set_idle : (c : Watch) (old mid : Known) → IsIdle old → Carries (publish_change c) old mid → IsIdle mid
set_idle c old mid idle a = record {
  running = a.state ∙ idle.running;
  free = record { head = a.head ∙ idle.free.head; ticket = a.ticket ∙ idle.free.ticket };
  unmarked = a.mark ∙ idle.unmarked;
}

-- the wake ends what the publish began
wider : (w s m : Bool) → w ≡ true → (w || (s && m)) ≡ true
wider true s m is = refl
wider false s m is = absurd (cc)

owes_wider : (c : Watch) (m : Mode) (x : Excuse) (k : Known) → OwesBut x k → OwesBut (with_wakes c m x) k
unfolding with_wakes
owes_wider c m x k o = owes_more x (with_wakes c m x) k refl refl refl refl refl
    (λ d σ. wider (x.wakes d σ) (same d c) (meets (mask_of m) σ)) o

set_owes : (c : Watch) (m : Mode) (old mid new : Known) → Carries (publish_change c) old mid
    → Carries (wake_all_change c m new.at) mid new → (x : Excuse) → OwesBut x old → OwesBut (left_owed m c x) new
set_owes c mode.Normal old mid new a b x o = b.owes x (a.owes x o)
set_owes c mode.Interruptible old mid new a b x o = b.owes (with_wakes c mode.Normal x)
    (owes_wider c mode.Interruptible (with_wakes c mode.Normal x) mid (a.owes x o))

pub set_carries : (c : Watch) (m : Mode) (old mid new : Known) → IsIdle old → IsIdle new
    → (told_of old).hold.head ≡ None → Carries (publish_change c) old mid
    → Carries (wake_all_change c m new.at) mid new → Carries (set_change c m new.at) old new
set_carries c m old mid new idle behind held a b = record {
  domain = b.domain ∙ a.domain;
  number = b.number ∙ a.number;
  awake = b.awake ∙ a.awake;
  state = b.state ∙ a.state;
  head = b.head ∙ sym idle.free.head;
  ticket = b.ticket ∙ sym idle.free.ticket;
  hold = b.hold ∙ sym held;
  at = refl;
  mark = b.mark ∙ a.mark;
  fewer = λ w σ p is. b.fewer w σ refl (a.fewer w σ p is);
  stored = λ x none p. absurd (cc);
  out = λ x p none. b.out x refl (a.out x refl none);
  stands = λ slot few p e is own.
      subst (λ (n : ℕ). (told_of new).bits.stored (index n slot) ≡ Some e) a.number
      (b.stands slot few refl e
      (subst (λ (n : ℕ). (told_of mid).bits.stored (index n slot) ≡ Some e) (sym a.number)
      (a.stands slot few refl e is own)) own);
  keeps = λ d p. b.keeps d refl ∙ a.keeps d p;
  owes = set_owes c m old mid new a b;
}

pub has_set : (old mid new : Known) (c value r : ℕ) (m : Mode) (count : ℕ) (w : Walked)
    → mid ≡ added old (item.Made (step.Publish (watch.Plain c) value r))
    → HasWoken mid new (record { watch = watch.Plain c; mode = m; count = count }) w
    → HasEnded mid new (record { watch = watch.Plain c; mode = m; count = count }) → HasSet old new c value m count w
has_set old mid new c value r m count w is woken ended = record {
  between = mid;
  set = sets old mid c value r is;
  woken = woken;
  ended = ended;
}
