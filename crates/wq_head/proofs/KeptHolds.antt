-- What a hold keeps over looks, wakes, and entries that are taken off.
use Rattle.std.proofs.Common.{◌∙◌, ap, sym, refl, subst}
use Rattle.std.specs.Prelude.{ℕ, ◌≡◌, ◌<◌, ◌≤◌, true, Some}
use Rattle.wait_model.specs.{declared.layout.TheConstants.SLOTS, declared.layout.TheConstants.FIRST_SIMPLE_HEAD}
use Rattle.wait_model.specs.{declared.watches.Entry.Entry, declared.steps.Step.Step, Views.View as Told, Fold.after}
use Rattle.wait_model.specs.declared.steps.Step.TheVariants as step
use Rattle.wait_rule.specs.declared.journal.Item.TheVariants as item
use Rattle.wait_rule.specs.{Known.Known, Members.IsOwnKind, Notes.Notes, Notes.note_step, Queues.IsAgreed, Queues.index}
use Rattle.wait_rule.specs.Says.{told_of, noted, added, stored_with}
use Rattle.wait_rule.specs.Stays.{Stays, no_entries, Carries, only_looks}
use Rattle.wait_rule.proofs.KnownLaws.AfterSteps.{told_added, noted_added}
use Rattle.wait_rule.proofs.KnownLaws.CarriedTasks.{stays_carried}
use Rattle.wait_rule.proofs.KnownLaws.MemberBits.{told_stored, noted_stored}
use Rattle.wait_rule.proofs.KnownLaws.StayingParts.{stays_on, stays_same}
use Rattle.wq_head.specs.{Holds.IsHolding, Looks.Looks, Walking.IsUnder}
use Rattle.wq_head.specs.Selects.{IsSimpleHold, KeepsHold, simple_aim}
use Rattle.wq_head.proofs.QuietSteps.{TellsLittle, wake_quiet, wake_stays, off_tells, off_stays}

pub hold_same : (k : Known) → KeepsHold k k
hold_same k = record {
  stays = stays_same k;
  owes = λ c σ. refl;
  mark = refl;
  own = refl;
  walk = refl;
  hold = refl;
  head = refl;
  ticket = refl;
  agreed = λ a. a;
  at = refl;
}

pub hold_on : (x y z : Known) → KeepsHold x y → KeepsHold y z → KeepsHold x z
hold_on x y z one two = record {
  stays = stays_on no_entries x y z one.stays two.stays;
  owes = λ c σ. two.owes c σ ∙ one.owes c σ;
  mark = two.mark ∙ one.mark;
  own = two.own ∙ one.own;
  walk = two.walk ∙ one.walk;
  hold = two.hold ∙ one.hold;
  head = two.head ∙ one.head;
  ticket = two.ticket ∙ one.ticket;
  agreed = λ a. two.agreed (one.agreed a);
  at = two.at ∙ one.at;
}

pub hold_looks : (old new : Known) → Looks old new → KeepsHold old new
hold_looks old new l = record {
  stays = l.stays;
  owes = λ c σ. ap (λ (v : Told). v.duty.owes c σ) l.from.told;
  mark = ap (λ (v : Told). v.mark) l.from.told;
  own = ap (λ (n : Notes). n.own) l.from.noted;
  walk = ap (λ (v : Told). v.walk) l.from.told;
  hold = ap (λ (v : Told). v.hold.head) l.from.told;
  head = ap (λ (k : Known). k.book.head) l.is;
  ticket = ap (λ (k : Known). k.book.ticket) l.is;
  agreed = λ a. ap (λ (k : Known). k.book.differs) l.is ∙ a;
  at = ap (λ (k : Known). k.at) l.is;
}

-- a step that tells little
hold_little : (k new : Known) (e : Step) → TellsLittle e → told_of new ≡ after e (told_of k)
    → noted new ≡ note_step k.view.number e (told_of k) (noted k) → Stays no_entries k new
    → new.book.head ≡ k.book.head → new.book.ticket ≡ k.book.ticket → (IsAgreed k → IsAgreed new) → new.at ≡ k.at
    → KeepsHold k new
hold_little k new e q told notes stays head ticket agreed at = record {
  stays = stays;
  owes = λ c σ. ap (λ (v : Told). v.duty.owes c σ) told ∙ ap (λ (d : _). d.owes c σ) (q.duty (told_of k));
  mark = ap (λ (v : Told). v.mark) told ∙ q.mark (told_of k);
  own = ap (λ (n : Notes). n.own) notes ∙ q.own k.view.number (told_of k) (noted k);
  walk = ap (λ (v : Told). v.walk) told ∙ q.walk (told_of k);
  hold = ap (λ (v : Told). v.hold.head) told ∙ q.head (told_of k);
  head = head;
  ticket = ticket;
  agreed = agreed;
  at = at;
}

pub hold_wake : (k : Known) (who mask w : ℕ) → KeepsHold k (added k (item.Made (step.Wake who mask w)))
hold_wake k who mask w = hold_little k (added k (item.Made (step.Wake who mask w))) (step.Wake who mask w)
    (wake_quiet who mask w).tells (told_added k (item.Made (step.Wake who mask w)))
    (noted_added k (item.Made (step.Wake who mask w))) (wake_stays k who mask w) refl refl (λ a. a) refl

pub hold_off : (k : Known) (x : ℕ) → ((slot : ℕ) → slot < SLOTS → x ≡ index k.view.number slot → (e : Entry)
    → (told_of k).bits.stored x ≡ Some e → IsOwnKind e.kind → ⊥) → KeepsHold k (stored_with k (step.Unqueue x))
hold_off k x loose = hold_little k (stored_with k (step.Unqueue x)) (step.Unqueue x) (off_tells x)
    (told_stored k (step.Unqueue x)) (noted_stored k (step.Unqueue x)) (off_stays k x loose) refl refl (λ _. refl) refl

-- so the task carries on, and so do the hold and its walk
pub hold_carried : (old new : Known) → KeepsHold old new → Carries only_looks old new
hold_carried old new k = stays_carried (λ h. h) (λ t. t) (λ h. h) true old new k.stays k.head k.ticket k.hold k.at
    k.mark (λ c σ none. k.owes c σ ∙ none) (λ x none. absurd (cc))

pub hold_holds : (old new : Known) → KeepsHold old new → IsHolding old → IsHolding new
hold_holds old new k h = record {
  locked = k.head ∙ (h.locked ∙ ap (λ (n : ℕ). Some n) (sym k.at));
  agreed = k.agreed h.agreed;
  told = k.hold ∙ (h.told ∙ ap (λ (n : ℕ). Some n) (sym k.at));
}

pub hold_simple : (old new : Known) → KeepsHold old new → IsSimpleHold old → IsSimpleHold new
hold_simple old new k s = record {
  simple = subst (λ (h : ℕ). FIRST_SIMPLE_HEAD ≤ h) (sym k.at) s.simple;
  walk = s.walk;
  under = subst (λ (h : ℕ). IsUnder (simple_aim h) (told_of new) s.walk) (sym k.at)
      (record { under = k.walk ∙ s.under.under; watch = s.under.watch; mask = s.under.mask });
}
