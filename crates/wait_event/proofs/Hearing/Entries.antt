-- What stays of a task over a wait for its flag: its entries, and what it owes.
use Rattle.std.proofs.Common.{◌∙◌, ap, refl, inr}
use Rattle.std.specs.Prelude.{ℕ, ◌≡◌}
use Rattle.wait_model.specs.Views.{View as Told}
use Rattle.wait_rule.specs.{Known.Known, Queues.index, Stays.Carries, Stays.unchanged}
use Rattle.wait_rule.specs.Says.{Debts, Excuse, IsFree, IsUp, told_of}
use Rattle.wait_class.proofs.Ground.Keeping.{same_owing}
use Rattle.wait_event.specs.{Entries.HasWokenEntry, Entries.MayRemove, WokenWaits.KeepsEntries}
use Rattle.wait_class.specs.Posts.{own_of}

pub keeps_on : (old mid new : Known) → KeepsEntries old mid → KeepsEntries mid new → KeepsEntries old new
keeps_on old mid new a b = record {
  domain = b.domain ∙ a.domain;
  number = b.number ∙ a.number;
  at = b.at ∙ a.at;
  mark = b.mark ∙ a.mark;
  fewer = λ w σ is. b.fewer w σ (a.fewer w σ is);
  stored = λ x. b.stored x ∙ a.stored x;
  keeps = λ d. b.keeps d ∙ a.keeps d;
  owes = λ x o. b.owes x (a.owes x o);
}

-- of a call that changes no more than the state
pub keeps_by : (f : ℕ → ℕ) (old new : Known) → Carries (record unchanged { state = f }) old new → KeepsEntries old new
keeps_by f old new c = record {
  domain = c.domain;
  number = c.number;
  at = c.at;
  mark = c.mark;
  fewer = λ w σ is. c.fewer w σ refl is;
  stored = λ x. c.stored x refl refl;
  keeps = λ d. c.keeps d refl;
  owes = c.owes;
}

-- of a history that tells the same
pub keeps_told : (old new : Known) → new.domain ≡ old.domain → new.view.number ≡ old.view.number → new.at ≡ old.at
    → told_of new ≡ told_of old → ((x : Excuse) → Debts x old → Debts x new) → KeepsEntries old new
keeps_told old new domain number at told debts = record {
  domain = domain;
  number = number;
  at = at;
  mark = ap (λ (v : Told). v.mark) told;
  fewer = λ w σ is. ap (λ (v : Told). v.duty.owes w σ) told ∙ is;
  stored = λ x. ap (λ (v : Told). v.bits.stored x) told;
  keeps = λ d. ap (λ (v : Told). v.bits.keeps d) told;
  owes = same_owing old new told debts;
}

-- so the own entry stands
pub woken_stays : (old new : Known) → KeepsEntries old new → HasWokenEntry old → HasWokenEntry new
woken_stays old new k h = record {
  cond = h.cond;
  full = h.full;
  entry = h.entry;
  queued = ap (λ (n : ℕ). (told_of new).bits.stored (index n 0)) k.number ∙ (k.stored (own_of old) ∙ h.queued);
  kind = h.kind;
  about = h.about;
}

pub woken_leaves : (k : Known) → IsUp k → IsFree k → HasWokenEntry k → MayRemove k
woken_leaves k up free h = record {
  up = up;
  free = free;
  cond = h.cond;
  full = h.full;
  entry = h.entry;
  queued = h.queued;
  kind = inr h.kind;
  about = h.about;
}
