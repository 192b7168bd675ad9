-- Tasks of tests that wait by the flag of an entry.
use Rattle.std.proofs.Common.{◌∙◌, ap, sym, refl, subst, inr, arith}
use Rattle.std.specs.Prelude.{ℕ, ◌≡◌, false}
use Rattle.wait_model.specs.declared.tasks.SleepState.TheVariants as states
use Rattle.wait_rule.specs.{Known.Known, Queues.index}
use Rattle.wait_rule.specs.Says.{IsClean, IsFree, IsUp, OwesBut, no_excuse, told_of}
use Rattle.wait_rule.specs.Stays.{Carries, Change, unchanged, with_entry}
use Rattle.wait_event.specs.Entries.{HasWokenEntry, MayRemove, add_change, hold_change, remove_change}
use Rattle.wait_tests.specs.EventTasks.{IsCleanHearer, IsHearer}
use Rattle.wait_class.specs.Posts.{own_of}
use Rattle.wait_event.specs.WokenWaits.{HasHeard}

-- what owes nothing but the own entry, by the number that the task had
pub owes_own : (old new : Known) → new.view.number ≡ old.view.number → OwesBut (with_entry (own_of old) no_excuse) new
    → OwesBut (with_entry (own_of new) no_excuse) new
owes_own old new number = subst (λ (n : ℕ). OwesBut (with_entry (index n 0) no_excuse) new) (sym number)

pub entered : (old new : Known) → IsClean old → MayRemove new → HasWokenEntry new
    → Carries (add_change (own_of old) new.at) old new → IsCleanHearer new
entered old new clean may entry carries = record {
  hearer = record { up = may.up; free = may.free; running = carries.state ∙ clean.running; entry = entry };
  owes = owes_own old new carries.number (carries.owes no_excuse clean.settled);
}

pub worn_clean : (old new : Known) → IsClean old → IsUp new → IsFree new → Carries (hold_change new.at) old new
    → IsClean new
worn_clean old new clean up free carries = record {
  up = up;
  running = carries.state ∙ clean.running;
  free = free;
  settled = carries.owes no_excuse clean.settled;
}

-- the entry stands over a call that does not change it
pub entry_carried : (c : Change) (old new : Known) → Carries c old new → c.but (own_of old) ≡ false
    → HasWokenEntry old → HasWokenEntry new
entry_carried c old new carries but h = record {
  cond = h.cond;
  full = h.full;
  entry = h.entry;
  queued = ap (λ (n : ℕ). (told_of new).bits.stored (index n 0)) carries.number
      ∙ carries.stands 0 (omega arith) but h.entry h.queued (inr h.kind);
  kind = h.kind;
  about = h.about;
}

pub hearer_on : (c : Change) (old new : Known) → Carries c old new → c.but (own_of old) ≡ false → IsUp new
    → IsFree new → new.book.state ≡ 0 → IsHearer old → IsHearer new
hearer_on c old new carries but up free running h = record {
  up = up;
  free = free;
  running = running;
  entry = entry_carried c old new carries but h.entry;
}

pub hearer_stays : (old new : Known) → Carries unchanged old new → IsHearer old → IsHearer new
hearer_stays old new carries h = hearer_on unchanged old new carries refl (carries.awake ∙ h.up)
    (record { head = carries.head ∙ h.free.head; ticket = carries.ticket ∙ h.free.ticket })
    (carries.state ∙ h.running) h

pub clean_stays : (old new : Known) → Carries unchanged old new → IsCleanHearer old → IsCleanHearer new
clean_stays old new carries h = record {
  hearer = hearer_stays old new carries h.hearer;
  owes = owes_own old new carries.number (carries.owes (with_entry (own_of old) no_excuse) h.owes);
}

pub clean_leaves : (old new : Known) → IsCleanHearer old → IsUp new → IsFree new
    → Carries (remove_change (own_of old) new.at) old new → IsClean new
clean_leaves old new h up free carries = record {
  up = up;
  running = carries.state ∙ h.hearer.running;
  free = free;
  settled = carries.owes no_excuse h.owes;
}

-- who has waited is between two waits
pub heard_hearer : (k : Known) → HasHeard k states.Interruptible → IsHearer k
heard_hearer k h = record {
  up = h.up;
  free = record { head = h.stands.head; ticket = h.stands.ticket };
  running = h.stands.state;
  entry = h.entry;
}
