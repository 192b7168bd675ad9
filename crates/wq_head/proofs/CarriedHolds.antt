-- What the calls on heads carry on of a task.
use Rattle.std.proofs.Common.{◌∙◌, ap, sym, refl, inl, inr}
use Rattle.std.specs.Prelude.{ℕ, ◌≡◌, ◌⊎◌, ◌&&◌, ◌||◌, not, Bool, true, false, Option, Some, None}
use Rattle.wait_model.specs.{declared.watches.Watch.Watch, declared.watches.Entry.Entry, declared.watches.Aim.Aim}
use Rattle.wait_model.specs.{Tasks.meets, Watches.same, Watches.mask_of, Fold.after_unlock}
use Rattle.wait_model.specs.Views.{View as Told, Hold, Bits}
use Rattle.wait_model.specs.declared.watches.Mode.TheVariants as mode
use Rattle.wait_model.proofs.StepLaws.UnlockSteps.{unlock_bits, unlock_hold}
use Rattle.wait_rule.specs.{Known.Known, Tickets.no_ticket, Tickets.taken, Queues.IsIdle}
use Rattle.wait_rule.specs.Says.{Excuse, OwesBut, is_excused, told_of, unlocked_with, wake_of}
use Rattle.wait_rule.specs.Stays.{Stays, StaysOwing, no_entries, with_wakes, Carries, only_looks, lock_change}
use Rattle.wait_rule.specs.Stays.{unlock_change, wake_all_change}
use Rattle.wait_rule.proofs.{KnownLaws.Turns.told_unlocked, KnownLaws.Debts.unlock_fewer}
use Rattle.wait_rule.proofs.{KnownLaws.SettledTasks.unlock_mark, KnownLaws.StayingParts.stays_owing}
use Rattle.wait_rule.proofs.KnownLaws.CarriedTasks.{owes_more, owes_wakes, stays_carried}
use Rattle.wq_head.specs.{Holds.HasLocked, Looks.Looks, Walks.HasEnded, Walks.still_owed}
use Rattle.wq_head.proofs.LockWaits.{locked_told, locked_stays, unlocked_stays}

pub still_out : (now was : Option Entry) → (now ≡ was) ⊎ (now ≡ None) → was ≡ None → now ≡ None
still_out now was (inl same) none = same ∙ none
still_out now was (inr out) none = out

pub lock_carried : (old new : Known) (head : ℕ) (walk : Option Aim) → HasLocked old new head walk → Carries
    (lock_change head) old new
lock_carried old new head walk l = stays_carried (λ _. Some head) (λ _. taken head) (λ _. head) false old new
    (locked_stays old new head walk l)
    (ap (λ (k : Known). k.book.head) l.is) (ap (λ (k : Known). k.book.ticket) l.is)
    (ap (λ (v : Told). v.hold.head) (locked_told old new head walk l))
    (ap (λ (k : Known). k.at) l.is) (ap (λ (v : Told). v.mark) (locked_told old new head walk l))
    (λ c σ none. ap (λ (v : Told). v.duty.owes c σ) (locked_told old new head walk l) ∙ none)
    (λ x _. ap (λ (v : Told). v.bits.stored x) (locked_told old new head walk l))

-- an unlock
unlock_told : (old new : Known) (spent : Bool) → new ≡ unlocked_with old old.at spent
    → told_of new ≡ after_unlock (told_of old) (told_of old).walk spent
unlock_told old new spent is = ap told_of is ∙ told_unlocked old old.at spent

pub unlock_free : (old new : Known) (spent : Bool) → new ≡ unlocked_with old old.at spent
    → (told_of new).hold.head ≡ None
unlock_free old new spent is = ap (λ (v : Told). v.hold.head) (unlock_told old new spent is)
    ∙ ap (λ (h : Hold). h.head) (unlock_hold (told_of old) (told_of old).walk spent)

pub unlock_carried : (old new : Known) (spent : Bool) → new ≡ unlocked_with old old.at spent
    → Carries unlock_change old new
unlock_carried old new spent is =
    let told = unlock_told old new spent is in
    stays_carried (λ _. None) (λ _. no_ticket) (λ h. h) false old new (unlocked_stays old new spent is)
    (ap (λ (k : Known). k.book.head) is) (ap (λ (k : Known). k.book.ticket) is) (unlock_free old new spent is)
    (ap (λ (k : Known). k.at) is)
    (ap (λ (v : Told). v.mark) told ∙ unlock_mark (told_of old) (told_of old).walk spent)
    (λ c σ none. ap (λ (v : Told). v.duty.owes c σ) told ∙ unlock_fewer (told_of old) (told_of old).walk spent c σ none)
    (λ x _. ap (λ (v : Told). v.bits.stored x) told ∙ ap (λ (b : Bits). b.stored x)
    (unlock_bits (told_of old) (told_of old).walk spent))

-- looks in a hold
pub looks_carried : (old new : Known) → Looks old new → Carries only_looks old new
looks_carried old new l = stays_carried (λ h. h) (λ t. t) (λ h. h) true old new l.stays
    (ap (λ (k : Known). k.book.head) l.is) (ap (λ (k : Known). k.book.ticket) l.is)
    (ap (λ (v : Told). v.hold.head) l.from.told) (ap (λ (k : Known). k.at) l.is) (ap (λ (v : Told). v.mark) l.from.told)
    (λ c σ none. ap (λ (v : Told). v.duty.owes c σ) l.from.told ∙ none) (λ x none. absurd (cc))

-- a wake
ended_wakes : (w s n o : Bool) → (o && not ((w || s) || n)) ≡ false → ((o && not s) && not (w || n)) ≡ false
ended_wakes w s n false is = refl
ended_wakes w true n true is = refl
ended_wakes true false n true is = refl
ended_wakes false false n true is = is

pub ended_owes : (a : Aim) (old new : Known) → Stays no_entries old new → (told_of new).mark ≡ None
    → ((c : Watch) (σ : ℕ) → (told_of new).duty.owes c σ ≡ still_owed a (told_of old) c σ) → (x : Excuse)
    → OwesBut (with_wakes a.watch a.mode x) old → OwesBut x new
unfolding with_wakes
ended_owes a old new stays unmarked owes x o = owes_wakes (with_wakes a.watch a.mode x) x new refl refl refl refl refl
    (λ c σ. ap (λ (b : Bool). b && not (is_excused x c σ)) (owes c σ)
    ∙ ended_wakes (x.wakes c σ) (same c a.watch && meets (mask_of a.mode) σ) (not (meets (mask_of mode.Normal) σ))
    ((told_of old).duty.owes c σ) (o.debts.none (wake_of c σ)))
    (stays_owing old new stays (unmarked ∙ sym o.unmarked) (with_wakes a.watch a.mode x) o)

-- whoever is excused of the wakes too owes no more then
more_wakes : (w s m : Bool) → w ≡ true → (w || (s && m)) ≡ true
more_wakes true s m is = refl
more_wakes false s m is = absurd (cc)

owes_wider : (a : Aim) (x : Excuse) (k : Known) → OwesBut x k → OwesBut (with_wakes a.watch a.mode x) k
unfolding with_wakes
owes_wider a x k o = owes_more x (with_wakes a.watch a.mode x) k refl refl refl refl refl
    (λ c σ. more_wakes (x.wakes c σ) (same c a.watch) (meets (mask_of a.mode) σ)) o

-- so a wake of what it did not owe leaves what it owes
pub wake_owing : (a : Aim) (old new : Known) → HasEnded old new a → StaysOwing old new
wake_owing a old new e x o = e.settled x (owes_wider a x old o)

pub wake_carried : (a : Aim) (old new : Known) → HasEnded old new a → IsIdle old → IsIdle new →
    (told_of new).hold.head ≡ None
    → Carries (wake_all_change a.watch a.mode new.at) old new
wake_carried a old new e before behind hold = record {
  domain = e.stays.domain;
  number = e.stays.number;
  awake = e.stays.awake;
  state = e.stays.state;
  head = behind.free.head;
  ticket = behind.free.ticket;
  hold = hold;
  at = refl;
  mark = behind.unmarked ∙ sym before.unmarked;
  fewer = λ w σ _ none. e.owes w σ ∙ ap (λ (b : Bool). b && not (same w a.watch && meets (mask_of a.mode) σ)) none;
  stored = λ x none _. absurd (cc);
  out = λ x _ none. still_out _ _ (e.stays.still x refl) none;
  stands = λ slot few _ d is own. e.stays.stands slot few refl d is own;
  keeps = λ d _. e.stays.keeps d;
  owes = e.settled;
}
