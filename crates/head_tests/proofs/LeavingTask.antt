-- A task of tests that waits with its entry of slot 0, and leaves.
use Rattle.std.proofs.Common.{◌∙◌, ap, sym, refl, subst, inl, arith}
use Rattle.std.specs.Prelude.{ℕ, ◌≡◌, ◌&&◌, ◌||◌, Bool, true, false, Option, Some, None, ◌∷◌}
use Rattle.wait_model.specs.{declared.layout.TheConstants.FIRST_PLAIN_HEAD, declared.layout.TheConstants.RUNNING}
use Rattle.wait_model.specs.{declared.watches.Entry.Entry, declared.watches.Kind.Kind, declared.watches.Aim.Aim}
use Rattle.wait_model.specs.{declared.steps.Step.Step, declared.tasks.Sleep.Sleep, Tasks.meets, Words.entry_of}
use Rattle.wait_model.specs.{Fold.after, Fold.view_of}
use Rattle.wait_model.specs.Watches.{head_of, mask_of, same}
use Rattle.wait_model.specs.Views.{View as Told, Bits, blank}
use Rattle.wait_model.specs.declared.watches.Watch.TheVariants as watch
use Rattle.wait_model.specs.declared.watches.Kind.TheVariants as kind
use Rattle.wait_model.specs.declared.watches.Mode.TheVariants as mode
use Rattle.wait_model.specs.declared.steps.Step.TheVariants as step
use Rattle.wait_model.proofs.{HistoryLaws.HoldLooks.after_snoc, StepLaws.UnlockSteps.unlock_bits}
use Rattle.wait_rule.specs.declared.journal.Item.TheVariants as item
use Rattle.wait_rule.specs.{Known.Known, Items.Difference, Items.with_difference}
use Rattle.wait_rule.specs.Says.{IsClean, IsFree, Excuse, OwesBut, HasSlept, no_excuse, added, history_of, told_of}
use Rattle.wait_rule.specs.Queues.{IsIdle, IsTailPlace, KnewEntry, MayUnqueue, index, saw}
use Rattle.wait_rule.specs.Stays.{Stays, StaysOwing, no_entries, with_entry, with_wakes}
use Rattle.wait_rule.proofs.{KnownLaws.AfterSteps.told_added, KnownLaws.Turns.told_unlocked}
use Rattle.wait_rule.proofs.{KnownLaws.TaskHistories.history_slept, KnownLaws.Debts.items_debts}
use Rattle.wait_rule.proofs.{KnownLaws.Debts.looks_quiet, KnownLaws.CarriedTasks.owes_more}
use Rattle.wait_rule.proofs.{KnownLaws.StayingParts.look_out, KnownLaws.StayingParts.owes_out}
use Rattle.wait_rule.proofs.KnownLaws.SettledTasks.{stays_settled, owes_after, owes_told}
use Rattle.wq_head.specs.{Looks.Looks, Walks.HasEnded}
use Rattle.wq_head.specs.Holds.{HasLocked, HasUnlocked, IsHolding}
use Rattle.wq_head.specs.Adds.{HasAdded, HasRemoved, front_entry}
use Rattle.head_tests.specs.Leaving.{HasEntry, HasLeft, IsBack}
use Rattle.wq_head.proofs.{ReadyTasks.first_head, ReadyTasks.may_take_off, OneMoreLook.saw_bits, OneMoreLook.saw_looks}
use Rattle.wq_head.proofs.LockWaits.{locked_told}

-- the entry stays where the number and the entries stay, and what is owed
pub entry_on : (old new : Known) (kd : Kind) → new.view.number ≡ old.view.number
    → (told_of new).bits.stored ≡ (told_of old).bits.stored → StaysOwing old new → HasEntry old kd → HasEntry new kd
entry_on old new kd number stored owing h = record {
  place = h.place;
  queued = (λ i. stored i (index (number i) 0)) ∙ h.queued;
  owes = subst (λ (n : ℕ). OwesBut (with_entry (index n 0) no_excuse) new) (sym number)
      (owing (with_entry (index old.view.number 0) no_excuse) h.owes);
}

-- over a step on a task word, a sleep, and a lock
pub entry_after : (old new : Known) (kd : Kind) (e : Step) → stays_settled e ≡ true
    → (after e (told_of old)).bits.stored ≡ (told_of old).bits.stored → new ≡ added old (item.Made e) → HasEntry old kd
    → HasEntry new kd
entry_after old new kd e settles same is = entry_on old new kd (ap (λ (k : Known). k.view.number) is)
    (ap (λ (k : Known). (told_of k).bits.stored) is ∙ (ap (λ (v : Told). v.bits.stored) (told_added old (item.Made e))
    ∙ same)) (owes_after old new e settles is)

slept_told : (old new : Known) (answer : Sleep) → HasSlept old new answer → told_of new ≡ told_of old
slept_told old new answer h = ap view_of (history_slept old new answer h)
    ∙ after_snoc blank (history_of old) (step.Sleep h.found)

slept_owing : (old new : Known) (answer : Sleep) → HasSlept old new answer → StaysOwing old new
slept_owing old new answer h =
    let told = slept_told old new answer h in
    owes_told old new (ap (λ (v : Told). v.mark) told) (λ i. ap (λ (v : Told). v.bits.stored i) told)
    (λ c. ap (λ (v : Told). v.bits.keeps c) told) (λ c none. ap (λ (v : Told). v.bits.pending c) told ∙ none)
    (items_debts old new (item.Made (step.Sleep h.found) ∷ h.looks) (refl, looks_quiet h.looks h.no_steps h.no_adds)
    (ap (λ (k : Known). k.view) h.is))

pub entry_slept : (old new : Known) (kd : Kind) (answer : Sleep) → HasSlept old new answer → HasEntry old kd
    → HasEntry new kd
entry_slept old new kd answer h = entry_on old new kd (ap (λ (k : Known). k.view.number) h.is)
    (ap (λ (v : Told). v.bits.stored) (slept_told old new answer h)) (slept_owing old new answer h)

pub entry_locked : (old new : Known) (kd : Kind) (head : ℕ) (walk : Option Aim) → HasLocked old new head walk
    → Stays no_entries old new → StaysOwing old new → HasEntry old kd → HasEntry new kd
entry_locked old new kd head walk l stays owing = entry_on old new kd stays.number
    (ap (λ (v : Told). v.bits.stored) (locked_told old new head walk l)) owing

unlocked_stored : (old new : Known) (spent : Bool) → HasUnlocked old new spent
    → (told_of new).bits.stored ≡ (told_of old).bits.stored
unlocked_stored old new spent u = ap (λ (k : Known). (told_of k).bits.stored) u.is
    ∙ (ap (λ (v : Told). v.bits.stored) (told_unlocked old old.at spent)
    ∙ ap (λ (b : Bits). b.stored) (unlock_bits (told_of old) (told_of old).walk spent))

-- an add in a hold of its own
pub entry_added : (old held queued new : Known) (kd : Kind) → IsClean old → Stays no_entries old held
    → StaysOwing old held
    → HasAdded IsTailPlace held queued 0 (front_entry (watch.Plain 0) kd) → HasUnlocked queued new false → IsBack new kd
entry_added old held queued new kd clean stays owing a u = record {
  running = u.stays.state ∙ (a.stays.state ∙ (stays.state ∙ clean.running));
  queued = record {
    up = u.stays.awake ∙ (a.stays.awake ∙ (stays.awake ∙ clean.up));
    free = u.free;
    entry = entry_on queued new kd u.stays.number (unlocked_stored queued new false u) u.settled (record {
      place = a.place;
      queued = ap (λ (n : ℕ). (told_of queued).bits.stored (index n 0)) a.stays.number ∙ a.queued;
      owes = subst (λ (n : ℕ). OwesBut (with_entry (index n 0) no_excuse) queued) (sym a.stays.number)
          (a.carries.owes no_excuse (owing no_excuse clean.settled));
    });
  };
}

-- a look at the own entry in a hold, and its removal
module _ (old mid : Known) (n w : ℕ) (kd : Kind) (mine : n ≡ old.view.number) (held : IsHolding old)
    (at : old.at ≡ FIRST_PLAIN_HEAD)
    (h : HasEntry old kd) (is : mid ≡ added old (item.Made (saw old.book.head (index n 0) w)))
    (knew : KnewEntry old (index n 0) w) where
  looks : Looks old mid
  looks = saw_looks old mid (index n 0) w held is knew

  here : index n 0 ≡ index old.view.number 0
  here = ap (λ (m : ℕ). index m 0) mine

  owing : OwesBut (with_entry (index n 0) no_excuse) mid
  owing = looks.settled (with_entry (index n 0) no_excuse)
      (subst (λ (x : ℕ). OwesBut (with_entry x no_excuse) old) (sym here) h.owes)

  pub off_left : entry_of w ≡ None → HasLeft old mid
  off_left none = record {
    hold = record {
      domain = looks.stays.domain;
      book = ap (λ (k : Known). k.book) looks.is;
      at = ap (λ (k : Known). k.at) looks.is;
    };
    settled = owes_out (index n 0) no_excuse mid
        (look_out old mid (index n 0) w (saw_bits old mid (index n 0) w held is knew) none) owing;
  }

  pub on_may : (e : Entry) → entry_of w ≡ Some e → MayUnqueue mid n 0
  on_may e reads =
      let stored = knew.own 0 (omega arith) here e reads in
      let same : Some e ≡ Some (front_entry (watch.Plain 0) kd h.place) =
      sym stored ∙ (ap (told_of old).bits.stored here ∙ h.queued) in
      let is_it : e ≡ front_entry (watch.Plain 0) kd h.place = cc in
      may_take_off old mid n w held is knew e mine reads (ap (λ (f : Entry). head_of f.watch) is_it
      ∙ (first_head ∙ sym at))

  pub removed_left : (new : Known) → HasRemoved mid new n 0 → HasLeft old new
  removed_left new r = record {
    hold = record {
      domain = r.stays.domain ∙ looks.stays.domain;
      book = ap (λ (k : Known). k.book) r.is ∙ (ap (λ (d : Difference). with_difference d mid.book)
          (sym ((λ i. (looks.is i).book.differs) ∙ held.agreed)) ∙ ap (λ (k : Known). k.book) looks.is);
      at = ap (λ (k : Known). k.at) r.is ∙ ap (λ (k : Known). k.at) looks.is;
    };
    settled = r.carries.owes no_excuse owing;
  }

-- an entry of kind Default stands
pub default_reads : (old : Known) (n w : ℕ) → n ≡ old.view.number → (h : HasEntry old kind.Default)
    → KnewEntry old (index n 0) w
    → entry_of w ≡ Some (front_entry (watch.Plain 0) kind.Default h.place)
default_reads old n w mine h knew = knew.stands 0 (omega arith) (ap (λ (m : ℕ). index m 0) mine)
    (front_entry (watch.Plain 0) kind.Default h.place)
    (ap (λ (m : ℕ). (told_of old).bits.stored (index m 0)) mine ∙ h.queued) (inl refl)

-- a task that has left and given the lock back is clean
pub left_clean : (old held off new : Known) (kd : Kind) → IsBack old kd → Stays no_entries old held → HasLeft held off
    → HasUnlocked off new false → IsClean new
left_clean old held off new kd back stays left u = record {
  up = u.stays.awake ∙ (ap (λ (b : _). b.awake) left.hold.book ∙ (stays.awake ∙ back.queued.up));
  running = u.stays.state ∙ (ap (λ (b : _). b.state) left.hold.book ∙ (stays.state ∙ back.running));
  free = u.free;
  settled = u.settled no_excuse left.settled;
}

-- a task that is RUNNING, holds no lock and has no bookmark out, by what it owes
pub idle_by : (k : Known) (x : Excuse) → k.book.state ≡ RUNNING → IsFree k → OwesBut x k → IsIdle k
idle_by k x running free o = record {
  running = running;
  free = free;
  unmarked = o.unmarked;
}

-- a wake with the own entry queued
pub back_idle : (k : Known) (kd : Kind) → IsBack k kd → IsIdle k
back_idle k kd b = idle_by k (with_entry (index k.view.number 0) no_excuse) b.running b.queued.free b.queued.entry.owes

-- who owes nothing owes no more where wakes are excused
or_yes : (a b : Bool) → a ≡ true → (a || b) ≡ true
or_yes true b is = refl
or_yes false b is = absurd (cc)

owes_spared : (a : Aim) (x : Excuse) (k : Known) → OwesBut x k → OwesBut (with_wakes a.watch a.mode x) k
unfolding with_wakes
owes_spared a x k o = owes_more x (with_wakes a.watch a.mode x) k refl refl refl refl refl
    (λ c σ. or_yes (x.wakes c σ) (same c a.watch && meets (mask_of a.mode) σ)) o

pub entry_woken : (old new : Known) (a : Aim) → IsBack old kind.Default → HasEnded old new a → HasEntry new kind.Default
entry_woken old new a b e =
    let h = b.queued.entry in record {
      place = h.place;
      queued = ap (λ (n : ℕ). (told_of new).bits.stored (index n 0)) e.stays.number
          ∙ e.stays.stands 0 (omega arith) refl (front_entry (watch.Plain 0) kind.Default h.place) h.queued (inl refl);
      owes = subst (λ (n : ℕ). OwesBut (with_entry (index n 0) no_excuse) new) (sym e.stays.number)
          (e.settled (with_entry (index old.view.number 0) no_excuse)
          (owes_spared a (with_entry (index old.view.number 0) no_excuse) old h.owes));
    }
