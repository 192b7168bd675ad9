-- What single steps carry on of a task: those on tickets and locks, sleeps and looks at the own word, and those by which a
-- hold tells other tasks.
use Rattle.std.proofs.Common.{◌∙◌, ap, sym, refl, subst}
use Rattle.std.specs.Prelude.{ℕ, ◌≡◌, ◌&&◌, ◌||◌, ◌==◌, not, Bool, true, false, if◌then◌else◌, Option, Some, None}
use Rattle.wait_model.specs.{declared.watches.Aim.Aim, declared.tasks.Sleep.Sleep, Tasks.task_of, Tasks.sleep_of}
use Rattle.wait_model.specs.{Watches.page, Watches.same, Fold.after, Fold.view_of}
use Rattle.wait_model.specs.Views.{View as Told, Bits, Hold, is_trying_for}
use Rattle.wait_model.specs.declared.steps.Step.TheVariants as step
use Rattle.wait_model.specs.declared.tasks.Sleep.TheVariants as sleep
use Rattle.wait_model.proofs.StepLaws.UnlockSteps.{unlock_bits, unlock_hold}
use Rattle.wait_rule.specs.{declared.journal.Item.Item, declared.journal.Journal.Journal, Bits.NotesPage, Known.Known}
use Rattle.wait_rule.specs.{Notes.tell, Queues.at_head, Queues.index}
use Rattle.wait_rule.specs.Asked.{Asked, was_given_at, is_asking, nothing_asked, took_note, waits_for, was_given}
use Rattle.wait_rule.specs.Items.{Book, after_awake, after_sleep, steps_of}
use Rattle.wait_rule.specs.Says.{Debts, Obligation, Excuse, IsOutBut, OwesBut, added, asks_for, end_unclosed, excuses}
use Rattle.wait_rule.specs.Says.{has_duty, has_end, is_excused, page_asked, told_of, wake_of}
use Rattle.wait_rule.specs.Stays.{Carries, StaysOwing, give_change, lock_change, rise_change, sleep_change}
use Rattle.wait_rule.specs.Stays.{ticket_change, unchanged, with_bit, with_bits, with_page}
use Rattle.wait_rule.specs.Tickets.{Ticket, after_serving, drawn, given, no_ticket, taken}
use Rattle.wait_rule.specs.declared.journal.Item.TheVariants as item
use Rattle.wait_rule.proofs.KnownLaws.AfterSteps.{told_added}
use Rattle.wait_rule.proofs.KnownLaws.AskedPages.{asked_added}
use Rattle.wait_rule.proofs.KnownLaws.CarriedBits.{held_more, or_false}
use Rattle.wait_rule.proofs.KnownLaws.Debts.{LeavesNone, added_debts, end_added, item_begins_none, leaves_added, list_debts, wakes_told}
use Rattle.wait_rule.proofs.KnownLaws.StayingBeside.{stays_beside}
use Rattle.wait_rule.proofs.KnownLaws.SettledTasks.{owes_told, unlock_mark}

-- One item more that begins no debt, over which the bookmark and all that is told of bits stay, by what it changes of the
-- book.
module _ (awake : Bool → Bool) (state : ℕ → ℕ) (head : Option ℕ → Option ℕ) (ticket : Ticket → Ticket) (at : ℕ → ℕ)
    (old new : Known) (i : Item) (domain : new.domain ≡ old.domain) (view : new.view ≡ (added old i).view)
    (quiet : item_begins_none i ≡ true) where
  moved_told : told_of new ≡ tell i (told_of old)
  moved_told = ap (λ (v : Journal). view_of (steps_of v.items)) view ∙ told_added old i

  moved_owing : (tell i (told_of old)).mark ≡ (told_of old).mark → (tell i (told_of old)).bits ≡ (told_of old).bits
      → StaysOwing old new
  moved_owing mark bits = owes_told old new (ap (λ (v : Told). v.mark) moved_told ∙ mark)
      (λ x. ap (λ (v : Told). v.bits.stored x) moved_told ∙ ap (λ (b : Bits). b.stored x) bits)
      (λ c. ap (λ (v : Told). v.bits.keeps c) moved_told ∙ ap (λ (b : Bits). b.keeps c) bits)
      (λ c none. ap (λ (v : Told). v.bits.pending c) moved_told ∙ (ap (λ (b : Bits). b.pending c) bits ∙ none))
      (λ x d. list_debts x (added old i) new view (added_debts old (added old i) i quiet refl x d))

  pub moved : new.book.awake ≡ awake old.book.awake → new.book.state ≡ state old.book.state
      → new.book.head ≡ head old.book.head → new.book.ticket ≡ ticket old.book.ticket → new.at ≡ at old.at
      → (tell i (told_of old)).hold.head ≡ head (told_of old).hold.head
      → (tell i (told_of old)).mark ≡ (told_of old).mark → (tell i (told_of old)).bits ≡ (told_of old).bits
      → Carries (record unchanged { awake = awake; state = state; head = head; ticket = ticket; at = at }) old new
  moved up is_state held out last hold mark bits = record {
    domain = domain;
    number = ap (λ (v : Journal). v.number) view;
    awake = up;
    state = is_state;
    head = held;
    ticket = out;
    hold = ap (λ (v : Told). v.hold.head) moved_told ∙ hold;
    at = last;
    mark = ap (λ (v : Told). v.mark) moved_told ∙ mark;
    fewer = λ c σ _ none. ap (λ (v : Told). v.duty.owes c σ) moved_told
        ∙ wakes_told i (told_of old) quiet c σ none;
    stored = λ x _ _. ap (λ (v : Told). v.bits.stored x) moved_told ∙ ap (λ (b : Bits). b.stored x) bits;
    out = λ x _ none. ap (λ (v : Told). v.bits.stored x) moved_told ∙ (ap (λ (b : Bits). b.stored x) bits ∙ none);
    stands = λ slot few _ e is own. ap (λ (v : Told). v.bits.stored (index old.view.number slot)) moved_told
        ∙ (ap (λ (b : Bits). b.stored (index old.view.number slot)) bits ∙ is);
    keeps = λ d _. ap (λ (v : Told). v.bits.keeps d) moved_told ∙ ap (λ (b : Bits). b.keeps d) bits;
    owes = moved_owing mark bits;
  }

-- one item more that changes no more of the book than the ticket, and maybe the word that differs from its bit
module _ (ticket : Ticket → Ticket) (old new : Known) (i : Item) (is : new ≡ added old i) where
  pub turned : item_begins_none i ≡ true → (added old i).book.awake ≡ old.book.awake
      → (added old i).book.state ≡ old.book.state → (added old i).book.head ≡ old.book.head
      → (added old i).book.ticket ≡ ticket old.book.ticket
      → (tell i (told_of old)).hold.head ≡ (told_of old).hold.head
      → (tell i (told_of old)).mark ≡ (told_of old).mark → (tell i (told_of old)).bits ≡ (told_of old).bits
      → Carries (ticket_change ticket) old new
  turned quiet up state held out = moved (λ a. a) (λ σ. σ) (λ h. h) ticket (λ h. h) old new i
      (ap (λ (k : Known). k.domain) is) (ap (λ (k : Known). k.view) is) quiet
      (ap (λ (k : Known). k.book.awake) is ∙ up) (ap (λ (k : Known). k.book.state) is ∙ state)
      (ap (λ (k : Known). k.book.head) is ∙ held) (ap (λ (k : Known). k.book.ticket) is ∙ out)
      (ap (λ (k : Known). k.at) is)

-- tickets
pub drawn_carried : (old new : Known) (h n : ℕ) → new ≡ added old (item.Drawn h n)
    → Carries (ticket_change (λ _. drawn h n)) old new
drawn_carried old new h n is = turned (λ _. drawn h n) old new (item.Drawn h n) is refl refl refl refl refl refl refl
    refl

pub serving_carried : (old new : Known) (h n : ℕ) → new ≡ added old (item.Serving h n)
    → Carries (ticket_change (after_serving h n)) old new
serving_carried old new h n is = turned (after_serving h n) old new (item.Serving h n) is refl refl refl refl refl refl
    refl refl

pub served_carried : (old new : Known) → new ≡ added old item.Served → Carries (ticket_change (λ _. no_ticket)) old new
served_carried old new is = turned (λ _. no_ticket) old new item.Served is refl refl refl refl refl refl refl refl

-- a member bit, a bookmark that is looked at, a flag that is set, a page that is tried for a task, and what tells it
pub member_carried : (old new : Known) → new ≡ added old item.Member → Carries unchanged old new
member_carried old new is = turned (λ t. t) old new item.Member is refl refl refl refl refl refl refl refl

pub bookmark_carried : (old new : Known) (t w : ℕ) → new ≡ added old (item.Bookmark t w) → Carries unchanged old new
bookmark_carried old new t w is = turned (λ t. t) old new (item.Bookmark t w) is refl refl refl refl refl refl refl refl

pub woken_carried : (old new : Known) (x : ℕ) → new ≡ added old (item.Made (step.Woken x)) → Carries unchanged old new
woken_carried old new x is = turned (λ t. t) old new (item.Made (step.Woken x)) is refl refl refl refl refl refl refl
    refl

pub tried_carried : (old new : Known) (x p r : ℕ) → new ≡ added old (item.Made (step.TasFor x p r))
    → Carries unchanged old new
tried_carried old new x p r is = turned (λ t. t) old new (item.Made (step.TasFor x p r)) is refl refl refl refl refl
    refl refl refl

pub told_carried_on : (old new : Known) (x : ℕ) → new ≡ added old (item.Made (step.Handed x))
    → Carries unchanged old new
told_carried_on old new x is = turned (λ t. t) old new (item.Made (step.Handed x)) is refl refl refl refl refl refl refl
    refl

-- a lock, and an unlock whose serve is still to come
pub locked_carried : (old new : Known) (h : ℕ) (aim : Option Aim) (w : ℕ)
    → new ≡ at_head h (added old (item.Made (step.Lock h aim w))) → Carries (lock_change h) old new
locked_carried old new h aim w is = moved (λ a. a) (λ σ. σ) (λ _. Some h) (λ _. taken h) (λ _. h) old new
    (item.Made (step.Lock h aim w)) (ap (λ (k : Known). k.domain) is) (ap (λ (k : Known). k.view) is) refl
    (ap (λ (k : Known). k.book.awake) is) (ap (λ (k : Known). k.book.state) is) (ap (λ (k : Known). k.book.head) is)
    (ap (λ (k : Known). k.book.ticket) is) (ap (λ (k : Known). k.at) is) refl refl refl

pub given_carried : (old new : Known) (h : ℕ) (spent : Bool) → new ≡ added old (item.Made (step.Unlock h spent))
    → Carries (give_change h) old new
given_carried old new h spent is = moved (λ a. a) (λ σ. σ) (λ _. None) (λ _. given h) (λ i. i) old new
    (item.Made (step.Unlock h spent)) (ap (λ (k : Known). k.domain) is) (ap (λ (k : Known). k.view) is) refl
    (ap (λ (k : Known). k.book.awake) is) (ap (λ (k : Known). k.book.state) is) (ap (λ (k : Known). k.book.head) is)
    (ap (λ (k : Known). k.book.ticket) is) (ap (λ (k : Known). k.at) is)
    (ap (λ (h : Hold). h.head) (unlock_hold (told_of old) (told_of old).walk spent))
    (unlock_mark (told_of old) (told_of old).walk spent) (unlock_bits (told_of old) (told_of old).walk spent)

-- a sleep, by its answer
module _ (old new : Known) (w : ℕ) (is : new ≡ added old (item.Made (step.Sleep w))) where
  slept_by : (s : Sleep) → new.book ≡ after_sleep s old.book → Carries (sleep_change s) old new
  slept_by sleep.Stay b = moved (λ a. a) (λ _. 0) (λ h. h) (λ t. t) (λ h. h) old new (item.Made (step.Sleep w))
      (ap (λ (k : Known). k.domain) is) (ap (λ (k : Known). k.view) is) refl (ap (λ (k : Book). k.awake) b)
      (ap (λ (k : Book). k.state) b) (ap (λ (k : Book). k.head) b) (ap (λ (k : Book). k.ticket) b)
      (ap (λ (k : Known). k.at) is) refl refl refl
  slept_by sleep.Signal b = moved (λ a. a) (λ _. 0) (λ h. h) (λ t. t) (λ h. h) old new (item.Made (step.Sleep w))
      (ap (λ (k : Known). k.domain) is) (ap (λ (k : Known). k.view) is) refl (ap (λ (k : Book). k.awake) b)
      (ap (λ (k : Book). k.state) b) (ap (λ (k : Book). k.head) b) (ap (λ (k : Book). k.ticket) b)
      (ap (λ (k : Known). k.at) is) refl refl refl
  slept_by sleep.Asleep b = moved (λ _. false) (λ σ. σ) (λ h. h) (λ t. t) (λ h. h) old new (item.Made (step.Sleep w))
      (ap (λ (k : Known). k.domain) is) (ap (λ (k : Known). k.view) is) refl (ap (λ (k : Book). k.awake) b)
      (ap (λ (k : Book). k.state) b) (ap (λ (k : Book). k.head) b) (ap (λ (k : Book). k.ticket) b)
      (ap (λ (k : Known). k.at) is) refl refl refl

  pub slept_carried : (s : Sleep) → s ≡ sleep_of (task_of w) → Carries (sleep_change s) old new
  slept_carried s same = slept_by s (ap (λ (k : Known). k.book) is ∙ ap (λ (t : Sleep). after_sleep t old.book)
      (sym same))

-- a look at the own word, by what the task was and what it shows
module _ (old new : Known) (w : ℕ) (is : new ≡ added old (item.Awake w)) where
  rise_by : (a r : Bool) → new.book ≡ after_awake a r old.book → Carries (rise_change a r) old new
  rise_by true r b = moved (λ a. a) (λ σ. σ) (λ h. h) (λ t. t) (λ h. h) old new (item.Awake w)
      (ap (λ (k : Known). k.domain) is) (ap (λ (k : Known). k.view) is) refl (ap (λ (k : Book). k.awake) b)
      (ap (λ (k : Book). k.state) b) (ap (λ (k : Book). k.head) b) (ap (λ (k : Book). k.ticket) b)
      (ap (λ (k : Known). k.at) is) refl refl refl
  rise_by false false b = moved (λ a. a) (λ σ. σ) (λ h. h) (λ t. t) (λ h. h) old new (item.Awake w)
      (ap (λ (k : Known). k.domain) is) (ap (λ (k : Known). k.view) is) refl (ap (λ (k : Book). k.awake) b)
      (ap (λ (k : Book). k.state) b) (ap (λ (k : Book). k.head) b) (ap (λ (k : Book). k.ticket) b)
      (ap (λ (k : Known). k.at) is) refl refl refl
  rise_by false true b = moved (λ _. true) (λ _. 0) (λ h. h) (λ t. t) (λ h. h) old new (item.Awake w)
      (ap (λ (k : Known). k.domain) is) (ap (λ (k : Known). k.view) is) refl (ap (λ (k : Book). k.awake) b)
      (ap (λ (k : Book). k.state) b) (ap (λ (k : Book). k.head) b) (ap (λ (k : Book). k.ticket) b)
      (ap (λ (k : Known). k.at) is) refl refl refl

  pub rise_carried : (r : Bool) → r ≡ (task_of w).runnable → Carries (rise_change old.book.awake r) old new
  rise_carried r same = rise_by old.book.awake r (ap (λ (k : Known). k.book) is
      ∙ ap (λ (b : Bool). after_awake old.book.awake b old.book) (sym same))

-- a note of a page that was taken for the task
asks_no_more : (x p : ℕ) (k : Asked) → was_given_at x k ≡ Some p → is_asking (took_note x k) ≡ false
asks_no_more x p nothing_asked is = refl
asks_no_more x p (waits_for y q) is = absurd (cc)
asks_no_more x p (was_given y q) is = by (y == x) is
  where
    by : (b : Bool) → (if b then Some q else None) ≡ Some p
        → is_asking (if b then nothing_asked else was_given y q) ≡ false
    by true at = refl
    by false at = absurd (cc)

module _ (old new : Known) (x p : ℕ) (is : new ≡ added old (item.Made (step.Unflag x (Some p))))
    (was : was_given_at x (asks_for old) ≡ Some p) where
  note_told : told_of new ≡ after (step.Unflag x (Some p)) (told_of old)
  note_told = ap told_of is ∙ told_added old (item.Made (step.Unflag x (Some p)))

  note_debts : (f : Excuse) → Debts (with_page f) old → Debts (with_bit (page p) f) new
  unfolding with_page with_bits
  note_debts f d = record { none = by; off = λ none. (leaves none).off; shows = λ none. (leaves none).shows }
    where
      leaves : f.left ≡ false → LeavesNone new
      leaves none = leaves_added old new (item.Made (step.Unflag x (Some p))) (tt, tt) is (record {
        off = d.off none;
        shows = d.shows none;
      })

      by : (o : Obligation) → (has_duty new o && not (excuses (with_bit (page p) f) o)) ≡ false
      by (wake_of c σ) = ap (λ (v : Told). v.duty.owes c σ && not (is_excused f c σ)) note_told ∙ d.none (wake_of c σ)
      by page_asked = ap (λ (b : Bool). b && not f.asks) (ap is_asking (ap asks_for is
          ∙ asked_added old (item.Made (step.Unflag x (Some p)))) ∙ asks_no_more x p (asks_for old) was)
      by (end_unclosed k) = ap (λ (b : Bool). b && not (f.ends k)) (ap (has_end k) is
          ∙ end_added old (item.Made (step.Unflag x (Some p))) k) ∙ d.none (end_unclosed k)

  note_owes : (f : Excuse) → OwesBut (with_page f) old → OwesBut (with_bit (page p) f) new
  unfolding with_page with_bits
  note_owes f o = record {
    unmarked = ap (λ (v : Told). v.mark) note_told ∙ o.unmarked;
    debts = note_debts f o.debts;
    unqueued = λ i. subst (λ (v : Told). IsOutBut (f.entries i) (v.bits.stored i)) (sym note_told) (o.unqueued i);
    holds = λ d. ap (λ (v : Told). not (same d (page p) || f.bits d) && v.bits.keeps d) note_told
        ∙ held_more (same d (page p)) (f.bits d) ((told_of old).bits.keeps d) (o.holds d);
    tries = λ d. ap (λ (v : Told). v.bits.pending d) note_told ∙ o.tries d;
    tries_none = λ i d. ap (λ (v : Told). is_trying_for (v.bits.stored i) d) note_told ∙ o.tries_none i d;
  }

  pub page_is_noted : NotesPage old new p
  page_is_noted = record {
    stays = stays_beside (λ d. same d (page p)) old new (item.Made (step.Unflag x (Some p))) is refl refl refl refl
        (λ d. or_false ((told_of old).bits.keeps d) (same d (page p)));
    duty = ap (λ (v : Told). v.duty) note_told;
    owes = note_owes;
  }
