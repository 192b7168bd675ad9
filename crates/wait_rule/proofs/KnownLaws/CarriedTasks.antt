-- What calls carry on of a task.
use Rattle.std.proofs.Common.{◌∙◌, ap, sym, refl, subst, inl, inr, append-nil, eq-eqb}
use Rattle.std.specs.Prelude.{ℕ, ◌≡◌, ◌<◌, ◌⊎◌, ◌&&◌, ◌||◌, not, Bool, true, false, Option, Some, None, List, ◌++◌}
use Rattle.std.specs.Prelude.{if◌then◌else◌}
use Rattle.wait_model.specs.{declared.watches.Watch.Watch, declared.watches.Entry.Entry, declared.steps.Step.Step}
use Rattle.wait_model.specs.{declared.tasks.Sleep.Sleep, Words.entry_of}
use Rattle.wait_model.specs.Tasks.{meets, task_of, sleep_of}
use Rattle.wait_model.specs.Watches.{same, mask_of, failing, head_of}
use Rattle.wait_model.specs.Views.{View as Told, is_trying_for, shown, elsewhere, look_at, all_cleared}
use Rattle.wait_model.specs.Fold.{after, after_look, peeks, scanned, view_of}
use Rattle.wait_model.specs.declared.watches.Watch.TheVariants as watch
use Rattle.wait_model.specs.declared.watches.Mode.TheVariants as mode
use Rattle.wait_model.specs.declared.steps.Step.TheVariants as step
use Rattle.wait_model.specs.declared.tasks.Sleep.TheVariants as sleep
use Rattle.wait_model.proofs.Functions.{put_same}
use Rattle.wait_rule.specs.declared.journal.Item.TheVariants as item
use Rattle.wait_rule.specs.{Tickets.Ticket, Known.Known}
use Rattle.wait_rule.specs.Items.{Book, after_sleep, after_awake, learn_step, steps_of}
use Rattle.wait_rule.specs.Says.{Debts, Excuse, IsAwakeAgain, IsOutBut, OwesBut, added, is_excused, told_of, wake_of}
use Rattle.wait_rule.specs.Queues.{KnewEntry, MayUnqueue, index, saw}
use Rattle.wait_rule.specs.Stays.{Stays, StaysOwing, no_entries, with_entry, with_wakes, Change, Carries, FindsOwnWord}
use Rattle.wait_rule.specs.Stays.{unchanged, only_looks, publish_change, head_stored, is_on}
use Rattle.wait_rule.proofs.{KnownLaws.AfterSteps.told_added, TableSteps.ItemLists.steps_append}
use Rattle.wait_rule.proofs.KnownLaws.StayingBeside.{beside_carried}
use Rattle.wait_rule.proofs.KnownLaws.Debts.{begins_none, publish_debts, step_debts, wakes_after, wakes_debts}
use Rattle.wait_rule.proofs.KnownLaws.SettledTasks.{owes_after, owes_looks, owes_told}
use Rattle.wait_rule.proofs.KnownLaws.StayingParts.{stays_bits, stays_same, stays_owing, look_stays, look_out, owes_out}

-- whoever is excused of more wakes owes no more
covered : (o x y n : Bool) → (x ≡ true → y ≡ true) → (o && not (x || n)) ≡ false → (o && not (y || n)) ≡ false
covered false x y n more is = refl
covered true true y n more is = ap (λ (b : Bool). not (b || n)) (more refl)
covered true false true n more is = refl
covered true false false n more is = is

pub owes_wakes : (x y : Excuse) (k : Known) → y.entries ≡ x.entries → y.bits ≡ x.bits → y.asks ≡ x.asks
    → y.ends ≡ x.ends → y.left ≡ x.left
    → ((c : Watch) (σ : ℕ) → ((told_of k).duty.owes c σ && not (is_excused y c σ)) ≡ false) → OwesBut x k → OwesBut y k
owes_wakes x y k entries bits asks ends left wakes o = record {
  unmarked = o.unmarked;
  debts = wakes_debts x y k asks ends left wakes o.debts;
  unqueued = λ i. subst (λ (f : ℕ → Bool). IsOutBut (f i) ((told_of k).bits.stored i)) (sym entries) (o.unqueued i);
  holds = λ c. ap (λ (f : Watch → Bool). not (f c) && (told_of k).bits.keeps c) bits ∙ o.holds c;
  tries = o.tries;
  tries_none = o.tries_none;
}

pub owes_more : (x y : Excuse) (k : Known) → y.entries ≡ x.entries → y.bits ≡ x.bits → y.asks ≡ x.asks
    → y.ends ≡ x.ends → y.left ≡ x.left
    → ((c : Watch) (σ : ℕ) → x.wakes c σ ≡ true → y.wakes c σ ≡ true) → OwesBut x k → OwesBut y k
owes_more x y k entries bits asks ends left more o = owes_wakes x y k entries bits asks ends left
    (λ c σ. covered ((told_of k).duty.owes c σ) (x.wakes c σ) (y.wakes c σ) (not (meets (mask_of mode.Normal) σ))
    (more c σ) (o.debts.none (wake_of c σ))) o

-- where entries stay, but for the state and the head
still_out : (now was : Option Entry) → (now ≡ was) ⊎ (now ≡ None) → was ≡ None → now ≡ None
still_out now was (inl same) none = same ∙ none
still_out now was (inr out) none = out

-- a change of the state and the head alone
abbrev pub moving : (ℕ → ℕ) → (Option ℕ → Option ℕ) → (ℕ → ℕ) → Change
moving state head at = record unchanged { state = state; head = head; at = at }

-- by what stays beside the state
pub stays_carried : (head : Option ℕ → Option ℕ) (ticket : Ticket → Ticket) (at : ℕ → ℕ) (looks : Bool)
    (old new : Known) → Stays no_entries old new
    → new.book.head ≡ head old.book.head → new.book.ticket ≡ ticket old.book.ticket → (told_of new).hold.head ≡ head
    (told_of old).hold.head → new.at ≡ at old.at
    → (told_of new).mark ≡ (told_of old).mark
    → ((c : Watch) (σ : ℕ) → (told_of old).duty.owes c σ ≡ false → (told_of new).duty.owes c σ ≡ false)
    → ((x : ℕ) → looks ≡ false → (told_of new).bits.stored x ≡ (told_of old).bits.stored x)
    → Carries (record unchanged { looks = looks; head = head; ticket = ticket; at = at }) old new
stays_carried head ticket at looks old new s held out hold last mark fewer stored = record {
  domain = s.domain;
  number = s.number;
  awake = s.awake;
  state = s.state;
  head = held;
  ticket = out;
  hold = hold;
  at = last;
  mark = mark;
  fewer = λ w σ _ is. fewer w σ is;
  stored = λ x none _. stored x none;
  out = λ x _ none. still_out _ _ (s.still x refl) none;
  stands = λ slot few _ e is own. s.stands slot few refl e is own;
  keeps = λ d _. s.keeps d;
  owes = stays_owing old new s mark;
}

-- by a history whose entries stay
pub told_carried : (state : ℕ → ℕ) (old new : Known) → new.domain ≡ old.domain → new.view.number ≡ old.view.number
    → new.book.awake ≡ old.book.awake → new.book.state ≡ state old.book.state → new.book.head ≡ old.book.head
    → new.book.ticket ≡ old.book.ticket
    → (told_of new).hold.head ≡ (told_of old).hold.head → new.at ≡ old.at → (told_of new).mark ≡ (told_of old).mark
    → ((c : Watch) (σ : ℕ) → (told_of old).duty.owes c σ ≡ false → (told_of new).duty.owes c σ ≡ false)
    → (told_of new).bits.stored ≡ (told_of old).bits.stored
    → ((c : Watch) → (told_of new).bits.keeps c ≡ (told_of old).bits.keeps c)
    → StaysOwing old new → Carries (moving state (λ h. h) (λ h. h)) old new
told_carried state old new domain number awake is_state head ticket hold at mark fewer stored keeps owing = record {
  domain = domain;
  number = number;
  awake = awake;
  state = is_state;
  head = head;
  ticket = ticket;
  hold = hold;
  at = at;
  mark = mark;
  fewer = λ w σ _ is. fewer w σ is;
  stored = λ x _ _. λ i. stored i x;
  out = λ x _ none. (λ i. stored i x) ∙ none;
  stands = λ slot few _ e is own. (λ i. stored i (index old.view.number slot)) ∙ is;
  keeps = λ d _. keeps d;
  owes = owing;
}

-- one step more
pub step_carried : (state : ℕ → ℕ) (old new : Known) (e : Step) → new ≡ added old (item.Made e)
    → new.book.awake ≡ old.book.awake → new.book.state ≡ state old.book.state → new.book.head ≡ old.book.head
    → (learn_step e old.book).ticket ≡ old.book.ticket
    → (after e (told_of old)).hold.head ≡ (told_of old).hold.head → (after e (told_of old)).mark ≡ (told_of old).mark
    → begins_none e ≡ true
    → (after e (told_of old)).bits.stored ≡ (told_of old).bits.stored
    → ((c : Watch) → (after e (told_of old)).bits.keeps c ≡ (told_of old).bits.keeps c) → StaysOwing old new
    → Carries (moving state (λ h. h) (λ h. h)) old new
step_carried state old new e is awake now head ticket hold mark quiet stored keeps owing = told_carried state old new
    (ap (λ (k : Known). k.domain) is) (ap (λ (k : Known). k.view.number) is) awake now head
    (ap (λ (k : Known). k.book.ticket) is ∙ ticket)
    (ap (λ (v : Told). v.hold.head) told ∙ hold) (ap (λ (k : Known). k.at) is) (ap (λ (v : Told). v.mark) told ∙ mark)
    (λ c σ none. ap (λ (v : Told). v.duty.owes c σ) told ∙ wakes_after e (told_of old) quiet c σ none)
    (ap (λ (v : Told). v.bits.stored) told ∙ stored) (λ c. ap (λ (v : Told). v.bits.keeps c) told ∙ keeps c) owing
  where
    told : told_of new ≡ after e (told_of old)
    told = ap told_of is ∙ told_added old (item.Made e)

-- over no call
pub unchanged_none : (k : Known) → Carries unchanged k k
unchanged_none k = stays_carried (λ h. h) (λ t. t) (λ h. h) false k k (stays_same k) refl refl refl refl refl
    (λ c σ none. none) (λ x _. refl)

-- what changes nothing, and then a change
pub unchanged_first : (c : Change) (x y z : Known) → Carries unchanged x y → Carries c y z → Carries c x z
unchanged_first c x y z a b = record {
  domain = b.domain ∙ a.domain;
  number = b.number ∙ a.number;
  awake = b.awake ∙ ap c.awake a.awake;
  state = b.state ∙ ap c.state a.state;
  head = b.head ∙ ap c.head a.head;
  ticket = b.ticket ∙ ap c.ticket a.ticket;
  hold = b.hold ∙ ap c.head a.hold;
  at = b.at ∙ ap c.at a.at;
  mark = b.mark ∙ a.mark;
  fewer = λ w σ p none. b.fewer w σ p (a.fewer w σ refl none);
  stored = λ i quiet away. b.stored i quiet away ∙ a.stored i refl refl;
  out = λ i away none. b.out i away (a.out i refl none);
  stands = λ slot few away e at own.
      subst (λ (m : ℕ). (told_of z).bits.stored (index m slot) ≡ Some e) a.number
      (b.stands slot few (ap (λ (m : ℕ). c.but (index m slot)) a.number ∙ away) e
      (subst (λ (m : ℕ). (told_of y).bits.stored (index m slot) ≡ Some e) (sym a.number)
      (a.stands slot few refl e at own)) own);
  keeps = λ d p. b.keeps d p ∙ a.keeps d refl;
  owes = λ f o. b.owes f (a.owes (c.from f) o);
}

pub unchanged_on : (x y z : Known) → Carries unchanged x y → Carries unchanged y z → Carries unchanged x z
unchanged_on x y z a b = unchanged_first unchanged x y z a b

-- a sleep
slept_head : (s : Sleep) (b : Book) → (after_sleep s b).head ≡ b.head
slept_head sleep.Stay b = refl
slept_head sleep.Signal b = refl
slept_head sleep.Asleep b = refl

stays_awake : (s : Sleep) (b : Book) → (s ≡ sleep.Asleep → ⊥) → ((after_sleep s b).state ≡ 0) ×
    ((after_sleep s b).awake ≡ b.awake)
stays_awake sleep.Stay b is = (refl, refl)
stays_awake sleep.Signal b is = (refl, refl)
stays_awake sleep.Asleep b is = absurd (is refl)

slept_ticket : (s : Sleep) (b : Book) → (after_sleep s b).ticket ≡ b.ticket
slept_ticket sleep.Stay b = refl
slept_ticket sleep.Signal b = refl
slept_ticket sleep.Asleep b = refl

pub risen_owing : (old mid new : Known) (w : ℕ) → mid ≡ added old (item.Made (step.Sleep w)) → IsAwakeAgain mid new
    → StaysOwing old new
risen_owing old mid new w is h x o = owes_looks mid new h.looks (after_awake false true mid.book) h.no_steps h.no_adds
    h.is x
    (owes_after old mid (step.Sleep w) refl is x o)

pub risen_carried : (old mid new : Known) (w : ℕ) → old.book.awake ≡ true → mid ≡ added old (item.Made (step.Sleep w))
    → IsAwakeAgain mid new → Carries (moving (λ _. 0) (λ h. h) (λ h. h)) old new
risen_carried old mid new w up is h = told_carried (λ _. 0) old new
    (ap (λ (k : Known). k.domain) h.is ∙ ap (λ (k : Known). k.domain) is)
    (ap (λ (k : Known). k.view.number) h.is ∙ ap (λ (k : Known). k.view.number) is)
    (ap (λ (k : Known). k.book.awake) h.is ∙ sym up)
    (ap (λ (k : Known). k.book.state) h.is)
    (ap (λ (k : Known). k.book.head) h.is
    ∙ (ap (λ (k : Known). k.book.head) is ∙ slept_head (sleep_of (task_of w)) old.book))
    (ap (λ (k : Known). k.book.ticket) h.is
    ∙ (ap (λ (k : Known). k.book.ticket) is ∙ slept_ticket (sleep_of (task_of w)) old.book))
    (ap (λ (v : Told). v.hold.head) told) (ap (λ (k : Known). k.at) h.is ∙ ap (λ (k : Known). k.at) is)
    (ap (λ (v : Told). v.mark) told) (λ c σ none. ap (λ (v : Told). v.duty.owes c σ) told ∙ none)
    (ap (λ (v : Told). v.bits.stored) told) (λ c. ap (λ (v : Told). v.bits.keeps c) told)
    (risen_owing old mid new w is h)
  where
    told : told_of new ≡ told_of old
    told = ap told_of h.is ∙ (ap view_of (steps_append mid.view.items h.looks
        ∙ (ap (λ (es : List Step). steps_of mid.view.items ++ es) h.no_steps ∙ append-nil (steps_of mid.view.items)))
        ∙ (ap told_of is ∙ told_added old (item.Made (step.Sleep w))))

-- One step that begins no debt: entries and kept bits stay, and it tries no bit that it did not try.
pub step_owing : (old new : Known) (e : Step) → new ≡ added old (item.Made e) → begins_none e ≡ true
    → (after e (told_of old)).mark ≡ (told_of old).mark
    → ((i : ℕ) → (after e (told_of old)).bits.stored i ≡ (told_of old).bits.stored i)
    → ((c : Watch) → (after e (told_of old)).bits.keeps c ≡ (told_of old).bits.keeps c)
    → ((c : Watch) → (told_of old).bits.pending c ≡ false → (after e (told_of old)).bits.pending c ≡ false)
    → StaysOwing old new
step_owing old new e is quiet mark stored keeps pending = owes_told old new (ap (λ (v : Told). v.mark) told ∙ mark)
    (λ i. ap (λ (v : Told). v.bits.stored i) told ∙ stored i) (λ c. ap (λ (v : Told). v.bits.keeps c) told ∙ keeps c)
    (λ c none. ap (λ (v : Told). v.bits.pending c) told ∙ pending c none) (step_debts old new e quiet is)
  where
    told : told_of new ≡ after e (told_of old)
    told = ap told_of is ∙ told_added old (item.Made e)

pub or_none : (b : Bool) → (b || false) ≡ b
or_none true = refl
or_none false = refl

-- loads and stores of conditions
pub loaded_carried : (old new : Known) (l : Watch) (r : ℕ) → new ≡ added old (item.Made (step.Load l r))
    → Carries unchanged old new
loaded_carried old new l r is = step_carried (λ σ. σ) old new (step.Load l r) is (ap (λ (k : Known). k.book.awake) is)
    (ap (λ (k : Known). k.book.state) is) (ap (λ (k : Known). k.book.head) is) refl refl refl refl refl (λ c. refl)
    (step_owing old new (step.Load l r) is refl refl (λ i. refl) (λ c. refl)
    (λ c none. ap (λ (b : Bool). b && not (failing l r c)) none))

-- of a word that has no bit which a task keeps
pub consumed_as : (old new : Known) (w : Watch) (n r : ℕ) → new ≡ added old (item.Made (step.Consume w n r))
    → ((c : Watch) → (after (step.Consume w n r) (told_of old)).bits.keeps c ≡ (told_of old).bits.keeps c)
    → ((c : Watch) → (told_of old).bits.pending c ≡ false
    → (after (step.Consume w n r) (told_of old)).bits.pending c ≡ false) → Carries unchanged old new
consumed_as old new w n r is keeps pending = step_carried (λ σ. σ) old new (step.Consume w n r) is
    (ap (λ (k : Known). k.book.awake) is) (ap (λ (k : Known). k.book.state) is) (ap (λ (k : Known). k.book.head) is)
    refl refl refl refl refl keeps (step_owing old new (step.Consume w n r) is refl refl (λ i. refl) keeps pending)

pub consumed_carried : (old new : Known) (c n r : ℕ) → new ≡ added old (item.Made (step.Consume (watch.Plain c) n r))
    → Carries unchanged old new
consumed_carried old new c n r is = consumed_as old new (watch.Plain c) n r is
    (λ d. or_none ((told_of old).bits.keeps d)) (λ d none. ap (λ (b : Bool). b && true) none)

-- a publish makes the task owe wakes of its watch, and no others; a bit that it clears it keeps no more
kept_less : (b k s : Bool) → (b && k) ≡ false → (b && (k && not s)) ≡ false
kept_less false k s is = refl
kept_less true false s is = refl
kept_less true true s is = absurd (cc)

pub kept_still : (k s : Bool) → s ≡ false → (k && not s) ≡ k
kept_still true s is = ap not is
kept_still false s is = refl

published_owes : (c : Watch) (n r : ℕ) (x : Excuse) (old new : Known) → new ≡ added old (item.Made (step.Publish c n r))
    → OwesBut x old → OwesBut (with_wakes c mode.Normal x) new
unfolding with_wakes
published_owes c n r x old new is o =
    let told : told_of new ≡ after (step.Publish c n r) (told_of old) = ap told_of is
    ∙ told_added old (item.Made (step.Publish c n r)) in record {
      unmarked = ap (λ (v : Told). v.mark) told ∙ o.unmarked;
      debts = publish_debts c n r x old new is o.debts;
      unqueued = λ i. subst (λ (v : Told). IsOutBut (x.entries i) (v.bits.stored i)) (sym told) (o.unqueued i);
      holds = λ d. ap (λ (v : Told). not (x.bits d) && v.bits.keeps d) told
          ∙ kept_less (not (x.bits d)) ((told_of old).bits.keeps d) (same d c) (o.holds d);
      tries = λ d. ap (λ (v : Told). v.bits.pending d) told ∙ o.tries d;
      tries_none = λ i d. ap (λ (v : Told). is_trying_for (v.bits.stored i) d) told ∙ o.tries_none i d;
    }

pub published_carried : (old new : Known) (c : Watch) (n r : ℕ) → new ≡ added old (item.Made (step.Publish c n r))
    → Carries (publish_change c) old new
published_carried old new c n r is = beside_carried (λ d. same d c) old new (item.Made (step.Publish c n r)) is refl refl
    refl refl (λ d. kept_still ((told_of old).bits.keeps d) (same d c)) (λ x. x) (with_wakes c mode.Normal)
    (λ w σ other none. ap (λ (b : Bool). b || (told_of old).duty.owes w σ) other ∙ none)
    (λ x. published_owes c n r x old new is)

-- a load of a member word without the lock: wakes that are owed may end
pub scan_carried : (old new : Known) (h i w : ℕ) → new ≡ added old (item.Made (step.Scan h i w))
    → Carries unchanged old new
scan_carried old new h i w is = stays_carried (λ o. o) (λ t. t) (λ o. o) false old new
    (stays_bits old new (ap (λ (k : Known). k.domain) is) (ap (λ (k : Known). k.view.number) is)
    (ap (λ (k : Known). k.book.state) is) (ap (λ (k : Known). k.book.awake) is) (ap (λ (v : Told). v.bits) told)
    (step_debts old new (step.Scan h i w) refl is))
    (ap (λ (k : Known). k.book.head) is) (ap (λ (k : Known). k.book.ticket) is)
    (ap (λ (v : Told). v.hold.head) told) (ap (λ (k : Known). k.at) is) (ap (λ (v : Told). v.mark) told)
    (λ c σ none. ap (λ (v : Told). v.duty.owes c σ) told
    ∙ ap (λ (b : Bool). b && not (all_cleared (scanned (told_of old).duty.cleared h i w c))) none)
    (λ x _. ap (λ (v : Told). v.bits.stored x) told)
  where
    told : told_of new ≡ after (step.Scan h i w) (told_of old)
    told = ap told_of is ∙ told_added old (item.Made (step.Scan h i w))

-- a look at an entry word, in a hold or outside of one
learn_saw : (o : Option ℕ) (x w : ℕ) (b : Book) → learn_step (saw o x w) b ≡ b
learn_saw None x w b = refl
learn_saw (Some h) x w b = refl

saw_hold : (o : Option ℕ) (x w : ℕ) (v : Told) → (after (saw o x w) v).hold.head ≡ v.hold.head
saw_hold None x w v = refl
saw_hold (Some h) x w v = refl

saw_mark : (o : Option ℕ) (x w : ℕ) (v : Told) → (after (saw o x w) v).mark ≡ v.mark
saw_mark None x w v = refl
saw_mark (Some h) x w v = refl

saw_looks : (o : Option ℕ) (x w : ℕ) (v : Told) → (after (saw o x w) v).bits ≡ after_look x (entry_of w) v
saw_looks None x w v = refl
saw_looks (Some h) x w v = refl

saw_fewer : (o : Option ℕ) (x w : ℕ) (v : Told) (c : Watch) (σ : ℕ) → v.duty.owes c σ ≡ false
    → (after (saw o x w) v).duty.owes c σ ≡ false
saw_fewer None x w v c σ none = ap (λ (b : Bool). b && not (all_cleared (peeks v.duty.cleared x (entry_of w) c))) none
saw_fewer (Some h) x w v c σ none = none

saw_book : (o : Option ℕ) (x w h : ℕ) (v : Told) → o ≡ Some h
    → (after (saw o x w) v).hold.book x ≡ look_at v.hold.head (entry_of w)
saw_book None x w h v is = absurd (cc)
saw_book (Some i) x w h v is = put_same v.hold.book x (look_at v.hold.head (entry_of w))

pub look_here : (h : ℕ) (e : Entry) → head_of e.watch ≡ h → look_at (Some h) (Some e) ≡ shown e
look_here h e is = ap (λ (b : Bool). if b then shown e else elsewhere) (eq-eqb (head_of e.watch) h is)

on_entry : (o : Option Entry) → is_on o ≡ true → (e : Entry) × (o ≡ Some e)
on_entry None is = absurd (cc)
on_entry (Some e) is = (e, refl)

saw_begins_none : (o : Option ℕ) (x w : ℕ) → begins_none (saw o x w) ≡ true
saw_begins_none None x w = refl
saw_begins_none (Some h) x w = refl

-- a look at an entry word leaves the debts
pub saw_debts : (old new : Known) (x w : ℕ) → new ≡ added old (item.Made (saw old.book.head x w)) → (f : Excuse)
    → Debts f old → Debts f new
saw_debts old new x w = step_debts old new (saw old.book.head x w) (saw_begins_none old.book.head x w)

module _ (old new : Known) (who slot w : ℕ) (is : new ≡ added old (item.Made (saw old.book.head (index who slot) w)))
    (knew : KnewEntry old (index who slot) w) where
  entry_told : told_of new ≡ after (saw old.book.head (index who slot) w) (told_of old)
  entry_told = ap told_of is ∙ told_added old (item.Made (saw old.book.head (index who slot) w))

  entry_book : new.book ≡ old.book
  entry_book = ap (λ (k : Known). k.book) is ∙ learn_saw old.book.head (index who slot) w old.book

  entry_bits : (told_of new).bits ≡ after_look (index who slot) (entry_of w) (told_of old)
  entry_bits = ap (λ (v : Told). v.bits) entry_told ∙ saw_looks old.book.head (index who slot) w (told_of old)

  pub entry_carried : Carries only_looks old new
  entry_carried = stays_carried (λ h. h) (λ t. t) (λ h. h) true old new
      (look_stays old new (index who slot) w knew (ap (λ (k : Known). k.domain) is)
      (ap (λ (k : Known). k.view.number) is)
      entry_book entry_bits (saw_debts old new (index who slot) w is))
      (ap (λ (b : Book). b.head) entry_book) (ap (λ (b : Book). b.ticket) entry_book)
      (ap (λ (v : Told). v.hold.head) entry_told ∙ saw_hold old.book.head (index who slot) w (told_of old))
      (ap (λ (k : Known). k.at) is)
      (ap (λ (v : Told). v.mark) entry_told ∙ saw_mark old.book.head (index who slot) w (told_of old))
      (λ c σ none. ap (λ (v : Told). v.duty.owes c σ) entry_told ∙ saw_fewer old.book.head (index who slot) w
      (told_of old) c σ none)
      (λ x none. absurd (cc))

  entry_gone : entry_of w ≡ None → (told_of new).bits.stored (index who slot) ≡ None
  entry_gone = look_out old new (index who slot) w entry_bits

  entry_may : who ≡ old.view.number → slot < 2 → (told_of old).hold.head ≡ Some old.at → old.book.head ≡ Some old.at
      → head_stored ((told_of old).bits.stored (index who slot)) ≡ Some old.at → is_on (entry_of w) ≡ true
      → MayUnqueue new who slot
  entry_may mine few held locked head on =
      let z = on_entry (entry_of w) on in
      let at : head_of z.0.watch ≡ old.at = head_at z.0
      (sym (ap head_stored (knew.own slot few (ap (λ (m : ℕ). index m slot) mine) z.0 z.1)) ∙ head) in record {
        entry = z.0;
        shows = ap (λ (v : Told). v.hold.book (index who slot)) entry_told
            ∙ (saw_book old.book.head (index who slot) w old.at (told_of old) locked
            ∙ (ap (λ (h : Option ℕ). look_at h (entry_of w)) held ∙
            (ap (look_at (Some old.at)) z.1 ∙ look_here old.at z.0 at)));
        may = inl (mine ∙ sym (ap (λ (k : Known). k.view.number) is));
      }
    where
      head_at : (e : Entry) → Some (head_of e.watch) ≡ Some old.at → head_of e.watch ≡ old.at
      head_at e same = cc

  pub entry_finds : FindsOwnWord old new who slot w
  entry_finds = record {
    may = entry_may;
    gone = entry_gone;
    off = λ none x o. owes_out (index who slot) x new (entry_gone none)
        (entry_carried.owes (with_entry (index who slot) x) o);
  }
