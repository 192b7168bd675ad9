-- What a task carries on over stores of own words in a hold, with and without the store of the member bit.
use Rattle.std.proofs.Common.{◌∙◌, ap, sym, refl, subst, eq-eqb}
use Rattle.std.specs.Prelude.{ℕ, ◌≡◌, ◌≢◌, ◌<◌, ◌&&◌, ◌||◌, ◌==◌, not, Bool, true, false, is_some, Option, Some, None}
use Rattle.wait_model.specs.{declared.layout.TheConstants.FIRST_DONE_HEAD, declared.watches.Watch.Watch}
use Rattle.wait_model.specs.{declared.watches.Entry.Entry, declared.queues.Mark.Mark, declared.steps.Step.Step}
use Rattle.wait_model.specs.{Fold.after, Functions.put}
use Rattle.wait_model.specs.Views.{Duty, View as Told, is_trying_for}
use Rattle.wait_model.specs.Watches.{head_of, is_bit, is_page, same}
use Rattle.wait_model.specs.declared.steps.Step.TheVariants as step
use Rattle.wait_model.proofs.Functions.{put_at, put_other, put_same}
use Rattle.wait_rule.specs.declared.journal.Item.TheVariants as item
use Rattle.wait_rule.specs.{Known.Known, Queues.index, Queues.marked, Asked.is_asking}
use Rattle.wait_rule.specs.Items.{Book, Difference, nothing, at_entry, at_mark, learn_step, with_difference}
use Rattle.wait_rule.specs.Says.{Debts, Obligation, Excuse, IsOutBut, OwesBut, added, asks_for, end_unclosed, excuses}
use Rattle.wait_rule.specs.Says.{has_duty, is_excused, page_asked, stored_with, told_of, wake_of}
use Rattle.wait_rule.specs.Stays.{Carries, only, put_change, take_off_change, unchanged, with_entry, with_left_entry}
use Rattle.wait_rule.specs.Stays.{with_page}
use Rattle.wait_rule.specs.Stores.{StaysOver, StoresEntry, StoresMark, TriesNoBit, place_of_mark}
use Rattle.wait_rule.proofs.{KnownLaws.AfterSteps.told_added}
use Rattle.wait_rule.proofs.{KnownLaws.MemberBits.told_stored, KnownLaws.StayingParts.owes_also}
use Rattle.wait_rule.proofs.KnownLaws.StayingParts.{owes_out}
use Rattle.wait_rule.proofs.KnownLaws.Debts.{LeavesNone, added_debts, begins_none, end_added, entries_debts}
use Rattle.wait_rule.proofs.KnownLaws.Debts.{leaves_added, leaves_of, list_debts, queued_left, queues_quiet, step_debts}
use Rattle.wait_rule.proofs.KnownLaws.Debts.{stored_debts}

-- what such a store leaves of the book
record Beside (old new : Known) : Type 0 where
  pub differs : Difference
  pub domain : new.domain ≡ old.domain
  pub number : new.view.number ≡ old.view.number
  pub book : new.book ≡ with_difference differs old.book
  pub at : new.at ≡ old.at

and_none : (b : Bool) → (b && false) ≡ false
and_none true = refl
and_none false = refl

-- an entry for a page is none by which a task tries a bit
page_tries : (e : Entry) (c : Watch) → is_page e.kind ≡ true → is_trying_for (Some e) c ≡ false
page_tries e c paged =
    ap (λ (p : Bool). e.exclusive && (is_bit e.watch && (same c e.watch && not p))) paged
    ∙ (ap (λ (b : Bool). e.exclusive && (is_bit e.watch && b)) (and_none (same c e.watch))
    ∙ (ap (λ (b : Bool). e.exclusive && b) (and_none (is_bit e.watch)) ∙ and_none e.exclusive))

other_is : (x y : ℕ) → (y == x) ≡ false → y ≡ x → ⊥
other_is x y out here = let same : (y == x) ≡ true = eq-eqb y x here in absurd (cc)

-- whoever is excused of that it asks for a page owes no more
module _ (old : Known) (i : ℕ) (e : Entry) where
  abbrev with_stored : Known
  with_stored = added old (item.Made (step.Queue i e))

  put_debts : is_page e.kind ≡ false → head_of e.watch < FIRST_DONE_HEAD → (x : Excuse) → Debts x old → Debts x with_stored
  put_debts unpaged low x d = step_debts old with_stored (step.Queue i e)
      (queues_quiet i e (ap not unpaged) low) refl x d

  page_debts : head_of e.watch < FIRST_DONE_HEAD → (x : Excuse) → Debts x old → Debts (with_page x) with_stored
  unfolding with_page
  page_debts low x d = record { none = by; off = λ none. (leaves none).off; shows = λ none. (leaves none).shows }
    where
      leaves : x.left ≡ false → LeavesNone with_stored
      leaves none = leaves_added old with_stored (item.Made (step.Queue i e)) (low, tt) refl (leaves_of x old d none)

      by : (o : Obligation) → (has_duty with_stored o && not (excuses (with_page x) o)) ≡ false
      by (wake_of c σ) = ap (λ (v : Told). v.duty.owes c σ && not (is_excused x c σ))
          (told_added old (item.Made (step.Queue i e))) ∙ d.none (wake_of c σ)
      by page_asked = and_none (is_asking (asks_for with_stored))
      by (end_unclosed k) = ap (λ (b : Bool). b && not (x.ends k)) (end_added old (item.Made (step.Queue i e)) k)
          ∙ d.none (end_unclosed k)

-- a step from which the book learns no more than a difference, alone and with the store of the member bit
step_beside : (old new : Known) (e : Step) (d : Difference) → learn_step e old.book ≡ with_difference d old.book
    → new ≡ added old (item.Made e) → Beside old new
step_beside old new e d learns is = record {
  differs = d;
  domain = ap (λ (k : Known). k.domain) is;
  number = ap (λ (k : Known). k.view.number) is;
  book = ap (λ (k : Known). k.book) is ∙ learns;
  at = ap (λ (k : Known). k.at) is;
}

stored_beside : (old new : Known) (e : Step) (d : Difference) → learn_step e old.book ≡ with_difference d old.book
    → new ≡ stored_with old e → Beside old new
stored_beside old new e d learns is = subst (Beside old) (sym is) (record {
  differs = nothing;
  domain = refl;
  number = refl;
  book = ap (with_difference nothing) learns;
  at = refl;
})

-- by a task that knows of its words and debts what it knows with that step made
over : (old new : Known) → Beside old new → (v : Told) → told_of new ≡ v → v.hold.head ≡ (told_of old).hold.head
    → v.duty ≡ (told_of old).duty → v.bits.keeps ≡ (told_of old).bits.keeps
    → v.bits.pending ≡ (told_of old).bits.pending → StaysOver old new
over old new b v told hold duty keeps tries = record {
  domain = b.domain;
  number = b.number;
  awake = ap (λ (k : Book). k.awake) b.book;
  state = ap (λ (k : Book). k.state) b.book;
  head = ap (λ (k : Book). k.head) b.book;
  ticket = ap (λ (k : Book). k.ticket) b.book;
  hold = ap (λ (w : Told). w.hold.head) told ∙ hold;
  at = b.at;
  duty = ap (λ (w : Told). w.duty) told ∙ duty;
  keeps = ap (λ (w : Told). w.bits.keeps) told ∙ keeps;
  tries = ap (λ (w : Told). w.bits.pending) told ∙ tries;
}

-- the word of one entry, by what it then shows
module _ (old new : Known) (i : ℕ) (shows : Option Entry) (s : StaysOver old new)
    (mark : (told_of new).mark ≡ (told_of old).mark)
    (stored : (told_of new).bits.stored ≡ put (told_of old).bits.stored i shows) where
  word_here : (told_of new).bits.stored i ≡ shows
  word_here = ap (λ (f : ℕ → Option Entry). f i) stored ∙ put_same (told_of old).bits.stored i shows

  word_apart : (y : ℕ) → y ≢ i → (told_of new).bits.stored y ≡ (told_of old).bits.stored y
  word_apart y ne = ap (λ (f : ℕ → Option Entry). f y) stored ∙ put_other (told_of old).bits.stored i shows y ne

  word_other : (y : ℕ) → (y == i) ≡ false → (told_of new).bits.stored y ≡ (told_of old).bits.stored y
  word_other y out = word_apart y (other_is i y out)

  word_owing : ((c : Watch) → is_trying_for shows c ≡ false) → (f g : Excuse) → g.entries ≡ f.entries
      → g.bits ≡ f.bits → Debts (with_entry i g) new → OwesBut (with_entry i f) old → OwesBut (with_entry i g) new
  unfolding with_entry
  word_owing free f g entries bits debts o = record {
    unmarked = mark ∙ o.unmarked;
    debts = debts;
    unqueued = λ y. subst (λ (w : ℕ → Option Entry). IsOutBut ((y == i) || g.entries y) (w y)) (sym stored)
        (put_at (IsOutBut ((y == i) || g.entries y)) (told_of old).bits.stored i shows y
        (λ here. subst (λ (t : Bool). IsOutBut (t || g.entries y) shows) (sym (eq-eqb y i here)) tt)
        (λ _. subst (λ (h : ℕ → Bool). IsOutBut ((y == i) || h y) ((told_of old).bits.stored y)) (sym entries)
        (o.unqueued y)));
    holds = λ c. ap (λ (k : Watch → Bool). not (g.bits c) && k c) s.keeps
        ∙ (ap (λ (h : Watch → Bool). not (h c) && (told_of old).bits.keeps c) bits ∙ o.holds c);
    tries = λ c. ap (λ (t : Watch → Bool). t c) s.tries ∙ o.tries c;
    tries_none = λ y c. ap (λ (w : ℕ → Option Entry). is_trying_for (w y) c) stored
        ∙ put_at (λ (w : Option Entry). is_trying_for w c ≡ false) (told_of old).bits.stored i shows y
        (λ _. free c) (λ _. o.tries_none y c);
  }

  word_carried : (from to : Excuse → Excuse) → ((f : Excuse) → OwesBut (from f) old → OwesBut (to f) new)
      → Carries (record unchanged { from = from; to = to; but = only i }) old new
  word_carried from to owing = record {
    domain = s.domain;
    number = s.number;
    awake = s.awake;
    state = s.state;
    head = s.head;
    ticket = s.ticket;
    hold = s.hold;
    at = s.at;
    mark = mark;
    fewer = λ w σ _ none. ap (λ (d : Duty). d.owes w σ) s.duty ∙ none;
    stored = λ y _ away. word_other y away;
    out = λ y away none. word_other y away ∙ none;
    stands = λ slot few away d at own. word_other (index old.view.number slot) away ∙ at;
    keeps = λ d _. ap (λ (k : Watch → Bool). k d) s.keeps;
    owes = owing;
  }

-- an entry that is put there
module _ (old new : Known) (i : ℕ) (e : Entry) (b : Beside old new)
    (told : told_of new ≡ after (step.Queue i e) (told_of old))
    (more : (x : Excuse) → Debts x (added old (item.Made (step.Queue i e))) → Debts x new) where
  put_over : StaysOver old new
  put_over = over old new b (after (step.Queue i e) (told_of old)) told refl refl refl refl

  put_mark : (told_of new).mark ≡ (told_of old).mark
  put_mark = ap (λ (v : Told). v.mark) told

  put_word : (told_of new).bits.stored ≡ put (told_of old).bits.stored i (Some e)
  put_word = ap (λ (v : Told). v.bits.stored) told

  put_owing : TriesNoBit e → (f g : Excuse) → g.entries ≡ f.entries → g.bits ≡ f.bits
      → Debts g (added old (item.Made (step.Queue i e))) → OwesBut f old → OwesBut (with_entry i g) new
  unfolding with_entry
  put_owing free f g entries bits debts o = word_owing old new i (Some e) put_over put_mark put_word free f g entries
      bits (entries_debts g (with_entry i g) new refl refl refl refl (more g debts)) (owes_also i f old o)

  low_owing : is_page e.kind ≡ false → head_of e.watch < FIRST_DONE_HEAD → TriesNoBit e → (f : Excuse) → OwesBut f old
      → OwesBut (with_entry i f) new
  low_owing unpaged low free f o = put_owing free f f refl refl (put_debts old i e unpaged low f o.debts) o

  cell_owing : is_page e.kind ≡ false → TriesNoBit e → (f : Excuse) → OwesBut f old
      → OwesBut (with_left_entry (with_entry i f)) new
  unfolding with_entry with_left_entry
  cell_owing unpaged free f o =
      put_owing free f (with_left_entry f) refl refl (queued_left f old i e unpaged o.debts) o

  page_owing : is_page e.kind ≡ true → head_of e.watch < FIRST_DONE_HEAD → (f : Excuse) → OwesBut f old
      → OwesBut (with_page (with_entry i f)) new
  unfolding with_entry with_page
  page_owing paged low f o =
      put_owing (λ c. page_tries e c paged) f (with_page f) refl refl (page_debts old i e low f o.debts) o

  put_carried : (to : Excuse → Excuse) → ((f : Excuse) → OwesBut f old → OwesBut (to f) new)
      → Carries (record (put_change i) { to = to }) old new
  put_carried to owing = word_carried old new i (Some e) put_over put_mark put_word (λ x. x) to owing

  put_stores : StoresEntry i e old new
  put_stores = record {
    stays = put_over;
    mark = put_mark;
    queued = word_here old new i (Some e) put_over put_mark put_word;
    others = word_apart old new i (Some e) put_over put_mark put_word;
    debts = λ unpaged low x d. more x (put_debts old i e unpaged low x d);
    carries = λ unpaged low free. put_carried (with_entry i) (low_owing unpaged low free);
    cell = λ unpaged free. put_carried (λ x. with_left_entry (with_entry i x)) (cell_owing unpaged free);
    page = λ paged low. put_carried (λ x. with_page (with_entry i x)) (page_owing paged low);
  }

-- the store alone, and with its member bit
pub entry_stored : (old new : Known) (i : ℕ) (e : Entry) → new ≡ added old (item.Made (step.Queue i e))
    → StoresEntry i e old new
entry_stored old new i e is = put_stores old new i e
    (step_beside old new (step.Queue i e) (at_entry i true) refl is)
    (ap told_of is ∙ told_added old (item.Made (step.Queue i e)))
    (λ x d. list_debts x (added old (item.Made (step.Queue i e))) new (ap (λ (k : Known). k.view) is) d)

pub entry_put : (old new : Known) (i : ℕ) (e : Entry) → new ≡ stored_with old (step.Queue i e)
    → StoresEntry i e old new
entry_put old new i e is = put_stores old new i e (stored_beside old new (step.Queue i e) (at_entry i true) refl is)
    (ap told_of is ∙ told_stored old (step.Queue i e))
    (λ x d. added_debts (added old (item.Made (step.Queue i e))) new item.Member refl is x d)

-- by the word that tells the entry
module _ (old new : Known) (i : ℕ) (o : Option Entry) (e f : Entry) (told : o ≡ Some e) (tells : o ≡ Some f) where
  same_entry : e ≡ f
  same_entry = let both : Some e ≡ Some f = sym told ∙ tells in cc

  pub entry_stored_as : new ≡ added old (item.Made (step.Queue i e)) → StoresEntry i f old new
  entry_stored_as is = subst (λ (g : Entry). StoresEntry i g old new) same_entry (entry_stored old new i e is)

  pub entry_put_as : new ≡ stored_with old (step.Queue i e) → StoresEntry i f old new
  entry_put_as is = subst (λ (g : Entry). StoresEntry i g old new) same_entry (entry_put old new i e is)

-- an entry that is taken off
module _ (old new : Known) (i : ℕ) (b : Beside old new)
    (told : told_of new ≡ after (step.Unqueue i) (told_of old))
    (more : (x : Excuse) → Debts x old → Debts x new) where
  off_over : StaysOver old new
  off_over = over old new b (after (step.Unqueue i) (told_of old)) told refl refl refl refl

  off_mark : (told_of new).mark ≡ (told_of old).mark
  off_mark = ap (λ (v : Told). v.mark) told

  off_word : (told_of new).bits.stored ≡ put (told_of old).bits.stored i None
  off_word = ap (λ (v : Told). v.bits.stored) told

  off_carried : Carries (take_off_change i) old new
  off_carried = word_carried old new i None off_over off_mark off_word (with_entry i) (λ x. x)
      (λ f o. owes_out i f new (word_here old new i None off_over off_mark off_word)
      (word_owing old new i None off_over off_mark off_word (λ c. refl) f f refl refl (more (with_entry i f) o.debts) o))

pub entry_off : (old new : Known) (i : ℕ) → new ≡ added old (item.Made (step.Unqueue i))
    → Carries (take_off_change i) old new
entry_off old new i is = off_carried old new i (step_beside old new (step.Unqueue i) (at_entry i false) refl is)
    (ap told_of is ∙ told_added old (item.Made (step.Unqueue i))) (step_debts old new (step.Unqueue i) refl is)

-- a bookmark that is put or taken out
marks_none : (o : Option Mark) → begins_none (marked o) ≡ true
marks_none None = refl
marks_none (Some m) = refl

mark_learns : (o : Option Mark) (b : Book) → learn_step (marked o) b ≡ with_difference (at_mark (is_some o)) b
mark_learns None b = refl
mark_learns (Some m) b = refl

mark_after : (o : Option Mark) (v : Told) → after (marked o) v ≡ record v { mark = place_of_mark o }
mark_after None v = refl
mark_after (Some m) v = refl

mark_stores : (old new : Known) (o : Option Mark) → Beside old new → told_of new ≡ after (marked o) (told_of old)
    → ((x : Excuse) → Debts x old → Debts x new) → StoresMark o old new
mark_stores old new o b told debts = record {
  stays = over old new b _ is refl refl refl refl;
  mark = ap (λ (v : Told). v.mark) is;
  stored = ap (λ (v : Told). v.bits.stored) is;
  debts = debts;
}
  where
    is : told_of new ≡ record (told_of old) { mark = place_of_mark o }
    is = told ∙ mark_after o (told_of old)

pub bookmark_stored : (old new : Known) (o : Option Mark) → new ≡ added old (item.Made (marked o)) → StoresMark o old new
bookmark_stored old new o is = mark_stores old new o
    (step_beside old new (marked o) (at_mark (is_some o)) (mark_learns o old.book) is)
    (ap told_of is ∙ told_added old (item.Made (marked o))) (step_debts old new (marked o) (marks_none o) is)

pub bookmark_put : (old new : Known) (o : Option Mark) → new ≡ stored_with old (marked o) → StoresMark o old new
bookmark_put old new o is = mark_stores old new o
    (stored_beside old new (marked o) (at_mark (is_some o)) (mark_learns o old.book) is)
    (ap told_of is ∙ told_stored old (marked o)) (stored_debts old new (marked o) (marks_none o) is)
