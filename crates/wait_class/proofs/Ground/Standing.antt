-- What steps and looks do to how a task stands: by what a call carries on, and by each step that is not a call.
use Rattle.std.proofs.Common.{◌∙◌, ap, sym, refl, subst, arith, eq-eqb}
use Rattle.std.specs.Prelude.{ℕ, ◌≡◌, Bool, false, if◌then◌else◌, Option, Some, None, [], ◌∷◌}
use Rattle.wait_model.specs.declared.watches.Watch.TheVariants as watch
use Rattle.wait_model.specs.{declared.watches.Watch.Watch, declared.watches.Aim.Aim, declared.watches.Entry.Entry}
use Rattle.wait_model.specs.{declared.steps.Step.Step, Fold.after, Fold.forgotten, Words.entry_of}
use Rattle.wait_model.specs.Views.{View as Told, Look, off, elsewhere, shown, look_at}
use Rattle.wait_model.specs.Watches.{bare, head_of, owner}
use Rattle.wait_model.specs.PointFacts.{Zone, absent, waits, IsHome}
use Rattle.wait_model.specs.declared.steps.Step.TheVariants as step
use Rattle.wait_model.proofs.Functions.{put_same}
use Rattle.wait_rule.specs.declared.journal.Item.TheVariants as item
use Rattle.wait_rule.specs.Items.{Book, learn_step, book_from}
use Rattle.wait_rule.specs.Known.{Known}
use Rattle.wait_rule.specs.Tickets.{Ticket, drawn, taken}
use Rattle.wait_rule.specs.Says.{Excuse, IsUp, told_of, added}
use Rattle.wait_rule.specs.Queues.{IsAgreed, index, at_head, saw}
use Rattle.wait_rule.specs.Stays.{Change, Carries, state_change, with_entry}
use Rattle.wait_rule.specs.Transitions.{AreLooks, OnlyLooks, IsSeenAs}
use Rattle.wait_rule.proofs.KnownLaws.AfterSteps.{told_added}
use Rattle.wait_rule.proofs.KnownLaws.Transitions.{only_looked, only_none}
use Rattle.wait_class.specs.Posts.{Post, Stands, IsStateFor, HasSeenOwn, KeepsBut}
use Rattle.wait_class.proofs.Ground.Keeping.{keeps_of}

-- by what a call carries on
pub carried_stands : (c : Change) (old new : Known) (p q : Post) → Carries c old new → Stands old p
    → ((h : ℕ) → q.head ≡ Some h → IsAgreed new)
    → c.head p.head ≡ q.head → ((h : ℕ) → q.head ≡ Some h → c.at old.at ≡ h) → c.ticket p.ticket ≡ q.ticket
    → IsStateFor q.stirs q.state (c.state old.book.state)
    → IsHome q.zone q.watch ((told_of new).bits.stored (index old.view.number 0)) → Stands new q
carried_stands c old new p q carries s agreed head at ticket state home = record {
  head = carries.head ∙ (ap c.head s.head ∙ head);
  at = λ h is. carries.at ∙ at h is;
  told = carries.hold ∙ (ap c.head s.told ∙ head);
  ticket = carries.ticket ∙ (ap c.ticket s.ticket ∙ ticket);
  agreed = agreed;
  state = subst (IsStateFor q.stirs q.state) (sym carries.state) state;
  home = subst (λ (n : ℕ). IsHome q.zone q.watch ((told_of new).bits.stored (index n 0))) (sym carries.number) home;
}

-- by a call that looks at no entry and changes none
pub still_stands : (c : Change) (old new : Known) (p q : Post) → Carries c old new → Stands old p
    → ((h : ℕ) → q.head ≡ Some h → IsAgreed new)
    → c.looks ≡ false → ((x : ℕ) → c.but x ≡ false) → c.head p.head ≡ q.head
    → ((h : ℕ) → q.head ≡ Some h → c.at old.at ≡ h) → c.ticket p.ticket ≡ q.ticket
    → IsStateFor q.stirs q.state (c.state old.book.state)
    → ((o : Option Entry) → IsHome p.zone p.watch o → IsHome q.zone q.watch o) → Stands new q
still_stands c old new p q carries s agreed blind all head at ticket state home =
    let x = index old.view.number 0 in
    carried_stands c old new p q carries s agreed head at ticket state
    (subst (IsHome q.zone q.watch) (sym (carries.stored x blind (all x))) (home ((told_of old).bits.stored x) s.home))

-- a place that says no more, by the entry that is stored, and by any
pub stands_with : (k : Known) (p q : Post) → Stands k p → q.head ≡ p.head → q.ticket ≡ p.ticket
    → IsStateFor q.stirs q.state k.book.state
    → IsHome q.zone q.watch ((told_of k).bits.stored (index k.view.number 0)) → Stands k q
stands_with k p q s head ticket state home = record {
  head = s.head ∙ sym head;
  at = λ h is. s.at h (sym head ∙ is);
  told = s.told ∙ sym head;
  ticket = s.ticket ∙ sym ticket;
  agreed = λ h is. s.agreed h (sym head ∙ is);
  state = state;
  home = home;
}

pub stands_as : (k : Known) (p q : Post) → Stands k p → q.head ≡ p.head → q.ticket ≡ p.ticket
    → (IsStateFor p.stirs p.state k.book.state → IsStateFor q.stirs q.state k.book.state)
    → ((o : Option Entry) → IsHome p.zone p.watch o → IsHome q.zone q.watch o) → Stands k q
stands_as k p q s head ticket state home = stands_with k p q s head ticket (state s.state)
    (home ((told_of k).bits.stored (index k.view.number 0)) s.home)

-- any step behind which no head is held, by what it changes of the book and of the own entry
pub stands_on : (k : Known) (e : Step) (p q : Post) → Stands k p → (learn_step e k.book).head ≡ q.head
    → q.head ≡ None → (after e (told_of k)).hold.head ≡ q.head → (learn_step e k.book).ticket ≡ q.ticket
    → IsStateFor q.stirs q.state (learn_step e k.book).state
    → IsHome q.zone q.watch ((after e (told_of k)).bits.stored (index k.view.number 0))
    → Stands (added k (item.Made e)) q
stands_on k e p q s head free told ticket state home = record {
  head = head;
  at = λ h is. absurd (let none : Some h ≡ None = sym is ∙ free in cc);
  told = ap (λ (v : Told). v.hold.head) (told_added k (item.Made e)) ∙ told;
  ticket = ticket;
  agreed = λ h is. absurd (let none : Some h ≡ None = sym is ∙ free in cc);
  state = state;
  home = subst (λ (v : Told). IsHome q.zone q.watch (v.bits.stored (index k.view.number 0)))
      (sym (told_added k (item.Made e))) home;
}

-- a draw
pub draw_stands : (k : Known) (h n : ℕ) (p : Post) → Stands k p
    → Stands (added k (item.Drawn h n)) (record p { ticket = drawn h n })
draw_stands k h n p s = record {
  head = s.head;
  at = s.at;
  told = ap (λ (v : Told). v.hold.head) (told_added k (item.Drawn h n)) ∙ s.told;
  ticket = refl;
  agreed = s.agreed;
  state = s.state;
  home = subst (λ (v : Told). IsHome p.zone p.watch (v.bits.stored (index k.view.number 0)))
      (sym (told_added k (item.Drawn h n))) s.home;
}

-- a load of the served number
pub serving_stands : (k : Known) (h w : ℕ) (p : Post) (t : Ticket) → Stands k p
    → (added k (item.Serving h w)).book.ticket ≡ t → Stands (added k (item.Serving h w)) (record p { ticket = t })
serving_stands k h w p t s now = record {
  head = s.head;
  at = s.at;
  told = ap (λ (v : Told). v.hold.head) (told_added k (item.Serving h w)) ∙ s.told;
  ticket = now;
  agreed = s.agreed;
  state = s.state;
  home = subst (λ (v : Told). IsHome p.zone p.watch (v.bits.stored (index k.view.number 0)))
      (sym (told_added k (item.Serving h w))) s.home;
}

-- a lock
pub lock_stands : (k : Known) (h : ℕ) (aim : Option Aim) (w : ℕ) (p : Post) → Stands k p
    → Stands (at_head h (added k (item.Made (step.Lock h aim w)))) (record p { head = Some h; ticket = taken h })
lock_stands k h aim w p s = record {
  head = refl;
  at = λ i is. let same : h ≡ i = cc in same;
  told = ap (λ (v : Told). v.hold.head) (told_added k (item.Made (step.Lock h aim w)));
  ticket = refl;
  agreed = λ i is. refl;
  state = s.state;
  home = subst (λ (v : Told). IsHome p.zone p.watch (v.bits.stored (index k.view.number 0)))
      (sym (told_added k (item.Made (step.Lock h aim w)))) s.home;
}

-- the own entry, by a history that tells the same
pub home_told : (old new : Known) (p : Post) → new.view.number ≡ old.view.number → told_of new ≡ told_of old
    → IsHome p.zone p.watch ((told_of old).bits.stored (index old.view.number 0))
    → IsHome p.zone p.watch ((told_of new).bits.stored (index new.view.number 0))
home_told old new p number told home =
    subst (λ (v : Told). IsHome p.zone p.watch (v.bits.stored (index new.view.number 0))) (sym told)
    (subst (λ (n : ℕ). IsHome p.zone p.watch ((told_of old).bits.stored (index n 0))) (sym number) home)

-- zones that say less
pub home_waits : (c : Watch) (o : Option Entry) → IsHome absent c o → IsHome waits c o
home_waits c None h = tt
home_waits c (Some e) h = absurd h

-- a look at the own entry, in a hold or outside of one
module _ (old new : Known) (o : Option Entry) (h : HasSeenOwn old new o) where
  abbrev pub own_x : ℕ
  own_x = index old.view.number 0

  bits_by : (q : Option ℕ) → (told_of (added old (item.Made (saw q own_x h.word)))).bits.stored
      ≡ forgotten (told_of old) own_x (entry_of h.word)
  bits_by None = ap (λ (v : Told). v.bits.stored) (told_added old (item.Made (step.Peek own_x h.word)))
  bits_by (Some i) = ap (λ (v : Told). v.bits.stored) (told_added old (item.Made (step.Saw own_x h.word)))

  book_by : (q : Option ℕ) → (added old (item.Made (saw q own_x h.word))).book ≡ old.book
  book_by None = refl
  book_by (Some i) = refl

  left_by : (f : Option Entry) → ((e : Entry) → f ≡ Some e → (told_of old).bits.stored own_x ≡ Some e)
      → forgotten (told_of old) own_x f own_x ≡ f
  left_by None stays = put_same (told_of old).bits.stored own_x None
  left_by (Some e) stays = stays e refl

  pub seen_book : new.book ≡ old.book
  seen_book = ap (λ (j : Known). j.book) h.is ∙ book_by old.book.head

  -- what it shows is what the history had stored
  pub seen_stored : (e : Entry) → o ≡ Some e → (told_of old).bits.stored own_x ≡ Some e
  seen_stored e is = h.knew.own 0 (omega arith) refl e (sym h.reads ∙ is)

  -- what the history has stored is now what the word showed
  pub seen_is : (told_of new).bits.stored own_x ≡ o
  seen_is = ap (λ (j : Known). (told_of j).bits.stored own_x) h.is
      ∙ (ap (λ (f : ℕ → Option Entry). f own_x) (bits_by old.book.head)
      ∙ (left_by (entry_of h.word) (λ e is. h.knew.own 0 (omega arith) refl e is) ∙ sym h.reads))

  pub seen_stands : (p : Post) (z : Zone) → Stands old p → IsHome z p.watch o → Stands new (record p { zone = z })
  seen_stands p z s home = record {
    head = ap (λ (b : Book). b.head) seen_book ∙ s.head;
    at = λ i is. ap (λ (j : Known). j.at) h.is ∙ s.at i is;
    told = h.carries.hold ∙ s.told;
    ticket = ap (λ (b : Book). b.ticket) seen_book ∙ s.ticket;
    agreed = λ i is. ap (λ (b : Book). b.differs) seen_book ∙ s.agreed i is;
    state = subst (λ (b : Book). IsStateFor p.stirs p.state b.state) (sym seen_book) s.state;
    home = subst (IsHome z p.watch) (sym (ap (λ (j : Known). (told_of new).bits.stored (index j.view.number 0)) h.is
        ∙ seen_is)) home;
  }

  -- in the zone of before where it is queued
  pub seen_home : (p : Post) → Stands old p → (e : Entry) → o ≡ Some e → IsHome p.zone p.watch (Some e)
  seen_home p s e is = subst (IsHome p.zone p.watch) (seen_stored e is) s.home

  -- in a hold the look enters what the hold shows
  pub seen_looks : (i : ℕ) → old.book.head ≡ Some i → OnlyLooks old new
  seen_looks i held = only_looked old new (item.Made (saw old.book.head own_x h.word) ∷ []) (same old.book.head)
      (by old.book.head held) (h.is ∙ (λ j. record (added old (item.Made (saw old.book.head own_x h.word))) {
        book = book_by old.book.head j;
      }))
    where
      same : (q : Option ℕ) → book_from old.book (item.Made (saw q own_x h.word) ∷ []) ≡ old.book
      same None = refl
      same (Some j) = refl

      by : (q : Option ℕ) → q ≡ Some i → AreLooks (item.Made (saw q own_x h.word) ∷ [])
      by None at = absurd (cc)
      by (Some j) at = (tt, tt)

  seen_at : (i : ℕ) → old.book.head ≡ Some i → (told_of old).hold.head ≡ Some i
      → (told_of new).hold.book own_x ≡ look_at (Some i) (entry_of h.word)
  seen_at i held told = ap (λ (j : Known). (told_of j).hold.book own_x) (h.is
      ∙ ap (λ (q : Option ℕ). added old (item.Made (saw q own_x h.word))) held)
      ∙ (ap (λ (v : Told). v.hold.book own_x) (told_added old (item.Made (step.Saw own_x h.word)))
      ∙ (put_same (told_of old).hold.book own_x (look_at (told_of old).hold.head (entry_of h.word))
      ∙ ap (λ (q : Option ℕ). look_at q (entry_of h.word)) told))

  pub seen_off : (i : ℕ) → old.book.head ≡ Some i → (told_of old).hold.head ≡ Some i → o ≡ None
      → (told_of new).hold.book own_x ≡ off
  seen_off i held told none = seen_at i held told ∙ ap (look_at (Some i)) (sym h.reads ∙ none)

  pub seen_shows : (i : ℕ) → old.book.head ≡ Some i → (told_of old).hold.head ≡ Some i → (e : Entry) → o ≡ Some e
      → head_of e.watch ≡ i → (told_of new).hold.book own_x ≡ shown e
  seen_shows i held told e some here = seen_at i held told ∙ (ap (look_at (Some i)) (sym h.reads ∙ some)
      ∙ ap (λ (b : Bool). if b then shown e else elsewhere) (eq-eqb (head_of e.watch) i here))

  -- so the program finds it
  pub finds_own : (i : ℕ) → old.book.head ≡ Some i → (told_of old).hold.head ≡ Some i
      → ((e : Entry) → o ≡ Some e → head_of e.watch ≡ i) → (f : Option Entry) → o ≡ f
      → IsSeenAs ((told_of new).hold.book own_x) f
  finds_own i held told here None is = subst (λ (l : Look). IsSeenAs l None) (sym (seen_off i held told is)) refl
  finds_own i held told here (Some e) is = subst (λ (l : Look). IsSeenAs l (Some e))
      (sym (seen_shows i held told e is (here e is))) refl

-- a store of the state, behind looks or not
module _ (old new : Known) (σ : ℕ) (is : new ≡ added old (item.Made (step.State σ)))
    (carries : Carries (state_change σ) old new) where
  pub state_keeps : {f : Excuse → Excuse} → KeepsBut f (index old.view.number 0) old new
  state_keeps {f} = keeps_of (index old.view.number 0) (state_change σ) old new carries (λ w. refl) (λ x away. refl)
      (λ x. carries.owes (with_entry (index old.view.number 0) (f x)))

  pub state_looks : OnlyLooks (added old (item.Made (step.State σ))) new
  state_looks = subst (OnlyLooks (added old (item.Made (step.State σ)))) (sym is)
      (only_none (added old (item.Made (step.State σ))))

  pub state_stands : (p q : Post) → Stands old p → q.head ≡ p.head → q.ticket ≡ p.ticket
      → IsStateFor q.stirs q.state σ
      → ((o : Option Entry) → IsHome p.zone p.watch o → IsHome q.zone q.watch o) → Stands new q
  state_stands p q s head ticket state home = still_stands (state_change σ) old new p q carries s
      (λ h at. ap (λ (k : Known). k.book.differs) is ∙ s.agreed h (sym head ∙ at)) refl (λ x. refl) (sym head) (λ h
      at. s.at h (sym head ∙ at))
      (sym ticket) state home

  pub state_up : IsUp old → IsUp new
  state_up up = carries.awake ∙ up

-- the old value of a variable does not matter to its head
pub bare_head : (w : Watch) → head_of (bare w) ≡ head_of w
unfolding head_of
bare_head (watch.Plain c) = refl
bare_head _ = refl

pub owner_own : (n : ℕ) → owner (index n 0) ≡ n
unfolding owner
owner_own n = omega arith
