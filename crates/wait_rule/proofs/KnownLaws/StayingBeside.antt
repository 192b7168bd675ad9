-- What stays of a task over one item more from which its book learns nothing.
use Rattle.std.proofs.Common.{◌∙◌, ap}
use Rattle.std.specs.Prelude.{ℕ, ◌≡◌, Bool, false, Option}
use Rattle.wait_model.specs.{declared.watches.Entry.Entry, declared.watches.Watch.Watch, Views.View as Told}
use Rattle.wait_rule.specs.{declared.journal.Item.Item, Bits.StaysBeside, Items.Book, Items.learn, Known.Known}
use Rattle.wait_rule.specs.{Notes.tell, Queues.index, Stays.Carries, Stays.unchanged}
use Rattle.wait_rule.specs.Says.{Excuse, OwesBut, added, told_of}
use Rattle.wait_rule.proofs.KnownLaws.AfterSteps.{told_added}

module _ (changes : Watch → Bool) (old new : Known) (i : Item) (is : new ≡ added old i)
    (learns : learn i old.book ≡ old.book) (hold : (tell i (told_of old)).hold.head ≡ (told_of old).hold.head)
    (mark : (tell i (told_of old)).mark ≡ (told_of old).mark)
    (stored : (tell i (told_of old)).bits.stored ≡ (told_of old).bits.stored)
    (keeps : (d : Watch) → changes d ≡ false → (tell i (told_of old)).bits.keeps d ≡ (told_of old).bits.keeps d) where
  told : told_of new ≡ tell i (told_of old)
  told = ap told_of is ∙ told_added old i

  book : new.book ≡ old.book
  book = ap (λ (k : Known). k.book) is ∙ learns

  still : (told_of new).bits.stored ≡ (told_of old).bits.stored
  still = ap (λ (v : Told). v.bits.stored) told ∙ stored

  pub stays_beside : StaysBeside changes old new
  stays_beside = record {
    domain = ap (λ (k : Known). k.domain) is;
    number = ap (λ (k : Known). k.view.number) is;
    awake = ap (λ (b : Book). b.awake) book;
    state = ap (λ (b : Book). b.state) book;
    head = ap (λ (b : Book). b.head) book;
    ticket = ap (λ (b : Book). b.ticket) book;
    hold = ap (λ (v : Told). v.hold.head) told ∙ hold;
    mark = ap (λ (v : Told). v.mark) told ∙ mark;
    out = λ x none. ap (λ (f : ℕ → Option Entry). f x) still ∙ none;
    stands = λ slot few e at own. ap (λ (f : ℕ → Option Entry). f (index old.view.number slot)) still ∙ at;
    keeps = λ d other. ap (λ (v : Told). v.bits.keeps d) told ∙ keeps d other;
  }

  -- with what it owes, by an excuse before and one after
  pub beside_carried : (from to : Excuse → Excuse)
      → ((w : Watch) (σ : ℕ) → changes w ≡ false → (told_of old).duty.owes w σ ≡ false
      → (tell i (told_of old)).duty.owes w σ ≡ false)
      → ((x : Excuse) → OwesBut (from x) old → OwesBut (to x) new)
      → Carries (record unchanged { from = from; to = to; publishes = changes }) old new
  beside_carried from to fewer owes = record {
    domain = stays_beside.domain;
    number = stays_beside.number;
    awake = stays_beside.awake;
    state = stays_beside.state;
    head = stays_beside.head;
    ticket = stays_beside.ticket;
    hold = stays_beside.hold;
    at = ap (λ (k : Known). k.at) is;
    mark = stays_beside.mark;
    fewer = λ w σ other none. ap (λ (v : Told). v.duty.owes w σ) told ∙ fewer w σ other none;
    stored = λ x _ _. ap (λ (f : ℕ → Option Entry). f x) still;
    out = λ x _ none. stays_beside.out x none;
    stands = λ slot few _ e at own. stays_beside.stands slot few e at own;
    keeps = stays_beside.keeps;
    owes = owes;
  }
