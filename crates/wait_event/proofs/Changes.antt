-- What calls carry on: said of a wider change, and of one change behind another.
use Rattle.std.proofs.Common.{◌∙◌, ap, sym, refl, subst}
use Rattle.std.specs.Prelude.{ℕ, ◌≡◌, true, false, Some, None}
use Rattle.wait_model.specs.declared.watches.Watch.{Watch}
use Rattle.wait_rule.specs.{Known.Known, Pipes.End, PipeSays.KeepsEnd, Queues.IsIdle, Queues.index, Stays.Carries}
use Rattle.wait_rule.specs.Stays.{Change}
use Rattle.wait_rule.specs.Says.{Excuse, IsFree, OwesBut, told_of}
use Rattle.wait_class.specs.Posts.{IsOut}

-- of more entries, with looks at others, of more watches that are published, and for other excuses
pub carried_wider : (t : Change) {c : Change} {x y : Known} → Carries c x y
    → ((i : ℕ) → t.but i ≡ false → c.but i ≡ false) → ((w : Watch) → t.publishes w ≡ false → c.publishes w ≡ false)
    → ((f : Excuse) → OwesBut (t.from f) x → OwesBut (t.to f) y)
    → Carries (record c { from = t.from; to = t.to; but = t.but; looks = true; at = λ _. y.at; publishes = t.publishes }) x y
carried_wider t {x = x} a away silent owes = record {
  domain = a.domain;
  number = a.number;
  awake = a.awake;
  state = a.state;
  head = a.head;
  ticket = a.ticket;
  hold = a.hold;
  at = refl;
  mark = a.mark;
  fewer = λ w σ p is. a.fewer w σ (silent w p) is;
  stored = λ i blind p. absurd (cc);
  out = λ i p is. a.out i (away i p) is;
  stands = λ slot few p e is own. a.stands slot few (away (index x.view.number slot) p) e is own;
  keeps = λ w p. a.keeps w (silent w p);
  owes = owes;
}

-- the second change is of the same entries and publishes the same, and begins with the excuse with which the first ends
abbrev pub behind : Change → Change → Change
behind c d = record d { from = c.to; but = c.but; publishes = c.publishes }

abbrev pub both : Change → Change → Change
both c d = record {
  from = c.from;
  to = d.to;
  but = c.but;
  looks = true;
  state = λ σ. d.state (c.state σ);
  awake = λ up. d.awake (c.awake up);
  head = λ h. d.head (c.head h);
  ticket = λ t. d.ticket (c.ticket t);
  at = λ h. d.at (c.at h);
  publishes = c.publishes;
}

pub carried_on : {c : Change} (d : Change) {x y z : Known} → Carries c x y → Carries (behind c d) y z
    → Carries (both c d) x z
carried_on {c = c} d {y = y} {z = z} a b = record {
  domain = b.domain ∙ a.domain;
  number = b.number ∙ a.number;
  awake = b.awake ∙ ap d.awake a.awake;
  state = b.state ∙ ap d.state a.state;
  head = b.head ∙ ap d.head a.head;
  ticket = b.ticket ∙ ap d.ticket a.ticket;
  hold = b.hold ∙ ap d.head a.hold;
  at = b.at ∙ ap d.at a.at;
  mark = b.mark ∙ a.mark;
  fewer = λ w σ p is. b.fewer w σ p (a.fewer w σ p is);
  stored = λ i blind p. absurd (cc);
  out = λ i p is. b.out i p (a.out i p is);
  stands = λ slot few p e is own.
      subst (λ (m : ℕ). (told_of z).bits.stored (index m slot) ≡ Some e) a.number
      (b.stands slot few (ap (λ (m : ℕ). c.but (index m slot)) a.number ∙ p) e
      (subst (λ (m : ℕ). (told_of y).bits.stored (index m slot) ≡ Some e) (sym a.number)
      (a.stands slot few p e is own)) own);
  keeps = λ w p. b.keeps w p ∙ a.keeps w p;
  owes = λ f o. b.owes f (a.owes f o);
}

-- over a change of neither the state nor the head
pub free_on : (c : Change) {x y : Known} → Carries (record c { head = λ h. h; ticket = λ t. t }) x y → IsFree x → IsFree y
free_on c a free = record { head = a.head ∙ free.head; ticket = a.ticket ∙ free.ticket }

pub idle_on : (c : Change) {x y : Known} → Carries (record c { state = λ σ. σ; head = λ h. h; ticket = λ t. t }) x y
    → IsIdle x → IsIdle y
idle_on c a idle = record {
  running = a.state ∙ idle.running;
  free = free_on (record c { state = λ σ. σ }) a idle.free;
  unmarked = a.mark ∙ idle.unmarked;
}

-- over one that queues no entry of slot 0
pub out_on : {c : Change} {x y : Known} → Carries c x y → c.but (index x.view.number 0) ≡ false → IsOut x → IsOut y
out_on {x = x} {y = y} a away out = subst (λ (n : ℕ). (told_of y).bits.stored (index n 0) ≡ None) (sym a.number)
    (a.out (index x.view.number 0) away out)

-- an end of a pipe of which the task keeps what it knows of its own part
pub keeps_same : {e f : End} → f ≡ e → KeepsEnd e f
keeps_same is = record {
  mine = ap (λ (x : End). x.mine) is;
  shut = ap (λ (x : End). x.shut) is;
  count = ap (λ (x : End). x.count) is;
  before = ap (λ (x : End). x.before) is;
  cells = ap (λ (x : End). x.cells) is;
}

pub keeps_join : {e f g : End} → KeepsEnd e f → KeepsEnd f g → KeepsEnd e g
keeps_join one two = record {
  mine = two.mine ∙ one.mine;
  shut = two.shut ∙ one.shut;
  count = two.count ∙ one.count;
  before = two.before ∙ one.before;
  cells = two.cells ∙ one.cells;
}
