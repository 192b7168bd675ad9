-- How a task stands behind a call that has ended and given its head back, of any class.
use Rattle.std.proofs.Common.{◌∙◌, ap, sym, refl, subst}
use Rattle.std.specs.Prelude.{ℕ, ◌≡◌, Bool, false, None}
use Rattle.wait_model.specs.PointFacts.{IsHome, Zone, absent}
use Rattle.wait_rule.specs.{Known.Known, Queues.IsIdle, Queues.index, Stays.Carries, Tickets.no_ticket}
use Rattle.wait_rule.specs.Says.{Excuse, IsClean, IsFree, IsUp, OwesBut, no_excuse, told_of}
use Rattle.wait_rule.proofs.KnownLaws.StayingParts.{owes_also, owes_out}
use Rattle.wait_class.specs.Posts.{IsOut, IsStateFor, KeepsBut, Post, Stands, own_of}
use Rattle.wait_class.proofs.Wholes.{none_of}
use Rattle.wait_event.specs.Ends.{wait_change}

pub record IsBehind (meanwhile : Excuse → Excuse) (old new : Known) : Type 0 where
  pub up : IsUp new
  pub running : new.book.state ≡ 0
  pub free : IsFree new
  pub told : (told_of new).hold.head ≡ None
  pub out : IsOut new
  pub keeps : KeepsBut meanwhile (own_of old) old new

-- how a task stands whose wait is over, whatever way it came there
pub record StandsOver (old new : Known) : Type 0 where
  pub up : IsUp new
  pub idle : (told_of old).mark ≡ None → IsIdle new
  pub out : IsOut new

-- an end that holds no head, has no ticket out, its entry off, and its task RUNNING
pub record IsOutPost (p : Post) : Type 0 where
  pub head : p.head ≡ None
  pub ticket : p.ticket ≡ no_ticket
  pub stirs : p.stirs ≡ false
  pub zone : p.zone ≡ absent

pub behind_at : {f : Excuse → Excuse} (p : Post) → IsOutPost p → (old new : Known) → IsUp new → Stands new p
    → KeepsBut f (own_of old) old new → IsBehind f old new
behind_at p at old new up stands keeps = record {
  up = up;
  running = subst (λ (b : Bool). IsStateFor b p.state new.book.state) at.stirs stands.state;
  free = record { head = stands.head ∙ at.head; ticket = stands.ticket ∙ at.ticket };
  told = stands.told ∙ at.head;
  out = none_of p.watch ((told_of new).bits.stored (index new.view.number 0))
      (subst (λ (z : Zone). IsHome z p.watch ((told_of new).bits.stored (index new.view.number 0))) at.zone stands.home);
  keeps = keeps;
}

-- what a task carries on over a call of its entry, between whose ends it holds no head
pub call_carried : (from to : Excuse → Excuse) (s : ℕ → ℕ) {f : Excuse → Excuse} (i : ℕ) (old new : Known)
    → KeepsBut f i old new → IsUp old → IsUp new → IsFree old → IsFree new
    → (told_of new).hold.head ≡ (told_of old).hold.head → new.book.state ≡ s old.book.state
    → ((x : Excuse) → OwesBut (from x) old → OwesBut (to x) new)
    → Carries (record (wait_change i new.at) { from = from; to = to; state = s }) old new
call_carried from to s i old new keeps up still free out hold state owes = record {
  domain = keeps.domain;
  number = keeps.number;
  awake = still ∙ sym up;
  state = state;
  head = out.head ∙ sym free.head;
  ticket = out.ticket ∙ sym free.ticket;
  hold = hold;
  at = refl;
  mark = keeps.mark;
  fewer = λ w σ none is. keeps.fewer w σ is;
  stored = λ x none away. absurd (cc);
  out = keeps.out;
  stands = keeps.stands;
  keeps = λ d _. keeps.keeps d;
  owes = owes;
}

module _ {f : Excuse → Excuse} (old new : Known) (b : IsBehind f old new) where
  pub idle_behind : (told_of old).mark ≡ None → IsIdle new
  idle_behind unmarked = record { running = b.running; free = b.free; unmarked = b.keeps.mark ∙ unmarked }

  -- who began idle goes on as it was, where it owes no more than before
  pub carried_behind : ((x : Excuse) → OwesBut x old → OwesBut x new) → IsUp old → IsIdle old
      → (told_of old).hold.head ≡ None → Carries (wait_change (index old.view.number 0) new.at) old new
  carried_behind owed up idle held = call_carried (λ x. x) (λ x. x) (λ σ. σ) (own_of old) old new b.keeps up b.up
      idle.free b.free (b.told ∙ sym held) (b.running ∙ sym idle.running) owed

  -- and who began owing nothing
  pub clean_behind : ((x : Excuse) → OwesBut x old → OwesBut x new) → IsClean old → IsClean new
  clean_behind owed clean = record {
    up = b.up;
    running = b.running;
    free = b.free;
    settled = owed no_excuse clean.settled;
  }

  pub over_behind : StandsOver old new
  over_behind = record { up = b.up; idle = idle_behind; out = b.out }

  pub stored_behind : (told_of new).bits.stored (index old.view.number 0) ≡ None
  stored_behind = ap (λ (n : ℕ). (told_of new).bits.stored (index n 0)) (sym b.keeps.number) ∙ b.out

-- who is excused of nothing more meanwhile owes no more than before
pub owes_behind : (old new : Known) → IsBehind (λ x. x) old new → (x : Excuse) → OwesBut x old → OwesBut x new
owes_behind old new b x o = owes_out (own_of old) x new (stored_behind old new b)
    (b.keeps.owes x (owes_also (own_of old) x old o))
