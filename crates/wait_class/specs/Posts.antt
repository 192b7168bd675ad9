-- To be believed.
-- The ground of calls that are made in stretches: what a task knows of its own words at a point of its program, and
-- what stays of it from one point to another.
use Rattle.std.specs.Prelude.{ℕ, ◌≡◌, ◌<◌, ◌⊎◌, ◌==◌, Bool, true, false, if◌then◌else◌, Option, Some, None, List, ◌∷◌}
use Rattle.std.specs.Prelude.{◌++◌}
use Rattle.wait_model.specs.{declared.layout.TheConstants.SLOTS, declared.steps.Step.Step, declared.watches.Watch.Watch}
use Rattle.wait_model.specs.{declared.watches.Entry.Entry, declared.calls.Call.Call, declared.points.Point.Point}
use Rattle.wait_model.specs.{declared.points.Next.Next, Tasks.state_mask, Words.entry_of}
use Rattle.wait_model.specs.Points.{call_watch, head_at, state_in}
use Rattle.wait_model.specs.PointFacts.{Zone, absent, zone, IsHome, holds, stirs}
use Rattle.wait_model.specs.declared.steps.Step.TheVariants as step
use Rattle.wait_model.specs.declared.points.Point.TheVariants as at
use Rattle.wait_rule.specs.{Ends.WasWorn, Known.Known, Members.IsOwnKind, Members.IsEntryWord}
use Rattle.wait_rule.specs.Tickets.{Ticket, no_ticket, drawn, taken}
use Rattle.wait_rule.specs.Says.{Excuse, history_of, told_of, added, OwesBut}
use Rattle.wait_rule.specs.Queues.{IsAgreed, KnewEntry, index, saw}
use Rattle.wait_rule.specs.Stays.{Carries, with_entry, only_looks}
use Rattle.wait_rule.specs.Transitions.{Program, Transition, Goes}
use Rattle.wait_rule.specs.declared.journal.Item.TheVariants as item

-- What a point of a program says of the task: the head that it holds, the ticket that it has out, whether its state may
-- be another than RUNNING, which one then, and what its own entry is, of a call for this watch.
pub record Post : Type 0 where
  pub head : Option ℕ
  pub ticket : Ticket
  pub stirs : Bool
  pub state : ℕ
  pub zone : Zone
  pub watch : Watch

-- the state is RUNNING, or the one in which the call sleeps
abbrev pub IsStateFor : Bool → ℕ → ℕ → Type 0
IsStateFor false σ s = s ≡ 0
IsStateFor true σ s = (s ≡ 0) ⊎ (s ≡ σ)

pub record Stands (k : Known) (p : Post) : Type 0 where
  pub head : k.book.head ≡ p.head
  pub at : (h : ℕ) → p.head ≡ Some h → k.at ≡ h
  pub told : (told_of k).hold.head ≡ p.head
  pub ticket : k.book.ticket ≡ p.ticket
  pub agreed : (h : ℕ) → p.head ≡ Some h → IsAgreed k
  pub state : IsStateFor p.stirs p.state k.book.state
  pub home : IsHome p.zone p.watch ((told_of k).bits.stored (index k.view.number 0))

-- The ticket is drawn, and waits to be served, with this number; or none is out.
abbrev pub ticket_out : ℕ → Option ℕ → Ticket
ticket_out h None = no_ticket
ticket_out h (Some n) = drawn h n

-- a wait whose entry found no place has none queued
abbrev pub zone_at : Point → Zone
zone_at at.Worn = absent
zone_at p = zone p

abbrev pub post_at : Option ℕ → Call → Point → Post
post_at out call p = record {
  head = if holds p then Some (head_at call p) else None;
  ticket = if holds p then taken (head_at call p) else ticket_out (head_at call p) out;
  stirs = stirs call p;
  state = state_mask (state_in call);
  zone = zone_at p;
  watch = call_watch call;
}

-- What stays of a task over a part of a call that has the entry of this index: the task, its bookmark, what it owes but
-- for this entry, the other entries, and the bits that it keeps.
-- In between it may be excused of more.
pub record KeepsBut (meanwhile : Excuse → Excuse) (i : ℕ) (old new : Known) : Type 0 where
  pub domain : new.domain ≡ old.domain
  pub number : new.view.number ≡ old.view.number
  pub mark : (told_of new).mark ≡ (told_of old).mark
  pub fewer : (w : Watch) (σ : ℕ) → (told_of old).duty.owes w σ ≡ false → (told_of new).duty.owes w σ ≡ false
  pub out : (x : ℕ) → (x == i) ≡ false → (told_of old).bits.stored x ≡ None → (told_of new).bits.stored x ≡ None
  pub stands : (slot : ℕ) → slot < SLOTS → (index old.view.number slot == i) ≡ false → (e : Entry)
      → (told_of old).bits.stored (index old.view.number slot) ≡ Some e → IsOwnKind e.kind
      → (told_of new).bits.stored (index old.view.number slot) ≡ Some e
  pub keeps : (d : Watch) → (told_of new).bits.keeps d ≡ (told_of old).bits.keeps d
  pub owes : (x : Excuse) → OwesBut (with_entry i (meanwhile x)) old → OwesBut (with_entry i (meanwhile x)) new

abbrev pub Keeps : ℕ → Known → Known → Type 0
Keeps i old new = KeepsBut (λ x. x) i old new

-- the task went through a program from one point to another
pub record Runs (f : Program) (old new : Known) (from to : Next) : Type 0 where
  pub transitions : List Transition
  pub goes : Goes f old from transitions new to

-- the task loaded the own entry word of slot 0, and it shows this
pub record HasSeenOwn (old new : Known) (o : Option Entry) : Type 0 where
  pub word : ℕ
  pub is : new ≡ added old (item.Made (saw old.book.head (index old.view.number 0) word))
  pub lawful : IsEntryWord (index old.view.number 0) word
  pub knew : KnewEntry old (index old.view.number 0) word
  pub reads : o ≡ entry_of word
  pub carries : Carries only_looks old new

-- the own entry, of slot 0, and that it is off
abbrev pub own_of : Known → ℕ
own_of k = index k.view.number 0

abbrev pub IsOut : Known → Type 0
IsOut k = (told_of k).bits.stored (own_of k) ≡ None

-- the history ends with these steps
abbrev pub EndsWith : Known → List Step → Type 0
EndsWith k es = (before : List Step) × (history_of k ≡ before ++ es)

-- A place of this head was noted at which no place is left, and the head given back; these steps came behind it.
pub record FoundWorn (k : Known) (h p : ℕ) (more : List Step) : Type 0 where
  pub noted : WasWorn k.view.number k.view.items h p
  pub ends : EndsWith k (step.Unlock h false ∷ more)
