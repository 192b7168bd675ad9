-- How a table says of each of its stages that the exit there is lawful.
use Rattle.std.proofs.Common.{◌∙◌, ap, refl, subst, sym}
use Rattle.std.specs.Prelude.{ℕ, ◌≡◌, Bool, true, false, if◌then◌else◌, is_some, IfSome, Option, Some, None}
use Rattle.wait_model.specs.{declared.points.FinishPoint.FinishPoint, declared.points.Planned.Planned}
use Rattle.wait_model.specs.{declared.points.Point.Point, declared.points.Seen.Seen, PointFacts.holds}
use Rattle.wait_model.specs.declared.points.FinishPoint.TheVariants as finishing
use Rattle.wait_model.specs.declared.points.Point.TheVariants as at
use Rattle.wait_model.proofs.WaitLaws.OutsideStages.{either}
use Rattle.wait_rule.specs.{Known.Known, Tickets.Ticket}
use Rattle.wait_class.specs.declared.stages.Doing.TheVariants as doing
use Rattle.wait_class.specs.{declared.stages.Turn.Turn, FrameLaws.IsLawfulFrame, FrameLaws.framed_plan}
use Rattle.wait_class.specs.{Frames.FrameTable, Frames.framed}
use Rattle.wait_class.specs.Laws.{Calm, HomeGoes, IsPlainTurn, StateGoes, TurnTrail, turn_post}
use Rattle.wait_class.specs.Tables.{CallTable, Plan, falls, next_in, post_of, took_in}
use Rattle.wait_leave.specs.declared.exits.Exit.{Exit}
use Rattle.wait_leave.specs.ExitLaws.{AreLawfulExits, AwakeOn, ExitLaw, is_awake, rest_steps}
use Rattle.wait_leave.specs.Leaves.{Exits, stays_awake, with_asked}

-- What an exit keeps that each stage has by computation: one equation between these of the stage and of where it goes
-- on.
pub record Face : Type 0 where
  pub drawn : Bool
  pub falls : Bool
  pub head : Option ℕ
  pub ticket : Ticket
  pub took : Bool

abbrev pub face_at : {C S O : Type 0} → CallTable C S O → C → S → Turn S O → Face
face_at t r s u = record {
  drawn = t.drawn s;
  falls = falls t s u;
  head = (post_of t r s).head;
  ticket = (post_of t r s).ticket;
  took = t.took s;
}

abbrev pub face_to : {C S O : Type 0} → CallTable C S O → C → Turn S O → Face
face_to t r u = record {
  drawn = false;
  falls = true;
  head = (turn_post t r u).head;
  ticket = (turn_post t r u).ticket;
  took = took_in t u;
}

-- a call that was asked is the same but for that
pub record AskLaw {C S O : Type 0} (t : CallTable C S O) (x : Exits C S O) : Type 0 where
  pub same : (r : C) → t.plan_of (x.asks r) ≡ with_asked true (t.plan_of r)
  pub fits : (r : C) → t.Fits r → t.Fits (x.asks r)

module _ {C S O : Type 0} {t : CallTable C S O} {x : Exits C S O} (law : AskLaw t x) {r : C} {s : S} {to : Turn S O} where
  -- out, behind RUNNING or not
  out_by : (b : Bool) → face_at t r s to ≡ face_to t (x.asks r) to → IsPlainTurn t to
      → (b ≡ true → holds (t.point_of s) ≡ false) → (b ≡ false → StateGoes t r s (x.asks r) to)
      → HomeGoes t r s (x.asks r) to
      → ((old new : Known) → Calm (rest_steps b) old new → t.Trail old r s → TurnTrail t new (x.asks r) to)
      → ExitLaw t x r s (record { to = to; rests = b })
  out_by b is plain free state home trail = record {
    fresh = ap (λ (f : Face). f.drawn) is;
    plain = plain;
    falls = ap (λ (f : Face). f.falls) is;
    free = free;
    head = sym (ap (λ (f : Face). f.head) is);
    ticket = sym (ap (λ (f : Face). f.ticket) is);
    same = law.same r;
    fits = law.fits r;
    took = ap (λ (f : Face). f.took) is;
    state = state;
    home = home;
    trail = trail;
  }

  -- out where it stands, with no event
  pub out_at_once : face_at t r s to ≡ face_to t (x.asks r) to → IsPlainTurn t to → StateGoes t r s (x.asks r) to
      → HomeGoes t r s (x.asks r) to
      → ((old new : Known) → Calm (rest_steps false) old new → t.Trail old r s → TurnTrail t new (x.asks r) to)
      → ExitLaw t x r s (record { to = to; rests = false })
  out_at_once is plain state = out_by false is plain (λ rests. absurd (cc)) (λ still. state)

  -- out behind RUNNING, where no head is held
  pub out_rested : face_at t r s to ≡ face_to t (x.asks r) to → IsPlainTurn t to → holds (t.point_of s) ≡ false
      → HomeGoes t r s (x.asks r) to
      → ((old new : Known) → Calm (rest_steps true) old new → t.Trail old r s → TurnTrail t new (x.asks r) to)
      → ExitLaw t x r s (record { to = to; rests = true })
  out_rested is plain free = out_by true is plain (λ rests. free) (λ still. absurd (cc))

-- what is said of each stage by its exit, of those with none nothing
abbrev pub LawAt : {C S O : Type 0} → CallTable C S O → Exits C S O → C → S → Type 0
LawAt t x r s = IfSome (x.exit r s) (ExitLaw t x r s)

said_of : {A : Type 0} (P : A → Type 0) (o : Option A) → IfSome o P → (a : A) → o ≡ Some a → P a
said_of P (Some b) said a is = let same : b ≡ a = cc in subst P same said
said_of P None said a is = absurd (cc)

pub lawful_exits : {C S O : Type 0} (t : CallTable C S O) (x : Exits C S O) → ((r : C) (s : S) → LawAt t x r s)
    → ((r : C) (s : S) → t.doing s ≡ doing.Sleep → x.exit r s ≡ None → ⊥)
    → ((r : C) (me : ℕ) (p : Point) (seen : Seen) → x.awake p ≡ true → AwakeOn x.awake ((t.plan_of r).makes me p seen))
    → AreLawfulExits t x
lawful_exits t x laws sleeps awake = record {
  at = λ r s e is. said_of (ExitLaw t x r s) (x.exit r s) (laws r s) e is;
  sleeps = sleeps;
  awake = awake;
}

-- no exit leads to where the program may sleep
abbrev pub stays_out : {C S O : Type 0} → CallTable C S O → Exits C S O → Option (Exit S O) → Bool
stays_out t x (Some e) = stays_awake t x e.to
stays_out t x None = true

pub awake_exits : {C S O : Type 0} (t : CallTable C S O) (x : Exits C S O)
    → ((r : C) (s : S) → stays_out t x (x.exit r s) ≡ true) → (r : C) (s : S) (e : Exit S O) → x.exit r s ≡ Some e
    → stays_awake t x e.to ≡ true
awake_exits t x stays r s e is = sym (ap (stays_out t x) is) ∙ stays r s

-- both answers of a test
pub either_awake : (awake : Point → Bool) (b : Bool) (x y : Planned) → AwakeOn awake x → AwakeOn awake y
    → AwakeOn awake (if b then x else y)
either_awake awake = either (AwakeOn awake)

-- a finish from which on the program sleeps no more, nor behind it
module _ {W T O : Type 0} (f : FrameTable W T O) (lawful : IsLawfulFrame f) (awake : Point → Bool)
    (finishes : (y : FinishPoint) (b : Bool) → awake (at.Finish y b) ≡ true) (r : W)
    (over : (b : Bool) → is_awake awake (next_in (framed f) (f.finished r b)) ≡ true) (me : ℕ) (seen : Seen) where
  ends_awake : (b : Bool) → is_awake awake (lawful.ends r b) ≡ true
  ends_awake b = ap (is_awake awake) (lawful.goes r b) ∙ over b

  made_awake : (y : FinishPoint) (b : Bool)
      → AwakeOn awake ((framed_plan f (lawful.ends r) (f.plan_of r)).makes me (at.Finish y b) seen)
  made_awake finishing.State b = (refl, finishes finishing.Look b)
  made_awake finishing.Look b = either_awake awake (is_some seen.entry) _ _ (refl, finishes finishing.Lock b)
      (refl, ends_awake b)
  made_awake finishing.Lock b = (refl, finishes finishing.Queue b)
  made_awake finishing.Queue b = either_awake awake (is_some seen.entry) _ _ (refl, finishes finishing.Unlock b)
      (refl, ends_awake b)
  made_awake finishing.Unlock b = (refl, ends_awake b)

  pub finish_awake : (y : FinishPoint) (b : Bool) → AwakeOn awake ((f.plan_of r).makes me (at.Finish y b) seen)
  finish_awake y b = subst (λ (p : Plan). AwakeOn awake (p.makes me (at.Finish y b) seen)) (sym (lawful.stands r))
      (made_awake y b)

-- what is said of an answer by whether its call was asked
pub if_asked : (P : Bool → Type 0) (b : Bool) → (b ≡ true → P true) → P false → P b
if_asked P true asked not_asked = asked refl
if_asked P false asked not_asked = not_asked
