-- How the stop of a copy tells of those of its tasks.
use Rattle.std.proofs.Common.{refl, sym, ap, ◌∙◌}
use Rattle.std.proofs.lemmas.Bool.{eqb-true, false≢true}
use Rattle.std.specs.Prelude.{ℕ, ◌≡◌, ◌==◌, if◌then◌else◌, Bool, true, false, List, [], ◌∷◌}
use Rattle.copy_plan.specs.{declared.kinds.Kind.Kind, declared.stop.Stop.Stop}
use Rattle.copy_plan.specs.Kinds.{copy_stop, first_or, is_of}
use Rattle.copy_plan.specs.declared.kinds.Kind.TheVariants as kind
use Rattle.copy_plan.specs.declared.stop.Stop.TheVariants as stop

-- none of the stops is of a kind
abbrev pub NoneOf : Kind → List Stop → Type 0
NoneOf k [] = Unit {0}
NoneOf k (s ∷ ss) = (is_of k s ≡ false) × NoneOf k ss

finished_is_none : (k : Kind) → is_of k stop.Finished ≡ false
finished_is_none kind.Memory = refl
finished_is_none kind.Worn = refl
finished_is_none kind.ReadFault = refl
finished_is_none kind.WriteFault = refl
finished_is_none kind.Long = refl

-- where the first of a kind, or else another, is Finished, that other is, and none of the kind is there
pub first_is : (k : Kind) (ss : List Stop) (other : Stop) → first_or k ss other ≡ stop.Finished
    → NoneOf k ss × (other ≡ stop.Finished)
first_is k [] other e = (tt, e)
first_is k (s ∷ ss) other e = by (is_of k s) refl e (first_is k ss other)
  where
    by : (b : Bool) → is_of k s ≡ b → (if b then s else first_or k ss other) ≡ stop.Finished
        → (first_or k ss other ≡ stop.Finished → NoneOf k ss × (other ≡ stop.Finished))
        → ((is_of k s ≡ false) × NoneOf k ss) × (other ≡ stop.Finished)
    by true is f go = absurd (false≢true (sym (finished_is_none k) ∙ (sym (ap (is_of k) f) ∙ is)))
    by false is f go = let rest = go f in ((is, rest.0), rest.1)

no_kills : (n : ℕ) (b : Bool) → (n == 0) ≡ b → (if b then stop.Finished else stop.Killed) ≡ stop.Finished → n ≡ 0
no_kills n true e f = eqb-true n 0 e
no_kills n false e f = cc

-- a stop that a copy does not name
pub record IsNamedNone (s : Stop) : Type 0 where
  pub memory : is_of kind.Memory s ≡ false
  pub worn : is_of kind.Worn s ≡ false
  pub read_fault : is_of kind.ReadFault s ≡ false
  pub write_fault : is_of kind.WriteFault s ≡ false
  pub long : is_of kind.Long s ≡ false

abbrev pub EachNamedNone : List Stop → Type 0
EachNamedNone [] = Unit {0}
EachNamedNone (s ∷ ss) = IsNamedNone s × EachNamedNone ss

each_named_none : (ss : List Stop) → NoneOf kind.Memory ss → NoneOf kind.Worn ss → NoneOf kind.ReadFault ss
    → NoneOf kind.WriteFault ss → NoneOf kind.Long ss → EachNamedNone ss
each_named_none [] m w r f l = tt
each_named_none (s ∷ ss) m w r f l = (
  record { memory = m.0; worn = w.0; read_fault = r.0; write_fault = f.0; long = l.0 },
  each_named_none ss m.1 w.1 r.1 f.1 l.1,
)

pub record NamesNone (stops : List Stop) (sent : ℕ) : Type 0 where
  pub each : EachNamedNone stops
  pub kills : sent ≡ 0

pub finished_names_none : (ss : List Stop) (kills : ℕ) → copy_stop ss kills ≡ stop.Finished → NamesNone ss kills
finished_names_none ss kills e =
    let none : Stop = if kills == 0 then stop.Finished else stop.Killed in
    let long : Stop = first_or kind.Long ss none in
    let unwritten : Stop = first_or kind.WriteFault ss long in
    let unread : Stop = first_or kind.ReadFault ss unwritten in
    let worn : Stop = first_or kind.Worn ss unread in
    let m = first_is kind.Memory ss worn e in
    let w = first_is kind.Worn ss unread m.1 in
    let r = first_is kind.ReadFault ss unwritten w.1 in
    let f = first_is kind.WriteFault ss long r.1 in
    let l = first_is kind.Long ss none f.1 in
    record {
      each = each_named_none ss m.0 w.0 r.0 f.0 l.0;
      kills = no_kills kills (kills == 0) refl l.1;
    }

-- what is left
pub data Plain (s : Stop) : Type 0 where
  finished : s ≡ stop.Finished → Plain s
  broken : s ≡ stop.Broken → Plain s
  killed : s ≡ stop.Killed → Plain s
  taken : s ≡ stop.Taken → Plain s

pub named_none : (s : Stop) → IsNamedNone s → Plain s
named_none stop.Finished n = finished refl
named_none stop.Broken n = broken refl
named_none stop.Killed n = killed refl
named_none stop.Taken n = taken refl
named_none stop.ReadFault n = absurd (false≢true (sym n.read_fault))
named_none stop.WriteFault n = absurd (false≢true (sym n.write_fault))
named_none stop.Memory n = absurd (false≢true (sym n.memory))
named_none stop.Long n = absurd (false≢true (sym n.long))
named_none (stop.Worn h p) n = absurd (false≢true (sym n.worn))
