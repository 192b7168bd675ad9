-- The walk that the record of a hold names.
use Rattle.std.proofs.Common.{refl, ◌∙◌, ap, arith}
use Rattle.std.specs.Prelude.{ℕ, ◌≡◌, ◌+◌, ◌-◌, ◌<◌, ◌≤◌, Bool, true, false, nat_lt, if◌then◌else◌, Option, Some}
use Rattle.std.proofs.lemmas.Bool.Decides.{nat_tests}
use Rattle.wait_model.specs.{declared.watches.Aim.Aim, Watches.head_of, Rows.AimsAt}
use Rattle.wait_model.specs.declared.layout.TheConstants.{FIRST_PLAIN_HEAD, FIRST_SIMPLE_HEAD, FIRST_DONE_HEAD}
use Rattle.wait_model.specs.declared.watches.Watch.TheVariants as watch
use Rattle.wait_model.specs.declared.watches.Mode.TheVariants as mode
use Rattle.wait_model.proofs.WordLaws.DecodedWords.{head_plain}
use Rattle.wait_rule.specs.Queues.{simple_watch, walk_of_hold}

head_done : (d : ℕ) → head_of (watch.Done d) ≡ FIRST_DONE_HEAD + d
unfolding head_of
head_done d = refl

-- the watch of a simple head is one of this head
pub simple_head : (h : ℕ) → FIRST_SIMPLE_HEAD ≤ h → head_of (simple_watch h) ≡ h
simple_head h far = by (nat_lt h FIRST_DONE_HEAD) refl
  where
    by : (b : Bool) → nat_lt h FIRST_DONE_HEAD ≡ b
        → head_of (if b then watch.Plain (h - FIRST_PLAIN_HEAD) else watch.Done (h - FIRST_DONE_HEAD)) ≡ h
    by true q = head_plain (h - FIRST_PLAIN_HEAD) ∙ omega arith
    by false q = let over : FIRST_DONE_HEAD ≤ h = grind (arith, nat_tests) in head_done (h - FIRST_DONE_HEAD)
        ∙ omega arith

-- at a head that is not simple, the walk is the given one
pub walk_full : (h : ℕ) (walk : Option Aim) → h < FIRST_SIMPLE_HEAD → walk_of_hold h walk ≡ walk
walk_full h walk few = ap (λ (b : Bool). if b then walk
    else Some (record { watch = simple_watch h; mode = mode.Normal; count = 0 }))
    (let z : nat_lt h FIRST_SIMPLE_HEAD ≡ true = grind (arith, nat_tests) in z)

pub aims_hold : (h : ℕ) (walk : Option Aim) → AimsAt walk h → AimsAt (walk_of_hold h walk) h
aims_hold h walk aims = by (nat_lt h FIRST_SIMPLE_HEAD) refl
  where
    by : (b : Bool) → nat_lt h FIRST_SIMPLE_HEAD ≡ b → AimsAt (if b then walk
        else Some (record { watch = simple_watch h; mode = mode.Normal; count = 0 })) h
    by true q = aims
    by false q = simple_head h (let far : FIRST_SIMPLE_HEAD ≤ h = grind (arith, nat_tests) in far)
