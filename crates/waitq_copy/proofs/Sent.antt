-- How much the reader of a copy read, and which planned signals it sent.
use Rattle.std.proofs.Common.{◌≡◌, ℕ, ◌<◌, List, [], ◌∷◌, length, refl, sym, ap, ◌∙◌, subst, Bool, true, false, arith}
use Rattle.std.specs.Prelude.{Option, Result, IfSome, ◌&&◌, nat_le, if◌then◌else◌}
use Rattle.atomic_table.specs.Seated.{TableId}
use Rattle.bit_wait.specs.declared.wait_calls.BitEnd.{BitEnd}
use Rattle.wait_rule.specs.Known.{Known}
use Rattle.func_head.specs.Walks.{EntryState}
use Rattle.copy_plan.specs.{declared.plan.Planned.Planned, declared.stop.ReaderEnd.ReaderEnd, declared.stop.Stop.Stop}
use Rattle.copy_plan.specs.{declared.stop.WorkerEnd.WorkerEnd, Stops.IfFinished, Stops.IfTaken}
use Rattle.copy_plan.specs.Plans.{due_in, fatal_of, up_to}
use Rattle.copy_plan.specs.declared.stop.Stop.TheVariants as stop
use Rattle.copy_ends.specs.Copied.{Copied, IsNotTaken, NoneTaken}
use Rattle.copy_ends.proofs.Rows.{gave_all}

own : (s : Stop) (X Y : Type 0) → IsNotTaken s → IfTaken s X Y → Y
own stop.Taken X Y n h = absurd n
own s X Y n h = h

module _ (domain : TableId) (task : Known) (left_old left_new : Option (List ℕ)) (reads_old reads_new : ℕ)
    (held_old held_new : Option (List ℕ)) (writes_old writes_new wants_old wants_new : ℕ)
    (seen_old seen_new : List EntryState) (plan : List Planned) (reader : ReaderEnd) (relay writer : WorkerEnd)
    (how : Stop) (total : Result ℕ BitEnd)
    (c : Copied domain task left_old left_new reads_old reads_new held_old held_new writes_old writes_new wants_old
    wants_new seen_old seen_new plan reader relay writer how total) where
  due_is : NoneTaken reader relay writer → c.reads.worked.due ≡ up_to reader.read plan
  due_is n = own reader.stop _ _ n.0 c.reads.worked.dues

  pub sent_of : NoneTaken reader relay writer → reader.sent ≡ length (up_to reader.read plan)
  sent_of n = c.reads.worked.sends ∙ ap (λ (ps : List Planned). length ps) (due_is n)

  pub kills_are : NoneTaken reader relay writer → reader.kills ≡ length (fatal_of (up_to reader.read plan))
  kills_are n = c.reads.worked.kills ∙ ap (λ (ps : List Planned). length (fatal_of ps)) (due_is n)

  pub size_of : reader.stop ≡ stop.Finished → IfSome left_old (λ bytes. reader.read ≡ length bytes)
  size_of e =
      let w = c.reads.worked in
      gave_all (λ (xs : List ℕ). reader.read ≡ length xs) left_old left_new w.given w.left
      (subst (λ (s : Stop). IfFinished s (IfSome left_new (λ bytes. bytes ≡ []))) e w.whole) w.read

-- a plan that has no fatal signal has none that is due
no_fatal : (f : Bool) (p : Planned) (xs : List Planned) → (if f then p ∷ xs else xs) ≡ []
    → (f ≡ false) × (xs ≡ [])
no_fatal true p xs e = absurd (cc e)
no_fatal false p xs e = (refl, e)

one_more : (t : Bool) (p : Planned) (ds : List Planned) → p.fatal ≡ false → fatal_of ds ≡ []
    → fatal_of (if t then p ∷ ds else ds) ≡ []
one_more true p ds f e = subst (λ (b : Bool). (if b then p ∷ fatal_of ds else fatal_of ds) ≡ []) (sym f) e
one_more false p ds f e = e

still_plain : (from to : ℕ) (plan : List Planned) → fatal_of plan ≡ [] → fatal_of (due_in from to plan) ≡ []
still_plain from to [] e = refl
still_plain from to (p ∷ ps) e =
    let w : (p.fatal ≡ false) × (fatal_of ps ≡ []) = no_fatal p.fatal p (fatal_of ps) e in
    one_more (nat_le from p.offset && nat_le p.offset to) p (due_in from to ps) w.0 (still_plain from to ps w.1)

pub no_kill : (plan : List Planned) (n kills : ℕ) → kills ≡ length (fatal_of (up_to n plan)) → fatal_of plan ≡ []
    → 0 < kills → ⊥
no_kill plan n kills e p lt =
    let none : kills ≡ 0 = e ∙ ap (λ (ps : List Planned). length ps) (still_plain 0 n plan p) in omega arith
