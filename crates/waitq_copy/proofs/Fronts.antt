-- What becomes of the files, whatever the status of a copy is.
use Rattle.std.proofs.Common.{◌≡◌, ℕ, ◌++◌, List, [], true, inl, inr, refl, sym, ap, ◌∙◌, subst}
use Rattle.std.proofs.Common.{append_assoc}
use Rattle.std.specs.Prelude.{Option, Some, None, Result, Ok, Err, IfSome, is_some}
use Rattle.std.proofs.lemmas.Bool.{false≢true}
use Rattle.std.specs.Io.KnownBytes.{append_known, prepend_known}
use Rattle.atomic_table.specs.Seated.{TableId}
use Rattle.edge_io.specs.declared.sink.SinkFault.{SinkFault}
use Rattle.edge_io.specs.Folders.{Files, HasBytes, HoldsNothing, Stores}
use Rattle.wait_rule.specs.Known.{Known}
use Rattle.func_head.specs.Walks.{EntryState}
use Rattle.copy_plan.specs.declared.plan.Planned.{Planned}
use Rattle.copy_ends.specs.Copied.{HoldsGiven}
use Rattle.waitq_copy.specs.Copying.{CopyLeft, IsFileStored, Outside}
use Rattle.waitq_copy.specs.Run.{IsFrontOf, Spares, SparesBut}
use Rattle.waitq_alone.specs.declared.fault.Fault.{Fault}

-- a front of what was given is a front of all that there was
pub is_front : (a b left : Option (List ℕ)) (given front rest : List ℕ) → a ≡ Some front → b ≡ prepend_known given left
    → is_some b ≡ true → given ≡ front ++ rest → IsFrontOf a b
is_front a b None given front rest e f some w = absurd (false≢true (sym (ap is_some f) ∙ some))
is_front a b (Some more) given front rest e f some w =
    subst (λ (x : Option (List ℕ)). IsFrontOf x b) (sym e)
    (subst (λ (y : Option (List ℕ)). IsFrontOf (Some front) y) (sym f)
    (rest ++ more, ap (λ (xs : List ℕ). xs ++ more) w ∙ append_assoc front rest more))

-- nothing was stored
pub kept : (old new : Option Files) (dst : List ℕ) (MayGet : Files → Option (List ℕ) → Type 0) → new ≡ old
    → SparesBut dst MayGet old new
kept None new dst MayGet e = tt
kept (Some files) new dst MayGet e = (files, e, record { others = λ other d. refl; front = inl refl })

-- What a sink that held nothing at first was given.
pub holds : (old new : Option (List ℕ)) (bytes : List ℕ) → old ≡ Some [] → new ≡ append_known old bytes
    → new ≡ Some bytes
holds old new bytes empty e = e ∙ ap (λ (o : Option (List ℕ)). append_known o bytes) empty

-- what was stored is what the file may get
stored : (old : Files) (new : Option Files) (dst : List ℕ) (MayGet : Files → Option (List ℕ) → Type 0)
    (held : Option (List ℕ)) (bytes : List ℕ) → held ≡ Some bytes → MayGet old (Some bytes)
    → Stores (Some old) new dst held → SparesBut dst MayGet (Some old) new
stored old new dst MayGet held bytes e may s =
    let has : s.0 dst ≡ Some bytes = subst (λ (o : Option (List ℕ)). IfSome o (λ xs. s.0 dst ≡ Some xs)) e s.2.bytes in (
      s.0,
      s.1,
      record {
        others = s.2.others;
        front = inr (subst (λ (o : Option (List ℕ)). MayGet old o) (sym has) may);
      },
    )

pub spares_but : (old new : Option Files) (dst : List ℕ) (MayGet : Files → Option (List ℕ) → Type 0)
    (answer : Result (Unit {0}) SinkFault) (held_old held_new : Option (List ℕ)) (bytes : List ℕ)
    → HoldsNothing old held_old → held_new ≡ append_known held_old bytes
    → IfSome old (λ files. MayGet files (Some bytes)) → IsFileStored answer old new dst held_new
    → SparesBut dst MayGet old new
spares_but old new dst MayGet (Err e) held_old held_new bytes empty held may s = kept old new dst MayGet s
spares_but None new dst MayGet (Ok x) held_old held_new bytes empty held may s = tt
spares_but (Some old) new dst MayGet (Ok x) held_old held_new bytes empty held may s =
    stored old new dst MayGet held_new bytes (holds held_old held_new bytes empty held) may s

-- so it is of what a copy left
given_front : (old : Option Files) (src : List ℕ) (left_old left_new held_old held_new : Option (List ℕ))
    → HasBytes old src left_old → (given : HoldsGiven left_old left_new held_old held_new)
    → IfSome old (λ files. IsFrontOf (Some given.held.front) (files src))
given_front None src left_old left_new held_old held_new found given = tt
given_front (Some files) src left_old left_new held_old held_new found given =
    is_front (Some given.held.front) (files src) left_new given.given given.held.front given.held.rest refl
    (sym found.1 ∙ given.left) found.0 given.held.whole

pub spares : (domain : TableId) (task_old task_new : Known) (old new : Outside) (src dst : List ℕ)
    (plan : List Planned) (watchers : List EntryState) (answer : Result (Unit {0}) Fault)
    → CopyLeft domain task_old task_new old new src dst plan watchers answer → Spares src dst old.files new.files
spares domain task_old task_new old new src dst plan watchers answer (inl n) =
    kept old.files new.files dst _ n.files
spares domain task_old task_new old new src dst plan watchers answer (inr r) =
    let t = r.through in
    spares_but old.files new.files dst _ r.stored t.held_old t.held_new t.front.held.front t.empty t.front.held.held
    (given_front old.files src t.left_old t.left_new t.held_old t.held_new t.found t.front) t.stores
