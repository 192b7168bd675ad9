-- To be believed.
-- What C holds of a task: its address, and with it the right to use the task and to free its block.
use Rattle.std.specs.Prelude.{ℤ, pos, Result, Ok, Err}
use Prim.Native.Nat.{zero}
use base.Fml.{Fml, ftrue, feq, fex, fsep}
use denote.RawPtr.{Ptr}
use mir.Syntax.{Ty}
use Rattle.std_alloc.specs.Box.Ownership.{box_owns}
use Rattle.std_heap.specs.{contracts.GlobalAllocator.TheImpl.ghosts, declared.Global.Global}
use Rattle.wq_checked.specs.{Checked.Checked, contracts.tasks.CheckedTask.the_row}
use Rattle.sugwelan_c.specs.declared.blocks.Block.{Block}

-- the right to free a block of the heap, which the allocator gives out with it
abbrev pub freeing : Ty → Ptr → Fml
freeing = ghosts.dealloc_token (record { memory = record { seal = tt } })

-- Whoever has this may use the task at the address, and free its block.
abbrev pub owned : Ptr → Checked → Fml
owned p t = box_owns freeing the_row p t

-- at the address lies a task for which P holds
abbrev pub holds_block : (Checked → Type 0) → Ptr → Fml
holds_block P p = fex Checked (λ t. fsep (fex (P t) (λ _. ftrue)) (owned p t))

abbrev pub code_in : {X : Type 0} → Result X ℤ → ℤ
code_in (Ok x) = pos 0
code_in (Err e) = e

-- a block that was made lies at the new address; else the address is the old one
abbrev pub puts : Result (Block Checked Global) ℤ → Ptr → Ptr → Fml
puts (Ok b) p q = owned p b.value
puts (Err e) p q = feq Ptr p q

-- The answer 0: at the new address lies a task for which P holds. Another: it is for the reason Q, and the address is
-- the old one.
abbrev pub gives_block : (Checked → Type 0) → (ℤ → Type 0) → ℤ → Ptr → Ptr → Fml
gives_block P Q (pos zero) p q = holds_block P p
gives_block P Q r p q = fsep (fex (Q r) (λ _. ftrue)) (feq Ptr p q)

-- The answer 0: the task is no more. Another: it is as it was.
abbrev pub left : ℤ → Ptr → Checked → Fml
left (pos zero) p t = ftrue
left _ p t = owned p t
