-- A task that was made, or why it was not: its row, and what an export gives of it.
use Rattle.std.proofs.Common.{◌≡◌, ℕ, ℤ, pos, negsuc, Ok, Err, [], ◌∷◌, refl, sym, subst}
use Rattle.std.specs.Prelude.{MatchResult}
use seplogic.Ra.Ura.{Ura}
use base.Fml.{fex, fsep, ftrue}
use base.Logic.{SProp, ent}
use types.Logic.{Logic, sem}
use types.Kit.{‵, ◌$◌, ◌∵◌, !, qed, done, fjoin, fpack}
use denote.Builtin.{i32}
use denote.Param.Laws.{Laws, of_field}
use denote.Param.Shared.{copy_shared}
use denote.RattleType.{RattleType}
use denote.RawPtr.{Ptr}
use denote.Steps.{nothing}
use denote.Struct.Field.{i32-field}
use denote.Struct.Laws.{i32-laws, i32-copy}
use Rattle.std.specs.contracts.result.Result as RS
use Rattle.std.proofs.result.Result.TheLaws.{the_row_laws as result_laws}
use Rattle.std_heap.specs.{contracts.Global.the_row as heap_row, contracts.GlobalAllocator.TheImpl.ghosts}
use Rattle.std_heap.proofs.Global.TheLaws.{the_row_laws as heap_laws}
use Rattle.sugwelan_c.specs.Blocks.{code_in, gives_block, owned, puts}
use Rattle.wq_checked.specs.{Checked.Checked, contracts.tasks.CheckedTask.the_row as R}
use Rattle.wq_checked.proofs.tasks.CheckedTask.TheLaws.{the_row_laws as handle_laws}
use Rattle.sugwelan_c.proofs.{blocks.Block.TheLaws.the_row_laws as block_laws, BlockValues.Row}

abbrev pub Held : RattleType
Held = Row R heap_row heap_laws ghosts

abbrev pub Made : RattleType
Made = RS.the_row Held i32

abbrev pub held_laws : Laws Held
held_laws = block_laws R heap_row ghosts handle_laws heap_laws

abbrev pub made_laws : Laws Made
made_laws = result_laws Held i32 held_laws (of_field i32-field i32-laws refl (copy_shared i32-field i32-copy))

abbrev pub IsErrno : ℤ → Type 0
IsErrno (pos n) = ⊥
IsErrno (negsuc n) = Unit {0}

pub errno_at : (n : ℕ) (e : ℤ) → e ≡ negsuc n → IsErrno e
errno_at n e is = subst IsErrno (sym is) tt

module _ {M : Type 1} {𝓤 : Ura M} (𝓛 : Logic 𝓤) (P : Checked → Type 0) (Q : ℤ → Type 0) (p q : Ptr) where
  abbrev Gives : ℤ → SProp 𝓤
  Gives r = sem 𝓛 (gives_block P Q r p q)

  -- what `put` hands on is what the export gives
  pub given : ((e : ℤ) → Q e → IsErrno e) → (m : Made.Denot) (r : ℤ) → MatchResult m (λ b. P b.value) Q
      → r ≡ code_in m → ent 𝓤 (sem 𝓛 (puts m p q)) (Gives r)
  given low (Ok b) r so code = subst (λ (s : ℤ). ent 𝓤 (sem 𝓛 (owned p b.value)) (Gives s)) (sym code)
      (qed 𝓛 (‵ (owned p b.value) ∷ []) ∵ nothing ! $ fpack ! (P b.value) (λ _. ftrue) so $ fjoin ! $
      fpack ! Checked (λ h. fsep (fex (P h) (λ _. ftrue)) (owned p h)) b.value $ done !)
  given low (Err (pos n)) r why code = absurd (low (pos n) why)
  given low (Err (negsuc n)) r why code =
      subst (λ (s : ℤ). ent 𝓤 (sem 𝓛 (puts (Err (negsuc n)) p q)) (Gives s)) (sym code)
      (qed 𝓛 (‵ (puts (Err (negsuc n)) p q) ∷ []) ∵ nothing ! $ fpack ! (Q (negsuc n)) (λ _. ftrue) why $ fjoin ! $
      done !)
