-- The address is the block's, and what C held of it is what the block keeps.
use Rattle.sugwelan_c.proofs.Walks.{[], ◌∷◌, refl, proved, heap_val, heap_Tells, heap_row, never, fst∗, ftrue, bare}
use Rattle.sugwelan_c.proofs.Walks.{vptr, WpFn, tables, ‵, ◌⊛◌, prop, ◌$◌, ◌∵◌, !, qed, done, move, keep, drop, split}
use Rattle.sugwelan_c.proofs.{BlockValues.pair_of, BlockValues.together, addresses.take.Statement.statement}
use Rattle.sugwelan_c.proofs.Walks.{join, regoal, suffices, sem, agg, enter, of_opd, no_more, and_then, returns}
use Rattle.sugwelan_c.proofs.Walks.{alloc_all, pass_all, free_all, look_at, get, sets, yes, lone, Ptr, RawPtr}
use Rattle.sugwelan_c.proofs.Walks.{block_ptr, null_ptr, in_a_block, rawptr_vals, rawptr_Tells, plain, nothing, says}
use Rattle.sugwelan_c.proofs.Walks.{Stays, walk_of, stay_dropped, Goes-dropped, ends_at}
use Rattle.std_heap.specs.contracts.GlobalAllocator.TheImpl.{ghosts}
use Rattle.std_heap.proofs.Global.TheLaws.{the_row_laws as heap_laws}
use Rattle.sugwelan_c.specs.Blocks.{freeing, owned}
use Rattle.wq_checked.specs.contracts.tasks.CheckedTask.{the_row as R}
use Rattle.sugwelan_c.specs.contracts.addresses.take as f
use Rattle.sugwelan_c.proofs.addresses.take.Code as code

abbrev stayed : Stays f.ended.signature.params f.ended.kept
stayed = (stay_dropped _ yes, (stay_dropped _ yes, tt))

pub take_spec : {M : Type 1} → statement M
take_spec 𝓤 𝓛 𝓜 𝓡 wired =
    let c = f.clauses 𝓛 𝓜.mem 𝓡.returns in let W = walk_of 𝓛 f.ended stayed c in
    let 𝓣 = tables 𝓤 𝓛.H 𝓜 𝓡 𝓡.env in
    proved 𝓛 f.ended stayed c 𝓜 𝓡 (
      Goes-dropped 𝓛 0 (plain (λ _. heap_row)) yes (λ κs x w. refl),
      (Goes-dropped 𝓛 0 (plain (λ _. RawPtr)) yes (λ κs x w. refl), tt),
    )
    f.Key.name code.function (code.unfolded 𝓤 𝓛.H 𝓜 𝓡 wired)
    (λ κs. ((λ _. heap_val ∷ []), (rawptr_vals, tt))) (λ κs. (heap_Tells, (rawptr_Tells, tt))) (λ κs qs bounds a n are.
    let y : Ptr → W.Ghost = λ p. ((κs, qs, bounds, (a.0, (p, tt)), (heap_val ∷ [], (rawptr_vals p, tt))), n) in
    qed 𝓛 ((‵ ftrue ⊛ ‵ (heap_row.own_val a.0 (heap_val ∷ [])) ⊛ ‵ (RawPtr.own_val a.1.0 (rawptr_vals a.1.0)) ⊛ ‵ ftrue)
    ∷ ‵ (owned a.1.0 n) ∷ []) ∵
    split ! $ drop ! $ split ! $ move ! (2 ∷ 0 ∷ []) $
    in_a_block ! a.1.0 (λ p. owned p n) (fst∗ 𝓤 (never 𝓤) (sem 𝓛 (freeing (bare (lone R.mir)) null_ptr))) (λ b o e.
    regoal ! (λ p. prop (WpFn 𝓤 𝓛.H 𝓣.C 𝓣.Λ code.function (heap_val ∷ rawptr_vals p) (W.post (y p)))) e refl $
    enter ! _ _ _ _ _ $ alloc_all ! (λ l. pass_all ! refl ((tt, ((tt, tt), tt)), ((tt, tt), tt)) $
    -- [what is at the address; the allocator; the pointer's nothing; the locals]
    sets ! (of_opd ! (get ! refl)) refl (tt, tt) $
    sets ! (agg ! (and_then ! (get ! refl) (and_then ! (get ! refl) (no_more !)))) refl (tt, (tt, (((tt, tt), tt), tt))) $
    returns ! (look_at ! 0 refl) $ free_all ! refl $ together R heap_row heap_laws ghosts ! b o heap_val a.0 n $
    keep ! (0 ∷ []) $
    suffices ! _ (ends_at 𝓛 f.ended stayed c (y (block_ptr b o)) (pair_of (vptr b o) heap_val)
    (record { at = block_ptr b o; alloc = a.0; value = n }) (tt, (tt, tt)) (tt, (tt, tt))) $ says ! refl $
    nothing ! $ nothing ! $ join ! $ nothing ! $ join ! $ nothing ! $ done !)))
