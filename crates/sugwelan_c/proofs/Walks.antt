-- What the walks of the exports cite.
pub use Rattle.std.proofs.Common.{◌≡◌, ◌∙◌, ℕ, List, [], ◌∷◌, ◌++◌, refl, sym, ap, subst, lit<, w32, w64}
pub use Rattle.std.proofs.raw_atomic.Walks.{proved, proved_at}
pub use Rattle.std.proofs.Handle.{heap_val, heap_Tells}
pub use Rattle.std.proofs.VecSteps.Shapes.{after, head, arm_body}
pub use Rattle.std_heap.specs.contracts.Global.{the_row as heap_row}
pub use base.Fraction.{full_share}
pub use base.Logic.{SProp, emp, ent, never, id⊢, fst∗}
pub use base.Fml.{Fml, Lft, Share, ftrue, flft, flent, fres, fsep, fex, feq}
pub use mir.Raw.{raw as bare}
pub use mir.Syntax.{named}
pub use mir.Val.{Val, vint, vptr, vcons, vnil}
pub use prog.Wp.{WpFn}
pub use contract.Monad.{fact, fact_i}
pub use contract.Running.{tables}
pub use types.Kit.{‵, raw, ◌⊛◌, some, later, prop, at_ret, ◌$◌, ◌∵◌, !, qed, done, move, keep, drop, use0, use1, use2}
pub use types.Kit.{use3, split, split3, join, fsplit, fsplit3, fjoin, fjoin3, fpick, fpack, feq_l, feq_i, pick, await, regoal}
pub use types.Kit.{rewrite, suffices, group, by}
pub use types.Logic.{sem}
pub use types.Match.{live, vrt, in_variant}
pub use types.Part.{agg, whole, sub}
pub use types.Run.{enter, of_opd, lit, addr, store, stop, fld, no_more, and_then, first, assigns, switches_on, exec, returns}
pub use types.ByLocal.{alloc_all, pass_all, free_all, look_at, get, get_in, get_tag, through, sets, sets_last, lands_as, env}
pub use types.SemTy.{Body}
pub use types.Tokens.{lft_new, lft_end}
pub use denote.Builtin.{i32, u32, RefOf}
pub use denote.Exit.{yes, no}
pub use denote.Laws.{Is, shows}
pub use denote.Lend.{lends_ref, ref_back}
pub use denote.Memory.{mem, lone, cell_at, part_at}
pub use denote.Plain.{uint_vals, uint_Tells, uint_Makes}
pub use denote.RattleType.{RattleType, owns}
pub use denote.RawPtr.{Ptr, RawPtr, block_ptr, null_ptr, ptr_val, lies_at, in_a_block, rawptr_vals, rawptr_Tells}
pub use denote.Ref.{Bor, MutRef, MutBor, ShrRef, mut_vals, mut_Tells, shr_vals, shr_Tells}
pub use denote.Signature.{plain}
pub use denote.Signed.{sint_Lawful}
pub use denote.Steps.{nothing, owned as owning, opens, closes, peeks, only, heard}
pub use denote.Triple.Call.{calls_at}
pub use denote.Triple.Clauses.{Lasts, lasts}
pub use denote.Triple.Entry.{on_entry}
pub use denote.Triple.Spec.{triple_of}
pub use denote.Triple.Table.{framed}
pub use denote.Triple.Walked.{says, Stays, walk_of, stay_dropped, stay_ref, gave_ref, Goes-dropped, Goes-ref, Goes-gave_ref}
pub use denote.Triple.Walked.{ends_at}
use seplogic.Ra.Ura.{Ura}
use mir.Syntax.{Body as Code}
use prog.Wp.{Env, Calls, Loops, Wp, after_seq}
use types.Kit.{Post, any_q, post}
use types.Logic.{Logic}

-- where an arm ends, the code behind the match goes on
abbrev pub then_runs : {M : Type 1} {𝓤 : Ura M} (𝓛 : Logic 𝓤) → Calls 𝓤 𝓛.H → Loops 𝓤 𝓛.H → Env 𝓤 𝓛.H → Code
    → Post 𝓤 𝓛.H → Post 𝓤 𝓛.H
then_runs {𝓤 = 𝓤} 𝓛 C Λ E b q = any_q (after_seq 𝓤 𝓛.H (Wp 𝓤 𝓛.H C Λ E b (post 𝓤 𝓛.H q)) (post 𝓤 𝓛.H q))
