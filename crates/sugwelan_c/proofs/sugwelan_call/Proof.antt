-- The task at the address is lent for a lifetime that is made for the call, and comes back when it has ended.
use Rattle.sugwelan_c.proofs.Walks.{ℕ, List, [], ◌∷◌, ◌++◌, refl, w32, proved, full_share, never, id⊢, fst∗, ftrue}
use Rattle.sugwelan_c.proofs.Walks.{flft, flent, fsep, fex, bare, named, Val, vptr, WpFn, fact, tables, ‵, raw, ◌⊛◌}
use Rattle.sugwelan_c.proofs.Walks.{some, later, prop, ◌$◌, ◌∵◌, !, qed, done, move, keep, use1, use2, use3, split}
use Rattle.sugwelan_c.proofs.{sugwelan_call.Statement.statement, serving.serve.Met.met}
use Rattle.sugwelan_c.proofs.Walks.{split3, join, fsplit, fjoin, fpack, pick, await, regoal, suffices, group, sem}
use Rattle.sugwelan_c.proofs.Walks.{enter, of_opd, addr, stop, no_more, and_then, returns, alloc_all, pass_all}
use Rattle.sugwelan_c.proofs.Walks.{free_all, look_at, get, through, sets, lands_as, Body, lft_new, lft_end, i32, RefOf}
use Rattle.sugwelan_c.proofs.Walks.{yes, Is, shows, lends_ref, ref_back, mem, lone, Ptr, RawPtr, block_ptr, null_ptr}
use Rattle.sugwelan_c.proofs.Walks.{lies_at, in_a_block, rawptr_vals, rawptr_Tells, MutRef, MutBor, ShrRef, mut_vals}
use Rattle.sugwelan_c.proofs.Walks.{mut_Tells, shr_vals, shr_Tells, plain, sint_Lawful, nothing, peeks, heard, calls_at}
use Rattle.sugwelan_c.proofs.Walks.{Lasts, lasts, triple_of, framed, Stays, walk_of, stay_dropped, gave_ref}
use Rattle.sugwelan_c.proofs.Walks.{Goes-dropped, Goes-gave_ref, ends_at}
use Rattle.std.proofs.Common.{ℤ}
use Rattle.sugwelan_c.specs.{Blocks.freeing, Blocks.owned, Served.Serves, contracts.calls.Call.the_row as CallRow}
use Rattle.sugwelan_c.specs.contracts.replies.Told.{the_row as ToldRow}
use Rattle.wq_checked.specs.contracts.tasks.CheckedTask.{the_row as R}
use Rattle.sugwelan_c.specs.contracts.sugwelan_call as f
use Rattle.sugwelan_c.proofs.sugwelan_call.Code as code
use Rattle.sugwelan_c.specs.contracts.serving.serve as g

abbrev stayed : Stays f.ended.signature.params f.ended.kept
stayed = (stay_dropped _ yes, (stay_dropped _ yes, (gave_ref (1 ∷ []) tt (plain (λ _. ToldRow)), tt)))

pub sugwelan_call_spec : {M : Type 1} → statement M
sugwelan_call_spec 𝓤 𝓛 𝓜 𝓡 wired =
    let c = f.clauses 𝓛 𝓜.mem 𝓡.returns in let W = walk_of 𝓛 f.ended stayed c in
    let 𝓣 = tables 𝓤 𝓛.H 𝓜 𝓡 𝓡.env in let G = triple_of 𝓛 g.signature (g.spec 𝓛 𝓜.mem 𝓡.returns) in
    proved 𝓛 f.ended stayed c 𝓜 𝓡 (
      Goes-dropped 𝓛 2 (plain (λ _. RawPtr)) yes (λ κs x w. refl),
      (
        Goes-dropped 𝓛 2 (RefOf (0 ∷ []) tt (plain (λ _. CallRow)) (λ _. tt)) yes (λ κs x w. refl),
        (Goes-gave_ref 𝓛 2 1 tt (plain (λ _. ToldRow)), tt),
      ),
    )
    f.Key.name code.function (code.unfolded 𝓤 𝓛.H 𝓜 𝓡 wired) (λ κs. (rawptr_vals, (shr_vals, (mut_vals, tt))))
    (λ κs. (rawptr_Tells, (shr_Tells (named 0) κs.0 CallRow, (mut_Tells (named 1) κs.1.0 ToldRow, tt))))
    (λ κs qs bounds a n are.
    let κ = κs.0 in let q = qs.0 in let μ = κs.1.0 in let r = qs.1.0 in
    let asked = a.1.0 in let told = a.1.1.0 in
    let refs : List Val × (List Val × Unit {0}) = (shr_vals asked, (mut_vals told, tt)) in
    let y : Ptr → W.Ghost = λ p. ((κs, qs, bounds, (p, a.1), (rawptr_vals p, refs)), n) in
    qed 𝓛 (((‵ (flft κ q) ⊛ ‵ (flft μ r) ⊛ ‵ ftrue) ⊛ ‵ (RawPtr.own_val a.0 (rawptr_vals a.0))
    ⊛ ‵ ((ShrRef (named 0) κ CallRow).own_val asked refs.0)
    ⊛ ‵ ((MutRef (named 1) μ ToldRow).own_val told refs.1.0) ⊛ ‵ ftrue) ∷ ‵ (owned a.0 n) ∷ []) ∵
    split ! $ split3 ! $ move ! (3 ∷ []) $ split3 ! $ move ! (2 ∷ []) $ split ! $ keep ! (7 ∷ 0 ∷ 3 ∷ 4 ∷ 5 ∷ []) $
    -- [what is held; told; call; two tokens]
    in_a_block ! a.0 (λ p. owned p n) (fst∗ 𝓤 (never 𝓤) (sem 𝓛 (freeing (bare (lone R.mir)) null_ptr))) (λ b o e.
    regoal ! (λ p. prop (WpFn 𝓤 𝓛.H 𝓣.C 𝓣.Λ code.function (rawptr_vals p ++ (refs.0 ++ (refs.1.0 ++ [])))
    (W.post (y p)))) e refl $
    fsplit ! $ enter ! _ _ _ _ _ $ alloc_all ! (λ l. pass_all ! refl ((tt, tt), ((tt, tt), ((tt, tt), tt))) $
    -- &mut *(task as *mut CheckedTask), told
    sets ! (of_opd ! (get ! refl)) refl (tt, tt) $
    sets ! (addr ! (through ! refl (stop !))) refl (tt, tt) $
    sets ! (addr ! (through ! refl (stop !))) refl (tt, tt) $
    lft_new ! tt (λ α. move ! (1 ∷ []) $
    use1 𝓛 (later (some (λ (δ : ℕ). ‵ ((MutRef (named 0) (α ∷ []) R).own_val
    (record { ref_ptr = (b, o); ghost_name = δ; now = n }) (vptr b o ∷ []))
    ⊛ ‵ (flent (α ∷ []) (Body (mem R) b o δ)))))
    (lends_ref 𝓛 R (named 0) (α ∷ []) n b o) $ await ! tt $ pick ! (λ δ. split ! $
    -- [the loan; what comes back; α; the right to free; told; call; two tokens]
    let lent : MutBor R.Denot = record { ref_ptr = (b, o); ghost_name = δ; now = n } in
    let z : G.Ghost = (
      ((α ∷ [], κs), (full_share, qs), tt, (lent, a.1), (vptr b o ∷ [], refs)),
      tt,
    ) in
    nothing ! $ move ! (5 ∷ 0 ∷ []) $ join ! $ move ! (5 ∷ 0 ∷ []) $ join ! $ move ! (1 ∷ 0 ∷ []) $ join ! $
    nothing ! $ move ! (6 ∷ 0 ∷ []) $ join ! $ move ! (5 ∷ 0 ∷ []) $ join ! $ move ! (3 ∷ 0 ∷ []) $ join ! $ join ! $
    nothing ! $ move ! (1 ∷ 0 ∷ []) $ use2 𝓛 (raw (G.pre z)) (id⊢ 𝓤 _) $
    calls_at ! (framed 𝓤 𝓛.H 𝓜 𝓣) G (met 𝓤 𝓛 𝓜 𝓡 (code.calls-sugwelan_c::serving::serve 𝓡.env wired)) z
    (and_then ! (get ! refl) (and_then ! (get ! refl) (and_then ! (get ! refl) (no_more !)))) (λ v.
    use1 𝓛 (later (some (λ (s : ℤ). ((‵ (flft (α ∷ []) full_share) ⊛ ‵ (flft κ q) ⊛ ‵ (flft μ r) ⊛ ‵ ftrue)
    ⊛ ‵ (i32.own_val s (v ∷ []))) ⊛ some (λ (ws : Lasts g.ended z.0.0 z.0.3). ‵ (lasts g.ended z.0.0 z.0.3 ws) ⊛
    raw (fact 𝓤 (Serves n ws.0 asked.now ws.1.1.0 s)))))) (id⊢ 𝓤 _) $
    await ! tt $ pick ! (λ s. split ! $ split ! $ split ! $ lft_end ! tt $
    -- [α is over; two tokens; the result; the last values; what comes back; the right to free]
    move ! (3 ∷ []) $ pick ! (λ ws. split ! $ move ! (1 ∷ []) $ heard ! (Serves n ws.0 asked.now ws.1.1.0 s) (λ went.
    fsplit ! $ fsplit ! $
    -- [the last value; its borrow; the others' last values; α is over; two tokens; the result; what comes back; ..]
    move ! (3 ∷ 6 ∷ 0 ∷ []) $
    use3 𝓛 (later (‵ (lies_at R full_share (block_ptr b o) ws.0))) (ref_back 𝓛 R (α ∷ []) δ ws.0 b o) $ await ! tt $
    move ! (0 ∷ 5 ∷ []) $ fjoin ! $
    -- [what is held; its borrow; the others' last values; two tokens; the result]
    nothing ! $ fpack ! (Serves n ws.0 asked.now ws.1.1.0 s) (λ _. ftrue) went $ fjoin ! $
    fpack ! R.Denot (λ x. fsep (fex (Serves n x asked.now ws.1.1.0 s) (λ _. ftrue)) (owned (block_ptr b o) x)) ws.0 $
    move ! (2 ∷ []) $ fsplit ! $ move ! (1 ∷ []) $ fsplit ! $
    -- [told's last value; nothing; call's; what is held; its borrow; two tokens; the result]
    nothing ! $ move ! (1 ∷ 0 ∷ []) $ join ! $ nothing ! $ join ! $ nothing ! $ join ! $
    -- [what is left; nothing; call's; what is held; its borrow; two tokens; the result]
    move ! (6 ∷ []) $ peeks ! i32 (Is i32) (shows 𝓛 i32) s (v ∷ []) (λ is.
    lands_as ! refl refl ((sint_Lawful 𝓛 w32).typed s _ is).0 $
    returns ! (look_at ! 0 refl) $ free_all ! refl $ keep ! (6 ∷ 1 ∷ 0 ∷ 4 ∷ []) $
    suffices ! _ (ends_at 𝓛 f.ended stayed c (y (block_ptr b o)) v s (tt, (tt, (ws.1.1.0, tt))) (tt, (tt, (tt, tt)))) $
    group ! 3 $ done !))))))))))
