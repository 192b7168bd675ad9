-- A block that was made is handed on by its address; an error is told, and the address stays.
use Rattle.sugwelan_c.proofs.Walks.{then_runs, ◌≡◌, ◌∙◌, ℕ, List, [], ◌∷◌, ◌++◌, refl, ap, lit<, w32, proved_at}
use Rattle.sugwelan_c.proofs.{BlockValues.pair_of, BlockValues.apart, Made.Made, addresses.put.Statement.statement}
use Rattle.sugwelan_c.proofs.Walks.{heap_val, heap_Tells, after, head, arm_body, heap_row, full_share, SProp, emp, ent}
use Rattle.sugwelan_c.proofs.Walks.{Lft, Share, ftrue, flft, named, Val, vint, vptr, vcons, vnil, WpFn, fact, use0}
use Rattle.sugwelan_c.proofs.Walks.{split, split3, join, fsplit, fsplit3, fjoin3, fpick, feq_l, feq_i, regoal, rewrite}
use Rattle.sugwelan_c.proofs.Walks.{suffices, group, live, vrt, in_variant, whole, sub, enter, of_opd, lit, store, stop}
use Rattle.sugwelan_c.proofs.Walks.{fld, first, assigns, switches_on, exec, returns, alloc_all, pass_all, free_all}
use Rattle.sugwelan_c.proofs.Walks.{look_at, get, get_in, get_tag, through, sets, sets_last, env, i32, yes, Is, shows}
use Rattle.sugwelan_c.proofs.Walks.{cell_at, Ptr, RawPtr, block_ptr, ptr_val, MutRef, MutBor, mut_vals, plain}
use Rattle.sugwelan_c.proofs.Walks.{sint_Lawful, nothing, owning, opens, closes, peeks, only, Stays, walk_of}
use Rattle.sugwelan_c.proofs.Walks.{stay_dropped, stay_ref, Goes-ref, ends_at}
use Rattle.sugwelan_c.proofs.Walks.{fact_i, tables, ‵, raw, ◌⊛◌, prop, at_ret, ◌$◌, ◌∵◌, !, qed, done, move, keep}
use Rattle.std.proofs.Common.{pos, Ok, Err}
use seplogic.Ra.Ura.{Ura}
use contract.Running.{Running, MachineTables}
use denote.Triple.Clauses.{Clauses}
use denote.Triple.Statement.{Contract}
use mir.Val.{of_list, of_z}
use prog.Model.{Model}
use types.Logic.{Logic}
use denote.Signed.{sint_Makes}
use Rattle.std_heap.specs.contracts.GlobalAllocator.TheImpl.{ghosts}
use Rattle.std_heap.proofs.Global.TheLaws.{the_row_laws as heap_laws}
use Rattle.wq_checked.specs.contracts.tasks.CheckedTask.{the_row as R}
use Rattle.std.proofs.alloc.Calls.{Goes-blank}
use denote.Exit.{Last, left}
use denote.Param.Mute.{blank}
use lib.Dec.{T}
use Rattle.sugwelan_c.specs.contracts.addresses.put as f
use Rattle.sugwelan_c.proofs.addresses.put.Code as code

-- nothing is owed of what was made
blank_at : (x : Made.Denot) (w : Last (Made.exit yes) x) → T (blank (left (Made.exit yes) x w))
blank_at (Ok x) w = tt
blank_at (Err e) w = tt

abbrev stayed : Stays f.ended.signature.params f.ended.kept
stayed = (stay_dropped (plain (λ _. Made)) yes, (stay_ref (0 ∷ []) tt (plain (λ _. RawPtr)), tt))

module _ {M : Type 1} {𝓤 : Ura M} (𝓛 : Logic 𝓤) (𝓜 : Model 𝓤 𝓛.H) (𝓡 : Running 𝓤 𝓛.H 𝓜) where
  abbrev c : Clauses 𝓤 f.ended
  c = f.clauses 𝓛 𝓜.mem 𝓡.returns

  abbrev W : Contract 𝓤
  W = walk_of 𝓛 f.ended stayed c

  abbrev 𝓣 : MachineTables 𝓤 𝓛.H 𝓜
  𝓣 = tables 𝓤 𝓛.H 𝓜 𝓡 𝓡.env

  module _ (κ : Lft) (q : Share) (out : MutBor Ptr) (us ws : List Val) (is_out : ws ≡ mut_vals out) where
    abbrev bound : Made.Denot → W.Ghost
    bound made = (((κ, tt), (q, tt), tt, (made, (out, tt)), (us, (ws, tt))), tt)

    abbrev Runs : Made.Denot → List Val → SProp 𝓤
    Runs made vs = WpFn 𝓤 𝓛.H 𝓣.C 𝓣.Λ code.function vs (W.post (bound made))

    abbrev b : ℕ
    b = out.ref_ptr.0

    abbrev o : ℕ
    o = out.ref_ptr.1

    arms : (made : Made.Denot) → ent 𝓤 (W.pre (bound made)) (Runs made (W.args (bound made)))
    arms (Ok x) =
        qed 𝓛 (((‵ (flft κ q) ⊛ ‵ ftrue) ⊛ ‵ (Made.own_val (Ok x) us)
        ⊛ ‵ ((MutRef (named 0) κ RawPtr).own_val out ws) ⊛ ‵ ftrue) ∷ ‵ ftrue ∷ []) ∵
        split ! $ split ! $ move ! (2 ∷ []) $ split3 ! $ keep ! (0 ∷ 1 ∷ 3 ∷ []) $
        fpick ! (λ fields. fsplit ! $ feq_l ! (λ eu. fpick ! (λ vss. fsplit ! $ feq_l ! (λ ef. fsplit ! $
        apart R heap_row heap_laws ghosts ! x vss.0 (λ p i h ep ev fits.
        move ! (1 ∷ []) $ peeks ! heap_row (Is heap_row) (shows 𝓛 heap_row) x.alloc (h ∷ []) (λ is.
        -- [the allocator; what the block keeps; nothing; out; the token]
        keep ! (1 ∷ 3 ∷ 4 ∷ []) $
        let w : Val = pair_of (vptr p i) heap_val in
        let heap : h ∷ [] ≡ heap_val ∷ [] = heap_Tells x.alloc (h ∷ []) is in
        let held : vss.0 ≡ w ∷ [] = ev ∙ ap (λ (hs : List Val). pair_of (vptr p i) (only hs) ∷ []) heap in
        let whole_is : us ≡ live 0 (vcons w vnil) ∷ [] =
        eu ∙ ap (λ (vs : List Val). live 0 (of_list vs) ∷ []) (ef ∙ ap (λ (vs : List Val). vs ++ []) held) in
        regoal ! (λ (xs : List Val). prop (Runs (Ok x) xs)) (λ j. whole_is j ++ (is_out j ++ [])) refl $
        enter ! _ _ _ _ _ $
        alloc_all ! (λ l. pass_all ! refl (
          (tt, (record { fits = lit< tt }, ((tt, (((tt, tt), tt), tt)), tt))),
          ((tt, tt), tt),
        ) $ let E = env code.Mir.locals l in
        first ! $ switches_on ! (get_tag ! (vrt ! refl (fld ! refl (stop !))) (whole !)) $
        exec ! 𝓣.C 𝓣.Λ E (arm_body 0 (head code.function.body))
        (then_runs 𝓛 𝓣.C 𝓣.Λ E (after 1 code.function.body) (at_ret E (W.post (bound (Ok x))))) $
        -- let Block { at, .. } = block
        sets ! (of_opd ! (get_in ! (vrt ! refl (fld ! refl (stop !))) (in_variant ! 0 0 refl refl (whole !)))) refl
        (tt, (tt, (((tt, tt), tt), tt))) $
        sets ! (of_opd ! (get_in ! (fld ! refl (stop !)) (sub ! 0 refl (whole !)))) refl (tt, tt) $
        sets ! (of_opd ! (get ! refl)) refl (tt, tt) $
        -- *out = at
        move ! (1 ∷ []) $ fsplit3 ! $ move ! (1 ∷ 2 ∷ 4 ∷ []) $ opens ! tt RawPtr b o (λ ps.
        move ! (1 ∷ []) $ feq_l ! (λ e.
        rewrite ! 0 (λ (xs : List Val). ‵ (cell_at full_share RawPtr.mir xs b o)) e refl $
        assigns ! (of_opd ! (get ! refl)) (through ! refl (stop !)) (store ! 0 refl (tt, tt)) $
        feq_i ! (List Val) (vptr p i ∷ []) (ptr_val (block_ptr p i) ∷ []) refl $ move ! (1 ∷ 0 ∷ []) $
        closes ! tt RawPtr (block_ptr p i) (vptr p i ∷ []) b o $
        -- [two parts of out; the token; out's first part; what the block keeps]
        sets_last ! (of_opd ! (lit ! tt)) refl (tt, record { fits = lit< tt }) $
        exec ! 𝓣.C 𝓣.Λ E (after 1 code.function.body) (at_ret E (W.post (bound (Ok x)))) $
        sets ! (of_opd ! (get ! refl)) refl (tt, record { fits = lit< tt }) $
        returns ! (look_at ! 0 refl) $ free_all ! refl $
        move ! (3 ∷ 0 ∷ 1 ∷ []) $ fjoin3 ! $
        nothing ! $ move ! (1 ∷ 0 ∷ []) $ join ! $ nothing ! $ join ! $
        owning ! i32 (Is i32) (sint_Makes 𝓛 w32) (pos 0) (vint w32 0 ∷ []) (refl, lit< tt) $
        nothing ! $ move ! (3 ∷ 0 ∷ []) $ join ! $
        use0 𝓛 (raw (fact 𝓤 (pos 0 ≡ pos 0))) (fact_i 𝓤 (pos 0 ≡ pos 0) (emp 𝓤) refl) $
        -- [the fact; the token; the result; out; what the block keeps]
        move ! (1 ∷ 3 ∷ 2 ∷ 0 ∷ []) $
        suffices ! _ (ends_at 𝓛 f.ended stayed c (bound (Ok x)) (vint w32 0) (pos 0) ((tt, tt), (block_ptr p i, tt))
        (tt, (tt, tt))) $
        group ! 3 $ done !)))))))))
    arms (Err e) =
        qed 𝓛 (((‵ (flft κ q) ⊛ ‵ ftrue) ⊛ ‵ (Made.own_val (Err e) us)
        ⊛ ‵ ((MutRef (named 0) κ RawPtr).own_val out ws) ⊛ ‵ ftrue) ∷ ‵ ftrue ∷ []) ∵
        split ! $ split ! $ move ! (2 ∷ []) $ split3 ! $ keep ! (0 ∷ 1 ∷ 3 ∷ []) $
        fpick ! (λ fields. fsplit ! $ feq_l ! (λ eu. fpick ! (λ vss. fsplit ! $ feq_l ! (λ ef. fsplit ! $
        peeks ! i32 (Is i32) (shows 𝓛 i32) e vss.0 (λ is.
        rewrite ! 0 (λ (xs : List Val). ‵ (i32.own_val e xs)) is.0 refl $ keep ! (0 ∷ 2 ∷ 3 ∷ []) $
        let v : Val = vint w32 (of_z w32 e) in
        let good = ((sint_Lawful 𝓛 w32).typed e (v ∷ []) (refl, is.1)).0 in
        let whole_is : us ≡ live 1 (vcons v vnil) ∷ [] =
        eu ∙ ap (λ (vs : List Val). live 1 (of_list vs) ∷ []) (ef ∙ ap (λ (vs : List Val). vs ++ []) is.0) in
        regoal ! (λ (xs : List Val). prop (Runs (Err e) xs)) (λ j. whole_is j ++ (is_out j ++ [])) refl $
        enter ! _ _ _ _ _ $
        alloc_all ! (λ l. pass_all ! refl ((tt, (record { fits = lit< tt }, (good.1, tt))), ((tt, tt), tt)) $
        let E = env code.Mir.locals l in
        first ! $ switches_on ! (get_tag ! (vrt ! refl (fld ! refl (stop !))) (whole !)) $
        exec ! 𝓣.C 𝓣.Λ E (arm_body 1 (head code.function.body))
        (then_runs 𝓛 𝓣.C 𝓣.Λ E (after 1 code.function.body) (at_ret E (W.post (bound (Err e))))) $
        sets ! (of_opd ! (get_in ! (vrt ! refl (fld ! refl (stop !))) (in_variant ! 1 0 refl refl (whole !)))) refl
        good $
        sets_last ! (of_opd ! (get ! refl)) refl good $
        exec ! 𝓣.C 𝓣.Λ E (after 1 code.function.body) (at_ret E (W.post (bound (Err e)))) $
        sets ! (of_opd ! (get ! refl)) refl good $
        returns ! (look_at ! 0 refl) $ free_all ! refl $
        -- [the result; out; the token]
        move ! (1 ∷ []) $ nothing ! $ move ! (1 ∷ 0 ∷ []) $ join ! $ nothing ! $ join ! $
        nothing ! $ move ! (3 ∷ 0 ∷ []) $ join ! $ feq_i ! Ptr out.now out.now refl $
        use0 𝓛 (raw (fact 𝓤 (e ≡ e))) (fact_i 𝓤 (e ≡ e) (emp 𝓤) refl) $
        -- [two facts; the token; out; the result]
        move ! (2 ∷ 3 ∷ 4 ∷ 0 ∷ []) $
        suffices ! _ (ends_at 𝓛 f.ended stayed c (bound (Err e)) v e (tt, (out.now, tt)) (tt, (tt, tt))) $
        group ! 3 $ done !))))))

pub put_spec : {M : Type 1} → statement M
put_spec 𝓤 𝓛 𝓜 𝓡 wired =
    proved_at 𝓛 f.ended stayed (c 𝓛 𝓜 𝓡) 𝓜 𝓡 (
      Goes-blank 𝓛 1 (plain (λ _. Made)) yes (λ κs x w. blank_at x w),
      (Goes-ref 𝓛 1 0 tt (plain (λ _. RawPtr)), tt),
    )
    f.Key.name code.function (code.unfolded 𝓤 𝓛.H 𝓜 𝓡 wired) (λ z are.
    arms 𝓛 𝓜 𝓡 z.0.0.0 z.0.1.0 z.0.3.1.0 z.0.4.0 z.0.4.1.0 are.1.0.0 z.0.3.0)
