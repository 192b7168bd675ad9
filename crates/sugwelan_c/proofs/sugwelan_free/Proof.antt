-- The task at the address is shown for a lifetime that is made for the question, and is taken where it may be freed.
use Rattle.sugwelan_c.proofs.Walks.{◌≡◌, List, [], ◌∷◌, ◌++◌, refl, sym, ap, subst, w32, proved, heap_val, heap_Tells}
use Rattle.sugwelan_c.proofs.{Made.Held, Made.held_laws, sugwelan_free.Statement.statement}
use Rattle.sugwelan_c.proofs.Walks.{after, heap_row, full_share, emp, never, id⊢, fst∗, Lft, ftrue, flft, flent, bare}
use Rattle.sugwelan_c.proofs.Walks.{join, fsplit, fjoin, feq_l, feq_i, pick, await, regoal, rewrite, suffices, group}
use Rattle.sugwelan_c.proofs.Walks.{sem, enter, of_opd, lit, addr, stop, no_more, and_then, first, exec, returns}
use Rattle.sugwelan_c.proofs.Walks.{alloc_all, pass_all, free_all, look_at, get, through, sets, lands_as, env, lft_new}
use Rattle.sugwelan_c.proofs.Walks.{lft_end, i32, yes, Is, shows, lone, part_at, Ptr, RawPtr, block_ptr, null_ptr}
use Rattle.sugwelan_c.proofs.Walks.{in_a_block, rawptr_vals, rawptr_Tells, Bor, ShrRef, plain, sint_Lawful, nothing}
use Rattle.sugwelan_c.proofs.Walks.{peeks, only, heard, calls_at, Lasts, lasts, triple_of, framed, Stays, walk_of}
use Rattle.sugwelan_c.proofs.Walks.{stay_dropped, Goes-dropped, ends_at}
use Rattle.sugwelan_c.proofs.Freed.{at_zero, not_zero, stays}
use Rattle.sugwelan_c.proofs.Walks.{named, Val, vint, vptr, WpFn, fact, fact_i, tables, ‵, raw, ◌⊛◌, some, later}
use Rattle.sugwelan_c.proofs.Walks.{prop, at_ret, ◌$◌, ◌∵◌, !, qed, done, move, keep, drop, use0, use1, use2, split}
use Rattle.std.proofs.Common.{ℤ, pos}
use lib.Dec.{T}
use base.Fml.{Incl-refl}
use mir.Val.{of_z, has_ty, WT}
use mir.Syntax.{ty_unit}
use types.Run.{bin, branches, skips}
use types.ByLocal.{lands_last}
use types.Tokens.{lent_back}
use denote.Builtin.{unit}
use denote.Lend.{lends_shr}
use denote.Triple.Call.{calls_at_last}
use Rattle.sugwelan_c.specs.Blocks.{freeing, left, owned}
use Rattle.sugwelan_c.specs.Handles.{MayFree}
use Rattle.wq_checked.specs.contracts.tasks.CheckedTask.{the_row as R}
use Rattle.wq_checked.proofs.tasks.CheckedTask.TheLaws as task
use Rattle.sugwelan_c.specs.contracts.sugwelan_free as f
use Rattle.sugwelan_c.proofs.sugwelan_free.Code as code
use Rattle.sugwelan_c.specs.contracts.handles.code_to_free as g
use Rattle.sugwelan_c.proofs.handles.code_to_free.Met as ask
use Rattle.sugwelan_c.specs.contracts.addresses.take as h
use Rattle.sugwelan_c.proofs.addresses.take.Met as take
use Rattle.sugwelan_c.specs.contracts.handles.discard as k
use Rattle.sugwelan_c.proofs.handles.discard.Met as discard

abbrev stayed : Stays f.ended.signature.params f.ended.kept
stayed = (stay_dropped _ yes, (stay_dropped _ yes, tt))

pub sugwelan_free_spec : {M : Type 1} → statement M
sugwelan_free_spec 𝓤 𝓛 𝓜 𝓡 wired =
    let c = f.clauses 𝓛 𝓜.mem 𝓡.returns in let W = walk_of 𝓛 f.ended stayed c in
    let 𝓣 = tables 𝓤 𝓛.H 𝓜 𝓡 𝓡.env in let G = triple_of 𝓛 g.signature (g.spec 𝓛 𝓜.mem 𝓡.returns) in
    let H = triple_of 𝓛 h.signature (h.spec 𝓛 𝓜.mem 𝓡.returns) in
    let K = triple_of 𝓛 k.signature (k.spec 𝓛 𝓜.mem 𝓡.returns) in
    proved 𝓛 f.ended stayed c 𝓜 𝓡 (
      Goes-dropped 𝓛 0 (plain (λ _. heap_row)) yes (λ κs x w. refl),
      (Goes-dropped 𝓛 0 (plain (λ _. RawPtr)) yes (λ κs x w. refl), tt),
    )
    f.Key.name code.function (code.unfolded 𝓤 𝓛.H 𝓜 𝓡 wired)
    (λ κs. ((λ _. heap_val ∷ []), (rawptr_vals, tt))) (λ κs. (heap_Tells, (rawptr_Tells, tt))) (λ κs qs bounds a n are.
    let y : Ptr → W.Ghost = λ p. ((κs, qs, bounds, (a.0, (p, tt)), (heap_val ∷ [], (rawptr_vals p, tt))), n) in
    qed 𝓛 ((‵ ftrue ⊛ ‵ (heap_row.own_val a.0 (heap_val ∷ [])) ⊛ ‵ (RawPtr.own_val a.1.0 (rawptr_vals a.1.0)) ⊛ ‵ ftrue)
    ∷ ‵ (owned a.1.0 n) ∷ []) ∵
    split ! $ drop ! $ split ! $ keep ! (2 ∷ 0 ∷ []) $
    in_a_block ! a.1.0 (λ p. owned p n) (fst∗ 𝓤 (never 𝓤) (sem 𝓛 (freeing (bare (lone R.mir)) null_ptr))) (λ b o e.
    regoal ! (λ p. prop (WpFn 𝓤 𝓛.H 𝓣.C 𝓣.Λ code.function (heap_val ∷ (rawptr_vals p ++ [])) (W.post (y p)))) e refl $
    fsplit ! $ enter ! _ _ _ _ _ $ alloc_all ! (λ l. pass_all ! refl ((tt, ((tt, tt), tt)), ((tt, tt), tt)) $
    let E = env code.Mir.locals l in
    -- &*(task as *const CheckedTask)
    sets ! (of_opd ! (get ! refl)) refl (tt, tt) $
    sets ! (addr ! (through ! refl (stop !))) refl (tt, tt) $
    lft_new ! tt (λ α. let κ : Lft = α ∷ [] in move ! (1 ∷ 0 ∷ []) $
    use2 𝓛 (later ((‵ ((ShrRef (named 0) κ R).own_val (record { ref_ptr = (b, o); now = n }) (vptr b o ∷ []))
    ⊛ ‵ (flent κ (part_at R full_share n b o))) ⊛ ‵ (flft κ full_share)))
    (lends_shr 𝓛 R (named 0) κ full_share n b o R.lives (task.the_row_laws.shares 𝓛 n) ((κ, full_share) ∷ [])
    (task.the_within κ) (Incl-refl κ)) $ await ! tt $ split ! $ split ! $
    -- [the view; what comes back; α; the right to free; the allocator]
    let seen : Bor R.Denot = record { ref_ptr = (b, o); now = n } in
    let z : G.Ghost = (((κ, tt), (full_share, tt), tt, (seen, tt), (vptr b o ∷ [], tt)), tt) in
    nothing ! $ move ! (1 ∷ 0 ∷ []) $ join ! $ nothing ! $ move ! (3 ∷ 0 ∷ []) $ join ! $ join ! $
    nothing ! $ move ! (1 ∷ 0 ∷ []) $ use2 𝓛 (raw (G.pre z)) (id⊢ 𝓤 _) $
    calls_at ! (framed 𝓤 𝓛.H 𝓜 𝓣) G (ask.met 𝓤 𝓛 𝓜 𝓡 (code.calls-sugwelan_c::handles::code_to_free 𝓡.env wired)) z
    (and_then ! (get ! refl) (no_more !)) (λ v.
    use1 𝓛 (later (some (λ (s : ℤ). ((‵ (flft κ full_share) ⊛ ‵ ftrue) ⊛ ‵ (i32.own_val s (v ∷ []))) ⊛
    some (λ (ws : Lasts g.ended z.0.0 z.0.3). ‵ (lasts g.ended z.0.0 z.0.3 ws) ⊛
    raw (fact 𝓤 (MayFree n s)))))) (id⊢ 𝓤 _) $
    await ! tt $ pick ! (λ s. split ! $ split ! $ split ! $ lft_end ! tt $
    move ! (3 ∷ []) $ pick ! (λ _. split ! $ drop ! $ heard ! (MayFree n s) (λ code_is.
    -- [α is over; nothing; the code; what comes back; the right to free; the allocator]
    move ! (0 ∷ 3 ∷ []) $ lent_back ! tt $ move ! (2 ∷ []) $
    peeks ! i32 (Is i32) (shows 𝓛 i32) s (v ∷ []) (λ is.
    rewrite ! 0 (λ (xs : List Val). ‵ (i32.own_val s xs)) is.0 refl $
    let w : Val = vint w32 (of_z w32 s) in let good = ((sint_Lawful 𝓛 w32).typed s (w ∷ []) (refl, is.1)).0 in
    lands_as ! (ap only is.0) refl good $
    sets ! (bin ! (get ! refl) (lit ! tt) tt) refl (tt, tt) $
    -- [the code; the task; nothing; the right to free; the allocator]
    first ! $ branches ! (get ! refl)
    (λ zero. let none : s ≡ pos 0 = at_zero s is.1 zero in
    -- take(alloc, task)
    let x : H.Ghost = ((tt, tt, tt, (a.0, (block_ptr b o, tt)), (heap_val ∷ [], (vptr b o ∷ [], tt))), n) in
    nothing ! $ feq_i ! (List Val) (vptr b o ∷ []) (vptr b o ∷ []) refl $ join ! $ move ! (5 ∷ 0 ∷ []) $ join ! $
    nothing ! $ join ! $ move ! (2 ∷ 4 ∷ []) $ fjoin ! $ move ! (1 ∷ 0 ∷ []) $ use2 𝓛 (raw (H.pre x)) (id⊢ 𝓤 _) $
    calls_at ! (framed 𝓤 𝓛.H 𝓜 𝓣) H (take.met 𝓤 𝓛 𝓜 𝓡 (code.calls-sugwelan_c::addresses::take 𝓡.env wired)) x
    (and_then ! (get ! refl) (and_then ! (get ! refl) (no_more !))) (λ u.
    use1 𝓛 (later (some (λ (m : Held.Denot). (‵ ftrue ⊛ ‵ (Held.own_val m (u ∷ []))) ⊛
    some (λ (us : Lasts h.ended x.0.0 x.0.3). ‵ (lasts h.ended x.0.0 x.0.3 us) ⊛ raw (fact 𝓤 (m.value ≡ n)))))) (id⊢ 𝓤 _) $
    await ! tt $ pick ! (λ m. split ! $ split ! $ drop ! $ move ! (1 ∷ []) $ drop ! $
    peeks ! Held (Is Held) (shows 𝓛 Held) m (u ∷ []) (λ is'.
    lands_as ! refl refl ((held_laws.lawful 𝓛).typed m (u ∷ []) is').0 $
    -- discard(..)
    let j : K.Ghost = ((tt, tt, tt, (m, tt), (u ∷ [], tt)), tt) in
    nothing ! $ move ! (1 ∷ 0 ∷ []) $ join ! $ nothing ! $ join ! $ nothing ! $ move ! (1 ∷ 0 ∷ []) $
    use2 𝓛 (raw (K.pre j)) (id⊢ 𝓤 _) $
    calls_at_last ! (framed 𝓤 𝓛.H 𝓜 𝓣) K (discard.met 𝓤 𝓛 𝓜 𝓡 (code.calls-sugwelan_c::handles::discard 𝓡.env wired)) j
    (and_then ! (get ! refl) (no_more !)) (λ t.
    use1 𝓛 (later (some (λ (r : Unit {0}). (‵ ftrue ⊛ ‵ (unit.own_val r (t ∷ []))) ⊛
    some (λ (us : Lasts k.ended j.0.0 j.0.3). ‵ (lasts k.ended j.0.0 j.0.3 us) ⊛ ‵ ftrue)))) (id⊢ 𝓤 _) $
    await ! tt $ pick ! (λ r. split ! $ split ! $ drop ! $ feq_l ! (λ is_unit.
    lands_last ! refl (subst (λ (x : Val). T (has_ty ty_unit x) × WT x) (sym (ap only is_unit)) (tt, tt)) $
    exec ! 𝓣.C 𝓣.Λ E (after 5 code.function.body) (at_ret E (W.post (y (block_ptr b o)))) $
    sets ! (of_opd ! (get ! refl)) refl good $ returns ! (look_at ! 0 refl) $ free_all ! refl $
    -- [nothing; the code]
    nothing ! $ rewrite ! 0 (λ (r : ℤ). ‵ (left r (block_ptr b o) n)) (sym none) refl $ keep ! (2 ∷ 0 ∷ []) $
    suffices ! _ (ends_at 𝓛 f.ended stayed c (y (block_ptr b o)) w s (tt, (tt, tt)) (tt, (tt, tt))) $
    use0 𝓛 (raw (fact 𝓤 (MayFree n s))) (fact_i 𝓤 (MayFree n s) (emp 𝓤) code_is) $ move ! (1 ∷ []) $
    nothing ! $ nothing ! $ join ! $ nothing ! $ join ! $ nothing ! $ group ! 3 $ done !)))))))
    (λ other. skips ! $ exec ! 𝓣.C 𝓣.Λ E (after 5 code.function.body) (at_ret E (W.post (y (block_ptr b o)))) $
    sets ! (of_opd ! (get ! refl)) refl good $ returns ! (look_at ! 0 refl) $ free_all ! refl $
    move ! (1 ∷ 3 ∷ []) $ fjoin ! $
    use1 𝓛 (‵ (left s (block_ptr b o) n)) (stays 𝓛 s (block_ptr b o) n (not_zero s other)) $ keep ! (1 ∷ 0 ∷ []) $
    suffices ! _ (ends_at 𝓛 f.ended stayed c (y (block_ptr b o)) w s (tt, (tt, tt)) (tt, (tt, tt))) $
    use0 𝓛 (raw (fact 𝓤 (MayFree n s))) (fact_i 𝓤 (MayFree n s) (emp 𝓤) code_is) $ move ! (1 ∷ []) $
    nothing ! $ nothing ! $ join ! $ nothing ! $ join ! $ nothing ! $ group ! 3 $ done !))))))))))
