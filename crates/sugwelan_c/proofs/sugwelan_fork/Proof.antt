-- The task at the address is lent for the fork, and what was made is put at the new address.
use Rattle.sugwelan_c.proofs.Walks.{◌≡◌, ℕ, List, [], ◌∷◌, ◌++◌, refl, w32, proved, heap_val, heap_Tells, heap_row}
use Rattle.sugwelan_c.proofs.{Refused.fork_errno, sugwelan_fork.Statement.statement}
use Rattle.sugwelan_c.proofs.Walks.{full_share, never, id⊢, fst∗, ftrue, flft, flent, fsep, bare, named, Val, vptr}
use Rattle.sugwelan_c.proofs.Walks.{keep, drop, use1, use2, use3, split, split3, join, fsplit, fjoin, fpack, pick}
use Rattle.sugwelan_c.proofs.Walks.{await, regoal, suffices, group, sem, enter, of_opd, addr, stop, no_more, and_then}
use Rattle.sugwelan_c.proofs.Walks.{returns, alloc_all, pass_all, free_all, look_at, get, through, sets, lands_as, Body}
use Rattle.sugwelan_c.proofs.Walks.{lft_new, lft_end, i32, u32, yes, Is, shows, lends_ref, ref_back, mem, lone}
use Rattle.sugwelan_c.proofs.Walks.{uint_vals, uint_Tells, Ptr, RawPtr, block_ptr, null_ptr, lies_at, in_a_block}
use Rattle.sugwelan_c.proofs.Walks.{rawptr_vals, rawptr_Tells, MutRef, MutBor, mut_vals, mut_Tells, plain, sint_Lawful}
use Rattle.sugwelan_c.proofs.Walks.{nothing, peeks, heard, calls_at, Lasts, lasts, triple_of, framed, Stays, walk_of}
use Rattle.sugwelan_c.proofs.Walks.{stay_dropped, gave_ref, Goes-dropped, Goes-gave_ref, ends_at}
use Rattle.sugwelan_c.proofs.Made.{Made, made_laws, given}
use Rattle.sugwelan_c.proofs.Walks.{WpFn, fact, tables, ‵, raw, ◌⊛◌, some, later, prop, ◌$◌, ◌∵◌, !, qed, done, move}
use Rattle.std.proofs.Common.{ℤ}
use Rattle.std.specs.Prelude.{MatchResult}
use Rattle.sugwelan_c.specs.Blocks.{freeing, code_in, gives_block, owned, puts}
use Rattle.sugwelan_c.specs.Handles.{IsFork, HasNoFork}
use Rattle.wq_checked.specs.contracts.tasks.CheckedTask.{the_row as R}
use Rattle.sugwelan_c.specs.contracts.sugwelan_fork as f
use Rattle.sugwelan_c.proofs.sugwelan_fork.Code as code
use Rattle.sugwelan_c.specs.contracts.handles.fork as g
use Rattle.sugwelan_c.proofs.handles.fork.Met as fork
use Rattle.sugwelan_c.specs.contracts.addresses.put as h
use Rattle.sugwelan_c.proofs.addresses.put.Met as put

abbrev stayed : Stays f.ended.signature.params f.ended.kept
stayed = (stay_dropped _ yes, (stay_dropped _ yes, (stay_dropped _ yes, (gave_ref (0 ∷ []) tt (plain (λ _. RawPtr)), tt))))

pub sugwelan_fork_spec : {M : Type 1} → statement M
sugwelan_fork_spec 𝓤 𝓛 𝓜 𝓡 wired =
    let c = f.clauses 𝓛 𝓜.mem 𝓡.returns in let W = walk_of 𝓛 f.ended stayed c in
    let 𝓣 = tables 𝓤 𝓛.H 𝓜 𝓡 𝓡.env in let G = triple_of 𝓛 g.signature (g.spec 𝓛 𝓜.mem 𝓡.returns) in
    let H = triple_of 𝓛 h.signature (h.spec 𝓛 𝓜.mem 𝓡.returns) in
    proved 𝓛 f.ended stayed c 𝓜 𝓡 (
      Goes-dropped 𝓛 1 (plain (λ _. heap_row)) yes (λ κs x w. refl),
      (
        Goes-dropped 𝓛 1 (plain (λ _. RawPtr)) yes (λ κs x w. refl),
        (
          Goes-dropped 𝓛 1 (plain (λ _. u32)) yes (λ κs x w. refl),
          (Goes-gave_ref 𝓛 1 0 tt (plain (λ _. RawPtr)), tt),
        ),
      ),
    )
    f.Key.name code.function (code.unfolded 𝓤 𝓛.H 𝓜 𝓡 wired)
    (λ κs. ((λ _. heap_val ∷ []), (rawptr_vals, (uint_vals w32, (mut_vals, tt)))))
    (λ κs. (heap_Tells, (rawptr_Tells, (uint_Tells w32, (mut_Tells (named 0) κs.0 RawPtr, tt)))))
    (λ κs qs bounds a n are.
    let κ = κs.0 in let q = qs.0 in let share = a.1.1.0 in let out = a.1.1.1.0 in
    let nums : List Val × (List Val × Unit {0}) = (uint_vals w32 share, (mut_vals out, tt)) in
    let y : Ptr → W.Ghost = λ p. ((κs, qs, bounds, (a.0, (p, a.1.1)), (heap_val ∷ [], (rawptr_vals p, nums))), n) in
    qed 𝓛 (((‵ (flft κ q) ⊛ ‵ ftrue) ⊛ ‵ (heap_row.own_val a.0 (heap_val ∷ []))
    ⊛ ‵ (RawPtr.own_val a.1.0 (rawptr_vals a.1.0)) ⊛ ‵ (u32.own_val share nums.0)
    ⊛ ‵ ((MutRef (named 0) κ RawPtr).own_val out nums.1.0) ⊛ ‵ ftrue) ∷ ‵ (owned a.1.0 n) ∷ []) ∵
    split ! $ split ! $ move ! (2 ∷ []) $ split3 ! $ move ! (2 ∷ []) $ split3 ! $ keep ! (7 ∷ 3 ∷ 0 ∷ 1 ∷ 5 ∷ []) $
    -- [what is held; the allocator; the share; out; the token]
    in_a_block ! a.1.0 (λ p. owned p n) (fst∗ 𝓤 (never 𝓤) (sem 𝓛 (freeing (bare (lone R.mir)) null_ptr))) (λ b o e.
    regoal ! (λ p. prop (WpFn 𝓤 𝓛.H 𝓣.C 𝓣.Λ code.function
    (heap_val ∷ (rawptr_vals p ++ (nums.0 ++ (nums.1.0 ++ [])))) (W.post (y p)))) e refl $
    fsplit ! $ enter ! _ _ _ _ _ $ alloc_all ! (λ l.
    pass_all ! refl ((tt, ((tt, tt), tt)), ((tt, tt), ((tt, record { fits = are.1.1.0.1 }), ((tt, tt), tt)))) $
    -- &mut *(task as *mut CheckedTask)
    sets ! (of_opd ! (get ! refl)) refl (tt, tt) $
    sets ! (addr ! (through ! refl (stop !))) refl (tt, tt) $
    lft_new ! tt (λ α. move ! (1 ∷ []) $
    use1 𝓛 (later (some (λ (δ : ℕ). ‵ ((MutRef (named 0) (α ∷ []) R).own_val
    (record { ref_ptr = (b, o); ghost_name = δ; now = n }) (vptr b o ∷ []))
    ⊛ ‵ (flent (α ∷ []) (Body (mem R) b o δ)))))
    (lends_ref 𝓛 R (named 0) (α ∷ []) n b o) $ await ! tt $ pick ! (λ δ. split ! $
    -- [the loan; what comes back; α; the right to free; the allocator; the share; out; the token]
    let lent : MutBor R.Denot = record { ref_ptr = (b, o); ghost_name = δ; now = n } in
    let z : G.Ghost = (
      ((α ∷ [], tt), (full_share, tt), tt, (a.0, (lent, (share, tt))), (heap_val ∷ [], (vptr b o ∷ [], (nums.0, tt)))),
      tt,
    ) in
    nothing ! $ move ! (6 ∷ 0 ∷ []) $ join ! $ move ! (1 ∷ 0 ∷ []) $ join ! $ move ! (4 ∷ 0 ∷ []) $ join ! $
    nothing ! $ move ! (3 ∷ 0 ∷ []) $ join ! $ join ! $ nothing ! $ move ! (1 ∷ 0 ∷ []) $
    use2 𝓛 (raw (G.pre z)) (id⊢ 𝓤 _) $
    calls_at ! (framed 𝓤 𝓛.H 𝓜 𝓣) G (fork.met 𝓤 𝓛 𝓜 𝓡 (code.calls-sugwelan_c::handles::fork 𝓡.env wired)) z
    (and_then ! (get ! refl) (and_then ! (get ! refl) (and_then ! (get ! refl) (no_more !)))) (λ v.
    use1 𝓛 (later (some (λ (m : Made.Denot). ((‵ (flft (α ∷ []) full_share) ⊛ ‵ ftrue) ⊛ ‵ (Made.own_val m (v ∷ []))) ⊛
    some (λ (ws : Lasts g.ended z.0.0 z.0.3). ‵ (lasts g.ended z.0.0 z.0.3 ws) ⊛
    raw (fact 𝓤 (MatchResult m (λ x. IsFork n ws.1.0 share x.value) (HasNoFork n ws.1.0 share))))))) (id⊢ 𝓤 _) $
    await ! tt $ pick ! (λ m. split ! $ split ! $ split ! $ lft_end ! tt $
    -- [α is over; nothing; what was made; the last values; what comes back; the right to free; out; the token]
    move ! (3 ∷ []) $ pick ! (λ ws. split ! $ move ! (1 ∷ []) $
    heard ! (MatchResult m (λ x. IsFork n ws.1.0 share x.value) (HasNoFork n ws.1.0 share)) (λ so.
    fsplit ! $ drop ! $ fsplit ! $ fsplit ! $ move ! (3 ∷ 6 ∷ 0 ∷ []) $
    use3 𝓛 (later (‵ (lies_at R full_share (block_ptr b o) ws.1.0))) (ref_back 𝓛 R (α ∷ []) δ ws.1.0 b o) $ await ! tt $
    move ! (0 ∷ 5 ∷ []) $ fjoin ! $
    -- [what is held; its borrow; the share's; nothing; what was made; out; the token]
    move ! (4 ∷ []) $ peeks ! Made (Is Made) (shows 𝓛 Made) m (v ∷ []) (λ is.
    lands_as ! refl refl ((made_laws.lawful 𝓛).typed m (v ∷ []) is).0 $
    sets ! (addr ! (through ! refl (stop !))) refl (tt, tt) $
    -- put(.., out)
    let x : H.Ghost = (((κ, tt), (q, tt), tt, (m, (out, tt)), (v ∷ [], (mut_vals out, tt))), tt) in
    nothing ! $ move ! (6 ∷ 0 ∷ []) $ join ! $ move ! (1 ∷ 0 ∷ []) $ join ! $
    nothing ! $ move ! (6 ∷ 0 ∷ []) $ join ! $ join ! $ nothing ! $ move ! (1 ∷ 0 ∷ []) $
    use2 𝓛 (raw (H.pre x)) (id⊢ 𝓤 _) $
    calls_at ! (framed 𝓤 𝓛.H 𝓜 𝓣) H (put.met 𝓤 𝓛 𝓜 𝓡 (code.calls-sugwelan_c::addresses::put 𝓡.env wired)) x
    (and_then ! (get ! refl) (and_then ! (get ! refl) (no_more !))) (λ u.
    use1 𝓛 (later (some (λ (s : ℤ). ((‵ (flft κ q) ⊛ ‵ ftrue) ⊛ ‵ (i32.own_val s (u ∷ []))) ⊛
    some (λ (us : Lasts h.ended x.0.0 x.0.3). ‵ (lasts h.ended x.0.0 x.0.3 us) ⊛
    (raw (fact 𝓤 (s ≡ code_in m)) ⊛ ‵ (puts m us.1.0 out.now)))))) (id⊢ 𝓤 _) $
    await ! tt $ pick ! (λ s. split ! $ split ! $ move ! (2 ∷ []) $ pick ! (λ us. split3 ! $ move ! (1 ∷ []) $
    heard ! (s ≡ code_in m) (λ code_is. move ! (1 ∷ []) $
    let P = IsFork n ws.1.0 share in let Q = HasNoFork n ws.1.0 share in
    use1 𝓛 (‵ (gives_block P Q s us.1.0 out.now)) (given 𝓛 P Q us.1.0 out.now (fork_errno n ws.1.0 share) m s so code_is) $
    -- [what is given; the last values; the token; the result; what is held]
    move ! (4 ∷ 0 ∷ []) $ fjoin ! $
    fpack ! R.Denot (λ now. fsep (owned (block_ptr b o) now)
    (gives_block (IsFork n now share) (HasNoFork n now share) s us.1.0 out.now)) ws.1.0 $
    move ! (1 ∷ []) $ fsplit ! $ drop ! $ nothing ! $ join ! $ nothing ! $ join ! $ nothing ! $ join ! $
    move ! (3 ∷ []) $ peeks ! i32 (Is i32) (shows 𝓛 i32) s (u ∷ []) (λ is'.
    lands_as ! refl refl ((sint_Lawful 𝓛 w32).typed s _ is').0 $
    returns ! (look_at ! 0 refl) $ free_all ! refl $ keep ! (3 ∷ 1 ∷ 0 ∷ 2 ∷ []) $
    suffices ! _ (ends_at 𝓛 f.ended stayed c (y (block_ptr b o)) u s (tt, (tt, (tt, (us.1.0, tt))))
    (tt, (tt, (tt, (tt, tt))))) $
    group ! 3 $ done !)))))))))))))))
