-- What was made is put at the address.
use Rattle.sugwelan_c.proofs.Walks.{◌≡◌, [], ◌∷◌, refl, w32, proved, heap_val, heap_Tells, heap_row, id⊢, ftrue, flft}
use Rattle.sugwelan_c.proofs.Walks.{named, fact, tables, ‵, raw, ◌⊛◌, some, later, ◌$◌, ◌∵◌, !, qed, done, move, keep}
use Rattle.sugwelan_c.proofs.Walks.{drop, use1, use2, split, split3, join, fsplit, pick, await, suffices, group}
use Rattle.sugwelan_c.proofs.Walks.{enter, addr, stop, no_more, and_then, returns, alloc_all, pass_all, free_all}
use Rattle.sugwelan_c.proofs.Walks.{look_at, get, through, sets, lands_as, i32, yes, Is, shows, RawPtr, MutRef}
use Rattle.sugwelan_c.proofs.Walks.{mut_vals, mut_Tells, plain, sint_Lawful, nothing, peeks, heard, calls_at, Lasts}
use Rattle.sugwelan_c.proofs.Walks.{lasts, triple_of, framed, Stays, walk_of, stay_dropped, gave_ref, Goes-dropped}
use Rattle.sugwelan_c.proofs.Walks.{Goes-gave_ref, ends_at}
use Rattle.std.proofs.Common.{ℤ}
use Rattle.std.specs.Prelude.{MatchResult}
use Rattle.sugwelan_c.specs.Blocks.{code_in, gives_block, puts}
use Rattle.sugwelan_c.specs.Handles.{IsNew, NoNew}
use Rattle.sugwelan_c.proofs.Made.{Made, made_laws, errno_at, given}
use Rattle.sugwelan_c.specs.contracts.sugwelan_new as f
use Rattle.sugwelan_c.proofs.sugwelan_new.Statement.{statement}
use Rattle.sugwelan_c.proofs.sugwelan_new.Code as code
use Rattle.sugwelan_c.specs.contracts.handles.begin as g
use Rattle.sugwelan_c.proofs.handles.begin.Met as begin
use Rattle.sugwelan_c.specs.contracts.addresses.put as h
use Rattle.sugwelan_c.proofs.addresses.put.Met as put

abbrev stayed : Stays f.ended.signature.params f.ended.kept
stayed = (stay_dropped _ yes, (gave_ref (0 ∷ []) tt (plain (λ _. RawPtr)), tt))

pub sugwelan_new_spec : {M : Type 1} → statement M
sugwelan_new_spec 𝓤 𝓛 𝓜 𝓡 wired =
    let c = f.clauses 𝓛 𝓜.mem 𝓡.returns in let W = walk_of 𝓛 f.ended stayed c in
    let 𝓣 = tables 𝓤 𝓛.H 𝓜 𝓡 𝓡.env in let G = triple_of 𝓛 g.signature (g.spec 𝓛 𝓜.mem 𝓡.returns) in
    let H = triple_of 𝓛 h.signature (h.spec 𝓛 𝓜.mem 𝓡.returns) in
    proved 𝓛 f.ended stayed c 𝓜 𝓡 (
      Goes-dropped 𝓛 1 (plain (λ _. heap_row)) yes (λ κs x w. refl),
      (Goes-gave_ref 𝓛 1 0 tt (plain (λ _. RawPtr)), tt),
    )
    f.Key.name code.function (code.unfolded 𝓤 𝓛.H 𝓜 𝓡 wired) (λ κs. ((λ _. heap_val ∷ []), (mut_vals, tt)))
    (λ κs. (heap_Tells, (mut_Tells (named 0) κs.0 RawPtr, tt))) (λ κs qs bounds a n are.
    let κ = κs.0 in let q = qs.0 in let out = a.1.0 in
    let y : W.Ghost = ((κs, qs, bounds, a, (heap_val ∷ [], (mut_vals out, tt))), n) in
    qed 𝓛 (((‵ (flft κ q) ⊛ ‵ ftrue) ⊛ ‵ (heap_row.own_val a.0 (heap_val ∷ []))
    ⊛ ‵ ((MutRef (named 0) κ RawPtr).own_val out (mut_vals out)) ⊛ ‵ ftrue) ∷ ‵ ftrue ∷ []) ∵
    split ! $ split ! $ move ! (2 ∷ []) $ split3 ! $ keep ! (0 ∷ 1 ∷ 3 ∷ []) $
    enter ! _ _ _ _ _ $ alloc_all ! (λ l. pass_all ! refl ((tt, ((tt, tt), tt)), ((tt, tt), tt)) $
    -- begin(alloc)
    let z : G.Ghost = ((tt, tt, tt, (a.0, tt), (heap_val ∷ [], tt)), tt) in
    nothing ! $ move ! (1 ∷ 0 ∷ []) $ join ! $ nothing ! $ join ! $ nothing ! $ move ! (1 ∷ 0 ∷ []) $
    use2 𝓛 (raw (G.pre z)) (id⊢ 𝓤 _) $
    calls_at ! (framed 𝓤 𝓛.H 𝓜 𝓣) G (begin.met 𝓤 𝓛 𝓜 𝓡 (code.calls-sugwelan_c::handles::begin 𝓡.env wired)) z
    (and_then ! (get ! refl) (no_more !)) (λ v.
    use1 𝓛 (later (some (λ (m : Made.Denot). (‵ ftrue ⊛ ‵ (Made.own_val m (v ∷ []))) ⊛
    some (λ (ws : Lasts g.ended z.0.0 z.0.3). ‵ (lasts g.ended z.0.0 z.0.3 ws) ⊛
    raw (fact 𝓤 (MatchResult m (λ x. IsNew x.value) NoNew)))))) (id⊢ 𝓤 _) $
    await ! tt $ pick ! (λ m. split ! $ split ! $ drop ! $ move ! (1 ∷ []) $ pick ! (λ _. split ! $ drop ! $
    heard ! (MatchResult m (λ x. IsNew x.value) NoNew) (λ so.
    -- [what was made; out; the token]
    peeks ! Made (Is Made) (shows 𝓛 Made) m (v ∷ []) (λ is.
    lands_as ! refl refl ((made_laws.lawful 𝓛).typed m (v ∷ []) is).0 $
    sets ! (addr ! (through ! refl (stop !))) refl (tt, tt) $
    -- put(.., out)
    let x : H.Ghost = (((κ, tt), (q, tt), tt, (m, (out, tt)), (v ∷ [], (mut_vals out, tt))), tt) in
    nothing ! $ move ! (2 ∷ 0 ∷ []) $ join ! $ move ! (1 ∷ 0 ∷ []) $ join ! $
    nothing ! $ move ! (2 ∷ 0 ∷ []) $ join ! $ join ! $ nothing ! $ move ! (1 ∷ 0 ∷ []) $
    use2 𝓛 (raw (H.pre x)) (id⊢ 𝓤 _) $
    calls_at ! (framed 𝓤 𝓛.H 𝓜 𝓣) H (put.met 𝓤 𝓛 𝓜 𝓡 (code.calls-sugwelan_c::addresses::put 𝓡.env wired)) x
    (and_then ! (get ! refl) (and_then ! (get ! refl) (no_more !))) (λ u.
    use1 𝓛 (later (some (λ (s : ℤ). ((‵ (flft κ q) ⊛ ‵ ftrue) ⊛ ‵ (i32.own_val s (u ∷ []))) ⊛
    some (λ (ws : Lasts h.ended x.0.0 x.0.3). ‵ (lasts h.ended x.0.0 x.0.3 ws) ⊛
    (raw (fact 𝓤 (s ≡ code_in m)) ⊛ ‵ (puts m ws.1.0 out.now)))))) (id⊢ 𝓤 _) $
    await ! tt $ pick ! (λ s. split ! $ split ! $ move ! (2 ∷ []) $ pick ! (λ ws. split3 ! $ move ! (1 ∷ []) $
    heard ! (s ≡ code_in m) (λ code_is. move ! (1 ∷ []) $
    use1 𝓛 (‵ (gives_block IsNew NoNew s ws.1.0 out.now)) (given 𝓛 IsNew NoNew ws.1.0 out.now (errno_at 11) m s so code_is) $
    -- [what is given; the last values; the token; the result]
    move ! (1 ∷ []) $ fsplit ! $ drop ! $ nothing ! $ join ! $
    move ! (3 ∷ []) $ peeks ! i32 (Is i32) (shows 𝓛 i32) s (u ∷ []) (λ is'.
    lands_as ! refl refl ((sint_Lawful 𝓛 w32).typed s _ is').0 $
    returns ! (look_at ! 0 refl) $ free_all ! refl $ move ! (3 ∷ 1 ∷ 0 ∷ []) $
    suffices ! _ (ends_at 𝓛 f.ended stayed c y u s (tt, (ws.1.0, tt)) (tt, (tt, tt))) $
    group ! 3 $ done !))))))))))))
