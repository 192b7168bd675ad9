-- Laws of walks over lists of entries. Only proofs use them.
use Rattle.std.proofs.Common.{◌≡◌, ℕ, ◌<◌, ◌≤◌, ◌+◌, ◌-◌, ◌^◌, ◌==◌, suc, arith, List, [], ◌∷◌, ◌++◌, length, get_or}
use Rattle.std.proofs.Common.{take, drop, Bool, true, false, if◌then◌else◌, ◌&&◌, Option, Some, None, refl, ap, sym}
use Rattle.std.proofs.Common.{subst, ◌∙◌, append_assoc, append-nil, add-one, map}
use Rattle.std.proofs.Math.ListN.{set, drop_of_length-le, get_or-map}
use Rattle.std.proofs.Math.Seq.{take-suc-set, drop-cons}
use Rattle.std.proofs.Math.Nat.{min-le_left}
use Rattle.std.proofs.lemmas.Bool.{eqb-false}
use Rattle.std.proofs.lemmas.List.{take_all, drop-set-lt, take-append-drop, map-set, length-map}
use Rattle.wait_model.specs.{declared.queues.Walked.Walked, declared.queues.End.End}
use Rattle.wait_model.specs.declared.queues.End.TheVariants as ends
use Rattle.func_head.specs.declared.walks.Turn.{Turn}
use Rattle.func_head.specs.Walks.{EntryState, Walk, answer_of, is_above, is_below, counted, called, after_answer}
use Rattle.func_head.specs.Walks.{ends_by, go_on, seen_by, walk, walk_from, walked_to, IsPlaceOf, Stay}

abbrev pub walk_with : List EntryState → Walked → Walk
walk_with es walked = record { entries = es; walked = walked }

-- entries that were called before, and a walk over those behind them
abbrev pub joined : List EntryState → Walk → Walk
joined front w = walk_with (front ++ w.entries) w.walked

-- what a walk with this turn finds at the entry
abbrev pub end_at : ℕ → List ℕ → Turn → EntryState → Option End
end_at mode key at e = ends_by (answer_of e.func mode key) e.exclusive at.left

abbrev pub turn_after : ℕ → List ℕ → Turn → EntryState → Turn
turn_after mode key at e = after_answer (answer_of e.func mode key) e.exclusive at

-- one call of the function at hand
one_call : (mode : ℕ) (key : List ℕ) (at : Turn) (es : List EntryState) (i : ℕ) (e : EntryState) → i < length es
    → e ≡ get_or es i e
    → walk_from mode key at (drop i es)
    ≡ go_on (end_at mode key at e) (called mode key e) (turn_after mode key at e) (drop (suc i) es)
    (walk_from mode key (turn_after mode key at e) (drop (suc i) es))
one_call mode key at es i e below here =
    ap (walk_from mode key at) (drop-cons es i e below ∙ ap (λ x. x ∷ drop (suc i) es) (sym here))

split_set : (es : List EntryState) (i : ℕ) (x : EntryState) → i < length es
    → take i es ++ x ∷ drop (suc i) es ≡ set es i x
split_set es i x below =
    sym (append_assoc (take i es) (x ∷ []) (drop (suc i) es))
    ∙ ap (λ xs. xs ++ drop (suc i) es) (sym (take-suc-set es i x below))
    ∙ ap (λ xs. take (suc i) (set es i x) ++ xs) (sym (drop-set-lt (suc i) es i x (omega (arith))))
    ∙ take-append-drop (suc i) (set es i x)

-- a call that doesn't end the walk
goes_on : (mode : ℕ) (key : List ℕ) (at : Turn) (es : List EntryState) (i : ℕ) (e : EntryState)
    → i < length es → e ≡ get_or es i e → end_at mode key at e ≡ None
    → joined (take i es) (walk_from mode key at (drop i es))
    ≡ joined (take (suc i) (set es i (called mode key e)))
    (walk_from mode key (turn_after mode key at e) (drop (suc i) (set es i (called mode key e))))
goes_on mode key at es i e below here none =
    let x = called mode key e in
    let now = turn_after mode key at e in
    let rest = walk_from mode key now (drop (suc i) es) in
    ap (joined (take i es)) (one_call mode key at es i e below here
    ∙ ap (λ o. go_on o x now (drop (suc i) es) rest) none)
    ∙ ap (λ xs. walk_with xs rest.walked) (sym (append_assoc (take i es) (x ∷ []) rest.entries))
    ∙ ap (λ xs. joined xs rest) (sym (take-suc-set es i x below))
    ∙ ap (λ ys. joined (take (suc i) (set es i x)) (walk_from mode key now ys))
    (sym (drop-set-lt (suc i) es i x (omega (arith))))

-- a call that ends it
ends_here : (mode : ℕ) (key : List ℕ) (at : Turn) (es : List EntryState) (i : ℕ) (e : EntryState) (end : End)
    → i < length es → e ≡ get_or es i e → end_at mode key at e ≡ Some end
    → joined (take i es) (walk_from mode key at (drop i es))
    ≡ walk_with (set es i (called mode key e)) (walked_to (turn_after mode key at e) end)
ends_here mode key at es i e end below here some =
    let x = called mode key e in
    let now = turn_after mode key at e in
    let rest = walk_from mode key now (drop (suc i) es) in
    ap (joined (take i es)) (one_call mode key at es i e below here
    ∙ ap (λ o. go_on o x now (drop (suc i) es) rest) some)
    ∙ ap (λ xs. walk_with xs (walked_to now end)) (split_set es i x below)

-- a walk that is behind the last entry
is_over : (mode : ℕ) (key : List ℕ) (at : Turn) (es : List EntryState) (i : ℕ) → length es ≤ i
    → joined (take i es) (walk_from mode key at (drop i es)) ≡ walk_with es (walked_to at ends.End)
is_over mode key at es i above =
    ap (λ ys. joined (take i es) (walk_from mode key at ys)) (drop_of_length-le es above)
    ∙ ap (λ xs. walk_with (xs ++ []) (walked_to at ends.End)) (take_all i es above)
    ∙ ap (λ xs. walk_with xs (walked_to at ends.End)) (append-nil es)

stay_same : (es : List EntryState) → Stay es es
stay_same [] = tt
stay_same (e ∷ es) = ((refl, refl, refl), stay_same es)

stay_by : (o : Option End) (e x : EntryState) (at : Turn) (es : List EntryState) (rest : Walk) → IsPlaceOf e x
    → Stay es rest.entries → Stay (e ∷ es) (go_on o x at es rest).entries
stay_by None e x at es rest is stays = (is, stays)
stay_by (Some end) e x at es rest is stays = (is, stay_same es)

-- every entry stays
pub stay : (mode : ℕ) (key : List ℕ) (at : Turn) (es : List EntryState) → Stay es (walk_from mode key at es).entries
stay mode key at [] = tt
stay mode key at (e ∷ es) =
    stay_by (end_at mode key at e) e (called mode key e) (turn_after mode key at e) es
    (walk_from mode key (turn_after mode key at e) es) (refl, refl, refl)
    (stay mode key (turn_after mode key at e) es)

-- a walk that goes on selects no more than is left of its count
abbrev SelectsFew : ℕ → List ℕ → List EntryState → Type 0
SelectsFew mode key es =
    (at : Turn) → 0 < at.left → (walk_from mode key at es).walked.selected ≤ at.selected + at.left

few_spent : (b : Bool) (mode : ℕ) (key : List ℕ) (at : Turn) (x : EntryState) (es : List EntryState)
    → (at.left == 1) ≡ b → 0 < at.left → SelectsFew mode key es
    → (go_on (if b then Some ends.Spent else None) x (counted true at) es
    (walk_from mode key (counted true at) es)).walked.selected ≤ at.selected + at.left
few_spent true mode key at x es is some rest =
    let one = min-le_left (at.selected + 1) (2 ^ 32 - 1) in omega (arith, one, some)
few_spent false mode key at x es is some rest =
    let one = min-le_left (at.selected + 1) (2 ^ 32 - 1) in
    let other = eqb-false at.left 1 is in
    let more : 0 < at.left - 1 = omega (arith, other, some) in
    let few = rest (counted true at) more in omega (arith, one, few, some)

few_by : (above below exclusive : Bool) (mode : ℕ) (key : List ℕ) (at : Turn) (x : EntryState)
    (es : List EntryState) → 0 < at.left → SelectsFew mode key es
    → (go_on (if above then (if exclusive && (at.left == 1) then Some ends.Spent else None)
    else if below then Some ends.Stopped
    else None) x (if above then counted exclusive at else at) es
    (walk_from mode key (if above then counted exclusive at else at) es)).walked.selected
    ≤ at.selected + at.left
few_by true below true mode key at x es some rest = few_spent (at.left == 1) mode key at x es refl some rest
few_by true below false mode key at x es some rest = rest (counted false at) some
few_by false true exclusive mode key at x es some rest = omega (arith)
few_by false false exclusive mode key at x es some rest = rest at some

pub few : (mode : ℕ) (key : List ℕ) (es : List EntryState) → SelectsFew mode key es
few mode key [] at some = omega (arith)
few mode key (e ∷ es) at some =
    few_by (is_above (answer_of e.func mode key)) (is_below (answer_of e.func mode key)) e.exclusive mode key at
    (called mode key e) es some (few mode key es)

-- what a walk says of its end
pub stay_of : (mode count : ℕ) (key : List ℕ) (es new : List EntryState) (walked : Walked)
    → walk mode count key es ≡ walk_with new walked → Stay es new
stay_of mode count key es new walked is =
    subst (λ w. Stay es w.entries) is (stay mode key (record { left = count; woken = 0; selected = 0 }) es)

pub few_of : (mode count : ℕ) (key : List ℕ) (es new : List EntryState) (walked : Walked)
    → walk mode count key es ≡ walk_with new walked → 0 < count → walked.selected ≤ count
few_of mode count key es new walked is some =
    let most = subst (λ w. w.walked.selected ≤ 0 + count) is
    (few mode key es (record { left = count; woken = 0; selected = 0 }) some) in
    omega (arith, most)

-- Entries that are seen as such records: an entry at hand, and the entries after its call.
module _ {E : Type 0} (seen : E → EntryState) where
  seen_here : (es : List E) (i : ℕ) (old : E) → old ≡ get_or es i old
      → seen old ≡ get_or (map seen es) i (seen old)
  seen_here es i old is = sym (get_or-map seen es i old ∙ ap seen (sym is))

  seen_set : (mode : ℕ) (key : List ℕ) (es : List E) (i : ℕ) (old new : E) → seen new ≡ called mode key (seen old)
      → set (map seen es) i (called mode key (seen old)) ≡ map seen (set es i new)
  seen_set mode key es i old new after =
      sym (map-set seen es i new ∙ ap (set (map seen es) i) after)

  pub calls_on : (mode : ℕ) (key : List ℕ) (at now : Turn) (es : List E) (i : ℕ) (old new : E) (whole : Walk)
      → whole ≡ joined (take i (seen_by es seen)) (walk_from mode key at (drop i (seen_by es seen)))
      → i < length es → old ≡ get_or es i old → seen new ≡ called mode key (seen old)
      → now ≡ turn_after mode key at (seen old) → None ≡ end_at mode key at (seen old)
      → whole ≡ joined (take (i + 1) (seen_by (set es i new) seen))
      (walk_from mode key now (drop (i + 1) (seen_by (set es i new) seen)))
  calls_on mode key at now es i old new whole before below is after turn none =
      rw (add-one i)
      (before
      ∙ goes_on mode key at (map seen es) i (seen old) (rw length-map below) (seen_here es i old is) (sym none)
      ∙ ap (λ xs. joined (take (suc i) xs) (walk_from mode key (turn_after mode key at (seen old))
      (drop (suc i) xs))) (seen_set mode key es i old new after)
      ∙ ap (λ t. joined (take (suc i) (map seen (set es i new))) (walk_from mode key t
      (drop (suc i) (map seen (set es i new))))) (sym turn))

  pub calls_last : (mode : ℕ) (key : List ℕ) (at now : Turn) (es : List E) (i : ℕ) (old new : E) (end : End)
      (whole : Walk) (walked : Walked)
      → whole ≡ joined (take i (seen_by es seen)) (walk_from mode key at (drop i (seen_by es seen)))
      → i < length es → old ≡ get_or es i old → seen new ≡ called mode key (seen old)
      → now ≡ turn_after mode key at (seen old) → Some end ≡ end_at mode key at (seen old)
      → walked ≡ walked_to now end → whole ≡ walk_with (seen_by (set es i new) seen) walked
  calls_last mode key at now es i old new end whole walked before below is after turn some told =
      before
      ∙ ends_here mode key at (map seen es) i (seen old) end (rw length-map below) (seen_here es i old is) (sym some)
      ∙ ap (λ xs. walk_with xs (walked_to (turn_after mode key at (seen old)) end))
      (seen_set mode key es i old new after)
      ∙ ap (λ t. walk_with (map seen (set es i new)) (walked_to t end)) (sym turn)
      ∙ ap (λ w. walk_with (map seen (set es i new)) w) (sym told)

  pub calls_over : (mode : ℕ) (key : List ℕ) (at : Turn) (es : List E) (i : ℕ) (whole : Walk) (walked : Walked)
      → whole ≡ joined (take i (seen_by es seen)) (walk_from mode key at (drop i (seen_by es seen)))
      → length es ≤ i → walked ≡ walked_to at ends.End → whole ≡ walk_with (seen_by es seen) walked
  calls_over mode key at es i whole walked before above told =
      before ∙ is_over mode key at (map seen es) i (rw length-map above)
      ∙ ap (λ w. walk_with (map seen es) w) (sym told)
