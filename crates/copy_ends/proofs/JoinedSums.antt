-- The tally of the page of a copy, over the lists that were joined and what its task adds to its own.
use Rattle.std.proofs.Common.{refl, sym, ap, ◌∙◌, subst, arith, append_assoc}
use Rattle.std.specs.Prelude.{ℕ, ◌≡◌, ◌+◌, ◌-◌, ◌%◌, ◌^◌, ◌<◌, ◌&&◌, Bool, true, false, cond, eqb, List, [], ◌∷◌, ◌++◌}
use Rattle.wait_model.specs.declared.layout.TheConstants.{TASKS}
use Rattle.wait_rule.specs.{declared.journal.Item.Item, declared.journal.Journal.Journal, Aside.GrowsAside, Known.Known}
use Rattle.wait_rule.specs.{TableLaws.HasAll, Tallies.amounts_of, TallyLaws.tally_in}
use Rattle.wait_rule.specs.Journals.{fresh, has_of, items_in, joined_with, pushed}
use Rattle.wait_rule.proofs.{KnownLaws.FoundTallies.all_sum_tallies, KnownLaws.TallySteps.amounts_append}
use Rattle.wait_rule.proofs.KnownLaws.CountedTallies.{adds_count, joins_count, newcomers_count_none, pushed_same}
use Rattle.copy_plan.specs.declared.TheConstants.{COUNTED_PAGE}
use Rattle.copy_ends.specs.Copied.{ReadTally, joined_all}
use Rattle.copy_ends.proofs.JoinedFour.{four}

-- the four lists' sums
pub one_counts : (number next spare p : ℕ) (xs : List Item) → number < TASKS
    → tally_in p (pushed (fresh number next spare) xs) ≡ amounts_of p xs
one_counts number next spare p xs few =
    let adds = adds_count (fresh number next spare) p xs refl few in
    let none = newcomers_count_none number next spare p in
    omega (arith, adds, none)

abbrev pub tallies_of : ℕ → List Journal → ℕ
tallies_of p [] = 0
tallies_of p (w ∷ ws) = tally_in p w + tallies_of p ws

abbrev pub EachLives : List Journal → Type 0
EachLives [] = Unit {0}
EachLives (w ∷ ws) = (w.lives ≡ true) × EachLives ws

-- what a journal counts that joined others
pub joined_counts : (p : ℕ) (v : Journal) (ws : List Journal) → EachLives ws
    → tally_in p (joined_all v ws) ≡ tally_in p v + tallies_of p ws
joined_counts p v [] live = omega arith
joined_counts p v (w ∷ ws) live =
    let one = joins_count v w p live.0 in
    let rest = joined_counts p (joined_with v w) ws live.1 in
    omega (arith, one, rest)

pub four_counts : (p : ℕ) (a b c d : List Item)
    → tally_in p (four a b c d) ≡ amounts_of p a + amounts_of p b + amounts_of p c + amounts_of p d
four_counts p a b c d =
    let v : Journal = fresh 0 5 (TASKS - 5) in
    let one : Journal = pushed (fresh 1 2 0) a in
    let two : Journal = pushed (fresh 2 3 0) b in
    let three : Journal = pushed (fresh 3 4 0) c in
    let last : Journal = pushed (fresh 4 5 0) d in
    let all : tally_in p (four a b c d) ≡ tally_in p v + tallies_of p (one ∷ two ∷ three ∷ last ∷ []) =
    joined_counts p v (one ∷ two ∷ three ∷ last ∷ []) (refl, (refl, (refl, (refl, tt)))) in
    let n0 = newcomers_count_none 0 5 (TASKS - 5) p in
    let n1 = one_counts 1 2 0 p a (omega arith) in
    let n2 = one_counts 2 3 0 p b (omega arith) in
    let n3 = one_counts 3 4 0 p c (omega arith) in
    let n4 = one_counts 4 5 0 p d (omega arith) in
    omega (arith, all, n0, n1, n2, n3, n4)

-- what was pushed later
abbrev pub Later : Journal → Known → Type 0
Later v k = (xs : List Item) × (k.view ≡ pushed v xs)

pushed_on : (v : Journal) (xs ys : List Item) → pushed (pushed v xs) ys ≡ pushed v (xs ++ ys)
pushed_on v xs ys = ap (λ (zs : List Item). record v { items = zs }) (append_assoc v.items xs ys)

added_none : (p : ℕ) (v : Journal) (xs : List Item) → amounts_of p (pushed v xs).items ≡ amounts_of p v.items
    → amounts_of p xs ≡ 0
added_none p v xs same = omega (arith, amounts_append p v.items xs, same)

-- a number that is found after the joins is the sum of all that the lists have in the end
pub found_tally : (v : Journal) → HasAll v → (old new : Known) (w : ℕ) → old.view ≡ v → ReadTally old new w
    → GrowsAside old new → w ≡ tally_in COUNTED_PAGE new.view % 2 ^ 64
found_tally v whole old new w is r g =
    let xs : List Item = r.before.items in
    let ys : List Item = r.later.items in
    let mid : r.mid.view ≡ pushed v xs = r.before.view ∙ ap (λ (j : Journal). pushed j xs) is in
    let last : new.view ≡ pushed (pushed v xs) ys = r.later.view ∙ ap (λ (j : Journal). pushed j ys) mid in
    let all : HasAll r.mid.view = subst HasAll (sym mid) whole in
    let found = all_sum_tallies r.mid.view COUNTED_PAGE w r.finds all in
    let same : amounts_of COUNTED_PAGE (pushed v (xs ++ ys)).items ≡ amounts_of COUNTED_PAGE v.items =
    ap (λ (j : Journal). amounts_of COUNTED_PAGE j.items) (sym (last ∙ pushed_on v xs ys))
    ∙ (g.sums COUNTED_PAGE ∙ ap (λ (j : Journal). amounts_of COUNTED_PAGE j.items) is) in
    let none = added_none COUNTED_PAGE v (xs ++ ys) same in
    let zero : amounts_of COUNTED_PAGE ys ≡ 0 = omega (arith, amounts_append COUNTED_PAGE xs ys, none) in
    found ∙ ap (λ (n : ℕ). n % 2 ^ 64) (ap (tally_in COUNTED_PAGE) mid
    ∙ (sym (pushed_same (pushed v xs) COUNTED_PAGE ys zero) ∙ ap (tally_in COUNTED_PAGE) (sym last)))

-- and that is what those counted that were joined
pub last_tally : (p : ℕ) (v : Journal) (old new : Known) → old.view ≡ v → GrowsAside old new
    → tally_in p new.view ≡ tally_in p v
last_tally p v old new is g =
    let xs : List Item = g.grows.items in
    let last : new.view ≡ pushed v xs = g.grows.view ∙ ap (λ (j : Journal). pushed j xs) is in
    let same : amounts_of p (pushed v xs).items ≡ amounts_of p v.items =
    ap (λ (j : Journal). amounts_of p j.items) (sym last) ∙ (g.sums p
    ∙ ap (λ (j : Journal). amounts_of p j.items) is) in
    ap (tally_in p) last ∙ pushed_same v p xs (added_none p v xs same)

-- the lists stay where they are
pub last_list : (v : Journal) (old new : Known) → old.view ≡ v → GrowsAside old new → (t : ℕ)
    → (v.lives && eqb v.number t) ≡ false → has_of t new.view ≡ has_of t v
last_list v old new is g t other =
    let xs : List Item = g.grows.items in
    let last : new.view ≡ pushed v xs = g.grows.view ∙ ap (λ (j : Journal). pushed j xs) is in
    ap (has_of t) last ∙ (ap (λ (b : Bool). cond b (v.items ++ xs) [] ++ items_in t v.joined) other
    ∙ sym (ap (λ (b : Bool). cond b v.items [] ++ items_in t v.joined) other))
