-- The end lines, one by one, and the members of a head in order.
use Rattle.std.proofs.Common.{◌≡◌, ℕ, suc, ◌+◌, ◌-◌, ◌<◌, ◌≤◌, Bool, true, false, cond, List, [], ◌∷◌, ◌++◌, Option}
use Rattle.std.proofs.Common.{Some, None, codes, nat_le, IfSome, is_some, not, refl, ap, sym, ◌∙◌, arith, append_assoc}
use Rattle.std.proofs.Common.{decimal}
use Rattle.std.proofs.lemmas.Bool.Decides.{nat_tests}
use Rattle.std.specs.List.{flat_map}
use Rattle.edge_io.specs.Text.{Midway}
use Rattle.wait_model.specs.{declared.queues.Member.Member, Tables.Table}
use Rattle.wait_model.specs.Queues.{member_from, rank, IsRisingFrom, IsInOrder}
use Rattle.wait_model.specs.declared.layout.TheConstants.{CONDITION_AT, CONDITIONS, MEMBERS, PLACES}
use Rattle.wait_model.specs.Locations.{Location, IsLocation, position_of, word_in, cond_at}
use Rattle.wait_script.specs.Ending.{texts_from, member_text, members_text, head_text, word_text}

pub next_text : (text : ℕ → List ℕ) (n i : ℕ) → i < n
    → texts_from text i (n - i) ≡ text i ++ texts_from text (i + 1) (n - (i + 1))
unfolding texts_from
next_text text n i h =
    let one : n - i ≡ suc (n - (i + 1)) = omega arith in
    ap (texts_from text i) one

pub no_text : (text : ℕ → List ℕ) (n i : ℕ) → n ≤ i → texts_from text i (n - i) ≡ []
unfolding texts_from
no_text text n i h = let none : n - i ≡ 0 = omega arith in ap (texts_from text i) none

-- the members from a rank on
abbrev pub rest_from : ℕ → List Member → List Member
rest_from least [] = []
rest_from least (m ∷ ms) = cond (nat_le least (rank m)) (m ∷ ms) (rest_from least ms)

abbrev pub first : List Member → Option Member
first [] = None
first (m ∷ ms) = Some m

pub first_from : (least : ℕ) (queue : List Member) → member_from least queue ≡ first (rest_from least queue)
first_from least [] = refl
first_from least (m ∷ ms) = chosen (nat_le least (rank m)) m ms (first_from least ms)
  where
    chosen : (b : Bool) (m : Member) (ms : List Member) → member_from least ms ≡ first (rest_from least ms)
        → cond b (Some m) (member_from least ms) ≡ first (cond b (m ∷ ms) (rest_from least ms))
    chosen true m ms e = refl
    chosen false m ms e = e

-- all stand behind
all_behind : (p : ℕ) (ms : List Member) → IsRisingFrom p ms → rest_from (p + 1) ms ≡ ms
all_behind p [] h = refl
all_behind p (m ∷ ms) h =
    let lt : p < rank m = h.0 in
    let e : nat_le (p + 1) (rank m) ≡ true = grind (arith, nat_tests) in
    ap (λ b. cond b (m ∷ ms) (rest_from (p + 1) ms)) e

either : {A : Type 0} (b : Bool) → (b ≡ true → A) → (b ≡ false → A) → A
either true f g = f refl
either false f g = g refl

split : {A : Type 0} (b : Bool) (x y z : A) → cond b x y ≡ z → (b ≡ true → x ≡ z) × (b ≡ false → y ≡ z)
split true x y z e = (λ _. e, λ n. absurd (cc (n)))
split false x y z e = (λ n. absurd (cc (n)), λ _. e)

same_head : (x y : Member) (xs ys : List Member) → (x ∷ xs) ≡ (y ∷ ys) → (x ≡ y) × (xs ≡ ys)
same_head x y xs ys e = (cc, cc)

-- the first from a rank on stands behind what all stand behind
behind_it : (p least : ℕ) (ms more : List Member) (m : Member) → IsRisingFrom p ms
    → rest_from least ms ≡ m ∷ more → p < rank m
behind_it p least [] more m h e = absurd (cc (e))
behind_it p least (x ∷ xs) more m h e =
    either (nat_le least (rank x))
    (λ t. here (same_head x m xs more ((split _ _ _ _ e).0 t)).0)
    (λ t. behind_it p least xs more m h.1 ((split _ _ _ _ e).1 t))
  where
    here : x ≡ m → p < rank m
    here s =
        let lt : p < rank x = h.0 in
        let f : rank x ≡ rank m = ap rank s in
        omega arith

-- behind the first from a rank on come the others
pub rest_behind : (least : ℕ) (queue more : List Member) (m : Member) → IsInOrder queue
    → rest_from least queue ≡ m ∷ more → rest_from (rank m + 1) queue ≡ more
rest_behind least [] more m h e = absurd (cc (e))
rest_behind least (x ∷ xs) more m h e =
    either (nat_le least (rank x))
    (λ t. here (same_head x m xs more ((split _ _ _ _ e).0 t)))
    (λ t. let f = (split _ _ _ _ e).1 t in
    over (omega (arith, behind_it (rank x) least xs more m h.0 f)) ∙ rest_behind least xs more m h.1 f)
  where
    over : rank x < rank m + 1 → rest_from (rank m + 1) (x ∷ xs) ≡ rest_from (rank m + 1) xs
    over lt =
        let f : nat_le (rank m + 1) (rank x) ≡ false = grind (arith, nat_tests) in
        ap (λ b. cond b (x ∷ xs) (rest_from (rank m + 1) xs)) f

    here : (x ≡ m) × (xs ≡ more) → rest_from (rank m + 1) (x ∷ xs) ≡ more
    here s =
        let f : rank x ≡ rank m = ap rank s.0 in
        over (omega arith) ∙ ap (λ p. rest_from (p + 1) xs) (sym f) ∙ all_behind (rank x) xs h.0 ∙ s.1

-- the members that are left, by the first of them
some_rest : (ms : List Member) (m : Member) → first ms ≡ Some m → (more : List Member) × (ms ≡ m ∷ more)
some_rest [] m e = absurd (cc (e))
some_rest (x ∷ xs) m e = (xs, cc)

none_rest : (ms : List Member) → ((m : Member) → first ms ≡ Some m → ⊥) → ms ≡ []
none_rest [] h = refl
none_rest (x ∷ xs) h = absurd (h x refl)

pub no_rest : (least : ℕ) (queue : List Member) (next : Option Member) → next ≡ member_from least queue
    → ((m : Member) → next ≡ Some m → ⊥) → members_text (rest_from least queue) ≡ codes "\n"
no_rest least queue next met h =
    ap members_text (none_rest (rest_from least queue) (λ m e. h m (met ∙ first_from least queue ∙ e)))

-- the next member's text, and the members behind it
pub piece : (least : ℕ) (queue : List Member) (next : Option Member) (m : Member) → IsInOrder queue
    → next ≡ member_from least queue → next ≡ Some m
    → members_text (rest_from least queue) ≡ member_text m ++ members_text (rest_from (rank m + 1) queue)
piece least queue next m order met is =
    let r = some_rest (rest_from least queue) m (sym (first_from least queue) ∙ sym met ∙ is) in
    ap members_text r.1
    ∙ append_assoc (member_text m) (flat_map member_text r.0) (codes "\n")
    ∙ ap (λ x. member_text m ++ members_text x) (sym (rest_behind least queue r.0 m order r.1))

-- the line of a head that has a member
pub head_line : (head : ℕ) (queue : List Member) (next : Option Member) → next ≡ member_from 0 queue
    → (r : Bool) → is_some next ≡ not r → r ≡ false
    → head_text head queue ≡ (codes "head h" ++ decimal head) ++ members_text (rest_from 0 queue)
head_line head [] next met r is some = absurd (cc (sym (ap is_some met) ∙ is ∙ ap not some))
head_line head (m ∷ ms) next met r is some =
    let from : nat_le 0 (rank m) ≡ true = grind (arith, nat_tests) in
    sym (append_assoc (codes "head h") (decimal head) (members_text (m ∷ ms)))
    ∙ ap (λ b. (codes "head h" ++ decimal head) ++ members_text (cond b (m ∷ ms) (rest_from 0 ms))) (sym from)

pub fits_of : (least : ℕ) (next : Option Member)
    → IfSome next (λ m. (m.at < MEMBERS) × (least ≤ rank m) × (m.place < PLACES))
    → IfSome next (λ m. (m.at < MEMBERS) × (m.place < PLACES))
fits_of least None h = tt
fits_of least (Some m) h = (h.0, h.2)

-- A head's line of which a front is written; the next member is the first of those left.
pub record Partway (old now : Option (List ℕ)) (queue : List Member) (next : Option Member) (text : List ℕ)
    : Type 0 where
  pub least : ℕ
  pub met : next ≡ member_from least queue
  pub midway : Midway old now (members_text (rest_from least queue)) text

-- what stands at the place of a condition word
pub word_value : (t : Table) (cond value : ℕ)
    → ((l : Location) → IsLocation l → position_of l ≡ CONDITION_AT + cond → value ≡ word_in t l) → cond < CONDITIONS
    → word_text cond value ≡ word_text cond (word_in t (cond_at cond))
word_value t cond value shown fits =
    ap (word_text cond) (shown (cond_at cond) (is_location cond fits) (stands cond fits))
  where
    is_location : (cond : ℕ) → cond < CONDITIONS → IsLocation (cond_at cond)
    is_location cond fits = grind (arith, nat_tests)

    stands : (cond : ℕ) → cond < CONDITIONS → position_of (cond_at cond) ≡ CONDITION_AT + cond
    stands cond fits = grind (arith, nat_tests)
