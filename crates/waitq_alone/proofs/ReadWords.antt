-- What is read of a parse of plain words is the command that they are.
use Rattle.std.proofs.Common.{◌≡◌, ℕ, List, [], ◌∷◌, Bool, true, false, ◌&&◌, Option, Some, None, refl, codes, ap, ap₂}
use Rattle.std.proofs.Common.{option_map, sym, ◌∙◌, ◌⊎◌, inl, inr, length, arith, subst, map}
use Rattle.std.specs.Prelude.{if◌then◌else◌, nat_le, not, ◌==◌}
use Rattle.std.specs.List.{list_all}
use Rattle.std.specs.Str.{bytes_eq}
use Rattle.std.proofs.lemmas.Slice.Eq.{bytes_eq-Decides}
use Rattle.std.proofs.lemmas.Bool.Decides.{not_from_Decides, Decides-eqb, nat_tests}
use Rattle.clap.specs.{Kinds.or_else}
use Rattle.clap.specs.Words.{Row, Text, fault_of, subcommand_of}
use Rattle.copy_plan.specs.declared.plan.Planned.{Planned}
use Rattle.wait_script.specs.Number.{numeral_value}
use Rattle.waitq_alone.specs.Commands.{Request, command_of, copy_at, drill_at, drill_of, is_name, merge_of}
use Rattle.waitq_alone.specs.Events.{event_of, events_of, before, plan_of}
use Rattle.waitq_alone.specs.Parsed.{are_names, asked_of, waitq_app, found_text, found_texts}
use Rattle.waitq_alone.proofs.PlainWords.{nobody, unknown, replay_entered, drill_entered, copy_entered, replay_faults}
use Rattle.waitq_alone.proofs.PlainWords.{drill_faults, copy_faults, replay_alone, replay_more, drill_row, drill_rows}
use Rattle.waitq_alone.proofs.PlainWords.{drill_passes, drill_more, src_row, copy_rows, copy_rows_told, copy_passes}
use Rattle.waitq_alone.proofs.PlainWords.{copy_passes_told, merge_entered, merge_faults, merge_row, merge_two_rows}
use Rattle.waitq_alone.proofs.PlainWords.{merge_rows, merge_passes, merge_more, first_name, more_names}

-- a word is another, or differs from it by either test
data Same (w k : Text) : Type 0 where
  same : w ≡ k → Same w k
  apart : bytes_eq w k ≡ false → bytes_eq k w ≡ false → Same w k

differs : (w k : Text) → bytes_eq w k ≡ false → bytes_eq k w ≡ false
differs w k e = go (bytes_eq k w) refl
  where
    go : (b : Bool) → bytes_eq k w ≡ b → b ≡ false
    go false f = refl
    go true f = absurd (not_from_Decides (bytes_eq w k) (bytes_eq-Decides w k) e (sym ((bytes_eq-Decides k w).0 f)))

compared : (w k : Text) → Same w k
compared w k = go (bytes_eq w k) refl
  where
    go : (b : Bool) → bytes_eq w k ≡ b → Same w k
    go true e = same ((bytes_eq-Decides w k).0 e)
    go false e = apart e (differs w k e)

-- a parse that passes
abbrev IsRight : List Text → Type 0
IsRight words = fault_of waitq_app words ≡ [] → asked_of (subcommand_of waitq_app words) ≡ command_of words

replay_right : (rest : List Text) → are_names rest ≡ true → IsRight (codes "replay" ∷ rest)
replay_right [] e f = rw (replay_entered []) refl
replay_right (x ∷ rest) e f =
    let bad = sym f ∙ replay_faults (x ∷ rest) ∙ ap (λ k. or_else k []) (replay_more x rest (first_name x rest e)) in cc

drill_right : (rest : List Text) → are_names rest ≡ true → IsRight (codes "drill" ∷ rest)
unfolding found_text found_texts
drill_right [] e f = rw (drill_entered []) refl
drill_right (a ∷ []) e f = rw (drill_entered (a ∷ []), drill_row a (first_name a [] e)) refl
drill_right (a ∷ b ∷ []) e f =
    rw (
      drill_entered (a ∷ b ∷ []),
      drill_rows a b (first_name a (b ∷ []) e) (first_name b [] (more_names a (b ∷ []) e)),
    ) refl
drill_right (a ∷ b ∷ d ∷ rest) e f =
    let e₁ = more_names a (b ∷ d ∷ rest) e in
    let e₂ = more_names b (d ∷ rest) e₁ in
    let bad = sym f ∙ drill_faults (a ∷ b ∷ d ∷ rest) ∙ ap (λ k. or_else k [])
    (drill_more a b d rest (first_name a (b ∷ d ∷ rest) e) (first_name b (d ∷ rest) e₁) (first_name d rest e₂)) in
    cc

copy_right : (rest : List Text) → are_names rest ≡ true → IsRight (codes "copy" ∷ rest)
unfolding found_text found_texts
copy_right [] e f = rw (copy_entered []) refl
copy_right (a ∷ []) e f = rw (copy_entered (a ∷ []), src_row a (first_name a [] e)) refl
copy_right (a ∷ b ∷ []) e f =
    rw (
      copy_entered (a ∷ b ∷ []),
      copy_rows a b (first_name a (b ∷ []) e) (first_name b [] (more_names a (b ∷ []) e)),
    ) refl
copy_right (a ∷ b ∷ x ∷ xs) e f =
    let e₁ = more_names a (b ∷ x ∷ xs) e in
    rw (
      copy_entered (a ∷ b ∷ x ∷ xs),
      copy_rows_told a b x xs (first_name a (b ∷ x ∷ xs) e) (first_name b (x ∷ xs) e₁) (more_names b (x ∷ xs) e₁),
    ) refl

merge_right : (rest : List Text) → are_names rest ≡ true → IsRight (codes "merge" ∷ rest)
unfolding found_text found_texts
merge_right [] e f = rw (merge_entered []) refl
merge_right (a ∷ []) e f = rw (merge_entered (a ∷ []), merge_row a (first_name a [] e)) refl
merge_right (a ∷ b ∷ []) e f =
    rw (
      merge_entered (a ∷ b ∷ []),
      merge_two_rows a b (first_name a (b ∷ []) e) (first_name b [] (more_names a (b ∷ []) e)),
    ) refl
merge_right (a ∷ b ∷ d ∷ []) e f =
    let e₁ = more_names a (b ∷ d ∷ []) e in
    rw (
      merge_entered (a ∷ b ∷ d ∷ []),
      merge_rows a b d (first_name a (b ∷ d ∷ []) e) (first_name b (d ∷ []) e₁)
          (first_name d [] (more_names b (d ∷ []) e₁)),
    ) refl
merge_right (a ∷ b ∷ d ∷ x ∷ rest) e f =
    let e₁ = more_names a (b ∷ d ∷ x ∷ rest) e in
    let e₂ = more_names b (d ∷ x ∷ rest) e₁ in
    let e₃ = more_names d (x ∷ rest) e₂ in
    let bad = sym f ∙ merge_faults (a ∷ b ∷ d ∷ x ∷ rest) ∙ ap (λ k. or_else k [])
    (merge_more a b d x rest (first_name a (b ∷ d ∷ x ∷ rest) e) (first_name b (d ∷ x ∷ rest) e₁)
    (first_name d (x ∷ rest) e₂) (first_name x rest e₃)) in
    cc

pub right : (words : List Text) → are_names words ≡ true → IsRight words
right [] e f = ap asked_of nobody
right (w ∷ rest) e f = by_replay (compared w (codes "replay"))
  where
    more : are_names rest ≡ true
    more = more_names w rest e

    at : (k : Text) → w ≡ k → (are_names rest ≡ true → IsRight (k ∷ rest))
        → asked_of (subcommand_of waitq_app (w ∷ rest)) ≡ command_of (w ∷ rest)
    at k is h = subst (λ v. IsRight (v ∷ rest)) (sym is) (h more) f

    by_merge : bytes_eq (codes "replay") w ≡ false → bytes_eq (codes "drill") w ≡ false
        → bytes_eq (codes "copy") w ≡ false → Same w (codes "merge")
        → asked_of (subcommand_of waitq_app (w ∷ rest)) ≡ command_of (w ∷ rest)
    by_merge r d c (same is) = at (codes "merge") is (merge_right rest)
    by_merge r d c (apart m′ m) = absurd (unknown w rest (first_name w rest e) r d c m f)

    by_copy : bytes_eq (codes "replay") w ≡ false → bytes_eq (codes "drill") w ≡ false → Same w (codes "copy")
        → asked_of (subcommand_of waitq_app (w ∷ rest)) ≡ command_of (w ∷ rest)
    by_copy r d (same is) = at (codes "copy") is (copy_right rest)
    by_copy r d (apart c′ c) = by_merge r d c (compared w (codes "merge"))

    by_drill : bytes_eq (codes "replay") w ≡ false → Same w (codes "drill")
        → asked_of (subcommand_of waitq_app (w ∷ rest)) ≡ command_of (w ∷ rest)
    by_drill r (same is) = at (codes "drill") is (drill_right rest)
    by_drill r (apart d′ d) = by_copy r d (compared w (codes "copy"))

    by_replay : Same w (codes "replay") → asked_of (subcommand_of waitq_app (w ∷ rest)) ≡ command_of (w ∷ rest)
    by_replay (same is) = at (codes "replay") is (replay_right rest)
    by_replay (apart r′ r) = by_drill r (compared w (codes "drill"))

-- a parse that is refused
abbrev IsNone : List Text → Type 0
IsNone words = (fault_of waitq_app words ≡ [] → ⊥) → command_of words ≡ None

replay_none : (rest : List Text) → IsNone (codes "replay" ∷ rest)
replay_none [] n = absurd (n (replay_faults [] ∙ ap (λ k. or_else k []) replay_alone))
replay_none (x ∷ []) n = refl
replay_none (x ∷ y ∷ more) n = refl

drill_none : (rest : List Text) → are_names rest ≡ true → IsNone (codes "drill" ∷ rest)
drill_none [] e n = refl
drill_none (a ∷ []) e n = refl
drill_none (a ∷ b ∷ []) e n = absurd (n (drill_faults (a ∷ b ∷ []) ∙ ap (λ k. or_else k [])
    (drill_passes a b (first_name a (b ∷ []) e) (first_name b [] (more_names a (b ∷ []) e)))))
drill_none (a ∷ b ∷ d ∷ rest) e n = refl

either : (b : Bool) (x : Option Request) → (if b then x else x) ≡ x
either true x = refl
either false x = refl

unplanned : (a b : Text) (xs : List Text) → plan_of xs ≡ None → copy_at a b xs ≡ None
unplanned a b xs e = rw e (either (is_name a && is_name b && not (bytes_eq a b)) None)

copy_none : (rest : List Text) → are_names rest ≡ true → IsNone (codes "copy" ∷ rest)
copy_none [] e n = refl
copy_none (a ∷ []) e n = refl
copy_none (a ∷ b ∷ []) e n = absurd (n (copy_faults (a ∷ b ∷ []) ∙ ap (λ k. or_else k [])
    (copy_passes a b (first_name a (b ∷ []) e) (first_name b [] (more_names a (b ∷ []) e)))))
copy_none (a ∷ b ∷ x ∷ xs) e n = go (nat_le (length (x ∷ xs)) 16) refl
  where
    e₁ : are_names (b ∷ x ∷ xs) ≡ true
    e₁ = more_names a (b ∷ x ∷ xs) e

    go : (t : Bool) → nat_le (length (x ∷ xs)) 16 ≡ t → copy_at a b (x ∷ xs) ≡ None
    go true few = absurd (n (copy_faults (a ∷ b ∷ x ∷ xs) ∙ ap (λ k. or_else k [])
        (copy_passes_told a b x xs (first_name a (b ∷ x ∷ xs) e) (first_name b (x ∷ xs) e₁) (more_names b (x ∷ xs) e₁)
        (grind (arith, nat_tests)))))
    go false many = unplanned a b (x ∷ xs) (rw many refl)

merge_none : (rest : List Text) → are_names rest ≡ true → IsNone (codes "merge" ∷ rest)
merge_none [] e n = refl
merge_none (a ∷ []) e n = refl
merge_none (a ∷ b ∷ []) e n = refl
merge_none (a ∷ b ∷ d ∷ []) e n =
    let e₁ = more_names a (b ∷ d ∷ []) e in
    absurd (n (merge_faults (a ∷ b ∷ d ∷ []) ∙ ap (λ k. or_else k [])
    (merge_passes a b d (first_name a (b ∷ d ∷ []) e) (first_name b (d ∷ []) e₁)
    (first_name d [] (more_names b (d ∷ []) e₁)))))
merge_none (a ∷ b ∷ d ∷ x ∷ rest) e n = refl

unknown_none : (w : Text) (rest : List Text) → bytes_eq w (codes "replay") ≡ false → bytes_eq w (codes "drill") ≡ false
    → bytes_eq w (codes "copy") ≡ false → bytes_eq w (codes "merge") ≡ false → command_of (w ∷ rest) ≡ None
unknown_none w [] r d c m = rw r refl
unknown_none w (x ∷ []) r d c m = refl
unknown_none w (x ∷ y ∷ more) r d c m = rw (d, c, m) refl

pub none : (words : List Text) → are_names words ≡ true → IsNone words
none [] e n = refl
none (w ∷ rest) e n = by_replay (compared w (codes "replay"))
  where
    at : (k : Text) → w ≡ k → IsNone (k ∷ rest) → command_of (w ∷ rest) ≡ None
    at k is h = subst (λ v. IsNone (v ∷ rest)) (sym is) h n

    by_merge : bytes_eq w (codes "replay") ≡ false → bytes_eq w (codes "drill") ≡ false
        → bytes_eq w (codes "copy") ≡ false → Same w (codes "merge") → command_of (w ∷ rest) ≡ None
    by_merge r d c (same is) = at (codes "merge") is (merge_none rest (more_names w rest e))
    by_merge r d c (apart m m′) = unknown_none w rest r d c m

    by_copy : bytes_eq w (codes "replay") ≡ false → bytes_eq w (codes "drill") ≡ false → Same w (codes "copy")
        → command_of (w ∷ rest) ≡ None
    by_copy r d (same is) = at (codes "copy") is (copy_none rest (more_names w rest e))
    by_copy r d (apart c c′) = by_merge r d c (compared w (codes "merge"))

    by_drill : bytes_eq w (codes "replay") ≡ false → Same w (codes "drill") → command_of (w ∷ rest) ≡ None
    by_drill r (same is) = at (codes "drill") is (drill_none rest (more_names w rest e))
    by_drill r (apart d d′) = by_copy r d (compared w (codes "copy"))

    by_replay : Same w (codes "replay") → command_of (w ∷ rest) ≡ None
    by_replay (same is) = at (codes "replay") is (replay_none rest)
    by_replay (apart r r′) = by_drill r (compared w (codes "drill"))

-- words that a parse is not shown
not_false : (x : Bool) → not x ≡ false → x ≡ true
not_false true e = refl
not_false false e = cc

dash : (w : Text) → is_name w ≡ false → (w ≡ []) ⊎ ((bs : List ℕ) × (w ≡ 45 ∷ bs))
dash [] e = inl refl
dash (b ∷ bs) e = inr (bs, ap (λ x. x ∷ bs) ((Decides-eqb b 45).0 (not_false (b == 45) e)))

no_number : (w : Text) → is_name w ≡ false → numeral_value w ≡ None
no_number w e = go (dash w e)
  where
    go : (w ≡ []) ⊎ ((bs : List ℕ) × (w ≡ 45 ∷ bs)) → numeral_value w ≡ None
    go (inl f) = rw f refl
    go (inr (bs, f)) = rw f refl

no_event : (w : Text) → is_name w ≡ false → event_of w ≡ None
no_event w e = go (dash w e)
  where
    go : (w ≡ []) ⊎ ((bs : List ℕ) × (w ≡ 45 ∷ bs)) → event_of w ≡ None
    go (inl f) = rw f refl
    go (inr (bs, f)) = rw f refl

no_command : (w : Text) (rest : List Text) → is_name w ≡ false → command_of (w ∷ rest) ≡ None
no_command w rest e = go rest (dash w e)
  where
    go : (more : List Text) → (w ≡ []) ⊎ ((bs : List ℕ) × (w ≡ 45 ∷ bs)) → command_of (w ∷ more) ≡ None
    go [] (inl f) = rw f refl
    go [] (inr (bs, f)) = rw f refl
    go (x ∷ []) h = refl
    go (x ∷ y ∷ more) (inl f) = rw f refl
    go (x ∷ y ∷ more) (inr (bs, f)) = rw f refl

before_none : (p : Option Planned) → before p None ≡ None
before_none (Some p) = refl
before_none None = refl

no_events : (ws : List Text) → are_names ws ≡ false → events_of ws ≡ None
no_events [] e = cc
no_events (w ∷ ws) e = go (no_events ws) (is_name w) refl e
  where
    go : (are_names ws ≡ false → events_of ws ≡ None) → (b : Bool) → is_name w ≡ b → (b && are_names ws) ≡ false
        → events_of (w ∷ ws) ≡ None
    go more true f g = rw (more g) (before_none (event_of w))
    go more false f g = rw (no_event w f) refl

either_plan : (b : Bool) (x : Option (List Planned)) → (if b then x else x) ≡ x
either_plan true x = refl
either_plan false x = refl

no_plan : (ws : List Text) → are_names ws ≡ false → plan_of ws ≡ None
no_plan ws e = rw (no_events ws e) (either_plan (nat_le (length ws) 16) None)

no_numbers : (a b : Text) (more : List Text) → are_names (a ∷ b ∷ more) ≡ false → drill_of a b more ≡ None
no_numbers a b (x ∷ more) e = refl
no_numbers a b [] e = go (is_name a) (is_name b) refl refl e
  where
    second : (n : Option ℕ) → drill_at n None ≡ None
    second (Some n) = refl
    second None = refl

    go : (p q : Bool) → is_name a ≡ p → is_name b ≡ q → (p && (q && true)) ≡ false → drill_of a b [] ≡ None
    go false q f g h = rw (no_number a f) refl
    go true false f g h = rw (no_number b g) (second (numeral_value a))
    go true true f g h = cc

no_copy : (a b : Text) (more : List Text) → are_names (a ∷ b ∷ more) ≡ false → copy_at a b more ≡ None
no_copy a b more e = go (is_name a) (is_name b) refl refl e
  where
    go : (p q : Bool) → is_name a ≡ p → is_name b ≡ q → (p && (q && are_names more)) ≡ false → copy_at a b more ≡ None
    go false q f g h = rw f refl
    go true false f g h = rw (f, g) refl
    go true true f g h = unplanned a b more (no_plan more h)

merge_unnamed : (p q r s t u : Bool) (x : Option Request) → (p && (q && (r && true))) ≡ false
    → (if p && q && r && s && t && u then x else None) ≡ None
merge_unnamed false q r s t u x e = refl
merge_unnamed true false r s t u x e = refl
merge_unnamed true true false s t u x e = refl
merge_unnamed true true true s t u x e = cc

no_merge : (a b : Text) (more : List Text) → are_names (a ∷ b ∷ more) ≡ false → merge_of a b more ≡ None
no_merge a b [] e = refl
no_merge a b (d ∷ []) e = merge_unnamed (is_name a) (is_name b) (is_name d) _ _ _ _ e
no_merge a b (d ∷ x ∷ more) e = refl

four : (x y z : Bool) (d c m : Option Request) → d ≡ None → c ≡ None → m ≡ None
    → (if x then d else (if y then c else (if z then m else None))) ≡ None
four true y z d c m e f g = e
four false true z d c m e f g = f
four false false true d c m e f g = g
four false false false d c m e f g = refl

pub unnamed : (words : List Text) → are_names words ≡ false → command_of words ≡ None
unnamed [] e = refl
unnamed (w ∷ rest) e = go (is_name w) refl e
  where
    long : (more : List Text) → are_names more ≡ false → command_of (w ∷ more) ≡ None
    long [] g = cc
    long (x ∷ []) g = refl
    long (x ∷ y ∷ more) g = four (bytes_eq w (codes "drill")) (bytes_eq w (codes "copy")) (bytes_eq w (codes "merge"))
        _ _ _ (no_numbers x y more g) (no_copy x y more g) (no_merge x y more g)

    go : (b : Bool) → is_name w ≡ b → (b && are_names rest) ≡ false → command_of (w ∷ rest) ≡ None
    go true f g = long rest g
    go false f g = no_command w rest f

-- the test of all words, of the strings that hold them
pub all_names : {X : Type 0} (bytes : X → Text) (xs : List X)
    → list_all (λ x. is_name (bytes x)) xs ≡ are_names (map bytes xs)
all_names bytes [] = refl
all_names bytes (x ∷ xs) = ap (λ b. is_name (bytes x) && b) (all_names bytes xs)

-- the pairs of two readings
abbrev pub both : {X : Type 0} → (X → Text) → (X → List Row) → X → Text × List Row
both n r x = (n x, r x)

pub paired : {X Y : Type 0} (a : Y → Text) (b : Y → List Row) (n : X → Text) (r : X → List Row)
    (o : Option Y) (s : Option X)
    → option_map a o ≡ option_map n s
    → option_map b o ≡ option_map (λ (p : Text × List Row). p.1) (option_map (both n r) s)
    → option_map (both a b) o ≡ option_map (both n r) s
paired a b n r None None e f = refl
paired a b n r None (Some x) e f = cc
paired a b n r (Some y) None e f = cc
paired a b n r (Some y) (Some x) e f =
    let g : a y ≡ n x = cc in
    let h : b y ≡ r x = cc in
    let pair : Text → List Row → Option (Text × List Row) = λ u v. Some (u, v) in
    ap₂ pair g h
