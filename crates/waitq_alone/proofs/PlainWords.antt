-- What a parse makes of plain words.
use Rattle.std.proofs.Common.{◌≡◌, ℕ, ◌≤◌, List, [], ◌∷◌, ◌++◌, Bool, true, false, Some, None, refl, codes, ap, ap₂}
use Rattle.std.proofs.Common.{◌∙◌, ◌==◌, ◌&&◌, fold, length, append_assoc, arith}
use Rattle.std.specs.Prelude.{not}
use Rattle.std.proofs.lemmas.List.{append-nil}
use Rattle.std.proofs.lemmas.Bool.Decides.{nat_tests}
use Rattle.clap.specs.Words.{App, Row, Rule, Shape, Text, Kinds, is_simple, fault_of, is_simple_and_free, subcommand_of}
use Rattle.clap.specs.Words.{built, reading_of}
use Rattle.clap.specs.Walk.{Held, Names, Walk, Waiting, subcommand_met, idle, positional, value, walk, walked}
use Rattle.clap.specs.Walk.{to_positional, arg_by_index, walk_from, nothing_held, finished, rows_after}
use Rattle.clap.specs.Simple.{built_leaf, inherited, marked_built, names_of, rows_at, with_leaf_noted}
use Rattle.clap.specs.Kinds.{or_else, values_kinds, range_kinds}
use Rattle.clap.specs.Faults.{walk_fault, turn_fault, step_fault, level_fault, defaults_fault}
use Rattle.clap.specs.declared.error.kind.ErrorKind.TheVariants.{UnknownArgument}
use Rattle.clap.specs.declared.parser.matches.ValueSource.TheVariants.{CommandLine}
use Rattle.clap.specs.declared.builder.value_parser.ValueParser.TheVariants as parser
use Rattle.std.specs.Str.{bytes_eq}
use Rattle.clap.proofs.OnLiterals.{clap_on_literals}
use Rattle.waitq_alone.specs.Commands.{is_name}
use Rattle.waitq_alone.specs.Parsed.{are_names, waitq_app, replay_app, drill_app, copy_app, merge_app}

-- a subcommand as it is built
abbrev pub leaf_of : App → Shape
leaf_of a = built_leaf (inherited (with_leaf_noted (marked_built waitq_app.top)) a.top)

not_true : (x : Bool) → not x ≡ true → x ≡ false
not_true true e = cc
not_true false e = refl

-- between two words
abbrev pub at : Waiting → ℕ → Held → Walk
at w p h = record { held = h; waiting = w; position = p; is_trailing = false; stopped = None }

-- a plain word goes to the positional that stands there
pub went : (c : List Rule) (p : ℕ) (h : Held) (w : Text) → is_name w ≡ true
    → walked c [] (at idle p h) w ≡ to_positional c (arg_by_index c p) w (at idle p h) h
unfolding walked
went c p h [] e = cc
went c p h (b ∷ bs) e = let plain = not_true (b == 45) e in rw (plain, plain) refl

pub went_on : (c : List Rule) (p : ℕ) (h : Held) (w : Text) → is_name w ≡ true
    → walked c [] (at positional p h) w ≡ to_positional c (arg_by_index c p) w (at positional p h) h
unfolding walked
went_on c p h [] e = cc
went_on c p h (b ∷ bs) e = let plain = not_true (b == 45) e in rw (plain, plain) refl

pub turned : (s : Shape) (names : Names) (p : ℕ) (h : Held) (w : Text) → is_name w ≡ true
    → subcommand_met names idle w ≡ None → turn_fault s names (at idle p h) w ≡ step_fault s p h value
turned s names p h [] e none = cc
turned s names p h (b ∷ bs) e none = let plain = not_true (b == 45) e in simp (none, plain)

pub turned_on : (s : Shape) (p : ℕ) (h : Held) (w : Text) → is_name w ≡ true
    → turn_fault s [] (at positional p h) w ≡ step_fault s p h value
turned_on s p h [] e = cc
turned_on s p h (b ∷ bs) e = let plain = not_true (b == 45) e in simp plain

-- the faults of one word and of those after it
pub walk_on : (s : Shape) (p : ℕ) (h : Held) (w : Text) (rest : List Text) → is_name w ≡ true
    → walk_fault s [] (at idle p h) (w ∷ rest) ≡ or_else (step_fault s p h value)
    (walk_fault s [] (to_positional s.rules (arg_by_index s.rules p) w (at idle p h) h) rest)
unfolding walk_fault
walk_on s p h w rest e = ap₂ or_else (turned s [] p h w e refl)
    (ap (λ (x : Walk). walk_fault s [] x rest) (went s.rules p h w e))

pub walk_on_still : (s : Shape) (p : ℕ) (h : Held) (w : Text) (rest : List Text) → is_name w ≡ true
    → walk_fault s [] (at positional p h) (w ∷ rest) ≡ or_else (step_fault s p h value)
    (walk_fault s [] (to_positional s.rules (arg_by_index s.rules p) w (at positional p h) h) rest)
unfolding walk_fault
walk_on_still s p h w rest e = ap₂ or_else (turned_on s p h w e)
    (ap (λ (x : Walk). walk_fault s [] x rest) (went_on s.rules p h w e))

pub walk_ended : (s : Shape) (w : Walk) → walk_fault s [] w [] ≡ []
unfolding walk_fault
walk_ended s w = refl

-- once a subcommand is met, all words go to it
abbrev pub stopped_at : Text → List Text → Walk
stopped_at n ws = record {
  held = nothing_held;
  waiting = idle;
  position = 1;
  is_trailing = false;
  stopped = Some (n, ws);
}

pub gathered : (c : List Rule) (names : Names) (n : Text) (ws rest : List Text)
    → fold (walked c names) (stopped_at n ws) rest ≡ stopped_at n (ws ++ rest)
unfolding walked
gathered c names n ws [] = rw (append-nil ws) refl
gathered c names n ws (w ∷ rest) =
    gathered c names n (ws ++ w ∷ []) rest ∙ ap (stopped_at n) (append_assoc ws (w ∷ []) rest)

pub quiet : (s : Shape) (names : Names) (n : Text) (ws rest : List Text)
    → walk_fault s names (stopped_at n ws) rest ≡ []
unfolding walk_fault walked
quiet s names n ws [] = refl
quiet s names n ws (w ∷ rest) = quiet s names n (ws ++ w ∷ []) rest

pub free : is_simple_and_free waitq_app ≡ true
free = refl

pub simple : is_simple waitq_app ≡ true
simple = refl

pub nothing : fault_of waitq_app [] ≡ []
unfolding clap_on_literals
nothing = refl

pub nobody : subcommand_of waitq_app [] ≡ None
unfolding clap_on_literals
nobody = refl

abbrev names : Names
names = names_of (built waitq_app)

pub replay_entered : (rest : List Text)
    → subcommand_of waitq_app (codes "replay" ∷ rest) ≡ Some (rows_at (leaf_of replay_app) rest)
unfolding clap_on_literals
replay_entered rest = rw (gathered [] names (codes "replay") [] rest) refl

pub drill_entered : (rest : List Text)
    → subcommand_of waitq_app (codes "drill" ∷ rest) ≡ Some (rows_at (leaf_of drill_app) rest)
unfolding clap_on_literals
drill_entered rest = rw (gathered [] names (codes "drill") [] rest) refl

pub copy_entered : (rest : List Text)
    → subcommand_of waitq_app (codes "copy" ∷ rest) ≡ Some (rows_at (leaf_of copy_app) rest)
unfolding clap_on_literals
copy_entered rest = rw (gathered [] names (codes "copy") [] rest) refl

abbrev pub leaf_fault : App → List Text → Kinds
leaf_fault a words = level_fault (leaf_of a) [] nothing_held words false []

pub merge_entered : (rest : List Text)
    → subcommand_of waitq_app (codes "merge" ∷ rest) ≡ Some (rows_at (leaf_of merge_app) rest)
unfolding clap_on_literals
merge_entered rest = rw (gathered [] names (codes "merge") [] rest) refl

pub replay_faults : (rest : List Text)
    → fault_of waitq_app (codes "replay" ∷ rest) ≡ or_else (leaf_fault replay_app rest) []
unfolding clap_on_literals
replay_faults rest =
    rw (gathered [] names (codes "replay") [] rest, quiet (built waitq_app).top names (codes "replay") [] rest) refl

pub drill_faults : (rest : List Text)
    → fault_of waitq_app (codes "drill" ∷ rest) ≡ or_else (leaf_fault drill_app rest) []
unfolding clap_on_literals
drill_faults rest =
    rw (gathered [] names (codes "drill") [] rest, quiet (built waitq_app).top names (codes "drill") [] rest) refl

pub copy_faults : (rest : List Text)
    → fault_of waitq_app (codes "copy" ∷ rest) ≡ or_else (leaf_fault copy_app rest) []
unfolding clap_on_literals
copy_faults rest =
    rw (gathered [] names (codes "copy") [] rest, quiet (built waitq_app).top names (codes "copy") [] rest) refl

pub merge_faults : (rest : List Text)
    → fault_of waitq_app (codes "merge" ∷ rest) ≡ or_else (leaf_fault merge_app rest) []
unfolding clap_on_literals
merge_faults rest =
    rw (gathered [] names (codes "merge") [] rest, quiet (built waitq_app).top names (codes "merge") [] rest) refl

-- a first word that is no subcommand
pub unknown : (w : Text) (rest : List Text) → is_name w ≡ true → bytes_eq (codes "replay") w ≡ false
    → bytes_eq (codes "drill") w ≡ false → bytes_eq (codes "copy") w ≡ false → bytes_eq (codes "merge") w ≡ false
    → fault_of waitq_app (w ∷ rest) ≡ [] → ⊥
unfolding walk_fault
unknown w rest e r d c m =
    let none : subcommand_met names idle w ≡ None = rw (r, d, c, m) refl in
    let stray = turned (built waitq_app).top names 1 nothing_held w e none in
    rw stray (λ x. cc)

-- replay
pub replay_alone : leaf_fault replay_app [] ≡ []
unfolding clap_on_literals
replay_alone = refl

pub replay_more : (w : Text) (rest : List Text) → is_name w ≡ true
    → leaf_fault replay_app (w ∷ rest) ≡ UnknownArgument ∷ []
replay_more w rest e = rw (walk_on (leaf_of replay_app) 1 nothing_held w rest e) refl

-- what was found of one positional
abbrev pub given : Text → List Text → Row
given id values = record {
  id = id;
  values = values;
  count = None;
  source = Some CommandLine;
  reading = reading_of parser.String;
}

abbrev pub held_with : List Row → Text → List Text → Held
held_with rows id values = record { rows = rows; pending = Some (id, values); skip = 0 }

-- drill
abbrev drill_rules : List Rule
drill_rules = (leaf_of drill_app).rules

abbrev seeded : Text → Held
seeded a = held_with [] (codes "seed") (a ∷ [])

abbrev counted : Text → Text → Held
counted a b = held_with (given (codes "seed") (a ∷ []) ∷ []) (codes "count") (b ∷ [])

seed_went : (a : Text) → is_name a ≡ true → walked drill_rules [] (walk_from nothing_held) a ≡ at idle 2 (seeded a)
seed_went a e = went drill_rules 1 nothing_held a e

count_went : (a b : Text) → is_name b ≡ true → walked drill_rules [] (at idle 2 (seeded a)) b ≡ at idle 3 (counted a b)
count_went a b e = went drill_rules 2 (seeded a) b e

pub drill_rows : (a b : Text) → is_name a ≡ true → is_name b ≡ true
    → rows_after drill_rules [] (a ∷ b ∷ []) ≡ given (codes "seed") (a ∷ []) ∷ given (codes "count") (b ∷ []) ∷ []
drill_rows a b e f = rw (seed_went a e, count_went a b f) refl

pub drill_row : (a : Text) → is_name a ≡ true
    → rows_after drill_rules [] (a ∷ []) ≡ given (codes "seed") (a ∷ []) ∷ []
drill_row a e = rw (seed_went a e) refl

pub drill_passes : (a b : Text) → is_name a ≡ true → is_name b ≡ true → leaf_fault drill_app (a ∷ b ∷ []) ≡ []
unfolding defaults_fault
drill_passes a b e f = rw (
  walk_on (leaf_of drill_app) 1 nothing_held a (b ∷ []) e,
  walk_on (leaf_of drill_app) 2 (seeded a) b [] f,
  walk_ended (leaf_of drill_app) (at idle 3 (counted a b)),
  seed_went a e,
  count_went a b f,
) refl

pub drill_more : (a b d : Text) (rest : List Text) → is_name a ≡ true → is_name b ≡ true → is_name d ≡ true
    → leaf_fault drill_app (a ∷ b ∷ d ∷ rest) ≡ UnknownArgument ∷ []
drill_more a b d rest e f g = rw (
  walk_on (leaf_of drill_app) 1 nothing_held a (b ∷ d ∷ rest) e,
  walk_on (leaf_of drill_app) 2 (seeded a) b (d ∷ rest) f,
  walk_on (leaf_of drill_app) 3 (counted a b) d rest g,
) refl

-- copy
abbrev copy_rules : List Rule
copy_rules = (leaf_of copy_app).rules

abbrev sourced : Text → Held
sourced a = held_with [] (codes "src") (a ∷ [])

abbrev aimed : Text → Text → Held
aimed a b = held_with (given (codes "src") (a ∷ []) ∷ []) (codes "dst") (b ∷ [])

abbrev pub two_rows : Text → Text → List Row
two_rows a b = given (codes "src") (a ∷ []) ∷ given (codes "dst") (b ∷ []) ∷ []

abbrev told : Text → Text → List Text → Held
told a b xs = held_with (two_rows a b) (codes "event") xs

src_went : (a : Text) → is_name a ≡ true → walked copy_rules [] (walk_from nothing_held) a ≡ at idle 2 (sourced a)
src_went a e = went copy_rules 1 nothing_held a e

dst_went : (a b : Text) → is_name b ≡ true → walked copy_rules [] (at idle 2 (sourced a)) b ≡ at idle 3 (aimed a b)
dst_went a b e = went copy_rules 2 (sourced a) b e

event_went : (a b x : Text) → is_name x ≡ true
    → walked copy_rules [] (at idle 3 (aimed a b)) x ≡ at positional 3 (told a b (x ∷ []))
event_went a b x e = went copy_rules 3 (aimed a b) x e

more_went : (a b : Text) (xs : List Text) (x : Text) → is_name x ≡ true
    → walked copy_rules [] (at positional 3 (told a b xs)) x ≡ at positional 3 (told a b (xs ++ x ∷ []))
more_went a b xs x e = went_on copy_rules 3 (told a b xs) x e

-- the parts of a test of all words
pub first_name : (w : Text) (rest : List Text) → are_names (w ∷ rest) ≡ true → is_name w ≡ true
first_name w rest e = go (is_name w) e
  where
    go : (b : Bool) → (b && are_names rest) ≡ true → b ≡ true
    go true e = refl
    go false e = cc

pub more_names : (w : Text) (rest : List Text) → are_names (w ∷ rest) ≡ true → are_names rest ≡ true
more_names w rest e = go (is_name w) e
  where
    go : (b : Bool) → (b && are_names rest) ≡ true → are_names rest ≡ true
    go true e = e
    go false e = cc

all_went : (a b : Text) (xs ys : List Text) → are_names ys ≡ true
    → fold (walked copy_rules []) (at positional 3 (told a b xs)) ys ≡ at positional 3 (told a b (xs ++ ys))
all_went a b xs [] e = rw (append-nil xs) refl
all_went a b xs (y ∷ ys) e =
    ap (λ (w : Walk). fold (walked copy_rules []) w ys) (more_went a b xs y (first_name y ys e))
    ∙ all_went a b (xs ++ y ∷ []) ys (more_names y ys e)
    ∙ ap (λ zs. at positional 3 (told a b zs)) (append_assoc xs (y ∷ []) ys)

all_walked : (a b : Text) (xs ys : List Text) → are_names ys ≡ true
    → walk_fault (leaf_of copy_app) [] (at positional 3 (told a b xs)) ys ≡ []
all_walked a b xs [] e = walk_ended (leaf_of copy_app) (at positional 3 (told a b xs))
all_walked a b xs (y ∷ ys) e =
    walk_on_still (leaf_of copy_app) 3 (told a b xs) y ys (first_name y ys e)
    ∙ all_walked a b (xs ++ y ∷ []) ys (more_names y ys e)

-- any text is a value
no_kinds : (vs : List Text) → values_kinds false parser.String vs ≡ []
no_kinds [] = refl
no_kinds (v ∷ vs) = no_kinds vs

few_kinds : (n : ℕ) → 1 ≤ n → n ≤ 16 → range_kinds 1 16 n ≡ []
few_kinds n least most = grind (arith, nat_tests)

pub src_row : (a : Text) → is_name a ≡ true → rows_after copy_rules [] (a ∷ []) ≡ given (codes "src") (a ∷ []) ∷ []
src_row a e = rw (src_went a e) refl

pub copy_rows : (a b : Text) → is_name a ≡ true → is_name b ≡ true
    → rows_after copy_rules [] (a ∷ b ∷ []) ≡ two_rows a b
copy_rows a b e f = rw (src_went a e, dst_went a b f) refl

told_walk : (a b x : Text) (xs : List Text) → is_name a ≡ true → is_name b ≡ true → are_names (x ∷ xs) ≡ true
    → walk copy_rules [] nothing_held (a ∷ b ∷ x ∷ xs) ≡ at positional 3 (told a b (x ∷ xs))
told_walk a b x xs e f g =
    ap (λ w. fold (walked copy_rules []) w (b ∷ x ∷ xs)) (src_went a e)
    ∙ ap (λ w. fold (walked copy_rules []) w (x ∷ xs)) (dst_went a b f)
    ∙ ap (λ w. fold (walked copy_rules []) w xs) (event_went a b x (first_name x xs g))
    ∙ all_went a b (x ∷ []) xs (more_names x xs g)

pub copy_rows_told : (a b x : Text) (xs : List Text) → is_name a ≡ true → is_name b ≡ true → are_names (x ∷ xs) ≡ true
    → rows_after copy_rules [] (a ∷ b ∷ x ∷ xs)
    ≡ given (codes "src") (a ∷ []) ∷ given (codes "dst") (b ∷ []) ∷ given (codes "event") (x ∷ xs) ∷ []
copy_rows_told a b x xs e f g =
    ap (λ (w : Walk). finished copy_rules w.held) (told_walk a b x xs e f g)

pub copy_passes : (a b : Text) → is_name a ≡ true → is_name b ≡ true → leaf_fault copy_app (a ∷ b ∷ []) ≡ []
unfolding defaults_fault
copy_passes a b e f = rw (
  walk_on (leaf_of copy_app) 1 nothing_held a (b ∷ []) e,
  walk_on (leaf_of copy_app) 2 (sourced a) b [] f,
  walk_ended (leaf_of copy_app) (at idle 3 (aimed a b)),
  src_went a e,
  dst_went a b f,
) refl

pub copy_passes_told : (a b x : Text) (xs : List Text) → is_name a ≡ true → is_name b ≡ true
    → are_names (x ∷ xs) ≡ true → length (x ∷ xs) ≤ 16 → leaf_fault copy_app (a ∷ b ∷ x ∷ xs) ≡ []
unfolding defaults_fault
copy_passes_told a b x xs e f g most = rw (
  walk_on (leaf_of copy_app) 1 nothing_held a (b ∷ x ∷ xs) e,
  walk_on (leaf_of copy_app) 2 (sourced a) b (x ∷ xs) f,
  walk_on (leaf_of copy_app) 3 (aimed a b) x xs (first_name x xs g),
  all_walked a b (x ∷ []) xs (more_names x xs g),
  told_walk a b x xs e f g,
  few_kinds (length (x ∷ xs)) (omega arith) most,
  no_kinds (x ∷ xs),
) refl

-- merge
abbrev merge_rules : List Rule
merge_rules = (leaf_of merge_app).rules

abbrev held_one : Text → Held
held_one a = held_with [] (codes "a") (a ∷ [])

abbrev held_two : Text → Text → Held
held_two a b = held_with (given (codes "a") (a ∷ []) ∷ []) (codes "b") (b ∷ [])

abbrev pub source_rows : Text → Text → List Row
source_rows a b = given (codes "a") (a ∷ []) ∷ given (codes "b") (b ∷ []) ∷ []

abbrev held_three : Text → Text → Text → Held
held_three a b d = held_with (source_rows a b) (codes "dst") (d ∷ [])

one_went : (a : Text) → is_name a ≡ true → walked merge_rules [] (walk_from nothing_held) a ≡ at idle 2 (held_one a)
one_went a e = went merge_rules 1 nothing_held a e

two_went : (a b : Text) → is_name b ≡ true
    → walked merge_rules [] (at idle 2 (held_one a)) b ≡ at idle 3 (held_two a b)
two_went a b e = went merge_rules 2 (held_one a) b e

three_went : (a b d : Text) → is_name d ≡ true
    → walked merge_rules [] (at idle 3 (held_two a b)) d ≡ at idle 4 (held_three a b d)
three_went a b d e = went merge_rules 3 (held_two a b) d e

pub merge_row : (a : Text) → is_name a ≡ true
    → rows_after merge_rules [] (a ∷ []) ≡ given (codes "a") (a ∷ []) ∷ []
merge_row a e = rw (one_went a e) refl

pub merge_two_rows : (a b : Text) → is_name a ≡ true → is_name b ≡ true
    → rows_after merge_rules [] (a ∷ b ∷ []) ≡ source_rows a b
merge_two_rows a b e f = rw (one_went a e, two_went a b f) refl

pub merge_rows : (a b d : Text) → is_name a ≡ true → is_name b ≡ true → is_name d ≡ true
    → rows_after merge_rules [] (a ∷ b ∷ d ∷ [])
    ≡ given (codes "a") (a ∷ []) ∷ given (codes "b") (b ∷ []) ∷ given (codes "dst") (d ∷ []) ∷ []
merge_rows a b d e f g = rw (one_went a e, two_went a b f, three_went a b d g) refl

pub merge_passes : (a b d : Text) → is_name a ≡ true → is_name b ≡ true → is_name d ≡ true
    → leaf_fault merge_app (a ∷ b ∷ d ∷ []) ≡ []
unfolding defaults_fault
merge_passes a b d e f g = rw (
  walk_on (leaf_of merge_app) 1 nothing_held a (b ∷ d ∷ []) e,
  walk_on (leaf_of merge_app) 2 (held_one a) b (d ∷ []) f,
  walk_on (leaf_of merge_app) 3 (held_two a b) d [] g,
  walk_ended (leaf_of merge_app) (at idle 4 (held_three a b d)),
  one_went a e,
  two_went a b f,
  three_went a b d g,
) refl

pub merge_more : (a b d x : Text) (rest : List Text) → is_name a ≡ true → is_name b ≡ true → is_name d ≡ true
    → is_name x ≡ true → leaf_fault merge_app (a ∷ b ∷ d ∷ x ∷ rest) ≡ UnknownArgument ∷ []
merge_more a b d x rest e f g h = rw (
  walk_on (leaf_of merge_app) 1 nothing_held a (b ∷ d ∷ x ∷ rest) e,
  walk_on (leaf_of merge_app) 2 (held_one a) b (d ∷ x ∷ rest) f,
  walk_on (leaf_of merge_app) 3 (held_two a b) d (x ∷ rest) g,
  walk_on (leaf_of merge_app) 4 (held_three a b d) x rest h,
) refl
