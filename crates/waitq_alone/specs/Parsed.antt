-- For proofs alone.
-- The words that the program takes, as a parse of them sees it: four subcommands, each with its positionals; and what
-- is read of the matches.
use Rattle.std.specs.Prelude.{List, [], ◌∷◌, Option, Some, None, Bool, true, false, unwrap_or, if◌then◌else◌, codes}
use Rattle.std.specs.List.{list_all}
use Rattle.std.specs.Str.{bytes_eq}
use Rattle.clap.specs.{Simple.on_top, declared.parser.matches.ArgMatches.ArgMatches}
use Rattle.clap.specs.Words.{App, Row, Rule, Shape, Text, all_of, first_of, new_app, new_rule, subcommand_rows_of}
use Rattle.clap.specs.Words.{with_rule, with_subcommand}
use Rattle.copy_plan.specs.declared.TheConstants.{SIGNALS}
use Rattle.wait_script.specs.Number.{numeral_value}
use Rattle.waitq_alone.specs.Commands.{Request, Replay, copy_at, drill_at, is_name, merge_at}

-- a parse is shown no other words
abbrev pub are_names : List Text → Bool
are_names = list_all is_name

abbrev pub asks_help : List Text → Bool
asks_help [] = false
asks_help (word ∷ words) = bytes_eq word (codes "help")

abbrev pub needed : Text → Rule
needed id = record (new_rule id) { required = true }

abbrev pub events_rule : Rule
events_rule = record (new_rule (codes "event")) {
  range = Some (record { start_inclusive = 1; end_inclusive = SIGNALS });
}

abbrev pub replay_app : App
replay_app = new_app (codes "replay")

abbrev pub drill_app : App
drill_app = with_rule (with_rule (new_app (codes "drill")) (needed (codes "seed"))) (needed (codes "count"))

abbrev pub copy_app : App
copy_app =
    with_rule (with_rule (with_rule (new_app (codes "copy")) (needed (codes "src"))) (needed (codes "dst"))) events_rule

abbrev pub merge_app : App
merge_app =
    with_rule (with_rule (with_rule (new_app (codes "merge")) (needed (codes "a"))) (needed (codes "b")))
    (needed (codes "dst"))

abbrev pub bare : Shape → Shape
bare s = record s { no_binary_name = true; disable_help_flag = true; disable_help_subcommand = true }

abbrev pub bare_app : App
bare_app = on_top bare (new_app (codes "waitq"))

abbrev pub waitq_app : App
waitq_app =
    with_subcommand (with_subcommand (with_subcommand (with_subcommand bare_app replay_app.top) drill_app.top)
    copy_app.top) merge_app.top

-- what is read of the matches: the first text of an id, all of them, and the subcommand with its rows
unfoldable pub found_text : Text → List Row → Option Text
found_text id rows = first_of id rows

unfoldable pub found_texts : Text → List Row → Option (List Text)
found_texts id rows = all_of id rows

unfoldable pub entry_of : ArgMatches → Option (Text × List Row)
entry_of m = subcommand_rows_of m

-- of `drill`
abbrev pub drill_from : Option Text → Option Text → Option Request
drill_from (Some seed) (Some count) = drill_at (numeral_value seed) (numeral_value count)
drill_from (Some seed) None = None
drill_from None count = None

abbrev pub drill_in : List Row → Option Request
drill_in rows = drill_from (found_text (codes "seed") rows) (found_text (codes "count") rows)

-- of `copy`
abbrev pub copy_from : Option Text → Option Text → List Text → Option Request
copy_from (Some src) (Some dst) events = copy_at src dst events
copy_from (Some src) None events = None
copy_from None dst events = None

abbrev pub copy_in : List Row → Option Request
copy_in rows =
    copy_from (found_text (codes "src") rows) (found_text (codes "dst") rows)
    (unwrap_or (found_texts (codes "event") rows) [])

-- of `merge`
abbrev pub merge_from : Option Text → Option Text → Option Text → Option Request
merge_from (Some a) (Some b) (Some dst) = merge_at a b dst
merge_from (Some a) (Some b) None = None
merge_from (Some a) None dst = None
merge_from None b dst = None

abbrev pub merge_in : List Row → Option Request
merge_in rows =
    merge_from (found_text (codes "a") rows) (found_text (codes "b") rows) (found_text (codes "dst") rows)

-- and of all words
abbrev pub asked_of : Option (Text × List Row) → Option Request
asked_of None = None
asked_of (Some found) =
    if bytes_eq found.0 (codes "replay") then Some Replay
    else if bytes_eq found.0 (codes "drill") then drill_in found.1
    else if bytes_eq found.0 (codes "copy") then copy_in found.1
    else if bytes_eq found.0 (codes "merge") then merge_in found.1
    else None
