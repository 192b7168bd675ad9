-- Tables of words: that of the calls is that of their names, each with its form; and keywords.
use Rattle.std.proofs.Common.{◌≡◌, ℕ, Bool, true, false, if◌then◌else◌, List, [], ◌∷◌, Option, Some, None, Result, Ok}
use Rattle.std.proofs.Common.{Err, map, refl, ap, ◌∙◌}
use Rattle.std.specs.Option.{ok_or}
use Rattle.std.specs.Str.{bytes_eq}
use Rattle.wait_model.specs.declared.calls.Call.{Call}
use Rattle.wait_script.specs.{declared.names.Name.Name, declared.reason.Reason.Reason}
use Rattle.wait_script.specs.declared.reason.Reason.TheVariants.{UnknownWord}
use Rattle.wait_script.specs.{declared.reason.Reason.TheVariants.BadForm, declared.version.Version.Version}
use Rattle.wait_script.specs.{Fields.keyword_at, Forms.call_in, Forms.shared_forms}
use Rattle.wait_script.specs.Names.{value_in, spelled_names, form_of}

-- what the words say after a word that is this name, or none
abbrev said : Version → Option Name → List (List ℕ) → Result Call Reason
said v None rest = Err UnknownWord
said v (Some name) rest = form_of v name rest

table_said : (v : Version) (table : List (List ℕ × Name)) (word : List ℕ) (rest : List (List ℕ))
    → call_in (map (λ entry. (entry.0, form_of v entry.1)) table) word rest ≡ said v (value_in table word) rest
table_said v [] word rest = refl
table_said v (entry ∷ table) word rest =
    either (bytes_eq word entry.0) entry.1 (value_in table word) (table_said v table word rest)
  where
    either : (b : Bool) (name : Name) (found : Option Name) {y : Result Call Reason} → y ≡ said v found rest
        → (if b then form_of v name rest else y) ≡ said v (if b then Some name else found) rest
    either true name found h = refl
    either false name found h = h

pub some_said : (v : Version) (word : List ℕ) (rest : List (List ℕ)) (name : Name)
    → value_in spelled_names word ≡ Some name → call_in (shared_forms v) word rest ≡ form_of v name rest
some_said v word rest name is = table_said v spelled_names word rest ∙ ap (λ found. said v found rest) is

-- a keyword's value is the table's, or the reason why there is none
pub keyword_in : {A : Type 0} (table : List (List ℕ × A)) (word : List ℕ)
    → ok_or (value_in table word) BadForm ≡ keyword_at table word
keyword_in [] word = refl
keyword_in {A = A} (entry ∷ table) word = either (bytes_eq word entry.0) entry.1 (value_in table word) (keyword_at table word) (keyword_in table word)
  where
    either : (b : Bool) (x : A) (found : Option A) (r : Result A Reason) → ok_or found BadForm ≡ r
        → ok_or (if b then Some x else found) BadForm ≡ (if b then Ok x else r)
    either true x found r h = refl
    either false x found r h = h
