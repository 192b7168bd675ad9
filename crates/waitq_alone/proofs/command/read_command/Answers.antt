use Rattle.std.proofs.Common.{◌≡◌, sym, ap, ◌∙◌, inl, inr, refl, true, map, string_bytes}
use Rattle.waitq_alone.specs.Parsed.{are_names, asked_of}
use Rattle.waitq_alone.proofs.ReadWords.{all_names, none, right, unnamed}
use Rattle.waitq_alone.proofs.command.read_command.Goals as goal

pub returns-then-not-are_names-clause-refused : goal.returns-then-not-are_names-clause-refused
returns-then-not-are_names-clause-refused c =
    inr (
      refl,
      unnamed (map string_bytes c.args.words.now)
          (sym (all_names string_bytes c.args.words.now) ∙ sym c.if-not-are_names.ensures),
    )

pub returns-in-Some-clause-command : goal.returns-in-Some-clause-command
returns-in-Some-clause-command c =
    let names : are_names (map string_bytes c.args.words.now) ≡ true =
    sym (all_names string_bytes c.args.words.now) ∙ sym c.if-not-are_names.ensures in
    c.in-Some.ensures.command ∙ ap asked_of c.in-Ok.ensures.found
    ∙ right (map string_bytes c.args.words.now) names c.in-Ok.ensures.passes

pub returns-in-Ok-clause-refused : goal.returns-in-Ok-clause-refused
returns-in-Ok-clause-refused c =
    let names : are_names (map string_bytes c.args.words.now) ≡ true =
    sym (all_names string_bytes c.args.words.now) ∙ sym c.if-not-are_names.ensures in
    inr (
      refl,
      sym (c.in-None.ensures.command ∙ ap asked_of c.in-Ok.ensures.found
          ∙ right (map string_bytes c.args.words.now) names c.in-Ok.ensures.passes),
    )

pub returns-clause-refused : goal.returns-clause-refused
returns-clause-refused c =
    let names : are_names (map string_bytes c.args.words.now) ≡ true =
    sym (all_names string_bytes c.args.words.now) ∙ sym c.if-not-are_names.ensures in
    elim c.in-Err.ensures.refused [
      | inl h ↦ inl h
      | inr h ↦ inr (h.0, none (map string_bytes c.args.words.now) names h.1)
    ]
