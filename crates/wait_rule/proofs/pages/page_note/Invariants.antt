use Rattle.wait_rule.proofs.pages.page_note.Given as goal

abbrev pub ghosts-note_as : goal.ghosts-note_as
ghosts-note_as a = record { number = a.word }
