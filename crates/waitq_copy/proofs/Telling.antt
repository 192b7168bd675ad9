-- What watchers tell, and their lines, one after another.
use Rattle.std.proofs.Common.{◌≡◌, ℕ, zero, suc, ◌+◌, ◌<◌, List, [], ◌∷◌, ◌++◌, length, drop, sym, ap, ◌∙◌}
use Rattle.std.proofs.Common.{arith, add-one, append_assoc, codes, decimal}
use Rattle.std.specs.Prelude.{slice_index_or}
use Rattle.func_head.specs.Walks.{EntryState, seen_by, told_by}
use Rattle.waitq_copy.specs.Copying.{copy_text, told_pieces, watch_line, watch_lines}
use Rattle.waitq_alone.specs.Drill.{number_line}

next : (es : List EntryState) (p i r : ℕ) → i < length es
    → ((d : EntryState) → r ≡ told_by (slice_index_or es i d).func)
    → watch_lines p (drop i (told_pieces es)) ≡ watch_line p r ++ watch_lines (p + 1) (drop (suc i) (told_pieces es))
next [] p i r lt h = absurd (omega arith)
next (e ∷ es) p zero r lt h =
    ap (λ (t : ℕ). watch_line p t ++ watch_lines (p + 1) (told_pieces es)) (sym (h e))
next (e ∷ es) p (suc i) r lt h = next es p i r (omega arith) h

pub next_line : (es : List EntryState) (i r : ℕ) → i < length es
    → ((d : EntryState) → r ≡ told_by (slice_index_or es i d).func)
    → watch_lines i (drop i (told_pieces es)) ≡ watch_line i r ++ watch_lines (i + 1) (drop (i + 1) (told_pieces es))
next_line es i r lt h = next es i i r lt h
    ∙ ap (λ (n : ℕ). watch_line i r ++ watch_lines (i + 1) (drop n (told_pieces es))) (sym (add-one i))

-- what an entry of a head tells is told by it as it is seen
pub seen_at : {E : Type 0} (see : E → EntryState) (es : List E) (i r : ℕ) → i < length es
    → ((d : E) → r ≡ told_by (see (slice_index_or es i d)).func)
    → (d : EntryState) → r ≡ told_by (slice_index_or (seen_by es see) i d).func
seen_at see [] i r lt h d = absurd (omega arith)
seen_at see (e ∷ es) zero r lt h d = h e
seen_at see (e ∷ es) (suc i) r lt h d = seen_at see es i r (omega arith) h d

-- the line of what was read, and then the others
pub first_line : (read moved sent : ℕ) (told : List ℕ) → copy_text read moved told sent
    ≡ (codes "copied " ++ (decimal read ++ codes " bytes\n"))
    ++ (number_line (codes "moved ") moved ++ (watch_lines 0 told ++ number_line (codes "signals ") sent))
first_line read moved sent told =
    let read_line = codes "copied " ++ (decimal read ++ codes " bytes\n") in
    let moved_line = number_line (codes "moved ") moved in
    let signals = number_line (codes "signals ") sent in
    append_assoc (read_line ++ moved_line) (watch_lines 0 told) signals
    ∙ append_assoc read_line moved_line (watch_lines 0 told ++ signals)
