-- A piece of bytes that is being put into a pipe, or taken out of it.
use Rattle.std.proofs.Common.{◌≡◌, ◌<◌, ◌≤◌, ◌+◌, ◌-◌, ◌/◌, ◌%◌, ◌⊎◌, inl, inr, ℕ, List, [], ◌∷◌, ◌++◌, true, length}
use Rattle.std.proofs.Common.{take, drop, refl, sym, ap, ◌∙◌, subst, arith, ◌*◌, add-zero, append-nil, append_assoc}
use Rattle.std.proofs.Common.{length-append, take-add}
use Rattle.std.proofs.lemmas.List.{append_cancel_left, take_all}
use Rattle.std.proofs.lemmas.Grind.{flat_map-append}
use Rattle.std.proofs.lemmas.Bool.Decides.{nat_tests}
use Rattle.std.specs.Prelude.{false, ◌==◌}
use Rattle.wait_model.specs.declared.layout.TheConstants.{PIPE_CELLS, PIPE_ENDS}
use Rattle.wait_model.specs.declared.queues.Walked.{Walked}
use Rattle.wait_model.specs.declared.steps.Step.TheVariants as step
use Rattle.wait_model.specs.declared.watches.Watch.TheVariants as watch
use Rattle.wait_rule.specs.declared.journal.EndAct.TheVariants as act
use Rattle.wait_rule.specs.{declared.journal.Item.Item, Known.Known, Says.added, Says.grown, Stays.Carries}
use Rattle.wait_rule.specs.Stays.{unchanged}
use Rattle.wait_rule.specs.Pipes.{End, bytes_in, cell_bytes, end_word, moved_bytes, with_all_passed, read_end}
use Rattle.wait_rule.specs.Pipes.{with_cell, word_counts, write_end}
use Rattle.wait_rule.specs.PipeSays.{EndBecomes, IsOpen, KeepsEnd, end_at, reading, writing}
use Rattle.wait_rule.specs.declared.journal.Item.TheVariants as item
use Rattle.wait_rule.proofs.KnownLaws.CarriedTasks.{unchanged_on}
use Rattle.var_wait.specs.VarPublishes.{HasPublished}
use Rattle.wait_pipe.specs.Pieces.{HasSeen, IsAtEnd, IsSettled, Moved, OtherPipesStay, LeavesAside, ShowsNoCell}
use Rattle.wait_pipe.specs.Pieces.{WaitsAtPipe}
use Rattle.wait_pipe.specs.Trails.{LoadsCells, LoadsOther, LooksOver, PassesCells, StoresCells, WakesAfter, cell_items}
use Rattle.wait_pipe.specs.declared.looks.Look.{Look}
use Rattle.wait_rule.proofs.KnownLaws.Transitions.{grown_more}
use Rattle.wait_pipe.proofs.Asides.{quiet_cell, quiet_on}
use Rattle.wait_pipe.proofs.PieceChanges.{others_becomes, others_on, settled_still}

-- all the bytes of an end that has nothing outstanding
all_bytes : (e : End) → e.count ≡ length e.cells → moved_bytes e ≡ bytes_in e.cells
all_bytes e settled = ap bytes_in (ap (λ n. take n e.cells) settled ∙ take_all (length e.cells) e.cells (omega arith))

one_more : (cells : List ℕ) (w : ℕ) → bytes_in (cells ++ w ∷ []) ≡ bytes_in cells ++ cell_bytes w
one_more cells w = flat_map-append cell_bytes cells (w ∷ [])
    ∙ ap (λ l. bytes_in cells ++ l) (append-nil (cell_bytes w))

-- one end of a pipe, with some cells stored or loaded whose bytes are the text
pub record Midway (e now : End) (text : List ℕ) : Type 0 where
  pub still : IsOpen now
  pub count : now.count ≡ e.count
  pub seen : now.seen ≡ e.seen
  pub ended : now.ended ≡ e.ended
  pub bytes : bytes_in now.cells ≡ bytes_in e.cells ++ text

begun : (e : End) → IsOpen e → Midway e e []
begun e still = record {
  still = still;
  count = refl;
  seen = refl;
  ended = refl;
  bytes = sym (append-nil (bytes_in e.cells));
}

went_on : (e now : End) (text : List ℕ) (w : ℕ) → Midway e now text
    → Midway e (with_cell w now) (text ++ cell_bytes w)
went_on e now text w m = record {
  still = record { mine = m.still.mine; unshut = m.still.unshut };
  count = m.count;
  seen = m.seen;
  ended = m.ended;
  bytes = one_more now.cells w ∙ (ap (λ l. l ++ cell_bytes w) m.bytes
      ∙ append_assoc (bytes_in e.cells) text (cell_bytes w));
}

-- passed on
moves_all : (e now : End) (text : List ℕ) → IsSettled e → Midway e now text
    → IsSettled (with_all_passed now) × (moved_bytes (with_all_passed now) ≡ moved_bytes e ++ text)
moves_all e now text settled m = (
  record { still = record { mine = m.still.mine; unshut = refl }; passed = refl },
  all_bytes (with_all_passed now) refl ∙ (m.bytes ∙ ap (λ l. l ++ text) (sym (all_bytes e settled.passed))),
)

-- an advance of the write end, by the number that calls give it
pub advanced_write : (p : ℕ) (now next : Known)
    → EndBecomes (PIPE_ENDS * p + 0) now next (with_all_passed (end_at (PIPE_ENDS * p + 0) now))
    → EndBecomes (write_end p) now next (with_all_passed (writing p now))
advanced_write p now next = subst (λ (k : ℕ). EndBecomes k now next (with_all_passed (end_at k now))) (add-zero (PIPE_ENDS * p))

-- cells that a task has stored or loaded, and no more than these, since it knew `old`
pub record HasCells (k : ℕ) (old now : Known) : Type 0 where
  pub cells : List ℕ
  pub is : now ≡ grown old (cell_items k cells) old.book
  pub grew : (end_at k now).cells ≡ (end_at k old).cells ++ cells

cells_append : (k w : ℕ) (ws : List ℕ)
    → cell_items k ws ++ item.Piped k act.Cell w ∷ [] ≡ cell_items k (ws ++ w ∷ [])
cells_append k w [] = refl
cells_append k w (x ∷ xs) = ap (λ (l : List Item). item.Piped k act.Cell x ∷ l) (cells_append k w xs)

cells_on : (k w : ℕ) (old now next : Known) → HasCells k old now → next ≡ added now (item.Piped k act.Cell w)
    → end_at k next ≡ with_cell w (end_at k now) → HasCells k old next
cells_on k w old now next h made own = record {
  cells = h.cells ++ w ∷ [];
  is = made ∙ (ap (λ (j : Known). added j (item.Piped k act.Cell w)) h.is
      ∙ (grown_more old (cell_items k h.cells) (item.Piped k act.Cell w ∷ []) old.book old.book
      ∙ ap (λ (l : List Item). grown old l old.book) (cells_append k w h.cells)));
  grew = ap (λ (e : End). e.cells) own
      ∙ (ap (λ (l : List ℕ). l ++ w ∷ []) h.grew ∙ append_assoc (end_at k old).cells h.cells (w ∷ []));
}

-- how many they are, and their bytes
module _ (k : ℕ) (old now : Known) (h : HasCells k old now) where
  cells_count : length (end_at k now).cells ≡ length (end_at k old).cells + length h.cells
  cells_count = ap length h.grew ∙ length-append (end_at k old).cells h.cells

  cells_bytes : (text : List ℕ) → Midway (end_at k old) (end_at k now) text → bytes_in h.cells ≡ text
  cells_bytes text m = append_cancel_left (bytes_in (end_at k old).cells) (bytes_in h.cells) text
      (sym (flat_map-append cell_bytes (end_at k old).cells h.cells) ∙ (sym (ap bytes_in h.grew) ∙ m.bytes))

-- and passes on, with a wake
abbrev cells_passed : (k v : ℕ) (old now next new : Known) (value found : ℕ) (walked : Walked) (text : List ℕ)
    (h : HasCells k old now) → next ≡ added now (item.Made (step.Publish (watch.Var v 0) value found)) → v ≡ k
    → value ≡ end_word ((end_at k old).count + length h.cells) false → bytes_in h.cells ≡ text
    → WakesAfter k next new walked → PassesCells k old new text
cells_passed k v old now next new value found walked text h made is counts bytes wakes = record {
  cells = h.cells;
  bytes = bytes;
  walked = walked;
  publishes = subst (λ (n : ℕ). HasPublished (grown old (cell_items k h.cells) old.book) new k n walked) counts
      (subst (λ (j : Known). HasPublished j new k value walked) h.is (wakes now value found
      (made ∙ ap (λ (u : ℕ). added now (item.Made (step.Publish (watch.Var u 0) value found))) is)));
}

-- cells that are being stored
pub record Filling (p : ℕ) (old now : Known) (bytes : List ℕ) (at left done : ℕ) : Type 0 where
  pub same : Carries unchanged old now
  pub quiet : LeavesAside old now
  pub others : OtherPipesStay (write_end p) old now
  pub midway : Midway (writing p old) (writing p now) (take done bytes)
  pub place : at ≡ length (writing p now).cells % word_counts
  pub room : left + length (writing p now).cells ≡ (writing p old).seen + PIPE_CELLS
  pub fits : done ≤ length bytes
  pub some_done : 0 < left + done
  pub dense : length (writing p now).cells ≡ length (writing p old).cells + (done + 6) / 7
  pub whole : (done % 7 ≡ 0) ⊎ (done ≡ length bytes)
  pub stored : HasCells (write_end p) old now

-- a cell that is not the last has 7 bytes
whole_front : (done size : ℕ) → (done % 7 ≡ 0) ⊎ (done ≡ size) → done < size → done % 7 ≡ 0
whole_front done size (inl is) few = is
whole_front done size (inr is) few = absurd (omega arith)

whole_next : (done end size : ℕ) → done % 7 ≡ 0 → (end ≡ done + 7) ⊎ (end ≡ size)
    → (end % 7 ≡ 0) ⊎ (end ≡ size)
whole_next done end size whole (inl is) = inl (omega arith)
whole_next done end size whole (inr is) = inr is

pub fill_goes : (p : ℕ) (old now next : Known) (bytes : List ℕ) (at left done end w : ℕ)
    → Filling p old now bytes at left done → 0 < left → done < end → end ≤ length bytes → end ≤ done + 7
    → (end ≡ done + 7) ⊎ (end ≡ length bytes) → cell_bytes w ≡ take (end - done) (drop done bytes)
    → next ≡ added now (item.Piped (write_end p) act.Cell w)
    → EndBecomes (write_end p) now next (with_cell w (writing p now)) → Carries unchanged now next
    → Filling p old next bytes ((at + 1) % word_counts) (left - 1) end
fill_goes p old now next bytes at left done end w f some_left more fits most ends is made step carries =
    let longer : length (writing p next).cells ≡ length (writing p now).cells + 1 =
    ap (λ (e : End). length e.cells) step.own ∙ length-append (writing p now).cells (w ∷ []) in
    let place = f.place in
    let room = f.room in
    let dense = f.dense in
    let whole : done % 7 ≡ 0 = whole_front done (length bytes) f.whole (omega arith) in
    let front : take done bytes ++ cell_bytes w ≡ take end bytes = ap (λ l. take done bytes ++ l) is
    ∙ (sym (take-add done (end - done) bytes)
    ∙ ap (λ n. take n bytes) (let z : done + (end - done) ≡ end = omega arith in z)) in record {
      same = unchanged_on old now next f.same carries;
      quiet = quiet_on old now next f.quiet (subst (LeavesAside now) (sym made) (quiet_cell now (write_end p) w));
      others = others_on (write_end p) old now next f.others
          (others_becomes (write_end p) now next (with_cell w (writing p now)) step);
      midway = subst (λ (e : End). Midway (writing p old) e (take end bytes)) (sym step.own)
          (subst (Midway (writing p old) (with_cell w (writing p now))) front
          (went_on (writing p old) (writing p now) (take done bytes) w f.midway));
      place = omega arith;
      room = omega arith;
      fits = fits;
      some_done = omega arith;
      dense = omega arith;
      whole = whole_next done end (length bytes) whole ends;
      stored = cells_on (write_end p) w old now next f.stored made step.own;
    }

pub fill_ends : (p : ℕ) (old now next last : Known) (bytes : List ℕ) (at left done : ℕ) → IsSettled (writing p old)
    → Filling p old now bytes at left done → EndBecomes (write_end p) now next (with_all_passed (writing p now))
    → OtherPipesStay (write_end p) next last → writing p last ≡ writing p next
    → Moved (write_end p) old last (take done bytes)
fill_ends p old now next last bytes at left done settled f step others same =
    let m = moves_all (writing p old) (writing p now) (take done bytes) settled f.midway in record {
      others = others_on (write_end p) old next last (others_on (write_end p) old now next f.others
          (others_becomes (write_end p) now next (with_all_passed (writing p now)) step)) others;
      settled = subst IsSettled (sym (same ∙ step.own)) m.0;
      bytes = ap moved_bytes (same ∙ step.own) ∙ m.1;
    }

pub fill_ended : (p : ℕ) (old now next last : Known) (bytes : List ℕ) (at left done : ℕ)
    → Filling p old now bytes at left done → EndBecomes (write_end p) now next (with_all_passed (writing p now))
    → writing p last ≡ writing p next → (writing p last).ended ≡ (writing p old).ended
fill_ended p old now next last bytes at left done f step same = ap (λ (e : End). e.ended) (same ∙ step.own)
    ∙ f.midway.ended

pub fill_cells : (p : ℕ) (old now next last : Known) (bytes : List ℕ) (at left done : ℕ) → IsSettled (writing p old)
    → Filling p old now bytes at left done → EndBecomes (write_end p) now next (with_all_passed (writing p now))
    → writing p last ≡ writing p next → (writing p last).count ≡ (writing p old).count + (done + 6) / 7
fill_cells p old now next last bytes at left done settled f step same = ap (λ (e : End). e.count) (same ∙ step.own)
    ∙ (f.dense ∙ ap (λ n. n + (done + 6) / 7) (sym settled.passed))

pub fill_full : (p : ℕ) (old now next last : Known) (bytes : List ℕ) (at left done : ℕ)
    → Filling p old now bytes at left done → EndBecomes (write_end p) now next (with_all_passed (writing p now))
    → writing p last ≡ writing p next → left ≡ 0 → (writing p last).count ≡ (writing p last).seen + PIPE_CELLS
fill_full p old now next last bytes at left done f step same none =
    let count : (writing p last).count ≡ length (writing p now).cells = ap (λ (e : End). e.count) (same ∙ step.own) in
    let seen : (writing p last).seen ≡ (writing p old).seen = ap (λ (e : End). e.seen) (same ∙ step.own)
    ∙ f.midway.seen in
    let room = f.room in
    omega arith

-- what was stored, once it is passed on
pub fill_stores : (p v : ℕ) (old now next new : Known) (bytes : List ℕ) (at left done found : ℕ) (walked : Walked)
    → IsSettled (writing p old) → Filling p old now bytes at left done
    → next ≡ added now (item.Made (step.Publish (watch.Var v 0) (2 * at) found)) → v ≡ write_end p → 0 < done
    → (done < length bytes → left ≡ 0) → WakesAfter (write_end p) next new walked
    → StoresCells (write_end p) old new bytes done
fill_stores p v old now next new bytes at left done found walked settled f made is some none wakes =
    let count = cells_count (write_end p) old now f.stored in
    let with_all_passed = settled.passed in
    let place = f.place in
    let room = f.room in
    let dense = f.dense in
    let many : length f.stored.cells ≡ (done + 6) / 7 = omega arith in
    let fits : (writing p old).count + length f.stored.cells ≤ (writing p old).seen + PIPE_CELLS = omega arith in
    let all : done < length bytes → (writing p old).count + length f.stored.cells ≡ (writing p old).seen + PIPE_CELLS =
    λ few. let no_more = none few in omega arith in record {
      passes = cells_passed (write_end p) v old now next new (2 * at) found walked (take done bytes) f.stored made is
          (omega arith) (cells_bytes (write_end p) old now f.stored (take done bytes) f.midway) wakes;
      some = some;
      dense = many;
      room = fits;
      full = all;
    }

-- cells that are being loaded
pub record Draining (p : ℕ) (old now : Known) (size : ℕ) (buf : List ℕ) (at left done : ℕ) : Type 0 where
  pub same : Carries unchanged old now
  pub quiet : LeavesAside old now
  pub others : OtherPipesStay (read_end p) old now
  pub midway : Midway (reading p old) (reading p now) (take done buf)
  pub place : at ≡ length (reading p now).cells % word_counts
  pub there : left + length (reading p now).cells ≡ (reading p old).seen
  pub size_is : length buf ≡ size
  pub fits : done ≤ size
  pub some_done : 0 < left + done
  pub loaded : HasCells (read_end p) old now

pub drain_goes : (p : ℕ) (old now next : Known) (size : ℕ) (buf after : List ℕ) (at left done end w : ℕ)
    → Draining p old now size buf at left done → 0 < left → done < end → end ≤ size
    → length after ≡ length buf → take end after ≡ take done buf ++ cell_bytes w
    → next ≡ added now (item.Piped (read_end p) act.Cell w)
    → EndBecomes (read_end p) now next (with_cell w (reading p now)) → Carries unchanged now next
    → Draining p old next size after ((at + 1) % word_counts) (left - 1) end
drain_goes p old now next size buf after at left done end w f some_left more fits same is made step carries =
    let longer : length (reading p next).cells ≡ length (reading p now).cells + 1 =
    ap (λ (e : End). length e.cells) step.own ∙ length-append (reading p now).cells (w ∷ []) in
    let place = f.place in
    let there = f.there in record {
      same = unchanged_on old now next f.same carries;
      quiet = quiet_on old now next f.quiet (subst (LeavesAside now) (sym made) (quiet_cell now (read_end p) w));
      others = others_on (read_end p) old now next f.others
          (others_becomes (read_end p) now next (with_cell w (reading p now)) step);
      midway = subst (λ (e : End). Midway (reading p old) e (take end after)) (sym step.own)
          (subst (Midway (reading p old) (with_cell w (reading p now))) (sym is)
          (went_on (reading p old) (reading p now) (take done buf) w f.midway));
      place = omega arith;
      there = omega arith;
      size_is = same ∙ f.size_is;
      fits = fits;
      some_done = omega arith;
      loaded = cells_on (read_end p) w old now next f.loaded made step.own;
    }

pub drain_ends : (p : ℕ) (old now next last : Known) (size : ℕ) (buf : List ℕ) (at left done : ℕ)
    → IsSettled (reading p old) → Draining p old now size buf at left done
    → EndBecomes (read_end p) now next (with_all_passed (reading p now)) → OtherPipesStay (read_end p) next last
    → reading p last ≡ reading p next → Moved (read_end p) old last (take done buf)
drain_ends p old now next last size buf at left done settled f step others same =
    let m = moves_all (reading p old) (reading p now) (take done buf) settled f.midway in record {
      others = others_on (read_end p) old next last (others_on (read_end p) old now next f.others
          (others_becomes (read_end p) now next (with_all_passed (reading p now)) step)) others;
      settled = subst IsSettled (sym (same ∙ step.own)) m.0;
      bytes = ap moved_bytes (same ∙ step.own) ∙ m.1;
    }

-- what was loaded, once it is passed on
pub drain_loads : (p v : ℕ) (old now next new : Known) (size : ℕ) (buf : List ℕ) (at left done found : ℕ)
    (walked : Walked) → IsSettled (reading p old) → Draining p old now size buf at left done
    → next ≡ added now (item.Made (step.Publish (watch.Var v 0) (2 * at) found)) → v ≡ read_end p
    → (done + 7 ≤ length buf → left ≡ 0) → WakesAfter (read_end p) next new walked
    → LoadsCells (read_end p) old new buf done
drain_loads p v old now next new size buf at left done found walked settled f made is none wakes =
    let count = cells_count (read_end p) old now f.loaded in
    let with_all_passed = settled.passed in
    let place = f.place in
    let there = f.there in
    let fits : (reading p old).count + length f.loaded.cells ≤ (reading p old).seen = omega arith in
    let every : done + 7 ≤ length buf → (reading p old).count + length f.loaded.cells ≡ (reading p old).seen = λ room.
    let no_more = none room in omega arith in record {
      passes = cells_passed (read_end p) v old now next new (2 * at) found walked (take done buf) f.loaded made is
          (omega arith) (cells_bytes (read_end p) old now f.loaded (take done buf) f.midway) wakes;
      there = fits;
      all = every;
    }

pub drain_all : (p : ℕ) (old now next last : Known) (size : ℕ) (buf : List ℕ) (at left done : ℕ)
    → Draining p old now size buf at left done → EndBecomes (read_end p) now next (with_all_passed (reading p now))
    → reading p last ≡ reading p next → left ≡ 0 → (reading p last).count ≡ (reading p last).seen
drain_all p old now next last size buf at left done f step same none =
    let count : (reading p last).count ≡ length (reading p now).cells = ap (λ (e : End). e.count) (same ∙ step.own) in
    let seen : (reading p last).seen ≡ (reading p old).seen = ap (λ (e : End). e.seen) (same ∙ step.own)
    ∙ f.midway.seen in
    let there = f.there in
    omega arith

-- A task that only looked and waited has its end as it was, and passed on nothing.
bytes_still : (e f : End) → KeepsEnd e f → moved_bytes f ≡ moved_bytes e
bytes_still e f k = (λ i. bytes_in (take (k.count i) (k.cells i)))

module _ {k : ℕ} {old now : Known} (w : WaitsAtPipe k old now) (s : IsSettled (end_at k old)) where
  pub waited_settled : IsSettled (end_at k now)
  waited_settled = settled_still (end_at k old) (end_at k now) w.keeps s

  pub waited_none : Moved k old now []
  waited_none = record {
    others = w.others;
    settled = waited_settled;
    bytes = bytes_still (end_at k old) (end_at k now) w.keeps ∙ sym (append-nil (moved_bytes (end_at k old)));
  }

  pub waited_then : (new : Known) (text : List ℕ) → Moved k now new text → Moved k old new text
  waited_then new text m = record {
    others = others_on k old now new w.others m.others;
    settled = m.settled;
    bytes = m.bytes ∙ ap (λ l. l ++ text) (bytes_still (end_at k old) (end_at k now) w.keeps);
  }

-- what a look shows: counts, and a word, which is what the task goes on by
module _ {k : ℕ} {now : Known} {l : Look} (h : HasSeen k now l) where
  pub own_below : l.own < word_counts
  own_below = let o = h.own in omega arith

  pub other_below : l.other < word_counts
  other_below = let o = h.other in omega arith

  pub count_place : IsSettled (end_at k now) → l.own ≡ length (end_at k now).cells % word_counts
  count_place s = h.own ∙ ap (λ n. n % word_counts) s.passed

  pub word_open : l.closed ≡ false → l.word % 2 ≡ 0
  word_open is = let test : (l.word % 2 == 1) ≡ false = sym h.closes ∙ is in grind (arith, nat_tests)

  pub word_ended : l.closed ≡ true → l.word % 2 ≡ 1
  word_ended is = let test : (l.word % 2 == 1) ≡ true = sym h.closes ∙ is in grind (arith, nat_tests)

  abbrev pub look_shows : (old : Known) → LoadsOther k l.word old now → LooksOver k old now
  look_shows old loads = record { word = l.word; loads = loads; shown = sym h.shows ∙ h.other }

  -- and that there is no cell for the end, for it is open
  shows_none : l.closed ≡ false → (k % PIPE_ENDS ≡ 0 → (end_at k now).count ≡ (end_at k now).seen + PIPE_CELLS)
      → (k % PIPE_ENDS ≡ 1 → (end_at k now).count ≡ (end_at k now).seen) → ShowsNoCell k (end_at k now) l.word
  shows_none unended full empty = record {
    unended = word_open unended;
    count = (end_at k now).seen;
    shown = sym h.shows ∙ h.other;
    full = full;
    empty = empty;
  }

-- of a write end that has nothing outstanding
module _ (p : ℕ) {now : Known} {l : Look} (h : HasSeen (write_end p) now l) (s : IsSettled (writing p now)) {used : ℕ}
    (is : used ≡ (l.own + word_counts - l.other) % word_counts) where
  pub free_is : (PIPE_CELLS - used) + length (writing p now).cells ≡ (writing p now).seen + PIPE_CELLS
  free_is =
      let sound = h.sound.write (omega arith) in
      let a = sound.seen in
      let b = sound.room in
      let c = h.own in
      let d = h.other in
      let e = s.passed in
      omega arith

  pub none_free : PIPE_CELLS ≤ used → l.closed ≡ false → ShowsNoCell (write_end p) (writing p now) l.word
  none_free most unended =
      let free = free_is in
      let settled = s.passed in
      shows_none h unended (λ write. omega arith) (λ read. absurd (omega arith))

-- and of such a read end
module _ (p : ℕ) {now : Known} {l : Look} (h : HasSeen (read_end p) now l) (s : IsSettled (reading p now)) {there : ℕ}
    (is : there ≡ (l.other + word_counts - l.own) % word_counts) where
  pub there_is : there + length (reading p now).cells ≡ (reading p now).seen
  there_is =
      let sound = h.sound.read (omega arith) in
      let a = sound.there in
      let b = sound.room in
      let c = h.own in
      let d = h.other in
      let e = s.passed in
      omega arith

  pub at_end : there ≡ 0 → l.closed ≡ true → IsAtEnd (reading p now)
  at_end none shut =
      let all = there_is in
      let e = s.passed in
      record { ended = h.ended ∙ shut; all = omega arith }

  pub none_there : there ≡ 0 → l.closed ≡ false → ShowsNoCell (read_end p) (reading p now) l.word
  none_there none unended =
      let all = there_is in
      let settled = s.passed in
      shows_none h unended (λ write. absurd (omega arith)) (λ read. omega arith)
