-- What the steps on words of pipes ask of the table of words.
use Rattle.std.proofs.Common.{refl, sym, ◌∙◌, ap, subst, arith}
use Rattle.std.specs.Prelude.{ℕ, ◌≡◌, ◌≢◌, ◌+◌, ◌-◌, ◌/◌, ◌<◌, ◌≤◌, if◌then◌else◌, Bool, true, None, List, [], ◌∷◌}
use Rattle.std.specs.Prelude.{length, slice_index}
use mathlib.Core.Option.{none}
use Rattle.atomic_table.specs.Table.{step as move, Allows}
use Rattle.wait_model.specs.{declared.steps.Step.Step, Functions.put, Tables.Table, Tables.next, Locations.Location}
use Rattle.wait_model.specs.{Locations.position_of, Fold.view_of}
use Rattle.wait_model.specs.declared.layout.TheConstants.{TASKS, PIPES, PIPE_ENDS, PIPE_CELLS, CLAIMS, CLAIM_AT}
use Rattle.wait_model.specs.declared.watches.Watch.TheVariants as watch
use Rattle.wait_model.specs.declared.steps.Step.TheVariants as step
use Rattle.wait_model.specs.Locations as place
use Rattle.wait_model.proofs.Functions.{put_same, put_other}
use Rattle.wait_rule.specs.{declared.journal.EndAct.EndAct, declared.journal.Item.Item, MemberWords.is_beside}
use Rattle.wait_rule.specs.{MemberWords.word_with, TicketWords.all_tickets, TicketWords.AreTickets, PipeSays.IsSoundEnd}
use Rattle.wait_rule.specs.{Rule.Law, Rule.Holds, Plays.Sat, Plays.seat_with}
use Rattle.wait_rule.specs.Items.{Book, Fits, first_book, book_of, steps_of}
use Rattle.wait_rule.specs.Journals.{Scene, moved, pushed}
use Rattle.wait_rule.specs.Pipes.{ArePipes, End, IsCell, cell_of, end_of, end_word, read_end, write_end}
use Rattle.wait_rule.specs.PipePlays.{cell_pipe, cell_loaded_play, cell_stored_play, claimed_play, end_load_play}
use Rattle.wait_rule.specs.PipePlays.{end_published_play, var_end}
use Rattle.wait_rule.specs.declared.journal.EndAct.TheVariants as act
use Rattle.wait_rule.specs.declared.journal.Item.TheVariants as item
use Rattle.wait_rule.proofs.{TableSteps.ItemLists.book_append, KnownLaws.AfterSteps.notes_after}
use Rattle.wait_rule.proofs.{KnownLaws.PipeItems.now, KnownLaws.TallySteps.tallies_same}
use Rattle.wait_rule.proofs.{StepKinds.CondKinds.var_publishes, TableSteps.QueueMoves.head_seen}
use Rattle.wait_rule.proofs.TableSteps.TicketMoves.{law_beside}
use Rattle.wait_rule.proofs.KnownLaws.PipeWords.{cell_in, read_in, write_in}
use Rattle.wait_rule.proofs.KnownLaws.PipeSteps.{all_pipes, cell_words, claim_words, no_words, piped_dumb, publish_dumb}
use Rattle.wait_rule.proofs.KnownLaws.PipeSteps.{var_words}
use Rattle.wait_rule.proofs.KnownLaws.PipeEnds.{claims, gets, got_cell, knows_end, publishes, puts}
use Rattle.wait_rule.proofs.KnownLaws.TicketSteps.{beside_tickets, tickets_next, tickets_same}
use Rattle.wait_rule.proofs.TableSteps.StateLaws.{allows, allows_some, pushed_none}
use Rattle.wait_rule.proofs.TableSteps.KeptSteps.{IsOwn, KeepsLaw, law_step, law_still, told_as}

-- words beside the table with another claim, and with another cell
with_claim : (Location → ℕ) → ℕ → ℕ → Location → ℕ
with_claim beside k n (place.Claim j) = put (λ i. beside (place.Claim i)) k n j
with_claim beside k n l = beside l

with_cells : (Location → ℕ) → ℕ → ℕ → Location → ℕ
with_cells beside k n (place.Cell j) = put (λ i. beside (place.Cell i)) k n j
with_cells beside k n l = beside l

module _ (s : Table) (beside : Location → ℕ) (k n : ℕ) where
  other_claim : (l : Location) → l ≢ place.Claim k → word_with s (with_claim beside k n) l ≡ word_with s beside l
  unfolding with_claim
  other_claim (place.Claim j) ne = put_other (λ i. beside (place.Claim i)) k n j (λ e. ne (ap place.Claim e))
  other_claim l ne = refl

  this_claim : word_with s (with_claim beside k n) (place.Claim k) ≡ n
  unfolding with_claim
  this_claim = put_same (λ i. beside (place.Claim i)) k n

  other_cell : (l : Location) → l ≢ place.Cell k → word_with s (with_cells beside k n) l ≡ word_with s beside l
  unfolding with_cells
  other_cell (place.Cell j) ne = put_other (λ i. beside (place.Cell i)) k n j (λ e. ne (ap place.Cell e))
  other_cell l ne = refl

  this_cell : word_with s (with_cells beside k n) (place.Cell k) ≡ n
  unfolding with_cells
  this_cell = put_same (λ i. beside (place.Cell i)) k n

-- An item about a claim or a cell, and one word beside the table that changes with it.
module _ (c : Scene) (law : Law c) (a k : ℕ) (d : EndAct) (w : ℕ) where
  abbrev one : Location → ℕ
  one = word_with law.table law.beside

  law_piped : (l : Location) (n : ℕ) (beside : Location → ℕ) → place.IsLocation l
      → word_with law.table beside l ≡ n
      → ((j : Location) → j ≢ l → word_with law.table beside j ≡ one j)
      → ((i : ℕ) → place.Member i ≢ l) → ((i : ℕ) → place.Next i ≢ l) → ((i : ℕ) → place.Serving i ≢ l)
      → ((i : ℕ) → place.Tally i ≢ l)
      → ArePipes (word_with law.table beside) (now c.items a (item.Piped k d w))
      → Law (moved c a (position_of l) n (item.Piped k d w ∷ []))
  law_piped l n beside there is rest members tickets served tallies pipes =
      law_beside c law a (item.Piped k d w) refl refl
      (λ less. subst (λ (b : Book). Fits (law.table.task a) b)
      (sym (book_append first_book (c.items a) (item.Piped k d w ∷ []))) (law.ruled.fits a less))
      (notes_after a (c.items a) (item.Piped k d w)) l n beside there is rest
      (λ i. rest (place.Member i) (members i))
      (subst (λ f. AreTickets law.table f beside)
      (sym (tickets_same c.items a (item.Piped k d w ∷ []) refl) ∙ tickets_next c.items a (item.Piped k d w ∷ []))
      (beside_tickets law.table (all_tickets c.items) law.beside beside (λ i. rest (place.Next i) (tickets i))
      (λ i. rest (place.Serving i) (served i)) law.tickets))
      (tallies_same c.items a (item.Piped k d w ∷ []) law.beside beside (λ p. refl)
      (λ i. rest (place.Tally i) (tallies i)) law.tallies)
      pipes

-- on the words
module _ (c : Scene) (law : Law c) (a : ℕ) where
  abbrev W : Location → ℕ
  W = word_with law.table law.beside

  law_claim : (k : ℕ) → k < CLAIMS → a < TASKS → Law (moved c a (position_of (place.Claim k)) 1
      (item.Piped k act.Claim (slice_index c.words (position_of (place.Claim k))) ∷ []))
  law_claim k few task = subst
      (λ (n : ℕ). Law (moved c a (position_of (place.Claim k)) 1 (item.Piped k act.Claim n ∷ [])))
      (sym (law.shown.each (place.Claim k) few))
      (law_piped c law a k act.Claim found (place.Claim k) 1 beside few (this_claim law.table law.beside k 1)
      (other_claim law.table law.beside k 1) (λ i e. absurd (cc)) (λ i e. absurd (cc)) (λ i e. absurd (cc))
      (λ i e. absurd (cc))
      (all_pipes c.items a (item.Piped k act.Claim found) W (word_with law.table beside) (k / PIPE_ENDS)
      (λ q ne. (
        claim_words W (word_with law.table beside) k (k / PIPE_ENDS) q ne refl (other_claim law.table law.beside k 1),
        piped_dumb k act.Claim found (k / PIPE_ENDS) q refl ne,
      )) law.pipes
      (λ l. claims c.items a W (word_with law.table beside) (k / PIPE_ENDS) (omega arith) l k found task refl refl
      (this_claim law.table law.beside k 1) (other_claim law.table law.beside k 1))))
    where
      found : ℕ
      found = law.beside (place.Claim k)

      beside : Location → ℕ
      beside = with_claim law.beside k 1

  law_put : (p n : ℕ) → p < PIPES → (end_of (write_end p) (c.items a)).mine ≡ true → IsCell n
      → length (end_of (write_end p) (c.items a)).cells < (end_of (write_end p) (c.items a)).seen + PIPE_CELLS
      → (k : ℕ) → k ≡ cell_of p (length (end_of (write_end p) (c.items a)).cells)
      → Law (moved c a (position_of (place.Cell k)) n (item.Piped (write_end p) act.Cell n ∷ []))
  law_put p n few mine cell room k at =
      law_piped c law a (write_end p) act.Cell n (place.Cell k) n beside (omega arith)
      (this_cell law.table law.beside k n)
      (other_cell law.table law.beside k n) (λ i e. absurd (cc)) (λ i e. absurd (cc)) (λ i e. absurd (cc))
      (λ i e. absurd (cc))
      (all_pipes c.items a (item.Piped (write_end p) act.Cell n) W (word_with law.table beside) p
      (λ q ne. (
        cell_words W (word_with law.table beside) k p q ne
            (ap (λ (i : ℕ). i / PIPE_CELLS) at ∙ cell_in p (length (end_of (write_end p) (c.items a)).cells))
            (other_cell law.table law.beside k n),
        piped_dumb (write_end p) act.Cell n p q (write_in p) ne,
      )) law.pipes
      (λ l. puts c.items a W (word_with law.table beside) p few l n mine cell room
      (ap (λ (i : ℕ). word_with law.table beside (place.Cell i)) (sym at) ∙ this_cell law.table law.beside k n)
      (λ j ne. other_cell law.table law.beside k n j (λ e. ne (e ∙ ap place.Cell at)))))
    where
      beside : Location → ℕ
      beside = with_cells law.beside k n

  law_get : (p : ℕ) → p < PIPES → (end_of (read_end p) (c.items a)).mine ≡ true
      → length (end_of (read_end p) (c.items a)).cells < (end_of (read_end p) (c.items a)).seen
      → (k : ℕ) → k ≡ cell_of p (length (end_of (read_end p) (c.items a)).cells)
      → Law (moved c a (position_of (place.Cell k)) (slice_index c.words (position_of (place.Cell k)))
      (item.Piped (read_end p) act.Cell (slice_index c.words (position_of (place.Cell k))) ∷ []))
      × IsCell (slice_index c.words (position_of (place.Cell k)))
  law_get p few mine there k at = subst (λ (n : ℕ). Law (moved c a (position_of (place.Cell k)) n
      (item.Piped (read_end p) act.Cell n ∷ [])) × IsCell n) (sym (law.shown.each (place.Cell k) (omega arith))) (
        law_piped c law a (read_end p) act.Cell found (place.Cell k) found law.beside (omega arith) refl
            (λ j ne. refl) (λ i e. absurd (cc)) (λ i e. absurd (cc)) (λ i e. absurd (cc)) (λ i e. absurd (cc))
            (all_pipes c.items a (item.Piped (read_end p) act.Cell found) W W p
            (λ q ne. (no_words W W q (λ j. refl), piped_dumb (read_end p) act.Cell found p q (read_in p) ne))
            law.pipes
            (λ l. gets c.items a W W p few l found mine there (ap (λ (i : ℕ). W (place.Cell i)) at)
            (no_words W W p (λ j. refl)))),
        got_cell c.items a W W p few (law.pipes p few) found mine there (ap (λ (i : ℕ). W (place.Cell i)) at),
      )
    where
      found : ℕ
      found = law.beside (place.Cell k)

  law_publish : (k n m : ℕ) (b : Bool) → k < CLAIMS → a < TASKS → (law.table.view a).hold.head ≡ None
      → Fits (law.table.task a) (book_of (c.items a))
      → (end_of k (c.items a)).mine ≡ true → n ≡ end_word m b → (end_of k (c.items a)).count ≤ m
      → m ≤ length (end_of k (c.items a)).cells
      → ((end_of k (c.items a)).shut ≡ true → (b ≡ true) × (m ≡ (end_of k (c.items a)).count))
      → Law (moved c a (position_of (place.Var k)) n
      (item.Made (step.Publish (watch.Var k 0) n (law.table.words.vars k)) ∷ []))
  law_publish k n m b few less out fits mine is low high after =
      law_step c law a (place.Var k) n e less (omega arith) refl keeps
      (all_pipes c.items a (item.Made e) W two (k / PIPE_ENDS)
      (λ q ne. (
        var_words W two k (k / PIPE_ENDS) q ne refl rest,
        publish_dumb k 0 n (law.table.words.vars k) (k / PIPE_ENDS) q refl ne,
      )) law.pipes
      (λ l. publishes c.items a W two (k / PIPE_ENDS) (omega arith) l k 0 n (law.table.words.vars k) m b refl mine is
      low high after (put_same law.table.words.vars k n) rest))
    where
      e : Step
      e = step.Publish (watch.Var k 0) n (law.table.words.vars k)

      two : Location → ℕ
      two = word_with (next law.table a e) law.beside

      keeps : KeepsLaw law.table a (place.Var k) n e (book_of (c.items a))
      keeps = var_publishes law.table c.items law.ruled a (book_of (c.items a)) fits k 0 n out

      rest : (j : Location) → j ≢ place.Var k → two j ≡ W j
      rest j ne = ap (λ (w : ℕ). if is_beside j then law.beside j else w) (keeps.leaves.rest j ne)

  -- the own word, and the counts of the own end
  knows_own : (k : ℕ) → k < CLAIMS → (end_of k (c.items a)).mine ≡ true
      → (slice_index c.words (position_of (place.Var k))
      ≡ end_word (end_of k (c.items a)).count (end_of k (c.items a)).shut) × IsSoundEnd k (end_of k (c.items a))
  knows_own k few mine =
      let z = knows_end c.items a W W (k / PIPE_ENDS) (omega arith) (law.pipes (k / PIPE_ENDS) (omega arith)) k refl
      mine in
      (law.shown.each (place.Var k) (omega arith) ∙ z.0, z.1)

-- What steps of the table ask.
module _ (slots id : ℕ) (me : Sat) (lives : me.0.lives ≡ true) (at : ℕ) where
  abbrev mine_of : ℕ → End
  mine_of k = end_of k me.0.items

  pub claim_moves : (k : ℕ) → k < CLAIMS → at ≡ position_of (place.Claim k)
      → Allows (Holds Law) slots id me at (λ _. 1) (claimed_play (move slots at 1 0 none) me)
  claim_moves k few is s r long at_id less =
      let there : k ≡ at - CLAIM_AT = omega arith in
      let a = subst (λ (q : ℕ). Allows (Holds Law) slots id me q (λ _. 1)
      (λ n m. (m ≡ seat_with me (item.Piped k act.Claim n)) × Unit {0})) (sym is)
      (allows Law slots id me.0 me.1 (position_of (place.Claim k)) (λ _. 1) (λ n. item.Piped k act.Claim n ∷ [])
      (λ _. Unit {0}) lives (λ c law small own _. (law_claim c law me.0.number k few small, tt))) s r long at_id
      less in
      told_as a (λ _ _ t. t.0 ∙ ap (λ (i : ℕ). seat_with me (item.Piped i act.Claim (slice_index s.words at))) there)

  pub put_moves : (p k n : ℕ) → p < PIPES → (mine_of (write_end p)).mine ≡ true → IsCell n
      → length (mine_of (write_end p)).cells < (mine_of (write_end p)).seen + PIPE_CELLS
      → k ≡ cell_of p (length (mine_of (write_end p)).cells) → at ≡ position_of (place.Cell k)
      → Allows (Holds Law) slots id me at (λ _. n) (λ _. cell_stored_play (move slots at n 0 none) me n)
  put_moves p k n few mine cell room place_is is s r long at_id less =
      let there : p ≡ cell_pipe at = omega arith in
      let a = subst (λ (q : ℕ). Allows (Holds Law) slots id me q (λ _. n)
      (λ _ m. (m ≡ seat_with me (item.Piped (write_end p) act.Cell n)) × Unit {0})) (sym is)
      (allows Law slots id me.0 me.1 (position_of (place.Cell k)) (λ _. n)
      (λ _. item.Piped (write_end p) act.Cell n ∷ []) (λ _. Unit {0}) lives
      (λ c law small own _. (
        law_put c law me.0.number p n few (ap (λ (xs : List Item). (end_of (write_end p) xs).mine) own ∙ mine) cell
            (subst (λ (xs : List Item). length (end_of (write_end p) xs).cells
            < (end_of (write_end p) xs).seen + PIPE_CELLS) (sym own) room) k
            (place_is ∙ ap (λ (xs : List Item). cell_of p (length (end_of (write_end p) xs).cells)) (sym own)),
        tt,
      ))) s r long at_id less in
      told_as a (λ _ _ t. t.0 ∙ ap (λ (i : ℕ). seat_with me (item.Piped (write_end i) act.Cell n)) there)

  pub get_moves : (p k : ℕ) → p < PIPES → (mine_of (read_end p)).mine ≡ true
      → length (mine_of (read_end p)).cells < (mine_of (read_end p)).seen
      → k ≡ cell_of p (length (mine_of (read_end p)).cells) → at ≡ position_of (place.Cell k)
      → Allows (Holds Law) slots id me at (λ n. n) (cell_loaded_play (move slots at 0 0 none) me)
  get_moves p k few mine have place_is is s r long at_id less =
      let there : p ≡ cell_pipe at = omega arith in
      let a = subst (λ (q : ℕ). Allows (Holds Law) slots id me q (λ n. n)
      (λ n m. (m ≡ seat_with me (item.Piped (read_end p) act.Cell n)) × IsCell n)) (sym is)
      (allows Law slots id me.0 me.1 (position_of (place.Cell k)) (λ n. n)
      (λ n. item.Piped (read_end p) act.Cell n ∷ []) IsCell lives
      (λ c law small own _. law_get c law me.0.number p few
      (ap (λ (xs : List Item). (end_of (read_end p) xs).mine) own ∙ mine)
      (subst (λ (xs : List Item). length (end_of (read_end p) xs).cells < (end_of (read_end p) xs).seen) (sym own)
      have) k (place_is ∙ ap (λ (xs : List Item). cell_of p (length (end_of (read_end p) xs).cells)) (sym own))))
      s r long at_id less in
      told_as a (λ _ _ t. (
        t.0 ∙ ap (λ (i : ℕ). seat_with me (item.Piped (read_end i) act.Cell (slice_index s.words at))) there,
        t.1,
      ))

  is_own : (c : Scene) (law : Law c) → c.items me.0.number ≡ me.0.items → IsOwn law.table c.items me
  is_own c law own = record {
    told = law.ruled.whole.told me.0.number ∙ (ap view_of (law.ruled.histories me.0.number)
        ∙ ap (λ (xs : List Item). view_of (steps_of xs)) own);
    list = own;
  }

  pub end_moves : (k n m : ℕ) (b : Bool) → k < CLAIMS → (book_of me.0.items).head ≡ None
      → (mine_of k).mine ≡ true → n ≡ end_word m b
      → (IsSoundEnd k (mine_of k) → ((mine_of k).count ≤ m) × (m ≤ length (mine_of k).cells))
      → ((mine_of k).shut ≡ true → (b ≡ true) × (m ≡ (mine_of k).count)) → at ≡ position_of (place.Var k)
      → Allows (Holds Law) slots id me at (λ _. n) (λ _. end_published_play (move slots at n 0 none) me n)
  end_moves k n m b few free mine is between after here s r long at_id less =
      let there : k ≡ var_end at = omega arith in
      let a = subst (λ (q : ℕ). Allows (Holds Law) slots id me q (λ _. n)
      (λ _ z. (xs : List Item) × (z ≡ (pushed me.0 xs, me.1)) × Stored xs)) (sym here)
      (allows_some Law slots id me.0 me.1 (position_of (place.Var k)) (λ _. n) (λ _. Stored) lives
      (λ c law small own _.
      let sound : IsSoundEnd k (mine_of k) = subst (λ (xs : List Item). IsSoundEnd k (end_of k xs)) own
      (knows_own c law me.0.number k few (ap (λ (xs : List Item). (end_of k xs).mine) own ∙ mine)).1 in (
        item.Made (step.Publish (watch.Var k 0) n (law.table.words.vars k)) ∷ [],
        law_publish c law me.0.number k n m b few small
            (head_seen law.table c.items me None (is_own c law own) free) (law.ruled.fits me.0.number small)
            (ap (λ (xs : List Item). (end_of k xs).mine) own ∙ mine) is
            (subst (λ (xs : List Item). (end_of k xs).count ≤ m) (sym own) (between sound).0)
            (subst (λ (xs : List Item). m ≤ length (end_of k xs).cells) (sym own) (between sound).1)
            (subst (λ (xs : List Item). (end_of k xs).shut ≡ true → (b ≡ true) × (m ≡ (end_of k xs).count)) (sym own)
            after),
        (law.table.words.vars k, (refl, sound)),
      ))) s r long at_id less in
      told_as a (λ _ _ t. (
        t.2.0,
        (
          t.1 ∙ (ap (λ (xs : List Item). (pushed me.0 xs, me.1)) t.2.1.0
              ∙ ap (λ (i : ℕ). seat_with me (item.Made (step.Publish (watch.Var i 0) n t.2.0))) there),
          subst (λ (i : ℕ). IsSoundEnd i (mine_of i)) there t.2.1.1,
        ),
      ))
    where
      Stored : List Item → Type 0
      Stored xs = (found : ℕ) × ((xs ≡ item.Made (step.Publish (watch.Var k 0) n found) ∷ [])
          × IsSoundEnd k (mine_of k))

  pub own_moves : (k : ℕ) → k < CLAIMS → (mine_of k).mine ≡ true → at ≡ position_of (place.Var k)
      → Allows (Holds Law) slots id me at (λ n. n) (end_load_play (move slots at 0 0 none) me)
  own_moves k few mine here s r long at_id less =
      let there : k ≡ var_end at = omega arith in
      let a = subst (λ (q : ℕ). Allows (Holds Law) slots id me q (λ n. n)
      (λ n m. (m ≡ (pushed me.0 [], me.1)) × Loaded n)) (sym here)
      (allows Law slots id me.0 me.1 (position_of (place.Var k)) (λ n. n) (λ _. []) Loaded lives
      (λ c law small own _. (
        law_still c law me.0.number (place.Var k) (slice_index c.words (position_of (place.Var k))) (omega arith) refl
            refl,
        subst (λ (xs : List Item). (slice_index c.words (position_of (place.Var k))
            ≡ end_word (end_of k xs).count (end_of k xs).shut) × IsSoundEnd k (end_of k xs)) own
            (knows_own c law me.0.number k few (ap (λ (xs : List Item). (end_of k xs).mine) own ∙ mine)),
      ))) s r long at_id less in
      told_as a (λ _ _ t. (
        t.0 ∙ ap (λ w. (w, me.1)) (pushed_none me.0),
        subst (λ (i : ℕ). (slice_index s.words at ≡ end_word (mine_of i).count (mine_of i).shut)
            × IsSoundEnd i (mine_of i)) there t.1,
      ))
    where
      Loaded : ℕ → Type 0
      Loaded n = (n ≡ end_word (mine_of k).count (mine_of k).shut) × IsSoundEnd k (mine_of k)
