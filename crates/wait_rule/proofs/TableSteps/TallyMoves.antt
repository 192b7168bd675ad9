-- What an add to a tally asks of the table of words.
use Rattle.std.proofs.Common.{refl, sym, ◌∙◌, ap, subst, arith, inl, inr}
use Rattle.std.specs.Prelude.{ℕ, ◌≡◌, ◌≢◌, ◌+◌, ◌-◌, ◌%◌, ◌^◌, ◌<◌, ◌≤◌, ◌⊎◌, ◌==◌, if◌then◌else◌, true, List, [], ◌∷◌}
use Rattle.std.specs.Prelude.{◌++◌, slice_index}
use mathlib.Core.Option.{none}
use Rattle.atomic_table.specs.Table.{step as move, Allows}
use Rattle.wait_model.specs.{Functions.put, Tables.Table, Locations.Location, Locations.position_of}
use Rattle.wait_model.specs.declared.layout.TheConstants.{TASKS, PAGES, TALLY_AT}
use Rattle.wait_model.specs.Locations as place
use Rattle.wait_model.proofs.Functions.{put_case, put_same, put_other}
use Rattle.wait_rule.specs.{declared.journal.Item.Item, MemberWords.word_with, TicketWords.all_tickets}
use Rattle.wait_rule.specs.{TicketWords.AreTickets, Tallies.tally_of, Tallies.AreTallies, Rule.Law, Rule.Holds}
use Rattle.wait_rule.specs.{Says.FindsTally, Plays.Sat, Plays.seat_with, TallyPlays.tally_added_play}
use Rattle.wait_rule.specs.Items.{Book, Fits, first_book}
use Rattle.wait_rule.specs.Journals.{Scene, moved, owns, has_of}
use Rattle.wait_rule.specs.declared.journal.Item.TheVariants as item
use Rattle.wait_rule.proofs.{TableSteps.ItemLists.book_append, KnownLaws.AfterSteps.notes_after}
use Rattle.wait_rule.proofs.{KnownLaws.TallySteps.tally_next, KnownLaws.PipeTables.pipes_rest}
use Rattle.wait_rule.proofs.{TableSteps.StateLaws.learns_more, TableSteps.KeptSteps.told_as}
use Rattle.wait_rule.proofs.{TableSteps.TaskMoves.shown_of, TableSteps.TicketMoves.law_beside}
use Rattle.wait_rule.proofs.KnownLaws.TicketSteps.{beside_tickets, tickets_next, tickets_same, to_test, test_off}

-- words beside the table with another tally
abbrev with_tally : (Location → ℕ) → ℕ → ℕ → Location → ℕ
with_tally beside p n (place.Tally q) = put (λ i. beside (place.Tally i)) p n q
with_tally beside p n l = beside l

other_tally : (s : Table) (beside : Location → ℕ) (p n : ℕ) (l : Location) → l ≢ place.Tally p
    → word_with s (with_tally beside p n) l ≡ word_with s beside l
other_tally s beside p n (place.Tally q) ne =
    put_other (λ i. beside (place.Tally i)) p n q (λ e. ne (ap place.Tally e))
other_tally s beside p n l ne = refl

-- sums modulo 2^64
more_added : (w s k x : ℕ) → w ≡ s % 2 ^ 64 → x ≡ k → (w + k) % 2 ^ 64 ≡ (s + (x + 0)) % 2 ^ 64
more_added w s k x is one = omega (arith, is, one)

none_added : (w s x : ℕ) → w ≡ s % 2 ^ 64 → x ≡ 0 → w ≡ (s + (x + 0)) % 2 ^ 64
none_added w s x is off = omega (arith, is, off)

-- the sums with one amount more
module _ (items : ℕ → List Item) (beside : Location → ℕ) (r : AreTallies items beside) (a p k w : ℕ)
    (few : a < TASKS) where
  abbrev N : ℕ
  N = (beside (place.Tally p) + k) % 2 ^ 64

  abbrev more : ℕ → List Item
  more = put items a (items a ++ item.Tally p k w ∷ [])

  sum_then : (q : ℕ) → tally_of q more ≡ tally_of q items + ((if p == q then k else 0) + 0)
  sum_then q = tally_next q items a (item.Tally p k w ∷ []) few

  tally_added : AreTallies more (with_tally beside p N)
  tally_added q = by (put_case (λ i. beside (place.Tally i)) p N q)
    where
      by : ((q ≡ p) × (put (λ i. beside (place.Tally i)) p N q ≡ N))
          ⊎ ((q ≢ p) × (put (λ i. beside (place.Tally i)) p N q ≡ beside (place.Tally q)))
          → put (λ i. beside (place.Tally i)) p N q ≡ tally_of q more % 2 ^ 64
      by (inl e) = e.1 ∙ (more_added (beside (place.Tally p)) (tally_of q items) k (if p == q then k else 0)
          (r p ∙ ap (λ (i : ℕ). tally_of i items % 2 ^ 64) (sym e.0))
          (ap (λ b. if b then k else 0) (ap (λ (i : ℕ). p == i) e.0 ∙ to_test p))
          ∙ ap (λ (n : ℕ). n % 2 ^ 64) (sym (sum_then q)))
      by (inr e) = e.1 ∙ (none_added (beside (place.Tally q)) (tally_of q items) (if p == q then k else 0) (r q)
          (ap (λ b. if b then k else 0) (test_off p q e.0))
          ∙ ap (λ (n : ℕ). n % 2 ^ 64) (sym (sum_then q)))

-- on the words
module _ (c : Scene) (law : Law c) (a p k : ℕ) (page : p < PAGES) (few : a < TASKS) where
  abbrev W : ℕ
  W = law.beside (place.Tally p)

  abbrev now : Location → ℕ
  now = with_tally law.beside p ((W + k) % 2 ^ 64)

  added_tickets : AreTickets law.table (all_tickets c.items) now
  added_tickets = beside_tickets law.table (all_tickets c.items) law.beside now
      (λ h. refl) (λ h. refl) law.tickets

  law_tally : Law (moved c a (position_of (place.Tally p))
      ((slice_index c.words (position_of (place.Tally p)) + k) % 2 ^ 64)
      (item.Tally p k (slice_index c.words (position_of (place.Tally p))) ∷ []))
  law_tally = subst (λ (n : ℕ). Law (moved c a (position_of (place.Tally p)) ((n + k) % 2 ^ 64)
      (item.Tally p k n ∷ []))) (sym (law.shown.each (place.Tally p) page))
      (law_beside c law a (item.Tally p k W) refl refl
      (λ less. subst (λ (b : Book). Fits (law.table.task a) b)
      (sym (book_append first_book (c.items a) (item.Tally p k W ∷ []))) (law.ruled.fits a less))
      (notes_after a (c.items a) (item.Tally p k W)) (place.Tally p) ((W + k) % 2 ^ 64) now page
      (put_same (λ i. law.beside (place.Tally i)) p ((W + k) % 2 ^ 64))
      (other_tally law.table law.beside p ((W + k) % 2 ^ 64)) (λ j. refl)
      (subst (λ f. AreTickets law.table f now)
      (sym (tickets_same c.items a (item.Tally p k W ∷ []) refl) ∙ tickets_next c.items a (item.Tally p k W ∷ []))
      added_tickets)
      (tally_added c.items law.beside law.tallies a p k W few)
      (pipes_rest c.items a (item.Tally p k W ∷ []) (word_with law.table law.beside) (word_with law.table now)
      (place.Tally p) refl (other_tally law.table law.beside p ((W + k) % 2 ^ 64)) (λ j. (λ e. refl, refl)) law.pipes))

module _ (slots id : ℕ) (me : Sat) (lives : me.0.lives ≡ true) (p k at : ℕ) (page : p < PAGES) where
  -- the number found is the sum so far
  finds_tally : (c : Scene) (law : Law c) → ((t : ℕ) → 1 ≤ owns t me.0 → c.items t ≡ has_of t me.0)
      → ((t : ℕ) → owns t me.0 ≤ 1) → ((t : ℕ) → TASKS ≤ t → c.items t ≡ [])
      → FindsTally me.0 p (slice_index c.words (position_of (place.Tally p)))
  finds_tally c law knows sole nobody = record {
    shown = shown_of me.0 c law knows sole nobody;
    word = law.shown.each (place.Tally p) page ∙ law.tallies p;
  }

  pub tally_moves : at ≡ position_of (place.Tally p)
      → Allows (Holds Law) slots id me at (λ n. (n + k) % 2 ^ 64) (tally_added_play (move slots at k 0 none) me)
  tally_moves is s r long at_id less =
      let there : p ≡ at - TALLY_AT = omega arith in
      let a = subst (λ (q : ℕ). Allows (Holds Law) slots id me q (λ n. (n + k) % 2 ^ 64)
      (λ n m. (m ≡ seat_with me (item.Tally p k n)) × FindsTally me.0 p n)) (sym is)
      (learns_more Law slots id me.0 me.1 (position_of (place.Tally p)) (λ n. (n + k) % 2 ^ 64)
      (λ n. item.Tally p k n ∷ []) (λ n. FindsTally me.0 p n) lives
      (λ c law few own _. (law_tally c law me.0.number p k page few, tt)) finds_tally) s r long at_id less in
      told_as a (λ _ _ t. (
        t.0 ∙ ap (λ (i : ℕ). seat_with me (item.Tally i k (slice_index s.words at))) there,
        subst (λ (i : ℕ). FindsTally me.0 i (slice_index s.words at)) there t.1,
      ))
