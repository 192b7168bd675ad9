-- What a store of a member bit asks of the table of words.
use Rattle.std.proofs.Common.{refl, sym, ◌∙◌, ap, subst, arith, inl, inr}
use Rattle.std.specs.Prelude.{ℕ, zero, suc, ◌≡◌, ◌≢◌, ◌+◌, ◌-◌, ◌*◌, ◌/◌, ◌%◌, ◌^◌, ◌<◌, ◌⊎◌, Bool, true, false, ◌==◌}
use Rattle.std.specs.Prelude.{if◌then◌else◌, Option, Some, List, [], ◌∷◌, bit_and, bit_or, slice_set, slice_index}
use Rattle.std.proofs.lemmas.Bool.Decides.{eqb_tells}
use mathlib.Core.Option.{none}
use Rattle.atomic_table.specs.Table.{step as move, Allows}
use Rattle.wait_model.specs.{Functions.put, Words.bit_word, Fold.view_of, Watches.owner, Rows.IsUntested, Tables.Table}
use Rattle.wait_model.specs.declared.layout.TheConstants.{HEADS, MEMBERS, MEMBER_WORDS, WORD_BITS}
use Rattle.wait_model.specs.Locations.{Location, IsLocation, position_of}
use Rattle.wait_model.specs.Locations as place
use Rattle.wait_model.proofs.Functions.{put_at, put_same, put_other}
use Rattle.wait_model.proofs.WordLaws.BitWords.{bit_word_set, bit_word_clear}
use Rattle.wait_rule.specs.{declared.journal.Item.Item, Journals.Scene, Journals.moved, Tickets.Ticket}
use Rattle.wait_rule.specs.{TicketWords.all_tickets, TicketWords.AreTickets, Rule.Law, Rule.Holds, Plays.Sat}
use Rattle.wait_rule.specs.{Plays.seat_with, QueuePlays.member_stored_play}
use Rattle.wait_rule.specs.Items.{Difference, nothing, at_entry, first_book, steps_of, book_of, Fits}
use Rattle.wait_rule.specs.MemberWords.{word_with, ShowsWith, names, index_named, is_put, member_word, all_differences}
use Rattle.wait_rule.specs.MemberWords.{AreMembers}
use Rattle.wait_rule.specs.declared.journal.Item.TheVariants as item
use Rattle.wait_rule.proofs.{TableSteps.ItemLists.book_append, KnownLaws.AskedPages.named_hands}
use Rattle.wait_rule.proofs.{KnownLaws.AfterSteps.notes_after, KnownLaws.HeadLinks.same_links}
use Rattle.wait_rule.proofs.{KnownLaws.TicketSteps.tickets_same, KnownLaws.TicketSteps.beside_tickets}
use Rattle.wait_rule.proofs.{StepKinds.EntryKinds.fits_difference, TableSteps.StateLaws.allows}
use Rattle.wait_rule.proofs.{KnownLaws.TallySteps.tallies_same, KnownLaws.PipeTables.pipes_rest}
use Rattle.wait_rule.proofs.TableSteps.QueueMoves.{head_seen}
use Rattle.wait_rule.proofs.KnownLaws.MemberSteps.{differences_next, nothing_named, none_there}
use Rattle.wait_rule.proofs.TableSteps.KeptSteps.{IsOwn, ruled_seen, told_as, written}

-- words beside the table with one member word more
abbrev with_member : (Location → ℕ) → ℕ → ℕ → Location → ℕ
with_member beside m n (place.Member j) = put (λ q. beside (place.Member q)) m n j
with_member beside m n l = beside l

other_words : (s : Table) (beside : Location → ℕ) (m n : ℕ) (l : Location) → l ≢ place.Member m
    → word_with s (with_member beside m n) l ≡ word_with s beside l
other_words s beside m n (place.Member j) ne =
    put_other (λ q. beside (place.Member q)) m n j (λ e. ne (ap place.Member e))
other_words s beside m n l ne = refl

this_word : (s : Table) (beside : Location → ℕ) (m n : ℕ) → word_with s (with_member beside m n) (place.Member m) ≡ n
this_word s beside m n = put_same (λ q. beside (place.Member q)) m n

-- words of the same bits
pub alike : (n : ℕ) (f g : ℕ → Bool) → ((k : ℕ) → k < n → f k ≡ g k) → bit_word n f ≡ bit_word n g
unfolding bit_word
alike zero f g same = refl
alike (suc n) f g same =
    let low : bit_word n f ≡ bit_word n g = alike n f g (λ k small. same k (omega arith)) in
    let high : (if f n then 2 ^ n else 0) ≡ (if g n then 2 ^ n else 0) =
    ap (λ (b : Bool). if b then 2 ^ n else 0) (same n (omega arith)) in
    (λ i. low i + high i)

-- the bit of one index among those of all
bit_put : (f : ℕ → Bool) (i k : ℕ) (v : Bool) (j : ℕ)
    → put (λ q. f (WORD_BITS * i + q)) k v j ≡ put f (WORD_BITS * i + k) v (WORD_BITS * i + j)
bit_put f i k v j = put_at (λ (x : Bool). x ≡ put f (WORD_BITS * i + k) v (WORD_BITS * i + j))
    (λ q. f (WORD_BITS * i + q)) k v j
    (λ e. sym (ap (λ (q : ℕ). put f (WORD_BITS * i + k) v (WORD_BITS * i + q)) e
    ∙ put_same f (WORD_BITS * i + k) v))
    (λ ne. sym (put_other f (WORD_BITS * i + k) v (WORD_BITS * i + j) (λ e. ne (omega arith))))

-- a word whose bit k is set or cleared
abbrev pub bit_stored : Bool → ℕ → ℕ → ℕ
bit_stored true k w = bit_or w (1 * 2 ^ k % 2 ^ 64)
bit_stored false k w = bit_and w (2 ^ 64 - 1 - 1 * 2 ^ k % 2 ^ 64)

stored_word : (f : ℕ → Bool) (i k : ℕ) (on : Bool) → k < WORD_BITS
    → bit_stored on k (member_word f i) ≡ member_word (put f (WORD_BITS * i + k) on) i
stored_word f i k on small = by on ∙ alike WORD_BITS (put (λ q. f (WORD_BITS * i + q)) k on)
    (λ j. put f (WORD_BITS * i + k) on (WORD_BITS * i + j)) (λ j _. bit_put f i k on j)
  where
    by : (b : Bool) → bit_stored b k (member_word f i) ≡ bit_word WORD_BITS (put (λ q. f (WORD_BITS * i + q)) k b)
    by true = sym (bit_word_set (λ q. f (WORD_BITS * i + q)) k small)
    by false = sym (bit_word_clear (λ q. f (WORD_BITS * i + q)) k small)

some_same : (x y : ℕ) → ◌≡◌ {A = Option ℕ} (Some x) (Some y) → x ≡ y
some_same x y e = cc

-- a store of the bit of the index that task a, which holds head h, names
module _ (s : Table) (differs : ℕ → Difference) (beside : Location → ℕ) (r : AreMembers s differs beside)
    (a h i k : ℕ) (on : Bool) (few : i < MEMBER_WORDS) (small : k < WORD_BITS)
    (held : (s.view a).hold.head ≡ Some h) (index : index_named a (differs a) ≡ Some (WORD_BITS * i + k))
    (is : is_put (differs a) ≡ on) where
  abbrev x : ℕ
  x = WORD_BITS * i + k

  abbrev m : ℕ
  m = MEMBER_WORDS * h + i

  abbrev B : ℕ → ℕ → Bool
  B = put r.bits h (put (r.bits h) x on)

  abbrev W : ℕ
  W = bit_stored on k (beside (place.Member m))

  word_now : W ≡ member_word (put (r.bits h) x on) i
  word_now = ap (bit_stored on k) (r.spells h i few) ∙ stored_word (r.bits h) i k on small

  spells_by : (g j : ℕ) → j < MEMBER_WORDS
      → with_member beside m W (place.Member (MEMBER_WORDS * g + j)) ≡ member_word (B g) j
  spells_by g j less = put_at (λ (w : ℕ). w ≡ member_word (B g) j) (λ q. beside (place.Member q)) m W (MEMBER_WORDS * g + j)
      (λ e.
      let head : g ≡ h = omega arith in
      let word : j ≡ i = omega arith in
      word_now ∙ sym (λ q. member_word ((ap B head ∙ put_same r.bits h (put (r.bits h) x on)) q) (word q)))
      (λ ne. r.spells g j less ∙ by ne (eqb_tells g h))
    where
      by : MEMBER_WORDS * g + j ≢ m → (((g == h) ≡ true) × (g ≡ h)) ⊎ (((g == h) ≡ false) × (g ≢ h))
          → member_word (r.bits g) j ≡ member_word (B g) j
      by ne (inl q) =
          let head : g ≡ h = q.1 in
          let word : j ≢ i = (λ e. ne (omega arith)) in
          ap (λ (u : ℕ). member_word (r.bits u) j) head
          ∙ (alike WORD_BITS (λ p. r.bits h (WORD_BITS * j + p)) (λ p. put (r.bits h) x on (WORD_BITS * j + p))
          (λ p less. sym (put_other (r.bits h) x on (WORD_BITS * j + p) (λ e. word (omega arith))))
          ∙ sym (ap (λ (f : ℕ → Bool). member_word f j) (ap B head ∙ put_same r.bits h (put (r.bits h) x on))))
      by ne (inr q) = ap (λ (f : ℕ → Bool). member_word f j) (sym (put_other r.bits h (put (r.bits h) x on) g q.1))

  abbrev D : ℕ → Difference
  D = put differs a nothing

  -- what others name is as before
  still_far : (g y : ℕ) → ((b : ℕ) → (s.view b).hold.head ≡ Some g → index_named b (D b) ≢ Some y)
      → ((g ≡ h) → (y ≡ x) → ⊥) → r.bits g y ≡ names s g y
  still_far g y far apart = r.agrees g y (λ b holds. by b holds (eqb_tells b a))
    where
      by : (b : ℕ) → (s.view b).hold.head ≡ Some g
          → (((b == a) ≡ true) × (b ≡ a)) ⊎ (((b == a) ≡ false) × (b ≢ a)) → index_named b (differs b) ≢ Some y
      by b holds (inl q) = λ e. apart
          (some_same g h (sym holds ∙ (ap (λ (j : ℕ). (s.view j).hold.head) q.1 ∙ held)))
          (some_same y (WORD_BITS * i + k) (sym e ∙ ((λ j. index_named (q.1 j) (differs (q.1 j))) ∙ index)))
      by b holds (inr q) = subst (λ (d : Difference). index_named b d ≢ Some y) (put_other differs a nothing b q.1)
          (far b holds)

  agrees_by : (g y : ℕ) → ((b : ℕ) → (s.view b).hold.head ≡ Some g → index_named b (D b) ≢ Some y)
      → B g y ≡ names s g y
  agrees_by g y far = put_at (λ (f : ℕ → Bool). f y ≡ names s g y) r.bits h (put (r.bits h) x on) g
      (λ head. put_at (λ (b : Bool). b ≡ names s g y) (r.bits h) x on y
      (λ at. sym is ∙ (sym (r.named a h x held index) ∙ (λ j. names s (sym head j) (sym at j))))
      (λ ne. ap (λ (u : ℕ). r.bits u y) (sym head) ∙ still_far g y far (λ _ at. ne at)))
      (λ ne. still_far g y far (λ head _. ne head))

  named_by : (b g y : ℕ) → (s.view b).hold.head ≡ Some g → index_named b (D b) ≡ Some y
      → names s g y ≡ is_put (D b)
  named_by b g y holds at = by (eqb_tells b a)
    where
      by : (((b == a) ≡ true) × (b ≡ a)) ⊎ (((b == a) ≡ false) × (b ≢ a)) → names s g y ≡ is_put (D b)
      by (inl q) = absurd (nothing_named b (D b) y (ap D q.1 ∙ put_same differs a nothing) at)
      by (inr q) =
          let now : D b ≡ differs b = put_other differs a nothing b q.1 in
          r.named b g y holds (sym (ap (index_named b) now) ∙ at) ∙ ap is_put (sym now)

  bit_members : AreMembers s (put differs a nothing) (with_member beside m W)
  bit_members = record {
    bits = B;
    spells = spells_by;
    agrees = agrees_by;
    named = named_by;
    untested = λ b g y holds at. untested_by b g y holds at (eqb_tells b a);
  }
    where
      untested_by : (b g y : ℕ) → (s.view b).hold.head ≡ Some g → D b ≡ at_entry y true
          → (((b == a) ≡ true) × (b ≡ a)) ⊎ (((b == a) ≡ false) × (b ≢ a))
          → (owner y ≡ b) × IsUntested (s.view b) g y
      untested_by b g y holds at (inl q) = none_there y true
          (sym (ap D q.1 ∙ put_same differs a nothing) ∙ at)
      untested_by b g y holds at (inr q) = r.untested b g y holds (sym (put_other differs a nothing b q.1) ∙ at)

-- on the words
module _ (c : Scene) (law : Law c) (a h i k : ℕ) (on : Bool) (head : h < HEADS) (few : i < MEMBER_WORDS)
    (small : k < WORD_BITS) (held : (law.table.view a).hold.head ≡ Some h)
    (index : index_named a (all_differences c.items a) ≡ Some (WORD_BITS * i + k))
    (is : is_put (all_differences c.items a) ≡ on) where
  abbrev l : Location
  l = place.Member (MEMBER_WORDS * h + i)

  there : IsLocation l
  there = omega arith

  law_member : Law (moved c a (position_of (place.Member (MEMBER_WORDS * h + i)))
      (bit_stored on k (slice_index c.words (position_of (place.Member (MEMBER_WORDS * h + i))))) (item.Member ∷ []))
  law_member = record {
    table = law.table;
    beside = with_member law.beside (MEMBER_WORDS * h + i) W0;
    shown = subst (λ (n : ℕ). ShowsWith (slice_set c.words (position_of l) n) law.table
        (with_member law.beside (MEMBER_WORDS * h + i) W0))
        (this_word law.table law.beside (MEMBER_WORDS * h + i) W0 ∙ ap (bit_stored on k) (sym (law.shown.each l there)))
        (written c.words law.table law.table law.beside (with_member law.beside (MEMBER_WORDS * h + i) W0) l law.shown
        there (λ j ne. other_words law.table law.beside (MEMBER_WORDS * h + i) W0 j ne));
    ruled = ruled_seen c law a (item.Member ∷ []) refl tt
        (named_hands a (WORD_BITS * i + k) (all_differences c.items a) index)
        (λ less. subst (Fits (law.table.task a)) (sym (book_append first_book (c.items a) (item.Member ∷ [])))
        (fits_difference (law.table.task a) (book_of (c.items a)) nothing (law.ruled.fits a less)))
        (same_links law.table c.items a (item.Member ∷ []) (notes_after a (c.items a) item.Member) law.ruled.linked);
    members = subst (λ (d : ℕ → Difference). AreMembers law.table d
        (with_member law.beside (MEMBER_WORDS * h + i) W0)) (sym (differences_next c.items a (item.Member ∷ [])))
        (bit_members law.table (all_differences c.items) law.beside law.members a h i k on few small held index is);
    tickets = subst (λ (f : ℕ → Ticket). AreTickets law.table f (with_member law.beside (MEMBER_WORDS * h + i) W0))
        (sym (tickets_same c.items a (item.Member ∷ []) refl))
        (beside_tickets law.table (all_tickets c.items) law.beside (with_member law.beside (MEMBER_WORDS * h + i) W0)
        (λ k. refl) (λ k. refl)
        law.tickets);
    tallies = tallies_same c.items a (item.Member ∷ []) law.beside
        (with_member law.beside (MEMBER_WORDS * h + i) W0) (λ p. refl)
        (λ k. refl) law.tallies;
    pipes = pipes_rest c.items a (item.Member ∷ []) (word_with law.table law.beside)
        (word_with law.table (with_member law.beside (MEMBER_WORDS * h + i) W0)) l refl
        (λ j ne. other_words law.table law.beside (MEMBER_WORDS * h + i) W0 j ne) (λ p. (λ e. refl, refl)) law.pipes;
  }
    where
      W0 : ℕ
      W0 = bit_stored on k (law.beside (place.Member (MEMBER_WORDS * h + i)))

pub member_moves : (slots id : ℕ) (me : Sat) → me.0.lives ≡ true → (h i k p : ℕ) (on : Bool) → h < HEADS
    → i < MEMBER_WORDS → k < WORD_BITS → p ≡ position_of (place.Member (MEMBER_WORDS * h + i))
    → (book_of me.0.items).head ≡ Some h
    → index_named me.0.number (book_of me.0.items).differs ≡ Some (WORD_BITS * i + k)
    → is_put (book_of me.0.items).differs ≡ on
    → Allows (Holds Law) slots id me p (bit_stored on k) (λ n m. (m ≡ seat_with me item.Member) × Unit {0})
member_moves slots id me lives h i k p on head few small at held index is = subst
    (λ (q : ℕ). Allows (Holds Law) slots id me q (bit_stored on k) (λ n m. (m ≡ seat_with me item.Member) × Unit {0}))
    (sym at)
    (allows Law slots id me.0 me.1 (position_of (place.Member (MEMBER_WORDS * h + i))) (bit_stored on k)
    (λ n. item.Member ∷ []) (λ _. Unit {0}) lives (λ c law less own fits. (
      law_member c law me.0.number h i k on head few small
          (head_seen law.table c.items me (Some h) (mine c law own) held)
          (ap (λ (xs : List Item). index_named me.0.number (book_of xs).differs) own ∙ index)
          (ap (λ (xs : List Item). is_put (book_of xs).differs) own ∙ is),
      tt,
    )))
  where
    mine : (c : Scene) (law : Law c) → c.items me.0.number ≡ me.0.items → IsOwn law.table c.items me
    mine c law own = record {
      told = law.ruled.whole.told me.0.number ∙ (ap view_of (law.ruled.histories me.0.number)
          ∙ ap (λ (xs : List Item). view_of (steps_of xs)) own);
      list = own;
    }

-- by the index
pub bit_moves : (slots id : ℕ) (me : Sat) → me.0.lives ≡ true → (h x p first : ℕ) (on : Bool) → h < HEADS
    → x < MEMBERS → p ≡ position_of (place.Member (MEMBER_WORDS * h + x / WORD_BITS))
    → (book_of me.0.items).head ≡ Some h
    → index_named me.0.number (book_of me.0.items).differs ≡ Some x
    → is_put (book_of me.0.items).differs ≡ on
    → Allows (Holds Law) slots id me p (bit_stored on (x % WORD_BITS))
    (member_stored_play (move slots p first 0 none) me)
bit_moves slots id me lives h x p first on head few at held index is s r long at_id less =
    let whole : x ≡ WORD_BITS * (x / WORD_BITS) + x % WORD_BITS = omega arith in
    let a = member_moves slots id me lives h (x / WORD_BITS) (x % WORD_BITS) p on head (omega arith)
    (omega arith) at held
    (index ∙ ap (λ (n : ℕ). Some n) whole) is s r long at_id less in
    told_as a (λ _ _ t. t.0)
