-- What a load of a member word in a hold tells: looks at the words of all its bits.
use Rattle.std.proofs.Common.{refl, sym, ◌∙◌, ap, subst, arith, inl, inr, append-nil}
use Rattle.std.specs.Prelude.{ℕ, zero, suc, ◌≡◌, ◌≢◌, ◌+◌, ◌-◌, ◌*◌, ◌/◌, ◌%◌, ◌<◌, ◌≤◌, ◌⊎◌, Bool, true, false, nat_lt}
use Rattle.std.specs.Prelude.{if◌then◌else◌, Option, Some, List, [], ◌∷◌, ◌++◌, slice_index, slice_set}
use Rattle.std.proofs.lemmas.Bool.Decides.{nat_tests}
use mathlib.Core.Path.{fun_ext}
use mathlib.Core.Option.{none}
use Rattle.atomic_table.specs.{Seated.TableId, Table.step as move, Table.Allows}
use Rattle.wait_model.specs.{declared.watches.Entry.Entry, declared.steps.Step.Step, Functions.put, Watches.stands_at}
use Rattle.wait_model.specs.{Words.bit_at, Words.entry_word, Fold.view_of}
use Rattle.wait_model.specs.declared.layout.TheConstants.{TASKS, ENTRIES, HEADS, MEMBER_WORDS, WORD_BITS, MEMBER_AT}
use Rattle.wait_model.specs.Locations.{Location, IsLocation, position_of, mark_word}
use Rattle.wait_model.specs.declared.steps.Step.TheVariants as step
use Rattle.wait_model.specs.Locations as place
use Rattle.wait_model.proofs.Functions.{put_case, put_at, put_same, put_other}
use Rattle.wait_model.proofs.WordLaws.BitWords.{bit_read}
use Rattle.wait_rule.specs.{declared.journal.Item.Item, declared.journal.Journal.Journal, Known.Known, Known.known}
use Rattle.wait_rule.specs.{Says.added, Plays.Sat, QueuePlays.member_seen_play, Tickets.Ticket, TicketWords.AreTickets}
use Rattle.wait_rule.specs.Items.{Book, Difference, nothing, first_book, steps_of, book_from, book_of, Fits}
use Rattle.wait_rule.specs.Journals.{Scene, moved, pushed}
use Rattle.wait_rule.specs.Notes.{Notes, is_at, glance_at, notes_of}
use Rattle.wait_rule.specs.MemberWords.{is_beside, word_with, ShowsWith, names, all_differences, AreMembers}
use Rattle.wait_rule.specs.Rule.{AreLinked, all_notes, Law, Holds}
use Rattle.wait_rule.specs.MemberLooks.{SawEntry, SawMark, SawKind, SawBits, SawWord}
use Rattle.wait_rule.specs.declared.journal.Item.TheVariants as item
use Rattle.wait_rule.proofs.{TableSteps.ItemLists.book_append, TableSteps.StateLaws.allows_some}
use Rattle.wait_rule.proofs.{KnownLaws.AfterSteps.notes_after, KnownLaws.HeadLinks.same_links}
use Rattle.wait_rule.proofs.{KnownLaws.TicketSteps.tickets_same, KnownLaws.TallySteps.tallies_same}
use Rattle.wait_rule.proofs.{KnownLaws.PipeTables.pipes_next, KnownLaws.PipeTables.pipes_rest}
use Rattle.wait_rule.proofs.{TableSteps.QueueMoves.head_seen, StepKinds.MarkKinds.mark_reads}
use Rattle.wait_rule.proofs.StepKinds.MarkKinds.{is_mark}
use Rattle.wait_rule.proofs.KnownLaws.MemberSteps.{differences_same, nothing_named, entry_names}
use Rattle.wait_rule.proofs.TableSteps.KeptSteps.{law_kept, ChangesNone, KeepsLaw, IsOwn, ruled_seen, written}
use Rattle.wait_rule.proofs.TableSteps.MemberMoves.{knew_at, knew_entry, knew_mark, seen_links}
use Rattle.wait_rule.proofs.StepKinds.EntryKinds.{reads, sees, is_entry}

-- the same words, and more items in one list
abbrev pub with_items : Scene → ℕ → List Item → Scene
with_items c a xs = record { words = c.words; items = put c.items a (c.items a ++ xs) }

append_assoc : (xs ys zs : List Item) → (xs ++ ys) ++ zs ≡ xs ++ (ys ++ zs)
append_assoc [] ys zs = refl
append_assoc (x ∷ xs) ys zs = ap (λ (l : List Item). x ∷ l) (append_assoc xs ys zs)

items_twice : (f : ℕ → List Item) (a : ℕ) (xs ys : List Item)
    → put (put f a (f a ++ xs)) a (put f a (f a ++ xs) a ++ ys) ≡ put f a (f a ++ (xs ++ ys))
items_twice f a xs ys = fun_ext (λ t. by t (put_case f a (f a ++ xs) t))
  where
    F : ℕ → List Item
    F = put f a (f a ++ xs)

    by : (t : ℕ) → ((t ≡ a) × (F t ≡ f a ++ xs)) ⊎ ((t ≢ a) × (F t ≡ f t))
        → put F a (F a ++ ys) t ≡ put f a (f a ++ (xs ++ ys)) t
    by t (inl q) = ap (put F a (F a ++ ys)) q.0 ∙ (put_same F a (F a ++ ys)
        ∙ (ap (λ (l : List Item). l ++ ys) (put_same f a (f a ++ xs)) ∙ (append_assoc (f a) xs ys
        ∙ sym (ap (put f a (f a ++ (xs ++ ys))) q.0 ∙ put_same f a (f a ++ (xs ++ ys))))))
    by t (inr q) = put_other F a (F a ++ ys) t q.0 ∙ (q.1 ∙ sym (put_other f a (f a ++ (xs ++ ys)) t q.0))

law_twice : (c : Scene) (a : ℕ) (xs ys : List Item) → Law (with_items (with_items c a xs) a ys)
    → Law (with_items c a (xs ++ ys))
law_twice c a xs ys = subst (λ (f : ℕ → List Item). Law (record { words = c.words; items = f }))
    (items_twice c.items a xs ys)

-- a step that changes no word
pub look_law : (c : Scene) (law : Law c) (a : ℕ) (l : Location) (n : ℕ) (e : Step) → a < TASKS → ChangesNone a e
    → KeepsLaw law.table a l n e (book_of (c.items a)) → Law (with_items c a (item.Made e ∷ []))
look_law c law a l n e few idle k = law_kept c.words c law a l n e few k (record {
  count = law.shown.count;
  each = λ j is. law.shown.each j is
      ∙ ap (λ (w : ℕ). if is_beside j then law.beside j else w) (sym (idle law.table j));
}) (pipes_next law.table law.beside c.items a e k.allowed (λ v small. idle law.table (place.Var v)) law.pipes)

saw_none : (a x w : ℕ) → ChangesNone a (step.Saw x w)
saw_none a x w s place.Base = refl
saw_none a x w s l = refl

-- a look at a bookmark word
mark_law : (c : Scene) (law : Law c) (a t : ℕ) → a < TASKS
    → Law (with_items c a (item.Bookmark t (mark_word (law.table.mark t)) ∷ []))
mark_law c law a t few = record {
  table = law.table;
  beside = law.beside;
  shown = record { count = law.shown.count; each = law.shown.each };
  ruled = ruled_seen c law a (item.Bookmark t w ∷ []) refl tt (inl refl)
      (λ less. subst (Fits (law.table.task a)) (sym (book_append first_book (c.items a) (item.Bookmark t w ∷ [])))
      (law.ruled.fits a less))
      (subst (λ (k : Notes). AreLinked law.table (put (all_notes c.items) a k)) (sym by)
      (seen_links law.table (all_notes c.items) a t law.ruled.linked));
  members = subst (λ (d : ℕ → Difference). AreMembers law.table d law.beside)
      (sym (differences_same c.items a (item.Bookmark t w ∷ []) refl)) law.members;
  tickets = subst (λ (f : ℕ → Ticket). AreTickets law.table f law.beside)
      (sym (tickets_same c.items a (item.Bookmark t w ∷ []) refl)) law.tickets;
  tallies = tallies_same c.items a (item.Bookmark t w ∷ []) law.beside law.beside (λ p. refl) (λ p. refl) law.tallies;
  pipes = pipes_rest c.items a (item.Bookmark t w ∷ []) (word_with law.table law.beside)
      (word_with law.table law.beside) place.Base refl (λ j ne. refl) (λ k. (λ e. refl, refl)) law.pipes;
}
  where
    w : ℕ
    w = mark_word (law.table.mark t)

    by : notes_of a (c.items a ++ item.Bookmark t w ∷ [])
        ≡ record (all_notes c.items a) {
          marks = put (all_notes c.items a).marks t (glance_at (law.table.view a).hold.head (law.table.mark t));
        }
    by = notes_after a (c.items a) (item.Bookmark t w)
        ∙ (λ i. record (all_notes c.items a) {
          marks = put (all_notes c.items a).marks t
              (glance_at (sym (law.ruled.whole.told a ∙ ap view_of (law.ruled.histories a)) i).hold.head
              (mark_reads law.table c.items law.ruled t i));
        })

-- with a member word written as it was
pub word_back : (c : Scene) (a m : ℕ) (xs : List Item) → Law (with_items c a xs) → IsLocation (place.Member m)
    → Law (moved c a (position_of (place.Member m)) (slice_index c.words (position_of (place.Member m))) xs)
word_back c a m xs law there = record {
  table = law.table;
  beside = law.beside;
  shown = subst (λ (n : ℕ). ShowsWith (slice_set c.words (position_of (place.Member m)) n) law.table law.beside)
      (sym (law.shown.each (place.Member m) there))
      (written c.words law.table law.table law.beside law.beside (place.Member m) law.shown there (λ k ne. refl));
  ruled = law.ruled;
  members = law.members;
  tickets = law.tickets;
  tallies = law.tallies;
  pipes = law.pipes;
}

-- a note of the load of a member word
word_law : (c : Scene) (law : Law c) (a w : ℕ) → Law (with_items c a (item.Word w ∷ []))
word_law c law a w = record {
  table = law.table;
  beside = law.beside;
  shown = record { count = law.shown.count; each = law.shown.each };
  ruled = ruled_seen c law a (item.Word w ∷ []) refl tt (inl refl)
      (λ less. subst (Fits (law.table.task a)) (sym (book_append first_book (c.items a) (item.Word w ∷ [])))
      (law.ruled.fits a less))
      (same_links law.table c.items a (item.Word w ∷ []) (notes_after a (c.items a) (item.Word w)) law.ruled.linked);
  members = subst (λ (d : ℕ → Difference). AreMembers law.table d law.beside)
      (sym (differences_same c.items a (item.Word w ∷ []) refl)) law.members;
  tickets = subst (λ (f : ℕ → Ticket). AreTickets law.table f law.beside)
      (sym (tickets_same c.items a (item.Word w ∷ []) refl)) law.tickets;
  tallies = tallies_same c.items a (item.Word w ∷ []) law.beside law.beside (λ p. refl) (λ p. refl) law.tallies;
  pipes = pipes_rest c.items a (item.Word w ∷ []) (word_with law.table law.beside)
      (word_with law.table law.beside) place.Base refl (λ j ne. refl) (λ k. (λ e. refl, refl)) law.pipes;
}

-- a seat with more items
abbrev pub more : Sat → List Item → Sat
more me xs = (pushed me.0 xs, me.1)

known_more : (d : TableId) (v : Journal) (at : ℕ) (xs : List Item) (y : Item)
    → known d (pushed v (xs ++ y ∷ [])) at ≡ added (known d (pushed v xs) at) y
known_more d v at xs y = (λ i. known d (record {
  lives = v.lives;
  number = v.number;
  next = v.next;
  spare = v.spare;
  items = sym (append_assoc v.items xs (y ∷ [])) i;
  joined = v.joined;
}) at) ∙ (λ i. record {
  domain = d;
  view = pushed (pushed v xs) (y ∷ []);
  book = book_append first_book (v.items ++ xs) (y ∷ []) i;
  at = at;
})

own_of : (c : Scene) (law : Law c) (me : Sat) → c.items me.0.number ≡ me.0.items → IsOwn law.table c.items me
own_of c law me own = record {
  told = law.ruled.whole.told me.0.number ∙ (ap view_of (law.ruled.histories me.0.number)
      ∙ ap (λ (xs : List Item). view_of (steps_of xs)) own);
  list = own;
}

-- in a hold that names no index, a bit is set exactly where its word names the head
module _ (c : Scene) (law : Law c) (me : Sat) (h i : ℕ) (head : h < HEADS) (few : i < MEMBER_WORDS)
    (own : c.items me.0.number ≡ me.0.items) (held : (book_of me.0.items).head ≡ Some h)
    (clear : (book_of me.0.items).differs ≡ nothing) where
  at_word : slice_index c.words (position_of (place.Member (MEMBER_WORDS * h + i)))
      ≡ law.beside (place.Member (MEMBER_WORDS * h + i))
  at_word = law.shown.each (place.Member (MEMBER_WORDS * h + i)) (omega arith)

  held_here : (law.table.view me.0.number).hold.head ≡ Some h
  held_here = head_seen law.table c.items me (Some h) (own_of c law me own) held

  true_bits : (x : ℕ) → law.members.bits h x ≡ names law.table h x
  true_bits x = law.members.agrees h x (λ b holds. nothing_named b (all_differences c.items b) x
      (ap (all_differences c.items)
      (law.ruled.whole.kept.facts.one_holder b me.0.number h holds held_here)
      ∙ (ap (λ (xs : List Item). (book_of xs).differs) own ∙ clear)))

  pub bit_names : (k : ℕ) → k < WORD_BITS
      → bit_at (slice_index c.words (position_of (place.Member (MEMBER_WORDS * h + i)))) k
      ≡ names law.table h (WORD_BITS * i + k)
  bit_names k small = ap (λ (w : ℕ). bit_at w k) (at_word ∙ law.members.spells h i few)
      ∙ (bit_read (λ j. law.members.bits h (WORD_BITS * i + j)) k small ∙ true_bits (WORD_BITS * i + k))

  -- one look
  pub entry_look : (x : ℕ) → me.0.number < TASKS
      → Law (with_items c me.0.number (item.Made (step.Saw x (entry_word (law.table.entry x))) ∷ []))
  entry_look x less = look_law c law me.0.number (place.Entry x) (entry_word (law.table.entry x))
      (step.Saw x (entry_word (law.table.entry x))) less (saw_none me.0.number x (entry_word (law.table.entry x)))
      (sees law.table c.items law.ruled x me.0.number (book_of (c.items me.0.number))
      (law.ruled.fits me.0.number less) (Some h) held_here)

  pub entry_told : (bit : Bool) (x : ℕ) (d : TableId) (at : ℕ) (new : Known) → x < ENTRIES
      → names law.table h x ≡ bit
      → new ≡ added (known d me.0 at) (item.Made (step.Saw x (entry_word (law.table.entry x))))
      → SawEntry bit h x (known d me.0 at) new
  entry_told bit x d at new small tells is =
      record {
        found = entry_word (law.table.entry x);
        is = is;
        lawful = is_entry law.table c.items law.ruled x;
        knew = knew_at d me.0 at x _ (knew_entry law.table c.items me x law.ruled (own_of c law me own) d);
        named = ap (λ (o : Option Entry). stands_at o h) (reads law.table c.items law.ruled x)
            ∙ (sym (entry_names law.table h x small) ∙ tells);
      }

  pub mark_told : (bit : Bool) (t : ℕ) (d : TableId) (at : ℕ) (new : Known) → is_at h (law.table.mark t) ≡ bit
      → new ≡ added (known d me.0 at) (item.Bookmark t (mark_word (law.table.mark t)))
      → SawMark bit h t (known d me.0 at) new
  mark_told bit t d at new tells is =
      let k = knew_mark law.table c.items me t law.ruled (own_of c law me own) d in
      record {
        found = mark_word (law.table.mark t);
        is = is;
        lawful = is_mark law.table c.items law.ruled t;
        knew = record { shown = k.shown; own = k.own };
        named = ap (is_at h) (mark_reads law.table c.items law.ruled t) ∙ tells;
      }

-- looks at the first n bits
module _ (c : Scene) (law : Law c) (me : Sat) (h i : ℕ) (head : h < HEADS) (few : i < MEMBER_WORDS)
    (less : me.0.number < TASKS)
    (own : c.items me.0.number ≡ me.0.items) (held : (book_of me.0.items).head ≡ Some h)
    (clear : (book_of me.0.items).differs ≡ nothing) where
  abbrev W : ℕ
  W = slice_index c.words (position_of (place.Member (MEMBER_WORDS * h + i)))

  abbrev Seen : ℕ → Type 0
  Seen n = (xs : List Item) × Law (with_items c me.0.number xs) × (book_of (me.0.items ++ xs) ≡ book_of me.0.items)
      × ((d : TableId) (at : ℕ) → SawBits h i W n (known d me.0 at) (known d (pushed me.0 xs) at))

  own_more : (xs : List Item) → (with_items c me.0.number xs).items me.0.number ≡ (more me xs).0.items
  own_more xs = put_same c.items me.0.number (c.items me.0.number ++ xs) ∙ ap (λ (l : List Item). l ++ xs) own

  book_more : (xs : List Item) (y : Item) → book_of (me.0.items ++ xs) ≡ book_of me.0.items
      → ((b : Book) → book_from b (y ∷ []) ≡ b) → book_of (me.0.items ++ (xs ++ y ∷ [])) ≡ book_of me.0.items
  book_more xs y same keeps_it = ap book_of (sym (append_assoc me.0.items xs (y ∷ [])))
      ∙ (book_append first_book (me.0.items ++ xs) (y ∷ []) ∙ (keeps_it (book_of (me.0.items ++ xs)) ∙ same))

  one_more : (n : ℕ) → n < WORD_BITS → Seen n → Seen (suc n)
  unfolding SawBits
  one_more n small s = by (nat_lt x ENTRIES) refl
    where
      c2 : Scene
      c2 = with_items c me.0.number s.0

      x : ℕ
      x = WORD_BITS * i + n

      held2 : (book_of (more me s.0).0.items).head ≡ Some h
      held2 = ap (λ (b : Book). b.head) s.2 ∙ held

      clear2 : (book_of (more me s.0).0.items).differs ≡ nothing
      clear2 = ap (λ (b : Book). b.differs) s.2 ∙ clear

      tells : names s.1.table h x ≡ bit_at W n
      tells = sym (bit_names c2 s.1 (more me s.0) h i head few (own_more s.0) held2 clear2 n small)

      by : (b : Bool) → nat_lt x ENTRIES ≡ b → Seen (suc n)
      by true e =
          let less_x : x < ENTRIES = grind (arith, nat_tests) in
          let y : Item = item.Made (step.Saw x (entry_word (s.1.table.entry x))) in (
            s.0 ++ y ∷ [],
            law_twice c me.0.number s.0 (y ∷ [])
                (entry_look c2 s.1 (more me s.0) h i head few (own_more s.0) held2 clear2 x less),
            book_more s.0 y s.2 (λ b. refl),
            λ d at. (
              known d (pushed me.0 s.0) at,
              s.3 d at,
              subst (λ (b : Bool). SawKind b (bit_at W n) h x (known d (pushed me.0 s.0) at)
                  (known d (pushed me.0 (s.0 ++ y ∷ [])) at)) (sym e)
                  (entry_told c2 s.1 (more me s.0) h i head few (own_more s.0) held2 clear2 (bit_at W n) x d at
                  (known d (pushed me.0 (s.0 ++ y ∷ [])) at) less_x tells (known_more d me.0 at s.0 y)),
            ),
          )
      by false e =
          let from : ENTRIES ≤ x = grind (arith, nat_tests) in
          let y : Item = item.Bookmark (x - ENTRIES) (mark_word (s.1.table.mark (x - ENTRIES))) in
          let there : is_at h (s.1.table.mark (x - ENTRIES)) ≡ bit_at W n =
          ap (λ (b : Bool). if b then stands_at (s.1.table.entry x) h else is_at h (s.1.table.mark (x - ENTRIES)))
          (sym e) ∙ tells in (
            s.0 ++ y ∷ [],
            law_twice c me.0.number s.0 (y ∷ []) (mark_law c2 s.1 me.0.number (x - ENTRIES) less),
            book_more s.0 y s.2 (λ b. refl),
            λ d at. (
              known d (pushed me.0 s.0) at,
              s.3 d at,
              subst (λ (b : Bool). SawKind b (bit_at W n) h x (known d (pushed me.0 s.0) at)
                  (known d (pushed me.0 (s.0 ++ y ∷ [])) at)) (sym e)
                  (mark_told c2 s.1 (more me s.0) h i head few (own_more s.0) held2 clear2 (bit_at W n) (x - ENTRIES)
                  d at (known d (pushed me.0 (s.0 ++ y ∷ [])) at) there (known_more d me.0 at s.0 y)),
            ),
          )

  none_yet : Seen 0
  unfolding SawBits
  none_yet = (
    [],
    subst (λ (f : ℕ → List Item). Law (record { words = c.words; items = f })) (sym still) law,
    ap book_of (append-nil me.0.items),
    λ d at. ap (λ (xs : List Item). known d (record {
      lives = me.0.lives;
      number = me.0.number;
      next = me.0.next;
      spare = me.0.spare;
      items = xs;
      joined = me.0.joined;
    }) at) (append-nil me.0.items),
  )
    where
      still : put c.items me.0.number (c.items me.0.number ++ []) ≡ c.items
      still = fun_ext (λ t. put_at (λ (l : List Item). l ≡ c.items t) c.items me.0.number
          (c.items me.0.number ++ []) t (λ q. append-nil (c.items me.0.number) ∙ ap c.items (sym q)) (λ _. refl))

  all_seen : (n : ℕ) → n ≤ WORD_BITS → Seen n
  all_seen zero small = none_yet
  all_seen (suc n) small = one_more n (omega arith) (all_seen n (omega arith))

  -- with the word written as it was, and the load noted after the looks
  pub word_seen : (xs : List Item) × Law (moved c me.0.number (position_of (place.Member (MEMBER_WORDS * h + i))) W xs)
      × ((d : TableId) (at : ℕ) → SawWord h i W (known d me.0 at) (known d (pushed me.0 xs) at))
  word_seen =
      let s = all_seen WORD_BITS (omega arith) in
      let law = law_twice c me.0.number s.0 (item.Word W ∷ [])
      (word_law (with_items c me.0.number s.0) s.1 me.0.number W)
      in (
        s.0 ++ item.Word W ∷ [],
        word_back c me.0.number (MEMBER_WORDS * h + i) (s.0 ++ item.Word W ∷ []) law (omega arith),
        λ d at. record {
          seen = known d (pushed me.0 s.0) at;
          bits = s.3 d at;
          is = known_more d me.0 at s.0 (item.Word W);
        },
      )

pub see_moves : (slots id : ℕ) (me : Sat) → me.0.lives ≡ true → (h i p : ℕ) → h < HEADS → i < MEMBER_WORDS
    → p ≡ position_of (place.Member (MEMBER_WORDS * h + i)) → (book_of me.0.items).head ≡ Some h
    → (book_of me.0.items).differs ≡ nothing
    → Allows (Holds Law) slots id me p (λ n. n) (member_seen_play (move slots p 0 0 none) me)
see_moves slots id me lives h i p head few at held clear = subst
    (λ (k : ℕ × ℕ). Allows (Holds Law) slots id me p (λ n. n) (λ n m. (xs : List Item) × (m ≡ (pushed me.0 xs, me.1))
    × ((d : TableId) (last : ℕ) → SawWord k.0 k.1 n (known d me.0 last) (known d (pushed me.0 xs) last))))
    (λ j. (head_is j, word_is j))
    (subst (λ (q : ℕ). Allows (Holds Law) slots id me q (λ n. n) (λ n m. (xs : List Item)
    × (m ≡ (pushed me.0 xs, me.1))
    × ((d : TableId) (last : ℕ) → SawWord h i n (known d me.0 last) (known d (pushed me.0 xs) last))))
    (sym at)
    (allows_some Law slots id me.0 me.1 (position_of (place.Member (MEMBER_WORDS * h + i))) (λ n. n)
    (λ n xs. (d : TableId) (last : ℕ) → SawWord h i n (known d me.0 last) (known d (pushed me.0 xs) last))
    lives (λ c law less own fits. word_seen c law me h i head few less own held clear)))
  where
    head_is : h ≡ (p - MEMBER_AT) / MEMBER_WORDS
    head_is = omega arith

    word_is : i ≡ (p - MEMBER_AT) % MEMBER_WORDS
    word_is = omega arith
