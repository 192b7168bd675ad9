-- From "this step keeps the law" to what a step of the table of words asks.
use Rattle.std.proofs.lemmas.Bool.{both_ways}
use Rattle.std.proofs.Common.{refl, sym, ◌∙◌, ap, subst, arith, append-nil, eq-eqb, ne_eqb, inl, inr, get_or-set_other}
use Rattle.std.proofs.Common.{get_or-set_same, length-set}
use Rattle.std.proofs.lemmas.Bool.Decides.{eqb_tells, nat_tests}
use Rattle.std.specs.Prelude.{ℕ, ◌≡◌, ◌≢◌, ◌<◌, ◌⊎◌, Bool, true, false, cond, eqb, ◌==◌, if◌then◌else◌}
use Rattle.std.specs.Prelude.{length, List, [], ◌∷◌, ◌++◌, slice_set, slice_index}
use native.Mathlib.Decide.{ℕ_discrete}
use prog.Atomic.{either}
use Rattle.atomic_table.specs.Table.{Allows}
use Rattle.wait_model.specs.{declared.layout.TheConstants.TASKS, declared.layout.TheConstants.CLAIMS}
use Rattle.wait_model.specs.{declared.steps.Step.Step, Functions.put, Fold.view_of, Tables.Table, Tables.next}
use Rattle.wait_model.specs.Rows.{Allowed}
use Rattle.wait_model.specs.Locations.{Location, IsLocation, position_of, word_in}
use Rattle.wait_model.specs.Locations as place
use Rattle.wait_model.proofs.{StepLaws.KeptLaws.step_keeps, HistoryLaws.HoldLooks.told_next}
use Rattle.wait_model.proofs.{WordLaws.ShownSteps.one_location, WordLaws.ShownSteps.position_fits}
use Rattle.wait_model.proofs.{AccountLaws.SignalCounts.signals_stay_raised, BitLaws.BitKeepers.bits_stay_kept}
use Rattle.wait_model.proofs.AccountLaws.DoneCounts.{counts_stay_balanced}
use Rattle.wait_model.proofs.Functions.{put_at, put_same, put_other}
use Rattle.wait_rule.specs.{declared.journal.Item.Item, Notes.notes_of, Tickets.Ticket, Pipes.ArePipes}
use Rattle.wait_rule.specs.{TicketWords.all_tickets, TicketWords.AreTickets, Asked.all_asked, Pages.ArePageStates}
use Rattle.wait_rule.specs.Items.{Book, Difference, first_book, steps_of, learn_step, book_from, book_of, Fits}
use Rattle.wait_rule.specs.MemberWords.{is_beside, word_with, ShowsWith, all_differences, AreMembers}
use Rattle.wait_rule.specs.Journals.{Scene, moved, pushed}
use Rattle.wait_rule.specs.Rule.{IsLawfulTable, IsWhole, AreLinked, all_notes, is_stepped, IsRuled, Law, Holds}
use Rattle.wait_rule.specs.Plays.{Sat, seat_with, seat_tried}
use Rattle.wait_rule.specs.declared.journal.Item.TheVariants as item
use Rattle.wait_rule.proofs.{TableSteps.ItemLists.steps_append, TableSteps.ItemLists.book_append}
use Rattle.wait_rule.proofs.{KnownLaws.Moments.interleaved_next, KnownLaws.TallySteps.KeepsTallies}
use Rattle.wait_rule.proofs.{KnownLaws.TallySteps.tallies_same, KnownLaws.MemberPlaces.KeepsPlaces}
use Rattle.wait_rule.proofs.{KnownLaws.MemberPlaces.queued_next, WornHeads.WornNotes.IsShort}
use Rattle.wait_rule.proofs.{WornHeads.WornNotes.worn_next, KnownLaws.HeldCounts.counts_next}
use Rattle.wait_rule.proofs.{KnownLaws.PageSteps.IsSound, KnownLaws.QueuedPages.pages_next}
use Rattle.wait_rule.proofs.{KnownLaws.QuietFlags.quiet_next, KnownLaws.ToldFlags.heard_next}
use Rattle.wait_rule.proofs.{TableSteps.StateLaws.allows, TableSteps.StateLaws.pushed_none}
use Rattle.wait_rule.proofs.KnownLaws.MemberSteps.{IsOrderly, differences_next, differences_same, members_next}
use Rattle.wait_rule.proofs.KnownLaws.TicketSteps.{tickets_next, tickets_same, tickets_after}
use Rattle.wait_rule.proofs.KnownLaws.PipeTables.{KeepsEnds, pipes_next, pipes_rest}
use Rattle.wait_rule.proofs.KnownLaws.HeadLinks.{KeepsLinks, noted_next, noted_seen, same_links}
use Rattle.wait_rule.proofs.KnownLaws.OwnEntries.{IsFair, done_store, hands_on, own_next}
use Rattle.wait_rule.proofs.KnownLaws.AskedPages.{HandsSame, pages_seen, asked_next, asked_same}

-- What a step of task a leaves: from the table s it leads to z, where the word at l is n and all others are as
-- they were, and b is what the task knows then.
pub record Leaves (s z : Table) (a : ℕ) (l : Location) (n : ℕ) (b : Book) : Type 0 where
  pub lawful : IsLawfulTable z
  pub own : Fits (z.task a) b
  pub others : (t : ℕ) → t ≢ a → (c : Book) → Fits (s.task t) c → Fits (z.task t) c
  pub left : word_in z l ≡ n
  pub rest : (k : Location) → k ≢ l → word_in z k ≡ word_in s k

-- a step that keeps the law: the model allows it, and what it leaves is lawful
pub record KeepsLaw (s : Table) (a : ℕ) (l : Location) (n : ℕ) (e : Step) (b : Book) : Type 0 where
  pub allowed : Allowed s a e
  pub stored : IsFair s a e
  pub orderly : IsOrderly s a e b
  pub places : KeepsPlaces s a e
  pub links : KeepsLinks s a e
  pub leaves : Leaves s (next s a e) a l n (learn_step e b)

-- a move that the table allows, by what is known then told in other words
pub told_as : {W A : Type 0} {V : A → Type 0} {H T U : W → A → Type 0} → (w : W) × (a : A) × V a × H w a × T w a
    → ((w : W) (a : A) → T w a → U w a) → (w : W) × (a : A) × V a × H w a × U w a
told_as m by = (m.0, m.1, m.2, m.3, by m.0 m.1 m.4)

pub whole_next : (s : Table) (a : ℕ) (e : Step) → a < TASKS → Allowed s a e → IsFair s a e → IsWhole s
    → IsWhole (next s a e)
whole_next s a e few al st w = record {
  kept = step_keeps s a e w.kept al;
  told = told_next s a e w.told;
  signals = λ t. signals_stay_raised TASKS s a e t few al (w.signals t);
  bits = bits_stay_kept s a e w.kept w.told al w.bits;
  counts = λ d. counts_stay_balanced TASKS s a e d few al (done_store s a e st) (w.counts d);
  interleaved = interleaved_next s a e few al (hands_on s a e st) w.interleaved;
}

not_stepped : (k l : Location) → is_stepped k ≡ false → is_stepped l ≡ true → k ≢ l
not_stepped k l unset is e = absurd (both_ways false refl (sym unset ∙ (ap is_stepped e ∙ is)))

-- a step that changes no word, as a load
abbrev pub ChangesNone : ℕ → Step → Type 0
ChangesNone a e = (s : Table) (k : Location) → word_in (next s a e) k ≡ word_in s k

-- the step's word is one that some call changes, or the step changes none
abbrev pub MayChangeWord : Location → ℕ → Step → Type 0
MayChangeWord l a e = (is_stepped l ≡ true) ⊎ ChangesNone a e

rest_untouched : (s z : Table) (a : ℕ) (l : Location) (n : ℕ) (b : Book) (e : Step) → z ≡ next s a e
    → MayChangeWord l a e
    → Leaves s z a l n b → (m : Location) → is_stepped m ≡ false → word_in z m ≡ word_in s m
rest_untouched s z a l n b e here (inl is) k m unset = k.rest m (not_stepped m l unset is)
rest_untouched s z a l n b e here (inr none) k m unset = ap (λ (t : Table). word_in t m) here ∙ none s m

histories_next : (s : Table) (items : ℕ → List Item) (a : ℕ) (e : Step) → ((t : ℕ) → s.history t ≡ steps_of (items t))
    → (t : ℕ) → (next s a e).history t ≡ steps_of (put items a (items a ++ item.Made e ∷ []) t)
histories_next s items a e is t = put_at
    (λ (xs : List Item). put s.history a (s.history a ++ e ∷ []) t ≡ steps_of xs) items a
    (items a ++ item.Made e ∷ []) t
    (λ q. ap (put s.history a (s.history a ++ e ∷ [])) q ∙ (put_same s.history a (s.history a ++ e ∷ [])
    ∙ (ap (λ (es : List Step). es ++ e ∷ []) (is a) ∙ sym (steps_append (items a) (item.Made e ∷ [])))))
    (λ ne. put_other s.history a (s.history a ++ e ∷ []) t ne ∙ is t)

links_next : (s : Table) (items : ℕ → List Item) (a : ℕ) (e : Step) → IsRuled s items → KeepsLinks s a e
    → AreLinked (next s a e) (all_notes (put items a (items a ++ item.Made e ∷ [])))
links_next s items a e r links = subst (AreLinked (next s a e))
    (sym (noted_next items a e (s.view a) (r.whole.told a ∙ ap view_of (r.histories a))))
    (links (all_notes items) r.linked)

pages_after : (s : Table) (items : ℕ → List Item) (a : ℕ) (l : Location) (n : ℕ) (e : Step) → IsRuled s items
    → KeepsLaw s a l n e (book_of (items a)) → ArePageStates (next s a e)
    (all_differences (put items a (items a ++ item.Made e ∷ [])))
    (all_asked (put items a (items a ++ item.Made e ∷ [])))
pages_after s items a l n e r k =
    subst (λ (d : ℕ → Difference). ArePageStates (next s a e) d
    (all_asked (put items a (items a ++ item.Made e ∷ []))))
    (sym (differences_next items a (item.Made e ∷ [])))
    (subst (ArePageStates (next s a e) (put (all_differences items) a (learn_step e (book_of (items a))).differs))
    (sym (asked_next items a (item.Made e ∷ [])))
    (pages_next s a (book_of (items a)) (all_differences items) (all_asked items) refl r.pages sound e k.allowed
    k.orderly))
  where
    sound : IsSound s
    sound = record {
      one = r.whole.kept.facts.one_holder;
      stored = r.whole.kept.bits.stored_is;
      seen = λ b h x. (r.whole.kept.facts.views b).bits.seen h x;
    }

pub ruled_next : (s : Table) (items : ℕ → List Item) (a : ℕ) (l : Location) (n : ℕ) (e : Step)
    → a < TASKS → IsRuled s items → KeepsLaw s a l n e (book_of (items a))
    → IsRuled (next s a e) (put items a (items a ++ item.Made e ∷ []))
ruled_next s items a l n e few r k = record {
  whole = whole_next s a e few k.allowed k.stored r.whole;
  histories = histories_next s items a e r.histories;
  lawful = k.leaves.lawful;
  fits = λ t small. put_at (λ (xs : List Item). Fits ((next s a e).task t) (book_of xs)) items a
      (items a ++ item.Made e ∷ []) t
      (λ q. subst (λ (i : ℕ). Fits ((next s a e).task i) (book_of (items a ++ item.Made e ∷ []))) (sym q)
      (subst (Fits ((next s a e).task a)) (sym (book_append first_book (items a) (item.Made e ∷ []))) k.leaves.own))
      (λ ne. k.leaves.others t ne (book_of (items t)) (r.fits t small));
  linked = links_next s items a e r k.links;
  placed = k.places few r.placed;
  own = own_next s a e k.allowed k.stored r.own;
  counts = counts_next s a e k.allowed r.whole.kept.facts.one_holder r.counts;
  pages = pages_after s items a l n e r k;
  quiet = quiet_next s a e (book_of (items a)) k.allowed k.orderly r.whole.kept.bits r.whole.told r.quiet;
  heard = heard_next s a e (book_of (items a)) k.allowed k.orderly r.whole.kept.pages r.quiet r.heard;
  worn = worn_next s (next s a e) items a (item.Made e ∷ []) tt r.worn
      (λ h. let n = queued_next s a e h few in omega (arith, n)) (whole_next s a e few k.allowed k.stored r.whole)
      (histories_next s items a e r.histories) k.leaves.lawful (links_next s items a e r k.links)
      (k.places few r.placed);
}

-- A table and words beside it that differ from what is shown at a single word are shown by the words with that word
-- written.
pub written : (words : List ℕ) (s t : Table) (old new : Location → ℕ) (k : Location) → ShowsWith words s old
    → IsLocation k → ((l : Location) → l ≢ k → word_with t new l ≡ word_with s old l)
    → ShowsWith (slice_set words (position_of k) (word_with t new k)) t new
written words s t old new k shown is same = record {
  count = length-set words (position_of k) (word_with t new k) ∙ shown.count;
  each = λ l h. by l h (eqb_tells (position_of l) (position_of k));
}
  where
    inside : position_of k < length words
    inside = rw shown.count (position_fits k is)

    by : (l : Location) → IsLocation l
        → (((position_of l == position_of k) ≡ true) × (position_of l ≡ position_of k))
        ⊎ (((position_of l == position_of k) ≡ false) × (position_of l ≢ position_of k))
        → slice_index (slice_set words (position_of k) (word_with t new k)) (position_of l) ≡ word_with t new l
    by l h (inl q) =
        subst (λ (j : Location). slice_index (slice_set words (position_of k) (word_with t new k)) (position_of j)
        ≡ word_with t new j) (sym (one_location l k h is q.1))
        (get_or-set_same words (position_of k) (word_with t new k) 0 inside)
    by l h (inr q) =
        get_or-set_other words (position_of k) (position_of l) (word_with t new k) 0 q.1 ∙ shown.each l h
        ∙ sym (same l (λ e. q.1 (ap position_of e)))

-- a word of the table
pub table_word : (s : Table) (beside : Location → ℕ) (l : Location) → is_beside l ≡ false
    → word_with s beside l ≡ word_in s l
table_word s beside l plain = ap (λ (b : Bool). if b then beside l else word_in s l) plain

-- a word that some call changes by a step is one of the table
pub stepped_plain : (l : Location) → is_stepped l ≡ true → is_beside l ≡ false
stepped_plain (place.Member k) is = absurd (cc)
stepped_plain l is = cc

-- the tickets after a step
pub tickets_on : (c : Scene) (law : Law c) (a : ℕ) (e : Step) → a < TASKS → Allowed law.table a e
    → IsOrderly law.table a e (book_of (c.items a))
    → AreTickets (next law.table a e) (all_tickets (put c.items a (c.items a ++ item.Made e ∷ []))) law.beside
tickets_on c law a e few may orderly = subst (λ (f : ℕ → Ticket). AreTickets (next law.table a e) f law.beside)
    (sym (tickets_next c.items a (item.Made e ∷ [])))
    (tickets_after law.table a e (book_of (c.items a)) (all_tickets c.items) law.beside few may orderly refl
    law.tickets)

-- a step that keeps the law, by the words then
pub law_kept : (words : List ℕ) (c : Scene) (law : Law c) (a : ℕ) (l : Location) (n : ℕ) (e : Step) → a < TASKS
    → KeepsLaw law.table a l n e (book_of (c.items a)) → ShowsWith words (next law.table a e) law.beside
    → ArePipes (word_with (next law.table a e) law.beside) (put c.items a (c.items a ++ item.Made e ∷ []))
    → Law (record { words = words; items = put c.items a (c.items a ++ item.Made e ∷ []) })
law_kept words c law a l n e few k shown pipes = record {
  table = next law.table a e;
  beside = law.beside;
  shown = shown;
  ruled = ruled_next law.table c.items a l n e few law.ruled k;
  members = subst (λ (d : ℕ → Difference). AreMembers (next law.table a e) d law.beside)
      (sym (differences_next c.items a (item.Made e ∷ [])))
      (members_next law.table a (book_of (c.items a)) (all_differences c.items) law.beside
      law.ruled.whole.kept.facts.one_holder refl e k.allowed k.orderly law.members);
  tickets = tickets_on c law a e few k.allowed k.orderly;
  tallies = tallies_same c.items a (item.Made e ∷ []) law.beside law.beside (λ p. refl) (λ p. refl) law.tallies;
  pipes = pipes;
}

-- one that stores a word
pub law_step : (c : Scene) (law : Law c) (a : ℕ) (l : Location) (n : ℕ) (e : Step) → a < TASKS
    → IsLocation l → is_beside l ≡ false → KeepsLaw law.table a l n e (book_of (c.items a))
    → ArePipes (word_with (next law.table a e) law.beside) (put c.items a (c.items a ++ item.Made e ∷ []))
    → Law (moved c a (position_of l) n (item.Made e ∷ []))
law_step c law a l n e few there plain k pipes = law_kept (slice_set c.words (position_of l) n) c law a l n e few k
    (subst (λ (m : ℕ). ShowsWith (slice_set c.words (position_of l) m) (next law.table a e) law.beside)
    (table_word (next law.table a e) law.beside l plain ∙ k.leaves.left)
    (written c.words law.table (next law.table a e) law.beside law.beside l law.shown there
    (λ j ne. ap (λ (w : ℕ). if is_beside j then law.beside j else w) (k.leaves.rest j ne)))) pipes

-- the variables of pipes are none of the words that calls change by other steps
pipe_unstepped : (v : ℕ) → v < CLAIMS → is_stepped (place.Var v) ≡ false
pipe_unstepped v few = grind (arith, nat_tests)

-- one that leaves the words of pipes
pub law_next : (c : Scene) (law : Law c) (a : ℕ) (l : Location) (n : ℕ) (e : Step) → a < TASKS
    → IsLocation l → is_beside l ≡ false → MayChangeWord l a e → KeepsLaw law.table a l n e (book_of (c.items a))
    → Law (moved c a (position_of l) n (item.Made e ∷ []))
law_next c law a l n e few there plain is k = law_step c law a l n e few there plain k
    (pipes_next law.table law.beside c.items a e k.allowed
    (λ v small. rest_untouched law.table (next law.table a e) a l n (learn_step e (book_of (c.items a))) e refl is
    k.leaves (place.Var v) (pipe_unstepped v small)) law.pipes)

-- items that store no word and no bit
abbrev pub KeepsDifference : List Item → Type 0
KeepsDifference xs = (b : Book) → (book_from b xs).differs ≡ b.differs

-- items that change no ticket
abbrev pub KeepsTicket : List Item → Type 0
KeepsTicket xs = (b : Book) → (book_from b xs).ticket ≡ b.ticket

-- items that are no steps, one at most, at a load
module _ (c : Scene) (law : Law c) (a : ℕ) (xs : List Item) (none : steps_of xs ≡ []) where
  abbrev grown_items : ℕ → List Item
  grown_items = put c.items a (c.items a ++ xs)

  histories_seen : (t : ℕ) → law.table.history t ≡ steps_of (grown_items t)
  histories_seen t = put_at (λ (ys : List Item). law.table.history t ≡ steps_of ys) c.items a (c.items a ++ xs) t
      (λ q. law.ruled.histories t ∙ (ap (λ (i : ℕ). steps_of (c.items i)) q
      ∙ sym (steps_append (c.items a) xs ∙ (ap (λ (es : List Step). steps_of (c.items a) ++ es) none
      ∙ append-nil (steps_of (c.items a))))))
      (λ ne. law.ruled.histories t)

  pub ruled_seen : IsShort xs → HandsSame (book_of (c.items a)).differs (book_from (book_of (c.items a)) xs).differs
      → (a < TASKS → Fits (law.table.task a) (book_of (c.items a ++ xs)))
      → AreLinked law.table (put (all_notes c.items) a (notes_of a (c.items a ++ xs))) → IsRuled law.table grown_items
  ruled_seen short hands own links = record {
    whole = law.ruled.whole;
    histories = histories_seen;
    lawful = law.ruled.lawful;
    fits = λ t small. put_at (λ (ys : List Item). Fits (law.table.task t) (book_of ys)) c.items a
        (c.items a ++ xs) t
        (λ q. subst (λ (i : ℕ). Fits (law.table.task i) (book_of (c.items a ++ xs))) (sym q)
        (own (subst (λ (i : ℕ). i < TASKS) q small)))
        (λ ne. law.ruled.fits t small);
    linked = subst (AreLinked law.table) (sym (noted_seen c.items a xs)) links;
    placed = law.ruled.placed;
    own = law.ruled.own;
    counts = law.ruled.counts;
    pages = subst (λ (d : ℕ → Difference). ArePageStates law.table d (all_asked grown_items))
        (sym (differences_next c.items a xs))
        (subst (ArePageStates law.table (put (all_differences c.items) a (book_from (book_of (c.items a)) xs).differs))
        (sym (asked_same c.items a xs none))
        (pages_seen law.table a (book_from (book_of (c.items a)) xs).differs (all_differences c.items)
        (all_asked c.items) hands law.ruled.pages));
    quiet = law.ruled.quiet;
    heard = law.ruled.heard;
    worn = worn_next law.table law.table c.items a xs short law.ruled.worn (λ h. omega arith) law.ruled.whole
        histories_seen law.ruled.lawful (subst (AreLinked law.table) (sym (noted_seen c.items a xs)) links)
        law.ruled.placed;
  }

  law_seen : (l : Location) (n : ℕ) → IsLocation l → is_beside l ≡ false → n ≡ slice_index c.words (position_of l)
      → IsShort xs → KeepsDifference xs → KeepsTicket xs → KeepsTallies xs → KeepsEnds xs
      → (a < TASKS → Fits (law.table.task a) (book_of (c.items a ++ xs)))
      → AreLinked law.table (put (all_notes c.items) a (notes_of a (c.items a ++ xs)))
      → Law (moved c a (position_of l) n xs)
  law_seen l n there plain is short agreed ticket adds ends own links = record {
    table = law.table;
    beside = law.beside;
    shown = subst (λ (m : ℕ). ShowsWith (slice_set c.words (position_of l) m) law.table law.beside)
        (sym (is ∙ law.shown.each l there))
        (written c.words law.table law.table law.beside law.beside l law.shown there (λ k ne. refl));
    ruled = ruled_seen short (inl (agreed (book_of (c.items a)))) own links;
    members = subst (λ (d : ℕ → Difference). AreMembers law.table d law.beside)
        (sym (differences_same c.items a xs (agreed (book_of (c.items a))))) law.members;
    tickets = subst (λ (f : ℕ → Ticket). AreTickets law.table f law.beside)
        (sym (tickets_same c.items a xs (ticket (book_of (c.items a))))) law.tickets;
    tallies = tallies_same c.items a xs law.beside law.beside adds (λ p. refl) law.tallies;
    pipes = pipes_rest c.items a xs (word_with law.table law.beside) (word_with law.table law.beside) place.Base refl
        (λ j ne. refl) ends law.pipes;
  }

-- a load that adds nothing
pub law_still : (c : Scene) (law : Law c) (a : ℕ) (l : Location) (n : ℕ) → IsLocation l → is_beside l ≡ false
    → n ≡ slice_index c.words (position_of l) → Law (moved c a (position_of l) n [])
law_still c law a l n there plain is = law_seen c law a [] refl l n there plain is tt (λ b. refl) (λ b. refl)
    (λ p. refl) (λ k. (λ e. refl, refl))
    (λ few. subst (λ (xs : List Item). Fits (law.table.task a) (book_of xs)) (sym (append-nil (c.items a)))
    (law.ruled.fits a few))
    (same_links law.table c.items a [] (ap (notes_of a) (append-nil (c.items a))) law.ruled.linked)

-- what a task knows of itself in what is seen
pub record IsOwn (s : Table) (items : ℕ → List Item) (me : Sat) : Type 0 where
  pub told : s.view me.0.number ≡ view_of (steps_of me.0.items)
  pub list : items me.0.number ≡ me.0.items

module _ (slots id : ℕ) (me : Sat) (lives : me.0.lives ≡ true) (l : Location) (there : IsLocation l)
    (p : ℕ) (at : p ≡ position_of l) where
  -- a fact of each ruled table that fits what the task knows of itself
  abbrev pub Always : (Table → ℕ → Type 0) → Type 0
  Always P = (s : Table) (items : ℕ → List Item) → IsRuled s items → IsOwn s items me
      → Fits (s.task me.0.number) (book_of me.0.items) → P s (word_in s l)

  is_own : (c : Scene) (law : Law c) → c.items me.0.number ≡ me.0.items → IsOwn law.table c.items me
  is_own c law own = record {
    told = law.ruled.whole.told me.0.number ∙ (ap view_of (law.ruled.histories me.0.number)
        ∙ ap (λ (xs : List Item). view_of (steps_of xs)) own);
    list = own;
  }

  -- the table that is seen, where the own list is the seat's
  apply : (P : Table → ℕ → Type 0) → Always P → (c : Scene) (law : Law c) → me.0.number < TASKS
      → c.items me.0.number ≡ me.0.items → P law.table (word_in law.table l)
  apply P always c law few own = always law.table c.items law.ruled (is_own c law own)
      (subst (λ (xs : List Item). Fits (law.table.task me.0.number) (book_of xs)) own
      (law.ruled.fits me.0.number few))

  -- the word that is read, where it is one of the table
  reads_word : (c : Scene) (law : Law c) → is_beside l ≡ false
      → slice_index c.words (position_of l) ≡ word_in law.table l
  reads_word c law plain = law.shown.each l there ∙ table_word law.table law.beside l plain

  -- a step that always keeps the law
  pub all_steps : is_beside l ≡ false → (f : ℕ → ℕ) (x : ℕ → Step) (tells : ℕ → Type 0)
      → ((n : ℕ) → MayChangeWord l me.0.number (x n))
      → Always (λ s n. KeepsLaw s me.0.number l (f n) (x n) (book_of me.0.items) × tells n)
      → Allows (Holds Law) slots id me p f (λ n m. (m ≡ seat_with me (item.Made (x n))) × tells n)
  all_steps plain f x tells may always = subst
      (λ (k : ℕ). Allows (Holds Law) slots id me k f (λ n m. (m ≡ seat_with me (item.Made (x n))) × tells n)) (sym at)
      (allows Law slots id me.0 me.1 (position_of l) f (λ n. item.Made (x n) ∷ []) tells lives
      (λ c law few own small. by c law few own (slice_index c.words (position_of l)) (reads_word c law plain)))
    where
      by : (c : Scene) (law : Law c) → me.0.number < TASKS → c.items me.0.number ≡ me.0.items → (n : ℕ)
          → n ≡ word_in law.table l
          → Law (moved c me.0.number (position_of l) (f n) (item.Made (x n) ∷ [])) × tells n
      by c law few own n reads =
          let k = apply (λ s n. KeepsLaw s me.0.number l (f n) (x n) (book_of me.0.items) × tells n) always c law few
          own in
          subst (λ (n : ℕ). Law (moved c me.0.number (position_of l) (f n) (item.Made (x n) ∷ [])) × tells n)
          (sym reads) (
            law_next c law me.0.number l (f (word_in law.table l)) (x (word_in law.table l)) few there plain
                (may (word_in law.table l))
                (subst (λ (xs : List Item). KeepsLaw law.table me.0.number l (f (word_in law.table l))
                (x (word_in law.table l)) (book_of xs)) (sym own) k.0),
            k.1,
          )

  pub steps : is_stepped l ≡ true → (f : ℕ → ℕ) (x : ℕ → Step) (tells : ℕ → Type 0)
      → Always (λ s n. KeepsLaw s me.0.number l (f n) (x n) (book_of me.0.items) × tells n)
      → Allows (Holds Law) slots id me p f (λ n m. (m ≡ seat_with me (item.Made (x n))) × tells n)
  steps is f x tells always = all_steps (stepped_plain l is) f x tells (λ n. inl is) always

  -- a load that adds an item that is no step, or nothing
  pub loads : is_beside l ≡ false → (xs : ℕ → List Item) (tells : ℕ → Type 0) → ((n : ℕ) → IsShort (xs n))
      → ((n : ℕ) → steps_of (xs n) ≡ []) → ((n : ℕ) → KeepsDifference (xs n)) → ((n : ℕ) → KeepsTicket (xs n))
      → ((n : ℕ) → KeepsTallies (xs n)) → ((n : ℕ) → KeepsEnds (xs n))
      → Always (λ s n. Fits (s.task me.0.number) (book_of (me.0.items ++ xs n)) × tells n)
      → ((s : Table) (items : ℕ → List Item) → IsRuled s items → IsOwn s items me → AreLinked s
      (put (all_notes items) me.0.number (notes_of me.0.number (items me.0.number ++ xs (word_in s l)))))
      → Allows (Holds Law) slots id me p (λ n. n) (λ n m. (m ≡ (pushed me.0 (xs n), me.1)) × tells n)
  loads plain xs tells short none agreed ticket adds ends always links = subst
      (λ (k : ℕ). Allows (Holds Law) slots id me k (λ n. n) (λ n m. (m ≡ (pushed me.0 (xs n), me.1)) × tells n))
      (sym at)
      (allows Law slots id me.0 me.1 (position_of l) (λ n. n) xs tells lives
      (λ c law few own small. by c law few own (slice_index c.words (position_of l)) refl))
    where
      by : (c : Scene) (law : Law c) → me.0.number < TASKS → c.items me.0.number ≡ me.0.items → (n : ℕ)
          → n ≡ slice_index c.words (position_of l)
          → Law (moved c me.0.number (position_of l) n (xs n)) × tells n
      by c law few own n reads =
          let k : Fits (law.table.task me.0.number) (book_of (me.0.items ++ xs n)) × tells n =
          subst (λ (n : ℕ). Fits (law.table.task me.0.number) (book_of (me.0.items ++ xs n)) × tells n)
          (sym (reads ∙ reads_word c law plain))
          (apply (λ s n. Fits (s.task me.0.number) (book_of (me.0.items ++ xs n)) × tells n) always c law few own)
          in (
            law_seen c law me.0.number (xs n) (none n) l n there plain reads (short n) (agreed n) (ticket n)
                (adds n) (ends n)
                (λ _. subst (λ (ys : List Item). Fits (law.table.task me.0.number) (book_of (ys ++ xs n))) (sym own)
                k.0)
                (subst (λ (n : ℕ). AreLinked law.table (put (all_notes c.items) me.0.number
                (notes_of me.0.number (c.items me.0.number ++ xs n)))) (sym (reads ∙ reads_word c law plain))
                (links law.table c.items law.ruled (is_own c law own))),
            k.1,
          )

  abbrev hit : (old : ℕ) (x : ℕ → Step) → ℕ → List Item
  hit old x n = cond (eqb n old) (item.Made (x n) ∷ []) []

  -- a compare-exchange that keeps the law where it finds what it expects
  pub tries : is_stepped l ≡ true → (old new : ℕ) (x : ℕ → Step)
      → Always (λ s n. n ≡ old → KeepsLaw s me.0.number l new (x n) (book_of me.0.items))
      → Allows (Holds Law) slots id me p (λ n. either (eqb n old) new n)
      (λ n m. m ≡ seat_tried me (item.Made (x n)) old n)
  tries is old new x always s r long at_id small =
      let a = all s r long at_id small in
      told_as a (λ _ _ t. t.0 ∙ one_of (eqb (slice_index s.words p) old) (x (slice_index s.words p)))
    where
      one_of : (b : Bool) (e : Step) → ◌≡◌ {A = Sat} (pushed me.0 (cond b (item.Made e ∷ []) []), me.1)
          (cond b (pushed me.0 (item.Made e ∷ [])) me.0, me.1)
      one_of true e = refl
      one_of false e = ap (λ v. (v, me.1)) (pushed_none me.0)

      by : (c : Scene) (law : Law c) → me.0.number < TASKS → c.items me.0.number ≡ me.0.items → (n : ℕ)
          → n ≡ slice_index c.words (position_of l) → Dec (n ≡ old)
          → Law (moved c me.0.number (position_of l) (either (eqb n old) new n) (hit old x n))
      by c law few own n reads (yes e) =
          let k : n ≡ old → KeepsLaw law.table me.0.number l new (x n) (book_of me.0.items) =
          subst (λ (n : ℕ). n ≡ old → KeepsLaw law.table me.0.number l new (x n) (book_of me.0.items))
          (sym (reads ∙ reads_word c law (stepped_plain l is)))
          (apply (λ s n. n ≡ old → KeepsLaw s me.0.number l new (x n) (book_of me.0.items)) always c law few own) in
          subst (λ (b : Bool). Law (moved c me.0.number (position_of l) (either b new n)
          (cond b (item.Made (x n) ∷ []) []))) (sym (eq-eqb n old e))
          (law_next c law me.0.number l new (x n) few there (stepped_plain l is) (inl is)
          (subst (λ (xs : List Item). KeepsLaw law.table me.0.number l new (x n) (book_of xs)) (sym own) (k e)))
      by c law few own n reads (no ne) =
          subst (λ (b : Bool). Law (moved c me.0.number (position_of l) (either b new n)
          (cond b (item.Made (x n) ∷ []) []))) (sym (ne_eqb n old ne))
          (law_still c law me.0.number l n there (stepped_plain l is) reads)

      all : Allows (Holds Law) slots id me p (λ n. either (eqb n old) new n)
          (λ n m. (m ≡ (pushed me.0 (hit old x n), me.1)) × Unit {0})
      all = subst (λ (k : ℕ). Allows (Holds Law) slots id me k (λ n. either (eqb n old) new n)
          (λ n m. (m ≡ (pushed me.0 (hit old x n), me.1)) × Unit {0})) (sym at)
          (allows Law slots id me.0 me.1 (position_of l) (λ n. either (eqb n old) new n) (hit old x)
          (λ _. Unit {0}) lives
          (λ c law few own small. (
            by c law few own (slice_index c.words (position_of l)) refl
                (ℕ_discrete (slice_index c.words (position_of l)) old),
            tt,
          )))
