-- What each step on an entry, a flag, a bookmark or a condition asks of the table of words, by the law of its kind.
use Rattle.std.proofs.Common.{refl, sym, ◌∙◌, ap, subst, arith, inl, inr, append-nil}
use Rattle.std.specs.Prelude.{ℕ, ◌≡◌, ◌≢◌, ◌+◌, ◌-◌, ◌*◌, ◌<◌, ◌≤◌, ◌⊎◌, Bool, true, false, ◌==◌, nat_lt, if◌then◌else◌}
use Rattle.std.specs.Prelude.{Option, Some, None, List, [], ◌∷◌, ◌++◌, slice_index}
use Rattle.std.proofs.lemmas.Bool.Decides.{nat_tests}
use mathlib.Core.Option.{none}
use Rattle.atomic_table.specs.{Seated.TableId, Table.step as move, Table.Allows}
use Rattle.wait_model.specs.{declared.watches.Watch.Watch, declared.watches.Entry.Entry, declared.queues.Mark.Mark}
use Rattle.wait_model.specs.{Functions.put, Fold.view_of, Tables.Table, Tables.mark_of, Facts.Agrees}
use Rattle.wait_model.specs.{Locations.mark_word, Locations.cond_at}
use Rattle.wait_model.specs.declared.layout.TheConstants.{TASKS, SLOTS, ENTRIES, PLAIN_CONDITIONS, CLAIMS, FIRST_DONE}
use Rattle.wait_model.specs.declared.layout.TheConstants.{FIRST_BIT_WORD, FIRST_VARIABLE, ENTRY_AT, FLAG_AT}
use Rattle.wait_model.specs.declared.layout.TheConstants.{BOOKMARK_AT, CONDITION_AT}
use Rattle.wait_model.specs.Watches.{owner, head_of, is_page, IsThere, number_of}
use Rattle.wait_model.specs.Words.{entry_word, entry_of, flag_word}
use Rattle.wait_model.specs.Views.{View as Told, Look, off, shown}
use Rattle.wait_model.specs.declared.watches.Watch.TheVariants as watch
use Rattle.wait_model.specs.declared.watches.Kind.TheVariants as kind
use Rattle.wait_model.specs.declared.steps.Step.TheVariants as step
use Rattle.wait_model.specs.Locations as place
use Rattle.wait_model.proofs.WordLaws.CondWords.{cond_located, number_below, plain_at, var_at}
use Rattle.wait_model.proofs.WordLaws.DecodedWords.{entry_read, mark_read, no_mark_read}
use Rattle.wait_model.proofs.Functions.{put_at}
use Rattle.wait_rule.specs.{declared.journal.Item.Item, declared.journal.Journal.Journal, Asked.nothing_asked}
use Rattle.wait_rule.specs.{Asked.asked_by_items, Pages.uses_flag, MemberWords.is_beside, HandedPermits.FoundNoPermit}
use Rattle.wait_rule.specs.{Known.known, Says.told_of, Says.noted, Plays.Sat, Plays.seat_with}
use Rattle.wait_rule.specs.Items.{nothing, page_told, book_of, first_book, Fits}
use Rattle.wait_rule.specs.Notes.{Notes, Glance, away, there, glance_at, notes_of}
use Rattle.wait_rule.specs.Members.{IsStanding, IsStandingMark, IsOwnKind, IsEntryWord, IsMarkWord, MarkAgrees}
use Rattle.wait_rule.specs.Rule.{IsRuled, is_stepped, AreLinked, all_notes, Law, Holds}
use Rattle.wait_rule.specs.Queues.{index, saw, marked, KnewEntry, KnewMark, IsPublic, IsWholeBook, IsPlaceFor, IsBefore}
use Rattle.wait_rule.specs.Queues.{MayStoreMark}
use Rattle.wait_rule.specs.QueuePlays.{entry_seen_play, kept_entry_play, mark_seen_play, queued_play, unqueued_play}
use Rattle.wait_rule.specs.QueuePlays.{flag_set_play, mark_stored_play, cond_loaded_play, published_play, consumed_play}
use Rattle.wait_rule.specs.declared.journal.Item.TheVariants as item
use Rattle.wait_rule.proofs.{TableSteps.ItemLists.book_append, KnownLaws.AfterSteps.notes_after}
use Rattle.wait_rule.proofs.{KnownLaws.HandedPermits.queue_on, KnownLaws.HeldHeads.head_told}
use Rattle.wait_rule.proofs.{KnownLaws.MemberPlaces.mark_keeps, KnownLaws.MemberPlaces.queue_keeps}
use Rattle.wait_rule.proofs.{KnownLaws.HeadLinks.same_links, KnownLaws.OwnStored.owned, StepKinds.FlagKinds.flags}
use Rattle.wait_rule.proofs.{TableSteps.QueueMoves.head_seen, TableSteps.StateLaws.pushed_none}
use Rattle.wait_rule.proofs.TableSteps.KeptSteps.{ChangesNone, IsOwn, KeepsLaw, all_steps, loads, steps, told_as}
use Rattle.wait_rule.proofs.StepKinds.EntryKinds.{reads, sees, queues, unqueues, is_entry}
use Rattle.wait_rule.proofs.StepKinds.MarkKinds.{is_mark, mark_reads, marks, unmarks}
use Rattle.wait_rule.proofs.StepKinds.CondKinds.{cond_loads, plain_publishes, var_publishes, plain_consumes}

-- the index of the entry whose word, or whose flag word, stands there
pub index_at : (first at who slot : ℕ) → at ≡ first + (SLOTS * who + slot) → at - first ≡ index who slot
index_at first at who slot is = omega arith

pub own_index : (u slot : ℕ) → slot < 2 → owner (index u slot) ≡ u
unfolding owner
own_index u slot small = omega arith

-- what the task knew of an entry word
pub knew_entry : (s : Table) (items : ℕ → List Item) (me : Sat) (x : ℕ) → IsRuled s items → IsOwn s items me
    → (d : TableId) → KnewEntry (known d me.0 0) x (entry_word (s.entry x))
knew_entry s items me x ruled own d = record {
  shown = λ h held. subst (Agrees h ((told_of (known d me.0 0)).hold.book x)) (sym (reads s items ruled x))
      (subst (λ (v : Told). Agrees h (v.hold.book x) (s.entry x)) own.told
      ((ruled.whole.kept.facts.views me.0.number).hold.agrees h x (head_seen s items me (Some h) own held)));
  own = λ slot few is e q. ap (λ (v : Told). v.bits.stored x) (sym own.told)
      ∙ (ap (λ (u : ℕ). (s.view u).bits.stored x) (sym (ap owner is ∙ own_index me.0.number slot few))
      ∙ ruled.whole.kept.bits.stored_is x e (sym (reads s items ruled x) ∙ q));
  stands = λ slot few is e q kind. reads s items ruled x ∙ ruled.own x e
      (ap (λ (u : ℕ). (s.view u).bits.stored x) (ap owner is ∙ own_index me.0.number slot few)
      ∙ (ap (λ (v : Told). v.bits.stored x) own.told ∙ q)) kind;
  foreign = λ other. ap (λ (v : Told). v.bits.stored x) (sym own.told)
      ∙ owned s ruled.whole.interleaved me.0.number x other;
  apart = λ h held e q same y f shows at.
      let seen = subst (λ (l : Look). Agrees h l (s.entry y)) shows
      (subst (λ (v : Told). Agrees h (v.hold.book y) (s.entry y)) own.told
      ((ruled.whole.kept.facts.views me.0.number).hold.agrees h y (head_seen s items me (Some h) own held))) in
      ruled.placed.apart y x f e seen.0 (sym (reads s items ruled x) ∙ q) (seen.1 ∙ sym same) at;
}

-- whatever head the task took last
pub knew_at : (d : TableId) (v : Journal) (h x w : ℕ) → KnewEntry (known d v 0) x w → KnewEntry (known d v h) x w
knew_at d v h x w k = record { shown = k.shown; own = k.own; stands = k.stands; foreign = k.foreign; apart = k.apart }

module _ (slots id : ℕ) (me : Sat) (lives : me.0.lives ≡ true) (x p : ℕ) (small : x < ENTRIES)
    (at : p ≡ ENTRY_AT + x) where
  entry_there : x ≡ p - ENTRY_AT
  entry_there = omega arith

  pub entry_moves : Allows (Holds Law) slots id me p (λ n. n) (entry_seen_play (move slots p 0 0 none) me)
  entry_moves = subst
      (λ (k : ℕ). Allows (Holds Law) slots id me p (λ n. n)
      (λ n m. (m ≡ seat_with me (item.Made (saw (book_of me.0.items).head k n)))
      × (IsEntryWord k n × ((d : TableId) → KnewEntry (known d me.0 0) k n)))) entry_there
      (steps slots id me lives (place.Entry x) small p at refl (λ n. n)
      (λ w. saw (book_of me.0.items).head x w)
      (λ n. IsEntryWord x n × ((d : TableId) → KnewEntry (known d me.0 0) x n))
      (λ s items ruled own fits. (
        sees s items ruled x me.0.number (book_of me.0.items) fits (book_of me.0.items).head
            (head_seen s items me (book_of me.0.items).head own refl),
        (is_entry s items ruled x, knew_entry s items me x ruled own),
      )))

  pub kept_moves : Allows (Holds Law) slots id me p (λ n. n) (kept_entry_play (move slots p 0 0 none) me)
  kept_moves s r long at_id few =
      let a = loads slots id me lives (place.Entry x) small p at refl (λ _. [])
      (λ n. (d : TableId) → KnewEntry (known d me.0 0) (p - ENTRY_AT) n) (λ _. tt)
      (λ _. refl) (λ _ b. refl) (λ _ b. refl) (λ _ p. refl) (λ _ k. (λ e. refl, refl))
      (λ s items ruled own fits. (
        subst (λ (xs : List Item). Fits (s.task me.0.number) (book_of xs)) (sym (append-nil me.0.items)) fits,
        λ d. subst (λ (k : ℕ). KnewEntry (known d me.0 0) k (entry_word (s.entry x))) entry_there
            (knew_entry s items me x ruled own d),
      ))
      (λ s items ruled own. same_links s items me.0.number [] (ap (notes_of me.0.number)
      (append-nil (items me.0.number)))
      ruled.linked) s r long at_id few in
      told_as a (λ _ _ t. (t.0 ∙ ap (λ w. (w, me.1)) (pushed_none me.0), t.1))

  pub queue_moves : (e : Entry) (word at_last slot : ℕ) (d : TableId) → word ≡ entry_word (Some e)
      → owner x ≡ me.0.number → x ≡ index me.0.number slot → head_of e.watch ≡ at_last
      → FoundNoPermit (known d me.0 at_last) slot
      → IsStanding x e → (book_of me.0.items).head ≡ Some (head_of e.watch)
      → (told_of (known d me.0 0)).hold.book x ≡ off → IsWholeBook (known d me.0 at_last)
      → IsPlaceFor (known d me.0 at_last) e.priority e.place → (book_of me.0.items).differs ≡ nothing
      → (uses_flag e.kind ≡ true → asked_by_items me.0.items ≡ nothing_asked)
      → Allows (Holds Law) slots id me p (λ _. word) (λ _. queued_play (move slots p word 0 none) me word)
  queue_moves e word at_last slot d is mine own_is here found standing held shows whole front clear asks s r long
      at_id few =
      let a = steps slots id me lives (place.Entry x) small p at refl (λ _. word) (λ w. step.Queue x e)
      (λ _. Unit {0})
      (λ s items ruled own fits. (
        subst (λ (n : ℕ). KeepsLaw s me.0.number (place.Entry x) n (step.Queue x e) (book_of me.0.items)) (sym is)
            (queues s items ruled x me.0.number (book_of me.0.items) fits e small mine standing
            (head_seen s items me (Some (head_of e.watch)) own held)
            (ap (λ (v : Told). v.hold.book x) own.told ∙ shows)
            (queue_keeps s items ruled me.0.number (head_of e.watch) (known d me.0 at_last)
            (head_seen s items me (Some (head_of e.watch)) own held) own.told
            (ap (notes_of me.0.number) own.list) x e whole refl front) clear
            (queue_on s items ruled (known d me.0 at_last) own.list slot x e own_is here
            (sym (head_told me.0.items) ∙ (held ∙ ap (λ (h : ℕ). Some h) here)) found)
            (λ uses. ap asked_by_items own.list ∙ asks uses)),
        tt,
      )) s r long at_id few in
      told_as a (λ _ _ t. (
        e,
        ap entry_of is ∙ entry_read e standing.lawful,
        t.0 ∙ ap (λ (k : ℕ). seat_with me (item.Made (step.Queue k e))) entry_there,
      ))

  pub unqueue_moves : (h : ℕ) (e : Entry) (d : TableId) → (book_of me.0.items).head ≡ Some h
      → (told_of (known d me.0 0)).hold.book x ≡ shown e → (owner x ≡ me.0.number) ⊎ (IsOwnKind e.kind → ⊥)
      → (((book_of me.0.items).differs ≡ nothing) × ((owner x ≡ me.0.number) ⊎ (is_page e.kind ≡ false)))
      ⊎ ((book_of me.0.items).differs ≡ page_told x)
      → Allows (Holds Law) slots id me p (λ _. 0)
      (λ _. unqueued_play (move slots p 0 0 none) me 0)
  unqueue_moves h e d held shows may clear s r long at_id few =
      let a = steps slots id me lives (place.Entry x) small p at refl (λ _. 0) (λ w. step.Unqueue x)
      (λ _. Unit {0})
      (λ s items ruled own fits. (
        unqueues s items ruled x me.0.number (book_of me.0.items) fits h e (head_seen s items me (Some h) own held)
            (ap (λ (v : Told). v.hold.book x) own.told ∙ shows) may (clear, small),
        tt,
      )) s r long at_id few in
      told_as a (λ _ _ t. t.0 ∙ ap (λ (k : ℕ). seat_with me (item.Made (step.Unqueue k))) entry_there)

-- a store in the flag word of an entry that the hold shows
pub flag_moves : (slots id : ℕ) (me : Sat) → me.0.lives ≡ true → (x p word h : ℕ) (e : Entry) (d : TableId)
    → x < ENTRIES
    → p ≡ FLAG_AT + x → word ≡ flag_word true → (book_of me.0.items).head ≡ Some h
    → (told_of (known d me.0 0)).hold.book x ≡ shown e → e.kind ≡ kind.Woken
    → Allows (Holds Law) slots id me p (λ _. word) (λ _. flag_set_play (move slots p word 0 none) me word)
flag_moves slots id me lives x p word h e d small at is held shows woken s r long at_id few =
    let a = steps slots id me lives (place.Flag x) small p at refl (λ _. word) (λ w. step.Woken x) (λ _. Unit {0})
    (λ s items ruled own fits. (
      subst (λ (n : ℕ). KeepsLaw s me.0.number (place.Flag x) n (step.Woken x) (book_of me.0.items)) (sym is)
          (flags s items ruled x me.0.number (book_of me.0.items) fits h e (head_seen s items me (Some h) own held)
          (ap (λ (v : Told). v.hold.book x) own.told ∙ shows) woken),
      tt,
    )) s r long at_id few in
    let there : x ≡ p - FLAG_AT = omega arith in
    told_as a (λ _ _ t. t.0 ∙ ap (λ (k : ℕ). seat_with me (item.Made (step.Woken k))) there)

-- what a load tells of a bookmark word stands
glance_agrees : (h : ℕ) (o : Option Mark) → MarkAgrees h (glance_at (Some h) o) o
glance_agrees h None = λ m e. absurd (cc)
glance_agrees h (Some m) = by (m.head == h) refl
  where
    by : (b : Bool) → (m.head == h) ≡ b → MarkAgrees h (if b then there m.place else away) (Some m)
    by true q = let is : m.head ≡ h = grind arith in ap (λ (k : ℕ). Some (record { head = k; place = m.place })) is
    by false q = λ k e is.
        let same : m ≡ k = cc in
        let here : m.head ≡ h = ap (λ (z : Mark). z.head) same ∙ is in
        let ne : m.head ≢ h = grind (arith, nat_tests) in
        ne here

pub seen_links : (s : Table) (notes : ℕ → Notes) (a t : ℕ) → AreLinked s notes
    → AreLinked s (put notes a (record (notes a) {
      marks = put (notes a).marks t
          (glance_at (s.view a).hold.head (s.mark t));
    }))
seen_links s notes a t r = record {
  holder = r.holder;
  spent = r.spent;
  own = λ u. put_at (λ (k : Notes). s.mark u ≡ k.own) notes a K u
      (λ same. r.own u ∙ ap (λ (i : ℕ). (notes i).own) same) (λ _. r.own u);
  shown = λ d h u held. put_at (λ (k : Notes). MarkAgrees h (k.marks u) (s.mark u)) notes a K d
      (λ same. put_at (λ (g : Glance). MarkAgrees h g (s.mark u)) (notes a).marks t
      (glance_at (s.view a).hold.head (s.mark t)) u
      (λ is. subst (λ (o : Option ℕ). MarkAgrees h (glance_at o (s.mark t)) (s.mark u))
      (sym (ap (λ (i : ℕ). (s.view i).hold.head) (sym same) ∙ held))
      (subst (λ (i : ℕ). MarkAgrees h (glance_at (Some h) (s.mark t)) (s.mark i)) (sym is)
      (glance_agrees h (s.mark t))))
      (λ _. r.shown a h u (ap (λ (i : ℕ). (s.view i).hold.head) (sym same) ∙ held)))
      (λ _. r.shown d h u held);
}
  where
    K : Notes
    K = record (notes a) { marks = put (notes a).marks t (glance_at (s.view a).hold.head (s.mark t)) }

-- what the task knew of a bookmark word
pub knew_mark : (s : Table) (items : ℕ → List Item) (me : Sat) (t : ℕ) → IsRuled s items → IsOwn s items me
    → (d : TableId) → KnewMark (known d me.0 0) t (mark_word (s.mark t))
knew_mark s items me t ruled own d = record {
  shown = λ h held. subst (MarkAgrees h ((noted (known d me.0 0)).marks t)) (sym (mark_reads s items ruled t))
      (subst (λ (xs : List Item). MarkAgrees h ((notes_of me.0.number xs).marks t) (s.mark t)) own.list
      (ruled.linked.shown me.0.number h t (head_seen s items me (Some h) own held)));
  own = λ is. mark_reads s items ruled t ∙ (ap s.mark is ∙ (ruled.linked.own me.0.number
      ∙ ap (λ (xs : List Item). (notes_of me.0.number xs).own) own.list));
}

module _ (slots id : ℕ) (me : Sat) (lives : me.0.lives ≡ true) (t p : ℕ) (small : t < TASKS)
    (at : p ≡ BOOKMARK_AT + t) where
  mark_there : t ≡ p - BOOKMARK_AT
  mark_there = omega arith

  pub mark_moves : Allows (Holds Law) slots id me p (λ n. n) (mark_seen_play (move slots p 0 0 none) me)
  mark_moves = subst
      (λ (k : ℕ). Allows (Holds Law) slots id me p (λ n. n)
      (λ n m. (m ≡ seat_with me (item.Bookmark k n))
      × (IsMarkWord n × ((d : TableId) → KnewMark (known d me.0 0) k n)))) mark_there
      (loads slots id me lives (place.Bookmark t) small p at refl (λ w. item.Bookmark t w ∷ [])
      (λ n. IsMarkWord n × ((d : TableId) → KnewMark (known d me.0 0) t n)) (λ _. tt) (λ _. refl) (λ _ b. refl)
      (λ _ b. refl) (λ _ p. refl) (λ _ k. (λ e. refl, refl))
      (λ s items ruled own fits. (
        subst (Fits (s.task me.0.number))
            (sym (book_append first_book me.0.items (item.Bookmark t (mark_word (s.mark t)) ∷ []))) fits,
        (is_mark s items ruled t, knew_mark s items me t ruled own),
      ))
      (λ s items ruled own. subst (λ (k : Notes). AreLinked s (put (all_notes items) me.0.number k))
      (sym (by s items ruled)) (seen_links s (all_notes items) me.0.number t ruled.linked)))
    where
      by : (s : Table) (items : ℕ → List Item) → IsRuled s items
          → notes_of me.0.number (items me.0.number ++ item.Bookmark t (mark_word (s.mark t)) ∷ [])
          ≡ record (all_notes items me.0.number) {
            marks = put (all_notes items me.0.number).marks t (glance_at (s.view me.0.number).hold.head (s.mark t));
          }
      by s items ruled = notes_after me.0.number (items me.0.number) (item.Bookmark t (mark_word (s.mark t)))
          ∙ (λ i. record (all_notes items me.0.number) {
            marks = put (all_notes items me.0.number).marks t
                (glance_at (sym (ruled.whole.told me.0.number ∙ ap view_of (ruled.histories me.0.number)) i).hold.head
                (mark_reads s items ruled t i));
          })

-- stores of the own bookmark
module _ (slots id : ℕ) (me : Sat) (lives : me.0.lives ≡ true) (u p : ℕ) (mine : me.0.number ≡ u) (small : u < TASKS)
    (at : p ≡ BOOKMARK_AT + u) (h : ℕ) (d : TableId) (held : (book_of me.0.items).head ≡ Some h)
    (clear : (book_of me.0.items).differs ≡ nothing) where
  own_mark_at : p ≡ BOOKMARK_AT + me.0.number
  own_mark_at = omega arith

  own_mark_small : me.0.number < TASKS
  own_mark_small = omega arith

  own_mark : (s : Table) (items : ℕ → List Item) (o : Option Mark) → IsRuled s items → IsOwn s items me
      → (noted (known d me.0 0)).own ≡ o → s.mark me.0.number ≡ o
  own_mark s items o ruled own is = ruled.linked.own me.0.number
      ∙ (ap (λ (xs : List Item). (notes_of me.0.number xs).own) own.list ∙ is)

  pub put_moves : (q word : ℕ) → word ≡ mark_word (Some (record { head = h; place = q }))
      → (noted (known d me.0 0)).own ≡ None → IsStandingMark (record { head = h; place = q })
      → (m : ℕ) → IsBefore (known d me.0 h) q m
      → Allows (Holds Law) slots id me p (λ _. word) (λ _. mark_stored_play (move slots p word 0 none) me word)
  put_moves q word is none_out standing m before s r long at_id few =
      let a = steps slots id me lives (place.Bookmark me.0.number) own_mark_small p own_mark_at refl (λ _. word)
      (λ w. step.Mark h q) (λ _. Unit {0})
      (λ s items ruled own fits. (
        subst (λ (n : ℕ). KeepsLaw s me.0.number (place.Bookmark me.0.number) n (step.Mark h q) (book_of me.0.items))
            (sym is)
            (marks s items ruled me.0.number h (book_of me.0.items) fits (head_seen s items me (Some h) own held) q
            (own_mark s items None ruled own none_out) standing
            (mark_keeps s items ruled me.0.number h (known d me.0 h) (head_seen s items me (Some h) own held) own.told
            (ap (notes_of me.0.number) own.list) q m standing.low before) clear),
        tt,
      )) s r long at_id few in
      let k = standing.head in
      told_as a (λ _ _ t. t.0 ∙ ap (λ (o : Option Mark). seat_with me (item.Made (marked o)))
      (sym (ap mark_of is ∙ mark_read (record { head = h; place = q }) (omega arith) standing.high)))

  pub take_moves : (q : ℕ) → (noted (known d me.0 0)).own ≡ Some (record { head = h; place = q })
      → Allows (Holds Law) slots id me p (λ _. 0) (λ _. mark_stored_play (move slots p 0 0 none) me 0)
  take_moves q was s r long at_id few =
      let a = steps slots id me lives (place.Bookmark me.0.number) own_mark_small p own_mark_at refl (λ _. 0)
      (λ w. step.Unmark) (λ _. Unit {0})
      (λ s items ruled own fits. (
        unmarks s items ruled me.0.number h (book_of me.0.items) fits (head_seen s items me (Some h) own held) q
            (own_mark s items (Some (record { head = h; place = q })) ruled own was) clear,
        tt,
      )) s r long at_id few in
      told_as a (λ _ _ t. t.0 ∙ ap (λ (o : Option Mark). seat_with me (item.Made (marked o))) (sym no_mark_read))

  -- by what the word is
  pub store_moves : (word : ℕ) → MayStoreMark (known d me.0 h) word
      → Allows (Holds Law) slots id me p (λ _. word) (λ _. mark_stored_play (move slots p word 0 none) me word)
  store_moves word (inl k) = subst
      (λ (w : ℕ). Allows (Holds Law) slots id me p (λ _. w) (λ _. mark_stored_play (move slots p w 0 none) me w))
      (sym k.0)
      (take_moves k.1.mark.place
      (k.1.own ∙ ap (λ (j : ℕ). Some (record { head = j; place = k.1.mark.place })) k.1.head))
  store_moves word (inr k) =
      let is : k.0 ≡ record { head = h; place = k.0.place } =
      ap (λ (j : ℕ). record { head = j; place = k.0.place }) k.2.head in
      put_moves k.0.place word (k.1 ∙ ap (λ (m : Mark). mark_word (Some m)) is) k.2.none
      (subst IsStandingMark is k.2.standing) k.2.member k.2.before

-- steps on condition words
cond_plain : (c : ℕ) → is_beside (cond_at c) ≡ false
cond_plain c = by (nat_lt c FIRST_DONE) (nat_lt c FIRST_BIT_WORD) (nat_lt c FIRST_VARIABLE)
  where
    by : (x y z : Bool) → is_beside (if x then place.Plain c else if y then place.Done (c - FIRST_DONE)
        else if z then place.Bits (c - FIRST_BIT_WORD) else place.Var (c - FIRST_VARIABLE)) ≡ false
    by true y z = refl
    by false true z = refl
    by false false true = refl
    by false false false = refl

load_changes : (c : Watch) (w a : ℕ) → ChangesNone a (step.Load c w)
load_changes c w a s place.Base = refl
load_changes c w a s k = refl

module _ (slots id : ℕ) (me : Sat) (lives : me.0.lives ≡ true) (p : ℕ) where
  pub load_moves : (c named : Watch) → c ≡ named → IsThere c → p ≡ place.position_of (cond_at (number_of c))
      → ((h : ℕ) → (book_of me.0.items).head ≡ Some h → (book_of me.0.items).differs ≡ nothing)
      → Allows (Holds Law) slots id me p (λ n. n) (cond_loaded_play named (move slots p 0 0 none) me)
  load_moves c named same is at clear s r long at_id few =
      let a = all_steps slots id me lives (cond_at (number_of c)) (cond_located (number_of c) (number_below c is)) p at
      (cond_plain (number_of c)) (λ n. n) (λ w. step.Load c w) (λ _. Unit {0}) (λ w. inr (load_changes c w me.0.number))
      (λ z items ruled own fits. (
        cond_loads z items ruled me.0.number (book_of me.0.items) fits c is
            (λ h held. clear h (sym (head_seen z items me (book_of me.0.items).head own refl) ∙ held)),
        tt,
      )) s r long at_id few in
      told_as a (λ _ _ t. t.0
      ∙ ap (λ (k : Watch). seat_with me (item.Made (step.Load k (slice_index s.words p)))) same)

  free_stepped : (v : ℕ) → CLAIMS ≤ v → is_stepped (place.Var v) ≡ true
  free_stepped v is = grind (arith, nat_tests)

  pub publish_moves : (c named : Watch) (value : ℕ) → c ≡ named → IsPublic c
      → p ≡ place.position_of (cond_at (number_of c)) → (book_of me.0.items).head ≡ None
      → Allows (Holds Law) slots id me p (λ _. value) (λ _. published_play named (move slots p value 0 none) me value)
  publish_moves (watch.Plain c) named value same is at free s r long at_id few =
      let a = steps slots id me lives (place.Plain c) is p (at ∙ ap place.position_of (plain_at c is)) refl
      (λ _. value) (λ w. step.Publish (watch.Plain c) value w) (λ _. Unit {0})
      (λ z items ruled own fits. (
        plain_publishes z items ruled me.0.number (book_of me.0.items) fits c value
            (head_seen z items me None own free),
        tt,
      )) s r long at_id few in
      told_as a (λ _ _ t. (
        slice_index s.words p,
        t.0
            ∙ ap (λ (k : Watch). seat_with me (item.Made (step.Publish k value (slice_index s.words p)))) same,
      ))
  publish_moves (watch.Var v o) named value same is at free s r long at_id few =
      let a = steps slots id me lives (place.Var v) is.1 p (at ∙ ap place.position_of (var_at v is.1))
      (free_stepped v is.0)
      (λ _. value) (λ w. step.Publish (watch.Var v o) value w) (λ _. Unit {0})
      (λ z items ruled own fits. (
        var_publishes z items ruled me.0.number (book_of me.0.items) fits v o value
            (head_seen z items me None own free),
        tt,
      )) s r long at_id few in
      told_as a (λ _ _ t. (
        slice_index s.words p,
        t.0
            ∙ ap (λ (k : Watch). seat_with me (item.Made (step.Publish k value (slice_index s.words p)))) same,
      ))
  publish_moves (watch.Done d) named value same is at free s r long at_id few = absurd is
  publish_moves (watch.Bit w b) named value same is at free s r long at_id few = absurd is

  pub consume_moves : (c : ℕ) → c < PLAIN_CONDITIONS → p ≡ CONDITION_AT + c
      → Allows (Holds Law) slots id me p (λ _. 0) (consumed_play (move slots p 0 0 none) me)
  consume_moves c few_conds at s r long at_id few =
      let a = steps slots id me lives (place.Plain c) few_conds p at refl (λ _. 0)
      (λ w. step.Consume (watch.Plain c) 0 w) (λ _. Unit {0})
      (λ z items ruled own fits. (
        plain_consumes z items ruled me.0.number (book_of me.0.items) fits c,
        tt,
      )) s r long at_id few in
      let there : c ≡ p - CONDITION_AT = omega arith in
      told_as a (λ _ _ t. t.0
      ∙ ap (λ (k : ℕ). seat_with me (item.Made (step.Consume (watch.Plain k) 0 (slice_index s.words p)))) there)

pub public_there : (c : Watch) → IsPublic c → IsThere c
public_there (watch.Plain c) is = is
public_there (watch.Var v o) is = is.1
public_there (watch.Done d) is = absurd is
public_there (watch.Bit w b) is = absurd is
