-- What each step on a task word asks of the table of words, by the law of its kind.
use Rattle.std.proofs.Common.{refl, sym, ◌∙◌, ap, subst, arith, inl, inr, append-nil, bit_or}
use Rattle.std.specs.Prelude.{ℕ, ◌≡◌, ◌+◌, ◌<◌, ◌≤◌, ◌⊎◌, Bool, true, false, eqb, None, [], ◌∷◌, List, bit_and}
use mathlib.Core.Option.{none, some}
use prog.Atomic.{either}
use Rattle.atomic_table.specs.Table.{step as move, Allows}
use Rattle.wait_model.specs.{declared.layout.TheConstants.TASKS, declared.layout.TheConstants.TASK_AT, Views.View}
use Rattle.wait_model.specs.{Tables.Table, Locations.word_in}
use Rattle.wait_model.specs.Tasks.{IsLawfulWord, IsState, task_of, task_word, woken, slept, raised}
use Rattle.wait_model.specs.declared.steps.Step.TheVariants as step
use Rattle.wait_model.specs.Locations as place
use Rattle.wait_rule.specs.{declared.tasks.TheConstants.NO_STATE, declared.tasks.TheConstants.NO_SIGNAL}
use Rattle.wait_rule.specs.{declared.journal.Ask.Ask, declared.journal.Item.Item, declared.journal.Journal.Journal}
use Rattle.wait_rule.specs.{Says.IsShown, Says.MeetsLaw, MemberWords.word_with, Notes.notes_of}
use Rattle.wait_rule.specs.Items.{book_of, steps_of, first_book, Fits}
use Rattle.wait_rule.specs.Journals.{Scene, owns, has_of}
use Rattle.wait_rule.specs.Rule.{IsRuled, Law, Holds}
use Rattle.wait_rule.specs.Plays.{Sat, seat_with, seat_tried, whose, looked_play, awoken_play, word_load_play}
use Rattle.wait_rule.specs.Plays.{woke_play, run_stored_play, state_stored_play, fatal_bits, bits_of, audited_play}
use Rattle.wait_rule.specs.Plays.{witnessed_play}
use Rattle.wait_rule.specs.declared.journal.Item.TheVariants as item
use Rattle.wait_rule.specs.Plays as plays
use Rattle.wait_rule.proofs.{TableSteps.ItemLists.book_append, TableSteps.StateLaws.learns}
use Rattle.wait_rule.proofs.{TableSteps.StateLaws.pushed_none, KnownLaws.AfterSteps.notes_after}
use Rattle.wait_rule.proofs.KnownLaws.HeadLinks.{same_links}
use Rattle.wait_rule.proofs.KnownLaws.HeldHeads.{head_told, awake_differs, awake_ticket}
use Rattle.wait_rule.proofs.TableSteps.KeptSteps.{law_still, loads, steps, told_as, tries}
use Rattle.wait_rule.proofs.StepKinds.TaskKinds.{is_lawful, wakes, signals, looks, accepts, sleeps, stores, awakes}
use Rattle.wait_rule.proofs.StepKinds.TaskBits.{run_word, state_word, raised_word, fatal_word, accepted_word}

-- what is seen, as a journal that has some of the lists shows it
abbrev pub shown_of : (v : Journal) (c : Scene) (law : Law c) → ((t : ℕ) → 1 ≤ owns t v → c.items t ≡ has_of t v)
    → ((t : ℕ) → owns t v ≤ 1) → ((t : ℕ) → TASKS ≤ t → c.items t ≡ []) → IsShown v
shown_of v c law knows sole nobody = record {
  table = law.table;
  items = c.items;
  ruled = law.ruled;
  sole = sole;
  lists = knows;
  history = λ t mine. law.ruled.histories t ∙ ap steps_of (knows t mine);
  nobody = λ t far. law.ruled.histories t ∙ ap steps_of (nobody t far);
  words = word_with law.table law.beside;
  pipes = law.pipes;
}

-- a load of the base word that tells a task that the law holds of the lists that it has
pub audit_moves : (slots id : ℕ) (me : Sat) → me.0.lives ≡ true
    → Allows (Holds Law) slots id me 0 (λ n. n) (audited_play (move slots 0 0 0 none) me)
audit_moves slots id me lives = learns Law slots id me.0 me.1 0 (IsShown me.0) lives
    (λ c n law is. law_still c law me.0.number place.Base n tt refl is)
    (λ c law knows sole nobody. shown_of me.0 c law knows sole nobody)

-- a load of the base word that tells a task that the law holds of its own list
pub witness_moves : (slots id : ℕ) (me : Sat) → me.0.lives ≡ true
    → Allows (Holds Law) slots id me 0 (λ n. n) (witnessed_play (move slots 0 0 0 none) me)
witness_moves slots id me lives s r long at_id few =
    let a = loads slots id me lives place.Base tt 0 refl refl (λ _. []) (λ _. MeetsLaw me.0) (λ _. tt)
    (λ _. refl) (λ _ b. refl) (λ _ b. refl) (λ _ p. refl) (λ _ k. (λ e. refl, refl))
    (λ s items ruled own fits. (
      subst (λ (xs : List Item). Fits (s.task me.0.number) (book_of xs)) (sym (append-nil me.0.items)) fits,
      record { table = s; items = items; ruled = ruled; own = own.list },
    ))
    (λ s items ruled own. same_links s items me.0.number [] (ap (notes_of me.0.number) (append-nil (items me.0.number)))
    ruled.linked) s r long at_id few in
    told_as a (λ _ _ t. (t.0 ∙ ap (λ w. (w, me.1)) (pushed_none me.0), t.1))

pub whose_is : (u p : ℕ) → p ≡ TASK_AT + u → whose p ≡ u
whose_is u p at = omega arith

pub bits_tell : (fatal : Bool) (bits : ℕ) → bits ≡ bits_of fatal → eqb bits fatal_bits ≡ fatal
bits_tell true bits is = ap (λ k. eqb k fatal_bits) is
bits_tell false bits is = ap (λ k. eqb k fatal_bits) is

module _ (slots id : ℕ) (me : Sat) (lives : me.0.lives ≡ true) (u p : ℕ) (small : u < TASKS)
    (at : p ≡ TASK_AT + u) where
  -- the task whose word stands there
  there : u ≡ whose p
  there = omega arith

  -- a load that tells that the word is lawful
  pub peek_moves : Allows (Holds Law) slots id me p (λ n. n) (word_load_play (move slots p 0 0 none) me)
  peek_moves s r long at_id few =
      let a = loads slots id me lives (place.Task u) small p at refl (λ _. []) IsLawfulWord (λ _. tt)
      (λ _. refl) (λ _ b. refl) (λ _ b. refl) (λ _ p. refl) (λ _ k. (λ e. refl, refl))
      (λ s items ruled _ fits. (
        subst (λ (xs : List Item). Fits (s.task me.0.number) (book_of xs)) (sym (append-nil me.0.items)) fits,
        is_lawful s items ruled u,
      ))
      (λ s items ruled own. same_links s items me.0.number [] (ap (notes_of me.0.number)
      (append-nil (items me.0.number)))
      ruled.linked) s r long at_id few in
      told_as a (λ _ _ t. (t.0 ∙ ap (λ w. (w, me.1)) (pushed_none me.0), t.1))

  pub wake_moves : (mask old new : ℕ) (a : Ask) → a.number ≡ mask → new ≡ task_word (woken mask (task_of old))
      → Allows (Holds Law) slots id me p (λ n. either (eqb n old) new n) (woke_play (move slots p old new (some a)) me)
  wake_moves mask old new a asks is = subst
      (λ (k : ℕ). Allows (Holds Law) slots id me p (λ n. either (eqb n old) new n)
      (λ n m. m ≡ seat_tried me (item.Made (step.Wake k a.number n)) old n)) there
      (tries slots id me lives (place.Task u) small p at refl old new (λ w. step.Wake u a.number w)
      (λ s items ruled _ fits hit.
      let n : new ≡ task_word (woken a.number (task_of (task_word (s.task u)))) =
      is ∙ ap (λ (w : ℕ). task_word (woken mask (task_of w))) (sym hit)
      ∙ ap (λ (m : ℕ). task_word (woken m (task_of (task_word (s.task u))))) (sym asks) in
      rw n (wakes s items ruled u me.0.number (book_of me.0.items) fits a.number)))

  pub raise_moves : (fatal : Bool) (bits : ℕ) → bits ≡ bits_of fatal
      → Allows (Holds Law) slots id me p (λ n. bit_or n bits) (plays.raised_play (move slots p bits 0 none) me)
  raise_moves fatal bits is = subst
      (λ (k : ℕ × Bool). Allows (Holds Law) slots id me p (λ n. bit_or n bits)
      (λ n m. (m ≡ seat_with me (item.Made (step.Signal k.0 k.1 n))) × IsLawfulWord n))
      (λ i. (there i, sym (bits_tell fatal bits is) i))
      (steps slots id me lives (place.Task u) small p at refl (λ n. bit_or n bits) (λ w. step.Signal u fatal w)
      IsLawfulWord
      (λ s items ruled _ fits. (
        signals s items ruled u me.0.number (book_of me.0.items) fits fatal (bit_or (task_word (s.task u)) bits)
            (ap (bit_or (task_word (s.task u))) is ∙ by_word fatal s items ruled),
        is_lawful s items ruled u,
      )))
    where
      by_word : (fatal : Bool) (s : Table) (items : ℕ → List Item) → IsRuled s items
          → bit_or (task_word (s.task u)) (bits_of fatal) ≡ task_word (raised fatal (s.task u))
      by_word true s items ruled = fatal_word (s.task u) (ruled.lawful.tasks u)
      by_word false s items ruled = raised_word (s.task u) (ruled.lawful.tasks u)

-- steps on the own word
module _ (slots id : ℕ) (me : Sat) (lives : me.0.lives ≡ true) (u p : ℕ) (mine : me.0.number ≡ u) (small : u < TASKS)
    (at : p ≡ TASK_AT + u) where
  own_at : p ≡ 1 + me.0.number
  own_at = omega arith

  own_small : me.0.number < TASKS
  own_small = omega arith

  pub look_moves : Allows (Holds Law) slots id me p (λ n. n) (looked_play (move slots p 0 0 none) me)
  look_moves = steps slots id me lives (place.Task me.0.number) own_small p own_at refl (λ n. n)
      (λ w. step.Look w) IsLawfulWord
      (λ s items ruled _ fits. (
        looks s items ruled me.0.number (book_of me.0.items) fits,
        is_lawful s items ruled me.0.number,
      ))

  pub awake_moves : Allows (Holds Law) slots id me p (λ n. n) (awoken_play (move slots p 0 0 none) me)
  awake_moves = loads slots id me lives (place.Task me.0.number) own_small p own_at refl (λ w. item.Awake w ∷ [])
      IsLawfulWord (λ _. tt) (λ _. refl) (λ w b. awake_differs b.awake (task_of w).runnable b)
      (λ w b. awake_ticket b.awake (task_of w).runnable b) (λ w p. refl) (λ w k. (λ e. refl, refl))
      (λ s items ruled _ fits. (
        subst (Fits (s.task me.0.number)) (sym (book_append first_book me.0.items _))
            (awakes s items ruled me.0.number (book_of me.0.items) fits),
        is_lawful s items ruled me.0.number,
      ))
      (λ s items ruled own. same_links s items me.0.number (item.Awake (word_in s (place.Task me.0.number)) ∷ [])
      (notes_after me.0.number (items me.0.number) (item.Awake (word_in s (place.Task me.0.number)))) ruled.linked)

  pub accept_moves : Allows (Holds Law) slots id me p (λ n. bit_and n NO_SIGNAL)
      (plays.accepted_play (move slots p NO_SIGNAL 0 none) me)
  accept_moves = steps slots id me lives (place.Task me.0.number) own_small p own_at refl
      (λ n. bit_and n NO_SIGNAL) (λ w. step.Accept w) IsLawfulWord
      (λ s items ruled _ fits. (
        accepts s items ruled me.0.number (book_of me.0.items) fits _
            (accepted_word (s.task me.0.number) (ruled.lawful.tasks me.0.number)),
        is_lawful s items ruled me.0.number,
      ))

  pub sleep_moves : (old new : ℕ) → new ≡ task_word (slept (task_of old)) → (book_of me.0.items).awake ≡ true
      → (book_of me.0.items).head ≡ None
      → Allows (Holds Law) slots id me p (λ n. either (eqb n old) new n)
      (plays.slept_play (move slots p old new none) me)
  sleep_moves old new is up free = tries slots id me lives (place.Task me.0.number) own_small p own_at refl old new
      (λ w. step.Sleep w)
      (λ s items ruled told fits hit. rw (is ∙ ap (λ (w : ℕ). task_word (slept (task_of w))) (sym hit))
      (sleeps s items ruled me.0.number (book_of me.0.items) fits up
      (ap (λ (v : View). v.hold.head) told.told ∙ (sym (head_told me.0.items) ∙ free))))

  pub run_moves : (book_of me.0.items).awake ≡ true
      → Allows (Holds Law) slots id me p (λ n. bit_and n NO_STATE)
      (run_stored_play (move slots p NO_STATE 0 none) me)
  run_moves up s r long at_id few =
      let a = steps slots id me lives (place.Task me.0.number) own_small p own_at refl
      (λ n. bit_and n NO_STATE) (λ w. step.State 0) (λ _. Unit {0})
      (λ s items ruled _ fits. (
        stores s items ruled me.0.number (book_of me.0.items) fits 0 _ up (inl refl)
            (run_word (s.task me.0.number) (ruled.lawful.tasks me.0.number)),
        tt,
      )) s r long at_id few in
      told_as a (λ _ _ t. t.0)

  pub state_moves : (v : ℕ) → IsState v → 0 < v → (book_of me.0.items).awake ≡ true
      → ((book_of me.0.items).state ≡ 0) ⊎ ((book_of me.0.items).state ≡ v)
      → Allows (Holds Law) slots id me p (λ n. bit_or n v) (state_stored_play (move slots p v 0 none) me)
  state_moves v any some_state up may s r long at_id few =
      let a = steps slots id me lives (place.Task me.0.number) own_small p own_at refl (λ n. bit_or n v)
      (λ w. step.State v) (λ _. Unit {0})
      (λ s items ruled _ fits. (
        stores s items ruled me.0.number (book_of me.0.items) fits v _ up any
            (state_word v (s.task me.0.number) (ruled.lawful.tasks me.0.number) is (may_be (s.task me.0.number).state
            fits.stored may)),
        tt,
      )) s r long at_id few in
      told_as a (λ _ _ t. t.0)
    where
      is : (v ≡ 1) ⊎ ((v ≡ 2) ⊎ (v ≡ 0x102))
      is = elim any [ inl z ↦ absurd (omega arith) | inr q ↦ q ]

      may_be : (n : ℕ) → (n ≡ 0) ⊎ (n ≡ (book_of me.0.items).state)
          → ((book_of me.0.items).state ≡ 0) ⊎ ((book_of me.0.items).state ≡ v) → (n ≡ 0) ⊎ (n ≡ v)
      may_be n (inl q) m = inl q
      may_be n (inr q) (inl z) = inl (q ∙ z)
      may_be n (inr q) (inr z) = inr (q ∙ z)
