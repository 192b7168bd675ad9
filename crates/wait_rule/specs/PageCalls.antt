-- To be believed.
-- What contracts say of pages that are handed over, and what each such step tells its task.
use Rattle.std.specs.Prelude.{ℕ, Bool, ◌≡◌, ◌⊎◌, ◌+◌, ◌-◌, true, false, Some}
use Rattle.atomic_table.specs.Seated.{TableId}
use Rattle.wait_model.specs.{declared.watches.Entry.Entry, Fold.met_task, Tasks.IsLawfulWord}
use Rattle.wait_model.specs.declared.layout.TheConstants.{CONDITION_AT, FIRST_BIT_WORD, FLAG_AT, WOKEN, HANDED}
use Rattle.wait_model.specs.Watches.{is_page, mask_of, page}
use Rattle.wait_model.specs.declared.steps.Step.TheVariants as step
use Rattle.wait_model.specs.declared.watches.Mode.TheVariants as mode
use Rattle.wait_rule.specs.declared.journal.Item.TheVariants as item
use Rattle.wait_rule.specs.{Known.Known, Known.known, Items.page_taken, Items.page_told, Asked.was_given_at}
use Rattle.wait_rule.specs.{Asked.nothing_asked, Pages.IsPageless, Quiet.is_quiet_at, Quiet.is_told, Queues.ShowsEntry}
use Rattle.wait_rule.specs.{Queues.index, Plays.Play, Plays.seat_with}
use Rattle.wait_rule.specs.Says.{added, asks_for, history_of, noted, stored_with, told_of}

-- the hold shows an entry for this page there
pub record MayTryFor (k : Known) (who slot word : ℕ) : Type 0 where
  pub entry : Entry
  pub shows : ShowsEntry k (index who slot) entry
  pub kind : is_page entry.kind ≡ true
  pub watch : entry.watch ≡ page word

-- the hold has taken the page for the task of this entry, and has not told it yet
abbrev pub HasTaken : Known → ℕ → ℕ → Type 0
HasTaken k who slot = k.book.differs ≡ page_taken (index who slot)

-- It has told it, and made a wake of it with NORMAL after that; the hold shows its entry still.
pub record HasTold (k : Known) (who slot : ℕ) : Type 0 where
  pub told : k.book.differs ≡ page_told (index who slot)
  pub woken : (noted k).normal who ≡ true
  pub entry : Entry
  pub shows : ShowsEntry k (index who slot) entry

-- The task of this entry was told of the page that was taken for it, then a wake of it with NORMAL was made, and then
-- its entry was taken off.
pub record HandsOver (old new : Known) (who slot : ℕ) (met : Bool) : Type 0 where
  pub found : ℕ
  pub lawful : IsLawfulWord found
  pub answers : met ≡ met_task (mask_of mode.Normal) found
  pub is : new ≡ stored_with (added (added old (item.Made (step.Handed (index who slot))))
      (item.Made (step.Wake who (mask_of mode.Normal) found))) (step.Unqueue (index who slot))

-- No entry for a page stands there, as far as the task's history tells of its own one.
abbrev pub QueuesNoPage : Known → ℕ → Type 0
QueuesNoPage k x = IsPageless ((told_of k).bits.stored x)

-- a word that shows a flag: none, WOKEN, or WOKEN with DONE
abbrev pub IsFlagWord : ℕ → Type 0
IsFlagWord w = (w ≡ 0) ⊎ ((w ≡ WOKEN) ⊎ (w ≡ HANDED))

-- DONE stands in the own flag word where a page was given to the task by that entry, which is off.
abbrev pub ShowsGiven : Known → ℕ → ℕ → Type 0
ShowsGiven k x w = (p : ℕ) → was_given_at x (asks_for k) ≡ Some p → QueuesNoPage k x → w ≡ HANDED

-- Where the task asks for no page it was told of none by its flag, and no flag stands in the own flag word where it is
-- quiet there.
abbrev pub ShowsNoFlag : Known → ℕ → ℕ → Type 0
ShowsNoFlag k x w = asks_for k ≡ nothing_asked
    → (is_told x (history_of k) ≡ false) × (is_quiet_at x (history_of k) ≡ true → w ≡ 0)

-- a test-and-set of a page for the task of entry x, a store of DONE, a load of the own flag word, and its clearing by
-- which the task takes note of page p
abbrev pub tried_for_play : ℕ → Play
tried_for_play x st m r n = n ≡ seat_with m (item.Made
    (step.TasFor x (st.word - (CONDITION_AT + FIRST_BIT_WORD)) r))

abbrev pub told_play : Play
told_play st m r n = n ≡ seat_with m (item.Made (step.Handed (st.word - FLAG_AT)))

abbrev pub flag_word_play : Play
flag_word_play st m r n = (n ≡ seat_with m (item.Made (step.Flag (st.word - FLAG_AT) r))) × (IsFlagWord r
    × ((d : TableId) → ShowsGiven (known d m.0 0) (st.word - FLAG_AT) r)
    × ((d : TableId) → ShowsNoFlag (known d m.0 0) (st.word - FLAG_AT) r))

abbrev pub noted_play : ℕ → Play
noted_play p st m r n = n ≡ seat_with m (item.Made (step.Unflag (st.word - FLAG_AT) (Some p)))
