-- The served number of a head, to a task that has the histories of all.
use Rattle.std.proofs.Common.{◌∙◌, ap, sym, subst}
use Rattle.std.specs.Prelude.{ℕ, ◌≡◌, ◌+◌, ◌<◌, ◌≤◌, List}
use Rattle.wait_model.specs.{declared.layout.TheConstants.TASKS, Words.flag, Totals.total}
use Rattle.wait_model.proofs.HistoryLaws.StepTotals.{sum_same}
use Rattle.wait_rule.specs.{declared.journal.Item.Item, declared.journal.Journal.Journal, Items.steps_of, Items.book_of}
use Rattle.wait_rule.specs.{Journals.owns, Journals.has_of, Tickets.is_given, Says.ServesUnlocks}
use Rattle.wait_rule.specs.TicketWords.{unlocks_at, unlocked_at, unserved, all_tickets}
use Rattle.wait_rule.specs.Unlocks.{AllUnlocksCount, unlocks_told, unserved_told}

module _ (v : Journal) (h w : ℕ) (s : ServesUnlocks v h w) (all : (t : ℕ) → t < TASKS → 1 ≤ owns t v) where
  same_unlocks : unlocks_told h v ≡ unlocked_at h s.shown.table.history
  same_unlocks = sum_same TASKS (λ t. total (unlocks_at h) (s.shown.table.history t))
      (λ t. total (unlocks_at h) (steps_of (has_of t v)))
      (λ t few. ap (total (unlocks_at h)) (sym (s.shown.history t (all t few))))

  same_unserved : unserved_told h v ≡ unserved h (all_tickets s.shown.items)
  same_unserved = sum_same TASKS (λ t. flag (is_given h (all_tickets s.shown.items t)))
      (λ t. flag (is_given h (book_of (has_of t v)).ticket))
      (λ t few. ap (λ (xs : List Item). flag (is_given h (book_of xs).ticket)) (sym (s.shown.lists t (all t few))))

pub all_unlocks_count : AllUnlocksCount
all_unlocks_count v h w s all = (
  s.serves,
  s.word,
  same_unlocks v h w s all ∙ (s.unlocks ∙ ap (λ (n : ℕ). s.serves + n) (sym (same_unserved v h w s all))),
  subst (λ (n : ℕ). n ≤ 1) (sym (same_unserved v h w s all)) s.one,
)
