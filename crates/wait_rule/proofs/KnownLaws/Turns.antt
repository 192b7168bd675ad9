-- What a task knows after a load of the served number, and after an unlock with its serve.
use Rattle.std.proofs.Common.{refl, ◌∙◌, ap}
use Rattle.std.specs.Prelude.{ℕ, ◌≡◌, ◌≢◌, ◌&&◌, Bool, ◌==◌, if◌then◌else◌, [], ◌∷◌}
use Rattle.wait_rule.specs.declared.journal.Item.TheVariants as item
use Rattle.wait_rule.specs.{Known.Known, Notes.note_step, Items.learn, Stays.StaysOwing, Transitions.OnlyLooks}
use Rattle.wait_rule.specs.Queues.{IsTurn}
use Rattle.wait_rule.specs.Tickets.{drawn, served, after_serving}
use Rattle.wait_rule.specs.Says.{IsFree, added, told_of, noted, unlocked_with}
use Rattle.wait_model.specs.declared.steps.Step.TheVariants as step
use Rattle.wait_model.specs.Fold.{after}
use Rattle.wait_rule.proofs.KnownLaws.AfterSteps.{told_added, noted_added}
use Rattle.wait_rule.proofs.KnownLaws.SettledTasks.{owes_after, owes_looks}
use Rattle.wait_rule.proofs.KnownLaws.TicketSteps.{to_test, test_off}

pub own_number : (h n w : ℕ) → w ≡ n → after_serving h w (drawn h n) ≡ served h n
own_number h n w is = ap (λ (b : Bool). if b then served h n else drawn h n)
    (ap (λ (b : Bool). b && (n == w)) (to_test h) ∙ (ap (λ (k : ℕ). n == k) is ∙ to_test n))

pub other_number : (h n w : ℕ) → w ≢ n → after_serving h w (drawn h n) ≡ drawn h n
other_number h n w ne = ap (λ (b : Bool). if b then served h n else drawn h n)
    (ap (λ (b : Bool). b && (n == w)) (to_test h) ∙ test_off n w ne)

module _ (k new : Known) (h n w : ℕ) (out : k.book.ticket ≡ drawn h n) (is : new ≡ added k (item.Serving h w)) where
  now : new.book.ticket ≡ after_serving h w (drawn h n)
  now = ap (λ (j : Known). j.book.ticket) is ∙ ap (after_serving h w) out

  pub finds_turn : w ≡ n → IsTurn new h
  finds_turn same = (n, now ∙ own_number h n w same)

  pub finds_other : w ≢ n → new.book.ticket ≡ drawn h n
  finds_other ne = now ∙ other_number h n w ne

-- an unlock, and the serve after it, which is no event
pub told_unlocked : (k : Known) (h : ℕ) (spent : Bool)
    → told_of (unlocked_with k h spent) ≡ after (step.Unlock h spent) (told_of k)
told_unlocked k h spent = told_added (added k (item.Made (step.Unlock h spent))) item.Served
    ∙ told_added k (item.Made (step.Unlock h spent))

pub noted_unlocked : (k : Known) (h : ℕ) (spent : Bool) → noted (unlocked_with k h spent)
    ≡ note_step k.view.number (step.Unlock h spent) (told_of k) (noted k)
noted_unlocked k h spent = noted_added (added k (item.Made (step.Unlock h spent))) item.Served
    ∙ noted_added k (item.Made (step.Unlock h spent))

pub serve_looks : (k : Known) (h : ℕ) (spent : Bool)
    → OnlyLooks (added k (item.Made (step.Unlock h spent))) (unlocked_with k h spent)
serve_looks k h spent = record { items = item.Served ∷ []; looks = (tt, tt); is = refl }

pub unlocked_free : (k : Known) (h : ℕ) (spent : Bool) → IsFree (unlocked_with k h spent)
unlocked_free k h spent = record { head = refl; ticket = refl }

pub unlocked_owing : (k : Known) (h : ℕ) (spent : Bool) → StaysOwing k (unlocked_with k h spent)
unlocked_owing k h spent x o = owes_looks (added k (item.Made (step.Unlock h spent))) (unlocked_with k h spent)
    (item.Served ∷ []) (learn item.Served (added k (item.Made (step.Unlock h spent))).book) refl (tt, tt) refl x
    (owes_after k (added k (item.Made (step.Unlock h spent))) (step.Unlock h spent) refl refl x o)
