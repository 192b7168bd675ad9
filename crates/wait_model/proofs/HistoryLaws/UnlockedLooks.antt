-- The loads of all entry words by which a task looks for members without the lock.
use Rattle.std.proofs.Common.{refl, ap, sym, ◌∙◌}
use Rattle.std.specs.Prelude.{ℕ, zero, suc, ◌≡◌, Option, None}
use Rattle.wait_model.specs.{declared.layout.TheConstants.ENTRIES, declared.watches.Entry.Entry, Runs.peeks_below}
use Rattle.wait_model.specs.{Runs.all_peeks, Views.View, Fold.after, Fold.after_all, Words.entry_word, Rows.AllAllowed}
use Rattle.wait_model.specs.Tables.{Table, next, steps}
use Rattle.wait_model.proofs.HistoryLaws.HoldLooks.{SameWords, AllRead, same_words, same_through}
use Rattle.wait_model.proofs.Functions.{put_same}
use Rattle.wait_model.specs.declared.steps.Step.TheVariants as step

peeks_same_below : (f : ℕ → Option Entry) (n : ℕ) (t : Table) (a : ℕ) → SameWords (steps t a (peeks_below f n)) t
peeks_same_below f zero t a = same_words t
peeks_same_below f (suc n) t a = same_through _ t _ _
    (peeks_same_below f n (next t a (step.Peek n (entry_word (f n)))) a)

-- they change no word
pub peeks_same : (t : Table) (f : ℕ → Option Entry) (a : ℕ) → SameWords (steps t a (all_peeks f)) t
unfolding all_peeks
peeks_same t f a = peeks_same_below f ENTRIES t a

peeks_allowed_below : (f : ℕ → Option Entry) (n : ℕ) (t : Table) (a : ℕ) → AllRead f → t.entry ≡ f
    → (t.view a).hold.head ≡ None → AllAllowed t a (peeks_below f n)
peeks_allowed_below f zero t a r e out = tt
peeks_allowed_below f (suc n) t a r e out = (
  (r n ∙ ap (λ (g : ℕ → Option Entry). g n) (sym e), out),
  peeks_allowed_below f n (next t a (step.Peek n (entry_word (f n)))) a r e
      (ap (λ (v : View). v.hold.head) (put_same t.view a (after (step.Peek n (entry_word (f n))) (t.view a))) ∙ out),
)

-- a task that holds nothing may make them
pub peeks_allowed : (t : Table) (a : ℕ) (f : ℕ → Option Entry) → AllRead f → t.entry ≡ f
    → (t.view a).hold.head ≡ None → AllAllowed t a (all_peeks f)
unfolding all_peeks
peeks_allowed t a f r e out = peeks_allowed_below f ENTRIES t a r e out

peeks_hold_below : (f : ℕ → Option Entry) (n : ℕ) (v : View) → (after_all v (peeks_below f n)).hold ≡ v.hold
peeks_hold_below f zero v = refl
peeks_hold_below f (suc n) v = peeks_hold_below f n (after (step.Peek n (entry_word (f n))) v)

-- they leave the hold and the walk as they are
pub peeks_hold : (f : ℕ → Option Entry) (v : View) → (after_all v (all_peeks f)).hold ≡ v.hold
unfolding all_peeks
peeks_hold f v = peeks_hold_below f ENTRIES v
