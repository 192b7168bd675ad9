-- What a task knows of a page of which it took note.
use Rattle.std.proofs.Common.{◌∙◌, ap, refl, arith}
use Rattle.std.proofs.lemmas.Bool.Decides.{nat_tests}
use Rattle.std.specs.Prelude.{ℕ, ◌≡◌, ◌||◌, ◌==◌, Bool, true, false, Some}
use Rattle.wait_model.specs.{declared.watches.Entry.Entry, Views.View as Told, Fold.after, Fold.met_task}
use Rattle.wait_model.specs.Watches.{mask_of, page, same}
use Rattle.wait_model.specs.declared.watches.Mode.TheVariants as mode
use Rattle.wait_model.specs.declared.steps.Step.TheVariants as step
use Rattle.wait_model.proofs.Sameness.{same_refl}
use Rattle.wait_rule.specs.declared.journal.Item.TheVariants as item
use Rattle.wait_rule.specs.{Bits.KeepsBitOf, Known.Known, Notes.Notes, Notes.notes_after_wake, PageCalls.HasTold}
use Rattle.wait_rule.specs.{Queues.ShowsEntry, Queues.index}
use Rattle.wait_rule.specs.Says.{added, noted, told_of}
use Rattle.wait_rule.proofs.KnownLaws.AfterSteps.{noted_added, told_added}

or_true : (b t : Bool) → t ≡ true → (b || t) ≡ true
or_true true t is = refl
or_true false t is = is

-- it keeps it by its own history
pub note_keeps : (old new : Known) (x p : ℕ) → new ≡ added old (item.Made (step.Unflag x (Some p)))
    → KeepsBitOf new (page p)
note_keeps old new x p is = ap (λ (v : Told). v.bits.keeps (page p))
    (ap told_of is ∙ told_added old (item.Made (step.Unflag x (Some p))))
    ∙ or_true ((told_of old).bits.keeps (page p)) (same (page p) (page p)) (same_refl (page p))

-- a wake with NORMAL of a task that was told last
pub told_woken : (k : Known) (who slot w : ℕ) (e : Entry) → ShowsEntry k (index who slot) e
    → HasTold (added (added k (item.Made (step.Handed (index who slot))))
    (item.Made (step.Wake who (mask_of mode.Normal) w))) who slot
told_woken k who slot w e shows = record {
  told = refl;
  woken = ap (λ (n : Notes). n.normal who) (noted_added told (item.Made (step.Wake who (mask_of mode.Normal) w)))
      ∙ or_true ((notes_after_wake (noted told).walk who (mask_of mode.Normal) (met_task (mask_of mode.Normal) w)
      (told_of told) (noted told)).normal who) (who == who) (same_number who);
  entry = e;
  shows = ap (λ (v : Told). v.hold.book (index who slot))
      (told_added told (item.Made (step.Wake who (mask_of mode.Normal) w))
      ∙ ap (after (step.Wake who (mask_of mode.Normal) w)) (told_added k (item.Made (step.Handed (index who slot)))))
      ∙ shows;
}
  where
    told : Known
    told = added k (item.Made (step.Handed (index who slot)))

    same_number : (n : ℕ) → (n == n) ≡ true
    same_number n = grind (arith, nat_tests)
