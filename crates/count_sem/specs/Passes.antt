-- To be believed.
-- What a `down` says that hands a permit on in its last hold.
use Rattle.std.specs.Prelude.{ℕ, ◌≡◌, ◌<◌, Bool, Some, None, ◌∷◌, []}
use Rattle.wait_model.specs.{declared.layout.TheConstants.ENTRIES, declared.watches.Entry.Entry, Programs.zero_answer}
use Rattle.wait_model.specs.declared.points.Next.TheVariants as next
use Rattle.wait_model.specs.declared.steps.Step.TheVariants as step
use Rattle.wait_rule.specs.{Known.Known, Shown.shown_entry, Tickets.no_ticket}
use Rattle.wait_rule.specs.Stays.{Carries, Change, only_looks}
use Rattle.wait_class.specs.Posts.{EndsWith, Runs}
use Rattle.count_sem.specs.{SemPrograms.down_program, SemPrograms.pass_point, Downs.down_head}
use Rattle.count_sem.specs.declared.downs.DownCall.{DownCall}

-- the hold shows an entry of its head
abbrev pub HasWaiter : Known → Type 0
HasWaiter k = (x : ℕ) × (e : Entry) × (x < ENTRIES) × (shown_entry k x ≡ Some e)

-- it looks at entries, and gives the head back
abbrev pub pass_change : Change
pass_change = record only_looks { head = λ _. None; ticket = λ _. no_ticket }

-- it went through the rest of its program
pub record HasPassedOn (old new : Known) (r : DownCall) : Type 0 where
  pub runs : Runs (down_program old.view.number r.cell r.state) old new (next.Go pass_point) (next.Ends zero_answer)
  pub carries : Carries pass_change old new
  pub spent : Bool
  pub back : EndsWith new (step.Unlock (down_head r) spent ∷ [])
