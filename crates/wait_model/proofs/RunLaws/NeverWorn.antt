-- No program answers Worn, or goes on after an add for which no place was left, by what a core's task finds.
use Rattle.std.proofs.lemmas.Bool.{both_ways}
use Rattle.std.proofs.Common.{refl, sym, ◌∙◌, ap, subst, arith}
use Rattle.std.specs.Prelude.{ℕ, ◌≡◌, ◌≢◌, Bool, true, false, is_some}
use Rattle.wait_model.specs.{declared.calls.Call.Call, declared.calls.Answer.Answer, declared.points.Planned.Planned}
use Rattle.wait_model.specs.{declared.points.Next.Next, declared.points.Point.Point}
use Rattle.wait_model.specs.{declared.points.FinishPoint.FinishPoint, Points.is_lock, Reached.IsFitted}
use Rattle.wait_model.specs.{Reached.IsSoundCall, Unworn.NoRunWears, declared.points.PagePoint.PagePoint}
use Rattle.wait_model.specs.Programs.{interrupted, zero_answer, page_last}
use Rattle.wait_model.specs.Runs.{State, own, planned, state_of, made_in, seen_by}
use Rattle.wait_model.specs.declared.calls.Answer.TheVariants as answer
use Rattle.wait_model.specs.declared.points.Next.TheVariants as next
use Rattle.wait_model.specs.declared.points.Point.TheVariants as at
use Rattle.wait_model.specs.declared.points.LeavePoint.TheVariants as leaving
use Rattle.wait_model.specs.declared.points.FinishPoint.TheVariants as finishing
use Rattle.wait_model.specs.declared.points.AwaitPoint.TheVariants as awaiting
use Rattle.wait_model.specs.declared.points.BitPoint.TheVariants as biting
use Rattle.wait_model.proofs.WaitLaws.OutsideStages.{either, unset, both}
use Rattle.wait_model.proofs.AccountLaws.Refusals.{refusal, IsOther, other}
use Rattle.wait_model.proofs.RunLaws.EveryRun.{sound_of}
use Rattle.wait_model.specs.declared.points.PagePoint.TheVariants as paging

abbrev is_worn : Next → Bool
is_worn (next.Ends answer.Worn) = true
is_worn _ = false

module _ (s : State) (me : ℕ) (call : Call) where
  abbrev U : Planned → Type 0
  U x = is_worn x.next ≡ false

  finish_unworn : (p : FinishPoint) → U (planned s me call (at.Finish p true))
  finish_unworn finishing.State = refl
  finish_unworn finishing.Look = either U (is_some (s.table.entry (own me))) _ _ refl
      (either U (is_lock call) _ _ refl refl)
  finish_unworn finishing.Lock = refl
  finish_unworn finishing.Queue = either U (is_some (s.table.entry (own me))) _ _ refl
      (either U (is_lock call) _ _ refl refl)
  finish_unworn finishing.Unlock = either U (is_lock call) _ _ refl refl

  told : (p : Point) → U (planned s me call p) → (planned s me call p).next ≢ next.Ends answer.Worn
  told p u z = absurd (both_ways false refl (sym u ∙ ap is_worn z))

  elsewhere : (p : Point) → IsOther p → (planned s me call p).next ≢ next.Ends answer.Worn
  elsewhere p i z = let y : 0 ≡ 1 = sym (other s me call p i) ∙ ap refusal z in omega (arith, y)

  page_unworn : (p : PagePoint) → (planned s me call (at.Page p)).next ≢ next.Ends answer.Worn
  page_unworn paging.Last = told (at.Page paging.Last)
      (both (λ b. U (page_last b)) (seen_by s me call (at.Page paging.Last)).flag refl refl)
  page_unworn p = elsewhere (at.Page p) tt

  unworn : (p : Point) → IsFitted call p → (planned s me call p).next ≢ next.Ends answer.Worn
  unworn at.Worn f = absurd f
  unworn (at.Finish p true) f = told (at.Finish p true) (finish_unworn p)
  unworn (at.Leave leaving.Load) f = told (at.Leave leaving.Load) (either U (unset s call) _ _ refl refl)
  unworn (at.Await (awaiting.Off true)) f = told (at.Await (awaiting.Off true))
      (either U (is_some (s.table.entry (own me))) _ _ refl refl)
  unworn (at.Await (awaiting.Last true)) f = told (at.Await (awaiting.Last true)) refl
  unworn (at.Bit biting.Last) f = told (at.Bit biting.Last)
      (either (λ (a : Answer). is_worn (next.Ends a) ≡ false) (unset s call) interrupted zero_answer refl refl)
  unworn (at.Page p) f = page_unworn p
  unworn p f = elsewhere p tt

pub no_run_wears : NoRunWears
no_run_wears run r few me call p is = (λ z. subst (IsFitted call) z fit, unworn (state_of run) me call p fit)
  where
    fit : IsFitted call p
    fit = (subst (IsSoundCall (made_in run)) is ((sound_of run r few).calls me)).fitted
