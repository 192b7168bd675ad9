-- Waits for pages that are left make their words.
use Rattle.std.proofs.lemmas.Option.{same_Some}
use Rattle.std.proofs.Common.{ap, inl, inr, refl, subst}
use Rattle.std.specs.Prelude.{ℕ, ◌≡◌, Bool, true, false, is_some, if◌then◌else◌, Some, List, [], ◌∷◌}
use Rattle.wait_model.specs.{declared.calls.Answer.Answer, declared.calls.Call.Call, declared.calls.Event.Event}
use Rattle.wait_model.specs.{declared.points.PagePoint.PagePoint, declared.points.Planned.Planned}
use Rattle.wait_model.specs.{declared.points.Point.Point, declared.tasks.SleepState.SleepState, PointFacts.holds}
use Rattle.wait_model.specs.{SentenceSteps.minus_4, Words.bit_at, Words.flag}
use Rattle.wait_model.specs.Programs.{call_fails, ends_with, go, zero_answer}
use Rattle.wait_model.specs.Tasks.{looks_in, pending, state_mask}
use Rattle.wait_model.specs.declared.calls.Call.TheVariants as calls
use Rattle.wait_model.specs.declared.calls.Event.TheVariants as event
use Rattle.wait_model.specs.declared.points.FinishPoint.TheVariants as finishing
use Rattle.wait_model.specs.declared.points.PagePoint.TheVariants as paging
use Rattle.wait_model.specs.declared.points.Point.TheVariants as at
use Rattle.wait_model.proofs.WaitLaws.OutsideStages.{either}
use Rattle.wait_rule.specs.{Known.Known, Says.MeetsLaw, Transitions.call_program}
use Rattle.wait_class.specs.declared.stages.Turn.TheVariants as turn
use Rattle.wait_class.specs.Posts.{IsOut}
use Rattle.wait_leave.specs.declared.exits.Exit.{Exit}
use Rattle.wait_leave.specs.declared.exits.Until.TheVariants as until
use Rattle.page_lock.specs.{declared.waits.LockPage.LockPage, declared.waits.PageOutcome.PageOutcome}
use Rattle.page_lock.specs.declared.waits.PageStage.{PageStage}
use Rattle.page_lock.specs.PageLeaves.{EndsPageUntil, page_exit, page_exits, page_failed, page_until}
use Rattle.page_lock.specs.PageTables.{answer_to_page, page_table, page_point_at}
use Rattle.page_lock.specs.declared.waits.PageOutcome.TheVariants as outcome
use Rattle.page_lock.specs.declared.waits.PageStage.TheVariants as stage
use Rattle.left_sentences.specs.LeftWords.{IsLeftWord, holds_lock}
use Rattle.left_sentences.specs.PageWays.{LeftPagesFollow, PageFrom, at_once, by_finish, page_says, page_ways}
use Rattle.left_sentences.proofs.LeftWays.{AnyRun, IsRunOf, LeadsOut, Speech, before_law, gone_by, left_word, of_way}
use Rattle.left_sentences.proofs.LeftWays.{plain_follows}
use Rattle.left_sentences.proofs.RunsTo.{AtNext, Before, Leads}

-- the latest events at each point of such a wait
abbrev PageAt : ℕ → Point → List Event → Type 0
PageAt p (at.Page paging.First) trail = trail ≡ []
PageAt p (at.Page paging.Unflag) trail = trail ≡ event.Tas p 0 1 ∷ []
PageAt p (at.Page paging.Lock) trail = trail ≡ event.Unflag ∷ event.Tas p 0 1 ∷ []
PageAt p (at.Page q) trail = holds_lock trail ≡ holds (at.Page q)
PageAt p at.Worn trail = holds_lock trail ≡ false
PageAt p _ trail = ⊥

module _ (me p : ℕ) (st : SleepState) where
  abbrev At : Point → List Event → Type 0
  At = PageAt p

  abbrev call : Call
  call = calls.LockPage p st

  abbrev Led : List Event → Planned → Type 0
  Led trail u = AtNext At (u.event ∷ trail) u.next

  one_of : (b : Bool) (q s : PagePoint) (trail : List Event) → At (at.Page q) trail → At (at.Page s) trail
      → At (at.Page (if b then q else s)) trail
  one_of b q s trail l r = either (λ (j : PagePoint). At (at.Page j) trail) b q s l r

  -- its first try, by what it found
  first_led : (b : Bool) (trail : List Event) → trail ≡ []
      → Led trail (if b then go (event.Tas p 0 (flag b)) (at.Page paging.Unflag)
      else ends_with (event.Tas p 0 (flag b)) zero_answer)
  first_led true trail is = ap (λ (w : List Event). event.Tas p 0 1 ∷ w) is
  first_led false trail is = tt

  page_leads : Leads At (call_program me 0 call)
  page_leads (at.Page paging.First) seen trail h = first_led (bit_at seen.value 0) trail h
  page_leads (at.Page paging.Unflag) seen trail h = ap (λ (w : List Event). event.Unflag ∷ w) h
  page_leads (at.Page paging.Lock) seen trail h = refl
  page_leads (at.Page paging.Queue) seen trail h = either (Led trail) seen.worn _ _ refl h
  page_leads (at.Page paging.Try) seen trail h = one_of (call_fails call seen) (paging.Unlock false) paging.Off
      (event.Tas p 0 (flag (bit_at seen.value 0)) ∷ trail) h h
  page_leads (at.Page paging.Off) seen trail h = h
  page_leads (at.Page (paging.Unlock true)) seen trail h = tt
  page_leads (at.Page (paging.Unlock false)) seen trail h = refl
  page_leads (at.Page paging.State) seen trail h = h
  page_leads (at.Page paging.Flag) seen trail h = one_of seen.flag (paging.Finish finishing.State)
      (if looks_in st then paging.Look else paging.Sleep) (event.Flag seen.flag ∷ trail) h
      (one_of (looks_in st) paging.Look paging.Sleep (event.Flag seen.flag ∷ trail) h h)
  page_leads (at.Page paging.Look) seen trail h = one_of (pending (state_mask st) seen.own)
      (paging.Finish finishing.State) paging.Sleep (event.Look (pending (state_mask st) seen.own) ∷ trail) h h
  page_leads (at.Page paging.Sleep) seen trail h = h
  page_leads (at.Page (paging.Finish finishing.State)) seen trail h = h
  page_leads (at.Page (paging.Finish finishing.Look)) seen trail h = either (Led trail) (is_some seen.entry) _ _ h h
  page_leads (at.Page (paging.Finish finishing.Lock)) seen trail h = refl
  page_leads (at.Page (paging.Finish finishing.Queue)) seen trail h = either (Led trail) (is_some seen.entry) _ _ h refl
  page_leads (at.Page (paging.Finish finishing.Unlock)) seen trail h = refl
  page_leads (at.Page paging.Last) seen trail h = either (Led trail) seen.flag _ _ h tt
  page_leads (at.Page paging.Clear) seen trail h = tt
  page_leads at.Worn seen trail h = either (Led trail) (call_fails call seen) _ _ tt tt
  page_leads q seen trail h = absurd h

  -- the exits
  abbrev over_exit : Exit PageStage PageOutcome
  over_exit = record { to = turn.Done outcome.Interrupted; rests = false }

  abbrev finish_exit : Exit PageStage PageOutcome
  finish_exit = record { to = turn.Again stage.FinishState; rests = false }

  abbrev Out : PageStage → Exit PageStage PageOutcome → Type 0
  Out s e = LeadsOut page_table me call (page_ways me p) At s e

  over_out : (s : PageStage) → ((trail : List Event) → At (page_point_at s) trail → PageFrom p at_once trail)
      → Out s over_exit
  over_out s from = record { way = at_once; from = from; rest = λ w a h. h; start = tt }

  finish_out : (s : PageStage) → ((trail : List Event) → At (page_point_at s) trail → PageFrom p by_finish trail)
      → Out s finish_exit
  finish_out s from = record { way = by_finish; from = from; rest = λ w a h. h; start = refl }

  page_outs : (s : PageStage) (e : Exit PageStage PageOutcome) → page_exit s ≡ Some e → Out s e
  page_outs stage.Unflag e is = subst (Out stage.Unflag) (same_Some over_exit e is)
      (over_out stage.Unflag (λ trail h. inl h))
  page_outs stage.QueueLock e is = subst (Out stage.QueueLock) (same_Some over_exit e is)
      (over_out stage.QueueLock (λ trail h. inr h))
  page_outs stage.State e is = subst (Out stage.State) (same_Some finish_exit e is)
      (finish_out stage.State (λ trail h. h))
  page_outs stage.Flag e is = subst (Out stage.Flag) (same_Some finish_exit e is) (finish_out stage.Flag (λ trail h. h))
  page_outs stage.Look e is = subst (Out stage.Look) (same_Some finish_exit e is) (finish_out stage.Look (λ trail h. h))
  page_outs stage.Sleep e is = subst (Out stage.Sleep) (same_Some finish_exit e is)
      (finish_out stage.Sleep (λ trail h. h))
  page_outs s e is = absurd (cc)

  page_speech : Speech page_table page_exits me call (page_ways me p) At AnyRun
  page_speech = record {
    follows = plain_follows me call refl refl;
    fine = λ r q j ts s e tells is. tt;
    same = λ r. refl;
    leads = page_leads;
    outs = λ r s e is. page_outs s e is;
  }

-- one that was left has been asked, and ended as one that a signal ended
page_failed_asked : (b : Bool) (r : LockPage) (seen : ℕ) → until.Left seen ≡ page_failed b r → b ≡ true
page_failed_asked true r seen is = refl
page_failed_asked false r seen is = absurd (cc)

page_left_asked : (r : LockPage) (d : PageOutcome) (seen : ℕ) → until.Left seen ≡ page_until r d
    → (r.asked ≡ true) × (answer_to_page d ≡ minus_4)
page_left_asked r outcome.Interrupted seen is = (page_failed_asked r.asked r seen is, refl)
page_left_asked r d seen is = absurd (cc)

module _ {A : Type 0} (old new : Known) (p : ℕ) (st : SleepState) (seen : ℕ) (law : MeetsLaw new.view)
    (out : IsOut old) (e : EndsPageUntil A old new p st (until.Left seen)) where
  abbrev who : ℕ
  who = old.view.number

  page_fresh : call_program who 0 (calls.LockPage e.first.of.page e.first.of.state)
      ≡ call_program who 0 (calls.LockPage p st)
  page_fresh i = call_program who 0 (calls.LockPage (e.fresh.page i) (e.fresh.state i))

  page_is : IsRunOf page_table who (calls.LockPage p st) old e.first.of
  page_is = record { number = refl; program = page_fresh }

  page_before : Before law.table who new
  page_before = before_law new law who (of_way page_table page_exits who (calls.LockPage p st) (page_ways who p)
      (PageAt p) AnyRun (page_speech who p st) old e.first stage.First page_is new e.leaves.at
      (turn.Done e.leaves.outcome) e.leaves.came).number

  page_left : IsLeftWord who (calls.LockPage p st) (page_ways who p) (page_says old new p st (until.Left seen) e)
      minus_4
  page_left =
      let asked = page_left_asked e.leaves.at.of e.leaves.outcome seen e.leaves.answer in
      subst (λ (a : Answer). IsLeftWord who (calls.LockPage p st) (page_ways who p)
      (page_says old new p st (until.Left seen) e) a) asked.1
      (left_word page_table page_exits who (calls.LockPage p st) (page_ways who p) (PageAt p) AnyRun (page_speech who p
      st)
      law.table law.ruled.whole.interleaved old e.first stage.First page_is (λ _ _. out) (λ v a h. h) refl new
      e.leaves.at e.leaves.outcome e.leaves.came (gone_by page_table page_exits old e.first stage.First new e.leaves.at
      (turn.Done e.leaves.outcome) e.leaves.came asked.0 e.fresh.unasked) (λ r q ts tells. tt) page_before)

pub left_pages_follow : (A : Type 0) → LeftPagesFollow A
left_pages_follow A old new p st seen law out e = page_left old new p st seen law out e
