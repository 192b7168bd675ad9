-- What a task's latest events are at the places of a wait for a page.
use Rattle.std.proofs.lemmas.Bool.Decides.{eqb_tells}
use Rattle.std.proofs.Common.{refl, sym, ◌∙◌, ap, subst, arith, inl, inr}
use Rattle.std.proofs.lemmas.List.Elements.{All-nil, All-cons}
use Rattle.std.specs.Prelude.{ℕ, ◌≡◌, ◌+◌, ◌≤◌, ◌⊎◌, Bool, true, false, if◌then◌else◌, is_some, List, [], ◌∷◌, ◌++◌}
use Rattle.std.specs.List.{All}
use Rattle.wait_model.specs.{declared.layout.TheConstants.EVENTS, declared.watches.Watch.Watch}
use Rattle.wait_model.specs.{declared.calls.Call.Call, declared.calls.Event.Event, declared.calls.Ran.Ran}
use Rattle.wait_model.specs.{declared.queues.Form.Form, declared.points.Planned.Planned, declared.points.Point.Point}
use Rattle.wait_model.specs.{declared.points.PagePoint.PagePoint, declared.points.FinishPoint.FinishPoint}
use Rattle.wait_model.specs.{declared.points.Progress.Progress, Functions.put, Words.flag, Words.bit_at, Tables.Table}
use Rattle.wait_model.specs.{Tables.value_of, Programs.program_start, Accounts.Account, Accounts.account_of}
use Rattle.wait_model.specs.{Reached.IsSound, Reached.IsSoundCall}
use Rattle.wait_model.specs.Tasks.{pending, looks_in, state_mask, sleep_of}
use Rattle.wait_model.specs.Watches.{misses, word_of, bit_of, page}
use Rattle.wait_model.specs.Points.{call_watch, call_head, form_of, state_in, given_at}
use Rattle.wait_model.specs.Selections.{is_page_lock, is_finish_event, is_page_turn_event, page_hold, IsPageBroken}
use Rattle.wait_model.specs.Runs.{State, own, given_by, planned, progress_at, progress_after, happens, start_state}
use Rattle.wait_model.specs.Runs.{state_after, state_of, Continues, IsRunFrom, IsRun, made_in}
use Rattle.wait_model.specs.declared.calls.Call.TheVariants as calls
use Rattle.wait_model.specs.declared.calls.Event.TheVariants as event
use Rattle.wait_model.specs.declared.calls.Ran.TheVariants as ran
use Rattle.wait_model.specs.declared.queues.Form.TheVariants as forms
use Rattle.wait_model.specs.declared.points.Point.TheVariants as at
use Rattle.wait_model.specs.declared.points.PagePoint.TheVariants as paging
use Rattle.wait_model.specs.declared.points.FinishPoint.TheVariants as finishing
use Rattle.wait_model.specs.declared.points.Progress.TheVariants as now
use Rattle.wait_model.specs.Accounts as accounts
use Rattle.wait_model.proofs.Functions.{put_at, put_same, put_other}
use Rattle.wait_model.proofs.RunLaws.EveryRun.{IsMade, made_of, opened_sound, made_sound, start_sound}
use Rattle.wait_model.proofs.WaitLaws.Waiters.{IsAlert, IsTurn, turn_of, made_alert, opened_alert, start_alert}
use Rattle.wait_model.proofs.WaitLaws.WaitStages.{FitsStage}
use Rattle.wait_model.proofs.WaitLaws.PageTurns.{A, X, is_paging, ArePagesTold, flag_stays, paging_locks}
use Rattle.wait_model.proofs.WaitLaws.PageWaiters.{stays_away, next_told, opened_told, start_told}

-- the turns of such a wait until now, after the hold in which its entry was queued and the page found set
pub record IsPageTurned (call : Call) (trail : List Event) : Type 0 where
  pub turns : List Event
  pub earlier : List Event
  pub turn : trail ≡ turns ++ page_hold (call_head call) (word_of (call_watch call)) earlier
  pub is_turns : All (λ e. is_page_turn_event e ≡ true) turns

abbrev IsLeft : Call → List Event → Type 0
IsLeft call trail = IsPageBroken (call_head call) (word_of (call_watch call)) trail

abbrev pub IsPageTrail : Call → PagePoint → Bool → List Event → Type 0
IsPageTrail call paging.Queue set trail = (rest : List Event) × (trail ≡ event.Lock (call_head call) ∷ rest)
IsPageTrail call paging.Try set trail = (rest : List Event)
    × (trail ≡ event.Queue (call_head call) forms.Tail ∷ event.Lock (call_head call) ∷ rest)
IsPageTrail call (paging.Unlock false) set trail = (rest : List Event)
    × (trail ≡ event.Tas (word_of (call_watch call)) 0 1 ∷ event.Queue (call_head call) forms.Tail
    ∷ event.Lock (call_head call) ∷ rest)
IsPageTrail call paging.State set trail = IsPageTurned call trail
IsPageTrail call paging.Flag set trail = IsPageTurned call trail
IsPageTrail call paging.Look set trail = (l : List Event) × IsPageTurned call l × (trail ≡ event.Flag false ∷ l)
IsPageTrail call paging.Sleep set trail = IsPageTurned call trail
IsPageTrail call (paging.Finish p) set trail = (set ≡ true) ⊎ IsLeft call trail
IsPageTrail call paging.Last set trail = (set ≡ true) ⊎ IsLeft call trail
IsPageTrail call _ set trail = Unit {0}

abbrev pub PageTrailAt : Progress → Bool → List Event → Type 0
PageTrailAt (now.Open call (at.Page p)) set trail = IsPageTrail call p set trail
PageTrailAt _ set trail = Unit {0}

-- one more event of a turn, and one of a finish
more_turn : (call : Call) (e : Event) (trail : List Event) → is_page_turn_event e ≡ true → IsPageTurned call trail
    → IsPageTurned call (e ∷ trail)
more_turn call e trail t h = record {
  turns = e ∷ h.turns;
  earlier = h.earlier;
  turn = ap (λ (l : List Event). e ∷ l) h.turn;
  is_turns = All-cons (λ d. is_page_turn_event d ≡ true) e h.turns t h.is_turns;
}

more_finish : (call : Call) (e : Event) (trail : List Event) → is_finish_event e ≡ true → IsLeft call trail
    → IsLeft call (e ∷ trail)
more_finish call e trail f h = record {
  finish = e ∷ h.finish;
  turns = h.turns;
  earlier = h.earlier;
  turn = ap (λ (l : List Event). e ∷ l) h.turn;
  is_finish = All-cons (λ d. is_finish_event d ≡ true) e h.finish f h.is_finish;
  is_turns = h.is_turns;
}

left_by_signal : (call : Call) (l trail : List Event) → IsPageTurned call l → trail ≡ event.Flag false ∷ l
    → IsLeft call (event.Look true ∷ trail)
left_by_signal call l trail h is = record {
  finish = [];
  turns = h.turns;
  earlier = h.earlier;
  turn = ap (λ (k : List Event). event.Look true ∷ k) (is ∙ ap (λ (k : List Event). event.Flag false ∷ k) h.turn);
  is_finish = All-nil (λ d. is_finish_event d ≡ true);
  is_turns = h.is_turns;
}

tas_event : (c : Watch) (w v : ℕ) → c ≡ page w → misses c v ≡ true
    → event.Tas (word_of c) (bit_of c) (flag (bit_at v (bit_of c))) ≡ event.Tas (word_of c) 0 1
tas_event c w v is m = subst (λ (d : Watch). misses d v ≡ true
    → event.Tas (word_of d) (bit_of d) (flag (bit_at v (bit_of d))) ≡ event.Tas (word_of d) 0 1) (sym is)
    (λ h. rw h refl) m

at_tail : (call : Call) → is_page_lock call ≡ true → form_of call ≡ forms.Tail
at_tail (calls.LockPage w st) l = refl
at_tail call l = absurd (cc)

module _ (s : State) (me : ℕ) (call : Call) (runs : (s.table.task me).runnable ≡ true) (trail : List Event)
    (lock : is_page_lock call ≡ true) (fits : call_watch call ≡ page (word_of (call_watch call))) where
  abbrev set_after : PagePoint → Event → Bool
  set_after p e = (A s me (given_at call (at.Page p)) e).flag (own me)

  abbrev D : PagePoint → Planned → Type 0
  D p x = PageTrailAt (progress_at call x.next) (set_after p x.event) (x.event ∷ trail)

  d_if : (p : PagePoint) (b : Bool) (x y : Planned) → D p x → D p y → D p (if b then x else y)
  d_if p true x y h k = h
  d_if p false x y h k = k

  finish_on : (p : PagePoint) (e : Event) → is_finish_event e ≡ true → (e ≡ event.Unflag → ⊥)
      → (s.table.flag (own me) ≡ true) ⊎ IsLeft call trail → (set_after p e ≡ true) ⊎ IsLeft call (e ∷ trail)
  finish_on p e f o (inl h) = inl (flag_stays s me (given_at call (at.Page p)) e me (λ u. absurd (o u)) h)
  finish_on p e f o (inr h) = inr (more_finish call e trail f h)

  finish_step : (p : FinishPoint) → (s.table.flag (own me) ≡ true) ⊎ IsLeft call trail
      → D (paging.Finish p) (X s me call runs (paging.Finish p))
  finish_step finishing.State h = finish_on (paging.Finish finishing.State) _ refl (λ u. cc) h
  finish_step finishing.Look h = d_if (paging.Finish finishing.Look) (is_some (s.table.entry (own me))) _ _
      (finish_on (paging.Finish finishing.Look) _ refl (λ u. cc) h)
      (finish_on (paging.Finish finishing.Look) _ refl (λ u. cc) h)
  finish_step finishing.Lock h = finish_on (paging.Finish finishing.Lock) _ refl (λ u. cc) h
  finish_step finishing.Queue h = d_if (paging.Finish finishing.Queue) (is_some (s.table.entry (own me))) _ _
      (finish_on (paging.Finish finishing.Queue) _ refl (λ u. cc) h)
      (finish_on (paging.Finish finishing.Queue) _ refl (λ u. cc) h)
  finish_step finishing.Unlock h = finish_on (paging.Finish finishing.Unlock) _ refl (λ u. cc) h

  trail_step : (p : PagePoint) → IsPageTrail call p (s.table.flag (own me)) trail → D p (X s me call runs p)
  trail_step paging.First h = d_if paging.First (misses (call_watch call) (value_of s.table.words (call_watch call)))
      _ _ tt tt
  trail_step paging.Unflag h = tt
  trail_step paging.Lock h = (trail, refl)
  trail_step paging.Queue h = (
    h.0,
    ap (λ (f : Form). event.Queue (call_head call) f ∷ trail) (at_tail call lock)
        ∙ ap (λ (l : List Event). event.Queue (call_head call) forms.Tail ∷ l) h.1,
  )
  trail_step paging.Try h = by (misses (call_watch call) (value_of s.table.words (call_watch call))) refl
    where
      e : Event
      e = event.Tas (word_of (call_watch call)) (bit_of (call_watch call))
          (flag (bit_at (value_of s.table.words (call_watch call)) (bit_of (call_watch call))))

      by : (b : Bool) → misses (call_watch call) (value_of s.table.words (call_watch call)) ≡ b
          → PageTrailAt (now.Open call (at.Page (if b then paging.Unlock false else paging.Off)))
          (set_after paging.Try e) (e ∷ trail)
      by true m = (
        h.0,
        ap (λ (d : Event). d ∷ trail) (tas_event (call_watch call) (word_of (call_watch call))
            (value_of s.table.words (call_watch call)) fits m)
            ∙ ap (λ (l : List Event). event.Tas (word_of (call_watch call)) 0 1 ∷ l) h.1,
      )
      by false m = tt
  trail_step paging.Off h = tt
  trail_step (paging.Unlock true) h = tt
  trail_step (paging.Unlock false) h = record {
    turns = [];
    earlier = h.0;
    turn = ap (λ (l : List Event). event.Unlock (call_head call) false ∷ l) h.1;
    is_turns = All-nil (λ d. is_page_turn_event d ≡ true);
  }
  trail_step paging.State h = more_turn call _ trail refl h
  trail_step paging.Flag h = by (s.table.flag (own me)) refl (looks_in (state_in call))
    where
      by : (b : Bool) → s.table.flag (own me) ≡ b → (l : Bool)
          → PageTrailAt (now.Open call (at.Page (if b then paging.Finish finishing.State
          else if l then paging.Look else paging.Sleep))) (s.table.flag (own me)) (event.Flag b ∷ trail)
      by true q l = inl q
      by false q true = (trail, h, refl)
      by false q false = more_turn call (event.Flag false) trail refl h
  trail_step paging.Look h = by (pending (state_mask (state_in call)) (s.table.task me))
    where
      by : (b : Bool) → PageTrailAt (now.Open call (at.Page (if b then paging.Finish finishing.State
          else paging.Sleep))) (s.table.flag (own me)) (event.Look b ∷ trail)
      by true = inr (left_by_signal call h.0 trail h.1 h.2)
      by false = more_turn call (event.Look false) trail refl (subst (IsPageTurned call) (sym h.2)
          (more_turn call (event.Flag false) h.0 refl h.1))
  trail_step paging.Sleep h = more_turn call (event.Sleep (sleep_of (s.table.task me))) trail refl h
  trail_step (paging.Finish p) h = finish_step p h
  trail_step paging.Last h = d_if paging.Last (s.table.flag (own me)) _ _ tt tt
  trail_step paging.Clear h = tt

-- what a state and an account have in common
abbrev pub ArePageTrails : State → Account → Type 0
ArePageTrails s a = (t : ℕ) → PageTrailAt (s.progress t) (s.table.flag (own t)) (a.trail t)

away_trail : (q : Progress) (set : Bool) (l : List Event) → is_paging q ≡ false → PageTrailAt q set l
away_trail (now.Open call (at.Page p)) set l h = absurd (cc)
away_trail _ set l h = tt

start_trail : (call : Call) (set : Bool) (l : List Event) → PageTrailAt (now.Open call (program_start call)) set l
start_trail (calls.LockPage w st) set l = tt
start_trail call set l = tt

-- a flag that is set in between
set_later : (b d : Bool) (call : Call) (l : List Event) → (b ≡ true → d ≡ true) → (b ≡ true) ⊎ IsLeft call l
    → (d ≡ true) ⊎ IsLeft call l
set_later b d call l h (inl k) = inl (h k)
set_later b d call l h (inr k) = inr k

trail_later : (q : Progress) (b d : Bool) (l : List Event) → (b ≡ true → d ≡ true) → PageTrailAt q b l
    → PageTrailAt q d l
trail_later (now.Open call (at.Page (paging.Finish p))) b d l h k = set_later b d call l h k
trail_later (now.Open call (at.Page paging.Last)) b d l h k = set_later b d call l h k
trail_later (now.Open call (at.Page paging.First)) b d l h k = tt
trail_later (now.Open call (at.Page paging.Queue)) b d l h k = k
trail_later (now.Open call (at.Page paging.Try)) b d l h k = k
trail_later (now.Open call (at.Page (paging.Unlock false))) b d l h k = k
trail_later (now.Open call (at.Page (paging.Unlock true))) b d l h k = tt
trail_later (now.Open call (at.Page paging.State)) b d l h k = k
trail_later (now.Open call (at.Page paging.Flag)) b d l h k = k
trail_later (now.Open call (at.Page paging.Look)) b d l h k = k
trail_later (now.Open call (at.Page paging.Sleep)) b d l h k = k
trail_later (now.Open call (at.Page p)) b d l h k = tt
trail_later (now.Open call p) b d l h k = tt
trail_later now.Idle b d l h k = tt
trail_later now.Fresh b d l h k = tt

module _ (s : State) (n me : ℕ) (e : Event) (found : ℕ) (a : Account) (sound : IsSound s n)
    (sound2 : IsSound (happens s (ran.Made me e found)) (n + 1)) (al : IsAlert s) (pt : ArePagesTold s)
    (m : IsMade s n me (s.progress me) e) (turn : IsTurn s me (s.progress me) e) (h : ArePageTrails s a) where
  abbrev u : State
  u = happens s (ran.Made me e found)

  abbrev np : Progress
  np = progress_after s me (s.progress me)

  abbrev Own : Type 0
  Own = PageTrailAt np (u.table.flag (own me)) (e ∷ a.trail me)

  page_trail : (call : Call) (p : PagePoint) → s.progress me ≡ now.Open call (at.Page p)
      → e ≡ (planned s me call (at.Page p)).event → Own
  page_trail call p is c = subst (λ (q : Progress). PageTrailAt q (u.table.flag (own me)) (e ∷ a.trail me))
      (sym (ap (progress_after s me) is))
      (subst (λ (t : Table). PageTrailAt (progress_at call x.next) (t.flag (own me)) (e ∷ a.trail me))
      (sym (ap (λ (q : Progress). A s me (given_by q) e) is))
      (subst (λ (d : Event). PageTrailAt (progress_at call x.next)
      ((A s me (given_at call (at.Page p)) d).flag (own me)) (d ∷ a.trail me)) (sym c)
      (trail_step s me call m.runs (a.trail me) lock fits p
      (subst (λ (q : Progress). PageTrailAt q (s.table.flag (own me)) (a.trail me)) is (h me)))))
    where
      x : Planned
      x = planned s me call (at.Page p)

      fits : call_watch call ≡ page (word_of (call_watch call))
      fits = (subst (IsSoundCall n) is (sound.calls me)).fitted

      lock : is_page_lock call ≡ true
      lock = paging_locks call p (subst FitsStage is (al.fits me)) fits

  away_own : (call : Call) (p : Point) → s.progress me ≡ now.Open call p → is_paging (now.Open call p) ≡ false → Own
  away_own call p is away = away_trail np (u.table.flag (own me)) (e ∷ a.trail me)
      (subst (λ (q : Progress). is_paging q ≡ false) (sym (ap (progress_after s me) is))
      (stays_away s n me e found sound sound2 al pt m turn call p is away (planned s me call p).next
      (ap (progress_after s me) is)))

  own_trail : (q : Progress) → s.progress me ≡ q → Continues s me q e found → Own
  own_trail now.Fresh is c = absurd c
  own_trail now.Idle is c = absurd c
  own_trail (now.Open call (at.Page p)) is c = page_trail call p is c.0
  own_trail (now.Open call p) is c = away_own call p is refl

  pub made_trails : Continues s me (s.progress me) e found
      → ArePageTrails u (accounts.accounted s a (ran.Made me e found))
  made_trails c t = elim (eqb_tells t me) [
    | inl q ↦ subst (λ (i : ℕ). PageTrailAt (put s.progress me np i) (u.table.flag (own i))
        (put a.trail me (e ∷ a.trail me) i)) (sym q.1)
        (rw (put_same s.progress me np, put_same a.trail me (e ∷ a.trail me)) (own_trail (s.progress me) refl c))
    | inr q ↦ rw (put_other s.progress me np t q.1, put_other a.trail me (e ∷ a.trail me) t q.1)
        (trail_later (s.progress t) (s.table.flag (own t)) (u.table.flag (own t)) (a.trail t)
        (flag_stays s me (given_by (s.progress me)) e t (λ _. q.1)) (h t))
  ]

opened_trails : (s : State) (a : Account) (me : ℕ) (call : Call) → ArePageTrails s a
    → ArePageTrails (happens s (ran.Opened me call)) (accounts.accounted s a (ran.Opened me call))
opened_trails s a me call h t = put_at (λ q. PageTrailAt q (s.table.flag (own t)) (a.trail t)) s.progress me
    (now.Open call (program_start call)) t (λ _. start_trail call (s.table.flag (own t)) (a.trail t)) (λ _. h t)

trails_after : (s : State) (items : List Ran) (n : ℕ) (a : Account) → IsRunFrom s items → IsSound s n → IsAlert s
    → ArePagesTold s → ArePageTrails s a → n + made_in items ≤ EVENTS
    → ArePageTrails (state_after s items) (accounts.account_after s a items)
trails_after s [] n a r sound al pt h few = h
trails_after s (ran.Opened me call ∷ items) n a r sound al pt h few =
    trails_after (happens s (ran.Opened me call)) items n (accounts.accounted s a (ran.Opened me call)) r.1
    (opened_sound s n me call sound r.0) (opened_alert s me call al r.0) (opened_told s n me call sound al pt r.0)
    (opened_trails s a me call h) few
trails_after s (ran.Made me e found ∷ items) n a r sound al pt h few =
    let two : IsSound (happens s (ran.Made me e found)) (n + 1) =
    made_sound s n me e found sound (omega arith) r.0 in
    let m = made_of s n me e found sound r.0.0 (s.progress me) refl r.0.1 in
    let turn = turn_of s n me e found sound al (s.progress me) refl (sound.placed me) r.0.1 in
    trails_after (happens s (ran.Made me e found)) items (n + 1) (accounts.accounted s a (ran.Made me e found)) r.1 two
    (made_alert s n me e found sound al r.0) (next_told s n me e found sound two al pt m turn r.0.1)
    (made_trails s n me e found a sound two al pt m turn h r.0.1) (omega arith)

pub trails_of : (run : List Ran) → IsRun run → made_in run ≤ EVENTS → ArePageTrails (state_of run) (account_of run)
trails_of run r few = trails_after start_state run 0 accounts.nothing_done r start_sound start_alert start_told
    (λ t. tt) (omega (arith, few))
