-- A wait for a page that answers for a signal ends with a turn that a signal ended.
use Rattle.std.proofs.Common.{refl, sym, ◌∙◌, ap, subst, inl, inr}
use Rattle.std.proofs.lemmas.List.Elements.{All-cons, All-nil}
use Rattle.std.specs.List.{All}
use Rattle.std.specs.Prelude.{ℕ, ◌≡◌, ◌⊎◌, Bool, true, false, if◌then◌else◌, is_some, List, [], ◌∷◌, ◌++◌}
use Rattle.wait_model.specs.{declared.calls.Call.Call, declared.calls.Event.Event}
use Rattle.wait_model.specs.{declared.points.FinishPoint.FinishPoint, declared.points.Next.Next}
use Rattle.wait_model.specs.{declared.points.PagePoint.PagePoint, declared.points.Planned.Planned}
use Rattle.wait_model.specs.{declared.points.Point.Point, declared.points.Seen.Seen, declared.steps.Step.Step}
use Rattle.wait_model.specs.{declared.tasks.SleepState.SleepState, Watches.head_of, Watches.page, Words.bit_at}
use Rattle.wait_model.specs.Words.{flag}
use Rattle.wait_model.specs.Programs.{call_fails, exchange, interrupted, page_last, program}
use Rattle.wait_model.specs.Selections.{is_finish_event, is_page_turn_event, page_hold, IsPageBroken}
use Rattle.wait_model.specs.Tasks.{looks_in, pending, sleep_of, state_mask}
use Rattle.wait_model.specs.declared.calls.Call.TheVariants as calls
use Rattle.wait_model.specs.declared.calls.Event.TheVariants as event
use Rattle.wait_model.specs.declared.points.FinishPoint.TheVariants as finishing
use Rattle.wait_model.specs.declared.points.Next.TheVariants as next
use Rattle.wait_model.specs.declared.points.PagePoint.TheVariants as paging
use Rattle.wait_model.specs.declared.points.Point.TheVariants as at
use Rattle.wait_model.specs.declared.queues.Form.TheVariants as forms
use Rattle.wait_model.specs.declared.steps.Step.TheVariants as step
use Rattle.wait_model.proofs.WaitLaws.OutsideStages.{either}
use Rattle.wait_rule.specs.{Heeding.trail_of, Known.Known, SaidEvents.said}
use Rattle.wait_rule.specs.Transitions.{Goes, Program, Transition, after_transition, call_program}
use Rattle.bit_wait.proofs.Heeding.{worn_not, zero_not}
use Rattle.wait_class.specs.Posts.{own_of as own_in}
use Rattle.page_lock.specs.PageEnds.{WasPageInterrupted, are_calm}
use Rattle.page_lock.specs.PageWords.{EndsPageGivenUp, PageLocksHeed}
use Rattle.page_lock.proofs.LookedSteps.{calm_later, has_looked, looked_after, looked_append, looked_in, looked_on, looked_still, told_by}

module _ (me w : ℕ) (st : SleepState) where
  abbrev call : Call
  call = calls.LockPage w st

  abbrev head : ℕ
  head = head_of (page w)

  -- the turns of such a wait until now, after the hold in which its entry was queued and the page found set
  record IsTurned (trail : List Event) : Type 0 where
    pub turns : List Event
    pub earlier : List Event
    pub turn : trail ≡ turns ++ page_hold head w earlier
    pub is_turns : All (λ e. is_page_turn_event e ≡ true) turns

  abbrev IsBroken : List Event → Type 0
  IsBroken trail = IsPageBroken head w trail

  more_turn : (e : Event) (trail : List Event) → is_page_turn_event e ≡ true → IsTurned trail → IsTurned (e ∷ trail)
  more_turn e trail t h = record {
    turns = e ∷ h.turns;
    earlier = h.earlier;
    turn = ap (λ (l : List Event). e ∷ l) h.turn;
    is_turns = All-cons (λ d. is_page_turn_event d ≡ true) e h.turns t h.is_turns;
  }

  more_finish : (e : Event) (trail : List Event) → is_finish_event e ≡ true → IsBroken trail → IsBroken (e ∷ trail)
  more_finish e trail f h = record {
    finish = e ∷ h.finish;
    turns = h.turns;
    earlier = h.earlier;
    turn = ap (λ (l : List Event). e ∷ l) h.turn;
    is_finish = All-cons (λ d. is_finish_event d ≡ true) e h.finish f h.is_finish;
    is_turns = h.is_turns;
  }

  left_by_signal : (l trail : List Event) → IsTurned l → trail ≡ event.Flag false ∷ l
      → IsBroken (event.Look true ∷ trail)
  left_by_signal l trail h is = record {
    finish = [];
    turns = h.turns;
    earlier = h.earlier;
    turn = ap (λ (k : List Event). event.Look true ∷ k) (is ∙ ap (λ (k : List Event). event.Flag false ∷ k) h.turn);
    is_finish = All-nil (λ d. is_finish_event d ≡ true);
    is_turns = h.is_turns;
  }

  -- what the latest events are at its points, of a task that has looked or not
  abbrev PageAt : PagePoint → Bool → List Event → Type 0
  PageAt paging.Queue u trail = (rest : List Event) × (trail ≡ event.Lock head ∷ rest)
  PageAt paging.Try u trail = (rest : List Event) × (trail ≡ event.Queue head forms.Tail ∷ event.Lock head ∷ rest)
      × (u ≡ false)
  PageAt (paging.Unlock false) u trail = (rest : List Event)
      × (trail ≡ event.Tas w 0 1 ∷ event.Queue head forms.Tail ∷ event.Lock head ∷ rest) × (u ≡ false)
  PageAt paging.State u trail = IsTurned trail × (u ≡ false)
  PageAt paging.Flag u trail = IsTurned trail × (u ≡ false)
  PageAt paging.Look u trail = (l : List Event) × IsTurned l × (trail ≡ event.Flag false ∷ l)
  PageAt paging.Sleep u trail = IsTurned trail
  PageAt (paging.Finish p) u trail = (u ≡ false) ⊎ IsBroken trail
  PageAt paging.Last u trail = (u ≡ false) ⊎ IsBroken trail
  PageAt _ u trail = Unit {0}

  abbrev At : Point → Bool → List Event → Type 0
  At (at.Page p) u trail = PageAt p u trail
  At at.Worn u trail = Unit {0}
  At _ u trail = ⊥

  abbrev Over : Bool → List Event → Type 0
  Over u trail = (u ≡ false) ⊎ EndsPageGivenUp w trail

  abbrev LedTo : Bool → List Event → Next → Type 0
  LedTo u trail (next.Go q) = At q u trail
  LedTo u trail (next.Ends a) = a ≡ interrupted → Over u trail

  module _ (u : Bool) (trail : List Event) where
    abbrev Led : Planned → Type 0
    Led x = LedTo (told_by x.event u) (x.event ∷ trail) x.next

    finish_on : (e : Event) → is_finish_event e ≡ true → told_by e u ≡ u → (u ≡ false) ⊎ IsBroken trail
        → (told_by e u ≡ false) ⊎ IsBroken (e ∷ trail)
    finish_on e f same (inl h) = inl (same ∙ h)
    finish_on e f same (inr h) = inr (more_finish e trail f h)

    finish_led : (p : FinishPoint) (seen : Seen) → (u ≡ false) ⊎ IsBroken trail
        → Led (program me call (at.Page (paging.Finish p)) seen)
    finish_led finishing.State seen h = finish_on (event.State 0) refl refl h
    finish_led finishing.Look seen h = either Led (is_some seen.entry) _ _ (finish_on (event.Queued true) refl refl h)
        (finish_on (event.Queued false) refl refl h)
    finish_led finishing.Lock seen h = finish_on (event.Lock head) refl refl h
    finish_led finishing.Queue seen h = either Led (is_some seen.entry) _ _ (finish_on (event.Unqueue me) refl refl h)
        (finish_on (event.Unlock head false) refl refl h)
    finish_led finishing.Unlock seen h = finish_on (event.Unlock head false) refl refl h

    try_led : (seen : Seen) (set : Bool) → bit_at seen.value 0 ≡ set → PageAt paging.Try u trail
        → PageAt (if set then paging.Unlock false else paging.Off) u (exchange call seen ∷ trail)
    try_led seen true is h = (
      h.0,
      ap (λ (s : Bool). event.Tas w 0 (flag s) ∷ trail) is ∙ ap (λ (l : List Event). event.Tas w 0 1 ∷ l) h.1,
      h.2,
    )
    try_led seen false is h = tt

    flag_led : (hit looks : Bool) → IsTurned trail × (u ≡ false)
        → PageAt (if hit then paging.Finish finishing.State else if looks then paging.Look else paging.Sleep) u
        (event.Flag hit ∷ trail)
    flag_led true looks h = inl h.1
    flag_led false true h = (trail, h.0, refl)
    flag_led false false h = more_turn (event.Flag false) trail refl h.0

    look_led : (hit : Bool) → PageAt paging.Look u trail
        → PageAt (if hit then paging.Finish finishing.State else paging.Sleep) true (event.Look hit ∷ trail)
    look_led true h = inr (left_by_signal h.0 trail h.1 h.2)
    look_led false h = more_turn (event.Look false) trail refl (subst IsTurned (sym h.2)
        (more_turn (event.Flag false) h.0 refl h.1))

    last_led : (hit : Bool) → (u ≡ false) ⊎ IsBroken trail → Led (page_last hit)
    last_led true h = tt
    last_led false (inl h) = λ z. inl h
    last_led false (inr h) = λ z. inr (record { earlier = trail; last = refl; turn = h })

    page_led : (p : PagePoint) (seen : Seen) → PageAt p u trail → Led (program me call (at.Page p) seen)
    page_led paging.First seen h = either Led (call_fails call seen) _ _ tt (λ z. zero_not z)
    page_led paging.Unflag seen h = tt
    page_led paging.Lock seen h = (trail, refl)
    page_led paging.Queue seen h = either Led seen.worn _ _ tt
        (h.0, ap (λ (l : List Event). event.Queue head forms.Tail ∷ l) h.1, refl)
    page_led paging.Try seen h = try_led seen (call_fails call seen) refl h
    page_led paging.Off seen h = tt
    page_led (paging.Unlock true) seen h = λ z. zero_not z
    page_led (paging.Unlock false) seen h = (
      record {
        turns = [];
        earlier = h.0;
        turn = ap (λ (l : List Event). event.Unlock head false ∷ l) h.1;
        is_turns = All-nil (λ d. is_page_turn_event d ≡ true);
      },
      h.2,
    )
    page_led paging.State seen h = (more_turn (event.State (state_mask st)) trail refl h.0, h.1)
    page_led paging.Flag seen h = flag_led seen.flag (looks_in st) h
    page_led paging.Look seen h = look_led (pending (state_mask st) seen.own) h
    page_led paging.Sleep seen h = (more_turn (event.Sleep (sleep_of seen.own)) trail refl h, refl)
    page_led (paging.Finish p) seen h = finish_led p seen h
    page_led paging.Last seen h = last_led seen.flag h
    page_led paging.Clear seen h = λ z. zero_not z

    leads : (p : Point) (seen : Seen) → At p u trail → Led (program me call p seen)
    leads (at.Page p) seen h = page_led p seen h
    leads at.Worn seen h = either Led (call_fails call seen) _ _ (λ z. worn_not z) (λ z. zero_not z)
    leads p seen h = absurd h

  -- whole runs
  abbrev f : Program
  f = call_program me 0 call

  tail : (ts : List Transition) (j new : Known) (trail : List Event)
      → ((q : Point) → Goes f j (next.Go q) ts new (next.Ends interrupted) → At q (has_looked j) trail
      → Over (has_looked new) (trail_of trail (said f (next.Go q) ts)))
      → (n : Next) → Goes f j n ts new (next.Ends interrupted) → LedTo (has_looked j) trail n
      → Over (has_looked new) (trail_of trail (said f n ts))
  tail ts j new trail rec (next.Go q) g led = rec q g led
  tail [] j new trail rec (next.Ends b) g led = subst (λ (u : Bool). Over u trail) (sym (looked_on j new g.0))
      (led (let z : next.Ends interrupted ≡ next.Ends b = g.1 in let y : b ≡ interrupted = cc in y))
  tail (t ∷ ts) j new trail rec (next.Ends b) g led = absurd g

  run_led : (ts : List Transition) (p : Point) (old new : Known) (trail : List Event) → At p (has_looked old) trail
      → Goes f old (next.Go p) ts new (next.Ends interrupted)
      → Over (has_looked new) (trail_of trail (said f (next.Go p) ts))
  run_led [] p old new trail h g = absurd (let z : next.Ends interrupted ≡ next.Go p = g.1 in cc)
  run_led (t ∷ ts) p old new trail h g =
      let x : Planned = f.plan p t.seen in
      tail ts (after_transition t) new (x.event ∷ trail)
      (λ q on led. run_led ts q (after_transition t) new (x.event ∷ trail) led on) x.next g.1
      (subst (λ (u : Bool). LedTo u (x.event ∷ trail) x.next)
      (sym (looked_after t.knew f.own (f.given p) x.event t.did g.0.is
      ∙ ap (told_by x.event) (looked_on old t.knew g.0.looks)))
      (leads (has_looked old) trail p t.seen h))

-- a wait that was interrupted has looked since
interrupted_looked : (k : Known) (p : ℕ) (st : SleepState) (seen : ℕ) → WasPageInterrupted k p st seen
    → has_looked k ≡ true
interrupted_looked k p st seen i =
    let calm : are_calm (step.Look i.look ∷ i.later) ≡ true = calm_later i.front (step.Look i.look) i.later
    (subst (λ (es : List Step). are_calm es ≡ true) i.looked i.calm) in
    let start : Bool = looked_in false i.before in
    let between : List Step = step.Queue (own_in k) i.entry ∷ step.Consume (page p) 1 seen ∷ i.front in
    ap (looked_in false) (i.tried ∙ ap (λ (es : List Step). i.before ++ (step.Queue (own_in k) i.entry
    ∷ step.Consume (page p) 1 seen ∷ es)) i.looked)
    ∙ (looked_append false i.before (between ++ (step.Look i.look ∷ i.later))
    ∙ (looked_append start between (step.Look i.look ∷ i.later)
    ∙ looked_still i.later i.awake calm))

pub page_locks_heed : PageLocksHeed
page_locks_heed old new w st seen e =
    let me : ℕ = old.view.number in
    elim (run_led me w st e.runs.transitions (at.Page paging.First) old new [] tt e.runs.goes) [
      | inl unlooked ↦ absurd (let z : true ≡ false = sym (interrupted_looked new w st seen e.cause) ∙ unlooked in cc)
      | inr ended ↦ ended
    ]
