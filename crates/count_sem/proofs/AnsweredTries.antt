-- What a `try_down` takes, by its answer.
use Rattle.std.proofs.Common.{refl, ◌∙◌, ap, subst, arith, eq-eqb, inl, inr}
use Rattle.std.specs.Prelude.{ℕ, suc, ◌≡◌, ◌+◌, ◌-◌, ◌==◌, ◌⊎◌, pos, Bool, true, false, if◌then◌else◌, List, [], ◌∷◌}
use Rattle.std.specs.Prelude.{◌++◌}
use Rattle.wait_model.specs.{declared.layout.TheConstants.ALL_DONE, declared.calls.Answer.Answer}
use Rattle.wait_model.specs.{declared.points.Given.Given, declared.points.Next.Next, declared.points.Planned.Planned}
use Rattle.wait_model.specs.{declared.points.Point.Point, declared.points.Seen.Seen, declared.steps.Step.Step}
use Rattle.wait_model.specs.{declared.watches.Watch.Watch, Counts.taken_done, Fold.view_of, Programs.done_in}
use Rattle.wait_model.specs.{Programs.is_at_end, Runs.own, Views.blank, Watches.number_of, Words.flag}
use Rattle.wait_model.specs.Permits.{Dealt, dealt, done_head, is_in, none_dealt}
use Rattle.wait_model.specs.declared.calls.Answer.TheVariants as answer
use Rattle.wait_model.specs.declared.calls.Event.TheVariants as event
use Rattle.wait_model.specs.declared.points.CountPoint.TheVariants as counting
use Rattle.wait_model.specs.declared.points.Next.TheVariants as next
use Rattle.wait_model.specs.declared.points.Point.TheVariants as at
use Rattle.wait_model.specs.declared.steps.Step.TheVariants as step
use Rattle.wait_model.specs.declared.watches.Watch.TheVariants as watch
use Rattle.wait_model.proofs.PermitLaws.OwnTurns.{deals_snoc}
use Rattle.wait_rule.specs.{declared.journal.Item.Item, Known.Known, LeftEntries.Order, Says.history_of}
use Rattle.wait_rule.specs.Transitions.{Finds, FindsStep, IsMadeFor, IsStepFor, Program, by_look, by_step}
use Rattle.wait_rule.proofs.KnownLaws.HandedSteps.{OrderStep, away_next, order_front}
use Rattle.wait_rule.proofs.SaidEvents.Fronts.{history_grows, number_stays}
use Rattle.wait_class.specs.Tables.{plan_program}
use Rattle.completion_cell.specs.Asks.{hit_answer}
use Rattle.count_sem.specs.SemAnswers.{CountsMore, TriesAreCounted}
use Rattle.count_sem.specs.SemPermits.{IsRaise, IsSemStep, permits_given, permits_taken, takes_permit}
use Rattle.count_sem.specs.SemPrograms.{sem_head, try_down_plan}
use Rattle.count_sem.proofs.AnswerRuns.{LooksHold, PointsHold, run_holds}
use Rattle.count_sem.proofs.AnsweredUps.{Has, Stands, has_still, has_take, load_quiet, locked, look_stands, quietly}
use Rattle.count_sem.proofs.AnsweredUps.{unleft_look, unlock_quiet}
use Rattle.count_sem.proofs.LoadedEnds.{HasLoadedEnd, found_end, loaded_on}
use Rattle.count_sem.proofs.SemCalls.{low_of, some_of, taken_less}
use Rattle.count_sem.proofs.SemPoints.{FoundLow, IsIn, found_low, in_on, loads_it, lock_in, low_on, lowers_one}
use Rattle.count_sem.proofs.SemPoints.{saw_keeps}

-- the points of a `try_down` of a task that has given g permits, and taken t, before
abbrev took_in : ℕ → Answer → ℕ
took_in t (answer.Number (pos (suc n))) = t + 1
took_in t a = t

module _ (c me g t : ℕ) where
  abbrev pub TryHolds : Point → List Step → Type 0
  TryHolds (at.Count counting.Lock) es = ((dealt c me es).left ≡ false) × Has c me es g t
  TryHolds (at.Count counting.Load) es = Stands c me g t es g × IsIn c es
  TryHolds (at.Count counting.Store) es = Stands c me g t es g × FoundLow c es
  TryHolds (at.Count (counting.Unlock true)) es = Stands c me g (t + 1) es g ⊎ HasLoadedEnd c es
  TryHolds (at.Count (counting.Unlock false)) es = Stands c me g t es g
  TryHolds p es = ⊥

  abbrev pub TryPlace : Next → List Step → Type 0
  TryPlace (next.Go p) es = TryHolds p es
  TryPlace (next.Ends a) es = Stands c me g (took_in t a) es g ⊎ HasLoadedEnd c es

  abbrev trier : Program
  trier = plan_program me 0 (try_down_plan c)

  either_on : (n : ℕ) (es : List Step) (e : Step) → (Stands c me g n es g → Stands c me g n (es ++ e ∷ []) g)
      → Stands c me g n es g ⊎ HasLoadedEnd c es → Stands c me g n (es ++ e ∷ []) g ⊎ HasLoadedEnd c (es ++ e ∷ [])
  either_on n es e on (inl s) = inl (on s)
  either_on n es e on (inr l) = inr (loaded_on c es e l)

  try_looks : LooksHold me trier TryPlace
  try_looks (next.Go (at.Count counting.Lock)) es y w o q = (
    ap (λ (u : Dealt). u.left) (deals_snoc c (own me) blank none_dealt es (step.Saw y w)) ∙ q.0,
    has_still c me es (step.Saw y w) g t q.1 refl
        (unleft_look (is_in c (view_of es)) (y == own me) (dealt c me es).left _ q.0),
  )
  try_looks (next.Go (at.Count counting.Load)) es y w o q =
      (look_stands c me g t es y w g o q.0, in_on c es (step.Saw y w) refl q.1)
  try_looks (next.Go (at.Count counting.Store)) es y w o q =
      (look_stands c me g t es y w g o q.0, low_on c es (step.Saw y w) (saw_keeps me c es y w o) q.1)
  try_looks (next.Go (at.Count (counting.Unlock true))) es y w o q =
      either_on (t + 1) es (step.Saw y w) (look_stands c me g (t + 1) es y w g o) q
  try_looks (next.Go (at.Count (counting.Unlock false))) es y w o q = look_stands c me g t es y w g o q
  try_looks (next.Go p) es y w o q = absurd q
  try_looks (next.Ends a) es y w o q =
      either_on (took_in t a) es (step.Saw y w) (look_stands c me g (took_in t a) es y w g o) q

  module _ (seen : Seen) (k : Known) where
    abbrev here : List Step
    here = history_of k

    abbrev Makes : Point → Planned → Type 0
    Makes p x = ((xs : List Item) → IsMadeFor k trier.own (trier.given p) x.event (by_look xs) → ⊥)
        × ((e : Step) → OrderStep me here e → IsStepFor k trier.own (trier.given p) x.event e
        → Finds k trier p (by_step e) seen → TryPlace x.next (here ++ e ∷ []))

    abbrev given_here : Given
    given_here = trier.given (at.Count counting.Load)

    some_or : (z b : Bool) → (seen.value == 0) ≡ z → is_at_end seen.value ≡ b → (e : Step) → OrderStep me here e
        → IsStepFor k trier.own given_here (event.Load (number_of (watch.Done c)) seen.value) e → FindsStep e seen
        → Stands c me g t here g → IsIn c here
        → TryHolds (at.Count (if z then counting.Unlock false else if b then counting.Unlock true else counting.Store))
        (here ++ e ∷ [])
    some_or true b empty is e o made finds s held = quietly c me g t here e o
        (load_quiet k trier.own given_here (number_of (watch.Done c)) seen.value e made) g s
    some_or false true empty is e o made finds s held = inr (found_end c k trier.own given_here refl seen e is made
        finds)
    some_or false false empty is e o made finds s held = (
      quietly c me g t here e o (load_quiet k trier.own given_here (number_of (watch.Done c)) seen.value e made) g s,
      found_low c here e seen.value
          (loads_it c here k trier.own given_here (number_of (watch.Done c)) seen.value seen.value e seen refl refl made
          finds) held (some_of seen.value empty) (low_of seen.value is),
    )

    lock_tries : (h : ℕ) → h ≡ done_head c → ((dealt c me here).left ≡ false) × Has c me here g t → (e : Step)
        → OrderStep me here e → IsStepFor k trier.own (trier.given (at.Count counting.Lock)) (event.Lock h) e
        → Stands c me g t (here ++ e ∷ []) g × IsIn c (here ++ e ∷ [])
    lock_tries h at_head q (step.Lock i aim w) o made = (
      locked c me g t here i w aim q.0 q.1,
      lock_in c here k trier.own (trier.given (at.Count counting.Lock)) h (step.Lock i aim w) at_head made,
    )
    lock_tries h at_head q e o made = absurd made

    -- the count is lowered
    not_more : (v n r : ℕ) → n ≡ taken_done (done_in v) → v ≡ r → n ≡ r + 1 → ⊥
    not_more v n r is same more = by (done_in v == ALL_DONE) refl
      where
        by : (b : Bool) → (done_in v == ALL_DONE) ≡ b → ⊥
        by true q =
            let z : taken_done (done_in v) ≡ done_in v =
            ap (λ (b : Bool). if b then done_in v else done_in v - 1) q in
            omega (arith, z, is, same, more)
        by false q =
            let z : taken_done (done_in v) ≡ done_in v - 1 =
            ap (λ (b : Bool). if b then done_in v else done_in v - 1) q in
            omega (arith, z, is, same, more)

    store_tries : Stands c me g t here g → FoundLow c here → (e : Step) → OrderStep me here e
        → IsStepFor k trier.own (trier.given (at.Count counting.Store))
        (event.Set (number_of (watch.Done c)) (taken_done (done_in seen.value))) e → FindsStep e seen
        → Stands c me g (t + 1) (here ++ e ∷ []) g
    store_tries s q (step.Publish l n r) o made finds =
        let low = lowers_one c me c k trier.own (trier.given (at.Count counting.Store)) refl q.found.count q.found.known
        q.found.some q.low (number_of (watch.Done c)) (taken_done (done_in seen.value)) (step.Publish l n r) seen
        (taken_less c me c seen.value) o made finds in
        let raise : IsRaise c (view_of here) n r =
        subst (λ (w : Watch). IsSemStep c (view_of here) (step.Publish w n r))
        made.0 low (eq-eqb c c refl) in
        absurd (not_more seen.value n r made.1 finds raise.one)
    store_tries s q (step.Consume l n r) o made finds = record {
      away = away_next c me here (step.Consume l n r) o tt s.away;
      has = has_take c me here (step.Consume l n r) g t s.has refl
          (ap (λ (w : Watch). takes_permit c (own me) (view_of here) (dealt c me here) (step.Consume w n r)) made.0
          ∙ eq-eqb c c refl);
    }
    store_tries s q e o made finds = absurd made

    last_tries : (hit : Bool) (n : ℕ) → Stands c me g n here g → (e : Step) → OrderStep me here e
        → IsStepFor k trier.own (trier.given (at.Count (counting.Unlock hit))) (event.Unlock (sem_head c) false) e
        → Stands c me g n (here ++ e ∷ []) g
    last_tries hit n s e o made = quietly c me g n here e o
        (unlock_quiet k trier.own (trier.given (at.Count (counting.Unlock hit))) (sem_head c) false e made) g s

    makes : (p : Point) → TryHolds p here → Makes p (trier.plan p seen)
    makes (at.Count counting.Lock) q =
        (λ xs made. absurd made, λ e o made finds. lock_tries (done_head c) refl q e o made)
    makes (at.Count counting.Load) q = (
      λ xs made. absurd made,
      λ e o made finds. some_or (seen.value == 0) (is_at_end seen.value) refl refl e o made finds.0 q.0 q.1,
    )
    makes (at.Count counting.Store) q =
        (λ xs made. absurd made, λ e o made finds. inl (store_tries q.0 q.1 e o made finds.0))
    makes (at.Count (counting.Unlock true)) q = (
      λ xs made. absurd made,
      λ e o made finds. either_on (t + 1) here e (λ s. last_tries true (t + 1) s e o made) q,
    )
    makes (at.Count (counting.Unlock false)) q =
        (λ xs made. absurd made, λ e o made finds. inl (last_tries false t q e o made))
    makes p q = absurd q

  try_points : PointsHold me trier TryPlace
  try_points p seen k q =
      let m = makes seen k p q in record { looks = m.0; steps = m.1 }

pub tries_counted : TriesAreCounted
tries_counted old new c hit o left never tried =
    let me = old.view.number in
    let f = plan_program me 0 (try_down_plan c) in
    let runs = tried.runs in
    let from = next.Go (at.Count counting.Lock) in
    let number = number_stays f old new from (next.Ends (hit_answer hit)) runs.transitions runs.goes in
    let grows = history_grows f old new from (next.Ends (hit_answer hit)) runs.transitions runs.goes in
    let order : Order me (history_of new) = subst (λ (n : ℕ). Order n (history_of new)) number o in
    let before : Order me (history_of old) = order_front me (history_of old) grows.0 (subst (Order me) grows.1 order) in
    let g = permits_given c me (history_of old) in
    let t = permits_taken c me (history_of old) in
    by hit (run_holds me f (TryPlace c me g t) (try_looks c me g t) (try_points c me g t) runs.transitions from
    (next.Ends (hit_answer hit)) old new runs.goes order (left before, record { gave = refl; took = refl }))
  where
    by : (b : Bool) → TryPlace c old.view.number (permits_given c old.view.number (history_of old))
        (permits_taken c old.view.number (history_of old)) (next.Ends (hit_answer b)) (history_of new)
        → CountsMore old new c 0 (flag b)
    by b (inr l) = absurd (l.many (never l.count l.front l.rest l.is))
    by true (inl s) = record { gave = let one = s.has.gave in omega (arith, one); took = s.has.took }
    by false (inl s) = record {
      gave = let one = s.has.gave in omega (arith, one);
      took = let two = s.has.took in omega (arith, two);
    }
