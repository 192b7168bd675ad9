-- What a `down` takes that its task may leave, by its answer.
use Rattle.std.proofs.Common.{refl, sym, ◌∙◌, ap, subst, inl, inr}
use Rattle.std.specs.Prelude.{ℕ, ◌≡◌, Bool, true, false, Some, Result, Ok, Err, List, [], ◌∷◌, ◌++◌}
use Rattle.wait_model.specs.{declared.calls.Answer.Answer, declared.steps.Step.Step, Fold.view_of, Permits.dealt}
use Rattle.wait_model.specs.{Programs.signalled, Programs.zero_answer, Runs.own}
use Rattle.wait_model.specs.declared.calls.Answer.TheVariants as answer
use Rattle.wait_model.specs.declared.points.AwaitPoint.TheVariants as awaiting
use Rattle.wait_model.specs.declared.points.Next.TheVariants as next
use Rattle.wait_model.specs.declared.points.Point.TheVariants as at
use Rattle.wait_model.specs.declared.steps.Step.TheVariants as step
use Rattle.wait_rule.specs.{Known.Known, Says.history_of}
use Rattle.wait_rule.specs.LeftEntries.{LeftOff, Order, OrderOf}
use Rattle.wait_rule.proofs.{KnownLaws.HandedSteps.order_front, KnownLaws.TaskHistories.history_after}
use Rattle.wait_class.specs.{declared.stages.Run.Run, declared.stages.Turn.Turn, Posts.Runs, Tables.Advances}
use Rattle.wait_class.specs.{Tables.next_in, Wholes.HasRested}
use Rattle.wait_class.specs.declared.stages.Turn.TheVariants as turn
use Rattle.wait_leave.specs.{declared.exits.Exit.Exit, declared.exits.Until.Until, Leaves.GoesOut, Leaves.asked_run}
use Rattle.wait_leave.specs.OnTheWay.{OnTheWay, left_at, straight}
use Rattle.count_sem.specs.{declared.down_calls.SemEnd.SemEnd, declared.downs.DownCall.DownCall}
use Rattle.count_sem.specs.{declared.downs.DownOutcome.DownOutcome, declared.downs.DownStage.DownStage}
use Rattle.count_sem.specs.{DownEnds.down_end_in, Downs.down_table, SemAnswers.LeftDownsAreCounted}
use Rattle.count_sem.specs.SemAnswers.{UntilCounts}
use Rattle.count_sem.specs.DownLeaves.{ClosesDown, LeavesDown, down_exit, down_exits, end_until, stopped_until}
use Rattle.count_sem.specs.SemPermits.{FindsNoEnd, permits_given, permits_taken}
use Rattle.count_sem.specs.SemPrograms.{down_program, joined, pass_point}
use Rattle.count_sem.specs.declared.down_calls.SemEnd.TheVariants as sem_end
use Rattle.count_sem.specs.declared.downs.DownOutcome.TheVariants as outcome
use Rattle.count_sem.specs.declared.downs.DownStage.TheVariants as stage
use Rattle.count_sem.proofs.{AnsweredUps.has_still, DownEndings.part_runs, DownPermits.DownPlace, LoadedEnds.loaded_on}
use Rattle.count_sem.proofs.AnsweredDowns.{counts_by, order_before, run_counts}
use Rattle.count_sem.proofs.DownHolds.{IsCalm, asleep_on, stores_calm}

abbrev DownExit : Type 0
DownExit = Exit DownStage DownOutcome

abbrev DownTurn : Type 0
DownTurn = Turn DownStage DownOutcome

-- what comes behind its end
abbrev closed : DownOutcome → Answer
closed outcome.Over = zero_answer
closed outcome.Passing = zero_answer
closed outcome.Interrupted = signalled
closed outcome.Worn = answer.Worn

module _ (c me g t : ℕ) where
  -- where a stage and a turn stand in the program
  abbrev At : DownTurn → Known → Type 0
  At u k = DownPlace c me g t (joined (next_in down_table u)) (history_of k)

  -- it is still the same call of the same task
  abbrev IsSame : Known → Run DownCall → Type 0
  IsSame k r = (k.view.number ≡ me) × (r.of.cell ≡ c)

  module _ (old new : Known) (r q : Run DownCall) (s : DownStage) (u : DownTurn) (same : IsSame old r)
      (a : Advances down_table old new r q s u) where
    same_runs : Runs (down_program me c r.of.state) old new (next.Go (down_table.point_of s))
        (joined (next_in down_table u))
    same_runs = subst (λ (n : ℕ). Runs (down_program n c r.of.state) old new (next.Go (down_table.point_of s))
        (joined (next_in down_table u))) same.0
        (subst (λ (d : ℕ). Runs (down_program old.view.number d r.of.state) old new (next.Go (down_table.point_of s))
        (joined (next_in down_table u))) same.1 (part_runs old new r q s u a))

    part_order : Order me (history_of new) → Order me (history_of old)
    part_order order = order_before me (down_program me c r.of.state) old new (next.Go (down_table.point_of s))
        (joined (next_in down_table u)) same_runs order

    part_same : IsSame new q
    part_same = (a.went.keeps.number ∙ same.0, a.went.tells.cell ∙ same.1)

    part_counts : Order me (history_of new) → At (turn.Again s) old → At u new
    part_counts order is = run_counts c me g t r.of.state old new (next.Go (down_table.point_of s))
        (joined (next_in down_table u)) same_runs order is

  -- it goes out at a stage where it has taken nothing
  record Exited (k rested : Known) (m : Run DownCall) (n : DownStage) (e : DownExit) : Type 0 where
    pub to : DownStage
    pub is : e.to ≡ turn.Again to
    pub order : Order me (history_of rested) → Order me (history_of k)
    pub same : IsSame k m → IsSame rested (asked_run down_exits m)
    pub counts : At (turn.Again n) k → At (turn.Again to) rested

  module _ (k rested : Known) (m : Run DownCall) where
    abbrev goes_out : DownExit
    goes_out = record { to = turn.Again stage.LeaveQueue; rests = false }

    abbrev goes_again : DownExit
    goes_again = record { to = turn.Again stage.Again; rests = true }

    kept_same : rested ≡ k → IsSame k m → IsSame rested (asked_run down_exits m)
    kept_same still same = (ap (λ (x : Known). x.view.number) still ∙ same.0, same.1)

    kept_order : rested ≡ k → Order me (history_of rested) → Order me (history_of k)
    kept_order still order = subst (λ (x : Known). Order me (history_of x)) still order

    out_at : (n : DownStage) → (At (turn.Again n) k → At (turn.Again stage.LeaveQueue) k) → rested ≡ k
        → Exited k rested m n goes_out
    out_at n holds still = record {
      to = stage.LeaveQueue;
      is = refl;
      order = kept_order still;
      same = kept_same still;
      counts = λ q. subst (λ (x : Known). At (turn.Again stage.LeaveQueue) x) (sym still) (holds q);
    }

    slept_on : (e : Step) → IsCalm e → At (turn.Again stage.Sleep) k → history_of rested ≡ history_of k ++ e ∷ []
        → At (turn.Again stage.Again) rested
    slept_on e calm (inl q) is = subst (λ (es : List Step). DownPlace c me g t (next.Go (at.Await (awaiting.Lock true)))
        es)
        (sym is)
        (inl (
          asleep_on c me (history_of k) e calm.still q.0,
          has_still c me (history_of k) e g t q.1
              (calm.quiet.gives c (own me) (view_of (history_of k)) (dealt c me (history_of k)))
              (calm.quiet.takes c (own me) (view_of (history_of k)) (dealt c me (history_of k))),
        ))
    slept_on e calm (inr l) is = subst (λ (es : List Step). DownPlace c me g t (next.Go (at.Await (awaiting.Lock true)))
        es)
        (sym is) (inr (loaded_on c (history_of k) e l))

    sleep_out : HasRested k rested true → Exited k rested m stage.Sleep goes_again
    sleep_out still = record {
      to = stage.Again;
      is = refl;
      order = λ order. order_front me (history_of k) (step.State 0 ∷ [])
          (subst (Order me) (history_after k rested (step.State 0) still) order);
      same = λ same. (ap (λ (x : Known). x.view.number) still ∙ same.0, same.1);
      counts = λ q. slept_on (step.State 0) (stores_calm 0) q (history_after k rested (step.State 0) still);
    }

    exit_as : (n : DownStage) (d e : DownExit) → Some d ≡ Some e → (HasRested k rested d.rests → Exited k rested m n d)
        → HasRested k rested e.rests → Exited k rested m n e
    exit_as n d e is = let same : d ≡ e = cc in
        subst (λ (x : DownExit). HasRested k rested x.rests → Exited k rested m n x) same

    exits : (n : DownStage) (e : DownExit) → down_exit n ≡ Some e → HasRested k rested e.rests → Exited k rested m n e
    exits stage.Look e is = exit_as stage.Look goes_out e is (out_at stage.Look (λ q. q))
    exits stage.Queue e is = exit_as stage.Queue goes_out e is (out_at stage.Queue (λ q. q))
    exits stage.Sleep e is = exit_as stage.Sleep goes_again e is sleep_out
    exits n e is = absurd (cc)

  -- so it is all the way
  module _ (A : Type 0) (old : Known) (r : Run DownCall) (s : DownStage) (began : IsSame old r) where
    abbrev Way : Known → Run DownCall → DownTurn → Type 0
    Way new q u = OnTheWay A down_table down_exits old r s new q u

    way_same : (new : Known) (q : Run DownCall) (u : DownTurn) → Way new q u → IsSame new q
    way_same _ _ _ (straight new q u a) = part_same old new r q s u began a
    way_same _ _ _ (left_at mid m n new q u cause w l) =
        let x = exits mid l.rested m n l.exit l.is l.rests in
        part_same l.rested new (asked_run down_exits m) q x.to u (x.same (way_same mid m (turn.Again n) w))
        (subst (λ (e : DownTurn). GoesOut down_table l.rested new (asked_run down_exits m) q e u) x.is l.on)

    way_order : (new : Known) (q : Run DownCall) (u : DownTurn) → Way new q u → Order me (history_of new)
        → Order me (history_of old)
    way_order _ _ _ (straight new q u a) order = part_order old new r q s u began a order
    way_order _ _ _ (left_at mid m n new q u cause w l) order =
        let x = exits mid l.rested m n l.exit l.is l.rests in
        way_order mid m (turn.Again n) w (x.order (part_order l.rested new (asked_run down_exits m) q x.to u
        (x.same (way_same mid m (turn.Again n) w))
        (subst (λ (e : DownTurn). GoesOut down_table l.rested new (asked_run down_exits m) q e u) x.is l.on) order))

    way_counts : (new : Known) (q : Run DownCall) (u : DownTurn) → Way new q u → Order me (history_of new)
        → At (turn.Again s) old → At u new
    way_counts _ _ _ (straight new q u a) order is = part_counts old new r q s u began a order is
    way_counts _ _ _ (left_at mid m n new q u cause w l) order is =
        let x = exits mid l.rested m n l.exit l.is l.rests in
        let same = x.same (way_same mid m (turn.Again n) w) in
        let a = subst (λ (e : DownTurn). GoesOut down_table l.rested new (asked_run down_exits m) q e u) x.is l.on in
        let before = x.order (part_order l.rested new (asked_run down_exits m) q x.to u same a order) in
        part_counts l.rested new (asked_run down_exits m) q x.to u same a order
        (x.counts (way_counts mid m (turn.Again n) w before is))

  module _ (ended new : Known) (q : Run DownCall) (same : IsSame ended q) where
    passed_runs : ClosesDown ended new q.of outcome.Passing
        → Runs (down_program me c q.of.state) ended new (next.Go pass_point) (next.Ends zero_answer)
    passed_runs p = subst (λ (n : ℕ). Runs (down_program n c q.of.state) ended new (next.Go pass_point)
        (next.Ends zero_answer)) same.0
        (subst (λ (d : ℕ). Runs (down_program ended.view.number d q.of.state) ended new (next.Go pass_point)
        (next.Ends zero_answer)) same.1 p.runs)

    close_number : (o : DownOutcome) → ClosesDown ended new q.of o → new.view.number ≡ me
    close_number outcome.Passing p = p.carries.number ∙ same.0
    close_number outcome.Over is = ap (λ (x : Known). x.view.number) is ∙ same.0
    close_number outcome.Interrupted is = ap (λ (x : Known). x.view.number) is ∙ same.0
    close_number outcome.Worn is = ap (λ (x : Known). x.view.number) is ∙ same.0

    close_order : (o : DownOutcome) → ClosesDown ended new q.of o → Order me (history_of new)
        → Order me (history_of ended)
    close_order outcome.Passing p order = order_before me (down_program me c q.of.state) ended new (next.Go pass_point)
        (next.Ends zero_answer) (passed_runs p) order
    close_order outcome.Over is order = subst (λ (x : Known). Order me (history_of x)) is order
    close_order outcome.Interrupted is order = subst (λ (x : Known). Order me (history_of x)) is order
    close_order outcome.Worn is order = subst (λ (x : Known). Order me (history_of x)) is order

    close_counts : (o : DownOutcome) → ClosesDown ended new q.of o → Order me (history_of new) → At (turn.Done o) ended
        → DownPlace c me g t (next.Ends (closed o)) (history_of new)
    close_counts outcome.Passing p order is = run_counts c me g t q.of.state ended new (next.Go pass_point)
        (next.Ends zero_answer) (passed_runs p) order is
    close_counts outcome.Over same order is =
        subst (λ (x : Known). DownPlace c me g t (next.Ends zero_answer) (history_of x)) (sym same) is
    close_counts outcome.Interrupted same order is =
        subst (λ (x : Known). DownPlace c me g t (next.Ends signalled) (history_of x)) (sym same) is
    close_counts outcome.Worn same order is =
        subst (λ (x : Known). DownPlace c me g t (next.Ends answer.Worn) (history_of x)) (sym same) is

-- what the answers say
module _ (old new : Known) (c : ℕ) (never : FindsNoEnd c (history_of new)) where
  abbrev Placed : Answer → Type 0
  Placed a = DownPlace c old.view.number (permits_given c old.view.number (history_of old))
      (permits_taken c old.view.number (history_of old)) (next.Ends a) (history_of new)

  stopped_counts : (asked : Bool) (r : DownCall) → Placed signalled → UntilCounts old new c (stopped_until asked r)
  stopped_counts true r is = counts_by old new c never (Err sem_end.Interrupted) is
  stopped_counts false r is = counts_by old new c never (Err sem_end.Interrupted) is

  until_counts : (r : DownCall) (o : DownOutcome) → Placed (closed o) → UntilCounts old new c (end_until r o)
  until_counts r outcome.Over is = counts_by old new c never (Ok tt) is
  until_counts r outcome.Passing is = counts_by old new c never (Ok tt) is
  until_counts r outcome.Interrupted is = stopped_counts r.asked r is
  until_counts r outcome.Worn is = counts_by old new c never (down_end_in r outcome.Worn) is

leaves_counted : (A : Type 0) (old new : Known) (r : Run DownCall) (result : Until (Result (Unit {0}) SemEnd))
    → OrderOf new → LeftOff r.of.cell old → FindsNoEnd r.of.cell (history_of new)
    → LeavesDown A old new r stage.First result → UntilCounts old new r.of.cell result
leaves_counted A old new r result o left never e =
    let c = r.of.cell in
    let me = old.view.number in
    let g = permits_given c me (history_of old) in
    let t = permits_taken c me (history_of old) in
    let same = way_same c me g t A old r stage.First (refl, refl) e.ended e.at (turn.Done e.outcome) e.came in
    let number = close_number c me g t e.ended new e.at same e.outcome e.closes in
    let order : Order me (history_of new) = subst (λ (n : ℕ). Order n (history_of new)) number o in
    let before = close_order c me g t e.ended new e.at same e.outcome e.closes order in
    let first = way_order c me g t A old r stage.First (refl, refl) e.ended e.at (turn.Done e.outcome) e.came before in
    let ended = way_counts c me g t A old r stage.First (refl, refl) e.ended e.at (turn.Done e.outcome) e.came before
    (inl (left first, record { gave = refl; took = refl })) in
    subst (UntilCounts old new c) (sym e.answer)
    (until_counts old new c never e.at.of e.outcome
    (close_counts c me g t e.ended new e.at same e.outcome e.closes order ended))

pub left_downs_counted : (A : Type 0) → LeftDownsAreCounted A
left_downs_counted A old new d st result o left never e =
    subst (λ (i : ℕ). LeftOff i old → FindsNoEnd i (history_of new) → UntilCounts old new i result) e.fresh.cell
    (λ off none. leaves_counted A old new e.first result o off none e.leaves) left never
