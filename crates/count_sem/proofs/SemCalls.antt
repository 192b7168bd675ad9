-- The three programs of semaphores, point by point.
use Rattle.std.proofs.Common.{refl, sym, ◌∙◌, ap, subst, arith, inl, inr}
use Rattle.std.proofs.lemmas.Bool.Decides.{eqb_tells, nat_tests}
use Rattle.std.specs.Prelude.{ℕ, zero, suc, ◌≡◌, ◌≢◌, ◌-◌, ◌<◌, ◌==◌, ◌||◌, Bool, true, false, if◌then◌else◌, is_some}
use Rattle.std.specs.Prelude.{Option, Some, None, List, [], ◌∷◌, ◌++◌}
use Rattle.wait_model.specs.{declared.layout.TheConstants.ALL_DONE, declared.points.Next.Next}
use Rattle.wait_model.specs.{declared.points.Planned.Planned, declared.points.Point.Point, declared.points.Seen.Seen}
use Rattle.wait_model.specs.{declared.queues.CalledEntry.CalledEntry, declared.steps.Step.Step}
use Rattle.wait_model.specs.{declared.tasks.SleepState.SleepState, Counts.taken_done, Permits.ShowsNobody}
use Rattle.wait_model.specs.{Permits.done_head, Watches.number_of}
use Rattle.wait_model.specs.Programs.{done_in, ends_with, go, is_at_end, signalled}
use Rattle.wait_model.specs.Tasks.{looks_in, pending, state_mask}
use Rattle.wait_model.specs.declared.calls.Answer.TheVariants as answer
use Rattle.wait_model.specs.declared.calls.Event.TheVariants as event
use Rattle.wait_model.specs.declared.points.AwaitPoint.TheVariants as awaiting
use Rattle.wait_model.specs.declared.points.CountPoint.TheVariants as counting
use Rattle.wait_model.specs.declared.points.FinishPoint.TheVariants as finishing
use Rattle.wait_model.specs.declared.points.LeavePoint.TheVariants as leaving
use Rattle.wait_model.specs.declared.points.Next.TheVariants as next
use Rattle.wait_model.specs.declared.points.Point.TheVariants as at
use Rattle.wait_model.specs.declared.points.PreparePoint.TheVariants as preparing
use Rattle.wait_model.specs.declared.points.SelectPoint.TheVariants as selecting
use Rattle.wait_model.specs.declared.queues.Form.TheVariants as forms
use Rattle.wait_model.specs.declared.steps.Step.TheVariants as step
use Rattle.wait_model.specs.declared.watches.Watch.TheVariants as watch
use Rattle.wait_model.proofs.PermitLaws.OwnTurns.{known_is}
use Rattle.wait_rule.specs.{HeldValues.count_in, Known.Known, LeftEntries.Order, Says.history_of, Says.told_of}
use Rattle.wait_rule.specs.Transitions.{Finds, FindsStep, IsStepFor, Program, by_step}
use Rattle.wait_rule.proofs.SaidEvents.Fronts.{number_stays}
use Rattle.wait_class.specs.{Posts.Runs, Tables.plan_program}
use Rattle.count_sem.specs.SemPrograms.{again_next, down_part, down_plan, down_program, down_queue, is_full, joined}
use Rattle.count_sem.specs.SemPrograms.{leave_queue, pass_gives, pass_next, sem_head, sem_unlock, try_down_plan}
use Rattle.count_sem.specs.SemPrograms.{up_next, up_plan}
use Rattle.count_sem.specs.SemUses.{DownsKeepUse, KeepsUse, StretchesKeepUse, TriesKeepUse, UpsKeepUse, is_opening}
use Rattle.count_sem.proofs.DownEndings.{joined_goes}
use Rattle.count_sem.proofs.SemPoints.{Found, FoundLow, IsIn, MayRaise, Loads, found_it, found_low, found_on, in_on}
use Rattle.count_sem.proofs.SemPoints.{loads_it, lock_in, low_on, lowers_one, may_raise, nobody_first, nobody_on}
use Rattle.count_sem.proofs.SemPoints.{off_keeps, raises_one, saw_keeps, count_more}
use Rattle.count_sem.proofs.SemRuns.{Fine, IsPlain, LooksStay, PointsAreFine, QNext, goes_on, plain_look, plain_step}

-- an event that changes no condition
module _ (d me : ℕ) (f : Program) (Q : Point → List Step → Type 0) where
  pub plainly : (k : Known) (p : Point) (seen : Seen) (x : Planned) → IsPlain x.event
      → ((e : Step) → IsStepFor k f.own (f.given p) x.event e → Finds k f p (by_step e) seen
      → QNext d me f Q x.next (history_of k ++ e ∷ [])) → Fine d me f Q k p seen x
  plainly k p seen x plain behind = record {
    looks = λ xs made. plain_look k f.own (f.given p) x.event xs plain made;
    steps = λ e o made finds. (plain_step d _ k f.own (f.given p) x.event e plain made, behind e made finds);
  }

pub low_of : (v : ℕ) → is_at_end v ≡ false → v < ALL_DONE
low_of v is = elim (eqb_tells (done_in v) ALL_DONE) [
  | inl q ↦ absurd (let z : true ≡ false = sym q.0 ∙ is in cc)
  | inr q ↦ let ne = q.1 in omega (arith, ne)
]

pub some_of : (v : ℕ) → (v == 0) ≡ false → v ≢ 0
some_of v is empty = absurd (grind (arith, nat_tests))

-- `up`
abbrev UpAt : ℕ → Point → List Step → Type 0
UpAt c (at.Select (selecting.Next n)) es = IsIn c es
UpAt c (at.Count counting.Store) es = MayRaise c es
UpAt c p es = Unit {0}

module _ (d me c : ℕ) where
  abbrev up : Program
  up = plan_program me 0 (up_plan c)

  abbrev UpFine : Known → Point → Seen → Planned → Type 0
  UpFine k p seen x = Fine d me up (UpAt c) k p seen x

  up_stays : LooksStay d me up (UpAt c)
  up_stays (at.Select (selecting.Next n)) es y w o q = in_on c es (step.Saw y w) refl q
  up_stays (at.Count counting.Store) es y w o q = record {
    held = in_on c es (step.Saw y w) refl q.held;
    count = q.count;
    known = count_more c es (step.Saw y w) ∙ q.known;
    below = q.below;
    nobody = nobody_on me c es y w o q.held q.nobody;
  }
  up_stays p es y w o q = tt

  module _ (seen : Seen) (k : Known) where
    full_or : (b : Bool) → is_full seen.value ≡ b → (e : Step) → Loads c (history_of k) e seen.value
        → IsIn c (history_of k)
        → ((h : ℕ) → ShowsNobody h (told_of k))
        → UpAt c (at.Count (if b then counting.Unlock false else counting.Store)) (history_of k ++ e ∷ [])
    full_or true is e l held none = tt
    full_or false is e l held none = may_raise c (history_of k) e
        seen.value l held (grind (arith, nat_tests, is)) (none (done_head c))

    up_next_fine : (n : ℕ) (o : Option CalledEntry) → seen.called ≡ o → IsIn c (history_of k)
        → UpFine k (at.Select (selecting.Next n)) seen (up_next c o seen)
    up_next_fine n (Some called) is held = plainly d me up (UpAt c) k (at.Select (selecting.Next n)) seen
        (up_next c (Some called) seen) tt (λ e made finds. tt)
    up_next_fine n None is held = plainly d me up (UpAt c) k (at.Select (selecting.Next n)) seen
        (up_next c None seen) tt (λ e made finds. full_or (is_full seen.value) refl e
        (loads_it c (history_of k) k up.own (up.given (at.Select (selecting.Next n))) (number_of (watch.Done c))
        seen.value seen.value e seen refl
        refl made finds.0) held (nobody_first k seen finds.1 is))

    up_fine : (p : Point) → UpAt c p (history_of k) → UpFine k p seen (up.plan p seen)
    up_fine (at.Select selecting.Lock) q = plainly d me up (UpAt c) k (at.Select selecting.Lock) seen _ tt
        (λ e made finds. lock_in c (history_of k) k up.own (up.given (at.Select selecting.Lock)) (done_head c) e refl
        made)
    up_fine (at.Select (selecting.Next n)) q = up_next_fine n seen.called refl q
    up_fine (at.Select (selecting.Off n who)) q =
        plainly d me up (UpAt c) k (at.Select (selecting.Off n who)) seen _ tt
        (λ e made finds. tt)
    up_fine (at.Select selecting.Store) q = plainly d me up (UpAt c) k (at.Select selecting.Store) seen _ tt
        (λ e made finds. tt)
    up_fine (at.Count counting.Store) q = record {
      looks = λ xs made. absurd made;
      steps = λ e o made finds. (
        raises_one d me c k up.own (up.given (at.Count counting.Store)) refl q.count q.known q.below q.nobody
            (number_of (watch.Done c)) e seen o
            made finds.0,
        tt,
      );
    }
    up_fine (at.Count (counting.Unlock true)) q =
        plainly d me up (UpAt c) k (at.Count (counting.Unlock true)) seen _ tt
        (λ e made finds. tt)
    up_fine p q = plainly d me up (UpAt c) k p seen _ tt (λ e made finds. tt)

-- `try_down`; it has no other points
abbrev TryAt : ℕ → Point → List Step → Type 0
TryAt c (at.Count counting.Lock) es = Unit {0}
TryAt c (at.Count counting.Load) es = IsIn c es
TryAt c (at.Count counting.Store) es = FoundLow c es
TryAt c (at.Count (counting.Unlock hit)) es = Unit {0}
TryAt c p es = ⊥

module _ (d me c : ℕ) where
  abbrev try : Program
  try = plan_program me 0 (try_down_plan c)

  try_stays : LooksStay d me try (TryAt c)
  try_stays (at.Count counting.Lock) es y w o q = tt
  try_stays (at.Count counting.Load) es y w o q = in_on c es (step.Saw y w) refl q
  try_stays (at.Count counting.Store) es y w o q = low_on c es (step.Saw y w) (saw_keeps me c es y w o) q
  try_stays (at.Count (counting.Unlock hit)) es y w o q = tt
  try_stays p es y w o q = absurd q

  pub taken_less : (v : ℕ) → v < ALL_DONE → taken_done (done_in v) ≡ v - 1
  taken_less v low =
      let is : done_in v ≡ v = omega (arith, low) in
      let ne : (v == ALL_DONE) ≡ false = grind (arith, nat_tests, low) in
      ap taken_done is ∙ ap (λ (b : Bool). if b then v else v - 1) ne

  module _ (seen : Seen) (k : Known) where
    some_or : (z b : Bool) → (seen.value == 0) ≡ z → is_at_end seen.value ≡ b → (e : Step)
        → Loads c (history_of k) e seen.value → IsIn c (history_of k)
        → TryAt c (at.Count (if z then counting.Unlock false else if b then counting.Unlock true else counting.Store))
        (history_of k ++ e ∷ [])
    some_or true b empty is e l held = tt
    some_or false true empty is e l held = tt
    some_or false false empty is e l held = found_low c (history_of k) e
        seen.value l held (some_of seen.value empty) (low_of seen.value is)

    try_fine : (p : Point) → TryAt c p (history_of k) → Fine d me try (TryAt c) k p seen (try.plan p seen)
    try_fine (at.Count counting.Lock) q = plainly d me try (TryAt c) k (at.Count counting.Lock) seen _ tt
        (λ e made finds. lock_in c (history_of k) k try.own (try.given (at.Count counting.Lock)) (done_head c) e refl
        made)
    try_fine (at.Count counting.Load) q = plainly d me try (TryAt c) k (at.Count counting.Load) seen _ tt
        (λ e made finds. some_or (seen.value == 0) (is_at_end seen.value) refl refl e
        (loads_it c (history_of k) k try.own (try.given (at.Count counting.Load)) (number_of (watch.Done c)) seen.value
        seen.value e seen refl
        refl made finds.0) q)
    try_fine (at.Count counting.Store) q = record {
      looks = λ xs made. absurd made;
      steps = λ e o made finds. (
        lowers_one d me c k try.own (try.given (at.Count counting.Store)) refl q.found.count q.found.known q.found.some
            q.low (number_of (watch.Done c)) (taken_done (done_in seen.value)) e seen (taken_less seen.value) o made
            finds.0,
        tt,
      );
    }
    try_fine (at.Count (counting.Unlock hit)) q =
        plainly d me try (TryAt c) k (at.Count (counting.Unlock hit)) seen _ tt
        (λ e made finds. tt)
    try_fine p q = absurd q

-- `down`
abbrev DownAt : ℕ → Point → List Step → Type 0
DownAt c (at.Await (awaiting.Load waited)) es = IsIn c es
DownAt c (at.Leave leaving.Queue) es = IsIn c es
DownAt c (at.Await (awaiting.Off stopped)) es = Found c es
DownAt c (at.Await (awaiting.Last stopped)) es = FoundLow c es
DownAt c (at.Select (selecting.Next zero)) es = FoundLow c es
DownAt c p es = Unit {0}

module _ (d me c : ℕ) (st : SleepState) where
  abbrev down : Program
  down = down_program me c st

  abbrev DownFine : Known → Point → Seen → Planned → Type 0
  DownFine k p seen x = Fine d me down (DownAt c) k p seen x

  down_stays : LooksStay d me down (DownAt c)
  down_stays (at.Await (awaiting.Load waited)) es y w o q = in_on c es (step.Saw y w) refl q
  down_stays (at.Leave leaving.Queue) es y w o q = in_on c es (step.Saw y w) refl q
  down_stays (at.Await (awaiting.Off stopped)) es y w o q = found_on c es (step.Saw y w) (saw_keeps me c es y w o) q
  down_stays (at.Await (awaiting.Last stopped)) es y w o q = low_on c es (step.Saw y w) (saw_keeps me c es y w o) q
  down_stays (at.Select (selecting.Next zero)) es y w o q = low_on c es (step.Saw y w) (saw_keeps me c es y w o) q
  down_stays p es y w o q = tt

  module _ (seen : Seen) (k : Known) where
    abbrev Then : Next → Step → Type 0
    Then n e = QNext d me down (DownAt c) n (history_of k ++ e ∷ [])

    -- where a hold goes on that has loaded the count
    module _ (p : Point) (e : Step) (l : Loads c (history_of k) e seen.value)
        (held : IsIn c (history_of k)) where
      waits_then : (b : Bool) → Then (next.Go (at.Prepare (if b then preparing.Look else preparing.Queue))) e
      waits_then true = tt
      waits_then false = tt

      first_then : (z b : Bool) → (seen.value == 0) ≡ z → is_at_end seen.value ≡ b
          → Then (next.Go (if z then at.Prepare (if looks_in st then preparing.Look else preparing.Queue)
          else at.Await (if b then awaiting.Unlock else awaiting.Last false))) e
      first_then true b empty is = waits_then (looks_in st)
      first_then false true empty is = tt
      first_then false false empty is = found_low c (history_of k) e seen.value l held
          (some_of seen.value empty) (low_of seen.value is)

      queued_then : (z : Bool) → (seen.value == 0) ≡ z
          → Then (next.Go (if z then at.Prepare (if looks_in st then preparing.Look else preparing.Queue)
          else at.Await (awaiting.Off false))) e
      queued_then true empty = waits_then (looks_in st)
      queued_then false empty = found_it c (history_of k) e seen.value l held
          (some_of seen.value empty)

      given_then : (z b : Bool) → (seen.value == 0) ≡ z → is_at_end seen.value ≡ b
          → Then (joined (if z || b then next.Go (at.Await awaiting.Unlock) else next.Ends (answer.Value 0))) e
      given_then true b empty is = tt
      given_then false true empty is = tt
      given_then false false empty is = found_low c (history_of k) e seen.value l held
          (some_of seen.value empty) (low_of seen.value is)

      again_then : (queued : Bool) → Then (joined (again_next st queued seen.value)) e
      again_then true = queued_then (seen.value == 0) refl
      again_then false = given_then (seen.value == 0) (is_at_end seen.value) refl refl

    loaded : (p : Point) (e : Step) → (down.given p).watch ≡ watch.Done c
        → IsStepFor k down.own (down.given p) (event.Load (number_of (watch.Done c)) seen.value) e
        → FindsStep e seen → Loads c (history_of k) e seen.value
    loaded p e about made finds = loads_it c (history_of k) k down.own (down.given p) (number_of (watch.Done c))
        seen.value seen.value e seen about refl made finds

    abbrev joins_one : Planned → Planned
    joins_one x = record { event = x.event; next = joined x.next }

    either : (p : Point) (b : Bool) (x y : Planned) → DownFine k p seen (joins_one x) → DownFine k p seen (joins_one y)
        → DownFine k p seen (joins_one (if b then x else y))
    either p true x y one two = one
    either p false x y one two = two

    quite : (p : Point) (x : Planned) → IsPlain x.event → ((e : Step) → Then (joined x.next) e)
        → DownFine k p seen (joins_one x)
    quite p x plain behind = plainly d me down (DownAt c) k p seen (joins_one x) plain (λ e made finds. behind e)

    queue_fine : (p : Point) → DownFine k p seen (joins_one (down_queue c st seen))
    queue_fine p =
        let there = go (event.State (state_mask st)) (at.Prepare preparing.Unlock) in
        let none = ends_with (sem_unlock c false) answer.Worn in
        let joins = go (event.Queue (sem_head c) forms.Tail) (at.Prepare preparing.State) in
        either p (is_some seen.entry) there (if seen.worn then none else joins) (quite p there tt (λ e. tt))
        (either p seen.worn none joins (quite p none tt (λ e. tt)) (quite p joins tt (λ e. tt)))

    leave_fine : (p : Point) → DownFine k p seen (joins_one (leave_queue me c (is_some seen.entry)))
    leave_fine p =
        let leaves = go (event.Unqueue me) (at.Finish finishing.Unlock true) in
        let ends = ends_with (sem_unlock c false) signalled in
        either p (is_some seen.entry) leaves ends (quite p leaves tt (λ e. tt)) (quite p ends tt (λ e. tt))

    look_then : (b : Bool) (e : Step)
        → Then (next.Go (if b then at.Finish finishing.Queue true else at.Prepare preparing.Queue)) e
    look_then true e = tt
    look_then false e = tt

    pass_fine : (o : Option CalledEntry) → FoundLow c (history_of k)
        → DownFine k (at.Select (selecting.Next zero)) seen (joins_one (pass_next c o seen))
    pass_fine None q = quite (at.Select (selecting.Next zero)) (pass_next c None seen) tt (λ e. tt)
    pass_fine (Some called) q = record {
      looks = λ xs made. absurd made;
      steps = λ e o made finds. (
        lowers_one d me c k down.own (down.given (at.Select (selecting.Next zero))) refl q.found.count q.found.known
            q.found.some q.low (number_of (watch.Done c)) (seen.value - 1) e seen (λ _. refl) o made finds.0,
        tt,
      );
    }

    gives_fine : (n : ℕ) (o : Option CalledEntry)
        → DownFine k (at.Select (selecting.Next (suc n))) seen (joins_one (pass_gives c o seen))
    gives_fine n None = quite (at.Select (selecting.Next (suc n))) (pass_gives c None seen) tt (λ e. tt)
    gives_fine n (Some called) = quite (at.Select (selecting.Next (suc n))) (pass_gives c (Some called) seen) tt
        (λ e. tt)

    off_then : (b : Bool) → is_at_end seen.value ≡ b → (e : Step) (found : Found c (history_of k ++ e ∷ []))
        → seen.value ≡ found.count
        → DownAt c (at.Await (if b then awaiting.Unlock else awaiting.Last false)) (history_of k ++ e ∷ [])
    off_then true is e found same = tt
    off_then false is e found same =
        record { found = found; low = let l = low_of seen.value is in omega (arith, l, same) }

    down_fine : (p : Point) → DownAt c p (history_of k) → DownFine k p seen (down.plan p seen)
    down_fine (at.Await (awaiting.Lock false)) q =
        plainly d me down (DownAt c) k (at.Await (awaiting.Lock false)) seen _
        tt (λ e made finds. lock_in c (history_of k) k down.own (down.given (at.Await (awaiting.Lock false)))
        (done_head c) e refl made)
    down_fine (at.Await (awaiting.Load waited)) q =
        plainly d me down (DownAt c) k (at.Await (awaiting.Load waited)) seen
        _ tt (λ e made finds. first_then (at.Await (awaiting.Load waited)) e
        (loaded (at.Await (awaiting.Load waited)) e refl made finds.0) q (seen.value == 0) (is_at_end seen.value) refl
        refl)
    down_fine (at.Prepare preparing.Look) q =
        quite (at.Prepare preparing.Look) (down_part me c st (at.Prepare preparing.Look) seen) tt
        (λ e. look_then (pending (state_mask st) seen.own) e)
    down_fine (at.Prepare preparing.Queue) q = queue_fine (at.Prepare preparing.Queue)
    down_fine (at.Prepare preparing.State) q =
        quite (at.Prepare preparing.State) (down_part me c st (at.Prepare preparing.State) seen) tt (λ e. tt)
    down_fine (at.Prepare preparing.Unlock) q =
        quite (at.Prepare preparing.Unlock) (down_part me c st (at.Prepare preparing.Unlock) seen) tt (λ e. tt)
    down_fine at.Sleep q = quite at.Sleep (down_part me c st at.Sleep seen) tt (λ e. tt)
    down_fine (at.Await (awaiting.Lock true)) q =
        plainly d me down (DownAt c) k (at.Await (awaiting.Lock true)) seen _ tt
        (λ e made finds. lock_in c (history_of k) k down.own (down.given (at.Await (awaiting.Lock true))) (done_head c)
        e refl made)
    down_fine (at.Leave leaving.Queue) q = plainly d me down (DownAt c) k (at.Leave leaving.Queue) seen _ tt
        (λ e made finds. again_then (at.Leave leaving.Queue) e (loaded (at.Leave leaving.Queue) e refl made finds.0) q
        (is_some seen.entry))
    down_fine (at.Finish finishing.Queue failed) q = leave_fine (at.Finish finishing.Queue failed)
    down_fine (at.Finish finishing.Unlock failed) q =
        quite (at.Finish finishing.Unlock failed) (down_part me c st (at.Finish finishing.Unlock failed) seen) tt
        (λ e. tt)
    down_fine (at.Await (awaiting.Off stopped)) q =
        plainly d me down (DownAt c) k (at.Await (awaiting.Off stopped)) seen
        _ tt (λ e made finds. off_then (is_at_end seen.value) refl e (found_on c (history_of k) e
        (off_keeps c (history_of k) k down.own (down.given (at.Await (awaiting.Off stopped))) me e made) q)
        (known_is (count_in c (history_of k)) seen.value q.count finds.1.1 q.known))
    down_fine (at.Await (awaiting.Last stopped)) q = record {
      looks = λ xs made. absurd made;
      steps = λ e o made finds. (
        lowers_one d me c k down.own (down.given (at.Await (awaiting.Last stopped))) refl q.found.count q.found.known
            q.found.some q.low (number_of (watch.Done c)) (seen.value - 1) e seen (λ _. refl) o made finds.0,
        tt,
      );
    }
    down_fine (at.Select (selecting.Next zero)) q = pass_fine seen.called q
    down_fine (at.Select (selecting.Next (suc n))) q = gives_fine n seen.called
    down_fine (at.Select (selecting.Off n who)) q =
        quite (at.Select (selecting.Off n who)) (down_part me c st (at.Select (selecting.Off n who)) seen) tt (λ e. tt)
    down_fine (at.Select selecting.Store) q =
        quite (at.Select selecting.Store) (down_part me c st (at.Select selecting.Store) seen) tt (λ e. tt)
    down_fine p q = quite p (down_part me c st p seen) tt (λ e. tt)

-- whole programs, and parts from their beginnings
uses_on : (f : ℕ → Program) (Q : Point → List Step → Type 0) (p : Point) → ((es : List Step) → Q p es)
    → ((d me : ℕ) → LooksStay d me (f me) Q) → ((d me : ℕ) → PointsAreFine d me (f me) Q) → (old new : Known)
    (to : Next)
    → Runs (f old.view.number) old new (next.Go p) to → KeepsUse old new
uses_on f Q p first stays fine old new to runs d o used =
    let number = number_stays (f old.view.number) old new (next.Go p) to runs.transitions runs.goes in
    (goes_on d old.view.number (f old.view.number) Q (stays d old.view.number) (fine d old.view.number) runs.transitions
    (next.Go p) to old new runs.goes (subst (λ (n : ℕ). Order n (history_of new)) number o)
    (used, first (history_of old))).0

pub ups_keep_use : UpsKeepUse
ups_keep_use old new c to runs = uses_on (λ me. plan_program me 0 (up_plan c)) (UpAt c) (at.Select selecting.Lock)
    (λ es. tt) (λ d me. up_stays d me c) (λ d me p seen k q. up_fine d me c seen k p q) old new to runs

pub tries_keep_use : TriesKeepUse
tries_keep_use old new c to runs =
    uses_on (λ me. plan_program me 0 (try_down_plan c)) (TryAt c) (at.Count counting.Lock)
    (λ es. tt) (λ d me. try_stays d me c) (λ d me p seen k q. try_fine d me c seen k p q) old new to runs

pub downs_keep_use : DownsKeepUse
downs_keep_use old new c st to runs = uses_on (λ me. down_program me c st) (DownAt c) (at.Await (awaiting.Lock false))
    (λ es. tt) (λ d me. down_stays d me c st) (λ d me p seen k q. down_fine d me c st seen k p q) old new to runs

-- nothing is known of the count where a hold begins, and where one goes out
opens : (c : ℕ) (p : Point) → is_opening p ≡ true → (es : List Step) → DownAt c p es
opens c (at.Await (awaiting.Lock waited)) is es = tt
opens c (at.Finish finishing.Queue failed) is es = tt
opens c p is es = absurd (cc)

pub stretches_keep_use : StretchesKeepUse
stretches_keep_use old new c st from to opening runs = uses_on (λ me. down_program me c st) (DownAt c) from
    (opens c from opening) (λ d me. down_stays d me c st) (λ d me p seen k q. down_fine d me c st seen k p q) old new
    (joined to) (record {
      transitions = runs.transitions;
      goes = joined_goes (plan_program old.view.number 0 (down_plan c st)) old (next.Go from) runs.transitions new to
          runs.goes;
    })
