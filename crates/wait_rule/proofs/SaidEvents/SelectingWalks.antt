-- What a walk has woken and selected so far, at each point of its program.
use Rattle.std.proofs.lemmas.Bool.Decides.{nat_tests}
use Rattle.std.proofs.Common.{refl, sym, ◌∙◌, subst, arith, inl, inr}
use Rattle.std.specs.Prelude.{ℕ, zero, suc, ◌≡◌, ◌+◌, ◌-◌, ◌<◌, ◌≤◌, ◌⊎◌, ◌==◌, ◌&&◌, Bool, true, false, if◌then◌else◌}
use Rattle.std.specs.Prelude.{Option, Some, None, List, [], ◌∷◌}
use Rattle.wait_model.specs.{declared.calls.Call.Call, declared.calls.Event.Event}
use Rattle.wait_model.specs.{declared.queues.CalledEntry.CalledEntry, declared.queues.Mark.Mark}
use Rattle.wait_model.specs.{declared.queues.Walked.Walked, declared.queues.Walking.Walking, declared.queues.End.End}
use Rattle.wait_model.specs.{declared.watches.Aim.Aim, declared.watches.Kind.Kind, declared.watches.Mode.Mode}
use Rattle.wait_model.specs.{declared.points.Planned.Planned, declared.points.Next.Next, declared.points.Seen.Seen}
use Rattle.wait_model.specs.{declared.points.WalkPoint.WalkPoint, declared.points.PageStage.PageStage, Tasks.meets}
use Rattle.wait_model.specs.{Words.bit_at, Words.flag, Points.call_aim, Making.Makes, Making.goes_to}
use Rattle.wait_model.specs.Watches.{bit_of, mask_of, misses, number_of, word_of}
use Rattle.wait_model.specs.Programs.{again, call_entry, call_next, go, onward, past, reached, resumed, walk_event}
use Rattle.wait_model.specs.Findings.{Noted, none_noted, notes}
use Rattle.wait_model.specs.declared.calls.Call.TheVariants as calls
use Rattle.wait_model.specs.declared.calls.Event.TheVariants as event
use Rattle.wait_model.specs.declared.calls.Answer.TheVariants as answer
use Rattle.wait_model.specs.declared.queues.End.TheVariants as end_as
use Rattle.wait_model.specs.declared.watches.Kind.TheVariants as kind
use Rattle.wait_model.specs.declared.points.Next.TheVariants as next
use Rattle.wait_model.specs.declared.points.Point.TheVariants as at
use Rattle.wait_model.specs.declared.points.WalkPoint.TheVariants as walking
use Rattle.wait_model.specs.declared.points.PageStage.TheVariants as staging
use Rattle.wait_model.proofs.{WaitLaws.OutsideStages.either, SentenceLaws.MadeCalls.sentences_are_made}
use Rattle.wait_rule.specs.{Known.Known, SaidEvents.said}
use Rattle.wait_rule.specs.Selecting.{IsTallied, RunsSelect, WordsSelect, tells_page, yes_by, yes_from}
use Rattle.wait_rule.specs.Transitions.{Goes, Program, Transition, after_transition, walk_program}

-- a walk that goes on, and one that used up its count, of a count n after `done` wakes
record Counts (n done : ℕ) (w : Walking) : Type 0 where
  tells : w.woken ≡ done
  among : w.selected ≤ w.woken
  sum : ((n ≡ 0) × (w.left ≡ 0)) ⊎ ((w.selected + w.left ≡ n) × (0 < w.left))

record IsUsed (n done : ℕ) (w : Walking) : Type 0 where
  tells : w.woken ≡ done
  among : w.selected ≤ w.woken
  some_count : 0 < n
  all : w.selected ≡ n

abbrev After : Bool → ℕ → ℕ → Walking → Type 0
After true n done w = IsUsed n done w
After false n done w = Counts n done w

-- the walk after an entry, by what its tests answer
abbrev over : Walking → ℕ → Bool → Bool → Bool → Walking
over w place x hit b = record {
  place = place;
  woken = if hit then w.woken + 1 else w.woken;
  selected = if hit && x then w.selected + 1 else w.selected;
  left = if hit && x then w.left - 1 else w.left;
  spent = (hit && x) && b;
  calls = w.calls + 1;
  holds = w.holds;
}

abbrev one_if : Bool → ℕ
one_if true = 1
one_if false = 0

over_counts : (n done : ℕ) (w : Walking) (place : ℕ) (x hit b : Bool) → (w.left == 1) ≡ b → Counts n done w
    → After ((hit && x) && b) n (done + one_if hit) (over w place x hit b)
over_counts n done w place x false b is k = record {
  tells = let h = k.tells in omega arith;
  among = k.among;
  sum = k.sum;
}
over_counts n done w place false true b is k = record {
  tells = let h = k.tells in omega arith;
  among = let h = k.among in omega arith;
  sum = k.sum;
}
over_counts n done w place true true true is k =
    let one : w.left ≡ 1 = grind (arith, nat_tests, is) in record {
      tells = let h = k.tells in omega arith;
      among = let h = k.among in omega arith;
      some_count = elim k.sum [
        | inl z ↦ absurd (let y = z.1 in omega (arith, one))
        | inr z ↦ let y = z.0 in omega (arith, one)
      ];
      all = elim k.sum [
        | inl z ↦ absurd (let y = z.1 in omega (arith, one))
        | inr z ↦ let y = z.0 in omega (arith, one)
      ];
    }
over_counts n done w place true true false is k = record {
  tells = let h = k.tells in omega arith;
  among = let h = k.among in omega arith;
  sum = elim k.sum [
    | inl z ↦ inl (z.0, let y = z.1 in omega arith)
    | inr z ↦
        let y = z.0 in
        let some_left = z.1 in
        let many : 1 < w.left = grind (arith, nat_tests, is, some_left) in
        inr (omega arith, omega arith)
  ];
}

module _ (aim : Aim) where
  abbrev n : ℕ
  n = aim.count

  abbrev TallyAt : ℕ → WalkPoint → Type 0
  TallyAt done walking.Lock = done ≡ 0
  TallyAt done (walking.Call w) = Counts n done w
  TallyAt done (walking.Wake w c) = Counts n done w
  TallyAt done (walking.Bit w c) = Counts n done w
  TallyAt done (walking.Page staging.Try w c) = Counts n done w
  TallyAt done (walking.Page staging.Hand w c) = Counts n done w
  TallyAt done (walking.Page st w c) = (d : ℕ) × (done ≡ d + 1) × Counts n d w
  TallyAt done (walking.Stopped w) = Counts n done w
  TallyAt done (walking.Unqueue w who) = After w.spent n done w
  TallyAt done (walking.Spent w) = IsUsed n done w
  TallyAt done (walking.BreakUnlock w) = Counts n done w
  TallyAt done (walking.BreakLock w) = Counts n done w
  TallyAt done (walking.Unmark w) = Counts n done w

  abbrev LedTo : ℕ → Next → Type 0
  LedTo done (next.Go (at.Walk p)) = TallyAt done p
  LedTo done (next.Go p) = ⊥
  LedTo done (next.Ends a) = (k : Walked) → a ≡ answer.Walk k → IsTallied n done k

  abbrev Led : ℕ → Planned → Type 0
  Led done x = LedTo (done + yes_by false x.event) x.next

  -- where the last event told a task of its page
  abbrev told_at : WalkPoint → Bool
  told_at (walking.Page staging.Wake w c) = true
  told_at _ = false

  abbrev Hears : Bool → Next → Type 0
  Hears told (next.Go (at.Walk p)) = told ≡ told_at p
  Hears told _ = Unit {0}

  -- the same counts, of a walk that stands elsewhere
  same_counts : (done more : ℕ) (w v : Walking) → more ≡ done → v.woken ≡ w.woken → v.selected ≡ w.selected
      → v.left ≡ w.left → Counts n done w → Counts n more v
  same_counts done more w v same a b c k = record {
    tells = a ∙ (k.tells ∙ sym same);
    among = let h = k.among in omega (arith, a, b);
    sum = elim k.sum [
      | inl z ↦ inl (z.0, c ∙ z.1)
      | inr z ↦ let y = z.0 in let x = z.1 in inr (omega (arith, b, c), omega (arith, c))
    ];
  }

  wake_number : (who : ℕ) (hit : Bool) → yes_by false (event.Wake who hit) ≡ one_if hit
  wake_number who true = refl
  wake_number who false = refl

  past_counts : (done who : ℕ) (w : Walking) (c : CalledEntry) (hit : Bool) → Counts n done w
      → After (past w c hit).spent n (done + yes_by false (event.Wake who hit)) (past w c hit)
  past_counts done who w c hit k = subst (λ (j : ℕ). After (past w c hit).spent n (done + j) (past w c hit))
      (sym (wake_number who hit)) (over_counts n done w (c.place + 1) c.exclusive hit (w.left == 1) refl k)

  onward_led : (done : ℕ) (w : Walking) → After w.spent n done w → LedTo done (next.Go (onward w))
  onward_led done w = by w.spent
    where
      by : (b : Bool) → After b n done w
          → LedTo done (next.Go (if b then at.Walk (walking.Spent w) else at.Walk (walking.Call w)))
      by true k = k
      by false k = k

  off_led : (done who : ℕ) (w : Walking) (c : CalledEntry) (hit : Bool) → Counts n done w
      → Led done (go (event.Wake who hit) (at.Walk (if hit then walking.Unqueue (past w c hit) who
      else walking.Call (past w c hit))))
  off_led done who w c true k = past_counts done who w c true k
  off_led done who w c false k = past_counts done who w c false k

  test_led : (done : ℕ) (e : Event) → yes_by false e ≡ 0 → (b : Bool) (w : Walking) (c : CalledEntry) → Counts n done w
      → Led done (go e (at.Walk (if b then walking.Call (past w c false) else walking.Bit w c)))
  test_led done e quiet true w c k = same_counts done (done + yes_by false e) w (past w c false) (omega (arith, quiet))
      refl refl refl k
  test_led done e quiet false w c k = same_counts done (done + yes_by false e) w w (omega (arith, quiet)) refl refl
      refl k

  -- a page is tried, or its task is handed it
  stage_led : (stage : PageStage) (done : ℕ) (e : Event) → yes_by false e ≡ 0 → (b : Bool) (w : Walking) (c : CalledEntry)
      → (Counts n (done + yes_by false e) w → TallyAt (done + yes_by false e) (walking.Page stage w c))
      → Counts n done w → Led done (go e (at.Walk (if b then walking.Stopped w else walking.Page stage w c)))
  stage_led stage done e quiet true w c to k = same_counts done (done + yes_by false e) w w (omega (arith, quiet)) refl
      refl refl k
  stage_led stage done e quiet false w c to k = to (same_counts done (done + yes_by false e) w w
      (omega (arith, quiet)) refl refl refl k)

  handed_led : (done more : ℕ) (w : Walking) (c : CalledEntry) → more ≡ done
      → (d : ℕ) × (done ≡ d + 1) × Counts n d w → LedTo more (next.Go (onward (past w c true)))
  handed_led done more w c same h = onward_led more (past w c true)
      (subst (λ (j : ℕ). After (past w c true).spent n j (past w c true))
      (let is = h.1 in let z : h.0 + one_if true ≡ more = omega (arith, is, same) in z)
      (over_counts n h.0 w (c.place + 1) c.exclusive true (w.left == 1) refl h.2))

  entry_led : (done : ℕ) (w : Walking) (c : CalledEntry) (j : Kind) (seen : Seen) (hit : Bool) → Counts n done w
      → Led done (call_entry aim w c j seen hit)
  entry_led done w c kind.Default seen hit k = onward_led (done + yes_by false (event.Wake c.who hit))
      (past w c hit) (past_counts done c.who w c hit k)
  entry_led done w c kind.Autoremove seen hit k = off_led done c.who w c hit k
  entry_led done w c kind.Woken seen hit k = same_counts done (done + 0) w w (omega arith) refl refl refl k
  entry_led done w c kind.Bit seen hit k = test_led done (event.Load (number_of aim.watch) seen.value) refl
      (misses aim.watch seen.value) w c k
  entry_led done w c kind.Var seen hit k = off_led done c.who w c hit k
  entry_led done w c kind.Page seen hit k = stage_led staging.Try done
      (event.Load (number_of aim.watch) seen.value) refl (misses aim.watch seen.value) w c (λ s. s) k
  entry_led done w c kind.Simple seen hit k = onward_led (done + yes_by false (event.Wake c.who hit))
      (past w c hit) (past_counts done c.who w c hit k)

  -- the answer of a walk that came to the end of the queue or that a page stopped, and of one that used up its count
  abbrev answered : Walking → Bool → Walked
  answered w b = record {
    selected = w.selected;
    woken = w.woken;
    holds = w.holds;
    end = if b then end_as.Spent else end_as.End;
  }

  end_tallied : (done : ℕ) (w : Walking) (e : End) → (e ≡ end_as.Spent → ⊥) → Counts n done w
      → IsTallied n done (record { selected = w.selected; woken = w.woken; holds = w.holds; end = e })
  end_tallied done w e not_spent k = record {
    tells = k.tells;
    among = k.among;
    at_most = λ some_count. elim k.sum [
      | inl z ↦ absurd (let y = z.0 in omega (arith, some_count))
      | inr z ↦ let y = z.0 in omega arith
    ];
    spent = λ is. absurd (not_spent is);
    used = λ some_count is. elim k.sum [
      | inl z ↦ absurd (let y = z.0 in omega (arith, some_count))
      | inr z ↦ absurd (let y = z.0 in let x = z.1 in omega (arith, is))
    ];
  }

  spent_tallied : (done : ℕ) (w : Walking) → IsUsed n done w → IsTallied n done (answered w true)
  spent_tallied done w k = record {
    tells = k.tells;
    among = k.among;
    at_most = λ some_count. let y = k.all in omega arith;
    spent = λ is. (k.some_count, k.all);
    used = λ some_count is. refl;
  }

  walk_is : (k j : Walked) → answer.Walk k ≡ answer.Walk j → k ≡ j
  walk_is k j is = cc

  answer_led : (done : ℕ) (j : Walked) → IsTallied n done j → (k : Walked) → answer.Walk j ≡ answer.Walk k
      → IsTallied n (done + 0) k
  answer_led done j t k is = subst (λ (d : ℕ). IsTallied n d k) (let z : done ≡ done + 0 = omega arith in z)
      (subst (IsTallied n done) (walk_is j k is) t)

  next_led : (done : ℕ) (w : Walking) (o : Option CalledEntry) (seen : Seen) (hit : Bool) → Counts n done w
      → Led done (call_next aim w o seen hit)
  next_led done w None seen hit k = answer_led done (answered w false)
      (end_tallied done w end_as.End (λ is. cc) k)
  next_led done w (Some c) seen hit k = entry_led done w c c.kind seen hit k

  start_counts : (done more : ℕ) (w : Walking) → done ≡ 0 → more ≡ done → w.woken ≡ 0 → w.selected ≡ 0 → (m : ℕ)
      → m ≡ n → w.left ≡ m → Counts n more w
  start_counts done more w none same a b zero is c = record {
    tells = omega (arith, none, same, a);
    among = omega (arith, b);
    sum = inl (sym is, c);
  }
  start_counts done more w none same a b (suc m) is c = record {
    tells = omega (arith, none, same, a);
    among = omega (arith, b);
    sum = inr (omega (arith, b, c, is), omega (arith, c));
  }

  resumed_counts : (done more : ℕ) (w : Walking) (o : Option Mark) → more ≡ done → Counts n done w
      → Counts n more (resumed w o)
  resumed_counts done more w None same k = same_counts done more w w same refl refl refl k
  resumed_counts done more w (Some q) same k =
      same_counts done more w (resumed w (Some q)) same refl refl refl k

  walk_tally : (done : ℕ) (p : WalkPoint) (seen : Seen) → TallyAt done p
      → LedTo (done + yes_by (told_at p) (walk_event aim p seen).event) (walk_event aim p seen).next
  walk_tally done (walking.Page staging.Try w c) seen k = stage_led staging.Hand done
      (event.TasFor (word_of aim.watch) c.who (flag (bit_at seen.value (bit_of aim.watch)))) refl
      (misses aim.watch seen.value) w c (λ s. s) k
  walk_tally done (walking.Page staging.Hand w c) seen k = (done, refl, k)
  walk_tally done (walking.Page staging.Wake w c) seen k = (k.0, let is = k.1 in omega (arith, is), k.2)
  walk_tally done (walking.Page staging.Off w c) seen k = handed_led done (done + 0) w c (omega arith) k
  walk_tally done (walking.Stopped w) seen k = answer_led done _
      (end_tallied done w end_as.Stopped (λ is. cc) k)
  walk_tally done walking.Lock seen none =
      start_counts done (done + 0) _ none (omega arith) refl refl n refl refl
  walk_tally done (walking.Call w) seen k =
      let v : Walking = reached w seen.calls in
      let at_v : Counts n done v = same_counts done done w v refl refl refl refl k in
      either (Led done) seen.breaks _ _ (same_counts done (done + 0) v v (omega arith) refl refl refl at_v)
      (next_led done v seen.called seen (meets (mask_of aim.mode) seen.other.state) at_v)
  walk_tally done (walking.Bit w c) seen k =
      off_led done c.who w c (meets (mask_of aim.mode) seen.other.state) k
  walk_tally done (walking.Wake w c) seen k = onward_led
      (done + yes_by false (event.Wake c.who (meets (mask_of aim.mode) seen.other.state)))
      (past w c (meets (mask_of aim.mode) seen.other.state))
      (past_counts done c.who w c (meets (mask_of aim.mode) seen.other.state) k)
  walk_tally done (walking.Unqueue w who) seen k = onward_led (done + 0) w
      (subst (λ (d : ℕ). After w.spent n d w) (let z : done ≡ done + 0 = omega arith in z) k)
  walk_tally done (walking.Spent w) seen k = answer_led done (answered w true) (spent_tallied done w k)
  walk_tally done (walking.BreakUnlock w) seen k =
      same_counts done (done + 0) w w (omega arith) refl refl refl k
  walk_tally done (walking.BreakLock w) seen k =
      same_counts done (done + 0) w (again w) (omega arith) refl refl refl k
  walk_tally done (walking.Unmark w) seen k = resumed_counts done (done + 0) w seen.mark (omega arith) k

  -- after an event that tells no task of a page
  onward_heard : (w : Walking) → Hears false (next.Go (onward w))
  onward_heard w = by w.spent
    where
      by : (b : Bool) → Hears false (next.Go (if b then at.Walk (walking.Spent w) else at.Walk (walking.Call w)))
      by true = refl
      by false = refl

  either_heard : (b : Bool) (p q : WalkPoint) → told_at p ≡ false → told_at q ≡ false
      → Hears false (next.Go (at.Walk (if b then p else q)))
  either_heard true p q one two = sym one
  either_heard false p q one two = sym two

  entry_heard : (w : Walking) (c : CalledEntry) (j : Kind) (seen : Seen) (hit : Bool)
      → Hears (tells_page (call_entry aim w c j seen hit).event) (call_entry aim w c j seen hit).next
  entry_heard w c kind.Default seen hit = onward_heard (past w c hit)
  entry_heard w c kind.Autoremove seen hit = either_heard hit _ _ refl refl
  entry_heard w c kind.Woken seen hit = refl
  entry_heard w c kind.Bit seen hit = either_heard (misses aim.watch seen.value) _ _ refl refl
  entry_heard w c kind.Page seen hit = either_heard (misses aim.watch seen.value) _ _ refl refl
  entry_heard w c kind.Var seen hit = either_heard hit _ _ refl refl
  entry_heard w c kind.Simple seen hit = onward_heard (past w c hit)

  next_heard : (w : Walking) (o : Option CalledEntry) (seen : Seen) (hit : Bool)
      → Hears (tells_page (call_next aim w o seen hit).event) (call_next aim w o seen hit).next
  next_heard w None seen hit = tt
  next_heard w (Some c) seen hit = entry_heard w c c.kind seen hit

  abbrev IsHeard : Planned → Type 0
  IsHeard x = Hears (tells_page x.event) x.next

  walk_heard : (p : WalkPoint) (seen : Seen) → IsHeard (walk_event aim p seen)
  walk_heard (walking.Call w) seen = either IsHeard seen.breaks _ _ refl
      (next_heard (reached w seen.calls) seen.called seen (meets (mask_of aim.mode) seen.other.state))
  walk_heard (walking.Bit w c) seen = either_heard (meets (mask_of aim.mode) seen.other.state) _ _ refl refl
  walk_heard (walking.Page staging.Try w c) seen = either_heard (misses aim.watch seen.value) _ _ refl refl
  walk_heard (walking.Page staging.Off w c) seen = onward_heard (past w c true)
  walk_heard (walking.Stopped w) seen = tt
  walk_heard (walking.Wake w c) seen = onward_heard (past w c (meets (mask_of aim.mode) seen.other.state))
  walk_heard (walking.Unqueue w who) seen = onward_heard w
  walk_heard (walking.Spent w) seen = tt
  walk_heard _ seen = refl

  -- whole walks
  abbrev f : Program
  f = walk_program aim

  run_tail : (ts : List Transition) (j new : Known) (done : ℕ) (k : Walked) (told : Bool)
      → ((q : WalkPoint) → Goes f j (next.Go (at.Walk q)) ts new (next.Ends (answer.Walk k)) → TallyAt done q
      → IsTallied n (done + yes_from (told_at q) (said f (next.Go (at.Walk q)) ts)) k)
      → (nx : Next) → Goes f j nx ts new (next.Ends (answer.Walk k)) → LedTo done nx → Hears told nx
      → IsTallied n (done + yes_from told (said f nx ts)) k
  run_tail ts j new done k told rec (next.Go (at.Walk q)) g led heard = subst
      (λ (b : Bool). IsTallied n (done + yes_from b (said f (next.Go (at.Walk q)) ts)) k) (sym heard) (rec q g led)
  run_tail ts j new done k told rec (next.Go p) g led heard = absurd led
  run_tail [] j new done k told rec (next.Ends b) g led heard =
      let same : b ≡ answer.Walk k = (let z : next.Ends (answer.Walk k) ≡ next.Ends b = g.1 in cc) in
      subst (λ (d : ℕ). IsTallied n d k) (let z : done ≡ done + 0 = omega arith in z) (led k same)
  run_tail (t ∷ ts) j new done k told rec (next.Ends b) g led heard = absurd g

  one_more : (done : ℕ) (told : Bool) (e : Event) (w : List Event)
      → (done + yes_by told e) + yes_from (tells_page e) w ≡ done + yes_from told (e ∷ w)
  one_more done told e w = omega arith

  run_selects : (ts : List Transition) (p : WalkPoint) (old new : Known) (done : ℕ) (k : Walked) → TallyAt done p
      → Goes f old (next.Go (at.Walk p)) ts new (next.Ends (answer.Walk k))
      → IsTallied n (done + yes_from (told_at p) (said f (next.Go (at.Walk p)) ts)) k
  run_selects [] p old new done k h g =
      absurd (let z : next.Ends (answer.Walk k) ≡ next.Go (at.Walk p) = g.1 in cc)
  run_selects (t ∷ ts) p old new done k h g =
      let plan : Planned = walk_event aim p t.seen in
      subst (λ (d : ℕ). IsTallied n d k) (one_more done (told_at p) plan.event (said f plan.next ts))
      (run_tail ts (after_transition t) new (done + yes_by (told_at p) plan.event) k (tells_page plan.event)
      (λ q on led. run_selects ts q (after_transition t) new (done + yes_by (told_at p) plan.event) k led on)
      plan.next g.1 (walk_tally done p t.seen h) (walk_heard p t.seen))

pub runs_select : RunsSelect
runs_select aim old new k m = subst (λ (d : ℕ). IsTallied aim.count d k) (omega arith)
    (run_selects aim m.transitions walking.Lock old new 0 k refl m.goes)

-- and what follows the sentence of a wake, by the program that makes it
module _ (me c n : ℕ) (mode : Mode) where
  abbrev call : Call
  call = calls.Wake c mode n

  word_tail : (w : List Event) (m : Noted) (done : ℕ) (k : Walked) (told : Bool)
      → ((q : WalkPoint) → Makes me call m (at.Walk q) w (answer.Walk k) → TallyAt (call_aim call) done q
      → IsTallied n (done + yes_from (told_at (call_aim call) q) w) k)
      → (nx : Next) → goes_to (λ q v b. Makes me call m q w b) nx w (answer.Walk k) → LedTo (call_aim call) done nx
      → Hears (call_aim call) told nx → IsTallied n (done + yes_from told w) k
  word_tail w m done k told rec (next.Go (at.Walk q)) x led heard =
      subst (λ (b : Bool). IsTallied n (done + yes_from b w) k) (sym heard) (rec q x led)
  word_tail w m done k told rec (next.Go p) x led heard = absurd led
  word_tail [] m done k told rec (next.Ends b) x led heard =
      subst (λ (d : ℕ). IsTallied n d k) (let z : done ≡ done + 0 = omega arith in z) (led k (sym x))
  word_tail (e ∷ w) m done k told rec (next.Ends b) x led heard = absurd x

  word_selects : (w : List Event) (m : Noted) (p : WalkPoint) (done : ℕ) (k : Walked) → TallyAt (call_aim call) done p
      → Makes me call m (at.Walk p) w (answer.Walk k)
      → IsTallied n (done + yes_from (told_at (call_aim call) p) w) k
  word_selects [] m p done k h x = absurd x
  word_selects (e ∷ w) m p done k h x =
      let (seen, may, is, more) = x in
      let plan : Planned = walk_event (call_aim call) p seen in
      let told : Bool = told_at (call_aim call) p in
      subst (λ (d : ℕ). IsTallied n d k) (one_more (call_aim call) done told e w)
      (word_tail w (notes m e) (done + yes_by told e) k (tells_page e)
      (λ q on led. word_selects w (notes m e) q (done + yes_by told e) k led on) plan.next more
      (subst (λ (d : Event). LedTo (call_aim call) (done + yes_by told d) plan.next) (sym is)
      (walk_tally (call_aim call) done p seen h))
      (subst (λ (d : Event). Hears (call_aim call) (tells_page d) plan.next) (sym is)
      (walk_heard (call_aim call) p seen)))

pub words_select : WordsSelect
words_select me c n mode w k follows = subst (λ (d : ℕ). IsTallied n d k) (omega arith)
    (word_selects me c n mode w none_noted walking.Lock 0 k refl
    (sentences_are_made me (calls.Wake c mode n) w (answer.Walk k) follows))
