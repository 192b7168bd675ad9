-- A count is asked, cleared, and taken where it is there: the transitions, and what the calls carry on.
use Rattle.std.proofs.Common.{◌∙◌, ap, sym, refl, subst, arith, append_assoc, append-nil}
use Rattle.std.specs.Prelude.{ℕ, ◌≡◌, ◌≤◌, ◌-◌, ◌||◌, ◌==◌, not, nat_lt, if◌then◌else◌, Bool, true, false, Some, None}
use Rattle.std.specs.Prelude.{List, [], ◌∷◌, ◌++◌, MatchBool}
use Rattle.std.proofs.lemmas.Bool.Decides.{nat_tests}
use Rattle.wait_model.specs.{declared.layout.TheConstants.ALL_DONE, declared.points.CountPoint.CountPoint}
use Rattle.wait_model.specs.{declared.steps.Step.Step, Counts.taken_done, Runs.is_publishing, Runs.set_step}
use Rattle.wait_model.specs.Watches.{head_of}
use Rattle.wait_model.specs.Programs.{count_after, done_in, ends_with, go, load, zero_answer}
use Rattle.wait_model.specs.declared.calls.Call.TheVariants as calls
use Rattle.wait_model.specs.declared.points.CountPoint.TheVariants as counting
use Rattle.wait_model.specs.declared.points.Next.TheVariants as next
use Rattle.wait_model.specs.declared.points.Point.TheVariants as at
use Rattle.wait_model.specs.declared.steps.Step.TheVariants as step
use Rattle.wait_model.specs.declared.watches.Watch.TheVariants as watch
use Rattle.wait_model.proofs.SentenceLaws.SentenceAwaits.{shown_count}
use Rattle.wait_rule.specs.{declared.journal.Item.Item, Counts.FindsCount, Counts.StoresCount, Items.steps_of}
use Rattle.wait_rule.specs.{Known.Known, Queues.IsTold, Queues.walk_of_hold, Transitions.call_program}
use Rattle.wait_rule.specs.Says.{IsFree, added, history_of, told_of, unlocked_with}
use Rattle.wait_rule.specs.Stays.{Carries, lock_change, unchanged, unlock_change, no_entries}
use Rattle.wait_rule.specs.declared.journal.Item.TheVariants as item
use Rattle.wait_rule.proofs.{KnownLaws.CarriedTasks.unchanged_none, KnownLaws.CarriedTasks.unchanged_on}
use Rattle.wait_rule.proofs.{KnownLaws.TaskHistories.history_after, KnownLaws.Transitions.only_none}
use Rattle.wait_rule.proofs.TableSteps.ItemLists.{steps_append}
use Rattle.wq_head.specs.Holds.{HasLocked, HasUnlocked}
use Rattle.wait_event.specs.Entries.{hold_change}
use Rattle.wait_class.specs.{Posts.Runs, Findings.with_value}
use Rattle.wait_event.proofs.Entering.{hold_carried, looked_carried}
use Rattle.wait_class.proofs.{Ground.Going.runs_none, Ground.Going.runs_on, Histories.unlocked_history}
use Rattle.completion_cell.specs.Asks.{HasCountedDone, Decides, HasAsked, HasReset, HasTriedCell, TakesOne, hit_answer}
use Rattle.completion_cell.proofs.Ground.{as_looks, count_loads, count_locks, count_peeks, loaded_count}
use Rattle.completion_cell.proofs.Ground.{count_unlocks, quiet_store}
use Rattle.completion_cell.proofs.RangedLoads.{AreSmall, called_by, set_small, small_on}

-- a whole hold carries on what what is done in it changes nothing of
pub whole_carried : (old a b new : Known) → IsFree old → (told_of old).hold.head ≡ None → (h : ℕ)
    → Carries (lock_change h) old a → Carries unchanged a b → Carries unlock_change b new
    → Carries (hold_change new.at) old new
whole_carried old a b new free none h one two three =
    hold_carried (λ x. x) (λ x. x) no_entries false old a b new free none h one two three

-- a store of 0 makes no count
pub clears_none : (d found : ℕ) → is_publishing (watch.Done d) found 0 ≡ false
clears_none d found = grind (arith, nat_tests)

-- a load before it
pub behind_load : (old mid new : Known) → Carries unchanged old mid → Carries (hold_change new.at) mid new
    → Carries (hold_change new.at) old new
behind_load old mid new one two =
    looked_carried (λ x. x) (λ x. x) no_entries true (λ _. new.at) old mid new (as_looks old mid one) two

pub none_held : (old : Known) → IsTold old → IsFree old → (told_of old).hold.head ≡ None
none_held old told free = told.head ∙ free.head

pub free_on : (old mid : Known) → Carries unchanged old mid → IsFree old → IsFree mid
free_on old mid k free = record { head = k.head ∙ free.head; ticket = k.ticket ∙ free.ticket }

-- the first step stays the first
pub steps_on : (old mid new : Known) (e : Step) (more : List Step) → history_of mid ≡ history_of old ++ e ∷ []
    → history_of new ≡ history_of mid ++ more → history_of new ≡ history_of old ++ e ∷ more
steps_on old mid new e more one two = two
    ∙ (ap (λ (l : List Step). l ++ more) one ∙ append_assoc (history_of old) (e ∷ []) more)

-- a lock adds one step to the history
silent_items : (xs ys : List Item) → steps_of ys ≡ [] → steps_of (xs ++ ys) ≡ steps_of xs
silent_items xs ys none = steps_append xs ys
    ∙ (ap (λ (es : List Step). steps_of xs ++ es) none ∙ append-nil (steps_of xs))

pub locked_history : (old a : Known) (h : ℕ) → (l : HasLocked old a h (walk_of_hold h None))
    → history_of a ≡ history_of old ++ step.Lock h (walk_of_hold h None) l.found ∷ []
locked_history old a h l = ap history_of l.is
    ∙ (steps_append (l.waited.view.items ++ item.Serving h l.ticket ∷ [])
    (item.Made (step.Lock h (walk_of_hold h None) l.found) ∷ [])
    ∙ ap (λ (es : List Step). es ++ step.Lock h (walk_of_hold h None) l.found ∷ []) turn)
  where
    turn : steps_of (l.waited.view.items ++ item.Serving h l.ticket ∷ []) ≡ history_of old
    turn = silent_items l.waited.view.items (item.Serving h l.ticket ∷ []) refl
        ∙ (ap history_of l.waits.is
        ∙ (silent_items (old.view.items ++ item.Drawn h l.ticket ∷ []) l.waits.tries l.waits.no_steps
        ∙ silent_items old.view.items (item.Drawn h l.ticket ∷ []) refl))

-- a count that was loaded in a hold
pub counted_after : (d n : ℕ) (old new : Known) → old.book.head ≡ Some (head_of (watch.Done d))
    → new ≡ added old (item.Made (step.Load (watch.Done d) n)) → FindsCount old d n → Carries unchanged old new
    → HasCountedDone new d n
counted_after d n old new held is finds carries = record {
  held = carries.head ∙ held;
  loaded = loaded_count d n old new is;
  small = finds.0;
}

-- a count is asked
module _ (old a : Known) (d v : ℕ) (is : a ≡ added old (item.Made (step.Load (watch.Done d) v)))
    (one : Carries unchanged old a) where
  ask_history : history_of a ≡ history_of old ++ step.Load (watch.Done d) v ∷ []
  ask_history = history_after old a (step.Load (watch.Done d) v) is

  pub asked_none : v ≡ 0 → HasAsked old a d false
  asked_none zero =
      let z : (v == 0) ≡ true = grind (arith, nat_tests) in record {
        runs = called_by old a (calls.IsDone d) (at.Count counting.Peek) (hit_answer false)
            (subst (λ (b : Bool). Runs (call_program old.view.number 0 (calls.IsDone d)) old a
            (next.Go (at.Count counting.Peek)) (if b then ends_with (load (calls.IsDone d) (with_value v)) zero_answer
            else go (load (calls.IsDone d) (with_value v)) (at.Count counting.Lock)).next) z
            (count_peeks old.view.number (calls.IsDone d) d refl old a v is)) (step.Load (watch.Done d) v ∷ [])
            ask_history (omega (arith, zero), tt);
        count = v;
        loads = ([], ask_history);
        tells = sym (ap not z);
      }

  module _ (b new : Known) (small : v ≤ ALL_DONE) (some : (v == 0) ≡ false)
      (l : HasLocked a b (head_of (watch.Done d)) (walk_of_hold (head_of (watch.Done d)) None))
      (u : new ≡ unlocked_with b b.at false) where
    at_lock : b.at ≡ head_of (watch.Done d)
    at_lock = ap (λ (k : Known). k.at) l.is

    abbrev ask_lock : Step
    ask_lock = step.Lock (head_of (watch.Done d)) (walk_of_hold (head_of (watch.Done d)) None) l.found

    asked_history : history_of new ≡ history_of old ++ step.Load (watch.Done d) v ∷ ask_lock ∷ step.Unlock b.at false ∷ []
    asked_history = steps_on old a new (step.Load (watch.Done d) v) (ask_lock ∷ step.Unlock b.at false ∷ []) ask_history
        (steps_on a b new ask_lock (step.Unlock b.at false ∷ []) (locked_history a b (head_of (watch.Done d)) l)
        (unlocked_history b new u))

    pub asked_some : HasAsked old new d true
    asked_some =
        let f = call_program old.view.number 0 (calls.IsDone d) in record {
          runs = called_by old new (calls.IsDone d) (at.Count counting.Peek) (hit_answer true)
              (runs_on f old a new (next.Go (at.Count counting.Peek)) (next.Go (at.Count counting.Lock))
              (next.Ends (hit_answer true))
              (subst (λ (z : Bool). Runs f old a
              (next.Go (at.Count counting.Peek))
              (if z then ends_with (load (calls.IsDone d) (with_value v)) zero_answer
              else go (load (calls.IsDone d) (with_value v)) (at.Count counting.Lock)).next) some
              (count_peeks old.view.number (calls.IsDone d) d refl old a v is))
              (runs_on f a b new (next.Go (at.Count counting.Lock)) (next.Go (at.Count (counting.Unlock true)))
              (next.Ends (hit_answer true)) (count_locks old.view.number (calls.IsDone d) d refl a b l)
              (count_unlocks old.view.number (calls.IsDone d) d refl true b new at_lock u)))
              (step.Load (watch.Done d) v ∷ ask_lock ∷ step.Unlock b.at false ∷ []) asked_history (small, (tt, (tt, tt)));
          count = v;
          loads = (ask_lock ∷ step.Unlock b.at false ∷ [], asked_history);
          tells = sym (ap not some);
        }

-- a count is cleared
publishes_none : (found : ℕ) → (nat_lt found 0 || (0 == ALL_DONE)) ≡ false
publishes_none found = grind (arith, nat_tests)

module _ (old a b new : Known) (d : ℕ) (s : StoresCount a b d 0)
    (l : HasLocked old a (head_of (watch.Done d)) (walk_of_hold (head_of (watch.Done d)) None))
    (u : new ≡ unlocked_with b b.at false) where
  pub reset_carried : Carries unchanged a b
  reset_carried = s.consumes (publishes_none s.found)

  abbrev reset_lock : Step
  reset_lock = step.Lock (head_of (watch.Done d)) (walk_of_hold (head_of (watch.Done d)) None) l.found

  pub has_reset : HasReset old new d
  has_reset =
      let f = call_program old.view.number 0 (calls.Reinit d) in
      called_by old new (calls.Reinit d) (at.Count counting.Lock) zero_answer (runs_on f old a new (next.Go (at.Count counting.Lock)) (next.Go (at.Count counting.Store))
      (next.Ends zero_answer) (count_locks old.view.number (calls.Reinit d) d refl old a l)
      (runs_on f a b new (next.Go (at.Count counting.Store)) (next.Go (at.Count (counting.Unlock false)))
      (next.Ends zero_answer)
      (quiet_store f (at.Count counting.Store) a b (with_value s.found) d 0 s.found _ 0 _ refl refl refl refl refl tt tt
      tt a (only_none a) s.is).0
      (count_unlocks old.view.number (calls.Reinit d) d refl false b new
      (reset_carried.at ∙ ap (λ (k : Known). k.at) l.is) u)))
      (reset_lock ∷ set_step (watch.Done d) 0 s.found ∷ step.Unlock b.at false ∷ [])
      (steps_on old a new reset_lock (set_step (watch.Done d) 0 s.found ∷ step.Unlock b.at false ∷ [])
      (locked_history old a (head_of (watch.Done d)) l)
      (steps_on a b new (set_step (watch.Done d) 0 s.found) (step.Unlock b.at false ∷ [])
      (history_after a b (set_step (watch.Done d) 0 s.found) s.is) (unlocked_history b new u)))
      (tt, ((set_small (watch.Done d) 0 s.found).0, (tt, tt)))

-- one is taken of a count that a hold has loaded
module _ (old new : Known) (d n : ℕ) (c : HasCountedDone old d n) (took : Bool) (takes : TakesOne n took)
    (made : MatchBool took (StoresCount old new d (n - 1)) (new ≡ old)) where
  -- where one is there and the count is not at its end
  pub lowers : (n == 0) ≡ false → (found : ℕ) → found ≡ n → is_publishing (watch.Done d) found (n - 1) ≡ false
  lowers some found same =
      let small = c.small in
      let pos : (n == 0) ≡ false = some in
      grind (arith, nat_tests, same, small, pos)

  took_is : (z e : Bool) → (n == 0) ≡ z → (n == ALL_DONE) ≡ e → took ≡ not (z || e)
  took_is z e one two = takes ∙ (λ i. not (one i || two i))

  stored : (z e : Bool) → (n == 0) ≡ z → (n == ALL_DONE) ≡ e
      → MatchBool (not (z || e)) (StoresCount old new d (n - 1)) (new ≡ old)
  stored z e one two = subst (λ (b : Bool). MatchBool b (StoresCount old new d (n - 1)) (new ≡ old))
      (took_is z e one two) made

  pub take_carried : Carries unchanged old new
  take_carried = by (n == 0) (n == ALL_DONE) refl refl
    where
      by : (z e : Bool) → (n == 0) ≡ z → (n == ALL_DONE) ≡ e → Carries unchanged old new
      by true e one two = subst (Carries unchanged old) (sym (stored true e one two)) (unchanged_none old)
      by false true one two = subst (Carries unchanged old) (sym (stored false true one two)) (unchanged_none old)
      by false false one two =
          let s = stored false false one two in
          s.consumes (lowers one s.found (s.finds.1 c.held n c.loaded))

  after_is : (z e : Bool) → (n == 0) ≡ z → (n == ALL_DONE) ≡ e
      → count_after n ≡ (if z then counting.Unlock false else if e then counting.Unlock true else counting.Store)
  after_is z e one two = λ i. if one i then counting.Unlock false
      else if (ap (λ (m : ℕ). m == ALL_DONE) (shown_count n c.small) ∙ two) i then counting.Unlock true
      else counting.Store

  pub one_less : (n == ALL_DONE) ≡ false → n - 1 ≡ taken_done (done_in n)
  one_less ends = sym (ap taken_done (shown_count n c.small)
      ∙ ap (λ (b : Bool). if b then n else n - 1) ends)

  along : (z e : Bool) → (n == 0) ≡ z → (n == ALL_DONE) ≡ e
      → Runs (call_program old.view.number 0 (calls.TryWait d)) old new
      (next.Go (at.Count (if z then counting.Unlock false else if e then counting.Unlock true else counting.Store)))
      (next.Go (at.Count (counting.Unlock (not z))))
  along true e one two = subst (λ (k : Known). Runs (call_program old.view.number 0 (calls.TryWait d)) old k
      (next.Go (at.Count (counting.Unlock false))) (next.Go (at.Count (counting.Unlock false))))
      (sym (stored true e one two)) (runs_none (call_program old.view.number 0 (calls.TryWait d)) old _)
  along false true one two = subst (λ (k : Known). Runs (call_program old.view.number 0 (calls.TryWait d)) old k
      (next.Go (at.Count (counting.Unlock true))) (next.Go (at.Count (counting.Unlock true))))
      (sym (stored false true one two)) (runs_none (call_program old.view.number 0 (calls.TryWait d)) old _)
  along false false one two =
      let s = stored false false one two in
      (quiet_store (call_program old.view.number 0 (calls.TryWait d)) (at.Count counting.Store) old new (with_value n) d
      (n - 1) s.found _ (taken_done (done_in n)) _ refl refl refl (one_less two) (sym (s.finds.1 c.held n c.loaded)) tt
      tt tt old (only_none old) s.is).0

  pub take_runs : Runs (call_program old.view.number 0 (calls.TryWait d)) old new
      (next.Go (at.Count (count_after n))) (next.Go (at.Count (counting.Unlock (not (n == 0)))))
  take_runs = subst (λ (p : CountPoint). Runs (call_program old.view.number 0 (calls.TryWait d)) old new
      (next.Go (at.Count p)) (next.Go (at.Count (counting.Unlock (not (n == 0))))))
      (sym (after_is (n == 0) (n == ALL_DONE) refl refl)) (along (n == 0) (n == ALL_DONE) refl refl)

  -- the steps of the take
  pub take_history : (es : List Step) × (history_of new ≡ history_of old ++ es) × AreSmall es
  take_history = by (n == 0) (n == ALL_DONE) refl refl
    where
      by : (z e : Bool) → (n == 0) ≡ z → (n == ALL_DONE) ≡ e
          → (es : List Step) × (history_of new ≡ history_of old ++ es) × AreSmall es
      by true e one two = ([], ap history_of (stored true e one two) ∙ sym (append-nil (history_of old)), tt)
      by false true one two = ([], ap history_of (stored false true one two) ∙ sym (append-nil (history_of old)), tt)
      by false false one two =
          let s = stored false false one two in (
            set_step (watch.Done d) (n - 1) s.found ∷ [],
            history_after old new _ s.is,
            set_small (watch.Done d) (n - 1) s.found,
          )

-- the whole calls, for the code
pub is_done_asked : (old a b new : Known) (d v h : ℕ) → h ≡ head_of (watch.Done d)
    → a ≡ added old (item.Made (step.Load (watch.Done d) v)) → Carries unchanged old a → (v ≡ 0 → ⊥)
    → FindsCount old d v → HasLocked a b h (walk_of_hold h None) → HasUnlocked b new false → HasAsked old new d true
is_done_asked old a b new d v h same is one ne finds l u =
    let some : (v == 0) ≡ false = grind (arith, nat_tests, ne) in
    asked_some old a d v is one b new finds.0 some (subst (λ (i : ℕ). HasLocked a b i (walk_of_hold i None)) same l) u.is

pub reinit_reset : (old a b new : Known) (d h : ℕ) → h ≡ head_of (watch.Done d)
    → HasLocked old a h (walk_of_hold h None) → StoresCount a b d 0 → HasUnlocked b new false → HasReset old new d
reinit_reset old a b new d h same l s u =
    has_reset old a b new d s (subst (λ (i : ℕ). HasLocked old a i (walk_of_hold i None)) same l) u.is

pub tried_none : (old a : Known) (d v : ℕ) → a ≡ added old (item.Made (step.Load (watch.Done d) v)) → v ≡ 0
    → HasTriedCell old a d false
tried_none old a d v is zero =
    let z : (v == 0) ≡ true = grind (arith, nat_tests) in record {
      runs = called_by old a (calls.TryWait d) (at.Count counting.Peek) (hit_answer false)
          (subst (λ (b : Bool). Runs (call_program old.view.number 0 (calls.TryWait d)) old a
          (next.Go (at.Count counting.Peek)) (if b then ends_with (load (calls.TryWait d) (with_value v)) zero_answer
          else go (load (calls.TryWait d) (with_value v)) (at.Count counting.Lock)).next) z
          (count_peeks old.view.number (calls.TryWait d) d refl old a v is)) (step.Load (watch.Done d) v ∷ [])
          (history_after old a (step.Load (watch.Done d) v) is) (omega (arith, zero), tt);
      first = v;
      loads = ([], history_after old a (step.Load (watch.Done d) v) is);
      count = v;
      decides = subst (λ (b : Bool). Decides b old a d v v) (sym z) zero;
      tells = sym (ap not z);
    }

module _ (old a b b2 : Known) (d v n h : ℕ) (same : h ≡ head_of (watch.Done d))
    (is : a ≡ added old (item.Made (step.Load (watch.Done d) v))) (one : Carries unchanged old a) (ne : v ≡ 0 → ⊥)
    (first : FindsCount old d v) (l : HasLocked a b h (walk_of_hold h None)) (again : b2 ≡ added b (item.Made (step.Load (watch.Done d) n)))
    (finds : FindsCount b d n) (two : Carries unchanged b b2) where
  pub try_counted : HasCountedDone b2 d n
  try_counted = counted_after d n b b2 (ap (λ (k : Known). k.book.head) l.is ∙ ap Some same) again finds two

  module _ (c new : Known) (took : Bool) (takes : TakesOne n took)
      (made : MatchBool took (StoresCount b2 c d (n - 1)) (c ≡ b2)) (u : HasUnlocked c new false) where
    some : (v == 0) ≡ false
    some = grind (arith, nat_tests, ne)

    locked : HasLocked a b (head_of (watch.Done d)) (walk_of_hold (head_of (watch.Done d)) None)
    locked = subst (λ (i : ℕ). HasLocked a b i (walk_of_hold i None)) same l

    at_c : c.at ≡ head_of (watch.Done d)
    at_c = (take_carried b2 c d n try_counted took takes made).at ∙ (two.at ∙ (ap (λ (k : Known). k.at) l.is ∙ same))

    number_a : a.view.number ≡ old.view.number
    number_a = one.number

    number_b2 : b2.view.number ≡ old.view.number
    number_b2 = two.number ∙ (ap (λ (k : Known). k.view.number) l.is
        ∙ (ap (λ (k : Known). k.view.number) l.waits.is ∙ one.number))

    abbrev rest : List Step
    rest = (take_history b2 c d n try_counted took takes made).0 ++ step.Unlock c.at false ∷ []

    after_lock : history_of new ≡ history_of b ++ step.Load (watch.Done d) n ∷ rest
    after_lock =
        let t = take_history b2 c d n try_counted took takes made in
        unlocked_history c new u.is
        ∙ (ap (λ (es : List Step). es ++ step.Unlock c.at false ∷ []) t.1
        ∙ (append_assoc (history_of b2) t.0 (step.Unlock c.at false ∷ [])
        ∙ (ap (λ (es : List Step). es ++ rest) (history_after b b2 (step.Load (watch.Done d) n) again)
        ∙ append_assoc (history_of b) (step.Load (watch.Done d) n ∷ []) rest)))

    abbrev try_lock : Step
    try_lock = step.Lock (head_of (watch.Done d)) (walk_of_hold (head_of (watch.Done d)) None) locked.found

    tried_history : history_of new ≡ history_of old ++ step.Load (watch.Done d) v ∷ try_lock ∷ step.Load (watch.Done d) n
        ∷ rest
    tried_history = steps_on old a new (step.Load (watch.Done d) v) (try_lock ∷ step.Load (watch.Done d) n ∷ rest)
        (history_after old a (step.Load (watch.Done d) v) is)
        (steps_on a b new try_lock (step.Load (watch.Done d) n ∷ rest)
        (locked_history a b (head_of (watch.Done d)) locked) after_lock)

    rest_small : AreSmall rest
    rest_small =
        let t = take_history b2 c d n try_counted took takes made in
        small_on t.0 (step.Unlock c.at false ∷ []) t.2 (tt, tt)

    pub tried_some : HasTriedCell old new d (not (n == 0))
    tried_some =
        let f = call_program old.view.number 0 (calls.TryWait d) in record {
          runs = called_by old new (calls.TryWait d) (at.Count counting.Peek) (hit_answer (not (n == 0)))
              (runs_on f old a new (next.Go (at.Count counting.Peek)) (next.Go (at.Count counting.Lock))
              (next.Ends (hit_answer (not (n == 0))))
              (subst (λ (z : Bool). Runs f old a (next.Go (at.Count counting.Peek))
              (if z then ends_with (load (calls.TryWait d) (with_value v)) zero_answer
              else go (load (calls.TryWait d) (with_value v)) (at.Count counting.Lock)).next) some
              (count_peeks old.view.number (calls.TryWait d) d refl old a v is))
              (runs_on f a b new (next.Go (at.Count counting.Lock)) (next.Go (at.Count counting.Load))
              (next.Ends (hit_answer (not (n == 0)))) (count_locks old.view.number (calls.TryWait d) d refl a b locked)
              (runs_on f b b2 new (next.Go (at.Count counting.Load)) (next.Go (at.Count (count_after n)))
              (next.Ends (hit_answer (not (n == 0))))
              (count_loads old.view.number (calls.TryWait d) d refl b b2 n again)
              (runs_on f b2 c new (next.Go (at.Count (count_after n)))
              (next.Go (at.Count (counting.Unlock (not (n == 0))))) (next.Ends (hit_answer (not (n == 0))))
              (subst (λ (m : ℕ). Runs (call_program m 0 (calls.TryWait d)) b2 c (next.Go (at.Count (count_after n)))
              (next.Go (at.Count (counting.Unlock (not (n == 0)))))) number_b2
              (take_runs b2 c d n try_counted took takes made))
              (count_unlocks old.view.number (calls.TryWait d) d refl (not (n == 0)) c new at_c u.is)))))
              (step.Load (watch.Done d) v ∷ try_lock ∷ step.Load (watch.Done d) n ∷ rest) tried_history
              (first.0, (tt, (finds.0, rest_small)));
          first = v;
          loads = (try_lock ∷ step.Load (watch.Done d) n ∷ rest, tried_history);
          count = n;
          decides = subst (λ (z : Bool). Decides z old new d v n) (sym some)
              (walk_of_hold (head_of (watch.Done d)) None, locked.found, rest, tried_history);
          tells = refl;
        }

    pub try_carried : IsFree old → IsTold old → Carries (lock_change h) a b → Carries unlock_change c new
        → Carries (hold_change new.at) old new
    try_carried free told lock unlock = behind_load old a new one
        (whole_carried a b c new (free_on old a one free) (one.hold ∙ none_held old told free) h lock
        (unchanged_on b b2 c two (take_carried b2 c d n try_counted took takes made)) unlock)
