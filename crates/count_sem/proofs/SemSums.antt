-- What a step adds to the permits that its task has given and taken, and to the sums over all tasks.
use Rattle.std.proofs.Common.{sym, ◌∙◌, ap, arith}
use Rattle.std.specs.Prelude.{ℕ, ◌≡◌, ◌≢◌, ◌+◌, ◌<◌, Bool, List, [], ◌∷◌, ◌++◌}
use Rattle.wait_model.specs.{declared.layout.TheConstants.TASKS, declared.steps.Step.Step, Fold.after, Fold.after_all}
use Rattle.wait_model.specs.{Runs.own, Tables.Table, Tables.next, Totals.sum_below, Views.View, Views.blank}
use Rattle.wait_model.specs.{Watches.stands_at, Words.flag}
use Rattle.wait_model.specs.Permits.{Dealt, deals, deals_all, done_head, none_dealt}
use Rattle.wait_model.specs.PermitFacts.{AreViewsTold, dealt_in, is_settled}
use Rattle.wait_model.proofs.{Functions.put_other, Functions.put_same, HistoryLaws.StepTotals.sum_grown}
use Rattle.wait_model.proofs.{PermitLaws.PermitTurns.due, PermitLaws.Sums.rest_is, PermitLaws.Sums.rest_same}
use Rattle.wait_model.proofs.PermitLaws.OwnTurns.{other_dealt, other_view, own_dealt, own_view}
use Rattle.count_sem.specs.SemPermits.{AreSemSteps, IsSemStep, counted_from, gives_permit, permits_given, permits_taken}
use Rattle.count_sem.specs.SemPermits.{takes_permit}

pub counted_snoc : (test : ℕ → ℕ → View → Dealt → Step → Bool) (d x : ℕ) (v : View) (w : Dealt) (es : List Step)
    (e : Step)
    → counted_from test d x v w (es ++ e ∷ []) ≡ counted_from test d x v w es
    + flag (test d x (after_all v es) (deals_all d x v w es) e)
counted_snoc test d x v w [] e = omega arith
counted_snoc test d x v w (f ∷ es) e =
    let ih = counted_snoc test d x (after f v) (deals d x v w f) es e in omega (arith, ih)

-- the steps before, and the last; and one step more
pub sem_before : (d : ℕ) (v : View) (es : List Step) (e : Step) → AreSemSteps d v (es ++ e ∷ []) → AreSemSteps d v es
sem_before d v [] e are = tt
sem_before d v (f ∷ es) e are = (are.0, sem_before d (after f v) es e are.1)

pub sem_last : (d : ℕ) (v : View) (es : List Step) (e : Step) → AreSemSteps d v (es ++ e ∷ [])
    → IsSemStep d (after_all v es) e
sem_last d v [] e are = are.0
sem_last d v (f ∷ es) e are = sem_last d (after f v) es e are.1

pub sem_more : (d : ℕ) (v : View) (es : List Step) (e : Step) → AreSemSteps d v es → IsSemStep d (after_all v es) e
    → AreSemSteps d v (es ++ e ∷ [])
sem_more d v [] e are is = (is, tt)
sem_more d v (f ∷ es) e are is = (are.0, sem_more d (after f v) es e are.1 is)

-- the permit that was given to a task and that it has still to come for
abbrev pub due_of : Table → ℕ → ℕ → ℕ
due_of s d b = due (dealt_in s d b).left (is_settled d (own b) (s.view b)) (stands_at (s.entry (own b)) (done_head d))

abbrev pub owed_to : Table → ℕ → ℕ → ℕ
owed_to s d b = permits_taken d b (s.history b) + due_of s d b

abbrev pub given_sum : Table → ℕ → ℕ
given_sum s d = sum_below TASKS (λ b. permits_given d b (s.history b))

module _ (s : Table) (a : ℕ) (e : Step) (d : ℕ) (told : AreViewsTold s) where
  abbrev pub gives : ℕ
  gives = flag (gives_permit d (own a) (s.view a) (dealt_in s d a) e)

  abbrev pub takes : ℕ
  takes = flag (takes_permit d (own a) (s.view a) (dealt_in s d a) e)

  counted_own : (test : ℕ → ℕ → View → Dealt → Step → Bool)
      → counted_from test d (own a) blank none_dealt ((next s a e).history a)
      ≡ counted_from test d (own a) blank none_dealt (s.history a) + flag (test d (own a) (s.view a) (dealt_in s d a) e)
  counted_own test = ap (counted_from test d (own a) blank none_dealt) (put_same s.history a (s.history a ++ e ∷ []))
      ∙ (counted_snoc test d (own a) blank none_dealt (s.history a) e
      ∙ ap (λ (v : View). counted_from test d (own a) blank none_dealt (s.history a)
      + flag (test d (own a) v (dealt_in s d a) e)) (sym (told a)))

  counted_other : (test : ℕ → ℕ → View → Dealt → Step → Bool) (b : ℕ) → b ≢ a
      → counted_from test d (own b) blank none_dealt ((next s a e).history b)
      ≡ counted_from test d (own b) blank none_dealt (s.history b)
  counted_other test b ne = ap (counted_from test d (own b) blank none_dealt)
      (put_other s.history a (s.history a ++ e ∷ []) b ne)

  abbrev pub due_then : ℕ
  due_then = due (deals d (own a) (s.view a) (dealt_in s d a) e).left (is_settled d (own a) (after e (s.view a)))
      (stands_at ((next s a e).entry (own a)) (done_head d))

  pub own_due : due_of (next s a e) d a ≡ due_then
  own_due = ap (λ (v : View). due (dealt_in (next s a e) d a).left (is_settled d (own a) v)
      (stands_at ((next s a e).entry (own a)) (done_head d))) (own_view s a e d told)
      ∙ ap (λ (w : Dealt). due w.left (is_settled d (own a) (after e (s.view a)))
      (stands_at ((next s a e).entry (own a)) (done_head d))) (own_dealt s a e d told)

  pub other_due : (b : ℕ) → b ≢ a
      → due_of (next s a e) d b ≡ due (dealt_in s d b).left (is_settled d (own b) (s.view b))
      (stands_at ((next s a e).entry (own b)) (done_head d))
  other_due b ne = ap (λ (v : View). due (dealt_in (next s a e) d b).left (is_settled d (own b) v)
      (stands_at ((next s a e).entry (own b)) (done_head d))) (other_view s a e d told b ne)
      ∙ ap (λ (w : Dealt). due w.left (is_settled d (own b) (s.view b))
      (stands_at ((next s a e).entry (own b)) (done_head d))) (other_dealt s a e d told b ne)

  pub owed_own : owed_to (next s a e) d a ≡ (permits_taken d a (s.history a) + takes) + due_then
  owed_own =
      let one = counted_own takes_permit in
      let two = own_due in omega (arith, one, two)

  pub owed_other : (b : ℕ) → b ≢ a
      → stands_at ((next s a e).entry (own b)) (done_head d) ≡ stands_at (s.entry (own b)) (done_head d)
      → owed_to (next s a e) d b ≡ owed_to s d b
  owed_other b ne same =
      let one = counted_other takes_permit b ne in
      let two : due_of (next s a e) d b ≡ due_of s d b = other_due b ne
      ∙ ap (λ (t : Bool). due (dealt_in s d b).left (is_settled d (own b) (s.view b)) t) same in
      omega (arith, one, two)

  -- another's, whose entry is taken off
  pub owed_moved : (b : ℕ) → b ≢ a → owed_to (next s a e) d b ≡ permits_taken d b (s.history b)
      + due (dealt_in s d b).left (is_settled d (own b) (s.view b)) (stands_at ((next s a e).entry (own b))
      (done_head d))
  owed_moved b ne =
      let one = counted_other takes_permit b ne in
      let two = other_due b ne in omega (arith, one, two)

  module _ (lt : a < TASKS) where
    pub given_next : given_sum (next s a e) d ≡ given_sum s d + gives
    given_next = sum_grown TASKS a gives (λ b. permits_given d b (s.history b))
        (λ b. permits_given d b ((next s a e).history b)) lt (counted_own gives_permit)
        (λ b ne. counted_other gives_permit b ne)

    -- what the step changes for one task
    pub sums_next : (b : ℕ) → b < TASKS → ((i : ℕ) → i ≢ b → owed_to (next s a e) d i ≡ owed_to s d i)
        → gives + (owed_to s d b + s.words.dones d) ≡ owed_to (next s a e) d b + (next s a e).words.dones d
        → given_sum s d ≡ sum_below TASKS (owed_to s d) + s.words.dones d
        → given_sum (next s a e) d ≡ sum_below TASKS (owed_to (next s a e) d) + (next s a e).words.dones d
    sums_next b few others moved was =
        let one = given_next in
        let first = rest_is TASKS b (owed_to s d) few in
        let later = rest_is TASKS b (owed_to (next s a e) d) few in
        let same = rest_same TASKS b (owed_to s d) (owed_to (next s a e) d) others in
        omega (arith, one, first, later, same, moved, was)
