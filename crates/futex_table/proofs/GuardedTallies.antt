-- A tally under a mutex is the number of adds of all tasks.
use Rattle.std.proofs.Common.{◌∙◌, ap, refl, sym, subst, arith, inl, inr}
use Rattle.std.proofs.lemmas.Bool.Decides.{eqb_tells, nat_tests}
use Rattle.std.specs.Prelude.{ℕ, ◌+◌, ◌%◌, ◌^◌, ◌<◌, ◌≡◌, ◌≢◌, ◌⊎◌, ◌==◌, ◌&&◌, ◌||◌, not, Bool, true, false, Option, Some, None, List, [], ◌∷◌, ◌++◌}
use Rattle.wait_model.specs.{declared.layout.TheConstants.TASKS, declared.steps.Step.Step, Functions.put, Words.flag}
use Rattle.wait_model.specs.Totals.{total}
use Rattle.wait_model.specs.Tables.{Table, next, start}
use Rattle.wait_model.specs.declared.steps.Step.TheVariants as step
use Rattle.wait_model.specs.declared.watches.Watch.TheVariants as watch
use Rattle.wait_model.proofs.Functions.{put_other, put_same}
use Rattle.wait_model.proofs.HistoryLaws.StepTotals.{sum_same, sum_zero, total_grown}
use Rattle.wait_rule.specs.{Setters.step_by, TableLaws.histories_in}
use Rattle.wait_rule.specs.Interleavings.{AreAllowed, TaskStep, table_of}
use Rattle.futex_table.specs.GuardedTallies.{AllCountAdds, AllReadAdds, AllUseTally, AreTallySteps, CountsAdds}
use Rattle.futex_table.specs.GuardedTallies.{IsTallyStep, RuleCountsAdds, StepsCountAdds, UsesTally, adds_in}
use Rattle.futex_table.specs.GuardedTallies.{opens_after, tally_adds}
use Rattle.futex_table.specs.GuardedWords.{IsGuardedStep, IsGuardedWord, read_after, read_from, read_in}
use Rattle.futex_table.specs.Holding.{holds_after, holds_from, holds_in}
use Rattle.futex_table.specs.OneHolder.{AreUnopened, IsMutexStep, stores_word}
use Rattle.futex_table.proofs.{GuardedWords.holds_if, GuardedWords.steps_keep_read, Holders.shut}

-- whether a task has still to open the mutex
abbrev pub opens_from : ℕ → List Step → Bool → Bool
opens_from m [] b = b
opens_from m (e ∷ es) b = opens_from m es (opens_after m e b)

opened_stays : (m : ℕ) (es : List Step) → opens_from m es false ≡ false
opened_stays m [] = refl
opened_stays m (e ∷ es) = opened_stays m es

opens_on : (m : ℕ) (es : List Step) (e : Step) (b : Bool)
    → opens_from m (es ++ e ∷ []) b ≡ opens_after m e (opens_from m es b)
opens_on m [] e b = refl
opens_on m (d ∷ es) e b = opens_on m es e (opens_after m d b)

-- the steps before, and the last; and one step more
tally_before : (m c : ℕ) (es : List Step) (e : Step) (op h : Bool) (r : Option ℕ)
    → AreTallySteps m c op h r (es ++ e ∷ []) → AreTallySteps m c op h r es
tally_before m c [] e op h r are = tt
tally_before m c (d ∷ es) e op h r are = (
  are.0,
  tally_before m c es e (opens_after m d op) (holds_after m d h) (read_after m c d h r) are.1,
)

tally_last : (m c : ℕ) (es : List Step) (e : Step) (op h : Bool) (r : Option ℕ)
    → AreTallySteps m c op h r (es ++ e ∷ [])
    → IsTallyStep m c (opens_from m es op) (holds_from m es h) (read_from m c es h r) e
tally_last m c [] e op h r are = are.0
tally_last m c (d ∷ es) e op h r are = tally_last m c es e (opens_after m d op) (holds_after m d h)
    (read_after m c d h r) are.1

-- the histories before the latest step
module _ (m c o : ℕ) (s : Table) (a : ℕ) (e : Step) (lt : a < TASKS) where
  used_before : AllUseTally m c o (put s.history a (s.history a ++ e ∷ [])) → AllUseTally m c o s.history
  used_before all t few = elim (eqb_tells t a) [
    | inl q ↦ subst (λ (i : ℕ). UsesTally m c (i == o) (s.history i)) (sym q.1)
        (tally_before m c (s.history a) e (a == o) false None
        (subst (UsesTally m c (a == o)) (put_same s.history a (s.history a ++ e ∷ [])) (all a lt)))
    | inr q ↦ subst (UsesTally m c (t == o)) (put_other s.history a (s.history a ++ e ∷ []) t q.1) (all t few)
  ]

  used_last : AllUseTally m c o (put s.history a (s.history a ++ e ∷ []))
      → IsTallyStep m c (opens_from m (s.history a) (a == o)) (holds_in m (s.history a)) (read_in m c (s.history a)) e
  used_last all = tally_last m c (s.history a) e (a == o) false None
      (subst (UsesTally m c (a == o)) (put_same s.history a (s.history a ++ e ∷ [])) (all a lt))

-- one step of a word that counts
one_added : (w n v q z : ℕ) → w ≡ q % 2 ^ 64 → w ≡ v → n ≡ (v + 1) % 2 ^ 64 → z ≡ q + 1 → n ≡ z % 2 ^ 64
one_added w n v q z is read one more = omega arith

none_added : (w u q z : ℕ) → w ≡ q % 2 ^ 64 → u ≡ w → z ≡ q + 0 → u ≡ z % 2 ^ 64
none_added w u q z is same more = omega arith

module _ (m c : ℕ) (s : Table) (a : ℕ) (lt : a < TASKS) (op : Bool) (counts : CountsAdds s c)
    (stands : (v : ℕ) → read_in m c (s.history a) ≡ Some v → s.words.plains c ≡ v) where
  there : (d : ℕ) → (d == c) ≡ true → c ≡ d
  there d is = grind (arith, nat_tests)

  away : (d : ℕ) → (d == c) ≡ false → c ≢ d
  away d is q = absurd (grind (arith, nat_tests))

  grows : (e : Step) → adds_in c (next s a e).history ≡ adds_in c s.history + tally_adds c e
  grows e = total_grown TASKS a (tally_adds c) s.history e lt

  still : (e : Step) → tally_adds c e ≡ 0 → (next s a e).words.plains c ≡ s.words.plains c → CountsAdds (next s a e) c
  still e none same = none_added (s.words.plains c) ((next s a e).words.plains c) (adds_in c s.history)
      (adds_in c (next s a e).history) counts same (grows e ∙ ap (λ (n : ℕ). adds_in c s.history + n) none)

  pub counts_more : (e : Step) → IsTallyStep m c op (holds_in m (s.history a)) (read_in m c (s.history a)) e
      → CountsAdds (next s a e) c
  counts_more (step.Publish (watch.Plain d) n r) is = by (d == c) refl
    where
      by : (b : Bool) → (d == c) ≡ b → CountsAdds (next s a (step.Publish (watch.Plain d) n r)) c
      by false q = still (step.Publish (watch.Plain d) n r) (ap flag q) (put_other s.words.plains d n c (away d q))
      by true q =
          let one = is.1 q in
          let word : put s.words.plains d n c ≡ n = ap (put s.words.plains d n) (there d q) ∙ put_same s.words.plains d n in
          word ∙ one_added (s.words.plains c) n one.0 (adds_in c s.history)
          (adds_in c (next s a (step.Publish (watch.Plain d) n r)).history) counts (stands one.0 one.1) one.2
          (grows (step.Publish (watch.Plain d) n r) ∙ ap (λ (b : Bool). adds_in c s.history + flag b) q)
  counts_more (step.Consume (watch.Plain d) n r) is = still (step.Consume (watch.Plain d) n r) refl
      (put_other s.words.plains d 0 c (away d is))
  counts_more (step.Publish (watch.Done d) n r) is = still (step.Publish (watch.Done d) n r) refl refl
  counts_more (step.Publish (watch.Bit i b) n r) is = still (step.Publish (watch.Bit i b) n r) refl refl
  counts_more (step.Publish (watch.Var v w) n r) is = still (step.Publish (watch.Var v w) n r) refl refl
  counts_more (step.Consume (watch.Done d) n r) is = still (step.Consume (watch.Done d) n r) refl refl
  counts_more (step.Consume (watch.Bit i b) n r) is = still (step.Consume (watch.Bit i b) n r) refl refl
  counts_more (step.Consume (watch.Var v w) n r) is = still (step.Consume (watch.Var v w) n r) refl refl
  counts_more e is = still e refl refl

-- what such a step is of the mutex and of the guarded word
module _ (m c : ℕ) (es : List Step) (op : Bool) where
  off_opens : (h b : Bool) → b ≡ false → (h || b) ≡ true → h ≡ true
  off_opens true b off is = refl
  off_opens false b off is = absurd (let q : false ≡ true = sym off ∙ is in cc)

  is_mutex : (e : Step) → op ≡ false → IsTallyStep m c op (holds_in m es) (read_in m c es) e → IsMutexStep m es e
  is_mutex (step.Publish (watch.Plain d) n r) off is =
      λ q. ((is.0 q).0, off_opens (holds_in m es) op off (is.0 q).1)
  is_mutex (step.Publish (watch.Done d) n r) off is = tt
  is_mutex (step.Publish (watch.Bit i b) n r) off is = tt
  is_mutex (step.Publish (watch.Var v w) n r) off is = tt
  is_mutex e off is = tt

  is_guarded : (e : Step) → IsTallyStep m c op (holds_in m es) (read_in m c es) e → IsGuardedStep m c es e
  is_guarded (step.Publish (watch.Plain d) n r) is = λ q. holds_if m c es (is.1 q).0 (is.1 q).1
  is_guarded (step.Consume (watch.Plain d) n r) is = λ q. absurd (let z : false ≡ true = sym is ∙ q in cc)
  is_guarded (step.Publish (watch.Done d) n r) is = tt
  is_guarded (step.Publish (watch.Bit i b) n r) is = tt
  is_guarded (step.Publish (watch.Var v w) n r) is = tt
  is_guarded (step.Consume (watch.Done d) n r) is = tt
  is_guarded (step.Consume (watch.Bit i b) n r) is = tt
  is_guarded (step.Consume (watch.Var v w) n r) is = tt
  is_guarded e is = tt

  -- a store in the mutex's word by a task that does not hold it opens it
  record IsOpening (e : Step) : Type 0 where
    found : ℕ
    is : e ≡ step.Publish (watch.Plain m) 1 found
    opens : op ≡ true

  here : (d : ℕ) → (d == m) ≡ true → d ≡ m
  here d is = grind (arith, nat_tests)

  is_opening : (e : Step) → holds_in m es ≡ false → IsTallyStep m c op (holds_in m es) (read_in m c es) e
      → stores_word m e ≡ true → IsOpening e
  is_opening (step.Publish (watch.Plain d) n r) free is q = record {
    found = r;
    is = ap (λ (i : ℕ). step.Publish (watch.Plain i) n r) (here d q)
        ∙ ap (λ (k : ℕ). step.Publish (watch.Plain m) k r) (is.0 q).0;
    opens = sym (ap (λ (h : Bool). h || op) free) ∙ (is.0 q).1;
  }
  is_opening (step.Publish (watch.Done d) n r) free is q = absurd (cc)
  is_opening (step.Publish (watch.Bit i b) n r) free is q = absurd (cc)
  is_opening (step.Publish (watch.Var v w) n r) free is q = absurd (cc)
  is_opening e free is q = absurd (cc)

-- The mutex is opened, and its opener has done it.
record IsCounting (xs : List TaskStep) (m c o : ℕ) : Type 0 where
  guarded : IsGuardedWord xs m c
  did : opens_from m ((table_of xs).history o) true ≡ false

true_not : {A : Type 0} → true ≡ false → A
true_not q = absurd (cc)

-- One step more.
module _ (m c o : ℕ) (xs : List TaskStep) (x : TaskStep) (may : AreAllowed (x ∷ xs))
    (is : IsTallyStep m c (opens_from m ((table_of xs).history x.task) (x.task == o))
    (holds_in m ((table_of xs).history x.task)) (read_in m c ((table_of xs).history x.task)) x.made) where
  abbrev s : Table
  s = table_of xs

  abbrev es : List Step
  es = s.history x.task

  own_opens : opens_from m ((table_of (x ∷ xs)).history x.task) true ≡ opens_after m x.made (opens_from m es true)
  own_opens = ap (λ (l : List Step). opens_from m l true) (put_same s.history x.task (es ++ x.made ∷ []))
      ∙ opens_on m es x.made true

  free_here : AreUnopened m xs → holds_in m es ≡ false
  free_here un = (shut m xs may.2 un).free x.task

  and_stored : (b d : Bool) → d ≡ true → (b && not d) ≡ false
  and_stored true d q = ap not q
  and_stored false d q = refl

  which : (b : Bool) → (x.task == o) ≡ b → opens_from m es (x.task == o) ≡ true → x.task ≡ o
  which true q w = let z : x.task ≡ o = grind (arith, nat_tests) in z
  which false q w = true_not (sym w ∙ (ap (opens_from m es) q ∙ opened_stays m es))

  opens_now : AreUnopened m xs → stores_word m x.made ≡ true → IsCounting (x ∷ xs) m c o
  opens_now un q =
      let p = is_opening m c es (opens_from m es (x.task == o)) x.made (free_here un) is q in
      let t = which (x.task == o) refl p.opens in
      record {
        guarded = record {
          opened = record {
            before = xs;
            opener = x.task;
            found = p.found;
            later = [];
            split = ap (λ (e : Step). step_by x.task e ∷ xs) p.is;
            unopened = un;
            alone = tt;
          };
          guarded = tt;
        };
        did = ap (λ (i : ℕ). opens_from m ((table_of (x ∷ xs)).history i) true) (sym t)
            ∙ (own_opens ∙ and_stored (opens_from m es true) (stores_word m x.made) q);
      }

  off_for : IsCounting xs m c o → (b : Bool) → (x.task == o) ≡ b → opens_from m es (x.task == o) ≡ false
  off_for k true q =
      let t : x.task ≡ o = grind (arith, nat_tests) in
      ap (opens_from m es) q ∙ (ap (λ (i : ℕ). opens_from m (s.history i) true) t ∙ k.did)
  off_for k false q = ap (opens_from m es) q ∙ opened_stays m es

  did_still : IsCounting xs m c o → opens_from m ((table_of (x ∷ xs)).history o) true ≡ false
  did_still k = elim (eqb_tells o x.task) [
    | inl q ↦ ap (λ (i : ℕ). opens_from m ((table_of (x ∷ xs)).history i) true) q.1
        ∙ (own_opens ∙ ap (λ (b : Bool). opens_after m x.made b)
        (ap (λ (i : ℕ). opens_from m (s.history i) true) (sym q.1) ∙ k.did))
    | inr q ↦ ap (λ (l : List Step). opens_from m l true) (put_other s.history x.task (es ++ x.made ∷ []) o q.1)
        ∙ k.did
  ]

  counts_on : IsCounting xs m c o → IsCounting (x ∷ xs) m c o
  counts_on k =
      let w = k.guarded in
      let z = w.opened in
      let off = off_for k (x.task == o) refl in
      record {
        guarded = record {
          opened = record {
            before = z.before;
            opener = z.opener;
            found = z.found;
            later = x ∷ z.later;
            split = ap (λ (ys : List TaskStep). x ∷ ys) z.split;
            unopened = z.unopened;
            alone = (
              subst (λ (ys : List TaskStep). IsMutexStep m ((table_of ys).history x.task) x.made) z.split
                  (is_mutex m c es (opens_from m es (x.task == o)) x.made off is),
              z.alone,
            );
          };
          guarded = (
            subst (λ (ys : List TaskStep). IsGuardedStep m c ((table_of ys).history x.task) x.made) z.split
                (is_guarded m c es (opens_from m es (x.task == o)) x.made is),
            w.guarded,
          );
        };
        did = did_still k;
      }

  phase_on : AreUnopened m xs ⊎ IsCounting xs m c o → AreUnopened m (x ∷ xs) ⊎ IsCounting (x ∷ xs) m c o
  phase_on (inr k) = inr (counts_on k)
  phase_on (inl un) = by (stores_word m x.made) refl
    where
      by : (b : Bool) → stores_word m x.made ≡ b → AreUnopened m (x ∷ xs) ⊎ IsCounting (x ∷ xs) m c o
      by true q = inr (opens_now un q)
      by false q = inl (q, un)

  read_stands : AreUnopened m xs ⊎ IsCounting xs m c o → (v : ℕ) → read_in m c es ≡ Some v → s.words.plains c ≡ v
  read_stands (inr k) v q = steps_keep_read xs may.2 m c k.guarded x.task v may.0 q
  read_stands (inl un) v q = true_not (sym (holds_if m c es v q) ∙ free_here un)

-- So it is after all steps.
record IsCounted (xs : List TaskStep) (m c o : ℕ) : Type 0 where
  phase : AreUnopened m xs ⊎ IsCounting xs m c o
  counts : CountsAdds (table_of xs) c

counted_of : (m c o : ℕ) (xs : List TaskStep) → AreAllowed xs → AllUseTally m c o (table_of xs).history
    → IsCounted xs m c o
counted_of m c o [] may all = record {
  phase = inl tt;
  counts =
      let none : adds_in c start.history ≡ 0 = sum_zero TASKS (λ t. total (tally_adds c) (start.history t)) (λ t _. refl) in
      none_added 0 (start.words.plains c) 0 (adds_in c start.history) refl refl none;
}
counted_of m c o (x ∷ xs) may all =
    let k = counted_of m c o xs may.2 (used_before m c o (table_of xs) x.task x.made may.0 all) in
    let is = used_last m c o (table_of xs) x.task x.made may.0 all in
    record {
      phase = phase_on m c o xs x may is k.phase;
      counts = counts_more m c (table_of xs) x.task may.0
          (opens_from m ((table_of xs).history x.task) (x.task == o)) k.counts
          (read_stands m c o xs x may is k.phase) x.made is;
    }

pub steps_count_adds : StepsCountAdds
steps_count_adds xs may m c o all = (counted_of m c o xs may all).counts

pub rule_counts_adds : RuleCountsAdds
rule_counts_adds s items ruled m c o all =
    let k = ruled.whole.interleaved in
    subst (λ (t : Table). CountsAdds t c) (sym k.leads)
    (steps_count_adds k.steps k.allowed m c o (subst (λ (t : Table). AllUseTally m c o t.history) k.leads all))

-- what a task has read stands there
standing : (m c o : ℕ) (xs : List TaskStep) → AreAllowed xs → AreUnopened m xs ⊎ IsCounting xs m c o → (t v : ℕ)
    → t < TASKS → read_in m c ((table_of xs).history t) ≡ Some v → (table_of xs).words.plains c ≡ v
standing m c o xs may (inr k) t v few q = steps_keep_read xs may m c k.guarded t v few q
standing m c o xs may (inl un) t v few q = true_not (sym (holds_if m c ((table_of xs).history t) v q)
    ∙ (shut m xs may un).free t)

pub all_count_adds : AllCountAdds
all_count_adds v law all m c o use_all =
    let same = λ (t : ℕ) (few : t < TASKS). law.history t (all t few) in
    rule_counts_adds law.table law.items law.ruled m c o
    (λ t few. subst (UsesTally m c (t == o)) (sym (same t few)) (use_all t few))
    ∙ ap (λ (n : ℕ). n % 2 ^ 64) (sum_same TASKS (λ t. total (tally_adds c) (histories_in v t))
    (λ t. total (tally_adds c) (law.table.history t)) (λ t few. ap (total (tally_adds c)) (same t few)))

pub all_read_adds : AllReadAdds
all_read_adds v law all m c o use_all t n few is =
    let same = λ (i : ℕ) (low : i < TASKS). law.history i (all i low) in
    let k = law.ruled.whole.interleaved in
    let used = λ (i : ℕ) (low : i < TASKS). subst (UsesTally m c (i == o)) (sym (same i low)) (use_all i low) in
    let x = counted_of m c o k.steps k.allowed (subst (λ (q : Table). AllUseTally m c o q.history) k.leads used) in
    let word : law.table.words.plains c ≡ n = ap (λ (q : Table). q.words.plains c) k.leads
    ∙ standing m c o k.steps k.allowed x.phase t n few
    (ap (λ (q : Table). read_in m c (q.history t)) (sym k.leads) ∙ (ap (read_in m c) (same t few) ∙ is)) in
    sym word ∙ all_count_adds v law all m c o use_all
