-- The word of a mutex and the number of its holders sum to 1.
use Rattle.std.proofs.Common.{◌∙◌, ap, refl, sym, subst, arith, inl, inr}
use Rattle.std.proofs.lemmas.Bool.Decides.{eqb_tells, nat_tests}
use Rattle.std.specs.Prelude.{ℕ, zero, suc, ◌+◌, ◌<◌, ◌≤◌, ◌≡◌, ◌≢◌, ◌⊎◌, ◌==◌, ◌||◌, not, eqb, Bool, true, false, if◌then◌else◌, List, [], ◌∷◌, ◌++◌}
use Rattle.wait_model.specs.{declared.layout.TheConstants.TASKS, declared.steps.Step.Step, Functions.put, Rows.Allowed}
use Rattle.wait_model.specs.{Tables.Table, Tables.next, Words.flag}
use Rattle.wait_model.specs.declared.steps.Step.TheVariants as step
use Rattle.wait_model.specs.declared.watches.Watch.TheVariants as watch
use Rattle.wait_model.proofs.Functions.{put_other, put_same}
use Rattle.wait_rule.specs.Interleavings.{AreAllowed, TaskStep, table_of}
use Rattle.wait_rule.specs.Setters.{step_by}
use Rattle.futex_table.specs.Holding.{holds_after, holds_in}
use Rattle.futex_table.specs.OneHolder.{AreMutexSteps, AreUnopened, HasOneHolder, HoldersAreOne, IsMutexStep}
use Rattle.futex_table.specs.OneHolder.{RuleHasOneHolder, StepsHaveOneHolder, holders, stores_word}
use Rattle.futex_table.proofs.WordSteps.{holds_on}

-- one history grows
module _ (m : ℕ) (h : ℕ → List Step) (a : ℕ) (es : List Step) where
  far : (n : ℕ) → n ≤ a → holders n m (put h a es) ≡ holders n m h
  far zero le = refl
  far (suc n) le =
      let ne : n ≢ a = λ q. absurd (omega (arith, le, q)) in
      let one = far n (omega (arith, le)) in
      let two = ap (λ (l : List Step). flag (holds_in m l)) (put_other h a es n ne) in
      λ i. one i + two i

  pub grown : (n : ℕ) → a < n
      → holders n m (put h a es) + flag (holds_in m (h a)) ≡ holders n m h + flag (holds_in m es)
  grown zero lt = absurd (omega (arith, lt))
  grown (suc n) lt = by (eqb_tells n a) (grown n)
    where
      by : ((eqb n a ≡ true) × (n ≡ a)) ⊎ ((eqb n a ≡ false) × (n ≢ a))
          → (a < n → holders n m (put h a es) + flag (holds_in m (h a)) ≡ holders n m h + flag (holds_in m es))
          → holders (suc n) m (put h a es) + flag (holds_in m (h a)) ≡ holders (suc n) m h + flag (holds_in m es)
      by (inl q) rest =
          let one = far n (let le : n ≤ a = (let e = q.1 in omega (arith, e)) in le) in
          let two : flag (holds_in m (put h a es n)) ≡ flag (holds_in m es) =
          ap (λ (k : ℕ). flag (holds_in m (put h a es k))) q.1
          ∙ ap (λ (l : List Step). flag (holds_in m l)) (put_same h a es) in
          let three : flag (holds_in m (h n)) ≡ flag (holds_in m (h a)) = ap (λ (k : ℕ). flag (holds_in m (h k))) q.1 in
          omega (arith, one, two, three)
      by (inr q) rest =
          let ne = q.1 in
          let below : a < n = omega (arith, lt, ne) in
          let one = rest below in
          let two = ap (λ (l : List Step). flag (holds_in m l)) (put_other h a es n ne) in
          omega (arith, one, two)

-- who holds it is counted
counted : (m : ℕ) (h : ℕ → List Step) (a n : ℕ) → a < n → flag (holds_in m (h a)) ≤ holders n m h
counted m h a zero lt = absurd (omega (arith, lt))
counted m h a (suc n) lt = by (eqb_tells n a) (counted m h a n)
  where
    by : ((eqb n a ≡ true) × (n ≡ a)) ⊎ ((eqb n a ≡ false) × (n ≢ a))
        → (a < n → flag (holds_in m (h a)) ≤ holders n m h) → flag (holds_in m (h a)) ≤ holders (suc n) m h
    by (inl q) rest =
        let three : flag (holds_in m (h n)) ≡ flag (holds_in m (h a)) = ap (λ (k : ℕ). flag (holds_in m (h k))) q.1 in
        omega (arith, three)
    by (inr q) rest =
        let ne = q.1 in
        let one = rest (omega (arith, lt, ne)) in omega (arith, one)

nobody : (m : ℕ) (h : ℕ → List Step) → ((t : ℕ) → holds_in m (h t) ≡ false) → (n : ℕ) → holders n m h ≡ 0
nobody m h none zero = refl
nobody m h none (suc n) =
    let one = nobody m h none n in
    let two = ap flag (none n) in omega (arith, one, two)

-- the history of a step's task
after_step : (m : ℕ) (es : List Step) (e : Step) → holds_in m (es ++ e ∷ []) ≡ holds_after m e (holds_in m es)
after_step m es e = holds_on m es (e ∷ []) false

-- a take
took : (w r h h2 : ℕ) (c z : Bool) → (r == 0) ≡ z → r ≡ w → flag c ≤ h → h2 + flag c ≡ h + flag (c || not z)
    → w + h ≡ 1 → 0 + h2 ≡ 1
took w r h h2 true true zeroed is most count one =
    let none : r ≡ 0 = grind (arith, nat_tests) in omega (arith, none)
took w r h h2 false true zeroed is most count one =
    let none : r ≡ 0 = grind (arith, nat_tests) in omega (arith, none)
took w r h h2 true false some is most count one =
    let found : r ≢ 0 = λ q. absurd (grind (arith, nat_tests)) in absurd (omega (arith, found))
took w r h h2 false false some is most count one =
    let found : r ≢ 0 = λ q. absurd (grind (arith, nat_tests)) in omega (arith, found)

sums : (w w2 h h2 f f2 : ℕ) → h2 + f ≡ h + f2 → f2 ≡ f → w2 ≡ w → w + h ≡ 1 → w2 + h2 ≡ 1
sums w w2 h h2 f f2 count same word one = omega arith

module _ (s : Table) (a m : ℕ) where
  abbrev H : ℕ
  H = holders TASKS m s.history

  abbrev was : Bool
  was = holds_in m (s.history a)

  counts : (e : Step) → a < TASKS → holders TASKS m (next s a e).history + flag was ≡ H + flag (holds_after m e was)
  counts e lt = grown m s.history a (s.history a ++ e ∷ []) TASKS lt
      ∙ ap (λ (b : Bool). H + flag b) (after_step m (s.history a) e)

  -- a step that leaves both
  still : (e : Step) → a < TASKS → (next s a e).words.plains m ≡ s.words.plains m → holds_after m e was ≡ was
      → HasOneHolder s m → HasOneHolder (next s a e) m
  still e lt word holds one =
      sums (s.words.plains m) ((next s a e).words.plains m) H (holders TASKS m (next s a e).history) (flag was)
      (flag (holds_after m e was)) (counts e lt) (ap flag holds) word one

  flag_most : (b : Bool) → flag b ≤ 1
  flag_most true = omega arith
  flag_most false = omega arith

  -- a store by a holder
  stores : (w H2 : ℕ) (b : Bool) → b ≡ true → flag b ≤ H → H2 + flag b ≡ H + 0 → w + H ≡ 1 → 1 + H2 ≡ 1
  stores w H2 true is most count one = omega (arith, most, count, one)
  stores w H2 false is most count one = absurd (cc)

  here : (c : ℕ) → (c == m) ≡ true → m ≡ c
  here c is = grind (arith, nat_tests)

  away : (c : ℕ) → (c == m) ≡ false → m ≢ c
  away c is q = absurd (grind (arith, nat_tests))

  pub one_more : (e : Step) → a < TASKS → Allowed s a e → IsMutexStep m (s.history a) e → HasOneHolder s m
      → HasOneHolder (next s a e) m
  one_more (step.Publish (watch.Plain c) n r) lt may mutex one = by (c == m) refl
    where
      by : (b : Bool) → (c == m) ≡ b → HasOneHolder (next s a (step.Publish (watch.Plain c) n r)) m
      by false is = still (step.Publish (watch.Plain c) n r) lt (put_other s.words.plains c n m (away c is))
          (ap (λ (d : Bool). if d then false else was) is) one
      by true is =
          let count = counts (step.Publish (watch.Plain c) n r) lt
          ∙ ap (λ (d : Bool). H + flag (if d then false else was)) is in
          let word : (next s a (step.Publish (watch.Plain c) n r)).words.plains m ≡ 1 =
          ap (put s.words.plains c n) (here c is) ∙ (put_same s.words.plains c n ∙ (mutex is).0) in
          ap (λ (w : ℕ). w + holders TASKS m (next s a (step.Publish (watch.Plain c) n r)).history) word
          ∙ stores (s.words.plains m) (holders TASKS m (next s a (step.Publish (watch.Plain c) n r)).history) was
          (mutex is).1 (counted m s.history a TASKS lt) count one
  one_more (step.Consume (watch.Plain c) n r) lt may mutex one = by (c == m) refl
    where
      by : (b : Bool) → (c == m) ≡ b → HasOneHolder (next s a (step.Consume (watch.Plain c) n r)) m
      by false is = still (step.Consume (watch.Plain c) n r) lt (put_other s.words.plains c 0 m (away c is))
          (ap (λ (d : Bool). if d then was || not (r == 0) else was) is) one
      by true is =
          let count = counts (step.Consume (watch.Plain c) n r) lt
          ∙ ap (λ (d : Bool). H + flag (if d then was || not (r == 0) else was)) is in
          let word : (next s a (step.Consume (watch.Plain c) n r)).words.plains m ≡ 0 =
          ap (put s.words.plains c 0) (here c is) ∙ put_same s.words.plains c 0 in
          ap (λ (w : ℕ). w + holders TASKS m (next s a (step.Consume (watch.Plain c) n r)).history) word
          ∙ took (s.words.plains m) r H (holders TASKS m (next s a (step.Consume (watch.Plain c) n r)).history) was
          (r == 0) refl (may.2 ∙ ap s.words.plains (sym (here c is))) (counted m s.history a TASKS lt) count one
  one_more (step.Publish (watch.Done d) n r) lt may mutex one = still (step.Publish (watch.Done d) n r) lt refl refl one
  one_more (step.Publish (watch.Bit i b) n r) lt may mutex one = still (step.Publish (watch.Bit i b) n r) lt refl refl one
  one_more (step.Publish (watch.Var v o) n r) lt may mutex one = still (step.Publish (watch.Var v o) n r) lt refl refl one
  one_more (step.Consume (watch.Done d) n r) lt may mutex one = still (step.Consume (watch.Done d) n r) lt refl refl one
  one_more (step.Consume (watch.Bit i b) n r) lt may mutex one = still (step.Consume (watch.Bit i b) n r) lt refl refl one
  one_more (step.Consume (watch.Var v o) n r) lt may mutex one = still (step.Consume (watch.Var v o) n r) lt refl refl one
  one_more e lt may mutex one = still e lt refl refl one

-- before it is opened the word is 0, and nobody holds it
pub record IsShut (s : Table) (m : ℕ) : Type 0 where
  pub word : s.words.plains m ≡ 0
  pub free : (t : ℕ) → holds_in m (s.history t) ≡ false

module _ (m : ℕ) where
  more_free : (s : Table) (a : ℕ) (e : Step) → ((t : ℕ) → holds_in m (s.history t) ≡ false)
      → ((b : Bool) → b ≡ false → holds_after m e b ≡ false) → (t : ℕ) → holds_in m ((next s a e).history t) ≡ false
  more_free s a e free keeps t = by (eqb_tells t a)
    where
      by : ((eqb t a ≡ true) × (t ≡ a)) ⊎ ((eqb t a ≡ false) × (t ≢ a))
          → holds_in m ((next s a e).history t) ≡ false
      by (inl q) = ap (λ (k : ℕ). holds_in m ((next s a e).history k)) q.1
          ∙ (ap (holds_in m) (put_same s.history a (s.history a ++ e ∷ []))
          ∙ (after_step m (s.history a) e ∙ keeps (holds_in m (s.history a)) (free a)))
      by (inr q) = ap (holds_in m) (put_other s.history a (s.history a ++ e ∷ []) t q.1) ∙ free t

  shut_here : (c : ℕ) → (c == m) ≡ true → m ≡ c
  shut_here c is = grind (arith, nat_tests)

  shut_away : (c : ℕ) → (c == m) ≡ false → m ≢ c
  shut_away c is q = absurd (grind (arith, nat_tests))

  stays_shut : (s : Table) (a : ℕ) (e : Step) → Allowed s a e → stores_word m e ≡ false → IsShut s m
      → IsShut (next s a e) m
  stays_shut s a (step.Publish (watch.Plain c) n r) may un shut = record {
    word = put_other s.words.plains c n m (shut_away c un) ∙ shut.word;
    free = more_free s a (step.Publish (watch.Plain c) n r) shut.free (λ b off. ap (λ (d : Bool). if d then false else b) un ∙ off);
  }
  stays_shut s a (step.Consume (watch.Plain c) n r) may un shut = by (c == m) refl
    where
      by : (b : Bool) → (c == m) ≡ b → IsShut (next s a (step.Consume (watch.Plain c) n r)) m
      by false is = record {
        word = put_other s.words.plains c 0 m (shut_away c is) ∙ shut.word;
        free = more_free s a (step.Consume (watch.Plain c) n r) shut.free
            (λ b off. ap (λ (d : Bool). if d then b || not (r == 0) else b) is ∙ off);
      }
      by true is =
          let none : r ≡ 0 = may.2 ∙ (ap s.words.plains (sym (shut_here c is)) ∙ shut.word) in
          let zero : not (r == 0) ≡ false = ap (λ (k : ℕ). not (k == 0)) none in
          record {
            word = ap (put s.words.plains c 0) (shut_here c is) ∙ put_same s.words.plains c 0;
            free = more_free s a (step.Consume (watch.Plain c) n r) shut.free
                (λ b off. ap (λ (d : Bool). if d then b || not (r == 0) else b) is
                ∙ (ap (λ (d : Bool). b || d) zero ∙ (ap (λ (d : Bool). d || false) off)));
          }
  stays_shut s a (step.Publish (watch.Done d) n r) may un shut = record {
    word = shut.word;
    free = more_free s a (step.Publish (watch.Done d) n r) shut.free (λ b off. off);
  }
  stays_shut s a (step.Publish (watch.Bit i j) n r) may un shut = record {
    word = shut.word;
    free = more_free s a (step.Publish (watch.Bit i j) n r) shut.free (λ b off. off);
  }
  stays_shut s a (step.Publish (watch.Var v o) n r) may un shut = record {
    word = shut.word;
    free = more_free s a (step.Publish (watch.Var v o) n r) shut.free (λ b off. off);
  }
  stays_shut s a (step.Consume (watch.Done d) n r) may un shut = record {
    word = shut.word;
    free = more_free s a (step.Consume (watch.Done d) n r) shut.free (λ b off. off);
  }
  stays_shut s a (step.Consume (watch.Bit i j) n r) may un shut = record {
    word = shut.word;
    free = more_free s a (step.Consume (watch.Bit i j) n r) shut.free (λ b off. off);
  }
  stays_shut s a (step.Consume (watch.Var v o) n r) may un shut = record {
    word = shut.word;
    free = more_free s a (step.Consume (watch.Var v o) n r) shut.free (λ b off. off);
  }
  stays_shut s a e may un shut = record { word = shut.word; free = more_free s a e shut.free (λ b off. off) }

  pub shut : (xs : List TaskStep) → AreAllowed xs → AreUnopened m xs → IsShut (table_of xs) m
  shut [] may un = record { word = refl; free = λ t. refl }
  shut (x ∷ xs) may un = stays_shut (table_of xs) x.task x.made may.1 un.0 (shut xs may.2 un.1)

  -- the opening
  stored_off : (c b : Bool) → b ≡ false → (if c then false else b) ≡ false
  stored_off true b off = refl
  stored_off false b off = off

  opened_free : (s : Table) (a r : ℕ) → IsShut s m → (t : ℕ)
      → holds_in m ((next s a (step.Publish (watch.Plain m) 1 r)).history t) ≡ false
  opened_free s a r z = more_free s a (step.Publish (watch.Plain m) 1 r) z.free (λ b off. stored_off (m == m) b off)

  opened : (s : Table) (a r : ℕ) → IsShut s m → HasOneHolder (next s a (step.Publish (watch.Plain m) 1 r)) m
  opened s a r z =
      let word : (next s a (step.Publish (watch.Plain m) 1 r)).words.plains m ≡ 1 = put_same s.words.plains m 1 in
      let none = nobody m (next s a (step.Publish (watch.Plain m) 1 r)).history (opened_free s a r z) TASKS in
      omega (arith, word, none)

  pub nobody_holds : (before : List TaskStep) (a r : ℕ) → AreUnopened m before
      → AreAllowed (step_by a (step.Publish (watch.Plain m) 1 r) ∷ before) → (t : ℕ)
      → holds_in m ((table_of (step_by a (step.Publish (watch.Plain m) 1 r) ∷ before)).history t) ≡ false
  nobody_holds before a r un may = opened_free (table_of before) a r (shut before may.2 un)

  pub held : (later before : List TaskStep) (a r : ℕ) → AreUnopened m before
      → AreAllowed (later ++ step_by a (step.Publish (watch.Plain m) 1 r) ∷ before)
      → AreMutexSteps m later (step_by a (step.Publish (watch.Plain m) 1 r) ∷ before)
      → HasOneHolder (table_of (later ++ step_by a (step.Publish (watch.Plain m) 1 r) ∷ before)) m
  held [] before a r un may alone = opened (table_of before) a r (shut before may.2 un)
  held (x ∷ xs) before a r un may alone = one_more
      (table_of (xs ++ step_by a (step.Publish (watch.Plain m) 1 r) ∷ before)) x.task m x.made may.0 may.1 alone.0
      (held xs before a r un may.2 alone.1)

pub steps_have_one_holder : StepsHaveOneHolder
steps_have_one_holder xs may m o = subst (λ (ys : List TaskStep). HasOneHolder (table_of ys) m) (sym o.split)
    (held m o.later o.before o.opener o.found o.unopened (subst AreAllowed o.split may) o.alone)

pub rule_has_one_holder : RuleHasOneHolder
rule_has_one_holder s items ruled m o = subst (λ (t : Table). HasOneHolder t m) (sym ruled.whole.interleaved.leads)
    (steps_have_one_holder ruled.whole.interleaved.steps ruled.whole.interleaved.allowed m o)

-- two holders are counted twice
twice : (m : ℕ) (h : ℕ → List Step) (t u : ℕ) → t ≢ u → holds_in m (h t) ≡ true → holds_in m (h u) ≡ true → (n : ℕ)
    → t < n → u < n → 2 ≤ holders n m h
twice m h t u ne one two zero lt lu = absurd (omega (arith, lt))
twice m h t u ne one two (suc n) lt lu = by (eqb_tells n t) (eqb_tells n u) (twice m h t u ne one two n)
  where
    by : ((eqb n t ≡ true) × (n ≡ t)) ⊎ ((eqb n t ≡ false) × (n ≢ t))
        → ((eqb n u ≡ true) × (n ≡ u)) ⊎ ((eqb n u ≡ false) × (n ≢ u)) → (t < n → u < n → 2 ≤ holders n m h)
        → 2 ≤ holders (suc n) m h
    by (inl p) (inl q) rest = absurd (ne (sym p.1 ∙ q.1))
    by (inl p) (inr q) rest =
        let other = q.1 in
        let c = counted m h u n (omega (arith, lu, other)) in
        let f : flag (holds_in m (h u)) ≡ 1 = ap flag two in
        let g : flag (holds_in m (h n)) ≡ 1 = ap (λ (k : ℕ). flag (holds_in m (h k))) p.1 ∙ ap flag one in
        omega (arith, c, f, g)
    by (inr p) (inl q) rest =
        let other = p.1 in
        let c = counted m h t n (omega (arith, lt, other)) in
        let f : flag (holds_in m (h t)) ≡ 1 = ap flag one in
        let g : flag (holds_in m (h n)) ≡ 1 = ap (λ (k : ℕ). flag (holds_in m (h k))) q.1 ∙ ap flag two in
        omega (arith, c, f, g)
    by (inr p) (inr q) rest =
        let pe = p.1 in
        let qe = q.1 in
        let c = rest (omega (arith, lt, pe)) (omega (arith, lu, qe)) in omega (arith, c)

pub holders_are_one : HoldersAreOne
holders_are_one s m t u sum lt lu one two = by (eqb_tells t u)
  where
    by : ((eqb t u ≡ true) × (t ≡ u)) ⊎ ((eqb t u ≡ false) × (t ≢ u)) → t ≡ u
    by (inl q) = q.1
    by (inr q) = let c = twice m s.history t u q.1 one two TASKS lt lu in absurd (omega (arith, c, sum))
