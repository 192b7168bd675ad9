-- What one step does to what its task accounts for, and what that leaves of the law.
use Rattle.std.proofs.Common.{refl, sym, ◌∙◌, ap, subst, arith, inl, inr}
use Rattle.std.proofs.lemmas.Bool.Decides.{eqb_tells}
use Rattle.std.specs.Prelude.{ℕ, ◌≡◌, ◌≢◌, ◌+◌, ◌<◌, ◌≤◌, ◌⊎◌, Bool, true, false, not, ◌&&◌, ◌==◌, Option, Some, None}
use Rattle.std.specs.Prelude.{List, [], ◌∷◌, ◌++◌}
use Rattle.wait_model.specs.{declared.layout.TheConstants.TASKS, declared.steps.Step.Step, Facts.Kept, Runs.own}
use Rattle.wait_model.specs.{Tables.Table, Tables.next, Views.View, Views.blank, Watches.owner, Watches.stands_at}
use Rattle.wait_model.specs.Words.{flag}
use Rattle.wait_model.specs.Fold.{after, after_all, holding}
use Rattle.wait_model.specs.Permits.{Dealt, done_head, is_in, deals, deals_all, none_dealt, dealt}
use Rattle.wait_model.specs.PermitFacts.{is_settled, worth_of, dealt_in, worth, IsExact, AreViewsTold}
use Rattle.wait_model.proofs.Functions.{put_same, put_other}
use Rattle.wait_model.proofs.PermitLaws.Sums.{rest_of, rest_is, rest_same, rest_small}

pub deals_snoc : (d x : ℕ) (v : View) (w : Dealt) (es : List Step) (e : Step)
    → deals_all d x v w (es ++ e ∷ []) ≡ deals d x (after_all v es) (deals_all d x v w es) e
deals_snoc d x v w [] e = refl
deals_snoc d x v w (f ∷ es) e = deals_snoc d x (after f v) (deals d x v w f) es e

-- a test that holds and fails, and an option that has two values
pub clash : (b : Bool) → b ≡ true → b ≡ false → ⊥
clash true t f = cc
clash false t f = cc

pub nothing_known : (o : Option ℕ) (n : ℕ) → o ≡ None → o ≡ Some n → ⊥
nothing_known None n p q = cc
nothing_known (Some m) n p q = cc

pub known_is : (o : Option ℕ) (m n : ℕ) → o ≡ Some m → o ≡ Some n → m ≡ n
known_is o m n p q = let r : Some m ≡ Some n = sym p ∙ q in cc

-- two heads held at once are one
pub held_is : (o : Option ℕ) (h i : ℕ) → o ≡ Some i → holding o h ≡ (i == h)
held_is o h i q = ap (λ (p : Option ℕ). holding p h) q

pub in_is : (o : Option ℕ) (h : ℕ) → holding o h ≡ true → o ≡ Some h
in_is None h q = absurd (cc)
in_is (Some i) h q = let e : i ≡ h = grind arith in ap (λ (j : ℕ). Some j) e

pub flag_small : (t : Bool) → flag t ≤ 1
flag_small true = omega arith
flag_small false = omega arith

module _ (s : Table) (a : ℕ) (e : Step) (d : ℕ) (told : AreViewsTold s) where
  -- the view and the dealings after the step
  abbrev pub view_then : View
  view_then = after e (s.view a)

  abbrev pub dealt_then : Dealt
  dealt_then = deals d (own a) (s.view a) (dealt_in s d a) e

  abbrev pub stood : ℕ → Bool
  stood x = stands_at (s.entry x) (done_head d)

  abbrev pub stands_then : ℕ → Bool
  stands_then x = stands_at ((next s a e).entry x) (done_head d)

  pub own_view : (next s a e).view a ≡ view_then
  own_view = put_same s.view a view_then

  pub own_dealt : dealt_in (next s a e) d a ≡ dealt_then
  own_dealt = ap (dealt d a) (put_same s.history a (s.history a ++ e ∷ []))
      ∙ deals_snoc d (own a) blank none_dealt (s.history a) e
      ∙ ap (λ (v : View). deals d (own a) v (dealt_in s d a) e) (sym (told a))

  pub other_dealt : (b : ℕ) → b ≢ a → dealt_in (next s a e) d b ≡ dealt_in s d b
  other_dealt b ne = ap (dealt d b) (put_other s.history a (s.history a ++ e ∷ []) b ne)

  pub other_view : (b : ℕ) → b ≢ a → (next s a e).view b ≡ s.view b
  other_view b ne = put_other s.view a view_then b ne

  abbrev pub worth_then : ℕ
  worth_then = worth_of (is_settled d (own a) view_then) (stands_then (own a)) dealt_then

  pub own_worth : worth (next s a e) d a ≡ worth_then
  own_worth = ap (λ (v : View). worth_of (is_settled d (own a) v) (stands_then (own a)) (dealt_in (next s a e) d a))
      own_view
      ∙ ap (λ (w : Dealt). worth_of (is_settled d (own a) view_then) (stands_then (own a)) w) own_dealt

  pub other_worth : (b : ℕ) → b ≢ a → stands_then (own b) ≡ stood (own b) → worth (next s a e) d b ≡ worth s d b
  other_worth b ne same = ap (λ (v : View). worth_of (is_settled d (own b) v) (stands_then (own b))
      (dealt_in (next s a e) d b)) (other_view b ne)
      ∙ ap (λ (w : Dealt). worth_of (is_settled d (own b) (s.view b)) (stands_then (own b)) w) (other_dealt b ne)
      ∙ ap (λ (t : Bool). worth_of (is_settled d (own b) (s.view b)) t (dealt_in s d b)) same

  -- What a step leaves, one that takes nobody off and queues nobody at the head, by what it does to its own task. The
  -- others, while the task is in a hold of the head, account for one at most.
  pub record Turn : Type 0 where
    pub frame : (x : ℕ) → stands_then x ≡ stood x
    pub done : ((next s a e).words.dones d ≡ s.words.dones d) ⊎ (is_in d (s.view a) ≡ true)
    pub bound : (x k : ℕ) → stood x ≡ true → (is_in d (s.view a) ≡ true → k ≤ TASKS)
        → s.words.dones d ≤ worth s d a + k → (next s a e).words.dones d ≤ worth_then + k
    pub home : (x : ℕ) → owner x ≡ a → x ≡ own a → stood x ≡ true
        → (is_settled d x (s.view a) ≡ true) ⊎ ((dealt_in s d a).left ≡ true)
        → (is_settled d x view_then ≡ true) ⊎ (dealt_then.left ≡ true)
    pub quiet : is_in d view_then ≡ false → (dealt_then.debt ≡ 0) × (dealt_then.count ≡ None)
    pub known : (n : ℕ) → dealt_then.count ≡ Some n → (next s a e).words.dones d ≡ n

  module _ (lt : a < TASKS) (k : Kept s) (x : IsExact s d) where
    -- nobody else is in a hold of the head then
    pub out : (b : ℕ) → b ≢ a → is_in d (s.view a) ≡ true → is_in d (s.view b) ≡ false
    out b ne here = by (is_in d (s.view b)) refl
      where
        by : (t : Bool) → is_in d (s.view b) ≡ t → is_in d (s.view b) ≡ false
        by false q = q
        by true q = absurd (ne (k.facts.one_holder b a (done_head d) (in_is (s.view b).hold.head (done_head d) q)
            (in_is (s.view a).hold.head (done_head d) here)))

    -- each other task accounts for one at most
    pub small : (b : ℕ) → b ≢ a → is_in d (s.view a) ≡ true → worth s d b ≤ 1
    small b ne here =
        let z = (x.quiet b (out b ne here)).0 in
        let f = flag_small ((dealt_in s d b).left && (not (is_settled d (own b) (s.view b)) && not (stood (own b)))) in
        omega (arith, z, f)

    -- what holds of the own view and dealings, and of those of another
    pub at_own : (P : View → Dealt → Type 0) → P view_then dealt_then → (b : ℕ) → b ≡ a
        → P ((next s a e).view b) (dealt_in (next s a e) d b)
    at_own P h b q = subst (λ (i : ℕ). P ((next s a e).view i) (dealt_in (next s a e) d i)) (sym q)
        (subst (λ (v : View). P v (dealt_in (next s a e) d a)) (sym own_view)
        (subst (λ (w : Dealt). P view_then w) (sym own_dealt) h))

    pub at_other : (P : View → Dealt → Type 0) → (b : ℕ) → b ≢ a → P (s.view b) (dealt_in s d b)
        → P ((next s a e).view b) (dealt_in (next s a e) d b)
    at_other P b ne h = subst (λ (v : View). P v (dealt_in (next s a e) d b)) (sym (other_view b ne))
        (subst (λ (w : Dealt). P (s.view b) w) (sym (other_dealt b ne)) h)

    abbrev Home : ℕ → View → Dealt → Type 0
    Home y v w = (is_settled d y v ≡ true) ⊎ (w.left ≡ true)

    abbrev Quiet : View → Dealt → Type 0
    Quiet v w = is_in d v ≡ false → (w.debt ≡ 0) × (w.count ≡ None)

    -- a count that another knows is as it was
    pub others_known : ((next s a e).words.dones d ≡ s.words.dones d) ⊎ (is_in d (s.view a) ≡ true) → (b n : ℕ)
        → b ≢ a → (dealt_in s d b).count ≡ Some n → (next s a e).words.dones d ≡ n
    others_known (inl q) b n ne c = q ∙ x.known b n c
    others_known (inr here) b n ne c = absurd (nothing_known (dealt_in s d b).count n (x.quiet b (out b ne here)).1 c)

    pub turn_exact : Turn → IsExact (next s a e) d
    turn_exact t = record {
      bound = λ y st.
          let before : stood y ≡ true = sym (t.frame y) ∙ st in
          let first = rest_is TASKS a (worth s d) lt in
          let later = rest_is TASKS a (worth (next s a e) d) lt in
          let same = rest_same TASKS a (worth s d) (worth (next s a e) d)
          (λ b ne. other_worth b ne (t.frame (own b))) in
          let mine = own_worth in
          let now = x.bound y before in
          let moved = t.bound y (rest_of TASKS a (worth s d)) before
          (λ here. rest_small TASKS a TASKS (worth s d) (omega arith) (λ b ne. small b ne here))
          (omega (arith, now, first)) in
          omega (arith, later, same, mine, moved);
      there = λ y st.
          let before : stood y ≡ true = sym (t.frame y) ∙ st in
          let was = x.there y before in (
            was.0,
            elim (eqb_tells (owner y) a) [
              | inl q ↦ at_own (Home y) (t.home y q.1 (was.0 ∙ ap own q.1) before
                  (subst (λ (i : ℕ). Home y (s.view i) (dealt_in s d i)) q.1 was.1)) (owner y) q.1
              | inr q ↦ at_other (Home y) (owner y) q.1 was.1
            ],
          );
      quiet = λ b. elim (eqb_tells b a) [
        | inl q ↦ at_own Quiet t.quiet b q.1
        | inr q ↦ at_other Quiet b q.1 (x.quiet b)
      ];
      known = λ b n. elim (eqb_tells b a) [
        | inl q ↦ at_own (λ _ w. w.count ≡ Some n → (next s a e).words.dones d ≡ n) (t.known n) b q.1
        | inr q ↦ at_other (λ _ w. w.count ≡ Some n → (next s a e).words.dones d ≡ n) b q.1
            (others_known t.done b n q.1)
      ];
    }
