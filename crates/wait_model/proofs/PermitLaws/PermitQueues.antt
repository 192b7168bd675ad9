-- Adds and removals at a completion's head.
use Rattle.std.proofs.Common.{refl, sym, ◌∙◌, ap, subst, arith, inl, inr}
use Rattle.std.proofs.lemmas.Bool.Decides.{eqb_tells}
use Rattle.std.specs.Prelude.{ℕ, ◌≡◌, ◌≢◌, ◌+◌, ◌<◌, ◌≤◌, ◌⊎◌, Bool, true, false, not, ◌&&◌, ◌==◌, Option, Some, None}
use Rattle.wait_model.specs.{declared.layout.TheConstants.TASKS, declared.layout.TheConstants.ENTRIES}
use Rattle.wait_model.specs.{declared.steps.Step.Step, declared.watches.Entry.Entry, Facts.Kept, Fold.after}
use Rattle.wait_model.specs.{Functions.put, Runs.own, Tables.Table, Tables.next, Totals.sum_below, Words.flag}
use Rattle.wait_model.specs.Permits.{Dealt, done_head, is_in, is_seen, deals}
use Rattle.wait_model.specs.PermitFacts.{is_settled, worth_of, dealt_in, worth, IsExact, AreViewsTold}
use Rattle.wait_model.specs.Views.{View, Look, off, shown}
use Rattle.wait_model.specs.Watches.{owner, head_of, stands_at}
use Rattle.wait_model.specs.declared.steps.Step.TheVariants as step
use Rattle.wait_model.proofs.{PermitLaws.Sums.sum_shift, HistoryLaws.StepTotals.sum_same}
use Rattle.wait_model.proofs.Functions.{put_at, put_same, put_other}
use Rattle.wait_model.proofs.PermitLaws.OwnTurns.{flag_small, held_is, clash, turn_exact, at_own, at_other, out}
use Rattle.wait_model.proofs.PermitLaws.OwnTurns.{own_worth, other_worth, other_dealt}
use Rattle.wait_model.proofs.PermitLaws.PermitTurns.{due, due_settled, due_standing, same_turn, no_debt, unsettled}

pub owner_small : (y : ℕ) → y < ENTRIES → owner y < TASKS
unfolding owner
owner_small y lt = omega (arith, lt)

-- a place that is written anew and stood no more than before at the head
frame_put : (f : ℕ → Option Entry) (y h : ℕ) (o : Option Entry) → stands_at o h ≡ stands_at (f y) h → (z : ℕ)
    → stands_at (put f y o z) h ≡ stands_at (f z) h
frame_put f y h o same z = put_at (λ (p : Option Entry). stands_at p h ≡ stands_at (f z) h) f y o z
    (λ q. same ∙ ap (λ (i : ℕ). stands_at (f i) h) (sym q)) (λ _. refl)

stands_of : (o : Option Entry) (e : Entry) (h : ℕ) → o ≡ Some e → stands_at o h ≡ (head_of e.watch == h)
stands_of o e h q = ap (λ (p : Option Entry). stands_at p h) q

module _ (s : Table) (a : ℕ) (d : ℕ) (told : AreViewsTold s) (lt : a < TASKS) (k : Kept s) (x : IsExact s d) where
  abbrev v : View
  v = s.view a

  abbrev w : Dealt
  w = dealt_in s d a

  abbrev h : ℕ
  h = done_head d

  abbrev Home : ℕ → View → Dealt → Type 0
  Home y u r = (is_settled d y u ≡ true) ⊎ (r.left ≡ true)

  abbrev Quiet : View → Dealt → Type 0
  Quiet u r = is_in d u ≡ false → (r.debt ≡ 0) × (r.count ≡ None)

  -- a step inside a hold of the head that leaves what the hold knows of the count
  quiet_on : (f : Step) → is_in d (after f v) ≡ true → (b : ℕ)
      → Quiet ((next s a f).view b) (dealt_in (next s a f) d b)
  quiet_on f inside b = elim (eqb_tells b a) [
    | inl q ↦ at_own s a f d told lt k x Quiet (λ away. absurd (clash (is_in d (after f v)) inside away)) b q.1
    | inr q ↦ at_other s a f d told lt k x Quiet b q.1 (x.quiet b)
  ]

  known_on : (f : Step) → (deals d (own a) v w f).count ≡ w.count → (b n : ℕ)
      → (dealt_in (next s a f) d b).count ≡ Some n → s.words.dones d ≡ n
  known_on f same b n = elim (eqb_tells b a) [
    | inl q ↦ at_own s a f d told lt k x (λ _ r. r.count ≡ Some n → s.words.dones d ≡ n)
        (λ c. x.known a n (sym same ∙ c)) b q.1
    | inr q ↦ at_other s a f d told lt k x (λ _ r. r.count ≡ Some n → s.words.dones d ≡ n) b q.1 (x.known b n)
  ]

  -- an add
  module _ (y : ℕ) (e : Entry) (mine : owner y ≡ a) (free : s.entry y ≡ None)
      (held : v.hold.head ≡ Some (head_of e.watch)) where
    abbrev queued : Step
    queued = step.Queue y e

    other_queue : (head_of e.watch == h) ≡ false → IsExact (next s a queued) d
    other_queue ne = turn_exact s a queued d told lt k x (same_turn s a d told k x queued (record {
      frame = frame_put s.entry y h (Some e) (ne ∙ sym (ap (λ (o : Option Entry). stands_at o h) free));
      done = refl;
      head = refl;
      settled = λ z. ap (λ (b : Bool). b && is_seen (put v.hold.book y (shown e) z)) away
          ∙ sym (unsettled s a d told k x away z);
      left = refl;
      debt = refl;
      count = refl;
    }))
      where
        away : is_in d v ≡ false
        away = held_is v.hold.head h (head_of e.watch) held ∙ ne

    own_queue : (head_of e.watch == h) ≡ true → y ≡ own a → w.count ≡ Some 0 → IsExact (next s a queued) d
    own_queue eq is none = record {
      bound = λ z st. let q = x.known a 0 none in omega (arith, q);
      there = λ z. put_at (λ (o : Option Entry). stands_at o h ≡ true → (z ≡ own (owner z))
          × (Home z ((next s a queued).view (owner z)) (dealt_in (next s a queued) d (owner z))))
          s.entry y (Some e) z
          (λ q _. (
            q ∙ is ∙ ap own (sym mine) ∙ ap (λ (i : ℕ). own (owner i)) (sym q),
            at_own s a queued d told lt k x (Home z) (inl (ap (λ (b : Bool). b && is_seen (put v.hold.book y
                (shown e) z))
                inside ∙ ap is_seen (ap (put v.hold.book y (shown e)) q ∙ put_same v.hold.book y (shown e))))
                (owner z) (ap owner q ∙ mine),
          ))
          (λ ne st. (
            (x.there z st).0,
            at_other s a queued d told lt k x (Home z) (owner z)
                (λ r. ne ((x.there z st).0 ∙ ap own r ∙ sym is)) (x.there z st).1,
          ));
      quiet = λ b. quiet_on queued inside b;
      known = λ b n. known_on queued refl b n;
    }
      where
        inside : is_in d v ≡ true
        inside = held_is v.hold.head h (head_of e.watch) held ∙ eq

    pub queue_exact : (head_of e.watch ≡ h → (y ≡ own a) × (w.count ≡ Some 0)) → IsExact (next s a queued) d
    queue_exact on = elim (eqb_tells (head_of e.watch) h) [
      | inl q ↦ own_queue q.0 (on q.1).0 (on q.1).1
      | inr q ↦ other_queue q.0
    ]

  -- a removal
  module _ (y : ℕ) (e : Entry) (stands : s.entry y ≡ Some e) (held : v.hold.head ≡ Some (head_of e.watch)) where
    abbrev taken : Step
    taken = step.Unqueue y

    other_unqueue : (head_of e.watch == h) ≡ false → IsExact (next s a taken) d
    other_unqueue ne = turn_exact s a taken d told lt k x (same_turn s a d told k x taken (record {
      frame = frame_put s.entry y h None (sym (stands_of (s.entry y) e h stands ∙ ne));
      done = refl;
      head = refl;
      settled = λ z. ap (λ (b : Bool). b && is_seen (put v.hold.book y off z)) away
          ∙ sym (unsettled s a d told k x away z);
      left = refl;
      debt = let z = no_debt s a d told k x away in omega (arith, z);
      count = refl;
    }))
      where
        away : is_in d v ≡ false
        away = held_is v.hold.head h (head_of e.watch) held ∙ ne

    module _ (eq : (head_of e.watch == h) ≡ true) where
      inside : is_in d v ≡ true
      inside = held_is v.hold.head h (head_of e.watch) held ∙ eq

      stood : stands_at (s.entry y) h ≡ true
      stood = stands_of (s.entry y) e h stands ∙ eq

      gone : stands_at (put s.entry y None y) h ≡ false
      gone = ap (λ (o : Option Entry). stands_at o h) (put_same s.entry y None)

      first : y ≡ own (owner y)
      first = (x.there y stood).0

      number : owner y < TASKS
      number = owner_small y (k.facts.named y e stands)

      -- another place
      elsewhere_same : (z : ℕ) → z ≢ y → stands_at (put s.entry y None z) h ≡ stands_at (s.entry z) h
      elsewhere_same z ne = ap (λ (o : Option Entry). stands_at o h) (put_other s.entry y None z ne)

      -- the removal of the own entry
      own_sum : owner y ≡ a → sum_below TASKS (worth (next s a taken) d) ≡ sum_below TASKS (worth s d)
      own_sum mine = sum_same TASKS (worth s d) (worth (next s a taken) d) (λ i _. elim (eqb_tells i a) [
        | inl q ↦ subst (λ (j : ℕ). worth (next s a taken) d j ≡ worth s d j) (sym q.1) here
        | inr q ↦ other_worth s a taken d told i q.1 (elsewhere_same (own i)
            (λ r. q.1 (sym (own_is i (r ∙ at_a)))))
      ])
        where
          at_a : y ≡ own a
          at_a = first ∙ ap own mine

          own_is : (i : ℕ) → own i ≡ own a → a ≡ i
          own_is i r = omega (arith, r)

          seen : is_settled d (own a) (after taken v) ≡ true
          seen = ap (λ (b : Bool). b && is_seen (put v.hold.book y off (own a))) inside
              ∙ ap (λ (j : ℕ). is_seen (put v.hold.book y off j)) (sym at_a)
              ∙ ap is_seen (put_same v.hold.book y off)

          here : worth (next s a taken) d a ≡ worth s d a
          here =
              let now = own_worth s a taken d told in
              let then : due w.left (is_settled d (own a) (after taken v)) (stands_at (put s.entry y None
              (own a)) h) ≡ 0 =
              ap (λ (p : Bool). due w.left p (stands_at (put s.entry y None (own a)) h)) seen
              ∙ due_settled w.left (stands_at (put s.entry y None (own a)) h) in
              let before : due w.left (is_settled d (own a) v) (stands_at (s.entry (own a)) h) ≡ 0 =
              ap (λ (p : Bool). due w.left (is_settled d (own a) v) p)
              (ap (λ (j : ℕ). stands_at (s.entry j) h) (sym at_a) ∙ stood)
              ∙ due_standing w.left (is_settled d (own a) v) in
              let same : flag (not (y == own a)) ≡ 0 = grind (arith, at_a) in
              omega (arith, now, then, before, same)

      -- the removal of another's entry, who is handed a permit
      other_sum : owner y ≢ a → sum_below TASKS (worth s d) ≤ sum_below TASKS (worth (next s a taken) d)
      other_sum ne = sum_shift TASKS a (owner y) (worth s d) (worth (next s a taken) d) lt number (λ q. ne (sym q))
          mine_less handed
          (λ i na nb. other_worth s a taken d told i na (elsewhere_same (own i) (λ r. nb (own_of i r))))
        where
          own_of : (i : ℕ) → own i ≡ y → i ≡ owner y
          own_of i r = let q : own i ≡ own (owner y) = r ∙ first in omega (arith, q)

          apart : own a ≢ y
          apart q = ne (sym (own_of a q))

          mine_less : worth s d a ≤ worth (next s a taken) d a + 1
          mine_less =
              let now = own_worth s a taken d told in
              let same : due w.left (is_settled d (own a) (after taken v)) (stands_at (put s.entry y None (own a)) h)
              ≡ due w.left (is_settled d (own a) v) (stands_at (s.entry (own a)) h) =
              ap (λ (l : Look). due w.left (is_in d v && is_seen l) (stands_at (put s.entry y None (own a)) h))
              (put_other v.hold.book y off (own a) apart)
              ∙ ap (λ (p : Bool). due w.left (is_settled d (own a) v) p) (elsewhere_same (own a) apart) in
              let one = flag_small (not (y == own a)) in
              omega (arith, now, same, one)

          away : is_in d (s.view (owner y)) ≡ false
          away = out s a taken d told lt k x (owner y) ne inside

          unseen_there : is_settled d (own (owner y)) (s.view (owner y)) ≡ false
          unseen_there = ap (λ (b : Bool). b && is_seen ((s.view (owner y)).hold.book (own (owner y)))) away

          left_there : (dealt_in s d (owner y)).left ≡ true
          left_there = elim (x.there y stood).1 [
            | inl q ↦ absurd (clash (is_settled d y (s.view (owner y))) q
                (ap (λ (b : Bool). b && is_seen ((s.view (owner y)).hold.book y)) away))
            | inr q ↦ q
          ]

          handed : worth s d (owner y) + 1 ≤ worth (next s a taken) d (owner y)
          handed =
              let l = dealt_in s d (owner y) in
              let p = is_settled d (own (owner y)) (s.view (owner y)) in
              let before : due l.left p (stands_at (s.entry (own (owner y))) h) ≡ 0 =
              ap (λ (t : Bool). due l.left p t) (ap (λ (j : ℕ). stands_at (s.entry j) h) (sym first) ∙ stood)
              ∙ due_standing l.left p in
              let view_same : (next s a taken).view (owner y) ≡ s.view (owner y) =
              put_other s.view a (after taken v) (owner y) ne in
              let dealt_same : dealt_in (next s a taken) d (owner y) ≡ l = other_dealt s a taken d told (owner y) ne in
              let now : worth (next s a taken) d (owner y)
              ≡ worth_of p (stands_at (put s.entry y None (own (owner y))) h) l =
              ap (λ (u : View). worth_of (is_settled d (own (owner y)) u)
              (stands_at (put s.entry y None (own (owner y))) h) (dealt_in (next s a taken) d (owner y))) view_same
              ∙ ap (λ (r : Dealt). worth_of p (stands_at (put s.entry y None (own (owner y))) h) r) dealt_same in
              let later : due l.left p (stands_at (put s.entry y None (own (owner y))) h) ≡ 1 =
              ap (λ (t : Bool). due t p (stands_at (put s.entry y None (own (owner y))) h)) left_there
              ∙ ap (λ (t : Bool). due true t (stands_at (put s.entry y None (own (owner y))) h)) unseen_there
              ∙ ap (λ (t : Bool). due true false t)
              (ap (λ (j : ℕ). stands_at (put s.entry y None j) h) (sym first) ∙ gone) in
              omega (arith, before, now, later)

      sums : sum_below TASKS (worth s d) ≤ sum_below TASKS (worth (next s a taken) d)
      sums = elim (eqb_tells (owner y) a) [
        | inl q ↦ let e = own_sum q.1 in omega (arith, e)
        | inr q ↦ other_sum q.1
      ]

      own_unqueue : IsExact (next s a taken) d
      own_unqueue = record {
        bound = λ z. put_at (λ (o : Option Entry). stands_at o h ≡ true
            → s.words.dones d ≤ sum_below TASKS (worth (next s a taken) d)) s.entry y None z
            (λ _ st. absurd (clash false st refl))
            (λ _ st. let b = x.bound z st in let m = sums in omega (arith, b, m));
        there = λ z. put_at (λ (o : Option Entry). stands_at o h ≡ true → (z ≡ own (owner z))
            × (Home z ((next s a taken).view (owner z)) (dealt_in (next s a taken) d (owner z))))
            s.entry y None z
            (λ _ st. absurd (clash false st refl))
            (λ ne st. (
              (x.there z st).0,
              elim (eqb_tells (owner z) a) [
                | inl q ↦ at_own s a taken d told lt k x (Home z) (still z ne
                    (subst (λ (i : ℕ). Home z (s.view i) (dealt_in s d i)) q.1 (x.there z st).1)) (owner z) q.1
                | inr q ↦ at_other s a taken d told lt k x (Home z) (owner z) q.1 (x.there z st).1
              ],
            ));
        quiet = λ b. quiet_on taken inside b;
        known = λ b n. known_on taken refl b n;
      }
        where
          still : (z : ℕ) → z ≢ y → Home z v w → Home z (after taken v) (deals d (own a) v w taken)
          still z ne (inl q) = inl (ap (λ (l : Look). is_in d v && is_seen l) (put_other v.hold.book y off z ne) ∙ q)
          still z ne (inr q) = inr q

    pub unqueue_exact : IsExact (next s a taken) d
    unqueue_exact = elim (eqb_tells (head_of e.watch) h) [
      | inl q ↦ own_unqueue q.0
      | inr q ↦ other_unqueue q.0
    ]
