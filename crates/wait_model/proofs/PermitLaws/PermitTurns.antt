-- Each step that takes nobody off at a completion's head and queues nobody there, as a turn.
use Rattle.std.proofs.Common.{refl, sym, ◌∙◌, ap, subst, arith, inl, inr}
use Rattle.std.proofs.lemmas.Bool.Decides.{eqb_tells, nat_tests}
use Rattle.std.specs.Prelude.{ℕ, ◌≡◌, ◌≢◌, ◌+◌, ◌-◌, ◌<◌, ◌≤◌, ◌⊎◌, Bool, true, false, not, ◌&&◌, ◌||◌, nat_le, ◌==◌}
use Rattle.std.specs.Prelude.{if◌then◌else◌, Option, Some, None}
use Rattle.wait_model.specs.{declared.steps.Step.Step, declared.watches.Aim.Aim, declared.watches.Entry.Entry}
use Rattle.wait_model.specs.{Facts.Kept, Facts.Agrees, Functions.put, Rows.Allowed, Runs.own, Tables.Table, Tables.next}
use Rattle.wait_model.specs.{Watches.head_of, Watches.stands_at, Words.flag, Words.entry_of}
use Rattle.wait_model.specs.declared.layout.TheConstants.{TASKS, ENTRIES, ALL_DONE}
use Rattle.wait_model.specs.Fold.{after, holding, after_unlock}
use Rattle.wait_model.specs.Permits.{Dealt, done_head, shows_at, is_in, is_seen, after_read, after_store, deals}
use Rattle.wait_model.specs.Permits.{finds_handed, MayGiveBack, ShowsNobody}
use Rattle.wait_model.specs.PermitFacts.{is_settled, dealt_in, IsExact, AreViewsTold}
use Rattle.wait_model.specs.Views.{View, Hold, Look, no_hold, unseen, off, elsewhere, shown, look_at}
use Rattle.wait_model.specs.declared.steps.Step.TheVariants as step
use Rattle.wait_model.specs.declared.watches.Watch.TheVariants as watch
use Rattle.wait_model.proofs.Functions.{put_same, put_other, both_left, both_right}
use Rattle.wait_model.proofs.PermitLaws.OwnTurns.{Turn, flag_small, held_is, in_is, clash, nothing_known, known_is}
use Rattle.wait_model.proofs.StepLaws.UnlockSteps.{unlock_hold}

-- one permit of a task that was handed it and whose hold has not seen it
abbrev pub due : Bool → Bool → Bool → ℕ
due left settled stands = flag (left && (not settled && not stands))

pub due_settled : (l q : Bool) → due l true q ≡ 0
due_settled true q = refl
due_settled false q = refl

pub due_standing : (l p : Bool) → due l p true ≡ 0
due_standing true true = refl
due_standing true false = refl
due_standing false p = refl

-- a look that was made of an entry that stands at the head shows it
pub seen_shows : (h : ℕ) (l : Look) (o : Option Entry) → Agrees h l o → l ≢ unseen → stands_at o h ≡ true
    → shows_at h l ≡ true
seen_shows h unseen o ag ne st = absurd (ne refl)
seen_shows h off None ag ne st = absurd (cc)
seen_shows h off (Some e) ag ne st = absurd (ag e refl (grind arith))
seen_shows h elsewhere None ag ne st = absurd (cc)
seen_shows h elsewhere (Some e) ag ne st = absurd (ag e refl (grind arith))
seen_shows h (shown e) o ag ne st = let q : head_of e.watch ≡ h = ag.1 in grind arith

pub seen_of : (l : Look) → l ≢ unseen → is_seen l ≡ true
seen_of unseen ne = absurd (ne refl)
seen_of _ ne = refl

pub not_unseen : (l : Look) → is_seen l ≡ true → l ≢ unseen
not_unseen unseen s q = cc
not_unseen _ s q = cc

pub look_seen : (h : ℕ) (o : Option Entry) → is_seen (look_at (Some h) o) ≡ true
look_seen h None = refl
look_seen h (Some e) = by (head_of e.watch == h)
  where
    by : (b : Bool) → is_seen (if b then shown e else elsewhere) ≡ true
    by true = refl
    by false = refl

module _ (s : Table) (a : ℕ) (d : ℕ) (told : AreViewsTold s) (k : Kept s) (x : IsExact s d) where
  abbrev v : View
  v = s.view a

  abbrev w : Dealt
  w = dealt_in s d a

  abbrev h : ℕ
  h = done_head d

  -- what the step leaves of the dealings
  pub record Same (e : Step) : Type 0 where
    pub frame : (y : ℕ) → stands_at ((next s a e).entry y) h ≡ stands_at (s.entry y) h
    pub done : (next s a e).words.dones d ≡ s.words.dones d
    pub head : is_in d (after e v) ≡ is_in d v
    pub settled : (y : ℕ) → is_settled d y (after e v) ≡ is_settled d y v
    pub left : (deals d (own a) v w e).left ≡ w.left
    pub debt : (deals d (own a) v w e).debt ≡ w.debt
    pub count : (deals d (own a) v w e).count ≡ w.count

  pub same_turn : (e : Step) → Same e → Turn s a e d told
  same_turn e m = record {
    frame = m.frame;
    done = inl m.done;
    bound = λ y n st small b.
        let due_then = due (deals d (own a) v w e).left (is_settled d (own a) (after e v))
        (stands_at ((next s a e).entry (own a)) h) in
        let same : due_then ≡ due w.left (is_settled d (own a) v) (stands_at (s.entry (own a)) h) =
        ap (λ (l : Bool). due l (is_settled d (own a) (after e v)) (stands_at ((next s a e).entry (own a)) h)) m.left
        ∙ ap (λ (p : Bool). due w.left p (stands_at ((next s a e).entry (own a)) h)) (m.settled (own a))
        ∙ ap (λ (p : Bool). due w.left (is_settled d (own a) v) p) (m.frame (own a)) in
        let debt = m.debt in
        let done = m.done in
        omega (arith, b, same, debt, done);
    home = λ y mine is st was. elim was [
      | inl q ↦ inl (m.settled y ∙ q)
      | inr q ↦ inr (m.left ∙ q)
    ];
    quiet = λ out.
        let z = x.quiet a (sym m.head ∙ out) in
        (m.debt ∙ z.0, m.count ∙ z.1);
    known = λ n c. m.done ∙ x.known a n (sym m.count ∙ c);
  }

  -- outside of holds of the head
  module _ (out : is_in d v ≡ false) where
    pub no_debt : w.debt ≡ 0
    no_debt = (x.quiet a out).0

    pub no_count : w.count ≡ None
    no_count = (x.quiet a out).1

    pub unsettled : (y : ℕ) → is_settled d y v ≡ false
    unsettled y = ap (λ (b : Bool). b && is_seen (v.hold.book y)) out

  -- a step that leaves entries, counts, the hold's head and its book as they were
  pub quiet : (e : Step) → (next s a e).entry ≡ s.entry → (next s a e).words.dones d ≡ s.words.dones d
      → (after e v).hold.head ≡ v.hold.head → (after e v).hold.book ≡ v.hold.book
      → (deals d (own a) v w e).left ≡ w.left → (deals d (own a) v w e).debt ≡ w.debt
      → (deals d (own a) v w e).count ≡ w.count → Turn s a e d told
  quiet e entry done head book left debt count = same_turn e (record {
    frame = λ y. ap (λ (f : ℕ → Option Entry). stands_at (f y) h) entry;
    done = done;
    head = ap (λ (o : Option ℕ). holding o h) head;
    settled = λ y. ap (λ (o : Option ℕ). holding o h && is_seen ((after e v).hold.book y)) head
        ∙ ap (λ (b : ℕ → Look). holding v.hold.head h && is_seen (b y)) book;
    left = left;
    debt = debt;
    count = count;
  })

  -- a lock of some head
  pub lock_turn : (i : ℕ) (aim : Option Aim) (f : ℕ) → Allowed s a (step.Lock i aim f)
      → Turn s a (step.Lock i aim f) d told
  lock_turn i aim f al = record {
    frame = λ y. refl;
    done = inl refl;
    bound = λ y n st small b.
        let debt_now = no_debt out in
        let debt_then = emptied (i == h) in
        let before : due w.left (is_settled d (own a) v) (stands_at (s.entry (own a)) h)
        ≡ due w.left false (stands_at (s.entry (own a)) h) =
        ap (λ (p : Bool). due w.left p (stands_at (s.entry (own a)) h)) (unsettled out (own a)) in
        let later : due w.left (holding (Some i) h && false) (stands_at (s.entry (own a)) h)
        ≡ due w.left false (stands_at (s.entry (own a)) h) =
        ap (λ (p : Bool). due w.left p (stands_at (s.entry (own a)) h)) (unlooked (holding (Some i) h)) in
        omega (arith, b, debt_now, debt_then, before, later);
    home = λ y mine is st was. elim was [
      | inl q ↦ absurd (clash (is_settled d y v) q (unsettled out y))
      | inr q ↦ inr q
    ];
    quiet = λ _. (emptied (i == h), uncounted (i == h));
    known = λ n c. absurd (nothing_known (if i == h then None else w.count) n (uncounted (i == h)) c);
  }
    where
      out : is_in d v ≡ false
      out = ap (λ (o : Option ℕ). holding o h) al.1

      emptied : (b : Bool) → (if b then 0 else w.debt) ≡ 0
      emptied true = refl
      emptied false = no_debt out

      uncounted : (b : Bool) → (if b then None else w.count) ≡ None
      uncounted true = refl
      uncounted false = no_count out

      unlooked : (b : Bool) → (b && false) ≡ false
      unlooked true = refl
      unlooked false = refl

  -- an unlock of some head
  module _ (i : ℕ) (sp : Bool) (al : v.hold.head ≡ Some i) where
    abbrev e : Step
    e = step.Unlock i sp

    given_back : (after_unlock v v.walk sp).hold ≡ no_hold
    given_back = unlock_hold v v.walk sp

    out_then : is_in d (after e v) ≡ false
    out_then = ap (λ (k : Hold). holding k.head h) given_back

    unsettled_then : (y : ℕ) → is_settled d y (after e v) ≡ false
    unsettled_then y = ap (λ (k : Hold). holding k.head h && is_seen (k.book y)) given_back

    -- of another head
    pub other_unlock : (i == h) ≡ false → Turn s a e d told
    other_unlock ne = same_turn e (record {
      frame = λ y. refl;
      done = refl;
      head = out_then ∙ sym out;
      settled = λ y. unsettled_then y ∙ sym (unsettled out y);
      left = rw ne refl;
      debt = rw ne refl;
      count = rw ne refl;
    })
      where
        out : is_in d v ≡ false
        out = held_is v.hold.head h i al ∙ ne

    -- of the completion's head
    module _ (is : i ≡ h) (eq : (i == h) ≡ true) (on : MayGiveBack d (own a) v w) where
      here : is_in d v ≡ true
      here = held_is v.hold.head h i al ∙ eq

      agrees : (y : ℕ) → Agrees h (v.hold.book y) (s.entry y)
      agrees y = (k.facts.views a).hold.agrees h y (al ∙ ap (λ (j : ℕ). Some j) is)

      standing_index : (y : ℕ) (o : Option Entry) → s.entry y ≡ o → stands_at o h ≡ true → y < ENTRIES
      standing_index y None q st = absurd (cc)
      standing_index y (Some e) q st = k.facts.named y e q

      nobody : (y : ℕ) → stands_at (s.entry y) h ≡ true → (w.debt ≡ 0) ⊎ ShowsNobody h v → w.debt ≡ 0
      nobody y st (inl z) = z
      nobody y st (inr none) = absurd (
          let it = none y (standing_index y (s.entry y) refl st) in
          clash (shows_at h (v.hold.book y)) (seen_shows h (v.hold.book y) (s.entry y) (agrees y) it.0 st) it.1)

      own_due : (l : Bool) → w.left ≡ l → due l (is_settled d (own a) v) (stands_at (s.entry (own a)) h) ≡ 0
      own_due false q = refl
      own_due true q =
          let seen = seen_of (v.hold.book (own a)) (on.0 q) in
          let settled : is_settled d (own a) v ≡ true =
          ap (λ (b : Bool). b && is_seen (v.hold.book (own a))) here ∙ seen in
          ap (λ (p : Bool). due true p (stands_at (s.entry (own a)) h)) settled
          ∙ due_settled true (stands_at (s.entry (own a)) h)

      pub own_unlock : Turn s a e d told
      own_unlock = record {
        frame = λ y. refl;
        done = inl refl;
        bound = λ y n st small b.
            let z = nobody y st on.1 in
            let f = own_due w.left refl in
            omega (arith, b, z, f);
        home = λ y mine is_own st was. inr (
            let seen : v.hold.book y ≢ unseen = (elim was [
              | inl q ↦ not_unseen (v.hold.book y) (both_right (is_in d v) (is_seen (v.hold.book y)) q)
              | inr q ↦ subst (λ (j : ℕ). v.hold.book j ≢ unseen) (sym is_own) (on.0 q)
            ]) in
            let shows = seen_shows h (v.hold.book y) (s.entry y) (agrees y) seen st in
            rw eq (subst (λ (j : ℕ). shows_at h (v.hold.book j) ≡ true) is_own shows));
        quiet = λ _. (rw eq refl, rw eq refl);
        known = λ n c. absurd (nothing_known (if i == h then None else w.count) n (rw eq refl) c);
      }

  -- a look at an entry word
  module _ (y f : ℕ) (al : entry_of f ≡ s.entry y) where
    abbrev looked : Step
    looked = step.Saw y f

    abbrev seen_then : ℕ → Bool
    seen_then z = is_seen (put v.hold.book y (look_at v.hold.head (entry_of f)) z)

    -- the look is none of this hold's at the own entry
    away : (is_in d v && (y == own a)) ≡ false → (is_settled d (own a) (after looked v) ≡ is_settled d (own a) v)
        → Turn s a looked d told
    away ne settled = record {
      frame = λ z. refl;
      done = inl refl;
      bound = λ z n st small b.
          let same : due w.left (is_settled d (own a) (after looked v)) (stands_at (s.entry (own a)) h)
          ≡ due w.left (is_settled d (own a) v) (stands_at (s.entry (own a)) h) =
          ap (λ (p : Bool). due w.left p (stands_at (s.entry (own a)) h)) settled in
          omega (arith, b, same);
      home = λ z mine is st was. elim was [
        | inl q ↦ inl (ap (λ (j : ℕ). is_settled d j (after looked v)) is ∙ settled
            ∙ ap (λ (j : ℕ). is_settled d j v) (sym is) ∙ q)
        | inr q ↦ inr q
      ];
      quiet = λ out. (
        let z = (x.quiet a out).0 in
            let q : flag (finds_handed d (own a) v w y (entry_of f)) ≡ 0 =
            ap (λ (p : Bool). flag (p && (w.left && (not (is_seen (v.hold.book (own a)))
            && not (stands_at (entry_of f) h))))) ne in
            omega (arith, z, q),
        (x.quiet a out).1,
      );
      known = λ n c. x.known a n c;
    }

    -- it is, and the entry is found there, or its permit is the hold's from now on
    here_too : is_in d v ≡ true → y ≡ own a → (y == own a) ≡ true → Turn s a looked d told
    here_too inside is eq = record {
      frame = λ z. refl;
      done = inl refl;
      bound = λ z n st small b.
          let later : due w.left (is_settled d (own a) (after looked v)) (stands_at (s.entry (own a)) h) ≡ 0 =
          ap (λ (p : Bool). due w.left p (stands_at (s.entry (own a)) h)) settled
          ∙ due_settled w.left (stands_at (s.entry (own a)) h) in
          let found = found_is in
          omega (arith, b, later, found);
      home = λ z mine own_is st was. inl (ap (λ (j : ℕ). is_settled d j (after looked v)) own_is ∙ settled);
      quiet = λ out. absurd (clash (is_in d v) inside out);
      known = λ n c. x.known a n c;
    }
      where
        held : v.hold.head ≡ Some h
        held = in_is v.hold.head h inside

        settled : is_settled d (own a) (after looked v) ≡ true
        settled = ap (λ (b : Bool). b && seen_then (own a)) inside
            ∙ ap (λ (j : ℕ). seen_then j) (sym is)
            ∙ ap is_seen (put_same v.hold.book y (look_at v.hold.head (entry_of f)))
            ∙ ap (λ (o : Option ℕ). is_seen (look_at o (entry_of f))) held
            ∙ look_seen h (entry_of f)

        found_is : flag (finds_handed d (own a) v w y (entry_of f))
            ≡ due w.left (is_settled d (own a) v) (stands_at (s.entry (own a)) h)
        found_is = ap (λ (p : Bool). flag ((p && (y == own a)) && (w.left && (not (is_seen (v.hold.book (own a)))
            && not (stands_at (entry_of f) h))))) inside
            ∙ ap (λ (p : Bool). flag (p && (w.left && (not (is_seen (v.hold.book (own a)))
            && not (stands_at (entry_of f) h))))) eq
            ∙ ap (λ (o : Option Entry). due w.left (is_seen (v.hold.book (own a))) (stands_at o h))
            (al ∙ ap s.entry is)
            ∙ ap (λ (p : Bool). due w.left (p && is_seen (v.hold.book (own a))) (stands_at (s.entry (own a)) h))
            (sym inside)

    pub saw_turn : Turn s a looked d told
    saw_turn = by (is_in d v) refl (eqb_tells y (own a))
      where
        by : (t : Bool) → is_in d v ≡ t → (((y == own a) ≡ true) × (y ≡ own a)) ⊎ (((y == own a) ≡ false) × (y ≢ own a))
            → Turn s a looked d told
        by true q (inl r) = here_too q r.1 r.0
        by true q (inr r) = away (rw (q, r.0) refl) (ap (λ (l : Look). is_in d v && is_seen l)
            (put_other v.hold.book y (look_at v.hold.head (entry_of f)) (own a) (λ z. r.1 (sym z))))
        by false q r = away (ap (λ (b : Bool). b && (y == own a)) q)
            (ap (λ (b : Bool). b && seen_then (own a)) q
            ∙ sym (ap (λ (b : Bool). b && is_seen (v.hold.book (own a))) q))

  -- what a load of the count leaves of the debt, and of the law
  after_read_small : (found debt : ℕ) → debt ≡ 0 → after_read found debt ≡ 0
  after_read_small found debt z = by ((found == 0) || (nat_le ALL_DONE found && nat_le debt 1))
    where
      by : (b : Bool) → (if b then 0 else debt) ≡ 0
      by true = refl
      by false = z

  -- where a load of the count clears the debt, there is no permit, or nobody is queued
  read_bound : (found debt p n : ℕ) → p ≤ 1 → n ≤ TASKS → found ≤ (debt + p) + n
      → found ≤ (after_read found debt + p) + n
  read_bound found debt p n small few b = by ((found == 0) || (nat_le ALL_DONE found && nat_le debt 1)) refl
    where
      by : (t : Bool) → ((found == 0) || (nat_le ALL_DONE found && nat_le debt 1)) ≡ t
          → found ≤ ((if t then 0 else debt) + p) + n
      by false q = b
      by true q = elim (eqb_tells found 0) [
        | inl r ↦ let z = r.1 in omega (arith, z)
        | inr r ↦
            let c : (nat_le ALL_DONE found && nat_le debt 1) ≡ true =
            sym (ap (λ (t : Bool). t || (nat_le ALL_DONE found && nat_le debt 1)) r.0) ∙ q in
            let l : nat_le ALL_DONE found ≡ true = both_left (nat_le ALL_DONE found) (nat_le debt 1) c in
            let m : nat_le debt 1 ≡ true = both_right (nat_le ALL_DONE found) (nat_le debt 1) c in
            let large : ALL_DONE ≤ found = grind (arith, nat_tests) in
            let little : debt ≤ 1 = grind (arith, nat_tests) in
            absurd (omega (arith, large, little, small, few, b))
      ]

  -- a load of a count
  module _ (c r : ℕ) (read : r ≡ s.words.dones c) where
    abbrev loaded : Step
    loaded = step.Load (watch.Done c) r

    other_load : (c == d) ≡ false → Turn s a loaded d told
    other_load ne = quiet loaded refl refl refl refl refl (rw ne refl) (rw ne refl)

    own_load : c ≡ d → (c == d) ≡ true → (t : Bool) → is_in d v ≡ t → Turn s a loaded d told
    own_load is eq true inside = record {
      frame = λ z. refl;
      done = inl refl;
      bound = λ z n st small b.
          let q : r ≡ s.words.dones d = read ∙ ap s.words.dones is in
          let p = due w.left (is_settled d (own a) v) (stands_at (s.entry (own a)) h) in
          let few = flag_small (w.left && (not (is_settled d (own a) v) && not (stands_at (s.entry (own a)) h))) in
          let read_now = read_bound r w.debt p n few (small inside) (omega (arith, b, q)) in
          let debt_then : (deals d (own a) v w loaded).debt ≡ after_read r w.debt = rw eq refl in
          omega (arith, read_now, debt_then, q);
      home = λ z mine own_is st was. was;
      quiet = λ out. absurd (clash (is_in d v) inside out);
      known = λ n q.
          let count_then : (deals d (own a) v w loaded).count ≡ Some r = rw (eq, inside) refl in
          ap s.words.dones (sym is) ∙ sym read ∙ known_is (deals d (own a) v w loaded).count r n count_then q;
    }
    own_load is eq false outside = quiet loaded refl refl refl refl refl
        (ap (λ (b : Bool). if b then after_read r w.debt else w.debt) eq
        ∙ after_read_small r w.debt (no_debt outside) ∙ sym (no_debt outside))
        (rw (eq, outside) refl)

    pub load_turn : Turn s a loaded d told
    load_turn = elim (eqb_tells c d) [
      | inl q ↦ own_load q.1 q.0 (is_in d v) refl
      | inr q ↦ other_load q.0
    ]

  -- what a store of the count leaves of the debt keeps the law
  store_bound : (value found debt p n : ℕ) → found ≤ (debt + p) + n → value ≤ (after_store value found debt + p) + n
  store_bound value found debt p n b = elim (eqb_tells value 0) [
    | inl q ↦ let z = q.1 in omega (arith, z)
    | inr q ↦
        let now : after_store value found debt ≡ debt + value - found =
        ap (λ (t : Bool). if t then 0 else debt + value - found) q.0 in
        omega (arith, b, now)
  ]

  -- a store of the count, by a step that is a publish or a consume
  pub store_turn : (e : Step) (c n r : ℕ) → r ≡ s.words.dones c → v.hold.head ≡ Some (done_head c)
      → (next s a e).entry ≡ s.entry → (next s a e).words.dones ≡ put s.words.dones c n
      → (after e v).hold.head ≡ v.hold.head → (after e v).hold.book ≡ v.hold.book
      → (deals d (own a) v w e).left ≡ w.left
      → (deals d (own a) v w e).debt ≡ (if c == d then after_store n r w.debt else w.debt)
      → (deals d (own a) v w e).count ≡ (if c == d then Some n else w.count)
      → Turn s a e d told
  store_turn e c n r read held entry words head book left debt count = by (eqb_tells c d)
    where
      settled : (y : ℕ) → is_settled d y (after e v) ≡ is_settled d y v
      settled y = ap (λ (o : Option ℕ). holding o h && is_seen ((after e v).hold.book y)) head
          ∙ ap (λ (b : ℕ → Look). holding v.hold.head h && is_seen (b y)) book

      other : (c == d) ≡ false → c ≢ d → Turn s a e d told
      other eq ne = quiet e entry
          (ap (λ (f : ℕ → ℕ). f d) words ∙ put_other s.words.dones c n d (λ q. ne (sym q))) head book left
          (debt ∙ rw eq refl) (count ∙ rw eq refl)

      mine : (c == d) ≡ true → c ≡ d → Turn s a e d told
      mine eq is = record {
        frame = frame;
        done = inr inside;
        bound = λ z m st small b.
            let q : r ≡ s.words.dones d = read ∙ ap s.words.dones is in
            let p = due w.left (is_settled d (own a) v) (stands_at (s.entry (own a)) h) in
            let stored = store_bound n r w.debt p m (omega (arith, b, q)) in
            let debt_then : (deals d (own a) v w e).debt ≡ after_store n r w.debt = debt ∙ rw eq refl in
            let due_then : due (deals d (own a) v w e).left (is_settled d (own a) (after e v))
            (stands_at ((next s a e).entry (own a)) h) ≡ p =
            ap (λ (l : Bool). due l (is_settled d (own a) (after e v)) (stands_at ((next s a e).entry (own a)) h)) left
            ∙ ap (λ (t : Bool). due w.left t (stands_at ((next s a e).entry (own a)) h)) (settled (own a))
            ∙ ap (λ (t : Bool). due w.left (is_settled d (own a) v) t) (frame (own a)) in
            let now = done_then in
            omega (arith, stored, debt_then, due_then, now);
        home = λ y mine_is own_is st was. elim was [
          | inl q ↦ inl (settled y ∙ q)
          | inr q ↦ inr (left ∙ q)
        ];
        quiet = λ out. absurd (clash (is_in d v) inside (sym (ap (λ (o : Option ℕ). holding o h) head) ∙ out));
        known = λ m q.
            let count_then : (deals d (own a) v w e).count ≡ Some n = count ∙ rw eq refl in
            done_then ∙ known_is (deals d (own a) v w e).count n m count_then q;
      }
        where
          same_head : (h == h) ≡ true
          same_head = grind arith

          inside : is_in d v ≡ true
          inside = held_is v.hold.head h (done_head c) held ∙ ap (λ (j : ℕ). done_head j == h) is ∙ same_head

          frame : (y : ℕ) → stands_at ((next s a e).entry y) h ≡ stands_at (s.entry y) h
          frame y = ap (λ (f : ℕ → Option Entry). stands_at (f y) h) entry

          done_then : (next s a e).words.dones d ≡ n
          done_then = ap (λ (f : ℕ → ℕ). f d) words ∙ ap (put s.words.dones c n) (sym is)
              ∙ put_same s.words.dones c n

      by : (((c == d) ≡ true) × (c ≡ d)) ⊎ (((c == d) ≡ false) × (c ≢ d)) → Turn s a e d told
      by (inl q) = mine q.0 q.1
      by (inr q) = other q.0 q.1
