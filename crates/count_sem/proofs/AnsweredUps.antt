-- What an `up` gives, by its answer.
use Rattle.std.proofs.Common.{refl, sym, ◌∙◌, ap, subst, arith, eq-eqb}
use Rattle.std.proofs.lemmas.Bool.Decides.{nat_tests}
use Rattle.std.specs.Prelude.{ℕ, zero, ◌≡◌, ◌+◌, ◌==◌, ◌&&◌, ◌||◌, not, nat_lt, pos, Bool, true, false, if◌then◌else◌}
use Rattle.std.specs.Prelude.{Option, Some, None, Result, Ok, Err, List, [], ◌∷◌, ◌++◌}
use Rattle.wait_model.specs.{declared.layout.TheConstants.ALL_DONE, declared.calls.Answer.Answer}
use Rattle.wait_model.specs.{declared.points.Given.Given, declared.points.Next.Next, declared.points.Planned.Planned}
use Rattle.wait_model.specs.{declared.points.Point.Point, declared.points.Seen.Seen}
use Rattle.wait_model.specs.{declared.queues.CalledEntry.CalledEntry, declared.steps.Step.Step}
use Rattle.wait_model.specs.{declared.watches.Aim.Aim, declared.watches.Entry.Entry, declared.watches.Watch.Watch}
use Rattle.wait_model.specs.{Fold.holding, Fold.view_of, Runs.is_publishing, Runs.own, Tables.Table, Tasks.meets}
use Rattle.wait_model.specs.{Views.View, Views.blank, Words.flag}
use Rattle.wait_model.specs.Permits.{Dealt, dealt, done_head, is_in, none_dealt, shows_at}
use Rattle.wait_model.specs.Watches.{head_of, mask_of, number_of, stands_at}
use Rattle.wait_model.specs.declared.calls.Answer.TheVariants as answer
use Rattle.wait_model.specs.declared.calls.Event.TheVariants as event
use Rattle.wait_model.specs.declared.points.CountPoint.TheVariants as counting
use Rattle.wait_model.specs.declared.points.Next.TheVariants as next
use Rattle.wait_model.specs.declared.points.Point.TheVariants as at
use Rattle.wait_model.specs.declared.points.SelectPoint.TheVariants as selecting
use Rattle.wait_model.specs.declared.steps.Step.TheVariants as step
use Rattle.wait_model.specs.declared.watches.Mode.TheVariants as mode
use Rattle.wait_model.specs.declared.watches.Watch.TheVariants as watch
use Rattle.wait_model.proofs.PermitLaws.OwnTurns.{clash, deals_snoc}
use Rattle.wait_rule.specs.{declared.journal.Item.Item, Interleavings.table_of, Known.Known, LeftEntries.Order}
use Rattle.wait_rule.specs.Says.{history_of}
use Rattle.wait_rule.specs.Transitions.{Finds, FindsStep, IsMadeFor, IsStepFor, Program, by_look, by_step}
use Rattle.wait_rule.proofs.KnownLaws.HandedSteps.{AddsLow, IsAwayAt, OrderStep, away_next, off_there, order_front}
use Rattle.wait_rule.proofs.KnownLaws.HandedSteps.{order_view}
use Rattle.wait_rule.proofs.SaidEvents.Fronts.{history_grows, number_stays}
use Rattle.wait_class.specs.Tables.{plan_program}
use Rattle.count_sem.specs.{declared.ups.SemFull.SemFull, Ups.up_answer}
use Rattle.count_sem.specs.SemAnswers.{CountsMore, UpsAreCounted, up_gives}
use Rattle.count_sem.specs.SemPermits.{gives_permit, permits_given, permits_taken, takes_permit}
use Rattle.count_sem.specs.SemPrograms.{is_full, sem_head, up_next, up_plan}
use Rattle.count_sem.proofs.AnswerRuns.{LooksHold, PointsHold, run_holds}
use Rattle.count_sem.proofs.SemPoints.{IsIn, in_on, lock_in, view_more, wake_keeps}
use Rattle.count_sem.proofs.SemSums.{counted_snoc}

-- so many has it given and taken in all
pub record Has (c me : ℕ) (es : List Step) (given taken : ℕ) : Type 0 where
  pub gave : permits_given c me es ≡ given
  pub took : permits_taken c me es ≡ taken

-- one step more
module _ (c me : ℕ) (es : List Step) (e : Step) (g t : ℕ) (has : Has c me es g t) where
  gave_by : (b : Bool) (n : ℕ) → gives_permit c (own me) (view_of es) (dealt c me es) e ≡ b → n ≡ g + flag b
      → permits_given c me (es ++ e ∷ []) ≡ n
  gave_by b n gives is = let one = counted_snoc gives_permit c (own me) blank none_dealt es e in
      let two = has.gave in let by = ap flag gives in omega (arith, one, two, by, is)

  took_by : (b : Bool) (n : ℕ) → takes_permit c (own me) (view_of es) (dealt c me es) e ≡ b → n ≡ t + flag b
      → permits_taken c me (es ++ e ∷ []) ≡ n
  took_by b n takes is = let one = counted_snoc takes_permit c (own me) blank none_dealt es e in
      let two = has.took in let by = ap flag takes in omega (arith, one, two, by, is)

  pub has_still : gives_permit c (own me) (view_of es) (dealt c me es) e ≡ false
      → takes_permit c (own me) (view_of es) (dealt c me es) e ≡ false → Has c me (es ++ e ∷ []) g t
  has_still gives takes = record {
    gave = gave_by false g gives (omega arith);
    took = took_by false t takes (omega arith);
  }

  pub has_gift : gives_permit c (own me) (view_of es) (dealt c me es) e ≡ true
      → takes_permit c (own me) (view_of es) (dealt c me es) e ≡ false → Has c me (es ++ e ∷ []) (g + 1) t
  has_gift gives takes = record { gave = gave_by true (g + 1) gives refl; took = took_by false t takes (omega arith) }

  pub has_take : gives_permit c (own me) (view_of es) (dealt c me es) e ≡ false
      → takes_permit c (own me) (view_of es) (dealt c me es) e ≡ true → Has c me (es ++ e ∷ []) g (t + 1)
  has_take gives takes = record { gave = gave_by false g gives (omega arith); took = took_by true (t + 1) takes refl }

-- a look takes nothing where the last hold left nothing
pub unleft_look : (a b l r : Bool) → l ≡ false → (a && b) && (l && r) ≡ false
unleft_look true true false r none = refl
unleft_look true false false r none = refl
unleft_look false b false r none = refl
unleft_look a b true r none = absurd (cc)

-- a step that gives nothing, takes nothing, and queues nothing
pub record IsQuiet (e : Step) : Type 0 where
  pub gives : (d x : ℕ) (v : View) (w : Dealt) → gives_permit d x v w e ≡ false
  pub takes : (d x : ℕ) (v : View) (w : Dealt) → takes_permit d x v w e ≡ false
  pub low : AddsLow e

module _ (k : Known) (self : Option ℕ) (g : Given) where
  pub lock_quiet : (h : ℕ) (e : Step) → IsStepFor k self g (event.Lock h) e → IsQuiet e
  lock_quiet h (step.Lock i aim w) made =
      record { gives = λ d x v u. refl; takes = λ d x v u. refl; low = tt }
  lock_quiet h e made = absurd made

  pub unlock_quiet : (h : ℕ) (spent : Bool) (e : Step) → IsStepFor k self g (event.Unlock h spent) e → IsQuiet e
  unlock_quiet h spent (step.Unlock i s) made =
      record { gives = λ d x v u. refl; takes = λ d x v u. refl; low = tt }
  unlock_quiet h spent e made = absurd made

  pub wake_quiet : (who : ℕ) (hit : Bool) (e : Step) → IsStepFor k self g (event.Wake who hit) e → IsQuiet e
  wake_quiet who hit (step.Wake i mask w) made =
      record { gives = λ d x v u. refl; takes = λ d x v u. refl; low = tt }
  wake_quiet who hit e made = absurd made

  pub load_quiet : (n v : ℕ) (e : Step) → IsStepFor k self g (event.Load n v) e → IsQuiet e
  load_quiet n v (step.Load l r) made =
      record { gives = λ d x u w. refl; takes = λ d x u w. refl; low = tt }
  load_quiet n v e made = absurd made

  -- a raise by one is a publish
  raise_is : (c n : ℕ) (l : Watch) (r v : ℕ) → l ≡ watch.Done c → n ≡ v + 1 → v ≡ r → is_publishing l r n ≡ false → ⊥
  raise_is c n l r v about is finds low =
      let same = ap (λ (w : Watch). is_publishing w r n) about in
      let t : nat_lt r n ≡ true = grind (arith, nat_tests, is, finds) in
      let z : true ≡ false = sym (ap (λ (b : Bool). b || (n == ALL_DONE)) t) ∙ (sym same ∙ low) in cc

  pub record IsGift (c : ℕ) (e : Step) : Type 0 where
    pub gives : (x : ℕ) (v : View) (w : Dealt) → gives_permit c x v w e ≡ true
    pub takes : (x : ℕ) (v : View) (w : Dealt) → takes_permit c x v w e ≡ false
    pub low : AddsLow e

  pub raise_gives : (c num : ℕ) (seen : Seen) (e : Step) → g.watch ≡ watch.Done c
      → IsStepFor k self g (event.Set num (seen.value + 1)) e → FindsStep e seen → IsGift c e
  raise_gives c num seen (step.Publish l n r) about made finds = record {
    gives = λ x v w. ap (λ (i : Watch). gives_permit c x v w (step.Publish i n r)) (made.0 ∙ about) ∙ eq-eqb c c refl;
    takes = λ x v w. refl;
    low = tt;
  }
  raise_gives c num seen (step.Consume l n r) about made finds =
      absurd (raise_is c n l r seen.value (made.0 ∙ about) made.1 finds made.2)
  raise_gives c num seen e about made finds = absurd made

-- the points of an `up` of a task that has given g permits, and taken t, before
abbrev pub gave_in : ℕ → Answer → ℕ
gave_in g (answer.Number (pos zero)) = g + 1
gave_in g a = g

module _ (c me g t : ℕ) where
  -- its last hold left its entry off, and this one shows it nowhere
  pub record Stands (es : List Step) (given : ℕ) : Type 0 where
    pub away : IsAwayAt c me es
    pub has : Has c me es given t

  abbrev pub UpHolds : Point → List Step → Type 0
  UpHolds (at.Select selecting.Lock) es = ((dealt c me es).left ≡ false) × Has c me es g t
  UpHolds (at.Select (selecting.Next n)) es = Stands es g × IsIn c es
  UpHolds (at.Select (selecting.Off n who)) es = Stands es g × IsIn c es
  UpHolds (at.Select selecting.Store) es = Stands es (g + 1)
  UpHolds (at.Count (counting.Unlock true)) es = Stands es (g + 1)
  UpHolds p es = Stands es g

  abbrev pub UpPlace : Next → List Step → Type 0
  UpPlace (next.Go p) es = UpHolds p es
  UpPlace (next.Ends a) es = Stands es (gave_in g a)

  module _ (es : List Step) (e : Step) (o : OrderStep me es e) where
    pub quietly : IsQuiet e → (given : ℕ) → Stands es given → Stands (es ++ e ∷ []) given
    quietly quiet given s = record {
      away = away_next c me es e o quiet.low s.away;
      has = has_still c me es e given t s.has (quiet.gives c (own me) (view_of es) (dealt c me es))
          (quiet.takes c (own me) (view_of es) (dealt c me es));
    }

    giving : AddsLow e → gives_permit c (own me) (view_of es) (dealt c me es) e ≡ true
        → takes_permit c (own me) (view_of es) (dealt c me es) e ≡ false → Stands es g → Stands (es ++ e ∷ []) (g + 1)
    giving low gives takes s = record {
      away = away_next c me es e o low s.away;
      has = has_gift c me es e g t s.has gives takes;
    }

  pub look_stands : (es : List Step) (y w given : ℕ) → OrderStep me es (step.Saw y w) → Stands es given
      → Stands (es ++ step.Saw y w ∷ []) given
  look_stands es y w given o s = record {
    away = away_next c me es (step.Saw y w) o tt s.away;
    has = has_still c me es (step.Saw y w) given t s.has refl
        (unleft_look (is_in c (view_of es)) (y == own me) (dealt c me es).left _ s.away.left);
  }

  -- the first lock
  pub locked : (es : List Step) (h w : ℕ) (aim : Option Aim) → (dealt c me es).left ≡ false → Has c me es g t
      → Stands (es ++ step.Lock h aim w ∷ []) g
  locked es h w aim left has = record {
    away = record {
      left = ap (λ (u : Dealt). u.left) (deals_snoc c (own me) blank none_dealt es (step.Lock h aim w)) ∙ left;
      away = ap (λ (v : View). shows_at (done_head c) (v.hold.book (own me))) (view_more es (step.Lock h aim w));
    };
    has = has_still c me es (step.Lock h aim w) g t has refl refl;
  }

  -- the entry of another task is taken off, where the own one is not queued
  pub others : (es : List Step) (x : ℕ) (o : OrderStep me es (step.Unqueue x))
      → stands_at ((table_of o.order.steps).entry (own me)) (done_head c) ≡ false → IsIn c es
      → gives_permit c (own me) (view_of es) (dealt c me es) (step.Unqueue x) ≡ true
  others es x o none held = both (is_in c (view_of es)) (x == own me)
      (ap (λ (i : Option ℕ). holding i (done_head c)) held ∙ eq-eqb (done_head c) (done_head c) refl)
      (ne (x == own me) refl)
    where
      both : (a b : Bool) → a ≡ true → b ≡ false → a && not b ≡ true
      both true false p q = refl
      both false b p q = absurd (cc)
      both true true p q = absurd (cc)

      s : Table
      s = table_of o.order.steps

      some_same : (a b : ℕ) → Some a ≡ Some b → b ≡ a
      some_same a b q = cc

      stands : x ≡ own me → (f : Entry) → s.entry x ≡ Some f → (s.view me).hold.head ≡ Some (head_of f.watch)
          → stands_at (s.entry (own me)) (done_head c) ≡ true
      stands q f shows in_head = ap (λ (i : ℕ). stands_at (s.entry i) (done_head c)) (sym q)
          ∙ (ap (λ (y : Option Entry). stands_at y (done_head c)) shows ∙ eq-eqb (head_of f.watch) (done_head c)
          (some_same (done_head c) (head_of f.watch)
          (sym (ap (λ (v : View). v.hold.head) (order_view me es o.order) ∙ held) ∙ in_head)))

      ne : (b : Bool) → (x == own me) ≡ b → (x == own me) ≡ false
      ne false q = q
      ne true q = absurd (clash (stands_at (s.entry (own me)) (done_head c))
          (stands (grind (arith, nat_tests, q)) o.allowed.0 o.allowed.1 o.allowed.2) none)

-- its program
module _ (c me g t : ℕ) where
  abbrev upper : Program
  upper = plan_program me 0 (up_plan c)

  up_looks : LooksHold me upper (UpPlace c me g t)
  up_looks (next.Go (at.Select selecting.Lock)) es y w o q = (
    ap (λ (u : Dealt). u.left) (deals_snoc c (own me) blank none_dealt es (step.Saw y w)) ∙ q.0,
    has_still c me es (step.Saw y w) g t q.1 refl
        (unleft_look (is_in c (view_of es)) (y == own me) (dealt c me es).left _ q.0),
  )
  up_looks (next.Go (at.Select (selecting.Next n))) es y w o q =
      (look_stands c me g t es y w g o q.0, in_on c es (step.Saw y w) refl q.1)
  up_looks (next.Go (at.Select (selecting.Off n who))) es y w o q =
      (look_stands c me g t es y w g o q.0, in_on c es (step.Saw y w) refl q.1)
  up_looks (next.Go (at.Select selecting.Store)) es y w o q = look_stands c me g t es y w (g + 1) o q
  up_looks (next.Go (at.Count (counting.Unlock true))) es y w o q = look_stands c me g t es y w (g + 1) o q
  up_looks (next.Go p) es y w o q = look_stands c me g t es y w g o q
  up_looks (next.Ends a) es y w o q = look_stands c me g t es y w (gave_in g a) o q

  module _ (seen : Seen) (k : Known) where
    abbrev here : List Step
    here = history_of k

    abbrev Makes : Point → Planned → Type 0
    Makes p x = ((xs : List Item) → IsMadeFor k upper.own (upper.given p) x.event (by_look xs) → ⊥)
        × ((e : Step) → OrderStep me here e → IsStepFor k upper.own (upper.given p) x.event e
        → Finds k upper p (by_step e) seen → UpPlace c me g t x.next (here ++ e ∷ []))

    full_or : (b : Bool) (es : List Step) → Stands c me g t es g
        → UpHolds c me g t (at.Count (if b then counting.Unlock false else counting.Store)) es
    full_or true es s = s
    full_or false es s = s

    next_fits : (n : ℕ) (o : Option CalledEntry) → Stands c me g t here g × IsIn c here
        → Makes (at.Select (selecting.Next n)) (up_next c o seen)
    next_fits n (Some called) q = (
      λ xs made. absurd made,
      λ e o made finds. (
        quietly c me g t here e o (wake_quiet k upper.own (upper.given (at.Select (selecting.Next n))) called.who
            (meets (mask_of mode.Normal) seen.other.state) e made) g q.0,
        let keeps = wake_keeps c here k upper.own (upper.given (at.Select (selecting.Next n))) called.who
            (meets (mask_of mode.Normal) seen.other.state) e made in
            in_on c here e keeps.head q.1,
      ),
    )
    next_fits n None q = (
      λ xs made. absurd made,
      λ e o made finds. full_or (is_full seen.value) (here ++ e ∷ [])
          (quietly c me g t here e o
          (load_quiet k upper.own (upper.given (at.Select (selecting.Next n))) (number_of (watch.Done c)) seen.value e
          made)
          g q.0),
    )

    off_fits : (n who : ℕ) → Stands c me g t here g × IsIn c here → (e : Step) → OrderStep me here e
        → IsStepFor k upper.own (upper.given (at.Select (selecting.Off n who))) (event.Unqueue who) e
        → Stands c me g t (here ++ e ∷ []) (g + 1)
    off_fits n who q (step.Unqueue x) o made = giving c me g t here (step.Unqueue x) o tt
        (others c me g t here x o (off_there c me here o.order q.0.away) q.1) refl q.0
    off_fits n who q e o made = absurd made

    lock_fits : (h : ℕ) → h ≡ done_head c → ((dealt c me here).left ≡ false) × Has c me here g t → (e : Step)
        → OrderStep me here e → IsStepFor k upper.own (upper.given (at.Select selecting.Lock)) (event.Lock h) e
        → Stands c me g t (here ++ e ∷ []) g × IsIn c (here ++ e ∷ [])
    lock_fits h at_head q (step.Lock i aim w) o made = (
      locked c me g t here i w aim q.0 q.1,
      lock_in c here k upper.own (upper.given (at.Select selecting.Lock)) h (step.Lock i aim w) at_head made,
    )
    lock_fits h at_head q e o made = absurd made

    -- what ends it
    last_fits : (p : Point) (spent : Bool) (given : ℕ) → Stands c me g t here given → (e : Step)
        → OrderStep me here e
        → IsStepFor k upper.own (upper.given p) (event.Unlock (sem_head c) spent) e
        → Stands c me g t (here ++ e ∷ []) given
    last_fits p spent given q e o made = quietly c me g t here e o
        (unlock_quiet k upper.own (upper.given p) (sem_head c) spent e made) given q

    store_fits : Stands c me g t here g → (e : Step) → OrderStep me here e
        → IsStepFor k upper.own (upper.given (at.Count counting.Store))
        (event.Set (number_of (watch.Done c)) (seen.value + 1)) e → FindsStep e seen
        → Stands c me g t (here ++ e ∷ []) (g + 1)
    store_fits q e o made finds =
        let gift = raise_gives k upper.own (upper.given (at.Count counting.Store)) c (number_of (watch.Done c)) seen
        e refl made finds in
        giving c me g t here e o gift.low (gift.gives (own me) (view_of here) (dealt c me here))
        (gift.takes (own me) (view_of here) (dealt c me here)) q

    makes : (p : Point) → UpHolds c me g t p here → Makes p (upper.plan p seen)
    makes (at.Select selecting.Lock) q = (
      λ xs made. absurd made,
      λ e o made finds. lock_fits (done_head c) refl q e o made,
    )
    makes (at.Select (selecting.Next n)) q = next_fits n seen.called q
    makes (at.Select (selecting.Off n who)) q = (λ xs made. absurd made, λ e o made finds. off_fits n who q e o made)
    makes (at.Select selecting.Store) q = (
      λ xs made. absurd made,
      λ e o made finds. last_fits (at.Select selecting.Store) true (g + 1) q e o made,
    )
    makes (at.Count counting.Store) q = (λ xs made. absurd made, λ e o made finds. store_fits q e o made finds.0)
    makes (at.Count (counting.Unlock true)) q = (
      λ xs made. absurd made,
      λ e o made finds. last_fits (at.Count (counting.Unlock true)) false (g + 1) q e o made,
    )
    makes p q = (λ xs made. absurd made, λ e o made finds. last_fits p false g q e o made)

  up_points : PointsHold me upper (UpPlace c me g t)
  up_points p seen k q =
      let m = makes seen k p q in record { looks = m.0; steps = m.1 }

pub ups_counted : UpsAreCounted
ups_counted old new c result o left raised =
    let me = old.view.number in
    let f = plan_program me 0 (up_plan c) in
    let runs = raised.runs in
    let number = number_stays f old new (next.Go (at.Select selecting.Lock)) (next.Ends (up_answer result))
    runs.transitions runs.goes in
    let grows = history_grows f old new (next.Go (at.Select selecting.Lock)) (next.Ends (up_answer result))
    runs.transitions runs.goes in
    let order : Order me (history_of new) = subst (λ (n : ℕ). Order n (history_of new)) number o in
    let before : Order me (history_of old) = order_front me (history_of old) grows.0 (subst (Order me) grows.1 order) in
    let ended = run_holds me f
    (UpPlace c me (permits_given c me (history_of old)) (permits_taken c me (history_of old)))
    (up_looks c me (permits_given c me (history_of old)) (permits_taken c me (history_of old)))
    (up_points c me (permits_given c me (history_of old)) (permits_taken c me (history_of old)))
    runs.transitions (next.Go (at.Select selecting.Lock)) (next.Ends (up_answer result)) old new runs.goes order
    (left before, record { gave = refl; took = refl }) in
    by result ended.has
  where
    by : (r : Result (Unit {0}) SemFull)
        → Has c old.view.number (history_of new)
        (gave_in (permits_given c old.view.number (history_of old)) (up_answer r))
        (permits_taken c old.view.number (history_of old)) → CountsMore old new c (up_gives r) 0
    by (Ok u) has = record { gave = has.gave; took = let two = has.took in omega (arith, two) }
    by (Err full) has = record {
      gave = let one = has.gave in omega (arith, one);
      took = let two = has.took in omega (arith, two);
    }
