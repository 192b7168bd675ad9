-- What a step does to the places at which members stand.
use Rattle.std.proofs.Common.{refl, sym, ◌∙◌, ap, subst, arith, inl, inr}
use Rattle.std.specs.Prelude.{ℕ, ◌≡◌, ◌≢◌, ◌+◌, ◌-◌, ◌%◌, ◌<◌, ◌≤◌, ◌⊎◌, Bool, true, false, nat_lt, if◌then◌else◌, ◌==◌}
use Rattle.std.specs.Prelude.{Option, Some, None, List}
use Rattle.std.proofs.lemmas.Bool.Decides.{nat_tests}
use Rattle.wait_model.specs.{declared.watches.Entry.Entry, declared.queues.Mark.Mark, declared.steps.Step.Step}
use Rattle.wait_model.specs.{Functions.put, Watches.head_of, Words.flag, Facts.Agrees, Queues.even_below}
use Rattle.wait_model.specs.Queues.{even_above}
use Rattle.wait_model.specs.declared.layout.TheConstants.{TASKS, ENTRIES, MEMBERS, PLACES, MIDDLE, FIRST_PRIORITY}
use Rattle.wait_model.specs.declared.layout.TheConstants.{FIRST_PLACE}
use Rattle.wait_model.specs.Views.{View as Told, Look, unseen, off, elsewhere, shown}
use Rattle.wait_model.specs.Tables.{Table, next, word_step}
use Rattle.wait_model.specs.Places.{within, front_for, tail_for, priority_for}
use Rattle.wait_model.specs.declared.steps.Step.TheVariants as step
use Rattle.wait_model.proofs.{Functions.put_case, Functions.put_at, HistoryLaws.StepTotals.total_grown}
use Rattle.wait_rule.specs.{declared.journal.Item.Item, Known.Known, Says.told_of, Says.noted}
use Rattle.wait_rule.specs.Notes.{Notes, Glance, unknown, away, there, look_place, glance_place}
use Rattle.wait_rule.specs.Members.{IsStanding, IsStandingMark, MarkAgrees}
use Rattle.wait_rule.specs.Places.{AreApart, queues_at, queued_at, first_for, IsNear, ArePlaced}
use Rattle.wait_rule.specs.Rule.{IsLawfulTable, IsWhole, AreLinked, IsRuled, all_notes}
use Rattle.wait_rule.specs.Queues.{place_by, IsWholeBook, StandsIn, IsLowest, IsHighest, IsFrontPlace, IsTailPlace}
use Rattle.wait_rule.specs.Queues.{IsPriorityPlace, IsPlaceFor, IsBefore}

-- a step that keeps what is told of places
abbrev pub KeepsPlaces : Table → ℕ → Step → Type 0
KeepsPlaces s a e = a < TASKS → ArePlaced s → ArePlaced (next s a e)

pub queued_next : (s : Table) (a : ℕ) (e : Step) (h : ℕ) → a < TASKS
    → queued_at h (next s a e).history ≡ queued_at h s.history + queues_at h e
queued_next s a e h few = total_grown TASKS a (queues_at h) s.history e few

near_more : (first place n m : ℕ) → n ≤ m → IsNear first place n → IsNear first place m
near_more first place n m le near = record { above = omega arith; below = omega arith }

near_next : (s : Table) (a : ℕ) (e : Step) (first place h : ℕ) → a < TASKS
    → IsNear first place (queued_at h s.history) → IsNear first place (queued_at h (next s a e).history)
near_next s a e first place h few = near_more first place (queued_at h s.history) (queued_at h (next s a e).history)
    (let n = queued_next s a e h few in omega arith)

-- a step that changes no entry and no bookmark
pub still_places : (s : Table) (a : ℕ) (e : Step) → (word_step s a e).entry ≡ s.entry
    → (word_step s a e).mark ≡ s.mark → KeepsPlaces s a e
still_places s a e entry mark few p = record {
  apart = subst AreApart (sym entry) p.apart;
  entries = λ x d is. near_next s a e (first_for d.priority) d.place (head_of d.watch) few
      (p.entries x d (ap (λ (f : ℕ → Option Entry). f x) (sym entry) ∙ is));
  marks = λ t m is. near_next s a e FIRST_PLACE (m.place + 1) m.head few
      (p.marks t m (ap (λ (f : ℕ → Option Mark). f t) (sym mark) ∙ is));
}

-- an entry is taken off
pub unqueue_places : (s : Table) (a x : ℕ) → KeepsPlaces s a (step.Unqueue x)
unqueue_places s a x few p = record {
  apart = λ y z d f is_d is_f. p.apart y z d f (was y d is_d) (was z f is_f);
  entries = λ y d is. near_next s a (step.Unqueue x) (first_for d.priority) d.place (head_of d.watch) few
      (p.entries y d (was y d is));
  marks = λ t m is. near_next s a (step.Unqueue x) FIRST_PLACE (m.place + 1) m.head few (p.marks t m is);
}
  where
    was : (y : ℕ) (d : Entry) → put s.entry x None y ≡ Some d → s.entry y ≡ Some d
    was y d = put_at (λ (o : Option Entry). o ≡ Some d → s.entry y ≡ Some d) s.entry x None y
        (λ _ is. absurd (cc)) (λ _ is. is)

-- the own bookmark is taken out
pub unmark_places : (s : Table) (a : ℕ) → KeepsPlaces s a step.Unmark
unmark_places s a few p = record {
  apart = p.apart;
  entries = λ y d is. near_next s a step.Unmark (first_for d.priority) d.place (head_of d.watch) few
      (p.entries y d is);
  marks = λ t m. put_at (λ (o : Option Mark). o ≡ Some m
      → IsNear FIRST_PLACE (m.place + 1) (queued_at m.head (next s a step.Unmark).history)) s.mark a None t
      (λ _ is. absurd (cc))
      (λ _ is. near_next s a step.Unmark FIRST_PLACE (m.place + 1) m.head few (p.marks t m is));
}

pub within_is : (low high place p : ℕ) → within low high place ≡ Some p → (p ≡ place) × (low ≤ p) × (p < high)
within_is low high place p = by (nat_lt place low) refl (nat_lt place high) refl
  where
    by : (x : Bool) → nat_lt place low ≡ x → (y : Bool) → nat_lt place high ≡ y
        → (if x then None else if y then Some place else None) ≡ Some p → (p ≡ place) × (low ≤ p) × (p < high)
    by true q y r is = absurd (cc)
    by false q false r is = absurd (cc)
    by false q true r is =
        let same : p ≡ place = cc in
        let above : low ≤ place = grind (arith, nat_tests) in
        let below : place < high = grind (arith, nat_tests) in
        (same, omega arith, omega arith)

-- What a hold of h that shows the table tells of the places at which its members stand.
module _ (s : Table) (k : Known) (h : ℕ) (agrees : (x : ℕ) → Agrees h ((told_of k).hold.book x) (s.entry x))
    (glances : (t : ℕ) → MarkAgrees h ((noted k).marks t) (s.mark t))
    (lawful : (x : ℕ) (e : Entry) → s.entry x ≡ Some e → IsStanding x e)
    (odd : (t : ℕ) (m : Mark) → s.mark t ≡ Some m → IsStandingMark m) where
  abbrev Place : Bool → ℕ → Option ℕ
  Place b m = if b then look_place ((told_of k).hold.book m) else glance_place ((noted k).marks (m - ENTRIES))

  -- an entry that stands there
  stands_entry : (m p : ℕ) → m < ENTRIES → place_by k m ≡ Some p
      → (e : Entry) × (s.entry m ≡ Some e) × (head_of e.watch ≡ h) × (e.place ≡ p)
  stands_entry m p few is = by ((told_of k).hold.book m) (agrees m)
      (ap (λ (b : Bool). Place b m) (sym inside) ∙ is)
    where
      inside : nat_lt m ENTRIES ≡ true
      inside = grind arith

      by : (l : Look) → Agrees h l (s.entry m) → look_place l ≡ Some p
          → (e : Entry) × (s.entry m ≡ Some e) × (head_of e.watch ≡ h) × (e.place ≡ p)
      by (shown e) a q = (e, a.0, a.1, cc)
      by _ a q = absurd (cc)

  -- a bookmark that stands there
  stands_mark : (m p : ℕ) → ENTRIES ≤ m → place_by k m ≡ Some p
      → s.mark (m - ENTRIES) ≡ Some (record { head = h; place = p })
  stands_mark m p far is = by ((noted k).marks (m - ENTRIES)) (glances (m - ENTRIES))
      (ap (λ (b : Bool). Place b m) (sym outside) ∙ is)
    where
      outside : nat_lt m ENTRIES ≡ false
      outside = grind (arith, nat_tests)

      by : (g : Glance) → MarkAgrees h g (s.mark (m - ENTRIES)) → glance_place g ≡ Some p
          → s.mark (m - ENTRIES) ≡ Some (record { head = h; place = p })
      by unknown a q = absurd (cc)
      by away a q = absurd (cc)
      by (there r) a q =
          let same : r ≡ p = cc in
          a ∙ ap (λ (n : ℕ). Some (record { head = h; place = n })) same

  -- each entry of the head stands in a whole book
  stands : IsWholeBook k → (y : ℕ) (f : Entry) → y < ENTRIES → s.entry y ≡ Some f → head_of f.watch ≡ h
      → place_by k y ≡ Some f.place
  stands whole y f few is same = ap (λ (b : Bool). Place b y) inside
      ∙ by ((told_of k).hold.book y) refl (agrees y)
    where
      inside : nat_lt y ENTRIES ≡ true
      inside = grind arith

      by : (l : Look) → (told_of k).hold.book y ≡ l → Agrees h l (s.entry y) → look_place l ≡ Some f.place
      by unseen q a = absurd (whole.entries y few q)
      by off q a = absurd (a f is same)
      by elsewhere q a = absurd (a f is same)
      by (shown e) q a =
          let one : e ≡ f = (let both : Some e ≡ Some f = sym a.0 ∙ is in cc) in
          ap (λ (d : Entry). Some d.place) one

  -- no entry of a whole book stands at the place that an add takes
  module _ (p y : ℕ) (few : y < ENTRIES) (at : place_by k y ≡ Some p) where
    here : (count low high : ℕ) → y < count → low ≤ p → p < high → StandsIn k count low high p
    here count low high counts above below = record {
      member = y;
      counts = counts;
      stands = at;
      above = above;
      below = below;
    }

    front_free : IsFrontPlace k p → ⊥
    front_free f = by f.0 f.1 f.2
      where
        by : (o : Option ℕ) → IsLowest k MEMBERS MIDDLE PLACES o → front_for o ≡ Some p → ⊥
        by None none is =
            let same : p ≡ FIRST_PLACE = cc in
            none p (here MEMBERS MIDDLE PLACES (omega arith) (omega arith) (omega arith))
        by (Some l) low is =
            let w = within_is MIDDLE PLACES (even_below l) p is in
            let least = low.1 p (here MEMBERS MIDDLE PLACES (omega arith) w.1 w.2) in
            let first = low.0.above in
            omega (arith, w.0, w.1)

    -- an add after the highest member
    high_free : (add : Option ℕ → Option ℕ) (count low high first : ℕ) → add None ≡ Some first
        → ((l : ℕ) → add (Some l) ≡ within low high (even_above l)) → y < count → low ≤ first → first < high
        → (o : Option ℕ) → IsHighest k count low high o → add o ≡ Some p → ⊥
    high_free add count low high first alone behind counts above below None none is =
        let z : Some p ≡ Some first = sym is ∙ alone in
        let same : p ≡ first = cc in
        none p (here count low high counts (omega arith) (omega arith))
    high_free add count low high first alone behind counts above below (Some l) most is =
        let w = within_is low high (even_above l) p (sym (behind l) ∙ is) in
        let least = most.1 p (here count low high counts w.1 w.2) in
        omega (arith, w.0)

    tail_free : IsTailPlace k p → ⊥
    tail_free f = high_free tail_for MEMBERS MIDDLE PLACES FIRST_PLACE refl (λ l. refl) (omega arith) (omega arith)
        (omega arith) f.0 f.1 f.2

    priority_free : IsPriorityPlace k p → ⊥
    priority_free f = high_free priority_for ENTRIES 0 MIDDLE FIRST_PRIORITY refl (λ l. refl) few (omega arith)
        (omega arith) f.0 f.1 f.2

    place_free : (b : Bool) → IsPlaceFor k b p → ⊥
    place_free true f = priority_free f
    place_free false (inl f) = front_free f
    place_free false (inr f) = tail_free f

  -- places that are near, and the one that an add takes by them
  module _ (placed : ArePlaced s) where
    abbrev N : ℕ
    N = queued_at h s.history

    entry_near : (e : Entry) (m p : ℕ) (b : Bool) → s.entry m ≡ Some e → head_of e.watch ≡ h → e.place ≡ p
        → e.priority ≡ b → IsNear (first_for b) p N
    entry_near e m p b is same at sort = subst (λ (q : ℕ). IsNear (first_for b) q N) at
        (subst (λ (x : Bool). IsNear (first_for x) e.place N) sort
        (subst (λ (i : ℕ). IsNear (first_for e.priority) e.place (queued_at i s.history)) same
        (placed.entries m e is)))

    -- entries without priority stand from the middle on, those with it below
    plain_near : (m p : ℕ) → m < ENTRIES → place_by k m ≡ Some p → MIDDLE ≤ p → IsNear FIRST_PLACE p N × (p % 2 ≡ 0)
    plain_near m p few is far =
        let w = stands_entry m p few is in
        let l = lawful m w.0 w.1 in
        (by l w.0.priority refl, ap (λ (n : ℕ). n % 2) (sym w.3) ∙ l.even)
      where
        by : IsStanding m (stands_entry m p few is).0 → (b : Bool) → (stands_entry m p few is).0.priority ≡ b
            → IsNear FIRST_PLACE p N
        by l true q = absurd (let low = (l.priority q).1 in omega (arith, (stands_entry m p few is).3))
        by l false q =
            let w = stands_entry m p few is in
            entry_near w.0 m p false w.1 w.2 w.3 q

    priority_near : (m p : ℕ) → m < ENTRIES → place_by k m ≡ Some p → p < MIDDLE
        → IsNear FIRST_PRIORITY p N × (p % 2 ≡ 0)
    priority_near m p few is near =
        let w = stands_entry m p few is in
        let l = lawful m w.0 w.1 in
        (by l w.0.priority refl, ap (λ (n : ℕ). n % 2) (sym w.3) ∙ l.even)
      where
        by : IsStanding m (stands_entry m p few is).0 → (b : Bool) → (stands_entry m p few is).0.priority ≡ b
            → IsNear FIRST_PRIORITY p N
        by l true q =
            let w = stands_entry m p few is in
            entry_near w.0 m p true w.1 w.2 w.3 q
        by l false q = absurd (let high = l.plain q in omega (arith, (stands_entry m p few is).3))

    mark_near : (m p : ℕ) → ENTRIES ≤ m → place_by k m ≡ Some p → IsNear FIRST_PLACE (p + 1) N × (p % 2 ≡ 1)
    mark_near m p far is =
        let w = stands_mark m p far is in (
          placed.marks (m - ENTRIES) (record { head = h; place = p }) w,
          (odd (m - ENTRIES) (record { head = h; place = p }) w).odd,
        )

    -- one add more goes at most two places further
    near_by : (first l p : ℕ) → p ≤ l + 2 → l ≤ p + 2 → IsNear first l N → IsNear first p (N + 1)
    near_by first l p up down n = record { above = omega (arith, n.above, down); below = omega (arith, n.below, up) }

    front_step : (l p : ℕ) → p ≡ even_below l
        → (IsNear FIRST_PLACE l N × (l % 2 ≡ 0)) ⊎ (IsNear FIRST_PLACE (l + 1) N × (l % 2 ≡ 1))
        → IsNear FIRST_PLACE p (N + 1)
    front_step l p is (inl n) = near_by FIRST_PLACE l p (omega (arith, is, n.1)) (omega (arith, is, n.1)) n.0
    front_step l p is (inr n) = near_by FIRST_PLACE (l + 1) p (omega (arith, is, n.1)) (omega (arith, is, n.1)) n.0

    tail_step : (first l p : ℕ) → p ≡ even_above l
        → (IsNear first l N × (l % 2 ≡ 0)) ⊎ (IsNear first (l + 1) N × (l % 2 ≡ 1))
        → IsNear first p (N + 1)
    tail_step first l p is (inl n) = near_by first l p (omega (arith, is, n.1)) (omega (arith, is, n.1)) n.0
    tail_step first l p is (inr n) = near_by first (l + 1) p (omega (arith, is, n.1)) (omega (arith, is, n.1)) n.0

    -- a member at a place from the middle on
    member_near : (l : ℕ) → StandsIn k MEMBERS MIDDLE PLACES l
        → (IsNear FIRST_PLACE l N × (l % 2 ≡ 0)) ⊎ (IsNear FIRST_PLACE (l + 1) N × (l % 2 ≡ 1))
    member_near l z = by (nat_lt z.member ENTRIES) refl
      where
        by : (b : Bool) → nat_lt z.member ENTRIES ≡ b
            → (IsNear FIRST_PLACE l N × (l % 2 ≡ 0)) ⊎ (IsNear FIRST_PLACE (l + 1) N × (l % 2 ≡ 1))
        by true q = inl (plain_near z.member l (grind arith) z.stands z.above)
        by false q = inr (mark_near z.member l (grind (arith, nat_tests)) z.stands)

    front_near : (p : ℕ) → IsFrontPlace k p → IsNear FIRST_PLACE p (N + 1)
    front_near p f = by f.0 f.1 f.2
      where
        by : (o : Option ℕ) → IsLowest k MEMBERS MIDDLE PLACES o → front_for o ≡ Some p → IsNear FIRST_PLACE p (N + 1)
        by None none is =
            let same : p ≡ FIRST_PLACE = cc in
            record { above = omega arith; below = omega arith }
        by (Some l) low is =
            let w = within_is MIDDLE PLACES (even_below l) p is in
            front_step l p w.0 (member_near l low.0)

    tail_near : (p : ℕ) → IsTailPlace k p → IsNear FIRST_PLACE p (N + 1)
    tail_near p f = by f.0 f.1 f.2
      where
        by : (o : Option ℕ) → IsHighest k MEMBERS MIDDLE PLACES o → tail_for o ≡ Some p → IsNear FIRST_PLACE p (N + 1)
        by None none is =
            let same : p ≡ FIRST_PLACE = cc in
            record { above = omega arith; below = omega arith }
        by (Some l) high is =
            let w = within_is MIDDLE PLACES (even_above l) p is in
            tail_step FIRST_PLACE l p w.0 (member_near l high.0)

    first_near : (p : ℕ) → IsPriorityPlace k p → IsNear FIRST_PRIORITY p (N + 1)
    first_near p f = by f.0 f.1 f.2
      where
        by : (o : Option ℕ) → IsHighest k ENTRIES 0 MIDDLE o → priority_for o ≡ Some p
            → IsNear FIRST_PRIORITY p (N + 1)
        by None none is =
            let same : p ≡ FIRST_PRIORITY = cc in
            record { above = omega arith; below = omega arith }
        by (Some l) high is =
            let w = within_is 0 MIDDLE (even_above l) p is in
            tail_step FIRST_PRIORITY l p w.0
            (inl (priority_near high.0.member l high.0.counts high.0.stands high.0.below))

    place_near : (b : Bool) (p : ℕ) → IsPlaceFor k b p → IsNear (first_for b) p (N + 1)
    place_near true p f = first_near p f
    place_near false p (inl f) = front_near p f
    place_near false p (inr f) = tail_near p f

    -- a bookmark goes to the place below one that is near
    before_near : (p m : ℕ) → MIDDLE ≤ p + 1 → IsBefore k p m → IsNear FIRST_PLACE (p + 1) N
    before_near p m far (inl b) = (plain_near m (p + 1) b.0 b.1 far).0
    before_near p m far (inr b) = (mark_near m p b.0 b.1.1).0

  mark_places : (a p m : ℕ) → MIDDLE ≤ p + 1 → IsBefore k p m → KeepsPlaces s a (step.Mark h p)
  mark_places a p m far before few placed = record {
    apart = placed.apart;
    entries = λ y d is. near_next s a (step.Mark h p) (first_for d.priority) d.place (head_of d.watch) few
        (placed.entries y d is);
    marks = λ t b. put_at (λ (o : Option Mark). o ≡ Some b
        → IsNear FIRST_PLACE (b.place + 1) (queued_at b.head (next s a (step.Mark h p)).history)) s.mark a
        (Some (record { head = h; place = p })) t
        (λ _ is. subst (λ (c : Mark). IsNear FIRST_PLACE (c.place + 1)
        (queued_at c.head (next s a (step.Mark h p)).history))
        (let z : record { head = h; place = p } ≡ b = cc in z)
        (near_next s a (step.Mark h p) FIRST_PLACE (p + 1) h few (before_near placed p m far before)))
        (λ _ is. near_next s a (step.Mark h p) FIRST_PLACE (b.place + 1) b.head few (placed.marks t b is));
  }

  queue_places : (a x : ℕ) (e : Entry) → ((y : ℕ) (f : Entry) → s.entry y ≡ Some f → y < ENTRIES) → IsWholeBook k
      → head_of e.watch ≡ h → IsPlaceFor k e.priority e.place → KeepsPlaces s a (step.Queue x e)
  queue_places a x e named whole mine at few placed = record {
    apart = λ y z d f is_d is_f heads same. by y z d f is_d is_f heads same
        (put_case s.entry x (Some e) y) (put_case s.entry x (Some e) z);
    entries = λ y d. put_at (λ (o : Option Entry). o ≡ Some d
        → IsNear (first_for d.priority) d.place (queued_at (head_of d.watch) (next s a (step.Queue x e)).history))
        s.entry x (Some e) y
        (λ _ is. subst (λ (c : Entry). IsNear (first_for c.priority) c.place
        (queued_at (head_of c.watch) (next s a (step.Queue x e)).history)) (let z : e ≡ d = cc in z) new_near)
        (λ _ is. near_next s a (step.Queue x e) (first_for d.priority) d.place (head_of d.watch) few
        (placed.entries y d is));
    marks = λ t m is. near_next s a (step.Queue x e) FIRST_PLACE (m.place + 1) m.head few (placed.marks t m is);
  }
    where
      one : flag (head_of e.watch == head_of e.watch) ≡ 1
      one = ap flag (let z : (head_of e.watch == head_of e.watch) ≡ true = grind arith in z)

      new_near : IsNear (first_for e.priority) e.place
          (queued_at (head_of e.watch) (next s a (step.Queue x e)).history)
      new_near = subst (λ (n : ℕ). IsNear (first_for e.priority) e.place n)
          (let q = queued_next s a (step.Queue x e) (head_of e.watch) few in
          let w : queued_at h s.history ≡ queued_at (head_of e.watch) s.history =
          ap (λ (i : ℕ). queued_at i s.history) (sym mine) in
          omega (arith, one)) (place_near placed e.priority e.place at)

      free : (y : ℕ) (f : Entry) → s.entry y ≡ Some f → head_of f.watch ≡ head_of e.watch → f.place ≡ e.place → ⊥
      free y f is heads same = place_free e.place y (named y f is)
          (stands whole y f (named y f is) is (heads ∙ mine) ∙ ap (λ (n : ℕ). Some n) same) e.priority at

      by : (y z : ℕ) (d f : Entry) → put s.entry x (Some e) y ≡ Some d → put s.entry x (Some e) z ≡ Some f
          → head_of d.watch ≡ head_of f.watch → d.place ≡ f.place
          → ((y ≡ x) × (put s.entry x (Some e) y ≡ Some e)) ⊎ ((y ≢ x) × (put s.entry x (Some e) y ≡ s.entry y))
          → ((z ≡ x) × (put s.entry x (Some e) z ≡ Some e)) ⊎ ((z ≢ x) × (put s.entry x (Some e) z ≡ s.entry z))
          → y ≡ z
      by y z d f is_d is_f heads same (inl p) (inl q) = p.0 ∙ sym q.0
      by y z d f is_d is_f heads same (inl p) (inr q) =
          let here : e ≡ d = (let both : Some e ≡ Some d = sym p.1 ∙ is_d in cc) in
          absurd (free z f (sym q.1 ∙ is_f) (sym (ap (λ (c : Entry). head_of c.watch) here ∙ heads))
          (sym (ap (λ (c : Entry). c.place) here ∙ same)))
      by y z d f is_d is_f heads same (inr p) (inl q) =
          let here : e ≡ f = (let both : Some e ≡ Some f = sym q.1 ∙ is_f in cc) in
          absurd (free y d (sym p.1 ∙ is_d) (heads ∙ sym (ap (λ (c : Entry). head_of c.watch) here))
          (same ∙ sym (ap (λ (c : Entry). c.place) here)))
      by y z d f is_d is_f heads same (inr p) (inr q) = placed.apart y z d f (sym p.1 ∙ is_d) (sym q.1 ∙ is_f)
          heads same

-- a task that holds h and knows k
module _ (s : Table) (notes : ℕ → Notes) (whole : IsWhole s) (lawful : IsLawfulTable s) (linked : AreLinked s notes)
    (placed : ArePlaced s) (a h : ℕ) (k : Known) (held : (s.view a).hold.head ≡ Some h) (told : s.view a ≡ told_of k)
    (told_notes : notes a ≡ noted k) where
  book_agrees : (x : ℕ) → Agrees h ((told_of k).hold.book x) (s.entry x)
  book_agrees x = subst (λ (v : Told). Agrees h (v.hold.book x) (s.entry x)) told
      ((whole.kept.facts.views a).hold.agrees h x held)

  glances_agree : (t : ℕ) → MarkAgrees h ((noted k).marks t) (s.mark t)
  glances_agree t = subst (λ (n : Notes). MarkAgrees h (n.marks t) (s.mark t)) told_notes (linked.shown a h t held)

  -- a member that the hold shows from the middle on, and an entry below it
  pub shown_near : (l : ℕ) → StandsIn k MEMBERS MIDDLE PLACES l
      → (IsNear FIRST_PLACE l (queued_at h s.history) × (l % 2 ≡ 0))
      ⊎ (IsNear FIRST_PLACE (l + 1) (queued_at h s.history) × (l % 2 ≡ 1))
  shown_near = member_near s k h book_agrees glances_agree lawful.entries lawful.marks placed

  pub shown_first : (l : ℕ) → StandsIn k ENTRIES 0 MIDDLE l → IsNear FIRST_PRIORITY l (queued_at h s.history)
  shown_first l z = (priority_near s k h book_agrees glances_agree lawful.entries lawful.marks placed
      z.member l z.counts z.stands z.below).0

module _ (s : Table) (items : ℕ → List Item) (ruled : IsRuled s items) (a h : ℕ) (k : Known)
    (held : (s.view a).hold.head ≡ Some h) (told : s.view a ≡ told_of k)
    (told_notes : all_notes items a ≡ noted k) where
  entries_agree : (x : ℕ) → Agrees h ((told_of k).hold.book x) (s.entry x)
  entries_agree = book_agrees s (all_notes items) ruled.whole ruled.lawful ruled.linked ruled.placed a h k held told
      told_notes

  marks_agree : (t : ℕ) → MarkAgrees h ((noted k).marks t) (s.mark t)
  marks_agree = glances_agree s (all_notes items) ruled.whole ruled.lawful ruled.linked ruled.placed a h k held told
      told_notes

  -- a bookmark before a member that the hold shows
  pub mark_keeps : (p m : ℕ) → MIDDLE ≤ p + 1 → IsBefore k p m → KeepsPlaces s a (step.Mark h p)
  mark_keeps = mark_places s k h entries_agree marks_agree ruled.lawful.entries ruled.lawful.marks a

  -- an entry at the place that an add takes
  pub queue_keeps : (x : ℕ) (e : Entry) → IsWholeBook k → head_of e.watch ≡ h → IsPlaceFor k e.priority e.place
      → KeepsPlaces s a (step.Queue x e)
  queue_keeps x e = queue_places s k h entries_agree marks_agree ruled.lawful.entries ruled.lawful.marks a x e
      ruled.whole.kept.facts.named
