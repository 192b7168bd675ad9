-- What the steps on tickets ask of the table of words.
use Rattle.std.proofs.lemmas.Bool.{both_ways}
use Rattle.std.proofs.Common.{refl, sym, ◌∙◌, ap, subst, arith, inl, inr, add-zero}
use Rattle.std.specs.Prelude.{ℕ, zero, suc, ◌≡◌, ◌≢◌, ◌+◌, ◌-◌, ◌%◌, ◌^◌, ◌<◌, ◌≤◌, ◌⊎◌, ◌&&◌, Bool, true, false, ◌==◌}
use Rattle.std.specs.Prelude.{if◌then◌else◌, Some, List, [], ◌∷◌, ◌++◌, slice_set, slice_index}
use Rattle.std.proofs.lemmas.Bool.Decides.{eqb_tells}
use mathlib.Core.Option.{none}
use Rattle.atomic_table.specs.Table.{step as move, Allows}
use Rattle.wait_model.specs.{Functions.put, Words.flag, Tables.Table}
use Rattle.wait_model.specs.declared.layout.TheConstants.{TASKS, HEADS, NEXT_AT, SERVING_AT}
use Rattle.wait_model.specs.Locations.{Location, IsLocation, position_of}
use Rattle.wait_model.specs.Locations as place
use Rattle.wait_model.proofs.Functions.{put_case, put_at, put_same, put_other, both_left, both_right}
use Rattle.wait_model.proofs.HistoryLaws.StepTotals.{sum_same, sum_grown}
use Rattle.wait_rule.specs.{declared.journal.Item.Item, Notes.notes_of, Tallies.AreTallies, Rule.Law, Rule.Holds}
use Rattle.wait_rule.specs.{Says.ServesUnlocks, Plays.Sat, Plays.seat_with, Pipes.ArePipes}
use Rattle.wait_rule.specs.Tickets.{Ticket, no_ticket, drawn, served, taken, given, after_serving, is_ticket_of}
use Rattle.wait_rule.specs.Tickets.{is_served, is_given, ShowsNumber, out_below}
use Rattle.wait_rule.specs.TicketWords.{all_tickets, unlocked_at, unserved, AreTickets}
use Rattle.wait_rule.specs.Items.{Difference, first_book, steps_of, book_from, book_of, Fits}
use Rattle.wait_rule.specs.Journals.{Scene, moved, owns, has_of}
use Rattle.wait_rule.specs.MemberWords.{word_with, ShowsWith, AreMembers}
use Rattle.wait_rule.specs.QueuePlays.{drawn_play, serving_play, served_play}
use Rattle.wait_rule.specs.declared.journal.Item.TheVariants as item
use Rattle.wait_rule.proofs.{TableSteps.ItemLists.book_append, KnownLaws.AfterSteps.notes_after}
use Rattle.wait_rule.proofs.{KnownLaws.HeadLinks.both_at, KnownLaws.HeadLinks.same_links}
use Rattle.wait_rule.proofs.{KnownLaws.MemberSteps.differences_same, TableSteps.StateLaws.allows}
use Rattle.wait_rule.proofs.{TableSteps.StateLaws.learns_more, KnownLaws.TallySteps.tallies_same}
use Rattle.wait_rule.proofs.{KnownLaws.PipeTables.pipes_rest, TableSteps.TaskMoves.shown_of}
use Rattle.wait_rule.proofs.KnownLaws.TicketSteps.{tickets_next, same_line, unserved_put, one_unserved, as_many}
use Rattle.wait_rule.proofs.KnownLaws.TicketSteps.{from_test, to_test, test_off, none_out}
use Rattle.wait_rule.proofs.TableSteps.KeptSteps.{ruled_seen, told_as, written}

-- words beside the table with another next or served number
abbrev pub with_next : (Location → ℕ) → ℕ → ℕ → Location → ℕ
with_next beside h n (place.Next g) = put (λ q. beside (place.Next q)) h n g
with_next beside h n l = beside l

abbrev pub with_serving : (Location → ℕ) → ℕ → ℕ → Location → ℕ
with_serving beside h n (place.Serving g) = put (λ q. beside (place.Serving q)) h n g
with_serving beside h n l = beside l

other_next : (s : Table) (beside : Location → ℕ) (h n : ℕ) (l : Location) → l ≢ place.Next h
    → word_with s (with_next beside h n) l ≡ word_with s beside l
other_next s beside h n (place.Next g) ne =
    put_other (λ q. beside (place.Next q)) h n g (λ e. ne (ap place.Next e))
other_next s beside h n l ne = refl

other_serving : (s : Table) (beside : Location → ℕ) (h n : ℕ) (l : Location) → l ≢ place.Serving h
    → word_with s (with_serving beside h n) l ≡ word_with s beside l
other_serving s beside h n (place.Serving g) ne =
    put_other (λ q. beside (place.Serving q)) h n g (λ e. ne (ap place.Serving e))
other_serving s beside h n l ne = refl

-- counting who has a ticket out
one_out : (b : Bool) → flag b ≤ 1
one_out true = omega arith
one_out false = omega arith

most_out : (tickets : ℕ → Ticket) (h n : ℕ) → out_below tickets h n ≤ n
most_out tickets h zero = omega arith
most_out tickets h (suc n) =
    let one = one_out (is_ticket_of h (tickets n)) in
    let rest = most_out tickets h n in
    omega arith

out_far : (tickets : ℕ → Ticket) (h a n : ℕ) (x : Ticket) → n ≤ a
    → out_below (put tickets a x) h n ≡ out_below tickets h n
out_far tickets h a zero x far = refl
out_far tickets h a (suc n) x far =
    let same : flag (is_ticket_of h (put tickets a x n)) ≡ flag (is_ticket_of h (tickets n)) =
    ap (λ (t : Ticket). flag (is_ticket_of h t)) (put_other tickets a x n (λ e. absurd (omega (arith, far, e)))) in
    let rest = out_far tickets h a n x (omega arith) in
    (λ i. same i + rest i)

out_put : (tickets : ℕ → Ticket) (h a n : ℕ) (x : Ticket) → a < n
    → out_below (put tickets a x) h n + flag (is_ticket_of h (tickets a)) ≡ out_below tickets h n + flag (is_ticket_of h x)
out_put tickets h a zero x small = absurd (omega arith)
out_put tickets h a (suc n) x small = by (eqb_tells n a) (out_put tickets h a n x)
  where
    by : (((n == a) ≡ true) × (n ≡ a)) ⊎ (((n == a) ≡ false) × (n ≢ a))
        → (a < n → out_below (put tickets a x) h n + flag (is_ticket_of h (tickets a))
        ≡ out_below tickets h n + flag (is_ticket_of h x))
        → out_below (put tickets a x) h (suc n) + flag (is_ticket_of h (tickets a))
        ≡ out_below tickets h (suc n) + flag (is_ticket_of h x)
    by (inl q) less =
        let here : flag (is_ticket_of h (put tickets a x n)) ≡ flag (is_ticket_of h x) =
        ap (λ (t : Ticket). flag (is_ticket_of h t)) (ap (put tickets a x) q.1 ∙ put_same tickets a x) in
        let was : flag (is_ticket_of h (tickets n)) ≡ flag (is_ticket_of h (tickets a)) =
        ap (λ (i : ℕ). flag (is_ticket_of h (tickets i))) q.1 in
        let equal = q.1 in
        let rest : out_below (put tickets a x) h n ≡ out_below tickets h n = out_far tickets h a n x (omega arith) in
        omega arith
    by (inr q) less =
        let ne = q.1 in
        let here : flag (is_ticket_of h (put tickets a x n)) ≡ flag (is_ticket_of h (tickets n)) =
        ap (λ (t : Ticket). flag (is_ticket_of h t)) (put_other tickets a x n ne) in
        let rest = less (omega arith) in
        omega arith

next_number : (w d : ℕ) → w ≡ d % 2 ^ 64 → (w + 1) % 2 ^ 64 ≡ (d + 1) % 2 ^ 64
next_number w d is = omega arith

-- sums of those that were served and those that are out
one_more : (e d s o p x y : ℕ) → e ≡ d + 1 → d ≡ s + o → x ≡ 0 → y ≡ 1 → p + x ≡ o + y → e ≡ s + p
one_more e d s o p x y top sum off on out = omega arith

none_more : (e d s o p x y : ℕ) → e ≡ d → d ≡ s + o → x ≡ 0 → y ≡ 0 → p + x ≡ o + y → e ≡ s + p
none_more e d s o p x y top sum off on out = omega arith

one_less : (d t s o p x : ℕ) → d ≡ s + o → t ≡ s + 1 → x ≡ 1 → p + x ≡ o + 0 → d ≡ t + p
one_less d t s o p x sum top one out = omega arith

none_less : (d t s o p x : ℕ) → d ≡ s + o → t ≡ s → x ≡ 0 → p + x ≡ o + 0 → d ≡ t + p
none_less d t s o p x sum top one out = omega arith

apart_out : {A : Type 0} (h : ℕ) (t u : Ticket) → is_ticket_of h t ≡ true → is_ticket_of h u ≡ false → t ≡ u → A
apart_out h t u one two e = absurd (both_ways true (sym one ∙ (ap (is_ticket_of h) e ∙ two)) refl)

-- a draw of task a, which has none out
module _ (s : Table) (tickets : ℕ → Ticket) (beside : Location → ℕ) (r : AreTickets s tickets beside) (a h : ℕ)
    (small : a < TASKS) (free : tickets a ≡ no_ticket) where
  abbrev W : ℕ
  W = (beside (place.Next h) + 1) % 2 ^ 64

  abbrev N : ℕ
  N = beside (place.Next h)

  abbrev T : ℕ → Ticket
  T = put tickets a (drawn h N)

  abbrev D : ℕ → ℕ
  D = put r.draws h (r.draws h + 1)

  abbrev K : ℕ → ℕ
  K = put r.number a (r.draws h)

  room : (g : ℕ) → r.serves g ≤ r.draws g
  room g = let c = r.count g in omega arith

  more : (g : ℕ) → r.draws g ≤ D g
  more g = put_at (λ (n : ℕ). r.draws g ≤ n) r.draws h (r.draws h + 1) g
      (λ e. subst (λ (i : ℕ). r.draws i ≤ r.draws h + 1) (sym e) (omega arith)) (λ _. omega arith)

  drawn_next : (g : ℕ) → with_next beside h W (place.Next g) ≡ D g % 2 ^ 64
  drawn_next g = both_at (λ (w d : ℕ). w ≡ d % 2 ^ 64) (λ q. beside (place.Next q)) r.draws h W
      (r.draws h + 1) g (λ _. next_number N (r.draws h) (r.next h)) (λ _. r.next g)

  drawn_within : (b g : ℕ) → is_ticket_of g (T b) ≡ true → (r.serves g ≤ K b) × (K b < D g)
  drawn_within b g = both_at (λ (t : Ticket) (k : ℕ). is_ticket_of g t ≡ true → (r.serves g ≤ k) ×
      (k < D g)) tickets r.number a
      (drawn h N) (r.draws h) b
      (λ _ out.
      let e : h ≡ g = from_test h g out in
      subst (λ (i : ℕ). (r.serves i ≤ r.draws h) × (r.draws h < D i)) e
      (room h, subst (λ (n : ℕ). r.draws h < n) (sym (put_same r.draws h (r.draws h + 1))) (omega arith)))
      (λ _ out.
      let w = r.within b g out in
      let low = w.0 in
      let high = w.1 in
      let m = more g in
      (low, omega arith))

  kept_out : (b g : ℕ) → is_ticket_of g (tickets b) ≡ true → b ≢ a
  kept_out b g out e = none_out g (tickets a) free (sym (ap (λ (i : ℕ). is_ticket_of g (tickets i)) e) ∙ out)

  old_one : (g n : ℕ) → r.serves g ≤ n → n < r.draws g → (b : ℕ) × ((is_ticket_of g (T b) ≡ true) × (K b ≡ n))
  old_one g n low high =
      let o = r.each g n low high in
      let ne = kept_out o.0 g o.1.0 in (
        o.0,
        (
          ap (is_ticket_of g) (put_other tickets a (drawn h N) o.0 ne) ∙ o.1.0,
          put_other r.number a (r.draws h) o.0 ne ∙ o.1.1,
        ),
      )

  drawn_each : (g n : ℕ) → r.serves g ≤ n → n < D g → (b : ℕ) × ((is_ticket_of g (T b) ≡ true) × (K b ≡ n))
  drawn_each g n low high = by (put_case r.draws h (r.draws h + 1) g) (eqb_tells n (r.draws h))
    where
      by : ((g ≡ h) × (D g ≡ r.draws h + 1)) ⊎ ((g ≢ h) × (D g ≡ r.draws g))
          → (((n == r.draws h) ≡ true) × (n ≡ r.draws h)) ⊎ (((n == r.draws h) ≡ false) × (n ≢ r.draws h))
          → (b : ℕ) × ((is_ticket_of g (T b) ≡ true) × (K b ≡ n))
      by (inl q) (inl e) = (
        a,
        (
          ap (is_ticket_of g) (put_same tickets a (drawn h N)) ∙ (ap (λ (i : ℕ). h == i) q.0 ∙ to_test h),
          put_same r.number a (r.draws h) ∙ sym e.1,
        ),
      )
      by (inl q) (inr e) =
          let top = q.1 in
          let ne = e.1 in
          let head : r.draws g ≡ r.draws h = ap r.draws q.0 in
          old_one g n low (omega arith)
      by (inr q) e = let top = q.1 in old_one g n low (omega arith)

  drawn_once : (b c g : ℕ) → is_ticket_of g (T b) ≡ true → is_ticket_of g (T c) ≡ true → K b ≡ K c → b ≡ c
  drawn_once b c g one two is = by (put_case tickets a (drawn h N) b) (put_case tickets a (drawn h N) c)
    where
      fresh_one : (d : ℕ) → d ≢ a → is_ticket_of g (tickets d) ≡ true → h ≡ g → r.number d ≡ r.draws h → ⊥
      fresh_one d ne out head same =
          let w = (r.within d g out).1 in
          let e : r.draws g ≡ r.draws h = ap r.draws (sym head) in
          absurd (omega arith)

      by : ((b ≡ a) × (T b ≡ drawn h N)) ⊎ ((b ≢ a) × (T b ≡ tickets b))
          → ((c ≡ a) × (T c ≡ drawn h N)) ⊎ ((c ≢ a) × (T c ≡ tickets c)) → b ≡ c
      by (inl p) (inl q) = p.0 ∙ sym q.0
      by (inl p) (inr q) = absurd (fresh_one c q.0 (sym (ap (is_ticket_of g) q.1) ∙ two)
          (from_test h g (sym (ap (is_ticket_of g) p.1) ∙ one))
          (sym (put_other r.number a (r.draws h) c q.0) ∙ (sym is
          ∙ (ap K p.0 ∙ put_same r.number a (r.draws h)))))
      by (inr p) (inl q) = absurd (fresh_one b p.0 (sym (ap (is_ticket_of g) p.1) ∙ one)
          (from_test h g (sym (ap (is_ticket_of g) q.1) ∙ two))
          (sym (put_other r.number a (r.draws h) b p.0) ∙ (is
          ∙ (ap K q.0 ∙ put_same r.number a (r.draws h)))))
      by (inr p) (inr q) = r.once b c g (sym (ap (is_ticket_of g) p.1) ∙ one) (sym (ap (is_ticket_of g) q.1) ∙ two)
          (sym (put_other r.number a (r.draws h) b p.0) ∙ (is ∙ put_other r.number a (r.draws h) c q.0))

  drawn_count : (g : ℕ) → D g ≡ r.serves g + out_below T g TASKS
  drawn_count g = by (put_case r.draws h (r.draws h + 1) g)
    where
      none_before : flag (is_ticket_of g (tickets a)) ≡ 0
      none_before = ap (λ (t : Ticket). flag (is_ticket_of g t)) free

      out : out_below T g TASKS + flag (is_ticket_of g (tickets a)) ≡ out_below tickets g TASKS + flag (h == g)
      out = out_put tickets g a TASKS (drawn h N) small

      by : ((g ≡ h) × (D g ≡ r.draws h + 1)) ⊎ ((g ≢ h) × (D g ≡ r.draws g))
          → D g ≡ r.serves g + out_below T g TASKS
      by (inl q) = one_more (D g) (r.draws g) (r.serves g) (out_below tickets g TASKS) (out_below T g TASKS)
          (flag (is_ticket_of g (tickets a))) (flag (h == g)) (q.1 ∙ ap (λ (i : ℕ). r.draws i + 1) (sym q.0)) (r.count g)
          none_before (ap flag (ap (λ (i : ℕ). h == i) q.0 ∙ to_test h)) out
      by (inr q) = none_more (D g) (r.draws g) (r.serves g) (out_below tickets g TASKS) (out_below T g TASKS)
          (flag (is_ticket_of g (tickets a))) (flag (h == g)) q.1 (r.count g) none_before (ap flag (test_off h g q.0)) out

  pub draw_tickets : AreTickets s (put tickets a (drawn h (beside (place.Next h))))
      (with_next beside h ((beside (place.Next h) + 1) % 2 ^ 64))
  draw_tickets = record {
    draws = D;
    serves = r.serves;
    number = K;
    next = drawn_next;
    serving = r.serving;
    within = drawn_within;
    each = drawn_each;
    once = drawn_once;
    count = drawn_count;
    shown = λ b. both_at (λ (t : Ticket) (k : ℕ). ShowsNumber t k) tickets r.number a (drawn h N) (r.draws h) b
        (λ _. r.next h) (λ _. r.shown b);
    turn = λ b g. both_at (λ (t : Ticket) (k : ℕ). is_ticket_of g t ≡ true → is_served t ≡ true → k ≡ r.serves g) tickets
        r.number a (drawn h N) (r.draws h) b (λ _ out is. absurd (both_ways false refl is)) (λ _. r.turn b g);
    held = λ b g is. put_at (λ (t : Ticket). t ≡ taken g) tickets a (drawn h N) b
        (λ e. let both : no_ticket ≡ taken g = sym free ∙ (ap tickets (sym e) ∙ r.held b g is) in absurd (cc))
        (λ _. r.held b g is);
    unlocks = λ g. as_many (unlocked_at g s.history) (unlocked_at g s.history) (r.serves g) (unserved g tickets)
        (unserved g T) 0 (sym (add-zero (unlocked_at g s.history))) (r.unlocks g)
        (unserved_put tickets a g 0 (drawn h N) small (sym (ap (λ (t : Ticket). flag (is_given g t) + 0) free)));
  }

-- the serve of task a, which gave its lock back
module _ (s : Table) (tickets : ℕ → Ticket) (beside : Location → ℕ) (r : AreTickets s tickets beside) (a h : ℕ)
    (small : a < TASKS) (is : tickets a ≡ given h) where
  abbrev V : ℕ
  V = (beside (place.Serving h) + 1) % 2 ^ 64

  abbrev U : ℕ → Ticket
  U = put tickets a no_ticket

  abbrev S : ℕ → ℕ
  S = put r.serves h (r.serves h + 1)

  own_out : is_ticket_of h (tickets a) ≡ true
  own_out = ap (is_ticket_of h) is ∙ to_test h

  own_turn : r.number a ≡ r.serves h
  own_turn = r.turn a h own_out (ap is_served is)

  -- who has one out has had it before, and is another
  before : (b g : ℕ) → is_ticket_of g (U b) ≡ true → (b ≢ a) × (is_ticket_of g (tickets b) ≡ true)
  before b g = put_at (λ (t : Ticket). is_ticket_of g t ≡ true → (b ≢ a) × (is_ticket_of g (tickets b) ≡ true)) tickets a no_ticket b
      (λ _ out. absurd (both_ways false refl out)) (λ ne out. (ne, out))

  far : (b : ℕ) → b ≢ a → is_ticket_of h (tickets b) ≡ true → r.number b ≢ r.serves h
  far b ne out same = ne (r.once b a h out own_out (same ∙ sym own_turn))

  served_serving : (g : ℕ) → with_serving beside h V (place.Serving g) ≡ S g % 2 ^ 64
  served_serving g = both_at (λ (w d : ℕ). w ≡ d % 2 ^ 64) (λ q. beside (place.Serving q))
      r.serves h V (r.serves h + 1) g (λ _. next_number (beside (place.Serving h)) (r.serves h) (r.serving h))
      (λ _. r.serving g)

  served_within : (b g : ℕ) → is_ticket_of g (U b) ≡ true → (S g ≤ r.number b) × (r.number b < r.draws g)
  served_within b g out =
      let o = before b g out in
      let w = r.within b g o.1 in
      let low = w.0 in
      let high = w.1 in (
        put_at (λ (n : ℕ). n ≤ r.number b) r.serves h (r.serves h + 1) g
            (λ e.
            let ne = far b o.0 (subst (λ (i : ℕ). is_ticket_of i (tickets b) ≡ true) e o.1) in
            let head : r.serves g ≡ r.serves h = ap r.serves e in
            omega arith)
            (λ _. low),
        high,
      )

  served_each : (g n : ℕ) → S g ≤ n → n < r.draws g → (b : ℕ) × ((is_ticket_of g (U b) ≡ true) × (r.number b ≡ n))
  served_each g n low high = by (put_case r.serves h (r.serves h + 1) g)
    where
      other : r.serves g ≤ n → ((b : ℕ) → is_ticket_of g (tickets b) ≡ true → r.number b ≡ n → b ≢ a)
          → (b : ℕ) × ((is_ticket_of g (U b) ≡ true) × (r.number b ≡ n))
      other from apart =
          let o = r.each g n from high in
          (o.0, (ap (is_ticket_of g) (put_other tickets a no_ticket o.0 (apart o.0 o.1.0 o.1.1)) ∙ o.1.0, o.1.1))

      by : ((g ≡ h) × (S g ≡ r.serves h + 1)) ⊎ ((g ≢ h) × (S g ≡ r.serves g))
          → (b : ℕ) × ((is_ticket_of g (U b) ≡ true) × (r.number b ≡ n))
      by (inl q) =
          let top = q.1 in
          let head : r.serves g ≡ r.serves h = ap r.serves q.0 in
          other (omega arith) (λ b out at e.
          let mine : r.number b ≡ r.serves h = ap r.number e ∙ own_turn in
          absurd (omega arith))
      by (inr q) =
          let top = q.1 in
          other (omega arith) (λ b out at e. apart_out g (tickets b) (given h) out (test_off h g q.0)
          (ap tickets e ∙ is))

  served_count : (g : ℕ) → r.draws g ≡ S g + out_below U g TASKS
  served_count g = by (put_case r.serves h (r.serves h + 1) g)
    where
      o : out_below U g TASKS + flag (is_ticket_of g (tickets a)) ≡ out_below tickets g TASKS + 0
      o = out_put tickets g a TASKS no_ticket small

      by : ((g ≡ h) × (S g ≡ r.serves h + 1)) ⊎ ((g ≢ h) × (S g ≡ r.serves g))
          → r.draws g ≡ S g + out_below U g TASKS
      by (inl q) = one_less (r.draws g) (S g) (r.serves g) (out_below tickets g TASKS) (out_below U g TASKS)
          (flag (is_ticket_of g (tickets a))) (r.count g) (q.1 ∙ ap (λ (i : ℕ). r.serves i + 1) (sym q.0))
          (ap flag (ap (is_ticket_of g) is ∙ (ap (λ (i : ℕ). h == i) q.0 ∙ to_test h))) o
      by (inr q) = none_less (r.draws g) (S g) (r.serves g) (out_below tickets g TASKS) (out_below U g TASKS)
          (flag (is_ticket_of g (tickets a))) (r.count g) q.1 (ap flag (ap (is_ticket_of g) is ∙ test_off h g q.0)) o

  served_turn : (b g : ℕ) → is_ticket_of g (U b) ≡ true → is_served (U b) ≡ true → r.number b ≡ S g
  served_turn b g out sure =
      let o = before b g out in
      let now : U b ≡ tickets b = put_other tickets a no_ticket b o.0 in
      let t : r.number b ≡ r.serves g = r.turn b g o.1 (sym (ap is_served now) ∙ sure) in
      put_at (λ (n : ℕ). r.number b ≡ n) r.serves h (r.serves h + 1) g
      (λ e. absurd (far b o.0 (subst (λ (i : ℕ). is_ticket_of i (tickets b) ≡ true) e o.1) (t ∙ ap r.serves e)))
      (λ _. t)

  -- the serve that was still to come was made
  fewer : (g : ℕ) → unserved g tickets ≡ unserved g U + flag (h == g)
  fewer g = sum_grown TASKS a (flag (h == g)) (λ i. flag (is_given g (U i))) (λ i. flag (is_given g (tickets i))) small
      (let now : flag (is_given g (tickets a)) ≡ flag (h == g) = ap (λ (t : Ticket). flag (is_given g t)) is in
      let none : flag (is_given g (U a)) ≡ 0 =
      ap (λ (t : Ticket). flag (is_given g t)) (put_same tickets a no_ticket) in
      omega arith)
      (λ i ne. ap (λ (t : Ticket). flag (is_given g t)) (sym (put_other tickets a no_ticket i ne)))

  more_served : (g : ℕ) → S g ≡ r.serves g + flag (h == g)
  more_served g = by (put_case r.serves h (r.serves h + 1) g)
    where
      by : ((g ≡ h) × (S g ≡ r.serves h + 1)) ⊎ ((g ≢ h) × (S g ≡ r.serves g)) → S g ≡ r.serves g + flag (h == g)
      by (inl q) = q.1 ∙ (λ i. r.serves (sym q.0 i) + flag (sym (ap (λ (j : ℕ). h == j) q.0 ∙ to_test h) i))
      by (inr q) =
          let none : flag (h == g) ≡ 0 = ap flag (test_off h g q.0) in
          let same = q.1 in
          omega arith

  served_unlocks : (g : ℕ) → unlocked_at g s.history ≡ S g + unserved g U
  served_unlocks g =
      let less = fewer g in
      let more = more_served g in
      let all = r.unlocks g in
      omega arith

  pub serve_tickets : AreTickets s (put tickets a no_ticket)
      (with_serving beside h ((beside (place.Serving h) + 1) % 2 ^ 64))
  serve_tickets = record {
    draws = r.draws;
    serves = S;
    number = r.number;
    next = r.next;
    serving = served_serving;
    within = served_within;
    each = served_each;
    once = λ b c g one two same. r.once b c g (before b g one).1 (before c g two).1 same;
    count = served_count;
    shown = λ b. put_at (λ (t : Ticket). ShowsNumber t (r.number b)) tickets a no_ticket b (λ _. tt) (λ _. r.shown b);
    turn = served_turn;
    held = λ b g holds. put_at (λ (t : Ticket). t ≡ taken g) tickets a no_ticket b
        (λ e. let both : given h ≡ taken g = sym is ∙ (ap tickets (sym e) ∙ r.held b g holds) in absurd (cc))
        (λ _. r.held b g holds);
    unlocks = served_unlocks;
  }

-- a load of the served number: where it is the own one, the own ticket is served
same_number : (k t d n : ℕ) → t ≤ k → k < d → d ≤ t + TASKS → n ≡ k % 2 ^ 64 → n ≡ t % 2 ^ 64 → k ≡ t
same_number k t d n low high few one two = omega arith

module _ (s : Table) (tickets : ℕ → Ticket) (beside : Location → ℕ) (r : AreTickets s tickets beside) (a h : ℕ) where
  abbrev M : ℕ
  M = beside (place.Serving h)

  kept_held : (x : Ticket) → ((g : ℕ) → tickets a ≡ taken g → x ≡ taken g) → (b g : ℕ)
      → (s.view b).hold.head ≡ Some g → put tickets a x b ≡ taken g
  kept_held x keeps b g is = put_at (λ (t : Ticket). t ≡ taken g) tickets a x b
      (λ e. keeps g (ap tickets (sym e) ∙ r.held b g is)) (λ _. r.held b g is)

  kept_unlocks : (x : Ticket) → ((g : ℕ) → flag (is_given g x) ≡ flag (is_given g (tickets a))) → (g : ℕ)
      → unlocked_at g s.history ≡ r.serves g + unserved g (put tickets a x)
  kept_unlocks x same g = r.unlocks g ∙ ap (λ (n : ℕ). r.serves g + n) (sym (sum_same TASKS
      (λ i. flag (is_given g (tickets i))) (λ i. flag (is_given g (put tickets a x i)))
      (λ i few. put_at (λ (t : Ticket). flag (is_given g t) ≡ flag (is_given g (tickets i))) tickets a x i
      (λ e. same g ∙ ap (λ (j : ℕ). flag (is_given g (tickets j))) (sym e)) (λ _. refl))))

  kept_line : (x : Ticket) → tickets a ≡ x → AreTickets s (put tickets a x) beside
  kept_line x now = same_line s s tickets beside r a x (λ g. ap (is_ticket_of g) (sym now))
      (subst (λ (t : Ticket). ShowsNumber t (r.number a)) now (r.shown a))
      (λ g out sure. r.turn a g (ap (is_ticket_of g) now ∙ out) (ap is_served now ∙ sure))
      (kept_held x (λ g e. sym now ∙ e))
      (kept_unlocks x (λ g. ap (λ (t : Ticket). flag (is_given g t)) (sym now)))

  served_line : (g n : ℕ) → tickets a ≡ drawn g n → g ≡ h → n ≡ M → AreTickets s (put tickets a (served g n)) beside
  served_line g n now head number = same_line s s tickets beside r a (served g n) (λ i. ap (is_ticket_of i) (sym now)) shows
      (λ i out _. own i (ap (is_ticket_of i) now ∙ out) (from_test g i out)) (kept_held (served g n) (λ i e.
      let both : drawn g n ≡ taken i = sym now ∙ e in absurd (cc)))
      (kept_unlocks (served g n) (λ i. ap (λ (t : Ticket). flag (is_given i t)) (sym now)))
    where
      shows : n ≡ r.number a % 2 ^ 64
      shows = subst (λ (t : Ticket). ShowsNumber t (r.number a)) now (r.shown a)

      own : (i : ℕ) → is_ticket_of i (tickets a) ≡ true → g ≡ i → r.number a ≡ r.serves i
      own i out e =
          let w = r.within a i out in
          let c = r.count i in
          let m = most_out tickets i TASKS in
          same_number (r.number a) (r.serves i) (r.draws i) n w.0 w.1 (omega arith) shows
          (number ∙ (r.serving h ∙ ap (λ (j : ℕ). r.serves j % 2 ^ 64) (sym head ∙ e)))

  pub serving_tickets : AreTickets s (put tickets a (after_serving h (beside (place.Serving h)) (tickets a))) beside
  serving_tickets = by (tickets a) refl
    where
      by : (t : Ticket) → tickets a ≡ t → AreTickets s (put tickets a (after_serving h M t)) beside
      by no_ticket now = kept_line no_ticket now
      by (served g n) now = kept_line (served g n) now
      by (taken g) now = kept_line (taken g) now
      by (given g) now = kept_line (given g) now
      by (drawn g n) now = by_test ((g == h) && (n == M)) refl
        where
          by_test : (b : Bool) → ((g == h) && (n == M)) ≡ b
              → AreTickets s (put tickets a (if b then served g n else drawn g n)) beside
          by_test true q = served_line g n now (from_test g h (both_left (g == h) (n == M) q))
              (from_test n M (both_right (g == h) (n == M) q))
          by_test false q = kept_line (drawn g n) now

-- An item that is no step and changes one word beside the table, on the words.
module _ (c : Scene) (law : Law c) (a : ℕ) (x : Item) (none_made : steps_of (x ∷ []) ≡ [])
    (differs : (book_from (book_of (c.items a)) (x ∷ [])).differs ≡ (book_of (c.items a)).differs)
    (fits : a < TASKS → Fits (law.table.task a) (book_of (c.items a ++ x ∷ [])))
    (quiet : notes_of a (c.items a ++ x ∷ []) ≡ notes_of a (c.items a)) where
  pub law_beside : (l : Location) (n : ℕ) (beside : Location → ℕ) → IsLocation l
      → word_with law.table beside l ≡ n
      → ((j : Location) → j ≢ l → word_with law.table beside j ≡ word_with law.table law.beside j)
      → ((k : ℕ) → beside (place.Member k) ≡ law.beside (place.Member k))
      → AreTickets law.table (put (all_tickets c.items) a (book_from (book_of (c.items a)) (x ∷ [])).ticket) beside
      → AreTallies (put c.items a (c.items a ++ x ∷ [])) beside
      → ArePipes (word_with law.table beside) (put c.items a (c.items a ++ x ∷ []))
      → Law (moved c a (position_of l) n (x ∷ []))
  law_beside l n beside there now rest members tickets tallies pipes = record {
    table = law.table;
    beside = beside;
    shown = subst (λ (w : ℕ). ShowsWith (slice_set c.words (position_of l) w) law.table beside) now
        (written c.words law.table law.table law.beside beside l law.shown there rest);
    ruled = ruled_seen c law a (x ∷ []) none_made tt (inl differs) fits
        (same_links law.table c.items a (x ∷ []) quiet law.ruled.linked);
    members = subst (λ (d : ℕ → Difference). AreMembers law.table d beside)
        (sym (differences_same c.items a (x ∷ []) differs)) (record {
          bits = law.members.bits;
          spells = λ h i few. members _ ∙ law.members.spells h i few;
          agrees = law.members.agrees;
          named = law.members.named;
          untested = law.members.untested;
        });
    tickets = subst (λ (f : ℕ → Ticket). AreTickets law.table f beside) (sym (tickets_next c.items a (x ∷ []))) tickets;
    tallies = tallies;
    pipes = pipes;
  }

module _ (c : Scene) (law : Law c) (a h : ℕ) (head : h < HEADS) where
  fits_same : (x : Item) → ((less : a < TASKS) → Fits (law.table.task a) (book_from (book_of (c.items a)) (x ∷ [])))
      → (less : a < TASKS) → Fits (law.table.task a) (book_of (c.items a ++ x ∷ []))
  fits_same x same less = subst (Fits (law.table.task a)) (sym (book_append first_book (c.items a) (x ∷ [])))
      (same less)

  pub law_drawn : a < TASKS → all_tickets c.items a ≡ no_ticket
      → Law (moved c a (position_of (place.Next h))
      ((slice_index c.words (position_of (place.Next h)) + 1) % 2 ^ 64)
      (item.Drawn h (slice_index c.words (position_of (place.Next h))) ∷ []))
  law_drawn small free = subst (λ (n : ℕ). Law (moved c a (position_of (place.Next h)) ((n + 1) % 2 ^ 64)
      (item.Drawn h n ∷ []))) (sym (law.shown.each (place.Next h) head))
      (law_beside c law a (item.Drawn h N) refl refl
      (fits_same (item.Drawn h N) (λ less. let f = law.ruled.fits a less in
      record { up = f.up; stored = f.stored; rose = f.rose }))
      (notes_after a (c.items a) (item.Drawn h N)) (place.Next h) ((N + 1) % 2 ^ 64)
      (with_next law.beside h ((N + 1) % 2 ^ 64)) head
      (put_same (λ q. law.beside (place.Next q)) h ((N + 1) % 2 ^ 64))
      (other_next law.table law.beside h ((N + 1) % 2 ^ 64)) (λ k. refl)
      (draw_tickets law.table (all_tickets c.items) law.beside law.tickets a h small free)
      (tallies_same c.items a (item.Drawn h N ∷ []) law.beside (with_next law.beside h ((N + 1) % 2 ^ 64)) (λ p. refl)
      (λ k. refl) law.tallies)
      (pipes_rest c.items a (item.Drawn h N ∷ []) (word_with law.table law.beside)
      (word_with law.table (with_next law.beside h ((N + 1) % 2 ^ 64))) (place.Next h) refl
      (other_next law.table law.beside h ((N + 1) % 2 ^ 64)) (λ k. (λ e. refl, refl)) law.pipes))
    where
      N : ℕ
      N = law.beside (place.Next h)

  pub law_serving : Law (moved c a (position_of (place.Serving h))
      (slice_index c.words (position_of (place.Serving h)))
      (item.Serving h (slice_index c.words (position_of (place.Serving h))) ∷ []))
  law_serving = subst (λ (n : ℕ). Law (moved c a (position_of (place.Serving h)) n (item.Serving h n ∷ [])))
      (sym (law.shown.each (place.Serving h) head))
      (law_beside c law a (item.Serving h N) refl refl
      (fits_same (item.Serving h N) (λ less. let f = law.ruled.fits a less in
      record { up = f.up; stored = f.stored; rose = f.rose }))
      (notes_after a (c.items a) (item.Serving h N)) (place.Serving h) N law.beside head refl (λ j ne. refl) (λ k. refl)
      (serving_tickets law.table (all_tickets c.items) law.beside law.tickets a h)
      (tallies_same c.items a (item.Serving h N ∷ []) law.beside law.beside (λ p. refl) (λ p. refl) law.tallies)
      (pipes_rest c.items a (item.Serving h N ∷ []) (word_with law.table law.beside) (word_with law.table law.beside)
      (place.Serving h) refl (λ j ne. refl) (λ k. (λ e. refl, refl)) law.pipes))
    where
      N : ℕ
      N = law.beside (place.Serving h)

  pub law_served : a < TASKS → all_tickets c.items a ≡ given h
      → Law (moved c a (position_of (place.Serving h))
      ((slice_index c.words (position_of (place.Serving h)) + 1) % 2 ^ 64) (item.Served ∷ []))
  law_served small is = subst (λ (n : ℕ). Law (moved c a (position_of (place.Serving h)) ((n + 1) % 2 ^ 64)
      (item.Served ∷ []))) (sym (law.shown.each (place.Serving h) head))
      (law_beside c law a item.Served refl refl
      (fits_same item.Served (λ less. let f = law.ruled.fits a less in
      record { up = f.up; stored = f.stored; rose = f.rose }))
      (notes_after a (c.items a) item.Served) (place.Serving h) ((N + 1) % 2 ^ 64)
      (with_serving law.beside h ((N + 1) % 2 ^ 64)) head
      (put_same (λ q. law.beside (place.Serving q)) h ((N + 1) % 2 ^ 64))
      (other_serving law.table law.beside h ((N + 1) % 2 ^ 64)) (λ k. refl)
      (serve_tickets law.table (all_tickets c.items) law.beside law.tickets a h small is)
      (tallies_same c.items a (item.Served ∷ []) law.beside (with_serving law.beside h ((N + 1) % 2 ^ 64)) (λ p. refl)
      (λ k. refl) law.tallies)
      (pipes_rest c.items a (item.Served ∷ []) (word_with law.table law.beside)
      (word_with law.table (with_serving law.beside h ((N + 1) % 2 ^ 64))) (place.Serving h) refl
      (other_serving law.table law.beside h ((N + 1) % 2 ^ 64)) (λ k. (λ e. refl, refl)) law.pipes))
    where
      N : ℕ
      N = law.beside (place.Serving h)

module _ (slots id : ℕ) (me : Sat) (lives : me.0.lives ≡ true) (h p : ℕ) (head : h < HEADS) where
  own_ticket : (c : Scene) (t : Ticket) → (book_of me.0.items).ticket ≡ t → c.items me.0.number ≡ me.0.items
      → all_tickets c.items me.0.number ≡ t
  own_ticket c t is own = ap (λ (xs : List Item). (book_of xs).ticket) own ∙ is

  pub draw_moves : p ≡ position_of (place.Next h) → (book_of me.0.items).ticket ≡ no_ticket
      → Allows (Holds Law) slots id me p (λ n. (n + 1) % 2 ^ 64) (drawn_play (move slots p 1 0 none) me)
  draw_moves at free s r long at_id less =
      let there : h ≡ p - NEXT_AT = omega arith in
      let a = subst (λ (q : ℕ). Allows (Holds Law) slots id me q (λ n. (n + 1) % 2 ^ 64)
      (λ n m. (m ≡ seat_with me (item.Drawn h n)) × Unit {0})) (sym at)
      (allows Law slots id me.0 me.1 (position_of (place.Next h)) (λ n. (n + 1) % 2 ^ 64) (λ n. item.Drawn h n ∷ [])
      (λ _. Unit {0}) lives
      (λ c law few own _. (law_drawn c law me.0.number h head few (own_ticket c no_ticket free own), tt)))
      s r long at_id less in
      told_as a (λ _ _ t. t.0 ∙ ap (λ (k : ℕ). seat_with me (item.Drawn k (slice_index s.words p))) there)

  -- the served number counts the unlocks
  serves_unlocks : (c : Scene) (law : Law c) → ((t : ℕ) → 1 ≤ owns t me.0 → c.items t ≡ has_of t me.0)
      → ((t : ℕ) → owns t me.0 ≤ 1) → ((t : ℕ) → TASKS ≤ t → c.items t ≡ [])
      → ServesUnlocks me.0 h (slice_index c.words (position_of (place.Serving h)))
  serves_unlocks c law knows sole nobody = record {
    shown = shown_of me.0 c law knows sole nobody;
    serves = law.tickets.serves h;
    word = law.shown.each (place.Serving h) head ∙ law.tickets.serving h;
    unlocks = law.tickets.unlocks h;
    one = one_unserved law.table (all_tickets c.items) law.beside law.tickets h;
  }

  pub serving_moves : p ≡ position_of (place.Serving h)
      → Allows (Holds Law) slots id me p (λ n. n) (serving_play (move slots p 0 0 none) me)
  serving_moves at s r long at_id less =
      let there : h ≡ p - SERVING_AT = omega arith in
      let a = subst (λ (q : ℕ). Allows (Holds Law) slots id me q (λ n. n)
      (λ n m. (m ≡ seat_with me (item.Serving h n)) × ServesUnlocks me.0 h n)) (sym at)
      (learns_more Law slots id me.0 me.1 (position_of (place.Serving h)) (λ n. n) (λ n. item.Serving h n ∷ [])
      (λ n. ServesUnlocks me.0 h n) lives (λ c law few own _. (law_serving c law me.0.number h head, tt))
      serves_unlocks) s r long at_id less in
      told_as a (λ _ _ t. (
        t.0 ∙ ap (λ (k : ℕ). seat_with me (item.Serving k (slice_index s.words p))) there,
        subst (λ (k : ℕ). ServesUnlocks me.0 k (slice_index s.words p)) there t.1,
      ))

  pub serve_moves : p ≡ position_of (place.Serving h) → (book_of me.0.items).ticket ≡ given h
      → Allows (Holds Law) slots id me p (λ n. (n + 1) % 2 ^ 64) (served_play (move slots p 1 0 none) me)
  serve_moves at is s r long at_id less =
      let a = subst (λ (q : ℕ). Allows (Holds Law) slots id me q (λ n. (n + 1) % 2 ^ 64)
      (λ n m. (m ≡ seat_with me item.Served) × Unit {0})) (sym at)
      (allows Law slots id me.0 me.1 (position_of (place.Serving h)) (λ n. (n + 1) % 2 ^ 64) (λ n. item.Served ∷ [])
      (λ _. Unit {0}) lives
      (λ c law few own _. (law_served c law me.0.number h head few (own_ticket c (given h) is own), tt)))
      s r long at_id less in
      told_as a (λ _ _ t. t.0)
