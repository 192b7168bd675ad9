-- What a step does to the tickets that are out.
use Rattle.std.proofs.lemmas.Bool.{both_ways}
use Rattle.std.proofs.Common.{refl, sym, ◌∙◌, ap, subst, arith, add-zero}
use Rattle.std.specs.Prelude.{ℕ, zero, suc, ◌≡◌, ◌≢◌, ◌+◌, ◌<◌, ◌≤◌, Bool, true, false, ◌==◌, Option, Some, None}
use Rattle.std.specs.Prelude.{List, ◌++◌}
use Rattle.std.proofs.lemmas.Bool.Decides.{nat_tests}
use Rattle.wait_model.specs.{declared.layout.TheConstants.TASKS, declared.steps.Step.Step, declared.tasks.Sleep.Sleep}
use Rattle.wait_model.specs.{Tasks.task_of, Tasks.sleep_of, Functions.put, Words.flag, Totals.sum_below}
use Rattle.wait_model.specs.{Views.View as Told, Views.Hold, Fold.after, Tables.Table, Tables.next, Rows.Allowed}
use Rattle.wait_model.specs.declared.steps.Step.TheVariants as step
use Rattle.wait_model.specs.declared.tasks.Sleep.TheVariants as sleep
use Rattle.wait_model.specs.Locations as place
use Rattle.wait_model.proofs.Functions.{put_at, put_same, put_other}
use Rattle.wait_model.proofs.HistoryLaws.StepTotals.{total_grown, sum_grown, sum_zero}
use Rattle.wait_model.proofs.StepLaws.UnlockSteps.{unlock_hold}
use Rattle.wait_rule.specs.{declared.journal.Item.Item, Rule.AreLinked, Notes.Notes}
use Rattle.wait_rule.specs.Tickets.{Ticket, no_ticket, served, taken, given, is_ticket_of, is_served, is_given}
use Rattle.wait_rule.specs.Tickets.{ShowsNumber, out_below}
use Rattle.wait_rule.specs.TicketWords.{all_tickets, unlocks_at, unlocked_at, unserved, AreTickets}
use Rattle.wait_rule.specs.Items.{Book, learn_step, after_sleep, book_from, book_of}
use Rattle.wait_rule.proofs.KnownLaws.HeadLinks.{both_at}
use Rattle.wait_rule.proofs.KnownLaws.MemberSteps.{IsOrderly, books_next, put_again}

-- lists with more items
pub tickets_next : (items : ℕ → List Item) (a : ℕ) (xs : List Item)
    → all_tickets (put items a (items a ++ xs))
    ≡ put (all_tickets items) a (book_from (book_of (items a)) xs).ticket
tickets_next items a xs = books_next (λ b. b.ticket) items a xs

-- items that change no ticket
pub tickets_same : (items : ℕ → List Item) (a : ℕ) (xs : List Item)
    → (book_from (book_of (items a)) xs).ticket ≡ (book_of (items a)).ticket
    → all_tickets (put items a (items a ++ xs)) ≡ all_tickets items
tickets_same items a xs same = tickets_next items a xs
    ∙ put_again (all_tickets items) a (book_from (book_of (items a)) xs).ticket same

asleep_ticket : (z : Sleep) (b : Book) → (after_sleep z b).ticket ≡ b.ticket
asleep_ticket sleep.Stay b = refl
asleep_ticket sleep.Signal b = refl
asleep_ticket sleep.Asleep b = refl

same_some : (x y : ℕ) → ◌≡◌ {A = Option ℕ} (Some x) (Some y) → x ≡ y
same_some x y e = cc

none_is : {A : Type 0} (x : ℕ) → ◌≡◌ {A = Option ℕ} None (Some x) → A
none_is x e = absurd (cc)

pub from_test : (g h : ℕ) → (g == h) ≡ true → g ≡ h
from_test g h is = grind (arith, nat_tests)

pub to_test : (h : ℕ) → (h == h) ≡ true
to_test h = grind (arith, nat_tests)

pub test_off : (g h : ℕ) → h ≢ g → (g == h) ≡ false
test_off g h ne = grind (arith, nat_tests)

pub none_out : {A : Type 0} (h : ℕ) (t : Ticket) → t ≡ no_ticket → is_ticket_of h t ≡ true → A
none_out h t none is = absurd (both_ways false refl (sym (ap (is_ticket_of h) none) ∙ is))

-- the locks that were given back, after a step, and those whose serve is still to come, with another ticket of a task
pub unlocked_next : (s : Table) (a : ℕ) (e : Step) (h : ℕ) → a < TASKS
    → unlocked_at h (next s a e).history ≡ unlocked_at h s.history + unlocks_at h e
unlocked_next s a e h few = total_grown TASKS a (unlocks_at h) s.history e few

pub unserved_put : (tickets : ℕ → Ticket) (a h k : ℕ) (x : Ticket) → a < TASKS
    → flag (is_given h x) ≡ flag (is_given h (tickets a)) + k
    → unserved h (put tickets a x) ≡ unserved h tickets + k
unserved_put tickets a h k x few more = sum_grown TASKS a k (λ i. flag (is_given h (tickets i)))
    (λ i. flag (is_given h (put tickets a x i))) few
    (ap (λ (t : Ticket). flag (is_given h t)) (put_same tickets a x) ∙ more)
    (λ i ne. ap (λ (t : Ticket). flag (is_given h t)) (put_other tickets a x i ne))

pub as_many : (m n s p q k : ℕ) → m ≡ n + k → n ≡ s + p → q ≡ p + k → m ≡ s + q
as_many m n s p q k one two more = omega arith

-- at most one is still to come
one_at_most : (n : ℕ) (f : ℕ → ℕ) → ((i : ℕ) → f i ≤ 1)
    → ((i j : ℕ) → f i ≡ 1 → f j ≡ 1 → i ≡ j) → sum_below n f ≤ 1
unfolding sum_below
one_at_most zero f small one = omega arith
one_at_most (suc n) f small one = by (f n) refl (one_at_most n f small one)
  where
    by : (k : ℕ) → f n ≡ k → sum_below n f ≤ 1 → sum_below n f + f n ≤ 1
    by zero is rest = omega arith
    by (suc k) is _ =
        let last = small n in
        let here : f n ≡ 1 = omega arith in
        let rest : sum_below n f ≡ 0 = sum_zero n f (λ i less. by_zero i less (f i) refl here) in
        omega arith
      where
        by_zero : (i : ℕ) → i < n → (m : ℕ) → f i ≡ m → f n ≡ 1 → f i ≡ 0
        by_zero i less zero was here = was
        by_zero i less (suc m) was here =
            let most = small i in
            let same : i ≡ n = one i n (omega arith) here in
            absurd (omega arith)

flag_most : (b : Bool) → flag b ≤ 1
flag_most true = omega arith
flag_most false = omega arith

flag_set : (b : Bool) → flag b ≡ 1 → b ≡ true
flag_set true is = refl
flag_set false is = absurd (omega arith)

given_is : (h : ℕ) (t : Ticket) → is_given h t ≡ true → (is_ticket_of h t ≡ true) × (is_served t ≡ true)
given_is h (given g) is = (is, refl)
given_is h _ is = absurd (cc)

pub one_unserved : (s : Table) (tickets : ℕ → Ticket) (beside : place.Location → ℕ) → AreTickets s tickets beside
    → (h : ℕ) → unserved h tickets ≤ 1
one_unserved s tickets beside r h = one_at_most TASKS (λ t. flag (is_given h (tickets t)))
    (λ i. flag_most (is_given h (tickets i)))
    (λ i j one two.
    let a = given_is h (tickets i) (flag_set (is_given h (tickets i)) one) in
    let b = given_is h (tickets j) (flag_set (is_given h (tickets j)) two) in
    r.once i j h a.0 b.0 (r.turn i h a.0 a.1 ∙ sym (r.turn j h b.0 b.1)))

-- a task's ticket changes to another one of the same head, or heads are held by others
module _ (s z : Table) (tickets : ℕ → Ticket) (beside : place.Location → ℕ) (r : AreTickets s tickets beside) (a : ℕ)
    (x : Ticket) (same : (h : ℕ) → is_ticket_of h x ≡ is_ticket_of h (tickets a)) (shows : ShowsNumber x (r.number a))
    (turn : (h : ℕ) → is_ticket_of h x ≡ true → is_served x ≡ true → r.number a ≡ r.serves h)
    (held : (b h : ℕ) → (z.view b).hold.head ≡ Some h → put tickets a x b ≡ taken h)
    (unlocks : (h : ℕ) → unlocked_at h z.history ≡ r.serves h + unserved h (put tickets a x)) where
  still_out : (b h : ℕ) → is_ticket_of h (put tickets a x b) ≡ is_ticket_of h (tickets b)
  still_out b h = put_at (λ (t : Ticket). is_ticket_of h t ≡ is_ticket_of h (tickets b)) tickets a x b
      (λ e. same h ∙ ap (λ (i : ℕ). is_ticket_of h (tickets i)) (sym e)) (λ _. refl)

  below : (h n : ℕ) → out_below (put tickets a x) h n ≡ out_below tickets h n
  below h zero = refl
  below h (suc n) = λ i. flag (still_out n h i) + below h n i

  pub same_line : AreTickets z (put tickets a x) beside
  same_line = record {
    draws = r.draws;
    serves = r.serves;
    number = r.number;
    next = r.next;
    serving = r.serving;
    within = λ b h out. r.within b h (sym (still_out b h) ∙ out);
    each = λ h n low high. let o = r.each h n low high in (o.0, (still_out o.0 h ∙ o.1.0, o.1.1));
    once = λ b c h one two is. r.once b c h (sym (still_out b h) ∙ one) (sym (still_out c h) ∙ two) is;
    count = λ h. r.count h ∙ ap (λ (n : ℕ). r.serves h + n) (sym (below h TASKS));
    shown = λ b. put_at (λ (t : Ticket). ShowsNumber t (r.number b)) tickets a x b
        (λ e. subst (λ (i : ℕ). ShowsNumber x (r.number i)) (sym e) shows) (λ _. r.shown b);
    turn = λ b h. put_at (λ (t : Ticket). is_ticket_of h t ≡ true → is_served t ≡ true → r.number b ≡ r.serves h) tickets a x b
        (λ e out is. ap r.number e ∙ turn h out is) (λ _. r.turn b h);
    held = held;
    unlocks = unlocks;
  }

-- other words beside the table, and a table in which heads are held as before
tickets_as : (s z : Table) (tickets : ℕ → Ticket) (one two : place.Location → ℕ)
    → ((h : ℕ) → two (place.Next h) ≡ one (place.Next h)) → ((h : ℕ) → two (place.Serving h) ≡ one (place.Serving h))
    → ((b : ℕ) → (z.view b).hold.head ≡ (s.view b).hold.head)
    → ((h : ℕ) → unlocked_at h z.history ≡ unlocked_at h s.history) → AreTickets s tickets one → AreTickets z tickets two
tickets_as s z tickets one two nexts servings heads unlocks r = record {
  draws = r.draws;
  serves = r.serves;
  number = r.number;
  next = λ h. nexts h ∙ r.next h;
  serving = λ h. servings h ∙ r.serving h;
  within = r.within;
  each = r.each;
  once = r.once;
  count = r.count;
  shown = r.shown;
  turn = r.turn;
  held = λ b h is. r.held b h (sym (heads b) ∙ is);
  unlocks = λ h. unlocks h ∙ r.unlocks h;
}

pub quiet_tickets : (s z : Table) (tickets : ℕ → Ticket) (beside : place.Location → ℕ)
    → ((b : ℕ) → (z.view b).hold.head ≡ (s.view b).hold.head)
    → ((h : ℕ) → unlocked_at h z.history ≡ unlocked_at h s.history) → AreTickets s tickets beside
    → AreTickets z tickets beside
quiet_tickets s z tickets beside heads unlocks r =
    tickets_as s z tickets beside beside (λ _. refl) (λ _. refl) heads unlocks r

pub beside_tickets : (s : Table) (tickets : ℕ → Ticket) (one two : place.Location → ℕ)
    → ((h : ℕ) → two (place.Next h) ≡ one (place.Next h)) → ((h : ℕ) → two (place.Serving h) ≡ one (place.Serving h))
    → AreTickets s tickets one → AreTickets s tickets two
beside_tickets s tickets one two nexts servings r =
    tickets_as s s tickets one two nexts servings (λ _. refl) (λ _. refl) r

-- steps of the table
still_step : (s : Table) (a : ℕ) (e : Step) (b : Book) (tickets : ℕ → Ticket) (beside : place.Location → ℕ)
    → (after e (s.view a)).hold.head ≡ (s.view a).hold.head → (learn_step e b).ticket ≡ b.ticket
    → tickets a ≡ b.ticket → ((h : ℕ) → unlocked_at h (next s a e).history ≡ unlocked_at h s.history)
    → AreTickets s tickets beside
    → AreTickets (next s a e) (put tickets a (learn_step e b).ticket) beside
still_step s a e b tickets beside head kept same unlocks r =
    subst (λ (f : ℕ → Ticket). AreTickets (next s a e) f beside)
    (sym (put_again tickets a (learn_step e b).ticket (kept ∙ sym same)))
    (quiet_tickets s (next s a e) tickets beside
    (λ d. put_at (λ (v : Told). v.hold.head ≡ (s.view d).hold.head) s.view a (after e (s.view a)) d
    (λ q. head ∙ ap (λ (i : ℕ). (s.view i).hold.head) (sym q)) (λ _. refl)) unlocks r)

pub tickets_after : (s : Table) (a : ℕ) (e : Step) (b : Book) (tickets : ℕ → Ticket) (beside : place.Location → ℕ)
    → a < TASKS → Allowed s a e → IsOrderly s a e b → tickets a ≡ b.ticket → AreTickets s tickets beside
    → AreTickets (next s a e) (put tickets a (learn_step e b).ticket) beside
tickets_after s a (step.Lock g aim w) b tickets beside few may turn is r =
    let now : tickets a ≡ served g turn.0 = is ∙ turn.1 in
    let same : (h : ℕ) → is_ticket_of h (tickets a) ≡ (g == h) = λ h. ap (is_ticket_of h) now in
    same_line s (next s a (step.Lock g aim w)) tickets beside r a (taken g) (λ h. sym (same h)) tt
    (λ h out _. r.turn a h (same h ∙ out) (ap is_served now))
    (λ d h. both_at (λ (v : Told) (t : Ticket). v.hold.head ≡ Some h → t ≡ taken h) s.view tickets a
    (after (step.Lock g aim w) (s.view a)) (taken g) d (λ _ q. ap taken (same_some g h q)) (λ _ q. r.held d h q))
    (λ h. as_many (unlocked_at h (next s a (step.Lock g aim w)).history) (unlocked_at h s.history) (r.serves h)
    (unserved h tickets) (unserved h (put tickets a (taken g))) 0 (unlocked_next s a (step.Lock g aim w) h few)
    (r.unlocks h) (unserved_put tickets a h 0 (taken g) few
    (sym (ap (λ (t : Ticket). flag (is_given h t) + 0) now))))
tickets_after s a (step.Unlock g sp) b tickets beside few may clear is r =
    let now : tickets a ≡ taken g = r.held a g may.0 in
    let same : (h : ℕ) → is_ticket_of h (tickets a) ≡ (g == h) = λ h. ap (is_ticket_of h) now in
    same_line s (next s a (step.Unlock g sp)) tickets beside r a (given g) (λ h. sym (same h)) tt
    (λ h out _. r.turn a h (same h ∙ out) (ap is_served now))
    (λ d h. both_at (λ (v : Told) (t : Ticket). v.hold.head ≡ Some h → t ≡ taken h) s.view tickets a
    (after (step.Unlock g sp) (s.view a)) (given g) d
    (λ _ q. none_is h (sym (ap (λ (k : Hold). k.head) (unlock_hold (s.view a) (s.view a).walk sp)) ∙ q))
    (λ _ q. r.held d h q))
    (λ h. as_many (unlocked_at h (next s a (step.Unlock g sp)).history) (unlocked_at h s.history) (r.serves h)
    (unserved h tickets) (unserved h (put tickets a (given g))) (flag (g == h))
    (unlocked_next s a (step.Unlock g sp) h few) (r.unlocks h) (unserved_put tickets a h (flag (g == h)) (given g) few
    (let none : flag (is_given h (tickets a)) ≡ 0 = ap (λ (t : Ticket). flag (is_given h t)) now in omega arith)))
tickets_after s a (step.Sleep w) b tickets beside few may orderly is r =
    still_step s a (step.Sleep w) b tickets beside refl (asleep_ticket (sleep_of (task_of w)) b) is
    (λ h. unlocked_next s a (step.Sleep w) h few ∙ add-zero (unlocked_at h s.history)) r
tickets_after s a e b tickets beside few may orderly is r = still_step s a e b tickets beside refl refl is
    (λ h. unlocked_next s a e h few ∙ add-zero (unlocked_at h s.history)) r

-- a ticket that was read as served, and has had no hold, finds its head free, and its task holds no other
module _ (s : Table) (notes : ℕ → Notes) (linked : AreLinked s notes) (tickets : ℕ → Ticket)
    (beside : place.Location → ℕ) (r : AreTickets s tickets beside) (a h n : ℕ) (is : tickets a ≡ served h n) where
  own_out : is_ticket_of h (tickets a) ≡ true
  own_out = ap (is_ticket_of h) is ∙ to_test h

  pub free_head : s.holder h ≡ false
  free_head = by (s.holder h) refl
    where
      by : (b : Bool) → s.holder h ≡ b → b ≡ false
      by false q = refl
      by true q =
          let d = linked.holder h q in
          let there : tickets d.0 ≡ taken h = r.held d.0 h d.1 in
          let out : is_ticket_of h (tickets d.0) ≡ true = ap (is_ticket_of h) there ∙ to_test h in
          let one : a ≡ d.0 = r.once a d.0 h own_out out (r.turn a h own_out (ap is_served is)
          ∙ sym (r.turn d.0 h out (ap is_served there))) in
          let both : served h n ≡ taken h = sym is ∙ (ap tickets one ∙ there) in
          absurd (cc)

  pub holds_none : (s.view a).hold.head ≡ None
  holds_none = by (s.view a).hold.head refl
    where
      by : (o : Option ℕ) → (s.view a).hold.head ≡ o → o ≡ None
      by None q = refl
      by (Some g) q = let both : served h n ≡ taken g = sym is ∙ r.held a g q in absurd (cc)
