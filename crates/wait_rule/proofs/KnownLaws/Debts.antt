-- What each step leaves of a task's debts. A further part of `Debts` is shown in this file alone: for each item that a
-- list may get (`item_debts`), for a publish, and for other excuses of the same task.
use Rattle.std.proofs.Common.{◌∙◌, ap, sym, refl, subst, append_assoc, append-nil, arith, true≢false}
use Rattle.std.specs.Prelude.{ℕ, ◌≡◌, ◌==◌, ◌%◌, ◌<◌, ◌++◌, ◌&&◌, ◌||◌, not, Bool, true, false, if◌then◌else◌, nat_lt}
use Rattle.std.specs.Prelude.{Option, Some, None, List, [], ◌∷◌}
use Rattle.std.proofs.lemmas.Bool.Decides.{nat_tests}
use Rattle.wait_model.specs.{declared.layout.TheConstants.FIRST_DONE_HEAD, declared.watches.Watch.Watch}
use Rattle.wait_model.specs.{declared.watches.Entry.Entry, declared.steps.Step.Step, Tasks.meets, Words.entry_of}
use Rattle.wait_model.specs.Watches.{same, mask_of, is_page, head_of}
use Rattle.wait_model.specs.Views.{View as Told, Walk, all_cleared, all_passed, concerns}
use Rattle.wait_model.specs.Fold.{after, after_unlock, peeks, scanned}
use Rattle.wait_model.specs.declared.watches.Watch.TheVariants as watch
use Rattle.wait_model.specs.declared.watches.Mode.TheVariants as mode
use Rattle.wait_model.specs.declared.steps.Step.TheVariants as step
use Rattle.wait_rule.specs.declared.journal.EndAct.TheVariants as act
use Rattle.wait_rule.specs.{declared.journal.Item.Item, declared.journal.Journal.Journal, Journals.pushed, Known.Known}
use Rattle.wait_rule.specs.{Notes.tell, Transitions.AreLooks, Transitions.OnlyLooks}
use Rattle.wait_rule.specs.Items.{AddsNone, Book, steps_of}
use Rattle.wait_rule.specs.LeftEntries.{HasLeftNone, Order, OrderOf, ShowsNoOwn}
use Rattle.wait_rule.specs.Asked.{Asked, after_item, ask_step, is_asking}
use Rattle.wait_rule.specs.Says.{Debts, Obligation, Excuse, added, asks_for, end_unclosed, excuses, grown, has_duty}
use Rattle.wait_rule.specs.Says.{has_end, history_of, is_excused, page_asked, seen_with, stored_with, told_of}
use Rattle.wait_rule.specs.Says.{unlocked_with, wake_of}
use Rattle.wait_rule.specs.Pipes.{End, after_end_look, after_end_publish, claimed, end_item, end_of, end_step, if_mine}
use Rattle.wait_rule.specs.Pipes.{new_end, no_end, other_end, with_cell}
use Rattle.wait_rule.specs.Stays.{with_end, with_left_entry, with_wakes}
use Rattle.wait_rule.specs.declared.journal.Item.TheVariants as item
use Rattle.wait_rule.proofs.{KnownLaws.AfterSteps.told_added, KnownLaws.PipeItems.end_append}
use Rattle.wait_rule.proofs.{KnownLaws.PipeWords.test_on, KnownLaws.PipeWords.test_off}
use Rattle.wait_rule.proofs.TableSteps.ItemLists.{steps_append}
use Rattle.wait_rule.proofs.KnownLaws.AskedPages.{asked_added, asks_nothing, asks_nothing_of}
use Rattle.wait_rule.proofs.KnownLaws.HandedSteps.{AddsLow, AllAddLow, IsAwayAt, away_all, order_front}

tested : (a b : ℕ) → (a == b) ≡ true → a ≡ b
tested a b is = grind (arith, nat_tests)

-- the steps that begin no debt: all but a publish, and an entry that is queued for a page or at a completion; and the
-- items: all but a claim of an end of a pipe
abbrev pub queues_low : Entry → Bool
queues_low e = nat_lt (head_of e.watch) FIRST_DONE_HEAD

abbrev pub begins_none : Step → Bool
begins_none (step.Publish c n r) = false
begins_none (step.Queue x e) = not (is_page e.kind) && queues_low e
begins_none _ = true

abbrev pub item_begins_none : Item → Bool
item_begins_none (item.Made e) = begins_none e
item_begins_none (item.Piped k act.Claim w) = false
item_begins_none _ = true

abbrev pub all_begin_none : List Item → Type 0
all_begin_none [] = Unit {0}
all_begin_none (x ∷ xs) = (item_begins_none x ≡ true) × all_begin_none xs

-- an unlock, and loads without the lock, end wakes that are owed
pub unlock_fewer : (v : Told) (o : Option Walk) (spent : Bool) (c : Watch) (σ : ℕ) → v.duty.owes c σ ≡ false
    → (after_unlock v o spent).duty.owes c σ ≡ false
unlock_fewer v None spent c σ none = none
unlock_fewer v (Some w) spent c σ none = either (spent || all_passed v w (λ _. false)) _ _
    (ap (λ (b : Bool). b && not (concerns w c σ)) none) none
  where
    either : (b : Bool) (x y : Told) → x.duty.owes c σ ≡ false → y.duty.owes c σ ≡ false
        → (if b then x else y).duty.owes c σ ≡ false
    either true x y one two = one
    either false x y one two = two

pub wakes_after : (e : Step) (v : Told) → begins_none e ≡ true → (c : Watch) (σ : ℕ) → v.duty.owes c σ ≡ false
    → (after e v).duty.owes c σ ≡ false
wakes_after (step.Unlock h spent) v is c σ none = unlock_fewer v v.walk spent c σ none
wakes_after (step.Peek x w) v is c σ none =
    ap (λ (b : Bool). b && not (all_cleared (peeks v.duty.cleared x (entry_of w) c))) none
wakes_after (step.Scan h i w) v is c σ none =
    ap (λ (b : Bool). b && not (all_cleared (scanned v.duty.cleared h i w c))) none
wakes_after (step.Publish d n r) v is c σ none = absurd (cc)
wakes_after e v is c σ none = none

pub wakes_told : (x : Item) (v : Told) → item_begins_none x ≡ true → (c : Watch) (σ : ℕ) → v.duty.owes c σ ≡ false
    → (tell x v).duty.owes c σ ≡ false
wakes_told (item.Made e) v is c σ none = wakes_after e v is c σ none
wakes_told x v is c σ none = none

-- a task that asks for no page asks for none then
asks_none_step : (e : Step) (k : Asked) → ((x : ℕ) (f : Entry) → e ≡ step.Queue x f → is_page f.kind ≡ false)
    → is_asking k ≡ false → is_asking (ask_step e k) ≡ false
asks_none_step e k unpaged none = ap (λ (q : Asked). is_asking (ask_step e q)) (asks_nothing_of k none)
    ∙ ap is_asking (asks_nothing e unpaged)

unpaged_of : (p q : Bool) → (not p && q) ≡ true → p ≡ false
unpaged_of false q is = refl
unpaged_of true q is = absurd (cc)

asks_none_then : (x : Item) (k : Asked) → item_begins_none x ≡ true → is_asking k ≡ false → is_asking (after_item x k) ≡ false
asks_none_then (item.Made e) k is none = asks_none_step e k
    (λ x f same. unpaged_of (is_page f.kind) (queues_low f) (ap begins_none (sym same) ∙ is)) none
asks_none_then x k is none = none

-- An end of a pipe that the task has not, or that it closed, stays so over each item but a claim.
abbrev pub is_unclosed : End → Bool
is_unclosed e = e.mine && not e.shut

either_closed : (b : Bool) (e f : End) → is_unclosed e ≡ false → is_unclosed f ≡ false
    → is_unclosed (if b then e else f) ≡ false
either_closed true e f one two = one
either_closed false e f one two = two

published_closed : (m s b : Bool) → (m && not s) ≡ false → (m && not (s || b)) ≡ false
published_closed false s b none = refl
published_closed true true b none = refl
published_closed true false b none = absurd (cc)

step_closed : (k : ℕ) (s : Step) (e : End) → is_unclosed e ≡ false → is_unclosed (end_step k s e) ≡ false
step_closed k (step.Load (watch.Var v o) r) e none = either_closed (v == other_end k) _ e
    (either_closed (is_unclosed e) (after_end_look r e) e none none) none
step_closed k (step.Publish (watch.Var v o) n r) e none = either_closed (v == k) _ e
    (either_closed e.mine (after_end_publish n e) e (published_closed e.mine e.shut (n % 2 == 1) none) none) none
step_closed k s e none = none

item_closed : (k : ℕ) (x : Item) (e : End) → item_begins_none x ≡ true → is_unclosed e ≡ false
    → is_unclosed (end_item k x e) ≡ false
item_closed k (item.Made s) e is none = step_closed k s e none
item_closed k (item.Piped j act.Claim w) e is none = absurd (cc)
item_closed k (item.Piped j act.Cell w) e is none = either_closed (j == k) (with_cell w e) e none none
item_closed k x e is none = none

-- one item more
pub end_added : (k : Known) (i : Item) (e : ℕ)
    → has_end e (added k i) ≡ is_unclosed (end_item e i (end_of e k.view.items))
end_added k i e = ap is_unclosed (end_append e no_end k.view.items (i ∷ []))

no_more : (p q n : Bool) → (p ≡ false → q ≡ false) → (p && n) ≡ false → (q && n) ≡ false
no_more false q n f is = ap (λ (b : Bool). b && n) (f refl)
no_more true false n f is = refl
no_more true true n f is = is

-- What a task knows of its entries at completions stays over each item but one that queues an entry there.
pub record LeavesNone (k : Known) : Type 0 where
  pub off : HasLeftNone k
  pub shows : ShowsNoOwn k

queue_low : (p q : Bool) → (not p && q) ≡ true → q ≡ true
queue_low false q is = is
queue_low true q is = absurd (cc)

low_head : (h : ℕ) → nat_lt h FIRST_DONE_HEAD ≡ true → h < FIRST_DONE_HEAD
low_head h is = grind (arith, nat_tests)

head_low : (h : ℕ) → h < FIRST_DONE_HEAD → nat_lt h FIRST_DONE_HEAD ≡ true
head_low h low = grind (arith, nat_tests)

-- an entry that is queued for no page and at no completion
pub queues_quiet : (x : ℕ) (e : Entry) → not (is_page e.kind) ≡ true → head_of e.watch < FIRST_DONE_HEAD
    → begins_none (step.Queue x e) ≡ true
queues_quiet x e unpaged low = ap (λ (b : Bool). b && queues_low e) unpaged ∙ head_low (head_of e.watch) low

step_low : (e : Step) → begins_none e ≡ true → AddsLow e
step_low (step.Queue x e) is = low_head (head_of e.watch) (queue_low (is_page e.kind) (queues_low e) is)
step_low e is = tt

item_low : (i : Item) → item_begins_none i ≡ true → AllAddLow (steps_of (i ∷ []))
item_low (item.Made e) is = (step_low e is, tt)
item_low i is = tt

module _ (k : Known) (i : Item) (low : AllAddLow (steps_of (i ∷ []))) (w : LeavesNone k) (d : ℕ) where
  more_steps : history_of (added k i) ≡ history_of k ++ steps_of (i ∷ [])
  more_steps = steps_append k.view.items (i ∷ [])

  still_away : OrderOf (added k i) → IsAwayAt d k.view.number (history_of (added k i))
  still_away o =
      let front : Order k.view.number (history_of k ++ steps_of (i ∷ [])) = subst (Order k.view.number) more_steps o in
      let was : OrderOf k = order_front k.view.number (history_of k) (steps_of (i ∷ [])) front in
      subst (IsAwayAt d k.view.number) (sym more_steps)
      (away_all d k.view.number (history_of k) (steps_of (i ∷ [])) front low
      (record { left = w.off d was; away = w.shows d was }))

pub leaves_added : (old new : Known) (i : Item) → AllAddLow (steps_of (i ∷ [])) → new ≡ added old i → LeavesNone old
    → LeavesNone new
leaves_added old new i low is was = subst LeavesNone (sym is) (record {
  off = λ c o. (still_away old i low was c o).left;
  shows = λ c o. (still_away old i low was c o).away;
})

pub leaves_stored : (old new : Known) (e : Step) → AddsLow e → new ≡ stored_with old e → LeavesNone old
    → LeavesNone new
leaves_stored old new e low is was = leaves_added (added old (item.Made e)) new item.Member tt is
    (leaves_added old (added old (item.Made e)) (item.Made e) (low, tt) refl was)

pub leaves_of : (x : Excuse) (k : Known) → Debts x k → x.left ≡ false → LeavesNone k
leaves_of x k d none = record { off = d.off none; shows = d.shows none }

leaves_none_after : (x : Excuse) (old new : Known) (i : Item) → AllAddLow (steps_of (i ∷ [])) → new ≡ added old i
    → Debts x old → x.left ≡ false → LeavesNone new
leaves_none_after x old new i low is d none = leaves_added old new i low is (leaves_of x old d none)

-- one item more: the place where a further part of `Debts` is shown for each kind of step
item_debts : (x : Excuse) (k : Known) (i : Item) → item_begins_none i ≡ true → Debts x k → Debts x (added k i)
item_debts x k i is d = record { none = by; off = λ none. (leaves none).off; shows = λ none. (leaves none).shows }
  where
    leaves : x.left ≡ false → LeavesNone (added k i)
    leaves = leaves_none_after x k (added k i) i (item_low i is) refl d

    by : (o : Obligation) → (has_duty (added k i) o && not (excuses x o)) ≡ false
    by (wake_of c σ) = no_more ((told_of k).duty.owes c σ) ((told_of (added k i)).duty.owes c σ)
        (not (is_excused x c σ))
        (λ none. ap (λ (v : Told). v.duty.owes c σ) (told_added k i) ∙ wakes_told i (told_of k) is c σ none)
        (d.none (wake_of c σ))
    by page_asked = no_more (is_asking (asks_for k)) (is_asking (asks_for (added k i))) (not x.asks)
        (λ none. ap is_asking (asked_added k i) ∙ asks_none_then i (asks_for k) is none)
        (d.none page_asked)
    by (end_unclosed e) = no_more (has_end e k) (has_end e (added k i)) (not (x.ends e))
        (λ none. end_added k i e ∙ item_closed e i (end_of e k.view.items) is none) (d.none (end_unclosed e))

-- An entry that is queued at a completion: the task is excused of that it leaves it there.
same_excused : (x : Excuse) (o : Obligation) → excuses (with_left_entry x) o ≡ excuses x o
unfolding with_left_entry
same_excused x (wake_of c σ) = refl
same_excused x page_asked = refl
same_excused x (end_unclosed e) = refl

module _ (x : Excuse) (k : Known) (i : ℕ) (f : Entry) (unpaged : is_page f.kind ≡ false) (d : Debts x k) where
  abbrev pub queued_now : Known
  queued_now = added k (item.Made (step.Queue i f))

  entry_of_queue : (y : ℕ) (e : Entry) → step.Queue i f ≡ step.Queue y e → e ≡ f
  entry_of_queue y e same = cc

  queued_none : (o : Obligation) → (has_duty queued_now o && not (excuses x o)) ≡ false
  queued_none (wake_of c σ) = ap (λ (v : Told). v.duty.owes c σ && not (is_excused x c σ))
      (told_added k (item.Made (step.Queue i f))) ∙ d.none (wake_of c σ)
  queued_none page_asked = no_more (is_asking (asks_for k)) (is_asking (asks_for queued_now)) (not x.asks)
      (λ none. ap is_asking (asked_added k (item.Made (step.Queue i f)))
      ∙ asks_none_step (step.Queue i f) (asks_for k)
      (λ y e same. ap (λ (g : Entry). is_page g.kind) (entry_of_queue y e same) ∙ unpaged) none) (d.none page_asked)
  queued_none (end_unclosed e) = no_more (has_end e k) (has_end e queued_now) (not (x.ends e))
      (λ none. end_added k (item.Made (step.Queue i f)) e
      ∙ step_closed e (step.Queue i f) (end_of e k.view.items) none) (d.none (end_unclosed e))

  pub queued_left : Debts (with_left_entry x) queued_now
  unfolding with_left_entry
  queued_left = record {
    none = λ o. ap (λ (b : Bool). has_duty queued_now o && not b) (same_excused x o) ∙ queued_none o;
    off = λ none. absurd (cc);
    shows = λ none. absurd (cc);
  }

-- a publish makes the task owe wakes of its watch
published_wakes : (s o x m : Bool) → (o && not (x || not m)) ≡ false
    → ((s || o) && not ((x || (s && m)) || not m)) ≡ false
published_wakes false o true m is = is
published_wakes false o false m is = is
published_wakes true o true m is = refl
published_wakes true o false true is = refl
published_wakes true o false false is = refl

published_none : (c : Watch) (n r : ℕ) (x : Excuse) (old new : Known) → new ≡ added old (item.Made
    (step.Publish c n r))
    → Debts x old → (o : Obligation) → (has_duty new o && not (excuses (with_wakes c mode.Normal x) o)) ≡ false
unfolding with_wakes
published_none c n r x old new is d (wake_of b σ) = ap (λ (v : Told). v.duty.owes b σ
    && not ((x.wakes b σ || (same b c && meets (mask_of mode.Normal) σ))
    || not (meets (mask_of mode.Normal) σ))) (ap told_of is ∙ told_added old (item.Made (step.Publish c n r)))
    ∙ published_wakes (same b c) ((told_of old).duty.owes b σ) (x.wakes b σ) (meets (mask_of mode.Normal) σ)
    (d.none (wake_of b σ))
published_none c n r x old new is d page_asked = ap (λ (k : Asked). is_asking k && not x.asks) (ap asks_for is
    ∙ asked_added old (item.Made (step.Publish c n r))) ∙ d.none page_asked
published_none c n r x old new is d (end_unclosed e) = no_more (has_end e old) (has_end e new) (not (x.ends e))
    (λ none. ap (has_end e) is ∙ (end_added old (item.Made (step.Publish c n r)) e
    ∙ step_closed e (step.Publish c n r) (end_of e old.view.items) none)) (d.none (end_unclosed e))

pub publish_debts : (c : Watch) (n r : ℕ) (x : Excuse) (old new : Known) → new ≡ added old (item.Made
    (step.Publish c n r))
    → Debts x old → Debts (with_wakes c mode.Normal x) new
unfolding with_wakes
publish_debts c n r x old new is d = record {
  none = published_none c n r x old new is d;
  off = λ none. (leaves none).off;
  shows = λ none. (leaves none).shows;
}
  where
    leaves : x.left ≡ false → LeavesNone new
    leaves = leaves_none_after x old new (item.Made (step.Publish c n r)) (tt, tt) is d

-- A publish of the own word that closes an end: the task is excused of that end no more.
module _ (k n r : ℕ) (odd : (n % 2 == 1) ≡ true) (x : Excuse) (old new : Known)
    (is : new ≡ added old (item.Made (step.Publish (watch.Var k 0) n r))) (d : Debts (with_end k x) old) where
  closes : (e : End) → is_unclosed (if_mine (after_end_publish n) e) ≡ false
  closes e = by e.mine refl
    where
      shuts : (s b : Bool) → b ≡ true → not (s || b) ≡ false
      shuts true b q = refl
      shuts false b q = ap not q

      by : (m : Bool) → e.mine ≡ m → is_unclosed (if m then after_end_publish n e else e) ≡ false
      by true q = ap (λ (m : Bool). m && not (e.shut || (n % 2 == 1))) q ∙ shuts e.shut (n % 2 == 1) odd
      by false q = ap (λ (m : Bool). m && not e.shut) q

  closed_now : (e : ℕ) → e ≡ k → has_end e new ≡ false
  closed_now e same = ap (has_end e) is ∙ (end_added old (item.Made (step.Publish (watch.Var k 0) n r)) e
      ∙ (ap (λ (b : Bool). is_unclosed (if b then if_mine (after_end_publish n) (end_of e old.view.items)
      else end_of e old.view.items)) (test_on k e (sym same)) ∙ closes (end_of e old.view.items)))

  abbrev Closes : Obligation → Type 0
  Closes o = (has_duty new o && not (excuses (with_wakes (watch.Var k 0) mode.Normal x) o)) ≡ false

  closed_none : (o : Obligation) → Closes o
  unfolding with_wakes with_end
  closed_none (wake_of b σ) = published_none (watch.Var k 0) n r (with_end k x) old new is d (wake_of b σ)
  closed_none page_asked = published_none (watch.Var k 0) n r (with_end k x) old new is d page_asked
  closed_none (end_unclosed e) = by (e == k) refl
    where
      by : (b : Bool) → (e == k) ≡ b → (has_end e new && not (x.ends e)) ≡ false
      by true q = ap (λ (h : Bool). h && not (x.ends e)) (closed_now e (tested e k q))
      by false q = ap (λ (b : Bool). has_end e new && not (b || x.ends e)) (sym q)
          ∙ published_none (watch.Var k 0) n r (with_end k x) old new is d (end_unclosed e)

  pub close_debts : Debts (with_wakes (watch.Var k 0) mode.Normal x) new
  unfolding with_wakes with_end
  close_debts = record { none = closed_none; off = λ none. (leaves none).off; shows = λ none. (leaves none).shows }
    where
      leaves : x.left ≡ false → LeavesNone new
      leaves = leaves_none_after (with_end k x) old new (item.Made (step.Publish (watch.Var k 0) n r)) (tt, tt) is d

-- A claim of an end: the task is excused of that end too where it got it.
module _ (k w : ℕ) (x : Excuse) (old new : Known) (is : new ≡ added old (item.Piped k act.Claim w)) (d : Debts x old)
  where
    abbrev others : Excuse → Obligation → Type 0
    others y o = (has_duty new o && not (excuses y o)) ≡ false

    claimed_wakes : (c : Watch) (σ : ℕ) → others x (wake_of c σ)
    claimed_wakes c σ = ap (λ (v : Told). v.duty.owes c σ && not (is_excused x c σ))
        (ap told_of is ∙ told_added old (item.Piped k act.Claim w)) ∙ d.none (wake_of c σ)

    claimed_page : others x page_asked
    claimed_page = ap (λ (q : Asked). is_asking q && not x.asks)
        (ap asks_for is ∙ asked_added old (item.Piped k act.Claim w)) ∙ d.none page_asked

    end_is : (e : ℕ) → has_end e new ≡ is_unclosed (if k == e then claimed w (end_of e old.view.items)
        else end_of e old.view.items)
    end_is e = ap (has_end e) is ∙ end_added old (item.Piped k act.Claim w) e

    leaves : x.left ≡ false → LeavesNone new
    leaves = leaves_none_after x old new (item.Piped k act.Claim w) tt is d

    pub got_debts : Debts (with_end k x) new
    unfolding with_end
    got_debts = record { none = by; off = λ none. (leaves none).off; shows = λ none. (leaves none).shows }
      where
        excused : (h b : Bool) → (h && not (true || b)) ≡ false
        excused true b = refl
        excused false b = refl

        ends : (e : ℕ) (b : Bool) → (e == k) ≡ b → (has_end e new && not (b || x.ends e)) ≡ false
        ends e true q = excused (has_end e new) (x.ends e)
        ends e false q = ap (λ (h : Bool). h && not (x.ends e)) (end_is e
            ∙ ap (λ (b : Bool). is_unclosed (if b then claimed w (end_of e old.view.items)
            else end_of e old.view.items))
            (test_off k e (λ z. true≢false (sym (test_on e k (sym z)) ∙ q)))) ∙ d.none (end_unclosed e)

        by : (o : Obligation) → others (with_end k x) o
        by (wake_of c σ) = claimed_wakes c σ
        by page_asked = claimed_page
        by (end_unclosed e) = ends e (e == k) refl

    pub refused_debts : (w == 0) ≡ false → Debts x new
    refused_debts found = record { none = by; off = λ none. (leaves none).off; shows = λ none. (leaves none).shows }
      where
        by : (o : Obligation) → others x o
        by (wake_of c σ) = claimed_wakes c σ
        by page_asked = claimed_page
        by (end_unclosed e) = ap (λ (h : Bool). h && not (x.ends e)) (end_is e
            ∙ (ap (λ (b : Bool). is_unclosed (if k == e then (if b then new_end else end_of e old.view.items)
            else end_of e old.view.items)) found ∙ same (k == e) (end_of e old.view.items))) ∙ d.none (end_unclosed e)
          where
            same : (b : Bool) (f : End) → is_unclosed (if b then f else f) ≡ is_unclosed f
            same true f = refl
            same false f = refl

-- by another excuse of wakes
pub wakes_debts : (x y : Excuse) (k : Known) → y.asks ≡ x.asks → y.ends ≡ x.ends → y.left ≡ x.left
    → ((c : Watch) (σ : ℕ) → ((told_of k).duty.owes c σ && not (is_excused y c σ)) ≡ false) → Debts x k → Debts y k
wakes_debts x y k asks ends left wakes d = record {
  none = by;
  off = λ none. d.off (sym left ∙ none);
  shows = λ none. d.shows (sym left ∙ none);
}
  where
    by : (o : Obligation) → (has_duty k o && not (excuses y o)) ≡ false
    by (wake_of c σ) = wakes c σ
    by page_asked = ap (λ (b : Bool). is_asking (asks_for k) && not b) asks ∙ d.none page_asked
    by (end_unclosed e) = ap (λ (f : ℕ → Bool). has_end e k && not (f e)) ends ∙ d.none (end_unclosed e)

-- by another excuse of entries and bits
pub entries_debts : (x y : Excuse) (k : Known) → y.wakes ≡ x.wakes → y.asks ≡ x.asks → y.ends ≡ x.ends
    → y.left ≡ x.left → Debts x k → Debts y k
entries_debts x y k same asks ends left d = wakes_debts x y k asks ends left
    (λ c σ. ap (λ (f : Watch → ℕ → Bool). (told_of k).duty.owes c σ && not (f c σ
    || not (meets (mask_of mode.Normal) σ))) same ∙ d.none (wake_of c σ)) d

-- whether the task left an entry at a completion is one of the debts
pub left_debts : (x : Excuse) (k : Known) → Debts x k → Debts (with_left_entry x) k
unfolding with_left_entry
left_debts x k d = record {
  none = λ o. ap (λ (b : Bool). has_duty k o && not b) (same_excused x o) ∙ d.none o;
  off = λ none. absurd (cc);
  shows = λ none. absurd (cc);
}

pub off_debts : (x : Excuse) (k : Known) → (x.left ≡ false → HasLeftNone k) → (x.left ≡ false → ShowsNoOwn k)
    → Debts (with_left_entry x) k → Debts x k
off_debts x k off shows d = record {
  none = λ o. ap (λ (b : Bool). has_duty k o && not b) (sym (same_excused x o)) ∙ d.none o;
  off = off;
  shows = shows;
}

-- The debts are those of the list, of whatever book.
pub list_debts : (x : Excuse) (old new : Known) → new.view ≡ old.view → Debts x old → Debts x new
list_debts x old new same d = subst (λ (v : Journal). Debts x (seen_with new v)) (sym same)
    (record { none = d.none; off = d.off; shows = d.shows })

-- more items
more_debts : (x : Excuse) (k : Known) (v : Journal) (xs : List Item) → all_begin_none xs → v ≡ pushed k.view xs
    → Debts x k → Debts x (seen_with k v)
more_debts x k v [] quiet is d = list_debts x k (seen_with k v) (is ∙ ap (λ (l : List Item). record (k.view) { items = l }) (append-nil k.view.items)) d
more_debts x k v (i ∷ xs) quiet is d = list_debts x (seen_with (added k i) v) (seen_with k v) refl
    (more_debts x (added k i) v xs quiet.1 (is ∙ ap (λ (l : List Item). record {
      lives = k.view.lives;
      number = k.view.number;
      next = k.view.next;
      spare = k.view.spare;
      items = l;
      joined = k.view.joined;
    }) (sym (append_assoc k.view.items (i ∷ []) xs))) (item_debts x k i quiet.0 d))

pub items_debts : (old new : Known) (xs : List Item) → all_begin_none xs → new.view ≡ pushed old.view xs
    → (x : Excuse) → Debts x old → Debts x new
items_debts old new xs quiet is x d = list_debts x (seen_with old new.view) new refl
    (more_debts x old new.view xs quiet is d)

-- items that are no steps, and add to nothing
pub looks_quiet : (xs : List Item) → steps_of xs ≡ [] → AddsNone xs → all_begin_none xs
looks_quiet [] none adds = tt
looks_quiet (item.Made e ∷ xs) none adds = absurd (cc)
looks_quiet (item.Piped k a w ∷ xs) none adds = absurd adds.0
looks_quiet (x ∷ xs) none adds = (refl, looks_quiet xs none adds.1)

pub looks_debts : (old new : Known) (looks : List Item) (b : Book) → steps_of looks ≡ [] → AddsNone looks
    → new ≡ grown old looks b → (x : Excuse) → Debts x old → Debts x new
looks_debts old new looks b none adds is = items_debts old new looks (looks_quiet looks none adds)
    (ap (λ (k : Known). k.view) is)

-- looks, in a hold or outside of one, waits for a lock, and serves
are_looks_quiet : (xs : List Item) → AreLooks xs → all_begin_none xs
are_looks_quiet [] l = tt
are_looks_quiet (item.Made (step.Saw x w) ∷ xs) l = (refl, are_looks_quiet xs l.1)
are_looks_quiet (item.Made e ∷ xs) l = absurd l.0
are_looks_quiet (item.Tally p n w ∷ xs) l = absurd l.0
are_looks_quiet (item.Piped k a w ∷ xs) l = absurd l.0
are_looks_quiet (x ∷ xs) l = (refl, are_looks_quiet xs l.1)

pub looked_debts : (old new : Known) → OnlyLooks old new → (x : Excuse) → Debts x old → Debts x new
looked_debts old new l = items_debts old new l.items (are_looks_quiet l.items l.looks)
    (ap (λ (k : Known). k.view) l.is)

-- one item, one step, one with its member bit, and an unlock with its serve
pub added_debts : (old new : Known) (i : Item) → item_begins_none i ≡ true → new ≡ added old i → (x : Excuse)
    → Debts x old → Debts x new
added_debts old new i quiet is x d = list_debts x (added old i) new (ap (λ (k : Known). k.view) is)
    (item_debts x old i quiet d)

pub step_debts : (old new : Known) (e : Step) → begins_none e ≡ true → new ≡ added old (item.Made e) → (x : Excuse)
    → Debts x old → Debts x new
step_debts old new e = added_debts old new (item.Made e)

pub stored_debts : (old new : Known) (e : Step) → begins_none e ≡ true → new ≡ stored_with old e → (x : Excuse)
    → Debts x old → Debts x new
stored_debts old new e quiet is x d = list_debts x (stored_with old e) new (ap (λ (k : Known). k.view) is)
    (item_debts x (added old (item.Made e)) item.Member refl (item_debts x old (item.Made e) quiet d))

pub queued_debts : (old new : Known) (i : ℕ) (e : Entry) → is_page e.kind ≡ false
    → new ≡ stored_with old (step.Queue i e) → (x : Excuse) → Debts x old → Debts (with_left_entry x) new
queued_debts old new i e unpaged is x d = list_debts (with_left_entry x) (stored_with old (step.Queue i e)) new
    (ap (λ (k : Known). k.view) is)
    (item_debts (with_left_entry x) (added old (item.Made (step.Queue i e))) item.Member refl
    (queued_left x old i e unpaged d))

pub unlock_debts : (old new : Known) (h : ℕ) (spent : Bool) → new ≡ unlocked_with old h spent → (x : Excuse)
    → Debts x old → Debts x new
unlock_debts old new h spent is x d = list_debts x (unlocked_with old h spent) new (ap (λ (k : Known). k.view) is)
    (item_debts x (added old (item.Made (step.Unlock h spent))) item.Served refl
    (item_debts x old (item.Made (step.Unlock h spent)) refl d))
