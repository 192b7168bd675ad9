-- A variable is published, its head looked at without the lock, and its waiters woken.
use Rattle.std.proofs.Common.{◌∙◌, ap, eq-eqb, sym, refl, subst, arith}
use Rattle.std.specs.Prelude.{ℕ, ◌≡◌, ◌<◌, ◌==◌, ◌&&◌, not, min, Bool, true, false, None, List, [], ◌∷◌}
use Rattle.wait_model.specs.declared.calls.Answer.TheVariants as answer
use Rattle.wait_model.specs.declared.calls.Call.TheVariants as calls
use Rattle.wait_model.specs.declared.points.Point.TheVariants as at
use Rattle.wait_model.specs.declared.points.Next.TheVariants as next
use Rattle.wait_model.specs.{declared.points.Seen.Seen, declared.queues.Walked.Walked, declared.watches.Watch.Watch}
use Rattle.wait_model.specs.{Programs.active_event, Tasks.meets, Watches.head_of, Watches.mask_of}
use Rattle.wait_model.specs.declared.points.WalkPoint.TheVariants as walking
use Rattle.wait_model.specs.declared.steps.Step.TheVariants as step
use Rattle.wait_model.specs.declared.watches.Mode.TheVariants as mode
use Rattle.wait_model.specs.declared.watches.Watch.TheVariants as watch
use Rattle.wait_rule.specs.{declared.journal.Item.Item, Items.Book, Items.book_from, Known.Known, Queues.IsIdle}
use Rattle.wait_rule.specs.Says.{added, grown, told_of}
use Rattle.wait_rule.specs.Stays.{Carries, publish_change, unchanged, wake_all_change}
use Rattle.wait_rule.specs.Transitions.{AreScansOf, Program, by_look, by_step, call_program}
use Rattle.wait_rule.specs.declared.journal.Item.TheVariants as item
use Rattle.wait_rule.proofs.KnownLaws.Transitions.{only_none}
use Rattle.wq_head.proofs.HeadLooks.{found_none_over}
use Rattle.wq_head.specs.Scanned.{HasEndedAt, HasScanned, unmade}
use Rattle.wq_head.specs.Walks.{HasEnded, HasWoken, most}
use Rattle.wait_event.specs.Conds.{set_change}
use Rattle.wait_class.specs.{Posts.Runs, Findings.saw_nothing, Findings.with_value}
use Rattle.wait_class.proofs.{Ground.Standing.bare_head, Ground.Going.runs_on, Ground.Going.runs_one}
use Rattle.wait_class.proofs.{Ground.WalkedCalls.walk_ends_held, Ground.WalkedCalls.walk_goes}
use Rattle.wait_event.proofs.Setting.{set_carries, set_idle}
use Rattle.var_wait.specs.VarPublishes.{HasPublished, aim_of}

-- the loads of a look leave the book as it is
scans_book : (h : ℕ) (b : Book) (xs : List Item) → AreScansOf h xs → book_from b xs ≡ b
scans_book h b [] l = refl
scans_book h b (item.Made (step.Scan g i w) ∷ xs) l = scans_book h b xs l.1
scans_book h b (y ∷ xs) l = absurd l.0

-- what a look finds
abbrev with_members : Bool → Seen
with_members hit = record saw_nothing { members = hit }

module _ (before stored looked : Known) (v value found : ℕ)
    (stores : stored ≡ added before (item.Made (step.Publish (watch.Var v 0) value found))) (hit : Bool)
    (looks : HasScanned stored looked (head_of (watch.Var v 0)) hit) where
  abbrev f : Program
  f = call_program before.view.number 0 (calls.SetVar v value)

  abbrev published : Known
  published = added before (item.Made (step.Publish (watch.Var v 0) value found))

  stored_runs : Runs f before stored (next.Go at.Publish) (next.Go at.Active)
  stored_runs = subst (λ (k : Known). Runs f before k (next.Go at.Publish) (next.Go at.Active)) (sym stores)
      (runs_one f at.Publish before before published (with_value found)
      (by_step (step.Publish (watch.Var v 0) value found)) (only_none before) (refl, refl, refl) (refl, tt, tt)
      (only_none published))

  abbrev scanned : Known
  scanned = grown stored looks.items (book_from stored.book looks.items)

  scanned_is : looked ≡ scanned
  scanned_is = looks.is ∙ ap (grown stored looks.items)
      (sym (scans_book (head_of (watch.Var v 0)) stored.book looks.items looks.loads))

  looked_runs : (b : Bool) → hit ≡ b → Runs f stored looked (next.Go at.Active)
      (active_event (calls.SetVar v value) b).next
  looked_runs true is = subst (λ (k : Known). Runs f stored k (next.Go at.Active)
      (active_event (calls.SetVar v value) true).next) (sym scanned_is)
      (runs_one f at.Active stored stored scanned (with_members true) (by_look looks.items) (only_none stored)
      (looks.loads, looks.found ∙ is, λ no_hit. absurd (cc)) tt (only_none scanned))
  looked_runs false is = subst (λ (k : Known). Runs f stored k (next.Go at.Active)
      (active_event (calls.SetVar v value) false).next) (sym scanned_is)
      (runs_one f at.Active stored stored scanned (with_members false) (by_look looks.items) (only_none stored)
      (looks.loads, looks.found ∙ is, λ no_hit. looks.all is) tt (only_none scanned))

  both_runs : (b : Bool) → hit ≡ b → Runs f before looked (next.Go at.Publish)
      (active_event (calls.SetVar v value) b).next
  both_runs b is = runs_on f before stored looked (next.Go at.Publish) (next.Go at.Active)
      (active_event (calls.SetVar v value) b).next stored_runs (looked_runs b is)

  -- what the task owes of the variable, whatever value its waiter has seen
  abbrev IsOver : Known → Type 0
  IsOver k = (old σ : ℕ) → meets (mask_of mode.Normal) σ ≡ true → (told_of k).duty.owes (watch.Var v old) σ ≡ false

  and_not : (b s m : Bool) → s ≡ true → m ≡ true → (b && not (s && m)) ≡ false
  and_not true true true one two = refl
  and_not false s m one two = refl
  and_not true false m one two = absurd (cc)
  and_not true true false one two = absurd (cc)

  -- no member was found
  pub silent : hit ≡ false → HasEndedAt stored looked (head_of (watch.Var v 0)) → (walked : Walked)
      → walked ≡ unmade → HasPublished before looked v value walked
  silent none ended walked is = record {
    stored = stored;
    found = found;
    stores = stores;
    looked = looked;
    hit = false;
    looks = subst (HasScanned stored looked (head_of (watch.Var v 0))) none looks;
    ends = (refl, is);
    real = unmade;
    answers = is;
    runs = both_runs false none;
    over = λ old σ meet. ended.here (watch.Var v old) σ (sym (bare_head (watch.Var v old)));
  }

  -- members were found, and the walk made
  module _ (new : Known) (some : hit ≡ true) (walked : Walked) (woken : HasWoken looked new (aim_of v) walked)
      (ended : HasEnded looked new (aim_of v)) where
    walk_runs : Runs f looked new (next.Go (at.Walk walking.Lock)) (next.Ends (answer.Walk woken.walked))
    walk_runs = record {
      transitions = woken.transitions;
      goes = walk_goes before.view.number (calls.SetVar v value) woken.transitions looked new
          (next.Go (at.Walk walking.Lock)) (next.Ends (answer.Walk woken.walked)) tt woken.goes;
    }

    held_once : 0 < woken.walked.holds
    held_once = walk_ends_held before.view.number (calls.SetVar v value) woken.transitions looked new
        (next.Go (at.Walk walking.Lock)) (next.Ends (answer.Walk woken.walked)) tt woken.goes

    capped_some : (n : ℕ) → 0 < n → 0 < min n most
    capped_some n some_n = omega (arith, some_n)

    pub walked_on : HasPublished before new v value walked
    walked_on = record {
      stored = stored;
      found = found;
      stores = stores;
      looked = looked;
      hit = true;
      looks = subst (HasScanned stored looked (head_of (watch.Var v 0))) some looks;
      ends = (
        woken,
        ended,
        subst (λ (w : Walked). 0 < w.holds) (sym woken.answers) (capped_some woken.walked.holds held_once),
      );
      real = woken.walked;
      answers = woken.answers;
      runs = runs_on f before looked new (next.Go at.Publish) (next.Go (at.Walk walking.Lock))
          (next.Ends (answer.Walk woken.walked)) (both_runs true some) walk_runs;
      over = λ old σ meet. ended.owes (watch.Var v old) σ
          ∙ and_not ((told_of looked).duty.owes (watch.Var v old) σ) (v == v) (meets (mask_of mode.Normal) σ)
          (eq-eqb v v refl) meet;
    }

module _ (c : Watch) (stored looked : Known) (ended : HasEndedAt stored looked (head_of c))
    (still : Carries unchanged stored looked) where
  pub still_idle : IsIdle stored → IsIdle looked
  still_idle idle = record {
    running = still.state ∙ idle.running;
    free = record { head = still.head ∙ idle.free.head; ticket = still.ticket ∙ idle.free.ticket };
    unmarked = still.mark ∙ idle.unmarked;
  }

  pub silent_carries : IsIdle stored → (told_of stored).hold.head ≡ None
      → Carries (wake_all_change c mode.Normal looked.at) stored looked
  silent_carries idle held = record {
    domain = still.domain;
    number = still.number;
    awake = still.awake;
    state = still.state;
    head = still.head ∙ idle.free.head;
    ticket = still.ticket ∙ idle.free.ticket;
    hold = still.hold ∙ held;
    at = refl;
    mark = still.mark;
    fewer = λ d σ p is. still.fewer d σ refl is;
    stored = λ x blind p. absurd (cc);
    out = λ x p none. still.out x refl none;
    stands = λ slot few p e is own. still.stands slot few refl e is own;
    keeps = λ d _. still.keeps d refl;
    owes = found_none_over c stored looked ended;
  }

-- and so the whole call leaves the task where no member was found
pub silent_leaves : (c : Watch) (before stored looked : Known) → IsIdle before → (told_of before).hold.head ≡ None
    → Carries (publish_change c) before stored → HasEndedAt stored looked (head_of c) → Carries unchanged stored looked
    → Carries (set_change c mode.Normal looked.at) before looked
silent_leaves c before stored looked idle held publishes ended still =
    let quiet = set_idle c before stored idle publishes in
    set_carries c mode.Normal before stored looked idle (still_idle c stored looked ended still quiet) held publishes
    (silent_carries c stored looked ended still quiet (publishes.hold ∙ held))
