-- What the proofs of functions that make one step of the table share: that they may make it, what their task knows after
-- it, and what stays of the task.
use Rattle.std.proofs.Common.{refl, sym, ◌∙◌, ap, subst, eqb-true, arith}
use Rattle.std.specs.Prelude.{ℕ, ◌≡◌, ◌+◌, ◌-◌, ◌*◌, ◌<◌, Bool, true, false, cond, eqb, [], ◌∷◌, MatchBool}
use Rattle.atomic_table.specs.Seated.{TableId}
use Rattle.wait_model.specs.{declared.watches.Watch.Watch, declared.steps.Step.Step, Fold.after, Locations.cond_at}
use Rattle.wait_model.specs.Locations.{position_of}
use Rattle.wait_model.specs.declared.layout.TheConstants.{CLAIMS, FIRST_VARIABLE, PIPES, PIPE_ENDS, SLOTS, WORDS}
use Rattle.wait_model.specs.Locations as place
use Rattle.wait_model.proofs.WordLaws.CondWords.{var_at}
use Rattle.wait_rule.specs.{declared.journal.Item.Item, declared.journal.Journal.Journal, Items.first_book}
use Rattle.wait_rule.specs.{Items.learn_step, Journals.pushed, Known.Known, Known.known, PipePlays.var_end}
use Rattle.wait_rule.specs.{Queues.index, Stays.Carries, Stays.StaysOwing}
use Rattle.wait_rule.specs.Plays.{Sat, seat_with, seat_tried}
use Rattle.wait_rule.specs.Says.{StaysSettled, added, told_of}
use Rattle.wait_rule.specs.declared.journal.Item.TheVariants as item
use Rattle.wait_rule.proofs.{TableSteps.ItemLists.book_append, TableSteps.MemberMoves.index_at}
use Rattle.wait_rule.proofs.{KnownLaws.CarriedTasks.moving, KnownLaws.CarriedTasks.step_carried}
use Rattle.wait_rule.proofs.KnownLaws.Debts.{begins_none}
use Rattle.wait_rule.proofs.KnownLaws.SettledTasks.{owes_after, settled_after, stays_settled}

-- The step may be made: the table is the one that the task is of, it has the word, and the law allows the step.
pub may_step : {A : Type 0} {d e f : TableId} {v : Journal} {h : ℕ} {k : Known} {p : ℕ} → known d v h ≡ k
    → k.domain ≡ f → e ≡ f → e.words ≡ WORDS → p < WORDS → A → (d ≡ e) × (p < e.words) × A
may_step {p = p} view_is of other size small play = (
  ap (λ (k : Known). k.domain) view_is ∙ (of ∙ sym other),
  subst (λ (n : ℕ). p < n) (sym size) small,
  play,
)

-- one item more, which may have another name than the seat's
pub known_by : {h : ℕ} {d e : TableId} {m n : Sat} {k : Known} {x y : Item} → e ≡ d → n ≡ seat_with m x → x ≡ y
    → known d m.0 h ≡ k → known e n.0 h ≡ added k y
known_by {h = h} {d = d} {e = e} {m = m} {n = n} {y = y} same is names view_is =
    let now : known e n.0 h ≡ known d (pushed m.0 (y ∷ [])) h =
    λ i. known (same i) ((is ∙ ap (seat_with m) names) i).0 h in
    let more : known d (pushed m.0 (y ∷ [])) h ≡ added (known d m.0 h) y = λ i. record {
      domain = d;
      view = pushed m.0 (y ∷ []);
      book = book_append first_book m.0.items (y ∷ []) i;
      at = h;
    } in
    now ∙ (more ∙ ap (λ (j : Known). added j y) view_is)

-- what the table tells of the task as it was, of a thing that has another name there
pub known_tells : {A : Type 0} {d : TableId} {v : Journal} {h : ℕ} {k : Known} {x y : A} (P : Known → A → Type 0)
    → x ≡ y → known d v h ≡ k → P (known d v h) x → P k y
known_tells {d = d} {v = v} {h = h} {y = y} P names view_is told =
    subst (λ (k : Known). P k y) view_is (subst (P (known d v h)) names told)

-- the index of an own entry, by its word or its flag word
pub own_index_at : {d : TableId} {v : Journal} {h : ℕ} {k : Known} (first at number slot : ℕ)
    → at ≡ first + (SLOTS * number + slot) → v.number ≡ number → known d v h ≡ k → at - first ≡ index k.view.number slot
own_index_at first at number slot is mine view_is = index_at first at number slot is
    ∙ ap (λ (u : ℕ). index u slot) (sym mine ∙ ap (λ (k : Known). k.view.number) view_is)

-- where the word of an end of a pipe stands, and the end that the table names by it
pub record EndSpot (k at : ℕ) : Type 0 where
  pub few : k < CLAIMS
  pub small : at < WORDS
  pub is : at ≡ position_of (place.Var k)
  pub names : var_end at ≡ k

pub end_spot : (pipe end at : ℕ) → pipe < PIPES → end < PIPE_ENDS
    → at ≡ position_of (cond_at (FIRST_VARIABLE + (PIPE_ENDS * pipe + end))) → EndSpot (PIPE_ENDS * pipe + end) at
end_spot pipe end at one two is =
    let few : PIPE_ENDS * pipe + end < CLAIMS = omega (arith, one, two) in
    let there = is ∙ ap position_of (var_at (PIPE_ENDS * pipe + end) (omega (arith, few))) in
    record { few = few; small = omega (arith, few, there); is = there; names = omega (arith, few, there) }

-- of a step whose task only looked before it
pub added_from : {old mid new : Known} (x : Item) → new ≡ added mid x → mid ≡ old → new ≡ added old x
added_from x is same = is ∙ ap (λ (k : Known). added k x) same

pub known_same : {h : ℕ} {d e : TableId} {m n : Sat} {k : Known} → e ≡ d → n ≡ m → known d m.0 h ≡ k
    → known e n.0 h ≡ k
known_same {h = h} same is view_is = (λ i. known (same i) (is i).0 h) ∙ view_is

-- of a compare-exchange, whose step is named by the word that it expected
pub known_tried : {h : ℕ} {d e : TableId} {m n : Sat} {k : Known} (old found : ℕ) (x : ℕ → Item) → e ≡ d
    → n ≡ seat_tried m (x found) old found → known d m.0 h ≡ k
    → MatchBool (eqb found old) (known e n.0 h ≡ added k (x old)) (known e n.0 h ≡ k)
known_tried {h = h} {e = e} {m = m} {n = n} {k = k} old found x same is view_is = by_test (eqb found old) refl is
  where
    by_test : (b : Bool) → eqb found old ≡ b → n ≡ (cond b (pushed m.0 (x found ∷ [])) m.0, m.1)
        → MatchBool b (known e n.0 h ≡ added k (x old)) (known e n.0 h ≡ k)
    by_test true b q = known_by same q (ap x (eqb-true found old b)) view_is
    by_test false b q = known_same same q view_is

-- What stays of a task over a step on a task word of which its book learns a state at most.
pub record StaysBut (state : ℕ → ℕ) (old new : Known) : Type 0 where
  pub settled : StaysSettled old new
  pub owing : StaysOwing old new
  pub carries : Carries (moving state (λ h. h) (λ h. h)) old new

pub stays_but : (state : ℕ → ℕ) (old new : Known) (e : Step) → new ≡ added old (item.Made e) → stays_settled e ≡ true
    → (learn_step e old.book).awake ≡ old.book.awake → (learn_step e old.book).state ≡ state old.book.state
    → (learn_step e old.book).head ≡ old.book.head → (learn_step e old.book).ticket ≡ old.book.ticket
    → (after e (told_of old)).hold.head ≡ (told_of old).hold.head → (after e (told_of old)).mark ≡ (told_of old).mark
    → begins_none e ≡ true → (after e (told_of old)).bits.stored ≡ (told_of old).bits.stored
    → ((c : Watch) → (after e (told_of old)).bits.keeps c ≡ (told_of old).bits.keeps c) → StaysBut state old new
stays_but state old new e is kind awake now head ticket hold mark quiet stored keeps = record {
  settled = settled_after old new e kind is;
  owing = owing;
  carries = step_carried state old new e is (ap (λ (k : Known). k.book.awake) is ∙ awake)
      (ap (λ (k : Known). k.book.state) is ∙ now) (ap (λ (k : Known). k.book.head) is ∙ head) ticket hold mark quiet
      stored keeps owing;
}
  where
    owing : StaysOwing old new
    owing = owes_after old new e kind is
