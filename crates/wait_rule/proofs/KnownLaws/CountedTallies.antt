-- How the amounts in the lists of a journal are counted.
use Rattle.std.proofs.Common.{◌∙◌, ap, sym, refl, subst, arith, append_assoc, eq-eqb, ne_eqb}
use Rattle.std.specs.Prelude.{ℕ, zero, suc, ◌≡◌, ◌+◌, ◌&&◌, Bool, Option, true, false, cond, eqb, List, [], ◌∷◌, ◌++◌}
use Rattle.wait_model.specs.{declared.layout.TheConstants.TASKS, declared.calls.Event.Event}
use Rattle.wait_model.specs.{declared.points.Given.Given, declared.steps.Step.Step, declared.points.Next.Next}
use Rattle.wait_model.specs.Totals.{sum_below}
use Rattle.wait_model.specs.declared.calls.Event.TheVariants as event
use Rattle.wait_model.specs.declared.points.Next.TheVariants as next
use Rattle.wait_model.specs.declared.steps.Step.TheVariants as step
use Rattle.wait_model.proofs.HistoryLaws.StepTotals.{sum_same, sum_zero, sum_grown}
use Rattle.wait_rule.specs.{declared.journal.Item.Item, declared.journal.Journal.Journal, declared.journal.Part.Part}
use Rattle.wait_rule.specs.{Items.IsNoAdd, Items.AddsNone, Known.Known, Says.added, Tallies.amount_of}
use Rattle.wait_rule.specs.Tallies.{amounts_of}
use Rattle.wait_rule.specs.Journals.{owns, has_of, items_in, part_in, pushed, joined_with}
use Rattle.wait_rule.specs.Transitions.{IsLook, AreLooks, OnlyLooks, Program, StepOrLook, by_step, by_look, Transition}
use Rattle.wait_rule.specs.Transitions.{with_lock, after_step_or_look, after_transition, IsScanOf, AreScansOf}
use Rattle.wait_rule.specs.Transitions.{IsMadeFor, Goes}
use Rattle.wait_rule.specs.TallyLaws.{tally_in, AddsCount, JoinsCount, NewcomersCountNone, ForksCountNone}
use Rattle.wait_rule.specs.TallyLaws.{ProgramsAddNone, ProgramsKeepNumbers}
use Rattle.wait_rule.specs.declared.journal.Item.TheVariants as item
use Rattle.wait_rule.proofs.KnownLaws.TallySteps.{amounts_append}

-- sums of sums
sum_both : (n : ℕ) (f g h : ℕ → ℕ) → ((i : ℕ) → h i ≡ f i + g i) → sum_below n h ≡ sum_below n f + sum_below n g
unfolding sum_below
sum_both zero f g h is = refl
sum_both (suc n) f g h is =
    let rest = sum_both n f g h is in
    let last = is n in
    omega (arith, rest, last)

add_none : (m n : ℕ) → n ≡ 0 → m + n ≡ m
add_none m n none = omega arith

-- more items of the own list
pub pushed_same : (v : Journal) (p : ℕ) (xs : List Item) → amounts_of p xs ≡ 0
    → tally_in p (pushed v xs) ≡ tally_in p v
pushed_same v p xs none = sum_same TASKS (λ t. amounts_of p (has_of t v)) (λ t. amounts_of p (has_of t (pushed v xs)))
    (λ t few. by t (v.lives && eqb v.number t))
  where
    by : (t : ℕ) (b : Bool) → amounts_of p (cond b (v.items ++ xs) [] ++ items_in t v.joined)
        ≡ amounts_of p (cond b v.items [] ++ items_in t v.joined)
    by t true = amounts_append p (v.items ++ xs) (items_in t v.joined)
        ∙ (ap (λ (n : ℕ). n + amounts_of p (items_in t v.joined)) (amounts_append p v.items xs
        ∙ add_none (amounts_of p v.items) (amounts_of p xs) none)
        ∙ sym (amounts_append p v.items (items_in t v.joined)))
    by t false = refl

own_more : (v : Journal) (p t : ℕ) (xs : List Item) → (v.lives && eqb v.number t) ≡ true
    → amounts_of p (has_of t (pushed v xs)) ≡ amounts_of p (has_of t v) + amounts_of p xs
own_more v p t xs own = subst (λ (b : Bool). amounts_of p (cond b (v.items ++ xs) [] ++ items_in t v.joined)
    ≡ amounts_of p (cond b v.items [] ++ items_in t v.joined) + amounts_of p xs) (sym own) (
    let all = amounts_append p (v.items ++ xs) (items_in t v.joined) in
    let front = amounts_append p v.items xs in
    let was = amounts_append p v.items (items_in t v.joined) in
    omega arith)

other_same : (v : Journal) (p t : ℕ) (xs : List Item) → (v.lives && eqb v.number t) ≡ false
    → amounts_of p (has_of t (pushed v xs)) ≡ amounts_of p (has_of t v)
other_same v p t xs other = subst (λ (b : Bool). amounts_of p (cond b (v.items ++ xs) [] ++ items_in t v.joined)
    ≡ amounts_of p (cond b v.items [] ++ items_in t v.joined)) (sym other) refl

pub adds_count : AddsCount
adds_count v p xs lives few = sum_grown TASKS v.number (amounts_of p xs) (λ t. amounts_of p (has_of t v))
    (λ t. amounts_of p (has_of t (pushed v xs))) few
    (own_more v p v.number xs (ap (λ (b : Bool). b && eqb v.number v.number) lives ∙ eq-eqb v.number v.number refl))
    (λ t ne. other_same v p t xs (ap (λ (b : Bool). b && eqb v.number t) lives
    ∙ ne_eqb v.number t (λ e. ne (sym e))))

-- joined lists
items_append : (t : ℕ) (ps qs : List Part) → items_in t (ps ++ qs) ≡ items_in t ps ++ items_in t qs
items_append t [] qs = refl
items_append t (p ∷ ps) qs = ap (λ (xs : List Item). cond (eqb p.number t) p.items [] ++ xs) (items_append t ps qs)
    ∙ sym (append_assoc (cond (eqb p.number t) p.items []) (items_in t ps) (items_in t qs))

joined_has : (v w : Journal) (t : ℕ) → w.lives ≡ true → has_of t (joined_with v w) ≡ has_of t v ++ has_of t w
joined_has v w t lives = ap (λ (xs : List Item). cond (v.lives && eqb v.number t) v.items [] ++ xs)
    (items_append t v.joined (part_in w ∷ w.joined)
    ∙ ap (λ (b : Bool). items_in t v.joined ++ (cond (b && eqb w.number t) w.items [] ++ items_in t w.joined))
    (sym lives))
    ∙ sym (append_assoc (cond (v.lives && eqb v.number t) v.items []) (items_in t v.joined) (has_of t w))

pub joins_count : JoinsCount
joins_count v w p lives = sum_both TASKS (λ t. amounts_of p (has_of t v)) (λ t. amounts_of p (has_of t w))
    (λ t. amounts_of p (has_of t (joined_with v w)))
    (λ t. ap (amounts_of p) (joined_has v w t lives) ∙ amounts_append p (has_of t v) (has_of t w))

pub newcomers_count_none : NewcomersCountNone
newcomers_count_none number next spare p = sum_zero TASKS
    (λ t. amounts_of p (cond (true && eqb number t) [] [] ++ [])) (λ t few. by (true && eqb number t))
  where
    by : (b : Bool) → amounts_of p (cond b [] [] ++ []) ≡ 0
    by true = refl
    by false = refl

pub forks_count_none : ForksCountNone
forks_count_none v share p = refl

-- items that add nothing
amount_none : (p : ℕ) (x : Item) → IsNoAdd x → amount_of p x ≡ 0
amount_none p (item.Tally q n w) add = absurd add
amount_none p x add = refl

pub amounts_none : (p : ℕ) (xs : List Item) → AddsNone xs → amounts_of p xs ≡ 0
amounts_none p [] adds = refl
amounts_none p (x ∷ xs) adds =
    let one = amount_none p x adds.0 in
    let rest = amounts_none p xs adds.1 in
    omega (arith, one, rest)

look_adds : (x : Item) → IsLook x → IsNoAdd x
look_adds (item.Tally p n w) look = absurd look
look_adds (item.Piped k a w) look = absurd look
look_adds x look = tt

pub looks_add : (xs : List Item) → AreLooks xs → AddsNone xs
looks_add [] looks = tt
looks_add (x ∷ xs) looks = (look_adds x looks.0, looks_add xs looks.1)

scan_adds : (h : ℕ) (x : Item) → IsScanOf h x → IsNoAdd x
scan_adds h (item.Tally p n w) scan = absurd scan
scan_adds h (item.Piped k a w) scan = absurd scan
scan_adds h x scan = tt

pub scans_add : (h : ℕ) (xs : List Item) → AreScansOf h xs → AddsNone xs
scans_add h [] scans = tt
scans_add h (x ∷ xs) scans = (scan_adds h x scans.0, scans_add h xs scans.1)

-- A reading of journals that stays where items are added that add to no tally stays over transitions.
module _ (F : Journal → ℕ) (stays : (v : Journal) (xs : List Item) → AddsNone xs → F (pushed v xs) ≡ F v) where
  looks_same : (old new : Known) → OnlyLooks old new → F new.view ≡ F old.view
  looks_same old new l = ap (λ (k : Known). F k.view) l.is ∙ stays old.view l.items (looks_add l.items l.looks)

  lock_same : (e : Step) (k : Known) → F (with_lock e k).view ≡ F k.view
  lock_same (step.Lock h aim w) k = refl
  lock_same e k = refl

  made_same : (k : Known) (own : Option ℕ) (g : Given) (ev : Event) (did : StepOrLook) → IsMadeFor k own g ev did
      → F (after_step_or_look did k).view ≡ F k.view
  made_same k own g ev (by_step e) made = lock_same e (added k (item.Made e))
      ∙ stays k.view (item.Made e ∷ []) (tt, tt)
  made_same k own g (event.Active h hit) (by_look xs) made = stays k.view xs (scans_add h xs made.0)
  made_same k own g ev (by_look xs) made = absurd made

  goes_same : (f : Program) (old : Known) (n : Next) (ts : List Transition) (new : Known) (m : Next)
      → Goes f old n ts new m → F new.view ≡ F old.view
  goes_same f old n [] new m goes = looks_same old new goes.0
  goes_same f old (next.Ends a) (t ∷ ts) new m goes = absurd goes
  goes_same f old (next.Go q) (t ∷ ts) new m goes =
      goes_same f (after_transition t) (f.plan q t.seen).next ts new m goes.1
      ∙ (made_same t.knew f.own (f.given q) (f.plan q t.seen).event t.did goes.0.is
      ∙ looks_same old t.knew goes.0.looks)

pub programs_add_none : ProgramsAddNone
programs_add_none f old n ts new m p goes =
    goes_same (tally_in p) (λ v xs adds. pushed_same v p xs (amounts_none p xs adds)) f old n ts new m goes

pub programs_keep_numbers : ProgramsKeepNumbers
programs_keep_numbers f old n ts new m t goes = goes_same (owns t) (λ v xs adds. refl) f old n ts new m goes
