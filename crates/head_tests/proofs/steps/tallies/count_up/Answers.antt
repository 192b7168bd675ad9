use Rattle.std.proofs.Common.{◌∙◌, ap, sym, refl, subst, arith, le-leb, lt-ltb}
use Rattle.std.specs.Prelude.{ℕ, zero, suc, ◌≡◌, ◌+◌, ◌-◌, ◌%◌, ◌^◌, ◌<◌, ◌==◌, ◌&&◌, if◌then◌else◌}
use Rattle.std.specs.Prelude.{Bool, true, ltb, [], ◌∷◌}
use Rattle.wait_model.specs.{declared.layout.TheConstants.TASKS, Words.flag}
use Rattle.wait_model.specs.declared.steps.Step.TheVariants as step
use Rattle.wait_model.specs.declared.watches.Watch.TheVariants as watch
use Rattle.wait_rule.specs.declared.journal.Item.TheVariants as item
use Rattle.wait_rule.specs.{Journals.fresh, Known.Known, TableLaws.HasAll, TallyLaws.tally_in}
use Rattle.wait_rule.specs.Says.{FindsTally, added, newcomer}
use Rattle.wait_rule.proofs.{KnownLaws.FoundTallies.all_sum_tallies, KnownLaws.TicketSteps.to_test}
use Rattle.wait_rule.proofs.KnownLaws.CountedTallies.{adds_count, pushed_same, newcomers_count_none}
use Rattle.head_tests.proofs.steps.tallies.count_up.Goals as goal

has_all : HasAll (fresh 0 1 (TASKS - 1))
has_all zero few = omega arith
has_all (suc t) few =
    let high = ap flag (ap (λ (b : Bool). b && ltb (suc t) (1 + (TASKS - 1))) (le-leb 1 (suc t) (omega arith))
    ∙ lt-ltb (suc t) (1 + (TASKS - 1)) few) in
    omega (arith, high)

-- two amounts of one page
sum_of : (p one two : ℕ) (b : Bool) → b ≡ true
    → (0 + ((if b then one else 0) + 0)) + ((if b then two else 0) + 0) ≡ one + two
sum_of p one two b is = subst (λ (b : Bool). (0 + ((if b then one else 0) + 0)) + ((if b then two else 0) + 0)
    ≡ one + two) (sym is) (omega arith)

counted : (k : Known) (p one two x y r : ℕ) → k.view.lives ≡ true → k.view.number < TASKS → tally_in p k.view ≡ 0
    → HasAll k.view → FindsTally (added (added k (item.Tally p one x)) (item.Tally p two y)).view p r
    → r ≡ (one + two) % 2 ^ 64
counted k p one two x y r lives few none all finds =
    all_sum_tallies (added (added k (item.Tally p one x)) (item.Tally p two y)).view p r finds all
    ∙ ap (λ (n : ℕ). n % 2 ^ 64) (adds_count (added k (item.Tally p one x)).view p (item.Tally p two y ∷ []) lives few
    ∙ (ap (λ (n : ℕ). n + ((if p == p then two else 0) + 0))
    (adds_count k.view p (item.Tally p one x ∷ []) lives few
    ∙ ap (λ (n : ℕ). n + ((if p == p then one else 0) + 0)) none) ∙ sum_of p one two (p == p) (to_test p)))

pub returns : goal.returns
returns c =
    let p = c.args.page in
    let old : Known = newcomer c.args.domain.now 0 1 (TASKS - 1) in
    let set = item.Made (step.Consume (watch.Bit p 0) 1 c.bit_set.result) in
    let first : c.bit_set.new.task ≡ added old set = c.bit_set.ensures.step
    ∙ ap (λ (k : Known). added k set) c.requires.new in
    let one = item.Tally p c.args.one c.tally_add.result in
    let two = item.Tally p c.args.two c.tally_add-2.result in
    let last : c.tally_add-2.new.task ≡ added (added (added old set) one) two = c.tally_add-2.ensures.step
    ∙ ap (λ (k : Known). added k two) (c.tally_add.ensures.step ∙ ap (λ (k : Known). added k one) first) in
    counted (added old set) p c.args.one c.args.two c.tally_add.result c.tally_add-2.result c.tally_add-3.result
    refl (omega arith) (pushed_same old.view p (set ∷ []) refl ∙ newcomers_count_none 0 1 (TASKS - 1) p) has_all
    (subst (λ (k : Known). FindsTally k.view p c.tally_add-3.result) last c.tally_add-3.ensures.finds)
