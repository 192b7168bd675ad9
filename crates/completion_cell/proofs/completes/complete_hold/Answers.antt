use Rattle.std.proofs.Common.{◌∙◌, ◌==◌, ◌+◌, ◌≡◌, ◌≤◌, Bool, true, false, ℕ, ap, refl, subst, sym}
use Rattle.std.specs.Prelude.{MatchBool}
use Rattle.wait_model.specs.declared.layout.TheConstants.{FIRST_SIMPLE_HEAD}
use Rattle.wait_rule.specs.{Counts.StoresCount, Known.Known}
use Rattle.wq_head.specs.Roused.{RousesNone}
use Rattle.wq_head.proofs.RousedTasks.{none_unlocked, rousing_from, rousing_on}
use Rattle.completion_cell.proofs.CellHolds.{one_at, one_counted, one_over, one_owes, one_simple}
use Rattle.completion_cell.proofs.CellRousing.{none_counted, none_raised}
use Rattle.completion_cell.proofs.Completing.{complete_rises, done_simple}
use Rattle.completion_cell.proofs.completes.complete_hold.Goals as goal

-- a count that is raised, or that stays
raised_domain : (d n : ℕ) (old new : Known) (raised : Bool) → MatchBool raised (StoresCount old new d n) (new ≡ old)
    → new.domain ≡ old.domain
raised_domain d n old new true s = s.publishes.domain
raised_domain d n old new false s = ap (λ (k : Known). k.domain) s

raised_awake : (d n : ℕ) (old new : Known) (raised : Bool) → MatchBool raised (StoresCount old new d n) (new ≡ old)
    → new.book.awake ≡ old.book.awake
raised_awake d n old new true s = s.publishes.awake
raised_awake d n old new false s = ap (λ (k : Known). k.book.awake) s

pub give_back-requires-clause-of : goal.give_back-requires-clause-of
give_back-requires-clause-of c =
    let l = c.done_load-count in
    let r = c.raise_one in
    c.select_tries.ensures.carries.domain
    ∙ (raised_domain c.args.cell (l.result + 1) l.new.task r.new.task r.result r.ensures.stores
    ∙ (l.ensures.carries.domain ∙ c.requires.of))

pub give_back-requires-clause-up : goal.give_back-requires-clause-up
give_back-requires-clause-up c =
    let l = c.done_load-count in
    let r = c.raise_one in
    c.select_tries.ensures.carries.awake
    ∙ (raised_awake c.args.cell (l.result + 1) l.new.task r.new.task r.result r.ensures.stores
    ∙ (l.ensures.carries.awake ∙ c.requires.holds.1.took.up))

pub returns-clause-of : goal.returns-clause-of
returns-clause-of c =
    let l = c.done_load-count in
    let r = c.raise_one in
    c.give_back.ensures.carries.domain ∙ (c.select_tries.ensures.carries.domain
    ∙ (raised_domain c.args.cell (l.result + 1) l.new.task r.new.task r.result r.ensures.stores
    ∙ (l.ensures.carries.domain ∙ c.requires.of)))

pub raise_one-requires-clause-counted : goal.raise_one-requires-clause-counted
raise_one-requires-clause-counted c =
    let l = c.done_load-count in
    let k = c.args.task.now in
    one_counted c.args.cell l.result 0 c.requires.holds.0 k l.new.task k k k c.requires.holds.1 l.ensures.step
    l.ensures.finds l.ensures.carries

pub select_tries-requires-clause-simple : goal.select_tries-requires-clause-simple
select_tries-requires-clause-simple c = subst (λ (n : ℕ). FIRST_SIMPLE_HEAD ≤ n) (sym c.head_of.ensures)
    (done_simple c.args.cell)

pub give_back-requires-clause-rise : goal.give_back-requires-clause-rise
give_back-requires-clause-rise c =
    let l = c.done_load-count in
    let k = c.args.task.now in
    let r = c.raise_one in
    let s = c.select_tries in
    complete_rises s.new.task c.in_ok-selected.selected
    (λ some. c.in_ok-selected.ensures.rises some (one_simple c.args.cell l.result 0 c.requires.holds.0 k l.new.task
    r.new.task k k c.requires.holds.1 l.ensures.step l.ensures.finds l.ensures.carries r.result r.ensures.raises
    r.ensures.stores)) (c.in_ok-selected.selected == 1) refl

pub give_back-requires-clause-permits : goal.give_back-requires-clause-permits
give_back-requires-clause-permits c =
    let l = c.done_load-count in
    let k = c.args.task.now in
    let r = c.raise_one in
    let s = c.select_tries in
    one_owes c.args.cell l.result c.in_ok-selected.selected c.requires.holds.0 k l.new.task r.new.task s.new.task k
    c.requires.holds.1 l.ensures.step l.ensures.finds l.ensures.carries r.result r.ensures.raises r.ensures.stores
    c.in_ok-selected.ensures.selected s.ensures.hold s.ensures.keeps

pub returns-clause-over : goal.returns-clause-over
returns-clause-over c start i =
    let l = c.done_load-count in
    let k = c.args.task.now in
    let r = c.raise_one in
    let s = c.select_tries in
    one_over c.args.cell l.result c.in_ok-selected.selected start k l.new.task r.new.task s.new.task c.give_back.new.task
    i l.ensures.step l.ensures.finds l.ensures.carries r.result r.ensures.raises r.ensures.stores
    c.in_ok-selected.ensures.selected s.ensures.hold s.ensures.keeps c.give_back.ensures.given

-- the lock that it gave back
pub returns-clause-passes : goal.returns-clause-passes
returns-clause-passes c =
    let l = c.done_load-count in
    let k = c.args.task.now in
    let r = c.raise_one in
    let at_r = one_at c.args.cell l.result 0 c.requires.holds.0 k l.new.task r.new.task k k c.requires.holds.1
    l.ensures.step l.ensures.finds l.ensures.carries r.result r.ensures.raises r.ensures.stores in
    c.put.ensures ∙ (c.give_back.ensures.head ∙ (c.select_tries.ensures.hold.at ∙ at_r))

-- whom it is to rouse
pub returns-clause-rouses : goal.returns-clause-rouses
returns-clause-rouses c =
    let l = c.done_load-count in
    let k = c.args.task.now in
    let r = c.raise_one in
    let s = c.select_tries in
    rousing_on k s.new.task c.give_back.new.task s.new.rousing
    (subst (RousesNone s.new.task) (sym c.give_back.ensures.given)
    (none_unlocked s.new.task s.new.task.at (c.in_ok-selected.selected == 1)))
    (rousing_from k r.new.task s.new.task s.new.rousing
    (none_raised c.args.cell l.result l.new.task r.new.task r.result r.ensures.stores
    ∙ none_counted c.args.cell l.result k l.new.task l.ensures.step) s.ensures.rouses)

pub returns-in_err-selected-clause-rouses : goal.returns-in_err-selected-clause-rouses
returns-in_err-selected-clause-rouses c =
    let l = c.done_load-count in
    let k = c.args.task.now in
    let r = c.raise_one in
    let s = c.select_tries in
    rousing_from k r.new.task s.new.task s.new.rousing
    (none_raised c.args.cell l.result l.new.task r.new.task r.result r.ensures.stores
    ∙ none_counted c.args.cell l.result k l.new.task l.ensures.step) s.ensures.rouses
