use Rattle.std.proofs.Common.{◌∙◌, Bool, ap, sym, refl, subst}
use Rattle.std.specs.Prelude.{ℕ}
use Rattle.wait_model.specs.declared.steps.Step.TheVariants as step
use Rattle.wait_model.specs.Views.{View as Told}
use Rattle.wait_rule.specs.declared.journal.Item.TheVariants as item
use Rattle.wait_rule.specs.{Items.after_try, Known.Known, PageCalls.MayTryFor, Queues.index, Says.added, Says.told_of}
use Rattle.wq_head.specs.{Roused.RousesNone, Walking.HandsPage, Walking.HasStopped}
use Rattle.wq_head.proofs.HandedEntries.{page_called}
use Rattle.wq_head.proofs.PageEntries.{clear_is, look_stops, looked, looked_next, may_try, told_tried, try_stops}
use Rattle.wq_head.proofs.RousedTasks.{none_added, roused_none, roused_then, then_roused}
use Rattle.wq_head.proofs.functions.page_wake.Goals as goal

-- the load of the word
pub returns-then-misses-clause-halts : goal.returns-then-misses-clause-halts
returns-then-misses-clause-halts c w n =
    let k = c.args.task.now in
    subst (λ (j : Known). HasStopped c.args.aim k j w) (sym c.cond_load-value.ensures.step)
    (look_stops c.args.aim k c.args.visit c.requires.full w n c.requires.kind c.cond_load-value.result
    (sym c.misses.ensures ∙ c.if-misses.true))

pub returns-then-misses-clause-rouses : goal.returns-then-misses-clause-rouses
returns-then-misses-clause-rouses c =
    let k = c.args.task.now in
    let r = c.args.rousing.now in
    roused_then k k c.cond_load-value.new.task r r (roused_none k r)
    (subst (RousesNone k) (sym c.cond_load-value.ensures.step)
    (none_added k (item.Made (step.Load c.args.aim.watch c.cond_load-value.result)) refl))
    (ap (λ (j : Known). j.domain) c.cond_load-value.ensures.step)

-- the test-and-set for the entry's task
pub bit_set_for-found-requires-clause-may : goal.bit_set_for-found-requires-clause-may
bit_set_for-found-requires-clause-may c =
    let a = c.args.aim in
    let k = c.args.task.now in
    let v = c.args.visit in
    let full = c.requires.full in
    let w = c.requires.next.0 in
    let n = c.requires.next.1 in
    let is = c.requires.kind in
    let r = c.cond_load-value.result in
    let at_v = ap (λ (o : ℕ). index o c.slot.result) c.owner.ensures.owner ∙ c.slot.ensures.slot in
    subst (λ (j : Known). MayTryFor j c.owner.result c.slot.result c.word.result) (sym c.cond_load-value.ensures.step)
    (may_try a (looked a k v full w n is r) v w (looked_next a k v full w n is r) is c.owner.result c.slot.result
    c.word.result at_v c.word.ensures)

pub returns-then-misses-2-clause-halts : goal.returns-then-misses-2-clause-halts
returns-then-misses-2-clause-halts c w n =
    let a = c.args.aim in
    let k = c.args.task.now in
    let v = c.args.visit in
    let full = c.requires.full in
    let is = c.requires.kind in
    let r = c.cond_load-value.result in
    let t = c.bit_set_for-found.result in
    let at_v = ap (λ (o : ℕ). index o c.slot.result) c.owner.ensures.owner ∙ c.slot.ensures.slot in
    let load = c.cond_load-value.ensures.step in
    let word = c.word.ensures in
    let made = c.bit_set_for-found.ensures.step
    ∙ (λ i. added (load i) (item.Made (step.TasFor (at_v i) (word i) t))) in
    subst (λ (j : Known). HasStopped a k j w) (sym made)
    (try_stops a k v full w n is r (sym c.misses.ensures ∙ c.if-misses.false) t
    (sym c.misses-2.ensures ∙ c.if-misses-2.true))

pub returns-then-misses-2-clause-rouses : goal.returns-then-misses-2-clause-rouses
returns-then-misses-2-clause-rouses c =
    let k = c.args.task.now in
    let mid = c.cond_load-value.new.task in
    let r = c.args.rousing.now in
    let x = index c.owner.result c.slot.result in
    roused_then k k c.bit_set_for-found.new.task r r (roused_none k r)
    (subst (RousesNone mid) (sym c.bit_set_for-found.ensures.step)
    (none_added mid (item.Made (step.TasFor x c.word.result c.bit_set_for-found.result)) refl)
    ∙ subst (RousesNone k) (sym c.cond_load-value.ensures.step)
    (none_added k (item.Made (step.Load c.args.aim.watch c.cond_load-value.result)) refl))
    (ap (λ (j : Known). j.domain) c.bit_set_for-found.ensures.step
    ∙ ap (λ (j : Known). j.domain) c.cond_load-value.ensures.step)

-- the page was free
pub hand_page-requires-clause-shows : goal.hand_page-requires-clause-shows
hand_page-requires-clause-shows c =
    let a = c.args.aim in
    let k = c.args.task.now in
    let v = c.args.visit in
    let full = c.requires.full in
    let w = c.requires.next.0 in
    let n = c.requires.next.1 in
    let is = c.requires.kind in
    let r = c.cond_load-value.result in
    let t = c.bit_set_for-found.result in
    let at_v = ap (λ (o : ℕ). index o c.slot.result) c.owner.ensures.owner ∙ c.slot.ensures.slot in
    let load = c.cond_load-value.ensures.step in
    let word = c.word.ensures in
    let made = c.bit_set_for-found.ensures.step
    ∙ (λ i. added (load i) (item.Made (step.TasFor (at_v i) (word i) t))) in
    let next = looked_next a k v full w n is r in
    ap (λ (j : Known). (told_of j).hold.book v.member) made
    ∙ (ap (λ (u : Told). u.hold.book v.member) (told_tried a (looked a k v full w n is r) v full w next is t)
    ∙ next.shows)

pub hand_page-requires-clause-taken : goal.hand_page-requires-clause-taken
hand_page-requires-clause-taken c =
    let a = c.args.aim in
    let k = c.args.task.now in
    let v = c.args.visit in
    let full = c.requires.full in
    let w = c.requires.next.0 in
    let n = c.requires.next.1 in
    let is = c.requires.kind in
    let r = c.cond_load-value.result in
    let t = c.bit_set_for-found.result in
    let at_v = ap (λ (o : ℕ). index o c.slot.result) c.owner.ensures.owner ∙ c.slot.ensures.slot in
    let load = c.cond_load-value.ensures.step in
    let word = c.word.ensures in
    let made = c.bit_set_for-found.ensures.step
    ∙ (λ i. added (load i) (item.Made (step.TasFor (at_v i) (word i) t))) in
    let mid = looked a k v full w n is r in
    ap (λ (j : Known). j.book.differs) made
    ∙ ap (λ (b : Bool). after_try v.member b mid.book.differs)
    (clear_is a mid v w (looked_next a k v full w n is r) is t (sym c.misses-2.ensures ∙ c.if-misses-2.false))

pub returns-in-Ok-clause-called : goal.returns-in-Ok-clause-called
returns-in-Ok-clause-called c w n =
    let a = c.args.aim in
    let k = c.args.task.now in
    let v = c.args.visit in
    let full = c.requires.full in
    let is = c.requires.kind in
    let r = c.cond_load-value.result in
    let t = c.bit_set_for-found.result in
    let at_v = ap (λ (o : ℕ). index o c.slot.result) c.owner.ensures.owner ∙ c.slot.ensures.slot in
    let load = c.cond_load-value.ensures.step in
    let word = c.word.ensures in
    let made = c.bit_set_for-found.ensures.step
    ∙ (λ i. added (load i) (item.Made (step.TasFor (at_v i) (word i) t))) in
    page_called a k v full w n is r t (sym c.misses.ensures ∙ c.if-misses.false)
    (sym c.misses-2.ensures ∙ c.if-misses-2.false) c.hand_page.new.task
    (subst (λ (j : Known). HandsPage j c.hand_page.new.task v) made c.in-Ok.ensures.handed)

pub returns-in-Ok-clause-rouses : goal.returns-in-Ok-clause-rouses
returns-in-Ok-clause-rouses c =
    let k = c.args.task.now in
    let mid = c.cond_load-value.new.task in
    let x = index c.owner.result c.slot.result in
    then_roused k c.bit_set_for-found.new.task c.hand_page.new.task c.args.rousing.now c.hand_page.new.rousing
    (subst (RousesNone mid) (sym c.bit_set_for-found.ensures.step)
    (none_added mid (item.Made (step.TasFor x c.word.result c.bit_set_for-found.result)) refl)
    ∙ subst (RousesNone k) (sym c.cond_load-value.ensures.step)
    (none_added k (item.Made (step.Load c.args.aim.watch c.cond_load-value.result)) refl))
    (ap (λ (j : Known). j.domain) c.bit_set_for-found.ensures.step
    ∙ ap (λ (j : Known). j.domain) c.cond_load-value.ensures.step)
    c.hand_page.ensures.rouses

pub returns-in-Err-clause-rouses : goal.returns-in-Err-clause-rouses
returns-in-Err-clause-rouses c =
    let k = c.args.task.now in
    let mid = c.cond_load-value.new.task in
    let x = index c.owner.result c.slot.result in
    then_roused k c.bit_set_for-found.new.task c.hand_page.new.task c.args.rousing.now c.hand_page.new.rousing
    (subst (RousesNone mid) (sym c.bit_set_for-found.ensures.step)
    (none_added mid (item.Made (step.TasFor x c.word.result c.bit_set_for-found.result)) refl)
    ∙ subst (RousesNone k) (sym c.cond_load-value.ensures.step)
    (none_added k (item.Made (step.Load c.args.aim.watch c.cond_load-value.result)) refl))
    (ap (λ (j : Known). j.domain) c.bit_set_for-found.ensures.step
    ∙ ap (λ (j : Known). j.domain) c.cond_load-value.ensures.step)
    c.hand_page.ensures.rouses
