use Rattle.std.proofs.Common.{refl, ap, subst, arith, ◌∙◌}
use Rattle.std.specs.Prelude.{slice_index}
use Rattle.wait_model.specs.{declared.calls.Event.Event, Locations.position_of, Locations.location_of, Watches.page}
use Rattle.wait_model.specs.{Reached.Allows, Reached.Joins, Points.given_at}
use Rattle.wait_core.proofs.BitWords.{set_leaves, clear_leaves}
use Rattle.wait_core.proofs.changes.left_by.Goals as goal

pub returns-in-Tas : goal.returns-in-Tas
returns-in-Tas c = λ s n me mine was shown sound a j marked.
    let may = subst (Allows s me) c.in-Tas.is a in
    rw c.in-Tas.is (set_leaves c.args.words.now s.table shown c.in-Tas.word c.in-Tas.bit _ may.0 may.1
    (was ∙ ap (λ (e : Event). slice_index c.args.words.now (position_of (location_of me e))) c.in-Tas.is) _
    c.with_bit.ensures _ (subst (Joins (given_at c.args.call c.args.point)) c.in-Tas.is j))

pub returns-in-Clear : goal.returns-in-Clear
returns-in-Clear c = λ s n me mine was shown sound a j marked.
    let may = subst (Allows s me) c.in-Clear.is a in
    rw c.in-Clear.is (clear_leaves c.args.words.now s.table shown c.in-Clear.word c.in-Clear.bit _ may.0 may.1
    (was ∙ ap (λ (e : Event). slice_index c.args.words.now (position_of (location_of me e))) c.in-Clear.is) _
    c.without_bit.ensures _ (subst (Joins (given_at c.args.call c.args.point)) c.in-Clear.is j))

pub returns-in-TasFor : goal.returns-in-TasFor
returns-in-TasFor c = λ s n me mine was shown sound a j marked.
    let may = subst (Allows s me) c.in-TasFor.is a in
    rw c.in-TasFor.is (set_leaves c.args.words.now s.table shown c.in-TasFor.word 0 _ may.0 (omega arith)
    (was ∙ ap (λ (e : Event). slice_index c.args.words.now (position_of (location_of me e))) c.in-TasFor.is) _
    c.with_bit-in-TasFor.ensures (page c.in-TasFor.word) refl)
