-- Four texts, one after another.
use Rattle.std.proofs.Common.{ℕ, ◌++◌, codes, decimal, refl, subst}
use Rattle.std.proofs.lemmas.Result.{err_from_is_err_and}
use Rattle.edge_io.specs.Text.{WritesText}
use Rattle.edge_io.proofs.Prefix.{begun, broke_off, handed_on, sooner, went_on}
use Rattle.waitq_copy.specs.Copying.{copy_text, told_pieces, watch_lines}
use Rattle.waitq_alone.specs.Drill.{number_line}
use Rattle.waitq_copy.proofs.Telling.{first_line}
use Rattle.waitq_copy.proofs.told.write_told.Goals as goal

pub returns-in_err-write_number-clause-text : goal.returns-in_err-write_number-clause-text
returns-in_err-write_number-clause-text g c =
    let told = told_pieces (g.W.Watchers.entries c.args.watch.now) in
    let reader = c.args.reader.now in
    let p = err_from_is_err_and c.from_residual.result c.from_residual.ensures.1 in
    rw p.1 (sooner (g.O.Sink.held c.args.out.now) (g.O.Sink.held c.write_number.new.out)
    (codes "copied " ++ (decimal reader.read ++ codes " bytes\n"))
    (number_line (codes "moved ") c.args.moved ++ (watch_lines 0 told ++ number_line (codes "signals ") reader.sent)) _
    c.in_err-write_number.ensures.text (first_line reader.read c.args.moved reader.sent told))

pub returns-in_err-write_number-2-clause-text : goal.returns-in_err-write_number-2-clause-text
returns-in_err-write_number-2-clause-text g c =
    let told = told_pieces (g.W.Watchers.entries c.args.watch.now) in
    let reader = c.args.reader.now in
    let moved = number_line (codes "moved ") c.args.moved in
    let signals = watch_lines 0 told ++ number_line (codes "signals ") reader.sent in
    let one = went_on (g.O.Sink.held c.args.out.now) (g.O.Sink.held c.args.out.now)
    (g.O.Sink.held c.write_number.new.out) (codes "copied " ++ (decimal reader.read ++ codes " bytes\n"))
    (moved ++ signals) (copy_text reader.read c.args.moved told reader.sent)
    (copy_text reader.read c.args.moved told reader.sent) (begun _ _)
    (first_line reader.read c.args.moved reader.sent told) c.in_ok-write_number.ensures.text in
    let r = c.from_residual-in_err-write_number-2 in
    let p = err_from_is_err_and r.result r.ensures.1 in
    rw p.1 (broke_off _ (g.O.Sink.held c.write_number.new.out) _ moved signals _ _ one refl
    c.in_err-write_number-2.ensures.text)

pub returns-in_err-write_watchers-clause-text : goal.returns-in_err-write_watchers-clause-text
returns-in_err-write_watchers-clause-text g c =
    let told = told_pieces (g.W.Watchers.entries c.args.watch.now) in
    let reader = c.args.reader.now in
    let moved = number_line (codes "moved ") c.args.moved in
    let signals = number_line (codes "signals ") reader.sent in
    let one = went_on (g.O.Sink.held c.args.out.now) (g.O.Sink.held c.args.out.now)
    (g.O.Sink.held c.write_number.new.out) (codes "copied " ++ (decimal reader.read ++ codes " bytes\n"))
    (moved ++ (watch_lines 0 told ++ signals)) (copy_text reader.read c.args.moved told reader.sent)
    (copy_text reader.read c.args.moved told reader.sent) (begun _ _)
    (first_line reader.read c.args.moved reader.sent told) c.in_ok-write_number.ensures.text in
    let two = went_on _ (g.O.Sink.held c.write_number.new.out) (g.O.Sink.held c.write_number-2.new.out) moved
    (watch_lines 0 told ++ signals) _ _ one refl c.in_ok-write_number-2.ensures.text in
    let r = c.from_residual-in_err-write_watchers in
    let p = err_from_is_err_and r.result r.ensures.1 in
    rw p.1 (broke_off _ (g.O.Sink.held c.write_number-2.new.out) _ (watch_lines 0 told) signals _ _ two refl
    c.in_err-write_watchers.ensures.text)

pub returns-clause-text : goal.returns-clause-text
returns-clause-text g c =
    let told = told_pieces (g.W.Watchers.entries c.args.watch.now) in
    let reader = c.args.reader.now in
    let moved = number_line (codes "moved ") c.args.moved in
    let signals = number_line (codes "signals ") reader.sent in
    let one = went_on (g.O.Sink.held c.args.out.now) (g.O.Sink.held c.args.out.now)
    (g.O.Sink.held c.write_number.new.out) (codes "copied " ++ (decimal reader.read ++ codes " bytes\n"))
    (moved ++ (watch_lines 0 told ++ signals)) (copy_text reader.read c.args.moved told reader.sent)
    (copy_text reader.read c.args.moved told reader.sent) (begun _ _)
    (first_line reader.read c.args.moved reader.sent told) c.in_ok-write_number.ensures.text in
    let two = went_on _ (g.O.Sink.held c.write_number.new.out) (g.O.Sink.held c.write_number-2.new.out) moved
    (watch_lines 0 told ++ signals) _ _ one refl c.in_ok-write_number-2.ensures.text in
    let three = went_on _ (g.O.Sink.held c.write_number-2.new.out) (g.O.Sink.held c.write_watchers.new.out)
    (watch_lines 0 told) signals _ _ two refl c.in_ok-write_watchers.ensures.text in
    handed_on c.write_number-3.result _ (g.O.Sink.held c.write_watchers.new.out) _ three.front signals _ three.held
    (subst (λ (n : ℕ). WritesText (g.O.Sink.held c.write_watchers.new.out) (g.O.Sink.held c.write_number-3.new.out)
    (number_line (codes "signals ") n) c.write_number-3.result) c.from.ensures c.write_number-3.ensures.text)
    three.whole
