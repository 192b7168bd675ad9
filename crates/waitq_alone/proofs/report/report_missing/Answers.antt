-- Three texts, one after another.
use Rattle.std.proofs.Common.{codes, ◌++◌, refl}
use Rattle.std.proofs.lemmas.Result.{err_from_is_err_and}
use Rattle.edge_io.proofs.Prefix.{behind, handed_on, later, sooner}
use Rattle.waitq_alone.proofs.report.report_missing.Goals as goal

pub returns-in_err-write_all-clause-text : goal.returns-in_err-write_all-clause-text
returns-in_err-write_all-clause-text g c =
    let p = err_from_is_err_and c.from_residual.result c.from_residual.ensures.1 in
    rw p.1 (sooner (g.E.Sink.held c.args.err.now) _ (codes "waitq: no file ") (c.args.name.now ++ codes "\n") _
    c.in_err-write_all.ensures.text refl)

pub returns-in_err-write_all-2-clause-text : goal.returns-in_err-write_all-2-clause-text
returns-in_err-write_all-2-clause-text g c =
    let r = c.from_residual-in_err-write_all-2 in
    let p = err_from_is_err_and r.result r.ensures.1 in
    let name = rw c.as_bytes.ensures.value at c.in_err-write_all-2.ensures.text in
    rw p.1 (later (g.E.Sink.held c.args.err.now) (g.E.Sink.held c.write_all.new.out) _ (codes "waitq: no file ")
    (c.args.name.now ++ codes "\n") _ c.in_ok-write_all.ensures.text
    (sooner (g.E.Sink.held c.write_all.new.out) _ c.args.name.now (codes "\n") _ name refl) refl)

pub returns-clause-text : goal.returns-clause-text
returns-clause-text g c =
    let name = rw c.as_bytes.ensures.value at c.in_ok-write_all-2.ensures.text in
    handed_on c.write_all-3.result (g.E.Sink.held c.args.err.now) (g.E.Sink.held c.write_all-2.new.out) _
    (codes "waitq: no file " ++ c.args.name.now) (codes "\n") _
    (behind (g.E.Sink.held c.args.err.now) (g.E.Sink.held c.write_all.new.out) _ (codes "waitq: no file ")
    c.args.name.now _ c.in_ok-write_all.ensures.text name refl) c.write_all-3.ensures.text refl
