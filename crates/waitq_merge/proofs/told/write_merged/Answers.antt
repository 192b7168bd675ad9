-- Two texts, one behind the other.
use Rattle.std.proofs.Common.{◌++◌, codes, decimal, refl}
use Rattle.std.proofs.lemmas.Result.{err_from_is_err_and}
use Rattle.edge_io.proofs.Prefix.{handed_on, sooner}
use Rattle.waitq_alone.specs.Drill.{number_line}
use Rattle.waitq_merge.proofs.told.write_merged.Goals as goal

pub returns-in_err-write_number-clause-text : goal.returns-in_err-write_number-clause-text
returns-in_err-write_number-clause-text g c =
    let p = err_from_is_err_and c.from_residual.result c.from_residual.ensures.1 in
    rw p.1 (sooner (g.O.Sink.held c.args.out.now) (g.O.Sink.held c.write_number.new.out)
    (codes "merged " ++ (decimal c.args.read ++ codes " bytes\n")) (number_line (codes "moved ") c.args.moved) _
    c.in_err-write_number.ensures.text refl)

pub returns-clause-text : goal.returns-clause-text
returns-clause-text g c =
    handed_on c.write_number-2.result (g.O.Sink.held c.args.out.now) (g.O.Sink.held c.write_number.new.out) _
    (codes "merged " ++ (decimal c.args.read ++ codes " bytes\n")) (number_line (codes "moved ") c.args.moved) _
    c.in_ok-write_number.ensures.text c.write_number-2.ensures.text refl
