use Rattle.std.proofs.Common.{subst, All, sum_by, sym, ◌∙◌, ap}
use Rattle.wait_script.specs.{Lines.events_asked, Spelling.IsFit, Spelling.IsPlayable}
use Rattle.wait_script.specs.declared.version.Version.TheVariants.{One}
use Rattle.wait_script.proofs.Spelled.{fit_plays}
use Rattle.drill_gen.specs.Drill.{drill_of}
use Rattle.drill_gen.proofs.Drawn.{fits, asks, goes_on, all_drawn}
use Rattle.drill_gen.proofs.lines.drill.Goals as goal

pub loop-call-preserved : goal.loop-call-preserved
loop-call-preserved c = record {
  lines = goes_on _ c.loop-call.lines.items c.push_drawn.new.lines.items c.args.count c.loop-call._call
      c.loop-call.generator c.next_word-word.new.self c.next_word-word.result c.loop-call-test.true
      c.next_word-word.ensures c.in_ok-push_drawn.ensures c.loop-call.invariant.lines;
}

pub returns-clause-fits : goal.returns-clause-fits
returns-clause-fits c =
    subst (λ lines. All (IsFit One) lines) (all_drawn (drill_of c.args.seed c.args.count) c.loop-call.lines.items
    c.args.count c.loop-call._call c.loop-call.generator c.loop-call-test.false c.loop-call.invariant.lines)
    (fits c.args.seed c.args.count)

pub returns-clause-plays : goal.returns-clause-plays
returns-clause-plays c =
    subst (λ lines. All IsPlayable lines) (all_drawn (drill_of c.args.seed c.args.count) c.loop-call.lines.items
    c.args.count c.loop-call._call c.loop-call.generator c.loop-call-test.false c.loop-call.invariant.lines)
    (fit_plays (record { version = One; lines = drill_of c.args.seed c.args.count }) (fits c.args.seed c.args.count))

pub returns-clause-asked : goal.returns-clause-asked
returns-clause-asked c =
    ap (sum_by events_asked) (sym (all_drawn (drill_of c.args.seed c.args.count) c.loop-call.lines.items c.args.count
    c.loop-call._call c.loop-call.generator c.loop-call-test.false c.loop-call.invariant.lines))
    ∙ asks c.args.seed c.args.count
