use Rattle.std.proofs.Common.{◌≤◌, ◌-◌}
use Rattle.edge_io.specs.Text.{Midway}
use Rattle.wait_model.specs.{Runs.state_of, declared.layout.TheConstants.CONDITIONS}
use Rattle.wait_script.specs.Ending.{texts_from, line_of_word, words_text}
use Rattle.wait_script.proofs.ending.write_words.Given as goal

abbrev pub invariant-loop-cond : goal.invariant-loop-cond
invariant-loop-cond g l = record {
  midway : Midway (g.K.Sink.held l.initial.out) (g.K.Sink.held l.out)
      (texts_from (line_of_word (state_of l.core)) l.cond (CONDITIONS - l.cond)) (words_text (state_of l.core));
  later : g.K.Sink.faults l.initial.out ≤ g.K.Sink.faults l.out;
}
