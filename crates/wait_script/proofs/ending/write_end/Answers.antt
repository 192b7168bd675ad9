use Rattle.std.proofs.Common.{refl, ap, sym, codes, ◌++◌}
use Rattle.std.proofs.lemmas.Result.{err_from_is_err_and}
use Rattle.edge_io.specs.Text.{Midway}
use Rattle.edge_io.proofs.Prefix.{begun, broke_off, went_on, handed_on}
use Rattle.wait_model.specs.Runs.{state_of}
use Rattle.wait_script.specs.Ending.{events_text, tasks_text, heads_text, words_text, ending_text}
use Rattle.wait_script.proofs.ending.write_end.Goals as goal

pub returns-in_err-write_events-clause-text : goal.returns-in_err-write_events-clause-text
returns-in_err-write_events-clause-text g c =
    let s = state_of c.args.core.now in
    let rest = tasks_text s ++ (heads_text s ++ (words_text s ++ codes "end\n")) in
    let p = err_from_is_err_and c.from_residual.result c.from_residual.ensures.1 in
    rw p.1 (broke_off _ _ _ (events_text c.made.result) rest _ _
    (begun (g.K.Sink.held c.args.out.now) (ending_text c.args.core.now))
    (ap (λ n. events_text n ++ rest) (sym c.made.ensures)) c.in_err-write_events.ensures.text)

pub returns-in_err-write_tasks-clause-text : goal.returns-in_err-write_tasks-clause-text
returns-in_err-write_tasks-clause-text g c =
    let s = state_of c.args.core.now in
    let words = words_text s ++ codes "end\n" in
    let heads = heads_text s ++ words in
    let one : Midway (g.K.Sink.held c.args.out.now) (g.K.Sink.held c.write_events.new.out) (tasks_text s
    ++ heads) (ending_text c.args.core.now) =
    went_on _ _ _ (events_text c.made.result) _ _ _ (begun _ _)
    (ap (λ n. events_text n ++ (tasks_text s ++ heads)) (sym c.made.ensures)) c.in_ok-write_events.ensures.text
    in
    let r = c.from_residual-in_err-write_tasks in
    let p = err_from_is_err_and r.result r.ensures.1 in
    rw p.1 (broke_off _ (g.K.Sink.held c.write_events.new.out) _ (tasks_text s) heads _ _ one refl
    c.in_err-write_tasks.ensures.text)

pub returns-in_err-write_heads-clause-text : goal.returns-in_err-write_heads-clause-text
returns-in_err-write_heads-clause-text g c =
    let s = state_of c.args.core.now in
    let words = words_text s ++ codes "end\n" in
    let heads = heads_text s ++ words in
    let one : Midway (g.K.Sink.held c.args.out.now) (g.K.Sink.held c.write_events.new.out) (tasks_text s
    ++ heads) (ending_text c.args.core.now) =
    went_on _ _ _ (events_text c.made.result) _ _ _ (begun _ _)
    (ap (λ n. events_text n ++ (tasks_text s ++ heads)) (sym c.made.ensures)) c.in_ok-write_events.ensures.text
    in
    let two = went_on _ (g.K.Sink.held c.write_events.new.out) (g.K.Sink.held c.write_tasks.new.out)
    (tasks_text s) heads _ _ one refl c.in_ok-write_tasks.ensures.text in
    let r = c.from_residual-in_err-write_heads in
    let p = err_from_is_err_and r.result r.ensures.1 in
    rw p.1 (broke_off _ (g.K.Sink.held c.write_tasks.new.out) _ (heads_text s) words _ _ two refl
    c.in_err-write_heads.ensures.text)

pub returns-in_err-write_words-clause-text : goal.returns-in_err-write_words-clause-text
returns-in_err-write_words-clause-text g c =
    let s = state_of c.args.core.now in
    let words = words_text s ++ codes "end\n" in
    let heads = heads_text s ++ words in
    let one : Midway (g.K.Sink.held c.args.out.now) (g.K.Sink.held c.write_events.new.out) (tasks_text s
    ++ heads) (ending_text c.args.core.now) =
    went_on _ _ _ (events_text c.made.result) _ _ _ (begun _ _)
    (ap (λ n. events_text n ++ (tasks_text s ++ heads)) (sym c.made.ensures)) c.in_ok-write_events.ensures.text
    in
    let two = went_on _ (g.K.Sink.held c.write_events.new.out) (g.K.Sink.held c.write_tasks.new.out)
    (tasks_text s) heads _ _ one refl c.in_ok-write_tasks.ensures.text in
    let three = went_on _ (g.K.Sink.held c.write_tasks.new.out) (g.K.Sink.held c.write_heads.new.out)
    (heads_text s) words _ _ two refl c.in_ok-write_heads.ensures.text in
    let r = c.from_residual-in_err-write_words in
    let p = err_from_is_err_and r.result r.ensures.1 in
    rw p.1 (broke_off _ (g.K.Sink.held c.write_heads.new.out) _ (words_text s) (codes "end\n") _ _ three refl
    c.in_err-write_words.ensures.text)

pub returns-clause-text : goal.returns-clause-text
returns-clause-text g c =
    let s = state_of c.args.core.now in
    let words = words_text s ++ codes "end\n" in
    let heads = heads_text s ++ words in
    let one : Midway (g.K.Sink.held c.args.out.now) (g.K.Sink.held c.write_events.new.out) (tasks_text s
    ++ heads) (ending_text c.args.core.now) =
    went_on _ _ _ (events_text c.made.result) _ _ _ (begun _ _)
    (ap (λ n. events_text n ++ (tasks_text s ++ heads)) (sym c.made.ensures)) c.in_ok-write_events.ensures.text
    in
    let two = went_on _ (g.K.Sink.held c.write_events.new.out) (g.K.Sink.held c.write_tasks.new.out)
    (tasks_text s) heads _ _ one refl c.in_ok-write_tasks.ensures.text in
    let three = went_on _ (g.K.Sink.held c.write_tasks.new.out) (g.K.Sink.held c.write_heads.new.out)
    (heads_text s) words _ _ two refl c.in_ok-write_heads.ensures.text in
    let four = went_on _ (g.K.Sink.held c.write_heads.new.out) (g.K.Sink.held c.write_words.new.out)
    (words_text s) (codes "end\n") _ _ three refl c.in_ok-write_words.ensures.text in
    handed_on _ _ (g.K.Sink.held c.write_words.new.out) _ four.front (codes "end\n") _ four.held
    c.write_all.ensures.text four.whole
