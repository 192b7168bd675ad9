use Rattle.std.proofs.Common.{◌∙◌, ap, refl, subst, sym}
use Rattle.std.specs.Prelude.{ℕ, ◌≡◌, ◌+◌, ◌-◌, ◌*◌, ◌/◌, ◌%◌, ◌==◌}
use Rattle.wait_model.specs.declared.layout.TheConstants.{PIPE_ENDS}
use Rattle.wait_rule.specs.{Known.Known, Pipes.End, Pipes.word_counts}
use Rattle.wait_pipe.specs.{Pieces.HasSeen, PipeStates.OnlyLooked, declared.looks.Look.Look}
use Rattle.wait_pipe.proofs.Looking.{loaded_own, look_only, look_seen, other_is, pipe_is}
use Rattle.wait_pipe.proofs.looks.load_over.Goals as goal

pub own_load-own-requires-clause-mine : goal.own_load-own-requires-clause-mine
own_load-own-requires-clause-mine c = ap (λ (e : End). e.mine)
    (loaded_own (PIPE_ENDS * c.args.pipe + c.args.end) (PIPE_ENDS * c.args.pipe + (1 - c.args.end))
    c.cond_load-word.result c.args.task.now c.cond_load-word.new.task
    (other_is c.args.pipe c.args.end c.requires.end) (pipe_is c.args.pipe c.args.end c.requires.end)
    c.cond_load-word.ensures.step c.requires.still) ∙ c.requires.still.mine

pub returns-clause-looked : goal.returns-clause-looked
returns-clause-looked c = subst (OnlyLooked (PIPE_ENDS * c.args.pipe + c.args.end) c.args.task.now)
    (sym c.own_load-own.ensures.same)
    (look_only (PIPE_ENDS * c.args.pipe + c.args.end) (PIPE_ENDS * c.args.pipe + (1 - c.args.end))
    c.cond_load-word.result c.args.task.now c.cond_load-word.new.task
    (other_is c.args.pipe c.args.end c.requires.end) (pipe_is c.args.pipe c.args.end c.requires.end)
    c.cond_load-word.ensures.step c.requires.still c.requires.up c.requires.free c.cond_load-word.ensures.carries)

pub returns-clause-seen : goal.returns-clause-seen
returns-clause-seen c =
    let counts = c.from.ensures in
    let l : Look = record {
      own = c.own_load-own.result / 2;
      other = c.cond_load-word.result / 2 % c.from.result;
      word = c.cond_load-word.result;
      closed = c.cond_load-word.result % 2 == 1;
    } in
    let other : l.other ≡ c.cond_load-word.result / 2 % word_counts =
    ap (λ (n : ℕ). c.cond_load-word.result / 2 % n) counts in
    subst (λ (k : Known). HasSeen (PIPE_ENDS * c.args.pipe + c.args.end) k l) (sym c.own_load-own.ensures.same)
    (look_seen (PIPE_ENDS * c.args.pipe + c.args.end) (PIPE_ENDS * c.args.pipe + (1 - c.args.end))
    c.cond_load-word.result c.args.task.now c.cond_load-word.new.task
    (other_is c.args.pipe c.args.end c.requires.end) (pipe_is c.args.pipe c.args.end c.requires.end)
    c.cond_load-word.ensures.step c.requires.still l c.own_load-own.result c.own_load-own.ensures.word
    c.own_load-own.ensures.sound refl other refl refl)
