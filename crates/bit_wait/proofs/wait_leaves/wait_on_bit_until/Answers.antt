use Rattle.std.proofs.Common.{◌∙◌, subst, sym}
use Rattle.std.specs.Prelude.{true}
use Rattle.wait_class.specs.Wholes.{HasRested}
use Rattle.bit_wait.specs.BitLeaves.{EndsBitWaitUntil}
use Rattle.bit_wait.proofs.BitLeaving.{ends_until, left_carried, left_domain, left_ended, left_over}
use Rattle.bit_wait.proofs.wait_leaves.wait_on_bit_until.Goals as goal

pub returns : goal.returns
returns g c =
    let way = c.run_asked-outcome.ensures in
    let h = subst (HasRested c.run_asked-outcome.new.task c.rest.new.task) c.is_bit_worn.ensures c.rest.ensures in
    let e = left_over _ _ _ _ _ _ _ _ way h in record {
      waited = subst (EndsBitWaitUntil (g.Q.Fn.post c.args.asks tt true) c.args.task.now c.rest.new.task c.args.word
          c.args.bit c.args.state) (sym c.until_of.ensures)
          (ends_until _ _ _ _ _ _ _ way h _ _ _ c.begin_bit-call.ensures.fresh);
      up = e.up;
      idle = e.idle c.requires.idle.unmarked;
      out = e.out;
      carries = left_carried _ _ _ _ _ _ _ _ way h c.requires.up c.requires.idle
          (c.begin_bit-call.ensures.told.head ∙ c.requires.idle.free.head);
    }

pub rest-requires-clause-of : goal.rest-requires-clause-of
rest-requires-clause-of g c = left_domain _ _ _ _ _ _ _ c.run_asked-outcome.ensures ∙ c.requires.of

pub rest-requires-clause-up : goal.rest-requires-clause-up
rest-requires-clause-up g c = λ worn. (left_ended _ _ _ _ _ _ _ c.run_asked-outcome.ensures).up
