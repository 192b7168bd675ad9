use Rattle.std.proofs.Common.{◌∙◌, ap, sym}
use Rattle.std.specs.Prelude.{ℕ}
use Rattle.wait_event.specs.WaitLeaves.{wait_until_in}
use Rattle.wait_event.proofs.WaitLeaving.{ends_seen, ends_until, left_carried, left_over}
use Rattle.var_wait.specs.VarLeaves.{until_loaded}
use Rattle.var_wait.proofs.waits.wait_var_until.Goals as goal

pub returns : goal.returns
returns g c =
    let way = c.run_asked-outcome.ensures in
    let begun = c.begin_var-wait.ensures in
    let answer = wait_until_in c.run_asked-outcome.new.call.of c.run_asked-outcome.result in
    let e = left_over _ _ _ _ _ _ _ way in record {
      waited = record {
        answer = answer;
        waited = ends_until _ _ _ _ _ _ _ _ begun.fresh way;
        loads = c.until_of_var.ensures
            ∙ ap (λ (v : ℕ). until_loaded v answer) (sym (ends_seen _ _ _ _ _ _ _ _ begun.fresh way));
      };
      up = e.up;
      idle = e.idle c.requires.idle.unmarked;
      out = e.out;
      carries = left_carried _ _ _ _ _ _ _ way c.requires.up c.requires.idle
          (begun.told.head ∙ c.requires.idle.free.head);
    }
