use Rattle.std.proofs.Common.{◌∙◌}
use Rattle.futex_table.proofs.{CondVaring.cond_carries, CondVaring.load_held, TalliedCalls.stay_tallied}
use Rattle.futex_table.proofs.Tallying.{leaves_on, load_leaves, waited_leaves}
use Rattle.futex_table.proofs.cond_vars.cond_wait.Goals as goal

pub mutex_unlock-requires-clause-held : goal.mutex_unlock-requires-clause-held
mutex_unlock-requires-clause-held g c = load_held c.args.cond c.cond_load-seen.result c.args.task.now
    c.cond_load-seen.new.task c.cond_load-seen.ensures.step c.args.lock ∙ c.requires.held

pub returns-clause-waited : goal.returns-clause-waited
returns-clause-waited g c = record {
  let_go = record {
    seen = c.cond_load-seen.result;
    loaded = c.cond_load-seen.new.task;
    loads = c.cond_load-seen.ensures.step;
    unlocked = c.mutex_unlock.new.task;
    gives = c.mutex_unlock.ensures.unlocked;
  };
  waited = c.futex_wait-end.new.task;
  end = c.futex_wait-end.result;
  waits = c.futex_wait-end.ensures.waited;
  lock = c.mutex_lock-locked.result;
  locks = c.mutex_lock-locked.ensures.locked;
  answers = c.cond_answer.ensures;
}

pub returns-clause-carries : goal.returns-clause-carries
returns-clause-carries g c = cond_carries c.args.lock c.args.task.now c.cond_load-seen.new.task
    c.mutex_unlock.new.task c.futex_wait-end.new.task c.mutex_lock-locked.new.task c.cond_load-seen.ensures.carries
    c.mutex_unlock.ensures.carries c.futex_wait-end.ensures.carries c.mutex_lock-locked.ensures.carries

pub returns-clause-others : goal.returns-clause-others
returns-clause-others g c m ne = c.mutex_lock-locked.ensures.others m ne
    ∙ (c.futex_wait-end.ensures.held m
    ∙ (c.mutex_unlock.ensures.others m ne
    ∙ load_held c.args.cond c.cond_load-seen.result c.args.task.now c.cond_load-seen.new.task
    c.cond_load-seen.ensures.step m))

pub returns-clause-tallies : goal.returns-clause-tallies
returns-clause-tallies g c = leaves_on c.args.lock c.args.task.now c.cond_load-seen.new.task
    c.mutex_lock-locked.new.task
    (load_leaves c.args.lock c.args.cond c.cond_load-seen.result c.args.task.now c.cond_load-seen.new.task
    c.cond_load-seen.ensures.step)
    (leaves_on c.args.lock c.cond_load-seen.new.task c.mutex_unlock.new.task c.mutex_lock-locked.new.task
    c.mutex_unlock.ensures.tallies
    (leaves_on c.args.lock c.mutex_unlock.new.task c.futex_wait-end.new.task c.mutex_lock-locked.new.task
    (waited_leaves c.args.lock c.mutex_unlock.new.task c.futex_wait-end.new.task c.futex_wait-end.ensures.waited)
    c.mutex_lock-locked.ensures.tallies))

pub returns-clause-tallied : goal.returns-clause-tallied
returns-clause-tallied g c = stay_tallied c.args.lock c.args.task.now c.mutex_lock-locked.new.task
    (returns-clause-tallies g c)
