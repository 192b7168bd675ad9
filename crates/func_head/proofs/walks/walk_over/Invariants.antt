-- What the whole walk leaves is what it has left so far, and then what a walk over the entries behind it leaves.
use Rattle.std.proofs.Common.{◌≡◌, ◌-◌, ◌≤◌, length, take, drop}
use Rattle.func_head.specs.Walks.{entry, seen_by, walk, walk_from}
use Rattle.func_head.proofs.WalkSteps.{joined}
use Rattle.func_head.proofs.walks.walk_over.Given as goal

abbrev pub invariant-calls : goal.invariant-calls
invariant-calls g l = record {
  in_range : l.at ≤ length l.entries;
  same : length l.entries ≡ length l.initial.entries;
  walk : walk l.mode l.count l.key
      (seen_by l.initial.entries (λ e. entry e.id e.exclusive e.priority
      ((goal.WakeFn-dyn g (e.func.vtable, e.func.value)).meaning e.func.value)))
      ≡ joined
      (take l.at (seen_by l.entries (λ e. entry e.id e.exclusive e.priority
      ((goal.WakeFn-dyn g (e.func.vtable, e.func.value)).meaning e.func.value))))
      (walk_from l.mode l.key l.turn
      (drop l.at (seen_by l.entries (λ e. entry e.id e.exclusive e.priority
      ((goal.WakeFn-dyn g (e.func.vtable, e.func.value)).meaning e.func.value)))));
}

abbrev pub decreases-calls : goal.decreases-calls
decreases-calls g l = length l.entries - l.at
