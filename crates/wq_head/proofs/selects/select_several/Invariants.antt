use Rattle.std.proofs.Common.{◌≡◌, ◌≢◌, ◌<◌, ◌≤◌, length, map}
use Rattle.wait_rule.specs.{Known.Known, Shown.shown_queue}
use Rattle.wq_head.specs.{Lists.members_in, Lists.stand_in, Roused.IsRousing, Roused.tasks_in}
use Rattle.wq_head.proofs.SelectingHold.{InSelection}
use Rattle.wq_head.proofs.selects.select_several.Given as goal

abbrev pub invariant-loop-i : goal.invariant-loop-i
invariant-loop-i l = (found : Known) × (map stand_in (members_in l.list) ≡ shown_queue found)
    × InSelection l.fn.task l.task found l.i l.selected × (l.most ≢ 0 → l.selected < l.most)
    × ((start : Known) → IsRousing start l.fn.task l.fn.rousing → IsRousing start l.task l.rousing)
    × (length (tasks_in l.rousing) ≤ l.selected)
