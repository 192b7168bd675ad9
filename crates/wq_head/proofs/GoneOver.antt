-- What a hold keeps that goes over the members of its queue.
use Rattle.std.specs.Prelude.{ℕ, ◌≡◌, ◌≤◌, length}
use Rattle.wait_model.specs.{declared.queues.Walking.Walking, declared.watches.Aim.Aim}
use Rattle.wait_rule.specs.Known.{Known}
use Rattle.wq_head.specs.{declared.rousing.Rousing.Rousing, Looks.Looks, Roused.IsRousing, Roused.tasks_in}
use Rattle.wq_head.specs.{Walking.IsStarting, Walking.rest_of}
use Rattle.wq_head.proofs.CallingHold.{InHold}

-- Behind so many members the hold is at `now`, with these counts, and is to rouse these; it began its queue at `old`.
abbrev pub GoesOver : Aim → Known → Walking → Rousing → ℕ → Known → Walking → Rousing → Type 0
GoesOver a old w r i now u s =
    ((start : Known) → IsStarting a start w.place (rest_of a w) → Looks start old → InHold a start now w u old i)
    × ((start : Known) → IsRousing start old r → IsRousing start now s) × (length (tasks_in s) ≤ u.calls)
    × (now.domain ≡ old.domain)
