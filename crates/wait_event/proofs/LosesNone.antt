-- A set leaves nobody asleep for whom its wake was.
use Rattle.wait_model.specs.declared.watches.Watch.TheVariants as watch
use Rattle.wq_head.proofs.LosesNone.{wakes_lose_none}
use Rattle.wait_event.specs.LosesNone.{SetsLoseNone}

pub sets_lose_none : SetsLoseNone
sets_lose_none old new c value m count walked has =
    wakes_lose_none has.between new (record { watch = watch.Plain c; mode = m; count = count }) has.ended
