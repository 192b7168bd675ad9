-- How a task stands behind a call that has given the head back, and that may leave its entry at a completion.
use Rattle.std.specs.Prelude.{◌≡◌, None}
use Rattle.wait_rule.specs.{HandedPermits.StaysOff, Known.Known, Queues.IsIdle, Queues.index, Stays.Carries}
use Rattle.wait_rule.specs.Stays.{with_left_entry}
use Rattle.wait_rule.specs.Says.{Excuse, IsClean, IsUp, OwesBut, told_of}
use Rattle.wait_rule.proofs.KnownLaws.CalledPermits.{shows_none}
use Rattle.wait_rule.proofs.KnownLaws.StayingParts.{owes_also, owes_left, owes_off, owes_out}
use Rattle.wait_class.specs.Posts.{own_of}
use Rattle.wait_event.specs.Ends.{wait_change}
use Rattle.wait_event.proofs.Behind.{IsBehind, carried_behind, clean_behind, idle_behind, stored_behind}

abbrev pub StandsBehind : Known → Known → Type 0
StandsBehind old new = IsBehind with_left_entry old new

module _ (old new : Known) (b : StandsBehind old new) where
  pub behind_idle : (told_of old).mark ≡ None → IsIdle new
  behind_idle = idle_behind old new b

  -- it leaves no entry at a completion
  behind_owed : StaysOff old new → (x : Excuse) → OwesBut x old → OwesBut x new
  behind_owed off x o = owes_off x new (λ none d. off d (o.debts.off none d)) (λ none. shows_none new b.told)
      (owes_out (own_of old) (with_left_entry x) new (stored_behind old new b)
      (b.keeps.owes x (owes_also (own_of old) (with_left_entry x) old (owes_left x old o))))

  pub behind_carried : StaysOff old new → IsUp old → IsIdle old → (told_of old).hold.head ≡ None
      → Carries (wait_change (index old.view.number 0) new.at) old new
  behind_carried off = carried_behind old new b (behind_owed off)

  pub behind_clean : StaysOff old new → IsClean old → IsClean new
  behind_clean off = clean_behind old new b (behind_owed off)
