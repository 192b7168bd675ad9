-- The events by which a walk hands a page over, as transitions of its program.
use Rattle.std.proofs.Common.{ap, refl, subst}
use Rattle.std.specs.Prelude.{ℕ, ◌≡◌, Bool, true, if◌then◌else◌, Some, [], ◌∷◌}
use Rattle.wait_model.specs.{declared.watches.Aim.Aim, declared.queues.CalledEntry.CalledEntry}
use Rattle.wait_model.specs.{declared.queues.Walking.Walking, declared.points.WalkPoint.WalkPoint}
use Rattle.wait_model.specs.{declared.points.PageStage.PageStage, declared.points.Seen.Seen, declared.points.Next.Next}
use Rattle.wait_model.specs.Tasks.{task_of}
use Rattle.wait_model.specs.Watches.{mask_of, misses, owner, word_of}
use Rattle.wait_model.specs.Programs.{onward, past, reached}
use Rattle.wait_model.specs.declared.watches.Mode.TheVariants as mode
use Rattle.wait_model.specs.declared.points.Point.TheVariants as at
use Rattle.wait_model.specs.declared.points.WalkPoint.TheVariants as walking
use Rattle.wait_model.specs.declared.points.PageStage.TheVariants as staging
use Rattle.wait_model.specs.declared.points.Next.TheVariants as next
use Rattle.wait_model.specs.declared.steps.Step.TheVariants as step
use Rattle.wait_rule.specs.declared.journal.Item.TheVariants as item
use Rattle.wait_rule.specs.{Known.Known, Says.added, Says.stored_with, Shown.shown_entry}
use Rattle.wait_rule.specs.Transitions.{Transition, by_step, walk_program, Goes}
use Rattle.wait_rule.proofs.KnownLaws.MemberBits.{bit_looks}
use Rattle.wait_rule.proofs.KnownLaws.Transitions.{looks_last, one_transition, only_none}
use Rattle.wq_head.specs.{declared.functions.ShownEntry.ShownEntry, Walking.entry_called, Walking.next_in_walk}
use Rattle.wq_head.proofs.EntryWakes.{blank_seen}

module _ (a : Aim) (v : ShownEntry) (w real : Walking) where
  abbrev onto : Walking
  onto = reached real w.calls

  abbrev c : CalledEntry
  c = entry_called v

  abbrev pub at_stage : PageStage → WalkPoint
  at_stage st = walking.Page st onto c

  -- the page is tried for the entry's task
  abbrev try_seen : ℕ → Seen
  try_seen r = record (blank_seen (task_of 0)) { value = r }

  abbrev pub try_transition : Known → ℕ → Transition
  try_transition k r = record {
    seen = try_seen r;
    knew = k;
    did = by_step (step.TasFor v.member (word_of a.watch) r);
  }

  abbrev pub tried_to : Bool → Next
  tried_to set = next.Go (at.Walk (if set then walking.Stopped onto else at_stage staging.Hand))

  pub try_goes : (k : Known) (r : ℕ) (set : Bool) → misses a.watch r ≡ set → shown_entry k v.member ≡ Some v.entry
      → Goes (walk_program a) k (next.Go (at.Walk (at_stage staging.Try))) (try_transition k r ∷ [])
      (added k (item.Made (step.TasFor v.member (word_of a.watch) r))) (tried_to set)
  try_goes k r set is there = subst (λ (m : Next). Goes (walk_program a) k
      (next.Go (at.Walk (at_stage staging.Try))) (try_transition k r ∷ [])
      (added k (item.Made (step.TasFor v.member (word_of a.watch) r))) m) (ap tried_to is)
      (one_transition (walk_program a) (at.Walk (at_stage staging.Try)) k (try_transition k r) (record {
        looks = only_none k;
        is = (refl, refl);
        finds = (refl, tt, (v.entry, there, refl));
      }))

  -- it is told
  abbrev pub hand_transition : Known → Transition
  hand_transition k = record { seen = blank_seen (task_of 0); knew = k; did = by_step (step.Handed v.member) }

  pub hand_goes : (k : Known) → shown_entry k v.member ≡ Some v.entry
      → Goes (walk_program a) k (next.Go (at.Walk (at_stage staging.Hand))) (hand_transition k ∷ [])
      (added k (item.Made (step.Handed v.member))) (next.Go (at.Walk (at_stage staging.Wake)))
  hand_goes k there = one_transition (walk_program a) (at.Walk (at_stage staging.Hand)) k (hand_transition k) (record {
    looks = only_none k;
    is = refl;
    finds = (tt, tt, (v.entry, there, refl));
  })

  -- it is woken with NORMAL
  abbrev pub rouse_transition : Known → ℕ → Transition
  rouse_transition k found = record {
    seen = blank_seen (task_of found);
    knew = k;
    did = by_step (step.Wake (owner v.member) (mask_of mode.Normal) found);
  }

  pub rouse_goes : (k : Known) (found : ℕ)
      → Goes (walk_program a) k (next.Go (at.Walk (at_stage staging.Wake))) (rouse_transition k found ∷ [])
      (added k (item.Made (step.Wake (owner v.member) (mask_of mode.Normal) found)))
      (next.Go (at.Walk (at_stage staging.Off)))
  rouse_goes k found = one_transition (walk_program a) (at.Walk (at_stage staging.Wake)) k (rouse_transition k found)
      (record { looks = only_none k; is = (refl, refl); finds = (refl, tt, tt) })

  -- and the entry is taken off, whatever the wake met
  abbrev pub leave_transition : Known → Transition
  leave_transition k = record { seen = blank_seen (task_of 0); knew = k; did = by_step (step.Unqueue v.member) }

  pub leave_goes : (k : Known) → shown_entry k v.member ≡ Some v.entry
      → Goes (walk_program a) k (next.Go (at.Walk (at_stage staging.Off))) (leave_transition k ∷ [])
      (stored_with k (step.Unqueue v.member)) (next_in_walk (past onto c true))
  leave_goes k there = looks_last (walk_program a) k (added k (item.Made (step.Unqueue v.member)))
      (stored_with k (step.Unqueue v.member)) (next.Go (at.Walk (at_stage staging.Off)))
      (next.Go (onward (past onto c true))) (leave_transition k ∷ [])
      (one_transition (walk_program a) (at.Walk (at_stage staging.Off)) k (leave_transition k) (record {
        looks = only_none k;
        is = refl;
        finds = (tt, tt, (v.entry, there, refl));
      })) (bit_looks k (step.Unqueue v.member))
