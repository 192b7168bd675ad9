-- Where a program may answer a negative number: a signalled wait, and an interrupted wait for a bit.
use Rattle.std.proofs.Common.{refl, sym, ◌∙◌, ap, arith}
use Rattle.std.specs.Prelude.{ℕ, ◌≡◌, ◌+◌, Bool, true, false, ◌==◌, is_some, pos, negsuc, Option, Some, None}
use Rattle.wait_model.specs.{declared.calls.Call.Call, declared.tasks.Taken.Taken, declared.queues.Walking.Walking}
use Rattle.wait_model.specs.{declared.queues.CalledEntry.CalledEntry, declared.watches.Kind.Kind}
use Rattle.wait_model.specs.{declared.points.Planned.Planned, declared.points.Next.Next, declared.points.Seen.Seen}
use Rattle.wait_model.specs.{declared.points.Point.Point, Tasks.meets, Tasks.taken_of, Watches.mask_of, Tables.value_of}
use Rattle.wait_model.specs.Points.{call_aim, call_watch, mode_of, who_of}
use Rattle.wait_model.specs.Programs.{ends_with, selected_answer, select_next, is_enough, is_at_end, call_entry}
use Rattle.wait_model.specs.Programs.{call_next, reached, taken_answer, kicked, active_event, signalled, interrupted}
use Rattle.wait_model.specs.Programs.{page_queue}
use Rattle.wait_model.specs.Runs.{State, own, seen_by, planned}
use Rattle.wait_model.specs.declared.calls.Call.TheVariants as calls
use Rattle.wait_model.specs.declared.calls.Event.TheVariants as event
use Rattle.wait_model.specs.declared.calls.Answer.TheVariants as answer
use Rattle.wait_model.specs.declared.tasks.Taken.TheVariants as taken
use Rattle.wait_model.specs.declared.watches.Kind.TheVariants as kind
use Rattle.wait_model.specs.declared.points.Next.TheVariants as next
use Rattle.wait_model.specs.declared.points.Point.TheVariants as at
use Rattle.wait_model.specs.declared.points.PreparePoint.TheVariants as preparing
use Rattle.wait_model.specs.declared.points.LeavePoint.TheVariants as leaving
use Rattle.wait_model.specs.declared.points.FinishPoint.TheVariants as finishing
use Rattle.wait_model.specs.declared.points.WalkPoint.TheVariants as walking
use Rattle.wait_model.specs.declared.points.AddPoint.TheVariants as adding
use Rattle.wait_model.specs.declared.points.RemovePoint.TheVariants as removing
use Rattle.wait_model.specs.declared.points.WokenPoint.TheVariants as hearing
use Rattle.wait_model.specs.declared.points.SelectPoint.TheVariants as selecting
use Rattle.wait_model.specs.declared.points.AwaitPoint.TheVariants as awaiting
use Rattle.wait_model.specs.declared.points.CountPoint.TheVariants as counting
use Rattle.wait_model.specs.declared.points.BitPoint.TheVariants as biting
use Rattle.wait_model.proofs.WaitLaws.OutsideStages.{either, both, unset}
use Rattle.wait_model.specs.declared.points.PagePoint.TheVariants as paging
use Rattle.wait_model.specs.declared.points.PageStage.TheVariants as staging

-- the number n where the program answers -n, 1 where it answers Worn, and else 0
abbrev pub refusal : Next → ℕ
refusal (next.Ends (answer.Number (negsuc k))) = k + 1
refusal (next.Ends answer.Worn) = 1
refusal _ = 0

-- the points at which no program answers such a number
abbrev pub IsOther : Point → Type 0
IsOther (at.Leave leaving.Load) = ⊥
IsOther (at.Await (awaiting.Off true)) = ⊥
IsOther (at.Await (awaiting.Last true)) = ⊥
IsOther (at.Finish p true) = ⊥
IsOther (at.Bit biting.Last) = ⊥
IsOther (at.Page paging.Last) = ⊥
IsOther at.Worn = ⊥
IsOther _ = Unit {0}

module _ (s : State) (me : ℕ) (call : Call) where
  abbrev Other : Planned → Type 0
  Other x = refusal x.next ≡ 0

  other_entry : (w : Walking) (c : CalledEntry) (j : Kind) (seen : Seen) (hit : Bool)
      → Other (call_entry (call_aim call) w c j seen hit)
  other_entry w c kind.Autoremove seen hit = refl
  other_entry w c j seen hit = refl

  other_next : (w : Walking) (o : Option CalledEntry) (seen : Seen) (hit : Bool)
      → Other (call_next (call_aim call) w o seen hit)
  other_next w None seen hit = refl
  other_next w (Some c) seen hit = other_entry w c c.kind seen hit

  other_taken : (x : Taken) → Other (ends_with (event.Accept x) (answer.Number (taken_answer x)))
  other_taken taken.Nothing = refl
  other_taken taken.Plain = refl
  other_taken taken.Fatal = refl

  other_selected : (c : Call) (n : ℕ) → refusal (next.Ends (selected_answer c n)) ≡ 0
  other_selected (calls.SimpleWake c all) n = refl
  other_selected c n = refl

  other_select : (n : ℕ) (o : Option CalledEntry) (hit : Bool) → Other (select_next call n o hit)
  other_select n None hit = other_selected call n
  other_select n (Some c) hit = refl

  abbrev at_walk : Walking → Seen
  at_walk w = seen_by s me call (at.Walk (walking.Call w))

  pub other : (p : Point) → IsOther p → Other (planned s me call p)
  other at.First i = either Other (unset s call) _ _ refl refl
  other (at.Prepare preparing.Look) i = refl
  other (at.Prepare preparing.Queue) i = either Other (is_some (s.table.entry (own me))) _ _ refl refl
  other (at.Prepare p) i = refl
  other at.Test i = refl
  other at.Sleep i = refl
  other (at.Leave leaving.Queue) i = either Other (is_some (s.table.entry (own me))) _ _ refl refl
  other (at.Leave leaving.Unlock) i = refl
  other (at.Leave leaving.Load) i = absurd i
  other (at.Finish p true) i = absurd i
  other (at.Finish finishing.Look false) i = either Other (is_some (s.table.entry (own me))) _ _ refl refl
  other (at.Finish finishing.Queue false) i = either Other (is_some (s.table.entry (own me))) _ _ refl refl
  other (at.Finish p false) i = refl
  other (at.Bit biting.Try) i = either (λ z. refusal (next.Ends (answer.Number z)) ≡ 0) (unset s call) (pos 0) (pos 1)
      refl refl
  other (at.Bit biting.First) i = either Other (unset s call) _ _ refl refl
  other (at.Bit biting.Last) i = absurd i
  other (at.Bit p) i = refl
  other (at.Page paging.First) i = either Other (unset s call) _ _ refl refl
  other (at.Page paging.Queue) i = both (λ b. Other (page_queue call b))
      (seen_by s me call (at.Page paging.Queue)).worn refl refl
  other (at.Page (paging.Unlock true)) i = refl
  other (at.Page (paging.Unlock false)) i = refl
  other (at.Page (paging.Finish finishing.Look)) i = either Other (is_some (s.table.entry (own me))) _ _ refl refl
  other (at.Page (paging.Finish finishing.Queue)) i = either Other (is_some (s.table.entry (own me))) _ _ refl refl
  other (at.Page (paging.Finish p)) i = refl
  other (at.Page paging.Last) i = absurd i
  other (at.Page p) i = refl
  other at.Worn i = absurd i
  other at.Active i = both (λ b. Other (active_event call b)) (seen_by s me call at.Active).members refl refl
  other (at.Walk walking.Lock) i = refl
  other (at.Walk (walking.Call w)) i = either Other (at_walk w).breaks _ _ refl
      (other_next (reached w (at_walk w).calls) (at_walk w).called (at_walk w)
      (meets (mask_of (mode_of call)) (at_walk w).other.state))
  other (at.Walk (walking.Page staging.Try w c)) i = refl
  other (at.Walk (walking.Page staging.Hand w c)) i = refl
  other (at.Walk (walking.Page staging.Wake w c)) i = refl
  other (at.Walk (walking.Page staging.Off w c)) i = refl
  other (at.Walk p) i = refl
  other (at.Add adding.Lock) i = refl
  other (at.Add p) i = refl
  other (at.Remove removing.Lock) i = refl
  other (at.Remove p) i = refl
  other (at.Woken hearing.State) i = refl
  other (at.Woken p) i = refl
  other (at.Select selecting.Lock) i = refl
  other (at.Select (selecting.Next n)) i = either Other (is_enough call n) _ _ (other_selected call n)
      (other_select n _ _)
  other (at.Select p) i = refl
  other (at.Await (awaiting.Off true)) i = absurd i
  other (at.Await (awaiting.Off false)) i = either Other (is_some (s.table.entry (own me))) _ _ refl
      (either Other (is_at_end (value_of s.table.words (call_watch call))) _ _ refl refl)
  other (at.Await (awaiting.Last true)) i = absurd i
  other (at.Await (awaiting.Last false)) i =
      either Other (is_at_end (value_of s.table.words (call_watch call))) _ _ refl refl
  other (at.Await (awaiting.Lock waited)) i = refl
  other (at.Await p) i = refl
  other (at.Count counting.Peek) i = either Other (value_of s.table.words (call_watch call) == 0) _ _ refl refl
  other (at.Count (counting.Unlock true)) i = refl
  other (at.Count (counting.Unlock false)) i = refl
  other (at.Count p) i = refl
  other at.Accept i = other_taken (taken_of (s.table.task me))
  other at.Kick i = both (λ b. Other (kicked (who_of call) b)) _ refl refl
  other p i = refl

  -- so neither a signalled nor an interrupted wait ends there
  pub not_signalled : (p : Point) → IsOther p → (planned s me call p).next ≡ next.Ends signalled → ⊥
  not_signalled p i e = let z : 0 ≡ refusal (next.Ends signalled) = sym (other p i) ∙ ap refusal e in omega (arith, z)

  pub not_interrupted : (p : Point) → IsOther p → (planned s me call p).next ≡ next.Ends interrupted → ⊥
  not_interrupted p i e = let z : 0 ≡ refusal (next.Ends interrupted) = sym (other p i) ∙ ap refusal e in
      omega (arith, z)
