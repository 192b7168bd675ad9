-- Each step that a task may make leads from a table that meets the laws to such a table again.
use Rattle.std.proofs.Common.{refl, ◌∙◌}
use Rattle.std.specs.Prelude.{ℕ, ◌≡◌, Some, None}
use Rattle.wait_model.specs.{declared.steps.Step.Step, Rows.Allowed, Fold.after, Tables.Table, Tables.next, Words.flag}
use Rattle.wait_model.specs.Laws.{NoLostFlag}
use Rattle.wait_model.specs.Facts.{OfView, Facts, Kept, StepKeeps, PageFacts}
use Rattle.wait_model.proofs.{BitLaws.PickedEntries.unqueue_bits, StepLaws.WakeSteps.wake_moves}
use Rattle.wait_model.proofs.{StepLaws.WakeSteps.lock_moves, StepLaws.PublishSteps.publish_moves}
use Rattle.wait_model.proofs.{StepLaws.PublishSteps.publish_flags, StepLaws.LoadSteps.load_moves}
use Rattle.wait_model.proofs.{StepLaws.LoadSteps.peek_moves, StepLaws.UntouchedParts.Moves}
use Rattle.wait_model.proofs.{StepLaws.UnlockSteps.unlock_moves, StepLaws.UnlockSteps.unlock_flags}
use Rattle.wait_model.proofs.{StepLaws.CombinedLaws.no_lost_from, BitLaws.PageSteps.pages_next}
use Rattle.wait_model.proofs.StepLaws.StoreSteps.{state_moves, queue_moves, flag_moves}
use Rattle.wait_model.proofs.StepLaws.OwnViews.{of_state, of_wake, of_saw, of_peek, of_load, of_woken, of_unflag}
use Rattle.wait_model.proofs.StepLaws.OwnViews.{of_flag, of_mark}
use Rattle.wait_model.proofs.StepLaws.QuietSteps.{slept_moves, signal_moves, accept_moves, look_moves, mark_moves}
use Rattle.wait_model.proofs.StepLaws.QuietSteps.{unmark_moves, saw_moves, woken_moves, unqueue_moves, consume_moves}
use Rattle.wait_model.proofs.StepLaws.QuietSteps.{unflag_moves, tas_for_moves, handed_moves}
use Rattle.wait_model.proofs.StepLaws.OwnSteps.{TriedMoves, tried_quiet, tried_stored, tried_unlocked, tried_saw}
use Rattle.wait_model.proofs.StepLaws.OwnSteps.{tried_peeked, tried_loaded, tried_consumed, tried_queued}
use Rattle.wait_model.proofs.StepLaws.OwnSteps.{tried_unqueued}
use Rattle.wait_model.proofs.BitLaws.BitSteps.{state_bits, wake_bits, lock_bits, unlock_bit_facts, queue_bits}
use Rattle.wait_model.proofs.BitLaws.BitSteps.{publish_bits, consume_bits, tas_for_bits, unflag_bits}
use Rattle.wait_model.proofs.StepLaws.FlagSteps.{state_flags, sleep_flags, wake_flags, signal_flags, accept_flags}
use Rattle.wait_model.proofs.StepLaws.FlagSteps.{look_flags, saw_flags, mark_flags, unmark_flags, read_flags}
use Rattle.wait_model.proofs.StepLaws.FlagSteps.{lock_flags, unqueue_flags, consume_flags, load_flags, peek_flags}
use Rattle.wait_model.proofs.StepLaws.FlagSteps.{queue_flags, unflag_flags, woken_flags, tas_for_flags, handed_flags}
use Rattle.wait_model.proofs.StepLaws.ScanSteps.{of_scan, scan_moves, scan_flags, scan_bits}
use Rattle.wait_model.proofs.StepLaws.FactSteps.{quiet_facts, lock_facts, unlock_facts, queue_facts, unqueue_facts}
use Rattle.wait_model.proofs.StepLaws.FactSteps.{publish_facts, consume_facts, tas_for_facts}
use Rattle.wait_model.proofs.BitLaws.BitRecords.{BitStep, bits_from, sleep_bits, signal_bits, accept_bits, look_bits}
use Rattle.wait_model.proofs.BitLaws.BitRecords.{load_bits, woken_bits, handed_bits, flag_bits, mark_bits, unmark_bits}
use Rattle.wait_model.proofs.BitLaws.BitRecords.{saw_bits, peek_bits}
use Rattle.wait_model.specs.declared.steps.Step.TheVariants as step

-- the laws from what the step does to each part, to the trying of bits, to the facts and to the facts on bits
kept_from : (s : Table) (a : ℕ) (ev : Step) → Kept s → Facts (next s a ev) → Moves s a ev → TriedMoves s a ev
    → NoLostFlag (next s a ev) → BitStep s a ev → PageFacts (next s a ev) → Kept (next s a ev)
kept_from s a ev k facts moves tried flag bits pages =
    record {
      no_lost_wake = no_lost_from s a ev k facts moves tried;
      no_lost_flag = flag;
      facts = facts;
      bits = bits_from s a ev k facts moves tried bits;
      pages = pages;
    }

-- the same for a step that changes no entry, lock or condition word
quiet_from : (s : Table) (a : ℕ) (ev : Step) → Kept s → ((next s a ev).entry ≡ s.entry)
    → ((next s a ev).holder ≡ s.holder) → ((next s a ev).spent ≡ s.spent) → ((next s a ev).words ≡ s.words)
    → (after ev (s.view a)).hold.head ≡ (s.view a).hold.head
    → OfView s.holder s.entry s.spent s.words (after ev (s.view a))
    → Moves s a ev → TriedMoves s a ev → NoLostFlag (next s a ev) → BitStep s a ev → PageFacts (next s a ev)
    → Kept (next s a ev)
quiet_from s a ev k entry holder spent words head own =
    kept_from s a ev k (quiet_facts s a ev k.facts entry holder spent words head own)

-- from the facts on pages that the step leads to
keeps_with : (s : Table) (a : ℕ) (e : Step) → Kept s → Allowed s a e → PageFacts (next s a e) → Kept (next s a e)
keeps_with s a (step.State σ) k al = quiet_from s a (step.State σ) k refl refl refl refl refl
    (of_state s.holder s.entry s.spent s.words (s.view a) (k.facts.views a) σ)
    (state_moves s a σ k.facts) (tried_stored s a σ) (state_flags s a σ k.no_lost_flag)
    (state_bits s a σ k.bits)
keeps_with s a (step.Sleep w) k al = quiet_from s a (step.Sleep w) k refl refl refl refl refl
    (k.facts.views a)
    (slept_moves s a w) (tried_quiet s a (step.Sleep w) (λ c t. t) (λ i h. h))
    (sleep_flags s a w k.no_lost_flag) (sleep_bits s a w k.bits)
keeps_with s a (step.Wake who mask w) k al = quiet_from s a (step.Wake who mask w) k refl refl refl refl refl
    (of_wake s.holder s.entry s.spent s.words (s.view a) (k.facts.views a) who mask w)
    (wake_moves s a who mask w) (tried_quiet s a (step.Wake who mask w) (λ c t. t) (λ i h. h))
    (wake_flags s a who mask w k.no_lost_flag) (wake_bits s a who mask w k al)
keeps_with s a (step.Signal who fatal w) k al = quiet_from s a (step.Signal who fatal w) k refl refl refl refl
    refl (k.facts.views a)
    (signal_moves s a who fatal w) (tried_quiet s a (step.Signal who fatal w) (λ c t. t) (λ i h. h))
    (signal_flags s a who fatal w k.no_lost_flag) (signal_bits s a who fatal w k.bits)
keeps_with s a (step.Accept w) k al = quiet_from s a (step.Accept w) k refl refl refl refl refl
    (k.facts.views a)
    (accept_moves s a w) (tried_quiet s a (step.Accept w) (λ c t. t) (λ i h. h))
    (accept_flags s a w k.no_lost_flag) (accept_bits s a w k.bits)
keeps_with s a (step.Look w) k al = quiet_from s a (step.Look w) k refl refl refl refl refl (k.facts.views a)
    (look_moves s a w) (tried_quiet s a (step.Look w) (λ c t. t) (λ i h. h)) (look_flags s a w k.no_lost_flag)
    (look_bits s a w k.bits)
keeps_with s a (step.Lock h aim w) k al = kept_from s a (step.Lock h aim w) k
    (lock_facts s a h aim w k.facts al)
    (lock_moves s a h aim w) (tried_quiet s a (step.Lock h aim w) (λ c t. t) (λ i h. h))
    (lock_flags s a h aim w k.no_lost_flag) (lock_bits s a h aim w k.bits)
keeps_with s a (step.Unlock h sp) k al = kept_from s a (step.Unlock h sp) k
    (unlock_facts s a h sp k.facts al.0)
    (unlock_moves s a h sp k al) (tried_unlocked s a h sp) (unlock_flags s a h sp k al)
    (unlock_bit_facts s a h sp k.bits)
keeps_with s a (step.Saw x w) k al = quiet_from s a (step.Saw x w) k refl refl refl refl refl
    (of_saw s.holder s.entry s.spent s.words (s.view a) (k.facts.views a) x w al)
    (saw_moves s a x w) (tried_saw s a x w k.facts al) (saw_flags s a x w k.no_lost_flag)
    (saw_bits s a x w k.bits al)
keeps_with s a (step.Peek x w) k al = quiet_from s a (step.Peek x w) k refl refl refl refl refl
    (of_peek s.holder s.entry s.spent s.words (s.view a) (k.facts.views a) x w al.1)
    (peek_moves s a x w k.facts al.0) (tried_peeked s a x w k.facts al.0)
    (peek_flags s a x w k.facts k.no_lost_flag al.0) (peek_bits s a x w k.bits al.0)
keeps_with s a (step.Scan h i w) k al = quiet_from s a (step.Scan h i w) k refl refl refl refl refl
    (of_scan s.holder s.entry s.spent s.words (s.view a) (k.facts.views a) h i w al.0)
    (scan_moves s a h i w k.facts al) (tried_quiet s a (step.Scan h i w) (λ c t. t) (λ j q. q))
    (scan_flags s a h i w k.facts k.no_lost_flag al) (scan_bits s a h i w k.bits)
keeps_with s a (step.Queue x e) k al = kept_from s a (step.Queue x e) k (queue_facts s a x e k.facts al)
    (queue_moves s a x e k.facts (queue_facts s a x e k.facts al) al) (tried_queued s a x e k.facts al)
    (queue_flags s a x e k.no_lost_flag al.0) (queue_bits s a x e k.bits al.0)
keeps_with s a (step.Unqueue x) k al = kept_from s a (step.Unqueue x) k (unqueue_facts s a x k.facts al)
    (unqueue_moves s a x) (tried_unqueued s a x al) (unqueue_flags s a x k.no_lost_flag)
    (unqueue_bits s a x k al)
keeps_with s a (step.Mark h q) k al = quiet_from s a (step.Mark h q) k refl refl refl refl refl
    (of_mark s.holder s.entry s.spent s.words (s.view a) (k.facts.views a) (Some q))
    (mark_moves s a h q) (tried_quiet s a (step.Mark h q) (λ c t. t) (λ i h. h))
    (mark_flags s a h q k.no_lost_flag) (mark_bits s a h q k.bits)
keeps_with s a step.Unmark k al = quiet_from s a step.Unmark k refl refl refl refl refl
    (of_mark s.holder s.entry s.spent s.words (s.view a) (k.facts.views a) None)
    (unmark_moves s a) (tried_quiet s a step.Unmark (λ c t. t) (λ i h. h)) (unmark_flags s a k.no_lost_flag)
    (unmark_bits s a k.bits)
keeps_with s a (step.Load l r) k al = quiet_from s a (step.Load l r) k refl refl refl refl refl
    (of_load s.holder s.entry s.spent s.words (s.view a) (k.facts.views a) l r al)
    (load_moves s a l r al) (tried_loaded s a l r al) (load_flags s a l r k.no_lost_flag al)
    (load_bits s a l r k.bits)
keeps_with s a (step.Publish c n r) k al = kept_from s a (step.Publish c n r) k
    (publish_facts s a c n r k.facts k.bits al)
    (publish_moves s a c n r al.0) (tried_quiet s a (step.Publish c n r) (λ c t. t) (λ i h. h))
    (publish_flags s a c n r k.no_lost_flag) (publish_bits s a c n r k.bits al)
keeps_with s a (step.Consume c n r) k al = kept_from s a (step.Consume c n r) k
    (consume_facts s a c n r k.facts al.0)
    (consume_moves s a c n r al.0) (tried_consumed s a c n r) (consume_flags s a c n r k.no_lost_flag al.0)
    (consume_bits s a c n r k.facts k.bits al.2)
keeps_with s a (step.Woken x) k al = quiet_from s a (step.Woken x) k refl refl refl refl refl
    (of_woken s.holder s.entry s.spent s.words (s.view a) (k.facts.views a) x)
    (woken_moves s a x) (tried_quiet s a (step.Woken x) (λ c t. t) (λ i h. h))
    (woken_flags s a x k.no_lost_flag) (woken_bits s a x k.bits)
keeps_with s a (step.Unflag x o) k al = quiet_from s a (step.Unflag x o) k refl refl refl refl refl
    (of_unflag s.holder s.entry s.spent s.words (s.view a) (k.facts.views a) x o
    (λ p q. k.pages.set x p (al.1 ∙ q)))
    (unflag_moves s a x o) (tried_quiet s a (step.Unflag x o) (λ c t. t) (λ i h. h))
    (unflag_flags s a x o k.no_lost_flag al.0) (unflag_bits s a x o k.bits
    (λ p q b. k.pages.unkept x p b (al.1 ∙ q)))
keeps_with s a (step.Flag x w) k al = quiet_from s a (step.Flag x w) k refl refl refl refl refl
    (of_flag s.holder s.entry s.spent s.words (s.view a) (k.facts.views a) x w)
    (flag_moves s a x w k al) (tried_quiet s a (step.Flag x w) (λ c t. t) (λ i h. h))
    (read_flags s a x w k.no_lost_flag) (flag_bits s a x w k.bits)
keeps_with s a (step.TasFor x p r) k al = kept_from s a (step.TasFor x p r) k (tas_for_facts s a x p r k.facts)
    (tas_for_moves s a x p r) (tried_quiet s a (step.TasFor x p r) (λ c t. t) (λ i h. h))
    (tas_for_flags s a x p r k.no_lost_flag) (tas_for_bits s a x p r k.bits)
keeps_with s a (step.Handed x) k al = quiet_from s a (step.Handed x) k refl refl refl refl refl (k.facts.views a)
    (handed_moves s a x) (tried_quiet s a (step.Handed x) (λ c t. t) (λ i h. h))
    (handed_flags s a x k.no_lost_flag) (handed_bits s a x k.bits)

pub step_keeps : StepKeeps
step_keeps s a e k al = keeps_with s a e k al (pages_next s a e k al)
