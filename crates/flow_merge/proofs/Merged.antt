-- The whole merge, from what each of its five tasks did and the laws of the lists that were joined.
use Rattle.std.proofs.Common.{refl, sym, ap, ◌∙◌, subst, arith, inl, inr, append_assoc, append-nil, length-append}
use Rattle.std.specs.Prelude.{ℕ, ◌≡◌, ◌+◌, ◌*◌, ◌<◌, ◌%◌, ◌^◌, ◌++◌, true, false, List, [], ◌∷◌, length, Result}
use Rattle.std.specs.Io.KnownBytes.{append_known}
use Rattle.atomic_table.specs.Seated.{TableId}
use Rattle.bit_wait.specs.declared.wait_calls.BitEnd.{BitEnd}
use Rattle.wait_model.specs.{declared.layout.TheConstants.CLAIMS, declared.layout.TheConstants.TASKS}
use Rattle.wait_model.specs.{SignalCounts.takes_fatal, Totals.total}
use Rattle.wait_rule.specs.{declared.journal.Item.Item, declared.journal.Journal.Journal, Items.steps_of}
use Rattle.wait_rule.specs.{Journals.has_of, Known.Known, TableLaws.HasAll, Tallies.amounts_of}
use Rattle.wait_rule.specs.Pipes.{Delivers, End, end_of, moved_bytes, read_end, was_refused, write_end}
use Rattle.wait_rule.specs.PipeSays.{end_at, reading, writing}
use Rattle.wait_rule.specs.Says.{IsShown, history_of, newcomer}
use Rattle.wait_pipe.specs.Pieces.{IsAtEnd}
use Rattle.edge_io.specs.Faults.{HasRisen}
use Rattle.copy_plan.specs.{declared.TheConstants.COUNTED_PAGE, declared.stop.ReaderEnd.ReaderEnd}
use Rattle.copy_plan.specs.{declared.stop.Stop.Stop, Plans.due_at}
use Rattle.copy_plan.specs.declared.stop.Stop.TheVariants as stop
use Rattle.copy_plan.proofs.{DueTimes.due_at_kills, StopKinds.IsNamedNone, StopKinds.named_none}
use Rattle.copy_turns.specs.{Raises.kills_in, Turns.IsReaderStop, Turns.IsWriterStop, Work.TookKill}
use Rattle.copy_turns.proofs.Sends.{sent_kills}
use Rattle.copy_ends.specs.Copied.{IsNotTaken}
use Rattle.copy_ends.specs.Did.{ReaderWorked, Refused, WriterWorked}
use Rattle.copy_ends.proofs.Copied.{else_of, finished_of, not_taken, stop_is, taken_of}
use Rattle.copy_ends.proofs.Crews.{crew, delivers, has_all, nobody, of_each}
use Rattle.copy_ends.proofs.RaisedNone.{RaisedNone, none_raised, took_none}
use Rattle.copy_ends.proofs.Rows.{gave_all, no_rest}
use Rattle.flow_merge.specs.declared.TheConstants.{LEFT_PIPE, MERGED_PIPE, RIGHT_PIPE}
use Rattle.flow_merge.specs.declared.sides.Side.{Side}
use Rattle.flow_merge.specs.declared.sides.Side.TheVariants as sides
use Rattle.flow_merge.specs.Merged.{Drawn, CrewEnds, SinkFilled, Five, FiveDid, HoldsMerged, IsFront, IsUnhurt}
use Rattle.flow_merge.specs.Merged.{MergesAll, NoneHurt, no_targets}
use Rattle.flow_merge.specs.Mergers.{HasEnds, IsMergerStop, LacksEnd, MergerWorked}
use Rattle.flow_merge.specs.Passed.{Piece, bytes_if, merged_bytes, bytes_of, read_of, sent_of, side_pipe}
use Rattle.flow_merge.proofs.Turns.{reads_whole, sends_whole}

-- the five lists, each under the number of its task
abbrev pub five_lists : Five → List (List Item)
five_lists k = k.left.view.items ∷ k.right.view.items ∷ k.merger.view.items ∷ k.writer.view.items
    ∷ k.controller.view.items ∷ []

abbrev pub joined : Five → Journal
joined k = crew (five_lists k)

pub has_left : (k : Five) → has_of 1 (joined k) ≡ k.left.view.items
has_left k = append-nil k.left.view.items

pub has_right : (k : Five) → has_of 2 (joined k) ≡ k.right.view.items
has_right k = append-nil k.right.view.items

pub has_merger : (k : Five) → has_of 3 (joined k) ≡ k.merger.view.items
has_merger k = append-nil k.merger.view.items

pub has_writer : (k : Five) → has_of 4 (joined k) ≡ k.writer.view.items
has_writer k = append-nil k.writer.view.items

pub has_controller : (k : Five) → has_of 5 (joined k) ≡ k.controller.view.items
has_controller k = append-nil k.controller.view.items

pub joined_has : (k : Five) → HasAll (joined k)
joined_has k = has_all (five_lists k) (omega arith)

-- a worker that neither wanted somebody else's end nor took a fatal signal
unhurt : (s : Stop) → IsNotTaken s → (s ≡ stop.Killed → ⊥) → IsUnhurt s
unhurt stop.Finished n k = tt
unhurt stop.Broken n k = tt
unhurt stop.Killed n k = absurd (k refl)
unhurt stop.Taken n k = absurd n
unhurt stop.ReadFault n k = tt
unhurt stop.WriteFault n k = tt
unhurt stop.Memory n k = tt
unhurt stop.Long n k = tt
unhurt (stop.Worn h p) n k = tt

-- what goes on to be a front
front_then : (xs ys zs : List ℕ) → IsFront xs ys → IsFront ys zs → IsFront xs zs
front_then xs ys zs one two = record {
  rest = one.rest ++ two.rest;
  whole = two.whole ∙ (ap (λ (l : List ℕ). l ++ two.rest) one.whole ∙ append_assoc xs one.rest two.rest);
}

front_is : (xs ys : List ℕ) → xs ≡ ys → IsFront xs ys
front_is xs ys e = record { rest = []; whole = sym e ∙ sym (append-nil xs) }

front_of : (xs ys rest : List ℕ) → ys ≡ xs ++ rest → IsFront xs ys
front_of xs ys rest e = record { rest = rest; whole = e }

-- the bytes of both sides are all bytes
piece_sides : (s : Side) (bytes left right all : List ℕ) → length left + length right ≡ length all
    → length (bytes_if sides.Left s bytes ++ left) + length (bytes_if sides.Right s bytes ++ right)
    ≡ length (bytes ++ all)
piece_sides sides.Left bytes left right all e =
    let f = length-append bytes left in let g = length-append bytes all in omega (arith, e, f, g)
piece_sides sides.Right bytes left right all e =
    let f = length-append bytes right in let g = length-append bytes all in omega (arith, e, f, g)

both_sides : (ps : List Piece) → length (bytes_of sides.Left ps) + length (bytes_of sides.Right ps)
    ≡ length (merged_bytes ps)
both_sides [] = refl
both_sides (p ∷ ps) = piece_sides p.side p.bytes (bytes_of sides.Left ps) (bytes_of sides.Right ps) (merged_bytes ps)
    (both_sides ps)

-- a reader with no plan raised no fatal signal
plans_none : (p number next : ℕ) (domain : TableId) (k : Known) (d : Drawn) (ended : ReaderEnd)
    → ReaderWorked p (newcomer domain number next 0) k d.left_old d.left_new d.faults_old d.faults_new no_targets []
    ended → IsNotTaken ended.stop → RaisedNone k.view.items
plans_none p number next domain k d ended r free =
    let raised = else_of ended.stop _ _ free r.signals in
    ap (λ rs. length (kills_in rs)) raised.all
    ∙ (sent_kills no_targets (due_at 0 raised.times [])
    ∙ due_at_kills 0 raised.times ended.read raised.rise [])

module _ (domain : TableId) (k : Five) (first second : Drawn) (into : SinkFilled) (ends : CrewEnds) (answer : Result ℕ BitEnd)
    (did : FiveDid domain k first second into ends answer) (shown : IsShown (joined k)) where
  abbrev lefts : ReaderWorked LEFT_PIPE (newcomer domain 1 2 0) k.left first.left_old first.left_new first.faults_old
      first.faults_new no_targets [] ends.left
  lefts = did.left.worked

  abbrev rights : ReaderWorked RIGHT_PIPE (newcomer domain 2 3 0) k.right second.left_old second.left_new
      second.faults_old second.faults_new no_targets [] ends.right
  rights = did.right.worked

  abbrev merges : MergerWorked (newcomer domain 3 4 0) k.merger ends.merger
  merges = did.merger.worked

  abbrev writes : WriterWorked MERGED_PIPE (newcomer domain 4 5 0) k.writer into.held_old into.held_new
      into.faults_old into.faults_new into.wants_old into.wants_new [] [] ends.writer
  writes = did.writer.worked

  has_each : HasAll (joined k)
  has_each = joined_has k

  controller_lacks : (j : ℕ) → (end_at j k.controller).mine ≡ false
  controller_lacks j = ap (λ (e : End). e.mine) (did.controls.ends j)

  nobody_has : (j : ℕ) → j < CLAIMS → (end_at j k.left).mine ≡ false → (end_at j k.right).mine ≡ false
      → (end_at j k.merger).mine ≡ false → (end_at j k.writer).mine ≡ false → (t : ℕ) → t < TASKS
      → (xs : List Item) → has_of t (joined k) ≡ xs → was_refused j xs ≡ true → ⊥
  nobody_has j few a b c d t small xs is refused = nobody (joined k) has_each shown j few
      (of_each (λ ys. (end_of j ys).mine ≡ false) (five_lists k) refl (a, (b, (c, (d, (controller_lacks j, tt))))))
      t small (ap (was_refused j) is ∙ refused)

  left_refused : Refused (write_end LEFT_PIPE) (newcomer domain 1 2 0) k.left → ⊥
  left_refused r = nobody_has (write_end LEFT_PIPE) (omega arith) r.mine
      (rights.claims (write_end LEFT_PIPE) (omega arith))
      (merges.claims (write_end LEFT_PIPE) (omega arith) (omega arith) (omega arith))
      (writes.claims (write_end LEFT_PIPE) (omega arith)) 1 (omega arith) k.left.view.items (has_left k) r.refused

  right_refused : Refused (write_end RIGHT_PIPE) (newcomer domain 2 3 0) k.right → ⊥
  right_refused r = nobody_has (write_end RIGHT_PIPE) (omega arith)
      (lefts.claims (write_end RIGHT_PIPE) (omega arith)) r.mine
      (merges.claims (write_end RIGHT_PIPE) (omega arith) (omega arith) (omega arith))
      (writes.claims (write_end RIGHT_PIPE) (omega arith)) 2 (omega arith) k.right.view.items (has_right k) r.refused

  merger_refused : (j : ℕ) → j < CLAIMS → (end_at j k.left).mine ≡ false → (end_at j k.right).mine ≡ false
      → (end_at j k.writer).mine ≡ false → Refused j (newcomer domain 3 4 0) k.merger → ⊥
  merger_refused j few a b d r = nobody_has j few a b r.mine d 3 (omega arith) k.merger.view.items (has_merger k)
      r.refused

  merger_lacks : LacksEnd (newcomer domain 3 4 0) k.merger → ⊥
  merger_lacks (inl r) = merger_refused (read_end LEFT_PIPE) (omega arith)
      (lefts.claims (read_end LEFT_PIPE) (omega arith)) (rights.claims (read_end LEFT_PIPE) (omega arith))
      (writes.claims (read_end LEFT_PIPE) (omega arith)) r
  merger_lacks (inr (inl r)) = merger_refused (read_end RIGHT_PIPE) (omega arith)
      (lefts.claims (read_end RIGHT_PIPE) (omega arith)) (rights.claims (read_end RIGHT_PIPE) (omega arith))
      (writes.claims (read_end RIGHT_PIPE) (omega arith)) r
  merger_lacks (inr (inr r)) = merger_refused (write_end MERGED_PIPE) (omega arith)
      (lefts.claims (write_end MERGED_PIPE) (omega arith)) (rights.claims (write_end MERGED_PIPE) (omega arith))
      (writes.claims (write_end MERGED_PIPE) (omega arith)) r

  writer_refused : Refused (read_end MERGED_PIPE) (newcomer domain 4 5 0) k.writer → ⊥
  writer_refused r = nobody_has (read_end MERGED_PIPE) (omega arith)
      (lefts.claims (read_end MERGED_PIPE) (omega arith)) (rights.claims (read_end MERGED_PIPE) (omega arith))
      (merges.claims (read_end MERGED_PIPE) (omega arith) (omega arith) (omega arith)) r.mine 4 (omega arith)
      k.writer.view.items (has_writer k) r.refused

  left_free : IsNotTaken ends.left.stop
  left_free = not_taken ends.left.stop (λ e. left_refused (taken_of ends.left.stop _ _ e lefts.taken))

  right_free : IsNotTaken ends.right.stop
  right_free = not_taken ends.right.stop (λ e. right_refused (taken_of ends.right.stop _ _ e rights.taken))

  merger_free : IsNotTaken ends.merger.stop
  merger_free = not_taken ends.merger.stop (λ e. merger_lacks (taken_of ends.merger.stop _ _ e merges.taken))

  writer_free : IsNotTaken ends.writer.stop
  writer_free = not_taken ends.writer.stop (λ e. writer_refused (taken_of ends.writer.stop _ _ e writes.taken))

  merger_has : HasEnds k.merger
  merger_has = else_of ends.merger.stop _ _ merger_free merges.taken

  -- what went through the three pipes
  left_flow : Delivers (writing LEFT_PIPE k.left) (reading LEFT_PIPE k.merger)
  left_flow = delivers (joined k) has_each shown LEFT_PIPE 1 3 (omega arith) (omega arith) (omega arith)
      k.left.view.items k.merger.view.items (has_left k) (has_merger k)
      (else_of ends.left.stop _ _ left_free lefts.taken) (merger_has.taps sides.Left)

  right_flow : Delivers (writing RIGHT_PIPE k.right) (reading RIGHT_PIPE k.merger)
  right_flow = delivers (joined k) has_each shown RIGHT_PIPE 2 3 (omega arith) (omega arith) (omega arith)
      k.right.view.items k.merger.view.items (has_right k) (has_merger k)
      (else_of ends.right.stop _ _ right_free rights.taken) (merger_has.taps sides.Right)

  merged_flow : Delivers (writing MERGED_PIPE k.merger) (reading MERGED_PIPE k.writer)
  merged_flow = delivers (joined k) has_each shown MERGED_PIPE 3 4 (omega arith) (omega arith) (omega arith)
      k.merger.view.items k.writer.view.items (has_merger k) (has_writer k) merger_has.pen
      (else_of ends.writer.stop _ _ writer_free writes.taken)

  got_side : (s : Side) → moved_bytes (reading (side_pipe s) k.merger) ≡ read_of s merges.passed
  got_side = else_of ends.merger.stop _ _ merger_free merges.got

  sent_all : moved_bytes (writing MERGED_PIPE k.merger) ≡ sent_of merges.passed
  sent_all = else_of ends.merger.stop _ _ merger_free merges.sent

  -- with every stop
  pub holds_merged : HoldsMerged first second into
  holds_merged = record {
    passed = merges.passed;
    left = record {
      given = lefts.given;
      left = lefts.left;
      front = front_then (read_of sides.Left merges.passed) (moved_bytes (reading LEFT_PIPE k.merger)) lefts.given
          (front_is (read_of sides.Left merges.passed) (moved_bytes (reading LEFT_PIPE k.merger))
          (sym (got_side sides.Left)))
          (front_then (moved_bytes (reading LEFT_PIPE k.merger)) (moved_bytes (writing LEFT_PIPE k.left)) lefts.given
          (front_of (moved_bytes (reading LEFT_PIPE k.merger)) (moved_bytes (writing LEFT_PIPE k.left)) _
          left_flow.flows)
          (front_of (moved_bytes (writing LEFT_PIPE k.left)) lefts.given lefts.rest
          (lefts.parts ∙ ap (λ (xs : List ℕ). xs ++ lefts.rest)
          (sym (else_of ends.left.stop _ _ left_free lefts.sent)))));
    };
    right = record {
      given = rights.given;
      left = rights.left;
      front = front_then (read_of sides.Right merges.passed) (moved_bytes (reading RIGHT_PIPE k.merger)) rights.given
          (front_is (read_of sides.Right merges.passed) (moved_bytes (reading RIGHT_PIPE k.merger))
          (sym (got_side sides.Right)))
          (front_then (moved_bytes (reading RIGHT_PIPE k.merger)) (moved_bytes (writing RIGHT_PIPE k.right))
          rights.given (front_of (moved_bytes (reading RIGHT_PIPE k.merger)) (moved_bytes (writing RIGHT_PIPE k.right))
          _ right_flow.flows)
          (front_of (moved_bytes (writing RIGHT_PIPE k.right)) rights.given rights.rest
          (rights.parts ∙ ap (λ (xs : List ℕ). xs ++ rights.rest)
          (sym (else_of ends.right.stop _ _ right_free rights.sent)))));
    };
    held = record {
      front = writes.front;
      rest = sink_front.rest;
      whole = sink_front.whole;
      held = writes.held;
    };
  }
    where
      sink_front : IsFront writes.front (sent_of merges.passed)
      sink_front = front_then writes.front (moved_bytes (reading MERGED_PIPE k.writer)) (sent_of merges.passed)
          (front_of writes.front (moved_bytes (reading MERGED_PIPE k.writer)) writes.rest
          (else_of ends.writer.stop _ _ writer_free writes.got))
          (front_of (moved_bytes (reading MERGED_PIPE k.writer)) (sent_of merges.passed) _
          (sym sent_all ∙ merged_flow.flows))

  -- no task took a fatal signal
  took : (t : ℕ) → t < TASKS → total takes_fatal (steps_of (has_of t (joined k))) ≡ 0
  took = took_none (joined k) has_each shown (of_each RaisedNone (five_lists k) refl (
    plans_none LEFT_PIPE 1 2 domain k.left first ends.left lefts left_free,
    (
      plans_none RIGHT_PIPE 2 3 domain k.right second ends.right rights right_free,
      (
        none_raised k.merger.view.items merges.signals,
        (
          none_raised k.writer.view.items writes.signals,
          (none_raised k.controller.view.items did.controls.signals, tt),
        ),
      ),
    ),
  ))

  not_killed : (t : ℕ) → t < TASKS → (j old : Known) → history_of old ≡ [] → has_of t (joined k) ≡ j.view.items
      → TookKill old j → ⊥
  not_killed t few j old begins is kill =
      let zero : total takes_fatal (history_of j) ≡ 0 =
      ap (λ xs. total takes_fatal (steps_of xs)) (sym is) ∙ took t few in
      let start : total takes_fatal (history_of old) ≡ 0 = ap (total takes_fatal) begins in
      omega arith

  abbrev IsLeft : Stop → Type 0
  IsLeft = IsReaderStop LEFT_PIPE (newcomer domain 1 2 0) k.left (HasRisen first.faults_old first.faults_new)

  abbrev IsRight : Stop → Type 0
  IsRight = IsReaderStop RIGHT_PIPE (newcomer domain 2 3 0) k.right (HasRisen second.faults_old second.faults_new)

  abbrev IsMerger : Stop → Type 0
  IsMerger = IsMergerStop (newcomer domain 3 4 0) k.merger

  abbrev IsWriter : Stop → Type 0
  IsWriter = IsWriterStop MERGED_PIPE (newcomer domain 4 5 0) k.writer (HasRisen into.faults_old into.faults_new)
      (HasRisen into.wants_old into.wants_new)

  left_cause : IsLeft ends.left.stop
  left_cause = else_of ends.left.stop _ _ left_free lefts.cause

  right_cause : IsRight ends.right.stop
  right_cause = else_of ends.right.stop _ _ right_free rights.cause

  merger_cause : IsMerger ends.merger.stop
  merger_cause = else_of ends.merger.stop _ _ merger_free merges.cause

  writer_cause : IsWriter ends.writer.stop
  writer_cause = else_of ends.writer.stop _ _ writer_free writes.cause

  left_lives : ends.left.stop ≡ stop.Killed → ⊥
  left_lives e = not_killed 1 (omega arith) k.left (newcomer domain 1 2 0) refl (has_left k)
      (subst IsLeft e left_cause)

  right_lives : ends.right.stop ≡ stop.Killed → ⊥
  right_lives e = not_killed 2 (omega arith) k.right (newcomer domain 2 3 0) refl (has_right k)
      (subst IsRight e right_cause)

  merger_lives : ends.merger.stop ≡ stop.Killed → ⊥
  merger_lives e = not_killed 3 (omega arith) k.merger (newcomer domain 3 4 0) refl (has_merger k)
      (subst IsMerger e merger_cause)

  writer_lives : ends.writer.stop ≡ stop.Killed → ⊥
  writer_lives e = not_killed 4 (omega arith) k.writer (newcomer domain 4 5 0) refl (has_writer k)
      (subst IsWriter e writer_cause)

  pub none_hurt : NoneHurt ends
  none_hurt = record {
    left = unhurt ends.left.stop left_free left_lives;
    right = unhurt ends.right.stop right_free right_lives;
    merger = unhurt ends.merger.stop merger_free merger_lives;
    writer = unhurt ends.writer.stop writer_free writer_lives;
  }

  -- where no stop is one that a merge names
  module _ (left_named : IsNamedNone ends.left.stop) (right_named : IsNamedNone ends.right.stop)
      (merger_named : IsNamedNone ends.merger.stop) (writer_named : IsNamedNone ends.writer.stop) where
    writer_finished : ends.writer.stop ≡ stop.Finished
    writer_finished = stop_is ends.writer.stop (named_none ends.writer.stop writer_named) writer_free writer_lives
        (λ e. subst IsWriter e writer_cause)

    merged_end : IsAtEnd (reading MERGED_PIPE k.writer)
    merged_end = subst IsWriter writer_finished writer_cause

    merger_finished : ends.merger.stop ≡ stop.Finished
    merger_finished = stop_is ends.merger.stop (named_none ends.merger.stop merger_named) merger_free merger_lives
        (λ e. merged_flow.one (subst IsMerger e merger_cause) merged_end.ended)

    left_end : IsAtEnd (reading LEFT_PIPE k.merger)
    left_end = (subst IsMerger merger_finished merger_cause).0

    right_end : IsAtEnd (reading RIGHT_PIPE k.merger)
    right_end = (subst IsMerger merger_finished merger_cause).1

    left_finished : ends.left.stop ≡ stop.Finished
    left_finished = stop_is ends.left.stop (named_none ends.left.stop left_named) left_free left_lives
        (λ e. left_flow.one (subst IsLeft e left_cause) left_end.ended)

    right_finished : ends.right.stop ≡ stop.Finished
    right_finished = stop_is ends.right.stop (named_none ends.right.stop right_named) right_free right_lives
        (λ e. right_flow.one (subst IsRight e right_cause) right_end.ended)

    -- so nothing is left anywhere
    nothing_more : merges.passed.part.bytes ≡ []
    nothing_more = finished_of ends.merger.stop _ merger_finished merges.all

    left_whole : lefts.given ≡ bytes_of sides.Left merges.passed.pieces
    left_whole = no_rest lefts.given lefts.front lefts.rest lefts.parts
        (finished_of ends.left.stop _ left_finished lefts.all)
        ∙ (sym (else_of ends.left.stop _ _ left_free lefts.sent) ∙ (left_flow.all left_end.ended left_end.all
        ∙ (got_side sides.Left ∙ reads_whole sides.Left merges.passed nothing_more)))

    right_whole : rights.given ≡ bytes_of sides.Right merges.passed.pieces
    right_whole = no_rest rights.given rights.front rights.rest rights.parts
        (finished_of ends.right.stop _ right_finished rights.all)
        ∙ (sym (else_of ends.right.stop _ _ right_free rights.sent) ∙ (right_flow.all right_end.ended right_end.all
        ∙ (got_side sides.Right ∙ reads_whole sides.Right merges.passed nothing_more)))

    sink_whole : merged_bytes merges.passed.pieces ≡ writes.front
    sink_whole = sym (sends_whole merges.passed nothing_more) ∙ (sym sent_all
        ∙ (merged_flow.all merged_end.ended merged_end.all
        ∙ no_rest (moved_bytes (reading MERGED_PIPE k.writer)) writes.front writes.rest
        (else_of ends.writer.stop _ _ writer_free writes.got)
        (finished_of ends.writer.stop _ writer_finished writes.all)))

    -- and each byte was counted three times
    pub counted_all : amounts_of COUNTED_PAGE k.left.view.items + (amounts_of COUNTED_PAGE k.right.view.items
        + (amounts_of COUNTED_PAGE k.merger.view.items + (amounts_of COUNTED_PAGE k.writer.view.items
        + amounts_of COUNTED_PAGE k.controller.view.items))) ≡ 3 * (ends.left.read + ends.right.read)
    counted_all =
        let a = finished_of ends.left.stop _ left_finished lefts.counts in
        let b = finished_of ends.right.stop _ right_finished rights.counts in
        let c = finished_of ends.merger.stop _ merger_finished merges.counts in
        let d = finished_of ends.writer.stop _ writer_finished writes.counts in
        let l = ap length left_whole in
        let r = ap length right_whole in
        let s = ap length sink_whole in
        let both = both_sides merges.passed.pieces in
        omega (
          arith,
          lefts.counted.own,
          rights.counted.own,
          merges.counted.own,
          writes.counted.own,
          did.controls.sums COUNTED_PAGE,
          lefts.read,
          rights.read,
          a,
          b,
          c,
          d,
          l,
          r,
          s,
          both,
        )

    pub merges_all : (tally : ℕ) → tally ≡ 3 * (ends.left.read + ends.right.read) % 2 ^ 64
        → MergesAll first second into ends tally
    merges_all tally moved = record {
      all = record {
        left = left_finished;
        right = right_finished;
        merger = merger_finished;
        writer = writer_finished;
      };
      pieces = merges.passed.pieces;
      left = gave_all (λ bytes. bytes ≡ bytes_of sides.Left merges.passed.pieces) first.left_old first.left_new
          lefts.given lefts.left (finished_of ends.left.stop _ left_finished lefts.whole) left_whole;
      right = gave_all (λ bytes. bytes ≡ bytes_of sides.Right merges.passed.pieces) second.left_old second.left_new
          rights.given rights.left (finished_of ends.right.stop _ right_finished rights.whole) right_whole;
      held = writes.held ∙ ap (append_known into.held_old) (sym sink_whole);
      moved = moved;
    }
