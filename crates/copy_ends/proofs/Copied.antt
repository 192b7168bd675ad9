-- The whole copy, from what each of its four tasks did and the laws of the lists that were joined.
use Rattle.std.proofs.Common.{refl, sym, ap, ◌∙◌, subst, arith, inl, inr}
use Rattle.std.specs.Prelude.{ℕ, ◌≡◌, ◌+◌, ◌*◌, ◌<◌, ◌⊎◌, ◌++◌, true, false, List, [], ◌∷◌, length}
use Rattle.std.specs.Prelude.{Option, Some, IfSome}
use Rattle.std.specs.Io.KnownBytes.{append_known}
use Rattle.atomic_table.specs.Seated.{TableId}
use Rattle.wait_model.specs.{declared.layout.TheConstants.CLAIMS, declared.layout.TheConstants.TASKS}
use Rattle.wait_model.specs.{SignalCounts.takes_fatal, Totals.total}
use Rattle.wait_rule.specs.{declared.journal.Item.Item, declared.journal.Journal.Journal, Items.steps_of}
use Rattle.wait_rule.specs.{Journals.has_of, Known.Known, TableLaws.HasAll, Tallies.amounts_of}
use Rattle.wait_rule.specs.Pipes.{Delivers, End, end_of, moved_bytes, read_end, was_refused, write_end}
use Rattle.wait_rule.specs.PipeSays.{end_at, reading, writing}
use Rattle.wait_rule.specs.Says.{IsShown, history_of, newcomer}
use Rattle.wait_pipe.specs.Pieces.{IsAtEnd}
use Rattle.edge_io.specs.Faults.{HasRisen}
use Rattle.func_head.specs.Walks.{EntryState}
use Rattle.copy_plan.specs.{declared.plan.Planned.Planned, declared.stop.ReaderEnd.ReaderEnd, declared.stop.Stop.Stop}
use Rattle.copy_plan.specs.{declared.stop.WorkerEnd.WorkerEnd, Plans.due_at, Plans.fatal_of, Stops.IfFinished}
use Rattle.copy_plan.specs.Stops.{IfTaken}
use Rattle.copy_plan.specs.declared.TheConstants.{COUNTED_PAGE, SINK_PIPE, SOURCE_PIPE}
use Rattle.copy_plan.specs.declared.stop.Stop.TheVariants as stop
use Rattle.copy_ends.specs.Copied.{AllFinished, Controlled, HoldsGiven, IsNotTaken, NoneTaken, Watched, worker_numbers}
use Rattle.copy_ends.specs.Did.{ReaderWorked, Refused, RelayWorked, WriterWorked}
use Rattle.copy_turns.specs.{Raises.kills_in, Watched.ShowsPieces, Work.TookKill}
use Rattle.copy_turns.specs.Turns.{IsReaderStop, IsRelayStop, IsWriterStop}
use Rattle.copy_ends.proofs.Crews.{delivers, nobody, of_each}
use Rattle.copy_ends.proofs.JoinedFour.{four, four_has_all, has_one, has_two, has_three}
use Rattle.copy_ends.proofs.RaisedNone.{RaisedNone, none_raised, took_none}
use Rattle.copy_ends.proofs.Rows.{gave_all, in_row, no_rest}
use Rattle.copy_plan.proofs.DueTimes.{due_at_kills}
use Rattle.copy_turns.proofs.Sends.{sent_kills}
use Rattle.copy_plan.proofs.StopKinds.{IsNamedNone, Plain, broken, finished, killed, named_none, taken}

-- stops
pub not_taken : (s : Stop) → (s ≡ stop.Taken → ⊥) → IsNotTaken s
not_taken stop.Taken f = f refl
not_taken stop.Finished f = tt
not_taken stop.Broken f = tt
not_taken stop.Killed f = tt
not_taken stop.ReadFault f = tt
not_taken stop.WriteFault f = tt
not_taken stop.Memory f = tt
not_taken stop.Long f = tt
not_taken (stop.Worn h p) f = tt

pub else_of : (s : Stop) (X Y : Type 0) → IsNotTaken s → IfTaken s X Y → Y
else_of stop.Taken X Y n y = absurd n
else_of stop.Finished X Y n y = y
else_of stop.Broken X Y n y = y
else_of stop.Killed X Y n y = y
else_of stop.ReadFault X Y n y = y
else_of stop.WriteFault X Y n y = y
else_of stop.Memory X Y n y = y
else_of stop.Long X Y n y = y
else_of (stop.Worn h p) X Y n y = y

pub taken_of : (s : Stop) (X Y : Type 0) → s ≡ stop.Taken → IfTaken s X Y → X
taken_of s X Y e x = subst (λ (how : Stop). IfTaken how X Y) e x

pub finished_of : (s : Stop) (X : Type 0) → s ≡ stop.Finished → IfFinished s X → X
finished_of s X e x = subst (λ (how : Stop). IfFinished how X) e x

pub stop_is : (s : Stop) → Plain s → IsNotTaken s → (s ≡ stop.Killed → ⊥) → (s ≡ stop.Broken → ⊥) → s ≡ stop.Finished
stop_is s (finished e) n k b = e
stop_is s (broken e) n k b = absurd (b e)
stop_is s (killed e) n k b = absurd (k e)
stop_is s (taken e) n k b = absurd (subst IsNotTaken e n)

-- what each of the four did
module _ (domain : TableId) (one two three fourth : Known) (left_old left_new : Option (List ℕ))
    (reads_old reads_new : ℕ) (held_old held_new : Option (List ℕ)) (writes_old writes_new wants_old wants_new : ℕ)
    (seen_old seen_new : List EntryState) (plan : List Planned)
    (reader : ReaderEnd) (relay writer : WorkerEnd)
    (reads : ReaderWorked SOURCE_PIPE (newcomer domain 1 2 0) one left_old left_new reads_old reads_new worker_numbers
    plan reader)
    (relays : RelayWorked (newcomer domain 2 3 0) two relay)
    (writes : WriterWorked SINK_PIPE (newcomer domain 3 4 0) three held_old held_new writes_old writes_new wants_old wants_new
    seen_old seen_new writer)
    (controls : Controlled (newcomer domain 4 5 0) fourth) where
  abbrev all_lists : Journal
  all_lists = four one.view.items two.view.items three.view.items fourth.view.items

  abbrev each_list : List (List Item)
  each_list = one.view.items ∷ two.view.items ∷ three.view.items ∷ fourth.view.items ∷ []

  has_each : HasAll all_lists
  has_each = four_has_all one.view.items two.view.items three.view.items fourth.view.items

  controller_lacks : (k : ℕ) → (end_at k fourth).mine ≡ false
  controller_lacks k = ap (λ (e : End). e.mine) (controls.ends k)

  pub none_taken : IsShown all_lists → NoneTaken reader relay writer
  none_taken shown = (
    not_taken reader.stop (λ e. reader_refused (taken_of reader.stop _ _ e reads.taken)),
    not_taken relay.stop (λ e. relay_refused (taken_of relay.stop _ _ e relays.taken)),
    not_taken writer.stop (λ e. writer_refused (taken_of writer.stop _ _ e writes.taken)),
  )
    where
      nobody_has : (k : ℕ) → k < CLAIMS → (end_at k one).mine ≡ false → (end_at k two).mine ≡ false
          → (end_at k three).mine ≡ false → (t : ℕ) → t < TASKS → was_refused k (has_of t all_lists) ≡ true → ⊥
      nobody_has k few a b c t small refused = nobody all_lists has_each shown k few
          (of_each (λ xs. (end_of k xs).mine ≡ false) each_list refl (a, (b, (c, (controller_lacks k, tt))))) t small refused

      refused_at : (k : ℕ) (xs ys : List Item) → ys ≡ xs → was_refused k xs ≡ true → was_refused k ys ≡ true
      refused_at k xs ys e r = ap (was_refused k) e ∙ r

      reader_refused : Refused (write_end SOURCE_PIPE) (newcomer domain 1 2 0) one → ⊥
      reader_refused r = nobody_has (write_end SOURCE_PIPE) (omega arith) r.mine
          (relays.claims (write_end SOURCE_PIPE) (omega arith) (omega arith))
          (writes.claims (write_end SOURCE_PIPE) (omega arith)) 1 (omega arith)
          (refused_at (write_end SOURCE_PIPE) one.view.items (has_of 1 all_lists)
          (has_one one.view.items two.view.items three.view.items fourth.view.items) r.refused)

      relay_refused : Refused (read_end SOURCE_PIPE) (newcomer domain 2 3 0) two
          ⊎ Refused (write_end SINK_PIPE) (newcomer domain 2 3 0) two → ⊥
      relay_refused (inl r) = nobody_has (read_end SOURCE_PIPE) (omega arith)
          (reads.claims (read_end SOURCE_PIPE) (omega arith)) r.mine
          (writes.claims (read_end SOURCE_PIPE) (omega arith)) 2 (omega arith)
          (refused_at (read_end SOURCE_PIPE) two.view.items (has_of 2 all_lists)
          (has_two one.view.items two.view.items three.view.items fourth.view.items) r.refused)
      relay_refused (inr r) = nobody_has (write_end SINK_PIPE) (omega arith)
          (reads.claims (write_end SINK_PIPE) (omega arith)) r.mine
          (writes.claims (write_end SINK_PIPE) (omega arith)) 2 (omega arith)
          (refused_at (write_end SINK_PIPE) two.view.items (has_of 2 all_lists)
          (has_two one.view.items two.view.items three.view.items fourth.view.items) r.refused)

      writer_refused : Refused (read_end SINK_PIPE) (newcomer domain 3 4 0) three → ⊥
      writer_refused r = nobody_has (read_end SINK_PIPE) (omega arith)
          (reads.claims (read_end SINK_PIPE) (omega arith))
          (relays.claims (read_end SINK_PIPE) (omega arith) (omega arith)) r.mine 3 (omega arith)
          (refused_at (read_end SINK_PIPE) three.view.items (has_of 3 all_lists)
          (has_three one.view.items two.view.items three.view.items fourth.view.items) r.refused)

  -- the ends of the two pipes
  module _ (shown : IsShown all_lists) where
    free : NoneTaken reader relay writer
    free = none_taken shown

    source_flow : Delivers (writing SOURCE_PIPE one) (reading SOURCE_PIPE two)
    source_flow = delivers all_lists has_each shown SOURCE_PIPE 1 2
        (omega arith) (omega arith) (omega arith) one.view.items two.view.items
        (has_one one.view.items two.view.items three.view.items fourth.view.items)
        (has_two one.view.items two.view.items three.view.items fourth.view.items)
        (else_of reader.stop _ _ free.0 reads.taken) (else_of relay.stop _ _ free.1 relays.taken).0

    sink_flow : Delivers (writing SINK_PIPE two) (reading SINK_PIPE three)
    sink_flow = delivers all_lists has_each shown SINK_PIPE 2 3
        (omega arith) (omega arith) (omega arith) two.view.items three.view.items
        (has_two one.view.items two.view.items three.view.items fourth.view.items)
        (has_three one.view.items two.view.items three.view.items fourth.view.items)
        (else_of relay.stop _ _ free.1 relays.taken).1 (else_of writer.stop _ _ free.2 writes.taken)

    pub holds_watched : Watched left_old left_new held_old held_new seen_old seen_new writer.stop
    holds_watched = record {
      given = reads.given;
      front = writes.front;
      rest = _;
      left = reads.left;
      parts = in_row reads.given (moved_bytes (writing SOURCE_PIPE one)) (moved_bytes (reading SOURCE_PIPE two))
          (moved_bytes (writing SINK_PIPE two)) (moved_bytes (reading SINK_PIPE three)) writes.front reads.rest _
          relays.rest _ writes.rest
          (reads.parts ∙ ap (λ (xs : List ℕ). xs ++ reads.rest) (sym (else_of reader.stop _ _ free.0 reads.sent)))
          source_flow.flows (else_of relay.stop _ _ free.1 relays.sent) sink_flow.flows
          (else_of writer.stop _ _ free.2 writes.got);
      held = writes.held;
      shows = writes.shows;
    }

    pub holds_given : HoldsGiven left_old left_new held_old held_new
    holds_given =
        let w = holds_watched in
        record {
          given = w.given;
          left = w.left;
          held = record { front = w.front; rest = w.rest; whole = w.parts; held = w.held };
        }

    -- no task took a fatal signal where none was sent
    module _ (none : reader.kills ≡ 0) where
      reader_raised : RaisedNone one.view.items
      reader_raised =
          let raised = else_of reader.stop _ _ free.0 reads.signals in
          let due = else_of reader.stop _ _ free.0 reads.dues in
          ap (λ rs. length (kills_in rs)) raised.all
          ∙ (sent_kills worker_numbers (due_at 0 raised.times plan)
          ∙ (due_at_kills 0 raised.times reader.read raised.rise plan
          ∙ (sym (ap (λ (ps : List Planned). length (fatal_of ps)) due) ∙ (sym reads.kills ∙ none))))

      took : (t : ℕ) → t < TASKS → total takes_fatal (steps_of (has_of t all_lists)) ≡ 0
      took = took_none all_lists has_each shown (of_each RaisedNone each_list refl (
        reader_raised,
        (
          none_raised two.view.items relays.signals,
          (
            none_raised three.view.items writes.signals,
            (none_raised fourth.view.items controls.signals, tt),
          ),
        ),
      ))

      not_killed : (t : ℕ) → t < TASKS → (k old : Known) → history_of old ≡ [] → has_of t all_lists ≡ k.view.items
          → TookKill old k → ⊥
      not_killed t few k old begins is kill =
          let zero : total takes_fatal (history_of k) ≡ 0 =
          ap (λ xs. total takes_fatal (steps_of xs)) (sym is) ∙ took t few in
          let start : total takes_fatal (history_of old) ≡ 0 = ap (total takes_fatal) begins in
          omega arith

      module _ (read_named : IsNamedNone reader.stop) (relay_named : IsNamedNone relay.stop)
          (writer_named : IsNamedNone writer.stop) where
        writer_finished : writer.stop ≡ stop.Finished
        writer_finished =
            let cause = else_of writer.stop _ _ free.2 writes.cause in
            stop_is writer.stop (named_none writer.stop writer_named) free.2
            (λ e. not_killed 3 (omega arith) three (newcomer domain 3 4 0) refl
            (has_three one.view.items two.view.items three.view.items fourth.view.items)
            (subst (λ (s : Stop). IsWriterStop SINK_PIPE (newcomer domain 3 4 0) three (HasRisen writes_old writes_new)
            (HasRisen wants_old wants_new) s) e cause))
            (λ e. subst (λ (s : Stop). IsWriterStop SINK_PIPE (newcomer domain 3 4 0) three (HasRisen writes_old writes_new)
            (HasRisen wants_old wants_new) s) e cause)

        sink_end : IsAtEnd (reading SINK_PIPE three)
        sink_end = subst (λ (s : Stop). IsWriterStop SINK_PIPE (newcomer domain 3 4 0) three (HasRisen writes_old writes_new)
            (HasRisen wants_old wants_new) s) writer_finished (else_of writer.stop _ _ free.2 writes.cause)

        relay_finished : relay.stop ≡ stop.Finished
        relay_finished =
            let cause = else_of relay.stop _ _ free.1 relays.cause in
            stop_is relay.stop (named_none relay.stop relay_named) free.1
            (λ e. not_killed 2 (omega arith) two (newcomer domain 2 3 0) refl
            (has_two one.view.items two.view.items three.view.items fourth.view.items)
            (subst (λ (s : Stop). IsRelayStop SOURCE_PIPE SINK_PIPE (newcomer domain 2 3 0) two s) e cause))
            (λ e. sink_flow.one (subst (λ (s : Stop). IsRelayStop SOURCE_PIPE SINK_PIPE (newcomer domain 2 3 0) two s) e cause)
            sink_end.ended)

        source_end : IsAtEnd (reading SOURCE_PIPE two)
        source_end = subst (λ (s : Stop). IsRelayStop SOURCE_PIPE SINK_PIPE (newcomer domain 2 3 0) two s) relay_finished
            (else_of relay.stop _ _ free.1 relays.cause)

        reader_finished : reader.stop ≡ stop.Finished
        reader_finished =
            let cause = else_of reader.stop _ _ free.0 reads.cause in
            stop_is reader.stop (named_none reader.stop read_named) free.0
            (λ e. not_killed 1 (omega arith) one (newcomer domain 1 2 0) refl
            (has_one one.view.items two.view.items three.view.items fourth.view.items)
            (subst (λ (s : Stop). IsReaderStop SOURCE_PIPE (newcomer domain 1 2 0) one (HasRisen reads_old reads_new) s) e cause))
            (λ e. source_flow.one
            (subst (λ (s : Stop). IsReaderStop SOURCE_PIPE (newcomer domain 1 2 0) one (HasRisen reads_old reads_new) s) e cause)
            source_end.ended)

        pub all_finished : AllFinished reader relay writer
        all_finished = record { reads = reader_finished; relays = relay_finished; writes = writer_finished }

        -- so nothing is left anywhere
        got_all : moved_bytes (reading SINK_PIPE three) ≡ writes.front
        got_all = no_rest (moved_bytes (reading SINK_PIPE three)) writes.front writes.rest
            (else_of writer.stop _ _ free.2 writes.got) (finished_of writer.stop _ writer_finished writes.all)

        passed_all : moved_bytes (reading SOURCE_PIPE two) ≡ moved_bytes (writing SINK_PIPE two)
        passed_all = no_rest (moved_bytes (reading SOURCE_PIPE two)) (moved_bytes (writing SINK_PIPE two)) relays.rest
            (else_of relay.stop _ _ free.1 relays.sent) (finished_of relay.stop _ relay_finished relays.all)

        put_all : reads.given ≡ moved_bytes (writing SOURCE_PIPE one)
        put_all = no_rest reads.given reads.front reads.rest reads.parts
            (finished_of reader.stop _ reader_finished reads.all) ∙ sym (else_of reader.stop _ _ free.0 reads.sent)

        relay_got : reads.given ≡ moved_bytes (reading SOURCE_PIPE two)
        relay_got = put_all ∙ source_flow.all source_end.ended source_end.all

        pub writer_got : reads.given ≡ writes.front
        writer_got = relay_got ∙ (passed_all ∙ (sink_flow.all sink_end.ended sink_end.all ∙ got_all))

        pub holds_all : IfSome left_old (λ bytes. held_new ≡ append_known held_old bytes)
        holds_all = gave_all (λ bytes. held_new ≡ append_known held_old bytes) left_old left_new reads.given reads.left
            (finished_of reader.stop _ reader_finished reads.whole)
            (writes.held ∙ ap (append_known held_old) (sym writer_got))

        pub shows_all : IfSome left_old (λ bytes. ShowsPieces seen_old seen_new bytes (Some stop.Finished))
        shows_all = gave_all (λ bytes. ShowsPieces seen_old seen_new bytes (Some stop.Finished)) left_old left_new reads.given
            reads.left (finished_of reader.stop _ reader_finished reads.whole)
            (subst (λ (bytes : List ℕ). ShowsPieces seen_old seen_new bytes (Some stop.Finished)) (sym writer_got)
            (subst (λ (s : Stop). ShowsPieces seen_old seen_new writes.front (Some s)) writer_finished writes.shows))

        -- and each byte was counted three times
        pub counted_all : amounts_of COUNTED_PAGE one.view.items + amounts_of COUNTED_PAGE two.view.items
            + amounts_of COUNTED_PAGE three.view.items + amounts_of COUNTED_PAGE fourth.view.items ≡ 3 * reader.read
        counted_all =
            let n = finished_of reader.stop _ reader_finished reads.counts in
            let m = finished_of relay.stop _ relay_finished relays.counts in
            let l = finished_of writer.stop _ writer_finished writes.counts in
            let first = ap length relay_got in
            let last = ap length writer_got in
            omega (
              arith,
              reads.counted.own,
              relays.counted.own,
              writes.counted.own,
              controls.sums COUNTED_PAGE,
              reads.read,
              n,
              m,
              l,
              first,
              last,
            )
