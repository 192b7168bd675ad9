-- What a copy ensures, from what stands when its task has joined the four and read the tally.
use Rattle.std.proofs.Common.{refl, sym, ap, ◌∙◌, subst, arith}
use Rattle.std.specs.Prelude.{ℕ, ◌≡◌, ◌<◌, ◌-◌, ◌%◌, ◌^◌, List, [], ◌∷◌, Option, Result}
use Rattle.atomic_table.specs.Seated.{TableId}
use Rattle.bit_wait.specs.declared.wait_calls.BitEnd.{BitEnd}
use Rattle.wait_model.specs.declared.layout.TheConstants.{TASKS}
use Rattle.wait_rule.specs.{declared.journal.Item.Item, declared.journal.Journal.Journal, Ends.WasWorn}
use Rattle.wait_rule.specs.{Aside.GrowsAside, Known.Known, TallyLaws.tally_in}
use Rattle.wait_rule.specs.Journals.{fresh, has_of, pushed}
use Rattle.wait_rule.specs.Says.{IsShown, newcomer, seen_with}
use Rattle.wait_rule.proofs.WornHeads.WornNotes.{joined_late}
use Rattle.func_head.specs.Walks.{EntryState}
use Rattle.copy_plan.specs.{declared.plan.Planned.Planned, declared.stop.ReaderEnd.ReaderEnd, declared.stop.Stop.Stop}
use Rattle.copy_plan.specs.{declared.stop.WorkerEnd.WorkerEnd, Kinds.copy_stop}
use Rattle.copy_plan.specs.declared.TheConstants.{COUNTED_PAGE, SINK_PIPE, SOURCE_PIPE}
use Rattle.copy_plan.specs.declared.stop.Stop.TheVariants as stop
use Rattle.copy_ends.specs.Copied.{ControlEnds, Controlled, Copied, HoldsAll, HoldsGiven, NoneTaken, NotesAreLate, ReadTally, Watched, WearsLate, control_stop, joined_four, worker_numbers}
use Rattle.copy_ends.specs.Did.{ReaderDid, RelayDid, WriterDid}
use Rattle.copy_ends.proofs.Copied as copied
use Rattle.copy_ends.proofs.Crews.{grown_view}
use Rattle.copy_ends.proofs.JoinedFour.{four, four_has_all, has_four, has_one, has_three, has_two}
use Rattle.copy_ends.proofs.JoinedSums.{found_tally, four_counts, last_list, last_tally}
use Rattle.copy_plan.proofs.StopKinds.{finished_names_none}

-- the four tasks did their work, their lists were joined, and the tally was read
pub record Ended (domain : TableId) (one two three fourth old new : Known) (left_old left_new : Option (List ℕ))
    (reads_old reads_new : ℕ) (held_old held_new : Option (List ℕ)) (writes_old writes_new wants_old wants_new : ℕ)
    (seen_old seen_new : List EntryState) (plan : List Planned) (reader : ReaderEnd) (relay writer : WorkerEnd)
    (answer : Result ℕ BitEnd) (tally : ℕ) : Type 0 where
  pub reads : ReaderDid SOURCE_PIPE (newcomer domain 1 2 0) one left_old left_new reads_old reads_new
      worker_numbers plan reader
  pub relays : RelayDid (newcomer domain 2 3 0) two relay
  pub writes : WriterDid SINK_PIPE (newcomer domain 3 4 0) three held_old held_new writes_old writes_new wants_old wants_new
      seen_old seen_new writer
  pub controls : Controlled (newcomer domain 4 5 0) fourth
  pub ends : ControlEnds 3 (newcomer domain 4 5 0) fourth answer
  pub joined : old.view ≡ joined_four (fresh 0 5 (TASKS - 5)) one.view two.view three.view fourth.view
  pub shown : IsShown old.view
  pub found : ReadTally old new tally
  pub aside : GrowsAside old new

-- so it is where tasks of these numbers were forked, and their lists joined by the task that forked them
pub ended_of : (domain : TableId) (t1 t2 t3 t4 one two three fourth start old new : Known)
    (left_old left_new : Option (List ℕ)) (reads_old reads_new : ℕ) (held_old held_new : Option (List ℕ))
    (writes_old writes_new wants_old wants_new : ℕ) (seen_old seen_new : List EntryState) (plan : List Planned)
    (reader : ReaderEnd) (relay writer : WorkerEnd) (answer : Result ℕ BitEnd) (tally : ℕ) (targets : List ℕ)
    → targets ≡ worker_numbers → t1 ≡ newcomer domain 1 2 0 → t2 ≡ newcomer domain 2 3 0 → t3 ≡ newcomer domain 3 4 0 → t4 ≡ newcomer domain 4 5 0
    → start ≡ newcomer domain 0 5 (TASKS - 5)
    → ReaderDid SOURCE_PIPE t1 one left_old left_new reads_old reads_new targets plan reader → RelayDid t2 two relay
    → WriterDid SINK_PIPE t3 three held_old held_new writes_old writes_new wants_old wants_new seen_old seen_new writer
    → Controlled t4 fourth
    → ControlEnds 3 t4 fourth answer
    → old ≡ seen_with start (joined_four start.view one.view two.view three.view fourth.view) → IsShown old.view
    → ReadTally old new tally → GrowsAside old new
    → Ended domain one two three fourth old new left_old left_new reads_old reads_new held_old held_new writes_old
    writes_new wants_old wants_new seen_old seen_new plan reader relay writer answer tally
ended_of domain t1 t2 t3 t4 one two three fourth start old new left_old left_new reads_old reads_new held_old held_new
    writes_old writes_new wants_old wants_new seen_old seen_new plan reader relay writer answer tally targets
    numbers e1 e2 e3 e4 begins reads relays writes controls ends joined shown found aside = record {
      reads = subst (λ (k : Known). ReaderDid SOURCE_PIPE k one left_old left_new reads_old reads_new worker_numbers plan reader) e1
          (subst (λ (ns : List ℕ). ReaderDid SOURCE_PIPE t1 one left_old left_new reads_old reads_new ns plan reader) numbers
          reads);
      relays = subst (λ (k : Known). RelayDid k two relay) e2 relays;
      writes = subst
          (λ (k : Known). WriterDid SINK_PIPE k three held_old held_new writes_old writes_new wants_old wants_new seen_old
          seen_new writer) e3 writes;
      controls = subst (λ (k : Known). Controlled k fourth) e4 controls;
      ends = subst (λ (k : Known). ControlEnds 3 k fourth answer) e4 ends;
      joined = ap (λ (k : Known). k.view) joined
          ∙ ap (λ (k : Known). joined_four k.view one.view two.view three.view fourth.view) begins;
      shown = shown;
      found = found;
      aside = aside;
    }

-- the numbers of the three workers' tasks
pub numbers_are : (domain : TableId) (t1 t2 t3 : Known) (one two three : ℕ) → t1 ≡ newcomer domain 1 2 0
    → t2 ≡ newcomer domain 2 3 0 → t3 ≡ newcomer domain 3 4 0 → one ≡ t1.view.number → two ≡ t2.view.number
    → three ≡ t3.view.number → one ∷ two ∷ three ∷ [] ≡ worker_numbers
numbers_are domain t1 t2 t3 one two three e1 e2 e3 n1 n2 n3 =
    ap (λ (n : ℕ). n ∷ two ∷ three ∷ []) (n1 ∙ ap (λ (k : Known). k.view.number) e1)
    ∙ (ap (λ (n : ℕ). 1 ∷ n ∷ three ∷ []) (n2 ∙ ap (λ (k : Known). k.view.number) e2)
    ∙ ap (λ (n : ℕ). 1 ∷ 2 ∷ n ∷ []) (n3 ∙ ap (λ (k : Known). k.view.number) e3))

-- the journal that joined them, by their lists
four_same : (v a b c d x y z u : Journal) → a ≡ x → b ≡ y → c ≡ z → d ≡ u
    → joined_four v a b c d ≡ joined_four v x y z u
four_same v a b c d x y z u one two three last =
    ap (λ (j : Journal). joined_four v j b c d) one ∙ (ap (λ (j : Journal). joined_four v x j c d) two
    ∙ (ap (λ (j : Journal). joined_four v x y j d) three ∙ ap (λ (j : Journal). joined_four v x y z j) last))

module _ (domain : TableId) (one two three fourth old new : Known) (left_old left_new : Option (List ℕ))
    (reads_old reads_new : ℕ) (held_old held_new : Option (List ℕ)) (writes_old writes_new wants_old wants_new : ℕ)
    (seen_old seen_new : List EntryState) (plan : List Planned) (reader : ReaderEnd) (relay writer : WorkerEnd)
    (answer : Result ℕ BitEnd) (tally : ℕ) (e : Ended domain one two three fourth old new left_old left_new reads_old
    reads_new held_old held_new writes_old writes_new wants_old wants_new seen_old seen_new plan reader relay writer
    answer tally) where
  joined_is : old.view ≡ four one.view.items two.view.items three.view.items fourth.view.items
  joined_is = e.joined ∙ four_same (fresh 0 5 (TASKS - 5)) one.view two.view three.view fourth.view
      (pushed (fresh 1 2 0) one.view.items) (pushed (fresh 2 3 0) two.view.items)
      (pushed (fresh 3 4 0) three.view.items) (pushed (fresh 4 5 0) fourth.view.items)
      (grown_view domain 1 2 0 one e.reads.worked.served.grows)
      (grown_view domain 2 3 0 two e.relays.worked.served.grows)
      (grown_view domain 3 4 0 three e.writes.worked.served.grows)
      (grown_view domain 4 5 0 fourth e.controls.served.grows)

  shown_four : IsShown (four one.view.items two.view.items three.view.items fourth.view.items)
  shown_four = subst IsShown joined_is e.shown

  pub has_lists : (has_of 1 new.view ≡ one.view.items) × (has_of 2 new.view ≡ two.view.items)
      × (has_of 3 new.view ≡ three.view.items) × (has_of 4 new.view ≡ fourth.view.items)
  has_lists =
      let a = one.view.items in
      let b = two.view.items in
      let c = three.view.items in
      let d = fourth.view.items in (
        last_list (four a b c d) old new joined_is e.aside 1 refl ∙ has_one a b c d,
        last_list (four a b c d) old new joined_is e.aside 2 refl ∙ has_two a b c d,
        last_list (four a b c d) old new joined_is e.aside 3 refl ∙ has_three a b c d,
        last_list (four a b c d) old new joined_is e.aside 4 refl ∙ has_four a b c d,
      )

  -- a note in one of the lists is one in the table that showed them
  note_late : (t : ℕ) → t < TASKS → (list : List Item) → has_of t new.view ≡ list
      → has_of t (four one.view.items two.view.items three.view.items fourth.view.items) ≡ list
      → NotesAreLate (four one.view.items two.view.items three.view.items fourth.view.items) shown_four t new
  note_late t small list now then h p noted = joined_late
      (four one.view.items two.view.items three.view.items fourth.view.items) shown_four t h p
      (four_has_all one.view.items two.view.items three.view.items fourth.view.items t small)
      (subst (λ (l : List Item). WasWorn t l h p) (now ∙ sym then) noted)

  wears_late : WearsLate new
  wears_late =
      let a = one.view.items in
      let b = two.view.items in
      let c = three.view.items in
      let d = fourth.view.items in record {
        shown = four a b c d;
        law = shown_four;
        reader = note_late 1 (omega arith) a has_lists.0 (has_one a b c d);
        relay = note_late 2 (omega arith) b has_lists.1 (has_two a b c d);
        writer = note_late 3 (omega arith) c has_lists.2 (has_three a b c d);
        controller = note_late 4 (omega arith) d has_lists.3 (has_four a b c d);
      }

  pub is_copied : (how : Stop)
      → how ≡ copy_stop (reader.stop ∷ relay.stop ∷ writer.stop ∷ control_stop answer ∷ []) reader.kills
      → Copied domain new left_old left_new reads_old reads_new held_old held_new writes_old writes_new wants_old
      wants_new seen_old seen_new plan reader relay writer how answer
  is_copied how stops = record {
    one = one;
    two = two;
    three = three;
    four = fourth;
    reads = e.reads;
    relays = e.relays;
    writes = e.writes;
    controls = e.controls;
    lists = has_lists;
    ends = e.ends;
    stops = stops;
    late = wears_late;
  }

  pub takes_none : NoneTaken reader relay writer
  takes_none = copied.none_taken domain one two three fourth left_old left_new reads_old reads_new held_old held_new
      writes_old writes_new wants_old wants_new seen_old seen_new plan reader relay writer e.reads.worked
      e.relays.worked e.writes.worked e.controls shown_four

  pub holds_front : HoldsGiven left_old left_new held_old held_new
  holds_front = copied.holds_given domain one two three fourth left_old left_new reads_old reads_new held_old held_new
      writes_old writes_new wants_old wants_new seen_old seen_new plan reader relay writer e.reads.worked
      e.relays.worked e.writes.worked e.controls shown_four

  pub holds_watched : Watched left_old left_new held_old held_new seen_old seen_new writer.stop
  holds_watched = copied.holds_watched domain one two three fourth left_old left_new reads_old reads_new held_old
      held_new writes_old writes_new wants_old wants_new seen_old seen_new plan reader relay writer e.reads.worked
      e.relays.worked e.writes.worked e.controls shown_four

  pub counts_moved : tally ≡ tally_in COUNTED_PAGE new.view % 2 ^ 64
  counts_moved =
      let a = one.view.items in
      let b = two.view.items in
      let c = three.view.items in
      let d = fourth.view.items in
      found_tally (four a b c d) (four_has_all a b c d) old new tally joined_is e.found e.aside

  pub holds_whole : (how : Stop)
      → how ≡ copy_stop (reader.stop ∷ relay.stop ∷ writer.stop ∷ control_stop answer ∷ []) reader.kills
      → how ≡ stop.Finished → HoldsAll left_old held_old held_new seen_old seen_new reader relay writer tally
  holds_whole how stops done =
      let names = finished_names_none (reader.stop ∷ relay.stop ∷ writer.stop ∷ control_stop answer ∷ []) reader.kills
      (sym stops ∙ done) in
      let counted = copied.counted_all domain one two three fourth left_old left_new reads_old reads_new held_old
      held_new writes_old writes_new wants_old wants_new seen_old seen_new plan reader relay writer e.reads.worked
      e.relays.worked e.writes.worked e.controls shown_four names.kills names.each.0 names.each.1.0 names.each.1.1.0 in
      let sums = last_tally COUNTED_PAGE (four one.view.items two.view.items three.view.items fourth.view.items) old new
      joined_is e.aside
      ∙ four_counts COUNTED_PAGE one.view.items two.view.items three.view.items fourth.view.items in
      record {
        all = copied.all_finished domain one two three fourth left_old left_new reads_old reads_new held_old held_new
            writes_old writes_new wants_old wants_new seen_old seen_new plan reader relay writer e.reads.worked
            e.relays.worked e.writes.worked e.controls shown_four names.kills names.each.0 names.each.1.0 names.each.1.1.0;
        bytes = copied.holds_all domain one two three fourth left_old left_new reads_old reads_new held_old held_new
            writes_old writes_new wants_old wants_new seen_old seen_new plan reader relay writer e.reads.worked
            e.relays.worked e.writes.worked e.controls shown_four names.kills names.each.0 names.each.1.0 names.each.1.1.0;
        shows = copied.shows_all domain one two three fourth left_old left_new reads_old reads_new held_old held_new
            writes_old writes_new wants_old wants_new seen_old seen_new plan reader relay writer e.reads.worked
            e.relays.worked e.writes.worked e.controls shown_four names.kills names.each.0 names.each.1.0 names.each.1.1.0;
        moved = counts_moved ∙ ap (λ (n : ℕ). n % 2 ^ 64) (sums ∙ counted);
      }

-- all that a copy ensures of its end
pub record Ensured (domain : TableId) (one two three fourth new : Known) (left_old left_new : Option (List ℕ)) (reads_old reads_new : ℕ)
    (held_old held_new : Option (List ℕ)) (writes_old writes_new wants_old wants_new : ℕ)
    (seen_old seen_new : List EntryState) (plan : List Planned) (reader : ReaderEnd) (relay writer : WorkerEnd)
    (tally : ℕ) (how : Stop) (answer : Result ℕ BitEnd) : Type 0 where
  pub copied : Copied domain new left_old left_new reads_old reads_new held_old held_new writes_old writes_new wants_old
      wants_new seen_old seen_new plan reader relay writer how answer
  pub front : HoldsGiven left_old left_new held_old held_new
  pub watched : Watched left_old left_new held_old held_new seen_old seen_new writer.stop
  pub whole : how ≡ stop.Finished → HoldsAll left_old held_old held_new seen_old seen_new reader relay writer tally
  pub moved : tally ≡ tally_in COUNTED_PAGE new.view % 2 ^ 64
  pub none_taken : NoneTaken reader relay writer
  pub lists : (has_of 1 new.view ≡ one.view.items) × (has_of 2 new.view ≡ two.view.items)
      × (has_of 3 new.view ≡ three.view.items) × (has_of 4 new.view ≡ fourth.view.items)

pub ensured : (domain : TableId) (t1 t2 t3 t4 one two three fourth start old new : Known)
    (left_old left_new : Option (List ℕ)) (reads_old reads_new : ℕ) (held_old held_new : Option (List ℕ))
    (writes_old writes_new wants_old wants_new : ℕ) (seen_old seen_new : List EntryState) (plan : List Planned)
    (reader : ReaderEnd) (relay writer : WorkerEnd) (answer : Result ℕ BitEnd) (tally : ℕ) (how : Stop)
    (targets : List ℕ) → targets ≡ worker_numbers → t1 ≡ newcomer domain 1 2 0
    → t2 ≡ newcomer domain 2 3 0 → t3 ≡ newcomer domain 3 4 0 → t4 ≡ newcomer domain 4 5 0
    → start ≡ newcomer domain 0 5 (TASKS - 5)
    → ReaderDid SOURCE_PIPE t1 one left_old left_new reads_old reads_new targets plan reader → RelayDid t2 two relay
    → WriterDid SINK_PIPE t3 three held_old held_new writes_old writes_new wants_old wants_new seen_old seen_new writer
    → Controlled t4 fourth
    → ControlEnds 3 t4 fourth answer
    → old ≡ seen_with start (joined_four start.view one.view two.view three.view fourth.view) → IsShown old.view
    → ReadTally old new tally → GrowsAside old new
    → how ≡ copy_stop (reader.stop ∷ relay.stop ∷ writer.stop ∷ control_stop answer ∷ []) reader.kills
    → Ensured domain one two three fourth new left_old left_new reads_old reads_new held_old held_new writes_old
    writes_new wants_old wants_new seen_old seen_new plan reader relay writer tally how answer
ensured domain t1 t2 t3 t4 one two three fourth start old new left_old left_new reads_old reads_new held_old held_new
    writes_old writes_new wants_old wants_new seen_old seen_new plan reader relay writer answer tally how targets
    numbers e1 e2 e3 e4 begins reads relays writes controls ends joined shown found aside stops =
    let e = ended_of domain t1 t2 t3 t4 one two three fourth start old new left_old left_new reads_old reads_new
    held_old held_new writes_old writes_new wants_old wants_new seen_old seen_new plan reader relay writer answer tally
    targets numbers e1 e2 e3 e4 begins reads relays writes controls ends joined shown found aside in
    record {
      copied = is_copied domain one two three fourth old new left_old left_new reads_old reads_new held_old held_new
          writes_old writes_new wants_old wants_new seen_old seen_new plan reader relay writer answer tally e how stops;
      front = holds_front domain one two three fourth old new left_old left_new reads_old reads_new held_old held_new
          writes_old writes_new wants_old wants_new seen_old seen_new plan reader relay writer answer tally e;
      watched = holds_watched domain one two three fourth old new left_old left_new reads_old reads_new held_old
          held_new writes_old writes_new wants_old wants_new seen_old seen_new plan reader relay writer answer tally e;
      whole = holds_whole domain one two three fourth old new left_old left_new reads_old reads_new held_old held_new
          writes_old writes_new wants_old wants_new seen_old seen_new plan reader relay writer answer tally e how stops;
      moved = counts_moved domain one two three fourth old new left_old left_new reads_old reads_new held_old held_new
          writes_old writes_new wants_old wants_new seen_old seen_new plan reader relay writer answer tally e;
      none_taken = takes_none domain one two three fourth old new left_old left_new reads_old reads_new held_old
          held_new writes_old writes_new wants_old wants_new seen_old seen_new plan reader relay writer answer tally e;
      lists = has_lists domain one two three fourth old new left_old left_new reads_old reads_new held_old held_new
          writes_old writes_new wants_old wants_new seen_old seen_new plan reader relay writer answer tally e;
    }
