-- What a merge ensures, from what stands when its task has joined the five and read the tally.
use Rattle.std.proofs.Common.{refl, sym, ap, ◌∙◌, subst, arith}
use Rattle.std.proofs.lemmas.Bool.{false≢true}
use Rattle.std.specs.Prelude.{ℕ, ◌≡◌, ◌+◌, ◌<◌, ◌-◌, ◌%◌, ◌^◌, if◌then◌else◌, Bool, true, false, List, [], ◌∷◌, Result}
use Rattle.atomic_table.specs.Seated.{TableId}
use Rattle.bit_wait.specs.declared.wait_calls.BitEnd.{BitEnd}
use Rattle.wait_model.specs.declared.layout.TheConstants.{TASKS}
use Rattle.wait_rule.specs.{declared.journal.Item.Item, declared.journal.Journal.Journal, Aside.GrowsAside}
use Rattle.wait_rule.specs.{Ends.WasWorn, Known.Known, Tallies.amounts_of, TallyLaws.tally_in}
use Rattle.wait_rule.specs.Journals.{fresh, has_of, pushed}
use Rattle.wait_rule.specs.Says.{IsClean, IsShown, newcomer, seen_with}
use Rattle.wait_rule.proofs.{KnownLaws.CountedTallies.newcomers_count_none, WornHeads.WornNotes.joined_late}
use Rattle.copy_plan.specs.{declared.TheConstants.COUNTED_PAGE, declared.kinds.Kind.Kind, declared.stop.Stop.Stop}
use Rattle.copy_plan.specs.Kinds.{copy_stop, first_or, is_of}
use Rattle.copy_plan.specs.declared.kinds.Kind.TheVariants as kind
use Rattle.copy_plan.specs.declared.stop.Stop.TheVariants as stop
use Rattle.copy_plan.proofs.StopKinds.{finished_names_none}
use Rattle.copy_ends.specs.Copied.{ControlEnds, Controlled, HasNoSteps, NotesAreLate, ReadTally, joined_all}
use Rattle.copy_ends.specs.Did.{ReaderDid, WriterDid}
use Rattle.flow_copy.specs.Workers.{ControllerGoes, FromSource, ReaderGoes, WriterGoes}
use Rattle.copy_ends.proofs.Crews.{crew, grown_view, of_each, parts_from}
use Rattle.copy_ends.proofs.Idlers.{joined_clean}
use Rattle.copy_ends.proofs.JoinedSums.{found_tally, joined_counts, last_list, last_tally, one_counts}
use Rattle.flow_merge.specs.{Mergers.MergerDid, MergerWords.MergerGoes}
use Rattle.flow_merge.specs.Merged.{Drawn, CrewEnds, SinkFilled, Five, FiveDid, FollowsMerge, HasFive, HoldsMerged}
use Rattle.flow_merge.specs.Merged.{IsMergeStop, Merged, MergesAll, NoneHurt, no_targets, stops_of}
use Rattle.flow_merge.specs.declared.TheConstants.{LEFT_PIPE, MERGED_PIPE, RIGHT_PIPE}
use Rattle.flow_merge.proofs.Merged.{counted_all, has_controller, has_left, has_merger, has_right, has_writer}
use Rattle.flow_merge.proofs.Merged.{holds_merged, joined, joined_has, merges_all, none_hurt}

-- how a merge stops
named_stop : (k : Kind) (s : Stop) → is_of k s ≡ true → IsMergeStop s
named_stop k stop.Finished e = tt
named_stop k stop.Broken e = absurd (by k e)
  where
    by : (k : Kind) → is_of k stop.Broken ≡ true → ⊥
    by kind.Memory e = false≢true e
    by kind.Worn e = false≢true e
    by kind.ReadFault e = false≢true e
    by kind.WriteFault e = false≢true e
    by kind.Long e = false≢true e
named_stop k stop.Killed e = absurd (by k e)
  where
    by : (k : Kind) → is_of k stop.Killed ≡ true → ⊥
    by kind.Memory e = false≢true e
    by kind.Worn e = false≢true e
    by kind.ReadFault e = false≢true e
    by kind.WriteFault e = false≢true e
    by kind.Long e = false≢true e
named_stop k stop.Taken e = absurd (by k e)
  where
    by : (k : Kind) → is_of k stop.Taken ≡ true → ⊥
    by kind.Memory e = false≢true e
    by kind.Worn e = false≢true e
    by kind.ReadFault e = false≢true e
    by kind.WriteFault e = false≢true e
    by kind.Long e = false≢true e
named_stop k stop.ReadFault e = tt
named_stop k stop.WriteFault e = tt
named_stop k stop.Memory e = tt
named_stop k stop.Long e = tt
named_stop k (stop.Worn h p) e = tt

first_stop : (k : Kind) (ss : List Stop) (other : Stop) → IsMergeStop other → IsMergeStop (first_or k ss other)
first_stop k [] other is = is
first_stop k (s ∷ ss) other is = by (is_of k s) refl (first_stop k ss other is)
  where
    by : (b : Bool) → is_of k s ≡ b → IsMergeStop (first_or k ss other)
        → IsMergeStop (if b then s else first_or k ss other)
    by true e rest = named_stop k s e
    by false e rest = rest

pub merge_stops : (ss : List Stop) → IsMergeStop (copy_stop ss 0)
merge_stops ss =
    let long : Stop = first_or kind.Long ss stop.Finished in
    let unwritten : Stop = first_or kind.WriteFault ss long in
    let unread : Stop = first_or kind.ReadFault ss unwritten in
    let worn : Stop = first_or kind.Worn ss unread in
    first_stop kind.Memory ss worn (first_stop kind.Worn ss unread (first_stop kind.ReadFault ss unwritten
    (first_stop kind.WriteFault ss long (first_stop kind.Long ss stop.Finished tt))))

-- the views of the five, joined
abbrev pub views_of : Five → List Journal
views_of k = k.left.view ∷ k.right.view ∷ k.merger.view ∷ k.writer.view ∷ k.controller.view ∷ []

five_same : (v a b c d e x y z u w : Journal) → a ≡ x → b ≡ y → c ≡ z → d ≡ u → e ≡ w
    → joined_all v (a ∷ b ∷ c ∷ d ∷ e ∷ []) ≡ joined_all v (x ∷ y ∷ z ∷ u ∷ w ∷ [])
five_same v a b c d e x y z u w one two three four five =
    ap (λ (j : Journal). joined_all v (j ∷ b ∷ c ∷ d ∷ e ∷ [])) one
    ∙ (ap (λ (j : Journal). joined_all v (x ∷ j ∷ c ∷ d ∷ e ∷ [])) two
    ∙ (ap (λ (j : Journal). joined_all v (x ∷ y ∷ j ∷ d ∷ e ∷ [])) three
    ∙ (ap (λ (j : Journal). joined_all v (x ∷ y ∷ z ∷ j ∷ e ∷ [])) four
    ∙ ap (λ (j : Journal). joined_all v (x ∷ y ∷ z ∷ u ∷ j ∷ [])) five)))

pub five_counts : (p : ℕ) (k : Five) → tally_in p (joined k) ≡ amounts_of p k.left.view.items
    + (amounts_of p k.right.view.items + (amounts_of p k.merger.view.items
    + (amounts_of p k.writer.view.items + amounts_of p k.controller.view.items)))
five_counts p k =
    let v : Journal = fresh 0 6 (TASKS - 6) in
    let a : Journal = pushed (fresh 1 2 0) k.left.view.items in
    let b : Journal = pushed (fresh 2 3 0) k.right.view.items in
    let c : Journal = pushed (fresh 3 4 0) k.merger.view.items in
    let d : Journal = pushed (fresh 4 5 0) k.writer.view.items in
    let e : Journal = pushed (fresh 5 6 0) k.controller.view.items in
    let all : tally_in p (joined k) ≡ tally_in p v + (tally_in p a + (tally_in p b + (tally_in p c
    + (tally_in p d + (tally_in p e + 0))))) =
    joined_counts p v (a ∷ b ∷ c ∷ d ∷ e ∷ []) (refl, (refl, (refl, (refl, (refl, tt))))) in
    let n0 = newcomers_count_none 0 6 (TASKS - 6) p in
    let n1 = one_counts 1 2 0 p k.left.view.items (omega arith) in
    let n2 = one_counts 2 3 0 p k.right.view.items (omega arith) in
    let n3 = one_counts 3 4 0 p k.merger.view.items (omega arith) in
    let n4 = one_counts 4 5 0 p k.writer.view.items (omega arith) in
    let n5 = one_counts 5 6 0 p k.controller.view.items (omega arith) in
    omega (arith, all, n0, n1, n2, n3, n4, n5)

-- the five did their work, their lists were joined, and the tally was read
pub record Ended (domain : TableId) (k : Five) (old new : Known) (first second : Drawn) (into : SinkFilled) (ends : CrewEnds)
    (answer : Result ℕ BitEnd) (tally : ℕ) : Type 0 where
  pub did : FiveDid domain k first second into ends answer
  pub joined : old.view ≡ joined_all (fresh 0 6 (TASKS - 6)) (views_of k)
  pub shown : IsShown old.view
  pub found : ReadTally old new tally
  pub aside : GrowsAside old new

-- all that a merge ensures of its end
pub record Ensured (domain : TableId) (k : Five) (new : Known) (first second : Drawn) (into : SinkFilled) (ends : CrewEnds)
    (how : Stop) (answer : Result ℕ BitEnd) (tally : ℕ) : Type 0 where
  pub merged : Merged domain new first second into ends how answer
  pub front : HoldsMerged first second into
  pub whole : how ≡ stop.Finished → MergesAll first second into ends tally
  pub moved : tally ≡ tally_in COUNTED_PAGE new.view % 2 ^ 64
  pub stops : IsMergeStop how
  pub unhurt : NoneHurt ends
  pub lists : HasFive new.view k

module _ (domain : TableId) (k : Five) (old new : Known) (first second : Drawn) (into : SinkFilled) (ends : CrewEnds)
    (answer : Result ℕ BitEnd) (tally : ℕ) (e : Ended domain k old new first second into ends answer tally) where
  joined_is : old.view ≡ joined k
  joined_is = e.joined ∙ five_same (fresh 0 6 (TASKS - 6)) k.left.view k.right.view k.merger.view k.writer.view
      k.controller.view (pushed (fresh 1 2 0) k.left.view.items) (pushed (fresh 2 3 0) k.right.view.items)
      (pushed (fresh 3 4 0) k.merger.view.items) (pushed (fresh 4 5 0) k.writer.view.items)
      (pushed (fresh 5 6 0) k.controller.view.items)
      (grown_view domain 1 2 0 k.left e.did.left.worked.served.grows)
      (grown_view domain 2 3 0 k.right e.did.right.worked.served.grows)
      (grown_view domain 3 4 0 k.merger e.did.merger.worked.served.grows)
      (grown_view domain 4 5 0 k.writer e.did.writer.worked.served.grows)
      (grown_view domain 5 6 0 k.controller e.did.controls.served.grows)

  shown_five : IsShown (joined k)
  shown_five = subst IsShown joined_is e.shown

  lists : HasFive new.view k
  lists = record {
    left = last_list (joined k) old new joined_is e.aside 1 refl ∙ has_left k;
    right = last_list (joined k) old new joined_is e.aside 2 refl ∙ has_right k;
    merger = last_list (joined k) old new joined_is e.aside 3 refl ∙ has_merger k;
    writer = last_list (joined k) old new joined_is e.aside 4 refl ∙ has_writer k;
    controller = last_list (joined k) old new joined_is e.aside 5 refl ∙ has_controller k;
  }

  note_late : (t : ℕ) → t < TASKS → (list : List Item) → has_of t new.view ≡ list → has_of t (joined k) ≡ list
      → NotesAreLate (joined k) shown_five t new
  note_late t small list now was h p noted = joined_late (joined k) shown_five t h p (joined_has k t small)
      (subst (λ (l : List Item). WasWorn t l h p) (now ∙ sym was) noted)

  moved : tally ≡ tally_in COUNTED_PAGE new.view % 2 ^ 64
  moved = found_tally (joined k) (joined_has k) old new tally joined_is e.found e.aside

  pub ensured : (how : Stop) → how ≡ copy_stop (stops_of ends answer) 0
      → Ensured domain k new first second into ends how answer tally
  ensured how stops = record {
    merged = record {
      five = k;
      did = e.did;
      lists = lists;
      stops = stops;
      late = record {
        shown = joined k;
        law = shown_five;
        left = note_late 1 (omega arith) k.left.view.items lists.left (has_left k);
        right = note_late 2 (omega arith) k.right.view.items lists.right (has_right k);
        merger = note_late 3 (omega arith) k.merger.view.items lists.merger (has_merger k);
        writer = note_late 4 (omega arith) k.writer.view.items lists.writer (has_writer k);
        controller = note_late 5 (omega arith) k.controller.view.items lists.controller (has_controller k);
      };
    };
    front = holds_merged domain k first second into ends answer e.did shown_five;
    whole = λ done.
        let names = finished_names_none (stops_of ends answer) 0 (sym stops ∙ done) in
        let counted = counted_all domain k first second into ends answer e.did shown_five names.each.0
        names.each.1.0 names.each.1.1.0 names.each.1.1.1.0 in
        merges_all domain k first second into ends answer e.did shown_five names.each.0 names.each.1.0
        names.each.1.1.0 names.each.1.1.1.0 tally (moved ∙ ap (λ (n : ℕ). n % 2 ^ 64)
        (last_tally COUNTED_PAGE (joined k) old new joined_is e.aside ∙ (five_counts COUNTED_PAGE k ∙ counted)));
    moved = moved;
    stops = subst IsMergeStop (sym stops) (merge_stops (stops_of ends answer));
    unhurt = none_hurt domain k first second into ends answer e.did shown_five;
    lists = lists;
  }

-- the five were forked with these numbers, and joined by the task that forked them
pub ended_of : (domain : TableId) (t1 t2 t3 t4 t5 : Known) (k : Five) (start old new : Known) (first second : Drawn)
    (into : SinkFilled) (ends : CrewEnds) (answer : Result ℕ BitEnd) (tally : ℕ) → t1 ≡ newcomer domain 1 2 0
    → t2 ≡ newcomer domain 2 3 0 → t3 ≡ newcomer domain 3 4 0 → t4 ≡ newcomer domain 4 5 0
    → t5 ≡ newcomer domain 5 6 0 → start ≡ newcomer domain 0 6 (TASKS - 6)
    → ReaderDid LEFT_PIPE t1 k.left first.left_old first.left_new first.faults_old first.faults_new no_targets []
    ends.left
    → ReaderDid RIGHT_PIPE t2 k.right second.left_old second.left_new second.faults_old second.faults_new no_targets []
    ends.right → MergerDid t3 k.merger ends.merger
    → WriterDid MERGED_PIPE t4 k.writer into.held_old into.held_new into.faults_old into.faults_new into.wants_old
    into.wants_new [] [] ends.writer → Controlled t5 k.controller → ControlEnds 4 t5 k.controller answer
    → old ≡ seen_with start (joined_all start.view (views_of k)) → IsShown old.view → ReadTally old new tally
    → GrowsAside old new → Ended domain k old new first second into ends answer tally
ended_of domain t1 t2 t3 t4 t5 k start old new first second into ends answer tally e1 e2 e3 e4 e5 begins left right
    merger writer controls counts joined shown found aside = record {
      did = record {
        left = subst (λ (t : Known). ReaderDid LEFT_PIPE t k.left first.left_old first.left_new first.faults_old
            first.faults_new no_targets [] ends.left) e1 left;
        right = subst (λ (t : Known). ReaderDid RIGHT_PIPE t k.right second.left_old second.left_new second.faults_old
            second.faults_new no_targets [] ends.right) e2 right;
        merger = subst (λ (t : Known). MergerDid t k.merger ends.merger) e3 merger;
        writer = subst (λ (t : Known). WriterDid MERGED_PIPE t k.writer into.held_old into.held_new into.faults_old
            into.faults_new into.wants_old into.wants_new [] [] ends.writer) e4 writer;
        controls = subst (λ (t : Known). Controlled t k.controller) e5 controls;
        counts = subst (λ (t : Known). ControlEnds 4 t k.controller answer) e5 counts;
      };
      joined = ap (λ (t : Known). t.view) joined ∙ ap (λ (t : Known). joined_all t.view (views_of k)) begins;
      shown = shown;
      found = found;
      aside = aside;
    }

pub follows : (domain : TableId) (t1 t2 t3 t4 t5 : Known) (k : Five) (new : Known) (first second : Drawn) (ends : CrewEnds)
    (answer : Result ℕ BitEnd) → t1 ≡ newcomer domain 1 2 0 → t2 ≡ newcomer domain 2 3 0 → t3 ≡ newcomer domain 3 4 0
    → t4 ≡ newcomer domain 4 5 0 → t5 ≡ newcomer domain 5 6 0
    → FromSource first.left_old first.left_new 0 ends.left.read
    (λ bytes. ReaderGoes LEFT_PIPE no_targets [] t1 k.left bytes ends.left.stop)
    → FromSource second.left_old second.left_new 0 ends.right.read
    (λ bytes. ReaderGoes RIGHT_PIPE no_targets [] t2 k.right bytes ends.right.stop)
    → MergerGoes t3 k.merger ends.merger.stop → WriterGoes MERGED_PIPE t4 k.writer ends.writer.stop
    → ControllerGoes 4 t5 k.controller answer → HasFive new.view k
    → FollowsMerge domain new first second ends answer
follows domain t1 t2 t3 t4 t5 k new first second ends answer e1 e2 e3 e4 e5 left right merger writer controller lists =
    record {
      five = k;
      left = subst (λ (t : Known). FromSource first.left_old first.left_new 0 ends.left.read
          (λ bytes. ReaderGoes LEFT_PIPE no_targets [] t k.left bytes ends.left.stop)) e1 left;
      right = subst (λ (t : Known). FromSource second.left_old second.left_new 0 ends.right.read
          (λ bytes. ReaderGoes RIGHT_PIPE no_targets [] t k.right bytes ends.right.stop)) e2 right;
      merger = subst (λ (t : Known). MergerGoes t k.merger ends.merger.stop) e3 merger;
      writer = subst (λ (t : Known). WriterGoes MERGED_PIPE t k.writer ends.writer.stop) e4 writer;
      controller = subst (λ (t : Known). ControllerGoes 4 t k.controller answer) e5 controller;
      lists = lists;
    }

-- A merge that was not begun.
none_of : (t : ℕ) → has_of t (crew ([] ∷ [] ∷ [] ∷ [] ∷ [] ∷ [])) ≡ []
none_of t = of_each (λ (xs : List Item). xs ≡ []) ([] ∷ [] ∷ [] ∷ [] ∷ [] ∷ []) refl
    (refl, (refl, (refl, (refl, (refl, tt))))) t

module _ (domain : TableId) (old one two three four five new : Known) (rest : old ≡ newcomer domain 0 6 (TASKS - 6))
    (e1 : one ≡ newcomer domain 1 2 0) (e2 : two ≡ newcomer domain 2 3 0) (e3 : three ≡ newcomer domain 3 4 0)
    (e4 : four ≡ newcomer domain 4 5 0) (e5 : five ≡ newcomer domain 5 6 0)
    (joins : new ≡ seen_with old (joined_all old.view
    (one.view ∷ two.view ∷ three.view ∷ four.view ∷ five.view ∷ []))) where
  view_is : (k j : Known) → k ≡ j → k.view ≡ j.view
  view_is k j e = ap (λ (x : Known). x.view) e

  unbegun : new ≡ seen_with (newcomer domain 0 6 (TASKS - 6)) (crew ([] ∷ [] ∷ [] ∷ [] ∷ [] ∷ []))
  unbegun = joins
      ∙ (ap (λ (k : Known). seen_with k (joined_all k.view
      (one.view ∷ two.view ∷ three.view ∷ four.view ∷ five.view ∷ []))) rest
      ∙ ap (seen_with (newcomer domain 0 6 (TASKS - 6))) (five_same (fresh 0 6 (TASKS - 6)) one.view two.view three.view
      four.view five.view (fresh 1 2 0) (fresh 2 3 0) (fresh 3 4 0) (fresh 4 5 0) (fresh 5 6 0)
      (view_is one (newcomer domain 1 2 0) e1) (view_is two (newcomer domain 2 3 0) e2)
      (view_is three (newcomer domain 3 4 0) e3) (view_is four (newcomer domain 4 5 0) e4)
      (view_is five (newcomer domain 5 6 0) e5)))

  pub no_steps : HasNoSteps domain new
  no_steps = record {
    domain = ap (λ (k : Known). k.domain) unbegun;
    lists = λ number. subst (λ (k : Known). has_of number k.view ≡ []) (sym unbegun) (none_of number);
  }

  pub still_clean : IsClean new
  still_clean = subst IsClean (sym unbegun)
      (joined_clean domain 6 (TASKS - 6) (parts_from 1 ([] ∷ [] ∷ [] ∷ [] ∷ [] ∷ [])))
