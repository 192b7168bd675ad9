-- The turns of a reader.
use Rattle.std.proofs.Common.{refl, sym, ◌∙◌, ap, subst, append_assoc, append-nil, arith, length-append}
use Rattle.std.specs.Prelude.{ℕ, ◌≡◌, ◌+◌, ◌<◌, ◌≤◌, ◌++◌, List, [], ◌∷◌, length, take, Option, None, Some, IfSome}
use Rattle.std.proofs.lemmas.List.{length-take-le}
use Rattle.std.specs.Io.KnownBytes.{prepend_known}
use Rattle.edge_io.specs.Faults.{HasRisen}
use Rattle.wait_rule.specs.{Aside.Grows, Aside.signals_of, Known.Known, Pipes.write_end, PipeSays.EndsStay}
use Rattle.wait_rule.specs.PipeSays.{writing}
use Rattle.wait_pipe.specs.Pieces.{IsSettled}
use Rattle.copy_plan.specs.{declared.TheConstants.LONGEST, declared.plan.Planned.Planned, declared.stop.Halt.Halt}
use Rattle.copy_plan.specs.{declared.stop.Stop.Stop, Plans.due_at, Plans.due_in, Stops.stop_of}
use Rattle.copy_plan.specs.declared.stop.Halt.TheVariants as halt
use Rattle.copy_plan.specs.declared.stop.Stop.TheVariants as stop
use Rattle.copy_turns.specs.Raises.{sent_to}
use Rattle.copy_turns.specs.Turns.{HandedAll, HandedFront, IfEnded, IsTooLong, IsReaderStop, RaisedFor, Reading}
use Rattle.copy_turns.specs.Work.{Apart, IsAtWork, IsHalt, SignalsStay, SumsStay, Works}
use Rattle.copy_plan.proofs.DueTimes.{due_at_then, rises_then}
use Rattle.copy_turns.proofs.PartLaws.{counted_none, counted_same, counted_then, ends_moved, ends_then, halt_before, moved_none, moved_ends, moved_then, sums_counted, sums_then, took_before, works_same, works_then}
use Rattle.copy_turns.proofs.Sends.{Sends, sent_append}
use Rattle.copy_turns.proofs.Stopping.{finished, halted_whole, stopped_map, whole_map}

pub prepend_twice : (a b : List ℕ) (known : Option (List ℕ))
    → prepend_known a (prepend_known b known) ≡ prepend_known (a ++ b) known
prepend_twice a b None = refl
prepend_twice a b (Some xs) = ap Some (sym (append_assoc a b xs))

pub prepend_none : (known : Option (List ℕ)) → known ≡ prepend_known [] known
prepend_none None = refl
prepend_none (Some xs) = refl

-- signals that were raised for a plan
pub raised_none : (a b : Known) (targets : List ℕ) (r : ℕ) (plan : List Planned) → SignalsStay a b
    → RaisedFor a b targets (r + 1) r plan
raised_none a b targets r plan same = record {
  times = [];
  rise = refl;
  all = same ∙ sym (append-nil (signals_of a.view.items));
}

pub raised_sends : (a b c d : Known) (targets : List ℕ) (from to : ℕ) (plan : List Planned) → from ≤ to
    → SignalsStay a b → Sends b c (sent_to targets (due_in from to plan)) → SignalsStay c d
    → RaisedFor a d targets from to plan
raised_sends a b c d targets from to plan low one two three = record {
  times = to ∷ [];
  rise = (low, refl);
  all = three ∙ (two.signals ∙ (ap (λ l. l ++ sent_to targets (due_in from to plan)) one
      ∙ ap (λ ps. signals_of a.view.items ++ sent_to targets ps) (sym (append-nil (due_in from to plan)))));
}

pub raised_then : (a b c : Known) (targets : List ℕ) (from mid to : ℕ) (plan : List Planned)
    → RaisedFor a b targets from mid plan → RaisedFor b c targets (mid + 1) to plan
    → RaisedFor a c targets from to plan
raised_then a b c targets from mid to plan one two =
    let xs = due_at from one.times plan in
    let ys = due_at (mid + 1) two.times plan in
    record {
      times = one.times ++ two.times;
      rise = rises_then from one.times two.times mid to one.rise two.rise;
      all = two.all ∙ (ap (λ l. l ++ sent_to targets ys) one.all
          ∙ (append_assoc (signals_of a.view.items) (sent_to targets xs) (sent_to targets ys)
          ∙ ap (λ l. signals_of a.view.items ++ l) (sym (sent_append targets xs ys)
          ∙ ap (sent_to targets) (sym (due_at_then from one.times two.times mid one.rise plan)))));
    }

-- a reader that writes into pipe q
module _ (q : ℕ) where
  -- why a reader stopped, told from an earlier moment
  pub reader_before : (a b c : Known) (f0 f1 f2 : ℕ) → Grows a b → f0 ≤ f1 → (how : Stop)
      → IsReaderStop q b c (HasRisen f1 f2) how → IsReaderStop q a c (HasRisen f0 f2) how
  reader_before a b c f0 f1 f2 g later stop.Finished is = is
  reader_before a b c f0 f1 f2 g later stop.Broken is = is
  reader_before a b c f0 f1 f2 g later stop.Killed is = took_before a b c g is
  reader_before a b c f0 f1 f2 g later stop.Taken is = absurd is
  reader_before a b c f0 f1 f2 g later stop.ReadFault is = λ small. let e = is small in omega arith
  reader_before a b c f0 f1 f2 g later stop.WriteFault is = absurd is
  reader_before a b c f0 f1 f2 g later stop.Memory is = absurd is
  reader_before a b c f0 f1 f2 g later stop.Long is = is
  reader_before a b c f0 f1 f2 g later (stop.Worn h p) is = is

  halt_reads : (a b : Known) (risen : Type 0) (h : Halt) → IsHalt (write_end q) a b h
      → IsReaderStop q a b risen (stop_of h)
  halt_reads a b risen halt.Broken is = is
  halt_reads a b risen halt.Killed is = is
  halt_reads a b risen (halt.Worn h p) is = is

  halt_ended : (h : Halt) (X : Type 0) → IfEnded (Some (stop_of h)) X
  halt_ended halt.Broken X = tt
  halt_ended halt.Killed X = tt
  halt_ended (halt.Worn h p) X = tt

  halt_long : (h : Halt) (n : ℕ) → n ≤ LONGEST → IsTooLong (Some (stop_of h)) n
  halt_long halt.Broken n few = few
  halt_long halt.Killed n few = few
  halt_long (halt.Worn h p) n few = few

  -- no turn at all
  pub reading_none : (k : Known) (left : Option (List ℕ)) (f r : ℕ) (targets : List ℕ) (plan : List Planned)
      → IsAtWork k → IsSettled (writing q k) → r ≤ LONGEST
      → Reading q k k left left f f r r targets plan None
  reading_none k left f r targets plan work settled few = record {
    works = works_same k work;
    given = [];
    front = [];
    rest = [];
    left = prepend_none left;
    read = omega arith;
    parts = refl;
    moved = moved_none (write_end q) k settled;
    all = refl;
    whole = tt;
    n = 0;
    counted = counted_same k;
    counts = refl;
    signals = raised_none k k targets r plan refl;
    long = few;
    later = omega arith;
    cause = tt;
  }

  -- some turns, and then others
  module _ (a b c : Known) (l0 l1 l2 : Option (List ℕ)) (f0 f1 f2 r0 r1 r2 : ℕ) (targets : List ℕ) (plan : List Planned)
      (how : Option Stop) (one : Reading q a b l0 l1 f0 f1 r0 r1 targets plan None)
      (two : Reading q b c l1 l2 f1 f2 r1 r2 targets plan how) where
    given_front : one.given ≡ one.front
    given_front = one.parts ∙ (ap (λ l. one.front ++ l) one.all ∙ append-nil one.front)

    pub reading_then : Reading q a c l0 l2 f0 f2 r0 r2 targets plan how
    reading_then =
        let e = one.read in
        let f = two.read in
        let g = length-append one.given two.given in
        record {
          works = works_then a b c one.works two.works;
          given = one.given ++ two.given;
          front = one.front ++ two.front;
          rest = two.rest;
          left = one.left ∙ (ap (prepend_known one.given) two.left ∙ prepend_twice one.given two.given l2);
          read = omega arith;
          parts = ap (λ l. one.given ++ l) two.parts ∙ (ap (λ l. l ++ (two.front ++ two.rest)) given_front
              ∙ sym (append_assoc one.front two.front two.rest));
          moved = moved_then (write_end q) a b c one.front two.front one.moved two.moved;
          all = two.all;
          whole = two.whole;
          n = one.n + two.n;
          counted = counted_then one.n two.n a b c one.counted two.counted;
          counts = whole_map how (two.n ≡ length two.given) (one.n + two.n ≡ length (one.given ++ two.given))
              (λ x. let y : one.n ≡ length one.given = one.counts in omega arith) two.counts;
          signals = raised_then a b c targets (r0 + 1) r1 r2 plan one.signals two.signals;
          long = two.long;
          later = let x = one.later in let y = two.later in omega arith;
          cause = stopped_map how (IsReaderStop q b c (HasRisen f1 f2)) (IsReaderStop q a c (HasRisen f0 f2))
              (reader_before a b c f0 f1 f2 one.works.grows one.later) two.cause;
        }

  -- A turn in which the source gave nothing.
  module _ (a b : Known) (l0 l1 : Option (List ℕ)) (f0 f1 r : ℕ) (targets : List ℕ) (plan : List Planned)
      (settled : IsSettled (writing q a)) (apart : Apart a b) (left : l0 ≡ prepend_known [] l1)
      (later : f0 ≤ f1)
    where
      pub read_nothing : (how : Stop) → IsTooLong (Some how) r → IfEnded (Some how) (IfSome l1 (λ bytes. bytes ≡ []))
          → IsReaderStop q a b (HasRisen f0 f1) how
          → Reading q a b l0 l1 f0 f1 r r targets plan (Some how)
      read_nothing how long whole cause = record {
        works = apart.works;
        given = [];
        front = [];
        rest = [];
        left = left;
        read = omega arith;
        parts = refl;
        moved = moved_ends (write_end q) a a b [] (moved_none (write_end q) a settled) apart.ends;
        all = finished how ([] ≡ []) refl;
        whole = whole;
        n = 0;
        counted = counted_none a b apart.sums;
        counts = finished how (0 ≡ 0) refl;
        signals = raised_none a b targets r plan apart.signals;
        long = long;
        later = later;
        cause = cause;
      }

  -- A turn in which it gave some bytes, and the signals were sent that were due then.
  module _ (a b c : Known) (l0 l1 : Option (List ℕ)) (f0 f1 r s : ℕ) (targets : List ℕ) (plan : List Planned)
      (bytes : List ℕ) (settled : IsSettled (writing q a)) (apart : Apart a b)
      (left : l0 ≡ prepend_known bytes l1) (later : f0 ≤ f1) (read : s ≡ r + length bytes) (some : r < s)
      (sends : Sends b c (sent_to targets (due_in (r + 1) s plan))) where
    low : r + 1 ≤ s
    low = omega (arith, some)

    sent_works_all : Works a c
    sent_works_all = works_then a b c apart.works sends.works

    sent_ends_all : EndsStay a c
    sent_ends_all = ends_then a b c apart.ends sends.ends

    sent_sums_all : SumsStay a c
    sent_sums_all = sums_then a b c apart.sums sends.sums

    pub read_long : LONGEST < s → Reading q a c l0 l1 f0 f1 r s targets plan (Some stop.Long)
    read_long long = record {
      works = sent_works_all;
      given = bytes;
      front = [];
      rest = bytes;
      left = left;
      read = read;
      parts = refl;
      moved = moved_ends (write_end q) a a c [] (moved_none (write_end q) a settled) sent_ends_all;
      all = tt;
      whole = tt;
      n = 0;
      counted = counted_none a c sent_sums_all;
      counts = tt;
      signals = raised_sends a b c c targets (r + 1) s plan low apart.signals sends refl;
      long = long;
      later = later;
      cause = tt;
    }

    module _ (d : Known) (few : s ≤ LONGEST) where
      pub read_on : HandedAll (write_end q) c d bytes → Reading q a d l0 l1 f0 f1 r s targets plan None
      read_on h = record {
        works = works_then a c d sent_works_all h.works;
        given = bytes;
        front = bytes;
        rest = [];
        left = left;
        read = read;
        parts = sym (append-nil bytes);
        moved = ends_moved (write_end q) a c d bytes sent_ends_all h.moved;
        all = refl;
        whole = tt;
        n = length bytes;
        counted = sums_counted (length bytes) a c d sent_sums_all h.counted;
        counts = refl;
        signals = raised_sends a b c d targets (r + 1) s plan low apart.signals sends h.signals;
        long = few;
        later = later;
        cause = tt;
      }

      pub read_halted : (how : Halt) → HandedFront (write_end q) c d bytes how
          → Reading q a d l0 l1 f0 f1 r s targets plan (Some (stop_of how))
      read_halted how h = record {
        works = works_then a c d sent_works_all h.works;
        given = bytes;
        front = h.front;
        rest = h.rest;
        left = left;
        read = read;
        parts = h.parts;
        moved = ends_moved (write_end q) a c d h.front sent_ends_all h.moved;
        all = halted_whole how (h.rest ≡ []);
        whole = halt_ended how (IfSome l1 (λ bytes. bytes ≡ []));
        n = 0;
        counted = counted_none a d (sums_then a c d sent_sums_all h.sums);
        counts = halted_whole how (0 ≡ length bytes);
        signals = raised_sends a b c d targets (r + 1) s plan low apart.signals sends h.signals;
        long = halt_long how s few;
        later = later;
        cause = halt_reads a d (HasRisen f0 f1) how
            (halt_before (write_end q) a c d how sent_works_all.grows h.cause);
      }

-- what the source gave, as the reader sees it
pub given_length : (buf : List ℕ) (n r : ℕ) → n ≤ length buf → r + n ≡ r + length (take n buf)
given_length buf n r most = let e = length-take-le n buf most in omega arith

pub given_none : (l0 l1 : Option (List ℕ)) (buf : List ℕ) (n : ℕ) → l0 ≡ prepend_known (take n buf) l1 → n ≡ 0
    → l0 ≡ prepend_known [] l1
given_none l0 l1 buf n is none = is ∙ ap (λ (m : ℕ). prepend_known (take m buf) l1) none

pub source_ended : (l0 l1 : Option (List ℕ)) → l0 ≡ prepend_known [] l1 → IfSome l0 (λ bytes. bytes ≡ [])
    → IfSome l1 (λ bytes. bytes ≡ [])
source_ended l0 l1 is end = subst (λ k. IfSome k (λ bytes. bytes ≡ [])) (is ∙ sym (prepend_none l1)) end
