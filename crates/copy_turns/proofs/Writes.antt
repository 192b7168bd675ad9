-- The turns of a writer.
use Rattle.std.proofs.Common.{refl, sym, ◌∙◌, ap, subst, append_assoc, append-nil, arith, length-append}
use Rattle.std.specs.Prelude.{ℕ, ◌≡◌, ◌+◌, ◌%◌, ◌^◌, ◌<◌, ◌≤◌, List, [], ◌++◌, length}
use Rattle.std.specs.Prelude.{Option, None, Some}
use Rattle.std.specs.Io.KnownBytes.{append_known}
use Rattle.wait_rule.specs.{Aside.Grows, Known.Known, Pipes.read_end, PipeSays.reading}
use Rattle.edge_io.specs.{Faults.HasCounted, Faults.HasRisen, Text.HoldsPrefix}
use Rattle.edge_io.proofs.Known.{append_known-twice}
use Rattle.func_head.specs.Walks.{EntryState, shown}
use Rattle.wait_pipe.specs.Pieces.{IsAtEnd, IsSettled, Moved}
use Rattle.copy_plan.specs.{declared.stop.Halt.Halt, declared.stop.Stop.Stop, Stops.stop_of}
use Rattle.copy_plan.specs.declared.stop.Halt.TheVariants as halt
use Rattle.copy_plan.specs.declared.stop.Stop.TheVariants as stop
use Rattle.copy_turns.specs.Turns.{CountedAll, HasGotBytes, IfWhole, IsWriterStop, SinkRises, Writing}
use Rattle.copy_turns.specs.Watched.{IsPiece, UnlessFailed}
use Rattle.copy_turns.specs.Work.{Apart, IsAtWork, IsOwnHalt, TookKill}
use Rattle.copy_turns.proofs.PartLaws.{counted_none, counted_same, counted_then, ends_moved, moved_ends, moved_none, moved_then, sums_counted, sums_then, took_before, works_same, works_then}
use Rattle.copy_turns.proofs.Shown.{shows_none, shows_one, shows_part, shows_then}
use Rattle.copy_turns.proofs.Stopping.{finished, halted_whole, stopped_map, whole_map}
use Rattle.copy_turns.proofs.Sums.{sum_none, sum_then}

abbrev no_bytes : List ℕ
no_bytes = []

pub held_same : (held : Option (List ℕ)) → held ≡ append_known held []
held_same None = refl
held_same (Some xs) = ap Some (sym (append-nil xs))

halt_rises : (f v : ℕ) (h : Halt) → SinkRises f f v v (Some (stop_of h))
halt_rises f v halt.Broken = (refl, refl)
halt_rises f v halt.Killed = (refl, refl)
halt_rises f v (halt.Worn h p) = (refl, refl)

pub counted_risen : (a b : ℕ) → HasCounted a b → HasRisen a b
counted_risen a b is low = omega arith

-- counts that stayed first
rises_then : (f0 f1 f2 v0 v1 v2 : ℕ) (how : Option Stop) → f1 ≡ f0 → v1 ≡ v0 → SinkRises f1 f2 v1 v2 how
    → SinkRises f0 f2 v0 v2 how
rises_then f0 f1 f2 v0 v1 v2 how e g =
    let F : ℕ → ℕ → Type 0 = λ f v. SinkRises f f2 v v2 how in
    λ r. subst (λ f. F f v0) e (subst (F f1) g r)

-- a writer that reads pipe q
module _ (q : ℕ) where
  -- why a writer stopped, told from an earlier moment and of more of its sink's counts
  pub writer_before : (a b c : Known) (f g v w : Type 0) → Grows a b → (f → g) → (v → w) → (how : Stop)
      → IsWriterStop q b c f v how → IsWriterStop q a c g w how
  writer_before a b c f g v w gr fs vs stop.Finished is = is
  writer_before a b c f g v w gr fs vs stop.Broken is = absurd is
  writer_before a b c f g v w gr fs vs stop.Killed is = took_before a b c gr is
  writer_before a b c f g v w gr fs vs stop.Taken is = absurd is
  writer_before a b c f g v w gr fs vs stop.ReadFault is = absurd is
  writer_before a b c f g v w gr fs vs stop.WriteFault is = fs is
  writer_before a b c f g v w gr fs vs stop.Memory is = vs is
  writer_before a b c f g v w gr fs vs stop.Long is = absurd is
  writer_before a b c f g v w gr fs vs (stop.Worn h p) is = is

  halt_stops : (a b : Known) (f v : Type 0) (h : Halt) → IsOwnHalt a b h → IsWriterStop q a b f v (stop_of h)
  halt_stops a b f v halt.Broken is = absurd is
  halt_stops a b f v halt.Killed is = is
  halt_stops a b f v (halt.Worn h p) is = is

  -- no turn at all
  pub writing_none : (k : Known) (held : Option (List ℕ)) (f v : ℕ) (s : List EntryState) (m : ℕ) → m < 2 ^ 64
      → IsAtWork k → IsSettled (reading q k) → Writing q k k held held f f v v s s m m None
  writing_none k held f v s m small work tap = record {
    works = works_same k work;
    got = [];
    front = [];
    rest = [];
    taken = moved_none (read_end q) k tap;
    held = held_same held;
    shows = shows_none s None;
    parts = refl;
    all = refl;
    n = 0;
    counted = counted_same k;
    counts = refl;
    sum = sum_none m small;
    signals = refl;
    later = omega arith;
    rises = (refl, refl);
    cause = tt;
  }

  -- some turns, and then others
  module _ (a b c : Known) (h0 h1 h2 : Option (List ℕ)) (f0 f1 f2 v0 v1 v2 : ℕ) (s0 s1 s2 : List EntryState)
      (k m n : ℕ) (how : Option Stop) (one : Writing q a b h0 h1 f0 f1 v0 v1 s0 s1 k m None)
      (two : Writing q b c h1 h2 f1 f2 v1 v2 s1 s2 m n how) where
    got_front : one.got ≡ one.front
    got_front = one.parts ∙ (ap (λ l. one.front ++ l) one.all ∙ append-nil one.front)

    pub writing_then : Writing q a c h0 h2 f0 f2 v0 v2 s0 s2 k n how
    writing_then = record {
      works = works_then a b c one.works two.works;
      got = one.got ++ two.got;
      front = one.front ++ two.front;
      rest = two.rest;
      taken = moved_then (read_end q) a b c one.got two.got one.taken two.taken;
      held = two.held ∙ (ap (λ h. append_known h two.front) one.held ∙ append_known-twice h0 one.front two.front);
      shows = shows_then s0 s1 s2 one.front two.front how one.shows two.shows;
      parts = ap (λ l. one.got ++ l) two.parts ∙ (ap (λ l. l ++ (two.front ++ two.rest)) got_front
          ∙ sym (append_assoc one.front two.front two.rest));
      all = two.all;
      n = one.n + two.n;
      counted = counted_then one.n two.n a b c one.counted two.counted;
      counts = whole_map how (two.n ≡ length two.got) (one.n + two.n ≡ length (one.got ++ two.got))
          (λ e. let f : one.n ≡ length one.got = one.counts in let g = length-append one.got two.got in omega arith)
          two.counts;
      sum = sum_then k m n one.n two.n one.sum two.sum;
      signals = two.signals ∙ one.signals;
      later = let p = one.later in let q = two.later in omega arith;
      rises = rises_then f0 f1 f2 v0 v1 v2 how one.rises.0 one.rises.1 two.rises;
      cause = stopped_map how (IsWriterStop q b c (HasRisen f1 f2) (HasRisen v1 v2))
          (IsWriterStop q a c (HasRisen f0 f2) (HasRisen v0 v2))
          (writer_before a b c (HasRisen f1 f2) (HasRisen f0 f2) (HasRisen v1 v2) (HasRisen v0 v2) one.works.grows
          (subst (λ f. HasRisen f f2) one.rises.0) (subst (λ v. HasRisen v v2) one.rises.1)) two.cause;
    }

  -- a turn that ended before it took a piece
  pub write_killed : (a b : Known) (held : Option (List ℕ)) (f v : ℕ) (s : List EntryState) (m : ℕ) → m < 2 ^ 64
      → IsSettled (reading q a) → Apart a b → TookKill a b
      → Writing q a b held held f f v v s s m m (Some stop.Killed)
  write_killed a b held f v s m small tap apart took = record {
    works = apart.works;
    got = [];
    front = [];
    rest = [];
    taken = moved_ends (read_end q) a a b [] (moved_none (read_end q) a tap) apart.ends;
    held = held_same held;
    shows = shows_none s (Some stop.Killed);
    parts = refl;
    all = tt;
    n = 0;
    counted = counted_none a b apart.sums;
    counts = tt;
    sum = sum_none m small;
    signals = apart.signals;
    later = omega arith;
    rises = (refl, refl);
    cause = took;
  }

  -- The turn got a piece, or none.
  module _ (a b c : Known) (m : ℕ) (small : m < 2 ^ 64) (apart : Apart a b)
      (bytes : List ℕ) (g : HasGotBytes (read_end q) b c bytes) where
    got_moved : Moved (read_end q) a c bytes
    got_moved = ends_moved (read_end q) a b c bytes apart.ends g.moved

    write_got : (held : Option (List ℕ)) (f v : ℕ) (s : List EntryState) (how : Stop) → bytes ≡ []
        → SinkRises f f v v (Some how) → IsWriterStop q a c (HasRisen f f) (HasRisen v v) how
        → Writing q a c held held f f v v s s m m (Some how)
    write_got held f v s how none rises cause = record {
      works = works_then a b c apart.works g.works;
      got = bytes;
      front = [];
      rest = bytes;
      taken = got_moved;
      held = held_same held;
      shows = shows_none s (Some how);
      parts = refl;
      all = finished how (bytes ≡ []) none;
      n = 0;
      counted = counted_none a c (sums_then a b c apart.sums g.sums);
      counts = finished how (0 ≡ length bytes) (sym (ap length none));
      sum = sum_none m small;
      signals = g.signals ∙ apart.signals;
      later = omega arith;
      rises = rises;
      cause = cause;
    }

    pub write_ended : (held : Option (List ℕ)) (f v : ℕ) (s : List EntryState) → bytes ≡ []
        → IsAtEnd (reading q c) → Writing q a c held held f f v v s s m m (Some stop.Finished)
    write_ended held f v s none end = write_got held f v s stop.Finished none (refl, refl) end

    pub write_halted : (held : Option (List ℕ)) (f v : ℕ) (s : List EntryState) (h : Halt) → bytes ≡ []
        → IsOwnHalt b c h → Writing q a c held held f f v v s s m m (Some (stop_of h))
    write_halted held f v s h none is = write_got held f v s (stop_of h) none (halt_rises f v h)
        (writer_before a b c (HasRisen f f) (HasRisen f f) (HasRisen v v) (HasRisen v v) apart.works.grows
        (λ x. x) (λ x. x) (stop_of h) (halt_stops b c (HasRisen f f) (HasRisen v v) h is))

    -- the sink took all of it, or a front
    pub write_fault : (h0 h1 : Option (List ℕ)) (f0 f1 v0 v1 : ℕ) (s : List EntryState) (how : Stop)
        → HoldsPrefix h0 h1 bytes → f0 ≤ f1 → SinkRises f0 f1 v0 v1 (Some how)
        → IsWriterStop q a c (HasRisen f0 f1) (HasRisen v0 v1) how
        → ((X : Type 0) → IfWhole (Some how) X) → ((X : Type 0) → UnlessFailed (Some how) X)
        → Writing q a c h0 h1 f0 f1 v0 v1 s s m m (Some how)
    write_fault h0 h1 f0 f1 v0 v1 s how prefix later rises cause unfinished failed = record {
      works = works_then a b c apart.works g.works;
      got = bytes;
      front = prefix.front;
      rest = prefix.rest;
      taken = got_moved;
      held = prefix.held;
      shows = shows_part s prefix.front (Some how) (failed (prefix.front ≡ []));
      parts = prefix.whole;
      all = unfinished (prefix.rest ≡ []);
      n = 0;
      counted = counted_none a c (sums_then a b c apart.sums g.sums);
      counts = unfinished (0 ≡ length bytes);
      sum = sum_none m small;
      signals = g.signals ∙ apart.signals;
      later = later;
      rises = rises;
      cause = cause;
    }

    -- it was shown, and then counted, or not
    module _ (d : Known) (h0 h1 : Option (List ℕ)) (f0 f1 v0 v1 : ℕ) (s0 s1 : List EntryState) (fs : f1 ≡ f0)
        (vs : v1 ≡ v0) (held : h1 ≡ append_known h0 bytes) (piece : IsPiece bytes) (seen : s1 ≡ shown bytes s0) where
      pub write_goes_on : (n : ℕ) → CountedAll (length bytes) c d → n ≡ (m + length bytes) % 2 ^ 64
          → Writing q a d h0 h1 f0 f1 v0 v1 s0 s1 m n None
      write_goes_on n w sum = record {
        works = works_then a c d (works_then a b c apart.works g.works) w.works;
        got = bytes;
        front = bytes;
        rest = [];
        taken = moved_ends (read_end q) a c d bytes got_moved w.ends;
        held = held;
        shows = shows_one s0 s1 bytes None piece seen;
        parts = sym (append-nil bytes);
        all = refl;
        n = length bytes;
        counted = sums_counted (length bytes) a c d (sums_then a b c apart.sums g.sums) w.counted;
        counts = refl;
        sum = sum;
        signals = w.signals ∙ (g.signals ∙ apart.signals);
        later = omega arith;
        rises = (fs, vs);
        cause = tt;
      }

      pub write_stopped : (h : Halt) → Apart c d → IsOwnHalt c d h
          → Writing q a d h0 h1 f0 f1 v0 v1 s0 s1 m m (Some (stop_of h))
      write_stopped h w is = record {
        works = works_then a c d (works_then a b c apart.works g.works) w.works;
        got = bytes;
        front = bytes;
        rest = [];
        taken = moved_ends (read_end q) a c d bytes got_moved w.ends;
        held = held;
        shows = shows_one s0 s1 bytes (Some (stop_of h)) piece seen;
        parts = sym (append-nil bytes);
        all = halted_whole h (no_bytes ≡ []);
        n = 0;
        counted = counted_none a d (sums_then a c d (sums_then a b c apart.sums g.sums) w.sums);
        counts = halted_whole h (0 ≡ length bytes);
        sum = sum_none m small;
        signals = w.signals ∙ (g.signals ∙ apart.signals);
        later = omega arith;
        rises = subst (λ f. SinkRises f0 f v0 v1 (Some (stop_of h))) (sym fs)
            (subst (λ v. SinkRises f0 f0 v0 v (Some (stop_of h))) (sym vs) (halt_rises f0 v0 h));
        cause = writer_before a c d (HasRisen f0 f1) (HasRisen f0 f1) (HasRisen v0 v1) (HasRisen v0 v1)
            (works_then a b c apart.works g.works).grows (λ x. x) (λ x. x) (stop_of h)
            (halt_stops c d (HasRisen f0 f1) (HasRisen v0 v1) h is);
      }
