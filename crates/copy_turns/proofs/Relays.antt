-- The turns of a relay.
use Rattle.std.proofs.Common.{refl, sym, ◌∙◌, ap, subst, append_assoc, append-nil, arith, length-append}
use Rattle.std.specs.Prelude.{ℕ, ◌≡◌, ◌≢◌, ◌+◌, ◌%◌, ◌^◌, ◌/◌, ◌<◌, List, [], ◌++◌, length}
use Rattle.std.specs.Prelude.{Option, None, Some}
use Rattle.wait_model.specs.declared.layout.TheConstants.{PIPE_ENDS}
use Rattle.wait_rule.specs.{Aside.Grows, Known.Known}
use Rattle.wait_rule.specs.Pipes.{End, moved_bytes, read_end, write_end}
use Rattle.wait_rule.specs.PipeSays.{end_at, reading, writing}
use Rattle.wait_pipe.specs.Pieces.{IsAtEnd, IsSettled, Moved}
use Rattle.copy_plan.specs.{declared.stop.Halt.Halt, declared.stop.Stop.Stop, Stops.stop_of}
use Rattle.copy_plan.specs.declared.stop.Halt.TheVariants as halt
use Rattle.copy_plan.specs.declared.stop.Stop.TheVariants as stop
use Rattle.copy_turns.specs.Turns.{HasGotBytes, HandedAll, HandedFront, IsRelayStop, Relaying}
use Rattle.copy_turns.specs.Work.{Apart, IsAtWork, IsHalt, IsOwnHalt, TookKill}
use Rattle.copy_turns.proofs.PartLaws.{counted_none, counted_same, counted_then, ends_moved, sums_counted, sums_then, took_before, works_same, works_then}
use Rattle.copy_turns.proofs.Stopping.{finished, halted_whole, own_halt, stopped_map, whole_map}
use Rattle.copy_turns.proofs.Sums.{sum_none, sum_then}

-- a relay from pipe src into pipe snk
module _ (src snk : ℕ) (apart_pipes : src ≢ snk) where
  not_tap : (j : ℕ) → j / PIPE_ENDS ≢ src → j / PIPE_ENDS ≢ read_end src / PIPE_ENDS
  not_tap j other e = other (omega (arith, e))

  not_pen : (j : ℕ) → j / PIPE_ENDS ≢ snk → j / PIPE_ENDS ≢ write_end snk / PIPE_ENDS
  not_pen j other e = other (omega (arith, e))

  -- an end of the one pipe, over a part that is about the other
  pub pen_stays : (a b : Known) (bytes : List ℕ) → Moved (read_end src) a b bytes
      → writing snk b ≡ writing snk a
  pen_stays a b bytes m = m.others (write_end snk) (λ e. omega (arith, e, apart_pipes))

  pub tap_stays : (a b : Known) (bytes : List ℕ) → Moved (write_end snk) a b bytes
      → reading src b ≡ reading src a
  tap_stays a b bytes m = m.others (read_end src) (λ e. omega (arith, e, apart_pipes))

  -- why a relay stopped, told from an earlier moment
  pub relay_before : (a b c : Known) → Grows a b → (how : Stop) → IsRelayStop src snk b c how → IsRelayStop src snk a c how
  relay_before a b c g stop.Finished is = is
  relay_before a b c g stop.Broken is = is
  relay_before a b c g stop.Killed is = took_before a b c g is
  relay_before a b c g stop.Taken is = absurd is
  relay_before a b c g stop.ReadFault is = absurd is
  relay_before a b c g stop.WriteFault is = absurd is
  relay_before a b c g stop.Memory is = absurd is
  relay_before a b c g stop.Long is = absurd is
  relay_before a b c g (stop.Worn h p) is = is

  halt_stops : (a b : Known) (h : Halt) → IsHalt (write_end snk) a b h → IsRelayStop src snk a b (stop_of h)
  halt_stops a b halt.Broken is = is
  halt_stops a b halt.Killed is = is
  halt_stops a b (halt.Worn h p) is = is

  -- no turn at all
  pub relaying_none : (k : Known) (m : ℕ) → m < 2 ^ 64 → IsAtWork k → IsSettled (reading src k)
      → IsSettled (writing snk k) → Relaying src snk k k m m None
  relaying_none k m small work tap pen = record {
    works = works_same k work;
    got = [];
    front = [];
    rest = [];
    taken = sym (append-nil (moved_bytes (reading src k)));
    sent = sym (append-nil (moved_bytes (writing snk k)));
    parts = refl;
    tap = tap;
    pen = pen;
    others = λ j one two. refl;
    all = refl;
    n = 0;
    counted = counted_same k;
    counts = refl;
    sum = sum_none m small;
    signals = refl;
    cause = tt;
  }

  -- some turns, and then others
  module _ (a b c : Known) (k m n : ℕ) (how : Option Stop) (one : Relaying src snk a b k m None)
      (two : Relaying src snk b c m n how) where
    got_front : one.got ≡ one.front
    got_front = one.parts ∙ (ap (λ l. one.front ++ l) one.all ∙ append-nil one.front)

    pub relaying_then : Relaying src snk a c k n how
    relaying_then = record {
      works = works_then a b c one.works two.works;
      got = one.got ++ two.got;
      front = one.front ++ two.front;
      rest = two.rest;
      taken = two.taken ∙ (ap (λ l. l ++ two.got) one.taken
          ∙ append_assoc (moved_bytes (reading src a)) one.got two.got);
      sent = two.sent ∙ (ap (λ l. l ++ two.front) one.sent
          ∙ append_assoc (moved_bytes (writing snk a)) one.front two.front);
      parts = ap (λ l. one.got ++ l) two.parts ∙ (ap (λ l. l ++ (two.front ++ two.rest)) got_front
          ∙ sym (append_assoc one.front two.front two.rest));
      tap = two.tap;
      pen = two.pen;
      others = λ j first second. two.others j first second ∙ one.others j first second;
      all = two.all;
      n = one.n + two.n;
      counted = counted_then one.n two.n a b c one.counted two.counted;
      counts = whole_map how (two.n ≡ length two.got) (one.n + two.n ≡ length (one.got ++ two.got))
          (λ e. let f : one.n ≡ length one.got = one.counts in let g = length-append one.got two.got in omega arith)
          two.counts;
      sum = sum_then k m n one.n two.n one.sum two.sum;
      signals = two.signals ∙ one.signals;
      cause = stopped_map how (IsRelayStop src snk b c) (IsRelayStop src snk a c) (relay_before a b c one.works.grows) two.cause;
    }

  -- a turn that ended before it took a piece
  pub relay_killed : (a b : Known) (m : ℕ) → m < 2 ^ 64 → IsSettled (reading src a)
      → IsSettled (writing snk a) → Apart a b → TookKill a b
      → Relaying src snk a b m m (Some stop.Killed)
  relay_killed a b m small tap pen apart took = record {
    works = apart.works;
    got = [];
    front = [];
    rest = [];
    taken = ap moved_bytes (apart.ends (read_end src)) ∙ sym (append-nil (moved_bytes (reading src a)));
    sent = ap moved_bytes (apart.ends (write_end snk)) ∙ sym (append-nil (moved_bytes (writing snk a)));
    parts = refl;
    tap = subst IsSettled (sym (apart.ends (read_end src))) tap;
    pen = subst IsSettled (sym (apart.ends (write_end snk))) pen;
    others = λ j one two. apart.ends j;
    all = tt;
    n = 0;
    counted = counted_none a b apart.sums;
    counts = tt;
    sum = sum_none m small;
    signals = apart.signals;
    cause = took;
  }

  -- The turn got a piece, or none.
  module _ (a b c : Known) (m : ℕ) (small : m < 2 ^ 64) (pen : IsSettled (writing snk a)) (apart : Apart a b)
      (bytes : List ℕ) (g : HasGotBytes (read_end src) b c bytes) where
    got_moved : Moved (read_end src) a c bytes
    got_moved = ends_moved (read_end src) a b c bytes apart.ends g.moved

    got_pen : writing snk c ≡ writing snk a
    got_pen = pen_stays a c bytes got_moved

    relay_got : (how : Stop) → bytes ≡ [] → IsRelayStop src snk a c how → Relaying src snk a c m m (Some how)
    relay_got how none cause = record {
      works = works_then a b c apart.works g.works;
      got = bytes;
      front = [];
      rest = bytes;
      taken = got_moved.bytes;
      sent = ap moved_bytes got_pen ∙ sym (append-nil (moved_bytes (writing snk a)));
      parts = refl;
      tap = got_moved.settled;
      pen = subst IsSettled (sym got_pen) pen;
      others = λ j one two. got_moved.others j (not_tap j one);
      all = finished how (bytes ≡ []) none;
      n = 0;
      counted = counted_none a c (sums_then a b c apart.sums g.sums);
      counts = finished how (0 ≡ length bytes) (sym (ap length none));
      sum = sum_none m small;
      signals = g.signals ∙ apart.signals;
      cause = cause;
    }

    pub relay_ended : bytes ≡ [] → IsAtEnd (reading src c) → Relaying src snk a c m m (Some stop.Finished)
    relay_ended none end = relay_got stop.Finished none end

    pub relay_halted : (h : Halt) → bytes ≡ [] → IsOwnHalt b c h → Relaying src snk a c m m (Some (stop_of h))
    relay_halted h none is = relay_got (stop_of h) none
        (relay_before a b c apart.works.grows (stop_of h)
        (halt_stops b c h (own_halt b c h is (write_end snk))))

    -- and it handed it on, or a front of it
    module _ (d : Known) where
      sent_others : (text : List ℕ) → Moved (write_end snk) c d text → (j : ℕ) → j / PIPE_ENDS ≢ src
          → j / PIPE_ENDS ≢ snk → end_at j d ≡ end_at j a
      sent_others text w j one two = w.others j (not_pen j two) ∙ got_moved.others j (not_tap j one)

      sent_taken : (text : List ℕ) → Moved (write_end snk) c d text
          → moved_bytes (reading src d) ≡ moved_bytes (reading src a) ++ bytes
      sent_taken text w = ap moved_bytes (tap_stays c d text w) ∙ got_moved.bytes

      sent_bytes : (text : List ℕ) → Moved (write_end snk) c d text
          → moved_bytes (writing snk d) ≡ moved_bytes (writing snk a) ++ text
      sent_bytes text w = w.bytes ∙ ap (λ (e : End). moved_bytes e ++ text) got_pen

      pub relay_goes_on : (n : ℕ) → HandedAll (write_end snk) c d bytes → n ≡ (m + length bytes) % 2 ^ 64
          → Relaying src snk a d m n None
      relay_goes_on n w sum = record {
        works = works_then a c d (works_then a b c apart.works g.works) w.works;
        got = bytes;
        front = bytes;
        rest = [];
        taken = sent_taken bytes w.moved;
        sent = sent_bytes bytes w.moved;
        parts = sym (append-nil bytes);
        tap = subst IsSettled (sym (tap_stays c d bytes w.moved)) got_moved.settled;
        pen = w.moved.settled;
        others = sent_others bytes w.moved;
        all = refl;
        n = length bytes;
        counted = sums_counted (length bytes) a c d (sums_then a b c apart.sums g.sums) w.counted;
        counts = refl;
        sum = sum;
        signals = w.signals ∙ (g.signals ∙ apart.signals);
        cause = tt;
      }

      pub relay_stopped : (h : Halt) → HandedFront (write_end snk) c d bytes h
          → Relaying src snk a d m m (Some (stop_of h))
      relay_stopped h w = record {
        works = works_then a c d (works_then a b c apart.works g.works) w.works;
        got = bytes;
        front = w.front;
        rest = w.rest;
        taken = sent_taken w.front w.moved;
        sent = sent_bytes w.front w.moved;
        parts = w.parts;
        tap = subst IsSettled (sym (tap_stays c d w.front w.moved)) got_moved.settled;
        pen = w.moved.settled;
        others = sent_others w.front w.moved;
        all = halted_whole h (w.rest ≡ []);
        n = 0;
        counted = counted_none a d (sums_then a c d (sums_then a b c apart.sums g.sums) w.sums);
        counts = halted_whole h (0 ≡ length bytes);
        sum = sum_none m small;
        signals = w.signals ∙ (g.signals ∙ apart.signals);
        cause = relay_before a c d (works_then a b c apart.works g.works).grows (stop_of h) (halt_stops c d h w.cause);
      }

  -- turns behind a part that is about no pipe
  pub relaying_behind : (a b c : Known) (m n : ℕ) (how : Option Stop) → Apart a b → Relaying src snk b c m n how
      → Relaying src snk a c m n how
  relaying_behind a b c m n how apart r = record {
    works = works_then a b c apart.works r.works;
    got = r.got;
    front = r.front;
    rest = r.rest;
    taken = r.taken ∙ ap (λ (e : End). moved_bytes e ++ r.got) (apart.ends (read_end src));
    sent = r.sent ∙ ap (λ (e : End). moved_bytes e ++ r.front) (apart.ends (write_end snk));
    parts = r.parts;
    tap = r.tap;
    pen = r.pen;
    others = λ j one two. r.others j one two ∙ apart.ends j;
    all = r.all;
    n = r.n;
    counted = sums_counted r.n a b c apart.sums r.counted;
    counts = r.counts;
    sum = r.sum;
    signals = r.signals ∙ apart.signals;
    cause = stopped_map how (IsRelayStop src snk b c) (IsRelayStop src snk a c)
        (relay_before a b c apart.works.grows) r.cause;
  }
