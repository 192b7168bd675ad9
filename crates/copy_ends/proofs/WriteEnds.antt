-- The whole work of a writer.
use Rattle.std.proofs.Common.{refl, sym, ◌∙◌, ap, subst, append-nil, zero-add, arith}
use Rattle.std.specs.Prelude.{ℕ, ◌≡◌, ◌≢◌, ◌%◌, ◌^◌, ◌++◌, true, List, [], length, Option, Some}
use Rattle.wait_rule.specs.{Aside.Grows, Known.Known, PipeSays.end_at, Says.OwesNothing, Says.no_excuse, Stays.with_end}
use Rattle.wait_rule.specs.Pipes.{End, moved_bytes, read_end}
use Rattle.edge_io.specs.Faults.{HasRisen}
use Rattle.func_head.specs.Walks.{EntryState}
use Rattle.wait_pipe.specs.Pieces.{IsAtEnd}
use Rattle.copy_plan.specs.{declared.stop.Stop.Stop, declared.stop.WorkerEnd.WorkerEnd}
use Rattle.copy_plan.specs.declared.stop.Stop.TheVariants as stop
use Rattle.copy_ends.specs.Did.{IsIdler, Refused, WriterDid, WriterWorked}
use Rattle.copy_turns.specs.Turns.{IsWriterStop, Writing}
use Rattle.copy_ends.proofs.Ends.{Closes, Finishes, Fails, Opens, end_closed, refused_later, works_idler, worn_later}
use Rattle.copy_turns.proofs.{Shown.shows_none, Writes.held_same, Writes.writer_before}
use Rattle.copy_turns.proofs.PartLaws.{counted_none, counted_sums, grows_then, sums_counted, took_later}
use Rattle.copy_turns.proofs.Stopping.{finished_both, taken_map, untaken}

-- a writer that reads pipe n
module _ (n : ℕ) where
  abbrev tap : ℕ
  tap = read_end n

  -- why it stopped, told later
  module _ (a b c : Known) (f v : Type 0) (g : Grows b c) (at_end : IsAtEnd (end_at tap b) → IsAtEnd (end_at tap c)) where
    writer_later : (how : Stop) → IsWriterStop n a b f v how → IsWriterStop n a c f v how
    writer_later stop.Finished is = at_end is
    writer_later stop.Broken is = absurd is
    writer_later stop.Killed is = took_later a b c is g
    writer_later stop.Taken is = absurd is
    writer_later stop.ReadFault is = absurd is
    writer_later stop.WriteFault is = is
    writer_later stop.Memory is = is
    writer_later stop.Long is = absurd is
    writer_later (stop.Worn h p) is = worn_later b c h p g is

  not_taken : (a b : Known) (f v : Type 0) (how : Stop) → IsWriterStop n a b f v how → how ≢ stop.Taken
  not_taken a b f v how is e = subst (IsWriterStop n a b f v) e is

  -- the end was opened, turns of it went up to a stop, and it was closed
  module _ (a b c d : Known) (o : Opens tap a b) (h0 h1 : Option (List ℕ)) (f0 f1 v0 v1 : ℕ)
      (s0 s1 : List EntryState) (m : ℕ) (how : Stop) (t : Writing n b c h0 h1 f0 f1 v0 v1 s0 s1 0 m (Some how))
      (q : Closes tap c d) (idler : IsIdler a) where
    settled : OwesNothing d
    settled = q.owes no_excuse (t.works.owes (with_end tap no_excuse) (o.owes no_excuse idler.clean.settled))

    tap_moved : moved_bytes (end_at tap d) ≡ t.front ++ t.rest
    tap_moved = ap moved_bytes q.own ∙ (t.taken.bytes ∙ (ap (λ (e : End). moved_bytes e ++ t.got) o.becomes.own
        ∙ t.parts))

    whole_cause : IsWriterStop n a d (HasRisen f0 f1) (HasRisen v0 v1) how
    whole_cause = writer_later a c d (HasRisen f0 f1) (HasRisen v0 v1) q.leaves.grows
        (λ is. subst IsAtEnd (sym q.own) (end_closed (end_at tap c) is)) how
        (writer_before n a b c (HasRisen f0 f1) (HasRisen f0 f1) (HasRisen v0 v1) (HasRisen v0 v1) o.leaves.grows
        (λ x. x) (λ x. x) how t.cause)

    got_front : t.rest ≡ [] → t.got ≡ t.front
    got_front none = t.parts ∙ (ap (λ l. t.front ++ l) none ∙ append-nil t.front)

    pub writer_did : WriterWorked n a d h0 h1 f0 f1 v0 v1 s0 s1 (record { stop = how; moved = m })
    writer_did = record {
      served = record {
        idler = works_idler d q.work settled;
        domain = q.leaves.domain ∙ (t.works.domain ∙ o.leaves.domain);
        grows = grows_then a b d o.leaves.grows (grows_then b c d t.works.grows q.leaves.grows);
      };
      claims = λ j other. q.claims j ∙ (t.works.claims j ∙ ap (λ (e : End). e.mine) (o.becomes.others j other));
      taken = untaken how (Refused tap a d) ((end_at tap d).mine ≡ true)
          (λ i. absurd (not_taken b c (HasRisen f0 f1) (HasRisen v0 v1) how t.cause i))
          (ap (λ (e : End). e.mine) q.own ∙ t.taken.settled.still.mine);
      front = t.front;
      rest = t.rest;
      held = t.held;
      shows = t.shows;
      got = untaken how (t.front ≡ []) (moved_bytes (end_at tap d) ≡ t.front ++ t.rest)
          (λ i. absurd (not_taken b c (HasRisen f0 f1) (HasRisen v0 v1) how t.cause i)) tap_moved;
      all = t.all;
      n = t.n;
      counted = counted_sums t.n a c d (sums_counted t.n a b c o.leaves.sums t.counted) q.leaves.sums;
      counts = finished_both how (t.rest ≡ []) (t.n ≡ length t.got) (t.n ≡ length t.front)
          (λ none i. i ∙ ap length (got_front none)) t.all t.counts;
      moved = t.sum ∙ ap (λ (k : ℕ). k % 2 ^ 64) (zero-add t.n);
      signals = q.leaves.signals ∙ (t.signals ∙ o.leaves.signals);
      later = t.later;
      rises = t.rises;
      cause = untaken how (Unit {0}) (IsWriterStop n a d (HasRisen f0 f1) (HasRisen v0 v1) how) (λ i. tt) whole_cause;
    }

  -- The end was not to be had.
  abbrev taken_end : WorkerEnd
  taken_end = record { stop = stop.Taken; moved = 0 }

  pub writer_fails : (a b : Known) (h : Option (List ℕ)) (f v : ℕ) (s : List EntryState) → IsIdler a → Fails tap a b
      → WriterWorked n a b h h f f v v s s taken_end
  writer_fails a b h f v s idler o = record {
    served = record {
      idler = works_idler b o.work (o.owes no_excuse idler.clean.settled);
      domain = o.leaves.domain;
      grows = o.leaves.grows;
    };
    claims = λ j other. ap (λ (e : End). e.mine) (o.ends j);
    taken = record { refused = o.refused; mine = ap (λ (e : End). e.mine) (o.ends tap) };
    front = [];
    rest = [];
    held = held_same h;
    shows = shows_none s (Some stop.Taken);
    got = refl;
    all = tt;
    n = 0;
    counted = counted_none a b o.leaves.sums;
    counts = tt;
    moved = refl;
    signals = o.leaves.signals;
    later = omega arith;
    rises = (refl, refl);
    cause = tt;
  }

  -- and then the completion
  module _ (a b c : Known) (h0 h1 : Option (List ℕ)) (f0 f1 v0 v1 : ℕ) (s0 s1 : List EntryState) (w : WorkerEnd)
      (r : WriterWorked n a b h0 h1 f0 f1 v0 v1 s0 s1 w) (k : Finishes b c) where
    still_worked : WriterWorked n a c h0 h1 f0 f1 v0 v1 s0 s1 w
    still_worked = record {
      served = record {
        idler = k.idler;
        domain = k.leaves.domain ∙ r.served.domain;
        grows = grows_then a b c r.served.grows k.leaves.grows;
      };
      claims = λ j other. ap (λ (e : End). e.mine) (k.ends j) ∙ r.claims j other;
      taken = taken_map w.stop (Refused tap a b) ((end_at tap b).mine ≡ true) (Refused tap a c)
          ((end_at tap c).mine ≡ true) (λ x. record {
            refused = refused_later tap b c k.leaves.grows x.refused;
            mine = ap (λ (e : End). e.mine) (k.ends tap) ∙ x.mine;
          }) (λ x. ap (λ (e : End). e.mine) (k.ends tap) ∙ x) r.taken;
      front = r.front;
      rest = r.rest;
      held = r.held;
      shows = r.shows;
      got = taken_map w.stop (r.front ≡ []) (moved_bytes (end_at tap b) ≡ r.front ++ r.rest) (r.front ≡ [])
          (moved_bytes (end_at tap c) ≡ r.front ++ r.rest) (λ x. x) (λ x. ap moved_bytes (k.ends tap) ∙ x) r.got;
      all = r.all;
      n = r.n;
      counted = counted_sums r.n a b c r.counted k.leaves.sums;
      counts = r.counts;
      moved = r.moved;
      signals = k.leaves.signals ∙ r.signals;
      later = r.later;
      rises = r.rises;
      cause = taken_map w.stop (Unit {0}) (IsWriterStop n a b (HasRisen f0 f1) (HasRisen v0 v1) w.stop) (Unit {0})
          (IsWriterStop n a c (HasRisen f0 f1) (HasRisen v0 v1) w.stop) (λ x. x)
          (writer_later a b c (HasRisen f0 f1) (HasRisen v0 v1) k.leaves.grows (subst IsAtEnd (sym (k.ends tap))) w.stop)
          r.cause;
    }

    pub writer_completes : WriterDid n a c h0 h1 f0 f1 v0 v1 s0 s1 w
    writer_completes = record {
      worked = still_worked;
      completes = record { mid = b; before = r.served.grows; completed = k.completed };
    }
