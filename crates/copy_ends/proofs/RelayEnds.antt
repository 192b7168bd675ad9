-- The whole work of a relay.
use Rattle.std.proofs.Common.{refl, sym, ◌∙◌, ap, subst, inl, inr, zero-add, arith}
use Rattle.std.specs.Prelude.{ℕ, ◌≡◌, ◌≢◌, ◌%◌, ◌^◌, ◌⊎◌, ◌++◌, true, [], length, Some}
use Rattle.wait_rule.specs.{Aside.Grows, Known.Known, PipeSays.end_at, Says.OwesNothing, Says.no_excuse, Stays.with_end}
use Rattle.wait_rule.specs.Pipes.{End, closed, moved_bytes, read_end, write_end}
use Rattle.wait_pipe.specs.Pieces.{IsAtEnd}
use Rattle.copy_plan.specs.{declared.TheConstants.SINK_PIPE, declared.TheConstants.SOURCE_PIPE, declared.stop.Stop.Stop}
use Rattle.copy_plan.specs.declared.stop.WorkerEnd.{WorkerEnd}
use Rattle.copy_plan.specs.declared.stop.Stop.TheVariants as stop
use Rattle.copy_ends.specs.Did.{IsIdler, Refused, RelayDid, RelayWorked, Served}
use Rattle.copy_turns.specs.Turns.{IsRelayStop, Relaying}
use Rattle.copy_ends.proofs.Ends.{Closes, Finishes, Fails, Leaves, Opens, end_closed, leaves_then, owes_swapped}
use Rattle.copy_ends.proofs.Ends.{refused_later, works_idler, worn_later}
use Rattle.copy_turns.proofs.PartLaws.{counted_none, counted_sums, grows_then, sums_counted, took_later}
use Rattle.copy_turns.proofs.Relays.{relay_before}
use Rattle.copy_turns.proofs.Stopping.{finished_map, taken_map, untaken}

abbrev tap : ℕ
tap = read_end SOURCE_PIPE

abbrev pen : ℕ
pen = write_end SINK_PIPE

-- why it stopped, told later
module _ (a b c : Known) (g : Grows b c) (at_end : IsAtEnd (end_at tap b) → IsAtEnd (end_at tap c))
    (ended : (end_at pen b).ended ≡ true → (end_at pen c).ended ≡ true) where
  relay_later : (how : Stop) → IsRelayStop SOURCE_PIPE SINK_PIPE a b how → IsRelayStop SOURCE_PIPE SINK_PIPE a c how
  relay_later stop.Finished is = at_end is
  relay_later stop.Broken is = ended is
  relay_later stop.Killed is = took_later a b c is g
  relay_later stop.Taken is = absurd is
  relay_later stop.ReadFault is = absurd is
  relay_later stop.WriteFault is = absurd is
  relay_later stop.Memory is = absurd is
  relay_later stop.Long is = absurd is
  relay_later (stop.Worn h p) is = worn_later b c h p g is

not_taken : (a b : Known) (how : Stop) → IsRelayStop SOURCE_PIPE SINK_PIPE a b how → how ≢ stop.Taken
not_taken a b how is e = subst (IsRelayStop SOURCE_PIPE SINK_PIPE a b) e is

-- both ends were opened, turns of it went up to a stop, and both ends were closed
module _ (a b c d e f : Known) (o : Opens tap a b) (p : Opens pen b c) (m : ℕ) (how : Stop)
    (t : Relaying SOURCE_PIPE SINK_PIPE c d 0 m (Some how)) (q : Closes tap d e) (s : Closes pen e f) (idler : IsIdler a) where
  before : Leaves a c
  before = leaves_then a b c o.leaves p.leaves

  behind : Leaves d f
  behind = leaves_then d e f q.leaves s.leaves

  settled : OwesNothing f
  settled = s.owes no_excuse (q.owes (with_end pen no_excuse) (owes_swapped pen tap no_excuse d
      (t.works.owes (with_end pen (with_end tap no_excuse)) (p.owes (with_end tap no_excuse)
      (o.owes no_excuse idler.clean.settled)))))

  served : Served a f
  served = record {
    idler = works_idler f s.work settled;
    domain = behind.domain ∙ (t.works.domain ∙ before.domain);
    grows = grows_then a c f before.grows (grows_then c d f t.works.grows behind.grows);
  }

  tap_is : end_at tap f ≡ closed (end_at tap d)
  tap_is = s.others tap (λ i. omega arith) ∙ q.own

  pen_is : end_at pen f ≡ closed (end_at pen d)
  pen_is = s.own ∙ ap closed (q.others pen (λ i. omega arith))

  tap_new : moved_bytes (end_at tap c) ≡ []
  tap_new = ap moved_bytes (p.becomes.others tap (λ i. omega arith) ∙ o.becomes.own)

  pen_new : moved_bytes (end_at pen c) ≡ []
  pen_new = ap moved_bytes p.becomes.own

  tap_moved : moved_bytes (end_at tap f) ≡ t.got
  tap_moved = ap moved_bytes tap_is ∙ (t.taken ∙ ap (λ l. l ++ t.got) tap_new)

  pen_moved : moved_bytes (end_at pen f) ≡ t.front
  pen_moved = ap moved_bytes pen_is ∙ (t.sent ∙ ap (λ l. l ++ t.front) pen_new)

  whole_cause : IsRelayStop SOURCE_PIPE SINK_PIPE a f how
  whole_cause = relay_later a d f behind.grows
      (λ is. subst IsAtEnd (sym tap_is) (end_closed (end_at tap d) is))
      (λ is. ap (λ (x : End). x.ended) pen_is ∙ is) how
      (relay_before SOURCE_PIPE SINK_PIPE (λ e. omega (arith, e)) a c d before.grows how t.cause)

  pub relay_did : RelayWorked a f (record { stop = how; moved = m })
  relay_did = record {
    served = served;
    claims = λ j one two. s.claims j ∙ (q.claims j ∙ (t.works.claims j
        ∙ (ap (λ (x : End). x.mine) (p.becomes.others j two) ∙ ap (λ (x : End). x.mine) (o.becomes.others j one))));
    taken = untaken how (Refused tap a f ⊎ Refused pen a f)
        (((end_at tap f).mine ≡ true) × ((end_at pen f).mine ≡ true))
        (λ i. absurd (not_taken c d how t.cause i))
        (ap (λ (x : End). x.mine) tap_is ∙ t.tap.still.mine, ap (λ (x : End). x.mine) pen_is ∙ t.pen.still.mine);
    rest = t.rest;
    sent = untaken how (Unit {0}) (moved_bytes (end_at tap f) ≡ moved_bytes (end_at pen f) ++ t.rest) (λ i. tt)
        (tap_moved ∙ (t.parts ∙ ap (λ l. l ++ t.rest) (sym pen_moved)));
    all = t.all;
    n = t.n;
    counted = counted_sums t.n a d f (sums_counted t.n a c d before.sums t.counted) behind.sums;
    counts = finished_map how (t.n ≡ length t.got) (t.n ≡ length (moved_bytes (end_at tap f)))
        (λ i. i ∙ sym (ap length tap_moved)) t.counts;
    moved = t.sum ∙ ap (λ (k : ℕ). k % 2 ^ 64) (zero-add t.n);
    signals = behind.signals ∙ (t.signals ∙ before.signals);
    cause = untaken how (Unit {0}) (IsRelayStop SOURCE_PIPE SINK_PIPE a f how) (λ i. tt) whole_cause;
  }

-- An end was not to be had.
abbrev taken_end : WorkerEnd
taken_end = record { stop = stop.Taken; moved = 0 }

pub relay_fails : (a b : Known) → IsIdler a → Fails tap a b → RelayWorked a b taken_end
relay_fails a b idler o = record {
  served = record {
    idler = works_idler b o.work (o.owes no_excuse idler.clean.settled);
    domain = o.leaves.domain;
    grows = o.leaves.grows;
  };
  claims = λ j one two. ap (λ (x : End). x.mine) (o.ends j);
  taken = inl (record { refused = o.refused; mine = ap (λ (x : End). x.mine) (o.ends tap) });
  rest = [];
  sent = tt;
  all = tt;
  n = 0;
  counted = counted_none a b o.leaves.sums;
  counts = tt;
  moved = refl;
  signals = o.leaves.signals;
  cause = tt;
}

module _ (a b c d : Known) (idler : IsIdler a) (o : Opens tap a b) (p : Fails pen b c) (q : Closes tap c d) where
  failed : Leaves a d
  failed = leaves_then a b d o.leaves (leaves_then b c d p.leaves q.leaves)

  pub relay_fails_then : RelayWorked a d taken_end
  relay_fails_then = record {
    served = record {
      idler = works_idler d q.work (q.owes no_excuse (p.owes (with_end tap no_excuse)
          (o.owes no_excuse idler.clean.settled)));
      domain = failed.domain;
      grows = failed.grows;
    };
    claims = λ j one two. q.claims j ∙ (ap (λ (x : End). x.mine) (p.ends j)
        ∙ ap (λ (x : End). x.mine) (o.becomes.others j one));
    taken = inr (record {
      refused = refused_later pen c d q.leaves.grows p.refused;
      mine = q.claims pen ∙ (ap (λ (x : End). x.mine) (p.ends pen)
          ∙ ap (λ (x : End). x.mine) (o.becomes.others pen (λ i. omega arith)));
    });
    rest = [];
    sent = tt;
    all = tt;
    n = 0;
    counted = counted_none a d failed.sums;
    counts = tt;
    moved = refl;
    signals = failed.signals;
    cause = tt;
  }

-- and then the completion
module _ (a b c : Known) (w : WorkerEnd) (r : RelayWorked a b w) (k : Finishes b c) where
  refused_still : (j : ℕ) → Refused j a b → Refused j a c
  refused_still j x = record {
    refused = refused_later j b c k.leaves.grows x.refused;
    mine = ap (λ (e : End). e.mine) (k.ends j) ∙ x.mine;
  }

  either_still : Refused tap a b ⊎ Refused pen a b → Refused tap a c ⊎ Refused pen a c
  either_still (inl x) = inl (refused_still tap x)
  either_still (inr x) = inr (refused_still pen x)

  still_worked : RelayWorked a c w
  still_worked = record {
    served = record {
      idler = k.idler;
      domain = k.leaves.domain ∙ r.served.domain;
      grows = grows_then a b c r.served.grows k.leaves.grows;
    };
    claims = λ j one two. ap (λ (e : End). e.mine) (k.ends j) ∙ r.claims j one two;
    taken = taken_map w.stop (Refused tap a b ⊎ Refused pen a b)
        (((end_at tap b).mine ≡ true) × ((end_at pen b).mine ≡ true)) (Refused tap a c ⊎ Refused pen a c)
        (((end_at tap c).mine ≡ true) × ((end_at pen c).mine ≡ true)) either_still
        (λ x. (ap (λ (e : End). e.mine) (k.ends tap) ∙ x.0, ap (λ (e : End). e.mine) (k.ends pen) ∙ x.1)) r.taken;
    rest = r.rest;
    sent = taken_map w.stop (Unit {0}) (moved_bytes (end_at tap b) ≡ moved_bytes (end_at pen b) ++ r.rest) (Unit {0})
        (moved_bytes (end_at tap c) ≡ moved_bytes (end_at pen c) ++ r.rest) (λ x. x)
        (λ x. ap moved_bytes (k.ends tap) ∙ (x ∙ ap (λ (e : End). moved_bytes e ++ r.rest) (sym (k.ends pen)))) r.sent;
    all = r.all;
    n = r.n;
    counted = counted_sums r.n a b c r.counted k.leaves.sums;
    counts = finished_map w.stop (r.n ≡ length (moved_bytes (end_at tap b))) (r.n ≡ length (moved_bytes (end_at tap c)))
        (λ i. i ∙ sym (ap (λ (e : End). length (moved_bytes e)) (k.ends tap))) r.counts;
    moved = r.moved;
    signals = k.leaves.signals ∙ r.signals;
    cause = taken_map w.stop (Unit {0}) (IsRelayStop SOURCE_PIPE SINK_PIPE a b w.stop) (Unit {0}) (IsRelayStop SOURCE_PIPE SINK_PIPE a c w.stop) (λ x. x)
        (relay_later a b c k.leaves.grows (subst IsAtEnd (sym (k.ends tap)))
        (λ is. ap (λ (e : End). e.ended) (k.ends pen) ∙ is) w.stop) r.cause;
  }

  pub relay_completes : RelayDid a c w
  relay_completes = record {
    worked = still_worked;
    completes = record { mid = b; before = r.served.grows; completed = k.completed };
  }
