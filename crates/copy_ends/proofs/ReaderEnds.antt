-- The whole work of a reader.
use Rattle.std.proofs.Common.{refl, sym, ◌∙◌, ap, subst, arith}
use Rattle.std.specs.Prelude.{ℕ, ◌≡◌, ◌≢◌, ◌++◌, true, List, [], length, Option, Some}
use Rattle.edge_io.specs.Faults.{HasRisen}
use Rattle.wait_rule.specs.{Aside.Grows, Known.Known, PipeSays.EndsStay, PipeSays.end_at, Says.OwesNothing}
use Rattle.wait_rule.specs.{Says.no_excuse, Stays.with_end}
use Rattle.wait_rule.specs.Pipes.{End, moved_bytes, write_end}
use Rattle.wait_pipe.specs.Pieces.{IsPipeOpened, IsSettled}
use Rattle.copy_plan.specs.{declared.plan.Planned.Planned, declared.stop.ReaderEnd.ReaderEnd, declared.stop.Stop.Stop}
use Rattle.copy_plan.specs.Plans.{due_in, fatal_of, up_to}
use Rattle.copy_plan.specs.declared.stop.Stop.TheVariants as stop
use Rattle.copy_ends.specs.Did.{IsIdler, ReaderDid, ReaderWorked, Refused, Served}
use Rattle.copy_turns.specs.{Raises.sent_to, Work.SignalsStay}
use Rattle.copy_turns.specs.Turns.{IsReaderStop, RaisedFor, Reading}
use Rattle.copy_ends.proofs.Ends.{Closes, Finishes, Fails, Opens, refused_later, works_idler, worn_later}
use Rattle.copy_turns.proofs.{Sends.Sends, Stopping.taken_map, Stopping.untaken}
use Rattle.copy_turns.proofs.PartLaws.{counted_none, counted_sums, grows_then, sums_counted, sums_then, took_later}
use Rattle.copy_turns.proofs.ReaderTurns.{prepend_none, raised_sends, raised_then, reader_before}

-- a reader that writes into pipe n
module _ (n : ℕ) where
  abbrev pen : ℕ
  pen = write_end n

  -- why it stopped, told later
  module _ (a b c : Known) (risen : Type 0) (g : Grows b c)
      (ended : (end_at pen b).ended ≡ true → (end_at pen c).ended ≡ true) where
    reader_later : (how : Stop) → IsReaderStop n a b risen how → IsReaderStop n a c risen how
    reader_later stop.Finished is = is
    reader_later stop.Broken is = ended is
    reader_later stop.Killed is = took_later a b c is g
    reader_later stop.Taken is = absurd is
    reader_later stop.ReadFault is = is
    reader_later stop.WriteFault is = absurd is
    reader_later stop.Memory is = absurd is
    reader_later stop.Long is = is
    reader_later (stop.Worn h p) is = worn_later b c h p g is

  raised_later : (a b c : Known) (targets : List ℕ) (to : ℕ) (plan : List Planned) → SignalsStay b c
      → RaisedFor a b targets 0 to plan → RaisedFor a c targets 0 to plan
  raised_later a b c targets to plan same r = record { times = r.times; rise = r.rise; all = same ∙ r.all }

  not_taken : (a b : Known) (risen : Type 0) (how : Stop) → IsReaderStop n a b risen how → how ≢ stop.Taken
  not_taken a b risen how is e = subst (IsReaderStop n a b risen) e is

  -- its end after the sends of its beginning
  pub still_settled : (b c : Known) → IsPipeOpened (end_at pen b) → EndsStay b c → IsSettled (end_at pen c)
  still_settled b c o ends = subst IsSettled (sym (ends pen)) o.settled

  -- its end was opened, the signals were sent that were due, turns of it went up to a stop, and its end was closed
  module _ (a b c d e : Known) (l0 l1 : Option (List ℕ)) (f0 f1 r : ℕ) (targets : List ℕ) (plan : List Planned)
      (o : Opens pen a b) (s : Sends b c (sent_to targets (due_in 0 0 plan))) (how : Stop)
      (t : Reading n c d l0 l1 f0 f1 0 r targets plan (Some how)) (q : Closes pen d e) (idler : IsIdler a) where
    settled : OwesNothing e
    settled = q.owes no_excuse (t.works.owes (with_end pen no_excuse) (s.works.owes (with_end pen no_excuse)
        (o.owes no_excuse idler.clean.settled)))

    before : Grows a c
    before = grows_then a b c o.leaves.grows s.works.grows

    served : Served a e
    served = record {
      idler = works_idler e q.work settled;
      domain = q.leaves.domain ∙ (t.works.domain ∙ (s.works.domain ∙ o.leaves.domain));
      grows = grows_then a c e before (grows_then c d e t.works.grows q.leaves.grows);
    }

    pen_new : moved_bytes (end_at pen c) ≡ []
    pen_new = ap moved_bytes (s.ends pen ∙ o.becomes.own)

    pen_moved : moved_bytes (end_at pen e) ≡ t.front
    pen_moved = ap moved_bytes q.own ∙ (t.moved.bytes ∙ ap (λ l. l ++ t.front) pen_new)

    whole_cause : IsReaderStop n a e (HasRisen f0 f1) how
    whole_cause = reader_later a d e (HasRisen f0 f1) q.leaves.grows (λ is. ap (λ (x : End). x.ended) q.own ∙ is) how
        (reader_before n a c d f0 f0 f1 before (omega arith) how t.cause)

    due_all : RaisedFor a e targets 0 r plan
    due_all = raised_later a d e targets r plan q.leaves.signals
        (raised_then a c d targets 0 0 r plan
        (raised_sends a b c c targets 0 0 plan (omega arith) o.leaves.signals s refl) t.signals)

    pub reader_did : (sent kills : ℕ) → sent ≡ length (up_to r plan) → kills ≡ length (fatal_of (up_to r plan))
        → ReaderWorked n a e l0 l1 f0 f1 targets plan (record { stop = how; read = r; sent = sent; kills = kills })
    reader_did sent kills sends deadly =
        let never = not_taken c d (HasRisen f0 f1) how t.cause in
        record {
          served = served;
          claims = λ j other. q.claims j ∙ (t.works.claims j ∙ (s.works.claims j
              ∙ ap (λ (x : End). x.mine) (o.becomes.others j other)));
          taken = untaken how (Refused pen a e) ((end_at pen e).mine ≡ true) (λ i. absurd (never i))
              (ap (λ (x : End). x.mine) q.own ∙ t.moved.settled.still.mine);
          given = t.given;
          front = t.front;
          rest = t.rest;
          left = t.left;
          read = let x = t.read in omega arith;
          parts = t.parts;
          sent = untaken how (t.front ≡ []) (moved_bytes (end_at pen e) ≡ t.front) (λ i. absurd (never i)) pen_moved;
          all = t.all;
          whole = t.whole;
          n = t.n;
          counted = counted_sums t.n a d e (sums_counted t.n a c d (sums_then a b c o.leaves.sums s.sums) t.counted)
              q.leaves.sums;
          counts = t.counts;
          signals = untaken how (SignalsStay a e) (RaisedFor a e targets 0 r plan) (λ i. absurd (never i)) due_all;
          due = up_to r plan;
          dues = untaken how (up_to r plan ≡ []) (up_to r plan ≡ up_to r plan) (λ i. absurd (never i)) refl;
          sends = sends;
          kills = deadly;
          long = t.long;
          later = t.later;
          cause = untaken how (Unit {0}) (IsReaderStop n a e (HasRisen f0 f1) how) (λ i. tt) whole_cause;
        }

  -- Its end was not to be had.
  pub reader_fails : (a b : Known) (left : Option (List ℕ)) (f : ℕ) (targets : List ℕ) (plan : List Planned) → IsIdler a
      → Fails pen a b
      → ReaderWorked n a b left left f f targets plan (record { stop = stop.Taken; read = 0; sent = 0; kills = 0 })
  reader_fails a b left f targets plan idler o = record {
    served = record {
      idler = works_idler b o.work (o.owes no_excuse idler.clean.settled);
      domain = o.leaves.domain;
      grows = o.leaves.grows;
    };
    claims = λ j other. ap (λ (x : End). x.mine) (o.ends j);
    taken = record { refused = o.refused; mine = ap (λ (x : End). x.mine) (o.ends pen) };
    given = [];
    front = [];
    rest = [];
    left = prepend_none left;
    read = refl;
    parts = refl;
    sent = refl;
    all = tt;
    whole = tt;
    n = 0;
    counted = counted_none a b o.leaves.sums;
    counts = tt;
    signals = o.leaves.signals;
    due = [];
    dues = refl;
    sends = refl;
    kills = refl;
    long = omega arith;
    later = omega arith;
    cause = tt;
  }

  -- and then the completion
  module _ (a b c : Known) (l0 l1 : Option (List ℕ)) (f0 f1 : ℕ) (targets : List ℕ) (plan : List Planned) (w : ReaderEnd)
      (r : ReaderWorked n a b l0 l1 f0 f1 targets plan w) (k : Finishes b c) where
    refused_still : Refused pen a b → Refused pen a c
    refused_still x = record {
      refused = refused_later pen b c k.leaves.grows x.refused;
      mine = ap (λ (e : End). e.mine) (k.ends pen) ∙ x.mine;
    }

    still_worked : ReaderWorked n a c l0 l1 f0 f1 targets plan w
    still_worked = record {
      served = record {
        idler = k.idler;
        domain = k.leaves.domain ∙ r.served.domain;
        grows = grows_then a b c r.served.grows k.leaves.grows;
      };
      claims = λ j other. ap (λ (e : End). e.mine) (k.ends j) ∙ r.claims j other;
      taken = taken_map w.stop (Refused pen a b) ((end_at pen b).mine ≡ true) (Refused pen a c)
          ((end_at pen c).mine ≡ true) refused_still (λ x. ap (λ (e : End). e.mine) (k.ends pen) ∙ x) r.taken;
      given = r.given;
      front = r.front;
      rest = r.rest;
      left = r.left;
      read = r.read;
      parts = r.parts;
      sent = taken_map w.stop (r.front ≡ []) (moved_bytes (end_at pen b) ≡ r.front) (r.front ≡ [])
          (moved_bytes (end_at pen c) ≡ r.front) (λ x. x) (λ x. ap moved_bytes (k.ends pen) ∙ x) r.sent;
      all = r.all;
      whole = r.whole;
      n = r.n;
      counted = counted_sums r.n a b c r.counted k.leaves.sums;
      counts = r.counts;
      signals = taken_map w.stop (SignalsStay a b) (RaisedFor a b targets 0 w.read plan) (SignalsStay a c)
          (RaisedFor a c targets 0 w.read plan) (λ x. k.leaves.signals ∙ x)
          (raised_later a b c targets w.read plan k.leaves.signals) r.signals;
      due = r.due;
      dues = r.dues;
      sends = r.sends;
      kills = r.kills;
      long = r.long;
      later = r.later;
      cause = taken_map w.stop (Unit {0}) (IsReaderStop n a b (HasRisen f0 f1) w.stop) (Unit {0})
          (IsReaderStop n a c (HasRisen f0 f1) w.stop) (λ x. x)
          (reader_later a b c (HasRisen f0 f1) k.leaves.grows (λ is. ap (λ (e : End). e.ended) (k.ends pen) ∙ is) w.stop)
          r.cause;
    }

    pub reader_completes : ReaderDid n a c l0 l1 f0 f1 targets plan w
    reader_completes = record {
      worked = still_worked;
      completes = record { mid = b; before = r.served.grows; completed = k.completed };
    }
