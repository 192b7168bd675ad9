-- A stretch of a wait for a plain condition or a variable: the call has come on from where it began, or it is over, and
-- its task ready.
use Rattle.std.proofs.Common.{◌∙◌, ap, refl, subst}
use Rattle.std.specs.Prelude.{ℕ, ◌≡◌, Bool, true, Result}
use Rattle.wait_model.specs.declared.watches.Watch.{Watch}
use Rattle.wait_rule.specs.Known.{Known}
use Rattle.wait_class.specs.declared.stages.Turn.TheVariants as turn
use Rattle.wait_class.specs.Tables.{Plan}
use Rattle.wait_leave.proofs.Ways.{way_plan}
use Rattle.wait_event.specs.{declared.wait_events.WaitEnd.WaitEnd, declared.wait_leaves.WaitUntil.WaitUntil}
use Rattle.wait_event.specs.{declared.waits.WaitCall.WaitCall, declared.waits.WaitOutcome.WaitOutcome}
use Rattle.wait_event.specs.{WaitLeaves.wait_exits, WaitLeaves.wait_until_in, Waits.IsRunningWait, Waits.wait_table}
use Rattle.wait_event.specs.declared.waits.WaitStage.TheVariants as stage
use Rattle.wait_event.proofs.WaitLaws.{wait_lawful}
use Rattle.wait_event.proofs.WaitLeaving.{ends_seen, ends_until, left_carried, left_idle, left_up, wait_may_leave}
use Rattle.wq_checked.specs.{Kept.IsReadyWith, Kept.but_kept, Advancing.event_kind, Kinds.IsLawfulKind}
use Rattle.wq_checked.specs.{declared.calls.Running.Running, declared.kept_bits.KeptBits.KeptBits}
use Rattle.wq_checked.specs.Stages.{HasComeBy, StandsBy, WaitRun, WaitTurn}
use Rattle.wq_checked.specs.Calls.{CameFrom, EventCame, EventEnded, event_answer}
use Rattle.wq_checked.specs.declared.calls.Running.TheVariants as running
use Rattle.wq_checked.proofs.{Readiness.ready_masks, Elsewhere.event_low, WayTurns.come_lands, WayTurns.come_stayed}
use Rattle.wq_checked.proofs.KindTurns.{Comes, lawful_kind, stands_fit}
use Rattle.wq_checked.proofs.LowWays.{QueuesLow, low_back, way_off}

-- its heads are none of completions, and were none where it began
queues_low : (r : WaitCall) → IsRunningWait r → QueuesLow (wait_table.plan_of r)
queues_low r runs = λ y. event_low r runs

began_low : (start old : Known) (f run : WaitRun) (last : WaitTurn) → StandsBy wait_table old run last
    → HasComeBy true wait_table wait_exits start old f run stage.First last → QueuesLow (wait_table.plan_of f.of)
began_low start old f run last stands c = low_back (true ≡ true) wait_table wait_exits wait_may_leave wait_lawful start f
    stage.First old run last c.way (queues_low run.of (stands_fit wait_table old run last stands))

-- a wait that is over leaves a ready task
event_ready : (ks : KeptBits) (may : Bool) (start new : Known) (f q : WaitRun) (o : WaitOutcome)
    → QueuesLow (wait_table.plan_of f.of) → IsReadyWith ks start
    → HasComeBy may wait_table wait_exits start new f q stage.First (turn.Done o) → IsReadyWith ks new
event_ready ks may start new f q o low r a =
    let c = left_carried (may ≡ true) start new f q stage.First o a.way r.up r.idle r.told in
    let over = come_lands wait_table wait_exits wait_may_leave wait_lawful may start new f q stage.First (turn.Done o) a in
    record {
      up = left_up (may ≡ true) start new f q stage.First o a.way;
      idle = left_idle (may ≡ true) start new f q stage.First o a.way r.idle.unmarked;
      told = over.stands.told;
      keeps = λ d. c.keeps d refl ∙ r.keeps d;
      owes = c.owes (but_kept ks) r.owes;
      off = λ d. way_off (may ≡ true) wait_table wait_exits wait_may_leave wait_lawful start f stage.First low new q
          (turn.Done o) a.way r.told d (r.off d);
    }

-- how it ended
same_watch : (may : Bool) (start new : Known) (f q : WaitRun) (t : WaitTurn)
    → HasComeBy may wait_table wait_exits start new f q stage.First t → q.of.watch ≡ f.of.watch
same_watch may start new f q t c = ap (λ (p : Plan). p.watch)
    (way_plan (may ≡ true) wait_table wait_exits wait_may_leave wait_lawful start f stage.First new q t c.way)

answers_as : (w v : Watch) (x y : ℕ) (r : WaitUntil (Result (Unit {0}) WaitEnd)) → v ≡ w → x ≡ y
    → event_answer v y r ≡ event_answer w x r
answers_as w v x y r a b = subst (λ (z : Watch). event_answer v y r ≡ event_answer z x r) a
    (subst (λ (n : ℕ). event_answer v n r ≡ event_answer v x r) b refl)

event_ended : (may : Bool) (start new : Known) (f q : WaitRun) (o : WaitOutcome)
    → EventCame may start new f q (turn.Done o)
    → EventEnded may start new f (event_answer q.of.watch q.of.seen (wait_until_in q.of o))
event_ended may start new f q o a =
    let w = a.fresh.0 in
    let how = a.fresh.1 in
    let fresh = a.fresh.2 in record {
      watch = w;
      how = how;
      fresh = fresh;
      result = wait_until_in q.of o;
      ended = ends_until (may ≡ true) start new f q o w how fresh a.came.way;
      answers = answers_as w q.of.watch _ q.of.seen (wait_until_in q.of o)
          (same_watch may start new f q (turn.Done o) a.came ∙ fresh.watch_is)
          (ends_seen (may ≡ true) start new f q o w how fresh a.came.way);
    }

-- where it began, by where it has come to
event_comes : (may : Bool) (start : Known) (first : Running) (k : Known) (q : WaitRun) (u : WaitTurn)
    → CameFrom may start first k (running.Event q u)
    → Comes wait_table wait_exits event_kind stage.First may start first k q u
event_comes may start (running.Event f from) k q u c = (
  record {
    f = f;
    ready = λ ks b. b.0;
    begins = λ ks r. (r, c.fresh);
    on = λ by new p v a. record { came = a; fresh = c.fresh };
    ends = λ by mid new p o a h. event_ended by start new f p o (record {
      came = come_stayed wait_table wait_exits by start mid new f p stage.First (turn.Done o) h a;
      fresh = c.fresh;
    });
    leaves = λ ks more old mid new run p last o stands came notes r a h. event_ready more true start new f p o
        (began_low start old f run last stands came) (ready_masks ks more start notes r)
        (come_stayed wait_table wait_exits true start mid new f p stage.First (turn.Done o) h a);
  },
  c.came,
)
event_comes may start first k q u c = absurd c

pub event_turns : IsLawfulKind wait_table wait_exits event_kind
event_turns = lawful_kind wait_table wait_exits wait_may_leave wait_lawful event_kind stage.First event_comes
    (λ q u. refl) (λ k q u a. a) (λ k q u a. a) (λ ks k q u a. a) (λ ks k q u a. a) (λ old new r last now p a. a)
