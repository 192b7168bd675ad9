-- A stretch of a wait for a completion: the call has come on from where it began, or it is over, and its task ready.
use Rattle.std.proofs.Common.{◌∙◌, refl}
use Rattle.std.specs.Prelude.{◌≡◌, Bool, true}
use Rattle.wait_rule.specs.Known.{Known}
use Rattle.wait_class.specs.declared.stages.Turn.TheVariants as turn
use Rattle.completion_cell.specs.{AwaitLeaves.await_exits, AwaitLeaves.await_until, Awaits.AwaitTurn}
use Rattle.completion_cell.specs.{Awaits.await_table, declared.awaits.AwaitOutcome.AwaitOutcome}
use Rattle.completion_cell.specs.declared.awaits.AwaitStage.TheVariants as stage
use Rattle.completion_cell.proofs.AwaitLaws.{await_lawful}
use Rattle.completion_cell.proofs.AwaitLeaving.{await_may_leave, leaves_await, left_asked, left_carried, left_idle}
use Rattle.completion_cell.proofs.AwaitLeaving.{left_off, left_up}
use Rattle.wq_checked.specs.{Kept.IsReadyWith, Kept.but_kept, Stages.AwaitRun, Calls.AwaitCame, Calls.CameFrom}
use Rattle.wq_checked.specs.{Advancing.await_kind, Kinds.IsLawfulKind, declared.calls.Running.Running}
use Rattle.wq_checked.specs.declared.kept_bits.KeptBits.{KeptBits}
use Rattle.wq_checked.specs.declared.calls.Running.TheVariants as running
use Rattle.wq_checked.proofs.{Readiness.ready_masks, WayTurns.come_stayed}
use Rattle.wq_checked.proofs.KindTurns.{Comes, bare_origin, lawful_kind}

-- a wait that is over leaves a ready task
await_ready : (ks : KeptBits) (may : Bool) (start new : Known) (f q : AwaitRun) (o : AwaitOutcome) → IsReadyWith ks start
    → AwaitCame may start new f q (turn.Done o) → IsReadyWith ks new
await_ready ks may start new f q o r a =
    let w = a.came.way in
    let c = left_carried (may ≡ true) start new f q stage.First o w r.up r.idle r.told in record {
      up = left_up (may ≡ true) start new f q stage.First o w;
      idle = left_idle (may ≡ true) start new f q stage.First o w r.idle.unmarked;
      told = c.hold ∙ r.told;
      keeps = λ d. c.keeps d refl ∙ r.keeps d;
      owes = c.owes (but_kept ks) r.owes;
      off = λ d. left_off (may ≡ true) start new f q stage.First o w r.told d (r.off d);
    }

-- how it began and ends, by where it has come to
await_comes : (may : Bool) (start : Known) (first : Running) (k : Known) (q : AwaitRun) (u : AwaitTurn)
    → CameFrom may start first k (running.Await q u)
    → Comes await_table await_exits await_kind stage.First may start first k q u
await_comes may start (running.Await f from) k q u c = (
  bare_origin await_table await_exits await_kind stage.First start (running.Await f from) f (λ ks b. b) (λ ks r. r)
      (λ by new p v a. record { came = a; held = c.held })
      (λ by mid new p o a h.
      let e = come_stayed await_table await_exits by start mid new f p stage.First (turn.Done o) h a in record {
        result = await_until p.of o;
        leaves = leaves_await (by ≡ true) start new f p stage.First o e.way;
        asked = left_asked (by ≡ true) start new f p stage.First o e.way e.unasked;
        off = left_off (by ≡ true) start new f p stage.First o e.way c.held;
        answers = refl;
      })
      (λ ks more mid new p o notes r a h. await_ready more true start new f p o (ready_masks ks more start notes r) (record {
        came = come_stayed await_table await_exits true start mid new f p stage.First (turn.Done o) h a;
        held = c.held;
      })),
  c.came,
)
await_comes may start first k q u c = absurd c

pub await_turns : IsLawfulKind await_table await_exits await_kind
await_turns = lawful_kind await_table await_exits await_may_leave await_lawful await_kind stage.First await_comes
    (λ q u. refl) (λ k q u a. a) (λ k q u a. a) (λ ks k q u a. a) (λ ks k q u a. a) (λ old new r last now p a. a)
