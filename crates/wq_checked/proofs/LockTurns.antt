-- A stretch of a wait to take a bit: the call has come on from where it began, or it is over, and its task ready.
use Rattle.std.proofs.Common.{◌∙◌, refl, subst}
use Rattle.std.specs.Prelude.{◌≡◌, ◌||◌, Bool, true, false}
use Rattle.wait_model.specs.{declared.watches.Watch.Watch, Tasks.state_mask}
use Rattle.wait_model.specs.declared.watches.Watch.TheVariants as watch
use Rattle.wait_rule.specs.{Bits.taken_bits, Known.Known}
use Rattle.wait_class.specs.declared.stages.Turn.TheVariants as turn
use Rattle.wait_class.specs.{Laws.IsLawfulCallTable, Wholes.HasRested}
use Rattle.wait_class.proofs.{Framing.framed_lawful, Wholes.rests}
use Rattle.bit_wait.specs.{LockStays.TakesBit, declared.lock_runs.LockBit.LockBit}
use Rattle.bit_wait.specs.declared.lock_runs.LockOutcome.{LockOutcome}
use Rattle.bit_wait.specs.LockLeaves.{failed_in, lock_exits, takes_until, until_in}
use Rattle.bit_wait.specs.LockTables.{LockTurn, is_lock_over, lock_frame, lock_table}
use Rattle.bit_wait.specs.declared.lock_runs.LockOutcome.TheVariants as outcome
use Rattle.bit_wait.proofs.LockLeaving.{left_asked, left_idle, left_lock, left_takes, left_up, lock_may_leave}
use Rattle.bit_wait.proofs.LockLaws.{lock_lawful}
use Rattle.wq_checked.specs.{Calls.CameFrom, Advancing.lock_kind, Kinds.IsLawfulKind, declared.calls.Running.Running}
use Rattle.wq_checked.specs.declared.kept_bits.KeptBits.{KeptBits}
use Rattle.wq_checked.specs.Stages.{HasComeBy, LockRun, lock_first}
use Rattle.wq_checked.specs.Kept.{IsReadyWith, but_kept, keeps_in}
use Rattle.wq_checked.proofs.{LowWays.way_off, WayTurns.come_lands, Elsewhere.bit_low, Elsewhere.rest_off}
use Rattle.wq_checked.proofs.KindTurns.{Comes, bare_origin, lawful_kind}
use Rattle.wq_checked.proofs.Readiness.{keeps_more, owes_more_bits, ready_out}
use Rattle.wq_checked.specs.declared.calls.Running.TheVariants as running

abbrev law : IsLawfulCallTable lock_table
law = framed_lawful lock_frame lock_lawful

-- whether the bit was taken, by how the call ended
failed_is : (b : Bool) (e : LockBit) → takes_until (failed_in b e) ≡ false
failed_is true e = refl
failed_is false e = refl

took_is : (q : LockRun) (o : LockOutcome) → takes_until (until_in q.of.wait o) ≡ is_lock_over o
took_is q outcome.Over = refl
took_is q outcome.Interrupted = failed_is q.of.wait.asked q.of.wait
took_is q outcome.Worn = refl

-- a wait that is over leaves a ready task, which keeps the bit where it took it
pub lock_ready : (ks more : KeptBits) (may : Bool) (start mid new : Known) (f q : LockRun) (o : LockOutcome)
    → ((d : Watch) → keeps_in more d ≡ (taken_bits (watch.Bit f.of.wait.word f.of.wait.bit) (is_lock_over o) d || keeps_in ks d))
    → IsReadyWith ks start → HasComeBy may lock_table lock_exits start mid f q lock_first (turn.Done o)
    → HasRested mid new q.of.wait.worn → IsReadyWith more new
lock_ready ks more may start mid new f q o notes r a h =
    let over = come_lands lock_table lock_exits lock_may_leave law may start mid f q lock_first (turn.Done o) a in
    let x = rests mid new q.of.wait.worn (state_mask q.of.wait.state) h over.stands.state in
    let t = subst (λ (g : Bool). TakesBit start new (watch.Bit f.of.wait.word f.of.wait.bit) g) (took_is q o)
    (left_takes (may ≡ true) start mid new f q lock_first o a.way h f.of.wait.word f.of.wait.bit refl refl r.up r.idle
    (ready_out ks start r) r.told) in
    record {
      up = left_up (may ≡ true) start mid new f q lock_first o a.way h;
      idle = left_idle (may ≡ true) start mid new f q lock_first o a.way h r.idle.unmarked;
      told = x.hold ∙ over.stands.told;
      keeps = keeps_more ks more start new f.of.wait.word f.of.wait.bit (is_lock_over o) notes t.stays.keeps t.keeps r.keeps;
      owes = owes_more_bits ks more (taken_bits (watch.Bit f.of.wait.word f.of.wait.bit) (is_lock_over o)) new notes
          (t.owes (but_kept ks) r.owes);
      off = λ d. rest_off mid new q.of.wait.worn h over.stands.told d
          (way_off (may ≡ true) lock_table lock_exits lock_may_leave law start f lock_first
          (λ y. bit_low f.of.wait.word f.of.wait.bit) mid q (turn.Done o) a.way r.told d (r.off d));
    }

-- how it began and ends, by where it has come to
lock_comes : (may : Bool) (start : Known) (first : Running) (k : Known) (q : LockRun) (u : LockTurn)
    → CameFrom may start first k (running.Lock q u)
    → Comes lock_table lock_exits lock_kind lock_first may start first k q u
lock_comes may start (running.Lock f from) k q u c = (
  bare_origin lock_table lock_exits lock_kind lock_first start (running.Lock f from) f (λ ks b. b) (λ ks r. r) (λ by new p v a. a)
      (λ by mid new p o a h. record {
        result = until_in p.of.wait o;
        leaves = left_lock (by ≡ true) start mid new f p lock_first o a.way h;
        asked = left_asked (by ≡ true) start mid new f p lock_first o a.way h a.unasked;
        answers = refl;
      })
      (λ ks more mid new p o notes r a h. lock_ready ks more true start mid new f p o notes r a h),
  c,
)
lock_comes may start first k q u c = absurd c

pub lock_turns : IsLawfulKind lock_table lock_exits lock_kind
lock_turns = lawful_kind lock_table lock_exits lock_may_leave law lock_kind lock_first lock_comes
    (λ q u. refl) (λ k q u a. a) (λ k q u a. a) (λ ks k q u a. a) (λ ks k q u a. a) (λ old new r last now p a. a)
