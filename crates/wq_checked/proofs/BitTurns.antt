-- A stretch of a wait for a bit: the call has come on from where it began, or it is over, and its task ready.
use Rattle.std.proofs.Common.{◌∙◌, refl}
use Rattle.std.specs.Prelude.{◌≡◌, Bool, true}
use Rattle.wait_rule.specs.Known.{Known}
use Rattle.wait_class.specs.declared.stages.Turn.TheVariants as turn
use Rattle.wait_class.specs.{Laws.IsLawfulCallTable, Wholes.HasRested}
use Rattle.wait_class.proofs.Framing.{framed_lawful}
use Rattle.bit_wait.specs.{BitLeaves.bit_exits, BitLeaves.bit_until_in, declared.waits.BitOutcome.BitOutcome}
use Rattle.bit_wait.specs.BitTables.{bit_frame, bit_table, is_bit_worn}
use Rattle.bit_wait.proofs.BitLaws.{bit_lawful}
use Rattle.bit_wait.proofs.BitLeaving.{bit_may_leave, left_asked, left_carried, left_idle, left_up, left_wait}
use Rattle.wq_checked.specs.{Kept.IsReadyWith, Kept.but_kept, Calls.CameFrom, Advancing.bit_kind, Kinds.IsLawfulKind}
use Rattle.wq_checked.specs.{declared.calls.Running.Running, declared.kept_bits.KeptBits.KeptBits}
use Rattle.wq_checked.specs.Stages.{BitRun, BitTurn, HasComeBy, bit_first}
use Rattle.wq_checked.specs.declared.calls.Running.TheVariants as running
use Rattle.wq_checked.proofs.{Elsewhere.bit_low, Elsewhere.rest_off, Readiness.ready_masks, LowWays.way_off}
use Rattle.wq_checked.proofs.WayTurns.{come_lands}
use Rattle.wq_checked.proofs.KindTurns.{Comes, bare_origin, lawful_kind}

abbrev law : IsLawfulCallTable bit_table
law = framed_lawful bit_frame bit_lawful

-- a wait that is over leaves a ready task, once it has stored RUNNING where it found no place
pub bit_ready : (ks : KeptBits) (may : Bool) (start mid new : Known) (f q : BitRun) (o : BitOutcome) → IsReadyWith ks start
    → HasComeBy may bit_table bit_exits start mid f q bit_first (turn.Done o) → HasRested mid new (is_bit_worn o)
    → IsReadyWith ks new
bit_ready ks may start mid new f q o r a h =
    let over = come_lands bit_table bit_exits bit_may_leave law may start mid f q bit_first (turn.Done o) a in
    let c = left_carried (may ≡ true) start mid new f q bit_first o a.way h r.up r.idle r.told in record {
      up = left_up (may ≡ true) start mid new f q bit_first o a.way h;
      idle = left_idle (may ≡ true) start mid new f q bit_first o a.way h r.idle.unmarked;
      told = c.hold ∙ r.told;
      keeps = λ d. c.keeps d refl ∙ r.keeps d;
      owes = c.owes (but_kept ks) r.owes;
      off = λ d. rest_off mid new (is_bit_worn o) h over.stands.told d
          (way_off (may ≡ true) bit_table bit_exits bit_may_leave law start f bit_first
          (λ y. bit_low f.of.wait.word f.of.wait.bit) mid q (turn.Done o) a.way r.told d (r.off d));
    }

-- how it began and ends, by where it has come to
bit_comes : (may : Bool) (start : Known) (first : Running) (k : Known) (q : BitRun) (u : BitTurn)
    → CameFrom may start first k (running.Bit q u) → Comes bit_table bit_exits bit_kind bit_first may start first k q u
bit_comes may start (running.Bit f from) k q u c = (
  bare_origin bit_table bit_exits bit_kind bit_first start (running.Bit f from) f (λ ks b. b) (λ ks r. r) (λ by new p v a. a)
      (λ by mid new p o a h. record {
        result = bit_until_in p.of.wait o;
        leaves = left_wait (by ≡ true) start mid new f p bit_first o a.way h;
        asked = left_asked (by ≡ true) start mid new f p bit_first o a.way h a.unasked;
        answers = refl;
      })
      (λ ks more mid new p o notes r a h. bit_ready more true start mid new f p o (ready_masks ks more start notes r) a h),
  c,
)
bit_comes may start first k q u c = absurd c

pub bit_turns : IsLawfulKind bit_table bit_exits bit_kind
bit_turns = lawful_kind bit_table bit_exits bit_may_leave law bit_kind bit_first bit_comes
    (λ q u. refl) (λ k q u a. a) (λ k q u a. a) (λ ks k q u a. a) (λ ks k q u a. a) (λ old new r last now p a. a)
