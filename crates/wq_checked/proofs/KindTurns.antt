-- A stretch of a wait of any kind: the call has come on from where it began, or it is over, and its task ready.
use Rattle.std.proofs.Common.{◌∙◌, ap, refl}
use Rattle.std.specs.Prelude.{◌≡◌, ◌||◌, Bool, true}
use Rattle.wait_model.specs.declared.watches.Watch.{Watch}
use Rattle.wait_rule.specs.{Bits.taken_bits, Known.Known, Says.IsUp}
use Rattle.wait_class.specs.{declared.stages.Run.Run, declared.stages.Turn.Turn, Laws.IsLawfulCallTable}
use Rattle.wait_class.specs.Wholes.{HasRested}
use Rattle.wait_class.specs.Tables.{CallTable, Lands, Plan, watch_in}
use Rattle.wait_class.specs.declared.stages.Turn.TheVariants as turn
use Rattle.wait_leave.specs.{ExitLaws.AreLawfulExits, Leaves.Exits}
use Rattle.wait_leave.proofs.Ways.{way_lands, way_plan}
use Rattle.wq_checked.specs.{Kept.IsReadyWith, Kept.keeps_in, Kinds.IsLawfulKind, Kinds.KeepsTaken, Locks.awaited_in}
use Rattle.wq_checked.specs.{Outs.OutStretch, Outs.WentOut, declared.calls.Progress.Progress}
use Rattle.wq_checked.specs.{declared.calls.Running.Running, declared.kept_bits.KeptBits.KeptBits}
use Rattle.wq_checked.specs.Advancing.{WaitKind, left_by, shown_of_wait, took_by, worn_by}
use Rattle.wq_checked.specs.Calls.{Began, CameFrom, Ended, FitsProgress, IsCallUnderWay, IsRunningSound, StandsOn}
use Rattle.wq_checked.specs.Calls.{WentOn, turn_told}
use Rattle.wq_checked.specs.Stages.{HasComeBy, StandsBy, StretchesOn}
use Rattle.wq_checked.proofs.{Going.went_refused, Readiness.ready_masks}
use Rattle.wq_checked.proofs.WayTurns.{come_lands, come_on, come_stayed, for_all}

-- A call of this kind that began with this task: its wait, and that the task was ready; what has come from there, also
-- on a longer way; and how it ends, and leaves a ready task, once RUNNING is stored where no place was left.
pub record Origin {C S O : Type 0} (t : CallTable C S O) (x : Exits C S O) (n : WaitKind C S O) (s : S) (start : Known)
    (first : Running) : Type 0 where
  pub f : Run C
  pub ready : (ks : KeptBits) → Began ks start first → IsReadyWith ks start
  pub begins : (ks : KeptBits) → IsReadyWith ks start → Began ks start first
  pub on : (may : Bool) (k : Known) (q : Run C) (u : Turn S O) → HasComeBy may t x start k f q s u
      → CameFrom may start first k (n.now q u)
  pub ends : (may : Bool) (mid new : Known) (q : Run C) (o : O) → HasComeBy may t x start mid f q s (turn.Done o)
      → HasRested mid new (n.worn q.of o) → Ended may start first new (n.answer q.of o)
  pub leaves : (ks more : KeptBits) (old mid new : Known) (run q : Run C) (last : Turn S O) (o : O)
      → StandsBy t old run last → HasComeBy true t x start old f run s last → KeepsTaken t n f.of (turn.Done o) ks more
      → IsReadyWith ks start → HasComeBy true t x start mid f q s (turn.Done o) → HasRested mid new (n.worn q.of o)
      → IsReadyWith more new

-- what has come to here, by where it began
abbrev pub Comes : {C S O : Type 0} → CallTable C S O → Exits C S O → WaitKind C S O → S → Bool → Known → Running → Known
    → Run C → Turn S O → Type 0
Comes t x n s may start first k q u = (g : Origin t x n s start first) × HasComeBy may t x start k g.f q s u

-- one whose end asks for nothing of where it stood before
abbrev pub bare_origin : {C S O : Type 0} (t : CallTable C S O) (x : Exits C S O) (n : WaitKind C S O) (s : S)
    (start : Known) (first : Running) (f : Run C) → ((ks : KeptBits) → Began ks start first → IsReadyWith ks start)
    → ((ks : KeptBits) → IsReadyWith ks start → Began ks start first)
    → ((may : Bool) (k : Known) (q : Run C) (u : Turn S O) → HasComeBy may t x start k f q s u
    → CameFrom may start first k (n.now q u))
    → ((may : Bool) (mid new : Known) (q : Run C) (o : O) → HasComeBy may t x start mid f q s (turn.Done o)
    → HasRested mid new (n.worn q.of o) → Ended may start first new (n.answer q.of o))
    → ((ks more : KeptBits) (mid new : Known) (q : Run C) (o : O) → KeepsTaken t n f.of (turn.Done o) ks more
    → IsReadyWith ks start → HasComeBy true t x start mid f q s (turn.Done o) → HasRested mid new (n.worn q.of o)
    → IsReadyWith more new) → Origin t x n s start first
bare_origin t x n s start first f ready begins on ends leaves = record {
  f = f;
  ready = ready;
  begins = begins;
  on = on;
  ends = ends;
  leaves = λ ks more old mid new run q last o stands came notes r a h. leaves ks more mid new q o notes r a h;
}

-- the numbers of a wait under way are in their ranges
pub stands_fit : {C S O : Type 0} (t : CallTable C S O) (k : Known) (r : Run C) (last : Turn S O) → StandsBy t k r last
    → t.Fits r.of
stands_fit t k r (turn.Again m) stands = stands.fits
stands_fit t k r (turn.Asleep m) stands = stands.fits
stands_fit t k r (turn.Locked m) stands = stands.fits
stands_fit t k r (turn.Done o) stands = absurd stands

module _ {C S O : Type 0} (t : CallTable C S O) (x : Exits C S O) (law : AreLawfulExits t x) (lawful : IsLawfulCallTable t)
    (n : WaitKind C S O) (s : S)
    (comes : (may : Bool) (start : Known) (first : Running) (k : Known) (q : Run C) (u : Turn S O)
    → CameFrom may start first k (n.now q u) → Comes t x n s may start first k q u)
    (told : (q : Run C) (u : Turn S O) → FitsProgress (n.now q u) (turn_told (n.now q u) u))
    (stands_in : (k : Known) (q : Run C) (u : Turn S O) → StandsBy t k q u → StandsOn k (n.now q u))
    (stands_out : (k : Known) (q : Run C) (u : Turn S O) → StandsOn k (n.now q u) → StandsBy t k q u)
    (sound_in : (ks : KeptBits) (k : Known) (q : Run C) (u : Turn S O) → IsCallUnderWay ks k (n.now q u)
    → IsRunningSound (n.now q u) ks k)
    (sound_out : (ks : KeptBits) (k : Known) (q : Run C) (u : Turn S O) → IsRunningSound (n.now q u) ks k
    → IsCallUnderWay ks k (n.now q u))
    (out : (old new : Known) (r : Run C) (last : Turn S O) (now : Running) (p : Progress)
    → OutStretch t x n old new r last now p → WentOut old (n.now r last) new now p) where
  -- it is awake where it has ended
  lands : (asks : Bool) (old mid : Known) (run q : Run C) (last u : Turn S O)
      → StretchesOn asks t x old mid run q last u → Lands t mid q u
  lands asks old mid run q (turn.Again m) u a = way_lands (asks ≡ true) t x law lawful old run m mid q u a
  lands asks old mid run q (turn.Locked m) u a = way_lands (asks ≡ true) t x law lawful old run m mid q u a
  lands asks old mid run q (turn.Asleep m) u a = a.lands
  lands asks old mid run q (turn.Done o) u a = absurd a

  up_at : (mid : Known) (q : Run C) (u : Turn S O) → Lands t mid q u → worn_by n q u ≡ true → IsUp mid
  up_at mid q (turn.Done o) a worn = a.up
  up_at mid q (turn.Again m) a worn = absurd (cc)
  up_at mid q (turn.Asleep m) a worn = absurd (cc)
  up_at mid q (turn.Locked m) a worn = absurd (cc)

  -- what it tells, by where it stands
  tells : (may : Bool) (start : Known) (first : Running) (mid new : Known) (q : Run C) (u : Turn S O)
      (g : Origin t x n s start first) → HasComeBy may t x start mid g.f q s u → HasRested mid new (worn_by n q u)
      → WentOn may start first new (left_by n q u) (shown_of_wait n q u)
  tells may start first mid new q (turn.Again m) g a h = (
    g.on may new q (turn.Again m) (come_stayed t x may start mid new g.f q s (turn.Again m) h a),
    told q (turn.Again m),
  )
  tells may start first mid new q (turn.Asleep m) g a h = (
    g.on may new q (turn.Asleep m) (come_stayed t x may start mid new g.f q s (turn.Asleep m) h a),
    told q (turn.Asleep m),
  )
  tells may start first mid new q (turn.Locked m) g a h = went_refused may start first new (n.now q (turn.Locked m))
      (awaited_in (n.now q (turn.Locked m)))
      (g.on may new q (turn.Locked m) (come_stayed t x may start mid new g.f q s (turn.Locked m) h a))
      (told q (turn.Locked m))
  tells may start first mid new q (turn.Done o) g a h = (refl, g.ends may mid new q o a h)

  goes : (asks may : Bool) (start : Known) (first : Running) (old mid new : Known) (run q : Run C)
      (last u : Turn S O) → StandsBy t old run last → CameFrom may start first old (n.now run last)
      → StretchesOn asks t x old mid run q last u → HasRested mid new (worn_by n q u)
      → WentOn (asks || may) start first new (left_by n q u) (shown_of_wait n q u)
  goes asks may start first old mid new run q last u stands came a h =
      let c = comes may start first old run last came in
      tells (asks || may) start first mid new q u c.0
      (come_on t x law lawful asks may start old mid c.0.f run q s last u stands c.1 a) h

  -- what is kept of the task then
  module _ (ks more : KeptBits) (start : Known) (first : Running) (g : Origin t x n s start first) where
    stays : (new : Known) (q : Run C) (u : Turn S O) → ((d : Watch) → keeps_in more d ≡ keeps_in ks d)
        → IsReadyWith ks start → HasComeBy true t x start new g.f q s u → StandsBy t new q u
        → IsRunningSound (n.now q u) more new
    stays new q u same ready a stands = sound_in more new q u (record {
      start = start;
      first = first;
      began = g.begins more (ready_masks ks more start same ready);
      came = g.on true new q u a;
      stands = stands_in new q u stands;
    })

    keeps : (old mid new : Known) (run q : Run C) (last u : Turn S O) → StandsBy t old run last
        → HasComeBy true t x start old g.f run s last → KeepsTaken t n g.f.of u ks more → IsReadyWith ks start
        → HasComeBy true t x start mid g.f q s u → HasRested mid new (worn_by n q u)
        → IsRunningSound (left_by n q u) more new
    keeps old mid new run q last (turn.Again m) stands came notes ready a h =
        let on = come_stayed t x true start mid new g.f q s (turn.Again m) h a in
        stays new q (turn.Again m) notes ready on (come_lands t x law lawful true start new g.f q s (turn.Again m) on)
    keeps old mid new run q last (turn.Asleep m) stands came notes ready a h =
        let on = come_stayed t x true start mid new g.f q s (turn.Asleep m) h a in
        stays new q (turn.Asleep m) notes ready on (come_lands t x law lawful true start new g.f q s (turn.Asleep m) on)
    keeps old mid new run q last (turn.Locked m) stands came notes ready a h =
        let on = come_stayed t x true start mid new g.f q s (turn.Locked m) h a in
        stays new q (turn.Locked m) notes ready on (come_lands t x law lawful true start new g.f q s (turn.Locked m) on)
    keeps old mid new run q last (turn.Done o) stands came notes ready a h =
        g.leaves ks more old mid new run q last o stands came notes ready a h

  -- it is about the same all the way
  same_watch : (start k : Known) (f q : Run C) (u : Turn S O) → HasComeBy true t x start k f q s u
      → watch_in t q.of ≡ watch_in t f.of
  same_watch start k f q u c = ap (λ (p : Plan). p.watch) (way_plan (true ≡ true) t x law lawful start f s k q u c.way)

  sound : (ks more : KeptBits) (asks : Bool) (old mid new : Known) (run q : Run C) (last u : Turn S O)
      → KeepsTaken t n run.of u ks more → IsRunningSound (n.now run last) ks old
      → StretchesOn asks t x old mid run q last u → HasRested mid new (worn_by n q u)
      → IsRunningSound (left_by n q u) more new
  sound ks more asks old mid new run q last u notes w a h =
      let v = sound_out ks old run last w in
      let c = comes true v.start v.first old run last v.came in
      let stands = stands_out old run last v.stands in
      keeps ks more v.start v.first c.0 old mid new run q last u stands c.1
      (λ d. notes d ∙ ap (λ (y : Watch). taken_bits y (took_by n u) d || keeps_in ks d)
      (same_watch v.start old c.0.f run last c.1)) (c.0.ready ks v.began)
      (for_all asks t x v.start mid c.0.f q s u
      (come_on t x law lawful asks true v.start old mid c.0.f run q s last u stands c.1 a)) h

  pub lawful_kind : IsLawfulKind t x n
  lawful_kind = record {
    stands = λ ks k r last w. stands_out k r last (sound_out ks k r last w).stands;
    fits = stands_fit t;
    up = λ asks old mid run q last u a worn. up_at mid q u (lands asks old mid run q last u a) worn;
    goes = goes;
    sound = sound;
    out = out;
  }
