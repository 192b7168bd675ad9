-- A stretch of a wait that its task may leave: the call has come on from where it began.
use Rattle.std.proofs.Common.{refl, subst, sym}
use Rattle.std.specs.Prelude.{◌≡◌, ◌||◌, Bool, true, false}
use Rattle.wait_model.specs.declared.points.Next.TheVariants as next
use Rattle.wait_rule.specs.Known.{Known}
use Rattle.wait_class.specs.{declared.stages.Run.Run, declared.stages.Turn.Turn, Laws.IsLawfulCallTable}
use Rattle.wait_class.specs.Tables.{Advances, CallTable, IsAt, Lands, SleepsNot, next_in, plan_program}
use Rattle.wait_class.specs.declared.stages.Turn.TheVariants as turn
use Rattle.wait_leave.specs.ExitLaws.{AreLawfulExits}
use Rattle.wait_leave.specs.Leaves.{Exits, GoesOut, Leaves, asked_run, stays_awake}
use Rattle.wait_leave.specs.OnTheWay.{OnTheWay, left_at, straight}
use Rattle.wait_leave.proofs.Awake.{goes_awake, rest_awake}
use Rattle.wait_class.proofs.AwakeSteps.{sleeps_not_on, sleeps_not_same}
use Rattle.wait_leave.proofs.Ways.{way_again, way_lands, way_none, way_then}
use Rattle.wq_checked.specs.Stages.{HasComeBy, StandsBy, StretchesOn}
use Rattle.wq_checked.proofs.GroundTurns.{joined}

pub either_left : (a b : Bool) → a ≡ true → (a || b) ≡ true
either_left true b is = refl
either_left false b is = absurd (cc)

pub either_right : (a b : Bool) → b ≡ true → (a || b) ≡ true
either_right true b is = refl
either_right false b is = is

-- a way for another cause, and one that nobody may have been asked on
pub way_by : {C S O : Type 0} (A B : Type 0) → (A → B) → (t : CallTable C S O) (x : Exits C S O) (old : Known) (r : Run C)
    (s : S) (new : Known) (q : Run C) (u : Turn S O) → OnTheWay A t x old r s new q u → OnTheWay B t x old r s new q u
way_by A B f t x old r s _ _ _ (straight new q u a) = straight new q u a
way_by A B f t x old r s _ _ _ (left_at mid m n new q u c w l) = left_at mid m n new q u (f c)
    (way_by A B f t x old r s mid m (turn.Again n) w) l

module _ {C S O : Type 0} (t : CallTable C S O) (x : Exits C S O) (law : AreLawfulExits t x) (lawful : IsLawfulCallTable t)
  where
    out_awake : (e u : Turn S O) (k new : Known) (r q : Run C) → GoesOut t k new r q e u → stays_awake t x e ≡ true
        → SleepsNot k new
    out_awake (turn.Again s) u k new r q a here = goes_awake (plan_program k.view.number 0 (t.plan_of r.of)) x.awake
        (law.awake r.of k.view.number) k (next.Go (t.point_of s)) a.went.runs.transitions new (next_in t u) here
        a.went.runs.goes
    out_awake (turn.Asleep s) u k new r q a here = absurd a
    out_awake (turn.Locked s) u k new r q a here = absurd a
    out_awake (turn.Done o) u k new r q a here = sleeps_not_same k new a.still

    -- behind a sleep
    out_up : (e : Turn S O) (n : S) (u : Turn S O) (k mid new : Known) (r m q : Run C)
        → GoesOut t k mid r m e (turn.Asleep n) → Advances t mid new m q n u → GoesOut t k new r q e u
    out_up (turn.Again s) n u k mid new r m q b a = joined t lawful k mid new r m q s (turn.Asleep n) u b.lands b a
    out_up (turn.Asleep s) n u k mid new r m q b a = absurd b
    out_up (turn.Locked s) n u k mid new r m q b a = absurd b
    out_up (turn.Done o) n u k mid new r m q b a = absurd (let no = b.to in cc)

    leaves_up : (old mid new : Known) (r m q : Run C) (s n : S) (u : Turn S O) → Leaves t x old mid r m s (turn.Asleep n)
        → Advances t mid new m q n u → Leaves t x old new r q s u
    leaves_up old mid new r m q s n u l a =
        let on = out_up l.exit.to n u l.rested mid new (asked_run x r) m q l.on a in record {
          exit = l.exit;
          is = l.is;
          rested = l.rested;
          rests = l.rests;
          keeps = l.keeps;
          on = on;
          awake = λ here. sleeps_not_on old l.rested new (rest_awake old l.rested l.exit.rests l.rests)
              (out_awake l.exit.to u l.rested new (asked_run x r) q on here);
        }

    way_up : (A : Type 0) (start old new : Known) (f run q : Run C) (first n : S) (u : Turn S O)
        → OnTheWay A t x start f first old run (turn.Asleep n) → Advances t old new run q n u
        → OnTheWay A t x start f first new q u
    way_up A start old new f run q first n u w a = by old run (turn.Asleep n) w refl a
      where
        by : (k : Known) (m : Run C) (v : Turn S O) → OnTheWay A t x start f first k m v → v ≡ turn.Asleep n
            → Advances t k new m q n u → OnTheWay A t x start f first new q u
        by _ _ _ (straight k m v b) is a = straight new q u
            (joined t lawful start k new f m q first (turn.Asleep n) u
            (subst (λ (y : Turn S O). Lands t k m y) is b.lands)
            (subst (λ (y : Turn S O). Advances t start k f m first y) is b) a)
        by _ _ _ (left_at j i s k m v c w l) is a = left_at j i s new q u c w
            (leaves_up j k new i m q s n u (subst (λ (y : Turn S O). Leaves t x j k i m s y) is l) a)

    module _ (asks may : Bool) (start old new : Known) (f run q : Run C) (first : S) where
      abbrev Why : Type 0
      Why = (asks || may) ≡ true

      came_on : (s : S) (u : Turn S O) → OnTheWay Why t x start f first old run (turn.Again s)
          → OnTheWay (asks ≡ true) t x old run s new q u → OnTheWay Why t x start f first new q u
      came_on s u w a = way_then Why t x law lawful start f first old new run q s u w
          (way_by (asks ≡ true) Why (either_left asks may) t x old run s new q u a)

      so_far : (last : Turn S O) → HasComeBy may t x start old f run first last
          → OnTheWay Why t x start f first old run last
      so_far last c = way_by (may ≡ true) Why (either_right asks may) t x start f first old run last c.way

      -- one stretch more
      pub come_on : (last u : Turn S O) → StandsBy t old run last → HasComeBy may t x start old f run first last
          → StretchesOn asks t x old new run q last u → HasComeBy (asks || may) t x start new f q first u
      come_on (turn.Again s) u stands c a = record {
        unasked = c.unasked;
        way = came_on s u (so_far (turn.Again s) c) a;
      }
      come_on (turn.Locked s) u stands c a = record {
        unasked = c.unasked;
        way = came_on s u (way_again Why t x law lawful start f first old run s (so_far (turn.Locked s) c)) a;
      }
      come_on (turn.Asleep s) u stands c a = record {
        unasked = c.unasked;
        way = way_up Why start old new f run q first s u (so_far (turn.Asleep s) c) a;
      }
      come_on (turn.Done o) u stands c a = absurd stands

    -- a call that begins
    pub come_none : (may : Bool) (k : Known) (r : Run C) (s : S) → (t.plan_of r.of).asked ≡ false → IsAt t k r s
        → HasComeBy may t x k k r r s (turn.Again s)
    come_none may k r s none at = record {
      unasked = none;
      way = way_none (may ≡ true) t x law lawful k r s at;
    }

    pub come_lands : (may : Bool) (start k : Known) (f r : Run C) (s : S) (u : Turn S O) → HasComeBy may t x start k f r s u
        → Lands t k r u
    come_lands may start k f r s u c = way_lands (may ≡ true) t x law lawful start f s k r u c.way

-- one that may have been asked
pub for_all : {C S O : Type 0} (asks : Bool) (t : CallTable C S O) (x : Exits C S O) (start new : Known) (f q : Run C)
    (first : S) (u : Turn S O) → HasComeBy (asks || true) t x start new f q first u → HasComeBy true t x start new f q first u
for_all true t x start new f q first u c = c
for_all false t x start new f q first u c = c

-- where it does not rest it stands as before
pub come_stayed : {C S O : Type 0} (t : CallTable C S O) (x : Exits C S O) (may : Bool) (start mid new : Known)
    (f q : Run C) (first : S) (u : Turn S O) → new ≡ mid → HasComeBy may t x start mid f q first u
    → HasComeBy may t x start new f q first u
come_stayed t x may start mid new f q first u is c = subst (λ (k : Known). HasComeBy may t x start k f q first u) (sym is) c
