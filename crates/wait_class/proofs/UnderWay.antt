-- A call that goes on by stretches: one stretch more.
use Rattle.std.specs.Prelude.{◌≡◌, Bool, true, false, MatchBool}
use Rattle.wait_rule.specs.{Known.Known, Queues.IsTold, Says.IsClean}
use Rattle.wait_class.specs.{declared.stages.Run.Run, declared.stages.Turn.Turn, Laws.IsLawfulCallTable}
use Rattle.wait_class.specs.Tables.{Advances, CallTable, IsAt, Plan, Went}
use Rattle.wait_class.specs.UnderWay.{Came, HasCome, IsUnderWay}
use Rattle.wait_class.specs.declared.stages.Turn.TheVariants as turn
use Rattle.wait_class.proofs.Turns.{advances_none, advances_on, again}

-- a call that began somewhere began there as well behind a further part of its way
pub come_on : {C S O : Type 0} {t : CallTable C S O} {c : Plan} {P Q : Known → Run C → S → Type 0} → HasCome t c P
    → ((old : Known) (r : Run C) (s : S) → P old r s → Q old r s) → HasCome t c Q
come_on i on = record {
  old = i.old;
  began = i.began;
  start = i.start;
  clean = i.clean;
  told = i.told;
  nothing = i.nothing;
  plan = i.plan;
  came = on i.old i.began i.start i.came;
}

module _ {C S O : Type 0} (t : CallTable C S O) where
  -- what a turn answered is gone on with there
  pub goes_there : (old new : Known) (r q : Run C) (s : S) (u : Turn S O) → Advances t old new r q s u
      → Came t old new r q s u
  goes_there old new r q s (turn.Locked n) a = again t old new r q s n a
  goes_there old new r q s _ a = a

  -- a task that was asleep goes on there too
  as_awake : (old new : Known) (r q : Run C) (s n : S) → t.plan_of q.of ≡ t.plan_of r.of
      → Went t old new r.of q.of (turn.Again s) (turn.Asleep n)
      → Went t old new r.of q.of (turn.Again s) (turn.Again n)
  as_awake old new r q s n same w = record { runs = w.runs; tells = w.tells; keeps = w.keeps }

  module _ (law : IsLawfulCallTable t) where
    pub came_on : (old mid new : Known) (r q w : Run C) (s n : S) (u : Turn S O)
        → Advances t old mid r q s (turn.Again n) → Advances t mid new q w n u → Came t old new r w s u
    came_on old mid new r q w s n u a b = goes_there old new r w s u
        (advances_on t law old mid new r q w s n u a.same a.went b)

    pub woke_on : (old mid new : Known) (r q w : Run C) (s n : S) (u : Turn S O)
        → Advances t old mid r q s (turn.Asleep n) → Advances t mid new q w n u → Came t old new r w s u
    woke_on old mid new r q w s n u a b = goes_there old new r w s u
        (advances_on t law old mid new r q w s n u a.same (as_awake old mid r q s n a.same a.went) b)

    pub begun_here : (c : Plan) (k : Known) (r : Run C) (s : S) → IsClean k → IsTold k → t.took s ≡ false
        → t.plan_of r.of ≡ c → IsAt t k r s → IsUnderWay t c k r (turn.Again s)
    begun_here c k r s clean told nothing plan at = record {
      old = k;
      began = r;
      start = s;
      clean = clean;
      told = told;
      nothing = nothing;
      plan = plan;
      came = advances_none t law k r s at;
    }

    pub under_on : (c : Plan) (mid new : Known) (q w : Run C) (n : S) (u : Turn S O)
        → IsUnderWay t c mid q (turn.Again n) → Advances t mid new q w n u → IsUnderWay t c new w u
    under_on c mid new q w n u i b = come_on i (λ old r s a. came_on old mid new r q w s n u a b)

    pub under_awake : (c : Plan) (mid new : Known) (q w : Run C) (n : S) (u : Turn S O)
        → IsUnderWay t c mid q (turn.Asleep n) → Advances t mid new q w n u → IsUnderWay t c new w u
    under_awake c mid new q w n u i b = come_on i (λ old r s a. woke_on old mid new r q w s n u a b)

    -- by what the look of one that was asleep answered
    pub under_woke : (c : Plan) (mid new : Known) (q : Run C) (n : S) (b : Bool)
        → MatchBool b (Advances t mid new q q n (turn.Again n)) (Advances t mid new q q n (turn.Asleep n))
        → IsUnderWay t c mid q (turn.Asleep n)
        → MatchBool b (IsUnderWay t c new q (turn.Again n)) (IsUnderWay t c new q (turn.Asleep n))
    under_woke c mid new q n true a i = under_awake c mid new q q n (turn.Again n) i a
    under_woke c mid new q n false a i = under_awake c mid new q q n (turn.Asleep n) i a

    pub came_woke : (old mid new : Known) (r q : Run C) (s n : S) (b : Bool)
        → MatchBool b (Advances t mid new q q n (turn.Again n)) (Advances t mid new q q n (turn.Asleep n))
        → Advances t old mid r q s (turn.Asleep n)
        → MatchBool b (Advances t old new r q s (turn.Again n)) (Advances t old new r q s (turn.Asleep n))
    came_woke old mid new r q s n true a i = woke_on old mid new r q q s n (turn.Again n) i a
    came_woke old mid new r q s n false a i = woke_on old mid new r q q s n (turn.Asleep n) i a
