-- A wait goes out of a stage.
use Rattle.std.proofs.Common.{◌∙◌, append-nil, refl, subst, sym}
use Rattle.std.specs.Prelude.{◌≡◌, Bool, true, false, Some, []}
use Rattle.wait_model.specs.declared.points.Next.TheVariants as next
use Rattle.wait_model.specs.declared.steps.Step.TheVariants as step
use Rattle.wait_rule.specs.declared.journal.Item.TheVariants as item
use Rattle.wait_rule.specs.{Known.Known, Queues.index, Says.added, Says.told_of, Stays.Carries, Stays.state_change}
use Rattle.wait_class.specs.{declared.stages.Run.Run, declared.stages.Turn.Turn, Wholes.HasRested}
use Rattle.wait_class.specs.Laws.{Calm, IsLawfulCallTable, IsPlainTurn, turn_post}
use Rattle.wait_class.specs.Tables.{Advances, CallTable, IsAt, IsEnded, Lands, SleepsNot, next_in, plan_program}
use Rattle.wait_class.specs.Tables.{post_of, watch_in}
use Rattle.wait_class.specs.declared.stages.Turn.TheVariants as turn
use Rattle.wait_class.proofs.{AwakeSteps.sleeps_not_on, AwakeSteps.sleeps_not_same, CalmSteps.calm_step}
use Rattle.wait_class.proofs.{Ground.Standing.state_stands, Ground.Standing.state_up, UnderWay.woke_on}
use Rattle.wait_class.proofs.Turns.{LandsOn, advances_none, advances_on, again, lands_plain, stands_plain, zero_for}
use Rattle.wait_leave.specs.declared.exits.Exit.{Exit}
use Rattle.wait_leave.specs.ExitLaws.{AreLawfulExits, ExitLaw, rest_steps}
use Rattle.wait_leave.specs.Leaves.{Exits, GoesOut, Leaves, asked_run, stays_awake}
use Rattle.wait_leave.proofs.Awake.{goes_awake, rest_awake}

pub calm_none : (k : Known) → Calm [] k k
calm_none k = record {
  number = refl;
  items = [];
  grown = sym (append-nil _);
  history = sym (append-nil _);
  keeps = λ d. refl;
  tries = λ d kept none. none;
  stored = λ still. refl;
  state = λ awake. refl;
}

module _ {C S O : Type 0} (t : CallTable C S O) (x : Exits C S O) (law : AreLawfulExits t x) (lawful : IsLawfulCallTable t)
  where
    -- how the task stands where it goes on
    out_here : (k new : Known) (r : Run C) (s : S) (e : Exit S O) → ExitLaw t x r.of s e → IsAt t k r s
        → LandsOn t new (x.asks r.of) e.to → Lands t new (asked_run x r) e.to
    out_here k new r s e l a on = lands_plain t new (asked_run x r) e.to (l.fits a.fits) l.plain on

    still_on : (k : Known) (r : Run C) (s : S) (e : Exit S O) → ExitLaw t x r.of s e → e.rests ≡ false → IsAt t k r s
        → LandsOn t k (x.asks r.of) e.to
    still_on k r s e l none a =
        let st = stands_plain t k r s l.fresh a.stands in
        record {
          up = a.up;
          stands = record {
            head = st.head ∙ sym l.head;
            at = λ h is. st.at h (sym l.head ∙ is);
            told = st.told ∙ sym l.head;
            ticket = st.ticket ∙ sym l.ticket;
            agreed = λ h is. st.agreed h (sym l.head ∙ is);
            state = l.state none k.book.state st.state;
            home = l.home ((told_of k).bits.stored (index k.view.number 0)) st.home;
          };
          trail = l.trail k k (subst (λ (b : Bool). Calm (rest_steps b) k k) (sym none) (calm_none k)) a.trail;
        }

    rested_on : (old new : Known) (r : Run C) (s : S) (e : Exit S O) → ExitLaw t x r.of s e → e.rests ≡ true
        → IsAt t old r s → new ≡ added old (item.Made (step.State 0)) → Carries (state_change 0) old new
        → LandsOn t new (x.asks r.of) e.to
    rested_on old new r s e l rests a is carries = record {
      up = state_up old new 0 is carries a.up;
      stands = state_stands old new 0 is carries (post_of t r.of s) (turn_post t (x.asks r.of) e.to)
          (stands_plain t old r s l.fresh a.stands) l.head l.ticket (zero_for _ _ 0 refl) l.home;
      trail = l.trail old new (subst (λ (b : Bool). Calm (rest_steps b) old new) (sym rests)
          (calm_step old new (step.State 0) is (λ v. refl) (λ v d none. none) (λ m v. refl) (λ m b. refl))) a.trail;
    }

    out_none : (k : Known) (q : Run C) (u : Turn S O) → IsPlainTurn t u → Lands t k q u → GoesOut t k k q q u u
    out_none k q (turn.Again s) plain a = advances_none t lawful k q s a
    out_none k q (turn.Asleep s) plain a = absurd plain
    out_none k q (turn.Locked s) plain a = absurd plain
    out_none k q (turn.Done o) plain a = record { still = refl; same = refl; to = refl; ended = a }

    pub leaves_still : (k : Known) (r : Run C) (s : S) (e : Exit S O) → x.exit r.of s ≡ Some e → IsAt t k r s
        → e.rests ≡ false → Leaves t x k k r (asked_run x r) s e.to
    leaves_still k r s e is a none =
        let l = law.at r.of s e is in record {
          exit = e;
          is = is;
          rested = k;
          rests = subst (HasRested k k) (sym none) refl;
          keeps = lawful.keeps.none (index k.view.number 0) (watch_in t r.of) (t.took s) k;
          on = out_none k (asked_run x r) e.to l.plain (out_here k k r s e l a (still_on k r s e l none a));
          awake = λ _. sleeps_not_same k k refl;
        }

    pub leaves_rested : (old new : Known) (r : Run C) (s : S) (e : Exit S O) → x.exit r.of s ≡ Some e → IsAt t old r s
        → e.rests ≡ true → new ≡ added old (item.Made (step.State 0)) → Carries (state_change 0) old new
        → Leaves t x old new r (asked_run x r) s e.to
    leaves_rested old new r s e is a rests step carries =
        let l = law.at r.of s e is in record {
          exit = e;
          is = is;
          rested = new;
          rests = subst (HasRested old new) (sym rests) step;
          keeps = lawful.keeps.state (index old.view.number 0) (watch_in t r.of) (t.took s) old new 0 step carries;
          on = out_none new (asked_run x r) e.to l.plain
              (out_here old new r s e l a (rested_on old new r s e l rests a step carries));
          awake = λ _. rest_awake old new true step;
        }

    -- where it went on, and on
    out_lands : (e u : Turn S O) (k new : Known) (r q : Run C) → GoesOut t k new r q e u → Lands t new q u
    out_lands (turn.Again s) u k new r q a = a.lands
    out_lands (turn.Asleep s) u k new r q a = absurd a
    out_lands (turn.Locked s) u k new r q a = absurd a
    out_lands (turn.Done o) u k new r q a = subst (Lands t new q) (sym a.to)
        (subst (λ (j : Known). IsEnded t j q o) (sym a.still) (subst (λ (p : Run C). IsEnded t k p o) (sym a.same) a.ended))

    out_awake : (e u : Turn S O) (k new : Known) (r q : Run C) → GoesOut t k new r q e u → stays_awake t x e ≡ true
        → SleepsNot k new
    out_awake (turn.Again s) u k new r q a here = goes_awake (plan_program k.view.number 0 (t.plan_of r.of)) x.awake
        (law.awake r.of k.view.number) k (next.Go (t.point_of s)) a.went.runs.transitions new (next_in t u) here
        a.went.runs.goes
    out_awake (turn.Asleep s) u k new r q a here = absurd a
    out_awake (turn.Locked s) u k new r q a here = absurd a
    out_awake (turn.Done o) u k new r q a here = sleeps_not_same k new a.still

    leaves_by : (old new : Known) (r q : Run C) (s : S) (e : Exit S O) (rested : Known) (u : Turn S O)
        → x.exit r.of s ≡ Some e → HasRested old rested e.rests
        → t.Keeps (index old.view.number 0) (watch_in t r.of) (t.took s) (t.took s) old rested
        → GoesOut t rested new (asked_run x r) q e.to u → Leaves t x old new r q s u
    leaves_by old new r q s e rested u is rests keeps on = record {
      exit = e;
      is = is;
      rested = rested;
      rests = rests;
      keeps = keeps;
      on = on;
      awake = λ here. sleeps_not_on old rested new (rest_awake old rested e.rests rests)
          (out_awake e.to u rested new (asked_run x r) q on here);
    }

    pub leaves_lands : (old new : Known) (r q : Run C) (s : S) (u : Turn S O) → Leaves t x old new r q s u
        → Lands t new q u
    leaves_lands old new r q s u l = out_lands l.exit.to u l.rested new (asked_run x r) q l.on

    out_on : (e : Turn S O) (n : S) (u : Turn S O) (k mid new : Known) (r m q : Run C)
        → GoesOut t k mid r m e (turn.Again n) → Advances t mid new m q n u → GoesOut t k new r q e u
    out_on (turn.Again s) n u k mid new r m q b a = advances_on t lawful k mid new r m q s n u b.same b.went a
    out_on (turn.Asleep s) n u k mid new r m q b a = absurd b
    out_on (turn.Locked s) n u k mid new r m q b a = absurd b
    out_on (turn.Done o) n u k mid new r m q b a = absurd (let no = b.to in cc)

    pub leaves_on : (old mid new : Known) (r m q : Run C) (s n : S) (u : Turn S O)
        → Leaves t x old mid r m s (turn.Again n) → Advances t mid new m q n u → Leaves t x old new r q s u
    leaves_on old mid new r m q s n u l a = leaves_by old new r q s l.exit l.rested u l.is l.rests l.keeps
        (out_on l.exit.to n u l.rested mid new (asked_run x r) m q l.on a)

    -- behind a sleep, and a lock that was not served
    out_risen : (e : Turn S O) (n : S) (k mid new : Known) (r q : Run C) → GoesOut t k mid r q e (turn.Asleep n)
        → Advances t mid new q q n (turn.Again n) → GoesOut t k new r q e (turn.Again n)
    out_risen (turn.Again s) n k mid new r q b a = woke_on t lawful k mid new r q q s n (turn.Again n) b a
    out_risen (turn.Asleep s) n k mid new r q b a = absurd b
    out_risen (turn.Locked s) n k mid new r q b a = absurd b
    out_risen (turn.Done o) n k mid new r q b a = absurd (let no = b.to in cc)

    pub leaves_risen : (old mid new : Known) (r q : Run C) (s n : S) → Leaves t x old mid r q s (turn.Asleep n)
        → Advances t mid new q q n (turn.Again n) → Leaves t x old new r q s (turn.Again n)
    leaves_risen old mid new r q s n l a = leaves_by old new r q s l.exit l.rested (turn.Again n) l.is l.rests l.keeps
        (out_risen l.exit.to n l.rested mid new (asked_run x r) q l.on a)

    out_again : (e : Turn S O) (n : S) (k new : Known) (r q : Run C) → GoesOut t k new r q e (turn.Locked n)
        → GoesOut t k new r q e (turn.Again n)
    out_again (turn.Again s) n k new r q b = again t k new r q s n b
    out_again (turn.Asleep s) n k new r q b = absurd b
    out_again (turn.Locked s) n k new r q b = absurd b
    out_again (turn.Done o) n k new r q b = absurd (let no = b.to in cc)

    pub leaves_again : (old new : Known) (r q : Run C) (s n : S) → Leaves t x old new r q s (turn.Locked n)
        → Leaves t x old new r q s (turn.Again n)
    leaves_again old new r q s n l = leaves_by old new r q s l.exit l.rested (turn.Again n) l.is l.rests l.keeps
        (out_again l.exit.to n l.rested new (asked_run x r) q l.on)

    -- by the run that was asked
    pub still_by : (k : Known) (r : Run C) (s : S) (e : Exit S O) → x.exit r.of s ≡ Some e → IsAt t k r s
        → e.rests ≡ false → (q : C) → q ≡ x.asks r.of → Leaves t x k k r (record r { of = q }) s e.to
    still_by k r s e is a none q asks = subst (λ (c : C). Leaves t x k k r (record r { of = c }) s e.to) (sym asks)
        (leaves_still k r s e is a none)

    pub rested_by : (old new : Known) (r : Run C) (s : S) (e : Exit S O) → x.exit r.of s ≡ Some e → IsAt t old r s
        → e.rests ≡ true → new ≡ added old (item.Made (step.State 0)) → Carries (state_change 0) old new → (q : C)
        → q ≡ x.asks r.of → Leaves t x old new r (record r { of = q }) s e.to
    rested_by old new r s e is a rests made carries q asks = subst (λ (c : C). Leaves t x old new r (record r { of = c }) s e.to)
        (sym asks) (leaves_rested old new r s e is a rests made carries)
