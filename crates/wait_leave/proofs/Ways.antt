-- Waits under way that may have been asked to leave.
use Rattle.std.proofs.Common.{◌∙◌, ap, refl, subst, sym}
use Rattle.std.specs.Prelude.{ℕ, ◌≡◌, ◌≤◌, ◌+◌, Bool, true, false, Some}
use Rattle.wait_model.specs.{declared.layout.TheConstants.HEADS, declared.watches.Watch.Watch}
use Rattle.wait_rule.specs.{Known.Known, Queues.index}
use Rattle.wait_class.specs.{Handing.LastGiven, declared.stages.Run.Run, declared.stages.Turn.Turn}
use Rattle.wait_class.specs.{Laws.IsLawfulCallTable, Wholes.HasRested, UnderWay.IsUnderWay, UnderWay.going}
use Rattle.wait_class.specs.Tables.{Advances, CallTable, IsAt, Lands, Plan, SleepsNot, took_in, watch_in}
use Rattle.wait_class.specs.declared.stages.Turn.TheVariants as turn
use Rattle.wait_class.proofs.Turns.{advances_none, advances_on, again}
use Rattle.wait_class.proofs.UnderWay.{come_on, woke_on}
use Rattle.wait_leave.specs.{ExitLaws.AreLawfulExits, declared.exits.Exit.Exit}
use Rattle.wait_leave.specs.Leaves.{Exits, GoesOut, Leaves, asked_run, stays_awake, with_asked}
use Rattle.wait_leave.specs.OnTheWay.{IsAwakeSince, IsOnWay, OnTheWay, left_at, straight}
use Rattle.wait_leave.proofs.Leaving.{leaves_again, leaves_lands, leaves_on, leaves_risen}

-- what of the call neither a turn nor asking changes
module _ {C S O D : Type 0} (A : Type 0) (t : CallTable C S O) (x : Exits C S O) (f : C → D)
    (asked : (r : C) (s : S) (e : Exit S O) → x.exit r s ≡ Some e → f (x.asks r) ≡ f r)
    (turned : (k new : Known) (m q : Run C) (n : S) (u : Turn S O) → Advances t k new m q n u → f q.of ≡ f m.of) where
  out_stays : (e u : Turn S O) (k new : Known) (m q : Run C) → GoesOut t k new m q e u → f q.of ≡ f m.of
  out_stays (turn.Again n) u k new m q a = turned k new m q n u a
  out_stays (turn.Asleep n) u k new m q a = absurd a
  out_stays (turn.Locked n) u k new m q a = absurd a
  out_stays (turn.Done o) u k new m q a = ap (λ (p : Run C). f p.of) a.same

  pub way_stays : {old : Known} {r : Run C} {s : S} (new : Known) (q : Run C) (u : Turn S O)
      → OnTheWay A t x old r s new q u → f q.of ≡ f r.of
  way_stays _ _ _ (straight new q u a) = turned _ new _ q _ u a
  way_stays _ _ _ (left_at mid m n new q u cause w l) =
      out_stays l.exit.to u l.rested new (asked_run x m) q l.on
      ∙ (asked m.of n l.exit l.is ∙ way_stays mid m (turn.Again n) w)

module _ {C S O : Type 0} (A : Type 0) (t : CallTable C S O) (x : Exits C S O) (law : AreLawfulExits t x)
    (lawful : IsLawfulCallTable t) (old : Known) (r : Run C) (s : S) where
  pub way_none : IsAt t old r s → OnTheWay A t x old r s old r (turn.Again s)
  way_none a = straight old r (turn.Again s) (advances_none t lawful old r s a)

  -- one turn of it
  pub way_out : (new : Known) (q : Run C) (u : Turn S O) → A → IsAt t old r s → Leaves t x old new r q s u
      → OnTheWay A t x old r s new q u
  way_out new q u cause a l = left_at old r s new q u cause (way_none a) l

  pub way_lands : (new : Known) (q : Run C) (u : Turn S O) → OnTheWay A t x old r s new q u → Lands t new q u
  way_lands _ _ _ (straight new q u a) = a.lands
  way_lands _ _ _ (left_at mid m n new q u cause w l) = leaves_lands t x law lawful mid new m q n u l

  pub way_on : (mid new : Known) (m q : Run C) (n : S) (u : Turn S O) → OnTheWay A t x old r s mid m (turn.Again n)
      → Advances t mid new m q n u → OnTheWay A t x old r s new q u
  way_on _ new _ q n u (straight mid m _ b) a =
      straight new q u (advances_on t lawful old mid new r m q s n u b.same b.went a)
  way_on _ new _ q n u (left_at k j i mid m _ cause w l) a = left_at k j i new q u cause w
      (leaves_on t x law lawful k mid new j m q i n u l a)

  -- and another way from there
  then_on : (mid : Known) (m : Run C) (n : S) → OnTheWay A t x old r s mid m (turn.Again n) → (new : Known) (q : Run C)
      (u : Turn S O) → OnTheWay A t x mid m n new q u → OnTheWay A t x old r s new q u
  then_on mid m n w _ _ _ (straight new q u a) = way_on mid new m q n u w a
  then_on mid m n w _ _ _ (left_at k j i new q u cause v l) = left_at k j i new q u cause
      (then_on mid m n w k j (turn.Again i) v) l

  pub way_then : (mid new : Known) (m q : Run C) (n : S) (u : Turn S O) → OnTheWay A t x old r s mid m (turn.Again n)
      → OnTheWay A t x mid m n new q u → OnTheWay A t x old r s new q u
  way_then mid new m q n u w v = then_on mid m n w new q u v

  pub way_again : (new : Known) (q : Run C) (n : S) → OnTheWay A t x old r s new q (turn.Locked n)
      → OnTheWay A t x old r s new q (turn.Again n)
  way_again _ _ n (straight new q _ a) = straight new q (turn.Again n) (again t old new r q s n a)
  way_again _ _ n (left_at k j i new q _ cause w l) = left_at k j i new q (turn.Again n) cause w
      (leaves_again t x law lawful k new j q i n l)

  pub way_risen : (mid new : Known) (q : Run C) (n : S) → OnTheWay A t x old r s mid q (turn.Asleep n)
      → Advances t mid new q q n (turn.Again n) → OnTheWay A t x old r s new q (turn.Again n)
  way_risen _ new _ n (straight mid q _ b) a = straight new q (turn.Again n)
      (woke_on t lawful old mid new r q q s n (turn.Again n) b a)
  way_risen _ new _ n (left_at k j i mid q _ cause w l) a = left_at k j i new q (turn.Again n) cause w
      (leaves_risen t x law lawful k mid new j q i n l a)

  pub way_going : (new : Known) (q : Run C) (u : Turn S O) → OnTheWay A t x old r s new q u
      → OnTheWay A t x old r s new q (going u)
  way_going new q (turn.Locked n) w = way_again new q n w
  way_going new q _ w = w

  -- it is the same call
  pub way_plan : (new : Known) (q : Run C) (u : Turn S O) → OnTheWay A t x old r s new q u
      → with_asked false (t.plan_of q.of) ≡ with_asked false (t.plan_of r.of)
  way_plan = way_stays A t x (λ (c : C). with_asked false (t.plan_of c))
      (λ m n e is. ap (with_asked false) (law.at m n e is).same) (λ k new m q n u a. ap (with_asked false) a.same)

  -- what it made on its way, where turns make such, and RUNNING is such: of the same call, but for whether it was asked
  module _ (Made : Known → Known → Type 0) (on : (a b c : Known) → Made a b → Made b c → Made a c)
      (rested : (k new : Known) (b : Bool) → HasRested k new b → Made k new)
      (turned : (k new : Known) (m q : Run C) (n : S) (u : Turn S O)
      → with_asked false (t.plan_of m.of) ≡ with_asked false (t.plan_of r.of) → Advances t k new m q n u
      → Made k new) where
    out_makes : (e u : Turn S O) (k new : Known) (m q : Run C)
        → with_asked false (t.plan_of m.of) ≡ with_asked false (t.plan_of r.of) → GoesOut t k new m q e u → Made k new
    out_makes (turn.Again n) u k new m q same a = turned k new m q n u same a
    out_makes (turn.Asleep n) u k new m q same a = absurd a
    out_makes (turn.Locked n) u k new m q same a = absurd a
    out_makes (turn.Done o) u k new m q same a = rested k new false a.still

    pub way_makes : (new : Known) (q : Run C) (u : Turn S O) → OnTheWay A t x old r s new q u → Made old new
    way_makes _ _ _ (straight new q u a) = turned old new r q s u refl a
    way_makes _ _ _ (left_at mid m n new q u cause w l) = on old mid new (way_makes mid m (turn.Again n) w)
        (on mid l.rested new (rested mid l.rested l.exit.rests l.rests)
        (out_makes l.exit.to u l.rested new (asked_run x m) q
        (ap (with_asked false) (law.at m.of n l.exit l.is).same ∙ way_plan mid m (turn.Again n) w) l.on))

  -- whose plan says so has been asked, and had a cause
  pub way_asked : (new : Known) (q : Run C) (u : Turn S O) → OnTheWay A t x old r s new q u
      → (t.plan_of r.of).asked ≡ false → (t.plan_of q.of).asked ≡ true → A
  way_asked _ _ _ (straight new q u a) not_yet now =
      absurd (let no : true ≡ false = sym now ∙ (ap (λ (p : Plan). p.asked) a.same ∙ not_yet) in cc)
  way_asked _ _ _ (left_at mid m n new q u cause w l) not_yet now = cause

  -- what stays of the task
  out_keeps : (e u : Turn S O) (k new : Known) (m q : Run C) → GoesOut t k new m q e u
      → t.Keeps (index k.view.number 0) (watch_in t m.of) (took_in t e) (took_in t u) k new
  out_keeps (turn.Again n) u k new m q a = a.went.keeps
  out_keeps (turn.Asleep n) u k new m q a = absurd a
  out_keeps (turn.Locked n) u k new m q a = absurd a
  out_keeps (turn.Done o) u k new m q a = subst (λ (v : Turn S O). t.Keeps (index k.view.number 0) (watch_in t m.of)
      (took_in t (turn.Done o)) (took_in t v) k new) (sym a.to)
      (subst (λ (j : Known). t.Keeps (index k.view.number 0) (watch_in t m.of) (took_in t (turn.Done o))
      (took_in t (turn.Done o)) k j) (sym a.still)
      (lawful.keeps.none (index k.view.number 0) (watch_in t m.of) (took_in t (turn.Done o)) k))

  leaves_keeps : (k new : Known) (m q : Run C) (n : S) (u : Turn S O) → Leaves t x k new m q n u
      → t.Keeps (index k.view.number 0) (watch_in t m.of) (t.took n) (took_in t u) k new
  leaves_keeps k new m q n u l =
      let i = index k.view.number 0 in
      let c = watch_in t m.of in
      let e = law.at m.of n l.exit l.is in
      let number = lawful.keeps.number i c (t.took n) (t.took n) k l.rested l.keeps in
      lawful.keeps.on i c (t.took n) (t.took n) (took_in t u) k l.rested new l.keeps
      (subst (λ (g : Bool). t.Keeps i c g (took_in t u) l.rested new) (sym e.took)
      (subst (λ (j : ℕ). t.Keeps (index j 0) c (took_in t l.exit.to) (took_in t u) l.rested new) number
      (subst (λ (d : Watch). t.Keeps (index l.rested.view.number 0) d (took_in t l.exit.to) (took_in t u) l.rested new)
      (ap (λ (p : Plan). p.watch) e.same) (out_keeps l.exit.to u l.rested new (asked_run x m) q l.on))))

  pub way_keeps : (new : Known) (q : Run C) (u : Turn S O) → OnTheWay A t x old r s new q u
      → t.Keeps (index old.view.number 0) (watch_in t r.of) (t.took s) (took_in t u) old new
  way_keeps _ _ _ (straight new q u a) = a.went.keeps
  way_keeps _ _ _ (left_at mid m n new q u cause w l) =
      let i = index old.view.number 0 in
      let before = way_keeps mid m (turn.Again n) w in
      let number = lawful.keeps.number i (watch_in t r.of) (t.took s) (t.took n) old mid before in
      lawful.keeps.on i (watch_in t r.of) (t.took s) (t.took n) (took_in t u) old mid new before
      (subst (λ (j : ℕ). t.Keeps (index j 0) (watch_in t r.of) (t.took n) (took_in t u) mid new) number
      (subst (λ (d : Watch). t.Keeps (index mid.view.number 0) d (t.took n) (took_in t u) mid new)
      (ap (λ (p : Plan). p.watch) (way_plan mid m (turn.Again n) w)) (leaves_keeps mid new m q n u l)))

  pub way_domain : (new : Known) (q : Run C) (u : Turn S O) → OnTheWay A t x old r s new q u → new.domain ≡ old.domain
  way_domain new q u w = lawful.keeps.domain (index old.view.number 0) (watch_in t r.of) (t.took s) (took_in t u) old
      new (way_keeps new q u w)

-- a stretch of one
pub record IsOutStretch {C S O : Type 0} (t : CallTable C S O) (x : Exits C S O) (old new : Known) (r q : Run C) (s n : S)
    (turns : ℕ) : Type 0 where
  pub way : OnTheWay (Unit {0}) t x old r s new q (turn.Again n)
  pub given : LastGiven old new HEADS
  pub awake : SleepsNot old new
  pub low : t.depth n + turns ≤ 6

-- for another cause, which comes of this one
pub way_as : {C S O A B : Type 0} {t : CallTable C S O} {x : Exits C S O} {old : Known} {r : Run C} {s : S} → (A → B)
    → (new : Known) (q : Run C) (u : Turn S O) → OnTheWay A t x old r s new q u → OnTheWay B t x old r s new q u
way_as f _ _ _ (straight new q u a) = straight new q u a
way_as f _ _ _ (left_at mid m n new q u cause w l) = left_at mid m n new q u (f cause) (way_as f mid m (turn.Again n) w) l

-- whatever the cause
pub way_for : {C S O : Type 0} (A : Type 0) → A → (t : CallTable C S O) (x : Exits C S O) (old : Known) (r : Run C)
    (s : S) (new : Known) (q : Run C) (u : Turn S O) → OnTheWay (Unit {0}) t x old r s new q u
    → OnTheWay A t x old r s new q u
way_for A cause t x old r s new q u w = way_as (λ c. cause) new q u w

-- where each exit leads to a point from which on the program sleeps no more
pub awake_since : {C S O : Type 0} {A : Type 0} (t : CallTable C S O) (x : Exits C S O)
    (awake : (r : C) (s : S) (e : Exit S O) → x.exit r s ≡ Some e → stays_awake t x e.to ≡ true) (old : Known) (r : Run C)
    (s : S) (new : Known) (q : Run C) (u : Turn S O) (w : OnTheWay A t x old r s new q u) → IsAwakeSince new q u w
awake_since t x awake old r s _ _ _ (straight new q u a) = tt
awake_since t x awake old r s _ _ _ (left_at mid m n new q u cause w l) = l.awake (awake m.of n l.exit l.is)

-- a call that is on its way
pub on_way_then : {C S O A : Type 0} {t : CallTable C S O} {x : Exits C S O} (law : AreLawfulExits t x)
    (lawful : IsLawfulCallTable t) {c : Plan} {mid new : Known} {m q : Run C} {n : S} {u : Turn S O}
    → IsOnWay A t x c mid m (turn.Again n) → OnTheWay A t x mid m n new q u → IsOnWay A t x c new q u
on_way_then law lawful i w = come_on i (λ old began start came. way_going _ _ _ law lawful old began start _ _ _
    (way_then _ _ _ law lawful old began start _ _ _ _ _ _ came w))

-- a call that nobody asked to leave yet is on its way
pub under_way_is : {C S O : Type 0} (A : Type 0) (t : CallTable C S O) (x : Exits C S O) (c : Plan) (k : Known) (r : Run C)
    (u : Turn S O) → IsUnderWay t c k r u → IsOnWay A t x c k r u
under_way_is A t x c k r u i = come_on i (λ old began start came. straight k r (going u) came)
