-- Waits about no completion, left or not, leave no own entry at any.
use Rattle.std.proofs.Common.{◌∙◌, ap, append-nil, append_assoc, subst, sym}
use Rattle.std.specs.Prelude.{ℕ, ◌≡◌, ◌<◌, Bool, true, false, None, List, [], ◌∷◌, ◌++◌}
use Rattle.wait_model.specs.{declared.calls.Event.Event, declared.layout.TheConstants.FIRST_DONE_HEAD}
use Rattle.wait_model.specs.{declared.points.Point.Point, declared.steps.Step.Step, declared.watches.Entry.Entry}
use Rattle.wait_model.specs.{declared.watches.Watch.Watch, Watches.bare, Watches.head_of}
use Rattle.wait_model.specs.declared.calls.Event.TheVariants as event
use Rattle.wait_model.specs.declared.steps.Step.TheVariants as step
use Rattle.wait_model.specs.declared.watches.Watch.TheVariants as watch
use Rattle.wait_rule.specs.{HandedPermits.StaysOff, Known.Known, Says.history_of, Says.told_of, Transitions.IsStepFor}
use Rattle.wait_rule.proofs.{KnownLaws.CalledPermits.left_on, KnownLaws.HandedSteps.AddsLow}
use Rattle.wait_rule.proofs.{KnownLaws.HandedSteps.AllAddLow, KnownLaws.TaskHistories.history_after}
use Rattle.wait_rule.proofs.KnownLaws.OtherCalls.{Adding, AddsBy, AllAddBy, goes_adding}
use Rattle.wait_class.specs.{declared.stages.Run.Run, declared.stages.Turn.Turn, Laws.IsLawfulCallTable}
use Rattle.wait_class.specs.Wholes.{HasRested}
use Rattle.wait_class.specs.Tables.{CallTable, Plan, plan_program}
use Rattle.wait_class.specs.declared.stages.Turn.TheVariants as turn
use Rattle.wait_leave.specs.ExitLaws.{AreLawfulExits}
use Rattle.wait_leave.specs.Leaves.{Exits, GoesOut, asked_run, with_asked}
use Rattle.wait_leave.specs.OnTheWay.{OnTheWay, left_at, straight}
use Rattle.wait_leave.proofs.Ways.{way_plan}

-- no entry at a completion
abbrev IsLow : Entry → Type 0
IsLow e = head_of e.watch < FIRST_DONE_HEAD

-- a call whose entries are none at a completion
abbrev pub QueuesLow : Plan → Type 0
QueuesLow p = (y : Point) → head_of (p.given y).watch < FIRST_DONE_HEAD

one_low : (e : Step) → AddsBy IsLow e → AddsLow e
one_low (step.Queue x e) k = k
one_low e k = tt

all_low : (es : List Step) → AllAddBy IsLow es → AllAddLow es
all_low [] k = tt
all_low (e ∷ es) k = (one_low e k.0, all_low es k.1)

all_both : (es fs : List Step) → AllAddBy IsLow es → AllAddBy IsLow fs → AllAddBy IsLow (es ++ fs)
all_both [] fs one two = two
all_both (e ∷ es) fs one two = (one.0, all_both es fs one.1 two)

both : (old mid new : Known) → Adding IsLow old mid → Adding IsLow mid new → Adding IsLow old new
both old mid new one two = record {
  made = one.made ++ two.made;
  is = two.is ∙ (ap (λ (l : List Step). l ++ two.made) one.is ∙ append_assoc (history_of old) one.made two.made);
  adds = all_both one.made two.made one.adds two.adds;
  number = two.number ∙ one.number;
}

rest_low : (old new : Known) (b : Bool) → HasRested old new b → Adding IsLow old new
rest_low old new false is = record {
  made = [];
  is = ap history_of is ∙ sym (append-nil (history_of old));
  adds = tt;
  number = ap (λ (k : Known). k.view.number) is;
}
rest_low old new true is = record {
  made = step.State 0 ∷ [];
  is = history_after old new (step.State 0) is;
  adds = (tt, tt);
  number = ap (λ (k : Known). k.view.number) is;
}

bare_low : (w : Watch) → head_of w < FIRST_DONE_HEAD → head_of (bare w) < FIRST_DONE_HEAD
unfolding head_of
bare_low (watch.Plain c) low = low
bare_low (watch.Done d) low = low
bare_low (watch.Bit w b) low = low
bare_low (watch.Var v o) low = low

module _ (me : ℕ) (p : Plan) (low : QueuesLow p) where
  asks : (y : Point) (k : Known) (e : Event) (s : Step) → IsStepFor k (plan_program me 0 p).own (p.given y) e s
      → AddsBy IsLow s
  asks y k (event.Queue h form) (step.Queue x e) q = subst (λ (d : Entry). head_of d.watch < FIRST_DONE_HEAD) (sym q.3)
      (bare_low (p.given y).watch (low y))
  asks y k e (step.Queue x d) q = absurd q
  asks y k e s q = tt

module _ {C S O : Type 0} (A : Type 0) (t : CallTable C S O) (x : Exits C S O) (law : AreLawfulExits t x)
    (lawful : IsLawfulCallTable t) where
  out_low : (e u : Turn S O) (k new : Known) (r q : Run C) → QueuesLow (t.plan_of r.of) → GoesOut t k new r q e u
      → Adding IsLow k new
  out_low (turn.Again n) u k new r q low a = goes_adding IsLow (plan_program k.view.number 0 (t.plan_of r.of))
      (asks k.view.number (t.plan_of r.of) low) k new _ _ a.went.runs.transitions a.went.runs.goes
  out_low (turn.Asleep n) u k new r q low a = absurd a
  out_low (turn.Locked n) u k new r q low a = absurd a
  out_low (turn.Done o) u k new r q low a = rest_low k new false a.still

  low_by : (p q : Plan) → with_asked false q ≡ with_asked false p → QueuesLow p → QueuesLow q
  low_by p q same low = λ y. subst (λ (d : Plan). head_of (d.given y).watch < FIRST_DONE_HEAD) (sym same) (low y)

  asked_low : (p q : Plan) → q ≡ with_asked true p → QueuesLow p → QueuesLow q
  asked_low p q same low = λ y. subst (λ (d : Plan). head_of (d.given y).watch < FIRST_DONE_HEAD) (sym same) (low y)

  module _ (old : Known) (r : Run C) (s : S) (low : QueuesLow (t.plan_of r.of)) where
    way_low : (new : Known) (q : Run C) (u : Turn S O) → OnTheWay A t x old r s new q u → Adding IsLow old new
    way_low _ _ _ (straight new q u a) = goes_adding IsLow (plan_program old.view.number 0 (t.plan_of r.of))
        (asks old.view.number (t.plan_of r.of) low) old new _ _ a.went.runs.transitions a.went.runs.goes
    way_low _ _ _ (left_at mid m n new q u c w l) =
        let here : QueuesLow (t.plan_of m.of) = low_by (t.plan_of r.of) (t.plan_of m.of)
        (way_plan A t x law lawful old r s mid m (turn.Again n) w) low in
        both old mid new (way_low mid m (turn.Again n) w)
        (both mid l.rested new (rest_low mid l.rested l.exit.rests l.rests)
        (out_low l.exit.to u l.rested new (asked_run x m) q
        (asked_low (t.plan_of m.of) (t.plan_of (x.asks m.of)) (law.at m.of n l.exit l.is).same here) l.on))

    pub way_off : (new : Known) (q : Run C) (u : Turn S O) → OnTheWay A t x old r s new q u
        → (told_of old).hold.head ≡ None → StaysOff old new
    way_off new q u w free =
        let l = way_low new q u w in
        left_on old new l.made l.number l.is (all_low l.made l.adds) free

  -- a call is about the same heads all the way
  pub low_back : (old : Known) (r : Run C) (s : S) (new : Known) (q : Run C) (u : Turn S O)
      → OnTheWay A t x old r s new q u → QueuesLow (t.plan_of q.of) → QueuesLow (t.plan_of r.of)
  low_back old r s new q u w low = low_by (t.plan_of q.of) (t.plan_of r.of)
      (sym (way_plan A t x law lawful old r s new q u w)) low
