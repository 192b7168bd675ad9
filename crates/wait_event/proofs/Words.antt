-- What whole calls make follows their sentences.
use Rattle.std.proofs.Common.{refl, sym, ◌∙◌, ap, subst, append-nil, append_assoc, arith}
use Rattle.std.specs.Prelude.{ℕ, ◌≡◌, List, [], ◌∷◌, ◌++◌}
use Rattle.wait_model.specs.declared.calls.Call.TheVariants as calls
use Rattle.wait_model.specs.declared.calls.Answer.TheVariants as answer
use Rattle.wait_model.specs.declared.points.Point.TheVariants as at
use Rattle.wait_model.specs.declared.points.AddPoint.TheVariants as adding
use Rattle.wait_model.specs.declared.points.RemovePoint.TheVariants as removing
use Rattle.wait_model.specs.declared.points.WalkPoint.TheVariants as walking
use Rattle.wait_model.specs.declared.points.WokenPoint.TheVariants as hearing
use Rattle.wait_model.specs.{declared.points.Next.Next, declared.steps.Step.Step, Programs.zero_answer}
use Rattle.wait_model.specs.declared.points.Next.TheVariants as next
use Rattle.wait_model.specs.declared.steps.Step.TheVariants as step
use Rattle.wait_rule.specs.{declared.journal.Item.Item, declared.journal.Journal.Journal, Known.Known, Says.MeetsLaw}
use Rattle.wait_rule.specs.{Says.added, SaidEvents.HasWalked, SaidEvents.plain_aim}
use Rattle.wait_rule.specs.Transitions.{Goes, Program, StepOrLook, Transition, after_step_or_look, after_transition}
use Rattle.wait_rule.specs.Transitions.{by_look, by_step, call_program, walk_program, with_lock}
use Rattle.wait_rule.specs.declared.journal.Item.TheVariants as item
use Rattle.wait_rule.proofs.{SaidEvents.Fronts.number_stays, SaidEvents.FollowedRuns.runs_follow}
use Rattle.wait_rule.proofs.{SaidEvents.FollowedWalks.walks_follow, SaidEvents.SelectedEntries.runs_tell}
use Rattle.wait_rule.proofs.{SaidEvents.SelectingWalks.runs_select, SaidEvents.SignalledRuns.runs_heed}
use Rattle.wait_event.specs.{Ends.answer_of_end, Entries.add_answer}
use Rattle.wait_event.specs.Words.{AddsFollow, RemovesFollow, SetsFollow, TakesFollow, WaitsFollow, WaitsHeed, WaitsSay}
use Rattle.wait_event.specs.Words.{WokensFollow, call_says}
use Rattle.wait_event.specs.declared.wait_events.WaitEnd.TheVariants as wait_end

-- the own list, in the table that a task sees after its last step
own_list : (v : Journal) (law : MeetsLaw v) → law.items v.number ≡ v.items ++ []
own_list v law = law.own ∙ sym (append-nil v.items)

-- the same, by the number that the task had before
pub list_of : (v : Journal) (law : MeetsLaw v) (me : ℕ) → v.number ≡ me → law.items me ≡ v.items ++ []
list_of v law me same = subst (λ (n : ℕ). law.items n ≡ v.items ++ []) same (own_list v law)

-- lists grow
lock_view : (e : Step) (k : Known) → (with_lock e k).view ≡ k.view
lock_view (step.Lock h aim w) k = refl
lock_view e k = refl

step_items : (did : StepOrLook) (k : Known) → (xs : List Item)
    × ((after_step_or_look did k).view.items ≡ k.view.items ++ xs)
step_items (by_step e) k = (item.Made e ∷ [], ap (λ (v : Journal). v.items) (lock_view e (added k (item.Made e))))
step_items (by_look xs) k = (xs, refl)

items_grow : (f : Program) (old new : Known) (n m : Next) (ts : List Transition) → Goes f old n ts new m
    → (xs : List Item) × (new.view.items ≡ old.view.items ++ xs)
items_grow f old new n m [] g = (g.0.items, ap (λ (k : Known). k.view.items) g.0.is)
items_grow f old new (next.Ends a) m (t ∷ ts) g = absurd g
items_grow f old new (next.Go p) m (t ∷ ts) g =
    let r = items_grow f (after_transition t) new (f.plan p t.seen).next m ts g.1 in
    let s = step_items t.did t.knew in (
      g.0.looks.items ++ (s.0 ++ r.0),
      r.1 ∙ (ap (λ (xs : List Item). xs ++ r.0) s.1
          ∙ (append_assoc t.knew.view.items s.0 r.0
          ∙ (ap (λ (k : Known). k.view.items ++ (s.0 ++ r.0)) g.0.looks.is
          ∙ append_assoc old.view.items g.0.looks.items (s.0 ++ r.0)))),
    )

pub waits_follow : WaitsFollow
waits_follow old new c how result law out e =
    let runs = e.waited.runs in
    runs_follow law.table law.items law.ruled (calls.Wait c how) 0 old new (answer_of_end result) []
    (list_of new.view law old.view.number (number_stays
    (call_program old.view.number 0 (calls.Wait c how)) old new (next.Go at.First)
    (next.Ends (answer_of_end result)) runs.transitions runs.goes))
    (omega arith) refl refl (λ _. out) (record { transitions = runs.transitions; goes = runs.goes })

pub waits_say : WaitsSay
waits_say old mid new c how result same law out e = record {
  events = call_says old.view.number (calls.Wait c how) e.waited.runs.transitions;
  follows = waits_follow old mid c how result (subst (λ (k : Known). MeetsLaw k.view) same law) out e;
}

pub waits_heed : WaitsHeed
waits_heed old new c how (wait_end.Signal seen selected) ends is =
    runs_heed (calls.Wait c how) 0 old new refl
    (record { transitions = ends.waited.runs.transitions; goes = ends.waited.runs.goes })
waits_heed old new c how (wait_end.Worn h place) ends is = absurd (cc)

pub wokens_follow : WokensFollow
wokens_follow old new st law e =
    let runs = e.runs in
    runs_follow law.table law.items law.ruled (calls.Woken st) 0 old new zero_answer []
    (list_of new.view law old.view.number (number_stays
    (call_program old.view.number 0 (calls.Woken st)) old new (next.Go (at.Woken hearing.State))
    (next.Ends zero_answer) runs.transitions runs.goes))
    (omega arith) refl refl (λ w. absurd (cc)) (record { transitions = runs.transitions; goes = runs.goes })

pub adds_follow : AddsFollow
adds_follow old new c k f result law e =
    let runs = e.runs in
    runs_follow law.table law.items law.ruled (calls.Add c k f) 0 old new (add_answer result) []
    (list_of new.view law old.view.number (number_stays
    (call_program old.view.number 0 (calls.Add c k f)) old new (next.Go (at.Add adding.Lock))
    (next.Ends (add_answer result)) runs.transitions runs.goes))
    (omega arith) refl refl (λ w. absurd (cc)) (record { transitions = runs.transitions; goes = runs.goes })

pub removes_follow : RemovesFollow
removes_follow old new law h =
    let runs = h.runs in
    runs_follow law.table law.items law.ruled calls.Remove 0 old new zero_answer []
    (list_of new.view law old.view.number (number_stays
    (call_program old.view.number 0 calls.Remove) old new (next.Go (at.Remove removing.Lock))
    (next.Ends zero_answer) runs.transitions runs.goes))
    (omega arith) refl refl (λ w. absurd (cc)) (record { transitions = runs.transitions; goes = runs.goes })

pub takes_follow : TakesFollow
takes_follow old new c v law h =
    runs_follow law.table law.items law.ruled (calls.Take c) 0 old new (answer.Value v) []
    (list_of new.view law old.view.number (number_stays
    (call_program old.view.number 0 (calls.Take c)) old new (next.Go at.Take)
    (next.Ends (answer.Value v)) h.transitions h.goes))
    (omega arith) refl refl (λ w. absurd (cc)) (record { transitions = h.transitions; goes = h.goes })

pub sets_follow : SetsFollow
sets_follow old new c value m count walked law small h =
    let walk : HasWalked (plain_aim c m count) h.between new (answer.Walk h.woken.walked) =
    record { transitions = h.woken.transitions; goes = h.woken.goes } in
    let now = number_stays (walk_program (plain_aim c m count)) h.between new (next.Go (at.Walk walking.Lock))
    (next.Ends (answer.Walk h.woken.walked)) h.woken.transitions h.woken.goes in
    let before = number_stays (call_program old.view.number 0 (calls.Set c value)) old h.between (next.Go at.Store)
    (next.Ends zero_answer) h.set.transitions h.set.goes in
    let more = items_grow (walk_program (plain_aim c m count)) h.between new (next.Go (at.Walk walking.Lock))
    (next.Ends (answer.Walk h.woken.walked)) h.woken.transitions h.woken.goes in
    record {
      sets = runs_follow law.table law.items law.ruled (calls.Set c value) 0 old h.between zero_answer more.0
          (subst (λ (n : ℕ). law.items n ≡ h.between.view.items ++ more.0) (now ∙ before) (law.own ∙ more.1))
          (omega arith) refl refl (λ w. absurd (cc))
          (record { transitions = h.set.transitions; goes = h.set.goes });
      wakes = walks_follow law.table law.items law.ruled c count m h.between new (answer.Walk h.woken.walked) []
          (list_of new.view law h.between.view.number now) small walk;
      selects = runs_select (plain_aim c m count) h.between new h.woken.walked walk;
      tells = runs_tell (plain_aim c m count) h.between new h.woken.walked walk;
    }
