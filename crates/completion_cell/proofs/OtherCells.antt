-- Where a wait for a completion leaves its own entry: off there, and at no other completion.
use Rattle.std.proofs.Common.{refl, sym, ◌∙◌, ap, subst, arith, append_assoc, append-nil, inl, inr}
use Rattle.std.proofs.lemmas.Bool.Decides.{eqb_tells}
use Rattle.std.specs.Prelude.{ℕ, ◌≡◌, ◌≢◌, ◌⊎◌, ◌==◌, Bool, true, false, None, List, [], ◌∷◌, ◌++◌}
use Rattle.wait_model.specs.declared.calls.Call.TheVariants as calls
use Rattle.wait_model.specs.{declared.calls.Event.Event, declared.points.Next.Next, declared.points.Point.Point}
use Rattle.wait_model.specs.{declared.steps.Step.Step, declared.tasks.SleepState.SleepState}
use Rattle.wait_model.specs.{declared.watches.Entry.Entry, Fold.after, Fold.view_of, Points.given_at, Runs.own}
use Rattle.wait_model.specs.Watches.{head_of}
use Rattle.wait_model.specs.Permits.{dealt, done_head, none_dealt, shows_at}
use Rattle.wait_model.specs.Views.{Look, View, blank, shown}
use Rattle.wait_model.specs.declared.calls.Event.TheVariants as event
use Rattle.wait_model.specs.declared.steps.Step.TheVariants as step
use Rattle.wait_model.proofs.{Functions.put_at, HistoryLaws.HoldLooks.after_snoc, PermitLaws.OwnTurns.deals_snoc}
use Rattle.wait_rule.specs.{HandedPermits.StaysOff, Known.Known, LeftEntries.LeftOff, LeftEntries.Order, Queues.index}
use Rattle.wait_rule.specs.{Says.history_of, Says.told_of, Transitions.IsStepFor, Transitions.call_program}
use Rattle.wait_rule.proofs.KnownLaws.CalledPermits.{away_of, order_as}
use Rattle.wait_rule.proofs.KnownLaws.HandedSteps.{IsAway, IsAwayAt, OrderStep, away_next, order_front, order_step}
use Rattle.wait_rule.proofs.KnownLaws.OtherCalls.{Adding, AddsBy, AllAddBy, goes_adding}
use Rattle.wait_class.specs.Posts.{EndsWith, IsOut, Runs}
use Rattle.completion_cell.specs.{Awaits.HasGivenBack, declared.awaits.AwaitCall.AwaitCall}
use Rattle.completion_cell.proofs.HoldTurns.{head_apart, home_left}

-- an entry of another completion
abbrev pub IsAside : ℕ → Entry → Type 0
IsAside c e = (head_of e.watch == done_head c) ≡ false

aside_next : (c a : ℕ) (front : List Step) (e : Step) → OrderStep a front e → AddsBy (IsAside c) e → IsAwayAt c a front
    → IsAwayAt c a (front ++ e ∷ [])
aside_next c a front (step.Queue y e) os aside k =
    let queued = step.Queue y e in
    subst (λ (v : View). IsAway c (own a) v (dealt c a (front ++ queued ∷ []))) (sym (after_snoc blank front queued))
    (subst (IsAway c (own a) (after queued (view_of front))) (sym (deals_snoc c (own a) blank none_dealt front queued))
    (record {
      left = k.left;
      away = put_at (λ (l : Look). shows_at (done_head c) l ≡ false) (view_of front).hold.book y (shown e) (own a)
          (λ _. aside) (λ _. k.away);
    }))
aside_next c a front e os aside k = away_next c a front e os tt k

aside_all : (c a : ℕ) (front es : List Step) → Order a (front ++ es) → AllAddBy (IsAside c) es → IsAwayAt c a front
    → IsAwayAt c a (front ++ es)
aside_all c a front [] o adds k = subst (IsAwayAt c a) (sym (append-nil front)) k
aside_all c a front (e ∷ es) o adds k = subst (IsAwayAt c a) (append_assoc front (e ∷ []) es)
    (aside_all c a (front ++ e ∷ []) es (subst (Order a) (sym (append_assoc front (e ∷ []) es)) o) adds.1
    (aside_next c a front e (order_step a front e es o) adds.0 k))

apart_head : (c d : ℕ) → c ≢ d → (done_head d == done_head c) ≡ false
apart_head c d ne = by (done_head d == done_head c) refl
  where
    by : (b : Bool) → (done_head d == done_head c) ≡ b → (done_head d == done_head c) ≡ false
    by false q = q
    by true q = absurd (ne (sym (head_apart c d (grind (arith, q)))))

-- at the completions that it does not wait for; so each program that is given what such a wait is
module _ (c d : ℕ) (st : SleepState) (ne : c ≢ d) (me : ℕ) where
  pub asks_aside : (p : Point) (k : Known) (e : Event) (s : Step)
      → IsStepFor k (call_program me 0 (calls.WaitFor d st)).own (given_at (calls.WaitFor d st) p) e s
      → AddsBy (IsAside c) s
  asks_aside p k (event.Queue h form) (step.Queue x e) q = subst (IsAside c) (sym q.3) (apart_head c d ne)
  asks_aside p k e (step.Queue x f) q = absurd q
  asks_aside p k e s q = tt

pub wait_adds : (c d : ℕ) (st : SleepState) → c ≢ d → (old new : Known) (from to : Next)
    → Runs (call_program old.view.number 0 (calls.WaitFor d st)) old new from to → Adding (IsAside c) old new
wait_adds c d st ne old new from to runs = goes_adding (IsAside c)
    (call_program old.view.number 0 (calls.WaitFor d st)) (asks_aside c d st ne old.view.number) old new from to
    runs.transitions runs.goes

-- over such steps the own entry stays off at a completion
pub aside_stays : (c : ℕ) (old new : Known) → Adding (IsAside c) old new → (told_of old).hold.head ≡ None
    → LeftOff c old → LeftOff c new
aside_stays c old new l free left order =
    let a = old.view.number in
    let front = order_as a new (history_of old ++ l.made) l.number l.is order in
    let w = aside_all c a (history_of old) l.made front l.adds
    (away_of c old free left (order_front a (history_of old) l.made front)) in
    subst (λ (i : ℕ). (dealt c i (history_of new)).left ≡ false) (sym l.number)
    (subst (λ (l : List Step). (dealt c a l).left ≡ false) (sym l.is) w.left)

-- so where the own entry is left off at the one that it waits for, it is left at none
pub stays_off_by : (old new : Known) (d : ℕ) → ((c : ℕ) → c ≢ d → Adding (IsAside c) old new)
    → (told_of old).hold.head ≡ None → LeftOff d new → StaysOff old new
stays_off_by old new d adds free off c left = by (eqb_tells c d)
  where
    by : (((c == d) ≡ true) × (c ≡ d)) ⊎ (((c == d) ≡ false) × (c ≢ d)) → LeftOff c new
    by (inl q) = subst (λ (i : ℕ). LeftOff i new) (sym q.1) off
    by (inr q) = aside_stays c old new (adds c q.1) free left

-- such steps, one after the other
all_aside : (c : ℕ) (es fs : List Step) → AllAddBy (IsAside c) es → AllAddBy (IsAside c) fs
    → AllAddBy (IsAside c) (es ++ fs)
all_aside c [] fs one two = two
all_aside c (e ∷ es) fs one two = (one.0, all_aside c es fs one.1 two)

pub aside_on : (c : ℕ) (old mid new : Known) → Adding (IsAside c) old mid → Adding (IsAside c) mid new
    → Adding (IsAside c) old new
aside_on c old mid new one two = record {
  made = one.made ++ two.made;
  is = two.is ∙ (ap (λ (l : List Step). l ++ two.made) one.is ∙ append_assoc (history_of old) one.made two.made);
  adds = all_aside c one.made two.made one.adds two.adds;
  number = two.number ∙ one.number;
}

-- who has given the head back, and knows its own entry to be off
pub given_by : (new : Known) (d : ℕ) (spent : Bool) → EndsWith new (step.Unlock (done_head d) spent ∷ []) → IsOut new
    → LeftOff d new
given_by new d spent back none order =
    let a = new.view.number in
    let here : index a 0 ≡ own a = omega arith in
    subst (λ (l : List Step). (dealt d a l).left ≡ false) (sym back.1)
    (home_left d a spent back.0 (order_as a new (back.0 ++ step.Unlock (done_head d) spent ∷ []) refl back.1 order)
    (ap (λ (l : List Step). (view_of l).bits.stored (own a)) (sym back.1) ∙ (ap (told_of new).bits.stored (sym here)
    ∙ none)))

pub given_off : (new : Known) (r : AwaitCall) → HasGivenBack new r → IsOut new → LeftOff r.cell new
given_off new r = given_by new r.cell false

-- a whole wait
pub wait_stays_off : (old new : Known) (r : AwaitCall) (d : ℕ) (st : SleepState) (from to : Next) → r.cell ≡ d
    → Runs (call_program old.view.number 0 (calls.WaitFor d st)) old new from to → (told_of old).hold.head ≡ None
    → HasGivenBack new r → (told_of new).bits.stored (index new.view.number 0) ≡ None → StaysOff old new
wait_stays_off old new r d st from to same runs free back none = stays_off_by old new d
    (λ c ne. wait_adds c d st ne old new from to runs) free
    (subst (λ (i : ℕ). LeftOff i new) same (given_off new r back none))
