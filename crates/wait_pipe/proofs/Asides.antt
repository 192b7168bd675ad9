-- What calls on ends leave aside: tallies, signals, claims of ends, and entries at completions.
use Rattle.std.proofs.Common.{refl, sym, ◌∙◌, ap, subst, arith, inl, inr, append-nil, append_assoc}
use Rattle.std.specs.Prelude.{ℕ, ◌≡◌, ◌<◌, ◌+◌, ◌++◌, ◌==◌, if◌then◌else◌}
use Rattle.std.specs.Prelude.{Bool, true, false, None, List, [], ◌∷◌, Result}
use Rattle.wait_model.specs.{declared.layout.TheConstants.BIT_WORDS, declared.layout.TheConstants.FIRST_DONE_HEAD}
use Rattle.wait_model.specs.{declared.queues.Walked.Walked, declared.tasks.SleepState.SleepState, Watches.head_of}
use Rattle.wait_model.specs.declared.calls.Call.TheVariants as calls
use Rattle.wait_model.specs.declared.calls.Answer.TheVariants as answer
use Rattle.wait_model.specs.declared.points.Next.TheVariants as next
use Rattle.wait_model.specs.declared.points.Point.TheVariants as at
use Rattle.wait_model.specs.declared.points.WalkPoint.TheVariants as walking
use Rattle.wait_model.specs.declared.steps.Step.TheVariants as step
use Rattle.wait_model.specs.declared.watches.Watch.TheVariants as watch
use Rattle.wait_rule.specs.declared.journal.EndAct.TheVariants as act
use Rattle.wait_rule.specs.{declared.journal.Item.Item, Known.Known, PipeSays.end_at, Tallies.amount_of}
use Rattle.wait_rule.specs.Aside.{IsAsideItem, raised_by, signals_of}
use Rattle.wait_rule.specs.Pipes.{End, end_item, no_end, with_cell}
use Rattle.wait_rule.specs.Says.{added, grown, told_of}
use Rattle.wait_rule.specs.Transitions.{AreScansOf, call_program, walk_program}
use Rattle.wait_rule.specs.declared.journal.Item.TheVariants as item
use Rattle.wait_rule.proofs.{KnownLaws.OtherCalls.others_stay_off, KnownLaws.PipeItems.end_append}
use Rattle.wait_rule.proofs.{KnownLaws.TallySteps.amounts_append, KnownLaws.Transitions.grown_more}
use Rattle.wait_rule.proofs.KnownLaws.Transitions.{grown_none}
use Rattle.wait_rule.proofs.KnownLaws.AsideCalls.{aside_join, calls_grow_aside, items_stay_off, step_mine}
use Rattle.wait_rule.proofs.KnownLaws.AsideCalls.{walks_grow_aside}
use Rattle.wait_event.specs.declared.wait_events.WaitEnd.{WaitEnd}
use Rattle.wq_head.proofs.FullHeads.{hashed_low}
use Rattle.wq_head.specs.{Scanned.HasScanned, Walks.HasWoken}
use Rattle.var_wait.specs.{VarPublishes.aim_of, VarWaits.EndsVarWait, VarWaits.answer_of_var_end}
use Rattle.wait_pipe.specs.Pieces.{LeavesAside}

pub quiet_on : (x y z : Known) → LeavesAside x y → LeavesAside y z → LeavesAside x z
quiet_on x y z a b = record { aside = aside_join x y z a.aside b.aside; off = λ d left. b.off d (a.off d left) }

pub quiet_none : (k : Known) → LeavesAside k k
quiet_none k = record {
  aside = record {
    grows = record { items = []; view = ap (λ (j : Known). j.view) (grown_none k) };
    sums = λ p. refl;
    signals = refl;
    claims = λ e. refl;
  };
  off = λ d left. left;
}

-- one item more
signals_append : (xs ys : List Item) → signals_of (xs ++ ys) ≡ signals_of xs ++ signals_of ys
signals_append [] ys = refl
signals_append (x ∷ xs) ys = ap (λ l. raised_by x ++ l) (signals_append xs ys)
    ∙ sym (append_assoc (raised_by x) (signals_of xs) (signals_of ys))

quiet_item : (old : Known) (x : Item) → IsAsideItem x → ((p : ℕ) → amount_of p x ≡ 0) → raised_by x ≡ []
    → ((k : ℕ) (e : End) → (end_item k x e).mine ≡ e.mine) → LeavesAside old (added old x)
quiet_item old x aside none silent keeps = record {
  aside = record {
    grows = record { items = x ∷ []; view = refl };
    sums = λ p. amounts_append p old.view.items (x ∷ []) ∙ (let zero_more = none p in omega arith);
    signals = signals_append old.view.items (x ∷ [])
        ∙ (ap (λ l. signals_of old.view.items ++ (l ++ [])) silent ∙ append-nil (signals_of old.view.items));
    claims = λ k. ap (λ (e : End). e.mine) (end_append k no_end old.view.items (x ∷ [])) ∙ keeps k (end_at k old);
  };
  off = items_stay_off old x aside;
}

mine_if : (b : Bool) (f e : End) → f.mine ≡ e.mine → (if b then f else e).mine ≡ e.mine
mine_if true f e is = is
mine_if false f e is = refl

pub quiet_cell : (old : Known) (j w : ℕ) → LeavesAside old (added old (item.Piped j act.Cell w))
quiet_cell old j w = quiet_item old (item.Piped j act.Cell w) tt (λ p. refl) refl
    (λ k e. mine_if (j == k) (with_cell w e) e refl)

pub quiet_load : (old : Known) (v o r : ℕ) → LeavesAside old (added old (item.Made (step.Load (watch.Var v o) r)))
quiet_load old v o r = quiet_item old (item.Made (step.Load (watch.Var v o) r)) tt (λ p. refl) refl
    (λ k e. step_mine k (step.Load (watch.Var v o) r) e)

pub quiet_publish : (old : Known) (v o n r : ℕ) → LeavesAside old (added old (item.Made (step.Publish (watch.Var v o) n r)))
quiet_publish old v o n r = quiet_item old (item.Made (step.Publish (watch.Var v o) n r)) tt (λ p. refl) refl
    (λ k e. step_mine k (step.Publish (watch.Var v o) n r) e)

-- a look at the members of a head
scans_quiet : (k : Known) (h : ℕ) (xs : List Item) → AreScansOf h xs → LeavesAside k (grown k xs k.book)
scans_quiet k h [] l = subst (LeavesAside k) (grown_none k) (quiet_none k)
scans_quiet k h (item.Made (step.Scan g i w) ∷ xs) l =
    let one = added k (item.Made (step.Scan g i w)) in
    quiet_on k one (grown k (item.Made (step.Scan g i w) ∷ xs) k.book)
    (quiet_item k (item.Made (step.Scan g i w)) tt (λ p. refl) refl (λ j e. refl))
    (subst (LeavesAside one) (grown_more k (item.Made (step.Scan g i w) ∷ []) xs one.book k.book) (scans_quiet one h xs l.1))
scans_quiet k h (x ∷ xs) l = absurd l.0

pub scanned_quiet : (old new : Known) (h : ℕ) (hit : Bool) → HasScanned old new h hit → LeavesAside old new
scanned_quiet old new h hit s = subst (LeavesAside old) (sym s.is) (scans_quiet old h s.items s.loads)

-- a wake, and a wait for a variable, whose head is none of a completion
pub var_low : (v o : ℕ) → head_of (watch.Var v o) < FIRST_DONE_HEAD
unfolding head_of
var_low v o = let low = hashed_low (BIT_WORDS + v) in omega (arith, low)

pub woken_quiet : (v : ℕ) (old new : Known) (walked : Walked) → (told_of old).hold.head ≡ None
    → HasWoken old new (aim_of v) walked → LeavesAside old new
woken_quiet v old new walked free w = record {
  aside = walks_grow_aside (aim_of v) old new (next.Go (at.Walk walking.Lock)) (next.Ends (answer.Walk w.walked))
      w.transitions w.goes;
  off = others_stay_off (walk_program (aim_of v)) old new (next.Go (at.Walk walking.Lock))
      (next.Ends (answer.Walk w.walked)) w.transitions (inl refl) free w.goes;
}

pub waited_quiet : (v word : ℕ) (st : SleepState) (old new : Known) (result : Result ℕ WaitEnd)
    → (told_of old).hold.head ≡ None → EndsVarWait old new v word st result → LeavesAside old new
waited_quiet v word st old new result free w = record {
  aside = calls_grow_aside old.view.number 0 (calls.WaitVar v word st) old new (next.Go at.First)
      (next.Ends (answer_of_var_end result)) w.runs.transitions tt (λ q. cc) w.runs.goes;
  off = others_stay_off (call_program old.view.number 0 (calls.WaitVar v word st)) old new (next.Go at.First)
      (next.Ends (answer_of_var_end result)) w.runs.transitions (inr (λ p. var_low v word)) free w.runs.goes;
}
