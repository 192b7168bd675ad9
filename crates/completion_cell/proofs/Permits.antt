-- The calls that make or take permits in one hold of a completion's head: what the hold owes, and that it may end.
use Rattle.std.proofs.Common.{refl, sym, ◌∙◌, ap, arith, append_assoc, append-nil, eq-eqb, inl, inr}
use Rattle.std.proofs.lemmas.Bool.Decides.{nat_tests}
use Rattle.std.specs.Prelude.{ℕ, zero, suc, ◌≡◌, ◌≤◌, ◌+◌, ◌-◌, ◌⊎◌, ◌==◌, ◌&&◌, ◌||◌, nat_le, if◌then◌else◌, Bool}
use Rattle.std.specs.Prelude.{true, false, Option, None, List, [], ◌∷◌, ◌++◌}
use Rattle.wait_model.specs.{declared.layout.TheConstants.ALL_DONE, declared.steps.Step.Step, declared.watches.Aim.Aim}
use Rattle.wait_model.specs.{Runs.is_publishing, Runs.set_step}
use Rattle.wait_model.specs.Permits.{ShowsNobody, after_store, done_head, shows_at}
use Rattle.wait_model.specs.Views.{Look, unseen, off, elsewhere, shown}
use Rattle.wait_model.specs.Watches.{head_of, mask_of, owner}
use Rattle.wait_model.specs.declared.steps.Step.TheVariants as step
use Rattle.wait_model.specs.declared.watches.Mode.TheVariants as mode
use Rattle.wait_model.specs.declared.watches.Watch.TheVariants as watch
use Rattle.wait_rule.specs.{declared.journal.Item.Item, HandedPermits.OwesNoPermit, HandedPermits.StaysOff}
use Rattle.wait_rule.specs.{LeftEntries.LeftOff, Items.steps_of, Known.Known, Queues.IsWholeBook, Queues.walk_of_hold}
use Rattle.wait_rule.specs.{Shown.look_entry, Transitions.AreLooks}
use Rattle.wait_rule.specs.Says.{added, history_of, told_of, unlocked_with}
use Rattle.wait_rule.specs.declared.journal.Item.TheVariants as item
use Rattle.wait_rule.proofs.{KnownLaws.TaskHistories.history_after, TableSteps.ItemLists.steps_append}
use Rattle.wait_rule.proofs.KnownLaws.CalledPermits.{adds_join, hold_may_end, inside_adds_none, left_on}
use Rattle.wait_rule.proofs.KnownLaws.HeldPermits.{AreInside, IsInside, owed, owed_by}
use Rattle.wq_head.specs.{Holds.HasLocked, Looks.Looks}
use Rattle.wq_head.specs.Selects.{HasSelected, SelectsMany, SelectsFirst, ShowsNoEntry}
use Rattle.wait_class.proofs.Histories.{stored_history, two_more}
use Rattle.wait_event.proofs.LookedSteps.{looks_all}
use Rattle.completion_cell.proofs.Asking.{locked_history}

-- Steps of a hold, and what they make of the permits that it owes.
pub record Inside (d : ℕ) (old new : Known) (owes : ℕ → ℕ) : Type 0 where
  pub made : List Step
  pub is : history_of new ≡ history_of old ++ made
  pub inside : AreInside made
  pub leaves : (k : ℕ) → owed_by d made k ≡ owes k

inside_append : (es fs : List Step) → AreInside es → AreInside fs → AreInside (es ++ fs)
inside_append [] fs one two = two
inside_append (e ∷ es) fs one two = (one.0, inside_append es fs one.1 two)

owed_append : (d : ℕ) (es fs : List Step) (k : ℕ) → owed_by d (es ++ fs) k ≡ owed_by d fs (owed_by d es k)
owed_append d [] fs k = refl
owed_append d (e ∷ es) fs k = owed_append d es fs (owed d e k)

pub inside_join : (d : ℕ) (old mid new : Known) (f g : ℕ → ℕ) → Inside d old mid f → Inside d mid new g
    → Inside d old new (λ k. g (f k))
inside_join d old mid new f g one two = record {
  made = one.made ++ two.made;
  is = two.is ∙ (ap (λ (l : List Step). l ++ two.made) one.is
      ∙ append_assoc (history_of old) one.made two.made);
  inside = inside_append one.made two.made one.inside two.inside;
  leaves = λ k. owed_append d one.made two.made k
      ∙ (ap (owed_by d two.made) (one.leaves k) ∙ two.leaves (f k));
}

pub inside_none : (d : ℕ) (old new : Known) → new ≡ old → Inside d old new (λ k. k)
inside_none d old new is = record {
  made = [];
  is = ap history_of is ∙ sym (append-nil (history_of old));
  inside = tt;
  leaves = λ k. refl;
}

pub inside_step : (d : ℕ) (old new : Known) (e : Step) → IsInside e → new ≡ added old (item.Made e)
    → Inside d old new (owed d e)
inside_step d old new e inside is = record {
  made = e ∷ [];
  is = history_after old new e is;
  inside = (inside, tt);
  leaves = λ k. refl;
}

looks_inside : (xs : List Item) → AreLooks xs → AreInside (steps_of xs)
looks_inside = looks_all AreInside tt (λ x w es inside. (tt, inside))

looks_owe : (d k : ℕ) (xs : List Item) → AreLooks xs → owed_by d (steps_of xs) k ≡ k
looks_owe d k = looks_all (λ es. owed_by d es k ≡ k) refl (λ x w es same. same)

pub inside_looks : (d : ℕ) (old new : Known) → Looks old new → Inside d old new (λ k. k)
inside_looks d old new l = record {
  made = steps_of l.items;
  is = ap history_of l.is ∙ steps_append old.view.items l.items;
  inside = looks_inside l.items l.looks;
  leaves = λ k. looks_owe d k l.items l.looks;
}

-- a load and a store of the count
same_cell : (d : ℕ) → (d == d) ≡ true
same_cell d = eq-eqb d d refl

pub load_owes : (d r : ℕ) → owed d (step.Load (watch.Done d) r) 0 ≡ 0
load_owes d r = by (d == d) ((r == 0) || (nat_le ALL_DONE r && nat_le 0 1))
  where
    by : (b c : Bool) → ◌≡◌ {A = ℕ} (if b then (if c then 0 else 0) else 0) 0
    by true true = refl
    by true false = refl
    by false c = refl

pub store_inside : (d m r : ℕ) → IsInside (set_step (watch.Done d) m r)
store_inside d m r = by (is_publishing (watch.Done d) r m)
  where
    by : (b : Bool) → IsInside (if b then step.Publish (watch.Done d) m r else step.Consume (watch.Done d) m r)
    by true = tt
    by false = tt

pub store_owes : (d m r k : ℕ) → owed d (set_step (watch.Done d) m r) k ≡ after_store m r k
store_owes d m r k = by (is_publishing (watch.Done d) r m)
  where
    one : (if d == d then after_store m r k else k) ≡ after_store m r k
    one = ap (λ (b : Bool). if b then after_store m r k else k) (same_cell d)

    by : (b : Bool) → owed d (if b then step.Publish (watch.Done d) m r else step.Consume (watch.Done d) m r) k
        ≡ after_store m r k
    by true = one
    by false = one

-- a store of no more than was found, where nothing was owed
pub lowers : (m r : ℕ) → m ≤ r → after_store m r 0 ≡ 0
lowers m r less = by (m == 0)
  where
    by : (b : Bool) → (if b then 0 else 0 + m - r) ≡ 0
    by true = refl
    by false = omega (arith, less)

pub raises : (r : ℕ) → after_store (r + 1) r 0 ≡ 1
raises r =
    let some : (r + 1 == 0) ≡ false = grind (arith, nat_tests) in
    ap (λ (b : Bool). if b then 0 else 0 + (r + 1) - r) some ∙ omega arith

-- the entries that a selection takes off
first_inside : (d : ℕ) (old new : Known) → SelectsFirst old new → Inside d old new (λ k. k - 1)
first_inside d old new s = inside_join d old s.seen new (λ k. k) (λ k. k - 1) (inside_looks d old s.seen s.looks)
    (record {
      made = wake ∷ step.Unqueue s.member.at ∷ [];
      is = two_more s.seen (added s.seen (item.Made wake)) new wake (step.Unqueue s.member.at)
          (history_after s.seen (added s.seen (item.Made wake)) wake refl)
          (stored_history (added s.seen (item.Made wake)) new (step.Unqueue s.member.at) s.is);
      inside = (tt, (tt, tt));
      leaves = λ k. refl;
    })
  where
    wake : Step
    wake = step.Wake (owner s.member.at) (mask_of mode.Normal) s.found

selects_inside : (d : ℕ) (old : Known) (n : ℕ) (new : Known) → SelectsMany old n new → Inside d old new (λ k. k - n)
selects_inside d old zero new s = record {
  made = [];
  is = ap history_of s ∙ sym (append-nil (history_of old));
  inside = tt;
  leaves = λ k. omega arith;
}
selects_inside d old (suc n) new s =
    let i = inside_join d old s.0 new (λ k. k - n) (λ k. k - 1) (selects_inside d old n s.0 s.1)
    (first_inside d s.0 new s.2) in record {
      made = i.made;
      is = i.is;
      inside = i.inside;
      leaves = λ k. let l = i.leaves k in omega (arith, l);
    }

pub selection_inside : (d : ℕ) (old new : Known) (most n : ℕ) → HasSelected old new most n → Inside d old new (λ k. k
    - n)
selection_inside d old new most n s = inside_join d old s.seen new (λ k. k) (λ k. k - n)
    (inside_looks d old s.seen s.looks) (selects_inside d s.seen n new s.selects)

-- a hold that has seen each word, and shows no entry of its head
pub nobody : (h : ℕ) (k : Known) → IsWholeBook k → ShowsNoEntry k → ShowsNobody h (told_of k)
nobody h k whole none x few = (whole.entries x few, by ((told_of k).hold.book x) refl)
  where
    by : (l : Look) → (told_of k).hold.book x ≡ l → shows_at h l ≡ false
    by unseen is = refl
    by off is = refl
    by elsewhere is = refl
    by (shown e) is = absurd (none x e few (ap look_entry is))

-- an unlock adds one step to the history
pub unlocked_steps : (old new : Known) (sp : Bool) → new ≡ unlocked_with old old.at sp
    → history_of new ≡ history_of old ++ step.Unlock old.at sp ∷ []
unlocked_steps old new sp is = ap history_of is
    ∙ (steps_append (old.view.items ++ item.Made (step.Unlock old.at sp) ∷ []) (item.Served ∷ [])
    ∙ (append-nil (steps_of (old.view.items ++ item.Made (step.Unlock old.at sp) ∷ []))
    ∙ steps_append old.view.items (item.Made (step.Unlock old.at sp) ∷ [])))

-- A hold of the head of d so far, in which nothing was queued, and which may end.
pub record MayEndHold (d : ℕ) (old m : Known) : Type 0 where
  pub aim : Option Aim
  pub found : ℕ
  pub steps : List Step
  pub is : history_of m ≡ history_of old ++ step.Lock (done_head d) aim found ∷ steps
  pub inside : AreInside steps
  pub at : m.at ≡ done_head d
  pub number : m.view.number ≡ old.view.number
  pub out : (told_of old).hold.head ≡ None
  pub done : (owed_by d steps 0 ≡ 0) ⊎ ShowsNobody (done_head d) (told_of m)

pub hold_made : (d : ℕ) (old a m : Known) (h : ℕ) → h ≡ head_of (watch.Done d)
    → HasLocked old a h (walk_of_hold h None) → (f : ℕ → ℕ) → Inside d a m f → m.at ≡ head_of (watch.Done d)
    → m.view.number ≡ old.view.number → (told_of old).hold.head ≡ None
    → (f 0 ≡ 0) ⊎ ShowsNobody (done_head d) (told_of m) → MayEndHold d old m
hold_made d old a m h same l f i at number out done = record {
  aim = walk_of_hold h None;
  found = l.found;
  steps = i.made;
  is = i.is ∙ (ap (λ (es : List Step). es ++ i.made) (locked_history old a h l)
      ∙ (append_assoc (history_of old) (step.Lock h (walk_of_hold h None) l.found ∷ []) i.made
      ∙ ap (λ (j : ℕ). history_of old ++ step.Lock j (walk_of_hold h None) l.found ∷ i.made) same));
  inside = i.inside;
  at = at;
  number = number;
  out = out;
  done = elim done [ inl none ↦ inl (i.leaves 0 ∙ none) | inr none ↦ inr none ];
}

-- its unlock is asked of nothing, and leaves the own entry off
pub ends_owing_none : (d : ℕ) (old m : Known) → MayEndHold d old m → LeftOff d old → OwesNoPermit m
ends_owing_none d old m e left = hold_may_end d old m (done_head d) e.aim e.found e.steps refl e.at e.number e.is
    e.inside e.out left e.done

pub ends_off : (d : ℕ) (old m new : Known) (sp : Bool) → MayEndHold d old m → new ≡ unlocked_with m m.at sp
    → StaysOff old new
ends_off d old m new sp e is = left_on old new ((step.Lock (done_head d) e.aim e.found ∷ e.steps)
    ++ step.Unlock m.at sp ∷ []) (ap (λ (k : Known). k.view.number) is ∙ e.number)
    (unlocked_steps m new sp is ∙ (ap (λ (es : List Step). es ++ step.Unlock m.at sp ∷ []) e.is
    ∙ append_assoc (history_of old) (step.Lock (done_head d) e.aim e.found ∷ e.steps) (step.Unlock m.at sp ∷ [])))
    (tt, adds_join e.steps (step.Unlock m.at sp ∷ []) (inside_adds_none e.steps e.inside) (tt, tt)) e.out
