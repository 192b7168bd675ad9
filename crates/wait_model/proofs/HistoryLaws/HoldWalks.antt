-- The walk of a hold is the one for which its lock was taken.
use Rattle.std.proofs.lemmas.Option.{none-some}
use Rattle.std.proofs.Common.{refl, sym, ◌∙◌, ap, subst, arith, inl, inr}
use Rattle.std.specs.Prelude.{ℕ, ◌≡◌, ◌⊎◌, Option, Some, None, Bool, true, false, ◌&&◌, ◌==◌, List, [], ◌∷◌}
use Rattle.std.specs.Prelude.{◌++◌, if◌then◌else◌}
use Rattle.wait_model.specs.{declared.watches.Aim.Aim, declared.steps.Step.Step, Watches.same, Watches.mask_of}
use Rattle.wait_model.specs.Views.{View, Walk, blank}
use Rattle.wait_model.specs.Fold.{after, after_all, after_unlock, begun, begun_anew, paused}
use Rattle.wait_model.specs.Histories.{Lacks, Since, turns_lock, takes_any_lock, is_mark}
use Rattle.wait_model.specs.declared.steps.Step.TheVariants as step
use Rattle.wait_model.proofs.{Sameness.same_refl, StepLaws.UnlockSteps.unlocked}
use Rattle.wait_model.proofs.HistoryLaws.Stretches.{after_append, lacks_left, lacks_right}

-- the walk under way is one of this aim
pub record IsForWalk (a : Aim) (o : Option Walk) : Type 0 where
  pub walk : Walk
  pub is : o ≡ Some walk
  pub watch : same a.watch walk.watch ≡ true
  pub mask : walk.mask ≡ mask_of a.mode

pub begun_for : (a : Aim) (o : Option Walk) → IsForWalk a (begun o (Some a))
begun_for a None = record { walk = _; is = refl; watch = same_refl a.watch; mask = refl }
begun_for a (Some w) = by (same a.watch w.watch && (w.mask == mask_of a.mode)) refl
  where
    by : (b : Bool) → (same a.watch w.watch && (w.mask == mask_of a.mode)) ≡ b
        → IsForWalk a (if b then Some w else Some (record { watch = a.watch; mask = mask_of a.mode; from = 0 }))
    by true h = record { walk = w; is = refl; watch = grind arith; mask = grind arith }
    by false h = record { walk = _; is = refl; watch = same_refl a.watch; mask = refl }

again_for : (a : Aim) (o : Option Walk) → IsForWalk a o → IsForWalk a (begun_anew o)
again_for a None f = absurd (none-some f.walk f.is)
again_for a (Some w) f =
    let e : w ≡ f.walk = (let z : Some w ≡ Some f.walk = f.is in cc) in
    record {
      walk = record w { from = 0 };
      is = refl;
      watch = subst (λ (u : Walk). same a.watch u.watch ≡ true) (sym e) f.watch;
      mask = subst (λ (u : Walk). u.mask ≡ mask_of a.mode) (sym e) f.mask;
    }

pub walk_for : (a : Aim) (e : Step) (v : View) → turns_lock e ≡ false → IsForWalk a v.walk
    → IsForWalk a (after e v).walk
walk_for a (step.Publish c n r) v t f = again_for a v.walk f
walk_for a (step.Lock h aim w) v t f = absurd (cc)
walk_for a (step.Unlock h sp) v t f = absurd (cc)
walk_for a e v t f = f

pub walks_for : (a : Aim) (es : List Step) (v : View) → Lacks turns_lock es → IsForWalk a v.walk
    → IsForWalk a (after_all v es).walk
walks_for a [] v l f = f
walks_for a (e ∷ es) v l f = walks_for a es (after e v) l.1 (walk_for a e v l.0 f)

unlock_mark : (v : View) (o : Option Walk) (sp : Bool) → (after_unlock v o sp).mark ≡ v.mark
unlock_mark v o sp = unlocked (λ u. u.mark ≡ v.mark) v o sp refl (λ w. refl) (λ w. refl)

pub mark_kept : (e : Step) (v : View) → is_mark e ≡ false → (after e v).mark ≡ v.mark
mark_kept (step.Mark h q) v m = absurd (cc)
mark_kept step.Unmark v m = absurd (cc)
mark_kept (step.Unlock h sp) v m = unlock_mark v v.walk sp
mark_kept e v m = refl

-- without a bookmark an unlock leaves no walk
unlock_walk : (v : View) (o : Option Walk) (sp : Bool) → v.mark ≡ None → (after_unlock v o sp).walk ≡ None
unlock_walk v o sp m = unlocked (λ u. u.walk ≡ None) v o sp refl (λ w. refl) (λ w. ap (paused v w) m)

-- the last lock, taken for a walk
pub record Locked (es : List Step) : Type 0 where
  pub before : List Step
  pub head : ℕ
  pub aim : Aim
  pub found : ℕ
  pub inside : List Step
  pub split : es ≡ before ++ step.Lock head (Some aim) found ∷ inside
  pub within : Lacks turns_lock inside

abbrev pub HasWalk : Option Walk → Type 0
HasWalk o = (w : Walk) × (o ≡ Some w)

again_has : (o : Option Walk) → HasWalk (begun_anew o) → HasWalk o
again_has None h = h
again_has (Some w) h = (w, refl)

first_step : (e : Step) (es : List Step) (v : View) → v.mark ≡ None → Lacks turns_lock es
    → HasWalk (after e v).walk
    → Locked (e ∷ es) ⊎ (HasWalk v.walk × (turns_lock e ≡ false))
first_step (step.Lock h None f) es v m l w = absurd (none-some w.0 w.1)
first_step (step.Lock h (Some a) f) es v m l w = inl (record {
  before = [];
  head = h;
  aim = a;
  found = f;
  inside = es;
  split = refl;
  within = l;
})
first_step (step.Unlock h sp) es v m l w =
    absurd (none-some w.0 (sym (unlock_walk v v.walk sp m) ∙ w.1))
first_step (step.Publish c n r) es v m l w = inr (again_has v.walk w, refl)
first_step e es v m l w = inr (w, refl)

locked_in : (es : List Step) (v : View) → v.mark ≡ None → Lacks is_mark es → HasWalk (after_all v es).walk
    → Locked es ⊎ (HasWalk v.walk × Lacks turns_lock es)
locked_in [] v m l w = inr (w, tt)
locked_in (e ∷ es) v m l w = by (locked_in es (after e v) (mark_kept e v l.0 ∙ m) l.1 w)
  where
    and : Lacks turns_lock es → Locked (e ∷ es) ⊎ (HasWalk v.walk × (turns_lock e ≡ false))
        → Locked (e ∷ es) ⊎ (HasWalk v.walk × Lacks turns_lock (e ∷ es))
    and t (inl k) = inl k
    and t (inr k) = inr (k.0, (k.1, t))

    by : Locked es ⊎ (HasWalk (after e v).walk × Lacks turns_lock es)
        → Locked (e ∷ es) ⊎ (HasWalk v.walk × Lacks turns_lock (e ∷ es))
    by (inl k) = inl (record {
      before = e ∷ k.before;
      head = k.head;
      aim = k.aim;
      found = k.found;
      inside = k.inside;
      split = ap (λ (t : List Step). e ∷ t) k.split;
      within = k.within;
    })
    by (inr k) = and k.1 (first_step e es v m k.1 k.0)

-- a walk under way, in a history without bookmarks, is one of the hold that the task is in
pub locked_of : (es : List Step) → Lacks is_mark es → HasWalk (after_all blank es).walk → Locked es
locked_of es l w = by (locked_in es blank refl l w)
  where
    by : Locked es ⊎ (HasWalk blank.walk × Lacks turns_lock es) → Locked es
    by (inl k) = k
    by (inr k) = absurd (none-some k.0.0 k.0.1)

pub locked_for : (es : List Step) (k : Locked es) → IsForWalk k.aim (after_all blank es).walk
locked_for es k =
    subst (λ (t : List Step). IsForWalk k.aim (after_all blank t).walk) (sym k.split)
    (subst (λ (v : View). IsForWalk k.aim v.walk)
    (sym (after_append blank k.before (step.Lock k.head (Some k.aim) k.found ∷ k.inside)))
    (walks_for k.aim k.inside (after (step.Lock k.head (Some k.aim) k.found) (after_all blank k.before))
    k.within (begun_for k.aim (after_all blank k.before).walk)))

-- a hold at the end of a list, in each front of it that leaves out no lock that is taken or given back
record Front (before : List Step) (l : Step) (inside earlier : List Step) (it : Step) (later : List Step) : Type 0 where
  more : List Step
  front : earlier ≡ before ++ l ∷ more
  split : inside ≡ more ++ it ∷ later

front_of : (before : List Step) (l : Step) (inside earlier : List Step) (it : Step) (later : List Step)
    → before ++ l ∷ inside ≡ earlier ++ it ∷ later → turns_lock l ≡ true → turns_lock it ≡ false
    → Lacks turns_lock later → Front before l inside earlier it later
front_of [] l inside [] it later eq t n k =
    absurd (let z : l ≡ it = cc in let y : turns_lock l ≡ false = ap turns_lock z ∙ n in cc)
front_of [] l inside (e ∷ es) it later eq t n k = record {
  more = es;
  front = (let z : l ≡ e = cc in ap (λ (d : Step). d ∷ es) (sym z));
  split = (let z : inside ≡ es ++ it ∷ later = cc in z);
}
front_of (b ∷ bs) l inside [] it later eq t n k =
    let z : bs ++ l ∷ inside ≡ later = cc in
    let y : turns_lock l ≡ false = (lacks_right turns_lock bs (l ∷ inside) (subst (Lacks turns_lock) (sym z) k)).0 in
    absurd (cc)
front_of (b ∷ bs) l inside (e ∷ es) it later eq t n k =
    let h : b ≡ e = cc in
    let z : bs ++ l ∷ inside ≡ es ++ it ∷ later = cc in
    let f = front_of bs l inside es it later z t n k in record {
      more = f.more;
      front = ap (λ (d : Step). d ∷ es) (sym h) ∙ ap (λ (t : List Step). b ∷ t) f.front;
      split = f.split;
    }

pub locked_front : (es : List Step) (k : Locked es) (earlier : List Step) (it : Step) (later : List Step)
    → es ≡ earlier ++ it ∷ later → turns_lock it ≡ false → Lacks turns_lock later → Locked earlier
locked_front es k earlier it later eq t l =
    let f = front_of k.before (step.Lock k.head (Some k.aim) k.found) k.inside earlier it later (sym k.split ∙ eq) refl t
    l in record {
      before = k.before;
      head = k.head;
      aim = k.aim;
      found = k.found;
      inside = f.more;
      split = f.front;
      within = lacks_left turns_lock f.more (it ∷ later) (subst (Lacks turns_lock) f.split k.within);
    }

-- a lock for no walk leaves none, and none begins in its hold
none_kept : (e : Step) (v : View) → turns_lock e ≡ false → v.walk ≡ None → (after e v).walk ≡ None
none_kept (step.Publish c n r) v t is = ap begun_anew is
none_kept (step.Lock h aim w) v t is = absurd (cc)
none_kept (step.Unlock h sp) v t is = absurd (cc)
none_kept e v t is = is

none_stays : (es : List Step) (v : View) → Lacks turns_lock es → v.walk ≡ None → (after_all v es).walk ≡ None
none_stays [] v l is = is
none_stays (e ∷ es) v l is = none_stays es (after e v) l.1 (none_kept e v l.0 is)

-- a walk under way, where the task holds a lock, is one of the hold that it is in
pub locked_held : (es : List Step) → Since takes_any_lock turns_lock es → HasWalk (after_all blank es).walk → Locked es
locked_held es s w = by s.it s.split s.passes
  where
    by : (it : Step) → es ≡ s.earlier ++ it ∷ s.later → takes_any_lock it ≡ true → Locked es
    by (step.Lock h None f) eq i =
        let z : (after_all blank es).walk ≡ None = ap (λ (t : List Step). (after_all blank t).walk) eq
        ∙ ap (λ (v : View). v.walk) (after_append blank s.earlier (step.Lock h None f ∷ s.later))
        ∙ none_stays s.later (after (step.Lock h None f) (after_all blank s.earlier)) s.none_since refl in
        absurd (none-some w.0 (sym z ∙ w.1))
    by (step.Lock h (Some a) f) eq i = record {
      before = s.earlier;
      head = h;
      aim = a;
      found = f;
      inside = s.later;
      split = eq;
      within = s.none_since;
    }
    by e eq i = absurd (cc)

-- without bookmarks a walk begins at place 0
abbrev pub AtFirst : Option Walk → Type 0
AtFirst None = Unit {0}
AtFirst (Some w) = w.from ≡ 0

again_first : (o : Option Walk) → AtFirst (begun_anew o)
again_first None = tt
again_first (Some w) = refl

begun_first : (o : Option Walk) (a : Aim) → AtFirst o → AtFirst (begun o (Some a))
begun_first None a f = refl
begun_first (Some w) a f = by (same a.watch w.watch && (w.mask == mask_of a.mode))
  where
    by : (b : Bool) → AtFirst (if b then Some w else Some (record {
      watch = a.watch;
      mask = mask_of a.mode;
      from = 0;
    }))
    by true = f
    by false = refl

first_kept : (e : Step) (v : View) → v.mark ≡ None → AtFirst v.walk → AtFirst (after e v).walk
first_kept (step.Publish c n r) v m f = again_first v.walk
first_kept (step.Lock h None w) v m f = tt
first_kept (step.Lock h (Some a) w) v m f = begun_first v.walk a f
first_kept (step.Unlock h sp) v m f = subst AtFirst (sym (unlock_walk v v.walk sp m)) tt
first_kept e v m f = f

pub first_in : (es : List Step) (v : View) → v.mark ≡ None → Lacks is_mark es → AtFirst v.walk
    → AtFirst (after_all v es).walk
first_in [] v m l f = f
first_in (e ∷ es) v m l f = first_in es (after e v) (mark_kept e v l.0 ∙ m) l.1 (first_kept e v m f)
