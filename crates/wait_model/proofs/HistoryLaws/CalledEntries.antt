-- Which entries a walk has called, by the fold and by the history.
use Rattle.std.proofs.lemmas.Bool.{both_ways}
use Rattle.std.proofs.Common.{refl, sym, ◌∙◌, ap, subst, arith, inl, inr}
use Rattle.std.specs.Prelude.{ℕ, ◌≡◌, ◌⊎◌, Option, Some, None, Bool, true, false, not, ◌&&◌, ◌||◌, ◌==◌, List, ◌∷◌}
use Rattle.std.specs.Prelude.{◌++◌, if◌then◌else◌}
use Rattle.wait_model.specs.{declared.watches.Watch.Watch, declared.watches.Entry.Entry, declared.watches.Aim.Aim}
use Rattle.wait_model.specs.{declared.steps.Step.Step, Tasks.meets}
use Rattle.wait_model.specs.Watches.{same, head_of, is_bit, is_woken, mask_of, failing, owner, part_of, is_page, page}
use Rattle.wait_model.specs.Views.{View, Walk, Hold, blank, concerns, gone, ahead}
use Rattle.wait_model.specs.Fold.{after, after_all, view_of, hits, finds_bit_set, is_for_page}
use Rattle.wait_model.specs.Histories.{Lacks, Since, turns_lock, is_publish}
use Rattle.wait_model.specs.Walks.{WalkHold, calls_entry, wakes_entry, flags, CalledBy, CalledNow, finds_off_head}
use Rattle.wait_model.specs.Walks.{sees_set, looks_anew}
use Rattle.wait_model.specs.declared.watches.Watch.TheVariants as watch
use Rattle.wait_model.specs.declared.steps.Step.TheVariants as step
use Rattle.wait_model.proofs.HistoryLaws.Stretches.{after_append, lacks_append, lacks_left, lacks_right, lacks_more}
use Rattle.wait_model.proofs.HistoryLaws.Stretches.{lacks_both, Seen, IsSetBy, seen_in, found_in, set_at}
use Rattle.wait_model.proofs.HistoryLaws.Stretches.{kept_so, append_split}
use Rattle.wait_model.proofs.HistoryLaws.HoldWalks.{IsForWalk, begun_for, walks_for, Locked, HasWalk, locked_for}
use Rattle.wait_model.proofs.HistoryLaws.HoldWalks.{locked_front}
use Rattle.wait_model.proofs.StepLaws.UnlockSteps.{unlock_hold, unlock_cleared}
use Rattle.wait_model.proofs.Sameness.{same_trans, same_bit, same_bit_failing}

pub both : (a b : Bool) → (a && b) ≡ true → (a ≡ true) × (b ≡ true)
both true b h = (refl, h)
both false b h = absurd (cc)

pub same_sym : (c d : Watch) → same c d ≡ true → same d c ≡ true
same_sym (watch.Plain c) (watch.Plain d) h = grind arith
same_sym (watch.Done c) (watch.Done d) h = grind arith
same_sym (watch.Bit w b) (watch.Bit v a) h = grind arith
same_sym (watch.Var v o) (watch.Var u p) h = grind arith
same_sym _ _ h = absurd (cc)

-- the steps that begin the calls of a walk anew
renews : Step → Bool
renews (step.Lock h aim w) = true
renews (step.Unlock h spent) = true
renews (step.Publish c n r) = true
renews _ = false

renews_of : (e : Step) → turns_lock e ≡ false → is_publish e ≡ false → renews e ≡ false
unfolding renews
renews_of (step.Lock h aim w) t p = absurd (cc)
renews_of e t p = cc

turns_of : (e : Step) → renews e ≡ false → turns_lock e ≡ false
unfolding renews
turns_of (step.Lock h aim w) r = absurd (cc)
turns_of (step.Unlock h sp) r = absurd (cc)
turns_of e r = refl

publish_of : (e : Step) → renews e ≡ false → is_publish e ≡ false
unfolding renews
publish_of (step.Publish c n r) q = absurd (cc)
publish_of e q = refl

-- a look without the lock
abbrev pub cleared : Watch → ℕ → View → Bool
cleared c x v = v.duty.cleared c x

cleared_by : (c : Watch) (x : ℕ) → IsSetBy (cleared c x) (λ e v. finds_off_head c x e) (looks_anew c)
cleared_by c x (step.Scan h i w) v = by_scan (head_of c == h) (w == 0) (part_of x == i) (v.duty.cleared c x)
  where
    by_scan : (at clear has old : Bool)
        → (if at then (if clear then old || has else false) else old)
        ≡ ((at && (clear && has)) || (old && not (at && not clear)))
    by_scan at clear has old = grind arith
cleared_by c x (step.Unlock h sp) v = unlock_cleared v v.walk sp c x ∙ kept_so (v.duty.cleared c x)
cleared_by c x e v = grind arith

-- calls of entries
called : ℕ → View → Bool
called x v = v.hold.called (owner x) || v.hold.moot

sets_called : ℕ → Step → View → Bool
sets_called x (step.Wake who mask w) v = hits v.walk mask && (owner x == who)
sets_called x (step.Load l r) v = finds_bit_set v.walk l r
sets_called x (step.TasFor y p r) v = is_for_page v.walk p
sets_called x _ v = false

called_by : (x : ℕ) → IsSetBy (called x) (sets_called x) renews
unfolding called sets_called renews
called_by x (step.Lock h aim w) v = grind arith
called_by x (step.Unlock h sp) v =
    ap (λ (k : Hold). k.called (owner x) || k.moot) (unlock_hold v v.walk sp) ∙ grind arith
called_by x (step.Publish d n r) v = grind arith
called_by x (step.Wake who mask w) v = grind arith
called_by x (step.Load l r) v = grind arith
called_by x (step.TasFor y p r) v = grind arith
called_by x e v = kept_so (v.hold.called (owner x) || v.hold.moot)

-- a hold that has seen the bit of its walk set
moot : View → Bool
moot v = v.hold.moot

sets_moot : Step → View → Bool
sets_moot (step.Load l r) v = finds_bit_set v.walk l r
sets_moot (step.TasFor y p r) v = is_for_page v.walk p
sets_moot _ v = false

moot_by : IsSetBy moot sets_moot renews
unfolding moot sets_moot renews
moot_by (step.Lock h aim w) v = grind arith
moot_by (step.Unlock h sp) v = ap (λ (k : Hold). k.moot) (unlock_hold v v.walk sp) ∙ grind arith
moot_by (step.Publish d n r) v = grind arith
moot_by (step.Load l r) v = grind arith
moot_by (step.TasFor y p r) v = grind arith
moot_by e v = kept_so v.hold.moot

flagged : ℕ → View → Bool
flagged x v = v.hold.flagged x

flagged_by : (x : ℕ) → IsSetBy (flagged x) (λ e v. flags x e) renews
unfolding flagged renews
flagged_by x (step.Lock h aim w) v = grind arith
flagged_by x (step.Unlock h sp) v = ap (λ (k : Hold). k.flagged x) (unlock_hold v v.walk sp) ∙ grind arith
flagged_by x (step.Publish d n r) v = grind arith
flagged_by x (step.Woken y) v = grind arith
flagged_by x e v = kept_so (v.hold.flagged x)

rung : ℕ → View → Bool
rung x v = v.hold.rung x

sets_rung : ℕ → Step → View → Bool
sets_rung x (step.Wake who mask w) v = hits v.walk mask && ((owner x == who) && v.hold.flagged x)
sets_rung x _ v = false

rung_by : (x : ℕ) → IsSetBy (rung x) (sets_rung x) renews
unfolding rung sets_rung renews
rung_by x (step.Lock h aim w) v = grind arith
rung_by x (step.Unlock h sp) v = ap (λ (k : Hold). k.rung x) (unlock_hold v v.walk sp) ∙ grind arith
rung_by x (step.Publish d n r) v = grind arith
rung_by x (step.Wake who mask w) v = grind arith
rung_by x e v = kept_so (v.hold.rung x)

-- what the walk's own steps are, by the lock's aim
sets_of_call : (a : Aim) (x : ℕ) (e : Step) (v : View) → IsForWalk a v.walk → calls_entry a x e ≡ true
    → sets_called x e v ≡ true
unfolding sets_called
sets_of_call a x (step.Wake who mask w) v f h = rw f.is (rw f.mask h)
sets_of_call a x (step.Load l r) v f h =
    let b = both (is_bit a.watch) (failing l r a.watch) h in
    let s : same f.walk.watch a.watch ≡ true = same_sym a.watch f.walk.watch f.watch in
    rw f.is (rw (same_bit f.walk.watch a.watch s b.0) (same_bit_failing l r f.walk.watch a.watch s b.0 ∙ b.1))
sets_of_call a x (step.TasFor y p r) v f h =
    rw f.is (sym (same_trans (page p) a.watch f.walk.watch h) ∙ f.watch)
sets_of_call a x e v f h = absurd (cc)

sets_of_sight : (a : Aim) (e : Step) (v : View) → IsForWalk a v.walk → sees_set a e ≡ true → sets_moot e v ≡ true
unfolding sets_called sets_moot
sets_of_sight a (step.Load l r) v f h = sets_of_call a 0 (step.Load l r) v f h
sets_of_sight a (step.TasFor y p r) v f h = sets_of_call a 0 (step.TasFor y p r) v f h
sets_of_sight a e v f h = absurd (cc)

sets_of_wake : (a : Aim) (x : ℕ) (e : Step) (v : View) → IsForWalk a v.walk → wakes_entry a x e ≡ true
    → v.hold.flagged x ≡ true → sets_rung x e v ≡ true
unfolding sets_rung
sets_of_wake a x (step.Wake who mask w) v f h g = rw f.is (rw (f.mask, g) (grind (arith, h)))
sets_of_wake a x e v f h g = absurd (cc)

-- a reading that a call of the hold sets stands at its end
set_in : (a : Aim) (r : View → Bool) (set : Step → View → Bool) → IsSetBy r set renews → (test : Step → Bool)
    (inside : List Step) (v : View) → Lacks turns_lock inside → IsForWalk a v.walk → Since test is_publish inside
    → ((e : Step) (u : View) → IsForWalk a u.walk → test e ≡ true → set e u ≡ true) → r (after_all v inside) ≡ true
set_in a r set by test inside v l f c sets =
    subst (λ (t : List Step). r (after_all v t) ≡ true) (sym c.split)
    (set_at r set renews by c.earlier c.it c.later v
    (sets c.it (after_all v c.earlier)
    (walks_for a c.earlier v (lacks_left turns_lock c.earlier (c.it ∷ c.later) all) f) c.passes)
    (lacks_both turns_lock is_publish renews renews_of c.later
    (lacks_right turns_lock c.earlier (c.it ∷ c.later) all).1 c.none_since))
  where
    all : Lacks turns_lock (c.earlier ++ c.it ∷ c.later)
    all = subst (Lacks turns_lock) c.split l

called_at : (k j : Bool) (inside : List Step) (a : Aim) (x : ℕ) (e : Entry) (v : View) → is_woken e.kind ≡ k
    → is_page e.kind ≡ j → Lacks turns_lock inside → IsForWalk a v.walk → CalledBy k j inside a x
    → gone (after_all v inside) x e ≡ true
unfolding called rung flagged moot
called_at false true inside a x e v is pg l f c =
    rw (is, pg) (set_in a moot sets_moot moot_by (sees_set a) inside v l f c (sets_of_sight a))
called_at false false inside a x e v is pg l f c =
    rw (is, pg) (set_in a (called x) (sets_called x) (called_by x) (calls_entry a x) inside v l f c (sets_of_call a x))
called_at true j inside a x e v is pg l f c =
    rw is (subst (λ (t : List Step). rung x (after_all v t) ≡ true) (sym w.split)
    (set_at (rung x) (sets_rung x) renews (rung_by x) w.earlier w.it w.later v
    (sets_of_wake a x w.it (after_all v w.earlier)
    (walks_for a w.earlier v before f) w.passes flag)
    (lacks_both turns_lock is_publish renews renews_of w.later
    (lacks_right turns_lock w.earlier (w.it ∷ w.later) all).1 w.none_since)))
  where
    w : Since (wakes_entry a x) is_publish inside
    w = c.wake

    all : Lacks turns_lock (c.wake.earlier ++ c.wake.it ∷ c.wake.later)
    all = subst (Lacks turns_lock) c.wake.split l

    before : Lacks turns_lock c.wake.earlier
    before = lacks_left turns_lock c.wake.earlier (c.wake.it ∷ c.wake.later) all

    flag : (after_all v c.wake.earlier).hold.flagged x ≡ true
    flag =
        subst (λ (t : List Step). (after_all v t).hold.flagged x ≡ true) (sym c.flag.split)
        (set_at (flagged x) (λ d u. flags x d) renews (flagged_by x) c.flag.earlier c.flag.it c.flag.later v
        c.flag.passes
        (lacks_both turns_lock is_publish renews renews_of c.flag.later
        (lacks_right turns_lock c.flag.earlier (c.flag.it ∷ c.flag.later) (subst (Lacks turns_lock) c.flag.split
        before)).1 c.flag.none_since))

-- the view of a history that is split
pub view_at : (es before : List Step) (e : Step) (later : List Step) → es ≡ before ++ e ∷ later
    → view_of es ≡ after_all (after e (view_of before)) later
view_at es before e later h = ap view_of h ∙ after_append blank before (e ∷ later)

passed_by : (a : Aim) (o : Option Walk) (g : Bool) (c : Watch) (σ p : ℕ) → IsForWalk a o → same c a.watch ≡ true
    → meets (mask_of a.mode) σ ≡ true → g ≡ true → ahead o g c σ p ≡ false
passed_by a o g c σ p f s m t =
    rw f.is (let u : same c f.walk.watch ≡ true = sym (same_trans c a.watch f.walk.watch s) ∙ f.watch in
    rw (f.mask, t, u, m) (grind arith))

-- in a hold of a walk the view's walk is one of the hold's aim
pub hold_view : (es : List Step) (c : Watch) (σ : ℕ) (k : WalkHold es c σ)
    → view_of es ≡ after_all (after (step.Lock k.head (Some k.aim) k.found) (view_of k.before)) k.inside
hold_view es c σ k = view_at es k.before (step.Lock k.head (Some k.aim) k.found) k.inside k.split

pub hold_walk : (es : List Step) (c : Watch) (σ : ℕ) (k : WalkHold es c σ) → IsForWalk k.aim (view_of es).walk
hold_walk es c σ k = subst (λ (v : View). IsForWalk k.aim v.walk) (sym (hold_view es c σ k))
    (walks_for k.aim k.inside (after (step.Lock k.head (Some k.aim) k.found) (view_of k.before)) k.within
    (begun_for k.aim (view_of k.before).walk))

pub called_gone : (es : List Step) (x : ℕ) (e : Entry) (σ : ℕ) → CalledNow es x e σ
    → gone (view_of es) x e ≡ true
called_gone es x e σ c =
    subst (λ (v : View). gone v x e ≡ true) (sym (hold_view es e.watch σ c.hold))
    (called_at (is_woken e.kind) (is_page e.kind) c.hold.inside c.hold.aim x e
    (after (step.Lock c.hold.head (Some c.hold.aim) c.hold.found) (view_of c.hold.before)) refl refl
    c.hold.within (begun_for c.hold.aim (view_of c.hold.before).walk) c.called)

pub called_not : (es : List Step) (x : ℕ) (e : Entry) (σ : ℕ) → CalledNow es x e σ
    → ahead (view_of es).walk (gone (view_of es) x e) e.watch σ e.place ≡ false
called_not es x e σ c = passed_by c.hold.aim (view_of es).walk (gone (view_of es) x e) e.watch σ e.place
    (hold_walk es e.watch σ c.hold) c.hold.watch c.hold.mode (called_gone es x e σ c)

-- a look that found the entry off, both ways
pub seen_off : (es : List Step) (c : Watch) (x : ℕ) → Since (finds_off_head c x) (looks_anew c) es
    → (view_of es).duty.cleared c x ≡ true
seen_off es c x s = subst (λ (t : List Step). (view_of t).duty.cleared c x ≡ true) (sym s.split)
    (set_at (cleared c x) (λ e v. finds_off_head c x e) (looks_anew c) (cleared_by c x) s.earlier s.it s.later
    blank
    s.passes s.none_since)

pub off_seen : (es : List Step) (c : Watch) (x : ℕ) → (view_of es).duty.cleared c x ≡ true
    → Since (finds_off_head c x) (looks_anew c) es
off_seen es c x h = found_in (cleared c x) (finds_off_head c x) (looks_anew c) (cleared_by c x) refl es h

-- from here on the other way round, in holds
hits_walk : (o : Option Walk) (mask : ℕ) → hits o mask ≡ true → HasWalk o
hits_walk None mask h = absurd (cc)
hits_walk (Some w) mask h = (w, refl)

seeks_walk : (o : Option Walk) (l : Watch) (r : ℕ) → finds_bit_set o l r ≡ true → HasWalk o
seeks_walk None l r h = absurd (cc)
seeks_walk (Some w) l r h = (w, refl)

page_walk : (o : Option Walk) (p : ℕ) → is_for_page o p ≡ true → HasWalk o
page_walk None p h = absurd (cc)
page_walk (Some w) p h = (w, refl)

-- a step that calls was made in a walk, and ends no hold
call_walk : (x : ℕ) (e : Step) (v : View) → sets_called x e v ≡ true → HasWalk v.walk × (turns_lock e ≡ false)
unfolding sets_called
call_walk x (step.Wake who mask w) v h = (
  hits_walk v.walk mask (both (hits v.walk mask) (owner x == who) h).0,
  refl,
)
call_walk x (step.Load l r) v h = (seeks_walk v.walk l r h, refl)
call_walk x (step.TasFor y p r) v h = (page_walk v.walk p h, refl)
call_walk x e v h = absurd (cc)

call_of : (a : Aim) (x : ℕ) (e : Step) (v : View) → IsForWalk a v.walk → sets_called x e v ≡ true
    → calls_entry a x e ≡ true
unfolding sets_called
call_of a x (step.Wake who mask w) v f h =
    rw (← f.mask) (let g : (hits (Some f.walk) mask && (owner x == who))
    ≡ true = (rw f.is at h) in g)
call_of a x (step.Load l r) v f h =
    let g : finds_bit_set (Some f.walk) l r ≡ true = (rw f.is at h) in
    let b = both (is_bit f.walk.watch) (failing l r f.walk.watch) g in
    rw (same_bit a.watch f.walk.watch f.watch b.0) (same_bit_failing l r a.watch f.walk.watch f.watch b.0
    ∙ b.1)
call_of a x (step.TasFor y p r) v f h =
    let g : is_for_page (Some f.walk) p ≡ true = (rw f.is at h) in
    sym (same_trans (page p) f.walk.watch a.watch g) ∙ same_sym a.watch f.walk.watch f.watch
call_of a x e v f h = absurd (cc)

-- the same of a step that makes the hold moot
sight_walk : (e : Step) (v : View) → sets_moot e v ≡ true → HasWalk v.walk × (turns_lock e ≡ false)
unfolding sets_called sets_moot
sight_walk (step.Load l r) v h = call_walk 0 (step.Load l r) v h
sight_walk (step.TasFor y p r) v h = call_walk 0 (step.TasFor y p r) v h
sight_walk e v h = absurd (cc)

sight_of : (a : Aim) (e : Step) (v : View) → IsForWalk a v.walk → sets_moot e v ≡ true → sees_set a e ≡ true
unfolding sets_called sets_moot
sight_of a (step.Load l r) v f h = call_of a 0 (step.Load l r) v f h
sight_of a (step.TasFor y p r) v f h = call_of a 0 (step.TasFor y p r) v f h
sight_of a e v f h = absurd (cc)

-- a hold, and steps after it that do not end it
abbrev pub further : (es earlier : List Step) (it : Step) (later : List Step) → es ≡ earlier ++ it ∷ later
    → turns_lock it ≡ false → Lacks turns_lock later → Locked earlier → Locked es
further es earlier it later split t l k = record {
  before = k.before;
  head = k.head;
  aim = k.aim;
  found = k.found;
  inside = k.inside ++ it ∷ later;
  split = split ∙ ap (λ (u : List Step). u ++ it ∷ later) k.split
      ∙ append_split k.before (step.Lock k.head (Some k.aim) k.found) k.inside it later;
  within = lacks_append turns_lock k.inside (it ∷ later) k.within (t, l);
}

abbrev pub hold_for : (es : List Step) (c : Watch) (σ : ℕ) (k : Locked es) → same c k.aim.watch ≡ true
    → meets (mask_of k.aim.mode) σ ≡ true → WalkHold es c σ
hold_for es c σ k s m = record {
  before = k.before;
  head = k.head;
  aim = k.aim;
  found = k.found;
  inside = k.inside;
  split = k.split;
  within = k.within;
  watch = s;
  mode = m;
}

-- the hold's aim is that of the walk at its end
pub aims : (es : List Step) (c : Watch) (σ : ℕ) (w : Walk) (k : Locked es) → (view_of es).walk ≡ Some w
    → concerns w c σ ≡ true → (same c k.aim.watch ≡ true) × (meets (mask_of k.aim.mode) σ ≡ true)
aims es c σ w k is con = by (locked_for es k)
  where
    by : IsForWalk k.aim (view_of es).walk → (same c k.aim.watch ≡ true) × (meets (mask_of k.aim.mode) σ ≡ true)
    by f =
        let e : f.walk ≡ w = (let z : Some f.walk ≡ Some w = sym f.is ∙ is in cc) in
        let p = both (same c w.watch) (meets w.mask σ) con in
        let s : same k.aim.watch w.watch ≡ true = subst (λ (u : Walk). same k.aim.watch u.watch ≡ true) e
        f.watch in
        let m : w.mask ≡ mask_of k.aim.mode = subst (λ (u : Walk). u.mask ≡ mask_of k.aim.mode) e f.mask in (
          sym (same_trans c w.watch k.aim.watch p.0) ∙ same_sym k.aim.watch w.watch s,
          ap (λ (n : ℕ). meets n σ) (sym m) ∙ p.1,
        )

-- the wake of a Woken entry, whose flag was set before
rung_walk : (x : ℕ) (e : Step) (v : View) → sets_rung x e v ≡ true
    → HasWalk v.walk × (turns_lock e ≡ false) × (v.hold.flagged x ≡ true)
unfolding sets_rung
rung_walk x (step.Wake who mask w) v h =
    let b = both (hits v.walk mask) ((owner x == who) && v.hold.flagged x) h in
    (hits_walk v.walk mask b.0, refl, (both (owner x == who) (v.hold.flagged x) b.1).1)
rung_walk x e v h = absurd (cc)

wake_of : (a : Aim) (x : ℕ) (e : Step) (v : View) → IsForWalk a v.walk → sets_rung x e v ≡ true
    → wakes_entry a x e ≡ true
unfolding sets_rung
wake_of a x (step.Wake who mask w) v f h =
    let g : (hits (Some f.walk) mask && ((owner x == who) && v.hold.flagged x)) ≡ true = (rw f.is at h) in
    rw (← f.mask) (grind (arith, g))
wake_of a x e v f h = absurd (cc)

flag_ends_none : (x : ℕ) (e : Step) → flags x e ≡ true → turns_lock e ≡ false
flag_ends_none x (step.Lock i aim w) h = absurd (cc)
flag_ends_none x (step.Unlock i sp) h = absurd (cc)
flag_ends_none x e h = refl

flag_seen : (es : List Step) (x : ℕ) → (view_of es).hold.flagged x ≡ true
    → Seen (λ e v. flags x e) renews blank es
unfolding flagged
flag_seen es x h = by (seen_in (flagged x) (λ e v. flags x e) renews (flagged_by x) es blank h)
  where
    by : Seen (λ e v. flags x e) renews blank es ⊎ ((flagged x blank ≡ true) × Lacks renews es)
        → Seen (λ e v. flags x e) renews blank es
    by (inl s) = s
    by (inr q) = absurd (both_ways false refl q.0)

-- a step of the hold with no publish behind it
abbrev unpublished : {test : Step → Bool} (inside : List Step) (it : Step) (later : List Step) → test it ≡ true
    → Lacks renews later → Since test is_publish (inside ++ it ∷ later)
unpublished inside it later p l = record {
  earlier = inside;
  it = it;
  later = later;
  split = refl;
  passes = p;
  none_since = lacks_more renews is_publish publish_of later l;
}

-- what the hold called before a step, and then by it
now_called : (es : List Step) (x : ℕ) (e : Entry) (σ : ℕ) (w : Walk) → (view_of es).walk ≡ Some w
    → concerns w e.watch σ ≡ true → (earlier : List Step) (it : Step) (later : List Step)
    → es ≡ earlier ++ it ∷ later → turns_lock it ≡ false → Lacks renews later → (k : Locked earlier)
    → CalledBy (is_woken e.kind) (is_page e.kind) (k.inside ++ it ∷ later) k.aim x → CalledNow es x e σ
now_called es x e σ w is con earlier it later split t l k c =
    let more : Locked es = further es earlier it later split t (lacks_more renews turns_lock turns_of later l) k in
    let a = aims es e.watch σ w more is con in
    record { hold = hold_for es e.watch σ more a.0 a.1; called = c }

-- the walk has called the entry in this hold
pub called_now : (es : List Step) (x : ℕ) (e : Entry) (σ : ℕ) (w : Walk) → Locked es
    → (view_of es).walk ≡ Some w → concerns w e.watch σ ≡ true → (k j : Bool) → is_woken e.kind ≡ k
    → is_page e.kind ≡ j → gone (view_of es) x e ≡ true → CalledNow es x e σ
unfolding called rung flagged moot
called_now es x e σ w l is con false true kind pg g =
    by (seen_in moot sets_moot renews moot_by es blank
    (let z : (view_of es).hold.moot ≡ true = (rw (kind, pg) at g) in z))
  where
    found : (s : Seen sets_moot renews blank es) → (k : Locked s.earlier) → turns_lock s.it ≡ false
        → CalledNow es x e σ
    found s k t = now_called es x e σ w is con s.earlier s.it s.later s.split t s.none_since k
        (subst (λ (b : Bool). CalledBy b (is_page e.kind) (k.inside ++ s.it ∷ s.later) k.aim x) (sym kind)
        (subst (λ (b : Bool). CalledBy false b (k.inside ++ s.it ∷ s.later) k.aim x) (sym pg)
        (unpublished k.inside s.it s.later (sight_of k.aim s.it (view_of s.earlier) (locked_for s.earlier k) s.sets) s.none_since)))

    by : Seen sets_moot renews blank es ⊎ ((moot blank ≡ true) × Lacks renews es) → CalledNow es x e σ
    by (inl s) =
        let c = sight_walk s.it (view_of s.earlier) s.sets in
        found s (locked_front es l s.earlier s.it s.later s.split c.1
        (lacks_more renews turns_lock turns_of s.later s.none_since)) c.1
    by (inr q) = absurd (both_ways false refl q.0)
called_now es x e σ w l is con false false kind pg g =
    by (seen_in (called x) (sets_called x) renews (called_by x) es blank
    (let z : ((view_of es).hold.called (owner x) || (view_of es).hold.moot) ≡ true = (rw (kind, pg) at g) in z))
  where
    found : (s : Seen (sets_called x) renews blank es) → (k : Locked s.earlier) → turns_lock s.it ≡ false
        → CalledNow es x e σ
    found s k t = now_called es x e σ w is con s.earlier s.it s.later s.split t s.none_since k
        (subst (λ (b : Bool). CalledBy b (is_page e.kind) (k.inside ++ s.it ∷ s.later) k.aim x) (sym kind)
        (subst (λ (b : Bool). CalledBy false b (k.inside ++ s.it ∷ s.later) k.aim x) (sym pg)
        (unpublished k.inside s.it s.later (call_of k.aim x s.it (view_of s.earlier) (locked_for s.earlier k) s.sets) s.none_since)))

    by : Seen (sets_called x) renews blank es ⊎ ((called x blank ≡ true) × Lacks renews es)
        → CalledNow es x e σ
    by (inl s) =
        let c = call_walk x s.it (view_of s.earlier) s.sets in
        found s (locked_front es l s.earlier s.it s.later s.split c.1
        (lacks_more renews turns_lock turns_of s.later s.none_since)) c.1
    by (inr q) = absurd (both_ways false refl q.0)
called_now es x e σ w l is con true j kind pg g =
    by (seen_in (rung x) (sets_rung x) renews (rung_by x) es blank
    (let z : (view_of es).hold.rung x ≡ true = (rw kind at g) in z))
  where
    found : (s : Seen (sets_rung x) renews blank es) → turns_lock s.it ≡ false
        → Seen (λ e v. flags x e) renews blank s.earlier → CalledNow es x e σ
    found s t f =
        let k : Locked s.earlier = locked_front es l s.earlier s.it s.later s.split t
        (lacks_more renews turns_lock turns_of s.later s.none_since) in
        let quiet : Lacks turns_lock (f.it ∷ f.later) = (
          flag_ends_none x f.it f.sets,
          lacks_more renews turns_lock turns_of f.later f.none_since,
        ) in
        let j : Locked f.earlier = locked_front s.earlier k f.earlier f.it f.later f.split quiet.0 quiet.1 in
        let m : Locked s.earlier = further s.earlier f.earlier f.it f.later f.split quiet.0 quiet.1 j in
        now_called es x e σ w is con s.earlier s.it s.later s.split t s.none_since m
        (subst (λ (b : Bool). CalledBy b (is_page e.kind) (m.inside ++ s.it ∷ s.later) m.aim x) (sym kind) (record {
          wake = unpublished m.inside s.it s.later
              (wake_of m.aim x s.it (view_of s.earlier) (locked_for s.earlier m) s.sets) s.none_since;
          flag = unpublished j.inside f.it f.later f.sets f.none_since;
        }))

    by : Seen (sets_rung x) renews blank es ⊎ ((rung x blank ≡ true) × Lacks renews es) → CalledNow es x e σ
    by (inl s) =
        let r = rung_walk x s.it (view_of s.earlier) s.sets in
        found s r.1 (flag_seen s.earlier x r.2)
    by (inr q) = absurd (both_ways false refl q.0)
