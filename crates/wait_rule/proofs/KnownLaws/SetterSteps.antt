-- A task that has set a watch for which the owner of an entry waits, step by step: no look of it has cleared the entry,
-- and no walk of it has called the entry.
use Rattle.std.proofs.Common.{refl, sym, ◌∙◌, ap, subst, arith, inl, inr}
use Rattle.std.proofs.lemmas.Bool.Decides.{eqb_tells}
use Rattle.std.specs.Prelude.{ℕ, ◌≡◌, ◌≢◌, ◌≤◌, ◌⊎◌, not, nat_le, ◌&&◌, ◌||◌, ◌==◌, Bool, true, false, if◌then◌else◌}
use Rattle.std.specs.Prelude.{Option, Some, None}
use Rattle.wait_model.specs.{declared.watches.Watch.Watch, declared.watches.Entry.Entry, declared.steps.Step.Step}
use Rattle.wait_model.specs.{Tasks.meets, Words.entry_of, declared.watches.Aim.Aim, Laws.Waits, Laws.Unheard}
use Rattle.wait_model.specs.{Rows.Allowed, Rows.IsUntested, Facts.Facts, Facts.Agrees}
use Rattle.wait_model.specs.Watches.{same, head_of, is_bit, is_done, is_woken, is_simple, is_page, owner, part_of}
use Rattle.wait_model.specs.Watches.{mask_of, failing, page}
use Rattle.wait_model.specs.Views.{View, Walk, Look, unseen, off, elsewhere, shown, no_hold, checked, concerns, gone}
use Rattle.wait_model.specs.Views.{all_passed}
use Rattle.wait_model.specs.Fold.{after, after_unlock, paused, begun, begun_anew, hits, finds_bit_set, is_for_page}
use Rattle.wait_model.specs.Fold.{scanned}
use Rattle.wait_model.specs.Tables.{Table, met, next, consume}
use Rattle.wait_model.specs.declared.steps.Step.TheVariants as step
use Rattle.wait_model.proofs.{Functions.put_at, Functions.put_same, StepLaws.LoadSteps.peek_clears}
use Rattle.wait_model.proofs.{StepLaws.PublishSteps.gone_published, StepLaws.WakeSteps.wake_state}
use Rattle.wait_model.proofs.FollowedLaws.OldWaiters.{FoundZero}
use Rattle.wait_model.proofs.Sameness.{same_bit, same_bit_is, same_trans, same_of_page, failing_unmet, tas_unmet}
use Rattle.wait_model.proofs.StepLaws.UnlockSteps.{unlock_cleared, unlock_flagged, unlock_gone, not_whole}

-- no look has cleared the entry, and the walk of the view that is for its owner's state has not called it in its hold
-- and goes on before it; a simple entry is passed only by being taken off
pub record Near (v : View) (x : ℕ) (e : Entry) (σ : ℕ) : Type 0 where
  pub uncleared : v.duty.cleared e.watch x ≡ false
  pub uncalled : is_simple e.kind ≡ false → (w : Walk) → v.walk ≡ Some w → concerns w e.watch σ ≡ true
      → gone v x e ≡ false
  pub reached : is_simple e.kind ≡ false → (w : Walk) → v.walk ≡ Some w → concerns w e.watch σ ≡ true
      → w.from ≤ e.place

-- a failed load of an untested entry is of a done count, found 0 in the hold in which the owner still is
untested_done : (v : View) (h x : ℕ) (e : Entry) (on : Watch) (m : ℕ) → IsUntested v h x
    → checked v x e on ≡ Some m → (is_done on ≡ true) × (v.hold.prepared ≡ true)
    × (v.checks.zero_failed x on ≡ Some m)
untested_done v h x e on m u ch =
    by (is_woken e.kind) (v.checks.flag_no x) (is_page e.kind) (v.checks.tas_failed x on) (is_done on)
    (u.tas_failed on) ch
  where
    prepared : v.checks.zero_failed x on ≡ Some m → (v.hold.prepared ≡ true) ⊎ ((c : Watch)
        → v.checks.zero_failed x c ≡ None) → v.hold.prepared ≡ true
    prepared z (inl p) = p
    prepared z (inr n) = absurd (let q : v.checks.zero_failed x on ≡ None = n on in cc)

    by : (wo fl pa ta dn : Bool) → ta ≡ false
        → (if wo then (if fl then v.checks.low x on else None)
        else if pa then (if ta then Some 0 else None)
        else if dn then v.checks.zero_failed x on else v.checks.failed x on) ≡ Some m
        → (dn ≡ true) × (v.hold.prepared ≡ true) × (v.checks.zero_failed x on ≡ Some m)
    by true true pa ta dn free q = absurd (let z : v.checks.low x on ≡ None = u.low on in cc)
    by true false pa ta dn free q = absurd (cc)
    by false fl true ta dn free q = grind arith
    by false fl false ta true free q = (refl, prepared q u.zero_failed, q)
    by false fl false ta false free q = absurd (let z : v.checks.failed x on ≡ None = u.failed on in cc)

-- where no other task has found the done count 0 in its hold, an entry whose owner waits is tested
pub tested : (s : Table) (a x : ℕ) (e : Entry) (on : Watch) (n σ : ℕ) → Facts s
    → ((t : ℕ) → t ≢ a → FoundZero s t on → ⊥) → Waits s x e on n σ → (s.view a).hold.head ≡ None → (h : ℕ)
    → IsUntested (s.view (owner x)) h x → ⊥
tested s a x e on n σ k zero z none h u = elim (eqb_tells (owner x) a) [
  | inl q ↦ let held : (s.view (owner x)).hold.head ≡ Some h = u.held in
      let is : (s.view (owner x)).hold.head ≡ (s.view a).hold.head = ap (λ (i : ℕ). (s.view i).hold.head) q.1 in cc
  | inr q ↦ let d = untested_done (s.view (owner x)) h x e on n u z.failed in
      zero (owner x) q.1 (n, d.0, (k.views (owner x)).zero.here x on n d.1 d.2)
]

-- a look clears no entry that stands; a load of its member word clears none that is tested
pub cleared_kept : (s : Table) (a : ℕ) (ev : Step) (x : ℕ) (e : Entry) → Allowed s a ev → s.entry x ≡ Some e
    → ((s.view a).hold.head ≡ None → (h : ℕ) → IsUntested (s.view (owner x)) h x → ⊥)
    → (s.view a).duty.cleared e.watch x ≡ false → (after ev (s.view a)).duty.cleared e.watch x ≡ false
cleared_kept s a (step.Lock h aim w) x e al st un cl = refl
cleared_kept s a (step.Unlock h sp) x e al st un cl = unlock_cleared (s.view a) (s.view a).walk sp e.watch x ∙ cl
cleared_kept s a (step.Peek y w) x e al st un cl = peek_clears s a y (entry_of w) x e al.0 st cl
cleared_kept s a (step.Scan h i w) x e al st un cl =
    by (head_of e.watch == h) (w == 0) (part_of x == i) refl refl refl
  where
    by : (p q r : Bool) → (head_of e.watch == h) ≡ p → (w == 0) ≡ q → (part_of x == i) ≡ r
        → scanned (s.view a).duty.cleared h i w e.watch x ≡ false
    by false q r hp hq hr = rw hp cl
    by true false r hp hq hr = rw (hp, hq) refl
    by true true false hp hq hr = rw (hp, hq, hr, cl) refl
    by true true true hp hq hr =
        let hd : head_of e.watch ≡ h = grind arith in
        let zr : w ≡ 0 = grind arith in
        let pt : part_of x ≡ i = grind arith in
        absurd (un al.0 h (al.1 zr x e pt st hd))
cleared_kept s a (step.Publish c n r) x e al st un cl = grind arith
cleared_kept s a ev x e al st un cl = cl

-- The walk goes on before the entry: it leaves a hold at its bookmark only where the book shows all before that as
-- passed, and an entry that it has not called is not.
begun_before : (o : Option Walk) (aim : Option Aim) (c : Watch) (σ p : ℕ) (w : Walk) → begun o aim ≡ Some w
    → ((g : Walk) → o ≡ Some g → concerns g c σ ≡ true → g.from ≤ p) → concerns w c σ ≡ true → w.from ≤ p
begun_before o None c σ p w is old con = absurd (cc)
begun_before None (Some a) c σ p w is old con =
    subst (λ (g : Walk). g.from ≤ p) (let q : record { watch = a.watch; mask = mask_of a.mode; from = 0 } ≡ w = cc in q)
    (omega arith)
begun_before (Some g) (Some a) c σ p w is old con = by (same a.watch g.watch && (g.mask == mask_of a.mode)) is
  where
    by : (b : Bool) → (if b then Some g else Some (record { watch = a.watch; mask = mask_of a.mode; from = 0 })) ≡ Some w
        → w.from ≤ p
    by true q = old w (ap (λ (o : Option Walk). o) q) con
    by false q = subst (λ (u : Walk). u.from ≤ p)
        (let r : record { watch = a.watch; mask = mask_of a.mode; from = 0 } ≡ w = cc in r) (omega arith)

paused_before : (v : View) (g : Walk) (mark : Option ℕ) (c : Watch) (σ p : ℕ) (w : Walk) → paused v g mark ≡ Some w
    → (concerns g c σ ≡ true → (q : ℕ) → all_passed v g (λ i. nat_le q i) ≡ true → q ≤ p)
    → concerns w c σ ≡ true → w.from ≤ p
paused_before v g None c σ p w is stops con = absurd (cc)
paused_before v g (Some q) c σ p w is stops con = by (all_passed v g (λ i. nat_le q i)) refl is
  where
    by : (b : Bool) → all_passed v g (λ i. nat_le q i) ≡ b → (if b then Some (record g { from = q }) else None) ≡ Some w
        → w.from ≤ p
    by false h r = absurd (cc)
    by true h r = let at : record g { from = q } ≡ w = cc in
        subst (λ (u : Walk). u.from ≤ p) at
        (stops (subst (λ (u : Walk). concerns u c σ ≡ true) (sym at) con) q h)

pub anew_before : (o : Option Walk) (p : ℕ) (w : Walk) → begun_anew o ≡ Some w → w.from ≤ p
anew_before None p w is = absurd (cc)
anew_before (Some g) p w is = subst (λ (u : Walk). u.from ≤ p) (let q : record g { from = 0 } ≡ w = cc in q) (omega arith)

-- the book does not show an entry that the walk has not passed as passed, unless the walk stops before it
pub not_passed : (s : Table) (a h : ℕ) (g : Walk) (x : ℕ) (e : Entry) (σ : ℕ) (stop : ℕ → Bool) → Facts s
    → (s.view a).hold.head ≡ Some h → (s.view a).walk ≡ Some g → s.entry x ≡ Some e → Near (s.view a) x e σ
    → concerns g e.watch σ ≡ true → stop e.place ≡ false → all_passed (s.view a) g stop ≡ false
not_passed s a h g x e σ stop k held is st near con off_stop =
    not_whole s a h g x e stop k held is st (left (same e.watch g.watch) (meets g.mask σ) con)
    (by (is_simple e.kind) refl)
  where
    left : (p q : Bool) → (p && q) ≡ true → p ≡ true
    left true q h = refl
    left false q h = absurd (cc)

    by : (b : Bool) → is_simple e.kind ≡ b
        → (is_simple e.kind || (nat_le g.from e.place && (not (stop e.place) && not (gone (s.view a) x e)))) ≡ true
    by true si = rw si refl
    by false ns =
        let from : nat_le g.from e.place ≡ true = (let le : g.from ≤ e.place = near.reached ns g is con in grind arith)
        in rw (ns, from, off_stop, near.uncalled ns g is con) refl

reached_kept : (s : Table) (a : ℕ) (ev : Step) (x : ℕ) (e : Entry) (σ : ℕ) → Facts s → Allowed s a ev
    → s.entry x ≡ Some e → Near (s.view a) x e σ → is_simple e.kind ≡ false → (w : Walk)
    → (after ev (s.view a)).walk ≡ Some w → concerns w e.watch σ ≡ true → w.from ≤ e.place
reached_kept s a (step.Lock h aim f) x e σ k al st near ns w is con =
    begun_before (s.view a).walk aim e.watch σ e.place w is (near.reached ns) con
reached_kept s a (step.Publish c n r) x e σ k al st near ns w is con = anew_before (s.view a).walk e.place w is
reached_kept s a (step.Unlock h sp) x e σ k al st near ns w is con = by (s.view a).walk refl is
  where
    stops : (g : Walk) → (s.view a).walk ≡ Some g → concerns g e.watch σ ≡ true → (q : ℕ)
        → all_passed (s.view a) g (λ i. nat_le q i) ≡ true → q ≤ e.place
    stops g at cg q all = at_place (nat_le q e.place) refl
      where
        at_place : (b : Bool) → nat_le q e.place ≡ b → q ≤ e.place
        at_place true t = grind arith
        at_place false t = absurd (let f : all_passed (s.view a) g (λ i. nat_le q i) ≡ false =
            not_passed s a h g x e σ (λ i. nat_le q i) k al.0 at st near cg t in cc)

    by : (o : Option Walk) → (s.view a).walk ≡ o → (after_unlock (s.view a) o sp).walk ≡ Some w → w.from ≤ e.place
    by None at r = absurd (cc)
    by (Some g) at r = left_walk (sp || all_passed (s.view a) g (λ _. false)) r
      where
        left_walk : (b : Bool) → (if b then record (s.view a) {
          hold = no_hold;
          walk = None;
          duty = record ((s.view a).duty) { owes = λ c τ. (s.view a).duty.owes c τ && not (concerns g c τ) };
        }
            else record (s.view a) { hold = no_hold; walk = paused (s.view a) g (s.view a).mark }).walk ≡ Some w
            → w.from ≤ e.place
        left_walk true q = absurd (cc)
        left_walk false q = paused_before (s.view a) g (s.view a).mark e.watch σ e.place w q (stops g at) con
reached_kept s a ev x e σ k al st near ns w is con = near.reached ns w is con

-- a walk calls no entry whose owner still waits after the step
woken_gone : (v : View) (x : ℕ) (e : Entry) (who mask w σ : ℕ)
    → (is_page e.kind ≡ false → owner x ≡ who → meets mask σ ≡ false) → meets mask σ ≡ true
    → gone (after (step.Wake who mask w) v) x e ≡ gone v x e
woken_gone v x e who mask w σ nope me = grind arith

gone_unhit : (v : View) (x : ℕ) (e : Entry) (who mask w : ℕ) → hits v.walk mask ≡ false
    → gone (after (step.Wake who mask w) v) x e ≡ gone v x e
gone_unhit v x e who mask w nope = grind arith

gone_loaded : (v : View) (l : Watch) (r x : ℕ) (e : Entry) → finds_bit_set v.walk l r ≡ false
    → gone (after (step.Load l r) v) x e ≡ gone v x e
gone_loaded v l r x e nope = grind arith

gone_tried : (v : View) (y p r x : ℕ) (e : Entry) → is_for_page v.walk p ≡ false
    → gone (after (step.TasFor y p r) v) x e ≡ gone v x e
gone_tried v y p r x e nope = grind arith

gone_locked : (v : View) (h : ℕ) (aim : _) (w x : ℕ) (e : Entry)
    → gone (after (step.Lock h aim w) v) x e ≡ false
gone_locked v h aim w x e = grind arith

-- the walk's mask is another one
unhit : (o : Option Walk) (w : Walk) (c : Watch) (mask σ : ℕ) → o ≡ Some w → concerns w c σ ≡ true
    → meets mask σ ≡ false → hits o mask ≡ false
unhit o w c mask σ is con off_mask = ap (λ (i : Option Walk). hits i mask) is ∙ by (mask == w.mask) refl
  where
    by : (b : Bool) → (mask == w.mask) ≡ b → (mask == w.mask) ≡ false
    by false h = h
    by true h = let q : mask ≡ w.mask = grind arith in
        let m : meets w.mask σ ≡ true = right (same c w.watch) (meets w.mask σ) con in
        let n : meets w.mask σ ≡ false = ap (λ (i : ℕ). meets i σ) (sym q) ∙ off_mask in absurd (cc)
      where
        right : (a b : Bool) → (a && b) ≡ true → b ≡ true
        right true b h = h
        right false b h = absurd (cc)

module _ (s : Table) (a x : ℕ) (e : Entry) (on : Watch) (n σ : ℕ) (was : met s.words on ≡ true) where
  -- a walk for the entry is one for each watch for which it stands
  walk_same : (w : Walk) → same on e.watch ≡ true → concerns w e.watch σ ≡ true → same on w.watch ≡ true
  walk_same w sa con = sym (same_trans on e.watch w.watch sa) ∙ left (same e.watch w.watch) (meets w.mask σ) con
    where
      left : (p q : Bool) → (p && q) ≡ true → p ≡ true
      left true q h = refl
      left false q h = absurd (cc)

  uncalled_kept : (ev : Step) → Allowed s a ev → Waits (next s a ev) x e on n σ
      → ((w : Walk) → (s.view a).walk ≡ Some w → concerns w e.watch σ ≡ true → gone (s.view a) x e ≡ false)
      → (w : Walk) → (after ev (s.view a)).walk ≡ Some w → concerns w e.watch σ ≡ true
      → gone (after ev (s.view a)) x e ≡ false
  uncalled_kept (step.Wake who mask f) al z un w is con = by (meets mask σ) refl
    where
      still : σ ≢ 0 → ((next s a (step.Wake who mask f)).task (owner x)).state ≡ σ
          → (((next s a (step.Wake who mask f)).task (owner x)).state ≡ (s.task (owner x)).state)
          × (owner x ≡ who → meets mask (s.task (owner x)).state ≡ false)
      still ne q = wake_state s a who mask f (owner x) (subst (λ (i : ℕ). i ≢ 0) (sym q) ne)

      unmet : is_page e.kind ≡ false → owner x ≡ who → meets mask σ ≡ false
      unmet np own = let d = z.down np in
          let g = still d.1 d.0 in
          subst (λ (i : ℕ). meets mask i ≡ false) (sym g.0 ∙ d.0) (g.1 own)

      by : (b : Bool) → meets mask σ ≡ b → gone (after (step.Wake who mask f) (s.view a)) x e ≡ false
      by true m = woken_gone (s.view a) x e who mask f σ unmet m ∙ un w is con
      by false m = gone_unhit (s.view a) x e who mask f (unhit (s.view a).walk w e.watch mask σ is con m) ∙ un w is con
  uncalled_kept (step.Lock h aim f) al z un w is con = gone_locked (s.view a) h aim f x e
  uncalled_kept (step.Unlock h sp) al z un w is con = unlock_gone (s.view a) (s.view a).walk sp x e
  uncalled_kept (step.Publish c m r) al z un w is con = gone_published (s.view a) c m r x e
  uncalled_kept (step.Load l r) al z un w is con =
      gone_loaded (s.view a) l r x e (ap (λ (o : Option Walk). finds_bit_set o l r) is
      ∙ by (is_bit w.watch) (failing l r w.watch) refl refl) ∙ un w is con
    where
      by : (p q : Bool) → is_bit w.watch ≡ p → failing l r w.watch ≡ q
          → (is_bit w.watch && failing l r w.watch) ≡ false
      by false q hp hq = rw hp refl
      by true false hp hq = rw (hp, hq) refl
      by true true hp hq =
          let sa : same on w.watch ≡ true = walk_same w z.watches con in
          let eq : on ≡ w.watch = same_bit_is on w.watch (same_bit on w.watch sa hp) sa in
          let unmet : met s.words on ≡ false = failing_unmet s.words l r on al (ap (failing l r) eq ∙ hq) in
          absurd (cc)
  uncalled_kept (step.TasFor y p r) al z un w is con =
      gone_tried (s.view a) y p r x e (ap (λ (o : Option Walk). is_for_page o p) is
      ∙ by (same (page p) w.watch) refl) ∙ un w is con
    where
      by : (b : Bool) → same (page p) w.watch ≡ b → same (page p) w.watch ≡ false
      by false h = h
      by true h =
          let unmet : met (consume s.words (page p) 1) on ≡ false = tas_unmet s.words (page p) on 1 refl
          (same_of_page on w.watch p (walk_same w z.watches con) h) in
          let yes : met (consume s.words (page p) 1) on ≡ true = z.is_set in absurd (cc)
  uncalled_kept ev al z un w is con = un w is con

  -- a step of its own
  pub near_kept : (ev : Step) → Facts s → Allowed s a ev → s.entry x ≡ Some e → Waits (next s a ev) x e on n σ
      → ((s.view a).hold.head ≡ None → (h : ℕ) → IsUntested (s.view (owner x)) h x → ⊥) → Near (s.view a) x e σ
      → Near (after ev (s.view a)) x e σ
  near_kept ev k al st z un near = record {
    uncleared = cleared_kept s a ev x e al st un near.uncleared;
    uncalled = λ ns. uncalled_kept ev al z (near.uncalled ns);
    reached = reached_kept s a ev x e σ k al st near;
  }

-- the flag of a Woken entry whose owner found the flag clear is one that the task has not set
pub unflagged_kept : (s : Table) (a : ℕ) (ev : Step) (x : ℕ) (e : Entry) (on : Watch) (n : ℕ)
    → Unheard (next s a ev) x e on n → (s.view a).hold.flagged x ≡ false
    → (after ev (s.view a)).hold.flagged x ≡ false
unflagged_kept s a (step.Woken y) x e on n z un = put_at (λ (b : Bool). b ≡ false) (s.view a).hold.flagged y true x
    (λ q. absurd (let is : (next s a (step.Woken y)).flag x ≡ false = z.quiet in
    let set : (next s a (step.Woken y)).flag x ≡ true =
    put_at (λ (b : Bool). b ≡ true) s.flag y true x (λ _. refl) (λ ne. absurd (ne q)) in cc))
    (λ _. un)
unflagged_kept s a (step.Unlock h sp) x e on n z un = unlock_flagged (s.view a) (s.view a).walk sp x
unflagged_kept s a (step.Lock h aim w) x e on n z un = refl
unflagged_kept s a (step.Publish c m r) x e on n z un = refl
unflagged_kept s a ev x e on n z un = un

-- who has not set the flag has not called the entry
uncalled_unflagged : (s : Table) (a x : ℕ) (e : Entry) → Facts s → is_woken e.kind ≡ true
    → (s.view a).hold.flagged x ≡ false → gone (s.view a) x e ≡ false
uncalled_unflagged s a x e k wo un = ap (λ (b : Bool). if b then (s.view a).hold.rung x else if is_page e.kind
    then (s.view a).hold.moot else ((s.view a).hold.called (owner x) || (s.view a).hold.moot)) wo
    ∙ by ((s.view a).hold.rung x) refl
  where
    by : (b : Bool) → (s.view a).hold.rung x ≡ b → (s.view a).hold.rung x ≡ false
    by false h = h
    by true h = absurd (let set : (s.view a).hold.flagged x ≡ true = (k.views a).rung x h in cc)

-- the same of an entry whose flag is to be set
pub near_unheard : (s : Table) (a : ℕ) (ev : Step) (x : ℕ) (e : Entry) (σ : ℕ) → Facts s → Facts (next s a ev)
    → Allowed s a ev → s.entry x ≡ Some e → is_woken e.kind ≡ true
    → ((s.view a).hold.head ≡ None → (h : ℕ) → IsUntested (s.view (owner x)) h x → ⊥) → Near (s.view a) x e σ
    → ((next s a ev).view a).hold.flagged x ≡ false → Near (after ev (s.view a)) x e σ
near_unheard s a ev x e σ k k2 al st wo un near fl = record {
  uncleared = cleared_kept s a ev x e al st un near.uncleared;
  uncalled = λ ns w is con. subst (λ (v : View). gone v x e ≡ false) (put_same s.view a (after ev (s.view a)))
      (uncalled_unflagged (next s a ev) a x e k2 wo fl);
  reached = reached_kept s a ev x e σ k al st near;
}

-- what a task's view tells of an entry that stands and that it has not passed
pub record Open (v : View) (x : ℕ) (e : Entry) (σ : ℕ) : Type 0 where
  pub near : Near v x e σ
  pub shows : (h : ℕ) → v.hold.head ≡ Some h → head_of e.watch ≡ h → (v.hold.book x ≡ unseen)
      ⊎ (v.hold.book x ≡ shown e)
  pub aimed : (h : ℕ) (w : Walk) → v.hold.head ≡ Some h → v.walk ≡ Some w → head_of w.watch ≡ h

pub open_of : (s : Table) (a x : ℕ) (e : Entry) (σ : ℕ) → Facts s → s.entry x ≡ Some e → Near (s.view a) x e σ
    → Open (s.view a) x e σ
open_of s a x e σ k st near = record {
  near = near;
  shows = λ h held at. by h at ((s.view a).hold.book x) ((k.views a).hold.agrees h x held);
  aimed = (k.views a).hold.aimed;
}
  where
    by : (h : ℕ) → head_of e.watch ≡ h → (l : Look) → Agrees h l (s.entry x) → (l ≡ unseen) ⊎ (l ≡ shown e)
    by h at unseen ag = inl refl
    by h at off ag = absurd (ag e st at)
    by h at elsewhere ag = absurd (ag e st at)
    by h at (shown d) ag = inr (let q : Some d ≡ Some e = sym ag.0 ∙ st in cc)
