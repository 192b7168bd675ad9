-- An unlock keeps the law.
use Rattle.std.proofs.Common.{refl, sym, ◌∙◌, ap, subst, arith, inl, inr}
use Rattle.std.specs.Prelude.{ℕ, ◌≡◌, ◌-◌, ◌^◌, ◌<◌, ◌≤◌, ◌⊎◌, Option, Some, None, Bool, true, false, cond, not, ◌&&◌}
use Rattle.std.specs.Prelude.{◌||◌, IsTrue, nat_le, if◌then◌else◌}
use Rattle.wait_model.specs.{declared.watches.Watch.Watch, declared.watches.Entry.Entry, Facts.Facts, Facts.Kept}
use Rattle.wait_model.specs.{Fold.paused, Fold.after_unlock, Functions.put, Rows.MaySpend, Rows.Allowed}
use Rattle.wait_model.specs.Views.{Walk, Hold, Checks, View, no_hold, checked, concerns, gone, ahead, covers, warns}
use Rattle.wait_model.specs.Views.{all_passed}
use Rattle.wait_model.specs.Watches.{same, head_of, is_done, is_bit, is_woken, is_simple, owner, is_page}
use Rattle.wait_model.specs.Tables.{Table, raised_spent, next}
use Rattle.wait_model.specs.Laws.{Waits, Spent, NoLostFlag}
use Rattle.wait_model.proofs.{StepLaws.QuietSteps.back_waits, Functions.bool_or, StepLaws.PastEntries.passed_not}
use Rattle.wait_model.proofs.StepLaws.PastEntries.{all_passed_not}
use Rattle.wait_model.proofs.StepLaws.UntouchedParts.{Ended, back_view, Moves, framed_or_spent, flag_framed_or_spent}
use Rattle.wait_model.proofs.Sameness.{same_head, same_counted, same_bit}
use Rattle.wait_model.specs.declared.steps.Step.TheVariants as step

-- what holds of a view with no walk, where the walk is over, and where it goes on holds after an unlock
pub unlocked : (P : View → Type 0) (v : View) (o : Option Walk) (sp : Bool)
    → P (record v { hold = no_hold; walk = None })
    → ((w : Walk) → P (record v {
      hold = no_hold;
      walk = None;
      duty = record (v.duty) { owes = λ c σ. v.duty.owes c σ && not (concerns w c σ) };
    }))
    → ((w : Walk) → P (record v { hold = no_hold; walk = paused v w v.mark })) → P (after_unlock v o sp)
unlocked P v None sp none over on = none
unlocked P v (Some w) sp none over on = by (sp || all_passed v w (λ _. false))
  where
    by : (b : Bool) → P (if b then record v {
      hold = no_hold;
      walk = None;
      duty = record (v.duty) { owes = λ c σ. v.duty.owes c σ && not (concerns w c σ) };
    } else record v { hold = no_hold; walk = paused v w v.mark })
    by true = over w
    by false = on w

-- an unlock changes no failed load
pub unlock_checks : (v : View) (o : Option Walk) (sp : Bool) → (after_unlock v o sp).checks ≡ v.checks
unlock_checks v o sp = unlocked (λ u. u.checks ≡ v.checks) v o sp refl (λ w. refl) (λ w. refl)

pub unlock_checked : (v : View) (o : Option Walk) (sp : Bool) (x : ℕ) (e : Entry) (on : Watch)
    → checked (after_unlock v o sp) x e on ≡ checked v x e on
unlock_checked v o sp x e on = ap (λ (k : Checks). if is_woken e.kind
    then (if k.flag_no x then k.low x on else None)
    else if is_page e.kind then (if k.tas_failed x on then Some 0 else None)
    else if is_done on then k.zero_failed x on else k.failed x on) (unlock_checks v o sp)

pub unlock_bits : (v : View) (o : Option Walk) (sp : Bool) → (after_unlock v o sp).bits ≡ v.bits
unlock_bits v o sp = unlocked (λ u. u.bits ≡ v.bits) v o sp refl (λ w. refl) (λ w. refl)

pub unlock_hold : (v : View) (o : Option Walk) (sp : Bool) → (after_unlock v o sp).hold ≡ no_hold
unlock_hold v o sp = unlocked (λ u. u.hold ≡ no_hold) v o sp refl (λ w. refl) (λ w. refl)

pub spent_rises : (sp : Bool) (n : ℕ) → n ≤ raised_spent sp n
spent_rises false n = omega arith
spent_rises true n = grind arith

pub spent_stays : (sp : Bool) (f : ℕ → ℕ) (h i m : ℕ) → (m < f i) ⊎ (f i ≡ 2 ^ 62 - 1)
    → (m < put f h (raised_spent sp (f h)) i) ⊎ (put f h (raised_spent sp (f h)) i ≡ 2 ^ 62 - 1)
spent_stays false f h i m k = grind arith
spent_stays true f h i m k = grind arith

pub spent_passes : (f : ℕ → ℕ) (h i m : ℕ) → i ≡ h → m ≤ f i → (m < put f h (raised_spent true (f h)) i)
    ⊎ (put f h (raised_spent true (f h)) i ≡ 2 ^ 62 - 1)
spent_passes f h i m e k = grind arith

pub ahead_paused : (v : View) (w : Walk) (mark : Option ℕ) (c : Watch) (σ p : ℕ)
    → (concerns w c σ ≡ true → (q : ℕ) → all_passed v w (λ i. nat_le q i) ≡ true → q ≤ p)
    → IsTrue (ahead (paused v w mark) false c σ p)
ahead_paused v w None c σ p h = refl
ahead_paused v w (Some q) c σ p h = grind (arith, h)

-- what the walker keeps of a cover at an unlock that does not spend; `si` is that the entry is simple, `g`
-- that this hold has called it
pub unlock_keeps_ahead : (v : View) (w : Walk) (si g : Bool) (c : Watch) (σ p : ℕ) (over : Bool)
    → all_passed v w (λ _. false) ≡ over
    → (same c w.watch ≡ true → (si || (nat_le w.from p && not g)) ≡ true → over ≡ false)
    → (same c w.watch ≡ true → si ≡ false → (nat_le w.from p && not g) ≡ true → (q : ℕ)
    → all_passed v w (λ i. nat_le q i) ≡ true → q ≤ p)
    → v.duty.owes c σ ≡ true
    → (si || ahead (Some w) g c σ p) ≡ true
    → ((after_unlock v (Some w) false).duty.owes c σ
    && (si || ahead (after_unlock v (Some w) false).walk false c σ p)) ≡ true
unlock_keeps_ahead v w si g c σ p true is whole part ow h = rw is (rw ow (grind arith))
unlock_keeps_ahead v w si g c σ p false is whole part ow h = rw is (rw ow (elim (bool_or si) [
  | inl q ↦ rw q refl
  | inr q ↦ rw q (ahead_paused v w v.mark c σ p (λ co. part (grind arith) q (grind arith)))
]))

pub unlock_cleared : (v : View) (o : Option Walk) (sp : Bool) (c : Watch) (x : ℕ)
    → (after_unlock v o sp).duty.cleared c x ≡ v.duty.cleared c x
unlock_cleared v None sp c x = refl
unlock_cleared v (Some w) sp c x = grind arith

pub unlock_gone : (v : View) (o : Option Walk) (sp : Bool) (x : ℕ) (e : Entry)
    → gone (after_unlock v o sp) x e ≡ false
unlock_gone v o sp x e = ap (λ (h : Hold). if is_woken e.kind then h.rung x else if is_page e.kind then h.moot
    else (h.called (owner x) || h.moot)) (unlock_hold v o sp) ∙ grind arith

pub unlock_flagged : (v : View) (o : Option Walk) (sp : Bool) (x : ℕ)
    → (after_unlock v o sp).hold.flagged x ≡ false
unlock_flagged v o sp x = ap (λ (h : Hold). h.flagged x) (unlock_hold v o sp)

-- in a hold with the walk w: the book does not show an entry that stands and is before the walk as passed
pub not_whole : (s : Table) (a h : ℕ) (w : Walk) (x : ℕ) (e : Entry) (stop : ℕ → Bool) → Facts s
    → (s.view a).hold.head ≡ Some h → (s.view a).walk ≡ Some w → s.entry x ≡ Some e
    → same e.watch w.watch ≡ true
    → (is_simple e.kind || (nat_le w.from e.place && (not (stop e.place) && not (gone (s.view a) x e)))) ≡
    true
    → all_passed (s.view a) w stop ≡ false
not_whole s a h w x e stop k al is st sa opn =
    let aim : head_of w.watch ≡ h = (k.views a).hold.aimed h w al is in
    let hd : head_of e.watch ≡ head_of w.watch = same_head e.watch w.watch sa in
    all_passed_not (s.view a) w stop x (k.named x e st)
    (passed_not w (s.view a) stop ((s.view a).hold.book x) x e (s.entry x) h ((k.views a).hold.agrees h x al)
    st (hd ∙ aim) sa opn)

pub unlock_spent : (v : View) (w : Walk) (si g : Bool) (c : Watch) (σ p : ℕ) → same c w.watch ≡ false
    → v.duty.owes c σ ≡ true
    → ((after_unlock v (Some w) true).duty.owes c σ
    && (si || ahead (after_unlock v (Some w) true).walk false c σ p)) ≡ true
unlock_spent v w si g c σ p sa ow = grind arith

-- what the walker keeps of a cover, at any unlock
pub unlock_keeps : (s : Table) (a h : ℕ) (sp : Bool) (x : ℕ) (e : Entry) (m σ : ℕ) (si g : Bool)
    (o : Option Walk) → Facts s → (s.view a).hold.head ≡ Some h → s.entry x ≡ Some e
    → m ≤ s.spent (head_of e.watch)
    → (s.view a).walk ≡ o → MaySpend (s.view a) sp
    → (si ≡ true → is_simple e.kind ≡ true) → (g ≡ false → gone (s.view a) x e ≡ false)
    → (s.view a).duty.owes e.watch σ ≡ true
    → (si || ahead o g e.watch σ e.place) ≡ true
    → (((after_unlock (s.view a) o sp).duty.owes e.watch σ
    && (si || ahead (after_unlock (s.view a) o sp).walk false e.watch σ e.place)) ≡ true)
    ⊎ (Spent (next s a (step.Unlock h sp)) e m ⊎ Ended s a (step.Unlock h sp) e)
unlock_keeps s a h sp x e m σ si g None k al st le is may sis gs ow ah = inl (rw ow (grind arith))
unlock_keeps s a h true x e m σ si g (Some w) k al st le is may sis gs ow ah =
    elim (bool_or (same e.watch w.watch)) [
      | inl q ↦ let aim : head_of w.watch ≡ h = (k.views a).hold.aimed h w al is in elim (may w is refl) [
        | inl co ↦ inr (inl (
          same_counted e.watch w.watch q co,
          spent_passes s.spent h (head_of e.watch) m (same_head e.watch w.watch q ∙ aim) le,
        ))
        | inr pi ↦ inr (inr (w, al, is, pi.0, pi.1, q))
      ]
      | inr q ↦ inl (unlock_spent (s.view a) w si g e.watch σ e.place q ow)
    ]
unlock_keeps s a h false x e m σ si g (Some w) k al st le is may sis gs ow ah =
    inl (unlock_keeps_ahead (s.view a) w si g e.watch σ e.place (all_passed (s.view a) w (λ _. false)) refl
    (λ sa opn. not_whole s a h w x e (λ _. false) k al is st sa
    (widen si (is_simple e.kind) g (gone (s.view a) x e) w.from e.place sis gs opn))
    (λ sa si_no opn q all. stops q sa opn all (nat_le q e.place) refl)
    ow ah)
  where
    widen : (si si2 g g2 : Bool) (f p : ℕ) → (si ≡ true → si2 ≡ true) → (g ≡ false → g2 ≡ false)
        → (si || (nat_le f p && not g)) ≡ true → (si2 || (nat_le f p && (not false && not g2))) ≡ true
    widen si si2 g g2 f p u v w = grind arith

    narrow : (si2 st g g2 : Bool) (f p : ℕ) → (g ≡ false → g2 ≡ false) → st ≡ false
        → (nat_le f p && not g) ≡ true → (si2 || (nat_le f p && (not st && not g2))) ≡ true
    narrow si2 st g g2 f p v z w = grind arith

    stops : (q : ℕ) → same e.watch w.watch ≡ true → (nat_le w.from e.place && not g) ≡ true
        → all_passed (s.view a) w (λ i. nat_le q i) ≡ true → (b : Bool) → nat_le q e.place ≡ b → q ≤ e.place
    stops q sa opn all true t = grind arith
    stops q sa opn all false t =
        let f : all_passed (s.view a) w (λ i. nat_le q i) ≡ false =
        not_whole s a h w x e (λ i. nat_le q i) k al is st sa
        (narrow (is_simple e.kind) (nat_le q e.place) g (gone (s.view a) x e) w.from e.place gs t opn)
        in absurd (cc)

pub join_covers : (v v2 : View) (x : ℕ) (e : Entry) (σ : ℕ)
    → v2.duty.cleared e.watch x ≡ v.duty.cleared e.watch x → gone v2 x e ≡ false → IsTrue (covers v x e σ)
    → (v2.duty.owes e.watch σ && (is_simple e.kind || ahead v2.walk false e.watch σ e.place)) ≡ true
    → IsTrue (covers v2 x e σ)
join_covers v v2 x e σ cl gn h k =
    rw (cl, gn) (by (v.duty.owes e.watch σ) (v2.duty.owes e.watch σ) (v.duty.cleared e.watch x)
    (is_simple e.kind || ahead v.walk (gone v x e) e.watch σ e.place) (is_simple e.kind
    || ahead v2.walk false e.watch σ e.place) h k)
  where
    by : (ow ow2 cl ah ah2 : Bool) → (ow && (not cl && ah)) ≡ true → (ow2 && ah2) ≡ true
        → (ow2 && (not cl && ah2)) ≡ true
    by ow ow2 cl ah ah2 h k = grind arith

pub join_warns : (v v2 : View) (x : ℕ) (e : Entry) (σ : ℕ)
    → v2.duty.cleared e.watch x ≡ v.duty.cleared e.watch x → v2.hold.flagged x ≡ false
    → IsTrue (warns v x e σ)
    → (v2.duty.owes e.watch σ && (false || ahead v2.walk false e.watch σ e.place)) ≡ true
    → IsTrue (warns v2 x e σ)
join_warns v v2 x e σ cl gn h k =
    rw (cl, gn) (by (v.duty.owes e.watch σ) (v2.duty.owes e.watch σ) (v.duty.cleared e.watch x)
    (ahead v.walk (v.hold.flagged x) e.watch σ e.place) (ahead v2.walk false e.watch σ e.place) h k)
  where
    by : (ow ow2 cl ah ah2 : Bool) → (ow && (not cl && ah)) ≡ true → (ow2 && (false || ah2)) ≡ true
        → (ow2 && (not cl && ah2)) ≡ true
    by ow ow2 cl ah ah2 h k = grind arith

pub checked_low : (s : Table) (x : ℕ) (e : Entry) (on : Watch) (m : ℕ) → Facts s → same on e.watch ≡ true
    → checked (s.view (owner x)) x e on ≡ Some m → m ≤ s.spent (head_of e.watch)
checked_low s x e on m k sa h = subst (λ (i : ℕ). m ≤ s.spent i) (same_head on e.watch sa)
    (by_kind (is_woken e.kind) (is_page e.kind) ((s.view (owner x)).checks.flag_no x)
    ((s.view (owner x)).checks.tas_failed x on) h)
  where
    by_done : (b : Bool) → cond b ((s.view (owner x)).checks.zero_failed x on)
        ((s.view (owner x)).checks.failed x on) ≡ Some m → m ≤ s.spent (head_of on)
    by_done true h = (k.views (owner x)).checks.zero_failed x on m h
    by_done false h = (k.views (owner x)).checks.failed x on m h

    by_kind : (b p f t : Bool) → cond b (cond f ((s.view (owner x)).checks.low x on) None)
        (cond p (cond t (Some 0) None) (cond (is_done on) ((s.view (owner x)).checks.zero_failed x on)
        ((s.view (owner x)).checks.failed x on))) ≡ Some m → m ≤ s.spent (head_of on)
    by_kind true p true t h = (k.views (owner x)).checks.low x on m h
    by_kind true p false t h = absurd (cc)
    by_kind false true f true h = let z : 0 ≡ m = cc in omega arith
    by_kind false true f false h = absurd (cc)
    by_kind false false f t h = by_done (is_done on) h

pub unlock_moves : (s : Table) (a h : ℕ) (sp : Bool) → Kept s → Allowed s a (step.Unlock h sp)
    → Moves s a (step.Unlock h sp)
unlock_moves s a h sp k al x e on m σ z =
    let old : Waits s x e on m σ = back_waits s a (step.Unlock h sp) x e on m σ
    (λ q. sym (unlock_checked (s.view a) (s.view a).walk sp x e on) ∙ q) (λ q. q) (λ _ q. q) (λ q. q) z in
    framed_or_spent s a (step.Unlock h sp) x e on m σ old
    (λ q. (q.0, spent_stays sp s.spent h (head_of e.watch) m q.1))
    (λ q. elim (unlock_keeps s a h sp x e m σ (is_simple e.kind) (gone (s.view a) x e)
    (s.view a).walk k.facts al.0 old.stands (checked_low s x e on m k.facts old.watches old.failed) refl
    al.1 (λ i. i) (λ i. i) (left q) (right q)) [
      | inl r ↦ inl (join_covers (s.view a) (after_unlock (s.view a) (s.view a).walk sp) x e
          σ (unlock_cleared (s.view a) (s.view a).walk sp e.watch x)
          (unlock_gone (s.view a) (s.view a).walk sp x e) q r)
      | inr r ↦ inr r
    ])
  where
    left : IsTrue (covers (s.view a) x e σ) → (s.view a).duty.owes e.watch σ ≡ true
    left q = grind arith

    right : IsTrue (covers (s.view a) x e σ)
        → (is_simple e.kind || ahead (s.view a).walk (gone (s.view a) x e) e.watch σ e.place) ≡ true
    right q = by ((s.view a).duty.owes e.watch σ) ((s.view a).duty.cleared e.watch x)
        (is_simple e.kind || ahead (s.view a).walk (gone (s.view a) x e) e.watch σ e.place) q
      where
        by : (ow cl ah : Bool) → (ow && (not cl && ah)) ≡ true → ah ≡ true
        by ow cl ah h = grind arith

pub unlock_flags : (s : Table) (a h : ℕ) (sp : Bool) → Kept s → Allowed s a (step.Unlock h sp)
    → NoLostFlag (next s a (step.Unlock h sp))
unlock_flags s a h sp k al x e on m z =
    let low : (s.view (owner x)).checks.low x on ≡ Some m =
    back_view s a (after_unlock (s.view a) (s.view a).walk sp) (λ v. v.checks.low x on ≡ Some m)
    (λ q. sym (ap (λ (k : Checks). k.low x on) (unlock_checks (s.view a) (s.view a).walk sp))
    ∙ q) (owner x) z.low in
    flag_framed_or_spent s a (step.Unlock h sp) x e on m k.no_lost_flag
    (record {
      stands = z.stands;
      watches = z.watches;
      kind = z.kind;
      quiet = z.quiet;
      is_set = z.is_set;
      low = low;
    })
    (λ q. (q.0, spent_stays sp s.spent h (head_of e.watch) m q.1))
    (λ σ q. elim (unlock_keeps s a h sp x e m σ false ((s.view a).hold.flagged x) (s.view a).walk k.facts al.0
    z.stands (subst (λ (i : ℕ). m ≤ s.spent i) (same_head on e.watch z.watches)
    ((k.facts.views (owner x)).checks.low x on m low)) refl al.1 (λ i. absurd (cc)) not_rung (left σ q)
    (right σ q)) [
      | inl r ↦ inl (join_warns (s.view a) (after_unlock (s.view a) (s.view a).walk sp) x e σ
          (unlock_cleared (s.view a) (s.view a).walk sp e.watch x)
          (unlock_flagged (s.view a) (s.view a).walk sp x) q r)
      | inr r ↦ elim r [ inl t ↦ inr t | inr t ↦ absurd (ended_bit sp t) ]
    ])
  where
    not_rung : (s.view a).hold.flagged x ≡ false → gone (s.view a) x e ≡ false
    not_rung f = let ru : (s.view a).hold.rung x ≡ true → (s.view a).hold.flagged x ≡ true =
        (k.facts.views a).rung x in let wo : is_woken e.kind ≡ true = z.kind in grind arith

    ended_bit : (sp : Bool) → Ended s a (step.Unlock h sp) e → ⊥
    ended_bit false t = t
    ended_bit true t = let b : is_bit e.watch ≡ true = same_bit e.watch t.0.watch t.5 t.3
        in let wo : is_woken e.kind ≡ true = z.kind in let nw : is_woken e.kind ≡ false =
        (k.facts.suits x e z.stands).1 b in absurd (cc)

    left : (σ : ℕ) → IsTrue (warns (s.view a) x e σ) → (s.view a).duty.owes e.watch σ ≡ true
    left σ q = grind arith

    right : (σ : ℕ) → IsTrue (warns (s.view a) x e σ)
        → (false || ahead (s.view a).walk ((s.view a).hold.flagged x) e.watch σ e.place) ≡ true
    right σ q = by ((s.view a).duty.owes e.watch σ) ((s.view a).duty.cleared e.watch x)
        (ahead (s.view a).walk ((s.view a).hold.flagged x) e.watch σ e.place) q
      where
        by : (ow cl ah : Bool) → (ow && (not cl && ah)) ≡ true → (false || ah) ≡ true
        by ow cl ah h = grind arith
