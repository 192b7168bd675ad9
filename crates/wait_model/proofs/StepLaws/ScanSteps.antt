-- A load of a member word without the lock: where it clears an entry that stands at the head, the owner has not tested
-- a watch yet, or it covers the entry itself.
use Rattle.std.proofs.Common.{refl, ap, arith, inl, inr}
use Rattle.std.specs.Prelude.{ℕ, ◌≡◌, ◌<◌, ◌⊎◌, Option, Some, None, Bool, true, false, not, ◌&&◌, ◌||◌, IsTrue, ◌==◌}
use Rattle.std.specs.Prelude.{if◌then◌else◌}
use Rattle.wait_model.specs.{declared.layout.TheConstants.ENTRIES, declared.watches.Watch.Watch}
use Rattle.wait_model.specs.{declared.watches.Entry.Entry, Fold.scanned, Fold.after, Rows.Allowed, Rows.IsUntested}
use Rattle.wait_model.specs.Facts.{Facts, OfView, BitFacts}
use Rattle.wait_model.specs.Views.{View, checked, gone, ahead, covers, warns, all_cleared}
use Rattle.wait_model.specs.Watches.{head_of, is_bit, is_done, is_simple, is_woken, is_page, owner, part_of}
use Rattle.wait_model.specs.Tables.{Table, Words, next}
use Rattle.wait_model.specs.Laws.{Waits, Unheard, Spent, NoLostFlag}
use Rattle.wait_model.proofs.{StepLaws.QuietSteps.back_waits, StepLaws.FlagSteps.back_unheard}
use Rattle.wait_model.proofs.{StepLaws.StoreSteps.zero_covers, BitLaws.BitRecords.BitStep}
use Rattle.wait_model.proofs.{BitLaws.BitRecords.quiet_bits, Functions.bool_or, Functions.put_at, Sameness.same_bit}
use Rattle.wait_model.proofs.{Sameness.not_both, StepLaws.PastEntries.all_cleared_not}
use Rattle.wait_model.proofs.StepLaws.UntouchedParts.{Moves, Outcome, framed, flag_framed}
use Rattle.wait_model.specs.declared.steps.Step.TheVariants as step

-- the load finds no bit in the word of the entry's index, at its head
clears : ℕ → ℕ → ℕ → ℕ → Entry → Bool
clears h i w x e = (head_of e.watch == h) && ((w == 0) && (part_of x == i))

-- an entry that it does not clear stays as it was
uncleared_still : (cleared : Watch → ℕ → Bool) (h i w x : ℕ) (e : Entry) → clears h i w x e ≡ false
    → cleared e.watch x ≡ false → scanned cleared h i w e.watch x ≡ false
unfolding clears
uncleared_still cleared h i w x e kept old =
    by (head_of e.watch == h) (w == 0) (part_of x == i) (cleared e.watch x) kept old
  where
    by : (at clear has old : Bool) → (at && (clear && has)) ≡ false → old ≡ false
        → (if at then (if clear then old || has else false) else old) ≡ false
    by at clear has old p q = grind arith

-- one that it clears is untested
cleared_untested : (s : Table) (a h i w x : ℕ) (e : Entry) → Allowed s a (step.Scan h i w) → s.entry x ≡ Some e
    → clears h i w x e ≡ true → (head_of e.watch ≡ h) × IsUntested (s.view (owner x)) h x
unfolding clears
cleared_untested s a h i w x e al st is =
    let hd : head_of e.watch ≡ h = grind arith in
    let zr : w ≡ 0 = grind arith in
    let pt : part_of x ≡ i = grind arith in
    (hd, al.1 zr x e pt st hd)

still : (ow cl cl2 all ah : Bool) → cl2 ≡ false → all ≡ false → (ow && (not cl && ah)) ≡ true
    → ((ow && not all) && (not cl2 && ah)) ≡ true
still ow cl cl2 all ah p q h = grind arith

cleared_not : (ow cl ah : Bool) → (ow && (not cl && ah)) ≡ true → cl ≡ false
cleared_not ow cl ah h = grind arith

covers_scanned : (v : View) (h i w x : ℕ) (e : Entry) (σ : ℕ) → x < ENTRIES → clears h i w x e ≡ false
    → IsTrue (covers v x e σ) → IsTrue (covers (after (step.Scan h i w) v) x e σ)
covers_scanned v h i w x e σ lt kept cov =
    let cl : v.duty.cleared e.watch x ≡ false = cleared_not (v.duty.owes e.watch σ) (v.duty.cleared e.watch x)
    (is_simple e.kind || ahead v.walk (gone v x e) e.watch σ e.place) cov in
    let cl2 : scanned v.duty.cleared h i w e.watch x ≡ false = uncleared_still v.duty.cleared h i w x e kept cl in
    still (v.duty.owes e.watch σ) (v.duty.cleared e.watch x) (scanned v.duty.cleared h i w e.watch x)
    (all_cleared (scanned v.duty.cleared h i w e.watch))
    (is_simple e.kind || ahead v.walk (gone v x e) e.watch σ e.place) cl2
    (all_cleared_not (scanned v.duty.cleared h i w e.watch) x lt cl2) cov

warns_scanned : (v : View) (h i w x : ℕ) (e : Entry) (σ : ℕ) → x < ENTRIES → clears h i w x e ≡ false
    → IsTrue (warns v x e σ) → IsTrue (warns (after (step.Scan h i w) v) x e σ)
warns_scanned v h i w x e σ lt kept cov =
    let cl : v.duty.cleared e.watch x ≡ false = cleared_not (v.duty.owes e.watch σ) (v.duty.cleared e.watch x)
    (ahead v.walk (v.hold.flagged x) e.watch σ e.place) cov in
    let cl2 : scanned v.duty.cleared h i w e.watch x ≡ false = uncleared_still v.duty.cleared h i w x e kept cl in
    still (v.duty.owes e.watch σ) (v.duty.cleared e.watch x) (scanned v.duty.cleared h i w e.watch x)
    (all_cleared (scanned v.duty.cleared h i w e.watch))
    (ahead v.walk (v.hold.flagged x) e.watch σ e.place) cl2
    (all_cleared_not (scanned v.duty.cleared h i w e.watch) x lt cl2) cov

-- a failed load of an untested entry is of a done count, found 0 in the hold in which the owner still is
untested_zero : (v : View) (h x : ℕ) (e : Entry) (on : Watch) (m : ℕ) → IsUntested v h x → checked v x e on ≡ Some m
    → (is_done on ≡ true) × (v.hold.prepared ≡ true) × (v.checks.zero_failed x on ≡ Some m)
untested_zero v h x e on m u ch =
    by (is_woken e.kind) (v.checks.flag_no x) (is_page e.kind) (v.checks.tas_failed x on) (is_done on)
    (u.tas_failed on) ch
  where
    prepared : v.checks.zero_failed x on ≡ Some m → (v.hold.prepared ≡ true) ⊎ ((c : Watch)
        → v.checks.zero_failed x c ≡ None) → v.hold.prepared ≡ true
    prepared z (inl p) = p
    prepared z (inr n) = absurd (let q : v.checks.zero_failed x on ≡ None = n on in cc)

    by : (wo fl pa ta dn : Bool) → ta ≡ false
        → (if wo then (if fl then v.checks.low x on else None)
        else if pa then (if ta then Some 0 else None)
        else if dn then v.checks.zero_failed x on else v.checks.failed x on) ≡ Some m
        → (dn ≡ true) × (v.hold.prepared ≡ true) × (v.checks.zero_failed x on ≡ Some m)
    by true true pa ta dn free q = absurd (let z : v.checks.low x on ≡ None = u.low on in cc)
    by true false pa ta dn free q = absurd (cc)
    by false fl true ta dn free q = grind arith
    by false fl false ta true free q = (refl, prepared q u.zero_failed, q)
    by false fl false ta false free q = absurd (let z : v.checks.failed x on ≡ None = u.failed on in cc)

pub scan_moves : (s : Table) (a h i w : ℕ) → Facts s → Allowed s a (step.Scan h i w)
    → Moves s a (step.Scan h i w)
scan_moves s a h i w k al x e on m σ z =
    by (back_waits s a (step.Scan h i w) x e on m σ (λ q. q) (λ q. q) (λ _ q. q) (λ q. q) z)
    (bool_or (clears h i w x e))
  where
    by : Waits s x e on m σ → (clears h i w x e ≡ true) ⊎ (clears h i w x e ≡ false)
        → Outcome s a (step.Scan h i w) x e on m σ
    by old (inr kept) = framed s a (step.Scan h i w) x e on m σ old (λ q. q)
        (covers_scanned (s.view a) h i w x e σ (k.named x e old.stands) kept)
    by old (inl is) =
        let u = cleared_untested s a h i w x e al old.stands is in
        let d = untested_zero (s.view (owner x)) h x e on m u.1 old.failed in
        let zero : (s.view (owner x)).hold.zero on ≡ Some m = (k.views (owner x)).zero.here x on m d.1 d.2 in
        let cov : IsTrue (covers (s.view (owner x)) x e σ) =
        zero_covers s (owner x) x e on m σ k old.stands old.watches d.0 zero old.is_set in
        inr (inr (
          no_bit d.0,
          inl (
            owner x,
            put_at (λ (v : View). IsTrue (covers v x e σ)) s.view a
                (after (step.Scan h i w) (s.view a)) (owner x) (λ q. absurd (apart u.1 q)) (λ _. cov),
          ),
        ))
      where
        -- the looker holds nothing
        apart : IsUntested (s.view (owner x)) h x → owner x ≡ a → ⊥
        apart u q = let none : (s.view a).hold.head ≡ None = al.0
            in let some : (s.view (owner x)).hold.head ≡ Some h = u.held
            in let eq : (s.view (owner x)).hold.head ≡ (s.view a).hold.head =
            ap (λ (b : ℕ). (s.view b).hold.head) q in cc

        no_bit : is_done on ≡ true → is_bit e.watch ≡ false
        no_bit d = elim (bool_or (is_bit e.watch)) [
          | inl b ↦ absurd (not_both on d (same_bit on e.watch old.watches b))
          | inr b ↦ b
        ]

pub scan_flags : (s : Table) (a h i w : ℕ) → Facts s → NoLostFlag s → Allowed s a (step.Scan h i w)
    → NoLostFlag (next s a (step.Scan h i w))
scan_flags s a h i w k law al x e on m z =
    by (back_unheard s a (step.Scan h i w) x e on m (λ q. q) (λ q. q) (λ q. q) (λ q. q) z)
    (bool_or (clears h i w x e))
  where
    by : Unheard s x e on m → (clears h i w x e ≡ true) ⊎ (clears h i w x e ≡ false) → (σ : ℕ)
        → ((d : ℕ) × IsTrue (warns ((next s a (step.Scan h i w)).view d) x e σ))
        ⊎ Spent (next s a (step.Scan h i w)) e m
    by old (inr kept) = flag_framed s a (step.Scan h i w) x e on m law old (λ q. q)
        (λ σ. warns_scanned (s.view a) h i w x e σ (k.named x e old.stands) kept)
    by old (inl is) = absurd (let u = cleared_untested s a h i w x e al old.stands is
        in let z : (s.view (owner x)).checks.low x on ≡ None = u.1.low on
        in let some : (s.view (owner x)).checks.low x on ≡ Some m = old.low in cc)

pub scan_bits : (s : Table) (a h i w : ℕ) → BitFacts s → BitStep s a (step.Scan h i w)
scan_bits s a h i w k = quiet_bits s a (step.Scan h i w) k refl refl refl refl refl refl (λ x e o q h. h) refl
    (λ b d. d)

pub of_scan : (holder : ℕ → Bool) (entry : ℕ → Option Entry) (spent : ℕ → ℕ) (words : Words) (v : View)
    → OfView holder entry spent words v → (h i w : ℕ) → v.hold.head ≡ None
    → OfView holder entry spent words (after (step.Scan h i w) v)
of_scan holder entry spent words v o h i w none = record {
  hold = record {
    held = o.hold.held;
    agrees = o.hold.agrees;
    aimed = o.hold.aimed;
    uncleared = λ g e. absurd (cc);
  };
  rung = o.rung;
  checks = o.checks;
  zero = record {
    low = o.zero.low;
    held = o.zero.held;
    here = o.zero.here;
    owing = λ c n co ze. absurd (let q : v.hold.head ≡ Some (head_of c) = o.zero.held c n ze in cc);
  };
  bits = record { kept = o.bits.kept; seen = λ g x e. absurd (cc) };
}
