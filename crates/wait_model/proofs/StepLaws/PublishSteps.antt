-- A publish: the publisher owes the watch and covers every entry.
use Rattle.std.proofs.Common.{refl, sym, ◌∙◌, arith, inl, inr}
use Rattle.std.specs.Prelude.{ℕ, ◌≡◌, ◌⊎◌, Option, Some, None, Bool, true, false, not, ◌&&◌, ◌||◌, IsTrue}
use Rattle.wait_model.specs.{declared.watches.Watch.Watch, declared.watches.Entry.Entry, Fold.begun_anew, Fold.after}
use Rattle.wait_model.specs.{Tables.Table, Tables.next, Laws.NoLostFlag, Rows.MayPublish}
use Rattle.wait_model.specs.Views.{Walk, View, gone, ahead, covers, warns}
use Rattle.wait_model.specs.Watches.{same, is_bit, is_simple, owner}
use Rattle.wait_model.proofs.{StepLaws.QuietSteps.back_waits, Sameness.publish_other, Sameness.same_trans}
use Rattle.wait_model.proofs.Functions.{bool_or}
use Rattle.wait_model.proofs.StepLaws.UntouchedParts.{back_view, Moves, framed, flag_framed, own_view}
use Rattle.wait_model.specs.declared.watches.Watch.TheVariants as watch
use Rattle.wait_model.specs.declared.steps.Step.TheVariants as step

pub ahead_again : (o : Option Walk) (c : Watch) (σ p : ℕ) → IsTrue (ahead (begun_anew o) false c σ p)
ahead_again None c σ p = refl
ahead_again (Some w) c σ p = grind arith

pub gone_published : (v : View) (c : Watch) (n r x : ℕ) (e : Entry)
    → gone (after (step.Publish c n r) v) x e ≡ false
gone_published v c n r x e = grind arith

-- where the publisher owes the watch, it covers each entry that it covered, and for its own watch every entry
pub covers_published : (v : View) (c : Watch) (n r x : ℕ) (e : Entry) (σ : ℕ) → (same e.watch c ≡ true)
    ⊎ IsTrue (covers v x e σ) → IsTrue (covers (after (step.Publish c n r) v) x e σ)
covers_published v c n r x e σ h =
    rw gone_published (by (same e.watch c) (v.duty.owes e.watch σ) (v.duty.cleared e.watch x)
    (is_simple e.kind) (ahead v.walk (gone v x e) e.watch σ e.place)
    (ahead (begun_anew v.walk) false e.watch σ e.place) (ahead_again v.walk e.watch σ e.place) h)
  where
    by : (sa ow cl si ah ah2 : Bool) → ah2 ≡ true → (sa ≡ true) ⊎ ((ow && (not cl && (si || ah))) ≡ true)
        → ((sa || ow) && (not (not sa && cl) && (si || ah2))) ≡ true
    by sa ow cl si ah ah2 k h = grind arith

pub warns_published : (v : View) (c : Watch) (n r x : ℕ) (e : Entry) (σ : ℕ) → (same e.watch c ≡ true)
    ⊎ IsTrue (warns v x e σ) → IsTrue (warns (after (step.Publish c n r) v) x e σ)
warns_published v c n r x e σ h =
    by (same e.watch c) (v.duty.owes e.watch σ) (v.duty.cleared e.watch x)
    (ahead v.walk (v.hold.flagged x) e.watch σ e.place) (ahead (begun_anew v.walk) false e.watch σ e.place)
    (ahead_again v.walk e.watch σ e.place) h
  where
    by : (sa ow cl ah ah2 : Bool) → ah2 ≡ true → (sa ≡ true) ⊎ ((ow && (not cl && ah)) ≡ true)
        → ((sa || ow) && (not (not sa && cl) && ah2)) ≡ true
    by sa ow cl ah ah2 k h = grind arith

pub bit_free : (v : View) (c d : Watch) → same d c ≡ true → is_bit d ≡ true → MayPublish v c
    → v.hold.head ≡ None
bit_free v (watch.Bit w b) (watch.Bit u a) sa i al = al
bit_free v (watch.Plain c) (watch.Bit u a) sa i al = al
bit_free v (watch.Var c o) (watch.Bit u a) sa i al = al
bit_free v (watch.Done c) (watch.Bit u a) sa i al = absurd (cc)
bit_free v c (watch.Plain d) sa i al = absurd (cc)
bit_free v c (watch.Done d) sa i al = absurd (cc)
bit_free v c (watch.Var d o) sa i al = absurd (cc)

pub publish_moves : (s : Table) (a : ℕ) (c : Watch) (n r : ℕ) → MayPublish (s.view a) c
    → Moves s a (step.Publish c n r)
publish_moves s a c n r al x e on m σ z = elim (bool_or (same e.watch c)) [
  | inl h ↦ inr (inl (covers_published (s.view a) c n r x e σ (inl h), λ i. bit_free (s.view a) c e.watch h i al))
  | inr h ↦ framed s a (step.Publish c n r) x e on m σ
      (back_waits s a (step.Publish c n r) x e on m σ (λ q. q) (λ q. q) (λ _ q. q)
      (λ q. sym (publish_other s.words on c n (sym (same_trans on e.watch c z.watches) ∙ h)) ∙ q) z)
      (λ q. q)
      (λ q. covers_published (s.view a) c n r x e σ (inr q))
]

pub publish_flags : (s : Table) (a : ℕ) (c : Watch) (n r : ℕ) → NoLostFlag s
    → NoLostFlag (next s a (step.Publish c n r))
publish_flags s a c n r law x e on m z = elim (bool_or (same e.watch c)) [
  | inl h ↦ λ σ. inl (
    a,
    own_view s a (after (step.Publish c n r) (s.view a)) (λ v. IsTrue (warns v x e σ))
        (warns_published (s.view a) c n r x e σ (inl h)),
  )
  | inr h ↦ flag_framed s a (step.Publish c n r) x e on m law
      (record {
        stands = z.stands;
        watches = z.watches;
        kind = z.kind;
        quiet = z.quiet;
        is_set = sym (publish_other s.words on c n (sym (same_trans on e.watch c z.watches) ∙ h)) ∙ z.is_set;
        low = back_view s a (after (step.Publish c n r) (s.view a)) (λ v. v.checks.low x on ≡ Some m) (λ q. q)
            (owner x) z.low;
      }) (λ q. q)
      (λ σ q. warns_published (s.view a) c n r x e σ (inr q))
]
