-- The entry that a walk for a bit selects is taken off.
use Rattle.std.proofs.Common.{refl, sym, ◌∙◌, ap, subst, arith, inl, inr}
use Rattle.std.specs.Prelude.{ℕ, ◌≡◌, ◌≢◌, ◌⊎◌, Option, Some, None, Bool, true, false, not, ◌||◌, IsTrue}
use Rattle.wait_model.specs.{declared.watches.Watch.Watch, declared.watches.Entry.Entry, Facts.Agrees, Facts.Kept}
use Rattle.wait_model.specs.{Tables.Table, Tables.next, Functions.put, Rows.Allowed}
use Rattle.wait_model.specs.Views.{Look, unseen, off, elsewhere, shown, Walk, View, covers, is_trying_for}
use Rattle.wait_model.specs.Fold.{is_off, picks, after}
use Rattle.wait_model.specs.Watches.{same, is_bit, owner, is_page}
use Rattle.wait_model.specs.Laws.{Waits, Tried, Others}
use Rattle.wait_model.proofs.{StepLaws.QuietSteps.back_waits, Sameness.same_bit, Sameness.same_bit_is, Functions.put_at}
use Rattle.wait_model.proofs.BitLaws.BitRecords.{BitStep}
use Rattle.wait_model.specs.declared.watches.Watch.TheVariants as watch
use Rattle.wait_model.specs.declared.steps.Step.TheVariants as step

pub picks_true : (g : Walk) (l : Look) (rou mine : Bool) → picks (Some g) l rou mine ≡ true → (d : Entry)
    × (l ≡ shown d) × (d.exclusive ≡ true) × (same d.watch g.watch ≡ true) × (rou ≡ true) × (mine ≡ false)
    × (is_page d.kind ≡ false)
picks_true g (shown d) rou mine h = (
  d,
  refl,
  grind arith,
  grind arith,
  grind arith,
  grind arith,
  grind arith,
)
picks_true g unseen rou mine h = absurd (cc)
picks_true g off rou mine h = absurd (cc)
picks_true g elsewhere rou mine h = absurd (cc)

pub same_refl_at : (c d e : Watch) → is_bit c ≡ true → same c e ≡ true → is_bit d ≡ true → same d e ≡ true
    → same c d ≡ true
same_refl_at c d e i p j q = let x : c ≡ e = same_bit_is c e i p in let y : d ≡ e = same_bit_is d e j q
    in subst (λ (g : Watch). same c g ≡ true) (x ∙ sym y) (self c i)
  where
    self : (c : Watch) → is_bit c ≡ true → same c c ≡ true
    self (watch.Bit w b) i = grind arith
    self (watch.Plain c) i = absurd (cc)
    self (watch.Done c) i = absurd (cc)
    self (watch.Var v o) i = absurd (cc)

-- the walker takes off the entry that it selects: from here on that entry's task is trying the bit, or
-- another covers
pub picked_tries : (s : Table) (a y h : ℕ) (g : Walk) (x : ℕ) (e : Entry) (on : Watch) (m σ : ℕ) (d : Entry)
    → Kept s → (s.view a).hold.head ≡ Some h → (s.view a).walk ≡ Some g → is_bit g.watch ≡ true
    → is_bit e.watch ≡ true
    → Waits (next s a (step.Unqueue y)) x e on m σ → same e.watch g.watch ≡ true
    → (s.view a).hold.book y ≡ shown d → d.exclusive ≡ true → same d.watch g.watch ≡ true
    → is_bit d.watch ≡ true → (s.view a).hold.roused (owner y) ≡ true
    → not (is_off ((s.view a).bits.stored y)) ≡ false → is_page d.kind ≡ false
    → Others (next s a (step.Unqueue y)) a x e σ ⊎ Tried (next s a (step.Unqueue y)) e.watch
picked_tries s a y h g x e on m σ d k hold walk bi bite z sa bk ex sd bd ro mine np =
    elim (k.bits.roused a (owner y) h g x e on m σ hold walk bi ro
    (back_waits s a (step.Unqueue y) x e on m σ (λ q. q) (λ q. grind arith) (λ _ q. q) (λ q. q) z) sa) [
      | inl gt ↦ inr (
        owner y,
        (
          bite,
          put_at (λ (v : View). v.bits.got e.watch ≡ false) s.view a (after (step.Unqueue y) (s.view a))
              (owner y) (λ q. absurd (ne q)) (λ _. gt),
          inr (
            y,
            refl,
            put_at (λ (v : View). is_trying_for (v.bits.stored y) e.watch ≡ true) s.view a
                (after (step.Unqueue y) (s.view a)) (owner y) (λ q. absurd (ne q)) (λ _. tri),
            put_at (λ o. o ≡ None) s.entry y None y (λ _. refl) (λ n. absurd (n refl)),
          ),
        ),
      )
      | inr o ↦ inl (
        o.0,
        o.1,
        put_at (λ (v : View). IsTrue (covers v x e σ)) s.view a
            (after (step.Unqueue y) (s.view a)) o.0 (λ q. absurd (o.1 q)) (λ _. o.2),
      )
    ]
  where
    stands : s.entry y ≡ Some d
    stands = (subst (λ l. Agrees h l (s.entry y)) bk ((k.facts.views a).hold.agrees h y hold)).0

    is : (s.view (owner y)).bits.stored y ≡ Some d
    is = k.bits.stored_is y d stands

    ne : owner y ≢ a
    ne q = let st : (s.view a).bits.stored y ≡ Some d = subst (λ (i : ℕ). (s.view i).bits.stored y ≡ Some d) q
        is in let o : is_off ((s.view a).bits.stored y) ≡ false = ap is_off st
        in absurd (let t : not (is_off ((s.view a).bits.stored y)) ≡ true = ap not o in cc)

    tri : is_trying_for ((s.view (owner y)).bits.stored y) e.watch ≡ true
    tri = subst (λ (o : Option Entry). is_trying_for o e.watch ≡ true) (sym is)
        (let sm : same e.watch d.watch ≡ true = same_refl_at e.watch d.watch g.watch bite sa bd sd
        in grind arith)

pub unqueue_bits : (s : Table) (a y : ℕ) → Kept s → Allowed s a (step.Unqueue y)
    → BitStep s a (step.Unqueue y)
unqueue_bits s a y k al = record {
  holds = λ h w p q r. (w, p, q, refl);
  pick = λ h g x e on m σ p q r z sa bi. two h g x e on m σ p q z sa bi
      (picks (s.view a).walk ((s.view a).hold.book y) ((s.view a).hold.roused (owner y))
      (not (is_off ((s.view a).bits.stored y)))) refl r;
  rouse = λ u c i m r. inl r;
  gots = λ c i m g. g;
  keepers = λ c i h. inl h;
  got_keeps = λ c i g d. k.bits.got_keeps a c i g d;
  others_down = λ b ne d. d;
  stored_own = λ x e o q. put_at (λ g. g ≡ Some e) (s.view a).bits.stored y None x
      (λ r. absurd (off_at x e r q)) (λ ne. subst (λ (i : ℕ). (s.view i).bits.stored x ≡ Some e) o
      (k.bits.stored_is x e (old x e q)));
  stored_other = λ x e ne q. old x e q;
}
  where
    off_at : (x : ℕ) (e : Entry) → x ≡ y → put s.entry y None x ≡ Some e → ⊥
    off_at x e r q = put_at (λ o. o ≡ Some e → ⊥) s.entry y None x (λ _ h. absurd (cc))
        (λ ne. absurd (ne r)) q

    old : (x : ℕ) (e : Entry) → put s.entry y None x ≡ Some e → s.entry x ≡ Some e
    old x e = put_at (λ o. o ≡ Some e → s.entry x ≡ Some e) s.entry y None x (λ _ h. absurd (cc)) (λ _ h. h)

    two : (h : ℕ) (g : Walk) (x : ℕ) (e : Entry) (on : Watch) (m σ : ℕ) → (s.view a).hold.head ≡ Some h
        → (s.view a).walk ≡ Some g → Waits (next s a (step.Unqueue y)) x e on m σ → same e.watch g.watch ≡ true
        → is_bit g.watch ≡ true
        → (b : Bool) → picks (s.view a).walk ((s.view a).hold.book y) ((s.view a).hold.roused (owner y))
        (not (is_off ((s.view a).bits.stored y))) ≡ b
        → ((s.view a).hold.picked
        || picks (s.view a).walk ((s.view a).hold.book y) ((s.view a).hold.roused (owner y))
        (not (is_off ((s.view a).bits.stored y)))) ≡ true
        → ((s.view a).hold.picked ≡ true)
        ⊎ (Others (next s a (step.Unqueue y)) a x e σ ⊎ Tried (next s a (step.Unqueue y)) e.watch)
    two h g x e on m σ p q z sa bi false r t = inl (grind arith)
    two h g x e on m σ p q z sa bi true r t =
        let f : (d : Entry) × ((s.view a).hold.book y ≡ shown d) × (d.exclusive ≡ true)
        × (same d.watch g.watch ≡ true) × ((s.view a).hold.roused (owner y) ≡ true)
        × (not (is_off ((s.view a).bits.stored y)) ≡ false) × (is_page d.kind ≡ false)
        = picks_true g ((s.view a).hold.book y) ((s.view a).hold.roused (owner y))
        (not (is_off ((s.view a).bits.stored y)))
        (subst (λ (o : Option Walk). picks o ((s.view a).hold.book y) ((s.view a).hold.roused (owner y))
        (not (is_off ((s.view a).bits.stored y))) ≡ true) q r) in
        inr (picked_tries s a y h g x e on m σ f.0 k p q bi (same_bit e.watch g.watch sa bi) z sa f.1 f.2 f.3
        (same_bit f.0.watch g.watch f.3 bi) f.4 f.5 f.6)
