-- What the steps that touch bits, holds or entries do to the facts on bits.
use Rattle.std.proofs.Common.{refl, sym, ◌∙◌, ap, subst, arith, inl, inr}
use Rattle.std.specs.Prelude.{ℕ, ◌≡◌, ◌≢◌, ◌⊎◌, Option, Some, None, Bool, true, false, not, ◌&&◌, ◌||◌, ◌==◌}
use Rattle.wait_model.specs.{declared.watches.Watch.Watch, declared.watches.Entry.Entry, declared.watches.Aim.Aim}
use Rattle.wait_model.specs.{declared.tasks.TaskRecord.TaskRecord, Tasks.meets, Tasks.task_of, Words.bit_at}
use Rattle.wait_model.specs.{Functions.put, Rows.Reads, Rows.Allowed}
use Rattle.wait_model.specs.Facts.{BitFacts, Kept, Facts}
use Rattle.wait_model.specs.Views.{Walk, Hold, Bits, View, no_hold}
use Rattle.wait_model.specs.Fold.{after_unlock, begun_anew, met_task, after, is_for_page, takes_note}
use Rattle.wait_model.specs.Watches.{same, is_bit, was_clear, owner, page}
use Rattle.wait_model.specs.Tables.{Words, Table, met, next, consume}
use Rattle.wait_model.specs.Laws.{Waits, Others, Tried}
use Rattle.wait_model.proofs.{StepLaws.WakeSteps.meets_zero, StepLaws.WakeSteps.wake_state}
use Rattle.wait_model.proofs.{StepLaws.UnlockSteps.unlock_bits, StepLaws.UnlockSteps.unlock_hold, Functions.put_case}
use Rattle.wait_model.proofs.{Functions.put_at, BitLaws.BitRecords.BitStep, BitLaws.BitRecords.kept_by_none}
use Rattle.wait_model.proofs.Sameness.{same_bit_is, tas_unmet, same_of_page, same_trans}
use Rattle.wait_model.specs.declared.watches.Watch.TheVariants as watch
use Rattle.wait_model.specs.declared.steps.Step.TheVariants as step

pub state_bits : (s : Table) (a σ : ℕ) → BitFacts s → BitStep s a (step.State σ)
state_bits s a σ k = record {
  holds = λ h w p q r. (w, p, q, refl);
  pick = λ h g x e on m σ p q r z sa bi. inl r;
  rouse = λ u c i m r. inl r;
  gots = λ c i m g. grind arith;
  keepers = λ c i h. inl h;
  got_keeps = λ c i g d. absurd (let z : σ ≡ 0 = grind arith
      in put_at (λ (t : TaskRecord). t.state ≢ 0 → ⊥) s.task a (record (s.task a) { state = σ }) a (λ _ nz. nz z)
      (λ ne. absurd (ne refl)) d);
  others_down = λ b ne d. put_at (λ (t : TaskRecord). t.state ≢ 0 → (s.task b).state ≢ 0) s.task a
      (record (s.task a) { state = σ }) b (λ q. absurd (ne q)) (λ _ h. h) d;
  stored_own = λ x e o q. subst (λ (i : ℕ). (s.view i).bits.stored x ≡ Some e) o (k.stored_is x e q);
  stored_other = λ x e ne q. q;
}

pub wake_bits : (s : Table) (a who mask w : ℕ) → Kept s → task_of w ≡ s.task who
    → BitStep s a (step.Wake who mask w)
wake_bits s a who mask w k al = record {
  holds = λ h w p q r. (w, p, q, refl);
  pick = λ h g x e on m σ p q r z sa bi. inl r;
  rouse = λ u c i m r. new u c i m (u == who) refl r;
  gots = λ c i m g. g;
  keepers = λ c i h. inl h;
  got_keeps = λ c i g d. k.bits.got_keeps a c i g
      (subst (λ (n : ℕ). n ≢ 0) (wake_state s a who mask w a d).0 d);
  others_down = λ b ne d. subst (λ (n : ℕ). n ≢ 0) (wake_state s a who mask w b d).0 d;
  stored_own = λ x e o q. subst (λ (i : ℕ). (s.view i).bits.stored x ≡ Some e) o (k.bits.stored_is x e q);
  stored_other = λ x e ne q. q;
}
  where
    up : met_task mask w ≡ true → (s.task who).state ≢ 0
    up d z = let did : met_task mask w ≡ meets mask (s.task who).state =
        ap (λ (t : TaskRecord). meets mask t.state) al in let m : meets mask (s.task who).state ≡ meets mask 0 =
        ap (meets mask) z in let f : meets mask 0 ≡ false = meets_zero mask in cc

    got_not : (u : ℕ) (c : Watch) → is_bit c ≡ true → met s.words c ≡ true → u ≡ who → met_task mask w ≡ true
        → (b : Bool) → (s.view u).bits.got c ≡ b → (s.view u).bits.got c ≡ false
    got_not u c i m q d false g = g
    got_not u c i m q d true g = absurd (let kp : (s.view u).bits.keeps c ≡ true =
        k.bits.got_keeps u c i g (subst (λ (j : ℕ). (s.task j).state ≢ 0) (sym q) (up d))
        in let f : met s.words c ≡ false = (k.facts.views u).bits.kept c i kp in cc)

    new : (u : ℕ) (c : Watch) → is_bit c ≡ true → met s.words c ≡ true → (b : Bool) → (u == who) ≡ b
        → ((s.view a).hold.roused u || (met_task mask w && (u == who))) ≡ true
        → ((s.view a).hold.roused u ≡ true) ⊎ (((next s a (step.Wake who mask w)).view u).bits.got c ≡ false)
    new u c i m false q r = inl (grind arith)
    new u c i m true q r = elim (two ((s.view a).hold.roused u) (met_task mask w) (u == who) r) [
      | inl h ↦ inl h
      | inr h ↦ inr (put_at (λ (v : View). v.bits.got c ≡ false) s.view a
          (after (step.Wake who mask w) (s.view a)) u
          (λ ua. subst (λ (j : ℕ). (s.view j).bits.got c ≡ false) ua
          (got_not u c i m (grind arith) h ((s.view u).bits.got c) refl))
          (λ _. got_not u c i m (grind arith) h ((s.view u).bits.got c) refl))
    ]
      where
        two : (r d e : Bool) → (r || (d && e)) ≡ true → (r ≡ true) ⊎ (d ≡ true)
        two r d e h = grind arith

pub lock_bits : (s : Table) (a h : ℕ) (aim : Option Aim) (w : ℕ) → BitFacts s
    → BitStep s a (step.Lock h aim w)
lock_bits s a h aim w k = record {
  holds = λ i w p q r. elim r [ inl t ↦ absurd (cc) | inr t ↦ absurd (cc (t.1)) ];
  pick = λ i g x e on m σ p q r z sa bi. absurd (cc);
  rouse = λ u c i m r. absurd (cc);
  gots = λ c i m g. g;
  keepers = λ c i g. inl g;
  got_keeps = λ c i g d. k.got_keeps a c i g d;
  others_down = λ b ne d. d;
  stored_own = λ x e o q. subst (λ (i : ℕ). (s.view i).bits.stored x ≡ Some e) o (k.stored_is x e q);
  stored_other = λ x e ne q. q;
}

pub unlock_bit_facts : (s : Table) (a h : ℕ) (sp : Bool) → BitFacts s → BitStep s a (step.Unlock h sp)
unlock_bit_facts s a h sp k = record {
  holds = λ i w p q r. absurd (let z : (after_unlock (s.view a) (s.view a).walk sp).hold.head ≡ None =
      ap (λ (g : Hold). g.head) hold in cc);
  pick = λ i g x e on m σ p q r z sa bi. absurd
      (let y : (after_unlock (s.view a) (s.view a).walk sp).hold.picked ≡ false =
      ap (λ (g : Hold). g.picked) hold in cc);
  rouse = λ u c i m r. absurd (let y : (after_unlock (s.view a) (s.view a).walk sp).hold.roused u ≡ false =
      ap (λ (g : Hold). g.roused u) hold in cc);
  gots = λ c i m g. ap (λ (b : Bits). b.got c) bits ∙ g;
  keepers = λ c i g. inl (sym (ap (λ (b : Bits). b.keeps c) bits) ∙ g);
  got_keeps = λ c i g d. ap (λ (b : Bits). b.keeps c) bits
      ∙ k.got_keeps a c i (sym (ap (λ (b : Bits). b.got c) bits) ∙ g) d;
  others_down = λ b ne d. d;
  stored_own = λ x e o q. ap (λ (b : Bits). b.stored x) bits
      ∙ subst (λ (i : ℕ). (s.view i).bits.stored x ≡ Some e) o (k.stored_is x e q);
  stored_other = λ x e ne q. q;
}
  where
    hold : (after_unlock (s.view a) (s.view a).walk sp).hold ≡ no_hold
    hold = unlock_hold (s.view a) (s.view a).walk sp

    bits : (after_unlock (s.view a) (s.view a).walk sp).bits ≡ (s.view a).bits
    bits = unlock_bits (s.view a) (s.view a).walk sp

pub queue_bits : (s : Table) (a y : ℕ) (d : Entry) → BitFacts s → owner y ≡ a → BitStep s a (step.Queue y d)
queue_bits s a y d k al = record {
  holds = λ h w p q r. (w, p, q, refl);
  pick = λ h g x e on m σ p q r z sa bi. inl r;
  rouse = λ u c i m r. inl r;
  gots = λ c i m g. grind arith;
  keepers = λ c i h. inl h;
  got_keeps = λ c i g dn. k.got_keeps a c i (let gg : ((s.view a).bits.got c && not (same c d.watch)) ≡ true =
      g in grind arith) dn;
  others_down = λ b ne dn. dn;
  stored_own = λ x e o q. own x e o q (put_case s.entry y (Some d) x);
  stored_other = λ x e ne q. put_at (λ g. g ≡ Some e → s.entry x ≡ Some e) s.entry y (Some d) x
      (λ r. absurd (ne (ap owner r ∙ al))) (λ _ h. h) q;
}
  where
    own : (x : ℕ) (e : Entry) → owner x ≡ a → put s.entry y (Some d) x ≡ Some e
        → ((x ≡ y) × (put s.entry y (Some d) x ≡ Some d)) ⊎ ((x ≢ y) × (put s.entry y (Some d) x ≡ s.entry x))
        → put (s.view a).bits.stored y (Some d) x ≡ Some e
    own x e o q (inl r) = put_at (λ g. g ≡ Some e) (s.view a).bits.stored y (Some d) x (λ _. sym r.1
        ∙ q) (λ ne. absurd (ne r.0))
    own x e o q (inr r) = put_at (λ g. g ≡ Some e) (s.view a).bits.stored y (Some d) x (λ t. absurd (r.0 t))
        (λ _. subst (λ (i : ℕ). (s.view i).bits.stored x ≡ Some e) o (k.stored_is x e (sym r.1 ∙ q)))

pub publish_bits : (s : Table) (a : ℕ) (c : Watch) (n r : ℕ) → BitFacts s → Allowed s a (step.Publish c n r)
    → BitStep s a (step.Publish c n r)
publish_bits s a c n r k al = record {
  holds = λ h w p q r. from (s.view a).walk w h p refl q;
  pick = λ h g x e on m σ p q r z sa bi. inl r;
  rouse = λ u d i m r. inl r;
  gots = λ d i m g. g;
  keepers = λ d i h. inl (grind arith);
  got_keeps = λ d i g dn. kept d i g dn (same d c) refl;
  others_down = λ b ne d. d;
  stored_own = λ x e o q. subst (λ (i : ℕ). (s.view i).bits.stored x ≡ Some e) o (k.stored_is x e q);
  stored_other = λ x e ne q. q;
}
  where
    from : (o : Option Walk) (w : Walk) (h : ℕ) → (s.view a).hold.head ≡ Some h → (s.view a).walk ≡ o
        → begun_anew o ≡ Some w → (g : Walk) × ((s.view a).hold.head ≡ Some h) × ((s.view a).walk ≡ Some g)
        × (g.watch ≡ w.watch)
    from None w h p q r = absurd (cc)
    from (Some g) w h p q r = (g, p, q, grind arith)

    kept : (d : Watch) → is_bit d ≡ true → (s.view a).bits.got d ≡ true → (s.task a).state ≢ 0 → (b : Bool)
        → same d c ≡ b → ((s.view a).bits.keeps d && not (same d c)) ≡ true
    kept d i g dn true q = absurd (let dc : d ≡ c = same_bit_is d c i q
        in dn (al.1 (subst (λ (f : Watch). is_bit f ≡ true) dc i)).0)
    kept d i g dn false q = let kp : (s.view a).bits.keeps d ≡ true = k.got_keeps a d i g dn in grind arith

-- an exchange that set a bit which it found clear
pub tas_found : (w : Words) (c d : Watch) (r : ℕ) → Reads w c r → is_bit c ≡ true → was_clear c r ≡ true
    → same d c ≡ true → met w d ≡ true
tas_found w (watch.Bit i b) (watch.Bit j k) r re h z sa = let e : j ≡ i = grind arith
    in let f : k ≡ b = grind arith in let q : bit_at r b ≡ w.bits i b = re b in rw (e, f) (ap not (sym q) ∙ z)
tas_found w (watch.Bit i b) (watch.Plain k) r re h z sa = absurd (cc)
tas_found w (watch.Bit i b) (watch.Done k) r re h z sa = absurd (cc)
tas_found w (watch.Bit i b) (watch.Var k o) r re h z sa = absurd (cc)
tas_found w (watch.Plain c) d r re h z sa = absurd (cc)
tas_found w (watch.Done c) d r re h z sa = absurd (cc)
tas_found w (watch.Var c o) d r re h z sa = absurd (cc)

pub consume_bits : (s : Table) (a : ℕ) (c : Watch) (n r : ℕ) → Facts s → BitFacts s → Reads s.words c r
    → BitStep s a (step.Consume c n r)
consume_bits s a c n r facts k al = record {
  holds = λ h w p q i. (w, p, q, refl);
  pick = λ h g x e on m σ p q i z sa bi. inl i;
  rouse = λ u d i m q. inl q;
  gots = λ d i m g. got d m g (is_bit c && same d c) refl;
  keepers = λ d i h. keeper d i h (is_bit c && (was_clear c r && same d c)) refl;
  got_keeps = λ d i g dn. kept d i g dn (is_bit c && (was_clear c r && same d c)) refl;
  others_down = λ b ne d. d;
  stored_own = λ x e o q. subst (λ (i : ℕ). (s.view i).bits.stored x ≡ Some e) o (k.stored_is x e q);
  stored_other = λ x e ne q. q;
}
  where
    got : (d : Watch) → met (next s a (step.Consume c n r)).words d ≡ true → (s.view a).bits.got d ≡ false
        → (b : Bool) → (is_bit c && same d c) ≡ b
        → ((s.view a).bits.got d || (is_bit c && (was_clear c r && same d c))) ≡ false
    got d m g true q = absurd (let u : met (next s a (step.Consume c n r)).words d ≡ false =
        tas_unmet s.words c d n (grind arith) (grind arith) in cc)
    got d m g false q = grind arith

    keeper : (d : Watch) → is_bit d ≡ true
        → ((s.view a).bits.keeps d || (is_bit c && (was_clear c r && same d c))) ≡ true
        → (b : Bool) → (is_bit c && (was_clear c r && same d c)) ≡ b → ((s.view a).bits.keeps d ≡ true)
        ⊎ ((b : ℕ) → (s.view b).bits.keeps d ≡ false)
    keeper d i h true q = inr (kept_by_none s d facts i
        (tas_found s.words c d r al (grind arith) (grind arith) (grind arith)))
    keeper d i h false q = inl (grind arith)

    kept : (d : Watch) → is_bit d ≡ true
        → ((s.view a).bits.got d || (is_bit c && (was_clear c r && same d c))) ≡ true → (s.task a).state ≢ 0
        → (b : Bool) → (is_bit c && (was_clear c r && same d c)) ≡ b
        → ((s.view a).bits.keeps d || (is_bit c && (was_clear c r && same d c))) ≡ true
    kept d i g dn true q = grind arith
    kept d i g dn false q = let kp : (s.view a).bits.keeps d ≡ true = k.got_keeps a d i (grind arith) dn
        in grind arith

-- a page is tried for a task: where it was clear it is set now, and the walk has picked
pub tas_for_bits : (s : Table) (a y p r : ℕ) → BitFacts s → BitStep s a (step.TasFor y p r)
tas_for_bits s a y p r k = record {
  holds = λ h w q i t. (w, q, i, refl);
  pick = λ h g x e on m σ q i t z sa bi. two g x e on m σ i t z sa (is_for_page (s.view a).walk p) refl;
  rouse = λ u d i m q. inl q;
  gots = λ d i m g. g;
  keepers = λ d i h. inl h;
  got_keeps = λ d i g dn. k.got_keeps a d i g dn;
  others_down = λ b ne d. d;
  stored_own = λ x e o q. subst (λ (i : ℕ). (s.view i).bits.stored x ≡ Some e) o (k.stored_is x e q);
  stored_other = λ x e ne q. q;
}
  where
    two : (g : Walk) (x : ℕ) (e : Entry) (on : Watch) (m σ : ℕ) → (s.view a).walk ≡ Some g
        → ((s.view a).hold.picked || (is_for_page (s.view a).walk p && was_clear (page p) r)) ≡ true
        → Waits (next s a (step.TasFor y p r)) x e on m σ → same e.watch g.watch ≡ true → (b : Bool)
        → is_for_page (s.view a).walk p ≡ b → ((s.view a).hold.picked ≡ true)
        ⊎ (Others (next s a (step.TasFor y p r)) a x e σ ⊎ Tried (next s a (step.TasFor y p r)) e.watch)
    two g x e on m σ i t z sa false q = inl (grind arith)
    two g x e on m σ i t z sa true q =
        let pg : same (page p) g.watch ≡ true = subst (λ (o : Option Walk). is_for_page o p ≡ true) i q in
        let ep : same e.watch (page p) ≡ true = same_of_page e.watch g.watch p sa pg in
        let op : same on (page p) ≡ true = sym (same_trans on e.watch (page p) z.watches) ∙ ep in
        let u : met (consume s.words (page p) 1) on ≡ false = tas_unmet s.words (page p) on 1 refl op in
        let is : met (consume s.words (page p) 1) on ≡ true = z.is_set in absurd (cc)

-- a task takes note of a page that was taken for it, which no task kept
pub unflag_bits : (s : Table) (a y : ℕ) (o : Option ℕ) → BitFacts s
    → ((p : ℕ) → o ≡ Some p → (b : ℕ) → (s.view b).bits.keeps (page p) ≡ false) → BitStep s a (step.Unflag y o)
unflag_bits s a y o k unkept = record {
  holds = λ h w q i t. (w, q, i, refl);
  pick = λ h g x e on m σ q i t z sa bi. inl t;
  rouse = λ u d i m q. inl q;
  gots = λ d i m g. g;
  keepers = λ d i h. keeper o d i h unkept (takes_note o d) refl;
  got_keeps = λ d i g dn. let kp : (s.view a).bits.keeps d ≡ true = k.got_keeps a d i g dn in grind arith;
  others_down = λ b ne d. d;
  stored_own = λ x e o q. subst (λ (i : ℕ). (s.view i).bits.stored x ≡ Some e) o (k.stored_is x e q);
  stored_other = λ x e ne q. q;
}
  where
    keeper : (o : Option ℕ) (d : Watch) → is_bit d ≡ true → ((s.view a).bits.keeps d || takes_note o d) ≡ true
        → ((p : ℕ) → o ≡ Some p → (b : ℕ) → (s.view b).bits.keeps (page p) ≡ false) → (b : Bool)
        → takes_note o d ≡ b → ((s.view a).bits.keeps d ≡ true) ⊎ ((b : ℕ) → (s.view b).bits.keeps d ≡ false)
    keeper None d i h none true q = absurd (cc)
    keeper (Some p) d i h none true q = inr (λ b. subst (λ (g : Watch). (s.view b).bits.keeps g ≡ false)
        (sym (same_bit_is d (page p) i q)) (none p refl b))
    keeper o d i h none false q = inl (grind arith)
