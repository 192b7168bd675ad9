-- What the steps of a task on bits leave as it was.
use Rattle.std.proofs.Common.{◌∙◌, ap, sym, refl, subst}
use Rattle.std.specs.Prelude.{ℕ, ◌≡◌, ◌&&◌, ◌||◌, not, Bool, true, false}
use Rattle.wait_model.specs.{declared.watches.Watch.Watch, Watches.same, Watches.was_clear, Views.View as Told}
use Rattle.wait_model.specs.{Views.is_trying_for, Fold.after}
use Rattle.wait_model.specs.declared.watches.Watch.TheVariants as watch
use Rattle.wait_model.specs.declared.watches.Mode.TheVariants as mode
use Rattle.wait_model.specs.declared.steps.Step.TheVariants as step
use Rattle.wait_model.proofs.Sameness.{same_refl}
use Rattle.wait_rule.specs.declared.journal.Item.TheVariants as item
use Rattle.wait_rule.specs.Known.{Known}
use Rattle.wait_rule.specs.Says.{Excuse, IsOutBut, OwesBut, added, told_of}
use Rattle.wait_rule.specs.Stays.{with_bit, with_bits, with_wakes}
use Rattle.wait_rule.specs.Bits.{ClearsBit, SetsBit, StaysBeside, taken_bits}
use Rattle.wait_rule.proofs.{KnownLaws.AfterSteps.told_added, KnownLaws.CarriedTasks.kept_still}
use Rattle.wait_rule.proofs.KnownLaws.StayingBeside.{stays_beside}
use Rattle.wait_rule.proofs.KnownLaws.Debts.{entries_debts, publish_debts, step_debts}

pub or_false : (k t : Bool) → t ≡ false → (k || t) ≡ k
or_false true t is = refl
or_false false t is = is

or_true : (k t : Bool) → t ≡ true → (k || t) ≡ true
or_true true t is = refl
or_true false t is = is

and_false : (k s : Bool) → s ≡ true → (k && not s) ≡ false
and_false true s is = ap not is
and_false false s is = refl

-- the bits that are kept beside some, with one taken and one given back
pub held_more : (g t k : Bool) → (not t && k) ≡ false → (not (g || t) && (k || g)) ≡ false
held_more true t k is = refl
held_more false true k is = refl
held_more false false true is = is
held_more false false false is = refl

held_less : (s t k : Bool) → (not (s || t) && k) ≡ false → (not t && (k && not s)) ≡ false
held_less s true k is = refl
held_less true false true is = refl
held_less true false false is = refl
held_less false false true is = is
held_less false false false is = refl

-- a test-and-set
module _ (old new : Known) (w b r : ℕ) (is : new ≡ added old (item.Made (step.Consume (watch.Bit w b) 1 r))) where
  abbrev c : Watch
  c = watch.Bit w b

  abbrev clear : Bool
  clear = was_clear c r

  set_told : told_of new ≡ after (step.Consume c 1 r) (told_of old)
  set_told = ap told_of is ∙ told_added old (item.Made (step.Consume c 1 r))

  set_stays : StaysBeside (taken_bits c clear) old new
  set_stays = stays_beside (taken_bits c clear) old new (item.Made (step.Consume c 1 r)) is refl refl refl refl
      (λ d. or_false ((told_of old).bits.keeps d) (clear && same d c))

  set_owes : (x : Excuse) → OwesBut x old → OwesBut (with_bits (taken_bits c clear) x) new
  unfolding with_bits
  set_owes x o = record {
    unmarked = ap (λ (v : Told). v.mark) set_told ∙ o.unmarked;
    debts = entries_debts x (with_bits (taken_bits c clear) x) new refl refl refl refl
        (step_debts old new (step.Consume c 1 r) refl is x o.debts);
    unqueued = λ i. subst (λ (v : Told). IsOutBut (x.entries i) (v.bits.stored i)) (sym set_told) (o.unqueued i);
    holds = λ d. ap (λ (v : Told). not ((clear && same d c) || x.bits d) && v.bits.keeps d) set_told
        ∙ held_more (clear && same d c) (x.bits d) ((told_of old).bits.keeps d) (o.holds d);
    tries = λ d. ap (λ (v : Told). v.bits.pending d) set_told ∙ ap (λ (p : Bool). p && not (same d c)) (o.tries d);
    tries_none = λ i d. ap (λ (v : Told). is_trying_for (v.bits.stored i) d) set_told ∙ o.tries_none i d;
  }

  pub bit_is_set : SetsBit old new (watch.Bit w b) (was_clear (watch.Bit w b) r)
  bit_is_set = record {
    stays = set_stays;
    keeps = λ was. ap (λ (v : Told). v.bits.keeps c) set_told
        ∙ or_true ((told_of old).bits.keeps c) (clear && same c c)
        (ap (λ (g : Bool). g && same c c) was ∙ same_refl (watch.Bit w b));
    tries = ap (λ (v : Told). v.bits.pending c) set_told
        ∙ and_false ((told_of old).bits.pending c) (same c c) (same_refl (watch.Bit w b));
    duty = ap (λ (v : Told). v.duty) set_told;
    owes = set_owes;
  }

-- a clear
module _ (old new : Known) (w b r : ℕ) (is : new ≡ added old (item.Made (step.Publish (watch.Bit w b) 0 r))) where
  abbrev d0 : Watch
  d0 = watch.Bit w b

  clear_told : told_of new ≡ after (step.Publish d0 0 r) (told_of old)
  clear_told = ap told_of is ∙ told_added old (item.Made (step.Publish d0 0 r))

  clear_stays : StaysBeside (λ d. same d d0) old new
  clear_stays = stays_beside (λ d. same d d0) old new (item.Made (step.Publish d0 0 r)) is refl refl refl refl
      (λ d. kept_still ((told_of old).bits.keeps d) (same d d0))

  clear_owes : (x : Excuse) → OwesBut (with_bit d0 x) old → OwesBut (with_wakes d0 mode.Normal x) new
  unfolding with_bits with_wakes
  clear_owes x o = record {
    unmarked = ap (λ (v : Told). v.mark) clear_told ∙ o.unmarked;
    debts = publish_debts d0 0 r x old new is (entries_debts (with_bit d0 x) x old refl refl refl refl o.debts);
    unqueued = λ i. subst (λ (v : Told). IsOutBut (x.entries i) (v.bits.stored i)) (sym clear_told) (o.unqueued i);
    holds = λ d. ap (λ (v : Told). not (x.bits d) && v.bits.keeps d) clear_told
        ∙ held_less (same d d0) (x.bits d) ((told_of old).bits.keeps d) (o.holds d);
    tries = λ d. ap (λ (v : Told). v.bits.pending d) clear_told ∙ o.tries d;
    tries_none = λ i d. ap (λ (v : Told). is_trying_for (v.bits.stored i) d) clear_told ∙ o.tries_none i d;
  }

  pub bit_is_cleared : ClearsBit old new (watch.Bit w b)
  bit_is_cleared = record {
    stays = clear_stays;
    keeps = ap (λ (v : Told). v.bits.keeps d0) clear_told
        ∙ and_false ((told_of old).bits.keeps d0) (same d0 d0) (same_refl (watch.Bit w b));
    owes = clear_owes;
  }
