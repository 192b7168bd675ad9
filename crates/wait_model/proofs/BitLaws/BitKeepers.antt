-- A bit is set exactly where one task keeps it.
use Rattle.std.proofs.Common.{refl, sym, ◌∙◌, ap, subst, arith, inl, inr}
use Rattle.std.specs.Prelude.{ℕ, ◌≡◌, ◌⊎◌, Bool, true, false, not, ◌&&◌, ◌||◌, List, Option, Some, None, cond}
use Rattle.wait_model.specs.{declared.watches.Watch.Watch, declared.steps.Step.Step, Words.bit_at, Rows.Allowed}
use Rattle.wait_model.specs.{Facts.Kept, Functions.put}
use Rattle.wait_model.specs.Watches.{same, is_bit, was_clear, page, owner}
use Rattle.wait_model.specs.Views.{View, Bits, blank}
use Rattle.wait_model.specs.Fold.{after, view_of, takes_note}
use Rattle.wait_model.specs.Tables.{Table, next, start, met}
use Rattle.wait_model.specs.BitKeepers.{clears_bit, KeepsBit, AreKept, KeepsTold, BitsStayKept, BitsStartKept}
use Rattle.wait_model.specs.BitKeepers.{EveryRunKeepsBits, comes_to_keep, HoldsBit, IsTakenFor}
use Rattle.wait_model.specs.declared.watches.Watch.TheVariants as watch
use Rattle.wait_model.specs.declared.steps.Step.TheVariants as step
use Rattle.wait_model.proofs.{Functions.put_at, Functions.put_case, StepLaws.KeptLaws.step_keeps}
use Rattle.wait_model.proofs.{HistoryLaws.HoldLooks.IsLookTold, HistoryLaws.HoldLooks.told_next}
use Rattle.wait_model.proofs.{StepLaws.StartLaws.start_kept, StepLaws.UnlockSteps.unlock_bits}
use Rattle.wait_model.proofs.{StepLaws.TableLaws.table_law, Sameness.same_refl}
use Rattle.wait_model.proofs.HistoryLaws.Stretches.{IsSetBy, found_in, set_at, kept_so}

or_kept : (k t : Bool) → (k || t) ≡ (t || (k && not false))
or_kept k t = grind arith

-- a bit that was clear and is set is one more
pub took_bit : (w b : ℕ) (c : Watch) (r : ℕ) (had : Bool)
    → (had || (is_bit c && (was_clear c r && same (watch.Bit w b) c)))
    ≡ ((was_clear c r && same (watch.Bit w b) c) || (had && not false))
took_bit w b (watch.Bit i k) r had = grind arith
took_bit w b (watch.Plain i) r had = grind arith
took_bit w b (watch.Done i) r had = grind arith
took_bit w b (watch.Var i o) r had = grind arith

-- what any step does to the bits that a task keeps
keeps_after : (w b : ℕ) → IsSetBy (λ (v : View). v.bits.keeps (watch.Bit w b)) (λ e _. comes_to_keep w b e)
    (clears_bit w b)
keeps_after w b (step.Publish c n r) v = refl
keeps_after w b (step.Consume c n r) v = took_bit w b c r (v.bits.keeps (watch.Bit w b))
keeps_after w b (step.Unflag x o) v = or_kept (v.bits.keeps (watch.Bit w b)) (takes_note o (watch.Bit w b))
keeps_after w b (step.Unlock h sp) v =
    ap (λ (k : Bits). k.keeps (watch.Bit w b)) (unlock_bits v v.walk sp)
    ∙ kept_so (v.bits.keeps (watch.Bit w b))
keeps_after w b e v = kept_so (v.bits.keeps (watch.Bit w b))

pub keeps_told : KeepsTold
keeps_told es w b = (
  λ h. found_in (λ (v : View). v.bits.keeps (watch.Bit w b)) (comes_to_keep w b) (clears_bit w b) (keeps_after w b) refl
      es h,
  λ k. ap (λ (fs : List Step). (view_of fs).bits.keeps (watch.Bit w b)) k.split
      ∙ set_at (λ (v : View). v.bits.keeps (watch.Bit w b)) (λ e _. comes_to_keep w b e) (clears_bit w b)
      (keeps_after w b) k.earlier
      k.it k.later blank k.passes k.none_since,
)

-- the step sets the bit, whatever it found
abbrev sets : ℕ → ℕ → Step → Bool
sets w b (step.Consume c n r) = same (watch.Bit w b) c
sets w b (step.TasFor x p r) = same (watch.Bit w b) (page p)
sets w b _ = false

-- what any step does to the bit
bits_after : (s : Table) (a : ℕ) (e : Step) (w b : ℕ)
    → (next s a e).words.bits w b ≡ (sets w b e || (s.words.bits w b && not (clears_bit w b e)))
bits_after s a (step.Publish (watch.Bit i k) n r) w b = grind arith
bits_after s a (step.Consume (watch.Bit i k) n r) w b = grind arith
bits_after s a (step.TasFor x p r) w b = grind arith
bits_after s a (step.Publish (watch.Plain c) n r) w b = kept_so (s.words.bits w b)
bits_after s a (step.Publish (watch.Done d) n r) w b = kept_so (s.words.bits w b)
bits_after s a (step.Publish (watch.Var v o) n r) w b = kept_so (s.words.bits w b)
bits_after s a (step.Consume (watch.Plain c) n r) w b = kept_so (s.words.bits w b)
bits_after s a (step.Consume (watch.Done d) n r) w b = kept_so (s.words.bits w b)
bits_after s a (step.Consume (watch.Var v o) n r) w b = kept_so (s.words.bits w b)
bits_after s a e w b = kept_so (s.words.bits w b)

-- a step that sets the bit found it clear, for its own task or for another, or it was set
abbrev TakesFor : Step → ℕ → ℕ → Type 0
TakesFor (step.TasFor x p r) w b = (was_clear (page p) r ≡ true) × (w ≡ p) × (b ≡ 0)
TakesFor _ w b = ⊥

found_or : (s : Table) (a : ℕ) (e : Step) (w b : ℕ) → Allowed s a e → sets w b e ≡ true
    → ((comes_to_keep w b e ≡ true) ⊎ TakesFor e w b) ⊎ ((s.words.bits w b ≡ true) × (clears_bit w b e ≡ false))
found_or s a (step.Consume (watch.Bit i k) n r) w b al h = by (bit_at r k) refl
  where
    read : bit_at r k ≡ s.words.bits i k
    read = al.2 k

    by : (f : Bool) → bit_at r k ≡ f
        → (((not (bit_at r k) && same (watch.Bit w b) (watch.Bit i k)) ≡ true) ⊎ ⊥)
        ⊎ ((s.words.bits w b ≡ true) × (false ≡ false))
    by true q = inr (grind (arith, q, read, h), refl)
    by false q = inl (inl (rw (q, h) refl))
found_or s a (step.Consume (watch.Plain c) n r) w b al h = absurd (cc)
found_or s a (step.Consume (watch.Done d) n r) w b al h = absurd (cc)
found_or s a (step.Consume (watch.Var v o) n r) w b al h = absurd (cc)
found_or s a (step.TasFor x p r) w b al h = by (bit_at r 0) refl
  where
    read : bit_at r 0 ≡ s.words.bits p 0
    read = al.1 0

    is_word : w ≡ p
    is_word = grind arith

    is_first : b ≡ 0
    is_first = grind arith

    by : (f : Bool) → bit_at r 0 ≡ f
        → ((false ≡ true) ⊎ ((not (bit_at r 0) ≡ true) × (w ≡ p) × (b ≡ 0)))
        ⊎ ((s.words.bits w b ≡ true) × (false ≡ false))
    by true q = inr (rw (is_word, is_first) (sym read ∙ q), refl)
    by false q = inl (inr (ap not q, is_word, is_first))
found_or s a e w b al h = absurd (cc)

-- each set bit is one that a task keeps by its view, or a page that a walk took for a task
abbrev HasKeeper : Table → ℕ → ℕ → Type 0
HasKeeper s w b = ((a : ℕ) × ((s.view a).bits.keeps (watch.Bit w b) ≡ true))
    ⊎ ((x : ℕ) × (s.taken x ≡ Some w) × (b ≡ 0))

-- who kept the bit keeps it, where the step does not clear it
still_kept : (s : Table) (a : ℕ) (e : Step) (w b : ℕ) → clears_bit w b e ≡ false
    → ((a : ℕ) × ((s.view a).bits.keeps (watch.Bit w b) ≡ true)) → HasKeeper (next s a e) w b
still_kept s a e w b unset h = inl (
  h.0,
  put_at (λ (v : View). v.bits.keeps (watch.Bit w b) ≡ true) s.view a (after e (s.view a)) h.0
      (λ q. keeps_after w b e (s.view a) ∙ own q) (λ _. h.1),
)
  where
    own : h.0 ≡ a → (comes_to_keep w b e || ((s.view a).bits.keeps (watch.Bit w b) && not (clears_bit w b e))) ≡ true
    own q = let k : (s.view a).bits.keeps (watch.Bit w b) ≡ true =
        subst (λ (i : ℕ). (s.view i).bits.keeps (watch.Bit w b) ≡ true) q h.1
        in rw (k, unset) (or_true (comes_to_keep w b e))
      where
        or_true : (x : Bool) → (x || true) ≡ true
        or_true true = refl
        or_true false = refl

-- the stepping task keeps the bit from this step on
kept_now : (s : Table) (a : ℕ) (e : Step) (w b : ℕ) → comes_to_keep w b e ≡ true → HasKeeper (next s a e) w b
kept_now s a e w b g = inl (
  a,
  put_at (λ (v : View). v.bits.keeps (watch.Bit w b) ≡ true) s.view a (after e (s.view a)) a
      (λ _. keeps_after w b e (s.view a) ∙ rw g refl) (λ ne. absurd (ne refl)),
)

-- a page that was taken for a task stays so until the task takes note of it
still_taken : (s : Table) (a : ℕ) (e : Step) (w : ℕ) → Allowed s a e → (x : ℕ) → s.taken x ≡ Some w
    → HasKeeper (next s a e) w 0
still_taken s a (step.TasFor y p r) w al x t = inr (x, by (was_clear (page p) r), refl)
  where
    by : (c : Bool) → cond c (put s.taken y (Some p)) s.taken x ≡ Some w
    by false = t
    by true = put_at (λ o. o ≡ Some w) s.taken y (Some p) x (λ q. absurd (let z : s.taken x ≡ s.taken y =
        ap s.taken q in let n : s.taken y ≡ None = al.2 in cc)) (λ _. t)
still_taken s a (step.Unflag y o) w al x t = elim (put_case s.taken y None x) [
  | inl q ↦ kept_now s a (step.Unflag y o) w 0 (let z : Some w ≡ o = sym t ∙ ap s.taken q.0 ∙ al.1
      in subst (λ (n : Option ℕ). takes_note n (watch.Bit w 0) ≡ true) z (same_refl (page w)))
  | inr q ↦ inr (x, q.1 ∙ t, refl)
]
still_taken s a e w al x t = inr (x, t, refl)

still_keeper : (s : Table) (a : ℕ) (e : Step) (w b : ℕ) → Allowed s a e → clears_bit w b e ≡ false
    → HasKeeper s w b → HasKeeper (next s a e) w b
still_keeper s a e w b al unset (inl h) = still_kept s a e w b unset h
still_keeper s a e w b al unset (inr h) = subst (λ (i : ℕ). HasKeeper (next s a e) w i) (sym h.2)
    (still_taken s a e w al h.0 h.1)

takes_for : (s : Table) (a : ℕ) (e : Step) (w b : ℕ) → TakesFor e w b → HasKeeper (next s a e) w b
takes_for s a (step.TasFor x p r) w b t = inr (
  x,
  ap (λ (c : Bool). cond c (put s.taken x (Some p)) s.taken x) t.0
      ∙ put_at (λ o. o ≡ Some w) s.taken x (Some p) x (λ _. ap (λ (i : ℕ). Some i) (sym t.1)) (λ ne. absurd (ne refl)),
  t.2,
)
takes_for s a e w b t = absurd t

next_keeper : (s : Table) (a : ℕ) (e : Step) (w b : ℕ) → Allowed s a e
    → (s.words.bits w b ≡ true → HasKeeper s w b) → (next s a e).words.bits w b ≡ true
    → HasKeeper (next s a e) w b
next_keeper s a e w b al old h = by (sets w b e) refl (clears_bit w b e) refl (sym (bits_after s a e w b) ∙ h)
  where
    got : ((comes_to_keep w b e ≡ true) ⊎ TakesFor e w b)
        ⊎ ((s.words.bits w b ≡ true) × (clears_bit w b e ≡ false)) → HasKeeper (next s a e) w b
    got (inl (inl g)) = kept_now s a e w b g
    got (inl (inr t)) = takes_for s a e w b t
    got (inr q) = still_keeper s a e w b al q.1 (old q.0)

    by : (x : Bool) → sets w b e ≡ x → (y : Bool) → clears_bit w b e ≡ y
        → (sets w b e || (s.words.bits w b && not (clears_bit w b e))) ≡ true → HasKeeper (next s a e) w b
    by true p y q g = got (found_or s a e w b al p)
    by false p true q g = absurd (grind arith)
    by false p false q g = still_keeper s a e w b al q (old (grind arith))

-- the law in the words of views
kept_from : (s : Table) → Kept s → IsLookTold s → ((w b : ℕ) → s.words.bits w b ≡ true → HasKeeper s w b)
    → AreKept s
kept_from s k told h = record {
  keeper = λ w b q. holder w b (h w b q);
  set = λ a w b q. not_not (s.words.bits w b) (unmet a w b q);
  one = λ a d w b p q. one a d w b p q;
}
  where
    holder : (w b : ℕ) → HasKeeper s w b → (a : ℕ) × HoldsBit s a w b
    holder w b (inl q) = (
      q.0,
      inl ((keeps_told (s.history q.0) w b).0 (subst (λ (v : View). v.bits.keeps (watch.Bit w b) ≡ true)
          (told q.0) q.1)),
    )
    holder w b (inr q) = (owner q.0, inr (record { at = q.0; own = refl; taken = q.1; first = q.2 }))

    by_view : (a w b : ℕ) → KeepsBit (s.history a) w b → (s.view a).bits.keeps (watch.Bit w b) ≡ true
    by_view a w b q = subst (λ (v : View). v.bits.keeps (watch.Bit w b) ≡ true) (sym (told a))
        ((keeps_told (s.history a) w b).1 q)

    unmet : (a w b : ℕ) → HoldsBit s a w b → met s.words (watch.Bit w b) ≡ false
    unmet a w b (inl q) = (k.facts.views a).bits.kept (watch.Bit w b) refl (by_view a w b q)
    unmet a w b (inr q) = subst (λ (i : ℕ). met s.words (watch.Bit w i) ≡ false) (sym q.first)
        (k.pages.set q.at w q.taken)

    mixed : (a d w b : ℕ) → KeepsBit (s.history a) w b → IsTakenFor s d w b → a ≡ d
    mixed a d w b p q = absurd (let y : (s.view a).bits.keeps (watch.Bit w b) ≡ true = by_view a w b p in
        let n : (s.view a).bits.keeps (watch.Bit w b) ≡ false =
        subst (λ (i : ℕ). (s.view a).bits.keeps (watch.Bit w i) ≡ false) (sym q.first)
        (k.pages.unkept q.at w a q.taken) in cc)

    one : (a d w b : ℕ) → HoldsBit s a w b → HoldsBit s d w b → a ≡ d
    one a d w b (inl p) (inl q) = k.bits.one_keeper a d (watch.Bit w b) refl (by_view a w b p) (by_view d w b q)
    one a d w b (inl p) (inr q) = mixed a d w b p q
    one a d w b (inr p) (inl q) = sym (mixed d a w b q p)
    one a d w b (inr p) (inr q) = sym p.own ∙ ap owner (k.pages.one p.at q.at w p.taken q.taken) ∙ q.own

    not_not : (x : Bool) → not x ≡ false → x ≡ true
    not_not true e = refl
    not_not false e = absurd (cc)

keepers_of : (s : Table) → IsLookTold s → AreKept s → (w b : ℕ) → s.words.bits w b ≡ true → HasKeeper s w b
keepers_of s told r w b q = by (r.keeper w b q).0 (r.keeper w b q).1
  where
    by : (a : ℕ) → HoldsBit s a w b → HasKeeper s w b
    by a (inl h) = inl (
      a,
      subst (λ (v : View). v.bits.keeps (watch.Bit w b) ≡ true) (sym (told a)) ((keeps_told (s.history a) w b).1 h),
    )
    by a (inr h) = inr (h.at, h.taken, h.first)

pub bits_stay_kept : BitsStayKept
bits_stay_kept s a e k told al r = kept_from (next s a e) (step_keeps s a e k al) (told_next s a e told)
    (λ w b. next_keeper s a e w b al (keepers_of s told r w b))

pub bits_start_kept : BitsStartKept
bits_start_kept = kept_from start start_kept (λ b. refl) (λ w b q. absurd (cc))

pub every_run_keeps_bits : EveryRunKeepsBits
every_run_keeps_bits run r few = table_law AreKept bits_start_kept
    (λ s a e lt k told al. bits_stay_kept s a e k told al) run r few
