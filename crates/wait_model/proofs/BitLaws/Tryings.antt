-- Whom the fold takes for trying a bit is who tries it plainly.
use Rattle.std.proofs.lemmas.Bool.{both_ways}
use Rattle.std.proofs.Common.{refl, ◌∙◌, ap, subst, arith, inl, inr}
use Rattle.std.specs.Prelude.{ℕ, ◌≡◌, ◌⊎◌, Option, Some, None, Bool, true, false, cond, not, ◌&&◌, ◌||◌, ◌==◌, List}
use Rattle.wait_model.specs.{declared.watches.Watch.Watch, declared.watches.Entry.Entry, declared.steps.Step.Step}
use Rattle.wait_model.specs.{Functions.put, Words.entry_of, Fold.view_of, Fold.is_off, Laws.TryingBy, Histories.Lacks}
use Rattle.wait_model.specs.{Histories.Since, BitKeepers.gets, Told.TryingTold}
use Rattle.wait_model.specs.Watches.{same, is_bit, owner, is_page}
use Rattle.wait_model.specs.Views.{View, Bits, blank, is_trying_for}
use Rattle.wait_model.specs.Tryings.{queues_for, finds_off, resettles, HasQueuedForBit, answers, begins, HasGot}
use Rattle.wait_model.specs.Tryings.{IsUnanswered, IsUnseen, IsTrying}
use Rattle.wait_model.specs.declared.watches.Watch.TheVariants as watch
use Rattle.wait_model.specs.declared.steps.Step.TheVariants as step
use Rattle.wait_model.proofs.BitLaws.BitKeepers.{took_bit, keeps_told}
use Rattle.wait_model.proofs.HistoryLaws.Stretches.{Seen, IsSetBy, seen_in, found_in, set_at, kept_so}
use Rattle.wait_model.proofs.StepLaws.UnlockSteps.{unlock_bits}

-- a reading that is set by what a step is
abbrev Reading : (View → Bool) → (Step → Bool) → (Step → Bool) → Type 0
Reading r set unset = IsSetBy r (λ e _. set e) unset

told_by : (r : View → Bool) (set unset : Step → Bool) → Reading r set unset → (es : List Step)
    → Since set unset es → r (view_of es) ≡ true
told_by r set unset eq es s = ap (λ (t : List Step). r (view_of t)) s.split
    ∙ set_at r (λ e _. set e) unset eq s.earlier s.it s.later blank s.passes s.none_since

bit_same : (w b : ℕ) (c : Watch) → (is_bit c && same (watch.Bit w b) c) ≡ same (watch.Bit w b) c
bit_same w b (watch.Plain c) = refl
bit_same w b _ = refl

-- the entries that the task has queued for the bit and knows to be queued
queued : ℕ → ℕ → ℕ → View → Bool
queued w b x v = is_trying_for (v.bits.stored x) (watch.Bit w b)

looked : (stored : ℕ → Option Entry) (w b x y : ℕ) (off : Bool)
    → is_trying_for ((cond off (put stored y None) stored) x) (watch.Bit w b)
    ≡ (false || (is_trying_for (stored x) (watch.Bit w b) && not ((x == y) && off)))
looked stored w b x y true = by (x == y) refl
  where
    by : (t : Bool) → (x == y) ≡ t → is_trying_for (put stored y None x) (watch.Bit w b)
        ≡ (false || (is_trying_for (stored x) (watch.Bit w b) && not ((x == y) && true)))
    by true q = rw q (grind arith)
    by false q = rw q (kept_so (is_trying_for (stored x) (watch.Bit w b)))
looked stored w b x y false = grind arith

-- an entry for the bit is one of a bit
joined : (ex bi sa pa old : Bool) → (bi && sa) ≡ sa
    → (ex && (bi && (sa && pa))) ≡ ((true && (ex && (sa && pa))) || (old && not true))
joined ex bi sa pa old h = grind arith

queued_after : (w b x : ℕ) → Reading (queued w b x) (queues_for w b x) (resettles x)
unfolding queued
queued_after w b x (step.Queue y d) v = by (x == y) refl
  where
    by : (t : Bool) → (x == y) ≡ t → is_trying_for (put v.bits.stored y (Some d) x) (watch.Bit w b)
        ≡ (((x == y) && (d.exclusive && (same (watch.Bit w b) d.watch && not (is_page d.kind))))
        || (is_trying_for (v.bits.stored x) (watch.Bit w b) && not (x == y)))
    by true q = rw q (joined d.exclusive (is_bit d.watch) (same (watch.Bit w b) d.watch) (not (is_page d.kind))
        (is_trying_for (v.bits.stored x) (watch.Bit w b)) (bit_same w b d.watch))
    by false q = rw q (kept_so (is_trying_for (v.bits.stored x) (watch.Bit w b)))
queued_after w b x (step.Unqueue y) v = by (x == y) refl
  where
    by : (t : Bool) → (x == y) ≡ t → is_trying_for (put v.bits.stored y None x) (watch.Bit w b)
        ≡ (false || (is_trying_for (v.bits.stored x) (watch.Bit w b) && not (x == y)))
    by true q = rw q (grind arith)
    by false q = rw q (kept_so (is_trying_for (v.bits.stored x) (watch.Bit w b)))
queued_after w b x (step.Saw y f) v = looked v.bits.stored w b x y (is_off (entry_of f))
queued_after w b x (step.Peek y f) v = looked v.bits.stored w b x y (is_off (entry_of f))
queued_after w b x (step.Unlock h sp) v =
    ap (λ (k : Bits). is_trying_for (k.stored x) (watch.Bit w b)) (unlock_bits v v.walk sp)
    ∙ kept_so (is_trying_for (v.bits.stored x) (watch.Bit w b))
queued_after w b x e v = kept_so (is_trying_for (v.bits.stored x) (watch.Bit w b))

queued_found : (w b x : ℕ) (es : List Step) → is_trying_for ((view_of es).bits.stored x) (watch.Bit w b) ≡ true
    → HasQueuedForBit es w b x
unfolding queued
queued_found w b x es h = found_in (queued w b x) (queues_for w b x) (resettles x) (queued_after w b x) refl es h

queued_told : (w b x : ℕ) (es : List Step) → HasQueuedForBit es w b x
    → is_trying_for ((view_of es).bits.stored x) (watch.Bit w b) ≡ true
unfolding queued
queued_told w b x es s = told_by (queued w b x) (queues_for w b x) (resettles x) (queued_after w b x) es s

-- whether the task has got the bit in its turn
got : ℕ → ℕ → View → Bool
got w b v = v.bits.got (watch.Bit w b)

got_after : (w b : ℕ) → Reading (got w b) (gets w b) (begins w b)
unfolding got
got_after w b (step.State σ) v = by (σ == 0) (v.bits.got (watch.Bit w b))
  where
    by : (a g : Bool) → (a && g) ≡ (false || (g && not (not a)))
    by true true = refl
    by true false = refl
    by false true = refl
    by false false = refl
got_after w b (step.Queue y d) v = refl
got_after w b (step.Consume c n r) v = took_bit w b c r (v.bits.got (watch.Bit w b))
got_after w b (step.Unlock h sp) v =
    ap (λ (k : Bits). k.got (watch.Bit w b)) (unlock_bits v v.walk sp) ∙ kept_so (v.bits.got (watch.Bit w b))
got_after w b e v = kept_so (v.bits.got (watch.Bit w b))

got_found : (w b : ℕ) (es : List Step) → (view_of es).bits.got (watch.Bit w b) ≡ true → HasGot es w b
unfolding got
got_found w b es h = found_in (got w b) (gets w b) (begins w b) (got_after w b) refl es h

got_told : (w b : ℕ) (es : List Step) → HasGot es w b → (view_of es).bits.got (watch.Bit w b) ≡ true
unfolding got
got_told w b es s = told_by (got w b) (gets w b) (begins w b) (got_after w b) es s

-- whether the task owes an answer for an entry that it found off
pending : ℕ → ℕ → View → Bool
pending w b v = v.bits.pending (watch.Bit w b)

-- the step finds off an entry that the task has queued for the bit, which it does not keep
loses : ℕ → ℕ → Step → View → Bool
loses w b (step.Saw y f) v = is_off (entry_of f)
    && (is_trying_for (v.bits.stored y) (watch.Bit w b) && not (v.bits.keeps (watch.Bit w b)))
loses w b (step.Peek y f) v = is_off (entry_of f)
    && (is_trying_for (v.bits.stored y) (watch.Bit w b) && not (v.bits.keeps (watch.Bit w b)))
loses w b _ v = false

or_kept : (p s : Bool) → (p || s) ≡ (s || (p && not false))
or_kept true true = refl
or_kept true false = refl
or_kept false true = refl
or_kept false false = refl

pending_after : (w b : ℕ) → IsSetBy (pending w b) (loses w b) (answers w b)
unfolding pending loses
pending_after w b (step.Saw y f) v = or_kept (v.bits.pending (watch.Bit w b)) (is_off (entry_of f)
    && (is_trying_for (v.bits.stored y) (watch.Bit w b) && not (v.bits.keeps (watch.Bit w b))))
pending_after w b (step.Peek y f) v = or_kept (v.bits.pending (watch.Bit w b)) (is_off (entry_of f)
    && (is_trying_for (v.bits.stored y) (watch.Bit w b) && not (v.bits.keeps (watch.Bit w b))))
pending_after w b (step.Load l r) v = refl
pending_after w b (step.Consume c n r) v = rw (bit_same w b c) refl
pending_after w b (step.Unlock h sp) v =
    ap (λ (k : Bits). k.pending (watch.Bit w b)) (unlock_bits v v.walk sp)
    ∙ kept_so (v.bits.pending (watch.Bit w b))
pending_after w b e v = kept_so (v.bits.pending (watch.Bit w b))

-- what such a step is
record IsLost (w b : ℕ) (e : Step) (v : View) : Type 0 where
  at : ℕ
  off : finds_off at e ≡ true
  queued : is_trying_for (v.bits.stored at) (watch.Bit w b) ≡ true
  unkept : v.bits.keeps (watch.Bit w b) ≡ false

parts : (a b c : Bool) → (a && (b && not c)) ≡ true → (a ≡ true) × (b ≡ true) × (c ≡ false)
parts true true false h = (refl, refl, refl)
parts true true true h = absurd (cc)
parts true false c h = absurd (cc)
parts false b c h = absurd (cc)

is_at : (y : ℕ) (b : Bool) → b ≡ true → ((y == y) && b) ≡ true
is_at y b h = grind arith

lost_of : (w b : ℕ) (e : Step) (v : View) → loses w b e v ≡ true → IsLost w b e v
unfolding loses
lost_of w b (step.Saw y f) v h =
    let p = parts (is_off (entry_of f)) (is_trying_for (v.bits.stored y) (watch.Bit w b))
    (v.bits.keeps (watch.Bit w b)) h in
    record { at = y; off = is_at y (is_off (entry_of f)) p.0; queued = p.1; unkept = p.2 }
lost_of w b (step.Peek y f) v h =
    let p = parts (is_off (entry_of f)) (is_trying_for (v.bits.stored y) (watch.Bit w b))
    (v.bits.keeps (watch.Bit w b)) h in
    record { at = y; off = is_at y (is_off (entry_of f)) p.0; queued = p.1; unkept = p.2 }
lost_of w b e v h = absurd (cc)

of_parts : (x y : ℕ) (stored : ℕ → Option Entry) (w b : ℕ) (off keeps : Bool) → ((x == y) && off) ≡ true
    → is_trying_for (stored x) (watch.Bit w b) ≡ true → keeps ≡ false
    → (off && (is_trying_for (stored y) (watch.Bit w b) && not keeps)) ≡ true
of_parts x y stored w b off keeps f q k =
    let e : x ≡ y = grind arith in
    let t : is_trying_for (stored y) (watch.Bit w b) ≡ true =
    subst (λ (i : ℕ). is_trying_for (stored i) (watch.Bit w b) ≡ true) e q in
    let o : off ≡ true = grind arith in
    rw (o, t, k) refl

of_lost : (w b : ℕ) (e : Step) (v : View) → IsLost w b e v → loses w b e v ≡ true
unfolding loses
of_lost w b (step.Saw y f) v k = of_parts k.at y v.bits.stored w b (is_off (entry_of f))
    (v.bits.keeps (watch.Bit w b)) k.off k.queued k.unkept
of_lost w b (step.Peek y f) v k = of_parts k.at y v.bits.stored w b (is_off (entry_of f))
    (v.bits.keeps (watch.Bit w b)) k.off k.queued k.unkept
of_lost w b e v k = absurd (both_ways false refl k.off)

pending_found : (w b : ℕ) (es : List Step) → (view_of es).bits.pending (watch.Bit w b) ≡ true
    → IsUnanswered es w b
unfolding pending
pending_found w b es h = by (seen_in (pending w b) (loses w b) (answers w b) (pending_after w b) es blank h)
  where
    at : (s : Seen (loses w b) (answers w b) blank es) → IsLost w b s.it (view_of s.earlier)
        → IsUnanswered es w b
    at s k = record {
      at = k.at;
      look = record {
        earlier = s.earlier;
        it = s.it;
        later = s.later;
        split = s.split;
        passes = k.off;
        none_since = s.none_since;
      };
      queued = queued_found w b k.at s.earlier k.queued;
      unkept = λ q. let y : (view_of s.earlier).bits.keeps (watch.Bit w b) ≡ true =
          (keeps_told s.earlier w b).1 q in
          let n : (view_of s.earlier).bits.keeps (watch.Bit w b) ≡ false = k.unkept in cc;
    }

    by : Seen (loses w b) (answers w b) blank es ⊎ ((false ≡ true) × Lacks (answers w b) es)
        → IsUnanswered es w b
    by (inl s) = at s (lost_of w b s.it (view_of s.earlier) s.sets)
    by (inr q) = absurd (both_ways false refl q.0)

-- what is not so
not_true : (b : Bool) → (b ≡ true → ⊥) → b ≡ false
not_true true h = absurd (h refl)
not_true false h = refl

pending_told : (w b : ℕ) (es : List Step) → IsUnanswered es w b
    → (view_of es).bits.pending (watch.Bit w b) ≡ true
unfolding pending
pending_told w b es k = ap (λ (t : List Step). (view_of t).bits.pending (watch.Bit w b)) k.look.split
    ∙ set_at (pending w b) (loses w b) (answers w b) (pending_after w b) k.look.earlier k.look.it k.look.later
    blank
    (of_lost w b k.look.it (view_of k.look.earlier) (record {
      at = k.at;
      off = k.look.passes;
      queued = queued_told w b k.at k.look.earlier k.queued;
      unkept = not_true ((view_of k.look.earlier).bits.keeps (watch.Bit w b))
          (λ q. k.unkept ((keeps_told k.look.earlier w b).0 q));
    })) k.look.none_since

-- the two ways round
trying_of : (entry : ℕ → Option Entry) (a : ℕ) (es : List Step) (w b : ℕ)
    → TryingBy entry a (view_of es) (watch.Bit w b) → IsTrying entry a es w b
trying_of entry a es w b t = record {
  taken = by t.2;
  not_got = λ q. let y : (view_of es).bits.got (watch.Bit w b) ≡ true = got_told w b es q in
      let n : (view_of es).bits.got (watch.Bit w b) ≡ false = t.1 in cc;
}
  where
    by : ((view_of es).bits.pending (watch.Bit w b) ≡ true) ⊎ ((x : ℕ) × (owner x ≡ a)
        × (is_trying_for ((view_of es).bits.stored x) (watch.Bit w b) ≡ true) × (entry x ≡ None))
        → IsUnanswered es w b ⊎ IsUnseen entry a es w b
    by (inl p) = inl (pending_found w b es p)
    by (inr p) = inr (record { at = p.0; own = p.1; queued = queued_found w b p.0 es p.2; gone = p.3 })

of_trying : (entry : ℕ → Option Entry) (a : ℕ) (es : List Step) (w b : ℕ) → IsTrying entry a es w b
    → TryingBy entry a (view_of es) (watch.Bit w b)
of_trying entry a es w b t = (
  refl,
  not_true ((view_of es).bits.got (watch.Bit w b)) (λ q. t.not_got (got_found w b es q)),
  by t.taken,
)
  where
    by : IsUnanswered es w b ⊎ IsUnseen entry a es w b
        → ((view_of es).bits.pending (watch.Bit w b) ≡ true) ⊎ ((x : ℕ) × (owner x ≡ a)
        × (is_trying_for ((view_of es).bits.stored x) (watch.Bit w b) ≡ true) × (entry x ≡ None))
    by (inl k) = inl (pending_told w b es k)
    by (inr k) = inr (k.at, k.own, queued_told w b k.at es k.queued, k.gone)

pub trying_told : TryingTold
trying_told entry a es w b = (trying_of entry a es w b, of_trying entry a es w b)
