-- What each step does to the facts on bits.
use Rattle.std.proofs.Common.{refl, sym, ◌∙◌, ap, subst, inl, inr}
use Rattle.std.specs.Prelude.{ℕ, ◌≡◌, ◌≢◌, ◌⊎◌, Option, Some, None, Bool, true, false}
use Rattle.wait_model.specs.{declared.watches.Watch.Watch, declared.watches.Entry.Entry, declared.steps.Step.Step}
use Rattle.wait_model.specs.{Views.Walk, Views.View, Fold.forgotten, Fold.after, Words.entry_of, Functions.put}
use Rattle.wait_model.specs.Facts.{Facts, BitFacts, Kept}
use Rattle.wait_model.specs.Watches.{same, is_bit, owner}
use Rattle.wait_model.specs.Tables.{Table, met, next}
use Rattle.wait_model.specs.Laws.{Waits, Tried, Others}
use Rattle.wait_model.proofs.{StepLaws.OwnSteps.TriedMoves, StepLaws.UntouchedParts.Moves, Functions.put_case}
use Rattle.wait_model.proofs.Functions.{put_at}
use Rattle.wait_model.proofs.StepLaws.QuietSteps.{slept_state, signal_state, accept_state}
use Rattle.wait_model.proofs.StepLaws.CombinedLaws.{HoldFrom, selected_from, roused_from}
use Rattle.wait_model.specs.declared.steps.Step.TheVariants as step

pub record BitStep (s : Table) (a : ℕ) (ev : Step) : Type 0 where
  pub holds : HoldFrom (s.view a) ev
  pub pick : (h : ℕ) (g : Walk) (x : ℕ) (e : Entry) (on : Watch) (m σ : ℕ) → (s.view a).hold.head ≡ Some h
      → (s.view a).walk ≡ Some g → (after ev (s.view a)).hold.picked ≡ true → Waits (next s a ev) x e on m σ
      → same e.watch g.watch ≡ true → is_bit g.watch ≡ true
      → ((s.view a).hold.picked ≡ true) ⊎ (Others (next s a ev) a x e σ ⊎ Tried (next s a ev) e.watch)
  pub rouse : (u : ℕ) (c : Watch) → is_bit c ≡ true → met (next s a ev).words c ≡ true
      → (after ev (s.view a)).hold.roused u ≡ true → ((s.view a).hold.roused u ≡ true)
      ⊎ (((next s a ev).view u).bits.got c ≡ false)
  pub gots : (c : Watch) → is_bit c ≡ true → met (next s a ev).words c ≡ true → (s.view a).bits.got c ≡ false
      → (after ev (s.view a)).bits.got c ≡ false
  pub keepers : (c : Watch) → is_bit c ≡ true → (after ev (s.view a)).bits.keeps c ≡ true
      → ((s.view a).bits.keeps c ≡ true) ⊎ ((b : ℕ) → (s.view b).bits.keeps c ≡ false)
  pub got_keeps : (c : Watch) → is_bit c ≡ true → (after ev (s.view a)).bits.got c ≡ true
      → ((next s a ev).task a).state ≢ 0 → (after ev (s.view a)).bits.keeps c ≡ true
  pub others_down : (b : ℕ) → b ≢ a → ((next s a ev).task b).state ≢ 0 → (s.task b).state ≢ 0
  pub stored_own : (x : ℕ) (e : Entry) → owner x ≡ a → (next s a ev).entry x ≡ Some e
      → (after ev (s.view a)).bits.stored x ≡ Some e
  pub stored_other : (x : ℕ) (e : Entry) → owner x ≢ a → (next s a ev).entry x ≡ Some e → s.entry x ≡ Some e

-- a bit that is clear is kept by none
pub kept_by_none : (s : Table) (c : Watch) → Facts s → is_bit c ≡ true → met s.words c ≡ true → (b : ℕ)
    → (s.view b).bits.keeps c ≡ false
kept_by_none s c k i m b = by ((s.view b).bits.keeps c) refl
  where
    by : (t : Bool) → (s.view b).bits.keeps c ≡ t → (s.view b).bits.keeps c ≡ false
    by false q = q
    by true q = absurd (let u : met s.words c ≡ false = (k.views b).bits.kept c i q in cc)

pub bits_from : (s : Table) (a : ℕ) (ev : Step) → Kept s → Facts (next s a ev) → Moves s a ev
    → TriedMoves s a ev → BitStep s a ev → BitFacts (next s a ev)
bits_from s a ev k k2 moves tried st = record {
  one_keeper = λ b d c i p q. keeper b d c i p q (put_case s.view a (after ev (s.view a)) b)
      (put_case s.view a (after ev (s.view a)) d);
  got_keeps = λ b c i g down. put_at (λ (v : View). v.bits.got c ≡ true → v.bits.keeps c ≡ true) s.view a
      (after ev (s.view a)) b
      (λ q h. st.got_keeps c i h (subst (λ (j : ℕ). ((next s a ev).task j).state ≢ 0) q down))
      (λ ne h. k.bits.got_keeps b c i h (st.others_down b ne down)) g;
  stored_is = λ x e q. put_at (λ (v : View). v.bits.stored x ≡ Some e) s.view a (after ev (s.view a))
      (owner x) (λ o. st.stored_own x e o q) (λ ne. k.bits.stored_is x e (st.stored_other x e ne q));
  roused = roused_from s a ev k k2 moves st.holds st.rouse st.gots;
  selected = selected_from s a ev k k2 moves tried st.holds st.pick;
}
  where
    mixed : (b : ℕ) (c : Watch) → is_bit c ≡ true → (after ev (s.view a)).bits.keeps c ≡ true
        → (s.view b).bits.keeps c ≡ true → b ≡ a
    mixed b c i own other = elim (st.keepers c i own) [
      | inl h ↦ k.bits.one_keeper b a c i other h
      | inr none ↦ absurd (let u : (s.view b).bits.keeps c ≡ false = none b in cc)
    ]

    keeper : (b d : ℕ) (c : Watch) → is_bit c ≡ true
        → (put s.view a (after ev (s.view a)) b).bits.keeps c ≡ true
        → (put s.view a (after ev (s.view a)) d).bits.keeps c ≡ true
        → ((b ≡ a) × (put s.view a (after ev (s.view a)) b ≡ after ev (s.view a)))
        ⊎ ((b ≢ a) × (put s.view a (after ev (s.view a)) b ≡ s.view b))
        → ((d ≡ a) × (put s.view a (after ev (s.view a)) d ≡ after ev (s.view a)))
        ⊎ ((d ≢ a) × (put s.view a (after ev (s.view a)) d ≡ s.view d)) → b ≡ d
    keeper b d c i p q (inl r) (inl t) = r.0 ∙ sym t.0
    keeper b d c i p q (inl r) (inr t) = r.0
        ∙ sym (mixed d c i (subst (λ (v : View). v.bits.keeps c ≡ true) r.1 p)
        (subst (λ (v : View). v.bits.keeps c ≡ true) t.1 q))
    keeper b d c i p q (inr r) (inl t) = mixed b c i (subst (λ (v : View). v.bits.keeps c ≡ true) t.1 q)
        (subst (λ (v : View). v.bits.keeps c ≡ true) r.1 p) ∙ sym t.0
    keeper b d c i p q (inr r) (inr t) =
        k.bits.one_keeper b d c i (subst (λ (v : View). v.bits.keeps c ≡ true) r.1 p)
        (subst (λ (v : View). v.bits.keeps c ≡ true) t.1 q)

-- a step that leaves the hold, the bits and the entries alone
pub quiet_bits : (s : Table) (a : ℕ) (ev : Step) → BitFacts s
    → (after ev (s.view a)).hold.head ≡ (s.view a).hold.head → (after ev (s.view a)).walk ≡ (s.view a).walk
    → (after ev (s.view a)).hold.picked ≡ (s.view a).hold.picked
    → (after ev (s.view a)).hold.roused ≡ (s.view a).hold.roused
    → (after ev (s.view a)).bits.got ≡ (s.view a).bits.got
    → (after ev (s.view a)).bits.keeps ≡ (s.view a).bits.keeps
    → ((x : ℕ) (e : Entry) → owner x ≡ a → (next s a ev).entry x ≡ Some e → (s.view a).bits.stored x ≡ Some e
    → (after ev (s.view a)).bits.stored x ≡ Some e)
    → ((next s a ev).entry ≡ s.entry) → ((b : ℕ) → ((next s a ev).task b).state ≢ 0 → (s.task b).state ≢ 0)
    → BitStep s a ev
quiet_bits s a ev k hold walk picked roused got keeps stored entry down = record {
  holds = λ h w p q r. (w, sym hold ∙ p, sym walk ∙ q, refl);
  pick = λ h g x e on m σ p q r z sa bi. inl (sym picked ∙ r);
  rouse = λ u c i m r. inl (subst (λ (f : ℕ → Bool). f u ≡ true) roused r);
  gots = λ c i m g. subst (λ (f : Watch → Bool). f c ≡ false) (sym got) g;
  keepers = λ c i h. inl (subst (λ (f : Watch → Bool). f c ≡ true) keeps h);
  got_keeps = λ c i g d. subst (λ (f : Watch → Bool). f c ≡ true) (sym keeps)
      (k.got_keeps a c i (subst (λ (f : Watch → Bool). f c ≡ true) got g) (down a d));
  others_down = λ b ne d. down b d;
  stored_own = λ x e o q. stored x e o q (subst (λ (i : ℕ). (s.view i).bits.stored x ≡ Some e) o
      (k.stored_is x e (subst (λ (f : ℕ → Option Entry). f x ≡ Some e) entry q)));
  stored_other = λ x e ne q. subst (λ (f : ℕ → Option Entry). f x ≡ Some e) entry q;
}

pub sleep_bits : (s : Table) (a w : ℕ) → BitFacts s → BitStep s a (step.Sleep w)
sleep_bits s a w k = quiet_bits s a (step.Sleep w) k refl refl refl refl refl refl (λ x e o q h. h) refl
    (λ b d. subst (λ (n : ℕ). n ≢ 0) (slept_state s a w b d) d)

pub signal_bits : (s : Table) (a who : ℕ) (fatal : Bool) (w : ℕ) → BitFacts s
    → BitStep s a (step.Signal who fatal w)
signal_bits s a who fatal w k = quiet_bits s a (step.Signal who fatal w) k refl refl refl refl refl refl
    (λ x e o q h. h) refl (λ b d. subst (λ (n : ℕ). n ≢ 0) (signal_state s a who fatal w b) d)

pub accept_bits : (s : Table) (a w : ℕ) → BitFacts s → BitStep s a (step.Accept w)
accept_bits s a w k = quiet_bits s a (step.Accept w) k refl refl refl refl refl refl (λ x e o q h. h) refl
    (λ b d. subst (λ (n : ℕ). n ≢ 0) (accept_state s a w b) d)

pub look_bits : (s : Table) (a w : ℕ) → BitFacts s → BitStep s a (step.Look w)
look_bits s a w k = quiet_bits s a (step.Look w) k refl refl refl refl refl refl (λ x e o q h. h) refl
    (λ b d. d)

pub load_bits : (s : Table) (a : ℕ) (l : Watch) (r : ℕ) → BitFacts s → BitStep s a (step.Load l r)
load_bits s a l r k = quiet_bits s a (step.Load l r) k refl refl refl refl refl refl (λ x e o q h. h) refl
    (λ b d. d)

pub woken_bits : (s : Table) (a y : ℕ) → BitFacts s → BitStep s a (step.Woken y)
woken_bits s a y k = quiet_bits s a (step.Woken y) k refl refl refl refl refl refl (λ x e o q h. h) refl
    (λ b d. d)

pub handed_bits : (s : Table) (a y : ℕ) → BitFacts s → BitStep s a (step.Handed y)
handed_bits s a y k = quiet_bits s a (step.Handed y) k refl refl refl refl refl refl (λ x e o q h. h) refl
    (λ b d. d)

pub flag_bits : (s : Table) (a y w : ℕ) → BitFacts s → BitStep s a (step.Flag y w)
flag_bits s a y w k = quiet_bits s a (step.Flag y w) k refl refl refl refl refl refl (λ x e o q h. h) refl
    (λ b d. d)

pub mark_bits : (s : Table) (a h q : ℕ) → BitFacts s → BitStep s a (step.Mark h q)
mark_bits s a h q k = quiet_bits s a (step.Mark h q) k refl refl refl refl refl refl (λ x e o q h. h) refl
    (λ b d. d)

pub unmark_bits : (s : Table) (a : ℕ) → BitFacts s → BitStep s a step.Unmark
unmark_bits s a k = quiet_bits s a step.Unmark k refl refl refl refl refl refl (λ x e o q h. h) refl
    (λ b d. d)

-- an entry that stands was not found off
pub still_stored : (v : View) (entry : ℕ → Option Entry) (y : ℕ) (f : Option Entry) (x : ℕ) (e : Entry)
    → f ≡ entry y → entry x ≡ Some e → v.bits.stored x ≡ Some e → forgotten v y f x ≡ Some e
still_stored v entry y f x e al st old = go f al
  where
    go : (f : Option Entry) → f ≡ entry y → forgotten v y f x ≡ Some e
    go None q = put_at (λ o. o ≡ Some e) v.bits.stored y None x
        (λ r. absurd (let z : entry x ≡ entry y = ap entry r in cc)) (λ _. old)
    go (Some d) q = old

pub saw_bits : (s : Table) (a y w : ℕ) → BitFacts s → entry_of w ≡ s.entry y → BitStep s a (step.Saw y w)
saw_bits s a y w k al = quiet_bits s a (step.Saw y w) k refl refl refl refl refl refl
    (λ x e o q h. still_stored (s.view a) s.entry y (entry_of w) x e al q h) refl (λ b d. d)

pub peek_bits : (s : Table) (a y w : ℕ) → BitFacts s → entry_of w ≡ s.entry y → BitStep s a (step.Peek y w)
peek_bits s a y w k al = quiet_bits s a (step.Peek y w) k refl refl refl refl refl refl
    (λ x e o q h. still_stored (s.view a) s.entry y (entry_of w) x e al q h) refl (λ b d. d)
