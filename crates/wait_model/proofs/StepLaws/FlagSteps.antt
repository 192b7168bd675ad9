-- The law of no lost flag, step by step, but for publish and unlock.
use Rattle.std.proofs.Common.{refl, sym, ◌∙◌, ap, subst, arith, inl, inr}
use Rattle.std.specs.Prelude.{ℕ, ◌≡◌, ◌≢◌, ◌-◌, ◌^◌, ◌<◌, ◌⊎◌, Option, Some, None, Bool, true, false, not, ◌&&◌, IsTrue}
use Rattle.wait_model.specs.{declared.watches.Watch.Watch, declared.watches.Entry.Entry, declared.watches.Aim.Aim}
use Rattle.wait_model.specs.{declared.steps.Step.Step, Facts.Facts, Fold.after, Words.flag, Words.entry_of}
use Rattle.wait_model.specs.{Laws.Unheard, Laws.NoLostFlag, Functions.put, Rows.Reads, Rows.Lowers}
use Rattle.wait_model.specs.Views.{View, ahead, warns}
use Rattle.wait_model.specs.Watches.{head_of, failing, owner, page}
use Rattle.wait_model.specs.Tables.{Words, Table, met, next}
use Rattle.wait_model.proofs.{StepLaws.WakeSteps.ahead_begun, StepLaws.LoadSteps.owes_peeked}
use Rattle.wait_model.proofs.{Sameness.consume_sets_none, Sameness.failing_unmet}
use Rattle.wait_model.proofs.StepLaws.UntouchedParts.{back_view, flag_framed, at_view}
use Rattle.wait_model.proofs.Functions.{put_case, put_at, bool_or}
use Rattle.wait_model.specs.declared.steps.Step.TheVariants as step

pub back_unheard : (s : Table) (a : ℕ) (ev : Step) (x : ℕ) (e : Entry) (on : Watch) (m : ℕ)
    → ((after ev (s.view a)).checks.low x on ≡ Some m → (s.view a).checks.low x on ≡ Some m)
    → ((next s a ev).entry x ≡ Some e → s.entry x ≡ Some e)
    → ((next s a ev).flag x ≡ false → s.flag x ≡ false)
    → (met (next s a ev).words on ≡ true → met s.words on ≡ true)
    → Unheard (next s a ev) x e on m → Unheard s x e on m
back_unheard s a ev x e on m own entry flag set z = record {
  stands = entry z.stands;
  watches = z.watches;
  kind = z.kind;
  quiet = flag z.quiet;
  is_set = set z.is_set;
  low = back_view s a (after ev (s.view a)) (λ v. v.checks.low x on ≡ Some m) own (owner x) z.low;
}

-- a step that changes no entry, flag, count or word, and nothing of what the law reads of the own view
still_flags : (s : Table) (a : ℕ) (ev : Step) → (after ev (s.view a)).checks.low ≡ (s.view a).checks.low
    → ((x : ℕ) (e : Entry) (σ : ℕ) → IsTrue (warns (s.view a) x e σ)
    → IsTrue (warns (after ev (s.view a)) x e σ))
    → ((next s a ev).entry ≡ s.entry) → ((next s a ev).flag ≡ s.flag) → ((next s a ev).spent ≡ s.spent)
    → ((next s a ev).words ≡ s.words) → NoLostFlag s → NoLostFlag (next s a ev)
still_flags s a ev low warn entry flag spent words law x e on m z = flag_framed s a ev x e on m law
    (back_unheard s a ev x e on m (λ h. subst (λ (f : ℕ → Watch → Option ℕ). f x on ≡ Some m) low h)
    (λ h. subst (λ (f : ℕ → Option Entry). f x ≡ Some e) entry h)
    (λ h. subst (λ (f : ℕ → Bool). f x ≡ false) flag h) (λ h. subst (λ (w : Words). met w on ≡ true) words h)
    z)
    (λ h. (
      h.0,
      subst (λ (f : ℕ → ℕ). (m < f (head_of e.watch)) ⊎ (f (head_of e.watch) ≡ 2 ^ 62 - 1))
          (sym spent) h.1,
    ))
    (λ σ. warn x e σ)

pub state_flags : (s : Table) (a σ : ℕ) → NoLostFlag s → NoLostFlag (next s a (step.State σ))
state_flags s a σ = still_flags s a (step.State σ) refl (λ x e σ q. q) refl refl refl refl

pub sleep_flags : (s : Table) (a w : ℕ) → NoLostFlag s → NoLostFlag (next s a (step.Sleep w))
sleep_flags s a w = still_flags s a (step.Sleep w) refl (λ x e σ q. q) refl refl refl refl

pub wake_flags : (s : Table) (a who mask w : ℕ) → NoLostFlag s → NoLostFlag (next s a (step.Wake who mask w))
wake_flags s a who mask w = still_flags s a (step.Wake who mask w) refl (λ x e σ q. q) refl refl refl refl

pub signal_flags : (s : Table) (a who : ℕ) (fatal : Bool) (w : ℕ) → NoLostFlag s
    → NoLostFlag (next s a (step.Signal who fatal w))
signal_flags s a who fatal w = still_flags s a (step.Signal who fatal w) refl (λ x e σ q. q) refl refl refl
    refl

pub accept_flags : (s : Table) (a w : ℕ) → NoLostFlag s → NoLostFlag (next s a (step.Accept w))
accept_flags s a w = still_flags s a (step.Accept w) refl (λ x e σ q. q) refl refl refl refl

pub look_flags : (s : Table) (a w : ℕ) → NoLostFlag s → NoLostFlag (next s a (step.Look w))
look_flags s a w = still_flags s a (step.Look w) refl (λ x e σ q. q) refl refl refl refl

pub saw_flags : (s : Table) (a y w : ℕ) → NoLostFlag s → NoLostFlag (next s a (step.Saw y w))
saw_flags s a y w = still_flags s a (step.Saw y w) refl (λ x e σ q. q) refl refl refl refl

pub mark_flags : (s : Table) (a h q : ℕ) → NoLostFlag s → NoLostFlag (next s a (step.Mark h q))
mark_flags s a h q = still_flags s a (step.Mark h q) refl (λ x e σ q. q) refl refl refl refl

pub unmark_flags : (s : Table) (a : ℕ) → NoLostFlag s → NoLostFlag (next s a step.Unmark)
unmark_flags s a = still_flags s a step.Unmark refl (λ x e σ q. q) refl refl refl refl

pub read_flags : (s : Table) (a y w : ℕ) → NoLostFlag s → NoLostFlag (next s a (step.Flag y w))
read_flags s a y w = still_flags s a (step.Flag y w) refl (λ x e σ q. q) refl refl refl refl

warns_locked : (v : View) (h : ℕ) (aim : Option Aim) (w x : ℕ) (e : Entry) (σ : ℕ) → IsTrue (warns v x e σ)
    → IsTrue (warns (after (step.Lock h aim w) v) x e σ)
warns_locked v h aim w x e σ q = grind (arith, ahead_begun v.walk aim (v.hold.flagged x) e.watch σ e.place)

pub lock_flags : (s : Table) (a h : ℕ) (aim : Option Aim) (w : ℕ) → NoLostFlag s
    → NoLostFlag (next s a (step.Lock h aim w))
lock_flags s a h aim w = still_flags s a (step.Lock h aim w) refl
    (λ x e σ. warns_locked (s.view a) h aim w x e σ) refl refl refl refl

pub unqueue_flags : (s : Table) (a y : ℕ) → NoLostFlag s → NoLostFlag (next s a (step.Unqueue y))
unqueue_flags s a y law x e on m z = flag_framed s a (step.Unqueue y) x e on m law
    (back_unheard s a (step.Unqueue y) x e on m (λ q. q) (λ q. grind arith) (λ q. q) (λ q. q) z) (λ q. q)
    (λ _ q. q)

pub consume_flags : (s : Table) (a : ℕ) (c : Watch) (n r : ℕ) → NoLostFlag s → Lowers s.words c n
    → NoLostFlag (next s a (step.Consume c n r))
consume_flags s a c n r law al x e on m z =
    flag_framed s a (step.Consume c n r) x e on m law (back_unheard s a (step.Consume c n r) x e on m (λ q. q)
    (λ q. q) (λ q. q) (consume_sets_none s.words on c n al) z) (λ q. q) (λ _ q. q)

pub load_flags : (s : Table) (a : ℕ) (l : Watch) (r : ℕ) → NoLostFlag s → Reads s.words l r
    → NoLostFlag (next s a (step.Load l r))
load_flags s a l r law al x e on m z = elim (bool_or (failing l r on)) [
  | inl f ↦ let un : met s.words on ≡ false = failing_unmet s.words l r on al f
      in let is : met s.words on ≡ true = z.is_set in absurd (cc)
  | inr f ↦ flag_framed s a (step.Load l r) x e on m law
      (back_unheard s a (step.Load l r) x e on m (λ q. grind arith) (λ q. q) (λ q. q) (λ q. q) z) (λ q. q)
      (λ _ q. q)
]

pub peek_flags : (s : Table) (a y w : ℕ) → Facts s → NoLostFlag s → entry_of w ≡ s.entry y
    → NoLostFlag (next s a (step.Peek y w))
peek_flags s a y w k law al x e on m z =
    flag_framed s a (step.Peek y w) x e on m law (back_unheard s a (step.Peek y w) x e on m (λ q. q) (λ q. q)
    (λ q. q) (λ q. q) z) (λ q. q) (λ σ. owes_peeked s a y w x e σ
    (ahead (s.view a).walk ((s.view a).hold.flagged x) e.watch σ e.place) (k.named x e z.stands) al z.stands)

-- an entry with no failed load since it was queued, or since its flag was cleared
pub low_put : (f : ℕ → Watch → Option ℕ) (y x : ℕ) (on : Watch) (m : ℕ) → put f y (λ _. None) x on ≡ Some m
    → (x ≢ y) × (f x on ≡ Some m)
low_put f y x on m h = (grind arith, grind arith)

pub own_low : (s : Table) (a y x : ℕ) (on : Watch) (m : ℕ) (v : View) → owner y ≡ a
    → v.checks.low ≡ put (s.view a).checks.low y (λ _. None)
    → (put s.view a v (owner x)).checks.low x on ≡ Some m → x ≢ y
own_low s a y x on m v own is h q =
    let lo : v.checks.low x on ≡ Some m = at_view s a (owner x) v (λ u. u.checks.low x on ≡ Some m)
    (ap owner q ∙ own) h in
    (low_put (s.view a).checks.low y x on m (subst (λ (f : ℕ → Watch → Option ℕ). f x on ≡ Some m) is lo)).0 q

pub queue_flags : (s : Table) (a y : ℕ) (d : Entry) → NoLostFlag s → owner y ≡ a
    → NoLostFlag (next s a (step.Queue y d))
queue_flags s a y d law own x e on m z = elim (put_case s.entry y (Some d) x) [
  | inl q ↦ absurd (own_low s a y x on m (after (step.Queue y d) (s.view a)) own refl z.low q.0)
  | inr q ↦ flag_framed s a (step.Queue y d) x e on m law
      (back_unheard s a (step.Queue y d) x e on m (λ h. (low_put (s.view a).checks.low y x on m h).1)
      (λ h. sym q.1 ∙ h) (λ h. h) (λ h. h) z) (λ h. h) (λ _ h. h)
]

pub unflag_flags : (s : Table) (a y : ℕ) (o : Option ℕ) → NoLostFlag s → owner y ≡ a
    → NoLostFlag (next s a (step.Unflag y o))
unflag_flags s a y o law own x e on m z = elim (put_case s.flag y false x) [
  | inl q ↦ absurd (own_low s a y x on m (after (step.Unflag y o) (s.view a)) own refl z.low q.0)
  | inr q ↦ flag_framed s a (step.Unflag y o) x e on m law
      (back_unheard s a (step.Unflag y o) x e on m (λ h. (low_put (s.view a).checks.low y x on m h).1) (λ h. h)
      (λ h. sym q.1 ∙ h) (λ h. h) z) (λ h. h) (λ _ h. h)
]

pub woken_flags : (s : Table) (a y : ℕ) → NoLostFlag s → NoLostFlag (next s a (step.Woken y))
woken_flags s a y law x e on m z = elim (put_case s.flag y true x) [
  | inl q ↦ let is : (next s a (step.Woken y)).flag x ≡ false = z.quiet in absurd (cc (q.1))
  | inr q ↦ flag_framed s a (step.Woken y) x e on m law (back_unheard s a (step.Woken y) x e on m (λ h. h)
      (λ h. h) (λ h. sym q.1 ∙ h) (λ h. h) z) (λ h. h) (λ σ h. other (s.view a) σ q.0 h)
]
  where
    other : (v : View) (σ : ℕ) → x ≢ y → IsTrue (warns v x e σ)
        → IsTrue (warns (after (step.Woken y) v) x e σ)
    other v σ ne h =
        put_at (λ b. ((v.duty.owes e.watch σ)
        && (not (v.duty.cleared e.watch x) && ahead v.walk b e.watch σ e.place)) ≡ true) v.hold.flagged y true
        x (λ q. absurd (ne q)) (λ _. h)

-- the steps of a hand-off of a page
pub handed_flags : (s : Table) (a y : ℕ) → NoLostFlag s → NoLostFlag (next s a (step.Handed y))
handed_flags s a y law x e on m z = elim (put_case s.flag y true x) [
  | inl q ↦ let is : (next s a (step.Handed y)).flag x ≡ false = z.quiet in absurd (cc (q.1))
  | inr q ↦ flag_framed s a (step.Handed y) x e on m law (back_unheard s a (step.Handed y) x e on m (λ h. h)
      (λ h. h) (λ h. sym q.1 ∙ h) (λ h. h) z) (λ h. h) (λ _ h. h)
]

pub tas_for_flags : (s : Table) (a y p r : ℕ) → NoLostFlag s → NoLostFlag (next s a (step.TasFor y p r))
tas_for_flags s a y p r law x e on m z = flag_framed s a (step.TasFor y p r) x e on m law
    (back_unheard s a (step.TasFor y p r) x e on m (λ q. q) (λ q. q) (λ q. q)
    (consume_sets_none s.words on (page p) 1 tt) z) (λ q. q) (λ _ q. q)
