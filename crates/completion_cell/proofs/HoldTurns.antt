-- How a hold of a wait begins, and what it leaves queued.
use Rattle.std.proofs.Common.{refl, sym, ◌∙◌, ap, subst, arith, eq-eqb}
use Rattle.std.specs.Prelude.{ℕ, ◌≡◌, ◌≢◌, ◌≤◌, ◌+◌, ◌==◌, Bool, true, false, if◌then◌else◌, Option, Some, None, List}
use Rattle.std.specs.Prelude.{[], ◌∷◌, ◌++◌}
use Rattle.wait_model.specs.{declared.steps.Step.Step, declared.watches.Aim.Aim, declared.watches.Entry.Entry}
use Rattle.wait_model.specs.{Fold.view_of, Runs.own, Tables.Table, Facts.Agrees, Watches.head_of, Words.entry_of}
use Rattle.wait_model.specs.Words.{flag}
use Rattle.wait_model.specs.Permits.{Dealt, dealt, deals, done_head, finds_handed, none_dealt, shows_at}
use Rattle.wait_model.specs.Views.{Bits, View, Look, unseen, off, elsewhere, shown, look_at, blank}
use Rattle.wait_model.specs.declared.steps.Step.TheVariants as step
use Rattle.wait_model.proofs.{Functions.put_at, HistoryLaws.HoldLooks.after_snoc, PermitLaws.PermitTurns.look_seen}
use Rattle.wait_model.proofs.{PermitLaws.PermitTurns.not_unseen, StepLaws.UnlockSteps.unlock_bits}
use Rattle.wait_model.proofs.WordLaws.DecodedWords.{owner_own}
use Rattle.wait_model.proofs.PermitLaws.OwnTurns.{clash, deals_snoc, flag_small}
use Rattle.wait_rule.specs.{LeftEntries.Order, Interleavings.table_of}
use Rattle.wait_rule.proofs.KnownLaws.HandedSteps.{OrderStep, order_step, order_view}
use Rattle.wait_rule.proofs.KnownLaws.Moments.{kept_of}
use Rattle.completion_cell.specs.HeldPermits.{WaitsForPermit}

-- the hold begins
module _ (d a : ℕ) (front : List Step) (aim : Option Aim) (w : ℕ) where
  abbrev lock : Step
  lock = step.Lock (done_head d) aim w

  abbrev first : List Step
  first = front ++ lock ∷ []

  same : (done_head d == done_head d) ≡ true
  same = eq-eqb (done_head d) (done_head d) refl

  begun : dealt d a first ≡ deals d (own a) (view_of front) (dealt d a front) lock
  begun = deals_snoc d (own a) blank none_dealt front lock

  pub begun_head : (view_of first).hold.head ≡ Some (done_head d)
  begun_head = ap (λ (v : View). v.hold.head) (after_snoc blank front lock)

  begun_debt : (dealt d a first).debt ≡ 0
  begun_debt = ap (λ (u : Dealt). u.debt) begun ∙ ap (λ (b : Bool). if b then 0 else (dealt d a front).debt) same

  begun_count : (dealt d a first).count ≡ None
  begun_count = ap (λ (u : Dealt). u.count) begun
      ∙ ap (λ (b : Bool). if b then None else (dealt d a front).count) same

  pub begins_off : (dealt d a front).left ≡ false → WaitsForPermit d a first None 0
  begins_off left = record {
    head = begun_head;
    seen = λ is. absurd (clash (dealt d a first).left is (ap (λ (u : Dealt). u.left) begun ∙ left));
    count = begun_count;
    debt = begun_debt;
  }

  module _ (f : ℕ) where
    abbrev saw : Step
    saw = step.Saw (own a) f

    abbrev pub found : ℕ
    found = (dealt d a first).debt
        + flag (finds_handed d (own a) (view_of first) (dealt d a first) (own a) (entry_of f))

    pub found_few : found ≤ 1
    found_few =
        let none = begun_debt in
        let few = flag_small (finds_handed d (own a) (view_of first) (dealt d a first) (own a) (entry_of f)) in
        omega (arith, none, few)

    looked : (view_of (first ++ saw ∷ [])).hold.book (own a) ≢ unseen
    looked = subst (λ (v : View). v.hold.book (own a) ≢ unseen) (sym (after_snoc blank first saw))
        (put_at (λ (l : Look). l ≢ unseen) (view_of first).hold.book (own a)
        (look_at (view_of first).hold.head (entry_of f)) (own a)
        (λ _. subst (λ (q : Option ℕ). look_at q (entry_of f) ≢ unseen) (sym begun_head)
        (not_unseen (look_at (Some (done_head d)) (entry_of f)) (look_seen (done_head d) (entry_of f))))
        (λ ne. absurd (ne refl)))

    pub begins_looking : WaitsForPermit d a (first ++ saw ∷ []) None found
    begins_looking = record {
      head = ap (λ (v : View). v.hold.head) (after_snoc blank first saw) ∙ begun_head;
      seen = λ left. looked;
      count = ap (λ (u : Dealt). u.count) (deals_snoc d (own a) blank none_dealt first saw) ∙ begun_count;
      debt = ap (λ (u : Dealt). u.debt) (deals_snoc d (own a) blank none_dealt first saw);
    }

-- the heads of two completions are two
pub head_apart : (c d : ℕ) → done_head d ≡ done_head c → d ≡ c
unfolding head_of
head_apart c d same = omega (arith, same)

-- where the own entry is known to be off, the hold that was given back left it so, whether its spent count rose or not
module _ (d a : ℕ) (spent : Bool) (front : List Step) (o : Order a (front ++ step.Unlock (done_head d) spent ∷ [])) where
  abbrev back : Step
  back = step.Unlock (done_head d) spent

  at_back : OrderStep a front back
  at_back = order_step a front back [] o

  abbrev s : Table
  s = table_of at_back.order.steps

  stood : (e : Entry) → (view_of front).hold.book (own a) ≡ shown e → (view_of front).bits.stored (own a) ≡ Some e
  stood e is =
      let kept = kept_of at_back.order.steps at_back.order.may in
      let told = order_view a front at_back.order in
      let agrees = (kept.facts.views a).hold.agrees (done_head d) (own a) at_back.allowed.0 in
      let now : Agrees (done_head d) (shown e) (s.entry (own a)) =
      subst (λ (l : Look). Agrees (done_head d) l (s.entry (own a)))
      (ap (λ (v : View). v.hold.book (own a)) told ∙ is) agrees in
      sym (ap (λ (v : View). v.bits.stored (own a)) told)
      ∙ (sym (ap (λ (i : ℕ). (s.view i).bits.stored (own a)) (owner_own a)) ∙ kept.bits.stored_is (own a) e now.0)

  pub home_left : (view_of (front ++ back ∷ [])).bits.stored (own a) ≡ None
      → (dealt d a (front ++ back ∷ [])).left ≡ false
  home_left none = ap (λ (u : Dealt). u.left) (deals_snoc d (own a) blank none_dealt front back)
      ∙ (ap (λ (b : Bool). if b then shows_at (done_head d) ((view_of front).hold.book (own a))
      else (dealt d a front).left) (eq-eqb (done_head d) (done_head d) refl) ∙ by ((view_of front).hold.book (own a))
      refl)
    where
      was : (view_of front).bits.stored (own a) ≡ None
      was = sym (ap (λ (b : Bits). b.stored (own a)) (ap (λ (v : View). v.bits) (after_snoc blank front back)
          ∙ unlock_bits (view_of front) (view_of front).walk spent)) ∙ none

      by : (l : Look) → (view_of front).hold.book (own a) ≡ l → shows_at (done_head d) l ≡ false
      by unseen is = refl
      by off is = refl
      by elsewhere is = refl
      by (shown e) is = absurd (let no : None ≡ Some e = sym was ∙ stood e is in cc)
