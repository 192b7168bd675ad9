-- The conditions for which waits run, and the kinds and forms of their entries.
use Rattle.std.proofs.Common.{◌∙◌, ap, sym, refl, subst, inl, inr, arith}
use Rattle.std.proofs.lemmas.Bool.Decides.{nat_tests}
use Rattle.std.specs.Prelude.{ℕ, ◌≡◌, ◌+◌, ◌<◌, ◌≤◌, nat_lt, Bool, true, false, if◌then◌else◌}
use Rattle.wait_model.specs.{declared.queues.Form.Form, declared.tasks.How.How, declared.watches.Kind.Kind}
use Rattle.wait_model.specs.{declared.watches.Watch.Watch}
use Rattle.wait_model.specs.declared.layout.TheConstants.{BIT_WORDS, FIRST_DONE_HEAD, FIRST_SIMPLE, HEADS}
use Rattle.wait_model.specs.declared.layout.TheConstants.{PLAIN_CONDITIONS, VARIABLES}
use Rattle.wait_model.specs.Watches.{IsThere, bare, head_of, kind_for}
use Rattle.wait_model.specs.declared.queues.Form.TheVariants as forms
use Rattle.wait_model.specs.declared.watches.Kind.TheVariants as kind
use Rattle.wait_model.specs.declared.watches.Watch.TheVariants as watch
use Rattle.wq_head.proofs.{FullHeads.hashed_low, PermitHeads.bits_low}
use Rattle.wait_class.specs.Queueing.{IsForBy, wait_form}
use Rattle.wait_class.proofs.EntryForms.{for_by}
use Rattle.wait_event.specs.{Prepares.SuitsWait, WaitPlans.IsWaitFor, Waits.IsRunningWait}
use Rattle.wait_event.specs.declared.waits.WaitCall.{WaitCall}

-- a wait for a condition with a full head, one with a simple head whose entry goes to the tail, and one for a variable
pub full_runs : (r : WaitCall) (c : ℕ) → r.watch ≡ watch.Plain c → c < FIRST_SIMPLE → IsRunningWait r
full_runs r c is full = record {
  there = subst IsThere (sym is) (omega (arith, full));
  suits = subst (λ (w : Watch). IsWaitFor w r.how) (sym is) (λ high. absurd (omega (arith, full, high)));
}

pub tail_runs : (r : WaitCall) (c : ℕ) (how : How) → r.watch ≡ watch.Plain c → r.how ≡ how → c < PLAIN_CONDITIONS
    → how.exclusive ≡ true → IsRunningWait r
tail_runs r c how is same low tail = record {
  there = subst IsThere (sym is) low;
  suits = subst (λ (w : Watch). IsWaitFor w r.how) (sym is) (λ _. ap (λ (h : How). h.exclusive) same ∙ tail);
}

pub var_runs : (r : WaitCall) (v old : ℕ) (how : How) → r.watch ≡ watch.Var v old → r.how ≡ how → v < VARIABLES
    → how.exclusive ≡ false → IsRunningWait r
var_runs r v old how is same low front = record {
  there = subst IsThere (sym is) low;
  suits = subst (λ (w : Watch). IsWaitFor w r.how) (sym is) (ap (λ (h : How). h.exclusive) same ∙ front);
}

-- the entry of a wait may be added by the wait's form
plain_for : (how : How) (c : ℕ) → c < PLAIN_CONDITIONS → (FIRST_SIMPLE ≤ c → how.exclusive ≡ true) → (form : Form)
    → form ≡ wait_form how → (w : Watch) → w ≡ watch.Plain c → (k : Kind) → k ≡ kind_for w → IsForBy form w k
plain_for how c there suits form is w same k its = by (nat_lt c FIRST_SIMPLE) refl
  where
    kind_is : k ≡ (if nat_lt c FIRST_SIMPLE then kind.Autoremove else kind.Simple)
    kind_is = its ∙ ap kind_for same

    by : (b : Bool) → nat_lt c FIRST_SIMPLE ≡ b → IsForBy form w k
    by true low =
        let few : c < FIRST_SIMPLE = grind (arith, nat_tests) in
        for_by form w k (
          c,
          same,
          few,
          inr (inl (kind_is ∙ ap (λ (b : Bool). if b then kind.Autoremove else kind.Simple) low)),
        )
    by false far =
        let high : FIRST_SIMPLE ≤ c = grind (arith, nat_tests) in
        let tail : form ≡ forms.Tail = is ∙ ap (λ (b : Bool). if b then forms.Tail else forms.Front) (suits high) in
        subst (λ (f : Form). IsForBy f w k) (sym tail)
        (inr (
          kind_is ∙ ap (λ (b : Bool). if b then kind.Autoremove else kind.Simple) far,
          inl (c, same, high, there),
        ))

var_for : (how : How) (v : ℕ) → v < VARIABLES → how.exclusive ≡ false → (form : Form) → form ≡ wait_form how
    → (w : Watch) → w ≡ watch.Var v 0 → (k : Kind) → k ≡ kind_for w → IsForBy form w k
var_for how v there suits form is w same k its =
    let front : form ≡ forms.Front = is ∙ ap (λ (b : Bool). if b then forms.Tail else forms.Front) suits in
    subst (λ (f : Form). IsForBy f w k) (sym front) (inr (inr (its ∙ ap kind_for same, (v, same, there))))

pub wait_for : (r : WaitCall) → IsRunningWait r → (form : Form) → form ≡ wait_form r.how → (w : Watch)
    → w ≡ bare r.watch → (k : Kind) → k ≡ kind_for w → IsForBy form w k
wait_for r runs form is w same k its = by r.watch runs.there runs.suits same
  where
    by : (u : Watch) → IsThere u → IsWaitFor u r.how → w ≡ bare u → IsForBy form w k
    by (watch.Plain c) there suits from = plain_for r.how c there suits form is w from k its
    by (watch.Var v o) there suits from = var_for r.how v there suits form is w from k its
    by u there suits from = absurd suits

tail_of : (how : How) (w : Watch) (k : Kind) → how.exclusive ≡ true → IsForBy forms.Tail w k → IsForBy (wait_form how) w k
tail_of how w k tail is = subst (λ (b : Bool). IsForBy (if b then forms.Tail else forms.Front) w k) (sym tail) is

front_of : (how : How) (w : Watch) (k : Kind) → how.exclusive ≡ false → IsForBy forms.Front w k → IsForBy (wait_form how) w k
front_of how w k front is = subst (λ (b : Bool). IsForBy (if b then forms.Tail else forms.Front) w k) (sym front) is

suits_form : (w : Watch) (k : Kind) (how : How) → SuitsWait w k how → IsForBy (wait_form how) (bare w) k
suits_form (watch.Plain c) kind.Default how full = for_by (wait_form how) (watch.Plain c) kind.Default
    (c, refl, full, inl refl)
suits_form (watch.Plain c) kind.Autoremove how full = for_by (wait_form how) (watch.Plain c) kind.Autoremove
    (c, refl, full, inr (inl refl))
suits_form (watch.Plain c) kind.Woken how full = for_by (wait_form how) (watch.Plain c) kind.Woken
    (c, refl, full, inr (inr refl))
suits_form (watch.Plain c) kind.Simple how s = tail_of how (watch.Plain c) kind.Simple s.2
    (inr (refl, inl (c, refl, s.0, s.1)))
suits_form (watch.Bit n b) kind.Bit how s = front_of how (watch.Bit n b) kind.Bit s.2
    (inr (inl (refl, (n, b, refl, s.0, s.1))))
suits_form (watch.Var v o) kind.Var how s = front_of how (watch.Var v 0) kind.Var s.1 (inr (inr (refl, (v, refl, s.0))))
suits_form w k how s = absurd s

pub suits_for : (w : Watch) (k : Kind) (how : How) → SuitsWait w k how → (form : Form) → form ≡ wait_form how → (c : Watch)
    → c ≡ bare w → IsForBy form c k
suits_for w k how s form is c same = subst (λ (f : Form). IsForBy f c k) (sym is)
    (subst (λ (d : Watch). IsForBy (wait_form how) d k) (sym same) (suits_form w k how s))

-- its head is none of a completion
pub suits_low : (w : Watch) (k : Kind) (how : How) → SuitsWait w k how → head_of w < FIRST_DONE_HEAD
unfolding head_of
suits_low (watch.Plain c) kind.Default how full = omega (arith, full)
suits_low (watch.Plain c) kind.Autoremove how full = omega (arith, full)
suits_low (watch.Plain c) kind.Woken how full = omega (arith, full)
suits_low (watch.Plain c) kind.Simple how s = let few = s.1 in omega (arith, few)
suits_low (watch.Bit n b) kind.Bit how s = bits_low n b
suits_low (watch.Var v o) kind.Var how s = let low = hashed_low (BIT_WORDS + v) in omega (arith, low)
suits_low w k how s = absurd s

pub low_fits : (h : ℕ) → h < FIRST_DONE_HEAD → h < HEADS
low_fits h low = omega (arith, low)
