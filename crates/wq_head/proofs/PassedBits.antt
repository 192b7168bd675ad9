-- A walk whose hold has found its bit set, or has taken its page for a task, is past all entries that the hold shows.
use Rattle.std.proofs.Common.{◌∙◌, ap, sym, refl, inl, inr, arith}
use Rattle.std.proofs.lemmas.Bool.{or_left, or_right}
use Rattle.std.specs.Prelude.{ℕ, ◌≡◌, ◌<◌, ◌||◌, not, Bool, true, false, if◌then◌else◌, Option}
use Rattle.wait_model.specs.{declared.layout.TheConstants.ENTRIES, declared.layout.TheConstants.MEMBERS}
use Rattle.wait_model.specs.{declared.watches.Watch.Watch, declared.watches.Entry.Entry, declared.watches.Kind.Kind}
use Rattle.wait_model.specs.declared.watches.Aim.{Aim}
use Rattle.wait_model.specs.Watches.{head_of, is_bit, is_page, is_woken, owner, same}
use Rattle.wait_model.specs.Views.{Walk, Look, unseen, off, elsewhere, shown, gone, passed}
use Rattle.wait_model.proofs.HistoryLaws.HoldBooks.{all_passed_of}
use Rattle.wait_rule.specs.{Known.Known, Members.IsStanding, Queues.IsWholeBook, Says.told_of, Shown.look_entry}
use Rattle.wq_head.specs.{Members.AreStanding, Walks.IsFull, Walking.IsHeld, Walking.IsPastAll}
use Rattle.wq_head.proofs.FullHeads.{bit_kinds, no_simple, one_of}
use Rattle.wq_head.proofs.PastMembers.{passed_called}

module _ (a : Aim) (full : IsFull a.watch) (k : Known) (walk : Walk)
    (under : (c : Watch) → same c walk.watch ≡ same c a.watch) (at : k.at ≡ head_of a.watch) (whole : IsWholeBook k)
    (standing : AreStanding k MEMBERS) (bit : is_bit a.watch ≡ true) (moot : (told_of k).hold.moot ≡ true) where
  -- an entry for a bit is called by then, of either kind
  gone_all : (x : ℕ) (e : Entry) → IsStanding x e → is_bit e.watch ≡ true → gone (told_of k) x e ≡ true
  gone_all x e s of = elim (bit_kinds x e s of) [
    | inl is ↦ ap by_kind is ∙ or_right ((told_of k).hold.called (owner x)) (told_of k).hold.moot moot
    | inr is ↦ ap by_kind is ∙ moot
  ]
    where
      by_kind : Kind → Bool
      by_kind kd = if is_woken kd then (told_of k).hold.rung x else if is_page kd then (told_of k).hold.moot
          else ((told_of k).hold.called (owner x) || (told_of k).hold.moot)

  pub passes_all : (x : ℕ) → x < ENTRIES → passed walk (told_of k) (λ _. false) ((told_of k).hold.book x) x ≡ true
  passes_all x low = by ((told_of k).hold.book x) refl
    where
      shows : (e : Entry) → (told_of k).hold.book x ≡ shown e → (b : Bool) → same e.watch walk.watch ≡ b
          → passed walk (told_of k) (λ _. false) (shown e) x ≡ true
      shows e is false strange = or_left (not (same e.watch walk.watch)) _ (ap not strange)
      shows e is true sought =
          let s = (standing x (omega arith)).entry low e (ap look_entry is) in
          let one = one_of e.watch a.watch (sym (under e.watch) ∙ sought) in
          passed_called walk (told_of k) (λ _. false) e x (no_simple a.watch full x e s.0 (s.1 ∙ at))
          (gone_all x e s.0 (one.bit ∙ bit))

      by : (l : Look) → (told_of k).hold.book x ≡ l → passed walk (told_of k) (λ _. false) l x ≡ true
      by unseen is = absurd (whole.entries x low is)
      by off is = refl
      by elsewhere is = refl
      by (shown e) is = shows e is (same e.watch walk.watch) refl

pub past_all : (a : Aim) → IsFull a.watch → (k : Known) (rest : Option Aim) → IsHeld a k rest → IsWholeBook k
    → AreStanding k MEMBERS → is_bit a.watch ≡ true → (told_of k).hold.moot ≡ true → IsPastAll a k rest
past_all a full k rest h whole standing bit moot = (
  h,
  all_passed_of (told_of k) h.walk (λ _. false)
      (passes_all a full k h.walk h.under.watch h.at whole standing bit moot),
)
