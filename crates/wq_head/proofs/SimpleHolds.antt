-- Holds of simple heads: their walk is that of the head's own watch, and a wake that is owed ends at their unlock.
use Rattle.std.proofs.Common.{◌∙◌, ap, sym, refl, subst, inl, inr, arith}
use Rattle.std.proofs.lemmas.Bool.Decides.{nat_tests}
use Rattle.std.specs.Prelude.{ℕ, ◌+◌, ◌-◌, ◌≡◌, ◌<◌, ◌≤◌, ◌⊎◌, ◌&&◌, ◌||◌, not, nat_lt, if◌then◌else◌}
use Rattle.std.specs.Prelude.{Bool, true, false, Option, Some, None}
use Rattle.wait_model.specs.{declared.watches.Aim.Aim, declared.watches.Watch.Watch, Fold.begun, Tasks.meets}
use Rattle.wait_model.specs.declared.layout.TheConstants.{ENTRIES, FIRST_SIMPLE, FIRST_SIMPLE_HEAD, FIRST_PLAIN_HEAD}
use Rattle.wait_model.specs.declared.layout.TheConstants.{FIRST_DONE_HEAD, PLAIN_CONDITIONS}
use Rattle.wait_model.specs.Views.{View as Told, Walk, Look, unseen, off, elsewhere, shown, passed, all_passed}
use Rattle.wait_model.specs.Watches.{head_of, mask_of, same}
use Rattle.wait_model.specs.declared.watches.Mode.TheVariants as mode
use Rattle.wait_model.specs.declared.watches.Watch.TheVariants as watch
use Rattle.wait_model.proofs.HistoryLaws.HoldBooks.{all_passed_of}
use Rattle.wait_rule.specs.{Known.Known, Shown.look_entry}
use Rattle.wait_rule.specs.Queues.{IsIdle, IsWholeBook, simple_watch, walk_of_hold}
use Rattle.wait_rule.specs.Says.{IsFree, told_of, unlocked_with}
use Rattle.wait_rule.specs.Stays.{Stays, no_entries, Carries, wake_all_change}
use Rattle.wait_rule.proofs.{KnownLaws.StayingParts.stays_on, KnownLaws.Turns.unlocked_free}
use Rattle.wq_head.specs.{Holds.HasLocked, Walking.IsUnder, Walks.HasEnded, Walks.still_owed}
use Rattle.wq_head.specs.Selects.{IsSimpleHold, ShowsNoEntry, simple_aim}
use Rattle.wq_head.proofs.{SimpleEntries.walk_is_simple, FirstHold.begins, WalkUnlock.owes_ended}
use Rattle.wq_head.proofs.CarriedHolds.{ended_owes, unlock_carried, unlock_free, wake_carried}
use Rattle.wq_head.proofs.LockWaits.{locked_at, locked_told, unlocked_stays}

-- a watch with a simple head is that head's own
pub own_plain : (c : ℕ) → FIRST_SIMPLE ≤ c → c < PLAIN_CONDITIONS
    → simple_watch (head_of (watch.Plain c)) ≡ watch.Plain c
unfolding head_of
own_plain c high low = by (nat_lt (FIRST_PLAIN_HEAD + c) FIRST_DONE_HEAD) (grind (arith, nat_tests))
  where
    by : (b : Bool) → b ≡ true → (if b then watch.Plain (FIRST_PLAIN_HEAD + c - FIRST_PLAIN_HEAD)
        else watch.Done (FIRST_PLAIN_HEAD + c - FIRST_DONE_HEAD)) ≡ watch.Plain c
    by true is = ap watch.Plain (omega arith)
    by false is = absurd (cc)

pub own_done : (d : ℕ) → simple_watch (head_of (watch.Done d)) ≡ watch.Done d
unfolding head_of
own_done d = by (nat_lt (FIRST_DONE_HEAD + d) FIRST_DONE_HEAD) (grind (arith, nat_tests))
  where
    by : (b : Bool) → b ≡ false → (if b then watch.Plain (FIRST_DONE_HEAD + d - FIRST_PLAIN_HEAD)
        else watch.Done (FIRST_DONE_HEAD + d - FIRST_DONE_HEAD)) ≡ watch.Done d
    by true is = absurd (cc)
    by false is = ap watch.Done (omega arith)

-- a lock begins the walk of its aim, or goes on with one of that watch and mode
pub begun_under : (a : Aim) (v : Told) (o : Option Walk) → v.walk ≡ begun o (Some a) → (w : Walk) × IsUnder a v w
begun_under a v o is =
    let b = begins o a in (b.walk, record { under = is ∙ b.is; watch = b.watch; mask = b.mask })

-- the hold that a lock of a simple head begins
pub locked_simple : (old new : Known) (h : ℕ) → FIRST_SIMPLE_HEAD ≤ h → HasLocked old new h (walk_of_hold h None)
    → IsSimpleHold new
locked_simple old new h high l =
    let at_h = locked_at old new h (walk_of_hold h None) l in
    let told = locked_told old new h (walk_of_hold h None) l in
    let w = begun_under (simple_aim h) (told_of new) (told_of old).walk
    (ap (λ (v : Told). v.walk) told ∙ ap (begun (told_of old).walk) (walk_is_simple h high)) in
    record {
      simple = subst (λ (g : ℕ). FIRST_SIMPLE_HEAD ≤ g) (sym at_h) high;
      walk = w.0;
      under = subst (λ (g : ℕ). IsUnder (simple_aim g) (told_of new) w.0) (sym at_h) w.1;
    }

-- A hold that shows no entry has passed all of them.
pub none_passed : (k : Known) (w : Walk) → IsWholeBook k → ShowsNoEntry k → all_passed (told_of k) w (λ _. false) ≡ true
none_passed k w whole none = all_passed_of (told_of k) w (λ _. false)
    (λ x low. by x low ((told_of k).hold.book x) refl)
  where
    by : (x : ℕ) → x < ENTRIES → (l : Look) → (told_of k).hold.book x ≡ l
        → passed w (told_of k) (λ _. false) l x ≡ true
    by x low unseen is = absurd (whole.entries x low is)
    by x low off is = refl
    by x low elsewhere is = refl
    by x low (shown e) is = absurd (none x e low (ap look_entry is))

or_yes : (a b : Bool) → (a ≡ true) ⊎ (b ≡ true) → (a || b) ≡ true
or_yes true b is = refl
or_yes false b (inl is) = absurd (cc)
or_yes false b (inr is) = is

-- The unlock of such a hold, which selected as many as were asked for or shows no entry, ends the wake that was owed.
module _ (start mid new : Known) (spent : Bool) (stays : Stays no_entries start mid)
    (owes : (c : Watch) (σ : ℕ) → (told_of mid).duty.owes c σ ≡ (told_of start).duty.owes c σ)
    (mark : (told_of mid).mark ≡ (told_of start).mark) (hold : IsSimpleHold mid)
    (over : (spent ≡ true) ⊎ (IsWholeBook mid × ShowsNoEntry mid)) (is : new ≡ unlocked_with mid mid.at spent) where
  abbrev a : Aim
  a = simple_aim mid.at

  is_over : (spent || all_passed (told_of mid) hold.walk (λ _. false)) ≡ true
  is_over = or_yes spent (all_passed (told_of mid) hold.walk (λ _. false)) (elim over [
    | inl yes_it ↦ inl yes_it
    | inr none ↦ inr (none_passed mid hold.walk none.0 none.1)
  ])

  owes_new : (c : Watch) (σ : ℕ) → (told_of new).duty.owes c σ ≡ still_owed a (told_of start) c σ
  owes_new c σ = ap (λ (k : Known). (told_of k).duty.owes c σ) is
      ∙ (owes_ended a mid mid.at spent hold.walk hold.under is_over c σ
      ∙ ap (λ (b : Bool). b && not (same c a.watch && meets (mask_of a.mode) σ)) (owes c σ))

  stays_new : Stays no_entries start new
  stays_new = stays_on no_entries start mid new stays (unlocked_stays mid new spent is)

  mark_new : (told_of new).mark ≡ (told_of start).mark
  mark_new = (unlock_carried mid new spent is).mark ∙ mark

  pub simple_ended : HasEnded start new (simple_aim mid.at)
  simple_ended = record {
    stays = stays_new;
    owes = owes_new;
    settled = λ x o. ended_owes a start new stays_new (mark_new ∙ o.unmarked) owes_new x o;
  }

  pub simple_idle : IsIdle start → IsIdle new
  simple_idle idle = record {
    running = stays_new.state ∙ idle.running;
    free = subst IsFree (sym is) (unlocked_free mid mid.at spent);
    unmarked = mark_new ∙ idle.unmarked;
  }

  pub simple_carried : IsIdle start → Carries (wake_all_change (simple_watch mid.at) mode.Normal new.at) start new
  simple_carried idle = wake_carried (simple_aim mid.at) start new simple_ended idle (simple_idle idle)
      (unlock_free mid new spent is)
