-- A walk that selects the own entry, as the test of a spent count makes it.
use Rattle.std.proofs.Common.{refl, sym, ◌∙◌, ap, arith, inl}
use Rattle.std.specs.Prelude.{ℕ, ◌≡◌, ◌*◌, ◌+◌, ◌<◌, ◌&&◌, ◌||◌, not, Bool, true, false, Option, Some}
use Rattle.wait_model.specs.{declared.watches.Entry.Entry, declared.watches.Aim.Aim, Fold.met_task, Watches.counted}
use Rattle.wait_model.specs.Functions.{put}
use Rattle.wait_model.specs.declared.layout.TheConstants.{TASKS, SLOTS, FIRST_PLAIN_HEAD, NORMAL}
use Rattle.wait_model.specs.Views.{View as Told, Look, Walk, off, shown}
use Rattle.wait_model.specs.Words.{entry_word, entry_of, IsLawfulEntry}
use Rattle.wait_model.specs.declared.watches.Watch.TheVariants as watch
use Rattle.wait_model.specs.declared.watches.Kind.TheVariants as kind
use Rattle.wait_model.specs.declared.steps.Step.TheVariants as step
use Rattle.wait_model.proofs.Functions.{put_same, put_at}
use Rattle.wait_rule.specs.declared.journal.Item.TheVariants as item
use Rattle.wait_rule.specs.Notes.{Notes, note_step, notes_after_wake, after_noted_call, callee, first_due, is_due}
use Rattle.wait_rule.specs.Notes.{is_for_look, is_ahead, is_exclusive_look, is_sooner, look_place}
use Rattle.wait_rule.specs.Known.{Known}
use Rattle.wait_rule.specs.Says.{added, told_of, noted}
use Rattle.wait_rule.specs.Queues.{index, MayQueue, MayRise}
use Rattle.wait_rule.specs.Looking.{ShowsEmpty, IsSelectingHold, for_one}
use Rattle.wait_rule.proofs.KnownLaws.AfterSteps.{told_added, noted_added}
use Rattle.wait_rule.proofs.KnownLaws.MemberBits.{bit_told, bit_noted}
use Rattle.wait_rule.proofs.WorkedTests.QueuedEntry.{lone, shown_lone, may_queue_lone}

abbrev pub chosen : Entry
chosen = lone true kind.Default

chosen_lawful : IsLawfulEntry chosen
chosen_lawful = record { place = omega arith; suited = (omega arith, inl refl, λ far. absurd (omega arith)) }

pub shown_chosen : (w : ℕ) (e : Entry) → w ≡ entry_word (Some chosen) → entry_of w ≡ Some e → e ≡ chosen
shown_chosen = shown_lone true kind.Default chosen_lawful

pub may_queue_chosen : (k : Known) → ShowsEmpty k → k.at ≡ FIRST_PLAIN_HEAD → k.view.number < TASKS → MayQueue k 0 chosen
may_queue_chosen k = may_queue_lone true kind.Default chosen_lawful refl k (λ uses. absurd (cc))

or_true : (b : Bool) → (b || true) ≡ true
or_true true = refl
or_true false = refl

-- the wake of a task whose first entry is the only one that is due
module _ (v : Told) (k : Notes) (who found : ℕ) (aim : k.walk ≡ Some for_one) (from : k.from ≡ 0)
    (fresh : k.called (SLOTS * who) ≡ false)
    (shows : v.hold.book (SLOTS * who) ≡ shown chosen) (none : v.hold.book (SLOTS * who + 1) ≡ off)
    (met : met_task NORMAL found ≡ true) where
  due : is_due v k (watch.Plain 0) (SLOTS * who) ≡ true
  due = λ i. is_for_look (watch.Plain 0) (shows i) && (is_ahead (from i) (shows i) && not (fresh i))

  other : is_due v k (watch.Plain 0) (SLOTS * who + 1) ≡ false
  other = ap (λ (l : Look). is_for_look (watch.Plain 0) l && (is_ahead k.from l && not (k.called (SLOTS * who + 1))))
      none

  calls : callee v k (watch.Plain 0) who ≡ Some (SLOTS * who)
  calls = λ i. first_due (due i) (other i)
      (is_sooner (look_place (v.hold.book (SLOTS * who + 1))) (look_place (v.hold.book (SLOTS * who)))) (SLOTS * who)

  selects : (met_task NORMAL found && is_exclusive_look (v.hold.book (SLOTS * who))) ≡ true
  selects = λ i. met i && is_exclusive_look (shows i)

  used_last : (after_noted_call for_one (Some (SLOTS * who)) (met_task NORMAL found) v k).used ≡ true
  used_last = ap (λ (b : Bool). k.used || (b && true)) selects ∙ or_true k.used

  pub used_up : (me : ℕ) → (note_step me (step.Wake who 3 found) v k).used ≡ true
  used_up me = ap (λ (o : Option Aim). (notes_after_wake o who NORMAL (met_task NORMAL found) v k).used) aim
      ∙ (ap (λ (o : Option ℕ). (after_noted_call for_one o (met_task NORMAL found) v k).used) calls ∙ used_last)

module _ (k p q s w : Known) (few : k.view.number < TASKS) (none : ShowsEmpty k) (selecting : IsSelectingHold k)
    (queued : p ≡ added k (item.Made (step.Queue (index k.view.number 0) chosen))) (bit : q ≡ added p item.Member)
    (stored : s ≡ added q (item.Made (step.State 2))) (n found : ℕ) (me : n ≡ k.view.number)
    (woke : w ≡ added s (item.Made (step.Wake n 3 found))) where
  book_is : (x : ℕ) → (told_of s).hold.book x ≡ (told_of p).hold.book x
  book_is x = ap (λ (z : Known). (told_of z).hold.book x) stored
      ∙ (ap (λ (v : Told). v.hold.book x) (told_added q (item.Made (step.State 2)))
      ∙ ap (λ (v : Told). v.hold.book x) (bit_told p q bit))

  shows_own : (told_of s).hold.book (SLOTS * n) ≡ shown chosen
  shows_own = book_is (SLOTS * n)
      ∙ (ap (λ (z : Known). (told_of z).hold.book (SLOTS * n)) queued
      ∙ (ap (λ (v : Told). v.hold.book (SLOTS * n))
      (told_added k (item.Made (step.Queue (index k.view.number 0) chosen)))
      ∙ (ap (λ (x : ℕ). put (told_of k).hold.book (index k.view.number 0) (shown chosen) x) here
      ∙ put_same (told_of k).hold.book (index k.view.number 0) (shown chosen))))
    where
      here : SLOTS * n ≡ index k.view.number 0
      here = omega arith

  shows_other : (told_of s).hold.book (SLOTS * n + 1) ≡ off
  shows_other = book_is (SLOTS * n + 1)
      ∙ (ap (λ (z : Known). (told_of z).hold.book (SLOTS * n + 1)) queued
      ∙ (ap (λ (v : Told). v.hold.book (SLOTS * n + 1))
      (told_added k (item.Made (step.Queue (index k.view.number 0) chosen)))
      ∙ put_at (λ (l : Look). l ≡ off) (told_of k).hold.book (index k.view.number 0) (shown chosen) (SLOTS * n + 1)
      (λ same. absurd (omega (arith, same, me))) (λ _. none.entries (SLOTS * n + 1) (omega arith))))

  noted_is : noted s ≡ noted k
  noted_is = ap noted stored ∙ (noted_added q (item.Made (step.State 2))
      ∙ (bit_noted p q bit ∙ (ap noted queued
      ∙ noted_added k (item.Made (step.Queue (index k.view.number 0) chosen)))))

  walk_is : (told_of w).walk ≡ (told_of k).walk
  walk_is = ap (λ (z : Known). (told_of z).walk) woke
      ∙ (ap (λ (v : Told). v.walk) (told_added s (item.Made (step.Wake n 3 found)))
      ∙ (ap (λ (z : Known). (told_of z).walk) stored
      ∙ (ap (λ (v : Told). v.walk) (told_added q (item.Made (step.State 2)))
      ∙ (ap (λ (v : Told). v.walk) (bit_told p q bit)
      ∙ (ap (λ (z : Known). (told_of z).walk) queued
      ∙ ap (λ (v : Told). v.walk) (told_added k (item.Made (step.Queue (index k.view.number 0) chosen))))))))

  counts : (u : Walk) → (told_of w).walk ≡ Some u → counted u.watch ≡ true
  counts u is =
      let z : Some (record { watch = watch.Plain 0; mask = NORMAL; from = 0 })
      ≡ Some u = sym (walk_is ∙ selecting.under)
      ∙ is in
      let same : record { watch = watch.Plain 0; mask = NORMAL; from = 0 } ≡ u = cc in
      ap (λ (y : Walk). counted y.watch) (sym same)

  pub may_rise : met_task NORMAL found ≡ true → MayRise w true
  may_rise met = record {
    used = λ _. ap (λ (z : Known). (noted z).used) woke
        ∙ (ap (λ (m : Notes). m.used) (noted_added s (item.Made (step.Wake n 3 found)))
        ∙ used_up (told_of s) (noted s) n found (ap (λ (m : Notes). m.walk) noted_is ∙ selecting.aim)
        (ap (λ (m : Notes). m.from) noted_is ∙ selecting.from)
        (ap (λ (m : Notes). m.called (SLOTS * n)) noted_is ∙ selecting.fresh
        (SLOTS * n)) shows_own shows_other met s.view.number);
    counts = λ u is _. inl (counts u is);
  }
