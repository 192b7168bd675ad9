-- Whoever a poll put asleep sleeps on each of its watches.
use Rattle.std.proofs.lemmas.Bool.Decides.{nat_tests}
use Rattle.std.proofs.Common.{refl, sym, ◌∙◌, ap, subst, append-nil, append_assoc, arith}
use Rattle.std.specs.Prelude.{ℕ, ◌≡◌, ◌≢◌, ◌<◌, ◌==◌, nat_lt, Bool, true, false, if◌then◌else◌, Some, None}
use Rattle.std.specs.Prelude.{List, [], ◌∷◌, ◌++◌}
use Rattle.wait_model.specs.{declared.layout.TheConstants.FIRST_SIMPLE, declared.steps.Step.Step}
use Rattle.wait_model.specs.{declared.tasks.SleepState.SleepState, declared.watches.Entry.Entry}
use Rattle.wait_model.specs.{declared.watches.Kind.Kind, declared.watches.Watch.Watch, Facts.Kept, Fold.view_of}
use Rattle.wait_model.specs.{Programs.zero_answer, Tables.Table, Tasks.looks_in, Views.View, Wakes.NoWakeIsLost}
use Rattle.wait_model.specs.Wakes.{Sleeps}
use Rattle.wait_model.specs.Readings.{FailedBy, FailedLoad, Quiet}
use Rattle.wait_model.specs.Watches.{bare, failing, is_done, is_page, is_woken, kind_for, misses, owner, same}
use Rattle.wait_model.specs.declared.steps.Step.TheVariants as step
use Rattle.wait_model.specs.declared.watches.Kind.TheVariants as kind
use Rattle.wait_model.specs.declared.watches.Watch.TheVariants as watch
use Rattle.wait_model.proofs.{HistoryLaws.HoldLooks.IsLookTold, HistoryLaws.NoLostWake.no_wake_is_lost}
use Rattle.wait_model.proofs.RunLaws.PagesHanded.{kind_plain}
use Rattle.wait_rule.specs.{declared.journal.Item.Item, declared.journal.Journal.Journal, Interleavings.table_of}
use Rattle.wait_rule.specs.{Items.steps_of, Known.Known, Queues.index, Transitions.AreLooks}
use Rattle.wait_rule.specs.Says.{added, history_of, told_of}
use Rattle.wait_rule.specs.declared.journal.Item.TheVariants as item
use Rattle.wait_rule.proofs.{KnownLaws.Moments.kept_of, KnownLaws.Moments.views_of, TableSteps.ItemLists.steps_append}
use Rattle.wait_rule.proofs.TableSteps.MemberMoves.{own_index}
use Rattle.wait_event.specs.Prepares.{IsPart}
use Rattle.wait_event.proofs.LookedSteps.{looks_all}
use Rattle.order_laws.specs.SafeSleep.{SleepsSafely}
use Rattle.poll_wait.specs.{declared.turns.Poll.Poll, declared.turns.Ready.Ready, Seconds.IsPolled}
use Rattle.poll_wait.specs.Polls.{AsksIf, IsPoll, SleepsTurn, loaded}
use Rattle.poll_wait.specs.Waiting.{IsInTurn, IsKeptBy, IsKeptByBoth, PollersAreKept}
use Rattle.poll_wait.proofs.Near.{Keeps, added_keep, looks_keep}
use Rattle.poll_wait.proofs.Polled.{join_keeps, part_kept, polled_low}
use Rattle.poll_wait.proofs.Sides.{joins_beside}

-- what the loads found
unset_by : (a b : Bool) (x y : Ready) → (if a then (if b then None else Some x) else Some y) ≡ None
    → (a ≡ true) × (b ≡ true)
unset_by true true x y is = (refl, refl)
unset_by true false x y is = absurd (cc)
unset_by false b x y is = absurd (cc)

fails_own : (c : Watch) (r : ℕ) → IsPolled c → misses c r ≡ true → failing c r c ≡ true
fails_own (watch.Plain c) r full is = let own : (c == c) ≡ true = grind (arith, nat_tests) in rw (own, is) refl
fails_own (watch.Var v o) r few is = let own : (v == v) ≡ true = grind (arith, nat_tests) in rw (own, is) refl
fails_own c r never is = absurd never

-- steps that store no state and no entry, and load nothing
abbrev IsIdle : Step → Type 0
IsIdle (step.Saw x w) = Unit {0}
IsIdle (step.Look w) = Unit {0}
IsIdle (step.Sleep w) = Unit {0}
IsIdle _ = ⊥

abbrev AreIdle : List Step → Type 0
AreIdle [] = Unit {0}
AreIdle (e ∷ es) = IsIdle e × AreIdle es

idle_quiet : (x : ℕ) (c : Watch) (es : List Step) → AreIdle es → Quiet x c es
idle_quiet x c [] is = tt
idle_quiet x c (step.Saw y w ∷ es) is = ((refl, refl), idle_quiet x c es is.1)
idle_quiet x c (step.Look w ∷ es) is = ((refl, refl), idle_quiet x c es is.1)
idle_quiet x c (step.Sleep w ∷ es) is = ((refl, refl), idle_quiet x c es is.1)
idle_quiet x c (e ∷ es) is = absurd is.0

idle_join : (es fs : List Step) → AreIdle es → AreIdle fs → AreIdle (es ++ fs)
idle_join [] fs one two = two
idle_join (e ∷ es) fs one two = (one.0, idle_join es fs one.1 two)

looks_idle : (xs : List Item) → AreLooks xs → AreIdle (steps_of xs)
looks_idle = looks_all AreIdle tt (λ x w es idle. (tt, idle))

-- two loads that failed, and then nothing that counts: both watches have failed
module _ (es before rest : List Step) (c d : Watch) (x y : ℕ)
    (split : es ≡ before ++ step.Load c x ∷ step.Load d y ∷ rest) (idle : AreIdle rest) where
  later_failed : (i : ℕ) (e : Watch) → failing d y e ≡ true → FailedLoad es i e
  later_failed i e miss = record {
    before = before ++ step.Load c x ∷ [];
    load = step.Load d y;
    later = rest;
    split = split ∙ sym (append_assoc before (step.Load c x ∷ []) (step.Load d y ∷ rest));
    is_load = miss;
    is_no_store = refl;
    quiet = idle_quiet i e rest idle;
  }

  pub second_failed : (i : ℕ) → failing d y d ≡ true → FailedLoad es i d
  second_failed i = later_failed i d

  pub first_failed : (i : ℕ) → failing c x c ≡ true → FailedLoad es i c
  first_failed i miss = by (failing d y c) refl
    where
      by : (b : Bool) → failing d y c ≡ b → FailedLoad es i c
      by true is = later_failed i c is
      by false is = record {
        before = before;
        load = step.Load c x;
        later = step.Load d y ∷ rest;
        split = split;
        is_load = miss;
        is_no_store = refl;
        quiet = ((refl, is), idle_quiet i c rest idle);
      }

-- entries for such watches
never_woken : (c : Watch) → IsPolled c → is_woken (kind_for c) ≡ false
never_woken (watch.Plain c) full = by (nat_lt c FIRST_SIMPLE)
  where
    by : (b : Bool) → is_woken (if b then kind.Autoremove else kind.Simple) ≡ false
    by true = refl
    by false = refl
never_woken (watch.Var v o) few = refl
never_woken c never = absurd never

never_done : (c : Watch) → IsPolled c → is_done c ≡ false
never_done (watch.Plain c) full = refl
never_done (watch.Var v o) few = refl
never_done c never = absurd never

same_bare : (c : Watch) → IsPolled c → same c (bare c) ≡ true
same_bare (watch.Plain c) full = grind (arith, nat_tests)
same_bare (watch.Var v o) few = grind (arith, nat_tests)
same_bare c never = absurd never

plain_failed : (k : Kind) (es : List Step) (x : ℕ) (c : Watch) → is_woken k ≡ false → is_page k ≡ false
    → is_done c ≡ false → FailedLoad es x c → FailedBy (is_woken k) (is_page k) (is_done c) es x c
plain_failed k es x c woken paged done l = rw (woken, paged, done) l

-- a task that has failed by its entry of a slot, in a table with its history, where the entry stands
module _ (slot : ℕ) (small : slot < 2) (c : Watch) (polled : IsPolled c) (k : Known)
    (part : IsPart c (kind_for c) ((told_of k).bits.stored (index k.view.number slot)))
    (failed : FailedLoad (history_of k) (index k.view.number slot) c) where
  abbrev me : ℕ
  me = k.view.number

  abbrev mine : ℕ
  mine = index me slot

  own_is : owner mine ≡ me
  own_is = own_index me slot small

  module _ (s : Table) (told : IsLookTold s) (kept : Kept s) (none : NoWakeIsLost s)
      (history : s.history me ≡ history_of k) (down : (s.task me).state ≢ 0) (e : Entry)
      (stands : s.entry mine ≡ Some e) where
    view_is : s.view (owner mine) ≡ told_of k
    view_is = ap (λ (i : ℕ). s.view i) own_is ∙ (told me ∙ ap view_of history)

    is_own : IsPart c (kind_for c) (Some e)
    is_own = subst (IsPart c (kind_for c)) (ap (λ (v : View). v.bits.stored mine) (sym view_is)
        ∙ kept.bits.stored_is mine e stands) part

    by_kind : FailedBy (is_woken e.kind) (is_page e.kind) (is_done c) (history_of k) mine c
    by_kind = plain_failed e.kind (history_of k) mine c (ap is_woken is_own.1 ∙ never_woken c polled)
        (ap is_page is_own.1 ∙ kind_plain c) (never_done c polled) failed

    sleeps : Sleeps s mine e c
    sleeps = record {
      queued = stands;
      watches = ap (same c) is_own.0 ∙ same_bare c polled;
      down = subst (λ (i : ℕ). (s.task i).state ≢ 0) (sym own_is) down;
      failed = subst (λ (i : ℕ). FailedBy (is_woken e.kind) (is_page e.kind) (is_done c) (s.history i) mine c) (sym own_is)
          (subst (λ (es : List Step). FailedBy (is_woken e.kind) (is_page e.kind) (is_done c) es mine c) (sym history)
          by_kind);
    }

    safe : SleepsSafely s mine e c
    safe = record { sleeps = sleeps; woken = none mine e c sleeps }

  pub kept_by : IsKeptBy slot c k
  kept_by = record {
    rule = λ s items ruled list down e stands. safe s ruled.whole.told ruled.whole.kept
        (no_wake_is_lost s ruled.whole.told ruled.whole.kept.no_lost_wake)
        (ruled.histories me ∙ ap steps_of list)
        (λ low. let t : (s.task me).runnable ≡ true = (ruled.lawful.tasks me).runnable low in cc)
        e stands;
    steps = λ xs may history down e stands. safe (table_of xs) (views_of xs) (kept_of xs may)
        (no_wake_is_lost (table_of xs) (views_of xs) (kept_of xs may).no_lost_wake) history down e stands;
  }

-- what a turn made behind its loads, and what it knows of its entries then
asked_steps : (b : Bool) (σ : SleepState) (a k : Known) → AsksIf b σ a k false
    → (es : List Step) × ((history_of k ≡ history_of a ++ es) × AreIdle es)
asked_steps false σ a k x = ([], (ap history_of x.0 ∙ sym (append-nil (history_of a)), tt))
asked_steps true σ a k x = (
  step.Look x.0 ∷ [],
  (ap history_of x.1 ∙ steps_append a.view.items (item.Made (step.Look x.0) ∷ []), (tt, tt)),
)

module _ (y : ℕ) where
  asked_keeps : (b : Bool) (σ : SleepState) (a k : Known) → AsksIf b σ a k false → Keeps y a k
  asked_keeps false σ a k x = λ e is. ap (λ (j : Known). (told_of j).bits.stored y) (sym x.0) ∙ is
  asked_keeps true σ a k x = λ e is. added_keep y a (step.Look x.0) (λ z f same. absurd (cc)) e
      (ap (λ (j : Known). (told_of j).bits.stored y) (sym x.1) ∙ is)

module _ (p : Poll) (is : IsPoll p) (k : Known) (x : IsInTurn p k) where
  abbrev t : SleepsTurn p x.old x.new
  t = x.turn

  abbrev mid : Known
  mid = loaded p t.loads t.queued

  abbrev slept : Known
  slept = added t.asked (item.Made (step.Sleep t.sleeps.found))

  -- the history
  behind : (es : List Step) × ((history_of t.asked ≡ history_of mid ++ es) × AreIdle es)
  behind = asked_steps (looks_in p.state) p.state mid t.asked t.asks

  abbrev rest : List Step
  rest = behind.0 ++ step.Sleep t.sleeps.found ∷ steps_of x.looked.items

  rest_idle : AreIdle rest
  rest_idle = idle_join behind.0 (step.Sleep t.sleeps.found ∷ steps_of x.looked.items) behind.1.1
      (tt, looks_idle x.looked.items x.looked.looks)

  loads_history : history_of mid ≡ history_of t.queued ++ step.Load p.first t.loads.first
      ∷ step.Load p.second t.loads.second ∷ []
  loads_history = steps_append (added t.queued (item.Made (step.Load p.first t.loads.first))).view.items
      (item.Made (step.Load p.second t.loads.second) ∷ [])
      ∙ (ap (λ (l : List Step). l ++ step.Load p.second t.loads.second ∷ [])
      (steps_append t.queued.view.items (item.Made (step.Load p.first t.loads.first) ∷ []))
      ∙ append_assoc (history_of t.queued) (step.Load p.first t.loads.first ∷ [])
      (step.Load p.second t.loads.second ∷ []))

  history : history_of k ≡ history_of t.queued ++ step.Load p.first t.loads.first
      ∷ step.Load p.second t.loads.second ∷ rest
  history = ap history_of x.looked.is ∙ (steps_append slept.view.items x.looked.items
      ∙ (ap (λ (l : List Step). l ++ steps_of x.looked.items)
      (steps_append t.asked.view.items (item.Made (step.Sleep t.sleeps.found) ∷ [])
      ∙ ap (λ (l : List Step). l ++ step.Sleep t.sleeps.found ∷ []) (behind.1.0
      ∙ ap (λ (l : List Step). l ++ behind.0) loads_history))
      ∙ joined))
    where
      joined : (((history_of t.queued ++ step.Load p.first t.loads.first ∷ step.Load p.second t.loads.second ∷ [])
          ++ behind.0) ++ step.Sleep t.sleeps.found ∷ []) ++ steps_of x.looked.items
          ≡ history_of t.queued ++ step.Load p.first t.loads.first ∷ step.Load p.second t.loads.second ∷ rest
      joined = append_assoc ((history_of t.queued ++ step.Load p.first t.loads.first
          ∷ step.Load p.second t.loads.second ∷ []) ++ behind.0) (step.Sleep t.sleeps.found ∷ [])
          (steps_of x.looked.items)
          ∙ (append_assoc (history_of t.queued ++ step.Load p.first t.loads.first
          ∷ step.Load p.second t.loads.second ∷ []) behind.0
          (step.Sleep t.sleeps.found ∷ steps_of x.looked.items)
          ∙ append_assoc (history_of t.queued) (step.Load p.first t.loads.first
          ∷ step.Load p.second t.loads.second ∷ []) rest)

  unset : (misses p.first t.loads.first ≡ true) × (misses p.second t.loads.second ≡ true)
  unset = unset_by (misses p.first t.loads.first) (misses p.second t.loads.second) _ _ t.unset

  -- the entries
  keeps : (y : ℕ) → Keeps y t.queued k
  keeps y = λ e now.
      let one = looks_keep y slept k x.looked e now in
      let two = added_keep y t.asked (step.Sleep t.sleeps.found) (λ z f same. absurd (cc)) e one in
      let three = asked_keeps y (looks_in p.state) p.state mid t.asked t.asks e two in
      let four = added_keep y (added t.queued (item.Made (step.Load p.first t.loads.first)))
      (step.Load p.second t.loads.second) (λ z f same. absurd (cc)) e three in
      added_keep y t.queued (step.Load p.first t.loads.first) (λ z f same. absurd (cc)) e four

  asked_number : t.asked.view.number ≡ t.queued.view.number
  asked_number = by (looks_in p.state) t.asks
    where
      by : (b : Bool) → AsksIf b p.state mid t.asked false → t.asked.view.number ≡ t.queued.view.number
      by false z = ap (λ (j : Known). j.view.number) z.0
      by true z = ap (λ (j : Known). j.view.number) z.1

  number : k.view.number ≡ t.queued.view.number
  number = ap (λ (j : Known). j.view.number) x.looked.is ∙ asked_number

  abbrev between : Known
  between = t.queues.between

  between_number : t.queued.view.number ≡ between.view.number
  between_number = ap (λ (v : Journal). v.number) (joins_beside between t.queued p.second zero_answer
      (polled_low p.second is.second) t.queues.second.0).aside.grows.view

  first_part : IsPart p.first (kind_for p.first) ((told_of k).bits.stored (index k.view.number 0))
  first_part = subst (λ (n : ℕ). IsPart p.first (kind_for p.first) ((told_of k).bits.stored (index n 0)))
      (sym (number ∙ between_number))
      (part_kept p.first (kind_for p.first) ((told_of between).bits.stored (index between.view.number 0))
      ((told_of k).bits.stored (index between.view.number 0))
      (λ e now. join_keeps between t.queued p.second zero_answer (polled_low p.second is.second) t.queues.second.0 e
      (keeps (index between.view.number 0) e now)) t.queues.first.0.home)

  second_part : IsPart p.second (kind_for p.second) ((told_of k).bits.stored (index k.view.number 1))
  second_part = subst (λ (n : ℕ). IsPart p.second (kind_for p.second) ((told_of k).bits.stored (index n 1)))
      (sym number)
      (part_kept p.second (kind_for p.second) ((told_of t.queued).bits.stored (index t.queued.view.number 1))
      ((told_of k).bits.stored (index t.queued.view.number 1))
      (keeps (index t.queued.view.number 1))
      (subst (IsPart p.second (kind_for p.second)) (sym t.queues.second.1.stored) t.queues.second.1.part))

  pub second_of_turn : FailedLoad (history_of k) (index k.view.number 1) p.second
  second_of_turn = second_failed (history_of k) (history_of t.queued) rest p.first p.second t.loads.first t.loads.second
      history rest_idle (index k.view.number 1) (fails_own p.second t.loads.second is.second unset.1)

  both : IsKeptByBoth p k
  both = record {
    first = kept_by 0 (omega arith) p.first is.first k first_part
        (first_failed (history_of k) (history_of t.queued) rest p.first p.second t.loads.first t.loads.second history
        rest_idle (index k.view.number 0) (fails_own p.first t.loads.first is.first unset.0));
    second = kept_by 1 (omega arith) p.second is.second k second_part second_of_turn;
  }

pub pollers_are_kept : PollersAreKept
pollers_are_kept p is k x = both p is k x
