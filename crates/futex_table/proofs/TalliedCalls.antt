-- What calls leave of what is known of a tally.
use Rattle.std.proofs.Common.{ap, sym, subst, arith}
use Rattle.std.specs.Prelude.{ℕ, ◌+◌, ◌-◌, ◌≡◌, ◌≤◌, ◌==◌, true, IfOk, Result, Ok, Err, List, ◌++◌}
use Rattle.wait_model.specs.{declared.layout.TheConstants.TASKS, Histories.Lacks, Totals.total}
use Rattle.wait_model.specs.declared.steps.Step.TheVariants as step
use Rattle.wait_model.specs.declared.watches.Watch.TheVariants as watch
use Rattle.wait_rule.specs.{declared.journal.Item.Item, declared.journal.Journal.Journal, Aside.Grows, Items.steps_of}
use Rattle.wait_rule.specs.{Journals.joined_with, Journals.left_with, Known.Known}
use Rattle.wait_rule.specs.Says.{IsShown, added, history_of, newcomer, seen_with}
use Rattle.wait_rule.specs.declared.journal.Item.TheVariants as item
use Rattle.futex_table.specs.{GuardedTallies.UsesTally, GuardedTallies.tally_adds, Holding.HoldsMutex}
use Rattle.futex_table.specs.OneHolder.{stores_word}
use Rattle.futex_table.specs.TalliedTasks.{CountsAdd, CutOffTallied, HasReadTally, HasTallied, JoinsTallied}
use Rattle.futex_table.specs.TalliedTasks.{LeftTallied, ReadsAllAdds, StartsTallies, StayTallied, StayTalliedApart}
use Rattle.futex_table.specs.TalliedTasks.{TallyHad}
use Rattle.futex_table.specs.TallyUses.{AddsToTally, LeavesApart, LeavesTallies, StoresWord}
use Rattle.futex_table.proofs.GuardedTallies.{all_read_adds}
use Rattle.futex_table.proofs.TalliedTasks.{cut_had, first_had, grown_had, joined_had, left_had, read_of_all}
use Rattle.futex_table.proofs.Tallying.{grows_on, grows_one, load_leaves, load_reads, opened_tallies}

-- more items of the own list
module _ (m c o n h k : ℕ) (old new : Known) (g : Grows old new)
    (uses : UsesTally m c (old.view.number == o) (history_of old) → UsesTally m c (old.view.number == o) (history_of new))
    (adds : total (tally_adds c) (history_of new) ≡ total (tally_adds c) (history_of old) + k)
    (had : TallyHad old.view m c o n h) where
  longer : new.view.items ≡ old.view.items ++ g.items
  longer = ap (λ (v : Journal). v.items) g.view

  had_on : TallyHad new.view m c o (n + k) h
  had_on = subst (λ (v : Journal). TallyHad v m c o (n + k) h) (sym g.view)
      (grown_had m c o n h k old.view g.items had
      (λ u. subst (λ (xs : List Item). UsesTally m c (old.view.number == o) (steps_of xs)) longer (uses u))
      (subst (λ (xs : List Item). total (tally_adds c) (steps_of xs) ≡ total (tally_adds c) (history_of old) + k) longer
      adds))

-- the calls
tallied_on : (m c o n h k : ℕ) (old new : Known) → AddsToTally old new m c k → HasTallied old m c o n h
    → HasTallied new m c o (n + k) h
unfolding HasTallied
tallied_on m c o n h k old new a had = had_on m c o n h k old new a.grows (a.uses (old.view.number == o)) a.adds had

none_more : (k : Known) (m c o n h : ℕ) → HasTallied k m c o (n + 0) h → HasTallied k m c o n h
none_more k m c o n h had = subst (λ (i : ℕ). HasTallied k m c o i h) (let same : n + 0 ≡ n = omega arith in same) had

pub stay_tallied : (w : ℕ) (old new : Known) → LeavesTallies w old new → StayTallied w old new
stay_tallied w old new l m c o n h ne had = none_more new m c o n h (tallied_on m c o n h 0 old new (l m c ne) had)

pub stay_apart : (w : ℕ) (old new : Known) → LeavesApart w old new → StayTalliedApart w old new
stay_apart w old new l m c o n h not_m not_c had =
    none_more new m c o n h (tallied_on m c o n h 0 old new (l m c not_m not_c) had)

pub counts_add : (m c : ℕ) (old new : Known) → AddsToTally old new m c 1 → CountsAdd m c old new
counts_add m c old new a o n h had = tallied_on m c o n h 1 old new a had

pub starts_tallies : (w : ℕ) (old new : Known) → StoresWord old new w 1 → StartsTallies w old new
unfolding HasTallied
starts_tallies w old new s c first ne =
    let lacks : Lacks (stores_word w) (history_of old) = subst (λ (v : Journal). Lacks (stores_word w) (steps_of v.items))
    (sym first) tt in
    let opens = opened_tallies w old new s lacks c ne in
    let own : (old.view.number == 0) ≡ true = ap (λ (v : Journal). v.number == 0) first in
    let grows = grows_on old s.stored new (grows_one old s.stored (item.Made (step.Publish (watch.Plain w) 1 s.found)) s.is)
    (s.behind w c).grows in
    subst (λ (i : ℕ). TallyHad new.view w c 0 i TASKS) (let same : 0 + 0 ≡ 0 = omega arith in same)
    (had_on w c 0 0 TASKS 0 old new grows
    (λ u. subst (λ b. UsesTally w c b (history_of new)) (sym own)
    (opens.0 (subst (λ b. UsesTally w c b (history_of old)) own u)))
    (let same = opens.1 in omega (arith, same))
    (subst (λ (v : Journal). TallyHad v w c 0 0 TASKS) (sym first) (first_had w c 0)))

-- a load under the mutex
pub read_stays : (w d v : ℕ) (old new : Known) → new ≡ added old (item.Made (step.Load (watch.Plain d) v))
    → StayTallied w old new
read_stays w d v old new is = stay_tallied w old new (load_leaves w d v old new is)

pub read_is : (m c v : ℕ) (old new : Known) → HoldsMutex old m → new ≡ added old (item.Made (step.Load (watch.Plain c) v))
    → HasReadTally new m c v
unfolding HasReadTally
read_is m c v old new held is = load_reads m c v old new held is

-- a task that is cut off another
module _ (share : ℕ) (old : Known) (fits : 1 + share ≤ old.view.spare) where
  cut_tallied : (new : Known)
      → new ≡ newcomer old.domain old.view.next (old.view.next + 1) share → CutOffTallied (1 + share) old new
  unfolding HasTallied
  cut_tallied new is m c o n h had = subst (λ (k : Known). TallyHad k.view m c o 0 (1 + share)) (sym is)
      (cut_had old.view m c o n h share had fits)

  left_tallied : (new : Known) → new ≡ seen_with old (left_with share old.view) → LeftTallied (1 + share) old new
  unfolding HasTallied
  left_tallied new is m c o n h had = subst (λ (k : Known). TallyHad k.view m c o n (h - (1 + share))) (sym is)
      (left_had old.view m c o n h share had fits)

pub fork_cuts : {E : Type 0} (share : ℕ) (old : Known) (r : Result Known E) → IfOk r (λ _. 1 + share ≤ old.view.spare)
    → IfOk r (λ t. t ≡ newcomer old.domain old.view.next (old.view.next + 1) share)
    → IfOk r (λ t. CutOffTallied (1 + share) old t)
fork_cuts share old (Ok t) room new = cut_tallied share old room t new
fork_cuts share old (Err e) room new = tt

pub fork_leaves : {E : Type 0} (share : ℕ) (old now : Known) (r : Result Known E)
    → IfOk r (λ _. 1 + share ≤ old.view.spare) → IfOk r (λ _. now ≡ seen_with old (left_with share old.view))
    → IfOk r (λ _. LeftTallied (1 + share) old now)
fork_leaves share old now (Ok t) room is = left_tallied share old room now is
fork_leaves share old now (Err e) room is = tt

-- and one that is joined
module _ (old other new : Known) (is : new ≡ seen_with old (joined_with old.view other.view)) (law : IsShown new.view) where
  whole : new.view ≡ joined_with old.view other.view
  whole = ap (λ (k : Known). k.view) is

  shown : IsShown (joined_with old.view other.view)
  shown = subst IsShown whole law

  pub joins_tallied : JoinsTallied old other new
  unfolding HasTallied
  joins_tallied m c o a b h g n k one two adds numbers = subst (λ (v : Journal). TallyHad v m c o n k) (sym whole)
      (subst (λ (i : ℕ). TallyHad (joined_with old.view other.view) m c o i k) (sym adds)
      (subst (λ (i : ℕ). TallyHad (joined_with old.view other.view) m c o (a + b) i) (sym numbers)
      (joined_had old.view other.view two.lives shown.sole m c o a b h g one two)))

  pub reads_all : ReadsAllAdds old other
  unfolding HasTallied HasReadTally
  reads_all m c o a b h g w one two read all = read_of_all all_read_adds old.view other.view shown m c o a b h g w one two read all
