-- The worked orders of steps of setters, computed.
use Rattle.std.proofs.lemmas.Option.{none-some}
use Rattle.std.proofs.Common.{refl, sym, ◌∙◌, subst, arith}
use Rattle.std.specs.Prelude.{ℕ, zero, suc, ◌≡◌, ◌≢◌, ◌+◌, ◌-◌, true, false, Option, Some, None, List, [], ◌∷◌, ◌++◌}
use Rattle.wait_model.specs.{declared.steps.Step.Step, Tables.met, Tasks.meets, Tasks.task_of, Words.entry_of}
use Rattle.wait_model.specs.{Words.spent_of, Fold.view_of, Histories.Lacks, Wakes.Sleeps, declared.watches.Watch.Watch}
use Rattle.wait_model.specs.declared.watches.Entry.{Entry}
use Rattle.wait_model.specs.declared.layout.TheConstants.{ENTRIES, MEMBER_WORDS, FIRST_PLAIN_HEAD, NORMAL, RUNNABLE}
use Rattle.wait_model.specs.declared.layout.TheConstants.{UNINTERRUPTIBLE}
use Rattle.wait_model.specs.Watches.{hashed, head_of, owner, part_of}
use Rattle.wait_model.specs.Views.{all_below, all_cleared, all_passed}
use Rattle.wait_model.specs.declared.steps.Step.TheVariants as step
use Rattle.wait_model.proofs.{Functions.put_other, HistoryLaws.CalledEntries.off_seen, HistoryLaws.HoldBooks.cleared_at}
use Rattle.wait_rule.specs.Interleavings.{TaskStep, table_of, AreAllowed}
use Rattle.wait_rule.specs.Setters.{step_by, uses_up, StaysSet, UsesUpNone, EndsItsWake, OwesNoMore, AllLeaveSet, SetForGood}
use Rattle.wait_rule.specs.WorkedHolds.{aim_for}
use Rattle.wait_rule.specs.WorkedSetters.{WorkedSetters, the_set, finds_none, set_and_looked, the_sleeper, put_asleep}
use Rattle.wait_rule.specs.WorkedSetters.{set_for_it, sees_others, walk_of_one, set_and_walked}

abbrev is_set : List TaskStep
is_set = step_by 1 (step.Publish the_set 1 0) ∷ []

abbrev wakes_it : List TaskStep
wakes_it = step_by 1 (step.Unqueue 0) ∷ step_by 1 (step.Wake 0 NORMAL UNINTERRUPTIBLE)
    ∷ step_by 1 (step.Lock FIRST_PLAIN_HEAD (Some (aim_for 0 0)) 0) ∷ []

set_now : (later before : List TaskStep) (on : Watch) → StaysSet later before on
    → met (table_of (later ++ before)).words on ≡ true
set_now [] before on st = st
set_now (x ∷ xs) before on st = st.0

never : {A : Type 0} → false ≡ true → A
never q = absurd (cc)

none_untested : {A : Type 0} (o : Option Entry) (e : Entry) → o ≡ None → o ≡ Some e → A
none_untested o e none is = absurd (none-some e (sym none ∙ is))

-- the look without the lock
looked_entry : (n x : ℕ) → (table_of (finds_none n ++ is_set)).entry x ≡ None
looked_entry zero x = refl
looked_entry (suc n) x = looked_entry n x

looked_head : (n : ℕ) → ((table_of (finds_none n ++ is_set)).view 1).hold.head ≡ None
looked_head zero = refl
looked_head (suc n) = looked_head n

looked_allowed : (n : ℕ) → AreAllowed (finds_none n ++ is_set)
looked_allowed zero = (omega arith, (refl, λ b. absurd (cc), refl), tt)
looked_allowed (suc n) = (
  omega arith,
  (
    looked_head n,
    λ w x e part st at. none_untested ((table_of (finds_none n ++ is_set)).entry x) e (looked_entry n x)
        st,
  ),
  looked_allowed n,
)

looked_stays : (n : ℕ) → StaysSet (finds_none n) is_set the_set
looked_stays zero = refl
looked_stays (suc n) = (set_now (finds_none n) is_set the_set (looked_stays n), looked_stays n)

looked_whole : (n : ℕ) → UsesUpNone 1 (finds_none n)
looked_whole zero = tt
looked_whole (suc n) = (λ q. refl, looked_whole n)

-- the walk
walk_entry : (n x : ℕ) → (table_of (sees_others n ++ wakes_it ++ set_for_it)).entry x
    ≡ (table_of (wakes_it ++ set_for_it)).entry x
walk_entry zero x = refl
walk_entry (suc n) x = walk_entry n x

walk_head : (n : ℕ) → ((table_of (sees_others n ++ wakes_it ++ set_for_it)).view 1).hold.head ≡ Some FIRST_PLAIN_HEAD
walk_head zero = refl
walk_head (suc n) = walk_head n

slept_allowed : AreAllowed put_asleep
unfolding hashed head_of owner entry_of task_of spent_of
slept_allowed = (
  omega arith,
  (refl, refl),
  (
    omega arith,
    refl,
    (
      omega arith,
      (refl, λ w is q. never q),
      (
        omega arith,
        tt,
        (
          omega arith,
          (refl, omega arith, refl, refl, (λ q. absurd (cc), λ q. absurd (cc)), refl),
          (omega arith, refl, (omega arith, (refl, refl, refl, tt), tt)),
        ),
      ),
    ),
  ),
)

woken_allowed : AreAllowed (wakes_it ++ set_for_it)
unfolding hashed head_of owner entry_of task_of spent_of
woken_allowed = (
  omega arith,
  (the_sleeper, refl, refl),
  (
    omega arith,
    refl,
    (omega arith, (refl, refl, refl, refl), (omega arith, (refl, λ b. absurd (cc), refl), slept_allowed)),
  ),
)

behind : (n : ℕ) → (table_of (wakes_it ++ set_for_it)).entry (suc n) ≡ None
behind n = put_other (table_of put_asleep).entry 0 None (suc n) (λ q. absurd (omega arith))
    ∙ put_other {A = Option Entry} (λ _. None) 0 (Some the_sleeper) (suc n) (λ q. absurd (omega arith))

seen_allowed : (n : ℕ) → AreAllowed (sees_others n ++ wakes_it ++ set_for_it)
unfolding entry_of
seen_allowed zero = woken_allowed
seen_allowed (suc n) = (omega arith, sym (walk_entry n (suc n) ∙ behind n), seen_allowed n)

walk_allowed : AreAllowed set_and_walked
walk_allowed = (omega arith, (walk_head (ENTRIES - 1), λ w is q. never q), seen_allowed (ENTRIES - 1))

walk_stays : (n : ℕ) → StaysSet (sees_others n ++ wakes_it) set_for_it the_set
walk_stays zero = (refl, (refl, (refl, refl)))
walk_stays (suc n) = (set_now (sees_others n ++ wakes_it) set_for_it the_set (walk_stays n), walk_stays n)

walk_whole : (n : ℕ) → UsesUpNone 1 (sees_others n ++ wakes_it)
walk_whole zero = (λ q. refl, (λ q. refl, (λ q. refl, tt)))
walk_whole (suc n) = (λ q. refl, walk_whole n)

looked_settled : (view_of ((table_of set_and_looked).history 1)).duty.owes the_set UNINTERRUPTIBLE ≡ false
unfolding hashed head_of owner part_of all_below all_cleared
looked_settled = refl

all_looked : all_cleared ((view_of ((table_of set_and_looked).history 1)).duty.cleared the_set) ≡ true
unfolding hashed head_of owner part_of all_below all_cleared
all_looked = refl

owes : (view_of ((table_of (walk_of_one ++ set_for_it)).history 1)).duty.owes the_set UNINTERRUPTIBLE ≡ true
unfolding hashed head_of owner meets entry_of all_below all_passed
owes = refl

walk_settled : (view_of ((table_of set_and_walked).history 1)).duty.owes the_set UNINTERRUPTIBLE ≡ false
unfolding hashed head_of owner meets entry_of all_below all_passed
walk_settled = refl

asleep : UNINTERRUPTIBLE ≢ 0
asleep q = cc

the_sleep : Sleeps (table_of set_for_it) 0 the_sleeper the_set
unfolding hashed head_of owner meets entry_of
the_sleep = record {
  queued = refl;
  watches = refl;
  down = asleep;
  failed = record {
    before = step.Lock FIRST_PLAIN_HEAD None 0 ∷ step.Saw 0 0 ∷ step.Queue 0 the_sleeper
        ∷ step.State UNINTERRUPTIBLE ∷ step.Unlock FIRST_PLAIN_HEAD false ∷ [];
    load = step.Load the_set 0;
    later = step.Sleep (RUNNABLE + UNINTERRUPTIBLE) ∷ [];
    split = refl;
    is_load = refl;
    is_no_store = refl;
    quiet = ((refl, refl), tt);
  };
}

looked_ends : EndsItsWake set_and_looked 1 the_set the_set UNINTERRUPTIBLE
looked_ends = record {
  before = [];
  publish = step.Publish the_set 1 0;
  between = finds_none (MEMBER_WORDS - 1);
  end = step.Scan FIRST_PLAIN_HEAD (MEMBER_WORDS - 1) 0;
  later = [];
  split = refl;
  is_publish = refl;
  ends = λ x lt. off_seen ((table_of set_and_looked).history 1) the_set x
      (cleared_at ((view_of ((table_of set_and_looked).history 1)).duty.cleared the_set) x all_looked lt);
  whole = refl;
  watch = refl;
  until = looked_stays (MEMBER_WORDS - 1);
  since = set_now (finds_none MEMBER_WORDS) is_set the_set (looked_stays MEMBER_WORDS);
}

looked_settles : OwesNoMore set_and_looked 1 the_set the_set UNINTERRUPTIBLE
looked_settles = record {
  before = [];
  publish = step.Publish the_set 1 0;
  later = finds_none MEMBER_WORDS;
  split = refl;
  is_publish = refl;
  whole = looked_whole MEMBER_WORDS;
  settled = looked_settled;
  watch = refl;
  stays = looked_stays MEMBER_WORDS;
}

looked_others : (n t : ℕ) → t ≢ 1 → (table_of (finds_none n ++ is_set)).history t ≡ []
looked_others zero t ne = put_other {A = List Step} (λ _. []) 1 (step.Publish the_set 1 0 ∷ []) t ne
looked_others (suc n) t ne =
    put_other (table_of (finds_none n ++ is_set)).history 1
    ((table_of (finds_none n ++ is_set)).history 1 ++ step.Scan FIRST_PLAIN_HEAD n 0 ∷ []) t ne
    ∙ looked_others n t ne

-- the member words, one after another
scans_on : ℕ → ℕ → List Step
scans_on i zero = []
scans_on i (suc n) = step.Scan FIRST_PLAIN_HEAD i 0 ∷ scans_on (i + 1) n

scans_leave : (i n : ℕ) → AllLeaveSet the_set (scans_on i n)
unfolding scans_on
scans_leave i zero = tt
scans_leave i (suc n) = (λ s t m. m, scans_leave (i + 1) n)

scans_whole : (i n : ℕ) → Lacks uses_up (scans_on i n)
unfolding scans_on
scans_whole i zero = tt
scans_whole i (suc n) = (refl, scans_whole (i + 1) n)

for_good : SetForGood (table_of set_and_looked).history 1 the_set the_set UNINTERRUPTIBLE
unfolding scans_on
for_good = record {
  number = omega arith;
  before = [];
  publish = step.Publish the_set 1 0;
  later = scans_on 0 MEMBER_WORDS;
  split = refl;
  is_publish = refl;
  whole = scans_whole 0 MEMBER_WORDS;
  settled = looked_settled;
  watch = refl;
  sets = λ s. refl;
  own = scans_leave 0 MEMBER_WORDS;
  others = λ t few ne. subst (AllLeaveSet the_set) (sym (looked_others MEMBER_WORDS t ne)) tt;
}

walk_settles : OwesNoMore set_and_walked 1 the_set the_set UNINTERRUPTIBLE
walk_settles = record {
  before = put_asleep;
  publish = step.Publish the_set 1 0;
  later = step_by 1 (step.Unlock FIRST_PLAIN_HEAD false) ∷ walk_of_one;
  split = refl;
  is_publish = refl;
  whole = (λ q. refl, walk_whole (ENTRIES - 1));
  settled = walk_settled;
  watch = refl;
  stays = (set_now walk_of_one set_for_it the_set (walk_stays (ENTRIES - 1)), walk_stays (ENTRIES - 1));
}

pub worked_setters : WorkedSetters
worked_setters = record {
  looked_allowed = looked_allowed MEMBER_WORDS;
  looked_ends = looked_ends;
  looked_settles = looked_settles;
  for_good = for_good;
  sleeps = the_sleep;
  owes = owes;
  walk_allowed = walk_allowed;
  walk_settles = walk_settles;
}
