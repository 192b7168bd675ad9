-- Calls use a tally under a mutex as they should.
use Rattle.std.proofs.Common.{◌∙◌, ap, append-nil, append_assoc, refl, sym, subst, arith}
use Rattle.std.proofs.lemmas.Bool.Decides.{nat_tests}
use Rattle.std.specs.Prelude.{ℕ, ◌+◌, ◌%◌, ◌^◌, ◌≡◌, ◌≢◌, ◌==◌, ◌&&◌, ◌||◌, not, Bool, true, false, if◌then◌else◌, Option, Some, None, Result, List, [], ◌∷◌, ◌++◌}
use Rattle.wait_model.specs.declared.calls.Answer.TheVariants as answer
use Rattle.wait_model.specs.{declared.calls.Event.Event, declared.points.Given.Given, declared.points.Next.Next}
use Rattle.wait_model.specs.{declared.points.Point.Point, declared.points.Seen.Seen, declared.queues.Walked.Walked}
use Rattle.wait_model.specs.{declared.steps.Step.Step, declared.tasks.SleepState.SleepState, declared.watches.Aim.Aim}
use Rattle.wait_model.specs.{Histories.Lacks, Totals.total, Words.flag}
use Rattle.wait_model.specs.declared.calls.Event.TheVariants as event
use Rattle.wait_model.specs.declared.points.Next.TheVariants as next
use Rattle.wait_model.specs.declared.points.Point.TheVariants as at
use Rattle.wait_model.specs.declared.points.WalkPoint.TheVariants as walking
use Rattle.wait_model.specs.declared.steps.Step.TheVariants as step
use Rattle.wait_model.specs.declared.watches.Watch.TheVariants as watch
use Rattle.wait_rule.specs.{declared.journal.Item.Item, declared.journal.Journal.Journal, Aside.Grows, Items.steps_of}
use Rattle.wait_rule.specs.{Journals.pushed, Known.Known, Says.added, Says.history_of}
use Rattle.wait_rule.specs.Transitions.{AreLooks, Goes, IsMadeFor, IsStepFor, OnlyLooks, Program, StepOrLook}
use Rattle.wait_rule.specs.Transitions.{Transition, after_step_or_look, after_transition, by_look, by_step, walk_point}
use Rattle.wait_rule.specs.Transitions.{walk_program, with_lock}
use Rattle.wait_rule.specs.declared.journal.Item.TheVariants as item
use Rattle.wait_rule.proofs.KnownLaws.TaskHistories.{history_after}
use Rattle.wq_head.specs.Walks.{HasWoken}
use Rattle.wait_class.specs.{Posts.Runs, Tables.plan_program}
use Rattle.wait_class.proofs.Turns.{looks_history}
use Rattle.wait_event.proofs.LookedSteps.{looks_all}
use Rattle.futex_table.specs.{declared.futexes.FutexEnd.FutexEnd, FutexEnds.EndsFutexWait, FutexTables.futex_plan}
use Rattle.futex_table.specs.OneHolder.{stores_word}
use Rattle.futex_table.specs.GuardedTallies.{AreTallySteps, IsTallyStep, UsesTally, opens_after, tally_adds}
use Rattle.futex_table.specs.GuardedWords.{read_after, read_from, read_in}
use Rattle.futex_table.specs.Holding.{HoldsMutex, holds_after, holds_from, holds_in, holds_mutex}
use Rattle.futex_table.specs.TallyUses.{AddsToTally, LeavesApart, LeavesTallies, OpensTallies, StoresWord}
use Rattle.futex_table.proofs.{GuardedTallies.opens_from, GuardedWords.read_on}
use Rattle.futex_table.proofs.WordSteps.{IsWordless, futex_wordless, no_look, step_history, walk_wordless}

-- steps one behind another
uses_append : (m c : ℕ) (es fs : List Step) (op h : Bool) (r : Option ℕ) → AreTallySteps m c op h r es
    → AreTallySteps m c (opens_from m es op) (holds_from m es h) (read_from m c es h r) fs
    → AreTallySteps m c op h r (es ++ fs)
uses_append m c [] fs op h r one two = two
uses_append m c (e ∷ es) fs op h r one two = (
  one.0,
  uses_append m c es fs (opens_after m e op) (holds_after m e h) (read_after m c e h r) one.1 two,
)

adds_append : (c : ℕ) (es fs : List Step)
    → total (tally_adds c) (es ++ fs) ≡ total (tally_adds c) es + total (tally_adds c) fs
adds_append c [] fs = omega arith
adds_append c (e ∷ es) fs = let ih = adds_append c es fs in omega (arith, ih)

-- more items of the own list
pushed_none : (v : Journal) → v ≡ pushed v []
pushed_none v = ap (λ (xs : List Item). record v { items = xs }) (sym (append-nil v.items))

pushed_on : (v : Journal) (xs ys : List Item) → pushed (pushed v xs) ys ≡ pushed v (xs ++ ys)
pushed_on v xs ys = ap (λ (zs : List Item). record v { items = zs }) (append_assoc v.items xs ys)

grows_none : (k : Known) → Grows k k
grows_none k = record { items = []; view = pushed_none k.view }

pub grows_on : (x y z : Known) → Grows x y → Grows y z → Grows x z
grows_on x y z a b = record {
  items = a.items ++ b.items;
  view = b.view ∙ (ap (λ (v : Journal). pushed v b.items) a.view ∙ pushed_on x.view a.items b.items);
}

pub grows_one : (old new : Known) (x : Item) → new ≡ added old x → Grows old new
grows_one old new x is = record { items = x ∷ []; view = ap (λ (k : Known). k.view) is }

locked_view : (e : Step) (k : Known) → (with_lock e k).view ≡ k.view
locked_view (step.Lock h aim w) k = refl
locked_view e k = refl

-- one part behind another
pub adds_on : (m c n : ℕ) (x y z : Known) → AddsToTally x y m c 0 → AddsToTally y z m c n → AddsToTally x z m c n
adds_on m c n x y z a b = record {
  grows = grows_on x y z a.grows b.grows;
  uses = λ op u. b.uses op (a.uses op u);
  adds = (let p = a.adds in let q = b.adds in omega (arith, p, q));
}

pub adds_then : (m c n : ℕ) (x y z : Known) → AddsToTally x y m c n → AddsToTally y z m c 0 → AddsToTally x z m c n
adds_then m c n x y z a b = record {
  grows = grows_on x y z a.grows b.grows;
  uses = λ op u. b.uses op (a.uses op u);
  adds = (let p = a.adds in let q = b.adds in omega (arith, p, q));
}

pub adds_none : (m c : ℕ) (k : Known) → AddsToTally k k m c 0
adds_none m c k = record { grows = grows_none k; uses = λ op u. u; adds = omega arith }

pub leaves_none : (w : ℕ) (k : Known) → LeavesTallies w k k
leaves_none w k m c ne = adds_none m c k

pub leaves_on : (w : ℕ) (x y z : Known) → LeavesTallies w x y → LeavesTallies w y z → LeavesTallies w x z
leaves_on w x y z a b m c ne = adds_on m c 0 x y z (a m c ne) (b m c ne)

-- one step
pub one_adds : (m c n : ℕ) (old new : Known) (e : Step) → Grows old new → history_of new ≡ history_of old ++ e ∷ []
    → ((op : Bool) → IsTallyStep m c (opens_from m (history_of old) op) (holds_mutex old m)
    (read_in m c (history_of old)) e) → tally_adds c e ≡ n → AddsToTally old new m c n
one_adds m c n old new e grows is may counts = record {
  grows = grows;
  uses = λ op u. subst (UsesTally m c op) (sym is)
      (uses_append m c (history_of old) (e ∷ []) op false None u (may op, tt));
  adds = ap (total (tally_adds c)) is
      ∙ (adds_append c (history_of old) (e ∷ [])
      ∙ (let one : tally_adds c e + 0 ≡ n = (let q = counts in omega (arith, q)) in
      ap (λ (k : ℕ). total (tally_adds c) (history_of old) + k) one));
}

-- looks
looks_are : (m c : ℕ) (xs : List Item) → AreLooks xs → (op h : Bool) (r : Option ℕ)
    → AreTallySteps m c op h r (steps_of xs)
looks_are m c = looks_all (λ es. (op h : Bool) (r : Option ℕ) → AreTallySteps m c op h r es) (λ op h r. tt)
    (λ x w es are op h r. (
      tt,
      are (opens_after m (step.Saw x w) op) (holds_after m (step.Saw x w) h) (read_after m c (step.Saw x w) h r),
    ))

looks_add : (c : ℕ) (xs : List Item) → AreLooks xs → total (tally_adds c) (steps_of xs) ≡ 0
looks_add c = looks_all (λ es. total (tally_adds c) es ≡ 0) refl (λ x w es none. omega (arith, none))

only_adds : (m c : ℕ) (old new : Known) → OnlyLooks old new → AddsToTally old new m c 0
only_adds m c old new l = record {
  grows = record { items = l.items; view = ap (λ (k : Known). k.view) l.is };
  uses = λ op u. subst (UsesTally m c op) (sym (looks_history old new l))
      (uses_append m c (history_of old) (steps_of l.items) op false None u
      (looks_are m c l.items l.looks (opens_from m (history_of old) op) (holds_in m (history_of old))
      (read_in m c (history_of old))));
  adds = ap (total (tally_adds c)) (looks_history old new l)
      ∙ (adds_append c (history_of old) (steps_of l.items)
      ∙ ap (λ (k : ℕ). total (tally_adds c) (history_of old) + k) (looks_add c l.items l.looks));
}

-- a step that is no take and no store
silent_step : (m c : ℕ) (k : Known) (own : Option ℕ) (g : Given) (v : Event) (e : Step) → IsWordless v
    → IsStepFor k own g v e → (op h : Bool) (r : Option ℕ) → IsTallyStep m c op h r e
silent_step m c k own g (event.Set d w) e is made op h r = absurd is
silent_step m c k own g (event.Take d w) e is made op h r = absurd is
silent_step m c k own g (event.Tas i t w) e is made op h r = absurd is
silent_step m c k own g (event.Clear i t) e is made op h r = absurd is
silent_step m c k own g v (step.Publish l n z) is made op h r = absurd made
silent_step m c k own g v (step.Consume l n z) is made op h r = absurd made
silent_step m c k own g v e is made op h r = tt

silent_adds : (c : ℕ) (k : Known) (own : Option ℕ) (g : Given) (v : Event) (e : Step) → IsWordless v
    → IsStepFor k own g v e → tally_adds c e ≡ 0
silent_adds c k own g (event.Set d w) e is made = absurd is
silent_adds c k own g (event.Take d w) e is made = absurd is
silent_adds c k own g (event.Tas i t w) e is made = absurd is
silent_adds c k own g (event.Clear i t) e is made = absurd is
silent_adds c k own g v (step.Publish l n z) is made = absurd made
silent_adds c k own g v (step.Consume l n z) is made = absurd made
silent_adds c k own g v e is made = refl

-- a program of such steps
module _ (m c : ℕ) (f : Program) (wordless : (p : Point) (seen : Seen) → IsWordless (f.plan p seen).event) where
  made_adds : (p : Point) (seen : Seen) (k : Known) (s : StepOrLook)
      → IsMadeFor k f.own (f.given p) (f.plan p seen).event s → AddsToTally k (after_step_or_look s k) m c 0
  made_adds p seen k (by_step e) made = one_adds m c 0 k (after_step_or_look (by_step e) k) e
      (record { items = item.Made e ∷ []; view = locked_view e (added k (item.Made e)) }) (step_history k e)
      (λ op. silent_step m c k f.own (f.given p) (f.plan p seen).event e (wordless p seen) made
      (opens_from m (history_of k) op) (holds_mutex k m) (read_in m c (history_of k)))
      (silent_adds c k f.own (f.given p) (f.plan p seen).event e (wordless p seen) made)
  made_adds p seen k (by_look xs) made = no_look k f.own (f.given p) (f.plan p seen).event xs (wordless p seen) made

  pub goes_adds : (ts : List Transition) (n q : Next) (old new : Known) → Goes f old n ts new q
      → AddsToTally old new m c 0
  goes_adds [] n q old new g = only_adds m c old new g.0
  goes_adds (t ∷ ts) (next.Go p) q old new g = adds_on m c 0 old (after_transition t) new
      (adds_on m c 0 old t.knew (after_transition t) (only_adds m c old t.knew g.0.looks)
      (made_adds p t.seen t.knew t.did g.0.is))
      (goes_adds ts (f.plan p t.seen).next q (after_transition t) new g.1)
  goes_adds (t ∷ ts) (next.Ends a) q old new g = absurd g

pub futex_adds : (m c f v : ℕ) (st : SleepState) (me : ℕ) (old new : Known) (n q : Next)
    → Runs (plan_program me 0 (futex_plan f v st)) old new n q → AddsToTally old new m c 0
futex_adds m c f v st me old new n q runs = goes_adds m c (plan_program me 0 (futex_plan f v st))
    (λ p seen. futex_wordless f v st me p seen) runs.transitions n q old new runs.goes

pub woken_adds : (old new : Known) (aim : Aim) (w : Walked) → HasWoken old new aim w → (m c : ℕ)
    → AddsToTally old new m c 0
woken_adds old new aim w woken m c = goes_adds m c (walk_program aim)
    (λ p seen. walk_wordless aim seen (walk_point p)) woken.transitions (next.Go (at.Walk walking.Lock))
    (next.Ends (answer.Walk woken.walked)) old new woken.goes

-- loads, takes and stores
pub load_adds : (d v : ℕ) (old new : Known) → new ≡ added old (item.Made (step.Load (watch.Plain d) v)) → (m c : ℕ)
    → AddsToTally old new m c 0
load_adds d v old new is m c = one_adds m c 0 old new (step.Load (watch.Plain d) v)
    (grows_one old new (item.Made (step.Load (watch.Plain d) v)) is)
    (history_after old new (step.Load (watch.Plain d) v) is) (λ op. tt) refl

apart : (w c : ℕ) → c ≢ w → (w == c) ≡ false
apart w c ne = let other : (w == c) ≡ false = grind (arith, nat_tests) in other

meets : (w c : ℕ) → (w == c) ≡ true → w ≡ c
meets w c is = let one : w ≡ c = grind (arith, nat_tests) in one

false_true : {A : Type 0} → false ≡ true → A
false_true q = absurd (cc)

pub took_leaves : (w r : ℕ) (old new : Known) → new ≡ added old (item.Made (step.Consume (watch.Plain w) 0 r))
    → LeavesTallies w old new
took_leaves w r old new is m c ne = one_adds m c 0 old new (step.Consume (watch.Plain w) 0 r)
    (grows_one old new (item.Made (step.Consume (watch.Plain w) 0 r)) is)
    (history_after old new (step.Consume (watch.Plain w) 0 r) is) (λ op. apart w c ne) refl

or_held : (h b : Bool) → h ≡ true → (h || b) ≡ true
or_held true b q = refl
or_held false b q = false_true q

or_opens : (h b : Bool) → b ≡ true → (h || b) ≡ true
or_opens true b q = refl
or_opens false b q = q

flag_off : (w c : ℕ) (r : ℕ) → c ≢ w → tally_adds c (step.Publish (watch.Plain w) 1 r) ≡ 0
flag_off w c r ne = ap (λ (b : Bool). flag b) (apart w c ne)

pub freed_leaves : (w : ℕ) (old new : Known) → StoresWord old new w 1 → HoldsMutex old w → LeavesTallies w old new
freed_leaves w old new s held m c ne = adds_then m c 0 old s.stored new
    (one_adds m c 0 old s.stored (step.Publish (watch.Plain w) 1 s.found)
    (grows_one old s.stored (item.Made (step.Publish (watch.Plain w) 1 s.found)) s.is)
    (history_after old s.stored (step.Publish (watch.Plain w) 1 s.found) s.is)
    (λ op. (
      λ q. (
        refl,
        or_held (holds_mutex old m) (opens_from m (history_of old) op)
            (subst (λ (j : ℕ). holds_mutex old j ≡ true) (meets w m q) held),
      ),
      λ q. false_true (sym (apart w c ne) ∙ q),
    ))
    (flag_off w c s.found ne)) (s.behind m c)

-- the opening
opens_still : (m : ℕ) (es : List Step) → Lacks (stores_word m) es → opens_from m es true ≡ true
opens_still m [] none = refl
opens_still m (e ∷ es) none = ap (λ (b : Bool). opens_from m es (true && not b)) none.0 ∙ opens_still m es none.1

pub opened_tallies : (w : ℕ) (old new : Known) → StoresWord old new w 1 → OpensTallies w old new
opened_tallies w old new s none c ne =
    let is = history_after old s.stored (step.Publish (watch.Plain w) 1 s.found) s.is in
    let b = s.behind w c in (
      λ u. b.uses true (subst (UsesTally w c true) (sym is)
          (uses_append w c (history_of old) (step.Publish (watch.Plain w) 1 s.found ∷ []) true false None u (
            (
              λ q. (
                refl,
                or_opens (holds_mutex old w) (opens_from w (history_of old) true)
                    (opens_still w (history_of old) none),
              ),
              λ q. false_true (sym (apart w c ne) ∙ q),
            ),
            tt,
          ))),
      (let more = b.adds in
          let same = ap (total (tally_adds c)) is ∙ adds_append c (history_of old)
          (step.Publish (watch.Plain w) 1 s.found ∷ []) in
          let off = flag_off w c s.found ne in omega (arith, more, same, off)),
    )

-- a load by a holder
pub load_reads : (m c v : ℕ) (old mid : Known) → HoldsMutex old m → mid ≡ added old (item.Made (step.Load (watch.Plain c) v))
    → read_in m c (history_of mid) ≡ Some v
load_reads m c v old mid held is = ap (read_in m c) (history_after old mid (step.Load (watch.Plain c) v) is)
    ∙ (read_on m c (history_of old) (step.Load (watch.Plain c) v) false None
    ∙ (ap (λ (b : Bool). if b && (c == c) then Some v else read_in m c (history_of old)) held
    ∙ ap (λ (b : Bool). if b then Some v else read_in m c (history_of old)) here))
  where
    here : (c == c) ≡ true
    here = let same : (c == c) ≡ true = grind (arith, nat_tests) in same

-- an add by a holder: a load, and a store of one more
module _ (m c v : ℕ) (old mid new : Known) (apart_from : m ≢ c) (held : HoldsMutex old m)
    (is : mid ≡ added old (item.Made (step.Load (watch.Plain c) v)))
    (s : StoresWord mid new c ((v + 1) % 2 ^ 64)) where
  here : (c == c) ≡ true
  here = let same : (c == c) ≡ true = grind (arith, nat_tests) in same

  abbrev stores : Step
  stores = step.Publish (watch.Plain c) ((v + 1) % 2 ^ 64) s.found

  pub holder_adds : AddsToTally old new m c 1
  holder_adds = adds_on m c 1 old mid new (load_adds c v old mid is m c)
      (adds_then m c 1 mid s.stored new
      (one_adds m c 1 mid s.stored stores (grows_one mid s.stored (item.Made stores) s.is)
      (history_after mid s.stored stores s.is)
      (λ op. (
        λ q. false_true (sym (apart c m apart_from) ∙ q),
        λ q. (v, load_reads m c v old mid held is, refl),
      ))
      (ap (λ (b : Bool). flag b) here)) (s.behind m c))

-- a store in a word that is neither
pub stored_apart : (w value r : ℕ) (old new : Known) → new ≡ added old (item.Made (step.Publish (watch.Plain w) value r))
    → LeavesApart w old new
stored_apart w value r old new is m c not_m not_c = one_adds m c 0 old new (step.Publish (watch.Plain w) value r)
    (grows_one old new (item.Made (step.Publish (watch.Plain w) value r)) is)
    (history_after old new (step.Publish (watch.Plain w) value r) is)
    (λ op. (λ q. false_true (sym (apart w m not_m) ∙ q), λ q. false_true (sym (apart w c not_c) ∙ q)))
    (ap (λ (b : Bool). flag b) (apart w c not_c))

-- a load and a wait are about no tally's word
pub load_leaves : (w d v : ℕ) (old new : Known) → new ≡ added old (item.Made (step.Load (watch.Plain d) v))
    → LeavesTallies w old new
load_leaves w d v old new is m c ne = load_adds d v old new is m c

pub waited_leaves : (w : ℕ) (old new : Known) {f v : ℕ} {st : SleepState} {end : Result (Unit {0}) FutexEnd}
    → EndsFutexWait old new f v st end → LeavesTallies w old new
waited_leaves w old new {f} {v} {st} x m c ne = futex_adds m c f v st old.view.number old new _ _ x.runs
