-- Prepares: how a task stands in its hold, and what they say at their end.
use Rattle.std.proofs.Common.{◌∙◌, ap, sym, refl, subst, inr}
use Rattle.std.specs.Prelude.{ℕ, ◌≡◌, ◌⊎◌, ◌<◌, ◌&&◌, ◌||◌, Bool, true, false, if◌then◌else◌, is_some, Option, Some, None}
use Rattle.std.specs.Prelude.{Result, Ok, Err, List, [], ◌∷◌, ◌++◌}
use Rattle.wait_model.specs.{declared.layout.TheConstants.FIRST_DONE_HEAD, declared.calls.Answer.Answer}
use Rattle.wait_model.specs.{declared.points.Next.Next, declared.points.Point.Point, declared.steps.Step.Step}
use Rattle.wait_model.specs.{declared.tasks.How.How, declared.tasks.SleepState.SleepState, declared.watches.Entry.Entry}
use Rattle.wait_model.specs.{declared.watches.Kind.Kind, declared.watches.Watch.Watch, Programs.signalled}
use Rattle.wait_model.specs.{Programs.zero_answer, Tasks.looks_in, Tasks.state_mask, Watches.head_of}
use Rattle.wait_model.specs.declared.calls.Answer.TheVariants as answer
use Rattle.wait_model.specs.declared.points.LeavePoint.TheVariants as leaving
use Rattle.wait_model.specs.declared.points.Next.TheVariants as next
use Rattle.wait_model.specs.declared.points.Point.TheVariants as at
use Rattle.wait_model.specs.declared.points.PreparePoint.TheVariants as preparing
use Rattle.wait_model.specs.declared.steps.Step.TheVariants as step
use Rattle.wait_rule.specs.declared.journal.Item.TheVariants as item
use Rattle.wait_rule.specs.{HandedPermits.OwesNoPermit, Known.Known}
use Rattle.wait_rule.specs.Queues.{IsTold, at_head, index, saw, walk_of_hold}
use Rattle.wait_rule.specs.Says.{IsFree, IsUp, MayStore, added, history_of, stored_with, told_of, unlocked_with}
use Rattle.wait_rule.specs.Stays.{Carries, lock_change, unlock_change, with_entry}
use Rattle.wait_rule.specs.Transitions.{Goes, IsSeenAs, OnlyLooks, Program, Transition, by_step}
use Rattle.wait_rule.proofs.{KnownLaws.MemberBits.bit_looks, KnownLaws.StayingParts.owes_also}
use Rattle.wait_rule.proofs.{KnownLaws.StayingParts.owes_out, KnownLaws.TaskHistories.history_after}
use Rattle.wait_rule.proofs.KnownLaws.Transitions.{only_none}
use Rattle.wq_head.specs.declared.adds.Worn.{Worn}
use Rattle.wq_head.specs.Holds.{HasLocked, HasUnlocked, IsHolding}
use Rattle.wq_head.proofs.{LockWaits.turn_looks, LockWaits.turn_of, PermitHeads.owes_low}
use Rattle.wait_class.specs.Findings.{saw_nothing, with_worn, saw_entry as finds}
use Rattle.wait_class.specs.Posts.{EndsWith, IsOut, Keeps, Runs, own_of}
use Rattle.wait_class.proofs.Ground.Going.{runs_on, runs_one}
use Rattle.wait_class.proofs.Ground.Keeping.{keeps_of, keeps_on}
use Rattle.wait_class.proofs.Ground.Standing.{bare_head, finds_own, owner_own, seen_looks, seen_stored}
use Rattle.wait_class.proofs.Histories.{ends_more, stored_history, unlocked_history}
use Rattle.wait_event.specs.{declared.prepares.Part.Part, Waits.wait_left_by, Waits.queues_first}
use Rattle.wait_event.specs.PartSteps.{HasJoinedPart, Heeds, IsAtHead, IsWornPart, JoinsPart, PartCarries, ParesPart}
use Rattle.wait_event.specs.PartSteps.{locked_to, part_looked_to, program_of, unsignalled}
use Rattle.wait_event.specs.Prepares.{BeginsOwing, CarriesPrepare, EndsExclusive, EndsPart, IsPrepareLeft, IsNoWaiter}
use Rattle.wait_event.specs.Prepares.{IsPart, MayFinish, MayPrepare, Prepares, SuitsWait, WasAsked, answers_first}
use Rattle.wait_event.specs.Prepares.{exclusive_in, leave_change, prepare_program, prepare_change, with_none}
use Rattle.wait_event.proofs.{Conditions.suits_low, Entering.note_unlocked, Entering.unlock_looks, Behind.call_carried}
use Rattle.wait_event.proofs.{Tellings.firsts_more, WaitTrails.left_off, WaitTrails.left_taken}
use Rattle.wait_event.proofs.PartSteps.{IsPlanned, part_keeps, pares_out, pares_part, runs_planned, still_part}

-- the lock, and the unlock
pub lock_as : (old a : Known) (r h : ℕ) → r ≡ h → HasLocked old a r (walk_of_hold r None)
    → HasLocked old a h (walk_of_hold h None)
lock_as old a r h is l = subst (λ (n : ℕ). HasLocked old a n (walk_of_hold n None)) is l

pub carried_as : (old a : Known) (r h : ℕ) → r ≡ h → Carries (lock_change r) old a → Carries (lock_change h) old a
carried_as old a r h is c = subst (λ (n : ℕ). Carries (lock_change n) old a) is c

pub lock_keeps : (i h : ℕ) (old a : Known) → Carries (lock_change h) old a → Keeps i old a
lock_keeps i h old a c = keeps_of i (lock_change h) old a c (λ w. refl) (λ x away. refl) (λ x. c.owes (with_entry i x))

pub unlock_keeps : (i : ℕ) (c new : Known) → Carries unlock_change c new → Keeps i c new
unlock_keeps i c new u = keeps_of i unlock_change c new u (λ w. refl) (λ x away. refl) (λ x. u.owes (with_entry i x))

-- The own entry is taken off in a hold, and the head given back: at a point of a program where it looks at the entry,
-- and at the one behind it.
pub record IsParing (f : Program) (q u : Point) (n : Next) (me h : ℕ) : Type 0 where
  pub takes : (k : Known) (e : Entry) → IsSeenAs ((told_of k).hold.book (index me 0)) (Some e)
      → IsPlanned f q k (finds (Some e)) (by_step (step.Unqueue (index me 0))) (next.Go u)
  pub gives : (k : Known) → k.at ≡ h → IsSeenAs ((told_of k).hold.book (index me 0)) None
      → IsPlanned f q k (finds None) (by_step (step.Unlock k.at false)) n
  pub unlocks : (k : Known) → k.at ≡ h → IsPlanned f u k saw_nothing (by_step (step.Unlock k.at false)) n

module _ (b : Known) (held : IsHolding b) (home : IsAtHead b) (c : Known) where
  abbrev x : ℕ
  x = own_of b

  module _ (found : Bool) (y : ParesPart b c found) where
    shows : (g : Option Entry) → y.entry ≡ g → IsSeenAs ((told_of y.seen).hold.book x) g
    shows g is = finds_own b y.seen y.entry y.looked b.at held.locked held.told
        (λ e some. home e (seen_stored b y.seen y.entry y.looked e some)) g is

    looks : OnlyLooks b y.seen
    looks = seen_looks b y.seen y.entry y.looked b.at held.locked

    saw_it : y.seen ≡ added b (item.Made (step.Saw x y.looked.word))
    saw_it = y.looked.is ∙ ap (λ (h : Option ℕ). added b (item.Made (saw h x y.looked.word))) held.locked

    seen_ends : (es : List Step) → EndsWith b es → EndsWith y.seen (es ++ step.Saw x y.looked.word ∷ [])
    seen_ends es e = ends_more b y.seen es (step.Saw x y.looked.word ∷ []) e
        (history_after b y.seen (step.Saw x y.looked.word) saw_it)

    seen_at : y.seen.at ≡ b.at
    seen_at = y.looked.carries.at

  took : (y : ParesPart b c true) → c ≡ stored_with y.seen (step.Unqueue x)
  took y = y.takes.is ∙ ap (λ (n : ℕ). stored_with y.seen (step.Unqueue (index n 0))) y.looked.carries.number

  took_looks : (y : ParesPart b c true) → OnlyLooks (added y.seen (item.Made (step.Unqueue x))) c
  took_looks y = subst (OnlyLooks (added y.seen (item.Made (step.Unqueue x)))) (sym (took y))
      (bit_looks y.seen (step.Unqueue x))

  took_at : (y : ParesPart b c true) → c.at ≡ b.at
  took_at y = y.takes.carries.at ∙ y.looked.carries.at

  module _ (new : Known) (z : HasUnlocked c new false) where
    gave : (y : ParesPart b c false) → new ≡ unlocked_with y.seen y.seen.at false
    gave y = z.is ∙ ap (λ (k : Known). unlocked_with k k.at false) y.takes

    module _ (f : Program) (q u : Point) (n : Next) (me h : ℕ) (r : IsParing f q u n me h) (mine : b.view.number ≡ me)
        (here : b.at ≡ h) where
      mine_is : x ≡ index me 0
      mine_is = ap (λ (m : ℕ). index m 0) mine

      by_taking : (y : ParesPart b c true) (g : Option Entry) → y.entry ≡ g → true ≡ is_some g → Runs f b new (next.Go q) n
      by_taking y None is some = absurd (cc)
      by_taking y (Some e) is some = runs_on f b c new (next.Go q) (next.Go u) n
          (runs_planned f q b y.seen c (finds (Some e)) (by_step (step.Unqueue (index me 0))) (next.Go u)
          (looks true y)
          (r.takes y.seen e (subst (λ (i : ℕ). IsSeenAs ((told_of y.seen).hold.book i) (Some e)) mine_is
          (shows true y (Some e) is)))
          (subst (λ (i : ℕ). OnlyLooks (added y.seen (item.Made (step.Unqueue i))) c) mine_is (took_looks y)))
          (runs_planned f u c c new saw_nothing (by_step (step.Unlock c.at false)) n (only_none c)
          (r.unlocks c (took_at y ∙ here)) (unlock_looks c new z.is))

      by_giving : (y : ParesPart b c false) (g : Option Entry) → y.entry ≡ g → false ≡ is_some g → Runs f b new (next.Go q) n
      by_giving y (Some e) is some = absurd (cc)
      by_giving y None is some = runs_planned f q b y.seen new (finds None) (by_step (step.Unlock y.seen.at false)) n
          (looks false y)
          (r.gives y.seen (seen_at false y ∙ here)
          (subst (λ (i : ℕ). IsSeenAs ((told_of y.seen).hold.book i) None) mine_is (shows false y None is)))
          (unlock_looks y.seen new (gave y))

      pub pared_runs : (found : Bool) → ParesPart b c found → Runs f b new (next.Go q) n
      pared_runs true y = by_taking y y.entry refl y.is_found
      pared_runs false y = by_giving y y.entry refl y.is_found

    -- the last steps, behind a look for a signal
    pub pared_ends : (found : Bool) → (y : ParesPart b c found) → (w h : ℕ) → b.at ≡ h → EndsWith b (step.Look w ∷ [])
        → EndsWith new (wait_left_by x h w y.looked.word ++ [])
    pared_ends true y w h here e = subst (EndsWith new)
        (sym (left_taken x h w y.looked.word (sym (y.is_found ∙ ap is_some y.looked.reads))))
        (subst (λ (i : ℕ). EndsWith new (step.Look w ∷ step.Saw x y.looked.word ∷ step.Unqueue x ∷ step.Unlock i false
        ∷ [])) (took_at y ∙ here)
        (ends_more c new (step.Look w ∷ step.Saw x y.looked.word ∷ step.Unqueue x ∷ []) (step.Unlock c.at false ∷ [])
        (ends_more y.seen c (step.Look w ∷ step.Saw x y.looked.word ∷ []) (step.Unqueue x ∷ [])
        (seen_ends true y (step.Look w ∷ []) e) (stored_history y.seen c (step.Unqueue x) (took y)))
        (unlocked_history c new z.is)))
    pared_ends false y w h here e = subst (EndsWith new)
        (sym (left_off x h w y.looked.word (sym (y.is_found ∙ ap is_some y.looked.reads))))
        (subst (λ (i : ℕ). EndsWith new (step.Look w ∷ step.Saw x y.looked.word ∷ step.Unlock i false ∷ []))
        (seen_at false y ∙ here)
        (ends_more y.seen new (step.Look w ∷ step.Saw x y.looked.word ∷ []) (step.Unlock y.seen.at false ∷ [])
        (seen_ends false y (step.Look w ∷ []) e) (unlocked_history y.seen new (gave y))))

-- the same program, by another name of the task's number
pub for_number : (p : Part) (m n : ℕ) (old new : Known) (from to : Next) → m ≡ n → Runs (program_of p m) old new from to
    → Runs (program_of p n) old new from to
for_number p m n old new from to is r = record {
  transitions = r.transitions;
  goes = subst (λ (k : ℕ). Goes (program_of p k) old from r.transitions new to) is r.goes;
}

-- a prepare's lock
module _ (old a : Known) (w : Watch) (k : Kind) (how : How) (l : HasLocked old a (head_of w)
    (walk_of_hold (head_of w) None)) where
  abbrev h : ℕ
  h = head_of w

  abbrev turn : Known
  turn = turn_of old a h (walk_of_hold h None) l

  abbrev locked : Known
  locked = at_head h (added turn (item.Made (step.Lock h (walk_of_hold h None) l.found)))

  abbrev lock_is : Transition
  lock_is = record { seen = saw_nothing; knew = turn; did = by_step (step.Lock h (walk_of_hold h None) l.found) }

  behind : OnlyLooks locked a
  behind = subst (OnlyLooks locked) (sym l.is) (only_none locked)

  -- the list of its one transition
  pub lock_runs : (asks : Bool) → Goes (prepare_program asks old.view.number w k how) old
      (next.Go (at.Prepare preparing.Lock)) (lock_is ∷ []) a
      (next.Go (at.Prepare (if asks && looks_in how.state then preparing.Look else preparing.Queue)))
  lock_runs true = (
    record { looks = turn_looks old a h (walk_of_hold h None) l; is = (refl, refl); finds = (tt, tt, tt) },
    (behind, refl),
  )
  lock_runs false = (
    record { looks = turn_looks old a h (walk_of_hold h None) l; is = (refl, refl); finds = (tt, tt, tt) },
    (behind, refl),
  )

-- a prepare in its hold
module _ (p : Part) (old a b : Known) (hit : Bool) (may : MayPrepare old p.watch p.kind p.how.state) (was : IsTold old)
    (suits : SuitsWait p.watch p.kind p.how) (l : HasLocked old a (head_of p.watch) (walk_of_hold (head_of p.watch) None))
    (one : Carries (lock_change (head_of p.watch)) old a) (heed : Heeds p a b hit) where
  abbrev f : Program
  f = program_of p old.view.number

  abbrev here : ℕ
  here = head_of p.watch

  abbrev i : ℕ
  i = own_of old

  number : b.view.number ≡ old.view.number
  number = heed.carries.number ∙ one.number

  own_is : own_of b ≡ i
  own_is = ap (λ (n : ℕ). index n 0) number

  state_is : b.book.state ≡ old.book.state
  state_is = heed.carries.state ∙ one.state

  pub prepare_at : b.at ≡ here
  prepare_at = heed.carries.at ∙ one.at

  pub prepare_home : IsPart p.watch p.kind ((told_of b).bits.stored (own_of b))
  prepare_home = subst (IsPart p.watch p.kind)
      (sym (ap (λ (n : ℕ). (told_of b).bits.stored n) own_is
      ∙ (heed.carries.stored i refl refl ∙ one.stored i refl refl))) may.home

  pub prepare_may : MayStore (state_mask p.how.state) b
  prepare_may = inr (subst (λ (s : ℕ). (s ≡ 0) ⊎ (s ≡ state_mask p.how.state)) (sym state_is) may.state)

  pub prepare_stands : IsAtHead b
  prepare_stands e some =
      let x = subst (IsPart p.watch p.kind) some prepare_home in ap head_of x.0 ∙ (bare_head p.watch ∙ sym prepare_at)

  pub prepare_low : (c : Known) → c.at ≡ b.at → OwesNoPermit c
  prepare_low c same = owes_low c here (same ∙ prepare_at) (suits_low p.watch p.kind p.how suits)

  pub begins : Runs f old b (next.Go (at.Prepare preparing.Lock)) (next.Go (part_looked_to hit))
  begins = runs_on f old a b (next.Go (at.Prepare preparing.Lock)) (next.Go (locked_to p)) (next.Go (part_looked_to hit))
      (record {
        transitions = lock_is old a p.watch p.kind p.how l ∷ [];
        goes = lock_runs old a p.watch p.kind p.how l p.asks;
      })
      (for_number p a.view.number old.view.number a b (next.Go (locked_to p)) (next.Go (part_looked_to hit)) one.number
      heed.runs)

  pub begins_quiet : queues_first begins.transitions ≡ false
  unfolding begins for_number
  begins_quiet = heed.quiet

  pub keeps_to : Keeps i old b
  keeps_to = keeps_on i old a b (lock_keeps i here old a one)
      (subst (λ (n : ℕ). Keeps (index n 0) a b) one.number (part_keeps (λ s. s) a b (still_part a b heed.carries)))

  pub held_up : IsUp b
  held_up = heed.carries.awake ∙ (one.awake ∙ may.up)

  -- behind what the hold did, the head is given back
  module _ (c new : Known) (s : ℕ → ℕ) (did : PartCarries s b c) (z : HasUnlocked c new false)
      (three : Carries unlock_change c new) where
    pub last_at : c.at ≡ here
    last_at = did.at ∙ prepare_at

    pub last_up : IsUp new
    last_up = three.awake ∙ (did.awake ∙ held_up)

    pub last_keeps : Keeps i old new
    last_keeps = keeps_on i old b new keeps_to (keeps_on i b c new
        (subst (λ (n : ℕ). Keeps (index n 0) b c) number (part_keeps s b c did)) (unlock_keeps i c new three))

    pub last_own : own_of new ≡ own_of b
    last_own = ap (λ (n : ℕ). index n 0) (three.number ∙ did.number)

    pub last_state : new.book.state ≡ s old.book.state
    last_state = three.state ∙ (did.state ∙ ap s state_is)

    pub last_stored : (told_of new).bits.stored (own_of new) ≡ (told_of c).bits.stored (own_of b)
    last_stored = ap (told_of new).bits.stored last_own ∙ three.stored (own_of b) refl refl

paring : (asks : Bool) (me : ℕ) (w : Watch) (k : Kind) (how : How)
    → IsParing (prepare_program asks me w k how) (at.Leave leaving.Queue) (at.Leave leaving.Unlock)
    (next.Ends signalled) me (head_of w)
paring asks me w k how = record {
  takes = λ j e x. record { made = owner_own me; finds = (tt, x, refl); goes = refl };
  gives = λ j at x. record { made = (at, refl); finds = (tt, x, tt); goes = refl };
  unlocks = λ j at. record { made = (at, refl); finds = (tt, tt, tt); goes = refl };
}

or_none : (b : Bool) → (b || false) ≡ b
or_none true = refl
or_none false = refl

-- how it ends
module _ (p : Part) (old a b : Known) (may : MayPrepare old p.watch p.kind p.how.state) (was : IsTold old)
    (suits : SuitsWait p.watch p.kind p.how) (l : HasLocked old a (head_of p.watch) (walk_of_hold (head_of p.watch) None))
    (one : Carries (lock_change (head_of p.watch)) old a) (held : IsHolding b) (c new : Known)
    (z : HasUnlocked c new false) (three : Carries unlock_change c new) where
  abbrev g : Program
  g = program_of p old.view.number

  -- for a signal
  module _ (hit : Bool) (is : hit ≡ true) (heed : Heeds p a b hit) (found : Bool) (y : ParesPart b c found) where
    hears : Heeds p a b true
    hears = subst (Heeds p a b) is heed

    number_to : b.view.number ≡ old.view.number
    number_to = hears.carries.number ∙ one.number

    home : IsAtHead b
    home = prepare_stands p old a b true may was suits l one hears

    did : PartCarries (λ t. t) b c
    did = pares_part b c found y

    out : IsOut new
    out = last_stored p old a b true may was suits l one hears c new (λ t. t) did z three ∙ pares_out b c found y

    was_asked : WasAsked new p.watch p.how
    was_asked =
        let s = hears.found refl in record {
          look = s.word;
          entry = y.looked.word;
          showed = s.pends;
          ends = subst (λ (n : ℕ). EndsWith new (wait_left_by n (head_of p.watch) s.word y.looked.word ++ []))
              (sym (last_own p old a b true may was suits l one hears c new (λ t. t) did z three))
              (pared_ends b held home c new z found y s.word (head_of p.watch)
              (prepare_at p old a b true may was suits l one hears) (history_of a, history_after a b (step.Look s.word) s.is));
        }

    pub signal_ends : EndsPart old new p (Ok None)
    signal_ends = (
      record {
        runs = runs_on g old b new (next.Go (at.Prepare preparing.Lock)) (next.Go (at.Leave leaving.Queue))
            (next.Ends signalled) (begins p old a b true may was suits l one hears)
            (pared_runs b held home c new z g (at.Leave leaving.Queue) (at.Leave leaving.Unlock)
            (next.Ends signalled) old.view.number (head_of p.watch)
            (paring p.asks old.view.number p.watch p.kind p.how) number_to
            (prepare_at p old a b true may was suits l one hears) found y);
        keeps = last_keeps p old a b true may was suits l one hears c new (λ t. t) did z three;
        up = last_up p old a b true may was suits l one hears c new (λ t. t) did z three;
        free = z.free;
        home = subst (IsPart p.watch p.kind) (sym out) tt;
      },
      (hears.found refl).asks,
      record { out = out; state = last_state p old a b true may was suits l one hears c new (λ t. t) did z three },
      was_asked,
    )

  -- and where it found none
  module _ (hit : Bool) (is : hit ≡ false) (heed : Heeds p a b hit) where
    goes_on : Heeds p a b false
    goes_on = subst (Heeds p a b) is heed

    number_on : b.view.number ≡ old.view.number
    number_on = goes_on.carries.number ∙ one.number

    module _ (first : Bool) (y : HasJoinedPart p b c first) where
      abbrev τ : ℕ
      τ = state_mask p.how.state

      abbrev gives_back : Transition
      gives_back = record { seen = saw_nothing; knew = c; did = by_step (step.Unlock c.at false) }

      unlocks : Runs g c new (next.Go (at.Prepare preparing.Unlock)) (next.Ends zero_answer)
      unlocks = runs_one g (at.Prepare preparing.Unlock) c c new saw_nothing (by_step (step.Unlock c.at false)) (only_none c)
          (last_at p old a b false may was suits l one goes_on c new (λ _. τ) y.carries z three, refl) (tt, tt, tt)
          (unlock_looks c new z.is)

      whole : Runs g old new (next.Go (at.Prepare preparing.Lock)) (next.Ends zero_answer)
      whole = runs_on g old b new (next.Go (at.Prepare preparing.Lock)) (next.Go (at.Prepare preparing.Queue))
          (next.Ends zero_answer) (begins p old a b false may was suits l one goes_on)
          (runs_on g b c new (next.Go (at.Prepare preparing.Queue)) (next.Go (at.Prepare preparing.Unlock))
          (next.Ends zero_answer) (for_number p b.view.number old.view.number b c (next.Go (at.Prepare preparing.Queue))
          (next.Go (at.Prepare preparing.Unlock)) number_on y.runs) unlocks)

      firsts : queues_first whole.transitions ≡ queues_first y.runs.transitions
      unfolding whole unlocks for_number
      firsts =
          let ts : List Transition = (begins p old a b false may was suits l one goes_on).transitions in
          let us : List Transition = y.runs.transitions in
          sym (firsts_more ts (us ++ gives_back ∷ []))
          ∙ (ap (λ (d : Bool). d || queues_first (us ++ gives_back ∷ []))
          (begins_quiet p old a b false may was suits l one goes_on)
          ∙ (sym (firsts_more us (gives_back ∷ [])) ∙ or_none (queues_first us)))

      stored_on : (told_of new).bits.stored (own_of new) ≡ Some y.entry
      stored_on = last_stored p old a b false may was suits l one goes_on c new (λ _. τ) y.carries z three ∙ y.queued

      joined_ends : EndsPart old new p (Ok (Some first))
      joined_ends = (
        record {
          runs = whole;
          keeps = last_keeps p old a b false may was suits l one goes_on c new (λ _. τ) y.carries z three;
          up = last_up p old a b false may was suits l one goes_on c new (λ _. τ) y.carries z three;
          free = z.free;
          home = subst (IsPart p.watch p.kind) (sym stored_on) y.home;
        },
        record {
          queued = ap is_some stored_on;
          state = last_state p old a b false may was suits l one goes_on c new (λ _. τ) y.carries z three;
        },
        y.tells ∙ ap (λ (d : Bool). d && answers_first p) (sym firsts),
      )

    module _ (v : Worn) (y : IsWornPart p b c v) where
      out_on : IsOut new
      out_on = last_stored p old a b false may was suits l one goes_on c new (λ t. t) y.carries z three ∙ y.out

      worn_ends : EndsPart old new p (Err v)
      worn_ends = (
        record {
          runs = runs_on g old b new (next.Go (at.Prepare preparing.Lock)) (next.Go (at.Prepare preparing.Queue))
              (next.Ends answer.Worn) (begins p old a b false may was suits l one goes_on)
              (runs_one g (at.Prepare preparing.Queue) b c new (with_worn true) (by_step (step.Unlock c.at false)) y.looks
              (last_at p old a b false may was suits l one goes_on c new (λ t. t) y.carries z three, refl) (
                tt,
                (
                  subst (λ (n : ℕ). IsSeenAs ((told_of c).hold.book (index n 0)) None) number_on y.shows,
                  λ _. (y.whole, sym y.worn),
                ),
                tt,
              ) (unlock_looks c new z.is));
          keeps = last_keeps p old a b false may was suits l one goes_on c new (λ t. t) y.carries z three;
          up = last_up p old a b false may was suits l one goes_on c new (λ t. t) y.carries z three;
          free = z.free;
          home = subst (IsPart p.watch p.kind) (sym out_on) tt;
        },
        record { out = out_on; state = last_state p old a b false may was suits l one goes_on c new (λ t. t) y.carries z three },
        y.head ∙ prepare_at p old a b false may was suits l one goes_on,
        note_unlocked c new v z.is y.noted,
      )

-- by the answer of the add
pub join_ends : (p : Part) (old a b : Known) (may : MayPrepare old p.watch p.kind p.how.state) → IsTold old
    → SuitsWait p.watch p.kind p.how → HasLocked old a (head_of p.watch) (walk_of_hold (head_of p.watch) None)
    → Carries (lock_change (head_of p.watch)) old a → IsHolding b → (c new : Known) → HasUnlocked c new false
    → Carries unlock_change c new → (hit : Bool) → hit ≡ false → Heeds p a b hit → (r : Result Bool Worn)
    → JoinsPart p b c r → EndsPart old new p (unsignalled r)
join_ends p old a b may was suits l one held c new z three hit is heed (Ok first) y =
    joined_ends p old a b may was suits l one held c new z three hit is heed first y
join_ends p old a b may was suits l one held c new z three hit is heed (Err v) y =
    worn_ends p old a b may was suits l one held c new z three hit is heed v y

-- what a task carries on over a prepare, and what it may do then
module _ (old new : Known) (up : IsUp old) (free : IsFree old) (was : IsTold old) (now : IsTold new)
    (keeps : Keeps (own_of old) old new) (still : IsUp new) (out : IsFree new) where
  hold_is : (told_of new).hold.head ≡ (told_of old).hold.head
  hold_is = now.head ∙ (out.head ∙ sym (was.head ∙ free.head))

  -- the entry is owed still, and the state is this one
  pub queued_carried : (σ : ℕ) → new.book.state ≡ σ → Carries (prepare_change (own_of old) σ new.at) old new
  queued_carried σ state =
      let i = own_of old in
      call_carried (with_entry i) (with_entry i) (λ _. σ) i old new keeps up still free out hold_is state keeps.owes

  -- the entry is off
  pub left_carried : (s : ℕ → ℕ) → new.book.state ≡ s old.book.state → IsOut new
      → Carries (record (leave_change (own_of old) new.at) { state = s }) old new
  left_carried s state gone =
      let i = own_of old in
      call_carried (with_entry i) (λ x. x) s i old new keeps up still free out hold_is state
      (λ x o. owes_out i x new (ap (λ (n : ℕ). (told_of new).bits.stored (index n 0)) (sym keeps.number) ∙ gone)
      (keeps.owes x o))

pub begins_owing : (old new : Known) → Keeps (own_of old) old new → BeginsOwing old new
begins_owing old new keeps x o = keeps.owes x (owes_also (own_of old) x old o)

part_low : (w : Watch) (k : Kind) (o : Option Entry) → head_of w < FIRST_DONE_HEAD → IsPart w k o → IsNoWaiter o
part_low w k None low part = tt
part_low w k (Some e) low part = subst (λ (h : ℕ). h < FIRST_DONE_HEAD) (sym (ap head_of part.0 ∙ bare_head w)) low

module _ (p : Part) (old new : Known) (may : MayPrepare old p.watch p.kind p.how.state) (was : IsTold old)
    (now : IsTold new) (suits : SuitsWait p.watch p.kind p.how) where
  module _ (a : Answer) (x : Prepares old new p.watch p.kind p.how p.asks a) where
    finish_may : MayFinish new
    finish_may = record {
      up = x.up;
      free = x.free;
      home = part_low p.watch p.kind ((told_of new).bits.stored (own_of new)) (suits_low p.watch p.kind p.how suits) x.home;
    }

    again_may : (new.book.state ≡ 0) ⊎ (new.book.state ≡ state_mask p.how.state)
        → MayPrepare new p.watch p.kind p.how.state
    again_may state = record { up = x.up; free = x.free; state = state; home = x.home }

  left_state : IsPrepareLeft old new → (new.book.state ≡ 0) ⊎ (new.book.state ≡ state_mask p.how.state)
  left_state left = subst (λ (s : ℕ). (s ≡ 0) ⊎ (s ≡ state_mask p.how.state)) (sym left.state) may.state

  pub ends_may : (r : Result (Option Bool) Worn) → EndsPart old new p r → MayFinish new
  ends_may (Ok (Some first)) e = finish_may zero_answer e.0
  ends_may (Ok None) e = finish_may signalled e.0
  ends_may (Err v) e = finish_may answer.Worn e.0

  pub ends_again : (r : Result (Option Bool) Worn) → EndsPart old new p r → MayPrepare new p.watch p.kind p.how.state
  ends_again (Ok (Some first)) e = again_may zero_answer e.0 (inr e.1.state)
  ends_again (Ok None) e = again_may signalled e.0 (left_state e.2)
  ends_again (Err v) e = again_may answer.Worn e.0 (left_state e.1)

  pub ends_keeps : (r : Result (Option Bool) Worn) → EndsPart old new p r → Keeps (own_of old) old new
  ends_keeps (Ok (Some first)) e = e.0.keeps
  ends_keeps (Ok None) e = e.0.keeps
  ends_keeps (Err v) e = e.0.keeps

  pub ends_carried : (r : Result (Option Bool) Worn) → EndsPart old new p r → CarriesPrepare old new p.how.state (with_none r)
  ends_carried (Ok (Some first)) e = queued_carried old new may.up may.free was now e.0.keeps e.0.up e.0.free
      (state_mask p.how.state) e.1.state
  ends_carried (Ok None) e = left_carried old new may.up may.free was now e.0.keeps e.0.up e.0.free (λ s. s) e.2.state
      e.2.out
  ends_carried (Err v) e = left_carried old new may.up may.free was now e.0.keeps e.0.up e.0.free (λ s. s) e.1.state
      e.1.out

-- of an exclusive prepare that looks for no signal
and_true : (b : Bool) → (b && true) ≡ b
and_true true = refl
and_true false = refl

pub exclusive_ends : (old new : Known) (k : Kind) (w : Watch) (σ : SleepState) (first : Bool)
    → EndsPart old new (record { kind = k; watch = w; how = exclusive_in σ; asks = false }) (Ok (Some first))
    → EndsExclusive old new w k σ (Ok first)
exclusive_ends old new k w σ first e = (e.0, e.1, e.2 ∙ and_true (queues_first e.0.runs.transitions))
