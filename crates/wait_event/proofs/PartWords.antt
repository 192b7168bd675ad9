-- What prepares and finishes make: a prepare and a finish of the sentences.
use Rattle.std.proofs.Common.{refl, ◌∙◌, ap, subst, append-nil, append_assoc}
use Rattle.std.specs.Prelude.{ℕ, ◌≡◌, Bool, true, false, if◌then◌else◌, Option, None, Some, is_some, List, [], ◌∷◌, ◌++◌}
use Rattle.std.proofs.lemmas.Bool.{false≢true, true≢false}
use Rattle.wait_model.specs.{declared.calls.Answer.Answer, declared.calls.Event.Event, declared.points.Next.Next}
use Rattle.wait_model.specs.{declared.points.Planned.Planned, declared.points.Point.Point, declared.points.Seen.Seen}
use Rattle.wait_model.specs.{declared.steps.Step.Step, declared.tasks.How.How, declared.watches.Entry.Entry}
use Rattle.wait_model.specs.{declared.watches.Kind.Kind, declared.watches.Watch.Watch, Findings.none_noted}
use Rattle.wait_model.specs.{Findings.notes, Programs.go, Programs.zero_answer, Tables.Table, Watches.head_of}
use Rattle.wait_model.specs.SentenceSteps.{Prepared, enters, finishes, is_ready, is_signalled, is_worn, locks, nothing}
use Rattle.wait_model.specs.SentenceSteps.{number, stands, takes_off, unlocks}
use Rattle.wait_model.specs.Tasks.{looks_in, pending, state_mask}
use Rattle.wait_model.specs.declared.calls.Event.TheVariants as event
use Rattle.wait_model.specs.declared.points.FinishPoint.TheVariants as finishing
use Rattle.wait_model.specs.declared.points.LeavePoint.TheVariants as leaving
use Rattle.wait_model.specs.declared.points.Next.TheVariants as next
use Rattle.wait_model.specs.declared.points.Point.TheVariants as at
use Rattle.wait_model.specs.declared.points.PreparePoint.TheVariants as preparing
use Rattle.wait_model.specs.Phrases.{Phrase, Rest, ◌>>=◌, ◌>>◌, ends, finds, gives, makes, when◌then◌otherwise◌}
use Rattle.wait_model.proofs.WaitLaws.OutsideStages.{either}
use Rattle.wait_rule.specs.{Interleavings.IsInterleaved, Items.steps_of, Known.Known, Queues.index, SaidEvents.said}
use Rattle.wait_rule.specs.{Says.history_of, Says.told_of}
use Rattle.wait_rule.specs.Transitions.{Finds, FindsAt, Goes, IsSeenAs, Program, StepOrLook, Transition}
use Rattle.wait_rule.specs.Transitions.{after_transition, by_look, by_step}
use Rattle.wait_rule.proofs.{KnownLaws.Moments.moment_of, SaidEvents.OwnFindings.own_off}
use Rattle.wait_rule.proofs.TableSteps.ItemLists.{steps_append}
use Rattle.wait_rule.proofs.SaidEvents.Fronts.{IsOff, number_stays, off_on, off_still, step_follows, steps_made}
use Rattle.wait_class.specs.Queueing.{wait_form}
use Rattle.wait_class.proofs.Ground.Standing.{owner_own}
use Rattle.wait_event.specs.Prepares.{finish_program, prepare_program}
use Rattle.wait_event.specs.WaitPlans.{planned_as_asked, behind_prepare, gives_lock_back, looks_for, plan}
use Rattle.wait_event.specs.Words.{FinishesFollow, PreparesFollow, prepared_as, prepares_by}
use Rattle.wait_event.proofs.Words.{list_of}

-- A prepare: what is left of it at each of its points. `q` is whether the own entry may stand there.
module _ (asks : Bool) (me : ℕ) (w : Watch) (k : Kind) (how : How) where
  abbrev f : Program
  f = prepare_program asks me w k how

  abbrev x : ℕ
  x = index me 0

  abbrev answers : Prepared → Phrase Answer
  answers done = gives (prepared_as done)

  abbrev enters_it : Bool → Phrase Prepared
  enters_it q = enters w how.state (wait_form how) q >>= λ b. gives (if b then is_ready else is_worn)

  abbrev heeds : Bool → Bool → Phrase Prepared
  heeds q signal = when signal then (takes_off me q >> (unlocks w >> gives is_signalled)) otherwise enters_it q

  abbrev LeftFor : Bool → Point → Rest
  LeftFor q (at.Prepare preparing.Lock) = (prepares_by asks me w how q >>= answers) ends
  LeftFor q (at.Prepare preparing.Look) = ((finds event.Look >>= heeds q) >>= answers) ends
  LeftFor q (at.Prepare preparing.Queue) = (enters_it q >>= answers) ends
  LeftFor q (at.Prepare preparing.State) =
      (makes (event.State (state_mask how.state)) >> (unlocks w >> answers is_ready)) ends
  LeftFor q (at.Prepare preparing.Unlock) = (unlocks w >> answers is_ready) ends
  LeftFor q (at.Leave leaving.Queue) = (takes_off me q >> (unlocks w >> answers is_signalled)) ends
  LeftFor q (at.Leave leaving.Unlock) = (unlocks w >> answers is_signalled) ends
  LeftFor q _ = λ v a. Unit {0}

  -- whether the own entry may stand after an event
  abbrev stands_by : Event → Bool → Bool
  stands_by (event.Queue h form) q = true
  stands_by _ q = q

  -- where it matters whether it does
  abbrev reads : Point → Bool
  reads (at.Prepare preparing.Queue) = true
  reads (at.Leave leaving.Queue) = true
  reads _ = false

  module _ (a : Answer) where
    abbrev LeftBehind : Bool → Next → List Event → Type 0
    LeftBehind q (next.Go p) v = LeftFor q p v a
    LeftBehind q (next.Ends b) v = ends b v a

    module _ (v : List Event) (q : Bool) where
      -- an event at a point leads to what is left behind it
      abbrev Leads : Point → Planned → Type 0
      Leads p e = LeftBehind (stands_by e.event q) (behind_prepare e.next) v → LeftFor q p (e.event ∷ v) a

      abbrev LeadsTo : Point → Planned → Type 0
      LeadsTo p e = LeftBehind q (behind_prepare e.next) v → LeftFor q p (e.event ∷ v) a

      looks_lead : (b : Bool) → LeftFor q (at.Prepare (if b then preparing.Look else preparing.Queue)) v a
          → (((when b then finds event.Look otherwise gives false) >>= heeds q) >>= answers) ends v a
      looks_lead true h = h
      looks_lead false h = h

      look_leads : (hit : Bool) → LeadsTo (at.Prepare preparing.Look) (looks_for hit)
      look_leads true h = (true, (refl, h))
      look_leads false h = (false, (refl, h))

    -- the add; an entry that can't be queued is off
    abbrev adds_at : Bool → Option Entry → Planned
    adds_at worn entry = if is_some entry
        then go (event.State (state_mask how.state)) (at.Prepare preparing.Unlock)
        else if worn
        then gives_lock_back w (next.Go at.Worn)
        else go (event.Queue (head_of w) (wait_form how)) (at.Prepare preparing.State)

    abbrev pares_at : Option Entry → Planned
    pares_at entry = if is_some entry
        then go (event.Unqueue me) (at.Leave leaving.Unlock)
        else gives_lock_back w (next.Go (at.Leave leaving.Load))

    queue_leads : (v : List Event) (q worn : Bool) (entry : Option Entry) → (q ≡ false → entry ≡ None)
        → Leads v q (at.Prepare preparing.Queue) (adds_at worn entry)
    queue_leads v true worn (Some e) off h = (true, (refl, h))
    queue_leads v true true None off h = (false, (true, (refl, h)))
    queue_leads v true false None off h = (false, (false, (refl, h)))
    queue_leads v false worn (Some e) off h = absurd (let z : Some e ≡ None = off refl in cc)
    queue_leads v false true None off h = (true, (refl, h))
    queue_leads v false false None off h = (false, (refl, h))

    leave_leads : (v : List Event) (q : Bool) (entry : Option Entry) → (q ≡ false → entry ≡ None)
        → Leads v q (at.Leave leaving.Queue) (pares_at entry)
    leave_leads v true (Some e) off h = (true, (refl, h))
    leave_leads v true None off h = (false, (refl, h))
    leave_leads v false (Some e) off h = absurd (let z : Some e ≡ None = off refl in cc)
    leave_leads v false None off h = (refl, h)

    lock_leads : (b : Bool) → b ≡ asks → (v : List Event) (q : Bool) (seen : Seen)
        → Leads v q (at.Prepare preparing.Lock) (planned_as_asked b (at.Prepare preparing.Lock) (plan me w how (at.Prepare preparing.Lock) seen))
    lock_leads true is v q seen h = subst (λ (c : Bool). ((prepares_by c me w how q >>= answers) ends)
        (event.Lock (head_of w) ∷ v) a) is (refl, looks_lead v q (looks_in how.state) h)
    lock_leads false is v q seen h = subst (λ (c : Bool). ((prepares_by c me w how q >>= answers) ends)
        (event.Lock (head_of w) ∷ v) a) is (refl, h)

    leads : (v : List Event) (q : Bool) (p : Point) (seen : Seen) → (q ≡ false → reads p ≡ true → seen.entry ≡ None)
        → LeftBehind (stands_by (f.plan p seen).event q) (f.plan p seen).next v → LeftFor q p ((f.plan p seen).event ∷ v) a
    leads v q (at.Prepare preparing.Lock) seen off h = lock_leads asks refl v q seen h
    leads v q (at.Prepare preparing.Look) seen off h = look_leads v q (pending (state_mask how.state) seen.own) h
    leads v q (at.Prepare preparing.Queue) seen off h = queue_leads v q seen.worn seen.entry (λ z. off z refl) h
    leads v q (at.Leave leaving.Queue) seen off h = leave_leads v q seen.entry (λ z. off z refl) h
    leads v q p seen off h = assumption

  -- an entry that does not stand after an event did not stand before it, and the event did not queue it
  stays_off : (e : Event) (q : Bool) → stands_by e q ≡ false → (q ≡ false) × ((notes none_noted e).queued ≡ false)
  stays_off (event.Queue h form) q is = absurd (true≢false is)
  stays_off e q is = (is, refl)

  -- whole prepares
  module _ (s : Table) (all : IsInterleaved s) (a : Answer) (new : Known) (later : List Step)
      (split : s.history me ≡ history_of new ++ later) where
    -- what it finds of an entry that is off
    module _ (t : Transition) (rest : List Step) (cut : s.history me ≡ history_of t.knew ++ (steps_made t.did ++ rest))
        (out : IsOff t.knew x) where
      seen_off : IsSeenAs ((told_of t.knew).hold.book x) t.seen.entry → t.seen.entry ≡ None
      seen_off = own_off me (history_of t.knew)
          (moment_of s all me (history_of t.knew) (steps_made t.did ++ rest) cut) x (owner_own me) out t.seen.entry

      finds_at : (p : Point) (did : StepOrLook) → Finds t.knew f p did t.seen
          → FindsAt t.knew (Some x) f.form (f.given p) p t.seen
      finds_at p (by_step e) finds = finds.1
      finds_at p (by_look xs) finds = finds

      found : (p : Point) → Finds t.knew f p t.did t.seen → reads p ≡ true → t.seen.entry ≡ None
      found (at.Prepare preparing.Queue) finds is = seen_off (finds_at (at.Prepare preparing.Queue) t.did finds).0
      found (at.Leave leaving.Queue) finds is = seen_off (finds_at (at.Leave leaving.Queue) t.did finds)
      found p finds is = absurd (false≢true is)

    abbrev said_on : List Transition → Next → List Event
    said_on ts n = said f n ts

    tail_on : (ts : List Transition) (q : Bool) (j : Known)
        → ((p : Point) → Goes f j (next.Go p) ts new (next.Ends a) → LeftFor q p (said_on ts (next.Go p)) a)
        → (n : Next) → Goes f j n ts new (next.Ends a) → LeftBehind a q n (said_on ts n)
    tail_on ts q j rec (next.Go p) g = rec p g
    tail_on [] q j rec (next.Ends b) g = let z : next.Ends a ≡ next.Ends b = g.1 in
        let y : a ≡ b = cc in y
    tail_on (t ∷ ts) q j rec (next.Ends b) g = absurd g

    run_on : (ts : List Transition) (q : Bool) (p : Point) (old : Known) → (q ≡ false → IsOff old x)
        → Goes f old (next.Go p) ts new (next.Ends a) → LeftFor q p (said_on ts (next.Go p)) a
    run_on [] q p old off g = absurd (let z : next.Ends a ≡ next.Go p = g.1 in cc)
    run_on (t ∷ ts) q p old off g =
        let e : Event = (f.plan p t.seen).event in
        let nx : Next = (f.plan p t.seen).next in
        let r = step_follows f new nx (next.Ends a) t ts g.1 in
        let cut : s.history me ≡ history_of t.knew ++ (steps_made t.did ++ (r.0 ++ later)) =
        split ∙ (ap (λ (es : List Step). es ++ later) r.1
        ∙ (append_assoc (history_of t.knew) (steps_made t.did ++ r.0) later
        ∙ ap (λ (es : List Step). history_of t.knew ++ es) (append_assoc (steps_made t.did) r.0 later))) in
        leads a (said_on ts nx) q p t.seen
        (λ z is. found t (r.0 ++ later) cut (off_on old t.knew x g.0.looks (off z)) p g.0.finds is)
        (tail_on ts (stands_by e q) (after_transition t)
        (λ p2 on. run_on ts (stands_by e q) p2 (after_transition t)
        (λ z. let y = stays_off e q z in
        off_still t.knew f.own (f.given p) e t.did none_noted x g.0.is y.1
        (off_on old t.knew x g.0.looks (off y.0))) on) nx g.1)

pub prepares_follow : PreparesFollow
prepares_follow old new w k how asks a queued law out p =
    let me : ℕ = old.view.number in
    let number : new.view.number ≡ me = number_stays (prepare_program asks me w k how) old new
    (next.Go (at.Prepare preparing.Lock)) (next.Ends a) p.runs.transitions p.runs.goes in
    run_on asks me w k how law.table law.ruled.whole.interleaved a new []
    (law.ruled.histories me ∙ (ap steps_of (list_of new.view law me number) ∙ steps_append new.view.items []))
    p.runs.transitions queued (at.Prepare preparing.Lock) old out p.runs.goes

-- what is left at the points of a program, event by event
module _ (f : Program) (Left : Point → List Event → Type 0) (Over : Answer → List Event → Type 0) where
  abbrev LeftTo : Next → List Event → Type 0
  LeftTo (next.Go q) v = Left q v
  LeftTo (next.Ends b) v = Over b v

  module _ (leads : (p : Point) (seen : Seen) (v : List Event) → LeftTo (f.plan p seen).next v
      → Left p ((f.plan p seen).event ∷ v)) (to : Next) (w : List Event) (behind : LeftTo to w) where
    tail : (ts : List Transition) (j new : Known)
        → ((q : Point) → Goes f j (next.Go q) ts new to → Left q (said f (next.Go q) ts ++ w))
        → (n : Next) → Goes f j n ts new to → LeftTo n (said f n ts ++ w)
    tail ts j new rec (next.Go q) g = rec q g
    tail [] j new rec (next.Ends b) g = subst (λ (m : Next). LeftTo m w) g.1 behind
    tail (t ∷ ts) j new rec (next.Ends b) g = absurd g

    run_left : (ts : List Transition) (p : Point) (old new : Known) → Goes f old (next.Go p) ts new to
        → Left p (said f (next.Go p) ts ++ w)
    run_left [] p old new g = subst (λ (m : Next). LeftTo m w) g.1 behind
    run_left (t ∷ ts) p old new g = leads p t.seen (said f (f.plan p t.seen).next ts ++ w)
        (tail ts (after_transition t) new (λ q on. run_left ts q (after_transition t) new on)
        (f.plan p t.seen).next g.1)

-- the finish
module _ (me : ℕ) (w : Watch) where
  abbrev ends_so : Phrase Answer
  ends_so = gives (number 0)

  abbrev FinishLeft : Point → Rest
  FinishLeft (at.Finish finishing.State false) = (finishes me w true >> ends_so) ends
  FinishLeft (at.Finish finishing.Look false) = ((stands true >>= λ found. when found
      then (locks w >> (takes_off me true >> unlocks w))
      otherwise nothing) >> ends_so) ends
  FinishLeft (at.Finish finishing.Lock false) = ((locks w
      >> (takes_off me true >> unlocks w)) >> ends_so) ends
  FinishLeft (at.Finish finishing.Queue false) = ((takes_off me true >> unlocks w) >> ends_so) ends
  FinishLeft (at.Finish finishing.Unlock false) = (unlocks w >> ends_so) ends
  FinishLeft _ = λ v a. Unit {0}

  abbrev FinishAt : Point → List Event → Type 0
  FinishAt p v = FinishLeft p v zero_answer

  abbrev FinishOver : Answer → List Event → Type 0
  FinishOver b v = ends b v zero_answer

  abbrev g : Program
  g = finish_program me w

  module _ (v : List Event) where
    abbrev FinishLeads : Point → Planned → Type 0
    FinishLeads p x = LeftTo g FinishAt FinishOver x.next v → FinishAt p (x.event ∷ v)

    finish_leads : (p : Point) (seen : Seen) → FinishLeads p (g.plan p seen)
    finish_leads (at.Finish finishing.State false) seen h = (refl, h)
    finish_leads (at.Finish finishing.Look false) seen h = either (FinishLeads (at.Finish finishing.Look false))
        (is_some seen.entry) _ _ (λ k. (true, (refl, k))) (λ k. (false, (refl, k))) h
    finish_leads (at.Finish finishing.Lock false) seen h = (refl, h)
    finish_leads (at.Finish finishing.Queue false) seen h = either (FinishLeads (at.Finish finishing.Queue false))
        (is_some seen.entry) _ _ (λ k. (true, (refl, k))) (λ k. (false, (refl, k))) h
    finish_leads (at.Finish finishing.Unlock false) seen h = (refl, h)
    finish_leads p seen h = tt

pub finishes_follow : FinishesFollow
finishes_follow old new h =
    let me : ℕ = old.view.number in
    let from : Next = next.Go (at.Finish finishing.State false) in
    subst (λ (v : List Event). FinishAt me h.watch (at.Finish finishing.State false) v)
    (append-nil (said (g me h.watch) from h.runs.transitions))
    (run_left (g me h.watch) (FinishAt me h.watch) (FinishOver me h.watch) (λ q seen v. finish_leads me h.watch v q seen)
    (next.Ends zero_answer) [] refl h.runs.transitions (at.Finish finishing.State false) old new h.runs.goes)
