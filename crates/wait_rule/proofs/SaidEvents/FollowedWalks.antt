-- What a task makes of a walk follows the sentence of a wake.
use Rattle.std.proofs.lemmas.Bool.{both_ways}
use Rattle.std.proofs.Common.{refl, sym, ◌∙◌, ap, subst, append_assoc}
use Rattle.std.specs.Prelude.{ℕ, ◌≡◌, ◌<◌, ◌≤◌, Bool, true, false, if◌then◌else◌, is_some, Option, Some, None, List, []}
use Rattle.std.specs.Prelude.{◌∷◌, ◌++◌}
use Rattle.wait_model.specs.{declared.layout.TheConstants.BREAK, declared.layout.TheConstants.PLAIN_CONDITIONS}
use Rattle.wait_model.specs.{declared.calls.Call.Call, declared.calls.Event.Event, declared.calls.Answer.Answer}
use Rattle.wait_model.specs.{declared.queues.CalledEntry.CalledEntry, declared.queues.Walking.Walking}
use Rattle.wait_model.specs.{declared.watches.Aim.Aim, declared.watches.Kind.Kind, declared.watches.Mode.Mode}
use Rattle.wait_model.specs.{declared.points.Given.Given, declared.points.Planned.Planned, declared.points.Next.Next}
use Rattle.wait_model.specs.{declared.points.Seen.Seen, declared.points.WalkPoint.WalkPoint}
use Rattle.wait_model.specs.{declared.points.PageStage.PageStage, declared.steps.Step.Step, Tables.Table, Tasks.meets}
use Rattle.wait_model.specs.{Words.bit_at, Words.flag, Runs.arrives_from}
use Rattle.wait_model.specs.Watches.{head_of, mask_of, misses, number_of, word_of, bit_of}
use Rattle.wait_model.specs.Views.{View as Told, Hold, blank}
use Rattle.wait_model.specs.Fold.{after, after_all, view_of}
use Rattle.wait_model.specs.Programs.{call_entry, call_next, go, hands_event, past, onward, reached, walk_event}
use Rattle.wait_model.specs.Findings.{Noted, none_noted, notes, MayComeTo}
use Rattle.wait_model.specs.declared.calls.Call.TheVariants as calls
use Rattle.wait_model.specs.declared.calls.Event.TheVariants as event
use Rattle.wait_model.specs.declared.watches.Kind.TheVariants as kind
use Rattle.wait_model.specs.declared.watches.Watch.TheVariants as watch
use Rattle.wait_model.specs.declared.points.Next.TheVariants as next
use Rattle.wait_model.specs.declared.points.Point.TheVariants as at
use Rattle.wait_model.specs.declared.points.WalkPoint.TheVariants as walking
use Rattle.wait_model.specs.declared.points.PageStage.TheVariants as staging
use Rattle.wait_model.specs.declared.steps.Step.TheVariants as step
use Rattle.wait_model.proofs.{WaitLaws.OutsideStages.either, HistoryLaws.Stretches.after_append}
use Rattle.wait_model.proofs.{StepLaws.UnlockSteps.unlock_hold, SentenceLaws.SentenceRests.Knows}
use Rattle.wait_model.proofs.SentenceLaws.SentenceRests.{left_at}
use Rattle.wait_model.proofs.SentenceLaws.SentenceCalls.{rest_of, says, start_said}
use Rattle.wait_rule.specs.{declared.journal.Item.Item, Interleavings.IsInterleaved, Items.steps_of, Known.Known}
use Rattle.wait_rule.specs.{Says.history_of, Says.told_of, Shown.shown_entry, Shown.shown_queue}
use Rattle.wait_rule.specs.SaidEvents.{plain_aim, said, WalksFollow}
use Rattle.wait_rule.specs.Transitions.{AreLooks, AreScansOf, Finds, FindsNext, Goes, IsMadeFor, IsStepFor, OnlyLooks}
use Rattle.wait_rule.specs.Transitions.{Program, StepOrLook, Transition, after_step_or_look, after_transition, by_look}
use Rattle.wait_rule.specs.Transitions.{by_step, walk_program}
use Rattle.wait_rule.specs.declared.journal.Item.TheVariants as item
use Rattle.wait_rule.proofs.{KnownLaws.Moments.Moment, KnownLaws.Moments.moment_of, TableSteps.ItemLists.steps_append}
use Rattle.wait_rule.proofs.SaidEvents.Fronts.{looks_history, step_follows, step_history, steps_made}
use Rattle.wait_rule.proofs.SaidEvents.WalkFindings.{Arrives, arrives, no_strangers, some_called}

-- the head that a task holds, by its history
abbrev pub head_in : Known → Option ℕ
head_in k = (told_of k).hold.head

looks_head : (xs : List Item) → AreLooks xs → (v : Told) → (after_all v (steps_of xs)).hold.head ≡ v.hold.head
looks_head [] l v = refl
looks_head (item.Made (step.Saw y w) ∷ xs) l v = looks_head xs l.1 (after (step.Saw y w) v)
looks_head (item.Made e ∷ xs) l v = absurd l.0
looks_head (item.Tally p n w ∷ xs) l v = absurd l.0
looks_head (item.Piped k a w ∷ xs) l v = absurd l.0
looks_head (x ∷ xs) l v = looks_head xs l.1 v

scans_head : (h : ℕ) (xs : List Item) → AreScansOf h xs → (v : Told)
    → (after_all v (steps_of xs)).hold.head ≡ v.hold.head
scans_head h [] l v = refl
scans_head h (item.Made (step.Scan g i w) ∷ xs) l v = scans_head h xs l.1 (after (step.Scan g i w) v)
scans_head h (y ∷ xs) l v = absurd l.0

told_on : (k new : Known) (es : List Step) → history_of new ≡ history_of k ++ es
    → told_of new ≡ after_all (told_of k) es
told_on k new es is = ap view_of is ∙ after_append blank (history_of k) es

pub head_on : (old new : Known) → OnlyLooks old new → head_in new ≡ head_in old
head_on old new l = ap (λ (v : Told). v.hold.head) (told_on old new (steps_of l.items) (looks_history old new l))
    ∙ looks_head l.items l.looks (told_of old)

-- what an event does to it
abbrev pub head_by : Event → Option ℕ → Option ℕ
head_by (event.Lock h) o = Some h
head_by (event.Unlock h used) o = None
head_by _ o = o

abbrev locks_or_unlocks : Step → Bool
locks_or_unlocks (step.Lock i aim w) = true
locks_or_unlocks (step.Unlock i sp) = true
locks_or_unlocks _ = false

lock_locks : (k : Known) (own : Option ℕ) (g : Given) (h : ℕ) (e : Step) → IsStepFor k own g (event.Lock h) e
    → locks_or_unlocks e ≡ true
lock_locks k own g h (step.Lock i aim w) made = refl
lock_locks k own g h e made = absurd made

unlock_unlocks : (k : Known) (own : Option ℕ) (g : Given) (h : ℕ) (used : Bool) (e : Step)
    → IsStepFor k own g (event.Unlock h used) e → locks_or_unlocks e ≡ true
unlock_unlocks k own g h used (step.Unlock i sp) made = refl
unlock_unlocks k own g h used e made = absurd made

-- an event whose step neither locks nor unlocks leaves the head
other_head : (k : Known) (own : Option ℕ) (g : Given) (e : Step) (ev : Event) (o : Option ℕ)
    → locks_or_unlocks e ≡ false → IsStepFor k own g ev e → o ≡ head_by ev o
other_head k own g e (event.Lock h) o other made =
    absurd (both_ways (locks_or_unlocks e) other (lock_locks k own g h e made))
other_head k own g e (event.Unlock h used) o other made =
    absurd (both_ways (locks_or_unlocks e) other (unlock_unlocks k own g h used e made))
other_head k own g e ev o other made = refl

lock_head : (k : Known) (own : Option ℕ) (g : Given) (i : ℕ) (aim : Option Aim) (w : ℕ) (ev : Event) (v : Told)
    → IsStepFor k own g ev (step.Lock i aim w) → (after (step.Lock i aim w) v).hold.head ≡ head_by ev v.hold.head
lock_head k own g i aim w (event.Lock h) v made = ap Some made.0
lock_head k own g i aim w ev v made = absurd made

unlock_head : (k : Known) (own : Option ℕ) (g : Given) (i : ℕ) (sp : Bool) (ev : Event) (v : Told)
    → IsStepFor k own g ev (step.Unlock i sp) → (after (step.Unlock i sp) v).hold.head ≡ head_by ev v.hold.head
unlock_head k own g i sp (event.Unlock h used) v made = ap (λ (d : Hold). d.head) (unlock_hold v v.walk sp)
unlock_head k own g i sp ev v made = absurd made

step_head : (k : Known) (own : Option ℕ) (g : Given) (ev : Event) (e : Step) (v : Told) → IsStepFor k own g ev e
    → (after e v).hold.head ≡ head_by ev v.hold.head
step_head k own g ev (step.Lock i aim w) v made = lock_head k own g i aim w ev v made
step_head k own g ev (step.Unlock i sp) v made = unlock_head k own g i sp ev v made
step_head k own g ev e v made = other_head k own g e ev v.hold.head refl made

pub made_head : (k : Known) (own : Option ℕ) (g : Given) (ev : Event) (did : StepOrLook) → IsMadeFor k own g ev did
    → head_in (after_step_or_look did k) ≡ head_by ev (head_in k)
made_head k own g ev (by_step e) made = ap (λ (v : Told). v.hold.head)
    (told_on k (after_step_or_look (by_step e) k) (e ∷ []) (step_history (by_step e) k))
    ∙ step_head k own g ev e (told_of k) made
made_head k own g (event.Active h hit) (by_look xs) made = ap (λ (v : Told). v.hold.head)
    (told_on k (after_step_or_look (by_look xs) k) (steps_of xs) (step_history (by_look xs) k))
    ∙ scans_head h xs made.0 (told_of k)
made_head k own g ev (by_look xs) made = absurd made

-- at the points of a walk but its locks its head is held
module _ (aim : Aim) where
  abbrev h : ℕ
  h = head_of aim.watch

  abbrev pub HeldAt : WalkPoint → Option ℕ → Type 0
  HeldAt walking.Lock o = Unit {0}
  HeldAt (walking.BreakLock w) o = Unit {0}
  HeldAt p o = o ≡ Some h

  abbrev pub HeldOn : Option ℕ → Next → Type 0
  HeldOn o (next.Go (at.Walk p)) = HeldAt p o
  HeldOn o (next.Go p) = ⊥
  HeldOn o (next.Ends a) = Unit {0}

  abbrev pub Holds : Option ℕ → Planned → Type 0
  Holds o x = HeldOn (head_by x.event o) x.next

  module _ (o : Option ℕ) (held : o ≡ Some h) where
    onward_holds : (e : Event) → head_by e o ≡ o → (w : Walking) → Holds o (go e (onward w))
    onward_holds e same w = by w.spent
      where
        by : (b : Bool) → HeldOn (head_by e o) (next.Go (if b then at.Walk (walking.Spent w)
            else at.Walk (walking.Call w)))
        by true = same ∙ held
        by false = same ∙ held

    off_holds : (who : ℕ) (hit : Bool) (w : Walking)
        → Holds o (go (event.Wake who hit) (at.Walk (if hit then walking.Unqueue w who else walking.Call w)))
    off_holds who true w = held
    off_holds who false w = held

    test_holds : (e : Event) → head_by e o ≡ o → (b : Bool) (w v : Walking) (c : CalledEntry)
        → Holds o (go e (at.Walk (if b then walking.Call v else walking.Bit w c)))
    test_holds e same true w v c = same ∙ held
    test_holds e same false w v c = same ∙ held

    page_holds : (e : Event) → head_by e o ≡ o → (st : PageStage) (b : Bool) (w : Walking) (c : CalledEntry)
        → Holds o (go e (at.Walk (if b then walking.Stopped w else walking.Page st w c)))
    page_holds e same st true w c = same ∙ held
    page_holds e same st false w c = same ∙ held

    hands_holds : (st : PageStage) (w : Walking) (c : CalledEntry) (seen : Seen) → Holds o (hands_event aim st w c seen)
    hands_holds staging.Try w c seen = page_holds
        (event.TasFor (word_of aim.watch) c.who (flag (bit_at seen.value (bit_of aim.watch)))) refl staging.Hand
        (misses aim.watch seen.value) w c
    hands_holds staging.Hand w c seen = held
    hands_holds staging.Wake w c seen = held
    hands_holds staging.Off w c seen = onward_holds (event.Unqueue c.who) refl (past w c true)

    entry_holds : (w : Walking) (c : CalledEntry) (j : Kind) (seen : Seen) (hit : Bool)
        → Holds o (call_entry aim w c j seen hit)
    entry_holds w c kind.Default seen hit = onward_holds (event.Wake c.who hit) refl (past w c hit)
    entry_holds w c kind.Autoremove seen hit = off_holds c.who hit (past w c hit)
    entry_holds w c kind.Woken seen hit = held
    entry_holds w c kind.Bit seen hit = test_holds (event.Load (number_of aim.watch) seen.value) refl
        (misses aim.watch seen.value) w (past w c false) c
    entry_holds w c kind.Page seen hit = page_holds (event.Load (number_of aim.watch) seen.value) refl staging.Try
        (misses aim.watch seen.value) w c
    entry_holds w c kind.Var seen hit = off_holds c.who hit (past w c hit)
    entry_holds w c kind.Simple seen hit = onward_holds (event.Wake c.who hit) refl (past w c hit)

    next_holds : (w : Walking) (called : Option CalledEntry) (seen : Seen) (hit : Bool)
        → Holds o (call_next aim w called seen hit)
    next_holds w None seen hit = tt
    next_holds w (Some c) seen hit = entry_holds w c c.kind seen hit

  pub walk_holds : (o : Option ℕ) (p : WalkPoint) (seen : Seen) → HeldAt p o → Holds o (walk_event aim p seen)
  walk_holds o walking.Lock seen held = refl
  walk_holds o (walking.Call w) seen held = either (Holds o) seen.breaks _ _ held
      (next_holds o held (reached w seen.calls) seen.called seen (meets (mask_of aim.mode) seen.other.state))
  walk_holds o (walking.Bit w c) seen held = off_holds o held c.who (meets (mask_of aim.mode) seen.other.state)
      (past w c (meets (mask_of aim.mode) seen.other.state))
  walk_holds o (walking.Wake w c) seen held = onward_holds o held
      (event.Wake c.who (meets (mask_of aim.mode) seen.other.state)) refl
      (past w c (meets (mask_of aim.mode) seen.other.state))
  walk_holds o (walking.Page st w c) seen held = hands_holds o held st w c seen
  walk_holds o (walking.Unqueue w who) seen held = onward_holds o held (event.Unqueue who) refl w
  walk_holds o (walking.BreakLock w) seen held = refl
  walk_holds o (walking.Unmark w) seen held = held
  walk_holds o _ seen held = tt

module _ (s : Table) (all : IsInterleaved s) (me c n : ℕ) (mode : Mode) (small : c < PLAIN_CONDITIONS) where
  abbrev aim : Aim
  aim = plain_aim c mode n

  abbrev f : Program
  f = walk_program aim

  abbrev call : Call
  call = calls.Wake c mode n

  finds_next : (w : Walking) (t : Transition) (did : StepOrLook) → Finds t.knew f (at.Walk (walking.Call w)) did t.seen
      → FindsNext t.knew (arrives_from (shown_entry t.knew) (watch.Plain c) w.place w.calls (shown_queue t.knew)) t.seen
  finds_next w t (by_step e) finds = finds.1
  finds_next w t (by_look xs) finds = finds

  may_come : (w : Walking) (t : Transition) → Moment me (history_of t.knew)
      → head_in t.knew ≡ Some (head_of (watch.Plain c))
      → FindsNext t.knew (arrives_from (shown_entry t.knew) (watch.Plain c) w.place w.calls (shown_queue t.knew)) t.seen
      → MayComeTo call (at.Walk (walking.Call w)) t.seen
  may_come w t z held finds =
      let r = arrives_from (shown_entry t.knew) (watch.Plain c) w.place w.calls (shown_queue t.knew) in
      let k : Arrives w.calls r = arrives _ w.calls _ in (
        subst (λ (j : ℕ). w.calls ≤ j) (sym finds.calls) k.more,
        λ _. finds.calls ∙ no_strangers me t.knew z c small held w.place w.calls,
        λ b. subst (λ (j : ℕ). BREAK < j) (sym finds.calls) (k.many (sym finds.breaks ∙ b)),
        λ b d. subst (λ (j : ℕ). j ≤ BREAK) (sym finds.calls) (k.few (sym finds.breaks ∙ b)
            (some_called (shown_entry t.knew) r.breaks r.member (sym finds.breaks ∙ b)
            (ap is_some (sym finds.called) ∙ d))),
      )

  come_to : (p : WalkPoint) (t : Transition) → Moment me (history_of t.knew) → HeldAt aim p (head_in t.knew)
      → Finds t.knew f (at.Walk p) t.did t.seen → MayComeTo call (at.Walk p) t.seen
  come_to (walking.Call w) t z held finds = may_come w t z held (finds_next w t t.did finds)
  come_to p t z held finds = tt

  knows : (p : WalkPoint) (m : Noted) (seen : Seen) → MayComeTo call (at.Walk p) seen → Knows call (at.Walk p) m seen
  knows p m seen come = record {
    off = λ w. absurd (cc);
    range = λ d. absurd (cc);
    count = λ d. absurd (cc);
    walk = come;
  }

  tail : (m : Noted) (k new : Known) (a : Answer) (ts : List Transition)
      → ((q : WalkPoint) → HeldAt aim q (head_in k) → Goes f k (next.Go (at.Walk q)) ts new (next.Ends a)
      → rest_of me call m (at.Walk q) (said f (next.Go (at.Walk q)) ts) a)
      → (nx : Next) → HeldOn aim (head_in k) nx → Goes f k nx ts new (next.Ends a)
      → left_at (rest_of me call m) nx (said f nx ts) a
  tail m k new a ts rec (next.Go (at.Walk q)) held g = rec q held g
  tail m k new a ts rec (next.Go p) held g = absurd held
  tail m k new a [] rec (next.Ends b) held g = let z : next.Ends a ≡ next.Ends b = g.1 in cc
  tail m k new a (t ∷ ts) rec (next.Ends b) held g = absurd g

  follows : (ts : List Transition) (p : WalkPoint) (m : Noted) (old new : Known) (a : Answer) (later : List Step)
      → s.history me ≡ history_of new ++ later → HeldAt aim p (head_in old)
      → Goes f old (next.Go (at.Walk p)) ts new (next.Ends a)
      → rest_of me call m (at.Walk p) (said f (next.Go (at.Walk p)) ts) a
  follows [] p m old new a later same held g = absurd (let z : next.Ends a ≡ next.Go (at.Walk p) = g.1 in cc)
  follows (t ∷ ts) p m old new a later same held g =
      let plan : Planned = walk_event aim p t.seen in
      let r = step_follows f new plan.next (next.Ends a) t ts g.1 in
      let split : s.history me ≡ history_of t.knew ++ (steps_made t.did ++ (r.0 ++ later)) =
      same ∙ (ap (λ (es : List Step). es ++ later) r.1
      ∙ (append_assoc (history_of t.knew) (steps_made t.did ++ r.0) later
      ∙ ap (λ (es : List Step). history_of t.knew ++ es) (append_assoc (steps_made t.did) r.0 later))) in
      let held_knew : HeldAt aim p (head_in t.knew) =
      subst (HeldAt aim p) (sym (head_on old t.knew g.0.looks)) held in
      let z : Moment me (history_of t.knew) =
      moment_of s all me (history_of t.knew) (steps_made t.did ++ (r.0 ++ later)) split in
      says me m call (at.Walk p) t.seen (knows p m t.seen (come_to p t z held_knew g.0.finds)) (said f plan.next ts) a
      (tail (notes m plan.event) (after_transition t) new a ts
      (λ q on more. follows ts q (notes m plan.event) (after_transition t) new a later same on more) plan.next
      (subst (λ (o : Option ℕ). HeldOn aim o plan.next)
      (sym (made_head t.knew None (f.given (at.Walk p)) plan.event t.did g.0.is))
      (walk_holds aim (head_in t.knew) p t.seen held_knew)) g.1)

pub walks_follow : WalksFollow
walks_follow s items ruled c n mode old new a more list small m =
    start_said old.view.number (calls.Wake c mode n)
    (said (walk_program (plain_aim c mode n)) (next.Go (at.Walk walking.Lock)) m.transitions) a
    (follows s ruled.whole.interleaved old.view.number c n mode small m.transitions walking.Lock none_noted old new a
    (steps_of more)
    (ruled.histories old.view.number ∙ (ap steps_of list ∙ steps_append new.view.items more)) tt m.goes)
