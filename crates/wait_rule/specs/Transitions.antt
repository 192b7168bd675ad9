-- To be believed.
-- The transitions of a call on a Domain: the task goes through the program of the call, the same that a core runs. Each
-- event of the program is one step of its history, as a core would make it there; before it and after the last the
-- task looks at words.
use Rattle.std.specs.Prelude.{ℕ, ◌+◌, ◌≡◌, ◌<◌, ◌⊎◌, ◌==◌, ◌||◌, not, Bool, true, false}
use Rattle.std.specs.Prelude.{Option, Some, None, List, [], ◌∷◌}
use Rattle.wait_model.specs.{declared.watches.Watch.Watch, declared.watches.Entry.Entry, declared.watches.Aim.Aim}
use Rattle.wait_model.specs.{declared.queues.Form.Form, declared.queues.CalledEntry.CalledEntry}
use Rattle.wait_model.specs.{declared.queues.Member.Member, declared.calls.Call.Call, declared.calls.Event.Event}
use Rattle.wait_model.specs.{declared.points.Point.Point, declared.points.WalkPoint.WalkPoint}
use Rattle.wait_model.specs.{declared.points.Given.Given, declared.points.Seen.Seen, declared.points.Planned.Planned}
use Rattle.wait_model.specs.{declared.points.Next.Next, declared.steps.Step.Step, Tasks.task_of, Watches.owner}
use Rattle.wait_model.specs.{Words.entry_of, Words.flag_of, Programs.walk_event}
use Rattle.wait_model.specs.declared.layout.TheConstants.{MEMBER_WORDS, PLACES, MIDDLE}
use Rattle.wait_model.specs.Views.{Look, unseen, off, elsewhere, shown}
use Rattle.wait_model.specs.Queues.{Arrival, is_within, place_for, entry_from}
use Rattle.wait_model.specs.Points.{form_of, given_at, walk_given}
use Rattle.wait_model.specs.Runs.{entry_for, is_publishing, arrives_from, called_of, called_member, called_by, mark_for}
use Rattle.wait_model.specs.declared.queues.Form.TheVariants as forms
use Rattle.wait_model.specs.declared.calls.Event.TheVariants as event
use Rattle.wait_model.specs.declared.points.Point.TheVariants as at
use Rattle.wait_model.specs.declared.points.PreparePoint.TheVariants as preparing
use Rattle.wait_model.specs.declared.points.LeavePoint.TheVariants as leaving
use Rattle.wait_model.specs.declared.points.FinishPoint.TheVariants as finishing
use Rattle.wait_model.specs.declared.points.WalkPoint.TheVariants as walking
use Rattle.wait_model.specs.declared.points.AddPoint.TheVariants as adding
use Rattle.wait_model.specs.declared.points.RemovePoint.TheVariants as removing
use Rattle.wait_model.specs.declared.points.SelectPoint.TheVariants as selecting
use Rattle.wait_model.specs.declared.points.AwaitPoint.TheVariants as awaiting
use Rattle.wait_model.specs.declared.points.PagePoint.TheVariants as paging
use Rattle.wait_model.specs.declared.points.Next.TheVariants as next
use Rattle.wait_model.specs.declared.steps.Step.TheVariants as step
use Rattle.wait_model.specs.Programs as programs
use Rattle.wait_rule.specs.{declared.journal.Item.Item, Items.book_from, HeldValues.value_from, Known.Known}
use Rattle.wait_rule.specs.{Asked.was_given_at as page_at, Shown.shown_entry, Shown.shown_queue}
use Rattle.wait_rule.specs.Says.{told_of, history_of, noted, added, asks_for, grown}
use Rattle.wait_rule.specs.Queues.{IsWholeBook, IsWalkOfCall, at_head, index}
use Rattle.wait_rule.specs.declared.journal.Item.TheVariants as item

-- What is no event: loads in a hold, the steps on tickets by which a task waits for a lock and passes it on, and the
-- loads by which a task that sleeps sees whether it was woken. An add to a tally, a claim of an end of a pipe and a
-- cell are none of these: no program has them.
abbrev pub IsLook : Item → Type 0
IsLook (item.Made (step.Saw x w)) = Unit {0}
IsLook (item.Made _) = ⊥
IsLook (item.Awake w) = Unit {0}
IsLook (item.Bookmark t w) = Unit {0}
IsLook item.Member = Unit {0}
IsLook (item.Word w) = Unit {0}
IsLook (item.Drawn h w) = Unit {0}
IsLook (item.Serving h w) = Unit {0}
IsLook item.Served = Unit {0}
IsLook (item.Tally p n w) = ⊥
IsLook (item.Piped k a w) = ⊥

abbrev pub AreLooks : List Item → Type 0
AreLooks [] = Unit {0}
AreLooks (x ∷ xs) = IsLook x × AreLooks xs

-- the task looked at words, waited for a lock or passed it on, and made no event
pub record OnlyLooks (old new : Known) : Type 0 where
  pub items : List Item
  pub looks : AreLooks items
  pub is : new ≡ grown old items (book_from old.book items)

-- A program: the event at each point by what was found there, with the point after it; what that event's step is
-- given;
-- and the own entry word with the form in which it is queued, where it has one. A call is a program.
pub record Program : Type 0 where
  pub plan : Point → Seen → Planned
  pub given : Point → Given
  pub own : Option ℕ
  pub form : Option Form

abbrev pub call_program : ℕ → ℕ → Call → Program
call_program me slot call = record {
  plan = programs.program me call;
  given = given_at call;
  own = Some (index me slot);
  form = Some (form_of call);
}

-- The walk of an aim is a program too, whatever call makes it. It has no points but its own.
abbrev pub walk_point : Point → WalkPoint
walk_point (at.Walk p) = p
walk_point _ = walking.Lock

abbrev pub walk_program : Aim → Program
walk_program aim = record {
  plan = λ p seen. walk_event aim (walk_point p) seen;
  given = λ p. walk_given aim (walk_point p);
  own = None;
  form = None;
}

-- what a task makes for one event: a step, or, where it looks for members without the lock, loads of member words
pub data StepOrLook : Type 0 where
  by_step : Step → StepOrLook
  by_look : List Item → StepOrLook

-- one event: what the program found, what the task knew before it, and what the task made
pub record Transition : Type 0 where
  pub seen : Seen
  pub knew : Known
  pub did : StepOrLook

abbrev pub with_lock : Step → Known → Known
with_lock (step.Lock h aim w) k = at_head h k
with_lock _ k = k

-- what the task knows after it
abbrev pub after_step_or_look : StepOrLook → Known → Known
after_step_or_look (by_step e) k = with_lock e (added k (item.Made e))
after_step_or_look (by_look xs) k = grown k xs (book_from k.book xs)

abbrev pub after_transition : Transition → Known
after_transition t = after_step_or_look t.did t.knew

-- The own entry is queued at the place that its form takes, by the queue that the hold's whole book shows.
abbrev pub IsQueuing : Known → Option ℕ → Given → ℕ → Form → ℕ → Entry → Type 0
IsQueuing k own g h form x e = (own ≡ Some x) × (h ≡ k.at) × IsWholeBook k
    × (e ≡ entry_for g form (place_for form (shown_queue k)))

-- The step is the one that a core makes for the event, with what the event does not show as it is given. What the step
-- found, and the event shows, is what the program found (`FindsStep`). A flag word is cleared of WOKEN alone, or of the
-- page too that was given to the task there.
abbrev pub IsStepFor : Known → Option ℕ → Given → Event → Step → Type 0
IsStepFor k own g (event.State v) (step.State σ) = σ ≡ v
IsStepFor k own g (event.Sleep x) (step.Sleep w) = Unit {0}
IsStepFor k own g (event.Wake i hit) (step.Wake who mask w) = (who ≡ i) × (mask ≡ g.mask)
IsStepFor k own g (event.Signal i deadly) (step.Signal who fatal w) = (who ≡ i) × (fatal ≡ deadly)
IsStepFor k own g (event.Accept x) (step.Accept w) = Unit {0}
IsStepFor k own g (event.Look hit) (step.Look w) = Unit {0}
IsStepFor k own g (event.Lock h) (step.Lock i aim w) = (i ≡ h) × IsWalkOfCall h aim g.walk
IsStepFor k own g (event.Unlock h used) (step.Unlock i spent) = (i ≡ h) × (spent ≡ used)
IsStepFor k own g (event.Queue h form) (step.Queue x e) = IsQueuing k own g h form x e
IsStepFor k own g (event.Unqueue who) (step.Unqueue x) = owner x ≡ who
IsStepFor k own g (event.Queued hit) (step.Peek x w) = own ≡ Some x
IsStepFor k own g (event.Mark h) (step.Mark i q) = (i ≡ h) × (q ≡ (mark_for (shown_entry k) g h (shown_queue k)).place)
IsStepFor k own g (event.Unmark h) step.Unmark = k.at ≡ h
IsStepFor k own g (event.Load c v) (step.Load l r) = l ≡ g.watch
IsStepFor k own g (event.Set c v) (step.Publish l n r) = (l ≡ g.watch) × (n ≡ v) × (is_publishing l r n ≡ true)
IsStepFor k own g (event.Set c v) (step.Consume l n r) = (l ≡ g.watch) × (n ≡ v) × (is_publishing l r n ≡ false)
IsStepFor k own g (event.Take c v) (step.Consume l n r) = (l ≡ g.watch) × (n ≡ 0)
IsStepFor k own g (event.Tas i b v) (step.Consume l n r) = (l ≡ g.watch) × (n ≡ 1)
IsStepFor k own g (event.Clear i b) (step.Publish l n r) = (l ≡ g.watch) × (n ≡ 0)
IsStepFor k own g (event.Woken who) (step.Woken x) = owner x ≡ who
IsStepFor k own g (event.Flag hit) (step.Flag x w) = own ≡ Some x
IsStepFor k own g event.Unflag (step.Unflag x o) = (own ≡ Some x) × ((o ≡ None) ⊎ (o ≡ page_at x (asks_for k)))
IsStepFor k own g (event.TasFor p who v) (step.TasFor x q r) = (owner x ≡ who) × (q ≡ p)
IsStepFor k own g (event.Handed who) (step.Handed x) = owner x ≡ who
IsStepFor k own g _ _ = ⊥

-- A look for members without the lock loads the member words of its head: all of them, where it finds no bit.
abbrev pub IsScanOf : ℕ → Item → Type 0
IsScanOf h (item.Made (step.Scan g i w)) = g ≡ h
IsScanOf h _ = ⊥

abbrev pub AreScansOf : ℕ → List Item → Type 0
AreScansOf h [] = Unit {0}
AreScansOf h (x ∷ xs) = IsScanOf h x × AreScansOf h xs

-- some load found a bit, and which words were loaded
abbrev pub found_bit : Item → Bool
found_bit (item.Made (step.Scan g i w)) = not (w == 0)
found_bit _ = false

abbrev pub has_bit : List Item → Bool
has_bit [] = false
has_bit (x ∷ xs) = found_bit x || has_bit xs

abbrev pub loaded_word : ℕ → Item → Bool
loaded_word i (item.Made (step.Scan g j w)) = j == i
loaded_word i _ = false

abbrev pub has_word : ℕ → List Item → Bool
has_word i [] = false
has_word i (x ∷ xs) = loaded_word i x || has_word i xs

abbrev pub IsMadeFor : Known → Option ℕ → Given → Event → StepOrLook → Type 0
IsMadeFor k own g e (by_step s) = IsStepFor k own g e s
IsMadeFor k own g (event.Active h hit) (by_look xs) = AreScansOf h xs × (has_bit xs ≡ hit)
    × (hit ≡ false → (i : ℕ) → i < MEMBER_WORDS → has_word i xs ≡ true)
IsMadeFor k own g _ (by_look xs) = ⊥

-- what the program found is what its step found
abbrev pub FindsStep : Step → Seen → Type 0
FindsStep (step.Sleep w) seen = seen.own ≡ task_of w
FindsStep (step.Wake who mask w) seen = seen.other ≡ task_of w
FindsStep (step.Accept w) seen = seen.own ≡ task_of w
FindsStep (step.Look w) seen = seen.own ≡ task_of w
FindsStep (step.Peek x w) seen = seen.entry ≡ entry_of w
FindsStep (step.Load l r) seen = seen.value ≡ r
FindsStep (step.Publish l n r) seen = seen.value ≡ r
FindsStep (step.Consume l n r) seen = seen.value ≡ r
FindsStep (step.Flag x w) seen = seen.flag ≡ flag_of w
FindsStep (step.TasFor x p r) seen = seen.value ≡ r
FindsStep _ seen = Unit {0}

-- the own entry is as the hold has seen it, at its head or off
abbrev pub IsSeenAs : Look → Option Entry → Type 0
IsSeenAs unseen found = ⊥
IsSeenAs off found = found ≡ None
IsSeenAs elsewhere found = ⊥
IsSeenAs (shown e) found = found ≡ Some e

abbrev pub FindsOwn : Known → Option ℕ → Seen → Type 0
FindsOwn k None seen = ⊥
FindsOwn k (Some x) seen = IsSeenAs ((told_of k).hold.book x) seen.entry

-- the value of a condition, where this hold has loaded or stored it
abbrev pub FindsValue : Known → Watch → Seen → Type 0
FindsValue k c seen = value_from c None (history_of k) ≡ Some seen.value

-- where a walk goes on, by the queue that the hold's whole book shows
pub record FindsNext (k : Known) (a : Arrival) (seen : Seen) : Type 0 where
  pub whole : IsWholeBook k
  pub calls : seen.calls ≡ a.calls
  pub breaks : seen.breaks ≡ a.breaks
  pub called : seen.called ≡ called_by (shown_entry k) (called_member a)

-- the first entry of that queue, which a selection takes
abbrev pub FindsFirst : Known → Seen → Type 0
FindsFirst k seen = IsWholeBook k × (seen.called ≡ called_by (shown_entry k) (entry_from 0 (shown_queue k)))

-- whether no place is left for an entry of this form, by that queue
abbrev pub is_worn : Form → List Member → Bool
is_worn forms.Front queue = not (is_within MIDDLE PLACES (place_for forms.Front queue))
is_worn forms.Tail queue = not (is_within MIDDLE PLACES (place_for forms.Tail queue))
is_worn forms.Priority queue = not (is_within 0 MIDDLE (place_for forms.Priority queue))

abbrev pub FindsPlace : Known → Option Form → Seen → Type 0
FindsPlace k None seen = ⊥
FindsPlace k (Some form) seen = IsWholeBook k × (seen.worn ≡ is_worn form (shown_queue k))

-- What the program found is what the task knows: of its own entry in a hold what this has seen, and outside of one what
-- its history has stored.
abbrev pub FindsAt : Known → Option ℕ → Option Form → Given → Point → Seen → Type 0
FindsAt k own form g (at.Prepare preparing.Queue) seen = FindsOwn k own seen
    × (seen.entry ≡ None → FindsPlace k form seen)
FindsAt k own form g (at.Add adding.Queue) seen = FindsPlace k form seen
FindsAt k own form g (at.Leave leaving.Queue) seen = FindsOwn k own seen
FindsAt k own form g (at.Finish finishing.Queue failed) seen = FindsOwn k own seen
FindsAt k own form g (at.Await (awaiting.Off stopped)) seen = FindsOwn k own seen × FindsValue k g.watch seen
FindsAt k own form g (at.Await (awaiting.Last stopped)) seen = FindsValue k g.watch seen
FindsAt k own form g (at.Page paging.Queue) seen = FindsPlace k form seen
FindsAt k own form g (at.Page (paging.Finish finishing.Queue)) seen = FindsOwn k own seen
FindsAt k own form g (at.Remove removing.Lock) seen = (x : ℕ) × (own ≡ Some x)
    × (seen.entry ≡ (told_of k).bits.stored x)
FindsAt k own form g (at.Walk (walking.Call w)) seen =
    FindsNext k (arrives_from (shown_entry k) g.watch w.place w.calls (shown_queue k)) seen
FindsAt k own form g (at.Walk (walking.Unmark w)) seen = seen.mark ≡ (noted k).own
FindsAt k own form g (at.Select (selecting.Next n)) seen = FindsFirst k seen
FindsAt k own form g _ seen = Unit {0}

-- the entry that the walk called
abbrev pub IsCalled : Known → CalledEntry → ℕ → Type 0
IsCalled k c x = (e : Entry) × (shown_entry k x ≡ Some e) × (c ≡ called_of (owner x) e)

-- The entry that a step is about, where the event tells only whose it is: the one that the walk called or the selection
-- woke, and else the own one.
abbrev pub IsAbout : Known → Option ℕ → Point → Step → Seen → Type 0
IsAbout k own (at.Walk (walking.Call w)) (step.Woken x) seen = (e : Entry) × (shown_entry k x ≡ Some e)
    × (seen.called ≡ Some (called_of (owner x) e))
IsAbout k own (at.Walk (walking.Page st w c)) (step.TasFor x p r) seen = IsCalled k c x
IsAbout k own (at.Walk (walking.Page st w c)) (step.Handed x) seen = IsCalled k c x
IsAbout k own (at.Walk (walking.Page st w c)) (step.Unqueue x) seen = IsCalled k c x
IsAbout k own (at.Walk (walking.Unqueue w who)) (step.Unqueue x) seen = (e : Entry) × (shown_entry k x ≡ Some e)
    × (e.place + 1 ≡ w.place)
IsAbout k own (at.Select (selecting.Off n who)) (step.Unqueue x) seen = (m : Member)
    × (entry_from 0 (shown_queue k) ≡ Some m) × (m.at ≡ x)
IsAbout k own _ (step.Unqueue x) seen = own ≡ Some x
IsAbout k own _ _ seen = Unit {0}

abbrev pub Finds : Known → Program → Point → StepOrLook → Seen → Type 0
Finds k f p (by_step e) seen = FindsStep e seen × FindsAt k f.own f.form (f.given p) p seen × IsAbout k f.own p e seen
Finds k f p (by_look xs) seen = FindsAt k f.own f.form (f.given p) p seen

-- Before the transition the task looked at some words. What it made is the program's event at this point.
pub record IsTransition (program : Program) (p : Point) (old : Known) (t : Transition) : Type 0 where
  pub looks : OnlyLooks old t.knew
  pub is : IsMadeFor t.knew program.own (program.given p) (program.plan p t.seen).event t.did
  pub finds : Finds t.knew program p t.did t.seen

-- by these transitions, and looks after the last, the program goes from one place to another, and the task comes to
-- know
-- what it knows then
abbrev pub Goes : Program → Known → Next → List Transition → Known → Next → Type 0
Goes program old n [] new m = OnlyLooks old new × (m ≡ n)
Goes program old (next.Ends a) (t ∷ ts) new m = ⊥
Goes program old (next.Go p) (t ∷ ts) new m = IsTransition program p old t
    × Goes program (after_transition t) (program.plan p t.seen).next ts new m
