-- Task words stay lawful, and queues stay the entries of their heads, after each event.
use Rattle.std.proofs.lemmas.Bool.Decides.{nat_tests}
use Rattle.std.proofs.Common.{refl, sym, subst, arith, inl}
use Rattle.std.specs.Prelude.{ℕ, ◌≡◌, ◌≢◌, ◌+◌, ◌<◌, Option, Bool, true, false, ◌==◌, if◌then◌else◌, List}
use Rattle.wait_model.specs.{declared.layout.TheConstants.TASKS, declared.layout.TheConstants.EVENTS}
use Rattle.wait_model.specs.{declared.calls.Event.Event, declared.watches.Entry.Entry}
use Rattle.wait_model.specs.{declared.tasks.TaskRecord.TaskRecord, declared.queues.Member.Member}
use Rattle.wait_model.specs.{declared.queues.Mark.Mark, declared.points.Given.Given, Words.head_word}
use Rattle.wait_model.specs.Runs.{State, own, looks, all_peeks, after_event}
use Rattle.wait_model.specs.Reached.{IsLinked, Allows, Joins}
use Rattle.wait_model.specs.Tasks.{meets, pending, woken, slept, raised, accepted, IsLawful, IsState}
use Rattle.wait_model.specs.Tables.{Table, next, steps, value_of}
use Rattle.wait_model.proofs.{HistoryLaws.HoldLooks.looks_same, HistoryLaws.UnlockedLooks.peeks_same, Functions.put_at}
use Rattle.wait_model.proofs.{RunLaws.OthersEvents.Changes, WordLaws.CondWords.set_rest}
use Rattle.wait_model.proofs.QueueLaws.LinkedQueues.{later, form_linked, linked_removed, mark_linked, unmark_linked}
use Rattle.wait_model.specs.declared.calls.Event.TheVariants as event
use Rattle.wait_model.specs.declared.steps.Step.TheVariants as step

stored_lawful : (t : TaskRecord) (v : ℕ) → IsLawful t → t.runnable ≡ true → IsState v
    → IsLawful (record t { state = v })
stored_lawful t v l r s = record { state = s; fatal = l.fatal; runnable = λ _. r }

raised_lawful : (fatal : Bool) (t : TaskRecord) → IsLawful t → IsLawful (raised fatal t)
raised_lawful fatal t l = record { state = l.state; fatal = λ _. refl; runnable = l.runnable }

accepted_lawful : (t : TaskRecord) → IsLawful t → IsLawful (accepted t)
accepted_lawful t l = record { state = l.state; fatal = λ h. absurd (cc); runnable = l.runnable }

pub woken_lawful : (mask : ℕ) (t : TaskRecord) → IsLawful t → IsLawful (woken mask t)
woken_lawful mask t l = by (meets mask t.state)
  where
    by : (b : Bool) → IsLawful (if b then record t { state = 0; runnable = true } else t)
    by true = record { state = inl refl; fatal = l.fatal; runnable = λ _. refl }
    by false = l

pub slept_lawful : (t : TaskRecord) → IsLawful t → t.runnable ≡ true → IsLawful (slept t)
slept_lawful t l r = by (t.state == 0) (pending t.state t) refl
  where
    by : (a b : Bool) → (t.state == 0) ≡ a → IsLawful (if a then t else if b then record t { state = 0 }
        else record t { runnable = false })
    by true b s = l
    by false true s = record { state = inl refl; fatal = l.fatal; runnable = λ _. r }
    by false false s = record {
      state = l.state;
      fatal = l.fatal;
      runnable = λ z. let ne : t.state ≢ 0 =
          grind (arith, nat_tests) in absurd (ne z);
    }

looks_task : (t : Table) (f : ℕ → Option Entry) (a i : ℕ) → IsLawful (t.task i)
    → IsLawful ((steps t a (looks f)).task i)
looks_task t f a i l = subst (λ (g : ℕ → TaskRecord). IsLawful (g i)) (sym (looks_same t f a).task) l

pub event_lawful : (s : State) (me : ℕ) (g : Given) (e : Event) → ((t : ℕ) → IsLawful (s.table.task t))
    → (s.table.task me).runnable ≡ true → Allows s me e → (t : ℕ)
    → IsLawful ((after_event s me g e).table.task t)
event_lawful s me g (event.State v) l r a t = put_at IsLawful s.table.task me
    (record (s.table.task me) { state = v }) t (λ _. stored_lawful (s.table.task me) v (l me) r a) (λ _. l t)
event_lawful s me g (event.Sleep x) l r a t = put_at IsLawful s.table.task me (slept (s.table.task me)) t
    (λ _. slept_lawful (s.table.task me) (l me) r) (λ _. l t)
event_lawful s me g (event.Wake who hit) l r a t = put_at IsLawful s.table.task who
    (woken g.mask (s.table.task who)) t (λ _. woken_lawful g.mask (s.table.task who) (l who)) (λ _. l t)
event_lawful s me g (event.Signal who fatal) l r a t = put_at IsLawful s.table.task who
    (raised fatal (s.table.task who)) t (λ _. raised_lawful fatal (s.table.task who) (l who)) (λ _. l t)
event_lawful s me g (event.Accept x) l r a t = put_at IsLawful s.table.task me (accepted (s.table.task me)) t
    (λ _. accepted_lawful (s.table.task me) (l me)) (λ _. l t)
event_lawful s me g (event.Lock h) l r a t =
    looks_task (next s.table me (step.Lock h g.walk (head_word (s.table.holder h) (s.table.spent h))))
    s.table.entry me t (l t)
event_lawful s me g (event.Active h hit) l r a t = subst (λ (f : ℕ → TaskRecord). IsLawful (f t))
    (sym (peeks_same s.table s.table.entry me).task) (l t)
event_lawful s me g (event.Set c v) l r a t =
    subst (λ (f : ℕ → TaskRecord). IsLawful (f t))
    (sym (set_rest s.table me g.watch v (value_of s.table.words g.watch)).task) (l t)
event_lawful s me g e l r a t = l t

-- the queues after an event
looks_linked : (t : Table) (f : ℕ → Option Entry) (a : ℕ) (queue : ℕ → List Member) (n : ℕ)
    → IsLinked t.entry t.mark queue n → IsLinked (steps t a (looks f)).entry (steps t a (looks f)).mark queue n
looks_linked t f a queue n l = subst (λ (g : ℕ → Option Entry). IsLinked g (steps t a (looks f)).mark queue n)
    (sym (looks_same t f a).entry)
    (subst (λ (g : ℕ → Option Mark). IsLinked t.entry g queue n) (sym (looks_same t f a).mark) l)

peeks_linked : (t : Table) (f : ℕ → Option Entry) (a : ℕ) (queue : ℕ → List Member) (n : ℕ)
    → IsLinked t.entry t.mark queue n
    → IsLinked (steps t a (all_peeks f)).entry (steps t a (all_peeks f)).mark queue n
peeks_linked t f a queue n l =
    subst (λ (g : ℕ → Option Entry). IsLinked g (steps t a (all_peeks f)).mark queue n)
    (sym (peeks_same t f a).entry)
    (subst (λ (g : ℕ → Option Mark). IsLinked t.entry g queue n) (sym (peeks_same t f a).mark) l)

pub event_linked : (s : State) (me : ℕ) (g : Given) (e : Event) (n : ℕ) → n < EVENTS
    → IsLinked s.table.entry s.table.mark s.queue n → me < TASKS → Allows s me e → Changes s me e
    → Joins g e → IsLinked (after_event s me g e).table.entry (after_event s me g e).table.mark
    (after_event s me g e).queue (n + 1)
event_linked s me g (event.Lock h) n few l mine a c j =
    looks_linked (next s.table me (step.Lock h g.walk (head_word (s.table.holder h) (s.table.spent h))))
    s.table.entry me s.queue (n + 1) (later s.table.entry s.table.mark s.queue n l)
event_linked s me g (event.Queue h form) n few l mine a c j =
    form_linked s.table.entry s.table.mark s.queue n l few me h a.2 a.1 g j.0 j.1 form j.2
event_linked s me g (event.Unqueue who) n few l mine a c j =
    rw c.stands (linked_removed s.table.entry s.table.mark s.queue n l (own who) c.it c.stands)
event_linked s me g (event.Mark h) n few l mine a c j =
    mark_linked s.table.entry s.table.mark s.queue n l few me h c mine a g
event_linked s me g (event.Unmark h) n few l mine a c j =
    rw (← c.2) (unmark_linked s.table.entry s.table.mark s.queue n l me c.0 c.1)
event_linked s me g (event.Active h hit) n few l mine a c j =
    peeks_linked s.table s.table.entry me s.queue (n + 1) (later s.table.entry s.table.mark s.queue n l)
event_linked s me g (event.Set c v) n few l mine a h j =
    let u = set_rest s.table me g.watch v (value_of s.table.words g.watch) in
    subst (λ (k : ℕ → Option Mark). IsLinked (after_event s me g (event.Set c v)).table.entry k s.queue (n + 1))
    (sym u.mark) (subst (λ (f : ℕ → Option Entry). IsLinked f s.table.mark s.queue (n + 1)) (sym u.entry)
    (later s.table.entry s.table.mark s.queue n l))
event_linked s me g e n few l mine a c j = later s.table.entry s.table.mark s.queue n l
