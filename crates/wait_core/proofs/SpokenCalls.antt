-- What a task has made of a call when a step ends it.
use Rattle.std.proofs.Common.{refl, sym, ap, ◌∙◌, subst}
use Rattle.wait_model.specs.{declared.layout.TheConstants.TASKS, declared.layout.TheConstants.EVENTS}
use Rattle.wait_model.specs.{declared.calls.Call.Call, declared.calls.Event.Event, declared.calls.Answer.Answer}
use Rattle.wait_model.specs.{declared.calls.Ran.Ran, declared.points.Next.Next, declared.points.Planned.Planned}
use Rattle.wait_model.specs.{declared.points.Point.Point, declared.points.Progress.Progress}
use Rattle.wait_model.specs.Runs.{State, state_of, planned, found_by, busy_head, Continues, IsRun, made_in}
use Rattle.std.specs.Prelude.{ℕ, ◌≡◌, ◌≤◌, ◌<◌, ◌==◌, Bool, true, false, if◌then◌else◌, List}
use Rattle.std.specs.declared.option.Option.{Option}
use Rattle.std.specs.declared.option.Option.TheVariants.{Some, None}
use Rattle.wait_model.specs.declared.points.Next.TheVariants as next
use Rattle.wait_model.specs.declared.points.Progress.TheVariants as now
use Rattle.wait_core.specs.{declared.engine.Stepped.Stepped, Ended.answer_of, Stepped.stepped, Stepped.event_or_refusal}
use Rattle.wait_core.specs.Spoken.{EndsSentence}
use Rattle.wait_core.specs.declared.engine.Stepped.TheVariants as answers
use Rattle.wait_model.proofs.SentenceLaws.SpokenCalls.{calls_follow_sentences}

ended_by : (n : Next) (a : Answer) → answer_of n ≡ Some a → n ≡ next.Ends a
ended_by (next.Go p) a q = absurd (cc)
ended_by (next.Ends b) a q = let z : b ≡ a = (let y : Some b ≡ Some a = q in cc) in ap next.Ends z

-- what a step says that made an event
record MadeBy (s : State) (me : ℕ) (call : Call) (p : Point) (e : Event) (a : Answer) : Type 0 where
  event : e ≡ (planned s me call p).event
  over : (planned s me call p).next ≡ next.Ends a
  runs : (s.table.task me).runnable ≡ true
  free : busy_head s (planned s me call p).event ≡ None

parts : (e d : Event) (n : Next) (a : Answer) → answers.Made d (answer_of n) ≡ answers.Made e (Some a)
    → (e ≡ d) × (answer_of n ≡ Some a)
parts e d n a q = (cc, cc)

not_full : (f : Bool) (x : Planned) (e : Event) (a : Answer)
    → (if f then answers.Full else answers.Made x.event (answer_of x.next)) ≡ answers.Made e (Some a)
    → answers.Made x.event (answer_of x.next) ≡ answers.Made e (Some a)
not_full true x e a q = absurd (cc)
not_full false x e a q = q

made_parts : (b : Bool) (n : ℕ) (x : Planned) (o : Option ℕ) (e : Event) (a : Answer)
    → (if b then event_or_refusal n x o else answers.Asleep) ≡ answers.Made e (Some a)
    → (b ≡ true) × (o ≡ None) × (answers.Made x.event (answer_of x.next) ≡ answers.Made e (Some a))
made_parts false n x o e a q = absurd (cc)
made_parts true n x (Some h) e a q = absurd (cc)
made_parts true n x None e a q = (refl, refl, not_full (n == EVENTS) x e a q)

made_by : (s : State) (n me : ℕ) (call : Call) (p : Point) (e : Event) (a : Answer)
    → stepped s n me (now.Open call p) ≡ answers.Made e (Some a) → MadeBy s me call p e a
made_by s n me call p e a q =
    let y = made_parts (s.table.task me).runnable n (planned s me call p) (busy_head s (planned s me call p).event) e a
    q in
    let k = parts e (planned s me call p).event (planned s me call p).next a y.2 in
    record { event = k.0; over = ended_by (planned s me call p).next a k.1; runs = y.0; free = y.1 }

pub ended_well : (run : List Ran) (me : ℕ) (result : Stepped) → IsRun run → made_in run ≤ EVENTS → me < TASKS
    → result ≡ stepped (state_of run) (made_in run) me ((state_of run).progress me) → EndsSentence run me result
ended_well run me result r few lt is call p e a open_at made =
    let at_open : stepped (state_of run) (made_in run) me (now.Open call p) ≡ answers.Made e (Some a)
    = ap (stepped (state_of run) (made_in run) me) (sym open_at) ∙ sym is ∙ made in
    let m : MadeBy (state_of run) me call p e a = made_by (state_of run) (made_in run) me call p e a at_open in
    calls_follow_sentences run me call e (found_by (state_of run) me e) a r few (record {
      item = (
        lt,
        subst (λ (q : Progress). Continues (state_of run) me q e (found_by (state_of run) me e)) (sym open_at)
            (m.event, refl, m.runs, ap (busy_head (state_of run)) m.event ∙ m.free),
      );
      point = p;
      open_at = open_at;
      over = m.over;
    })
