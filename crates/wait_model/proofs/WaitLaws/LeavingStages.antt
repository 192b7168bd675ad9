-- What an event of a task leaves of its wait, and the events that leave it outside of all stages.
use Rattle.std.proofs.lemmas.Option.{none-some}
use Rattle.std.proofs.lemmas.Bool.{both_ways}
use Rattle.wait_model.specs.{Admission.IsGoing, declared.watches.Watch.Watch, declared.watches.Kind.Kind}
use Rattle.wait_model.specs.{declared.watches.Entry.Entry, declared.tasks.TaskRecord.TaskRecord}
use Rattle.wait_model.specs.{declared.queues.CalledEntry.CalledEntry, declared.queues.Walking.Walking}
use Rattle.wait_model.specs.{declared.steps.Step.Step, declared.calls.Call.Call, declared.calls.Event.Event}
use Rattle.wait_model.specs.{declared.points.Seen.Seen, declared.points.Planned.Planned, declared.points.Point.Point}
use Rattle.wait_model.specs.{declared.points.Progress.Progress, Watches.head_of, Watches.is_page, Readings.Quiet}
use Rattle.wait_model.specs.Readings.{FailedLoad}
use Rattle.wait_model.specs.Tasks.{meets, pending, woken, slept}
use Rattle.wait_model.specs.Points.{call_aim, called_task, given_at}
use Rattle.wait_model.specs.Programs.{go, call_fails, load, call_next, call_entry, onward, past, wake_off_event}
use Rattle.wait_model.specs.Runs.{State, own, progress_at, after_event}
use Rattle.wait_model.specs.Reached.{taken_off, taken_by, handed_by}
use Rattle.std.proofs.lemmas.List.{append_assoc}
use Rattle.std.proofs.Common.{refl, sym, ◌∙◌, ap, subst, arith}
use Rattle.std.specs.Prelude.{ℕ, ◌≡◌, ◌≢◌, ◌⊎◌, Bool, true, false, ◌==◌, if◌then◌else◌, Option, Some, None, List, []}
use Rattle.std.specs.Prelude.{◌∷◌, ◌++◌}
use Rattle.wait_model.specs.declared.watches.Kind.TheVariants as kind
use Rattle.wait_model.specs.declared.steps.Step.TheVariants as step
use Rattle.wait_model.specs.declared.calls.Event.TheVariants as event
use Rattle.wait_model.specs.declared.points.Point.TheVariants as at
use Rattle.wait_model.specs.declared.points.WalkPoint.TheVariants as walking
use Rattle.wait_model.specs.declared.points.Progress.TheVariants as now
use Rattle.wait_model.proofs.Functions.{put_same}
use Rattle.wait_model.proofs.WaitLaws.WaitStages.{Stage, outside, dozing, stage, IsAt, IsStaged, FitsStage, IsAwake}
use Rattle.wait_model.proofs.WaitLaws.WaitStages.{own_up}
use Rattle.wait_model.specs.declared.points.PageStage.TheVariants as staging

abbrev pub stage_in : Progress → Stage
stage_in (now.Open call p) = stage p
stage_in now.Idle = outside
stage_in now.Fresh = outside

outside_staged : (q : Progress) (t : TaskRecord) (o : Option Entry) (es : List Step) (x : ℕ)
    → stage_in q ≡ outside
    → t.runnable ≡ true → IsStaged q t o es x
outside_staged (now.Open call p) t o es x e h = subst (λ (g : Stage). IsAt g t o es x call) (sym e) h
outside_staged now.Idle t o es x e h = h
outside_staged now.Fresh t o es x e h = h

quiet_more : (x : ℕ) (c : Watch) (es : List Step) (w : ℕ) → Quiet x c es
    → Quiet x c (es ++ step.Sleep w ∷ [])
quiet_more x c [] w q = ((refl, refl), tt)
quiet_more x c (e ∷ es) w q = (q.0, quiet_more x c es w q.1)

pub failed_more : (es : List Step) (x : ℕ) (c : Watch) (w : ℕ) → FailedLoad es x c
    → FailedLoad (es ++ step.Sleep w ∷ []) x c
failed_more es x c w l = record {
  before = l.before;
  load = l.load;
  later = l.later ++ step.Sleep w ∷ [];
  split = ap (λ (t : List Step). t ++ step.Sleep w ∷ []) l.split
      ∙ append_assoc l.before (l.load ∷ l.later) (step.Sleep w ∷ []);
  is_load = l.is_load;
  is_no_store = l.is_no_store;
  quiet = quiet_more x c l.later w l.quiet;
}

-- only who is not RUNNING stays down in a sleep
pub slept_down : (t : TaskRecord) → t.runnable ≡ true → (slept t).runnable ≡ false
    → (t.state ≢ 0) × ((slept t).state ≡ t.state)
slept_down t up h = by (t.state == 0) refl (pending t.state t) refl
  where
    by : (a : Bool) → (t.state == 0) ≡ a → (b : Bool) → pending t.state t ≡ b
        → (t.state ≢ 0) × ((slept t).state ≡ t.state)
    by true p b q = absurd (let z : (slept t).runnable ≡ true = rw p up in cc)
    by false p true q = absurd (let z : (slept t).runnable ≡ true = rw (p, q) up in cc)
    by false p false q = ((λ z. grind (arith, z)), rw (p, q) refl)

module _ (s : State) (me : ℕ) (call : Call) (p : Point) where
  abbrev pub then_by : Event → State
  then_by e = after_event s me (given_at call p) e

  -- whom an event takes off, and what it stores
  abbrev pub Takes : Event → Type 0
  Takes (event.Unqueue who) = (who ≡ me) ⊎ ((taken_off p ≡ Some who) ⊎ (handed_by (now.Open call p) ≡ Some who))
  Takes _ = Unit {0}

  abbrev pub Stores : Event → Type 0
  Stores (event.State v) = (v ≡ 0) ⊎ ((e : Entry) → s.table.entry (own me) ≡ Some e
      → IsGoing e.kind → is_page e.kind ≡ false
      → (s.table.view me).hold.head ≡ Some (head_of e.watch))
  Stores _ = Unit {0}

  pub record IsGood (x : Planned) : Type 0 where
    pub staged : IsStaged (progress_at call x.next) ((then_by x.event).table.task me)
        ((then_by x.event).table.entry (own me)) ((then_by x.event).table.history me) (own me)
    pub taken : (who : ℕ) → taken_by (progress_at call x.next) ≡ Some who
        → ((then_by x.event).table.task who).state ≡ 0
    pub takes : Takes x.event
    pub stores : Stores x.event
    pub fits : FitsStage (progress_at call x.next)

  module _ (up : (s.table.task me).runnable ≡ true) where
    nobody : (q : Progress) (who : ℕ) → taken_by q ≡ None → taken_by q ≡ Some who → ⊥
    nobody q who none some = absurd (none-some who (sym none ∙ some))

    pub calm : (x : Planned) → IsAwake s me (given_at call p) x.event → Takes x.event → Stores x.event
        → stage_in (progress_at call x.next) ≡ outside → taken_by (progress_at call x.next) ≡ None
        → FitsStage (progress_at call x.next) → IsGood x
    calm x a t st out none f = record {
      staged = outside_staged (progress_at call x.next) _ _ _ (own me) out
          (own_up s me (given_at call p) x.event a up);
      taken = λ who some. absurd (nobody (progress_at call x.next) who none some);
      takes = t;
      stores = st;
      fits = f;
    }

    -- an event by a test
    pub either : (b : Bool) (x y : Planned) → IsGood x → IsGood y → IsGood (if b then x else y)
    either true x y gx gy = gx
    either false x y gx gy = gy

    pub onward_good : (e : Event) (w : Walking) → IsAwake s me (given_at call p) e → Takes e → Stores e
        → IsGood (go e (onward w))
    onward_good e w a t st = by w.spent
      where
        by : (b : Bool) → IsGood (go e (if b then at.Walk (walking.Spent w) else at.Walk (walking.Call w)))
        by true = calm _ a t st refl refl tt
        by false = calm _ a t st refl refl tt

    -- the function of an entry is called: only one that goes when it is woken is taken off next, and it was
    -- woken
    pub off_good : (w : Walking) (c : CalledEntry) (m : ℕ) → m ≡ (given_at call p).mask
        → IsGood (wake_off_event w c (meets m (s.table.task c.who).state))
    off_good w c m e = by (meets m (s.table.task c.who).state) refl
      where
        roused : meets m (s.table.task c.who).state ≡ true
            → ((then_by (event.Wake c.who true)).table.task c.who).state ≡ 0
        roused h = ap (λ (k : TaskRecord). k.state) (put_same s.table.task c.who _)
            ∙ ap (λ (n : ℕ). (woken n (s.table.task c.who)).state) (sym e) ∙ rw h refl

        by : (b : Bool) → meets m (s.table.task c.who).state ≡ b → IsGood (wake_off_event w c b)
        by false h = calm _ tt tt tt refl refl tt
        by true h = record {
          staged = own_up s me (given_at call p) (event.Wake c.who true) tt up;
          taken = λ who some. let z : c.who ≡ who = cc in
              subst (λ (i : ℕ). ((then_by (event.Wake c.who true)).table.task i).state ≡ 0) z (roused h);
          takes = tt;
          stores = tt;
          fits = tt;
        }

    called_good : (w : Walking) (c : CalledEntry) (m : ℕ) → m ≡ (given_at call p).mask → (k : Kind) (seen : Seen)
        → IsGood (call_entry (call_aim call) w c k seen (meets m (s.table.task c.who).state))
    called_good w c m e kind.Autoremove seen = off_good w c m e
    called_good w c m e kind.Var seen = off_good w c m e
    called_good w c m e kind.Woken seen = calm _ tt tt tt refl refl tt
    called_good w c m e kind.Bit seen = by (call_fails call seen)
      where
        by : (b : Bool) → IsGood (go (load call seen) (at.Walk (if b then walking.Call (past w c false)
            else walking.Bit w c)))
        by true = calm _ tt tt tt refl refl tt
        by false = calm _ tt tt tt refl refl tt
    called_good w c m e kind.Page seen = by (call_fails call seen)
      where
        by : (b : Bool) → IsGood (go (load call seen) (at.Walk (if b then walking.Stopped w
            else walking.Page staging.Try w c)))
        by true = calm _ tt tt tt refl refl tt
        by false = calm _ tt tt tt refl refl tt
    called_good w c m e k seen = onward_good _ (past w c (meets m (s.table.task c.who).state)) tt tt tt

    pub next_good : (w : Walking) (o : Option CalledEntry) (m : ℕ) → m ≡ (given_at call p).mask → (seen : Seen)
        → IsGood (call_next (call_aim call) w o seen (meets m (s.table.task (called_task o)).state))
    next_good w None m e seen = calm _ tt tt tt refl refl tt
    next_good w (Some c) m e seen = called_good w c m e c.kind seen

    -- who is awake stays so after an event that is no sleep, wherever it goes on
    pub awake_good : (e : Event) (q : Point) → IsAwake s me (given_at call p) e → Takes e → Stores e
        → stage q ≡ dozing → taken_off q ≡ None → FitsStage (now.Open call q) → IsGood (go e q)
    awake_good e q a t st doze none f = record {
      staged = subst (λ (g : Stage). IsAt g ((then_by e).table.task me) ((then_by e).table.entry (own me))
          ((then_by e).table.history me) (own me) call) (sym doze)
          (λ d. absurd (both_ways true (sym (own_up s me (given_at call p) e a up) ∙ d) refl));
      taken = λ who some. absurd (nobody (now.Open call q) who none some);
      takes = t;
      stores = st;
      fits = f;
    }
