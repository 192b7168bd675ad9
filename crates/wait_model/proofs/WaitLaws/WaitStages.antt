-- What the stages of a wait say of its task, and what the events of others do to it.
use Rattle.std.proofs.Common.{refl, sym, ◌∙◌, ap, subst, inl, inr}
use Rattle.std.specs.Prelude.{ℕ, ◌≡◌, ◌≢◌, ◌⊎◌, Bool, true, false, if◌then◌else◌, is_some, Option, List}
use Rattle.wait_model.specs.{declared.watches.Entry.Entry, declared.tasks.TaskRecord.TaskRecord}
use Rattle.wait_model.specs.{declared.steps.Step.Step, declared.calls.Call.Call, declared.calls.Event.Event}
use Rattle.wait_model.specs.{declared.points.Point.Point, declared.points.Progress.Progress}
use Rattle.wait_model.specs.{declared.points.Given.Given, Words.head_word, Tables.next, Tables.value_of}
use Rattle.wait_model.specs.{Watches.mask_of, Points.call_watch, Points.is_await, Readings.FailedLoad, Runs.State}
use Rattle.wait_model.specs.Runs.{after_event}
use Rattle.wait_model.specs.declared.layout.TheConstants.{INTERRUPTIBLE, UNINTERRUPTIBLE, KILLABLE, NORMAL}
use Rattle.wait_model.specs.Tasks.{IsLawful, meets, woken, raised}
use Rattle.wait_model.specs.declared.watches.Mode.TheVariants as mode
use Rattle.wait_model.specs.declared.steps.Step.TheVariants as step
use Rattle.wait_model.specs.declared.calls.Call.TheVariants as calls
use Rattle.wait_model.specs.declared.calls.Event.TheVariants as event
use Rattle.wait_model.specs.declared.points.Point.TheVariants as at
use Rattle.wait_model.specs.declared.points.PreparePoint.TheVariants as preparing
use Rattle.wait_model.specs.declared.points.WokenPoint.TheVariants as hearing
use Rattle.wait_model.specs.declared.points.AwaitPoint.TheVariants as awaiting
use Rattle.wait_model.specs.declared.points.BitPoint.TheVariants as biting
use Rattle.wait_model.specs.declared.points.Progress.TheVariants as now
use Rattle.wait_model.proofs.{WordLaws.CondWords.set_rest, HistoryLaws.HoldLooks.looks_same}
use Rattle.wait_model.proofs.HistoryLaws.UnlockedLooks.{peeks_same}
use Rattle.wait_model.proofs.Functions.{put_at, put_same, put_other}
use Rattle.wait_model.specs.declared.points.PagePoint.TheVariants as paging

-- how far a wait is: outside, in the hold in which it stores its state, before the load, between the load and
-- the sleep, after the sleep; and a wait for a flag after its sleep
pub data Stage : Type 0 where
  outside : Stage
  inside : Stage
  testing : Stage
  tested : Stage
  dozing : Stage
  napping : Stage

abbrev pub stage : Point → Stage
stage (at.Prepare preparing.Lock) = dozing
stage (at.Prepare preparing.State) = inside
stage (at.Prepare preparing.Unlock) = inside
stage at.Test = testing
stage at.Sleep = tested
stage (at.Bit biting.Load) = testing
stage (at.Bit biting.Sleep) = tested
stage (at.Bit biting.Look) = dozing
stage (at.Bit (biting.Again failed)) = dozing
stage (at.Await (awaiting.Lock true)) = dozing
stage (at.Woken hearing.Run) = napping
stage (at.Page paging.First) = outside
stage (at.Page p) = napping
stage _ = outside

-- a wait that loads its condition outside of its holds loaded it, and the test failed
abbrev pub IsTested : Call → List Step → ℕ → Type 0
IsTested call es x = is_await call ≡ false → FailedLoad es x (call_watch call)

abbrev pub IsAt : Stage → TaskRecord → Option Entry → List Step → ℕ → Call → Type 0
IsAt outside t o es x call = t.runnable ≡ true
IsAt inside t o es x call = (t.runnable ≡ true) × (is_some o ≡ true)
IsAt testing t o es x call = (t.runnable ≡ true) × (t.state ≢ 0 → is_some o ≡ true)
IsAt tested t o es x call = (t.runnable ≡ true) × (t.state ≢ 0 → is_some o ≡ true) × IsTested call es x
IsAt dozing t o es x call = t.runnable ≡ false → (is_some o ≡ true) × IsTested call es x
IsAt napping t o es x call = Unit {0}

abbrev pub IsStaged : Progress → TaskRecord → Option Entry → List Step → ℕ → Type 0
IsStaged (now.Open call p) t o es x = IsAt (stage p) t o es x call
IsStaged now.Idle t o es x = t.runnable ≡ true
IsStaged now.Fresh t o es x = t.runnable ≡ true

-- only a wait for a flag stands at such a point, as that for a page is
abbrev pub IsListening : Call → Type 0
IsListening (calls.Woken st) = Unit {0}
IsListening (calls.LockPage w st) = Unit {0}
IsListening _ = ⊥

abbrev pub FitsStage : Progress → Type 0
FitsStage (now.Open call (at.Woken p)) = IsListening call
FitsStage (now.Open call (at.Page p)) = IsListening call
FitsStage _ = Unit {0}

-- a task after an event of another: it stands as before, or it was woken
abbrev pub IsUpInStage : TaskRecord → Type 0
IsUpInStage t = (t.state ≡ 0) × (t.runnable ≡ true)

abbrev pub IsRoused : TaskRecord → TaskRecord → Type 0
IsRoused t u = ((u.state ≡ t.state) × (u.runnable ≡ t.runnable)) ⊎ IsUpInStage u

-- its entry as before, or it is off and the task was woken, outside of its own hold, or it waits for a flag
abbrev pub IsLeftStage : Stage → TaskRecord → Option Entry → Option Entry → Type 0
IsLeftStage g u o p = (p ≡ o) ⊎ ((IsUpInStage u × (g ≡ inside → ⊥)) ⊎ (g ≡ napping))

not_down : (u : TaskRecord) {A : Type 0} → IsUpInStage u → u.runnable ≡ false → A
not_down u h d = absurd (let z : u.runnable ≡ true = h.1 in cc)

not_low : (u : TaskRecord) {A : Type 0} → IsUpInStage u → u.state ≢ 0 → A
not_low u h d = absurd (d h.0)

pub roused_up : (t u : TaskRecord) → IsRoused t u → t.runnable ≡ true → u.runnable ≡ true
roused_up t u (inl s) h = s.1 ∙ h
roused_up t u (inr s) h = s.1

queued_still : (g : Stage) (t u : TaskRecord) (o p : Option Entry) → (g ≡ napping → ⊥) → IsRoused t u
    → IsLeftStage g u o p → (t.state ≢ 0 → is_some o ≡ true) → u.state ≢ 0 → is_some p ≡ true
queued_still g t u o p n (inr s) l q d = not_low u s d
queued_still g t u o p n (inl s) (inr (inl l)) q d = not_low u l.0 d
queued_still g t u o p n (inl s) (inr (inr l)) q d = absurd (n l)
queued_still g t u o p n (inl s) (inl l) q d = ap (λ (k : Option Entry). is_some k) l ∙ q (λ z. d (s.0 ∙ z))

pub staged_still : (g : Stage) (t u : TaskRecord) (o p : Option Entry) (es : List Step) (x : ℕ) (c : Call)
    → IsRoused t u → IsLeftStage g u o p → IsAt g t o es x c → IsAt g u p es x c
staged_still outside t u o p es x c r l a = roused_up t u r a
staged_still inside t u o p es x c r (inl l) a = (
  roused_up t u r a.0,
  ap (λ (k : Option Entry). is_some k) l ∙ a.1,
)
staged_still inside t u o p es x c r (inr (inl l)) a = absurd (l.1 refl)
staged_still inside t u o p es x c r (inr (inr l)) a = absurd (cc)
staged_still testing t u o p es x c r l a = (roused_up t u r a.0, queued_still testing t u o p (λ n. cc) r l a.1)
staged_still tested t u o p es x c r l a = (roused_up t u r a.0, queued_still tested t u o p (λ n. cc) r l a.1, a.2)
staged_still dozing t u o p es x c (inr r) l a = λ d. not_down u r d
staged_still dozing t u o p es x c (inl r) (inr (inl l)) a = λ d. not_down u l.0 d
staged_still dozing t u o p es x c (inl r) (inr (inr l)) a = absurd (cc)
staged_still dozing t u o p es x c (inl r) (inl l) a = λ d.
    let b = a (sym r.1 ∙ d) in (ap (λ (k : Option Entry). is_some k) l ∙ b.0, b.1)
staged_still napping t u o p es x c r l a = tt

-- after a wake with NORMAL a task is RUNNING
meets_normal : (meets NORMAL INTERRUPTIBLE ≡ true) × (meets NORMAL UNINTERRUPTIBLE ≡ true)
    × (meets NORMAL KILLABLE ≡ true)
unfolding meets
meets_normal = (refl, refl, refl)

pub low_woken : (t : TaskRecord) → IsLawful t → (woken (mask_of mode.Normal) t).state ≡ 0
low_woken t l = elim l.state [
  | inl z ↦ stays (meets 3 t.state) z
  | inr b ↦ elim b [
    | inl z ↦ rw (ap (meets 3) z ∙ meets_normal.0) refl
    | inr d ↦ elim d [
      | inl z ↦ rw (ap (meets 3) z ∙ meets_normal.1) refl
      | inr z ↦ rw (ap (meets 3) z ∙ meets_normal.2) refl
    ]
  ]
]
  where
    stays : (b : Bool) → t.state ≡ 0 → (if b then record t { state = 0; runnable = true } else t).state ≡ 0
    stays true z = refl
    stays false z = z

-- what an event does to the tasks
woken_roused : (mask : ℕ) (t : TaskRecord) → IsRoused t (woken mask t)
woken_roused mask t = by (meets mask t.state)
  where
    by : (b : Bool) → IsRoused t (if b then record t { state = 0; runnable = true } else t)
    by true = inr (refl, refl)
    by false = inl (refl, refl)

same_roused : (t u : TaskRecord) → u ≡ t → IsRoused t u
same_roused t u e = inl (ap (λ (k : TaskRecord). k.state) e, ap (λ (k : TaskRecord). k.runnable) e)

module _ (s : State) (me : ℕ) (g : Given) where
  pub others_roused : (e : Event) (t : ℕ) → t ≢ me
      → IsRoused (s.table.task t) ((after_event s me g e).table.task t)
  others_roused (event.State v) t ne = same_roused _ _ (put_other s.table.task me _ t ne)
  others_roused (event.Sleep x) t ne = same_roused _ _ (put_other s.table.task me _ t ne)
  others_roused (event.Accept x) t ne = same_roused _ _ (put_other s.table.task me _ t ne)
  others_roused (event.Wake who hit) t ne = put_at (IsRoused (s.table.task t)) s.table.task who _ t
      (λ q. subst (λ (i : ℕ). IsRoused (s.table.task t) (woken g.mask (s.table.task i))) q
      (woken_roused g.mask (s.table.task t))) (λ _. inl (refl, refl))
  others_roused (event.Signal who fatal) t ne = put_at (IsRoused (s.table.task t)) s.table.task who _ t
      (λ q. subst (λ (i : ℕ). IsRoused (s.table.task t) (raised fatal (s.table.task i))) q
      (inl (refl, refl)))
      (λ _. inl (refl, refl))
  others_roused (event.Lock h) t ne = same_roused _ _ (ap (λ (f : ℕ → TaskRecord). f t)
      (looks_same (next s.table me (step.Lock h g.walk (head_word (s.table.holder h) (s.table.spent h))))
      s.table.entry me).task)
  others_roused (event.Active h hit) t ne = same_roused _ _ (ap (λ (f : ℕ → TaskRecord). f t)
      (peeks_same s.table s.table.entry me).task)
  others_roused (event.Set c v) t ne = same_roused _ _ (ap (λ (f : ℕ → TaskRecord). f t)
      (set_rest s.table me g.watch v (value_of s.table.words g.watch)).task)
  others_roused e t ne = inl (refl, refl)

  -- an event that is no sleep leaves its task runnable
  abbrev pub IsAwake : Event → Type 0
  IsAwake (event.Sleep x) = ⊥
  IsAwake _ = Unit {0}

  pub own_up : (e : Event) → IsAwake e → (s.table.task me).runnable ≡ true
      → ((after_event s me g e).table.task me).runnable ≡ true
  own_up (event.Sleep x) a h = absurd a
  own_up (event.State v) a h = ap (λ (k : TaskRecord). k.runnable) (put_same s.table.task me _) ∙ h
  own_up (event.Accept x) a h = ap (λ (k : TaskRecord). k.runnable) (put_same s.table.task me _) ∙ h
  own_up (event.Wake who hit) a h = put_at (λ (k : TaskRecord). k.runnable ≡ true) s.table.task who _ me
      (λ q. subst (λ (i : ℕ). (woken g.mask (s.table.task i)).runnable ≡ true) q
      (roused_up (s.table.task me) (woken g.mask (s.table.task me))
      (woken_roused g.mask (s.table.task me)) h))
      (λ _. h)
  own_up (event.Signal who fatal) a h = put_at (λ (k : TaskRecord). k.runnable ≡ true) s.table.task who _ me
      (λ q. subst (λ (i : ℕ). (raised fatal (s.table.task i)).runnable ≡ true) q h) (λ _. h)
  own_up (event.Lock k) a h = ap (λ (f : ℕ → TaskRecord). (f me).runnable)
      (looks_same (next s.table me (step.Lock k g.walk (head_word (s.table.holder k) (s.table.spent k))))
      s.table.entry me).task ∙ h
  own_up (event.Active k hit) a h = ap (λ (f : ℕ → TaskRecord). (f me).runnable)
      (peeks_same s.table s.table.entry me).task ∙ h
  own_up (event.Set c v) a h = ap (λ (f : ℕ → TaskRecord). (f me).runnable)
      (set_rest s.table me g.watch v (value_of s.table.words g.watch)).task ∙ h
  own_up e a h = h
