-- Whoever such a wait has put asleep left its entry queued behind the hold in which it prepared.
use Rattle.std.proofs.Common.{refl, sym, ◌∙◌, ap, subst}
use Rattle.std.specs.Prelude.{ℕ, ◌≡◌, ◌==◌, ◌&&◌, not, Bool, true, false, if◌then◌else◌, is_some, Option, Some, List}
use Rattle.std.specs.Prelude.{[], ◌∷◌, ◌++◌}
use Rattle.wait_model.specs.{declared.calls.Call.Call, declared.calls.Event.Event, declared.points.Planned.Planned}
use Rattle.wait_model.specs.{declared.points.Point.Point, declared.points.Seen.Seen, declared.queues.Form.Form}
use Rattle.wait_model.specs.{declared.steps.Step.Step, declared.watches.Entry.Entry, declared.watches.Watch.Watch}
use Rattle.wait_model.specs.{Calls.call_watch, Calls.program_start, Fold.after, Fold.view_of, Selections.is_page_lock}
use Rattle.wait_model.specs.{Findings.is_waiting, Watches.bare, Watches.head_of}
use Rattle.wait_model.specs.Points.{form_of, given_at, is_bit_wait, is_lock, state_in}
use Rattle.wait_model.specs.Programs.{ask, await_after, await_ends, call_fails, finished, is_at_end, load, look_event}
use Rattle.wait_model.specs.Programs.{prepared_at, program, queue_event, signalled_at, slept_at, worn_next}
use Rattle.wait_model.specs.Tasks.{looks_in, pending, state_mask}
use Rattle.wait_model.specs.Views.{Look, View, blank, elsewhere, off, shown, unseen}
use Rattle.wait_model.specs.declared.calls.Call.TheVariants as calls
use Rattle.wait_model.specs.declared.calls.Event.TheVariants as event
use Rattle.wait_model.specs.declared.points.AwaitPoint.TheVariants as awaiting
use Rattle.wait_model.specs.declared.points.BitPoint.TheVariants as biting
use Rattle.wait_model.specs.declared.points.FinishPoint.TheVariants as finishing
use Rattle.wait_model.specs.declared.points.LeavePoint.TheVariants as leaving
use Rattle.wait_model.specs.declared.points.Next.TheVariants as next
use Rattle.wait_model.specs.declared.points.Point.TheVariants as at
use Rattle.wait_model.specs.declared.points.PreparePoint.TheVariants as preparing
use Rattle.wait_model.specs.declared.steps.Step.TheVariants as step
use Rattle.wait_model.specs.declared.watches.Watch.TheVariants as watch
use Rattle.wait_model.proofs.{HistoryLaws.HoldLooks.after_snoc, HistoryLaws.Stretches.lacks_append}
use Rattle.wait_model.proofs.WaitLaws.OutsideStages.{either}
use Rattle.std.proofs.Common.{append_assoc, arith}
use Rattle.wait_rule.specs.{Known.Known, Queues.index, Says.history_of, Says.told_of}
use Rattle.wait_rule.specs.Transitions.{IsMadeFor, IsSeenAs, IsStepFor, StepOrLook, after_step_or_look}
use Rattle.wait_rule.specs.Transitions.{after_transition, by_look, by_step, call_program}
use Rattle.wait_rule.proofs.TableSteps.MemberMoves.{own_index}
use Rattle.order_laws.specs.TakenOff.{IsGripped, IsLeftQueued, frees, is_mild}
use Rattle.order_laws.proofs.QueuedOrders.{still_queued}
use Rattle.waiter_laws.specs.{Asleep.EndsAsleep, Asleep.sleep_point, Queued.SleepersAreQueued}
use Rattle.waiter_laws.proofs.HistoryRuns.{AtNext, IsLed, Leads, only_still, run, step_history}
use Rattle.waiter_laws.proofs.PointRuns.{is_active}
use Rattle.waiter_laws.proofs.Sleepers.{has_slept, kept_by, sleep_by}

-- in a hold of this head; with its entry there; and behind that hold
abbrev HeldAt : ℕ → List Step → Type 0
HeldAt h es = (view_of es).hold.head ≡ Some h

abbrev Gripped : ℕ → ℕ → List Step → Type 0
Gripped x h es = (e : Entry) × IsGripped es x h e

abbrev LeftQueued : ℕ → ℕ → List Step → Type 0
LeftQueued x h es = (e : Entry) × IsLeftQueued es x h e

abbrev QueuedAt : ℕ → ℕ → Point → List Step → Type 0
QueuedAt x h at.First es = Unit {0}
QueuedAt x h (at.Prepare preparing.Lock) es = Unit {0}
QueuedAt x h (at.Prepare preparing.Look) es = HeldAt h es
QueuedAt x h (at.Prepare preparing.Queue) es = HeldAt h es
QueuedAt x h (at.Prepare p) es = Gripped x h es
QueuedAt x h at.Test es = LeftQueued x h es
QueuedAt x h at.Sleep es = LeftQueued x h es
QueuedAt x h at.Worn es = Unit {0}
QueuedAt x h (at.Leave p) es = Unit {0}
QueuedAt x h (at.Finish p failed) es = Unit {0}
QueuedAt x h (at.Bit biting.Load) es = LeftQueued x h es
QueuedAt x h (at.Bit biting.Sleep) es = LeftQueued x h es
QueuedAt x h (at.Bit p) es = Unit {0}
QueuedAt x h (at.Await (awaiting.Load waited)) es = HeldAt h es
QueuedAt x h (at.Await p) es = Unit {0}
QueuedAt x h _ es = ⊥

-- one step more
held_more : (h : ℕ) (es : List Step) (e : Step) → (after e (view_of es)).hold.head ≡ Some h → HeldAt h (es ++ e ∷ [])
held_more h es e is = ap (λ (v : View). v.hold.head) (after_snoc blank es e) ∙ is

grip_more : (x h : ℕ) (es : List Step) (e : Step) → frees x e ≡ false → Gripped x h es → Gripped x h (es ++ e ∷ [])
grip_more x h es e quiet g = (
  g.0,
  record {
    front = g.1.front;
    grip = g.1.grip;
    inside = g.1.inside ++ e ∷ [];
    split = ap (λ (l : List Step). l ++ e ∷ []) g.1.split ∙ append_assoc g.1.front (g.1.grip ∷ g.1.inside) (e ∷ []);
    held = g.1.held;
    grips = g.1.grips;
    kept = lacks_append (frees x) g.1.inside (e ∷ []) g.1.kept (quiet, tt);
  },
)

left_more : (x h : ℕ) (es : List Step) (e : Step) → is_mild e ≡ true → LeftQueued x h es
    → LeftQueued x h (es ++ e ∷ [])
left_more x h es e mild g = (
  g.0,
  record {
    hold = g.1.hold;
    head = g.1.head;
    spent = g.1.spent;
    later = g.1.later ++ e ∷ [];
    split = ap (λ (l : List Step). l ++ e ∷ []) g.1.split
        ∙ append_assoc g.1.hold (step.Unlock g.1.head g.1.spent ∷ g.1.later) (e ∷ []);
    gripped = g.1.gripped;
    mild = lacks_append (λ f. not (is_mild f)) g.1.later (e ∷ []) g.1.mild (ap (λ (b : Bool). not b) mild, tt);
  },
)

saw_more : (x h : ℕ) (p : Point) (es : List Step) (y w : ℕ) → QueuedAt x h p es → QueuedAt x h p
    (es ++ step.Saw y w ∷ [])
saw_more x h at.First es y w q = tt
saw_more x h (at.Prepare preparing.Lock) es y w q = tt
saw_more x h (at.Prepare preparing.Look) es y w q = held_more h es (step.Saw y w) q
saw_more x h (at.Prepare preparing.Queue) es y w q = held_more h es (step.Saw y w) q
saw_more x h (at.Prepare p) es y w q = grip_more x h es (step.Saw y w) refl q
saw_more x h at.Test es y w q = left_more x h es (step.Saw y w) refl q
saw_more x h at.Sleep es y w q = left_more x h es (step.Saw y w) refl q
saw_more x h at.Worn es y w q = tt
saw_more x h (at.Leave p) es y w q = tt
saw_more x h (at.Finish p failed) es y w q = tt
saw_more x h (at.Bit biting.Load) es y w q = left_more x h es (step.Saw y w) refl q
saw_more x h (at.Bit biting.Sleep) es y w q = left_more x h es (step.Saw y w) refl q
saw_more x h (at.Bit p) es y w q = tt
saw_more x h (at.Await (awaiting.Load waited)) es y w q = held_more h es (step.Saw y w) q
saw_more x h (at.Await p) es y w q = tt
saw_more x h p es y w q = absurd q

head_bare : (c : Watch) → head_of (bare c) ≡ head_of c
unfolding head_of
head_bare (watch.Plain c) = refl
head_bare (watch.Done d) = refl
head_bare (watch.Bit w b) = refl
head_bare (watch.Var v o) = refl

seen_shown : (l : Look) (o : Option Entry) → IsSeenAs l o → is_some o ≡ true → (e : Entry) × (l ≡ shown e)
seen_shown unseen o s is = absurd s
seen_shown off o s is = absurd (let z : is_some o ≡ false = ap (λ (u : Option Entry). is_some u) s in cc)
seen_shown elsewhere o s is = absurd s
seen_shown (shown e) o s is = (e, refl)

-- the calls
abbrev is_queued : Call → Bool
is_queued call = is_waiting call && not (is_page_lock call)

module _ (me : ℕ) (call : Call) (is : is_queued call ≡ true) where
  abbrev x : ℕ
  x = index me 0

  abbrev h : ℕ
  h = head_of (call_watch call)

  abbrev At : Point → List Step → Type 0
  At p es = QueuedAt x h p es

  -- where it begins, and where it goes on from its sleep, from a signal and from a head with no place
  goes_on : (es : List Step) → At (program_start call) es × At (slept_at call) es × At (signalled_at call) es
      × AtNext (call_program me 0 call) At (worn_next call) es
  goes_on es = by call is
    where
      by : (a : Call) → is_queued a ≡ true → At (program_start a) es × At (slept_at a) es × At (signalled_at a) es
          × AtNext (call_program me 0 call) At (worn_next a) es
      by (calls.Wait i how) t = (tt, tt, tt, tt)
      by (calls.SimpleWait i st) t = (tt, tt, tt, tt)
      by (calls.WaitFor d st) t = (tt, tt, tt, tt)
      by (calls.WaitBit w n st) t = (tt, tt, tt, tt)
      by (calls.LockBit w n st) t = (tt, tt, tt, tt)
      by (calls.WaitVar i old st) t = (tt, tt, tt, tt)
      by a t = absurd (cc)

  prepared : (es : List Step) → LeftQueued x h es → At (prepared_at call) es
  prepared es l = by call is
    where
      by : (a : Call) → is_queued a ≡ true → At (prepared_at a) es
      by (calls.Wait i how) t = l
      by (calls.SimpleWait i st) t = l
      by (calls.WaitFor d st) t = l
      by (calls.WaitBit w n st) t = l
      by (calls.LockBit w n st) t = l
      by (calls.WaitVar i old st) t = l
      by a t = absurd (cc)

  module _ (k : Known) (p : Point) where
    abbrev es : List Step
    es = history_of k

    abbrev Made : Event → Step → Type 0
    Made v e = IsStepFor k (Some x) (given_at call p) v e

    locks : (e : Step) → Made (event.Lock h) e → HeldAt h (es ++ e ∷ [])
    locks (step.Lock i aim w) made = held_more h es (step.Lock i aim w) (ap (λ (j : ℕ). Some j) made.0)
    locks e made = absurd made

    looks : (hit : Bool) (e : Step) → Made (event.Look hit) e → HeldAt h es → HeldAt h (es ++ e ∷ [])
    looks hit (step.Look w) made q = held_more h es (step.Look w) q
    looks hit e made q = absurd made

    loads_held : (seen : Seen) (e : Step) → Made (load call seen) e → HeldAt h es → HeldAt h (es ++ e ∷ [])
    loads_held seen (step.Load l r) made q = held_more h es (step.Load l r) q
    loads_held seen e made q = absurd made

    loads_left : (seen : Seen) (e : Step) → Made (load call seen) e → LeftQueued x h es → LeftQueued x h (es ++ e ∷ [])
    loads_left seen (step.Load l r) made q = left_more x h es (step.Load l r) refl q
    loads_left seen e made q = absurd made

    stays : (σ : ℕ) (e : Step) → Made (event.State σ) e → HeldAt h es → (f : Entry)
        → (told_of k).hold.book x ≡ shown f → Gripped x h (es ++ e ∷ [])
    stays σ (step.State τ) made q f is = (
      f,
      record {
        front = es;
        grip = step.State τ;
        inside = [];
        split = refl;
        held = q;
        grips = is;
        kept = tt;
      },
    )
    stays σ e made q f is = absurd made

    joins : (i : ℕ) (form : Form) (e : Step) → Made (event.Queue i form) e → HeldAt h es → Gripped x h (es ++ e ∷ [])
    joins i form (step.Queue y f) made q = (
      f,
      record {
        front = es;
        grip = step.Queue y f;
        inside = [];
        split = refl;
        held = q;
        grips = (
          let z : Some x ≡ Some y = made.0 in let w : x ≡ y = cc in sym w,
          refl,
          ap (λ (g : Entry). head_of g.watch) made.3 ∙ head_bare (call_watch call),
        );
        kept = tt;
      },
    )
    joins i form e made q = absurd made

    stores : (σ : ℕ) (e : Step) → Made (event.State σ) e → Gripped x h es → Gripped x h (es ++ e ∷ [])
    stores σ (step.State τ) made q = grip_more x h es (step.State τ) refl q
    stores σ e made q = absurd made

    gives : (i : ℕ) (sp : Bool) (e : Step) → Made (event.Unlock i sp) e → Gripped x h es
        → LeftQueued x h (es ++ e ∷ [])
    gives i sp (step.Unlock j s) made q = (
      q.0,
      record { hold = es; head = j; spent = s; later = []; split = refl; gripped = q.1; mild = tt },
    )
    gives i sp e made q = absurd made

    asks_quiet : (seen : Seen) → is_active (ask call seen) ≡ false
    asks_quiet seen = either (λ (v : Event). is_active v ≡ false) (is_lock call) _ _ refl refl

    module _ (seen : Seen) where
      abbrev L : Planned → Type 0
      L u = Leads (call_program me 0 call) At k p seen u

      finished_led : (failed : Bool) (v : Event) → is_active v ≡ false → L (finished call failed v)
      finished_led failed v quiet = either L (failed && is_lock call) _ _ (λ e made found. tt, quiet)
          (λ e made found. tt, quiet)

      ends : (stopped : Bool) → L (await_ends call stopped seen)
      ends true = (λ e made found. tt, refl)
      ends false = either L (is_at_end seen.value) _ _ (λ e made found. tt, refl) (λ e made found. tt, refl)

  counted : (k : Known) (waited : Bool) (seen : Seen) (b : Bool) → HeldAt h (history_of k) → (e : Step)
      → IsStepFor k (Some x) (given_at call (at.Await (awaiting.Load waited))) (load call seen) e
      → At (await_after call waited b) (history_of k ++ e ∷ [])
  counted k waited seen true q e made = either (λ r. At (at.Prepare r) (history_of k ++ e ∷ []))
      (not (is_bit_wait call) && looks_in (state_in call)) preparing.Look preparing.Queue
      (loads_held k (at.Await (awaiting.Load waited)) seen e made q)
      (loads_held k (at.Await (awaiting.Load waited)) seen e made q)
  counted k true seen false q e made = tt
  counted k false seen false q e made = tt

  queue_led : (k : Known) (seen : Seen) → HeldAt h (history_of k)
      → L k (at.Prepare preparing.Queue) seen (queue_event call seen)
  queue_led k seen q = by (is_some seen.entry) refl
    where
      by : (b : Bool) → is_some seen.entry ≡ b → L k (at.Prepare preparing.Queue) seen
          (if b then record {
            event = event.State (state_mask (state_in call));
            next = next.Go
                (at.Prepare preparing.Unlock);
          }
          else if seen.worn then record { event = event.Unlock h false; next = worn_next call }
          else record { event = event.Queue h (form_of call); next = next.Go (at.Prepare preparing.State) })
      by true there = (
        λ e made found.
            let s = seen_shown ((told_of k).hold.book x) seen.entry found.1.0 there in
            stays k (at.Prepare preparing.Queue) (state_mask (state_in call)) e made q s.0 s.1,
        refl,
      )
      by false there = either (L k (at.Prepare preparing.Queue) seen) seen.worn _ _
          (λ e made found. (goes_on (history_of k ++ e ∷ [])).3, refl)
          (λ e made found. joins k (at.Prepare preparing.Queue) h (form_of call) e made q, refl)

  any : (k : Known) (p : Point) (seen : Seen) → At p (history_of k) → L k p seen (program me call p seen)
  any k at.First seen q = either (L k at.First seen) (call_fails call seen) _ _ (λ e made found. tt, refl)
      (λ e made found. tt, refl)
  any k (at.Prepare preparing.Lock) seen q = (
    λ e made found. either (λ r. At (at.Prepare r) (history_of k ++ e ∷ []))
        (not (is_bit_wait call) && looks_in (state_in call)) preparing.Look preparing.Queue
        (locks k (at.Prepare preparing.Lock) e made) (locks k (at.Prepare preparing.Lock) e made),
    refl,
  )
  any k (at.Prepare preparing.Look) seen q = by (pending (state_mask (state_in call)) seen.own)
    where
      by : (hit : Bool) → L k (at.Prepare preparing.Look) seen (look_event call hit)
      by true = (λ e made found. (goes_on (history_of k ++ e ∷ [])).2, refl)
      by false = (λ e made found. looks k (at.Prepare preparing.Look) false e made q, refl)
  any k (at.Prepare preparing.Queue) seen q = queue_led k seen q
  any k (at.Prepare preparing.State) seen q =
      (λ e made found. stores k (at.Prepare preparing.State) (state_mask (state_in call)) e made q, refl)
  any k (at.Prepare preparing.Unlock) seen q = (
    λ e made found. prepared (history_of k ++ e ∷ [])
        (gives k (at.Prepare preparing.Unlock) h false e made q),
    refl,
  )
  any k at.Test seen q = (
    λ e made found. either (λ r. At r (history_of k ++ e ∷ [])) (call_fails call seen) at.Sleep
        (at.Finish finishing.State false) (loads_left k at.Test seen e made q) tt,
    refl,
  )
  any k at.Sleep seen q = (λ e made found. (goes_on (history_of k ++ e ∷ [])).1, refl)
  any k at.Worn seen q = either (L k at.Worn seen) (call_fails call seen) _ _
      (λ e made found. tt, asks_quiet k at.Worn seen)
      (either (L k at.Worn seen) (is_lock call) _ _ (λ e made found. tt, asks_quiet k at.Worn seen)
      (λ e made found. tt, asks_quiet k at.Worn seen))
  any k (at.Leave leaving.Queue) seen q = either (L k (at.Leave leaving.Queue) seen) (is_some seen.entry) _ _
      (λ e made found. tt, refl) (λ e made found. tt, refl)
  any k (at.Leave leaving.Unlock) seen q = (λ e made found. tt, refl)
  any k (at.Leave leaving.Load) seen q = either (L k (at.Leave leaving.Load) seen) (call_fails call seen) _ _
      (λ e made found. tt, refl) (λ e made found. tt, refl)
  any k (at.Finish finishing.State failed) seen q = (λ e made found. tt, refl)
  any k (at.Finish finishing.Look failed) seen q = either (L k (at.Finish finishing.Look failed) seen)
      (is_some seen.entry) _ _ (λ e made found. tt, refl)
      (finished_led k (at.Finish finishing.Look failed) seen failed (event.Queued false) refl)
  any k (at.Finish finishing.Lock failed) seen q = (λ e made found. tt, refl)
  any k (at.Finish finishing.Queue failed) seen q = either (L k (at.Finish finishing.Queue failed) seen)
      (is_some seen.entry) _ _ (λ e made found. tt, refl)
      (finished_led k (at.Finish finishing.Queue failed) seen failed (event.Unlock h false) refl)
  any k (at.Finish finishing.Unlock failed) seen q =
      finished_led k (at.Finish finishing.Unlock failed) seen failed (event.Unlock h false) refl
  any k (at.Bit biting.Try) seen q = (λ e made found. tt, refl)
  any k (at.Bit biting.First) seen q = either (L k (at.Bit biting.First) seen) (call_fails call seen) _ _
      (λ e made found. tt, asks_quiet k (at.Bit biting.First) seen)
      (λ e made found. tt, asks_quiet k (at.Bit biting.First) seen)
  any k (at.Bit biting.Load) seen q = (
    λ e made found. either (λ r. At (at.Bit r) (history_of k ++ e ∷ []))
        (call_fails call seen) biting.Sleep (biting.Again false) (loads_left k (at.Bit biting.Load) seen e made q) tt,
    refl,
  )
  any k (at.Bit biting.Sleep) seen q = (
    λ e made found. either (λ r. At (at.Bit r) (history_of k ++ e ∷ []))
        (looks_in (state_in call)) biting.Look (biting.Again false) tt tt,
    refl,
  )
  any k (at.Bit biting.Look) seen q = (
    λ e made found. either (λ r. At r (history_of k ++ e ∷ []))
        (pending (state_mask (state_in call)) seen.own && is_lock call) (at.Finish finishing.State true)
        (at.Bit (biting.Again (pending (state_mask (state_in call)) seen.own))) tt tt,
    refl,
  )
  any k (at.Bit (biting.Again failed)) seen q = (
    λ e made found. either (λ r. At r (history_of k ++ e ∷ []))
        (call_fails call seen && not failed) (at.Prepare preparing.Lock) (at.Finish finishing.State failed) tt tt,
    asks_quiet k (at.Bit (biting.Again failed)) seen,
  )
  any k (at.Bit biting.Last) seen q = (λ e made found. tt, refl)
  any k (at.Await (awaiting.Lock waited)) seen q = (
    λ e made found. locks k (at.Await
        (awaiting.Lock waited)) e made,
    refl,
  )
  any k (at.Await (awaiting.Load waited)) seen q =
      (λ e made found. counted k waited seen (seen.value == 0) q e made, refl)
  any k (at.Await (awaiting.Run stopped)) seen q = (λ e made found. tt, refl)
  any k (at.Await (awaiting.Off stopped)) seen q = either (L k (at.Await (awaiting.Off stopped)) seen)
      (is_some seen.entry) _ _ (λ e made found. tt, refl) (ends k (at.Await (awaiting.Off stopped)) seen stopped)
  any k (at.Await (awaiting.Last stopped)) seen q = ends k (at.Await (awaiting.Last stopped)) seen stopped
  any k (at.Await awaiting.Unlock) seen q = (λ e made found. tt, refl)
  any k p seen q = absurd q

  queued_led : IsLed (call_program me 0 call) At
  queued_led = record { still = saw_more x h; leads = any }

left_at : (x h : ℕ) (es : List Step) (call : Call) → is_queued call ≡ true → QueuedAt x h (sleep_point call) es
    → LeftQueued x h es
left_at x h es (calls.Wait i how) t q = q
left_at x h es (calls.SimpleWait i st) t q = q
left_at x h es (calls.WaitFor d st) t q = q
left_at x h es (calls.WaitBit w n st) t q = q
left_at x h es (calls.LockBit w n st) t q = q
left_at x h es (calls.WaitVar i old st) t q = q
left_at x h es call t q = absurd (cc)

at_left : (x h : ℕ) (es : List Step) (call : Call) → is_queued call ≡ true → LeftQueued x h es
    → QueuedAt x h (sleep_point call) es
at_left x h es (calls.Wait i how) t q = q
at_left x h es (calls.SimpleWait i st) t q = q
at_left x h es (calls.WaitFor d st) t q = q
at_left x h es (calls.WaitBit w n st) t q = q
at_left x h es (calls.LockBit w n st) t q = q
at_left x h es (calls.WaitVar i old st) t q = q
at_left x h es call t q = absurd (cc)

both_true : (call : Call) → is_waiting call ≡ true → is_page_lock call ≡ false → is_queued call ≡ true
both_true call wait page = rw (wait, page) refl

-- the sleep itself is mild
slept_left : (x h : ℕ) (call : Call) (me : ℕ) (k : Known) (seen : Seen) (s : StepOrLook) → is_queued call ≡ true
    → IsMadeFor k (Some x) (given_at call (sleep_point call)) (program me call (sleep_point call) seen).event s
    → LeftQueued x h (history_of k) → LeftQueued x h (history_of (after_step_or_look s k))
slept_left x h call me k seen s is made q = by s (subst
    (λ (v : Event). IsMadeFor k (Some x) (given_at call (sleep_point call)) v s) (sleep_by me call seen).1 made)
  where
    on : (e : Step) → IsStepFor k (Some x) (given_at call (sleep_point call)) (event.Sleep (sleep_by me call seen).0) e
        → LeftQueued x h (history_of k ++ e ∷ [])
    on (step.Sleep w) made = left_more x h (history_of k) (step.Sleep w) refl q
    on e made = absurd made

    by : (s : StepOrLook)
        → IsMadeFor k (Some x) (given_at call (sleep_point call)) (event.Sleep (sleep_by me call seen).0) s
        → LeftQueued x h (history_of (after_step_or_look s k))
    by (by_step e) made = subst (LeftQueued x h) (sym (step_history k e)) (on e made)
    by (by_look xs) made = absurd made

pub left_behind : (call : Call) → is_queued call ≡ true → (old new : Known) → EndsAsleep call old new
    → LeftQueued (index old.view.number 0) (head_of (call_watch call)) (history_of new)
left_behind call is old new z = left_at x_at h_at (history_of new) call is last
  where
    x_at : ℕ
    x_at = index old.view.number 0

    h_at : ℕ
    h_at = head_of (call_watch call)

    came : QueuedAt x_at h_at (sleep_point call) (history_of z.came)
    came = run (call_program old.view.number 0 call) (QueuedAt x_at h_at) (queued_led old.view.number call is) z.before
        (next.Go (program_start call)) (sleep_point call) old z.came z.comes
        (goes_on old.view.number call is (history_of old)).0

    knew : QueuedAt x_at h_at (sleep_point call) (history_of z.sleep.knew)
    knew = only_still (call_program old.view.number 0 call) (QueuedAt x_at h_at) (queued_led old.view.number call is)
        (sleep_point call) z.came z.sleep.knew z.sleeps.looks came

    behind : LeftQueued x_at h_at (history_of (after_transition z.sleep))
    behind = slept_left x_at h_at call old.view.number z.sleep.knew z.sleep.seen z.sleep.did is z.sleeps.is
        (left_at x_at h_at (history_of z.sleep.knew) call is knew)

    last : QueuedAt x_at h_at (sleep_point call) (history_of new)
    last = only_still (call_program old.view.number 0 call) (QueuedAt x_at h_at) (queued_led old.view.number call is)
        (sleep_point call) (after_transition z.sleep) new z.looked
        (at_left x_at h_at (history_of (after_transition z.sleep)) call is behind)

pub sleepers_are_queued : SleepersAreQueued
sleepers_are_queued xs may takes call wait page old new z history down =
    let left = left_behind call (both_true call wait page) old new z in
    let stands = still_queued old.view.number (index old.view.number 0) (head_of (call_watch call)) left.0
    (own_index old.view.number 0 (omega arith)) xs may takes
    (subst (λ (es : List Step). IsLeftQueued es (index old.view.number 0) (head_of (call_watch call)) left.0)
    (sym history) left.1) down in
    (left.0, stands, (kept_by call old new (has_slept old new call wait z)).steps xs may history down left.0 stands)
