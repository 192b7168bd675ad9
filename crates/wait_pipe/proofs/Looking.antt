-- A look at the other end of a pipe, and a wait for it.
use Rattle.std.proofs.Common.{refl, sym, ◌∙◌, ap, subst, arith}
use Rattle.std.specs.Prelude.{ℕ, ◌≡◌, ◌≢◌, ◌+◌, ◌-◌, ◌*◌, ◌/◌, ◌%◌, ◌<◌, ◌==◌, ◌&&◌, not, if◌then◌else◌, Bool, true}
use Rattle.std.specs.Prelude.{false, None, Result, Ok, Err, IfErr, List, [], ◌∷◌}
use Rattle.std.proofs.lemmas.Bool.Decides.{nat_tests}
use mathlib.Core.Logic.{dite}
use native.Mathlib.Decide.{ℕ_discrete}
use Rattle.wait_model.specs.declared.layout.TheConstants.{PIPE_ENDS}
use Rattle.wait_model.specs.declared.calls.Call.TheVariants as calls
use Rattle.wait_model.specs.declared.points.Point.TheVariants as at
use Rattle.wait_model.specs.declared.points.Next.TheVariants as next
use Rattle.wait_model.specs.declared.tasks.SleepState.{SleepState}
use Rattle.wait_model.specs.declared.tasks.SleepState.TheVariants as state
use Rattle.wait_model.specs.declared.steps.Step.TheVariants as step
use Rattle.wait_model.specs.declared.watches.Watch.TheVariants as watch
use Rattle.wait_rule.specs.{declared.journal.Item.Item, Known.Known, Stays.Carries, Stays.unchanged}
use Rattle.wait_rule.specs.{Transitions.call_program, Transitions.Transition}
use Rattle.wait_rule.specs.Pipes.{End, after_end_look, count_on, end_item, end_word, if_unclosed, no_end, other_end}
use Rattle.wait_rule.specs.Pipes.{read_end, word_counts, write_end}
use Rattle.wait_rule.specs.PipeSays.{EndsKept, IsOpen, IsSoundEnd, KeepsEnd, end_at}
use Rattle.wait_rule.specs.Queues.{IsIdle, index}
use Rattle.wait_rule.specs.Says.{IsFree, IsUp, added, told_of}
use Rattle.wait_rule.specs.declared.journal.Item.TheVariants as item
use Rattle.wait_rule.proofs.KnownLaws.PipeWords.{test_off, test_on}
use Rattle.wait_rule.proofs.KnownLaws.PipeItems.{end_append, other_r, other_w}
use Rattle.wait_rule.proofs.KnownLaws.CarriedEnds.{programs_keep_ends}
use Rattle.wait_class.specs.Posts.{IsOut}
use Rattle.wait_event.specs.{Waits.has_queued_in, declared.wait_events.WaitEnd.WaitEnd}
use Rattle.wait_event.specs.Ends.{IsEndCause, WasSignalled, wait_change}
use Rattle.wait_event.specs.declared.wait_events.WaitEnd.TheVariants as wait_end
use Rattle.var_wait.specs.VarWaits.{EndsVarWait, IsVarCause, answer_of_var_end, shared_in}
use Rattle.wait_pipe.specs.{PipeStates.OnlyLooked, Trails.LoadsOther}
use Rattle.wait_pipe.specs.{declared.looks.Look.Look}
use Rattle.wait_pipe.specs.Pieces.{HasSeen, IsReadCause, OtherPipesStay, LeavesAside, ShowsNoCell, WaitsAtPipe}
use Rattle.wait_pipe.specs.Pieces.{end_of_wait}
use Rattle.wait_pipe.proofs.Asides.{quiet_load, waited_quiet}
use Rattle.wait_pipe.proofs.PieceChanges.{free_still, idle_still, of_wait, out_still, settled_still}

-- the number of the other end of end e of pipe p
pub other_is : (p e : ℕ) → e < PIPE_ENDS → PIPE_ENDS * p + (1 - e) ≡ other_end (PIPE_ENDS * p + e)
other_is p e few = dite (ℕ_discrete e 0)
    (λ (z : e ≡ 0). (let a : PIPE_ENDS * p + (1 - e) ≡ read_end p = omega arith in a)
    ∙ sym (ap other_end (let b : PIPE_ENDS * p + e ≡ write_end p = omega arith in b) ∙ other_w p))
    (λ (n : e ≢ 0). (let a : PIPE_ENDS * p + (1 - e) ≡ write_end p = omega (arith, n) in a)
    ∙ sym (ap other_end (let b : PIPE_ENDS * p + e ≡ read_end p = omega (arith, n) in b) ∙ other_r p))

pub pipe_is : (p e : ℕ) → e < PIPE_ENDS
    → (PIPE_ENDS * p + (1 - e)) / PIPE_ENDS ≡ (PIPE_ENDS * p + e) / PIPE_ENDS
pipe_is p e few = omega arith

-- and of the other end of end k
pub other_apart : (k : ℕ) → other_end k ≢ k
other_apart k = by (k % PIPE_ENDS == 0) refl
  where
    by : (b : Bool) → (k % PIPE_ENDS == 0) ≡ b → (if b then k + 1 else k - 1) ≢ k
    by true even same = absurd (omega arith)
    by false uneven same = let high : k % PIPE_ENDS ≢ 0 = grind (arith, nat_tests) in absurd (omega (arith, high))

pub other_pipe : (k : ℕ) → other_end k / PIPE_ENDS ≡ k / PIPE_ENDS
other_pipe k = by (k % PIPE_ENDS == 0) refl
  where
    by : (b : Bool) → (k % PIPE_ENDS == 0) ≡ b → (if b then k + 1 else k - 1) / PIPE_ENDS ≡ k / PIPE_ENDS
    by true even = let low : k % PIPE_ENDS ≡ 0 = grind (arith, nat_tests) in omega arith
    by false uneven = let high : k % PIPE_ENDS ≢ 0 = grind (arith, nat_tests) in omega (arith, high)

module _ (k v r : ℕ) (old new : Known) (other : v ≡ other_end k) (pipe : v / PIPE_ENDS ≡ k / PIPE_ENDS)
    (is : new ≡ added old (item.Made (step.Load (watch.Var v 0) r))) where
  abbrev x : Item
  x = item.Made (step.Load (watch.Var v 0) r)

  loaded_end : (j : ℕ) → end_at j new ≡ end_item j x (end_at j old)
  loaded_end j = ap (end_at j) is ∙ end_append j no_end old.view.items (x ∷ [])

  pub loaded_own : IsOpen (end_at k old) → end_at k new ≡ after_end_look r (end_at k old)
  loaded_own still = loaded_end k
      ∙ (ap (λ (b : Bool). if b then if_unclosed (after_end_look r) (end_at k old) else end_at k old)
      (test_on v (other_end k) other)
      ∙ ap (λ (b : Bool). if b then after_end_look r (end_at k old) else end_at k old)
      (ap (λ (b : Bool). b && not (end_at k old).shut) still.mine ∙ ap not still.unshut))

  -- the other end's word tells the task of its own end alone
  loaded_others : OtherPipesStay k old new
  loaded_others j ne = loaded_end j
      ∙ ap (λ (b : Bool). if b then if_unclosed (after_end_look r) (end_at j old) else end_at j old)
      (test_off v (other_end j) (λ q. ne (sym (sym pipe ∙ (ap (λ (i : ℕ). i / PIPE_ENDS) q ∙ other_pipe j)))))

  pub look_only : IsOpen (end_at k old) → IsUp old → IsFree old → Carries unchanged old new → OnlyLooked k old new
  look_only still up free carries =
      let kept : KeepsEnd (end_at k old) (end_at k new) = subst (KeepsEnd (end_at k old)) (sym (loaded_own still))
      (record { mine = refl; shut = refl; count = refl; before = refl; cells = refl }) in
      let quiet = subst (LeavesAside old) (sym is) (quiet_load old v 0 r) in record {
        up = carries.awake ∙ up;
        free = free_still carries free;
        idle = idle_still carries;
        out = out_still carries;
        others = loaded_others;
        keeps = kept;
        settled = settled_still (end_at k old) (end_at k new) kept;
        carries = carries;
        aside = quiet.aside;
        off = quiet.off;
      }

  pub look_seen : IsOpen (end_at k old) → (l : Look) (own : ℕ) → own ≡ end_word (end_at k new).count (end_at k new).shut
      → IsSoundEnd k (end_at k new) → l.own ≡ own / 2 → l.other ≡ r / 2 % word_counts → l.word ≡ r
      → l.closed ≡ (r % 2 == 1) → HasSeen k new l
  look_seen still l own word sound own_is other_is word_is closed_is =
      let made = loaded_own still in
      let shut : (end_at k new).shut ≡ false = ap (λ (e : End). e.shut) made ∙ still.unshut in
      let clear : own ≡ end_word (end_at k new).count false = word ∙ ap (end_word (end_at k new).count) shut in
      let seen : (end_at k new).seen ≡ count_on (end_at k old).seen r = ap (λ (e : End). e.seen) made in record {
        own = omega arith;
        other = omega arith;
        sound = sound;
        ended = ap (λ (e : End). e.ended) made ∙ sym closed_is;
        shows = other_is ∙ ap (λ (w : ℕ). w / 2 % word_counts) (sym word_is);
        closes = closed_is ∙ ap (λ (w : ℕ). w % 2 == 1) (sym word_is);
      }

  pub look_loads : (w : ℕ) → w ≡ r → LoadsOther k w old new
  look_loads w word_is = is ∙ (ap (λ (u : ℕ). added old (item.Made (step.Load (watch.Var u 0) r))) other
      ∙ ap (λ (s : ℕ). added old (item.Made (step.Load (watch.Var (other_end k) 0) s))) (sym word_is))

-- a wait for the other end's word
pub waits_by : {k v : ℕ} {old new : Known} → v ≢ k → v / PIPE_ENDS ≡ k / PIPE_ENDS → EndsKept v old new
    → LeavesAside old new → IsUp new → IsIdle new → IsOut new
    → Carries (wait_change (index old.view.number 0) new.at) old new → WaitsAtPipe k old new
waits_by {k = k} {old = old} {new = new} apart pipe kept quiet up idle out carries = record {
  others = λ j ne. kept.others j (λ q. ne (q ∙ pipe));
  keeps = kept.keeps k (λ q. apart (sym q));
  rests = record {
    up = up;
    idle = idle;
    out = out;
    carries = of_wait k (index old.view.number 0) old new carries;
    aside = quiet.aside;
    off = quiet.off;
  };
}

pub wait_waits : (k v word : ℕ) (st : SleepState) (old new : Known) (result : Result ℕ WaitEnd) → v ≢ k
    → v / PIPE_ENDS ≡ k / PIPE_ENDS → EndsVarWait old new v word st result → (told_of old).hold.head ≡ None → IsUp new
    → IsIdle new → IsOut new → Carries (wait_change (index old.view.number 0) new.at) old new → WaitsAtPipe k old new
wait_waits k v word st old new result apart pipe w free up idle out carries = waits_by apart pipe
    (programs_keep_ends (call_program old.view.number 0 (calls.WaitVar v word st)) v (λ p. (word, refl)) old
    (next.Go at.First) w.runs.transitions new (next.Ends (answer_of_var_end result)) w.runs.goes)
    (waited_quiet v word st old new result free w) up idle out carries

-- and why it ended, if it gave nothing
interrupted : (k : Known) (v word seen : ℕ) (selected queued : Bool)
    → WasSignalled k (watch.Var v word) (shared_in state.Interruptible) seen selected queued
    → WasSignalled k (watch.Var v seen) (shared_in state.Interruptible) seen selected queued
interrupted k v word seen selected queued w =
    subst (λ (o : ℕ). WasSignalled k (watch.Var v o) (shared_in state.Interruptible) seen selected queued)
    (sym w.unset) w

pub end_cause : (k : ℕ) (new : Known) (word : ℕ) (queued : Bool) (e : WaitEnd)
    → IsEndCause new (watch.Var (other_end k) word) (shared_in state.Interruptible) queued e
    → ShowsNoCell k (end_at k new) word → IfErr (end_of_wait (Err e)) (IsReadCause k new)
end_cause k new word queued (wait_end.Signal seen selected) c none = record {
  selected = selected;
  queued = queued;
  ends = interrupted new (other_end k) word seen selected queued c;
  none = subst (ShowsNoCell k (end_at k new)) (sym c.unset) none;
}
end_cause k new word queued (wait_end.Worn head place) c none = record { before = word; ends = c; none = none }

cause_at : (k : ℕ) (new : Known) (word : ℕ) (ts : List Transition) (result : Result ℕ WaitEnd)
    → IsVarCause new (other_end k) word state.Interruptible ts result → ShowsNoCell k (end_at k new) word
    → IfErr (end_of_wait result) (IsReadCause k new)
cause_at k new word ts (Ok value) c none = tt
cause_at k new word ts (Err e) c none = end_cause k new word (has_queued_in ts) e c none

-- what its word showed, it shows beside the end as the wait left it
pub none_kept : (k w : ℕ) (e f : End) → KeepsEnd e f → ShowsNoCell k e w → ShowsNoCell k f w
none_kept k w e f keeps none = record {
  unended = none.unended;
  count = none.count;
  shown = none.shown;
  full = λ write. keeps.count ∙ none.full write;
  empty = λ read. keeps.count ∙ none.empty read;
}

pub wait_caused : (k v word : ℕ) (old new : Known) (result : Result ℕ WaitEnd) → v ≡ other_end k
    → EndsVarWait old new v word state.Interruptible result → WaitsAtPipe k old new → ShowsNoCell k (end_at k old) word
    → IfErr (end_of_wait result) (IsReadCause k new)
wait_caused k v word old new result is w waits none = cause_at k new word w.runs.transitions result
    (subst (λ (u : ℕ). IsVarCause new u word state.Interruptible w.runs.transitions result) is w.cause)
    (none_kept k word (end_at k old) (end_at k new) waits.keeps none)
