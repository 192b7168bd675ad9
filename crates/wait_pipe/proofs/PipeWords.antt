-- What whole calls on pipes make follows their sentences.
use Rattle.std.proofs.Common.{refl, sym, ◌∙◌, ap, subst, arith}
use Rattle.std.specs.Prelude.{ℕ, zero, suc, ◌≡◌, ◌<◌, ◌≤◌, ◌+◌, ◌/◌, ◌%◌, ◌==◌, ◌&&◌, not, if◌then◌else◌, Bool, true}
use Rattle.std.specs.Prelude.{false, Result, Ok, Err, List, [], ◌∷◌, ◌++◌, length, take}
use Rattle.wait_model.specs.{declared.layout.TheConstants.PIPE_CELLS, declared.calls.Answer.Answer, Programs.signalled}
use Rattle.wait_model.specs.{Programs.zero_answer, Sentences.Follows}
use Rattle.wait_model.specs.declared.calls.Answer.TheVariants as answer
use Rattle.wait_model.specs.declared.calls.Call.TheVariants as calls
use Rattle.wait_model.specs.declared.points.Point.TheVariants as at
use Rattle.wait_model.specs.declared.points.Next.TheVariants as next
use Rattle.wait_model.specs.declared.steps.Step.TheVariants as step
use Rattle.wait_model.specs.declared.tasks.SleepState.TheVariants as state
use Rattle.wait_model.specs.declared.watches.Watch.TheVariants as watch
use Rattle.wait_rule.specs.declared.journal.EndAct.TheVariants as act
use Rattle.wait_rule.specs.declared.journal.Item.TheVariants as item
use Rattle.wait_rule.specs.{declared.journal.Journal.Journal, Aside.Grows, Aside.GrowsAside, Heeding.EndsSignalled}
use Rattle.wait_rule.specs.{Heeding.trail_of, Known.Known, PipeSays.KeepsEnd, PipeSays.end_at, Transitions.call_program}
use Rattle.wait_rule.specs.Pipes.{End, after_end_look, end_word, if_unclosed, no_end, other_end, word_counts}
use Rattle.wait_rule.specs.Says.{MeetsLaw, added, grown}
use Rattle.wait_rule.proofs.{KnownLaws.AsideCalls.aside_join, KnownLaws.AsideCalls.calls_grow_aside}
use Rattle.wait_rule.proofs.{KnownLaws.CarriedEnds.programs_keep_ends, KnownLaws.PipeItems.end_append}
use Rattle.wait_rule.proofs.{SaidEvents.FollowedRuns.runs_follow, SaidEvents.Fronts.number_stays}
use Rattle.wait_rule.proofs.{KnownLaws.Transitions.grown_more, KnownLaws.Transitions.grown_none}
use Rattle.wait_event.specs.{declared.wait_events.WaitEnd.WaitEnd, Words.call_says}
use Rattle.wait_event.specs.declared.wait_events.WaitEnd.TheVariants as wait_end
use Rattle.var_wait.specs.VarWaits.{EndsVarWait, answer_of_var_end}
use Rattle.var_wait.proofs.VarWords.{publishes_follow, var_waits_heed}
use Rattle.wait_pipe.specs.{declared.pieces.PipeEnd.PipeEnd, Pieces.end_of_wait}
use Rattle.wait_pipe.specs.Trails.{LooksOver, PassesCells, ReadEnds, WaitingTurn, WaitingTurns, WriteEnds, cell_items}
use Rattle.wait_pipe.specs.PipeWords.{ClosesFollow, Deed, LastReads, LastWrites, PeeksFollow, ReadsFollow, TurnPasses}
use Rattle.wait_pipe.specs.PipeWords.{TurnWaits, TurnsHeed, TurnsWait, WritesFollow, all_cells, all_events, loads_other}
use Rattle.wait_pipe.specs.PipeWords.{read_said, turn_said, turns_said, wait_answer, write_said}
use Rattle.wait_pipe.specs.declared.pieces.PipeEnd.TheVariants as pipe_end
use Rattle.wait_pipe.proofs.Asides.{quiet_cell, quiet_load, quiet_none}
use Rattle.wait_pipe.proofs.Looking.{none_kept, other_apart}
use Rattle.wait_event.proofs.Changes.{keeps_join, keeps_same}

-- The list grows over a look and over a turn that waits.
looked_aside : (k w : ℕ) (old looked : Known) → looked ≡ added old (item.Made (step.Load (watch.Var (other_end k) 0) w))
    → GrowsAside old looked
looked_aside k w old looked is = subst (GrowsAside old) (sym is) (quiet_load old (other_end k) 0 w).aside

turn_aside : (k : ℕ) (old new : Known) (r : Result (Unit {0}) PipeEnd) → WaitingTurn k old new r → GrowsAside old new
turn_aside k old new r t = aside_join old t.looked new (looked_aside k t.word old t.looked t.looks)
    (calls_grow_aside t.looked.view.number 0 (calls.WaitVar (other_end k) t.word state.Interruptible) t.looked new
    (next.Go at.First) (next.Ends (answer_of_var_end t.waits.outcome)) t.waits.waits.runs.transitions tt (λ q. cc)
    t.waits.waits.runs.goes)

turns_aside : (k : ℕ) (old : Known) (ts : List Known) (new : Known) → WaitingTurns k old ts new → GrowsAside old new
turns_aside k old [] new w = subst (GrowsAside old) (sym w) (quiet_none old).aside
turns_aside k old (t ∷ ts) new w = aside_join old t new (turn_aside k old t (Ok tt) w.0) (turns_aside k t ts new w.1)

-- The end stays over them, but for what was seen.
if_keeps : (b : Bool) (r : ℕ) (e : End) → KeepsEnd e (if b then if_unclosed (after_end_look r) e else e)
if_keeps false r e = keeps_same refl
if_keeps true r e = by (e.mine && not e.shut)
  where
    by : (b : Bool) → KeepsEnd e (if b then after_end_look r e else e)
    by true = record { mine = refl; shut = refl; count = refl; before = refl; cells = refl }
    by false = keeps_same refl

looked_keeps : (k w : ℕ) (old looked : Known) → looked ≡ added old (item.Made (step.Load (watch.Var (other_end k) 0) w))
    → KeepsEnd (end_at k old) (end_at k looked)
looked_keeps k w old looked is = subst (KeepsEnd (end_at k old)) (sym (ap (end_at k) is
    ∙ end_append k no_end old.view.items (item.Made (step.Load (watch.Var (other_end k) 0) w) ∷ [])))
    (if_keeps (other_end k == other_end k) w (end_at k old))

turn_keeps : (k : ℕ) (old new : Known) (r : Result (Unit {0}) PipeEnd) → WaitingTurn k old new r
    → KeepsEnd (end_at k old) (end_at k new)
turn_keeps k old new r t =
    let kept = programs_keep_ends (call_program t.looked.view.number 0
    (calls.WaitVar (other_end k) t.word state.Interruptible)) (other_end k) (λ p. (t.word, refl)) t.looked
    (next.Go at.First) t.waits.waits.runs.transitions new (next.Ends (answer_of_var_end t.waits.outcome))
    t.waits.waits.runs.goes in
    keeps_join (looked_keeps k t.word old t.looked t.looks)
    (kept.keeps k (λ q. other_apart k (sym q)))

turns_keep : (k : ℕ) (old : Known) (ts : List Known) (new : Known) → WaitingTurns k old ts new
    → KeepsEnd (end_at k old) (end_at k new)
turns_keep k old [] new w = subst (λ (j : Known). KeepsEnd (end_at k old) (end_at k j)) (sym w) (keeps_same refl)
turns_keep k old (t ∷ ts) new w = keeps_join (turn_keeps k old t (Ok tt) w.0)
    (turns_keep k t ts new w.1)

keeps_back : (e f : End) → KeepsEnd e f → KeepsEnd f e
keeps_back e f k = record {
  mine = sym k.mine;
  shut = sym k.shut;
  count = sym k.count;
  before = sym k.before;
  cells = sym k.cells;
}

-- What a wait answers.
ok_answers : (outcome : Result ℕ WaitEnd) → Ok tt ≡ end_of_wait outcome → answer_of_var_end outcome ≡ zero_answer
ok_answers (Ok value) is = refl
ok_answers (Err (wait_end.Signal seen selected)) is = absurd (cc)
ok_answers (Err (wait_end.Worn head place)) is = absurd (cc)

err_answers : (e : PipeEnd) (outcome : Result ℕ WaitEnd) → Err e ≡ end_of_wait outcome
    → answer_of_var_end outcome ≡ wait_answer e
err_answers e (Ok value) is = absurd (cc)
err_answers e (Err (wait_end.Signal seen selected)) is =
    let same : pipe_end.Interrupted seen ≡ e = cc in ap wait_answer same
err_answers e (Err (wait_end.Worn head place)) is =
    let same : pipe_end.Worn head place ≡ e = cc in ap wait_answer same

-- With the table that the task sees after the call.
module _ (new : Known) (law : MeetsLaw new.view) where
  list_at : (mid : Known) (g : Grows mid new) → law.items mid.view.number ≡ mid.view.items ++ g.items
  list_at mid g = subst (λ (v : Journal). law.items v.number ≡ v.items) g.view law.own

  turn_follows : (k : ℕ) (own : End) (old mid : Known) (r : Result (Unit {0}) PipeEnd) (t : WaitingTurn k old mid r)
      → Grows mid new → KeepsEnd own (end_at k old)
      → TurnWaits t.looked.view.number k own (answer_of_var_end t.waits.outcome) (turn_said k old mid r t)
  turn_follows k own old mid r t g keeps =
      let looked = t.looked in
      let runs = t.waits.waits.runs in record {
        word = t.word;
        none = none_kept k t.word (end_at k looked) own (keeps_back own (end_at k looked) (keeps_join keeps (looked_keeps k t.word old looked t.looks))) t.waits.none;
        waited = call_says looked.view.number (calls.WaitVar (other_end k) t.word state.Interruptible)
            runs.transitions;
        follows = runs_follow law.table law.items law.ruled (calls.WaitVar (other_end k) t.word state.Interruptible) 0
            looked mid (answer_of_var_end t.waits.outcome) g.items
            (subst (λ (n : ℕ). law.items n ≡ mid.view.items ++ g.items) (number_stays
            (call_program looked.view.number 0 (calls.WaitVar (other_end k) t.word state.Interruptible)) looked mid
            (next.Go at.First) (next.Ends (answer_of_var_end t.waits.outcome)) runs.transitions runs.goes) (list_at mid g))
            (omega arith) refl refl (λ _. t.waits.out) (record { transitions = runs.transitions; goes = runs.goes });
        is = refl;
      }

  -- by the task's number and the answer that the call gives
  turn_by : (me k : ℕ) (own : End) (old mid : Known) (r : Result (Unit {0}) PipeEnd) (a : Answer)
      (t : WaitingTurn k old mid r) → Grows mid new → KeepsEnd own (end_at k old) → old.view.number ≡ me
      → answer_of_var_end t.waits.outcome ≡ a → TurnWaits me k own a (turn_said k old mid r t)
  turn_by me k own old mid r a t g keeps number answers =
      subst (λ (n : ℕ). TurnWaits n k own a (turn_said k old mid r t))
      (ap (λ (j : Known). j.view.number) t.looks ∙ number)
      (subst (λ (b : Answer). TurnWaits t.looked.view.number k own b (turn_said k old mid r t)) answers
      (turn_follows k own old mid r t g keeps))

  turns_follow : (me k : ℕ) (own : End) (old : Known) (ts : List Known) (last : Known) (w : WaitingTurns k old ts last)
      → GrowsAside last new → KeepsEnd own (end_at k old) → old.view.number ≡ me
      → TurnsWait me k own (turns_said k old ts last w)
  turns_follow me k own old [] last w g keeps number = tt
  turns_follow me k own old (t ∷ ts) last w g keeps number = (
    turn_by me k own old t (Ok tt) zero_answer w.0
        (aside_join t last new (turns_aside k t ts last w.1) g).grows keeps number
        (ok_answers w.0.waits.outcome w.0.waits.answers),
    turns_follow me k own t ts last w.1 g
        (keeps_join keeps (turn_keeps k old t (Ok tt) w.0))
        (ap (λ (v : Journal). v.number) (turn_aside k old t (Ok tt) w.0).grows.view ∙ number),
  )

  -- cells that are passed on end the call
  abbrev value_with : ℕ → List ℕ → ℕ
  value_with n cells = end_word (n + length cells) false

  abbrev passes_said : (k : ℕ) (old looked : Known) (text : List ℕ) → LooksOver k old looked
      → PassesCells k looked new text → List Deed
  passes_said k old looked text l p = loads_other k l.word ∷ (all_cells p.cells ++ all_events
      (call_says looked.view.number (calls.SetVar k (value_with (end_at k looked).count p.cells))
      p.publishes.runs.transitions))

  passed_follow : (k : ℕ) (looked : Known) (text : List ℕ) (p : PassesCells k looked new text)
      → Follows looked.view.number (calls.SetVar k (value_with (end_at k looked).count p.cells))
      (call_says looked.view.number (calls.SetVar k (value_with (end_at k looked).count p.cells))
      p.publishes.runs.transitions) (answer.Walk p.publishes.real)
  passed_follow k looked text p = publishes_follow _ new k (value_with (end_at k looked).count p.cells) p.walked law
      p.publishes

  abbrev passes_by : (me k : ℕ) (own : End) (old looked : Known) (text : List ℕ) (l : LooksOver k old looked)
      (p : PassesCells k looked new text) → (end_at k looked).count ≡ own.count → old.view.number ≡ me
      → TurnPasses me k own text (passes_said k old looked text l p)
  passes_by me k own old looked text l p count number = record {
    word = l.word;
    seen = (end_at k looked).seen;
    shown = l.shown;
    cells = p.cells;
    bytes = p.bytes;
    walked = p.publishes.real;
    woken = call_says looked.view.number (calls.SetVar k (value_with (end_at k looked).count p.cells))
        p.publishes.runs.transitions;
    follows = subst (λ (n : ℕ). Follows n (calls.SetVar k (value_with own.count p.cells))
        (call_says looked.view.number (calls.SetVar k (value_with (end_at k looked).count p.cells))
        p.publishes.runs.transitions) (answer.Walk p.publishes.real))
        (ap (λ (j : Known). j.view.number) l.loads ∙ number)
        (subst (λ (n : ℕ). Follows looked.view.number (calls.SetVar k (value_with n p.cells))
        (call_says looked.view.number (calls.SetVar k (value_with (end_at k looked).count p.cells))
        p.publishes.runs.transitions) (answer.Walk p.publishes.real)) count (passed_follow k looked text p));
    is = refl;
  }

  counted : (k : ℕ) (own : End) (old looked : Known) → LooksOver k old looked → KeepsEnd own (end_at k old)
      → (end_at k looked).count ≡ own.count
  counted k own old looked l keeps = (looked_keeps k l.word old looked l.loads).count ∙ keeps.count

  stays : GrowsAside new new
  stays = (quiet_none new).aside

  -- the last turn
  last_writes : (me k : ℕ) (own : End) (old : Known) (text : List ℕ) (r : Result ℕ PipeEnd)
      (e : WriteEnds k old new text r) → KeepsEnd own (end_at k old) → old.view.number ≡ me
      → LastWrites me k own text r (write_said k old new text r e)
  last_writes me k own old text (Ok n) e keeps number =
      let s = e.stores in
      let count = counted k own old e.looked e.looks keeps in
      let seen_room = s.room in
      let room : own.count + length s.passes.cells ≤ (end_at k e.looked).seen + PIPE_CELLS = omega arith in
      let full : n < length text → own.count + length s.passes.cells ≡ (end_at k e.looked).seen + PIPE_CELLS = λ few.
      let all = s.full few in omega arith in record {
        passes = passes_by me k own old e.looked (take n text) e.looks s.passes count number;
        unended = e.unended;
        some = s.some;
        dense = s.dense;
        room = room;
        full = full;
      }
  last_writes me k own old text (Err pipe_end.Broken) e keeps number = (
    (end_at k new).seen,
    record { word = e.looks.word; shown = e.looks.shown; ended = e.ended; is = refl },
  )
  last_writes me k own old text (Err (pipe_end.Interrupted seen)) t keeps number =
      turn_by me k own old new (Err (pipe_end.Interrupted seen)) signalled t stays.grows keeps number
      (err_answers (pipe_end.Interrupted seen) t.waits.outcome t.waits.answers)
  last_writes me k own old text (Err (pipe_end.Worn head place)) t keeps number =
      turn_by me k own old new (Err (pipe_end.Worn head place)) answer.Worn t stays.grows keeps number
      (err_answers (pipe_end.Worn head place) t.waits.outcome t.waits.answers)

  last_reads : (me k : ℕ) (own : End) (old : Known) (buf : List ℕ) (r : Result ℕ PipeEnd)
      (e : ReadEnds k old new buf r) → KeepsEnd own (end_at k old) → old.view.number ≡ me
      → LastReads me k own buf r (read_said k old new buf r e)
  last_reads me k own old buf (Ok zero) e keeps number =
      let l = e.closed.looks in
      let count = counted k own old new l keeps in record {
        word = l.word;
        shown = l.shown ∙ ap (λ (n : ℕ). n % word_counts) (sym e.all ∙ count);
        ended = e.closed.ended;
        is = refl;
      }
  last_reads me k own old buf (Ok (suc n)) e keeps number =
      let s = e.loads in
      let count = counted k own old e.looked e.looks keeps in
      let seen_there = s.there in
      let there : own.count + length s.passes.cells ≤ (end_at k e.looked).seen = omega arith in
      let all : suc n + 7 ≤ length buf → own.count + length s.passes.cells ≡ (end_at k e.looked).seen = λ room.
      let every = s.all room in omega arith in record {
        passes = passes_by me k own old e.looked (take (suc n) buf) e.looks s.passes count number;
        there = there;
        all = all;
      }
  last_reads me k own old buf (Err e) t keeps number =
      turn_by me k own old new (Err e) (wait_answer e) t stays.grows keeps number
      (err_answers e t.waits.outcome t.waits.answers)

-- Cells grow the list too.
cells_aside : (k : ℕ) (j : Known) (ws : List ℕ) → GrowsAside j (grown j (cell_items k ws) j.book)
cells_aside k j [] = subst (GrowsAside j) (grown_none j) (quiet_none j).aside
cells_aside k j (w ∷ ws) =
    let one = added j (item.Piped k act.Cell w) in
    aside_join j one (grown j (cell_items k (w ∷ ws)) j.book) (quiet_cell j k w).aside
    (subst (GrowsAside one) (grown_more j (item.Piped k act.Cell w ∷ []) (cell_items k ws) j.book j.book) (cells_aside k one ws))

-- the list grows over the last turn
passed_aside : (k : ℕ) (old looked new : Known) (text : List ℕ) → LooksOver k old looked
    → PassesCells k looked new text → GrowsAside old new
passed_aside k old looked new text l p = aside_join old looked new (looked_aside k l.word old looked l.loads)
    (aside_join looked _ new (cells_aside k looked p.cells)
    (calls_grow_aside looked.view.number 0 (calls.SetVar k _) _ new (next.Go at.Publish)
    (next.Ends (answer.Walk p.publishes.real)) p.publishes.runs.transitions tt (λ q. cc) p.publishes.runs.goes))

last_write_aside : (k : ℕ) (old new : Known) (text : List ℕ) (r : Result ℕ PipeEnd) → WriteEnds k old new text r
    → GrowsAside old new
last_write_aside k old new text (Ok n) e = passed_aside k old e.looked new (take n text) e.looks e.stores.passes
last_write_aside k old new text (Err pipe_end.Broken) e = looked_aside k e.looks.word old new e.looks.loads
last_write_aside k old new text (Err (pipe_end.Interrupted seen)) t =
    turn_aside k old new (Err (pipe_end.Interrupted seen)) t
last_write_aside k old new text (Err (pipe_end.Worn head place)) t =
    turn_aside k old new (Err (pipe_end.Worn head place)) t

last_read_aside : (k : ℕ) (old new : Known) (buf : List ℕ) (r : Result ℕ PipeEnd) → ReadEnds k old new buf r
    → GrowsAside old new
last_read_aside k old new buf (Ok zero) e =
    looked_aside k e.closed.looks.word old new e.closed.looks.loads
last_read_aside k old new buf (Ok (suc n)) e =
    passed_aside k old e.looked new (take (suc n) buf) e.looks e.loads.passes
last_read_aside k old new buf (Err e) t = turn_aside k old new (Err e) t

-- and over those before
number_on : (old new : Known) → GrowsAside old new → new.view.number ≡ old.view.number
number_on old new g = ap (λ (v : Journal). v.number) g.grows.view

pub writes_follow : WritesFollow
writes_follow k old new text r law w =
    let waited = turns_aside k old w.turns w.last w.waits in record {
      turns = turns_said k old w.turns w.last w.waits;
      last = write_said k w.last new text r w.ends;
      waits = turns_follow new law old.view.number k (end_at k old) old w.turns w.last w.waits
          (last_write_aside k w.last new text r w.ends) (keeps_same refl) refl;
      ends = last_writes new law old.view.number k (end_at k old) w.last text r w.ends
          (turns_keep k old w.turns w.last w.waits) (number_on old w.last waited);
      is = refl;
    }

pub reads_follow : ReadsFollow
reads_follow k old new buf r law w =
    let waited = turns_aside k old w.turns w.last w.waits in record {
      turns = turns_said k old w.turns w.last w.waits;
      last = read_said k w.last new buf r w.ends;
      waits = turns_follow new law old.view.number k (end_at k old) old w.turns w.last w.waits
          (last_read_aside k w.last new buf r w.ends) (keeps_same refl) refl;
      ends = last_reads new law old.view.number k (end_at k old) w.last buf r w.ends
          (turns_keep k old w.turns w.last w.waits) (number_on old w.last waited);
      is = refl;
    }

-- the count of cells that a look told is one behind the own count, which stays
pub peeks_follow : PeeksFollow
peeks_follow k old new s e =
    let kept = (looked_keeps k e.looks.word old new e.looks.loads).count in
    let cells = e.cells in
    let count : (end_at k new).seen ≡ (end_at k old).count + s.cells = omega arith in record {
      shown = ap (λ (w : ℕ). w / 2 % word_counts) e.word
          ∙ (e.looks.shown ∙ ap (λ (n : ℕ). n % word_counts) count);
      room = e.room;
      closed = e.closed ∙ ap (λ (w : ℕ). w % 2 == 1) (sym e.word);
      is = ap (λ (w : ℕ). loads_other k w ∷ []) (sym e.word);
    }

pub closes_follow : ClosesFollow
closes_follow k old new law c = publishes_follow old new k (end_word (end_at k old).count true) c.0 law c.1

pub turns_heed : TurnsHeed
turns_heed k seen old new t = by t.waits.outcome t.waits.answers t.waits.waits
  where
    by : (outcome : Result ℕ WaitEnd) → Err (pipe_end.Interrupted seen) ≡ end_of_wait outcome
        → (w : EndsVarWait t.looked new (other_end k) t.word state.Interruptible outcome)
        → EndsSignalled t.looked.view.number (calls.WaitVar (other_end k) t.word state.Interruptible)
        (trail_of [] (call_says t.looked.view.number (calls.WaitVar (other_end k) t.word state.Interruptible) w.runs.transitions))
    by (Ok value) is w = absurd (cc)
    by (Err (wait_end.Signal found selected)) is w = var_waits_heed t.looked new (other_end k) t.word
        state.Interruptible (wait_end.Signal found selected) w refl
    by (Err (wait_end.Worn head place)) is w = absurd (cc)
