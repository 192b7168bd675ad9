-- Where a worker's program takes a fatal signal: no call of it takes one, but a take of the own ones, and that ends it.
use Rattle.std.proofs.Common.{refl, sym, ◌∙◌, ap, subst, arith}
use Rattle.std.specs.Prelude.{ℕ, zero, suc, ◌≡◌, ◌≢◌, ◌+◌, true, false, Option, Some, Result, Ok, Err, List, [], ◌∷◌, length}
use Rattle.wait_model.specs.{declared.calls.Call.Call, declared.calls.Event.Event, declared.points.Given.Given}
use Rattle.wait_model.specs.{declared.points.Next.Next, declared.steps.Step.Step, SignalCounts.takes_fatal}
use Rattle.wait_model.specs.Totals.{total}
use Rattle.wait_model.specs.declared.calls.Call.TheVariants as calls
use Rattle.wait_model.specs.declared.calls.Event.TheVariants as event
use Rattle.wait_model.specs.declared.points.Next.TheVariants as next
use Rattle.wait_model.specs.declared.points.Point.TheVariants as at
use Rattle.wait_model.specs.declared.steps.Step.TheVariants as step
use Rattle.wait_model.specs.declared.tasks.SleepState.TheVariants as state
use Rattle.wait_model.specs.declared.watches.Watch.TheVariants as watch
use Rattle.wait_rule.specs.declared.journal.EndAct.TheVariants as act
use Rattle.wait_rule.specs.{declared.journal.Item.Item, declared.journal.Journal.Journal, Aside.Raised, Items.steps_of}
use Rattle.wait_rule.specs.{Journals.pushed, Known.Known}
use Rattle.wait_rule.specs.Pipes.{other_end, read_end, write_end}
use Rattle.wait_rule.specs.Says.{added, grown, history_of}
use Rattle.wait_rule.specs.Transitions.{AreLooks, AreScansOf, Goes, IsMadeFor, IsStepFor, OnlyLooks, Program}
use Rattle.wait_rule.specs.Transitions.{StepOrLook, Transition, after_step_or_look, after_transition, by_look, by_step}
use Rattle.wait_rule.specs.Transitions.{call_program, with_lock}
use Rattle.wait_rule.specs.declared.journal.Item.TheVariants as item
use Rattle.wait_rule.proofs.KnownLaws.SilentCalls.{GoesBeside, TakesNone, goes_beside, program_spared}
use Rattle.wait_rule.proofs.TableSteps.ItemLists.{steps_append}
use Rattle.wait_event.proofs.LookedSteps.{looks_all}
use Rattle.completion_cell.specs.Completes.{HasCompleted}
use Rattle.page_lock.specs.PageEnds.{EndsPageLock}
use Rattle.bit_wait.specs.declared.wait_calls.BitEnd.{BitEnd}
use Rattle.wait_pipe.specs.declared.pieces.PipeEnd.{PipeEnd}
use Rattle.wait_pipe.specs.declared.pieces.PipeEnd.TheVariants as pipe_end
use Rattle.wait_pipe.specs.Trails.{ClosesEnd, LoadsOther, PassesCells, ReadEnds, ReadsPiece, WaitingTurn, WaitingTurns}
use Rattle.wait_pipe.specs.Trails.{WriteEnds, WritesPiece, cell_items}
use Rattle.copy_plan.specs.{declared.plan.Planned.Planned, declared.stop.Halt.Halt, declared.stop.Stop.Stop}
use Rattle.copy_plan.specs.declared.TheConstants.{COUNTED_PAGE, ENDED_CELL, SINK_PIPE, SOURCE_PIPE}
use Rattle.copy_plan.specs.declared.stop.Halt.TheVariants as halt
use Rattle.copy_plan.specs.declared.stop.Stop.TheVariants as stop
use Rattle.copy_turns.specs.Transfers.{Again, GetsPiece, Heard, InterruptedRead, InterruptedWrite, LastPuts, Puts, PutsWhole, SendsEach, all_left, heard_again, no_part, one_more, took_front}
use Rattle.copy_turns.specs.Work.{TookNoKill, TookOwn}
use Rattle.copy_turns.proofs.Frames.{item_spared, own_spares, sent_spared}
use Rattle.copy_turns.proofs.PartLaws.{total_append}
use Rattle.flow_copy.specs.PageWaits.{InterruptedWait, LastWaits, PageWaits}
use Rattle.flow_copy.specs.Workers.{AddsLocked, ByTurns, CountsBytes, GetsAnd, GetterTurn, HandsBytes, ReaderTurn, ReaderWorks, RelaysPiece, RelayWorks, SinksPiece, WriterWorks, a_turn, get_halted, getter_gets, getter_killed, got_piece, no_turn, pipe_ended, put_all, put_halted, reader_hands, reader_killed, reader_refused, reader_works, relay_refused, relay_refused_sink, relay_works, sink_failed, sink_took, sink_wanted, source_ended, source_failed, source_long, stops_by, writer_refused, writer_works}
use Rattle.flow_copy.specs.KilledWorkers.{ClosesBoth, HeedsKills, ReadersHeed, RelaysHeed, WritersHeed}

spared_then : (a b c : Known) → TookNoKill a b → TookNoKill b c → TookNoKill a c
spared_then a b c one two = two ∙ one

spared_same : (a b : Known) → b ≡ a → TookNoKill a b
spared_same a b is = ap (λ (k : Known). total takes_fatal (history_of k)) is

-- more items, none of which takes one
items_spared : (old new : Known) (xs : List Item) → new.view ≡ pushed old.view xs
    → total takes_fatal (steps_of xs) ≡ 0 → TookNoKill old new
items_spared old new xs is none = ap (λ (v : Journal). total takes_fatal (steps_of v.items)) is
    ∙ (ap (total takes_fatal) (steps_append old.view.items xs)
    ∙ (total_append takes_fatal (history_of old) (steps_of xs) ∙ omega (arith, none)))

looks_none : (xs : List Item) → AreLooks xs → total takes_fatal (steps_of xs) ≡ 0
looks_none = looks_all (λ es. total takes_fatal es ≡ 0) refl (λ x w es none. omega (arith, none))

scans_none : (h : ℕ) (xs : List Item) → AreScansOf h xs → total takes_fatal (steps_of xs) ≡ 0
scans_none h [] l = refl
scans_none h (item.Made (step.Scan g i w) ∷ xs) l = let e = scans_none h xs l.1 in omega (arith, e)
scans_none h (x ∷ xs) l = absurd l.0

looks_spared : (old new : Known) → OnlyLooks old new → TookNoKill old new
looks_spared old new l = items_spared old new l.items (ap (λ (k : Known). k.view) l.is) (looks_none l.items l.looks)

lock_view : (e : Step) (k : Known) → (with_lock e k).view ≡ k.view
lock_view (step.Lock h aim w) k = refl
lock_view e k = refl

step_none : (k : Known) (o : Option ℕ) (g : Given) (v : Event) (s : Step) → TakesNone v → IsStepFor k o g v s
    → total takes_fatal (s ∷ []) ≡ 0
step_none k o g (event.Accept x) (step.Accept w) none is = absurd none
step_none k o g v (step.Accept w) none is = absurd is
step_none k o g v s none is = refl

made_spared : (k : Known) (o : Option ℕ) (g : Given) (v : Event) (did : StepOrLook) → TakesNone v
    → IsMadeFor k o g v did → TookNoKill k (after_step_or_look did k)
made_spared k o g v (by_step s) none is = items_spared k (with_lock s (added k (item.Made s))) (item.Made s ∷ [])
    (lock_view s (added k (item.Made s))) (step_none k o g v s none is)
made_spared k o g (event.Active h hit) (by_look xs) none is =
    items_spared k (after_step_or_look (by_look xs) k) xs refl (scans_none h xs is.0)
made_spared k o g v (by_look xs) none is = absurd is

module _ (me slot : ℕ) (call : Call) where
  goes_spared : (old : Known) (n : Next) (ts : List Transition) (new : Known) (m : Next) → GoesBeside n
      → Goes (call_program me slot call) old n ts new m → TookNoKill old new
  goes_spared old n [] new m on goes = looks_spared old new goes.0
  goes_spared old (next.Ends a) (t ∷ ts) new m on goes = absurd goes
  goes_spared old (next.Go p) (t ∷ ts) new m on goes =
      let f : Program = call_program me slot call in
      let q = program_spared me call t.seen p on in
      spared_then old (after_transition t) new
      (spared_then old t.knew (after_transition t) (looks_spared old t.knew goes.0.looks)
      (made_spared t.knew f.own (f.given p) (f.plan p t.seen).event t.did q.0 goes.0.is))
      (goes_spared (after_transition t) (f.plan p t.seen).next ts new m q.1 goes.1)

  pub calls_spared : (old : Known) (from to : Next) (ts : List Transition) (new : Known) → from ≢ next.Go at.Accept
      → Goes (call_program me slot call) old from ts new to → TookNoKill old new
  calls_spared old from to ts new away goes = goes_spared old from ts new to (goes_beside from away) goes

-- calls on pipes
loads_spared : (k w : ℕ) (a b : Known) → LoadsOther k w a b → TookNoKill a b
loads_spared k w a b is = item_spared a b (item.Made (step.Load (watch.Var (other_end k) 0) w)) is refl

turn_spared : (k : ℕ) (a b : Known) (r : Result (Unit {0}) PipeEnd) → WaitingTurn k a b r → TookNoKill a b
turn_spared k a b r t = spared_then a t.looked b (loads_spared k t.word a t.looked t.looks)
    (calls_spared t.looked.view.number 0 (calls.WaitVar (other_end k) t.word state.Interruptible) t.looked _ _
    t.waits.waits.runs.transitions b (λ e. absurd (cc)) t.waits.waits.runs.goes)

turns_spared : (k : ℕ) (a : Known) (ts : List Known) (b : Known) → WaitingTurns k a ts b → TookNoKill a b
turns_spared k a [] b w = spared_same a b w
turns_spared k a (t ∷ ts) b w = spared_then a t b (turn_spared k a t (Ok tt) w.0) (turns_spared k t ts b w.1)

cells_none : (k : ℕ) (ws : List ℕ) → total takes_fatal (steps_of (cell_items k ws)) ≡ 0
cells_none k [] = refl
cells_none k (w ∷ ws) = cells_none k ws

passes_spared : (k : ℕ) (a b : Known) (text : List ℕ) → PassesCells k a b text → TookNoKill a b
passes_spared k a b text p =
    let mid : Known = grown a (cell_items k p.cells) a.book in
    spared_then a mid b (items_spared a mid (cell_items k p.cells) refl (cells_none k p.cells))
    (calls_spared mid.view.number 0 (calls.SetVar k _) mid _ _ p.publishes.runs.transitions b (λ e. absurd (cc))
    p.publishes.runs.goes)

closes_spared : (k : ℕ) (a b : Known) → ClosesEnd k a b → TookNoKill a b
closes_spared k a b c = calls_spared a.view.number 0 (calls.SetVar k _) a _ _ c.1.runs.transitions b
    (λ e. absurd (cc)) c.1.runs.goes

write_ends_spared : (k : ℕ) (a b : Known) (text : List ℕ) (r : Result ℕ PipeEnd) → WriteEnds k a b text r
    → TookNoKill a b
write_ends_spared k a b text (Ok n) e = spared_then a e.looked b
    (loads_spared k e.looks.word a e.looked e.looks.loads) (passes_spared k e.looked b _ e.stores.passes)
write_ends_spared k a b text (Err pipe_end.Broken) e = loads_spared k e.looks.word a b e.looks.loads
write_ends_spared k a b text (Err (pipe_end.Interrupted seen)) e =
    turn_spared k a b (Err (pipe_end.Interrupted seen)) e
write_ends_spared k a b text (Err (pipe_end.Worn h p)) e = turn_spared k a b (Err (pipe_end.Worn h p)) e

read_ends_spared : (k : ℕ) (a b : Known) (buf : List ℕ) (r : Result ℕ PipeEnd) → ReadEnds k a b buf r → TookNoKill a b
read_ends_spared k a b buf (Ok zero) e = loads_spared k e.closed.looks.word a b e.closed.looks.loads
read_ends_spared k a b buf (Ok (suc n)) e = spared_then a e.looked b
    (loads_spared k e.looks.word a e.looked e.looks.loads) (passes_spared k e.looked b _ e.loads.passes)
read_ends_spared k a b buf (Err e) t = turn_spared k a b (Err e) t

writes_spared : (k : ℕ) (a b : Known) (text : List ℕ) (r : Result ℕ PipeEnd) → WritesPiece k a b text r
    → TookNoKill a b
writes_spared k a b text r w = spared_then a w.last b (turns_spared k a w.turns w.last w.waits)
    (write_ends_spared k w.last b text r w.ends)

reads_spared : (k : ℕ) (a b : Known) (buf : List ℕ) (r : Result ℕ PipeEnd) → ReadsPiece k a b buf r → TookNoKill a b
reads_spared k a b buf r w = spared_then a w.last b (turns_spared k a w.turns w.last w.waits)
    (read_ends_spared k w.last b buf r w.ends)

-- no fatal one, and then a take that found one
pub record TakesKill (old new : Known) : Type 0 where
  pub before : Known
  pub spared : TookNoKill old before
  pub own : TookOwn before new true

kill_behind : (a b c : Known) → TookNoKill a b → TakesKill b c → TakesKill a c
kill_behind a b c one two =
    record { before = two.before; spared = spared_then a b two.before one two.spared; own = two.own }

module _ (Ended : Known → Known → Type 0) (spares : (a b : Known) → Ended a b → TookNoKill a b) where
  heard_spared : (a b : Known) → Heard Ended a b false → TookNoKill a b
  heard_spared a b h = spared_then a h.mid b (spares a h.mid h.ended) (own_spares h.mid b h.own)

  heard_killed : (a b : Known) → Heard Ended a b true → TakesKill a b
  heard_killed a b h = record { before = h.mid; spared = spares a h.mid h.ended; own = h.own }

  again_spared : {a b : Known} → Again (λ x y. Heard Ended x y false) a b → TookNoKill a b
  again_spared no_part = refl
  again_spared {a} (one_more mid new before part) =
      spared_then a mid new (again_spared before) (heard_spared mid new part)

-- a part, by how it ended
abbrev Spares : Result (Unit {0}) Halt → Known → Known → Type 0
Spares (Err halt.Killed) a b = TakesKill a b
Spares _ a b = TookNoKill a b

spares_behind : (r : Result (Unit {0}) Halt) (a b c : Known) → TookNoKill a b → Spares r b c → Spares r a c
spares_behind (Ok u) a b c one two = spared_then a b c one two
spares_behind (Err halt.Broken) a b c one two = spared_then a b c one two
spares_behind (Err halt.Killed) a b c one two = kill_behind a b c one two
spares_behind (Err (halt.Worn h p)) a b c one two = spared_then a b c one two

write_broken : (k : ℕ) (text : List ℕ) (a b : Known) → InterruptedWrite k text a b → TookNoKill a b
write_broken k text a b w = writes_spared k a b text (Err (pipe_end.Interrupted w.0)) w.1

read_broken : (k : ℕ) (a b : Known) → InterruptedRead k a b → TookNoKill a b
read_broken k a b r = reads_spared k a b r.1 (Err (pipe_end.Interrupted r.0)) r.2

puts_spared : {k : ℕ} {text : List ℕ} {a : Known} {left : List ℕ} {b : Known} → Puts k text a left b → TookNoKill a b
puts_spared all_left = refl
puts_spared {k = k} {a = a} (took_front mid new left n before w) =
    spared_then a mid new (puts_spared before) (writes_spared k mid new left (Ok n) w)
puts_spared {k = k} {a = a} (heard_again mid new left before h) =
    spared_then a mid new (puts_spared before)
    (heard_spared (InterruptedWrite k left) (write_broken k left) mid new h)

last_puts : (k : ℕ) (left : List ℕ) (r : Result (Unit {0}) Halt) (a b : Known) → LastPuts k left r a b → Spares r a b
last_puts k left (Ok u) a b e = spared_same a b e.1
last_puts k left (Err halt.Broken) a b e = writes_spared k a b left (Err pipe_end.Broken) e
last_puts k left (Err halt.Killed) a b e = heard_killed (InterruptedWrite k left) (write_broken k left) a b e
last_puts k left (Err (halt.Worn h p)) a b e = writes_spared k a b left (Err (pipe_end.Worn h p)) e

whole_spared : (k : ℕ) (a b : Known) (text : List ℕ) (r : Result (Unit {0}) Halt) → PutsWhole k a b text r
    → Spares r a b
whole_spared k a b text r p = spares_behind r a p.last b (puts_spared p.puts) (last_puts k p.left r p.last b p.ends)

gets_some : (k : ℕ) (a b : Known) (buf : List ℕ) (n : ℕ) → GetsPiece k a b buf (Ok n) → TookNoKill a b
gets_some k a b buf n g = spared_then a g.last b (again_spared (InterruptedRead k) (read_broken k) g.again)
    (reads_spared k g.last b buf (Ok n) g.ends)

gets_halted : (k : ℕ) (a b : Known) (buf : List ℕ) (h : Halt) → GetsPiece k a b buf (Err h) → Spares (Err h) a b
gets_halted k a b buf halt.Broken g = absurd g.ends
gets_halted k a b buf halt.Killed g = kill_behind a g.last b (again_spared (InterruptedRead k) (read_broken k) g.again)
    (heard_killed (InterruptedRead k) (read_broken k) g.last b g.ends)
gets_halted k a b buf (halt.Worn h p) g = spared_then a g.last b
    (again_spared (InterruptedRead k) (read_broken k) g.again)
    (reads_spared k g.last b buf (Err (pipe_end.Worn h p)) g.ends)

sends_spared : (rs : List Raised) (a b : Known) → SendsEach rs a b → TookNoKill a b
sends_spared [] a b e = spared_same a b e
sends_spared (r ∷ rs) a b e = spared_then a e.0 b (sent_spared a e.0 r.who r.fatal e.1) (sends_spared rs e.0 b e.2)

-- calls on the page
page_spared : (a b : Known) (r : Result (Unit {0}) BitEnd) → EndsPageLock a b COUNTED_PAGE state.Interruptible r
    → TookNoKill a b
page_spared a b r w = calls_spared a.view.number 0 (calls.LockPage COUNTED_PAGE state.Interruptible) a _ _
    w.runs.transitions b (λ e. absurd (cc)) w.runs.goes

page_broken : (a b : Known) → InterruptedWait a b → TookNoKill a b
page_broken a b w = page_spared a b _ w.1

last_waits : (r : Result (Unit {0}) Halt) (a b : Known) → LastWaits r a b → Spares r a b
last_waits (Ok u) a b w = page_spared a b (Ok tt) w
last_waits (Err halt.Broken) a b w = absurd w
last_waits (Err halt.Killed) a b w = heard_killed InterruptedWait page_broken a b w
last_waits (Err (halt.Worn h p)) a b w = page_spared a b _ w

waits_spared : (r : Result (Unit {0}) Halt) (a b : Known) → PageWaits a b r → Spares r a b
waits_spared r a b w = spares_behind r a w.last b (again_spared InterruptedWait page_broken w.again)
    (last_waits r w.last b w.ends)

adds_spared : (n found : ℕ) (a b : Known) → AddsLocked n found a b → TookNoKill a b
adds_spared n found a b w =
    let told : Known = added a (item.Tally COUNTED_PAGE n found) in
    spared_then a told b (item_spared a told (item.Tally COUNTED_PAGE n found) refl refl)
    (calls_spared told.view.number 0 (calls.ClearBit COUNTED_PAGE 0) told _ _ w.1.runs.transitions b
    (λ e. absurd (cc)) w.1.runs.goes)

counts_spared : (n : ℕ) (r : Result (Unit {0}) Halt) (a b : Known) → CountsBytes n a b r → Spares r a b
counts_spared n (Ok u) a b c = spared_then a c.0 b (waits_spared (Ok tt) a c.0 c.2)
    (adds_spared n c.1 c.0 b c.3)
counts_spared n (Err h) a b c = waits_spared (Err h) a b c

hands_spared : {k : ℕ} {a b : Known} {bytes : List ℕ} {r : Result (Unit {0}) Halt} → HandsBytes k a b bytes r
    → Spares r a b
hands_spared {k} {a} {b} {bytes} (put_halted h p) = whole_spared k a b bytes (Err h) p
hands_spared {k} {a} {b} {bytes} (put_all put r p c) = spares_behind r a put b (whole_spared k a put bytes (Ok tt) p)
    (counts_spared (length bytes) r put b c)

-- turns
abbrev SparesTurn : Option Stop → Known → Known → Type 0
SparesTurn (Some stop.Killed) a b = TakesKill a b
SparesTurn _ a b = TookNoKill a b

by_part : (r : Result (Unit {0}) Halt) (a b : Known) → Spares r a b → SparesTurn (stops_by r) a b
by_part (Ok u) a b s = s
by_part (Err halt.Broken) a b s = s
by_part (Err halt.Killed) a b s = s
by_part (Err (halt.Worn h p)) a b s = s

turn_behind : (how : Option Stop) (a b c : Known) → TookNoKill a b → SparesTurn how b c → SparesTurn how a c
turn_behind (Some stop.Killed) a b c one two = kill_behind a b c one two
turn_behind how a b c one two = spared_then a b c one two

own_killed : (a b : Known) → TookOwn a b true → TakesKill a b
own_killed a b own = record { before = a; spared = refl; own = own }

reader_spared : {q : ℕ} {targets : List ℕ} {plan : List Planned} {read : ℕ} {a b : Known} {piece : List ℕ} {how : Option Stop}
    → ReaderTurn q targets plan read a b piece how → SparesTurn how a b
reader_spared {a = a} {b = b} (reader_killed own) = own_killed a b own
reader_spared {a = a} {b = b} (source_ended own) = own_spares a b own
reader_spared {a = a} {b = b} (source_failed own) = own_spares a b own
reader_spared {a = a} {b = b} (source_long mid piece own some sends long) =
    spared_then a mid b (own_spares a mid own) (sends_spared _ mid b sends)
reader_spared {a = a} {b = b} (reader_hands mid sent piece r own some fits sends hands) =
    turn_behind (stops_by r) a sent b
    (spared_then a mid sent (own_spares a mid own) (sends_spared _ mid sent sends))
    (by_part r sent b (hands_spared hands))

module _ (k : ℕ) (Passes : List ℕ → Known → Known → Option Stop → Type 0)
    (passing : (piece : List ℕ) (a b : Known) (how : Option Stop) → Passes piece a b how → SparesTurn how a b) where
  gets_spared : {a b : Known} {piece : List ℕ} {how : Option Stop} → GetsAnd k Passes a b piece how
      → SparesTurn how a b
  gets_spared {a} {b} (get_halted buf h gets) = by_part (Err h) a b (gets_halted k a b buf h gets)
  gets_spared {a} {b} (pipe_ended buf gets) = gets_some k a b buf 0 gets
  gets_spared {a} {b} (got_piece got buf n how long some gets passes) =
      turn_behind how a got b (gets_some k a got buf n gets) (passing _ got b how passes)

  getter_spared : {a b : Known} {piece : List ℕ} {how : Option Stop} → GetterTurn k Passes a b piece how
      → SparesTurn how a b
  getter_spared {a} {b} (getter_killed own) = own_killed a b own
  getter_spared {a} {b} (getter_gets mid piece how own gets) =
      turn_behind how a mid b (own_spares a mid own) (gets_spared gets)

relays_spared : (q : ℕ) (piece : List ℕ) (a b : Known) (how : Option Stop) → RelaysPiece q piece a b how → SparesTurn how a b
relays_spared q piece a b how p = subst (λ (h : Option Stop). SparesTurn h a b) (sym p.2)
    (by_part p.0 a b (hands_spared p.1))

sinks_spared : (piece : List ℕ) (a b : Known) (how : Option Stop) → SinksPiece piece a b how → SparesTurn how a b
sinks_spared piece a b how p = by p
  where
    by : {h : Option Stop} → SinksPiece piece a b h → SparesTurn h a b
    by (sink_failed is) = spared_same a b is
    by (sink_wanted is) = spared_same a b is
    by (sink_took r counts) = by_part r a b (counts_spared (length piece) r a b counts)

module _ (Turn : ℕ → List ℕ → Known → Known → Option Stop → Type 0)
    (turns : (read : ℕ) (piece : List ℕ) (a b : Known) (how : Option Stop) → Turn read piece a b how
    → SparesTurn how a b) (before : ℕ) where
  by_turns_spared : {a : Known} {bytes : List ℕ} {b : Known} {how : Option Stop} → ByTurns Turn before a bytes b how
      → SparesTurn how a b
  by_turns_spared no_turn = refl
  by_turns_spared {a} (a_turn bytes piece mid new how first turn) =
      turn_behind how a mid new (by_turns_spared first) (turns (before + length bytes) piece mid new how turn)

-- whole workers
claim_spared : (k : ℕ) (a b : Known) (found : ℕ) → b ≡ added a (item.Piped k act.Claim found) → TookNoKill a b
claim_spared k a b found is = item_spared a b (item.Piped k act.Claim found) is refl

completes_spared : (a b : Known) → HasCompleted a b ENDED_CELL → TookNoKill a b
completes_spared a b c = calls_spared a.view.number 0 (calls.Complete ENDED_CELL) a _ _ c.transitions b
    (λ e. absurd (cc)) c.goes

module _ (Closes : Known → Known → Type 0) where
  ends_heeding : (how : Stop) (a b c d e : Known) → TookNoKill a b → SparesTurn (Some how) b c → Closes c d
      → TookNoKill c d → HasCompleted d e ENDED_CELL → HeedsKills Closes a e how
  ends_heeding stop.Killed a b c d e one two closes spared completes = record {
    before = two.before;
    spared = spared_then a b two.before one two.spared;
    taken = c;
    own = two.own;
    closed = d;
    closes = closes;
    completes = completes;
  }
  ends_heeding how a b c d e one two closes spared completes = spared_then a b e one (spared_then b c e two
      (spared_then c d e spared (completes_spared d e completes)))

reader_heeds : (q : ℕ) (targets : List ℕ) (plan : List Planned) (a b c : Known) {bytes : List ℕ} {how : Stop}
    → ReaderWorks q targets plan a b bytes how → HasCompleted b c ENDED_CELL
    → HeedsKills (ClosesEnd (write_end q)) a c how
reader_heeds q targets plan a b c (reader_refused claim) done =
    spared_then a b c (claim_spared (write_end q) a b claim.0 claim.1) (completes_spared b c done)
reader_heeds q targets plan a b c (reader_works opened sent last bytes how claim sends turns closes) done =
    ends_heeding (ClosesEnd (write_end q)) how a sent last b c
    (spared_then a opened sent (claim_spared (write_end q) a opened claim.0 claim.1)
    (sends_spared _ opened sent sends))
    (by_turns_spared (λ read piece x y h. ReaderTurn q targets plan read x y piece h)
    (λ read piece x y h turn. reader_spared turn) 0 turns) closes
    (closes_spared (write_end q) last b closes) done

pub readers_heed : ReadersHeed
readers_heed q targets plan old new bytes how goes = reader_heeds q targets plan old goes.0 new goes.1 goes.2

relay_heeds : (a b c : Known) {how : Stop} → RelayWorks a b how → HasCompleted b c ENDED_CELL
    → HeedsKills ClosesBoth a c how
relay_heeds a b c (relay_refused claim) done =
    spared_then a b c (claim_spared (read_end SOURCE_PIPE) a b claim.0 claim.1) (completes_spared b c done)
relay_heeds a b c (relay_refused_sink opened claimed one two closes) done =
    spared_then a opened c (claim_spared (read_end SOURCE_PIPE) a opened one.0 one.1)
    (spared_then opened claimed c (claim_spared (write_end SINK_PIPE) opened claimed two.0 two.1)
    (spared_then claimed b c (closes_spared (read_end SOURCE_PIPE) claimed b closes) (completes_spared b c done)))
relay_heeds a b c (relay_works opened both last closed bytes how one two turns first second) done =
    ends_heeding ClosesBoth how a both last b c
    (spared_then a opened both (claim_spared (read_end SOURCE_PIPE) a opened one.0 one.1)
    (claim_spared (write_end SINK_PIPE) opened both two.0 two.1))
    (by_turns_spared (λ read piece x y h. GetterTurn (read_end SOURCE_PIPE) (RelaysPiece SINK_PIPE) x y piece h)
    (λ read piece x y h turn. getter_spared (read_end SOURCE_PIPE) (RelaysPiece SINK_PIPE) (relays_spared SINK_PIPE) turn) 0 turns)
    (closed, first, second)
    (spared_then last closed b (closes_spared (read_end SOURCE_PIPE) last closed first)
    (closes_spared (write_end SINK_PIPE) closed b second)) done

pub relays_heed : RelaysHeed
relays_heed old new how goes = relay_heeds old goes.0 new goes.1 goes.2

writer_heeds : (q : ℕ) (a b c : Known) {how : Stop} → WriterWorks q a b how → HasCompleted b c ENDED_CELL
    → HeedsKills (ClosesEnd (read_end q)) a c how
writer_heeds q a b c (writer_refused claim) done =
    spared_then a b c (claim_spared (read_end q) a b claim.0 claim.1) (completes_spared b c done)
writer_heeds q a b c (writer_works opened last bytes how claim turns closes) done =
    ends_heeding (ClosesEnd (read_end q)) how a opened last b c
    (claim_spared (read_end q) a opened claim.0 claim.1)
    (by_turns_spared
    (λ read piece x y h. GetterTurn (read_end q) (λ p s t w. SinksPiece p s t w) x y piece h)
    (λ read piece x y h turn. getter_spared (read_end q) (λ p s t w. SinksPiece p s t w) sinks_spared turn) 0
    turns) closes (closes_spared (read_end q) last b closes) done

pub writers_heed : WritersHeed
writers_heed q old new how goes = writer_heeds q old goes.0 new goes.1 goes.2
