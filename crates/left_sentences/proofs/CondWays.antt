-- Waits for plain conditions and variables that are left make their words.
use Rattle.std.proofs.Common.{◌∙◌, ap, inl, inr, refl, subst}
use Rattle.std.specs.Prelude.{ℕ, ◌≡◌, Bool, true, false, not, is_some, if◌then◌else◌, Some, Result, List, ◌∷◌}
use Rattle.wait_model.specs.{declared.calls.Answer.Answer, declared.calls.Call.Call, declared.calls.Event.Event}
use Rattle.wait_model.specs.{declared.points.Planned.Planned, declared.points.Point.Point, declared.points.Seen.Seen}
use Rattle.wait_model.specs.{declared.tasks.How.How, declared.tasks.SleepState.SleepState, declared.watches.Watch.Watch}
use Rattle.wait_model.specs.{Findings.none_noted, Points.call_watch, Points.state_in, Sentences.Follows}
use Rattle.wait_model.specs.SentenceSteps.{finishes, is_met, is_signalled, minus_512, number, takes_off, unlocks}
use Rattle.wait_model.specs.Tasks.{looks_in, pending, state_mask}
use Rattle.wait_model.specs.Watches.{head_of, misses, number_of}
use Rattle.wait_model.specs.declared.calls.Call.TheVariants as calls
use Rattle.wait_model.specs.declared.calls.Event.TheVariants as event
use Rattle.wait_model.specs.declared.points.FinishPoint.TheVariants as finishing
use Rattle.wait_model.specs.declared.points.LeavePoint.TheVariants as leaving
use Rattle.wait_model.specs.declared.points.Point.TheVariants as at
use Rattle.wait_model.specs.declared.points.PreparePoint.TheVariants as preparing
use Rattle.wait_model.specs.declared.watches.Watch.TheVariants as watch
use Rattle.wait_model.specs.Phrases.{ends, gives, when◌then◌otherwise◌}
use Rattle.wait_model.specs.Phrases.{◌>>◌}
use Rattle.wait_model.proofs.{SentenceLaws.SentenceCalls.rest_of, SentenceLaws.SentenceRests.first_more}
use Rattle.wait_model.proofs.WaitLaws.OutsideStages.{either}
use Rattle.wait_model.proofs.SentenceLaws.SentenceWaits.{loop_rest, prepared, tested}
use Rattle.wait_rule.specs.{Known.Known, Says.MeetsLaw, Transitions.Program, Transitions.call_program}
use Rattle.wait_class.specs.declared.stages.Turn.TheVariants as turn
use Rattle.wait_class.specs.{Posts.IsOut, Tables.plan_program}
use Rattle.wait_leave.specs.declared.exits.Exit.{Exit}
use Rattle.wait_event.specs.{declared.waits.WaitCall.WaitCall, declared.waits.WaitOutcome.WaitOutcome}
use Rattle.wait_event.specs.{declared.waits.WaitStage.WaitStage, declared.wait_events.WaitEnd.WaitEnd}
use Rattle.wait_event.specs.{declared.wait_leaves.WaitUntil.WaitUntil, WaitPlans.plan, WaitPlans.wait_plan}
use Rattle.wait_event.specs.WaitLeaves.{EndsWaitUntil, parted_in, wait_exit, wait_exits, wait_until_in}
use Rattle.wait_event.specs.Waits.{answer_to_wait, wait_point_at, wait_table}
use Rattle.wait_event.specs.declared.waits.WaitOutcome.TheVariants as outcome
use Rattle.wait_event.specs.declared.waits.WaitStage.TheVariants as stage
use Rattle.wait_event.specs.declared.wait_leaves.WaitUntil.TheVariants as until
use Rattle.wait_event.proofs.Plans.{plain_program, program_is}
use Rattle.swait_queue.specs.SimpleWaits.{tail_in}
use Rattle.var_wait.specs.{VarLeaves.until_loaded, VarWaits.shared_in}
use Rattle.left_sentences.specs.LeftWords.{IsLeftWord, IsWordTo}
use Rattle.left_sentences.specs.CondWays.{AskedWaitsFollow, CondFrom, HasMissed, HasPrepared, IsInPrepare}
use Rattle.left_sentences.specs.CondWays.{LeftSimplesFollow, LeftVarsFollow, LeftWaitsFollow, behind_prepare, cond_says}
use Rattle.left_sentences.specs.CondWays.{cond_ways, in_hold, parts_in_hold}
use Rattle.left_sentences.proofs.LeftWays.{AnyRun, IsRunOf, LeadsOut, Speech, before_law, ended_word, gone_by, kept}
use Rattle.left_sentences.proofs.LeftWays.{left_word, of_way, plain_follows}
use Rattle.left_sentences.proofs.RunsTo.{AtNext, Before, Leads}

-- the latest events at each point of such a wait
abbrev CondAt : Watch → SleepState → Point → List Event → Type 0
CondAt c st at.First trail = Unit {0}
CondAt c st (at.Prepare preparing.Lock) trail = Unit {0}
CondAt c st (at.Prepare preparing.Look) trail = (more : List Event) × (trail ≡ event.Lock (head_of c) ∷ more)
CondAt c st (at.Prepare preparing.Queue) trail = IsInPrepare c trail
CondAt c st (at.Prepare preparing.State) trail = Unit {0}
CondAt c st (at.Prepare preparing.Unlock) trail = (more : List Event) × (trail ≡ event.State (state_mask st) ∷ more)
CondAt c st at.Test trail = HasPrepared c st trail
CondAt c st at.Sleep trail = HasMissed c st trail
CondAt c st at.Worn trail = Unit {0}
CondAt c st (at.Leave p) trail = Unit {0}
CondAt c st (at.Finish p false) trail = Unit {0}
CondAt c st _ trail = ⊥

module _ (me : ℕ) (c : Watch) (how : How) where
  abbrev At : Point → List Event → Type 0
  At = CondAt c how.state

  abbrev Led : List Event → Planned → Type 0
  Led trail u = AtNext At (u.event ∷ trail) u.next

  locked : (b : Bool) (trail : List Event)
      → At (at.Prepare (if b then preparing.Look else preparing.Queue)) (event.Lock (head_of c) ∷ trail)
  locked true trail = (trail, refl)
  locked false trail = (trail, inl refl)

  looked : (hit : Bool) (trail : List Event) → At (at.Prepare preparing.Look) trail
      → At (if hit then at.Leave leaving.Queue else at.Prepare preparing.Queue) (event.Look hit ∷ trail)
  looked true trail h = tt
  looked false trail h = (h.0, inr (ap (λ (w : List Event). event.Look false ∷ w) h.1))

  tested_at : (b : Bool) (v : ℕ) (trail : List Event) → misses c v ≡ b → HasPrepared c how.state trail
      → At (if b then at.Sleep else at.Finish finishing.State false) (event.Load (number_of c) v ∷ trail)
  tested_at true v trail unset h =
      record { value = v; earlier = trail; load = refl; unset = unset; prepared = h }
  tested_at false v trail unset h = tt

  plan_leads : (p : Point) (seen : Seen) (trail : List Event) → At p trail → Led trail (plan me c how p seen)
  plan_leads at.First seen trail h = either (Led trail) (misses c seen.value) _ _ tt tt
  plan_leads (at.Prepare preparing.Lock) seen trail h = locked (looks_in how.state) trail
  plan_leads (at.Prepare preparing.Look) seen trail h = looked (pending (state_mask how.state) seen.own) trail h
  plan_leads (at.Prepare preparing.Queue) seen trail h =
      either (Led trail) (is_some seen.entry) _ _ (trail, refl) (either (Led trail) seen.worn _ _ tt tt)
  plan_leads (at.Prepare preparing.State) seen trail h = (trail, refl)
  plan_leads (at.Prepare preparing.Unlock) seen trail h =
      (h.0, ap (λ (w : List Event). event.Unlock (head_of c) false ∷ w) h.1)
  plan_leads at.Test seen trail h = tested_at (misses c seen.value) seen.value trail refl h
  plan_leads at.Sleep seen trail h = tt
  plan_leads at.Worn seen trail h = either (Led trail) (misses c seen.value) _ _ tt tt
  plan_leads (at.Leave leaving.Queue) seen trail h = either (Led trail) (is_some seen.entry) _ _ tt tt
  plan_leads (at.Leave leaving.Unlock) seen trail h = tt
  plan_leads (at.Leave leaving.Load) seen trail h = either (Led trail) (misses c seen.value) _ _ tt tt
  plan_leads (at.Finish finishing.State false) seen trail h = tt
  plan_leads (at.Finish finishing.Look false) seen trail h = either (Led trail) (is_some seen.entry) _ _ tt tt
  plan_leads (at.Finish finishing.Lock false) seen trail h = tt
  plan_leads (at.Finish finishing.Queue false) seen trail h = either (Led trail) (is_some seen.entry) _ _ tt tt
  plan_leads (at.Finish finishing.Unlock false) seen trail h = tt
  plan_leads p seen trail h = absurd h

  -- the program that asks for signals
  asked_leads : (p : Point) (seen : Seen) (trail : List Event) → At p trail
      → Led trail ((plan_program me 0 (wait_plan c how)).plan p seen)
  asked_leads (at.Prepare preparing.Lock) seen trail h = plan_leads (at.Prepare preparing.Lock) seen trail h
  asked_leads p seen trail h = plan_leads p seen trail h

  call_leads : (call : Call) → plan_program me 0 (wait_plan c how) ≡ call_program me 0 call
      → Leads At (call_program me 0 call)
  call_leads call same = subst (λ (g : Program). Leads At g) same asked_leads

-- what is left of the sentence where it leaves its queue
module _ (me : ℕ) (call : Call) where
  left_test : (b : Bool) (n : ℕ) (w : List Event) (a : Answer) → tested me call true n is_signalled b w a
      → (when b then (do finishes me (call_watch call) true; gives (number 0)) otherwise gives minus_512) ends w a
  left_test true n w a h = h
  left_test false n w a h = h

  left_load : (n : ℕ) (w : List Event) (a : Answer) → prepared me call true n is_signalled w a
      → is_met (call_watch call) (λ met. (when met then (do finishes me (call_watch call) true; gives (number 0))
      otherwise gives minus_512) ends) w a
  left_load n w a h = (
    h.0,
    first_more (event.Load (number_of (call_watch call)) h.0)
        (tested me call true n is_signalled (not (misses (call_watch call) h.0)))
        ((when not (misses (call_watch call) h.0) then (do finishes me (call_watch call) true; gives (number 0))
        otherwise gives minus_512) ends) (left_test (not (misses (call_watch call) h.0)) n) w a h.1,
  )

  left_off : (n : ℕ) (w : List Event) (a : Answer)
      → takes_off me true (λ _. unlocks (call_watch call) (λ _. prepared me call true n is_signalled)) w a
      → parts_in_hold me (call_watch call) ends w a
  left_off n w a (true, h) = (
    true,
    first_more (event.Unqueue me)
        (unlocks (call_watch call) (λ _. prepared me call true n is_signalled)) _ (first_more
        (event.Unlock (head_of (call_watch call)) false) (prepared me call true n is_signalled) _ (left_load n)) w a h,
  )
  left_off n w a (false, h) = (
    false,
    first_more (event.Unlock (head_of (call_watch call)) false)
        (prepared me call true n is_signalled) _ (left_load n) w a h,
  )

  left_hold : (w : List Event) (a : Answer) → loop_rest me call kept (at.Leave leaving.Queue) w a
      → parts_in_hold me (call_watch call) ends w a
  left_hold w a h = left_off h.0 w a h.1

abbrev hold_exit : Exit WaitStage WaitOutcome
hold_exit = record { to = turn.Again stage.LeaveQueue; rests = false }

abbrev turn_exit : Exit WaitStage WaitOutcome
turn_exit = record { to = turn.Again stage.PrepareLock; rests = true }

module _ (me : ℕ) (call : Call) (loops : (p : Point) (w : List Event) (a : Answer) → rest_of me call kept p w a
    → loop_rest me call kept p w a) where
  abbrev Trails : Point → List Event → Type 0
  Trails = CondAt (call_watch call) (state_in call)

  abbrev Out : WaitStage → Exit WaitStage WaitOutcome → Type 0
  Out s e = LeadsOut wait_table me call (cond_ways me call) Trails s e

  out_of_hold : (s : WaitStage) → ((trail : List Event) → Trails (wait_point_at s) trail
      → IsInPrepare (call_watch call) trail) → Out s hold_exit
  out_of_hold s from = record {
    way = in_hold;
    from = from;
    rest = λ w a h. left_hold me call w a (loops (at.Leave leaving.Queue) w a h);
    start = tt;
  }

  out_behind : (s : WaitStage) → ((trail : List Event) → Trails (wait_point_at s) trail
      → CondFrom call behind_prepare trail) → Out s turn_exit
  out_behind s from = record {
    way = behind_prepare;
    from = from;
    rest = λ w a h. (refl, loops (at.Prepare preparing.Lock) w a h);
    start = tt;
  }

  cond_outs : (s : WaitStage) (e : Exit WaitStage WaitOutcome) → wait_exit s ≡ Some e → Out s e
  cond_outs stage.PrepareLook e is = subst (Out stage.PrepareLook) (let z : hold_exit ≡ e = cc in z)
      (out_of_hold stage.PrepareLook (λ trail h. (h.0, inl h.1)))
  cond_outs stage.PrepareQueue e is = subst (Out stage.PrepareQueue) (let z : hold_exit ≡ e = cc in z)
      (out_of_hold stage.PrepareQueue (λ trail h. h))
  cond_outs stage.Test e is = subst (Out stage.Test) (let z : turn_exit ≡ e = cc in z)
      (out_behind stage.Test (λ trail h. inl h))
  cond_outs stage.Sleep e is = subst (Out stage.Sleep) (let z : turn_exit ≡ e = cc in z)
      (out_behind stage.Sleep (λ trail h. inr h))
  cond_outs s e is = absurd (cc)

abbrev CondSpeech : ℕ → Call → Type 0
CondSpeech me call = Speech wait_table wait_exits me call (cond_ways me call)
    (CondAt (call_watch call) (state_in call)) AnyRun

wait_speech : (me c : ℕ) (how : How) → CondSpeech me (calls.Wait c how)
wait_speech me c how = record {
  follows = plain_follows me (calls.Wait c how) refl refl;
  fine = λ r q j ts s e tells is. tt;
  same = λ r. refl;
  leads = call_leads me (watch.Plain c) how (calls.Wait c how) (plain_program me c how);
  outs = λ r s e is. cond_outs me (calls.Wait c how) (λ p w a h. h) s e is;
}

var_speech : (me v old : ℕ) (st : SleepState) → CondSpeech me (calls.WaitVar v old st)
var_speech me v old st = record {
  follows = plain_follows me (calls.WaitVar v old st) refl refl;
  fine = λ r q j ts s e tells is. tt;
  same = λ r. refl;
  leads = call_leads me (watch.Var v old) (shared_in st) (calls.WaitVar v old st)
      (program_is me (watch.Var v old) (shared_in st) refl);
  outs = λ r s e is. cond_outs me (calls.WaitVar v old st) (λ p w a h. h) s e is;
}

-- one that was left has been asked, and ended as one that found a signal
parted_asked : (b : Bool) (r : WaitCall) (found : Bool) (seen : ℕ) (selected : Bool)
    → until.Left seen selected ≡ parted_in b r found → b ≡ true
parted_asked true r found seen selected is = refl
parted_asked false r found seen selected is = absurd (cc)

left_asked : (r : WaitCall) (d : WaitOutcome) (seen : ℕ) (selected : Bool)
    → until.Left seen selected ≡ wait_until_in r d → (r.asked ≡ true) × (answer_to_wait d ≡ minus_512)
left_asked r (outcome.Signalled found) seen selected is = (parted_asked r.asked r found seen selected is, refl)
left_asked r d seen selected is = absurd (cc)

module _ {A : Type 0} (old new : Known) (w : Watch) (how : How) (call : Call)
    (speech : CondSpeech old.view.number call)
    (same : plan_program old.view.number 0 (wait_plan w how) ≡ call_program old.view.number 0 call)
    (start : (v : List Event) (a : Answer) → rest_of old.view.number call none_noted at.First v a
    → Follows old.view.number call v a)
    (result : WaitUntil (Result (Unit {0}) WaitEnd)) (e : EndsWaitUntil A old new w how result)
    (law : MeetsLaw new.view) (out : IsOut old) where
  abbrev me : ℕ
  me = old.view.number

  abbrev Latest : Point → List Event → Type 0
  Latest = CondAt (call_watch call) (state_in call)

  fresh : plan_program me 0 (wait_plan e.first.of.watch e.first.of.how) ≡ plan_program me 0 (wait_plan w how)
  fresh i = plan_program me 0 (wait_plan (e.fresh.watch_is i) (e.fresh.how_is i))

  is : IsRunOf wait_table me call old e.first.of
  is = record { number = refl; program = fresh ∙ same }

  before : Before law.table me new
  before = before_law new law me (of_way wait_table wait_exits me call (cond_ways me call) Latest AnyRun speech old
      e.first
      stage.First is new e.leaves.at (turn.Done e.leaves.outcome) e.leaves.came).number

  cond_ended : IsWordTo me call (cond_ways me call) (cond_says old new w how result e) (answer_to_wait e.leaves.outcome)
  cond_ended = ended_word wait_table wait_exits me call (cond_ways me call) Latest AnyRun speech law.table
      law.ruled.whole.interleaved old e.first stage.First is (λ _ _. out) start tt new e.leaves.at e.leaves.outcome
      e.leaves.came (λ r q ts tells. tt) before

  cond_left : (seen : ℕ) (selected : Bool) → until.Left seen selected ≡ result
      → IsLeftWord me call (cond_ways me call) (cond_says old new w how result e) minus_512
  cond_left seen selected left =
      let asked = left_asked e.leaves.at.of e.leaves.outcome seen selected (left ∙ e.leaves.answer) in
      subst (λ (a : Answer). IsLeftWord me call (cond_ways me call) (cond_says old new w how result e) a) asked.1
      (left_word wait_table wait_exits me call (cond_ways me call) Latest AnyRun speech law.table
      law.ruled.whole.interleaved old e.first stage.First is (λ _ _. out) start tt new e.leaves.at e.leaves.outcome
      e.leaves.came (gone_by wait_table wait_exits old e.first stage.First new e.leaves.at
      (turn.Done e.leaves.outcome) e.leaves.came asked.0 e.fresh.unasked) (λ r q ts tells. tt) before)

pub left_waits_follow : (A : Type 0) → LeftWaitsFollow A
left_waits_follow A old new c how seen selected law out e = cond_left old new (watch.Plain c) how (calls.Wait c how)
    (wait_speech old.view.number c how) (plain_program old.view.number c how) (λ v a h. h)
    (until.Left seen selected) e law out seen selected refl

pub asked_waits_follow : (A : Type 0) → AskedWaitsFollow A
asked_waits_follow A old new c how result law out e = cond_ended old new (watch.Plain c) how (calls.Wait c how)
    (wait_speech old.view.number c how) (plain_program old.view.number c how) (λ v a h. h) result e law out

pub left_simples_follow : (A : Type 0) → LeftSimplesFollow A
left_simples_follow A old new c st seen selected law out e =
    let x = left_waits_follow A old new c (tail_in st) seen selected law out e in record {
      first = x.first;
      begins = x.begins;
      way = x.way;
      from = x.from;
      behind = x.behind;
      makes = x.makes;
      is = x.is;
    }

var_left : (value seen : ℕ) (selected : Bool) (answer : WaitUntil (Result (Unit {0}) WaitEnd))
    → until.Left seen selected ≡ until_loaded value answer → until.Left seen selected ≡ answer
var_left value seen selected (until.Over x) is = absurd (cc)
var_left value seen selected (until.Left s c) is = let z : seen ≡ s = cc in let y : selected ≡ c = cc in
    λ i. until.Left (z i) (y i)

pub left_vars_follow : (A : Type 0) → LeftVarsFollow A
left_vars_follow A before new v old st seen selected law out e =
    cond_left before new (watch.Var v old) (shared_in st) (calls.WaitVar v old st)
    (var_speech before.view.number v old st) (program_is before.view.number (watch.Var v old) (shared_in st) refl)
    (λ w a h. h) e.answer e.waited law out seen selected
    (var_left e.waited.leaves.at.of.seen seen selected e.answer e.loads)
