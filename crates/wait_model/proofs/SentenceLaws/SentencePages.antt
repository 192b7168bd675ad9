-- What is left of the sentence of a wait for a page at each point of its program.
use Rattle.std.proofs.Common.{refl}
use Rattle.std.specs.Prelude.{ℕ, zero, suc, Bool, true, false, not, List, if◌then◌else◌, is_some}
use Rattle.wait_model.specs.{declared.calls.Call.Call, declared.calls.Event.Event, declared.calls.Answer.Answer}
use Rattle.wait_model.specs.{declared.tasks.SleepState.SleepState, declared.watches.Watch.Watch}
use Rattle.wait_model.specs.{declared.points.Planned.Planned, declared.points.Seen.Seen, declared.points.Point.Point}
use Rattle.wait_model.specs.{declared.points.FinishPoint.FinishPoint, declared.points.PagePoint.PagePoint, Words.bit_at}
use Rattle.wait_model.specs.{Words.flag, Watches.head_of, Watches.page, Findings.Noted}
use Rattle.wait_model.specs.Tasks.{looks_in, pending, sleep_of, state_mask}
use Rattle.wait_model.specs.Programs.{program, go, ends_with, zero_answer, page_event, page_queue, page_last}
use Rattle.wait_model.specs.Programs.{page_finish_event}
use Rattle.wait_model.specs.Phrases.{repeats, leaves, after_turn, turns, ends}
use Rattle.wait_model.specs.SentenceSteps.{number, minus_4, locks, unlocks, looks, sleeps, puts_in, finishes}
use Rattle.wait_model.specs.SentenceBits.{tries, page_turn, awaits_page}
use Rattle.wait_model.specs.declared.calls.Call.TheVariants as calls
use Rattle.wait_model.specs.declared.calls.Event.TheVariants as event
use Rattle.wait_model.specs.declared.calls.Answer.TheVariants as answer
use Rattle.wait_model.specs.declared.queues.Form.TheVariants as forms
use Rattle.wait_model.specs.declared.points.Point.TheVariants as at
use Rattle.wait_model.specs.declared.points.FinishPoint.TheVariants as finishing
use Rattle.wait_model.specs.declared.points.PagePoint.TheVariants as paging
use Rattle.wait_model.specs.Phrases.{Rest, Phrase, ◌>>=◌, ◌>>◌, gives, makes, finds, when◌then◌otherwise◌, Turn}
use Rattle.wait_model.proofs.SentenceLaws.SentenceRests.{Knows, Says, anything, Some_turns}
use Rattle.wait_model.proofs.SentenceLaws.SentenceWaits.{finish_rest}

module _ (me p : ℕ) (st : SleepState) where
  abbrev pub on : Watch
  on = page p

  -- `lockpage`
  abbrev pub locker : Call
  locker = calls.LockPage p st

  abbrev pub round : Unit {0} → Phrase (Turn (Unit {0}) (Unit {0}))
  round = page_turn st

  -- once it has left its turns
  abbrev pub told : Bool → Rest
  told hit = (when hit then (do makes event.Unflag; gives (number 0)) otherwise gives minus_4) ends

  abbrev pub last : Rest
  last = finds event.Flag told

  abbrev pub past : ℕ → Turn (Unit {0}) (Unit {0}) → Rest
  past n t = after_turn (turns n round) t (λ _. finishes me on true (λ _. last))

  abbrev pub signalled : ℕ → Bool → Rest
  signalled n hit = (when hit then gives (leaves tt) otherwise do
    sleeps
    gives (repeats tt)) (past n)

  abbrev pub flagged : ℕ → Bool → Rest
  flagged n hit = (when hit then gives (leaves tt) otherwise do
    signal ← looks st
    when signal then gives (leaves tt) otherwise do
      sleeps
      gives (repeats tt)) (past n)

  -- the try after the store of the entry
  abbrev pub tried_by : Bool → Rest
  tried_by clear = (when clear
      then (do makes (event.Unqueue me); unlocks on; gives (number 0))
      otherwise (do unlocks on; awaits_page me on st)) ends

  abbrev pub worn_out : Rest
  worn_out = tries p 0 (λ clear. ends (if clear then number 0 else answer.Worn))

  abbrev pub after_put : Bool → Phrase Answer
  after_put s = when not s
      then (do unlocks on; clear ← tries p 0; gives (if clear then number 0 else answer.Worn))
      otherwise do
        clear ← tries p 0
        when clear
            then (do makes (event.Unqueue me); unlocks on; gives (number 0))
            otherwise (do unlocks on; awaits_page me on st)

  abbrev pub entered : Bool → Rest
  entered s = after_put s ends

  abbrev pub puts : Rest
  puts = puts_in on forms.Tail entered

  -- after the first try
  abbrev pub begun : Bool → Rest
  begun clear = (when clear then gives (number 0) otherwise do
    makes event.Unflag
    locks on
    entered ← puts_in on forms.Tail
    after_put entered) ends

  abbrev pub stored : ℕ → Rest
  stored n = turns n round tt (λ _. finishes me on true (λ _. last))

  abbrev pub point_rest : PagePoint → Rest
  point_rest paging.First = tries p 0 begun
  point_rest paging.Unflag = makes event.Unflag (λ _. locks on (λ _. puts))
  point_rest paging.Lock = locks on (λ _. puts)
  point_rest paging.Queue = puts
  point_rest paging.Try = tries p 0 tried_by
  point_rest paging.Off = makes (event.Unqueue me) (λ _. unlocks on (λ _. ends (number 0)))
  point_rest (paging.Unlock true) = unlocks on (λ _. ends (number 0))
  point_rest (paging.Unlock false) = unlocks on (λ _. awaits_page me on st ends)
  point_rest paging.State = Some_turns stored
  point_rest paging.Flag = Some_turns (λ n. finds event.Flag (flagged n))
  point_rest paging.Look = Some_turns (λ n. finds event.Look (signalled n))
  point_rest paging.Sleep = Some_turns (λ n. signalled n false)
  point_rest (paging.Finish q) = finish_rest me locker true q last
  point_rest paging.Last = last
  point_rest paging.Clear = makes event.Unflag (λ _. ends (number 0))

  abbrev pub page_rest : Noted → Point → Rest
  page_rest m (at.Page q) = point_rest q
  page_rest m at.Worn = worn_out
  page_rest m _ = anything

  module _ (m : Noted) where
    abbrev L : Planned → Rest → Type 0
    L = Says page_rest m

    abbrev pub tas : Bool → Event
    tas was_set = event.Tas p 0 (flag was_set)

    begin_said : (was_set : Bool) → L (if was_set then go (tas was_set) (at.Page paging.Unflag)
        else ends_with (tas was_set) zero_answer) (point_rest paging.First)
    begin_said true v a h = (true, (refl, h))
    begin_said false v a h = (false, (refl, h))

    queue_said : (worn : Bool) → L (page_queue locker worn) puts
    queue_said true v a h = (true, (refl, h))
    queue_said false v a h = (false, (refl, h))

    worn_said : (was_set : Bool) → L (if was_set then ends_with (tas was_set) answer.Worn
        else ends_with (tas was_set) zero_answer) worn_out
    worn_said true v a h = (true, (refl, h))
    worn_said false v a h = (false, (refl, h))

    try_said : (was_set : Bool) → L (go (tas was_set)
        (at.Page (if was_set then paging.Unlock false else paging.Off))) (point_rest paging.Try)
    try_said true v a h = (true, (refl, h))
    try_said false v a h = (false, (refl, h))

    looks_said : (k : Bool) (v : List Event) (a : Answer)
        → page_rest m (at.Page (if k then paging.Look else paging.Sleep)) v a
        → (n : ℕ) × (when k then finds event.Look otherwise gives false) (signalled n) v a
    looks_said true v a h = h
    looks_said false v a h = h

    flag_said : (hit : Bool) → L (go (event.Flag hit)
        (at.Page (if hit then paging.Finish finishing.State else if looks_in st then paging.Look else paging.Sleep)))
        (point_rest paging.Flag)
    flag_said true v a h = (zero, (true, (refl, h)))
    flag_said false v a h = let (n, x) = looks_said (looks_in st) v a h in (n, (false, (refl, x)))

    look_said : (hit : Bool) → L (go (event.Look hit)
        (at.Page (if hit then paging.Finish finishing.State else paging.Sleep))) (point_rest paging.Look)
    look_said true v a h = (zero, (true, (refl, h)))
    look_said false v a h = (h.0, (false, (refl, h.1)))

    stands_said : (there : Bool) → L (if there
        then go (event.Queued true) (at.Page (paging.Finish finishing.Lock))
        else go (event.Queued false) (at.Page paging.Last)) (finish_rest me locker true finishing.Look last)
    stands_said true v a h = (true, (refl, h))
    stands_said false v a h = (false, (refl, h))

    off_said : (there : Bool) → L (if there
        then go (event.Unqueue me) (at.Page (paging.Finish finishing.Unlock))
        else go (event.Unlock (head_of on) false) (at.Page paging.Last))
        (finish_rest me locker true finishing.Queue last)
    off_said true v a h = (true, (refl, h))
    off_said false v a h = (false, (refl, h))

    finish_said : (q : FinishPoint) (seen : Seen) → L (page_finish_event me locker q seen)
        (finish_rest me locker true q last)
    finish_said finishing.Look seen v a h = stands_said (is_some seen.entry) v a h
    finish_said finishing.Queue seen v a h = off_said (is_some seen.entry) v a h
    finish_said _ seen v a h = (refl, h)

    last_said : (hit : Bool) → L (page_last hit) last
    last_said true v a h = (true, (refl, h))
    last_said false v a h = (false, (refl, h))

    point_said : (q : PagePoint) (seen : Seen) → L (page_event me locker q seen) (point_rest q)
    point_said paging.First seen v a h = begin_said (bit_at seen.value 0) v a h
    point_said paging.Queue seen v a h = queue_said seen.worn v a h
    point_said paging.Try seen v a h = try_said (bit_at seen.value 0) v a h
    point_said (paging.Unlock true) seen v a h = (refl, h)
    point_said paging.State seen v a h = (suc h.0, (refl, h.1))
    point_said paging.Flag seen v a h = flag_said seen.flag v a h
    point_said paging.Look seen v a h = look_said (pending (state_mask st) seen.own) v a h
    point_said paging.Sleep seen v a h = (h.0, (sleep_of seen.own, (refl, h.1)))
    point_said (paging.Finish q) seen v a h = finish_said q seen v a h
    point_said paging.Last seen v a h = last_said seen.flag v a h
    point_said _ seen v a h = (refl, h)

    pub page_said : (q : Point) (seen : Seen) → Knows locker q m seen → L (program me locker q seen) (page_rest m q)
    page_said (at.Page q) seen k v a h = point_said q seen v a h
    page_said at.Worn seen k v a h = worn_said (bit_at seen.value 0) v a h
    page_said q seen k v a h = tt
