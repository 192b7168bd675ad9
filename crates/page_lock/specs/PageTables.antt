-- To be believed.
-- A wait for a page: its stages, where it goes on behind each, and what its places say of what the task asks for and of
-- its last steps.
use Rattle.std.specs.Prelude.{ℕ, ◌≡◌, ◌<◌, ◌⊎◌, Bool, true, false, if◌then◌else◌, None, List, [], ◌∷◌, ◌++◌}
use Rattle.wait_model.specs.{declared.layout.TheConstants.BIT_WORDS, declared.calls.Answer.Answer}
use Rattle.wait_model.specs.{declared.calls.Call.Call, declared.points.Point.Point, declared.points.Seen.Seen}
use Rattle.wait_model.specs.{declared.steps.Step.Step, declared.tasks.SleepState.SleepState}
use Rattle.wait_model.specs.{declared.watches.Entry.Entry, declared.watches.Watch.Watch, Programs.interrupted}
use Rattle.wait_model.specs.{Programs.zero_answer, PointFacts.absent, Views.shown, Watches.head_of, Watches.page}
use Rattle.wait_model.specs.Words.{bit_at}
use Rattle.wait_model.specs.Tasks.{looks_in, pending, state_mask, task_of}
use Rattle.wait_model.specs.declared.calls.Answer.TheVariants as answer
use Rattle.wait_model.specs.declared.calls.Call.TheVariants as calls
use Rattle.wait_model.specs.declared.points.FinishPoint.TheVariants as finishing
use Rattle.wait_model.specs.declared.points.PagePoint.TheVariants as paging
use Rattle.wait_model.specs.declared.points.Point.TheVariants as at
use Rattle.wait_model.specs.declared.steps.Step.TheVariants as step
use Rattle.wait_rule.specs.{Bits.KeepsBitOf, Known.Known, Quiet.is_quiet_at, Quiet.is_told, Tickets.no_ticket}
use Rattle.wait_rule.specs.Asked.{nothing_asked, waits_for, was_given}
use Rattle.wait_rule.specs.Says.{asks_for, history_of, told_of}
use Rattle.wait_class.specs.{Findings.saw_nothing, declared.stages.Doing.Doing, declared.stages.Turn.Turn}
use Rattle.wait_class.specs.Posts.{EndsWith, FoundWorn, Post, own_of}
use Rattle.wait_class.specs.Tables.{CallTable, call_plan, has_sleep}
use Rattle.wait_class.specs.declared.stages.Doing.TheVariants as doing
use Rattle.wait_class.specs.declared.stages.Turn.TheVariants as turn
use Rattle.wait_leave.specs.Leaves.{with_asked}
use Rattle.page_lock.specs.{PageStays.PageKeeps, declared.waits.LockPage.LockPage}
use Rattle.page_lock.specs.{declared.waits.PageOutcome.PageOutcome, declared.waits.PageStage.PageStage}
use Rattle.page_lock.specs.PageEnds.{FoundNoPlaceForPage, WasPageInterrupted, WasPageLeft, are_calm}
use Rattle.page_lock.specs.declared.waits.PageOutcome.TheVariants as outcome
use Rattle.page_lock.specs.declared.waits.PageStage.TheVariants as stage

-- The stages: the point of the program, what is done there, and whether the ticket of its lock is drawn.
abbrev pub page_point_at : PageStage → Point
page_point_at stage.First = at.Page paging.First
page_point_at stage.Unflag = at.Page paging.Unflag
page_point_at stage.QueueLock = at.Page paging.Lock
page_point_at stage.QueueTurn = at.Page paging.Lock
page_point_at stage.Queue = at.Page paging.Queue
page_point_at stage.Try = at.Page paging.Try
page_point_at stage.Off = at.Page paging.Off
page_point_at (stage.QueueUnlock got) = at.Page (paging.Unlock got)
page_point_at stage.Worn = at.Worn
page_point_at stage.State = at.Page paging.State
page_point_at stage.Flag = at.Page paging.Flag
page_point_at stage.Look = at.Page paging.Look
page_point_at stage.Sleep = at.Page paging.Sleep
page_point_at stage.FinishState = at.Page (paging.Finish finishing.State)
page_point_at stage.FinishLook = at.Page (paging.Finish finishing.Look)
page_point_at stage.FinishLock = at.Page (paging.Finish finishing.Lock)
page_point_at stage.FinishTurn = at.Page (paging.Finish finishing.Lock)
page_point_at stage.FinishQueue = at.Page (paging.Finish finishing.Queue)
page_point_at stage.FinishUnlock = at.Page (paging.Finish finishing.Unlock)
page_point_at stage.Last = at.Page paging.Last
page_point_at stage.Clear = at.Page paging.Clear

abbrev pub page_doing : PageStage → Doing
page_doing stage.QueueLock = doing.Draw
page_doing stage.QueueTurn = doing.Lock
page_doing (stage.QueueUnlock got) = doing.Unlock
page_doing stage.State = doing.State
page_doing stage.Look = doing.Look
page_doing stage.Sleep = doing.Sleep
page_doing stage.FinishState = doing.State
page_doing stage.FinishLook = doing.Peek
page_doing stage.FinishLock = doing.Draw
page_doing stage.FinishTurn = doing.Lock
page_doing stage.FinishQueue = doing.Pare
page_doing stage.FinishUnlock = doing.Unlock
page_doing _ = doing.Own

abbrev pub is_page_turn : PageStage → Bool
is_page_turn stage.QueueTurn = true
is_page_turn stage.FinishTurn = true
is_page_turn _ = false

-- the stages of own events of which there are several: test-and-sets, and looks at the flag
abbrev pub TriesAt : PageStage → Type 0
TriesAt stage.First = Unit {0}
TriesAt stage.Try = Unit {0}
TriesAt stage.Worn = Unit {0}
TriesAt _ = ⊥

abbrev pub FlagsAt : PageStage → Type 0
FlagsAt stage.Flag = Unit {0}
FlagsAt stage.Last = Unit {0}
FlagsAt _ = ⊥

-- the call has the page by the task's own history
abbrev pub page_took : PageStage → Bool
page_took stage.Off = true
page_took (stage.QueueUnlock got) = got
page_took _ = false

abbrev pub is_page_over : PageOutcome → Bool
is_page_over outcome.Over = true
is_page_over _ = false

-- how many events are left at most until no head is held
abbrev pub page_depth : PageStage → ℕ
page_depth stage.Queue = 4
page_depth stage.Try = 3
page_depth stage.Off = 2
page_depth (stage.QueueUnlock got) = 1
page_depth stage.FinishQueue = 2
page_depth stage.FinishUnlock = 1
page_depth _ = 5

-- where a wait goes on behind a draw, behind a lock, an unlock and a store of a state, by what it found, and behind its
-- test-and-set and its look at the flag
abbrev pub PageTurn : Type 0
PageTurn = Turn PageStage PageOutcome

abbrev pub drawn_to : PageStage → PageStage
drawn_to stage.QueueLock = stage.QueueTurn
drawn_to stage.FinishLock = stage.FinishTurn
drawn_to s = s

abbrev pub page_next_of : PageStage → PageTurn
page_next_of stage.QueueTurn = turn.Again stage.Queue
page_next_of (stage.QueueUnlock true) = turn.Done outcome.Over
page_next_of (stage.QueueUnlock false) = turn.Again stage.State
page_next_of stage.State = turn.Again stage.Flag
page_next_of stage.FinishState = turn.Again stage.FinishLook
page_next_of stage.FinishTurn = turn.Again stage.FinishQueue
page_next_of stage.FinishUnlock = turn.Again stage.Last
page_next_of s = turn.Again s

abbrev pub page_found_to : PageStage → Bool → PageTurn
page_found_to stage.Look hit = if hit then turn.Again stage.FinishState else turn.Again stage.Sleep
page_found_to stage.FinishLook hit = if hit then turn.Again stage.FinishLock else turn.Again stage.Last
page_found_to stage.FinishQueue hit = if hit then turn.Again stage.FinishUnlock else turn.Again stage.Last
page_found_to s hit = turn.Again s

abbrev pub page_tried_to : PageStage → Bool → PageTurn
page_tried_to stage.Try set = if set then turn.Again (stage.QueueUnlock false) else turn.Again stage.Off
page_tried_to stage.Worn set = if set then turn.Done outcome.Worn else turn.Done outcome.Over
page_tried_to _ set = if set then turn.Again stage.Unflag else turn.Done outcome.Over

abbrev pub flagged_to : LockPage → PageStage → Bool → PageTurn
flagged_to r stage.Last hit = if hit then turn.Again stage.Clear else turn.Done outcome.Interrupted
flagged_to r _ hit = if hit then turn.Again stage.FinishState
    else if looks_in r.state then turn.Again stage.Look else turn.Again stage.Sleep

abbrev pub page_state_at : LockPage → PageStage → ℕ
page_state_at r stage.State = state_mask r.state
page_state_at r _ = 0

-- where a wait goes on that was put asleep
abbrev pub is_behind_sleep : PageStage → Bool
is_behind_sleep stage.State = true
is_behind_sleep _ = false

abbrev pub answer_to_page : PageOutcome → Answer
answer_to_page outcome.Over = zero_answer
answer_to_page outcome.Interrupted = interrupted
answer_to_page outcome.Worn = answer.Worn

-- the page that the call waits for, and the call
abbrev pub page_in : LockPage → Watch
page_in r = page r.page

abbrev pub page_head_in : LockPage → ℕ
page_head_in r = head_of (page_in r)

abbrev pub page_call : LockPage → Call
page_call r = calls.LockPage r.page r.state

-- the numbers of a wait are in their ranges
abbrev pub IsRunningPageWait : LockPage → Type 0
IsRunningPageWait r = r.page < BIT_WORDS

-- a wait that has not begun
pub record IsFreshPageWait (r : LockPage) (p : ℕ) (st : SleepState) : Type 0 where
  pub page : r.page ≡ p
  pub state : r.state ≡ st
  pub unasked : r.asked ≡ false

-- The wait has ended: the task is RUNNING, holds no head, and its entry is off.
abbrev pub page_end_post : LockPage → PageOutcome → Post
page_end_post r o = record {
  head = None;
  ticket = no_ticket;
  stirs = false;
  state = state_mask r.state;
  zone = absent;
  watch = page_in r;
}

-- what the flag shows
abbrev pub with_flag : Bool → Seen
with_flag hit = record saw_nothing { flag = hit }

-- what a test-and-set of the page adds, as the last one found it
abbrev pub tries_page : LockPage → List Step
tries_page r = step.Consume (page_in r) 1 r.seen ∷ []

-- its first test-and-set found the page set, and it made these steps behind it
pub record FoundFirst (k : Known) (r : LockPage) (es : List Step) : Type 0 where
  pub tried : EndsWith k (step.Consume (page_in r) 1 r.seen ∷ es)
  pub set : bit_at r.seen 0 ≡ true

-- The test-and-set that was made as soon as the entry was queued, in the same hold, found the page set. The task has
-- tried it no more since.
pub record FoundSet (k : Known) (r : LockPage) : Type 0 where
  pub before : List Step
  pub entry : Entry
  pub more : List Step
  pub ends : history_of k ≡ before ++ (step.Queue (own_of k) entry ∷ step.Consume (page_in r) 1 r.seen ∷ more)
  pub set : bit_at r.seen 0 ≡ true
  pub calm : are_calm more ≡ true

-- After that the own word showed a signal that the state admits. The task has not slept since.
pub record FoundPageSignal (k : Known) (r : LockPage) : Type 0 where
  pub found : FoundSet k r
  pub front : List Step
  pub look : ℕ
  pub later : List Step
  pub looked : found.more ≡ front ++ (step.Look look ∷ later)
  pub pends : pending (state_mask r.state) (task_of look) ≡ true
  pub awake : has_sleep later ≡ false

-- The task asks for no page; since it cleared its flag a page alone sets it; and it has been given the page that it
-- waited for.
abbrev pub IsUnasked : Known → Type 0
IsUnasked k = asks_for k ≡ nothing_asked

abbrev pub IsQuiet : Known → Type 0
IsQuiet k = is_quiet_at (own_of k) (history_of k) ≡ true

abbrev pub IsGiven : Known → LockPage → Type 0
IsGiven k r = asks_for k ≡ was_given (own_of k) r.page

-- it has queued its entry for the page, in the hold that it is in
pub record HasJoinedPage (k : Known) (r : LockPage) : Type 0 where
  pub asks : asks_for k ≡ waits_for (own_of k) r.page
  pub quiet : IsQuiet k
  pub entry : Entry
  pub shows : (told_of k).hold.book (own_of k) ≡ shown entry
  pub ends : EndsWith k (step.Queue (own_of k) entry ∷ [])

-- and it has taken the page in it
pub record HasGotPage (k : Known) (r : LockPage) : Type 0 where
  pub asks : asks_for k ≡ waits_for (own_of k) r.page
  pub entry : Entry
  pub shows : (told_of k).hold.book (own_of k) ≡ shown entry
  pub keeps : KeepsBitOf k (page_in r)

-- it has found the page set, and waits for it
pub record IsWaitingForPage (k : Known) (r : LockPage) : Type 0 where
  pub asks : asks_for k ≡ waits_for (own_of k) r.page
  pub quiet : IsQuiet k
  pub found : FoundSet k r

-- it waits no more: it was asked to leave; or its flag told of the page, or it found a signal
abbrev pub WhyOut : Bool → Known → LockPage → Type 0
WhyOut true k r = Unit {0}
WhyOut false k r = (is_told (own_of k) (history_of k) ≡ true) ⊎ FoundPageSignal k r

abbrev pub HasLeftPage : Known → LockPage → Type 0
HasLeftPage k r = WhyOut r.asked k r

-- its entry is off: it found it off, and has been given the page, or it took it off itself
pub record IsPageOff (k : Known) (r : LockPage) : Type 0 where
  pub asks : IsGiven k r ⊎ IsUnasked k
  pub quiet : IsQuiet k
  pub found : FoundSet k r

-- what a stage says of what the task asks for, and of the last steps
abbrev pub PageWaitTrail : Known → LockPage → PageStage → Type 0
PageWaitTrail k r stage.First = IsUnasked k
PageWaitTrail k r stage.Unflag = IsUnasked k × FoundFirst k r []
PageWaitTrail k r stage.QueueLock = (IsUnasked k × IsQuiet k) × FoundFirst k r (step.Unflag (own_of k) None ∷ [])
PageWaitTrail k r stage.QueueTurn = IsUnasked k × IsQuiet k
PageWaitTrail k r stage.Queue = IsUnasked k × IsQuiet k
PageWaitTrail k r stage.Try = HasJoinedPage k r
PageWaitTrail k r stage.Off = HasGotPage k r
PageWaitTrail k r (stage.QueueUnlock true) = IsUnasked k × KeepsBitOf k (page_in r)
PageWaitTrail k r (stage.QueueUnlock false) = IsWaitingForPage k r
PageWaitTrail k r stage.Worn = IsUnasked k × FoundWorn k (page_head_in r) r.place []
PageWaitTrail k r stage.State = IsWaitingForPage k r
PageWaitTrail k r stage.Flag = IsWaitingForPage k r
PageWaitTrail k r stage.Look = IsWaitingForPage k r
PageWaitTrail k r stage.Sleep = IsWaitingForPage k r
PageWaitTrail k r stage.FinishUnlock = IsPageOff k r × HasLeftPage k r
PageWaitTrail k r stage.Last = IsPageOff k r × HasLeftPage k r
PageWaitTrail k r stage.Clear = IsGiven k r
PageWaitTrail k r _ = IsWaitingForPage k r × HasLeftPage k r

-- the cause of an end: a wait that failed was asked to leave, or a signal ended it
abbrev pub WhyPageFailed : Bool → Known → LockPage → Type 0
WhyPageFailed true k r = WasPageLeft k r.page r.seen
WhyPageFailed false k r = WasPageInterrupted k r.page r.state r.seen

abbrev pub PageCauseIn : Known → LockPage → PageOutcome → Type 0
PageCauseIn k r outcome.Over = Unit {0}
PageCauseIn k r outcome.Interrupted = WhyPageFailed r.asked k r
PageCauseIn k r outcome.Worn = FoundNoPlaceForPage k r.page (page_head_in r) r.place

-- The answer has its cause; the task keeps the page where it took it, and asks for none any more.
pub record PageEndTrail (k : Known) (r : LockPage) (o : PageOutcome) : Type 0 where
  pub cause : PageCauseIn k r o
  pub keeps : is_page_over o ≡ true → KeepsBitOf k (page_in r)
  pub asks : IsUnasked k

abbrev pub page_table : CallTable LockPage PageStage PageOutcome
page_table = record {
  plan_of = λ r. with_asked r.asked (call_plan (page_call r));
  Fits = IsRunningPageWait;
  worn_at = λ r p. record r { place = p };
  joined_at = λ r s. r;
  point_of = page_point_at;
  doing = page_doing;
  drawn = is_page_turn;
  took = page_took;
  depth = page_depth;
  drawn_to = drawn_to;
  next_of = λ r s. page_next_of s;
  noted = λ r s v. r;
  loaded_to = λ r s v. turn.Again s;
  found_to = λ r s hit. page_found_to s hit;
  heeded_to = λ r s hit. turn.Again s;
  slept_to = λ r s. stage.State;
  asleep_at = is_behind_sleep;
  added_to = λ r s a. turn.Again s;
  state_at = page_state_at;
  answer_of = answer_to_page;
  has_taken = is_page_over;
  end_post = page_end_post;
  Tells = λ r q ts. Unit {0};
  Trail = PageWaitTrail;
  TrailEnd = PageEndTrail;
  Keeps = PageKeeps;
}
