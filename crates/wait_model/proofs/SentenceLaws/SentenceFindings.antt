-- In every state of a run a task knows what the sentence of its call needs of what it finds.
use Rattle.std.proofs.lemmas.Bool.{both_ways}
use Rattle.std.proofs.lemmas.Bool.Decides.{eqb_tells, nat_tests}
use Rattle.std.proofs.Common.{refl, sym, ap, ◌∙◌, subst, arith, inl, inr}
use Rattle.std.specs.Prelude.{ℕ, ◌≡◌, ◌≢◌, ◌==◌, ◌+◌, ◌<◌, ◌≤◌, nat_lt, Bool, true, false, ◌&&◌, if◌then◌else◌, List}
use Rattle.std.specs.Prelude.{[], ◌∷◌, Option, Some, None, is_some}
use Rattle.wait_model.specs.{declared.calls.Call.Call, declared.calls.Event.Event, declared.calls.Ran.Ran}
use Rattle.wait_model.specs.{declared.points.Given.Given, declared.points.Next.Next, declared.points.Point.Point}
use Rattle.wait_model.specs.{declared.points.Progress.Progress, declared.queues.Member.Member, declared.steps.Step.Step}
use Rattle.wait_model.specs.{declared.watches.Entry.Entry, declared.watches.Watch.Watch, DoneCounts.IsDoneStore}
use Rattle.wait_model.specs.{Facts.Kept, Facts.Facts, Programs.program_start, declared.watches.Kind.Kind}
use Rattle.wait_model.specs.{SentenceWalks.shares_head, Fold.after, Words.head_word, Words.Suited, Views.View}
use Rattle.wait_model.specs.Tasks.{task_word}
use Rattle.wait_model.specs.declared.layout.TheConstants.{BREAK, ALL_DONE, EVENTS}
use Rattle.wait_model.specs.Points.{call_watch, call_head, given_at}
use Rattle.wait_model.specs.Queues.{IsIn, Arrival, arrive, is_entry, members_from, rank_at}
use Rattle.wait_model.specs.Reached.{IsMember, IsLinked, IsSoundCall, IsSound, HomeAt, held_at}
use Rattle.wait_model.specs.Rows.{Reads, Allowed, AllAllowed}
use Rattle.wait_model.specs.Runs.{State, own, given_by, event_steps, planned, seen_by, happens, arrives_from}
use Rattle.wait_model.specs.Runs.{progress_at, progress_after, called_by, Continues, IsItem, IsRunFrom, IsRun, made_in}
use Rattle.wait_model.specs.Runs.{start_state}
use Rattle.wait_model.specs.Tables.{Table, Words, value_of, next as step_to, steps}
use Rattle.wait_model.specs.Watches.{counted, same, IsThere, head_of, is_done, is_for, owner}
use Rattle.wait_model.specs.Findings.{Noted, none_noted, notes, is_waiting, MayComeTo}
use Rattle.wait_model.specs.declared.calls.Call.TheVariants as calls
use Rattle.wait_model.specs.declared.calls.Event.TheVariants as event
use Rattle.wait_model.specs.declared.calls.Ran.TheVariants as ran
use Rattle.wait_model.specs.declared.points.Next.TheVariants as next
use Rattle.wait_model.specs.declared.points.Point.TheVariants as at
use Rattle.wait_model.specs.declared.points.WalkPoint.TheVariants as walking
use Rattle.wait_model.specs.declared.points.Progress.TheVariants as now
use Rattle.wait_model.specs.declared.steps.Step.TheVariants as step
use Rattle.wait_model.specs.declared.watches.Watch.TheVariants as watch
use Rattle.wait_model.proofs.{QueueLaws.Arrivals.from_in, QueueLaws.MemberStands.member_is, WordLaws.CondWords.set_rest}
use Rattle.wait_model.proofs.{WordLaws.CondWords.head_counted, WordLaws.DecodedWords.owner_own}
use Rattle.wait_model.proofs.{AccountLaws.DoneStores.event_stored, StepLaws.KeptLaws.step_keeps}
use Rattle.wait_model.proofs.{HistoryLaws.HoldLooks.looks_same, HistoryLaws.HoldLooks.steps_other}
use Rattle.wait_model.proofs.{HistoryLaws.UnlockedLooks.peeks_same, StepLaws.TableLaws.AllSteps}
use Rattle.wait_model.proofs.SentenceLaws.SentenceRests.{Knows}
use Rattle.wait_model.proofs.RunLaws.EveryRun.{IsMade, made_of, made_sound, opened_sound, start_sound}
use Rattle.wait_model.proofs.Functions.{put_at, put_same, put_other}

-- what is known of a task that stands at this progress
abbrev pub ReadyBy : Table → ℕ → Noted → Progress → Type 0
ReadyBy b t m now.Fresh = Unit {0}
ReadyBy b t m now.Idle = Unit {0}
ReadyBy b t m (now.Open call p) = (is_waiting call ≡ true → m.queued ≡ false → b.entry (own t) ≡ None)
    × (is_done (call_watch call) ≡ true → m.loaded ≡ true → (b.view t).hold.head ≡ Some (call_head call)
    → value_of b.words (call_watch call) ≡ m.count)

-- the counts are in their range
abbrev pub IsRangedAt : Table → Type 0
IsRangedAt b = (d : ℕ) → b.words.dones d ≤ ALL_DONE

ranged_step : (b : Table) (a : ℕ) (e : Step) → IsDoneStore e → IsRangedAt b → IsRangedAt (step_to b a e)
ranged_step b a (step.Publish (watch.Done c) n r) q k d = put_at (λ (v : ℕ). v ≤ ALL_DONE) b.words.dones c n
    d (λ _. q.0) (λ _. k d)
ranged_step b a (step.Consume (watch.Done c) n r) q k d = put_at (λ (v : ℕ). v ≤ ALL_DONE) b.words.dones c n
    d (λ _. q.0) (λ _. k d)
ranged_step b a e q k d = k d

ranged_steps : (b : Table) (a : ℕ) (es : List Step) → AllSteps IsDoneStore es → IsRangedAt b → IsRangedAt (steps b a es)
ranged_steps b a [] q k = k
ranged_steps b a (e ∷ es) q k = ranged_steps (step_to b a e) a es q.1 (ranged_step b a e q.0 k)

-- another task queues no entry of this one
entry_step : (b : Table) (a t : ℕ) (e : Step) → t ≢ a → Allowed b a e → b.entry (own t) ≡ None
    → (step_to b a e).entry (own t) ≡ None
entry_step b a t (step.Queue x e) ne al h = put_at (λ o. o ≡ None) b.entry x (Some e) (own t)
    (λ q. absurd (ne (sym (owner_own t) ∙ ap owner q ∙ al.0))) (λ _. h)
entry_step b a t (step.Unqueue x) ne al h = put_at (λ o. o ≡ None) b.entry x None (own t) (λ _. refl) (λ _. h)
entry_step b a t e ne al h = h

entry_steps : (b : Table) (a t : ℕ) (es : List Step) → t ≢ a → AllAllowed b a es → b.entry (own t) ≡ None
    → (steps b a es).entry (own t) ≡ None
entry_steps b a t [] ne al h = h
entry_steps b a t (e ∷ es) ne al h = entry_steps (step_to b a e) a t es ne al.1 (entry_step b a t e ne al.0 h)

-- another task leaves a count as it is while this one holds its head
count_step : (b : Table) (a t d : ℕ) (e : Step) → t ≢ a → Facts b → Allowed b a e
    → (b.view t).hold.head ≡ Some (head_of (watch.Done d)) → (step_to b a e).words.dones d ≡ b.words.dones d
count_step b a t d (step.Publish (watch.Done c) n r) ne f al h = put_other b.words.dones c n d
    (λ q. ne (f.one_holder t a (head_of (watch.Done d)) h
    (subst (λ (i : ℕ). (b.view a).hold.head ≡ Some (head_of (watch.Done i))) (sym q) al.0)))
count_step b a t d (step.Consume (watch.Done c) n r) ne f al h = put_other b.words.dones c n d
    (λ q. ne (f.one_holder t a (head_of (watch.Done d)) h
    (subst (λ (i : ℕ). (b.view a).hold.head ≡ Some (head_of (watch.Done i))) (sym q) al.1)))
count_step b a t d e ne f al h = refl

count_steps : (b : Table) (a t d : ℕ) (es : List Step) → t ≢ a → Kept b → AllAllowed b a es
    → (b.view t).hold.head ≡ Some (head_of (watch.Done d)) → (steps b a es).words.dones d ≡ b.words.dones d
count_steps b a t d [] ne k al h = refl
count_steps b a t d (e ∷ es) ne k al h = count_steps (step_to b a e) a t d es ne (step_keeps b a e k al.0) al.1
    (ap (λ (v : View). v.hold.head) (put_other b.view a _ t ne) ∙ h) ∙ count_step b a t d e ne k.facts al.0 h

value_steps : (b : Table) (a t : ℕ) (c : Watch) (es : List Step) → t ≢ a → Kept b → AllAllowed b a es → is_done c ≡ true
    → (b.view t).hold.head ≡ Some (head_of c) → value_of (steps b a es).words c ≡ value_of b.words c
value_steps b a t (watch.Done d) es ne k al q h = count_steps b a t d es ne k al h
value_steps b a t _ es ne k al q h = absurd (cc)

pub other_ready : (b : Table) (a t : ℕ) (es : List Step) (m : Noted) (p : Progress) → t ≢ a → Kept b → AllAllowed b a es
    → ReadyBy b t m p → ReadyBy (steps b a es) t m p
other_ready b a t es m now.Fresh ne k al r = tt
other_ready b a t es m now.Idle ne k al r = tt
other_ready b a t es m (now.Open call p) ne k al r = (
  λ w q. entry_steps b a t es ne al (r.0 w q),
  λ d l h.
      let held : (b.view t).hold.head ≡ Some (call_head call) =
      sym (ap (λ (v : View). v.hold.head) (steps_other b a t es ne)) ∙ h in
      value_steps b a t (call_watch call) es ne k al d held ∙ r.1 d l held,
)

-- the own events: no entry is queued but by `queue`
own_entry : (s : State) (me : ℕ) (g : Given) (m : Noted) (e : Event) → (notes m e).queued ≡ false
    → s.table.entry (own me) ≡ None → (steps s.table me (event_steps s me g e)).entry (own me) ≡ None
own_entry s me g m (event.Queue h form) q o = absurd (cc)
own_entry s me g m (event.Unqueue who) q o = put_at (λ x. x ≡ None) s.table.entry (own who) None
    (own me) (λ _. refl) (λ _. o)
own_entry s me g m (event.Lock h) q o = ap (λ (f : ℕ → Option Entry). f (own me))
    (looks_same (step_to s.table me (step.Lock h g.walk (head_word (s.table.holder h) (s.table.spent h))))
    s.table.entry me).entry ∙ o
own_entry s me g m (event.Active h hit) q o = ap (λ (f : ℕ → Option Entry). f (own me))
    (peeks_same s.table s.table.entry me).entry ∙ o
own_entry s me g m (event.Set c v) q o = ap (λ (f : ℕ → Option Entry). f (own me))
    (set_rest s.table me g.watch v (value_of s.table.words g.watch)).entry ∙ o
own_entry s me g m e q o = o

-- a count stays as it was loaded, or is loaded
reads_value : (w : Words) (c : Watch) (r : ℕ) → is_done c ≡ true → Reads w c r → value_of w c ≡ r
reads_value w (watch.Done c) r d h = sym h
reads_value w _ r d h = absurd (cc)

own_value : (s : State) (me : ℕ) (call : Call) (p : Point) (m : Noted) (e : Event)
    → AllAllowed s.table me (event_steps s me (given_at call p) e) → is_done (call_watch call) ≡ true
    → (m.loaded ≡ true → (s.table.view me).hold.head ≡ Some (call_head call)
    → value_of s.table.words (call_watch call) ≡ m.count)
    → (notes m e).loaded ≡ true → ((steps s.table me (event_steps s me (given_at call p) e)).view me).hold.head ≡ Some
    (call_head call)
    → value_of (steps s.table me (event_steps s me (given_at call p) e)).words (call_watch call) ≡ (notes m e).count
own_value s me call p m (event.Load c v) al d r l h = reads_value s.table.words (call_watch call) v d al.0
own_value s me call p m (event.State v) al d r l h =
    r l (sym (ap (λ (v : View). v.hold.head) (put_same s.table.view me (after (step.State v) (s.table.view me)))) ∙ h)
own_value s me call p m (event.Look hit) al d r l h =
    r l (sym (ap (λ (v : View). v.hold.head) (put_same s.table.view me (after (step.Look (task_word (s.table.task me)))
    (s.table.view me)))) ∙ h)
own_value s me call p m (event.Unqueue who) al d r l h =
    r l (sym (ap (λ (v : View). v.hold.head)
    (put_same s.table.view me (after (step.Unqueue (own who)) (s.table.view me)))) ∙ h)
own_value s me call p m e al d r l h = absurd (cc)

own_ready : (s : State) (me : ℕ) (call : Call) (p : Point) (m : Noted) (e : Event) (n : Next)
    → AllAllowed s.table me (event_steps s me (given_at call p) e) → ReadyBy s.table me m (now.Open call p)
    → ReadyBy (steps s.table me (event_steps s me (given_at call p) e)) me (notes m e) (progress_at call n)
own_ready s me call p m e (next.Ends a) al r = tt
own_ready s me call p m e (next.Go q) al r = (
  λ w z. own_entry s me (given_at call p) m e z (r.0 w (still m e z)),
  λ d. own_value s me call p m e al d (r.1 d),
)
  where
    still : (m : Noted) (e : Event) → (notes m e).queued ≡ false → m.queued ≡ false
    still m (event.Queue h form) z = absurd (cc)
    still m e z = z

own_by : (s : State) (me : ℕ) (m : Noted) (e : Event) (found : ℕ) (p : Progress)
    → AllAllowed s.table me (event_steps s me (given_by p) e) → Continues s me p e found → ReadyBy s.table me m p
    → ReadyBy (steps s.table me (event_steps s me (given_by p) e)) me (notes m e) (progress_after s me p)
own_by s me m e found now.Fresh al c r = absurd c
own_by s me m e found now.Idle al c r = absurd c
own_by s me m e found (now.Open call p) al c r = own_ready s me call p m e (planned s me call p).next al r

-- an opening
start_off : (call : Call) (o : Option Entry) → is_waiting call ≡ true → HomeAt (now.Open call (program_start call)) o
    → o ≡ None
start_off (calls.Wait c how) None w h = refl
start_off (calls.SimpleWait c st) None w h = refl
start_off (calls.WaitFor d st) None w h = refl
start_off (calls.WaitBit i b st) None w h = refl
start_off (calls.LockBit i b st) None w h = refl
start_off (calls.WaitVar v old st) None w h = refl
start_off (calls.LockPage i st) None w h = refl
start_off (calls.Wait c how) (Some e) w h = absurd h
start_off (calls.SimpleWait c st) (Some e) w h = absurd h
start_off (calls.WaitFor d st) (Some e) w h = absurd h
start_off (calls.WaitBit i b st) (Some e) w h = absurd h
start_off (calls.LockBit i b st) (Some e) w h = absurd h
start_off (calls.WaitVar v old st) (Some e) w h = absurd h
start_off (calls.LockPage i st) (Some e) w h = absurd h
start_off call o w h = absurd (cc)

-- what the events tell that a task has made since it last opened a call
abbrev pub noted_by : ℕ → Noted → Ran → Noted
noted_by t m (ran.Opened me call) = if t == me then none_noted else m
noted_by t m (ran.Made me e found) = if t == me then notes m e else m

pub item_ready : (s : State) (n t : ℕ) (item : Ran) (m : Noted) → IsSound s n → IsItem s item
    → ReadyBy s.table t m (s.progress t) → ReadyBy (happens s item).table t (noted_by t m item)
    ((happens s item).progress t)
item_ready s n t (ran.Opened x call) m sound i r = elim (eqb_tells t x) [
  | inl h ↦ rw h.0 (λ w z. start_off call (s.table.entry (own t)) w (home h.0), λ d l. absurd (cc))
  | inr h ↦ rw h.0 r
]
  where
    home : (t == x) ≡ true → HomeAt (now.Open call (program_start call)) (s.table.entry (own t))
    home q = rw q at ((opened_sound s n x call sound i).placed t).home
item_ready s n t (ran.Made x e found) m sound i r = elim (eqb_tells t x) [
  | inl h ↦ rw h.0 (same h.1)
  | inr h ↦ rw h.0 (other_ready s.table x t (event_steps s x (given_by (s.progress x)) e) m (s.progress t)
      h.1 sound.kept made r)
]
  where
    made : AllAllowed s.table x (event_steps s x (given_by (s.progress x)) e)
    made = (made_of s n x e found sound i.0 (s.progress x) refl i.1).made

    same : t ≡ x → ReadyBy (steps s.table x (event_steps s x (given_by (s.progress x)) e)) t (notes m e)
        (progress_after s x (s.progress x))
    same q = subst (λ (y : ℕ). ReadyBy (steps s.table x (event_steps s x (given_by (s.progress x)) e)) y (notes m e)
        (progress_after s x (s.progress x))) (sym q) (own_by s x m e found (s.progress x) made i.1
        (subst (λ (y : ℕ). ReadyBy s.table y m (s.progress y)) q r))

-- where a walk goes on
record IsArrived (n : ℕ) (r : Arrival) : Type 0 where
  le : n ≤ r.calls
  many : r.breaks ≡ true → BREAK < r.calls
  few : r.breaks ≡ false → is_some r.member ≡ true → r.calls ≤ BREAK

arrived_by : (n : ℕ) (x : Member) (r : Arrival) (a b c : Bool) → nat_lt BREAK n ≡ a
    → IsArrived (if c then n + 1 else n) r
    → IsArrived n (if a then record { calls = n; member = Some x; breaks = true }
    else if b then record { calls = n; member = Some x; breaks = false } else r)
arrived_by n x r true b c q h = record {
  le = omega arith;
  many = λ _. grind (arith, nat_tests, q);
  few = λ z. absurd (cc);
}
arrived_by n x r false true c q h = record {
  le = omega arith;
  many = λ z. absurd (cc);
  few =
      λ _ _. grind (arith, nat_tests, q);
}
arrived_by n x r false false true q h = record { le = let k = h.le in omega arith; many = h.many; few = h.few }
arrived_by n x r false false false q h = h

arrived : (key : Member → Bool) (n : ℕ) (ms : List Member) → IsArrived n (arrive key n ms)
arrived key n [] = record { le = omega arith; many = λ z. absurd (cc); few = λ z y. absurd (cc) }
arrived key n (x ∷ ms) = arrived_by n x (arrive key (if is_entry x then n + 1 else n) ms) (nat_lt BREAK n)
    (is_entry x && key x) (is_entry x) refl (arrived key (if is_entry x then n + 1 else n) ms)

called_some : (entry : ℕ → Option Entry) (r : Arrival) (b : Bool) (o : Option Member) → b ≡ false
    → is_some (called_by entry (if b then None else o)) ≡ true → is_some o ≡ true
called_some entry r true o q h = absurd (cc)
called_some entry r false None q h = absurd (cc)
called_some entry r false (Some x) q h = refl

-- at a head of one watch each entry is for the watch, so a walk passes none
of_head : (w c : Watch) (k : Kind) → IsThere c → Suited w k → shares_head c ≡ false → head_of w ≡ head_of c
    → same w c ≡ true
unfolding head_of
of_head (watch.Plain d) (watch.Plain c) k h l q e = grind (arith, nat_tests, e)
of_head (watch.Done d) (watch.Done c) k h l q e = grind (arith, nat_tests, e)
of_head (watch.Plain d) (watch.Done c) k h l q e = absurd (let z = l.0 in omega (arith, e, h))
of_head (watch.Done d) (watch.Plain c) k h l q e = absurd (omega (arith, e, h))
of_head (watch.Bit i b) (watch.Plain c) k h l q e =
    absurd (let z : counted (watch.Bit i b) ≡ true = head_counted (watch.Bit i b) (watch.Plain c) h refl e in cc)
of_head (watch.Bit i b) (watch.Done c) k h l q e =
    absurd (let z : counted (watch.Bit i b) ≡ true = head_counted (watch.Bit i b) (watch.Done c) h refl e in cc)
of_head (watch.Var v o) (watch.Plain c) k h l q e =
    absurd (let z : counted (watch.Var v o) ≡ true = head_counted (watch.Var v o) (watch.Plain c) h refl e in cc)
of_head (watch.Var v o) (watch.Done c) k h l q e =
    absurd (let z : counted (watch.Var v o) ≡ true = head_counted (watch.Var v o) (watch.Done c) h refl e in cc)
of_head w (watch.Bit i b) k h l q e = absurd (cc)
of_head w (watch.Var v o) k h l q e = absurd (cc)

stays_at : (key : Member → Bool) (n : ℕ) (ms : List Member)
    → ((m : Member) → IsIn m ms → is_entry m ≡ true → key m ≡ true)
    → (arrive key n ms).calls ≡ n
stays_at key n [] all = refl
stays_at key n (x ∷ ms) all = by (nat_lt BREAK n) (is_entry x) (key x) (all x (inl refl))
    (stays_at key n ms (λ m i. all m (inr i)))
  where
    by : (a b c : Bool) → (b ≡ true → c ≡ true) → (arrive key n ms).calls ≡ n
        → (if a then record { calls = n; member = Some x; breaks = true }
        else if b && c then record { calls = n; member = Some x; breaks = false }
        else arrive key (if b then n + 1 else n) ms).calls ≡ n
    by true b c q h = refl
    by false true true q h = refl
    by false true false q h = absurd (both_ways false refl (q refl))
    by false false c q h = h

no_strangers : (s : State) (n : ℕ) (call : Call) (place calls : ℕ) → IsLinked s.table.entry s.table.mark s.queue n
    → IsThere (call_watch call) → shares_head (call_watch call) ≡ false
    → (arrives_from s.table.entry (call_watch call) place calls (s.queue (call_head call))).calls ≡ calls
no_strangers s n call place calls l there alone =
    stays_at (λ (x : Member). is_for (call_watch call) (s.table.entry x.at)) calls
    (members_from (rank_at place) (s.queue (call_head call))) own_ones
  where
    own_ones : (m : Member) → IsIn m (members_from (rank_at place) (s.queue (call_head call))) → is_entry m ≡ true
        → is_for (call_watch call) (s.table.entry m.at) ≡ true
    own_ones m i e =
        let it : IsMember s.table.entry (call_head call) m = member_is s.table.entry s.table.mark s.queue n
        (call_head call) m l.ordered
        (grind (arith, nat_tests, e)) (from_in (rank_at place) m (s.queue (call_head call)) i).0 in
        ap (is_for (call_watch call)) it.stands ∙ of_head it.entry.watch (call_watch call) it.entry.kind there
        (l.entries m.at it.entry it.stands).lawful.suited alone it.head

walk_known : (s : State) (n t : ℕ) (call : Call) (p : Point) → IsLinked s.table.entry s.table.mark s.queue n
    → IsThere (call_watch call) → MayComeTo call p (seen_by s t call p)
walk_known s n t call (at.Walk (walking.Call w)) l there =
    let r : Arrival = arrives_from s.table.entry (call_watch call) w.place w.calls (s.queue (call_head call)) in
    let k : IsArrived w.calls r = arrived (λ (x : Member). is_for (call_watch call) (s.table.entry x.at)) w.calls
    (members_from (rank_at w.place) (s.queue (call_head call))) in (
      k.le,
      no_strangers s n call w.place w.calls l there,
      k.many,
      λ b c. k.few b (called_some s.table.entry r r.breaks r.member b c),
    )
walk_known s n t call p l there = tt

done_range : (b : Table) (c : Watch) → IsRangedAt b → is_done c ≡ true → value_of b.words c ≤ ALL_DONE
done_range b (watch.Done c) r d = r c
done_range b _ r d = absurd (cc)

-- a task knows what it needs of what it finds
abbrev pub KnowsBy : State → ℕ → Progress → Noted → Type 0
KnowsBy s me now.Fresh m = Unit {0}
KnowsBy s me now.Idle m = Unit {0}
KnowsBy s me (now.Open call p) m = Knows call p m (seen_by s me call p)

pub knows_by : (s : State) (n t : ℕ) (m : Noted) (p : Progress) → IsLinked s.table.entry s.table.mark s.queue n
    → IsSoundCall n p → (s.table.view t).hold.head ≡ held_at p → IsRangedAt s.table
    → ReadyBy s.table t m p → KnowsBy s t p m
knows_by s n t m now.Fresh l i h r k = tt
knows_by s n t m now.Idle l i h r k = tt
knows_by s n t m (now.Open call p) l i h r k = record {
  off = k.0;
  range = λ d. done_range s.table (call_watch call) r d;
  count = λ d l q. k.1 d l (h ∙ q);
  walk = walk_known s n t call p l i.watch;
}

-- in every state of a run
abbrev pub KnownFinding : ℕ → State → Noted → List Ran → Type 0
KnownFinding me s m [] = KnowsBy s me (s.progress me) m
KnownFinding me s m (item ∷ items) = KnowsBy s me (s.progress me) m
    × KnownFinding me (happens s item) (noted_by me m item) items

known_from : (t : ℕ) (items : List Ran) (s : State) (n : ℕ) (m : Noted) → IsRunFrom s items → n + made_in items ≤ EVENTS
    → IsSound s n → IsRangedAt s.table → ReadyBy s.table t m (s.progress t) → KnownFinding t s m items
known_from t [] s n m r few sound range k = knows_by s n t m (s.progress t) sound.linked (sound.calls t)
    (sound.placed t).head range k
known_from t (ran.Opened x call ∷ items) s n m r few sound range k = (
  knows_by s n t m (s.progress t) sound.linked (sound.calls t) (sound.placed t).head range k,
  known_from t items (happens s (ran.Opened x call)) n (noted_by t m (ran.Opened x call)) r.1 few
      (opened_sound s n x call sound r.0) range (item_ready s n t (ran.Opened x call) m sound r.0 k),
)
known_from t (ran.Made x e found ∷ items) s n m r few sound range k =
    let made : IsMade s n x (s.progress x) e = made_of s n x e found sound r.0.0 (s.progress x) refl r.0.1 in (
      knows_by s n t m (s.progress t) sound.linked (sound.calls t) (sound.placed t).head range k,
      known_from t items (happens s (ran.Made x e found)) (n + 1) (noted_by t m (ran.Made x e found)) r.1 (omega arith)
          (made_sound s n x e found sound (omega arith) r.0)
          (ranged_steps s.table x (event_steps s x (given_by (s.progress x)) e)
          (event_stored s x (given_by (s.progress x)) e made.changes made.joins) range)
          (item_ready s n t (ran.Made x e found) m sound r.0 k),
    )

pub knows_all : (run : List Ran) (me : ℕ) → IsRun run → made_in run ≤ EVENTS
    → KnownFinding me start_state none_noted run
knows_all run me r few = known_from me run start_state 0 none_noted r (omega arith) start_sound (λ d. omega arith) tt
