-- What a wait made that went out, from what each of its exits makes.
use Rattle.std.proofs.Common.{◌∙◌, ap, inl, inr, refl, subst, sym, append-nil, append_assoc}
use Rattle.std.specs.Prelude.{ℕ, ◌≡◌, Bool, true, false, Some, List, [], ◌∷◌, ◌++◌}
use Rattle.wait_model.specs.{declared.calls.Answer.Answer, declared.calls.Call.Call, declared.calls.Event.Event}
use Rattle.wait_model.specs.{declared.points.Next.Next, declared.points.Point.Point, declared.steps.Step.Step}
use Rattle.wait_model.specs.{Findings.Noted, Findings.none_noted, Phrases.ends, Points.call_watch, Sentences.Follows}
use Rattle.wait_model.specs.{Tables.Table, Watches.is_done}
use Rattle.wait_model.specs.declared.points.Next.TheVariants as next
use Rattle.wait_model.specs.declared.steps.Step.TheVariants as step
use Rattle.wait_model.proofs.{SentenceLaws.SentenceCalls.rest_of, SentenceLaws.SentenceRests.left_at as left_of}
use Rattle.wait_rule.specs.{Heeding.trail_of, Interleavings.IsInterleaved, Items.steps_of, Known.Known}
use Rattle.wait_rule.specs.{SaidEvents.is_walking, SaidEvents.said, Says.MeetsLaw, Says.history_of}
use Rattle.wait_rule.specs.Transitions.{Goes, Program, Transition, call_program}
use Rattle.wait_rule.proofs.KnownLaws.TaskHistories.{history_after}
use Rattle.wait_rule.proofs.SaidEvents.Fronts.{history_grows, number_stays}
use Rattle.wait_class.specs.{declared.stages.Run.Run, declared.stages.Turn.Turn, Wholes.HasRested}
use Rattle.wait_class.specs.Tables.{Advances, CallTable, Plan, next_in, plan_program}
use Rattle.wait_class.specs.declared.stages.Turn.TheVariants as turn
use Rattle.wait_leave.specs.declared.exits.Exit.{Exit}
use Rattle.wait_leave.specs.Leaves.{Exits, GoesOut, asked_run, with_asked}
use Rattle.wait_leave.specs.OnTheWay.{OnTheWay, left_at, straight}
use Rattle.left_sentences.specs.LeftWords.{IsLeftWord, IsWordTo, MakesFrom, Opens, WaysOut, asked_again, to_the_end}
use Rattle.left_sentences.specs.WaySays.{exit_says, out_says, stage_says, way_says}
use Rattle.left_sentences.proofs.RunsTo.{AtNext, Before, Leads, OffFirst, goes_open, goes_whole, led}

-- what is known of a call that may have its entry queued
abbrev pub kept : Noted
kept = record { queued = true; held = false; loaded = false; count = 0 }

-- an exit of a stage, as a way out: from where the latest events say so, by what is left of the sentence where it leads
pub record LeadsOut {C S O X : Type 0} (t : CallTable C S O) (me : ℕ) (call : Call) (o : WaysOut X)
    (At : Point → List Event → Type 0) (s : S) (e : Exit S O) : Type 0 where
  pub way : X
  pub from : (trail : List Event) → At (t.point_of s) trail → o.From way trail
  pub rest : (w : List Event) (a : Answer) → left_of (rest_of me call kept) (next_in t e.to) w a
      → o.phrase way ends (exit_says e.rests ++ w) a
  pub start : AtNext At (trail_of [] (exit_says e.rests)) (next_in t e.to)

-- What a task makes of the call from a point on, by transitions of this kind: to another point it can be gone on with
-- to the end of what is left of the sentence there, and to an answer it is the end of that.
pub record FollowsOn (me : ℕ) (call : Call) (Fine : List Transition → Next → Type 0) : Type 0 where
  pub to_point : (s : Table) → IsInterleaved s → (ts : List Transition) (p q : Point) (m : Noted) (old new : Known)
      → Fine ts (next.Go q) → Before s me new → OffFirst me call m old → m.loaded ≡ false
      → Goes (call_program me 0 call) old (next.Go p) ts new (next.Go q) → (v : List Event) × (a : Answer)
      × rest_of me call m p (said (call_program me 0 call) (next.Go p) ts ++ v) a
  pub to_answer : (s : Table) → IsInterleaved s → (ts : List Transition) (p : Point) (b : Answer) (m : Noted)
      (old new : Known) → Fine ts (next.Ends b) → Before s me new → OffFirst me call m old → m.loaded ≡ false
      → Goes (call_program me 0 call) old (next.Go p) ts new (next.Ends b)
      → rest_of me call m p (said (call_program me 0 call) (next.Go p) ts) b

-- any transitions, of a call that is about no completion
abbrev pub AnyRun : List Transition → Next → Type 0
AnyRun ts n = Unit {0}

pub plain_follows : (me : ℕ) (call : Call) → is_done (call_watch call) ≡ false → is_walking call ≡ false
    → FollowsOn me call AnyRun
plain_follows me call plain quiet = record {
  to_point = λ s all ts p q m old new fine h out z g. goes_open s all me call plain quiet ts p q m old new h out g;
  to_answer = λ s all ts p b m old new fine h out z g. goes_whole s all me call plain quiet ts p b m old new h out g;
}

-- what a class of calls has to say: that its program is that of a call, and its exits ways out
pub record Speech {C S O X : Type 0} (t : CallTable C S O) (x : Exits C S O) (me : ℕ) (call : Call) (o : WaysOut X)
    (At : Point → List Event → Type 0) (Fine : List Transition → Next → Type 0) : Type 0 where
  pub follows : FollowsOn me call Fine
  pub fine : (r q j : C) (ts : List Transition) (s : S) (e : Exit S O) → t.Tells r q ts → x.exit j s ≡ Some e
      → Fine ts (next.Go (t.point_of s))
  pub same : (r : C) → t.plan_of (x.asks r) ≡ with_asked true (t.plan_of r)
  pub leads : Leads At (call_program me 0 call)
  pub outs : (r : C) (s : S) (e : Exit S O) → x.exit r s ≡ Some e → LeadsOut t me call o At s e

-- the task's list in the table that it sees after its last step
pub before_law : (k : Known) (law : MeetsLaw k.view) (me : ℕ) → k.view.number ≡ me → Before law.table me k
before_law k law me same = (
  [],
  law.ruled.histories me ∙ (ap steps_of (subst (λ (n : ℕ). law.items n ≡ k.view.items) same law.own)
      ∙ sym (append-nil (history_of k))),
)

-- what comes later in the list
pub before_run : (s : Table) (me : ℕ) (g : Program) (old new : Known) (n m : Next) (ts : List Transition)
    → Goes g old n ts new m
    → Before s me new → Before s me old
before_run s me g old new n m ts goes h =
    let r = history_grows g old new n m ts goes in (
      r.0 ++ h.0,
      h.1 ∙ (ap (λ (es : List Step). es ++ h.0) r.1 ∙ append_assoc (history_of old) r.0 h.0),
    )

pub before_rest : (s : Table) (me : ℕ) (b : Bool) (old new : Known) → HasRested old new b → Before s me new
    → Before s me old
before_rest s me true old new rests h = (
  step.State 0 ∷ h.0,
  h.1 ∙ (ap (λ (es : List Step). es ++ h.0) (history_after old new (step.State 0) rests)
      ∙ append_assoc (history_of old) (step.State 0 ∷ []) h.0),
)
before_rest s me false old new rests h = (h.0, h.1 ∙ ap (λ (k : Known). history_of k ++ h.0) rests)

pub rested_number : (b : Bool) (old new : Known) (me : ℕ) → HasRested old new b → old.view.number ≡ me
    → new.view.number ≡ me
rested_number true old new me rests is = ap (λ (k : Known). k.view.number) rests ∙ is
rested_number false old new me rests is = ap (λ (k : Known). k.view.number) rests ∙ is

exit_trail : (b : Bool) (w : List Event) → trail_of [] (exit_says b ++ w) ≡ trail_of (trail_of [] (exit_says b)) w
exit_trail true w = refl
exit_trail false w = refl

-- whether it has gone out
abbrev pub HasGoneOut : {C S O A : Type 0} (t : CallTable C S O) (x : Exits C S O) (old : Known) (r : Run C) (s : S)
    (new : Known) (q : Run C) (u : Turn S O) → OnTheWay A t x old r s new q u → Type 0
HasGoneOut t x old r s _ _ _ (straight new q u a) = ⊥
HasGoneOut t x old r s _ _ _ (left_at mid m n new q u cause w l) = Unit {0}

-- a run of the call, by this task
pub record IsRunOf {C S O : Type 0} (t : CallTable C S O) (me : ℕ) (call : Call) (k : Known) (r : C) : Type 0 where
  pub number : k.view.number ≡ me
  pub program : plan_program me 0 (t.plan_of r) ≡ call_program me 0 call

-- runs of this class to such a place are of this kind
abbrev pub FineRuns : {C S O : Type 0} → CallTable C S O → (List Transition → Next → Type 0) → Next → Type 0
FineRuns {C} t Fine n = (r q : C) (ts : List Transition) → t.Tells r q ts → Fine ts n

module _ {C S O X : Type 0} (t : CallTable C S O) (x : Exits C S O) (me : ℕ) (call : Call) (o : WaysOut X)
    (At : Point → List Event → Type 0) (Fine : List Transition → Next → Type 0)
    (speech : Speech t x me call o At Fine) where
  abbrev f : Program
  f = call_program me 0 call

  program_of : (k : Known) (r : C) → IsRunOf t me call k r → plan_program k.view.number 0 (t.plan_of r) ≡ f
  program_of k r is = ap (λ (n : ℕ). plan_program n 0 (t.plan_of r)) is.number ∙ is.program

  of_run : (old new : Known) (r q : Run C) (n : S) (u : Turn S O) → Advances t old new r q n u
      → IsRunOf t me call old r.of
      → IsRunOf t me call new q.of
  of_run old new r q n u a is = record {
    number = number_stays (plan_program old.view.number 0 (t.plan_of r.of)) old new (next.Go (t.point_of n))
        (next_in t u) a.went.runs.transitions a.went.runs.goes ∙ is.number;
    program = ap (λ (p : Plan). plan_program me 0 p) a.same ∙ is.program;
  }

  of_asked : (r : C) → plan_program me 0 (t.plan_of r) ≡ f → plan_program me 0 (t.plan_of (x.asks r)) ≡ f
  of_asked r is = ap (λ (p : Plan). plan_program me 0 p) (speech.same r) ∙ is

  of_rest : (b : Bool) (old new : Known) (r : C) → HasRested old new b → IsRunOf t me call old r
      → IsRunOf t me call new (x.asks r)
  of_rest true old new r rests is = record {
    number = ap (λ (k : Known). k.view.number) rests ∙ is.number;
    program = of_asked r is.program;
  }
  of_rest false old new r rests is = record {
    number = ap (λ (k : Known). k.view.number) rests ∙ is.number;
    program = of_asked r is.program;
  }

  of_out : (old new : Known) (r q : Run C) (e u : Turn S O) → GoesOut t old new r q e u
      → IsRunOf t me call old r.of → IsRunOf t me call new q.of
  of_out old new r q (turn.Again n) u a is = of_run old new r q n u a is
  of_out old new r q (turn.Asleep n) u a is = absurd a
  of_out old new r q (turn.Locked n) u a is = absurd a
  of_out old new r q (turn.Done d) u a is = record {
    number = ap (λ (k : Known). k.view.number) a.still ∙ is.number;
    program = ap (λ (w : Run C). plan_program me 0 (t.plan_of w.of)) a.same ∙ is.program;
  }

  pub of_way : {A : Type 0} (old : Known) (r : Run C) (n : S) → IsRunOf t me call old r.of
      → (new : Known) (q : Run C) (u : Turn S O)
      → OnTheWay A t x old r n new q u → IsRunOf t me call new q.of
  of_way old r n is _ _ _ (straight new q u a) = of_run old new r q n u a is
  of_way old r n is _ _ _ (left_at mid m k new q u cause w l) = of_out l.rested new (asked_run x m) q l.exit.to u l.on
      (of_rest l.exit.rests mid l.rested m.of l.rests (of_way old r n is mid m (turn.Again k) w))

  module _ (s : Table) (all : IsInterleaved s) where
    before_out : (old new : Known) (r q : Run C) (e u : Turn S O) → GoesOut t old new r q e u → Before s me new
        → Before s me old
    before_out old new r q (turn.Again n) u a h = before_run s me (plan_program old.view.number 0 (t.plan_of r.of)) old
        new
        (next.Go (t.point_of n)) (next_in t u) a.went.runs.transitions a.went.runs.goes h
    before_out old new r q (turn.Asleep n) u a h = absurd a
    before_out old new r q (turn.Locked n) u a h = absurd a
    before_out old new r q (turn.Done d) u a h = (h.0, h.1 ∙ ap (λ (k : Known). history_of k ++ h.0) a.still)

    -- the program of a run is that of the call
    open_by : (g : Program) → g ≡ f → (ts : List Transition) (p q : Point) (m : Noted) (old new : Known)
        → Fine ts (next.Go q) → Before s me new → OffFirst me call m old → m.loaded ≡ false
        → Goes g old (next.Go p) ts new (next.Go q)
        → (v : List Event) × (a : Answer) × rest_of me call m p (said g (next.Go p) ts ++ v) a
    open_by g same ts p q m old new fine h out z = subst (λ (e : Program). Goes e old (next.Go p) ts new (next.Go q)
        → (v : List Event) × (a : Answer) × rest_of me call m p (said e (next.Go p) ts ++ v) a) (sym same)
        (speech.follows.to_point s all ts p q m old new fine h out z)

    whole_by : (g : Program) → g ≡ f → (ts : List Transition) (p : Point) (b : Answer) (m : Noted) (old new : Known)
        → Fine ts (next.Ends b) → Before s me new → OffFirst me call m old → m.loaded ≡ false
        → Goes g old (next.Go p) ts new (next.Ends b) → rest_of me call m p (said g (next.Go p) ts) b
    whole_by g same ts p b m old new fine h out z = subst (λ (e : Program). Goes e old (next.Go p) ts new (next.Ends b)
        → rest_of me call m p (said e (next.Go p) ts) b) (sym same)
        (speech.follows.to_answer s all ts p b m old new fine h out z)

    led_by : (g : Program) → g ≡ f → (ts : List Transition) (n m : Next) (old new : Known) (trail : List Event)
        → Goes g old n ts new m → AtNext At trail n → AtNext At (trail_of trail (said g n ts)) m
    led_by g same ts n m old new trail = subst (λ (e : Program). Goes e old n ts new m → AtNext At trail n
        → AtNext At (trail_of trail (said e n ts)) m) (sym same) (led At f speech.leads ts n m old new trail)

    may_stand : (k : Known) → OffFirst me call kept k
    may_stand k w z = absurd (let y : true ≡ false = z in cc)

    -- what is made from where an exit leads
    out_opens : (old new : Known) (r q : Run C) (e : Turn S O) (n : S) (a : GoesOut t old new r q e (turn.Again n))
        → IsRunOf t me call old r.of → FineRuns t Fine (next.Go (t.point_of n)) → Before s me new
        → (v : List Event) × (b : Answer)
        × left_of (rest_of me call kept) (next_in t e) (out_says t old new r q e (turn.Again n) a ++ v) b
    out_opens old new r q (turn.Again k) n a is fine h = open_by (plan_program old.view.number 0 (t.plan_of r.of))
        (program_of old r.of is) a.went.runs.transitions (t.point_of k) (t.point_of n) kept old new
        (fine r.of q.of a.went.runs.transitions a.went.tells) h (may_stand old) refl a.went.runs.goes
    out_opens old new r q (turn.Asleep k) n a is fine h = absurd a
    out_opens old new r q (turn.Locked k) n a is fine h = absurd a
    out_opens old new r q (turn.Done d) n a is fine h = absurd (let z : turn.Again n ≡ turn.Done d = a.to in cc)

    out_led : (old new : Known) (r q : Run C) (e : Turn S O) (n : S) (a : GoesOut t old new r q e (turn.Again n))
        → IsRunOf t me call old r.of → (trail : List Event) → AtNext At trail (next_in t e)
        → At (t.point_of n) (trail_of trail (out_says t old new r q e (turn.Again n) a))
    out_led old new r q (turn.Again k) n a is trail h = led_by (plan_program old.view.number 0 (t.plan_of r.of))
        (program_of old r.of is) a.went.runs.transitions (next.Go (t.point_of k)) (next.Go (t.point_of n)) old new trail
        a.went.runs.goes h
    out_led old new r q (turn.Asleep k) n a is trail h = absurd a
    out_led old new r q (turn.Locked k) n a is trail h = absurd a
    out_led old new r q (turn.Done d) n a is trail h = absurd (let z : turn.Again n ≡ turn.Done d = a.to in cc)

    out_ends : (old new : Known) (r q : Run C) (e : Turn S O) (d : O) (a : GoesOut t old new r q e (turn.Done d))
        → IsRunOf t me call old r.of → FineRuns t Fine (next.Ends (t.answer_of d)) → Before s me new
        → left_of (rest_of me call kept) (next_in t e) (out_says t old new r q e (turn.Done d) a) (t.answer_of d)
    out_ends old new r q (turn.Again k) d a is fine h = whole_by (plan_program old.view.number 0 (t.plan_of r.of))
        (program_of old r.of is) a.went.runs.transitions (t.point_of k) (t.answer_of d) kept old new
        (fine r.of q.of a.went.runs.transitions a.went.tells) h (may_stand old) refl a.went.runs.goes
    out_ends old new r q (turn.Asleep k) d a is fine h = absurd a
    out_ends old new r q (turn.Locked k) d a is fine h = absurd a
    out_ends old new r q (turn.Done c) d a is fine h =
        let z : turn.Done d ≡ turn.Done c = a.to in let y : d ≡ c = cc in ap t.answer_of y

    -- a whole call, from its first stage
    module _ (old : Known) (r : Run C) (first : S) (is : IsRunOf t me call old r.of) (off : OffFirst me call none_noted
        old)
        (start : (w : List Event) (a : Answer) → rest_of me call none_noted (t.point_of first) w a
        → Follows me call w a) (began : At (t.point_of first) []) where
      abbrev g : Program
      g = plan_program old.view.number 0 (t.plan_of r.of)

      -- it is asked to leave at a stage, and goes out
      goes_out : {A : Type 0} (mid : Known) (m : Run C) (n : S) (w : OnTheWay A t x old r first mid m (turn.Again n))
          → FineRuns t Fine (next.Go (t.point_of n)) → Before s me mid → (y : X)
          → ((trail : List Event) → At (t.point_of n) trail → o.From y trail)
          → (v : List Event) (b : Answer) → MakesFrom o y v b
          → IsLeftWord me call o (way_says t x old r first mid m (turn.Again n) w ++ v) b
      goes_out _ _ n (straight mid m _ a) fine h y from v b makes =
          let ts : List Transition = a.went.runs.transitions in
          let c = open_by g (program_of old r.of is) ts (t.point_of first) (t.point_of n) none_noted old mid
          (fine r.of m.of ts a.went.tells) h off refl a.went.runs.goes in record {
            first = stage_says t old.view.number r.of first ts;
            begins = (c.0, c.1, start (stage_says t old.view.number r.of first ts ++ c.0) c.1 c.2);
            way = y;
            from = from (trail_of [] (stage_says t old.view.number r.of first ts))
                (led_by g (program_of old r.of is) ts (next.Go (t.point_of first)) (next.Go (t.point_of n)) old mid []
                a.went.runs.goes began);
            behind = v;
            makes = makes;
            is = refl;
          }
      goes_out _ _ n (left_at k j i mid m _ cause w l) fine h y from v b makes =
          let lead : LeadsOut t me call o At i l.exit = speech.outs j.of i l.exit l.is in
          let ex : List Event = exit_says l.exit.rests in
          let on : List Event = out_says t l.rested mid (asked_run x j) m l.exit.to (turn.Again n) l.on in
          let of_k : IsRunOf t me call l.rested (x.asks j.of) = of_rest l.exit.rests k l.rested j.of l.rests
          (of_way old r first is k j (turn.Again i) w) in
          let rested : Before s me l.rested = before_out l.rested mid (asked_run x j) m l.exit.to (turn.Again n) l.on h
          in
          let c = out_opens l.rested mid (asked_run x j) m l.exit.to n l.on of_k fine h in
          let opens : Opens (o.phrase lead.way) (ex ++ on) = (
            c.0,
            c.1,
            subst (λ (u : List Event). o.phrase lead.way ends u c.1) (sym (append_assoc ex on c.0))
                (lead.rest (on ++ c.0) c.1 c.2),
          ) in
          let from_y : o.From y (trail_of [] (ex ++ on)) = from (trail_of [] (ex ++ on))
          (subst (At (t.point_of n)) (sym (exit_trail l.exit.rests on))
          (out_led l.rested mid (asked_run x j) m l.exit.to n l.on of_k (trail_of [] ex) lead.start)) in
          subst (λ (u : List Event). IsLeftWord me call o u b)
          (sym (append_assoc (way_says t x old r first k j (turn.Again i) w) (ex ++ on) v))
          (goes_out k j i w (λ c d ts tells. speech.fine c d j.of ts i l.exit tells l.is)
          (before_rest s me l.exit.rests k l.rested l.rests rested) lead.way lead.from ((ex ++ on) ++ v) b
          (asked_again lead.way y (ex ++ on) v b opens from_y makes))

      -- and it comes to its end
      pub left_word : {A : Type 0} (new : Known) (q : Run C) (d : O) (w : OnTheWay A t x old r first new q (turn.Done
          d))
          → HasGoneOut t x old r first new q (turn.Done d) w → FineRuns t Fine (next.Ends (t.answer_of d))
          → Before s me new
          → IsLeftWord me call o (way_says t x old r first new q (turn.Done d) w) (t.answer_of d)
      left_word _ _ d (straight new q _ a) out fine h = absurd out
      left_word _ _ d (left_at k j i new q _ cause w l) out fine h =
          let lead : LeadsOut t me call o At i l.exit = speech.outs j.of i l.exit l.is in
          let ex : List Event = exit_says l.exit.rests in
          let on : List Event = out_says t l.rested new (asked_run x j) q l.exit.to (turn.Done d) l.on in
          let of_k : IsRunOf t me call l.rested (x.asks j.of) = of_rest l.exit.rests k l.rested j.of l.rests
          (of_way old r first is k j (turn.Again i) w) in
          let rested : Before s me l.rested = before_out l.rested new (asked_run x j) q l.exit.to (turn.Done d) l.on h
          in
          goes_out k j i w (λ c d ts tells. speech.fine c d j.of ts i l.exit tells l.is)
          (before_rest s me l.exit.rests k l.rested l.rests rested) lead.way lead.from (ex ++ on)
          (t.answer_of d) (to_the_end lead.way (ex ++ on) (t.answer_of d) (lead.rest on (t.answer_of d)
          (out_ends l.rested new (asked_run x j) q l.exit.to d l.on of_k fine h)))

      pub ended_word : {A : Type 0} (new : Known) (q : Run C) (d : O) (w : OnTheWay A t x old r first new q (turn.Done
          d))
          → FineRuns t Fine (next.Ends (t.answer_of d)) → Before s me new
          → IsWordTo me call o (way_says t x old r first new q (turn.Done d) w) (t.answer_of d)
      ended_word _ _ d (straight new q _ a) fine h = inl (start (stage_says t old.view.number r.of first
          a.went.runs.transitions) (t.answer_of d) (whole_by g (program_of old r.of is) a.went.runs.transitions
          (t.point_of first) (t.answer_of d) none_noted old new
          (fine r.of q.of a.went.runs.transitions a.went.tells) h off refl a.went.runs.goes))
      ended_word _ _ d (left_at k j i new q _ cause w l) fine h = inr (left_word new q d (left_at k j i new q
          (turn.Done d)
          cause w l) tt fine h)

-- a call that has been asked since it began went out
pub gone_by : {C S O A : Type 0} (t : CallTable C S O) (x : Exits C S O) (old : Known) (r : Run C) (s : S)
    (new : Known) (q : Run C) (u : Turn S O) (w : OnTheWay A t x old r s new q u) → (t.plan_of q.of).asked ≡ true
    → (t.plan_of r.of).asked ≡ false → HasGoneOut t x old r s new q u w
gone_by t x old r s _ _ _ (straight new q u a) was not =
    absurd (let z : true ≡ false = sym was ∙ (ap (λ (p : Plan). p.asked) a.same ∙ not) in cc)
gone_by t x old r s _ _ _ (left_at mid m n new q u cause w l) was not = tt
