-- Laws of the stages at which a head is locked, held, given back or left, and of those that store a state: by the facts
-- in which tables differ. What a table computes comes as one equation, and what its program plans as another.
use Rattle.std.proofs.Common.{◌∙◌, ap, sym, refl, subst, inl, inr}
use Rattle.std.specs.Prelude.{ℕ, ◌≡◌, ◌⊎◌, Bool, true, false, is_some, Option, Some, None, [], ◌∷◌, ◌++◌}
use Rattle.wait_model.specs.{declared.calls.Event.Event, declared.points.Next.Next, declared.points.Planned.Planned}
use Rattle.wait_model.specs.{declared.points.Point.Point, declared.points.Seen.Seen, declared.steps.Step.Step}
use Rattle.wait_model.specs.{declared.watches.Aim.Aim, declared.watches.Entry.Entry, Words.entry_of}
use Rattle.wait_model.specs.PointFacts.{IsHome, holds, waits}
use Rattle.wait_model.specs.declared.calls.Event.TheVariants as event
use Rattle.wait_model.specs.declared.points.Point.TheVariants as at
use Rattle.wait_model.specs.declared.points.PreparePoint.TheVariants as preparing
use Rattle.wait_model.specs.declared.steps.Step.TheVariants as step
use Rattle.wait_rule.specs.{Ends.WasWorn, HandedPermits.OwesNoPermit, Known.Known}
use Rattle.wait_rule.specs.Queues.{IsWalkOfCall, index, walk_of_hold}
use Rattle.wait_rule.specs.Says.{MayStore, history_of, told_of}
use Rattle.wait_rule.specs.Tickets.{Ticket, no_ticket, taken}
use Rattle.wait_rule.specs.Transitions.{Finds, IsMadeFor, OnlyLooks, Transition, by_step}
use Rattle.wait_class.specs.{declared.stages.Doing.Doing, declared.stages.Turn.Turn}
use Rattle.wait_class.specs.Findings.{saw_entry, saw_nothing, with_worn}
use Rattle.wait_class.specs.Posts.{IsStateFor, own_of, zone_at}
use Rattle.wait_class.specs.Laws.{Calm, DrawLaw, GiveLaw, HasJoined, HasShown, HomeStays, IsPlainTurn, IsWornOut}
use Rattle.wait_class.specs.Laws.{LockLaw, MayJoin, Moves, PareLaw, PeekLaw, QueueLaw, StateGoes, StateLaw, StateStays}
use Rattle.wait_class.specs.Laws.{TurnTrail, UnlockLaw, mask_in, may_be_queued, turn_post}
use Rattle.wait_class.specs.Tables.{CallTable, Plan, falls, head_in, next_in, plan_program, post_of, stage_watch}
use Rattle.wait_class.specs.Tables.{took_in}
use Rattle.wait_class.specs.declared.stages.Added.TheVariants as adds
use Rattle.wait_class.specs.declared.stages.Doing.TheVariants as doing
use Rattle.wait_class.proofs.{Ground.Standing.owner_own, Turns.may_by, Turns.zero_for}

module _ {C S O : Type 0} (t : CallTable C S O) (r : C) (s : S) where
  abbrev plan : Plan
  plan = t.plan_of r

  abbrev p : Point
  p = t.point_of s

  abbrev h : ℕ
  h = head_in t r s

  -- a way to a turn behind which this head is held, with this ticket out
  abbrev way_facts : C → Turn S O → Bool × Bool × Option ℕ × Ticket
  way_facts q u = (falls t s u, t.took s, (turn_post t q u).head, (turn_post t q u).ticket)

  abbrev IsWay : C → Turn S O → Option ℕ → Ticket → Type 0
  IsWay q u o n = way_facts q u ≡ (true, took_in t u, o, n)

  -- a stage at which the head of the call is held, and one at which the own entry may be queued by this call
  abbrev held_facts : Bool × ℕ × Bool
  held_facts = (holds p, plan.head p, t.drawn s)

  abbrev IsHeld : Type 0
  IsHeld = held_facts ≡ (true, h, false)

  abbrev opens_facts : Bool × Bool
  opens_facts = (t.drawn s, may_be_queued (zone_at p))

  abbrev Opens : Type 0
  Opens = opens_facts ≡ (false, true)

  -- what the program plans, by what it found
  abbrev Plans : Seen → (ℕ → Event) → Next → Type 0
  Plans seen e n = (me : ℕ) → plan.makes me p seen ≡ record { event = e me; next = n }

  abbrev FindsBy : ℕ → Known → Step → Seen → Type 0
  FindsBy me k e seen = Finds k (plan_program me 0 plan) p (by_step e) seen

  moves_by : {A : Type 0} (seen : Seen) (made : ℕ → Known → A → Step) (Ok : ℕ → Known → A → Type 0) (u : Turn S O)
      (e : ℕ → Event) → IsPlainTurn t u → falls t s u ≡ true → t.took s ≡ took_in t u → Plans seen e (next_in t u)
      → ((me : ℕ) (k : Known) (a : A) → Ok me k a
      → IsMadeFor k (Some (index me 0)) (plan.given p) (e me) (by_step (made me k a)))
      → ((me : ℕ) (k : Known) (a : A) → Ok me k a → FindsBy me k (made me k a) seen) → Moves t r s seen A made Ok u
  moves_by seen made Ok u e plain falls took plans is finds = record {
    plain = plain;
    falls = falls;
    took = took;
    goes = λ me. ap (λ (x : Planned). x.next) (plans me);
    is = λ me k a ok. subst (λ (x : Planned). IsMadeFor k (Some (index me 0)) (plan.given p) x.event
        (by_step (made me k a))) (sym (plans me)) (is me k a ok);
    finds = finds;
  }

  abbrev draw_facts : Bool × Bool × ℕ × Bool × Doing × Point × Bool × ℕ
  draw_facts = (
    holds p,
    t.drawn s,
    plan.head p,
    t.drawn (t.drawn_to s),
    t.doing (t.drawn_to s),
    t.point_of (t.drawn_to s),
    t.took (t.drawn_to s),
    t.depth (t.drawn_to s),
  )

  pub draw_by : draw_facts ≡ (false, false, h, true, doing.Lock, p, t.took s, t.depth s)
      → ((k : Known) → t.Trail k r s → t.Trail k r (t.drawn_to s)) → DrawLaw t r s
  draw_by is trail = record {
    free = λ i. (is i).0;
    fresh = λ i. (is i).1;
    head = λ i. (is i).2;
    drawn = λ i. (is i).3;
    locks = λ i. (is i).4;
    same = λ i. (is i).5;
    took = λ i. (is i).6;
    depth = λ i. (is i).7;
    trail = trail;
  }

  -- behind a lock; the stage there may depend on the call, and so has its own record
  pub record LockWay (n : Next) (u : Turn S O) : Type 0 where
    pub plain : IsPlainTurn t u
    pub is : IsWay r u (Some h) (taken h)
    pub goes : n ≡ next_in t u
    pub state : StateStays t r s u
    pub home : HomeStays t r s u
    pub trail : (old new : Known) (x : ℕ) → Calm (step.Lock h (walk_of_hold h None) x ∷ []) old new → t.Trail old r s
        → TurnTrail t new r u

  pub lock_way : (n : Next) (u : Turn S O) → IsPlainTurn t u → IsWay r u (Some h) (taken h) → n ≡ next_in t u
      → StateStays t r s u → HomeStays t r s u
      → ((old new : Known) (x : ℕ) → Calm (step.Lock h (walk_of_hold h None) x ∷ []) old new → t.Trail old r s
      → TurnTrail t new r u) → LockWay n u
  lock_way n u plain is goes state home trail = record {
    plain = plain;
    is = is;
    goes = goes;
    state = state;
    home = home;
    trail = trail;
  }

  abbrev lock_facts : Bool × ℕ × Bool × Option Aim
  lock_facts = (holds p, plan.head p, t.drawn s, (plan.given p).walk)

  pub lock_to : (n : Next) → LockWay n (t.next_of r s) → lock_facts ≡ (false, h, true, None)
      → Plans saw_nothing (λ me. event.Lock h) n
      → ((me : ℕ) (k : Known) (x : ℕ) → FindsBy me k (step.Lock h (walk_of_hold h None) x) saw_nothing) → LockLaw t r s
  lock_to n w is plans finds = record {
    free = λ i. (is i).0;
    head = λ i. (is i).1;
    drawn = λ i. (is i).2;
    moves = moves_by saw_nothing (λ me k x. step.Lock h (walk_of_hold h None) x) (λ me k x. Unit {0}) (t.next_of r s)
        (λ me. event.Lock h) w.plain (λ i. (w.is i).0) (λ i. (w.is i).1)
        (λ me. plans me ∙ (λ i. record { event = event.Lock h; next = w.goes i }))
        (λ me k x ok. (
          refl,
          subst (IsWalkOfCall h (walk_of_hold h None)) (sym (ap (λ (f : Bool × ℕ × Bool × Option Aim). f.3) is)) refl,
        )) (λ me k x ok. finds me k x);
    leaves = record { head = λ i. (w.is i).2; ticket = λ i. (w.is i).3 };
    state = w.state;
    home = w.home;
    trail = w.trail;
  }

  pub lock_by : lock_facts ≡ (false, h, true, None) → IsPlainTurn t (t.next_of r s)
      → IsWay r (t.next_of r s) (Some h) (taken h) → Plans saw_nothing (λ me. event.Lock h) (next_in t (t.next_of r s))
      → ((me : ℕ) (k : Known) (x : ℕ) → FindsBy me k (step.Lock h (walk_of_hold h None) x) saw_nothing)
      → StateStays t r s (t.next_of r s) → HomeStays t r s (t.next_of r s)
      → ((old new : Known) (x : ℕ) → Calm (step.Lock h (walk_of_hold h None) x ∷ []) old new → t.Trail old r s
      → TurnTrail t new r (t.next_of r s)) → LockLaw t r s
  lock_by is plain way plans finds state home trail = lock_to (next_in t (t.next_of r s))
      (lock_way (next_in t (t.next_of r s)) (t.next_of r s) plain way refl state home trail) is plans finds

  pub unlock_by : IsHeld → IsPlainTurn t (t.next_of r s) → IsWay r (t.next_of r s) None no_ticket
      → Plans saw_nothing (λ me. event.Unlock h false) (next_in t (t.next_of r s))
      → ((me : ℕ) (k : Known) → FindsBy me k (step.Unlock k.at false) saw_nothing)
      → StateStays t r s (t.next_of r s) → HomeStays t r s (t.next_of r s)
      → ((old new : Known) → Calm (step.Unlock h false ∷ []) old new → t.Trail old r s
      → TurnTrail t new r (t.next_of r s))
      → ((k : Known) → t.Fits r → k.at ≡ h → t.Trail k r s → OwesNoPermit k) → UnlockLaw t r s
  unlock_by is plain way plans finds state home trail permits = record {
    held = record { holds = λ i. (is i).0; head = λ i. (is i).1 };
    fresh = λ i. (is i).2;
    moves = moves_by saw_nothing (λ me k x. step.Unlock k.at false) (λ me k x. k.at ≡ h) (t.next_of r s)
        (λ me. event.Unlock h false) plain (λ i. (way i).0) (λ i. (way i).1) plans (λ me k x ok. (ok, refl))
        (λ me k x ok. finds me k);
    leaves = record { head = λ i. (way i).2; ticket = λ i. (way i).3 };
    state = state;
    home = home;
    trail = trail;
    permits = permits;
  }

  -- a state is stored: RUNNING, or the one in which the call sleeps
  abbrev state_facts : Bool × ℕ
  state_facts = (t.drawn s, t.state_at r s)

  state_as : (σ : ℕ) → state_facts ≡ (false, σ) → IsPlainTurn t (t.next_of r s)
      → IsWay r (t.next_of r s) (post_of t r s).head (post_of t r s).ticket
      → Plans saw_nothing (λ me. event.State σ) (next_in t (t.next_of r s))
      → ((me : ℕ) (k : Known) → FindsBy me k (step.State (t.state_at r s)) saw_nothing)
      → HomeStays t r s (t.next_of r s)
      → ((old new : Known) → Calm (step.State (t.state_at r s) ∷ []) old new → t.Trail old r s
      → TurnTrail t new r (t.next_of r s))
      → IsStateFor (turn_post t r (t.next_of r s)).stirs (turn_post t r (t.next_of r s)).state σ
      → ((k : Known) → IsStateFor (post_of t r s).stirs (post_of t r s).state k.book.state → MayStore σ k)
      → (σ ≡ 0) ⊎ (σ ≡ mask_in t r) → StateLaw t r s
  state_as σ is plain way plans finds home trail state may sort =
      let same : σ ≡ t.state_at r s = λ i. (sym is i).1 in record {
        fresh = λ i. (is i).0;
        moves = moves_by saw_nothing (λ me k x. step.State (t.state_at r s)) (λ me k x. Unit {0}) (t.next_of r s)
            (λ me. event.State σ) plain (λ i. (way i).0) (λ i. (way i).1) plans (λ me k x ok. sym same)
            (λ me k x ok. finds me k);
        leaves = record { head = λ i. (way i).2; ticket = λ i. (way i).3 };
        state = subst (IsStateFor (turn_post t r (t.next_of r s)).stirs (turn_post t r (t.next_of r s)).state) same
            state;
        home = home;
        may = λ k x. subst (λ (n : ℕ). MayStore n k) same (may k x);
        sort = subst (λ (n : ℕ). (n ≡ 0) ⊎ (n ≡ mask_in t r)) same sort;
        trail = trail;
      }

  abbrev stirs_facts : Bool × ℕ
  stirs_facts = ((turn_post t r (t.next_of r s)).stirs, (turn_post t r (t.next_of r s)).state)

  pub state_by : state_facts ≡ (false, mask_in t r) → stirs_facts ≡ (true, mask_in t r)
      → IsPlainTurn t (t.next_of r s) → IsWay r (t.next_of r s) (post_of t r s).head (post_of t r s).ticket
      → Plans saw_nothing (λ me. event.State (mask_in t r)) (next_in t (t.next_of r s))
      → ((me : ℕ) (k : Known) → FindsBy me k (step.State (t.state_at r s)) saw_nothing)
      → HomeStays t r s (t.next_of r s)
      → ((old new : Known) → Calm (step.State (t.state_at r s) ∷ []) old new → t.Trail old r s
      → TurnTrail t new r (t.next_of r s)) → StateLaw t r s
  state_by is stirs plain way plans finds home trail = state_as (mask_in t r) is plain way plans finds home trail
      (subst (λ (f : Bool × ℕ). IsStateFor f.0 f.1 (mask_in t r)) (sym stirs) (inr refl))
      (λ k x. may_by (post_of t r s).stirs (mask_in t r) k x) (inr refl)

  pub running_by : state_facts ≡ (false, 0) → IsPlainTurn t (t.next_of r s)
      → IsWay r (t.next_of r s) (post_of t r s).head (post_of t r s).ticket
      → Plans saw_nothing (λ me. event.State 0) (next_in t (t.next_of r s))
      → ((me : ℕ) (k : Known) → FindsBy me k (step.State (t.state_at r s)) saw_nothing)
      → HomeStays t r s (t.next_of r s)
      → ((old new : Known) → Calm (step.State (t.state_at r s) ∷ []) old new → t.Trail old r s
      → TurnTrail t new r (t.next_of r s)) → StateLaw t r s
  running_by is plain way plans finds home trail = state_as 0 is plain way plans finds home trail
      (zero_for _ _ 0 refl) (λ k x. inl refl) (inl refl)

  pub peek_by : (o : Option Entry) → holds p ≡ false → Opens → IsPlainTurn t (t.found_to r s (is_some o))
      → IsWay r (t.found_to r s (is_some o)) None no_ticket
      → Plans (saw_entry o) (λ me. event.Queued (is_some o)) (next_in t (t.found_to r s (is_some o)))
      → ((me : ℕ) (k : Known) (w : ℕ) → o ≡ entry_of w → FindsBy me k (step.Peek (index me 0) w) (saw_entry o))
      → StateStays t r s (t.found_to r s (is_some o)) → (IsHome (post_of t r s).zone (stage_watch t r s) o
      → IsHome (turn_post t r (t.found_to r s (is_some o))).zone (turn_post t r (t.found_to r s (is_some o))).watch o)
      → ((old new : Known) (w : ℕ) → Calm (step.Peek (index old.view.number 0) w ∷ []) old new
      → is_some (entry_of w) ≡ is_some o → t.Trail old r s → TurnTrail t new r (t.found_to r s (is_some o)))
      → PeekLaw t r s o
  peek_by o free opens plain way plans finds state home trail = record {
    free = free;
    opens = record { fresh = λ i. (opens i).0; zone = λ i. (opens i).1 };
    moves = moves_by (saw_entry o) (λ me k w. step.Peek (index me 0) w) (λ me k w. o ≡ entry_of w)
        (t.found_to r s (is_some o)) (λ me. event.Queued (is_some o)) plain (λ i. (way i).0) (λ i. (way i).1) plans
        (λ me k w ok. refl) finds;
    leaves = record { head = λ i. (way i).2; ticket = λ i. (way i).3 };
    state = state;
    home = home;
    trail = trail;
  }

  -- the own entry was off, and the head is given back
  pub give_by : IsPlainTurn t (t.found_to r s false) → IsWay r (t.found_to r s false) None no_ticket
      → Plans (saw_entry None) (λ me. event.Unlock h false) (next_in t (t.found_to r s false))
      → ((me : ℕ) (k : Known) → HasShown me k None → FindsBy me k (step.Unlock k.at false) (saw_entry None))
      → StateStays t r s (t.found_to r s false)
      → IsHome (turn_post t r (t.found_to r s false)).zone (turn_post t r (t.found_to r s false)).watch None
      → ((old mid : Known) (w : ℕ) → Calm (step.Saw (index old.view.number 0) w ∷ []) old mid → t.Fits r → mid.at ≡ h
      → t.Trail old r s → OwesNoPermit mid)
      → ((old new : Known) (w : ℕ)
      → Calm (step.Saw (index old.view.number 0) w ∷ step.Unlock h false ∷ []) old new → is_some (entry_of w) ≡ false
      → t.Trail old r s → TurnTrail t new r (t.found_to r s false)) → GiveLaw t r s
  give_by plain way plans finds state home permits trail = record {
    moves = moves_by (saw_entry None) (λ me k x. step.Unlock k.at false) (λ me k x. (k.at ≡ h) × HasShown me k None)
        (t.found_to r s false) (λ me. event.Unlock h false) plain (λ i. (way i).0) (λ i. (way i).1) plans
        (λ me k x ok. (ok.0, refl)) (λ me k x ok. finds me k ok.1);
    leaves = record { head = λ i. (way i).2; ticket = λ i. (way i).3 };
    state = state;
    home = home;
    permits = permits;
    trail = trail;
  }

  pub pare_by : IsHeld → Opens → IsPlainTurn t (t.found_to r s true) → IsWay r (t.found_to r s true) (Some h) (taken h)
      → ((e : Entry) → Plans (saw_entry (Some e)) event.Unqueue (next_in t (t.found_to r s true)))
      → ((me : ℕ) (k : Known) (e : Entry) → HasShown me k (Some e)
      → FindsBy me k (step.Unqueue (index me 0)) (saw_entry (Some e)))
      → StateStays t r s (t.found_to r s true)
      → IsHome (turn_post t r (t.found_to r s true)).zone (turn_post t r (t.found_to r s true)).watch None
      → ((old new : Known) (w : ℕ)
      → Calm (step.Saw (index old.view.number 0) w ∷ step.Unqueue (index old.view.number 0) ∷ []) old new
      → is_some (entry_of w) ≡ true → t.Trail old r s → TurnTrail t new r (t.found_to r s true)) → GiveLaw t r s
      → PareLaw t r s
  pare_by held opens plain way plans finds state home trail gives = record {
    held = record { holds = λ i. (held i).0; head = λ i. (held i).1 };
    opens = record { fresh = λ i. (opens i).0; zone = λ i. (opens i).1 };
    takes = λ e. moves_by (saw_entry (Some e)) (λ me k x. step.Unqueue (index me 0)) (λ me k x. HasShown me k (Some e))
        (t.found_to r s true) event.Unqueue plain (λ i. (way i).0) (λ i. (way i).1) (plans e)
        (λ me k x ok. owner_own me) (λ me k x ok. finds me k e ok);
    takes_leaves = record { head = λ i. (way i).2; ticket = λ i. (way i).3 };
    takes_state = state;
    takes_home = home;
    takes_trail = trail;
    gives = gives;
  }

  -- The own entry is to be queued: it is queued already, or off with a place left, or none is left.
  abbrev stayed : Turn S O
  stayed = t.added_to r s adds.Stayed

  abbrev joined : Turn S O
  joined = t.added_to r s adds.Joined

  abbrev wore : Turn S O
  wore = t.added_to r s adds.Worn

  abbrev stayed_facts : Bool × ℕ
  stayed_facts = ((turn_post t r stayed).stirs, (turn_post t r stayed).state)

  queues_by : (e : Step) (seen : Seen) (me : ℕ) (k : Known) → p ≡ at.Prepare preparing.Queue
      → Finds k (plan_program me 0 plan) (at.Prepare preparing.Queue) (by_step e) seen → FindsBy me k e seen
  queues_by e seen me k here finds = subst (λ (q : Point). Finds k (plan_program me 0 plan) q (by_step e) seen)
      (sym here) finds

  pub queue_by : p ≡ at.Prepare preparing.Queue → IsHeld
      → IsPlainTurn t stayed → IsWay r stayed (Some h) (taken h) → stayed_facts ≡ (true, mask_in t r)
      → ((e : Entry) → Plans (saw_entry (Some e)) (λ me. event.State (mask_in t r)) (next_in t stayed))
      → ((o : Option Entry) → IsHome (post_of t r s).zone (stage_watch t r s) o
      → IsHome (turn_post t r stayed).zone (turn_post t r stayed).watch o)
      → ((old new : Known) (w : ℕ)
      → Calm (step.Saw (index old.view.number 0) w ∷ step.State (mask_in t r) ∷ []) old new
      → is_some ((told_of new).bits.stored (own_of new)) ≡ true → t.Trail old r s → TurnTrail t new r stayed)
      → IsPlainTurn t joined → IsWay (t.joined_at r s) joined (Some h) (taken h)
      → Plans (saw_entry None) (λ me. event.Queue h plan.form) (next_in t joined)
      → t.plan_of (t.joined_at r s) ≡ t.plan_of r → (t.Fits r → t.Fits (t.joined_at r s))
      → StateGoes t r s (t.joined_at r s) joined
      → ((e : Entry) → IsHome waits (stage_watch t r s) (Some e)
      → IsHome (turn_post t (t.joined_at r s) joined).zone (turn_post t (t.joined_at r s) joined).watch (Some e))
      → ((x : Transition) (i : ℕ) (e : Entry) → x.did ≡ by_step (step.Queue i e) → t.Tells r (t.joined_at r s) (x ∷ []))
      → ((old mid new : Known) → OnlyLooks old mid → HasJoined t r s mid new → t.Trail old r s
      → TurnTrail t new (t.joined_at r s) joined)
      → IsPlainTurn t wore → Plans (with_worn true) (λ me. event.Unlock h false) (next_in t wore)
      → ((n : ℕ) → IsWay (t.worn_at r n) wore None no_ticket) → ((n : ℕ) → StateGoes t r s (t.worn_at r n) wore)
      → ((n : ℕ) → IsHome (turn_post t (t.worn_at r n) wore).zone (turn_post t (t.worn_at r n) wore).watch None)
      → ((old last : Known) → t.Fits r → OnlyLooks old last → last.at ≡ h → t.Trail old r s → OwesNoPermit last)
      → ((old last new : Known) (n : ℕ) → OnlyLooks old last → WasWorn new.view.number new.view.items h n
      → history_of new ≡ history_of last ++ step.Unlock h false ∷ [] → t.Trail old r s
      → TurnTrail t new (t.worn_at r n) wore) → QueueLaw t r s
  queue_by here held splain sway stirs splans shome strail jplain jway jplans same fits jstate jhome jtells jtrail
      wplain wplans wway wstate whome permits wtrail = record {
        held = record { holds = λ i. (held i).0; head = λ i. (held i).1 };
        opens = record { fresh = λ i. (held i).2; zone = ap (λ (q : Point). may_be_queued (zone_at q)) here };
        stays = λ e. moves_by (saw_entry (Some e)) (λ me k x. step.State (mask_in t r)) (λ me k x. HasShown me k (Some e))
            stayed (λ me. event.State (mask_in t r)) splain (λ i. (sway i).0) (λ i. (sway i).1) (splans e)
            (λ me k x ok. refl) (λ me k x ok. queues_by (step.State (mask_in t r)) (saw_entry (Some e)) me k here
            (tt, (ok, λ none. absurd (cc)), tt));
        stays_leaves = record { head = λ i. (sway i).2; ticket = λ i. (sway i).3 };
        stays_state = subst (λ (f : Bool × ℕ). IsStateFor f.0 f.1 (mask_in t r)) (sym stirs) (inr refl);
        stays_home = shome;
        stays_may = λ k x. may_by (post_of t r s).stirs (mask_in t r) k x;
        stays_trail = strail;
        joins = moves_by (saw_entry None) (λ me k e. step.Queue (index me 0) e) (MayJoin h plan.form (plan.given p)) joined
            (λ me. event.Queue h plan.form) jplain (λ i. (jway i).0) (λ i. (jway i).1) jplans
            (λ me k e ok. (refl, sym ok.at, ok.whole, ok.placed))
            (λ me k e ok. queues_by (step.Queue (index me 0) e) (saw_entry None) me k here
            (tt, (ok.shows, λ none. (ok.whole, sym ok.left)), tt));
        joins_same = same;
        joins_fits = fits;
        joins_leaves = record { head = λ i. (jway i).2; ticket = λ i. (jway i).3 };
        joins_state = jstate;
        joins_home = jhome;
        joins_tells = jtells;
        joins_trail = jtrail;
        wears = moves_by (with_worn true) (λ me k x. step.Unlock k.at false) (λ me k x. IsWornOut h plan.form me k) wore
            (λ me. event.Unlock h false) wplain (λ i. (wway 0 i).0) (λ i. (wway 0 i).1) wplans
            (λ me k x ok. (ok.at, refl))
            (λ me k x ok. queues_by (step.Unlock k.at false) (with_worn true) me k here
            (tt, (ok.shows, λ none. (ok.whole, sym ok.worn)), tt));
        wears_leaves = λ n. record { head = λ i. (wway n i).2; ticket = λ i. (wway n i).3 };
        wears_state = wstate;
        wears_home = whome;
        wears_permits = permits;
        wears_trail = wtrail;
      }
