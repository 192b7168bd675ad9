-- A ticket is drawn, the lock taken by it, and given back.
use Rattle.std.proofs.Common.{◌∙◌, ap, append-nil, sym, refl, subst}
use Rattle.std.specs.Prelude.{ℕ, ◌≡◌, ◌≢◌, not, Bool, true, false, Option, Some, None, List, [], ◌∷◌}
use Rattle.wait_model.specs.{declared.points.Point.Point, declared.steps.Step.Step}
use Rattle.wait_model.specs.{declared.watches.Entry.Entry, PointFacts.IsHome, Watches.head_of, Fold.view_of}
use Rattle.wait_model.specs.declared.points.Next.TheVariants as next
use Rattle.wait_model.specs.declared.steps.Step.TheVariants as step
use Rattle.wait_rule.specs.{declared.journal.Journal.Journal, Items.steps_of, HandedPermits.OwesNoPermit, Known.Known}
use Rattle.wait_rule.specs.{Stays.Carries, Stays.unlock_change, Transitions.OnlyLooks, Transitions.Program}
use Rattle.wait_rule.specs.Tickets.{no_ticket, drawn, taken, after_serving}
use Rattle.wait_rule.specs.Says.{IsFree as IsFreeTask, IsUp, added, history_of, unlocked_with}
use Rattle.wait_rule.specs.Queues.{IsAgreed, IsLocked, IsTurn, at_head, index, walk_of_hold}
use Rattle.wait_rule.specs.declared.journal.Item.TheVariants as item
use Rattle.wait_rule.proofs.{TableSteps.ItemLists.steps_append, KnownLaws.Debts.added_debts}
use Rattle.wait_rule.proofs.{KnownLaws.AfterSteps.told_added, KnownLaws.Transitions.only_none}
use Rattle.wait_rule.proofs.KnownLaws.Turns.{finds_turn, other_number, serve_looks}
use Rattle.wq_head.proofs.CarriedHolds.{unlock_carried}
use Rattle.wait_class.specs.{Findings.saw_nothing, declared.stages.Run.Run, declared.stages.Turn.Turn}
use Rattle.wait_class.specs.Posts.{IsStateFor, Post, Stands}
use Rattle.wait_class.specs.Laws.{DrawLaw, IsLawfulCallTable, LawOf, LockLaw, UnlockLaw, Calm, turn_post}
use Rattle.wait_class.specs.Tables.{head_in, Advances, IsAt, IsStop, CallTable, Turned, falls, plan_post, plan_program}
use Rattle.wait_class.specs.Tables.{post_of, run_post, watch_in}
use Rattle.wait_class.proofs.Ground.Going.{runs_looks}
use Rattle.wait_class.proofs.Ground.Standing.{draw_stands, lock_stands, serving_stands, stands_as, still_stands}
use Rattle.wait_class.specs.declared.stages.Doing.TheVariants as doing
use Rattle.wait_class.specs.declared.stages.Turn.TheVariants as turn
use Rattle.wait_class.proofs.CalmSteps.{calm_on, calm_quiet, calm_step, calm_unlock}
use Rattle.wait_class.proofs.Turns.{GoesOn, advance_by, drawn_post, free_task, free_ticket, held_head, moves_quiet, stands_plain, stops_by}

-- the head that it took last is no part of a history
placed_calm : (es : List Step) (old mid new : Known) → new.view ≡ mid.view → new.book.state ≡ mid.book.state
    → Calm es old mid → Calm es old new
placed_calm es old mid new same state c = record {
  number = ap (λ (v : Journal). v.number) same ∙ c.number;
  items = c.items;
  grown = ap (λ (v : Journal). v.items) same ∙ c.grown;
  history = ap (λ (v : Journal). steps_of v.items) same ∙ c.history;
  keeps = λ d. ap (λ (v : Journal). (view_of (steps_of v.items)).bits.keeps d) same ∙ c.keeps d;
  tries = λ d kept none. ap (λ (v : Journal). (view_of (steps_of v.items)).bits.pending d) same ∙ c.tries d kept none;
  stored = λ still. ap (λ (v : Journal). (view_of (steps_of v.items)).bits.stored (index v.number 0)) same
      ∙ c.stored still;
  state = λ awake. state ∙ c.state awake;
}

module _ {C S O : Type 0} (t : CallTable C S O) (law : IsLawfulCallTable t) where
  pub draw_law : (r : C) (s : S) → t.doing s ≡ doing.Draw → DrawLaw t r s
  draw_law r s here = subst (λ d. LawOf d t r s) here (law.at r s)

  pub lock_law : (r : C) (s : S) → t.doing s ≡ doing.Lock → LockLaw t r s
  lock_law r s here = subst (λ d. LawOf d t r s) here (law.at r s)

  pub unlock_law : (r : C) (s : S) → t.doing s ≡ doing.Unlock → UnlockLaw t r s
  unlock_law r s here = subst (λ d. LawOf d t r s) here (law.at r s)

  -- a ticket is drawn
  module _ (old : Known) (r : Run C) (s : S) (l : DrawLaw t r.of s) (a : IsAt t old r s) (n : ℕ) where
    abbrev h : ℕ
    h = head_in t r.of s

    abbrev mid : Known
    mid = added old (item.Drawn h n)

    abbrev q : Run C
    q = record r { ticket = n }

    abbrev f : Program
    f = plan_program old.view.number 0 (t.plan_of r.of)

    drawn_at : Stands mid (plan_post (Some n) (t.plan_of r.of) (t.point_of s))
    drawn_at = stands_as mid (record (post_of t r.of s) { ticket = drawn h n })
        (plan_post (Some n) (t.plan_of r.of) (t.point_of s))
        (draw_stands old h n (post_of t r.of s) (stands_plain t old r s l.fresh a.stands)) refl
        (free_ticket (Some n) (t.plan_of r.of) (t.point_of s) l.free ∙ ap (λ (i : ℕ). drawn i n) l.head)
        (λ σ. σ) (λ o x. x)

    drawn_from : Advances t old mid r q s (turn.Again (t.drawn_to s))
    drawn_from = record {
      same = refl;
      went = record {
        runs = record {
          transitions = [];
          goes = (record { items = item.Drawn h n ∷ []; looks = (tt, tt); is = refl }, λ i. next.Go (l.same i));
        };
        tells = law.tells.none r.of;
        keeps = subst (λ (g : Bool). t.Keeps (index old.view.number 0) (watch_in t r.of) (t.took s) g old mid)
            (sym l.took)
            (law.keeps.told (index old.view.number 0) (watch_in t r.of) (t.took s) old mid refl refl
            (told_added old (item.Drawn h n)) (added_debts old mid (item.Drawn h n) refl refl));
      };
      lands = record {
        fits = a.fits;
        up = a.up;
        stands = subst (Stands mid) (sym (drawn_post t q (t.drawn_to s) l.drawn))
            (subst (λ (p : Point). Stands mid (plan_post (Some n) (t.plan_of r.of) p)) (sym l.same) drawn_at);
        trail = l.trail mid
            (law.still old mid r.of s (calm_quiet old (item.Drawn h n) refl (told_added old (item.Drawn h n)) refl) a.trail);
      };
    }

  pub draw_advances : (old new : Known) (r : Run C) (s : S) → t.doing s ≡ doing.Draw → IsAt t old r s → (h n : ℕ)
      → h ≡ head_in t r.of s → new ≡ added old (item.Drawn h n)
      → Advances t old new r (record r { ticket = n }) s (turn.Again (t.drawn_to s))
  draw_advances old new r s here a h n same is =
      subst (λ (k : Known). Advances t old k r (record r { ticket = n }) s (turn.Again (t.drawn_to s)))
      (sym (is ∙ ap (λ (i : ℕ). added old (item.Drawn i n)) same))
      (drawn_from old r s (draw_law r.of s here) a n)

  pub draw_still : (old new : Known) (h n : ℕ) → new ≡ added old (item.Drawn h n)
      → history_of new ≡ history_of old
  draw_still old new h n is = ap history_of is
      ∙ (steps_append old.view.items (item.Drawn h n ∷ []) ∙ append-nil (history_of old))

  pub draw_free : (old : Known) (r : Run C) (s : S) → t.doing s ≡ doing.Draw → IsAt t old r s → IsFreeTask old
  draw_free old r s here a = let l = draw_law r.of s here in free_task t old r s l.fresh l.free a

  pub draw_head : (r : C) (s : S) → t.doing s ≡ doing.Draw → head_in t r s ≡ head_in t r (t.drawn_to s)
  draw_head r s here = ap (λ (p : Point). head_of ((t.plan_of r).watches p)) (sym (draw_law r s here).same)

  pub draw_locks : (r : C) (s : S) → t.doing s ≡ doing.Draw → t.doing (t.drawn_to s) ≡ doing.Lock
  draw_locks r s here = (draw_law r s here).locks

  pub draw_depth : (r : C) (s : S) → t.doing s ≡ doing.Draw → t.depth (t.drawn_to s) ≡ t.depth s
  draw_depth r s here = (draw_law r s here).depth

  -- the ticket that is out
  ticket_is : (old : Known) (r : Run C) (s : S) (l : LockLaw t r.of s) → IsAt t old r s
      → old.book.ticket ≡ drawn (head_in t r.of s) r.ticket
  ticket_is old r s l a = a.stands.ticket
      ∙ (ap (λ (p : Post). p.ticket) (drawn_post t r s l.drawn)
      ∙ (free_ticket (Some r.ticket) (t.plan_of r.of) (t.point_of s) l.free ∙ ap (λ (i : ℕ). drawn i r.ticket) l.head))

  -- a load of the served number
  module _ (old : Known) (r : Run C) (s : S) (l : LockLaw t r.of s) (a : IsAt t old r s) (w : ℕ) where
    abbrev head : ℕ
    head = head_in t r.of s

    abbrev served : Known
    served = added old (item.Serving head w)

    abbrev with_served : Run C
    with_served = record r { served = w }

    abbrev program : Program
    program = plan_program old.view.number 0 (t.plan_of r.of)

    serving_keeps : t.Keeps (index old.view.number 0) (watch_in t r.of) (t.took s) (t.took s) old served
    serving_keeps = law.keeps.told (index old.view.number 0) (watch_in t r.of) (t.took s) old served refl refl
        (told_added old (item.Serving head w)) (added_debts old served (item.Serving head w) refl refl)

    serving_looks : OnlyLooks old served
    serving_looks = record { items = item.Serving head w ∷ []; looks = (tt, tt); is = refl }

    -- another one is served
    other_lands : w ≢ r.ticket → Advances t old served r with_served s (turn.Locked s)
    other_lands ne = record {
      same = refl;
      went = record {
        runs = runs_looks program old served (next.Go (t.point_of s)) serving_looks;
        tells = law.tells.none r.of;
        keeps = serving_keeps;
      };
      lands = record {
        fits = a.fits;
        up = a.up;
        stands = stands_as served (record (run_post t r s) { ticket = drawn head r.ticket }) (run_post t with_served s)
            (serving_stands old head w (run_post t r s) (drawn head r.ticket) a.stands
            (ap (after_serving head w) (ticket_is old r s l a) ∙ other_number head r.ticket w ne)) refl
            (sym a.stands.ticket ∙ ticket_is old r s l a) (λ σ. σ) (λ o x. x);
        trail = law.still old served r.of s
            (calm_quiet old (item.Serving head w) refl (told_added old (item.Serving head w)) refl) a.trail;
      };
    }

    other_from : w ≢ r.ticket → Turned t old served r with_served s (turn.Locked s)
    other_from ne = record {
      shows = record { before = old; finds = record { looked = refl; other = ne } };
      advances = other_lands ne;
    }

    -- the own ticket is served, and the lock taken
    module _ (x : ℕ) where
      abbrev e : Step
      e = step.Lock head (walk_of_hold head None) x

      abbrev locked : Known
      locked = at_head head (added served (item.Made e))

      abbrev u : Turn S O
      u = t.next_of r.of s

      abbrev p : Post
      p = run_post t r s

      lock_from : GoesOn t old locked r.of r.of s u
      lock_from = record {
        goes = moves_quiet t law r.of s saw_nothing ℕ (λ me k y. step.Lock head (walk_of_hold head None) y)
            (λ me k y. Unit {0}) u l.moves old.view.number old served locked x refl serving_looks tt (only_none locked);
        keeps = subst (λ (g : Bool). t.Keeps (index old.view.number 0) (watch_in t r.of) (t.took s) g old locked)
            l.moves.took
            (law.keeps.on (index old.view.number 0) (watch_in t r.of) (t.took s) (t.took s) (t.took s) old served locked
            serving_keeps
            (law.keeps.lock (index old.view.number 0) (watch_in t r.of) (t.took s) served head x));
        lands = record {
          up = a.up;
          stands = stands_as locked (record p { head = Some head; ticket = taken head }) (turn_post t r.of u)
              (lock_stands served head (walk_of_hold head None) x (record p { ticket = served.book.ticket })
              (serving_stands old head w p served.book.ticket a.stands refl))
              l.leaves.head l.leaves.ticket (l.state locked.book.state) l.home;
          trail = l.trail old locked x
              (calm_on [] (e ∷ []) old served locked
              (calm_quiet old (item.Serving head w) refl (told_added old (item.Serving head w)) refl)
              (placed_calm (e ∷ []) served (added served (item.Made e)) locked refl refl
              (calm_step served (added served (item.Made e)) e refl (λ v. refl) (λ v d none. none) (λ m v. refl)
              (λ m b. refl)))) a.trail;
        };
      }

  pub other_advances : (old new : Known) (r : Run C) (s : S) → t.doing s ≡ doing.Lock → IsAt t old r s → (h w : ℕ)
      → h ≡ head_in t r.of s → new ≡ added old (item.Serving h w) → w ≢ r.ticket
      → Turned t old new r (record r { served = w }) s (turn.Locked s)
  other_advances old new r s here a h w same is ne =
      subst (λ (k : Known). Turned t old k r (record r { served = w }) s (turn.Locked s))
      (sym (is ∙ ap (λ (i : ℕ). added old (item.Serving i w)) same))
      (other_from old r s (lock_law r.of s here) a w ne)

  pub locked_falls : (r : C) (s : S) → t.doing s ≡ doing.Lock → falls t s (turn.Locked s) ≡ true
  locked_falls r s here = ap not (lock_law r s here).free

  pub turn_out : (old mid : Known) (r : Run C) (s : S) → t.doing s ≡ doing.Lock → IsAt t old r s → (h w : ℕ)
      → h ≡ head_in t r.of s → mid ≡ added old (item.Serving h w) → w ≡ r.ticket → IsTurn mid h
  turn_out old mid r s here a h w same is turn = finds_turn old mid h r.ticket w
      (ticket_is old r s (lock_law r.of s here) a ∙ ap (λ (i : ℕ). drawn i r.ticket) (sym same)) is turn

  pub lock_advances : (old mid new : Known) (r : Run C) (s : S) → t.doing s ≡ doing.Lock → IsAt t old r s
      → (h w x : ℕ) → h ≡ head_in t r.of s → mid ≡ added old (item.Serving h w)
      → new ≡ at_head h (added mid (item.Made (step.Lock h (walk_of_hold h None) x))) → (u : Turn S O)
      → u ≡ t.next_of r.of s
      → Turned t old new r (record r { served = w }) s u
  lock_advances old mid new r s here a h w x same first is u to =
      let l = lock_law r.of s here in
      subst (λ (v : Turn S O). Turned t old new r (record r { served = w }) s v) (sym to)
      (advance_by t old new r (record r { served = w }) s (t.next_of r.of s) refl a.fits l.moves.plain
      (subst (λ (k : Known). GoesOn t old k r.of r.of s (t.next_of r.of s))
      (sym (is ∙ (λ i. at_head (same i) (added (from i)
      (item.Made (step.Lock (same i) (walk_of_hold (same i) None) x)))))) (lock_from old r s l a w x)))
    where
      from : mid ≡ added old (item.Serving (head_in t r.of s) w)
      from = first ∙ ap (λ (i : ℕ). added old (item.Serving i w)) same

  pub lock_falls : (r : C) (s : S) → t.doing s ≡ doing.Lock → (u : Turn S O) → u ≡ t.next_of r s → falls t s u ≡ true
  lock_falls r s here u to = ap (falls t s) to ∙ (lock_law r s here).moves.falls

  -- the lock is given back
  module _ (old new : Known) (is : new ≡ unlocked_with old old.at false) where
    back_carries : Carries unlock_change old new
    back_carries = unlock_carried old new false is

    pub back_looks : OnlyLooks (added old (item.Made (step.Unlock old.at false))) new
    back_looks = subst (OnlyLooks (added old (item.Made (step.Unlock old.at false)))) (sym is)
        (serve_looks old old.at false)

    pub back_stands : (p q : Post) → Stands old p → q.head ≡ None → q.ticket ≡ no_ticket
        → IsStateFor q.stirs q.state old.book.state
        → ((o : Option Entry) → IsHome p.zone p.watch o → IsHome q.zone q.watch o) → Stands new q
    back_stands p q s head ticket state home = still_stands unlock_change old new p q back_carries s
        (λ h at. ap (λ (k : Known). k.book.differs) is) refl (λ x. refl) (sym head)
        (λ h at. absurd (let none : Some h ≡ None = sym at ∙ head in cc)) (sym ticket) state home

    pub back_up : IsUp old → IsUp new
    back_up up = back_carries.awake ∙ up

  pub unlock_head : (r : C) (s : S) (l : UnlockLaw t r s) → (post_of t r s).head ≡ Some (head_in t r s)
  unlock_head r s l = held_head None (t.plan_of r) (t.point_of s) l.held.holds ∙ ap Some l.held.head

  unlock_from : (old new : Known) (r : Run C) (s : S) (l : UnlockLaw t r.of s) → IsAt t old r s
      → new ≡ unlocked_with old old.at false → GoesOn t old new r.of r.of s (t.next_of r.of s)
  unlock_from old new r s l a is =
      let p = post_of t r.of s in
      let st = stands_plain t old r s l.fresh a.stands in
      let at : old.at ≡ head_in t r.of s = st.at (head_in t r.of s) (unlock_head r.of s l) in
      let u = t.next_of r.of s in
      record {
        goes = moves_quiet t law r.of s saw_nothing (Unit {0}) (λ me k x. step.Unlock k.at false)
            (λ me k x. k.at ≡ head_in t r.of s) u l.moves old.view.number old old new tt refl (only_none old) at
            (back_looks old new is);
        keeps = subst (λ (g : Bool). t.Keeps (index old.view.number 0) (watch_in t r.of) (t.took s) g old new)
            l.moves.took (law.keeps.unlock (index old.view.number 0) (watch_in t r.of) (t.took s) old new is);
        lands = record {
          up = back_up old new is a.up;
          stands = back_stands old new is p (turn_post t r.of u) st l.leaves.head l.leaves.ticket
              (l.state old.book.state st.state) l.home;
          trail = l.trail old new (subst (λ (i : ℕ). Calm (step.Unlock i false ∷ []) old new) at
              (calm_unlock old new is)) a.trail;
        };
      }

  pub unlock_advances : (old new : Known) (r : Run C) (s : S) → t.doing s ≡ doing.Unlock → IsAt t old r s
      → new ≡ unlocked_with old old.at false → (u : Turn S O) → u ≡ t.next_of r.of s → Turned t old new r r s u
  unlock_advances old new r s here a is u to =
      let l = unlock_law r.of s here in
      subst (λ (v : Turn S O). Turned t old new r r s v) (sym to)
      (advance_by t old new r r s (t.next_of r.of s) refl a.fits l.moves.plain (unlock_from old new r s l a is))

  pub unlock_falls : (r : C) (s : S) → t.doing s ≡ doing.Unlock → (u : Turn S O) → u ≡ t.next_of r s
      → falls t s u ≡ true
  unlock_falls r s here u to = ap (falls t s) to ∙ (unlock_law r s here).moves.falls

  pub unlock_stops : (r : C) (s : S) → t.doing s ≡ doing.Unlock → (u : Turn S O) → u ≡ t.next_of r s → IsStop t u
  unlock_stops r s here u to =
      let l = unlock_law r s here in
      subst (IsStop t) (sym to) (stops_by t r (t.next_of r s) l.moves.plain l.leaves.head)

  pub unlock_owes : (k : Known) (r : Run C) (s : S) → t.doing s ≡ doing.Unlock → IsAt t k r s → OwesNoPermit k
  unlock_owes k r s here a =
      let l = unlock_law r.of s here in
      l.permits k a.fits ((stands_plain t k r s l.fresh a.stands).at (head_in t r.of s) (unlock_head r.of s l)) a.trail

  pub unlock_agreed : (k : Known) (r : Run C) (s : S) → t.doing s ≡ doing.Unlock → IsAt t k r s → IsAgreed k
  unlock_agreed k r s here a =
      let l = unlock_law r.of s here in
      (stands_plain t k r s l.fresh a.stands).agreed (head_in t r.of s) (unlock_head r.of s l)

  pub unlock_locked : (k : Known) (r : Run C) (s : S) → t.doing s ≡ doing.Unlock → IsAt t k r s → IsLocked k
  unlock_locked k r s here a =
      let l = unlock_law r.of s here in
      let st = stands_plain t k r s l.fresh a.stands in
      let head = unlock_head r.of s l in
      st.head ∙ (head ∙ ap Some (sym (st.at (head_in t r.of s) head)))
