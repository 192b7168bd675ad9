-- One turn of a call: by where its program goes, and how the task stands there; and parts one after another.
use Rattle.std.proofs.Common.{◌∙◌, ap, append_assoc, sym, refl, subst, inl, inr}
use Rattle.std.specs.Prelude.{ℕ, ◌≡◌, ◌||◌, not, nat_lt, Bool, true, false, if◌then◌else◌, Option, Some, None, List, [], ◌∷◌, ◌++◌}
use Rattle.wait_model.specs.{declared.points.Point.Point, declared.points.Next.Next, declared.points.Seen.Seen}
use Rattle.wait_model.specs.{declared.steps.Step.Step, PointFacts.holds}
use Rattle.wait_model.specs.declared.points.Next.TheVariants as next
use Rattle.wait_model.specs.declared.steps.Step.TheVariants as step
use Rattle.wait_rule.specs.declared.journal.Item.TheVariants as item
use Rattle.wait_rule.specs.{Items.steps_of, Known.Known, Queues.index, Tickets.taken}
use Rattle.wait_rule.specs.Says.{IsFree as IsFreeTask, IsUp, MayStore, added, history_of}
use Rattle.wait_rule.specs.Transitions.{Goes, OnlyLooks, Program, Transition, after_step_or_look, by_step, with_lock}
use Rattle.wait_rule.proofs.{KnownLaws.TaskHistories.history_after, TableSteps.ItemLists.steps_append}
use Rattle.wait_class.specs.{declared.stages.Run.Run, declared.stages.Turn.Turn}
use Rattle.wait_class.specs.Posts.{IsStateFor, Runs, Stands, ticket_out}
use Rattle.wait_class.specs.Laws.{IsLawfulCallTable, Moves, is_quiet_event, IsPlainTurn, TurnTrail, turn_post}
use Rattle.wait_class.specs.Tables.{Advances, MadeEvent, ShowsTurn, Turned, IsAt, IsStop, Lands, Plan, CallTable, Went}
use Rattle.wait_class.specs.Tables.{falls, next_in, plan_post, plan_program, post_of, run_post, took_in, watch_in}
use Rattle.wait_class.proofs.Ground.Going.{runs_none, runs_on}
use Rattle.wait_class.specs.declared.stages.Turn.TheVariants as turn

-- what a point says of the head and of the ticket
pub free_head : (o : Option ℕ) (plan : Plan) (p : Point) → holds p ≡ false → (plan_post o plan p).head ≡ None
free_head o plan p is = ap (λ (b : Bool). if b then Some (plan.head p) else None) is

pub free_ticket : (o : Option ℕ) (plan : Plan) (p : Point) → holds p ≡ false
    → (plan_post o plan p).ticket ≡ ticket_out (plan.head p) o
free_ticket o plan p is = ap (λ (b : Bool). if b then taken (plan.head p) else ticket_out (plan.head p) o) is

pub held_head : (o : Option ℕ) (plan : Plan) (p : Point) → holds p ≡ true
    → (plan_post o plan p).head ≡ Some (plan.head p)
held_head o plan p is = ap (λ (b : Bool). if b then Some (plan.head p) else None) is

pub held_ticket : (o : Option ℕ) (plan : Plan) (p : Point) → holds p ≡ true
    → (plan_post o plan p).ticket ≡ taken (plan.head p)
held_ticket o plan p is = ap (λ (b : Bool). if b then taken (plan.head p) else ticket_out (plan.head p) o) is

free_by : (b : Bool) (h : ℕ) → (if b then Some h else None) ≡ None → b ≡ false
free_by true h none = absurd (cc)
free_by false h none = refl

-- RUNNING is a state for each place
pub zero_for : (b : Bool) (σ s : ℕ) → s ≡ 0 → IsStateFor b σ s
zero_for true σ s is = inl is
zero_for false σ s is = is

pub any_for : (b : Bool) (σ s : ℕ) → IsStateFor b σ s → IsStateFor true σ s
any_for true σ s is = is
any_for false σ s is = inl is

-- a state may be stored over what a place says
pub may_by : (b : Bool) (σ : ℕ) (k : Known) → IsStateFor b σ k.book.state → MayStore σ k
may_by true σ k (inl zero) = inr (inl zero)
may_by true σ k (inr same) = inr (inr same)
may_by false σ k zero = inr (inl zero)

-- a step between looks
pub looks_history : (old new : Known) (l : OnlyLooks old new) → history_of new ≡ history_of old ++ steps_of l.items
looks_history old new l = ap history_of l.is ∙ steps_append old.view.items l.items

placed_history : (e : Step) (k : Known) → history_of (with_lock e k) ≡ history_of k
placed_history (step.Lock h aim w) k = refl
placed_history e k = refl

pub made_between : (e : Step) (old knew new : Known) → OnlyLooks old knew
    → OnlyLooks (after_step_or_look (by_step e) knew) new → MadeEvent old new
made_between e old knew new before behind = record {
  before = steps_of before.items;
  event = e;
  behind = steps_of behind.items;
  is = looks_history (after_step_or_look (by_step e) knew) new behind
      ∙ (ap (λ (l : List Step). l ++ steps_of behind.items)
      (placed_history e (added knew (item.Made e)) ∙ (history_after knew (added knew (item.Made e)) e refl
      ∙ ap (λ (l : List Step). l ++ e ∷ []) (looks_history old knew before)))
      ∙ (append_assoc (history_of old ++ steps_of before.items) (e ∷ []) (steps_of behind.items)
      ∙ append_assoc (history_of old) (steps_of before.items) (e ∷ steps_of behind.items)));
}

module _ {C S O : Type 0} (t : CallTable C S O) where
  -- the ticket of a stage
  pub plain_post : (r : Run C) (s : S) → t.drawn s ≡ false → run_post t r s ≡ post_of t r.of s
  plain_post r s is = ap (λ (b : Bool). plan_post (if b then Some r.ticket else None) (t.plan_of r.of) (t.point_of s)) is

  pub drawn_post : (r : Run C) (s : S) → t.drawn s ≡ true
      → run_post t r s ≡ plan_post (Some r.ticket) (t.plan_of r.of) (t.point_of s)
  drawn_post r s is = ap (λ (b : Bool). plan_post (if b then Some r.ticket else None) (t.plan_of r.of) (t.point_of s)) is

  pub stands_plain : (k : Known) (r : Run C) (s : S) → t.drawn s ≡ false → Stands k (run_post t r s)
      → Stands k (post_of t r.of s)
  stands_plain k r s is = subst (Stands k) (plain_post r s is)

  -- no head is held there, and no ticket out
  pub free_task : (k : Known) (r : Run C) (s : S) → t.drawn s ≡ false → holds (t.point_of s) ≡ false → IsAt t k r s
      → IsFreeTask k
  free_task k r s fresh free a = let st = stands_plain k r s fresh a.stands in record {
    head = st.head ∙ free_head None (t.plan_of r.of) (t.point_of s) free;
    ticket = st.ticket ∙ free_ticket None (t.plan_of r.of) (t.point_of s) free;
  }

  -- a turn behind which no head is held stops
  pub stops_by : (r : C) (u : Turn S O) → IsPlainTurn t u → (turn_post t r u).head ≡ None → IsStop t u
  stops_by r (turn.Again s) plain none = free_by (holds (t.point_of s)) _ none
  stops_by r (turn.Asleep s) plain none = absurd plain
  stops_by r (turn.Locked s) plain none = absurd plain
  stops_by r (turn.Done o) plain none = tt

  -- how the task stands where the program goes on with no ticket drawn, and at its end
  pub record LandsOn (new : Known) (r : C) (u : Turn S O) : Type 0 where
    pub up : IsUp new
    pub stands : Stands new (turn_post t r u)
    pub trail : TurnTrail t new r u

  pub lands_plain : (new : Known) (q : Run C) (u : Turn S O) → t.Fits q.of → IsPlainTurn t u → LandsOn new q.of u
      → Lands t new q u
  lands_plain new q (turn.Again s) fits plain l = record {
    fits = fits;
    up = l.up;
    stands = subst (Stands new) (sym (plain_post q s plain)) l.stands;
    trail = l.trail;
  }
  lands_plain new q (turn.Asleep s) fits plain l = absurd plain
  lands_plain new q (turn.Locked s) fits plain l = absurd plain
  lands_plain new q (turn.Done o) fits plain l = record { up = l.up; stands = l.stands; trail = l.trail }

  -- a part of the program, and what is told of it
  pub record Passage (me : ℕ) (old new : Known) (r q : C) (from to : Next) : Type 0 where
    pub runs : Runs (plan_program me 0 (t.plan_of r)) old new from to
    pub tells : t.Tells r q runs.transitions
    pub made : MadeEvent old new

  shows_plain : (old new : Known) (r q : Run C) (u : Turn S O) → IsPlainTurn t u → MadeEvent old new
      → ShowsTurn t old new r q u
  shows_plain old new r q (turn.Again s) plain made = inl made
  shows_plain old new r q (turn.Asleep s) plain made = absurd plain
  shows_plain old new r q (turn.Locked s) plain made = absurd plain
  shows_plain old new r q (turn.Done o) plain made = tt

  -- what an event's lemma gives
  pub record GoesOn (old new : Known) (r q : C) (s : S) (u : Turn S O) : Type 0 where
    pub goes : Passage old.view.number old new r q (next.Go (t.point_of s)) (next_in t u)
    pub keeps : t.Keeps (index old.view.number 0) (watch_in t r) (t.took s) (took_in t u) old new
    pub lands : LandsOn new q u

  pub advance_by : (old new : Known) (r q : Run C) (s : S) (u : Turn S O) → t.plan_of q.of ≡ t.plan_of r.of
      → t.Fits q.of → IsPlainTurn t u → GoesOn old new r.of q.of s u → Turned t old new r q s u
  advance_by old new r q s u same fits plain g = record {
    advances = record {
      same = same;
      went = record { runs = g.goes.runs; tells = g.goes.tells; keeps = g.keeps };
      lands = lands_plain new q u fits plain g.lands;
    };
    shows = shows_plain old new r q u plain g.goes.made;
  }

  -- the transition of a step
  pub moves_going : (r q : C) (s : S) (seen : Seen) (A : Type 0) (made : ℕ → Known → A → Step)
      (Ok : ℕ → Known → A → Type 0) (u : Turn S O) → Moves t r s seen A made Ok u → (me : ℕ) (old knew new : Known)
      (a : A) → OnlyLooks old knew → Ok me knew a → OnlyLooks (after_step_or_look (by_step (made me knew a)) knew) new
      → ((x : Transition) → x.did ≡ by_step (made me knew a) → t.Tells r q (x ∷ []))
      → Passage me old new r q (next.Go (t.point_of s)) (next_in t u)
  moves_going r q s seen A made Ok u m me old knew new a before ok behind tells =
      let f : Program = plan_program me 0 (t.plan_of r) in
      let x : Transition = record { seen = seen; knew = knew; did = by_step (made me knew a) } in
      record {
        runs = record {
          transitions = x ∷ [];
          goes = subst (λ (n : Next). Goes f old (next.Go (t.point_of s)) (x ∷ []) new n) (m.goes me)
              (record { looks = before; is = m.is me knew a ok; finds = m.finds me knew a ok }, (behind, refl));
        };
        tells = tells x refl;
        made = made_between (made me knew a) old knew new before behind;
      }

  -- of which a run tells nothing
  pub moves_quiet : IsLawfulCallTable t → (r : C) (s : S) (seen : Seen) (A : Type 0) (made : ℕ → Known → A → Step)
      (Ok : ℕ → Known → A → Type 0) (u : Turn S O) → Moves t r s seen A made Ok u → (me : ℕ) (old knew new : Known)
      (a : A) → is_quiet_event (by_step (made me knew a)) ≡ true → OnlyLooks old knew → Ok me knew a
      → OnlyLooks (after_step_or_look (by_step (made me knew a)) knew) new
      → Passage me old new r r (next.Go (t.point_of s)) (next_in t u)
  moves_quiet law r s seen A made Ok u m me old knew new a quiet before ok behind =
      moves_going r r s seen A made Ok u m me old knew new a before ok behind
      (λ x did. law.tells.quiet r x (ap is_quiet_event did ∙ quiet))

  -- parts one after another
  module _ (law : IsLawfulCallTable t) where
    pub went_on : (old mid new : Known) (r q w : C) (from by to : Turn S O) → Went t old mid r q from by
        → t.plan_of q ≡ t.plan_of r → Went t mid new q w by to → Went t old new r w from to
    went_on old mid new r q w from by to a same b =
        let i = index old.view.number 0 in
        let number = law.keeps.number i (watch_in t r) (took_in t from) (took_in t by) old mid a.keeps in
        record {
          runs = runs_on (plan_program old.view.number 0 (t.plan_of r)) old mid new (next_in t from) (next_in t by)
              (next_in t to) a.runs
              (record {
                transitions = b.runs.transitions;
                goes = subst (λ (g : Program). Goes g mid (next_in t by) b.runs.transitions new (next_in t to))
                    (λ j. plan_program (number j) 0 (same j)) b.runs.goes;
              });
          tells = law.tells.on r q w a.runs.transitions b.runs.transitions a.tells b.tells;
          keeps = law.keeps.on i (watch_in t r) (took_in t from) (took_in t by) (took_in t to) old mid new a.keeps
              (subst (λ (n : ℕ). t.Keeps (index n 0) (watch_in t r) (took_in t by) (took_in t to) mid new) number
              (subst (λ (c : Plan). t.Keeps (index mid.view.number 0) c.watch (took_in t by) (took_in t to) mid
              new) same b.keeps));
        }

    -- a part, and then a turn
    pub advances_on : (old mid new : Known) (r q w : Run C) (s n : S) (u : Turn S O)
        → t.plan_of q.of ≡ t.plan_of r.of → Went t old mid r.of q.of (turn.Again s) (turn.Again n)
        → Advances t mid new q w n u → Advances t old new r w s u
    advances_on old mid new r q w s n u same went a = record {
      same = a.same ∙ same;
      went = went_on old mid new r.of q.of w.of (turn.Again s) (turn.Again n) u went same a.went;
      lands = a.lands;
    }

    pub same_domain : (old new : Known) (r q : C) (from to : Turn S O) → Went t old new r q from to
        → new.domain ≡ old.domain
    same_domain old new r q from to w = law.keeps.domain (index old.view.number 0) (watch_in t r) (took_in t from)
        (took_in t to) old new w.keeps

    -- nothing yet
    pub advances_none : (k : Known) (r : Run C) (s : S) → IsAt t k r s → Advances t k k r r s (turn.Again s)
    advances_none k r s a = record {
      same = refl;
      went = record {
        runs = runs_none (plan_program k.view.number 0 (t.plan_of r.of)) k (next.Go (t.point_of s));
        tells = law.tells.none r.of;
        keeps = law.keeps.none (index k.view.number 0) (watch_in t r.of) (t.took s) k;
      };
      lands = a;
    }

  -- a draw, and then a turn
  pub falls_same : (s n : S) → t.depth n ≡ t.depth s → (u : Turn S O) → falls t n u ≡ true → falls t s u ≡ true
  falls_same s n is (turn.Again m) f = (λ i. not (holds (t.point_of m)) || nat_lt (t.depth m) (sym is i)) ∙ f
  falls_same s n is _ f = f

  -- a turn after which it goes on there
  pub again : (old new : Known) (r q : Run C) (s n : S) → Advances t old new r q s (turn.Locked n)
      → Advances t old new r q s (turn.Again n)
  again old new r q s n a = record {
    same = a.same;
    went = record { runs = a.went.runs; tells = a.went.tells; keeps = a.went.keeps };
    lands = a.lands;
  }
