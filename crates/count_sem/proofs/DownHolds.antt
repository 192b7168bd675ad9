-- What a task's history says of its own entry at a semaphore: whether it is queued in the hold, found off, or left
-- there, and which looks take a permit.
use Rattle.std.proofs.Common.{refl, sym, ◌∙◌, ap, subst, eq-eqb, inl, inr}
use Rattle.std.proofs.lemmas.Bool.Decides.{eqb_tells}
use Rattle.std.specs.Prelude.{ℕ, ◌≡◌, ◌≢◌, ◌+◌, ◌⊎◌, ◌==◌, ◌&&◌, not, Bool, true, false, if◌then◌else◌, Option, Some}
use Rattle.std.specs.Prelude.{None, List, [], ◌∷◌, ◌++◌}
use Rattle.wait_model.specs.declared.calls.Event.TheVariants as event
use Rattle.wait_model.specs.{declared.points.Given.Given, declared.steps.Step.Step, declared.tasks.Sleep.Sleep}
use Rattle.wait_model.specs.{declared.watches.Aim.Aim, declared.watches.Entry.Entry, Facts.Agrees, Runs.own}
use Rattle.wait_model.specs.{Tables.Table, Watches.head_of, Watches.stands_at, Words.entry_of}
use Rattle.wait_model.specs.Fold.{after, holding, view_of}
use Rattle.wait_model.specs.Permits.{Dealt, dealt, done_head, is_in, is_seen, leaves, none_dealt, shows_at}
use Rattle.wait_model.specs.Views.{Hold, Look, View, blank, elsewhere, look_at, off as taken_off, shown}
use Rattle.wait_model.specs.Views.{unseen as not_seen}
use Rattle.wait_model.specs.declared.steps.Step.TheVariants as step
use Rattle.wait_model.proofs.{Functions.put_at, Functions.put_other, PermitLaws.OwnTurns.clash}
use Rattle.wait_model.proofs.{PermitLaws.OwnTurns.deals_snoc, StepLaws.UnlockSteps.unlock_hold}
use Rattle.wait_model.proofs.PermitLaws.PermitTurns.{look_seen, not_unseen, seen_shows}
use Rattle.wait_rule.specs.{Interleavings.table_of, Known.Known, LeftEntries.Order, Transitions.IsSeenAs}
use Rattle.wait_rule.specs.Transitions.{IsStepFor}
use Rattle.wait_rule.proofs.KnownLaws.HandedSteps.{AddsLow, IsAwayAt, OrderStep, away_next, order_view}
use Rattle.wait_rule.proofs.KnownLaws.Moments.{kept_of}
use Rattle.count_sem.proofs.AnsweredUps.{Has, IsQuiet, has_gift, has_still, has_take, others, unleft_look}
use Rattle.count_sem.proofs.SemPoints.{IsIn, in_on, view_more}

-- a look takes a permit where it is the first of its hold at the own entry, which was left there, and finds it off
takes_out : (a b m : Bool) → a ≡ false → (a && b) && m ≡ false
takes_out false b m none = refl
takes_out true b m none = absurd (cc)

takes_other : (a b m : Bool) → b ≡ false → (a && b) && m ≡ false
takes_other true false m none = refl
takes_other false b m none = refl
takes_other true true m none = absurd (cc)

takes_seen : (a l s f : Bool) → s ≡ true → a && (l && (not s && not f)) ≡ false
takes_seen false l s f some = refl
takes_seen true false s f some = refl
takes_seen true true true f some = refl
takes_seen true true false f some = absurd (cc)

takes_there : (a l s f : Bool) → f ≡ true → a && (l && (not s && not f)) ≡ false
takes_there false l s f some = refl
takes_there true false s f some = refl
takes_there true true true f some = refl
takes_there true true false true some = refl
takes_there true true false false some = absurd (cc)

takes_it : (a b l s f : Bool) → a ≡ true → b ≡ true → l ≡ true → s ≡ false → f ≡ false
    → (a && b) && (l && (not s && not f)) ≡ true
takes_it a b l s f p q r u v = rw p rw q rw r rw u rw v refl

-- what a hold of head h has seen of an entry, and what stands there
module _ (h : ℕ) where
  shows_stands : (l : Look) (o : Option Entry) → Agrees h l o → shows_at h l ≡ true → stands_at o h ≡ true
  shows_stands not_seen o ag is = absurd (cc)
  shows_stands taken_off o ag is = absurd (cc)
  shows_stands elsewhere o ag is = absurd (cc)
  shows_stands (shown e) o ag is = ap (λ (f : Option Entry). stands_at f h) ag.0 ∙ is

  pub gone_stands : (l : Look) (o : Option Entry) → Agrees h l o → is_seen l ≡ true → shows_at h l ≡ false
      → stands_at o h ≡ false
  gone_stands l o ag seen away = by (stands_at o h) refl
    where
      by : (b : Bool) → stands_at o h ≡ b → stands_at o h ≡ false
      by false q = q
      by true q = absurd (clash (shows_at h l) (seen_shows h l o ag (not_unseen l seen) q) away)

  pub shows_seen : (l : Look) → shows_at h l ≡ true → is_seen l ≡ true
  shows_seen not_seen is = absurd (cc)
  shows_seen taken_off is = refl
  shows_seen elsewhere is = refl
  shows_seen (shown e) is = refl

  look_stands : (f : Option Entry) → stands_at f h ≡ true → shows_at h (look_at (Some h) f) ≡ true
  look_stands None st = absurd (cc)
  look_stands (Some e) st = by (head_of e.watch == h) st
    where
      by : (b : Bool) → b ≡ true → shows_at h (if b then shown e else elsewhere) ≡ true
      by true q = st
      by false q = absurd (cc)

  look_hides : (f : Option Entry) → stands_at f h ≡ false → shows_at h (look_at (Some h) f) ≡ false
  look_hides None none = refl
  look_hides (Some e) none = by (head_of e.watch == h)
    where
      by : (b : Bool) → shows_at h (if b then shown e else elsewhere) ≡ false
      by true = none
      by false = refl

  -- what is found of the own entry is what the hold has seen
  pub shows_some : (l : Look) (found : Option Entry) → shows_at h l ≡ true → IsSeenAs l found → found ≢ None
  shows_some not_seen found is seen = absurd (cc)
  shows_some taken_off found is seen = absurd (cc)
  shows_some elsewhere found is seen = absurd (cc)
  shows_some (shown e) found is seen = λ none. let z : None ≡ Some e = sym none ∙ seen in cc

  pub some_shows : (l : Look) (o : Option Entry) (e : Entry) → Agrees h l o → IsSeenAs l (Some e) → shows_at h l ≡ true
  some_shows not_seen o e ag seen = absurd seen
  some_shows taken_off o e ag seen = absurd (let z : None ≡ Some e = sym seen in cc)
  some_shows elsewhere o e ag seen = absurd seen
  some_shows (shown f) o e ag seen = eq-eqb (head_of f.watch) h ag.1

-- a step that leaves the hold as it is
pub record IsStill (e : Step) : Type 0 where
  pub head : (v : View) → (after e v).hold.head ≡ v.hold.head
  pub book : (v : View) → (after e v).hold.book ≡ v.hold.book
  pub left : (h x : ℕ) (v : View) (b : Bool) → leaves h x v b e ≡ b
  pub low : AddsLow e

-- and gives and takes nothing
pub record IsCalm (e : Step) : Type 0 where
  pub still : IsStill e
  pub quiet : IsQuiet e

pub stores_calm : (v : ℕ) → IsCalm (step.State v)
stores_calm v = record {
  still = record { head = λ u. refl; book = λ u. refl; left = λ h x u b. refl; low = tt };
  quiet = record { gives = λ d x u w. refl; takes = λ d x u w. refl; low = tt };
}

module _ (k : Known) (self : Option ℕ) (g : Given) where
  pub state_calm : (v : ℕ) (e : Step) → IsStepFor k self g (event.State v) e → IsCalm e
  state_calm v (step.State s) made = stores_calm s
  state_calm v e made = absurd made

  pub sleep_calm : (b : Sleep) (e : Step) → IsStepFor k self g (event.Sleep b) e → IsCalm e
  sleep_calm b (step.Sleep s) made = record {
    still = record { head = λ u. refl; book = λ u. refl; left = λ h x u c. refl; low = tt };
    quiet = record { gives = λ d x u w. refl; takes = λ d x u w. refl; low = tt };
  }
  sleep_calm b e made = absurd made

  pub look_calm : (b : Bool) (e : Step) → IsStepFor k self g (event.Look b) e → IsCalm e
  look_calm b (step.Look s) made = record {
    still = record { head = λ u. refl; book = λ u. refl; left = λ h x u c. refl; low = tt };
    quiet = record { gives = λ d x u w. refl; takes = λ d x u w. refl; low = tt };
  }
  look_calm b e made = absurd made

  pub load_calm : (n v : ℕ) (e : Step) → IsStepFor k self g (event.Load n v) e → IsCalm e
  load_calm n v (step.Load l r) made = record {
    still = record { head = λ u. refl; book = λ u. refl; left = λ h x u c. refl; low = tt };
    quiet = record { gives = λ d x u w. refl; takes = λ d x u w. refl; low = tt };
  }
  load_calm n v e made = absurd made

  pub wake_calm : (who : ℕ) (hit : Bool) (e : Step) → IsStepFor k self g (event.Wake who hit) e → IsCalm e
  wake_calm who hit (step.Wake i mask s) made = record {
    still = record { head = λ u. refl; book = λ u. refl; left = λ h x u c. refl; low = tt };
    quiet = record { gives = λ d x u w. refl; takes = λ d x u w. refl; low = tt };
  }
  wake_calm who hit e made = absurd made

module _ (c me : ℕ) where
  abbrev pub own_look : List Step → Look
  own_look es = (view_of es).hold.book (own me)

  abbrev pub has_left : List Step → Bool
  has_left es = (dealt c me es).left

  -- The hold shows the own entry queued; it has seen it, and not there; no look of it takes a permit any more; and it
  -- waits, with its entry queued or not yet.
  pub record IsThere (es : List Step) : Type 0 where
    pub held : IsIn c es
    pub shows : shows_at (done_head c) (own_look es) ≡ true

  pub record IsGone (es : List Step) : Type 0 where
    pub held : IsIn c es
    pub seen : is_seen (own_look es) ≡ true
    pub away : shows_at (done_head c) (own_look es) ≡ false

  pub record IsSpent (es : List Step) : Type 0 where
    pub held : IsIn c es
    pub spent : (has_left es ≡ false) ⊎ (is_seen (own_look es) ≡ true)

  abbrev pub IsWaiting : List Step → Type 0
  IsWaiting es = (IsAwayAt c me es × IsIn c es) ⊎ IsThere es

  -- The task is out of the hold, or has left its entry queued behind it; or it has come back, and has not looked yet.
  abbrev pub IsPast : List Step → Type 0
  IsPast es = is_in c (view_of es) ≡ false

  pub record IsAsleep (es : List Step) : Type 0 where
    pub past : IsPast es
    pub left : has_left es ≡ true

  pub record HasCome (es : List Step) : Type 0 where
    pub held : IsIn c es
    pub left : has_left es ≡ true
    pub unseen : own_look es ≡ not_seen

  pub there_spent : (es : List Step) → IsThere es → IsSpent es
  there_spent es s = record { held = s.held; spent = inr (shows_seen (done_head c) (own_look es) s.shows) }

  pub gone_spent : (es : List Step) → IsGone es → IsSpent es
  gone_spent es s = record { held = s.held; spent = inr s.seen }

  pub waiting_spent : (es : List Step) → IsWaiting es → IsSpent es
  waiting_spent es (inl s) = record { held = s.1; spent = inl s.0.left }
  waiting_spent es (inr s) = there_spent es s

  -- one step more
  pub left_more : (es : List Step) (e : Step)
      → has_left (es ++ e ∷ []) ≡ leaves (done_head c) (own me) (view_of es) (has_left es) e
  left_more es e = ap (λ (u : Dealt). u.left) (deals_snoc c (own me) blank none_dealt es e)

  pub look_more : (es : List Step) (e : Step) → own_look (es ++ e ∷ []) ≡ (after e (view_of es)).hold.book (own me)
  look_more es e = ap (λ (v : View). v.hold.book (own me)) (view_more es e)

  pub in_true : (es : List Step) → IsIn c es → is_in c (view_of es) ≡ true
  in_true es held = ap (λ (i : Option ℕ). holding i (done_head c)) held ∙ eq-eqb (done_head c) (done_head c) refl

  pub agrees_in : (es : List Step) (o : Order me es) → IsIn c es → (x : ℕ)
      → Agrees (done_head c) ((view_of es).hold.book x) ((table_of o.steps).entry x)
  agrees_in es o held x = subst (λ (v : View). Agrees (done_head c) (v.hold.book x) ((table_of o.steps).entry x))
      (order_view me es o) (((kept_of o.steps o.may).facts.views me).hold.agrees (done_head c) x
      (ap (λ (v : View). v.hold.head) (order_view me es o) ∙ held))

  module _ (es : List Step) (e : Step) (s : IsStill e) where
    still_in : IsIn c es → IsIn c (es ++ e ∷ [])
    still_in held = in_on c es e (s.head (view_of es)) held

    still_look : own_look (es ++ e ∷ []) ≡ own_look es
    still_look = look_more es e ∙ ap (λ (b : ℕ → Look). b (own me)) (s.book (view_of es))

    still_left : has_left (es ++ e ∷ []) ≡ has_left es
    still_left = left_more es e ∙ s.left (done_head c) (own me) (view_of es) (has_left es)

    still_past : is_in c (view_of (es ++ e ∷ [])) ≡ is_in c (view_of es)
    still_past = ap (λ (v : View). is_in c v) (view_more es e)
        ∙ ap (λ (h : Option ℕ). holding h (done_head c)) (s.head (view_of es))

    pub still_shows : (x : ℕ) → shows_at (done_head c) ((view_of es).hold.book x) ≡ true
        → shows_at (done_head c) ((view_of (es ++ e ∷ [])).hold.book x) ≡ true
    still_shows x is = ap (λ (v : View). shows_at (done_head c) (v.hold.book x)) (view_more es e)
        ∙ (ap (λ (b : ℕ → Look). shows_at (done_head c) (b x)) (s.book (view_of es)) ∙ is)

    pub there_on : IsThere es → IsThere (es ++ e ∷ [])
    there_on t = record {
      held = still_in t.held;
      shows = ap (λ (l : Look). shows_at (done_head c) l) still_look ∙ t.shows;
    }

    pub gone_on : IsGone es → IsGone (es ++ e ∷ [])
    gone_on t = record {
      held = still_in t.held;
      seen = ap is_seen still_look ∙ t.seen;
      away = ap (λ (l : Look). shows_at (done_head c) l) still_look ∙ t.away;
    }

    pub spent_on : IsSpent es → IsSpent (es ++ e ∷ [])
    spent_on t = record {
      held = still_in t.held;
      spent = elim t.spent [ inl q ↦ inl (still_left ∙ q) | inr q ↦ inr (ap is_seen still_look ∙ q) ];
    }

    pub waiting_on : OrderStep me es e → IsWaiting es → IsWaiting (es ++ e ∷ [])
    waiting_on o (inl t) = inl (away_next c me es e o s.low t.0, still_in t.1)
    waiting_on o (inr t) = inr (there_on t)

    pub asleep_on : IsAsleep es → IsAsleep (es ++ e ∷ [])
    asleep_on t = record { past = still_past ∙ t.past; left = still_left ∙ t.left }

  -- a look at an entry
  module _ (es : List Step) (y w : ℕ) (o : OrderStep me es (step.Saw y w)) where
    abbrev saw : Step
    saw = step.Saw y w

    abbrev more : List Step
    more = es ++ saw ∷ []

    abbrev s : Table
    s = table_of o.order.steps

    -- what holds of the look at an entry then, by what the hold has seen there
    saw_at : (P : Look → Type 0) → IsIn c es → (x : ℕ) → (x ≡ y → P (look_at (Some (done_head c)) (entry_of w)))
        → (x ≢ y → P ((view_of es).hold.book x)) → P ((view_of more).hold.book x)
    saw_at P held x here there = subst (λ (v : View). P (v.hold.book x)) (sym (view_more es saw))
        (put_at P (view_of es).hold.book y (look_at (view_of es).hold.head (entry_of w)) x
        (λ q. subst (λ (h : Option ℕ). P (look_at h (entry_of w))) (sym held) (here q)) there)

    saw_in : IsIn c es → IsIn c more
    saw_in held = in_on c es saw refl held

    saw_left : has_left more ≡ has_left es
    saw_left = left_more es saw

    same_entry : (x : ℕ) → x ≡ y → stands_at (entry_of w) (done_head c) ≡ stands_at (s.entry x) (done_head c)
    same_entry x q = ap (λ (f : Option Entry). stands_at f (done_head c)) (o.allowed ∙ ap s.entry (sym q))

    pub saw_shows : IsIn c es → (x : ℕ) → shows_at (done_head c) ((view_of es).hold.book x) ≡ true
        → shows_at (done_head c) ((view_of more).hold.book x) ≡ true
    saw_shows held x is = saw_at (λ (l : Look). shows_at (done_head c) l ≡ true) held x
        (λ q. look_stands (done_head c) (entry_of w) (same_entry x q
        ∙ shows_stands (done_head c) ((view_of es).hold.book x) (s.entry x) (agrees_in es o.order held x) is)) (λ _. is)

    saw_seen : IsIn c es → is_seen (own_look es) ≡ true → is_seen (own_look more) ≡ true
    saw_seen held is = saw_at (λ (l : Look). is_seen l ≡ true) held (own me)
        (λ _. look_seen (done_head c) (entry_of w)) (λ _. is)

    pub there_saw : IsThere es → IsThere more
    there_saw t = record { held = saw_in t.held; shows = saw_shows t.held (own me) t.shows }

    pub gone_saw : IsGone es → IsGone more
    gone_saw t = record {
      held = saw_in t.held;
      seen = saw_seen t.held t.seen;
      away = saw_at (λ (l : Look). shows_at (done_head c) l ≡ false) t.held (own me)
          (λ q. look_hides (done_head c) (entry_of w) (same_entry (own me) q
          ∙ gone_stands (done_head c) (own_look es) (s.entry (own me)) (agrees_in es o.order t.held (own me)) t.seen
          t.away)) (λ _. t.away);
    }

    pub spent_saw : IsSpent es → IsSpent more
    spent_saw t = record {
      held = saw_in t.held;
      spent = elim t.spent [ inl q ↦ inl (saw_left ∙ q) | inr q ↦ inr (saw_seen t.held q) ];
    }

    pub waiting_saw : IsWaiting es → IsWaiting more
    waiting_saw (inl t) = inl (away_next c me es saw o tt t.0, saw_in t.1)
    waiting_saw (inr t) = inr (there_saw t)

    pub past_saw : IsPast es → IsPast more
    past_saw none = ap (λ (v : View). is_in c v) (view_more es saw) ∙ none

    pub asleep_saw : IsAsleep es → IsAsleep more
    asleep_saw t = record { past = past_saw t.past; left = saw_left ∙ t.left }

    -- what it adds to the account
    module _ (g t : ℕ) (has : Has c me es g t) where
      pub has_saw : IsSpent es → Has c me more g t
      has_saw u = has_still c me es saw g t has refl (elim u.spent [
        | inl q ↦ unleft_look (is_in c (view_of es)) (y == own me) (has_left es) _ q
        | inr q ↦ takes_seen (is_in c (view_of es) && (y == own me)) (has_left es) (is_seen (own_look es))
            (stands_at (entry_of w) (done_head c)) q
      ])

      pub has_past : IsPast es → Has c me more g t
      has_past none = has_still c me es saw g t has refl (takes_out (is_in c (view_of es)) (y == own me) _ none)

      -- of one that has come back: its first look at its own entry finds it there, or takes a permit
      pub come_saw : HasCome es
          → (HasCome more × Has c me more g t) ⊎ ((IsThere more × Has c me more g t) ⊎
          (IsGone more × Has c me more g (t + 1)))
      come_saw u = elim (eqb_tells y (own me)) [
        | inl q ↦ inr (at_own (stands_at (entry_of w) (done_head c)) refl q.0 q.1)
        | inr q ↦ inl (
          record {
            held = saw_in u.held;
            left = saw_left ∙ u.left;
            unseen = look_more es saw ∙ (put_other (view_of es).hold.book y
                (look_at (view_of es).hold.head (entry_of w)) (own me) (λ is. q.1 (sym is)) ∙ u.unseen);
          },
          has_still c me es saw g t has refl (takes_other (is_in c (view_of es)) (y == own me) _ q.0),
        )
      ]
        where
          at_own : (b : Bool) → stands_at (entry_of w) (done_head c) ≡ b → (y == own me) ≡ true → y ≡ own me
              → (IsThere more × Has c me more g t) ⊎ (IsGone more × Has c me more g (t + 1))
          at_own true st mine is = inl (
            record {
              held = saw_in u.held;
              shows = saw_at (λ (l : Look). shows_at (done_head c) l ≡ true) u.held (own me)
                  (λ _. look_stands (done_head c) (entry_of w) st) (λ other. absurd (other (sym is)));
            },
            has_still c me es saw g t has refl
                (takes_there (is_in c (view_of es) && (y == own me)) (has_left es) (is_seen (own_look es))
                (stands_at (entry_of w) (done_head c)) st),
          )
          at_own false st mine is = inr (
            record {
              held = saw_in u.held;
              seen = saw_at (λ (l : Look). is_seen l ≡ true) u.held (own me)
                  (λ _. look_seen (done_head c) (entry_of w)) (λ other. absurd (other (sym is)));
              away = saw_at (λ (l : Look). shows_at (done_head c) l ≡ false) u.held (own me)
                  (λ _. look_hides (done_head c) (entry_of w) st) (λ other. absurd (other (sym is)));
            },
            has_take c me es saw g t has refl (takes_it (is_in c (view_of es)) (y == own me) (has_left es)
                (is_seen (own_look es)) (stands_at (entry_of w) (done_head c)) (in_true es u.held) mine u.left
                (ap is_seen u.unseen) st),
          )

  -- A lock and an unlock of the head. Behind the unlock the task has left its entry where the hold showed it.
  module _ (es : List Step) (g t : ℕ) (has : Has c me es g t) where
    pub come_lock : (aim : Option Aim) (w : ℕ) → has_left es ≡ true
        → HasCome (es ++ step.Lock (done_head c) aim w ∷ []) × Has c me (es ++ step.Lock (done_head c) aim w ∷ []) g t
    come_lock aim w left =
        let e = step.Lock (done_head c) aim w in (
          record {
            held = ap (λ (v : View). v.hold.head) (view_more es e);
            left = left_more es e ∙ left;
            unseen = look_more es e;
          },
          has_still c me es e g t has refl refl,
        )

    pub past_unlock : (i : ℕ) (spent : Bool)
        → IsPast (es ++ step.Unlock i spent ∷ []) × Has c me (es ++ step.Unlock i spent ∷ []) g t
    past_unlock i spent =
        let e = step.Unlock i spent in (
          ap (λ (v : View). is_in c v) (view_more es e)
              ∙ ap (λ (h : Hold). holding h.head (done_head c)) (unlock_hold (view_of es) (view_of es).walk spent),
          has_still c me es e g t has refl refl,
        )

    pub asleep_unlock : (spent : Bool) → IsThere es
        → IsAsleep (es ++ step.Unlock (done_head c) spent ∷ []) × Has c me (es ++ step.Unlock (done_head c) spent ∷ [])
        g t
    asleep_unlock spent there =
        let e = step.Unlock (done_head c) spent in (
          record {
            past = (past_unlock (done_head c) spent).0;
            left = left_more es e
                ∙ (ap (λ (b : Bool). if b then shows_at (done_head c) (own_look es) else has_left es)
                (eq-eqb (done_head c) (done_head c) refl) ∙ there.shows);
          },
          (past_unlock (done_head c) spent).1,
        )

    -- an entry of the own task is queued at the head, or taken off
    pub there_queue : (f : Entry) → IsIn c es → head_of f.watch ≡ done_head c
        → IsThere (es ++ step.Queue (own me) f ∷ []) × Has c me (es ++ step.Queue (own me) f ∷ []) g t
    there_queue f held at_head =
        let e = step.Queue (own me) f in (
          record {
            held = in_on c es e refl held;
            shows = subst (λ (v : View). shows_at (done_head c) (v.hold.book (own me)) ≡ true) (sym (view_more es e))
                (put_at (λ (l : Look). shows_at (done_head c) l ≡ true) (view_of es).hold.book (own me) (shown f)
                (own me)
                (λ _. eq-eqb (head_of f.watch) (done_head c) at_head) (λ other. absurd (other refl)));
          },
          has_still c me es e g t has refl refl,
        )

    -- the own entry is off, or was seen off before another is taken off
    off_seen : (x : ℕ) → (own me ≢ x → is_seen (own_look es) ≡ true)
        → is_seen (own_look (es ++ step.Unqueue x ∷ [])) ≡ true
    off_seen x was = subst (λ (v : View). is_seen (v.hold.book (own me)) ≡ true) (sym (view_more es (step.Unqueue x)))
        (put_at (λ (l : Look). is_seen l ≡ true) (view_of es).hold.book x taken_off (own me) (λ _. refl) was)

    own_off : (a b : Bool) → b ≡ true → a && not b ≡ false
    own_off true true is = refl
    own_off false b is = refl
    own_off true false is = absurd (cc)

    pub spent_off : IsIn c es
        → IsSpent (es ++ step.Unqueue (own me) ∷ []) × Has c me (es ++ step.Unqueue (own me) ∷ []) g t
    spent_off held =
        let e = step.Unqueue (own me) in (
          record {
            held = in_on c es e refl held;
            spent = inr (off_seen (own me) (λ other. absurd (other refl)));
          },
          has_still c me es e g t has (own_off (is_in c (view_of es)) (own me == own me)
              (eq-eqb (own me) (own me) refl))
              refl,
        )

    pub spent_other : (x : ℕ) → OrderStep me es (step.Unqueue x) → IsGone es
        → IsSpent (es ++ step.Unqueue x ∷ []) × Has c me (es ++ step.Unqueue x ∷ []) (g + 1) t
    spent_other x o gone =
        let e = step.Unqueue x in (
          record { held = in_on c es e refl gone.held; spent = inr (off_seen x (λ _. gone.seen)) },
          has_gift c me es e g t has
              (others c me g t es x o (gone_stands (done_head c) (own_look es) ((table_of o.order.steps).entry (own me))
              (agrees_in es o.order gone.held (own me)) gone.seen gone.away) gone.held)
              refl,
        )
