-- A look at the ticket of a hold, and what is done there, by the stage.
use Rattle.std.proofs.Common.{sym, refl, subst, inl}
use Rattle.std.specs.Prelude.{ℕ, ◌≡◌, ◌<◌, Bool, Some, Result, Ok, Err}
use Rattle.wait_model.specs.{declared.layout.TheConstants.HEADS, Tasks.state_mask, Watches.head_of, Watches.kind_for}
use Rattle.wait_rule.specs.{Known.Known, Queues.IsTold, Says.MayStore, Says.told_of}
use Rattle.wq_head.specs.declared.adds.Worn.{Worn}
use Rattle.wq_head.specs.LockTurns.{AwaitsLock, FindsOther, TookLock}
use Rattle.wait_class.specs.Posts.{own_of}
use Rattle.wait_class.specs.declared.stages.Turn.TheVariants as turn
use Rattle.wait_event.specs.{PartSteps.IsAtHead, PartSteps.ParesPart, Prepares.IsPart}
use Rattle.poll_wait.specs.{declared.turns.Poll.Poll, Polls.IsPoll, Seconds.second_of}
use Rattle.poll_wait.specs.SecondSteps.{IsSecondAtHead, JoinsHeld, ParesSecond}
use Rattle.poll_turns.specs.{declared.stages.PollStage.PollStage, declared.stages.PollUntil.PollUntil}
use Rattle.poll_turns.specs.{PollShows.FindsOtherServed, PollShows.LooksLast}
use Rattle.poll_turns.specs.PollSteps.{Awaits, GivesHoldBack, GoesFrom, TookAwaited, IsAtHold, JoinsFirst, WorksHeld}
use Rattle.poll_turns.specs.PollTurns.{AwaitsFirst, AwaitsSecond, AwaitsTakeFirst, AwaitsTakeSecond, IsPollAt}
use Rattle.poll_turns.specs.PollTurns.{IsPollUnderWay, PollAskedIf, PollTurn}
use Rattle.poll_turns.specs.declared.stages.PollStage.TheVariants as stage
use Rattle.poll_turns.proofs.Ending.{second_draws, second_home, second_on, second_owes, take_fits, take_home, take_on}
use Rattle.poll_turns.proofs.Ending.{take_owes}
use Rattle.poll_turns.proofs.Holding.{awaits_as, first_drawn, first_head, first_home, first_low, first_may, first_queued, first_worn}
use Rattle.poll_turns.proofs.Holding.{low_head, second_drawn, second_head, second_home as second_part, second_low, second_tried, took_as}
use Rattle.poll_turns.proofs.Showing.{drawn_did, hold_did, hold_waits, join_first_awake, join_second_awake, pare_first_awake}
use Rattle.poll_turns.proofs.Showing.{pare_second_awake, waits_still}

-- a lock whose head and ticket have other names
awaits_by : (from old : Known) (h t m n : ℕ) → h ≡ m → t ≡ n → AwaitsLock from old m n → AwaitsLock from old h t
awaits_by from old h t m n is_h is_t w = subst (AwaitsLock from old h) (sym is_t) (awaits_as from old m h n is_h w)

waits_by : (from old new : Known) (h t m n : ℕ) → h ≡ m → t ≡ n
    → ((k : Known) → AwaitsLock k old h t → AwaitsLock k new h t) → AwaitsLock from old m n → AwaitsLock from new m n
waits_by from old new h t m n is_h is_t on w = awaits_by from new m n h t (sym is_h) (sym is_t)
    (on from (awaits_by from old h t m n is_h is_t w))

took_by : (from old new : Known) (h t m n : ℕ) → h ≡ m → t ≡ n → ((k : Known) → AwaitsLock k old h t → TookLock k new h)
    → AwaitsLock from old m n → TookLock from new m
took_by from old new h t m n is_h is_t took w = took_as from new h m is_h (took from (awaits_by from old h t m n is_h is_t w))

looks_by : (old new : Known) (h t m n served : ℕ) → h ≡ m → t ≡ n → FindsOther old new h t served → LooksLast new m n
looks_by old new h t m n served is_h is_t o = (
  old,
  served,
  subst (λ (x : ℕ). FindsOther old new m x served) is_t (subst (λ (x : ℕ). FindsOther old new x t served) is_h o),
)

-- by the stage: since when it waits, that the head is one, and that it waits on
pub waits_from : (A : Type 0) (p : Poll) (start old : Known) (s : PollStage) (h t : ℕ) → Awaits p s h t
    → IsPollAt A p start old s → (from : Known) × AwaitsLock from old h t
waits_from A p start old (stage.HoldFirst n) h t is x =
    (x.last, awaits_by x.last old h t (head_of p.first) n is.0 is.1 x.waits)
waits_from A p start old (stage.HoldSecond n) h t is x =
    (x.queued, awaits_by x.queued old h t (head_of p.second) n is.0 is.1 x.waits)
waits_from A p start old (stage.HoldTakeFirst e m n) h t is x = (x.seen, awaits_by x.seen old h t m n is.0 is.1 x.waits)
waits_from A p start old (stage.HoldTakeSecond e m n) h t is x = (x.seen, awaits_by x.seen old h t m n is.0 is.1 x.waits)
waits_from A p start old s h t is x = absurd is

pub awaited_fits : (A : Type 0) (p : Poll) → IsPoll p → (start old : Known) (s : PollStage) (h t : ℕ) → Awaits p s h t
    → IsPollAt A p start old s → h < HEADS
awaited_fits A p poll start old (stage.HoldFirst n) h t is x = low_head p.first h is.0 poll.first
awaited_fits A p poll start old (stage.HoldSecond n) h t is x = low_head p.second h is.0 poll.second
awaited_fits A p poll start old (stage.HoldTakeFirst e m n) h t is x = subst (λ (y : ℕ). y < HEADS) (sym is.0)
    (take_fits A p poll start old e m n x)
awaited_fits A p poll start old (stage.HoldTakeSecond e m n) h t is x = subst (λ (y : ℕ). y < HEADS) (sym is.0)
    (second_draws A p poll start x.between e x.taken x.told x.seen (Some x.entry) x.looks x.entry refl m x.is_head).fits
awaited_fits A p poll start old s h t is x = absurd is

waits_on : (A : Type 0) (p : Poll) (start old new : Known) (s : PollStage) (h t : ℕ) → Awaits p s h t
    → ((k : Known) → AwaitsLock k old h t → AwaitsLock k new h t) → IsPollAt A p start old s → IsPollAt A p start new s
waits_on A p start old new (stage.HoldFirst n) h t is on x = record {
  last = x.last;
  turned = x.turned;
  told = x.told;
  waits = waits_by x.last old new h t (head_of p.first) n is.0 is.1 on x.waits;
}
waits_on A p start old new (stage.HoldSecond n) h t is on x = record {
  queued = x.queued;
  has = x.has;
  told = x.told;
  waits = waits_by x.queued old new h t (head_of p.second) n is.0 is.1 on x.waits;
}
waits_on A p start old new (stage.HoldTakeFirst e m n) h t is on x = record {
  before = x.before;
  ending = x.ending;
  told = x.told;
  stored = x.stored;
  stores = x.stores;
  carries = x.carries;
  seen = x.seen;
  entry = x.entry;
  looks = x.looks;
  is_head = x.is_head;
  waits = waits_by x.seen old new h t m n is.0 is.1 on x.waits;
}
waits_on A p start old new (stage.HoldTakeSecond e m n) h t is on x = record {
  between = x.between;
  taken = x.taken;
  told = x.told;
  seen = x.seen;
  entry = x.entry;
  looks = x.looks;
  is_head = x.is_head;
  waits = waits_by x.seen old new h t m n is.0 is.1 on x.waits;
}
waits_on A p start old new s h t is on x = absurd is

finds_other : (p : Poll) (old new : Known) (s : PollStage) (h t served : ℕ) → Awaits p s h t
    → FindsOther old new h t served → FindsOtherServed p new s
finds_other p old new (stage.HoldFirst n) h t served is o = looks_by old new h t (head_of p.first) n served is.0 is.1 o
finds_other p old new (stage.HoldSecond n) h t served is o = looks_by old new h t (head_of p.second) n served is.0 is.1 o
finds_other p old new (stage.HoldTakeFirst e m n) h t served is o = looks_by old new h t m n served is.0 is.1 o
finds_other p old new (stage.HoldTakeSecond e m n) h t served is o = looks_by old new h t m n served is.0 is.1 o
finds_other p old new s h t served is o = absurd is

-- another number is served
pub waits_more : (p : Poll) (old new : Known) (s : PollStage) (h t served passed : ℕ) → Awaits p s h t
    → FindsOther old new h t served → ((k : Known) → AwaitsLock k old h t → AwaitsLock k new h t) → passed ≡ HEADS
    → GoesFrom p old new passed s (turn.Locked s)
waits_more p old new s h t served passed is o on none = record {
  came = λ b start x. waits_on (PollAskedIf b) p start old new s h t is on x;
  did = hold_waits p old new h t served passed o none s s (finds_other p old new s h t served is o);
}

-- it is served, what is to be done there is done, and the head given back
pub works_on : (p : Poll) (old held did new : Known) (s : PollStage) (u : PollTurn) → IsPollUnderWay p old (turn.Again s)
    → TookAwaited p old held s → WorksHeld p held did s u → GivesHoldBack did new → IsTold new → (passed : ℕ)
    → passed ≡ did.at → GoesFrom p old new passed s u
works_on p old held did new s u x turned works gives told passed is_passed =
    let w = waits_from (PollAskedIf x.0) p x.1 old s turned.head turned.ticket turned.awaits x.2 in record {
      came = λ b start y. works.comes b start old new y turned gives told;
      did = hold_did p w.0 old held did new turned.head turned.ticket w.1 (turned.took w.0 w.1) works.awake gives s u
          works.shows passed is_passed;
    }

-- behind a draw
pub first_stands : (p : Poll) (old mid : Known) (h t : ℕ) → h ≡ head_of p.first → IsTold old → AwaitsLock old mid h t
    → IsPollUnderWay p old (turn.Again stage.QueueFirst) → IsPollUnderWay p mid (turn.Again (stage.HoldFirst t))
first_stands p old mid h t is told waits x = (x.0, x.1, first_drawn p x.1 old mid h t is x.2 told waits)

pub first_goes : (p : Poll) (old mid new : Known) (h t passed : ℕ) (u : PollTurn) → h ≡ head_of p.first → IsTold old
    → AwaitsLock old mid h t → GoesFrom p mid new passed (stage.HoldFirst t) u → GoesFrom p old new passed stage.QueueFirst u
first_goes p old mid new h t passed u is told waits g = record {
  came = λ b start x. g.came b start (first_drawn p start old mid h t is x told waits);
  did = drawn_did p old mid new passed (stage.HoldFirst t) stage.QueueFirst u (waits_still old mid h t waits) (λ n f. f)
      g.did.sleeps g.did;
}

pub second_stands : (p : Poll) (old mid : Known) (h t : ℕ) → h ≡ head_of p.second → IsTold old → AwaitsLock old mid h t
    → IsPollUnderWay p old (turn.Again stage.QueueSecond) → IsPollUnderWay p mid (turn.Again (stage.HoldSecond t))
second_stands p old mid h t is told waits x = (x.0, x.1, second_drawn p x.1 old mid h t is x.2 told waits)

pub second_goes : (p : Poll) (old mid new : Known) (h t passed : ℕ) (u : PollTurn) → h ≡ head_of p.second → IsTold old
    → AwaitsLock old mid h t → GoesFrom p mid new passed (stage.HoldSecond t) u → GoesFrom p old new passed stage.QueueSecond u
second_goes p old mid new h t passed u is told waits g = record {
  came = λ b start x. g.came b start (second_drawn p start old mid h t is x told waits);
  did = drawn_did p old mid new passed (stage.HoldSecond t) stage.QueueSecond u (waits_still old mid h t waits)
      (λ n f. f) g.did.sleeps g.did;
}

-- a stage by another name
pub stands_as : (p : Poll) (k : Known) (s n : PollStage) → s ≡ n → IsPollUnderWay p k (turn.Again s)
    → IsPollUnderWay p k (turn.Again n)
stands_as p k s n = subst (λ (m : PollStage). IsPollUnderWay p k (turn.Again m))

pub goes_as : (p : Poll) (old new : Known) (passed : ℕ) (s n : PollStage) (u : PollTurn) → s ≡ n
    → GoesFrom p old new passed n u → GoesFrom p old new passed s u
goes_as p old new passed s n u is = subst (λ (m : PollStage). GoesFrom p old new passed m u) (sym is)

pub passes_none : (p : Poll) (old new : Known) (passed : ℕ) (s n : PollStage) (u : PollTurn) → passed ≡ HEADS → s ≡ n
    → GoesFrom p old new HEADS n u → GoesFrom p old new passed s u
passes_none p old new passed s n u none is g = subst (λ (h : ℕ). GoesFrom p old new h s u) (sym none)
    (goes_as p old new HEADS s n u is g)

pub works_as : (p : Poll) (old new : Known) (s n : PollStage) (u : PollTurn) → s ≡ n → WorksHeld p old new n u
    → WorksHeld p old new s u
works_as p old new s n u is = subst (λ (m : PollStage). WorksHeld p old new m u) (sym is)

-- the first entry is queued
module _ (p : Poll) (is : IsPoll p) (a : Known) (n : ℕ) where
  served_first : (start old : Known) (x : AwaitsFirst p start old n) → TookAwaited p old a (stage.HoldFirst n)
      → TookLock x.last a (head_of p.first)
  served_first start old x t = took_by x.last old a t.head t.ticket (head_of p.first) n t.awaits.0 t.awaits.1 t.took x.waits

  module _ (at : IsAtHold p a (stage.HoldFirst n)) where
    abbrev x : AwaitsFirst p at.start at.old n
    x = at.stood

    took : TookLock x.last a (head_of p.first)
    took = served_first at.start at.old x at.turned

    pub join_head : head_of p.first ≡ a.at
    join_head = first_head p is at.start x.last a x.turned x.told took

    pub join_store : MayStore (state_mask p.state) a
    join_store = first_may p is at.start x.last a x.turned x.told took

    pub join_home : IsPart p.first (kind_for p.first) ((told_of a).bits.stored (own_of a))
    join_home = first_home p is at.start x.last a x.turned x.told took

    module _ (b : Known) where
      pub works_queued : (first : Bool) → JoinsFirst p a b (Ok first)
          → WorksHeld p a b (stage.HoldFirst n) (turn.Again stage.QueueSecond)
      works_queued first joins = record {
        permits = first_low p is at.start x.last a x.turned x.told took b (Ok first) joins;
        awake = join_first_awake p is a b (Ok first) joins;
        shows = λ k l m. inl m;
        comes = λ c start old new y t gives told. first_queued p is start y.last a y.turned y.told
            (served_first start old y t) b new gives told first joins;
      }

      pub works_worn : (w : Worn) → JoinsFirst p a b (Err w)
          → WorksHeld p a b (stage.HoldFirst n) (turn.Again (stage.Load (Err w)))
      works_worn w joins = record {
        permits = first_low p is at.start x.last a x.turned x.told took b (Err w) joins;
        awake = join_first_awake p is a b (Err w) joins;
        shows = λ k l m. inl m;
        comes = λ c start old new y t gives told. first_worn p is start y.last a y.turned y.told
            (served_first start old y t) b new gives told w joins;
      }

-- the second
module _ (p : Poll) (is : IsPoll p) (a : Known) (n : ℕ) where
  served_second : (start old : Known) (x : AwaitsSecond p start old n) → TookAwaited p old a (stage.HoldSecond n)
      → TookLock x.queued a (head_of p.second)
  served_second start old x t = took_by x.queued old a t.head t.ticket (head_of p.second) n t.awaits.0 t.awaits.1 t.took
      x.waits

  module _ (at : IsAtHold p a (stage.HoldSecond n)) where
    abbrev z : AwaitsSecond p at.start at.old n
    z = at.stood

    took_second : TookLock z.queued a (head_of p.second)
    took_second = served_second at.start at.old z at.turned

    pub join_second_head : head_of p.second ≡ a.at
    join_second_head = second_head p is at.start z.queued a z.has z.told took_second

    pub join_second_home : IsPart p.second (kind_for p.second) ((told_of a).bits.stored (second_of a))
    join_second_home = second_part p is at.start z.queued a z.has z.told took_second

    pub works_tried : (b : Known) (r : Result (Unit {0}) Worn) → JoinsHeld p.second a b r
        → WorksHeld p a b (stage.HoldSecond n) (turn.Again (stage.Load r))
    works_tried b r joins = record {
      permits = second_low p is at.start z.queued a z.has z.told took_second b r joins;
      awake = join_second_awake p.second is.second a b r joins;
      shows = λ k l m. inl m;
      comes = λ c start old new y t gives told. second_tried p is start y.queued a y.has y.told
          (served_second start old y t) b r joins new gives;
    }

-- the first is taken off
module _ (p : Poll) (is : IsPoll p) (a : Known) (end : PollUntil) (h n : ℕ) where
  taking_first : (A : Type 0) (start old : Known) (x : AwaitsTakeFirst A p start old end h n)
      → TookAwaited p old a (stage.HoldTakeFirst end h n) → TookLock x.seen a h
  taking_first A start old x t = took_by x.seen old a t.head t.ticket h n t.awaits.0 t.awaits.1 t.took x.waits

  module _ (at : IsAtHold p a (stage.HoldTakeFirst end h n)) where
    abbrev A : Type 0
    A = PollAskedIf at.asked

    took_first : TookLock at.stood.seen a h
    took_first = taking_first A at.start at.old at.stood at.turned

    pub pare_home : IsAtHead a
    pare_home = take_home A p is at.start at.old end h n at.stood a took_first

    pub works_pared : (b : Known) (found : Bool) → ParesPart a b found
        → WorksHeld p a b (stage.HoldTakeFirst end h n) (turn.Again (stage.TakeSecond end))
    works_pared b found pares = record {
      permits = take_owes A p is at.start at.old end h n at.stood a took_first b found pares;
      awake = pare_first_awake a b found pares;
      shows = λ k l m. inl m;
      comes = λ c start old new y t gives told. take_on (PollAskedIf c) p is start old end h n y a
          (taking_first (PollAskedIf c) start old y t) b found pares new gives told;
    }

-- and the second
module _ (p : Poll) (is : IsPoll p) (a : Known) (end : PollUntil) (h n : ℕ) where
  taking_second : (A : Type 0) (start old : Known) (x : AwaitsTakeSecond A p start old end h n)
      → TookAwaited p old a (stage.HoldTakeSecond end h n) → TookLock x.seen a h
  taking_second A start old x t = took_by x.seen old a t.head t.ticket h n t.awaits.0 t.awaits.1 t.took x.waits

  module _ (at : IsAtHold p a (stage.HoldTakeSecond end h n)) where
    abbrev asked : Type 0
    asked = PollAskedIf at.asked

    abbrev y : AwaitsTakeSecond asked p at.start at.old end h n
    y = at.stood

    took_last : TookLock y.seen a h
    took_last = taking_second asked at.start at.old y at.turned

    pub pare_second_home : IsSecondAtHead a
    pare_second_home = second_home asked p is at.start y.between end y.taken y.told y.seen (Some y.entry) y.looks y.entry
        refl h y.is_head a took_last

    pub works_over : (b : Known) (found : Bool) → ParesSecond a b found
        → WorksHeld p a b (stage.HoldTakeSecond end h n) (turn.Done end)
    works_over b found pares = record {
      permits = second_owes asked p is at.start y.between end y.taken y.told y.seen (Some y.entry) y.looks y.entry refl h
          y.is_head a took_last b found pares;
      awake = pare_second_awake a b found pares;
      shows = λ k l m. tt;
      comes = λ c start old new w t gives told. second_on (PollAskedIf c) p is start w.between end w.taken w.told w.seen
          (Some w.entry) w.looks w.entry refl h w.is_head a (taking_second (PollAskedIf c) start old w t) b found pares
          new gives;
    }
