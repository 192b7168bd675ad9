-- From a publish on, whoever waits for a watch that stays set is before the setter's walk; after its wake nobody waits.
use Rattle.std.proofs.lemmas.Option.{none-some}
use Rattle.std.proofs.lemmas.Bool.{both_ways}
use Rattle.std.proofs.Common.{refl, sym, ◌∙◌, ap, subst, arith, inl, inr}
use Rattle.std.proofs.lemmas.Bool.Decides.{eqb_tells}
use Rattle.std.specs.Prelude.{ℕ, ◌≡◌, ◌≢◌, ◌+◌, ◌<◌, ◌≤◌, true, false, Option, Some, None, List, [], ◌∷◌, ◌++◌}
use Rattle.wait_model.specs.{declared.layout.TheConstants.EVENTS, declared.watches.Watch.Watch}
use Rattle.wait_model.specs.{declared.watches.Entry.Entry, declared.steps.Step.Step, declared.queues.Mark.Mark}
use Rattle.wait_model.specs.{declared.calls.Call.Call, declared.calls.Event.Event, declared.calls.Ran.Ran}
use Rattle.wait_model.specs.{declared.points.Point.Point, declared.points.WalkPoint.WalkPoint}
use Rattle.wait_model.specs.{declared.points.Next.Next, declared.points.Progress.Progress, Functions.put, Views.View}
use Rattle.wait_model.specs.{Laws.Waits, Laws.Unheard, Rows.MayPublish, Rows.AllAllowed, Programs.program_start}
use Rattle.wait_model.specs.Watches.{same, head_of, is_done, owner}
use Rattle.wait_model.specs.Tables.{Table, met, steps}
use Rattle.wait_model.specs.Points.{call_aim, call_watch, given_at}
use Rattle.wait_model.specs.Runs.{State, given_by, event_steps, seen_by, planned, progress_at, progress_after, happens}
use Rattle.wait_model.specs.Runs.{start_state, state_after, state_of, IsItem, Continues, IsRunFrom, IsRun, made_in}
use Rattle.wait_model.specs.Reached.{held_at, IsPlaced, CountedBy, IsSoundCall, IsSound}
use Rattle.wait_model.specs.Followed.{comes_to_end, Publishes, EndsWake, StaysMet, SettersLeaveNobody}
use Rattle.wait_model.specs.declared.watches.Watch.TheVariants as watch
use Rattle.wait_model.specs.declared.steps.Step.TheVariants as step
use Rattle.wait_model.specs.declared.calls.Call.TheVariants as calls
use Rattle.wait_model.specs.declared.calls.Ran.TheVariants as ran
use Rattle.wait_model.specs.declared.points.Point.TheVariants as at
use Rattle.wait_model.specs.declared.points.WalkPoint.TheVariants as walking
use Rattle.wait_model.specs.declared.points.Next.TheVariants as next
use Rattle.wait_model.specs.declared.points.Progress.TheVariants as now
use Rattle.wait_model.proofs.{Sameness.same_trans, Sameness.same_done_is, HistoryLaws.HoldLooks.steps_other}
use Rattle.wait_model.proofs.{HistoryLaws.ViewsTold.views_told, HistoryLaws.NoLostWake.sleeper_found}
use Rattle.wait_model.proofs.{QueueLaws.OutsideWalks.goes_away, QueueLaws.OutsideWalks.program_away}
use Rattle.wait_model.proofs.{QueueLaws.OwnBookmarks.marks_other, QueueLaws.PlacesApart.AreApart}
use Rattle.wait_model.proofs.{QueueLaws.PlacesApart.event_apart, FollowedLaws.WakeEnds.Gone}
use Rattle.wait_model.proofs.FollowedLaws.WakeEnds.{ends_gone}
use Rattle.wait_model.proofs.Functions.{put_at, put_same, put_other, bool_or}
use Rattle.wait_model.proofs.RunLaws.EveryRun.{IsMade, made_of, opened_sound, made_sound, start_sound}
use Rattle.wait_model.proofs.FollowedLaws.OldWaiters.{FoundZero, has_store, Before, AllMet, event_met, waits_all}
use Rattle.wait_model.proofs.FollowedLaws.OldWaiters.{unheard_all, zero_all}
use Rattle.wait_model.proofs.FollowedLaws.AheadEntries.{walks_for, IsAhead, IsFlagAhead, flag_first, walks_none_done}
use Rattle.wait_model.proofs.FollowedLaws.AheadEntries.{walk_both}
use Rattle.wait_model.proofs.FollowedLaws.WakePoints.{is_at_home, IsAtHome, start_home, is_of_walks, walks_publish_not}
use Rattle.wait_model.proofs.FollowedLaws.WakePoints.{goes, walk_step, home_next}

-- what holds of every state of a run
pub record IsGood (s : State) (n : ℕ) : Type 0 where
  pub sound : IsSound s n
  pub apart : AreApart s.table.entry
  pub home : (t : ℕ) → IsAtHome (s.progress t)

home_after : (call : Call) (x : Next) → goes (is_at_home call) x ≡ true → IsAtHome (progress_at call x)
home_after call (next.Go p) h = h
home_after call (next.Ends a) h = tt

own_home : (s : State) (me : ℕ) (q : Progress) → IsAtHome q → IsAtHome (progress_after s me q)
own_home s me (now.Open call p) h =
    home_after call (planned s me call p).next (home_next me call p (seen_by s me call p) h)
own_home s me now.Idle h = tt
own_home s me now.Fresh h = tt

opened_good : (s : State) (n me : ℕ) (call : Call) → IsGood s n → IsItem s (ran.Opened me call)
    → IsGood (happens s (ran.Opened me call)) n
opened_good s n me call g item = record {
  sound = opened_sound s n me call g.sound item;
  apart = g.apart;
  home = λ t. put_at IsAtHome s.progress me (now.Open call (program_start call)) t (λ _. start_home call)
      (λ _. g.home t);
}

made_good : (s : State) (n me : ℕ) (e : Event) (found : ℕ) → IsGood s n → n < EVENTS
    → IsItem s (ran.Made me e found) → IsGood (happens s (ran.Made me e found)) (n + 1)
made_good s n me e found g few item =
    let m : IsMade s n me (s.progress me) e = made_of s n me e found g.sound item.0 (s.progress me) refl item.1 in
    record {
      sound = made_sound s n me e found g.sound few item;
      apart = event_apart s me (given_by (s.progress me)) e n few g.sound.linked m.joins g.apart;
      home = λ t. put_at IsAtHome s.progress me (progress_after s me (s.progress me)) t
          (λ _. own_home s me (s.progress me) (g.home me)) (λ _. g.home t);
    }

good_after : (items : List Ran) (s : State) (n : ℕ) → IsRunFrom s items → n + made_in items ≤ EVENTS → IsGood s n
    → IsGood (state_after s items) (n + made_in items)
good_after [] s n r few g = subst (IsGood s) (omega arith) g
good_after (ran.Opened me call ∷ items) s n r few g =
    good_after items (happens s (ran.Opened me call)) n r.1 few (opened_good s n me call g r.0)
good_after (ran.Made me e found ∷ items) s n r few g =
    subst (IsGood (state_after (happens s (ran.Made me e found)) items)) (omega arith)
    (good_after items (happens s (ran.Made me e found)) (n + 1) r.1 (omega arith)
    (made_good s n me e found g (omega arith) r.0))

start_good : IsGood start_state 0
start_good = record { sound = start_sound; apart = λ x y e d s. absurd (cc); home = λ t. tt }

-- an event outside walks leads to none, or to before the lock of one
away_ahead : (mark : Option Mark) (on : Watch) (place : ℕ) (call : Call) (x : Next) → goes_away x ≡ true
    → IsFlagAhead mark (progress_at call x) on place
away_ahead mark on place call (next.Go (at.Walk walking.Lock)) h = λ _. tt
away_ahead mark on place call (next.Go (at.Walk p)) h = absurd (cc)
away_ahead mark on place call (next.Go p) h = λ _. tt
away_ahead mark on place call (next.Ends a) h = tt

-- a call whose walk is not for the watch
other_ahead : (mark : Option Mark) (on : Watch) (place : ℕ) (call : Call) (x : Next) → walks_for call on ≡ false
    → IsFlagAhead mark (progress_at call x) on place
other_ahead mark on place call (next.Go p) h = λ w. absurd (both_ways true (sym w ∙ h) refl)
other_ahead mark on place call (next.Ends a) h = tt

start_ahead : (mark : Option Mark) (on : Watch) (place : ℕ) (call : Call)
    → IsFlagAhead mark (now.Open call (program_start call)) on place
start_ahead mark on place call = by (program_start call) (start_away call)
  where
    start_away : (c : Call) → goes_away (next.Go (program_start c)) ≡ true
    start_away calls.Remove = refl
    start_away c = refl

    by : (p : Point) → goes_away (next.Go p) ≡ true → IsFlagAhead mark (now.Open call p) on place
    by p h = away_ahead mark on place call (next.Go p) h

module _ (me : ℕ) (on : Watch) where
  -- while the setter's wake is to come or under way: whoever waits is before its walk
  record IsWatched (s : State) : Type 0 where
    zero : (t : ℕ) → t ≢ me → FoundZero s.table t on → ⊥
    waits : (y : ℕ) (e : Entry) (i σ : ℕ) → Waits s.table y e on i σ
        → IsAhead (s.table.mark me) (s.progress me) on e.place
    flags : (y : ℕ) (e : Entry) (i : ℕ) → Unheard s.table y e on i
        → IsFlagAhead (s.table.mark me) (s.progress me) on e.place

  -- after it: nobody waits
  record IsDeserted (s : State) : Type 0 where
    zero : (t : ℕ) → FoundZero s.table t on → ⊥
    waits : (y : ℕ) (e : Entry) (i σ : ℕ) → Waits s.table y e on i σ → ⊥
    flags : (y : ℕ) (e : Entry) (i : ℕ) → Unheard s.table y e on i → ⊥

  -- an event of a task
  module _ (s : State) (n a : ℕ) (e : Event) (found : ℕ) (good : IsGood s n) (item : IsItem s (ran.Made a e found))
    where
      abbrev es : List Step
      es = event_steps s a (given_by (s.progress a)) e

      allowed : AllAllowed s.table a es
      allowed = (made_of s n a e found good.sound item.0 (s.progress a) refl item.1).made

      module _ (set : met s.table.words on ≡ true) where
        all_met : AllMet on s.table a es
        all_met = event_met on s a (given_by (s.progress a)) e set

        old_waits : (y : ℕ) (d : Entry) (i σ : ℕ) → Waits (steps s.table a es) y d on i σ
            → Before es s.table a y d on i σ
        old_waits y d i σ z = waits_all es s.table a y d on i σ good.sound.kept allowed all_met z

        old_flags : (y : ℕ) (d : Entry) (i : ℕ) → Unheard (steps s.table a es) y d on i → Unheard s.table y d on i
        old_flags y d i z = unheard_all es s.table a y d on i allowed all_met z

        old_zero : (t : ℕ) → FoundZero (steps s.table a es) t on → FoundZero s.table t on
        old_zero t z = zero_all es s.table a t on allowed all_met z

        -- nobody begins to wait
        deserted_on : IsDeserted s → IsDeserted (happens s (ran.Made a e found))
        deserted_on d = record {
          zero = λ t z. d.zero t (old_zero t z);
          waits = λ y g i σ z. by y g i σ (old_waits y g i σ z);
          flags = λ y g i z. d.flags y g i (old_flags y g i z);
        }
          where
            by : (y : ℕ) (g : Entry) (i σ : ℕ) → Before es s.table a y g on i σ → ⊥
            by y g i σ (inl w) = d.waits y g i σ w
            by y g i σ (inr (inl u)) = d.flags y g i u
            by y g i σ (inr (inr k)) = d.zero a k.0

        -- another task's event leaves the setter's walk where it is
        others_watched : a ≢ me → IsWatched s → IsWatched (happens s (ran.Made a e found))
        others_watched ne w = record {
          zero = λ t o z. w.zero t o (old_zero t z);
          waits = λ y g i σ z. carried (λ k q. IsAhead k q on g.place) (by y g i σ (old_waits y g i σ z));
          flags = λ y g i z. carried (λ k q. IsFlagAhead k q on g.place) (w.flags y g i (old_flags y g i z));
        }
          where
            back : me ≢ a
            back q = ne (sym q)

            progress_same : put s.progress a (progress_after s a (s.progress a)) me ≡ s.progress me
            progress_same = put_other s.progress a (progress_after s a (s.progress a)) me back

            mark_same : (steps s.table a es).mark me ≡ s.table.mark me
            mark_same = marks_other s a (given_by (s.progress a)) e me back

            carried : (P : Option Mark → Progress → Type 0) → P (s.table.mark me) (s.progress me)
                → P ((steps s.table a es).mark me) (put s.progress a (progress_after s a (s.progress a)) me)
            carried P h = subst (P ((steps s.table a es).mark me)) (sym progress_same)
                (subst (λ (k : Option Mark). P k (s.progress me)) (sym mark_same) h)

            by : (y : ℕ) (g : Entry) (i σ : ℕ) → Before es s.table a y g on i σ
                → IsAhead (s.table.mark me) (s.progress me) on g.place
            by y g i σ (inl k) = w.waits y g i σ k
            by y g i σ (inr (inl u)) = flag_first (s.table.mark me) (s.progress me) on g.place (w.flags y g i u)
            by y g i σ (inr (inr k)) = absurd (w.zero a ne k.0)

  -- An event of the setter's own leaves before its walk whoever waits, and the flags that are to be set. `LeftBy` says
  -- so of an event made at q, after which the setter stands at x.
  module _ (s : State) (n : ℕ) (good : IsGood s n) (set : met s.table.words on ≡ true) (w : IsWatched s) where
    abbrev LeftBy : Progress → Progress → Event → Type 0
    LeftBy q x e =
        ((y : ℕ) (g : Entry) (i σ : ℕ) → Waits (steps s.table me (event_steps s me (given_by q) e)) y g on i σ
        → Before (event_steps s me (given_by q) e) s.table me y g on i σ
        → IsAhead ((steps s.table me (event_steps s me (given_by q) e)).mark me) x on g.place)
        × ((y : ℕ) (g : Entry) (i : ℕ) → Unheard (steps s.table me (event_steps s me (given_by q) e)) y g on i
        → Unheard s.table y g on i
        → IsFlagAhead ((steps s.table me (event_steps s me (given_by q) e)).mark me) x on g.place)

    abbrev Left : Call → Point → Event → Type 0
    Left call p e = LeftBy (now.Open call p) (progress_at call (planned s me call p).next) e

    -- outside walks for the watch
    elsewhere : (call : Call) (p : Point) → ((mark : Option Mark) (place : ℕ)
        → IsFlagAhead mark (progress_at call (planned s me call p).next) on place)
        → Left call p (planned s me call p).event
    elsewhere call p h = (
      (λ y g i σ z b. flag_first _ (progress_at call (planned s me call p).next) on g.place (h _ g.place)),
      (λ y g i z b. h _ g.place),
    )

    in_walk : (call : Call) (p : WalkPoint) → s.progress me ≡ now.Open call (at.Walk p) → walks_for call on ≡ true
        → Left call (at.Walk p) (planned s me call (at.Walk p)).event
    in_walk call p is walks = (
      (λ y g i σ z b. waiters y g i σ z b),
      (λ y g i z u. (walk_both s n me call on good.sound good.apart walks set p k pl c).1 y g i z u.stands
          ((subst (λ (q : Progress). IsFlagAhead (s.table.mark me) q on g.place) is (w.flags y g i u)) walks)),
    )
      where
        k : IsSoundCall n (now.Open call (at.Walk p))
        k = subst (IsSoundCall n) is (good.sound.calls me)

        pl : IsPlaced s.table.entry (s.table.view me) me (now.Open call (at.Walk p))
        pl = subst (λ (x : Progress). IsPlaced s.table.entry (s.table.view me) me x) is (good.sound.placed me)

        c : CountedBy s.table.entry (s.table.view me) (now.Open call (at.Walk p))
        c = subst (CountedBy s.table.entry (s.table.view me)) is (good.sound.counted me)

        waiters : (y : ℕ) (g : Entry) (i σ : ℕ)
            → Waits (steps s.table me (event_steps s me (given_at call (at.Walk p))
            (planned s me call (at.Walk p)).event)) y g on i σ
            → Before (event_steps s me (given_at call (at.Walk p)) (planned s me call (at.Walk p)).event) s.table me y g
            on i σ
            → IsAhead ((steps s.table me (event_steps s me (given_at call (at.Walk p))
            (planned s me call (at.Walk p)).event)).mark me)
            (progress_at call (planned s me call (at.Walk p)).next) on g.place
        waiters y g i σ z (inl b) =
            (walk_both s n me call on good.sound good.apart walks set p k pl c).0 y g i σ z b.stands
            ((subst (λ (q : Progress). IsAhead (s.table.mark me) q on g.place) is (w.waits y g i σ b)) walks)
        waiters y g i σ z (inr (inl u)) =
            (walk_both s n me call on good.sound good.apart walks set p k pl c).0 y g i σ z
            u.stands ((subst (λ (q : Progress). IsAhead (s.table.mark me) q on g.place) is
            (flag_first (s.table.mark me) (s.progress me) on g.place (w.flags y g i u))) walks)
        waiters y g i σ z (inr (inr d)) = absurd (walks_none_done call on walks d.0.1)

    own_left : (call : Call) (p : Point) → s.progress me ≡ now.Open call p → Left call p (planned s me call p).event
    own_left call (at.Walk p) is = elim (bool_or (walks_for call on)) [
      | inl walks ↦ in_walk call p is walks
      | inr not ↦ elsewhere call (at.Walk p)
          (λ mark place. other_ahead mark on place call (planned s me call (at.Walk p)).next not)
    ]
    own_left call p is = elsewhere call p (λ mark place. away_ahead mark on place call (planned s me call p).next
        (program_away call me (seen_by s me call p) p tt).next)

    own_watched : (e : Event) (found : ℕ) (item : IsItem s (ran.Made me e found))
        → IsWatched (happens s (ran.Made me e found))
    own_watched e found item = by (s.progress me) refl item.1
      where
        by : (q : Progress) → s.progress me ≡ q → Continues s me q e found
            → IsWatched (happens s (ran.Made me e found))
        by now.Fresh is c = absurd c
        by now.Idle is c = absurd c
        by (now.Open call p) is c = record {
          zero = λ t o z. w.zero t o (old_zero s n me e found good item set t z);
          waits = λ y g i σ z. subst (λ (q : Progress). IsAhead ((steps s.table me (event_steps s me
              (given_by (s.progress me)) e)).mark me) q on g.place) (sym to) (left.0 y g i σ z
              (old_waits s n me e found good item set y g i σ z));
          flags = λ y g i z. subst (λ (q : Progress). IsFlagAhead ((steps s.table me (event_steps s me
              (given_by (s.progress me)) e)).mark me) q on g.place) (sym to) (left.1 y g i z
              (old_flags s n me e found good item set y g i z));
        }
          where
            to : put s.progress me (progress_after s me (s.progress me)) me ≡ progress_at call
                (planned s me call p).next
            to = put_same s.progress me (progress_after s me (s.progress me)) ∙ ap (progress_after s me) is

            -- the same of the event as the run has it
            left : LeftBy (s.progress me) (progress_at call (planned s me call p).next) e
            left = subst (λ (q : Progress). LeftBy q (progress_at call (planned s me call p).next) e)
                (sym is)
                (subst (LeftBy (now.Open call p) (progress_at call (planned s me call p).next)) (sym c.0)
                (own_left call p is))

  -- the publish: the setter is in no walk, and for a completion it holds the head
  module _ (s : State) (n : ℕ) (e : Event) (found : ℕ) (good : IsGood s n) (item : IsItem s (ran.Made me e found))
      (c : Watch) (publishes : Publishes s me e c) (key : same on c ≡ true) where
    abbrev after : Table
    after = steps s.table me (event_steps s me (given_by (s.progress me)) e)

    done_publish : (v : View) (d : Watch) → is_done d ≡ true → MayPublish v d → v.hold.head ≡ Some (head_of d)
    done_publish v (watch.Done d) h may = may
    done_publish v _ h may = absurd (cc)

    holds_head : is_done on ≡ true → (s.table.view me).hold.head ≡ Some (head_of on)
    holds_head d =
        let one : on ≡ publishes.stored = same_done_is on publishes.stored d
        (sym (same_trans on c publishes.stored key) ∙ publishes.watch) in
        let al : AllAllowed s.table me (step.Publish publishes.stored publishes.value publishes.found ∷ []) =
        subst (AllAllowed s.table me) publishes.step (allowed s n me e found good item) in
        done_publish (s.table.view me) on d (subst (MayPublish (s.table.view me)) (sym one) al.0.0)

    published_zero : (t : ℕ) → t ≢ me → FoundZero after t on → ⊥
    published_zero t ne z =
        let f : (s.table.view t).hold.zero on ≡ Some z.0 = subst (λ (v : View). v.hold.zero on ≡ Some z.0)
        (steps_other s.table me t (event_steps s me (given_by (s.progress me)) e) ne) z.2 in
        ne (good.sound.kept.facts.one_holder t me (head_of on)
        ((good.sound.kept.facts.views t).zero.held on z.0 f) (holds_head z.1))

    published_next : (q : Progress) → s.progress me ≡ q → Continues s me q e found → (mark : Option Mark) (place : ℕ)
        → IsFlagAhead mark (progress_after s me q) on place
    published_next now.Fresh is k mark place = absurd k
    published_next now.Idle is k mark place = absurd k
    published_next (now.Open call (at.Walk p)) is k mark place = absurd (walks_publish_not s me
        (given_by (s.progress me)) e publishes.stored publishes.value publishes.found
        (ap is_of_walks k.0 ∙ (walk_step (call_aim call) p (seen_by s me call (at.Walk p))).event) publishes.step)
    published_next (now.Open call p) is k mark place = away_ahead mark on place call (planned s me call p).next
        (program_away call me (seen_by s me call p) p tt).next

    published_watched : IsWatched (happens s (ran.Made me e found))
    published_watched = record {
      zero = published_zero;
      waits = λ y g i σ z. flag_first _ _ on g.place (next_at g.place);
      flags = λ y g i z. next_at g.place;
    }
      where
        next_at : (place : ℕ) → IsFlagAhead (after.mark me) (put s.progress me (progress_after s me (s.progress me)) me)
            on place
        next_at place = subst (λ (q : Progress). IsFlagAhead (after.mark me) q on place)
            (sym (put_same s.progress me (progress_after s me (s.progress me))))
            (published_next (s.progress me) refl item.1 (after.mark me) place)

  -- the end of the wake
  module _ (s : State) (n : ℕ) (e : Event) (found : ℕ) (good : IsGood s n) (few : n < EVENTS)
      (item : IsItem s (ran.Made me e found)) (set : met s.table.words on ≡ true) (w : IsWatched s)
      (c : Watch) (end : EndsWake s me e c) (key : same on c ≡ true) where
    is_event : e ≡ (planned s me end.call end.point).event
    is_event = (subst (λ (q : Progress). Continues s me q e found) end.opened item.1).0

    for_call : same on (call_watch end.call) ≡ true
    for_call = sym (same_trans on c (call_watch end.call) key) ∙ end.watch

    gone : Gone s n me end.call on good.sound end.wakes for_call end.point (planned s me end.call end.point)
    gone = ends_gone s n me end.call on good.sound end.wakes for_call end.point
        (subst (IsSoundCall n) end.opened (good.sound.calls me)) (subst IsAtHome end.opened (good.home me)) end.answer
        end.ends (ap (λ (d : Event). comes_to_end d end.answer) (sym is_event) ∙ end.whole)

    stores_not : has_store (event_steps s me (given_by (s.progress me)) e) ≡ false
    stores_not = ap (λ (q : Progress). has_store (event_steps s me (given_by q) e)) end.opened
        ∙ ap (λ (d : Event). has_store (event_steps s me (given_at end.call end.point) d)) is_event ∙ gone.1

    idle : put s.progress me (progress_after s me (s.progress me)) me ≡ now.Idle
    idle = put_same s.progress me (progress_after s me (s.progress me)) ∙ ap (progress_after s me) end.opened
        ∙ ap (progress_at end.call) end.ends

    -- the setter's hold is over
    own_zero : FoundZero (happens s (ran.Made me e found)).table me on → ⊥
    own_zero z =
        let g : IsGood (happens s (ran.Made me e found)) (n + 1) = made_good s n me e found good few item in
        let out : ((happens s (ran.Made me e found)).table.view me).hold.head ≡ None =
        (g.sound.placed me).head ∙ ap held_at idle in
        let at : ((happens s (ran.Made me e found)).table.view me).hold.head ≡ Some (head_of on) =
        (g.sound.kept.facts.views me).zero.held on z.0 z.2 in
        absurd (none-some (head_of on) (sym out ∙ at))

    ended_zero : (t : ℕ) → FoundZero (happens s (ran.Made me e found)).table t on → ⊥
    ended_zero t z = elim (eqb_tells t me) [
      | inl q ↦ own_zero (subst (λ (i : ℕ). FoundZero (happens s (ran.Made me e found)).table i on) q.1 z)
      | inr q ↦ w.zero t q.1 (old_zero s n me e found good item set t z)
    ]

    ended_deserted : IsDeserted (happens s (ran.Made me e found))
    ended_deserted = record {
      zero = ended_zero;
      waits = λ y g i σ z. by y g i σ (old_waits s n me e found good item set y g i σ z);
      flags = λ y g i z. unheard y g i (old_flags s n me e found good item set y g i z);
    }
      where
        ahead : (place : ℕ) → IsAhead (s.table.mark me) (s.progress me) on place
            → IsAhead (s.table.mark me) (now.Open end.call end.point) on place
        ahead place h = subst (λ (q : Progress). IsAhead (s.table.mark me) q on place) end.opened h

        unheard : (y : ℕ) (g : Entry) (i : ℕ) → Unheard s.table y g on i → ⊥
        unheard y g i u = gone.0 y g u.stands u.watches
            (ahead g.place (flag_first (s.table.mark me) (s.progress me) on g.place (w.flags y g i u)))

        by : (y : ℕ) (g : Entry) (i σ : ℕ)
            → Before (event_steps s me (given_by (s.progress me)) e) s.table me y g on i σ → ⊥
        by y g i σ (inl k) = gone.0 y g k.stands k.watches (ahead g.place (w.waits y g i σ k))
        by y g i σ (inr (inl u)) = unheard y g i u
        by y g i σ (inr (inr d)) = absurd (both_ways true (sym d.1 ∙ stores_not) refl)

  -- a call that is opened
  opened_watched : (s : State) (t : ℕ) (call : Call) → IsWatched s → IsWatched (happens s (ran.Opened t call))
  opened_watched s t call w = record {
    zero = w.zero;
    waits = λ y g i σ z. put_at (λ (q : Progress). IsAhead (s.table.mark me) q on g.place) s.progress t
        (now.Open call (program_start call)) me
        (λ _. flag_first (s.table.mark me) (now.Open call (program_start call)) on g.place
        (start_ahead (s.table.mark me) on g.place call)) (λ _. w.waits y g i σ z);
    flags = λ y g i z. put_at (λ (q : Progress). IsFlagAhead (s.table.mark me) q on g.place) s.progress t
        (now.Open call (program_start call)) me (λ _. start_ahead (s.table.mark me) on g.place call)
        (λ _. w.flags y g i z);
  }

  made_watched : (s : State) (n a : ℕ) (e : Event) (found : ℕ) → IsGood s n → IsItem s (ran.Made a e found)
      → met s.table.words on ≡ true → IsWatched s → IsWatched (happens s (ran.Made a e found))
  made_watched s n a e found good item set w = elim (eqb_tells a me) [
    | inl q ↦ subst (λ (i : ℕ). IsItem s (ran.Made i e found) → IsWatched (happens s (ran.Made i e found)))
        (sym q.1) (own_watched s n good set w e found) item
    | inr q ↦ others_watched s n a e found good item set q.1 w
  ]

  -- all items between the publish and the end of the wake, and all that come later
  watched_after : (xs ys : List Ran) (s : State) (n : ℕ) → IsRunFrom s xs → n + made_in xs ≤ EVENTS
      → StaysMet s (xs ++ ys) on → IsGood s n → IsWatched s → IsWatched (state_after s xs)
  watched_after [] ys s n r few m g w = w
  watched_after (ran.Opened t call ∷ xs) ys s n r few m g w = watched_after xs ys (happens s (ran.Opened t call)) n
      r.1 few m.1 (opened_good s n t call g r.0) (opened_watched s t call w)
  watched_after (ran.Made t e found ∷ xs) ys s n r few m g w = watched_after xs ys (happens s (ran.Made t e found))
      (n + 1) r.1 (omega arith) m.1 (made_good s n t e found g (omega arith) r.0)
      (made_watched s n t e found g r.0 m.0 w)

  deserted_after : (xs : List Ran) (s : State) (n : ℕ) → IsRunFrom s xs → n + made_in xs ≤ EVENTS → StaysMet s xs on
      → IsGood s n → IsDeserted s → IsDeserted (state_after s xs)
  deserted_after [] s n r few m g d = d
  deserted_after (ran.Opened t call ∷ xs) s n r few m g d = deserted_after xs (happens s (ran.Opened t call)) n
      r.1 few m.1 (opened_good s n t call g r.0) (record { zero = d.zero; waits = d.waits; flags = d.flags })
  deserted_after (ran.Made t e found ∷ xs) s n r few m g d = deserted_after xs (happens s (ran.Made t e found))
      (n + 1) r.1 (omega arith) m.1 (made_good s n t e found g (omega arith) r.0)
      (deserted_on s n t e found g r.0 m.0 d)

  stays_later : (xs ys : List Ran) (s : State) → StaysMet s (xs ++ ys) on → StaysMet (state_after s xs) ys on
  stays_later [] ys s m = m
  stays_later (x ∷ xs) ys s m = stays_later xs ys (happens s x) m.1

  stays_last : (xs : List Ran) (s : State) → StaysMet s xs on → met (state_after s xs).table.words on ≡ true
  stays_last [] s m = m
  stays_last (x ∷ xs) s m = stays_last xs (happens s x) m.1

-- a run in two stretches
after_both : (xs ys : List Ran) (s : State) → state_after s (xs ++ ys) ≡ state_after (state_after s xs) ys
after_both [] ys s = refl
after_both (x ∷ xs) ys s = after_both xs ys (happens s x)

run_both : (xs ys : List Ran) (s : State) → IsRunFrom s (xs ++ ys)
    → IsRunFrom s xs × IsRunFrom (state_after s xs) ys
run_both [] ys s r = (tt, r)
run_both (x ∷ xs) ys s r = let b = run_both xs ys (happens s x) r.1 in ((r.0, b.0), b.1)

made_both : (xs ys : List Ran) → made_in (xs ++ ys) ≡ made_in xs + made_in ys
made_both [] ys = omega arith
made_both (ran.Opened t call ∷ xs) ys = made_both xs ys
made_both (ran.Made t e found ∷ xs) ys = let h : made_in (xs ++ ys) ≡ made_in xs + made_in ys = made_both xs ys
    in omega arith

pub setters_leave_nobody : SettersLeaveNobody
setters_leave_nobody run r few setter c on f x e sleeps =
    deserted.waits x e waiter.0 ((state_of run).table.task (owner x)).state waiter.1
  where
    item : Ran
    item = ran.Made setter f.publish f.found

    last : Ran
    last = ran.Made setter f.end f.end_found

    s0 : State
    s0 = state_of f.before

    s1 : State
    s1 = happens s0 item

    s2 : State
    s2 = state_after s1 f.between

    s3 : State
    s3 = happens s2 last

    runs : IsRunFrom start_state f.before × IsRunFrom s0 (item ∷ (f.between ++ last ∷ f.later))
    runs = run_both f.before (item ∷ (f.between ++ last ∷ f.later)) start_state (subst IsRun f.split r)

    runs2 : IsRunFrom s1 f.between × IsRunFrom s2 (last ∷ f.later)
    runs2 = run_both f.between (last ∷ f.later) s1 runs.1.1

    count : made_in f.before + 1 + made_in f.between + 1 + made_in f.later ≤ EVENTS
    count =
        let a : made_in run ≡ made_in (f.before ++ item ∷ (f.between ++ last ∷ f.later)) = ap made_in f.split in
        let b : made_in (f.before ++ item ∷ (f.between ++ last ∷ f.later))
        ≡ made_in f.before + (made_in (f.between ++ last ∷ f.later) + 1) =
        made_both f.before (item ∷ (f.between ++ last ∷ f.later)) in
        let d : made_in (f.between ++ last ∷ f.later) ≡ made_in f.between + (made_in f.later + 1) =
        made_both f.between (last ∷ f.later) in
        omega arith

    good0 : IsGood s0 (made_in f.before)
    good0 = subst (IsGood s0) (omega arith)
        (good_after f.before start_state 0 runs.0 (let k = count in omega arith) start_good)

    good1 : IsGood s1 (made_in f.before + 1)
    good1 = made_good s0 (made_in f.before) setter f.publish f.found good0 (let k = count in omega arith) runs.1.0

    good2 : IsGood s2 (made_in f.before + 1 + made_in f.between)
    good2 = good_after f.between s1 (made_in f.before + 1) runs2.0 (let k = count in omega arith) good1

    good3 : IsGood s3 (made_in f.before + 1 + made_in f.between + 1)
    good3 = made_good s2 (made_in f.before + 1 + made_in f.between) setter f.end f.end_found good2
        (let k = count in omega arith) runs2.1.0

    watched : IsWatched setter on s2
    watched = watched_after setter on f.between (last ∷ f.later) s1 (made_in f.before + 1) runs2.0
        (let k = count in omega arith) f.stays good1
        (published_watched setter on s0 (made_in f.before) f.publish f.found good0 runs.1.0 c f.publishes f.watch)

    stays2 : StaysMet s2 (last ∷ f.later) on
    stays2 = stays_later setter on f.between (last ∷ f.later) s1 f.stays

    deserted3 : IsDeserted setter on s3
    deserted3 = ended_deserted setter on s2 (made_in f.before + 1 + made_in f.between) f.end f.end_found good2
        (let k = count in omega arith) runs2.1.0 stays2.0 watched c f.ends f.watch

    is : state_of run ≡ state_after s3 f.later
    is = ap state_of f.split ∙ after_both f.before (item ∷ (f.between ++ last ∷ f.later)) start_state
        ∙ after_both f.between (last ∷ f.later) s1

    deserted : IsDeserted setter on (state_of run)
    deserted = subst (IsDeserted setter on) (sym is) (deserted_after setter on f.later s3
        (made_in f.before + 1 + made_in f.between + 1) runs2.1.1 (let k = count in omega arith)
        stays2.1 good3 deserted3)

    set : met (state_of run).table.words on ≡ true
    set = subst (λ (s : State). met s.table.words on ≡ true) (sym is) (stays_last setter on f.later s3 stays2.1)

    waiter : (i : ℕ) × Waits (state_of run).table x e on i ((state_of run).table.task (owner x)).state
    waiter = sleeper_found (state_of run).table x e on (views_told run) sleeps set
