-- Worked words of waits that were left.
use Rattle.std.proofs.Common.{inl, inr, refl, subst, sym}
use Rattle.std.specs.Prelude.{ℕ, zero, suc, ◌≡◌, ◌⊎◌, true, false, List, [], ◌∷◌, ◌++◌}
use Rattle.wait_model.specs.declared.layout.TheConstants.{FIRST_PLAIN_HEAD}
use Rattle.wait_model.specs.{declared.layout.TheConstants.UNINTERRUPTIBLE, declared.calls.Answer.Answer}
use Rattle.wait_model.specs.{declared.calls.Event.Event, Phrases.ends, SentenceSteps.minus_512, SentenceSteps.number}
use Rattle.wait_model.specs.{Points.call_watch, Watches.head_of, Watches.number_of}
use Rattle.wait_model.specs.declared.calls.Event.TheVariants as event
use Rattle.wait_model.specs.declared.queues.Form.TheVariants as forms
use Rattle.wait_model.specs.declared.tasks.Sleep.TheVariants as sleep
use Rattle.wait_rule.specs.Heeding.{trail_of}
use Rattle.left_sentences.specs.CondWays.{CondFrom, CondWay, behind_prepare, cond_ways, in_hold}
use Rattle.left_sentences.specs.LeftWords.{MakesFrom, asked_again, to_the_end}
use Rattle.left_sentences.specs.WorkedWays.{IsGone, WorkedWays, gone_locked, gone_queued, waits_plainly}

abbrev H : ℕ
H = FIRST_PLAIN_HEAD

-- with its condition set a turn ends so
abbrev turn_to_end : List Event
turn_to_end = event.Queue H forms.Front ∷ event.State UNINTERRUPTIBLE ∷ event.Unlock H false ∷ event.Load 0 1
    ∷ event.State 0 ∷ event.Queued false ∷ []

abbrev stays_to_end : List Event
stays_to_end = event.State UNINTERRUPTIBLE ∷ event.Unlock H false ∷ event.Load 0 1 ∷ event.State 0
    ∷ event.Queued false ∷ []

once : IsGone (event.Load 0 0 ∷ event.Lock H ∷ event.Unlock H false ∷ event.Load 0 0 ∷ []) minus_512
unfolding head_of
once = record {
  first = event.Load 0 0 ∷ event.Lock H ∷ [];
  begins = (
    turn_to_end,
    number 0,
    (0, (refl, (1, (refl, (false, (refl, (refl, (refl, (1, (refl, (refl, (false, (refl, refl))))))))))))),
  );
  way = in_hold;
  from = (event.Load 0 0 ∷ [], inl refl);
  behind = event.Unlock H false ∷ event.Load 0 0 ∷ [];
  makes = to_the_end in_hold (event.Unlock H false ∷ event.Load 0 0 ∷ []) minus_512
      (false, (refl, (0, (refl, refl))));
  is = refl;
}

abbrev first_part : List Event
first_part = event.Load 0 0 ∷ event.Lock H ∷ event.Queue H forms.Front ∷ event.State UNINTERRUPTIBLE
    ∷ event.Unlock H false ∷ event.Load 0 0 ∷ []

abbrev last_part : List Event
last_part = event.Unqueue 1 ∷ event.Unlock H false ∷ event.Load 0 0 ∷ []

twice : IsGone (first_part ++ (event.State 0 ∷ event.Lock H ∷ last_part)) minus_512
unfolding head_of
twice = record {
  first = first_part;
  begins = (
    event.Sleep sleep.Stay ∷ event.Lock H ∷ stays_to_end,
    number 0,
    (
      0,
      (
        refl,
        (
          2,
          (
            refl,
            (
              false,
              (
                refl,
                (
                  refl,
                  (
                    refl,
                    (
                      0,
                      (
                        refl,
                        (
                          sleep.Stay,
                          (
                            refl,
                            (refl, (true, (refl, (refl, (1, (refl, (refl, (false, (refl, refl))))))))),
                          ),
                        ),
                      ),
                    ),
                  ),
                ),
              ),
            ),
          ),
        ),
      ),
    ),
  );
  way = behind_prepare;
  from = inr (record { value = 0; earlier = _; load = refl; unset = refl; prepared = (_, refl) });
  behind = event.State 0 ∷ event.Lock H ∷ last_part;
  makes = asked_again behind_prepare in_hold (event.State 0 ∷ event.Lock H ∷ []) last_part minus_512
      (stays_to_end, number 0, (refl, (1, (refl, (true, (refl, (refl, (1, (refl, (refl, (false, (refl, refl))))))))))))
      (event.State 0 ∷ [], inl refl)
      (to_the_end in_hold last_part minus_512 (true, (refl, (refl, (0, (refl, refl))))));
  is = refl;
}

-- nowhere is it asked that has made nothing
none_from : (y : CondWay) → CondFrom waits_plainly y [] → ⊥
none_from in_hold (more, inl is) = absurd (cc)
none_from in_hold (more, inr is) = absurd (cc)
none_from behind_prepare (inl h) = let z = h.1 in absurd (cc)
none_from behind_prepare (inr h) = let z = h.load in absurd (cc)

-- with which event each way out begins
abbrev StartsFor : CondWay → List Event → Type 0
StartsFor in_hold w = (v : List Event) × ((w ≡ event.Unqueue 1 ∷ v) ⊎ (w ≡ event.Unlock H false ∷ v))
StartsFor behind_prepare w = (v : List Event) × (w ≡ event.State 0 ∷ v)

whole_starts : (x : CondWay) (w : List Event) (a : Answer) → (cond_ways 1 waits_plainly).phrase x ends w a
    → StartsFor x w
unfolding head_of
whole_starts in_hold [] a (true, h) = absurd h
whole_starts in_hold [] a (false, h) = absurd h
whole_starts in_hold (e ∷ w) a (true, h) = (w, inl (λ i. h.0 i ∷ w))
whole_starts in_hold (e ∷ w) a (false, h) = (w, inr (λ i. h.0 i ∷ w))
whole_starts behind_prepare [] a h = absurd h
whole_starts behind_prepare (e ∷ w) a h = (w, λ i. h.0 i ∷ w)

starts_on : (x : CondWay) (e : Event) (v w : List Event) → StartsFor x (e ∷ v) → StartsFor x (e ∷ w)
starts_on in_hold e v w (u, inl is) = (w, inl (let z : e ≡ event.Unqueue 1 = cc in λ i. z i ∷ w))
starts_on in_hold e v w (u, inr is) = (w, inr (let z : e ≡ event.Unlock H false = cc in λ i. z i ∷ w))
starts_on behind_prepare e v w (u, is) = (w, let z : e ≡ event.State 0 = cc in λ i. z i ∷ w)

starts : (x : CondWay) (w : List Event) (a : Answer) → MakesFrom (cond_ways 1 waits_plainly) x w a → StartsFor x w
starts _ _ _ (to_the_end x w a h) = whole_starts x w a h
starts _ _ _ (asked_again x y [] w a opens from makes) = absurd (none_from y from)
starts _ _ _ (asked_again x y (e ∷ v) w a opens from makes) = starts_on x e (v ++ opens.0) (v ++ w)
    (whole_starts x (e ∷ (v ++ opens.0)) opens.1 opens.2)

-- nothing is a word of a way out
never_nothing : (x : CondWay) (w : List Event) (a : Answer) → MakesFrom (cond_ways 1 waits_plainly) x w a → w ≡ [] → ⊥
never_nothing x w a makes is = by x (starts x w a makes)
  where
    by : (y : CondWay) → StartsFor y w → ⊥
    by in_hold (v, inl z) = absurd (cc)
    by in_hold (v, inr z) = absurd (cc)
    by behind_prepare (v, z) = absurd (cc)

rest_nothing : (v w : List Event) → [] ≡ v ++ w → w ≡ []
rest_nothing [] w is = sym is
rest_nothing (e ∷ v) w is = absurd (cc)

not_locked : (a : Answer) → IsGone gone_locked a → ⊥
not_locked a g = by g.first g.way g.from g.is
  where
    by : (first : List Event) (y : CondWay) → CondFrom waits_plainly y (trail_of [] first)
        → gone_locked ≡ first ++ g.behind → ⊥
    by [] y from is = none_from y from
    by (e ∷ []) in_hold (more, inl from) is = absurd (cc)
    by (e ∷ []) in_hold (more, inr from) is = absurd (cc)
    by (e ∷ []) behind_prepare (inl from) is = let z = from.1 in absurd (cc)
    by (e ∷ []) behind_prepare (inr from) is = let z = from.load in let y = from.prepared.1 in absurd (cc)
    by (e ∷ f ∷ v) y from is = never_nothing g.way g.behind a g.makes (rest_nothing v g.behind (let z : [] ≡ v ++
        g.behind = cc in z))

-- nor is a store of RUNNING alone
only_state : (w : List Event) (a : Answer) → MakesFrom (cond_ways 1 waits_plainly) behind_prepare w a
    → w ≡ event.State 0 ∷ [] → ⊥
unfolding head_of
only_state _ _ (to_the_end _ [] a h) is = absurd (cc)
only_state _ _ (to_the_end _ (e ∷ []) a (q, (zero, h))) is = absurd h
only_state _ _ (to_the_end _ (e ∷ []) a (q, (suc n, h))) is = absurd h
only_state _ _ (to_the_end _ (e ∷ f ∷ v) a h) is = absurd (cc)
only_state _ _ (asked_again _ y [] w a opens from makes) is = none_from y from
only_state _ _ (asked_again _ in_hold (e ∷ []) w a opens (more, inl from) makes) is = absurd (cc)
only_state _ _ (asked_again _ in_hold (e ∷ []) w a opens (more, inr from) makes) is = absurd (cc)
only_state _ _ (asked_again _ behind_prepare (e ∷ []) w a opens (inl from) makes) is = let z = from.1 in absurd (cc)
only_state _ _ (asked_again _ behind_prepare (e ∷ []) w a opens (inr from) makes) is =
    let z = from.load in absurd (cc)
only_state _ _ (asked_again _ y (e ∷ f ∷ v) w a opens from makes) is = absurd (cc)

-- the latest event of a trail with a way out is one of these
abbrev IsPlace : Event → Type 0
IsPlace (event.Lock h) = Unit {0}
IsPlace (event.Look hit) = Unit {0}
IsPlace (event.Unlock h spent) = Unit {0}
IsPlace (event.Load c v) = Unit {0}
IsPlace _ = ⊥

place_of : (y : CondWay) (e : Event) (trail : List Event) → CondFrom waits_plainly y (e ∷ trail) → IsPlace e
place_of in_hold e trail (more, inl from) = subst IsPlace (let z : event.Lock (head_of (call_watch waits_plainly)) ≡ e =
    cc in z) tt
place_of in_hold e trail (more, inr from) = subst IsPlace (let z : event.Look false ≡ e = cc in z) tt
place_of behind_prepare e trail (inl (more, from)) = subst IsPlace
    (let z : event.Unlock (head_of (call_watch waits_plainly)) false ≡ e = cc in z) tt
place_of behind_prepare e trail (inr from) = let is = from.load in subst IsPlace
    (let z : event.Load (number_of (call_watch waits_plainly)) from.value ≡ e = cc in z) tt

not_queued : (a : Answer) → IsGone gone_queued a → ⊥
not_queued a g = by g.first g.way g.behind g.from g.makes g.is
  where
    no_start : (y : CondWay) (e : Event) (v w : List Event) → w ≡ e ∷ v → StartsFor y w
        → (e ≡ event.Queue H forms.Front) ⊎ (e ≡ event.Load 0 0) → ⊥
    no_start in_hold e v w is (u, inl z) (inl q) = absurd (cc)
    no_start in_hold e v w is (u, inr z) (inl q) = absurd (cc)
    no_start in_hold e v w is (u, inl z) (inr q) = absurd (cc)
    no_start in_hold e v w is (u, inr z) (inr q) = absurd (cc)
    no_start behind_prepare e v w is (u, z) (inl q) = absurd (cc)
    no_start behind_prepare e v w is (u, z) (inr q) = absurd (cc)

    at_load : (y : CondWay) (w : List Event) (e : Event) (trail : List Event) → e ≡ event.Load 0 0
        → CondFrom waits_plainly y (e ∷ trail) → MakesFrom (cond_ways 1 waits_plainly) y w a
        → w ≡ event.State 0 ∷ [] → ⊥
    at_load in_hold w e trail q (more, inl from) makes is = absurd (cc)
    at_load in_hold w e trail q (more, inr from) makes is = absurd (cc)
    at_load behind_prepare w e trail q from makes is = only_state w a makes is

    by : (first : List Event) (y : CondWay) (w : List Event) → CondFrom waits_plainly y (trail_of [] first)
        → MakesFrom (cond_ways 1 waits_plainly) y w a → gone_queued ≡ first ++ w → ⊥
    by [] y w from makes is = none_from y from
    by (e ∷ []) in_hold w (more, inl from) makes is = absurd (cc)
    by (e ∷ []) in_hold w (more, inr from) makes is = absurd (cc)
    by (e ∷ []) behind_prepare w (inl from) makes is = let z = from.1 in absurd (cc)
    by (e ∷ []) behind_prepare w (inr from) makes is = let z = from.load in let u = from.prepared.1 in absurd (cc)
    by (e ∷ f ∷ []) y w from makes is = no_start y (event.Queue H forms.Front)
        (event.State UNINTERRUPTIBLE ∷ event.Unlock H false ∷ event.Load 0 0 ∷ event.State 0 ∷ []) w
        (let z : w ≡ event.Queue H forms.Front ∷ event.State UNINTERRUPTIBLE ∷ event.Unlock H false ∷ event.Load 0 0
        ∷ event.State 0 ∷ [] = cc in z) (starts y w a makes) (inl refl)
    by (e ∷ f ∷ k ∷ []) y w from makes is = subst IsPlace (let z : k ≡ event.Queue H forms.Front = cc in z)
        (place_of y k (f ∷ e ∷ []) from)
    by (e ∷ f ∷ k ∷ l ∷ []) y w from makes is = subst IsPlace (let z : l ≡ event.State UNINTERRUPTIBLE = cc in z)
        (place_of y l (k ∷ f ∷ e ∷ []) from)
    by (e ∷ f ∷ k ∷ l ∷ m ∷ []) y w from makes is = no_start y (event.Load 0 0) (event.State 0 ∷ []) w
        (let z : w ≡ event.Load 0 0 ∷ event.State 0 ∷ [] = cc in z) (starts y w a makes) (inr refl)
    by (e ∷ f ∷ k ∷ l ∷ m ∷ n ∷ []) y w from makes is = at_load y w n (m ∷ l ∷ k ∷ f ∷ e ∷ [])
        (let z : n ≡ event.Load 0 0 = cc in z) from makes (let z : w ≡ event.State 0 ∷ [] = cc in z)
    by (e ∷ f ∷ k ∷ l ∷ m ∷ n ∷ o ∷ v) y w from makes is =
        never_nothing y w a makes (rest_nothing v w (let z : [] ≡ v ++ w = cc in z))

pub worked_ways : WorkedWays
worked_ways = record { once = once; twice = twice; locked = not_locked; queued = not_queued }
