-- A failed load in the hold in which the state was stored: the fold's reading is the one that is stated plainly.
use Rattle.std.proofs.lemmas.Option.{none-some}
use Rattle.std.proofs.Common.{refl, sym, ◌∙◌, ap, subst, arith, inl, inr}
use Rattle.std.proofs.lemmas.List.{append_assoc, append-nil}
use Rattle.std.specs.Prelude.{ℕ, ◌≡◌, ◌⊎◌, Option, Some, None, Bool, true, false, cond, ◌&&◌, ◌==◌, List, [], ◌∷◌, ◌++◌}
use Rattle.wait_model.specs.{declared.watches.Watch.Watch, declared.watches.Aim.Aim, declared.steps.Step.Step}
use Rattle.wait_model.specs.{Functions.put, Watches.head_of, Watches.failing, Words.spent_of, Told.ZeroTold}
use Rattle.wait_model.specs.Views.{View, Hold, Checks, blank}
use Rattle.wait_model.specs.Fold.{after, after_all, view_of, holding}
use Rattle.wait_model.specs.Readings.{stores_own, fails, is_state_store, ZeroLoad}
use Rattle.wait_model.specs.Histories.{Lacks, Since, turns_lock}
use Rattle.wait_model.specs.declared.steps.Step.TheVariants as step
use Rattle.wait_model.proofs.{Functions.put_same, Functions.bool_or, HistoryLaws.HoldLooks.after_snoc}
use Rattle.wait_model.proofs.{HistoryLaws.Stretches.after_append, HistoryLaws.Stretches.lacks_append}
use Rattle.wait_model.proofs.{HistoryLaws.CalledEntries.view_at, StepLaws.UnlockSteps.unlock_checks}
use Rattle.wait_model.proofs.StepLaws.UnlockSteps.{unlock_hold}

is_holding : (g : Option ℕ) (h : ℕ) → holding g h ≡ true → g ≡ Some h
is_holding None h e = absurd (cc)
is_holding (Some i) h e = let q : i ≡ h = grind arith in cc

holding_it : (g : Option ℕ) (h : ℕ) → g ≡ Some h → holding g h ≡ true
holding_it g h e = rw e (grind arith)

-- while a task that has stored its state in a hold is in that hold, the reading is that of the hold
abbrev IsHere : View → ℕ → Watch → Type 0
IsHere v x c = v.hold.prepared ≡ true → v.checks.zero_failed x c ≡ v.hold.zero c

here_after : (e : Step) (v : View) (x : ℕ) (c : Watch) → IsHere v x c → IsHere (after e v) x c
here_after (step.State σ) v x c h p = refl
here_after (step.Lock i aim w) v x c h p = absurd (cc)
here_after (step.Unlock i sp) v x c h p =
    absurd (let z : false ≡ true = sym (ap (λ (k : Hold). k.prepared) (unlock_hold v v.walk sp)) ∙ p in cc)
here_after (step.Queue y d) v x c h p =
    ap (λ (b : Bool). (cond b v.checks.zero_failed (put v.checks.zero_failed y (λ _. None))) x c) p ∙ h p
here_after (step.Load l r) v x c h p = by (holding v.hold.head (head_of c) && failing l r c)
  where
    by : (b : Bool) → cond (v.hold.prepared && b) (Some (v.checks.found (head_of c))) (v.checks.zero_failed x c)
        ≡ cond b (Some (v.checks.found (head_of c))) (v.hold.zero c)
    by true = rw p refl
    by false = rw p (h p)
here_after e v x c h p = h p

here_all : (es : List Step) (v : View) (x : ℕ) (c : Watch) → IsHere v x c → IsHere (after_all v es) x c
here_all [] v x c h = h
here_all (e ∷ es) v x c h = here_all es (after e v) x c (here_after e v x c h)

-- the task is in a hold of head h, whose lock found the spent count n
record Within (v : View) (h n : ℕ) : Type 0 where
  head : v.hold.head ≡ Some h
  found : v.checks.found h ≡ n

within_after : (e : Step) (v : View) (h n : ℕ) → turns_lock e ≡ false → Within v h n → Within (after e v) h n
within_after (step.Lock i aim w) v h n t k = absurd (cc)
within_after (step.Unlock i sp) v h n t k = absurd (cc)
within_after e v h n t k = record { head = k.head; found = k.found }

within_all : (es : List Step) (v : View) (h n : ℕ) → Lacks turns_lock es → Within v h n → Within (after_all v es) h n
within_all [] v h n t k = k
within_all (e ∷ es) v h n t k = within_all es (after e v) h n t.1 (within_after e v h n t.0 k)

-- what a step of a hold does to its store of the state, and to its load
prepared_after : (e : Step) (v : View) (h : ℕ) → turns_lock e ≡ false → v.hold.head ≡ Some h
    → (v.hold.prepared ≡ true) ⊎ (is_state_store e ≡ true) → (after e v).hold.prepared ≡ true
prepared_after (step.State σ) v h t k p = rw k refl
prepared_after (step.Lock i aim w) v h t k p = absurd (cc)
prepared_after (step.Unlock i sp) v h t k p = absurd (cc)
prepared_after e v h t k (inl p) = p
prepared_after e v h t k (inr p) = absurd (cc)

zero_after : (e : Step) (v : View) (c : Watch) (n : ℕ) → turns_lock e ≡ false → Within v (head_of c) n
    → (v.hold.zero c ≡ Some n) ⊎ (fails e c ≡ true) → (after e v).hold.zero c ≡ Some n
zero_after (step.Lock i aim w) v c n t k p = absurd (cc)
zero_after (step.Unlock i sp) v c n t k p = absurd (cc)
zero_after (step.Load l r) v c n t k p = rw (holding_it v.hold.head (head_of c) k.head) (by (failing l r c) refl p)
  where
    by : (b : Bool) → failing l r c ≡ b → (v.hold.zero c ≡ Some n) ⊎ (failing l r c ≡ true)
        → cond (failing l r c) (Some (v.checks.found (head_of c))) (v.hold.zero c) ≡ Some n
    by true q p = rw q (ap (λ (m : ℕ). Some m) k.found)
    by false q (inl p) = rw q p
    by false q (inr p) = absurd (cc)
zero_after e v c n t k (inl p) = p
zero_after e v c n t k (inr p) = absurd (cc)

prepared_stays : (es : List Step) (v : View) (h n : ℕ) → Lacks turns_lock es → Within v h n → v.hold.prepared ≡ true
    → (after_all v es).hold.prepared ≡ true
prepared_stays [] v h n t k p = p
prepared_stays (e ∷ es) v h n t k p = prepared_stays es (after e v) h n t.1 (within_after e v h n t.0 k)
    (prepared_after e v h t.0 k.head (inl p))

zero_stays : (es : List Step) (v : View) (c : Watch) (n : ℕ) → Lacks turns_lock es → Within v (head_of c) n
    → v.hold.zero c ≡ Some n → (after_all v es).hold.zero c ≡ Some n
zero_stays [] v c n t k p = p
zero_stays (e ∷ es) v c n t k p = zero_stays es (after e v) c n t.1 (within_after e v (head_of c) n t.0 k)
    (zero_after e v c n t.0 k (inl p))

-- a step of a hold, with the view before it and what the hold does after it
record Amid (v : View) (inside : List Step) (it : Step) (later : List Step) (h n : ℕ) : Type 0 where
  mid : View
  is : after_all v inside ≡ after_all (after it mid) later
  turn : turns_lock it ≡ false
  within : Within mid h n
  rest : Lacks turns_lock later

amid : (v : View) (inside earlier : List Step) (it : Step) (later : List Step) (h n : ℕ)
    → inside ≡ earlier ++ it ∷ later → Lacks turns_lock inside → Within v h n → Amid v inside it later h n
amid v inside earlier it later h n split t k = record {
  mid = after_all v earlier;
  is = ap (after_all v) split ∙ after_append v earlier (it ∷ later);
  turn = (right earlier (subst (Lacks turns_lock) split t)).0;
  within = within_all earlier v h n (left earlier (subst (Lacks turns_lock) split t)) k;
  rest = (right earlier (subst (Lacks turns_lock) split t)).1;
}
  where
    left : (fs : List Step) → Lacks turns_lock (fs ++ it ∷ later) → Lacks turns_lock fs
    left [] l = tt
    left (f ∷ fs) l = (l.0, left fs l.1)

    right : (fs : List Step) → Lacks turns_lock (fs ++ it ∷ later) → Lacks turns_lock (it ∷ later)
    right [] l = l
    right (f ∷ fs) l = right fs l.1

prepared_in : (v : View) (inside : List Step) (h n : ℕ) → Lacks turns_lock inside → Within v h n
    → Since is_state_store is_state_store inside → (after_all v inside).hold.prepared ≡ true
prepared_in v inside h n t k s = by (amid v inside s.earlier s.it s.later h n s.split t k)
  where
    by : Amid v inside s.it s.later h n → (after_all v inside).hold.prepared ≡ true
    by a = ap (λ (u : View). u.hold.prepared) a.is
        ∙ prepared_stays s.later (after s.it a.mid) h n a.rest (within_after s.it a.mid h n a.turn a.within)
        (prepared_after s.it a.mid h a.turn a.within.head (inr s.passes))

zero_in : (v : View) (inside : List Step) (c : Watch) (n : ℕ) → Lacks turns_lock inside → Within v (head_of c) n
    → Since (λ e. fails e c) (λ e. fails e c) inside → (after_all v inside).hold.zero c ≡ Some n
zero_in v inside c n t k s = by (amid v inside s.earlier s.it s.later (head_of c) n s.split t k)
  where
    by : Amid v inside s.it s.later (head_of c) n → (after_all v inside).hold.zero c ≡ Some n
    by a = ap (λ (u : View). u.hold.zero c) a.is
        ∙ zero_stays s.later (after s.it a.mid) c n a.rest
        (within_after s.it a.mid (head_of c) n a.turn a.within)
        (zero_after s.it a.mid c n a.turn a.within (inr s.passes))

-- after the hold the reading stays: what is still in the hold loads with the same spent count
record StaysLoaded (v : View) (x : ℕ) (c : Watch) (n : ℕ) : Type 0 where
  failed : v.checks.zero_failed x c ≡ Some n
  found : v.hold.prepared ≡ true → v.hold.head ≡ Some (head_of c) → v.checks.found (head_of c) ≡ n

stays_after : (e : Step) (v : View) (x : ℕ) (c : Watch) (n : ℕ) → stores_own e x ≡ false → StaysLoaded v x c n
    → StaysLoaded (after e v) x c n
stays_after (step.State σ) v x c n q k = absurd (cc)
stays_after (step.Queue y d) v x c n q k = record { failed = by v.hold.prepared; found = k.found }
  where
    by : (b : Bool) → (cond b v.checks.zero_failed (put v.checks.zero_failed y (λ _. None))) x c ≡ Some n
    by true = k.failed
    by false = rw q k.failed
stays_after (step.Lock i aim w) v x c n q k = record { failed = k.failed; found = λ p. absurd (cc) }
stays_after (step.Unlock i sp) v x c n q k = record {
  failed = ap (λ (u : Checks). u.zero_failed x c) (unlock_checks v v.walk sp) ∙ k.failed;
  found = λ p. absurd (let z : false ≡ true = sym (ap (λ (u : Hold). u.prepared) (unlock_hold v v.walk sp)) ∙ p
      in cc);
}
stays_after (step.Load l r) v x c n q k = record { failed = by (bool_or fresh); found = k.found }
  where
    fresh : Bool
    fresh = v.hold.prepared && (holding v.hold.head (head_of c) && failing l r c)

    all : (a b d : Bool) → (a && (b && d)) ≡ true → (a ≡ true) × (b ≡ true)
    all true true d h = (refl, refl)
    all true false d h = absurd (cc)
    all false b d h = absurd (cc)

    by : (fresh ≡ true) ⊎ (fresh ≡ false)
        → cond fresh (Some (v.checks.found (head_of c))) (v.checks.zero_failed x c) ≡ Some n
    by (inl h) =
        let p = all v.hold.prepared (holding v.hold.head (head_of c)) (failing l r c) h in
        ap (λ (b : Bool). cond b (Some (v.checks.found (head_of c))) (v.checks.zero_failed x c)) h
        ∙ ap (λ (m : ℕ). Some m) (k.found p.0 (is_holding v.hold.head (head_of c) p.1))
    by (inr h) = ap (λ (b : Bool). cond b (Some (v.checks.found (head_of c))) (v.checks.zero_failed x c)) h
        ∙ k.failed
stays_after e v x c n q k = record { failed = k.failed; found = k.found }

stays_all : (es : List Step) (v : View) (x : ℕ) (c : Watch) (n : ℕ) → Lacks (λ e. stores_own e x) es
    → StaysLoaded v x c n
    → StaysLoaded (after_all v es) x c n
stays_all [] v x c n q k = k
stays_all (e ∷ es) v x c n q k = stays_all es (after e v) x c n q.1 (stays_after e v x c n q.0 k)

-- the view has the load that the history has
zero_failed_of : (es : List Step) (x : ℕ) (c : Watch) (l : ZeroLoad es x c)
    → (view_of es).checks.zero_failed x c ≡ Some (spent_of l.word)
zero_failed_of es x c l =
    ap (λ (v : View). v.checks.zero_failed x c)
    (view_at es l.earlier (step.Lock (head_of c) l.aim l.word) (l.inside ++ l.later) l.split
    ∙ after_append locked l.inside l.later)
    ∙ (stays_all l.later (after_all locked l.inside) x c (spent_of l.word) l.quiet stays).failed
  where
    locked : View
    locked = after (step.Lock (head_of c) l.aim l.word) (view_of l.earlier)

    begin : Within locked (head_of c) (spent_of l.word)
    begin = record {
      head = refl;
      found = put_same (view_of l.earlier).checks.found (head_of c) (spent_of l.word);
    }

    stays : StaysLoaded (after_all locked l.inside) x c (spent_of l.word)
    stays = record {
      failed = here_all l.inside locked x c (λ p. absurd (cc))
          (prepared_in locked l.inside (head_of c) (spent_of l.word) l.within begin l.state)
          ∙ zero_in locked l.inside c (spent_of l.word) l.within begin l.load;
      found = λ p q. (within_all l.inside locked (head_of c) (spent_of l.word) l.within begin).found;
    }

-- from here on the other way round: what a view knows of its hold, found again in the history
since_now : (p : Step → Bool) (es : List Step) (e : Step) → p e ≡ true → Since p p (es ++ e ∷ [])
since_now p es e h = record { earlier = es; it = e; later = []; split = refl; passes = h; none_since = tt }

since_more : (p : Step → Bool) (es : List Step) (e : Step) → Since p p es → Since p p (es ++ e ∷ [])
since_more p es e s = by (p e) refl
  where
    by : (b : Bool) → p e ≡ b → Since p p (es ++ e ∷ [])
    by true h = since_now p es e h
    by false h = record {
      earlier = s.earlier;
      it = s.it;
      later = s.later ++ e ∷ [];
      split = ap (λ (t : List Step). t ++ e ∷ []) s.split ∙ append_assoc s.earlier (s.it ∷ s.later) (e ∷ []);
      passes = s.passes;
      none_since = lacks_append p s.later (e ∷ []) s.none_since (h, tt);
    }

-- the hold of head h in which the task is
record Inside (es : List Step) (v : View) (h : ℕ) (c : Watch) : Type 0 where
  earlier : List Step
  aim : Option Aim
  word : ℕ
  inside : List Step
  split : es ≡ earlier ++ step.Lock h aim word ∷ inside
  within : Lacks turns_lock inside
  found : v.checks.found h ≡ spent_of word
  state : v.hold.prepared ≡ true → Since is_state_store is_state_store inside
  load : (n : ℕ) → v.hold.zero c ≡ Some n → (h ≡ head_of c) × (n ≡ spent_of word)
      × Since (λ e. fails e c) (λ e. fails e c) inside

-- what a view knows of its hold and of the reading
record KnownLoad (es : List Step) (v : View) (x : ℕ) (c : Watch) : Type 0 where
  hold : (h : ℕ) → v.hold.head ≡ Some h → Inside es v h c
  free : v.hold.head ≡ None → (v.hold.prepared ≡ false) × (v.hold.zero c ≡ None)
  here : IsHere v x c
  failed : (n : ℕ) → v.checks.zero_failed x c ≡ Some n → (l : ZeroLoad es x c) × (n ≡ spent_of l.word)

-- a step of the hold that is no store of the state and no failed load, and any
inside_more : (es : List Step) (e : Step) (v w : View) (h : ℕ) (c : Watch) → turns_lock e ≡ false
    → w.checks.found h ≡ v.checks.found h
    → (w.hold.prepared ≡ true → (v.hold.prepared ≡ true) ⊎ (is_state_store e ≡ true))
    → ((n : ℕ) → w.hold.zero c ≡ Some n → (v.hold.zero c ≡ Some n)
    ⊎ ((fails e c ≡ true) × (h ≡ head_of c) × (n ≡ v.checks.found h))) → Inside es v h c
    → Inside (es ++ e ∷ []) w h c
inside_more es e v w h c t found state load k = record {
  earlier = k.earlier;
  aim = k.aim;
  word = k.word;
  inside = k.inside ++ e ∷ [];
  split = ap (λ (t : List Step). t ++ e ∷ []) k.split
      ∙ append_assoc k.earlier (step.Lock h k.aim k.word ∷ k.inside) (e ∷ []);
  within = lacks_append turns_lock k.inside (e ∷ []) k.within (t, tt);
  found = found ∙ k.found;
  state = λ p. stored (state p);
  load = λ n q. loaded n (load n q);
}
  where
    stored : (v.hold.prepared ≡ true) ⊎ (is_state_store e ≡ true)
        → Since is_state_store is_state_store (k.inside ++ e ∷ [])
    stored (inl p) = since_more is_state_store k.inside e (k.state p)
    stored (inr p) = since_now is_state_store k.inside e p

    loaded : (n : ℕ) → (v.hold.zero c ≡ Some n) ⊎ ((fails e c ≡ true) × (h ≡ head_of c) × (n ≡ v.checks.found h))
        → (h ≡ head_of c) × (n ≡ spent_of k.word)
        × Since (λ e. fails e c) (λ e. fails e c) (k.inside ++ e ∷ [])
    loaded n (inl q) = let l = k.load n q in (l.0, l.1, since_more (λ e. fails e c) k.inside e l.2)
    loaded n (inr q) = (q.1, q.2 ∙ k.found, since_now (λ e. fails e c) k.inside e q.0)

inside_after : (es : List Step) (e : Step) (v : View) (x : ℕ) (c : Watch) → KnownLoad es v x c → (h : ℕ)
    → (after e v).hold.head ≡ Some h → Inside (es ++ e ∷ []) (after e v) h c
inside_after es (step.Lock i aim w) v x c k h q = let j : i ≡ h = cc in record {
  earlier = es;
  aim = aim;
  word = w;
  inside = [];
  split = ap (λ (m : ℕ). es ++ step.Lock m aim w ∷ []) j;
  within = tt;
  found = subst (λ (m : ℕ). put v.checks.found i (spent_of w) m ≡ spent_of w) j
      (put_same v.checks.found i (spent_of w));
  state = λ p. absurd (cc);
  load = λ n p. absurd (cc);
}
inside_after es (step.Unlock i sp) v x c k h q =
    absurd (let z : None ≡ Some h = sym (ap (λ (u : Hold). u.head) (unlock_hold v v.walk sp)) ∙ q in cc)
inside_after es (step.State σ) v x c k h q =
    inside_more es (step.State σ) v (after (step.State σ) v) h c refl refl (λ p. inr refl) (λ n p. inl p)
    (k.hold h q)
inside_after es (step.Load l r) v x c k h q =
    inside_more es (step.Load l r) v (after (step.Load l r) v) h c refl refl (λ p. inl p)
    (λ n p. by n (bool_or fresh) p) (k.hold h q)
  where
    fresh : Bool
    fresh = holding v.hold.head (head_of c) && failing l r c

    both : (a b : Bool) → (a && b) ≡ true → (a ≡ true) × (b ≡ true)
    both true b h = (refl, h)
    both false b h = absurd (cc)

    at : (n : ℕ) → (holding v.hold.head (head_of c) ≡ true) × (failing l r c ≡ true)
        → v.checks.found (head_of c) ≡ n → (failing l r c ≡ true) × (h ≡ head_of c) × (n ≡ v.checks.found h)
    at n p f =
        let g : v.hold.head ≡ Some (head_of c) = is_holding v.hold.head (head_of c) p.0 in
        let z : Some h ≡ Some (head_of c) = sym q ∙ g in
        let j : h ≡ head_of c = cc in
        (p.1, j, sym (ap v.checks.found j ∙ f))

    by : (n : ℕ) → (fresh ≡ true) ⊎ (fresh ≡ false)
        → cond fresh (Some (v.checks.found (head_of c))) (v.hold.zero c) ≡ Some n
        → (v.hold.zero c ≡ Some n) ⊎ ((failing l r c ≡ true) × (h ≡ head_of c) × (n ≡ v.checks.found h))
    by n (inl f) p =
        let z : Some (v.checks.found (head_of c)) ≡ Some n =
        sym (ap (λ (b : Bool). cond b (Some (v.checks.found (head_of c))) (v.hold.zero c)) f) ∙ p in
        let y : v.checks.found (head_of c) ≡ n = cc in
        inr (at n (both (holding v.hold.head (head_of c)) (failing l r c) f) y)
    by n (inr f) p =
        inl (sym (ap (λ (b : Bool). cond b (Some (v.checks.found (head_of c))) (v.hold.zero c)) f) ∙ p)
inside_after es e v x c k h q =
    inside_more es e v (after e v) h c refl refl (λ p. inl p) (λ n p. inl p) (k.hold h q)

free_after : (e : Step) (v : View) (c : Watch)
    → (v.hold.head ≡ None → (v.hold.prepared ≡ false) × (v.hold.zero c ≡ None))
    → (after e v).hold.head ≡ None
    → ((after e v).hold.prepared ≡ false) × ((after e v).hold.zero c ≡ None)
free_after (step.Lock i aim w) v c k q = absurd (cc)
free_after (step.Unlock i sp) v c k q = (
  ap (λ (u : Hold). u.prepared) (unlock_hold v v.walk sp),
  ap (λ (u : Hold). u.zero c) (unlock_hold v v.walk sp),
)
free_after (step.State σ) v c k q = (rw q refl, (k q).1)
free_after (step.Load l r) v c k q = ((k q).0, rw q (k q).1)
free_after e v c k q = k q

-- a reading that the hold tells is one of the history
zero_from : (es : List Step) (v : View) (x h : ℕ) (c : Watch) (n : ℕ) → Inside es v h c → v.hold.prepared ≡ true
    → v.hold.zero c ≡ Some n → (l : ZeroLoad es x c) × (n ≡ spent_of l.word)
zero_from es v x h c n k p q = let l = k.load n q in (
  record {
    earlier = k.earlier;
    aim = k.aim;
    word = k.word;
    inside = k.inside;
    later = [];
    split = k.split
        ∙ ap (λ (m : ℕ). k.earlier ++ step.Lock m k.aim k.word ∷ k.inside) l.0
        ∙ ap (λ (t : List Step). k.earlier ++ step.Lock (head_of c) k.aim k.word ∷ t) (sym (append-nil k.inside));
    within = k.within;
    load = l.2;
    state = k.state p;
    quiet = tt;
  },
  l.1,
)

zero_more : (es : List Step) (e : Step) (x : ℕ) (c : Watch) (n : ℕ) → stores_own e x ≡ false
    → (l : ZeroLoad es x c) × (n ≡ spent_of l.word) → (l : ZeroLoad (es ++ e ∷ []) x c) × (n ≡ spent_of l.word)
zero_more es e x c n q l = (
  record {
    earlier = l.0.earlier;
    aim = l.0.aim;
    word = l.0.word;
    inside = l.0.inside;
    later = l.0.later ++ e ∷ [];
    split = ap (λ (t : List Step). t ++ e ∷ []) l.0.split
        ∙ append_assoc l.0.earlier (step.Lock (head_of c) l.0.aim l.0.word ∷ (l.0.inside ++ l.0.later)) (e ∷ [])
        ∙ ap (λ (t : List Step). l.0.earlier ++ step.Lock (head_of c) l.0.aim l.0.word ∷ t)
        (append_assoc l.0.inside l.0.later (e ∷ []));
    within = l.0.within;
    load = l.0.load;
    state = l.0.state;
    quiet = lacks_append (λ e. stores_own e x) l.0.later (e ∷ []) l.0.quiet (q, tt);
  },
  l.1,
)

-- a step after which the task is in no hold in which it stored its state
old_reading : (e : Step) (v : View) (x : ℕ) (c : Watch) (n : ℕ)
    → (v.hold.head ≡ None → (v.hold.prepared ≡ false) × (v.hold.zero c ≡ None))
    → (after e v).hold.prepared ≡ false → (after e v).checks.zero_failed x c ≡ Some n
    → (v.checks.zero_failed x c ≡ Some n) × (stores_own e x ≡ false)
old_reading (step.State σ) v x c n k p q = absurd (by v.hold.head refl p)
  where
    by : (o : Option ℕ) → v.hold.head ≡ o → (after (step.State σ) v).hold.prepared ≡ false → ⊥
    by None h p = let z : None ≡ Some n = sym (k h).1 ∙ q in cc
    by (Some i) h p = let z : true ≡ false = (rw h at p) in cc
old_reading (step.Queue y d) v x c n k p q = by (x == y) refl
    (sym (ap (λ (b : Bool). (cond b v.checks.zero_failed (put v.checks.zero_failed y (λ _. None))) x c) p) ∙ q)
  where
    by : (b : Bool) → (x == y) ≡ b → put v.checks.zero_failed y (λ _. None) x c ≡ Some n
        → (v.checks.zero_failed x c ≡ Some n) × ((x == y) ≡ false)
    by true g r = absurd (none-some n ((rw g at r)))
    by false g r = ((rw g at r), g)
old_reading (step.Load l r) v x c n k p q = ((rw p at q), refl)
old_reading (step.Unlock i sp) v x c n k p q =
    (sym (ap (λ (u : Checks). u.zero_failed x c) (unlock_checks v v.walk sp)) ∙ q, refl)
old_reading e v x c n k p q = (q, refl)

known_after : (es : List Step) (e : Step) (v : View) (x : ℕ) (c : Watch) → KnownLoad es v x c
    → KnownLoad (es ++ e ∷ []) (after e v) x c
known_after es e v x c k = record {
  hold = inside_after es e v x c k;
  free = free_after e v c k.free;
  here = here_after e v x c k.here;
  failed = λ n q. by n q (after e v).hold.prepared refl (after e v).hold.head refl;
}
  where
    by : (n : ℕ) → (after e v).checks.zero_failed x c ≡ Some n → (b : Bool) → (after e v).hold.prepared ≡ b
        → (o : Option ℕ) → (after e v).hold.head ≡ o
        → (l : ZeroLoad (es ++ e ∷ []) x c) × (n ≡ spent_of l.word)
    by n q true p (Some h) g = zero_from (es ++ e ∷ []) (after e v) x h c n (inside_after es e v x c k h g) p
        (sym (here_after e v x c k.here p) ∙ q)
    by n q true p None g =
        absurd (let z : (after e v).hold.prepared ≡ false = (free_after e v c k.free g).0 in cc)
    by n q false p o g =
        let r = old_reading e v x c n k.free p q in zero_more es e x c n r.1 (k.failed n r.0)

known_all : (es front : List Step) (x : ℕ) (c : Watch) → KnownLoad front (view_of front) x c
    → KnownLoad (front ++ es) (view_of (front ++ es)) x c
known_all [] front x c k = subst (λ (t : List Step). KnownLoad t (view_of t) x c) (sym (append-nil front)) k
known_all (e ∷ es) front x c k =
    subst (λ (t : List Step). KnownLoad t (view_of t) x c) (append_assoc front (e ∷ []) es)
    (known_all es (front ++ e ∷ []) x c (subst (λ (v : View). KnownLoad (front ++ e ∷ []) v x c)
    (sym (after_snoc blank front e)) (known_after front e (view_of front) x c k)))

known_none : (x : ℕ) (c : Watch) → KnownLoad [] blank x c
known_none x c = record {
  hold = λ h q. absurd (cc);
  free = λ q. (refl, refl);
  here = λ p. absurd (cc);
  failed = λ n q. absurd (cc);
}

pub zero_told : ZeroTold
zero_told es x c = ((known_all es [] x c (known_none x c)).failed, zero_failed_of es x c)
