-- Whoever waits for a watch that stays set is one whom the setter has not passed; after the end of its wake nobody waits.
use Rattle.std.proofs.lemmas.Bool.{both_ways}
use Rattle.std.proofs.Common.{refl, sym, ◌∙◌, ap, subst, arith, inl, inr}
use Rattle.std.proofs.lemmas.Bool.Decides.{eqb_tells}
use Rattle.std.proofs.lemmas.List.{append_assoc}
use Rattle.std.specs.Prelude.{ℕ, zero, suc, ◌≡◌, ◌≢◌, ◌<◌, ◌≤◌, ◌⊎◌, ◌||◌, Bool, true, false, if◌then◌else◌, ◌==◌}
use Rattle.std.specs.Prelude.{Option, Some, None, List, [], ◌∷◌, ◌++◌}
use Rattle.wait_model.specs.{declared.layout.TheConstants.ENTRIES, declared.watches.Watch.Watch}
use Rattle.wait_model.specs.{declared.watches.Entry.Entry, declared.watches.Aim.Aim, declared.steps.Step.Step}
use Rattle.wait_model.specs.{Words.entry_of, Laws.Waits, Laws.Unheard, Rows.Allowed, Rows.MayPublish, Facts.Kept}
use Rattle.wait_model.specs.{Owed.EndsWake, Told.ends_walk, Told.ends_wake, Tasks.meets}
use Rattle.wait_model.specs.Watches.{same, head_of, is_done, is_simple, owner}
use Rattle.wait_model.specs.Views.{View, Walk, Hold, unseen, elsewhere, shown, blank, concerns, gone, all_passed}
use Rattle.wait_model.specs.Views.{look_at}
use Rattle.wait_model.specs.Fold.{after, after_all, view_of, peeks, scanned}
use Rattle.wait_model.specs.Tables.{Table, met, next}
use Rattle.wait_model.specs.Histories.{Lacks, Since, turns_lock, publishes}
use Rattle.wait_model.specs.Walks.{WalkHold, tells, entry_of_head, shown_by, IsPast, HasPassed, leaves, GoneIn, GoneBy}
use Rattle.wait_model.specs.Walks.{finds_off_head, looks_anew}
use Rattle.wait_model.specs.declared.watches.Watch.TheVariants as watch
use Rattle.wait_model.specs.declared.steps.Step.TheVariants as step
use Rattle.wait_model.proofs.{HistoryLaws.PlainReadings.owes_after, StepLaws.KeptLaws.step_keeps}
use Rattle.wait_model.proofs.{StepLaws.PublishSteps.gone_published, StepLaws.UnlockSteps.unlock_hold}
use Rattle.wait_model.proofs.{HistoryLaws.Stretches.lacks_more, HistoryLaws.Stretches.lacks_right}
use Rattle.wait_model.proofs.{HistoryLaws.HoldLooks.IsLookTold, HistoryLaws.HoldLooks.after_snoc}
use Rattle.wait_model.proofs.{HistoryLaws.HoldWalks.IsForWalk, HistoryLaws.PassedPlaces.concerned}
use Rattle.wait_model.proofs.HistoryLaws.NoLostWake.{sleeper_found}
use Rattle.wait_model.proofs.Functions.{put_same, put_other, both_left, both_right}
use Rattle.wait_model.proofs.Sameness.{same_head, same_trans, same_done_is}
use Rattle.wait_model.proofs.HistoryLaws.HoldBooks.{look_of, hold_book, cleared_at}
use Rattle.wait_model.proofs.HistoryLaws.CalledEntries.{view_at, hold_view, hold_walk, called_gone, seen_off, off_seen}
use Rattle.wait_model.proofs.HistoryLaws.CalledEntries.{same_sym}
use Rattle.wait_model.proofs.FollowedLaws.OldWaiters.{FoundZero, has_store, Before, waits_all, unheard_all, zero_all}
use Rattle.wait_rule.specs.Interleavings.{TaskStep, table_of, AreAllowed}
use Rattle.wait_rule.specs.Setters.{step_by, uses_up, StaysSet, UsesUpNone, NobodySleeps, StepsWakeAll, StepsSettleAll, RuleWakesAll, RuleSettlesAll}
use Rattle.wait_rule.proofs.KnownLaws.Moments.{kept_of, views_of}
use Rattle.wait_rule.proofs.KnownLaws.SetterSteps.{Near, Open, tested, anew_before, near_kept, near_unheard, not_passed}
use Rattle.wait_rule.proofs.KnownLaws.SetterSteps.{unflagged_kept, open_of}

-- a step that tells what stands in an entry word shows it in the book
looked_not : (h x : ℕ) (it : Step) → tells x it ≡ true → look_of h it ≡ unseen → ⊥
unfolding look_of
looked_not h x (step.Saw y w) t is = by (entry_of w) is
  where
    by : (o : Option Entry) → look_at (Some h) o ≡ unseen → ⊥
    by None q = absurd (cc)
    by (Some d) q = at (head_of d.watch == h) q
      where
        at : (b : Bool) → (if b then shown d else elsewhere) ≡ unseen → ⊥
        at true r = absurd (cc)
        at false r = absurd (cc)
looked_not h x (step.Queue y d) t is = absurd (cc)
looked_not h x (step.Unqueue y) t is = absurd (cc)
looked_not h x it t is = absurd (cc)

looked_shown : (h x : ℕ) (e : Entry) (it : Step) → look_of h it ≡ shown e → shown_by h it ≡ Some e
unfolding look_of
looked_shown h x e (step.Saw y w) is = by (entry_of w) is
  where
    by : (o : Option Entry) → look_at (Some h) o ≡ shown e → entry_of_head h o ≡ Some e
    by None q = absurd (cc)
    by (Some d) q = at (head_of d.watch == h) q
      where
        at : (b : Bool) → (if b then shown d else elsewhere) ≡ shown e → (if b then Some d else None) ≡ Some e
        at true r = cc
        at false r = absurd (cc)
looked_shown h x e (step.Queue y d) is = cc
looked_shown h x e (step.Unqueue y) is = absurd (cc)
looked_shown h x e it is = absurd (cc)

head_stays : (e : Step) (v : View) → turns_lock e ≡ false → (after e v).hold.head ≡ v.hold.head
head_stays (step.Lock i aim w) v t = absurd (cc)
head_stays (step.Unlock i sp) v t = absurd (cc)
head_stays e v t = refl

heads_stay : (es : List Step) (v : View) → Lacks turns_lock es → (after_all v es).hold.head ≡ v.hold.head
heads_stay [] v l = refl
heads_stay (e ∷ es) v l = heads_stay es (after e v) l.1 ∙ head_stays e v l.0

-- a hold of a walk has not passed an entry that its book may show, and that it has not called
past_not : (gone_at stop : ℕ → Type 0) (es : List Step) (c : Watch) (σ : ℕ) (k : WalkHold es c σ) (x : ℕ) (e : Entry)
    → HasPassed gone_at stop es c σ k x → same e.watch c ≡ true → Open (view_of es) x e σ
    → (is_simple e.kind ≡ false → gone_at e.place → ⊥) → (stop e.place → ⊥) → ⊥
past_not gone_at stop es c σ k x e p sa o no_gone no_stop = by_look (o.shows k.head held at_head)
  where
    f : IsForWalk k.aim (view_of es).walk
    f = hold_walk es c σ k

    held : (view_of es).hold.head ≡ Some k.head
    held = ap (λ (v : View). v.hold.head) (hold_view es c σ k)
        ∙ heads_stay k.inside (after (step.Lock k.head (Some k.aim) k.found) (view_of k.before)) k.within

    to_aim : same e.watch k.aim.watch ≡ true
    to_aim = sym (same_trans e.watch c k.aim.watch sa) ∙ k.watch

    to_walk : same e.watch f.walk.watch ≡ true
    to_walk = sym (same_trans e.watch k.aim.watch f.walk.watch to_aim) ∙ f.watch

    at_head : head_of e.watch ≡ k.head
    at_head = same_head e.watch f.walk.watch to_walk ∙ o.aimed k.head f.walk held f.is

    con : concerns f.walk e.watch σ ≡ true
    con = concerned f.walk k.aim e.watch σ f.watch f.mask to_aim k.mode

    book : (view_of es).hold.book x ≡ look_of k.head p.word.it
    book = hold_book es c σ k x p.word

    past : IsPast gone_at stop es σ k.aim x (Some e) → ⊥
    past (inl q) = absurd (both_ways true (sym to_aim ∙ q) refl)
    past (inr (ns, inl g)) = no_gone ns g
    past (inr (ns, inr (inl t))) = no_stop t
    past (inr (ns, inr (inr d))) =
        absurd (let z : gone (view_of es) x e ≡ true = called_gone es x e σ d in
        let y : gone (view_of es) x e ≡ false = o.near.uncalled ns f.walk f.is con in cc)

    by_look : ((view_of es).hold.book x ≡ unseen) ⊎ ((view_of es).hold.book x ≡ shown e) → ⊥
    by_look (inl u) = looked_not k.head x p.word.it p.word.passes (sym book ∙ u)
    by_look (inr s) = past (subst (IsPast gone_at stop es σ k.aim x)
        (looked_shown k.head x e p.word.it (sym book ∙ s)) p.past)

-- what holds of a view, and after each of some more steps
abbrev Along : (View → Type 0) → View → List Step → Type 0
Along P v [] = P v
Along P v (e ∷ es) = P v × Along P (after e v) es

along_first : (P : View → Type 0) (es : List Step) (v : View) → Along P v es → P v
along_first P [] v h = h
along_first P (e ∷ es) v h = h.0

along_front : (P : View → Type 0) (front back : List Step) (v : View) → Along P v (front ++ back) → Along P v front
along_front P [] back v h = along_first P back v h
along_front P (e ∷ front) back v h = (h.0, along_front P front back (after e v) h.1)

along_last : (P : View → Type 0) (es : List Step) (v : View) → Along P v es → P (after_all v es)
along_last P [] v h = h
along_last P (e ∷ es) v h = along_last P es (after e v) h.1

along_more : (P : View → Type 0) (es : List Step) (e : Step) (v : View) → Along P v es → P (after e (after_all v es))
    → Along P v (es ++ e ∷ [])
along_more P [] e v h q = (h, q)
along_more P (d ∷ es) e v h q = (h.0, along_more P es e (after d v) h.1 q)

-- where one step stands before another, in one list
abbrev Standing : (h : List Step) (p : Step) (rest before : List Step) (u : Step) (later : List Step) → Type 0
Standing h p rest before u later =
    ((front : List Step) × (before ≡ h ++ p ∷ front) × (rest ≡ front ++ u ∷ later))
    ⊎ ((p ≡ u) ⊎ ((mid : List Step) × (later ≡ mid ++ p ∷ rest)))

tail_same : (x y : Step) (xs ys : List Step) → x ∷ xs ≡ y ∷ ys → xs ≡ ys
tail_same x y xs ys is = cc

head_same : (x y : Step) (xs ys : List Step) → x ∷ xs ≡ y ∷ ys → x ≡ y
head_same x y xs ys is = cc

standing : (h : List Step) (p : Step) (rest before : List Step) (u : Step) (later : List Step)
    → h ++ p ∷ rest ≡ before ++ u ∷ later → Standing h p rest before u later
standing [] p rest [] u later is = inr (inl (head_same p u rest later is))
standing [] p rest (z ∷ before) u later is = inl (
  before,
  ap (λ (d : Step). d ∷ before) (sym (head_same p z rest (before ++ u ∷ later) is)),
  tail_same p z rest (before ++ u ∷ later) is,
)
standing (y ∷ h) p rest [] u later is = inr (inr (h, sym (tail_same y u (h ++ p ∷ rest) later is)))
standing (y ∷ h) p rest (z ∷ before) u later is =
    let eq : y ≡ z = head_same y z (h ++ p ∷ rest) (before ++ u ∷ later) is in
    elim (standing h p rest before u later (tail_same y z (h ++ p ∷ rest) (before ++ u ∷ later) is)) [
      | inl f ↦ inl (f.0, λ i. sym eq i ∷ f.1 i, f.2)
      | inr f ↦ inr f
    ]

publish_leaves : (a : Aim) (p : Step) (c : Watch) → publishes p c ≡ true → leaves a p ≡ true
publish_leaves a (step.Publish d n r) c h = refl
publish_leaves a p c h = absurd (cc)

unlock_publishes : (p : Step) (h : ℕ) (sp : Bool) (c : Watch) → publishes p c ≡ true → p ≡ step.Unlock h sp → ⊥
unlock_publishes p h sp c is q = absurd (let z : publishes p c ≡ false = ap (λ (d : Step). publishes d c) q in cc)

-- A walk of the setter has not gone by the place of an entry that was before it all along, since the publish.
module _ (x : ℕ) (e : Entry) (c : Watch) (σ : ℕ) (h : List Step) (p : Step) (is_publish : publishes p c ≡ true)
    (few : x < ENTRIES) (sa : same e.watch c ≡ true) where
  abbrev Opens : List Step → Type 0
  Opens rest = Along (λ (v : View). Open v x e σ) (after p (view_of h)) rest

  gone_never : (n : ℕ) (es rest : List Step) → es ≡ h ++ p ∷ rest → Opens rest → GoneIn n c σ es e.place → ⊥
  gone_never zero es rest is opens g = g
  gone_never (suc n) es rest is opens k =
      by (λ front at o g. gone_never n k.before front at o g)
      (standing h p rest k.before (step.Unlock k.head false) k.later (sym is ∙ k.split))
    where
      by : ((front : List Step) → k.before ≡ h ++ p ∷ front → Opens front → GoneIn n c σ k.before e.place → ⊥)
          → Standing h p rest k.before (step.Unlock k.head false) k.later → ⊥
      by more (inl f) =
          let front : Opens f.0 = along_front (λ (v : View). Open v x e σ) f.0 (step.Unlock k.head false ∷ k.later)
          (after p (view_of h)) (subst Opens f.2 opens) in
          past_not (GoneIn n c σ k.before) (λ q. k.mark ≤ q) k.before c σ k.hold x e (k.passed x few) sa
          (subst (λ (v : View). Open v x e σ) (sym (view_at k.before h p f.0 f.1))
          (along_last (λ (v : View). Open v x e σ) f.0 (after p (view_of h)) front))
          (λ ns g. more f.0 f.1 front g)
          (λ le. let lt : e.place < k.mark = k.behind in omega arith)
      by more (inr (inl q)) = unlock_publishes p k.head false c is_publish q
      by more (inr (inr m)) = absurd (let z : leaves k.hold.aim p ≡ false =
          (lacks_right (leaves k.hold.aim) m.0 (p ∷ rest) (subst (Lacks (leaves k.hold.aim)) m.1 k.stays)).0 in
          let y : leaves k.hold.aim p ≡ true = publish_leaves k.hold.aim p c is_publish in cc)

-- a look without the lock is one for all watches of a wake
finds_same : (c d : Watch) (x : ℕ) (e : Step) → same c d ≡ true → finds_off_head c x e ≡ finds_off_head d x e
finds_same c d x (step.Peek y w) h = rw (same_head c d h) refl
finds_same c d x (step.Scan i j w) h = rw (same_head c d h) refl
finds_same c d x e h = refl

anew_same : (c d : Watch) (e : Step) → same c d ≡ true → looks_anew c e ≡ looks_anew d e
anew_same c d (step.Publish f n r) h = sym (same_trans c d f h)
anew_same c d (step.Peek y w) h = rw (same_head c d h) refl
anew_same c d (step.Scan i j w) h = rw (same_head c d h) refl
anew_same c d e h = refl

look_same : (c d : Watch) (x : ℕ) (es : List Step) → same d c ≡ true → Since (finds_off_head c x) (looks_anew c) es
    → Since (finds_off_head d x) (looks_anew d) es
look_same c d x es h s = record {
  earlier = s.earlier;
  it = s.it;
  later = s.later;
  split = s.split;
  passes = finds_same d c x s.it h ∙ s.passes;
  none_since = lacks_more (looks_anew c) (looks_anew d) (λ e q. anew_same d c e h ∙ q) s.later s.none_since;
}

-- a publish of a completion is made in a hold of its head
publish_holds : (v : View) (on d : Watch) → same on d ≡ true → is_done on ≡ true → MayPublish v d
    → v.hold.head ≡ Some (head_of on)
publish_holds v on d sa dn may = subst (λ (c : Watch). v.hold.head ≡ Some (head_of c)) (sym eq)
    (by d (ap is_done (sym eq) ∙ dn) may)
  where
    eq : on ≡ d
    eq = same_done_is on d dn sa

    by : (c : Watch) → is_done c ≡ true → MayPublish v c → v.hold.head ≡ Some (head_of c)
    by (watch.Done i) q m = m
    by c q m = absurd (cc)

not_both_ways : {A : Type 0} (b : Bool) → b ≡ true → b ≡ false → A
not_both_ways b h k = absurd (both_ways true (sym h ∙ k) refl)

-- A setter, from the history h and its publish p on.
module _ (me : ℕ) (c on : Watch) (σ : ℕ) (h : List Step) (p : Step) (is_publish : publishes p c ≡ true)
    (for_c : same on c ≡ true) where
  -- an entry that stands for the watch is one of the setter's wake
  key_of : (e : Entry) → same on e.watch ≡ true → same e.watch c ≡ true
  key_of e w = sym (same_trans e.watch on c (same_sym on e.watch w)) ∙ for_c

  abbrev OpensSince : ℕ → Entry → List Step → Type 0
  OpensSince x e rest = Along (λ (v : View). Open v x e σ) (after p (view_of h)) rest

  -- while no wake has ended: whoever waits is one that the setter has not passed
  record IsWatched (s : Table) (rest : List Step) : Type 0 where
    history : s.history me ≡ h ++ p ∷ rest
    view : s.view me ≡ after_all (after p (view_of h)) rest
    zero : (t : ℕ) → t ≢ me → FoundZero s t on → ⊥
    waits : (x : ℕ) (e : Entry) (n : ℕ) → Waits s x e on n σ
        → Near (s.view me) x e σ × (is_simple e.kind ≡ false → OpensSince x e rest)
    flags : (x : ℕ) (e : Entry) (n : ℕ) → Unheard s x e on n → Near (s.view me) x e σ
        × ((s.view me).hold.flagged x ≡ false) × OpensSince x e rest

  -- after it: nobody waits
  record IsDeserted (s : Table) : Type 0 where
    zero : (t : ℕ) → FoundZero s t on → ⊥
    waits : (x : ℕ) (e : Entry) (n : ℕ) → Waits s x e on n σ → ⊥
    flags : (x : ℕ) (e : Entry) (n : ℕ) → Unheard s x e on n → ⊥

  -- a step of any task, before which the watch is set
  module _ (s : Table) (a : ℕ) (ev : Step) (k : Kept s) (al : Allowed s a ev) (was : met s.words on ≡ true) where
    earlier : (x : ℕ) (e : Entry) (n : ℕ) → Waits (next s a ev) x e on n σ → Before (ev ∷ []) s a x e on n σ
    earlier x e n z = waits_all (ev ∷ []) s a x e on n σ k (al, tt) (was, tt) z

    earlier_flag : (x : ℕ) (e : Entry) (n : ℕ) → Unheard (next s a ev) x e on n → Unheard s x e on n
    earlier_flag x e n z = unheard_all (ev ∷ []) s a x e on n (al, tt) (was, tt) z

    earlier_zero : (t : ℕ) → FoundZero (next s a ev) t on → FoundZero s t on
    earlier_zero t z = zero_all (ev ∷ []) s a t on (al, tt) (was, tt) z

    deserted_on : IsDeserted s → IsDeserted (next s a ev)
    deserted_on d = record {
      zero = λ t z. d.zero t (earlier_zero t z);
      waits = λ x e n z. by x e n (earlier x e n z);
      flags = λ x e n z. d.flags x e n (earlier_flag x e n z);
    }
      where
        by : (x : ℕ) (e : Entry) (n : ℕ) → Before (ev ∷ []) s a x e on n σ → ⊥
        by x e n (inl z) = d.waits x e n z
        by x e n (inr (inl u)) = d.flags x e n u
        by x e n (inr (inr f)) = d.zero a f.0

    -- a step of another task
    others_watched : (rest : List Step) → me ≢ a → IsWatched s rest → IsWatched (next s a ev) rest
    others_watched rest ne w = record {
      history = put_other s.history a (s.history a ++ ev ∷ []) me ne ∙ w.history;
      view = same_view ∙ w.view;
      zero = λ t o z. w.zero t o (earlier_zero t z);
      waits = λ x e n z. carried x e (by x e n (earlier x e n z));
      flags = λ x e n z. carried_flag x e (w.flags x e n (earlier_flag x e n z));
    }
      where
        same_view : (next s a ev).view me ≡ s.view me
        same_view = put_other s.view a (after ev (s.view a)) me ne

        carried : (x : ℕ) (e : Entry) → Near (s.view me) x e σ × (is_simple e.kind ≡ false → OpensSince x e rest)
            → Near ((next s a ev).view me) x e σ × (is_simple e.kind ≡ false → OpensSince x e rest)
        carried x e q = (subst (λ (v : View). Near v x e σ) (sym same_view) q.0, q.1)

        carried_flag : (x : ℕ) (e : Entry) → Near (s.view me) x e σ × ((s.view me).hold.flagged x ≡ false)
            × OpensSince x e rest
            → Near ((next s a ev).view me) x e σ × (((next s a ev).view me).hold.flagged x ≡ false)
            × OpensSince x e rest
        carried_flag x e f = (
          subst (λ (v : View). Near v x e σ) (sym same_view) f.0,
          subst (λ (v : View). v.hold.flagged x ≡ false) (sym same_view) f.1,
          f.2,
        )

        by : (x : ℕ) (e : Entry) (n : ℕ) → Before (ev ∷ []) s a x e on n σ
            → Near (s.view me) x e σ × (is_simple e.kind ≡ false → OpensSince x e rest)
        by x e n (inl z) = w.waits x e n z
        by x e n (inr (inl u)) = let f = w.flags x e n u in
            (f.0, λ ns. f.2)
        by x e n (inr (inr f)) = absurd (w.zero a (λ q. ne (sym q)) f.0)

  -- a step of its own
  module _ (s : Table) (ev : Step) (k : Kept s) (al : Allowed s me ev) (was : met s.words on ≡ true)
      (rest : List Step) (w : IsWatched s rest) where
    own_view : (next s me ev).view me ≡ after ev (s.view me)
    own_view = put_same s.view me (after ev (s.view me))

    -- the entry stays open, which now stands
    open_more : (x : ℕ) (e : Entry) → (next s me ev).entry x ≡ Some e → Near (after ev (s.view me)) x e σ
        → OpensSince x e rest → OpensSince x e (rest ++ ev ∷ [])
    open_more x e st near opens = along_more (λ (v : View). Open v x e σ) rest ev (after p (view_of h)) opens
        (subst (λ (v : View). Open v x e σ) (own_view ∙ ap (after ev) w.view)
        (open_of (next s me ev) me x e σ (step_keeps s me ev k al).facts st
        (subst (λ (v : View). Near v x e σ) (sym own_view) near)))

    -- what its own hold found 0 is for simple entries, and looks clear none in a hold
    zero_near : (x : ℕ) (e : Entry) → (next s me ev).entry x ≡ Some e → same on e.watch ≡ true → FoundZero s me on
        → has_store (ev ∷ []) ≡ true → (is_simple e.kind ≡ true) × Near (after ev (s.view me)) x e σ
    zero_near x e st sa z store = (
      simple,
      record {
        uncleared = stored ev store ∙ (k.facts.views me).hold.uncleared (head_of on)
            ((k.facts.views me).zero.held on z.0 z.2) e.watch x;
        uncalled = λ ns. not_both_ways (is_simple e.kind) simple ns;
        reached = λ ns. not_both_ways (is_simple e.kind) simple ns;
      },
    )
      where
        simple : is_simple e.kind ≡ true
        simple = ((step_keeps s me ev k al).facts.suits x e st).0
            (ap is_done (sym (same_done_is on e.watch z.1 sa)) ∙ z.1)

        stored : (d : Step) → has_store (d ∷ []) ≡ true
            → (after d (s.view me)).duty.cleared e.watch x ≡ (s.view me).duty.cleared e.watch x
        stored (step.State τ) q = refl
        stored (step.Queue y g) q = refl
        stored d q = absurd (cc)

    not_low : (x n : ℕ) → (s.view (owner x)).checks.low x on ≡ Some n → (s.view (owner x)).checks.low x on ≡ None → ⊥
    not_low x n a b = absurd (let q : Some n ≡ None = sym a ∙ b in cc)

    own_waits : (x : ℕ) (e : Entry) (n : ℕ) → Waits (next s me ev) x e on n σ
        → Near (after ev (s.view me)) x e σ × (is_simple e.kind ≡ false → OpensSince x e (rest ++ ev ∷ []))
    own_waits x e n z = by (earlier s me ev k al was x e n z)
      where
        by : Before (ev ∷ []) s me x e on n σ
            → Near (after ev (s.view me)) x e σ × (is_simple e.kind ≡ false → OpensSince x e (rest ++ ev ∷ []))
        by (inl o) =
            let q = w.waits x e n o in
            let near = near_kept s me x e on n σ was ev k.facts al o.stands z (tested s me x e on n σ k.facts w.zero o) q.0 in
            (near, λ ns. open_more x e z.stands near (q.1 ns))
        by (inr (inl u)) =
            let f = w.flags x e n u in
            let near = near_kept s me x e on n σ was ev k.facts al u.stands z
            (λ none i t. not_low x n u.low (t.low on)) f.0 in
            (near, λ ns. open_more x e z.stands near f.2)
        by (inr (inr d)) =
            let q = zero_near x e z.stands z.watches d.0 d.1 in
            (q.1, λ ns. not_both_ways (is_simple e.kind) q.0 ns)

    own_flags : (x : ℕ) (e : Entry) (n : ℕ) → Unheard (next s me ev) x e on n
        → Near (after ev (s.view me)) x e σ × ((after ev (s.view me)).hold.flagged x ≡ false)
        × OpensSince x e (rest ++ ev ∷ [])
    own_flags x e n z =
        let u = earlier_flag s me ev k al was x e n z in
        let f = w.flags x e n u in
        let fl = unflagged_kept s me ev x e on n z f.1 in
        let near = near_unheard s me ev x e σ k.facts (step_keeps s me ev k al).facts al u.stands u.kind
        (λ none i t. not_low x n u.low (t.low on)) f.0
        (subst (λ (v : View). v.hold.flagged x ≡ false) (sym own_view) fl) in
        (near, fl, open_more x e z.stands near f.2)

    own_watched : IsWatched (next s me ev) (rest ++ ev ∷ [])
    own_watched = record {
      history = put_same s.history me (s.history me ++ ev ∷ []) ∙ ap (λ (es : List Step). es ++ ev ∷ []) w.history
          ∙ append_assoc h (p ∷ rest) (ev ∷ []);
      view = own_view ∙ ap (after ev) w.view ∙ sym (after_snoc (after p (view_of h)) rest ev);
      zero = λ t o z. w.zero t o (earlier_zero s me ev k al was t z);
      waits = λ x e n z. let q = own_waits x e n z in (subst (λ (v : View). Near v x e σ) (sym own_view) q.0, q.1);
      flags = λ x e n z. let f = own_flags x e n z in (
        subst (λ (v : View). Near v x e σ) (sym own_view) f.0,
        subst (λ (v : View). v.hold.flagged x ≡ false) (sym own_view) f.1,
        f.2,
      );
    }

    -- The end of a wake. A walk that is past all entries is past none whose owner waits.
    told : s.view me ≡ view_of (s.history me)
    told = w.view ∙ sym (view_at (s.history me) h p rest w.history)

    abbrev Passes : WalkHold (s.history me) c σ → Type 0
    Passes kk = (x : ℕ) → x < ENTRIES → HasPassed (GoneBy (s.history me) c σ) (λ _. ⊥) (s.history me) c σ kk x

    passed_none : (kk : WalkHold (s.history me) c σ) → Passes kk → (x : ℕ) (e : Entry) → s.entry x ≡ Some e
        → same on e.watch ≡ true → Near (s.view me) x e σ → (is_simple e.kind ≡ false → OpensSince x e rest) → ⊥
    passed_none kk all x e st sa near opens =
        past_not (GoneBy (s.history me) c σ) (λ _. ⊥) (s.history me) c σ kk x e (all x few) (key_of e sa)
        (subst (λ (v : View). Open v x e σ) told (open_of s me x e σ k.facts st near))
        (λ ns g. gone_never x e c σ h p is_publish few (key_of e sa) g.0 (s.history me) rest w.history (opens ns) g.1)
        (λ a. a)
      where
        few : x < ENTRIES
        few = k.facts.named x e st

    -- by the view: a walk whose book shows it as past all entries
    shown_none : (i : ℕ) (g : Walk) → (s.view me).hold.head ≡ Some i → (s.view me).walk ≡ Some g
        → concerns g c σ ≡ true → all_passed (s.view me) g (λ _. false) ≡ true → (x : ℕ) (e : Entry)
        → s.entry x ≡ Some e → same on e.watch ≡ true → Near (s.view me) x e σ → ⊥
    shown_none i g held is con all x e st sa near = not_both_ways (all_passed (s.view me) g (λ _. false)) all
        (not_passed s me i g x e σ (λ _. false) k.facts held is st near for_entry refl)
      where
        for_entry : concerns g e.watch σ ≡ true
        for_entry = let to_walk : same e.watch g.watch ≡ true =
            sym (same_trans e.watch c g.watch (key_of e sa)) ∙ both_left (same c g.watch) (meets g.mask σ) con in
            rw (to_walk, both_right (same c g.watch) (meets g.mask σ) con) refl

    -- an unlock of a walk that is past every entry whose owner waits
    abbrev PastNone : Type 0
    PastNone = (x : ℕ) (e : Entry) → s.entry x ≡ Some e → same on e.watch ≡ true → Near (s.view me) x e σ
        → (is_simple e.kind ≡ false → OpensSince x e rest) → ⊥

    unlocked : (i : ℕ) → ev ≡ step.Unlock i false → PastNone → IsDeserted (next s me ev)
    unlocked i is none_past = record {
      zero = λ t z. elim (eqb_tells t me) [
        | inl q ↦ no_zero t z.0 q.1 z.2
        | inr q ↦ w.zero t q.1 (earlier_zero s me ev k al was t z)
      ];
      waits = λ x e n z. by x e n (earlier s me ev k al was x e n z);
      flags = λ x e n z. no_flag x e n (earlier_flag s me ev k al was x e n z);
    }
      where
        no_zero : (t n : ℕ) → t ≡ me → ((next s me ev).view t).hold.zero on ≡ Some n → ⊥
        no_zero t n q some = absurd (let none : ((next s me ev).view t).hold.zero on ≡ None =
            ap (λ (b : ℕ). ((next s me ev).view b).hold.zero on) q
            ∙ ap (λ (v : View). v.hold.zero on) (own_view ∙ ap (λ (d : Step). after d (s.view me)) is)
            ∙ ap (λ (g : Hold). g.zero on) (unlock_hold (s.view me) (s.view me).walk false) in cc)

        no_flag : (x : ℕ) (e : Entry) (n : ℕ) → Unheard s x e on n → ⊥
        no_flag x e n u = let f = w.flags x e n u in
            none_past x e u.stands u.watches f.0 (λ ns. f.2)

        by : (x : ℕ) (e : Entry) (n : ℕ) → Before (ev ∷ []) s me x e on n σ → ⊥
        by x e n (inl z) = let q = w.waits x e n z in none_past x e z.stands z.watches q.0 q.1
        by x e n (inr (inl u)) = no_flag x e n u
        by x e n (inr (inr d)) = not_both_ways (has_store (ev ∷ [])) d.1 (ap (λ (g : Step). has_store (g ∷ [])) is)

    -- a look without the lock that has found all entries off the head
    looked : (s.view me).hold.head ≡ None
        → ((x : ℕ) → x < ENTRIES → Since (finds_off_head c x) (looks_anew c) (s.history me ++ ev ∷ []))
        → IsDeserted (next s me ev)
    looked none all = record {
      zero = λ t z. elim (eqb_tells t me) [
        | inl q ↦ no_zero t (earlier_zero s me ev k al was t z) q.1
        | inr q ↦ w.zero t q.1 (earlier_zero s me ev k al was t z)
      ];
      waits = λ x e n z. uncleared x e z.stands z.watches (own_waits x e n z).0.uncleared;
      flags = λ x e n z. uncleared x e z.stands z.watches (own_flags x e n z).0.uncleared;
    }
      where
        no_zero : (t : ℕ) → FoundZero s t on → t ≡ me → ⊥
        no_zero t g q = absurd (let held : (s.view t).hold.head ≡ Some (head_of on) =
            (k.facts.views t).zero.held on g.0 g.2 in
            let is : (s.view t).hold.head ≡ None = ap (λ (b : ℕ). (s.view b).hold.head) q ∙ none in cc)

        uncleared : (x : ℕ) (e : Entry) → (next s me ev).entry x ≡ Some e → same on e.watch ≡ true
            → (after ev (s.view me)).duty.cleared e.watch x ≡ false → ⊥
        uncleared x e st sa un = not_both_ways ((after ev (s.view me)).duty.cleared e.watch x)
            (ap (λ (v : View). (after ev v).duty.cleared e.watch x) told
            ∙ sym (ap (λ (v : View). v.duty.cleared e.watch x) (after_snoc blank (s.history me) ev))
            ∙ seen_off (s.history me ++ ev ∷ []) e.watch x
            (look_same c e.watch x (s.history me ++ ev ∷ []) (key_of e sa)
            (all x ((step_keeps s me ev k al).facts.named x e st)))) un

  -- the end of its wake
  ended : (s : Table) (ev : Step) → Kept s → Allowed s me ev → met s.words on ≡ true → (rest : List Step)
      → IsWatched s rest → EndsWake (s.history me) ev c σ → uses_up ev ≡ false → IsDeserted (next s me ev)
  ended s (step.Unlock i true) k al was rest w ends whole = absurd (cc)
  ended s (step.Unlock i false) k al was rest w (kk, inl q) whole = absurd (cc)
  ended s (step.Unlock i false) k al was rest w (kk, inr all) whole =
      unlocked s (step.Unlock i false) k al was rest w i refl (passed_none s (step.Unlock i false) k al was rest w kk all)
  ended s (step.Peek y f) k al was rest w ends whole = looked s (step.Peek y f) k al was rest w al.1 ends
  ended s (step.Scan i j f) k al was rest w ends whole = looked s (step.Scan i j f) k al was rest w al.0 ends
  ended s ev k al was rest w ends whole = absurd ends

  -- and by the view
  ended_by_view : (s : Table) (ev : Step) → Kept s → Allowed s me ev → met s.words on ≡ true → (rest : List Step)
      → IsWatched s rest → ends_wake ev (s.view me) c σ ≡ true → uses_up ev ≡ false → IsDeserted (next s me ev)
  ended_by_view s (step.Unlock i true) k al was rest w ends whole = absurd (cc)
  ended_by_view s (step.Unlock i false) k al was rest w ends whole = by (s.view me).walk refl ends
    where
      by : (o : Option Walk) → (s.view me).walk ≡ o → ends_walk o false (s.view me) c σ ≡ true
          → IsDeserted (next s me (step.Unlock i false))
      by None is q = absurd (cc)
      by (Some g) is q = unlocked s (step.Unlock i false) k al was rest w i refl
          (λ x e st sa near opens. shown_none s (step.Unlock i false) k al was rest w i g al.0 is
          (both_right (all_passed (s.view me) g (λ _. false)) (concerns g c σ) q)
          (both_left (all_passed (s.view me) g (λ _. false)) (concerns g c σ) q) x e st sa near)
  ended_by_view s (step.Peek y f) k al was rest w ends whole = looked s (step.Peek y f) k al was rest w al.1
      (λ x lt. off_seen (s.history me ++ step.Peek y f ∷ []) c x
      (ap (λ (v : View). v.duty.cleared c x) (after_snoc blank (s.history me) (step.Peek y f))
      ∙ sym (ap (λ (v : View). (after (step.Peek y f) v).duty.cleared c x)
      (told s (step.Peek y f) k al was rest w))
      ∙ cleared_at (peeks (s.view me).duty.cleared y (entry_of f) c) x ends lt))
  ended_by_view s (step.Scan i j f) k al was rest w ends whole = looked s (step.Scan i j f) k al was rest w al.0
      (λ x lt. off_seen (s.history me ++ step.Scan i j f ∷ []) c x
      (ap (λ (v : View). v.duty.cleared c x) (after_snoc blank (s.history me) (step.Scan i j f))
      ∙ sym (ap (λ (v : View). (after (step.Scan i j f) v).duty.cleared c x)
      (told s (step.Scan i j f) k al was rest w))
      ∙ cleared_at (scanned (s.view me).duty.cleared i j f c) x ends lt))
  ended_by_view s ev k al was rest w ends whole = absurd (cc)

  -- the publish itself
  first_watched : (s : Table) → Kept s → IsLookTold s → s.history me ≡ h → Allowed s me p → IsWatched (next s me p) []
  first_watched s k told is al = record {
    history = put_same s.history me (s.history me ++ p ∷ []) ∙ ap (λ (es : List Step). es ++ p ∷ []) is;
    view = own ∙ ap (after p) (told me ∙ ap view_of is);
    zero = λ t ne z. by p is_publish al t ne z;
    waits = λ x e n z. (
      subst (λ (v : View). Near v x e σ) (sym own) (fresh x e z.watches),
      λ ns. opens x e z.stands z.watches,
    );
    flags = λ x e n z. (
      subst (λ (v : View). Near v x e σ) (sym own) (fresh x e z.watches),
      subst (λ (v : View). v.hold.flagged x ≡ false) (sym own) (unflagged p is_publish x),
      opens x e z.stands z.watches,
    );
  }
    where
      own : (next s me p).view me ≡ after p (s.view me)
      own = put_same s.view me (after p (s.view me))

      unflagged : (q : Step) → publishes q c ≡ true → (x : ℕ) → (after q (s.view me)).hold.flagged x ≡ false
      unflagged (step.Publish d n r) i x = refl
      unflagged q i x = absurd (cc)

      near_of : (q : Step) → publishes q c ≡ true → (x : ℕ) (e : Entry) → same e.watch c ≡ true
          → Near (after q (s.view me)) x e σ
      near_of (step.Publish d n r) i x e sa =
          let for_d : same e.watch d ≡ true = sym (same_trans e.watch c d sa) ∙ i in
          record {
            uncleared = rw for_d refl;
            uncalled = λ ns g at con. gone_published (s.view me) d n r x e;
            reached = λ ns g at con. anew_before (s.view me).walk e.place g at;
          }
      near_of q i x e sa = absurd (cc)

      fresh : (x : ℕ) (e : Entry) → same on e.watch ≡ true → Near (after p (s.view me)) x e σ
      fresh x e sa = near_of p is_publish x e (key_of e sa)

      opens : (x : ℕ) (e : Entry) → (next s me p).entry x ≡ Some e → same on e.watch ≡ true
          → Open (after p (view_of h)) x e σ
      opens x e st sa = subst (λ (v : View). Open v x e σ) (own ∙ ap (after p) (told me ∙ ap view_of is))
          (open_of (next s me p) me x e σ (step_keeps s me p k al).facts st
          (subst (λ (v : View). Near v x e σ) (sym own) (fresh x e sa)))

      by : (q : Step) → publishes q c ≡ true → Allowed s me q → (t : ℕ) → t ≢ me → FoundZero (next s me q) t on → ⊥
      by (step.Publish d n r) i may t ne z =
          let for_d : same on d ≡ true = sym (same_trans on c d for_c) ∙ i in
          let mine : (s.view me).hold.head ≡ Some (head_of on) = publish_holds (s.view me) on d for_d z.1 may.0 in
          let zero : (s.view t).hold.zero on ≡ Some z.0 = subst (λ (v : View). v.hold.zero on ≡ Some z.0)
          (put_other s.view me (after (step.Publish d n r) (s.view me)) t ne) z.2 in
          ne (k.facts.one_holder t me (head_of on) ((k.facts.views t).zero.held on z.0 zero) mine)
      by q i may t ne z = absurd (cc)

  -- the order of steps, from the publish on
  set_last : (later before : List TaskStep) → StaysSet later before on
      → met (table_of (later ++ before)).words on ≡ true
  set_last [] before st = st
  set_last (x ∷ xs) before st = st.0

  one_more : (s : Table) (x : TaskStep) (rest : List Step) → Kept s → Allowed s x.task x.made
      → met s.words on ≡ true → IsWatched s rest
      → (more : List Step) × IsWatched (next s x.task x.made) more
  one_more s x rest k al was w = elim (eqb_tells me x.task) [
    | inl q ↦ (
      rest ++ x.made ∷ [],
      subst (λ (a : ℕ). IsWatched (next s a x.made) (rest ++ x.made ∷ [])) q.1
          (own_watched s x.made k (subst (λ (a : ℕ). Allowed s a x.made) (sym q.1) al) was rest w),
    )
    | inr q ↦ (rest, others_watched s x.task x.made k al was rest q.1 w)
  ]

  watched : (between before : List TaskStep) → (table_of before).history me ≡ h
      → AreAllowed (between ++ step_by me p ∷ before) → StaysSet between (step_by me p ∷ before) on
      → (rest : List Step) × IsWatched (table_of (between ++ step_by me p ∷ before)) rest
  watched [] before is may set =
      ([], first_watched (table_of before) (kept_of before may.2) (views_of before) is may.1)
  watched (x ∷ xs) before is may set =
      let w = watched xs before is may.2 set.1 in
      one_more (table_of (xs ++ step_by me p ∷ before)) x w.0 (kept_of (xs ++ step_by me p ∷ before) may.2) may.1
      (set_last xs (step_by me p ∷ before) set.1) w.1

  -- the setter owes the wake still, or nobody waits
  abbrev OwesOrNone : Table → Type 0
  OwesOrNone s = ((rest : List Step) × IsWatched s rest × ((s.view me).duty.owes c σ ≡ true)) ⊎ IsDeserted s

  published : (s : Table) (q : Step) → publishes q c ≡ true → ((next s me q).view me).duty.owes c σ ≡ true
  published s q i = ap (λ (v : View). v.duty.owes c σ) (put_same s.view me (after q (s.view me)))
      ∙ owes_after q (s.view me) c σ ∙ rw i refl

  owes_more : (s : Table) (x : TaskStep) → Kept s → Allowed s x.task x.made → met s.words on ≡ true
      → (x.task ≡ me → uses_up x.made ≡ false) → OwesOrNone s → OwesOrNone (next s x.task x.made)
  owes_more s x k al was whole (inr d) = inr (deserted_on s x.task x.made k al was d)
  owes_more s x k al was whole (inl w) = elim (eqb_tells me x.task) [
    | inl q ↦ subst (λ (a : ℕ). OwesOrNone (next s a x.made)) q.1
        (by (subst (λ (a : ℕ). Allowed s a x.made) (sym q.1) al) (whole (sym q.1))
        (ends_wake x.made (s.view me) c σ) refl)
    | inr q ↦ inl (
      w.0,
      others_watched s x.task x.made k al was w.0 q.1 w.1,
      ap (λ (v : View). v.duty.owes c σ) (put_other s.view x.task (after x.made (s.view x.task)) me q.1) ∙ w.2,
    )
  ]
    where
      or_true : (b : Bool) → (b || true) ≡ true
      or_true true = refl
      or_true false = refl

      by : Allowed s me x.made → uses_up x.made ≡ false → (b : Bool) → ends_wake x.made (s.view me) c σ ≡ b
          → OwesOrNone (next s me x.made)
      by may un true e = inr (ended_by_view s x.made k may was w.0 w.1 e un)
      by may un false e = inl (
        w.0 ++ x.made ∷ [],
        own_watched s x.made k may was w.0 w.1,
        ap (λ (v : View). v.duty.owes c σ) (put_same s.view me (after x.made (s.view me)))
            ∙ owes_after x.made (s.view me) c σ ∙ rw (e, w.2) (or_true (publishes x.made c)),
      )

  owes_or_none : (later before : List TaskStep) → (table_of before).history me ≡ h
      → AreAllowed (later ++ step_by me p ∷ before) → StaysSet later (step_by me p ∷ before) on
      → UsesUpNone me later → OwesOrNone (table_of (later ++ step_by me p ∷ before))
  owes_or_none [] before is may set whole = inl (
    [],
    first_watched (table_of before) (kept_of before may.2) (views_of before) is may.1,
    published (table_of before) p is_publish,
  )
  owes_or_none (x ∷ xs) before is may set whole =
      owes_more (table_of (xs ++ step_by me p ∷ before)) x (kept_of (xs ++ step_by me p ∷ before) may.2) may.1
      (set_last xs (step_by me p ∷ before) set.1) whole.0 (owes_or_none xs before is may.2 set.1 whole.1)

  none_owed : (xs : List TaskStep) → OwesOrNone (table_of xs)
      → (view_of ((table_of xs).history me)).duty.owes c σ ≡ false → IsDeserted (table_of xs)
  none_owed xs (inr d) un = d
  none_owed xs (inl w) un = not_both_ways ((view_of ((table_of xs).history me)).duty.owes c σ)
      (ap (λ (v : View). v.duty.owes c σ) (sym (views_of xs me)) ∙ w.2) un

  deserted : (later front : List TaskStep) → IsDeserted (table_of front) → AreAllowed (later ++ front)
      → StaysSet later front on → IsDeserted (table_of (later ++ front))
  deserted [] front d may set = d
  deserted (x ∷ xs) front d may set = deserted_on (table_of (xs ++ front)) x.task x.made (kept_of (xs ++ front) may.2)
      may.1 (set_last xs front set.1) (deserted xs front d may.2 set.1)

  allowed_behind : (later front : List TaskStep) → AreAllowed (later ++ front) → AreAllowed front
  allowed_behind [] front may = may
  allowed_behind (x ∷ xs) front may = allowed_behind xs front may.2

  -- where the publish and the end stand in it, nobody waits after it
  nobody_waits : (before between later : List TaskStep) (end : Step) → (table_of before).history me ≡ h
      → AreAllowed (later ++ step_by me end ∷ (between ++ step_by me p ∷ before))
      → EndsWake ((table_of (between ++ step_by me p ∷ before)).history me) end c σ → uses_up end ≡ false
      → StaysSet between (step_by me p ∷ before) on
      → StaysSet later (step_by me end ∷ (between ++ step_by me p ∷ before)) on
      → IsDeserted (table_of (later ++ step_by me end ∷ (between ++ step_by me p ∷ before)))
  nobody_waits before between later end is may ends whole until since =
      let front = step_by me end ∷ (between ++ step_by me p ∷ before) in
      let ok : AreAllowed (step_by me end ∷ (between ++ step_by me p ∷ before)) =
      allowed_behind later (step_by me end ∷ (between ++ step_by me p ∷ before)) may in
      let w = watched between before is ok.2 until in
      deserted later (step_by me end ∷ (between ++ step_by me p ∷ before))
      (ended (table_of (between ++ step_by me p ∷ before)) end (kept_of (between ++ step_by me p ∷ before) ok.2) ok.1
      (set_last between (step_by me p ∷ before) until) w.0 w.1 ends whole) may since

  nobody_sleeps : (xs : List TaskStep) → IsDeserted (table_of xs) → met (table_of xs).words on ≡ true
      → NobodySleeps (table_of xs) on σ
  nobody_sleeps xs d set x e down sleeps =
      let z = sleeper_found (table_of xs) x e on (views_of xs) sleeps set in
      d.waits x e z.0 (subst (λ (i : ℕ). Waits (table_of xs) x e on z.0 i) down z.1)

pub steps_wake_all : StepsWakeAll
steps_wake_all xs may me c on σ w =
    subst (λ (ys : List TaskStep). NobodySleeps (table_of ys) on σ) (sym w.split)
    (nobody_sleeps me c on σ h w.publish w.is_publish w.watch
    (w.later ++ step_by me w.end ∷ (w.between ++ step_by me w.publish ∷ w.before))
    (nobody_waits me c on σ h w.publish w.is_publish w.watch w.before w.between w.later w.end refl
    (subst AreAllowed w.split may) w.ends w.whole w.until w.since)
    (set_last me c on σ h w.publish w.is_publish w.watch w.later
    (step_by me w.end ∷ (w.between ++ step_by me w.publish ∷ w.before)) w.since))
  where
    h : List Step
    h = (table_of w.before).history me

pub steps_settle_all : StepsSettleAll
steps_settle_all xs may me c on σ w =
    subst (λ (ys : List TaskStep). NobodySleeps (table_of ys) on σ) (sym w.split)
    (nobody_sleeps me c on σ h w.publish w.is_publish w.watch (w.later ++ step_by me w.publish ∷ w.before)
    (none_owed me c on σ h w.publish w.is_publish w.watch (w.later ++ step_by me w.publish ∷ w.before)
    (owes_or_none me c on σ h w.publish w.is_publish w.watch w.later w.before refl (subst AreAllowed w.split may)
    w.stays w.whole)
    (subst (λ (ys : List TaskStep). (view_of ((table_of ys).history me)).duty.owes c σ ≡ false) w.split w.settled))
    (set_last me c on σ h w.publish w.is_publish w.watch w.later (step_by me w.publish ∷ w.before) w.stays))
  where
    h : List Step
    h = (table_of w.before).history me

pub rule_wakes_all : RuleWakesAll
rule_wakes_all s items ruled me c on σ w = subst (λ (t : Table). NobodySleeps t on σ)
    (sym ruled.whole.interleaved.leads)
    (steps_wake_all ruled.whole.interleaved.steps ruled.whole.interleaved.allowed me c on σ w)

pub rule_settles_all : RuleSettlesAll
rule_settles_all s items ruled me c on σ w = subst (λ (t : Table). NobodySleeps t on σ)
    (sym ruled.whole.interleaved.leads)
    (steps_settle_all ruled.whole.interleaved.steps ruled.whole.interleaved.allowed me c on σ w)
