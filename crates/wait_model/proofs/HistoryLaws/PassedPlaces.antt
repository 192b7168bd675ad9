-- The places that a walk has gone by, by the fold and by the history.
use Rattle.std.proofs.Common.{refl, sym, ◌∙◌, ap, subst, arith, inl, inr}
use Rattle.std.specs.Prelude.{ℕ, zero, suc, ◌≡◌, ◌<◌, ◌≤◌, ◌⊎◌, Option, Some, None, Bool, true, false, not, ◌&&◌, ◌||◌}
use Rattle.std.specs.Prelude.{◌==◌, List, [], ◌∷◌, nat_le, nat_lt, if◌then◌else◌}
use Rattle.wait_model.specs.{declared.layout.TheConstants.ENTRIES, declared.watches.Watch.Watch}
use Rattle.wait_model.specs.{declared.watches.Entry.Entry, declared.watches.Aim.Aim, declared.steps.Step.Step}
use Rattle.wait_model.specs.{Tasks.meets, Words.entry_of}
use Rattle.wait_model.specs.Watches.{same, head_of, is_simple, mask_of}
use Rattle.wait_model.specs.Views.{View, Walk, Look, elsewhere, shown, no_hold, concerns, gone, ahead, passed}
use Rattle.wait_model.specs.Views.{all_passed, look_at}
use Rattle.wait_model.specs.Fold.{after, after_all, after_unlock, view_of, paused, begun}
use Rattle.wait_model.specs.Histories.{Lacks, Since, publishes, is_mark, marks}
use Rattle.wait_model.specs.Walks.{WalkHold, tells, entry_of_head, shown_by, IsPast, HasPassed, leaves, GoneIn, GoneBy}
use Rattle.wait_model.specs.declared.steps.Step.TheVariants as step
use Rattle.wait_model.proofs.{HistoryLaws.HoldWalks.IsForWalk, HistoryLaws.HoldWalks.mark_kept, Sameness.same_trans}
use Rattle.wait_model.proofs.{HistoryLaws.PlainReadings.owes_after, StepLaws.UnlockSteps.unlocked}
use Rattle.wait_model.proofs.HistoryLaws.CalledEntries.{same_sym, view_at, hold_walk, called_gone}
use Rattle.wait_model.proofs.HistoryLaws.HoldBooks.{look_of, hold_book, all_passed_of}

pub concerned : (w : Walk) (a : Aim) (c : Watch) (σ : ℕ) → same a.watch w.watch ≡ true
    → w.mask ≡ mask_of a.mode
    → same c a.watch ≡ true → meets (mask_of a.mode) σ ≡ true → concerns w c σ ≡ true
concerned w a c σ s m h g = let z : same c w.watch ≡ true = sym (same_trans c a.watch w.watch h) ∙ s in
    rw (z, m) g

-- past what an entry word holds by the history, and so by the book
past_parts : (b s l p g : Bool) → s ≡ false → (l || (p || g)) ≡ true
    → (not b || (not s && (l || (p || g)))) ≡ true
past_parts b s l p g n h = grind arith

past_shown : (gone_at stop : ℕ → Type 0) (until : ℕ → Bool) (es : List Step) (c : Watch) (σ : ℕ)
    → (k : WalkHold es c σ) (x : ℕ) (e : Entry) (w : Walk) → ((p : ℕ) → stop p → until p ≡ true)
    → ((p : ℕ) → gone_at p → p < w.from) → (view_of es).walk ≡ Some w
    → IsPast gone_at stop es σ k.aim x (Some e) → passed w (view_of es) until (shown e) x ≡ true
past_shown gone_at stop until es c σ k x e w at by is (inl n) =
    other (same e.watch w.watch) refl (hold_walk es c σ k)
  where
    other : (b : Bool) → same e.watch w.watch ≡ b → IsForWalk k.aim (view_of es).walk
        → (not (same e.watch w.watch) || (not (is_simple e.kind)
        && (nat_lt e.place w.from || (until e.place || gone (view_of es) x e)))) ≡ true
    other false h f = rw h refl
    other true h f =
        let q : f.walk ≡ w = (let z : Some f.walk ≡ Some w = sym f.is ∙ is in cc) in
        let a : same k.aim.watch w.watch ≡ true = subst (λ (u : Walk). same k.aim.watch u.watch ≡ true) q
        f.watch in
        let z : same e.watch k.aim.watch ≡ true =
        sym (same_trans e.watch w.watch k.aim.watch h) ∙ same_sym k.aim.watch w.watch a in
        absurd (let y : same e.watch k.aim.watch ≡ false = n in cc)
past_shown gone_at stop until es c σ k x e w at by is (inr (ns, inl g)) =
    let l : nat_lt e.place w.from ≡ true = before (by e.place g) in
    past_parts (same e.watch w.watch) (is_simple e.kind) (nat_lt e.place w.from) (until e.place)
    (gone (view_of es) x e) ns (rw l refl)
  where
    before : e.place < w.from → nat_lt e.place w.from ≡ true
    before h = grind arith
past_shown gone_at stop until es c σ k x e w at by is (inr (ns, inr (inl s))) =
    past_parts (same e.watch w.watch) (is_simple e.kind) (nat_lt e.place w.from) (until e.place)
    (gone (view_of es) x e) ns (either (nat_lt e.place w.from) (until e.place) (gone (view_of es) x e)
    (at e.place s))
  where
    either : (l p g : Bool) → p ≡ true → (l || (p || g)) ≡ true
    either l p g h = grind arith
past_shown gone_at stop until es c σ k x e w at by is (inr (ns, inr (inr d))) =
    past_parts (same e.watch w.watch) (is_simple e.kind) (nat_lt e.place w.from) (until e.place)
    (gone (view_of es) x e) ns (either (nat_lt e.place w.from) (until e.place) (gone (view_of es) x e)
    (called_gone es x e σ d))
  where
    either : (l p g : Bool) → g ≡ true → (l || (p || g)) ≡ true
    either l p g h = grind arith

look_past : (gone_at stop : ℕ → Type 0) (until : ℕ → Bool) (es : List Step) (c : Watch) (σ : ℕ)
    → (k : WalkHold es c σ) (x : ℕ) (it : Step) (w : Walk) → ((p : ℕ) → stop p → until p ≡ true)
    → ((p : ℕ) → gone_at p → p < w.from) → (view_of es).walk ≡ Some w → tells x it ≡ true
    → IsPast gone_at stop es σ k.aim x (shown_by k.head it)
    → passed w (view_of es) until (look_of k.head it) x ≡ true
unfolding look_of
look_past gone_at stop until es c σ k x (step.Saw y u) w at by is t p = word (entry_of u) p
  where
    entry : (e : Entry) (b : Bool) → IsPast gone_at stop es σ k.aim x (if b then Some e else None)
        → passed w (view_of es) until (if b then shown e else elsewhere) x ≡ true
    entry e true p = past_shown gone_at stop until es c σ k x e w at by is p
    entry e false p = refl

    word : (o : Option Entry) → IsPast gone_at stop es σ k.aim x (entry_of_head k.head o)
        → passed w (view_of es) until (look_at (Some k.head) o) x ≡ true
    word None p = refl
    word (Some e) p = entry e (head_of e.watch == k.head) p
look_past gone_at stop until es c σ k x (step.Queue y e) w at by is t p =
    past_shown gone_at stop until es c σ k x e w at by is p
look_past gone_at stop until es c σ k x (step.Unqueue y) w at by is t p = refl
look_past gone_at stop until es c σ k x it w at by is t p = absurd (cc)

pub all_past : (gone_at stop : ℕ → Type 0) (until : ℕ → Bool) (es : List Step) (c : Watch) (σ : ℕ)
    → (k : WalkHold es c σ) (w : Walk) → ((p : ℕ) → stop p → until p ≡ true)
    → ((p : ℕ) → gone_at p → p < w.from) → (view_of es).walk ≡ Some w
    → ((x : ℕ) → x < ENTRIES → HasPassed gone_at stop es c σ k x) → all_passed (view_of es) w until ≡ true
all_past gone_at stop until es c σ k w at by is h = all_passed_of (view_of es) w until
    (λ x lt. let p = h x lt in
    ap (λ (l : Look). passed w (view_of es) until l x) (hold_book es c σ k x p.word)
    ∙ look_past gone_at stop until es c σ k x p.word.it w at by is p.word.passes p.past)

-- a walk that its last unlock left at the bookmark
goes_on : (a : Aim) (w : Walk) (e : Step) (v : View) → same a.watch w.watch ≡ true → w.mask ≡ mask_of a.mode
    → leaves a e ≡ false → v.walk ≡ Some w → (after e v).walk ≡ Some w
goes_on a w (step.Lock h (Some b) f) v s m l is =
    let g : same b.watch a.watch ≡ true = grind arith in
    let n : (mask_of a.mode == mask_of b.mode) ≡ true = grind arith in
    let t : same b.watch w.watch ≡ true = sym (same_trans b.watch a.watch w.watch g) ∙ s in
    ap (λ (o : Option Walk). begun o (Some b)) is ∙ rw (t, m, n) refl
goes_on a w e v s m l is = grind arith

stays_on : (a : Aim) (w : Walk) (es : List Step) (v : View) → same a.watch w.watch ≡ true
    → w.mask ≡ mask_of a.mode → Lacks (leaves a) es → v.walk ≡ Some w → (after_all v es).walk ≡ Some w
stays_on a w [] v s m l is = is
stays_on a w (e ∷ es) v s m l is = stays_on a w es (after e v) s m l.1 (goes_on a w e v s m l.0 is)

unpublished : (a : Aim) (e : Step) (c : Watch) → leaves a e ≡ false → publishes e c ≡ false
unpublished a (step.Publish d n r) c l = absurd (cc)
unpublished a e c l = refl

still_unowed : (a : Aim) (es : List Step) (v : View) (c : Watch) (σ : ℕ) → Lacks (leaves a) es
    → v.duty.owes c σ ≡ false → (after_all v es).duty.owes c σ ≡ false
still_unowed a [] v c σ l h = h
still_unowed a (e ∷ es) v c σ l h = still_unowed a es (after e v) c σ l.1 (owes_after e v c σ
    ∙ rw (h, unpublished a e c l.0) refl)

-- the unlock at a bookmark, by whether its walk has ended there
left_at : (v : View) (w : Walk) (q : ℕ) (c : Watch) (σ : ℕ) → v.mark ≡ Some q → concerns w c σ ≡ true
    → all_passed v w (λ p. nat_le q p) ≡ true
    → ((after_unlock v (Some w) false).duty.owes c σ ≡ false)
    ⊎ ((after_unlock v (Some w) false).walk ≡ Some (record w { from = q }))
left_at v w q c σ m con ps = by (false || all_passed v w (λ _. false))
  where
    by : (b : Bool)
        → ((if b then record v {
          hold = no_hold;
          walk = None;
          duty = record (v.duty) { owes = λ c σ. v.duty.owes c σ && not (concerns w c σ) };
        }
        else record v { hold = no_hold; walk = paused v w v.mark }).duty.owes c σ ≡ false)
        ⊎ ((if b then record v {
          hold = no_hold;
          walk = None;
          duty = record (v.duty) { owes = λ c σ. v.duty.owes c σ && not (concerns w c σ) };
        }
        else record v { hold = no_hold; walk = paused v w v.mark }).walk ≡ Some (record w { from = q }))
    by true = inl (rw con (grind arith))
    by false = inr (ap (paused v w) m ∙ rw ps refl)

-- where the bookmark stands
mark_at : (e : Step) (v : View) (q : ℕ) → marks q e ≡ true → (after e v).mark ≡ Some q
mark_at (step.Mark h p) v q m = let z : q ≡ p = grind arith in ap (λ (n : ℕ). Some n) (sym z)
mark_at e v q m = absurd (cc)

marks_kept : (es : List Step) (v : View) → Lacks is_mark es → (after_all v es).mark ≡ v.mark
marks_kept [] v l = refl
marks_kept (e ∷ es) v l = marks_kept es (after e v) l.1 ∙ mark_kept e v l.0

marked_view : (es : List Step) (q : ℕ) → Since (marks q) is_mark es → (view_of es).mark ≡ Some q
marked_view es q s = ap (λ (v : View). v.mark) (view_at es s.earlier s.it s.later s.split)
    ∙ marks_kept s.later (after s.it (view_of s.earlier)) s.none_since
    ∙ mark_at s.it (view_of s.earlier) q s.passes

-- a place that the walk has gone by lies before the one at which it goes on
abbrev pub IsBehind : Watch → ℕ → Option Walk → ℕ → Type 0
IsBehind c σ o place = (w : Walk) × (o ≡ Some w) × (place < w.from) × (concerns w c σ ≡ true)

gone_in : (n : ℕ) (c : Watch) (σ : ℕ) (es : List Step) (place : ℕ) → (view_of es).duty.owes c σ ≡ true
    → GoneIn n c σ es place → IsBehind c σ (view_of es).walk place
gone_in zero c σ es place owes k = absurd k
gone_in (suc n) c σ es place owes k =
    by (λ p o. gone_in n c σ k.before p o) (hold_walk k.before c σ k.hold)
    ((view_of k.before).duty.owes c σ) refl
  where
    is : view_of es ≡ after_all (after_unlock (view_of k.before) (view_of k.before).walk false) k.later
    is = view_at es k.before (step.Unlock k.head false) k.later k.split

    unowed : (v : View) (w : Walk) → v.duty.owes c σ ≡ false
        → (after_unlock v (Some w) false).duty.owes c σ ≡ false
    unowed v w h = unlocked (λ u. u.duty.owes c σ ≡ false) v (Some w) false h (λ w. rw h refl) (λ w. h)

    lost : (w : Walk) → (view_of k.before).walk ≡ Some w
        → (after_unlock (view_of k.before) (Some w) false).duty.owes c σ ≡ false → ⊥
    lost w q h =
        let z : (view_of es).duty.owes c σ ≡ false = ap (λ (v : View). v.duty.owes c σ)
        (is ∙ ap (λ (o : Option Walk). after_all (after_unlock (view_of k.before) o false) k.later) q)
        ∙ still_unowed k.hold.aim k.later (after_unlock (view_of k.before) (Some w) false) c σ k.stays h in
        cc

    by : ((p : ℕ) → (view_of k.before).duty.owes c σ ≡ true → GoneIn n c σ k.before p
        → IsBehind c σ (view_of k.before).walk p) → IsForWalk k.hold.aim (view_of k.before).walk → (b : Bool)
        → (view_of k.before).duty.owes c σ ≡ b → IsBehind c σ (view_of es).walk place
    by more f false o = absurd (lost f.walk f.is (unowed (view_of k.before) f.walk o))
    by more f true o =
        left (left_at (view_of k.before) f.walk k.mark c σ (marked_view k.before k.mark k.marked)
        (concerned f.walk k.hold.aim c σ f.watch f.mask k.hold.watch k.hold.mode)
        (all_past (GoneIn n c σ k.before) (λ p. k.mark ≤ p) (λ p. nat_le k.mark p) k.before c σ k.hold
        f.walk
        (λ p le. stops k.mark p le) (λ p g. earlier p (more p o g)) f.is k.passed))
      where
        stops : (m p : ℕ) → m ≤ p → nat_le m p ≡ true
        stops m p le = grind arith

        earlier : (p : ℕ) → IsBehind c σ (view_of k.before).walk p → p < f.walk.from
        earlier p g = subst (λ (u : Walk). p < u.from)
            (let z : Some g.0 ≡ Some f.walk = sym g.1 ∙ f.is in let q : g.0 ≡ f.walk = cc in q) g.2

        left : ((after_unlock (view_of k.before) (Some f.walk) false).duty.owes c σ ≡ false)
            ⊎ ((after_unlock (view_of k.before) (Some f.walk) false).walk ≡ Some
            (record (f.walk) { from = k.mark }))
            → IsBehind c σ (view_of es).walk place
        left (inl h) = absurd (lost f.walk f.is h)
        left (inr h) = (
          record (f.walk) { from = k.mark },
          ap (λ (v : View). v.walk)
              (is ∙ ap (λ (u : Option Walk). after_all (after_unlock (view_of k.before) u false) k.later)
              f.is)
              ∙ stays_on k.hold.aim (record (f.walk) { from = k.mark }) k.later
              (after_unlock (view_of k.before) (Some f.walk) false) f.watch f.mask k.stays h,
          k.behind,
          concerned f.walk k.hold.aim c σ f.watch f.mask k.hold.watch k.hold.mode,
        )

pub gone_by : (es : List Step) (c : Watch) (σ place : ℕ) → (view_of es).duty.owes c σ ≡ true
    → GoneBy es c σ place → IsBehind c σ (view_of es).walk place
gone_by es c σ place owes g = gone_in g.0 c σ es place owes g.1

passed_place : (c : Watch) (σ p : ℕ) (o : Option Walk) (g : Bool) → IsBehind c σ o p
    → ahead o g c σ p ≡ false
passed_place c σ p o g b = rw b.1 (by (nat_le b.0.from p) (concerns b.0 c σ) (behind b.0.from b.2) b.3)
  where
    behind : (f : ℕ) → p < f → nat_le f p ≡ false
    behind f lt = grind arith

    by : (l d : Bool) → l ≡ false → d ≡ true → (not d || (l && not g)) ≡ false
    by l d h q = rw (h, q) refl

pub gone_not : (es : List Step) (e : Entry) (σ : ℕ) (g : Bool) → (view_of es).duty.owes e.watch σ ≡ true
    → GoneBy es e.watch σ e.place → ahead (view_of es).walk g e.watch σ e.place ≡ false
gone_not es e σ g owes k = passed_place e.watch σ e.place (view_of es).walk g
    (gone_by es e.watch σ e.place owes k)
