-- Walks of several holds: where a walk goes on by the view, its earlier holds have gone by all before by the history.
use Rattle.std.proofs.lemmas.Option.{none-some}
use Rattle.std.proofs.Common.{refl, sym, ◌∙◌, ap, subst, arith, inl, inr}
use Rattle.std.proofs.lemmas.List.{append_assoc, append-nil}
use Rattle.std.specs.Prelude.{ℕ, suc, ◌≡◌, ◌<◌, ◌≤◌, ◌⊎◌, Option, Some, None, Bool, true, false, not, ◌&&◌, ◌||◌, ◌==◌, List, [], ◌∷◌, ◌++◌, nat_le, nat_lt, if◌then◌else◌}
use Rattle.wait_model.specs.{declared.layout.TheConstants.ENTRIES, declared.watches.Watch.Watch}
use Rattle.wait_model.specs.{declared.watches.Entry.Entry, declared.watches.Aim.Aim, declared.steps.Step.Step}
use Rattle.wait_model.specs.{Tasks.meets, Words.entry_of}
use Rattle.wait_model.specs.Watches.{same, head_of, is_woken, is_simple, is_page, mask_of}
use Rattle.wait_model.specs.Views.{View, Walk, Look, unseen, elsewhere, shown, blank, no_hold, concerns, gone, passed}
use Rattle.wait_model.specs.Views.{all_passed, look_at}
use Rattle.wait_model.specs.Fold.{after, after_all, after_unlock, begun, begun_anew, paused, view_of}
use Rattle.wait_model.specs.Histories.{Lacks, Since, UnlocksHeld, is_mark, marks}
use Rattle.wait_model.specs.Walks.{WalkHold, tells, entry_of_head, shown_by, IsPast, CalledNow, HasPassed, leaves}
use Rattle.wait_model.specs.Walks.{GoneIn, GoneBy}
use Rattle.wait_model.specs.declared.steps.Step.TheVariants as step
use Rattle.wait_model.proofs.{HistoryLaws.HoldLooks.after_snoc, Sameness.same_trans}
use Rattle.wait_model.proofs.HistoryLaws.Stretches.{lacks_append, lacks_left, append_split, since_behind, since_first}
use Rattle.wait_model.proofs.HistoryLaws.HoldWalks.{IsForWalk, Locked, HasWalk, locked_of, locked_for, locked_held}
use Rattle.wait_model.proofs.HistoryLaws.HoldWalks.{mark_kept}
use Rattle.wait_model.proofs.HistoryLaws.CalledEntries.{both, same_sym, hold_walk, aims, hold_for, called_now}
use Rattle.wait_model.proofs.HistoryLaws.HoldBooks.{look_of, telling, hold_book, hold_unseen, stopped_at}

-- wherever a lock is given back with a walk under way, the hold is one of a walk
abbrev pub WalksLocked : List Step → Type 0
WalksLocked es = (front : List Step) (h : ℕ) (spent : Bool) (rest : List Step)
    → es ≡ front ++ step.Unlock h spent ∷ rest → HasWalk (view_of front).walk → Locked front

pub walks_locked : (es : List Step) → Lacks is_mark es ⊎ UnlocksHeld es → WalksLocked es
walks_locked es (inl l) front h spent rest eq has = locked_of front
    (lacks_left is_mark front (step.Unlock h spent ∷ rest) (subst (Lacks is_mark) eq l)) has
walks_locked es (inr u) front h spent rest eq has = locked_held front (u front h spent rest eq) has

pub locked_left : (es fs : List Step) → WalksLocked (es ++ fs) → WalksLocked es
locked_left es fs w front h spent rest eq has = w front h spent (rest ++ fs)
    (ap (λ (t : List Step). t ++ fs) eq ∙ append_assoc front (step.Unlock h spent ∷ rest) fs) has

-- past what an entry word holds by the book, and so by the history
other_aim : (c d a : Watch) → same c d ≡ false → same a d ≡ true → (b : Bool) → same c a ≡ b
    → same c a ≡ false
other_aim c d a n h false g = g
other_aim c d a n h true g = absurd (let z : same c d ≡ true = sym (same_trans c a d g) ∙ h in cc)

aim_at : (a : Aim) (o : Option Walk) (w : Walk) → IsForWalk a o → o ≡ Some w → same a.watch w.watch ≡ true
aim_at a o w f is = subst (λ (u : Walk). same a.watch u.watch ≡ true)
    (let z : Some f.walk ≡ Some w = sym f.is ∙ is in let q : f.walk ≡ w = cc in q) f.watch

called_parts : (b s r : Bool) → b ≡ true → (not b || (not s && r)) ≡ true → (s ≡ false) × (r ≡ true)
called_parts true false true p h = (refl, refl)
called_parts true false false p h = absurd (cc)
called_parts true true r p h = absurd (cc)
called_parts false s r p h = absurd (cc)

-- places that the walk went by are those before the one at which it goes on, and it stops where the view does
pub record Agrees (gone_at stop : ℕ → Type 0) (until : ℕ → Bool) (w : Walk) : Type 0 where
  pub gone_by : (p : ℕ) → p < w.from → gone_at p
  pub stops : (p : ℕ) → until p ≡ true → stop p

module _ (gone_at stop : ℕ → Type 0) (until : ℕ → Bool) (es : List Step) (c : Watch) (σ : ℕ) (k : WalkHold es c σ)
    (x : ℕ) (w : Walk) (agrees : Agrees gone_at stop until w) (l : Locked es) (is : (view_of es).walk ≡ Some w)
    (con : concerns w c σ ≡ true) where
  shown_past : (e : Entry) → passed w (view_of es) until (shown e) x ≡ true
      → IsPast gone_at stop es σ k.aim x (Some e)
  shown_past e p = by (same e.watch w.watch) refl
    where
      m : meets w.mask σ ≡ true
      m = (both (same c w.watch) (meets w.mask σ) con).1

      past : same e.watch w.watch ≡ true → (b u g : Bool) → nat_lt e.place w.from ≡ b → until e.place ≡ u
          → gone (view_of es) x e ≡ g → (b || (u || g)) ≡ true
          → gone_at e.place ⊎ (stop e.place ⊎ CalledNow es x e σ)
      past h true u g before at called r = inl (agrees.gone_by e.place (lower before))
        where
          lower : nat_lt e.place w.from ≡ true → e.place < w.from
          lower q = grind arith
      past h false true g before at called r = inr (inl (agrees.stops e.place at))
      past h false false true before at called r =
          inr (inr (called_now es x e σ w l is (rw h m) (is_woken e.kind) (is_page e.kind) refl refl called))
      past h false false false before at called r = absurd (cc)

      by : (b : Bool) → same e.watch w.watch ≡ b → IsPast gone_at stop es σ k.aim x (Some e)
      by false h = inl (other_aim e.watch w.watch k.aim.watch h
          (aim_at k.aim (view_of es).walk w (hold_walk es c σ k) is) (same e.watch k.aim.watch) refl)
      by true h =
          let q = called_parts (same e.watch w.watch) (is_simple e.kind)
          (nat_lt e.place w.from || (until e.place || gone (view_of es) x e)) h p in
          inr (q.0, past h (nat_lt e.place w.from) (until e.place) (gone (view_of es) x e) refl refl refl q.1)

  past_look : (it : Step) → passed w (view_of es) until (look_of k.head it) x ≡ true
      → IsPast gone_at stop es σ k.aim x (shown_by k.head it)
  unfolding look_of
  past_look (step.Saw y u) p = by (entry_of u) p
    where
      at : (e : Entry) (b : Bool) → passed w (view_of es) until (if b then shown e else elsewhere) x ≡ true
          → IsPast gone_at stop es σ k.aim x (if b then Some e else None)
      at e true p = shown_past e p
      at e false p = tt

      by : (o : Option Entry) → passed w (view_of es) until (look_at (Some k.head) o) x ≡ true
          → IsPast gone_at stop es σ k.aim x (entry_of_head k.head o)
      by None p = tt
      by (Some e) p = at e (head_of e.watch == k.head) p
  past_look (step.Queue y e) p = shown_past e p
  past_look it p = tt

  pub has_passed : passed w (view_of es) until ((view_of es).hold.book x) x ≡ true
      → HasPassed gone_at stop es c σ k x
  has_passed p = by (telling k.inside x)
    where
      by : Since (tells x) (tells x) k.inside ⊎ Lacks (tells x) k.inside → HasPassed gone_at stop es c σ k x
      by (inl s) = record {
        word = s;
        past = past_look s.it
            (ap (λ (o : Look). passed w (view_of es) until o x) (sym (hold_book es c σ k x s)) ∙ p);
      }
      by (inr n) = absurd (let z : passed w (view_of es) until unseen x ≡ true =
          ap (λ (o : Look). passed w (view_of es) until o x) (sym (hold_unseen es c σ k x n)) ∙ p
          in cc)

-- where the bookmark stands by the view it was put by the history
marks_of : (e : Step) (v : View) (q : ℕ) → is_mark e ≡ true → (after e v).mark ≡ Some q → marks q e ≡ true
marks_of (step.Mark h p) v q i m = let z : p ≡ q = cc in rw z (grind arith)
marks_of e v q i m = absurd (cc)

mark_in : (es : List Step) (v : View) (q : ℕ) → (after_all v es).mark ≡ Some q
    → Since (marks q) is_mark es ⊎ ((v.mark ≡ Some q) × Lacks is_mark es)
mark_in [] v q m = inr (m, tt)
mark_in (e ∷ es) v q m = by (mark_in es (after e v) q m)
  where
    at : (b : Bool) → is_mark e ≡ b → (after e v).mark ≡ Some q → Lacks is_mark es
        → Since (marks q) is_mark (e ∷ es) ⊎ ((v.mark ≡ Some q) × Lacks is_mark (e ∷ es))
    at true i n l = inl (since_first e es (marks_of e v q i n) l)
    at false i n l = inr (sym (mark_kept e v i) ∙ n, (i, l))

    by : Since (marks q) is_mark es ⊎ (((after e v).mark ≡ Some q) × Lacks is_mark es)
        → Since (marks q) is_mark (e ∷ es) ⊎ ((v.mark ≡ Some q) × Lacks is_mark (e ∷ es))
    by (inl s) = inl (since_behind e s)
    by (inr r) = at (is_mark e) refl r.0 r.1

mark_told : (es : List Step) (q : ℕ) → (view_of es).mark ≡ Some q → Since (marks q) is_mark es
mark_told es q m = by (mark_in es blank q m)
  where
    by : Since (marks q) is_mark es ⊎ ((blank.mark ≡ Some q) × Lacks is_mark es) → Since (marks q) is_mark es
    by (inl s) = s
    by (inr r) = absurd (none-some q r.0)

-- The last unlock left the walk at its bookmark, after n holds before that one.
pub record IsLeft (n : ℕ) (es : List Step) (c : Watch) (σ : ℕ) (w : Walk) : Type 0 where
  pub before : List Step
  pub head : ℕ
  pub later : List Step
  pub split : es ≡ before ++ step.Unlock head false ∷ later
  pub hold : WalkHold before c σ
  pub marked : Since (marks w.from) is_mark before
  pub passed : (x : ℕ) → x < ENTRIES → HasPassed (GoneIn n c σ before) (λ p. w.from ≤ p) before c σ hold x
  pub stays : Lacks (leaves hold.aim) later
  pub watch : same hold.aim.watch w.watch ≡ true
  pub mask : w.mask ≡ mask_of hold.aim.mode

abbrev pub HasLeft : List Step → Watch → ℕ → Walk → Type 0
HasLeft es c σ w = (w.from ≡ 0) ⊎ ((n : ℕ) × IsLeft n es c σ w)

abbrev pub GoesOn : List Step → Watch → ℕ → Option Walk → Type 0
GoesOn es c σ None = Unit {0}
GoesOn es c σ (Some w) = concerns w c σ ≡ true → HasLeft es c σ w

-- the number of holds in which it has gone by all places before
abbrev holds_of : (es : List Step) (c : Watch) (σ : ℕ) (w : Walk) → HasLeft es c σ w → ℕ
holds_of es c σ w (inl z) = 0
holds_of es c σ w (inr k) = suc k.0

gone_all : (es : List Step) (c : Watch) (σ : ℕ) (w : Walk) (h : HasLeft es c σ w) (p : ℕ) → p < w.from
    → GoneIn (holds_of es c σ w h) c σ es p
gone_all es c σ w (inl z) p lt = absurd (let y : p < 0 = subst (λ (n : ℕ). p < n) z lt in omega (arith, y))
gone_all es c σ w (inr k) p lt = record {
  before = k.1.before;
  head = k.1.head;
  later = k.1.later;
  split = k.1.split;
  hold = k.1.hold;
  mark = w.from;
  marked = k.1.marked;
  passed = k.1.passed;
  stays = k.1.stays;
  behind = lt;
}

pub gone_before : (es : List Step) (c : Watch) (σ : ℕ) (w : Walk) → HasLeft es c σ w → (p : ℕ) → p < w.from
    → GoneBy es c σ p
gone_before es c σ w h p lt = (holds_of es c σ w h, gone_all es c σ w h p lt)

-- one step more, at which the walk stays
left_more : (n : ℕ) (es : List Step) (c : Watch) (σ : ℕ) (w : Walk) (k : IsLeft n es c σ w) (e : Step)
    → leaves k.hold.aim e ≡ false → IsLeft n (es ++ e ∷ []) c σ w
left_more n es c σ w k e stays = record {
  before = k.before;
  head = k.head;
  later = k.later ++ e ∷ [];
  split = ap (λ (t : List Step). t ++ e ∷ []) k.split
      ∙ append_split k.before (step.Unlock k.head false) k.later e [];
  hold = k.hold;
  marked = k.marked;
  passed = k.passed;
  stays = lacks_append (leaves k.hold.aim) k.later (e ∷ []) k.stays (stays, tt);
  watch = k.watch;
  mask = k.mask;
}

goes_more : (es : List Step) (c : Watch) (σ : ℕ) (e : Step) → ((a : Aim) → leaves a e ≡ false) → (o : Option Walk)
    → GoesOn es c σ o → GoesOn (es ++ e ∷ []) c σ o
goes_more es c σ e stays None g = tt
goes_more es c σ e stays (Some w) g = λ con. by (g con)
  where
    by : HasLeft es c σ w → HasLeft (es ++ e ∷ []) c σ w
    by (inl z) = inl z
    by (inr k) = inr (k.0, left_more k.0 es c σ w k.1 e (stays k.1.hold.aim))

-- a lock of the same walk
lock_stays : (a b : Aim) (w : Walk) (h f : ℕ) → same a.watch w.watch ≡ true → w.mask ≡ mask_of a.mode
    → (same b.watch w.watch && (w.mask == mask_of b.mode)) ≡ true → leaves a (step.Lock h (Some b) f) ≡ false
lock_stays a b w h f s m on =
    let p = both (same b.watch w.watch) (w.mask == mask_of b.mode) on in
    let t : same b.watch a.watch ≡ true = sym (same_trans b.watch w.watch a.watch p.0) ∙ same_sym a.watch w.watch s in
    let n : (mask_of a.mode == mask_of b.mode) ≡ true = subst (λ (i : ℕ). (i == mask_of b.mode) ≡ true) m p.1 in
    rw (t, n) refl

goes_locked : (es : List Step) (c : Watch) (σ : ℕ) (h : ℕ) (b : Aim) (f : ℕ) (o : Option Walk) → GoesOn es c σ o
    → GoesOn (es ++ step.Lock h (Some b) f ∷ []) c σ (begun o (Some b))
goes_locked es c σ h b f None g = λ con. inl refl
goes_locked es c σ h b f (Some w) g = by (same b.watch w.watch && (w.mask == mask_of b.mode)) refl
  where
    on : (same b.watch w.watch && (w.mask == mask_of b.mode)) ≡ true → HasLeft es c σ w
        → HasLeft (es ++ step.Lock h (Some b) f ∷ []) c σ w
    on q (inl z) = inl z
    on q (inr k) = inr (
      k.0,
      left_more k.0 es c σ w k.1 (step.Lock h (Some b) f)
          (lock_stays k.1.hold.aim b w h f k.1.watch k.1.mask q),
    )

    by : (d : Bool) → (same b.watch w.watch && (w.mask == mask_of b.mode)) ≡ d
        → GoesOn (es ++ step.Lock h (Some b) f ∷ []) c σ (if d then Some w
        else Some (record { watch = b.watch; mask = mask_of b.mode; from = 0 }))
    by true q = λ con. on q (g con)
    by false q = λ con. inl refl

goes_anew : (es : List Step) (c : Watch) (σ : ℕ) (o : Option Walk) → GoesOn es c σ (begun_anew o)
goes_anew es c σ None = tt
goes_anew es c σ (Some w) = λ con. inl refl

-- an unlock at a bookmark
stop_at : (q p : ℕ) → nat_le q p ≡ true → q ≤ p
stop_at q p h = grind arith

left_here : (es : List Step) (c : Watch) (σ : ℕ) (h : ℕ) (w : Walk) (q : ℕ) → Locked es
    → (view_of es).walk ≡ Some w → (view_of es).mark ≡ Some q → concerns w c σ ≡ true
    → all_passed (view_of es) w (λ p. nat_le q p) ≡ true → HasLeft es c σ w
    → HasLeft (es ++ step.Unlock h false ∷ []) c σ (record w { from = q })
left_here es c σ h w q k is m con ps g =
    let a = aims es c σ w k is con in
    let f = locked_for es k in
    let same_walk : f.walk ≡ w = (let z : Some f.walk ≡ Some w = sym f.is ∙ is in cc) in
    let n = holds_of es c σ w g in
    inr (
      n,
      record {
        before = es;
        head = h;
        later = [];
        split = refl;
        hold = hold_for es c σ k a.0 a.1;
        marked = mark_told es q m;
        passed = λ x lt. has_passed (GoneIn n c σ es) (λ p. q ≤ p) (λ p. nat_le q p) es c σ (hold_for es c σ k a.0 a.1)
            x w (record { gone_by = gone_all es c σ w g; stops = stop_at q }) k is con
            (stopped_at (view_of es) w (λ p. nat_le q p) x ps lt);
        stays = tt;
        watch = subst (λ (u : Walk). same k.aim.watch u.watch ≡ true) same_walk f.watch;
        mask = subst (λ (u : Walk). u.mask ≡ mask_of k.aim.mode) same_walk f.mask;
      },
    )

module _ (es : List Step) (c : Watch) (σ : ℕ) (h : ℕ) (locked : HasWalk (view_of es).walk → Locked es) where
  goes_paused : (w : Walk) (o : Option ℕ) → (view_of es).walk ≡ Some w → (view_of es).mark ≡ o
      → GoesOn es c σ (Some w) → GoesOn (es ++ step.Unlock h false ∷ []) c σ (paused (view_of es) w o)
  goes_paused w None is m g = tt
  goes_paused w (Some q) is m g = by (all_passed (view_of es) w (λ p. nat_le q p)) refl
    where
      by : (b : Bool) → all_passed (view_of es) w (λ p. nat_le q p) ≡ b
          → GoesOn (es ++ step.Unlock h false ∷ []) c σ (if b then Some (record w { from = q }) else None)
      by true ps = λ con. left_here es c σ h w q (locked (w, is)) is m con ps (g con)
      by false ps = tt

  goes_unlocked : (spent : Bool) (o : Option Walk) → (view_of es).walk ≡ o → GoesOn es c σ o
      → GoesOn (es ++ step.Unlock h spent ∷ []) c σ (after_unlock (view_of es) o spent).walk
  goes_unlocked spent None is g = tt
  goes_unlocked true (Some w) is g = tt
  goes_unlocked false (Some w) is g = by (all_passed (view_of es) w (λ _. false))
    where
      by : (b : Bool) → GoesOn (es ++ step.Unlock h false ∷ []) c σ
          ((if b then record (view_of es) {
            hold = no_hold;
            walk = None;
            duty = record ((view_of es).duty) { owes = λ c σ. (view_of es).duty.owes c σ && not (concerns w c σ) };
          }
          else record (view_of es) { hold = no_hold; walk = paused (view_of es) w (view_of es).mark }).walk)
      by true = tt
      by false = goes_paused w (view_of es).mark is refl g

-- any step
goes_after : (es : List Step) (c : Watch) (σ : ℕ) (e : Step)
    → ((h : ℕ) (spent : Bool) → e ≡ step.Unlock h spent → HasWalk (view_of es).walk → Locked es)
    → GoesOn es c σ (view_of es).walk → GoesOn (es ++ e ∷ []) c σ (after e (view_of es)).walk
goes_after es c σ (step.Publish d n r) k g = goes_anew (es ++ step.Publish d n r ∷ []) c σ (view_of es).walk
goes_after es c σ (step.Lock h None f) k g = tt
goes_after es c σ (step.Lock h (Some b) f) k g = goes_locked es c σ h b f (view_of es).walk g
goes_after es c σ (step.Unlock h spent) k g =
    goes_unlocked es c σ h (k h spent refl) spent (view_of es).walk refl g
goes_after es c σ (step.State τ) k g = goes_more es c σ (step.State τ) (λ a. refl) (view_of es).walk g
goes_after es c σ (step.Sleep w) k g = goes_more es c σ (step.Sleep w) (λ a. refl) (view_of es).walk g
goes_after es c σ (step.Wake who mask w) k g =
    goes_more es c σ (step.Wake who mask w) (λ a. refl) (view_of es).walk g
goes_after es c σ (step.Signal who fatal w) k g =
    goes_more es c σ (step.Signal who fatal w) (λ a. refl) (view_of es).walk g
goes_after es c σ (step.Accept w) k g = goes_more es c σ (step.Accept w) (λ a. refl) (view_of es).walk g
goes_after es c σ (step.Look w) k g = goes_more es c σ (step.Look w) (λ a. refl) (view_of es).walk g
goes_after es c σ (step.Saw x w) k g = goes_more es c σ (step.Saw x w) (λ a. refl) (view_of es).walk g
goes_after es c σ (step.Peek x w) k g = goes_more es c σ (step.Peek x w) (λ a. refl) (view_of es).walk g
goes_after es c σ (step.Scan h i w) k g = goes_more es c σ (step.Scan h i w) (λ a. refl) (view_of es).walk g
goes_after es c σ (step.Queue x d) k g = goes_more es c σ (step.Queue x d) (λ a. refl) (view_of es).walk g
goes_after es c σ (step.Unqueue x) k g = goes_more es c σ (step.Unqueue x) (λ a. refl) (view_of es).walk g
goes_after es c σ (step.Mark h q) k g = goes_more es c σ (step.Mark h q) (λ a. refl) (view_of es).walk g
goes_after es c σ step.Unmark k g = goes_more es c σ step.Unmark (λ a. refl) (view_of es).walk g
goes_after es c σ (step.Load l r) k g = goes_more es c σ (step.Load l r) (λ a. refl) (view_of es).walk g
goes_after es c σ (step.Consume d n r) k g = goes_more es c σ (step.Consume d n r) (λ a. refl) (view_of es).walk g
goes_after es c σ (step.Woken x) k g = goes_more es c σ (step.Woken x) (λ a. refl) (view_of es).walk g
goes_after es c σ (step.Unflag x o) k g = goes_more es c σ (step.Unflag x o) (λ a. refl) (view_of es).walk g
goes_after es c σ (step.Flag x w) k g = goes_more es c σ (step.Flag x w) (λ a. refl) (view_of es).walk g
goes_after es c σ (step.TasFor x p r) k g = goes_more es c σ (step.TasFor x p r) (λ a. refl) (view_of es).walk g
goes_after es c σ (step.Handed x) k g = goes_more es c σ (step.Handed x) (λ a. refl) (view_of es).walk g

goes_through : (front rest : List Step) (c : Watch) (σ : ℕ) → WalksLocked (front ++ rest)
    → GoesOn front c σ (view_of front).walk → GoesOn (front ++ rest) c σ (view_of (front ++ rest)).walk
goes_through front [] c σ k g = subst (λ (t : List Step). GoesOn t c σ (view_of t).walk) (sym (append-nil front)) g
goes_through front (e ∷ rest) c σ k g =
    let step_on = goes_after front c σ e (λ h spent is has. k front h spent rest
    (ap (λ (d : Step). front ++ d ∷ rest) is) has) g in
    subst (λ (t : List Step). GoesOn t c σ (view_of t).walk) (append_assoc front (e ∷ []) rest)
    (goes_through (front ++ e ∷ []) rest c σ
    (subst WalksLocked (sym (append_assoc front (e ∷ []) rest)) k)
    (subst (λ (v : View). GoesOn (front ++ e ∷ []) c σ v.walk) (sym (after_snoc blank front e)) step_on))

-- before the place at which a walk goes on, its holds have gone by
pub goes_on : (es : List Step) (c : Watch) (σ : ℕ) → WalksLocked es → GoesOn es c σ (view_of es).walk
goes_on es c σ k = goes_through [] es c σ k tt
