-- What a hold's book shows of an entry word is what the hold's last step on it tells.
use Rattle.std.proofs.lemmas.Option.{none-some}
use Rattle.std.proofs.Common.{refl, sym, ◌∙◌, ap, subst, arith, inl, inr}
use Rattle.std.specs.Prelude.{ℕ, zero, suc, ◌≡◌, ◌<◌, ◌⊎◌, Some, None, Bool, true, false, ◌&&◌, List, [], ◌∷◌, ◌++◌}
use Rattle.wait_model.specs.{declared.layout.TheConstants.ENTRIES, declared.watches.Watch.Watch}
use Rattle.wait_model.specs.{declared.steps.Step.Step, Words.entry_of, Walks.WalkHold, Walks.tells}
use Rattle.wait_model.specs.Views.{View, Walk, Hold, blank, Look, unseen, off, shown, passed, all_below, all_passed}
use Rattle.wait_model.specs.Views.{all_cleared, look_at}
use Rattle.wait_model.specs.Fold.{after, after_all, view_of}
use Rattle.wait_model.specs.Histories.{Lacks, Since, takes_any_lock, turns_lock}
use Rattle.wait_model.specs.declared.steps.Step.TheVariants as step
use Rattle.wait_model.proofs.{StepLaws.PastEntries.all_below_at, StepLaws.UnlockSteps.unlock_hold}
use Rattle.wait_model.proofs.HistoryLaws.CalledEntries.{hold_view}
use Rattle.wait_model.proofs.HistoryLaws.Stretches.{after_append, lacks_left, lacks_right, since_behind, since_first}

-- what a step of a hold of h leaves in the book
unfoldable pub look_of : ℕ → Step → Look
look_of h (step.Saw y w) = look_at (Some h) (entry_of w)
look_of h (step.Queue y e) = shown e
look_of h (step.Unqueue y) = off
look_of h _ = unseen

head_kept : (e : Step) (v : View) → turns_lock e ≡ false → (after e v).hold.head ≡ v.hold.head
head_kept (step.Lock i aim w) v t = absurd (cc)
head_kept (step.Unlock i sp) v t = absurd (cc)
head_kept e v t = refl

book_kept : (e : Step) (v : View) (x : ℕ) → turns_lock e ≡ false → tells x e ≡ false
    → (after e v).hold.book x ≡ v.hold.book x
book_kept (step.Lock i aim w) v x t n = absurd (cc)
book_kept (step.Unlock i sp) v x t n = absurd (cc)
book_kept e v x t n = cc

book_set : (e : Step) (v : View) (h x : ℕ) → v.hold.head ≡ Some h → tells x e ≡ true
    → (after e v).hold.book x ≡ look_of h e
unfolding look_of
book_set (step.Saw y w) v h x is n = rw (n, is) refl
book_set (step.Queue y e) v h x is n = rw n refl
book_set (step.Unqueue y) v h x is n = rw n refl
book_set e v h x is n = absurd (cc)

heads_kept : (es : List Step) (v : View) → Lacks turns_lock es → (after_all v es).hold.head ≡ v.hold.head
heads_kept [] v l = refl
heads_kept (e ∷ es) v l = heads_kept es (after e v) l.1 ∙ head_kept e v l.0

books_kept : (es : List Step) (v : View) (x : ℕ) → Lacks turns_lock es → Lacks (tells x) es
    → (after_all v es).hold.book x ≡ v.hold.book x
books_kept [] v x l n = refl
books_kept (e ∷ es) v x l n = books_kept es (after e v) x l.1 n.1 ∙ book_kept e v x l.0 n.0

-- the last step that is so, or none
last_in : (is : Step → Bool) (es : List Step) → Since is is es ⊎ Lacks is es
last_in is [] = inr tt
last_in is (e ∷ es) = by (last_in is es) (is e) refl
  where
    by : Since is is es ⊎ Lacks is es → (b : Bool) → is e ≡ b
        → Since is is (e ∷ es) ⊎ Lacks is (e ∷ es)
    by (inl s) b h = inl (since_behind e s)
    by (inr n) true h = inl (since_first e es h n)
    by (inr n) false h = inr (h, n)

-- who holds a head by the view took its lock by the history, and has not given it back
pub lock_held : (es : List Step) (h : ℕ) → (view_of es).hold.head ≡ Some h → Since takes_any_lock turns_lock es
lock_held es h held = by (last_in turns_lock es)
  where
    kept : (s : Since turns_lock turns_lock es) → (view_of es).hold.head ≡ (after s.it (view_of s.earlier)).hold.head
    kept s = ap (λ (t : List Step). (view_of t).hold.head) s.split
        ∙ ap (λ (v : View). v.hold.head) (after_append blank s.earlier (s.it ∷ s.later))
        ∙ heads_kept s.later (after s.it (view_of s.earlier)) s.none_since

    last : (it : Step) (earlier later : List Step) → es ≡ earlier ++ it ∷ later → turns_lock it ≡ true
        → Lacks turns_lock later → (view_of es).hold.head ≡ (after it (view_of earlier)).hold.head
        → Since takes_any_lock turns_lock es
    last (step.Lock i aim w) earlier later split t none is = record {
      earlier = earlier;
      it = step.Lock i aim w;
      later = later;
      split = split;
      passes = refl;
      none_since = none;
    }
    last (step.Unlock i sp) earlier later split t none is =
        absurd (let z : None ≡ Some h = sym (is ∙ ap (λ (k : Hold). k.head)
        (unlock_hold (view_of earlier) (view_of earlier).walk sp)) ∙ held in cc)
    last e earlier later split t none is = absurd (cc)

    by : Since turns_lock turns_lock es ⊎ Lacks turns_lock es → Since takes_any_lock turns_lock es
    by (inl s) = last s.it s.earlier s.later s.split s.passes s.none_since (kept s)
    by (inr n) = absurd (none-some h (sym (heads_kept es blank n) ∙ held))

-- the last step that tells of an entry word, or none
pub telling : (es : List Step) (x : ℕ) → Since (tells x) (tells x) es ⊎ Lacks (tells x) es
telling es x = last_in (tells x) es

book_in : (es : List Step) (v : View) (h x : ℕ) → v.hold.head ≡ Some h → Lacks turns_lock es
    → (s : Since (tells x) (tells x) es) → (after_all v es).hold.book x ≡ look_of h s.it
book_in es v h x is l s =
    ap (λ (t : List Step). (after_all v t).hold.book x) s.split
    ∙ ap (λ (u : View). u.hold.book x) (after_append v s.earlier (s.it ∷ s.later))
    ∙ books_kept s.later (after s.it (after_all v s.earlier)) x (all.1) s.none_since
    ∙ book_set s.it (after_all v s.earlier) h x
    (heads_kept s.earlier v (lacks_left turns_lock s.earlier (s.it ∷ s.later) (subst (Lacks turns_lock) s.split l))
    ∙ is)
    s.passes
  where
    all : Lacks turns_lock (s.it ∷ s.later)
    all = lacks_right turns_lock s.earlier (s.it ∷ s.later) (subst (Lacks turns_lock) s.split l)

-- in a hold of a walk the book tells what the hold's last such step showed
pub hold_book : (es : List Step) (c : Watch) (σ : ℕ) (k : WalkHold es c σ) (x : ℕ)
    → (s : Since (tells x) (tells x) k.inside) → (view_of es).hold.book x ≡ look_of k.head s.it
hold_book es c σ k x s = ap (λ (v : View). v.hold.book x) (hold_view es c σ k)
    ∙ book_in k.inside (after (step.Lock k.head (Some k.aim) k.found) (view_of k.before)) k.head x refl
    k.within s

-- and nothing where it made none
pub hold_unseen : (es : List Step) (c : Watch) (σ : ℕ) (k : WalkHold es c σ) (x : ℕ)
    → Lacks (tells x) k.inside → (view_of es).hold.book x ≡ unseen
hold_unseen es c σ k x n = ap (λ (v : View). v.hold.book x) (hold_view es c σ k)
    ∙ books_kept k.inside (after (step.Lock k.head (Some k.aim) k.found) (view_of k.before)) x k.within n

-- tests of all entry words
all_below_of : (n : ℕ) (p : ℕ → Bool) → ((x : ℕ) → x < n → p x ≡ true) → all_below n p ≡ true
unfolding all_below
all_below_of zero p h = refl
all_below_of (suc n) p h = by (all_below_of n p (λ x lt. h x (omega (arith, lt)))) (h n (omega arith))
  where
    by : all_below n p ≡ true → p n ≡ true → (p n && all_below n p) ≡ true
    by a b = rw b a

pub all_passed_of : (v : View) (w : Walk) (stop : ℕ → Bool)
    → ((x : ℕ) → x < ENTRIES → passed w v stop (v.hold.book x) x ≡ true) → all_passed v w stop ≡ true
unfolding all_passed
all_passed_of v w stop h = all_below_of ENTRIES (λ x. passed w v stop (v.hold.book x) x) h

pub all_cleared_of : (f : ℕ → Bool) → ((x : ℕ) → x < ENTRIES → f x ≡ true) → all_cleared f ≡ true
unfolding all_cleared
all_cleared_of f h = all_below_of ENTRIES f h

pub stopped_at : (v : View) (w : Walk) (stop : ℕ → Bool) (x : ℕ) → all_passed v w stop ≡ true → x < ENTRIES
    → passed w v stop (v.hold.book x) x ≡ true
unfolding all_passed
stopped_at v w stop x h lt = all_below_at ENTRIES (λ i. passed w v stop (v.hold.book i) i) x h lt

pub passed_at : (v : View) (w : Walk) (x : ℕ) → all_passed v w (λ _. false) ≡ true → x < ENTRIES
    → passed w v (λ _. false) (v.hold.book x) x ≡ true
unfolding all_passed
passed_at v w x h lt = all_below_at ENTRIES (λ i. passed w v (λ _. false) (v.hold.book i) i) x h lt

pub cleared_at : (f : ℕ → Bool) (x : ℕ) → all_cleared f ≡ true → x < ENTRIES → f x ≡ true
unfolding all_cleared
cleared_at f x h lt = all_below_at ENTRIES f x h lt
