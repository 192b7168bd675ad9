-- Steps of one task in a row, and the looks at all entry words after a lock.
use Rattle.std.proofs.lemmas.Bool.Decides.{eqb_tells}
use Rattle.std.proofs.Common.{refl, sym, ◌∙◌, ap, arith, inl, inr}
use Rattle.std.specs.Prelude.{ℕ, zero, suc, ◌≡◌, ◌≢◌, ◌<◌, ◌≤◌, ◌⊎◌, Option, true, false, ◌==◌, List, [], ◌∷◌, ◌++◌}
use Rattle.wait_model.specs.{declared.layout.TheConstants.ENTRIES, declared.watches.Entry.Entry}
use Rattle.wait_model.specs.{declared.steps.Step.Step, Runs.looks_below, Runs.looks, Facts.Kept, Words.entry_word}
use Rattle.wait_model.specs.{Words.entry_of, Functions.put, Rows.AllAllowed}
use Rattle.wait_model.specs.Views.{View, blank, look_at}
use Rattle.wait_model.specs.Fold.{after, after_all, view_of}
use Rattle.wait_model.specs.Tables.{Table, next, steps}
use Rattle.wait_model.proofs.StepLaws.KeptLaws.{step_keeps}
use Rattle.wait_model.proofs.Functions.{put_case, put_same, put_other}
use Rattle.wait_model.specs.declared.steps.Step.TheVariants as step

-- one more step at the end of a history
pub after_snoc : (v : View) (es : List Step) (e : Step)
    → after_all v (es ++ e ∷ []) ≡ after e (after_all v es)
after_snoc v [] e = refl
after_snoc v (d ∷ es) e = after_snoc (after d v) es e

-- each task's view is that of its history
abbrev pub IsLookTold : Table → Type 0
IsLookTold t = (a : ℕ) → t.view a ≡ view_of (t.history a)

pub told_next : (t : Table) (a : ℕ) (e : Step) → IsLookTold t → IsLookTold (next t a e)
told_next t a e h b = by (put_case t.view a (after e (t.view a)) b)
    (put_case t.history a (t.history a ++ e ∷ []) b)
  where
    by : ((b ≡ a) × (put t.view a (after e (t.view a)) b ≡ after e (t.view a)))
        ⊎ ((b ≢ a) × (put t.view a (after e (t.view a)) b ≡ t.view b))
        → ((b ≡ a) × (put t.history a (t.history a ++ e ∷ []) b ≡ t.history a ++ e ∷ []))
        ⊎ ((b ≢ a) × (put t.history a (t.history a ++ e ∷ []) b ≡ t.history b))
        → put t.view a (after e (t.view a)) b ≡ view_of (put t.history a (t.history a ++ e ∷ []) b)
    by (inl q) (inl r) = q.1 ∙ ap (after e) (h a) ∙ sym (after_snoc blank (t.history a) e)
        ∙ ap view_of (sym r.1)
    by (inl q) (inr r) = absurd (r.0 q.0)
    by (inr q) (inl r) = absurd (q.0 r.0)
    by (inr q) (inr r) = q.1 ∙ h b ∙ ap view_of (sym r.1)

pub steps_own : (t : Table) (a : ℕ) (es : List Step) → (steps t a es).view a ≡ after_all (t.view a) es
steps_own t a [] = refl
steps_own t a (e ∷ es) = steps_own (next t a e) a es
    ∙ ap (λ (v : View). after_all v es) (put_same t.view a (after e (t.view a)))

pub steps_other : (t : Table) (a b : ℕ) (es : List Step) → b ≢ a → (steps t a es).view b ≡ t.view b
steps_other t a b [] ne = refl
steps_other t a b (e ∷ es) ne = steps_other (next t a e) a b es ne
    ∙ put_other t.view a (after e (t.view a)) b ne

pub steps_keep : (t : Table) (a : ℕ) (es : List Step) → Kept t → AllAllowed t a es → Kept (steps t a es)
steps_keep t a [] k al = k
steps_keep t a (e ∷ es) k al = steps_keep (next t a e) a es (step_keeps t a e k al.0) al.1

-- the words of two tables are the same
pub record SameWords (t u : Table) : Type 0 where
  pub task : t.task ≡ u.task
  pub entry : t.entry ≡ u.entry
  pub mark : t.mark ≡ u.mark
  pub flag : t.flag ≡ u.flag
  pub done : t.done ≡ u.done
  pub taken : t.taken ≡ u.taken
  pub holder : t.holder ≡ u.holder
  pub spent : t.spent ≡ u.spent
  pub words : t.words ≡ u.words

pub same_words : (t : Table) → SameWords t t
same_words t = record {
  task = refl;
  entry = refl;
  mark = refl;
  flag = refl;
  done = refl;
  taken = refl;
  holder = refl;
  spent = refl;
  words = refl;
}

-- a step that changes no word, before others that change none
pub same_through : (u t : Table) (history : ℕ → List Step) (view : ℕ → View)
    → SameWords u (record t { history = history; view = view }) → SameWords u t
same_through u t history view r = record {
  task = r.task;
  entry = r.entry;
  mark = r.mark;
  flag = r.flag;
  done = r.done;
  taken = r.taken;
  holder = r.holder;
  spent = r.spent;
  words = r.words;
}

looks_same_below : (f : ℕ → Option Entry) (n : ℕ) (t : Table) (a : ℕ)
    → SameWords (steps t a (looks_below f n)) t
looks_same_below f zero t a = same_words t
looks_same_below f (suc n) t a = same_through _ t _ _
    (looks_same_below f n (next t a (step.Saw n (entry_word (f n)))) a)

pub looks_same : (t : Table) (f : ℕ → Option Entry) (a : ℕ) → SameWords (steps t a (looks f)) t
unfolding looks
looks_same t f a = looks_same_below f ENTRIES t a

-- every entry word shows the entry
abbrev pub AllRead : (ℕ → Option Entry) → Type 0
AllRead f = (x : ℕ) → entry_of (entry_word (f x)) ≡ f x

looks_allowed_below : (f : ℕ → Option Entry) (n : ℕ) (t : Table) (a : ℕ) → AllRead f → t.entry ≡ f
    → AllAllowed t a (looks_below f n)
looks_allowed_below f zero t a r e = tt
looks_allowed_below f (suc n) t a r e = (
  r n ∙ ap (λ (g : ℕ → Option Entry). g n) (sym e),
  looks_allowed_below f n (next t a (step.Saw n (entry_word (f n)))) a r e,
)

pub looks_allowed : (t : Table) (a : ℕ) (f : ℕ → Option Entry) → AllRead f → t.entry ≡ f
    → AllAllowed t a (looks f)
unfolding looks
looks_allowed t a f r e = looks_allowed_below f ENTRIES t a r e

looks_head_below : (f : ℕ → Option Entry) (n : ℕ) (v : View)
    → (after_all v (looks_below f n)).hold.head ≡ v.hold.head
looks_head_below f zero v = refl
looks_head_below f (suc n) v = looks_head_below f n (after (step.Saw n (entry_word (f n))) v)

pub looks_head : (f : ℕ → Option Entry) (v : View) → (after_all v (looks f)).hold.head ≡ v.hold.head
unfolding looks
looks_head f v = looks_head_below f ENTRIES v

looks_above : (f : ℕ → Option Entry) (n x : ℕ) (v : View) → n ≤ x
    → (after_all v (looks_below f n)).hold.book x ≡ v.hold.book x
looks_above f zero x v le = refl
looks_above f (suc n) x v le =
    looks_above f n x (after (step.Saw n (entry_word (f n))) v) (omega arith)
    ∙ put_other v.hold.book n (look_at v.hold.head (entry_of (entry_word (f n)))) x
    (λ e. absurd (omega arith))

looks_book_below : (f : ℕ → Option Entry) (n x : ℕ) (v : View) → x < n → AllRead f
    → (after_all v (looks_below f n)).hold.book x ≡ look_at v.hold.head (f x)
looks_book_below f zero x v lt r = absurd (omega arith)
looks_book_below f (suc n) x v lt r =
    by_place (eqb_tells x n) (λ below. looks_book_below f n x (after (step.Saw n (entry_word (f n))) v) below
    r)
  where
    by_place : (((x == n) ≡ true) × (x ≡ n)) ⊎ (((x == n) ≡ false) × (x ≢ n))
        → (x < n → (after_all (after (step.Saw n (entry_word (f n))) v) (looks_below f n)).hold.book x ≡
        look_at v.hold.head (f x))
        → (after_all (after (step.Saw n (entry_word (f n))) v) (looks_below f n)).hold.book x ≡ look_at
        v.hold.head (f x)
    by_place (inl q) ih =
        looks_above f n x (after (step.Saw n (entry_word (f n))) v) (omega (arith, q.1))
        ∙ ap (λ (i : ℕ). put v.hold.book n (look_at v.hold.head (entry_of (entry_word (f n)))) i) q.1
        ∙ put_same v.hold.book n (look_at v.hold.head (entry_of (entry_word (f n))))
        ∙ ap (look_at v.hold.head) (r n ∙ ap f (sym q.1))
    by_place (inr q) ih = ih (let ne : x ≢ n = q.1 in omega arith)

pub looks_book : (f : ℕ → Option Entry) (x : ℕ) (v : View) → x < ENTRIES → AllRead f
    → (after_all v (looks f)).hold.book x ≡ look_at v.hold.head (f x)
unfolding looks
looks_book f x v lt r = looks_book_below f ENTRIES x v lt r
