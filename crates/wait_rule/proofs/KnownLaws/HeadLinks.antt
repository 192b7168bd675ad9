-- What a step does to the heads and bookmarks that the lists tell of.
use Rattle.std.proofs.Common.{refl, sym, ◌∙◌, ap, subst, inl, inr}
use Rattle.std.specs.Prelude.{ℕ, ◌≡◌, ◌≢◌, ◌⊎◌, Bool, true, false, ◌==◌, if◌then◌else◌, Option, Some, None, List, []}
use Rattle.std.specs.Prelude.{◌∷◌, ◌++◌}
use mathlib.Core.Path.{fun_ext}
use Rattle.wait_model.specs.{declared.watches.Aim.Aim, declared.steps.Step.Step, Functions.put, Watches.mask_of}
use Rattle.wait_model.specs.Views.{View as Told}
use Rattle.wait_model.specs.Fold.{after, met_task, view_of}
use Rattle.wait_model.specs.Tables.{Table, next, word_step}
use Rattle.wait_model.specs.declared.steps.Step.TheVariants as step
use Rattle.wait_model.proofs.Functions.{put_case, put_at, put_same, put_other}
use Rattle.wait_rule.specs.{declared.journal.Item.Item, Items.steps_of, Members.MarkAgrees, Rule.AreLinked}
use Rattle.wait_rule.specs.Rule.{all_notes}
use Rattle.wait_rule.specs.Notes.{Notes, Glance, note_step, notes_after_wake, after_noted_call, after_telling, callee}
use Rattle.wait_rule.specs.Notes.{is_for_look, notes_of}
use Rattle.wait_rule.specs.declared.journal.Item.TheVariants as item
use Rattle.wait_rule.proofs.KnownLaws.AfterSteps.{notes_after}

-- two functions that are changed at one place
pub both_at : {A B : Type 0} (P : A → B → Type 0) (f : ℕ → A) (g : ℕ → B) (k : ℕ) (u : A) (v : B) (i : ℕ)
    → (i ≡ k → P u v) → (i ≢ k → P (f i) (g i)) → P (put f k u i) (put g k v i)
both_at P f g k u v i here there = put_at (λ x. P x (put g k v i)) f k u i
    (λ e. subst (P u) (sym (ap (put g k v) e ∙ put_same g k v)) (here e))
    (λ ne. subst (P (f i)) (sym (put_other g k v i ne)) (there ne))

-- a step that keeps what the lists tell of heads and bookmarks
abbrev pub KeepsLinks : Table → ℕ → Step → Type 0
KeepsLinks s a e = (notes : ℕ → Notes) → AreLinked s notes
    → AreLinked (next s a e) (put notes a (note_step a e (s.view a) (notes a)))

-- a step that changes none of them
pub record LinksNothing (s : Table) (a : ℕ) (e : Step) : Type 0 where
  pub holder : (word_step s a e).holder ≡ s.holder
  pub spent : (word_step s a e).spent ≡ s.spent
  pub mark : (word_step s a e).mark ≡ s.mark
  pub head : (v : Told) → (after e v).hold.head ≡ v.hold.head
  pub found : (v : Told) → (after e v).checks.found ≡ v.checks.found
  pub own : (v : Told) (k : Notes) → (note_step a e v k).own ≡ k.own
  pub marks : (v : Told) (k : Notes) → (note_step a e v k).marks ≡ k.marks

pub quiet_links : (s : Table) (a : ℕ) (e : Step) → LinksNothing s a e → KeepsLinks s a e
quiet_links s a e q notes r = record {
  holder = λ h held.
      let d = r.holder h (sym (ap (λ (f : ℕ → Bool). f h) q.holder) ∙ held) in (
        d.0,
        put_at (λ (v : Told). v.hold.head ≡ Some h) s.view a (after e (s.view a)) d.0
            (λ same. q.head (s.view a) ∙ (ap (λ (i : ℕ). (s.view i).hold.head) (sym same) ∙ d.1)) (λ _. d.1),
      );
  spent = λ d h. put_at (λ (v : Told). v.hold.head ≡ Some h → (word_step s a e).spent h ≡ v.checks.found h)
      s.view a (after e (s.view a)) d
      (λ same held. ap (λ (f : ℕ → ℕ). f h) q.spent ∙ (r.spent a h (sym (q.head (s.view a)) ∙ held)
      ∙ ap (λ (f : ℕ → ℕ). f h) (sym (q.found (s.view a)))))
      (λ _ held. ap (λ (f : ℕ → ℕ). f h) q.spent ∙ r.spent d h held);
  own = λ t. put_at (λ (k : Notes). (word_step s a e).mark t ≡ k.own) notes a (note_step a e (s.view a) (notes a)) t
      (λ same. ap (λ (f : ℕ → Option _). f t) q.mark ∙ (r.own t ∙ (ap (λ (i : ℕ). (notes i).own) same
      ∙ sym (q.own (s.view a) (notes a)))))
      (λ _. ap (λ (f : ℕ → Option _). f t) q.mark ∙ r.own t);
  shown = λ d h t. both_at (λ (v : Told) (k : Notes). v.hold.head ≡ Some h
      → MarkAgrees h (k.marks t) ((word_step s a e).mark t)) s.view notes a (after e (s.view a))
      (note_step a e (s.view a) (notes a)) d
      (λ same held. agree a h t (note_step a e (s.view a) (notes a)).marks (q.marks (s.view a) (notes a))
      (sym (q.head (s.view a)) ∙ held))
      (λ _ held. agree d h t (notes d).marks refl held);
}
  where
    agree : (d h t : ℕ) (m : ℕ → Glance) → m ≡ (notes d).marks → (s.view d).hold.head ≡ Some h
        → MarkAgrees h (m t) ((word_step s a e).mark t)
    agree d h t m is held = subst (λ (g : ℕ → Glance). MarkAgrees h (g t) ((word_step s a e).mark t)) (sym is)
        (subst (λ (f : ℕ → Option _). MarkAgrees h ((notes d).marks t) (f t)) (sym q.mark) (r.shown d h t held))

-- a wake tells nothing of bookmarks
pub call_own : (a : Aim) (x : Option ℕ) (met : Bool) (v : Told) (k : Notes) → (after_noted_call a x met v k).own ≡ k.own
call_own a None met v k = refl
call_own a (Some x) met v k = refl

pub call_marks : (a : Aim) (x : Option ℕ) (met : Bool) (v : Told) (k : Notes) → (after_noted_call a x met v k).marks ≡ k.marks
call_marks a None met v k = refl
call_marks a (Some x) met v k = refl

-- a reading of the notes that a noted call leaves stays over a wake, and over what tells a task of its page
module _ {A : Type 0} (f : Notes → A) (o : Option Aim) (v : Told) (k : Notes)
    (call : (a : Aim) (x : Option ℕ) (met : Bool) → f (after_noted_call a x met v k) ≡ f k) where
  noted_if : (a : Aim) (x : Option ℕ) (met b : Bool) → f (if b then after_noted_call a x met v k else k) ≡ f k
  noted_if a x met true = call a x met
  noted_if a x met false = refl

  wake_noted : (who mask : ℕ) (met : Bool) → f (notes_after_wake o who mask met v k) ≡ f k
  wake_noted who mask met = by o
    where
      by : (o : Option Aim) → f (notes_after_wake o who mask met v k) ≡ f k
      by None = refl
      by (Some a) = noted_if a (callee v k a.watch who) met (mask == mask_of a.mode)

  telling_noted : (x : ℕ) → f (after_telling o x v k) ≡ f k
  telling_noted x = by o
    where
      by : (o : Option Aim) → f (after_telling o x v k) ≡ f k
      by None = refl
      by (Some a) = noted_if a (Some x) true (is_for_look a.watch (v.hold.book x))

pub wake_own : (o : Option Aim) (who mask : ℕ) (met : Bool) (v : Told) (k : Notes)
    → (notes_after_wake o who mask met v k).own ≡ k.own
wake_own o who mask met v k = wake_noted (λ (n : Notes). n.own) o v k (λ a x m. call_own a x m v k) who mask met

pub wake_marks : (o : Option Aim) (who mask : ℕ) (met : Bool) (v : Told) (k : Notes)
    → (notes_after_wake o who mask met v k).marks ≡ k.marks
wake_marks o who mask met v k = wake_noted (λ (n : Notes). n.marks) o v k (λ a x m. call_marks a x m v k) who mask met

pub telling_own : (o : Option Aim) (x : ℕ) (v : Told) (k : Notes) → (after_telling o x v k).own ≡ k.own
telling_own o x v k = telling_noted (λ (n : Notes). n.own) o v k (λ a y m. call_own a y m v k) x

pub telling_marks : (o : Option Aim) (x : ℕ) (v : Told) (k : Notes) → (after_telling o x v k).marks ≡ k.marks
telling_marks o x v k = telling_noted (λ (n : Notes). n.marks) o v k (λ a y m. call_marks a y m v k) x

pub wake_links : (s : Table) (a who mask w : ℕ) → KeepsLinks s a (step.Wake who mask w)
wake_links s a who mask w = quiet_links s a (step.Wake who mask w) (record {
  holder = refl;
  spent = refl;
  mark = refl;
  head = λ v. refl;
  found = λ v. refl;
  own = λ v k. wake_own k.walk who mask (met_task mask w) v k;
  marks = λ v k. wake_marks k.walk who mask (met_task mask w) v k;
})

-- a step that is about no head and no bookmark, and wakes nobody and hands no page over
abbrev pub IsOffHeads : Step → Type 0
IsOffHeads (step.Lock h aim w) = ⊥
IsOffHeads (step.Unlock h spent) = ⊥
IsOffHeads (step.Wake who mask w) = ⊥
IsOffHeads (step.Mark h q) = ⊥
IsOffHeads step.Unmark = ⊥
IsOffHeads (step.Handed x) = ⊥
IsOffHeads _ = Unit {0}

pub off_links : (s : Table) (a : ℕ) (e : Step) → IsOffHeads e → KeepsLinks s a e
off_links s a e off = quiet_links s a e (by e off)
  where
    by : (e : Step) → IsOffHeads e → LinksNothing s a e
    by (step.Lock h aim w) off = absurd off
    by (step.Unlock h spent) off = absurd off
    by (step.Wake who mask w) off = absurd off
    by (step.Mark h q) off = absurd off
    by step.Unmark off = absurd off
    by (step.Handed x) off = absurd off
    by e off = record {
      holder = refl;
      spent = refl;
      mark = refl;
      head = λ v. refl;
      found = λ v. refl;
      own = λ v k. refl;
      marks = λ v k. refl;
    }

-- one more step in a list
pub noted_next : (items : ℕ → List Item) (a : ℕ) (e : Step) (v : Told) → v ≡ view_of (steps_of (items a))
    → all_notes (put items a (items a ++ item.Made e ∷ []))
    ≡ put (all_notes items) a (note_step a e v (notes_of a (items a)))
noted_next items a e v is = fun_ext (λ t. by t (put_case items a (items a ++ item.Made e ∷ []) t))
  where
    by : (t : ℕ) → ((t ≡ a) × (put items a (items a ++ item.Made e ∷ []) t ≡ items a ++ item.Made e ∷ []))
        ⊎ ((t ≢ a) × (put items a (items a ++ item.Made e ∷ []) t ≡ items t))
        → notes_of t (put items a (items a ++ item.Made e ∷ []) t)
        ≡ put (all_notes items) a (note_step a e v (notes_of a (items a))) t
    by t (inl q) = ap (notes_of t) q.1 ∙ (ap (λ (i : ℕ). notes_of i (items a ++ item.Made e ∷ [])) q.0
        ∙ (notes_after a (items a) (item.Made e)
        ∙ (ap (λ (u : Told). note_step a e u (notes_of a (items a))) (sym is)
        ∙ sym (ap (put (all_notes items) a (note_step a e v (notes_of a (items a)))) q.0
        ∙ put_same (all_notes items) a (note_step a e v (notes_of a (items a)))))))
    by t (inr q) = ap (notes_of t) q.1
        ∙ sym (put_other (all_notes items) a (note_step a e v (notes_of a (items a))) t q.0)

-- other items in a list
pub noted_seen : (items : ℕ → List Item) (a : ℕ) (xs : List Item)
    → all_notes (put items a (items a ++ xs)) ≡ put (all_notes items) a (notes_of a (items a ++ xs))
noted_seen items a xs = fun_ext (λ t. by t (put_case items a (items a ++ xs) t))
  where
    by : (t : ℕ) → ((t ≡ a) × (put items a (items a ++ xs) t ≡ items a ++ xs))
        ⊎ ((t ≢ a) × (put items a (items a ++ xs) t ≡ items t))
        → notes_of t (put items a (items a ++ xs) t) ≡ put (all_notes items) a (notes_of a (items a ++ xs)) t
    by t (inl q) = ap (notes_of t) q.1 ∙ (ap (λ (i : ℕ). notes_of i (items a ++ xs)) q.0
        ∙ sym (ap (put (all_notes items) a (notes_of a (items a ++ xs))) q.0
        ∙ put_same (all_notes items) a (notes_of a (items a ++ xs))))
    by t (inr q) = ap (notes_of t) q.1 ∙ sym (put_other (all_notes items) a (notes_of a (items a ++ xs)) t q.0)

-- items that tell nothing of bookmarks
pub same_links : (s : Table) (items : ℕ → List Item) (a : ℕ) (xs : List Item)
    → notes_of a (items a ++ xs) ≡ notes_of a (items a) → AreLinked s (all_notes items)
    → AreLinked s (put (all_notes items) a (notes_of a (items a ++ xs)))
same_links s items a xs same r = subst (AreLinked s) (fun_ext (λ t. sym (put_at
    (λ (k : Notes). k ≡ all_notes items t) (all_notes items) a (notes_of a (items a ++ xs)) t
    (λ q. same ∙ ap (all_notes items) (sym q)) (λ _. refl)))) r
