-- A flag that its task has cleared is set again for a page alone, unless an entry of kind Woken is queued there.
use Rattle.std.proofs.Common.{◌∙◌, ap, sym, refl, subst, inl, inr}
use Rattle.std.proofs.lemmas.Bool.Decides.{eqb_tells}
use Rattle.std.specs.Prelude.{ℕ, ◌≡◌, ◌≢◌, ◌⊎◌, ◌&&◌, ◌||◌, ◌==◌, not, Bool, true, false, if◌then◌else◌, Option, Some}
use Rattle.std.specs.Prelude.{None, List, [], ◌∷◌, ◌++◌}
use Rattle.wait_model.specs.{declared.steps.Step.Step, declared.watches.Entry.Entry, Facts.BitFacts, Functions.put}
use Rattle.wait_model.specs.{Rows.Allowed, Tables.Table, Tables.next, Watches.is_woken, Watches.owner, Words.entry_of}
use Rattle.wait_model.specs.Fold.{after, after_all, is_off, view_of}
use Rattle.wait_model.specs.Views.{View, Bits, blank}
use Rattle.wait_model.specs.declared.steps.Step.TheVariants as step
use Rattle.wait_model.proofs.Functions.{put_at, put_case, put_other, put_same}
use Rattle.wait_model.proofs.StepLaws.UnlockSteps.{unlock_bits}
use Rattle.wait_rule.specs.Items.{Book}
use Rattle.wait_rule.specs.Quiet.{AreQuiet, is_quiet_at, quiet_after, quiet_from}
use Rattle.wait_rule.proofs.KnownLaws.MemberSteps.{IsOrderly}

-- one history after another
pub quiet_append : (x : ℕ) (v : View) (b : Bool) (es fs : List Step)
    → quiet_from x v b (es ++ fs) ≡ quiet_from x (after_all v es) (quiet_from x v b es) fs
quiet_append x v b [] fs = refl
quiet_append x v b (e ∷ es) fs = quiet_append x (after e v) (quiet_after x v e b) es fs

pub quiet_more : (x : ℕ) (es fs : List Step)
    → is_quiet_at x (es ++ fs) ≡ quiet_from x (view_of es) (is_quiet_at x es) fs
quiet_more x es fs = quiet_append x blank true es fs

-- no entry of kind Woken is stored
abbrev IsUnheard : ℕ → View → Bool → Type 0
IsUnheard x v b = b ≡ true → (f : Entry) → v.bits.stored x ≡ Some f → is_woken f.kind ≡ false

abbrev NoneWoken : Option Entry → Type 0
NoneWoken o = (f : Entry) → o ≡ Some f → is_woken f.kind ≡ false

none_woken : NoneWoken None
none_woken f is = absurd (cc)

not_and : (w b : Bool) → (not w && b) ≡ true → w ≡ false
not_and false b is = refl
not_and true b is = absurd (cc)

and_right : (w b : Bool) → (not w && b) ≡ true → b ≡ true
and_right false b is = is
and_right true b is = absurd (cc)

module _ (x : ℕ) where
  queue_unheard : (v : View) (y : ℕ) (e : Entry) (b : Bool) → IsUnheard x v b
      → IsUnheard x (after (step.Queue y e) v) (quiet_after x v (step.Queue y e) b)
  queue_unheard v y e b inv = by (eqb_tells y x)
    where
      by : (((y == x) ≡ true) × (y ≡ x)) ⊎ (((y == x) ≡ false) × (y ≢ x))
          → IsUnheard x (after (step.Queue y e) v) (quiet_after x v (step.Queue y e) b)
      by (inl q) quiet f is =
          let here : put v.bits.stored y (Some e) x ≡ Some e =
          ap (put v.bits.stored y (Some e)) (sym q.1) ∙ put_same v.bits.stored y (Some e) in
          let both : Some e ≡ Some f = sym here ∙ is in
          let one : e ≡ f = cc in
          ap (λ (d : Entry). is_woken d.kind) (sym one) ∙ not_and (is_woken e.kind) b
          (ap (λ (s : Bool). if s then not (is_woken e.kind) && b else b) (sym q.0) ∙ quiet)
      by (inr q) quiet f is = inv (ap (λ (s : Bool). if s then not (is_woken e.kind) && b else b) (sym q.0) ∙ quiet) f
          (sym (put_other v.bits.stored y (Some e) x (λ same. q.1 (sym same))) ∙ is)

  or_off : (v : View) (b o : Bool) → is_off (v.bits.stored x) ≡ o → IsUnheard x v b → (b || o) ≡ true
      → NoneWoken (v.bits.stored x)
  or_off v true o is inv quiet = inv refl
  or_off v false true is inv quiet = λ f stored.
      let none : is_off (Some f) ≡ true = ap is_off (sym stored) ∙ is in absurd (cc)
  or_off v false false is inv quiet = absurd (cc)

  unflag_unheard : (v : View) (y : ℕ) (o : Option ℕ) (b : Bool) → IsUnheard x v b
      → IsUnheard x (after (step.Unflag y o) v) (quiet_after x v (step.Unflag y o) b)
  unflag_unheard v y o b inv quiet = by (y == x) quiet
    where
      by : (s : Bool) → (if s then b || is_off (v.bits.stored x) else b) ≡ true → NoneWoken (v.bits.stored x)
      by true q = or_off v b (is_off (v.bits.stored x)) refl inv q
      by false q = inv q

  off_unheard : (v : View) (y : ℕ) (b : Bool) → IsUnheard x v b → b ≡ true → NoneWoken (put v.bits.stored y None x)
  off_unheard v y b inv quiet = put_at NoneWoken v.bits.stored y None x (λ _. none_woken) (λ _. inv quiet)

  look_unheard : (v : View) (y : ℕ) (o : Option Entry) (b : Bool) → IsUnheard x v b → b ≡ true
      → NoneWoken ((if is_off o then put v.bits.stored y None else v.bits.stored) x)
  look_unheard v y None b inv quiet = off_unheard v y b inv quiet
  look_unheard v y (Some e) b inv quiet = inv quiet

  unlock_unheard : (v : View) (h : ℕ) (sp b : Bool) → IsUnheard x v b
      → IsUnheard x (after (step.Unlock h sp) v) b
  unlock_unheard v h sp b inv quiet = subst (λ (s : Bits). NoneWoken (s.stored x)) (sym (unlock_bits v v.walk sp))
      (inv quiet)

  step_unheard : (e : Step) (v : View) (b : Bool) → IsUnheard x v b → IsUnheard x (after e v) (quiet_after x v e b)
  step_unheard (step.Queue y e) v b inv = queue_unheard v y e b inv
  step_unheard (step.Unflag y o) v b inv = unflag_unheard v y o b inv
  step_unheard (step.Unqueue y) v b inv = off_unheard v y b inv
  step_unheard (step.Saw y w) v b inv = look_unheard v y (entry_of w) b inv
  step_unheard (step.Peek y w) v b inv = look_unheard v y (entry_of w) b inv
  step_unheard (step.Unlock h sp) v b inv = unlock_unheard v h sp b inv
  step_unheard e v b inv = inv

  from_unheard : (es : List Step) (v : View) (b : Bool) → IsUnheard x v b
      → IsUnheard x (after_all v es) (quiet_from x v b es)
  from_unheard [] v b inv = inv
  from_unheard (e ∷ es) v b inv = from_unheard es (after e v) (quiet_after x v e b) (step_unheard e v b inv)

  pub unheard : (es : List Step) → is_quiet_at x es ≡ true → NoneWoken ((view_of es).bits.stored x)
  unheard es = from_unheard es blank true (λ _. none_woken)

  -- where a step has made the task quiet it was so before, but for one that clears the flag
  abbrev Begins : Step → Type 0
  Begins e = (v : View) (b : Bool) → quiet_after x v e b ≡ true → b ≡ true

  queue_begins : (y : ℕ) (e : Entry) → Begins (step.Queue y e)
  queue_begins y e v b = by (y == x)
    where
      by : (s : Bool) → (if s then not (is_woken e.kind) && b else b) ≡ true → b ≡ true
      by true q = and_right (is_woken e.kind) b q
      by false q = q

  was_quiet : (s : Table) (a : ℕ) (e : Step) → Begins e → is_quiet_at x ((next s a e).history (owner x)) ≡ true
      → is_quiet_at x (s.history (owner x)) ≡ true
  was_quiet s a e begins = put_at (λ (h : List Step). is_quiet_at x h ≡ true → is_quiet_at x (s.history (owner x)) ≡ true)
      s.history a (s.history a ++ e ∷ []) (owner x)
      (λ here quiet. ap (λ (t : ℕ). is_quiet_at x (s.history t)) here
      ∙ begins (view_of (s.history a)) (is_quiet_at x (s.history a)) (sym (quiet_more x (s.history a) (e ∷ [])) ∙ quiet))
      (λ _ quiet. quiet)

  woken_quiet : (s : Table) (a y : ℕ) (b : Book) → Allowed s a (step.Woken y) → IsOrderly s a (step.Woken y) b
      → BitFacts s → ((t : ℕ) → s.view t ≡ view_of (s.history t)) → AreQuiet s
      → is_quiet_at x (s.history (owner x)) ≡ true → put s.flag y true x ≡ true → put s.done y false x ≡ true
  woken_quiet s a y b al orderly facts told r quiet = by (put_case s.flag y true x)
    where
      never : x ≡ y → put s.done y false x ≡ true
      never same =
          let stands : s.entry x ≡ Some al.0 = ap s.entry same ∙ al.1 in
          let stored : (view_of (s.history (owner x))).bits.stored x ≡ Some al.0 =
          ap (λ (v : View). v.bits.stored x) (sym (told (owner x))) ∙ facts.stored_is x al.0 stands in
          let none : is_woken al.0.kind ≡ false = unheard (s.history (owner x)) quiet al.0 stored in
          let is : is_woken al.0.kind ≡ true = ap is_woken (orderly.1 al.0 al.1) in absurd (cc)

      by : ((x ≡ y) × (put s.flag y true x ≡ true)) ⊎ ((x ≢ y) × (put s.flag y true x ≡ s.flag x))
          → put s.flag y true x ≡ true → put s.done y false x ≡ true
      by (inl q) flag = never q.0
      by (inr q) flag = put_other s.done y false x q.0 ∙ r x quiet (sym q.1 ∙ flag)

  handed_quiet : (s : Table) (y : ℕ) → (s.flag x ≡ true → s.done x ≡ true) → put s.flag y true x ≡ true
      → put s.done y true x ≡ true
  handed_quiet s y r = by (put_case s.flag y true x)
    where
      by : ((x ≡ y) × (put s.flag y true x ≡ true)) ⊎ ((x ≢ y) × (put s.flag y true x ≡ s.flag x))
          → put s.flag y true x ≡ true → put s.done y true x ≡ true
      by (inl q) flag = ap (put s.done y true) q.0 ∙ put_same s.done y true
      by (inr q) flag = put_other s.done y true x q.0 ∙ r (sym q.1 ∙ flag)

  unflag_quiet : (s : Table) (a y : ℕ) (o : Option ℕ) → AreQuiet s
      → is_quiet_at x ((next s a (step.Unflag y o)).history (owner x)) ≡ true → put s.flag y false x ≡ true
      → put s.done y false x ≡ true
  unflag_quiet s a y o r quiet = by (put_case s.flag y false x)
    where
      other : x ≢ y → Begins (step.Unflag y o)
      other ne v b = on (eqb_tells y x)
        where
          on : (((y == x) ≡ true) × (y ≡ x)) ⊎ (((y == x) ≡ false) × (y ≢ x))
              → (if y == x then b || is_off (v.bits.stored x) else b) ≡ true → b ≡ true
          on (inl q) is = absurd (ne (sym q.1))
          on (inr q) is = ap (λ (t : Bool). if t then b || is_off (v.bits.stored x) else b) (sym q.0) ∙ is

      by : ((x ≡ y) × (put s.flag y false x ≡ false)) ⊎ ((x ≢ y) × (put s.flag y false x ≡ s.flag x))
          → put s.flag y false x ≡ true → put s.done y false x ≡ true
      by (inl q) flag = let no : true ≡ false = sym flag ∙ q.1 in absurd (cc)
      by (inr q) flag = put_other s.done y false x q.0
          ∙ r x (was_quiet s a (step.Unflag y o) (other q.0) quiet) (sym q.1 ∙ flag)

-- each step keeps it
pub quiet_next : (s : Table) (a : ℕ) (e : Step) (b : Book) → Allowed s a e → IsOrderly s a e b → BitFacts s
    → ((t : ℕ) → s.view t ≡ view_of (s.history t)) → AreQuiet s → AreQuiet (next s a e)
quiet_next s a (step.Woken y) b al orderly facts told r x quiet =
    woken_quiet x s a y b al orderly facts told r (was_quiet x s a (step.Woken y) (λ v c is. is) quiet)
quiet_next s a (step.Handed y) b al orderly facts told r x quiet =
    handed_quiet x s y (r x (was_quiet x s a (step.Handed y) (λ v c is. is) quiet))
quiet_next s a (step.Unflag y o) b al orderly facts told r x quiet = unflag_quiet x s a y o r quiet
quiet_next s a (step.Queue y e) b al orderly facts told r x quiet =
    r x (was_quiet x s a (step.Queue y e) (queue_begins x y e) quiet)
quiet_next s a e b al orderly facts told r x quiet = r x (was_quiet x s a e (λ v c is. is) quiet)
