-- The facts on pages that walks took for tasks, step by step.
use Rattle.std.proofs.lemmas.Option.{none-some}
use Rattle.std.proofs.Common.{refl, sym, ◌∙◌, ap, subst, arith, inl, inr}
use Rattle.std.specs.Prelude.{ℕ, ◌≡◌, ◌≢◌, ◌⊎◌, Option, Some, None, Bool, true, false, cond, ◌&&◌, ◌||◌}
use Rattle.wait_model.specs.{declared.watches.Watch.Watch, declared.steps.Step.Step, Functions.put, Views.View}
use Rattle.wait_model.specs.{Views.Bits, Fold.after, Fold.takes_note, Rows.Allowed, Facts.PageFacts, Facts.Kept}
use Rattle.wait_model.specs.Watches.{same, is_bit, was_clear, page}
use Rattle.wait_model.specs.Tables.{Table, Words, met, publish, consume, next}
use Rattle.wait_model.specs.declared.steps.Step.TheVariants as step
use Rattle.wait_model.proofs.{Functions.put_case, Functions.put_at, StepLaws.UnlockSteps.unlock_bits}
use Rattle.wait_model.proofs.{BitLaws.BitRecords.kept_by_none, BitLaws.BitSteps.tas_found}
use Rattle.wait_model.proofs.Sameness.{same_refl, same_bit_is, publish_other, consume_sets_none, tas_unmet}

-- what is not so
not_true : (b : Bool) → (b ≡ true → ⊥) → b ≡ false
not_true true h = absurd (h refl)
not_true false h = refl

-- a consume sets no watch, so what is not set stays so
still_unmet : (w : Words) (c d : Watch) (n : ℕ) → (met (consume w c n) d ≡ true → met w d ≡ true)
    → met w d ≡ false → met (consume w c n) d ≡ false
still_unmet w c d n back q = not_true (met (consume w c n) d) (λ r. let z : met w d ≡ true = back r in cc)

-- a step that changes no page that was taken: the page is set after it, and the stepping task comes to keep it only
-- where it was clear
module _ (s : Table) (a : ℕ) (ev : Step) (k : Kept s) (taken : (next s a ev).taken ≡ s.taken)
    (set : (x p : ℕ) → s.taken x ≡ Some p → met (next s a ev).words (page p) ≡ false)
    (keeps : (p : ℕ) → (after ev (s.view a)).bits.keeps (page p) ≡ true
    → ((s.view a).bits.keeps (page p) ≡ true) ⊎ (met s.words (page p) ≡ true)) where
  was : (x p : ℕ) → (next s a ev).taken x ≡ Some p → s.taken x ≡ Some p
  was x p h = subst (λ (f : ℕ → Option ℕ). f x ≡ Some p) taken h

  is : (x p : ℕ) → s.taken x ≡ Some p → (next s a ev).taken x ≡ Some p
  is x p h = subst (λ (f : ℕ → Option ℕ). f x ≡ Some p) (sym taken) h

  own : (x p : ℕ) → s.taken x ≡ Some p → (after ev (s.view a)).bits.keeps (page p) ≡ false
  own x p t = not_true ((after ev (s.view a)).bits.keeps (page p)) (λ h. elim (keeps p h) [
    | inl o ↦ let u : (s.view a).bits.keeps (page p) ≡ false = k.pages.unkept x p a t in cc
    | inr m ↦ let u : met s.words (page p) ≡ false = k.pages.set x p t in cc
  ])

  pub still_with : ((x : ℕ) → (next s a ev).done x ≡ true
      → ((next s a ev).flag x ≡ true) × ((p : ℕ) × (s.taken x ≡ Some p))) → PageFacts (next s a ev)
  still_with done = record {
    set = λ x p t. set x p (was x p t);
    unkept = λ x p b t. put_at (λ (v : View). v.bits.keeps (page p) ≡ false) s.view a (after ev (s.view a)) b
        (λ _. own x p (was x p t)) (λ _. k.pages.unkept x p b (was x p t));
    one = λ x y p t u. k.pages.one x y p (was x p t) (was y p u);
    done = λ x h. ((done x h).0, ((done x h).1.0, is x (done x h).1.0 (done x h).1.1));
  }

-- a step that changes no word of a bit, no flag and no page
still_pages : (s : Table) (a : ℕ) (ev : Step) (k : Kept s) → ((next s a ev).taken ≡ s.taken)
    → ((next s a ev).done ≡ s.done) → ((next s a ev).flag ≡ s.flag) → ((next s a ev).words ≡ s.words)
    → ((after ev (s.view a)).bits.keeps ≡ (s.view a).bits.keeps) → PageFacts (next s a ev)
still_pages s a ev k taken done flag words keeps = still_with s a ev k taken
    (λ x p t. subst (λ (w : Words). met w (page p) ≡ false) (sym words) (k.pages.set x p t))
    (λ p h. inl (subst (λ (f : Watch → Bool). f (page p) ≡ true) keeps h))
    (λ x h. let d : s.done x ≡ true = subst (λ (f : ℕ → Bool). f x ≡ true) done h in
    (subst (λ (f : ℕ → Bool). f x ≡ true) (sym flag) (k.pages.done x d).0, (k.pages.done x d).1))

-- a store in a flag word that leaves no DONE
undone : (s : Table) (y : ℕ) (b : Bool) (x : ℕ) → Kept s → put s.done y false x ≡ true
    → (put s.flag y b x ≡ true) × ((p : ℕ) × (s.taken x ≡ Some p))
undone s y b x k h = elim (put_case s.done y false x) [
  | inl q ↦ absurd (cc (q.1))
  | inr q ↦ let d : s.done x ≡ true = sym q.1 ∙ h in (
    put_at (λ f. f ≡ true) s.flag y b x (λ e. absurd (q.0 e)) (λ _. (k.pages.done x d).0),
    (k.pages.done x d).1,
  )
]

publish_pages : (s : Table) (a : ℕ) (c : Watch) (n r : ℕ) → Kept s → Allowed s a (step.Publish c n r)
    → PageFacts (next s a (step.Publish c n r))
publish_pages s a c n r k al = still_with s a (step.Publish c n r) k refl
    (λ x p t. go x p t (same (page p) c) refl) (λ p h. inl (grind arith)) (λ x h. k.pages.done x h)
  where
    go : (x p : ℕ) → s.taken x ≡ Some p → (b : Bool) → same (page p) c ≡ b
        → met (publish s.words c n) (page p) ≡ false
    go x p t true q = let is : page p ≡ c = same_bit_is (page p) c refl q in
        let kept : (s.view a).bits.keeps c ≡ true = (al.1 (ap is_bit (sym is))).1 in
        let not_kept : (s.view a).bits.keeps c ≡ false =
        subst (λ (d : Watch). (s.view a).bits.keeps d ≡ false) is (k.pages.unkept x p a t) in absurd (cc)
    go x p t false q = publish_other s.words (page p) c n q ∙ k.pages.set x p t

consume_pages : (s : Table) (a : ℕ) (c : Watch) (n r : ℕ) → Kept s → Allowed s a (step.Consume c n r)
    → PageFacts (next s a (step.Consume c n r))
consume_pages s a c n r k al = still_with s a (step.Consume c n r) k refl
    (λ x p t. still_unmet s.words c (page p) n (consume_sets_none s.words (page p) c n al.0) (k.pages.set x p t))
    (λ p h. keeper p h (is_bit c && (was_clear c r && same (page p) c)) refl) (λ x h. k.pages.done x h)
  where
    keeper : (p : ℕ) → ((s.view a).bits.keeps (page p) || (is_bit c && (was_clear c r && same (page p) c))) ≡ true
        → (b : Bool) → (is_bit c && (was_clear c r && same (page p) c)) ≡ b
        → ((s.view a).bits.keeps (page p) ≡ true) ⊎ (met s.words (page p) ≡ true)
    keeper p h true q = inr (tas_found s.words c (page p) r al.2 (grind arith) (grind arith) (grind arith))
    keeper p h false q = inl (grind arith)

-- a page that is tried for the owner of entry y, and was found clear
module _ (s : Table) (a y p r : ℕ) (k : Kept s) (al : Allowed s a (step.TasFor y p r))
    (clear : was_clear (page p) r ≡ true) where
  was_met : met s.words (page p) ≡ true
  was_met = tas_found s.words (page p) (page p) r al.1 refl clear (same_refl (page p))

  -- a page that is taken now was taken before for another entry, or is this one
  by_taken : (x q : ℕ) → put s.taken y (Some p) x ≡ Some q → ((x ≡ y) × (q ≡ p)) ⊎ ((x ≢ y) × (s.taken x ≡ Some q))
  by_taken x q h = elim (put_case s.taken y (Some p) x) [
    | inl e ↦ inl (e.0, (let z : Some p ≡ Some q = sym e.1 ∙ h in cc))
    | inr e ↦ inr (e.0, sym e.1 ∙ h)
  ]

  not_two : (x : ℕ) → s.taken x ≡ Some p → ⊥
  not_two x t = let u : met s.words (page p) ≡ false = k.pages.set x p t in let m = was_met in cc

  taken_pages : PageFacts (record (next s a (step.TasFor y p r)) { taken = put s.taken y (Some p) })
  taken_pages = record {
    set = λ x q h. elim (by_taken x q h) [
      | inl e ↦ subst (λ (i : ℕ). met (consume s.words (page p) 1) (page i) ≡ false) (sym e.1)
          (tas_unmet s.words (page p) (page p) 1 refl (same_refl (page p)))
      | inr e ↦ still_unmet s.words (page p) (page q) 1 (consume_sets_none s.words (page q) (page p) 1 tt)
          (k.pages.set x q e.1)
    ];
    unkept = λ x q b h. elim (by_taken x q h) [
      | inl e ↦ subst (λ (i : ℕ). ((next s a (step.TasFor y p r)).view b).bits.keeps (page i) ≡ false) (sym e.1)
          (same_keeps b p (kept_by_none s (page p) k.facts refl was_met b))
      | inr e ↦ same_keeps b q (k.pages.unkept x q b e.1)
    ];
    one = λ x z q h i. elim (by_taken x q h) [
      | inl e ↦ elim (by_taken z q i) [
        | inl f ↦ e.0 ∙ sym f.0
        | inr f ↦ absurd (not_two z (subst (λ (j : ℕ). s.taken z ≡ Some j) e.1 f.1))
      ]
      | inr e ↦ elim (by_taken z q i) [
        | inl f ↦ absurd (not_two x (subst (λ (j : ℕ). s.taken x ≡ Some j) f.1 e.1))
        | inr f ↦ k.pages.one x z q e.1 f.1
      ]
    ];
    done = λ x d. (
      (k.pages.done x d).0,
      (
        (k.pages.done x d).1.0,
        put_at (λ o. o ≡ Some (k.pages.done x d).1.0) s.taken y (Some p) x
            (λ e. absurd (let z : s.taken x ≡ s.taken y = ap s.taken e in
            let t : s.taken x ≡ Some (k.pages.done x d).1.0 = (k.pages.done x d).1.1 in
            let n : s.taken y ≡ None = al.2 in cc)) (λ _. (k.pages.done x d).1.1),
      ),
    );
  }
    where
      same_keeps : (b q : ℕ) → (s.view b).bits.keeps (page q) ≡ false
          → ((next s a (step.TasFor y p r)).view b).bits.keeps (page q) ≡ false
      same_keeps b q h = put_at (λ (v : View). v.bits.keeps (page q) ≡ false) s.view a
          (after (step.TasFor y p r) (s.view a)) b
          (λ e. subst (λ (i : ℕ). (s.view i).bits.keeps (page q) ≡ false) e h) (λ _. h)

tas_for_pages : (s : Table) (a y p r : ℕ) → Kept s → Allowed s a (step.TasFor y p r)
    → PageFacts (next s a (step.TasFor y p r))
tas_for_pages s a y p r k al = by (was_clear (page p) r) refl
  where
    by : (b : Bool) → was_clear (page p) r ≡ b → PageFacts (next s a (step.TasFor y p r))
    by true q = subst (λ (f : ℕ → Option ℕ). PageFacts (record (next s a (step.TasFor y p r)) { taken = f }))
        (ap (λ (c : Bool). cond c (put s.taken y (Some p)) s.taken) (sym q)) (taken_pages s a y p r k al q)
    by false q = still_with s a (step.TasFor y p r) k
        (ap (λ (c : Bool). cond c (put s.taken y (Some p)) s.taken) q)
        (λ x d t. still_unmet s.words (page p) (page d) 1 (consume_sets_none s.words (page d) (page p) 1 tt)
        (k.pages.set x d t)) (λ d h. inl h) (λ x h. k.pages.done x h)

handed_pages : (s : Table) (a y : ℕ) → Kept s → Allowed s a (step.Handed y)
    → PageFacts (next s a (step.Handed y))
handed_pages s a y k al = still_with s a (step.Handed y) k refl k.pages.set (λ p h. inl h)
    (λ x h. elim (put_case s.done y true x) [
      | inl q ↦ (
        put_at (λ f. f ≡ true) s.flag y true x (λ _. refl) (λ ne. absurd (ne q.0)),
        (al.1.0, ap s.taken q.0 ∙ al.1.1),
      )
      | inr q ↦ let d : s.done x ≡ true = sym q.1 ∙ h in (
        put_at (λ f. f ≡ true) s.flag y true x (λ _. refl) (λ _. (k.pages.done x d).0),
        (k.pages.done x d).1,
      )
    ])

unflag_pages : (s : Table) (a y : ℕ) (o : Option ℕ) → Kept s → Allowed s a (step.Unflag y o)
    → PageFacts (next s a (step.Unflag y o))
unflag_pages s a y o k al = record {
  set = λ x q h. k.pages.set x q (was x q h).1;
  unkept = λ x q b h. put_at (λ (v : View). v.bits.keeps (page q) ≡ false) s.view a
      (after (step.Unflag y o) (s.view a)) b
      (λ _. other o x q al.1 (was x q h) (takes_note o (page q)) refl) (λ _. k.pages.unkept x q b (was x q h).1);
  one = λ x z q h i. k.pages.one x z q (was x q h).1 (was z q i).1;
  done = λ x h. let d = undone s y false x k h in (
    d.0,
    (
      d.1.0,
      put_at (λ o. o ≡ Some d.1.0) s.taken y None x
          (λ e. absurd (put_at (λ f. f ≡ true → ⊥) s.done y false x (λ _ f. cc) (λ ne. absurd (ne e)) h))
          (λ _. d.1.1),
    ),
  );
}
  where
    was : (x q : ℕ) → put s.taken y None x ≡ Some q → (x ≢ y) × (s.taken x ≡ Some q)
    was x q h = elim (put_case s.taken y None x) [
      | inl e ↦ absurd (none-some q (sym e.1 ∙ h))
      | inr e ↦ (e.0, sym e.1 ∙ h)
    ]

    other : (o : Option ℕ) (x q : ℕ) → s.taken y ≡ o → (x ≢ y) × (s.taken x ≡ Some q) → (b : Bool)
        → takes_note o (page q) ≡ b → ((s.view a).bits.keeps (page q) || takes_note o (page q)) ≡ false
    other o x q is t false e = let u : (s.view a).bits.keeps (page q) ≡ false = k.pages.unkept x q a t.1 in
        grind arith
    other None x q is t true e = absurd (cc)
    other (Some p) x q is t true e = let pq : q ≡ p = grind arith in
        absurd (t.0 (k.pages.one x y p (subst (λ (i : ℕ). s.taken x ≡ Some i) pq t.1) is))

pub pages_next : (s : Table) (a : ℕ) (e : Step) → Kept s → Allowed s a e → PageFacts (next s a e)
pages_next s a (step.Unlock h sp) k al = still_pages s a (step.Unlock h sp) k refl refl refl refl
    (ap (λ (b : Bits). b.keeps) (unlock_bits (s.view a) (s.view a).walk sp))
pages_next s a (step.Publish c n r) k al = publish_pages s a c n r k al
pages_next s a (step.Consume c n r) k al = consume_pages s a c n r k al
pages_next s a (step.Woken y) k al = still_with s a (step.Woken y) k refl k.pages.set (λ p h. inl h)
    (λ x h. undone s y true x k h)
pages_next s a (step.Unflag y o) k al = unflag_pages s a y o k al
pages_next s a (step.TasFor y p r) k al = tas_for_pages s a y p r k al
pages_next s a (step.Handed y) k al = handed_pages s a y k al
pages_next s a e k al = still_pages s a e k refl refl refl refl refl
