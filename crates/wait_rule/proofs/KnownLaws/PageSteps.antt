-- What a step that touches one entry word at most does to pages that are handed over.
use Rattle.std.proofs.lemmas.Bool.{both_ways}
use Rattle.std.proofs.Common.{refl, sym, ◌∙◌, ap, subst, inl, inr}
use Rattle.std.proofs.lemmas.Bool.Decides.{eqb_tells}
use Rattle.std.specs.Prelude.{ℕ, ◌≡◌, ◌≢◌, ◌⊎◌, Bool, true, false, ◌==◌, ◌||◌, if◌then◌else◌, Option, Some, None}
use Rattle.wait_model.specs.{declared.watches.Watch.Watch, declared.watches.Entry.Entry, declared.watches.Kind.Kind}
use Rattle.wait_model.specs.{declared.steps.Step.Step, Functions.put, Fold.after, Fold.after_unlock, Tables.Table}
use Rattle.wait_model.specs.Tables.{next}
use Rattle.wait_model.specs.Watches.{head_of, is_page, is_woken, owner}
use Rattle.wait_model.specs.Views.{View as Told, Walk, off, all_passed}
use Rattle.wait_model.proofs.Functions.{put_case, put_at, put_same, put_other, bool_or}
use Rattle.wait_rule.specs.Items.{Difference, nothing, Book, learn_step}
use Rattle.wait_rule.specs.Asked.{Asked, ask_step, waits_at, was_given_at}
use Rattle.wait_rule.specs.Pages.{uses_flag, taken_entry, IsAskedAt, IsHandedBy, IsPageState, ArePageStates}
use Rattle.wait_rule.proofs.KnownLaws.PageStates.{none_some, IsSameAt, hands_still, state_still}

pub some_same : (x y : ℕ) → ◌≡◌ {A = Option ℕ} (Some x) (Some y) → x ≡ y
some_same x y e = cc

pub not_both : {A : Type 0} (b : Bool) → b ≡ true → b ≡ false → A
not_both b t f = absurd (both_ways true (sym t ∙ f) refl)

pub no_entry : {A : Type 0} (o : Option Entry) (e : Entry) → o ≡ None → o ≡ Some e → A
no_entry o e n is = absurd (let z : ◌≡◌ {A = Option Entry} None (Some e) = sym n ∙ is in cc)

pub unflagged : (k : Kind) → uses_flag k ≡ false → is_page k ≡ false
unflagged k is = elim (bool_or (is_page k)) [
  | inl t ↦ not_both (uses_flag k) (ap (λ (b : Bool). b || is_woken k) t) is
  | inr f ↦ f
]

pub at_same : (x p : ℕ) → (if x == x then Some p else None) ≡ Some p
at_same x p = elim (eqb_tells x x) [
  | inl t ↦ ap (λ (b : Bool). if b then Some p else None) t.0
  | inr n ↦ absurd (n.1 refl)
]

pub takes_none : {A : Type 0} (d : Difference) (y : ℕ) → d ≡ nothing → taken_entry d ≡ Some y → A
takes_none d y n is = none_some y (sym (ap taken_entry n) ∙ is)

-- Task a makes step e, where the table, what tasks have yet to store and what they ask for are as before but for it.
module _ (s : Table) (a : ℕ) (e : Step) (b : Book) (differs : ℕ → Difference) (asked : ℕ → Asked)
    (same : differs a ≡ b.differs) (r : ArePageStates s differs asked) where
  abbrev pub z : Table
  z = next s a e

  abbrev pub V : Told
  V = after e (s.view a)

  abbrev pub D : ℕ → Difference
  D = put differs a (learn_step e b).differs

  abbrev pub K : ℕ → Asked
  K = put asked a (ask_step e (asked a))

  -- the step changes nothing of the page at index y
  abbrev pub Same : ℕ → Type 0
  Same y = IsSameAt s z differs D asked K y

  abbrev pub v : Difference
  v = (learn_step e b).differs

  -- the task's page to hand over stays as it was, with its head
  abbrev pub StaysAt : ℕ → Type 0
  StaysAt y = taken_entry b.differs ≡ Some y → (v ≡ b.differs) × (V.hold.head ≡ (s.view a).hold.head)

  pub hands_same : (y : ℕ) → StaysAt y → (d : ℕ) → taken_entry (differs d) ≡ Some y
      → (D d ≡ differs d) × ((z.view d).hold.head ≡ (s.view d).hold.head)
  hands_same y near d is = by (put_case differs a v d)
    where
      by : ((d ≡ a) × (D d ≡ v)) ⊎ ((d ≢ a) × (D d ≡ differs d))
          → (D d ≡ differs d) × ((z.view d).hold.head ≡ (s.view d).hold.head)
      by (inl q) =
          let n = near (sym (ap taken_entry (ap differs q.0 ∙ same)) ∙ is) in (
            q.1 ∙ (n.0 ∙ sym (ap differs q.0 ∙ same)),
            ap (λ (i : ℕ). (put s.view a V i).hold.head) q.0
                ∙ (ap (λ (w : Told). w.hold.head) (put_same s.view a V)
                ∙ (n.1 ∙ ap (λ (i : ℕ). (s.view i).hold.head) (sym q.0))),
          )
      by (inr q) = (q.1, ap (λ (w : Told). w.hold.head) (put_other s.view a V d q.0))

  -- what makes it so that the step changes nothing there
  pub same_at : (y : ℕ) → z.entry y ≡ s.entry y → z.taken y ≡ s.taken y
      → ((p : ℕ) → s.taken y ≡ Some p → s.done y ≡ true → z.done y ≡ true)
      → (owner y ≡ a → waits_at y (ask_step e (asked a)) ≡ waits_at y (asked a))
      → (owner y ≡ a → was_given_at y (ask_step e (asked a)) ≡ was_given_at y (asked a))
      → V.bits.stored y ≡ (s.view a).bits.stored y → StaysAt y → Same y
  same_at y entry taken done waits given stored near = record {
    entry = entry;
    taken = taken;
    done = done;
    waits = put_at (λ (k : Asked). waits_at y k ≡ waits_at y (asked (owner y))) asked a (ask_step e (asked a)) (owner y)
        (λ q. waits q ∙ ap (λ (i : ℕ). waits_at y (asked i)) (sym q)) (λ _. refl);
    given = put_at (λ (k : Asked). was_given_at y k ≡ was_given_at y (asked (owner y))) asked a (ask_step e (asked a)) (owner y)
        (λ q. given q ∙ ap (λ (i : ℕ). was_given_at y (asked i)) (sym q)) (λ _. refl);
    stored = put_at (λ (w : Told). w.bits.stored y ≡ (s.view (owner y)).bits.stored y) s.view a V (owner y)
        (λ q. stored ∙ ap (λ (i : ℕ). (s.view i).bits.stored y) (sym q)) (λ _. refl);
    hands = hands_same y near;
  }

  pub own_next : ((y p : ℕ) → IsAskedAt y p (ask_step e (asked a)) → owner y ≡ a) → (t y p : ℕ) → IsAskedAt y p (K t)
      → owner y ≡ t
  own_next mine t y p at = by (put_case asked a (ask_step e (asked a)) t)
    where
      by : ((t ≡ a) × (K t ≡ ask_step e (asked a))) ⊎ ((t ≢ a) × (K t ≡ asked t)) → owner y ≡ t
      by (inl q) = mine y p (subst (IsAskedAt y p) q.1 at) ∙ sym q.0
      by (inr q) = r.own t y p (subst (IsAskedAt y p) q.1 at)

  -- the page that the task has to hand over still
  pub mine_still : (y : ℕ) → Same y → taken_entry b.differs ≡ Some y → (p : ℕ) × IsHandedBy z v (K (owner y)) y p a
  mine_still y still is =
      let i = r.hands a y (ap taken_entry same ∙ is) in (
        i.0,
        subst (λ (d : Difference). IsHandedBy z d (K (owner y)) y i.0 a) (put_same differs a v)
            (hands_still s z differs D asked K y still i.0 a i.1),
      )

  abbrev pub IsMine : ℕ → Type 0
  IsMine y = (p : ℕ) × IsHandedBy z v (K (owner y)) y p a

  -- where the step touches one index at most, or none
  module _ (own : (y p : ℕ) → IsAskedAt y p (ask_step e (asked a)) → owner y ≡ a)
      (mine : (y : ℕ) → taken_entry v ≡ Some y → IsMine y) where
    pub hands_next : (others : (d y : ℕ) → d ≢ a → taken_entry (differs d) ≡ Some y → Same y) → (d y : ℕ) → taken_entry
        (D d) ≡ Some y
        → (p : ℕ) × IsHandedBy z (D d) (K (owner y)) y p d
    hands_next others d y is = by (put_case differs a v d)
      where
        by : ((d ≡ a) × (D d ≡ v)) ⊎ ((d ≢ a) × (D d ≡ differs d)) → (p : ℕ) × IsHandedBy z (D d) (K (owner y)) y p d
        by (inl q) =
            let m = mine y (sym (ap taken_entry q.1) ∙ is) in (
              m.0,
              subst (λ (i : ℕ). IsHandedBy z (D i) (K (owner y)) y m.0 i) (sym q.0)
                  (subst (λ (w : Difference). IsHandedBy z w (K (owner y)) y m.0 a) (sym (put_same differs a v)) m.1),
            )
        by (inr q) =
            let was : taken_entry (differs d) ≡ Some y = sym (ap taken_entry q.1) ∙ is in
            let i = r.hands d y was in
            (i.0, hands_still s z differs D asked K y (others d y q.0 was) i.0 d i.1)

    pub all_same : ((y : ℕ) → Same y) → ArePageStates z D K
    all_same still = record {
      each = λ y. state_still s z differs D asked K y (still y) (r.each y);
      own = own_next own;
      hands = hands_next (λ d y ne is. still y);
    }

    pub one_touched : (x : ℕ) → ((y : ℕ) → y ≢ x → Same y) → IsPageState z D K x
        → ((d p : ℕ) → d ≢ a → IsHandedBy s (differs d) (asked (owner x)) x p d → ⊥) → ArePageStates z D K
    one_touched x far here alone = record {
      each = λ y. each_by y (eqb_tells y x);
      own = own_next own;
      hands = hands_next (λ d y ne is. other_by d y ne is (eqb_tells y x));
    }
      where
        each_by : (y : ℕ) → (((y == x) ≡ true) × (y ≡ x)) ⊎ (((y == x) ≡ false) × (y ≢ x)) → IsPageState z D K y
        each_by y (inl q) = subst (IsPageState z D K) (sym q.1) here
        each_by y (inr q) = state_still s z differs D asked K y (far y q.1) (r.each y)

        other_by : (d y : ℕ) → d ≢ a → taken_entry (differs d) ≡ Some y
            → (((y == x) ≡ true) × (y ≡ x)) ⊎ (((y == x) ≡ false) × (y ≢ x)) → Same y
        other_by d y ne is (inl q) =
            let i = r.hands d x (is ∙ ap (λ (j : ℕ). Some j) q.1) in absurd (alone d i.0 ne i.1)
        other_by d y ne is (inr q) = far y q.1

  -- a step that changes nothing of any page
  pub quiet_pages : z.entry ≡ s.entry → z.taken ≡ s.taken
      → ((y p : ℕ) → s.taken y ≡ Some p → s.done y ≡ true → z.done y ≡ true) → ask_step e (asked a) ≡ asked a
      → V.bits.stored ≡ (s.view a).bits.stored → ((y : ℕ) → StaysAt y)
      → ((y : ℕ) → taken_entry v ≡ Some y → taken_entry b.differs ≡ Some y) → ArePageStates z D K
  quiet_pages entry taken done asks stored near new = all_same
      (λ y p at. r.own a y p (subst (IsAskedAt y p) asks at)) (λ y is. mine_still y (still y) (new y is)) still
    where
      still : (y : ℕ) → Same y
      still y = same_at y (ap (λ (f : ℕ → Option Entry). f y) entry) (ap (λ (f : ℕ → Option ℕ). f y) taken) (done y)
          (λ _. ap (waits_at y) asks) (λ _. ap (was_given_at y) asks) (ap (λ (f : ℕ → Option Entry). f y) stored) (near y)

  -- nobody else hands over the page of an entry whose head the task holds
  module _ (one : (x y h : ℕ) → (s.view x).hold.head ≡ Some h → (s.view y).hold.head ≡ Some h → x ≡ y)
      (x : ℕ) (entry : Entry) (is : s.entry x ≡ Some entry) (held : (s.view a).hold.head ≡ Some
      (head_of entry.watch)) where
    pub by_task : (d p : ℕ) (w : Difference) → IsHandedBy s w (asked (owner x)) x p d → d ≡ a
    by_task d p w i =
        let same_one : i.stands.entry ≡ entry = (let q : Some i.stands.entry ≡ Some entry = sym i.stands.is
        ∙ is in cc) in
        one d a (head_of entry.watch) (i.held ∙ ap (λ (c : Watch). Some (head_of c))
        (sym i.stands.watch ∙ ap (λ (f : Entry). f.watch) same_one)) held

    pub others_none : (d p : ℕ) → d ≢ a → IsHandedBy s (differs d) (asked (owner x)) x p d → ⊥
    others_none d p ne i = ne (by_task d p (differs d) i)

-- what the steps' lemmas know of the table
pub record IsSound (s : Table) : Type 0 where
  pub one : (x y h : ℕ) → (s.view x).hold.head ≡ Some h → (s.view y).hold.head ≡ Some h → x ≡ y
  pub stored : (x : ℕ) (e : Entry) → s.entry x ≡ Some e → (s.view (owner x)).bits.stored x ≡ Some e
  pub seen : (a h x : ℕ) → (s.view a).hold.head ≡ Some h → (s.view a).hold.book x ≡ off
      → (s.view a).bits.stored x ≡ None

pub unlock_stored : (v : Told) (o : Option Walk) (spent : Bool) → (after_unlock v o spent).bits.stored ≡ v.bits.stored
unlock_stored v None spent = refl
unlock_stored v (Some w) spent = by (spent || all_passed v w (λ _. false)) _ _ refl refl
  where
    by : (b : Bool) (y z : Told) → y.bits.stored ≡ v.bits.stored → z.bits.stored ≡ v.bits.stored
        → (if b then y else z).bits.stored ≡ v.bits.stored
    by true y z one two = one
    by false y z one two = two
