-- What a step tells of the page that its task asks for, and what stays of an entry word whose page nothing touches.
use Rattle.std.proofs.Common.{refl, sym, ◌∙◌, ap, subst, arith, inl, inr}
use Rattle.std.proofs.lemmas.Bool.Decides.{eqb_tells, nat_tests}
use Rattle.std.specs.Prelude.{ℕ, ◌≡◌, ◌≢◌, Bool, true, false, ◌==◌, if◌then◌else◌, Option, Some, None}
use Rattle.wait_model.specs.{declared.watches.Entry.Entry, Watches.owner, Tables.Table}
use Rattle.wait_rule.specs.Items.{Difference}
use Rattle.wait_rule.specs.Asked.{Asked, nothing_asked, waits_for, was_given, given_if, took_off, took_note, waits_at}
use Rattle.wait_rule.specs.Asked.{was_given_at}
use Rattle.wait_rule.specs.Pages.{taken_entry, told_entry, IsPageEntry, IsAskedAt, IsHandedBy, IsHandedOver, IsPageState}

pub none_some : {A : Type 0} (p : ℕ) → ◌≡◌ {A = Option ℕ} None (Some p) → A
none_some p e = absurd (cc)

off_test : (u y : ℕ) → u ≢ y → (u == y) ≡ false
off_test u y ne = grind (arith, nat_tests)

pub at_other : (u y p : ℕ) → u ≢ y → (if u == y then Some p else None) ≡ None
at_other u y p ne = ap (λ (t : Bool). if t then Some p else None) (off_test u y ne)

-- what a reading of a choice at one index tells of another one
by_test : (P : Asked → Option ℕ) (u x : ℕ) (new old : Asked) → (u ≡ x → P new ≡ P old)
    → P (if u == x then new else old) ≡ P old
by_test P u x new old is = elim (eqb_tells u x) [
  | inl q ↦ ap (λ (t : Bool). P (if t then new else old)) q.0 ∙ is q.1
  | inr q ↦ ap (λ (t : Bool). P (if t then new else old)) q.0
]

-- the index at which something stands
pub found_at : (u x q p : ℕ) → (if u == x then Some q else None) ≡ Some p → u ≡ x
found_at u x q p is = elim (eqb_tells u x) [
  | inl t ↦ t.1
  | inr t ↦ none_some p (sym (ap (λ (b : Bool). if b then Some q else None) t.0) ∙ is)
]

same_test : (u x : ℕ) → u ≡ x → (u == x) ≡ true
same_test u x e = grind (arith, nat_tests)

choose : {A : Type 0} (u x : ℕ) (new old : A) → u ≡ x → (if u == x then new else old) ≡ new
choose u x new old e = ap (λ (t : Bool). if t then new else old) (same_test u x e)

-- at other indexes than x
pub waits_given_far : (b : Bool) (x y : ℕ) (k : Asked) → y ≢ x → waits_at y (given_if b x k) ≡ waits_at y k
waits_given_far true x y (waits_for u p) ne = by_test (waits_at y) u x (was_given u p) (waits_for u p)
    (λ e. sym (at_other u y p (λ f. ne (sym f ∙ e))))
waits_given_far true x y nothing_asked ne = refl
waits_given_far true x y (was_given u p) ne = refl
waits_given_far false x y k ne = refl

pub given_given_far : (b : Bool) (x y : ℕ) (k : Asked) → y ≢ x → was_given_at y (given_if b x k) ≡ was_given_at y k
given_given_far true x y (waits_for u p) ne = by_test (was_given_at y) u x (was_given u p) (waits_for u p)
    (λ e. at_other u y p (λ f. ne (sym f ∙ e)))
given_given_far true x y nothing_asked ne = refl
given_given_far true x y (was_given u p) ne = refl
given_given_far false x y k ne = refl

pub waits_took_far : (x y : ℕ) (k : Asked) → y ≢ x → waits_at y (took_off x k) ≡ waits_at y k
waits_took_far x y (waits_for u p) ne = by_test (waits_at y) u x nothing_asked (waits_for u p)
    (λ e. sym (at_other u y p (λ f. ne (sym f ∙ e))))
waits_took_far x y nothing_asked ne = refl
waits_took_far x y (was_given u p) ne = refl

pub given_took : (x y : ℕ) (k : Asked) → was_given_at y (took_off x k) ≡ was_given_at y k
given_took x y (waits_for u p) = by_test (was_given_at y) u x nothing_asked (waits_for u p) (λ e. refl)
given_took x y nothing_asked = refl
given_took x y (was_given u p) = refl

pub given_note_far : (x y : ℕ) (k : Asked) → y ≢ x → was_given_at y (took_note x k) ≡ was_given_at y k
given_note_far x y (was_given u p) ne = by_test (was_given_at y) u x nothing_asked (was_given u p)
    (λ e. sym (at_other u y p (λ f. ne (sym f ∙ e))))
given_note_far x y nothing_asked ne = refl
given_note_far x y (waits_for u p) ne = refl

pub waits_note : (x y : ℕ) (k : Asked) → waits_at y (took_note x k) ≡ waits_at y k
waits_note x y (was_given u p) = by_test (waits_at y) u x nothing_asked (was_given u p) (λ e. refl)
waits_note x y nothing_asked = refl
waits_note x y (waits_for u p) = refl

-- at x itself
pub given_where_waited : (x p : ℕ) (k : Asked) → waits_at x k ≡ Some p → was_given_at x (given_if true x k) ≡ Some p
given_where_waited x p (waits_for u q) is =
    let here = found_at u x q p is in
    ap (was_given_at x) (choose u x (was_given u q) (waits_for u q) here) ∙ is
given_where_waited x p nothing_asked is = none_some p is
given_where_waited x p (was_given u q) is = none_some p is

pub given_nowhere : (b : Bool) (x : ℕ) (k : Asked) → waits_at x k ≡ None → given_if b x k ≡ k
given_nowhere true x (waits_for u q) is = elim (eqb_tells u x) [
  | inl t ↦ none_some q (sym is ∙ choose u x (Some q) None t.1)
  | inr t ↦ ap (λ (b : Bool). if b then was_given u q else waits_for u q) t.0
]
given_nowhere true x nothing_asked is = refl
given_nowhere true x (was_given u q) is = refl
given_nowhere false x k is = refl

pub waits_took : (x : ℕ) (k : Asked) → waits_at x (took_off x k) ≡ None
waits_took x (waits_for u q) = elim (eqb_tells u x) [
  | inl t ↦ ap (λ (b : Bool). waits_at x (if b then nothing_asked else waits_for u q)) t.0
  | inr t ↦ ap (λ (b : Bool). waits_at x (if b then nothing_asked else waits_for u q)) t.0 ∙ at_other u x q t.1
]
waits_took x nothing_asked = refl
waits_took x (was_given u q) = refl

pub given_note : (x : ℕ) (k : Asked) → was_given_at x (took_note x k) ≡ None
given_note x (was_given u q) = elim (eqb_tells u x) [
  | inl t ↦ ap (λ (b : Bool). was_given_at x (if b then nothing_asked else was_given u q)) t.0
  | inr t ↦ ap (λ (b : Bool). was_given_at x (if b then nothing_asked else was_given u q)) t.0 ∙ at_other u x q t.1
]
given_note x nothing_asked = refl
given_note x (waits_for u q) = refl

-- it asks for one page at most
pub waits_where_given : (x p : ℕ) (k : Asked) → was_given_at x k ≡ Some p → waits_at x k ≡ None
waits_where_given x p (was_given u r) g = refl
waits_where_given x p (waits_for u r) g = none_some p g
waits_where_given x p nothing_asked g = refl

pub given_where_waits : (x p : ℕ) (k : Asked) → waits_at x k ≡ Some p → was_given_at x k ≡ None
given_where_waits x p (waits_for u r) w = refl
given_where_waits x p (was_given u r) w = none_some p w
given_where_waits x p nothing_asked w = refl

-- a step by which a task finds a page given, takes its entry off or takes note of a page asks by no other entry
pub asked_given : (b : Bool) (x y p : ℕ) (k : Asked) → IsAskedAt y p (given_if b x k) → IsAskedAt y p k
asked_given true x y p (waits_for u q) at = elim (eqb_tells u x) [
  | inl t ↦ elim at [
    | inl w ↦ none_some p (sym (ap (λ (b : Bool). waits_at y (if b then was_given u q else waits_for u q)) t.0) ∙ w)
    | inr g ↦ inl (sym (ap (λ (b : Bool). was_given_at y (if b then was_given u q else waits_for u q)) t.0) ∙ g)
  ]
  | inr t ↦ subst (IsAskedAt y p) (ap (λ (b : Bool). if b then was_given u q else waits_for u q) t.0) at
]
asked_given true x y p nothing_asked at = at
asked_given true x y p (was_given u q) at = at
asked_given false x y p k at = at

pub asked_took : (x y p : ℕ) (k : Asked) → IsAskedAt y p (took_off x k) → IsAskedAt y p k
asked_took x y p (waits_for u q) at = elim (eqb_tells u x) [
  | inl t ↦ elim (subst (IsAskedAt y p) (ap (λ (b : Bool). if b then nothing_asked else waits_for u q) t.0) at) [
    | inl w ↦ none_some p w
    | inr g ↦ none_some p g
  ]
  | inr t ↦ subst (IsAskedAt y p) (ap (λ (b : Bool). if b then nothing_asked else waits_for u q) t.0) at
]
asked_took x y p nothing_asked at = at
asked_took x y p (was_given u q) at = at

pub asked_note : (x y p : ℕ) (k : Asked) → IsAskedAt y p (took_note x k) → IsAskedAt y p k
asked_note x y p (was_given u q) at = elim (eqb_tells u x) [
  | inl t ↦ elim (subst (IsAskedAt y p) (ap (λ (b : Bool). if b then nothing_asked else was_given u q) t.0) at) [
    | inl w ↦ none_some p w
    | inr g ↦ none_some p g
  ]
  | inr t ↦ subst (IsAskedAt y p) (ap (λ (b : Bool). if b then nothing_asked else was_given u q) t.0) at
]
asked_note x y p nothing_asked at = at
asked_note x y p (waits_for u q) at = at

-- nothing that tells of the page at index y changes
pub record IsSameAt (s z : Table) (differs after : ℕ → Difference) (asked now : ℕ → Asked) (y : ℕ) : Type 0 where
  pub entry : z.entry y ≡ s.entry y
  pub taken : z.taken y ≡ s.taken y
  pub done : (p : ℕ) → s.taken y ≡ Some p → s.done y ≡ true → z.done y ≡ true
  pub waits : waits_at y (now (owner y)) ≡ waits_at y (asked (owner y))
  pub given : was_given_at y (now (owner y)) ≡ was_given_at y (asked (owner y))
  pub stored : (z.view (owner y)).bits.stored y ≡ (s.view (owner y)).bits.stored y
  pub hands : (d : ℕ) → taken_entry (differs d) ≡ Some y
      → (after d ≡ differs d) × ((z.view d).hold.head ≡ (s.view d).hold.head)

module _ (s z : Table) (differs after : ℕ → Difference) (asked now : ℕ → Asked) (y : ℕ)
    (same : IsSameAt s z differs after asked now y) where
  asked_still : (p : ℕ) → IsAskedAt y p (asked (owner y)) → IsAskedAt y p (now (owner y))
  asked_still p (inl w) = inl (same.waits ∙ w)
  asked_still p (inr g) = inr (same.given ∙ g)

  pub hands_still : (p a : ℕ) → IsHandedBy s (differs a) (asked (owner y)) y p a
      → IsHandedBy z (after a) (now (owner y)) y p a
  hands_still p a i =
      let still = same.hands a i.takes in
      record {
        taken = same.taken ∙ i.taken;
        stands = subst (λ (o : Option Entry). IsPageEntry o p) (sym same.entry) i.stands;
        asked = asked_still p i.asked;
        own = λ mine. same.given ∙ i.own mine;
        takes = ap taken_entry still.0 ∙ i.takes;
        held = still.1 ∙ i.held;
        told = λ told. same.done p i.taken (i.told (sym (ap told_entry still.0) ∙ told));
      }

  over_still : (p : ℕ) → IsHandedOver s (asked (owner y)) y p → IsHandedOver z (now (owner y)) y p
  over_still p i = record {
    taken = same.taken ∙ i.taken;
    done = same.done p i.taken i.done;
    off = λ e is. i.off e (sym same.entry ∙ is);
    asked = elim i.asked [
      | inl w ↦ inl (same.waits ∙ w.0, subst (λ (o : Option Entry). IsPageEntry o p) (sym same.stored) w.1)
      | inr g ↦ inr (same.given ∙ g)
    ];
  }

  pub state_still : IsPageState s differs asked y → IsPageState z after now y
  state_still (inl i) = inl (record {
    taken = same.taken ∙ i.taken;
    none = λ e is. i.none e (sym same.entry ∙ is);
    waits = same.waits ∙ i.waits;
    given = same.given ∙ i.given;
  })
  state_still (inr (inl i)) = inr (inl (
    i.0,
    record {
      taken = same.taken ∙ i.1.taken;
      stands = subst (λ (o : Option Entry). IsPageEntry o i.0) (sym same.entry) i.1.stands;
      waits = same.waits ∙ i.1.waits;
    },
  ))
  state_still (inr (inr (inl i))) = inr (inr (inl (i.0, i.1, hands_still i.0 i.1 i.2)))
  state_still (inr (inr (inr i))) = inr (inr (inr (i.0, over_still i.0 i.1)))
