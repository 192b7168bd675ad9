-- What a step does to pages that are handed over: entries that are queued and taken off, and all steps.
use Rattle.std.proofs.Common.{refl, sym, ◌∙◌, ap, subst, inl, inr}
use Rattle.std.specs.Prelude.{ℕ, ◌≡◌, ◌≢◌, ◌⊎◌, Bool, true, false, ◌||◌, if◌then◌else◌, Option, Some, None}
use Rattle.wait_model.specs.{declared.watches.Entry.Entry, declared.steps.Step.Step, Functions.put, Tasks.task_of}
use Rattle.wait_model.specs.{Tasks.sleep_of, Views.View as Told, Tables.Table, Tables.next, Rows.Allowed}
use Rattle.wait_model.specs.Watches.{head_of, is_page, is_woken, owner, word_of}
use Rattle.wait_model.specs.Fold.{after, is_off, forgotten}
use Rattle.wait_model.specs.declared.steps.Step.TheVariants as step
use Rattle.wait_model.proofs.Functions.{put_case, put_same, put_other, bool_or}
use Rattle.wait_rule.specs.Items.{Difference, nothing, Book, learn_step}
use Rattle.wait_rule.specs.Asked.{Asked, waits_for, given_if, took_off, ask_step, waits_at, was_given_at}
use Rattle.wait_rule.specs.Pages.{uses_flag, taken_entry, told_entry, IsPageEntry, IsAskedAt, IsPageAtRest}
use Rattle.wait_rule.specs.Pages.{IsWaitingFor, IsHandedBy, IsHandedOver, IsPageState, ArePageStates}
use Rattle.wait_rule.proofs.KnownLaws.PageStates.{none_some, at_other, found_at, waits_took_far, given_took, waits_took}
use Rattle.wait_rule.proofs.KnownLaws.PageStates.{given_where_waits, asked_took, IsSameAt}
use Rattle.wait_rule.proofs.KnownLaws.MemberSteps.{asleep_differs, AsksNone, MayAsk, IsOrderly}
use Rattle.wait_rule.proofs.KnownLaws.PageSteps.{some_same, not_both, no_entry, unflagged, at_same, unlock_stored}
use Rattle.wait_rule.proofs.KnownLaws.PageSteps.{IsSound, same_at, quiet_pages, one_touched, by_task, others_none}
use Rattle.wait_rule.proofs.KnownLaws.HandedPages.{clear_stays, free_stays, woken_pages, handed_pages, tried_pages}
use Rattle.wait_rule.proofs.KnownLaws.HandedPages.{unflag_pages, looked_pages}

module _ (s : Table) (a : ℕ) (b : Book) (differs : ℕ → Difference) (asked : ℕ → Asked)
    (same : differs a ≡ b.differs) (r : ArePageStates s differs asked) (sound : IsSound s) where
  -- an entry is queued: one for a page by a task that asks for none
  queue_pages : (x : ℕ) (f : Entry) → Allowed s a (step.Queue x f) → b.differs ≡ nothing → MayAsk s a f
      → ArePageStates (next s a (step.Queue x f)) (put differs a (learn_step (step.Queue x f) b).differs)
      (put asked a (ask_step (step.Queue x f) (asked a)))
  queue_pages x f may clear asks = by (is_page f.kind) refl
    where
      e : Step
      e = step.Queue x f

      z : Table
      z = next s a e

      D : ℕ → Difference
      D = put differs a (learn_step e b).differs

      now : Asked
      now = if is_page f.kind then waits_for x (word_of f.watch) else asked a

      K : ℕ → Asked
      K = put asked a now

      gone : {A : Type 0} (p : ℕ) → IsPageEntry (s.entry x) p → A
      gone p i = no_entry (s.entry x) i.entry may.2 i.is

      -- a task that asks for no page waits by no other entry
      none_at : (y : ℕ) → AsksNone s a → owner y ≡ a → (waits_at y (asked a) ≡ None) × (was_given_at y (asked a) ≡ None)
      none_at y n mine = by_state (r.each y)
        where
          at_own : {A : Type 0} (P : A → Type 0) (g : Asked → A) → P (g (asked (owner y))) → P (g (asked a))
          at_own P g = subst (λ (i : ℕ). P (g (asked i))) mine

          by_state : IsPageState s differs asked y → (waits_at y (asked a) ≡ None) × (was_given_at y (asked a) ≡ None)
          by_state (inl i) = (
            ap (λ (j : ℕ). waits_at y (asked j)) (sym mine) ∙ i.waits,
            ap (λ (j : ℕ). was_given_at y (asked j)) (sym mine) ∙ i.given,
          )
          by_state (inr (inl i)) = not_both (is_page i.1.stands.entry.kind) i.1.stands.kind
              (n.none y i.1.stands.entry mine i.1.stands.is)
          by_state (inr (inr (inl i))) = none_some i.0 (sym (n.taken y mine) ∙ i.2.taken)
          by_state (inr (inr (inr i))) = none_some i.0 (sym (n.taken y mine) ∙ i.1.taken)

      mine : (y : ℕ) → taken_entry (learn_step e b).differs ≡ Some y
          → (p : ℕ) × IsHandedBy z (learn_step e b).differs (K (owner y)) y p a
      mine y at = none_some y at

      alone : (d p : ℕ) → d ≢ a → IsHandedBy s (differs d) (asked (owner x)) x p d → ⊥
      alone d p ne i = gone p i.stands

      asks_now : K (owner x) ≡ now
      asks_now = ap K may.0 ∙ put_same asked a now

      far_with : ((y : ℕ) → y ≢ x → owner y ≡ a → waits_at y now ≡ waits_at y (asked a))
          → ((y : ℕ) → y ≢ x → owner y ≡ a → was_given_at y now ≡ was_given_at y (asked a)) → (y : ℕ) → y ≢ x
          → IsSameAt s z differs D asked K y
      far_with waits given y ne = same_at s a e b differs asked same r y (put_other s.entry x (Some f) y ne) refl
          (λ p t d. d) (waits y ne) (given y ne) (put_other (s.view a).bits.stored x (Some f) y ne)
          (λ is. clear_stays s a b differs asked same r sound y clear is)

      by : (c : Bool) → is_page f.kind ≡ c → ArePageStates z D K
      by true q = one_touched s a e b differs asked same r own mine x (far_with waits_far given_far)
          (inr (inl (word_of f.watch, here))) alone
        where
          n : AsksNone s a
          n = asks.asks_none (ap (λ (t : Bool). t || is_woken f.kind) q)

          waits_now : now ≡ waits_for x (word_of f.watch)
          waits_now = ap (λ (t : Bool). if t then waits_for x (word_of f.watch) else asked a) q

          own : (y p : ℕ) → IsAskedAt y p now → owner y ≡ a
          own y p at = elim (subst (IsAskedAt y p) waits_now at) [
            | inl w ↦ ap owner (sym (found_at x y (word_of f.watch) p w)) ∙ may.0
            | inr g ↦ none_some p g
          ]

          waits_far : (y : ℕ) → y ≢ x → owner y ≡ a → waits_at y now ≡ waits_at y (asked a)
          waits_far y ne its = ap (waits_at y) waits_now ∙ (at_other x y (word_of f.watch) (λ i. ne (sym i))
              ∙ sym (none_at y n its).0)

          given_far : (y : ℕ) → y ≢ x → owner y ≡ a → was_given_at y now ≡ was_given_at y (asked a)
          given_far y ne its = ap (was_given_at y) waits_now ∙ sym (none_at y n its).1

          here : IsWaitingFor z (K (owner x)) x (word_of f.watch)
          here = record {
            taken = n.taken x may.0;
            stands = record { entry = f; is = put_same s.entry x (Some f); kind = q; watch = asks.watch q };
            waits = ap (waits_at x) (asks_now ∙ waits_now) ∙ at_same x (word_of f.watch);
          }
      by false q = one_touched s a e b differs asked same r (λ y p at. r.own a y p (subst (IsAskedAt y p) kept at)) mine
          x (far_with (λ y ne its. ap (waits_at y) kept) (λ y ne its. ap (was_given_at y) kept)) (here (r.each x)) alone
        where
          kept : now ≡ asked a
          kept = ap (λ (t : Bool). if t then waits_for x (word_of f.watch) else asked a) q

          asks_same : K (owner x) ≡ asked (owner x)
          asks_same = asks_now ∙ (kept ∙ ap asked (sym may.0))

          entry_now : (g : Entry) → z.entry x ≡ Some g → f ≡ g
          entry_now g is = let z : Some f ≡ Some g = sym (put_same s.entry x (Some f)) ∙ is in cc

          flagged_none : (p : ℕ) → s.taken x ≡ Some p → uses_flag f.kind ≡ false
          flagged_none p t = elim (bool_or (uses_flag f.kind)) [
            | inl u ↦ none_some p (sym ((asks.asks_none u).taken x may.0) ∙ t)
            | inr u ↦ u
          ]

          over : (p : ℕ) → IsHandedOver s (asked (owner x)) x p → IsHandedOver z (K (owner x)) x p
          over p i = record {
            taken = i.taken;
            done = i.done;
            off = λ g is. subst (λ (c : Entry). uses_flag c.kind ≡ false) (entry_now g is) (flagged_none p i.taken);
            asked = elim i.asked [
              | inl w ↦ no_entry ((s.view a).bits.stored x) w.1.entry (sound.seen a (head_of f.watch) x may.3 may.5)
                  (ap (λ (j : ℕ). (s.view j).bits.stored x) (sym may.0) ∙ w.1.is)
              | inr g ↦ inr (ap (was_given_at x) asks_same ∙ g)
            ];
          }

          here : IsPageState s differs asked x → IsPageState z D K x
          here (inl i) = inl (record {
            taken = i.taken;
            none = λ g is. subst (λ (c : Entry). is_page c.kind ≡ false) (entry_now g is) q;
            waits = ap (waits_at x) asks_same ∙ i.waits;
            given = ap (was_given_at x) asks_same ∙ i.given;
          })
          here (inr (inl i)) = gone i.0 i.1.stands
          here (inr (inr (inl i))) = gone i.0 i.2.stands
          here (inr (inr (inr i))) = inr (inr (inr (i.0, over i.0 i.1)))

  -- an entry is taken off: one for a page by its own task, or once its task was told that the page was taken for it
  unqueue_pages : (x : ℕ) → Allowed s a (step.Unqueue x) → IsOrderly s a (step.Unqueue x) b
      → ArePageStates (next s a (step.Unqueue x)) (put differs a (learn_step (step.Unqueue x) b).differs)
      (put asked a (took_off x (asked a)))
  unqueue_pages x may clear = one_touched s a e b differs asked same r
      (λ y p at. r.own a y p (asked_took x y p (asked a) at)) (λ y at. none_some y at) x far (here (r.each x))
      (λ d p ne. others_none s a e b differs asked same r sound.one x may.0 may.1 may.2 d p ne)
    where
      e : Step
      e = step.Unqueue x

      z : Table
      z = next s a e

      D : ℕ → Difference
      D = put differs a (learn_step e b).differs

      K : ℕ → Asked
      K = put asked a (took_off x (asked a))

      gone : {A : Type 0} (f : Entry) → z.entry x ≡ Some f → A
      gone f is = no_entry (z.entry x) f (put_same s.entry x None) is

      near : (y : ℕ) → y ≢ x → {A : Type 0} → taken_entry b.differs ≡ Some y → A
      near y ne is = elim clear.0 [
        | inl n ↦ clear_stays s a b differs asked same r sound y n.0 is
        | inr t ↦ absurd (ne (some_same y x (sym is ∙ ap taken_entry t)))
      ]

      far : (y : ℕ) → y ≢ x → IsSameAt s z differs D asked K y
      far y ne = same_at s a e b differs asked same r y (put_other s.entry x None y ne) refl (λ p t d. d)
          (λ _. waits_took_far x y (asked a) ne) (λ _. given_took x y (asked a))
          (put_other (s.view a).bits.stored x None y ne) (λ is. near y ne is)

      Asks : Type 0
      Asks = ((owner x ≡ a) × (K (owner x) ≡ took_off x (asked a))) ⊎ ((owner x ≢ a) × (K (owner x) ≡ asked (owner x)))

      asks : Asks
      asks = put_case asked a (took_off x (asked a)) (owner x)

      given_same : (k : Asks) → was_given_at x (K (owner x)) ≡ was_given_at x (asked (owner x))
      given_same (inl m) = ap (was_given_at x) m.1
          ∙ (given_took x x (asked a) ∙ ap (λ (j : ℕ). was_given_at x (asked j)) (sym m.0))
      given_same (inr m) = ap (was_given_at x) m.1

      waits_none : (k : Asks) → waits_at x (asked (owner x)) ≡ None → waits_at x (K (owner x)) ≡ None
      waits_none (inl m) was = ap (waits_at x) m.1 ∙ waits_took x (asked a)
      waits_none (inr m) was = ap (waits_at x) m.1 ∙ was

      same_entry : (f : Entry) → s.entry x ≡ Some f → may.0 ≡ f
      same_entry f is = let q : Some may.0 ≡ Some f = sym may.1 ∙ is in cc

      view_same : owner x ≢ a → z.view (owner x) ≡ s.view (owner x)
      view_same ne = put_other s.view a (after e (s.view a)) (owner x) ne

      -- its task took off an entry for a page that nobody had taken
      left : (p : ℕ) → IsWaitingFor s (asked (owner x)) x p → IsPageAtRest z (K (owner x)) x
      left p i = record {
        taken = i.taken;
        none = λ f is. gone f is;
        waits = ap (waits_at x) (ap K own ∙ put_same asked a (took_off x (asked a))) ∙ waits_took x (asked a);
        given = given_same asks ∙ given_where_waits x p (asked (owner x)) i.waits;
      }
        where
          own : owner x ≡ a
          own = elim clear.0 [
            | inl n ↦ n.1 i.stands.entry i.stands.is i.stands.kind
            | inr t ↦
                let h = r.hands a x (ap taken_entry (same ∙ t)) in
                none_some h.0 (sym i.taken ∙ h.1.taken)
          ]

      -- a page that was taken, and of which its task was told, is handed over
      handed : (p d : ℕ) → IsHandedBy s (differs d) (asked (owner x)) x p d → IsHandedOver z (K (owner x)) x p
      handed p d i = record {
        taken = i.taken;
        done = i.told told;
        off = λ f is. gone f is;
        asked = by_asks asks i.asked;
      }
        where
          mine : d ≡ a
          mine = by_task s a e b differs asked same r sound.one x may.0 may.1 may.2 d p (differs d) i

          told : told_entry (differs d) ≡ Some x
          told = elim clear.0 [
            | inl n ↦ clear_stays s a b differs asked same r sound x n.0 (sym (ap taken_entry (ap differs mine ∙ same))
                ∙ i.takes)
            | inr t ↦ ap told_entry (ap differs mine ∙ (same ∙ t))
          ]

          by_asks : Asks → IsAskedAt x p (asked (owner x)) → ((waits_at x (K (owner x)) ≡ Some p)
              × IsPageEntry ((z.view (owner x)).bits.stored x) p) ⊎ (was_given_at x (K (owner x)) ≡ Some p)
          by_asks (inl m) at = inr (given_same (inl m) ∙ i.own (m.0 ∙ sym mine))
          by_asks (inr m) (inr g) = inr (given_same (inr m) ∙ g)
          by_asks (inr m) (inl w) = inl (
            ap (waits_at x) m.1 ∙ w,
            record {
              entry = i.stands.entry;
              is = ap (λ (v : Told). v.bits.stored x) (view_same m.0) ∙ sound.stored x i.stands.entry i.stands.is;
              kind = i.stands.kind;
              watch = i.stands.watch;
            },
          )

      over : (p : ℕ) → IsHandedOver s (asked (owner x)) x p → IsHandedOver z (K (owner x)) x p
      over p i = record {
        taken = i.taken;
        done = i.done;
        off = λ f is. gone f is;
        asked = by_asks asks i.asked;
      }
        where
          -- an entry stands there, which waits by no flag
          other : {A : Type 0} → IsPageEntry ((s.view (owner x)).bits.stored x) p → A
          other w =
              let q : Some w.entry ≡ Some may.0 = sym w.is ∙ sound.stored x may.0 may.1 in
              let one : w.entry ≡ may.0 = cc in
              not_both (is_page may.0.kind) (subst (λ (f : Entry). is_page f.kind ≡ true) one w.kind)
              (unflagged may.0.kind (i.off may.0 may.1))

          by_asks : Asks → ((waits_at x (asked (owner x)) ≡ Some p)
              × IsPageEntry ((s.view (owner x)).bits.stored x) p) ⊎ (was_given_at x (asked (owner x)) ≡ Some p)
              → ((waits_at x (K (owner x)) ≡ Some p)
              × IsPageEntry ((z.view (owner x)).bits.stored x) p) ⊎ (was_given_at x (K (owner x)) ≡ Some p)
          by_asks k (inl w) = other w.1
          by_asks k (inr g) = inr (given_same k ∙ g)

      here : IsPageState s differs asked x → IsPageState z D K x
      here (inl i) = inl (record {
        taken = i.taken;
        none = λ f is. gone f is;
        waits = waits_none asks i.waits;
        given = given_same asks ∙ i.given;
      })
      here (inr (inl i)) = inl (left i.0 i.1)
      here (inr (inr (inl i))) = inr (inr (inr (i.0, handed i.0 i.1 i.2)))
      here (inr (inr (inr i))) = inr (inr (inr (i.0, over i.0 i.1)))

  pub pages_next : (e : Step) → Allowed s a e → IsOrderly s a e b
      → ArePageStates (next s a e) (put differs a (learn_step e b).differs) (put asked a (ask_step e (asked a)))
  pages_next (step.Queue x f) may o = queue_pages x f may o.0 o.1
  pages_next (step.Unqueue x) may o = unqueue_pages x may o
  pages_next (step.TasFor x p w) may o = tried_pages s a b differs asked same r sound x p w may o
  pages_next (step.Handed x) may o = handed_pages s a b differs asked same r sound x o
  pages_next (step.Woken x) may o = woken_pages s a b differs asked same r sound x o.0
  pages_next (step.Unflag x f) may o = unflag_pages s a b differs asked same r sound x f may.0 o
  pages_next (step.Saw x w) may o = looked_pages s a b differs asked same r sound x (step.Saw x w) refl refl refl
      (ap (λ (f : Option Entry). given_if (is_off f) x (asked a)) may)
      (ap (λ (f : Option Entry). forgotten (s.view a) x f) may) refl refl
  pages_next (step.Peek x w) may o = looked_pages s a b differs asked same r sound x (step.Peek x w) refl refl refl
      (ap (λ (f : Option Entry). given_if (is_off f) x (asked a)) may.0)
      (ap (λ (f : Option Entry). forgotten (s.view a) x f) may.0) refl refl
  pages_next (step.Lock h aim w) may o = quiet_pages s a (step.Lock h aim w) b differs asked same r refl refl
      (λ y p t d. d) refl refl (λ y is. free_stays s a b differs asked same r sound y may.1 is) (λ y is. none_some y is)
  pages_next (step.Unlock h sp) may o = quiet_pages s a (step.Unlock h sp) b differs asked same r refl refl
      (λ y p t d. d) refl (unlock_stored (s.view a) (s.view a).walk sp)
      (λ y is. clear_stays s a b differs asked same r sound y o is)
      (λ y is. none_some y is)
  pages_next (step.Mark h q) may o = quiet_pages s a (step.Mark h q) b differs asked same r refl refl
      (λ y p t d. d) refl refl (λ y is. clear_stays s a b differs asked same r sound y o.0 is) (λ y is. none_some y is)
  pages_next step.Unmark may o = quiet_pages s a step.Unmark b differs asked same r refl refl
      (λ y p t d. d) refl refl (λ y is. clear_stays s a b differs asked same r sound y o.0 is) (λ y is. none_some y is)
  pages_next (step.Sleep w) may o = quiet_pages s a (step.Sleep w) b differs asked same r refl refl
      (λ y p t d. d) refl refl (λ y is. (asleep_differs (sleep_of (task_of w)) b, refl))
      (λ y is. sym (ap taken_entry (asleep_differs (sleep_of (task_of w)) b)) ∙ is)
  pages_next e may o = quiet_pages s a e b differs asked same r refl refl (λ y p t d. d) refl refl
      (λ y is. (refl, refl)) (λ y is. is)
