-- What the steps on flags, of hand-overs and of looks do to pages that are handed over.
use Rattle.std.proofs.Common.{refl, sym, ◌∙◌, ap, subst, inl, inr}
use Rattle.std.proofs.lemmas.Bool.Decides.{eqb_tells}
use Rattle.std.specs.Prelude.{ℕ, ◌≡◌, ◌≢◌, ◌⊎◌, Bool, true, false, ◌==◌, if◌then◌else◌, Option, Some, None}
use Rattle.wait_model.specs.{declared.watches.Watch.Watch, declared.watches.Entry.Entry, declared.steps.Step.Step}
use Rattle.wait_model.specs.{Functions.put, Views.View as Told, Tables.Table, Tables.next, Rows.Allowed}
use Rattle.wait_model.specs.Watches.{head_of, is_page, was_clear, owner, page, word_of}
use Rattle.wait_model.specs.Fold.{after, is_off, forgotten}
use Rattle.wait_model.specs.declared.steps.Step.TheVariants as step
use Rattle.wait_model.proofs.Functions.{put_case, put_at, put_same, put_other, bool_or}
use Rattle.wait_rule.specs.Items.{Difference, nothing, page_taken, page_told, after_try, Book, learn_step}
use Rattle.wait_rule.specs.Asked.{Asked, given_if, took_note, ask_step, waits_at, was_given_at}
use Rattle.wait_rule.specs.Pages.{taken_entry, IsPageEntry, IsPageless, IsAskedAt, IsPageAtRest, IsHandedBy}
use Rattle.wait_rule.specs.Pages.{IsHandedOver, IsPageState, ArePageStates}
use Rattle.wait_rule.proofs.KnownLaws.PageStates.{none_some, waits_given_far, given_given_far, given_note_far}
use Rattle.wait_rule.proofs.KnownLaws.PageStates.{waits_note, given_where_waited, given_nowhere, given_note}
use Rattle.wait_rule.proofs.KnownLaws.PageStates.{waits_where_given, asked_given, asked_note, IsSameAt}
use Rattle.wait_rule.proofs.KnownLaws.PageSteps.{some_same, not_both, no_entry, takes_none, IsSound, same_at}
use Rattle.wait_rule.proofs.KnownLaws.PageSteps.{mine_still, quiet_pages, one_touched, others_none}

module _ (s : Table) (a : ℕ) (b : Book) (differs : ℕ → Difference) (asked : ℕ → Asked)
    (same : differs a ≡ b.differs) (r : ArePageStates s differs asked) (sound : IsSound s) where
  -- where no page is to be handed over
  pub clear_stays : {A : Type 0} (y : ℕ) → b.differs ≡ nothing → taken_entry b.differs ≡ Some y → A
  clear_stays y n is = takes_none b.differs y n is

  -- a task that has no lock has none to hand over
  pub free_stays : {A : Type 0} (y : ℕ) → (s.view a).hold.head ≡ None → taken_entry b.differs ≡ Some y → A
  free_stays y out is =
      let i = r.hands a y (ap taken_entry same ∙ is) in
      none_some (head_of (page i.0)) (sym out ∙ i.1.held)

  -- the state of an entry word on which the task has an entry for a page, of which none is taken
  pub waits_there : (x p : ℕ) → IsPageEntry (s.entry x) p → s.taken x ≡ None → waits_at x (asked (owner x)) ≡ Some p
  waits_there x p there free = by (r.each x)
    where
      by : IsPageState s differs asked x → waits_at x (asked (owner x)) ≡ Some p
      by (inl i) = not_both (is_page there.entry.kind) there.kind (i.none there.entry there.is)
      by (inr (inl i)) =
          let one : i.1.stands.entry ≡ there.entry =
          (let q : Some i.1.stands.entry ≡ Some there.entry = sym i.1.stands.is ∙ there.is in cc) in
          let watches : page i.0 ≡ page p =
          sym i.1.stands.watch ∙ (ap (λ (e : Entry). e.watch) one ∙ there.watch) in
          i.1.waits ∙ ap (λ (c : Watch). Some (word_of c)) watches
      by (inr (inr (inl i))) = none_some i.0 (sym free ∙ i.2.taken)
      by (inr (inr (inr i))) = none_some i.0 (sym free ∙ i.1.taken)

  -- the flag of a woken entry is set, over which no DONE stands
  pub woken_pages : (x : ℕ) → s.taken x ≡ None → ArePageStates (next s a (step.Woken x)) (put differs a b.differs)
      (put asked a (asked a))
  woken_pages x free = quiet_pages s a (step.Woken x) b differs asked same r refl refl
      (λ y p taken done. put_at (λ (d : Bool). d ≡ true) s.done x false y
      (λ q. none_some p (sym free ∙ (ap s.taken (sym q) ∙ taken))) (λ _. done)) refl refl (λ y is. (refl, refl))
      (λ y is. is)

  -- the task is told of its page
  pub handed_pages : (x : ℕ) → b.differs ≡ page_taken x → ArePageStates (next s a (step.Handed x))
      (put differs a (page_told x)) (put asked a (asked a))
  handed_pages x is = one_touched s a e b differs asked same r (λ y p at. r.own a y p at) mine x far
      (inr (inr (inl (
        i.0,
        a,
        subst (λ (d : Difference). IsHandedBy z d (K (owner x)) x i.0 a)
            (sym (put_same differs a (page_told x))) now,
      ))))
      (λ d p ne. others_none s a e b differs asked same r sound.one x i.1.stands.entry i.1.stands.is
      (i.1.held ∙ ap (λ (c : Watch). Some (head_of c)) (sym i.1.stands.watch)) d p ne)
    where
      e : Step
      e = step.Handed x

      z : Table
      z = next s a e

      K : ℕ → Asked
      K = put asked a (asked a)

      i : (p : ℕ) × IsHandedBy s (differs a) (asked (owner x)) x p a
      i = r.hands a x (ap taken_entry (same ∙ is))

      asks : K (owner x) ≡ asked (owner x)
      asks = put_at (λ (k : Asked). k ≡ asked (owner x)) asked a (asked a) (owner x) (λ q. ap asked (sym q)) (λ _. refl)

      now : IsHandedBy z (page_told x) (K (owner x)) x i.0 a
      now = record {
        taken = i.1.taken;
        stands = i.1.stands;
        asked = subst (IsAskedAt x i.0) (sym asks) i.1.asked;
        own = λ mine. ap (was_given_at x) asks ∙ i.1.own mine;
        takes = refl;
        held = ap (λ (v : Told). v.hold.head) (put_same s.view a (s.view a)) ∙ i.1.held;
        told = λ _. put_same s.done x true;
      }

      mine : (y : ℕ) → taken_entry (page_told x) ≡ Some y → (p : ℕ) × IsHandedBy z (page_told x) (K (owner y)) y p a
      mine y at = subst (λ (j : ℕ). (p : ℕ) × IsHandedBy z (page_told x) (K (owner j)) j p a) (some_same x y at)
          (i.0, now)

      far : (y : ℕ) → y ≢ x → IsSameAt s z differs (put differs a (page_told x)) asked K y
      far y ne = same_at s a e b differs asked same r y refl refl
          (λ p t d. put_other s.done x true y ne ∙ d) (λ _. refl) (λ _. refl) refl
          (λ at. absurd (ne (some_same y x (sym at ∙ ap taken_entry is))))

  -- a page is tried for the task of an entry
  pub tried_pages : (x p w : ℕ) → Allowed s a (step.TasFor x p w) → b.differs ≡ nothing
      → ArePageStates (next s a (step.TasFor x p w))
      (put differs a (learn_step (step.TasFor x p w) b).differs)
      (put asked a (ask_step (step.TasFor x p w) (asked a)))
  tried_pages x p w may clear = by (was_clear (page p) w) refl
    where
      e : Step
      e = step.TasFor x p w

      z : Table
      z = next s a e

      D : ℕ → Difference
      D = put differs a (after_try x (was_clear (page p) w) b.differs)

      K : ℕ → Asked
      K = put asked a (given_if (was_clear (page p) w) x (asked a))

      stands : IsPageEntry (s.entry x) p
      stands = record { entry = may.0.0; is = may.0.1; kind = may.0.4; watch = may.0.3 }

      held : (s.view a).hold.head ≡ Some (head_of (page p))
      held = may.0.2 ∙ ap (λ (c : Watch). Some (head_of c)) may.0.3

      waits : waits_at x (asked (owner x)) ≡ Some p
      waits = waits_there x p stands may.2

      by : (c : Bool) → was_clear (page p) w ≡ c → ArePageStates z D K
      by false q = quiet_pages s a e b differs asked same r refl
          (ap (λ (t : Bool). if t then put s.taken x (Some p) else s.taken) q) (λ y j t d. d)
          (ap (λ (t : Bool). given_if t x (asked a)) q) refl
          (λ y is. clear_stays y clear is)
          (λ y is. sym (ap (λ (t : Bool). taken_entry (after_try x t b.differs)) q) ∙ is)
      by true q = one_touched s a e b differs asked same r
          (λ y j at. r.own a y j (asked_given (was_clear (page p) w) x y j (asked a) at)) mine x far
          (inr (inr (inl (
            p,
            a,
            subst (λ (d : Difference). IsHandedBy z d (K (owner x)) x p a)
                (sym (put_same differs a (after_try x (was_clear (page p) w) b.differs) ∙ tried)) now,
          ))))
          (λ d j ne i. none_some j (sym may.2 ∙ i.taken))
        where
          tried : after_try x (was_clear (page p) w) b.differs ≡ page_taken x
          tried = ap (λ (t : Bool). after_try x t b.differs) q

          given : owner x ≡ a → was_given_at x (K (owner x)) ≡ Some p
          given mine = ap (λ (i : ℕ). was_given_at x (K i)) mine
              ∙ (ap (was_given_at x) (put_same asked a (given_if (was_clear (page p) w) x (asked a)))
              ∙ (ap (λ (t : Bool). was_given_at x (given_if t x (asked a))) q
              ∙ given_where_waited x p (asked a) (ap (λ (i : ℕ). waits_at x (asked i)) (sym mine) ∙ waits)))

          asked_now : IsAskedAt x p (K (owner x))
          asked_now = by_owner (put_case asked a (given_if (was_clear (page p) w) x (asked a)) (owner x))
            where
              by_owner : ((owner x ≡ a) × (K (owner x) ≡ given_if (was_clear (page p) w) x (asked a)))
                  ⊎ ((owner x ≢ a) × (K (owner x) ≡ asked (owner x))) → IsAskedAt x p (K (owner x))
              by_owner (inl m) = inr (given m.0)
              by_owner (inr m) = inl (ap (waits_at x) m.1 ∙ waits)

          taken_now : z.taken x ≡ Some p
          taken_now = ap (λ (t : Bool). (if t then put s.taken x (Some p) else s.taken) x) q
              ∙ put_same s.taken x (Some p)

          now : IsHandedBy z (page_taken x) (K (owner x)) x p a
          now = record {
            taken = taken_now;
            stands = stands;
            asked = asked_now;
            own = given;
            takes = refl;
            held = ap (λ (v : Told). v.hold.head) (put_same s.view a (after e (s.view a))) ∙ held;
            told = λ t. none_some x t;
          }

          mine : (y : ℕ) → taken_entry (after_try x (was_clear (page p) w) b.differs) ≡ Some y
              → (j : ℕ) × IsHandedBy z (after_try x (was_clear (page p) w) b.differs) (K (owner y)) y j a
          mine y at = subst (λ (i : ℕ). (j : ℕ)
              × IsHandedBy z (after_try x (was_clear (page p) w) b.differs) (K (owner i)) i j a)
              (some_same x y (sym (ap taken_entry tried) ∙ at))
              (p, subst (λ (d : Difference). IsHandedBy z d (K (owner x)) x p a) (sym tried) now)

          far : (y : ℕ) → y ≢ x → IsSameAt s z differs D asked K y
          far y ne = same_at s a e b differs asked same r y refl
              (ap (λ (t : Bool). (if t then put s.taken x (Some p) else s.taken) y) q ∙ put_other s.taken x
              (Some p) y ne)
              (λ j t d. d) (λ _. waits_given_far (was_clear (page p) w) x y (asked a) ne)
              (λ _. given_given_far (was_clear (page p) w) x y (asked a) ne) refl
              (λ is. clear_stays y clear is)

  -- the task clears its own flag word, where it has no entry for a page: it takes note of the page, if there is one
  pub unflag_pages : (x : ℕ) (o : Option ℕ) → owner x ≡ a
      → ((s.taken x ≡ None) × IsPageless (s.entry x)) ⊎ IsPageless ((s.view a).bits.stored x)
      → ArePageStates (next s a (step.Unflag x o)) (put differs a b.differs) (put asked a (took_note x (asked a)))
  unflag_pages x o mine none = one_touched s a e b differs asked same r
      (λ y p at. r.own a y p (asked_note x y p (asked a) at)) kept x far (inl (here (r.each x)))
      (λ d p ne i. no_page i.stands.entry i.stands.is i.stands.kind)
    where
      e : Step
      e = step.Unflag x o

      z : Table
      z = next s a e

      K : ℕ → Asked
      K = put asked a (took_note x (asked a))

      no_page : {A : Type 0} (f : Entry) → s.entry x ≡ Some f → is_page f.kind ≡ true → A
      no_page f is page_is = not_both (is_page f.kind) page_is (elim none [
        | inl n ↦ n.1 f is
        | inr n ↦ n f (ap (λ (i : ℕ). (s.view i).bits.stored x) (sym mine) ∙ sound.stored x f is)
      ])

      -- no page was handed over of which the task does not know
      known_page : {A : Type 0} (p : ℕ) → s.taken x ≡ Some p → IsPageEntry ((s.view (owner x)).bits.stored x) p → A
      known_page p taken w = elim none [
        | inl n ↦ none_some p (sym n.0 ∙ taken)
        | inr n ↦ not_both (is_page w.entry.kind) w.kind
            (n w.entry (ap (λ (j : ℕ). (s.view j).bits.stored x) (sym mine) ∙ w.is))
      ]

      asks : K (owner x) ≡ took_note x (asked a)
      asks = ap K mine ∙ put_same asked a (took_note x (asked a))

      rests : waits_at x (asked (owner x)) ≡ None → IsPageAtRest z (K (owner x)) x
      rests waits = record {
        taken = put_same s.taken x None;
        none = λ f is. elim (bool_or (is_page f.kind)) [ inl t ↦ no_page f is t | inr t ↦ t ];
        waits = ap (waits_at x) asks ∙ (waits_note x x (asked a)
            ∙ (ap (λ (i : ℕ). waits_at x (asked i)) (sym mine) ∙ waits));
        given = ap (was_given_at x) asks ∙ given_note x (asked a);
      }

      here : IsPageState s differs asked x → IsPageAtRest z (K (owner x)) x
      here (inl i) = rests i.waits
      here (inr (inl i)) = no_page i.1.stands.entry i.1.stands.is i.1.stands.kind
      here (inr (inr (inl i))) = no_page i.2.stands.entry i.2.stands.is i.2.stands.kind
      here (inr (inr (inr i))) = rests (elim i.1.asked [
        | inl w ↦ known_page i.0 i.1.taken w.1
        | inr g ↦ waits_where_given x i.0 (asked (owner x)) g
      ])

      far : (y : ℕ) → y ≢ x → IsSameAt s z differs (put differs a b.differs) asked K y
      far y ne = same_at s a e b differs asked same r y refl (put_other s.taken x None y ne)
          (λ p t d. put_other s.done x false y ne ∙ d) (λ _. waits_note x y (asked a))
          (λ _. given_note_far x y (asked a) ne) refl (λ is. (refl, refl))

      kept : (y : ℕ) → taken_entry b.differs ≡ Some y → (p : ℕ) × IsHandedBy z b.differs (K (owner y)) y p a
      kept y is = by (eqb_tells y x)
        where
          by : (((y == x) ≡ true) × (y ≡ x)) ⊎ (((y == x) ≡ false) × (y ≢ x))
              → (p : ℕ) × IsHandedBy z b.differs (K (owner y)) y p a
          by (inl q) =
              let i = r.hands a x (ap taken_entry same ∙ (is ∙ ap (λ (j : ℕ). Some j) q.1)) in
              no_page i.1.stands.entry i.1.stands.is i.1.stands.kind
          by (inr q) = mine_still s a e b differs asked same r y (far y q.1) is

  -- a look at an entry word that shows what stands there
  module _ (x : ℕ) (e : Step) (entry : (next s a e).entry ≡ s.entry) (taken : (next s a e).taken ≡ s.taken)
      (done : (next s a e).done ≡ s.done)
      (asks : ask_step e (asked a) ≡ given_if (is_off (s.entry x)) x (asked a))
      (stored : (after e (s.view a)).bits.stored ≡ forgotten (s.view a) x (s.entry x))
      (still : (learn_step e b).differs ≡ b.differs)
      (heads : (after e (s.view a)).hold.head ≡ (s.view a).hold.head) where
    abbrev sz : Table
    sz = next s a e

    abbrev SD : ℕ → Difference
    SD = put differs a (learn_step e b).differs

    abbrev SK : ℕ → Asked
    SK = put asked a (ask_step e (asked a))

    done_stays : (y p : ℕ) → s.taken y ≡ Some p → s.done y ≡ true → sz.done y ≡ true
    done_stays y p t d = ap (λ (f : ℕ → Bool). f y) done ∙ d

    new_is : (y : ℕ) → taken_entry (learn_step e b).differs ≡ Some y → taken_entry b.differs ≡ Some y
    new_is y is = sym (ap taken_entry still) ∙ is

    pub found_off : s.entry x ≡ None → ArePageStates sz SD SK
    found_off gone = one_touched s a e b differs asked same r
        (λ y p at. r.own a y p (asked_given (is_off (s.entry x)) x y p (asked a) (subst (IsAskedAt y p) asks at)))
        kept x far (here (r.each x)) (λ d p ne i. no_entry (s.entry x) i.stands.entry gone i.stands.is)
      where
        asks_off : ask_step e (asked a) ≡ given_if true x (asked a)
        asks_off = asks ∙ ap (λ (o : Option Entry). given_if (is_off o) x (asked a)) gone

        far : (y : ℕ) → y ≢ x → IsSameAt s sz differs SD asked SK y
        far y ne = same_at s a e b differs asked same r y (ap (λ (f : ℕ → Option Entry). f y) entry)
            (ap (λ (f : ℕ → Option ℕ). f y) taken) (done_stays y)
            (λ _. ap (waits_at y) asks_off ∙ waits_given_far true x y (asked a) ne)
            (λ _. ap (was_given_at y) asks_off ∙ given_given_far true x y (asked a) ne)
            (ap (λ (f : ℕ → Option Entry). f y) stored
            ∙ (ap (λ (o : Option Entry). forgotten (s.view a) x o y) gone ∙ put_other
            (s.view a).bits.stored x None y ne))
            (λ is. (still, heads))

        kept : (y : ℕ) → taken_entry (learn_step e b).differs ≡ Some y
            → (p : ℕ) × IsHandedBy sz (learn_step e b).differs (SK (owner y)) y p a
        kept y is = by (eqb_tells y x)
          where
            by : (((y == x) ≡ true) × (y ≡ x)) ⊎ (((y == x) ≡ false) × (y ≢ x))
                → (p : ℕ) × IsHandedBy sz (learn_step e b).differs (SK (owner y)) y p a
            by (inl q) =
                let i = r.hands a x (ap taken_entry same ∙ (new_is y is ∙ ap (λ (j : ℕ). Some j) q.1)) in
                no_entry (s.entry x) i.1.stands.entry gone i.1.stands.is
            by (inr q) = mine_still s a e b differs asked same r y (far y q.1) (new_is y is)

        -- what the task asks for stays where it did not wait there
        asks_same : waits_at x (asked (owner x)) ≡ None → SK (owner x) ≡ asked (owner x)
        asks_same none = put_at (λ (k : Asked). k ≡ asked (owner x)) asked a (ask_step e (asked a)) (owner x)
            (λ q. asks_off ∙ (given_nowhere true x (asked a) (ap (λ (i : ℕ). waits_at x (asked i)) (sym q) ∙ none)
            ∙ ap asked (sym q))) (λ _. refl)

        over : (p : ℕ) → IsHandedOver s (asked (owner x)) x p → IsHandedOver sz (SK (owner x)) x p
        over p i = record {
          taken = ap (λ (f : ℕ → Option ℕ). f x) taken ∙ i.taken;
          done = done_stays x p i.taken i.done;
          off = λ f is. i.off f (sym (ap (λ (g : ℕ → Option Entry). g x) entry) ∙ is);
          asked = by_asked i.asked (put_case asked a (ask_step e (asked a)) (owner x));
        }
          where
            by_asked : ((waits_at x (asked (owner x)) ≡ Some p)
                × IsPageEntry ((s.view (owner x)).bits.stored x) p) ⊎ (was_given_at x (asked (owner x)) ≡ Some p)
                → ((owner x ≡ a) × (SK (owner x) ≡ ask_step e (asked a)))
                ⊎ ((owner x ≢ a) × (SK (owner x) ≡ asked (owner x)))
                → ((waits_at x (SK (owner x)) ≡ Some p)
                × IsPageEntry ((sz.view (owner x)).bits.stored x) p) ⊎ (was_given_at x (SK (owner x)) ≡ Some p)
            by_asked (inr g) m = inr (ap (was_given_at x) (asks_same (waits_where_given x p (asked (owner x)) g)) ∙ g)
            by_asked (inl w) (inl m) = inr (ap (was_given_at x) (m.1 ∙ asks_off) ∙ given_where_waited x p (asked a)
                (ap (λ (i : ℕ). waits_at x (asked i)) (sym m.0) ∙ w.0))
            by_asked (inl w) (inr m) = inl (
              ap (waits_at x) m.1 ∙ w.0,
              subst (λ (v : Told). IsPageEntry (v.bits.stored x) p)
                  (sym (put_other s.view a (after e (s.view a)) (owner x) m.0)) w.1,
            )

        here : IsPageState s differs asked x → IsPageState sz SD SK x
        here (inl i) = inl (record {
          taken = ap (λ (f : ℕ → Option ℕ). f x) taken ∙ i.taken;
          none = λ f is. i.none f (sym (ap (λ (g : ℕ → Option Entry). g x) entry) ∙ is);
          waits = ap (waits_at x) (asks_same i.waits) ∙ i.waits;
          given = ap (was_given_at x) (asks_same i.waits) ∙ i.given;
        })
        here (inr (inl i)) = no_entry (s.entry x) i.1.stands.entry gone i.1.stands.is
        here (inr (inr (inl i))) = no_entry (s.entry x) i.2.stands.entry gone i.2.stands.is
        here (inr (inr (inr i))) = inr (inr (inr (i.0, over i.0 i.1)))

    pub looked_pages : ArePageStates sz SD SK
    looked_pages = by (s.entry x) refl
      where
        by : (o : Option Entry) → s.entry x ≡ o → ArePageStates sz SD SK
        by None q = found_off q
        by (Some f) q = quiet_pages s a e b differs asked same r entry taken done_stays
            (asks ∙ ap (λ (o : Option Entry). given_if (is_off o) x (asked a)) q)
            (stored ∙ ap (λ (o : Option Entry). forgotten (s.view a) x o) q) (λ y is. (still, heads)) new_is
