-- Each kind of step by which a page is handed over keeps the law.
use Rattle.std.proofs.Common.{refl, sym, ◌∙◌, ap, subst, arith, inl, inr}
use Rattle.std.specs.Prelude.{ℕ, ◌≡◌, ◌⊎◌, ◌||◌, Bool, true, false, if◌then◌else◌, Some, None, List}
use Rattle.wait_model.specs.{declared.layout.TheConstants.WORD_BITS, declared.layout.TheConstants.HANDED}
use Rattle.wait_model.specs.{declared.watches.Watch.Watch, declared.watches.Entry.Entry, declared.steps.Step.Step}
use Rattle.wait_model.specs.{Functions.put, Words.bit_word, Words.done_word, Views.Look, Views.shown, Tables.Table}
use Rattle.wait_model.specs.{Facts.Agrees}
use Rattle.wait_model.specs.Watches.{head_of, is_page, is_woken, owner, was_clear, page}
use Rattle.wait_model.specs.declared.steps.Step.TheVariants as step
use Rattle.wait_model.specs.Locations as place
use Rattle.wait_model.proofs.WordLaws.CondWords.{tas_step}
use Rattle.wait_rule.specs.{declared.journal.Item.Item, MemberWords.all_differences, Members.IsOwnKind}
use Rattle.wait_rule.specs.{Quiet.is_quiet_at, Quiet.is_told, Rule.IsRuled}
use Rattle.wait_rule.specs.Items.{nothing, page_taken, page_told, after_try, Book, with_difference, Fits}
use Rattle.wait_rule.specs.Asked.{was_given_at, all_asked, nothing_asked}
use Rattle.wait_rule.specs.Pages.{uses_flag, taken_entry, IsPageEntry, IsPageless, IsHandedBy, IsPageState}
use Rattle.wait_rule.proofs.{KnownLaws.MemberPlaces.still_places, KnownLaws.PageStates.none_some}
use Rattle.wait_rule.proofs.{KnownLaws.PageSteps.not_both, KnownLaws.PageSteps.takes_none}
use Rattle.wait_rule.proofs.{KnownLaws.StandingKinds.asks_none, TableSteps.KeptSteps.KeepsLaw}
use Rattle.wait_rule.proofs.{StepKinds.BitKinds.bit_leaves, StepKinds.EntryKinds.fits_difference}
use Rattle.wait_rule.proofs.{StepKinds.FlagKinds.flag_leaves, StepKinds.FlagKinds.unflags}
use Rattle.wait_rule.proofs.KnownLaws.HeadLinks.{off_links, quiet_links, telling_marks, telling_own}

module _ (s : Table) (items : ℕ → List Item) (ruled : IsRuled s items) (a : ℕ) (b : Book) (fits : Fits (s.task a) b)
    (same : all_differences items a ≡ b.differs) (x : ℕ) where
  -- a hold that shows an entry for the page, and has no page to hand over, finds none taken for its task
  module _ (p h : ℕ) (e : Entry) (held : (s.view a).hold.head ≡ Some h) (shows : (s.view a).hold.book x ≡ shown e)
      (kind : is_page e.kind ≡ true) (for : e.watch ≡ page p) (clear : b.differs ≡ nothing) where
    agrees : Agrees h (shown e) (s.entry x)
    agrees = subst (λ (l : Look). Agrees h l (s.entry x)) shows
        ((ruled.whole.kept.facts.views a).hold.agrees h x held)

    holds : (s.view a).hold.head ≡ Some (head_of e.watch)
    holds = held ∙ ap (λ (k : ℕ). Some k) (sym agrees.1)

    untaken : s.taken x ≡ None
    untaken = by (ruled.pages.each x)
      where
        -- whoever hands the page over holds the same head
        nobody : {A : Type 0} (q d : ℕ)
            → IsHandedBy s (all_differences items d) (all_asked items (owner x)) x q d → A
        nobody q d i =
            let both : Some i.stands.entry ≡ Some e = sym i.stands.is ∙ agrees.0 in
            let one : i.stands.entry ≡ e = cc in
            let me : d ≡ a = ruled.whole.kept.facts.one_holder d a (head_of e.watch)
            (i.held ∙ ap (λ (c : Watch). Some (head_of c)) (sym i.stands.watch ∙ ap (λ (f : Entry). f.watch) one)) holds
            in
            takes_none b.differs x clear (sym (ap taken_entry (ap (all_differences items) me ∙ same)) ∙ i.takes)

        by : IsPageState s (all_differences items) (all_asked items) x → s.taken x ≡ None
        by (inl i) = i.taken
        by (inr (inl i)) = i.1.taken
        by (inr (inr (inl i))) = nobody i.0 i.1 i.2
        by (inr (inr (inr i))) = not_both (uses_flag e.kind) (uses kind) (i.1.off e agrees.0)
          where
            uses : is_page e.kind ≡ true → uses_flag e.kind ≡ true
            uses is = ap (λ (t : Bool). t || is_woken e.kind) is

    pub tries_for : KeepsLaw s a (place.Bits p) (bit_word WORD_BITS (put (s.words.bits p) 0 true))
        (step.TasFor x p (bit_word WORD_BITS (s.words.bits p))) b
    tries_for = record {
      allowed = ((e, agrees.0, holds, for, kind), (tas_step s a p 0 ruled.lawful.bits).2, untaken);
      stored = tt;
      orderly = clear;
      places = still_places s a tried refl refl;
      links = off_links s a tried tt;
      leaves = bit_leaves s a p 0 true (with_difference (after_try x (was_clear (page p) found) b.differs) b)
          (if was_clear (page p) found then put s.taken x (Some p) else s.taken) _ _ (omega arith) ruled.lawful
          (fits_difference (s.task a) b (after_try x (was_clear (page p) found) b.differs) fits);
    }
      where
        found : ℕ
        found = bit_word WORD_BITS (s.words.bits p)

        tried : Step
        tried = step.TasFor x p found

  -- the task whose page was taken is told
  pub tells : b.differs ≡ page_taken x → KeepsLaw s a (place.Flag x) HANDED (step.Handed x) b
  tells is = record {
    allowed = (
      (
        i.1.stands.entry,
        i.1.stands.is,
        i.1.held ∙ ap (λ (c : Watch). Some (head_of c)) (sym i.1.stands.watch),
      ),
      (i.0, i.1.taken),
    );
    stored = tt;
    orderly = is;
    places = still_places s a (step.Handed x) refl refl;
    links = quiet_links s a (step.Handed x) (record {
      holder = refl;
      spent = refl;
      mark = refl;
      head = λ v. refl;
      found = λ v. refl;
      own = λ v k. telling_own k.walk x v k;
      marks = λ v k. telling_marks k.walk x v k;
    });
    leaves = flag_leaves s a x true true (with_difference (page_told x) b) s.taken _ _ ruled.lawful
        (fits_difference (s.task a) b (page_told x) fits);
  }
    where
      i : (p : ℕ) × IsHandedBy s (all_differences items a) (all_asked items (owner x)) x p a
      i = ruled.pages.hands a x (ap taken_entry (same ∙ is))

  -- an entry whose task was told of its page is one that other tasks take off
  pub told_fair : b.differs ≡ page_told x → (h : ℕ) (e : Entry) → (s.view a).hold.head ≡ Some h
      → (s.view a).hold.book x ≡ shown e → (owner x ≡ a) ⊎ (IsOwnKind e.kind → ⊥)
  told_fair is h e held shows = inr (λ own. not_both (is_page e.kind)
      (subst (λ (f : Entry). is_page f.kind ≡ true) one i.1.stands.kind) (elim own [
        | inl d ↦ ap is_page d
        | inr w ↦ ap is_page w
      ]))
    where
      there : Agrees h (shown e) (s.entry x)
      there = subst (λ (l : Look). Agrees h l (s.entry x)) shows
          ((ruled.whole.kept.facts.views a).hold.agrees h x held)

      i : (p : ℕ) × IsHandedBy s (all_differences items a) (all_asked items (owner x)) x p a
      i = ruled.pages.hands a x (ap taken_entry (same ∙ is))

      one : i.1.stands.entry ≡ e
      one = let both : Some i.1.stands.entry ≡ Some e = sym i.1.stands.is ∙ there.0 in cc

  -- the task's own entry, of which it knows that it is none for a page that stands
  module _ (p : ℕ) (mine : owner x ≡ a) (given : was_given_at x (all_asked items a) ≡ Some p)
      (pageless : IsPageless ((s.view a).bits.stored x)) where
    not_stored : {A : Type 0} (q : ℕ) → IsPageEntry ((s.view (owner x)).bits.stored x) q → A
    not_stored q i = not_both (is_page i.entry.kind) i.kind
        (pageless i.entry (ap (λ (j : ℕ). (s.view j).bits.stored x) (sym mine) ∙ i.is))

    not_standing : {A : Type 0} (q : ℕ) → IsPageEntry (s.entry x) q → A
    not_standing q i = not_stored q (record {
      entry = i.entry;
      is = ruled.whole.kept.bits.stored_is x i.entry i.is;
      kind = i.kind;
      watch = i.watch;
    })

    is_given : was_given_at x (all_asked items (owner x)) ≡ Some p
    is_given = ap (λ (j : ℕ). was_given_at x (all_asked items j)) mine ∙ given

    -- such a page was handed over
    handed : (s.taken x ≡ Some p) × (s.done x ≡ true)
    handed = by (ruled.pages.each x)
      where
        by : IsPageState s (all_differences items) (all_asked items) x → (s.taken x ≡ Some p) × (s.done x ≡ true)
        by (inl i) = none_some p (sym i.given ∙ is_given)
        by (inr (inl i)) = not_standing i.0 i.1.stands
        by (inr (inr (inl i))) = not_standing i.0 i.2.stands
        by (inr (inr (inr i))) = elim i.1.asked [
          | inl w ↦ not_stored i.0 w.1
          | inr g ↦ (i.1.taken ∙ (sym g ∙ is_given), i.1.done)
        ]

    pub shows_given : done_word (s.flag x) (s.done x) ≡ HANDED
    shows_given = (λ j. done_word ((ruled.whole.kept.pages.done x handed.1).0 j) (handed.1 j))

    pub notes_page : KeepsLaw s a (place.Flag x) 0 (step.Unflag x (Some p)) b
    notes_page = unflags s items ruled x a b fits mine (Some p) handed.0 (inr pageless)

-- A task that asks for no page was told of none, and finds no flag where it is quiet.
pub shows_none : (s : Table) (items : ℕ → List Item) → IsRuled s items → (a x : ℕ) → owner x ≡ a
    → all_asked items a ≡ nothing_asked
    → (is_told x (s.history a) ≡ false) × (is_quiet_at x (s.history a) ≡ true → done_word (s.flag x) (s.done x) ≡ 0)
shows_none s items ruled a x mine none = (
  told (is_told x (s.history a)) refl,
  λ quiet. by quiet (s.flag x) (s.done x) refl refl,
)
  where
    untaken : s.taken x ≡ None
    untaken = (asks_none s items ruled a none).taken x mine

    never : {A : Type 0} → s.done x ≡ true → A
    never done = let t = (ruled.whole.kept.pages.done x done).1 in none_some t.0 (sym untaken ∙ t.1)

    told : (b : Bool) → is_told x (s.history a) ≡ b → b ≡ false
    told false is = refl
    told true is = never (ruled.heard x (ap (λ (t : ℕ). is_told x (s.history t)) mine ∙ is))

    by : is_quiet_at x (s.history a) ≡ true → (f d : Bool) → s.flag x ≡ f → s.done x ≡ d → done_word f d ≡ 0
    by quiet false d is done = refl
    by quiet true true is done = never done
    by quiet true false is done =
        let yes : s.done x ≡ true = ruled.quiet x (ap (λ (t : ℕ). is_quiet_at x (s.history t)) mine ∙ quiet) is in
        let both : true ≡ false = sym yes ∙ done in absurd (cc)
