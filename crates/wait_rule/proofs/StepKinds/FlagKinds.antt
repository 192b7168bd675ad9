-- Each kind of step on a flag word keeps the law.
use Rattle.std.proofs.Common.{refl, ◌∙◌, ap, subst, sym, inl, inr}
use Rattle.std.specs.Prelude.{ℕ, ◌≡◌, ◌≢◌, ◌⊎◌, Bool, true, false, Option, Some, None, List}
use Rattle.wait_model.specs.{declared.watches.Entry.Entry, declared.steps.Step.Step, Functions.put, Words.flag_word}
use Rattle.wait_model.specs.{Words.done_word, Watches.owner, Watches.is_page, Tables.Table, Facts.Agrees}
use Rattle.wait_model.specs.{Locations.Location, Locations.word_in}
use Rattle.wait_model.specs.Views.{View as Told, Look, shown}
use Rattle.wait_model.specs.declared.watches.Kind.TheVariants as kind
use Rattle.wait_model.specs.declared.steps.Step.TheVariants as step
use Rattle.wait_model.specs.Locations as place
use Rattle.wait_model.proofs.{Functions.put_same, Functions.put_other, WordLaws.DecodedWords.done_read_back}
use Rattle.wait_rule.specs.{declared.journal.Item.Item, Items.Book, Items.Fits, Asked.all_asked}
use Rattle.wait_rule.specs.{MemberWords.all_differences, Rule.IsLawfulTable, Rule.IsRuled}
use Rattle.wait_rule.specs.Pages.{uses_flag, IsPageless, IsPageState}
use Rattle.wait_rule.proofs.{KnownLaws.PageSteps.not_both, KnownLaws.HeadLinks.off_links}
use Rattle.wait_rule.proofs.{KnownLaws.MemberPlaces.still_places, TableSteps.KeptSteps.Leaves}
use Rattle.wait_rule.proofs.{TableSteps.KeptSteps.KeepsLaw, StepKinds.EntryKinds.load_leaves}

-- what a step on a flag word leaves
abbrev flag_stored : Table → ℕ → Bool → Bool → (ℕ → Option ℕ) → (ℕ → List Step) → (ℕ → Told) → Table
flag_stored s x woken done pages history view = record s {
  flag = put s.flag x woken;
  done = put s.done x done;
  taken = pages;
  history = history;
  view = view;
}

pub flag_leaves : (s : Table) (a x : ℕ) (woken done : Bool) (b : Book) (pages : ℕ → Option ℕ)
    (history : ℕ → List Step) (view : ℕ → Told) → IsLawfulTable s → Fits (s.task a) b
    → Leaves s (flag_stored s x woken done pages history view) a (place.Flag x) (done_word woken done) b
flag_leaves s a x woken done b pages history view l f = record {
  lawful = record { tasks = l.tasks; entries = l.entries; marks = l.marks; spent = l.spent; bits = l.bits };
  own = f;
  others = λ t ne c g. g;
  left = ap (λ (d : Bool). done_word (put s.flag x woken x) d) (put_same s.done x done)
      ∙ ap (λ (w : Bool). done_word w done) (put_same s.flag x woken);
  rest = rest_of;
}
  where
    rest_of : (k : Location) → k ≢ place.Flag x
        → word_in (flag_stored s x woken done pages history view) k ≡ word_in s k
    rest_of (place.Flag i) ne = ap (λ (w : Bool). done_word w (put s.done x done i)) (put_other s.flag x woken i other)
        ∙ ap (λ (d : Bool). done_word (s.flag i) d) (put_other s.done x done i other)
      where
        other : i ≢ x
        other e = ne (ap place.Flag e)
    rest_of k ne = refl

-- no page is taken for the task of an entry of kind Woken that stands
pub woken_untaken : (s : Table) (items : ℕ → List Item) → IsRuled s items → (x : ℕ) (e : Entry)
    → s.entry x ≡ Some e → e.kind ≡ kind.Woken → s.taken x ≡ None
woken_untaken s items ruled x e stands woken = by (ruled.pages.each x)
  where
    by : IsPageState s (all_differences items) (all_asked items) x → s.taken x ≡ None
    by (inl i) = i.taken
    by (inr (inl i)) = i.1.taken
    by (inr (inr (inl i))) =
        let both : Some i.2.stands.entry ≡ Some e = sym i.2.stands.is ∙ stands in
        let one : i.2.stands.entry ≡ e = cc in
        not_both (is_page e.kind) (subst (λ (f : Entry). is_page f.kind ≡ true) one i.2.stands.kind) (ap is_page woken)
    by (inr (inr (inr i))) = not_both (uses_flag e.kind) (ap uses_flag woken) (i.1.off e stands)

-- in a hold that shows an entry, its flag may be set
pub flags : (s : Table) (items : ℕ → List Item) → IsRuled s items → (x a : ℕ) (b : Book) → Fits (s.task a) b
    → (h : ℕ) (e : Entry) → (s.view a).hold.head ≡ Some h → (s.view a).hold.book x ≡ shown e → e.kind ≡ kind.Woken
    → KeepsLaw s a (place.Flag x) (flag_word true) (step.Woken x) b
flags s items ruled x a b fits h e held shows woken = record {
  allowed = (e, agrees.0, held ∙ ap (λ (k : ℕ). Some k) (sym agrees.1));
  stored = tt;
  orderly = (woken_untaken s items ruled x e agrees.0 woken, λ d is. one d is);
  places = still_places s a (step.Woken x) refl refl;
  links = off_links s a (step.Woken x) tt;
  leaves = flag_leaves s a x true false b s.taken _ _ ruled.lawful fits;
}
  where
    agrees : Agrees h (shown e) (s.entry x)
    agrees = subst (λ (l : Look). Agrees h l (s.entry x)) shows
        ((ruled.whole.kept.facts.views a).hold.agrees h x held)

    one : (d : Entry) → s.entry x ≡ Some d → d.kind ≡ kind.Woken
    one d is =
        let both : Some e ≡ Some d = sym agrees.0 ∙ is in
        let same : e ≡ d = cc in ap (λ (f : Entry). f.kind) (sym same) ∙ woken

-- the task's own flag may be loaded and cleared
module _ (s : Table) (items : ℕ → List Item) (ruled : IsRuled s items) (x a : ℕ) (b : Book) (fits : Fits (s.task a) b)
    (mine : owner x ≡ a) where
  pub flag_loads : KeepsLaw s a (place.Flag x) (done_word (s.flag x) (s.done x))
      (step.Flag x (done_word (s.flag x) (s.done x))) b
  flag_loads = record {
    allowed = (mine, done_read_back (s.flag x) (s.done x));
    stored = tt;
    orderly = tt;
    places = still_places s a (step.Flag x (done_word (s.flag x) (s.done x))) refl refl;
    links = off_links s a (step.Flag x (done_word (s.flag x) (s.done x))) tt;
    leaves = load_leaves s a (place.Flag x) b _ _ ruled.lawful fits;
  }

  -- The flag may be cleared where no page is taken for the task and no entry of its own for a page stands, or where its
  -- history has none stored.
  pub unflags : (o : Option ℕ) → s.taken x ≡ o → ((s.taken x ≡ None) × IsPageless (s.entry x))
      ⊎ IsPageless ((s.view a).bits.stored x) → KeepsLaw s a (place.Flag x) (flag_word false) (step.Unflag x o) b
  unflags o taken pageless = record {
    allowed = (mine, taken);
    stored = tt;
    orderly = pageless;
    places = still_places s a (step.Unflag x o) refl refl;
    links = off_links s a (step.Unflag x o) tt;
    leaves = flag_leaves s a x false false b (put s.taken x None) _ _ ruled.lawful fits;
  }
