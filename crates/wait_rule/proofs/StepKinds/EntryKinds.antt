-- Each kind of step on an entry word keeps the law.
use Rattle.std.proofs.Common.{refl, sym, ◌∙◌, ap, subst, inl, inr}
use Rattle.std.specs.Prelude.{ℕ, ◌≡◌, ◌≢◌, ◌<◌, ◌⊎◌, true, false, Option, Some, None, List}
use Rattle.wait_model.specs.{declared.layout.TheConstants.ENTRIES, declared.watches.Entry.Entry}
use Rattle.wait_model.specs.{declared.steps.Step.Step, declared.tasks.TaskRecord.TaskRecord, Functions.put}
use Rattle.wait_model.specs.{Permits.HandsOn, Rows.Suits, Facts.Agrees, Locations.Location, Locations.word_in}
use Rattle.wait_model.specs.Watches.{head_of, owner, is_page}
use Rattle.wait_model.specs.Words.{entry_word, entry_of, Suited}
use Rattle.wait_model.specs.Views.{View as Told, Look, off, shown}
use Rattle.wait_model.specs.Tables.{AreBitsLow, Table, Words}
use Rattle.wait_model.specs.declared.steps.Step.TheVariants as step
use Rattle.wait_model.specs.Locations as place
use Rattle.wait_model.proofs.WordLaws.CondWords.{suits_of}
use Rattle.wait_model.proofs.WordLaws.DecodedWords.{entry_read, none_read}
use Rattle.wait_model.proofs.Functions.{put_at, put_same, put_other}
use Rattle.wait_rule.specs.{declared.journal.Item.Item, Asked.nothing_asked, Asked.all_asked, Pages.uses_flag}
use Rattle.wait_rule.specs.{Rule.IsLawfulTable, Rule.IsRuled, Queues.saw}
use Rattle.wait_rule.specs.Items.{Difference, nothing, at_entry, page_told, Book, with_difference, Fits}
use Rattle.wait_rule.specs.Members.{IsStanding, IsOwnKind, IsEntryWord}
use Rattle.wait_rule.proofs.{KnownLaws.HeadLinks.off_links, KnownLaws.OwnEntries.IsFair, KnownLaws.PageSteps.not_both}
use Rattle.wait_rule.proofs.{KnownLaws.StandingKinds.may_ask, TableSteps.KeptSteps.Leaves}
use Rattle.wait_rule.proofs.TableSteps.KeptSteps.{KeepsLaw}
use Rattle.wait_rule.proofs.KnownLaws.MemberPlaces.{KeepsPlaces, still_places, unqueue_places}

-- what a task names as different says nothing of its own word
pub fits_difference : (t : TaskRecord) (b : Book) (d : Difference) → Fits t b → Fits t (with_difference d b)
fits_difference t b d f = record { up = f.up; stored = f.stored; rose = f.rose }

-- what a step leaves that changes no task word
pub tasks_stay : (s z : Table) (a : ℕ) (l : Location) (n : ℕ) (b : Book) → ((t : ℕ) → z.task t ≡ s.task t)
    → IsLawfulTable z → Fits (s.task a) b → word_in z l ≡ n → ((k : Location) → k ≢ l → word_in z k ≡ word_in s k)
    → Leaves s z a l n b
tasks_stay s z a l n b tasks lawful f left rest = record {
  lawful = lawful;
  own = subst (λ (t : TaskRecord). Fits t b) (sym (tasks a)) f;
  others = λ t ne c g. subst (λ (r : TaskRecord). Fits r c) (sym (tasks t)) g;
  left = left;
  rest = rest;
}

-- what a step on an entry word leaves
entry_leaves : (s : Table) (a x : ℕ) (o : Option Entry) (b : Book) (history : ℕ → List Step) (view : ℕ → Told)
    → IsLawfulTable s → Fits (s.task a) b → ((e : Entry) → o ≡ Some e → IsStanding x e)
    → Leaves s (record s { entry = put s.entry x o; history = history; view = view }) a (place.Entry x) (entry_word o) b
entry_leaves s a x o b history view l f standing = tasks_stay s _ a (place.Entry x) (entry_word o) b (λ t. refl) (record {
  tasks = l.tasks;
  entries = λ y e. put_at (λ (p : Option Entry). p ≡ Some e → IsStanding y e) s.entry x o y
      (λ q is. subst (λ (i : ℕ). IsStanding i e) (sym q) (standing e is)) (λ _. l.entries y e);
  marks = l.marks;
  spent = l.spent;
  bits = l.bits;
}) f (ap entry_word (put_same s.entry x o)) rest_of
  where
    rest_of : (k : Location) → k ≢ place.Entry x
        → word_in (record s { entry = put s.entry x o; history = history; view = view }) k ≡ word_in s k
    rest_of (place.Entry i) ne = ap entry_word (put_other s.entry x o i (λ e. ne (ap place.Entry e)))
    rest_of k ne = refl

-- what a step leaves that changes words of conditions, and one that changes nothing, as a load
abbrev pub with_words : Table → Words → (ℕ → Option ℕ) → (ℕ → List Step) → (ℕ → Told) → Table
with_words s w pages history view = record s { words = w; taken = pages; history = history; view = view }

pub words_leave : (s : Table) (a : ℕ) (w : Words) (l : Location) (n : ℕ) (b : Book) (pages : ℕ → Option ℕ)
    (history : ℕ → List Step) (view : ℕ → Told) → IsLawfulTable s → Fits (s.task a) b → AreBitsLow w
    → word_in (with_words s w pages history view) l ≡ n
    → ((k : Location) → k ≢ l → word_in (with_words s w pages history view) k ≡ word_in s k)
    → Leaves s (with_words s w pages history view) a l n b
words_leave s a w l n b pages history view lawful f low left rest = tasks_stay s _ a l n b (λ t. refl) (record {
  tasks = lawful.tasks;
  entries = lawful.entries;
  marks = lawful.marks;
  spent = lawful.spent;
  bits = low;
}) f left rest

pub load_leaves : (s : Table) (a : ℕ) (l : Location) (b : Book) (history : ℕ → List Step) (view : ℕ → Told)
    → IsLawfulTable s → Fits (s.task a) b
    → Leaves s (record s { history = history; view = view }) a l (word_in s l) b
load_leaves s a l b history view w f = words_leave s a s.words l (word_in s l) b s.taken history view w f w.bits (same l)
    (λ k ne. same k)
  where
    same : (k : Location) → word_in (record s { history = history; view = view }) k ≡ word_in s k
    same place.Base = refl
    same k = refl

-- a kind that suits its watch suits it as the laws ask
pub suits : (e : Entry) → Suited e.watch e.kind → Suits e
suits e h = suits_of e.watch e.kind h

module _ (s : Table) (items : ℕ → List Item) (ruled : IsRuled s items) (x : ℕ) where
  -- the word of a standing entry shows it
  pub reads : entry_of (entry_word (s.entry x)) ≡ s.entry x
  reads = by (s.entry x) refl
    where
      by : (o : Option Entry) → s.entry x ≡ o → entry_of (entry_word o) ≡ o
      by None q = none_read
      by (Some e) q = entry_read e (ruled.lawful.entries x e q).lawful

  pub is_entry : IsEntryWord x (entry_word (s.entry x))
  is_entry = record {
    entry = s.entry x;
    spells = refl;
    reads = reads;
    standing = λ e q. ruled.lawful.entries x e q;
  }

  module _ (a : ℕ) (b : Book) (fits : Fits (s.task a) b) where
    pub sees : (o : Option ℕ) → (s.view a).hold.head ≡ o
        → KeepsLaw s a (place.Entry x) (entry_word (s.entry x)) (saw o x (entry_word (s.entry x))) b
    sees None out = record {
      allowed = (reads, out);
      stored = tt;
      orderly = tt;
      places = still_places s a (step.Peek x (entry_word (s.entry x))) refl refl;
      links = off_links s a (step.Peek x (entry_word (s.entry x))) tt;
      leaves = load_leaves s a (place.Entry x) b _ _ ruled.lawful fits;
    }
    sees (Some h) held = record {
      allowed = reads;
      stored = tt;
      orderly = tt;
      places = still_places s a (step.Saw x (entry_word (s.entry x))) refl refl;
      links = off_links s a (step.Saw x (entry_word (s.entry x))) tt;
      leaves = load_leaves s a (place.Entry x) b _ _ ruled.lawful fits;
    }

    -- an own entry that the hold shows off is off
    own_off : (h : ℕ) → owner x ≡ a → (s.view a).hold.head ≡ Some h → (s.view a).hold.book x ≡ off → s.entry x ≡ None
    own_off h mine held shows = by (s.entry x) refl
      where
        gone : (s.view a).bits.stored x ≡ None
        gone = (ruled.whole.kept.facts.views a).bits.seen h x held shows

        by : (o : Option Entry) → s.entry x ≡ o → o ≡ None
        by None is = refl
        by (Some e) is = absurd (let z : (s.view a).bits.stored x ≡ Some e =
            subst (λ (u : ℕ). (s.view u).bits.stored x ≡ Some e) mine (ruled.whole.kept.bits.stored_is x e is) in
            cc (gone))

    pub queues : (e : Entry) → x < ENTRIES → owner x ≡ a → IsStanding x e
        → (s.view a).hold.head ≡ Some (head_of e.watch) → (s.view a).hold.book x ≡ off
        → KeepsPlaces s a (step.Queue x e) → b.differs ≡ nothing → HandsOn s a (step.Queue x e)
        → (uses_flag e.kind ≡ true → all_asked items a ≡ nothing_asked)
        → KeepsLaw s a (place.Entry x) (entry_word (Some e)) (step.Queue x e) b
    queues e inside mine standing held shows places clear hands asks = record {
      allowed = (
        mine,
        inside,
        own_off (head_of e.watch) mine held shows,
        held,
        suits e standing.lawful.suited,
        shows,
      );
      stored = hands;
      orderly = (clear, may_ask s items ruled a x e standing asks);
      places = places;
      links = off_links s a (step.Queue x e) tt;
      leaves = entry_leaves s a x (Some e) (with_difference (at_entry x true) b) _ _ ruled.lawful
          (fits_difference (s.task a) b (at_entry x true) fits)
          (λ d is. subst (IsStanding x) (let z : e ≡ d = cc in z) standing);
    }

    pub unqueues : (h : ℕ) (e : Entry) → (s.view a).hold.head ≡ Some h → (s.view a).hold.book x ≡ shown e
        → (owner x ≡ a) ⊎ (IsOwnKind e.kind → ⊥)
        → (((b.differs ≡ nothing) × ((owner x ≡ a) ⊎ (is_page e.kind ≡ false))) ⊎ (b.differs ≡ page_told x))
        × (x < ENTRIES)
        → KeepsLaw s a (place.Entry x) 0 (step.Unqueue x) b
    unqueues h e held shows may clear = record {
      allowed = (e, agrees.0, held ∙ ap (λ (k : ℕ). Some k) (sym agrees.1));
      stored = fair may;
      orderly = (
        elim clear.0 [
          | inl n ↦ inl (n.0, λ d is paged. own_page n.1 d is paged)
          | inr t ↦ inr t
        ],
        clear.1,
      );
      places = unqueue_places s a x;
      links = off_links s a (step.Unqueue x) tt;
      leaves = entry_leaves s a x None (with_difference (at_entry x false) b) _ _ ruled.lawful
          (fits_difference (s.task a) b (at_entry x false) fits) (λ d is. absurd (cc));
    }
      where
        agrees : Agrees h (shown e) (s.entry x)
        agrees = subst (λ (l : Look). Agrees h l (s.entry x)) shows
            ((ruled.whole.kept.facts.views a).hold.agrees h x held)

        same : (d : Entry) → s.entry x ≡ Some d → d ≡ e
        same d is = let both : Some d ≡ Some e = sym is ∙ agrees.0 in cc

        own_page : (owner x ≡ a) ⊎ (is_page e.kind ≡ false) → (d : Entry) → s.entry x ≡ Some d
            → is_page d.kind ≡ true → owner x ≡ a
        own_page (inl mine) d is paged = mine
        own_page (inr none) d is paged = not_both (is_page d.kind) paged
            (ap (λ (c : Entry). is_page c.kind) (same d is) ∙ none)

        fair : (owner x ≡ a) ⊎ (IsOwnKind e.kind → ⊥) → IsFair s a (step.Unqueue x)
        fair (inl mine) = inl mine
        fair (inr other) = inr (λ d is own.
            other (subst (λ (c : Entry). IsOwnKind c.kind) (same d is) own))
