-- Each kind of step on a bookmark word keeps the law.
use Rattle.std.proofs.Common.{refl, sym, ◌∙◌, ap, subst, arith}
use Rattle.std.specs.Prelude.{ℕ, ◌≡◌, ◌≢◌, true, false, Option, Some, None, List}
use Rattle.wait_model.specs.{declared.queues.Mark.Mark, declared.steps.Step.Step, Functions.put, Views.View as Told}
use Rattle.wait_model.specs.Fold.{after}
use Rattle.wait_model.specs.Tables.{Table, next, mark_of}
use Rattle.wait_model.specs.Locations.{Location, word_in, mark_word}
use Rattle.wait_model.specs.declared.steps.Step.TheVariants as step
use Rattle.wait_model.specs.Locations as place
use Rattle.wait_model.proofs.WordLaws.DecodedWords.{mark_read, no_mark_read}
use Rattle.wait_model.proofs.Functions.{put_at, put_same, put_other}
use Rattle.wait_rule.specs.declared.journal.Item.{Item}
use Rattle.wait_rule.specs.Items.{nothing, at_mark, Book, with_difference, Fits}
use Rattle.wait_rule.proofs.StepKinds.EntryKinds.{fits_difference, tasks_stay}
use Rattle.wait_rule.specs.Notes.{Notes, Glance, unknown, away, there, note_step}
use Rattle.wait_rule.specs.Members.{IsStandingMark, IsMarkWord, MarkAgrees}
use Rattle.wait_rule.specs.Rule.{IsLawfulTable, IsRuled, AreLinked}
use Rattle.wait_rule.proofs.KnownLaws.HeadLinks.{KeepsLinks, both_at}
use Rattle.wait_rule.proofs.KnownLaws.MemberPlaces.{KeepsPlaces, unmark_places}
use Rattle.wait_rule.proofs.TableSteps.KeptSteps.{Leaves, KeepsLaw}

-- what a step on a bookmark word leaves
mark_leaves : (s : Table) (a : ℕ) (o : Option Mark) (b : Book) (history : ℕ → List Step) (view : ℕ → Told)
    → IsLawfulTable s → Fits (s.task a) b → ((m : Mark) → o ≡ Some m → IsStandingMark m)
    → Leaves s (record s { mark = put s.mark a o; history = history; view = view }) a (place.Bookmark a) (mark_word o) b
mark_leaves s a o b history view l f standing = tasks_stay s _ a (place.Bookmark a) (mark_word o) b (λ t. refl) (record {
  tasks = l.tasks;
  entries = l.entries;
  marks = λ t m. put_at (λ (p : Option Mark). p ≡ Some m → IsStandingMark m) s.mark a o t
      (λ _ is. standing m is) (λ _. l.marks t m);
  spent = l.spent;
  bits = l.bits;
}) f (ap mark_word (put_same s.mark a o)) rest_of
  where
    rest_of : (k : Location) → k ≢ place.Bookmark a
        → word_in (record s { mark = put s.mark a o; history = history; view = view }) k ≡ word_in s k
    rest_of (place.Bookmark i) ne = ap mark_word (put_other s.mark a o i (λ e. ne (ap place.Bookmark e)))
    rest_of k ne = refl

-- the bookmark of a head, by its place or none
abbrev at_head : ℕ → Option ℕ → Option Mark
at_head h None = None
at_head h (Some q) = Some (record { head = h; place = q })

abbrev glance_of : Option ℕ → Glance
glance_of None = away
glance_of (Some q) = there q

-- a change of a bookmark at another head is none at this one
elsewhere : (h i : ℕ) (g : Glance) (old new : Option ℕ) → h ≢ i → MarkAgrees i g (at_head h old)
    → MarkAgrees i g (at_head h new)
elsewhere h i unknown old new ne m = tt
elsewhere h i away old None ne m = λ k e. absurd (cc)
elsewhere h i away old (Some q) ne m = λ k e q2. ne (ap (λ (z : Mark). z.head)
    (let y : record { head = h; place = q } ≡ k = cc in y) ∙ q2)
elsewhere h i (there p) None new ne m = absurd (cc)
elsewhere h i (there p) (Some q) new ne m = absurd
    (ne (ap (λ (z : Mark). z.head) (let y : ◌≡◌ {A = Mark} (record { head = h; place = q })
    (record { head = i; place = p }) = cc in y)))

agrees_here : (h : ℕ) (o : Option ℕ) → MarkAgrees h (glance_of o) (at_head h o)
agrees_here h None = λ k e. absurd (cc)
agrees_here h (Some q) = refl

-- a store of the own bookmark, in a hold of the head at which it stands or will stand
module _ (s : Table) (a h : ℕ) (old new : Option ℕ) (e : Step) (held : (s.view a).hold.head ≡ Some h)
    (was : s.mark a ≡ at_head h old)
    (one : (x y i : ℕ) → (s.view x).hold.head ≡ Some i → (s.view y).hold.head ≡ Some i → x ≡ y)
    (is : next s a e ≡ record s {
      mark = put s.mark a (at_head h new);
      history = (next s a e).history;
      view = put s.view a (after e (s.view a));
    })
    (head : (v : Told) → (after e v).hold.head ≡ v.hold.head) (found : (v : Told)
    → (after e v).checks.found ≡ v.checks.found)
    (own : (v : Told) (k : Notes) → (note_step a e v k).own ≡ at_head h new)
    (marks : (v : Told) (k : Notes) → (note_step a e v k).marks ≡ put k.marks a (glance_of new)) where
  abbrev V : ℕ → Told
  V = put s.view a (after e (s.view a))

  abbrev M : ℕ → Option Mark
  M = put s.mark a (at_head h new)

  -- what another task, or this one, has seen of the bookmarks of its head
  still_shown : (notes : ℕ → Notes) → AreLinked s notes → (d i t : ℕ) → d ≢ a → (s.view d).hold.head ≡ Some i
      → MarkAgrees i ((notes d).marks t) (M t)
  still_shown notes r d i t ne q = put_at (λ (o : Option Mark). MarkAgrees i ((notes d).marks t) o) s.mark a
      (at_head h new) t
      (λ same. elsewhere h i ((notes d).marks t) old new
      (λ z. ne (one d a h (q ∙ ap (λ (j : ℕ). Some j) (sym z)) held))
      (subst (MarkAgrees i ((notes d).marks t)) (ap s.mark same ∙ was) (r.shown d i t q)))
      (λ _. r.shown d i t q)

  own_shown : (notes : ℕ → Notes) → AreLinked s notes → (i t : ℕ) → (s.view a).hold.head ≡ Some i
      → MarkAgrees i (put (notes a).marks a (glance_of new) t) (M t)
  own_shown notes r i t q = both_at (λ (g : Glance) (o : Option Mark). MarkAgrees i g o) (notes a).marks s.mark a
      (glance_of new) (at_head h new) t
      (λ _. subst (λ (j : ℕ). MarkAgrees j (glance_of new) (at_head h new)) (let z : h ≡ i = cc in z)
      (agrees_here h new))
      (λ _. r.shown a i t q)

  mark_links : KeepsLinks s a e
  mark_links notes r = subst (λ (z : Table). AreLinked z (put notes a (note_step a e (s.view a) (notes a)))) (sym is)
      (record {
        holder = λ i x.
            let d = r.holder i x in (
              d.0,
              put_at (λ (v : Told). v.hold.head ≡ Some i) s.view a (after e (s.view a)) d.0
                  (λ same. head (s.view a) ∙ (ap (λ (j : ℕ). (s.view j).hold.head) (sym same) ∙ d.1)) (λ _. d.1),
            );
        spent = λ d i. put_at (λ (v : Told). v.hold.head ≡ Some i → s.spent i ≡ v.checks.found i) s.view a
            (after e (s.view a)) d
            (λ same q. r.spent a i (sym (head (s.view a)) ∙ q) ∙ ap (λ (f : ℕ → ℕ). f i) (sym (found (s.view a))))
            (λ _ q. r.spent d i q);
        own = λ t. both_at (λ (o : Option Mark) (k : Notes). o ≡ k.own) s.mark notes a (at_head h new)
            (note_step a e (s.view a) (notes a)) t (λ _. sym (own (s.view a) (notes a))) (λ _. r.own t);
        shown = λ d i t. both_at (λ (v : Told) (k : Notes). v.hold.head ≡ Some i → MarkAgrees i (k.marks t) (M t))
            s.view notes a (after e (s.view a)) (note_step a e (s.view a) (notes a)) d
            (λ _ q. subst (λ (f : ℕ → Glance). MarkAgrees i (f t) (M t)) (sym (marks (s.view a) (notes a)))
            (own_shown notes r i t (sym (head (s.view a)) ∙ q)))
            (λ ne q. still_shown notes r d i t ne q);
      })

module _ (s : Table) (items : ℕ → List Item) (ruled : IsRuled s items) where
  pub mark_reads : (t : ℕ) → mark_of (mark_word (s.mark t)) ≡ s.mark t
  mark_reads t = by (s.mark t) refl
    where
      by : (o : Option Mark) → s.mark t ≡ o → mark_of (mark_word o) ≡ o
      by None q = no_mark_read
      by (Some m) q =
          let l = ruled.lawful.marks t m q in
          let h = l.head in
          mark_read m (omega arith) l.high

  pub is_mark : (t : ℕ) → IsMarkWord (mark_word (s.mark t))
  is_mark t = record {
    mark = s.mark t;
    spells = refl;
    reads = mark_reads t;
    standing = λ m q. ruled.lawful.marks t m q;
  }

  module _ (a h : ℕ) (b : Book) (fits : Fits (s.task a) b) (held : (s.view a).hold.head ≡ Some h) where
    pub marks : (q : ℕ) → s.mark a ≡ None → IsStandingMark (record { head = h; place = q })
        → KeepsPlaces s a (step.Mark h q) → b.differs ≡ nothing
        → KeepsLaw s a (place.Bookmark a) (mark_word (Some (record { head = h; place = q }))) (step.Mark h q) b
    marks q none standing places clear = record {
      allowed = held;
      stored = tt;
      orderly = (clear, none);
      places = places;
      links = mark_links s a h None (Some q) (step.Mark h q) held none ruled.whole.kept.facts.one_holder refl
          (λ v. refl) (λ v. refl) (λ v k. refl) (λ v k. refl);
      leaves = mark_leaves s a (Some (record { head = h; place = q })) (with_difference (at_mark true) b) _ _
          ruled.lawful (fits_difference (s.task a) b (at_mark true) fits)
          (λ m e. subst IsStandingMark (let z : record { head = h; place = q } ≡ m = cc in z) standing);
    }

    pub unmarks : (q : ℕ) → s.mark a ≡ Some (record { head = h; place = q }) → b.differs ≡ nothing
        → KeepsLaw s a (place.Bookmark a) 0 step.Unmark b
    unmarks q was clear = record {
      allowed = (h, held);
      stored = tt;
      orderly = (clear, (h, q, held, was));
      places = unmark_places s a;
      links = mark_links s a h (Some q) None step.Unmark held was ruled.whole.kept.facts.one_holder refl
          (λ v. refl) (λ v. refl) (λ v k. refl) (λ v k. refl);
      leaves = mark_leaves s a None (with_difference (at_mark false) b) _ _ ruled.lawful
          (fits_difference (s.task a) b (at_mark false) fits) (λ m e. absurd (cc));
    }
