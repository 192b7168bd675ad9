-- Entries, bookmarks and queues keep agreeing after each event that changes them.
use Rattle.std.proofs.lemmas.Bool.Decides.{nat_tests}
use Rattle.std.proofs.Common.{refl, sym, ◌∙◌, ap, subst, arith}
use Rattle.std.specs.Prelude.{ℕ, ◌≡◌, ◌≢◌, ◌+◌, ◌-◌, ◌*◌, ◌<◌, ◌≤◌, nat_lt, ◌&&◌, not, if◌then◌else◌, Option, Some}
use Rattle.std.specs.Prelude.{None, Bool, true, false, List}
use Rattle.wait_model.specs.{declared.watches.Entry.Entry, declared.queues.Member.Member, declared.queues.Mark.Mark}
use Rattle.wait_model.specs.{declared.watches.Watch.Watch, declared.queues.Form.Form, declared.points.Given.Given}
use Rattle.wait_model.specs.Functions.{put}
use Rattle.wait_model.specs.declared.layout.TheConstants.{TASKS, ENTRIES, HEADS, PLACES, INDEXES, EVENTS}
use Rattle.wait_model.specs.Runs.{own, own_mark, entry_for, arrives_from, mark_for}
use Rattle.wait_model.specs.Reached.{first_of, IsWithinAdds, IsQueued, IsBookmark, IsOrdered, IsLinked}
use Rattle.wait_model.specs.Watches.{head_of, bare, is_var, is_for, is_simple}
use Rattle.wait_model.specs.Words.{entry_word, Suited, entry_of}
use Rattle.wait_model.specs.Queues.{stand_by, stand_of, rank, rank_at, members_from, mark_place, mark_add, place_for}
use Rattle.wait_model.specs.Queues.{add_to, is_exclusive, is_priority, is_entry, without, IsIn}
use Rattle.wait_model.specs.declared.watches.Watch.TheVariants as watch
use Rattle.wait_model.proofs.QueueLaws.Arrivals.{from_in, arrives_in}
use Rattle.wait_model.proofs.QueueLaws.QueueMarks.{marked_in, mark_in, unmarked_in, order_marked}
use Rattle.wait_model.proofs.QueueLaws.QueuePlaces.{Adds, IsPlaceOfForm, form_adds}
use Rattle.wait_model.proofs.QueueLaws.MemberStands.{ordered_later, ordered_added, ordered_removed, entry_stands}
use Rattle.wait_model.proofs.QueueLaws.MemberStands.{mark_stands, some_stands}
use Rattle.wait_model.proofs.WordLaws.DecodedWords.{entry_read, none_read}
use Rattle.wait_model.proofs.Functions.{put_at, put_same, put_other}

nothing : (k : Mark) → None ≡ Some k → ⊥
nothing k e = cc

-- one more event
queued_later : (n x : ℕ) (e : Entry) → IsQueued n x e → IsQueued (n + 1) x e
queued_later n x e q = record {
  shared = q.shared;
  task = q.task;
  is_own = q.is_own;
  number = q.number;
  lawful = q.lawful;
  above = (let above : first_of e.priority ≤ e.place + 2 * n = q.above in omega arith);
  below = (let below : e.place ≤ first_of e.priority + 2 * n = q.below in omega arith);
}

module _ (entry : ℕ → Option Entry) (mark : ℕ → Option Mark) (queue : ℕ → List Member) (n : ℕ)
    (l : IsLinked entry mark queue n) where
  pub later : IsLinked entry mark queue (n + 1)
  later = record {
    entries = λ x e s. queued_later n x e (l.entries x e s);
    marks = l.marks;
    ordered = ordered_later (stand_of entry mark) queue n l.ordered;
  }

  pub member_near : (m : Member) (h : ℕ) → IsIn m (queue h) → IsWithinAdds n m.place
  member_near m h i = (l.ordered.inside m.at (record { head = h; place = m.place }) (l.ordered.members h m i)).near

  pub member_small : (m : Member) (h : ℕ) → IsIn m (queue h) → m.at < INDEXES
  member_small m h i =
      (l.ordered.inside m.at (record { head = h; place = m.place }) (l.ordered.members h m i)).number

  -- what another entry word, or another bookmark, leaves of what stands
  entry_other : (x : ℕ) (f : Option Entry) (y : ℕ) → y ≢ x
      → stand_of (put entry x f) mark y ≡ stand_of entry mark y
  entry_other x f y ne = ap (λ (j : Option Entry). if nat_lt y ENTRIES then stand_by j else mark
      (y - ENTRIES)) (put_other entry x f y ne)

  mark_other : (t : ℕ) (f : Option Mark) (y : ℕ) → y ≢ own_mark t
      → stand_of entry (put mark t f) y ≡ stand_of entry mark y
  mark_other t f y ne = by (nat_lt y ENTRIES) refl
    where
      by : (b : Bool) → nat_lt y ENTRIES ≡ b
          → (if b then stand_by (entry y) else put mark t f (y - ENTRIES)) ≡ (if b then stand_by (entry y)
          else mark (y - ENTRIES))
      by true h = refl
      by false h =
          let u : ENTRIES ≤ y = grind (arith, nat_tests) in
          let d : y - ENTRIES ≢ t = λ e. ne (omega (arith, e)) in
          put_other mark t f (y - ENTRIES) d

  -- an add of any form
  module _ (few : n < EVENTS) (me h : ℕ) (off : entry (own me) ≡ None) (number : me < TASKS) (g : Given)
      (at_head : head_of (bare g.watch) ≡ h) (suited : Suited (bare g.watch) g.kind) (form : Form)
      (all_woken : is_var g.watch ≡ true → is_exclusive form ≡ false) where
    -- no member is the own entry
    apart : (m : Member) → IsIn m (queue h) → m.at ≢ own me
    apart m i s = nothing (record { head = h; place = m.place })
        (sym (entry_stands entry mark (own me) (omega arith) ∙ ap stand_by off)
        ∙ subst (λ (j : ℕ). stand_of entry mark j ≡ Some (record { head = h; place = m.place })) s
        (l.ordered.members h m i))

    placed : IsPlaceOfForm form (queue h) n (own me)
    placed = form_adds (queue h) n (own me) few (l.ordered.order h) (λ m i. member_near m h i)
        (λ m i. member_small m h i) (omega arith) apart form

    fits : (b : Bool) → place_for form (queue h) ≤ first_of b + 2 * (n + 1) → place_for form (queue h) < PLACES
    fits true f = omega arith
    fits false f = omega arith

    abbrev it : Entry
    it = entry_for g form (place_for form (queue h))

    shared : (c : Watch) → (is_var c ≡ true → is_exclusive form ≡ false) → is_var (bare c) ≡ true
        → (is_exclusive form && not (is_simple g.kind)) ≡ false
    shared (watch.Var u o) w v = ap (λ b. b && not (is_simple g.kind)) (w refl)
    shared _ w v = absurd (cc)

    queued : IsQueued (n + 1) (own me) it
    queued = record {
      shared = shared g.watch all_woken;
      task = me;
      is_own = refl;
      number = number;
      lawful = record { place = fits (is_priority form) placed.below; suited = suited };
      above = placed.above;
      below = placed.below;
    }

    new_entry : (y : ℕ) (d : Entry) → y ≡ own me → Some it ≡ Some d → IsQueued (n + 1) y d
    new_entry y d w s =
        let same : it ≡ d = cc in
        subst (λ (i : ℕ). IsQueued (n + 1) i d) (sym w)
        (subst (λ (c : Entry). IsQueued (n + 1) (own me) c) same queued)

    pub form_linked : IsLinked (put entry (own me) (Some it)) mark
        (put queue h (add_to form (record { at = own me; place = place_for form (queue h) }) (queue h))) (n + 1)
    form_linked = record {
      entries = λ y d. put_at (λ o. o ≡ Some d → IsQueued (n + 1) y d) entry (own me) (Some it) y
          (new_entry y d) (λ ne s. queued_later n y d (l.entries y d s));
      marks = l.marks;
      ordered = subst (λ (i : ℕ). IsOrdered (stand_of (put entry (own me) (Some it)) mark)
          (put queue i (add_to form (record { at = own me; place = place_for form (queue h) }) (queue h)))
          (n + 1)) at_head
          (ordered_added (stand_of entry mark) (stand_of (put entry (own me) (Some it)) mark) queue n (own me)
          l.ordered (entry_other (own me) (Some it))
          (entry_stands entry mark (own me) (omega arith) ∙ ap stand_by off)
          (record { head = head_of (bare g.watch); place = place_for form (queue h) })
          (some_stands (put entry (own me) (Some it)) mark (own me) it (omega arith)
          (put_same entry (own me) (Some it)))
          (omega arith) (is_priority form, placed.above, placed.below)
          (add_to form (record { at = own me; place = place_for form (queue h) }) (queue h))
          (subst (λ (i : ℕ). Adds (record { at = own me; place = place_for form (queue h) }) (queue i)
          (add_to form (record { at = own me; place = place_for form (queue h) }) (queue h))) (sym at_head)
          placed.adds));
    }

  -- an entry is taken off
  module _ (x : ℕ) (e : Entry) (was : entry x ≡ Some e) where
    small : x < ENTRIES
    small =
        let q = l.entries x e was in
        let number : q.task < TASKS = q.number in
        let is : x ≡ own q.task = q.is_own in
        omega arith

    pub linked_removed : IsLinked (put entry x None) mark
        (put queue (head_of e.watch) (without x (queue (head_of e.watch)))) (n + 1)
    linked_removed = record {
      entries = λ y d. put_at (λ o. o ≡ Some d → IsQueued (n + 1) y d) entry x None y (λ s z. absurd (cc))
          (λ ne s. queued_later n y d (l.entries y d s));
      marks = l.marks;
      ordered = ordered_removed (stand_of entry mark) (stand_of (put entry x None) mark) queue n x l.ordered
          (entry_other x None) (record { head = head_of e.watch; place = e.place })
          (some_stands entry mark x e small was)
          (entry_stands (put entry x None) mark x small ∙ ap stand_by (put_same entry x None));
    }

  -- a bookmark goes before the next member
  module _ (few : n < EVENTS) (me h : ℕ) (off : mark me ≡ None) (number : me < TASKS) (exists : h < HEADS)
      (g : Given) where
    abbrev put_down : Mark
    put_down = mark_for entry g h (queue h)

    abbrev as_member : Member
    as_member = record { at = own_mark me; place = put_down.place }

    -- before an entry, or before a bookmark
    near_before : (m : Member) (b : Bool) → IsWithinAdds n m.place
        → IsWithinAdds (n + 1) (if b then m.place - 1 else m.place)
    near_before m true (true, low, high) = (true, omega (arith, low), omega (arith, high))
    near_before m true (false, low, high) = (false, omega (arith, low), omega (arith, high))
    near_before m false (b, low, high) = (b, omega (arith, low), omega (arith, high))

    near_place : (r : Option Member) → ((m : Member) → r ≡ Some m → IsIn m (queue h))
        → IsWithinAdds (n + 1) (mark_place r)
    near_place None f = (false, omega arith, omega arith)
    near_place (Some m) f = near_before m (is_entry m) (member_near m h (f m refl))

    near : IsWithinAdds (n + 1) put_down.place
    near = near_place (arrives_from entry g.watch g.from g.calls (queue h)).member
        (λ m e. (from_in (rank_at g.from) m (queue h)
        (arrives_in (λ x. is_for g.watch (entry x.at)) g.calls (members_from (rank_at g.from) (queue h)) m e)).0)

    fits_near : (p : ℕ) → IsWithinAdds (n + 1) p → p < PLACES
    fits_near p (true, low, high) = omega (arith, high)
    fits_near p (false, low, high) = omega (arith, high)

    -- no member has the bookmark's rank
    other_rank : (x : Member) → IsIn x (queue h) → rank x ≢ rank as_member
    other_rank x i s =
        let small : x.at < INDEXES = member_small x h i in
        let at : x.at ≡ own_mark me = omega arith in
        let p : stand_of entry mark (own_mark me) ≡ Some (record { head = h; place = x.place }) =
        subst (λ (j : ℕ). stand_of entry mark j ≡ Some (record { head = h; place = x.place })) at
        (l.ordered.members h x i) in
        nothing (record { head = h; place = x.place }) (sym off ∙ sym (mark_stands entry mark me) ∙ p)

    marked_adds : Adds as_member (queue h) (mark_add as_member (queue h))
    marked_adds = record {
      added = λ y. marked_in as_member y (queue h);
      new = mark_in as_member (queue h);
      old = λ y. unmarked_in as_member y (queue h);
      order = order_marked as_member (queue h) (l.ordered.order h) other_rank;
    }

    new_mark : (y : ℕ) (d : Mark) → y ≡ me → Some put_down ≡ Some d → IsBookmark y d
    new_mark y d w s =
        let same : put_down ≡ d = cc in
        subst (λ (i : ℕ). IsBookmark i d) (sym w)
        (subst (λ (c : Mark). IsBookmark me c) same
        (record { number = number; head = exists; place = fits_near put_down.place near }))

    pub mark_linked : IsLinked entry (put mark me (Some put_down)) (put queue h (mark_add as_member (queue h)))
        (n + 1)
    mark_linked = record {
      entries = λ x e s. queued_later n x e (l.entries x e s);
      marks = λ y d. put_at (λ o. o ≡ Some d → IsBookmark y d) mark me (Some put_down) y (new_mark y d)
          (λ ne s. l.marks y d s);
      ordered = ordered_added (stand_of entry mark) (stand_of entry (put mark me (Some put_down))) queue n
          (own_mark me) l.ordered (mark_other me (Some put_down)) (mark_stands entry mark me ∙ off) put_down
          (mark_stands entry (put mark me (Some put_down)) me ∙ put_same mark me (Some put_down)) (omega arith)
          near (mark_add as_member (queue h)) marked_adds;
    }

  -- a bookmark is taken out
  module _ (me : ℕ) (k : Mark) (was : mark me ≡ Some k) where
    pub unmark_linked : IsLinked entry (put mark me None)
        (put queue k.head (without (own_mark me) (queue k.head))) (n + 1)
    unmark_linked = record {
      entries = λ x e s. queued_later n x e (l.entries x e s);
      marks = λ y d. put_at (λ o. o ≡ Some d → IsBookmark y d) mark me None y (λ s z. absurd (cc))
          (λ ne s. l.marks y d s);
      ordered = ordered_removed (stand_of entry mark) (stand_of entry (put mark me None)) queue n (own_mark me)
          l.ordered (mark_other me None) k (mark_stands entry mark me ∙ was)
          (mark_stands entry (put mark me None) me ∙ put_same mark me None);
    }

  -- an entry that is queued is lawful, so its word shows it
  pub queued_read : (x : ℕ) → entry_of (entry_word (entry x)) ≡ entry x
  queued_read x = by_entry (entry x) refl
    where
      by_entry : (o : Option Entry) → entry x ≡ o → entry_of (entry_word o) ≡ o
      by_entry None is = none_read
      by_entry (Some e) is = entry_read e (l.entries x e is).lawful
