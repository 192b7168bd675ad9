-- The function of an entry for a page: it tries the page for the entry's task, and stops the walk where the page is
-- taken.
use Rattle.std.proofs.Common.{◌∙◌, ap, sym, refl, inl, arith}
use Rattle.std.proofs.lemmas.Bool.{or_right}
use Rattle.std.specs.Prelude.{ℕ, ◌≡◌, not, Bool, true, false, Option, [], ◌∷◌}
use Rattle.wait_model.specs.{declared.layout.TheConstants.MEMBERS, declared.watches.Watch.Watch}
use Rattle.wait_model.specs.{declared.watches.Aim.Aim, declared.queues.Walking.Walking, declared.steps.Step.Step}
use Rattle.wait_model.specs.{Fold.after, Fold.is_for_page, Programs.reached}
use Rattle.wait_model.specs.Watches.{is_bit, is_page, misses, page, same, was_clear, word_of}
use Rattle.wait_model.specs.Views.{View as Told, Walk, is_trying_for}
use Rattle.wait_model.specs.declared.watches.Kind.TheVariants as kind
use Rattle.wait_model.specs.declared.points.Point.TheVariants as at
use Rattle.wait_model.specs.declared.points.WalkPoint.TheVariants as walking
use Rattle.wait_model.specs.declared.points.PageStage.TheVariants as staging
use Rattle.wait_model.specs.declared.points.Next.TheVariants as next
use Rattle.wait_model.specs.declared.steps.Step.TheVariants as step
use Rattle.wait_rule.specs.declared.journal.Item.TheVariants as item
use Rattle.wait_rule.specs.{Items.after_try, Known.Known, Members.IsStanding, Notes.Notes, PageCalls.MayTryFor}
use Rattle.wait_rule.specs.{Queues.IsWholeBook, Queues.index, Shown.look_entry, Stays.Stays, Stays.no_entries}
use Rattle.wait_rule.specs.Transitions.{walk_program}
use Rattle.wait_rule.specs.Says.{added, noted, told_of}
use Rattle.wait_rule.proofs.{KnownLaws.AfterSteps.told_added, KnownLaws.AfterSteps.noted_added}
use Rattle.wait_rule.proofs.{KnownLaws.Debts.step_debts, KnownLaws.StayingParts.stays_bits}
use Rattle.wait_rule.proofs.KnownLaws.Transitions.{goes_on}
use Rattle.wq_head.specs.{declared.functions.ShownEntry.ShownEntry, Members.AreStanding, Walks.IsFull, Walks.IsOfPage}
use Rattle.wq_head.specs.Walking.{HasStopped, IsHeld, IsNextEntry, StaysInWalk, rest_of}
use Rattle.wq_head.proofs.{EntryFunctions.keeps_on, EntryWakes.load_transition, EntryWakes.page_goes}
use Rattle.wq_head.proofs.{PassedBits.past_all, ShownMembers.standing_same, ShownMembers.whole_same}
use Rattle.wq_head.proofs.BitEntries.{set_moot, tested, tested_keeps, tested_next}
use Rattle.wq_head.proofs.FullHeads.{kind_page, page_same, same_self}
use Rattle.wq_head.proofs.PageTransitions.{at_stage, try_goes, try_transition}

-- the walk is one for the page of the entry at hand
module _ (a : Aim) (k : Known) (v : ShownEntry) (w : Walking) (n : IsNextEntry a k w v)
    (is : v.entry.kind ≡ kind.Page) where
  stands : IsStanding v.member v.entry
  stands =
      let low = n.counts in
      ((n.calling.standing v.member (omega arith)).entry low v.entry (ap look_entry n.shows)).0

  pub page_here : IsOfPage a.watch
  page_here = let p = kind_page v.member v.entry stands is in
      (p.0, page_same v.entry.watch a.watch p.0 p.1 n.sought)

  pub page_is : a.watch ≡ page (word_of a.watch)
  page_is = page_here.1 ∙ ap (λ (c : Watch). page (word_of c)) (sym page_here.1)

  pub page_bit : is_bit a.watch ≡ true
  page_bit = ap is_bit page_here.1

  pub entry_page : v.entry.watch ≡ page (word_of a.watch)
  entry_page = let p = kind_page v.member v.entry stands is in
      p.1 ∙ ap (λ (c : Watch). page (word_of c)) (sym (page_same v.entry.watch a.watch p.0 p.1 n.sought))

  -- it may be tried for the entry's task
  pub may_try : (who slot word : ℕ) → index who slot ≡ v.member → word ≡ word_of a.watch → MayTryFor k who slot word
  may_try who slot word at_v of = record {
    entry = v.entry;
    shows = ap (told_of k).hold.book at_v ∙ n.shows;
    kind = ap is_page is;
    watch = entry_page ∙ ap page (sym of);
  }

  -- what its word shows
  pub clear_is : (r : ℕ) → misses a.watch r ≡ false → was_clear (page (word_of a.watch)) r ≡ true
  clear_is r clear = ap not (ap (λ (c : Watch). misses c r) (sym page_is) ∙ clear)

  pub set_is : (r : ℕ) → misses a.watch r ≡ true → was_clear (page (word_of a.watch)) r ≡ false
  set_is r set = ap not (ap (λ (c : Watch). misses c r) (sym page_is) ∙ set)

  -- the model's walk is for it too
  pub for_page : is_for_page (told_of k).walk (word_of a.watch) ≡ true
  for_page =
      let held = n.calling.walking.held in
      ap (λ (o : Option Walk). is_for_page o (word_of a.watch)) held.under.under
      ∙ (held.under.watch (page (word_of a.watch)) ∙ (ap (λ (c : Watch). same c a.watch) (sym page_is)
      ∙ same_self a.watch))

-- the page is tried for the entry's task
module _ (a : Aim) (k : Known) (v : ShownEntry) (full : IsFull a.watch) (w : Walking) (n : IsNextEntry a k w v)
    (is : v.entry.kind ≡ kind.Page) (r : ℕ) where
  abbrev pub tries : Step
  tries = step.TasFor v.member (word_of a.watch) r

  abbrev pub tried : Known
  tried = added k (item.Made tries)

  pub told_tried : told_of tried ≡ after tries (told_of k)
  told_tried = told_added k (item.Made tries)

  pub noted_tried : noted tried ≡ noted k
  noted_tried = noted_added k (item.Made tries)

  pub tried_moot : (told_of tried).hold.moot ≡ true
  tried_moot = ap (λ (u : Told). u.hold.moot) told_tried ∙ or_right (told_of k).hold.moot
      (is_for_page (told_of k).walk (word_of a.watch)) (for_page a k v w n is)

  pub tried_stays : Stays no_entries k tried
  tried_stays = stays_bits k tried refl refl refl refl (ap (λ (u : Told). u.bits) told_tried)
      (step_debts k tried tries refl refl)

  pub tried_keeps : StaysInWalk a k tried
  tried_keeps = record {
    stays = tried_stays;
    owes = inl (λ c σ. ap (λ (u : Told). u.duty.owes c σ) told_tried);
  }

  -- it was taken
  module _ (set : misses a.watch r ≡ true) where
    pub tried_held : IsHeld a tried (rest_of a w)
    tried_held =
        let h = n.calling.walking.held in record {
          up = h.up;
          holding = record {
            locked = h.holding.locked;
            agreed = ap (λ (c : Bool). after_try v.member c k.book.differs) (set_is a k v w n is r set)
                ∙ h.holding.agreed;
            told = ap (λ (u : Told). u.hold.head) told_tried ∙ h.holding.told;
          };
          at = h.at;
          aim = ap (λ (m : Notes). m.walk) noted_tried ∙ h.aim;
          used = ap (λ (m : Notes). m.used) noted_tried ∙ h.used;
          clear = ap (λ (m : Notes). m.own) noted_tried ∙ h.clear;
          unmarked = ap (λ (u : Told). u.mark) told_tried ∙ h.unmarked;
          tries = λ bit x c. ap (λ (u : Told). is_trying_for (u.bits.stored x) c) told_tried ∙ h.tries bit x c;
          walk = h.walk;
          under = record {
            under = ap (λ (u : Told). u.walk) told_tried ∙ h.under.under;
            watch = h.under.watch;
            mask = h.under.mask;
          };
        }

    pub tried_whole : IsWholeBook tried
    tried_whole = whole_same k tried (ap (λ (u : Told). u.hold.book) told_tried)
        (ap (λ (m : Notes). m.marks) noted_tried) refl n.calling.whole

    pub tried_standing : AreStanding tried MEMBERS
    tried_standing = standing_same k tried (ap (λ (u : Told). u.hold.book) told_tried)
        (ap (λ (m : Notes). m.marks) noted_tried) refl n.calling.standing

-- the walk stops where the load of the word shows the page taken
module _ (a : Aim) (k : Known) (v : ShownEntry) (full : IsFull a.watch) (w : Walking) (n : IsNextEntry a k w v)
    (is : v.entry.kind ≡ kind.Page) (r : ℕ) where
  abbrev pub looked : Known
  looked = tested a k v full w n r (page_bit a k v w n is)

  pub looked_next : IsNextEntry a looked w v
  looked_next = tested_next a k v full w n r (page_bit a k v w n is)

  pub looked_keeps : StaysInWalk a k looked
  looked_keeps = tested_keeps a k v full w n r (page_bit a k v w n is)

  pub look_stops : misses a.watch r ≡ true → HasStopped a k looked w
  look_stops set = record {
    goes = λ real c. (load_transition a k v full w n real c r ∷ [], page_goes a k v full w n real c r true set is);
    keeps = looked_keeps;
    all = past_all a full looked (rest_of a w) looked_next.calling.walking.held looked_next.calling.whole
        looked_next.calling.standing (page_bit a k v w n is)
        (set_moot a k v full w n r (page_bit a k v w n is) set);
    page = page_here a k v w n is;
  }

  -- and where the test-and-set after it finds it taken
  pub try_stops : misses a.watch r ≡ false → (t : ℕ) → misses a.watch t ≡ true
      → HasStopped a k (tried a looked v full w looked_next is t) w
  try_stops clear t set =
      let last = tried a looked v full w looked_next is t in record {
        goes = λ real c. (
          load_transition a k v full w n real c r ∷ try_transition a v w real looked t ∷ [],
          goes_on (walk_program a) k looked last (next.Go (at.Walk (walking.Call real)))
              (next.Go (at.Walk (at_stage a v w real staging.Try)))
              (next.Go (at.Walk (walking.Stopped (reached real w.calls))))
              (load_transition a k v full w n real c r ∷ []) (try_transition a v w real looked t ∷ [])
              (page_goes a k v full w n real c r false clear is)
              (try_goes a v w real looked t true set (ap look_entry looked_next.shows)),
        );
        keeps = keeps_on a k looked last looked_keeps (tried_keeps a looked v full w looked_next is t);
        all = past_all a full last (rest_of a w) (tried_held a looked v full w looked_next is t set)
            (tried_whole a looked v full w looked_next is t set) (tried_standing a looked v full w looked_next is t set)
            (page_bit a k v w n is) (tried_moot a looked v full w looked_next is t);
        page = page_here a k v w n is;
      }
