-- The functions of entries that take the entry off where its task was woken: of kind Autoremove, Var and Bit.
use Rattle.std.proofs.Common.{◌∙◌, ap, sym, refl, subst, inl, inr, eq-eqb, eqb-true, arith}
use Rattle.std.specs.Prelude.{ℕ, ◌+◌, ◌%◌, ◌≡◌, ◌<◌, ◌≤◌, ◌⊎◌, ◌&&◌, ◌||◌, ◌==◌, not, Bool, true, false, if◌then◌else◌}
use Rattle.std.specs.Prelude.{Option, Some, None, List, [], ◌∷◌, ◌++◌}
use Rattle.wait_model.specs.{declared.layout.TheConstants.SLOTS, declared.layout.TheConstants.ENTRIES}
use Rattle.wait_model.specs.{declared.watches.Entry.Entry, declared.watches.Kind.Kind, declared.watches.Aim.Aim}
use Rattle.wait_model.specs.{declared.queues.Walking.Walking, declared.points.Next.Next, Tasks.meets, Tasks.task_of}
use Rattle.wait_model.specs.{Programs.past, Programs.reached, Rows.MaySpend}
use Rattle.wait_model.specs.Watches.{owner, mask_of, same, counted, is_bit, is_woken, is_page, is_simple}
use Rattle.wait_model.specs.Views.{View as Told, Walk, Look, off, shown, gone, passed, is_trying_for}
use Rattle.wait_model.specs.Fold.{after, met_task, is_off, picks}
use Rattle.wait_model.specs.declared.watches.Kind.TheVariants as kind
use Rattle.wait_model.specs.declared.points.Point.TheVariants as at
use Rattle.wait_model.specs.declared.points.WalkPoint.TheVariants as walking
use Rattle.wait_model.specs.declared.points.Next.TheVariants as next
use Rattle.wait_model.specs.declared.steps.Step.TheVariants as step
use Rattle.wait_model.proofs.Functions.{both_left, put_at}
use Rattle.wait_rule.specs.declared.journal.Item.TheVariants as item
use Rattle.wait_rule.specs.{Known.Known, Members.IsOwnKind, Members.IsStanding, Notes.Notes, Notes.is_simple_look}
use Rattle.wait_rule.specs.Shown.{look_entry}
use Rattle.wait_rule.specs.Says.{told_of, noted, stored_with}
use Rattle.wait_rule.specs.Queues.{MayUnqueue, place_by, index}
use Rattle.wait_rule.specs.Transitions.{Transition, by_step, walk_program, Goes}
use Rattle.wait_rule.proofs.{KnownLaws.AfterSteps.told_added, KnownLaws.MemberBits.told_stored}
use Rattle.wait_rule.proofs.{KnownLaws.MemberBits.noted_stored, KnownLaws.Transitions.goes_on}
use Rattle.wq_head.specs.{declared.functions.ShownEntry.ShownEntry, Walks.IsFull}
use Rattle.wq_head.specs.Walking.{IsAhead, StaysInWalk, IsPassing, IsHeld, IsCalling, IsNextEntry, HasCalled, TakesOff}
use Rattle.wq_head.specs.Walking.{WakesOff, woke_by, SamePlaces, entry_called, rest_of, next_in_walk}
use Rattle.wq_head.proofs.{CalledEntries.called_less, PastMembers.passed_more}
use Rattle.wq_head.proofs.EntryFunctions.{keeps_on, keeps_same, gone_woke, under_one, counted_spends, wake_keeps}
use Rattle.wq_head.proofs.EntryFunctions.{wake_calling, wake_places, wake_shows}
use Rattle.wq_head.proofs.EntryWakes.{blank_seen, wake_transition, auto_goes, var_goes, off_goes}
use Rattle.wq_head.proofs.FullHeads.{IsOne, one_of, same_self, var_only}
use Rattle.wq_head.proofs.QuietSteps.{off_marks, off_keeps, off_walking, off_stays}
use Rattle.wq_head.proofs.ShownMembers.{whole_off, standing_off, places_off, off_entry}

-- the kinds of entries that are taken off so
takes_by : (kd : Kind) → (kd ≡ kind.Default → ⊥) → (kd ≡ kind.Woken → ⊥) → is_woken kd ≡ false → is_simple kd ≡ false
    → is_page kd ≡ false → TakesOff kd
takes_by kd default woken rings simple unpaged = record {
  default = default;
  woken = woken;
  rings = rings;
  simple = simple;
  unpaged = unpaged;
}

pub off_auto : (kd : Kind) → kd ≡ kind.Autoremove → TakesOff kd
off_auto kd is = takes_by kd (λ d. absurd (cc)) (λ d. absurd (cc)) (ap is_woken is) (ap is_simple is) (ap is_page is)

pub off_var : (kd : Kind) → kd ≡ kind.Var → TakesOff kd
off_var kd is = takes_by kd (λ d. absurd (cc)) (λ d. absurd (cc)) (ap is_woken is) (ap is_simple is) (ap is_page is)

pub off_bit : (kd : Kind) → kd ≡ kind.Bit → TakesOff kd
off_bit kd is = takes_by kd (λ d. absurd (cc)) (λ d. absurd (cc)) (ap is_woken is) (ap is_simple is) (ap is_page is)

-- such an entry is none that its task alone takes off
not_own : (e d : Entry) → TakesOff e.kind → Some e ≡ Some d → IsOwnKind d.kind → ⊥
not_own e d takes is own =
    let here : e ≡ d = cc in
    let kind_is : e.kind ≡ d.kind = ap (λ (f : Entry). f.kind) here in
    elim own [ inl default ↦ takes.default (kind_is ∙ default) | inr woken ↦ takes.woken (kind_is ∙ woken) ]

-- an entry that is no simple one uses up no count as it is taken off
used_still : (u s m : Bool) → s ≡ false → (u || (s && m)) ≡ u
used_still true s m none = refl
used_still false false m none = refl
used_still false true m none = absurd (cc)

-- an entry that is taken off is passed
off_passes : (a : Aim) (k : Known) (x : ℕ) (walk : Walk) (place : ℕ) → IsPassing k walk place
    → IsPassing (stored_with k (step.Unqueue x)) walk place
off_passes a k x walk place p = subst (λ (u : Told). (y : ℕ) → y < ENTRIES
    → (passed walk u (λ _. false) (u.hold.book y) y ≡ true)
    ⊎ ((f : Entry) × (look_entry (u.hold.book y) ≡ Some f) × (place ≤ f.place)))
    (sym (told_stored k (step.Unqueue x))) by
  where
    by : (y : ℕ) → y < ENTRIES → (passed walk (after (step.Unqueue x) (told_of k)) (λ _. false)
        ((after (step.Unqueue x) (told_of k)).hold.book y) y ≡ true)
        ⊎ ((f : Entry) × (look_entry ((after (step.Unqueue x) (told_of k)).hold.book y) ≡ Some f) × (place ≤ f.place))
    by y low = put_at (λ (l : Look). (passed walk (after (step.Unqueue x) (told_of k)) (λ _. false) l y ≡ true)
        ⊎ ((f : Entry) × (look_entry l ≡ Some f) × (place ≤ f.place))) (told_of k).hold.book x off y
        (λ _. inl refl) (λ _. elim (p y low) [
          | inl done ↦ inl (passed_more walk (told_of k) (after (step.Unqueue x) (told_of k)) (λ _. false) (λ _. false)
              ((told_of k).hold.book y) y (λ q s. s) (λ f g. g) done)
          | inr c ↦ inr c
        ])

four : (a b c d : Bool) → a ≡ true → b ≡ true → c ≡ true → d ≡ true → (a && (b && (c && d))) ≡ true
four true true true d one two three last = last
four true true false d one two three last = absurd (cc)
four true false c d one two three last = absurd (cc)
four false b c d one two three last = absurd (cc)

six : (p a b c d : Bool) → a ≡ true → b ≡ true → c ≡ true → d ≡ true
    → (p || ((a && b) && (c && (d && (true && true))))) ≡ true
six true a b c d one two three last = refl
six false true true true true one two three last = refl
six false true true true false one two three last = absurd (cc)
six false true true false d one two three last = absurd (cc)
six false true false c d one two three last = absurd (cc)
six false false b c d one two three last = absurd (cc)

-- where the walk is after the wake of such an entry
abbrev pub onto : Aim → ShownEntry → Walking → Walking → Bool → Next
onto a v w real b = next.Go (at.Walk (if b
    then walking.Unqueue (past (reached real w.calls) (entry_called v) b) (owner v.member)
    else walking.Call (past (reached real w.calls) (entry_called v) b)))

-- the wake of its task
module _ (a : Aim) (k : Known) (v : ShownEntry) (full : IsFull a.watch) (w : Walking) (n : IsNextEntry a k w v)
    (found : ℕ) (takes : TakesOff v.entry.kind) where
  abbrev woke : Known
  woke = woke_by a k v found

  gone_by_wake : gone (after (step.Wake (owner v.member) (mask_of a.mode) found) (told_of k)) v.member v.entry ≡ true
  gone_by_wake = gone_woke a k v full w n (owner v.member) (mask_of a.mode) found refl refl takes.rings
      takes.unpaged

  answered : (answer : Bool) → answer ≡ met_task (mask_of a.mode) found
      → IsCalling a woke (v.entry.place + 1) (rest_of a (past w (entry_called v) answer))
  answered answer same = subst (λ (b : Bool). IsCalling a woke (v.entry.place + 1) (rest_of a (past w (entry_called v) b)))
      (sym same) (wake_calling a k v full w n (owner v.member) (mask_of a.mode) found refl refl gone_by_wake)

  roused_is : true ≡ met_task (mask_of a.mode) found → (told_of woke).hold.roused (owner v.member) ≡ true
  roused_is same = ap (λ (u : Told). u.hold.roused (owner v.member)) (told_added k (item.Made
      (step.Wake (owner v.member) (mask_of a.mode) found)))
      ∙ roused ((told_of k).hold.roused (owner v.member)) (met_task (mask_of a.mode) found)
      (owner v.member == owner v.member) (sym same) (eq-eqb (owner v.member) (owner v.member) refl)
    where
      roused : (r d m : Bool) → d ≡ true → m ≡ true → (r || (d && m)) ≡ true
      roused true d m one two = refl
      roused false true m one two = two
      roused false false m one two = absurd (cc)

  -- the entry may be taken off
  pub off_may : true ≡ met_task (mask_of a.mode) found → (slot : ℕ) → index (owner v.member) slot ≡ v.member
      → MayUnqueue woke (owner v.member) slot
  off_may same slot at_v = record {
    entry = v.entry;
    shows = ap (told_of woke).hold.book at_v
        ∙ wake_shows a k v full w n (owner v.member) (mask_of a.mode) found refl refl gone_by_wake;
    may = inr ((takes.default, (takes.woken, takes.unpaged)), inl (roused_is same));
  }

  -- it is taken off
  module _ (hit : true ≡ met_task (mask_of a.mode) found) where
    abbrev x : ℕ
    x = v.member

    abbrev gone_off : Known
    gone_off = stored_with woke (step.Unqueue v.member)

    told : told_of gone_off ≡ after (step.Unqueue x) (told_of woke)
    told = told_stored woke (step.Unqueue x)

    woke_shows : (told_of woke).hold.book x ≡ shown v.entry
    woke_shows = wake_shows a k v full w n (owner v.member) (mask_of a.mode) found refl refl gone_by_wake

    woke_stored : (told_of woke).bits.stored x ≡ (told_of k).bits.stored v.member
    woke_stored = ap (λ (u : Told). u.bits.stored v.member) (told_added k (item.Made
        (step.Wake (owner v.member) (mask_of a.mode) found)))

    loose : (slot : ℕ) → slot < SLOTS → x ≡ index k.view.number slot → (e : Entry)
        → (told_of woke).bits.stored x ≡ Some e → IsOwnKind e.kind → ⊥
    loose slot few at e was own = not_own v.entry e takes
        (sym (n.own slot few at) ∙ (sym woke_stored ∙ was)) own

    calling_off : IsCalling a gone_off (v.entry.place + 1) (rest_of a (past w (entry_called v) true))
    calling_off =
        let was = answered true hit in
        let rest = rest_of a (past w (entry_called v) true) in
        let notes = noted_stored woke (step.Unqueue x) in
        let book = ap (λ (u : Told). u.hold.book) told in
        let marks = off_marks a woke x in record {
          walking = off_walking a woke x (v.entry.place + 1) (v.entry.place + 1) rest rest was.walking
              (ap (λ (m : Notes). m.walk) notes ∙ was.walking.held.aim)
              (ap (λ (m : Notes). m.used) notes
              ∙ (used_still (noted woke).used (is_simple_look ((told_of woke).hold.book x))
              ((noted woke).normal (owner x)) (ap is_simple_look woke_shows ∙ takes.simple) ∙ was.walking.held.used))
              (called_less a woke gone_off (v.entry.place + 1) (ap (λ (m : Notes). m.from) notes)
              (ap (λ (m : Notes). m.called) notes) (λ m f _ some. off_entry woke gone_off x v.entry book marks refl
              woke_shows m f some) was.walking.called)
              (off_passes a woke x was.walking.held.walk (v.entry.place + 1));
          whole = whole_off woke gone_off x v.entry book marks refl woke_shows was.whole;
          standing = standing_off woke gone_off x v.entry book marks refl woke_shows was.standing;
        }

    standing : IsStanding v.member v.entry
    standing =
        let low = n.counts in
        ((n.calling.standing v.member (omega arith)).entry low v.entry (ap look_entry n.shows)).0

    entry_one : IsOne v.entry.watch a.watch
    entry_one = one_of v.entry.watch a.watch n.sought

    own_index : owner v.member ≡ k.view.number → v.member ≡ index k.view.number (v.member % SLOTS)
    unfolding owner
    own_index is = omega (arith, is)

    -- so the walk has taken off the entry that it selected, which is none of its own task
    not_mine : is_bit a.watch ≡ true → v.entry.exclusive ≡ true → (told_of woke).bits.stored x ≡ None
    not_mine bit exclusive = woke_stored ∙ by (owner v.member == k.view.number) refl
      where
        tries_it : is_trying_for (Some v.entry) v.entry.watch ≡ true
        tries_it = four v.entry.exclusive (is_bit v.entry.watch) (same v.entry.watch v.entry.watch)
            (not (is_page v.entry.kind)) exclusive (entry_one.bit ∙ bit) (same_self v.entry.watch)
            (ap not takes.unpaged)

        by : (b : Bool) → (owner v.member == k.view.number) ≡ b → (told_of k).bits.stored v.member ≡ None
        by false other = n.foreign (λ is. let z = eq-eqb (owner v.member) k.view.number is in absurd (cc))
        by true is =
            let own = n.own (v.member % SLOTS) (omega arith)
            (own_index (eqb-true (owner v.member) k.view.number is)) in
            let none = n.calling.walking.held.tries bit v.member v.entry.watch in
            let z : true ≡ false = sym tries_it
            ∙ (sym (ap (λ (s : Option Entry). is_trying_for s v.entry.watch) own) ∙ none) in
            absurd (cc)

    picked_is : is_bit a.watch ≡ true → v.entry.exclusive ≡ true → (told_of gone_off).hold.picked ≡ true
    picked_is bit exclusive =
        let held = (answered true hit).walking.held in
        ap (λ (u : Told). u.hold.picked) told
        ∙ ((λ i. (told_of woke).hold.picked || picks (held.under.under i) (woke_shows i) (roused_x i)
        (not (is_off (not_mine bit exclusive i))))
        ∙ six (told_of woke).hold.picked v.entry.exclusive (not (is_page v.entry.kind)) (is_bit held.walk.watch)
        (same v.entry.watch held.walk.watch) exclusive (ap not takes.unpaged)
        (sym (under_one a woke (rest_of a (past w (entry_called v) true)) held).bit ∙ bit)
        (held.under.watch v.entry.watch ∙ n.sought))
      where
        roused_x : (told_of woke).hold.roused (owner x) ≡ true
        roused_x = roused_is hit

    -- and it may raise the spent count where it used up its count
    off_spends : (past w (entry_called v) true).spent ≡ true → MaySpend (told_of gone_off) true
    off_spends is = by (counted a.watch) refl
      where
        exclusive : v.entry.exclusive ≡ true
        exclusive = both_left v.entry.exclusive (w.left == 1) is

        held : IsHeld a gone_off (rest_of a (past w (entry_called v) true))
        held = calling_off.walking.held

        of_bit : is_bit a.watch ≡ true → MaySpend (told_of gone_off) true
        of_bit bit walk under _ =
            let both : Some walk ≡ Some held.walk = sym under ∙ held.under.under in
            let walk_is : walk ≡ held.walk = cc in
            inr (
              ap (λ (t : Walk). is_bit t.watch) walk_is
                  ∙ (sym (under_one a gone_off (rest_of a (past w (entry_called v) true)) held).bit ∙ bit),
              picked_is bit exclusive,
            )

        of_other : counted a.watch ≡ false → (b : Bool) → is_bit a.watch ≡ b → MaySpend (told_of gone_off) true
        of_other uncounted true bit = of_bit bit
        of_other uncounted false none =
            let z : true ≡ false = sym exclusive ∙ var_only v.member v.entry standing (entry_one.counts ∙ uncounted)
            (entry_one.bit ∙ none) in
            absurd (cc)

        by : (b : Bool) → counted a.watch ≡ b → MaySpend (told_of gone_off) true
        by true counts = counted_spends a gone_off (rest_of a (past w (entry_called v) true)) held counts
        by false uncounted = of_other uncounted (is_bit a.watch) refl

-- It came after a step that leaves the hold's book, or after none: `k0` is before that step.
module _ (a : Aim) (k0 k : Known) (v : ShownEntry) (full : IsFull a.watch) (w : Walking) (n : IsNextEntry a k w v)
    (takes : TakesOff v.entry.kind) (to_k : StaysInWalk a k0 k)
    (places : SamePlaces (v.entry.place + 1) (place_by k0) (place_by k))
    (first : (found : ℕ) (real : Walking) → IsAhead a k0 w real → (transitions : List Transition)
    × Goes (walk_program a) k0 (next.Go (at.Walk (walking.Call real))) transitions (woke_by a k v found)
    (onto a v w real (meets (mask_of a.mode) (task_of found).state))) where
  woke_keeps : (found : ℕ) → StaysInWalk a k0 (woke_by a k v found)
  woke_keeps found = keeps_on a k0 k (woke_by a k v found) to_k
      (wake_keeps a k v full w n (owner v.member) (mask_of a.mode) found refl refl
      (gone_by_wake a k v full w n found takes))

  woke_places : (found : ℕ) → SamePlaces (v.entry.place + 1) (place_by k0) (place_by (woke_by a k v found))
  woke_places found m p low over =
      let one = places m p low over in
      let two = wake_places a k v full w n (owner v.member) (mask_of a.mode) found refl refl
      (gone_by_wake a k v full w n found takes) m p low over in
      (λ is. two.0 (one.0 is), λ is. one.1 (two.1 is))

  goes_by : (found : ℕ) (answer : Bool) → answer ≡ met_task (mask_of a.mode) found → (real : Walking)
      → IsAhead a k0 w real → (transitions : List Transition)
      × Goes (walk_program a) k0 (next.Go (at.Walk (walking.Call real))) transitions (woke_by a k v found)
      (onto a v w real answer)
  goes_by found answer same real c = let g = first found real c in (
    g.0,
    subst (λ (b : Bool). Goes (walk_program a) k0 (next.Go (at.Walk (walking.Call real))) g.0 (woke_by a k v found)
        (onto a v w real b)) (sym same) g.1,
  )

  -- the entry stays
  off_not : (found : ℕ) → false ≡ met_task (mask_of a.mode) found → HasCalled a k0 (woke_by a k v found) w v false
  off_not found same = record {
    goes = goes_by found false same;
    keeps = woke_keeps found;
    calling = answered a k v full w n found takes false same;
    same = woke_places found;
    spends = λ is. absurd (cc);
  }

  -- it is taken off
  off_now : (found : ℕ) → true ≡ met_task (mask_of a.mode) found
      → HasCalled a k0 (stored_with (woke_by a k v found) (step.Unqueue v.member)) w v true
  off_now found same =
      let woke = woke_by a k v found in
      let out = stored_with woke (step.Unqueue v.member) in
      let shows = woke_shows a k v full w n found takes same in
      let book = ap (λ (u : Told). u.hold.book) (told_stored woke (step.Unqueue v.member)) in
      let behind = places_off woke out v.member v.entry book (off_marks a woke v.member) refl shows in
      let last : List Transition = record {
        seen = blank_seen (task_of found);
        knew = woke;
        did = by_step (step.Unqueue v.member);
      } ∷ [] in record {
        goes = λ real c. let g = goes_by found true same real c in (
          g.0 ++ last,
          goes_on (walk_program a) k0 woke out (next.Go (at.Walk (walking.Call real))) (onto a v w real true)
              (next_in_walk (past (reached real w.calls) (entry_called v) true)) g.0 last g.1
              (off_goes a v w real woke v.member (task_of found) refl (ap look_entry shows)),
        );
        keeps = keeps_on a k0 woke out (woke_keeps found)
            (off_keeps a woke v.member (off_stays woke v.member (loose a k v full w n found takes same)));
        calling = calling_off a k v full w n found takes same;
        same = λ m p low over. (
          λ is. (behind m p low over).0 ((woke_places found m p low over).0 is),
          λ is. (woke_places found m p low over).1 ((behind m p low over).1 is),
        );
        spends = off_spends a k v full w n found takes same;
      }

  pub off_called : (new : Known) (answer : Bool) → WakesOff a k new v answer → HasCalled a k0 new w v answer
  off_called new answer o = by answer o.met o.is
    where
      by : (b : Bool) → b ≡ met_task (mask_of a.mode) o.found
          → new ≡ (if b then stored_with (woke_by a k v o.found) (step.Unqueue v.member) else woke_by a k v o.found)
          → HasCalled a k0 new w v b
      by true met is = subst (λ (j : Known). HasCalled a k0 j w v true) (sym is) (off_now o.found met)
      by false met is = subst (λ (j : Known). HasCalled a k0 j w v false) (sym is) (off_not o.found met)

-- an entry of kind Autoremove or Var, where nothing comes before the wake
module _ (a : Aim) (k new : Known) (v : ShownEntry) (full : IsFull a.watch) (w : Walking) (n : IsNextEntry a k w v)
    (yes_no : Bool) (o : WakesOff a k new v yes_no) where
  none_before : SamePlaces (v.entry.place + 1) (place_by k) (place_by k)
  none_before m p low over = (λ is. is, λ is. is)

  off_either : (v.entry.kind ≡ kind.Autoremove) ⊎ (v.entry.kind ≡ kind.Var) → TakesOff v.entry.kind
  off_either (inl auto) = off_auto v.entry.kind auto
  off_either (inr var) = off_var v.entry.kind var

  pub off_called_at_once : (v.entry.kind ≡ kind.Autoremove) ⊎ (v.entry.kind ≡ kind.Var) → HasCalled a k new w v yes_no
  off_called_at_once is = off_called a k k v full w n (off_either is) (keeps_same a k) none_before
      (λ found real c. (
        wake_transition a k v full w n real c (owner v.member) (mask_of a.mode) found refl refl ∷ [],
        elim is [
          | inl auto ↦ auto_goes a k v full w n real c (owner v.member) (mask_of a.mode) found refl refl auto
          | inr var ↦ var_goes a k v full w n real c (owner v.member) (mask_of a.mode) found refl refl var
        ],
      )) new yes_no o
