-- A selection goes over the members of a hold, by their positions, and takes each entry off.
use Rattle.std.proofs.Common.{◌∙◌, ap, sym, refl, subst, inl, inr, arith}
use Rattle.std.specs.Prelude.{ℕ, zero, suc, ◌+◌, ◌≡◌, ◌<◌, ◌≤◌, true, Option, Some, None}
use Rattle.std.specs.Prelude.{List, length, take, slice_index_or}
use Rattle.wait_model.specs.{declared.queues.Member.Member, Queues.rank, Queues.IsIn, Watches.counted}
use Rattle.wait_model.specs.declared.layout.TheConstants.{ENTRIES, MEMBERS, FIRST_SIMPLE_HEAD}
use Rattle.wait_rule.specs.{Known.Known, Says.noted}
use Rattle.wait_rule.specs.Queues.{IsWholeBook, MayRise, place_by}
use Rattle.wait_rule.specs.Shown.{shown_queue, queue_with, queue_below}
use Rattle.wq_head.specs.{declared.looks.ShownMember.ShownMember, Holds.IsHolding, Looks.Looks, Members.AreStanding}
use Rattle.wq_head.specs.{Members.member_of, Selecting.IsFirstEntry, Selecting.HasSelectedFirst}
use Rattle.wq_head.specs.Selects.{HasSelected, IsSimpleHold, KeepsHold, SelectsMany, ShowsNoEntry, EndsSelection}
use Rattle.wq_head.specs.Selects.{simple_aim}
use Rattle.wq_head.proofs.{CountedLooks.marked_longer, MemberStands.shown_place, SimpleEntries.simple_counted}
use Rattle.wq_head.proofs.{FullHeads.one_of, FullHeads.same_self}
use Rattle.wq_head.proofs.KeptHolds.{hold_on, hold_looks, hold_holds}
use Rattle.wq_head.proofs.QueuePositions.{at_in, split, is_before, one_more, take_more, take_last}
use Rattle.wq_head.proofs.ShownQueue.{queue_in_order, queue_has, queue_of}
use Rattle.std.proofs.lemmas.List.{take_all}

-- a head has as many members as there are, at most
few_with : (at : ℕ → Option ℕ) (n : ℕ) → length (queue_below at n) ≤ n → (o : Option ℕ)
    → length (queue_with n o (queue_below at n)) ≤ suc n
few_with at n few None = omega (arith, few)
few_with at n few (Some p) =
    let more = marked_longer (record { at = n; place = p }) (queue_below at n) in
    omega (arith, few, more)

few_below : (at : ℕ → Option ℕ) (n : ℕ) → length (queue_below at n) ≤ n
few_below at zero = omega arith
few_below at (suc n) = few_with at n (few_below at n) (at n)

pub queue_few : (k : Known) → length (shown_queue k) ≤ MEMBERS
unfolding shown_queue
queue_few k = few_below (place_by k) MEMBERS

-- The hold has gone over the first members of the queue that it found, and selected so many entries: those among them
-- are off, and all others stand as they did.
pub record InSelection (old now found : Known) (i n : ℕ) : Type 0 where
  pub looks : Looks old found
  pub selects : SelectsMany found n now
  pub keeps : KeepsHold old now
  pub holding : IsHolding now
  pub simple : FIRST_SIMPLE_HEAD ≤ now.at
  pub whole : IsWholeBook now
  pub standing : AreStanding now MEMBERS
  pub used : 0 < n → (noted now).used ≡ true
  pub few : n ≤ i
  pub stood : (m p : ℕ) → m < MEMBERS → place_by now m ≡ Some p → place_by found m ≡ Some p
  pub gone : (m p : ℕ) → m < ENTRIES → place_by now m ≡ Some p
      → IsIn (record { at = m; place = p }) (take i (shown_queue found)) → ⊥
  pub still : (m p : ℕ) → m < ENTRIES → place_by found m ≡ Some p
      → (IsIn (record { at = m; place = p }) (take i (shown_queue found)) → ⊥) → place_by now m ≡ Some p

pub selection_starts : (old new : Known) → IsHolding old → FIRST_SIMPLE_HEAD ≤ old.at → Looks old new → IsWholeBook new
    → AreStanding new MEMBERS → InSelection old new new 0 0
selection_starts old new held high l whole standing =
    let k = hold_looks old new l in record {
      looks = l;
      selects = refl;
      keeps = k;
      holding = hold_holds old new k held;
      simple = subst (λ (h : ℕ). FIRST_SIMPLE_HEAD ≤ h) (sym k.at) high;
      whole = whole;
      standing = standing;
      used = λ some. absurd (omega arith);
      few = omega arith;
      stood = λ m p low at. at;
      gone = λ m p low at is. absurd is;
      still = λ m p low at none. at;
    }

module _ (old now found : Known) (i n : ℕ) (h : InSelection old now found i n) where
  abbrev queue : List Member
  queue = shown_queue found

  -- the member at the position
  module _ (s : ShownMember) (inside : i < length queue)
      (here : member_of s ≡ slice_index_or queue i (member_of s)) where
    is_member : (s.member < MEMBERS) × (place_by found s.member ≡ Some s.place)
    is_member = queue_has found (member_of s) (subst (λ (x : Member). IsIn x queue) (sym here)
        (at_in queue i (member_of s) inside))

    not_before : IsIn (member_of s) (take i queue) → ⊥
    not_before is =
        let r = is_before queue i (member_of s) (queue_in_order found) inside (member_of s) is in
        let same : rank (member_of s) ≡ rank (slice_index_or queue i (member_of s)) = ap rank here in
        omega (arith, r, same)

    -- an entry there is the first one
    pub first_here : s.member < ENTRIES → IsFirstEntry now s.member
    first_here low = record {
      holding = h.holding;
      simple = h.simple;
      whole = h.whole;
      standing = h.standing;
      counts = low;
      place = s.place;
      stands = h.still s.member s.place low is_member.1 not_before;
      least = λ m p small at.
          let in_all : m < MEMBERS = omega (arith, small) in
          let stood = h.stood m p in_all at in
          elim (split queue i (member_of s) (queue_in_order found) inside (record { at = m; place = p })
          (queue_of found (record { at = m; place = p }) in_all stood)) [
            | inl before ↦ absurd (h.gone m p small at before)
            | inr later ↦ subst (λ (x : Member). rank x ≤ rank (record { at = m; place = p })) (sym here) later
          ];
    }

    -- a bookmark is passed
    pub passes_mark : ENTRIES ≤ s.member → InSelection old now found (i + 1) n
    passes_mark far = record {
      looks = h.looks;
      selects = h.selects;
      keeps = h.keeps;
      holding = h.holding;
      simple = h.simple;
      whole = h.whole;
      standing = h.standing;
      used = h.used;
      few = let f = h.few in omega (arith, f);
      stood = h.stood;
      gone = λ m p low at is. elim (one_more queue i (member_of s) (record { at = m; place = p }) inside is) [
        | inl before ↦ h.gone m p low at before
        | inr same ↦
            let a : m ≡ s.member = ap (λ (x : Member). x.at) (same ∙ sym here) in
            absurd (omega (arith, a, low, far))
      ];
      still = λ m p low at none. h.still m p low at (λ before.
          none (take_more queue i (record { at = m; place = p }) before));
    }

    -- an entry was selected
    pub takes_entry : s.member < ENTRIES → (new : Known) → HasSelectedFirst now new s.member
        → InSelection old new found (i + 1) (n + 1)
    takes_entry low new t = record {
      looks = h.looks;
      selects = subst (λ (j : ℕ). SelectsMany found j new) (let e : suc n ≡ n + 1 = omega arith in e)
          (now, h.selects, t.selects);
      keeps = hold_on old now new h.keeps t.keeps;
      holding = hold_holds now new t.keeps h.holding;
      simple = subst (λ (g : ℕ). FIRST_SIMPLE_HEAD ≤ g) (sym t.keeps.at) h.simple;
      whole = t.whole;
      standing = t.standing;
      used = λ some. t.used;
      few = let f = h.few in omega (arith, f);
      stood = λ m p all at. h.stood m p all (t.stood m p all at);
      gone = λ m p small at is. elim (one_more queue i (member_of s) (record { at = m; place = p }) inside is) [
        | inl before ↦ h.gone m p small (t.stood m p (omega (arith, small)) at) before
        | inr same ↦
            let a : m ≡ s.member = ap (λ (x : Member). x.at) (same ∙ sym here) in
            let none : None ≡ Some p = sym t.is_off ∙ (ap (place_by new) (sym a) ∙ at) in
            absurd (cc)
      ];
      still = λ m p small at none. t.others m p (omega (arith, small)) (λ a.
          none (at_position m p a at)) (h.still m p small at (λ before.
          none (take_more queue i (record { at = m; place = p }) before)));
    }
      where
        at_position : (m p : ℕ) → m ≡ s.member → place_by found m ≡ Some p
            → IsIn (record { at = m; place = p }) (take (i + 1) queue)
        at_position m p a at =
            let both : Some s.place ≡ Some p = sym is_member.1 ∙ (ap (place_by found) (sym a) ∙ at) in
            let same_place : s.place ≡ p = cc in
            subst (λ (x : Member). IsIn x (take (i + 1) queue)) (λ j. record { at = sym a j; place = same_place j })
            (subst (λ (x : Member). IsIn x (take (i + 1) queue)) (sym here) (take_last queue i (member_of s) inside))

  -- what the selection has done
  pub selection_is : (most : ℕ) → EndsSelection now most n → HasSelected old now most n
  selection_is most ends = record {
    seen = found;
    looks = h.looks;
    selects = h.selects;
    whole = h.whole;
    ends = ends;
  }

  pub selection_rises : 0 < n → IsSimpleHold now → MayRise now true
  selection_rises some s = record {
    used = λ _. h.used some;
    counts = λ walk is _.
        let both : Some walk ≡ Some s.walk = sym is ∙ s.under.under in
        let walk_is : walk ≡ s.walk = cc in
        inl (ap (λ (v : _). counted v.watch) walk_is
        ∙ (sym (one_of (simple_aim now.at).watch s.walk.watch (s.under.watch (simple_aim now.at).watch
        ∙ same_self (simple_aim now.at).watch)).counts ∙ simple_counted now.at));
  }

  -- at the end no entry is left
  pub none_left : length queue ≤ i → ShowsNoEntry now
  none_left end x e low is =
      let at = shown_place now x e low is in
      h.gone x e.place low at (subst (λ (q : List Member). IsIn (record { at = x; place = e.place }) q)
      (sym (take_all i queue end)) (queue_of found (record { at = x; place = e.place }) (omega (arith, low))
      (h.stood x e.place (omega (arith, low)) at)))
