-- A walk that comes to a stranger goes on behind it.
use Rattle.std.proofs.lemmas.Bool.Decides.{nat_tests}
use Rattle.std.proofs.Common.{◌∙◌, ap, sym, refl, inl, inr, arith}
use native.Mathlib.Decide.{dec_le}
use Rattle.std.specs.Prelude.{ℕ, ◌+◌, ◌%◌, ◌≡◌, ◌<◌, ◌≤◌, Bool, true, false, nat_lt, nat_le}
use Rattle.std.specs.Prelude.{Option, Some, List, [], ◌∷◌}
use Rattle.wait_model.specs.{declared.watches.Watch.Watch, declared.watches.Entry.Entry, declared.queues.Member.Member}
use Rattle.wait_model.specs.{Watches.same, Watches.is_for, Runs.arrives_from}
use Rattle.wait_model.specs.declared.layout.TheConstants.{ENTRIES, MEMBERS, BREAK}
use Rattle.wait_model.specs.Queues.{rank, rank_at, is_entry, members_from, arrive, IsIn, IsInOrder}
use Rattle.wait_model.proofs.QueueLaws.QueueOrder.{before_in}
use Rattle.wait_rule.specs.{Known.Known, Queues.place_by, Shown.shown_entry, Shown.shown_queue}
use Rattle.wq_head.specs.declared.looks.ShownMember.{ShownMember}
use Rattle.wq_head.specs.Members.{AreStanding, SamePlacesFrom, member_of, IsNext}
use Rattle.wq_head.proofs.{FirstAndLast.below_or, MemberStands.few, MemberStands.entry_shown}
use Rattle.wq_head.proofs.NextMembers.{on_order, on_from, from_on, widen, entry_from}

-- members of a rank or a higher one, by two ranks
from_from : (r t : ℕ) → r ≤ t → (q : List Member) → members_from t (members_from r q) ≡ members_from t q
from_from r t under [] = refl
from_from r t under (m ∷ ms) = by (nat_le r (rank m)) (nat_le t (rank m)) refl refl (from_from r t under ms)
  where
    by : (b c : Bool) → nat_le r (rank m) ≡ b → nat_le t (rank m) ≡ c
        → members_from t (members_from r ms) ≡ members_from t ms
        → members_from t (members_from r (m ∷ ms)) ≡ members_from t (m ∷ ms)
    by true true one two rest = rw (one, two) (ap (λ (l : List Member). m ∷ l) rest)
    by true false one two rest = rw (one, two) rest
    by false false one two rest = rw (one, two) rest
    by false true one two rest = absurd (grind (arith, nat_tests, under, one, two))

-- all of a list have the rank
all_from : (t : ℕ) (q : List Member) → ((x : Member) → IsIn x q → t ≤ rank x) → members_from t q ≡ q
all_from t [] all = refl
all_from t (m ∷ ms) all =
    let here = all m (inl refl) in
    let is : nat_le t (rank m) ≡ true = grind (arith, nat_tests, here) in
    rw is (ap (λ (l : List Member). m ∷ l) (all_from t ms (λ x i. all x (inr i))))

module _ (key : Member → Bool) (calls : ℕ) (under : nat_lt BREAK calls ≡ false) (s : Member)
    (is : is_entry s ≡ true) (strange : key s ≡ false) (t : ℕ) (after_s : rank s < t) where
  over : (q : List Member) → IsInOrder q → IsIn s q
      → ((x : Member) → IsIn x q → is_entry x ≡ true → rank s ≤ rank x)
      → ((x : Member) → IsIn x q → rank s < rank x → t ≤ rank x)
      → arrive key calls q ≡ arrive key (calls + 1) (members_from t q)
  over [] order i least later = absurd i
  over (m ∷ ms) order (inl e) least later = passes ∙ sym (ap (arrive key (calls + 1)) drops)
    where
      entry_m : is_entry m ≡ true
      entry_m = ap is_entry (sym e) ∙ is

      key_m : key m ≡ false
      key_m = ap key (sym e) ∙ strange

      passes : arrive key calls (m ∷ ms) ≡ arrive key (calls + 1) ms
      passes = rw (under, entry_m, key_m) refl

      low : nat_le t (rank m) ≡ false
      low = let at_m : rank m ≡ rank s = ap rank (sym e) in grind (arith, nat_tests, at_m, after_s)

      drops : members_from t (m ∷ ms) ≡ ms
      drops = rw low (all_from t ms (λ x i.
          let ahead : rank m < rank x = before_in (rank m) ms x order.0 i in
          let at_m : rank m ≡ rank s = ap rank (sym e) in
          later x (inr i) (omega (arith, ahead, at_m))))
  over (m ∷ ms) order (inr j) least later =
      by (over ms order.1 j (λ x i. least x (inr i)) (λ x i. later x (inr i))) (is_entry m) refl
    where
      ahead : rank m < rank s
      ahead = before_in (rank m) ms s order.0 j

      low : nat_le t (rank m) ≡ false
      low = grind (arith, nat_tests, ahead, after_s)

      by : arrive key calls ms ≡ arrive key (calls + 1) (members_from t ms) → (b : Bool) → is_entry m ≡ b
          → arrive key calls (m ∷ ms) ≡ arrive key (calls + 1) (members_from t (m ∷ ms))
      by rest true entry =
          let first : rank s ≤ rank m = least m (inl refl) entry in
          absurd (omega (arith, first, ahead))
      by rest false mark = rw (low, under, mark) rest

-- the next entry of a hold, where it is a stranger
module _ (k : Known) (at : ℕ → Option ℕ) (least : ℕ) (same_from : SamePlacesFrom least at k) (watch : Watch) (calls : ℕ)
    (under : calls ≤ BREAK) (s : ShownMember) (next : IsNext at ENTRIES least (Some s)) (e : Entry)
    (is : shown_entry k s.member ≡ Some e) (strange : same e.watch watch ≡ false) (standing : AreStanding k MEMBERS)
    (alone : (y : ℕ) (f : Entry) → y < ENTRIES → shown_entry k y ≡ Some f → f.place ≡ s.place → y ≡ s.member) where
  abbrev queue_on : List Member
  queue_on = members_from (rank_at least) (shown_queue k)

  stands_s : place_by k s.member ≡ Some s.place
  stands_s = (same_from s.member s.place (let low = next.0.counts in omega (arith, low)) next.0.behind).0 next.0.stands

  -- who stands behind it has another place
  behind_it : (x : Member) → IsIn x queue_on → rank (member_of s) < rank x → rank_at (s.place + 1) ≤ rank x
  behind_it x i later =
      let from = on_from k at least same_from x i in
      let low = from.counts in
      let few_s = next.0.counts in
      let there = (same_from x.at x.place low from.behind).0 from.stands in
      let not_same = other x low there later in
      omega (arith, low, few_s, later, not_same)
    where
      even_s : s.place % 2 ≡ 0
      even_s = ((standing s.member (let few_s = next.0.counts in omega (arith, few_s))).place s.place next.0.counts
          stands_s).0

      apart_x : (x : Member) → x.at < MEMBERS → place_by k x.at ≡ Some x.place → rank (member_of s) < rank x
          → x.place ≡ s.place → ⊥
      apart_x x low there later same = elim (below_or x.at ENTRIES) [
        | inl entry ↦
            let f = entry_shown k x.at x.place entry there in
            let at_s = alone x.at f.0 entry f.1 (f.2 ∙ same) in
            omega (arith, later, same, at_s)
        | inr mark ↦
            let odd = ((standing x.at low).mark x.place mark there).0 in
            let even = even_s in
            omega (arith, odd, even, same)
      ]

      other : (x : Member) → x.at < MEMBERS → place_by k x.at ≡ Some x.place → rank (member_of s) < rank x
          → s.place < x.place
      other x low there later = by (dec_le (s.place + 1) x.place)
        where
          by : Dec (s.place + 1 ≤ x.place) → s.place < x.place
          by (yes is) = omega (arith, is)
          by (no not_so) =
              let few_s = next.0.counts in
              absurd (apart_x x low there later (omega (arith, not_so, later, low, few_s)))

  pub arrives_over : arrives_from (shown_entry k) watch least calls (shown_queue k)
      ≡ arrives_from (shown_entry k) watch (s.place + 1) (calls + 1) (shown_queue k)
  arrives_over = over (λ m. is_for watch (shown_entry k m.at)) calls (grind (arith, nat_tests)) (member_of s)
      (few s.member next.0.counts) (ap (is_for watch) is ∙ strange) (rank_at (s.place + 1))
      (let few_s = next.0.counts in omega (arith, few_s)) queue_on (on_order k at least same_from)
      (from_on k at least same_from s (widen k at least same_from s next.0))
      (λ x i entry. next.1 (record { place = x.place; member = x.at }) (entry_from k at least same_from x i entry))
      behind_it
      ∙ ap (arrive (λ m. is_for watch (shown_entry k m.at)) (calls + 1))
      (from_from (rank_at least) (rank_at (s.place + 1)) (let behind = next.0.behind in omega (arith, behind))
      (shown_queue k))
