-- What a walk finds at a head of one watch, by the queue that its hold shows: no strangers, and a break only above
-- `BREAK` calls.
use Rattle.std.proofs.lemmas.Bool.{both_ways}
use Rattle.std.proofs.lemmas.Bool.Decides.{nat_tests}
use Rattle.std.proofs.Common.{refl, sym, ◌∙◌, ap, subst, arith, inl, inr}
use Rattle.std.specs.Prelude.{ℕ, zero, suc, ◌≡◌, ◌+◌, ◌<◌, ◌≤◌, ◌&&◌, nat_lt, Bool, true, false, if◌then◌else◌, is_some}
use Rattle.std.specs.Prelude.{Option, Some, None, List, [], ◌∷◌}
use Rattle.wait_model.specs.{declared.watches.Watch.Watch, declared.watches.Entry.Entry, declared.queues.Member.Member}
use Rattle.wait_model.specs.{Facts.Agrees, Runs.arrives_from, Runs.called_by}
use Rattle.wait_model.specs.declared.layout.TheConstants.{BREAK, MEMBERS, PLAIN_CONDITIONS}
use Rattle.wait_model.specs.Watches.{same, head_of, counted, is_for}
use Rattle.wait_model.specs.Queues.{IsIn, Arrival, arrive, is_entry, members_from, rank_at}
use Rattle.wait_model.specs.Views.{View as Told, Look, shown}
use Rattle.wait_model.specs.declared.watches.Watch.TheVariants as watch
use Rattle.wait_model.proofs.{QueueLaws.Arrivals.from_in, QueueLaws.QueueMarks.marked_in}
use Rattle.wait_model.proofs.WordLaws.CondWords.{head_counted}
use Rattle.wait_rule.specs.{Known.Known, Notes.look_place, Queues.place_by, Says.history_of, Says.told_of}
use Rattle.wait_rule.specs.Shown.{look_entry, queue_below, queue_with, shown_entry, shown_queue}
use Rattle.wait_rule.proofs.KnownLaws.Moments.{Moment}

-- where a walk arrives
pub record Arrives (n : ℕ) (r : Arrival) : Type 0 where
  pub more : n ≤ r.calls
  pub many : r.breaks ≡ true → BREAK < r.calls
  pub few : r.breaks ≡ false → is_some r.member ≡ true → r.calls ≤ BREAK

one_arrives : (n : ℕ) (x : Member) (r : Arrival) (a b c : Bool) → nat_lt BREAK n ≡ a
    → Arrives (if c then n + 1 else n) r
    → Arrives n (if a then record { calls = n; member = Some x; breaks = true }
    else if b then record { calls = n; member = Some x; breaks = false } else r)
one_arrives n x r true b c q h = record {
  more = omega arith;
  many = λ _. grind (arith, nat_tests, q);
  few = λ z. absurd (cc);
}
one_arrives n x r false true c q h = record {
  more = omega arith;
  many = λ z. absurd (cc);
  few = λ _ _. grind (arith, nat_tests, q);
}
one_arrives n x r false false true q h = record { more = let k = h.more in omega arith; many = h.many; few = h.few }
one_arrives n x r false false false q h = h

pub arrives : (key : Member → Bool) (n : ℕ) (ms : List Member) → Arrives n (arrive key n ms)
arrives key n [] = record { more = omega arith; many = λ z. absurd (cc); few = λ z y. absurd (cc) }
arrives key n (x ∷ ms) = one_arrives n x (arrive key (if is_entry x then n + 1 else n) ms) (nat_lt BREAK n)
    (is_entry x && key x) (is_entry x) refl (arrives key (if is_entry x then n + 1 else n) ms)

pub some_called : (entry : ℕ → Option Entry) (b : Bool) (o : Option Member) → b ≡ false
    → is_some (called_by entry (if b then None else o)) ≡ true → is_some o ≡ true
some_called entry true o q h = absurd (cc)
some_called entry false None q h = absurd (cc)
some_called entry false (Some x) q h = refl

-- where all entries are for the watch none is passed
pub none_passed : (key : Member → Bool) (n : ℕ) (ms : List Member)
    → ((m : Member) → IsIn m ms → is_entry m ≡ true → key m ≡ true) → (arrive key n ms).calls ≡ n
none_passed key n [] all = refl
none_passed key n (x ∷ ms) all = by (nat_lt BREAK n) (is_entry x) (key x) (all x (inl refl))
    (none_passed key n ms (λ m i. all m (inr i)))
  where
    by : (a b c : Bool) → (b ≡ true → c ≡ true) → (arrive key n ms).calls ≡ n
        → (if a then record { calls = n; member = Some x; breaks = true }
        else if b && c then record { calls = n; member = Some x; breaks = false }
        else arrive key (if b then n + 1 else n) ms).calls ≡ n
    by true b c q h = refl
    by false true true q h = refl
    by false true false q h = absurd (both_ways false refl (q refl))
    by false false c q h = h

-- the watch of an entry at the head of a plain condition
plain_there : (d : Watch) (c : ℕ) → c < PLAIN_CONDITIONS → head_of d ≡ head_of (watch.Plain c)
    → same d (watch.Plain c) ≡ true
unfolding head_of
plain_there (watch.Plain d) c small e = grind (arith, nat_tests, e)
plain_there (watch.Done d) c small e = absurd (omega (arith, e, small))
plain_there (watch.Bit i b) c small e =
    absurd (let z : counted (watch.Bit i b) ≡ true = head_counted (watch.Bit i b) (watch.Plain c) small refl e in cc)
plain_there (watch.Var v o) c small e =
    absurd (let z : counted (watch.Var v o) ≡ true = head_counted (watch.Var v o) (watch.Plain c) small refl e in cc)

-- a member of the queue that a hold shows stands at its place
module _ (at : ℕ → Option ℕ) where
  one_placed : (n : ℕ) (o : Option ℕ) → at n ≡ o → (q : List Member)
      → ((m : Member) → IsIn m q → at m.at ≡ Some m.place) → (m : Member) → IsIn m (queue_with n o q)
      → at m.at ≡ Some m.place
  one_placed n None is q placed m i = placed m i
  one_placed n (Some p) is q placed m i = elim (marked_in (record { at = n; place = p }) m q i) [
    | inl s ↦ subst (λ (y : Member). at y.at ≡ Some y.place) (sym s) is
    | inr j ↦ placed m j
  ]

  placed_below : (n : ℕ) (m : Member) → IsIn m (queue_below at n) → at m.at ≡ Some m.place
  placed_below zero m i = absurd i
  placed_below (suc n) m i = one_placed n (at n) refl (queue_below at n) (placed_below n) m i

placed_in : (k : Known) (m : Member) → IsIn m (shown_queue k) → place_by k m.at ≡ Some m.place
unfolding shown_queue
placed_in k m i = placed_below (place_by k) MEMBERS m i

seen_there : (l : Look) (p : ℕ) → look_place l ≡ Some p → (e : Entry) × (l ≡ shown e)
seen_there (shown e) p is = (e, refl)
seen_there _ p is = absurd (cc)

module _ (me : ℕ) (k : Known) (z : Moment me (history_of k)) (c : ℕ) (small : c < PLAIN_CONDITIONS)
    (held : (told_of k).hold.head ≡ Some (head_of (watch.Plain c))) where
  for_watch : (x : ℕ) (e : Entry) → (told_of k).hold.book x ≡ shown e → is_for (watch.Plain c) (shown_entry k x) ≡ true
  for_watch x e is =
      let h : ℕ = head_of (watch.Plain c) in
      let a : Agrees h ((z.table.view me).hold.book x) (z.table.entry x) =
      (z.kept.facts.views me).hold.agrees h x (ap (λ (v : Told). v.hold.head) z.view ∙ held) in
      let b : Agrees h (shown e) (z.table.entry x) =
      subst (λ (l : Look). Agrees h l (z.table.entry x)) (ap (λ (v : Told). v.hold.book x) z.view ∙ is) a in
      ap (λ (l : Look). is_for (watch.Plain c) (look_entry l)) is ∙ plain_there e.watch c small b.1

  entry_place : (m : Member) → is_entry m ≡ true → place_by k m.at ≡ Some m.place
      → look_place ((told_of k).hold.book m.at) ≡ Some m.place
  entry_place m entry is = rw entry at is

  its_own : (m : Member) → IsIn m (shown_queue k) → is_entry m ≡ true
      → is_for (watch.Plain c) (shown_entry k m.at) ≡ true
  its_own m i entry =
      let s = seen_there ((told_of k).hold.book m.at) m.place (entry_place m entry (placed_in k m i)) in
      for_watch m.at s.0 s.1

  pub no_strangers : (place calls : ℕ)
      → (arrives_from (shown_entry k) (watch.Plain c) place calls (shown_queue k)).calls ≡ calls
  no_strangers place calls = none_passed (λ (m : Member). is_for (watch.Plain c) (shown_entry k m.at)) calls
      (members_from (rank_at place) (shown_queue k))
      (λ m i entry. its_own m (from_in (rank_at place) m (shown_queue k) i).0 entry)
