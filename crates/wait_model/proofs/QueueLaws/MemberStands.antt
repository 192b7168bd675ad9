-- What stands at a head and its queue keep agreeing where a member is put in and where one is taken out.
use Rattle.std.proofs.lemmas.Option.{none-some}
use Rattle.std.proofs.lemmas.Bool.Decides.{nat_tests}
use Rattle.std.proofs.Common.{refl, sym, ◌∙◌, ap, subst, arith, inl, inr}
use Rattle.std.specs.Prelude.{ℕ, ◌≡◌, ◌≢◌, ◌+◌, ◌-◌, ◌<◌, ◌⊎◌, Bool, true, false, nat_lt, if◌then◌else◌, Option, Some}
use Rattle.std.specs.Prelude.{None, List}
use Rattle.wait_model.specs.{declared.layout.TheConstants.ENTRIES, declared.layout.TheConstants.INDEXES}
use Rattle.wait_model.specs.{declared.watches.Entry.Entry, declared.queues.Member.Member, declared.queues.Mark.Mark}
use Rattle.wait_model.specs.{Runs.own_mark, Functions.put, Watches.head_of}
use Rattle.wait_model.specs.Queues.{stand_by, stand_of, without, IsIn, IsInOrder}
use Rattle.wait_model.specs.Reached.{IsWithinAdds, IsInside, IsOrdered, IsMember}
use Rattle.wait_model.proofs.{QueueLaws.QueuePlaces.Adds, Functions.put_at, Functions.put_same}
use Rattle.wait_model.proofs.QueueLaws.QueueOrder.{kept_in, stays_in, order_removed}

pub near_later : (n p : ℕ) → IsWithinAdds n p → IsWithinAdds (n + 1) p
near_later n p (b, l, u) = (b, omega (arith, l), omega (arith, u))

-- one more event, and perhaps another queue that has the member still
moved : (queue queue2 : ℕ → List Member) (n x : ℕ) (k : Mark) → IsInside queue n x k
    → IsIn (record { at = x; place = k.place }) (queue2 k.head) → IsInside queue2 (n + 1) x k
moved queue queue2 n x k q i = record { number = q.number; near = near_later n k.place q.near; inside = i }

pub ordered_later : (stand : ℕ → Option Mark) (queue : ℕ → List Member) (n : ℕ) → IsOrdered stand queue n
    → IsOrdered stand queue (n + 1)
ordered_later stand queue n o = record {
  inside = λ x k s. let q = o.inside x k s in moved queue queue n x k q q.inside;
  members = o.members;
  order = o.order;
}

module _ (stand other : ℕ → Option Mark) (queue : ℕ → List Member) (n x : ℕ) (o : IsOrdered stand queue n)
    (same : (y : ℕ) → y ≢ x → other y ≡ stand y) where
  -- a member is put in
  module _ (off : stand x ≡ None) (k : Mark) (is : other x ≡ Some k) (small : x < INDEXES)
      (near : IsWithinAdds (n + 1) k.place) (r : List Member)
      (adds : Adds (record { at = x; place = k.place }) (queue k.head) r) where
    abbrev more : ℕ → List Member
    more = put queue k.head r

    another : (m : Member) (h : ℕ) → IsIn m (queue h) → m.at ≢ x
    another m h i s =
        let p : stand x ≡ Some (record { head = h; place = m.place }) =
        subst (λ (t : ℕ). stand t ≡ Some (record { head = h; place = m.place })) s (o.members h m i) in
        let z : None ≡ Some (record { head = h; place = m.place }) = sym off ∙ p in cc

    still_in : (m : Member) (h : ℕ) → IsIn m (queue h) → IsIn m (more h)
    still_in m h i = put_at (λ q. IsIn m q) queue k.head r h
        (λ s. adds.old m (subst (λ j. IsIn m (queue j)) s i)) (λ ne. i)

    new_inside : (y : ℕ) (d : Mark) → y ≡ x → other y ≡ Some d → IsInside more (n + 1) y d
    new_inside y d w s =
        let t : other x ≡ Some d = subst (λ (i : ℕ). other i ≡ Some d) w s in
        let v : Some k ≡ Some d = sym is ∙ t in
        let e : k ≡ d = cc in
        subst (λ (i : ℕ). IsInside more (n + 1) i d) (sym w)
        (subst (λ (c : Mark). IsInside more (n + 1) x c) e
        (record { number = small; near = near; inside = rw (put_same queue k.head r) adds.new }))

    old_inside : (y : ℕ) (d : Mark) → y ≢ x → other y ≡ Some d → IsInside more (n + 1) y d
    old_inside y d ne s = let q = o.inside y d (sym (same y ne) ∙ s) in
        moved queue more n y d q (still_in _ d.head q.inside)

    old_member : (h : ℕ) (m : Member) → IsIn m (queue h)
        → other m.at ≡ Some (record { head = h; place = m.place })
    old_member h m i = same m.at (another m h i) ∙ o.members h m i

    new_member : (h : ℕ) (m : Member) → h ≡ k.head → m ≡ record { at = x; place = k.place }
        → other m.at ≡ Some (record { head = h; place = m.place })
    new_member h m s e =
        let a : m.at ≡ x = ap (λ (y : Member). y.at) e in
        let p : m.place ≡ k.place = ap (λ (y : Member). y.place) e in
        ap other a ∙ is ∙ rw (s, p) refl

    by_name : (y : ℕ) → (y ≡ x) ⊎ (y ≢ x)
    by_name y = by (nat_lt y x) (nat_lt x y) refl refl
      where
        by : (a b : Bool) → nat_lt y x ≡ a → nat_lt x y ≡ b → (y ≡ x) ⊎ (y ≢ x)
        by true b p q = inr (grind (arith, nat_tests))
        by false true p q = inr (grind (arith, nat_tests))
        by false false p q = inl (grind (arith, nat_tests))

    pub ordered_added : IsOrdered other more (n + 1)
    ordered_added = record {
      inside = λ y d s. elim (by_name y) [ inl e ↦ new_inside y d e s | inr e ↦ old_inside y d e s ];
      members = λ h m. put_at (λ q. IsIn m q → other m.at ≡ Some (record { head = h; place = m.place })) queue
          k.head r h
          (λ s i. elim (adds.added m i) [
            | inl e ↦ new_member h m s e
            | inr j ↦ old_member h m (subst (λ t. IsIn m (queue t)) (sym s) j)
          ])
          (λ ne i. old_member h m i);
      order = λ h. put_at (λ q. IsInOrder q) queue k.head r h (λ _. adds.order) (λ _. o.order h);
    }

  -- a member is taken out
  module _ (k : Mark) (was : stand x ≡ Some k) (off : other x ≡ None) where
    abbrev left : ℕ → List Member
    left = put queue k.head (without x (queue k.head))

    stays : (m : Member) (h : ℕ) → m.at ≢ x → IsIn m (queue h) → IsIn m (left h)
    stays m h ne i = put_at (λ q. IsIn m q) queue k.head (without x (queue k.head)) h
        (λ s. stays_in x m (queue k.head) ne (subst (λ t. IsIn m (queue t)) s i)) (λ _. i)

    still_there : (y : ℕ) (d : Mark) → other y ≡ Some d → y ≢ x
    still_there y d s e =
        let t : other x ≡ Some d = subst (λ (i : ℕ). other i ≡ Some d) e s in
        absurd (none-some d (sym off ∙ t))

    kept_inside : (y : ℕ) (d : Mark) → other y ≡ Some d → IsInside left (n + 1) y d
    kept_inside y d s =
        let ne : y ≢ x = still_there y d s in
        let q = o.inside y d (sym (same y ne) ∙ s) in
        moved queue left n y d q (stays _ d.head ne q.inside)

    kept_member : (h : ℕ) (m : Member) → m.at ≢ x → IsIn m (queue h)
        → other m.at ≡ Some (record { head = h; place = m.place })
    kept_member h m ne i = same m.at ne ∙ o.members h m i

    -- a member of another head is another one
    elsewhere_at : (h : ℕ) (m : Member) → h ≢ k.head → IsIn m (queue h) → m.at ≢ x
    elsewhere_at h m ne i e =
        let p : stand x ≡ Some (record { head = h; place = m.place }) =
        subst (λ (t : ℕ). stand t ≡ Some (record { head = h; place = m.place })) e (o.members h m i) in
        let q : Some k ≡ Some (record { head = h; place = m.place }) = sym was ∙ p in
        let r : k ≡ record { head = h; place = m.place } = cc in
        ne (sym (ap (λ (c : Mark). c.head) r))

    pub ordered_removed : IsOrdered other left (n + 1)
    ordered_removed = record {
      inside = kept_inside;
      members = λ h m. put_at (λ q. IsIn m q → other m.at ≡ Some (record { head = h; place = m.place })) queue
          k.head (without x (queue k.head)) h
          (λ s i. let j = kept_in x m (queue k.head) i
          in kept_member h m j.1 (subst (λ t. IsIn m (queue t)) (sym s) j.0))
          (λ ne i. kept_member h m (elsewhere_at h m ne i) i);
      order = λ h. put_at (λ q. IsInOrder q) queue k.head (without x (queue k.head)) h
          (λ _. order_removed x (queue k.head) (o.order k.head)) (λ _. o.order h);
    }

-- what stands at a number of an entry, and of a bookmark
module _ (entry : ℕ → Option Entry) (mark : ℕ → Option Mark) where
  pub entry_stands : (x : ℕ) → x < ENTRIES → stand_of entry mark x ≡ stand_by (entry x)
  entry_stands x h = let t : nat_lt x ENTRIES ≡ true = grind (arith, nat_tests) in
      ap (λ b. if b then stand_by (entry x) else mark (x - ENTRIES)) t

  pub mark_stands : (t : ℕ) → stand_of entry mark (own_mark t) ≡ mark t
  mark_stands t =
      let f : nat_lt (own_mark t) ENTRIES ≡ false = grind (arith, nat_tests) in
      let s : own_mark t - ENTRIES ≡ t = omega arith in
      ap (λ b. if b then stand_by (entry (own_mark t)) else mark (own_mark t - ENTRIES)) f ∙ ap mark s

  pub some_stands : (x : ℕ) (e : Entry) → x < ENTRIES → entry x ≡ Some e
      → stand_of entry mark x ≡ Some (record { head = head_of e.watch; place = e.place })
  some_stands x e h s = entry_stands x h ∙ ap stand_by s

  -- a member that is an entry
  pub member_is : (queue : ℕ → List Member) (n h : ℕ) (m : Member) → IsOrdered (stand_of entry mark) queue n
      → m.at < ENTRIES → IsIn m (queue h) → IsMember entry h m
  member_is queue n h m o small i = by (entry m.at) refl (sym (entry_stands m.at small) ∙ o.members h m i)
    where
      by : (f : Option Entry) → entry m.at ≡ f
          → stand_by (entry m.at) ≡ Some (record { head = h; place = m.place }) → IsMember entry h m
      by None s q = absurd (let z : stand_by None ≡ Some (record { head = h; place = m.place }) =
          subst (λ (j : Option Entry). stand_by j ≡ Some (record { head = h; place = m.place })) s q in cc)
      by (Some e) s q =
          let z : Some (record { head = head_of e.watch; place = e.place })
          ≡ Some (record { head = h; place = m.place }) =
          subst (λ (j : Option Entry). stand_by j ≡ Some (record { head = h; place = m.place })) s q in
          let r : record { head = head_of e.watch; place = e.place } ≡ record { head = h; place = m.place } = cc
          in
          record {
            entry = e;
            stands = s;
            place = ap (λ (c : Mark). c.place) r;
            head = ap (λ (c : Mark). c.head) r;
          }
