-- What locks, loads and stores of a count leave of a hold's debt.
use Rattle.std.proofs.Common.{refl, sym, ◌∙◌, ap, subst, arith, inl, inr}
use Rattle.std.proofs.lemmas.Bool.Decides.{eqb_tells, nat_tests}
use Rattle.std.specs.Prelude.{ℕ, zero, suc, ◌≡◌, ◌≢◌, ◌+◌, ◌-◌, ◌≤◌, ◌⊎◌, Bool, true, false, not, ◌&&◌, ◌||◌, ◌==◌}
use Rattle.std.specs.Prelude.{nat_le, if◌then◌else◌, Option, Some, ◌∷◌}
use Rattle.wait_model.specs.{declared.layout.TheConstants.ALL_DONE, declared.layout.TheConstants.ENTRIES}
use Rattle.wait_model.specs.{declared.watches.Aim.Aim, declared.watches.Entry.Entry, declared.watches.Watch.Watch}
use Rattle.wait_model.specs.{Counts.raised_done, Counts.taken_done, Fold.after, Functions.put, PermitPlaces.AllHandOn}
use Rattle.wait_model.specs.{Programs.done_in, Programs.is_at_end, Tables.Table, Tables.next, Watches.same}
use Rattle.wait_model.specs.Watches.{stands_at}
use Rattle.wait_model.specs.Permits.{Dealt, after_read, after_store, deals, deals_all, done_head, finds_handed, is_in}
use Rattle.wait_model.specs.Permits.{is_seen}
use Rattle.wait_model.specs.Runs.{is_publishing, looks, looks_below, all_peeks, peeks_below, set_step}
use Rattle.wait_model.specs.Views.{View, Look, look_at}
use Rattle.wait_model.specs.Words.{entry_word, entry_of, flag}
use Rattle.wait_model.specs.declared.steps.Step.TheVariants as step
use Rattle.wait_model.specs.declared.watches.Watch.TheVariants as watch
use Rattle.wait_model.proofs.{Functions.put_same, Functions.put_other, PermitLaws.OwnTurns.flag_small}
use Rattle.wait_model.proofs.{PermitLaws.OwnTurns.in_is, PermitLaws.PermitTurns.look_seen}

pub stored_debt : (value found debt : ℕ) → after_store value found debt ≤ debt + value - found
stored_debt value found debt = by (value == 0)
  where
    by : (b : Bool) → (if b then 0 else debt + value - found) ≤ debt + value - found
    by true = omega arith
    by false = omega arith

pub read_debt : (found debt : ℕ) → after_read found debt ≤ debt
read_debt found debt = by ((found == 0) || (nat_le ALL_DONE found && nat_le debt 1))
  where
    by : (b : Bool) → (if b then 0 else debt) ≤ debt
    by true = omega arith
    by false = omega arith

pub read_end : (found debt : ℕ) → ALL_DONE ≤ found → debt ≤ 1 → after_read found debt ≡ 0
read_end found debt large small =
    let l : nat_le ALL_DONE found ≡ true = grind (arith, nat_tests) in
    let m : nat_le debt 1 ≡ true = grind (arith, nat_tests) in
    ap (λ (b : Bool). if (found == 0) || (b && nat_le debt 1) then 0 else debt) l
    ∙ ap (λ (b : Bool). if (found == 0) || b then 0 else debt) m ∙ by (found == 0)
  where
    by : (b : Bool) → (if b || true then 0 else debt) ≡ 0
    by true = refl
    by false = refl

-- what a `complete` and a take store
pub raised_most : (value : ℕ) → raised_done (done_in value) ≤ value + 1
raised_most value = by (done_in value == ALL_DONE)
  where
    by : (b : Bool) → (if b then done_in value else done_in value + 1) ≤ value + 1
    by true = omega arith
    by false = omega arith

pub taken_most : (value : ℕ) → taken_done (done_in value) ≤ value
taken_most value = by (done_in value == ALL_DONE)
  where
    by : (b : Bool) → (if b then done_in value else done_in value - 1) ≤ value
    by true = omega arith
    by false = omega arith

pub taken_one : (value : ℕ) → value ≢ 0 → is_at_end value ≡ false → taken_done (done_in value) + 1 ≤ value
taken_one value some on = rw on (omega (arith, some))

pub at_end_large : (value : ℕ) → is_at_end value ≡ true → ALL_DONE ≤ value
at_end_large value h = elim (eqb_tells (done_in value) ALL_DONE) [
  | inl q ↦ let e = q.1 in omega (arith, e)
  | inr q ↦ absurd (let f = q.0 in cc)
]

-- a watch of another word
pub load_apart : (d x : ℕ) (v : View) (w : Dealt) (c : Watch) (r : ℕ) → same c (watch.Done d) ≡ false
    → deals d x v w (step.Load c r) ≡ w
load_apart d x v w (watch.Plain c) r h = refl
load_apart d x v w (watch.Done c) r h = ap (λ (b : Bool). record {
  left = w.left;
  debt = if b then after_read r w.debt else w.debt;
  count = if b && is_in d v then Some r else w.count;
}) h
load_apart d x v w (watch.Bit i b) r h = refl
load_apart d x v w (watch.Var i o) r h = refl

pub store_apart : (d x : ℕ) (v : View) (w : Dealt) (c : Watch) (n r : ℕ) → same c (watch.Done d) ≡ false
    → (deals d x v w (step.Publish c n r) ≡ w) × (deals d x v w (step.Consume c n r) ≡ w)
store_apart d x v w (watch.Done c) n r h =
    let same : (deals d x v w (step.Publish (watch.Done c) n r)) ≡ w = ap (λ (b : Bool). record {
      left = w.left;
      debt = if b then after_store n r w.debt else w.debt;
      count = if b then Some n else w.count;
    }) h in
    (same, same)
store_apart d x v w _ n r h = (refl, refl)

pub set_apart : (d x : ℕ) (v : View) (w : Dealt) (c : Watch) (n r : ℕ) → same c (watch.Done d) ≡ false
    → deals d x v w (set_step c n r) ≡ w
set_apart d x v w c n r h = by (is_publishing c r n)
  where
    by : (b : Bool) → deals d x v w (if b then step.Publish c n r else step.Consume c n r) ≡ w
    by true = (store_apart d x v w c n r h).0
    by false = (store_apart d x v w c n r h).1

-- the completion's own word
one_is : (d : ℕ) → (d == d) ≡ true
one_is d = grind arith

load_here : (d x : ℕ) (v : View) (w : Dealt) (c : Watch) (r : ℕ) (inside : Bool) → c ≡ watch.Done d
    → is_in d v ≡ inside → deals d x v w (step.Load c r)
    ≡ record { left = w.left; debt = after_read r w.debt; count = if inside then Some r else w.count }
load_here d x v w c r inside is at = subst (λ (e : Watch). deals d x v w (step.Load e r)
    ≡ record { left = w.left; debt = after_read r w.debt; count = if inside then Some r else w.count }) (sym is)
    (ap (λ (b : Bool). record {
      left = w.left;
      debt = if b then after_read r w.debt else w.debt;
      count = if b && is_in d v then Some r else w.count;
    }) (one_is d)
    ∙ ap (λ (b : Bool). record {
      left = w.left;
      debt = after_read r w.debt;
      count = if b then Some r else w.count;
    }) at)

pub load_about : (d x : ℕ) (v : View) (w : Dealt) (c : Watch) (r : ℕ) → c ≡ watch.Done d → is_in d v ≡ true
    → deals d x v w (step.Load c r) ≡ record { left = w.left; debt = after_read r w.debt; count = Some r }
load_about d x v w c r is inside = load_here d x v w c r true is inside

pub load_outside : (d x : ℕ) (v : View) (w : Dealt) (c : Watch) (r : ℕ) → c ≡ watch.Done d → is_in d v ≡ false
    → deals d x v w (step.Load c r) ≡ record { left = w.left; debt = after_read r w.debt; count = w.count }
load_outside d x v w c r is outside = load_here d x v w c r false is outside

pub set_about : (d x : ℕ) (v : View) (w : Dealt) (c : Watch) (n r : ℕ) → c ≡ watch.Done d
    → deals d x v w (set_step c n r) ≡ record { left = w.left; debt = after_store n r w.debt; count = Some n }
set_about d x v w c n r is = by (is_publishing c r n)
  where
    stored : deals d x v w (step.Publish (watch.Done d) n r)
        ≡ record { left = w.left; debt = after_store n r w.debt; count = Some n }
    stored = ap (λ (b : Bool). record {
      left = w.left;
      debt = if b then after_store n r w.debt else w.debt;
      count = if b then Some n else w.count;
    }) (one_is d)

    by : (b : Bool) → deals d x v w (if b then step.Publish c n r else step.Consume c n r)
        ≡ record { left = w.left; debt = after_store n r w.debt; count = Some n }
    by true = subst (λ (e : Watch). deals d x v w (step.Publish e n r)
        ≡ record { left = w.left; debt = after_store n r w.debt; count = Some n }) (sym is) stored
    by false = subst (λ (e : Watch). deals d x v w (step.Consume e n r)
        ≡ record { left = w.left; debt = after_store n r w.debt; count = Some n }) (sym is) stored

-- looks at all entry words find one permit at most, which was handed to a task that left its entry there
pub record IsLooked (u w : Dealt) (seen : Bool) : Type 0 where
  pub left : u.left ≡ w.left
  pub debt : u.debt ≤ w.debt + flag (w.left && not seen)
  pub count : u.count ≡ w.count

-- a permit that is found is none that is still to be found
found_once : (p l s t : Bool) → flag (p && (l && (not s && t))) ≤ flag (l && not s)
found_once true true true t = omega arith
found_once true true false t = flag_small t
found_once true false s t = omega arith
found_once false l s t = omega arith

none_left : (l : Bool) → flag (l && not true) ≡ 0
none_left true = refl
none_left false = refl

-- an entry was looked at, after a look that found o
abbrev seen_after : View → ℕ → Option Entry → ℕ → Bool
seen_after v n o x = is_seen (put v.hold.book n (look_at v.hold.head o) x)

-- one look in a hold of the head
one_look : (d x n : ℕ) (o : Option Entry) (v : View) (w : Dealt) → is_in d v ≡ true
    → (((n == x) ≡ true) × (n ≡ x)) ⊎ (((n == x) ≡ false) × (n ≢ x))
    → flag (finds_handed d x v w n o) + flag (w.left && not (seen_after v n o x))
    ≤ flag (w.left && not (is_seen (v.hold.book x)))
one_look d x n o v w inside (inl q) =
    let once = found_once (is_in d v && (n == x)) w.left (is_seen (v.hold.book x))
    (not (stands_at o (done_head d))) in
    let seen : seen_after v n o x ≡ true = ap is_seen (ap (put v.hold.book n (look_at v.hold.head o))
    (sym q.1) ∙ put_same v.hold.book n (look_at v.hold.head o))
    ∙ ap (λ (p : Option ℕ). is_seen (look_at p o))
    (in_is v.hold.head (done_head d) inside)
    ∙ look_seen (done_head d) o in
    let gone : flag (w.left && not (seen_after v n o x)) ≡ 0 = ap (λ (b : Bool). flag (w.left && not b)) seen
    ∙ none_left w.left in
    omega (arith, once, gone)
one_look d x n o v w inside (inr q) =
    let none : flag (finds_handed d x v w n o) ≡ 0 =
    ap (λ (b : Bool). flag ((is_in d v && b) && (w.left && (not (is_seen (v.hold.book x))
    && not (stands_at o (done_head d)))))) q.0
    ∙ ap (λ (b : Bool). flag ((b && false) && (w.left && (not (is_seen (v.hold.book x))
    && not (stands_at o (done_head d)))))) inside in
    let same : flag (w.left && not (seen_after v n o x)) ≡ flag (w.left && not (is_seen (v.hold.book x))) =
    ap (λ (l : Look). flag (w.left && not (is_seen l)))
    (put_other v.hold.book n (look_at v.hold.head o) x (λ e. q.1 (sym e))) in
    omega (arith, none, same)

looked_all : (d x : ℕ) (f : ℕ → Option Entry) (n : ℕ) (v : View) (w : Dealt) → is_in d v ≡ true
    → IsLooked (deals_all d x v w (looks_below f n)) w (is_seen (v.hold.book x))
looked_all d x f zero v w inside = record { left = refl; debt = omega arith; count = refl }
looked_all d x f (suc n) v w inside =
    let ih = looked_all d x f n (after (step.Saw n (entry_word (f n))) v)
    (deals d x v w (step.Saw n (entry_word (f n)))) inside in
    record {
      left = ih.left;
      debt =
          let b = ih.debt in
          let le = one_look d x n (entry_of (entry_word (f n))) v w inside (eqb_tells n x) in
          omega (arith, b, le);
      count = ih.count;
    }

-- outside of holds of the head looks tell nothing
looked_away : (d x : ℕ) (f : ℕ → Option Entry) (n : ℕ) (v : View) (w : Dealt) → is_in d v ≡ false
    → IsLooked (deals_all d x v w (looks_below f n)) w true
looked_away d x f zero v w out = record { left = refl; debt = omega arith; count = refl }
looked_away d x f (suc n) v w out =
    let ih = looked_away d x f n (after (step.Saw n (entry_word (f n))) v)
    (deals d x v w (step.Saw n (entry_word (f n)))) out in
    record {
      left = ih.left;
      debt =
          let b = ih.debt in
          let none : flag (finds_handed d x v w n (entry_of (entry_word (f n)))) ≡ 0 =
          ap (λ (b : Bool). flag ((b && (n == x)) && (w.left && (not (is_seen (v.hold.book x))
          && not (stands_at (entry_of (entry_word (f n))) (done_head d)))))) out in
          omega (arith, b, none);
      count = ih.count;
    }

-- A lock with its looks: a hold of the completion's head owes the permit that was handed to its task, and no other
-- hold owes more than before.
pub record IsLocked (u w : Dealt) : Type 0 where
  pub left : u.left ≡ w.left
  pub debt : u.debt ≤ w.debt + flag w.left

most : (l s : Bool) → flag (l && not s) ≤ flag l
most true s = flag_small (not s)
most false s = omega arith

emptied : (b : Bool) (n : ℕ) → (if b then 0 else n) ≤ n
emptied true n = omega arith
emptied false n = omega arith

locked_below : (d x i : ℕ) (aim : Option Aim) (r : ℕ) (f : ℕ → Option Entry) (n : ℕ) (v : View) (w : Dealt)
    → (t : Bool) → (i == done_head d) ≡ t → IsLocked (deals_all d x v w (step.Lock i aim r ∷ looks_below f n)) w
locked_below d x i aim r f n v w true q =
    let k = looked_all d x f n (after (step.Lock i aim r) v) (deals d x v w (step.Lock i aim r)) q in
    let b = k.debt in
    let m = emptied (i == done_head d) w.debt in
    let one = most w.left false in
    record { left = k.left; debt = omega (arith, b, m, one) }
locked_below d x i aim r f n v w false q =
    let k = looked_away d x f n (after (step.Lock i aim r) v) (deals d x v w (step.Lock i aim r)) q in
    let b = k.debt in
    let m = emptied (i == done_head d) w.debt in
    let one = none_left w.left in
    record { left = k.left; debt = omega (arith, b, m, one) }

pub locked : (d x i : ℕ) (aim : Option Aim) (r : ℕ) (f : ℕ → Option Entry) (v : View) (w : Dealt)
    → IsLocked (deals_all d x v w (step.Lock i aim r ∷ looks f)) w
unfolding looks
locked d x i aim r f v w = locked_below d x i aim r f ENTRIES v w (i == done_head d) refl

-- loads without the lock tell nothing of permits
peeked : (d x : ℕ) (f : ℕ → Option Entry) (n : ℕ) (v : View) (w : Dealt) → deals_all d x v w (peeks_below f n) ≡ w
peeked d x f zero v w = refl
peeked d x f (suc n) v w = peeked d x f n (after (step.Peek n (entry_word (f n))) v) w

pub all_peeked : (d x : ℕ) (f : ℕ → Option Entry) (v : View) (w : Dealt) → deals_all d x v w (all_peeks f) ≡ w
unfolding all_peeks
all_peeked d x f v w = peeked d x f ENTRIES v w

-- looks and loads meet the conditions
looks_hand_below : (d : ℕ) (f : ℕ → Option Entry) (n : ℕ) (s : Table) (a : ℕ) → AllHandOn d s a (looks_below f n)
looks_hand_below d f zero s a = tt
looks_hand_below d f (suc n) s a = (tt, looks_hand_below d f n (next s a (step.Saw n (entry_word (f n)))) a)

pub looks_hand : (d : ℕ) (f : ℕ → Option Entry) (s : Table) (a : ℕ) → AllHandOn d s a (looks f)
unfolding looks
looks_hand d f s a = looks_hand_below d f ENTRIES s a

peeks_hand_below : (d : ℕ) (f : ℕ → Option Entry) (n : ℕ) (s : Table) (a : ℕ) → AllHandOn d s a (peeks_below f n)
peeks_hand_below d f zero s a = tt
peeks_hand_below d f (suc n) s a = (tt, peeks_hand_below d f n (next s a (step.Peek n (entry_word (f n)))) a)

pub peeks_hand : (d : ℕ) (f : ℕ → Option Entry) (s : Table) (a : ℕ) → AllHandOn d s a (all_peeks f)
unfolding all_peeks
peeks_hand d f s a = peeks_hand_below d f ENTRIES s a
