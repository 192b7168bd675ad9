-- What a step does to the members that heads know.
use Rattle.std.proofs.Common.{refl, sym, ◌∙◌, ap, subst, arith, inl, inr}
use Rattle.std.specs.Prelude.{ℕ, ◌≡◌, ◌≢◌, ◌+◌, ◌-◌, ◌<◌, ◌⊎◌, Bool, true, false, ◌==◌, nat_lt, if◌then◌else◌, Option}
use Rattle.std.specs.Prelude.{Some, None, List, ◌++◌, ◌&&◌, ◌||◌, not}
use Rattle.std.proofs.lemmas.Bool.Decides.{eqb_tells, nat_tests}
use mathlib.Core.Path.{fun_ext}
use Rattle.wait_model.specs.{declared.layout.TheConstants.ENTRIES, declared.watches.Entry.Entry}
use Rattle.wait_model.specs.{declared.queues.Mark.Mark, declared.steps.Step.Step, declared.tasks.Sleep.Sleep}
use Rattle.wait_model.specs.{Tasks.task_of, Tasks.sleep_of, Functions.put, declared.watches.Watch.Watch}
use Rattle.wait_model.specs.{Views.View as Told, Fold.after, Fold.is_held, Tables.Table, Tables.next, Rows.Allowed}
use Rattle.wait_model.specs.Rows.{IsUntested}
use Rattle.wait_model.specs.Watches.{head_of, is_bit, was_clear, owner, stands_at, is_page, page, word_of}
use Rattle.wait_model.specs.Watches.{same as same_watch}
use Rattle.wait_model.specs.declared.watches.Kind.TheVariants as kind
use Rattle.wait_model.specs.declared.steps.Step.TheVariants as step
use Rattle.wait_model.specs.declared.tasks.Sleep.TheVariants as sleep
use Rattle.wait_model.specs.Locations as place
use Rattle.wait_model.proofs.Functions.{put_case, put_at, put_same, put_other}
use Rattle.wait_rule.specs.{declared.journal.Item.Item, Notes.is_at, Pages.uses_flag, Pages.IsPageless, Tickets.served}
use Rattle.wait_rule.specs.Items.{Difference, nothing, at_entry, at_mark, page_taken, page_told, after_try, Book}
use Rattle.wait_rule.specs.Items.{first_book, learn_step, after_sleep, book_from, book_of}
use Rattle.wait_rule.specs.MemberWords.{names, index_named, is_put, all_differences, AreMembers}
use Rattle.wait_rule.proofs.TableSteps.ItemLists.{book_append}

-- no page is taken for the task, and no entry of its own for a page stands
pub record AsksNone (s : Table) (a : ℕ) : Type 0 where
  pub taken : (x : ℕ) → owner x ≡ a → s.taken x ≡ None
  pub none : (x : ℕ) (e : Entry) → owner x ≡ a → s.entry x ≡ Some e → is_page e.kind ≡ false

-- the task may queue an entry that waits by its flag word; one of kind Page is for a page
pub record MayAsk (s : Table) (a : ℕ) (e : Entry) : Type 0 where
  pub asks_none : uses_flag e.kind ≡ true → AsksNone s a
  pub watch : is_page e.kind ≡ true → e.watch ≡ page (word_of e.watch)

-- an entry for a page that stands is the task's own
abbrev pub IsOwnPage : Table → ℕ → ℕ → Type 0
IsOwnPage s a x = (e : Entry) → s.entry x ≡ Some e → is_page e.kind ≡ true → owner x ≡ a

-- What the calls' steps keep of members and tickets: a word is stored, and a lock given back, where no word differs
-- from its bit; a bookmark that is put or taken out is of the head that the task holds; a watch is tested in a hold
-- where no word differs from its bit, as a bit is by a test-and-set; and a lock is taken by a ticket that was read as
-- served. Where a page was taken for a task, the hold tells it and takes its entry off before it does any of these; an
-- entry that waits by its flag word is queued by a task that asks for no page, and a flag word is cleared by a task
-- that has no entry for a page there. A flag is set of an entry of kind Woken.
abbrev pub IsOrderly : Table → ℕ → Step → Book → Type 0
IsOrderly s a (step.Lock h aim w) b = (n : ℕ) × (b.ticket ≡ served h n)
IsOrderly s a (step.Unlock h sp) b = b.differs ≡ nothing
IsOrderly s a (step.Queue x e) b = (b.differs ≡ nothing) × MayAsk s a e
IsOrderly s a (step.Unqueue x) b = (((b.differs ≡ nothing) × IsOwnPage s a x) ⊎ (b.differs ≡ page_told x))
    × (x < ENTRIES)
IsOrderly s a (step.TasFor x p r) b = b.differs ≡ nothing
IsOrderly s a (step.Handed x) b = b.differs ≡ page_taken x
IsOrderly s a (step.Woken x) b = (s.taken x ≡ None) × ((e : Entry) → s.entry x ≡ Some e → e.kind ≡ kind.Woken)
IsOrderly s a (step.Unflag x o) b = ((s.taken x ≡ None) × IsPageless (s.entry x))
    ⊎ IsPageless ((s.view a).bits.stored x)
IsOrderly s a (step.Mark h q) b = (b.differs ≡ nothing) × (s.mark a ≡ None)
IsOrderly s a step.Unmark b = (b.differs ≡ nothing) × ((h : ℕ) × (q : ℕ) × ((s.view a).hold.head ≡ Some h)
    × (s.mark a ≡ Some (record { head = h; place = q })))
IsOrderly s a (step.Load c r) b = (h : ℕ) → (s.view a).hold.head ≡ Some h → b.differs ≡ nothing
IsOrderly s a (step.Consume c n r) b = is_bit c ≡ true → (h : ℕ) → (s.view a).hold.head ≡ Some h
    → b.differs ≡ nothing
IsOrderly s a e b = Unit {0}

-- what the books of all tasks say of one thing, with more items in one list
pub books_next : {A : Type 0} (part : Book → A) (items : ℕ → List Item) (a : ℕ) (xs : List Item)
    → (λ t. part (book_of (put items a (items a ++ xs) t)))
    ≡ put (λ t. part (book_of (items t))) a (part (book_from (book_of (items a)) xs))
books_next {A} part items a xs = fun_ext (λ t. by t (put_case items a (items a ++ xs) t))
  where
    old : ℕ → A
    old t = part (book_of (items t))

    new : ℕ → A
    new = put old a (part (book_from (book_of (items a)) xs))

    by : (t : ℕ) → ((t ≡ a) × (put items a (items a ++ xs) t ≡ items a ++ xs))
        ⊎ ((t ≢ a) × (put items a (items a ++ xs) t ≡ items t))
        → part (book_of (put items a (items a ++ xs) t)) ≡ new t
    by t (inl q) = ap (λ (ys : List Item). part (book_of ys)) q.1 ∙ (ap part (book_append first_book (items a) xs)
        ∙ sym (ap new q.0 ∙ put_same old a (part (book_from (book_of (items a)) xs))))
    by t (inr q) = ap (λ (ys : List Item). part (book_of ys)) q.1
        ∙ sym (put_other old a (part (book_from (book_of (items a)) xs)) t q.0)

pub differences_next : (items : ℕ → List Item) (a : ℕ) (xs : List Item)
    → all_differences (put items a (items a ++ xs))
    ≡ put (all_differences items) a (book_from (book_of (items a)) xs).differs
differences_next items a xs = books_next (λ b. b.differs) items a xs

pub put_again : {A : Type 0} (f : ℕ → A) (k : ℕ) (v : A) → v ≡ f k → put f k v ≡ f
put_again f k v is = fun_ext (λ i. put_at (λ y. y ≡ f i) f k v i (λ e. is ∙ ap f (sym e)) (λ _. refl))

-- items that store no word and no bit
pub differences_same : (items : ℕ → List Item) (a : ℕ) (xs : List Item)
    → (book_from (book_of (items a)) xs).differs ≡ (book_of (items a)).differs
    → all_differences (put items a (items a ++ xs)) ≡ all_differences items
differences_same items a xs same = differences_next items a xs
    ∙ put_again (all_differences items) a (book_from (book_of (items a)) xs).differs same

pub asleep_differs : (z : Sleep) (b : Book) → (after_sleep z b).differs ≡ b.differs
asleep_differs sleep.Stay b = refl
asleep_differs sleep.Signal b = refl
asleep_differs sleep.Asleep b = refl

none_is : {A : Type 0} (x : ℕ) → ◌≡◌ {A = Option ℕ} None (Some x) → A
none_is x e = absurd (cc)

pub nothing_named : (a : ℕ) (d : Difference) (x : ℕ) → d ≡ nothing → index_named a d ≢ Some x
nothing_named a d x is e = none_is x (sym (ap (index_named a) is) ∙ e)

pub none_there : {A : Type 0} (x : ℕ) (on : Bool) → nothing ≡ at_entry x on → A
none_there x on e = absurd (cc)

-- the same words and heads
quiet_members : (s t : Table) (differs : ℕ → Difference) (beside : place.Location → ℕ) → t.entry ≡ s.entry
    → t.mark ≡ s.mark → ((a : ℕ) → (t.view a).hold.head ≡ (s.view a).hold.head)
    → ((a h x : ℕ) → (s.view a).hold.head ≡ Some h → differs a ≡ at_entry x true → IsUntested (s.view a) h x
    → IsUntested (t.view a) h x)
    → AreMembers s differs beside → AreMembers t differs beside
quiet_members s t differs beside entry mark head keeps r = record {
  bits = r.bits;
  spells = r.spells;
  agrees = λ h x far. r.agrees h x (λ a held. far a (head a ∙ held)) ∙ sym (same h x);
  named = λ a h x held is. same h x ∙ r.named a h x (sym (head a) ∙ held) is;
  untested = λ a h x held is.
      let u = r.untested a h x (sym (head a) ∙ held) is in
      (u.0, keeps a h x (sym (head a) ∙ held) is u.1);
}
  where
    same : (h x : ℕ) → names t h x ≡ names s h x
    same h x = λ i. if nat_lt x ENTRIES then stands_at (entry i x) h else is_at h (mark i (x - ENTRIES))

-- Task a takes a lock or gives one back, or hands a page over: it names no word then, and named none before.
module _ (s t : Table) (differs : ℕ → Difference) (beside : place.Location → ℕ) (a : ℕ) (d : Difference)
    (unnamed : index_named a d ≡ None) (entry : t.entry ≡ s.entry) (mark : t.mark ≡ s.mark)
    (others : (b : ℕ) → b ≢ a → t.view b ≡ s.view b)
    (was : (h x : ℕ) → (s.view a).hold.head ≡ Some h → index_named a (differs a) ≢ Some x) where
  same_names : (h x : ℕ) → names t h x ≡ names s h x
  same_names h x = λ i. if nat_lt x ENTRIES then stands_at (entry i x) h else is_at h (mark i (x - ENTRIES))

  other_heads : (b : ℕ) → b ≢ a → (t.view b).hold.head ≡ (s.view b).hold.head
  other_heads b ne = ap (λ (v : Told). v.hold.head) (others b ne)

  names_none : {A : Type 0} (b x : ℕ) → b ≡ a → index_named b (put differs a d b) ≡ Some x → A
  names_none b x q is = none_is x (sym ((λ i. index_named (q i) (put differs a d (q i)))
      ∙ (ap (index_named a) (put_same differs a d) ∙ unnamed)) ∙ is)

  lock_members : AreMembers s differs beside → AreMembers t (put differs a d) beside
  lock_members r = record {
    bits = r.bits;
    spells = r.spells;
    agrees = λ h x far. r.agrees h x (λ b held. by h x far b held (eqb_tells b a)) ∙ sym (same_names h x);
    named = λ b h x held is. named_by b h x held is (eqb_tells b a);
    untested = λ b h x held is. untested_by b h x held is (eqb_tells b a);
  }
    where
      by : (h x : ℕ) → ((b : ℕ) → (t.view b).hold.head ≡ Some h → index_named b (put differs a d b) ≢ Some x)
          → (b : ℕ) → (s.view b).hold.head ≡ Some h
          → (((b == a) ≡ true) × (b ≡ a)) ⊎ (((b == a) ≡ false) × (b ≢ a))
          → index_named b (differs b) ≢ Some x
      by h x far b held (inl q) = subst (λ (i : ℕ). index_named i (differs i) ≢ Some x) (sym q.1)
          (was h x (subst (λ (i : ℕ). (s.view i).hold.head ≡ Some h) q.1 held))
      by h x far b held (inr q) = subst (λ (c : Difference). index_named b c ≢ Some x)
          (put_other differs a d b q.1) (far b (other_heads b q.1 ∙ held))

      named_by : (b h x : ℕ) → (t.view b).hold.head ≡ Some h → index_named b (put differs a d b) ≡ Some x
          → (((b == a) ≡ true) × (b ≡ a)) ⊎ (((b == a) ≡ false) × (b ≢ a))
          → names t h x ≡ is_put (put differs a d b)
      named_by b h x held is (inl q) = names_none b x q.1 is
      named_by b h x held is (inr q) = same_names h x ∙ (r.named b h x (sym (other_heads b q.1) ∙ held)
          (sym (ap (index_named b) (put_other differs a d b q.1)) ∙ is)
          ∙ ap is_put (sym (put_other differs a d b q.1)))

      untested_by : (b h x : ℕ) → (t.view b).hold.head ≡ Some h → put differs a d b ≡ at_entry x true
          → (((b == a) ≡ true) × (b ≡ a)) ⊎ (((b == a) ≡ false) × (b ≢ a))
          → (owner x ≡ b) × IsUntested (t.view b) h x
      untested_by b h x held is (inl q) = names_none b x q.1 (ap (index_named b) is)
      untested_by b h x held is (inr q) = subst (λ (v : Told). (owner x ≡ b) × IsUntested v h x) (sym (others b q.1))
          (r.untested b h x (sym (other_heads b q.1) ∙ held) (sym (put_other differs a d b q.1) ∙ is))

-- Task a stores the word of index i in a hold of head g, where it named nothing before; it names i then.
module _ (s t : Table) (differs : ℕ → Difference) (beside : place.Location → ℕ) (a g i : ℕ) (d : Difference)
    (held : (s.view a).hold.head ≡ Some g) (clear : index_named a (differs a) ≡ None)
    (index : index_named a d ≡ Some i)
    (one : (x y h : ℕ) → (s.view x).hold.head ≡ Some h → (s.view y).hold.head ≡ Some h → x ≡ y)
    (heads : (b : ℕ) → (t.view b).hold.head ≡ (s.view b).hold.head)
    (others : (b : ℕ) → b ≢ a → t.view b ≡ s.view b)
    (fresh : (x : ℕ) → d ≡ at_entry x true → (owner x ≡ a) × IsUntested (t.view a) g x)
    (there : names t g i ≡ is_put d)
    (words : (h x : ℕ) → x ≢ i → names t h x ≡ names s h x)
    (elsewhere : (h : ℕ) → h ≢ g → names t h i ≡ names s h i) where
  some_same : (x y : ℕ) → ◌≡◌ {A = Option ℕ} (Some x) (Some y) → x ≡ y
  some_same x y e = cc

  store_members : AreMembers s differs beside → AreMembers t (put differs a d) beside
  store_members r = record {
    bits = r.bits;
    spells = r.spells;
    agrees = λ h x far. agrees_by h x far (eqb_tells h g);
    named = λ b h x holds is. named_by b h x holds is (eqb_tells b a);
    untested = λ b h x holds is. untested_by b h x holds is (eqb_tells b a);
  }
    where
      D : ℕ → Difference
      D = put differs a d

      other_heads : (h x : ℕ) → h ≢ g → names t h x ≡ names s h x
      other_heads h x ne = elim (eqb_tells x i) [
        | inl q ↦ subst (λ (j : ℕ). names t h j ≡ names s h j) (sym q.1) (elsewhere h ne)
        | inr q ↦ words h x q.1
      ]

      -- nobody else named the index before
      far_before : (h x : ℕ) → ((b : ℕ) → (t.view b).hold.head ≡ Some h → index_named b (D b) ≢ Some x)
          → (b : ℕ) → (s.view b).hold.head ≡ Some h
          → (((b == a) ≡ true) × (b ≡ a)) ⊎ (((b == a) ≡ false) × (b ≢ a)) → index_named b (differs b) ≢ Some x
      far_before h x far b holds (inl q) = λ is. none_is x (sym clear
          ∙ ((λ j. index_named (sym q.1 j) (differs (sym q.1 j))) ∙ is))
      far_before h x far b holds (inr q) = subst (λ (e : Difference). index_named b e ≢ Some x)
          (put_other differs a d b q.1) (far b (heads b ∙ holds))

      old : (h x : ℕ) → ((b : ℕ) → (t.view b).hold.head ≡ Some h → index_named b (D b) ≢ Some x)
          → r.bits h x ≡ names s h x
      old h x far = r.agrees h x (λ b holds. far_before h x far b holds (eqb_tells b a))

      agrees_by : (h x : ℕ) → ((b : ℕ) → (t.view b).hold.head ≡ Some h → index_named b (D b) ≢ Some x)
          → (((h == g) ≡ true) × (h ≡ g)) ⊎ (((h == g) ≡ false) × (h ≢ g)) → r.bits h x ≡ names t h x
      agrees_by h x far (inl q) = old h x far ∙ sym (words h x (λ e. far a
          (heads a ∙ (held ∙ ap (λ (j : ℕ). Some j) (sym q.1)))
          (ap (index_named a) (put_same differs a d) ∙ (index ∙ ap (λ (j : ℕ). Some j) (sym e)))))
      agrees_by h x far (inr q) = old h x far ∙ sym (other_heads h x q.1)

      named_by : (b h x : ℕ) → (t.view b).hold.head ≡ Some h → index_named b (D b) ≡ Some x
          → (((b == a) ≡ true) × (b ≡ a)) ⊎ (((b == a) ≡ false) × (b ≢ a)) → names t h x ≡ is_put (D b)
      named_by b h x holds is (inl q) =
          let now : D b ≡ d = ap D q.1 ∙ put_same differs a d in
          let head : h ≡ g = some_same h g (sym holds ∙ (heads b ∙ (ap (λ (j : ℕ). (s.view j).hold.head) q.1
          ∙ held))) in
          let at : x ≡ i = some_same x i (sym is ∙ ((λ j. index_named (q.1 j) (now j)) ∙ index)) in
          (λ j. names t (head j) (at j)) ∙ (there ∙ ap is_put (sym now))
      named_by b h x holds is (inr q) =
          let now : D b ≡ differs b = put_other differs a d b q.1 in
          other_heads h x (λ e. q.1 (one b a g (sym (heads b) ∙ (holds ∙ ap (λ (j : ℕ). Some j) e)) held))
          ∙ (r.named b h x (sym (heads b) ∙ holds) (sym (ap (index_named b) now) ∙ is) ∙ ap is_put (sym now))

      untested_by : (b h x : ℕ) → (t.view b).hold.head ≡ Some h → D b ≡ at_entry x true
          → (((b == a) ≡ true) × (b ≡ a)) ⊎ (((b == a) ≡ false) × (b ≢ a))
          → (owner x ≡ b) × IsUntested (t.view b) h x
      untested_by b h x holds is (inl q) =
          let now : D b ≡ d = ap D q.1 ∙ put_same differs a d in
          let head : h ≡ g = some_same h g (sym holds ∙ (heads b ∙ (ap (λ (j : ℕ). (s.view j).hold.head) q.1
          ∙ held))) in
          subst (λ (k : ℕ). (owner x ≡ k) × IsUntested (t.view k) h x) (sym q.1)
          (subst (λ (j : ℕ). (owner x ≡ a) × IsUntested (t.view a) j x) (sym head) (fresh x (sym now ∙ is)))
      untested_by b h x holds is (inr q) = subst (λ (v : Told). (owner x ≡ b) × IsUntested v h x) (sym (others b q.1))
          (r.untested b h x (sym (heads b) ∙ holds) (sym (put_other differs a d b q.1) ∙ is))

-- which words a store of an entry's or a bookmark's word changes
entry_test : (x : ℕ) → x < ENTRIES → nat_lt x ENTRIES ≡ true
entry_test x small = grind (arith, nat_tests)

mark_test : (t : ℕ) → nat_lt (ENTRIES + t) ENTRIES ≡ false
mark_test t = let far : (ENTRIES + t < ENTRIES) → ⊥ = λ h. omega arith in grind (arith, nat_tests)

mark_back : (t : ℕ) → ENTRIES + t - ENTRIES ≡ t
mark_back t = omega arith

pub entry_names : (s : Table) (h x : ℕ) → x < ENTRIES → names s h x ≡ stands_at (s.entry x) h
entry_names s h x small = ap (λ (b : Bool). if b then stands_at (s.entry x) h else is_at h (s.mark (x - ENTRIES)))
    (entry_test x small)

pub mark_names : (s : Table) (h t : ℕ) → names s h (ENTRIES + t) ≡ is_at h (s.mark t)
mark_names s h t = ap (λ (b : Bool). if b then stands_at (s.entry (ENTRIES + t)) h
    else is_at h (s.mark (ENTRIES + t - ENTRIES))) (mark_test t) ∙ ap (λ (u : ℕ). is_at h (s.mark u)) (mark_back t)

other_entry : (s : Table) (x : ℕ) (o : Option Entry) (z : Table) → z.entry ≡ put s.entry x o → z.mark ≡ s.mark
    → (h y : ℕ) → y ≢ x → names z h y ≡ names s h y
other_entry s x o z entry mark h y ne = λ i. if nat_lt y ENTRIES
    then stands_at ((ap (λ (f : ℕ → Option Entry). f y) entry ∙ put_other s.entry x o y ne) i) h
    else is_at h (mark i (y - ENTRIES))

other_mark : (s : Table) (t : ℕ) (o : Option Mark) (z : Table) → z.mark ≡ put s.mark t o → z.entry ≡ s.entry
    → (h y : ℕ) → y ≢ ENTRIES + t → names z h y ≡ names s h y
other_mark s t o z mark entry h y ne = by (nat_lt y ENTRIES) refl
  where
    by : (b : Bool) → nat_lt y ENTRIES ≡ b → (if b then stands_at (z.entry y) h else is_at h (z.mark (y - ENTRIES)))
        ≡ (if b then stands_at (s.entry y) h else is_at h (s.mark (y - ENTRIES)))
    by true q = ap (λ (f : ℕ → Option Entry). stands_at (f y) h) entry
    by false q =
        let from : (y < ENTRIES) → ⊥ = grind (arith, nat_tests) in
        let far : y - ENTRIES ≢ t = (λ e. ne (omega arith)) in
        ap (is_at h) (ap (λ (f : ℕ → Option Mark). f (y - ENTRIES)) mark ∙ put_other s.mark t o (y - ENTRIES) far)

same_test : (h : ℕ) → (h == h) ≡ true
same_test h = grind (arith, nat_tests)

other_test : (g h : ℕ) → h ≢ g → (g == h) ≡ false
other_test g h ne = grind (arith, nat_tests)

-- a step that changes no entry, bookmark or lock
still_step : (s : Table) (a : ℕ) (e : Step) (b : Book) (differs : ℕ → Difference) (beside : place.Location → ℕ)
    → (next s a e).entry ≡ s.entry → (next s a e).mark ≡ s.mark
    → (after e (s.view a)).hold.head ≡ (s.view a).hold.head → (learn_step e b).differs ≡ b.differs
    → differs a ≡ b.differs
    → ((h x : ℕ) → (s.view a).hold.head ≡ Some h → b.differs ≡ at_entry x true → IsUntested (s.view a) h x
    → IsUntested (after e (s.view a)) h x)
    → AreMembers s differs beside
    → AreMembers (next s a e) (put differs a (learn_step e b).differs) beside
still_step s a e b differs beside entry mark head kept same keeps r =
    subst (λ (f : ℕ → Difference). AreMembers (next s a e) f beside)
    (sym (put_again differs a (learn_step e b).differs (kept ∙ sym same)))
    (quiet_members s (next s a e) differs beside entry mark
    (λ d. put_at (λ (v : Told). v.hold.head ≡ (s.view d).hold.head) s.view a (after e (s.view a)) d
    (λ q. head ∙ ap (λ (i : ℕ). (s.view i).hold.head) (sym q)) (λ _. refl))
    (λ d h x held is u. put_at (λ (v : Told). IsUntested v h x) s.view a (after e (s.view a)) d
    (λ q. keeps h x (ap (λ (i : ℕ). (s.view i).hold.head) (sym q) ∙ held) (sym same ∙ (ap differs (sym q) ∙ is))
    (subst (λ (i : ℕ). IsUntested (s.view i) h x) q u)) (λ _. u)) r)

taken_out : {A : Type 0} (x y : ℕ) → at_entry x false ≡ at_entry y true → A
taken_out x y is = absurd (cc)

no_entry : {A : Type 0} (on : Bool) (y : ℕ) → at_mark on ≡ at_entry y true → A
no_entry on y is = absurd (cc)

module _ (s : Table) (a : ℕ) (b : Book) (differs : ℕ → Difference) (beside : place.Location → ℕ)
    (one : (x y h : ℕ) → (s.view x).hold.head ≡ Some h → (s.view y).hold.head ≡ Some h → x ≡ y)
    (same : differs a ≡ b.differs) where
  same_heads : (e : Step) → (after e (s.view a)).hold.head ≡ (s.view a).hold.head → (d : ℕ)
      → ((next s a e).view d).hold.head ≡ (s.view d).hold.head
  same_heads e head d = put_at (λ (v : Told). v.hold.head ≡ (s.view d).hold.head) s.view a (after e (s.view a)) d
      (λ q. head ∙ ap (λ (i : ℕ). (s.view i).hold.head) (sym q)) (λ _. refl)

  same_others : (e : Step) (d : ℕ) → d ≢ a → (next s a e).view d ≡ s.view d
  same_others e d ne = put_other s.view a (after e (s.view a)) d ne

  same_index : (x y : ℕ) → at_entry x true ≡ at_entry y true → x ≡ y
  same_index x y is = cc

  -- an entry that was just queued
  fresh_entry : (x h : ℕ) (e : Entry) → (s.view a).hold.head ≡ Some h
      → IsUntested (after (step.Queue x e) (s.view a)) h x
  fresh_entry x h e held = record {
    held = held;
    failed = λ c. ap (λ (g : Watch → Option ℕ). g c) (put_same (s.view a).checks.failed x (λ _. None));
    low = λ c. ap (λ (g : Watch → Option ℕ). g c) (put_same (s.view a).checks.low x (λ _. None));
    zero_failed = by (s.view a).hold.prepared;
    tas_failed = λ c. ap (λ (g : Watch → Bool). g c) (put_same (s.view a).checks.tas_failed x (λ _. false));
  }
    where
      by : (p : Bool) → (p ≡ true) ⊎ ((c : Watch) → (if p then (s.view a).checks.zero_failed
          else put (s.view a).checks.zero_failed x (λ _. None)) x c ≡ None)
      by true = inl refl
      by false = inr (λ c. ap (λ (g : Watch → Option ℕ). g c) (put_same (s.view a).checks.zero_failed x (λ _. None)))

  queue_members : (x : ℕ) (e : Entry) → Allowed s a (step.Queue x e) → b.differs ≡ nothing
      → AreMembers s differs beside
      → AreMembers (next s a (step.Queue x e)) (put differs a (at_entry x true)) beside
  queue_members x e may clear = store_members s z differs beside a g x (at_entry x true) may.3
      (ap (index_named a) (same ∙ clear)) refl one
      (same_heads (step.Queue x e) refl) (same_others (step.Queue x e))
      (λ y at. subst (λ (i : ℕ). (owner i ≡ a) × IsUntested (z.view a) g i) (same_index x y at) (
        may.0,
        subst (λ (v : Told). IsUntested v g x) (sym (put_same s.view a (after (step.Queue x e) (s.view a))))
            (fresh_entry x g e may.3),
      ))
      (entry_names z g x may.1 ∙ (ap (λ (o : Option Entry). stands_at o g) (put_same s.entry x (Some e)) ∙ same_test g))
      (other_entry s x (Some e) z refl refl)
      (λ h ne. entry_names z h x may.1 ∙ (ap (λ (o : Option Entry). stands_at o h) (put_same s.entry x (Some e))
      ∙ (other_test g h ne
      ∙ (ap (λ (o : Option Entry). stands_at o h) (sym may.2) ∙ sym (entry_names s h x may.1)))))
    where
      z : Table
      z = next s a (step.Queue x e)

      g : ℕ
      g = head_of e.watch

  -- no word is named where no word differs from its bit, or a task has been told of its page
  pub names_nothing : (x : ℕ) → IsOrderly s a (step.Unqueue x) b → index_named a (differs a) ≡ None
  names_nothing x clear = elim clear.0 [
    | inl n ↦ ap (index_named a) (same ∙ n.0)
    | inr t ↦ ap (index_named a) (same ∙ t)
  ]

  unqueue_members : (x : ℕ) → Allowed s a (step.Unqueue x) → IsOrderly s a (step.Unqueue x) b
      → AreMembers s differs beside → AreMembers (next s a (step.Unqueue x)) (put differs a (at_entry x false)) beside
  unqueue_members x may clear = store_members s z differs beside a g x (at_entry x false) may.2
      (names_nothing x clear) refl one (same_heads (step.Unqueue x) refl) (same_others (step.Unqueue x))
      (λ y at. taken_out x y at)
      (entry_names z g x clear.1 ∙ ap (λ (o : Option Entry). stands_at o g) (put_same s.entry x None))
      (other_entry s x None z refl refl)
      (λ h ne. entry_names z h x clear.1 ∙ (ap (λ (o : Option Entry). stands_at o h) (put_same s.entry x None)
      ∙ (sym (other_test g h ne)
      ∙ (ap (λ (o : Option Entry). stands_at o h) (sym may.1) ∙ sym (entry_names s h x clear.1)))))
    where
      z : Table
      z = next s a (step.Unqueue x)

      g : ℕ
      g = head_of may.0.watch

  mark_members : (g q : ℕ) → Allowed s a (step.Mark g q) → (b.differs ≡ nothing) × (s.mark a ≡ None)
      → AreMembers s differs beside → AreMembers (next s a (step.Mark g q)) (put differs a (at_mark true)) beside
  mark_members g q may clear = store_members s z differs beside a g (ENTRIES + a) (at_mark true) may
      (ap (index_named a) (same ∙ clear.0)) refl one (same_heads (step.Mark g q) refl)
      (same_others (step.Mark g q)) (λ y at. no_entry true y at)
      (mark_names z g a ∙ (ap (is_at g) (put_same s.mark a (Some (record { head = g; place = q }))) ∙ same_test g))
      (other_mark s a (Some (record { head = g; place = q })) z refl refl)
      (λ h ne. mark_names z h a ∙ (ap (is_at h) (put_same s.mark a (Some (record { head = g; place = q })))
      ∙ (other_test g h ne ∙ (ap (is_at h) (sym clear.1) ∙ sym (mark_names s h a)))))
    where
      z : Table
      z = next s a (step.Mark g q)

  unmark_members : IsOrderly s a step.Unmark b → AreMembers s differs beside
      → AreMembers (next s a step.Unmark) (put differs a (at_mark false)) beside
  unmark_members clear = store_members s z differs beside a g (ENTRIES + a) (at_mark false) clear.1.2
      (ap (index_named a) (same ∙ clear.0)) refl one (same_heads step.Unmark refl) (same_others step.Unmark)
      (λ y at. no_entry false y at)
      (mark_names z g a ∙ ap (is_at g) (put_same s.mark a None))
      (other_mark s a None z refl refl)
      (λ h ne. mark_names z h a ∙ (ap (is_at h) (put_same s.mark a None)
      ∙ (sym (other_test g h ne) ∙ (ap (is_at h) (sym clear.1.3) ∙ sym (mark_names s h a)))))
    where
      z : Table
      z = next s a step.Unmark

      g : ℕ
      g = clear.1.0

  try_names : (x : ℕ) (clear : Bool) → b.differs ≡ nothing → index_named a (after_try x clear b.differs) ≡ None
  try_names x true n = refl
  try_names x false n = ap (index_named a) n

  -- a value that is taken tests no bit, and a test-and-set is made where each word has its bit
  consume_untested : (c : Watch) (n w : ℕ) → IsOrderly s a (step.Consume c n w) b → (h x : ℕ)
      → (s.view a).hold.head ≡ Some h → b.differs ≡ at_entry x true → IsUntested (s.view a) h x
      → IsUntested (after (step.Consume c n w) (s.view a)) h x
  consume_untested c n w clear h x held at u = record {
    held = u.held;
    failed = u.failed;
    low = u.low;
    zero_failed = u.zero_failed;
    tas_failed = λ d. by d (is_bit c) clear;
  }
    where
      by : (d : Watch) (t : Bool) → (t ≡ true → (g : ℕ) → (s.view a).hold.head ≡ Some g → b.differs ≡ nothing)
          → ((s.view a).checks.tas_failed x d || (t && (same_watch d c && not (was_clear c w)))) ≡ false
      by d true tested = none_there x true (sym (tested refl h held) ∙ at)
      by d false tested = ap (λ (o : Bool). o || false) (u.tas_failed d)

  pub members_next : (e : Step) → Allowed s a e → IsOrderly s a e b → AreMembers s differs beside
      → AreMembers (next s a e) (put differs a (learn_step e b).differs) beside
  members_next (step.Queue x e) may clear r = queue_members x e may clear.0 r
  members_next (step.Unqueue x) may clear r = unqueue_members x may clear r
  members_next (step.Mark h q) may clear r = mark_members h q may clear r
  members_next step.Unmark may clear r = unmark_members clear r
  members_next (step.Lock g aim w) may clear r = lock_members s
      (next s a (step.Lock g aim w)) differs beside a nothing refl refl refl
      (same_others (step.Lock g aim w))
      (λ h x held. absurd (none_is h (sym may.1 ∙ held))) r
  members_next (step.Unlock g sp) may clear r = lock_members s (next s a (step.Unlock g sp)) differs beside a
      nothing refl refl refl
      (same_others (step.Unlock g sp))
      (λ h x held. nothing_named a (differs a) x (same ∙ clear)) r
  members_next (step.TasFor x p w) may clear r = lock_members s (next s a (step.TasFor x p w)) differs beside a
      (after_try x (was_clear (page p) w) b.differs) (try_names x (was_clear (page p) w) clear) refl refl
      (same_others (step.TasFor x p w)) (λ h y held. nothing_named a (differs a) y (same ∙ clear)) r
  members_next (step.Handed x) may clear r = lock_members s (next s a (step.Handed x)) differs beside a
      (page_told x) refl refl refl (same_others (step.Handed x))
      (λ h y held is. none_is y (sym (ap (index_named a) (same ∙ clear)) ∙ is)) r
  members_next (step.Sleep w) may clear r = still_step s a (step.Sleep w) b differs beside refl refl refl
      (asleep_differs (sleep_of (task_of w)) b) same (λ h x held at u. u) r
  members_next (step.Load c w) may clear r = still_step s a (step.Load c w) b differs beside refl refl refl refl same
      (λ h x held at u. none_there x true (sym (clear h held) ∙ at)) r
  members_next (step.State σ) may clear r = still_step s a (step.State σ) b differs beside refl refl refl refl same
      (λ h x held at u. record {
        held = u.held;
        failed = λ c. refl;
        low = u.low;
        zero_failed = inl (ap is_held u.held);
        tas_failed = u.tas_failed;
      }) r
  members_next (step.Consume c n w) may clear r = still_step s a (step.Consume c n w) b differs beside refl refl refl
      refl same (consume_untested c n w clear) r
  members_next (step.Unflag y o) may clear r = still_step s a (step.Unflag y o) b differs beside refl refl refl refl
      same (λ h x held at u. record {
        held = u.held;
        failed = u.failed;
        low = λ c. put_at (λ (g : Watch → Option ℕ). g c ≡ None) (s.view a).checks.low y (λ _. None) x (λ _. refl)
            (λ _. u.low c);
        zero_failed = u.zero_failed;
        tas_failed = u.tas_failed;
      }) r
  members_next e may clear r = still_step s a e b differs beside refl refl refl refl same
      (λ h x held at u. record {
        held = u.held;
        failed = u.failed;
        low = u.low;
        zero_failed = u.zero_failed;
        tas_failed = u.tas_failed;
      }) r
