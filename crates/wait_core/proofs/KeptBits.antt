-- Who keeps each bit, and which page was taken for each task, after an event.
use Rattle.std.proofs.Common.{refl, arith, ap, sym, ◌∙◌, subst, inl, inr, length-set, get_or-set_other}
use Rattle.wait_model.specs.{declared.watches.Entry.Entry, declared.watches.Watch.Watch, declared.steps.Step.Step}
use Rattle.wait_model.specs.{declared.calls.Event.Event, declared.points.Given.Given, Views.View, Views.Bits}
use Rattle.wait_model.specs.{Facts.Kept, Rows.AllAllowed, Reached.Allows, Reached.Joins, Functions.put}
use Rattle.wait_model.specs.declared.layout.TheConstants.{TASKS, ENTRIES, BIT_WORDS, WORD_BITS, BITS}
use Rattle.wait_model.specs.Watches.{same, is_bit, bit_of, page}
use Rattle.wait_model.specs.Words.{bit_at, flag, head_word}
use Rattle.wait_model.specs.Fold.{after, after_all, takes_note}
use Rattle.wait_model.specs.Tables.{start, value_of, next}
use Rattle.wait_model.specs.Runs.{State, is_publishing, looks_below, looks, peeks_below, all_peeks, set_step}
use Rattle.wait_model.specs.Runs.{event_steps, after_event, own}
use Rattle.std.proofs.lemmas.Grind.{get_or-set_at}
use Rattle.std.proofs.lemmas.Option.{get_or_from_slice_get}
use Rattle.std.proofs.lemmas.Bool.Decides.{nat_tests, eqb_tells}
use Rattle.std.specs.Prelude.{◌≡◌, ◌≢◌, ℕ, zero, suc, ◌+◌, ◌*◌, ◌<◌, Bool, true, false, not, ◌&&◌, ◌||◌, ◌==◌}
use Rattle.std.specs.Prelude.{if◌then◌else◌, List, [], ◌∷◌, length, slice_get, slice_index_or, slice_set, Option, Some}
use Rattle.std.specs.Prelude.{None, IfSome}
use Rattle.wait_model.specs.declared.watches.Watch.TheVariants as watch
use Rattle.wait_model.specs.declared.steps.Step.TheVariants as step
use Rattle.wait_model.specs.declared.calls.Event.TheVariants as event
use Rattle.wait_model.proofs.{Functions.put_at, RunLaws.OthersEvents.own_one}
use Rattle.wait_model.proofs.{HistoryLaws.UnlockedLooks.peeks_same as peeks_leave, WordLaws.BitWords.bit_read}
use Rattle.wait_model.proofs.StepLaws.UnlockSteps.{unlock_bits}
use Rattle.wait_model.proofs.HistoryLaws.HoldLooks.{looks_same as looks_leave, steps_own, steps_other}
use Rattle.wait_core.specs.Keepers.{ShowsKeepers, ShowsTaken, is_keeper, noted_by, kept_after, taken_after}
use Rattle.wait_core.proofs.NotedBits.{NotesBits}

-- a task keeps the bits after these steps that it kept before
abbrev AllSame : List Step → Type 0
AllSame es = (v : View) (w b : ℕ) → (after_all v es).bits.keeps (watch.Bit w b) ≡ v.bits.keeps (watch.Bit w b)

looks_same : (entry : ℕ → Option Entry) (n : ℕ) → AllSame (looks_below entry n)
looks_same entry zero v w b = refl
looks_same entry (suc n) v w b = looks_same entry n (after (step.Saw n _) v) w b

all_looks_same : (entry : ℕ → Option Entry) → AllSame (looks entry)
unfolding looks
all_looks_same entry = looks_same entry ENTRIES

peeks_same : (entry : ℕ → Option Entry) (n : ℕ) → AllSame (peeks_below entry n)
peeks_same entry zero v w b = refl
peeks_same entry (suc n) v w b = peeks_same entry n (after (step.Peek n _) v) w b

all_peeks_same : (entry : ℕ → Option Entry) → AllSame (all_peeks entry)
unfolding all_peeks
all_peeks_same entry = peeks_same entry ENTRIES

or_true : (k : Bool) → (k || true) ≡ true
or_true true = refl
or_true false = refl

and_false : (k : Bool) → (k && false) ≡ false
and_false true = refl
and_false false = refl

or_false : (k : Bool) → (k || false) ≡ k
or_false true = refl
or_false false = refl

and_true : (k : Bool) → (k && true) ≡ k
and_true true = refl
and_true false = refl

-- a store of a word that is no bit word
stored_same : (c : Watch) (value found : ℕ) → is_bit c ≡ false → AllSame (set_step c value found ∷ [])
stored_same (watch.Plain c) value found h v w b = and_true (v.bits.keeps (watch.Bit w b))
stored_same (watch.Done d) value found h v w b = by (is_publishing (watch.Done d) found value)
  where
    by : (p : Bool) → (after (if p then step.Publish (watch.Done d) value found
        else step.Consume (watch.Done d) value found) v).bits.keeps (watch.Bit w b) ≡ v.bits.keeps (watch.Bit w b)
    by true = and_true (v.bits.keeps (watch.Bit w b))
    by false = or_false (v.bits.keeps (watch.Bit w b))
stored_same (watch.Bit i k) value found h v w b = absurd (cc)
stored_same (watch.Var x o) value found h v w b = and_true (v.bits.keeps (watch.Bit w b))

taken_same : (c : Watch) (k found : ℕ) → c ≡ watch.Plain k → AllSame (step.Consume c 0 found ∷ [])
taken_same c k found e = subst (λ (x : Watch). AllSame (step.Consume x 0 found ∷ [])) (sym e)
    (λ v w b. or_false (v.bits.keeps (watch.Bit w b)))

-- an event that neither sets nor clears a bit, and by which no task takes note of a page
abbrev IsStill : Event → Type 0
IsStill (event.Tas w b found) = ⊥
IsStill (event.Clear w b) = ⊥
IsStill event.Unflag = ⊥
IsStill _ = Unit {0}

module _ (s : State) (me : ℕ) (g : Given) where
  still_same : (e : Event) → IsStill e → Joins g e → NotesBits g.watch (value_of s.table.words g.watch) e
      → AllSame (event_steps s me g e)
  still_same (event.Lock h) i j n = λ v w b. all_looks_same s.table.entry (after (step.Lock h g.walk _) v) w b
  still_same (event.Unlock h sp) i j n = λ v w b. ap (λ (k : Bits). k.keeps (watch.Bit w b)) (unlock_bits v v.walk sp)
  still_same (event.Active h hit) i j n = all_peeks_same s.table.entry
  still_same (event.Set c x) i j n = stored_same g.watch x (value_of s.table.words g.watch) n
  still_same (event.Take c x) i j n = taken_same g.watch c (value_of s.table.words g.watch) j
  still_same e i j n = grind arith

-- a test of two bits
both_same : (w b i k : ℕ) (t : Bool) → ((w == i) && (b == k)) ≡ t → w < BIT_WORDS → b < WORD_BITS → i < BIT_WORDS
    → k < WORD_BITS
    → (t ≡ true → WORD_BITS * w + b ≡ WORD_BITS * i + k) × (t ≡ false → WORD_BITS * w + b ≢ WORD_BITS * i + k)
both_same w b i k t e lw lb li lk = elim (eqb_tells w i) [
  | inl p ↦ elim (eqb_tells b k) [
    | inl q ↦ (
      λ _. omega (arith, p.1, q.1),
      λ f. absurd (let z : true ≡ false = sym (rw (p.0, q.0) refl) ∙ e ∙ f in cc),
    )
    | inr q ↦ (
      λ f. absurd (let z : false ≡ true = sym (rw (p.0, q.0) refl) ∙ e ∙ f in cc),
      λ _ h. q.1 (omega (arith, h, p.1)),
    )
  ]
  | inr p ↦ (
    λ f. absurd (let z : false ≡ true = sym (rw p.0 refl) ∙ e ∙ f in cc),
    λ _ h. p.1 (omega (arith, h)),
  )
]

not_true : (b : Bool) → (b ≡ true → ⊥) → b ≡ false
not_true true h = absurd (h refl)
not_true false h = refl

not_met : (b : Bool) → not b ≡ false → b ≡ true
not_met true h = refl
not_met false h = absurd (cc)

itself : (i k : ℕ) → same (watch.Bit i k) (watch.Bit i k) ≡ true
itself i k =
    let p : (i == i) ≡ true = grind (arith, nat_tests) in
    let q : (k == k) ≡ true = grind (arith, nat_tests) in
    rw (p, q) refl

is_same : (x : ℕ) → (x == x) ≡ true
is_same x = grind (arith, nat_tests)

is_not : (x a : ℕ) → x ≢ a → (x == a) ≡ false
is_not x a ne = grind (arith, nat_tests)

module _ (keepers : List (Option ℕ)) (view : ℕ → View) (shown : ShowsKeepers keepers view) where
  -- one bit has another keeper, or none
  module _ (i k : ℕ) (x : Option ℕ) (li : i < BIT_WORDS) (lk : k < WORD_BITS) (later : ℕ → View)
      (here : (a : ℕ) → a < TASKS → (later a).bits.keeps (watch.Bit i k) ≡ is_keeper x a)
      (there : (a w b : ℕ) → a < TASKS → same (watch.Bit w b) (watch.Bit i k) ≡ false
      → (later a).bits.keeps (watch.Bit w b) ≡ (view a).bits.keeps (watch.Bit w b)) where
    at_bit : (a w b : ℕ) → a < TASKS → w < BIT_WORDS → b < WORD_BITS → (t : Bool)
        → same (watch.Bit w b) (watch.Bit i k) ≡ t
        → (later a).bits.keeps (watch.Bit w b) ≡ is_keeper (slice_index_or (slice_set keepers (WORD_BITS * i + k) x)
        (WORD_BITS * w + b) None) a
    at_bit a w b la lw lb true e =
        let ew : w ≡ i = grind (arith, nat_tests) in
        let eb : b ≡ k = grind (arith, nat_tests) in
        rw (ew, eb) (here a la ∙ ap (λ (y : Option ℕ). is_keeper y a) (sym (get_or-set_at keepers (WORD_BITS * i + k)
        (WORD_BITS * i + k) x None refl
        (omega (arith, shown.count)))))
    at_bit a w b la lw lb false e = there a w b la e ∙ shown.each a w b la lw lb
        ∙ ap (λ (y : Option ℕ). is_keeper y a) (sym (get_or-set_other keepers (WORD_BITS * i + k) (WORD_BITS * w + b) x
        None
        ((both_same w b i k false e lw lb li lk).1 refl)))

    changed : ShowsKeepers (slice_set keepers (WORD_BITS * i + k) x) later
    changed = record {
      count = length-set keepers (WORD_BITS * i + k) x ∙ shown.count;
      each = λ a w b la lw lb. at_bit a w b la lw lb (same (watch.Bit w b) (watch.Bit i k)) refl;
    }

module _ (s : State) (me : ℕ) (g : Given) (mine : me < TASKS) (facts : Kept s.table) (keepers : List (Option ℕ))
    (shown : ShowsKeepers keepers s.table.view) where
  abbrev later : Event → ℕ → View
  later e = (after_event s me g e).table.view

  abbrev keeps : View → ℕ → ℕ → Bool
  keeps v w b = v.bits.keeps (watch.Bit w b)

  own_view : (e : Event) → later e me ≡ after_all (s.table.view me) (event_steps s me g e)
  own_view e = steps_own s.table me (event_steps s me g e)

  other_view : (e : Event) (a : ℕ) → a ≢ me → later e a ≡ s.table.view a
  other_view e a ne = steps_other s.table me a (event_steps s me g e) ne

  -- by the own view and by those of others
  by_task : (P : ℕ → View → Type 0) (e : Event) (a : ℕ) → P me (after_all (s.table.view me) (event_steps s me g e))
      → (a ≢ me → P a (s.table.view a)) → P a (later e a)
  by_task P e a own others = elim (eqb_tells a me) [
    | inl q ↦ subst (λ (i : ℕ). P i (later e i)) (sym q.1) (subst (P me) (sym (own_view e)) own)
    | inr q ↦ subst (P a) (sym (other_view e a q.1)) (others q.1)
  ]

  still_shown : (e : Event) → IsStill e → Joins g e → NotesBits g.watch (value_of s.table.words g.watch) e
      → ShowsKeepers keepers (later e)
  still_shown e i j n = record {
    count = shown.count;
    each = λ a w b la lw lb. by_task (λ t v. t < TASKS → keeps v w b ≡ is_keeper (slice_index_or keepers (WORD_BITS * w
        + b) None) t) e a
        (λ lt. still_same s me g e i j n (s.table.view me) w b ∙ shown.each me w b lt lw lb)
        (λ _ lt. shown.each a w b lt lw lb) la;
  }

  -- the bit of an exchange or a clear
  module _ (i k : ℕ) (li : i < BIT_WORDS) (lk : k < WORD_BITS) (is : g.watch ≡ watch.Bit i k) where
    abbrev found : ℕ
    found = value_of s.table.words (watch.Bit i k)

    set_view : (v : View) (w b : ℕ) → keeps (after_all v (event_steps s me g (event.Tas i k 0))) w b
        ≡ (keeps v w b || (not (bit_at found k) && same (watch.Bit w b) (watch.Bit i k)))
    set_view v w b = ap (λ (c : Watch). keeps (after_all v (step.Consume c 1 (value_of s.table.words c) ∷ [])) w b) is

    clear_view : (v : View) (w b : ℕ) → keeps (after_all v (event_steps s me g (event.Clear i k))) w b
        ≡ (keeps v w b && not (same (watch.Bit w b) (watch.Bit i k)))
    clear_view v w b =
        ap (λ (c : Watch). keeps (after_all v (step.Publish c 0 (value_of s.table.words c) ∷ [])) w b) is

    -- nobody keeps a bit that is clear
    none_keeps : bit_at found k ≡ false → (a : ℕ) → keeps (s.table.view a) i k ≡ false
    none_keeps off a = not_true (keeps (s.table.view a) i k)
        (λ h.
        let set : s.table.words.bits i k ≡ true = not_met (s.table.words.bits i k)
        ((facts.facts.views a).bits.kept (watch.Bit i k) refl h) in
        let z : true ≡ false = sym set ∙ sym (bit_read (s.table.words.bits i) k lk) ∙ off in cc)

    set_shown : (t : Bool) → bit_at found k ≡ t
        → ShowsKeepers (if flag t == 0 then slice_set keepers (WORD_BITS * i + k) (Some me) else keepers) (later
        (event.Tas i k (flag t)))
    set_shown true on = record {
      count = shown.count;
      each = λ a w b la lw lb. by_task (λ t v. t < TASKS
          → keeps v w b ≡ is_keeper (slice_index_or keepers (WORD_BITS * w + b) None) t) (event.Tas i k 1) a
          (λ lt. set_view (s.table.view me) w b
          ∙ ap (λ x. keeps (s.table.view me) w b || (not x && same (watch.Bit w b) (watch.Bit i k))) on
          ∙ or_false (keeps (s.table.view me) w b) ∙ shown.each me w b lt lw lb)
          (λ _ lt. shown.each a w b lt lw lb) la;
    }
    set_shown false off = changed keepers s.table.view shown i k (Some me) li lk (later (event.Tas i k 0))
        (λ a la. by_task (λ t v. keeps v i k ≡ (me == t)) (event.Tas i k 0) a
        (set_view (s.table.view me) i k
        ∙ ap (λ x. keeps (s.table.view me) i k || (not x && same (watch.Bit i k) (watch.Bit i k))) off
        ∙ ap (λ x. keeps (s.table.view me) i k || x) (itself i k)
        ∙ or_true (keeps (s.table.view me) i k)
        ∙ sym (is_same me))
        (λ ne. none_keeps off a ∙ sym (is_not me a (λ q. ne (sym q)))))
        (λ a w b la e. by_task (λ t v. keeps v w b ≡ keeps (s.table.view t) w b) (event.Tas i k 0) a
        (set_view (s.table.view me) w b
        ∙ ap (λ x. keeps (s.table.view me) w b || (not (bit_at found k) && x)) e
        ∙ ap (λ x. keeps (s.table.view me) w b || x) (and_false (not (bit_at found k)))
        ∙ or_false (keeps (s.table.view me) w b)) (λ _. refl))

    clear_shown : keeps (s.table.view me) i k ≡ true
        → ShowsKeepers (slice_set keepers (WORD_BITS * i + k) None) (later (event.Clear i k))
    clear_shown mine' = changed keepers s.table.view shown i k None li lk (later (event.Clear i k))
        (λ a la. by_task (λ t v. t < TASKS → keeps v i k ≡ is_keeper None t) (event.Clear i k) a
        (λ lt. clear_view (s.table.view me) i k
        ∙ ap (λ x. keeps (s.table.view me) i k && not x) (itself i k)
        ∙ and_false (keeps (s.table.view me) i k))
        (λ ne lt. not_true (keeps (s.table.view a) i k)
        (λ h. ne (facts.bits.one_keeper a me (watch.Bit i k) refl h mine'))) la)
        (λ a w b la e. by_task (λ t v. keeps v w b ≡ keeps (s.table.view t) w b) (event.Clear i k) a
        (clear_view (s.table.view me) w b ∙ ap (λ x. keeps (s.table.view me) w b && not x) e
        ∙ and_true (keeps (s.table.view me) w b)) (λ _. refl))

  -- a task clears its flag, and takes note of the page that a walk took for it
  module _ (pages : List (Option ℕ)) (noted : ShowsTaken pages s.table.taken) where
    unflag_view : (o : Option ℕ) → slice_index_or pages me None ≡ o → (v : View) (w b : ℕ)
        → keeps (after_all v (event_steps s me g event.Unflag)) w b ≡ (keeps v w b || takes_note o (watch.Bit w b))
    unflag_view o is v w b = ap (λ (x : Option ℕ). keeps v w b || takes_note x (watch.Bit w b))
        (noted.each me mine ∙ is)

    noted_shown : (o : Option ℕ) → slice_index_or pages me None ≡ o
        → ShowsKeepers (noted_by me o keepers) (later event.Unflag)
    noted_shown None is = record {
      count = shown.count;
      each = λ a w b la lw lb. by_task (λ t v. t < TASKS
          → keeps v w b ≡ is_keeper (slice_index_or keepers (WORD_BITS * w + b) None) t) event.Unflag a
          (λ lt. unflag_view None is (s.table.view me) w b ∙ or_false (keeps (s.table.view me) w b)
          ∙ shown.each me w b lt lw lb)
          (λ _ lt. shown.each a w b lt lw lb) la;
    }
    noted_shown (Some p) is = changed keepers s.table.view shown p 0 (Some me) (noted.small me p mine is) (omega arith)
        (later event.Unflag)
        (λ a la. by_task (λ t v. keeps v p 0 ≡ (me == t)) event.Unflag a
        (unflag_view (Some p) is (s.table.view me) p 0 ∙ ap (λ x. keeps (s.table.view me) p 0 || x) (itself p 0)
        ∙ or_true (keeps (s.table.view me) p 0) ∙ sym (is_same me))
        (λ ne. facts.pages.unkept (own me) p a (noted.each me mine ∙ is) ∙ sym (is_not me a (λ q. ne (sym q)))))
        (λ a w b la e. by_task (λ t v. keeps v w b ≡ keeps (s.table.view t) w b) event.Unflag a
        (unflag_view (Some p) is (s.table.view me) w b ∙ ap (λ x. keeps (s.table.view me) w b || x) e
        ∙ or_false (keeps (s.table.view me) w b)) (λ _. refl))

    -- any event
    pub event_keepers : (e : Event) → Allows s me e → Joins g e
        → NotesBits g.watch (value_of s.table.words g.watch) e → AllAllowed s.table me (event_steps s me g e)
        → ShowsKeepers (kept_after me e pages keepers) (later e)
    event_keepers (event.Tas i k v) a j n al =
        let m : v ≡ flag (bit_at (found i k a.0 a.1 j) k) = n
        ∙ ap (λ (c : Watch). flag (bit_at (value_of s.table.words c) k)) j in
        subst (λ (x : ℕ). ShowsKeepers (if x == 0 then slice_set keepers (WORD_BITS * i + k) (Some me) else keepers)
        (later (event.Tas i k x))) (sym m) (set_shown i k a.0 a.1 j (bit_at (found i k a.0 a.1 j) k) refl)
    event_keepers (event.Clear i k) a j n al = clear_shown i k a.0 a.1 j
        (subst (λ (c : Watch). is_bit c ≡ true → (s.table.view me).bits.keeps c ≡ true) j (λ h. (al.0.1 h).1) refl)
    event_keepers event.Unflag a j n al = noted_shown (slice_index_or pages me None) refl
    event_keepers (event.Set c v) a j n al = still_shown (event.Set c v) tt j n
    event_keepers (event.Take c v) a j n al = still_shown (event.Take c v) tt j n
    event_keepers e a j n al = still_shown e tt j n

-- the page that was taken for one task is another, or none
module _ (pages : List (Option ℕ)) (taken : ℕ → Option ℕ) (noted : ShowsTaken pages taken) (u : ℕ) (x : Option ℕ)
    (mine : u < TASKS) (fits : (p : ℕ) → x ≡ Some p → p < BIT_WORDS) where
  put_one : (a : ℕ) → a < TASKS → put taken (own u) x (own a) ≡ slice_index_or (slice_set pages u x) a None
  put_one a la = put_at (λ o. o ≡ slice_index_or (slice_set pages u x) a None) taken (own u) x (own a)
      (λ q. sym (get_or-set_at pages u a x None (own_one a u q) (omega (arith, noted.count))))
      (λ ne. noted.each a la ∙ sym (get_or-set_other pages u a x None (λ q. ne (ap own q))))

  put_small : (a p : ℕ) → a < TASKS → slice_index_or (slice_set pages u x) a None ≡ Some p → p < BIT_WORDS
  put_small a p la is = elim (eqb_tells a u) [
    | inl q ↦ fits p (sym (get_or-set_at pages u a x None q.1 (omega (arith, noted.count))) ∙ is)
    | inr q ↦ noted.small a p la (sym (get_or-set_other pages u a x None q.1) ∙ is)
  ]

  put_taken : ShowsTaken (slice_set pages u x) (put taken (own u) x)
  put_taken = record { count = length-set pages u x ∙ noted.count; each = put_one; small = put_small }

module _ (s : State) (me : ℕ) (g : Given) (mine : me < TASKS) (pages : List (Option ℕ))
    (noted : ShowsTaken pages s.table.taken) where
  abbrev T : (ℕ → Option ℕ) → List (Option ℕ) → Type 0
  T f xs = ShowsTaken xs f

  -- an event that takes no page, and by which no task takes note of one
  abbrev IsQuiet : Event → Type 0
  IsQuiet (event.TasFor p who v) = ⊥
  IsQuiet event.Unflag = ⊥
  IsQuiet _ = Unit {0}

  stored_taken : (c : Watch) (v found : ℕ) (b : Bool)
      → (next s.table me (if b then step.Publish c v found else step.Consume c v found)).taken ≡ s.table.taken
  stored_taken c v found true = refl
  stored_taken c v found false = refl

  quiet_same : (e : Event) → IsQuiet e → (after_event s me g e).table.taken ≡ s.table.taken
  quiet_same (event.TasFor p who v) q = absurd q
  quiet_same event.Unflag q = absurd q
  quiet_same (event.Lock h) q = (looks_leave (next s.table me (step.Lock h g.walk
      (head_word (s.table.holder h) (s.table.spent h)))) s.table.entry me).taken
  quiet_same (event.Active h hit) q = (peeks_leave s.table s.table.entry me).taken
  quiet_same (event.Set c v) q = stored_taken g.watch v (value_of s.table.words g.watch)
      (is_publishing g.watch (value_of s.table.words g.watch) v)
  quiet_same e q = refl

  quiet_taken : (e : Event) → IsQuiet e → T (after_event s me g e).table.taken pages
  quiet_taken e q = subst (λ (f : ℕ → Option ℕ). T f pages) (sym (quiet_same e q)) noted

  -- an exchange for another task
  tried_taken : (p who : ℕ) → p < BIT_WORDS → who < TASKS → (t : Bool)
      → bit_at (value_of s.table.words (page p)) 0 ≡ t
      → T (after_event s me g (event.TasFor p who (flag t))).table.taken
      (if flag t == 0 then slice_set pages who (Some p) else pages)
  tried_taken p who lp lw true on = subst (λ (b : Bool). T (if not b then put s.table.taken (own who) (Some p)
      else s.table.taken) pages) (sym on) noted
  tried_taken p who lp lw false off = subst (λ (b : Bool). T (if not b then put s.table.taken (own who) (Some p)
      else s.table.taken) (slice_set pages who (Some p))) (sym off)
      (put_taken pages s.table.taken noted who (Some p) lw (λ q e. let z : p ≡ q = cc in omega (arith, lp, z)))

  -- any event
  pub event_taken : (e : Event) → Allows s me e → NotesBits g.watch (value_of s.table.words g.watch) e
      → T (after_event s me g e).table.taken (taken_after me e pages)
  event_taken (event.TasFor p who v) a n =
      let m : v ≡ flag (bit_at (value_of s.table.words (page p)) 0) = n.0
      ∙ ap (λ (c : Watch). flag (bit_at (value_of s.table.words c) (bit_of c))) n.1 in
      subst (λ (x : ℕ). T (after_event s me g (event.TasFor p who x)).table.taken
      (if x == 0 then slice_set pages who (Some p) else pages)) (sym m)
      (tried_taken p who a.0 a.1 (bit_at (value_of s.table.words (page p)) 0) refl)
  event_taken event.Unflag a n = put_taken pages s.table.taken noted me None mine (λ p e. absurd (cc))
  event_taken e a n = quiet_taken e tt

-- at the start nobody keeps any bit
pub start_keepers : (keepers : List (Option ℕ)) → length keepers ≡ BITS
    → ((k : ℕ) → k < BITS → slice_get keepers k ≡ Some None) → ShowsKeepers keepers start.view
start_keepers keepers count none = record {
  count = count;
  each = λ a w b la lw lb. sym (ap (λ (o : Option ℕ). is_keeper o a) (get_or_from_slice_get keepers
      (WORD_BITS * w + b) None None (none (WORD_BITS * w + b) (omega arith))));
}

-- at the start no page was taken for any task
pub start_taken : (pages : List (Option ℕ)) → length pages ≡ TASKS
    → ((k : ℕ) → k < TASKS → slice_get pages k ≡ Some None) → ShowsTaken pages start.taken
start_taken pages count none = record {
  count = count;
  each = λ a la. sym (get_or_from_slice_get pages a None None (none a la));
  small = λ a p la is. absurd (let z : None ≡ Some p = sym (get_or_from_slice_get pages a None None (none a la)) ∙ is
      in cc);
}

-- a page that was taken for a task exists
pub page_small : (pages : List (Option ℕ)) (taken : ℕ → Option ℕ) → ShowsTaken pages taken → (a : ℕ) → a < TASKS
    → IfSome (slice_index_or pages a None) (λ p. p < BIT_WORDS)
page_small pages taken noted a la = by (slice_index_or pages a None) refl
  where
    by : (o : Option ℕ) → slice_index_or pages a None ≡ o → IfSome o (λ p. p < BIT_WORDS)
    by None is = tt
    by (Some p) is = noted.small a p la is
