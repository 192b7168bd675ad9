-- Each event of a walk is fine, and so is each event of each program.
use Rattle.std.proofs.Common.{refl, sym, ◌∙◌, ap, subst, arith, inl, inr}
use Rattle.std.specs.Prelude.{ℕ, ◌≡◌, ◌+◌, ◌-◌, ◌<◌, ◌≤◌, ◌⊎◌, Option, Some, None, Bool, true, false, ◌&&◌, ◌==◌}
use Rattle.std.specs.Prelude.{if◌then◌else◌}
use Rattle.wait_model.specs.{declared.queues.Walking.Walking, declared.queues.CalledEntry.CalledEntry}
use Rattle.wait_model.specs.{declared.queues.Mark.Mark, declared.calls.Call.Call, declared.points.Point.Point}
use Rattle.wait_model.specs.{declared.points.WalkPoint.WalkPoint, declared.points.Planned.Planned}
use Rattle.wait_model.specs.{declared.watches.Kind.Kind, declared.watches.Entry.Entry, declared.points.Seen.Seen}
use Rattle.wait_model.specs.{declared.watches.Watch.Watch, Views.View, Queues.Arrival, Functions.put, Admission.IsGoing}
use Rattle.wait_model.specs.{declared.points.PageStage.PageStage, Tables.value_of}
use Rattle.wait_model.specs.declared.layout.TheConstants.{TASKS, HEADS, PLACES, BREAK}
use Rattle.wait_model.specs.Runs.{State, own, seen_by, planned}
use Rattle.wait_model.specs.Reached.{HomeAt, holds, is_amid_function, IsTaken, IsFlagged, IsPlaced, IsCounted}
use Rattle.wait_model.specs.Reached.{CountedAt, WalksFor, MayEndSpent, KeepsCleared, Rests, IsCallSound, IsWalkSound}
use Rattle.wait_model.specs.Reached.{mark_head, marked_at, IsSound, HandsAt, taken_by}
use Rattle.wait_model.specs.Tasks.{meets, task_word, task_of}
use Rattle.wait_model.specs.Watches.{same, head_of, counted, is_bit, is_var, IsThere, mask_of, page, word_of, bit_of}
use Rattle.wait_model.specs.Watches.{is_page, misses}
use Rattle.wait_model.specs.Words.{Suited, bit_at, flag}
use Rattle.wait_model.specs.Rows.{MaySpend, Reads, Allowed}
use Rattle.wait_model.specs.Points.{call_aim, call_watch, call_head, mode_of, count_of, head_at, given_at}
use Rattle.wait_model.specs.Programs.{go, load, call_fails, past, reached, wake_event, wake_off_event, call_entry}
use Rattle.wait_model.specs.Programs.{again, resumed}
use Rattle.wait_model.specs.declared.watches.Watch.TheVariants as watch
use Rattle.wait_model.proofs.{Sameness.same_bit, Sameness.same_bit_is, WordLaws.DecodedWords.task_read}
use Rattle.wait_model.proofs.{RunLaws.WaitEvents.no_spend, RunLaws.ProgramEvents.plain_fine}
use Rattle.wait_model.proofs.{RunLaws.OthersEvents.IsGone, Functions.put_at}
use Rattle.wait_model.proofs.QueueLaws.FoundEntries.{IsFoundEntry, breaks_or_calls, calls_on, reach, reach_calls}
use Rattle.wait_model.proofs.QueueLaws.FoundEntries.{walk_case}
use Rattle.wait_model.proofs.WordLaws.CondWords.{head_below, number_below, reads_value, going_kind}
use Rattle.wait_model.proofs.RunLaws.FineEvents.{Fine, Leads, inside, still_fine, lock_fine, unlock_fine, unqueue_fine}
use Rattle.wait_model.proofs.RunLaws.FineEvents.{mark_fine, unmark_fine}
use Rattle.wait_model.proofs.RunLaws.CompletionEvents.{select_fine, await_fine, count_fine}
use Rattle.wait_model.specs.declared.calls.Event.TheVariants as event
use Rattle.wait_model.specs.declared.points.Point.TheVariants as at
use Rattle.wait_model.specs.declared.points.WalkPoint.TheVariants as walking
use Rattle.wait_model.specs.declared.points.Next.TheVariants as next
use Rattle.wait_model.specs.declared.points.Progress.TheVariants as now
use Rattle.wait_model.specs.declared.watches.Kind.TheVariants as kind
use Rattle.wait_model.specs.declared.points.PageStage.TheVariants as staging
use Rattle.wait_model.specs.declared.steps.Step.TheVariants as step

-- one more entry that was called
past_counted : (n : ℕ) (w : Walking) (c : CalledEntry) (hit : Bool) → IsCounted n w → w.calls ≤ BREAK
    → IsCounted (n + 1) (past w c hit)
past_counted n w c true k few = by c.exclusive
  where
    by : (b : Bool) → IsCounted (n + 1) (record {
      place = c.place + 1;
      woken = w.woken + 1;
      selected = if b then w.selected + 1 else w.selected;
      left = if b then w.left - 1 else w.left;
      spent = b && (w.left == 1);
      calls = w.calls + 1;
      holds = w.holds;
    })
    by true = record {
      woken = (let l : w.woken ≤ n = k.woken in omega arith);
      selected = (let l : w.selected ≤ w.woken = k.selected in omega arith);
      calls = omega arith;
      holds = (let l : w.holds ≤ n = k.holds in omega arith);
    }
    by false = record {
      woken = (let l : w.woken ≤ n = k.woken in omega arith);
      selected = (let l : w.selected ≤ w.woken = k.selected in omega arith);
      calls = omega arith;
      holds = (let l : w.holds ≤ n = k.holds in omega arith);
    }
past_counted n w c false k few = record {
  woken = (let l : w.woken ≤ n = k.woken in omega arith);
  selected = k.selected;
  calls = omega arith;
  holds = (let l : w.holds ≤ n = k.holds in omega arith);
}

pub counted_later : (n : ℕ) (w : Walking) → IsCounted n w → IsCounted (n + 1) w
counted_later n w k = record {
  woken = (let l : w.woken ≤ n = k.woken in omega arith);
  selected = k.selected;
  calls = k.calls;
  holds = (let l : w.holds ≤ n = k.holds in omega arith);
}

-- a walk in its next hold, one that goes on at its bookmark, and one behind the entries of other watches
again_counted : (n : ℕ) (w : Walking) → IsCounted n w → IsCounted (n + 1) (again w)
again_counted n w k = record {
  woken = (let l : w.woken ≤ n = k.woken in omega arith);
  selected = k.selected;
  calls = omega arith;
  holds = (let l : w.holds ≤ n = k.holds in omega arith);
}

resumed_counted : (n : ℕ) (w : Walking) (o : Option Mark) → IsCounted n w → IsCounted n (resumed w o)
resumed_counted n w None k = k
resumed_counted n w (Some m) k = record {
  woken = k.woken;
  selected = k.selected;
  calls = k.calls;
  holds = k.holds;
}

reached_counted : (n : ℕ) (w : Walking) (calls : ℕ) → IsCounted n w → calls ≤ BREAK + 1
    → IsCounted n (reached w calls)
reached_counted n w calls k few = record { woken = k.woken; selected = k.selected; calls = few; holds = k.holds }

-- an entry of a bit goes when it is woken
bit_going : (c : Watch) (k : Kind) → Suited c k → is_bit c ≡ true → IsGoing k
bit_going (watch.Bit w b) k s h =
    elim s.2 [ inl e ↦ going_kind k kind.Bit e refl | inr e ↦ going_kind k kind.Page e.0 refl ]
bit_going _ k s h = absurd (cc)

-- a walk that may end with its count used up may spend
walk_spends : (v : View) (call : Call) → WalksFor call v → MayEndSpent v call → MaySpend v true
walk_spends v call f m w is sp = by (call_watch call) w.watch (f w is) m.shared (λ b. m.picked b w is)
  where
    by : (c d : Watch) → same c d ≡ true → is_var c ≡ false → (is_bit c ≡ true → v.hold.picked ≡ true)
        → (counted d ≡ true) ⊎ ((is_bit d ≡ true) × (v.hold.picked ≡ true))
    by (watch.Plain c) (watch.Plain d) s var pick = inl refl
    by (watch.Done c) (watch.Done d) s var pick = inl refl
    by (watch.Bit i b) (watch.Bit j a) s var pick = inr (refl, pick refl)
    by (watch.Var i o) d s var pick = absurd (cc)
    by _ _ s var pick = absurd (cc)

module _ (s : State) (n me : ℕ) (call : Call) (sound : IsSound s n) (mine : me < TASKS) where
  abbrev F : WalkPoint → Planned → Type 0
  F p x = Fine s n me call sound mine (given_at call (at.Walk p)) x

  abbrev P : WalkPoint → Type 0
  P p = IsPlaced s.table.entry (s.table.view me) me (now.Open call (at.Walk p))

  abbrev C : WalkPoint → Type 0
  C p = CountedAt s.table.entry (s.table.view me) call (at.Walk p)

  head_small : IsThere (call_watch call) → call_head call < HEADS
  head_small c = head_below (call_watch call) c

  read_task : (who : ℕ) → task_of (task_word (s.table.task who)) ≡ s.table.task who
  read_task who = task_read (s.table.task who) (sound.lawful who)

  -- a point of a walk over this head
  at_point : (p q : WalkPoint) → IsCallSound n call (at.Walk p) → head_at call (at.Walk q) ≡ call_head call
      → IsWalkSound (n + 1) (at.Walk q) → IsCallSound (n + 1) call (at.Walk q)
  at_point p q k same w = record {
    watch = k.watch;
    who = k.who;
    head = rw same (head_small k.watch);
    walk = w;
    fitted = tt;
  }

  -- an event of a walk in its hold
  module _ (p : WalkPoint) (pl : P p) (k : IsCallSound n call (at.Walk p)) (inside_hold : holds (at.Walk p) ≡ true)
      (same_head : head_at call (at.Walk p) ≡ call_head call) where
    held : (s.table.view me).hold.head ≡ Some (call_head call)
    held = inside s n me call sound mine (at.Walk p) pl inside_hold ∙ ap (λ i. Some i) same_head

    -- it changes no entry, and the walk goes on
    leads : (q : WalkPoint) → holds (at.Walk q) ≡ true → is_amid_function (at.Walk q) ≡ false
        → Leads s n me call sound mine (at.Walk p) (now.Open call (at.Walk q))
    leads q within none = record {
      same = ap (λ b. if b then Some (call_head call) else None) (inside_hold ∙ sym within);
      home = pl.home;
      calm = refl;
      taken = none;
    }

    wakes_fine : (w : Walking) (c : CalledEntry) (hit : Bool) → IsCounted n w → w.calls ≤ BREAK
        → c.who < TASKS → F p (wake_event w c hit)
    wakes_fine w c hit counts few number = by (past w c hit).spent
      where
        by : (b : Bool) → F p (go (event.Wake c.who hit) (if b then at.Walk (walking.Spent (past w c hit))
            else at.Walk (walking.Call (past w c hit))))
        by true = still_fine s n me call sound mine (at.Walk p) pl _ tt number tt (read_task c.who, tt)
            (at_point p (walking.Spent (past w c hit)) k refl (past_counted n w c hit counts few))
            (leads (walking.Spent (past w c hit)) refl refl)
        by false = still_fine s n me call sound mine (at.Walk p) pl _ tt number tt (read_task c.who, tt)
            (at_point p (walking.Call (past w c hit)) k refl (past_counted n w c hit counts few))
            (leads (walking.Call (past w c hit)) refl refl)

    -- an entry that goes when it is woken
    off_fine : (w : Walking) (c : CalledEntry) (hit : Bool) → IsCounted n w → w.calls ≤ BREAK
        → c.who < TASKS → (it : Entry) → s.table.entry (own c.who) ≡ Some it
        → head_of it.watch ≡ call_head call → IsGoing it.kind → is_page it.kind ≡ false → F p (wake_off_event w c hit)
    off_fine w c true counts few number it stands head goes np = record {
      allows = number;
      joins = tt;
      changes = tt;
      next_call = at_point p (walking.Unqueue (past w c true) c.who) k refl
          (past_counted n w c true counts few, number);
      made = λ _. (read_task c.who, tt);
      placed = record {
        head = held;
        home = pl.home;
        off_book = λ pr z. absurd (cc);
        taken = λ who t. let same : c.who ≡ who = cc in record {
          it = it;
          stands = subst (λ (j : ℕ). s.table.entry (own j) ≡ Some it) same stands;
          head = ap (λ (j : ℕ). Some j) (sym head);
          kind = goes;
          unpaged = np;
        };
        flagged = λ d t. absurd (cc);
      };
    }
    off_fine w c false counts few number it stands head goes np = still_fine s n me call sound mine (at.Walk p) pl _ tt
        number tt (read_task c.who, tt)
        (at_point p (walking.Call (past w c false)) k refl (past_counted n w c false counts few))
        (leads (walking.Call (past w c false)) refl refl)

    -- an entry whose flag was set, or whose bit was found clear
    flagged_as : (c d : CalledEntry) → c ≡ d → IsFoundEntry s.table.entry n (call_watch call) c
        → IsFlagged s.table.entry d (Some (call_head call)) (call_watch call)
    flagged_as c d same f = subst
        (λ (y : CalledEntry). IsFlagged s.table.entry y (Some (call_head call)) (call_watch call)) same (record {
          it = f.it;
          stands = f.stands;
          seen = f.seen;
          head = ap (λ (j : ℕ). Some j) (sym f.head);
          key = f.key;
        })

  -- the walk calls an entry of its watch, behind those of other watches
  module _ (w : Walking) (pl : P (walking.Call w)) (k : IsCallSound n call (at.Walk (walking.Call w))) (v : Walking)
      (counts : IsCounted n v) (few : v.calls ≤ BREAK) (the : CalledEntry)
      (f : IsFoundEntry s.table.entry n (call_watch call) the) (seen : Seen)
      (reads : Reads s.table.words (call_watch call) seen.value) where
    at_head : (s.table.view me).hold.head ≡ Some (call_head call)
    at_head = held (walking.Call w) pl k refl refl

    placed_below : the.place < PLACES
    placed_below = subst (λ (i : ℕ). i < PLACES) (sym (ap (λ (d : CalledEntry). d.place) f.seen)) f.queued.lawful.place

    -- an entry whose flag is set first
    flag_fine : F (walking.Call w) (go (event.Woken the.who) (at.Walk (walking.Wake v the)))
    flag_fine = record {
      allows = f.number;
      joins = tt;
      changes = tt;
      next_call = at_point (walking.Call w) (walking.Wake v the) k refl
          (counted_later n v counts, f.number, placed_below, few);
      made = λ _. ((f.it, f.stands, at_head ∙ ap (λ i. Some i) (sym f.head)), tt);
      placed = record {
        head = at_head;
        home = pl.home;
        off_book = λ pr z. absurd (cc);
        taken = λ who t. absurd (cc);
        flagged = λ d t. flagged_as (walking.Call w) pl k refl refl the d (cc) f;
      };
    }

    -- an entry of a bit, whose word is loaded first
    test_fine : (b : Bool) → F (walking.Call w) (go (load call seen)
        (at.Walk (if b then walking.Call (past v the false) else walking.Bit v the)))
    test_fine true = still_fine s n me call sound mine (at.Walk (walking.Call w)) pl _ tt
        (number_below (call_watch call) k.watch) tt (reads, tt)
        (at_point (walking.Call w) (walking.Call (past v the false)) k refl (past_counted n v the false counts few))
        (leads (walking.Call w) pl k refl refl (walking.Call (past v the false)) refl refl)
    test_fine false = record {
      allows = number_below (call_watch call) k.watch;
      joins = tt;
      changes = tt;
      next_call = at_point (walking.Call w) (walking.Bit v the) k refl
          (counted_later n v counts, f.number, placed_below, few);
      made = λ _. (reads, tt);
      placed = record {
        head = at_head;
        home = pl.home;
        off_book = λ pr z. absurd (cc);
        taken = λ who t. absurd (cc);
        flagged = λ d t. flagged_as (walking.Call w) pl k refl refl the d (cc) f;
      };
    }

    -- an entry of a page, whose word is loaded first
    page_fine : the.kind ≡ kind.Page → (b : Bool) → F (walking.Call w) (go (load call seen)
        (at.Walk (if b then walking.Stopped v else walking.Page staging.Try v the)))
    page_fine is true = still_fine s n me call sound mine (at.Walk (walking.Call w)) pl _ tt
        (number_below (call_watch call) k.watch) tt (reads, tt)
        (at_point (walking.Call w) (walking.Stopped v) k refl (counted_later n v counts))
        (leads (walking.Call w) pl k refl refl (walking.Stopped v) refl refl)
    page_fine is false = record {
      allows = number_below (call_watch call) k.watch;
      joins = tt;
      changes = tt;
      next_call = at_point (walking.Call w) (walking.Page staging.Try v the) k refl
          (counted_later n v counts, f.number, placed_below, few, is);
      made = λ _. (reads, tt);
      placed = record {
        head = at_head;
        home = pl.home;
        off_book = λ pr z. absurd (cc);
        taken = λ who t. absurd (cc);
        flagged = λ d t. flagged_as (walking.Call w) pl k refl refl the d (cc) f;
      };
    }

    going_fine : (j : Kind) (hit : Bool) → the.kind ≡ j → IsGoing j → is_page j ≡ false
        → F (walking.Call w) (wake_off_event v the hit)
    going_fine j hit is goes np = off_fine (walking.Call w) pl k refl refl v the hit counts few f.number f.it f.stands
        f.head (going_kind f.it.kind j (sym (ap (λ (d : CalledEntry). d.kind) f.seen) ∙ is) goes)
        (ap is_page (sym (ap (λ (d : CalledEntry). d.kind) f.seen) ∙ is) ∙ np)

    entry_fine : (j : Kind) (hit : Bool) → the.kind ≡ j
        → F (walking.Call w) (call_entry (call_aim call) v the j seen hit)
    entry_fine kind.Default hit is = wakes_fine (walking.Call w) pl k refl refl v the hit counts few f.number
    entry_fine kind.Autoremove hit is = going_fine kind.Autoremove hit is refl refl
    entry_fine kind.Woken hit is = flag_fine
    entry_fine kind.Bit hit is = test_fine (call_fails call seen)
    entry_fine kind.Var hit is = going_fine kind.Var hit is refl refl
    entry_fine kind.Simple hit is = wakes_fine (walking.Call w) pl k refl refl v the hit counts few f.number
    entry_fine kind.Page hit is = page_fine is (call_fails call seen)

  take_fine : (w : Walking) (who : ℕ) (b : Bool) → IsCallSound n call (at.Walk (walking.Unqueue w who))
      → P (walking.Unqueue w who) → F (walking.Unqueue w who) (go (event.Unqueue who)
      (if b then at.Walk (walking.Spent w) else at.Walk (walking.Call w)))
  take_fine w who b k pl = by b
    where
      t : IsTaken s.table.entry who (Some (call_head call))
      t = pl.taken who refl

      gone : IsGone s me who
      gone = record { it = t.it; stands = t.stands; head = pl.head ∙ t.head; goes = inr t.kind }

      home : HomeAt (now.Open call (at.Walk (walking.Call w))) (put s.table.entry (own who) None (own me))
      home = put_at (HomeAt (now.Open call (at.Walk (walking.Call w)))) s.table.entry (own who) None (own me)
          (λ _. tt) (λ _. pl.home)

      by : (b : Bool) → F (walking.Unqueue w who) (go (event.Unqueue who)
          (if b then at.Walk (walking.Spent w) else at.Walk (walking.Call w)))
      by true = unqueue_fine s n me call sound mine (at.Walk (walking.Unqueue w who)) pl
          (at.Walk (walking.Spent w)) who k.walk.1 gone
          (at_point (walking.Unqueue w who) (walking.Spent w) k refl (counted_later n w k.walk.0)) refl refl refl
          home
      by false = unqueue_fine s n me call sound mine (at.Walk (walking.Unqueue w who)) pl
          (at.Walk (walking.Call w)) who k.walk.1 gone
          (at_point (walking.Unqueue w who) (walking.Call w) k refl (counted_later n w k.walk.0)) refl refl refl
          home

  -- the bit of the entry was found clear
  bit_fine : (w : Walking) (c : CalledEntry) (hit : Bool) → IsCallSound n call (at.Walk (walking.Bit w c))
      → P (walking.Bit w c) → C (walking.Bit w c) → F (walking.Bit w c) (wake_off_event w c hit)
  bit_fine w c hit k pl z = off_fine (walking.Bit w c) pl k refl refl w c hit k.walk.0 k.walk.3 k.walk.1 f.it
      f.stands at_head (bit_going f.it.watch f.it.kind (sound.linked.entries (own c.who) f.it f.stands).lawful.suited
      (same_bit f.it.watch (call_watch call) f.key z.1)) (sym (ap (λ (d : CalledEntry). is_page d.kind) f.seen) ∙ z.3)
    where
      f : IsFlagged s.table.entry c (Some (call_head call)) (call_watch call)
      f = pl.flagged c refl

      at_head : head_of f.it.watch ≡ call_head call
      at_head = let e : Some (call_head call) ≡ Some (head_of f.it.watch) = f.head in cc

  -- a walk hands a page to the entry's task
  module _ (w : Walking) (c : CalledEntry) where
    abbrev staged : PageStage → WalkPoint
    staged st = walking.Page st w c

    module _ (st : PageStage) (k : IsCallSound n call (at.Walk (staged st))) (pl : P (staged st)) where
      the_entry : IsFlagged s.table.entry c (Some (call_head call)) (call_watch call)
      the_entry = pl.flagged c refl

      entry_kind : the_entry.it.kind ≡ kind.Page
      entry_kind = sym (ap (λ (d : CalledEntry). d.kind) the_entry.seen) ∙ k.walk.4

      entry_page : C (staged st) → the_entry.it.watch ≡ page (word_of (call_watch call))
      entry_page z =
          let bit : is_bit (call_watch call) ≡ true = ap is_bit z.1 in
          same_bit_is the_entry.it.watch (call_watch call) (same_bit the_entry.it.watch (call_watch call)
          the_entry.key bit) the_entry.key ∙ z.1

      held_entry : (s.table.view me).hold.head ≡ Some (head_of the_entry.it.watch)
      held_entry = pl.head ∙ the_entry.head

      -- where the walk goes on with the entry
      stage_sound : (q : PageStage) → IsCallSound (n + 1) call (at.Walk (staged q))
      stage_sound q = at_point (staged st) (staged q) k refl
          (counted_later n w k.walk.0, k.walk.1, k.walk.2, k.walk.3, k.walk.4)

      stage_taken : (q : PageStage) (who : ℕ) → taken_by (now.Open call (at.Walk (staged q))) ≡ Some who
          → IsTaken s.table.entry who (Some (call_head call))
      stage_taken q who t = absurd (cc)

      stage_placed : (q : PageStage) (v : View) → v.hold.head ≡ (s.table.view me).hold.head
          → IsPlaced s.table.entry v me (now.Open call (at.Walk (staged q)))
      stage_placed q v same = record {
        head = same ∙ pl.head;
        home = pl.home;
        off_book = λ pr z. absurd (cc);
        taken = stage_taken q;
        flagged = λ d t. subst (λ (y : CalledEntry). IsFlagged s.table.entry y (Some (call_head call))
            (call_watch call)) (let same_entry : c ≡ d = cc in same_entry) the_entry;
      }

    try_fine : (b : Bool) → IsCallSound n call (at.Walk (staged staging.Try)) → P (staged staging.Try)
        → C (staged staging.Try) → s.table.taken (own c.who) ≡ None → (f : ℕ) → F (staged staging.Try) (go
        (event.TasFor (word_of (call_watch call)) c.who f)
        (at.Walk (if b then walking.Stopped w else staged staging.Hand)))
    try_fine b k pl z untaken f = by b
      where
        p : ℕ
        p = word_of (call_watch call)

        e : IsFlagged s.table.entry c (Some (call_head call)) (call_watch call)
        e = the_entry staging.Try k pl

        there : IsThere (page p)
        there = subst IsThere z.1 k.watch

        allowed : Allowed s.table me (step.TasFor (own c.who) p (value_of s.table.words (page p)))
        allowed = (
          (
            e.it,
            e.stands,
            held_entry staging.Try k pl,
            entry_page staging.Try k pl z,
            ap is_page (entry_kind staging.Try k pl),
          ),
          reads_value s.table.words sound.low (page p) there,
          untaken,
        )

        by : (b : Bool) → F (staged staging.Try) (go (event.TasFor p c.who f)
            (at.Walk (if b then walking.Stopped w else staged staging.Hand)))
        by true = still_fine s n me call sound mine (at.Walk (staged staging.Try)) pl _ tt (there.0, k.walk.1) tt
            (allowed, tt) (at_point (staged staging.Try) (walking.Stopped w) k refl (counted_later n w k.walk.0))
            (leads (staged staging.Try) pl k refl refl (walking.Stopped w) refl refl)
        by false = record {
          allows = (there.0, k.walk.1);
          joins = tt;
          changes = tt;
          next_call = stage_sound staging.Try k pl staging.Hand;
          made = λ _. (allowed, tt);
          placed = stage_placed staging.Try k pl staging.Hand _ refl;
        }

  hands_fine : (st : PageStage) (w : Walking) (c : CalledEntry) → IsCallSound n call (at.Walk (walking.Page st w c))
      → P (walking.Page st w c) → C (walking.Page st w c)
      → HandsAt s.table.taken me (now.Open call (at.Walk (walking.Page st w c)))
      → F (walking.Page st w c) (planned s me call (at.Walk (walking.Page st w c)))
  hands_fine staging.Try w c k pl z h = try_fine w c
      (misses (call_watch call) (value_of s.table.words (call_watch call))) k pl z h
      (flag (bit_at (value_of s.table.words (call_watch call)) (bit_of (call_watch call))))
  hands_fine staging.Hand w c k pl z h = record {
    allows = k.walk.1;
    joins = tt;
    changes = tt;
    next_call = stage_sound w c staging.Hand k pl staging.Wake;
    made = λ _. (
      (
        (
          (the_entry w c staging.Hand k pl).it,
          (the_entry w c staging.Hand k pl).stands,
          held_entry w c staging.Hand k pl,
        ),
        h,
      ),
      tt,
    );
    placed = stage_placed w c staging.Hand k pl staging.Wake _ refl;
  }
  hands_fine staging.Wake w c k pl z h = record {
    allows = k.walk.1;
    joins = tt;
    changes = tt;
    next_call = stage_sound w c staging.Wake k pl staging.Off;
    made = λ _. (read_task c.who, tt);
    placed = stage_placed w c staging.Wake k pl staging.Off _ refl;
  }
  hands_fine staging.Off w c k pl z h = by (past w c true).spent
    where
      f : IsFlagged s.table.entry c (Some (call_head call)) (call_watch call)
      f = the_entry w c staging.Off k pl

      gone : IsGone s me c.who
      gone = record {
        it = f.it;
        stands = f.stands;
        head = pl.head ∙ f.head;
        goes = inr (going_kind f.it.kind kind.Page (entry_kind w c staging.Off k pl) refl);
      }

      home : HomeAt (now.Open call (at.Walk (walking.Call w))) (put s.table.entry (own c.who) None (own me))
      home = put_at (HomeAt (now.Open call (at.Walk (walking.Call w)))) s.table.entry (own c.who) None (own me)
          (λ _. tt) (λ _. pl.home)

      by : (b : Bool) → F (walking.Page staging.Off w c) (go (event.Unqueue c.who)
          (if b then at.Walk (walking.Spent (past w c true)) else at.Walk (walking.Call (past w c true))))
      by true = unqueue_fine s n me call sound mine (at.Walk (walking.Page staging.Off w c)) pl
          (at.Walk (walking.Spent (past w c true))) c.who k.walk.1 gone
          (at_point (walking.Page staging.Off w c) (walking.Spent (past w c true)) k refl
          (past_counted n w c true k.walk.0 k.walk.3)) refl refl refl home
      by false = unqueue_fine s n me call sound mine (at.Walk (walking.Page staging.Off w c)) pl
          (at.Walk (walking.Call (past w c true))) c.who k.walk.1 gone
          (at_point (walking.Page staging.Off w c) (walking.Call (past w c true)) k refl
          (past_counted n w c true k.walk.0 k.walk.3)) refl refl refl home

  start_counted : IsCounted (n + 1) (record {
    place = 0;
    woken = 0;
    selected = 0;
    left = count_of call;
    spent = false;
    calls = 0;
    holds = 1;
  })
  start_counted = record {
    woken = omega arith;
    selected = omega arith;
    calls = omega arith;
    holds = omega arith;
  }

  -- a walk breaks, or calls the next entry
  abbrev IsMarked : WalkPoint → Type 0
  IsMarked p = mark_head (s.table.mark me) ≡ marked_at (now.Open call (at.Walk p))

  unmarked : (o : Option Mark) → mark_head o ≡ None → o ≡ None
  unmarked None h = refl
  unmarked (Some k) h = absurd (cc)

  module _ (w : Walking) (k : IsCallSound n call (at.Walk (walking.Call w))) (pl : P (walking.Call w))
      (mk : IsMarked (walking.Call w)) where
    abbrev r : Arrival
    r = reach s.table.entry s.table.mark s.queue n sound.linked (call_watch call) w.place w.calls k.walk.calls

    counts : IsCounted n (reached w r.calls)
    counts = reached_counted n w r.calls k.walk
        (reach_calls s.table.entry s.table.mark s.queue n sound.linked (call_watch call) w.place w.calls k.walk.calls)

    break_fine : (b : Bool) → r.breaks ≡ b → F (walking.Call w) (breaks_or_calls s me call w r b)
    break_fine true is = mark_fine s n me call sound mine (at.Walk (walking.Call w)) pl
        (at.Walk (walking.BreakUnlock (reached w r.calls))) (call_head call) refl refl (head_small k.watch)
        (unmarked (s.table.mark me) mk)
        (at_point (walking.Call w) (walking.BreakUnlock (reached w r.calls)) k refl
        (counted_later n (reached w r.calls) counts))
        (leads (walking.Call w) pl k refl refl (walking.BreakUnlock (reached w r.calls)) refl refl)
    break_fine false is = walk_case s.table.entry s.table.mark s.queue n sound.linked (call_watch call) w.place
        w.calls k.walk.calls (λ o. F (walking.Call w) (calls_on s me call w r o))
        (unlock_fine s n me call sound mine (at.Walk (walking.Call w)) pl (call_head call) false _ refl
        refl (head_small k.watch) (no_spend s n me call sound mine) tt refl pl.home refl refl)
        (λ d f few. entry_fine w pl k (reached w r.calls) counts few d f (seen_by s me call (at.Walk (walking.Call w)))
        (reads_value s.table.words sound.low (call_watch call) k.watch) d.kind
        (meets (mask_of (mode_of call)) (s.table.task d.who).state) refl) is

  resume_fine : (w : Walking) (o : Option Mark) → s.table.mark me ≡ o
      → IsCallSound n call (at.Walk (walking.Unmark w)) → P (walking.Unmark w)
      → mark_head o ≡ Some (call_head call) → F (walking.Unmark w) (go (event.Unmark (call_head call))
      (at.Walk (walking.Call (resumed w o))))
  resume_fine w None is k pl mk = absurd (cc)
  resume_fine w (Some j) is k pl mk = unmark_fine s n me call sound mine (at.Walk (walking.Unmark w)) pl
      (at.Walk (walking.Call (resumed w (Some j)))) (call_head call) refl refl (head_small k.watch) j is
      (let z : Some j.head ≡ Some (call_head call) = mk in cc)
      (at_point (walking.Unmark w) (walking.Call (resumed w (Some j))) k refl
      (counted_later n (resumed w (Some j)) (resumed_counted n w (Some j) k.walk)))
      (leads (walking.Unmark w) pl k refl refl (walking.Call (resumed w (Some j))) refl refl)

  walk_fine : (p : WalkPoint) → IsCallSound n call (at.Walk p) → P p → IsMarked p → C p
      → HandsAt s.table.taken me (now.Open call (at.Walk p))
      → F p (planned s me call (at.Walk p))
  walk_fine walking.Lock k pl mk z h = lock_fine s n me call sound mine (at.Walk walking.Lock) pl (call_head call) refl
      (at.Walk (walking.Call _)) (head_small k.watch) refl refl refl
      (at_point walking.Lock (walking.Call _) k refl start_counted) pl.home refl
  walk_fine (walking.Call w) k pl mk z h = break_fine w k pl mk (r w k pl mk).breaks refl
  walk_fine (walking.Wake w c) k pl mk z h = wakes_fine (walking.Wake w c) pl k refl refl w c
      (meets (mask_of (mode_of call)) (s.table.task c.who).state) k.walk.0 k.walk.3 k.walk.1
  walk_fine (walking.Bit w c) k pl mk z h = bit_fine w c (meets (mask_of (mode_of call)) (s.table.task c.who).state) k
      pl z
  walk_fine (walking.Page st w c) k pl mk z h = hands_fine st w c k pl z h
  walk_fine (walking.Stopped w) k pl mk z h = unlock_fine s n me call sound mine (at.Walk (walking.Stopped w)) pl
      (call_head call) false _ refl refl (head_small k.watch) (no_spend s n me call sound mine) tt refl pl.home refl
      refl
  walk_fine (walking.Unqueue w who) k pl mk z h = take_fine w who w.spent k pl
  walk_fine (walking.Spent w) k pl mk z h = unlock_fine s n me call sound mine (at.Walk (walking.Spent w)) pl
      (call_head call) true _ refl refl (head_small k.watch) (walk_spends (s.table.view me) call z.0 z.1) tt refl
      pl.home refl refl
  walk_fine (walking.BreakUnlock w) k pl mk z h = unlock_fine s n me call sound mine
      (at.Walk (walking.BreakUnlock w)) pl (call_head call) false (next.Go (at.Walk (walking.BreakLock w))) refl
      refl (head_small k.watch) (no_spend s n me call sound mine)
      (at_point (walking.BreakUnlock w) (walking.BreakLock w) k refl (counted_later n w k.walk)) refl pl.home
      refl refl
  walk_fine (walking.BreakLock w) k pl mk z h = lock_fine s n me call sound mine (at.Walk (walking.BreakLock w)) pl
      (call_head call) refl (at.Walk (walking.Unmark (again w))) (head_small k.watch) refl
      refl refl (at_point (walking.BreakLock w) (walking.Unmark (again w)) k refl (again_counted n w k.walk))
      pl.home refl
  walk_fine (walking.Unmark w) k pl mk z h = resume_fine w (s.table.mark me) refl k pl mk

  pub program_fine : (p : Point) → IsCallSound n call p
      → IsPlaced s.table.entry (s.table.view me) me (now.Open call p)
      → mark_head (s.table.mark me) ≡ marked_at (now.Open call p)
      → CountedAt s.table.entry (s.table.view me) call p → HandsAt s.table.taken me (now.Open call p)
      → KeepsCleared (now.Open call p) (s.table.view me)
      → Rests (now.Open call p) (s.table.task me) → (s.table.task me).runnable ≡ true
      → Fine s n me call sound mine (given_at call p) (planned s me call p)
  program_fine (at.Walk p) k pl mk z h keeps rests run = walk_fine p k pl mk z h
  program_fine (at.Select p) k pl mk z h keeps rests run = select_fine s n me call sound mine p k pl
  program_fine (at.Await p) k pl mk z h keeps rests run = await_fine s n me call sound mine p k pl
  program_fine (at.Count p) k pl mk z h keeps rests run = count_fine s n me call sound mine p k pl
  program_fine p k pl mk z h keeps rests run = plain_fine s n me call sound mine p k pl tt keeps rests run
