-- Tied by laws to what is to be believed.
-- What each step tells its task: a task's view is the fold of its history, with one equation for each step.
use Rattle.std.specs.Prelude.{ℕ, Bool, true, false, not, ◌&&◌, ◌||◌, ◌==◌, if◌then◌else◌, Option, Some, None, nat_le}
use Rattle.std.specs.Prelude.{List, [], ◌∷◌}
use Rattle.wait_model.specs.{declared.watches.Watch.Watch, declared.watches.Entry.Entry, declared.watches.Aim.Aim}
use Rattle.wait_model.specs.{declared.steps.Step.Step, Functions.put, Tasks.meets, Tasks.task_of}
use Rattle.wait_model.specs.Watches.{same, head_of, is_bit, mask_of, failing, was_clear, owner, stands_at, part_of}
use Rattle.wait_model.specs.Watches.{is_page, page}
use Rattle.wait_model.specs.Words.{entry_of, spent_of, flag_of}
use Rattle.wait_model.specs.Views.{View, Hold, Bits, Walk, Look, off, shown, no_hold, blank, concerns, all_passed}
use Rattle.wait_model.specs.Views.{all_cleared, look_at, is_trying_for}
use Rattle.wait_model.specs.declared.steps.Step.TheVariants as step

-- a walk that stops at the own bookmark goes on there, if the book shows all before it as passed
abbrev pub paused : View → Walk → Option ℕ → Option Walk
paused v w None = None
paused v w (Some q) = if all_passed v w (λ p. nat_le q p) then Some (record w { from = q }) else None

-- an unlock ends a walk that has passed all, or that used up its count
abbrev pub after_unlock : View → Option Walk → Bool → View
after_unlock v None spent = record v { hold = no_hold; walk = None }
after_unlock v (Some w) spent =
    if spent || all_passed v w (λ _. false)
    then record v {
      hold = no_hold;
      walk = None;
      duty = record (v.duty) { owes = λ c σ. v.duty.owes c σ && not (concerns w c σ) };
    }
    else record v { hold = no_hold; walk = paused v w v.mark }

-- a lock begins its walk, or goes on with the one under way
abbrev pub begun : Option Walk → Option Aim → Option Walk
begun w None = None
begun None (Some a) = Some (record { watch = a.watch; mask = mask_of a.mode; from = 0 })
begun (Some w) (Some a) =
    if same a.watch w.watch && (w.mask == mask_of a.mode) then Some w
    else Some (record { watch = a.watch; mask = mask_of a.mode; from = 0 })

-- the wake is one of this hold's walk
abbrev pub hits : Option Walk → ℕ → Bool
hits None mask = false
hits (Some w) mask = mask == w.mask

-- a publish begins the walk anew
abbrev pub begun_anew : Option Walk → Option Walk
begun_anew None = None
begun_anew (Some w) = Some (record w { from = 0 })

-- the load found the bit of the walk set
abbrev pub finds_bit_set : Option Walk → Watch → ℕ → Bool
finds_bit_set None l r = false
finds_bit_set (Some w) l r = is_bit w.watch && failing l r w.watch

-- what a look without the lock has found off, after one more load; a member that it finds begins it anew
abbrev pub peeks : (Watch → ℕ → Bool) → ℕ → Option Entry → Watch → ℕ → Bool
peeks cleared x f c y = if stands_at f (head_of c) then false else (cleared c y || (y == x))

-- the same after a load of member word i of head h: where no bit is set the look is past the entries of its
-- indexes, and a bit that is set begins it anew
abbrev pub scanned : (Watch → ℕ → Bool) → ℕ → ℕ → ℕ → Watch → ℕ → Bool
scanned cleared h i w c y =
    if head_of c == h then (if w == 0 then cleared c y || (part_of y == i) else false) else cleared c y

abbrev pub is_held : Option ℕ → Bool
is_held None = false
is_held (Some h) = true

abbrev pub holding : Option ℕ → ℕ → Bool
holding None h = false
holding (Some i) h = i == h

abbrev pub is_off : Option Entry → Bool
is_off None = true
is_off (Some e) = false

-- the bits to be tried, after a load of the own entry x that found f
abbrev pub settled : View → ℕ → Option Entry → Watch → Bool
settled v x f c = v.bits.pending c || (is_off f && (is_trying_for (v.bits.stored x) c && not (v.bits.keeps c)))

abbrev pub forgotten : View → ℕ → Option Entry → ℕ → Option Entry
forgotten v x f = if is_off f then put v.bits.stored x None else v.bits.stored

-- the walk selects the entry that it takes off: an exclusive one of its bit, of another task that it has
-- woken in this hold
abbrev pub picks : Option Walk → Look → Bool → Bool → Bool
picks (Some w) (shown e) rou mine = (e.exclusive && not (is_page e.kind))
    && (is_bit w.watch && (same e.watch w.watch && (rou && not mine)))
picks _ _ rou mine = false

-- the wake with this mask met the task that its word showed
abbrev pub met_task : ℕ → ℕ → Bool
met_task mask found = meets mask (task_of found).state

abbrev pub after_wake : ℕ → ℕ → Bool → View → Hold
after_wake who mask did v = record (v.hold) {
  called = λ i. v.hold.called i || (hits v.walk mask && (i == who));
  rung = λ x. v.hold.rung x || (hits v.walk mask && ((owner x == who) && v.hold.flagged x));
  roused = λ i. v.hold.roused i || (did && (i == who));
}

-- an entry of the own task was looked at
abbrev pub after_look : ℕ → Option Entry → View → Bits
after_look x f v = record (v.bits) { pending = settled v x f; stored = forgotten v x f }

abbrev pub after_queue : ℕ → Entry → View → View
after_queue x e v = record v {
  hold = record (v.hold) { book = put v.hold.book x (shown e) };
  checks = record (v.checks) {
    failed = put v.checks.failed x (λ _. None);
    low = put v.checks.low x (λ _. None);
    zero_failed = if v.hold.prepared then v.checks.zero_failed else put v.checks.zero_failed x (λ _. None);
    tas_failed = put v.checks.tas_failed x (λ _. false);
  };
  bits = record (v.bits) {
    stored = put v.bits.stored x (Some e);
    got = λ c. v.bits.got c
        && not (same c e.watch);
  };
}

abbrev pub after_load : Watch → ℕ → View → View
after_load l r v = record v {
  hold = record (v.hold) {
    zero = λ c. if holding v.hold.head (head_of c) && failing l r c then Some (v.checks.found (head_of c))
        else v.hold.zero c;
    moot = v.hold.moot || finds_bit_set v.walk l r;
  };
  checks = record (v.checks) {
    failed = λ x c. if failing l r c then Some (v.checks.found (head_of c)) else v.checks.failed x c;
    low = λ x c. if failing l r c then Some (v.checks.found (head_of c)) else v.checks.low x c;
    zero_failed = λ x c. if v.hold.prepared && (holding v.hold.head (head_of c) && failing l r c)
        then Some (v.checks.found (head_of c)) else v.checks.zero_failed x c;
  };
  bits = record (v.bits) { pending = λ c. v.bits.pending c && not (failing l r c) };
}

abbrev pub after_publish : Watch → View → View
after_publish c v = record v {
  hold = record (v.hold) { called = λ _. false; rung = λ _. false; flagged = λ _. false; moot = false };
  walk = begun_anew v.walk;
  duty = record {
    owes = λ d σ. same d c || v.duty.owes d σ;
    cleared = λ d x. not (same d c)
        && v.duty.cleared d x;
  };
  bits = record (v.bits) { keeps = λ d. v.bits.keeps d && not (same d c) };
}

-- `clear` is that the exchange set a bit that it found clear
abbrev pub after_consume : Watch → Bool → View → Bits
after_consume c clear v = record (v.bits) {
  pending = λ d. v.bits.pending d && not (is_bit c && same d c);
  got = λ d. v.bits.got d || (is_bit c && (clear && same d c));
  keeps = λ d. v.bits.keeps d || (is_bit c && (clear && same d c));
}

-- the exchange found this bit set
abbrev pub found_set : Watch → ℕ → Watch → Bool
found_set c r d = is_bit c && (same d c && not (was_clear c r))

-- the bit is the page of which a task takes note
abbrev pub takes_note : Option ℕ → Watch → Bool
takes_note None d = false
takes_note (Some p) d = same d (page p)

-- the walk under way is for this page
abbrev pub is_for_page : Option Walk → ℕ → Bool
is_for_page None p = false
is_for_page (Some w) p = same (page p) w.watch

-- a page was tried for the task of an entry, and found as `clear` says
abbrev pub after_tas_for : ℕ → Bool → View → Hold
after_tas_for p clear v = record (v.hold) {
  moot = v.hold.moot || is_for_page v.walk p;
  picked = v.hold.picked || (is_for_page v.walk p && clear);
}

-- the view after one more step
abbrev pub after : Step → View → View
after (step.State σ) v = record v {
  hold = record (v.hold) { prepared = is_held v.hold.head };
  checks = record (v.checks) { failed = λ _ _. None; flag_no = λ _. false; zero_failed = λ _. v.hold.zero };
  bits = record (v.bits) { got = λ c. (σ == 0) && v.bits.got c };
}
after (step.Sleep w) v = v
after (step.Wake who mask w) v = record v { hold = after_wake who mask (met_task mask w) v }
after (step.Signal who fatal w) v = v
after (step.Accept w) v = v
after (step.Look w) v = v
after (step.Lock h aim w) v = record v {
  hold = record no_hold { head = Some h };
  walk = begun v.walk aim;
  duty = record (v.duty) { cleared = λ _ _. false };
  checks = record (v.checks) { found = put v.checks.found h (spent_of w) };
}
after (step.Unlock h spent) v = after_unlock v v.walk spent
after (step.Saw x w) v =
    record v {
      hold = record (v.hold) { book = put v.hold.book x (look_at v.hold.head (entry_of w)) };
      bits = after_look x (entry_of w) v;
    }
after (step.Peek x w) v = record v {
  duty = record {
    cleared = peeks v.duty.cleared x (entry_of w);
    owes = λ c σ. v.duty.owes c σ
        && not (all_cleared (peeks v.duty.cleared x (entry_of w) c));
  };
  bits = after_look x (entry_of w) v;
}
after (step.Scan h i w) v = record v {
  duty = record {
    cleared = scanned v.duty.cleared h i w;
    owes = λ c σ. v.duty.owes c σ
        && not (all_cleared (scanned v.duty.cleared h i w c));
  };
}
after (step.Queue x e) v = after_queue x e v
after (step.Unqueue x) v = record v {
  hold = record (v.hold) {
    book = put v.hold.book x off;
    picked = v.hold.picked
        || picks v.walk (v.hold.book x) (v.hold.roused (owner x)) (not (is_off (v.bits.stored x)));
  };
  bits = record (v.bits) { stored = put v.bits.stored x None };
}
after (step.Mark h q) v = record v { mark = Some q }
after step.Unmark v = record v { mark = None }
after (step.Load l r) v = after_load l r v
after (step.Publish c n r) v = after_publish c v
after (step.Consume c n r) v = record v {
  checks = record (v.checks) { tas_failed = λ x d. v.checks.tas_failed x d || found_set c r d };
  bits = after_consume c (was_clear c r) v;
}
after (step.Woken x) v = record v { hold = record (v.hold) { flagged = put v.hold.flagged x true } }
after (step.Unflag x o) v = record v {
  checks = record (v.checks) { low = put v.checks.low x (λ _. None) };
  bits = record (v.bits) { keeps = λ d. v.bits.keeps d || takes_note o d };
}
after (step.Flag x w) v =
    record v { checks = record (v.checks) { flag_no = put v.checks.flag_no x (not (flag_of w)) } }
after (step.TasFor x p r) v = record v { hold = after_tas_for p (was_clear (page p) r) v }
after (step.Handed x) v = v

-- a view after more steps, and the view of a history; both have the oldest step first
abbrev pub after_all : View → List Step → View
after_all v [] = v
after_all v (s ∷ ss) = after_all (after s v) ss

abbrev pub view_of : List Step → View
view_of ss = after_all blank ss
