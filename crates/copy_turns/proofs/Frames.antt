-- What the calls of other crates leave of a worker: of its own signals, of signals that it sends, and of pieces.
use Rattle.std.proofs.Common.{refl, sym, ◌∙◌, ap, subst, append-nil, append_assoc, arith}
use Rattle.std.specs.Prelude.{ℕ, ◌≡◌, ◌≢◌, ◌+◌, ◌++◌, Bool, true, false, if◌then◌else◌, None, List, [], ◌∷◌}
use Rattle.wait_model.specs.declared.steps.Step.TheVariants as step
use Rattle.wait_model.specs.{declared.tasks.Taken.Taken, SignalCounts.takes_fatal, Tasks.task_of, Tasks.taken_of}
use Rattle.wait_model.specs.{Totals.total, Words.flag}
use Rattle.wait_model.specs.declared.tasks.Taken.TheVariants as taken
use Rattle.wait_rule.specs.{declared.journal.Item.Item, HandedPermits.StaysOff, Items.steps_of, Known.Known}
use Rattle.wait_rule.specs.{Pipes.end_item, Pipes.no_end, PipeSays.EndsStay, PipeSays.end_at, Queues.IsIdle}
use Rattle.wait_rule.specs.{Queues.index, Stays.Carries, Stays.unchanged, Tallies.amount_of, Tallies.amounts_of}
use Rattle.wait_rule.specs.Aside.{Grows, IsAsideItem, raised_by, signals_of}
use Rattle.wait_rule.specs.Says.{AddsOf, HasSignalled, IsUp, added, history_of, told_of}
use Rattle.wait_rule.specs.declared.journal.Item.TheVariants as item
use Rattle.wait_rule.proofs.{KnownLaws.AsideCalls.items_stay_off, KnownLaws.PipeItems.end_append}
use Rattle.wait_rule.proofs.{KnownLaws.TallySteps.amounts_append, TableSteps.ItemLists.steps_append}
use Rattle.wait_class.specs.Posts.{IsOut}
use Rattle.wait_pipe.specs.Pieces.{RestsBehindPiece}
use Rattle.copy_plan.specs.declared.TheConstants.{ENDED_CELL}
use Rattle.copy_turns.specs.Work.{Apart, IsAtWork, SumsStay, TookKill, TookNoKill, TookOwn, Works, but_ends}
use Rattle.copy_turns.proofs.PartLaws.{grows_then, total_append}

pub signals_append : (xs ys : List Item) → signals_of (xs ++ ys) ≡ signals_of xs ++ signals_of ys
signals_append [] ys = refl
signals_append (x ∷ xs) ys = ap (λ l. raised_by x ++ l) (signals_append xs ys)
    ∙ sym (append_assoc (raised_by x) (signals_of xs) (signals_of ys))

-- one item more
module _ (old new : Known) (x : Item) (is : new ≡ added old x) where
  pub item_grows : Grows old new
  item_grows = record { items = x ∷ []; view = ap (λ (k : Known). k.view) is }

  pub item_end : (j : ℕ) → end_at j new ≡ end_item j x (end_at j old)
  item_end j = ap (end_at j) is ∙ end_append j no_end old.view.items (x ∷ [])

  pub item_sum : (p : ℕ) → amounts_of p new.view.items ≡ amounts_of p old.view.items + amount_of p x
  item_sum p = ap (λ (k : Known). amounts_of p k.view.items) is ∙ (amounts_append p old.view.items (x ∷ [])
      ∙ (let e : amounts_of p (x ∷ []) ≡ amount_of p x = omega arith in
      ap (λ (n : ℕ). amounts_of p old.view.items + n) e))

  pub item_signals : signals_of new.view.items ≡ signals_of old.view.items ++ raised_by x
  item_signals = ap (λ (k : Known). signals_of k.view.items) is ∙ (signals_append old.view.items (x ∷ [])
      ∙ ap (λ l. signals_of old.view.items ++ l) (append-nil (raised_by x)))

  pub item_off : IsAsideItem x → StaysOff old new
  item_off aside d left = subst (λ (k : Known). StaysOff old k) (sym is) (items_stay_off old x aside) d left

  pub item_spared : total takes_fatal (steps_of (x ∷ [])) ≡ 0 → TookNoKill old new
  item_spared none = ap (λ (k : Known). total takes_fatal (history_of k)) is
      ∙ (ap (total takes_fatal) (steps_append old.view.items (x ∷ []))
      ∙ (total_append takes_fatal (history_of old) (steps_of (x ∷ [])) ∙ omega (arith, none)))

-- what is carried on as it was
module _ (old new : Known) (c : Carries unchanged old new) where
  pub still_up : IsUp old → IsUp new
  still_up up = c.awake ∙ up

  pub still_idle : IsIdle old → IsIdle new
  still_idle i = record {
    running = c.state ∙ i.running;
    free = record { head = c.head ∙ i.free.head; ticket = c.ticket ∙ i.free.ticket };
    unmarked = c.mark ∙ i.unmarked;
  }

  pub still_out : IsOut old → IsOut new
  still_out out = c.out (index new.view.number 0) refl
      (subst (λ (m : ℕ). (told_of old).bits.stored (index m 0) ≡ None) (sym c.number) out)

  pub still_works : Grows old new → EndsStay old new → StaysOff old new → IsAtWork old → Works old new
  still_works grows ends off work = record {
    work = record {
      up = still_up work.up;
      idle = still_idle work.idle;
      out = still_out work.out;
      owes = c.owes but_ends work.owes;
      off = off ENDED_CELL work.off;
    };
    domain = c.domain;
    grows = grows;
    owes = c.owes;
    claims = λ j. ap (λ e. e.mine) (ends j);
  }

-- whether a fatal one is among them
module _ (old new : Known) (found : ℕ) (is : new ≡ added old (item.Made (step.Accept found))) where
  own_total : total takes_fatal (history_of new) ≡ total takes_fatal (history_of old)
      + (flag (task_of found).fatal + 0)
  own_total = ap (λ (k : Known). total takes_fatal (history_of k)) is
      ∙ (ap (total takes_fatal) (steps_append old.view.items (item.Made (step.Accept found) ∷ []))
      ∙ total_append takes_fatal (history_of old) (step.Accept found ∷ []))

  own_fatal : (task_of found).fatal ≡ true → TookKill old new
  own_fatal fatal = let e = own_total in let f = ap flag fatal in omega arith

  own_none : (task_of found).fatal ≡ false → TookNoKill old new
  own_none none = let e = own_total in let f = ap flag none in omega arith

pub own_kills : (old new : Known) → TookOwn old new true → TookKill old new
own_kills old new t = own_fatal old new t.found t.took t.shows

pub own_spares : (old new : Known) → TookOwn old new false → TookNoKill old new
own_spares old new t = own_none old new t.found t.took t.shows

-- the own signals that it takes
module _ (old new : Known) (tells : ℕ → Type 0) (a : AddsOf old new (λ found. step.Accept found) tells) where
  pub accepted_apart : Carries unchanged old new → IsAtWork old → Apart old new
  accepted_apart c work =
      let ends : EndsStay old new = λ j. item_end old new (item.Made (step.Accept a.0)) a.2 j in
      record {
        works = still_works old new c (item_grows old new (item.Made (step.Accept a.0)) a.2) ends
            (item_off old new (item.Made (step.Accept a.0)) a.2 tt) work;
        ends = ends;
        sums = λ p. let e = item_sum old new (item.Made (step.Accept a.0)) a.2 p in omega arith;
        signals = item_signals old new (item.Made (step.Accept a.0)) a.2 ∙ append-nil (signals_of old.view.items);
      }

fatal_taken : (f s : Bool) → taken.Fatal ≡ (if f then taken.Fatal else if s then taken.Plain else taken.Nothing)
    → f ≡ true
fatal_taken true s is = refl
fatal_taken false true is = absurd (cc)
fatal_taken false false is = absurd (cc)

pub accepted_kill : (old new : Known) (r : Taken)
    → AddsOf old new (λ found. step.Accept found) (λ found. r ≡ taken_of (task_of found)) → r ≡ taken.Fatal
    → TookKill old new
accepted_kill old new r a is = own_fatal old new a.0 a.2
    (fatal_taken (task_of a.0).fatal (task_of a.0).signal (sym is ∙ a.3))

not_taken : (f s : Bool) (r : Taken) → r ≡ (if f then taken.Fatal else if s then taken.Plain else taken.Nothing)
    → r ≢ taken.Fatal → f ≡ false
not_taken false s r is ne = refl
not_taken true s r is ne = absurd (ne is)

pub accepted_spared : (old new : Known) (r : Taken)
    → AddsOf old new (λ found. step.Accept found) (λ found. r ≡ taken_of (task_of found)) → r ≢ taken.Fatal
    → TookNoKill old new
accepted_spared old new r a ne = own_none old new a.0 a.2
    (not_taken (task_of a.0).fatal (task_of a.0).signal r a.3 ne)

pub accepted_own_kill : (old new : Known) (r : Taken)
    → AddsOf old new (λ found. step.Accept found) (λ found. r ≡ taken_of (task_of found)) → r ≡ taken.Fatal
    → TookOwn old new true
accepted_own_kill old new r a is = record {
  found = a.0;
  took = a.2;
  shows = fatal_taken (task_of a.0).fatal (task_of a.0).signal (sym is ∙ a.3);
}

pub accepted_own_none : (old new : Known) (r : Taken)
    → AddsOf old new (λ found. step.Accept found) (λ found. r ≡ taken_of (task_of found)) → r ≢ taken.Fatal
    → TookOwn old new false
accepted_own_none old new r a ne = record {
  found = a.0;
  took = a.2;
  shows = not_taken (task_of a.0).fatal (task_of a.0).signal r a.3 ne;
}

-- a signal that it sends
module _ (old new : Known) (who : ℕ) (fatal : Bool) (s : HasSignalled old new who fatal) where
  abbrev raise : Item
  raise = item.Made (step.Signal who fatal s.0)

  sent_grows : Grows old new
  sent_grows = grows_then old (added old raise) new (item_grows old (added old raise) raise refl)
      (item_grows (added old raise) new (item.Made (step.Wake who _ s.1)) s.4)

  pub sent_ends : EndsStay old new
  sent_ends j = item_end (added old raise) new (item.Made (step.Wake who _ s.1)) s.4 j
      ∙ item_end old (added old raise) raise refl j

  pub sent_sums : SumsStay old new
  sent_sums p =
      let e = item_sum old (added old raise) raise refl p in
      let f = item_sum (added old raise) new (item.Made (step.Wake who _ s.1)) s.4 p in
      omega arith

  pub sent_spared : TookNoKill old new
  sent_spared = item_spared (added old raise) new (item.Made (step.Wake who _ s.1)) s.4 refl
      ∙ item_spared old (added old raise) raise refl refl

  pub sent_signals : signals_of new.view.items ≡ signals_of old.view.items
      ++ (record { who = who; fatal = fatal } ∷ [])
  sent_signals = item_signals (added old raise) new (item.Made (step.Wake who _ s.1)) s.4
      ∙ (append-nil (signals_of (added old raise).view.items) ∙ item_signals old (added old raise) raise refl)

  pub sent_works : Carries unchanged old new → IsAtWork old → Works old new
  sent_works c work = still_works old new c sent_grows sent_ends
      (λ d left. item_off (added old raise) new (item.Made (step.Wake who _ s.1)) s.4 tt d
      (item_off old (added old raise) raise refl tt d left)) work

-- a piece that went into a pipe or came out of it, or none where the task waited
pub piece_works : (k : ℕ) (old new : Known) → IsAtWork old → RestsBehindPiece k old new → Works old new
piece_works k old new work r = record {
  work = record {
    up = r.up;
    idle = r.idle;
    out = r.out;
    owes = r.carries.owes but_ends work.owes;
    off = r.off ENDED_CELL work.off;
  };
  domain = r.carries.domain;
  grows = r.aside.grows;
  owes = r.carries.owes;
  claims = r.aside.claims;
}
