-- What an opening of an end, its closing, and the completion at the end of a worker's work leave of it.
use Rattle.std.proofs.Common.{refl, sym, ◌∙◌, ap, subst, inl, inr, append-nil, append_assoc, arith}
use Rattle.std.specs.Prelude.{ℕ, ◌≡◌, ◌++◌, ◌==◌, ◌&&◌, ◌||◌, not, if◌then◌else◌, Bool, true, false, None, List, []}
use Rattle.std.specs.Prelude.{◌∷◌}
use Rattle.std.proofs.lemmas.Bool.{cases_eq}
use Rattle.std.proofs.lemmas.Bool.Decides.{nat_tests}
use Rattle.wait_model.specs.declared.calls.Call.TheVariants as calls
use Rattle.wait_model.specs.declared.watches.Mode.TheVariants as mode
use Rattle.wait_model.specs.{declared.watches.Watch.Watch, Tasks.meets, Watches.mask_of}
use Rattle.wait_model.specs.declared.watches.Watch.TheVariants as watch
use Rattle.wait_rule.specs.declared.journal.EndAct.TheVariants as act
use Rattle.wait_rule.specs.{declared.journal.Item.Item, declared.journal.Journal.Journal, Ends.WasWorn}
use Rattle.wait_rule.specs.{HandedPermits.StaysOff, Known.Known, Queues.index, Transitions.call_program}
use Rattle.wait_rule.specs.Aside.{Grows, GrowsAside, signals_of}
use Rattle.wait_rule.specs.Pipes.{End, closed, new_end, refused_item, was_refused}
use Rattle.wait_rule.specs.PipeSays.{EndBecomes, EndsStay, end_at}
use Rattle.wait_rule.specs.Says.{Debts, Obligation, Excuse, IsFree, IsOutBut, IsUp, OwesBut, OwesNothing, added}
use Rattle.wait_rule.specs.Says.{end_unclosed, excuses, has_duty, has_end, no_excuse, page_asked, told_of, wake_of}
use Rattle.wait_rule.specs.Stays.{Carries, claim_change, with_end}
use Rattle.wait_rule.specs.declared.journal.Item.TheVariants as item
use Rattle.wait_rule.proofs.{KnownLaws.AsideCalls.calls_grow_aside, KnownLaws.CarriedEnds.programs_leave_ends}
use Rattle.wait_event.specs.Conds.{set_change}
use Rattle.completion_cell.specs.Completes.{HasCompleted}
use Rattle.wait_pipe.specs.Pieces.{EndsPipe, IsAtEnd, OtherPipesStay}
use Rattle.copy_plan.specs.declared.TheConstants.{ENDED_CELL}
use Rattle.copy_ends.specs.Did.{IsIdler}
use Rattle.copy_turns.specs.Work.{IsAtWork, SignalsStay, SumsStay, but_ends}
use Rattle.copy_turns.proofs.Frames.{item_grows, item_off, item_signals, item_sum}
use Rattle.copy_turns.proofs.PartLaws.{grows_then, sums_then}

or_true : (a : Bool) → (a || true) ≡ true
or_true true = refl
or_true false = refl

-- whoever is excused of more ends owes no more
covered : (o x y : Bool) → (x ≡ true → y ≡ true) → (o && not x) ≡ false → (o && not y) ≡ false
covered false x y more is = refl
covered true true y more is = ap not (more refl)
covered true false true more is = refl
covered true false false more is = is

module _ (x y : Excuse) (k : Known) (wakes : y.wakes ≡ x.wakes) (asks : y.asks ≡ x.asks) (left : y.left ≡ x.left)
    (more : (j : ℕ) → x.ends j ≡ true → y.ends j ≡ true) where
  ends_none : Debts x k → (d : Obligation) → (has_duty k d && not (excuses y d)) ≡ false
  ends_none d (wake_of c σ) = ap (λ (f : Watch → ℕ → Bool). (told_of k).duty.owes c σ
      && not (f c σ || not (meets (mask_of mode.Normal) σ))) wakes ∙ d.none (wake_of c σ)
  ends_none d page_asked = ap (λ (b : Bool). has_duty k page_asked && not b) asks ∙ d.none page_asked
  ends_none d (end_unclosed e) = covered (has_end e k) (x.ends e) (y.ends e) (more e) (d.none (end_unclosed e))

  pub owes_ends : y.entries ≡ x.entries → y.bits ≡ x.bits → OwesBut x k → OwesBut y k
  owes_ends entries bits o = record {
    unmarked = o.unmarked;
    debts = record {
      none = ends_none o.debts;
      off = λ none. o.debts.off (sym left ∙ none);
      shows = λ none. o.debts.shows (sym left ∙ none);
    };
    unqueued = λ i. subst (λ (f : ℕ → Bool). IsOutBut (f i) ((told_of k).bits.stored i)) (sym entries) (o.unqueued i);
    holds = λ c. ap (λ (f : Watch → Bool). not (f c) && (told_of k).bits.keeps c) bits ∙ o.holds c;
    tries = o.tries;
    tries_none = o.tries_none;
  }

pub owes_work : (k : Known) → OwesNothing k → OwesBut but_ends k
owes_work k o = owes_ends no_excuse but_ends k refl refl refl (λ j is. refl) refl refl o

owes_opened : (e : ℕ) (k : Known) → OwesBut (with_end e but_ends) k → OwesBut but_ends k
unfolding with_end
owes_opened e k o = owes_ends (with_end e but_ends) but_ends k refl refl refl (λ j is. refl) refl refl o

owes_unopened : (e : ℕ) (k : Known) → OwesBut but_ends k → OwesBut (with_end e but_ends) k
unfolding with_end
owes_unopened e k o = owes_ends but_ends (with_end e but_ends) k refl refl refl (λ j is. or_true (j == e)) refl refl o

or_swapped : (a b c : Bool) → (a || (b || c)) ≡ true → (b || (a || c)) ≡ true
or_swapped true true c is = refl
or_swapped true false c is = refl
or_swapped false b c is = is

pub owes_swapped : (d e : ℕ) (x : Excuse) (k : Known) → OwesBut (with_end d (with_end e x)) k
    → OwesBut (with_end e (with_end d x)) k
unfolding with_end
owes_swapped d e x k o = owes_ends (with_end d (with_end e x)) (with_end e (with_end d x)) k refl refl refl
    (λ j is. or_swapped (j == d) (j == e) (x.ends j) is) refl refl o

-- a task between its work and what comes before and after it
pub idler_works : (k : Known) → IsIdler k → IsAtWork k
idler_works k i = record {
  up = i.clean.up;
  idle = record { running = i.clean.running; free = i.clean.free; unmarked = i.clean.settled.unmarked };
  out = i.clean.settled.unqueued (index k.view.number 0);
  owes = owes_work k i.clean.settled;
  off = i.off;
}

pub works_idler : (k : Known) → IsAtWork k → OwesNothing k → IsIdler k
works_idler k w o = record {
  clean = record { up = w.up; running = w.idle.running; free = w.idle.free; settled = o };
  off = w.off;
}

-- its list grew, and it added to no tally and raised no signal
pub record Leaves (old new : Known) : Type 0 where
  pub domain : new.domain ≡ old.domain
  pub grows : Grows old new
  pub sums : SumsStay old new
  pub signals : SignalsStay old new

pub leaves_then : (a b c : Known) → Leaves a b → Leaves b c → Leaves a c
leaves_then a b c one two = record {
  domain = two.domain ∙ one.domain;
  grows = grows_then a b c one.grows two.grows;
  sums = sums_then a b c one.sums two.sums;
  signals = two.signals ∙ one.signals;
}

-- Of end k: it was opened; it was not; it was closed.
pub record Opens (k : ℕ) (old new : Known) : Type 0 where
  pub leaves : Leaves old new
  pub work : IsAtWork new
  pub owes : (x : Excuse) → OwesBut x old → OwesBut (with_end k x) new
  pub becomes : EndBecomes k old new new_end

pub record Fails (k : ℕ) (old new : Known) : Type 0 where
  pub leaves : Leaves old new
  pub work : IsAtWork new
  pub owes : (x : Excuse) → OwesBut x old → OwesBut x new
  pub ends : EndsStay old new
  pub refused : was_refused k new.view.items ≡ true

pub record Closes (k : ℕ) (old new : Known) : Type 0 where
  pub leaves : Leaves old new
  pub work : IsAtWork new
  pub owes : (x : Excuse) → OwesBut (with_end k x) old → OwesBut x new
  pub own : end_at k new ≡ closed (end_at k old)
  pub others : OtherPipesStay k old new
  pub claims : (j : ℕ) → (end_at j new).mine ≡ (end_at j old).mine

-- the worker's completion was completed
pub record Finishes (old new : Known) : Type 0 where
  pub leaves : Leaves old new
  pub idler : IsIdler new
  pub ends : EndsStay old new
  pub completed : HasCompleted old new ENDED_CELL

or_assoc : (a b c : Bool) → (a || (b || c)) ≡ ((a || b) || c)
or_assoc true b c = refl
or_assoc false b c = refl

same_number : (k : ℕ) → (k == k) ≡ true
same_number k = grind (arith, nat_tests)

pub end_closed : (e : End) → IsAtEnd e → IsAtEnd (closed e)
end_closed e is = record { ended = is.ended; all = is.all }

-- what was refused and what was noted, told of a longer list
refused_append : (k : ℕ) (xs ys : List Item) → was_refused k (xs ++ ys) ≡ (was_refused k xs || was_refused k ys)
refused_append k [] ys = refl
refused_append k (x ∷ xs) ys = ap (λ (b : Bool). refused_item k x || b) (refused_append k xs ys)
    ∙ or_assoc (refused_item k x) (was_refused k xs) (was_refused k ys)

pub refused_later : (k : ℕ) (a b : Known) → Grows a b → was_refused k a.view.items ≡ true
    → was_refused k b.view.items ≡ true
refused_later k a b g is = ap (λ (v : Journal). was_refused k v.items) g.view
    ∙ (refused_append k a.view.items g.items ∙ ap (λ (c : Bool). c || was_refused k g.items) is)

pub worn_later : (a b : Known) (h p : ℕ) → Grows a b → WasWorn a.view.number a.view.items h p
    → WasWorn b.view.number b.view.items h p
worn_later a b h p g w = subst (λ (v : Journal). WasWorn v.number v.items h p) (sym g.view) (record {
  front = w.front;
  rest = w.rest ++ g.items;
  split = ap (λ l. l ++ g.items) w.split ∙ append_assoc w.front w.rest g.items;
  held = w.held;
  shows = w.shows;
})

-- a claim
module _ (k found : ℕ) (got : Bool) (old new : Known) (is : new ≡ added old (item.Piped k act.Claim found))
    (c : Carries (claim_change k got) old new) (work : IsAtWork old) where
  claim_leaves : Leaves old new
  claim_leaves = record {
    domain = c.domain;
    grows = item_grows old new (item.Piped k act.Claim found) is;
    sums = λ p. let e = item_sum old new (item.Piped k act.Claim found) is p in omega arith;
    signals = item_signals old new (item.Piped k act.Claim found) is ∙ append-nil (signals_of old.view.items);
  }

  claim_work : OwesBut but_ends new → IsAtWork new
  claim_work owes = record {
    up = c.awake ∙ work.up;
    idle = record {
      running = c.state ∙ work.idle.running;
      free = record { head = c.head ∙ work.idle.free.head; ticket = c.ticket ∙ work.idle.free.ticket };
      unmarked = c.mark ∙ work.idle.unmarked;
    };
    out = c.out (index new.view.number 0) refl
        (subst (λ (m : ℕ). (told_of old).bits.stored (index m 0) ≡ None) (sym c.number) work.out);
    owes = owes;
    off = item_off old new (item.Piped k act.Claim found) is tt ENDED_CELL work.off;
  }

  pub opens : got ≡ true → EndBecomes k old new (if got then new_end else end_at k old) → Opens k old new
  opens hit becomes =
      let owes : (x : Excuse) → OwesBut x old → OwesBut (with_end k x) new
      = λ x o. subst (λ (b : Bool). OwesBut ((claim_change k b).to x) new) hit (c.owes x o) in
      record {
        leaves = claim_leaves;
        work = claim_work (owes_opened k new (owes but_ends work.owes));
        owes = owes;
        becomes = subst (λ (b : Bool). EndBecomes k old new (if b then new_end else end_at k old)) hit becomes;
      }

  end_kept : EndBecomes k old new (end_at k old) → EndsStay old new
  end_kept becomes j = elim (cases_eq j k) as (λ z. end_at j new ≡ end_at j old) [
    | inl same ↦ ap (λ (i : ℕ). end_at i new) same ∙ (becomes.own ∙ ap (λ (i : ℕ). end_at i old) (sym same))
    | inr other ↦ becomes.others j other
  ]

  pub fails : got ≡ false → got ≡ (found == 0) → EndBecomes k old new (if got then new_end else end_at k old)
      → Fails k old new
  fails miss tells becomes =
      let owes : (x : Excuse) → OwesBut x old → OwesBut x new
      = λ x o. subst (λ (b : Bool). OwesBut ((claim_change k b).to x) new) miss (c.owes x o) in
      let kept : EndBecomes k old new (end_at k old)
      = subst (λ (b : Bool). EndBecomes k old new (if b then new_end else end_at k old)) miss becomes in
      record {
        leaves = claim_leaves;
        work = claim_work (owes but_ends work.owes);
        owes = owes;
        ends = end_kept kept;
        refused = ap (λ (j : Known). was_refused k j.view.items) is
            ∙ (refused_append k old.view.items (item.Piped k act.Claim found ∷ [])
            ∙ (ap (λ (b : Bool). was_refused k old.view.items || ((b && not (found == 0)) || false)) (same_number k)
            ∙ (ap (λ (b : Bool). was_refused k old.view.items || (not b || false)) (sym tells ∙ miss)
            ∙ or_true (was_refused k old.view.items))));
      }

-- a close
pub closes : (k : ℕ) (old new : Known) → IsAtWork old → end_at k new ≡ closed (end_at k old)
    → OtherPipesStay k old new → EndsPipe k old new → Closes k old new
closes k old new work own others r = record {
  leaves = record {
    domain = r.carries.domain;
    grows = r.aside.grows;
    sums = r.aside.sums;
    signals = r.aside.signals;
  };
  work = record {
    up = r.up;
    idle = r.idle;
    out = r.out;
    owes = r.carries.owes but_ends (owes_unopened k old work.owes);
    off = r.off ENDED_CELL work.off;
  };
  owes = r.carries.owes;
  own = own;
  others = others;
  claims = r.aside.claims;
}

-- the completion
pub completes : (old new : Known) → IsIdler old → HasCompleted old new ENDED_CELL → IsUp new → IsFree new
    → Carries (set_change (watch.Done ENDED_CELL) mode.Normal new.at) old new → StaysOff old new → Finishes old new
completes old new idler runs up free c off =
    let aside : GrowsAside old new
    = calls_grow_aside old.view.number 0 (calls.Complete ENDED_CELL) old new _ _ runs.transitions tt
    (λ e. absurd (cc)) runs.goes in
    record {
      leaves = record { domain = c.domain; grows = aside.grows; sums = aside.sums; signals = aside.signals };
      idler = record {
        clean = record {
          up = up;
          running = c.state ∙ idler.clean.running;
          free = free;
          settled = c.owes no_excuse idler.clean.settled;
        };
        off = off ENDED_CELL idler.off;
      };
      ends = programs_leave_ends (call_program old.view.number 0 (calls.Complete ENDED_CELL)) (λ p v o e. absurd (cc))
          old new _ _ runs.transitions runs.goes;
      completed = runs;
    }
