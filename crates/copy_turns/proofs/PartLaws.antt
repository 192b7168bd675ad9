-- Parts of a worker's turns: what two of them make together, and what one makes that does nothing.
use Rattle.std.proofs.Common.{refl, sym, ◌∙◌, ap, subst, append_assoc, append-nil, arith}
use Rattle.std.specs.Prelude.{ℕ, ◌≡◌, ◌+◌, ◌≤◌, List, [], ◌∷◌, ◌++◌}
use Rattle.wait_model.specs.{declared.steps.Step.Step, SignalCounts.takes_fatal, Totals.total}
use Rattle.wait_rule.specs.{declared.journal.Item.Item, declared.journal.Journal.Journal, Aside.Grows, Items.steps_of}
use Rattle.wait_rule.specs.{Journals.pushed, Known.Known, Pipes.End, Pipes.moved_bytes, PipeSays.EndsStay}
use Rattle.wait_rule.specs.{PipeSays.end_at, Says.history_of}
use Rattle.wait_pipe.specs.Pieces.{IsSettled, Moved}
use Rattle.copy_plan.specs.declared.stop.Halt.{Halt}
use Rattle.copy_plan.specs.declared.stop.Halt.TheVariants as halt
use Rattle.copy_turns.specs.Work.{Apart, Counted, IsAtWork, IsHalt, SumsStay, TookKill, Works}
use Rattle.wait_rule.proofs.TableSteps.ItemLists.{steps_append}

-- the journal with other items of its own
abbrev with_items : Journal → List Item → Journal
with_items v xs = record v { items = xs }

pub grows_same : (k : Known) → Grows k k
grows_same k = record { items = []; view = sym (ap (with_items k.view) (append-nil k.view.items)) }

pub grows_then : (a b c : Known) → Grows a b → Grows b c → Grows a c
grows_then a b c one two = record {
  items = one.items ++ two.items;
  view = two.view ∙ (ap (λ (v : Journal). pushed v two.items) one.view
      ∙ ap (with_items a.view) (append_assoc a.view.items one.items two.items));
}

pub works_same : (k : Known) → IsAtWork k → Works k k
works_same k work = record {
  work = work;
  domain = refl;
  grows = grows_same k;
  owes = λ x o. o;
  claims = λ j. refl;
}

pub works_then : (a b c : Known) → Works a b → Works b c → Works a c
works_then a b c one two = record {
  work = two.work;
  domain = two.domain ∙ one.domain;
  grows = grows_then a b c one.grows two.grows;
  owes = λ x o. two.owes x (one.owes x o);
  claims = λ j. two.claims j ∙ one.claims j;
}

pub ends_then : (a b c : Known) → EndsStay a b → EndsStay b c → EndsStay a c
ends_then a b c one two = λ j. two j ∙ one j

pub sums_then : (a b c : Known) → SumsStay a b → SumsStay b c → SumsStay a c
sums_then a b c one two = λ p. two p ∙ one p

pub apart_same : (k : Known) → IsAtWork k → Apart k k
apart_same k work = record {
  works = works_same k work;
  ends = λ j. refl;
  sums = λ p. refl;
  signals = refl;
}

pub apart_then : (a b c : Known) → Apart a b → Apart b c → Apart a c
apart_then a b c one two = record {
  works = works_then a b c one.works two.works;
  ends = ends_then a b c one.ends two.ends;
  sums = sums_then a b c one.sums two.sums;
  signals = two.signals ∙ one.signals;
}

-- tallies
pub counted_same : (k : Known) → Counted 0 k k
counted_same k = record { own = omega arith; others = λ p other. refl }

pub counted_none : (a b : Known) → SumsStay a b → Counted 0 a b
counted_none a b sums = record { own = let e = sums 0 in omega arith; others = λ p other. sums p }

pub counted_then : (n m : ℕ) (a b c : Known) → Counted n a b → Counted m b c → Counted (n + m) a c
counted_then n m a b c one two = record {
  own = let e = one.own in let f = two.own in omega arith;
  others = λ p other. two.others p other ∙ one.others p other;
}

-- before and behind a part that adds to no tally
pub sums_counted : (n : ℕ) (a b c : Known) → SumsStay a b → Counted n b c → Counted n a c
sums_counted n a b c one two = record {
  own = let e = one 0 in let f = two.own in omega arith;
  others = λ p other. two.others p other ∙ one p;
}

pub counted_sums : (n : ℕ) (a b c : Known) → Counted n a b → SumsStay b c → Counted n a c
counted_sums n a b c one two = record {
  own = let e = one.own in let f = two 0 in omega arith;
  others = λ p other. two p ∙ one.others p other;
}

-- the bytes that an end passed on
pub moved_none : (k : ℕ) (a : Known) → IsSettled (end_at k a) → Moved k a a []
moved_none k a settled = record {
  others = λ j other. refl;
  settled = settled;
  bytes = sym (append-nil (moved_bytes (end_at k a)));
}

pub moved_then : (k : ℕ) (a b c : Known) (xs ys : List ℕ) → Moved k a b xs → Moved k b c ys → Moved k a c (xs ++ ys)
moved_then k a b c xs ys one two = record {
  others = λ j other. two.others j other ∙ one.others j other;
  settled = two.settled;
  bytes = two.bytes ∙ (ap (λ l. l ++ ys) one.bytes ∙ append_assoc (moved_bytes (end_at k a)) xs ys);
}

-- before and behind a part that touches no end
pub ends_moved : (k : ℕ) (a b c : Known) (xs : List ℕ) → EndsStay a b → Moved k b c xs → Moved k a c xs
ends_moved k a b c xs one two = record {
  others = λ j other. two.others j other ∙ one j;
  settled = two.settled;
  bytes = two.bytes ∙ ap (λ (e : End). moved_bytes e ++ xs) (one k);
}

pub moved_ends : (k : ℕ) (a b c : Known) (xs : List ℕ) → Moved k a b xs → EndsStay b c → Moved k a c xs
moved_ends k a b c xs one two = record {
  others = λ j other. two j ∙ one.others j other;
  settled = subst IsSettled (sym (two k)) one.settled;
  bytes = ap moved_bytes (two k) ∙ one.bytes;
}

-- a fatal signal that was taken, with a part before or behind it
pub total_append : (f : Step → ℕ) (xs ys : List Step) → total f (xs ++ ys) ≡ total f xs + total f ys
total_append f [] ys = omega arith
total_append f (x ∷ xs) ys = let e = total_append f xs ys in omega arith

grown_total : (f : Step → ℕ) (a b : Known) → Grows a b → total f (history_of a) ≤ total f (history_of b)
grown_total f a b g =
    let is : total f (history_of b) ≡ total f (history_of a) + total f (steps_of g.items)
    = ap (λ (v : Journal). total f (steps_of v.items)) g.view
    ∙ (ap (total f) (steps_append a.view.items g.items) ∙ total_append f (history_of a) (steps_of g.items)) in
    omega arith

pub took_before : (a b c : Known) → Grows a b → TookKill b c → TookKill a c
took_before a b c g t = let h = grown_total takes_fatal a b g in omega arith

pub took_later : (a b c : Known) → TookKill a b → Grows b c → TookKill a c
took_later a b c t g = let h = grown_total takes_fatal b c g in omega arith

pub halt_before : (k : ℕ) (a b c : Known) (h : Halt) → Grows a b → IsHalt k b c h → IsHalt k a c h
halt_before k a b c halt.Broken g is = is
halt_before k a b c halt.Killed g is = took_before a b c g is
halt_before k a b c (halt.Worn h p) g is = is
