use Rattle.std.specs.Prelude.{◌-◌, min, slice_index_or}
use Rattle.wait_core.specs.declared.index.TheConstants.{RANKS}
use Rattle.std.proofs.Common.{arith, refl}
use Rattle.std.proofs.lemmas.List.{get_or_default}
use Rattle.wait_core.proofs.IndexSearch.{none, last_ends_head, last_ends_rank, last_takes, last_passes}
use Rattle.wait_core.proofs.scan.last_in.Goals as goal

pub returns-then-standing-span-clause-picked : goal.returns-then-standing-span-clause-picked
returns-then-standing-span-clause-picked c = λ f h. last_ends_head c.args.index.now c.requires.index (c.loop-end.end -
    1) (let w = c.loop-end.invariant.within in let t = c.loop-end-test.true in omega arith) (slice_index_or
    c.args.index.now (c.loop-end.end - 1) none)
    (λ d. get_or_default c.args.index.now (c.loop-end.end - 1) none d (let w = c.loop-end.invariant.within in let t =
    c.loop-end-test.true in omega arith)) c.args.span c.args.count
    (λ i d le. c.loop-end.invariant.passed i d (let t = c.loop-end-test.true in omega arith))
    (min c.args.span.high RANKS) (omega arith)
    (λ i d lt. c.loop-end.invariant.before i d (let t = c.loop-end-test.true in omega arith))
    c.if-standing-span.true f h c.requires.count

pub returns-then-standing-span-2-clause-picked : goal.returns-then-standing-span-2-clause-picked
returns-then-standing-span-2-clause-picked c = λ f h. last_ends_rank c.args.index.now c.requires.index (c.loop-end.end
    - 1) (let w = c.loop-end.invariant.within in let t = c.loop-end-test.true in omega arith) (slice_index_or
    c.args.index.now (c.loop-end.end - 1) none)
    (λ d. get_or_default c.args.index.now (c.loop-end.end - 1) none d (let w = c.loop-end.invariant.within in let t =
    c.loop-end-test.true in omega arith)) c.args.span c.args.count
    (λ i d le. c.loop-end.invariant.passed i d (let t = c.loop-end-test.true in omega arith))
    (min c.args.span.high RANKS) (omega arith)
    (λ i d lt. c.loop-end.invariant.before i d (let t = c.loop-end-test.true in omega arith))
    c.if-standing-span.false c.if-standing-span-2.true f h c.requires.count

pub returns-then-member-count-clause-picked : goal.returns-then-member-count-clause-picked
returns-then-member-count-clause-picked c = λ f h. last_takes c.args.index.now c.requires.index (c.loop-end.end - 1)
    (let w = c.loop-end.invariant.within in let t = c.loop-end-test.true in omega arith) (slice_index_or
    c.args.index.now (c.loop-end.end - 1) none)
    (λ d. get_or_default c.args.index.now (c.loop-end.end - 1) none d (let w = c.loop-end.invariant.within in let t =
    c.loop-end-test.true in omega arith)) c.args.span c.args.count
    (λ i d le. c.loop-end.invariant.passed i d (let t = c.loop-end-test.true in omega arith))
    (min c.args.span.high RANKS) (omega arith)
    (λ i d lt. c.loop-end.invariant.before i d (let t = c.loop-end-test.true in omega arith))
    c.requires.last refl c.if-standing-span.false c.if-standing-span-2.false c.member-member.result
    c.member-member.ensures.at c.if-member-count.true f h c.requires.count

pub loop-end-preserved : goal.loop-end-preserved
loop-end-preserved c = record {
  within = (let w = c.loop-end.invariant.within in omega arith);
  passed = last_passes c.args.index.now c.requires.index (c.loop-end.end - 1) (let w = c.loop-end.invariant.within in
      let t = c.loop-end-test.true in omega arith) (slice_index_or c.args.index.now (c.loop-end.end - 1) none)
      (λ d. get_or_default c.args.index.now (c.loop-end.end - 1) none d (let w = c.loop-end.invariant.within in let t =
      c.loop-end-test.true in omega arith)) c.args.span c.args.count
      (λ i d le. c.loop-end.invariant.passed i d (let t = c.loop-end-test.true in omega arith))
      (min c.args.span.high RANKS) (omega arith)
      (λ i d lt. c.loop-end.invariant.before i d (let t = c.loop-end-test.true in omega arith))
      c.member-member.result.at c.member-member.result.place c.member-member.ensures.number
      c.member-member.ensures.at c.if-member-count.false;
  before = λ i d lt. c.loop-end.invariant.before i d (omega arith);
}
