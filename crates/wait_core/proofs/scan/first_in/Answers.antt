use Rattle.std.specs.Prelude.{min, slice_index_or}
use Rattle.wait_core.specs.declared.index.TheConstants.{RANKS}
use Rattle.std.proofs.Common.{arith, refl}
use Rattle.std.proofs.lemmas.List.{get_or_default}
use Rattle.wait_core.proofs.IndexSearch.{none, first_ends_head, first_ends_rank, first_takes, first_passes}
use Rattle.wait_core.proofs.scan.first_in.Goals as goal

pub returns-then-standing-span-clause-picked : goal.returns-then-standing-span-clause-picked
returns-then-standing-span-clause-picked c = λ f h. first_ends_head c.args.index.now c.requires.index c.loop-at.at
    c.loop-at-test.true (slice_index_or c.args.index.now c.loop-at.at none)
    (λ d. get_or_default c.args.index.now c.loop-at.at none d c.loop-at-test.true) c.args.span c.args.count
    c.loop-at.invariant.passed
    (min c.args.span.low RANKS) c.loop-at.invariant.behind
    c.if-standing-span.true f h c.requires.count

pub returns-then-standing-span-2-clause-picked : goal.returns-then-standing-span-2-clause-picked
returns-then-standing-span-2-clause-picked c = λ f h. first_ends_rank c.args.index.now c.requires.index c.loop-at.at
    c.loop-at-test.true (slice_index_or c.args.index.now c.loop-at.at none)
    (λ d. get_or_default c.args.index.now c.loop-at.at none d c.loop-at-test.true) c.args.span c.args.count
    c.loop-at.invariant.passed
    (min c.args.span.low RANKS) c.loop-at.invariant.behind
    c.if-standing-span.false c.if-standing-span-2.true f h c.requires.count

pub returns-then-member-count-clause-picked : goal.returns-then-member-count-clause-picked
returns-then-member-count-clause-picked c = λ f h. first_takes c.args.index.now c.requires.index c.loop-at.at
    c.loop-at-test.true (slice_index_or c.args.index.now c.loop-at.at none)
    (λ d. get_or_default c.args.index.now c.loop-at.at none d c.loop-at-test.true) c.args.span c.args.count
    c.loop-at.invariant.passed
    (min c.args.span.low RANKS) c.loop-at.invariant.behind
    c.requires.first refl c.if-standing-span.false c.if-standing-span-2.false c.member-member.result
    c.member-member.ensures.at c.if-member-count.true f h c.requires.count

pub loop-at-preserved : goal.loop-at-preserved
loop-at-preserved c = record {
  within = (let t = c.loop-at-test.true in omega arith);
  passed = first_passes c.args.index.now c.requires.index c.loop-at.at c.loop-at-test.true (slice_index_or
      c.args.index.now c.loop-at.at none)
      (λ d. get_or_default c.args.index.now c.loop-at.at none d c.loop-at-test.true) c.args.span c.args.count
      c.loop-at.invariant.passed
      (min c.args.span.low RANKS) c.loop-at.invariant.behind
      c.member-member.result.at c.member-member.result.place c.member-member.ensures.number
      c.member-member.ensures.at c.if-member-count.false;
  behind = λ i d le. c.loop-at.invariant.behind i d (omega arith);
}
