use Rattle.std.proofs.Common.{arith, sym, ◌∙◌}
use Rattle.wait_core.proofs.IndexSearch.{up_to, down_to}
use Rattle.wait_core.proofs.index.below.Goals as goal

pub loop-low-preserved-then-is_below : goal.loop-low-preserved-then-is_below
loop-low-preserved-then-is_below c = record {
  order = (let t = c.loop-low-test.true in omega arith);
  within = c.loop-low.invariant.within;
  before = up_to _ c.requires.index _ _ (let t = c.loop-low-test.true in let w = c.loop-low.invariant.within in omega
      arith) _
      (sym c.is_below.ensures ∙ c.if-is_below.true);
  behind = c.loop-low.invariant.behind;
}

pub loop-low-preserved : goal.loop-low-preserved
loop-low-preserved c = record {
  order = (let t = c.loop-low-test.true in omega arith);
  within = (let t = c.loop-low-test.true in let w = c.loop-low.invariant.within in omega arith);
  before = c.loop-low.invariant.before;
  behind = down_to _ c.requires.index _ _ (let t = c.loop-low-test.true in let w = c.loop-low.invariant.within in omega
      arith) _
      (sym c.is_below.ensures ∙ c.if-is_below.false);
}
