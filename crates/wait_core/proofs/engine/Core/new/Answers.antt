use Rattle.std.proofs.Common.{List, rules, sym, subst, arith}
use Rattle.wait_model.specs.{declared.calls.Ran.Ran, Runs.state_of}
use Rattle.wait_core.specs.Keepers.{ShowsKeepers, ShowsTaken}
use Rattle.wait_core.proofs.{IndexChanges.start_index, KeptBits.start_keepers, KeptBits.start_taken}
use Rattle.wait_core.proofs.engine.Core.new.Goals as goal

pub invariant_of-result : goal.invariant_of-result
invariant_of-result c =
    let tasks = c.from.ensures in
    record {
      core = search rules;
      kept = subst (λ (items : List Ran). ShowsKeepers c.in_ok-keepers.keepers.items (state_of items).table.view)
          (sym c.in_ok-run.ensures.items)
          (start_keepers c.in_ok-keepers.keepers.items c.in_ok-keepers.ensures.count c.in_ok-keepers.ensures.none);
      taken = subst (λ (items : List Ran). ShowsTaken c.in_ok-taken.taken.items (state_of items).table.taken)
          (sym c.in_ok-run.ensures.items)
          (start_taken c.in_ok-taken.taken.items c.in_ok-taken.ensures.count c.in_ok-taken.ensures.none);
      indexed = start_index c.in_ok-words.words.items c.in_ok-index.index.items c.in_ok-words.ensures
          c.in_ok-index.ensures.items;
      spacious = (let exact = c.in_ok-index.ensures.exact in omega arith);
    }
