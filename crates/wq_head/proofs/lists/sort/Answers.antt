use Rattle.std.proofs.Common.{rules, ◌∙◌, ℕ, List, length, ap, sym, subst}
use Rattle.std.proofs.lemmas.List.Sorted.{IsNonDecreasingBy-from_sort_by_key}
use Rattle.std.specs.List.Sorted.{IsNonDecreasingBy}
use Rattle.wq_head.specs.Lists.{rank_by}
use Rattle.wq_head.proofs.SortedQueue.{refilled}
use Rattle.wq_head.proofs.lists.sort.Goals as goal

pub returns-clause-sorted : goal.returns-clause-sorted
returns-clause-sorted c =
    subst (λ (xs : List ℕ). IsNonDecreasingBy (rank_by c.args.list.now.words) xs)
    (sym (refilled c.args.list.now.order.items c.sort_unstable_by_key.new.self
    (c.sort_unstable_by_key.ensures.len ∙ ap length c.as_mut_slice.ensures.value)))
    (IsNonDecreasingBy-from_sort_by_key (rank_by c.args.list.now.words) _ c.sort_unstable_by_key.ensures.sorted
    (λ a r q k. search rules))
