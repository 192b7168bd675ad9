use Rattle.std.proofs.Common.{rules, ◌∙◌, ◌≡◌, ◌+◌, ◌++◌, ◌∷◌, [], ℕ, List}
use Rattle.std.proofs.Common.{length, map, ap, sym, subst, arith}
use Rattle.std.proofs.lemmas.List.{length-map}
use Rattle.std.specs.List.Sorted.{IsPermutation, IsNonDecreasingBy}
use Rattle.wait_model.specs.declared.layout.TheConstants.{MEMBERS, MEMBER_WORDS}
use Rattle.wait_rule.specs.{Queues.place_by, LookCounts.LooksAtMost, Shown.shown_queue}
use Rattle.wq_head.specs.Looking.{IsNextSet}
use Rattle.wq_head.specs.Lists.{rank_by, stand_in, member_by, AreAsShown}
use Rattle.wq_head.proofs.{CarriedHolds.looks_carried, LookedWords.looked_later, CountedLooks.counted_more}
use Rattle.wq_head.proofs.{CountedLooks.counted_end, SortedQueue.list_is_queue, SortedQueue.list_is_shown}
use Rattle.wq_head.proofs.OneMoreLook.{looks_none, looks_on, whole_of, holding_on}
use Rattle.wq_head.proofs.ListedMembers.{AreListed, numbers_few, listed_later, listed_on, listed_more}
use Rattle.wq_head.proofs.looks.members.Goals as goal

pub loop-m-init : goal.loop-m-init
loop-m-init c = record {
  looks = looks_none c.args.task.now;
  looked = search rules;
  listed = search rules;
  counted = search rules;
}

pub push-requires-clause-room : goal.push-requires-clause-room
push-requires-clause-room c =
    let i = c.loop-m.invariant in
    let n = c.in-Some.ensures.next in
    let few = numbers_few (place_by c.loop-m.task) c.loop-m.looking.next in
    omega (arith, few, ap length i.listed.numbers, n.0, n.1)

pub loop-m-preserved : goal.loop-m-preserved
loop-m-preserved c =
    let i = c.loop-m.invariant in
    let n = c.in-Some.ensures.next in
    let mid = c.next_set.new.task in
    let new = c.look_at-found.new.task in
    let e = c.look_at-found.ensures in
    let there = e.looks.from.places c.in-Some.m n.5.seen ∙ n.5.there in
    let ms = c.loop-m.into.order.items in
    let words = c.loop-m.into.words in
    let at = listed_on mid c.loop-m.looking.next c.in-Some.m ms words n.0 n.2
    (listed_later c.loop-m.task mid c.in-Some.ensures.looks c.loop-m.looking.next ms words i.listed) in
    let more = listed_more new c.in-Some.m n.5.place c.look_at-found.result.word ms words n.1
    (listed_later mid new e.looks c.in-Some.m ms words at) there e.seen e.stands
    (e.reads n.5.place (e.place ∙ there))
    in record {
      looks = looks_on c.args.task.now mid new (looks_on c.args.task.now c.loop-m.task mid i.looks
          c.in-Some.ensures.looks)
          e.looks;
      looked = looked_later mid new e.looks c.next_set.new.looking n.4;
      listed = subst (λ (m : ℕ). AreListed new m c.push.new.self.order.items c.push.new.self.words) (sym n.3)
          (subst (λ (xs : List ℕ). AreListed new (c.in-Some.m + 1) xs c.push.new.self.words) (sym c.push.ensures.order)
          (subst (λ (ws : List ℕ). AreListed new (c.in-Some.m + 1) (ms ++ c.in-Some.m ∷ []) ws)
          (sym c.push.ensures.words) more));
      counted = counted_more c.args.task.now c.loop-m.task mid c.in-Some.ensures.looks c.loop-m.looking.next
          c.next_set.new.looking.next c.in-Some.m i.listed.seen n.0 n.2 i.counted c.in-Some.ensures.loaded new e.looks
          e.one n.5 n.3;
    }

pub returns : goal.returns
returns c =
    let i = c.loop-m.invariant in
    let mid = c.next_set.new.task in
    let n = subst (IsNextSet mid c.loop-m.looking.next c.next_set.new.looking) c.in_default.is
    c.next_set.ensures.next in
    let l = looks_on c.args.task.now c.loop-m.task mid i.looks c.next_set.ensures.looks in
    let ms = c.loop-m.into.order.items in
    let words = c.loop-m.into.words in
    let listed = listed_on mid c.loop-m.looking.next MEMBERS ms words i.looked.within n
    (listed_later c.loop-m.task mid c.next_set.ensures.looks c.loop-m.looking.next ms words i.listed) in
    let s = c.sort.ensures in
    let sorted = c.sort.new.list.order.items in
    let moved = subst (λ (xs : List ℕ). IsPermutation xs sorted) listed.numbers s.moved in
    let up = subst (λ (ws : List ℕ). IsNonDecreasingBy (rank_by ws) sorted) s.same s.sorted in
    let queue : map stand_in (map (member_by c.sort.new.list.words) sorted) ≡ shown_queue mid =
    subst (λ (ws : List ℕ). map stand_in (map (member_by ws) sorted) ≡ shown_queue mid) (sym s.same)
    (list_is_queue mid words listed.shows sorted moved up) in
    let long = sym (ap length queue) ∙ length-map (map (member_by c.sort.new.list.words) sorted) stand_in in
    record {
      looks = l;
      whole = whole_of mid listed.seen;
      held = holding_on c.args.task.now mid l c.requires.held;
      queue = queue;
      shows = subst (λ (ws : List ℕ). AreAsShown mid (map (member_by ws) sorted)) (sym s.same)
          (list_is_shown mid words listed.shows sorted moved up);
      count = c.len.ensures;
      counts = subst (λ (n : ℕ). LooksAtMost (MEMBER_WORDS + n) c.args.task.now mid) long
          (counted_end c.args.task.now c.loop-m.task mid c.next_set.ensures.looks c.loop-m.looking.next
          c.next_set.new.looking.next i.listed.seen i.looked.within c.next_set.ensures.within n i.counted
          c.next_set.ensures.loaded);
      stands = listed.stands;
      carries = looks_carried c.args.task.now mid l;
    }
