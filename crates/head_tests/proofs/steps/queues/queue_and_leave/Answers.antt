use Rattle.std.proofs.Common.{◌≡◌, ◌<◌, ℕ, ◌∙◌, true, false, refl, sym, ap, arith, inl, inr}
use Rattle.wait_model.specs.{declared.watches.Entry.Entry, Locations.mark_word, Tables.mark_of, Words.entry_of}
use Rattle.wait_model.specs.declared.layout.TheConstants.{TASKS, SLOTS, ENTRIES, FIRST_PLAIN_HEAD, FIRST_PLACE}
use Rattle.wait_model.specs.declared.steps.Step.TheVariants as step
use Rattle.std.specs.Prelude.{◌+◌, ◌-◌, ◌*◌, Some}
use Rattle.wait_rule.proofs.{KnownLaws.MemberBits.may_store, KnownLaws.MemberLooks.zero_mark}
use Rattle.wait_rule.proofs.WorkedTests.QueuedEntry.{first, shown_first, may_queue, may_flag, may_mark, may_unmark}
use Rattle.wait_rule.proofs.WorkedTests.QueuedEntry.{still_first}
use Rattle.wait_model.proofs.WordLaws.DecodedWords.{mark_read}
use Rattle.wait_rule.specs.declared.journal.Item.TheVariants as item
use Rattle.wait_rule.specs.{Known.Known, Says.added, Says.told_of, Queues.index, Queues.marked}
use Rattle.head_tests.proofs.steps.queues.queue_and_leave.Goals as goal

few_tasks : (u n : ℕ) → u ≡ n → u < TASKS → n < TASKS
few_tasks u n is small = omega arith

small_index : (u n : ℕ) → u ≡ n → u < TASKS → index n 0 < ENTRIES
small_index u n is small = omega arith

queued_first : (k q : Known) (x w : ℕ) (e : Entry) → w ≡ 9223381657581518848 → entry_of w ≡ Some e
    → q ≡ added k (item.Made (step.Queue x e)) → q ≡ added k (item.Made (step.Queue x first))
queued_first k q x w e is reads new = new
    ∙ ap (λ (d : Entry). added k (item.Made (step.Queue x d))) (shown_first w e is reads)

put_mark : (q m : Known) (w : ℕ) → w ≡ mark_word (Some (record { head = FIRST_PLAIN_HEAD; place = FIRST_PLACE - 1 }))
    → m ≡ added q (item.Made (marked (mark_of w)))
    → m ≡ added q (item.Made (step.Mark FIRST_PLAIN_HEAD (FIRST_PLACE - 1)))
put_mark q m w is new = new ∙ ap (λ o. added q (item.Made (marked o)))
    (ap mark_of is ∙ mark_read (record { head = FIRST_PLAIN_HEAD; place = FIRST_PLACE - 1 }) (omega arith)
    (omega arith))

set_flag : (q f : Known) (u n : ℕ) → u ≡ n → f ≡ added q (item.Made (step.Woken (index u 0)))
    → f ≡ added q (item.Made (step.Woken (index n 0)))
set_flag q f u n is new = new ∙ ap (λ (i : ℕ). added q (item.Made (step.Woken (index i 0)))) is

pub queue_store-requires-clause-may : goal.queue_store-requires-clause-may
queue_store-requires-clause-may c =
    let n = c.number-me.ensures in
    let k = c.args.task.now in (
      first,
      c.of.ensures,
      may_queue k c.requires.asks c.requires.none c.requires.at
          (few_tasks c.number-me.result k.view.number n.number n.small),
    )

-- what a store leaves named
module _ (k q : Known) (n u : ℕ) (number : n ≡ u) (same : k.view.number ≡ u) where
  own_named : SLOTS * n ≡ index k.view.number 0
  own_named = omega (arith, number, same)

  mark_named : ENTRIES + n ≡ ENTRIES + k.view.number
  mark_named = omega (arith, number, same)

pub member_store-requires-clause-may : goal.member_store-requires-clause-may
member_store-requires-clause-may c =
    let n = c.number-me.ensures in
    let k = c.args.task.now in
    may_store k c.queue_store.new.task FIRST_PLAIN_HEAD _ true _ c.queue_store.ensures.step.2
    (c.requires.held ∙ ap (λ (h : ℕ). Some h) c.requires.at)
    (ap (λ (x : ℕ). Some x) (sym (own_named k k c.from-own.result k.view.number (c.from-own.ensures
    ∙ n.number) refl))) refl

pub woken_set-requires-clause-may : goal.woken_set-requires-clause-may
woken_set-requires-clause-may c =
    let n = c.number-me.ensures in
    let k = c.args.task.now in
    let e = c.queue_store.ensures.step in
    may_flag k c.queue_store.new.task c.member_store.new.task (index k.view.number 0) c.requires.at
    (small_index c.number-me.result k.view.number n.number n.small) c.requires.clear
    (queued_first k c.queue_store.new.task (index k.view.number 0) c.of.result.0 e.0 c.of.ensures e.1 e.2)
    c.member_store.ensures.step c.number-me.result (ap (λ (i : ℕ). index i 0) n.number)

pub mark_store-requires-clause-may : goal.mark_store-requires-clause-may
mark_store-requires-clause-may c =
    let n = c.number-me.ensures in
    let k = c.args.task.now in
    let e = c.queue_store.ensures.step in
    inr (
      record { head = FIRST_PLAIN_HEAD; place = FIRST_PLACE - 1 },
      c.mark_word_of.ensures,
      may_mark k c.queue_store.new.task c.member_store.new.task (index k.view.number 0) c.requires.at
          (small_index c.number-me.result k.view.number n.number n.small) c.requires.clear
          (queued_first k c.queue_store.new.task (index k.view.number 0) c.of.result.0 e.0 c.of.ensures e.1 e.2)
          c.member_store.ensures.step c.woken_set.new.task
          (set_flag c.member_store.new.task c.woken_set.new.task c.number-me.result k.view.number n.number
          c.woken_set.ensures.step),
    )

-- the number of the task and its head stay
flag_number : (k p q f : Known) (x y : ℕ) (e : Entry) → p ≡ added k (item.Made (step.Queue x e))
    → q ≡ added p item.Member → f ≡ added q (item.Made (step.Woken y)) → f.view.number ≡ k.view.number
flag_number k p q f x y e one two three = ap (λ (z : Known). z.view.number) three
    ∙ (ap (λ (z : Known). z.view.number) two ∙ ap (λ (z : Known). z.view.number) one)

flag_head : (k p q f : Known) (x y : ℕ) (e : Entry) → p ≡ added k (item.Made (step.Queue x e))
    → q ≡ added p item.Member → f ≡ added q (item.Made (step.Woken y)) → f.book.head ≡ k.book.head
flag_head k p q f x y e one two three = ap (λ (z : Known). z.book.head) three
    ∙ (ap (λ (z : Known). z.book.head) two ∙ ap (λ (z : Known). z.book.head) one)

pub member_store-requires-2-clause-may : goal.member_store-requires-2-clause-may
member_store-requires-2-clause-may c =
    let n = c.number-me.ensures in
    let k = c.args.task.now in
    let e = c.queue_store.ensures.step in
    let f = c.woken_set.new.task in
    let put = put_mark f c.mark_store.new.task c.mark_word_of.result c.mark_word_of.ensures c.mark_store.ensures.step in
    may_store f c.mark_store.new.task FIRST_PLAIN_HEAD _ true _ put
    (flag_head k c.queue_store.new.task c.member_store.new.task f _ _ e.0 e.2 c.member_store.ensures.step c.woken_set.ensures.step
    ∙ (c.requires.held ∙ ap (λ (h : ℕ). Some h) c.requires.at))
    (ap (λ (x : ℕ). Some x) (sym (mark_named f f c.from-mark.result k.view.number (c.from-mark.ensures ∙ n.number)
    (flag_number k c.queue_store.new.task c.member_store.new.task f _ _ e.0 e.2 c.member_store.ensures.step
    c.woken_set.ensures.step)))) refl

pub mark_store-requires-2-clause-may : goal.mark_store-requires-2-clause-may
mark_store-requires-2-clause-may c =
    let n = c.number-me.ensures in
    let k = c.args.task.now in
    let e = c.queue_store.ensures.step in
    inl (
      refl,
      may_unmark k c.queue_store.new.task c.member_store.new.task (index k.view.number 0) c.requires.at
          (small_index c.number-me.result k.view.number n.number n.small) c.requires.clear
          (queued_first k c.queue_store.new.task (index k.view.number 0) c.of.result.0 e.0 c.of.ensures e.1 e.2)
          c.member_store.ensures.step c.woken_set.new.task
          (set_flag c.member_store.new.task c.woken_set.new.task c.number-me.result k.view.number n.number
          c.woken_set.ensures.step)
          c.mark_store.new.task c.member_store-2.new.task
          (put_mark c.woken_set.new.task c.mark_store.new.task c.mark_word_of.result c.mark_word_of.ensures
          c.mark_store.ensures.step) c.member_store-2.ensures.step,
    )

-- from before a bookmark was put until it was taken out
out_number : (f m n t u : Known) (h q : ℕ) → m ≡ added f (item.Made (step.Mark h q)) → n ≡ added m item.Member
    → t ≡ added n (item.Made step.Unmark) → u ≡ added t item.Member → u.view.number ≡ f.view.number
out_number f m n t u h q one two three four = ap (λ (z : Known). z.view.number) four
    ∙ (ap (λ (z : Known). z.view.number) three ∙ (ap (λ (z : Known). z.view.number) two
    ∙ ap (λ (z : Known). z.view.number) one))

out_head : (f m n t u : Known) (h q : ℕ) → m ≡ added f (item.Made (step.Mark h q)) → n ≡ added m item.Member
    → t ≡ added n (item.Made step.Unmark) → u ≡ added t item.Member → u.book.head ≡ f.book.head
out_head f m n t u h q one two three four = ap (λ (z : Known). z.book.head) four
    ∙ (ap (λ (z : Known). z.book.head) three ∙ (ap (λ (z : Known). z.book.head) two
    ∙ ap (λ (z : Known). z.book.head) one))

pub member_store-requires-3-clause-may : goal.member_store-requires-3-clause-may
member_store-requires-3-clause-may c =
    let n = c.number-me.ensures in
    let k = c.args.task.now in
    let e = c.queue_store.ensures.step in
    let f = c.woken_set.new.task in
    let m = c.member_store-2.new.task in
    let put = put_mark f c.mark_store.new.task c.mark_word_of.result c.mark_word_of.ensures c.mark_store.ensures.step in
    let taken = c.mark_store-2.ensures.step ∙ ap (λ o. added m (item.Made (marked o))) zero_mark in
    may_store m c.mark_store-2.new.task FIRST_PLAIN_HEAD _ false _ taken
    (ap (λ (z : Known). z.book.head) c.member_store-2.ensures.step ∙ (ap (λ (z : Known). z.book.head) put
    ∙ (flag_head k c.queue_store.new.task c.member_store.new.task f _ _ e.0 e.2 c.member_store.ensures.step
    c.woken_set.ensures.step
    ∙ (c.requires.held ∙ ap (λ (h : ℕ). Some h) c.requires.at))))
    (ap (λ (x : ℕ). Some x) (sym (mark_named m m c.from-mark.result k.view.number (c.from-mark.ensures ∙ n.number)
    (ap (λ (z : Known). z.view.number) c.member_store-2.ensures.step ∙ (ap (λ (z : Known). z.view.number) put
    ∙ flag_number k c.queue_store.new.task c.member_store.new.task f _ _ e.0 e.2 c.member_store.ensures.step
    c.woken_set.ensures.step))))) refl

pub unqueue_store-requires-clause-may : goal.unqueue_store-requires-clause-may
unqueue_store-requires-clause-may c =
    let n = c.number-me.ensures in
    let k = c.args.task.now in
    let e = c.queue_store.ensures.step in
    let queued = queued_first k c.queue_store.new.task (index k.view.number 0) c.of.result.0 e.0 c.of.ensures e.1 e.2 in
    let rung = set_flag c.member_store.new.task c.woken_set.new.task c.number-me.result k.view.number n.number
    c.woken_set.ensures.step in
    let put = put_mark c.woken_set.new.task c.mark_store.new.task c.mark_word_of.result c.mark_word_of.ensures
    c.mark_store.ensures.step in
    let taken = c.mark_store-2.ensures.step ∙ ap (λ o. added c.member_store-2.new.task (item.Made (marked o))) zero_mark in
    record {
      entry = first;
      shows = ap (λ (u : ℕ). (told_of c.member_store-3.new.task).hold.book (index u 0)) n.number
          ∙ still_first k c.queue_store.new.task c.member_store.new.task (index k.view.number 0) c.requires.at
          (small_index c.number-me.result k.view.number n.number n.small) c.requires.clear queued c.member_store.ensures.step
          c.woken_set.new.task rung c.mark_store.new.task c.member_store-2.new.task put c.member_store-2.ensures.step
          c.mark_store-2.new.task c.member_store-3.new.task taken c.member_store-3.ensures.step;
      may = inl (n.number ∙ sym (out_number c.woken_set.new.task c.mark_store.new.task c.member_store-2.new.task
          c.mark_store-2.new.task c.member_store-3.new.task _ _ put c.member_store-2.ensures.step taken
          c.member_store-3.ensures.step
          ∙ flag_number k c.queue_store.new.task c.member_store.new.task c.woken_set.new.task _ _ e.0 e.2
          c.member_store.ensures.step c.woken_set.ensures.step));
    }

pub member_store-requires-4-clause-may : goal.member_store-requires-4-clause-may
member_store-requires-4-clause-may c =
    let n = c.number-me.ensures in
    let k = c.args.task.now in
    let e = c.queue_store.ensures.step in
    let put = put_mark c.woken_set.new.task c.mark_store.new.task c.mark_word_of.result c.mark_word_of.ensures
    c.mark_store.ensures.step in
    let taken = c.mark_store-2.ensures.step ∙ ap (λ o. added c.member_store-2.new.task (item.Made (marked o))) zero_mark in
    may_store c.member_store-3.new.task c.unqueue_store.new.task FIRST_PLAIN_HEAD _ false _ c.unqueue_store.ensures.step
    (out_head c.woken_set.new.task c.mark_store.new.task c.member_store-2.new.task
    c.mark_store-2.new.task c.member_store-3.new.task _ _ put c.member_store-2.ensures.step taken c.member_store-3.ensures.step
    ∙ (flag_head k c.queue_store.new.task c.member_store.new.task c.woken_set.new.task _ _ e.0 e.2
    c.member_store.ensures.step
    c.woken_set.ensures.step ∙ (c.requires.held ∙ ap (λ (h : ℕ). Some h) c.requires.at)))
    (ap (λ (x : ℕ). Some x) (omega arith)) refl
