use Rattle.std.proofs.Common.{ℕ, ◌*◌, ap, subst, inl, inr, Some}
use Rattle.wait_model.specs.declared.layout.TheConstants.{MEMBERS, WORD_BITS}
use Rattle.wait_rule.specs.Known.{Known}
use Rattle.wq_head.specs.{declared.looking.Looking.Looking, Looking.AreNone, Looking.IsNextSet, Looks.Looks}
use Rattle.wq_head.proofs.{BitLooks.clear_on, BitLooks.set_on, FirstAndLast.below_or, OneMoreLook.looks_on}
use Rattle.wq_head.proofs.SoleMembers.{none_found}
use Rattle.wq_head.proofs.found_queues.find_queue.Goals as goal

-- none up to the first member, behind the words that show none
none_up_to : (old new : Known) (n to : ℕ) → Looks old new → AreNone old 0 n → AreNone new n to → AreNone new 0 to
none_up_to old new n to l before behind m over under = elim (below_or m n) [
  | inl low ↦ clear_on old new l m (before m over low)
  | inr high ↦ behind m high under
]

pub returns-then-words-eq-MEMBER_WORDS-clause-finds : goal.returns-then-words-eq-MEMBER_WORDS-clause-finds
returns-then-words-eq-MEMBER_WORDS-clause-finds c =
    let k = c.clear_words-words.new.task in
    none_found k (subst (λ (n : ℕ). AreNone k 0 (WORD_BITS * n)) c.if-words-eq-MEMBER_WORDS.true
    c.clear_words-words.ensures.none)

pub returns-in-None-clause-finds : goal.returns-in-None-clause-finds
returns-in-None-clause-finds c =
    let n = WORD_BITS * c.clear_words-words.result in
    none_found c.next_set.new.task
    (none_up_to c.clear_words-words.new.task c.next_set.new.task n MEMBERS c.in-None.ensures.looks
    c.clear_words-words.ensures.none (subst (λ (x : ℕ). AreNone c.next_set.new.task x MEMBERS)
    (ap (λ (l : Looking). l.next) c.behind-looking.ensures) c.in-None.ensures.next))

pub sole_member-requires-clause-sole : goal.sole_member-requires-clause-sole
sole_member-requires-clause-sole c =
    let old = c.next_set.new.task in
    let new = c.next_set-in-Some.new.task in
    let l = c.in-None-next_set.ensures.looks in
    let from = WORD_BITS * c.clear_words-words.result in
    let n = subst (λ (x : ℕ). IsNextSet old x c.next_set.new.looking (Some c.in-Some.member))
    (ap (λ (l : Looking). l.next) c.behind-looking.ensures) c.in-Some.ensures.next in
    let before = none_up_to c.clear_words-words.new.task old from c.in-Some.member c.in-Some.ensures.looks
    c.clear_words-words.ensures.none n.2 in (
      n.1,
      λ m over under. clear_on old new l m (before m over under),
      set_on old new l c.in-Some.member n.5,
      subst (λ (x : ℕ). AreNone new x MEMBERS) n.3 c.in-None-next_set.ensures.next,
    )

pub returns-in-None-clause-looks : goal.returns-in-None-clause-looks
returns-in-None-clause-looks c = looks_on c.args.task.now c.clear_words-words.new.task c.next_set.new.task
    c.clear_words-words.ensures.looks c.in-None.ensures.looks

pub returns-in-None-next_set-clause-looks : goal.returns-in-None-next_set-clause-looks
returns-in-None-next_set-clause-looks c =
    let first = looks_on c.args.task.now c.clear_words-words.new.task c.next_set.new.task
    c.clear_words-words.ensures.looks c.in-Some.ensures.looks in
    looks_on c.args.task.now c.next_set-in-Some.new.task c.sole_member.new.task
    (looks_on c.args.task.now c.next_set.new.task c.next_set-in-Some.new.task first c.in-None-next_set.ensures.looks)
    c.sole_member.ensures.looks

pub returns-in-Some-next_set-clause-looks : goal.returns-in-Some-next_set-clause-looks
returns-in-Some-next_set-clause-looks c =
    let first = looks_on c.args.task.now c.clear_words-words.new.task c.next_set.new.task
    c.clear_words-words.ensures.looks c.in-Some.ensures.looks in
    looks_on c.args.task.now c.next_set.new.task c.next_set-in-Some.new.task first c.in-Some-next_set.ensures.looks
