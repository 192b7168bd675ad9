use Rattle.std.proofs.Common.{sym, ◌+◌, arith, refl}
use Rattle.wait_script.proofs.LineCuts.{stops, one_more, all_words, rest_from}
use Rattle.wait_script.proofs.words.split.Goals as goal

pub returns-then-rest-end-ne32-clause-plain : goal.returns-then-rest-end-ne32-clause-plain
returns-then-rest-end-ne32-clause-plain c =
    sym (stops c.args.line.now c.words.words.items c.words.rest.now c.words.invariant.cut c.in-Some.end
    (sym c.in-Some.ensures.first) c.if-rest-end-ne32.true)

pub words-preserved : goal.words-preserved
words-preserved c = record {
  cut = rw c.in_ok-push.ensures.items
      (one_more c.args.line.now c.words.words.items c.words.rest.now c.words.invariant.cut c.in-Some.end _ _
      (sym c.in-Some.ensures.first) c.if-rest-end-ne32.false refl
      (rest_from c.words.rest.now (c.in-Some.end + 1)));
  short = search arith;
}

pub returns-clause-plain : goal.returns-clause-plain
returns-clause-plain c = (all_words c.args.line.now c.words.words.items c.words.rest.now c.words.invariant.cut
    c.words.rest (sym c.in_default.ensures.first) refl).1

pub returns-clause-words : goal.returns-clause-words
returns-clause-words c = λ t. rw c.in_ok-push-2.ensures.items
    (all_words c.args.line.now c.words.words.items c.words.rest.now c.words.invariant.cut c.words.rest
    (sym c.in_default.ensures.first) refl).0
