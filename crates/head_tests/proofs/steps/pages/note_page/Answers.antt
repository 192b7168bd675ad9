use Rattle.std.proofs.Common.{◌∙◌, ◌≡◌, ℕ, ap, sym, Some}
use Rattle.wait_model.specs.declared.steps.Step.TheVariants as step
use Rattle.wait_model.specs.Views.{View as Told}
use Rattle.wait_rule.specs.declared.journal.Item.TheVariants as item
use Rattle.wait_rule.specs.{Asked.was_given_at, Known.Known, Queues.index, Queues.saw}
use Rattle.wait_rule.specs.Says.{added, asks_for, told_of}
use Rattle.wait_rule.proofs.{KnownLaws.AfterSteps.told_added, WorkedTests.HandedPage.given_found}
use Rattle.head_tests.proofs.steps.pages.note_page.Goals as goal

pub page_note-requires-clause-given : goal.page_note-requires-clause-given
page_note-requires-clause-given c =
    let k = c.args.task.now in
    let f = c.flag_load-found.new.task in
    let v = c.entry_load.result.0 in
    let x = index k.view.number 0 in
    let seen : c.entry_load.new.task ≡ added k (item.Made (saw k.book.head x v)) = c.entry_load.ensures.step
    ∙ ap (λ (n : ℕ). added k (item.Made (saw k.book.head (index n 0) v))) c.number-me.ensures.number in
    ap (λ (n : ℕ). was_given_at (index n 0) (asks_for f)) (c.flag_load-found.ensures.carries.number
    ∙ c.entry_load.ensures.carries.number)
    ∙ given_found k c.entry_load.new.task f x c.args.word v _ _ c.requires.idle.free.head seen
    (sym c.queued.ensures ∙ c.if-queued.false) c.flag_load-found.ensures.step c.requires.waits

pub returns-clause-stays : goal.returns-clause-stays
returns-clause-stays c =
    let e = c.entry_load.ensures.carries in
    let f = c.flag_load-found.ensures.carries in
    let n = c.page_note.ensures.step in
    let l = c.flag_load-found.new.task in
    let idle = c.requires.idle in
    record {
      domain = ap (λ (z : Known). z.domain) n ∙ (f.domain ∙ e.domain);
      number = ap (λ (z : Known). z.view.number) n ∙ (f.number ∙ e.number);
      up = ap (λ (z : Known). z.book.awake) n ∙ (f.awake ∙ (e.awake ∙ c.requires.up));
      idle = record {
        running = ap (λ (z : Known). z.book.state) n ∙ (f.state ∙ (e.state ∙ idle.running));
        free = record {
          head = ap (λ (z : Known). z.book.head) n ∙ (f.head ∙ (e.head ∙ idle.free.head));
          ticket = ap (λ (z : Known). z.book.ticket) n ∙ (f.ticket ∙ (e.ticket ∙ idle.free.ticket));
        };
        unmarked = ap (λ (z : Known). (told_of z).mark) n
            ∙ (ap (λ (v : Told). v.mark) (told_added l (item.Made
            (step.Unflag (index l.view.number 0) (Some c.args.word))))
            ∙ (f.mark ∙ (e.mark ∙ idle.unmarked)));
      };
    }
