-- A stretch of a wait for a page: the call has come on from where it began, or it is over, and its task ready.
use Rattle.std.proofs.Common.{refl, subst}
use Rattle.std.specs.Prelude.{◌≡◌, ◌||◌, Bool, true, false}
use Rattle.wait_model.specs.declared.watches.Watch.{Watch}
use Rattle.wait_model.specs.declared.watches.Watch.TheVariants as watch
use Rattle.wait_rule.specs.{Bits.taken_bits, Known.Known}
use Rattle.wait_class.specs.declared.stages.Turn.TheVariants as turn
use Rattle.page_lock.specs.{PageStays.TakesPage, declared.waits.LockPage.LockPage}
use Rattle.page_lock.specs.declared.waits.PageOutcome.{PageOutcome}
use Rattle.page_lock.specs.PageLeaves.{page_exits, page_failed, page_until, takes_page_until}
use Rattle.page_lock.specs.PageTables.{PageTurn, is_page_over, page_table}
use Rattle.page_lock.specs.declared.waits.PageOutcome.TheVariants as outcome
use Rattle.page_lock.specs.declared.waits.PageStage.TheVariants as stage
use Rattle.page_lock.proofs.PageLaws.{page_lawful}
use Rattle.page_lock.proofs.PageLeaving.{leaves_page, left_asked, left_idle, left_takes, left_up, page_may_leave}
use Rattle.wq_checked.specs.{Stages.HasComeBy, Stages.PageRun, Calls.CameFrom, Advancing.page_kind, Kinds.IsLawfulKind}
use Rattle.wq_checked.specs.{declared.calls.Running.Running, declared.kept_bits.KeptBits.KeptBits}
use Rattle.wq_checked.specs.Kept.{IsReadyWith, but_kept, keeps_in}
use Rattle.wq_checked.proofs.{LowWays.way_off, WayTurns.come_lands, WayTurns.come_stayed, Elsewhere.bit_low}
use Rattle.wq_checked.proofs.KindTurns.{Comes, bare_origin, lawful_kind}
use Rattle.wq_checked.proofs.Readiness.{keeps_more, owes_more_bits, ready_out}
use Rattle.wq_checked.specs.declared.calls.Running.TheVariants as running

-- whether the page was taken, by how the call ended
failed_is : (b : Bool) (e : LockPage) → takes_page_until (page_failed b e) ≡ false
failed_is true e = refl
failed_is false e = refl

took_is : (q : PageRun) (o : PageOutcome) → takes_page_until (page_until q.of o) ≡ is_page_over o
took_is q outcome.Over = refl
took_is q outcome.Interrupted = failed_is q.of.asked q.of
took_is q outcome.Worn = refl

-- a wait that is over leaves a ready task, which keeps the page where it got it
pub page_ready : (ks more : KeptBits) (may : Bool) (start new : Known) (f q : PageRun) (o : PageOutcome)
    → ((d : Watch) → keeps_in more d ≡ (taken_bits (watch.Bit f.of.page 0) (is_page_over o) d || keeps_in ks d))
    → IsReadyWith ks start → HasComeBy may page_table page_exits start new f q stage.First (turn.Done o) → IsReadyWith more new
page_ready ks more may start new f q o notes r a =
    let over = come_lands page_table page_exits page_may_leave page_lawful may start new f q stage.First (turn.Done o) a in
    let t = subst (λ (g : Bool). TakesPage start new f.of.page g) (took_is q o)
    (left_takes (may ≡ true) start new f q stage.First o a.way refl f.of.page refl r.up r.idle (ready_out ks start r)
    r.told) in
    record {
      up = left_up (may ≡ true) start new f q stage.First o a.way;
      idle = left_idle (may ≡ true) start new f q stage.First o a.way r.idle.unmarked;
      told = over.stands.told;
      keeps = keeps_more ks more start new f.of.page 0 (is_page_over o) notes t.stays.keeps t.keeps r.keeps;
      owes = owes_more_bits ks more (taken_bits (watch.Bit f.of.page 0) (is_page_over o)) new notes
          (t.owes (but_kept ks) r.owes);
      off = λ d. way_off (may ≡ true) page_table page_exits page_may_leave page_lawful start f stage.First
          (λ y. bit_low f.of.page 0) new q (turn.Done o) a.way r.told d (r.off d);
    }

-- how it began and ends, by where it has come to
page_comes : (may : Bool) (start : Known) (first : Running) (k : Known) (q : PageRun) (u : PageTurn)
    → CameFrom may start first k (running.Page q u)
    → Comes page_table page_exits page_kind stage.First may start first k q u
page_comes may start (running.Page f from) k q u c = (
  bare_origin page_table page_exits page_kind stage.First start (running.Page f from) f (λ ks b. b) (λ ks r. r) (λ by new p v a. a)
      (λ by mid new p o a h.
      let e = come_stayed page_table page_exits by start mid new f p stage.First (turn.Done o) h a in record {
        result = page_until p.of o;
        leaves = leaves_page (by ≡ true) start new f p stage.First o e.way;
        asked = left_asked (by ≡ true) start new f p stage.First o e.way e.unasked;
        answers = refl;
      })
      (λ ks more mid new p o notes r a h. page_ready ks more true start new f p o notes r
      (come_stayed page_table page_exits true start mid new f p stage.First (turn.Done o) h a)),
  c,
)
page_comes may start first k q u c = absurd c

pub page_turns : IsLawfulKind page_table page_exits page_kind
page_turns = lawful_kind page_table page_exits page_may_leave page_lawful page_kind stage.First page_comes
    (λ q u. refl) (λ k q u a. a) (λ k q u a. a) (λ ks k q u a. a) (λ ks k q u a. a) (λ old new r last now p a. a)
