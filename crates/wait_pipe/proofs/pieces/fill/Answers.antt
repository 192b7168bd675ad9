use Rattle.std.proofs.Common.{◌<◌, ◌≤◌, ◌∙◌, ◌+◌, ◌⊎◌, inl, inr, add-zero, arith, length, subst, sym}
use Rattle.std.specs.Prelude.{ℕ, ◌≡◌, ◌+◌, ◌*◌}
use Rattle.wait_model.specs.declared.layout.TheConstants.{PIPE_ENDS}
use Rattle.wait_model.specs.declared.watches.Watch.TheVariants as watch
use Rattle.wait_rule.specs.{Pipes.write_end, Stays.Carries, Stays.publish_change}
use Rattle.wait_rule.proofs.KnownLaws.CarriedTasks.{unchanged_first}
use Rattle.wait_pipe.specs.Pieces.{LeavesAside}
use Rattle.wait_pipe.proofs.{Asides.quiet_on, Asides.quiet_publish, PieceChanges.leaves_made}
use Rattle.wait_pipe.proofs.Fills.{advanced_write, fill_cells, fill_ended, fill_ends, fill_full, fill_goes, fill_stores}
use Rattle.wait_pipe.proofs.pieces.fill.Goals.{then-bytes-done-lt7, else-bytes-done-lt7}
use Rattle.wait_pipe.proofs.pieces.fill.Goals.{then-loop-left-test+else-done-bytes, else-loop-left-test}
use Rattle.wait_pipe.proofs.pieces.fill.Goals as goal

pub loop-left-preserved : goal.loop-left-preserved
loop-left-preserved c =
    let done_few = c.if-done-bytes.true in
    let low : c.loop-left.done < c.if-bytes-done-lt7.end = elim c.if-bytes-done-lt7.branch [
      | then-bytes-done-lt7 w ↦ let e = w.end-is in omega arith
      | else-bytes-done-lt7 w ↦ let e = w.end-is in omega arith
    ] in
    let high : c.if-bytes-done-lt7.end ≤ length c.args.bytes.now = elim c.if-bytes-done-lt7.branch [
      | then-bytes-done-lt7 w ↦ let e = w.end-is in omega arith
      | else-bytes-done-lt7 w ↦ let e = w.end-is in let k = w.if-bytes-done-lt7 in omega arith
    ] in
    let most : c.if-bytes-done-lt7.end ≤ c.loop-left.done + 7 = elim c.if-bytes-done-lt7.branch [
      | then-bytes-done-lt7 w ↦ let e = w.end-is in let k = w.if-bytes-done-lt7 in omega arith
      | else-bytes-done-lt7 w ↦ let e = w.end-is in omega arith
    ] in
    let ends : (c.if-bytes-done-lt7.end ≡ c.loop-left.done + 7) ⊎ (c.if-bytes-done-lt7.end ≡ length c.args.bytes.now) =
    elim c.if-bytes-done-lt7.branch [
      | then-bytes-done-lt7 w ↦ inr w.end-is
      | else-bytes-done-lt7 w ↦ inl w.end-is
    ] in
    fill_goes c.args.pipe c.args.task.now c.loop-left.task c.cell_store.new.task c.args.bytes.now c.loop-left.at
    c.loop-left.left c.loop-left.done c.if-bytes-done-lt7.end c.pack.result c.loop-left.invariant
    c.loop-left-test.true low high most ends c.pack.ensures.bytes c.cell_store.ensures.step
    c.cell_store.ensures.becomes c.cell_store.ensures.carries

pub returns-clause-filled : goal.returns-clause-filled
returns-clause-filled c = λ last r.
    let made = c.advance.ensures.step in
    let step = advanced_write c.args.pipe c.loop-left.task c.advance.new.task c.advance.ensures.becomes in
    let none : c.loop-left.done < length c.args.bytes.now → c.loop-left.left ≡ 0 = λ few.
    elim c.loop-left-test.branch [
      | then-loop-left-test+else-done-bytes w ↦ let all = w.if-done-bytes in absurd (omega arith)
      | else-loop-left-test w ↦ let none = w.loop-left-test in omega arith
    ] in
    let some_bytes = c.requires.bytes in
    let some_done = c.loop-left.invariant.some_done in
    let some : 0 < c.loop-left.done = elim c.loop-left-test.branch [
      | then-loop-left-test+else-done-bytes w ↦ let all = w.if-done-bytes in omega arith
      | else-loop-left-test w ↦ let none_left = w.loop-left-test in omega arith
    ] in
    let passes = subst (LeavesAside c.loop-left.task) (sym made.1)
    (quiet_publish c.loop-left.task (PIPE_ENDS * c.args.pipe + 0) 0 (2 * c.loop-left.at) made.0) in record {
      moved = fill_ends c.args.pipe c.args.task.now c.loop-left.task c.advance.new.task last c.args.bytes.now
          c.loop-left.at c.loop-left.left c.loop-left.done c.requires.settled c.loop-left.invariant step r.others r.own;
      ended = fill_ended c.args.pipe c.args.task.now c.loop-left.task c.advance.new.task last c.args.bytes.now
          c.loop-left.at c.loop-left.left c.loop-left.done c.loop-left.invariant step r.own;
      cells = fill_cells c.args.pipe c.args.task.now c.loop-left.task c.advance.new.task last c.args.bytes.now
          c.loop-left.at c.loop-left.left c.loop-left.done c.requires.settled c.loop-left.invariant step r.own;
      full = λ few. fill_full c.args.pipe c.args.task.now c.loop-left.task c.advance.new.task last c.args.bytes.now
          c.loop-left.at c.loop-left.left c.loop-left.done c.loop-left.invariant step r.own (none few);
      rests = leaves_made (λ x. x) (write_end c.args.pipe) c.args.task.now c.advance.new.task last
          r.up c.requires.ready.idle r.idle c.requires.ready.out
          (c.told.ensures.head ∙ c.requires.ready.idle.free.head)
          (unchanged_first (publish_change (watch.Var (write_end c.args.pipe) 0)) c.args.task.now c.loop-left.task c.advance.new.task
          c.loop-left.invariant.same (subst (λ (k : ℕ). Carries (publish_change (watch.Var k 0)) c.loop-left.task
          c.advance.new.task) (add-zero (PIPE_ENDS * c.args.pipe)) c.advance.ensures.carries)) r.carries
          (quiet_on c.args.task.now c.loop-left.task last c.loop-left.invariant.quiet
          (quiet_on c.loop-left.task c.advance.new.task last passes r.quiet));
      stores = fill_stores c.args.pipe (PIPE_ENDS * c.args.pipe + 0) c.args.task.now c.loop-left.task
          c.advance.new.task last c.args.bytes.now c.loop-left.at c.loop-left.left c.loop-left.done made.0
          r.walked c.requires.settled c.loop-left.invariant made.1 (add-zero (PIPE_ENDS * c.args.pipe)) some none
          r.wakes;
    }
