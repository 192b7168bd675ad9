use Rattle.std.proofs.Common.{◌<◌, ℕ, arith, refl, subst, sym}
use Rattle.wait_model.specs.declared.layout.TheConstants.{COMPLETIONS}
use Rattle.wq_head.specs.LockTurns.{AwaitsLock}
use Rattle.completion_cell.specs.declared.cell_turns.CellCall.{CellCall}
use Rattle.completion_cell.specs.CellTurns.{HasBegunCell, cell_head, peeks_first}
use Rattle.completion_cell.proofs.CellDraws.{fits}
use Rattle.wait_tests.proofs.completions.cells.complete_in_turn.Goals as goal

pub draw_lock-requires-clause-head : goal.draw_lock-requires-clause-head
draw_lock-requires-clause-head g c = fits 2 c.head_of.result (omega arith) c.head_of.ensures

-- its ticket is drawn
pub cell_stretch-turn-requires-2-clause-at : goal.cell_stretch-turn-requires-2-clause-at
cell_stretch-turn-requires-2-clause-at g c =
    let k = c.args.other.now in
    let r = c.new-before in (
      k,
      record {
        up = c.requires.other.up;
        free = c.requires.other.free;
        there = subst (λ (n : ℕ). n < COMPLETIONS) (sym r.ensures.cell) (omega arith);
        left = c.requires.other.off r.result.cell;
        stands = record {
          told = c.told.ensures;
          base = k;
          begun = subst (λ (e : CellCall). HasBegunCell (peeks_first e) r.result.cell k k) (sym r.ensures.call_is) refl;
          awaits = subst (λ (d : ℕ). AwaitsLock k c.draw_lock.new.task (cell_head d) c.draw_lock.result)
              (sym r.ensures.cell) (subst (λ (h : ℕ). AwaitsLock k c.draw_lock.new.task h c.draw_lock.result)
              c.head_of.ensures c.draw_lock.ensures.awaits);
        };
      },
    )
