-- What looks at a merger's sides, and waits for them, leave of it.
use Rattle.std.proofs.Common.{refl, sym, ◌∙◌, ap, subst, inl, inr, arith}
use Rattle.std.proofs.lemmas.Bool.{eqb-true}
use Rattle.std.specs.Prelude.{ℕ, ◌≡◌, ◌==◌, if◌then◌else◌, Bool, true, false, List, length, take, Option, None, Some, Result, Ok, Err, IfSome}
use Rattle.wait_rule.specs.{Ends.WasWorn, Known.Known, Queues.IsIdle, Queues.index, Says.IsUp, Stays.Carries}
use Rattle.wait_rule.specs.Pipes.{End, bytes_in, moved_bytes, read_end, write_end}
use Rattle.wait_rule.specs.PipeSays.{KeepsEnd, reading, writing}
use Rattle.wait_class.specs.Posts.{IsOut}
use Rattle.wait_pipe.specs.{Pieces.IsAtEnd, Pieces.IsSettled, declared.peeks.PipeState.PipeState, PipeStates.OnlyLooked}
use Rattle.wait_pipe.specs.PipeStates.{TellsOfPipe}
use Rattle.wq_head.specs.declared.adds.Worn.{Worn}
use Rattle.poll_wait.specs.{declared.turns.Poll.Poll, declared.turns.PollEnd.PollEnd, declared.turns.Ready.Ready}
use Rattle.poll_wait.specs.Seconds.{IsSecondOut}
use Rattle.poll_wait.specs.Polls.{EndsPoll, EndsWorn, FindsNoPlace, PollGoesOn, StaysBesidePoll, loaded, poll_change}
use Rattle.poll_wait.specs.Polls.{ready_of}
use Rattle.poll_wait.specs.declared.turns.PollEnd.TheVariants as poll_end
use Rattle.poll_wait.proofs.Sides.{rest_beside}
use Rattle.copy_plan.specs.{declared.TheConstants.ENDED_CELL, declared.stop.Stop.Stop}
use Rattle.copy_plan.specs.declared.stop.Stop.TheVariants as stop
use Rattle.copy_turns.specs.Turns.{IfStopped}
use Rattle.copy_turns.specs.Work.{Apart, IsAtWork, but_ends}
use Rattle.copy_turns.proofs.PartLaws.{sums_then, works_then}
use Rattle.copy_ends.proofs.Ends.{worn_later}
use Rattle.flow_merge.specs.{declared.sides.Found.Found, declared.sides.Side.Side, Mergers.IsMergerStop}
use Rattle.flow_merge.specs.{MergerWords.found_in, MergerWords.poll_stop, Passed.side_pipe}
use Rattle.flow_merge.specs.declared.TheConstants.{LEFT_PIPE, MERGED_PIPE, RIGHT_PIPE}
use Rattle.flow_merge.specs.Sides.{BothAtEnd, IsWornStop, LookedAtSides}
use Rattle.flow_merge.specs.declared.sides.Found.TheVariants as found
use Rattle.flow_merge.specs.declared.sides.Side.TheVariants as sides

-- an end that keeps what its task knows of its own part
pub keeps_same : (e f : End) → f ≡ e → KeepsEnd e f
keeps_same e f is = record {
  mine = ap (λ (x : End). x.mine) is;
  shut = ap (λ (x : End). x.shut) is;
  count = ap (λ (x : End). x.count) is;
  before = ap (λ (x : End). x.before) is;
  cells = ap (λ (x : End). x.cells) is;
}

pub keeps_then : (e f g : End) → KeepsEnd e f → KeepsEnd f g → KeepsEnd e g
keeps_then e f g one two = record {
  mine = two.mine ∙ one.mine;
  shut = two.shut ∙ one.shut;
  count = two.count ∙ one.count;
  before = two.before ∙ one.before;
  cells = two.cells ∙ one.cells;
}

pub kept_settled : (e f : End) → KeepsEnd e f → IsSettled e → IsSettled f
kept_settled e f k s = record {
  still = record { mine = k.mine ∙ s.still.mine; unshut = k.shut ∙ s.still.unshut };
  passed = k.count ∙ (s.passed ∙ ap length (sym k.cells));
}

pub kept_moved : (e f : End) → KeepsEnd e f → moved_bytes f ≡ moved_bytes e
kept_moved e f k = ap (λ (n : ℕ). bytes_in (take n f.cells)) k.count
    ∙ ap (λ (cells : List ℕ). bytes_in (take e.count cells)) k.cells

-- one look after another
pub looked_then : (a b c : Known) → LookedAtSides a b → LookedAtSides b c → LookedAtSides a c
looked_then a b c one two = record {
  works = works_then a b c one.works two.works;
  taps = λ s. keeps_then (reading (side_pipe s) a) (reading (side_pipe s) b) (reading (side_pipe s) c) (one.taps s)
      (two.taps s);
  pen = keeps_then (writing MERGED_PIPE a) (writing MERGED_PIPE b) (writing MERGED_PIPE c) one.pen two.pen;
  sums = sums_then a b c one.sums two.sums;
  signals = two.signals ∙ one.signals;
}

-- a part that is about no pipe
pub apart_looked : (a b : Known) → Apart a b → LookedAtSides a b
apart_looked a b p = record {
  works = p.works;
  taps = λ s. keeps_same (reading (side_pipe s) a) (reading (side_pipe s) b) (p.ends (read_end (side_pipe s)));
  pen = keeps_same (writing MERGED_PIPE a) (writing MERGED_PIPE b) (p.ends (write_end MERGED_PIPE));
  sums = p.sums;
  signals = p.signals;
}

-- a look at a side
module _ (a b : Known) (work : IsAtWork a) where
  module _ (t : Side) (l : OnlyLooked (read_end (side_pipe t)) a b) (taps : (s : Side) → KeepsEnd
      (reading (side_pipe s) a) (reading (side_pipe s) b)) (pen : writing MERGED_PIPE b ≡ writing MERGED_PIPE a) where
    look_looked : LookedAtSides a b
    look_looked = record {
      works = record {
        work = record {
          up = l.up;
          idle = l.idle work.idle;
          out = l.out work.out;
          owes = l.carries.owes but_ends work.owes;
          off = l.off ENDED_CELL work.off;
        };
        domain = l.carries.domain;
        grows = l.aside.grows;
        owes = l.carries.owes;
        claims = l.aside.claims;
      };
      taps = taps;
      pen = keeps_same (writing MERGED_PIPE a) (writing MERGED_PIPE b) pen;
      sums = l.aside.sums;
      signals = l.aside.signals;
    }

  pub left_looked : OnlyLooked (read_end LEFT_PIPE) a b → LookedAtSides a b
  left_looked l = look_looked sides.Left l by (l.others (write_end MERGED_PIPE) (λ e. omega (arith, e)))
    where
      by : (s : Side) → KeepsEnd (reading (side_pipe s) a) (reading (side_pipe s) b)
      by sides.Left = l.keeps
      by sides.Right = keeps_same (reading RIGHT_PIPE a) (reading RIGHT_PIPE b)
          (l.others (read_end RIGHT_PIPE) (λ e. omega (arith, e)))

  pub right_looked : OnlyLooked (read_end RIGHT_PIPE) a b → LookedAtSides a b
  right_looked l = look_looked sides.Right l by (l.others (write_end MERGED_PIPE) (λ e. omega (arith, e)))
    where
      by : (s : Side) → KeepsEnd (reading (side_pipe s) a) (reading (side_pipe s) b)
      by sides.Left = keeps_same (reading LEFT_PIPE a) (reading LEFT_PIPE b)
          (l.others (read_end LEFT_PIPE) (λ e. omega (arith, e)))
      by sides.Right = l.keeps

  -- a wait for both
  pub second_out : IsSecondOut a
  second_out = work.owes.unqueued (index a.view.number 1)

  pub poll_looked : IsUp b → IsIdle b → IsOut b → Carries (poll_change a.view.number b.at) a b → StaysBesidePoll a b
      → LookedAtSides a b
  poll_looked up idle out c beside = record {
    works = record {
      work = record {
        up = up;
        idle = idle;
        out = out;
        owes = c.owes but_ends work.owes;
        off = beside.off ENDED_CELL work.off;
      };
      domain = c.domain;
      grows = beside.grows.grows;
      owes = c.owes;
      claims = beside.grows.claims;
    };
    taps = λ s. beside.ends (read_end (side_pipe s));
    pen = beside.ends (write_end MERGED_PIPE);
    sums = beside.grows.sums;
    signals = beside.grows.signals;
  }

-- a side that was at its end before the other one was looked at
pub still_at_end : (e f : End) → f ≡ e → IsAtEnd e → IsAtEnd f
still_at_end e f is at_end = record {
  ended = ap (λ (x : End). x.ended) is ∙ at_end.ended;
  all = ap (λ (x : End). x.count) is ∙ (at_end.all ∙ sym (ap (λ (x : End). x.seen) is));
}

-- why a wait for both stopped a merger
pub worn_cause : (a b : Known) (how : Option Stop) → IfSome how (IsWornStop b) → IfStopped how (IsMergerStop a b)
worn_cause a b None is = tt
worn_cause a b (Some (stop.Worn h p)) is = is
worn_cause a b (Some stop.Finished) is = absurd is
worn_cause a b (Some stop.Broken) is = absurd is
worn_cause a b (Some stop.Killed) is = absurd is
worn_cause a b (Some stop.Taken) is = absurd is
worn_cause a b (Some stop.ReadFault) is = absurd is
worn_cause a b (Some stop.WriteFault) is = absurd is
worn_cause a b (Some stop.Memory) is = absurd is
worn_cause a b (Some stop.Long) is = absurd is

-- what both looks showed where they found both ends
pub record BothClosed (l r : PipeState) : Type 0 where
  pub left_none : l.cells ≡ 0
  pub right_none : r.cells ≡ 0
  pub left_closed : l.closed ≡ true
  pub right_closed : r.closed ≡ true

both_closed : (l r : PipeState) → found_in l r ≡ found.Ended → BothClosed l r
both_closed l r is = by (l.cells == 0) (r.cells == 0) l.closed r.closed refl refl refl refl is
  where
    by : (a b c d : Bool) → (l.cells == 0) ≡ a → (r.cells == 0) ≡ b → l.closed ≡ c → r.closed ≡ d
        → (if a then (if b then (if c then (if d then found.Ended else found.Nothing l.word r.word)
        else found.Nothing l.word r.word) else found.Cells sides.Right) else found.Cells sides.Left) ≡ found.Ended
        → BothClosed l r
    by true true true true e f g h is = record {
      left_none = eqb-true l.cells 0 e;
      right_none = eqb-true r.cells 0 f;
      left_closed = g;
      right_closed = h;
    }
    by true true true false e f g h is = absurd (cc)
    by true true false d e f g h is = absurd (cc)
    by true false c d e f g h is = absurd (cc)
    by false b c d e f g h is = absurd (cc)

pub found_ended : (mid new : Known) (l r : PipeState) (f : Found) → f ≡ found_in l r → TellsOfPipe LEFT_PIPE mid l
    → TellsOfPipe RIGHT_PIPE new r → OnlyLooked (read_end RIGHT_PIPE) mid new → f ≡ found.Ended → BothAtEnd new
found_ended mid new l r f is one two looked ended =
    let both = both_closed l r (sym is ∙ ended) in (
      still_at_end (reading LEFT_PIPE mid) (reading LEFT_PIPE new)
          (looked.others (read_end LEFT_PIPE) (λ e. omega (arith, e)))
          (one.at_end both.left_none both.left_closed),
      two.at_end both.right_none both.right_closed,
    )

-- The note of a head that had no place left stays in the task's list up to the end of the call.
no_place_noted : (p : Poll) (old new : Known) (e : Worn) → FindsNoPlace p old new e
    → WasWorn new.view.number new.view.items e.head e.place
no_place_noted p old new e (inl x) = x.3
no_place_noted p old new e (inr x) = x.second.3

worn_last : (p : Poll) (a b : Known) (h pl : ℕ) → EndsWorn p a b (record { head = h; place = pl })
    → WasWorn b.view.number b.view.items h pl
worn_last p a b h pl x = worn_later x.queued b h pl (rest_beside p x.queued b x.loads x.leaves).aside.grows
    (no_place_noted p a x.queued (record { head = h; place = pl }) x.queues)

pub poll_worn : (a b : Known) (p : Poll) (result : Result Ready PollEnd) (how : Option Stop) → how ≡ poll_stop result
    → EndsPoll p a b result → IfSome how (IsWornStop b)
poll_worn a b p (Ok r) how is ends = subst (λ (h : Option Stop). IfSome h (IsWornStop b)) (sym is) tt
poll_worn a b p (Err (poll_end.Signal first second)) how is ends =
    subst (λ (h : Option Stop). IfSome h (IsWornStop b)) (sym is) tt
poll_worn a b p (Err (poll_end.Worn h pl)) how is ends =
    subst (λ (s : Option Stop). IfSome s (IsWornStop b)) (sym is)
    (by (ready_of p ends.loads) (loaded p ends.loads a) ends.goes)
  where
    by : (o : Option Ready) (k : Known) → PollGoesOn p o k b (Err (poll_end.Worn h pl))
        → WasWorn b.view.number b.view.items h pl
    by (Some r) k goes = let e : Err (poll_end.Worn h pl) ≡ Ok r = goes.1 in absurd (cc)
    by None k goes = worn_last p goes.last b h pl goes.ends
