-- The whole work of a merger.
use Rattle.std.proofs.Common.{refl, sym, ◌∙◌, ap, subst, inl, inr, zero-add, arith}
use Rattle.std.proofs.lemmas.Bool.{false≢true}
use Rattle.std.specs.Prelude.{ℕ, ◌≡◌, ◌≢◌, ◌==◌, ◌%◌, ◌^◌, ◌++◌, ◌&&◌, Bool, true, false, if◌then◌else◌, [], Some}
use Rattle.wait_rule.specs.declared.journal.EndAct.TheVariants as act
use Rattle.wait_rule.specs.declared.journal.Item.TheVariants as item
use Rattle.wait_rule.specs.{Aside.Grows, Aside.signals_of, Known.Known, Stays.Carries, Stays.claim_change}
use Rattle.wait_rule.specs.Tallies.{amounts_of}
use Rattle.wait_rule.specs.Pipes.{End, closed, moved_bytes, new_end, read_end, write_end}
use Rattle.wait_rule.specs.PipeSays.{EndBecomes, end_at, reading}
use Rattle.wait_rule.specs.Says.{Excuse, OwesBut, OwesNothing, added, no_excuse}
use Rattle.wait_pipe.specs.Pieces.{IsAtEnd, IsSettled}
use Rattle.copy_plan.specs.{declared.stop.Stop.Stop, declared.stop.WorkerEnd.WorkerEnd}
use Rattle.copy_plan.specs.declared.stop.Stop.TheVariants as stop
use Rattle.copy_turns.specs.Work.{IsAtWork}
use Rattle.copy_turns.proofs.PartLaws.{counted_none, counted_sums, grows_same, grows_then, sums_counted, sums_then, took_later}
use Rattle.copy_turns.proofs.Stopping.{taken_map, untaken}
use Rattle.copy_ends.specs.Did.{IsIdler, Refused, Served}
use Rattle.copy_ends.proofs.Ends.{Closes, Finishes, Leaves, end_closed, fails, opens, refused_later, works_idler, worn_later}
use Rattle.flow_merge.specs.{declared.merger.Has.Has, declared.sides.Side.Side}
use Rattle.flow_merge.specs.declared.TheConstants.{LEFT_PIPE, MERGED_PIPE, RIGHT_PIPE}
use Rattle.flow_merge.specs.Mergers.{HasEnds, IsMergerStop, LacksEnd, MergerDid, MergerWorked, Merging}
use Rattle.flow_merge.specs.MergerSteps.{Claimed, HoldsOpen, MergesIf, OpensEnds, RestStays, Shut, ShutsEnds, with_if}
use Rattle.flow_merge.specs.Passed.{read_of, sent_of, side_pipe}
use Rattle.flow_merge.specs.declared.sides.Side.TheVariants as sides
use Rattle.flow_merge.proofs.Turns.{merger_before, passed_none}

abbrev left : ℕ
left = read_end LEFT_PIPE

abbrev right : ℕ
right = read_end RIGHT_PIPE

abbrev pen : ℕ
pen = write_end MERGED_PIPE

rests_of : (a b : Known) → Leaves a b → RestStays a b
rests_of a b l = record { domain = l.domain; grows = l.grows; sums = l.sums; signals = l.signals }

rests_then : (a b c : Known) → RestStays a b → RestStays b c → RestStays a c
rests_then a b c one two = record {
  domain = two.domain ∙ one.domain;
  grows = grows_then a b c one.grows two.grows;
  sums = sums_then a b c one.sums two.sums;
  signals = two.signals ∙ one.signals;
}

-- a claim, and a close
pub claimed : (k found : ℕ) (got : Bool) (old new : Known) → new ≡ added old (item.Piped k act.Claim found)
    → Carries (claim_change k got) old new → IsAtWork old → got ≡ (found == 0)
    → EndBecomes k old new (if got then new_end else end_at k old) → Claimed k got old new
claimed k found true old new is c work tells becomes =
    let o = opens k found true old new is c work refl becomes in
    record {
      rests = rests_of old new o.leaves;
      work = o.work;
      owes = o.owes;
      becomes = becomes;
      refused = λ e. absurd (false≢true (sym e));
    }
claimed k found false old new is c work tells becomes =
    let o = fails k found false old new is c work refl tells becomes in
    record {
      rests = rests_of old new o.leaves;
      work = o.work;
      owes = o.owes;
      becomes = becomes;
      refused = λ e. o.refused;
    }

pub shut_end : (k : ℕ) (old new : Known) → Closes k old new → Shut k true old new
shut_end k old new q = record {
  rests = rests_of old new q.leaves;
  work = q.work;
  owes = q.owes;
  own = q.own;
  others = q.others;
  claims = q.claims;
}

-- what stays of an end that was closed where it was had
shut_moved : (got : Bool) (e f : End) → f ≡ (if got then closed e else e) → moved_bytes f ≡ moved_bytes e
shut_moved true e f is = ap moved_bytes is
shut_moved false e f is = ap moved_bytes is

shut_ended : (got : Bool) (e f : End) → f ≡ (if got then closed e else e) → e.ended ≡ true → f.ended ≡ true
shut_ended true e f is ended = ap (λ (x : End). x.ended) is ∙ ended
shut_ended false e f is ended = ap (λ (x : End). x.ended) is ∙ ended

shut_at_end : (got : Bool) (e f : End) → f ≡ (if got then closed e else e) → IsAtEnd e → IsAtEnd f
shut_at_end true e f is at_end = subst IsAtEnd (sym is) (end_closed e at_end)
shut_at_end false e f is at_end = subst IsAtEnd (sym is) at_end

-- why it stopped, told later
merger_later : (a b c : Known) → Grows b c → ((s : Side) → IsAtEnd (reading (side_pipe s) b)
    → IsAtEnd (reading (side_pipe s) c)) → ((end_at pen b).ended ≡ true → (end_at pen c).ended ≡ true) → (how : Stop)
    → IsMergerStop a b how → IsMergerStop a c how
merger_later a b c g at_end ended stop.Finished is = (at_end sides.Left is.0, at_end sides.Right is.1)
merger_later a b c g at_end ended stop.Broken is = ended is
merger_later a b c g at_end ended stop.Killed is = took_later a b c is g
merger_later a b c g at_end ended stop.Taken is = absurd is
merger_later a b c g at_end ended stop.ReadFault is = absurd is
merger_later a b c g at_end ended stop.WriteFault is = absurd is
merger_later a b c g at_end ended stop.Memory is = absurd is
merger_later a b c g at_end ended stop.Long is = absurd is
merger_later a b c g at_end ended (stop.Worn h p) is = worn_later b c h p g is

not_taken : (a b : Known) (how : Stop) → IsMergerStop a b how → how ≢ stop.Taken
not_taken a b how is e = subst (IsMergerStop a b) e is

pub all_true : (x y z : Bool) → (x && (y && z)) ≡ true → (x ≡ true) × (y ≡ true) × (z ≡ true)
all_true true true true e = (refl, refl, refl)
all_true false y z e = absurd (false≢true e)
all_true true false z e = absurd (false≢true e)
all_true true true false e = absurd (false≢true e)

-- The ends as they were claimed.
module _ (a b : Known) (has : Has) (o : OpensEnds a b has) where
  left_claimed : end_at left b ≡ (if has.left then new_end else end_at left a)
  left_claimed = o.pen.becomes.others left (λ e. omega (arith, e))
      ∙ (o.right.becomes.others left (λ e. omega (arith, e)) ∙ o.left.becomes.own)

  right_claimed : end_at right b ≡ (if has.right then new_end else end_at right a)
  right_claimed = o.pen.becomes.others right (λ e. omega (arith, e)) ∙ (o.right.becomes.own
      ∙ ap (λ (e : End). if has.right then new_end else e) (o.left.becomes.others right (λ e. omega (arith, e))))

  pen_claimed : end_at pen b ≡ (if has.pen then new_end else end_at pen a)
  pen_claimed = o.pen.becomes.own ∙ ap (λ (e : End). if has.pen then new_end else e)
      (o.right.becomes.others pen (λ e. omega (arith, e)) ∙ o.left.becomes.others pen (λ e. omega (arith, e)))

  -- an end that was just had
  module _ (got : Bool) (e f : End) (is : e ≡ (if got then new_end else f)) (hit : got ≡ true) where
    new_settled : IsSettled e
    new_settled = subst IsSettled (sym (is ∙ ap (λ (x : Bool). if x then new_end else f) hit)) (record {
      still = record { mine = refl; unshut = refl };
      passed = refl;
    })

  left_settled : has.left ≡ true → IsSettled (end_at left b)
  left_settled = new_settled has.left (end_at left b) (end_at left a) left_claimed

  right_settled : has.right ≡ true → IsSettled (end_at right b)
  right_settled = new_settled has.right (end_at right b) (end_at right a) right_claimed

  pub pen_settled : has.pen ≡ true → IsSettled (end_at pen b)
  pen_settled = new_settled has.pen (end_at pen b) (end_at pen a) pen_claimed

  pub taps_settled : has.left ≡ true → has.right ≡ true → (s : Side) → IsSettled (reading (side_pipe s) b)
  taps_settled l r sides.Left = left_settled l
  taps_settled l r sides.Right = right_settled r

  pub still_open : (c : Known) (ended : WorkerEnd) → MergesIf (has.left && (has.right && has.pen)) b c ended
      → HoldsOpen c has
  still_open c ended t = by (has.left && (has.right && has.pen)) t
    where
      as_opened : HoldsOpen b has
      as_opened = record {
        left = λ e. (left_settled e).still;
        right = λ e. (right_settled e).still;
        pen = λ e. (pen_settled e).still;
      }

      by : (x : Bool) → MergesIf x b c ended → HoldsOpen c has
      by true t = record {
        left = λ e. (t.taps sides.Left).still;
        right = λ e. (t.taps sides.Right).still;
        pen = λ e. t.pen.still;
      }
      by false t = subst (λ (k : Known). HoldsOpen k has) (sym t.0) as_opened

-- The ends were claimed, something was done, and those were closed that it has.
module _ (a b c d : Known) (has : Has) (o : OpensEnds a b has) (q : ShutsEnds c d has) (idler : IsIdler a) where
  before : RestStays a b
  before = rests_then a o.one b o.left.rests (rests_then o.one o.two b o.right.rests o.pen.rests)

  behind : RestStays c d
  behind = rests_then c q.one d q.pen.rests (rests_then q.one q.two d q.right.rests q.left.rests)

  settled : ((x : Excuse) → OwesBut x b → OwesBut x c) → OwesNothing d
  settled between = q.left.owes no_excuse (q.right.owes (with_if left has.left no_excuse)
      (q.pen.owes (with_if right has.right (with_if left has.left no_excuse))
      (between (with_if pen has.pen (with_if right has.right (with_if left has.left no_excuse)))
      (o.pen.owes (with_if right has.right (with_if left has.left no_excuse))
      (o.right.owes (with_if left has.left no_excuse) (o.left.owes no_excuse idler.clean.settled))))))

  -- the ends in the end
  claims_behind : (j : ℕ) → (end_at j d).mine ≡ (end_at j c).mine
  claims_behind j = q.left.claims j ∙ (q.right.claims j ∙ q.pen.claims j)

  left_is : end_at left d ≡ (if has.left then closed (end_at left c) else end_at left c)
  left_is = q.left.own ∙ ap (λ (e : End). if has.left then closed e else e)
      (q.right.others left (λ e. omega (arith, e)) ∙ q.pen.others left (λ e. omega (arith, e)))

  right_is : end_at right d ≡ (if has.right then closed (end_at right c) else end_at right c)
  right_is = q.left.others right (λ e. omega (arith, e)) ∙ (q.right.own
      ∙ ap (λ (e : End). if has.right then closed e else e) (q.pen.others right (λ e. omega (arith, e))))

  pen_is : end_at pen d ≡ (if has.pen then closed (end_at pen c) else end_at pen c)
  pen_is = q.left.others pen (λ e. omega (arith, e)) ∙ (q.right.others pen (λ e. omega (arith, e)) ∙ q.pen.own)

  -- and as they were claimed
  left_was : end_at left b ≡ (if has.left then new_end else end_at left a)
  left_was = left_claimed a b has o

  right_was : end_at right b ≡ (if has.right then new_end else end_at right a)
  right_was = right_claimed a b has o

  pen_was : end_at pen b ≡ (if has.pen then new_end else end_at pen a)
  pen_was = pen_claimed a b has o

  pub served : ((x : Excuse) → OwesBut x b → OwesBut x c) → c.domain ≡ b.domain → Grows b c → Served a d
  served between domain grows = record {
    idler = works_idler d q.left.work (settled between);
    domain = behind.domain ∙ (domain ∙ before.domain);
    grows = grows_then a b d before.grows (grows_then b c d grows behind.grows);
  }

  claims_all : ((j : ℕ) → (end_at j c).mine ≡ (end_at j b).mine) → (j : ℕ) → j ≢ left → j ≢ right → j ≢ pen
      → (end_at j d).mine ≡ (end_at j a).mine
  claims_all between j one two three = claims_behind j ∙ (between j ∙ ap (λ (e : End). e.mine)
      (o.pen.becomes.others j three ∙ (o.right.becomes.others j two ∙ o.left.becomes.others j one)))

  -- turns of it went up to a stop
  module _ (l : has.left ≡ true) (r : has.right ≡ true) (w : has.pen ≡ true) (m : ℕ) (how : Stop)
      (t : Merging b c 0 m (Some how)) where
    taps_new : (s : Side) → moved_bytes (reading (side_pipe s) b) ≡ []
    taps_new sides.Left = ap moved_bytes (left_was ∙ ap (λ (x : Bool). if x then new_end else end_at left a) l)
    taps_new sides.Right = ap moved_bytes (right_was ∙ ap (λ (x : Bool). if x then new_end else end_at right a) r)

    pen_new : moved_bytes (end_at pen b) ≡ []
    pen_new = ap moved_bytes (pen_was ∙ ap (λ (x : Bool). if x then new_end else end_at pen a) w)

    taps_moved : (s : Side) → moved_bytes (reading (side_pipe s) d) ≡ moved_bytes (reading (side_pipe s) c)
    taps_moved sides.Left = shut_moved has.left (end_at left c) (end_at left d) left_is
    taps_moved sides.Right = shut_moved has.right (end_at right c) (end_at right d) right_is

    taps_ended : (s : Side) → IsAtEnd (reading (side_pipe s) c) → IsAtEnd (reading (side_pipe s) d)
    taps_ended sides.Left = shut_at_end has.left (end_at left c) (end_at left d) left_is
    taps_ended sides.Right = shut_at_end has.right (end_at right c) (end_at right d) right_is

    whole_cause : IsMergerStop a d how
    whole_cause = merger_later a c d behind.grows taps_ended
        (shut_ended has.pen (end_at pen c) (end_at pen d) pen_is) how (merger_before a b c before.grows how t.cause)

    pub merger_did : MergerWorked a d (record { stop = how; moved = m })
    merger_did = record {
      served = served t.works.owes t.works.domain t.works.grows;
      claims = claims_all t.works.claims;
      taken = untaken how (LacksEnd a d) (HasEnds d) (λ i. absurd (not_taken b c how t.cause i)) (record {
        taps = λ s. claims_behind (read_end (side_pipe s)) ∙ (t.taps s).still.mine;
        pen = claims_behind pen ∙ t.pen.still.mine;
      });
      passed = t.passed;
      got = untaken how (Unit {0}) ((s : Side) → moved_bytes (reading (side_pipe s) d) ≡ read_of s t.passed) (λ i. tt)
          (λ s. taps_moved s ∙ (t.taken s ∙ ap (λ xs. xs ++ read_of s t.passed) (taps_new s)));
      sent = untaken how (Unit {0}) (moved_bytes (end_at pen d) ≡ sent_of t.passed) (λ i. tt)
          (shut_moved has.pen (end_at pen c) (end_at pen d) pen_is
          ∙ (t.sent ∙ ap (λ xs. xs ++ sent_of t.passed) pen_new));
      all = t.all;
      n = t.n;
      counted = counted_sums t.n a c d (sums_counted t.n a b c before.sums t.counted) behind.sums;
      counts = t.counts;
      moved = t.sum ∙ ap (λ (k : ℕ). k % 2 ^ 64) (zero-add t.n);
      signals = behind.signals ∙ (t.signals ∙ before.signals);
      cause = untaken how (Unit {0}) (IsMergerStop a d how) (λ i. tt) whole_cause;
    }

  -- or it lacks one of them, and did nothing
  module _ (same : c ≡ b) (lacks : (has.left && (has.right && has.pen)) ≡ false) where
    grown : Grows b c
    grown = subst (λ (k : Known). Grows b k) (sym same) (grows_same b)

    mine_at : (j : ℕ) → (end_at j a).mine ≡ (end_at j b).mine → (end_at j d).mine ≡ (end_at j a).mine
    mine_at j is = claims_behind j ∙ (ap (λ (k : Known). (end_at j k).mine) same ∙ sym is)

    lacks_end : LacksEnd a d
    lacks_end = by has.left has.right has.pen refl refl refl lacks
      where
        on : (x : Known) → Grows x b → Grows x d
        on x g = grows_then x b d g (grows_then b c d grown behind.grows)

        no_left : has.left ≡ false → Refused left a d
        no_left e = record {
          refused = refused_later left o.one d (on o.one
              (grows_then o.one o.two b o.right.rests.grows o.pen.rests.grows)) (o.left.refused e);
          mine = mine_at left (sym (ap (λ (x : End). x.mine)
              (left_was ∙ ap (λ (x : Bool). if x then new_end else end_at left a) e)));
        }

        no_right : has.right ≡ false → Refused right a d
        no_right e = record {
          refused = refused_later right o.two d (on o.two o.pen.rests.grows) (o.right.refused e);
          mine = mine_at right (sym (ap (λ (x : End). x.mine)
              (right_was ∙ ap (λ (x : Bool). if x then new_end else end_at right a) e)));
        }

        no_pen : has.pen ≡ false → Refused pen a d
        no_pen e = record {
          refused = refused_later pen b d (on b (grows_same b)) (o.pen.refused e);
          mine = mine_at pen (sym (ap (λ (x : End). x.mine)
              (pen_was ∙ ap (λ (x : Bool). if x then new_end else end_at pen a) e)));
        }

        by : (x y z : Bool) → has.left ≡ x → has.right ≡ y → has.pen ≡ z → (x && (y && z)) ≡ false → LacksEnd a d
        by false y z l r w e = inl (no_left l)
        by true false z l r w e = inr (inl (no_right r))
        by true true false l r w e = inr (inr (no_pen w))
        by true true true l r w e = absurd (false≢true (sym e))

    pub merger_fails : MergerWorked a d (record { stop = stop.Taken; moved = 0 })
    merger_fails = record {
      served = served (λ x w. subst (OwesBut x) (sym same) w) (ap (λ (k : Known). k.domain) same) grown;
      claims = claims_all (λ j. ap (λ (k : Known). (end_at j k).mine) same);
      taken = lacks_end;
      passed = passed_none;
      got = tt;
      sent = tt;
      all = tt;
      n = 0;
      counted = counted_none a d (sums_then a b d before.sums
          (subst (λ (k : Known). (p : ℕ) → amounts_of p d.view.items ≡ amounts_of p k.view.items) same behind.sums));
      counts = tt;
      moved = refl;
      signals = behind.signals ∙ (ap (λ (k : Known). signals_of k.view.items) same ∙ before.signals);
      cause = tt;
    }

  pub merger_worked : (ended : WorkerEnd) → MergesIf (has.left && (has.right && has.pen)) b c ended
      → MergerWorked a d ended
  merger_worked ended t = by (has.left && (has.right && has.pen)) refl t
    where
      by : (x : Bool) → (has.left && (has.right && has.pen)) ≡ x → MergesIf x b c ended → MergerWorked a d ended
      by true e t =
          let is = all_true has.left has.right has.pen e in
          merger_did is.0 is.1 is.2 ended.moved ended.stop t
      by false e t = subst (MergerWorked a d) (sym t.1) (merger_fails t.0 e)

-- and then the completion
module _ (a b c : Known) (w : WorkerEnd) (r : MergerWorked a b w) (k : Finishes b c) where
  refused_still : (j : ℕ) → Refused j a b → Refused j a c
  refused_still j x = record {
    refused = refused_later j b c k.leaves.grows x.refused;
    mine = ap (λ (e : End). e.mine) (k.ends j) ∙ x.mine;
  }

  lacks_still : LacksEnd a b → LacksEnd a c
  lacks_still (inl x) = inl (refused_still left x)
  lacks_still (inr (inl x)) = inr (inl (refused_still right x))
  lacks_still (inr (inr x)) = inr (inr (refused_still pen x))

  has_still : HasEnds b → HasEnds c
  has_still h = record {
    taps = λ s. ap (λ (e : End). e.mine) (k.ends (read_end (side_pipe s))) ∙ h.taps s;
    pen = ap (λ (e : End). e.mine) (k.ends pen) ∙ h.pen;
  }

  still_worked : MergerWorked a c w
  still_worked = record {
    served = record {
      idler = k.idler;
      domain = k.leaves.domain ∙ r.served.domain;
      grows = grows_then a b c r.served.grows k.leaves.grows;
    };
    claims = λ j one two three. ap (λ (e : End). e.mine) (k.ends j) ∙ r.claims j one two three;
    taken = taken_map w.stop (LacksEnd a b) (HasEnds b) (LacksEnd a c) (HasEnds c) lacks_still has_still r.taken;
    passed = r.passed;
    got = taken_map w.stop (Unit {0}) ((s : Side) → moved_bytes (reading (side_pipe s) b) ≡ read_of s r.passed)
        (Unit {0}) ((s : Side) → moved_bytes (reading (side_pipe s) c) ≡ read_of s r.passed) (λ x. x)
        (λ x s. ap moved_bytes (k.ends (read_end (side_pipe s))) ∙ x s) r.got;
    sent = taken_map w.stop (Unit {0}) (moved_bytes (end_at pen b) ≡ sent_of r.passed) (Unit {0})
        (moved_bytes (end_at pen c) ≡ sent_of r.passed) (λ x. x) (λ x. ap moved_bytes (k.ends pen) ∙ x) r.sent;
    all = r.all;
    n = r.n;
    counted = counted_sums r.n a b c r.counted k.leaves.sums;
    counts = r.counts;
    moved = r.moved;
    signals = k.leaves.signals ∙ r.signals;
    cause = taken_map w.stop (Unit {0}) (IsMergerStop a b w.stop) (Unit {0}) (IsMergerStop a c w.stop) (λ x. x)
        (merger_later a b c k.leaves.grows (λ s. subst IsAtEnd (sym (k.ends (read_end (side_pipe s)))))
        (λ is. ap (λ (e : End). e.ended) (k.ends pen) ∙ is) w.stop) r.cause;
  }

  pub merger_completes : MergerDid a c w
  merger_completes = record {
    worked = still_worked;
    completes = record { mid = b; before = r.served.grows; completed = k.completed };
  }
