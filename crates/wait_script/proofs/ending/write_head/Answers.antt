use Rattle.std.proofs.Common.{◌+◌, ◌++◌, ◌∙◌, ap, arith, codes}
use Rattle.std.proofs.lemmas.Result.{err_from_is_err_and}
use Rattle.edge_io.proofs.Prefix.{begun, broke_off, went_on, handed_on}
use Rattle.wait_model.specs.{Queues.member_from, Queues.rank, Runs.state_of}
use Rattle.wait_script.proofs.EndLines.{head_line, piece, no_rest, fits_of}
use Rattle.wait_script.proofs.ending.write_head.Goals as goal

pub returns-in_err-write_head_front-clause-text : goal.returns-in_err-write_head_front-clause-text
returns-in_err-write_head_front-clause-text g c =
    let p = err_from_is_err_and c.from_residual.result c.from_residual.ensures.1 in
    rw p.1 (broke_off _ _ _ _ _ _ _ (begun (g.K.Sink.held c.args.out.now) _)
    (head_line c.args.head _ _ c.member_from-next.ensures.member c.is_none.result c.is_none.ensures
    c.if-is_none.false)
    c.in_err-write_head_front.ensures.text)

pub returns-in_err-write_member-clause-text : goal.returns-in_err-write_member-clause-text
returns-in_err-write_member-clause-text g c =
    let part = c.members.invariant.partway in
    let r = c.from_residual-in_err-write_member in
    let p = err_from_is_err_and r.result r.ensures.1 in
    rw p.1 (broke_off _ (g.K.Sink.held c.members.out) _ _ _ _ _ part.midway
    (piece part.least ((state_of c.args.core.now).queue c.args.head) c.members.next
    c.in-Some.member
    c.member_from-next.ensures.order part.met c.in-Some.is)
    c.in_err-write_member.ensures.text)

pub members-preserved : goal.members-preserved
members-preserved g c =
    let part = c.members.invariant.partway in
    let next = c.member_from-next-in-Some in
    record {
      partway = record {
        least = rank c.in-Some.member + 1;
        met = next.ensures.member
            ∙ ap (λ r. member_from (r + 1) ((state_of c.args.core.now).queue c.args.head)) c.rank.ensures;
        midway = went_on _ (g.K.Sink.held c.members.out) _ _ _ _ _ part.midway
            (piece part.least ((state_of c.args.core.now).queue c.args.head) c.members.next
            c.in-Some.member
            c.member_from-next.ensures.order part.met c.in-Some.is)
            c.in_ok-write_member.ensures.text;
      };
      fits = fits_of (c.rank.result + 1) next.result next.ensures.fits;
      later = omega (arith, c.members.invariant.later, c.write_member.ensures.later);
    }

pub returns-clause-text : goal.returns-clause-text
returns-clause-text g c =
    let part = c.members.invariant.partway in
    let m = part.midway in
    let left = no_rest part.least ((state_of c.args.core.now).queue c.args.head) c.members.next part.met
    c.in_default.not-Some in
    handed_on _ _ (g.K.Sink.held c.members.out) _ m.front (codes "\n") _ m.held c.write_all.ensures.text
    (m.whole ∙ ap (λ x. m.front ++ x) left)
