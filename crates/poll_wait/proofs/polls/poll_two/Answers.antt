use Rattle.std.proofs.Common.{◌∙◌, None, Ok, Some, refl, sym}
use Rattle.poll_wait.specs.{declared.turns.Poll.Poll, Polls.EndsPoll, Polls.IsPoll}
use Rattle.poll_wait.proofs.Sides.{stays_beside}
use Rattle.poll_wait.proofs.Turning.{done_carried, done_idle, ends_poll, first_turn, loads_carried, loads_idle}
use Rattle.poll_wait.proofs.Turning.{loads_out, loads_second}
use Rattle.poll_wait.proofs.polls.poll_two.Goals as goal

pub load_both-loads-requires-clause-poll : goal.load_both-loads-requires-clause-poll
load_both-loads-requires-clause-poll g c = record { first = c.requires.first; second = c.requires.second }

pub load_both-loads-requires-clause-free : goal.load_both-loads-requires-clause-free
load_both-loads-requires-clause-free g c = c.requires.idle.free

pub returns-in-Some : goal.returns-in-Some
returns-in-Some g c =
    let p : Poll = record { first = c.args.first; second = c.args.second; state = c.args.state } in
    let is : IsPoll p = record { first = c.requires.first; second = c.requires.second } in
    let old = c.args.task.now in
    let new = c.load_both-loads.new.task in
    let k = c.load_both-loads.ensures.carries in
    let q = c.requires in
    let ends : EndsPoll p old new (Ok c.in-Some.ready) = ends_poll p c.load_both-loads.result old new new
    (Ok c.in-Some.ready) (Some c.in-Some.ready) c.load_both-loads.ensures.loaded (sym c.ready.ensures ∙ c.in-Some.is)
    (refl, refl) in
    record {
      ends = ends;
      up = k.awake ∙ q.up;
      idle = loads_idle p is old new k q.up q.idle q.out q.out_second;
      out = loads_out p is old new k q.up q.idle q.out q.out_second;
      out_second = loads_second p is old new k q.up q.idle q.out q.out_second;
      carries = loads_carried p is old new k q.up q.idle q.out q.out_second;
      beside = stays_beside p is old new (Ok c.in-Some.ready) (c.told.ensures.head ∙ q.idle.free.head) k.number ends;
    }

pub poll_on-requires-clause-may : goal.poll_on-requires-clause-may
poll_on-requires-clause-may g c = first_turn
    (record { first = c.args.first; second = c.args.second; state = c.args.state })
    (record { first = c.requires.first; second = c.requires.second }) c.args.task.now c.load_both-loads.new.task
    c.load_both-loads.ensures.carries c.requires.up c.requires.idle c.requires.out c.requires.out_second

pub poll_on-requires-clause-poll : goal.poll_on-requires-clause-poll
poll_on-requires-clause-poll g c = record { first = c.requires.first; second = c.requires.second }

pub returns-in-None : goal.returns-in-None
returns-in-None g c =
    let p : Poll = record { first = c.args.first; second = c.args.second; state = c.args.state } in
    let is : IsPoll p = record { first = c.requires.first; second = c.requires.second } in
    let old = c.args.task.now in
    let mid = c.load_both-loads.new.task in
    let new = c.poll_on.new.task in
    let k = c.load_both-loads.ensures.carries in
    let q = c.requires in
    let done = c.poll_on.ensures.ends in
    let ends : EndsPoll p old new c.poll_on.result = ends_poll p c.load_both-loads.result old mid new c.poll_on.result None
    c.load_both-loads.ensures.loaded (sym c.ready.ensures ∙ c.in-None.is) c.poll_on.ensures.goes in
    record {
      ends = ends;
      up = done.up;
      idle = done_idle p is old mid k q.up q.idle q.out q.out_second new done;
      out = done.out;
      out_second = done.out_second;
      carries = done_carried p is old mid k q.up q.idle q.out q.out_second new done;
      beside = stays_beside p is old new c.poll_on.result (c.told.ensures.head ∙ q.idle.free.head)
          (done.carries.number ∙ k.number) ends;
    }
