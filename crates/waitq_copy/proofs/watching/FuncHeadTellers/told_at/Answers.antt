use Rattle.std.proofs.Common.{◌<◌, arith, length}
use Rattle.std.proofs.lemmas.List.{length-map}
use Rattle.waitq_copy.proofs.Telling.{seen_at}
use Rattle.waitq_copy.proofs.watching.FuncHeadTellers.told_at.Goals as goal

pub returns : goal.returns
returns g c =
    let within : c.args.place < length c.args.self.now.entries.items = omega (arith, simp length-map at c.requires) in
    seen_at _ c.args.self.now.entries.items c.args.place c.tell_at.result within c.tell_at.ensures
