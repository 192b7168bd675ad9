-- A call that goes on at once and has named nobody is advanced by one stretch more.
use Rattle.std.proofs.Common.{◌≡◌, ℕ, List, [], subst}
use Rattle.wq_head.specs.{Roused.tasks_in, declared.rousing.Rousing.Rousing}
use Rattle.wq_checked.specs.Checked.{Checked}
use Rattle.wq_checked.specs.declared.calls.Progress.TheVariants as progress
use Rattle.std.specs.Prelude.{Option, Some}
use Rattle.sugwelan_c.specs.{declared.calls.Wanted.Wanted, declared.replies.Reply.Reply}
use Rattle.sugwelan_c.specs.Served.{Further, GivesLock, goes, Names, Replies}
use Rattle.sugwelan_c.specs.declared.replies.Reply.TheVariants as reply

pub one_more : (w : Wanted) (k : Checked) (r : Reply) (ws : List ℕ) (o : Option ℕ) (between : Checked) (p : Reply)
    (before : List ℕ) (given : Option ℕ) (m : Checked) (q : Reply) (named : Rousing) (now : Option ℕ)
    → Further w k r ws o between p before given → (p ≡ reply.On progress.Again) × (before ≡ [])
    → Replies (Some w) between m q → Names (Some w) between m q named → GivesLock (Some w) between q given now
    → Further w k r ws o m q (tasks_in named) now
one_more w k r ws o between p before given m q named now came on replies names gives =
    let again : Further w k r ws o between (reply.On progress.Again) before given =
    subst (λ (x : Reply). Further w k r ws o between x before given) on.0 came in
    let quiet : Further w k r ws o between (reply.On progress.Again) [] given =
    subst (λ (xs : List ℕ). Further w k r ws o between (reply.On progress.Again) xs given) on.1 again in
    goes between m q named given now quiet replies names gives
