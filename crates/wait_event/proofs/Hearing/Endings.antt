-- Whole waits for a flag: how they begin, go on turn by turn, and what they say at their end.
use Rattle.std.proofs.Common.{◌∙◌, sym, subst}
use Rattle.std.specs.Prelude.{ℕ, ◌≡◌, None}
use Rattle.wait_model.specs.{declared.points.Next.Next, declared.tasks.SleepState.SleepState}
use Rattle.wait_model.specs.declared.points.Next.TheVariants as next
use Rattle.wait_rule.specs.{Known.Known, Stays.Carries, Stays.unchanged, Transitions.Goes}
use Rattle.wait_rule.specs.Says.{IsFree, IsUp, told_of}
use Rattle.wait_event.specs.{Entries.MayRemove, declared.woken_waits.WokenStage.WokenStage}
use Rattle.wait_event.specs.declared.woken_waits.WokenTurn.{WokenTurn}
use Rattle.wait_event.specs.WokenWaits.{EndsWoken, Hears, WentHearing, woken_next, woken_point}
use Rattle.wait_event.specs.WokenWaits.{woken_program}
use Rattle.wait_event.specs.declared.woken_waits.WokenStage.TheVariants as stage
use Rattle.wait_event.specs.declared.woken_waits.WokenTurn.TheVariants as turn
use Rattle.wait_class.proofs.Ground.Going.{runs_on}
use Rattle.wait_event.proofs.Hearing.Entries.{keeps_on, woken_leaves}

-- a part, and then a turn
went_on : (old mid new : Known) (st : SleepState) (from by to : Next) → WentHearing old mid st from by
    → WentHearing mid new st by to → WentHearing old new st from to
went_on old mid new st from by to a b = record {
  runs = runs_on (woken_program old.view.number st) old mid new from by to a.runs (record {
    transitions = b.runs.transitions;
    goes = subst (λ (n : ℕ). Goes (woken_program n st) mid by b.runs.transitions new to) a.keeps.number b.runs.goes;
  });
  keeps = keeps_on old mid new a.keeps b.keeps;
}

pub hears_on : (old mid new : Known) (st : SleepState) (s t : WokenStage) (u : WokenTurn)
    → WentHearing old mid st (next.Go (woken_point s)) (next.Go (woken_point t)) → Hears mid new st t u
    → Hears old new st s u
hears_on old mid new st s t u went a = record {
  went = went_on old mid new st (next.Go (woken_point s)) (next.Go (woken_point t)) (woken_next u) went a.went;
  lands = a.lands;
}

-- what it says at its end
module _ (old new : Known) (st : SleepState) (s : WokenStage) (a : Hears old new st s turn.Done) where
  pub heard_free : IsFree new
  heard_free = record { head = a.lands.stands.head; ticket = a.lands.stands.ticket }

  pub heard_leaves : MayRemove new
  heard_leaves = woken_leaves new a.lands.up heard_free a.lands.entry

  pub heard_ends : s ≡ stage.State → EndsWoken old new st
  heard_ends first = record {
    runs = record {
      transitions = a.went.runs.transitions;
      goes = subst (λ (z : WokenStage). Goes (woken_program old.view.number st) old (next.Go (woken_point z))
          a.went.runs.transitions new (woken_next turn.Done)) first a.went.runs.goes;
    };
    steps = a.lands.trail;
  }

  pub heard_carried : IsUp old → IsFree old → old.book.state ≡ 0 → (told_of old).hold.head ≡ None
      → Carries unchanged old new
  heard_carried up free_of running held =
      let keeps = a.went.keeps in record {
        domain = keeps.domain;
        number = keeps.number;
        awake = a.lands.up ∙ sym up;
        state = a.lands.stands.state ∙ sym running;
        head = a.lands.stands.head ∙ sym free_of.head;
        ticket = a.lands.stands.ticket ∙ sym free_of.ticket;
        hold = a.lands.stands.told ∙ sym held;
        at = keeps.at;
        mark = keeps.mark;
        fewer = λ w σ none is. keeps.fewer w σ is;
        stored = λ x no away. keeps.stored x;
        out = λ x away is. keeps.stored x ∙ is;
        stands = λ slot few away e is own. keeps.stored _ ∙ is;
        keeps = λ d _. keeps.keeps d;
        owes = keeps.owes;
      }
