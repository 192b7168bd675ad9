-- A task that was put asleep in a wait for a flag, and looks whether it was woken.
use Rattle.std.proofs.Common.{◌∙◌, ap, sym, refl, subst, append-nil, inl}
use Rattle.std.specs.Prelude.{ℕ, ◌≡◌, Bool, true, false, MatchBool, List, [], ◌∷◌, ◌++◌}
use Rattle.wait_model.specs.declared.points.Next.TheVariants as next
use Rattle.wait_model.specs.{declared.steps.Step.Step, declared.tasks.SleepState.SleepState, Tasks.state_mask}
use Rattle.wait_model.specs.{Tasks.task_of, Views.View as Told, Fold.view_of}
use Rattle.wait_rule.specs.declared.journal.Item.TheVariants as item
use Rattle.wait_rule.specs.{Known.Known, Queues.IsTold, Queues.index, Transitions.OnlyLooks}
use Rattle.wait_rule.specs.Items.{Book, after_awake, risen, steps_of}
use Rattle.wait_rule.specs.Says.{IsAwakeAgain, added, grown, history_of, told_of}
use Rattle.wait_rule.proofs.{TableSteps.ItemLists.steps_append, KnownLaws.Debts.looked_debts}
use Rattle.wait_rule.proofs.{KnownLaws.Transitions.book_told, KnownLaws.Transitions.looks_of}
use Rattle.wait_class.specs.Posts.{IsStateFor, Stands, EndsWith}
use Rattle.wait_event.specs.WokenWaits.{HasHeardSo, Hears, IsHearingAsleep, KeepsEntries, WentHearing, heard_steps}
use Rattle.wait_event.specs.WokenWaits.{woken_point, woken_post, woken_program}
use Rattle.wait_event.specs.declared.woken_waits.WokenStage.TheVariants as stage
use Rattle.wait_event.specs.declared.woken_waits.WokenTurn.TheVariants as turn
use Rattle.wait_class.proofs.{Ground.Going.runs_looks, Ground.Standing.home_told}
use Rattle.wait_event.proofs.Hearing.Entries.{keeps_told, woken_stays}

-- by looks that are no steps, and the book that it has then
module _ (old new : Known) (st : SleepState) (a : IsHearingAsleep old st) (looks : OnlyLooks old new)
    (history : history_of new ≡ history_of old) (at : new.at ≡ old.at) (number : new.view.number ≡ old.view.number)
    (domain : new.domain ≡ old.domain) where
  told : told_of new ≡ told_of old
  told = ap view_of history

  keeps : KeepsEntries old new
  keeps = keeps_told old new domain number at told (looked_debts old new looks)

  went : WentHearing old new st (next.Go (woken_point stage.Run)) (next.Go (woken_point stage.Run))
  went = record {
    runs = runs_looks (woken_program old.view.number st) old new (next.Go (woken_point stage.Run)) looks;
    keeps = keeps;
  }

  trail : HasHeardSo new st []
  trail = (
    a.trail.0,
    a.trail.1,
    subst (λ (n : ℕ). EndsWith new (heard_steps st (index n 0) a.trail.0 a.trail.1 [])) (sym number)
        (a.trail.2.0, history ∙ a.trail.2.1),
  )

  stands : (b : Book) → new.book ≡ b → b.head ≡ old.book.head → b.ticket ≡ old.book.ticket
      → IsStateFor true (state_mask st) b.state → Stands new (woken_post st stage.Run)
  stands b is head ticket state = record {
    head = ap (λ (d : Book). d.head) is ∙ (head ∙ a.stands.head);
    at = λ h held. at ∙ a.stands.at h held;
    told = ap (λ (v : Told). v.hold.head) told ∙ a.stands.told;
    ticket = ap (λ (d : Book). d.ticket) is ∙ (ticket ∙ a.stands.ticket);
    agreed = λ h held. absurd (cc);
    state = subst (λ (d : Book). IsStateFor true (state_mask st) d.state) (sym is) state;
    home = home_told old new (woken_post st stage.Run) number told a.stands.home;
  }

  woken_at : new.book ≡ risen old.book → Hears old new st stage.Run (turn.Again stage.Run)
  woken_at up = record {
    went = went;
    lands = record {
      up = ap (λ (b : Book). b.awake) up;
      stands = stands (risen old.book) up refl refl (inl refl);
      entry = woken_stays old new keeps a.entry;
      trail = trail;
    };
  }

  still_at : new.book ≡ old.book → Hears old new st stage.Run turn.Asleep
  still_at same = record {
    went = went;
    lands = record {
      down = ap (λ (b : Book). b.awake) same ∙ a.down;
      stands = stands old.book same refl refl a.stands.state;
      entry = woken_stays old new keeps a.entry;
      trail = trail;
    };
  }

-- one look
pub looked_once : (old new : Known) (st : SleepState) → IsHearingAsleep old st → (w : ℕ)
    → new ≡ added old (item.Awake w) → (b : Bool) → b ≡ (task_of w).runnable
    → MatchBool b (Hears old new st stage.Run (turn.Again stage.Run)) (Hears old new st stage.Run turn.Asleep)
looked_once old new st a w is b tells = by b tells
  where
    looks : OnlyLooks old new
    looks = record { items = item.Awake w ∷ []; looks = (tt, tt); is = is }

    history : history_of new ≡ history_of old
    history = ap history_of is ∙ (steps_append old.view.items (item.Awake w ∷ []) ∙ append-nil (history_of old))

    book_is : (c : Bool) → c ≡ (task_of w).runnable → new.book ≡ after_awake false c old.book
    book_is c shows = ap (λ (k : Known). k.book) is ∙ (λ i. after_awake (a.down i) (sym shows i) old.book)

    by : (c : Bool) → c ≡ (task_of w).runnable
        → MatchBool c (Hears old new st stage.Run (turn.Again stage.Run)) (Hears old new st stage.Run turn.Asleep)
    by true shows = woken_at old new st a looks history (ap (λ (k : Known). k.at) is)
        (ap (λ (k : Known). k.view.number) is) (ap (λ (k : Known). k.domain) is) (book_is true shows)
    by false shows = still_at old new st a looks history (ap (λ (k : Known). k.at) is)
        (ap (λ (k : Known). k.view.number) is) (ap (λ (k : Known). k.domain) is) (book_is false shows)

-- looks until it was woken
pub rose : (old new : Known) (st : SleepState) → IsHearingAsleep old st → IsTold old → IsTold new
    → IsAwakeAgain old new → Hears old new st stage.Run (turn.Again stage.Run)
rose old new st a was now h = woken_at old new st a (record {
  items = h.looks;
  looks = looks_of h.looks h.no_steps h.no_adds;
  is = h.is ∙ ap (grown old h.looks) (sym (ap (λ (k : Known). k.book) h.is) ∙ book_told old new h.looks was now
      (ap (λ (k : Known). k.view.items) h.is));
}) (ap history_of h.is ∙ (steps_append old.view.items h.looks
    ∙ (ap (λ (es : List Step). steps_of old.view.items ++ es) h.no_steps ∙ append-nil (steps_of old.view.items))))
    (ap (λ (k : Known). k.at) h.is) (ap (λ (k : Known). k.view.number) h.is) (ap (λ (k : Known). k.domain) h.is)
    (ap (λ (k : Known). k.book) h.is)
