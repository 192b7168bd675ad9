-- The own entry is queued at the tail, and taken off in the same hold. Where no place is left the head is given back.
use Rattle.std.proofs.Common.{◌∙◌, ap, sym, refl, subst, eq-eqb}
use Rattle.std.specs.Prelude.{ℕ, ◌≡◌, ◌&&◌, ◌==◌, not, Bool, true, false, if◌then◌else◌, None}
use Rattle.std.specs.Prelude.{List, [], ◌∷◌, ◌++◌}
use Rattle.wait_model.specs.declared.queues.Form.TheVariants as forms
use Rattle.wait_model.specs.declared.steps.Step.TheVariants as step
use Rattle.wait_model.specs.{declared.watches.Entry.Entry, Views.View as Told, Views.shown, Watches.is_woken}
use Rattle.wait_model.specs.Watches.{page}
use Rattle.wait_model.specs.PointFacts.{IsHome, absent, seated}
use Rattle.wait_model.specs.declared.watches.Kind.TheVariants as kind
use Rattle.wait_model.proofs.Functions.{put_same}
use Rattle.wait_rule.specs.{declared.journal.Item.Item, Ends.WasWorn, HandedPermits.OwesNoPermit, Items.steps_of}
use Rattle.wait_rule.specs.{Known.Known, Queues.index, Quiet.is_quiet_at, Transitions.AreLooks}
use Rattle.wait_rule.specs.Transitions.{OnlyLooks}
use Rattle.wait_rule.specs.Asked.{ask_step, nothing_asked, waits_for}
use Rattle.wait_rule.specs.Says.{added, asks_for, history_of, stored_with, told_of, unlocked_with}
use Rattle.wait_rule.specs.Stays.{Carries, only_looks, take_off_change}
use Rattle.wait_rule.specs.declared.journal.Item.TheVariants as item
use Rattle.wait_rule.proofs.{TableSteps.ItemLists.steps_append, KnownLaws.MemberBits.told_stored}
use Rattle.wait_rule.proofs.{KnownLaws.QuietFlags.quiet_more, KnownLaws.Transitions.only_looked}
use Rattle.wait_rule.proofs.{KnownLaws.Transitions.only_none, WornHeads.WornNotes.notes_stay}
use Rattle.wq_head.specs.{declared.adds.Worn.Worn, Holds.IsHolding, Looks.Looks}
use Rattle.wq_head.specs.Adds.{HasAddedForPage, HasRemoved, IsTailWorn, page_change, tail_entry}
use Rattle.wq_head.proofs.{CarriedHolds.looks_carried, PermitHeads.owes_low, PermitHeads.page_low}
use Rattle.wait_class.specs.{Findings.saw_nothing, Findings.with_worn, declared.stages.Run.Run, Laws.turn_post}
use Rattle.wait_class.specs.Posts.{Post, Stands, own_of}
use Rattle.wait_class.specs.Tables.{IsAt, Turned, post_of}
use Rattle.wait_class.proofs.{Ground.Standing.carried_stands, Ground.Standing.owner_own, Histories.stored_history}
use Rattle.wait_class.proofs.{Histories.unlocked_history, OwnSteps.own_goes, Turns.GoesOn, Turns.advance_by}
use Rattle.wait_class.proofs.Wholes.{none_of}
use Rattle.wait_class.proofs.FormPlaces.{form_is, form_left, form_worn}
use Rattle.wait_class.proofs.Locks.{back_looks, back_stands, back_up}
use Rattle.wait_class.specs.declared.stages.Turn.TheVariants as turn
use Rattle.wait_event.proofs.LookedSteps.{looks_all}
use Rattle.page_lock.specs.{PageEnds.are_calm, declared.waits.LockPage.LockPage}
use Rattle.page_lock.specs.PageTables.{HasJoinedPage, IsQuiet, page_head_in, page_in, page_table}
use Rattle.page_lock.specs.declared.waits.PageStage.TheVariants as stage
use Rattle.page_lock.proofs.{PageLaws.page_lawful, PageTrails.asks_more, PageTrails.quiet_on}
use Rattle.page_lock.proofs.PageGround.{page_keeps_on, page_keeps_queued, page_stays}

-- the steps of looks are calm
looks_calm : (xs : List Item) → AreLooks xs → are_calm (steps_of xs) ≡ true
looks_calm = looks_all (λ es. are_calm es ≡ true) refl (λ x w es calm. calm)

looks_quiet : (r : LockPage) (old new : Known) → Looks old new → IsQuiet old → IsQuiet new
looks_quiet r old new l = quiet_on old new r (steps_of l.items) (ap (λ (k : Known). k.view.number) l.is)
    (ap history_of l.is ∙ steps_append old.view.items l.items) (looks_calm l.items l.looks)

-- an entry for a page leaves its task quiet
same_and : (x : ℕ) (b : Bool) → (if x == x then not (is_woken kind.Page) && b else b) ≡ b
same_and x b = ap (λ (s : Bool). if s then b else b) (eq-eqb x x refl)

queue_quiet : (seen new : Known) (p place : ℕ)
    → new ≡ stored_with seen (step.Queue (own_of seen) (tail_entry true (page p) kind.Page place)) → IsQuiet seen
    → IsQuiet new
queue_quiet seen new p place is quiet =
    let e = step.Queue (own_of seen) (tail_entry true (page p) kind.Page place) in
    (λ i. is_quiet_at (index ((is i).view.number) 0) (stored_history seen new e is i))
    ∙ (quiet_more (own_of seen) (history_of seen) (e ∷ [])
    ∙ (same_and (own_of seen) (is_quiet_at (own_of seen) (history_of seen)) ∙ quiet))

module _ (old : Known) (run : Run LockPage) (a : IsAt page_table old run stage.Queue) where
  abbrev r : LockPage
  r = run.of

  abbrev p : Post
  p = post_of page_table r stage.Queue

  abbrev i : ℕ
  i = own_of old

  out_old : (told_of old).bits.stored i ≡ None
  out_old = none_of (page_in r) ((told_of old).bits.stored i) a.stands.home

  -- it is queued
  module _ (new : Known) (held : IsHolding new) (x : HasAddedForPage old new r.page) where
    abbrev e : Entry
    e = tail_entry true (page_in r) kind.Page x.place

    seen_number : x.seen.view.number ≡ old.view.number
    seen_number = ap (λ (k : Known). k.view.number) x.looks.is

    number : new.view.number ≡ old.view.number
    number = x.carries.number

    seen_at : x.seen.at ≡ page_head_in r
    seen_at = ap (λ (k : Known). k.at) x.looks.is ∙ a.stands.at (page_head_in r) refl

    by_own : new ≡ stored_with x.seen (step.Queue (own_of x.seen) e)
    by_own = x.is ∙ ap (λ (n : ℕ). stored_with x.seen (step.Queue (index n 0) e)) (sym seen_number)

    joined : HasJoinedPage new r
    joined = record {
      asks = x.asks ∙ ap (λ (n : ℕ). waits_for (index n 0) r.page) (sym number);
      quiet = queue_quiet x.seen new r.page x.place by_own (looks_quiet r old x.seen x.looks a.trail.1);
      entry = e;
      shows = ap (λ (n : ℕ). (told_of new).hold.book (index n 0)) number
          ∙ (ap (λ (v : Told). v.hold.book i) (ap told_of x.is ∙ told_stored x.seen (step.Queue i e))
          ∙ put_same (told_of x.seen).hold.book i (shown e));
      ends = (
        history_of x.seen,
        stored_history x.seen new (step.Queue i e) x.is
            ∙ ap (λ (n : ℕ). history_of x.seen ++ step.Queue (index n 0) e ∷ []) (sym number),
      );
    }

    join_from : GoesOn page_table old new r r stage.Queue (turn.Again stage.Try)
    join_from = own_goes page_table old x.seen new r r stage.Queue (turn.Again stage.Try) (step.Queue i e) saw_nothing
        (only_looked old x.seen x.looks.items x.looks.same x.looks.looks x.looks.is)
        (subst (OnlyLooks (added x.seen (item.Made (step.Queue i e)))) (sym x.is)
        (record { items = item.Member ∷ []; looks = (tt, tt); is = refl }))
        (λ y did. tt) (page_keeps_queued i (page_in r) false old new x.carries) refl (
          refl,
          sym seen_at,
          x.whole,
          ap (tail_entry true (page_in r) kind.Page) (sym (form_is x.seen x.low forms.Tail x.place x.sort)),
        )
        (tt, (x.whole, sym (form_left x.seen x.low forms.Tail x.place x.sort)), tt)
        (x.carries.awake ∙ a.up)
        (carried_stands (page_change i) old new p (turn_post page_table r (turn.Again stage.Try)) x.carries a.stands
        (λ j at. held.agreed) refl a.stands.at refl a.stands.state
        (subst (IsHome seated (page_in r)) (sym x.queued) (refl, refl)))
        joined

  -- no place is left: the head is given back
  module _ (mid new : Known) (w : Worn) (worn : IsTailWorn old mid w) (held : IsHolding mid)
      (unasked : asks_for mid ≡ nothing_asked) (is : new ≡ unlocked_with mid mid.at false)
      (noted : WasWorn mid.view.number mid.view.items w.head w.place) where
    looks : Looks old mid
    looks = (form_worn forms.Tail old mid w worn).looks

    carried : Carries only_looks old mid
    carried = looks_carried old mid looks

    mid_stands : Stands mid p
    mid_stands = carried_stands only_looks old mid p p carried a.stands (λ j at. held.agreed) refl a.stands.at refl
        a.stands.state (subst (IsHome absent (page_in r)) (sym (carried.out i refl out_old)) tt)

    mid_at : mid.at ≡ page_head_in r
    mid_at = mid_stands.at (page_head_in r) refl

    note_on : WasWorn new.view.number new.view.items w.head w.place
    note_on = subst (λ (k : Known). WasWorn k.view.number k.view.items w.head w.place) (sym is)
        (notes_stay mid.view.number (mid.view.items ++ item.Made (step.Unlock mid.at false) ∷ []) (item.Served ∷ [])
        w.head w.place (notes_stay mid.view.number mid.view.items (item.Made (step.Unlock mid.at false) ∷ []) w.head
        w.place noted))

    worn_from : GoesOn page_table old new r (record r { place = w.place }) stage.Queue (turn.Again stage.Worn)
    worn_from =
        let x = form_worn forms.Tail old mid w worn in
        own_goes page_table old mid new r (record r { place = w.place }) stage.Queue (turn.Again stage.Worn)
        (step.Unlock mid.at false) (with_worn true)
        (only_looked old mid looks.items looks.same looks.looks looks.is) (back_looks page_table page_lawful mid new is)
        (λ y did. tt)
        (page_keeps_on i (page_in r) false false false old mid new
        (page_stays.looks i (page_in r) false old mid out_old looks) (page_stays.unlock i (page_in r) false mid new is))
        refl (mid_at, refl) (tt, (x.whole, sym x.worn), tt)
        (back_up page_table page_lawful mid new is (carried.awake ∙ a.up))
        (back_stands page_table page_lawful mid new is p
        (turn_post page_table (record r { place = w.place }) (turn.Again stage.Worn)) mid_stands refl refl
        mid_stands.state (λ u h. h)) (
          asks_more mid new (step.Unlock mid.at false ∷ []) (unlocked_history mid new is) ∙ unasked,
          record {
            noted = subst (λ (h : ℕ). WasWorn new.view.number new.view.items h w.place)
                (x.head ∙ a.stands.at (page_head_in r) refl) note_on;
            ends = (
              history_of mid,
              unlocked_history mid new is ∙ ap (λ (h : ℕ). history_of mid ++ step.Unlock h false ∷ []) mid_at,
            );
          },
        )

pub worn_owes : (old mid : Known) (r : Run LockPage) → IsAt page_table old r stage.Queue → mid.at ≡ old.at
    → OwesNoPermit mid
worn_owes old mid r a same = owes_low mid (page_head_in r.of) (same ∙ a.stands.at (page_head_in r.of) refl) (page_low r.of.page)

pub join_advances : (old new : Known) (r : Run LockPage) → IsAt page_table old r stage.Queue → IsHolding new
    → HasAddedForPage old new r.of.page → Turned page_table old new r r stage.Queue (turn.Again stage.Try)
join_advances old new r a held x = advance_by page_table old new r r stage.Queue (turn.Again stage.Try) refl a.fits refl
    (join_from old r a new held x)

pub worn_advances : (old mid new : Known) (r : Run LockPage) → IsAt page_table old r stage.Queue → (w : Worn)
    → IsTailWorn old mid w → IsHolding mid → asks_for mid ≡ nothing_asked → new ≡ unlocked_with mid mid.at false
    → WasWorn mid.view.number mid.view.items w.head w.place
    → Turned page_table old new r (record r { of = record r.of { place = w.place } }) stage.Queue
    (turn.Again stage.Worn)
worn_advances old mid new r a w worn held unasked is noted = advance_by page_table old new r
    (record r { of = record r.of { place = w.place } }) stage.Queue (turn.Again stage.Worn) refl a.fits refl
    (worn_from old r a mid new w worn held unasked is noted)

-- who takes its entry off itself asks for no page
stored_asks : (old new : Known) (x p : ℕ) → new ≡ stored_with old (step.Unqueue x) → asks_for old ≡ waits_for x p
    → asks_for new ≡ nothing_asked
stored_asks old new x p is asks = asks_more old new (step.Unqueue x ∷ []) (stored_history old new (step.Unqueue x) is)
    ∙ (ap (ask_step (step.Unqueue x)) asks
    ∙ ap (λ (b : Bool). if b then nothing_asked else waits_for x p) (eq-eqb x x refl))

off_from : (old new : Known) (run : Run LockPage) → IsAt page_table old run stage.Off
    → HasRemoved old new old.view.number 0 → IsHolding new
    → GoesOn page_table old new run.of run.of stage.Off (turn.Again (stage.QueueUnlock true))
off_from old new run a x held =
    let r = run.of in
    let i = own_of old in
    own_goes page_table old old new r r stage.Off (turn.Again (stage.QueueUnlock true)) (step.Unqueue i) saw_nothing
    (only_none old)
    (subst (OnlyLooks (added old (item.Made (step.Unqueue i)))) (sym x.is)
    (record { items = item.Member ∷ []; looks = (tt, tt); is = refl }))
    (λ y did. tt) (page_stays.removed i (page_in r) true old new x.is x.carries) refl (owner_own old.view.number)
    (tt, tt, refl) (x.carries.awake ∙ a.up)
    (carried_stands (take_off_change i) old new (post_of page_table r stage.Off)
    (turn_post page_table r (turn.Again (stage.QueueUnlock true))) x.carries a.stands (λ j at. held.agreed) refl
    a.stands.at refl a.stands.state (subst (IsHome absent (page_in r)) (sym x.out) tt))
    (stored_asks old new i r.page x.is a.trail.asks, x.carries.keeps (page_in r) refl ∙ a.trail.keeps)

pub off_advances : (old new : Known) (r : Run LockPage) → IsAt page_table old r stage.Off → (me : ℕ)
    → me ≡ old.view.number → HasRemoved old new me 0 → IsHolding new
    → Turned page_table old new r r stage.Off (turn.Again (stage.QueueUnlock true))
off_advances old new r a me mine x held = advance_by page_table old new r r stage.Off
    (turn.Again (stage.QueueUnlock true)) refl a.fits refl
    (off_from old new r a (subst (λ (n : ℕ). HasRemoved old new n 0) mine x) held)
