-- The count is loaded in a hold of a `down`.
use Rattle.std.proofs.Common.{◌∙◌, ap, sym, refl, subst, arith, append_assoc, eqb-true}
use Rattle.std.specs.Prelude.{ℕ, ◌≡◌, ◌≤◌, ◌==◌, ◌||◌, Bool, true, false, is_some, if◌then◌else◌, Option, Some, None}
use Rattle.std.specs.Prelude.{[], ◌∷◌, ◌++◌}
use Rattle.wait_model.specs.{declared.layout.TheConstants.ALL_DONE, declared.points.Next.Next}
use Rattle.wait_model.specs.{declared.points.Seen.Seen, declared.steps.Step.Step, declared.watches.Entry.Entry}
use Rattle.wait_model.specs.{Programs.is_at_end, Tasks.looks_in, Watches.head_of, Words.entry_of}
use Rattle.wait_model.specs.PointFacts.{IsHome, Zone, absent, waits}
use Rattle.wait_model.specs.Views.{View as Told, off as taken_off, shown}
use Rattle.wait_model.specs.declared.calls.Answer.TheVariants as answer
use Rattle.wait_model.specs.declared.points.AwaitPoint.TheVariants as awaiting
use Rattle.wait_model.specs.declared.points.Next.TheVariants as next
use Rattle.wait_model.specs.declared.points.Point.TheVariants as at
use Rattle.wait_model.specs.declared.points.PreparePoint.TheVariants as preparing
use Rattle.wait_model.specs.declared.steps.Step.TheVariants as step
use Rattle.wait_model.specs.declared.watches.Watch.TheVariants as watch
use Rattle.wait_model.proofs.SentenceLaws.SentenceAwaits.{shown_count}
use Rattle.wait_rule.specs.declared.journal.Item.TheVariants as item
use Rattle.wait_rule.specs.{Counts.FindsCount, Items.Book, Known.Known, Stays.Carries, Stays.unchanged}
use Rattle.wait_rule.specs.Says.{added, history_of, told_of}
use Rattle.wait_rule.specs.Queues.{IsAgreedHold, index, saw}
use Rattle.wait_rule.proofs.{KnownLaws.AfterSteps.told_added, KnownLaws.TaskHistories.history_after}
use Rattle.wait_rule.proofs.KnownLaws.Transitions.{only_none}
use Rattle.wait_class.specs.{Findings.with_value, declared.stages.Run.Run}
use Rattle.wait_class.specs.Posts.{EndsWith, HasSeenOwn, Post, Stands, own_of}
use Rattle.wait_class.specs.Tables.{IsAt, Turned, falls, next_in, post_of}
use Rattle.wait_class.specs.Laws.{IsPlainTurn, TurnTrail, turn_post}
use Rattle.wait_class.specs.declared.stages.Turn.TheVariants as turn
use Rattle.wait_class.proofs.{CalmSteps.calm_saw, OwnSteps.own_goes, Turns.GoesOn, Turns.advance_by}
use Rattle.wait_class.proofs.Ground.Keeping.{keeps_none, keeps_on, own_keeps}
use Rattle.wait_class.proofs.Ground.Standing.{finds_own, home_waits, seen_book, seen_home, seen_looks, seen_off}
use Rattle.wait_class.proofs.Ground.Standing.{seen_shows, seen_stands}
use Rattle.wait_event.specs.Waits.{is_queue}
use Rattle.completion_cell.specs.HeldPermits.{HasBegunHold, Knows, WaitsIn}
use Rattle.completion_cell.proofs.{AwaitTrails.again_begun, Ground.step_behind}
use Rattle.completion_cell.proofs.AwaitCounts.{keeps_unchanged, loads_known, none_is, still_stands_at}
use Rattle.count_sem.specs.{SemPrograms.again_next, declared.downs.DownCall.DownCall}
use Rattle.count_sem.specs.declared.downs.DownStage.{DownStage}
use Rattle.count_sem.specs.Downs.{DownKeeps, DownTurn, FoundZero, HasCount, HasWalk, again_by, again_to, down_head}
use Rattle.count_sem.specs.Downs.{down_post, down_table, first_by, first_to}
use Rattle.count_sem.specs.declared.downs.DownOutcome.TheVariants as outcome
use Rattle.count_sem.specs.declared.downs.DownStage.TheVariants as stage
use Rattle.count_sem.proofs.{DownLaws.told_by, DownTrails.own_same, DownTrails.walk_on}

-- where the program goes on is where the call does
first_next : (zero looks ends : Bool)
    → ◌≡◌ {A = Next} (next.Go (if zero then at.Prepare (if looks then preparing.Look else preparing.Queue)
    else at.Await (if ends then awaiting.Unlock else awaiting.Last false)))
    (next_in down_table (turn.Again (first_by zero looks ends)))
first_next true true ends = refl
first_next true false ends = refl
first_next false looks true = refl
first_next false looks false = refl

first_plain : (zero looks ends : Bool) → IsPlainTurn down_table (turn.Again (first_by zero looks ends))
first_plain true true ends = refl
first_plain true false ends = refl
first_plain false looks true = refl
first_plain false looks false = refl

again_goes : (queued zero looks ends : Bool)
    → (◌≡◌ {A = Next} (if queued
    then next.Go (if zero then at.Prepare (if looks then preparing.Look else preparing.Queue)
    else at.Await (awaiting.Off false))
    else if zero || ends then next.Go (at.Await awaiting.Unlock) else next.Ends (answer.Value 0))
    (next_in down_table (again_by queued zero looks ends)))
    × IsPlainTurn down_table (again_by queued zero looks ends)
    × (falls down_table stage.AgainLoad (again_by queued zero looks ends) ≡ true)
again_goes true true true ends = (refl, refl, refl)
again_goes true true false ends = (refl, refl, refl)
again_goes true false looks ends = (refl, refl, refl)
again_goes false true looks ends = (refl, refl, refl)
again_goes false false looks true = (refl, refl, refl)
again_goes false false looks false = (refl, tt, refl)

pub end_is : (v : ℕ) → (v == ALL_DONE) ≡ true → ALL_DONE ≤ v
end_is v is = let e = eqb-true v ALL_DONE is in omega (arith, e)

pub at_end : (v : ℕ) → v ≤ ALL_DONE → is_at_end v ≡ (v == ALL_DONE)
at_end v small = ap (λ (m : ℕ). m == ALL_DONE) (shown_count v small)

-- what a load makes known, in any hold
module _ (r : DownCall) (knew new : Known) (v : ℕ) (begun : HasBegunHold r.cell knew)
    (is : new ≡ added knew (item.Made (step.Load (watch.Done r.cell) v))) (finds : FindsCount knew r.cell v)
    (carries : Carries unchanged knew new) where
  abbrev e : Step
  e = step.Load (watch.Done r.cell) v

  knows : Knows new r.cell v
  knows = loads_known r.cell knew new v begun is finds carries

  knows_zero : (v == 0) ≡ true → Knows new r.cell 0
  knows_zero none = subst (Knows new r.cell) (none_is v none) knows

  ends_zero : (v == 0) ≡ true → history_of new ≡ history_of knew ++ step.Load (watch.Done r.cell) 0 ∷ []
  ends_zero none = history_after knew new e is
      ∙ ap (λ (n : ℕ). history_of knew ++ step.Load (watch.Done r.cell) n ∷ []) (none_is v none)

  owes_none : (v == 0) ≡ true → WaitsIn r.cell new (Some v) 0
  owes_none none = subst (λ (n : ℕ). WaitsIn r.cell new (Some v) n) (knows.loaded.settled.2 (none_is v none))
      knows.loaded.waits

  owes_end : (v == ALL_DONE) ≡ true → WaitsIn r.cell new (Some v) 0
  owes_end end = subst (λ (n : ℕ). WaitsIn r.cell new (Some v) n) (knows.loaded.settled.1 (end_is v end))
      knows.loaded.waits

  moved : (p z : Post) → Stands knew p → z.head ≡ p.head → z.ticket ≡ p.ticket → z.stirs ≡ p.stirs → z.state ≡ p.state
      → ((o : Option Entry) → IsHome p.zone p.watch o → IsHome z.zone z.watch o) → Stands new z
  moved = still_stands_at knew new carries (ap (λ (k : Known). k.book.differs) is)

  kept_on : (old : Known) → DownKeeps (own_of old) old knew → DownKeeps (own_of old) old new
  kept_on old keeps = keeps_on (own_of old) old knew new keeps (keeps_unchanged (own_of old) knew new carries)

-- the first hold
module _ (old new : Known) (run : Run DownCall) (v : ℕ) (a : IsAt down_table old run stage.FirstLoad)
    (is : new ≡ added old (item.Made (step.Load (watch.Done run.of.cell) v))) (finds : FindsCount old run.of.cell v)
    (carries : Carries unchanged old new) where
  abbrev fr : DownCall
  fr = run.of

  abbrev fq : DownCall
  fq = record fr { count = v; again = false }

  first_zero : (v == 0) ≡ true → FoundZero new fq []
  first_zero none = record {
    word = 0;
    ends = (history_of old, ends_zero fr old new v a.trail.0 is finds carries none);
    stood = a.trail.1;
  }

  first_trail : (zero admits ends : Bool) → (v == 0) ≡ zero → (v == ALL_DONE) ≡ ends
      → TurnTrail down_table new fq (turn.Again (first_by zero admits ends))
  first_trail true true ends none end = (knows_zero fr old new v a.trail.0 is finds carries none, first_zero none)
  first_trail true false ends none end = (
    knows_zero fr old new v a.trail.0 is finds carries none,
    record { look = None; zero = first_zero none },
  )
  first_trail false admits true some end = (Some v, owes_end fr old new v a.trail.0 is finds carries end)
  first_trail false admits false some end = (
    record { knows = knows fr old new v a.trail.0 is finds carries; some = some },
    end,
  )

  first_stood : (zero admits ends : Bool) → Stands new (turn_post down_table fq
      (turn.Again (first_by zero admits ends)))
  first_stood true true ends = moved fr old new v a.trail.0 is finds carries _ _ a.stands refl refl refl refl
      (home_waits (watch.Done fr.cell))
  first_stood true false ends = moved fr old new v a.trail.0 is finds carries _ _ a.stands refl refl refl refl
      (home_waits (watch.Done fr.cell))
  first_stood false admits true = moved fr old new v a.trail.0 is finds carries _ _ a.stands refl refl refl refl
      (λ o h. h)
  first_stood false admits false = moved fr old new v a.trail.0 is finds carries _ _ a.stands refl refl refl refl
      (λ o h. h)

  first_goes : GoesOn down_table old new fr fq stage.FirstLoad (turn.Again (first_to fq))
  first_goes = own_goes down_table old old new fr fq stage.FirstLoad (turn.Again (first_to fq))
      (step.Load (watch.Done fr.cell) v) (with_value v) (only_none old)
      (step_behind old new (step.Load (watch.Done fr.cell) v) is)
      (λ x did. told_by fr fq x refl refl refl (ap is_queue did))
      (kept_on fr old new v a.trail.0 is finds carries old (keeps_none (own_of old) old))
      (ap (λ (b : Bool). next.Go (if v == 0 then at.Prepare (if looks_in fr.state then preparing.Look
      else preparing.Queue) else at.Await (if b then awaiting.Unlock else awaiting.Last false))) (at_end v finds.0)
      ∙ first_next (v == 0) (looks_in fr.state) (v == ALL_DONE)) refl (refl, tt, tt) (carries.awake ∙ a.up)
      (first_stood (v == 0) (looks_in fr.state) (v == ALL_DONE))
      (first_trail (v == 0) (looks_in fr.state) (v == ALL_DONE) refl refl)

  pub first_turned : (u : DownStage) → u ≡ first_to fq
      → Turned down_table old new run (record run { of = fq }) stage.FirstLoad (turn.Again u)
  first_turned u to = subst (λ (z : DownStage). Turned down_table old new run (record run { of = fq }) stage.FirstLoad
      (turn.Again z)) (sym to)
      (advance_by down_table old new run (record run { of = fq }) stage.FirstLoad (turn.Again (first_to fq)) refl a.fits
      (first_plain (v == 0) (looks_in fr.state) (v == ALL_DONE)) first_goes)

-- a further one, behind a look at the own entry
module _ (old mid : Known) (run : Run DownCall) (o : Option Entry) (h : HasSeenOwn old mid o)
    (a : IsAt down_table old run stage.AgainLoad) where
  abbrev hd : ℕ
  hd = down_head run.of

  abbrev p : Post
  p = post_of down_table run.of stage.AgainLoad

  seen_history : history_of mid ≡ history_of old ++ step.Saw (own_of old) h.word ∷ []
  seen_history = (calm_saw old mid o h hd a.stands.head).history

  here : (f : Entry) → o ≡ Some f → head_of f.watch ≡ hd
  here f is = ap head_of (seen_home old mid o h p a.stands f is).0

  home : (f : Option Entry) → o ≡ f → IsHome waits p.watch f
  home None is = tt
  home (Some e) is = seen_home old mid o h p a.stands e is

  pub again_agreed : IsAgreedHold mid
  again_agreed i held = ap (λ (b : Book). b.differs) (seen_book old mid o h) ∙ a.stands.agreed hd refl

  entry_shows : (b : Bool) → is_some o ≡ b → is_some (entry_of h.word) ≡ b
  entry_shows b is = ap (λ (f : Option Entry). is_some f) (sym h.reads) ∙ is

  saw_walk : (told_of mid).walk ≡ (told_of old).walk
  saw_walk = ap (λ (k : Known). (told_of k).walk) h.is ∙ by old.book.head
    where
      by : (q : Option ℕ) → (told_of (added old (item.Made (saw q (index old.view.number 0) h.word)))).walk
          ≡ (told_of old).walk
      by None = ap (λ (v : Told). v.walk) (told_added old (item.Made (step.Peek (index old.view.number 0) h.word)))
      by (Some i) = ap (λ (v : Told). v.walk) (told_added old (item.Made (step.Saw (index old.view.number 0) h.word)))

  module _ (new : Known) (v : ℕ) (is : new ≡ added mid (item.Made (step.Load (watch.Done run.of.cell) v)))
      (finds : FindsCount mid run.of.cell v) (carries : Carries unchanged mid new) where
    abbrev r : DownCall
    r = run.of

    abbrev q : DownCall
    q = record r { count = v; again = true }

    begun : HasBegunHold r.cell mid
    begun = again_begun r.cell old mid h.word seen_history h.carries.number a.trail.0

    number : new.view.number ≡ old.view.number
    number = carries.number ∙ h.carries.number

    walk : HasWalk new r.cell
    walk = walk_on mid new r.cell (ap (λ (k : Known). (told_of k).walk) is
        ∙ ap (λ (u : Told). u.walk) (told_added mid (item.Made (step.Load (watch.Done r.cell) v))))
        (walk_on old mid r.cell saw_walk a.trail.1)

    found_zero_is : (v == 0) ≡ true → is_some o ≡ true → FoundZero new q []
    found_zero_is none some = record {
      word = h.word;
      ends = subst (λ (x : ℕ). EndsWith new (step.Saw x h.word ∷ step.Load (watch.Done r.cell) 0 ∷ []))
          (sym (own_same old new number)) (
            history_of old,
            ends_zero r mid new v begun is finds carries none
                ∙ (ap (λ (es : _). es ++ step.Load (watch.Done r.cell) 0 ∷ []) seen_history
                ∙ append_assoc (history_of old) (step.Saw (own_of old) h.word ∷ [])
                (step.Load (watch.Done r.cell) 0 ∷ [])),
          );
      stood = entry_shows true some;
    }

    sees : (f : Option Entry) → o ≡ f → is_some f ≡ true
        → (e : Entry) × ((told_of new).hold.book (own_of new) ≡ shown e)
    sees None at never = absurd (cc)
    sees (Some e) at some = (
      e,
      ap (told_of new).hold.book (own_same old new number)
          ∙ (ap (λ (k : Known). (told_of k).hold.book (own_of old)) is
          ∙ (ap (λ (u : Told). u.hold.book (own_of old)) (told_added mid (item.Made (step.Load (watch.Done r.cell) v)))
          ∙ seen_shows old mid o h hd a.stands.head a.stands.told e at (here e at))),
    )

    gone_from : (f : Option Entry) → o ≡ f → is_some f ≡ false → (told_of new).hold.book (own_of new) ≡ taken_off
    gone_from (Some e) at never = absurd (cc)
    gone_from None at off = ap (told_of new).hold.book (own_same old new number)
        ∙ (ap (λ (k : Known). (told_of k).hold.book (own_of old)) is
        ∙ (ap (λ (u : Told). u.hold.book (own_of old)) (told_added mid (item.Made (step.Load (watch.Done r.cell) v)))
        ∙ seen_off old mid o h hd a.stands.head a.stands.told at))

    has_count : (v == 0) ≡ false → HasCount new q
    has_count some = record { knows = knows r mid new v begun is finds carries; some = some }

    trail : (queued zero admits ends : Bool) → is_some o ≡ queued → (v == 0) ≡ zero → (v == ALL_DONE) ≡ ends
        → TurnTrail down_table new q (again_by queued zero admits ends)
    trail true true true ends on none end = (
      knows_zero r mid new v begun is finds carries none,
      found_zero_is none on,
    )
    trail true true false ends on none end = (
      knows_zero r mid new v begun is finds carries none,
      record { look = None; zero = found_zero_is none on },
    )
    trail true false admits ends on some end = (has_count some, sees o refl on)
    trail false true admits ends off none end = (Some v, owes_none r mid new v begun is finds carries none)
    trail false false admits true off some end = (Some v, owes_end r mid new v begun is finds carries end)
    trail false false admits false off some end = record {
      there = a.fits;
      gone = gone_from o refl off;
      count = has_count some;
      more = end;
      walk = walk;
    }

    stands_in : (z : Zone) → IsHome z p.watch o → Stands mid (record p { zone = z })
    stands_in z at = seen_stands old mid o h p z a.stands at

    gone_home : (f : Option Entry) → is_some f ≡ false → IsHome absent p.watch f
    gone_home None off = tt
    gone_home (Some e) off = absurd (cc)

    stood : (queued zero admits ends : Bool) → is_some o ≡ queued
        → Stands new (turn_post down_table q (again_by queued zero admits ends))
    stood true true true ends on = moved r mid new v begun is finds carries (record p { zone = waits }) _
        (stands_in waits (home o refl)) refl refl refl refl (λ f g. g)
    stood true true false ends on = moved r mid new v begun is finds carries (record p { zone = waits }) _
        (stands_in waits (home o refl)) refl refl refl refl (λ f g. g)
    stood true false admits ends on = moved r mid new v begun is finds carries (record p { zone = waits }) _
        (stands_in waits (home o refl)) refl refl refl refl (λ f g. g)
    stood false true admits ends off = moved r mid new v begun is finds carries (record p { zone = absent }) _
        (stands_in absent (gone_home o off)) refl refl refl refl (λ f g. g)
    stood false false admits true off = moved r mid new v begun is finds carries (record p { zone = absent }) _
        (stands_in absent (gone_home o off)) refl refl refl refl (λ f g. g)
    stood false false admits false off = moved r mid new v begun is finds carries (record p { zone = absent })
        (down_post q outcome.Passing)
        (stands_in absent (gone_home o off)) refl refl refl refl (λ f g. g)

    abbrev seen : Seen
    seen = record (with_value v) { entry = o }

    abbrev u : DownTurn
    u = again_to q (is_some o)

    planned : (queued : Bool) → again_next r.state queued v
        ≡ (if queued then next.Go (if v == 0 then at.Prepare (if looks_in r.state then preparing.Look
        else preparing.Queue) else at.Await (awaiting.Off false))
        else if (v == 0) || (v == ALL_DONE) then next.Go (at.Await awaiting.Unlock) else next.Ends (answer.Value 0))
    planned true = refl
    planned false = ap (λ (b : Bool). if (v == 0) || b then next.Go (at.Await awaiting.Unlock)
        else next.Ends (answer.Value 0)) (at_end v finds.0)

    goes : GoesOn down_table old new r q stage.AgainLoad u
    goes = own_goes down_table old mid new r q stage.AgainLoad u (step.Load (watch.Done r.cell) v) seen
        (seen_looks old mid o h hd a.stands.head) (step_behind mid new (step.Load (watch.Done r.cell) v) is)
        (λ x did. told_by r q x refl refl refl (ap is_queue did))
        (kept_on r mid new v begun is finds carries old (own_keeps old mid o h))
        (planned (is_some o) ∙ (again_goes (is_some o) (v == 0) (looks_in r.state) (v == ALL_DONE)).0) refl
        (refl, finds_own old mid o h hd a.stands.head a.stands.told here o refl, tt)
        (carries.awake ∙ (h.carries.awake ∙ a.up)) (stood (is_some o) (v == 0) (looks_in r.state) (v == ALL_DONE) refl)
        (trail (is_some o) (v == 0) (looks_in r.state) (v == ALL_DONE) refl refl refl)

    pub again_turned : (queued : Bool) → queued ≡ is_some o → (t : DownTurn) → t ≡ again_to q queued
        → Turned down_table old new run (record run { of = q }) stage.AgainLoad t
    again_turned queued at t to = subst (λ (z : DownTurn). Turned down_table old new run (record run { of = q })
        stage.AgainLoad z) (sym (to ∙ ap (again_to q) at))
        (advance_by down_table old new run (record run { of = q }) stage.AgainLoad u refl a.fits
        (again_goes (is_some o) (v == 0) (looks_in r.state) (v == ALL_DONE)).1 goes)
