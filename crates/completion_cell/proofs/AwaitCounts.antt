-- The count is loaded in a hold of a wait.
use Rattle.std.proofs.Common.{◌∙◌, ap, sym, refl, subst, arith}
use Rattle.std.proofs.lemmas.Bool.Decides.{nat_tests}
use Rattle.std.specs.Prelude.{ℕ, ◌≡◌, ◌≢◌, ◌<◌, ◌==◌, Bool, true, false, if◌then◌else◌, Option, Some, None, [], ◌∷◌, ◌++◌}
use Rattle.wait_model.specs.{declared.layout.TheConstants.COMPLETIONS, declared.points.Next.Next}
use Rattle.wait_model.specs.{declared.steps.Step.Step, declared.watches.Entry.Entry, PointFacts.IsHome}
use Rattle.wait_model.specs.{PointFacts.waits, Tasks.looks_in}
use Rattle.wait_model.specs.declared.points.AwaitPoint.TheVariants as awaiting
use Rattle.wait_model.specs.declared.points.Next.TheVariants as next
use Rattle.wait_model.specs.declared.points.Point.TheVariants as at
use Rattle.wait_model.specs.declared.points.PreparePoint.TheVariants as preparing
use Rattle.wait_model.specs.declared.steps.Step.TheVariants as step
use Rattle.wait_model.specs.declared.watches.Watch.TheVariants as watch
use Rattle.wait_rule.specs.declared.journal.Item.TheVariants as item
use Rattle.wait_rule.specs.{Counts.FindsCount, Known.Known, Queues.IsAgreedHold, Items.Book}
use Rattle.wait_rule.specs.Says.{Excuse, IsUp, added, history_of}
use Rattle.wait_rule.specs.Stays.{Carries, unchanged, with_entry}
use Rattle.wait_rule.specs.Transitions.{OnlyLooks, Transition, by_step}
use Rattle.wait_event.specs.Waits.{is_queue}
use Rattle.wait_rule.proofs.{KnownLaws.TaskHistories.history_after, KnownLaws.Transitions.only_none}
use Rattle.wait_class.specs.{Findings.with_value, declared.stages.Run.Run}
use Rattle.wait_class.specs.Posts.{HasSeenOwn, IsStateFor, KeepsBut, Post, Stands, own_of}
use Rattle.wait_class.specs.Tables.{IsAt, Turned, next_in, post_of}
use Rattle.wait_class.specs.Laws.{IsPlainTurn, TurnTrail, turn_post}
use Rattle.wait_class.proofs.{CalmSteps.calm_saw, OwnSteps.own_goes, Turns.GoesOn, Turns.advance_by}
use Rattle.wait_class.proofs.Ground.Keeping.{keeps_none, keeps_of, keeps_on, own_keeps}
use Rattle.wait_class.proofs.Ground.Standing.{home_waits, seen_book, seen_home, seen_looks, seen_stands, still_stands}
use Rattle.completion_cell.specs.{HeldPermits.HasBegunHold, HeldPermits.Knows, LoadedCounts.InRange}
use Rattle.completion_cell.specs.{declared.awaits.AwaitCall.AwaitCall, declared.awaits.AwaitStage.AwaitStage}
use Rattle.completion_cell.specs.Awaits.{AwaitTurn, CellKeeps, AwaitTells, await_head, await_table, counted_by}
use Rattle.completion_cell.specs.Awaits.{counted_to}
use Rattle.completion_cell.specs.declared.awaits.AwaitStage.TheVariants as stage
use Rattle.completion_cell.proofs.{AwaitLaws.told_by, AwaitTrails.again_begun, AwaitTrails.load_loaded}
use Rattle.completion_cell.proofs.{Ground.step_behind, Ground.loaded_count}

abbrev load_stage : Bool → AwaitStage
load_stage false = stage.FirstLoad
load_stage true = stage.AgainLoad

-- where the program goes on is where the wait does
counted_next : (zero looks waited : Bool)
    → ◌≡◌ {A = Next} (next.Go (if zero then at.Prepare (if looks then preparing.Look else preparing.Queue)
    else at.Await (if waited then awaiting.Run false else awaiting.Last false)))
    (next_in await_table (counted_by zero looks waited))
counted_next true true waited = refl
counted_next true false waited = refl
counted_next false looks true = refl
counted_next false looks false = refl

counted_plain : (zero looks waited : Bool) → IsPlainTurn await_table (counted_by zero looks waited)
counted_plain true true waited = refl
counted_plain true false waited = refl
counted_plain false looks true = refl
counted_plain false looks false = refl

pub none_is : (v : ℕ) → (v == 0) ≡ true → v ≡ 0
none_is v is = grind (arith, nat_tests, is)

some_is : (v : ℕ) → (v == 0) ≡ false → v ≢ 0
some_is v is = grind (arith, nat_tests, is)

-- a step that changes nothing of the task leaves it standing as it stood, in another zone
pub still_stands_at : (old new : Known) → Carries unchanged old new → new.book.differs ≡ old.book.differs → (p q : Post)
    → Stands old p → q.head ≡ p.head → q.ticket ≡ p.ticket → q.stirs ≡ p.stirs → q.state ≡ p.state
    → ((o : Option Entry) → IsHome p.zone p.watch o → IsHome q.zone q.watch o) → Stands new q
still_stands_at old new carries differs p q s head ticket stirs state home =
    still_stands unchanged old new p q carries s
    (λ h at. differs ∙ s.agreed h (sym head ∙ at)) refl (λ x. refl) (sym head) (λ h at. s.at h (sym head ∙ at))
    (sym ticket)
    (subst (λ (b : Bool). IsStateFor b q.state old.book.state) (sym stirs)
    (subst (λ (σ : ℕ). IsStateFor p.stirs σ old.book.state) (sym state) s.state)) home

pub keeps_unchanged : {f : Excuse → Excuse} (i : ℕ) (old new : Known) → Carries unchanged old new → KeepsBut f i old new
keeps_unchanged {f} i old new carries = keeps_of i unchanged old new carries (λ w. refl) (λ x away. refl)
    (λ x. carries.owes (with_entry i (f x)))

-- what a load makes known, in any hold
pub loads_known : (d : ℕ) (knew new : Known) (v : ℕ) → HasBegunHold d knew
    → new ≡ added knew (item.Made (step.Load (watch.Done d) v)) → FindsCount knew d v → Carries unchanged knew new
    → Knows new d v
loads_known d knew new v begun is finds carries =
    record {
      counts = (loaded_count d v knew new is, finds.0);
      loaded = load_loaded d knew new v (history_after knew new (step.Load (watch.Done d) v) is) carries.number begun;
    }

module _ (old knew new : Known) (run : Run AwaitCall) (v : ℕ) (there : run.of.cell < COMPLETIONS)
    (looks : OnlyLooks old knew) (begun : HasBegunHold run.of.cell knew) (up : IsUp knew)
    (keeps : CellKeeps (own_of old) old knew)
    (is : new ≡ added knew (item.Made (step.Load (watch.Done run.of.cell) v))) (finds : FindsCount knew run.of.cell v)
    (carries : Carries unchanged knew new) where
  abbrev r : AwaitCall
  r = run.of

  abbrev q : AwaitCall
  q = record r { count = v }

  abbrev e : Step
  e = step.Load (watch.Done r.cell) v

  knows : Knows new r.cell v
  knows = loads_known r.cell knew new v begun is finds carries

  trail : (zero admits waited : Bool) → (v == 0) ≡ zero → TurnTrail await_table new q (counted_by zero admits waited)
  trail true true waited none = (
    subst (Knows new r.cell) (none_is v none) knows,
    (
      history_of knew,
      history_after knew new e is
          ∙ ap (λ (n : ℕ). history_of knew ++ step.Load (watch.Done r.cell) n ∷ []) (none_is v none),
    ),
  )
  trail true false waited none = subst (Knows new r.cell) (none_is v none) knows
  trail false admits true some = (knows, some_is v some)
  trail false admits false some = (knows, some_is v some)

  moved : (p z : Post) → Stands knew p → z.head ≡ p.head → z.ticket ≡ p.ticket → z.stirs ≡ p.stirs → z.state ≡ p.state
      → ((o : Option Entry) → IsHome p.zone p.watch o → IsHome z.zone z.watch o) → Stands new z
  moved = still_stands_at knew new carries (ap (λ (k : Known). k.book.differs) is)

  stood : (waited zero admits : Bool) → Stands knew (post_of await_table r (load_stage waited))
      → Stands new (turn_post await_table q (counted_by zero admits waited))
  stood true true true s = moved _ _ s refl refl refl refl (λ o h. h)
  stood true true false s = moved _ _ s refl refl refl refl (λ o h. h)
  stood true false admits s = moved _ _ s refl refl refl refl (λ o h. h)
  stood false true true s = moved _ _ s refl refl refl refl (home_waits (watch.Done r.cell))
  stood false true false s = moved _ _ s refl refl refl refl (home_waits (watch.Done r.cell))
  stood false false admits s = moved _ _ s refl refl refl refl (λ o h. h)

  abbrev zero : Bool
  zero = v == 0

  abbrev admits : Bool
  admits = looks_in r.state

  kept : CellKeeps (own_of old) old new
  kept = keeps_on (own_of old) old knew new keeps (keeps_unchanged (own_of old) knew new carries)

  tells : (x : Transition) → x.did ≡ by_step e → AwaitTells r q (x ∷ [])
  tells x did = told_by r q x refl refl refl (ap is_queue did) (subst InRange (sym did) finds.0)

  loads : (waited : Bool) → Stands knew (post_of await_table r (load_stage waited))
      → GoesOn await_table old new r q (load_stage waited) (counted_by zero admits waited)
  loads true s = own_goes await_table old knew new r q stage.AgainLoad (counted_by zero admits true) e (with_value v)
      looks (step_behind knew new e is) tells kept (counted_next zero admits true) refl (refl, tt, tt)
      (carries.awake ∙ up) (stood true zero admits s) (trail zero admits true refl)
  loads false s = own_goes await_table old knew new r q stage.FirstLoad (counted_by zero admits false) e (with_value v)
      looks (step_behind knew new e is) tells kept (counted_next zero admits false) refl (refl, tt, tt)
      (carries.awake ∙ up) (stood false zero admits s) (trail zero admits false refl)

  pub load_turned : (waited : Bool) → Stands knew (post_of await_table r (load_stage waited))
      → Turned await_table old new run (record run { of = q }) (load_stage waited) (counted_to q waited)
  load_turned waited s = advance_by await_table old new run (record run { of = q }) (load_stage waited)
      (counted_to q waited) refl there (counted_plain zero admits waited) (loads waited s)

-- the first hold
pub first_turned : (old new : Known) (run : Run AwaitCall) (v : ℕ) → IsAt await_table old run stage.FirstLoad
    → new ≡ added old (item.Made (step.Load (watch.Done run.of.cell) v)) → FindsCount old run.of.cell v
    → Carries unchanged old new → (u : AwaitTurn) → u ≡ counted_to (record run.of { count = v }) false
    → Turned await_table old new run (record run { of = record run.of { count = v } }) stage.FirstLoad u
first_turned old new run v a is finds carries u to = subst (λ (z : AwaitTurn). Turned await_table old new run
    (record run { of = record run.of { count = v } }) stage.FirstLoad z) (sym to)
    (load_turned old old new run v a.fits (only_none old) a.trail a.up (keeps_none (own_of old) old) is finds carries
    false a.stands)

-- a further one, behind a look at the own entry
module _ (old mid : Known) (run : Run AwaitCall) (o : Option Entry) (h : HasSeenOwn old mid o)
    (a : IsAt await_table old run stage.AgainLoad) where
  abbrev p : Post
  p = post_of await_table run.of stage.AgainLoad

  seen_history : history_of mid ≡ history_of old ++ step.Saw (own_of old) h.word ∷ []
  seen_history = (calm_saw old mid o h (await_head run.of) a.stands.head).history

  home : (f : Option Entry) → o ≡ f → IsHome waits p.watch f
  home None is = tt
  home (Some e) is = seen_home old mid o h p a.stands e is

  pub again_turned : (new : Known) (v : ℕ) → new ≡ added mid (item.Made (step.Load (watch.Done run.of.cell) v))
      → FindsCount mid run.of.cell v → Carries unchanged mid new → (u : AwaitTurn)
      → u ≡ counted_to (record run.of { count = v }) true
      → Turned await_table old new run (record run { of = record run.of { count = v } }) stage.AgainLoad u
  again_turned new v is finds carries u to = subst (λ (z : AwaitTurn). Turned await_table old new run
      (record run { of = record run.of { count = v } }) stage.AgainLoad z) (sym to)
      (load_turned old mid new run v a.fits (seen_looks old mid o h (await_head run.of) a.stands.head)
      (again_begun run.of.cell old mid h.word seen_history h.carries.number a.trail) (h.carries.awake ∙ a.up)
      (own_keeps old mid o h) is finds carries true (seen_stands old mid o h p waits a.stands (home o refl)))

  pub again_agreed : IsAgreedHold mid
  again_agreed i held = ap (λ (b : Book). b.differs) (seen_book old mid o h)
      ∙ a.stands.agreed (await_head run.of) refl
