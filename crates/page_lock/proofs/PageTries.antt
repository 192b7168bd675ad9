-- The page is tried.
use Rattle.std.proofs.Common.{◌∙◌, ap, sym, refl, subst, append_assoc}
use Rattle.std.specs.Prelude.{ℕ, ◌≡◌, not, Bool, true, false, if◌then◌else◌, Option, Some, None, List, [], ◌∷◌, ◌++◌}
use Rattle.wait_model.specs.declared.calls.Answer.TheVariants as answer
use Rattle.wait_model.specs.{declared.calls.Event.Event, declared.points.Planned.Planned, declared.points.Point.Point}
use Rattle.wait_model.specs.{declared.steps.Step.Step, declared.watches.Entry.Entry, declared.watches.Watch.Watch}
use Rattle.wait_model.specs.{Points.given_at, Views.View as Told, Watches.was_clear, Words.bit_at}
use Rattle.wait_model.specs.PointFacts.{IsHome, pages, seated}
use Rattle.wait_model.specs.Programs.{ends_with, exchange, go, zero_answer}
use Rattle.wait_model.specs.declared.points.PagePoint.TheVariants as paging
use Rattle.wait_model.specs.declared.points.Next.TheVariants as next
use Rattle.wait_model.specs.declared.points.Point.TheVariants as at
use Rattle.wait_model.specs.declared.steps.Step.TheVariants as step
use Rattle.wait_rule.specs.declared.journal.Item.TheVariants as item
use Rattle.wait_rule.specs.{Bits.KeepsBitOf, Bits.SetsBit, Known.Known, Queues.index}
use Rattle.wait_rule.specs.{Quiet.is_quiet_at, Transitions.IsMadeFor, Transitions.by_step}
use Rattle.wait_rule.specs.Says.{added, asks_for, history_of, told_of}
use Rattle.wait_rule.proofs.{KnownLaws.AfterSteps.told_added, KnownLaws.AskedPages.asked_added}
use Rattle.wait_rule.proofs.{KnownLaws.QuietFlags.quiet_more, KnownLaws.TaskHistories.history_after}
use Rattle.wait_rule.proofs.{KnownLaws.Transitions.only_none, WornHeads.WornNotes.notes_stay}
use Rattle.wait_class.specs.{Posts.own_of, Findings.with_value, declared.stages.Run.Run, Laws.IsPlainTurn}
use Rattle.wait_class.specs.Laws.{turn_post}
use Rattle.wait_class.specs.Tables.{IsAt, Turned, post_of}
use Rattle.wait_class.proofs.{Histories.ends_more, OwnSteps.own_goes, OwnSteps.stands_same, Turns.GoesOn}
use Rattle.wait_class.proofs.Turns.{advance_by}
use Rattle.wait_class.specs.declared.stages.Turn.TheVariants as turn
use Rattle.page_lock.specs.{PageStays.PageKeeps, declared.waits.LockPage.LockPage, declared.waits.PageStage.PageStage}
use Rattle.page_lock.specs.PageTables.{PageTurn, TriesAt, page_head_in, page_call, page_in, page_table, page_tried_to}
use Rattle.page_lock.specs.PageTables.{tries_page}
use Rattle.page_lock.specs.declared.waits.PageOutcome.TheVariants as outcome
use Rattle.page_lock.specs.declared.waits.PageStage.TheVariants as stage
use Rattle.page_lock.proofs.{PageGround.page_keeps_set, PageTrails.over_end}

-- an entry that is seated may be one that waits
seated_waits : (c : Watch) (o : Option Entry) → IsHome seated c o → IsHome pages c o
seated_waits c None h = tt
seated_waits c (Some e) h = h

-- the event of a way that tests
pub either_event : (P : Event → Type 0) (b : Bool) (x y : Planned) → P x.event → P y.event
    → P (if b then x else y).event
either_event P true x y one two = one
either_event P false x y one two = two

module _ (old : Known) (run : Run LockPage) (v : ℕ) where
  abbrev r : LockPage
  r = run.of

  abbrev e : Step
  e = step.Consume (page_in r) 1 v

  abbrev new : Known
  new = added old (item.Made e)

  -- the run has what it found too
  abbrev q : LockPage
  q = record r { seen = v }

  asks : asks_for new ≡ asks_for old
  asks = asked_added old (item.Made e)

  history : history_of new ≡ history_of old ++ tries_page q
  history = history_after old new e refl

  abbrev ev : Event
  ev = exchange (page_call r) (with_value v)

  abbrev unflags : Planned
  unflags = go ev (at.Page paging.Unflag)

  abbrev over : Planned
  over = ends_with ev zero_answer

  abbrev worn : Planned
  worn = ends_with ev answer.Worn

  abbrev Made : Point → Event → Type 0
  Made p x = IsMadeFor old (Some (index old.view.number 0)) (given_at (page_call r) p) x (by_step e)

  module _ (sets : SetsBit old new (page_in r) (was_clear (page_in r) v)) where
    kept : (b : Bool) → bit_at v 0 ≡ b → PageKeeps (index old.view.number 0) (page_in r) false (not b) old new
    kept b set = subst (λ (g : Bool). PageKeeps (index old.view.number 0) (page_in r) false (not g) old new) set
        (page_keeps_set (index old.view.number 0) (page_in r) (was_clear (page_in r) v) old new sets)

    keeps_page : bit_at v 0 ≡ false → KeepsBitOf new (page_in r)
    keeps_page clear = sets.keeps (ap not clear)

    try_from : (s : PageStage) → TriesAt s → IsAt page_table old run s → (b : Bool) → bit_at v 0 ≡ b
        → GoesOn page_table old new r q s (page_tried_to s b)
    try_from stage.First own a true set = own_goes page_table old old new r q stage.First (turn.Again stage.Unflag) e
        (with_value v) (only_none old) (only_none new) (λ x did. tt) (kept true set)
        (ap (λ (c : Bool). (if c then unflags else over).next) set)
        (either_event (Made (at.Page paging.First)) (bit_at v 0) unflags over (refl, refl) (refl, refl)) (refl, tt, tt)
        a.up
        (stands_same old e (post_of page_table r stage.First) (turn_post page_table q (turn.Again stage.Unflag)) a.stands
        refl refl refl refl a.stands.state a.stands.home)
        (asks ∙ a.trail, record { tried = (history_of old, history); set = set })
    try_from stage.First own a false set = own_goes page_table old old new r q stage.First (turn.Done outcome.Over) e
        (with_value v) (only_none old) (only_none new) (λ x did. tt) (kept false set)
        (ap (λ (c : Bool). (if c then unflags else over).next) set)
        (either_event (Made (at.Page paging.First)) (bit_at v 0) unflags over (refl, refl) (refl, refl)) (refl, tt, tt)
        a.up
        (stands_same old e (post_of page_table r stage.First) (turn_post page_table q (turn.Done outcome.Over)) a.stands
        refl refl refl refl a.stands.state a.stands.home)
        (over_end new q (keeps_page set) (asks ∙ a.trail))
    try_from stage.Try own a true set = own_goes page_table old old new r q stage.Try
        (turn.Again (stage.QueueUnlock false)) e (with_value v) (only_none old) (only_none new) (λ x did. tt)
        (kept true set)
        (ap (λ (c : Bool). next.Go (at.Page (if c then paging.Unlock false else paging.Off))) set)
        (refl, refl) (refl, tt, tt) a.up
        (stands_same old e (post_of page_table r stage.Try)
        (turn_post page_table q (turn.Again (stage.QueueUnlock false))) a.stands refl refl refl refl a.stands.state
        (seated_waits (page_in r) ((told_of old).bits.stored (own_of old)) a.stands.home))
        (record {
          asks = asks ∙ a.trail.asks;
          quiet = ap (is_quiet_at (own_of old)) history ∙ (quiet_more (own_of old) (history_of old) (tries_page q)
              ∙ a.trail.quiet);
          found = record {
            before = a.trail.ends.0;
            entry = a.trail.entry;
            more = [];
            ends = history ∙ (ap (λ (l : List Step). l ++ tries_page q) a.trail.ends.1
                ∙ append_assoc a.trail.ends.0 (step.Queue (own_of old) a.trail.entry ∷ []) (tries_page q));
            set = set;
            calm = refl;
          };
        })
    try_from stage.Try own a false set = own_goes page_table old old new r q stage.Try (turn.Again stage.Off) e
        (with_value v) (only_none old) (only_none new) (λ x did. tt) (kept false set)
        (ap (λ (c : Bool). next.Go (at.Page (if c then paging.Unlock false else paging.Off))) set)
        (refl, refl) (refl, tt, tt) a.up
        (stands_same old e (post_of page_table r stage.Try) (turn_post page_table q (turn.Again stage.Off)) a.stands
        refl refl refl refl a.stands.state a.stands.home)
        (record {
          asks = asks ∙ a.trail.asks;
          entry = a.trail.entry;
          shows = ap (λ (u : Told). u.hold.book (own_of old)) (told_added old (item.Made e)) ∙ a.trail.shows;
          keeps = keeps_page set;
        })
    try_from stage.Worn own a true set = own_goes page_table old old new r q stage.Worn (turn.Done outcome.Worn) e
        (with_value v) (only_none old) (only_none new) (λ x did. tt) (kept true set)
        (ap (λ (c : Bool). (if c then worn else over).next) set)
        (either_event (Made at.Worn) (bit_at v 0) worn over (refl, refl) (refl, refl)) (refl, tt, tt) a.up
        (stands_same old e (post_of page_table r stage.Worn) (turn_post page_table q (turn.Done outcome.Worn)) a.stands
        refl refl refl refl a.stands.state a.stands.home)
        (record {
          cause = record {
            head = refl;
            noted = notes_stay old.view.number old.view.items (item.Made e ∷ []) (page_head_in r) r.place a.trail.1.noted;
            found = v;
            ends = ends_more old new (step.Unlock (page_head_in r) false ∷ []) (tries_page q) a.trail.1.ends history;
            set = set;
          };
          keeps = λ is. absurd (cc);
          asks = asks ∙ a.trail.0;
        })
    try_from stage.Worn own a false set = own_goes page_table old old new r q stage.Worn (turn.Done outcome.Over) e
        (with_value v) (only_none old) (only_none new) (λ x did. tt) (kept false set)
        (ap (λ (c : Bool). (if c then worn else over).next) set)
        (either_event (Made at.Worn) (bit_at v 0) worn over (refl, refl) (refl, refl)) (refl, tt, tt) a.up
        (stands_same old e (post_of page_table r stage.Worn) (turn_post page_table q (turn.Done outcome.Over)) a.stands
        refl refl refl refl a.stands.state a.stands.home)
        (over_end new q (keeps_page set) (asks ∙ a.trail.0))
    try_from s own a b set = absurd own

plain_tries : (s : PageStage) → TriesAt s → (b : Bool) → IsPlainTurn page_table (page_tried_to s b)
plain_tries stage.First own true = refl
plain_tries stage.First own false = tt
plain_tries stage.Try own true = refl
plain_tries stage.Try own false = refl
plain_tries stage.Worn own true = tt
plain_tries stage.Worn own false = tt
plain_tries s own b = absurd own

pub try_advances : (old new : Known) (r : Run LockPage) (s : PageStage) → TriesAt s → IsAt page_table old r s → (v : ℕ)
    → new ≡ added old (item.Made (step.Consume (page_in r.of) 1 v))
    → SetsBit old new (page_in r.of) (was_clear (page_in r.of) v) → (b : Bool) → b ≡ bit_at v 0 → (u : PageTurn)
    → u ≡ page_tried_to s b → Turned page_table old new r (record r { of = record r.of { seen = v } }) s u
try_advances old new r s own a v is sets b tells u to =
    let q : Run LockPage = record r { of = record r.of { seen = v } } in
    subst (λ (n : PageTurn). Turned page_table old new r q s n) (sym to)
    (subst (λ (k : Known). Turned page_table old k r q s (page_tried_to s b)) (sym is)
    (advance_by page_table old (added old (item.Made (step.Consume (page_in r.of) 1 v))) r q s (page_tried_to s b) refl a.fits
    (plain_tries s own b)
    (try_from old r v (subst (λ (k : Known). SetsBit old k (page_in r.of) (was_clear (page_in r.of) v)) is sets) s own a
    b (sym tells))))
