-- The stores of the own state and entry, and the load of the own flag.
use Rattle.std.proofs.Common.{refl, sym, ◌∙◌, ap, subst, arith, inl, inr}
use Rattle.std.specs.Prelude.{ℕ, ◌≡◌, ◌≢◌, ◌⊎◌, Option, Some, None, Bool, true, false, not, ◌&&◌, ◌||◌, IsTrue}
use Rattle.wait_model.specs.{declared.watches.Watch.Watch, declared.watches.Entry.Entry, declared.steps.Step.Step}
use Rattle.wait_model.specs.{declared.tasks.TaskRecord.TaskRecord, Facts.Facts, Facts.Kept, Fold.after, Words.flag_of}
use Rattle.wait_model.specs.{Laws.Unheard, Rows.Allowed}
use Rattle.wait_model.specs.Views.{Walk, View, checked, gone, ahead, covers, warns}
use Rattle.wait_model.specs.Watches.{same, head_of, is_done, is_bit, is_woken, is_simple, owner, is_page}
use Rattle.wait_model.specs.Tables.{Table, met, next}
use Rattle.wait_model.proofs.StepLaws.QuietSteps.{back_waits}
use Rattle.wait_model.proofs.StepLaws.UntouchedParts.{Free, Moves, framed, own_view, own_now, at_view, Outcome}
use Rattle.wait_model.proofs.StepLaws.UntouchedParts.{back_view}
use Rattle.wait_model.proofs.Sameness.{same_bit, same_done_is, not_both}
use Rattle.wait_model.proofs.Functions.{put_case, put_at, bool_or}
use Rattle.wait_model.specs.declared.steps.Step.TheVariants as step

-- the own store of a state leaves only what a hold of a completion's head found, and a page's failed test-and-set
pub stored_own : (v : View) (σ x : ℕ) (e : Entry) (on : Watch) (m : ℕ) → is_page e.kind ≡ false
    → checked (after (step.State σ) v) x e on ≡ Some m → (is_done on ≡ true) × (v.hold.zero on ≡ Some m)
stored_own v σ x e on m np h = (grind arith, grind arith)

pub stored_page : (v : View) (σ x : ℕ) (e : Entry) (on : Watch) (m : ℕ) → is_page e.kind ≡ true
    → checked (after (step.State σ) v) x e on ≡ Some m → checked v x e on ≡ Some m
stored_page v σ x e on m pa h = grind arith

-- a task that found done 0 in its hold, where it is no longer 0, covers every simple entry there
pub zero_covers : (s : Table) (a x : ℕ) (e : Entry) (on : Watch) (m σ : ℕ) → Facts s → s.entry x ≡ Some e
    → same on e.watch ≡ true → is_done on ≡ true → (s.view a).hold.zero on ≡ Some m → met s.words on ≡ true
    → IsTrue (covers (s.view a) x e σ)
zero_covers s a x e on m σ k st sa co ze is =
    let eq : on ≡ e.watch = same_done_is on e.watch co sa in
    let ow : (s.view a).duty.owes e.watch σ ≡ true = subst (λ (c : Watch). (s.view a).duty.owes c σ ≡ true) eq
    ((k.views a).zero.owing on m co ze is σ) in
    let un : (s.view a).duty.cleared e.watch x ≡ false = (k.views a).hold.uncleared (head_of on)
    ((k.views a).zero.held on m ze) e.watch x in
    let si : is_simple e.kind ≡ true = (k.suits x e st).0 (subst (λ (c : Watch). is_done c ≡ true) eq co) in
    by ((s.view a).duty.owes e.watch σ) ((s.view a).duty.cleared e.watch x) (is_simple e.kind)
    (ahead (s.view a).walk (gone (s.view a) x e) e.watch σ e.place) ow un si
  where
    by : (ow cl si ah : Bool) → ow ≡ true → cl ≡ false → si ≡ true → (ow && (not cl && (si || ah))) ≡ true
    by ow cl si ah p q r = grind arith

-- such a cover is of no bit
free_of_done : (s : Table) (a : ℕ) (ev : Step) (e : Entry) (on : Watch) → same on e.watch ≡ true
    → is_done on ≡ true → Free s a ev e
free_of_done s a ev e on sa co i = absurd (not_both on co (same_bit on e.watch sa i))

pub stored_task : (s : Table) (a σ i : ℕ) → i ≢ a → ((next s a (step.State σ)).task i) ≡ s.task i
stored_task s a σ i ne = put_at (λ t. t ≡ s.task i) s.task a (record (s.task a) { state = σ }) i
    (λ q. absurd (ne q)) (λ _. refl)

pub state_moves : (s : Table) (a state : ℕ) → Facts s → Moves s a (step.State state)
state_moves s a state k x e on m σ z = by (is_page e.kind) refl
  where
    by : (b : Bool) → is_page e.kind ≡ b → Outcome s a (step.State state) x e on m σ
    by true pa = framed s a (step.State state) x e on m σ
        (record {
          stands = z.stands;
          watches = z.watches;
          down = λ np. absurd (cc);
          failed = back_view s a (after (step.State state) (s.view a)) (λ v. checked v x e on ≡ Some m)
              (stored_page (s.view a) state x e on m pa) (owner x) z.failed;
          is_set = z.is_set;
        }) (λ h. h) (λ h. h)
    by false np = elim (put_case s.view a (after (step.State state) (s.view a)) (owner x)) [
      | inl q ↦ let own : (is_done on ≡ true) × ((s.view a).hold.zero on ≡ Some m) =
          stored_own (s.view a) state x e on m np (subst (λ (v : View). checked v x e on ≡ Some m) q.1 z.failed) in
          inr (inl (
            zero_covers s a x e on m σ k z.stands z.watches own.0 own.1 z.is_set,
            free_of_done s a (step.State state) e on z.watches own.0,
          ))
      | inr q ↦ let same_task : (next s a (step.State state)).task (owner x) ≡ s.task (owner x) =
          stored_task s a state (owner x) q.0 in
          framed s a (step.State state) x e on m σ
          (record {
            stands = z.stands;
            watches = z.watches;
            down = λ np. (ap (λ (t : TaskRecord). t.state) (sym same_task) ∙ (z.down np).0, (z.down np).1);
            failed = subst (λ (v : View). checked v x e on ≡ Some m) q.1 z.failed;
            is_set = z.is_set;
          })
          (λ h. h) (λ h. h)
    ]

pub queued_own : (v : View) (y : ℕ) (d : Entry) (x : ℕ) (e : Entry) (on : Watch) (m : ℕ) → x ≡ y
    → checked (after (step.Queue y d) v) x e on ≡ Some m → (is_done on ≡ true) × (v.hold.prepared ≡ true)
    × (v.checks.zero_failed x on ≡ Some m)
queued_own v y d x e on m q h = (grind arith, grind arith, grind arith)

pub queued_other : (v : View) (y : ℕ) (d : Entry) (x : ℕ) (e : Entry) (on : Watch) (m : ℕ) → x ≢ y
    → checked (after (step.Queue y d) v) x e on ≡ Some m → checked v x e on ≡ Some m
queued_other v y d x e on m q h = grind arith

pub queue_moves : (s : Table) (a y : ℕ) (d : Entry) → Facts s → Facts (next s a (step.Queue y d))
    → Allowed s a (step.Queue y d) → Moves s a (step.Queue y d)
queue_moves s a y d k k2 al x e on m σ z = elim (put_case s.entry y (Some d) x) [
  | inl q ↦ let own : (is_done on ≡ true) × ((s.view a).hold.prepared ≡ true)
      × ((s.view a).checks.zero_failed x on ≡ Some m)
      = queued_own (s.view a) y d x e on m q.0 (at_view s a (owner x) (after (step.Queue y d) (s.view a))
      (λ v. checked v x e on ≡ Some m) (ap owner q.0 ∙ al.0) z.failed) in
      inr (inl (
        own_now s a (after (step.Queue y d) (s.view a)) (λ v. IsTrue (covers v x e σ))
            (zero_covers (next s a (step.Queue y d)) a x e on m σ k2 z.stands z.watches
            own.0
            (own_view s a (after (step.Queue y d) (s.view a)) (λ v. v.hold.zero on ≡ Some m)
            ((k.views a).zero.here x on m own.1 own.2)) z.is_set),
        free_of_done s a (step.Queue y d) e on z.watches own.0,
      ))
  | inr q ↦ framed s a (step.Queue y d) x e on m σ
      (back_waits s a (step.Queue y d) x e on m σ (queued_other (s.view a) y d x e on m q.0) (λ h. sym q.1
      ∙ h) (λ _ h. h) (λ h. h) z) (λ h. h) (λ h. h)
]

pub flag_own : (v : View) (y w x : ℕ) (e : Entry) (on : Watch) (m : ℕ)
    → checked (after (step.Flag y w) v) x e on ≡ Some m → (checked v x e on ≡ Some m)
    ⊎ ((x ≡ y) × (flag_of w ≡ false) × (is_woken e.kind ≡ true) × (v.checks.low x on ≡ Some m))
flag_own v y w x e on m h = grind arith

-- who will still set the flag covers the entry until it has been rung
pub warns_covers : (v : View) (x : ℕ) (e : Entry) (σ : ℕ) → is_woken e.kind ≡ true
    → (v.hold.rung x ≡ true → v.hold.flagged x ≡ true) → IsTrue (warns v x e σ) → IsTrue (covers v x e σ)
warns_covers v x e σ wo ru h =
    let gn : gone v x e ≡ v.hold.rung x = grind arith in
    rw gn (by v.walk (v.duty.owes e.watch σ) (v.duty.cleared e.watch x) (is_simple e.kind) (v.hold.flagged x)
    (v.hold.rung x) e.watch σ e.place ru h)
  where
    turn : (o : Option Walk) (fl ru : Bool) (c : Watch) (σ p : ℕ) → (ru ≡ true → fl ≡ true)
        → IsTrue (ahead o fl c σ p) → IsTrue (ahead o ru c σ p)
    turn None fl ru c σ p k h = refl
    turn (Some w) fl ru c σ p k h = grind arith

    by : (o : Option Walk) (ow cl si fl ru : Bool) (c : Watch) (σ p : ℕ) → (ru ≡ true → fl ≡ true)
        → (ow && (not cl && ahead o fl c σ p)) ≡ true → (ow && (not cl && (si || ahead o ru c σ p))) ≡ true
    by o ow cl si fl ru c σ p k h = grind (arith, turn o fl ru c σ p k)

pub flag_moves : (s : Table) (a y w : ℕ) → Kept s → Allowed s a (step.Flag y w) → Moves s a (step.Flag y w)
flag_moves s a y w k al x e on m σ z = elim (put_case s.view a (after (step.Flag y w) (s.view a)) (owner x)) [
  | inl q ↦ elim
      (flag_own (s.view a) y w x e on m (subst (λ (v : View). checked v x e on ≡ Some m) q.1 z.failed)) [
        | inl old ↦ framed s a (step.Flag y w) x e on m σ
            (record {
              stands = z.stands;
              watches = z.watches;
              down = z.down;
              failed = subst (λ (i : ℕ). checked (s.view i) x e on ≡ Some m) (sym q.0) old;
              is_set = z.is_set;
            })
            (λ h. h) (λ h. h)
        | inr fresh ↦ elim (k.no_lost_flag x e on m (unheard q.0 fresh.0 fresh.1 fresh.2 fresh.3) σ) [
          | inl h ↦ inr
              (inr (
                no_bit fresh.2,
                inl (
                  h.0,
                  warns_kept h.0 (warns_covers (s.view h.0) x e σ fresh.2
                      ((k.facts.views h.0).rung x) h.1),
                ),
              ))
          | inr h ↦ inr (inr (no_bit fresh.2, inr h))
        ]
      ]
  | inr q ↦ framed s a (step.Flag y w) x e on m σ
      (record {
        stands = z.stands;
        watches = z.watches;
        down = z.down;
        failed = subst (λ (v : View). checked v x e on ≡ Some m) q.1 z.failed;
        is_set = z.is_set;
      })
      (λ h. h) (λ h. h)
]
  where
    no_bit : is_woken e.kind ≡ true → is_bit e.watch ≡ false
    no_bit wo = elim (bool_or (is_bit e.watch)) [
      | inl b ↦ absurd (let nw : is_woken e.kind ≡ false = (k.facts.suits x e z.stands).1 b in cc)
      | inr b ↦ b
    ]

    unheard : owner x ≡ a → x ≡ y → flag_of w ≡ false → is_woken e.kind ≡ true
        → (s.view a).checks.low x on ≡ Some m → Unheard s x e on m
    unheard own xy no_flag wo lo = record {
      stands = z.stands;
      watches = z.watches;
      kind = wo;
      low = subst (λ (i : ℕ). (s.view i).checks.low x on ≡ Some m) (sym own) lo;
      quiet = let fx : s.flag x ≡ s.flag y = ap s.flag xy in let fy : flag_of w ≡ s.flag y = al.1 in cc;
      is_set = z.is_set;
    }

    warns_kept : (d : ℕ) → IsTrue (covers (s.view d) x e σ)
        → IsTrue (covers ((next s a (step.Flag y w)).view d) x e σ)
    warns_kept d h = put_at (λ (v : View). IsTrue (covers v x e σ)) s.view a
        (after (step.Flag y w) (s.view a)) d
        (λ q. subst (λ (i : ℕ). IsTrue (covers (s.view i) x e σ)) q h) (λ _. h)
