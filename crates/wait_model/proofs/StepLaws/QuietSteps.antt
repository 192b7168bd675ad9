-- What the steps do to a part of the law that set no watch and make no load that failed.
use Rattle.std.proofs.Common.{refl, sym, ap, subst, arith, ◌∙◌, false, inl, inr}
use Rattle.std.specs.Prelude.{ℕ, ◌≡◌, ◌≢◌, ◌-◌, ◌^◌, ◌<◌, ◌⊎◌, Option, Some, Bool, true, IsTrue, false, not, ◌&&◌, ◌||◌}
use Rattle.std.specs.Prelude.{cond, None}
use Rattle.wait_model.specs.{declared.watches.Watch.Watch, declared.watches.Entry.Entry, declared.steps.Step.Step}
use Rattle.wait_model.specs.{declared.tasks.TaskRecord.TaskRecord, Tasks.raised, Tasks.accepted, Laws.Waits}
use Rattle.wait_model.specs.Rows.{Lowers}
use Rattle.wait_model.specs.Views.{View, checked, covers, Walk, gone, ahead}
use Rattle.wait_model.specs.Fold.{after, is_for_page, after_tas_for}
use Rattle.wait_model.specs.Watches.{head_of, owner, is_bit, same, page, is_woken, is_page, is_done, is_simple}
use Rattle.wait_model.specs.Watches.{was_clear}
use Rattle.wait_model.specs.Tables.{Words, Table, met, next, consume}
use Rattle.wait_model.proofs.StepLaws.UntouchedParts.{back_view, Moves, framed}
use Rattle.wait_model.proofs.Sameness.{consume_sets_none, tas_unmet, same_trans, same_of_page}
use Rattle.wait_model.proofs.Functions.{put_at, bool_or}
use Rattle.wait_model.specs.declared.steps.Step.TheVariants as step

-- a step that makes no reading of the own view true, changes no entry into another, and sets no watch
pub back_waits : (s : Table) (a : ℕ) (ev : Step) (x : ℕ) (e : Entry) (on : Watch) (m σ : ℕ)
    → (checked (after ev (s.view a)) x e on ≡ Some m → checked (s.view a) x e on ≡ Some m)
    → ((next s a ev).entry x ≡ Some e → s.entry x ≡ Some e)
    → (σ ≢ 0 → ((next s a ev).task (owner x)).state ≡ σ → (s.task (owner x)).state ≡ σ)
    → (met (next s a ev).words on ≡ true → met s.words on ≡ true)
    → Waits (next s a ev) x e on m σ → Waits s x e on m σ
back_waits s a ev x e on m σ own entry state set z = record {
  stands = entry z.stands;
  watches = z.watches;
  down = λ np. (state (z.down np).1 (z.down np).0, (z.down np).1);
  is_set = set z.is_set;
  failed = back_view s a (after ev (s.view a)) (λ v. checked v x e on ≡ Some m) own (owner x) z.failed;
}

-- a step that changes only what the law does not speak of
pub still_moves : (s : Table) (a : ℕ) (ev : Step) → ((v : View) → after ev v ≡ v)
    → ((next s a ev).entry ≡ s.entry) → ((next s a ev).spent ≡ s.spent) → ((next s a ev).words ≡ s.words)
    → ((i : ℕ) → ((next s a ev).task i).state ≢ 0 → ((next s a ev).task i).state ≡ (s.task i).state)
    → Moves s a ev
still_moves s a ev view entry spent words state x e on m σ z = framed s a ev x e on m σ
    (back_waits s a ev x e on m σ (λ h. subst (λ (v : View). checked v x e on ≡ Some m) (view (s.view a)) h)
    (λ h. subst (λ (f : ℕ → Option Entry). f x ≡ Some e) entry h)
    (λ ne q. sym (state (owner x) (subst (λ (n : ℕ). n ≢ 0) (sym q) ne)) ∙ q)
    (λ h. subst (λ (w : Words). met w on ≡ true) words h) z)
    (λ h. (
      h.0,
      subst (λ (f : ℕ → ℕ). (m < f (head_of e.watch)) ⊎ (f (head_of e.watch) ≡ 2 ^ 62 - 1))
          (sym spent) h.1,
    ))
    (λ h. subst (λ (v : View). IsTrue (covers v x e σ)) (sym (view (s.view a))) h)

pub slept_state : (s : Table) (a w i : ℕ) → ((next s a (step.Sleep w)).task i).state ≢ 0
    → ((next s a (step.Sleep w)).task i).state ≡ (s.task i).state
slept_state s a w i h = grind arith

pub slept_moves : (s : Table) (a w : ℕ) → Moves s a (step.Sleep w)
slept_moves s a w = still_moves s a (step.Sleep w) (λ v. refl) refl refl refl (slept_state s a w)

pub signal_state : (s : Table) (a who : ℕ) (fatal : Bool) (w i : ℕ)
    → ((next s a (step.Signal who fatal w)).task i).state ≡ (s.task i).state
signal_state s a who fatal w i = put_at (λ (t : TaskRecord). t.state ≡ (s.task i).state) s.task who
    (raised fatal (s.task who)) i (λ q. ap (λ (j : ℕ). (s.task j).state) (sym q)) (λ _. refl)

pub signal_moves : (s : Table) (a who : ℕ) (fatal : Bool) (w : ℕ) → Moves s a (step.Signal who fatal w)
signal_moves s a who fatal w = still_moves s a (step.Signal who fatal w) (λ v. refl) refl refl refl
    (λ i _. signal_state s a who fatal w i)

pub accept_state : (s : Table) (a w i : ℕ) → ((next s a (step.Accept w)).task i).state ≡ (s.task i).state
accept_state s a w i = put_at (λ (t : TaskRecord). t.state ≡ (s.task i).state) s.task a (accepted (s.task a)) i
    (λ q. ap (λ (j : ℕ). (s.task j).state) (sym q)) (λ _. refl)

pub accept_moves : (s : Table) (a w : ℕ) → Moves s a (step.Accept w)
accept_moves s a w = still_moves s a (step.Accept w) (λ v. refl) refl refl refl (λ i _. accept_state s a w i)

pub look_moves : (s : Table) (a w : ℕ) → Moves s a (step.Look w)
look_moves s a w = still_moves s a (step.Look w) (λ v. refl) refl refl refl (λ i _. refl)

pub mark_moves : (s : Table) (a h q : ℕ) → Moves s a (step.Mark h q)
mark_moves s a h q x e on m σ z = framed s a (step.Mark h q) x e on m σ
    (back_waits s a (step.Mark h q) x e on m σ (λ q. q) (λ q. q) (λ _ q. q) (λ q. q) z) (λ q. q) (λ q. q)

pub unmark_moves : (s : Table) (a : ℕ) → Moves s a step.Unmark
unmark_moves s a x e on m σ z = framed s a step.Unmark x e on m σ
    (back_waits s a step.Unmark x e on m σ (λ q. q) (λ q. q) (λ _ q. q) (λ q. q) z) (λ q. q) (λ q. q)

pub saw_moves : (s : Table) (a y w : ℕ) → Moves s a (step.Saw y w)
saw_moves s a y w x e on m σ z = framed s a (step.Saw y w) x e on m σ
    (back_waits s a (step.Saw y w) x e on m σ (λ q. q) (λ q. q) (λ _ q. q) (λ q. q) z) (λ q. q) (λ q. q)

pub woken_moves : (s : Table) (a y : ℕ) → Moves s a (step.Woken y)
woken_moves s a y x e on m σ z = framed s a (step.Woken y) x e on m σ
    (back_waits s a (step.Woken y) x e on m σ (λ q. q) (λ q. q) (λ _ q. q) (λ q. q) z) (λ q. q) (λ q. q)

pub unqueue_moves : (s : Table) (a y : ℕ) → Moves s a (step.Unqueue y)
unqueue_moves s a y x e on m σ z = framed s a (step.Unqueue y) x e on m σ
    (back_waits s a (step.Unqueue y) x e on m σ (λ q. q) (λ q. grind arith) (λ _ q. q) (λ q. q) z) (λ q. q)
    (λ q. q)

-- an exchange of another watch tells nothing of this one
pub consumed_checked : (v : View) (c : Watch) (n r x : ℕ) (e : Entry) (on : Watch) (m : ℕ)
    → (is_bit c && same on c) ≡ false → checked (after (step.Consume c n r) v) x e on ≡ Some m
    → checked v x e on ≡ Some m
consumed_checked v c n r x e on m nope h =
    by (is_woken e.kind) (is_page e.kind) (v.checks.tas_failed x on) (is_bit c) (same on c) (was_clear c r) nope h
  where
    by : (wo pa old bi sa cl : Bool) → (bi && sa) ≡ false
        → cond wo (cond (v.checks.flag_no x) (v.checks.low x on) None)
        (cond pa (cond (old || (bi && (sa && not cl))) (Some 0) None)
        (cond (is_done on) (v.checks.zero_failed x on) (v.checks.failed x on))) ≡ Some m
        → cond wo (cond (v.checks.flag_no x) (v.checks.low x on) None)
        (cond pa (cond old (Some 0) None) (cond (is_done on) (v.checks.zero_failed x on) (v.checks.failed x on))) ≡
        Some m
    by true pa old bi sa cl nope h = h
    by false false old bi sa cl nope h = h
    by false true old bi sa cl nope h = let z : (bi && (sa && not cl)) ≡ false = grind arith in grind arith

pub consume_moves : (s : Table) (a : ℕ) (c : Watch) (n r : ℕ) → Lowers s.words c n
    → Moves s a (step.Consume c n r)
consume_moves s a c n r al x e on m σ z = elim (bool_or (is_bit c && same on c)) [
  | inl b ↦ absurd (let u : met (consume s.words c n) on ≡ false =
      tas_unmet s.words c on n (grind arith) (grind arith) in let is : met (consume s.words c n) on ≡ true = z.is_set
      in cc)
  | inr b ↦ framed s a (step.Consume c n r) x e on m σ
      (back_waits s a (step.Consume c n r) x e on m σ (consumed_checked (s.view a) c n r x e on m b) (λ q. q)
      (λ _ q. q) (consume_sets_none s.words on c n al) z) (λ q. q) (λ q. q)
]

pub unflag_checked : (v : View) (y : ℕ) (o : Option ℕ) (x : ℕ) (e : Entry) (on : Watch) (m : ℕ)
    → checked (after (step.Unflag y o) v) x e on ≡ Some m → checked v x e on ≡ Some m
unflag_checked v y o x e on m h = grind arith

pub unflag_moves : (s : Table) (a y : ℕ) (o : Option ℕ) → Moves s a (step.Unflag y o)
unflag_moves s a y o x e on m σ z = framed s a (step.Unflag y o) x e on m σ
    (back_waits s a (step.Unflag y o) x e on m σ (unflag_checked (s.view a) y o x e on m) (λ q. q) (λ _ q. q)
    (λ q. q) z) (λ q. q) (λ q. q)

-- the steps of a hand-off of a page
pub handed_moves : (s : Table) (a y : ℕ) → Moves s a (step.Handed y)
handed_moves s a y x e on m σ z = framed s a (step.Handed y) x e on m σ
    (back_waits s a (step.Handed y) x e on m σ (λ q. q) (λ q. q) (λ _ q. q) (λ q. q) z) (λ q. q) (λ q. q)

-- a walk for another watch than the entry's goes on to cover the entry
ahead_tried : (o : Option Walk) (g g2 : Bool) (c : Watch) (σ p k : ℕ) → same c (page k) ≡ false
    → (is_for_page o k ≡ false → g2 ≡ g) → IsTrue (ahead o g c σ p) → IsTrue (ahead o g2 c σ p)
ahead_tried None g g2 c σ p k nope same_g h = refl
ahead_tried (Some w) g g2 c σ p k nope same_g h = by (same (page k) w.watch) refl
  where
    by : (b : Bool) → same (page k) w.watch ≡ b → IsTrue (ahead (Some w) g2 c σ p)
    by false q = rw (same_g q) h
    by true q = let u : same c w.watch ≡ false = apart_from (same c w.watch) refl in rw u refl
      where
        apart_from : (b : Bool) → same c w.watch ≡ b → same c w.watch ≡ false
        apart_from false r = r
        apart_from true r = absurd (let t : same c (page k) ≡ true = same_of_page c w.watch k r q in cc)

gone_tried : (v : View) (p : ℕ) (cl : Bool) (x : ℕ) (e : Entry) → is_for_page v.walk p ≡ false
    → gone (record v { hold = after_tas_for p cl v }) x e ≡ gone v x e
gone_tried v p cl x e nope = grind arith

pub covers_tried : (v : View) (p r y x : ℕ) (e : Entry) (σ : ℕ) → same e.watch (page p) ≡ false
    → IsTrue (covers v x e σ) → IsTrue (covers (after (step.TasFor y p r) v) x e σ)
covers_tried v p r y x e σ nope h = by (v.duty.owes e.watch σ) (v.duty.cleared e.watch x) (is_simple e.kind)
    (ahead v.walk (gone v x e) e.watch σ e.place)
    (ahead v.walk (gone (after (step.TasFor y p r) v) x e) e.watch σ e.place)
    (ahead_tried v.walk (gone v x e) (gone (after (step.TasFor y p r) v) x e) e.watch σ e.place p nope
    (gone_tried v p (was_clear (page p) r) x e)) h
  where
    by : (ow cl si ah ah2 : Bool) → (ah ≡ true → ah2 ≡ true) → (ow && (not cl && (si || ah))) ≡ true
        → (ow && (not cl && (si || ah2))) ≡ true
    by ow cl si ah ah2 k h = grind arith

pub tas_for_moves : (s : Table) (a y p r : ℕ) → Moves s a (step.TasFor y p r)
tas_for_moves s a y p r x e on m σ z = elim (bool_or (same on (page p))) [
  | inl b ↦ absurd (let u : met (consume s.words (page p) 1) on ≡ false = tas_unmet s.words (page p) on 1 refl b
      in let is : met (consume s.words (page p) 1) on ≡ true = z.is_set in cc)
  | inr b ↦ framed s a (step.TasFor y p r) x e on m σ
      (back_waits s a (step.TasFor y p r) x e on m σ (λ q. q) (λ q. q) (λ _ q. q)
      (consume_sets_none s.words on (page p) 1 tt) z) (λ q. q)
      (covers_tried (s.view a) p r y x e σ (same_trans on e.watch (page p) z.watches ∙ b))
]
