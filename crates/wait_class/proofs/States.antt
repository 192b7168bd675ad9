-- A state is stored, and looked for a signal.
use Rattle.std.proofs.Common.{◌∙◌, ap, sym, refl, subst}
use Rattle.std.specs.Prelude.{ℕ, ◌≡◌, Bool, true}
use Rattle.wait_model.specs.declared.steps.Step.TheVariants as step
use Rattle.wait_model.specs.{declared.steps.Step.Step, declared.watches.Watch.Watch, Tasks.pending, Tasks.task_of}
use Rattle.wait_rule.specs.declared.journal.Item.TheVariants as item
use Rattle.wait_rule.specs.{Known.Known, Says.MayStore, Says.added, Queues.IsAgreedHold, Queues.index}
use Rattle.wait_rule.specs.Transitions.{OnlyLooks}
use Rattle.wait_rule.specs.Stays.{Carries, unchanged, state_change}
use Rattle.wait_rule.proofs.KnownLaws.Transitions.{only_none}
use Rattle.wait_class.specs.{declared.stages.Run.Run, declared.stages.Turn.Turn}
use Rattle.wait_class.specs.Findings.{saw_nothing, with_own, with_value}
use Rattle.wait_class.specs.Laws.{IsLawfulCallTable, LawOf, LoadLaw, LookLaw, StateLaw, mask_in, turn_post}
use Rattle.wait_class.specs.Tables.{IsAt, CallTable, Turned, falls, post_of, stage_watch, watch_in}
use Rattle.wait_class.proofs.Ground.Standing.{state_looks, state_stands, state_up, still_stands}
use Rattle.wait_class.proofs.CalmSteps.{calm_step, gone}
use Rattle.wait_class.proofs.Turns.{GoesOn, advance_by, moves_going, moves_quiet, stands_plain}
use Rattle.wait_class.specs.declared.stages.Doing.TheVariants as doing

module _ {C S O : Type 0} (t : CallTable C S O) (law : IsLawfulCallTable t) where
  state_law : (r : C) (s : S) → t.doing s ≡ doing.State → StateLaw t r s
  state_law r s here = subst (λ d. LawOf d t r s) here (law.at r s)

  look_law : (r : C) (s : S) → t.doing s ≡ doing.Look → (hit : Bool) → LookLaw t r s hit
  look_law r s here = subst (λ d. LawOf d t r s) here (law.at r s)

  -- a state is stored
  pub state_may : (old : Known) (r : Run C) (s : S) → t.doing s ≡ doing.State → IsAt t old r s → (σ : ℕ)
      → σ ≡ t.state_at r.of s → MayStore σ old
  state_may old r s here a σ same =
      let l = state_law r.of s here in
      subst (λ (n : ℕ). MayStore n old) (sym same)
      (l.may old (stands_plain t old r s l.fresh a.stands).state)

  state_from : (old new : Known) (r : Run C) (s : S) (l : StateLaw t r.of s) → IsAt t old r s
      → new ≡ added old (item.Made (step.State (t.state_at r.of s)))
      → Carries (state_change (t.state_at r.of s)) old new → GoesOn t old new r.of r.of s (t.next_of r.of s)
  state_from old new r s l a is carries =
      let u = t.next_of r.of s in
      let σ = t.state_at r.of s in
      record {
        goes = moves_quiet t law r.of s saw_nothing (Unit {0}) (λ me k x. step.State σ) (λ me k x. Unit {0}) u l.moves
            old.view.number old old new tt refl (only_none old) tt (state_looks old new σ is carries);
        keeps = subst (λ (g : Bool). t.Keeps (index old.view.number 0) (watch_in t r.of) (t.took s) g old new)
            l.moves.took (law.keeps.state (index old.view.number 0) (watch_in t r.of) (t.took s) old new σ is carries);
        lands = record {
          up = state_up old new σ is carries a.up;
          stands = state_stands old new σ is carries (post_of t r.of s) (turn_post t r.of u)
              (stands_plain t old r s l.fresh a.stands) l.leaves.head l.leaves.ticket l.state l.home;
          trail = l.trail old new (calm_step old new (step.State σ) is (λ v. refl) (λ v d none. none) (λ m v. refl)
              (λ m b. refl)) a.trail;
        };
      }

  pub state_advances : (old new : Known) (r : Run C) (s : S) → t.doing s ≡ doing.State → IsAt t old r s → (σ : ℕ)
      → σ ≡ t.state_at r.of s → new ≡ added old (item.Made (step.State σ)) → Carries (state_change σ) old new
      → (u : Turn S O) → u ≡ t.next_of r.of s → Turned t old new r r s u
  state_advances old new r s here a σ same is carries u to =
      let l = state_law r.of s here in
      subst (λ (v : Turn S O). Turned t old new r r s v) (sym to)
      (advance_by t old new r r s (t.next_of r.of s) refl a.fits l.moves.plain
      (state_from old new r s l a (is ∙ ap (λ (n : ℕ). added old (item.Made (step.State n))) same)
      (subst (λ (n : ℕ). Carries (state_change n) old new) same carries)))

  pub state_falls : (r : C) (s : S) → t.doing s ≡ doing.State → (u : Turn S O) → u ≡ t.next_of r s → falls t s u ≡ true
  state_falls r s here u to = ap (falls t s) to ∙ (state_law r s here).moves.falls

  -- the condition is loaded
  pub load_law : (r : C) (s : S) → t.doing s ≡ doing.Load → (v : ℕ)
      → LoadLaw t r s v (t.noted r s v) (t.loaded_to r s v)
  load_law r s here = subst (λ d. LawOf d t r s) here (law.at r s)

  pub load_agreed : (old : Known) (r : Run C) (s : S) → IsAt t old r s → IsAgreedHold old
  load_agreed old r s a h at = a.stands.agreed h (sym a.stands.head ∙ at)

  load_from : (old new : Known) (r : Run C) (s : S) (v : ℕ) (l : LoadLaw t r.of s v (t.noted r.of s v) (t.loaded_to r.of s v)) → IsAt t old r s
      → new ≡ added old (item.Made (step.Load (stage_watch t r.of s) v)) → Carries unchanged old new
      → GoesOn t old new r.of (t.noted r.of s v) s (t.loaded_to r.of s v)
  load_from old new r s v l a is carries =
      let u = t.loaded_to r.of s v in
      let p = post_of t r.of s in
      let e : Step = step.Load (stage_watch t r.of s) v in
      let st = stands_plain t old r s l.fresh a.stands in
      record {
        goes = moves_going t r.of (t.noted r.of s v) s (with_value v) (Unit {0}) (λ me k x. e) (λ me k x. Unit {0}) u
            l.moves old.view.number old old new tt (only_none old) tt
            (subst (OnlyLooks (added old (item.Made e))) (sym is) (only_none (added old (item.Made e))))
            (λ x did. l.tells x did);
        keeps = subst (λ (g : Bool). t.Keeps (index old.view.number 0) (watch_in t r.of) (t.took s) g old new)
            l.moves.took
            (law.keeps.load (index old.view.number 0) (watch_in t r.of) (stage_watch t r.of s) (t.took s) old new v is
            carries);
        lands = record {
          up = carries.awake ∙ a.up;
          stands = still_stands unchanged old new p (turn_post t (t.noted r.of s v) u) carries st
              (λ h at. ap (λ (k : Known). k.book.differs) is ∙ st.agreed h (sym l.leaves.head ∙ at)) refl (λ x. refl)
              (sym l.leaves.head) (λ h at. st.at h (sym l.leaves.head ∙ at)) (sym l.leaves.ticket)
              (l.state old.book.state st.state) l.home;
          trail = l.trail old new (calm_step old new e is (λ u. refl) (λ u d none. gone _ _ none) (λ m u. refl)
              (λ m b. refl)) a.trail;
        };
      }

  pub load_advances : (old new : Known) (r : Run C) (s : S) → IsAt t old r s → (c : Watch)
      → c ≡ stage_watch t r.of s → (v : ℕ) → LoadLaw t r.of s v (t.noted r.of s v) (t.loaded_to r.of s v)
      → new ≡ added old (item.Made (step.Load c v)) → Carries unchanged old new
      → (u : Turn S O) → u ≡ t.loaded_to r.of s v → (q : C) → q ≡ t.noted r.of s v
      → Turned t old new r (record r { of = q }) s u
  load_advances old new r s a c same v l is carries u to q notes =
      subst (λ (d : C). Turned t old new r (record r { of = d }) s u) (sym notes)
      (subst (λ (n : Turn S O). Turned t old new r (record r { of = t.noted r.of s v }) s n) (sym to)
      (advance_by t old new r (record r { of = t.noted r.of s v }) s (t.loaded_to r.of s v) l.same (l.fits a.fits)
      l.moves.plain
      (load_from old new r s v l a (is ∙ ap (λ (w : Watch). added old (item.Made (step.Load w v))) same) carries)))

  pub load_falls : (r : C) (s : S) (v : ℕ) → LoadLaw t r s v (t.noted r s v) (t.loaded_to r s v) → (u : Turn S O)
      → u ≡ t.loaded_to r s v → falls t s u ≡ true
  load_falls r s v l u to = ap (falls t s) to ∙ l.moves.falls

  -- a look for a signal
  look_from : (old new : Known) (r : Run C) (s : S) (hit : Bool) (l : LookLaw t r.of s hit) → IsAt t old r s → (w : ℕ)
      → pending (mask_in t r.of) (task_of w) ≡ hit → new ≡ added old (item.Made (step.Look w))
      → Carries unchanged old new → GoesOn t old new r.of r.of s (t.found_to r.of s hit)
  look_from old new r s hit l a w tells is carries =
      let u = t.found_to r.of s hit in
      let p = post_of t r.of s in
      let st = stands_plain t old r s l.fresh a.stands in
      record {
        goes = moves_quiet t law r.of s (with_own (task_of w)) (Unit {0}) (λ me k x. step.Look w) (λ me k x. Unit {0}) u
            (l.moves w tells) old.view.number old old new tt refl (only_none old) tt
            (subst (OnlyLooks (added old (item.Made (step.Look w)))) (sym is)
            (only_none (added old (item.Made (step.Look w)))));
        keeps = subst (λ (g : Bool). t.Keeps (index old.view.number 0) (watch_in t r.of) (t.took s) g old new)
            (l.moves w tells).took
            (law.keeps.look (index old.view.number 0) (watch_in t r.of) (t.took s) old new w is carries);
        lands = record {
          up = carries.awake ∙ a.up;
          stands = still_stands unchanged old new p (turn_post t r.of u) carries st
              (λ h at. ap (λ (k : Known). k.book.differs) is ∙ st.agreed h (sym l.leaves.head ∙ at)) refl (λ x. refl)
              (sym l.leaves.head) (λ h at. st.at h (sym l.leaves.head ∙ at)) (sym l.leaves.ticket)
              (l.state old.book.state st.state) l.home;
          trail = l.trail old new w tells (calm_step old new (step.Look w) is (λ v. refl) (λ v d none. none)
              (λ m v. refl) (λ m b. refl)) a.trail;
        };
      }

  pub look_advances : (old new : Known) (r : Run C) (s : S) → t.doing s ≡ doing.Look → IsAt t old r s → (w : ℕ)
      → new ≡ added old (item.Made (step.Look w)) → Carries unchanged old new → (hit : Bool)
      → hit ≡ pending (mask_in t r.of) (task_of w) → (u : Turn S O) → u ≡ t.found_to r.of s hit
      → Turned t old new r r s u
  look_advances old new r s here a w is carries hit tells u to =
      let l = look_law r.of s here hit in
      subst (λ (v : Turn S O). Turned t old new r r s v) (sym to)
      (advance_by t old new r r s (t.found_to r.of s hit) refl a.fits (l.moves w (sym tells)).plain
      (look_from old new r s hit l a w (sym tells) is carries))

  pub look_falls : (r : C) (s : S) → t.doing s ≡ doing.Look → (w : ℕ) (hit : Bool)
      → hit ≡ pending (mask_in t r) (task_of w) → (u : Turn S O) → u ≡ t.found_to r s hit → falls t s u ≡ true
  look_falls r s here w hit tells u to = ap (falls t s) to ∙ ((look_law r s here hit).moves w (sym tells)).falls
