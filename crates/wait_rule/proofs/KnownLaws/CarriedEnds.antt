-- What stays of the ends of pipes over calls that go through programs.
use Rattle.std.proofs.Common.{refl, sym, ◌∙◌, ap, subst, arith}
use Rattle.std.specs.Prelude.{ℕ, ◌≡◌, ◌≢◌, ◌+◌, ◌-◌, ◌/◌, ◌%◌, ◌==◌, ◌&&◌, not, if◌then◌else◌, Bool, true, false}
use Rattle.std.specs.Prelude.{Option, None, List, [], ◌∷◌}
use Rattle.std.proofs.lemmas.Bool.Decides.{nat_tests}
use Rattle.wait_model.specs.{declared.layout.TheConstants.PIPE_ENDS, declared.calls.Event.Event}
use Rattle.wait_model.specs.{declared.points.Next.Next, declared.points.Given.Given, declared.points.Point.Point}
use Rattle.wait_model.specs.{declared.points.Seen.Seen, declared.steps.Step.Step, declared.watches.Watch.Watch}
use Rattle.wait_model.specs.Programs.{walk_event}
use Rattle.wait_model.specs.declared.calls.Event.TheVariants as event
use Rattle.wait_model.specs.declared.points.Next.TheVariants as next
use Rattle.wait_model.specs.declared.steps.Step.TheVariants as step
use Rattle.wait_model.specs.declared.watches.Watch.TheVariants as watch
use Rattle.wait_rule.specs.{declared.journal.Item.Item, Known.Known, Aside.ProgramsLeaveEnds, PipeSays.KeepsEnd}
use Rattle.wait_rule.specs.{PipeSays.end_at, PipeLaws.ProgramsKeepEnds, PipeLaws.WalksKeepEnds, Says.added}
use Rattle.wait_rule.specs.Pipes.{End, after_end_look, after_end_publish, end_from, end_step, if_mine, if_unclosed}
use Rattle.wait_rule.specs.Pipes.{no_end, other_end}
use Rattle.wait_rule.specs.Transitions.{AreLooks, AreScansOf, Goes, IsMadeFor, IsStepFor, OnlyLooks, Program}
use Rattle.wait_rule.specs.Transitions.{StepOrLook, Transition, after_step_or_look, after_transition, by_look, by_step}
use Rattle.wait_rule.specs.Transitions.{walk_point, walk_program, with_lock}
use Rattle.wait_rule.specs.declared.journal.Item.TheVariants as item
use Rattle.wait_rule.proofs.{KnownLaws.PipeItems.end_append, KnownLaws.PipeWords.test_off}
use Rattle.wait_rule.proofs.{KnownLaws.SilentCalls.StoresNone, KnownLaws.SilentCalls.walk_quiet}

-- looks tell nothing of ends
pub looks_ends : (k : ℕ) (e : End) (xs : List Item) → AreLooks xs → end_from k e xs ≡ e
looks_ends k e [] l = refl
looks_ends k e (item.Made (step.Saw x w) ∷ xs) l = looks_ends k e xs l.1
looks_ends k e (item.Made s ∷ xs) l = absurd l.0
looks_ends k e (item.Tally p n w ∷ xs) l = absurd l.0
looks_ends k e (item.Piped j a w ∷ xs) l = absurd l.0
looks_ends k e (x ∷ xs) l = looks_ends k e xs l.1

pub scans_ends : (k : ℕ) (e : End) (h : ℕ) (xs : List Item) → AreScansOf h xs → end_from k e xs ≡ e
scans_ends k e h [] l = refl
scans_ends k e h (item.Made (step.Scan g i w) ∷ xs) l = scans_ends k e h xs l.1
scans_ends k e h (x ∷ xs) l = absurd l.0

-- A relation of what is known of an end before and after, which steps of a program keep where they keep it one by one.
module _ (k : ℕ) (R : End → End → Type 0) (same : (e f : End) → f ≡ e → R e f)
    (join : (e f g : End) → R e f → R f g → R e g) (f : Program)
    (made : (p : Point) (seen : Seen) (j : Known) (s : Step)
    → IsStepFor j f.own (f.given p) (f.plan p seen).event s → (e : End) → R e (end_step k s e)) where
  looked_end : (old new : Known) → OnlyLooks old new → R (end_at k old) (end_at k new)
  looked_end old new l = same (end_at k old) (end_at k new) (ap (end_at k) l.is
      ∙ (end_append k no_end old.view.items l.items ∙ looks_ends k (end_at k old) l.items l.looks))

  lock_end : (s : Step) (j : Known) → end_at k (with_lock s j) ≡ end_at k j
  lock_end (step.Lock h aim w) j = refl
  lock_end s j = refl

  made_end : (p : Point) (seen : Seen) (j : Known) (did : StepOrLook)
      → IsMadeFor j f.own (f.given p) (f.plan p seen).event did
      → R (end_at k j) (end_at k (after_step_or_look did j))
  made_end p seen j (by_step s) is = subst (R (end_at k j)) (sym (lock_end s (added j (item.Made s))
      ∙ end_append k no_end j.view.items (item.Made s ∷ []))) (made p seen j s is (end_at k j))
  made_end p seen j (by_look xs) is = same (end_at k j) (end_at k (after_step_or_look (by_look xs) j))
      (end_append k no_end j.view.items xs ∙ by (f.plan p seen).event is)
    where
      by : (v : Event) → IsMadeFor j f.own (f.given p) v (by_look xs) → end_from k (end_at k j) xs ≡ end_at k j
      by (event.Active h hit) scans = scans_ends k (end_at k j) h xs scans.0
      by v scans = absurd scans

  goes_end : (old : Known) (n : Next) (ts : List Transition) (new : Known) (m : Next) → Goes f old n ts new m
      → R (end_at k old) (end_at k new)
  goes_end old n [] new m goes = looked_end old new goes.0
  goes_end old (next.Ends a) (t ∷ ts) new m goes = absurd goes
  goes_end old (next.Go p) (t ∷ ts) new m goes = join (end_at k old) (end_at k (after_transition t)) (end_at k new)
      (join (end_at k old) (end_at k t.knew) (end_at k (after_transition t)) (looked_end old t.knew goes.0.looks)
      (made_end p t.seen t.knew t.did goes.0.is))
      (goes_end (after_transition t) (f.plan p t.seen).next ts new m goes.1)

-- Steps on conditions are about the watch that the program gives, and all others tell nothing of ends.
module _ (k : ℕ) (R : End → End → Type 0) (same : (e f : End) → f ≡ e → R e f) (j : Known) (own : Option ℕ) (g : Given)
    (loads : (r : ℕ) (e : End) → R e (end_step k (step.Load g.watch r) e))
    (stores : (n r : ℕ) (e : End) → R e (end_step k (step.Publish g.watch n r) e)) where
  step_end : (v : Event) (s : Step) → IsStepFor j own g v s → (e : End) → R e (end_step k s e)
  step_end (event.Load c n) (step.Load l r) is e = subst (λ (w : Watch). R e (end_step k (step.Load w r) e)) (sym is)
      (loads r e)
  step_end v (step.Load l r) is e = absurd is
  step_end (event.Set c n) (step.Publish l m r) is e =
      subst (λ (w : Watch). R e (end_step k (step.Publish w m r) e)) (sym is.0) (stores m r e)
  step_end (event.Clear i b) (step.Publish l m r) is e =
      subst (λ (w : Watch). R e (end_step k (step.Publish w m r) e)) (sym is.0) (stores m r e)
  step_end v (step.Publish l m r) is e = absurd is
  step_end v s is e = same e e refl

keeps_same : (e f : End) → f ≡ e → KeepsEnd e f
keeps_same e f is = record {
  mine = ap (λ (x : End). x.mine) is;
  shut = ap (λ (x : End). x.shut) is;
  count = ap (λ (x : End). x.count) is;
  before = ap (λ (x : End). x.before) is;
  cells = ap (λ (x : End). x.cells) is;
}

keeps_join : (e f g : End) → KeepsEnd e f → KeepsEnd f g → KeepsEnd e g
keeps_join e f g one two = record {
  mine = two.mine ∙ one.mine;
  shut = two.shut ∙ one.shut;
  count = two.count ∙ one.count;
  before = two.before ∙ one.before;
  cells = two.cells ∙ one.cells;
}

looks_keep : (b : Bool) (r : ℕ) (e : End) → KeepsEnd e (if b then if_unclosed (after_end_look r) e else e)
looks_keep false r e = keeps_same e e refl
looks_keep true r e = by (e.mine && not e.shut)
  where
    by : (b : Bool) → KeepsEnd e (if b then after_end_look r e else e)
    by true = record { mine = refl; shut = refl; count = refl; before = refl; cells = refl }
    by false = keeps_same e e refl

join_same : (e f g : End) → f ≡ e → g ≡ f → g ≡ e
join_same e f g one two = two ∙ one

other_pipe : (k : ℕ) → other_end k / PIPE_ENDS ≡ k / PIPE_ENDS
other_pipe k = by (k % PIPE_ENDS == 0) refl
  where
    by : (b : Bool) → (k % PIPE_ENDS == 0) ≡ b → (if b then k + 1 else k - 1) / PIPE_ENDS ≡ k / PIPE_ENDS
    by true is = let even : k % PIPE_ENDS ≡ 0 = grind (arith, nat_tests) in omega arith
    by false is = let odd : k % PIPE_ENDS ≢ 0 = grind (arith, nat_tests) in omega (arith, odd)

pub programs_keep_ends : ProgramsKeepEnds
programs_keep_ends f v about old n ts new m goes = record {
  keeps = λ k ne. goes_end k KeepsEnd keeps_same keeps_join f (λ p seen j s is.
      let w = about p in
      step_end k KeepsEnd keeps_same j f.own (f.given p)
      (λ r e. subst (λ (c : Watch). KeepsEnd e (end_step k (step.Load c r) e)) (sym w.1)
      (looks_keep (v == other_end k) r e))
      (λ l r e. subst (λ (c : Watch). KeepsEnd e (end_step k (step.Publish c l r) e)) (sym w.1)
      (keeps_same e _ (ap (λ (b : Bool). if b then if_mine (after_end_publish l) e else e)
      (test_off v k (λ q. ne (sym q)))))) (f.plan p seen).event s is) old n ts new m goes;
  others = λ k ne. goes_end k (λ e g. g ≡ e) (λ e g is. is) join_same f (λ p seen j s is.
      let w = about p in
      step_end k (λ e g. g ≡ e) (λ e g q. q) j f.own (f.given p)
      (λ r e. subst (λ (c : Watch). end_step k (step.Load c r) e ≡ e) (sym w.1)
      (ap (λ (b : Bool). if b then if_unclosed (after_end_look r) e else e)
      (test_off v (other_end k) (λ q. ne (sym (ap (λ (i : ℕ). i / PIPE_ENDS) q ∙ other_pipe k))))))
      (λ l r e. subst (λ (c : Watch). end_step k (step.Publish c l r) e ≡ e) (sym w.1)
      (ap (λ (b : Bool). if b then if_mine (after_end_publish l) e else e)
      (test_off v k (λ q. ne (sym (ap (λ (i : ℕ). i / PIPE_ENDS) q)))))) (f.plan p seen).event s is) old n ts new m
      goes;
}

-- A program about no variable tells nothing of ends.
no_load : (k r : ℕ) (e : End) (w : Watch) → ((v o : ℕ) → w ≢ watch.Var v o) → end_step k (step.Load w r) e ≡ e
no_load k r e (watch.Var v o) ne = absurd (ne v o refl)
no_load k r e w ne = refl

no_publish : (k n r : ℕ) (e : End) (w : Watch) → ((v o : ℕ) → w ≢ watch.Var v o)
    → end_step k (step.Publish w n r) e ≡ e
no_publish k n r e (watch.Var v o) ne = absurd (ne v o refl)
no_publish k n r e w ne = refl

pub programs_leave_ends : ProgramsLeaveEnds
programs_leave_ends f none old new from to made goes k = goes_end k (λ e g. g ≡ e) (λ e g is. is) join_same f
    (λ p seen j s is. step_end k (λ e g. g ≡ e) (λ e g q. q) j f.own (f.given p)
    (λ r e. no_load k r e (f.given p).watch (none p)) (λ n r e. no_publish k n r e (f.given p).watch (none p))
    (f.plan p seen).event s is) old from made new to goes

-- The steps of a walk leave the end of the variable whose waiters it wakes.
module _ (v o : ℕ) (j : Known) (own : Option ℕ) (g : Given) (about : g.watch ≡ watch.Var v o) where
  quiet_end : (d : Event) → StoresNone d → (s : Step) → IsStepFor j own g d s → (e : End) → end_step v s e ≡ e
  quiet_end (event.Load c n) quiet (step.Load l r) is e =
      subst (λ (w : Watch). end_step v (step.Load w r) e ≡ e) (sym (is ∙ about))
      (ap (λ (b : Bool). if b then if_unclosed (after_end_look r) e else e) (test_off v (other_end v) (not_own v)))
    where
      not_own : (k : ℕ) → k ≢ other_end k
      not_own k = by (k % PIPE_ENDS == 0) refl
        where
          by : (b : Bool) → (k % PIPE_ENDS == 0) ≡ b → k ≢ (if b then k + 1 else k - 1)
          by true is q = absurd (omega arith)
          by false is q = let odd : k % PIPE_ENDS ≢ 0 = grind (arith, nat_tests) in absurd (omega (arith, odd))
  quiet_end d quiet (step.Load l r) is e = absurd is
  quiet_end (event.Set c n) quiet (step.Publish l m r) is e = absurd quiet
  quiet_end (event.Clear i b) quiet (step.Publish l m r) is e = absurd quiet
  quiet_end d quiet (step.Publish l m r) is e = absurd is
  quiet_end d quiet s is e = refl

pub walks_keep_ends : WalksKeepEnds
walks_keep_ends aim v o about old n ts new m goes = goes_end v (λ e g. g ≡ e) (λ e g is. is) join_same
    (walk_program aim) (λ p seen j s is. quiet_end v o j None ((walk_program aim).given p) about
    (walk_event aim (walk_point p) seen).event
    (walk_quiet (Unit {0}) (Unit {0}) ⊥ aim seen (walk_point p)).0 s is) old n ts new m goes
