-- What the tests of pipes see by a load of the other end's word.
use Rattle.std.proofs.Common.{refl, sym, ◌∙◌, ap, subst, arith}
use Rattle.std.specs.Prelude.{ℕ, ◌≡◌, ◌≢◌, ◌+◌, ◌-◌, ◌/◌, ◌%◌, ◌<◌, ◌==◌, ◌&&◌, not, if◌then◌else◌}
use Rattle.std.specs.Prelude.{Bool, true, false, length}
use Rattle.std.proofs.lemmas.Bool.Decides.{nat_tests}
use Rattle.atomic_table.specs.Seated.{TableId}
use Rattle.wait_model.specs.declared.layout.TheConstants.{PIPE_ENDS, PIPE_CELLS}
use Rattle.wait_model.specs.declared.watches.Watch.TheVariants as watch
use Rattle.wait_model.specs.declared.steps.Step.TheVariants as step
use Rattle.wait_rule.specs.declared.journal.Item.TheVariants as item
use Rattle.wait_rule.specs.{Known.Known, Passing.HasPassedCells, Passing.OthersStay, Says.added, Stays.Carries}
use Rattle.wait_rule.specs.Stays.{unchanged}
use Rattle.wait_rule.specs.Pipes.{End, after_end_look, count_on, if_unclosed, other_end, word_counts}
use Rattle.wait_rule.specs.PipeSays.{IsOpen, IsSoundRead, IsSoundWrite, end_at}
use Rattle.wait_rule.proofs.{KnownLaws.FoundPipes.end_added, KnownLaws.PipeWords.test_on, KnownLaws.PipeWords.test_off}

-- each end is the other one of one end alone
one_other : (a b : ℕ) → other_end a ≡ other_end b → a ≡ b
one_other a b = by (a % PIPE_ENDS == 0) (b % PIPE_ENDS == 0) refl refl
  where
    by : (c d : Bool) → (a % PIPE_ENDS == 0) ≡ c → (b % PIPE_ENDS == 0) ≡ d
        → (if c then a + 1 else a - 1) ≡ (if d then b + 1 else b - 1) → a ≡ b
    by true true x y is = omega arith
    by false false x y is =
        let p : a % PIPE_ENDS ≢ 0 = grind (arith, nat_tests) in
        let q : b % PIPE_ENDS ≢ 0 = grind (arith, nat_tests) in omega (arith, p, q)
    by true false x y is =
        let p : a % PIPE_ENDS ≡ 0 = grind (arith, nat_tests) in
        let q : b % PIPE_ENDS ≢ 0 = grind (arith, nat_tests) in omega (arith, q)
    by false true x y is =
        let p : a % PIPE_ENDS ≢ 0 = grind (arith, nat_tests) in
        let q : b % PIPE_ENDS ≡ 0 = grind (arith, nat_tests) in omega (arith, p)

module _ (domain : TableId) (e v n r : ℕ) (old new : Known) (other : v ≡ other_end e)
    (is : new ≡ added old (item.Made (step.Load (watch.Var v 0) r))) (h : HasPassedCells domain e n old) where
  looks_own : end_at e new ≡ after_end_look r (end_at e old)
  looks_own = end_added old new (item.Made (step.Load (watch.Var v 0) r)) is e
      ∙ (ap (λ (b : Bool). if b then if_unclosed (after_end_look r) (end_at e old) else end_at e old)
      (test_on v (other_end e) other)
      ∙ (λ i. if h.still.mine i && not (h.still.unshut i) then after_end_look r (end_at e old) else end_at e old))

  pub looks_others : OthersStay e old new
  looks_others j ne = end_added old new (item.Made (step.Load (watch.Var v 0) r)) is j
      ∙ ap (λ (b : Bool). if b then if_unclosed (after_end_look r) (end_at j old) else end_at j old)
      (test_off v (other_end j) (λ q. ne (one_other j e (sym q ∙ other))))

  pub looks_passed : Carries unchanged old new → HasPassedCells domain e n new
  looks_passed c = record {
    ready = record {
      of = c.domain ∙ h.ready.of;
      up = c.awake ∙ h.ready.up;
      idle = record {
        running = c.state ∙ h.ready.idle.running;
        free = record { head = c.head ∙ h.ready.idle.free.head; ticket = c.ticket ∙ h.ready.idle.free.ticket };
        unmarked = c.mark ∙ h.ready.idle.unmarked;
      };
    };
    still = subst IsOpen (sym looks_own) (record { mine = h.still.mine; unshut = h.still.unshut });
    cells = ap (λ (x : End). length x.cells) looks_own ∙ h.cells;
    count = ap (λ (x : End). x.count) looks_own ∙ h.count;
  }

  pub sees_room : IsSoundWrite (end_at e old) → (n % word_counts + word_counts - r / 2 % word_counts) % word_counts
      < PIPE_CELLS → n < (end_at e new).seen + PIPE_CELLS
  sees_room sound near =
      let seen : (end_at e new).seen ≡ count_on (end_at e old).seen r = ap (λ (x : End). x.seen) looks_own in
      let a = h.cells in
      let b = h.count in
      let low = sound.seen in
      let high = sound.room in
      omega arith

  pub sees_cell : IsSoundRead (end_at e old) → r / 2 % word_counts ≢ n % word_counts → n < (end_at e new).seen
  sees_cell sound apart =
      let seen : (end_at e new).seen ≡ count_on (end_at e old).seen r = ap (λ (x : End). x.seen) looks_own in
      let a = h.cells in
      let low = sound.there in
      omega (arith, apart)
