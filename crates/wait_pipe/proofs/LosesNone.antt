-- Nobody is left asleep at a pipe that has a cell for it.
use Rattle.std.proofs.Common.{◌∙◌, ap, arith, inl, inr, refl, subst, sym}
use Rattle.std.proofs.lemmas.Bool.Decides.{nat_tests}
use Rattle.std.specs.Prelude.{ℕ, ◌≡◌, ◌≢◌, ◌<◌, ◌≤◌, ◌+◌, ◌/◌, ◌%◌, ◌==◌, ◌⊎◌, not, if◌then◌else◌, Bool, true, false}
use Rattle.std.specs.Prelude.{List}
use Rattle.wait_model.specs.{declared.watches.Entry.Entry, Tables.met, Watches.owner}
use Rattle.wait_model.specs.declared.layout.TheConstants.{CLAIMS, PIPES, PIPE_CELLS, PIPE_ENDS}
use Rattle.wait_model.specs.Wakes.{IsCovered, IsTried, UsedUp}
use Rattle.wait_model.specs.declared.watches.Mode.TheVariants as mode
use Rattle.wait_model.specs.declared.watches.Watch.TheVariants as watch
use Rattle.wait_model.specs.Locations as place
use Rattle.wait_rule.specs.{declared.journal.Item.Item, Journals.Scene, Known.Known, LosesNone.IsCoveredByOther}
use Rattle.wait_rule.specs.{LosesNone.LeavesNoneAsleep, Rule.Law}
use Rattle.wait_rule.specs.Pipes.{End, IsFlow, IsPipe, end_of, end_word, other_end, read_end, word_counts, write_end}
use Rattle.wait_rule.proofs.{KnownLaws.PipeItems.other_r, KnownLaws.PipeItems.other_w, KnownLaws.PipeWords.test_on}
use Rattle.wait_rule.proofs.KnownLaws.TableLaws.{rule_loses_none}
use Rattle.wait_rule.proofs.KnownLaws.PipeEnds.{by_side, own_r, own_w}
use Rattle.var_wait.proofs.LosesNone.{publishes_lose_none}
use Rattle.wait_pipe.specs.Pieces.{ShowsNoCell}
use Rattle.wait_pipe.specs.LosesNone.{ClosesLoseNone, HasCell, LeavesNoneAtOther, PassesLoseNone, PipesLoseNone}
use Rattle.wait_pipe.specs.LosesNone.{SleepsBeside}

-- a word that shows an end open, and this count, is not the one of an end that is closed, or counts up to a ring more
differs : (n count word : ℕ) (shut : Bool) → word % 2 ≡ 0 → word / 2 % word_counts ≡ count % word_counts → count ≤ n
    → n ≤ count + PIPE_CELLS → (shut ≡ true) ⊎ (count < n) → end_word n shut ≢ word
differs n count word true even shown low high has is = absurd (omega arith)
differs n count word false even shown low high (inl shut) is = absurd (cc)
differs n count word false even shown low high (inr more) is = absurd (omega arith)

-- of the two ends of a pipe
module _ (word : place.Location → ℕ) (p : ℕ) (w r : End) (flow : IsFlow word p w r) (seen : ℕ) where
  write_differs : ShowsNoCell (write_end p) w seen → HasCell (write_end p) w r
      → word (place.Var (read_end p)) ≢ seen
  write_differs none has is =
      let full = none.full (omega arith) in
      let a = flow.r_seen in
      let b = flow.r_took in
      let d = flow.r_there in
      differs r.count none.count seen r.shut none.unended none.shown
      (let e = flow.w_put in let f = flow.w_room in let g = flow.w_seen in omega arith) (omega arith) (cell has)
      (sym flow.end_r ∙ is)
    where
      cell : HasCell (write_end p) w r → (r.shut ≡ true) ⊎ (none.count < r.count)
      cell (inl shut) = inl shut
      cell (inr more) =
          let full = none.full (omega arith) in
          let few : w.count < r.count + PIPE_CELLS =
          subst (λ (b : Bool). (if b then w.count else w.count + PIPE_CELLS) < r.count + PIPE_CELLS)
          (test_on (write_end p % PIPE_ENDS) 0 (omega arith)) more in
          inr (omega arith)

  read_differs : ShowsNoCell (read_end p) r seen → HasCell (read_end p) r w → word (place.Var (write_end p)) ≢ seen
  read_differs none has is =
      let empty = none.empty (omega arith) in
      let a = flow.r_seen in
      let b = flow.r_took in
      let d = flow.r_there in
      differs w.count none.count seen w.shut none.unended none.shown (omega arith)
      (let e = flow.w_put in let f = flow.w_room in let g = flow.w_seen in omega arith) (cell has)
      (sym flow.end_w ∙ is)
    where
      odd : (read_end p % PIPE_ENDS == 0) ≡ false
      odd = let one : read_end p % PIPE_ENDS ≡ 1 = omega arith in grind (arith, nat_tests)

      cell : HasCell (read_end p) r w → (w.shut ≡ true) ⊎ (none.count < w.count)
      cell (inl shut) = inl shut
      cell (inr more) =
          let empty = none.empty (omega arith) in
          let few : r.count + PIPE_CELLS < w.count + PIPE_CELLS =
          subst (λ (b : Bool). (if b then r.count else r.count + PIPE_CELLS) < w.count + PIPE_CELLS) odd more in
          inr (omega arith)

-- So it is of the tasks that have them.
unlike : (a b : ℕ) → a ≢ b → not (a == b) ≡ true
unlike a b ne = by (a == b) refl
  where
    by : (t : Bool) → (a == b) ≡ t → not t ≡ true
    by false is = refl
    by true is = absurd (ne (let same : a ≡ b = grind (arith, nat_tests) in same))

module _ (word : place.Location → ℕ) (items : ℕ → List Item) (p t u seen : ℕ) (few : p < PIPES)
    (l : IsPipe word items p) where
  abbrev Differs : ℕ → Type 0
  Differs k = (end_of k (items t)).mine ≡ true → (end_of (other_end k) (items u)).mine ≡ true
      → ShowsNoCell k (end_of k (items t)) seen → HasCell k (end_of k (items t)) (end_of (other_end k) (items u))
      → word (place.Var (other_end k)) ≢ seen

  abbrev DiffersBy : ℕ → ℕ → Type 0
  DiffersBy k o = (end_of k (items t)).mine ≡ true → (end_of o (items u)).mine ≡ true
      → ShowsNoCell k (end_of k (items t)) seen → HasCell k (end_of k (items t)) (end_of o (items u))
      → word (place.Var o) ≢ seen

  writer_differs : DiffersBy (write_end p) (read_end p)
  writer_differs mine other none has = write_differs word p l.w l.r l.flow seen
      (subst (λ (e : End). ShowsNoCell (write_end p) e seen) (sym (own_w items t word word p few l mine)) none)
      (subst (λ (e : End). HasCell (write_end p) e l.r) (sym (own_w items t word word p few l mine))
      (subst (λ (e : End). HasCell (write_end p) (end_of (write_end p) (items t)) e)
      (sym (own_r items u word word p few l other)) has))

  reader_differs : DiffersBy (read_end p) (write_end p)
  reader_differs mine other none has = read_differs word p l.w l.r l.flow seen
      (subst (λ (e : End). ShowsNoCell (read_end p) e seen) (sym (own_r items t word word p few l mine)) none)
      (subst (λ (e : End). HasCell (read_end p) e l.w) (sym (own_r items t word word p few l mine))
      (subst (λ (e : End). HasCell (read_end p) (end_of (read_end p) (items t)) e)
      (sym (own_w items u word word p few l other)) has))

  end_differs : (k : ℕ) → k / PIPE_ENDS ≡ p → Differs k
  end_differs k of = by_side Differs k p of
      (subst (DiffersBy (write_end p)) (sym (other_w p)) writer_differs)
      (subst (DiffersBy (read_end p)) (sym (other_r p)) reader_differs)

-- the watch of who sleeps so is set
cell_sets : (c : Scene) (law : Law c) (k x : ℕ) (e : Entry) (u : ℕ) → k < CLAIMS
    → (b : SleepsBeside law.table c.items k x e u)
    → met law.table.words (watch.Var (other_end k) b.asleep.word) ≡ true
cell_sets c law k x e u few b = unlike (law.table.words.vars (other_end k)) b.asleep.word
    (end_differs _ c.items (k / PIPE_ENDS) (owner x) u b.asleep.word (omega arith) (law.pipes (k / PIPE_ENDS) (omega arith)) k
    refl b.asleep.mine b.mine b.asleep.none b.has)

pub pipes_lose_none : PipesLoseNone
pipes_lose_none c law k x e u few b = by (rule_loses_none law.table c.items law.ruled x e
    (watch.Var (other_end k) b.asleep.word) b.asleep.sleeps (cell_sets c law k x e u few b))
  where
    by : IsCovered law.table x e ⊎ (UsedUp law.table x e (watch.Var (other_end k) b.asleep.word) b.asleep.sleeps
        ⊎ IsTried law.table (watch.Var (other_end k) b.asleep.word)) → IsCovered law.table x e
    by (inl covered) = covered
    by (inr (inl used)) = absurd (let is : false ≡ true = used.counted in cc)
    by (inr (inr tried)) = absurd tried

-- after a publish of an end
other_other : (k : ℕ) → other_end (other_end k) ≡ k
other_other k = by_side (λ (i : ℕ). other_end (other_end i) ≡ i) k (k / PIPE_ENDS) refl
    (ap other_end (other_w (k / PIPE_ENDS)) ∙ other_r (k / PIPE_ENDS))
    (ap other_end (other_r (k / PIPE_ENDS)) ∙ other_w (k / PIPE_ENDS))

other_few : (k : ℕ) → k < CLAIMS → other_end k < CLAIMS
other_few k few = by_side (λ (i : ℕ). i < CLAIMS → other_end i < CLAIMS) k (k / PIPE_ENDS) refl
    (λ low. subst (λ (i : ℕ). i < CLAIMS) (sym (other_w (k / PIPE_ENDS))) (omega arith))
    (λ low. subst (λ (i : ℕ). i < CLAIMS) (sym (other_r (k / PIPE_ENDS))) (omega arith)) few

leaves_none : (k : ℕ) (new : Known) → LeavesNoneAsleep (watch.Var k 0) mode.Normal new → LeavesNoneAtOther k new
leaves_none k new leaves c law x e u few own b met_state = by (leaves law.table c.items law.ruled own x e
    (watch.Var (other_end (other_end k)) b.asleep.word) b.asleep.sleeps
    (test_on (other_end (other_end k)) k (other_other k))
    (cell_sets c law (other_end k) x e u (other_few k few) b) met_state)
  where
    by : IsCoveredByOther new.view.number law.table x e ⊎ (UsedUp law.table x e (watch.Var (other_end (other_end k)) b.asleep.word) b.asleep.sleeps
        ⊎ IsTried law.table (watch.Var (other_end (other_end k)) b.asleep.word)) → IsCoveredByOther new.view.number law.table x e
    by (inl covered) = covered
    by (inr (inl used)) = absurd (let is : false ≡ true = used.counted in cc)
    by (inr (inr tried)) = absurd tried

pub passes_lose_none : PassesLoseNone
passes_lose_none k old new text p = leaves_none k new (publishes_lose_none _ new k _ p.walked p.publishes)

pub closes_lose_none : ClosesLoseNone
closes_lose_none k old new c = leaves_none k new (publishes_lose_none old new k _ c.0 c.1)
