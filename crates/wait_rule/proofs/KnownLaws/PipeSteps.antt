-- The law of all pipes over steps of the model, and over an item about one of them.
use Rattle.std.proofs.Common.{◌≡◌, ℕ, ◌/◌, ◌<◌, ◌≢◌, Bool, true, false, List, refl, sym, ap, ◌∙◌, subst, arith}
use Rattle.std.proofs.Common.{true≢false}
use Rattle.std.specs.Prelude.{◌==◌, ◌&&◌, not, if◌then◌else◌}
use mathlib.Core.Logic.{dite}
use native.Mathlib.Decide.{ℕ_discrete}
use Rattle.wait_model.specs.{declared.steps.Step.Step, Locations.Location}
use Rattle.wait_model.specs.declared.layout.TheConstants.{PIPES, PIPE_ENDS, PIPE_CELLS}
use Rattle.wait_model.specs.declared.watches.Watch.TheVariants as watch
use Rattle.wait_model.specs.declared.steps.Step.TheVariants as step
use Rattle.wait_model.specs.Locations as place
use Rattle.wait_rule.specs.declared.journal.EndAct.{EndAct}
use Rattle.wait_rule.specs.declared.journal.EndAct.TheVariants as act
use Rattle.wait_rule.specs.declared.journal.Item.{Item}
use Rattle.wait_rule.specs.declared.journal.Item.TheVariants as item
use Rattle.wait_rule.specs.Pipes.{write_end, read_end, other_end, End, after_end_look, after_end_publish, if_mine}
use Rattle.wait_rule.specs.Pipes.{if_unclosed, end_word, end_act, end_item, end_of, refused_item, IsFlow, IsPipe, ArePipes}
use Rattle.wait_rule.proofs.KnownLaws.PipeFlows.{flow_words, look_w_flow, look_r_flow, publish_same}
use Rattle.wait_rule.proofs.KnownLaws.PipeItems.{other_w, other_r, ends_apart, now, owner, pipe_stays, writer_moves}
use Rattle.wait_rule.proofs.KnownLaws.PipeItems.{reader_moves, never}
use Rattle.wait_rule.proofs.KnownLaws.PipeWords.{SameWords, claim_cell, claim_var, var_cell, var_claim, cell_claim}
use Rattle.wait_rule.proofs.KnownLaws.PipeWords.{cell_var, cells_apart, claims_apart, vars_apart, write_in, read_in}
use Rattle.wait_rule.proofs.KnownLaws.PipeWords.{test_on, test_off}

-- a loaded word of an end, and a stored one that was there
abbrev pub ReadsEnd : (Location → ℕ) → ℕ → Step → Type 0
ReadsEnd one p (step.Load (watch.Var v o) r) = v / PIPE_ENDS ≡ p → r ≡ one (place.Var v)
ReadsEnd one p (step.Publish (watch.Var v o) n r) = v / PIPE_ENDS ≡ p → n ≡ one (place.Var v)
ReadsEnd one p _ = Unit {0}

-- an end that is not the task's, and one of which a look tells nothing
unmoved : (f : End → End) (e : End) → e.mine ≡ false → if_mine f e ≡ e
unmoved f e none = ap (λ (b : Bool). if b then f e else e) none

unlooked : (f : End → End) (e : End) → (e.mine && not e.shut) ≡ false → if_unclosed f e ≡ e
unlooked f e none = ap (λ (b : Bool). if b then f e else e) none

both_mine : (m s : Bool) → (m && not s) ≡ true → m ≡ true
both_mine true s is = refl
both_mine false s is = is

both_unshut : (m s : Bool) → (m && not s) ≡ true → s ≡ false
both_unshut true true is = sym is
both_unshut true false is = refl
both_unshut false s is = absurd (true≢false (sym is))

-- steps of the model that leave the words of the pipe
module _ (items : ℕ → List Item) (a : ℕ) (one two : Location → ℕ) (p : ℕ) (l : IsPipe one items p)
    (same : SameWords p one two) where
  abbrev W : End
  W = end_of (write_end p) (items a)

  abbrev R : End
  R = end_of (read_end p) (items a)

  tested : (b : Bool) (f : End → End) (e : End) → b ≡ false → (if b then f e else e) ≡ e
  tested b f e off = ap (λ (c : Bool). if c then f e else e) off

  -- a load of either end's word, or of another variable
  load_pipe : (v o r : ℕ) → (v / PIPE_ENDS ≡ p → r ≡ one (place.Var v))
      → IsPipe two (now items a (item.Made (step.Load (watch.Var v o) r))) p
  load_pipe v o r reads = dite (ℕ_discrete v (read_end p))
      (λ (e : v ≡ read_end p). of_reader e (W.mine && not W.shut) refl)
      (λ (ne : v ≢ read_end p). dite (ℕ_discrete v (write_end p))
      (λ (e : v ≡ write_end p). of_writer e (R.mine && not R.shut) refl)
      (λ (nw : v ≢ write_end p). pipe_stays items a x one two p l same
      (off_w (λ e. ne e)) (off_r (λ e. nw e)) never never))
    where
      x : Item
      x = item.Made (step.Load (watch.Var v o) r)

      off_w : v ≢ read_end p → end_item (write_end p) x W ≡ W
      off_w ne = tested (v == other_end (write_end p)) (if_unclosed (after_end_look r)) W
          (test_off v (other_end (write_end p)) (λ e. ne (e ∙ other_w p)))

      off_r : v ≢ write_end p → end_item (read_end p) x R ≡ R
      off_r ne = tested (v == other_end (read_end p)) (if_unclosed (after_end_look r)) R
          (test_off v (other_end (read_end p)) (λ e. ne (e ∙ other_r p)))

      on_w : (e : End) → v ≡ read_end p → end_item (write_end p) x e ≡ if_unclosed (after_end_look r) e
      on_w e is = ap (λ (b : Bool). if b then if_unclosed (after_end_look r) e else e)
          (test_on v (other_end (write_end p)) (is ∙ sym (other_w p)))

      on_r : (e : End) → v ≡ write_end p → end_item (read_end p) x e ≡ if_unclosed (after_end_look r) e
      on_r e is = ap (λ (b : Bool). if b then if_unclosed (after_end_look r) e else e)
          (test_on v (other_end (read_end p)) (is ∙ sym (other_r p)))

      of_reader : v ≡ read_end p → (b : Bool) → (W.mine && not W.shut) ≡ b → IsPipe two (now items a x) p
      of_reader is true open_w =
          let mine = both_mine W.mine W.shut open_w in
          let unshut = both_unshut W.mine W.shut open_w in
          writer_moves items a x one two p l mine (off_r (λ e. ends_apart p (sym e ∙ is))) never
          (λ own. subst (λ (k : End). IsFlow two p k l.r)
          (sym (on_w l.w is ∙ ap (λ (b : Bool). if b then after_end_look r l.w else l.w)
          (ap (λ (k : End). k.mine && not k.shut) own ∙ open_w)))
          (subst (λ (n : ℕ). IsFlow two p (after_end_look n l.w) l.r)
          (sym (reads (ap (λ (n : ℕ). n / PIPE_ENDS) is ∙ omega arith) ∙ ap (λ (n : ℕ). one (place.Var n)) is))
          (flow_words one two p (after_end_look (one (place.Var (read_end p))) l.w) l.r same
          (look_w_flow one p l.w l.r l.flow (ap (λ (k : End). k.mine) own ∙ mine)
          (ap (λ (k : End). k.shut) own ∙ unshut)))))
      of_reader is false none = pipe_stays items a x one two p l same (on_w W is ∙ unlooked (after_end_look r) W none)
          (off_r (λ e. ends_apart p (sym e ∙ is))) never never

      of_writer : v ≡ write_end p → (b : Bool) → (R.mine && not R.shut) ≡ b → IsPipe two (now items a x) p
      of_writer is true open_r =
          let mine = both_mine R.mine R.shut open_r in
          let unshut = both_unshut R.mine R.shut open_r in
          reader_moves items a x one two p l mine (off_w (λ e. ends_apart p (sym is ∙ e))) never
          (λ own. subst (λ (k : End). IsFlow two p l.w k)
          (sym (on_r l.r is ∙ ap (λ (b : Bool). if b then after_end_look r l.r else l.r)
          (ap (λ (k : End). k.mine && not k.shut) own ∙ open_r)))
          (subst (λ (n : ℕ). IsFlow two p l.w (after_end_look n l.r))
          (sym (reads (ap (λ (n : ℕ). n / PIPE_ENDS) is ∙ omega arith) ∙ ap (λ (n : ℕ). one (place.Var n)) is))
          (flow_words one two p l.w (after_end_look (one (place.Var (write_end p))) l.r) same
          (look_r_flow one p l.w l.r l.flow (ap (λ (k : End). k.mine) own ∙ mine)
          (ap (λ (k : End). k.shut) own ∙ unshut)))))
      of_writer is false none = pipe_stays items a x one two p l same
          (off_w (λ e. ends_apart p (sym is ∙ e))) (on_r R is ∙ unlooked (after_end_look r) R none) never never

  -- a store of what was there
  store_pipe : (v o n r : ℕ) → (v / PIPE_ENDS ≡ p → n ≡ one (place.Var v))
      → IsPipe two (now items a (item.Made (step.Publish (watch.Var v o) n r))) p
  store_pipe v o n r stores = pipe_stays items a x one two p l same
      (dite (ℕ_discrete v (write_end p))
      (λ (e : v ≡ write_end p). ap (λ (b : Bool). if b then if_mine (after_end_publish n) W else W)
      (test_on v (write_end p) e) ∙ by_end (write_end p) W l.w e (omega arith)
      (λ m. (owner items a x (write_end p) l.writer l.w l.writes m).1) l.flow.w_before l.flow.end_w W.mine refl)
      (λ (ne : v ≢ write_end p). tested (v == write_end p) (if_mine (after_end_publish n)) W (test_off v (write_end p) ne)))
      (dite (ℕ_discrete v (read_end p))
      (λ (e : v ≡ read_end p). ap (λ (b : Bool). if b then if_mine (after_end_publish n) R else R)
      (test_on v (read_end p) e) ∙ by_end (read_end p) R l.r e (omega arith)
      (λ m. (owner items a x (read_end p) l.reader l.r l.reads m).1) l.flow.r_before l.flow.end_r R.mine refl)
      (λ (ne : v ≢ read_end p). tested (v == read_end p) (if_mine (after_end_publish n)) R (test_off v (read_end p) ne)))
      never never
    where
      x : Item
      x = item.Made (step.Publish (watch.Var v o) n r)

      -- an end whose word it is, by what the task knows of it
      by_end : (k : ℕ) (E e : End) → v ≡ k → k / PIPE_ENDS ≡ p → (E.mine ≡ true → E ≡ e) → e.before ≡ e.count
          → one (place.Var k) ≡ end_word e.count e.shut → (b : Bool) → E.mine ≡ b → if_mine (after_end_publish n) E ≡ E
      by_end k E e is side own before word false none = unmoved (after_end_publish n) E none
      by_end k E e is side own before word true mine = ap (λ (b : Bool). if b then after_end_publish n E else E) mine
          ∙ subst (λ (i : End). after_end_publish n i ≡ i) (sym (own mine)) (publish_same e n before
          (stores (ap (λ (i : ℕ). i / PIPE_ENDS) is ∙ side) ∙ (ap (λ (i : ℕ). one (place.Var i)) is ∙ word)))

  still : (e : Step) → end_item (write_end p) (item.Made e) W ≡ W → end_item (read_end p) (item.Made e) R ≡ R
      → IsPipe two (now items a (item.Made e)) p
  still e w r = pipe_stays items a (item.Made e) one two p l same w r never never

  pub step_pipe : (e : Step) → ReadsEnd one p e → IsPipe two (now items a (item.Made e)) p
  step_pipe (step.Load (watch.Var v o) r) reads = load_pipe v o r reads
  step_pipe (step.Publish (watch.Var v o) n r) stores = store_pipe v o n r stores
  step_pipe (step.Load (watch.Plain c) r) reads = still (step.Load (watch.Plain c) r) refl refl
  step_pipe (step.Load (watch.Done d) r) reads = still (step.Load (watch.Done d) r) refl refl
  step_pipe (step.Load (watch.Bit w b) r) reads = still (step.Load (watch.Bit w b) r) refl refl
  step_pipe (step.Publish (watch.Plain c) n r) reads = still (step.Publish (watch.Plain c) n r) refl refl
  step_pipe (step.Publish (watch.Done d) n r) reads = still (step.Publish (watch.Done d) n r) refl refl
  step_pipe (step.Publish (watch.Bit w b) n r) reads = still (step.Publish (watch.Bit w b) n r) refl refl
  step_pipe e reads = still e refl refl

-- A word of pipe p that changes, seen from another pipe.
module _ (one two : Location → ℕ) (k p q : ℕ) (ne : p ≢ q) where
  pub claim_words : k / PIPE_ENDS ≡ p → ((j : Location) → j ≢ place.Claim k → two j ≡ one j) → SameWords q one two
  claim_words is rest = record {
    claims = λ j of. rest (place.Claim j) (claims_apart j k
        (λ e. ne (sym is ∙ (ap (λ (i : ℕ). i / PIPE_ENDS) (sym e) ∙ of))));
    ends = λ j of. rest (place.Var j) (var_claim j k);
    cells = λ j of. rest (place.Cell j) (cell_claim j k);
  }

  pub var_words : k / PIPE_ENDS ≡ p → ((j : Location) → j ≢ place.Var k → two j ≡ one j) → SameWords q one two
  var_words is rest = record {
    claims = λ j of. rest (place.Claim j) (claim_var j k);
    ends = λ j of. rest (place.Var j) (vars_apart j k
        (λ e. ne (sym is ∙ (ap (λ (i : ℕ). i / PIPE_ENDS) (sym e) ∙ of))));
    cells = λ j of. rest (place.Cell j) (cell_var j k);
  }

  pub cell_words : k / PIPE_CELLS ≡ p → ((j : Location) → j ≢ place.Cell k → two j ≡ one j) → SameWords q one two
  cell_words is rest = record {
    claims = λ j of. rest (place.Claim j) (claim_cell j k);
    ends = λ j of. rest (place.Var j) (var_cell j k);
    cells = λ j of. rest (place.Cell j) (cells_apart j k
        (λ e. ne (sym is ∙ (ap (λ (i : ℕ). i / PIPE_CELLS) (sym e) ∙ of))));
  }

-- no word changes
pub no_words : (one two : Location → ℕ) (q : ℕ) → ((j : Location) → two j ≡ one j) → SameWords q one two
no_words one two q same = record {
  claims = λ j of. same (place.Claim j);
  ends = λ j of. same (place.Var j);
  cells = λ j of. same (place.Cell j);
}

-- an item that tells nothing of an end
abbrev pub IsDumb : ℕ → Item → Type 0
IsDumb q x = (((e : End) → end_item (write_end q) x e ≡ e) × ((e : End) → end_item (read_end q) x e ≡ e))
    × ((refused_item (write_end q) x ≡ false) × (refused_item (read_end q) x ≡ false))

-- a claim of another end
pub other_claim : (j k : ℕ) (d : EndAct) (w : ℕ) → j ≢ k → refused_item k (item.Piped j d w) ≡ false
other_claim j k act.Claim w ne = ap (λ (b : Bool). b && not (w == 0)) (test_off j k ne)
other_claim j k act.Cell w ne = refl

pub piped_dumb : (k : ℕ) (d : EndAct) (w p q : ℕ) → k / PIPE_ENDS ≡ p → p ≢ q → IsDumb q (item.Piped k d w)
piped_dumb k d w p q is ne = (
  (
    λ e. ap (λ (b : Bool). if b then end_act d w e else e) (test_off k (write_end q) not_w),
    λ e. ap (λ (b : Bool). if b then end_act d w e else e) (test_off k (read_end q) not_r),
  ),
  (other_claim k (write_end q) d w not_w, other_claim k (read_end q) d w not_r),
)
  where
    not_w : k ≢ write_end q
    not_w z = ne (sym is ∙ (ap (λ (i : ℕ). i / PIPE_ENDS) z ∙ write_in q))

    not_r : k ≢ read_end q
    not_r z = ne (sym is ∙ (ap (λ (i : ℕ). i / PIPE_ENDS) z ∙ read_in q))

pub publish_dumb : (k o n r p q : ℕ) → k / PIPE_ENDS ≡ p → p ≢ q
    → IsDumb q (item.Made (step.Publish (watch.Var k o) n r))
publish_dumb k o n r p q is ne = (
  (
    λ e. ap (λ (b : Bool). if b then if_mine (after_end_publish n) e else e) (test_off k (write_end q)
        (λ z. ne (sym is ∙ (ap (λ (i : ℕ). i / PIPE_ENDS) z ∙ write_in q)))),
    λ e. ap (λ (b : Bool). if b then if_mine (after_end_publish n) e else e) (test_off k (read_end q)
        (λ z. ne (sym is ∙ (ap (λ (i : ℕ). i / PIPE_ENDS) z ∙ read_in q)))),
  ),
  (refl, refl),
)

-- all pipes after an item about one of them
pub all_pipes : (items : ℕ → List Item) (a : ℕ) (x : Item) (one two : Location → ℕ) (p : ℕ)
    → ((q : ℕ) → p ≢ q → SameWords q one two × IsDumb q x) → ArePipes one items
    → (IsPipe one items p → IsPipe two (now items a x) p) → ArePipes two (now items a x)
all_pipes items a x one two p away pipes at q few = dite (ℕ_discrete p q)
    (λ (e : p ≡ q). subst (IsPipe two (now items a x)) e (at (pipes p (subst (λ (i : ℕ). i < PIPES) (sym e) few))))
    (λ (ne : p ≢ q). let w = away q ne in
    pipe_stays items a x one two q (pipes q few) w.0 (w.1.0.0 (end_of (write_end q) (items a)))
    (w.1.0.1 (end_of (read_end q) (items a))) (λ bad. never (sym w.1.1.0 ∙ bad)) (λ bad. never (sym w.1.1.1 ∙ bad)))
