-- The law of pipes, and what stays of a task that claims an end or passes a cell.
use Rattle.std.proofs.Common.{◌∙◌, ap, sym, refl, subst, add-zero, arith}
use Rattle.std.specs.Prelude.{ℕ, ◌≡◌, ◌==◌, ◌+◌, ◌/◌, ◌%◌, ◌<◌, ◌≤◌, ◌&&◌, ◌||◌, not, if◌then◌else◌, Bool, true, false}
use Rattle.std.specs.Prelude.{List, [], ◌∷◌}
use Rattle.wait_model.specs.{declared.watches.Watch.Watch, Watches.same, Views.View as Told, Views.is_trying_for}
use Rattle.wait_model.specs.declared.layout.TheConstants.{PIPES, PIPE_CELLS, PIPE_ENDS, TASKS}
use Rattle.wait_model.specs.declared.watches.Watch.TheVariants as watch
use Rattle.wait_model.specs.declared.steps.Step.TheVariants as step
use Rattle.wait_model.specs.Locations as place
use Rattle.wait_model.specs.declared.watches.Mode.TheVariants as mode
use Rattle.wait_model.proofs.Functions.{put_same}
use Rattle.wait_rule.specs.{declared.journal.EndAct.EndAct, declared.journal.Item.Item, Journals.has_of, Known.Known}
use Rattle.wait_rule.specs.{PipeSays.EndBecomes, PipeSays.end_at, LookCounts.Looked, LookCounts.looks_made}
use Rattle.wait_rule.specs.Pipes.{Delivers, End, IsPipe, after_end_publish, end_act, end_item, end_of, if_mine, no_end}
use Rattle.wait_rule.specs.Pipes.{advanced, end_word, read_end, was_refused, write_end}
use Rattle.wait_rule.specs.PipeLaws.{RuleDelivers, RuleRefuses, JoinedDeliver, JoinedRefuse}
use Rattle.wait_rule.specs.Says.{Debts, Excuse, IsOutBut, OwesBut, added, told_of}
use Rattle.wait_rule.specs.Stays.{Carries, claim_change, close_change, unchanged, with_end, with_wakes}
use Rattle.wait_rule.specs.declared.journal.EndAct.TheVariants as act
use Rattle.wait_rule.specs.declared.journal.Item.TheVariants as item
use Rattle.wait_rule.proofs.{KnownLaws.AfterSteps.told_added, KnownLaws.LookCounts.looked_none}
use Rattle.wait_rule.proofs.{KnownLaws.CarriedTasks.kept_still, KnownLaws.CarriedTasks.published_carried}
use Rattle.wait_rule.proofs.{KnownLaws.StayingBeside.beside_carried, KnownLaws.PipeFlows.delivers}
use Rattle.wait_rule.proofs.{KnownLaws.PipeFlows.publish_is, KnownLaws.PipeItems.end_append}
use Rattle.wait_rule.proofs.{KnownLaws.PipeWords.test_on, KnownLaws.PipeWords.test_off}
use Rattle.wait_rule.proofs.KnownLaws.Debts.{added_debts, close_debts, got_debts, item_begins_none, refused_debts}
use Rattle.wait_rule.proofs.KnownLaws.PipeEnds.{by_side, own_w, own_r}

-- of one pipe
pipe_delivers : (word : place.Location → ℕ) (items : ℕ → List Item) (p t u : ℕ) → p < PIPES → IsPipe word items p
    → (end_of (write_end p) (items t)).mine ≡ true → (end_of (read_end p) (items u)).mine ≡ true
    → Delivers (end_of (write_end p) (items t)) (end_of (read_end p) (items u))
pipe_delivers word items p t u few l writes reads =
    subst (λ (e : End). Delivers e (end_of (read_end p) (items u))) (own_w items t word word p few l writes)
    (subst (λ (e : End). Delivers l.w e) (own_r items u word word p few l reads) (delivers word p l.w l.r l.flow))

pub rule_delivers : RuleDelivers
rule_delivers c law p t u few writes reads = pipe_delivers _ c.items p t u few (law.pipes p few) writes reads

pub joined_deliver : JoinedDeliver
joined_deliver v law p t u few has_t has_u writes reads =
    let one = law.lists t has_t in
    let two = law.lists u has_u in
    subst (λ (xs : List Item). Delivers (end_of (write_end p) xs) (end_of (read_end p) (has_of u v))) one
    (subst (λ (xs : List Item). Delivers (end_of (write_end p) (law.items t)) (end_of (read_end p) xs)) two
    (pipe_delivers law.words law.items p t u few (law.pipes p few)
    (ap (λ (xs : List Item). (end_of (write_end p) xs).mine) one ∙ writes)
    (ap (λ (xs : List Item). (end_of (read_end p) xs).mine) two ∙ reads)))

-- where a claim was refused somebody has the end
abbrev Has : (ℕ → List Item) → ℕ → Type 0
Has items k = (u : ℕ) × ((u < TASKS) × ((end_of k (items u)).mine ≡ true))

pipe_refuses : (word : place.Location → ℕ) (items : ℕ → List Item) (p k t : ℕ) → k / PIPE_ENDS ≡ p
    → IsPipe word items p → was_refused k (items t) ≡ true → Has items k
pipe_refuses word items p k t of l = by_side (λ i. was_refused i (items t) ≡ true → Has items i) k p of
    (λ bad. (
      l.writer,
      (
        l.writer_task,
        ap (λ (e : End). e.mine) (l.writes l.writer
            ∙ put_same (λ _. no_end) l.writer l.w) ∙ l.refused_w t bad,
      ),
    ))
    (λ bad. (
      l.reader,
      (
        l.reader_task,
        ap (λ (e : End). e.mine) (l.reads l.reader
            ∙ put_same (λ _. no_end) l.reader l.r) ∙ l.refused_r t bad,
      ),
    ))

pub rule_refuses : RuleRefuses
rule_refuses c law k t few = pipe_refuses _ c.items (k / PIPE_ENDS) k t refl (law.pipes (k / PIPE_ENDS) (omega arith))

pub joined_refuse : JoinedRefuse
joined_refuse v law all k t few task bad =
    let found = pipe_refuses law.words law.items (k / PIPE_ENDS) k t refl (law.pipes (k / PIPE_ENDS) (omega arith))
    (ap (was_refused k) (law.lists t (all t task)) ∙ bad) in (
      found.0,
      (
        found.1.0,
        ap (λ (xs : List Item). (end_of k xs).mine) (sym (law.lists found.0 (all found.0 found.1.0))) ∙ found.1.1,
      ),
    )

-- one item more, of one end
module _ (old new : Known) (x : Item) (is : new ≡ added old x) where
  pub end_added : (k : ℕ) → end_at k new ≡ end_item k x (end_at k old)
  end_added k = ap (end_at k) is ∙ end_append k no_end old.view.items (x ∷ [])

-- a claim or a cell is no step
module _ (old new : Known) (k : ℕ) (d : EndAct) (w : ℕ) (is : new ≡ added old (item.Piped k d w)) where
  pub piped_told : told_of new ≡ told_of old
  piped_told = ap told_of is ∙ told_added old (item.Piped k d w)

  -- what a task of such an item has yet to do, by its debts
  piped_owes : (x y : Excuse) → y.entries ≡ x.entries → y.bits ≡ x.bits → Debts y new → OwesBut x old → OwesBut y new
  piped_owes x y entries bits debts o = record {
    unmarked = ap (λ (v : Told). v.mark) piped_told ∙ o.unmarked;
    debts = debts;
    unqueued = λ i. subst (λ (f : ℕ → Bool). IsOutBut (f i) ((told_of new).bits.stored i)) (sym entries)
        (subst (λ (v : Told). IsOutBut (x.entries i) (v.bits.stored i)) (sym piped_told) (o.unqueued i));
    holds = λ c. ap (λ (f : Watch → Bool). not (f c) && (told_of new).bits.keeps c) bits
        ∙ (ap (λ (v : Told). not (x.bits c) && v.bits.keeps c) piped_told ∙ o.holds c);
    tries = λ c. ap (λ (v : Told). v.bits.pending c) piped_told ∙ o.tries c;
    tries_none = λ i c. ap (λ (v : Told). is_trying_for (v.bits.stored i) c) piped_told ∙ o.tries_none i c;
  }

  piped_carries : (to : Excuse → Excuse) → ((x : Excuse) → OwesBut x old → OwesBut (to x) new)
      → Carries (record unchanged { to = to }) old new
  piped_carries to owes = beside_carried (λ _. false) old new (item.Piped k d w) is refl refl refl refl (λ _ _. refl)
      (λ x. x) to (λ _ _ _ none. none) owes

  pub piped_carried : item_begins_none (item.Piped k d w) ≡ true → Carries unchanged old new
  piped_carried quiet = piped_carries (λ x. x) (λ x o. piped_owes x x refl refl
      (added_debts old new (item.Piped k d w) quiet is x o.debts) o)

  pub piped_looked : Looked 0 old new
  piped_looked = looked_none old new (item.Piped k d w) (λ k. refl) is ∙ sym (add-zero (looks_made old))

  pub piped_becomes : EndBecomes k old new (end_act d w (end_at k old))
  piped_becomes = record {
    own = end_added old new (item.Piped k d w) is k
        ∙ ap (λ (b : Bool). if b then end_act d w (end_at k old) else end_at k old) (test_on k k refl);
    others = λ j ne. end_added old new (item.Piped k d w) is j
        ∙ ap (λ (b : Bool). if b then end_act d w (end_at j old) else end_at j old)
        (test_off k j (λ e. ne (sym e)));
  }

-- a claim, which the task got or not
pub claim_carried : (old new : Known) (k w : ℕ) (got : Bool) → new ≡ added old (item.Piped k act.Claim w)
    → got ≡ (w == 0) → Carries (claim_change k got) old new
unfolding with_end
claim_carried old new k w true is found = piped_carries old new k act.Claim w is (with_end k)
    (λ x o. claimed x o)
  where
    claimed : (x : Excuse) → OwesBut x old → OwesBut (with_end k x) new
    claimed x o = piped_owes old new k act.Claim w is x (with_end k x) refl refl (got_debts k w x old new is o.debts) o
claim_carried old new k w false is found = piped_carries old new k act.Claim w is (λ x. x)
    (λ x o. piped_owes old new k act.Claim w is x x refl refl (refused_debts k w x old new is o.debts (sym found)) o)

-- an end that is closed
pub closed_carried : (old new : Known) (k n r : ℕ) → (n % 2 == 1) ≡ true
    → new ≡ added old (item.Made (step.Publish (watch.Var k 0) n r)) → Carries (close_change k) old new
unfolding with_wakes with_end
closed_carried old new k n r odd is = beside_carried (λ d. same d (watch.Var k 0)) old new
    (item.Made (step.Publish (watch.Var k 0) n r)) is refl refl refl refl
    (λ d. kept_still ((told_of old).bits.keeps d) (same d (watch.Var k 0))) (with_end k)
    (with_wakes (watch.Var k 0) mode.Normal)
    (λ w σ other none. ap (λ (b : Bool). b || (told_of old).duty.owes w σ) other ∙ none)
    (λ x o. closes x o ((published_carried old new (watch.Var k 0) n r is).owes (with_end k x) o))
  where
    closes : (x : Excuse) → OwesBut (with_end k x) old → OwesBut (with_wakes (watch.Var k 0) mode.Normal (with_end k x)) new
        → OwesBut (with_wakes (watch.Var k 0) mode.Normal x) new
    closes x o q = record {
      unmarked = q.unmarked;
      debts = close_debts k n r odd x old new is o.debts;
      unqueued = q.unqueued;
      holds = q.holds;
      tries = q.tries;
      tries_none = q.tries_none;
    }

-- a publish of the own word
pub publish_becomes : (old new : Known) (k o n r : ℕ) → (end_at k old).mine ≡ true
    → new ≡ added old (item.Made (step.Publish (watch.Var k o) n r))
    → EndBecomes k old new (after_end_publish n (end_at k old))
publish_becomes old new k o n r mine is = record {
  own = end_added old new x is k
      ∙ (ap (λ (b : Bool). if b then if_mine (after_end_publish n) (end_at k old) else end_at k old) (test_on k k refl)
      ∙ ap (λ (b : Bool). if b then after_end_publish n (end_at k old) else end_at k old) mine);
  others = λ j ne. end_added old new x is j
      ∙ ap (λ (b : Bool). if b then if_mine (after_end_publish n) (end_at j old) else end_at j old)
      (test_off k j (λ e. ne (sym e)));
}
  where
    x : Item
    x = item.Made (step.Publish (watch.Var k o) n r)

-- that passes on the first m cells, and closes the end or not
pub advance_becomes : (old new : Known) (k n r m : ℕ) (b : Bool) → (end_at k old).mine ≡ true
    → new ≡ added old (item.Made (step.Publish (watch.Var k 0) n r)) → n ≡ end_word m b → (end_at k old).count ≤ m
    → m ≤ (end_at k old).count + PIPE_CELLS → ((end_at k old).shut ≡ true → b ≡ true)
    → EndBecomes k old new (advanced m b (end_at k old))
advance_becomes old new k n r m b mine now is low high still =
    let p = publish_becomes old new k 0 n r mine now in
    record { own = p.own ∙ publish_is (end_at k old) m b n is low high still; others = p.others }
