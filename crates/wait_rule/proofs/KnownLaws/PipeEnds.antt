-- The law of a pipe over claims, cells and publishes of its ends, and what a task knows of its own end.
use Rattle.std.proofs.Common.{◌≡◌, ℕ, ◌+◌, ◌/◌, ◌%◌, ◌<◌, ◌≤◌, ◌≢◌, Bool, true, false, List, length, refl, sym, ap, ◌∙◌}
use Rattle.std.proofs.Common.{subst, arith}
use Rattle.std.specs.Prelude.{if◌then◌else◌}
use mathlib.Core.Logic.{dite}
use native.Mathlib.Decide.{ℕ_discrete}
use Rattle.wait_model.specs.{Functions.put, Words.flag, Locations.Location}
use Rattle.wait_model.specs.declared.layout.TheConstants.{PIPES, PIPE_ENDS, PIPE_CELLS, TASKS}
use Rattle.wait_model.specs.declared.watches.Watch.TheVariants as watch
use Rattle.wait_model.specs.declared.steps.Step.TheVariants as step
use Rattle.wait_model.specs.Locations as place
use Rattle.wait_model.proofs.Functions.{put_at}
use Rattle.wait_rule.specs.{declared.journal.EndAct.EndAct, declared.journal.Item.Item, PipeSays.IsSoundEnd}
use Rattle.wait_rule.specs.Pipes.{write_end, read_end, cell_of, end_word, IsCell, End, no_end, new_end, with_cell}
use Rattle.wait_rule.specs.Pipes.{claimed, after_end_publish, advanced, if_mine, end_act, end_item, end_of, IsFlow}
use Rattle.wait_rule.specs.Pipes.{IsPipe}
use Rattle.wait_rule.specs.declared.journal.EndAct.TheVariants as act
use Rattle.wait_rule.specs.declared.journal.Item.TheVariants as item
use Rattle.wait_rule.proofs.KnownLaws.PipeFlows.{counts, flow_words, get_flow, get_whole, put_flow, publish_w_flow}
use Rattle.wait_rule.proofs.KnownLaws.PipeFlows.{publish_r_flow, publish_is, open_w_flow, open_r_flow}
use Rattle.wait_rule.proofs.KnownLaws.PipeItems.{ends_apart, now, others, owner, refuses, begins, pipe_stays}
use Rattle.wait_rule.proofs.KnownLaws.PipeItems.{writer_moves, reader_moves, never}
use Rattle.wait_rule.proofs.KnownLaws.PipeSteps.{other_claim}
use Rattle.wait_rule.proofs.KnownLaws.PipeWords.{SameWords, var_claim, cell_claim, claims_apart, none_mine, some_mine}
use Rattle.wait_rule.proofs.KnownLaws.PipeWords.{test_on, test_off}

-- A claim of an end, which leaves 1 in its word.
module _ (items : ℕ → List Item) (a : ℕ) (one two : Location → ℕ) (p found : ℕ) where
  dumb_on_read : (w : ℕ) (d : EndAct) (e : End) → end_item (read_end p) (item.Piped (write_end p) d w) e ≡ e
  dumb_on_read w d e = ap (λ (b : Bool). if b then end_act d w e else e) (test_off (write_end p) (read_end p)
      (ends_apart p))

  dumb_on_write : (w : ℕ) (d : EndAct) (e : End) → end_item (write_end p) (item.Piped (read_end p) d w) e ≡ e
  dumb_on_write w d e = ap (λ (b : Bool). if b then end_act d w e else e) (test_off (read_end p) (write_end p)
      (λ z. ends_apart p (sym z)))

  tells_end : (k w : ℕ) (d : EndAct) (e : End) → end_item k (item.Piped k d w) e ≡ end_act d w e
  tells_end k w d e = ap (λ (b : Bool). if b then end_act d w e else e) (test_on k k refl)

  found_none : found ≡ 0 → (e : End) → claimed found e ≡ new_end
  found_none is e = ap (λ (b : Bool). if b then new_end else e) (test_on found 0 is)

  found_one : found ≢ 0 → (e : End) → claimed found e ≡ e
  found_one ne e = ap (λ (b : Bool). if b then new_end else e) (test_off found 0 ne)

  same_claims : (k : ℕ) → two (place.Claim k) ≡ one (place.Claim k)
      → ((j : Location) → j ≢ place.Claim k → two j ≡ one j) → SameWords p one two
  same_claims k is rest = record {
    claims = λ j of. dite (ℕ_discrete j k)
        (λ (e : j ≡ k). ap (λ (i : ℕ). two (place.Claim i)) e ∙ (is ∙ ap (λ (i : ℕ). one (place.Claim i)) (sym e)))
        (λ (ne : j ≢ k). rest (place.Claim j) (claims_apart j k ne));
    ends = λ j of. rest (place.Var j) (var_claim j k);
    cells = λ j of. rest (place.Cell j) (cell_claim j k);
  }

  -- the end is claimed already
  held_mine : (b : Bool) → found ≡ flag b → found ≢ 0 → b ≡ true
  held_mine true is ne = refl
  held_mine false is ne = absurd (ne is)

  pub claims_write : a < TASKS → p < PIPES → found ≡ one (place.Claim (write_end p))
      → two (place.Claim (write_end p)) ≡ 1
      → ((j : Location) → j ≢ place.Claim (write_end p) → two j ≡ one j) → IsPipe one items p
      → IsPipe two (now items a (item.Piped (write_end p) act.Claim found)) p
  claims_write task few is there rest l = dite (ℕ_discrete found 0) free (λ (ne : found ≢ 0). held ne)
    where
      x : Item
      x = item.Piped (write_end p) act.Claim found

      held : found ≢ 0 → IsPipe two (now items a x) p
      held ne =
          let word : two (place.Claim (write_end p)) ≡ one (place.Claim (write_end p)) =
          there ∙ sym (l.flow.claim_w ∙ some_mine l.w.mine (λ z. ne (is ∙ (l.flow.claim_w ∙ z)))) in
          pipe_stays items a x one two p l (same_claims (write_end p) word rest)
          (tells_end (write_end p) found act.Claim _ ∙ found_one ne _) (dumb_on_read found act.Claim _)
          (λ _. held_mine l.w.mine (is ∙ l.flow.claim_w) ne)
          (λ bad. never (sym (other_claim (write_end p) (read_end p) act.Claim found (ends_apart p)) ∙ bad))

      free : found ≡ 0 → IsPipe two (now items a x) p
      free z =
          let none : l.w ≡ no_end = l.flow.idle_w (none_mine l.w.mine (sym l.flow.claim_w ∙ (sym is ∙ z))) in
          record {
            writer = a;
            reader = l.reader;
            w = new_end;
            r = l.r;
            writes = λ t. begins items a x (write_end p) (λ u. l.writes u ∙ none_put none u) t
                ∙ ap (λ (e : End). put (λ _. no_end) a e t) (tells_end (write_end p) found act.Claim no_end
                ∙ found_none z no_end);
            reads = λ t. others items a x (read_end p) (dumb_on_read found act.Claim _) t ∙ l.reads t;
            writer_task = task;
            reader_task = l.reader_task;
            refused_w = λ t _. refl;
            refused_r = refuses items a x (read_end p) (l.r.mine ≡ true) l.refused_r
                (λ bad. never (sym (other_claim (write_end p) (read_end p) act.Claim found (ends_apart p)) ∙ bad));
            flow = open_w_flow one two p l.w l.r few (subst (λ (e : End). IsFlow one p e l.r) none l.flow) there rest;
          }
        where
          none_put : l.w ≡ no_end → (u : ℕ) → put (λ _. no_end) l.writer l.w u ≡ no_end
          none_put none u = put_at (λ (e : End). e ≡ no_end) (λ _. no_end) l.writer l.w u (λ _. none) (λ _. refl)

  pub claims_read : a < TASKS → p < PIPES → found ≡ one (place.Claim (read_end p)) → two (place.Claim (read_end p)) ≡ 1
      → ((j : Location) → j ≢ place.Claim (read_end p) → two j ≡ one j) → IsPipe one items p
      → IsPipe two (now items a (item.Piped (read_end p) act.Claim found)) p
  claims_read task few is there rest l = dite (ℕ_discrete found 0) free (λ (ne : found ≢ 0). held ne)
    where
      x : Item
      x = item.Piped (read_end p) act.Claim found

      held : found ≢ 0 → IsPipe two (now items a x) p
      held ne =
          let word : two (place.Claim (read_end p)) ≡ one (place.Claim (read_end p)) =
          there ∙ sym (l.flow.claim_r ∙ some_mine l.r.mine (λ z. ne (is ∙ (l.flow.claim_r ∙ z)))) in
          pipe_stays items a x one two p l (same_claims (read_end p) word rest)
          (dumb_on_write found act.Claim _) (tells_end (read_end p) found act.Claim _ ∙ found_one ne _)
          (λ bad. never (sym (other_claim (read_end p) (write_end p) act.Claim found (λ z. ends_apart p (sym z)))
          ∙ bad))
          (λ _. held_mine l.r.mine (is ∙ l.flow.claim_r) ne)

      free : found ≡ 0 → IsPipe two (now items a x) p
      free z =
          let none : l.r ≡ no_end = l.flow.idle_r (none_mine l.r.mine (sym l.flow.claim_r ∙ (sym is ∙ z))) in
          record {
            writer = l.writer;
            reader = a;
            w = l.w;
            r = new_end;
            writes = λ t. others items a x (write_end p) (dumb_on_write found act.Claim _) t ∙ l.writes t;
            reads = λ t. begins items a x (read_end p) (λ u. l.reads u ∙ none_put none u) t
                ∙ ap (λ (e : End). put (λ _. no_end) a e t) (tells_end (read_end p) found act.Claim no_end
                ∙ found_none z no_end);
            writer_task = l.writer_task;
            reader_task = task;
            refused_w = refuses items a x (write_end p) (l.w.mine ≡ true) l.refused_w
                (λ bad. never (sym (other_claim (read_end p) (write_end p) act.Claim found
                (λ z. ends_apart p (sym z))) ∙ bad));
            refused_r = λ t _. refl;
            flow = open_r_flow one two p l.w l.r few (subst (λ (e : End). IsFlow one p l.w e) none l.flow) there rest;
          }
        where
          none_put : l.r ≡ no_end → (u : ℕ) → put (λ _. no_end) l.reader l.r u ≡ no_end
          none_put none u = put_at (λ (e : End). e ≡ no_end) (λ _. no_end) l.reader l.r u (λ _. none) (λ _. refl)

-- what a task knows of its ends
module _ (items : ℕ → List Item) (a : ℕ) (one two : Location → ℕ) (p : ℕ) (few : p < PIPES) (l : IsPipe one items p)
  where
    abbrev pub MW : End
    MW = end_of (write_end p) (items a)

    abbrev pub MR : End
    MR = end_of (read_end p) (items a)

    -- the own end, where the task has it
    pub own_w : MW.mine ≡ true → l.w ≡ MW
    own_w mine = sym (owner items a (item.Piped 0 act.Cell 0) (write_end p) l.writer l.w l.writes mine).1

    pub own_r : MR.mine ≡ true → l.r ≡ MR
    own_r mine = sym (owner items a (item.Piped 0 act.Cell 0) (read_end p) l.reader l.r l.reads mine).1

    -- a cell that is stored
    pub puts : (n : ℕ) → MW.mine ≡ true → IsCell n → length MW.cells < MW.seen + PIPE_CELLS
        → two (place.Cell (cell_of p (length MW.cells))) ≡ n
        → ((j : Location) → j ≢ place.Cell (cell_of p (length MW.cells)) → two j ≡ one j)
        → IsPipe two (now items a (item.Piped (write_end p) act.Cell n)) p
    puts n mine cell room there rest = writer_moves items a (item.Piped (write_end p) act.Cell n) one two p l mine
        (dumb_on_read items a one two p n n act.Cell MR) never
        (λ own. subst (λ (e : End). IsFlow two p e l.r)
        (sym (tells_end items a one two p n (write_end p) n act.Cell l.w))
        (put_flow one two p l.w l.r few l.flow n (ap (λ (e : End). e.mine) own ∙ mine) cell
        (subst (λ (e : End). length e.cells < e.seen + PIPE_CELLS) (sym own) room)
        (ap (λ (e : End). two (place.Cell (cell_of p (length e.cells)))) own ∙ there)
        (λ j ne. rest j (λ z. ne (z ∙ ap (λ (e : End). place.Cell (cell_of p (length e.cells))) (sym own))))))

    -- a cell that is loaded
    pub gets : (n : ℕ) → MR.mine ≡ true → length MR.cells < MR.seen
        → n ≡ one (place.Cell (cell_of p (length MR.cells))) → SameWords p one two
        → IsPipe two (now items a (item.Piped (read_end p) act.Cell n)) p
    gets n mine there is same = reader_moves items a (item.Piped (read_end p) act.Cell n) one two p l mine
        (dumb_on_write items a one two p n n act.Cell MW) never
        (λ own. subst (λ (e : End). IsFlow two p l.w e)
        (sym (tells_end items a one two p n (read_end p) n act.Cell l.r))
        (flow_words one two p l.w (with_cell n l.r) same
        (subst (λ (m : ℕ). IsFlow one p l.w (with_cell m l.r))
        (ap (λ (e : End). one (place.Cell (cell_of p (length e.cells)))) own ∙ sym is)
        (get_flow one p l.w l.r l.flow (ap (λ (e : End). e.mine) own ∙ mine)
        (subst (λ (e : End). length e.cells < e.seen) (sym own) there)))))

    pub got_cell : (n : ℕ) → MR.mine ≡ true → length MR.cells < MR.seen
        → n ≡ one (place.Cell (cell_of p (length MR.cells))) → IsCell n
    got_cell n mine there is =
        let own = own_r mine in
        subst IsCell (ap (λ (e : End). one (place.Cell (cell_of p (length e.cells)))) own ∙ sym is)
        (get_whole one p l.w l.r l.flow (subst (λ (e : End). length e.cells < e.seen) (sym own) there))

    told_published : (k o n r m : ℕ) (b : Bool) (e : End) → e.mine ≡ true → n ≡ end_word m b → e.count ≤ m
        → m ≤ e.count + PIPE_CELLS → (e.shut ≡ true → b ≡ true)
        → end_item k (item.Made (step.Publish (watch.Var k o) n r)) e ≡ advanced m b e
    told_published k o n r m b e mine is low near still =
        ap (λ (c : Bool). if c then if_mine (after_end_publish n) e else e) (test_on k k refl)
        ∙ (ap (λ (c : Bool). if c then after_end_publish n e else e) mine ∙ publish_is e m b n is low near still)

    -- a publish of the own word: the count rises to m, and the end is closed or not
    pub publishes_w : (o n r m : ℕ) (b : Bool) → MW.mine ≡ true → n ≡ end_word m b → MW.count ≤ m
        → m ≤ length MW.cells → (MW.shut ≡ true → (b ≡ true) × (m ≡ MW.count)) → two (place.Var (write_end p)) ≡ n
        → ((j : Location) → j ≢ place.Var (write_end p) → two j ≡ one j)
        → IsPipe two (now items a (item.Made (step.Publish (watch.Var (write_end p) o) n r))) p
    publishes_w o n r m b mine is low high after there rest = writer_moves items a
        (item.Made (step.Publish (watch.Var (write_end p) o) n r)) one two p l mine
        (ap (λ (c : Bool). if c then if_mine (after_end_publish n) MR else MR) (test_off (write_end p) (read_end p)
        (ends_apart p))) never
        (λ own.
        let f = l.flow in
        let own_mine : l.w.mine ≡ true = ap (λ (e : End). e.mine) own ∙ mine in
        let own_low : l.w.count ≤ m = subst (λ (e : End). e.count ≤ m) (sym own) low in
        let own_high : m ≤ length l.w.cells = subst (λ (e : End). m ≤ length e.cells) (sym own) high in
        let own_after : l.w.shut ≡ true → (b ≡ true) × (m ≡ l.w.count) =
        subst (λ (e : End). e.shut ≡ true → (b ≡ true) × (m ≡ e.count)) (sym own) after in
        subst (λ (e : End). IsFlow two p e l.r) (sym (told_published (write_end p) o n r m b l.w own_mine is own_low
        (omega (arith, own_high, f.w_room, f.w_seen, f.r_took, f.r_there, f.r_seen)) (λ shut. (own_after shut).0)))
        (publish_w_flow one two p l.w l.r few f m b own_mine own_low own_high own_after (there ∙ is) rest))

    pub publishes_r : (o n r m : ℕ) (b : Bool) → MR.mine ≡ true → n ≡ end_word m b → MR.count ≤ m
        → m ≤ length MR.cells → (MR.shut ≡ true → (b ≡ true) × (m ≡ MR.count)) → two (place.Var (read_end p)) ≡ n
        → ((j : Location) → j ≢ place.Var (read_end p) → two j ≡ one j)
        → IsPipe two (now items a (item.Made (step.Publish (watch.Var (read_end p) o) n r))) p
    publishes_r o n r m b mine is low high after there rest = reader_moves items a
        (item.Made (step.Publish (watch.Var (read_end p) o) n r)) one two p l mine
        (ap (λ (c : Bool). if c then if_mine (after_end_publish n) MW else MW) (test_off (read_end p) (write_end p)
        (λ z. ends_apart p (sym z)))) never
        (λ own.
        let f = l.flow in
        let own_mine : l.r.mine ≡ true = ap (λ (e : End). e.mine) own ∙ mine in
        let own_low : l.r.count ≤ m = subst (λ (e : End). e.count ≤ m) (sym own) low in
        let own_high : m ≤ length l.r.cells = subst (λ (e : End). m ≤ length e.cells) (sym own) high in
        let own_after : l.r.shut ≡ true → (b ≡ true) × (m ≡ l.r.count) =
        subst (λ (e : End). e.shut ≡ true → (b ≡ true) × (m ≡ e.count)) (sym own) after in
        subst (λ (e : End). IsFlow two p l.w e) (sym (told_published (read_end p) o n r m b l.r own_mine is own_low
        (omega (arith, own_high, f.r_there, f.r_seen, f.w_put, f.w_room, f.w_seen)) (λ shut. (own_after shut).0)))
        (publish_r_flow one two p l.w l.r few f m b own_mine own_low own_high own_after (there ∙ is) rest))

-- The counts of both ends.
sound_ends : (one : Location → ℕ) (items : ℕ → List Item) (p : ℕ) (l : IsPipe one items p)
    → IsSoundEnd (write_end p) l.w × IsSoundEnd (read_end p) l.r
sound_ends one items p l =
    let f = l.flow in
    let apart = (counts one p l.w l.r f).apart in (
      record {
        count = f.w_put;
        room = omega (arith, f.w_room, f.w_seen, f.r_took, f.r_there, f.r_seen);
        write = λ even. record { seen = omega (arith, f.w_seen, f.r_took, f.r_there, f.r_seen); count = f.w_put; room = f.w_room };
        read = λ odd. absurd (omega arith);
      },
      record {
        count = f.r_took;
        room = omega (arith, f.r_there, f.r_seen, apart);
        write = λ even. absurd (omega arith);
        read = λ odd. record { count = f.r_took; there = f.r_there; room = omega (arith, f.r_seen, apart) };
      },
    )

-- An end by its number: it is the write end of its pipe or the read end.
pub by_side : (P : ℕ → Type 0) (k p : ℕ) → k / PIPE_ENDS ≡ p → P (write_end p) → P (read_end p) → P k
by_side P k p of w r = dite (ℕ_discrete (k % PIPE_ENDS) 0)
    (λ (e : k % PIPE_ENDS ≡ 0). subst P (omega arith) w)
    (λ (ne : k % PIPE_ENDS ≢ 0). subst P (omega (arith, ne)) r)

module _ (items : ℕ → List Item) (a : ℕ) (one two : Location → ℕ) (p : ℕ) (few : p < PIPES) (l : IsPipe one items p)
  where
    abbrev Claims : ℕ → ℕ → Type 0
    Claims found k = found ≡ one (place.Claim k) → two (place.Claim k) ≡ 1
        → ((j : Location) → j ≢ place.Claim k → two j ≡ one j)
        → IsPipe two (now items a (item.Piped k act.Claim found)) p

    pub claims : (k found : ℕ) → a < TASKS → k / PIPE_ENDS ≡ p → Claims found k
    claims k found task of = by_side (Claims found) k p of
        (λ is there rest. claims_write items a one two p found task few is there rest l)
        (λ is there rest. claims_read items a one two p found task few is there rest l)

    abbrev Publishes : ℕ → ℕ → ℕ → ℕ → Bool → ℕ → Type 0
    Publishes o n r m b k = (end_of k (items a)).mine ≡ true → n ≡ end_word m b → (end_of k (items a)).count ≤ m
        → m ≤ length (end_of k (items a)).cells
        → ((end_of k (items a)).shut ≡ true → (b ≡ true) × (m ≡ (end_of k (items a)).count))
        → two (place.Var k) ≡ n → ((j : Location) → j ≢ place.Var k → two j ≡ one j)
        → IsPipe two (now items a (item.Made (step.Publish (watch.Var k o) n r))) p

    pub publishes : (k o n r m : ℕ) (b : Bool) → k / PIPE_ENDS ≡ p → Publishes o n r m b k
    publishes k o n r m b of = by_side (Publishes o n r m b) k p of
        (λ mine is low high after there rest. publishes_w items a one two p few l o n r m b mine is low high after there
        rest)
        (λ mine is low high after there rest. publishes_r items a one two p few l o n r m b mine is low high after there
        rest)

    -- what the task's own word is, and its counts
    abbrev Knows : ℕ → Type 0
    Knows k = (end_of k (items a)).mine ≡ true
        → (one (place.Var k) ≡ end_word (end_of k (items a)).count (end_of k (items a)).shut)
        × IsSoundEnd k (end_of k (items a))

    pub knows_end : (k : ℕ) → k / PIPE_ENDS ≡ p → Knows k
    knows_end k of = by_side Knows k p of
        (λ mine. let own = own_w items a one two p few l mine in (
          l.flow.end_w ∙ ap (λ (e : End). end_word e.count e.shut) own,
          subst (IsSoundEnd (write_end p)) own (sound_ends one items p l).0,
        ))
        (λ mine. let own = own_r items a one two p few l mine in (
          l.flow.end_r ∙ ap (λ (e : End). end_word e.count e.shut) own,
          subst (IsSoundEnd (read_end p)) own (sound_ends one items p l).1,
        ))
