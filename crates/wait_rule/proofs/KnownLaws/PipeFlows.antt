-- What each kind of step on a pipe does to its words, its cells and its two ends.
use Rattle.std.proofs.Common.{◌≡◌, ℕ, ◌+◌, ◌-◌, ◌%◌, ◌<◌, ◌≤◌, ◌≢◌, Bool, true, false, List, [], ◌∷◌, ◌++◌, length}
use Rattle.std.proofs.Common.{get_or, refl, sym, ap, ◌∙◌, subst, arith, append-nil, append_assoc, true≢false, take}
use Rattle.std.proofs.Common.{drop, length-append, take-add}
use Rattle.std.specs.Prelude.{◌==◌, ◌||◌, if◌then◌else◌}
use Rattle.std.proofs.Math.Seq.{get_or-append_seam}
use Rattle.std.proofs.Math.ListN.{get_or-append}
use Rattle.std.proofs.lemmas.List.{take-append-le}
use Rattle.std.proofs.lemmas.Grind.{flat_map-append}
use mathlib.Core.Logic.{dite}
use native.Mathlib.Decide.{ℕ_discrete}
use Rattle.wait_model.specs.declared.layout.TheConstants.{PIPES, PIPE_CELLS}
use Rattle.wait_model.specs.Locations as place
use Rattle.wait_model.specs.Locations.{Location}
use Rattle.wait_rule.specs.Pipes.{write_end, read_end, cell_of, end_word, count_on, bytes_in, cell_bytes, IsCell, End}
use Rattle.wait_rule.specs.Pipes.{no_end, new_end, with_cell, after_end_look, advanced, after_end_publish, moved_bytes}
use Rattle.wait_rule.specs.Pipes.{IsFlow, Delivers}
use Rattle.wait_rule.proofs.KnownLaws.PipeWords.{claim_cell, claim_var, var_cell, var_claim, cell_claim, cell_var}
use Rattle.wait_rule.proofs.KnownLaws.PipeWords.{cells_apart, claims_apart, vars_apart, count_is, odd_is, SameWords}
use Rattle.wait_rule.proofs.KnownLaws.PipeWords.{cell_in, write_in, read_in}

pub flow_words : (one two : Location → ℕ) (p : ℕ) (w r : End) → SameWords p one two → IsFlow one p w r
    → IsFlow two p w r
flow_words one two p w r same f = record {
  claim_w = same.claims (write_end p) (write_in p) ∙ f.claim_w;
  claim_r = same.claims (read_end p) (read_in p) ∙ f.claim_r;
  idle_w = f.idle_w;
  idle_r = f.idle_r;
  end_w = same.ends (write_end p) (write_in p) ∙ f.end_w;
  end_r = same.ends (read_end p) (read_in p) ∙ f.end_r;
  w_put = f.w_put;
  w_room = f.w_room;
  w_seen = f.w_seen;
  r_took = f.r_took;
  r_there = f.r_there;
  r_seen = f.r_seen;
  stands = λ n low high. same.cells (cell_of p n) (cell_in p n) ∙ f.stands n low high;
  whole = f.whole;
  rest = f.rest;
  order = f.order;
  w_before = f.w_before;
  r_before = f.r_before;
  w_ended = f.w_ended;
  r_ended = f.r_ended;
  one = f.one;
}

-- how far apart the counts of a pipe are
pub record Counts (w r : End) : Type 0 where
  pub apart : w.count ≤ r.count + PIPE_CELLS
  pub far : r.count ≤ w.seen + PIPE_CELLS
  pub near : w.count ≤ r.seen + PIPE_CELLS

-- the word that the other end loads
module _ (one : Location → ℕ) (p : ℕ) (w r : End) (f : IsFlow one p w r) where
  pub counts : Counts w r
  counts = record {
    apart = omega (arith, f.w_put, f.w_room, f.w_seen);
    far = omega (arith, f.r_took, f.r_there, f.r_seen, f.w_put, f.w_room);
    near = omega (arith, f.w_put, f.w_room, f.w_seen, f.r_took, f.r_there);
  }

  W : ℕ
  W = one (place.Var (write_end p))

  R : ℕ
  R = one (place.Var (read_end p))

  pub reads_r : count_on w.seen (one (place.Var (read_end p))) ≡ r.count
  reads_r = ap (count_on w.seen) f.end_r ∙ count_is w.seen r.count r.shut f.w_seen counts.far

  pub reads_w : count_on r.seen (one (place.Var (write_end p))) ≡ w.count
  reads_w = ap (count_on r.seen) f.end_w ∙ count_is r.seen w.count w.shut f.r_seen counts.near

  pub shut_r : (one (place.Var (read_end p)) % 2 == 1) ≡ r.shut
  shut_r = ap (λ (n : ℕ). n % 2 == 1) f.end_r ∙ odd_is r.count r.shut

  pub shut_w : (one (place.Var (write_end p)) % 2 == 1) ≡ w.shut
  shut_w = ap (λ (n : ℕ). n % 2 == 1) f.end_w ∙ odd_is w.count w.shut

  -- a look at the other end's word, by one that is not closed: had the other one seen it closed, it would be
  pub look_w_flow : w.mine ≡ true → w.shut ≡ false → IsFlow one p (after_end_look (one (place.Var (read_end p))) w) r
  look_w_flow mine unshut = record {
    claim_w = f.claim_w;
    claim_r = f.claim_r;
    idle_w = λ none. absurd (true≢false (sym mine ∙ none));
    idle_r = f.idle_r;
    end_w = f.end_w;
    end_r = f.end_r;
    w_put = f.w_put;
    w_room = let g = f.w_room in let h = f.w_seen in let i = reads_r in omega arith;
    w_seen = let i = reads_r in omega arith;
    r_took = f.r_took;
    r_there = f.r_there;
    r_seen = f.r_seen;
    stands = f.stands;
    whole = f.whole;
    rest = f.rest;
    order = f.order;
    w_before = f.w_before;
    r_before = f.r_before;
    w_ended = λ e. sym shut_r ∙ e;
    r_ended = f.r_ended;
    one = λ e g. true≢false (sym (f.r_ended g).0 ∙ unshut);
  }

  pub look_r_flow : r.mine ≡ true → r.shut ≡ false → IsFlow one p w (after_end_look (one (place.Var (write_end p))) r)
  look_r_flow mine unshut = record {
    claim_w = f.claim_w;
    claim_r = f.claim_r;
    idle_w = f.idle_w;
    idle_r = λ none. absurd (true≢false (sym mine ∙ none));
    end_w = f.end_w;
    end_r = f.end_r;
    w_put = f.w_put;
    w_room = f.w_room;
    w_seen = f.w_seen;
    r_took = f.r_took;
    r_there = let a = f.r_there in let b = f.r_seen in let i = reads_w in omega arith;
    r_seen = let i = reads_w in omega arith;
    stands = f.stands;
    whole = f.whole;
    rest = f.rest;
    order = f.order;
    w_before = f.w_before;
    r_before = f.r_before;
    w_ended = f.w_ended;
    r_ended = λ e. (sym shut_w ∙ e, reads_w);
    one = λ e g. true≢false (sym (f.w_ended e) ∙ unshut);
  }

  -- the next cell of the reader
  pub get_is : length r.cells < r.seen
      → one (place.Cell (cell_of p (length r.cells))) ≡ get_or w.cells (length r.cells) 0
  get_is there = let a = f.r_seen in let b = f.w_put in
      f.stands (length r.cells) f.r_took (omega arith)

  pub get_whole : length r.cells < r.seen → IsCell (one (place.Cell (cell_of p (length r.cells))))
  get_whole there = let a = f.r_seen in let b = f.w_put in
      subst IsCell (sym (get_is there)) (f.whole (length r.cells) (omega arith))

  pub get_flow : r.mine ≡ true → length r.cells < r.seen
      → IsFlow one p w (with_cell (one (place.Cell (cell_of p (length r.cells)))) r)
  get_flow mine there = by_rest f.rest f.order
    where
      n : ℕ
      n = one (place.Cell (cell_of p (length r.cells)))

      by_rest : (l : List ℕ) → w.cells ≡ r.cells ++ l → IsFlow one p w (with_cell n r)
      by_rest [] is =
          let k : length w.cells ≡ length r.cells = ap length (is ∙ append-nil r.cells) in
          let g = f.r_seen in
          let h = f.w_put in
          absurd (omega arith)
      by_rest (x ∷ l) is = record {
        claim_w = f.claim_w;
        claim_r = f.claim_r;
        idle_w = f.idle_w;
        idle_r = λ none. absurd (true≢false (sym mine ∙ none));
        end_w = f.end_w;
        end_r = f.end_r;
        w_put = f.w_put;
        w_room = f.w_room;
        w_seen = f.w_seen;
        r_took = let g = f.r_took in let k = length-append r.cells (n ∷ []) in omega arith;
        r_there = let k = length-append r.cells (n ∷ []) in omega arith;
        r_seen = f.r_seen;
        stands = f.stands;
        whole = f.whole;
        rest = l;
        order = is ∙ (ap (λ y. r.cells ++ y ∷ l) (sym head_is) ∙ sym (append_assoc r.cells (n ∷ []) l));
        w_before = f.w_before;
        r_before = f.r_before;
        w_ended = f.w_ended;
        r_ended = f.r_ended;
        one = f.one;
      }
        where
          head_is : n ≡ x
          head_is = get_is there ∙ (ap (λ c. get_or c (length r.cells) 0) is ∙ get_or-append_seam r.cells x l 0)

  -- what was sent and what was got, as bytes
  pub delivers : Delivers w r
  delivers = record {
    behind = let x = f.r_took in let y = f.r_there in let z = f.r_seen in omega arith;
    room = counts.apart;
    flows = flows;
    before = f.w_before;
    all = λ ended took. flows ∙ (ap (λ n. moved_bytes r ++ bytes_in (take n (drop r.count w.cells)))
        (let e = (f.r_ended ended).1 in let z : w.count - r.count ≡ 0 = omega arith in z)
        ∙ append-nil (moved_bytes r));
    one = f.one;
  }
    where
      sum_is : w.count ≡ r.count + (w.count - r.count)
      sum_is = let a = f.r_took in let b = f.r_there in let c = f.r_seen in omega arith

      same_front : take r.count w.cells ≡ take r.count r.cells
      same_front = ap (take r.count) f.order ∙ take-append-le r.count r.cells f.rest f.r_took

      flows : moved_bytes w ≡ moved_bytes r ++ bytes_in (take (w.count - r.count) (drop r.count w.cells))
      flows = ap (λ n. bytes_in (take n w.cells)) sum_is
          ∙ (ap bytes_in (take-add r.count (w.count - r.count) w.cells)
          ∙ (flat_map-append cell_bytes (take r.count w.cells) (take (w.count - r.count) (drop r.count w.cells))
          ∙ ap (λ l. bytes_in l ++ bytes_in (take (w.count - r.count) (drop r.count w.cells))) same_front))

-- what a publish of a word tells its end
pub advanced_same : (e : End) → e.before ≡ e.count → advanced e.count e.shut e ≡ e
advanced_same e before = λ i. record e { before = by e.shut i }
  where
    by : (s : Bool) → (if s then e.before else e.count) ≡ e.before
    by true = refl
    by false = sym before

either_is : (s b : Bool) → (s ≡ true → b ≡ true) → (s || b) ≡ b
either_is true b still = sym (still refl)
either_is false b still = refl

pub publish_is : (e : End) (m : ℕ) (b : Bool) (n : ℕ) → n ≡ end_word m b → e.count ≤ m → m ≤ e.count + PIPE_CELLS
    → (e.shut ≡ true → b ≡ true) → after_end_publish n e ≡ advanced m b e
publish_is e m b n is low high still =
    let c : count_on e.count n ≡ m = ap (count_on e.count) is ∙ count_is e.count m b low high in
    let o : (n % 2 == 1) ≡ b = ap (λ (k : ℕ). k % 2 == 1) is ∙ odd_is m b in
    let s : (e.shut || (n % 2 == 1)) ≡ b = ap (λ (d : Bool). e.shut || d) o ∙ either_is e.shut b still in
    λ i. advanced (c i) (s i) e

pub publish_same : (e : End) (n : ℕ) → e.before ≡ e.count → n ≡ end_word e.count e.shut → after_end_publish n e ≡ e
publish_same e n before is = publish_is e e.count e.shut n is (omega arith) (omega arith) (λ shut. shut)
    ∙ advanced_same e before

before_is : (e : End) (m : ℕ) (b : Bool) → e.before ≡ e.count → (e.shut ≡ true → (b ≡ true) × (m ≡ e.count))
    → (if e.shut then e.before else m) ≡ m
before_is e m b before after = by e.shut refl
  where
    by : (s : Bool) → e.shut ≡ s → (if s then e.before else m) ≡ m
    by true is = before ∙ sym (after is).1
    by false is = refl

-- steps that change one word
module _ (one two : Location → ℕ) (p : ℕ) (w r : End) (small : p < PIPES) (f : IsFlow one p w r) where
  pub put_flow : (n : ℕ) → w.mine ≡ true → IsCell n → length w.cells < w.seen + PIPE_CELLS
      → two (place.Cell (cell_of p (length w.cells))) ≡ n
      → ((j : Location) → j ≢ place.Cell (cell_of p (length w.cells)) → two j ≡ one j)
      → IsFlow two p (with_cell n w) r
  put_flow n mine cell room there other = record {
    claim_w = other (place.Claim (write_end p)) (claim_cell (write_end p) _) ∙ f.claim_w;
    claim_r = other (place.Claim (read_end p)) (claim_cell (read_end p) _) ∙ f.claim_r;
    idle_w = λ none. absurd (true≢false (sym mine ∙ none));
    idle_r = f.idle_r;
    end_w = other (place.Var (write_end p)) (var_cell (write_end p) _) ∙ f.end_w;
    end_r = other (place.Var (read_end p)) (var_cell (read_end p) _) ∙ f.end_r;
    w_put = let g = f.w_put in let k = longer in omega arith;
    w_room = let k = longer in omega arith;
    w_seen = f.w_seen;
    r_took = f.r_took;
    r_there = f.r_there;
    r_seen = f.r_seen;
    stands = λ k low high. dite (ℕ_discrete k (length w.cells))
        (λ (e : k ≡ length w.cells). ap (λ j. two (place.Cell (cell_of p j))) e
        ∙ (there ∙ (sym (get_or-append_seam w.cells n [] 0) ∙ ap (λ j. get_or (w.cells ++ n ∷ []) j 0) (sym e))))
        (λ (ne : k ≢ length w.cells).
        let long = longer in
        let below : k < length w.cells = omega (arith, ne) in
        let near = f.w_seen in
        other (place.Cell (cell_of p k)) (cells_apart (cell_of p k) (cell_of p (length w.cells))
        (λ (e : cell_of p k ≡ cell_of p (length w.cells)). absurd (omega arith)))
        ∙ (f.stands k low below ∙ sym (get_or-append w.cells (n ∷ []) 0 k below)));
    whole = λ k high. dite (ℕ_discrete k (length w.cells))
        (λ (e : k ≡ length w.cells). subst IsCell (sym (get_or-append_seam w.cells n [] 0)
        ∙ ap (λ j. get_or (w.cells ++ n ∷ []) j 0) (sym e)) cell)
        (λ (ne : k ≢ length w.cells).
        let long = longer in
        let below : k < length w.cells = omega (arith, ne) in
        subst IsCell (sym (get_or-append w.cells (n ∷ []) 0 k below)) (f.whole k below));
    rest = f.rest ++ n ∷ [];
    order = ap (λ l. l ++ n ∷ []) f.order ∙ append_assoc r.cells f.rest (n ∷ []);
    w_before = f.w_before;
    r_before = f.r_before;
    w_ended = f.w_ended;
    r_ended = f.r_ended;
    one = f.one;
  }
    where
      longer : length (w.cells ++ n ∷ []) ≡ length w.cells + 1
      longer = length-append w.cells (n ∷ [])

  pub publish_w_flow : (m : ℕ) (b : Bool) → w.mine ≡ true → w.count ≤ m → m ≤ length w.cells
      → (w.shut ≡ true → (b ≡ true) × (m ≡ w.count)) → two (place.Var (write_end p)) ≡ end_word m b
      → ((j : Location) → j ≢ place.Var (write_end p) → two j ≡ one j)
      → IsFlow two p (advanced m b w) r
  publish_w_flow m b mine low high after there other = record {
    claim_w = other (place.Claim (write_end p)) (claim_var (write_end p) _) ∙ f.claim_w;
    claim_r = other (place.Claim (read_end p)) (claim_var (read_end p) _) ∙ f.claim_r;
    idle_w = λ none. absurd (true≢false (sym mine ∙ none));
    idle_r = f.idle_r;
    end_w = there;
    end_r = other (place.Var (read_end p)) (vars_apart (read_end p) _ (λ e. absurd (omega arith))) ∙ f.end_r;
    w_put = high;
    w_room = f.w_room;
    w_seen = f.w_seen;
    r_took = f.r_took;
    r_there = f.r_there;
    r_seen = let g = f.r_seen in omega arith;
    stands = λ n low high. other (place.Cell (cell_of p n)) (cell_var (cell_of p n) _) ∙ f.stands n low high;
    whole = f.whole;
    rest = f.rest;
    order = f.order;
    w_before = before_is w m b f.w_before after;
    r_before = f.r_before;
    w_ended = f.w_ended;
    r_ended = λ e. let now = f.r_ended e in ((after now.0).0, now.1 ∙ sym (after now.0).1);
    one = f.one;
  }

  pub publish_r_flow : (m : ℕ) (b : Bool) → r.mine ≡ true → r.count ≤ m → m ≤ length r.cells
      → (r.shut ≡ true → (b ≡ true) × (m ≡ r.count)) → two (place.Var (read_end p)) ≡ end_word m b
      → ((j : Location) → j ≢ place.Var (read_end p) → two j ≡ one j)
      → IsFlow two p w (advanced m b r)
  publish_r_flow m b mine low high after there other = record {
    claim_w = other (place.Claim (write_end p)) (claim_var (write_end p) _) ∙ f.claim_w;
    claim_r = other (place.Claim (read_end p)) (claim_var (read_end p) _) ∙ f.claim_r;
    idle_w = f.idle_w;
    idle_r = λ none. absurd (true≢false (sym mine ∙ none));
    end_w = other (place.Var (write_end p)) (vars_apart (write_end p) _ (λ e. absurd (omega arith))) ∙ f.end_w;
    end_r = there;
    w_put = f.w_put;
    w_room = f.w_room;
    w_seen = let g = f.w_seen in omega arith;
    r_took = high;
    r_there = f.r_there;
    r_seen = f.r_seen;
    stands = λ n above high. other (place.Cell (cell_of p n)) (cell_var (cell_of p n) _)
        ∙ f.stands n (omega arith) high;
    whole = f.whole;
    rest = f.rest;
    order = f.order;
    w_before = f.w_before;
    r_before = before_is r m b f.r_before after;
    w_ended = λ e. (after (f.w_ended e)).0;
    r_ended = f.r_ended;
    one = f.one;
  }

-- a claim of an end that nobody has
module _ (one two : Location → ℕ) (p : ℕ) (w r : End) (small : p < PIPES) where
  pub open_w_flow : IsFlow one p no_end r → two (place.Claim (write_end p)) ≡ 1
      → ((j : Location) → j ≢ place.Claim (write_end p) → two j ≡ one j)
      → IsFlow two p new_end r
  open_w_flow f there other = record {
    claim_w = there;
    claim_r = other (place.Claim (read_end p)) (claims_apart (read_end p) _ (λ e. absurd (omega arith))) ∙ f.claim_r;
    idle_w = λ never. absurd (true≢false never);
    idle_r = f.idle_r;
    end_w = other (place.Var (write_end p)) (var_claim (write_end p) _) ∙ f.end_w;
    end_r = other (place.Var (read_end p)) (var_claim (read_end p) _) ∙ f.end_r;
    w_put = f.w_put;
    w_room = f.w_room;
    w_seen = f.w_seen;
    r_took = f.r_took;
    r_there = f.r_there;
    r_seen = f.r_seen;
    stands = λ n low high. absurd (omega arith);
    whole = f.whole;
    rest = f.rest;
    order = f.order;
    w_before = f.w_before;
    r_before = f.r_before;
    w_ended = f.w_ended;
    r_ended = f.r_ended;
    one = f.one;
  }

  pub open_r_flow : IsFlow one p w no_end → two (place.Claim (read_end p)) ≡ 1
      → ((j : Location) → j ≢ place.Claim (read_end p) → two j ≡ one j)
      → IsFlow two p w new_end
  open_r_flow f there other = record {
    claim_w = other (place.Claim (write_end p)) (claims_apart (write_end p) _ (λ e. absurd (omega arith))) ∙ f.claim_w;
    claim_r = there;
    idle_w = f.idle_w;
    idle_r = λ never. absurd (true≢false never);
    end_w = other (place.Var (write_end p)) (var_claim (write_end p) _) ∙ f.end_w;
    end_r = other (place.Var (read_end p)) (var_claim (read_end p) _) ∙ f.end_r;
    w_put = f.w_put;
    w_room = f.w_room;
    w_seen = f.w_seen;
    r_took = f.r_took;
    r_there = f.r_there;
    r_seen = f.r_seen;
    stands = λ n low high. other (place.Cell (cell_of p n)) (cell_claim (cell_of p n) _) ∙ f.stands n low high;
    whole = f.whole;
    rest = f.rest;
    order = f.order;
    w_before = f.w_before;
    r_before = f.r_before;
    w_ended = f.w_ended;
    r_ended = f.r_ended;
    one = f.one;
  }
