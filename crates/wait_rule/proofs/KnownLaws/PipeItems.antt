-- The ends of a pipe, in a list that gets one item more.
use Rattle.std.proofs.Common.{◌≡◌, ℕ, ◌+◌, ◌-◌, ◌%◌, ◌≢◌, Bool, true, false, List, [], ◌∷◌, ◌++◌, refl, sym, ap, ◌∙◌}
use Rattle.std.proofs.Common.{arith, true≢false, inl, inr}
use Rattle.std.specs.Prelude.{◌==◌, ◌&&◌, ◌||◌, ◌⊎◌, not, if◌then◌else◌}
use mathlib.Core.Logic.{dite}
use native.Mathlib.Decide.{ℕ_discrete}
use Rattle.wait_model.specs.{declared.layout.TheConstants.PIPE_ENDS, declared.steps.Step.Step, Functions.put}
use Rattle.wait_model.specs.Locations.{Location}
use Rattle.wait_model.specs.declared.watches.Watch.TheVariants as watch
use Rattle.wait_model.specs.declared.steps.Step.TheVariants as step
use Rattle.wait_model.proofs.Functions.{put_same, put_other}
use Rattle.wait_rule.specs.{declared.journal.EndAct.EndAct, declared.journal.Item.Item}
use Rattle.wait_rule.specs.Pipes.{write_end, read_end, other_end, End, no_end, new_end, after_end_look}
use Rattle.wait_rule.specs.Pipes.{after_end_publish, end_act, end_item, end_step, end_from, end_of, refused_item}
use Rattle.wait_rule.specs.Pipes.{was_refused, IsFlow, IsPipe}
use Rattle.wait_rule.specs.declared.journal.EndAct.TheVariants as act
use Rattle.wait_rule.specs.declared.journal.Item.TheVariants as item
use Rattle.wait_rule.proofs.KnownLaws.PipeFlows.{flow_words}
use Rattle.wait_rule.proofs.KnownLaws.PipeWords.{SameWords, test_on, test_off}

pub other_w : (p : ℕ) → other_end (write_end p) ≡ read_end p
other_w p = ap (λ (b : Bool). if b then write_end p + 1 else write_end p - 1)
    (test_on (write_end p % PIPE_ENDS) 0 (omega arith))

pub other_r : (p : ℕ) → other_end (read_end p) ≡ write_end p
other_r p = ap (λ (b : Bool). if b then read_end p + 1 else read_end p - 1)
    (test_off (read_end p % PIPE_ENDS) 0 (λ e. absurd (omega arith))) ∙ omega arith

-- one end of the two is not the other
pub ends_apart : (p : ℕ) → write_end p ≢ read_end p
ends_apart p e = absurd (omega arith)

pub end_append : (k : ℕ) (e : End) (xs ys : List Item) → end_from k e (xs ++ ys) ≡ end_from k (end_from k e xs) ys
end_append k e [] ys = refl
end_append k e (x ∷ xs) ys = end_append k (end_item k x e) xs ys

-- an end that the task has it has after each item
act_mine : (d : EndAct) (w : ℕ) (e : End) → e.mine ≡ true → (end_act d w e).mine ≡ true
act_mine act.Claim w e mine = by (w == 0)
  where
    by : (b : Bool) → (if b then new_end else e).mine ≡ true
    by true = refl
    by false = mine
act_mine act.Cell w e mine = mine

either_mine : (b : Bool) (e f : End) → e.mine ≡ true → f.mine ≡ true → (if b then e else f).mine ≡ true
either_mine true e f one two = one
either_mine false e f one two = two

step_mine : (k : ℕ) (s : Step) (e : End) → e.mine ≡ true → (end_step k s e).mine ≡ true
step_mine k (step.Load (watch.Var v o) r) e mine = either_mine (v == other_end k) _ e
    (either_mine (e.mine && not e.shut) (after_end_look r e) e mine mine) mine
step_mine k (step.Publish (watch.Var v o) n r) e mine = either_mine (v == k) _ e
    (either_mine e.mine (after_end_publish n e) e mine mine) mine
step_mine k s e mine = mine

pub item_mine : (k : ℕ) (x : Item) (e : End) → e.mine ≡ true → (end_item k x e).mine ≡ true
item_mine k (item.Made s) e mine = step_mine k s e mine
item_mine k (item.Piped j d w) e mine = either_mine (j == k) (end_act d w e) e (act_mine d w e mine) mine
item_mine k x e mine = mine

-- claims that were refused, in a longer list
pub refused_append : (k : ℕ) (xs ys : List Item) → was_refused k (xs ++ ys) ≡ true
    → (was_refused k xs ≡ true) ⊎ (was_refused k ys ≡ true)
refused_append k [] ys is = inr is
refused_append k (x ∷ xs) ys is = by (refused_item k x) (refused_append k xs ys) is
  where
    by : (b : Bool)
        → (was_refused k (xs ++ ys) ≡ true → (was_refused k xs ≡ true) ⊎ (was_refused k ys ≡ true))
        → (b || was_refused k (xs ++ ys)) ≡ true → ((b || was_refused k xs) ≡ true) ⊎ (was_refused k ys ≡ true)
    by true more is = inl refl
    by false more is = more is

pub never : {P : Type 0} → false ≡ true → P
never is = absurd (true≢false (sym is))

-- one item more in the list of task a
module _ (items : ℕ → List Item) (a : ℕ) (x : Item) where
  abbrev pub now : ℕ → List Item
  now = put items a (items a ++ x ∷ [])

  module _ (k : ℕ) where
    abbrev E : End
    E = end_of k (items a)

    here : end_of k (now a) ≡ end_item k x E
    here = ap (end_of k) (put_same items a (items a ++ x ∷ [])) ∙ end_append k no_end (items a) (x ∷ [])

    there : (t : ℕ) → t ≢ a → end_of k (now t) ≡ end_of k (items t)
    there t ne = ap (end_of k) (put_other items a (items a ++ x ∷ []) t ne)

    -- of an end that the item tells nothing of
    pub others : end_item k x E ≡ E → (t : ℕ) → end_of k (now t) ≡ end_of k (items t)
    others same t = dite (ℕ_discrete t a)
        (λ (e : t ≡ a). ap (λ (i : ℕ). end_of k (now i)) e
        ∙ (here ∙ (same ∙ ap (λ (i : ℕ). end_of k (items i)) (sym e))))
        (there t)

    -- the end's owner
    pub owner : (own : ℕ) (e : End) → ((t : ℕ) → end_of k (items t) ≡ put (λ _. no_end) own e t) → E.mine ≡ true
        → (a ≡ own) × (E ≡ e)
    owner own e each mine = dite (ℕ_discrete a own)
        (λ (same : a ≡ own). (
          same,
          each a ∙ (ap (put (λ _. no_end) own e) same ∙ put_same (λ _. no_end) own e),
        ))
        (λ (ne : a ≢ own). absurd (true≢false (sym mine ∙ ap (λ (i : End). i.mine) (each a
        ∙ put_other (λ _. no_end) own e a ne))))

    moves : (own : ℕ) (e : End) → ((t : ℕ) → end_of k (items t) ≡ put (λ _. no_end) own e t) → E.mine ≡ true
        → (t : ℕ) → end_of k (now t) ≡ put (λ _. no_end) own (end_item k x e) t
    moves own e each mine t =
        let o = owner own e each mine in
        dite (ℕ_discrete t a)
        (λ (same : t ≡ a). ap (λ (i : ℕ). end_of k (now i)) same
        ∙ (here ∙ (ap (end_item k x) o.1 ∙ sym (ap (put (λ _. no_end) own (end_item k x e)) (same ∙ o.0)
        ∙ put_same (λ _. no_end) own (end_item k x e)))))
        (λ (ne : t ≢ a). there t ne ∙ (each t ∙ (put_other (λ _. no_end) own e t (λ i. ne (i ∙ sym o.0))
        ∙ sym (put_other (λ _. no_end) own (end_item k x e) t (λ i. ne (i ∙ sym o.0))))))

    -- what a claim that was refused shows
    pub refuses : (P : Type 0) → ((t : ℕ) → was_refused k (items t) ≡ true → P) → (refused_item k x ≡ true → P)
        → (t : ℕ) → was_refused k (now t) ≡ true → P
    refuses P before at t is = dite (ℕ_discrete t a)
        (λ (e : t ≡ a). by (refused_append k (items a) (x ∷ [])
        (sym (ap (was_refused k) (ap now e ∙ put_same items a (items a ++ x ∷ []))) ∙ is)))
        (λ (ne : t ≢ a). before t
        (sym (ap (was_refused k) (put_other items a (items a ++ x ∷ []) t ne)) ∙ is))
      where
        alone : (b : Bool) → (b || false) ≡ true → b ≡ true
        alone true q = q
        alone false q = q

        by : (was_refused k (items a) ≡ true) ⊎ (was_refused k (x ∷ []) ≡ true) → P
        by (inl q) = before a q
        by (inr q) = at (alone (refused_item k x) q)

    -- nobody had the end, and the item gives it to the task
    pub begins : ((t : ℕ) → end_of k (items t) ≡ no_end) → (t : ℕ)
        → end_of k (now t) ≡ put (λ _. no_end) a (end_item k x no_end) t
    begins none t = dite (ℕ_discrete t a)
        (λ (same : t ≡ a). ap (λ (i : ℕ). end_of k (now i)) same
        ∙ (here ∙ (ap (end_item k x) (none a) ∙ sym (ap (put (λ _. no_end) a (end_item k x no_end)) same
        ∙ put_same (λ _. no_end) a (end_item k x no_end)))))
        (λ (ne : t ≢ a). there t ne ∙ (none t ∙ sym (put_other (λ _. no_end) a (end_item k x no_end) t ne)))

  module _ (one two : Location → ℕ) (p : ℕ) (l : IsPipe one items p) where
    abbrev EW : End
    EW = end_of (write_end p) (items a)

    abbrev ER : End
    ER = end_of (read_end p) (items a)

    -- an item that tells nothing of the pipe, but may be a claim that was refused
    pub pipe_stays : SameWords p one two → end_item (write_end p) x EW ≡ EW → end_item (read_end p) x ER ≡ ER
        → (refused_item (write_end p) x ≡ true → l.w.mine ≡ true)
        → (refused_item (read_end p) x ≡ true → l.r.mine ≡ true) → IsPipe two now p
    pipe_stays same dumb_w dumb_r bad_w bad_r = record {
      writer = l.writer;
      reader = l.reader;
      w = l.w;
      r = l.r;
      writes = λ t. others (write_end p) dumb_w t ∙ l.writes t;
      reads = λ t. others (read_end p) dumb_r t ∙ l.reads t;
      writer_task = l.writer_task;
      reader_task = l.reader_task;
      refused_w = refuses (write_end p) (l.w.mine ≡ true) l.refused_w bad_w;
      refused_r = refuses (read_end p) (l.r.mine ≡ true) l.refused_r bad_r;
      flow = flow_words one two p l.w l.r same l.flow;
    }

    -- one of the task that has the write end, and of the one that has the read end
    pub writer_moves : EW.mine ≡ true → end_item (read_end p) x ER ≡ ER
        → (refused_item (read_end p) x ≡ true → l.r.mine ≡ true)
        → (l.w ≡ EW → IsFlow two p (end_item (write_end p) x l.w) l.r) → IsPipe two now p
    writer_moves mine dumb bad goes = record {
      writer = l.writer;
      reader = l.reader;
      w = end_item (write_end p) x l.w;
      r = l.r;
      writes = moves (write_end p) l.writer l.w l.writes mine;
      reads = λ t. others (read_end p) dumb t ∙ l.reads t;
      writer_task = l.writer_task;
      reader_task = l.reader_task;
      refused_w = λ t _. item_mine (write_end p) x l.w
          (sym (ap (λ (e : End). e.mine) (owner (write_end p) l.writer l.w l.writes mine).1) ∙ mine);
      refused_r = refuses (read_end p) (l.r.mine ≡ true) l.refused_r bad;
      flow = goes (sym (owner (write_end p) l.writer l.w l.writes mine).1);
    }

    pub reader_moves : ER.mine ≡ true → end_item (write_end p) x EW ≡ EW
        → (refused_item (write_end p) x ≡ true → l.w.mine ≡ true)
        → (l.r ≡ ER → IsFlow two p l.w (end_item (read_end p) x l.r)) → IsPipe two now p
    reader_moves mine dumb bad goes = record {
      writer = l.writer;
      reader = l.reader;
      w = l.w;
      r = end_item (read_end p) x l.r;
      writes = λ t. others (write_end p) dumb t ∙ l.writes t;
      reads = moves (read_end p) l.reader l.r l.reads mine;
      writer_task = l.writer_task;
      reader_task = l.reader_task;
      refused_w = refuses (write_end p) (l.w.mine ≡ true) l.refused_w bad;
      refused_r = λ t _. item_mine (read_end p) x l.r
          (sym (ap (λ (e : End). e.mine) (owner (read_end p) l.reader l.r l.reads mine).1) ∙ mine);
      flow = goes (sym (owner (read_end p) l.reader l.r l.reads mine).1);
    }
