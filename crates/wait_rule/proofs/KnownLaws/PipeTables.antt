-- What steps of the model, and items about other words, do to pipes.
use Rattle.std.proofs.lemmas.Bool.{both_ways}
use Rattle.std.proofs.Common.{refl, sym, ◌∙◌, ap, arith, inl, inr, true≢false}
use Rattle.std.specs.Prelude.{ℕ, ◌≡◌, ◌≢◌, ◌/◌, ◌<◌, ◌⊎◌, Bool, true, false, List, [], ◌∷◌, ◌++◌}
use Rattle.wait_model.specs.{declared.steps.Step.Step, Functions.put, Tables.Table, Tables.next, Rows.Allowed}
use Rattle.wait_model.specs.Locations.{Location}
use Rattle.wait_model.specs.declared.layout.TheConstants.{PIPES, PIPE_ENDS, CLAIMS}
use Rattle.wait_model.specs.declared.watches.Watch.TheVariants as watch
use Rattle.wait_model.specs.declared.steps.Step.TheVariants as step
use Rattle.wait_model.specs.Locations as place
use Rattle.wait_model.proofs.Functions.{put_at, put_same}
use Rattle.wait_rule.specs.{declared.journal.Item.Item, MemberWords.word_with}
use Rattle.wait_rule.specs.Pipes.{write_end, read_end, End, no_end, end_from, end_of, was_refused, IsPipe, ArePipes}
use Rattle.wait_rule.specs.declared.journal.Item.TheVariants as item
use Rattle.wait_rule.proofs.KnownLaws.PipeFlows.{flow_words}
use Rattle.wait_rule.proofs.KnownLaws.PipeSteps.{ReadsEnd, step_pipe}
use Rattle.wait_rule.proofs.KnownLaws.PipeItems.{end_append, refused_append}

-- items that tell nothing of ends, and are no claims that were refused
abbrev pub KeepsEnds : List Item → Type 0
KeepsEnds xs = (k : ℕ) → ((e : End) → end_from k e xs ≡ e) × (was_refused k xs ≡ false)

-- the words of pipes
abbrev pub is_piped : Location → Bool
is_piped (place.Var v) = true
is_piped (place.Cell k) = true
is_piped (place.Claim k) = true
is_piped _ = false

-- items about another word
pub pipes_rest : (items : ℕ → List Item) (a : ℕ) (xs : List Item) (one two : Location → ℕ) (l : Location)
    → is_piped l ≡ false → ((j : Location) → j ≢ l → two j ≡ one j) → KeepsEnds xs → ArePipes one items
    → ArePipes two (put items a (items a ++ xs))
pipes_rest items a xs one two l out rest keeps pipes p few = record {
  writer = was.writer;
  reader = was.reader;
  w = was.w;
  r = was.r;
  writes = λ t. same (write_end p) t ∙ was.writes t;
  reads = λ t. same (read_end p) t ∙ was.reads t;
  writer_task = was.writer_task;
  reader_task = was.reader_task;
  refused_w = λ t is. was.refused_w t (refused (write_end p) t is);
  refused_r = λ t is. was.refused_r t (refused (read_end p) t is);
  flow = flow_words one two p was.w was.r (record {
    claims = λ k of. rest (place.Claim k) (away (place.Claim k) refl);
    ends = λ k of. rest (place.Var k) (away (place.Var k) refl);
    cells = λ k of. rest (place.Cell k) (away (place.Cell k) refl);
  }) was.flow;
}
  where
    was : IsPipe one items p
    was = pipes p few

    away : (j : Location) → is_piped j ≡ true → j ≢ l
    away j is e = absurd (both_ways true (sym is ∙ (ap is_piped e ∙ out)) refl)

    same : (k t : ℕ) → end_of k (put items a (items a ++ xs) t) ≡ end_of k (items t)
    same k t = put_at (λ (ys : List Item). end_of k ys ≡ end_of k (items t)) items a (items a ++ xs) t
        (λ e. end_append k no_end (items a) xs ∙ ((keeps k).0 (end_of k (items a))
        ∙ ap (λ (i : ℕ). end_of k (items i)) (sym e)))
        (λ ne. refl)

    refused : (k t : ℕ) → was_refused k (put items a (items a ++ xs) t) ≡ true → was_refused k (items t) ≡ true
    refused k t = put_at (λ (ys : List Item). was_refused k ys ≡ true → was_refused k (items t) ≡ true) items a
        (items a ++ xs) t
        (λ e is. by (refused_append k (items a) xs is) e)
        (λ ne is. is)
      where
        by : (was_refused k (items a) ≡ true) ⊎ (was_refused k xs ≡ true) → t ≡ a → was_refused k (items t) ≡ true
        by (inl q) e = ap (λ (i : ℕ). was_refused k (items i)) e ∙ q
        by (inr q) e = absurd (true≢false (sym q ∙ (keeps k).1))

-- steps of the model that leave the words of pipes: what they load or store there is what stands
module _ (s : Table) (beside : Location → ℕ) (a p : ℕ) (few : p < PIPES) where
  below : (v : ℕ) → v / PIPE_ENDS ≡ p → v < CLAIMS
  below v of = omega arith

  reads_end : (e : Step) → Allowed s a e
      → ((v : ℕ) → v < CLAIMS → (next s a e).words.vars v ≡ s.words.vars v)
      → ReadsEnd (word_with s beside) p e
  reads_end (step.Load (watch.Var v o) r) may same = λ of. may
  reads_end (step.Publish (watch.Var v o) n r) may same = λ of. sym (put_same s.words.vars v n) ∙ same v (below v of)
  reads_end e may same = tt

pub pipes_next : (s : Table) (beside : Location → ℕ) (items : ℕ → List Item) (a : ℕ) (e : Step) → Allowed s a e
    → ((v : ℕ) → v < CLAIMS → (next s a e).words.vars v ≡ s.words.vars v) → ArePipes (word_with s beside) items
    → ArePipes (word_with (next s a e) beside) (put items a (items a ++ item.Made e ∷ []))
pipes_next s beside items a e may same pipes p few = step_pipe items a (word_with s beside)
    (word_with (next s a e) beside) p (pipes p few) (record {
      claims = λ k of. refl;
      ends = λ k of. same k (omega arith);
      cells = λ k of. refl;
    }) e (reads_end s beside a p few e may same)
