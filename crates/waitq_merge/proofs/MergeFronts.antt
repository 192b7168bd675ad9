-- What becomes of the files, whatever the status of a merge is.
use Rattle.std.proofs.Common.{◌≡◌, ℕ, ◌++◌, List, [], ◌∷◌, inl, inr, sym, ap, ◌∙◌, append-nil, append_assoc}
use Rattle.std.specs.Prelude.{Option, Some, None, Result, IfSome}
use Rattle.atomic_table.specs.Seated.{TableId}
use Rattle.edge_io.specs.Folders.{Files, HasBytes}
use Rattle.wait_rule.specs.Known.{Known}
use Rattle.flow_merge.specs.Merged.{Drawn, SinkFilled, HoldsMerged, ReadsFront}
use Rattle.flow_merge.specs.Passed.{Passed, Piece, bytes_if, merged_bytes, bytes_of, read_of, sent_of}
use Rattle.flow_merge.specs.declared.sides.Side.{Side}
use Rattle.flow_merge.specs.declared.sides.Side.TheVariants as sides
use Rattle.waitq_alone.specs.declared.fault.Fault.{Fault}
use Rattle.waitq_copy.specs.{Copying.Outside, Run.IsFrontOf}
use Rattle.waitq_copy.proofs.Fronts.{is_front, kept, spares_but}
use Rattle.waitq_merge.specs.{Merging.MergeLeft, MergeRun.IsFrontOfBoth, MergeRun.MergeSpares}

in_last : (ps : List Piece) (p : Piece) → merged_bytes (ps ++ p ∷ []) ≡ merged_bytes ps ++ p.bytes
in_last [] p = append-nil p.bytes
in_last (q ∷ qs) p = ap (λ (xs : List ℕ). q.bytes ++ xs) (in_last qs p)
    ∙ sym (append_assoc q.bytes (merged_bytes qs) p.bytes)

of_last : (s : Side) (ps : List Piece) (p : Piece)
    → bytes_of s (ps ++ p ∷ []) ≡ bytes_of s ps ++ bytes_if s p.side p.bytes
of_last s [] p = append-nil (bytes_if s p.side p.bytes)
of_last s (q ∷ qs) p = ap (λ (xs : List ℕ). bytes_if s q.side q.bytes ++ xs) (of_last s qs p)
    ∙ sym (append_assoc (bytes_if s q.side q.bytes) (bytes_of s qs) (bytes_if s p.side p.bytes))

-- what was sent is a front of them
sent_front : (p : Passed) (front rest : List ℕ) → sent_of p ≡ front ++ rest
    → merged_bytes (p.pieces ++ p.part ∷ []) ≡ front ++ (rest ++ p.rest)
sent_front p front rest e = in_last p.pieces p.part ∙ (ap (λ (xs : List ℕ). merged_bytes p.pieces ++ xs) p.parts
    ∙ (sym (append_assoc (merged_bytes p.pieces) p.front p.rest) ∙ (ap (λ (xs : List ℕ). xs ++ p.rest) e
    ∙ append_assoc front rest p.rest)))

-- and those of a side are a front of its file
side_front : (files : Files) (name : List ℕ) (d : Drawn) (s : Side) (p : Passed)
    → HasBytes (Some files) name d.left_old → ReadsFront d s p
    → IsFrontOf (Some (bytes_of s (p.pieces ++ p.part ∷ []))) (files name)
side_front files name d s p found r =
    is_front (Some (bytes_of s (p.pieces ++ p.part ∷ []))) (files name) d.left_new r.given (read_of s p) r.front.rest
    (ap (λ (xs : List ℕ). Some xs) (of_last s p.pieces p.part)) (sym found.1 ∙ r.left) found.0 r.front.whole

both_front : (old : Option Files) (first second : List ℕ) (one two : Drawn) (into : SinkFilled)
    → HasBytes old first one.left_old → HasBytes old second two.left_old → (h : HoldsMerged one two into)
    → IfSome old (λ files. IsFrontOfBoth (Some h.held.front) (files first) (files second))
both_front None first second one two into f g h = tt
both_front (Some files) first second one two into f g h = record {
  pieces = h.passed.pieces ++ h.passed.part ∷ [];
  front = (h.held.rest ++ h.passed.rest, sent_front h.passed h.held.front h.held.rest h.held.whole);
  left = side_front files first one sides.Left h.passed f h.left;
  right = side_front files second two sides.Right h.passed g h.right;
}

pub merge_spares : (domain : TableId) (task_old task_new : Known) (old new : Outside) (first second dst : List ℕ)
    (answer : Result (Unit {0}) Fault) → MergeLeft domain task_old task_new old new first second dst answer
    → MergeSpares first second dst old.files new.files
merge_spares domain task_old task_new old new first second dst answer (inl n) = kept old.files new.files dst _ n.files
merge_spares domain task_old task_new old new first second dst answer (inr r) =
    let t = r.through in
    spares_but old.files new.files dst _ r.stored t.into.held_old t.into.held_new t.front.held.front t.empty
    t.front.held.held (both_front old.files first second t.one t.two t.into t.found_first t.found_second t.front)
    t.stores
