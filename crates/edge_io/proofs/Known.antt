-- Laws of bytes that are known of a sink or a source. Only proofs use them.
use Rattle.std.proofs.Common.{◌≡◌, ℕ, ◌+◌, ◌-◌, arith, List, ◌++◌, length, take, drop, Option, Some, None, refl, ap}
use Rattle.std.proofs.Common.{sym, ◌∙◌, append_assoc}
use Rattle.std.proofs.lemmas.List.{take-append-drop, drop-drop}
use Rattle.std.proofs.lemmas.Grind.{common_steps}
use Rattle.std.proofs.Math.Seq.{take-add}
use Rattle.std.specs.Io.KnownBytes.{append_known}

pub append_known-twice : (known : Option (List ℕ)) (a b : List ℕ)
    → append_known (append_known known a) b ≡ append_known known (a ++ b)
append_known-twice None a b = refl
append_known-twice (Some xs) a b = ap Some (append_assoc xs a b)

-- one more piece of a text
pub append_known-more : (old now new : Option (List ℕ)) (text : List ℕ) (n m : ℕ)
    → now ≡ append_known old (take n text) → new ≡ append_known now (take m (drop n text))
    → new ≡ append_known old (take (n + m) text)
append_known-more old now new text n m first then_ =
    then_ ∙ ap (λ o. append_known o (take m (drop n text))) first
    ∙ append_known-twice old (take n text) (take m (drop n text))
    ∙ ap (append_known old) (sym (take-add n m text))

-- `&xs[n..]`
pub take-rest : (xs : List ℕ) (n : ℕ) → take (length xs - n) (drop n xs) ≡ drop n xs
take-rest xs n = grind (arith, common_steps)

-- one more piece, cut from `&text[n..]`
pub append_known-next : (old now new : Option (List ℕ)) (text : List ℕ) (n m : ℕ)
    → now ≡ append_known old (take n text)
    → new ≡ append_known now (take m (take (length text - n) (drop n text)))
    → new ≡ append_known old (take (n + m) text)
append_known-next old now new text n m first then_ =
    append_known-more old now new text n m first (then_
    ∙ ap (λ r. append_known now (take m r)) (take-rest text n))

-- what was copied to the front of a buffer, and what is left after it
pub handed-rest : (bytes buf : List ℕ) (next n : ℕ)
    → take n buf ≡ take n (take (length bytes - next) (drop next bytes)) → drop next bytes ≡ take n buf
    ++ drop (next + n) bytes
handed-rest bytes buf next n is =
    sym (ap (λ x. x ++ drop (next + n) bytes) (is ∙ ap (take n) (take-rest bytes next))
    ∙ ap (λ x. take n (drop next bytes) ++ x) (sym (drop-drop n next bytes))
    ∙ take-append-drop n (drop next bytes))
