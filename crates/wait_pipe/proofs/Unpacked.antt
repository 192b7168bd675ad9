-- Cells and their bytes.
use Rattle.std.proofs.Common.{◌≡◌, ◌≤◌, ◌+◌, ℕ, List, ◌++◌, length, take, drop, sym, ap, ◌∙◌, arith}
use Rattle.std.proofs.lemmas.Slice.{take-put_mid}
use Rattle.std.proofs.lemmas.List.{take-take, length-take-le}
use Rattle.std.proofs.Math.Seq.{take-append-add}
use borrow.Rule.Slice.PartMut.{put_mid}

pub unpacked : (a n k : ℕ) (xs ys cell : List ℕ) → ys ≡ take 7 (drop 1 cell) → length ys ≡ 7 → a + 7 ≤ length xs
    → n ≤ 7 → take (a + n) (put_mid a k xs ys) ≡ take a xs ++ take n (drop 1 cell)
unpacked a n k xs ys cell is long room few =
    let p = put_mid a k xs ys in
    let front : take (a + 7) p ≡ take a xs ++ ys = take-put_mid a k xs ys (a + 7) (omega arith) (omega arith) in
    sym (take-take (a + n) (a + 7) p (omega arith))
    ∙ (ap (take (a + n)) front
    ∙ (ap (λ m. take (m + n) (take a xs ++ ys)) (sym (length-take-le a xs (omega arith)))
    ∙ (take-append-add (take a xs) ys n
    ∙ ap (λ l. take a xs ++ l) (ap (take n) is ∙ take-take n 7 (drop 1 cell) few))))
