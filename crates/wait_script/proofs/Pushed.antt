-- Pieces that were put after a text, one after another.
use Rattle.std.proofs.Common.{◌≡◌, ℕ, List, ◌++◌, append_assoc}

pub four : (v : List ℕ) {w x y z : List ℕ} (a b c d e f g h : List ℕ) → w ≡ v ++ a ++ b → x ≡ w ++ c ++ d → y ≡ x ++ e ++ f
    → z ≡ y ++ g ++ h → z ≡ v ++ (a ++ b ++ c ++ d ++ e ++ f ++ g ++ h)
four v a b c d e f g h p q r s = rw (s, r, q, p) (simp append_assoc)
