-- Counting the looks of a task.
use Rattle.std.proofs.Common.{refl, ◌∙◌, ap, arith}
use Rattle.std.specs.Prelude.{ℕ, zero, suc, ◌≡◌, ◌+◌, ◌-◌, ◌*◌, Bool, true, false, nat_lt, Option, Some, None}
use Rattle.std.specs.Prelude.{List, [], ◌∷◌, ◌++◌}
use Rattle.wait_model.specs.{declared.layout.TheConstants.ENTRIES, declared.layout.TheConstants.WORD_BITS, Words.bit_at}
use Rattle.wait_rule.specs.{declared.journal.Item.Item, Known.Known, Says.added, Queues.saw}
use Rattle.wait_rule.specs.LookCounts.{looks_with, looks_from, looks_made, Looked}
use Rattle.wait_rule.specs.MemberLooks.{SawKind, SawBits, SawWord}
use Rattle.wait_rule.specs.declared.journal.Item.TheVariants as item

pub looks_append : (n : ℕ) (xs ys : List Item) → looks_from n (xs ++ ys) ≡ looks_from (looks_from n xs) ys
looks_append n [] ys = refl
looks_append n (x ∷ xs) ys = looks_append (looks_with x n) xs ys

-- with one item more, and with more of them
pub looks_added : (k : Known) (x : Item) → looks_made (added k x) ≡ looks_with x (looks_made k)
looks_added k x = looks_append 0 k.view.items (x ∷ [])

-- one look, or none
pub looked_one : (old new : Known) (x : Item) → ((n : ℕ) → looks_with x n ≡ n + 1) → new ≡ added old x
    → Looked 1 old new
looked_one old new x one is = ap looks_made is ∙ (looks_added old x ∙ one (looks_made old))

pub looked_none : (old new : Known) (x : Item) → ((n : ℕ) → looks_with x n ≡ n) → new ≡ added old x
    → looks_made new ≡ looks_made old
looked_none old new x none is = ap looks_made is ∙ (looks_added old x ∙ none (looks_made old))

pub saw_counts : (o : Option ℕ) (x w n : ℕ) → looks_with (item.Made (saw o x w)) n ≡ n + 1
saw_counts None x w n = refl
saw_counts (Some h) x w n = refl

-- the looks for which the bits of a member word stand
kind_looked : (b bit : Bool) (h x : ℕ) (old new : Known) → SawKind b bit h x old new → Looked 1 old new
kind_looked true bit h x old new s = looked_one old new _ (λ n. refl) s.is
kind_looked false bit h x old new s = looked_one old new _ (λ n. refl) s.is

bits_looked : (h i w n : ℕ) (old new : Known) → SawBits h i w n old new → Looked n old new
unfolding SawBits
bits_looked h i w zero old new s = let e : looks_made new ≡ looks_made old = ap looks_made s in omega arith
bits_looked h i w (suc n) old new s =
    let before = bits_looked h i w n old s.0 s.1 in
    let last = kind_looked (nat_lt (WORD_BITS * i + n) ENTRIES) (bit_at w n) h (WORD_BITS * i + n) s.0 new s.2 in
    omega arith

in_place : (n c m k : ℕ) → m ≡ n + c → k ≡ m + 1 - c → k ≡ n + 1
in_place n c m k one two = omega arith

-- the load itself is one
pub word_looked : (h i w : ℕ) (old new : Known) → SawWord h i w old new → Looked 1 old new
word_looked h i w old new s = in_place (looks_made old) WORD_BITS (looks_made s.seen) (looks_made new)
    (bits_looked h i w WORD_BITS old s.seen s.bits) (ap looks_made s.is ∙ looks_added s.seen (item.Word w))
