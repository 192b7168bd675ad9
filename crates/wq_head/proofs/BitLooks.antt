-- What a load of a member word tells in a hold: each of its indexes is seen, and is a member where its bit is set.
use Rattle.std.proofs.Common.{◌∙◌, ap, sym, refl, subst, inl, inr, arith}
use Rattle.std.proofs.lemmas.Bool.Decides.{nat_tests}
use Rattle.std.specs.Prelude.{ℕ, zero, suc, ◌≡◌, ◌-◌, ◌+◌, ◌*◌, ◌==◌}
use Rattle.std.specs.Prelude.{Bool, true, false, nat_lt, if◌then◌else◌, Option, Some, None, is_some}
use Rattle.wait_model.specs.{declared.layout.TheConstants.ENTRIES, declared.layout.TheConstants.WORD_BITS}
use Rattle.wait_model.specs.{declared.watches.Entry.Entry, declared.queues.Mark.Mark, Watches.head_of}
use Rattle.wait_model.specs.{Watches.stands_at, Words.bit_at, Words.entry_of, Tables.mark_of}
use Rattle.wait_rule.specs.declared.journal.Item.TheVariants as item
use Rattle.wait_rule.specs.{Notes.is_at, Known.Known, Queues.place_by, Queues.saw}
use Rattle.wait_rule.specs.MemberLooks.{SawEntry, SawMark, SawKind, SawByBit, SawBits, SawWord}
use Rattle.wait_rule.specs.Says.{told_of, noted, added}
use Rattle.wq_head.specs.{Holds.IsHolding, Members.IsShownMember}
use Rattle.wq_head.specs.Looks.{Looks, is_seen_member, entry_place, bookmark_place}
use Rattle.wq_head.specs.Looking.{IsClear, IsSet, IsByBit, AreByBits}
use Rattle.wq_head.proofs.FirstAndLast.{below_or}
use Rattle.wq_head.proofs.MemberStands.{saw_stands, mark_stands, stands_on}
use Rattle.wq_head.proofs.OneMoreLook.{saw_looks, saw_is_seen, saw_is_placed, mark_looks, mark_is_seen, mark_is_placed}
use Rattle.wq_head.proofs.OneMoreLook.{looks_none, looks_on, holding_on, word_looks}

pub clear_on : (old new : Known) → Looks old new → (m : ℕ) → IsClear old m → IsClear new m
clear_on old new l m c = record {
  seen = l.from.still m c.seen;
  none = l.from.places m c.seen ∙ c.none;
  stands = stands_on old new l m c.seen c.stands;
}

pub set_on : (old new : Known) → Looks old new → (m : ℕ) → IsSet old m → IsSet new m
set_on old new l m s = record {
  seen = l.from.still m s.seen;
  place = s.place;
  there = l.from.places m s.seen ∙ s.there;
  stands = stands_on old new l m s.seen s.stands;
}

pub bit_on : (old new : Known) → Looks old new → (m : ℕ) (bit : Bool) → IsByBit bit old m → IsByBit bit new m
bit_on old new l m true s = set_on old new l m s
bit_on old new l m false c = clear_on old new l m c

if_some : (b : Bool) (p : ℕ) → is_some (if b then Some p else None) ≡ b
if_some true p = refl
if_some false p = refl

entry_at : (h : ℕ) (o : Option Entry) (bit : Bool) → stands_at o h ≡ bit → is_some (entry_place h o) ≡ bit
entry_at h None bit is = is
entry_at h (Some e) bit is = if_some (head_of e.watch == h) e.place ∙ is

bookmark_at : (h : ℕ) (o : Option Mark) (bit : Bool) → is_at h o ≡ bit → is_some (bookmark_place h o) ≡ bit
bookmark_at h None bit is = is
bookmark_at h (Some m) bit is = if_some (m.head == h) m.place ∙ is

by_place : (k : Known) (m : ℕ) (bit : Bool) (o : Option ℕ) → is_seen_member (told_of k) (noted k) m ≡ true
    → place_by k m ≡ o → IsShownMember k m → is_some o ≡ bit → IsByBit bit k m
by_place k m true None seen at stands is = absurd (cc)
by_place k m true (Some p) seen at stands is = record { seen = seen; place = p; there = at; stands = stands }
by_place k m false None seen at stands is = record { seen = seen; none = at; stands = stands }
by_place k m false (Some p) seen at stands is = absurd (cc)

-- what the look at one of them tells
pub record IsBitLook (old new : Known) (m : ℕ) (bit : Bool) : Type 0 where
  pub looks : Looks old new
  pub told : IsByBit bit new m

module _ (old new : Known) (x : ℕ) (bit : Bool) (held : IsHolding old) where
  entry_look : SawEntry bit old.at x old new → nat_lt x ENTRIES ≡ true → IsBitLook old new x bit
  entry_look s few = record {
    looks = saw_looks old new x s.found held is s.knew;
    told = by_place new x bit (entry_place old.at (entry_of s.found))
        (saw_is_seen old new x s.found held is s.knew few)
        (saw_is_placed old new x s.found held is s.knew few)
        (saw_stands old new x s.found held is s.knew s.lawful (grind (arith, nat_tests)))
        (entry_at old.at (entry_of s.found) bit s.named);
  }
    where
      is : new ≡ added old (item.Made (saw old.book.head x s.found))
      is = s.is ∙ ap (λ (o : Option ℕ). added old (item.Made (saw o x s.found))) (sym held.locked)

  mark_look : SawMark bit old.at (x - ENTRIES) old new → nat_lt x ENTRIES ≡ false → IsBitLook old new x bit
  mark_look s far = record {
    looks = mark_looks old new (x - ENTRIES) s.found held s.is s.knew;
    told = by_place new x bit (bookmark_place old.at (mark_of s.found))
        (mark_is_seen old new (x - ENTRIES) s.found held s.is s.knew x refl far) placed
        (mark_stands new old.at x s.found (grind (arith, nat_tests)) placed s.lawful)
        (bookmark_at old.at (mark_of s.found) bit s.named);
  }
    where
      placed : place_by new x ≡ bookmark_place old.at (mark_of s.found)
      placed = mark_is_placed old new (x - ENTRIES) s.found held s.is s.knew x refl far

  kind_look : (b : Bool) → nat_lt x ENTRIES ≡ b → SawKind b bit old.at x old new → IsBitLook old new x bit
  kind_look true few s = entry_look s few
  kind_look false far s = mark_look s far

  by_bit : (h : ℕ) → h ≡ old.at → SawByBit bit h x old new → IsBitLook old new x bit
  by_bit h at s = kind_look (nat_lt x ENTRIES) refl (subst (λ (i : ℕ). SawByBit bit i x old new) at s)

-- what the load of a member word tells of its first bits
pub record AreBitLooks (old new : Known) (from w n : ℕ) : Type 0 where
  pub looks : Looks old new
  pub told : AreByBits new from w n

saw_bits : (h i w n : ℕ) (old new : Known) → IsHolding old → h ≡ old.at → SawBits h i w n old new
    → AreBitLooks old new (WORD_BITS * i) w n
unfolding SawBits
saw_bits h i w zero old new held at s = record {
  looks = subst (Looks old) (sym s) (looks_none old);
  told = λ b few. absurd (omega arith);
}
saw_bits h i w (suc n) old new held at s =
    one_more (saw_bits h i w n old s.0 held at s.1)
  where
    one_more : AreBitLooks old s.0 (WORD_BITS * i) w n → AreBitLooks old new (WORD_BITS * i) w (suc n)
    one_more l = record {
      looks = looks_on old s.0 new l.looks look.looks;
      told = λ b few. elim (below_or b n) [
        | inl under ↦ bit_on s.0 new look.looks (WORD_BITS * i + b) (bit_at w b) (l.told b under)
        | inr over ↦ subst (λ (a : ℕ). IsByBit (bit_at w a) new (WORD_BITS * i + a)) (omega arith) look.told
      ];
    }
      where
        look : IsBitLook s.0 new (WORD_BITS * i + n) (bit_at w n)
        look = by_bit s.0 new (WORD_BITS * i + n) (bit_at w n) (holding_on old s.0 l.looks held) h
            (at ∙ sym (ap (λ (k : Known). k.at) l.looks.is)) s.2

-- what the load tells of all its bits
pub saw_word : (h i w : ℕ) (old new : Known) → IsHolding old → h ≡ old.at → SawWord h i w old new
    → AreBitLooks old new (WORD_BITS * i) w WORD_BITS
saw_word h i w old new held at s =
    let l = saw_bits h i w WORD_BITS old s.seen held at s.bits in
    let load = word_looks s.seen new w s.is in
    record {
      looks = looks_on old s.seen new l.looks load;
      told = λ b few. bit_on s.seen new load (WORD_BITS * i + b) (bit_at w b) (l.told b few);
    }
