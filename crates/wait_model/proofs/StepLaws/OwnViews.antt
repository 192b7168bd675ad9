-- What the stepping task's view tells after a step, group by group.
use Rattle.std.proofs.lemmas.Option.{none-some}
use Rattle.std.proofs.Common.{refl, sym, ◌∙◌, ap, subst, arith, inl, inr}
use Rattle.std.specs.Prelude.{ℕ, ◌≡◌, ◌≢◌, ◌≤◌, ◌⊎◌, Option, Some, None, Bool, true, false, cond, not, ◌&&◌, ◌||◌, ◌==◌}
use Rattle.wait_model.specs.{declared.watches.Watch.Watch, declared.watches.Entry.Entry, declared.watches.Aim.Aim}
use Rattle.wait_model.specs.{Facts.Agrees, Facts.OfView, Words.entry_of, Words.spent_of, Functions.put}
use Rattle.wait_model.specs.Views.{Look, off, elsewhere, shown, Walk, View, no_hold, look_at}
use Rattle.wait_model.specs.Fold.{begun, begun_anew, holding, is_off, forgotten, after, takes_note}
use Rattle.wait_model.specs.Watches.{same, head_of, is_done, is_bit, mask_of, failing, was_clear, page}
use Rattle.wait_model.specs.Tables.{Words, met, publish, consume}
use Rattle.wait_model.specs.Rows.{Reads, Lowers, AimsAt}
use Rattle.wait_model.proofs.Sameness.{same_head, publish_other, consume_sets_none, failing_unmet, tas_unmet}
use Rattle.wait_model.proofs.Sameness.{same_bit_is}
use Rattle.wait_model.proofs.Functions.{put_at, put_same, put_other, bool_or}
use Rattle.wait_model.specs.declared.steps.Step.TheVariants as step

-- a count that is at most the head's, or the one that the last lock found
checked_at_most : (spent : ℕ → ℕ) (found : ℕ → ℕ) → ((h : ℕ) → found h ≤ spent h)
    → (b : Bool) (old : Option ℕ) (c : Watch) (n : ℕ) → (old ≡ Some n → n ≤ spent (head_of c))
    → cond b (Some (found (head_of c))) old ≡ Some n → n ≤ spent (head_of c)
checked_at_most spent found below true old c n k e = let q : found (head_of c) ≡ n = cc
    in omega (arith, below (head_of c), q)
checked_at_most spent found below false old c n k e = k e

pub put_none : (f : ℕ → Watch → Option ℕ) (y x : ℕ) (c : Watch) (n : ℕ) → put f y (λ _. None) x c ≡ Some n
    → f x c ≡ Some n
put_none f y x c n = put_at (λ (g : Watch → Option ℕ). g c ≡ Some n → f x c ≡ Some n) f y (λ _. None) x
    (λ _ e. absurd (cc)) (λ _ e. e)

is_holding : (g : Option ℕ) (h : ℕ) → holding g h ≡ true → g ≡ Some h
is_holding None h e = absurd (cc)
is_holding (Some i) h e = let q : i ≡ h = grind arith in cc

-- what a hold finds in an entry word agrees with the word
looked : (h : ℕ) (f g : Option Entry) → f ≡ g → Agrees h (look_at (Some h) f) g
looked h None g e = λ d i. absurd (cc)
looked h (Some d) g e = by (head_of d.watch == h) refl
  where
    by : (b : Bool) → (head_of d.watch == h) ≡ b → Agrees h (cond b (shown d) elsewhere) g
    by true q = (sym e, grind arith)
    by false q = λ c i. let same_entry : d ≡ c = cc in let hd : head_of d.watch ≡ head_of c.watch =
        ap (λ (k : Entry). head_of k.watch) same_entry
        in λ r. absurd (let z : (head_of d.watch == h) ≡ true = grind arith in cc)

look_off : (g : Option ℕ) (f : Option Entry) → look_at g f ≡ off → f ≡ None
look_off None f q = absurd (cc)
look_off (Some h) None q = refl
look_off (Some h) (Some d) q = grind arith

-- a book with one more word read, and the words with one more changed
book_put : (book : ℕ → Look) (entry entry2 : ℕ → Option Entry) (y h : ℕ) (l : Look) → Agrees h l (entry2 y)
    → ((x : ℕ) → x ≢ y → entry2 x ≡ entry x) → ((x : ℕ) → Agrees h (book x) (entry x)) → (x : ℕ)
    → Agrees h (put book y l x) (entry2 x)
book_put book entry entry2 y h l own other old x =
    put_at (λ k. Agrees h k (entry2 x)) book y l x (λ q. subst (λ (i : ℕ). Agrees h l (entry2 i)) (sym q) own)
    (λ ne. subst (λ o. Agrees h (book x) o) (sym (other x ne)) (old x))

-- an own entry that the book shows off is settled
seen_put : (book : ℕ → Look) (stored stored2 : ℕ → Option Entry) (y : ℕ) (l : Look)
    → (l ≡ off → stored2 y ≡ None) → ((x : ℕ) → x ≢ y → stored x ≡ None → stored2 x ≡ None)
    → ((x : ℕ) → book x ≡ off → stored x ≡ None) → (x : ℕ) → put book y l x ≡ off → stored2 x ≡ None
seen_put book stored stored2 y l own other old x =
    put_at (λ k. k ≡ off → stored2 x ≡ None) book y l x (λ q e. subst (λ (i : ℕ). stored2 i ≡ None) (sym q)
    (own e)) (λ ne e. other x ne (old x e))

module _ (holder : ℕ → Bool) (entry : ℕ → Option Entry) (spent : ℕ → ℕ) (words : Words) (v : View)
    (o : OfView holder entry spent words v) where
  pub of_state : (σ : ℕ) → OfView holder entry spent words (after (step.State σ) v)
  of_state σ = record {
    hold = o.hold;
    rung = o.rung;
    checks = record {
      found = o.checks.found;
      failed = λ x c n e. absurd (cc);
      low = o.checks.low;
      zero_failed = λ x c n e. o.zero.low c n e;
    };
    zero = record { low = o.zero.low; held = o.zero.held; here = λ x c n h e. e; owing = o.zero.owing };
    bits = record { kept = o.bits.kept; seen = o.bits.seen };
  }

  pub of_wake : (who mask w : ℕ) → OfView holder entry spent words (after (step.Wake who mask w) v)
  of_wake who mask w = record {
    hold = o.hold;
    rung = λ x h. grind (arith, o.rung x);
    checks = o.checks;
    zero = o.zero;
    bits = o.bits;
  }

  pub of_saw : (y w : ℕ) → entry_of w ≡ entry y → OfView holder entry spent words (after (step.Saw y w) v)
  of_saw y w al = record {
    hold = record {
      held = o.hold.held;
      agrees = λ h x e. rw e (book_put v.hold.book entry entry y h (look_at (Some h) (entry_of w))
          (looked h (entry_of w) (entry y) al) (λ i _. refl) (λ i. o.hold.agrees h i e) x);
      aimed = o.hold.aimed;
      uncleared = o.hold.uncleared;
    };
    rung = o.rung;
    checks = o.checks;
    zero = o.zero;
    bits = record {
      kept = o.bits.kept;
      seen = λ h. λ x e. seen_put v.hold.book v.bits.stored (forgotten v y (entry_of w)) y
          (look_at v.hold.head (entry_of w)) (λ q. own (entry_of w) (look_off v.hold.head (entry_of w) q))
          (λ i ne q. both i q (is_off (entry_of w))) (λ i. o.bits.seen h i e) x;
    };
  }
    where
      both : (x : ℕ) → v.bits.stored x ≡ None → (b : Bool)
          → cond b (put v.bits.stored y None) v.bits.stored x ≡ None
      both x q true = put_at (λ g. g ≡ None) v.bits.stored y None x (λ _. refl) (λ _. q)
      both x q false = q

      own : (f : Option Entry) → f ≡ None → forgotten v y f y ≡ None
      own None q = put_at (λ g. g ≡ None) v.bits.stored y None y (λ _. refl) (λ ne. absurd (ne refl))
      own (Some d) q = absurd (cc)

  pub of_peek : (y w : ℕ) → v.hold.head ≡ None → OfView holder entry spent words (after (step.Peek y w) v)
  of_peek y w none = record {
    hold = record {
      held = o.hold.held;
      agrees = o.hold.agrees;
      aimed = o.hold.aimed;
      uncleared = λ h e. absurd (cc);
    };
    rung = o.rung;
    checks = o.checks;
    zero = record {
      low = o.zero.low;
      held = o.zero.held;
      here = o.zero.here;
      owing = λ c n co ze. absurd (let h : v.hold.head ≡ Some (head_of c) = o.zero.held c n ze in cc);
    };
    bits = record { kept = o.bits.kept; seen = λ h x e. absurd (cc) };
  }

  -- the view after an unlock, with what it then owes and walks
  pub of_unlocked : (h : ℕ) (holder2 : ℕ → Bool) (spent2 : ℕ → ℕ) (owes : Watch → ℕ
      → Bool) (walk : Option Walk) → ((i : ℕ) → spent i ≤ spent2 i)
      → OfView holder2 entry spent2 words (record v {
        hold = no_hold;
        walk = walk;
        duty = record (v.duty) { owes = owes };
      })
  of_unlocked h holder2 spent2 owes walk grow = record {
    hold = record {
      held = λ i e. absurd (cc);
      agrees = λ i x e. absurd (cc);
      aimed = λ i w e. absurd (cc);
      uncleared = λ i e. absurd (cc);
    };
    rung = λ x e. absurd (cc);
    checks = record {
      found = λ i. omega (arith, o.checks.found i, grow i);
      failed = λ x c n e. omega (arith, o.checks.failed x c n e, grow (head_of c));
      low = λ x c n e. omega (arith, o.checks.low x c n e, grow (head_of c));
      zero_failed = λ x c n e. omega (arith, o.checks.zero_failed x c n e, grow (head_of c));
    };
    zero = record {
      low = λ c n e. absurd (cc);
      held = λ c n e. absurd (cc);
      here = λ x c n e. absurd (cc);
      owing = λ c n co e. absurd (cc);
    };
    bits = record { kept = o.bits.kept; seen = λ i x e. absurd (cc) };
  }

  pub of_load : (l : Watch) (r : ℕ) → Reads words l r
      → OfView holder entry spent words (after (step.Load l r) v)
  of_load l r al = record {
    hold = o.hold;
    rung = o.rung;
    checks = record {
      found = o.checks.found;
      failed = λ x c n. at (failing l r c) (v.checks.failed x c) c n (o.checks.failed x c n);
      low = λ x c n. at (failing l r c) (v.checks.low x c) c n (o.checks.low x c n);
      zero_failed = λ x c n. at (v.hold.prepared && (holding v.hold.head (head_of c) && failing l r c))
          (v.checks.zero_failed x c) c n (o.checks.zero_failed x c n);
    };
    zero = record {
      low = λ c n. at (fresh c) (v.hold.zero c) c n (o.zero.low c n);
      held = λ c n e. held_at c n (bool_or (fresh c)) e;
      here = λ x c n h. same_zero x c n h (fresh c);
      owing = λ c n co e is σ. owes_at c n co (bool_or (fresh c)) e is σ;
    };
    bits = record { kept = o.bits.kept; seen = o.bits.seen };
  }
    where
      fresh : Watch → Bool
      fresh c = holding v.hold.head (head_of c) && failing l r c

      at : (b : Bool) (old : Option ℕ) (c : Watch) (n : ℕ) → (old ≡ Some n → n ≤ spent (head_of c))
          → cond b (Some (v.checks.found (head_of c))) old ≡ Some n → n ≤ spent (head_of c)
      at = checked_at_most spent v.checks.found o.checks.found

      held_at : (c : Watch) (n : ℕ) → ((holding v.hold.head (head_of c) && failing l r c) ≡ true)
          ⊎ ((holding v.hold.head (head_of c) && failing l r c) ≡ false)
          → cond (holding v.hold.head (head_of c) && failing l r c) (Some (v.checks.found (head_of c)))
          (v.hold.zero c) ≡ Some n → v.hold.head ≡ Some (head_of c)
      held_at c n (inl q) e = is_holding v.hold.head (head_of c) (grind arith)
      held_at c n (inr q) e = o.zero.held c n (rw q at e)

      same_zero : (x : ℕ) (c : Watch) (n : ℕ) → v.hold.prepared ≡ true → (b : Bool)
          → cond (v.hold.prepared && b) (Some (v.checks.found (head_of c))) (v.checks.zero_failed x c) ≡ Some
          n → cond b (Some (v.checks.found (head_of c))) (v.hold.zero c) ≡ Some n
      same_zero x c n h true e = rw h at e
      same_zero x c n h false e = o.zero.here x c n h (rw h at e)

      owes_at : (c : Watch) (n : ℕ) → is_done c ≡ true
          → ((holding v.hold.head (head_of c) && failing l r c) ≡ true)
          ⊎ ((holding v.hold.head (head_of c) && failing l r c) ≡ false)
          → cond (holding v.hold.head (head_of c) && failing l r c) (Some (v.checks.found (head_of c)))
          (v.hold.zero c) ≡ Some n → met words c ≡ true → (σ : ℕ) → v.duty.owes c σ ≡ true
      owes_at c n co (inl q) e is σ =
          absurd (let u : met words c ≡ false = failing_unmet words l r c al (grind arith) in cc)
      owes_at c n co (inr q) e is σ = o.zero.owing c n co (rw q at e) is σ

  pub of_publish : (c : Watch) (n r : ℕ)
      → OfView holder entry spent (publish words c n) (after (step.Publish c n r) v)
  of_publish c n r = record {
    hold = record {
      held = o.hold.held;
      agrees = o.hold.agrees;
      aimed = λ h w e i. aim v.walk w h e refl i;
      uncleared = λ h e d x. grind (arith, o.hold.uncleared h e d x);
    };
    rung = λ x e. absurd (cc);
    checks = o.checks;
    zero = record {
      low = o.zero.low;
      held = o.zero.held;
      here = o.zero.here;
      owing = λ d m co e is σ. owes d m co e is σ (same d c) refl;
    };
    bits = record { kept = λ d i q. kept d i q (same d c) refl; seen = o.bits.seen };
  }
    where
      kept : (d : Watch) → is_bit d ≡ true → (v.bits.keeps d && not (same d c)) ≡ true → (b : Bool)
          → same d c ≡ b → met (publish words c n) d ≡ false
      kept d i q true s = absurd (grind arith)
      kept d i q false s = publish_other words d c n s ∙ o.bits.kept d i (grind arith)

      aim : (g : Option Walk) (w : Walk) (h : ℕ) → v.hold.head ≡ Some h → v.walk ≡ g → begun_anew g ≡ Some w
          → head_of w.watch ≡ h
      aim None w h e q i = absurd (cc)
      aim (Some f) w h e q i = let ww : f.watch ≡ w.watch = grind arith in let fh : head_of f.watch ≡ h =
          o.hold.aimed h f e q in cc

      owes : (d : Watch) (m : ℕ) → is_done d ≡ true → v.hold.zero d ≡ Some m
          → met (publish words c n) d ≡ true → (σ : ℕ) (b : Bool) → same d c ≡ b
          → (same d c || v.duty.owes d σ) ≡ true
      owes d m co e is σ true q = rw q refl
      owes d m co e is σ false q = rw q (o.zero.owing d m co e (sym (publish_other words d c n q) ∙ is) σ)

  pub unmet_stays : (c d : Watch) (n : ℕ) → Lowers words c n → met words d ≡ false
      → met (consume words c n) d ≡ false
  unmet_stays c d n al q = by (met (consume words c n) d) refl
    where
      by : (b : Bool) → met (consume words c n) d ≡ b → met (consume words c n) d ≡ false
      by true r = absurd (let z : met words d ≡ true = consume_sets_none words d c n al r in cc)
      by false r = r

  pub of_consume : (c : Watch) (n r : ℕ) → Lowers words c n
      → OfView holder entry spent (consume words c n) (after (step.Consume c n r) v)
  of_consume c n r al = record {
    hold = o.hold;
    rung = o.rung;
    checks = record {
      found = o.checks.found;
      failed = o.checks.failed;
      low = o.checks.low;
      zero_failed = o.checks.zero_failed;
    };
    zero = record {
      low = o.zero.low;
      held = o.zero.held;
      here = o.zero.here;
      owing = λ d m co e is σ. o.zero.owing d m co e (consume_sets_none words d c n al is) σ;
    };
    bits = record { kept = λ d i q. kept d i q (is_bit c && same d c) refl; seen = o.bits.seen };
  }
    where
      kept : (d : Watch) → is_bit d ≡ true
          → (v.bits.keeps d || (is_bit c && (was_clear c r && same d c))) ≡ true → (b : Bool)
          → (is_bit c && same d c) ≡ b → met (consume words c n) d ≡ false
      kept d i q true s = tas_unmet words c d n (grind arith) (grind arith)
      kept d i q false s = unmet_stays c d n al (o.bits.kept d i (grind arith))

  pub of_tas_for : (y p r : ℕ)
      → OfView holder entry spent (consume words (page p) 1) (after (step.TasFor y p r) v)
  of_tas_for y p r = record {
    hold = o.hold;
    rung = o.rung;
    checks = o.checks;
    zero = record {
      low = o.zero.low;
      held = o.zero.held;
      here = o.zero.here;
      owing = λ d m co e is σ. o.zero.owing d m co e (consume_sets_none words d (page p) 1 tt is) σ;
    };
    bits = record { kept = λ d i q. unmet_stays (page p) d 1 tt (o.bits.kept d i q); seen = o.bits.seen };
  }

  pub of_woken : (y : ℕ) → OfView holder entry spent words (after (step.Woken y) v)
  of_woken y = record {
    hold = o.hold;
    rung = λ x h. put_at (λ b. b ≡ true) v.hold.flagged y true x
        (λ _. refl) (λ _. o.rung x h);
    checks = o.checks;
    zero = o.zero;
    bits = o.bits;
  }

  pub of_unflag : (y : ℕ) (n : Option ℕ) → ((p : ℕ) → n ≡ Some p → met words (page p) ≡ false)
      → OfView holder entry spent words (after (step.Unflag y n) v)
  of_unflag y n set = record {
    hold = o.hold;
    rung = o.rung;
    checks = record {
      found = o.checks.found;
      failed = o.checks.failed;
      low = λ x c k e. o.checks.low x c k (put_none v.checks.low y x c k e);
      zero_failed = o.checks.zero_failed;
    };
    zero = o.zero;
    bits = record { kept = λ d i q. kept n d i q set (takes_note n d) refl; seen = o.bits.seen };
  }
    where
      kept : (n : Option ℕ) (d : Watch) → is_bit d ≡ true → (v.bits.keeps d || takes_note n d) ≡ true
          → ((p : ℕ) → n ≡ Some p → met words (page p) ≡ false) → (b : Bool) → takes_note n d ≡ b
          → met words d ≡ false
      kept None d i q set true r = absurd (cc)
      kept (Some p) d i q set true r = subst (λ (g : Watch). met words g ≡ false) (sym (same_bit_is d (page p) i r))
          (set p refl)
      kept n d i q set false r = o.bits.kept d i (grind arith)

  pub of_flag : (y w : ℕ) → OfView holder entry spent words (after (step.Flag y w) v)
  of_flag y w = record {
    hold = o.hold;
    rung = o.rung;
    checks = record {
      found = o.checks.found;
      failed = o.checks.failed;
      low = o.checks.low;
      zero_failed = o.checks.zero_failed;
    };
    zero = o.zero;
    bits = o.bits;
  }

  pub of_mark : (m : Option ℕ) → OfView holder entry spent words (record v { mark = m })
  of_mark m = record { hold = o.hold; rung = o.rung; checks = o.checks; zero = o.zero; bits = o.bits }

  pub of_queue : (y : ℕ) (d : Entry) → v.hold.head ≡ Some (head_of d.watch)
      → OfView holder (put entry y (Some d)) spent words (after (step.Queue y d) v)
  of_queue y d hd = record {
    hold = record {
      held = o.hold.held;
      agrees = λ h x e. book_put v.hold.book entry (put entry y (Some d)) y h (shown d)
          (put_same entry y (Some d), cc) (λ i ne. put_other entry y (Some d) i ne) (λ i. o.hold.agrees h i e)
          x;
      aimed = o.hold.aimed;
      uncleared = o.hold.uncleared;
    };
    rung = o.rung;
    checks = record {
      found = o.checks.found;
      failed = λ x c n e. o.checks.failed x c n (put_none v.checks.failed y x c n e);
      low = λ x c n e. o.checks.low x c n (put_none v.checks.low y x c n e);
      zero_failed = λ x c n e. o.checks.zero_failed x c n (zero_put x c n v.hold.prepared e);
    };
    zero = record {
      low = o.zero.low;
      held = o.zero.held;
      here = λ x c n h e. o.zero.here x c n h (zero_put x c n v.hold.prepared e);
      owing = o.zero.owing;
    };
    bits = record {
      kept = o.bits.kept;
      seen = λ h x e. seen_put v.hold.book v.bits.stored (put v.bits.stored y (Some d)) y (shown d)
          (λ q. absurd (cc)) (λ i ne q. put_other v.bits.stored y (Some d) i ne
          ∙ q) (λ i. o.bits.seen h i e) x;
    };
  }
    where
      zero_put : (x : ℕ) (c : Watch) (n : ℕ) (b : Bool)
          → (cond b v.checks.zero_failed (put v.checks.zero_failed y (λ _. None))) x c ≡ Some n
          → v.checks.zero_failed x c ≡ Some n
      zero_put x c n true e = e
      zero_put x c n false e = put_none v.checks.zero_failed y x c n e

  pub of_unqueue : (y : ℕ) → OfView holder (put entry y None) spent words (after (step.Unqueue y) v)
  of_unqueue y = record {
    hold = record {
      held = o.hold.held;
      agrees = λ h x e. book_put v.hold.book entry (put entry y None) y h off
          (λ d r. absurd (none-some d (sym (put_same entry y None) ∙ r)))
          (λ i ne. put_other entry y None i ne) (λ i. o.hold.agrees h i e) x;
      aimed = o.hold.aimed;
      uncleared = o.hold.uncleared;
    };
    rung = o.rung;
    checks = o.checks;
    zero = o.zero;
    bits = record {
      kept = o.bits.kept;
      seen = λ h x e. seen_put v.hold.book v.bits.stored (put v.bits.stored y None) y off
          (λ q. put_same v.bits.stored y None) (λ i ne q. put_other v.bits.stored y None i ne
          ∙ q) (λ i. o.bits.seen h i e) x;
    };
  }

begun_aims : (o : Option Walk) (aim : Option Aim) (h : ℕ) (g : Walk) → AimsAt aim h → begun o aim ≡ Some g
    → head_of g.watch ≡ h
begun_aims o None h g at e = absurd (cc)
begun_aims None (Some b) h g at e = let w : b.watch ≡ g.watch = grind arith in cc
begun_aims (Some f) (Some b) h g at e = by (same b.watch f.watch && (f.mask == mask_of b.mode)) refl e
  where
    by : (t : Bool) → (same b.watch f.watch && (f.mask == mask_of b.mode)) ≡ t
        → cond t (Some f) (Some (record { watch = b.watch; mask = mask_of b.mode; from = 0 })) ≡ Some g
        → head_of g.watch ≡ h
    by true q r = let w : f.watch ≡ g.watch = grind arith in let sh : head_of b.watch ≡ head_of f.watch =
        same_head b.watch f.watch (grind arith) in let wg : head_of f.watch ≡ head_of g.watch = ap head_of w
        in cc
    by false q r = let w : b.watch ≡ g.watch = grind arith in let wg : head_of b.watch ≡ head_of g.watch =
        ap head_of w in cc

pub of_lock : (holder : ℕ → Bool) (entry : ℕ → Option Entry) (spent : ℕ → ℕ) (words : Words) (v : View)
    (h : ℕ) (aim : Option Aim) (w : ℕ) → OfView holder entry spent words v
    → spent_of w ≡ spent h → AimsAt aim h
    → OfView (put holder h true) entry spent words (after (step.Lock h aim w) v)
of_lock holder entry spent words v h aim w o al at = record {
  hold = record {
    held = λ i e. put_at (λ g. g ≡ true) holder h true i (λ _. refl)
        (λ ne. absurd (ne (let q : h ≡ i = cc in sym q)));
    agrees = λ i x e. tt;
    aimed = λ i g e f. let q : h ≡ i = cc in begun_aims v.walk aim h g at f ∙ q;
    uncleared = λ i e c x. refl;
  };
  rung = λ x e. absurd (cc);
  checks = record {
    found = λ i. put_at (λ m. m ≤ spent i) v.checks.found h (spent_of w) i (λ q. let z : spent i ≡ spent h =
        ap spent q in omega (arith, z, al)) (λ _. o.checks.found i);
    failed = o.checks.failed;
    low = o.checks.low;
    zero_failed = o.checks.zero_failed;
  };
  zero = record {
    low = λ c m e. absurd (cc);
    held = λ c m e. absurd (cc);
    here = λ x c m e. absurd (cc);
    owing = λ c m co e. absurd (cc);
  };
  bits = record { kept = o.bits.kept; seen = λ i x e q. absurd (cc) };
}
