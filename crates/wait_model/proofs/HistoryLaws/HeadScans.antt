-- A look at all member words of a head that finds no bit ends what is owed there, and nothing else.
use Rattle.std.proofs.lemmas.Bool.{both_ways}
use Rattle.std.proofs.Common.{refl, sym, ◌∙◌, ap, subst, arith, inl, inr}
use Rattle.std.proofs.lemmas.List.{append_assoc}
use Rattle.std.specs.Prelude.{ℕ, zero, suc, ◌≡◌, ◌+◌, ◌-◌, ◌<◌, ◌≤◌, ◌⊎◌, Option, Bool, true, false, not}
use Rattle.std.specs.Prelude.{◌&&◌, ◌||◌, ◌==◌, if◌then◌else◌, List, [], ◌∷◌, ◌++◌}
use Rattle.wait_model.specs.{declared.layout.TheConstants.ENTRIES, declared.layout.TheConstants.MEMBER_WORDS}
use Rattle.wait_model.specs.{declared.watches.Watch.Watch, declared.steps.Step.Step, Told.ends_wake}
use Rattle.wait_model.specs.{Walks.finds_off_head, Walks.looks_anew, Owed.Owes}
use Rattle.wait_model.specs.Watches.{head_of, part_of, same}
use Rattle.wait_model.specs.Views.{View, Walk, blank, all_below, all_cleared}
use Rattle.wait_model.specs.Fold.{after, after_all, after_unlock, view_of, scanned}
use Rattle.wait_model.specs.Histories.{Lacks, Since, publishes}
use Rattle.wait_model.specs.Scans.{empty_scans, empty_look, EmptyLooksEnd, FoundBitsEndNothing, WorkedScans}
use Rattle.wait_model.specs.declared.steps.Step.TheVariants as step
use Rattle.wait_model.proofs.{HistoryLaws.PlainReadings.owes_after, HistoryLaws.CalledEntries.off_seen}
use Rattle.wait_model.proofs.{HistoryLaws.HoldBooks.all_cleared_of, StepLaws.PastEntries.all_cleared_not}
use Rattle.wait_model.proofs.StepLaws.UnlockSteps.{unlocked}
use Rattle.wait_model.proofs.HistoryLaws.Stretches.{after_append, lacks_right, append_split}

-- who owes a wake has not found all entries off by a look
abbrev pub IsDue : View → Watch → ℕ → Type 0
IsDue v c σ = v.duty.owes c σ ≡ true → all_cleared (v.duty.cleared c) ≡ false

none_cleared : (f : ℕ → Bool) → f 0 ≡ false → all_cleared f ≡ false
none_cleared f h = all_cleared_not f 0 (omega arith) h

unlock_cleared : (v : View) (o : Option Walk) (sp : Bool) (c : Watch)
    → (after_unlock v o sp).duty.cleared c ≡ v.duty.cleared c
unlock_cleared v o sp c = unlocked (λ u. u.duty.cleared c ≡ v.duty.cleared c) v o sp refl (λ w. refl) (λ w. refl)

-- a step that ends no wake of the watch leaves some entry before the look
due_on : (e : Step) (v : View) (c : Watch) (σ : ℕ) → all_cleared (v.duty.cleared c) ≡ false
    → ends_wake e v c σ ≡ false → all_cleared ((after e v).duty.cleared c) ≡ false
due_on (step.Lock h aim w) v c σ due unended = none_cleared (λ _. false) refl
due_on (step.Peek y w) v c σ due unended = unended
due_on (step.Scan h i w) v c σ due unended = unended
due_on (step.Unlock h sp) v c σ due unended = ap all_cleared (unlock_cleared v v.walk sp c) ∙ due
due_on (step.Publish d n r) v c σ due unended = by (same c d)
  where
    by : (b : Bool) → all_cleared (λ x. not b && v.duty.cleared c x) ≡ false
    by true = none_cleared (λ _. false) refl
    by false = due
due_on e v c σ due unended = due

due_published : (e : Step) (v : View) (c : Watch) → publishes e c ≡ true
    → all_cleared ((after e v).duty.cleared c) ≡ false
due_published (step.Publish d n r) v c is = none_cleared (λ x. not (same c d) && v.duty.cleared c x)
    (by (same c d) (v.duty.cleared c 0) is)
  where
    by : (s o : Bool) → s ≡ true → (not s && o) ≡ false
    by s o h = rw h refl
due_published e v c is = absurd (cc)

due_after : (e : Step) (v : View) (c : Watch) (σ : ℕ) → IsDue v c σ → IsDue (after e v) c σ
due_after e v c σ old owes = by (publishes e c) refl (v.duty.owes c σ) refl (ends_wake e v c σ) refl
    (sym (owes_after e v c σ) ∙ owes)
  where
    by : (p : Bool) → publishes e c ≡ p → (o : Bool) → v.duty.owes c σ ≡ o → (n : Bool) → ends_wake e v c σ ≡ n
        → (publishes e c || (v.duty.owes c σ && not (ends_wake e v c σ))) ≡ true
        → all_cleared ((after e v).duty.cleared c) ≡ false
    by true p o q n r h = due_published e v c p
    by false p true q false r h = due_on e v c σ (old q) r
    by false p true q true r h = absurd (both_ways false refl ((rw (p, q, r) at h)))
    by false p false q n r h = absurd (both_ways false refl ((rw (p, q) at h)))

due_in : (es : List Step) (v : View) (c : Watch) (σ : ℕ) → IsDue v c σ → IsDue (after_all v es) c σ
due_in [] v c σ old = old
due_in (e ∷ es) v c σ old = due_in es (after e v) c σ (due_after e v c σ old)

pub due : (es : List Step) (c : Watch) (σ : ℕ) → IsDue (view_of es) c σ
due es c σ = due_in es blank c σ (λ h. absurd (cc))

-- the entry was found off before, or one of the n loads from word i on finds it off
abbrev FoundOff : View → Watch → ℕ → ℕ → ℕ → Type 0
FoundOff v c x i n = (v.duty.cleared c x ≡ true) ⊎ ((i ≤ part_of x) × (part_of x < i + n))

scan_found : (v : View) (h i n x : ℕ) (c : Watch) → head_of c ≡ h → FoundOff v c x i (suc n)
    → FoundOff (after (step.Scan h i 0) v) c x (suc i) n
scan_found v h i n x c at f = by (head_of c == h) (grind arith) f
  where
    by : (b : Bool) → b ≡ true → FoundOff v c x i (suc n)
        → ((if b then v.duty.cleared c x || (part_of x == i) else v.duty.cleared c x) ≡ true)
        ⊎ ((suc i ≤ part_of x) × (part_of x < suc i + n))
    by true is (inl old) = inl (rw old refl)
    by true is (inr here) = now (part_of x == i) refl
      where
        now : (k : Bool) → (part_of x == i) ≡ k → ((v.duty.cleared c x || (part_of x == i)) ≡ true)
            ⊎ ((suc i ≤ part_of x) × (part_of x < suc i + n))
        now true q = inl (grind arith)
        now false q = inr (grind arith, omega arith)
    by false is f = absurd (cc)

scans_found : (n i : ℕ) (v : View) (h x : ℕ) (c : Watch) → head_of c ≡ h → FoundOff v c x i n
    → (after_all v (empty_scans h i n)).duty.cleared c x ≡ true
scans_found zero i v h x c at (inl old) = old
scans_found zero i v h x c at (inr none) = absurd (omega arith)
scans_found (suc n) i v h x c at f = scans_found n (suc i) (after (step.Scan h i 0) v) h x c at
    (scan_found v h i n x c at f)

part_low : (x : ℕ) → x < ENTRIES → part_of x < MEMBER_WORDS
unfolding part_of
part_low x lt = omega arith

-- who has found all entries off by a look owes nothing
none_owed : (v : View) (c : Watch) (σ : ℕ) → IsDue v c σ → all_cleared (v.duty.cleared c) ≡ true
    → v.duty.owes c σ ≡ false
none_owed v c σ due all = by (v.duty.owes c σ) refl
  where
    by : (b : Bool) → v.duty.owes c σ ≡ b → b ≡ false
    by false q = refl
    by true q = absurd (let some : all_cleared (v.duty.cleared c) ≡ false = due q in cc)

looked_here : (v : View) (h : ℕ) (c : Watch) (σ : ℕ) → head_of c ≡ h → IsDue v c σ
    → (after_all v (empty_look h)).duty.owes c σ ≡ false
looked_here v h c σ at old = none_owed (after_all v (empty_look h)) c σ (due_in (empty_look h) v c σ old)
    (all_cleared_of ((after_all v (empty_look h)).duty.cleared c)
    (λ x lt. scans_found MEMBER_WORDS 0 v h x c at (inr (omega arith, part_low x lt))))

-- a step that passes a test stands before those at the end of a list that do not
record StandsBefore (es after before : List Step) (it : Step) (later : List Step) : Type 0 where
  between : List Step
  front : es ≡ before ++ it ∷ between
  back : later ≡ between ++ after

stands_before : (test : Step → Bool) (es after before : List Step) (it : Step) (later : List Step)
    → es ++ after ≡ before ++ it ∷ later → test it ≡ true → Lacks test after → StandsBefore es after before it later
stands_before test [] after before it later eq is none =
    absurd (let no = lacks_right test before (it ∷ later) (subst (Lacks test) eq none)
    in let not : test it ≡ false = no.0 in cc)
stands_before test (e ∷ es) after [] it later eq is none = record {
  between = es;
  front = let same : e ≡ it = cc in cc;
  back = let rest : es ++ after ≡ later = cc in sym rest;
}
stands_before test (e ∷ es) after (b ∷ before) it later eq is none =
    let rest : es ++ after ≡ before ++ it ∷ later = cc in
    let r = stands_before test es after before it later rest is none in record {
      between = r.between;
      front = let same : e ≡ b = cc in let rest : es ≡ before ++ it ∷ r.between = r.front in cc;
      back = r.back;
    }

scans_publish_none : (n i h : ℕ) (c : Watch) → Lacks (λ e. publishes e c) (empty_scans h i n)
scans_publish_none zero i h c = tt
scans_publish_none (suc n) i h c = (refl, scans_publish_none n (suc i) h c)

-- by the plain reading: the last of the loads ends the wake
unowed : (es : List Step) (h : ℕ) (c : Watch) (σ : ℕ) → head_of c ≡ h → Owes (es ++ empty_look h) c σ → ⊥
unowed es h c σ at o =
    let b = stands_before (λ e. publishes e c) es (empty_look h) o.before o.publish o.later o.split o.is_publish
    (scans_publish_none MEMBER_WORDS 0 h c) in
    let first : List Step = empty_scans h 0 (MEMBER_WORDS - 1) in
    let last : Step = step.Scan h (MEMBER_WORDS - 1) 0 in
    let back : o.later ≡ (b.between ++ first) ++ last ∷ [] =
    b.back ∙ sym (append_assoc b.between first (last ∷ [])) in
    let all : es ++ empty_look h ≡ (o.before ++ o.publish ∷ (b.between ++ first)) ++ last ∷ [] = o.split
    ∙ ap (λ (t : List Step). o.before ++ o.publish ∷ t) back
    ∙ sym (append_split o.before o.publish (b.between ++ first) last []) in
    o.unended (b.between ++ first) last [] back
    (λ x lt. subst (Since (finds_off_head c x) (looks_anew c)) all
    (off_seen (es ++ empty_look h) c x (ap (λ (v : View). v.duty.cleared c x) (after_append blank es (empty_look h))
    ∙ scans_found MEMBER_WORDS 0 (view_of es) h x c at (inr (omega arith, part_low x lt)))))

-- a load at another head
scanned_elsewhere : (cl : Watch → ℕ → Bool) (h i w : ℕ) (c : Watch) → (head_of c == h) ≡ false
    → scanned cl h i w c ≡ cl c
scanned_elsewhere cl h i w c away =
    ap {B = ℕ → Bool} (λ (b : Bool) (y : ℕ). if b then (if w == 0 then cl c y || (part_of y == i) else false)
    else cl c y) away

owed_still : (o a : Bool) → (o ≡ true → a ≡ false) → (o && not a) ≡ o
owed_still true a k = rw (k refl) refl
owed_still false a k = refl

scan_elsewhere : (v : View) (h i w : ℕ) (c : Watch) (σ : ℕ) → (head_of c == h) ≡ false → IsDue v c σ
    → (after (step.Scan h i w) v).duty.owes c σ ≡ v.duty.owes c σ
scan_elsewhere v h i w c σ away d = owed_still (v.duty.owes c σ) (all_cleared (scanned v.duty.cleared h i w c))
    (λ owes. ap all_cleared (scanned_elsewhere v.duty.cleared h i w c away) ∙ d owes)

scans_elsewhere : (n i : ℕ) (v : View) (h : ℕ) (c : Watch) (σ : ℕ) → (head_of c == h) ≡ false → IsDue v c σ
    → (after_all v (empty_scans h i n)).duty.owes c σ ≡ v.duty.owes c σ
scans_elsewhere zero i v h c σ away d = refl
scans_elsewhere (suc n) i v h c σ away d = scans_elsewhere n (suc i) (after (step.Scan h i 0) v) h c σ away
    (due_after (step.Scan h i 0) v c σ d) ∙ scan_elsewhere v h i 0 c σ away d

pub empty_looks_end : EmptyLooksEnd
empty_looks_end es h = record {
  unowed = unowed es h;
  here = λ c σ at. at_end (λ v. v.duty.owes c σ ≡ false) (looked_here (view_of es) h c σ at (due es c σ));
  elsewhere = λ c σ away. at_end (λ v. v.duty.owes c σ ≡ (view_of es).duty.owes c σ)
      (scans_elsewhere MEMBER_WORDS 0 (view_of es) h c σ (grind arith) (due es c σ));
}
  where
    at_end : (P : View → Type 0) → P (after_all (view_of es) (empty_look h)) → P (view_of (es ++ empty_look h))
    at_end P = subst P (sym (after_append blank es (empty_look h)))

pub found_bits_end_nothing : FoundBitsEndNothing
found_bits_end_nothing es h i w some = record {
  owing = λ c σ. at_end (λ v. v.duty.owes c σ ≡ (view_of es).duty.owes c σ) (keeps c σ (head_of c == h) refl);
  anew = λ c x at. at_end (λ v. v.duty.cleared c x ≡ false)
      (let on : (head_of c == h) ≡ true = grind arith in rw (on, none) refl);
}
  where
    at_end : (P : View → Type 0) → P (after (step.Scan h i w) (view_of es)) → P (view_of (es ++ step.Scan h i w ∷ []))
    at_end P = subst P (sym (after_append blank es (step.Scan h i w ∷ [])))

    none : (w == 0) ≡ false
    none = grind arith

    keeps : (c : Watch) (σ : ℕ) (b : Bool) → (head_of c == h) ≡ b
        → (after (step.Scan h i w) (view_of es)).duty.owes c σ ≡ (view_of es).duty.owes c σ
    keeps c σ true at = owed_still ((view_of es).duty.owes c σ)
        (all_cleared (scanned (view_of es).duty.cleared h i w c))
        (λ _. none_cleared (scanned (view_of es).duty.cleared h i w c) (rw (at, none) refl))
    keeps c σ false away = scan_elsewhere (view_of es) h i w c σ away (due es c σ)

pub worked_scans : WorkedScans
unfolding all_cleared all_below part_of head_of
worked_scans = record {
  set = refl;
  looked = refl;
  other_head = refl;
  left_out = refl;
  found = refl;
  found_last = refl;
  looked_again = refl;
  set_between = refl;
}
