-- While a task holds the head of a completion, its done count stays as the hold loaded or stored it last.
use Rattle.std.proofs.Common.{refl, sym, ◌∙◌, ap, inl, inr}
use Rattle.std.proofs.lemmas.Bool.Decides.{eqb_tells}
use Rattle.std.specs.Prelude.{ℕ, ◌≡◌, ◌≢◌, ◌⊎◌, Bool, true, false, ◌||◌, ◌==◌, if◌then◌else◌, Option, Some, None, List}
use Rattle.std.specs.Prelude.{[], ◌∷◌, ◌++◌}
use Rattle.wait_model.specs.{declared.watches.Watch.Watch, declared.steps.Step.Step, Functions.put, Watches.head_of}
use Rattle.wait_model.specs.{Fold.after, Fold.after_unlock}
use Rattle.wait_model.specs.Views.{View as Told, Walk, all_passed}
use Rattle.wait_model.specs.Tables.{Table, next, word_step}
use Rattle.wait_model.specs.Rows.{Allowed, Reads, MayPublish, MayConsume}
use Rattle.wait_model.specs.declared.watches.Watch.TheVariants as watch
use Rattle.wait_model.specs.declared.steps.Step.TheVariants as step
use Rattle.wait_model.proofs.Functions.{put_case, put_same, put_other}
use Rattle.wait_rule.specs.HeldValues.{value_after, value_from, count_in, CountsStand}

pub value_snoc : (c : Watch) (o : Option ℕ) (es : List Step) (e : Step)
    → value_from c o (es ++ e ∷ []) ≡ value_after c e (value_from c o es)
value_snoc c o [] e = refl
value_snoc c o (x ∷ es) e = value_snoc c (value_after c x o) es e

-- A step that stores no done count in the way of a hold: where another task holds the head, its count stays.
abbrev OneHolder : Table → Type 0
OneHolder s = (x y h : ℕ) → (s.view x).hold.head ≡ Some h → (s.view y).hold.head ≡ Some h → x ≡ y

-- what a step of a task leaves of a count whose head another task holds
abbrev LeavesOthers : Table → ℕ → Step → Type 0
LeavesOthers s a e = (b d : ℕ) → b ≢ a → (s.view b).hold.head ≡ Some (head_of (watch.Done d))
    → (word_step s a e).words.dones d ≡ s.words.dones d

-- and of one whose head it holds then itself
abbrev LeavesOwn : Table → ℕ → Step → Type 0
LeavesOwn s a e = (d n : ℕ) → (after e (s.view a)).hold.head ≡ Some (head_of (watch.Done d))
    → value_after (watch.Done d) e (count_in d (s.history a)) ≡ Some n → (word_step s a e).words.dones d ≡ n

stand_next : (s : Table) (a : ℕ) (e : Step) → LeavesOthers s a e → LeavesOwn s a e → CountsStand s
    → CountsStand (next s a e)
stand_next s a e others own r b d n held counts = by (put_case s.view a (after e (s.view a)) b)
    (put_case s.history a (s.history a ++ e ∷ []) b)
  where
    by : ((b ≡ a) × (put s.view a (after e (s.view a)) b ≡ after e (s.view a)))
        ⊎ ((b ≢ a) × (put s.view a (after e (s.view a)) b ≡ s.view b))
        → ((b ≡ a) × (put s.history a (s.history a ++ e ∷ []) b ≡ s.history a ++ e ∷ []))
        ⊎ ((b ≢ a) × (put s.history a (s.history a ++ e ∷ []) b ≡ s.history b))
        → (word_step s a e).words.dones d ≡ n
    by (inl p) (inl q) = own d n (sym (ap (λ (v : Told). v.hold.head) p.1) ∙ held)
        (sym (value_snoc (watch.Done d) None (s.history a) e) ∙ (sym (ap (count_in d) q.1) ∙ counts))
    by (inl p) (inr q) = absurd (q.0 p.0)
    by (inr p) (inl q) = absurd (p.0 q.0)
    by (inr p) (inr q) =
        let was = sym (ap (λ (v : Told). v.hold.head) p.1) ∙ held in
        others b d p.0 was ∙ r b d n was (sym (ap (count_in d) q.1) ∙ counts)

-- a step that stores no count and tells of none
quiet_stand : (s : Table) (a : ℕ) (e : Step) → (word_step s a e).words.dones ≡ s.words.dones
    → ((v : Told) → (after e v).hold.head ≡ v.hold.head)
    → ((d : ℕ) (o : Option ℕ) → value_after (watch.Done d) e o ≡ o) → CountsStand s → CountsStand (next s a e)
quiet_stand s a e words head value r = stand_next s a e (λ b d ne held. ap (λ (f : ℕ → ℕ). f d) words)
    (λ d n held counts. ap (λ (f : ℕ → ℕ). f d) words
    ∙ r a d n (sym (head (s.view a)) ∙ held) (sym (value d (count_in d (s.history a))) ∙ counts)) r

none_is : {A : Type 0} (n : ℕ) → ◌≡◌ {A = Option ℕ} None (Some n) → A
none_is n e = absurd (cc)

some_is : (n m : ℕ) → ◌≡◌ {A = Option ℕ} (Some n) (Some m) → n ≡ m
some_is n m e = cc

-- a lock begins a hold that has loaded nothing, and after an unlock no head is held
unlocked_head : (v : Told) (o : Option Walk) (spent : Bool) → (after_unlock v o spent).hold.head ≡ None
unlocked_head v None spent = refl
unlocked_head v (Some w) spent = by (spent || all_passed v w (λ _. false)) _ _ refl refl
  where
    by : (b : Bool) (y z : Told) → y.hold.head ≡ None → z.hold.head ≡ None → (if b then y else z).hold.head ≡ None
    by true y z one two = one
    by false y z one two = two

-- a load of a watch
load_own : (s : Table) (a : ℕ) (l : Watch) (r : ℕ) → Reads s.words l r → CountsStand s → LeavesOwn s a (step.Load l r)
load_own s a (watch.Done c) r reads stand d n held counts = by (eqb_tells c d)
  where
    by : (((c == d) ≡ true) × (c ≡ d)) ⊎ (((c == d) ≡ false) × (c ≢ d)) → s.words.dones d ≡ n
    by (inl q) = ap s.words.dones (sym q.1) ∙ (sym reads ∙ some_is r n
        (sym (ap (λ (b : Bool). if b then Some r else count_in d (s.history a)) q.0) ∙ counts))
    by (inr q) = stand a d n held
        (sym (ap (λ (b : Bool). if b then Some r else count_in d (s.history a)) q.0) ∙ counts)
load_own s a _ r reads stand d n held counts = stand a d n held counts

-- a store of a done count in a hold of its head
module _ (s : Table) (a c n : ℕ) (held : (s.view a).hold.head ≡ Some (head_of (watch.Done c))) (one : OneHolder s)
    (stand : CountsStand s) where
  stored_others : (b d : ℕ) → b ≢ a → (s.view b).hold.head ≡ Some (head_of (watch.Done d))
      → put s.words.dones c n d ≡ s.words.dones d
  stored_others b d ne there = put_other s.words.dones c n d
      (λ is. ne (one b a (head_of (watch.Done c))
      (there ∙ ap (λ (i : ℕ). Some (head_of (watch.Done i))) is) held))

  stored_own : (d m : ℕ) → (s.view a).hold.head ≡ Some (head_of (watch.Done d))
      → (if c == d then Some n else count_in d (s.history a)) ≡ Some m → put s.words.dones c n d ≡ m
  stored_own d m there counts = by (eqb_tells c d)
    where
      by : (((c == d) ≡ true) × (c ≡ d)) ⊎ (((c == d) ≡ false) × (c ≢ d)) → put s.words.dones c n d ≡ m
      by (inl q) = ap (put s.words.dones c n) (sym q.1) ∙ (put_same s.words.dones c n ∙ some_is n m
          (sym (ap (λ (b : Bool). if b then Some n else count_in d (s.history a)) q.0) ∙ counts))
      by (inr q) = put_other s.words.dones c n d (λ is. q.1 (sym is)) ∙ stand a d m there
          (sym (ap (λ (b : Bool). if b then Some n else count_in d (s.history a)) q.0) ∙ counts)

publish_stand : (s : Table) (a : ℕ) (c : Watch) (n r : ℕ) → MayPublish (s.view a) c → OneHolder s → CountsStand s
    → CountsStand (next s a (step.Publish c n r))
publish_stand s a (watch.Done c) n r may one stand = stand_next s a (step.Publish (watch.Done c) n r)
    (stored_others s a c n may one stand) (stored_own s a c n may one stand) stand
publish_stand s a c n r may one stand = quiet_stand s a (step.Publish c n r) refl (λ v. refl) (λ d o. refl) stand

consume_stand : (s : Table) (a : ℕ) (c : Watch) (n r : ℕ) → MayConsume (s.view a) c → OneHolder s → CountsStand s
    → CountsStand (next s a (step.Consume c n r))
consume_stand s a (watch.Done c) n r may one stand = stand_next s a (step.Consume (watch.Done c) n r)
    (stored_others s a c n may one stand) (stored_own s a c n may one stand) stand
consume_stand s a c n r may one stand = quiet_stand s a (step.Consume c n r) refl (λ v. refl) (λ d o. refl) stand

pub counts_next : (s : Table) (a : ℕ) (e : Step) → Allowed s a e → OneHolder s → CountsStand s
    → CountsStand (next s a e)
counts_next s a (step.Lock h aim w) al one r = stand_next s a (step.Lock h aim w) (λ b d ne held. refl)
    (λ d n held counts. none_is n counts) r
counts_next s a (step.Unlock h spent) al one r = stand_next s a (step.Unlock h spent) (λ b d ne held. refl)
    (λ d n held counts. none_is (head_of (watch.Done d))
    (sym (unlocked_head (s.view a) (s.view a).walk spent) ∙ held)) r
counts_next s a (step.Load l w) al one r = stand_next s a (step.Load l w) (λ b d ne held. refl)
    (load_own s a l w al r) r
counts_next s a (step.Publish c n w) al one r = publish_stand s a c n w al.0 one r
counts_next s a (step.Consume c n w) al one r = consume_stand s a c n w al.1 one r
counts_next s a (step.State σ) al one r = quiet_stand s a (step.State σ) refl (λ v. refl) (λ d o. refl) r
counts_next s a (step.Sleep w) al one r = quiet_stand s a (step.Sleep w) refl (λ v. refl) (λ d o. refl) r
counts_next s a (step.Wake who mask w) al one r = quiet_stand s a (step.Wake who mask w) refl (λ v. refl)
    (λ d o. refl) r
counts_next s a (step.Signal who fatal w) al one r = quiet_stand s a (step.Signal who fatal w) refl (λ v. refl)
    (λ d o. refl) r
counts_next s a (step.Accept w) al one r = quiet_stand s a (step.Accept w) refl (λ v. refl) (λ d o. refl) r
counts_next s a (step.Look w) al one r = quiet_stand s a (step.Look w) refl (λ v. refl) (λ d o. refl) r
counts_next s a (step.Saw x w) al one r = quiet_stand s a (step.Saw x w) refl (λ v. refl) (λ d o. refl) r
counts_next s a (step.Peek x w) al one r = quiet_stand s a (step.Peek x w) refl (λ v. refl) (λ d o. refl) r
counts_next s a (step.Scan h i w) al one r = quiet_stand s a (step.Scan h i w) refl (λ v. refl) (λ d o. refl) r
counts_next s a (step.Queue x e) al one r = quiet_stand s a (step.Queue x e) refl (λ v. refl) (λ d o. refl) r
counts_next s a (step.Unqueue x) al one r = quiet_stand s a (step.Unqueue x) refl (λ v. refl) (λ d o. refl) r
counts_next s a (step.Mark h q) al one r = quiet_stand s a (step.Mark h q) refl (λ v. refl) (λ d o. refl) r
counts_next s a step.Unmark al one r = quiet_stand s a step.Unmark refl (λ v. refl) (λ d o. refl) r
counts_next s a (step.Woken x) al one r = quiet_stand s a (step.Woken x) refl (λ v. refl) (λ d o. refl) r
counts_next s a (step.Unflag x o) al one r = quiet_stand s a (step.Unflag x o) refl (λ v. refl) (λ d p. refl) r
counts_next s a (step.Flag x w) al one r = quiet_stand s a (step.Flag x w) refl (λ v. refl) (λ d o. refl) r
counts_next s a (step.TasFor x p w) al one r = quiet_stand s a (step.TasFor x p w) refl (λ v. refl) (λ d o. refl) r
counts_next s a (step.Handed x) al one r = quiet_stand s a (step.Handed x) refl (λ v. refl) (λ d o. refl) r
