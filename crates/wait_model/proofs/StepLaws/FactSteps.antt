-- The facts, step by step.
use Rattle.std.proofs.Common.{refl, sym, ◌∙◌, ap, subst, arith, inl, inr}
use Rattle.std.specs.Prelude.{ℕ, ◌≡◌, ◌≢◌, ◌<◌, ◌≤◌, Option, Some, None, Bool, true, false, not, ◌&&◌, ◌||◌}
use Rattle.std.specs.Prelude.{if◌then◌else◌}
use Rattle.wait_model.specs.{declared.layout.TheConstants.ENTRIES, declared.watches.Watch.Watch}
use Rattle.wait_model.specs.{declared.watches.Entry.Entry, declared.watches.Aim.Aim, declared.steps.Step.Step}
use Rattle.wait_model.specs.Functions.{put}
use Rattle.wait_model.specs.Facts.{Agrees, OfView, Facts, BitFacts}
use Rattle.wait_model.specs.Views.{Look, unseen, off, elsewhere, shown, Walk, Hold, View, no_hold, concerns, all_passed}
use Rattle.wait_model.specs.Fold.{paused, after_unlock, after}
use Rattle.wait_model.specs.Watches.{same, head_of, is_done, is_bit, page}
use Rattle.wait_model.specs.Tables.{Words, Table, met, publish, consume, raised_spent, next}
use Rattle.wait_model.specs.Rows.{Lowers, Suits, MayPublish, Allowed}
use Rattle.wait_model.proofs.{StepLaws.UnlockSteps.unlock_hold, StepLaws.UnlockSteps.spent_rises, Functions.put_at}
use Rattle.wait_model.proofs.StepLaws.OwnViews.{of_unlocked, of_publish, unmet_stays, of_consume, of_tas_for, of_queue}
use Rattle.wait_model.proofs.StepLaws.OwnViews.{of_unqueue, of_lock}
use Rattle.wait_model.proofs.Sameness.{same_head, publish_other, consume_sets_none, same_bit_is}
use Rattle.wait_model.proofs.StepLaws.OtherViews.{other_holder, other_entry, other_words, apart, one_holder_from}
use Rattle.wait_model.proofs.StepLaws.OtherViews.{all_views}
use Rattle.wait_model.specs.declared.watches.Watch.TheVariants as watch
use Rattle.wait_model.specs.declared.steps.Step.TheVariants as step

-- a step that changes nothing that the facts speak of but the own view
pub quiet_facts : (s : Table) (a : ℕ) (ev : Step) → Facts s → ((next s a ev).entry ≡ s.entry)
    → ((next s a ev).holder ≡ s.holder) → ((next s a ev).spent ≡ s.spent) → ((next s a ev).words ≡ s.words)
    → (after ev (s.view a)).hold.head ≡ (s.view a).hold.head
    → OfView s.holder s.entry s.spent s.words (after ev (s.view a)) → Facts (next s a ev)
quiet_facts s a ev k entry holder spent words same_hold own = record {
  one_holder = one_holder_from s a (after ev (s.view a)) (λ h e. inl (sym same_hold ∙ e)) k;
  views = λ b. subst (λ (w : Words). OfView (next s a ev).holder (next s a ev).entry (next s a ev).spent w
      (put s.view a (after ev (s.view a)) b)) (sym words)
      (subst (λ (n : ℕ → ℕ). OfView (next s a ev).holder (next s a ev).entry n s.words
      (put s.view a (after ev (s.view a)) b)) (sym spent)
      (subst (λ (f : ℕ → Option Entry). OfView (next s a ev).holder f s.spent s.words
      (put s.view a (after ev (s.view a)) b)) (sym entry)
      (subst (λ (g : ℕ → Bool). OfView g s.entry s.spent s.words (put s.view a (after ev (s.view a)) b))
      (sym holder)
      (all_views s a (after ev (s.view a)) s.holder s.entry s.spent s.words own (λ c _. k.views c) b))));
  named = subst (λ (f : ℕ → Option Entry). (x : ℕ) (e : Entry) → f x ≡ Some e → x < ENTRIES) (sym entry) k.named;
  suits = subst (λ (f : ℕ → Option Entry). (x : ℕ) (e : Entry) → f x ≡ Some e → Suits e) (sym entry) k.suits;
}

pub lock_facts : (s : Table) (a h : ℕ) (aim : Option Aim) (w : ℕ) → Facts s → Allowed s a (step.Lock h aim w)
    → Facts (next s a (step.Lock h aim w))
lock_facts s a h aim w k al = record {
  one_holder = one_holder_from s a (after (step.Lock h aim w) (s.view a))
      (λ i e. inr (subst (λ (j : ℕ). s.holder j ≡ false) (let q : h ≡ i = cc in q) al.0)) k;
  named = k.named;
  suits = k.suits;
  views = all_views s a (after (step.Lock h aim w) (s.view a)) (put s.holder h true) s.entry s.spent s.words
      (of_lock s.holder s.entry s.spent s.words (s.view a) h aim w (k.views a) al.2 al.3)
      (λ b ne. other_holder s.holder (put s.holder h true) s.entry s.spent s.spent s.words (s.view b)
      (k.views b)
      (λ i e. put_at (λ g. g ≡ s.holder i) s.holder h true i
      (λ q. absurd (let x : s.holder i ≡ true = (k.views b).hold.held i e
      in let y : s.holder i ≡ s.holder h = ap s.holder q in cc (al.0))) (λ _. refl)) (λ i. omega arith));
}

spent_grows : (sp : Bool) (f : ℕ → ℕ) (h i : ℕ) → f i ≤ put f h (raised_spent sp (f h)) i
spent_grows sp f h i = put_at (λ m. f i ≤ m) f h (raised_spent sp (f h)) i
    (λ e. subst (λ (j : ℕ). f j ≤ raised_spent sp (f h)) (sym e) (spent_rises sp (f h))) (λ _. omega arith)

of_unlock : (s : Table) (a h : ℕ) (sp : Bool) (o : Option Walk) → Facts s
    → OfView (put s.holder h false) s.entry (put s.spent h (raised_spent sp (s.spent h))) s.words
    (after_unlock (s.view a) o sp)
of_unlock s a h sp None k = of_unlocked s.holder s.entry s.spent s.words (s.view a) (k.views a) h
    (put s.holder h false) (put s.spent h (raised_spent sp (s.spent h))) (s.view a).duty.owes None
    (spent_grows sp s.spent h)
of_unlock s a h sp (Some w) k = by (sp || all_passed (s.view a) w (λ _. false))
  where
    with_it : (owes : Watch → ℕ → Bool) (walk : Option Walk)
        → OfView (put s.holder h false) s.entry (put s.spent h (raised_spent sp (s.spent h))) s.words
        (record (s.view a) { hold = no_hold; walk = walk; duty = record ((s.view a).duty) { owes = owes } })
    with_it owes walk = of_unlocked s.holder s.entry s.spent s.words (s.view a) (k.views a) h
        (put s.holder h false) (put s.spent h (raised_spent sp (s.spent h))) owes walk
        (spent_grows sp s.spent h)

    by : (b : Bool) → OfView (put s.holder h false) s.entry (put s.spent h (raised_spent sp (s.spent h)))
        s.words
        (if b then record (s.view a) {
          hold = no_hold;
          walk = None;
          duty = record ((s.view a).duty) {
            owes = λ c σ. (s.view a).duty.owes c σ
                && not (concerns w c σ);
          };
        }
        else record (s.view a) { hold = no_hold; walk = paused (s.view a) w (s.view a).mark })
    by true = with_it (λ c σ. (s.view a).duty.owes c σ && not (concerns w c σ)) None
    by false = with_it (s.view a).duty.owes (paused (s.view a) w (s.view a).mark)

pub unlock_facts : (s : Table) (a h : ℕ) (sp : Bool) → Facts s → (s.view a).hold.head ≡ Some h
    → Facts (next s a (step.Unlock h sp))
unlock_facts s a h sp k al = record {
  one_holder = one_holder_from s a (after (step.Unlock h sp) (s.view a))
      (λ i e. absurd (let z : (after_unlock (s.view a) (s.view a).walk sp).hold.head ≡ None =
      ap (λ (k : Hold). k.head) (unlock_hold (s.view a) (s.view a).walk sp) in cc)) k;
  named = k.named;
  suits = k.suits;
  views = all_views s a (after (step.Unlock h sp) (s.view a)) (put s.holder h false) s.entry
      (put s.spent h (raised_spent sp (s.spent h))) s.words
      (of_unlock s a h sp (s.view a).walk k)
      (λ b ne. other_holder s.holder (put s.holder h false) s.entry s.spent
      (put s.spent h (raised_spent sp (s.spent h))) s.words (s.view b) (k.views b)
      (λ i e. put_at (λ g. g ≡ s.holder i) s.holder h false i (λ q. absurd (apart s a b h i k ne al e q))
      (λ _. refl)) (spent_grows sp s.spent h));
}

pub queued_agrees : (l : Look) (h : ℕ) (d : Entry) (o : Option Entry) → o ≡ None → head_of d.watch ≢ h
    → Agrees h l o → Agrees h l (Some d)
queued_agrees unseen h d o none ne ag = tt
queued_agrees off h d o none ne ag = λ c i. let same_entry : d ≡ c = cc
    in subst (λ (g : Entry). head_of g.watch ≢ h) same_entry ne
queued_agrees elsewhere h d o none ne ag = λ c i. let same_entry : d ≡ c = cc
    in subst (λ (g : Entry). head_of g.watch ≢ h) same_entry ne
queued_agrees (shown e) h d o none ne ag = absurd (cc (ag.0))

pub unqueued_agrees : (l : Look) (h : ℕ) (d : Entry) (o : Option Entry) → o ≡ Some d → head_of d.watch ≢ h
    → Agrees h l o → Agrees h l None
unqueued_agrees unseen h d o is ne ag = tt
unqueued_agrees off h d o is ne ag = λ c i. absurd (cc)
unqueued_agrees elsewhere h d o is ne ag = λ c i. absurd (cc)
unqueued_agrees (shown e) h d o is ne ag = let same_entry : d ≡ e = cc (ag.0)
    in absurd (subst (λ (g : Entry). head_of g.watch ≢ h) same_entry ne ag.1)

pub queue_facts : (s : Table) (a y : ℕ) (d : Entry) → Facts s → Allowed s a (step.Queue y d)
    → Facts (next s a (step.Queue y d))
queue_facts s a y d k al = record {
  one_holder = one_holder_from s a (after (step.Queue y d) (s.view a)) (λ h e. inl e) k;
  named = λ x e. put_at (λ (o : Option Entry). o ≡ Some e → x < ENTRIES) s.entry y (Some d) x
      (λ q _. subst (λ (j : ℕ). j < ENTRIES) (sym q) al.1) (λ _. k.named x e);
  suits = λ x e. put_at (λ (o : Option Entry). o ≡ Some e → Suits e) s.entry y (Some d) x
      (λ q i. subst (λ (g : Entry). Suits g) (let de : d ≡ e = cc in de) al.4) (λ _. k.suits x e);
  views = all_views s a (after (step.Queue y d) (s.view a)) s.holder (put s.entry y (Some d)) s.spent s.words
      (of_queue s.holder s.entry s.spent s.words (s.view a) (k.views a) y d al.3)
      (λ b ne. other_entry s.holder s.entry (put s.entry y (Some d)) s.spent s.words (s.view b) (k.views b)
      (λ i x e old. put_at (λ o. Agrees i ((s.view b).hold.book x) o) s.entry y (Some d) x
      (λ q. queued_agrees ((s.view b).hold.book x) i d (s.entry x)
      (subst (λ (j : ℕ). s.entry j ≡ None) (sym q) al.2) (λ r. apart s a b (head_of d.watch) i k ne al.3 e
      (sym r)) old) (λ _. old)));
}

pub unqueue_facts : (s : Table) (a y : ℕ) → Facts s → Allowed s a (step.Unqueue y)
    → Facts (next s a (step.Unqueue y))
unqueue_facts s a y k al = record {
  one_holder = one_holder_from s a (after (step.Unqueue y) (s.view a)) (λ h e. inl e) k;
  named = λ x e. put_at (λ (o : Option Entry). o ≡ Some e → x < ENTRIES) s.entry y None x (λ _ i. absurd (cc))
      (λ _. k.named x e);
  suits = λ x e. put_at (λ (o : Option Entry). o ≡ Some e → Suits e) s.entry y None x (λ _ i. absurd (cc))
      (λ _. k.suits x e);
  views = all_views s a (after (step.Unqueue y) (s.view a)) s.holder (put s.entry y None) s.spent s.words
      (of_unqueue s.holder s.entry s.spent s.words (s.view a) (k.views a) y)
      (λ b ne. other_entry s.holder s.entry (put s.entry y None) s.spent s.words (s.view b) (k.views b)
      (λ i x e old. put_at (λ o. Agrees i ((s.view b).hold.book x) o) s.entry y None x
      (λ q. unqueued_agrees ((s.view b).hold.book x) i al.0 (s.entry x)
      (subst (λ (j : ℕ). s.entry j ≡ Some al.0) (sym q) al.1)
      (λ r. apart s a b (head_of al.0.watch) i k ne al.2 e (sym r)) old) (λ _. old)));
}

-- a done word that changes is one whose head the stepping task holds
pub done_of : (c d : Watch) → is_done d ≡ true → same d c ≡ true → is_done c ≡ true
done_of (watch.Done c) (watch.Done d) i h = refl
done_of (watch.Plain c) (watch.Done d) i h = absurd (cc)
done_of (watch.Bit w b) (watch.Done d) i h = absurd (cc)
done_of (watch.Var v o) (watch.Done d) i h = absurd (cc)
done_of c (watch.Plain d) i h = absurd (cc)
done_of c (watch.Bit w b) i h = absurd (cc)
done_of c (watch.Var v o) i h = absurd (cc)

pub publish_held : (v : View) (c : Watch) → is_done c ≡ true → MayPublish v c → v.hold.head ≡ Some (head_of c)
publish_held v (watch.Done d) i al = al
publish_held v _ i al = absurd (cc)

pub publish_facts : (s : Table) (a : ℕ) (c : Watch) (n r : ℕ) → Facts s → BitFacts s
    → Allowed s a (step.Publish c n r) → Facts (next s a (step.Publish c n r))
publish_facts s a c n r k bits al = record {
  one_holder = one_holder_from s a (after (step.Publish c n r) (s.view a)) (λ h e. inl e) k;
  named = k.named;
  suits = k.suits;
  views = all_views s a (after (step.Publish c n r) (s.view a)) s.holder s.entry s.spent (publish s.words c n)
      (of_publish s.holder s.entry s.spent s.words (s.view a) (k.views a) c n r)
      (λ b ne. other_words s.holder s.entry s.spent s.words (publish s.words c n) (s.view b) (k.views b)
      (λ d co e is. go b ne d co e is (same d c) refl)
      (λ d i q old. stay b ne d i q old (same d c) refl));
}
  where
    go : (b : ℕ) → b ≢ a → (d : Watch) → is_done d ≡ true → (s.view b).hold.head ≡ Some (head_of d)
        → met (publish s.words c n) d ≡ true → (t : Bool) → same d c ≡ t → met s.words d ≡ true
    go b ne d co e is true q =
        absurd (apart s a b (head_of c) (head_of d) k ne (publish_held (s.view a) c (done_of c d co q) al.0) e
        (same_head d c q))
    go b ne d co e is false q = sym (publish_other s.words d c n q) ∙ is

    stay : (b : ℕ) → b ≢ a → (d : Watch) → is_bit d ≡ true → (s.view b).bits.keeps d ≡ true
        → met s.words d ≡ false → (t : Bool) → same d c ≡ t → met (publish s.words c n) d ≡ false
    stay b ne d i q old true r = let dc : d ≡ c = same_bit_is d c i r in let bc : is_bit c ≡ true =
        subst (λ (g : Watch). is_bit g ≡ true) dc i in
        absurd (ne (bits.one_keeper b a c bc (subst (λ (g : Watch). (s.view b).bits.keeps g ≡ true) dc q)
        (al.1 bc).1))
    stay b ne d i q old false r = publish_other s.words d c n r ∙ old

pub consume_facts : (s : Table) (a : ℕ) (c : Watch) (n r : ℕ) → Facts s → Lowers s.words c n
    → Facts (next s a (step.Consume c n r))
consume_facts s a c n r k al = record {
  one_holder = one_holder_from s a (after (step.Consume c n r) (s.view a)) (λ h e. inl e) k;
  named = k.named;
  suits = k.suits;
  views = all_views s a (after (step.Consume c n r) (s.view a)) s.holder s.entry s.spent (consume s.words c n)
      (of_consume s.holder s.entry s.spent s.words (s.view a) (k.views a) c n r al)
      (λ b _. other_words s.holder s.entry s.spent s.words (consume s.words c n) (s.view b) (k.views b)
      (λ d co e is. consume_sets_none s.words d c n al is)
      (λ d i q old. unmet_stays s.holder s.entry s.spent s.words (s.view b) (k.views b) c d n al old));
}

pub tas_for_facts : (s : Table) (a y p r : ℕ) → Facts s → Facts (next s a (step.TasFor y p r))
tas_for_facts s a y p r k = record {
  one_holder = one_holder_from s a (after (step.TasFor y p r) (s.view a)) (λ h e. inl e) k;
  named = k.named;
  suits = k.suits;
  views = all_views s a (after (step.TasFor y p r) (s.view a)) s.holder s.entry s.spent (consume s.words (page p) 1)
      (of_tas_for s.holder s.entry s.spent s.words (s.view a) (k.views a) y p r)
      (λ b _. other_words s.holder s.entry s.spent s.words (consume s.words (page p) 1) (s.view b) (k.views b)
      (λ d co e is. consume_sets_none s.words d (page p) 1 tt is)
      (λ d i q old. unmet_stays s.holder s.entry s.spent s.words (s.view b) (k.views b) (page p) d 1 tt old));
}
