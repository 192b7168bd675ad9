-- Steps that take and give back no bit.
use Rattle.std.proofs.Common.{◌∙◌, ap, sym, refl, append_assoc}
use Rattle.std.specs.Prelude.{ℕ, ◌≡◌, ◌&&◌, ◌||◌, not, Bool, true, false, Option, Some, None, List, [], ◌∷◌, ◌++◌}
use Rattle.wait_model.specs.{declared.steps.Step.Step, declared.watches.Entry.Entry, declared.watches.Watch.Watch}
use Rattle.wait_model.specs.{Fold.after, Fold.after_look, Views.View as Told, Views.Bits, Words.entry_of}
use Rattle.wait_model.specs.declared.steps.Step.TheVariants as step
use Rattle.wait_model.proofs.StepLaws.UnlockSteps.{unlock_bits}
use Rattle.wait_rule.specs.{declared.journal.Item.Item, Known.Known, Queues.index, Queues.saw}
use Rattle.wait_rule.specs.Items.{Book, learn_step, steps_of}
use Rattle.wait_rule.specs.Says.{added, history_of, stored_with, told_of, unlocked_with}
use Rattle.wait_rule.specs.declared.journal.Item.TheVariants as item
use Rattle.wait_rule.proofs.{KnownLaws.AfterSteps.told_added, KnownLaws.TaskHistories.history_after}
use Rattle.wait_rule.proofs.{KnownLaws.Turns.told_unlocked, TableSteps.ItemLists.steps_append}
use Rattle.wait_class.specs.{Posts.HasSeenOwn, Posts.own_of, Tables.has_sleep}
use Rattle.wait_class.specs.Laws.{Calm, moves_entries, state_behind}
use Rattle.wait_class.proofs.Histories.{behind_more, moves_more, or_left, or_right, sleeps_more, stored_history}
use Rattle.wait_class.proofs.Histories.{unlocked_history}

-- one part after another
pub calm_on : (es fs : List Step) (old mid new : Known) → Calm es old mid → Calm fs mid new → Calm (es ++ fs) old new
calm_on es fs old mid new a b = record {
  number = b.number ∙ a.number;
  items = a.items ++ b.items;
  grown = b.grown ∙ (ap (λ (l : List Item). l ++ b.items) a.grown ∙ append_assoc old.view.items a.items b.items);
  history = b.history ∙ (ap (λ (l : List Step). l ++ fs) a.history ∙ append_assoc (history_of old) es fs);
  keeps = λ d. b.keeps d ∙ a.keeps d;
  tries = λ d kept none. b.tries d (a.keeps d ∙ kept) (a.tries d kept none);
  stored = λ still. b.stored (or_right (moves_entries es) (moves_entries fs) (sym (moves_more es fs) ∙ still))
      ∙ a.stored (or_left (moves_entries es) (moves_entries fs) (sym (moves_more es fs) ∙ still));
  state = λ awake. b.state (or_right (has_sleep es) (has_sleep fs) (sym (sleeps_more es fs) ∙ awake))
      ∙ (ap (state_behind fs) (a.state (or_left (has_sleep es) (has_sleep fs) (sym (sleeps_more es fs) ∙ awake)))
      ∙ behind_more es fs old.book.state);
}

-- an item that is no step
pub calm_quiet : (k : Known) (x : Item) → steps_of (x ∷ []) ≡ [] → told_of (added k x) ≡ told_of k
    → (added k x).book.state ≡ k.book.state → Calm [] k (added k x)
calm_quiet k x none told state = record {
  number = refl;
  items = x ∷ [];
  grown = refl;
  history = steps_append k.view.items (x ∷ []) ∙ ap (λ (l : List Step). steps_of k.view.items ++ l) none;
  keeps = λ d. ap (λ (v : Told). v.bits.keeps d) told;
  tries = λ d kept free. ap (λ (v : Told). v.bits.pending d) told ∙ free;
  stored = λ still. ap (λ (v : Told). v.bits.stored (own_of k)) told;
  state = λ awake. state;
}

-- a step
pub calm_step : (k new : Known) (e : Step) → new ≡ added k (item.Made e)
    → ((v : Told) → (after e v).bits.keeps ≡ v.bits.keeps)
    → ((v : Told) (d : Watch) → v.bits.pending d ≡ false → (after e v).bits.pending d ≡ false)
    → (moves_entries (e ∷ []) ≡ false → (v : Told) → (after e v).bits.stored ≡ v.bits.stored)
    → (has_sleep (e ∷ []) ≡ false → (b : Book) → (learn_step e b).state ≡ state_behind (e ∷ []) b.state)
    → Calm (e ∷ []) k new
calm_step k new e is keeps pending stored state =
    let told : told_of new ≡ after e (told_of k) = ap told_of is ∙ told_added k (item.Made e) in
    record {
      number = ap (λ (j : Known). j.view.number) is;
      items = item.Made e ∷ [];
      grown = ap (λ (j : Known). j.view.items) is;
      history = history_after k new e is;
      keeps = λ d. ap (λ (v : Told). v.bits.keeps d) told ∙ (λ i. keeps (told_of k) i d);
      tries = λ d kept none. ap (λ (v : Told). v.bits.pending d) told ∙ pending (told_of k) d none;
      stored = λ still. ap (λ (j : Known). (told_of new).bits.stored (own_of j)) is
          ∙ (ap (λ (v : Told). v.bits.stored (own_of k)) told ∙ (λ i. stored still (told_of k) i (own_of k)));
      state = λ awake. ap (λ (j : Known). j.book.state) is ∙ state awake k.book;
    }

-- what is no longer
pub gone : (p n : Bool) → p ≡ false → (p && n) ≡ false
gone p n is = ap (λ (b : Bool). b && n) is

-- a step that stores the own entry word
pub told_stored : (k new : Known) (e : Step) → new ≡ stored_with k e → told_of new ≡ after e (told_of k)
told_stored k new e is = ap told_of is
    ∙ (told_added (added k (item.Made e)) item.Member ∙ told_added k (item.Made e))

pub calm_removed : (k new : Known) (i : ℕ) → new ≡ stored_with k (step.Unqueue i) → Calm (step.Unqueue i ∷ []) k new
calm_removed k new i is =
    let told = told_stored k new (step.Unqueue i) is in
    record {
      number = ap (λ (j : Known). j.view.number) is;
      items = item.Made (step.Unqueue i) ∷ item.Member ∷ [];
      grown = ap (λ (j : Known). j.view.items) is
          ∙ append_assoc k.view.items (item.Made (step.Unqueue i) ∷ []) (item.Member ∷ []);
      history = stored_history k new (step.Unqueue i) is;
      keeps = λ d. ap (λ (v : Told). v.bits.keeps d) told;
      tries = λ d kept none. ap (λ (v : Told). v.bits.pending d) told ∙ none;
      stored = λ still. absurd (cc);
      state = λ awake. ap (λ (j : Known). j.book.state) is;
    }

-- an unlock
pub unlocked_bits : (old new : Known) → new ≡ unlocked_with old old.at false
    → (told_of new).bits ≡ (told_of old).bits
unlocked_bits old new is = ap (λ (k : Known). (told_of k).bits) is
    ∙ (ap (λ (v : Told). v.bits) (told_unlocked old old.at false)
    ∙ unlock_bits (told_of old) (told_of old).walk false)

pub calm_unlock : (k new : Known) → new ≡ unlocked_with k k.at false → Calm (step.Unlock k.at false ∷ []) k new
calm_unlock k new is =
    let bits = unlocked_bits k new is in
    record {
      number = ap (λ (j : Known). j.view.number) is;
      items = item.Made (step.Unlock k.at false) ∷ item.Served ∷ [];
      grown = ap (λ (j : Known). j.view.items) is
          ∙ append_assoc k.view.items (item.Made (step.Unlock k.at false) ∷ []) (item.Served ∷ []);
      history = unlocked_history k new is;
      keeps = λ d. ap (λ (b : Bits). b.keeps d) bits;
      tries = λ d kept none. ap (λ (b : Bits). b.pending d) bits ∙ none;
      stored = λ still. ap (λ (j : Known). (told_of new).bits.stored (own_of j)) is
          ∙ ap (λ (b : Bits). b.stored (own_of k)) bits;
      state = λ awake. ap (λ (j : Known). j.book.state) is;
    }

-- a look at the own entry
pub own_bits : (old new : Known) (o : Option Entry) (h : HasSeenOwn old new o)
    → (told_of new).bits ≡ after_look (index old.view.number 0) (entry_of h.word) (told_of old)
own_bits old new o h = ap (λ (k : Known). (told_of k).bits) h.is ∙ by old.book.head
  where
    by : (q : Option ℕ) → (told_of (added old (item.Made (saw q (index old.view.number 0) h.word)))).bits
        ≡ after_look (index old.view.number 0) (entry_of h.word) (told_of old)
    by None = ap (λ (v : Told). v.bits) (told_added old (item.Made (step.Peek (index old.view.number 0) h.word)))
    by (Some i) = ap (λ (v : Told). v.bits) (told_added old (item.Made (step.Saw (index old.view.number 0) h.word)))

-- a task that keeps a bit is not to try it where it finds its entry off
none_settled : (p o t k : Bool) → p ≡ false → k ≡ true → (p || (o && (t && not k))) ≡ false
none_settled true o t k is keeps = absurd (cc)
none_settled false o t false is keeps = absurd (cc)
none_settled false false t true is keeps = refl
none_settled false true true true is keeps = refl
none_settled false true false true is keeps = refl

module _ (old new : Known) (o : Option Entry) (h : HasSeenOwn old new o) where
  calm_look : (e : Step) → new ≡ added old (item.Made e) → (moves_entries (e ∷ []) ≡ false → ⊥)
      → ((σ : ℕ) → state_behind (e ∷ []) σ ≡ σ) → Calm (e ∷ []) old new
  calm_look e is moves stays =
      let bits = own_bits old new o h in
      record {
        number = h.carries.number;
        items = item.Made e ∷ [];
        grown = ap (λ (j : Known). j.view.items) is;
        history = history_after old new e is;
        keeps = λ d. ap (λ (b : Bits). b.keeps d) bits;
        tries = λ d kept none. ap (λ (b : Bits). b.pending d) bits
            ∙ none_settled ((told_of old).bits.pending d) _ _ ((told_of old).bits.keeps d) none kept;
        stored = λ still. absurd (moves still);
        state = λ awake. h.carries.state ∙ sym (stays old.book.state);
      }

  pub calm_peek : old.book.head ≡ None → Calm (step.Peek (index old.view.number 0) h.word ∷ []) old new
  calm_peek free = calm_look (step.Peek (index old.view.number 0) h.word)
      (h.is ∙ ap (λ (q : Option ℕ). added old (item.Made (saw q (index old.view.number 0) h.word))) free)
      (λ still. absurd (cc)) (λ σ. refl)

  pub calm_saw : (i : ℕ) → old.book.head ≡ Some i → Calm (step.Saw (index old.view.number 0) h.word ∷ []) old new
  calm_saw i held = calm_look (step.Saw (index old.view.number 0) h.word)
      (h.is ∙ ap (λ (q : Option ℕ). added old (item.Made (saw q (index old.view.number 0) h.word))) held)
      (λ still. absurd (cc)) (λ σ. refl)
