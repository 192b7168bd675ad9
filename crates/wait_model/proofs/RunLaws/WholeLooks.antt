-- A hold has looked at every entry word, and the entries that a task has stored are its own.
use Rattle.std.proofs.Common.{refl, sym, ◌∙◌, ap}
use Rattle.std.specs.Prelude.{ℕ, zero, suc, ◌≡◌, ◌≢◌, ◌<◌, Bool, true, false, ◌==◌, if◌then◌else◌, Option, Some, None}
use Rattle.wait_model.specs.{declared.layout.TheConstants.ENTRIES, declared.calls.Event.Event}
use Rattle.wait_model.specs.{declared.points.Given.Given, declared.watches.Entry.Entry, Reached.HasLookedAtAll}
use Rattle.wait_model.specs.{Reached.OwnStored, Functions.put, Queues.place_for, Tables.value_of, Watches.head_of}
use Rattle.wait_model.specs.Watches.{owner}
use Rattle.wait_model.specs.Runs.{State, own, entry_for, looks_below, looks, peeks_below, all_peeks, is_publishing}
use Rattle.wait_model.specs.Runs.{event_steps}
use Rattle.wait_model.specs.Views.{View, Hold, Bits, Look, unseen, off, elsewhere, shown, blank, look_at}
use Rattle.wait_model.specs.Fold.{is_off, forgotten, after_unlock, after, after_all}
use Rattle.wait_model.specs.Words.{entry_word, entry_of, head_word}
use Rattle.wait_model.proofs.{WordLaws.DecodedWords.owner_own, Functions.put_at, HistoryLaws.HoldLooks.AllRead}
use Rattle.wait_model.proofs.{HistoryLaws.HoldLooks.looks_book, HistoryLaws.UnlockedLooks.peeks_hold}
use Rattle.wait_model.proofs.{StepLaws.UnlockSteps.unlock_hold, StepLaws.UnlockSteps.unlock_bits}
use Rattle.wait_model.specs.declared.calls.Event.TheVariants as event
use Rattle.wait_model.specs.declared.steps.Step.TheVariants as step

-- what a look at an entry word shows
look_seen : (h : ℕ) (o : Option Entry) → look_at (Some h) o ≢ unseen
look_seen h None q = cc
look_seen h (Some e) q = by (head_of e.watch == h) q
  where
    by : (b : Bool) → (if b then shown e else elsewhere) ≢ unseen
    by true q = cc
    by false q = cc

-- the looks after a lock
looked_whole : (f : ℕ → Option Entry) (v : View) (h : ℕ) → AllRead f → v.hold.head ≡ Some h
    → HasLookedAtAll (after_all v (looks f))
looked_whole f v h r at i x held lt seen =
    look_seen h (f x) (sym (ap (λ (o : Option ℕ). look_at o (f x)) at) ∙ sym (looks_book f x v lt r) ∙ seen)

same_whole : (v u : View) → u.hold.head ≡ v.hold.head → u.hold.book ≡ v.hold.book → HasLookedAtAll v → HasLookedAtAll u
same_whole v u head book w h x held lt seen =
    w h x (sym head ∙ held) lt (sym (ap (λ (b : ℕ → Look). b x) book) ∙ seen)

-- one word of the book is written
put_whole : (v : View) (x : ℕ) (l : Look) → l ≢ unseen → HasLookedAtAll v → (h y : ℕ) → v.hold.head ≡ Some h
    → y < ENTRIES → put v.hold.book x l y ≢ unseen
put_whole v x l new w h y held lt = put_at (λ (k : Look). k ≢ unseen) v.hold.book x l y (λ _. new)
    (λ _. w h y held lt)

module _ (s : State) (me : ℕ) (g : Given) (read : AllRead s.table.entry) (v : View) where
  stored_whole : (b : Bool) (x found : ℕ) → HasLookedAtAll v
      → HasLookedAtAll (after (if b then step.Publish g.watch x found else step.Consume g.watch x found) v)
  stored_whole true x found w = w
  stored_whole false x found w = w

  pub event_whole : (e : Event) → HasLookedAtAll v → HasLookedAtAll (after_all v (event_steps s me g e))
  event_whole (event.Lock h) w = looked_whole s.table.entry
      (after (step.Lock h g.walk (head_word (s.table.holder h) (s.table.spent h))) v) h read refl
  event_whole (event.Unlock h used) w = λ i x held lt seen.
      let none : (after_unlock v v.walk used).hold.head ≡ None =
      ap (λ (k : Hold). k.head) (unlock_hold v v.walk used) in
      let c : None ≡ Some i = sym none ∙ held in absurd (cc)
  event_whole (event.Queue h form) w = put_whole v (own me) _ (λ e. absurd (cc)) w
  event_whole (event.Unqueue who) w = put_whole v (own who) off (λ e. absurd (cc)) w
  event_whole (event.Active h hit) w = same_whole v (after_all v (all_peeks s.table.entry))
      (ap (λ (k : Hold). k.head) (peeks_hold s.table.entry v))
      (ap (λ (k : Hold). k.book) (peeks_hold s.table.entry v)) w
  event_whole (event.Set c x) w =
      stored_whole (is_publishing g.watch (value_of s.table.words g.watch) x) x (value_of s.table.words g.watch) w
  event_whole e w = w

-- own entries
forgets : (t : ℕ) (v : View) (x : ℕ) (f : Option Entry) → OwnStored t v → (y : ℕ) → owner y ≢ t
    → forgotten v x f y ≡ None
forgets t v x f o y other = by (is_off f)
  where
    by : (b : Bool) → (if b then put v.bits.stored x None else v.bits.stored) y ≡ None
    by true = put_at (λ (k : Option Entry). k ≡ None) v.bits.stored x None y (λ _. refl) (λ _. o y other)
    by false = o y other

looked_stored : (t : ℕ) (f : ℕ → Option Entry) (n : ℕ) (v : View) → OwnStored t v
    → OwnStored t (after_all v (looks_below f n))
looked_stored t f zero v o = o
looked_stored t f (suc n) v o = looked_stored t f n (after (step.Saw n (entry_word (f n))) v)
    (forgets t v n (entry_of (entry_word (f n))) o)

looks_stored : (t : ℕ) (f : ℕ → Option Entry) (v : View) → OwnStored t v → OwnStored t (after_all v (looks f))
unfolding looks
looks_stored t f v o = looked_stored t f ENTRIES v o

peeked_stored : (t : ℕ) (f : ℕ → Option Entry) (n : ℕ) (v : View) → OwnStored t v
    → OwnStored t (after_all v (peeks_below f n))
peeked_stored t f zero v o = o
peeked_stored t f (suc n) v o = peeked_stored t f n (after (step.Peek n (entry_word (f n))) v)
    (forgets t v n (entry_of (entry_word (f n))) o)

peeks_stored : (t : ℕ) (f : ℕ → Option Entry) (v : View) → OwnStored t v
    → OwnStored t (after_all v (all_peeks f))
unfolding all_peeks
peeks_stored t f v o = peeked_stored t f ENTRIES v o

module _ (s : State) (me : ℕ) (g : Given) (v : View) where
  kept_stored : (b : Bool) (x found : ℕ) → OwnStored me v
      → OwnStored me (after (if b then step.Publish g.watch x found else step.Consume g.watch x found) v)
  kept_stored true x found o = o
  kept_stored false x found o = o

  pub event_stored : (e : Event) → OwnStored me v → OwnStored me (after_all v (event_steps s me g e))
  event_stored (event.Lock h) o = looks_stored me s.table.entry
      (after (step.Lock h g.walk (head_word (s.table.holder h) (s.table.spent h))) v) o
  event_stored (event.Unlock h used) o = λ y other.
      ap (λ (b : Bits). b.stored y) (unlock_bits v v.walk used) ∙ o y other
  event_stored (event.Queue h form) o = λ y other. put_at (λ (k : Option Entry). k ≡ None) v.bits.stored (own me)
      (Some (entry_for g form (place_for form (s.queue h)))) y
      (λ q. absurd (other (ap owner q ∙ owner_own me))) (λ _. o y other)
  event_stored (event.Unqueue who) o = λ y other. put_at (λ (k : Option Entry). k ≡ None) v.bits.stored (own who)
      None y (λ _. refl) (λ _. o y other)
  event_stored (event.Queued hit) o = forgets me v (own me) (entry_of (entry_word (s.table.entry (own me)))) o
  event_stored (event.Active h hit) o = peeks_stored me s.table.entry v o
  event_stored (event.Set c x) o =
      kept_stored (is_publishing g.watch (value_of s.table.words g.watch) x) x (value_of s.table.words g.watch) o
  event_stored e o = o

-- at the start
pub start_whole : HasLookedAtAll blank
start_whole h x held = absurd (cc)

pub start_stored : (t : ℕ) → OwnStored t blank
start_stored t x other = refl
