-- What each step on a head, an entry, a bookmark or a condition asks of the table of words, by the law of its kind.
use Rattle.std.proofs.Common.{refl, sym, ◌∙◌, ap, subst, arith, inl, append-nil}
use Rattle.std.specs.Prelude.{ℕ, ◌≡◌, ◌+◌, ◌-◌, ◌%◌, ◌^◌, ◌<◌, Bool, true, false, Option, Some, List, [], ◌∷◌}
use Rattle.std.specs.Prelude.{slice_index}
use mathlib.Core.Option.{none}
use Rattle.atomic_table.specs.{Seated.TableId, Table.step as move, Table.Allows}
use Rattle.wait_model.specs.{declared.watches.Aim.Aim, Views.View as Told, Tables.Table, Tables.raised_spent}
use Rattle.wait_model.specs.{Rows.AimsAt, Rows.MaySpend}
use Rattle.wait_model.specs.declared.layout.TheConstants.{TASKS, HEADS, HEAD_AT}
use Rattle.wait_model.specs.Words.{head_word, held_of, spent_of}
use Rattle.wait_model.specs.declared.steps.Step.TheVariants as step
use Rattle.wait_model.specs.Locations as place
use Rattle.wait_model.proofs.WordLaws.DecodedWords.{spent_read, held_read}
use Rattle.wait_rule.specs.{declared.journal.Item.Item, Known.known, Members.IsHeadWord, Says.told_of}
use Rattle.wait_rule.specs.{Queues.walk_of_hold, Queues.lock_item, Plays.Sat, Plays.seat_with, Notes.notes_of}
use Rattle.wait_rule.specs.{Tickets.served, TicketWords.all_tickets, Journals.Scene, Journals.moved}
use Rattle.wait_rule.specs.HandedPermits.{OwesNoPermit}
use Rattle.wait_rule.specs.Items.{nothing, book_of, Fits}
use Rattle.wait_rule.specs.Rule.{all_notes, Law, Holds}
use Rattle.wait_rule.specs.QueuePlays.{locked_play, head_load_play, unlocked_play}
use Rattle.wait_rule.specs.declared.journal.Item.TheVariants as item
use Rattle.wait_rule.proofs.{KnownLaws.HeadLinks.same_links, KnownLaws.HeldHeads.head_told, TableSteps.StateLaws.allows}
use Rattle.wait_rule.proofs.{TableSteps.StateLaws.pushed_none, KnownLaws.HandedPermits.unlock_on}
use Rattle.wait_rule.proofs.{KnownLaws.TicketSteps.free_head, KnownLaws.TicketSteps.holds_none}
use Rattle.wait_rule.proofs.StepKinds.HoldWalks.{aims_hold}
use Rattle.wait_rule.proofs.TableSteps.KeptSteps.{IsOwn, KeepsLaw, law_next, loads, steps, told_as}
use Rattle.wait_rule.proofs.StepKinds.HeadKinds.{lock_word, locks, unlocks}

-- the head that a seat's list says is held is held in what is seen
pub head_seen : (s : Table) (items : ℕ → List Item) (me : Sat) (o : Option ℕ) → IsOwn s items me
    → (book_of me.0.items).head ≡ o → (s.view me.0.number).hold.head ≡ o
head_seen s items me o own is = ap (λ (v : Told). v.hold.head) own.told ∙ (sym (head_told me.0.items) ∙ is)

module _ (slots id : ℕ) (me : Sat) (lives : me.0.lives ≡ true) (h p : ℕ) (small : h < HEADS)
    (at : p ≡ HEAD_AT + h) where
  head_there : h ≡ p - HEAD_AT
  head_there = omega arith

  pub lock_moves : (walk named : Option Aim) → walk ≡ named → (n : ℕ) → (book_of me.0.items).ticket ≡ served h n
      → AimsAt walk h
      → Allows (Holds Law) slots id me p (λ n. (n + 1) % 2 ^ 64) (locked_play named (move slots p 1 0 none) me)
  lock_moves walk named is turn mine aims = subst
      (λ (k : ℕ × Option Aim). Allows (Holds Law) slots id me p (λ n. (n + 1) % 2 ^ 64)
      (λ n m. (m ≡ seat_with me (lock_item k.0 k.1 n)) × IsHeadWord n × (held_of n ≡ false)))
      (λ i. (head_there i, is i))
      (subst (λ (k : ℕ). Allows (Holds Law) slots id me k (λ n. (n + 1) % 2 ^ 64)
      (λ n m. (m ≡ seat_with me (lock_item h walk n)) × IsHeadWord n × (held_of n ≡ false))) (sym at)
      (tells_more
      (allows Law slots id me.0 me.1 (place.position_of (place.Head h)) (λ n. (n + 1) % 2 ^ 64)
      (λ n. lock_item h walk n ∷ []) (λ n. IsHeadWord n × (held_of n ≡ false)) lives
      (λ c law few own less. by c law few own (slice_index c.words (place.position_of (place.Head h)))
      (law.shown.each (place.Head h) small)))))
    where
      tells_more : Allows (Holds Law) slots id me (place.position_of (place.Head h)) (λ n. (n + 1) % 2 ^ 64)
          (λ n m. (m ≡ seat_with me (lock_item h walk n)) × (IsHeadWord n × (held_of n ≡ false)))
          → Allows (Holds Law) slots id me (place.position_of (place.Head h)) (λ n. (n + 1) % 2 ^ 64)
          (λ n m. (m ≡ seat_with me (lock_item h walk n)) × IsHeadWord n × (held_of n ≡ false))
      tells_more all s r long at_id less =
          let a = all s r long at_id less in (a.0, a.1, a.2, a.3, (a.4.0, a.4.1.0, a.4.1.1))

      by : (c : Scene) (law : Law c) → me.0.number < TASKS → c.items me.0.number ≡ me.0.items → (n : ℕ)
          → n ≡ head_word (law.table.holder h) (law.table.spent h)
          → Law (moved c me.0.number (place.position_of (place.Head h)) ((n + 1) % 2 ^ 64) (lock_item h walk n ∷ []))
          × (IsHeadWord n × (held_of n ≡ false))
      by c law few own n reads =
          let s = law.table in
          let now : all_tickets c.items me.0.number ≡ served h turn =
          ap (λ (xs : List Item). (book_of xs).ticket) own ∙ mine in
          let free = free_head s (all_notes c.items) law.ruled.linked (all_tickets c.items) law.beside law.tickets
          me.0.number h turn now in
          let out = holds_none s (all_notes c.items) law.ruled.linked (all_tickets c.items) law.beside law.tickets
          me.0.number h turn now in
          let spent_is = ap spent_of reads ∙ spent_read (s.holder h) (s.spent h) in (
            law_next c law me.0.number (place.Head h) ((n + 1) % 2 ^ 64) (step.Lock h (walk_of_hold h walk) n)
                few small refl
                (inl refl)
                (subst (λ (w : ℕ). KeepsLaw s me.0.number (place.Head h) w (step.Lock h (walk_of_hold h walk) n)
                (book_of (c.items me.0.number)))
                (sym (ap (λ (w : ℕ). (w + 1) % 2 ^ 64) (reads ∙ (λ i. head_word (free i) (s.spent h)))
                ∙ lock_word (s.spent h) (law.ruled.lawful.spent h)))
                (locks s me.0.number h (walk_of_hold h walk) n out spent_is (book_of (c.items me.0.number))
                law.ruled.lawful (law.ruled.fits me.0.number few) free (aims_hold h walk aims) (turn, now))),
            (
              record { held = s.holder h; spent = s.spent h; spells = reads; small = law.ruled.lawful.spent h },
              ap held_of reads ∙ (held_read (s.holder h) (s.spent h) ∙ free),
            ),
          )

  -- what the task's list says of the head that it holds
  mine : (s : Table) (items : ℕ → List Item) → IsOwn s items me → (book_of me.0.items).head ≡ Some h
      → (s.view me.0.number).hold.head ≡ Some h
  mine s items own held = head_seen s items me (Some h) own held

  pub head_peek_moves : (book_of me.0.items).head ≡ Some h
      → Allows (Holds Law) slots id me p (λ n. n) (head_load_play (move slots p 0 0 none) me)
  head_peek_moves held s r long at_id few =
      let a = loads slots id me lives (place.Head h) small p at refl (λ _. [])
      (λ n. (d : TableId) → n ≡ head_word true ((told_of (known d me.0 0)).checks.found (p - HEAD_AT))) (λ _. tt)
      (λ _. refl) (λ _ b. refl) (λ _ b. refl) (λ _ p. refl) (λ _ k. (λ e. refl, refl))
      (λ s items ruled own fits. (
        subst (λ (xs : List Item). Fits (s.task me.0.number) (book_of xs)) (sym (append-nil me.0.items)) fits,
        λ d. (λ i. head_word ((ruled.whole.kept.facts.views me.0.number).hold.held h (mine s items own held) i)
            ((ruled.linked.spent me.0.number h (mine s items own held)
            ∙ (λ j. (own.told j).checks.found (head_there j))) i)),
      ))
      (λ s items ruled own. same_links s items me.0.number [] (ap (notes_of me.0.number)
      (append-nil (items me.0.number)))
      ruled.linked) s r long at_id few in
      told_as a (λ _ _ t. (t.0 ∙ ap (λ w. (w, me.1)) (pushed_none me.0), t.1))

  -- the word of the held head becomes that of a free one, by whatever change of the word that was found
  pub unlock_moves : (spent named : Bool) (d : TableId) (f : ℕ → ℕ) → spent ≡ named → (book_of me.0.items).head ≡ Some h
      → MaySpend (told_of (known d me.0 0)) spent
      → ((n : ℕ) → n < 2 ^ 62 → n ≡ (told_of (known d me.0 0)).checks.found h
      → f (head_word true n) ≡ head_word false (raised_spent spent n))
      → (book_of me.0.items).differs ≡ nothing → OwesNoPermit (known d me.0 h) → (k : ℕ)
      → Allows (Holds Law) slots id me p f (unlocked_play named (move slots p k 0 none) me)
  unlock_moves spent named d f same held may frees clear owes k s r long at_id few =
      let a = steps slots id me lives (place.Head h) small p at refl f (λ w. step.Unlock h spent) (λ _. Unit {0})
      (λ s items ruled own fits. (
        subst (λ (n : ℕ). KeepsLaw s me.0.number (place.Head h) n (step.Unlock h spent) (book_of me.0.items))
            (sym (ap (λ (b : Bool). f (head_word b (s.spent h)))
            ((ruled.whole.kept.facts.views me.0.number).hold.held h (mine s items own held))
            ∙ frees (s.spent h) (ruled.lawful.spent h)
            (ruled.linked.spent me.0.number h (mine s items own held)
            ∙ ap (λ (v : Told). v.checks.found h) own.told)))
            (unlocks s me.0.number h spent (mine s items own held) ruled.whole.kept.facts.one_holder
            (book_of me.0.items) ruled.lawful fits (subst (λ (v : Told). MaySpend v spent) (sym own.told) may) clear
            (unlock_on s items ruled (known d me.0 h) own.list spent owes)),
        tt,
      )) s r long at_id few in
      told_as a (λ _ _ t. t.0 ∙ (λ i. seat_with me (item.Made (step.Unlock (head_there i) (same i)))))
