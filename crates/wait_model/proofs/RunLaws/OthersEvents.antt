-- Another task's event leaves what a task's place in its program says.
use Rattle.std.proofs.lemmas.Bool.{both_ways}
use Rattle.std.proofs.Common.{sym, ◌∙◌, ap, subst, arith, inl, inr, refl}
use Rattle.std.specs.Prelude.{ℕ, ◌≡◌, ◌≢◌, ◌<◌, ◌≤◌, ◌⊎◌, Option, Some, None, true, false}
use Rattle.wait_model.specs.{declared.layout.TheConstants.FIRST_DONE, declared.layout.TheConstants.FIRST_BIT_WORD}
use Rattle.wait_model.specs.{declared.calls.Event.Event, declared.points.Progress.Progress}
use Rattle.wait_model.specs.{declared.queues.CalledEntry.CalledEntry, declared.points.Given.Given}
use Rattle.wait_model.specs.{declared.watches.Entry.Entry, declared.queues.Mark.Mark, declared.watches.Watch.Watch}
use Rattle.wait_model.specs.{declared.watches.Kind.Kind, Admission.IsStandingKind, Admission.IsGoing, Facts.Facts}
use Rattle.wait_model.specs.{Views.View, Watches.head_of, Watches.is_page, Tables.next, Tables.value_of}
use Rattle.wait_model.specs.{Words.head_word, Points.call_watch, Queues.place_for, Functions.put, DoneCounts.IsStored}
use Rattle.wait_model.specs.{Locations.cond_at, Locations.word_in, declared.calls.Call.Call}
use Rattle.wait_model.specs.declared.points.Point.{Point}
use Rattle.wait_model.specs.Runs.{State, own, entry_for, after_event}
use Rattle.wait_model.specs.Reached.{Zone, stands, parts, IsHome, HomeAt, held_at, is_preparing}
use Rattle.wait_model.specs.Reached.{IsTaken, IsFlagged, aimed_by, IsPlaced, seated, zone}
use Rattle.wait_model.proofs.{WordLaws.CondWords.head_of_bare, WordLaws.CondWords.set_rest}
use Rattle.wait_model.proofs.{HistoryLaws.HoldLooks.looks_same, HistoryLaws.UnlockedLooks.peeks_same, Functions.put_at}
use Rattle.wait_model.proofs.Functions.{put_other}
use Rattle.wait_model.specs.declared.calls.Event.TheVariants as event
use Rattle.wait_model.specs.declared.points.Point.TheVariants as at
use Rattle.wait_model.specs.declared.points.PreparePoint.TheVariants as preparing
use Rattle.wait_model.specs.declared.points.AddPoint.TheVariants as adding
use Rattle.wait_model.specs.declared.points.AwaitPoint.TheVariants as awaiting
use Rattle.wait_model.specs.declared.points.Progress.TheVariants as now
use Rattle.wait_model.specs.declared.steps.Step.TheVariants as step
use Rattle.wait_model.specs.declared.points.PagePoint.TheVariants as paging
use Rattle.wait_model.specs.declared.points.LeavePoint.TheVariants as leaving
use Rattle.wait_model.specs.declared.points.FinishPoint.TheVariants as finishing
use Rattle.wait_model.specs.declared.points.BitPoint.TheVariants as biting
use Rattle.wait_model.specs.declared.points.RemovePoint.TheVariants as removing

pub own_one : (a b : ℕ) → own a ≡ own b → a ≡ b
own_one a b e = omega arith

-- an entry that goes when it is woken is none that stands
pub goes_not_stands : (k : Kind) → IsGoing k → IsStandingKind k → ⊥
goes_not_stands k is s = absurd (both_ways true (sym s ∙ is) refl)

-- where such an entry may be queued, it may be off too, but for a page's in the hold in which it was queued
home_dropped : (z : Zone) (c : Watch) (e : Entry) → IsGoing e.kind → (z ≡ seated → ⊥) → IsHome z c (Some e)
    → IsHome z c None
home_dropped stands c e k n h = goes_not_stands e.kind k h
home_dropped seated c e k n h = n refl
home_dropped (parts m) c e k n h = goes_not_stands e.kind k h.0
home_dropped _ c e k n h = tt

seated_holds : (call : Call) (p : Point) (e : Entry) → zone p ≡ seated → IsHome (zone p) (call_watch call) (Some e)
    → held_at (now.Open call p) ≡ Some (head_of e.watch)
seated_holds call (at.Page paging.Try) e q h = ap (λ n. Some n)
    (sym (head_of_bare (call_watch call)) ∙ ap head_of (sym h.0))
seated_holds call (at.Page paging.Off) e q h = ap (λ n. Some n)
    (sym (head_of_bare (call_watch call)) ∙ ap head_of (sym h.0))
seated_holds call (at.Leave leaving.Queue) e q h = absurd (cc)
seated_holds call (at.Finish finishing.Unlock failed) e q h = absurd (cc)
seated_holds call (at.Bit biting.Try) e q h = absurd (cc)
seated_holds call (at.Bit biting.First) e q h = absurd (cc)
seated_holds call (at.Bit biting.Last) e q h = absurd (cc)
seated_holds call (at.Add adding.Unlock) e q h = absurd (cc)
seated_holds call (at.Remove removing.Lock) e q h = absurd (cc)
seated_holds call (at.Await (awaiting.Lock true)) e q h = absurd (cc)
seated_holds call (at.Await (awaiting.Load true)) e q h = absurd (cc)
seated_holds call (at.Await (awaiting.Off stopped)) e q h = absurd (cc)
seated_holds call (at.Page (paging.Unlock true)) e q h = absurd (cc)
seated_holds call (at.Page (paging.Finish finishing.Unlock)) e q h = absurd (cc)
seated_holds call p e q h = absurd (cc)

home_dropped_at : (p : Progress) (e : Entry) → IsGoing e.kind → (held_at p ≡ Some (head_of e.watch) → ⊥)
    → HomeAt p (Some e) → HomeAt p None
home_dropped_at (now.Open call p) e k apart h =
    home_dropped (zone p) (call_watch call) e k (λ q. apart (seated_holds call p e q h)) h
home_dropped_at now.Idle e k apart h = tt
home_dropped_at now.Fresh e k apart h = tt

-- a task that prepares holds the head of its entry
holds_home : (q : Progress) (e : Entry) → is_preparing q ≡ true → HomeAt q (Some e)
    → held_at q ≡ Some (head_of e.watch)
holds_home (now.Open call (at.Prepare preparing.Look)) e pr h = ap (λ n. Some n)
    (sym (head_of_bare (call_watch call)) ∙ ap head_of (sym h.0))
holds_home (now.Open call (at.Prepare preparing.Queue)) e pr h = ap (λ n. Some n)
    (sym (head_of_bare (call_watch call)) ∙ ap head_of (sym h.0))
holds_home (now.Open call (at.Await (awaiting.Load true))) e pr h = ap (λ n. Some n)
    (sym (head_of_bare (call_watch call)) ∙ ap head_of (sym h.0))
holds_home q e pr h = grind arith

module _ (entry : ℕ → Option Entry) (v : View) (b : ℕ) (p : Progress) (pl : IsPlaced entry v b p) where
  -- another task queues its entry
  pub placed_queued : (me : ℕ) (e : Entry) → b ≢ me → entry (own me) ≡ None
      → IsPlaced (put entry (own me) (Some e)) v b p
  placed_queued me e ne none = record {
    head = pl.head;
    home = subst (HomeAt p) (sym same_own) pl.home;
    off_book = λ pr q. pl.off_book pr (sym same_own ∙ q);
    taken = λ who t. kept who (pl.taken who t);
    flagged = λ c t. kept_flagged c (pl.flagged c t);
  }
    where
      same_own : put entry (own me) (Some e) (own b) ≡ entry (own b)
      same_own = put_other entry (own me) (Some e) (own b) (λ q. ne (own_one b me q))

      kept : (who : ℕ) → IsTaken entry who (held_at p)
          → IsTaken (put entry (own me) (Some e)) who (held_at p)
      kept who k = record {
        it = k.it;
        stands = put_at (λ o. o ≡ Some k.it) entry (own me) (Some e) (own who)
            (λ q. absurd (let z : entry (own who) ≡ entry (own me) = ap entry q in
            let y : entry (own who) ≡ Some k.it = k.stands in cc (none))) (λ _. k.stands);
        head = k.head;
        kind = k.kind;
        unpaged = k.unpaged;
      }

      kept_flagged : (c : CalledEntry) → IsFlagged entry c (held_at p) (aimed_by p)
          → IsFlagged (put entry (own me) (Some e)) c (held_at p) (aimed_by p)
      kept_flagged c k = record {
        it = k.it;
        stands = put_at (λ o. o ≡ Some k.it) entry (own me) (Some e) (own c.who)
            (λ q. absurd (let z : entry (own c.who) ≡ entry (own me) = ap entry q in
            let y : entry (own c.who) ≡ Some k.it = k.stands in cc (none))) (λ _. k.stands);
        seen = k.seen;
        head = k.head;
        key = k.key;
      }

  -- a task that holds the entry's head takes it off: an entry that goes, or one that is not the task's own
  pub placed_unqueued : (x : ℕ) (e : Entry) → entry x ≡ Some e → (own b ≡ x → IsGoing e.kind)
      → (held_at p ≡ Some (head_of e.watch) → ⊥) → IsPlaced (put entry x None) v b p
  placed_unqueued x e was goes apart = record {
    head = pl.head;
    home = put_at (HomeAt p) entry x None (own b)
        (λ s. home_dropped_at p e (goes s) apart (subst (HomeAt p) (mine s) pl.home)) (λ _. pl.home);
    off_book = λ pr q. pl.off_book pr (put_at (λ o. o ≡ None → entry (own b) ≡ None) entry x None (own b)
        (λ s _. absurd (apart (holds_home p e pr (subst (HomeAt p) (mine s) pl.home)))) (λ _ z. z) q);
    taken = λ who t. kept who (pl.taken who t);
    flagged = λ c t. kept_flagged c (pl.flagged c t);
  }
    where
      mine : own b ≡ x → entry (own b) ≡ Some e
      mine s = subst (λ (i : ℕ). entry i ≡ Some e) (sym s) was

      theirs : (d : Entry) (y : ℕ) → y ≡ x → entry y ≡ Some d → held_at p ≡ Some (head_of d.watch) → ⊥
      theirs d y s is held =
          let z : entry y ≡ Some e = subst (λ (i : ℕ). entry i ≡ Some e) (sym s) was in
          let q : Some d ≡ Some e = sym is ∙ z in
          let de : d ≡ e = cc in
          apart (subst (λ (g : Entry). held_at p ≡ Some (head_of g.watch)) de held)

      kept : (who : ℕ) → IsTaken entry who (held_at p)
          → IsTaken (put entry x None) who (held_at p)
      kept who k = record {
        it = k.it;
        stands = put_at (λ o. o ≡ Some k.it) entry x None (own who)
            (λ s. absurd (theirs k.it (own who) s k.stands k.head)) (λ _. k.stands);
        head = k.head;
        kind = k.kind;
        unpaged = k.unpaged;
      }

      kept_flagged : (c : CalledEntry) → IsFlagged entry c (held_at p) (aimed_by p)
          → IsFlagged (put entry x None) c (held_at p) (aimed_by p)
      kept_flagged c k = record {
        it = k.it;
        stands = put_at (λ o. o ≡ Some k.it) entry x None (own c.who)
            (λ s. absurd (theirs k.it (own c.who) s k.stands k.head)) (λ _. k.stands);
        seen = k.seen;
        head = k.head;
        key = k.key;
      }

-- the same entries
pub placed_same : (entry entry2 : ℕ → Option Entry) (v : View) (b : ℕ) (p : Progress) → entry2 ≡ entry
    → IsPlaced entry v b p → IsPlaced entry2 v b p
placed_same entry entry2 v b p same pl = subst (λ (f : ℕ → Option Entry). IsPlaced f v b p) (sym same) pl

-- an entry that a task takes off stands at the head that it holds, and is its own or one that goes when it is
-- woken
pub record IsGone (s : State) (me who : ℕ) : Type 0 where
  pub it : Entry
  pub stands : s.table.entry (own who) ≡ Some it
  pub head : (s.table.view me).hold.head ≡ Some (head_of it.watch)
  pub goes : (who ≡ me) ⊎ (IsGoing it.kind)

-- what an event says of the entry or the done count that it changes
abbrev pub Changes : State → ℕ → Event → Type 0
Changes s me (event.Queue h form) = s.table.entry (own me) ≡ None
Changes s me (event.Unqueue who) = IsGone s me who
Changes s me event.Unflag = (e : Entry) → s.table.entry (own me) ≡ Some e → is_page e.kind ≡ false
Changes s me (event.Mark h) = s.table.mark me ≡ None
Changes s me (event.Unmark h) = (k : Mark) × (s.table.mark me ≡ Some k) × (k.head ≡ h)
Changes s me (event.Set c v) = FIRST_DONE ≤ c → c < FIRST_BIT_WORD → IsStored v (word_in s.table (cond_at c))
Changes s me _ = Unit {0}

goes_for : (me who b : ℕ) (k : Kind) → b ≢ me → (who ≡ me) ⊎ (IsGoing k) → own b ≡ own who
    → IsGoing k
goes_for me who b k ne (inl s) e = absurd (ne (own_one b who e ∙ s))
goes_for me who b k ne (inr s) e = s

pub others_placed : (s : State) (me : ℕ) (g : Given) (e : Event) (b : ℕ) → b ≢ me → Changes s me e
    → Facts s.table → IsPlaced s.table.entry (s.table.view b) b (s.progress b)
    → IsPlaced (after_event s me g e).table.entry (s.table.view b) b (s.progress b)
others_placed s me g (event.Queue h form) b ne c k pl = placed_queued s.table.entry (s.table.view b) b
    (s.progress b) pl me (entry_for g form (place_for form (s.queue h))) ne c
others_placed s me g (event.Unqueue who) b ne c k pl = placed_unqueued s.table.entry (s.table.view b) b
    (s.progress b) pl (own who) c.it c.stands (goes_for me who b c.it.kind ne c.goes)
    (λ held. ne (k.one_holder b me (head_of c.it.watch) (pl.head ∙ held) c.head))
others_placed s me g (event.Lock h) b ne c k pl =
    placed_same s.table.entry (after_event s me g (event.Lock h)).table.entry (s.table.view b) b
    (s.progress b)
    (looks_same (next s.table me (step.Lock h g.walk (head_word (s.table.holder h) (s.table.spent h))))
    s.table.entry me).entry pl
others_placed s me g (event.Set c v) b ne h k pl =
    placed_same s.table.entry (after_event s me g (event.Set c v)).table.entry (s.table.view b) b
    (s.progress b) (set_rest s.table me g.watch v (value_of s.table.words g.watch)).entry pl
others_placed s me g (event.Active h hit) b ne c k pl =
    placed_same s.table.entry (after_event s me g (event.Active h hit)).table.entry (s.table.view b) b
    (s.progress b) (peeks_same s.table s.table.entry me).entry pl
others_placed s me g e b ne c k pl = pl
