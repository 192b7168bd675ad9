-- The own entry is queued where it is off, and else the state stored. Where no place is left the head is given back.
use Rattle.std.proofs.Common.{◌∙◌, ap, sym, refl, subst}
use Rattle.std.specs.Prelude.{ℕ, ◌≡◌, Bool, true, false, is_some, Option, Some, None, [], ◌∷◌, ◌++◌}
use Rattle.wait_model.specs.{declared.queues.Form.Form, declared.watches.Entry.Entry, PointFacts.IsHome}
use Rattle.wait_model.specs.{PointFacts.absent, Views.View as Told}
use Rattle.wait_model.specs.declared.steps.Step.TheVariants as step
use Rattle.wait_rule.specs.{declared.journal.Item.Item, Ends.WasWorn, HandedPermits.OwesNoPermit, Known.Known}
use Rattle.wait_rule.specs.{Shown.shown_queue, Tickets.taken}
use Rattle.wait_rule.specs.Says.{MayStore, added, history_of, stored_with, told_of, unlocked_with}
use Rattle.wait_rule.specs.Queues.{IsWholeBook, index, saw}
use Rattle.wait_rule.specs.Stays.{Carries, only_looks, state_change}
use Rattle.wait_rule.specs.Transitions.{OnlyLooks, IsSeenAs, is_worn}
use Rattle.wait_rule.specs.declared.journal.Item.TheVariants as item
use Rattle.wait_rule.proofs.{KnownLaws.Transitions.only_on, KnownLaws.Transitions.only_looked}
use Rattle.wait_rule.proofs.{WornHeads.WornNotes.notes_stay, KnownLaws.AfterSteps.told_added}
use Rattle.wq_head.specs.{declared.adds.Worn.Worn, Holds.IsHolding, Looks.Looks}
use Rattle.wq_head.proofs.{CarriedHolds.looks_carried, OneMoreLook.saw_looks, OneMoreLook.whole_of}
use Rattle.wait_class.specs.{Findings.saw_entry, Findings.with_worn, declared.stages.Run.Run, declared.stages.Turn.Turn}
use Rattle.wait_class.specs.Posts.{HasSeenOwn, IsStateFor, Post, Stands, own_of}
use Rattle.wait_class.specs.Laws.{HasJoined, HasShown, IsLawfulCallTable, IsWornFor, IsWornOut, LawOf, MayJoin}
use Rattle.wait_class.specs.Laws.{QueueLaw, is_quiet_event, mask_in, turn_post}
use Rattle.wait_class.specs.Tables.{head_in, IsAt, IsStop, CallTable, Turned, falls, post_of, watch_in}
use Rattle.wait_class.proofs.{Histories.unlocked_history, WornPlaces.whole_seen, WornPlaces.queue_same}
use Rattle.wait_class.proofs.Ground.Standing.{state_looks, state_stands, state_up, carried_stands, finds_own, seen_is}
use Rattle.wait_class.proofs.Ground.Standing.{seen_looks, seen_stands, seen_stored}
use Rattle.wait_class.proofs.CalmSteps.{calm_on, calm_saw, calm_step, told_stored}
use Rattle.wait_class.proofs.Entries.{at_is, head_is, holds_mid, none_in, post_head, post_ticket, shown_stands, shows}
use Rattle.wait_class.proofs.Entries.{stands_held}
use Rattle.wait_class.proofs.Locks.{back_looks, back_stands, back_up}
use Rattle.wait_class.proofs.Turns.{GoesOn, advance_by, moves_going, moves_quiet, stops_by}
use Rattle.wait_class.specs.declared.stages.Added.TheVariants as adds
use Rattle.wait_class.specs.declared.stages.Doing.TheVariants as doing

no_entry : (o : Option Entry) → ((e : Entry) → o ≡ Some e → None ≡ Some e) → o ≡ None
no_entry None never = refl
no_entry (Some e) never = let no = never e refl in absurd (cc)

none_some : (o : Option Entry) (e : Entry) → o ≡ None → o ≡ Some e → ⊥
none_some o e none some = let no : None ≡ Some e = sym none ∙ some in absurd (cc)

-- the note stays over the look and the unlock
note_on : (mid2 mid3 new : Known) (w : Worn) (o : Option Entry) (own2 : HasSeenOwn mid2 mid3 o)
    → new ≡ unlocked_with mid3 mid3.at false → WasWorn mid2.view.number mid2.view.items w.head w.place
    → WasWorn new.view.number new.view.items w.head w.place
note_on mid2 mid3 new w o own2 is noted =
    let x : Item = item.Made (saw mid2.book.head (index mid2.view.number 0) own2.word) in
    let u : Item = item.Made (step.Unlock mid3.at false) in
    let one = notes_stay mid2.view.number mid2.view.items (x ∷ []) w.head w.place noted in
    let two = notes_stay mid2.view.number (mid2.view.items ++ x ∷ []) (u ∷ []) w.head w.place one in
    let three = notes_stay mid2.view.number ((mid2.view.items ++ x ∷ []) ++ u ∷ []) (item.Served ∷ []) w.head w.place
    two in
    subst (λ (k : Known). WasWorn k.view.number k.view.items w.head w.place)
    (sym (is ∙ ap (λ (k : Known). unlocked_with k mid3.at false) own2.is)) three

module _ {C S O : Type 0} (t : CallTable C S O) (law : IsLawfulCallTable t) where
  queue_law : (r : C) (s : S) → t.doing s ≡ doing.Queue → QueueLaw t r s
  queue_law r s here = subst (λ d. LawOf d t r s) here (law.at r s)

  module _ (old mid : Known) (r : Run C) (s : S) (l : QueueLaw t r.of s) (a : IsAt t old r s) where
    abbrev p : Post
    p = post_of t r.of s

    abbrev h : ℕ
    h = head_in t r.of s

    abbrev i : ℕ
    i = index old.view.number 0

    abbrev form : Form
    form = (t.plan_of r.of).form

    held_head : p.head ≡ Some h
    held_head = post_head t old r s l.held l.opens.fresh a

    held_ticket : p.ticket ≡ taken h
    held_ticket = post_ticket t old r s l.held l.opens.fresh a

    held_at : old.at ≡ h
    held_at = at_is t old r s l.held l.opens.fresh a

    looked : (o : Option Entry) → HasSeenOwn old mid o → OnlyLooks old mid
    looked o own = seen_looks old mid o own h (head_is t old r s l.held l.opens.fresh a)

    -- it is queued still
    stay_stored : (e : Entry) (own : HasSeenOwn old mid (Some e)) (new : Known)
        → new ≡ added mid (item.Made (step.State (mask_in t r.of)))
        → is_some ((told_of new).bits.stored (own_of new)) ≡ true
    stay_stored e own new is = ap (λ (k : Known). is_some ((told_of new).bits.stored (own_of k))) is
        ∙ (ap (λ (v : Told). is_some (v.bits.stored (own_of mid)))
        (ap told_of is ∙ told_added mid (item.Made (step.State (mask_in t r.of))))
        ∙ (ap (λ (n : ℕ). is_some ((told_of mid).bits.stored (index n 0))) own.carries.number
        ∙ ap is_some (seen_is old mid (Some e) own)))

    stay_from : (e : Entry) (own : HasSeenOwn old mid (Some e)) (new : Known)
        → new ≡ added mid (item.Made (step.State (mask_in t r.of))) → Carries (state_change (mask_in t r.of)) mid new
        → GoesOn t old new r.of r.of s (t.added_to r.of s adds.Stayed)
    stay_from e own new is carries =
        let u = t.added_to r.of s adds.Stayed in
        let σ = mask_in t r.of in
        let moves = l.stays e in
        record {
          goes = moves_quiet t law r.of s (saw_entry (Some e)) (Unit {0}) (λ me k x. step.State σ)
              (λ me k x. HasShown me k (Some e)) u moves old.view.number old mid new tt refl (looked (Some e) own)
              (shows t old mid r s l.held l.opens a (Some e) own (Some e) refl) (state_looks mid new σ is carries);
          keeps = subst (λ (g : Bool). t.Keeps i (watch_in t r.of) (t.took s) g old new) moves.took
              (law.keeps.on i (watch_in t r.of) (t.took s) (t.took s) (t.took s) old mid new
              (law.keeps.own (watch_in t r.of) (t.took s) old mid (Some e) own)
              (law.keeps.state i (watch_in t r.of) (t.took s) mid new σ is carries));
          lands = record {
            up = state_up mid new σ is carries (own.carries.awake ∙ a.up);
            stands = state_stands mid new σ is carries p (turn_post t r.of u)
                (shown_stands t old mid r s l.opens a (Some e) own) (l.stays_leaves.head ∙ sym held_head)
                (l.stays_leaves.ticket ∙ sym held_ticket) l.stays_state l.stays_home;
            trail = l.stays_trail old new own.word
                (calm_on (step.Saw i own.word ∷ []) (step.State σ ∷ []) old mid new
                (calm_saw old mid (Some e) own h (head_is t old r s l.held l.opens.fresh a))
                (calm_step mid new (step.State σ) is (λ v. refl) (λ v d none. none) (λ m v. refl) (λ m b. refl)))
                (stay_stored e own new is) a.trail;
          };
        }

    -- it is queued
    join_from : (own : HasSeenOwn old mid None) (new : Known) → IsHolding new → HasJoined t r.of s mid new
        → GoesOn t old new r.of (t.joined_at r.of s) s (t.added_to r.of s adds.Joined)
    join_from own new held x =
        let u = t.added_to r.of s adds.Joined in
        let q = t.joined_at r.of s in
        let number = own.carries.number in
        let same : index mid.view.number 0 ≡ i = ap (λ (n : ℕ). index n 0) number in
        let at : x.seen.at ≡ h = ap (λ (k : Known). k.at) x.looks.is ∙ (own.carries.at ∙ held_at) in
        let is_new : new ≡ stored_with x.seen (step.Queue i x.entry) =
        x.is ∙ ap (λ (n : ℕ). stored_with x.seen (step.Queue n x.entry)) same in
        let carried = looks_carried mid x.seen x.looks in
        let m = shown_stands t old mid r s l.opens a None own in
        let head : (turn_post t q u).head ≡ p.head = l.joins_leaves.head ∙ sym held_head in
        record {
          goes = moves_going t r.of q s (saw_entry None) Entry (λ me k e. step.Queue (index me 0) e)
              (MayJoin h form ((t.plan_of r.of).given (t.point_of s))) u l.joins old.view.number old x.seen new
              x.entry
              (only_on old mid x.seen (looked None own)
              (only_looked mid x.seen x.looks.items x.looks.same x.looks.looks x.looks.is))
              (record {
                at = at;
                shows = subst (λ (n : ℕ). IsSeenAs ((told_of x.seen).hold.book (index n 0)) None) number
                    (subst (λ l. IsSeenAs l None) (sym x.is_off) refl);
                whole = x.whole;
                placed = x.placed;
                left = x.left;
              })
              (subst (OnlyLooks (added x.seen (item.Made (step.Queue i x.entry)))) (sym is_new)
              (record { items = item.Member ∷ []; looks = (tt, tt); is = refl }))
              (λ y did. l.joins_tells y i x.entry did);
          keeps = subst (λ (g : Bool). t.Keeps i (watch_in t r.of) (t.took s) g old new) l.joins.took
              (law.keeps.on i (watch_in t r.of) (t.took s) (t.took s) (t.took s) old mid new
              (law.keeps.own (watch_in t r.of) (t.took s) old mid None own)
              (subst (λ (n : ℕ). t.Keeps n (watch_in t r.of) (t.took s) (t.took s) mid new) same x.keeps));
          lands = record {
            up = ap (λ (k : Known). k.book.awake) is_new ∙ (carried.awake ∙ (own.carries.awake ∙ a.up));
            stands = record {
              head = ap (λ (k : Known). k.book.head) is_new ∙ (carried.head ∙ (m.head ∙ sym head));
              at = λ j here. ap (λ (k : Known). k.at) is_new
                  ∙ (ap (λ (k : Known). k.at) x.looks.is ∙ m.at j (sym head ∙ here));
              told = ap (λ (v : Told). v.hold.head) (told_stored x.seen new (step.Queue i x.entry) is_new)
                  ∙ (carried.hold ∙ (m.told ∙ sym head));
              ticket = ap (λ (k : Known). k.book.ticket) is_new
                  ∙ (carried.ticket ∙ (m.ticket ∙ (held_ticket ∙ sym l.joins_leaves.ticket)));
              agreed = λ j here. held.agreed;
              state = subst (IsStateFor (turn_post t q u).stirs (turn_post t q u).state)
                  (sym (ap (λ (k : Known). k.book.state) is_new ∙ carried.state)) (l.joins_state mid.book.state m.state);
              home = subst (λ (n : ℕ). IsHome (turn_post t q u).zone (turn_post t q u).watch
                  ((told_of new).bits.stored (index n 0)))
                  (sym (ap (λ (k : Known). k.view.number) is_new ∙ carried.number))
                  (subst (IsHome (turn_post t q u).zone (turn_post t q u).watch) (sym x.queued)
                  (l.joins_home x.entry x.home));
            };
            trail = l.joins_trail old mid new (looked None own) x a.trail;
          };
        }

    -- no place is left: behind one more look at the own entry the head is given back
    worn_from : (own : HasSeenOwn old mid None) (mid2 mid3 new : Known) (w : Worn) → IsWornFor t r.of mid mid2 w
        → IsHolding mid2 → (u : Option Entry) → HasSeenOwn mid2 mid3 u → new ≡ unlocked_with mid3 mid3.at false
        → WasWorn mid2.view.number mid2.view.items w.head w.place
        → GoesOn t old new r.of (t.worn_at r.of w.place) s (t.added_to r.of s adds.Worn)
    worn_from own mid2 mid3 new w x held2 u own2 is noted =
        let v = t.added_to r.of s adds.Worn in
        let carried = looks_carried mid mid2 x.looks in
        let n2 : mid2.view.number ≡ old.view.number = carried.number ∙ own.carries.number in
        let out : (told_of mid).bits.stored i ≡ None = seen_is old mid None own in
        let out2 : (told_of mid2).bits.stored i ≡ None = carried.out i refl out in
        let m : Stands mid (record p { zone = absent }) =
        seen_stands old mid None own p absent (stands_held t old r s l.held l.opens.fresh a) tt in
        let stands2 : Stands mid2 (record p { zone = absent }) = carried_stands only_looks mid mid2
        (record p { zone = absent }) (record p { zone = absent }) carried m (λ j at. held2.agreed) refl
        m.at refl m.state (subst (IsHome absent p.watch)
        (sym (ap (λ (n : ℕ). (told_of mid2).bits.stored (index n 0)) own.carries.number ∙ out2)) tt) in
        let none : u ≡ None = no_entry u (λ e some. sym (ap (λ (n : ℕ). (told_of mid2).bits.stored (index n 0)) n2 ∙
        out2) ∙ seen_stored mid2 mid3 u own2 e some) in
        let looks3 : Looks mid2 mid3 = saw_looks mid2 mid3 (index mid2.view.number 0) own2.word held2 own2.is
        own2.knew in
        let seen2 = whole_seen mid2 x.whole in
        let whole3 : IsWholeBook mid3 = whole_of mid3 (λ m low. looks3.from.still m (seen2 m low)) in
        let queue3 : shown_queue mid3 ≡ shown_queue mid2 = queue_same mid3 mid2
        (λ m low. looks3.from.places m (seen2 m low)) in
        let head2 : mid2.book.head ≡ Some h = stands2.head ∙ held_head in
        let stands3 : Stands mid3 (record p { zone = absent }) = seen_stands mid2 mid3 u own2
        (record p { zone = absent }) absent stands2 (subst (IsHome absent p.watch) (sym none) tt) in
        let number3 : mid3.view.number ≡ old.view.number = own2.carries.number ∙ n2 in
        let at3 : mid3.at ≡ h = stands3.at h held_head in
        record {
          goes = moves_going t r.of (t.worn_at r.of w.place) s (with_worn true) (Unit {0}) (λ me k x. step.Unlock k.at false)
              (λ me k x. IsWornOut h form me k) v l.wears old.view.number old mid3 new tt
              (only_on old mid2 mid3 (only_on old mid mid2 (looked None own)
              (only_looked mid mid2 x.looks.items x.looks.same x.looks.looks x.looks.is))
              (seen_looks mid2 mid3 u own2 h head2))
              (record {
                at = at3;
                shows = subst (λ (n : ℕ). IsSeenAs ((told_of mid3).hold.book (index n 0)) None) n2
                    (finds_own mid2 mid3 u own2 h head2 (stands2.told ∙ held_head)
                    (λ e some. absurd (none_some u e none some)) None none);
                whole = whole3;
                worn = ap (is_worn form) queue3 ∙ x.worn;
              })
              (back_looks t law mid3 new is)
              (λ y did. law.worn_tells r.of w.place y (ap is_quiet_event did));
          keeps = subst (λ (g : Bool). t.Keeps i (watch_in t r.of) (t.took s) g old new) l.wears.took
              (law.keeps.on i (watch_in t r.of) (t.took s) (t.took s) (t.took s) old mid3 new
              (law.keeps.on i (watch_in t r.of) (t.took s) (t.took s) (t.took s) old mid2 mid3
              (law.keeps.on i (watch_in t r.of) (t.took s) (t.took s) (t.took s) old mid mid2
              (law.keeps.own (watch_in t r.of) (t.took s) old mid None own)
              (law.keeps.looks i (watch_in t r.of) (t.took s) mid mid2 out x.looks))
              (subst (λ (n : ℕ). t.Keeps (index n 0) (watch_in t r.of) (t.took s) (t.took s) mid2 mid3) n2
              (law.keeps.own (watch_in t r.of) (t.took s) mid2 mid3 u own2)))
              (law.keeps.unlock i (watch_in t r.of) (t.took s) mid3 new is));
          lands = record {
            up = back_up t law mid3 new is (own2.carries.awake ∙ (carried.awake ∙ (own.carries.awake ∙ a.up)));
            stands = back_stands t law mid3 new is (record p { zone = absent }) (turn_post t (t.worn_at r.of w.place) v)
                stands3 (l.wears_leaves w.place).head (l.wears_leaves w.place).ticket
                (l.wears_state w.place mid3.book.state stands3.state)
                (none_in (turn_post t (t.worn_at r.of w.place) v).zone p.watch
                (turn_post t (t.worn_at r.of w.place) v).watch (l.wears_home w.place));
            trail = l.wears_trail old mid3 new w.place
                (only_on old mid2 mid3 (only_on old mid mid2 (looked None own)
                (only_looked mid mid2 x.looks.items x.looks.same x.looks.looks x.looks.is))
                (seen_looks mid2 mid3 u own2 h head2))
                (subst (λ (j : ℕ). WasWorn new.view.number new.view.items j w.place)
                (x.head ∙ (own.carries.at ∙ held_at)) (note_on mid2 mid3 new w u own2 is noted))
                (unlocked_history mid3 new is ∙ ap (λ (j : ℕ). history_of mid3 ++ step.Unlock j false ∷ []) at3)
                a.trail;
          };
        }

  -- for the code
  pub queue_out : (old mid : Known) (o : Option Entry) → HasSeenOwn old mid o → (b : Bool) → b ≡ is_some o → b ≡ false
      → (told_of mid).bits.stored (index mid.view.number 0) ≡ None
  queue_out old mid None own b tells miss = ap (λ (n : ℕ). (told_of mid).bits.stored (index n 0)) own.carries.number
      ∙ seen_is old mid None own
  queue_out old mid (Some e) own b tells miss = absurd (cc)

  pub queue_seen : (old mid : Known) (o : Option Entry) → HasSeenOwn old mid o → (b : Bool) → b ≡ is_some o → b ≡ false
      → HasSeenOwn old mid None
  queue_seen old mid None own b tells miss = own
  queue_seen old mid (Some e) own b tells miss = absurd (cc)

  pub queue_at : (old mid : Known) (r : Run C) (s : S) → t.doing s ≡ doing.Queue → IsAt t old r s → (o : Option Entry)
      → HasSeenOwn old mid o → head_in t r.of s ≡ mid.at
  queue_at old mid r s here a o own =
      let l = queue_law r.of s here in sym (own.carries.at ∙ at_is t old r s l.held l.opens.fresh a)

  pub mid_holds : (old mid : Known) (r : Run C) (s : S) → t.doing s ≡ doing.Queue → IsAt t old r s → (o : Option Entry)
      → HasSeenOwn old mid o → IsHolding mid
  mid_holds old mid r s here a o own =
      let l = queue_law r.of s here in holds_mid t old mid r s l.held l.opens a o own

  pub queue_may : (old mid : Known) (r : Run C) (s : S) → t.doing s ≡ doing.Queue → IsAt t old r s → (o : Option Entry)
      → HasSeenOwn old mid o → (σ : ℕ) → σ ≡ mask_in t r.of → MayStore σ mid
  queue_may old mid r s here a o own σ same =
      let l = queue_law r.of s here in
      subst (λ (n : ℕ). MayStore n mid) (sym same)
      (l.stays_may mid
      (subst (IsStateFor (post_of t r.of s).stirs (post_of t r.of s).state) (sym own.carries.state)
      (stands_held t old r s l.held l.opens.fresh a).state))

  pub stay_advances : (old mid new : Known) (r : Run C) (s : S) → t.doing s ≡ doing.Queue → IsAt t old r s
      → (o : Option Entry) → HasSeenOwn old mid o → (b : Bool) → b ≡ is_some o → b ≡ true → (σ : ℕ)
      → σ ≡ mask_in t r.of → new ≡ added mid (item.Made (step.State σ)) → Carries (state_change σ) mid new
      → (u : Turn S O) → u ≡ t.added_to r.of s adds.Stayed → Turned t old new r r s u
  stay_advances old mid new r s here a None own b tells hit σ same is carries u to = absurd (cc)
  stay_advances old mid new r s here a (Some e) own b tells hit σ same is carries u to =
      let l = queue_law r.of s here in
      subst (λ (v : Turn S O). Turned t old new r r s v) (sym to)
      (advance_by t old new r r s (t.added_to r.of s adds.Stayed) refl a.fits (l.stays e).plain
      (stay_from old mid r s l a e own new (is ∙ ap (λ (n : ℕ). added mid (item.Made (step.State n))) same)
      (subst (λ (n : ℕ). Carries (state_change n) mid new) same carries)))

  pub join_advances : (old mid new : Known) (r : Run C) (s : S) → t.doing s ≡ doing.Queue → IsAt t old r s
      → (o : Option Entry) → HasSeenOwn old mid o → (b : Bool) → b ≡ is_some o → b ≡ false → IsHolding new
      → HasJoined t r.of s mid new → (u : Turn S O) → u ≡ t.added_to r.of s adds.Joined
      → (q : C) → q ≡ t.joined_at r.of s → Turned t old new r (record r { of = q }) s u
  join_advances old mid new r s here a (Some e) own b tells miss held x u to q notes = absurd (cc)
  join_advances old mid new r s here a None own b tells miss held x u to q notes =
      let l = queue_law r.of s here in
      let joined = t.joined_at r.of s in
      subst (λ (d : C). Turned t old new r (record r { of = d }) s u) (sym notes)
      (subst (λ (v : Turn S O). Turned t old new r (record r { of = joined }) s v) (sym to)
      (advance_by t old new r (record r { of = joined }) s (t.added_to r.of s adds.Joined) l.joins_same
      (l.joins_fits a.fits) l.joins.plain (join_from old mid r s l a own new held x)))

  pub worn_advances : (old mid mid2 mid3 new : Known) (r : Run C) (s : S) → t.doing s ≡ doing.Queue → IsAt t old r s
      → (o : Option Entry) → HasSeenOwn old mid o → (b : Bool) → b ≡ is_some o → b ≡ false → (w : Worn)
      → IsWornFor t r.of mid mid2 w → IsHolding mid2 → (v : Option Entry) → HasSeenOwn mid2 mid3 v
      → new ≡ unlocked_with mid3 mid3.at false → WasWorn mid2.view.number mid2.view.items w.head w.place → (c : C)
      → c ≡ t.worn_at r.of w.place → (u : Turn S O) → u ≡ t.added_to r.of s adds.Worn
      → Turned t old new r (record r { of = c }) s u
  worn_advances old mid mid2 mid3 new r s here a (Some e) own b tells miss w x held2 v own2 is noted c kept u to =
      absurd (cc)
  worn_advances old mid mid2 mid3 new r s here a None own b tells miss w x held2 v own2 is noted c kept u to =
      let l = queue_law r.of s here in
      subst (λ (d : C). Turned t old new r (record r { of = d }) s u) (sym kept)
      (subst (λ (n : Turn S O). Turned t old new r (record r { of = t.worn_at r.of w.place }) s n) (sym to)
      (advance_by t old new r (record r { of = t.worn_at r.of w.place }) s (t.added_to r.of s adds.Worn)
      (law.worn r.of w.place) (law.worn_fits r.of w.place a.fits) l.wears.plain
      (worn_from old mid r s l a own mid2 mid3 new w x held2 v own2 is noted)))

  pub worn_owes : (old mid mid2 mid3 : Known) (r : Run C) (s : S) → t.doing s ≡ doing.Queue → IsAt t old r s
      → (o : Option Entry) → HasSeenOwn old mid o → Looks mid mid2 → mid2.at ≡ mid.at → (v : Option Entry)
      → HasSeenOwn mid2 mid3 v → OwesNoPermit mid3
  worn_owes old mid mid2 mid3 r s here a o own looks at v own2 =
      let l = queue_law r.of s here in
      let h = head_in t r.of s in
      let held = head_is t old r s l.held l.opens.fresh a in
      let head2 : mid2.book.head ≡ Some h =
      (looks_carried mid mid2 looks).head ∙ (own.carries.head ∙ held) in
      l.wears_permits old mid3 a.fits
      (only_on old mid2 mid3 (only_on old mid mid2 (seen_looks old mid o own h held)
      (only_looked mid mid2 looks.items looks.same looks.looks looks.is)) (seen_looks mid2 mid3 v own2 h head2))
      (own2.carries.at ∙ (at ∙ (own.carries.at ∙ at_is t old r s l.held l.opens.fresh a))) a.trail

  pub stay_falls : (r : C) (s : S) → t.doing s ≡ doing.Queue → (o : Option Entry) (b : Bool) → b ≡ is_some o
      → b ≡ true → (u : Turn S O) → u ≡ t.added_to r s adds.Stayed → falls t s u ≡ true
  stay_falls r s here None b some hit u to = absurd (cc)
  stay_falls r s here (Some e) b some hit u to = ap (falls t s) to ∙ ((queue_law r s here).stays e).falls

  pub join_falls : (r : C) (s : S) → t.doing s ≡ doing.Queue → (u : Turn S O) → u ≡ t.added_to r s adds.Joined
      → falls t s u ≡ true
  join_falls r s here u to = ap (falls t s) to ∙ (queue_law r s here).joins.falls

  pub worn_falls : (r : C) (s : S) → t.doing s ≡ doing.Queue → (u : Turn S O) → u ≡ t.added_to r s adds.Worn
      → falls t s u ≡ true
  worn_falls r s here u to = ap (falls t s) to ∙ (queue_law r s here).wears.falls

  pub worn_stops : (r : C) (s : S) → t.doing s ≡ doing.Queue → (u : Turn S O) → u ≡ t.added_to r s adds.Worn
      → IsStop t u
  worn_stops r s here u to =
      let l = queue_law r s here in
      subst (IsStop t) (sym to)
      (stops_by t (t.worn_at r 0) (t.added_to r s adds.Worn) l.wears.plain (l.wears_leaves 0).head)
