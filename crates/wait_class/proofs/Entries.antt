-- The own entry is looked at, outside of a hold and in one, and taken off where it is queued.
use Rattle.std.proofs.Common.{◌∙◌, ap, sym, refl, subst, inl}
use Rattle.std.specs.Prelude.{ℕ, ◌≡◌, Bool, true, false, is_some, Option, Some, None, [], ◌∷◌}
use Rattle.wait_model.specs.declared.steps.Step.TheVariants as step
use Rattle.wait_model.specs.{declared.watches.Entry.Entry, declared.watches.Watch.Watch, Watches.bare, Watches.head_of}
use Rattle.wait_model.specs.{Tasks.pending, Tasks.task_of, Words.entry_of}
use Rattle.wait_model.specs.PointFacts.{Zone, IsHome, absent, pages, parts, seated, stands, waits}
use Rattle.wait_rule.specs.{Tickets.taken, HandedPermits.OwesNoPermit, Items.Book, Known.Known, Transitions.OnlyLooks}
use Rattle.wait_rule.specs.Says.{added, told_of, unlocked_with}
use Rattle.wait_rule.specs.Queues.{MayUnqueue, index, saw}
use Rattle.wait_rule.specs.Stays.{Carries, take_off_change, unchanged}
use Rattle.wait_rule.specs.declared.journal.Item.TheVariants as item
use Rattle.wait_rule.proofs.KnownLaws.Transitions.{only_none}
use Rattle.wq_head.specs.{Adds.HasRemoved, Holds.IsHolding}
use Rattle.wait_class.specs.{Findings.saw_entry, Findings.with_own, declared.stages.Run.Run, declared.stages.Turn.Turn}
use Rattle.wait_class.specs.Posts.{HasSeenOwn, Stands, zone_at}
use Rattle.wait_class.specs.Laws.{GiveLaw, HasShown, HeedLaw, IsHeldStage, IsLawfulCallTable, MayBeQueued, LawOf}
use Rattle.wait_class.specs.Laws.{PareLaw, PeekLaw, may_be_queued, mask_in, Calm, turn_post}
use Rattle.wait_class.specs.Tables.{head_in, IsAt, IsStop, CallTable, Turned, falls, post_of, stage_watch, watch_in}
use Rattle.wait_class.proofs.Ground.Standing.{bare_head, carried_stands, finds_own, seen_book, seen_home, seen_is}
use Rattle.wait_class.proofs.Ground.Standing.{seen_looks, seen_shows, seen_stands, stands_with, still_stands}
use Rattle.wait_class.proofs.CalmSteps.{calm_on, calm_peek, calm_removed, calm_saw, calm_step, calm_unlock}
use Rattle.wait_class.proofs.Locks.{back_looks, back_stands, back_up}
use Rattle.wait_class.proofs.Turns.{GoesOn, advance_by, free_head, free_ticket, held_head, held_ticket, moves_quiet}
use Rattle.wait_class.proofs.Turns.{stands_plain, stops_by}
use Rattle.wait_class.specs.declared.stages.Doing.TheVariants as doing

-- what a stage says of the own entry
none_open : (z : Zone) → may_be_queued z ≡ true → (c : Watch) → IsHome z c None
none_open stands is c = absurd (cc)
none_open seated is c = absurd (cc)
none_open (parts k) is c = absurd (cc)
none_open _ is c = tt

watch_open : (z : Zone) → may_be_queued z ≡ true → (c : Watch) (e : Entry) → IsHome z c (Some e) → e.watch ≡ bare c
watch_open waits is c e h = h.0
watch_open pages is c e h = h.0
watch_open _ is c e h = absurd (cc)

pub none_in : (z : Zone) (c d : Watch) → IsHome z d None → (o : Option Entry) → IsHome absent c o → IsHome z d o
none_in z c d home None h = home
none_in z c d home (Some e) h = absurd h

module _ {C S O : Type 0} (t : CallTable C S O) where
  -- where the own entry is queued it is one of this call
  pub shown_home : (old mid : Known) (r : Run C) (s : S) → MayBeQueued t s → IsAt t old r s → (o : Option Entry)
      → HasSeenOwn old mid o → IsHome (post_of t r.of s).zone (stage_watch t r.of s) o
  shown_home old mid r s opens a None h = none_open (zone_at (t.point_of s)) opens.zone (stage_watch t r.of s)
  shown_home old mid r s opens a (Some e) h = seen_home old mid (Some e) h (post_of t r.of s)
      (stands_plain t old r s opens.fresh a.stands) e refl

  pub shown_stands : (old mid : Known) (r : Run C) (s : S) → MayBeQueued t s → IsAt t old r s → (o : Option Entry)
      → HasSeenOwn old mid o → Stands mid (post_of t r.of s)
  shown_stands old mid r s opens a o h = seen_stands old mid o h (post_of t r.of s) (post_of t r.of s).zone
      (stands_plain t old r s opens.fresh a.stands) (shown_home old mid r s opens a o h)

  -- the head that is held
  module _ (old : Known) (r : Run C) (s : S) (held : IsHeldStage t r.of s) (fresh : t.drawn s ≡ false) (a : IsAt t old r s)
    where
      pub post_head : (post_of t r.of s).head ≡ Some (head_in t r.of s)
      post_head = held_head None (t.plan_of r.of) (t.point_of s) held.holds ∙ ap Some held.head

      pub post_ticket : (post_of t r.of s).ticket ≡ taken (head_in t r.of s)
      post_ticket = held_ticket None (t.plan_of r.of) (t.point_of s) held.holds ∙ ap taken held.head

      pub stands_held : Stands old (post_of t r.of s)
      stands_held = stands_plain t old r s fresh a.stands

      pub head_is : old.book.head ≡ Some (head_in t r.of s)
      head_is = stands_held.head ∙ post_head

      pub told_is : (told_of old).hold.head ≡ Some (head_in t r.of s)
      told_is = stands_held.told ∙ post_head

      pub at_is : old.at ≡ head_in t r.of s
      at_is = stands_held.at (head_in t r.of s) post_head

  -- the program finds the own entry so
  module _ (old mid : Known) (r : Run C) (s : S) (held : IsHeldStage t r.of s) (opens : MayBeQueued t s) (a : IsAt t old r s)
      (o : Option Entry) (h : HasSeenOwn old mid o) where
    entry_here : (e : Entry) → o ≡ Some e → head_of e.watch ≡ head_in t r.of s
    entry_here e is = ap head_of (watch_open (zone_at (t.point_of s)) opens.zone (stage_watch t r.of s) e
        (subst (IsHome (post_of t r.of s).zone (stage_watch t r.of s)) is (shown_home old mid r s opens a o h)))
        ∙ bare_head (stage_watch t r.of s)

    pub shows : (f : Option Entry) → o ≡ f → HasShown old.view.number mid f
    shows f is = finds_own old mid o h (head_in t r.of s) (head_is old r s held opens.fresh a)
        (told_is old r s held opens.fresh a) entry_here f is

    pub may_take : (e : Entry) → o ≡ Some e → (me : ℕ) → me ≡ old.view.number → MayUnqueue mid me 0
    may_take e is me mine = record {
      entry = e;
      shows = ap (λ (n : ℕ). (told_of mid).hold.book (index n 0)) mine
          ∙ seen_shows old mid o h (head_in t r.of s) (head_is old r s held opens.fresh a)
          (told_is old r s held opens.fresh a) e is (entry_here e is);
      may = inl (mine ∙ sym h.carries.number);
    }

    -- in a hold still
    pub holds_mid : IsHolding mid
    holds_mid =
        let at = h.carries.at ∙ at_is old r s held opens.fresh a in
        record {
          locked = h.carries.head ∙ (head_is old r s held opens.fresh a ∙ ap Some (sym at));
          agreed = ap (λ (b : Book). b.differs) (seen_book old mid o h)
              ∙ (stands_held old r s held opens.fresh a).agreed (head_in t r.of s)
              (post_head old r s held opens.fresh a);
          told = h.carries.hold ∙ (told_is old r s held opens.fresh a ∙ ap Some (sym at));
        }

  module _ (law : IsLawfulCallTable t) where
    peek_law : (r : C) (s : S) → t.doing s ≡ doing.Peek → (o : Option Entry) → PeekLaw t r s o
    peek_law r s here = subst (λ d. LawOf d t r s) here (law.at r s)

    pub pare_law : (r : C) (s : S) → t.doing s ≡ doing.Pare → PareLaw t r s
    pare_law r s here = subst (λ d. LawOf d t r s) here (law.at r s)

    -- outside of a hold
    peek_from : (old new : Known) (r : Run C) (s : S) (o : Option Entry) (l : PeekLaw t r.of s o) → IsAt t old r s
        → HasSeenOwn old new o → GoesOn t old new r.of r.of s (t.found_to r.of s (is_some o))
    peek_from old new r s o l a h =
        let u = t.found_to r.of s (is_some o) in
        let p = post_of t r.of s in
        let i = index old.view.number 0 in
        let free = free_head None (t.plan_of r.of) (t.point_of s) l.free in
        let none : old.book.head ≡ None = (stands_plain t old r s l.opens.fresh a.stands).head ∙ free in
        let is : new ≡ added old (item.Made (step.Peek i h.word)) =
        h.is ∙ ap (λ (q : Option ℕ). added old (item.Made (saw q i h.word))) none in
        let w : Stands new p = shown_stands old new r s l.opens a o h in
        record {
          goes = moves_quiet t law r.of s (saw_entry o) ℕ (λ me k w. step.Peek (index me 0) w)
              (λ me k w. o ≡ entry_of w) u l.moves old.view.number old old new h.word refl (only_none old) h.reads
              (subst (OnlyLooks (added old (item.Made (step.Peek i h.word)))) (sym is)
              (only_none (added old (item.Made (step.Peek i h.word)))));
          keeps = subst (λ (g : Bool). t.Keeps i (watch_in t r.of) (t.took s) g old new) l.moves.took
              (law.keeps.own (watch_in t r.of) (t.took s) old new o h);
          lands = record {
            up = h.carries.awake ∙ a.up;
            stands = stands_with new p (turn_post t r.of u) w (l.leaves.head ∙ sym free)
                (l.leaves.ticket ∙ sym (free_ticket None (t.plan_of r.of) (t.point_of s) l.free))
                (l.state new.book.state w.state)
                (subst (IsHome (turn_post t r.of u).zone (turn_post t r.of u).watch)
                (sym (ap (λ (n : ℕ). (told_of new).bits.stored (index n 0)) h.carries.number ∙ seen_is old new o h))
                (l.home (shown_home old new r s l.opens a o h)));
            trail = l.trail old new h.word (calm_peek old new o h none) (ap is_some (sym h.reads)) a.trail;
          };
        }

    pub peek_advances : (old new : Known) (r : Run C) (s : S) → t.doing s ≡ doing.Peek → IsAt t old r s
        → (o : Option Entry) → HasSeenOwn old new o → (u : Turn S O) → u ≡ t.found_to r.of s (is_some o)
        → Turned t old new r r s u
    peek_advances old new r s here a o h u to =
        let l = peek_law r.of s here o in
        subst (λ (v : Turn S O). Turned t old new r r s v) (sym to)
        (advance_by t old new r r s (t.found_to r.of s (is_some o)) refl a.fits l.moves.plain
        (peek_from old new r s o l a h))

    pub peek_falls : (r : C) (s : S) → t.doing s ≡ doing.Peek → (o : Option Entry) (u : Turn S O)
        → u ≡ t.found_to r s (is_some o) → falls t s u ≡ true
    peek_falls r s here o u to = ap (falls t s) to ∙ (peek_law r s here o).moves.falls

    -- in a hold: taken off
    takes_from : (old mid new : Known) (r : Run C) (s : S) (e : Entry) (l : PareLaw t r.of s) → IsAt t old r s
        → HasSeenOwn old mid (Some e) → HasRemoved mid new old.view.number 0 → IsHolding new
        → GoesOn t old new r.of r.of s (t.found_to r.of s true)
    takes_from old mid new r s e l a h x holds_new =
        let u = t.found_to r.of s true in
        let p = post_of t r.of s in
        let i = index old.view.number 0 in
        let m = shown_stands old mid r s l.opens a (Some e) h in
        let head : (turn_post t r.of u).head ≡ p.head = l.takes_leaves.head
        ∙ sym (post_head old r s l.held l.opens.fresh a) in
        let moves = l.takes e in
        record {
          goes = moves_quiet t law r.of s (saw_entry (Some e)) (Unit {0}) (λ me k w. step.Unqueue (index me 0))
              (λ me k w. HasShown me k (Some e)) u moves old.view.number old mid new tt refl
              (seen_looks old mid (Some e) h (head_in t r.of s) (head_is old r s l.held l.opens.fresh a))
              (shows old mid r s l.held l.opens a (Some e) h (Some e) refl)
              (subst (OnlyLooks (added mid (item.Made (step.Unqueue i)))) (sym x.is)
              (record { items = item.Member ∷ []; looks = (tt, tt); is = refl }));
          keeps = subst (λ (g : Bool). t.Keeps i (watch_in t r.of) (t.took s) g old new) moves.took
              (law.keeps.on i (watch_in t r.of) (t.took s) (t.took s) (t.took s) old mid new
              (law.keeps.own (watch_in t r.of) (t.took s) old mid (Some e) h)
              (law.keeps.removed i (watch_in t r.of) (t.took s) mid new x.is x.carries));
          lands = record {
            up = x.carries.awake ∙ (h.carries.awake ∙ a.up);
            stands = carried_stands (take_off_change i) mid new p (turn_post t r.of u)
                x.carries m (λ j at. holds_new.agreed) (sym head) (λ j at. m.at j (sym head ∙ at))
                (post_ticket old r s l.held l.opens.fresh a ∙ sym l.takes_leaves.ticket)
                (l.takes_state mid.book.state m.state)
                (subst (IsHome (turn_post t r.of u).zone (turn_post t r.of u).watch)
                (sym (ap (λ (n : ℕ). (told_of new).bits.stored (index n 0)) h.carries.number ∙ x.out))
                l.takes_home);
            trail = l.takes_trail old new h.word
                (calm_on (step.Saw i h.word ∷ []) (step.Unqueue i ∷ []) old mid new
                (calm_saw old mid (Some e) h (head_in t r.of s) (head_is old r s l.held l.opens.fresh a))
                (calm_removed mid new i x.is)) (ap is_some (sym h.reads)) a.trail;
          };
        }

    -- not queued: the head is given back
    gives_from : (old mid new : Known) (r : Run C) (s : S) (held : IsHeldStage t r.of s) (opens : MayBeQueued t s)
        (l : GiveLaw t r.of s) → IsAt t old r s
        → HasSeenOwn old mid None → new ≡ unlocked_with mid mid.at false
        → GoesOn t old new r.of r.of s (t.found_to r.of s false)
    gives_from old mid new r s held opens l a h is =
        let u = t.found_to r.of s false in
        let p = post_of t r.of s in
        let i = index old.view.number 0 in
        let m = seen_stands old mid None h p absent (stands_plain t old r s opens.fresh a.stands) tt in
        let at : mid.at ≡ head_in t r.of s = h.carries.at ∙ at_is old r s held opens.fresh a in
        record {
          goes = moves_quiet t law r.of s (saw_entry None) (Unit {0}) (λ me k w. step.Unlock k.at false)
              (λ me k w. (k.at ≡ head_in t r.of s) × HasShown me k None) u l.moves old.view.number old mid new tt refl
              (seen_looks old mid None h (head_in t r.of s) (head_is old r s held opens.fresh a))
              (at, shows old mid r s held opens a None h None refl) (back_looks t law mid new is);
          keeps = subst (λ (g : Bool). t.Keeps i (watch_in t r.of) (t.took s) g old new) l.moves.took
              (law.keeps.on i (watch_in t r.of) (t.took s) (t.took s) (t.took s) old mid new
              (law.keeps.own (watch_in t r.of) (t.took s) old mid None h)
              (law.keeps.unlock i (watch_in t r.of) (t.took s) mid new is));
          lands = record {
            up = back_up t law mid new is (h.carries.awake ∙ a.up);
            stands = back_stands t law mid new is (record p { zone = absent }) (turn_post t r.of u) m
                l.leaves.head l.leaves.ticket (l.state mid.book.state m.state)
                (none_in (turn_post t r.of u).zone p.watch (turn_post t r.of u).watch l.home);
            trail = l.trail old new h.word
                (calm_on (step.Saw i h.word ∷ []) (step.Unlock (head_in t r.of s) false ∷ []) old mid new
                (calm_saw old mid None h (head_in t r.of s) (head_is old r s held opens.fresh a))
                (subst (λ (j : ℕ). Calm (step.Unlock j false ∷ []) mid new) at (calm_unlock mid new is)))
                (ap is_some (sym h.reads)) a.trail;
          };
        }

    pub not_there : (old mid new : Known) (r : Run C) (s : S) (held : IsHeldStage t r.of s) (opens : MayBeQueued t s)
        (l : GiveLaw t r.of s) → IsAt t old r s → (o : Option Entry) → HasSeenOwn old mid o → (b : Bool) → b ≡ is_some o
        → b ≡ false → new ≡ unlocked_with mid mid.at false → (u : Turn S O) → u ≡ t.found_to r.of s false
        → Turned t old new r r s u
    not_there old mid new r s held opens l a (Some e) h b some miss is u to = absurd (cc)
    not_there old mid new r s held opens l a None h b some miss is u to =
        subst (λ (v : Turn S O). Turned t old new r r s v) (sym to)
        (advance_by t old new r r s (t.found_to r.of s false) refl a.fits l.moves.plain
        (gives_from old mid new r s held opens l a h is))

    pub pare_may : (old mid : Known) (r : Run C) (s : S) → t.doing s ≡ doing.Pare → IsAt t old r s → (o : Option Entry)
        → HasSeenOwn old mid o → is_some o ≡ true → (me : ℕ) → me ≡ old.view.number → MayUnqueue mid me 0
    pare_may old mid r s here a None h some me mine = absurd (cc)
    pare_may old mid r s here a (Some e) h some me mine =
        let l = pare_law r.of s here in may_take old mid r s l.held l.opens a (Some e) h e refl me mine

    pub takes_advances : (old mid new : Known) (r : Run C) (s : S) → t.doing s ≡ doing.Pare → IsAt t old r s
        → (o : Option Entry) → HasSeenOwn old mid o → (b : Bool) → b ≡ is_some o → b ≡ true → (me : ℕ)
        → me ≡ old.view.number → HasRemoved mid new me 0 → IsHolding new → (u : Turn S O) → u ≡ t.found_to r.of s true
        → Turned t old new r r s u
    takes_advances old mid new r s here a None h b some hit me mine x held u to = absurd (cc)
    takes_advances old mid new r s here a (Some e) h b some hit me mine x held u to =
        let l = pare_law r.of s here in
        subst (λ (v : Turn S O). Turned t old new r r s v) (sym to)
        (advance_by t old new r r s (t.found_to r.of s true) refl a.fits (l.takes e).plain
        (takes_from old mid new r s e l a h (subst (λ (n : ℕ). HasRemoved mid new n 0) mine x) held))

    pub takes_falls : (r : C) (s : S) → t.doing s ≡ doing.Pare → (o : Option Entry) (b : Bool) → b ≡ is_some o
        → b ≡ true → (u : Turn S O) → u ≡ t.found_to r s true → falls t s u ≡ true
    takes_falls r s here None b some hit u to = absurd (cc)
    takes_falls r s here (Some e) b some hit u to = ap (falls t s) to ∙ ((pare_law r s here).takes e).falls

    pub gives_falls : (r : C) (s : S) → t.doing s ≡ doing.Pare → (u : Turn S O) → u ≡ t.found_to r s false
        → falls t s u ≡ true
    gives_falls r s here u to = ap (falls t s) to ∙ (pare_law r s here).gives.moves.falls

    gives_stops : (r : C) (s : S) → GiveLaw t r s → (u : Turn S O) → u ≡ t.found_to r s false → IsStop t u
    gives_stops r s l u to = subst (IsStop t) (sym to)
        (stops_by t r (t.found_to r s false) l.moves.plain l.leaves.head)

    pub pare_stops : (r : C) (s : S) → t.doing s ≡ doing.Pare → (u : Turn S O) → u ≡ t.found_to r s false → IsStop t u
    pare_stops r s here u to = gives_stops r s (pare_law r s here).gives u to

    pub pare_holds : (old mid : Known) (r : Run C) (s : S) → t.doing s ≡ doing.Pare → IsAt t old r s
        → (o : Option Entry) → HasSeenOwn old mid o → IsHolding mid
    pare_holds old mid r s here a o h =
        let l = pare_law r.of s here in holds_mid old mid r s l.held l.opens a o h

    pub pare_owes : (old mid : Known) (r : Run C) (s : S) → t.doing s ≡ doing.Pare → IsAt t old r s → (o : Option Entry)
        → HasSeenOwn old mid o → OwesNoPermit mid
    pare_owes old mid r s here a o h =
        let l = pare_law r.of s here in
        l.gives.permits old mid h.word
        (calm_saw old mid o h (head_in t r.of s) (head_is old r s l.held l.opens.fresh a)) a.fits
        (h.carries.at ∙ at_is old r s l.held l.opens.fresh a) a.trail

    -- queued: a look for a signal
    pub heed_law : (r : C) (s : S) → t.doing s ≡ doing.Heed → HeedLaw t r s
    heed_law r s here = subst (λ d. LawOf d t r s) here (law.at r s)

    heeds_from : (old mid new : Known) (r : Run C) (s : S) (e : Entry) (hit : Bool) (w : ℕ) (l : HeedLaw t r.of s)
        → IsAt t old r s → HasSeenOwn old mid (Some e) → pending (mask_in t r.of) (task_of w) ≡ hit
        → new ≡ added mid (item.Made (step.Look w)) → Carries unchanged mid new
        → GoesOn t old new r.of r.of s (t.heeded_to r.of s hit)
    heeds_from old mid new r s e hit w l a h tells is carries =
        let u = t.heeded_to r.of s hit in
        let p = post_of t r.of s in
        let i = index old.view.number 0 in
        let m = shown_stands old mid r s l.opens a (Some e) h in
        let head : (turn_post t r.of u).head ≡ p.head = (l.leaves hit).head
        ∙ sym (post_head old r s l.held l.opens.fresh a) in
        let moves = l.looks hit e w tells in
        record {
          goes = moves_quiet t law r.of s (record (with_own (task_of w)) { entry = Some e }) (Unit {0})
              (λ me k x. step.Look w) (λ me k x. HasShown me k (Some e)) u moves old.view.number old mid new tt refl
              (seen_looks old mid (Some e) h (head_in t r.of s) (head_is old r s l.held l.opens.fresh a))
              (shows old mid r s l.held l.opens a (Some e) h (Some e) refl)
              (subst (OnlyLooks (added mid (item.Made (step.Look w)))) (sym is)
              (only_none (added mid (item.Made (step.Look w)))));
          keeps = subst (λ (g : Bool). t.Keeps i (watch_in t r.of) (t.took s) g old new) moves.took
              (law.keeps.on i (watch_in t r.of) (t.took s) (t.took s) (t.took s) old mid new
              (law.keeps.own (watch_in t r.of) (t.took s) old mid (Some e) h)
              (law.keeps.look i (watch_in t r.of) (t.took s) mid new w is carries));
          lands = record {
            up = carries.awake ∙ (h.carries.awake ∙ a.up);
            stands = still_stands unchanged mid new p (turn_post t r.of u) carries m
                (λ j at. ap (λ (k : Known). k.book.differs) is ∙ m.agreed j (sym head ∙ at)) refl (λ x. refl)
                (sym head) (λ j at. m.at j (sym head ∙ at))
                (post_ticket old r s l.held l.opens.fresh a ∙ sym (l.leaves hit).ticket)
                (l.state hit mid.book.state m.state) (l.home hit);
            trail = l.trail hit old new h.word w tells
                (calm_on (step.Saw i h.word ∷ []) (step.Look w ∷ []) old mid new
                (calm_saw old mid (Some e) h (head_in t r.of s) (head_is old r s l.held l.opens.fresh a))
                (calm_step mid new (step.Look w) is (λ v. refl) (λ v d none. none) (λ m v. refl) (λ m b. refl))) a.trail;
          };
        }

    pub heeds_advances : (old mid new : Known) (r : Run C) (s : S) → t.doing s ≡ doing.Heed → IsAt t old r s
        → (o : Option Entry) → HasSeenOwn old mid o → (b : Bool) → b ≡ is_some o → b ≡ true → (w : ℕ)
        → new ≡ added mid (item.Made (step.Look w)) → Carries unchanged mid new → (hit : Bool)
        → hit ≡ pending (mask_in t r.of) (task_of w) → (u : Turn S O) → u ≡ t.heeded_to r.of s hit
        → Turned t old new r r s u
    heeds_advances old mid new r s here a None h b some sure w is carries hit tells u to = absurd (cc)
    heeds_advances old mid new r s here a (Some e) h b some sure w is carries hit tells u to =
        let l = heed_law r.of s here in
        subst (λ (v : Turn S O). Turned t old new r r s v) (sym to)
        (advance_by t old new r r s (t.heeded_to r.of s hit) refl a.fits (l.looks hit e w (sym tells)).plain
        (heeds_from old mid new r s e hit w l a h (sym tells) is carries))

    pub heeds_falls : (r : C) (s : S) → t.doing s ≡ doing.Heed → (o : Option Entry) (b : Bool) → b ≡ is_some o
        → b ≡ true → (w : ℕ) (hit : Bool) → hit ≡ pending (mask_in t r) (task_of w) → (u : Turn S O)
        → u ≡ t.heeded_to r s hit → falls t s u ≡ true
    heeds_falls r s here None b some sure w hit tells u to = absurd (cc)
    heeds_falls r s here (Some e) b some sure w hit tells u to = ap (falls t s) to
        ∙ ((heed_law r s here).looks hit e w (sym tells)).falls

    pub off_falls : (r : C) (s : S) → t.doing s ≡ doing.Heed → (u : Turn S O) → u ≡ t.found_to r s false
        → falls t s u ≡ true
    off_falls r s here u to = ap (falls t s) to ∙ (heed_law r s here).gives.moves.falls

    pub heed_stops : (r : C) (s : S) → t.doing s ≡ doing.Heed → (u : Turn S O) → u ≡ t.found_to r s false → IsStop t u
    heed_stops r s here u to = gives_stops r s (heed_law r s here).gives u to

    pub heed_holds : (old mid : Known) (r : Run C) (s : S) → t.doing s ≡ doing.Heed → IsAt t old r s
        → (o : Option Entry) → HasSeenOwn old mid o → IsHolding mid
    heed_holds old mid r s here a o h = let l = heed_law r.of s here in holds_mid old mid r s l.held l.opens a o h

    pub heed_owes : (old mid : Known) (r : Run C) (s : S) → t.doing s ≡ doing.Heed → IsAt t old r s
        → (o : Option Entry) → HasSeenOwn old mid o → OwesNoPermit mid
    heed_owes old mid r s here a o h =
        let l = heed_law r.of s here in
        l.gives.permits old mid h.word
        (calm_saw old mid o h (head_in t r.of s) (head_is old r s l.held l.opens.fresh a)) a.fits
        (h.carries.at ∙ at_is old r s l.held l.opens.fresh a) a.trail
