-- The steps of a prepare and a finish in their hold: the look for a signal, the removal and the add.
use Rattle.std.proofs.Common.{◌∙◌, ap, sym, refl, subst, inl}
use Rattle.std.specs.Prelude.{ℕ, ◌≡◌, ◌==◌, Bool, true, false, if◌then◌else◌, is_some, Option, Some, None, Result, Ok, Err}
use Rattle.std.specs.Prelude.{[], ◌∷◌}
use Rattle.wait_model.specs.{declared.points.Point.Point, declared.points.Next.Next, declared.points.Seen.Seen}
use Rattle.wait_model.specs.{declared.queues.Form.Form, declared.watches.Entry.Entry, declared.watches.Watch.Watch}
use Rattle.wait_model.specs.{Views.Look, Watches.bare, Watches.head_of}
use Rattle.wait_model.specs.Tasks.{looks_in, pending, state_mask, task_of}
use Rattle.wait_model.specs.declared.points.Point.TheVariants as at
use Rattle.wait_model.specs.declared.points.PreparePoint.TheVariants as preparing
use Rattle.wait_model.specs.declared.points.Next.TheVariants as next
use Rattle.wait_model.specs.declared.steps.Step.TheVariants as step
use Rattle.wait_rule.specs.{declared.journal.Item.Item, Ends.WasWorn, Known.Known, Asked.after_item}
use Rattle.wait_rule.specs.Queues.{MayUnqueue, index, saw}
use Rattle.wait_rule.specs.Says.{Excuse, OwesBut, added, asks_for, stored_with, told_of}
use Rattle.wait_rule.specs.Stays.{Carries, no_entries, only, queue_change, state_change, take_off_change, unchanged}
use Rattle.wait_rule.specs.Stays.{with_entry}
use Rattle.wait_rule.specs.Transitions.{Finds, Goes, IsMadeFor, IsSeenAs, OnlyLooks, Program, StepOrLook}
use Rattle.wait_rule.specs.Transitions.{after_step_or_look, by_step, is_worn}
use Rattle.wait_rule.specs.declared.journal.Item.TheVariants as item
use Rattle.wait_rule.proofs.{KnownLaws.AskedPages.asked_added, KnownLaws.AskedPages.asks_nothing}
use Rattle.wait_rule.proofs.{KnownLaws.CarriedTasks.unchanged_none, KnownLaws.MemberBits.bit_looks}
use Rattle.wait_rule.proofs.{KnownLaws.StayingParts.owes_also, WornHeads.WornNotes.notes_stay}
use Rattle.wait_rule.proofs.KnownLaws.Transitions.{goes_none, only_looked, only_none, only_on}
use Rattle.wq_head.specs.{declared.adds.Worn.Worn, Holds.IsHolding, Looks.Looks}
use Rattle.wq_head.specs.Adds.{HasAdded, HasRemoved, IsFormPlace, IsFormWorn}
use Rattle.wq_head.proofs.{CarriedHolds.looks_carried, OneMoreLook.saw_looks, OneMoreLook.whole_of}
use Rattle.wait_class.specs.Findings.{saw_nothing, with_own, saw_entry as finds}
use Rattle.wait_class.specs.Posts.{HasSeenOwn, Keeps, Runs, own_of}
use Rattle.wait_class.specs.Queueing.{TellsFirst, form_entry, wait_form}
use Rattle.wait_class.proofs.{Ground.Going.runs_on, Ground.Going.runs_one, Ground.Keeping.keeps_of, Ground.Keeping.once}
use Rattle.wait_class.proofs.{Histories.and_left, WornPlaces.queue_same, WornPlaces.whole_seen}
use Rattle.wait_class.proofs.FormPlaces.{first_later, form_is, form_left, form_worn}
use Rattle.wait_class.proofs.Ground.Standing.{bare_head, finds_own, seen_is, seen_looks, seen_shows, seen_stored}
use Rattle.wait_class.proofs.Ground.Standing.{state_looks}
use Rattle.wait_event.specs.Prepares.{IsPart, answers_first}
use Rattle.wait_event.specs.WaitPlans.{behind_prepare}
use Rattle.wait_event.specs.PartSteps.{HasJoinedPart, Heeds, IsAtHead, IsWornPart, JoinsPart, PartCarries, ParesPart, asks_one, part_looked_to, part_change, program_of}
use Rattle.wait_event.specs.declared.prepares.Part.{Part}

-- what a step carries on, but for the own entry and the state
pub part_of : (from to : Excuse → Excuse) (but : ℕ → Bool) (looks : Bool) (s : ℕ → ℕ) (i : ℕ) (old new : Known)
    → Carries (record unchanged { from = from; to = to; but = but; looks = looks; state = s }) old new
    → ((x : ℕ) → (x == i) ≡ false → but x ≡ false)
    → ((x : Excuse) → OwesBut (with_entry i x) old → OwesBut (with_entry i x) new) → Carries (part_change i s) old new
part_of from to but looks s i old new c away owes = record {
  domain = c.domain;
  number = c.number;
  awake = c.awake;
  state = c.state;
  head = c.head;
  ticket = c.ticket;
  hold = c.hold;
  at = c.at;
  mark = c.mark;
  fewer = c.fewer;
  stored = λ x none is. absurd (cc);
  out = λ x other is. c.out x (away x other) is;
  stands = λ slot few other e is own. c.stands slot few (away (index old.view.number slot) other) e is own;
  keeps = c.keeps;
  owes = owes;
}

parts_on : (i : ℕ) (s t : ℕ → ℕ) (a b c : Known) → Carries (part_change i s) a b → Carries (part_change i t) b c
    → Carries (part_change i (λ σ. t (s σ))) a c
parts_on i s t a b c one two = record {
  domain = two.domain ∙ one.domain;
  number = two.number ∙ one.number;
  awake = two.awake ∙ one.awake;
  state = two.state ∙ ap t one.state;
  head = two.head ∙ one.head;
  ticket = two.ticket ∙ one.ticket;
  hold = two.hold ∙ one.hold;
  at = two.at ∙ one.at;
  mark = two.mark ∙ one.mark;
  fewer = λ w σ p is. two.fewer w σ refl (one.fewer w σ refl is);
  stored = λ x none is. absurd (cc);
  out = λ x other is. two.out x other (one.out x other is);
  stands = λ slot few other e is own. subst (λ (n : ℕ). (told_of c).bits.stored (index n slot) ≡ Some e) one.number
      (two.stands slot few (ap (λ (n : ℕ). only i (index n slot)) one.number ∙ other) e
      (subst (λ (n : ℕ). (told_of b).bits.stored (index n slot) ≡ Some e) (sym one.number)
      (one.stands slot few other e is own)) own);
  keeps = λ d p. two.keeps d refl ∙ one.keeps d refl;
  owes = λ x o. two.owes x (one.owes x o);
}

pub part_on : (s t : ℕ → ℕ) (a b c : Known) → PartCarries s a b → PartCarries t b c → PartCarries (λ σ. t (s σ)) a c
part_on s t a b c one two = parts_on (own_of a) s t a b c one
    (subst (λ (n : ℕ). Carries (part_change (index n 0) t) b c) one.number two)

pub part_keeps : (s : ℕ → ℕ) (a b : Known) → PartCarries s a b → Keeps (own_of a) a b
part_keeps s a b c = keeps_of (own_of a) (part_change (own_of a) s) a b c (λ w. refl) (λ x other. other) (λ x. c.owes x)

-- of a look at the own entry, of looks at members, of a stored state, of an entry that is queued, and of one that is
-- taken off
pub own_part : (a b : Known) (o : Option Entry) → HasSeenOwn a b o → PartCarries (λ σ. σ) a b
own_part a b o h = part_of (λ x. x) (λ x. x) no_entries true (λ σ. σ) (own_of a) a b h.carries (λ x other. refl)
    (λ x. h.carries.owes (with_entry (own_of a) x))

looks_part : (a b : Known) → Looks a b → PartCarries (λ σ. σ) a b
looks_part a b l =
    let c = looks_carried a b l in
    part_of (λ x. x) (λ x. x) no_entries true (λ σ. σ) (own_of a) a b c (λ x other. refl)
    (λ x. c.owes (with_entry (own_of a) x))

state_part : (a b : Known) (τ : ℕ) → Carries (state_change τ) a b → PartCarries (λ _. τ) a b
state_part a b τ c = part_of (λ x. x) (λ x. x) no_entries false (λ _. τ) (own_of a) a b c (λ x other. refl)
    (λ x. c.owes (with_entry (own_of a) x))

queue_part : (a b : Known) → Carries (queue_change (own_of a)) a b → PartCarries (λ σ. σ) a b
queue_part a b c = part_of (λ x. x) (with_entry (own_of a)) (only (own_of a)) true (λ σ. σ) (own_of a) a b c
    (λ x other. other) (λ x o. once (own_of a) x b (c.owes (with_entry (own_of a) x) o))

take_part : (a b : Known) → Carries (take_off_change (own_of a)) a b → PartCarries (λ σ. σ) a b
take_part a b c = part_of (with_entry (own_of a)) (λ x. x) (only (own_of a)) false (λ σ. σ) (own_of a) a b c
    (λ x other. other) (λ x o. owes_also (own_of a) x b (c.owes x o))

pub still_part : (a b : Known) → Carries unchanged a b → PartCarries (λ σ. σ) a b
still_part a b c = part_of (λ x. x) (λ x. x) no_entries false (λ σ. σ) (own_of a) a b c (λ x other. refl)
    (λ x. c.owes (with_entry (own_of a) x))

-- One event of a program: what is made at a point, by what was found there, and where the program goes on.
pub record IsPlanned (f : Program) (q : Point) (k : Known) (seen : Seen) (did : StepOrLook) (n : Next) : Type 0 where
  pub made : IsMadeFor k f.own (f.given q) (f.plan q seen).event did
  pub finds : Finds k f q did seen
  pub goes : (f.plan q seen).next ≡ n

pub runs_planned : (f : Program) (q : Point) (old knew new : Known) (seen : Seen) (did : StepOrLook) (n : Next)
    → OnlyLooks old knew → IsPlanned f q knew seen did n → OnlyLooks (after_step_or_look did knew) new
    → Runs f old new (next.Go q) n
runs_planned f q old knew new seen did n before x behind = subst (λ (m : Next). Runs f old new (next.Go q) m) x.goes
    (runs_one f q old knew new seen did before x.made x.finds behind)

-- the look for a signal
pub heeds_none : (p : Part) (old : Known) → asks_one p ≡ false → Heeds p old old false
heeds_none p old none =
    let f = program_of p old.view.number in
    let queue = next.Go (at.Prepare preparing.Queue) in record {
      runs = record {
        transitions = [];
        goes = subst (λ (b : Bool). Goes f old (next.Go (at.Prepare (if b then preparing.Look else preparing.Queue))) []
            old queue) (sym none) (goes_none f old old queue (only_none old));
      };
      quiet = refl;
      carries = unchanged_none old;
      asks = λ is. is;
      found = λ never. absurd (cc);
    }

-- a look does not end it
pub heard_next : (hit : Bool) → behind_prepare (next.Go (part_looked_to hit)) ≡ next.Go (part_looked_to hit)
heard_next true = refl
heard_next false = refl

pub heeds_look : (p : Part) (old new : Known) (w : ℕ) (hit : Bool) → asks_one p ≡ true
    → hit ≡ pending (state_mask p.how.state) (task_of w) → new ≡ added old (item.Made (step.Look w))
    → Carries unchanged old new → Heeds p old new hit
heeds_look p old new w hit one tells is carries =
    let f = program_of p old.view.number in
    let r = runs_one f (at.Prepare preparing.Look) old old new (with_own (task_of w)) (by_step (step.Look w))
    (only_none old) tt (refl, tt, tt)
    (subst (OnlyLooks (added old (item.Made (step.Look w)))) (sym is)
    (only_none (added old (item.Made (step.Look w))))) in record {
      runs = record {
        transitions = r.transitions;
        goes = subst (λ (b : Bool). Goes f old (next.Go (at.Prepare (if b then preparing.Look else preparing.Queue)))
            r.transitions new (next.Go (part_looked_to hit))) (sym one)
            (subst (Goes f old (next.Go (at.Prepare preparing.Look)) r.transitions new) (heard_next hit)
            (subst (λ (b : Bool). Goes f old (next.Go (at.Prepare preparing.Look)) r.transitions new
            (behind_prepare (next.Go (part_looked_to b)))) (sym tells) r.goes));
      };
      quiet = refl;
      carries = carries;
      asks = λ none. ap asks_for is ∙ (asked_added old (item.Made (step.Look w)) ∙ (ap (after_item (item.Made (step.Look w))) none
          ∙ asks_nothing (step.Look w) (λ x e at. absurd (cc))));
      found = λ hit_is. record {
        asks = and_left p.asks (looks_in p.how.state) one;
        word = w;
        pends = sym tells ∙ hit_is;
        is = is;
      };
    }

-- the removal
module _ (old mid : Known) (o : Option Entry) (own : HasSeenOwn old mid o) (held : IsHolding old) where
  pub own_looks : Looks old mid
  own_looks = saw_looks old mid (own_of old) own.word held own.is own.knew

  pub pares_may : IsAtHead old → is_some o ≡ true → (me : ℕ) → me ≡ old.view.number → MayUnqueue mid me 0
  pares_may home some me mine = by o refl some
    where
      by : (g : Option Entry) → o ≡ g → is_some g ≡ true → MayUnqueue mid me 0
      by None is some = absurd (cc)
      by (Some e) is hit_is = record {
        entry = e;
        shows = ap (λ (n : ℕ). (told_of mid).hold.book (index n 0)) mine
            ∙ seen_shows old mid o own old.at held.locked held.told e is (home e (seen_stored old mid o own e is));
        may = inl (mine ∙ sym own.carries.number);
      }

  pub pares_on : (new : Known) (b : Bool) → b ≡ is_some o → b ≡ true → (me : ℕ) → me ≡ old.view.number
      → HasRemoved mid new me 0 → ParesPart old new true
  pares_on new b tells hit_is me mine r = record {
    seen = mid;
    entry = o;
    looked = own;
    is_found = sym hit_is ∙ tells;
    takes = subst (λ (n : ℕ). HasRemoved mid new n 0) (mine ∙ sym own.carries.number) r;
  }

  pub pares_off : (b : Bool) → b ≡ is_some o → b ≡ false → ParesPart old mid false
  pares_off b tells miss = record { seen = mid; entry = o; looked = own; is_found = sym miss ∙ tells; takes = refl }

pub pares_part : (old new : Known) (found : Bool) → ParesPart old new found → PartCarries (λ σ. σ) old new
pares_part old new true x = part_on (λ σ. σ) (λ σ. σ) old x.seen new (own_part old x.seen x.entry x.looked)
    (take_part x.seen new x.takes.carries)
pares_part old new false x = subst (λ (k : Known). PartCarries (λ σ. σ) old k) (sym x.takes)
    (own_part old x.seen x.entry x.looked)

none_found : (o : Option Entry) → false ≡ is_some o → o ≡ None
none_found None is = refl
none_found (Some e) is = absurd (cc)

pub pares_out : (old new : Known) (found : Bool) → ParesPart old new found → (told_of new).bits.stored (own_of old) ≡ None
pares_out old new true x = ap (λ (n : ℕ). (told_of new).bits.stored (index n 0)) (sym x.looked.carries.number)
    ∙ x.takes.out
pares_out old new false x = ap (λ (k : Known). (told_of k).bits.stored (own_of old)) x.takes
    ∙ (seen_is old x.seen x.entry x.looked ∙ none_found x.entry x.is_found)

-- the add
module _ (p : Part) (old mid : Known) (o : Option Entry) (own : HasSeenOwn old mid o) (held : IsHolding old)
    (here : head_of p.watch ≡ old.at) (home : IsPart p.watch p.kind ((told_of old).bits.stored (own_of old))) where
  abbrev f : Program
  f = program_of p old.view.number

  abbrev i : ℕ
  i = own_of old

  abbrev σ : ℕ
  σ = state_mask p.how.state

  is_part : (e : Entry) → o ≡ Some e → IsPart p.watch p.kind (Some e)
  is_part e some = subst (IsPart p.watch p.kind) (seen_stored old mid o own e some) home

  found : (g : Option Entry) → o ≡ g → IsSeenAs ((told_of mid).hold.book i) g
  found g is = finds_own old mid o own old.at held.locked held.told
      (λ e some. ap head_of (is_part e some).0 ∙ (bare_head p.watch ∙ here)) g is

  -- it is queued still
  stays_part : (e : Entry) → o ≡ Some e → (new : Known) → new ≡ added mid (item.Made (step.State σ))
      → Carries (state_change σ) mid new → HasJoinedPart p old new false
  stays_part e some new is carries = record {
    runs = runs_one f (at.Prepare preparing.Queue) old mid new (finds (Some e)) (by_step (step.State σ))
        (seen_looks old mid o own old.at held.locked) refl (tt, (found (Some e) some, λ never. absurd (cc)), tt)
        (state_looks mid new σ is carries);
    carries = part_on (λ s. s) (λ _. σ) old mid new (own_part old mid o own) (state_part mid new σ carries);
    entry = e;
    queued = carries.stored i refl refl ∙ (seen_is old mid o own ∙ some);
    home = is_part e some;
    tells = refl;
  }

  pub stays_by : (b : Bool) → b ≡ is_some o → b ≡ true → (new : Known) (τ : ℕ) → τ ≡ σ
      → new ≡ added mid (item.Made (step.State τ)) → Carries (state_change τ) mid new → JoinsPart p old new (Ok false)
  stays_by b tells hit_is new τ same is carries = by o refl (sym tells ∙ hit_is)
    where
      by : (g : Option Entry) → o ≡ g → is_some g ≡ true → HasJoinedPart p old new false
      by None at some = absurd (cc)
      by (Some e) at hit = stays_part e at new (is ∙ ap (λ (n : ℕ). added mid (item.Made (step.State n))) same)
          (subst (λ (n : ℕ). Carries (state_change n) mid new) same carries)

  -- it was off
  module _ (b : Bool) (tells : b ≡ is_some o) (miss : b ≡ false) where
    none : o ≡ None
    none = none_found o (sym miss ∙ tells)

    pub off_now : (told_of mid).bits.stored (own_of mid) ≡ None
    off_now = ap (λ (n : ℕ). (told_of mid).bits.stored (index n 0)) own.carries.number ∙ (seen_is old mid o own ∙ none)

    module _ (mid2 : Known) (looks : Looks mid mid2) where
      number2 : mid2.view.number ≡ old.view.number
      number2 = ap (λ (k : Known). k.view.number) looks.is ∙ own.carries.number

      at2 : mid2.at ≡ old.at
      at2 = ap (λ (k : Known). k.at) looks.is ∙ own.carries.at

      pub off_later : (told_of mid2).bits.stored (own_of mid2) ≡ None
      off_later =
          let c = looks_carried mid mid2 looks in
          c.out (own_of mid2) refl (ap (λ (n : ℕ). (told_of mid).bits.stored (index n 0)) c.number ∙ off_now)

      before : OnlyLooks old mid2
      before = only_on old mid mid2 (seen_looks old mid o own old.at held.locked)
          (only_looked mid mid2 looks.items looks.same looks.looks looks.is)

      parts2 : PartCarries (λ s. s) old mid2
      parts2 = part_on (λ s. s) (λ s. s) old mid mid2 (own_part old mid o own) (looks_part mid mid2 looks)

      -- it is queued
      module _ (new2 : Known) (x : HasAdded (IsFormPlace (wait_form p.how)) mid2 new2 0
          (form_entry (wait_form p.how) (bare p.watch) p.kind)) where
        abbrev e : Entry
        e = form_entry (wait_form p.how) (bare p.watch) p.kind x.place

        same : own_of mid2 ≡ i
        same = ap (λ (n : ℕ). index n 0) number2

        queues_it : Runs f old new2 (next.Go (at.Prepare preparing.Queue)) (next.Go (at.Prepare preparing.State))
        queues_it = runs_one f (at.Prepare preparing.Queue) old x.seen new2 (finds None) (by_step (step.Queue i e))
            (only_on old mid2 x.seen before (only_looked mid2 x.seen x.looks.items x.looks.same x.looks.looks x.looks.is)) (
              refl,
              here ∙ (sym at2 ∙ sym (ap (λ (k : Known). k.at) x.looks.is)),
              x.whole,
              ap (form_entry (wait_form p.how) (bare p.watch) p.kind)
                  (sym (form_is x.seen x.low (wait_form p.how) x.place x.sort)),
            ) (
              tt,
              (
                subst (λ (l : Look). IsSeenAs l None)
                    (sym (ap (λ (n : ℕ). (told_of x.seen).hold.book n) (sym same) ∙ x.is_off)) refl,
                λ _. (x.whole, sym (form_left x.seen x.low (wait_form p.how) x.place x.sort)),
              ),
              tt,
            )
            (subst (OnlyLooks (added x.seen (item.Made (step.Queue i e))))
            (sym (x.is ∙ ap (λ (n : ℕ). stored_with x.seen (step.Queue n e)) same)) (bit_looks x.seen (step.Queue i e)))

        module _ (new : Known) (is : new ≡ added new2 (item.Made (step.State σ)))
            (carries : Carries (state_change σ) new2 new) where
          stores : Runs f new2 new (next.Go (at.Prepare preparing.State)) (next.Go (at.Prepare preparing.Unlock))
          stores = runs_one f (at.Prepare preparing.State) new2 new2 new saw_nothing (by_step (step.State σ))
              (only_none new2) refl (tt, tt, tt) (state_looks new2 new σ is carries)

          joined_part : (first : Bool) → TellsFirst (answers_first p) mid2 first → HasJoinedPart p old new first
          unfolding queues_it stores
          joined_part first t = record {
            runs = runs_on f old new2 new (next.Go (at.Prepare preparing.Queue)) (next.Go (at.Prepare preparing.State))
                (next.Go (at.Prepare preparing.Unlock)) queues_it stores;
            carries = part_on (λ s. s) (λ _. σ) old new2 new
                (part_on (λ s. s) (λ s. s) old mid2 new2 parts2 (queue_part mid2 new2 x.carries))
                (state_part new2 new σ carries);
            entry = e;
            queued = carries.stored i refl refl ∙ (ap (λ (n : ℕ). (told_of new2).bits.stored n) (sym same) ∙ x.queued);
            home = (refl, refl);
            tells = first_later (answers_first p) first mid2 x.seen t x.looks;
          }

      -- no place is left, and its word is looked at once more
      module _ (w : Worn) (mid3 new : Known) (worn : IsFormWorn (wait_form p.how) mid2 mid3 w)
          (noted : WasWorn mid3.view.number mid3.view.items w.head w.place) (held3 : IsHolding mid3) (u : Option Entry)
          (own3 : HasSeenOwn mid3 new u) where
        number3 : mid3.view.number ≡ old.view.number
        number3 = ap (λ (k : Known). k.view.number) (form_worn (wait_form p.how) mid2 mid3 w worn).looks.is ∙ number2

        at3 : mid3.at ≡ old.at
        at3 = ap (λ (k : Known). k.at) (form_worn (wait_form p.how) mid2 mid3 w worn).looks.is ∙ at2

        out3 : (told_of mid3).bits.stored (own_of mid3) ≡ None
        out3 =
            let c = looks_carried mid2 mid3 (form_worn (wait_form p.how) mid2 mid3 w worn).looks in
            c.out (own_of mid3) refl (ap (λ (n : ℕ). (told_of mid2).bits.stored (index n 0)) c.number ∙ off_later)

        no_entry : (g : Option Entry) → u ≡ g → g ≡ None
        no_entry None is = refl
        no_entry (Some e) is =
            let never : None ≡ Some e = sym out3 ∙ seen_stored mid3 new u own3 e is in absurd (cc)

        off3 : u ≡ None
        off3 = no_entry u refl

        note_on : WasWorn new.view.number new.view.items w.head w.place
        note_on =
            let x : Item = item.Made (saw mid3.book.head (own_of mid3) own3.word) in
            subst (λ (k : Known). WasWorn k.view.number k.view.items w.head w.place) (sym own3.is)
            (notes_stay mid3.view.number mid3.view.items (x ∷ []) w.head w.place noted)

        worn_part : IsWornPart p old new w
        worn_part =
            let x = form_worn (wait_form p.how) mid2 mid3 w worn in
            let seen3 = whole_seen mid3 x.whole in
            let looks3 = saw_looks mid3 new (own_of mid3) own3.word held3 own3.is own3.knew in
            let same : own_of mid3 ≡ i = ap (λ (n : ℕ). index n 0) number3 in
            record {
              looks = only_on old mid3 new
                  (only_on old mid2 mid3 before
                  (only_looked mid2 mid3 x.looks.items x.looks.same x.looks.looks x.looks.is))
                  (seen_looks mid3 new u own3 mid3.at held3.locked);
              carries = part_on (λ s. s) (λ s. s) old mid3 new
                  (part_on (λ s. s) (λ s. s) old mid2 mid3 parts2 (looks_part mid2 mid3 x.looks))
                  (own_part mid3 new u own3);
              out = ap (λ (n : ℕ). (told_of new).bits.stored n) (sym same) ∙ (seen_is mid3 new u own3 ∙ off3);
              shows = subst (λ (n : ℕ). IsSeenAs ((told_of new).hold.book n) None) same
                  (finds_own mid3 new u own3 mid3.at held3.locked held3.told
                  (λ e some. absurd (let never : None ≡ Some e = sym off3 ∙ some in cc)) None off3);
              whole = whole_of new (λ m low. looks3.from.still m (seen3 m low));
              worn = ap (λ q. is_worn (wait_form p.how) q) (queue_same new mid3
                  (λ m low. looks3.from.places m (seen3 m low))) ∙ x.worn;
              head = x.head ∙ at2;
              noted = note_on;
            }

-- with the numbers that the code names
module _ (p : Part) (old mid : Known) (o : Option Entry) (own : HasSeenOwn old mid o) (held : IsHolding old)
    (here : head_of p.watch ≡ old.at) (home : IsPart p.watch p.kind ((told_of old).bits.stored (own_of old)))
    (b : Bool) (tells : b ≡ is_some o) (miss : b ≡ false) (mid2 : Known) (looks : Looks mid mid2) (asked : Bool)
    (asks : asked ≡ answers_first p) (form : Form) (is_form : form ≡ wait_form p.how) (w : Watch)
    (is_bare : w ≡ bare p.watch) where
  pub joins_by : (new2 new : Known) (τ : ℕ) → τ ≡ state_mask p.how.state → (first : Bool) → TellsFirst asked mid2 first
      → HasAdded (IsFormPlace form) mid2 new2 0 (form_entry form w p.kind) → new ≡ added new2 (item.Made (step.State τ))
      → Carries (state_change τ) new2 new → JoinsPart p old new (Ok first)
  joins_by new2 new τ same first t x is carries = joined_part p old mid o own held here home b tells miss mid2 looks new2
      (subst (λ (c : Watch). HasAdded (IsFormPlace (wait_form p.how)) mid2 new2 0 (form_entry (wait_form p.how) c p.kind))
      is_bare (subst (λ (g : Form). HasAdded (IsFormPlace g) mid2 new2 0 (form_entry g w p.kind)) is_form x))
      new (is ∙ ap (λ (n : ℕ). added new2 (item.Made (step.State n))) same)
      (subst (λ (n : ℕ). Carries (state_change n) new2 new) same carries)
      first (subst (λ (a : Bool). TellsFirst a mid2 first) asks t)

  pub wears_by : (v : Worn) (mid3 new : Known) → IsFormWorn form mid2 mid3 v
      → WasWorn mid3.view.number mid3.view.items v.head v.place → IsHolding mid3 → (u : Option Entry)
      → HasSeenOwn mid3 new u → JoinsPart p old new (Err v)
  wears_by v mid3 new worn noted held3 u own3 = worn_part p old mid o own held here home b tells miss mid2 looks v mid3 new
      (subst (λ (g : Form). IsFormWorn g mid2 mid3 v) is_form worn) noted held3 u own3

-- the head that is held stays
pub pares_at : (old new : Known) (found : Bool) → ParesPart old new found → new.at ≡ old.at
pares_at old new found y = (pares_part old new found y).at

pub joins_at : (p : Part) (old new : Known) (r : Result Bool Worn) → JoinsPart p old new r → new.at ≡ old.at
joins_at p old new (Ok first) y = y.carries.at
joins_at p old new (Err v) y = y.carries.at
