-- One try to sleep; and a task that was put asleep looks whether it was woken.
use Rattle.std.proofs.Common.{◌∙◌, ap, sym, refl, subst, inl, inr, append-nil}
use Rattle.std.specs.Prelude.{ℕ, ◌≡◌, ◌⊎◌, ◌||◌, nat_lt, not, Bool, true, false, MatchBool}
use Rattle.std.specs.Prelude.{None, List, [], ◌∷◌, ◌++◌}
use Rattle.wait_model.specs.declared.points.Next.TheVariants as next
use Rattle.wait_model.specs.{declared.steps.Step.Step, declared.tasks.Sleep.Sleep, Fold.view_of, PointFacts.IsHome}
use Rattle.wait_model.specs.{Tasks.task_of, Tasks.sleep_of, Views.View as Told}
use Rattle.wait_model.specs.declared.steps.Step.TheVariants as step
use Rattle.wait_model.specs.declared.tasks.Sleep.TheVariants as sleeping
use Rattle.wait_rule.specs.{declared.journal.Item.Item, Known.Known, declared.tries.FailedTries.FailedTries}
use Rattle.wait_rule.specs.{Tried.IsOneMore, Queues.IsTold, Queues.index, Transitions.OnlyLooks}
use Rattle.wait_rule.specs.Items.{Book, after_awake, after_sleep, risen, steps_of, with_state}
use Rattle.wait_rule.specs.Says.{IsFree as IsFreeTask, IsAwakeAgain, added, grown, history_of, told_of}
use Rattle.wait_rule.specs.declared.journal.Item.TheVariants as item
use Rattle.wait_rule.proofs.{KnownLaws.AfterSteps.told_added, KnownLaws.Debts.added_debts, KnownLaws.Debts.looked_debts}
use Rattle.wait_rule.proofs.{KnownLaws.TaskHistories.history_after, TableSteps.ItemLists.steps_append}
use Rattle.wait_rule.proofs.KnownLaws.Transitions.{book_told, looks_of, only_none}
use Rattle.wait_class.specs.{Findings.with_own, declared.stages.Run.Run}
use Rattle.wait_class.specs.Posts.{IsStateFor, Post, Stands}
use Rattle.wait_class.specs.Laws.{IsLawfulCallTable, LawOf, SleepLaw, Unmoved}
use Rattle.wait_class.specs.Tables.{Advances, IsAsleepAt, IsAt, CallTable, SleptLast, Turned, Went, falls, plan_program}
use Rattle.wait_class.specs.Tables.{post_of, run_post, watch_in}
use Rattle.wait_class.proofs.{Ground.Going.runs_looks, Ground.Standing.stands_on, CalmSteps.calm_step}
use Rattle.wait_class.proofs.Turns.{advances_none, any_for, free_head, free_task, free_ticket, Passage, moves_quiet}
use Rattle.wait_class.proofs.Turns.{plain_post, stands_plain, zero_for}
use Rattle.wait_class.specs.declared.stages.Doing.TheVariants as doing
use Rattle.wait_class.specs.declared.stages.Turn.TheVariants as turn

module _ {C S O : Type 0} (t : CallTable C S O) (law : IsLawfulCallTable t) where
  sleep_law : (r : C) (s : S) → t.doing s ≡ doing.Sleep → SleepLaw t r s (t.slept_to r s)
  sleep_law r s here = subst (λ d. LawOf d t r s) here (law.at r s)

  -- no head is held, and no ticket out
  pub sleep_free : (old : Known) (r : Run C) (s : S) → t.doing s ≡ doing.Sleep → IsAt t old r s → IsFreeTask old
  sleep_free old r s here a = let l = sleep_law r.of s here in free_task t old r s l.fresh l.free a

  module _ (old : Known) (r : Run C) (s : S) (l : SleepLaw t r.of s (t.slept_to r.of s)) (a : IsAt t old r s) (w : ℕ) where
    abbrev slept : Known
    slept = added old (item.Made (step.Sleep w))

    abbrev n : S
    n = t.slept_to r.of s

    abbrev q : Post
    q = post_of t r.of n

    st : Stands old (post_of t r.of s)
    st = stands_plain t old r s l.fresh a.stands

    plain : t.drawn n ≡ false
    plain = (l.moves w).plain

    passage : Passage t old.view.number old slept r.of r.of (next.Go (t.point_of s)) (next.Go (t.point_of n))
    passage = moves_quiet t law r.of s (with_own (task_of w)) (Unit {0}) (λ me k x. step.Sleep w) (λ me k x. Unit {0})
        (turn.Again n) (l.moves w) old.view.number old old slept tt refl (only_none old) tt (only_none slept)

    went : Went t old slept r.of r.of (turn.Again s) (turn.Again n)
    went = record {
      runs = passage.runs;
      tells = passage.tells;
      keeps = subst (λ (g : Bool). t.Keeps (index old.view.number 0) (watch_in t r.of) (t.took s) g old slept)
          (l.moves w).took
          (law.keeps.told (index old.view.number 0) (watch_in t r.of) (t.took s) old slept refl refl
          (told_added old (item.Made (step.Sleep w))) (added_debts old slept (item.Made (step.Sleep w)) refl refl));
    }

    -- by what it leaves of the book
    slept_stands : (b : Book) (stirs : Bool) → after_sleep (sleep_of (task_of w)) old.book ≡ b
        → b.head ≡ old.book.head → b.ticket ≡ old.book.ticket → IsStateFor stirs q.state b.state
        → Stands slept (record q { stirs = stirs })
    slept_stands b stirs is head ticket state =
        let free = free_head None (t.plan_of r.of) (t.point_of n) l.woken in
        let was = free_head None (t.plan_of r.of) (t.point_of s) l.free in
        let out = free_ticket None (t.plan_of r.of) (t.point_of n) l.woken in
        let had = free_ticket None (t.plan_of r.of) (t.point_of s) l.free in
        stands_on old (step.Sleep w) (post_of t r.of s) (record q { stirs = stirs }) st
        (ap (λ (d : Book). d.head) is ∙ (head ∙ (st.head ∙ (was ∙ sym free)))) free (st.told ∙ (was ∙ sym free))
        (ap (λ (d : Book). d.ticket) is ∙ (ticket ∙ (st.ticket ∙ (had ∙ sym out))))
        (subst (λ (d : Book). IsStateFor stirs q.state d.state) (sym is) state)
        (l.home ((told_of old).bits.stored (index old.view.number 0)) st.home)

    trail : t.Trail slept r.of n
    trail = l.trail old slept w (calm_step old slept (step.Sleep w) refl (λ v. refl) (λ v d none. none) (λ m v. refl)
        (λ awake b. absurd (cc))) a.trail

    stays_book : (x : Sleep) → (x ≡ sleeping.Stay) ⊎ (x ≡ sleeping.Signal)
        → after_sleep x old.book ≡ with_state 0 old.book
    stays_book x (inl e) = ap (λ (y : Sleep). after_sleep y old.book) e
    stays_book x (inr e) = ap (λ (y : Sleep). after_sleep y old.book) e

    up_lands : (sleep_of (task_of w) ≡ sleeping.Stay) ⊎ (sleep_of (task_of w) ≡ sleeping.Signal)
        → Advances t old slept r r s (turn.Again n)
    up_lands stays =
        let is = stays_book (sleep_of (task_of w)) stays in
        record {
          same = refl;
          went = went;
          lands = record {
            fits = a.fits;
            up = ap (λ (b : Book). b.awake) is ∙ a.up;
            stands = subst (Stands slept) (sym (plain_post t r n plain))
                (slept_stands (with_state 0 old.book) q.stirs is refl refl (zero_for q.stirs q.state 0 refl));
            trail = trail;
          };
        }

    up_to : (sleep_of (task_of w) ≡ sleeping.Stay) ⊎ (sleep_of (task_of w) ≡ sleeping.Signal)
        → Turned t old slept r r s (turn.Again n)
    up_to stays = record { shows = inl passage.made; advances = up_lands stays }

    down_lands : sleep_of (task_of w) ≡ sleeping.Asleep → Advances t old slept r r s (turn.Asleep n)
    down_lands asleep =
        let is : after_sleep (sleep_of (task_of w)) old.book ≡ after_sleep sleeping.Asleep old.book =
        ap (λ (y : Sleep). after_sleep y old.book) asleep in
        record {
          same = refl;
          went = record { runs = went.runs; tells = went.tells; keeps = went.keeps };
          lands = record {
            fits = a.fits;
            down = ap (λ (b : Book). b.awake) is;
            place = l.place;
            stands = subst (λ (p : Post). Stands slept (record p { stirs = true })) (sym (plain_post t r n plain))
                (slept_stands (after_sleep sleeping.Asleep old.book) true is refl refl
                (any_for (post_of t r.of s).stirs q.state old.book.state st.state));
            trail = trail;
          };
        }

    slept_last : SleptLast old slept
    slept_last = record {
      before = [];
      found = w;
      is = history_after old slept (step.Sleep w) refl
          ∙ ap (λ (l : List Step). l ++ step.Sleep w ∷ []) (sym (append-nil (history_of old)));
    }

    down_to : sleep_of (task_of w) ≡ sleeping.Asleep → Turned t old slept r r s (turn.Asleep n)
    down_to asleep = record { shows = slept_last; advances = down_lands asleep }

  pub sleep_up : (old new : Known) (r : Run C) (s : S) → t.doing s ≡ doing.Sleep → IsAt t old r s → (w : ℕ)
      → new ≡ added old (item.Made (step.Sleep w)) → (x : Sleep) → x ≡ sleep_of (task_of w)
      → (x ≡ sleeping.Stay) ⊎ (x ≡ sleeping.Signal) → (n : S) → n ≡ t.slept_to r.of s
      → (f : FailedTries) → f ≡ r.failed → Turned t old new r (record r { failed = f }) s (turn.Again n)
  sleep_up old new r s here a w is x tells stays n to f kept =
      subst (λ (m : S). Turned t old new r (record r { failed = f }) s (turn.Again m)) (sym to)
      (subst (λ (g : FailedTries). Turned t old new r (record r { failed = g }) s (turn.Again (t.slept_to r.of s)))
      (sym kept)
      (subst (λ (k : Known). Turned t old k r r s (turn.Again (t.slept_to r.of s))) (sym is)
      (up_to old r s (sleep_law r.of s here) a w
      (elim stays [ inl e ↦ inl (sym tells ∙ e) | inr e ↦ inr (sym tells ∙ e) ]))))

  pub sleep_down : (old new : Known) (r : Run C) (s : S) → t.doing s ≡ doing.Sleep → IsAt t old r s → (w : ℕ)
      → new ≡ added old (item.Made (step.Sleep w)) → (x : Sleep) → x ≡ sleep_of (task_of w) → x ≡ sleeping.Asleep
      → (n : S) → n ≡ t.slept_to r.of s → (f : FailedTries) → f ≡ r.failed
      → Turned t old new r (record r { failed = f }) s (turn.Asleep n)
  sleep_down old new r s here a w is x tells asleep n to f kept =
      subst (λ (m : S). Turned t old new r (record r { failed = f }) s (turn.Asleep m)) (sym to)
      (subst (λ (g : FailedTries). Turned t old new r (record r { failed = g }) s (turn.Asleep (t.slept_to r.of s)))
      (sym kept)
      (subst (λ (k : Known). Turned t old k r r s (turn.Asleep (t.slept_to r.of s))) (sym is)
      (down_to old r s (sleep_law r.of s here) a w (sym tells ∙ asleep))))

  -- a try that failed
  pub sleep_again : (old new : Known) (r : Run C) (s : S) → t.doing s ≡ doing.Sleep → IsAt t old r s → new ≡ old
      → (f : FailedTries) → IsOneMore r.failed f → Turned t old new r (record r { failed = f }) s (turn.Again s)
  sleep_again old new r s here a is f more = record {
    advances = subst (λ (k : Known). Advances t old k r (record r { failed = f }) s (turn.Again s)) (sym is) (record {
      same = refl;
      went = (advances_none t law old r s a).went;
      lands = record { fits = a.fits; up = a.up; stands = a.stands; trail = a.trail };
    });
    shows = inr (record { count = more; still = ap history_of is; free = (sleep_law r.of s here).free });
  }

  -- it goes on where no head is held
  pub again_falls : (r : C) (s : S) → t.doing s ≡ doing.Sleep → falls t s (turn.Again s) ≡ true
  again_falls r s here = ap (λ (b : Bool). not b || nat_lt (t.depth s) (t.depth s)) (sleep_law r s here).free

  pub up_falls : (r : C) (s : S) → t.doing s ≡ doing.Sleep → (n : S) → n ≡ t.slept_to r s
      → falls t s (turn.Again n) ≡ true
  up_falls r s here n to = ap (λ (m : S). falls t s (turn.Again m)) to ∙ ((sleep_law r s here).moves 0).falls

  pub down_falls : (r : C) (s : S) → t.doing s ≡ doing.Sleep → (n : S) → n ≡ t.slept_to r s
      → falls t s (turn.Asleep n) ≡ true
  down_falls r s here n to = ap (λ (m : S). falls t s (turn.Asleep m)) to ∙ ap not (sleep_law r s here).woken

  -- asleep: by the book that it has then, and a history that is the same
  module _ (old new : Known) (r : Run C) (s : S) (a : IsAsleepAt t old r s) (looks : OnlyLooks old new) (xs : List Item)
      (items : new.view.items ≡ old.view.items ++ xs) (same : history_of new ≡ history_of old) (at : new.at ≡ old.at)
      (number : new.view.number ≡ old.view.number) (domain : new.domain ≡ old.domain) where
    told : told_of new ≡ told_of old
    told = ap view_of same

    unmoved : Unmoved old new
    unmoved = record { number = number; items = xs; grown = items; history = same }

    looked : Went t old new r.of r.of (turn.Again s) (turn.Again s)
    looked = record {
      runs = runs_looks (plan_program old.view.number 0 (t.plan_of r.of)) old new (next.Go (t.point_of s)) looks;
      tells = law.tells.none r.of;
      keeps = law.keeps.told (index old.view.number 0) (watch_in t r.of) (t.took s) old new domain number told
          (looked_debts old new looks);
    }

    home_new : IsHome (run_post t r s).zone (run_post t r s).watch
        ((told_of new).bits.stored (index new.view.number 0))
    home_new = subst (λ (v : Told). IsHome (run_post t r s).zone (run_post t r s).watch
        (v.bits.stored (index new.view.number 0))) (sym told)
        (subst (λ (m : ℕ). IsHome (run_post t r s).zone (run_post t r s).watch ((told_of old).bits.stored (index m 0)))
        (sym number) a.stands.home)

    woken_at : new.book ≡ risen old.book → Advances t old new r r s (turn.Again s)
    woken_at up = record {
      same = refl;
      went = looked;
      lands = record {
        fits = a.fits;
        up = ap (λ (b : Book). b.awake) up;
        stands = record {
          head = ap (λ (b : Book). b.head) up ∙ a.stands.head;
          at = λ h is. at ∙ a.stands.at h is;
          told = ap (λ (v : Told). v.hold.head) told ∙ a.stands.told;
          ticket = ap (λ (b : Book). b.ticket) up ∙ a.stands.ticket;
          agreed = λ h is. ap (λ (b : Book). b.differs) up ∙ a.stands.agreed h is;
          state = zero_for (run_post t r s).stirs (run_post t r s).state new.book.state
              (ap (λ (b : Book). b.state) up);
          home = home_new;
        };
        trail = law.rises old new r.of s a.place unmoved a.trail;
      };
    }

    still_at : new.book ≡ old.book → Advances t old new r r s (turn.Asleep s)
    still_at still = record {
      same = refl;
      went = record { runs = looked.runs; tells = looked.tells; keeps = looked.keeps };
      lands = record {
        fits = a.fits;
        down = ap (λ (b : Book). b.awake) still ∙ a.down;
        place = a.place;
        stands = record {
          head = ap (λ (b : Book). b.head) still ∙ a.stands.head;
          at = λ h is. at ∙ a.stands.at h is;
          told = ap (λ (v : Told). v.hold.head) told ∙ a.stands.told;
          ticket = ap (λ (b : Book). b.ticket) still ∙ a.stands.ticket;
          agreed = λ h is. ap (λ (b : Book). b.differs) still ∙ a.stands.agreed h is;
          state = subst (λ (b : Book). IsStateFor true (run_post t r s).state b.state) (sym still) a.stands.state;
          home = home_new;
        };
        trail = law.rises old new r.of s a.place unmoved a.trail;
      };
    }

  -- one look
  pub looked_once : (old new : Known) (r : Run C) (s : S) → IsAsleepAt t old r s → (w : ℕ)
      → new ≡ added old (item.Awake w) → (b : Bool) → b ≡ (task_of w).runnable
      → MatchBool b (Advances t old new r r s (turn.Again s)) (Advances t old new r r s (turn.Asleep s))
  looked_once old new r s a w is b tells = by b tells
    where
      looks : OnlyLooks old new
      looks = record { items = item.Awake w ∷ []; looks = (tt, tt); is = is }

      same : history_of new ≡ history_of old
      same = ap history_of is
          ∙ (steps_append old.view.items (item.Awake w ∷ []) ∙ append-nil (steps_of old.view.items))

      book_is : (c : Bool) → c ≡ (task_of w).runnable → new.book ≡ after_awake false c old.book
      book_is c shows = ap (λ (k : Known). k.book) is ∙ (λ i. after_awake (a.down i) (sym shows i) old.book)

      by : (c : Bool) → c ≡ (task_of w).runnable
          → MatchBool c (Advances t old new r r s (turn.Again s)) (Advances t old new r r s (turn.Asleep s))
      by true shows = woken_at old new r s a looks (item.Awake w ∷ []) (ap (λ (k : Known). k.view.items) is) same
          (ap (λ (k : Known). k.at) is) (ap (λ (k : Known). k.view.number) is) (ap (λ (k : Known). k.domain) is)
          (book_is true shows)
      by false shows = still_at old new r s a looks (item.Awake w ∷ []) (ap (λ (k : Known). k.view.items) is) same
          (ap (λ (k : Known). k.at) is) (ap (λ (k : Known). k.view.number) is) (ap (λ (k : Known). k.domain) is)
          (book_is false shows)

  -- looks until it was woken
  pub rose : (old new : Known) (r : Run C) (s : S) → IsAsleepAt t old r s → IsTold old → IsTold new
      → IsAwakeAgain old new → Advances t old new r r s (turn.Again s)
  rose old new r s a was now h = woken_at old new r s a (record {
    items = h.looks;
    looks = looks_of h.looks h.no_steps h.no_adds;
    is = h.is ∙ ap (grown old h.looks) (sym (ap (λ (k : Known). k.book) h.is) ∙ book_told old new h.looks was now
        (ap (λ (k : Known). k.view.items) h.is));
  }) h.looks (ap (λ (k : Known). k.view.items) h.is)
      (ap history_of h.is ∙ (steps_append old.view.items h.looks
      ∙ (ap (λ (es : List Step). steps_of old.view.items ++ es) h.no_steps ∙ append-nil (steps_of old.view.items))))
      (ap (λ (k : Known). k.at) h.is) (ap (λ (k : Known). k.view.number) h.is) (ap (λ (k : Known). k.domain) h.is)
      (ap (λ (k : Known). k.book) h.is)
