-- What a task knows of its wait for a page, after more steps.
use Rattle.std.proofs.Common.{◌∙◌, ap, sym, refl, inl, inr, append-nil, append_assoc, eq-eqb}
use Rattle.std.specs.Prelude.{ℕ, ◌≡◌, ◌&&◌, ◌||◌, ◌==◌, Bool, true, false, if◌then◌else◌, is_some, Option, Some, None}
use Rattle.std.specs.Prelude.{List, [], ◌∷◌, ◌++◌}
use Rattle.wait_model.specs.{declared.steps.Step.Step, declared.watches.Entry.Entry, Views.View, Words.entry_of}
use Rattle.wait_model.specs.Words.{flag_of}
use Rattle.wait_model.specs.Fold.{after, is_off, view_of}
use Rattle.wait_model.specs.Tasks.{pending, state_mask, task_of}
use Rattle.wait_model.specs.declared.steps.Step.TheVariants as step
use Rattle.wait_rule.specs.{declared.journal.Item.Item, Bits.KeepsBitOf, Items.steps_of, Known.Known, Queues.index}
use Rattle.wait_rule.specs.Asked.{Asked, ask_step, asked_from, given_if, nothing_asked, waits_for, was_given}
use Rattle.wait_rule.specs.Quiet.{is_quiet_at, is_told, quiet_after, quiet_from, told_from}
use Rattle.wait_rule.specs.Says.{asks_for, history_of, told_of}
use Rattle.wait_rule.specs.declared.journal.Item.TheVariants as item
use Rattle.wait_rule.proofs.{KnownLaws.QuietFlags.quiet_more, KnownLaws.ToldFlags.told_more}
use Rattle.wait_class.specs.{Posts.own_of, Tables.has_sleep, Laws.Calm, Laws.Unmoved}
use Rattle.wait_class.proofs.Histories.{awake_more, found_still}
use Rattle.page_lock.specs.PageEnds.{are_calm, is_calm}
use Rattle.page_lock.specs.PageTables.{PageEndTrail, FoundFirst, FoundSet, FoundPageSignal, HasLeftPage, IsPageOff, IsQuiet, IsUnasked, IsWaitingForPage, PageWaitTrail, WhyOut, page_head_in, page_in}
use Rattle.page_lock.specs.declared.waits.LockPage.{LockPage}
use Rattle.page_lock.specs.declared.waits.PageOutcome.TheVariants as outcome
use Rattle.page_lock.specs.declared.waits.PageStage.{PageStage}
use Rattle.page_lock.specs.declared.waits.PageStage.TheVariants as stage

-- what a task asks for is told by its steps alone
abbrev pub asked_steps : Asked → List Step → Asked
asked_steps k [] = k
asked_steps k (e ∷ es) = asked_steps (ask_step e k) es

asked_by : (k : Asked) (xs : List Item) → asked_from k xs ≡ asked_steps k (steps_of xs)
asked_by k [] = refl
asked_by k (item.Made e ∷ xs) = asked_by (ask_step e k) xs
asked_by k (item.Awake w ∷ xs) = asked_by k xs
asked_by k (item.Bookmark t w ∷ xs) = asked_by k xs
asked_by k (item.Member ∷ xs) = asked_by k xs
asked_by k (item.Word w ∷ xs) = asked_by k xs
asked_by k (item.Drawn h w ∷ xs) = asked_by k xs
asked_by k (item.Serving h w ∷ xs) = asked_by k xs
asked_by k (item.Served ∷ xs) = asked_by k xs
asked_by k (item.Tally p n w ∷ xs) = asked_by k xs
asked_by k (item.Piped p a w ∷ xs) = asked_by k xs

asked_on : (k : Asked) (es fs : List Step) → asked_steps k (es ++ fs) ≡ asked_steps (asked_steps k es) fs
asked_on k [] fs = refl
asked_on k (e ∷ es) fs = asked_on (ask_step e k) es fs

pub asks_more : (old new : Known) (es : List Step) → history_of new ≡ history_of old ++ es
    → asks_for new ≡ asked_steps (asks_for old) es
asks_more old new es more = asked_by nothing_asked new.view.items ∙ (ap (asked_steps nothing_asked) more
    ∙ (asked_on nothing_asked (history_of old) es
    ∙ ap (λ (k : Asked). asked_steps k es) (sym (asked_by nothing_asked old.view.items))))

-- why it waits no more that was told, or found a signal
pub why_out : (k : Known) (r : LockPage) → WhyOut false k r → (b : Bool) → WhyOut b k r
why_out k r h true = tt
why_out k r h false = h

-- what a look at the own entry tells of the page that is waited for
looked_off : (x p : ℕ) (o : Option Entry) → is_some o ≡ false → given_if (is_off o) x (waits_for x p) ≡ was_given x p
looked_off x p None is = ap (λ (b : Bool). if b then was_given x p else waits_for x p) (eq-eqb x x refl)
looked_off x p (Some e) is = absurd (cc)

looked_on : (x p : ℕ) (o : Option Entry) → is_some o ≡ true → given_if (is_off o) x (waits_for x p) ≡ waits_for x p
looked_on x p None is = absurd (cc)
looked_on x p (Some e) is = refl

-- calm steps leave a task quiet, and told
calm_first : (e : Step) (es : List Step) → are_calm (e ∷ es) ≡ true → is_calm e ≡ true
calm_first e es is = by (is_calm e) is
  where
    by : (b : Bool) → (b && are_calm es) ≡ true → b ≡ true
    by true q = refl
    by false q = absurd (cc)

calm_rest : (e : Step) (es : List Step) → are_calm (e ∷ es) ≡ true → are_calm es ≡ true
calm_rest e es is = by (is_calm e) is
  where
    by : (b : Bool) → (b && are_calm es) ≡ true → are_calm es ≡ true
    by true q = q
    by false q = absurd (cc)

pub calm_more : (es fs : List Step) → are_calm es ≡ true → are_calm fs ≡ true → are_calm (es ++ fs) ≡ true
calm_more [] fs one two = two
calm_more (e ∷ es) fs one two = ap (λ (b : Bool). b && are_calm (es ++ fs)) (calm_first e es one)
    ∙ calm_more es fs (calm_rest e es one) two

quiet_step : (x : ℕ) (v : View) (e : Step) (b : Bool) → is_calm e ≡ true → quiet_after x v e b ≡ b
quiet_step x v (step.Queue y e) b calm = absurd (cc)
quiet_step x v (step.Unflag y o) b calm = absurd (cc)
quiet_step x v e b calm = refl

calm_quiet : (x : ℕ) (v : View) (b : Bool) (es : List Step) → are_calm es ≡ true → quiet_from x v b es ≡ b
calm_quiet x v b [] calm = refl
calm_quiet x v b (e ∷ es) calm = calm_quiet x (after e v) (quiet_after x v e b) es (calm_rest e es calm)
    ∙ quiet_step x v e b (calm_first e es calm)

or_true : (a : Bool) → (a || true) ≡ true
or_true true = refl
or_true false = refl

flag_told : (x y w : ℕ) (q : Bool) → (if y == x then (q && flag_of w) || true else true) ≡ true
flag_told x y w q = by (y == x)
  where
    by : (b : Bool) → (if b then (q && flag_of w) || true else true) ≡ true
    by true = or_true (q && flag_of w)
    by false = refl

calm_told : (x : ℕ) (v : View) (q : Bool) (es : List Step) → are_calm es ≡ true → told_from x v q true es ≡ true
calm_told x v q [] calm = refl
calm_told x v q (step.Queue y e ∷ es) calm = absurd (cc)
calm_told x v q (step.Unflag y o ∷ es) calm = absurd (cc)
calm_told x v q (step.Flag y w ∷ es) calm =
    ap (λ (b : Bool). told_from x (after (step.Flag y w) v) q b es) (flag_told x y w q)
    ∙ calm_told x (after (step.Flag y w) v) q es calm
calm_told x v q (e ∷ es) calm = calm_told x (after e v) (quiet_after x v e q) es (calm_rest e es calm)

-- a task with more such steps
module _ (old new : Known) (r : LockPage) (es : List Step) (number : new.view.number ≡ old.view.number)
    (more : history_of new ≡ history_of old ++ es) (calm : are_calm es ≡ true) where
  pub quiet_on : IsQuiet old → IsQuiet new
  quiet_on quiet = (λ i. is_quiet_at (index (number i) 0) (more i))
      ∙ (quiet_more (own_of old) (history_of old) es
      ∙ (calm_quiet (own_of old) (view_of (history_of old)) (is_quiet_at (own_of old) (history_of old)) es calm ∙ quiet))

  abbrev pub set_on : FoundSet old r → FoundSet new r
  set_on f = record {
    before = f.before;
    entry = f.entry;
    more = f.more ++ es;
    ends = more ∙ (ap (λ (l : List Step). l ++ es) f.ends
        ∙ (append_assoc f.before (step.Queue (own_of old) f.entry ∷ step.Consume (page_in r) 1 r.seen ∷ f.more) es
        ∙ ap (λ (n : ℕ). f.before ++ (step.Queue (index n 0) f.entry ∷ step.Consume (page_in r) 1 r.seen
        ∷ (f.more ++ es))) (sym number)));
    set = f.set;
    calm = calm_more f.more es f.calm calm;
  }

  pub signal_on : has_sleep es ≡ false → FoundPageSignal old r → FoundPageSignal new r
  signal_on awake f = record {
    found = set_on f.found;
    front = f.front;
    look = f.look;
    later = f.later ++ es;
    looked = ap (λ (l : List Step). l ++ es) f.looked ∙ append_assoc f.front (step.Look f.look ∷ f.later) es;
    pends = f.pends;
    awake = awake_more f.later es f.awake awake;
  }

  out_on : has_sleep es ≡ false → (b : Bool) → WhyOut b old r → WhyOut b new r
  out_on awake true h = tt
  out_on awake false (inl told) = inl ((λ i. is_told (index (number i) 0) (more i))
      ∙ (told_more (own_of old) (history_of old) es
      ∙ (ap (λ (b : Bool). told_from (own_of old) (view_of (history_of old))
      (is_quiet_at (own_of old) (history_of old)) b es) told
      ∙ calm_told (own_of old) (view_of (history_of old)) (is_quiet_at (own_of old) (history_of old)) es calm)))
  out_on awake false (inr f) = inr (signal_on awake f)

  pub left_on : has_sleep es ≡ false → HasLeftPage old r → HasLeftPage new r
  left_on awake h = out_on awake r.asked h

  -- that ask for nothing else
  pub waiting_on : asked_steps (waits_for (own_of old) r.page) es ≡ waits_for (own_of old) r.page → IsWaitingForPage old r
      → IsWaitingForPage new r
  waiting_on same w = record {
    asks = asks_more old new es more ∙ (ap (λ (k : Asked). asked_steps k es) w.asks
        ∙ (same ∙ ap (λ (n : ℕ). waits_for (index n 0) r.page) (sym number)));
    quiet = quiet_on w.quiet;
    found = set_on w.found;
  }

  -- by which the entry is off
  pub given_on : asked_steps (waits_for (own_of old) r.page) es ≡ was_given (own_of old) r.page → IsWaitingForPage old r
      → IsPageOff new r
  given_on given w = record {
    asks = inl (asks_more old new es more ∙ (ap (λ (k : Asked). asked_steps k es) w.asks
        ∙ (given ∙ ap (λ (n : ℕ). was_given (index n 0) r.page) (sym number))));
    quiet = quiet_on w.quiet;
    found = set_on w.found;
  }

  pub taken_on : asked_steps (waits_for (own_of old) r.page) es ≡ nothing_asked → IsWaitingForPage old r → IsPageOff new r
  taken_on none w = record {
    asks = inr (asks_more old new es more ∙ (ap (λ (k : Asked). asked_steps k es) w.asks ∙ none));
    quiet = quiet_on w.quiet;
    found = set_on w.found;
  }

  pub off_on : ((k : Asked) → asked_steps k es ≡ k) → IsPageOff old r → IsPageOff new r
  off_on same o = record {
    asks = elim o.asks [
      | inl given ↦ inl (asks_more old new es more ∙ (same (asks_for old)
          ∙ (given ∙ ap (λ (n : ℕ). was_given (index n 0) r.page) (sym number))))
      | inr none ↦ inr (asks_more old new es more ∙ (same (asks_for old) ∙ none))
    ];
    quiet = quiet_on o.quiet;
    found = set_on o.found;
  }

-- the same by steps that take and give back no bit
module _ (old new : Known) (r : LockPage) (es : List Step) (c : Calm es old new) (calm : are_calm es ≡ true) where
  pub waits_calm : ((k : Asked) → asked_steps k es ≡ k) → IsWaitingForPage old r → IsWaitingForPage new r
  waits_calm same = waiting_on old new r es c.number c.history calm (same (waits_for (own_of old) r.page))

  pub left_calm : has_sleep es ≡ false → HasLeftPage old r → HasLeftPage new r
  left_calm awake = left_on old new r es c.number c.history calm awake

  pub off_calm : ((k : Asked) → asked_steps k es ≡ k) → IsPageOff old r → IsPageOff new r
  off_calm same = off_on old new r es c.number c.history calm same

  pub quiet_calm : IsQuiet old → IsQuiet new
  quiet_calm = quiet_on old new r es c.number c.history calm

  pub asks_calm : ((k : Asked) → asked_steps k es ≡ k) → IsUnasked old → IsUnasked new
  asks_calm same none = asks_more old new es c.history ∙ (same (asks_for old) ∙ none)

-- a look at the own entry outside of a hold
module _ (old new : Known) (r : LockPage) (w : ℕ) (c : Calm (step.Peek (index old.view.number 0) w ∷ []) old new) where
  pub peeked_some : is_some (entry_of w) ≡ true → IsWaitingForPage old r × HasLeftPage old r → IsWaitingForPage new r × HasLeftPage new r
  peeked_some is u =
      let es = step.Peek (index old.view.number 0) w ∷ [] in (
        waiting_on old new r es c.number c.history refl (looked_on (own_of old) r.page (entry_of w) is) u.0,
        left_calm old new r es c refl refl u.1,
      )

  pub peeked_none : is_some (entry_of w) ≡ false → IsWaitingForPage old r × HasLeftPage old r → IsPageOff new r × HasLeftPage new r
  peeked_none is u =
      let es = step.Peek (index old.view.number 0) w ∷ [] in (
        given_on old new r es c.number c.history refl (looked_off (own_of old) r.page (entry_of w) is) u.0,
        left_calm old new r es c refl refl u.1,
      )

-- and in one
took_own : (x p : ℕ) (k : Asked) → k ≡ waits_for x p → ask_step (step.Unqueue x) k ≡ nothing_asked
took_own x p k is = ap (ask_step (step.Unqueue x)) is
    ∙ ap (λ (b : Bool). if b then nothing_asked else waits_for x p) (eq-eqb x x refl)

pub pared_some : (old new : Known) (r : LockPage) (w : ℕ)
    → Calm (step.Saw (index old.view.number 0) w ∷ step.Unqueue (index old.view.number 0) ∷ []) old new
    → is_some (entry_of w) ≡ true → IsWaitingForPage old r × HasLeftPage old r → IsPageOff new r × HasLeftPage new r
pared_some old new r w c is u =
    let x = index old.view.number 0 in
    let es = step.Saw x w ∷ step.Unqueue x ∷ [] in (
      taken_on old new r es c.number c.history refl
          (took_own x r.page (given_if (is_off (entry_of w)) x (waits_for x r.page))
          (looked_on x r.page (entry_of w) is)) u.0,
      left_calm old new r es c refl refl u.1,
    )

pub pared_none : (old new : Known) (r : LockPage) (w h : ℕ)
    → Calm (step.Saw (index old.view.number 0) w ∷ step.Unlock h false ∷ []) old new
    → is_some (entry_of w) ≡ false → IsWaitingForPage old r × HasLeftPage old r → IsPageOff new r × HasLeftPage new r
pared_none old new r w h c is u =
    let x = index old.view.number 0 in
    let es = step.Saw x w ∷ step.Unlock h false ∷ [] in (
      given_on old new r es c.number c.history refl (looked_off x r.page (entry_of w) is) u.0,
      left_calm old new r es c refl refl u.1,
    )

-- a signal is found
pub signalled : (old new : Known) (r : LockPage) (w : ℕ) (c : Calm (step.Look w ∷ []) old new) (u : IsWaitingForPage old r)
    → pending (state_mask r.state) (task_of w) ≡ true → FoundPageSignal new r
signalled old new r w c u pends = record {
  found = set_on old new r (step.Look w ∷ []) c.number c.history refl u.found;
  front = u.found.more;
  look = w;
  later = [];
  looked = refl;
  pends = pends;
  awake = refl;
}

-- no step more
module _ (old new : Known) (r : LockPage) (still : Unmoved old new) where
  none_more : history_of new ≡ history_of old ++ []
  none_more = still.history ∙ sym (append-nil (history_of old))

  told : told_of new ≡ told_of old
  told = ap view_of still.history

  asks_still : asks_for new ≡ asks_for old
  asks_still = asks_more old new [] none_more

  waits_still : IsWaitingForPage old r → IsWaitingForPage new r
  waits_still = waiting_on old new r [] still.number none_more refl refl

  left_still : HasLeftPage old r → HasLeftPage new r
  left_still = left_on old new r [] still.number none_more refl refl

  off_still : IsPageOff old r → IsPageOff new r
  off_still = off_on old new r [] still.number none_more refl (λ k. refl)

  quiet_still : IsQuiet old → IsQuiet new
  quiet_still = quiet_on old new r [] still.number none_more refl

  kept_still : KeepsBitOf old (page_in r) → KeepsBitOf new (page_in r)
  kept_still keeps = ap (λ (v : View). v.bits.keeps (page_in r)) told ∙ keeps

  first_still : FoundFirst old r [] → FoundFirst new r []
  first_still f = record { tried = (f.tried.0, still.history ∙ f.tried.1); set = f.set }

  cleared_still : FoundFirst old r (step.Unflag (own_of old) None ∷ [])
      → FoundFirst new r (step.Unflag (own_of new) None ∷ [])
  cleared_still f = record {
    tried = (
      f.tried.0,
      still.history ∙ (f.tried.1 ∙ ap (λ (n : ℕ). f.tried.0 ++ step.Consume (page_in r) 1 r.seen
          ∷ step.Unflag (index n 0) None ∷ []) (sym still.number)),
    );
    set = f.set;
  }

  asked_still : asks_for old ≡ waits_for (own_of old) r.page → asks_for new ≡ waits_for (own_of new) r.page
  asked_still asks = asks_still ∙ (asks ∙ ap (λ (n : ℕ). waits_for (index n 0) r.page) (sym still.number))

  pub still_by : (s : PageStage) → PageWaitTrail old r s → PageWaitTrail new r s
  still_by stage.First u = asks_still ∙ u
  still_by stage.Unflag u = (asks_still ∙ u.0, first_still u.1)
  still_by stage.QueueLock u = ((asks_still ∙ u.0.0, quiet_still u.0.1), cleared_still u.1)
  still_by stage.QueueTurn u = (asks_still ∙ u.0, quiet_still u.1)
  still_by stage.Queue u = (asks_still ∙ u.0, quiet_still u.1)
  still_by stage.Try u = record {
    asks = asked_still u.asks;
    quiet = quiet_still u.quiet;
    entry = u.entry;
    shows = (λ i. (told i).hold.book (index (still.number i) 0)) ∙ u.shows;
    ends = (
      u.ends.0,
      still.history ∙ (u.ends.1 ∙ ap (λ (n : ℕ). u.ends.0 ++ step.Queue (index n 0) u.entry ∷ []) (sym still.number)),
    );
  }
  still_by stage.Off u = record {
    asks = asked_still u.asks;
    entry = u.entry;
    shows = (λ i. (told i).hold.book (index (still.number i) 0)) ∙ u.shows;
    keeps = kept_still u.keeps;
  }
  still_by (stage.QueueUnlock true) u = (asks_still ∙ u.0, kept_still u.1)
  still_by (stage.QueueUnlock false) u = waits_still u
  still_by stage.Worn u = (
    asks_still ∙ u.0,
    found_still old new (page_head_in r) r.place still u.1,
  )
  still_by stage.State u = waits_still u
  still_by stage.Flag u = waits_still u
  still_by stage.Look u = waits_still u
  still_by stage.Sleep u = waits_still u
  still_by stage.FinishState u = (waits_still u.0, left_still u.1)
  still_by stage.FinishLook u = (waits_still u.0, left_still u.1)
  still_by stage.FinishLock u = (waits_still u.0, left_still u.1)
  still_by stage.FinishTurn u = (waits_still u.0, left_still u.1)
  still_by stage.FinishQueue u = (waits_still u.0, left_still u.1)
  still_by stage.FinishUnlock u = (off_still u.0, left_still u.1)
  still_by stage.Last u = (off_still u.0, left_still u.1)
  still_by stage.Clear u = asks_still ∙ (u ∙ ap (λ (n : ℕ). was_given (index n 0) r.page) (sym still.number))

-- an answer 0
pub over_end : (k : Known) (r : LockPage) → KeepsBitOf k (page_in r) → IsUnasked k → PageEndTrail k r outcome.Over
over_end k r keeps none = record { cause = tt; keeps = λ is. keeps; asks = none }
