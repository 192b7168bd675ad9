-- Every run hands permits on.
use Rattle.std.proofs.Common.{refl, sym, ◌∙◌, ap, subst, arith, inl, inr}
use Rattle.std.proofs.lemmas.Bool.Decides.{eqb_tells}
use Rattle.std.specs.Prelude.{ℕ, ◌≡◌, ◌≢◌, ◌+◌, ◌*◌, ◌<◌, ◌≤◌, ◌⊎◌, Bool, true, false, ◌&&◌, ◌==◌, if◌then◌else◌}
use Rattle.std.specs.Prelude.{Option, Some, None, List, [], ◌∷◌}
use Rattle.wait_model.specs.{declared.calls.Call.Call, declared.calls.Event.Event, declared.calls.Ran.Ran}
use Rattle.wait_model.specs.{declared.points.Next.Next, declared.points.Point.Point, declared.points.Progress.Progress}
use Rattle.wait_model.specs.{declared.steps.Step.Step, declared.watches.Entry.Entry, declared.watches.Watch.Watch}
use Rattle.wait_model.specs.{Facts.Kept, Fold.after, Programs.program_start, Queues.place_for, Rows.AllAllowed}
use Rattle.wait_model.specs.{Views.View, Words.flag, Words.head_word}
use Rattle.wait_model.specs.declared.layout.TheConstants.{TASKS, BIT_WORDS, WORD_BITS, EVENTS, HASHED_HEADS}
use Rattle.wait_model.specs.Permits.{Dealt, EveryRunHandsPermitsOn, HandsOnOf, deals_all, done_head, shows_at}
use Rattle.wait_model.specs.PermitFacts.{AreViewsTold, IsAccounted, dealt_in}
use Rattle.wait_model.specs.PermitPlaces.{AllHandOn, AreAllDealt, DealtAt, IsDealt, is_about}
use Rattle.wait_model.specs.Points.{call_watch, given_at, is_await}
use Rattle.wait_model.specs.Reached.{IsCallSound, IsPlaced, IsSound, IsSoundCall}
use Rattle.wait_model.specs.Runs.{State, Continues, IsRunFrom, entry_for, event_steps, given_by, happens, is_open}
use Rattle.wait_model.specs.Runs.{is_publishing, made_in, own, planned, progress_after, progress_at, set_step}
use Rattle.wait_model.specs.Runs.{start_state, state_after}
use Rattle.wait_model.specs.Tables.{Table, next, steps, value_of}
use Rattle.wait_model.specs.Watches.{IsThere, bare, hashed, head_of, same, stands_at}
use Rattle.wait_model.specs.declared.calls.Call.TheVariants as calls
use Rattle.wait_model.specs.declared.calls.Event.TheVariants as event
use Rattle.wait_model.specs.declared.calls.Ran.TheVariants as ran
use Rattle.wait_model.specs.declared.points.Next.TheVariants as next
use Rattle.wait_model.specs.declared.points.Progress.TheVariants as now
use Rattle.wait_model.specs.declared.steps.Step.TheVariants as step
use Rattle.wait_model.specs.declared.watches.Watch.TheVariants as watch
use Rattle.wait_model.proofs.{HistoryLaws.HoldLooks.looks_same, HistoryLaws.HoldLooks.told_next}
use Rattle.wait_model.proofs.{HistoryLaws.UnlockedLooks.peeks_same, PermitLaws.PermitEvents.shows_none}
use Rattle.wait_model.proofs.{PermitLaws.PermitSelections.program_leaves, RunLaws.OthersEvents.own_one}
use Rattle.wait_model.proofs.{StepLaws.KeptLaws.step_keeps, WordLaws.CondWords.set_rest}
use Rattle.wait_model.proofs.Functions.{put_at, put_same, put_other}
use Rattle.wait_model.proofs.PermitLaws.CountDebts.{all_peeked, load_apart, locked, looks_hand, peeks_hand, set_apart}
use Rattle.wait_model.proofs.PermitLaws.CountDebts.{store_apart}
use Rattle.wait_model.proofs.PermitLaws.OwnTurns.{clash, other_dealt, own_dealt, own_view}
use Rattle.wait_model.proofs.PermitLaws.PermitSteps.{accounted_handed, accounted_start, accounted_step}
use Rattle.wait_model.proofs.RunLaws.EveryRun.{IsMade, made_of, made_sound, opened_sound, start_sound, sound_of}

-- the heads of bits and variables are others
hashed_small : (n : ℕ) → hashed n < HASHED_HEADS
unfolding hashed
hashed_small n = omega arith

-- who queues at a completion's head waits for it
pub watch_of_head : (c : Watch) (d : ℕ) → IsThere c → head_of (bare c) ≡ done_head d → same c (watch.Done d) ≡ true
unfolding head_of
watch_of_head (watch.Plain c) d h e = absurd (omega (arith, h, e))
watch_of_head (watch.Done c) d h e = let q : c ≡ d = omega (arith, e) in grind (arith, q)
watch_of_head (watch.Bit i b) d h e =
    absurd (let l : hashed (i * WORD_BITS + b) < HASHED_HEADS = hashed_small (i * WORD_BITS + b) in omega (arith, l, e))
watch_of_head (watch.Var v o) d h e =
    absurd (let l : hashed (BIT_WORDS + v) < HASHED_HEADS = hashed_small (BIT_WORDS + v) in omega (arith, l, e))

about_is : (c : Watch) (d : ℕ) → same c (watch.Done d) ≡ true → c ≡ watch.Done d
about_is (watch.Done c) d h = let q : c ≡ d = grind arith in ap watch.Done q
about_is _ d h = absurd (cc)

-- a call that is about something else
module _ (s : State) (me : ℕ) (call : Call) (p : Point) (d : ℕ) (k : Kept s.table) (there : IsThere (call_watch call))
    (apart : is_about d call ≡ false) (left : (dealt_in s.table d me).left ≡ false)
    (debt : (dealt_in s.table d me).debt ≡ 0) (st : stands_at (s.table.entry (own me)) (done_head d) ≡ false) where
  abbrev v : View
  v = s.table.view me

  abbrev w : Dealt
  w = dealt_in s.table d me

  abbrev h : ℕ
  h = done_head d

  -- what its event leaves
  record Apart (e : Event) : Type 0 where
    hands : AllHandOn d s.table me (event_steps s me (given_at call p) e)
    unleft : (deals_all d (own me) v w (event_steps s me (given_at call p) e)).left ≡ false
    free : (deals_all d (own me) v w (event_steps s me (given_at call p) e)).debt ≡ 0
    off : stands_at ((steps s.table me (event_steps s me (given_at call p) e)).entry (own me)) h ≡ false

  same_apart : (e : Event) → AllHandOn d s.table me (event_steps s me (given_at call p) e)
      → deals_all d (own me) v w (event_steps s me (given_at call p) e) ≡ w
      → (steps s.table me (event_steps s me (given_at call p) e)).entry ≡ s.table.entry → Apart e
  same_apart e hands same entry = record {
    hands = hands;
    unleft = ap (λ (u : Dealt). u.left) same ∙ left;
    free = ap (λ (u : Dealt). u.debt) same ∙ debt;
    off = ap (λ (f : ℕ → Option Entry). stands_at (f (own me)) h) entry ∙ st;
  }

  unlock_apart : (i : ℕ) (used : Bool) → v.hold.head ≡ Some i → Apart (event.Unlock i used)
  unlock_apart i used held = record {
    hands = ((λ q. ((λ l. absurd (clash w.left l left)), inl debt)), tt);
    unleft = by (eqb_tells i h);
    free = freed (i == h);
    off = st;
  }
    where
      by : (((i == h) ≡ true) × (i ≡ h)) ⊎ (((i == h) ≡ false) × (i ≢ h))
          → (if i == h then shows_at h (v.hold.book (own me)) else w.left) ≡ false
      by (inl q) = ap (λ (b : Bool). if b then shows_at h (v.hold.book (own me)) else w.left) q.0
          ∙ shows_none h (v.hold.book (own me)) (s.table.entry (own me))
          ((k.facts.views me).hold.agrees h (own me) (held ∙ ap (λ (j : ℕ). Some j) q.1)) st
      by (inr q) = ap (λ (b : Bool). if b then shows_at h (v.hold.book (own me)) else w.left) q.0 ∙ left

      freed : (b : Bool) → (if b then 0 else w.debt) ≡ 0
      freed true = refl
      freed false = debt

  set_hands : (x found : ℕ) → AllHandOn d s.table me (set_step (call_watch call) x found ∷ [])
  set_hands x found = (by (is_publishing (call_watch call) found x), tt)
    where
      by : (b : Bool) → HandsOnOf d me v w (if b then step.Publish (call_watch call) x found
          else step.Consume (call_watch call) x found)
      by true = tt
      by false = tt

  event_apart : (e : Event) → AllAllowed s.table me (event_steps s me (given_at call p) e) → Apart e
  event_apart (event.Unlock i used) al = unlock_apart i used al.0.0
  event_apart (event.Lock i) al =
      let l = locked d (own me) i (given_at call p).walk (head_word (s.table.holder i)
      (s.table.spent i)) s.table.entry v w in
      let f : flag w.left ≡ 0 = ap flag left in
      record {
        hands = (
          tt,
          looks_hand d s.table.entry (next s.table me (step.Lock i (given_at call p).walk
              (head_word (s.table.holder i) (s.table.spent i)))) me,
        );
        unleft = l.left ∙ left;
        free = (let b = l.debt in omega (arith, b, f, debt));
        off = ap (λ (g : ℕ → Option Entry). stands_at (g (own me)) h)
            (looks_same (next s.table me (step.Lock i (given_at call p).walk
            (head_word (s.table.holder i) (s.table.spent i)))) s.table.entry me).entry ∙ st;
      }
  event_apart (event.Queue i form) al = record {
    hands = ((λ q. absurd (clash (is_about d call) (watch_of_head (call_watch call) d there q) apart)), tt);
    unleft = left;
    free = debt;
    off = ap (λ (o : Option Entry). stands_at o h) (put_same s.table.entry (own me)
        (Some (entry_for (given_at call p) form (place_for form (s.queue i)))))
        ∙ by (eqb_tells (head_of (bare (call_watch call))) h);
  }
    where
      by : (((head_of (bare (call_watch call)) == h) ≡ true) × (head_of (bare (call_watch call)) ≡ h))
          ⊎ (((head_of (bare (call_watch call)) == h) ≡ false) × (head_of (bare (call_watch call)) ≢ h))
          → (head_of (bare (call_watch call)) == h) ≡ false
      by (inl q) = absurd (clash (is_about d call) (watch_of_head (call_watch call) d there q.1) apart)
      by (inr q) = q.0
  event_apart (event.Unqueue who) al = record {
    hands = (tt, tt);
    unleft = left;
    free = omega (arith, debt);
    off = put_at (λ (o : Option Entry). stands_at o h ≡ false) s.table.entry (own who) None (own me) (λ _. refl)
        (λ _. st);
  }
  event_apart (event.Active i hit) al = same_apart (event.Active i hit) (peeks_hand d s.table.entry s.table me)
      (all_peeked d (own me) s.table.entry v w) (peeks_same s.table s.table.entry me).entry
  event_apart (event.Load c x) al = same_apart (event.Load c x) (tt, tt)
      (load_apart d (own me) v w (call_watch call) x apart) refl
  event_apart (event.Set c x) al = same_apart (event.Set c x)
      (set_hands x (value_of s.table.words (call_watch call)))
      (set_apart d (own me) v w (call_watch call) x (value_of s.table.words (call_watch call)) apart)
      (set_rest s.table me (call_watch call) x (value_of s.table.words (call_watch call))).entry
  event_apart (event.Take c x) al = same_apart (event.Take c x) (tt, tt)
      (store_apart d (own me) v w (call_watch call) 0 (value_of s.table.words (call_watch call)) apart).1 refl
  event_apart (event.Tas i b x) al = same_apart (event.Tas i b x) (tt, tt)
      (store_apart d (own me) v w (call_watch call) 1 (value_of s.table.words (call_watch call)) apart).1 refl
  event_apart (event.Clear i b) al = same_apart (event.Clear i b) (tt, tt)
      (store_apart d (own me) v w (call_watch call) 0 (value_of s.table.words (call_watch call)) apart).0 refl
  event_apart e al = same_apart e (tt, tt) refl refl

  -- where it goes
  goes_apart : (e : Event) (x : Next) → Apart e
      → IsDealt d (steps s.table me (event_steps s me (given_at call p) e)).entry me (progress_at call x)
      (deals_all d (own me) v w (event_steps s me (given_at call p) e))
  goes_apart e (next.Go q) a = record {
    bare = λ _. (a.unleft, a.off);
    calm = λ _. a.free;
    place = λ t. absurd (clash (is_about d call) t apart);
  }
  goes_apart e (next.Ends answer) a = record { bare = λ _. (a.unleft, a.off); calm = λ _. a.free; place = tt }

-- an event of another task
others_stand : (s : State) (me t d : ℕ) (call : Call) (p : Point) (e : Event) → t ≢ me
    → stands_at (s.table.entry (own t)) (done_head d) ≡ false
    → stands_at ((steps s.table me (event_steps s me (given_at call p) e)).entry (own t)) (done_head d) ≡ false
others_stand s me t d call p (event.Lock i) ne st =
    ap (λ (g : ℕ → Option Entry). stands_at (g (own t)) (done_head d))
    (looks_same (next s.table me (step.Lock i (given_at call p).walk
    (head_word (s.table.holder i) (s.table.spent i)))) s.table.entry me).entry ∙ st
others_stand s me t d call p (event.Queue i form) ne st =
    ap (λ (o : Option Entry). stands_at o (done_head d)) (put_other s.table.entry (own me)
    (Some (entry_for (given_at call p) form (place_for form (s.queue i)))) (own t) (λ q. ne (own_one t me q))) ∙ st
others_stand s me t d call p (event.Unqueue who) ne st = put_at
    (λ (o : Option Entry). stands_at o (done_head d) ≡ false) s.table.entry (own who) None (own t) (λ _. refl) (λ _. st)
others_stand s me t d call p (event.Active i hit) ne st =
    ap (λ (g : ℕ → Option Entry). stands_at (g (own t)) (done_head d)) (peeks_same s.table s.table.entry me).entry ∙ st
others_stand s me t d call p (event.Set c x) ne st =
    ap (λ (g : ℕ → Option Entry). stands_at (g (own t)) (done_head d))
    (set_rest s.table me (call_watch call) x (value_of s.table.words (call_watch call))).entry ∙ st
others_stand s me t d call p e ne st = st

-- where a call begins
start_place : (call : Call) (d : ℕ) (w : Dealt) → is_about d call ≡ true → DealtAt call (program_start call) w
start_place (calls.WaitFor c st) d w h = tt
start_place call d w h = cc

closed_dealt : (d : ℕ) (entry : ℕ → Option Entry) (t : ℕ) (q : Progress) (w : Dealt) → is_open q ≡ false
    → IsDealt d entry t q w → (w.left ≡ false) × (stands_at (entry (own t)) (done_head d) ≡ false) × (w.debt ≡ 0)
closed_dealt d entry t now.Fresh w h k = ((k.bare refl).0, (k.bare refl).1, k.calm refl)
closed_dealt d entry t now.Idle w h k = ((k.bare refl).0, (k.bare refl).1, k.calm refl)
closed_dealt d entry t (now.Open call p) w h k = absurd (cc)

opened_dealt : (s : State) (me : ℕ) (call : Call) → is_open (s.progress me) ≡ false → AreAllDealt s
    → AreAllDealt (happens s (ran.Opened me call))
opened_dealt s me call closed all d t = put_at
    (λ (q : Progress). IsDealt d s.table.entry t q (dealt_in s.table d t)) s.progress me _ t
    (λ same. subst (λ (i : ℕ). IsDealt d s.table.entry i (now.Open call (program_start call)) (dealt_in s.table d i))
    (sym same)
    (let k = closed_dealt d s.table.entry me (s.progress me) (dealt_in s.table d me) closed (all d me) in record {
      bare = λ _. (k.0, k.1);
      calm = λ _. k.2;
      place = λ h. start_place call d (dealt_in s.table d me) h;
    }))
    (λ _. all d t)

-- steps of one task in a row
accounted_steps : (es : List Step) (s : Table) (a : ℕ) → a < TASKS → Kept s → AllAllowed s a es
    → ((d : ℕ) → AllHandOn d s a es) → IsAccounted s → IsAccounted (steps s a es)
accounted_steps [] s a lt k al on x = x
accounted_steps (e ∷ es) s a lt k al on x = accounted_steps es (next s a e) a lt (step_keeps s a e k al.0) al.1
    (λ d. (on d).1) (accounted_step s a e lt k al.0 (λ d. (on d).0) x)

steps_dealt : (es : List Step) (s : Table) (a d : ℕ) → AreViewsTold s
    → dealt_in (steps s a es) d a ≡ deals_all d (own a) (s.view a) (dealt_in s d a) es
steps_dealt [] s a d told = refl
steps_dealt (e ∷ es) s a d told = steps_dealt es (next s a e) a d (told_next s a e told)
    ∙ ap (λ (v : View). deals_all d (own a) v (dealt_in (next s a e) d a) es) (own_view s a e d told)
    ∙ ap (λ (w : Dealt). deals_all d (own a) (after e (s.view a)) w es) (own_dealt s a e d told)

steps_apart : (es : List Step) (s : Table) (a b d : ℕ) → b ≢ a → AreViewsTold s
    → dealt_in (steps s a es) d b ≡ dealt_in s d b
steps_apart [] s a b d ne told = refl
steps_apart (e ∷ es) s a b d ne told = steps_apart es (next s a e) a b d ne (told_next s a e told)
    ∙ other_dealt s a e d told b ne

-- an event of a run
pub record IsHandedOn (s : State) (me : ℕ) (q : Progress) (e : Event) (d : ℕ) : Type 0 where
  pub hands : AllHandOn d s.table me (event_steps s me (given_by q) e)
  pub leads : IsDealt d (steps s.table me (event_steps s me (given_by q) e)).entry me (progress_after s me q)
      (deals_all d (own me) (s.table.view me) (dealt_in s.table d me) (event_steps s me (given_by q) e))
  pub others : (t : ℕ) → t ≢ me → stands_at (s.table.entry (own t)) (done_head d) ≡ false
      → stands_at ((steps s.table me (event_steps s me (given_by q) e)).entry (own t)) (done_head d) ≡ false

module _ (s : State) (n me : ℕ) (sound : IsSound s n) (acc : IsAccounted s.table) (mine : me < TASKS) (d : ℕ) where
  handed_from : (e : Event) (found : ℕ) (q : Progress) → s.progress me ≡ q → Continues s me q e found
      → IsDealt d s.table.entry me q (dealt_in s.table d me) → IsMade s n me q e → IsHandedOn s me q e d
  handed_from e found now.Fresh is c dl m = absurd c
  handed_from e found now.Idle is c dl m = absurd c
  handed_from e found (now.Open call p) is c dl m = by (is_about d call) refl
    where
      k : IsCallSound n call p
      k = subst (IsSoundCall n) is (sound.calls me)

      pl : IsPlaced s.table.entry (s.table.view me) me (now.Open call p)
      pl = subst (λ (x : Progress). IsPlaced s.table.entry (s.table.view me) me x) is (sound.placed me)

      none_awaits : (b : Bool) → is_about d call ≡ b → b ≡ false → (is_await call && is_about d call) ≡ false
      none_awaits b q z = ap (λ (t : Bool). is_await call && t) (q ∙ z) ∙ both (is_await call)
        where
          both : (t : Bool) → (t && false) ≡ false
          both true = refl
          both false = refl

      by : (b : Bool) → is_about d call ≡ b → IsHandedOn s me (now.Open call p) e d
      by true about =
          let l = program_leaves s n me call d sound mine acc (about_is (call_watch call) d about) about p k pl dl in
          subst (λ (x : Event). IsHandedOn s me (now.Open call p) x d) (sym c.0) (record {
            hands = l.hands;
            leads = l.leads;
            others = λ t ne st. others_stand s me t d call p (planned s me call p).event ne st;
          })
      by false apart =
          let bare = dl.bare (none_awaits false apart refl) in
          let free = dl.calm apart in
          let a = event_apart s me call p d sound.kept k.watch apart bare.0 free bare.1 e m.made in
          record {
            hands = a.hands;
            leads = goes_apart s me call p d sound.kept k.watch apart bare.0 free bare.1 e (planned s me call p).next a;
            others = λ t ne st. others_stand s me t d call p e ne st;
          }

made_dealt : (s : State) (n me : ℕ) (e : Event) (found : ℕ) → IsSound s n → IsAccounted s.table → me < TASKS
    → Continues s me (s.progress me) e found → AreAllDealt s
    → IsAccounted (happens s (ran.Made me e found)).table × AreAllDealt (happens s (ran.Made me e found))
made_dealt s n me e found sound acc mine c all = (
  accounted_steps es s.table me mine sound.kept m.made (λ d. (o d).hands) acc,
  λ d t. put_at (λ (q : Progress). IsDealt d (steps s.table me es).entry t q (dealt_in (steps s.table me es) d t))
      s.progress me _ t
      (λ same. subst (λ (i : ℕ). IsDealt d (steps s.table me es).entry i (progress_after s me (s.progress me))
      (dealt_in (steps s.table me es) d i)) (sym same)
      (subst (λ (w : Dealt). IsDealt d (steps s.table me es).entry me (progress_after s me (s.progress me)) w)
      (sym (steps_dealt es s.table me d acc.views)) (o d).leads))
      (λ ne. subst (λ (w : Dealt). IsDealt d (steps s.table me es).entry t (s.progress t) w)
      (sym (steps_apart es s.table me t d ne acc.views)) (record {
        bare = λ f. (((all d t).bare f).0, (o d).others t ne ((all d t).bare f).1);
        calm = (all d t).calm;
        place = (all d t).place;
      })),
)
  where
    es : List Step
    es = event_steps s me (given_by (s.progress me)) e

    m : IsMade s n me (s.progress me) e
    m = made_of s n me e found sound mine (s.progress me) refl c

    o : (d : ℕ) → IsHandedOn s me (s.progress me) e d
    o d = handed_from s n me sound acc mine d e found (s.progress me) refl c (all d me) m

accounted_items : (items : List Ran) (s : State) (n : ℕ) → IsRunFrom s items → n + made_in items ≤ EVENTS → IsSound s n
    → IsAccounted s.table → AreAllDealt s → IsAccounted (state_after s items).table
accounted_items [] s n r few sound acc all = acc
accounted_items (ran.Opened me call ∷ items) s n r few sound acc all =
    accounted_items items (happens s (ran.Opened me call)) n r.1 few (opened_sound s n me call sound r.0) acc
    (opened_dealt s me call r.0.1 all)
accounted_items (ran.Made me e found ∷ items) s n r few sound acc all =
    let made = made_dealt s n me e found sound acc r.0.0 r.0.1 all in
    accounted_items items (happens s (ran.Made me e found)) (n + 1) r.1 (omega (arith, few))
    (made_sound s n me e found sound (omega (arith, few)) r.0) made.0 made.1

start_dealt : AreAllDealt start_state
start_dealt d t = record { bare = λ _. (refl, refl); calm = λ _. refl; place = tt }

pub every_run_hands_on : EveryRunHandsPermitsOn
every_run_hands_on run r few = accounted_handed (state_after start_state run).table (sound_of run r few).kept
    (accounted_items run start_state 0 r (omega (arith, few)) start_sound accounted_start start_dealt)
