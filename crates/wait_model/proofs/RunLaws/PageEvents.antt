-- Each event of a call that locks a page is fine.
use Rattle.std.proofs.lemmas.Bool.{both_ways}
use Rattle.std.proofs.Common.{refl, sym, ◌∙◌, ap, subst, inl, inr}
use Rattle.std.specs.Prelude.{ℕ, ◌≡◌, ◌+◌, ◌<◌, Bool, true, false, is_some, if◌then◌else◌, Option, Some, None}
use Rattle.wait_model.specs.{declared.layout.TheConstants.TASKS, declared.calls.Call.Call}
use Rattle.wait_model.specs.{declared.points.FinishPoint.FinishPoint, declared.points.PagePoint.PagePoint}
use Rattle.wait_model.specs.{declared.points.Planned.Planned, declared.watches.Watch.Watch}
use Rattle.wait_model.specs.{declared.watches.Entry.Entry, Tables.value_of, Words.Suited, Words.done_word, Rows.Allowed}
use Rattle.wait_model.specs.Points.{call_watch, call_head, state_in, given_at}
use Rattle.wait_model.specs.Programs.{go, ends_with, zero_answer, page_last}
use Rattle.wait_model.specs.Reached.{IsPlaced, IsCallSound, IsSound, IsHome, absent, pages, seated, holds}
use Rattle.wait_model.specs.Runs.{State, own, planned}
use Rattle.wait_model.specs.Tasks.{pending, state_mask, looks_in}
use Rattle.wait_model.specs.Watches.{IsThere, bare, is_bit, page, word_of, bit_of, misses, head_of}
use Rattle.wait_model.proofs.{RunLaws.BitEvents.take_fine, RunLaws.BitEvents.taking, RunLaws.OthersEvents.IsGone}
use Rattle.wait_model.proofs.{WordLaws.CondWords.head_of_bare, WordLaws.DecodedWords.owner_own}
use Rattle.wait_model.proofs.WordLaws.DecodedWords.{done_read_back}
use Rattle.wait_model.proofs.RunLaws.FineEvents.{Fine, inside, outside, still_fine, lock_fine, unlock_fine, queue_fine}
use Rattle.wait_model.proofs.RunLaws.FineEvents.{unqueue_fine, none_there, one_there, read, unflag_fine}
use Rattle.wait_model.proofs.RunLaws.WaitEvents.{own_read, no_spend, to, head_small, state_fine, mask_state, gone_home}
use Rattle.wait_model.proofs.RunLaws.WaitEvents.{off_free, none_absent, is_off}
use Rattle.wait_model.specs.declared.calls.Event.TheVariants as event
use Rattle.wait_model.specs.declared.points.FinishPoint.TheVariants as finishing
use Rattle.wait_model.specs.declared.points.Next.TheVariants as next
use Rattle.wait_model.specs.declared.points.PagePoint.TheVariants as paging
use Rattle.wait_model.specs.declared.points.Point.TheVariants as at
use Rattle.wait_model.specs.declared.points.Progress.TheVariants as now
use Rattle.wait_model.specs.declared.watches.Kind.TheVariants as kind
use Rattle.wait_model.specs.declared.watches.Watch.TheVariants as watch
use Rattle.wait_model.specs.declared.steps.Step.TheVariants as step

page_suits : (c : Watch) → IsThere c → c ≡ page (word_of c) → Suited (bare c) kind.Page
page_suits (watch.Bit w b) h e = (h.0, h.1, inr (refl, ap bit_of e))
page_suits _ h e = absurd (both_ways false refl (ap is_bit e))

seated_pages : (c : Watch) (o : Option Entry) → IsHome seated c o → IsHome pages c o
seated_pages c None h = absurd h
seated_pages c (Some e) h = h

seated_there : (c : Watch) (o : Option Entry) → IsHome seated c o → is_some o ≡ true
seated_there c None h = absurd h
seated_there c (Some e) h = refl

module _ (s : State) (n me : ℕ) (call : Call) (sound : IsSound s n) (mine : me < TASKS) where
  abbrev F : PagePoint → Planned → Type 0
  F p x = Fine s n me call sound mine (given_at call (at.Page p)) x

  abbrev P : PagePoint → Type 0
  P p = IsPlaced s.table.entry (s.table.view me) me (now.Open call (at.Page p))

  abbrev K : PagePoint → Type 0
  K p = IsCallSound n call (at.Page p)

  abbrev o : Option Entry
  o = s.table.entry (own me)

  -- from one place of the call to another
  on : (p q : PagePoint) → K p → IsCallSound (n + 1) call (at.Page q)
  on p q k = to s n me call sound mine (at.Page p) (at.Page q) k refl tt k.fitted

  bit : (p : PagePoint) → K p → is_bit (call_watch call) ≡ true
  bit p k = ap is_bit k.fitted

  -- the own entry, which may be queued for the page, stands at the head that the task holds
  page_gone : (p : PagePoint) → P p → IsHome pages (call_watch call) o
      → (s.table.view me).hold.head ≡ Some (call_head call) → is_some o ≡ true → IsGone s me me
  page_gone p pl home held there =
      let e = one_there o there in
      let h : IsHome pages (call_watch call) (Some e.0) = subst (IsHome pages (call_watch call)) e.1 home in
      record {
        it = e.0;
        stands = e.1;
        head = held ∙ ap (λ i. Some i) (sym (head_of_bare (call_watch call)) ∙ ap head_of (sym h.0));
        goes = inl refl;
      }

  abbrev out : (p : PagePoint) → P p → holds (at.Page p) ≡ false → (s.table.view me).hold.head ≡ None
  out p pl no_hold = outside s n me call sound mine (at.Page p) pl no_hold

  held : (p : PagePoint) → P p → holds (at.Page p) ≡ true → (s.table.view me).hold.head ≡ Some (call_head call)
  held p pl hold = inside s n me call sound mine (at.Page p) pl hold

  -- the exchange that begins the call, and the one after the store of the entry
  first_fine : (b : Bool) → K paging.First → P paging.First → F paging.First (if b
      then go (taking s n me call sound mine) (at.Page paging.Unflag)
      else ends_with (taking s n me call sound mine) zero_answer)
  first_fine true k pl = take_fine s n me call sound mine (at.Page paging.First) (next.Go (at.Page paging.Unflag)) pl k
      (bit paging.First k) (on paging.First paging.Unflag k)
      (record { same = refl; home = pl.home; calm = refl; taken = refl })
  first_fine false k pl = take_fine s n me call sound mine (at.Page paging.First) (next.Ends zero_answer) pl k
      (bit paging.First k) tt
      (record { same = refl; home = off_free (call_watch call) (watch.Plain 0) o pl.home; calm = refl; taken = refl })

  try_fine : (b : Bool) → K paging.Try → P paging.Try → F paging.Try (go (taking s n me call sound mine)
      (at.Page (if b then paging.Unlock false else paging.Off)))
  try_fine true k pl = take_fine s n me call sound mine (at.Page paging.Try) (next.Go (at.Page (paging.Unlock false)))
      pl k (bit paging.Try k) (on paging.Try (paging.Unlock false) k)
      (record { same = refl; home = seated_pages (call_watch call) o pl.home; calm = refl; taken = refl })
  try_fine false k pl = take_fine s n me call sound mine (at.Page paging.Try) (next.Go (at.Page paging.Off))
      pl k (bit paging.Try k) (on paging.Try paging.Off k)
      (record { same = refl; home = pl.home; calm = refl; taken = refl })

  unlock_at : (b : Bool) → K (paging.Unlock b) → P (paging.Unlock b)
      → F (paging.Unlock b) (planned s me call (at.Page (paging.Unlock b)))
  unlock_at true k pl = unlock_fine s n me call sound mine (at.Page (paging.Unlock true)) pl (call_head call) false
      (next.Ends zero_answer) refl refl (head_small s n me call sound mine (at.Page (paging.Unlock true)) k)
      (no_spend s n me call sound mine) tt refl (off_free (call_watch call) (watch.Plain 0) o pl.home) refl refl
  unlock_at false k pl = unlock_fine s n me call sound mine (at.Page (paging.Unlock false)) pl (call_head call) false
      (next.Go (at.Page paging.State)) refl refl
      (head_small s n me call sound mine (at.Page (paging.Unlock false)) k)
      (no_spend s n me call sound mine) (on (paging.Unlock false) paging.State k) refl pl.home refl refl

  -- the own flag
  flag_allowed : Allowed s.table me (step.Flag (own me) (done_word (s.table.flag (own me)) (s.table.done (own me))))
  flag_allowed = (owner_own me, done_read_back (s.table.flag (own me)) (s.table.done (own me)))

  flag_fine : (b l : Bool) → K paging.Flag → P paging.Flag → F paging.Flag (go (event.Flag b)
      (at.Page (if b then paging.Finish finishing.State else if l then paging.Look else paging.Sleep)))
  flag_fine true l k pl = still_fine s n me call sound mine (at.Page paging.Flag) pl _ tt tt tt (flag_allowed, tt)
      (on paging.Flag (paging.Finish finishing.State) k)
      (record { same = refl; home = pl.home; calm = refl; taken = refl })
  flag_fine false true k pl = still_fine s n me call sound mine (at.Page paging.Flag) pl _ tt tt tt (flag_allowed, tt)
      (on paging.Flag paging.Look k) (record { same = refl; home = pl.home; calm = refl; taken = refl })
  flag_fine false false k pl = still_fine s n me call sound mine (at.Page paging.Flag) pl _ tt tt tt (flag_allowed, tt)
      (on paging.Flag paging.Sleep k) (record { same = refl; home = pl.home; calm = refl; taken = refl })

  look_fine : (b : Bool) → K paging.Look → P paging.Look → F paging.Look (go (event.Look b)
      (at.Page (if b then paging.Finish finishing.State else paging.Sleep)))
  look_fine true k pl = still_fine s n me call sound mine (at.Page paging.Look) pl _ tt tt tt
      (own_read s n me call sound mine, tt) (on paging.Look (paging.Finish finishing.State) k)
      (record { same = refl; home = pl.home; calm = refl; taken = refl })
  look_fine false k pl = still_fine s n me call sound mine (at.Page paging.Look) pl _ tt tt tt
      (own_read s n me call sound mine, tt) (on paging.Look paging.Sleep k)
      (record { same = refl; home = pl.home; calm = refl; taken = refl })

  last_fine : (b : Bool) → K paging.Last → P paging.Last → F paging.Last (page_last b)
  last_fine true k pl = still_fine s n me call sound mine (at.Page paging.Last) pl _ tt tt tt (flag_allowed, tt)
      (on paging.Last paging.Clear k) (record { same = refl; home = pl.home; calm = refl; taken = refl })
  last_fine false k pl = still_fine s n me call sound mine (at.Page paging.Last) pl _ tt tt tt (flag_allowed, tt) tt
      (record { same = refl; home = off_free (call_watch call) (watch.Plain 0) o pl.home; calm = refl; taken = refl })

  -- finishing
  abbrev fin : FinishPoint → PagePoint
  fin p = paging.Finish p

  stands_fine : (b : Bool) → is_some o ≡ b → K (fin finishing.Look) → P (fin finishing.Look)
      → F (fin finishing.Look) (if b then go (event.Queued true) (at.Page (fin finishing.Lock))
      else go (event.Queued false) (at.Page paging.Last))
  stands_fine true there k pl = still_fine s n me call sound mine (at.Page (fin finishing.Look)) pl _ tt tt tt
      ((read s n me call sound mine (own me), out (fin finishing.Look) pl refl), tt)
      (on (fin finishing.Look) (fin finishing.Lock) k)
      (record { same = refl; home = pl.home; calm = refl; taken = refl })
  stands_fine false there k pl = still_fine s n me call sound mine (at.Page (fin finishing.Look)) pl _ tt tt tt
      ((read s n me call sound mine (own me), out (fin finishing.Look) pl refl), tt)
      (on (fin finishing.Look) paging.Last k)
      (record { same = refl; home = none_absent (call_watch call) o (none_there o there); calm = refl; taken = refl })

  leaves_fine : (b : Bool) → is_some o ≡ b → K (fin finishing.Queue) → P (fin finishing.Queue)
      → F (fin finishing.Queue) (if b then go (event.Unqueue me) (at.Page (fin finishing.Unlock))
      else go (event.Unlock (call_head call) false) (at.Page paging.Last))
  leaves_fine true there k pl = unqueue_fine s n me call sound mine (at.Page (fin finishing.Queue)) pl
      (at.Page (fin finishing.Unlock)) me mine
      (page_gone (fin finishing.Queue) pl pl.home (held (fin finishing.Queue) pl refl) there)
      (on (fin finishing.Queue) (fin finishing.Unlock) k) refl refl refl
      (gone_home s n me call sound mine (at.Page (fin finishing.Unlock)) tt)
  leaves_fine false there k pl = unlock_fine s n me call sound mine (at.Page (fin finishing.Queue)) pl (call_head call)
      false (next.Go (at.Page paging.Last)) refl refl
      (head_small s n me call sound mine (at.Page (fin finishing.Queue)) k) (no_spend s n me call sound mine)
      (on (fin finishing.Queue) paging.Last k) refl (none_absent (call_watch call) o (none_there o there)) refl refl

  finish_fine : (p : FinishPoint) → K (fin p) → P (fin p) → F (fin p) (planned s me call (at.Page (fin p)))
  finish_fine finishing.State k pl = state_fine s n me call sound mine (at.Page (fin finishing.State))
      (at.Page (fin finishing.Look)) 0 pl (inl refl) (on (fin finishing.State) (fin finishing.Look) k)
      (record { same = refl; home = pl.home; calm = refl; taken = refl })
  finish_fine finishing.Look k pl = stands_fine (is_some o) refl k pl
  finish_fine finishing.Lock k pl = lock_fine s n me call sound mine (at.Page (fin finishing.Lock)) pl (call_head call)
      refl (at.Page (fin finishing.Queue)) (head_small s n me call sound mine (at.Page (fin finishing.Lock)) k) tt refl
      refl (on (fin finishing.Lock) (fin finishing.Queue) k) pl.home refl
  finish_fine finishing.Queue k pl = leaves_fine (is_some o) refl k pl
  finish_fine finishing.Unlock k pl = unlock_fine s n me call sound mine (at.Page (fin finishing.Unlock)) pl
      (call_head call) false (next.Go (at.Page paging.Last)) refl refl
      (head_small s n me call sound mine (at.Page (fin finishing.Unlock)) k) (no_spend s n me call sound mine)
      (on (fin finishing.Unlock) paging.Last k) refl pl.home refl refl

  pub page_fine : (p : PagePoint) → K p → P p → F p (planned s me call (at.Page p))
  page_fine paging.First k pl = first_fine (misses (call_watch call) (value_of s.table.words (call_watch call))) k pl
  page_fine paging.Unflag k pl = unflag_fine s n me call sound mine (at.Page paging.Unflag) pl _
      (λ e q. absurd (subst (IsHome absent (call_watch call)) q pl.home)) (on paging.Unflag paging.Lock k)
      (record { same = refl; home = pl.home; calm = refl; taken = refl })
  page_fine paging.Lock k pl = lock_fine s n me call sound mine (at.Page paging.Lock) pl (call_head call) refl
      (at.Page paging.Queue) (head_small s n me call sound mine (at.Page paging.Lock) k) tt refl refl
      (on paging.Lock paging.Queue k) pl.home refl
  page_fine paging.Queue k pl = queue_fine s n me call sound mine (at.Page paging.Queue) pl (at.Page paging.Try) refl
      refl refl refl k.watch refl (is_off (call_watch call) o pl.home)
      (page_suits (call_watch call) k.watch k.fitted) (on paging.Queue paging.Try k) (λ e w j. (w, j)) refl refl
  page_fine paging.Try k pl = try_fine (misses (call_watch call) (value_of s.table.words (call_watch call))) k pl
  page_fine paging.Off k pl = unqueue_fine s n me call sound mine (at.Page paging.Off) pl
      (at.Page (paging.Unlock true)) me mine
      (page_gone paging.Off pl (seated_pages (call_watch call) o pl.home) (held paging.Off pl refl)
      (seated_there (call_watch call) o pl.home)) (on paging.Off (paging.Unlock true) k) refl refl refl
      (gone_home s n me call sound mine (at.Page (paging.Unlock true)) tt)
  page_fine (paging.Unlock b) k pl = unlock_at b k pl
  page_fine paging.State k pl = state_fine s n me call sound mine (at.Page paging.State) (at.Page paging.Flag) _ pl
      (mask_state (state_in call)) (on paging.State paging.Flag k)
      (record { same = refl; home = pl.home; calm = refl; taken = refl })
  page_fine paging.Flag k pl = flag_fine (s.table.flag (own me)) (looks_in (state_in call)) k pl
  page_fine paging.Look k pl = look_fine (pending (state_mask (state_in call)) (s.table.task me)) k pl
  page_fine paging.Sleep k pl = still_fine s n me call sound mine (at.Page paging.Sleep) pl _ tt tt tt
      ((own_read s n me call sound mine, out paging.Sleep pl refl), tt) (on paging.Sleep paging.State k)
      (record { same = refl; home = pl.home; calm = refl; taken = refl })
  page_fine (paging.Finish p) k pl = finish_fine p k pl
  page_fine paging.Last k pl = last_fine (s.table.flag (own me)) k pl
  page_fine paging.Clear k pl = unflag_fine s n me call sound mine (at.Page paging.Clear) pl _
      (λ e q. absurd (subst (IsHome absent (call_watch call)) q pl.home)) tt
      (record { same = refl; home = off_free (call_watch call) (watch.Plain 0) o pl.home; calm = refl; taken = refl })
