-- Each event of a call outside walks, selections and completions is fine.
use Rattle.std.proofs.Common.{refl, subst, arith}
use Rattle.std.specs.Prelude.{ℕ, ◌≡◌, ◌<◌, ◌≤◌, true, false}
use Rattle.wait_model.specs.{declared.calls.Call.Call, declared.points.Planned.Planned, declared.points.Point.Point}
use Rattle.wait_model.specs.{declared.watches.Watch.Watch, Programs.zero_answer, Queues.has_members, Runs.State}
use Rattle.wait_model.specs.{Runs.planned, Tables.value_of, Tasks.task_word, Tasks.task_of}
use Rattle.wait_model.specs.declared.layout.TheConstants.{TASKS, FIRST_DONE, FIRST_BIT_WORD}
use Rattle.wait_model.specs.Points.{call_watch, call_head, taken_cond, stored, who_of, given_at}
use Rattle.wait_model.specs.Reached.{IsPlaced, IsPlain, IsCallSound, IsSound, KeepsCleared, Rests}
use Rattle.wait_model.specs.Watches.{IsThere, is_bit, number_of, misses}
use Rattle.wait_model.proofs.{RunLaws.PageEvents.page_fine, WordLaws.CondWords.plain_store}
use Rattle.wait_model.proofs.{WordLaws.CondWords.take_store, WordLaws.DecodedWords.task_read}
use Rattle.wait_model.proofs.RunLaws.BitEvents.{bit_fine, publish_fine, members_fine}
use Rattle.wait_model.proofs.RunLaws.FineEvents.{Fine, outside, still_fine, store_fine}
use Rattle.wait_model.proofs.RunLaws.WaitEvents.{own_read, to, loads, load_small, first_fine, prepare_fine, test_fine}
use Rattle.wait_model.proofs.RunLaws.WaitEvents.{sleep_fine, leave_fine, finish_fine, add_fine, remove_fine, woken_fine}
use Rattle.wait_model.specs.declared.points.Next.TheVariants as next
use Rattle.wait_model.specs.declared.points.Point.TheVariants as at
use Rattle.wait_model.specs.declared.points.Progress.TheVariants as now
use Rattle.wait_model.specs.declared.watches.Watch.TheVariants as watch

-- the points outside walks, selections and completions
abbrev pub IsPlainPoint : Point → Type 0
IsPlainPoint (at.Walk p) = ⊥
IsPlainPoint (at.Select p) = ⊥
IsPlainPoint (at.Await p) = ⊥
IsPlainPoint (at.Count p) = ⊥
IsPlainPoint _ = Unit {0}

-- a plain condition has the number of no done count
plain_number : {A : Type 0} (c : Watch) → IsThere c → IsPlain c → FIRST_DONE ≤ number_of c
    → number_of c < FIRST_BIT_WORD → A
plain_number (watch.Plain c) h p l u = absurd (omega (arith, h, l))
plain_number _ h p l u = absurd p

plain_word : (c : Watch) → IsPlain c → is_bit c ≡ false
plain_word (watch.Plain c) p = refl
plain_word _ p = absurd p

module _ (s : State) (n me : ℕ) (call : Call) (sound : IsSound s n) (mine : me < TASKS) where
  abbrev F : Point → Planned → Type 0
  F p x = Fine s n me call sound mine (given_at call p) x

  abbrev P : Point → Type 0
  P p = IsPlaced s.table.entry (s.table.view me) me (now.Open call p)

  other_read : (who : ℕ) → task_of (task_word (s.table.task who)) ≡ s.table.task who
  other_read who = task_read (s.table.task who) (sound.lawful who)

  -- the calls of one or two events
  pub plain_fine : (p : Point) → IsCallSound n call p → P p → IsPlainPoint p
      → KeepsCleared (now.Open call p) (s.table.view me) → Rests (now.Open call p) (s.table.task me)
      → (s.table.task me).runnable ≡ true → F p (planned s me call p)
  plain_fine at.First k pl i keeps rests run = first_fine s n me call sound mine
      (misses (call_watch call) (value_of s.table.words (call_watch call))) k pl
  plain_fine (at.Prepare p) k pl i keeps rests run = prepare_fine s n me call sound mine p k pl
  plain_fine at.Test k pl i keeps rests run = test_fine s n me call sound mine
      (misses (call_watch call) (value_of s.table.words (call_watch call))) k pl
  plain_fine at.Sleep k pl i keeps rests run = sleep_fine s n me call sound mine k pl
  plain_fine (at.Leave p) k pl i keeps rests run = leave_fine s n me call sound mine p k pl
  plain_fine (at.Finish p failed) k pl i keeps rests run = finish_fine s n me call sound mine failed p k pl
  plain_fine (at.Bit p) k pl i keeps rests run = bit_fine s n me call sound mine p k pl
  plain_fine (at.Page p) k pl i keeps rests run = page_fine s n me call sound mine p k pl
  plain_fine at.Publish k pl i keeps rests run = publish_fine s n me call sound mine k pl keeps (rests refl run)
  plain_fine at.Active k pl i keeps rests run = members_fine s n me call sound mine
      (has_members (s.queue (call_head call))) k pl
  plain_fine (at.Add p) k pl i keeps rests run = add_fine s n me call sound mine p k pl
  plain_fine (at.Remove p) k pl i keeps rests run = remove_fine s n me call sound mine p k pl
  plain_fine (at.Woken p) k pl i keeps rests run = woken_fine s n me call sound mine p k pl
  plain_fine at.Worn k pl i keeps rests run = absurd k.fitted
  plain_fine at.Store k pl i keeps rests run = store_fine s n me call sound mine at.Store pl (stored call)
      (next.Ends zero_answer)
      k.watch (plain_word (call_watch call) k.fitted) (plain_number (call_watch call) k.watch k.fitted)
      (plain_store s.table me (call_watch call) k.fitted (outside s n me call sound mine at.Store pl refl)
      (stored call)) tt
      (record { same = refl; home = pl.home; calm = refl; taken = refl })
  plain_fine at.Take k pl i keeps rests run = still_fine s n me call sound mine at.Take pl _ tt
      (subst IsThere k.fitted k.watch) k.fitted
      (take_store s.table me (call_watch call) (taken_cond call) k.fitted, tt) tt
      (record { same = refl; home = pl.home; calm = refl; taken = refl })
  plain_fine at.Read k pl i keeps rests run = still_fine s n me call sound mine at.Read pl _ tt
      (load_small s n me call sound mine at.Read k) tt (loads s n me call sound mine at.Read k, tt) tt
      (record { same = refl; home = pl.home; calm = refl; taken = refl })
  plain_fine at.Accept k pl i keeps rests run = still_fine s n me call sound mine at.Accept pl _ tt refl tt
      (own_read s n me call sound mine, tt) tt
      (record { same = refl; home = pl.home; calm = refl; taken = refl })
  plain_fine at.Kick k pl i keeps rests run = still_fine s n me call sound mine at.Kick pl _ tt k.who tt
      (other_read (who_of call), tt) tt (record { same = refl; home = pl.home; calm = refl; taken = refl })
  plain_fine at.Raise k pl i keeps rests run = still_fine s n me call sound mine at.Raise pl _ tt k.who tt
      (other_read (who_of call), tt) (to s n me call sound mine at.Raise at.RaiseWake k refl tt tt)
      (record { same = refl; home = pl.home; calm = refl; taken = refl })
  plain_fine at.RaiseWake k pl i keeps rests run = still_fine s n me call sound mine at.RaiseWake pl _ tt k.who tt
      (other_read (who_of call), tt) tt (record { same = refl; home = pl.home; calm = refl; taken = refl })
  plain_fine _ k pl i keeps rests run = absurd i
