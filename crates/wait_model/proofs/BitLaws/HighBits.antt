-- No event sets a bit above those of its word.
use Rattle.std.proofs.Common.{sym, subst, arith}
use Rattle.std.specs.Prelude.{ℕ, Bool, true, false, if◌then◌else◌}
use Rattle.wait_model.specs.{declared.calls.Event.Event, declared.points.Given.Given, declared.watches.Watch.Watch}
use Rattle.wait_model.specs.{Reached.Allows, Reached.Joins, Watches.IsThere, Watches.page, Words.head_word}
use Rattle.wait_model.specs.Runs.{State, is_publishing, after_event}
use Rattle.wait_model.specs.Tables.{AreBitsLow, Words, next, value_of, publish, consume}
use Rattle.wait_model.proofs.{WordLaws.BitWords.low_consumed, WordLaws.BitWords.low_published}
use Rattle.wait_model.proofs.{HistoryLaws.HoldLooks.looks_same, HistoryLaws.UnlockedLooks.peeks_same}
use Rattle.wait_model.specs.declared.calls.Event.TheVariants as event
use Rattle.wait_model.specs.declared.steps.Step.TheVariants as step
use Rattle.wait_model.specs.declared.watches.Watch.TheVariants as watch

-- a store of a watch that exists, and an exchange
published_low : (w : Words) (c : Watch) (n : ℕ) → AreBitsLow w → AreBitsLow (publish w c n)
published_low w (watch.Bit i b) n low = low_published w i b n low
published_low w _ n low = low

consumed_low : (w : Words) (c : Watch) (n : ℕ) → IsThere c → AreBitsLow w → AreBitsLow (consume w c n)
consumed_low w (watch.Bit i b) n there low = low_consumed w i b n there.1 low
consumed_low w _ n there low = low

module _ (s : State) (me : ℕ) (g : Given) (low : AreBitsLow s.table.words) where
  stored_low : (b : Bool) (n found : ℕ) → IsThere g.watch → AreBitsLow (next s.table me (if b
      then step.Publish g.watch n found else step.Consume g.watch n found)).words
  stored_low true n found there = published_low s.table.words g.watch n low
  stored_low false n found there = consumed_low s.table.words g.watch n there low

  pub event_low : (e : Event) → Allows s me e → Joins g e → AreBitsLow (after_event s me g e).table.words
  event_low (event.Lock h) a j = subst AreBitsLow
      (sym (looks_same (next s.table me (step.Lock h g.walk (head_word (s.table.holder h) (s.table.spent h))))
      s.table.entry me).words) low
  event_low (event.Active h hit) a j = subst AreBitsLow (sym (peeks_same s.table s.table.entry me).words) low
  event_low (event.Set c v) a j =
      stored_low (is_publishing g.watch (value_of s.table.words g.watch) v) v (value_of s.table.words g.watch) j.1
  event_low (event.Take c v) a j = consumed_low s.table.words g.watch 0 (subst IsThere (sym j) a) low
  event_low (event.Tas w b v) a j = consumed_low s.table.words g.watch 1 (subst IsThere (sym j) a) low
  event_low (event.TasFor p who v) a j = consumed_low s.table.words (page p) 1 (a.0, omega arith) low
  event_low (event.Clear w b) a j = published_low s.table.words g.watch 0 low
  event_low e a j = low
