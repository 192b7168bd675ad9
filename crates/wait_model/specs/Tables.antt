-- To be believed.
-- The table: what the words are, what each task has done, and what a step changes.
use Rattle.std.specs.Prelude.{ℕ, ◌+◌, ◌-◌, ◌/◌, ◌%◌, ◌^◌, ◌≡◌, ◌≤◌, Bool, true, false, not, ◌==◌, if◌then◌else◌, Option}
use Rattle.std.specs.Prelude.{Some, None, List, [], ◌∷◌, ◌++◌}
use Rattle.wait_model.specs.{declared.layout.TheConstants.WORD_BITS, declared.tasks.TaskRecord.TaskRecord}
use Rattle.wait_model.specs.{declared.watches.Watch.Watch, declared.watches.Entry.Entry, declared.queues.Mark.Mark}
use Rattle.wait_model.specs.{declared.steps.Step.Step, Functions.put, Watches.was_clear, Watches.page, Words.bit_word}
use Rattle.wait_model.specs.{Views.View, Views.blank, Fold.after}
use Rattle.wait_model.specs.Tasks.{woken, slept, raised, accepted}
use Rattle.wait_model.specs.declared.watches.Watch.TheVariants as watch
use Rattle.wait_model.specs.declared.steps.Step.TheVariants as step

-- the condition words
pub record Words : Type 0 where
  pub plains : ℕ → ℕ
  pub dones : ℕ → ℕ
  pub bits : ℕ → ℕ → Bool
  pub vars : ℕ → ℕ

-- the bits above a word's own are clear
abbrev pub AreBitsLow : Words → Type 0
AreBitsLow w = (i k : ℕ) → WORD_BITS ≤ k → w.bits i k ≡ false

-- the bookmark that a word shows
unfoldable pub mark_of : ℕ → Option Mark
mark_of w = if w == 0 then None else Some (record { head = (w / 2 ^ 40) % 2 ^ 9; place = w % 2 ^ 40 })

pub record Table : Type 0 where
  pub task : ℕ → TaskRecord
  pub entry : ℕ → Option Entry  -- by index
  pub mark : ℕ → Option Mark
  pub flag : ℕ → Bool  -- WOKEN, by the entry's index
  pub done : ℕ → Bool  -- DONE beside it
  pub taken : ℕ → Option ℕ  -- the page that a walk took for the entry's owner, who has not taken note of it yet
  pub holder : ℕ → Bool  -- whether a head is held
  pub spent : ℕ → ℕ  -- how often a walk of a head used up its count
  pub words : Words
  pub history : ℕ → List Step  -- each task's own steps, the oldest first
  pub view : ℕ → View  -- what they tell it

-- the watch is set
abbrev pub met : Words → Watch → Bool
met w (watch.Plain c) = not (w.plains c == 0)
met w (watch.Done d) = not (w.dones d == 0)
met w (watch.Bit i b) = not (w.bits i b)
met w (watch.Var v old) = not (w.vars v == old)

-- the value of a watch's word
abbrev pub value_of : Words → Watch → ℕ
value_of w (watch.Plain c) = w.plains c
value_of w (watch.Done d) = w.dones d
value_of w (watch.Bit i b) = bit_word WORD_BITS (w.bits i)
value_of w (watch.Var v old) = w.vars v

abbrev pub publish : Words → Watch → ℕ → Words
publish w (watch.Plain c) n = record w { plains = put w.plains c n }
publish w (watch.Done d) n = record w { dones = put w.dones d n }
publish w (watch.Bit i b) n = record w { bits = put w.bits i (put (w.bits i) b false) }
publish w (watch.Var v old) n = record w { vars = put w.vars v n }

abbrev pub consume : Words → Watch → ℕ → Words
consume w (watch.Plain c) n = record w { plains = put w.plains c 0 }
consume w (watch.Done d) n = record w { dones = put w.dones d n }
consume w (watch.Bit i b) n = record w { bits = put w.bits i (put (w.bits i) b true) }
consume w (watch.Var v old) n = w

-- an unlock with `spent` raises the count, which stays at its end
abbrev pub raised_spent : Bool → ℕ → ℕ
raised_spent false n = n
raised_spent true n = if n == 2 ^ 62 - 1 then n else n + 1

-- what a step changes of the words
abbrev pub word_step : Table → ℕ → Step → Table
word_step s a (step.State σ) = record s { task = put s.task a (record (s.task a) { state = σ }) }
word_step s a (step.Sleep w) = record s { task = put s.task a (slept (s.task a)) }
word_step s a (step.Wake who mask w) = record s { task = put s.task who (woken mask (s.task who)) }
word_step s a (step.Signal who fatal w) = record s { task = put s.task who (raised fatal (s.task who)) }
word_step s a (step.Accept w) = record s { task = put s.task a (accepted (s.task a)) }
word_step s a (step.Look w) = s
word_step s a (step.Lock h aim w) = record s { holder = put s.holder h true }
word_step s a (step.Unlock h sp) = record s {
  holder = put s.holder h false;
  spent = put s.spent h (raised_spent sp (s.spent h));
}
word_step s a (step.Saw x w) = s
word_step s a (step.Peek x w) = s
word_step s a (step.Scan h i w) = s
word_step s a (step.Queue x e) = record s { entry = put s.entry x (Some e) }
word_step s a (step.Unqueue x) = record s { entry = put s.entry x None }
word_step s a (step.Mark h q) = record s { mark = put s.mark a (Some (record { head = h; place = q })) }
word_step s a step.Unmark = record s { mark = put s.mark a None }
word_step s a (step.Load l r) = s
word_step s a (step.Publish c n r) = record s { words = publish s.words c n }
word_step s a (step.Consume c n r) = record s { words = consume s.words c n }
word_step s a (step.Woken x) = record s { flag = put s.flag x true; done = put s.done x false }
word_step s a (step.Unflag x o) = record s {
  flag = put s.flag x false;
  done = put s.done x false;
  taken = put s.taken x None;
}
word_step s a (step.Flag x w) = s
word_step s a (step.TasFor x p r) = record s {
  words = consume s.words (page p) 1;
  taken = if was_clear (page p) r then put s.taken x (Some p) else s.taken;
}
word_step s a (step.Handed x) = record s { flag = put s.flag x true; done = put s.done x true }

-- a task's step: its word changes, and its history grows
abbrev pub next : Table → ℕ → Step → Table
next s a e = record (word_step s a e) {
  history = put s.history a (s.history a ++ e ∷ []);
  view = put s.view a (after e (s.view a));
}

-- steps of one task in a row, oldest first
abbrev pub steps : Table → ℕ → List Step → Table
steps s a [] = s
steps s a (e ∷ es) = steps (next s a e) a es

-- the table in which nothing has been done yet
abbrev pub start : Table
start = record {
  task = λ _. record { state = 0; runnable = true; signal = false; fatal = false };
  entry = λ _. None;
  mark = λ _. None;
  flag = λ _. false;
  done = λ _. false;
  taken = λ _. None;
  holder = λ _. false;
  spent = λ _. 0;
  words = record { plains = λ _. 0; dones = λ _. 0; bits = λ _ _. false; vars = λ _. 0 };
  history = λ _. [];
  view = λ _. blank;
}
