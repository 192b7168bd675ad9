-- To be believed.
-- Who holds a mutex, by its own history.
use Rattle.std.specs.Prelude.{ℕ, ◌≡◌, ◌≢◌, ◌==◌, ◌||◌, not, Bool, true, false, if◌then◌else◌, List, [], ◌∷◌}
use Rattle.wait_model.specs.declared.steps.Step.{Step}
use Rattle.wait_model.specs.declared.steps.Step.TheVariants as step
use Rattle.wait_model.specs.declared.watches.Watch.TheVariants as watch
use Rattle.wait_rule.specs.{Known.Known, Queues.IsIdle, Says.IsUp, Says.history_of}

-- A take of the word of mutex m that found a value takes the mutex, and a store in the word gives it back.
abbrev pub holds_after : ℕ → Step → Bool → Bool
holds_after m (step.Consume (watch.Plain c) n r) b = if c == m then b || not (r == 0) else b
holds_after m (step.Publish (watch.Plain c) n r) b = if c == m then false else b
holds_after m _ b = b

abbrev pub holds_from : ℕ → List Step → Bool → Bool
holds_from m [] b = b
holds_from m (e ∷ es) b = holds_from m es (holds_after m e b)

-- So the task's last take that found a value is behind its last store in the word.
abbrev pub holds_in : ℕ → List Step → Bool
holds_in m es = holds_from m es false

abbrev pub holds_mutex : Known → ℕ → Bool
holds_mutex k m = holds_in m (history_of k)

abbrev pub HoldsMutex : Known → ℕ → Type 0
HoldsMutex k m = holds_mutex k m ≡ true

-- The task may signal who waits for a condition: it is awake and idle, and holds the mutex, which is another futex.
pub record MaySignal (k : Known) (cond lock : ℕ) : Type 0 where
  pub up : IsUp k
  pub idle : IsIdle k
  pub apart : cond ≢ lock
  pub held : HoldsMutex k lock

-- A call takes and gives back no mutex, or none but this one.
abbrev pub StayHeld : Known → Known → Type 0
StayHeld old new = (m : ℕ) → holds_mutex new m ≡ holds_mutex old m

abbrev pub OthersStayHeld : ℕ → Known → Known → Type 0
OthersStayHeld c old new = (m : ℕ) → m ≢ c → holds_mutex new m ≡ holds_mutex old m
