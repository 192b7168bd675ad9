-- To be believed.
-- What a task's own steps tell of WOKEN in the flag word of an entry of its own: it is quiet where the task cleared the
-- word with no entry there, and has queued none of kind Woken there since. So only a page that was taken for the task
-- sets the flag then.
use Rattle.std.specs.Prelude.{ℕ, ◌≡◌, ◌&&◌, ◌||◌, ◌==◌, not, Bool, true, false, if◌then◌else◌, List, [], ◌∷◌}
use Rattle.wait_model.specs.{declared.steps.Step.Step, Fold.after, Fold.is_off, Tables.Table, Views.View, Views.blank}
use Rattle.wait_model.specs.{Watches.is_woken, Watches.owner, Words.flag_of}
use Rattle.wait_model.specs.declared.steps.Step.TheVariants as step

-- after one step of a task that knew this view
abbrev pub quiet_after : ℕ → View → Step → Bool → Bool
quiet_after x v (step.Queue y e) b = if y == x then not (is_woken e.kind) && b else b
quiet_after x v (step.Unflag y o) b = if y == x then b || is_off (v.bits.stored x) else b
quiet_after x v _ b = b

-- after more steps, and after those of a history; both have the oldest step first
abbrev pub quiet_from : ℕ → View → Bool → List Step → Bool
quiet_from x v b [] = b
quiet_from x v b (e ∷ es) = quiet_from x (after e v) (quiet_after x v e b) es

abbrev pub is_quiet_at : ℕ → List Step → Bool
is_quiet_at x es = quiet_from x blank true es

-- Where it was quiet and found the flag set it was told of a page, until it clears the flag.
abbrev pub told_after : ℕ → Step → Bool → Bool → Bool
told_after x (step.Flag y w) quiet b = if y == x then (quiet && flag_of w) || b else b
told_after x (step.Unflag y o) quiet b = if y == x then false else b
told_after x _ quiet b = b

abbrev pub told_from : ℕ → View → Bool → Bool → List Step → Bool
told_from x v quiet b [] = b
told_from x v quiet b (e ∷ es) = told_from x (after e v) (quiet_after x v e quiet) (told_after x e quiet b) es

abbrev pub is_told : ℕ → List Step → Bool
is_told x es = told_from x blank true false es

-- in the flag word of an entry whose task is quiet there WOKEN stands with DONE alone
abbrev pub AreQuiet : Table → Type 0
AreQuiet s = (x : ℕ) → is_quiet_at x (s.history (owner x)) ≡ true → s.flag x ≡ true → s.done x ≡ true

-- and in that of one whose task was told DONE stands
abbrev pub AreTold : Table → Type 0
AreTold s = (x : ℕ) → is_told x (s.history (owner x)) ≡ true → s.done x ≡ true
