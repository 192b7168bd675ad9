-- The head that a book says is held is the one that the history tells.
use Rattle.std.proofs.Common.{refl, sym, ◌∙◌, ap}
use Rattle.std.specs.Prelude.{◌≡◌, Bool, true, false, List, [], ◌∷◌}
use Rattle.wait_model.specs.{declared.steps.Step.Step, declared.tasks.Sleep.Sleep, Tasks.task_of, Tasks.sleep_of}
use Rattle.wait_model.specs.Views.{View, Hold, blank}
use Rattle.wait_model.specs.Fold.{after, after_all, view_of}
use Rattle.wait_model.specs.declared.steps.Step.TheVariants as step
use Rattle.wait_model.specs.declared.tasks.Sleep.TheVariants as sleep
use Rattle.wait_model.proofs.StepLaws.UnlockSteps.{unlock_hold}
use Rattle.wait_rule.specs.declared.journal.Item.{Item}
use Rattle.wait_rule.specs.declared.journal.Item.TheVariants as item
use Rattle.wait_rule.specs.Items.{Book, first_book, after_sleep, after_awake, learn, learn_step, book_from, book_of}
use Rattle.wait_rule.specs.Items.{steps_of}

asleep_head : (z : Sleep) (b : Book) → (after_sleep z b).head ≡ b.head
asleep_head sleep.Stay b = refl
asleep_head sleep.Signal b = refl
asleep_head sleep.Asleep b = refl

awake_head : (x y : Bool) (b : Book) → (after_awake x y b).head ≡ b.head
awake_head true y b = refl
awake_head false true b = refl
awake_head false false b = refl

pub awake_differs : (x y : Bool) (b : Book) → (after_awake x y b).differs ≡ b.differs
awake_differs true y b = refl
awake_differs false true b = refl
awake_differs false false b = refl

pub awake_ticket : (x y : Bool) (b : Book) → (after_awake x y b).ticket ≡ b.ticket
awake_ticket true y b = refl
awake_ticket false true b = refl
awake_ticket false false b = refl

step_head : (e : Step) (b : Book) (v : View) → b.head ≡ v.hold.head → (learn_step e b).head ≡ (after e v).hold.head
step_head (step.Sleep w) b v h = asleep_head (sleep_of (task_of w)) b ∙ h
step_head (step.Lock k aim w) b v h = refl
step_head (step.Unlock k spent) b v h = sym (ap (λ (k : Hold). k.head) (unlock_hold v v.walk spent))
step_head e b v h = h

from_head : (xs : List Item) (b : Book) (v : View) → b.head ≡ v.hold.head
    → (book_from b xs).head ≡ (after_all v (steps_of xs)).hold.head
from_head [] b v h = h
from_head (item.Made e ∷ xs) b v h = from_head xs (learn_step e b) (after e v) (step_head e b v h)
from_head (item.Awake w ∷ xs) b v h = from_head xs (learn (item.Awake w) b) v
    (awake_head b.awake (task_of w).runnable b ∙ h)
from_head (i ∷ xs) b v h = from_head xs (learn i b) v h

pub head_told : (xs : List Item) → (book_of xs).head ≡ (view_of (steps_of xs)).hold.head
head_told xs = from_head xs first_book blank refl
