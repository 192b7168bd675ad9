-- To be believed.
-- What the calls say that add an entry of a task and remove it.
use Rattle.std.specs.Prelude.{ℕ, ◌≡◌, ◌<◌, true, Some, Result, Ok, Err}
use Rattle.wait_model.specs.{declared.layout.TheConstants.FIRST_SIMPLE, declared.calls.Answer.Answer}
use Rattle.wait_model.specs.{declared.queues.Form.Form, declared.watches.Entry.Entry, declared.watches.Kind.Kind}
use Rattle.wait_model.specs.{Programs.zero_answer, Watches.head_of}
use Rattle.wait_model.specs.declared.calls.Call.TheVariants as calls
use Rattle.wait_model.specs.declared.calls.Answer.TheVariants as answer
use Rattle.wait_model.specs.declared.points.Point.TheVariants as at
use Rattle.wait_model.specs.declared.points.AddPoint.TheVariants as adding
use Rattle.wait_model.specs.declared.points.RemovePoint.TheVariants as removing
use Rattle.wait_model.specs.declared.points.Next.TheVariants as next
use Rattle.wait_model.specs.declared.watches.Kind.TheVariants as kinds
use Rattle.wait_model.specs.declared.watches.Watch.TheVariants as watch
use Rattle.wait_rule.specs.{Ends.WasWorn, Known.Known, Members.IsOwnKind, Transitions.call_program}
use Rattle.wait_rule.specs.Says.{IsUp, IsFree, told_of}
use Rattle.wait_rule.specs.Stays.{Change, only, unchanged, with_entry}
use Rattle.wq_head.specs.declared.adds.Worn.{Worn}
use Rattle.wait_class.specs.{Posts.Runs, Posts.own_of, Queueing.form_entry}

-- Each of these calls takes the lock of one head, and looks at entries. An add queues the own entry of this index, a
-- removal takes it off, and one that finds no place changes nothing more.
abbrev pub hold_change : ℕ → Change
hold_change h = record unchanged { looks = true; at = λ _. h }

abbrev pub add_change : ℕ → ℕ → Change
add_change i h = record (hold_change h) { to = with_entry i; but = only i }

abbrev pub remove_change : ℕ → ℕ → Change
remove_change i h = record (hold_change h) { from = with_entry i; but = only i }

-- The task is awake, and holds no lock. Its history has stored an entry of slot 0 for a plain condition with a full
-- head, of a kind that nobody else takes off.
pub record MayRemove (k : Known) : Type 0 where
  pub up : IsUp k
  pub free : IsFree k
  pub cond : ℕ
  pub full : cond < FIRST_SIMPLE
  pub entry : Entry
  pub queued : (told_of k).bits.stored (own_of k) ≡ Some entry
  pub kind : IsOwnKind entry.kind
  pub about : entry.watch ≡ watch.Plain cond

-- Its history has stored an entry of slot 0 of kind Woken, for a plain condition with a full head.
pub record HasWokenEntry (k : Known) : Type 0 where
  pub cond : ℕ
  pub full : cond < FIRST_SIMPLE
  pub entry : Entry
  pub queued : (told_of k).bits.stored (own_of k) ≡ Some entry
  pub kind : entry.kind ≡ kinds.Woken
  pub about : entry.watch ≡ watch.Plain cond

-- what an add answers, and what it says of the entry: it is queued by its form, or the head has no place left for it,
-- which a member at this place shows
abbrev pub add_answer : Result (Unit {0}) Worn → Answer
add_answer (Ok u) = zero_answer
add_answer (Err e) = answer.Worn

abbrev pub HasOwn : Known → Known → ℕ → Kind → Form → Result (Unit {0}) Worn → Type 0
HasOwn old new c k f (Ok u) =
    (place : ℕ) × ((told_of new).bits.stored (own_of old) ≡ Some (form_entry f (watch.Plain c) k place))
HasOwn old new c k f (Err e) = (e.head ≡ head_of (watch.Plain c))
    × WasWorn new.view.number new.view.items e.head e.place

-- the task went through the whole call
pub record EndsAdd (old new : Known) (c : ℕ) (k : Kind) (f : Form) (result : Result (Unit {0}) Worn) : Type 0 where
  pub runs : Runs (call_program old.view.number 0 (calls.Add c k f)) old new (next.Go (at.Add adding.Lock))
      (next.Ends (add_answer result))
  pub entry : HasOwn old new c k f result

-- the task went through the whole call
pub record HasRemovedOwn (old new : Known) : Type 0 where
  pub runs : Runs (call_program old.view.number 0 calls.Remove) old new (next.Go (at.Remove removing.Lock))
      (next.Ends zero_answer)
