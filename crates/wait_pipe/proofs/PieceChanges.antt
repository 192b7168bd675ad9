-- What calls on ends leave of a task, one after the other.
use Rattle.std.proofs.Common.{refl, sym, ◌∙◌, ap, subst}
use Rattle.std.specs.Prelude.{ℕ, ◌≡◌, ◌/◌, if◌then◌else◌, Bool, true, Some, None, length}
use Rattle.wait_model.specs.declared.layout.TheConstants.{PIPE_ENDS}
use Rattle.wait_model.specs.declared.watches.Mode.TheVariants as mode
use Rattle.wait_model.specs.declared.watches.Watch.TheVariants as watch
use Rattle.wait_rule.specs.{Known.Known, Pipes.End, Pipes.new_end, Queues.IsIdle, Queues.index}
use Rattle.wait_rule.specs.PipeSays.{EndBecomes, KeepsEnd, end_at}
use Rattle.wait_rule.specs.Says.{Excuse, IsFree, IsUp, told_of}
use Rattle.wait_rule.specs.Stays.{Carries, Change, publish_change, unchanged, wake_all_change}
use Rattle.wait_class.specs.Posts.{IsOut}
use Rattle.wait_event.specs.Ends.{wait_change}
use Rattle.wait_event.proofs.Changes.{carried_on, carried_wider, free_on, idle_on, keeps_join, out_on}
use Rattle.wait_pipe.specs.Pieces.{IsPipeOpened, IsSettled, LeavesIdle, OtherPipesStay, LeavesAside, RestsBehindPiece, WaitsAtPipe, piece_change}
use Rattle.wait_pipe.proofs.Asides.{quiet_on}

module _ (k i : ℕ) (old new : Known) where
  pub of_unchanged : Carries unchanged old new → Carries (piece_change k i new.at) old new
  of_unchanged c = carried_wider (piece_change k i new.at) c (λ x p. refl) (λ w p. refl) c.owes

  pub of_wait : Carries (wait_change i new.at) old new → Carries (piece_change k i new.at) old new
  of_wait c = carried_wider (piece_change k i new.at) c (λ x p. p) (λ w p. refl) c.owes

pub piece_on : (k i : ℕ) (x y z : Known) → Carries (piece_change k i y.at) x y → Carries (piece_change k i z.at) y z
    → Carries (piece_change k i z.at) x z
piece_on k i x y z a b = carried_on (piece_change k i z.at) a b

-- a task that rests still
pub rests_on : (k : ℕ) (x y z : Known) → RestsBehindPiece k x y → RestsBehindPiece k y z → RestsBehindPiece k x z
rests_on k x y z a b =
    let first : LeavesAside x y = record { aside = a.aside; off = a.off } in
    let last : LeavesAside y z = record { aside = b.aside; off = b.off } in
    let q = quiet_on x y z first last in record {
      up = b.up;
      idle = b.idle;
      out = b.out;
      carries = piece_on k (index x.view.number 0) x y z a.carries
          (subst (λ (n : ℕ). Carries (piece_change k (index n 0) z.at) y z) a.carries.number b.carries);
      aside = q.aside;
      off = q.off;
    }

-- over a call that changes nothing
module _ {old new : Known} (c : Carries unchanged old new) where
  pub free_still : IsFree old → IsFree new
  free_still = free_on unchanged c

  pub idle_still : IsIdle old → IsIdle new
  idle_still = idle_on unchanged c

  pub out_still : IsOut old → IsOut new
  out_still = out_on c refl

-- over a publish of the own end and its wake, which ends what the task owed more before the publish
module _ (f : Excuse → Excuse) (k : ℕ) (old mid new : Known) (up : IsUp new) (idle : IsIdle old)
    (behind : IsIdle new) (none : IsOut old) (held : (told_of old).hold.head ≡ None)
    (a : Carries (record (publish_change (watch.Var k 0)) { from = f }) old mid)
    (b : Carries (wake_all_change (watch.Var k 0) mode.Normal new.at) mid new) (q : LeavesAside old new) where
  abbrev change : Change
  change = record (piece_change k (index old.view.number 0) new.at) { from = f }

  made_carries : Carries change old new
  made_carries = record {
    domain = b.domain ∙ a.domain;
    number = b.number ∙ a.number;
    awake = b.awake ∙ a.awake;
    state = b.state ∙ a.state;
    head = b.head ∙ sym idle.free.head;
    ticket = b.ticket ∙ sym idle.free.ticket;
    hold = b.hold ∙ sym held;
    at = refl;
    mark = b.mark ∙ a.mark;
    fewer = λ w σ p is. b.fewer w σ refl (a.fewer w σ p is);
    stored = λ x blind p. absurd (cc);
    out = λ x p empty. b.out x refl (a.out x refl empty);
    stands = λ slot few p e is own.
        subst (λ (n : ℕ). (told_of new).bits.stored (index n slot) ≡ Some e) a.number
        (b.stands slot few refl e
        (subst (λ (n : ℕ). (told_of mid).bits.stored (index n slot) ≡ Some e) (sym a.number)
        (a.stands slot few refl e is own)) own);
    keeps = λ d p. b.keeps d refl ∙ a.keeps d p;
    owes = λ x o. b.owes x (a.owes x o);
  }

  pub leaves_made : LeavesIdle change old new
  leaves_made = record {
    up = up;
    idle = behind;
    out = out_on b refl (out_on a refl none);
    carries = made_carries;
    aside = q.aside;
    off = q.off;
  }

-- ends
pub settled_still : (e f : End) → KeepsEnd e f → IsSettled e → IsSettled f
settled_still e f k s = record {
  still = record { mine = k.mine ∙ s.still.mine; unshut = k.shut ∙ s.still.unshut };
  passed = k.count ∙ (s.passed ∙ sym (ap length k.cells));
}

pub others_becomes : (k : ℕ) (old new : Known) (e : End) → EndBecomes k old new e → OtherPipesStay k old new
others_becomes k old new e b j ne = b.others j (λ q. ne (ap (λ (i : ℕ). i / PIPE_ENDS) q))

pub others_on : (k : ℕ) (x y z : Known) → OtherPipesStay k x y → OtherPipesStay k y z → OtherPipesStay k x z
others_on k x y z a b j ne = b j ne ∙ a j ne

pub waits_on : {k : ℕ} {x y z : Known} → WaitsAtPipe k x y → WaitsAtPipe k y z → WaitsAtPipe k x z
waits_on {k = k} {x = x} {y = y} {z = z} a b = record {
  others = others_on k x y z a.others b.others;
  keeps = keeps_join a.keeps b.keeps;
  rests = rests_on k x y z a.rests b.rests;
}

-- a claim that found nobody
pub opened_by : (k : ℕ) (old new : Known) (b : Bool) (e : End) → EndBecomes k old new (if b then new_end else e)
    → b ≡ true → IsPipeOpened (end_at k new)
opened_by k old new b e becomes is = subst IsPipeOpened (sym (becomes.own
    ∙ ap (λ (c : Bool). if c then new_end else e) is))
    (record { settled = record { still = record { mine = refl; unshut = refl }; passed = refl }; none = refl })
