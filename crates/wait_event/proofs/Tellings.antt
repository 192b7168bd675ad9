-- What a run tells of its transitions: part after part, and of one that is no load and no add.
use Rattle.std.proofs.Common.{◌∙◌, ap, sym, refl}
use Rattle.std.specs.Prelude.{ℕ, ◌≡◌, ◌||◌, ◌&&◌, Bool, true, false, Option, Some, List, [], ◌∷◌, ◌++◌}
use Rattle.wait_model.specs.declared.steps.Step.TheVariants as step
use Rattle.wait_model.specs.declared.watches.Entry.{Entry}
use Rattle.wait_rule.specs.Shown.{shown_queue}
use Rattle.wait_rule.specs.Transitions.{StepOrLook, Transition, by_look, by_step}
use Rattle.wait_class.specs.{Laws.TellsLaws, Laws.is_quiet_event, Queueing.is_none}
use Rattle.wait_event.specs.Waits.{SameCall, TellsWait, is_queue, last_loaded, loaded_by, has_queued_in, queues_first}
use Rattle.wait_event.specs.declared.waits.WaitCall.{WaitCall}

pub or_none : (b : Bool) → (b || false) ≡ b
or_none true = refl
or_none false = refl

pub or_assoc : (a b c : Bool) → ((a || b) || c) ≡ (a || (b || c))
or_assoc true b c = refl
or_assoc false b c = refl

queues_more : (ts us : List Transition) → (has_queued_in ts || has_queued_in us) ≡ has_queued_in (ts ++ us)
queues_more [] us = refl
queues_more (t ∷ ts) us = or_assoc (is_queue t.did) (has_queued_in ts) (has_queued_in us)
    ∙ ap (λ (c : Bool). is_queue t.did || c) (queues_more ts us)

pub queues_append : (b : Bool) (ts us : List Transition) → ((b || has_queued_in ts) || has_queued_in us) ≡ (b || has_queued_in (ts ++ us))
queues_append b ts us = or_assoc b (has_queued_in ts) (has_queued_in us) ∙ ap (λ (c : Bool). b || c) (queues_more ts us)

-- and the same of one that is queued as the first
pub firsts_more : (ts us : List Transition) → (queues_first ts || queues_first us) ≡ queues_first (ts ++ us)
firsts_more [] us = refl
firsts_more (t ∷ ts) us = or_assoc (is_queue t.did && is_none (shown_queue t.knew)) (queues_first ts) (queues_first us)
    ∙ ap (λ (c : Bool). (is_queue t.did && is_none (shown_queue t.knew)) || c) (firsts_more ts us)

-- the last load of both
loaded_append : (o : Option ℕ) (ts us : List Transition) → last_loaded (last_loaded o ts) us ≡ last_loaded o (ts ++ us)
loaded_append o [] us = refl
loaded_append o (t ∷ ts) us = loaded_append (loaded_by t.did o) ts us

pub quiet_queues : (d : StepOrLook) → is_quiet_event d ≡ true → is_queue d ≡ false
quiet_queues (by_step (step.Load w v)) quiet = absurd (cc)
quiet_queues (by_step (step.Queue x e)) quiet = absurd (cc)
quiet_queues (by_step _) quiet = refl
quiet_queues (by_look xs) quiet = refl

quiet_loads : (d : StepOrLook) (o : Option ℕ) → is_quiet_event d ≡ true → loaded_by d o ≡ o
quiet_loads (by_step (step.Load w v)) o quiet = absurd (cc)
quiet_loads (by_step (step.Queue x e)) o quiet = absurd (cc)
quiet_loads (by_step _) o quiet = refl
quiet_loads (by_look xs) o quiet = refl

pub none_told : (r : WaitCall) → TellsWait r r []
none_told r = record {
  same = record { watch_is = refl; how = refl };
  queued = sym (or_none r.queued);
  seen = refl;
}

-- it tells nothing of a quiet one, whatever else it notes
pub quiet_told : (r q : WaitCall) (x : Transition) → is_quiet_event x.did ≡ true → SameCall r q → q.queued ≡ r.queued
    → q.seen ≡ r.seen → TellsWait r q (x ∷ [])
quiet_told r q x quiet same queued seen = record {
  same = same;
  queued = queued ∙ sym (ap (λ (b : Bool). r.queued || (b || false)) (quiet_queues x.did quiet) ∙ or_none r.queued);
  seen = ap Some seen ∙ sym (quiet_loads x.did (Some r.seen) quiet);
}

pub told_on : (r q w : WaitCall) (ts us : List Transition) → TellsWait r q ts → TellsWait q w us → TellsWait r w (ts ++ us)
told_on r q w ts us a b = record {
  same = record { watch_is = b.same.watch_is ∙ a.same.watch_is; how = b.same.how ∙ a.same.how };
  queued = b.queued ∙ (ap (λ (c : Bool). c || has_queued_in us) a.queued ∙ queues_append r.queued ts us);
  seen = b.seen ∙ (ap (λ (o : Option ℕ). last_loaded o us) a.seen ∙ loaded_append (Some r.seen) ts us);
}

pub wait_told : TellsLaws TellsWait
wait_told = record {
  none = none_told;
  on = told_on;
  quiet = λ r x quiet. quiet_told r r x quiet (record { watch_is = refl; how = refl }) refl refl;
}

-- of a load
pub loaded_told : (r : WaitCall) (v : ℕ) (x : Transition) → x.did ≡ by_step (step.Load r.watch v)
    → TellsWait r (record r { seen = v }) (x ∷ [])
loaded_told r v x did = record {
  same = record { watch_is = refl; how = refl };
  queued = sym (ap (λ (d : StepOrLook). r.queued || (is_queue d || false)) did ∙ or_none r.queued);
  seen = sym (ap (λ (d : StepOrLook). loaded_by d (Some r.seen)) did);
}

-- of an add
or_true : (b : Bool) → (b || true) ≡ true
or_true true = refl
or_true false = refl

pub joined_told : (r : WaitCall) (x : Transition) (i : ℕ) (e : Entry) → x.did ≡ by_step (step.Queue i e)
    → TellsWait r (record r { queued = true }) (x ∷ [])
joined_told r x i e did = record {
  same = record { watch_is = refl; how = refl };
  queued = sym (ap (λ (d : StepOrLook). r.queued || (is_queue d || false)) did ∙ or_true r.queued);
  seen = sym (ap (λ (d : StepOrLook). loaded_by d (Some r.seen)) did);
}
