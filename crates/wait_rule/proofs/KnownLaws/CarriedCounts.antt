-- What a task carries on over a store of a done count.
use Rattle.std.proofs.Common.{◌∙◌, ap, refl}
use Rattle.std.specs.Prelude.{ℕ, ◌≡◌, ◌&&◌, ◌||◌, Bool, true, false, if◌then◌else◌}
use Rattle.wait_model.specs.{declared.watches.Watch.Watch, Runs.is_publishing, Runs.set_step, Tasks.meets, Watches.same}
use Rattle.wait_model.specs.Watches.{mask_of}
use Rattle.wait_model.specs.declared.watches.Watch.TheVariants as watch
use Rattle.wait_model.specs.declared.watches.Mode.TheVariants as mode
use Rattle.wait_model.specs.declared.steps.Step.TheVariants as step
use Rattle.wait_rule.specs.declared.journal.Item.TheVariants as item
use Rattle.wait_rule.specs.Known.{Known}
use Rattle.wait_rule.specs.Says.{Excuse, OwesBut, added, told_of}
use Rattle.wait_rule.specs.Stays.{with_wakes, Carries, unchanged, publish_change}
use Rattle.wait_rule.proofs.KnownLaws.CarriedTasks.{consumed_as, or_none, owes_more, published_carried}

lowered_carried : (old new : Known) (d n r : ℕ) → new ≡ added old (item.Made (step.Consume (watch.Done d) n r))
    → Carries unchanged old new
lowered_carried old new d n r is = consumed_as old new (watch.Done d) n r is
    (λ c. or_none ((told_of old).bits.keeps c)) (λ c none. ap (λ (b : Bool). b && true) none)

-- what changes nothing owes no more than a publish
or_more : (a b : Bool) → a ≡ true → (a || b) ≡ true
or_more true b is = refl
or_more false b is = absurd (cc)

pub excused_more : (c : Watch) (x : Excuse) (k : Known) → OwesBut x k → OwesBut (with_wakes c mode.Normal x) k
unfolding with_wakes
excused_more c x k o = owes_more x (with_wakes c mode.Normal x) k refl refl refl refl refl
    (λ d σ. or_more (x.wakes d σ) (same d c && meets (mask_of mode.Normal) σ)) o

pub as_publish : (c : Watch) (old new : Known) → Carries unchanged old new → Carries (publish_change c) old new
as_publish c old new k = record {
  domain = k.domain;
  number = k.number;
  awake = k.awake;
  state = k.state;
  head = k.head;
  ticket = k.ticket;
  hold = k.hold;
  at = k.at;
  mark = k.mark;
  fewer = λ w σ _ is. k.fewer w σ refl is;
  stored = k.stored;
  out = k.out;
  stands = k.stands;
  owes = λ x o. excused_more c x new (k.owes x o);
  keeps = λ d _. k.keeps d refl;
}

module _ (old new : Known) (d n r : ℕ) (is : new ≡ added old (item.Made (set_step (watch.Done d) n r))) where
  pub count_publishes : Carries (publish_change (watch.Done d)) old new
  count_publishes = by (is_publishing (watch.Done d) r n) is
    where
      by : (p : Bool) → new ≡ added old (item.Made (if p then step.Publish (watch.Done d) n r
          else step.Consume (watch.Done d) n r)) → Carries (publish_change (watch.Done d)) old new
      by true made = published_carried old new (watch.Done d) n r made
      by false made = as_publish (watch.Done d) old new (lowered_carried old new d n r made)

  pub count_consumes : is_publishing (watch.Done d) r n ≡ false → Carries unchanged old new
  count_consumes lowers = lowered_carried old new d n r
      (is ∙ ap (λ (p : Bool). added old (item.Made (if p then step.Publish (watch.Done d) n r
      else step.Consume (watch.Done d) n r))) lowers)
