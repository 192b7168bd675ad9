-- The calls of one event: what is left of each, that its program says it, comes to its end, and makes it.
use Rattle.std.proofs.Common.{refl}
use Rattle.std.specs.Prelude.{ℕ, ◌≡◌, Bool, true, false, List, [], ◌∷◌}
use Rattle.wait_model.specs.{declared.calls.Call.Call, declared.calls.Event.Event, declared.calls.Answer.Answer}
use Rattle.wait_model.specs.{declared.points.Seen.Seen, declared.points.Point.Point, Watches.number_of}
use Rattle.wait_model.specs.{Programs.program, Programs.program_start, Sentences.sentence, Sentences.Follows}
use Rattle.wait_model.specs.{SentenceSteps.number, Making.Makes, Findings.Noted, Findings.none_noted}
use Rattle.wait_model.specs.Phrases.{Rest, finds, ends}
use Rattle.wait_model.specs.declared.calls.Call.TheVariants as calls
use Rattle.wait_model.specs.declared.calls.Event.TheVariants as event
use Rattle.wait_model.specs.declared.calls.Answer.TheVariants as answer
use Rattle.wait_model.specs.declared.points.Point.TheVariants as at
use Rattle.wait_model.specs.declared.watches.Watch.TheVariants as watch
use Rattle.wait_model.proofs.SentenceLaws.MadeFindings.{sees, fair, shown}
use Rattle.wait_model.proofs.SentenceLaws.SentenceRests.{Says, anything, CanEnd, over, unsaid, first, found}

abbrev pub is_short : Call → Bool
is_short (calls.Set c v) = true
is_short (calls.Take c) = true
is_short (calls.Read c) = true
is_short _ = false

abbrev pub short_rest : ℕ → Call → Point → Rest
short_rest me (calls.Set c v) at.Store = sentence me (calls.Set c v) ends
short_rest me (calls.Take c) at.Take = sentence me (calls.Take c) ends
short_rest me (calls.Read c) at.Read = sentence me (calls.Read c) ends
short_rest me _ p = anything

-- each ends with its event, so what is left elsewhere does not matter
pub short_said : (me : ℕ) (R : Noted → Point → Rest) (m : Noted) (call : Call) (p : Point) (seen : Seen)
    → Says R m (program me call p seen) (short_rest me call p)
short_said me R m (calls.Set c v) at.Store seen w a h = (refl, h)
short_said me R m (calls.Take c) at.Take seen w a h = (seen.value, (refl, h))
short_said me R m (calls.Read c) at.Read seen w a h = (seen.value, (refl, h))
short_said me R m _ p seen w a h = tt

-- a call that answers a value which it finds
abbrev values : (ℕ → Event) → Rest
values e = finds e (λ x. ends (answer.Value x))

value_end : (e : ℕ → Event) → CanEnd (values e)
value_end e = found e (λ x. ends (answer.Value x)) 0 (over (answer.Value 0))

pub short_end : (me : ℕ) (call : Call) (p : Point) → CanEnd (short_rest me call p)
short_end me (calls.Set c v) at.Store = first (event.Set (number_of (watch.Plain c)) v)
    (ends (number 0)) (over (number 0))
short_end me (calls.Take c) at.Take = value_end (event.Take c)
short_end me (calls.Read c) at.Read = value_end (event.Load (number_of (watch.Plain c)))
short_end me _ p = unsaid

pub short_made : (me : ℕ) (call : Call) → is_short call ≡ true → (w : List Event) (a : Answer) → Follows me call w a
    → Makes me call none_noted (program_start call) w a
short_made me (calls.Set c v) is [] a h = absurd h
short_made me (calls.Set c v) is (x ∷ w) a h = (sees none_noted, (fair (calls.Set c v) none_noted, tt), h.0, h.1)
short_made me (calls.Take c) is [] a h = absurd h.1
short_made me (calls.Take c) is (x ∷ w) a h =
    (record (sees none_noted) { value = h.0 }, (shown (calls.Take c) none_noted h.0 refl, tt), h.1.0, h.1.1)
short_made me (calls.Read c) is [] a h = absurd h.1
short_made me (calls.Read c) is (x ∷ w) a h =
    (record (sees none_noted) { value = h.0 }, (shown (calls.Read c) none_noted h.0 refl, tt), h.1.0, h.1.1)
short_made me _ is w a h = absurd (cc (is))
