-- What a program makes for findings that a task may have follows the sentence of its call.
use Rattle.std.proofs.lemmas.Bool.{both_ways}
use Rattle.std.proofs.Common.{refl, sym, ◌∙◌, subst}
use Rattle.std.specs.Prelude.{ℕ, ◌≡◌, true, false, List, [], ◌∷◌}
use Rattle.wait_model.specs.{declared.calls.Call.Call, declared.calls.Event.Event, declared.calls.Answer.Answer}
use Rattle.wait_model.specs.{declared.points.Next.Next, declared.points.Point.Point, declared.points.Seen.Seen}
use Rattle.wait_model.specs.{Points.call_watch, Programs.program, Programs.program_start, Watches.is_done}
use Rattle.wait_model.specs.Findings.{Noted, none_noted, notes, MayFind}
use Rattle.wait_model.specs.Making.{goes_to, Makes, ProgramsFollow}
use Rattle.wait_model.specs.declared.points.Next.TheVariants as next
use Rattle.wait_model.proofs.SentenceLaws.SentenceRests.{Knows, left_at}
use Rattle.wait_model.proofs.SentenceLaws.SentenceCalls.{rest_of, start_said, says}

module _ (me : ℕ) (call : Call) (plain : is_done (call_watch call) ≡ false) where
  knows : (p : Point) (m : Noted) (seen : Seen) → MayFind call p m seen → Knows call p m seen
  knows p m seen f = record {
    off = f.0.0;
    range = λ d. absurd (both_ways true (sym d ∙ plain) refl);
    count = λ d. absurd (both_ways true (sym d ∙ plain) refl);
    walk = f.1;
  }

  goes_on : (m : Noted) (w : List Event) (a : Answer) → ((q : Point) → Makes me call m q w a → rest_of me call m q w a)
      → (n : Next) → goes_to (λ q v b. Makes me call m q w b) n w a → left_at (rest_of me call m) n w a
  goes_on m w a k (next.Go q) h = k q h
  goes_on m w a k (next.Ends b) h = h

  followed : (w : List Event) (m : Noted) (p : Point) (a : Answer) → Makes me call m p w a → rest_of me call m p w a
  followed [] m p a h = absurd h
  followed (e ∷ w) m p a h =
      let (seen, f, q, x) = h in
      subst (λ (y : Event). rest_of me call m p (y ∷ w) a) (sym q)
      (says me m call p seen (knows p m seen f) w a
      (subst (λ (y : Event). left_at (rest_of me call (notes m y)) (program me call p seen).next w a) q
      (goes_on (notes m e) w a (λ r y. followed w (notes m e) r a y) (program me call p seen).next x)))

pub programs_follow : ProgramsFollow
programs_follow me call w a plain h = start_said me call w a (followed me call plain w none_noted
    (program_start call) a h)
