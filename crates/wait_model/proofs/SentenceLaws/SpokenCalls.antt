-- Whoever ends a call has made the sentence of it.
use Rattle.std.proofs.lemmas.Bool.Decides.{eqb_tells}
use Rattle.std.proofs.Common.{refl, sym, subst, inl, inr}
use mathlib.Core.List.{append_assoc}
use Rattle.std.specs.Prelude.{ℕ, ◌≡◌, ◌==◌, Bool, true, false, if◌then◌else◌, List, [], ◌∷◌, ◌++◌}
use Rattle.wait_model.specs.{declared.calls.Call.Call, declared.calls.Event.Event, declared.calls.Answer.Answer}
use Rattle.wait_model.specs.{declared.calls.Ran.Ran, declared.points.Progress.Progress, declared.points.Next.Next}
use Rattle.wait_model.specs.{declared.points.Point.Point, Programs.program_start, Sentences.Follows, Sentences.Begins}
use Rattle.wait_model.specs.Runs.{State, planned, seen_by, happens, state_after, state_of, start_state, progress_at}
use Rattle.wait_model.specs.Runs.{progress_after, Continues, IsItem, IsRunFrom}
use Rattle.wait_model.specs.Spoken.{said_by, said_after, said_in, CallsFollowSentences, OpenCallsBegin}
use Rattle.wait_model.specs.Findings.{Noted, none_noted, notes}
use Rattle.wait_model.specs.declared.calls.Ran.TheVariants as ran
use Rattle.wait_model.specs.declared.points.Progress.TheVariants as now
use Rattle.wait_model.specs.declared.points.Next.TheVariants as next
use Rattle.wait_model.proofs.SentenceLaws.SentenceRests.{left_at, CanEnd}
use Rattle.wait_model.proofs.SentenceLaws.SentenceFindings.{noted_by, KnowsBy, KnownFinding, knows_all}
use Rattle.wait_model.proofs.SentenceLaws.SentenceEnds.{can_end}
use Rattle.wait_model.proofs.SentenceLaws.SentenceCalls.{rest_of, start_said, says}

abbrev pub noted_after : ℕ → Noted → List Ran → Noted
noted_after t m [] = m
noted_after t m (item ∷ items) = noted_after t (noted_by t m item) items

-- whatever is left at the own point follows the sentence after what was said
abbrev JoinsSentence : ℕ → Progress → Noted → List Event → Type 0
JoinsSentence me now.Fresh m said = Unit {0}
JoinsSentence me now.Idle m said = Unit {0}
JoinsSentence me (now.Open call p) m said = (w : List Event) (a : Answer) → rest_of me call m p w a
    → Follows me call (said ++ w) a

goes_on : (me : ℕ) (call : Call) (m : Noted) (said : List Event) (e : Event) (n : Next)
    → ((w : List Event) (a : Answer) → left_at (rest_of me call m) n w a → Follows me call (said ++ e ∷ w) a)
    → JoinsSentence me (progress_at call n) m (said ++ e ∷ [])
goes_on me call m said e (next.Go p) k = λ w a h. rw append_assoc (k w a h)
goes_on me call m said e (next.Ends b) k = tt

made_joins : (s : State) (me : ℕ) (p : Progress) (e : Event) (found : ℕ) (m : Noted) (said : List Event)
    → Continues s me p e found → KnowsBy s me p m
    → JoinsSentence me p m said → JoinsSentence me (progress_after s me p) (notes m e) (said ++ e ∷ [])
made_joins s me now.Fresh e found m said c k j = absurd c
made_joins s me now.Idle e found m said c k j = absurd c
made_joins s me (now.Open call p) e found m said c k j = rw c.0 (goes_on me call
    (notes m (planned s me call p).event) said (planned s me call p).event (planned s me call p).next
    (λ w a h. j ((planned s me call p).event ∷ w) a (says me m call p (seen_by s me call p) k w a h)))

opened_joins : (s : State) (me : ℕ) (call : Call) (m : Noted) (said : List Event) (b : Bool)
    → JoinsSentence me (s.progress me) m said
    → JoinsSentence me (if b then now.Open call (program_start call) else s.progress me) (if b then none_noted else m)
    (if b then [] else said)
opened_joins s me call m said true j = λ w a h. start_said me call w a h
opened_joins s me call m said false j = j

item_joins : (s : State) (me : ℕ) (item : Ran) (m : Noted) (said : List Event) → IsItem s item
    → KnowsBy s me (s.progress me) m → JoinsSentence me (s.progress me) m said
    → JoinsSentence me ((happens s item).progress me) (noted_by me m item) (said_by me said item)
item_joins s me (ran.Opened x call) m said i k j = opened_joins s me call m said (me == x) j
item_joins s me (ran.Made x e found) m said i k j = elim (eqb_tells me x) [
  | inl h ↦ rw h.0 (same h.1)
  | inr h ↦ rw h.0 j
]
  where
    same : me ≡ x → JoinsSentence me (progress_after s x (s.progress x)) (notes m e) (said ++ e ∷ [])
    same q = subst (λ (y : ℕ). JoinsSentence me (progress_after s y (s.progress y)) (notes m e) (said ++ e ∷ [])) q
        (made_joins s me (s.progress me) e found m said
        (subst (λ (y : ℕ). Continues s y (s.progress y) e found) (sym q) i.1) k j)

run_joins : (me : ℕ) (items : List Ran) (s : State) (m : Noted) (said : List Event) → IsRunFrom s items
    → KnownFinding me s m items
    → JoinsSentence me (s.progress me) m said
    → JoinsSentence me ((state_after s items).progress me) (noted_after me m items)
    (said_after me said items)
run_joins me [] s m said r k j = j
run_joins me (item ∷ items) s m said r k j =
    run_joins me items (happens s item) (noted_by me m item) (said_by me said item) r.1 k.1
    (item_joins s me item m said r.0 k.0 j)

last_known : (me : ℕ) (items : List Ran) (s : State) (m : Noted) → KnownFinding me s m items
    → KnowsBy (state_after s items) me ((state_after s items).progress me) (noted_after me m items)
last_known me [] s m k = k
last_known me (item ∷ items) s m k = last_known me items (happens s item) (noted_by me m item) k.1

said_push : (me : ℕ) (run : List Ran) (said : List Event) (e : Event) (found : ℕ)
    → said_after me said (run ++ ran.Made me e found ∷ []) ≡ said_after me said run ++ e ∷ []
said_push me [] said e found = elim (eqb_tells me me) [
  | inl h ↦ rw h.0 refl
  | inr h ↦ absurd (h.1 refl)
]
said_push me (item ∷ items) said e found = said_push me items (said_by me said item) e found

ends_word : (s : State) (me : ℕ) (call : Call) (p : Point) (e : Event) (a : Answer) (m : Noted) (said : List Event)
    → e ≡ (planned s me call p).event → (planned s me call p).next ≡ next.Ends a → KnowsBy s me (now.Open call p) m
    → JoinsSentence me (now.Open call p) m said → Follows me call (said ++ e ∷ []) a
ends_word s me call p e a m said q o k j = rw q (j ((planned s me call p).event ∷ []) a
    (says me m call p (seen_by s me call p) k [] a over))
  where
    over : left_at (rest_of me call (notes m (planned s me call p).event)) (planned s me call p).next [] a
    over = rw o refl

pub calls_follow_sentences : CallsFollowSentences
calls_follow_sentences run me call e found a r few l = rw (said_push me run [] e found)
    (ends_word (state_of run) me call l.point e a (noted_after me none_noted run) (said_in run me)
    made.0 l.over knows joined)
  where
    joined : JoinsSentence me (now.Open call l.point) (noted_after me none_noted run) (said_in run me)
    joined = rw l.open_at at (run_joins me run start_state none_noted [] r (knows_all run me r few) tt)

    knows : KnowsBy (state_of run) me (now.Open call l.point) (noted_after me none_noted run)
    knows = rw l.open_at at (last_known me run start_state none_noted (knows_all run me r few))

    made : Continues (state_of run) me (now.Open call l.point) e found
    made = rw l.open_at at (l.item.1)

pub open_calls_begin : OpenCallsBegin
open_calls_begin run me r few call p open_at = begins (can_end me call (noted_after me none_noted run) p)
  where
    joined : JoinsSentence me (now.Open call p) (noted_after me none_noted run) (said_in run me)
    joined = rw open_at at (run_joins me run start_state none_noted [] r (knows_all run me r few) tt)

    begins : CanEnd (rest_of me call (noted_after me none_noted run) p) → Begins me call (said_in run me)
    begins (w, a, h) = (w, a, joined w a h)
