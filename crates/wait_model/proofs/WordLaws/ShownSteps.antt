-- The words show the table after an event, where they showed the one before it.
use Rattle.std.proofs.lemmas.Bool.Decides.{eqb_tells}
use Rattle.std.proofs.Common.{refl, sym, ◌∙◌, ap, subst, arith, inl, inr, get_or-set_other, get_or-set_same, length-set}
use Rattle.std.specs.Prelude.{ℕ, zero, suc, ◌≡◌, ◌≢◌, ◌+◌, ◌*◌, ◌<◌, ◌≤◌, ◌⊎◌, Option, Bool, true, false, ◌==◌, List}
use Rattle.std.specs.Prelude.{length, slice_set, slice_index, if◌then◌else◌}
use Rattle.wait_model.specs.{declared.calls.Event.Event, declared.points.Given.Given, declared.queues.Mark.Mark}
use Rattle.wait_model.specs.{declared.steps.Step.Step, declared.watches.Watch.Watch, Reached.Allows, Reached.Joins}
use Rattle.wait_model.specs.{Tasks.task_word, Views.View, Functions.put}
use Rattle.wait_model.specs.declared.layout.TheConstants.{TASKS, SLOTS, BIT_WORDS, WORD_BITS, FIRST_BIT_WORD, TASK_AT}
use Rattle.wait_model.specs.declared.layout.TheConstants.{ENTRY_AT, CONDITION_AT, WORDS, RUNNABLE}
use Rattle.wait_model.specs.Watches.{IsThere, is_bit, number_of, page}
use Rattle.wait_model.specs.Runs.{State, is_publishing, set_step, after_event, found_by, left_of}
use Rattle.wait_model.specs.Tables.{Words, Table, next, value_of, publish, consume, start}
use Rattle.wait_model.specs.Words.{entry_word, head_word, bit_word, done_word}
use Rattle.wait_model.specs.Locations.{Location, Base, Task, Entry, Flag, Bookmark, Head, Plain, Done, Bits, Var, Tally}
use Rattle.wait_model.specs.Locations.{Cell, Claim, Member, Next, Serving, IsLocation, position_of, word_in}
use Rattle.wait_model.specs.Locations.{location_of, cond_at, mark_word, Shows}
use Rattle.wait_model.specs.declared.watches.Entry as entries
use Rattle.wait_model.specs.declared.tasks.TaskRecord as tasks
use Rattle.wait_model.proofs.{Functions.put_same, Functions.put_other, HistoryLaws.UnlockedLooks.peeks_same}
use Rattle.wait_model.proofs.HistoryLaws.HoldLooks.{SameWords, looks_same, same_words, same_through}
use Rattle.wait_model.proofs.WordLaws.CondWords.{cond_located, plain_at, done_at, var_at}
use Rattle.wait_model.specs.declared.calls.Event.TheVariants as event
use Rattle.wait_model.specs.declared.steps.Step.TheVariants as step
use Rattle.wait_model.specs.declared.watches.Watch.TheVariants as watch

-- no two words stand at one position
pub one_location : (l k : Location) → IsLocation l → IsLocation k → position_of l ≡ position_of k → l ≡ k
one_location Base Base hl hk e = refl
one_location (Task a) (Task b) hl hk e = ap Task (omega arith)
one_location (Entry a) (Entry b) hl hk e = ap Entry (omega arith)
one_location (Flag a) (Flag b) hl hk e = ap Flag (omega arith)
one_location (Bookmark a) (Bookmark b) hl hk e = ap Bookmark (omega arith)
one_location (Head a) (Head b) hl hk e = ap Head (omega arith)
one_location (Plain a) (Plain b) hl hk e = ap Plain (omega arith)
one_location (Done a) (Done b) hl hk e = ap Done (omega arith)
one_location (Bits a) (Bits b) hl hk e = ap Bits (omega arith)
one_location (Var a) (Var b) hl hk e = ap Var (omega arith)
one_location (Tally a) (Tally b) hl hk e = ap Tally (omega arith)
one_location (Cell a) (Cell b) hl hk e = ap Cell (omega arith)
one_location (Claim a) (Claim b) hl hk e = ap Claim (omega arith)
one_location (Member a) (Member b) hl hk e = ap Member (omega arith)
one_location (Next a) (Next b) hl hk e = ap Next (omega arith)
one_location (Serving a) (Serving b) hl hk e = ap Serving (omega arith)
one_location l k hl hk e = absurd (omega arith)

pub position_fits : (l : Location) → IsLocation l → position_of l < WORDS
position_fits Base h = omega arith
position_fits l h = omega arith

-- A table that differs from one that is shown at a single word is shown by the words with that word written.
pub written : (words : List ℕ) (t u : Table) (k : Location) → Shows words t → IsLocation k
    → ((l : Location) → l ≢ k → word_in u l ≡ word_in t l)
    → Shows (slice_set words (position_of k) (word_in u k)) u
written words t u k shown is same = record {
  count = length-set words (position_of k) (word_in u k) ∙ shown.count;
  each = λ l h. by l h (eqb_tells (position_of l) (position_of k));
}
  where
    inside : position_of k < length words
    inside = rw shown.count (position_fits k is)

    by : (l : Location) → IsLocation l
        → (((position_of l == position_of k) ≡ true) × (position_of l ≡ position_of k))
        ⊎ (((position_of l == position_of k) ≡ false) × (position_of l ≢ position_of k))
        → slice_index (slice_set words (position_of k) (word_in u k)) (position_of l) ≡ word_in u l
    by l h (inl q) =
        subst (λ (j : Location). slice_index (slice_set words (position_of k) (word_in u k)) (position_of j)
        ≡ word_in u j) (sym (one_location l k h is q.1))
        (get_or-set_same words (position_of k) (word_in u k) 0 inside)
    by l h (inr q) =
        get_or-set_other words (position_of k) (position_of l) (word_in u k) 0 q.1 ∙ shown.each l h
        ∙ sym (same l (λ e. q.1 (ap position_of e)))

-- tables of the same words are shown by the same words
same_word : (t u : Table) → SameWords t u → (l : Location) → word_in u l ≡ word_in t l
same_word t u same (Task i) = ap (λ (f : ℕ → tasks.TaskRecord). task_word (f i)) (sym same.task)
same_word t u same (Entry x) = ap (λ (f : ℕ → Option entries.Entry). entry_word (f x)) (sym same.entry)
same_word t u same (Flag x) = ap (λ (f : ℕ → Bool). done_word (f x) (u.done x)) (sym same.flag)
    ∙ ap (λ (f : ℕ → Bool). done_word (t.flag x) (f x)) (sym same.done)
same_word t u same (Bookmark i) = ap (λ f. mark_word (f i)) (sym same.mark)
same_word t u same (Head h) = ap (λ (f : ℕ → Bool). head_word (f h) (u.spent h)) (sym same.holder)
    ∙ ap (λ (f : ℕ → ℕ). head_word (t.holder h) (f h)) (sym same.spent)
same_word t u same (Plain c) = ap (λ (w : Words). w.plains c) (sym same.words)
same_word t u same (Done d) = ap (λ (w : Words). w.dones d) (sym same.words)
same_word t u same (Bits w) = ap (λ (f : Words). bit_word WORD_BITS (f.bits w)) (sym same.words)
same_word t u same (Var v) = ap (λ (w : Words). w.vars v) (sym same.words)
same_word t u same l = refl

pub shows_same : (words : List ℕ) (t u : Table) → SameWords t u → Shows words u → Shows words t
shows_same words t u same h = record { count = h.count; each = λ l is. h.each l is ∙ same_word t u same l }

-- what one changed record, entry, head, plain condition or done count leaves of the words
module _ (t : Table) (k : ℕ) (history : ℕ → List Step) (view : ℕ → View) where
  task_others : (x : tasks.TaskRecord) (l : Location) → l ≢ Task k
      → word_in (record t { task = put t.task k x; history = history; view = view }) l ≡ word_in t l
  task_others x (Task i) ne = ap task_word (put_other t.task k x i (λ e. ne (ap Task e)))
  task_others x l ne = refl

  entry_others : (o : Option entries.Entry) (l : Location) → l ≢ Entry k
      → word_in (record t { entry = put t.entry k o; history = history; view = view }) l ≡ word_in t l
  entry_others o (Entry i) ne = ap entry_word (put_other t.entry k o i (λ e. ne (ap Entry e)))
  entry_others o l ne = refl

  head_others : (b : Bool) (n : ℕ) (l : Location) → l ≢ Head k
      → word_in (record t {
        holder = put t.holder k b;
        spent = put t.spent k n;
        history = history;
        view = view;
      }) l ≡ word_in t l
  head_others b n (Head i) ne = ap (λ x. head_word x (put t.spent k n i))
      (put_other t.holder k b i (λ e. ne (ap Head e)))
      ∙ ap (λ x. head_word (t.holder i) x) (put_other t.spent k n i (λ e. ne (ap Head e)))
  head_others b n l ne = refl

  lock_others : (b : Bool) (l : Location) → l ≢ Head k
      → word_in (record t { holder = put t.holder k b; history = history; view = view }) l ≡ word_in t l
  lock_others b (Head i) ne = ap (λ x. head_word x (t.spent i))
      (put_other t.holder k b i (λ e. ne (ap Head e)))
  lock_others b l ne = refl

  plain_others : (n : ℕ) (l : Location) → l ≢ Plain k
      → word_in (record t {
        words = record (t.words) { plains = put t.words.plains k n };
        history = history;
        view = view;
      }) l ≡ word_in t l
  plain_others n (Plain i) ne = put_other t.words.plains k n i (λ e. ne (ap Plain e))
  plain_others n l ne = refl

  done_others : (n : ℕ) (l : Location) → l ≢ Done k
      → word_in (record t {
        words = record (t.words) { dones = put t.words.dones k n };
        history = history;
        view = view;
      }) l ≡ word_in t l
  done_others n (Done i) ne = put_other t.words.dones k n i (λ e. ne (ap Done e))
  done_others n l ne = refl

  bits_others : (f : ℕ → Bool) (l : Location) → l ≢ Bits k
      → word_in (record t {
        words = record (t.words) { bits = put t.words.bits k f };
        history = history;
        view = view;
      }) l ≡ word_in t l
  bits_others f (Bits i) ne = ap (bit_word WORD_BITS) (put_other t.words.bits k f i (λ e. ne (ap Bits e)))
  bits_others f l ne = refl

  var_others : (n : ℕ) (l : Location) → l ≢ Var k
      → word_in (record t {
        words = record (t.words) { vars = put t.words.vars k n };
        history = history;
        view = view;
      }) l ≡ word_in t l
  var_others n (Var i) ne = put_other t.words.vars k n i (λ e. ne (ap Var e))
  var_others n l ne = refl

  mark_others : (o : Option Mark) (l : Location) → l ≢ Bookmark k
      → word_in (record t { mark = put t.mark k o; history = history; view = view }) l ≡ word_in t l
  mark_others o (Bookmark i) ne = ap mark_word (put_other t.mark k o i (λ e. ne (ap Bookmark e)))
  mark_others o l ne = refl

  flag_others : (b d : Bool) (taken : ℕ → Option ℕ) (l : Location) → l ≢ Flag k
      → word_in (record t {
        flag = put t.flag k b;
        done = put t.done k d;
        taken = taken;
        history = history;
        view = view;
      }) l ≡ word_in t l
  flag_others b d taken (Flag i) ne =
      ap (λ (f : Bool). done_word f (put t.done k d i)) (put_other t.flag k b i (λ e. ne (ap Flag e)))
      ∙ ap (λ (f : Bool). done_word (t.flag i) f) (put_other t.done k d i (λ e. ne (ap Flag e)))
  flag_others b d taken l ne = refl

-- the same, where the word written is told otherwise
written_as : (words : List ℕ) (t u : Table) (k : Location) (v : ℕ) → Shows words t → IsLocation k
    → word_in u k ≡ v → ((l : Location) → l ≢ k → word_in u l ≡ word_in t l)
    → Shows (slice_set words (position_of k) v) u
written_as words t u k v shown is left same =
    subst (λ (n : ℕ). Shows (slice_set words (position_of k) n) u) left (written words t u k shown is same)

-- the one word of an event
module _ (words : List ℕ) (s : State) (shown : Shows words s.table) (me : ℕ) (g : Given)
    (mine : me < TASKS) where
  pub event_located : (e : Event) → Allows s me e → IsLocation (location_of me e)
  event_located (event.Lock h) a = a
  event_located (event.Unlock h used) a = a
  event_located (event.Mark h) a = mine
  event_located (event.Unmark h) a = mine
  event_located (event.Load c v) a = cond_located c a
  event_located (event.Set c v) a = cond_located c a
  event_located (event.Take c v) a = a
  event_located (event.Tas w b v) a = a.0
  event_located (event.Clear w b) a = a.0
  event_located (event.Active h hit) a = tt
  event_located (event.TasFor p who v) a = a.0
  event_located e a = grind arith

  -- a record that an event changes, and a flag
  own_record : (who : ℕ) (x : tasks.TaskRecord) (history : ℕ → List Step) (view : ℕ → View)
      → who < TASKS → Shows (slice_set words (position_of (Task who)) (task_word x))
      (record s.table { task = put s.table.task who x; history = history; view = view })
  own_record who x history view small = written_as words s.table _ (Task who) _ shown (omega arith)
      (ap task_word (put_same s.table.task who x)) (task_others s.table who history view x)

  flag_record : (who : ℕ) (b d : Bool) (taken : ℕ → Option ℕ) (history : ℕ → List Step) (view : ℕ → View)
      → who < TASKS → Shows (slice_set words (position_of (Flag (SLOTS * who))) (done_word b d))
      (record s.table {
        flag = put s.table.flag (SLOTS * who) b;
        done = put s.table.done (SLOTS * who) d;
        taken = taken;
        history = history;
        view = view;
      })
  flag_record who b d taken history view small = written_as words s.table _ (Flag (SLOTS * who)) _ shown (omega arith)
      (ap (λ (f : Bool). done_word f (put s.table.done (SLOTS * who) d (SLOTS * who)))
      (put_same s.table.flag (SLOTS * who) b)
      ∙ ap (λ (f : Bool). done_word b f) (put_same s.table.done (SLOTS * who) d))
      (flag_others s.table (SLOTS * who) history view b d taken)

  -- a store of a plain condition, a done count or a variable
  set_shown : (c : Watch) (v : ℕ) → IsThere c → is_bit c ≡ false
      → Shows (slice_set words (position_of (cond_at (number_of c))) v)
      (next s.table me (set_step c v (value_of s.table.words c)))
  set_shown (watch.Plain c) v h apart =
      let u : Table = next s.table me (step.Publish (watch.Plain c) v (s.table.words.plains c)) in
      rw (plain_at c h) (written_as words s.table u (Plain c) _ shown h (put_same s.table.words.plains c v)
      (plain_others s.table c u.history u.view v))
  set_shown (watch.Done d) v h apart = rw (done_at d h) (by (is_publishing (watch.Done d) (s.table.words.dones d) v))
    where
      by : (b : Bool) → Shows (slice_set words (position_of (Done d)) v)
          (next s.table me (if b then step.Publish (watch.Done d) v (s.table.words.dones d)
          else step.Consume (watch.Done d) v (s.table.words.dones d)))
      by true =
          let u : Table = next s.table me (step.Publish (watch.Done d) v (s.table.words.dones d)) in
          written_as words s.table u (Done d) _ shown h (put_same s.table.words.dones d v)
          (done_others s.table d u.history u.view v)
      by false =
          let u : Table = next s.table me (step.Consume (watch.Done d) v (s.table.words.dones d)) in
          written_as words s.table u (Done d) _ shown h (put_same s.table.words.dones d v)
          (done_others s.table d u.history u.view v)
  set_shown (watch.Bit i b) v h apart = absurd (cc)
  set_shown (watch.Var i o) v h apart =
      let u : Table = next s.table me (step.Publish (watch.Var i o) v (s.table.words.vars i)) in
      rw (var_at i h) (written_as words s.table u (Var i) _ shown h (put_same s.table.words.vars i v)
      (var_others s.table i u.history u.view v))

  -- a bit word in which a bit was set or cleared
  tas_shown : (w b : ℕ) → w < BIT_WORDS → Shows (slice_set words (position_of (Bits w))
      (value_of (consume s.table.words (watch.Bit w b) 1) (watch.Bit w b)))
      (next s.table me (step.Consume (watch.Bit w b) 1 (value_of s.table.words (watch.Bit w b))))
  tas_shown w b h =
      let u : Table = next s.table me (step.Consume (watch.Bit w b) 1 (value_of s.table.words (watch.Bit w b))) in
      written_as words s.table u (Bits w) _ shown h refl (bits_others s.table w u.history u.view _)

  page_shown : (p x : ℕ) → p < BIT_WORDS → Shows (slice_set words (position_of (Bits p))
      (value_of (consume s.table.words (page p) 1) (page p)))
      (next s.table me (step.TasFor x p (value_of s.table.words (page p))))
  page_shown p x h =
      let u : Table = next s.table me (step.Consume (page p) 1 (value_of s.table.words (page p))) in
      let v : Table = next s.table me (step.TasFor x p (value_of s.table.words (page p))) in
      written_as words s.table v (Bits p) _ shown h refl (bits_others s.table p v.history v.view _)

  clear_shown : (w b : ℕ) → w < BIT_WORDS → Shows (slice_set words (position_of (Bits w))
      (value_of (publish s.table.words (watch.Bit w b) 0) (watch.Bit w b)))
      (next s.table me (step.Publish (watch.Bit w b) 0 (value_of s.table.words (watch.Bit w b))))
  clear_shown w b h =
      let u : Table = next s.table me (step.Publish (watch.Bit w b) 0 (value_of s.table.words (watch.Bit w b))) in
      written_as words s.table u (Bits w) _ shown h refl (bits_others s.table w u.history u.view _)

  own_mark_word : (o : Option Mark) (history : ℕ → List Step) (view : ℕ → View)
      → Shows (slice_set words (position_of (Bookmark me)) (mark_word o))
      (record s.table { mark = put s.table.mark me o; history = history; view = view })
  own_mark_word o history view = written_as words s.table _ (Bookmark me) _ shown mine
      (ap mark_word (put_same s.table.mark me o)) (mark_others s.table me history view o)

  pub event_shown : (e : Event) → Allows s me e → Joins g e
      → Shows (slice_set words (position_of (location_of me e)) (left_of s me g e)) (after_event s me g e).table
  event_shown (event.Wake who hit) a j = own_record who _ _ _ a
  event_shown (event.Signal who fatal) a j = own_record who _ _ _ a
  event_shown (event.Look hit) a j = written_as words s.table _ (Task me) _ shown (omega arith) refl
      (λ l ne. refl)
  event_shown (event.Lock h) a j =
      let u : Table = next s.table me
      (step.Lock h g.walk (head_word (s.table.holder h) (s.table.spent h))) in
      shows_same _ _ u (looks_same u s.table.entry me)
      (written_as words s.table u (Head h) _ shown a
      (ap (λ b. head_word b (s.table.spent h)) (put_same s.table.holder h true))
      (lock_others s.table h u.history u.view true))
  event_shown (event.Unlock h used) a j =
      let u : Table = (after_event s me g (event.Unlock h used)).table in
      written_as words s.table u (Head h) _ shown a
      (rw (put_same s.table.holder h false, put_same s.table.spent h) refl)
      (head_others s.table h u.history u.view false _)
  event_shown (event.Queue h form) a j =
      let u : Table = (after_event s me g (event.Queue h form)).table in
      written_as words s.table u (Entry (SLOTS * me)) _ shown (omega arith)
      (ap entry_word (put_same s.table.entry (SLOTS * me) _))
      (entry_others s.table (SLOTS * me) u.history u.view _)
  event_shown (event.Unqueue who) a j =
      let u : Table = (after_event s me g (event.Unqueue who)).table in
      written_as words s.table u (Entry (SLOTS * who)) _ shown (omega (arith, a))
      (ap entry_word (put_same s.table.entry (SLOTS * who) _))
      (entry_others s.table (SLOTS * who) u.history u.view _)
  event_shown (event.Queued hit) a j = written_as words s.table _ (Entry (SLOTS * me)) _ shown (omega arith) refl
      (λ l ne. refl)
  event_shown (event.Mark h) a j = own_mark_word _ _ _
  event_shown (event.Unmark h) a j = own_mark_word _ _ _
  event_shown (event.Load c v) a j =
      let u : Table = (after_event s me g (event.Load c v)).table in
      let same = same_word u s.table (same_through u s.table _ _ (same_words u)) in
      written_as words s.table u (cond_at c) _ shown (cond_located c a) (sym (same (cond_at c)))
      (λ l ne. sym (same l))
  event_shown (event.Set c v) a j = rw j.0 (set_shown g.watch v j.1 j.2)
  event_shown (event.Tas w b v) a j = rw j (tas_shown w b a.0)
  event_shown (event.Clear w b) a j = rw j (clear_shown w b a.0)
  event_shown (event.Active h hit) a j = shows_same _ _ s.table (peeks_same s.table s.table.entry me)
      (written_as words s.table s.table Base _ shown tt refl (λ l ne. refl))
  event_shown (event.Take c v) a j =
      let u : Table = next s.table me (step.Consume (watch.Plain c) 0 (s.table.words.plains c)) in
      rw j (written_as words s.table u (Plain c) _ shown a (put_same s.table.words.plains c 0)
      (plain_others s.table c u.history u.view 0))
  event_shown (event.Woken who) a j = flag_record who true false _ _ _ a
  event_shown (event.TasFor p who v) a j = page_shown p (SLOTS * who) a.0
  event_shown (event.Handed who) a j = flag_record who true true _ _ _ a
  event_shown (event.Flag hit) a j = written_as words s.table _ (Flag (SLOTS * me)) _ shown (omega arith) refl
      (λ l ne. refl)
  event_shown event.Unflag a j = flag_record me false false _ _ _ mine
  event_shown _ a j = own_record me _ _ _ mine

  -- the word before it
  pub event_found : (e : Event) → Allows s me e
      → slice_index words (position_of (location_of me e)) ≡ found_by s me e
  event_found e a = shown.each (location_of me e) (event_located e a)

-- at the start the task words are runnable and running, and every other word is 0
no_bits : (n : ℕ) → bit_word n (λ _. false) ≡ 0
unfolding bit_word
no_bits zero = refl
no_bits (suc n) = ap (λ k. k + 0) (no_bits n)

pub start_shown : (words : List ℕ) → length words ≡ WORDS
    → ((k : ℕ) → TASK_AT ≤ k → k < ENTRY_AT → slice_index words k ≡ RUNNABLE)
    → (slice_index words 0 ≡ 0) → ((k : ℕ) → ENTRY_AT ≤ k → slice_index words k ≡ 0) → Shows words start
start_shown words count tasks base rest = record { count = count; each = by }
  where
    by : (l : Location) → IsLocation l → slice_index words (position_of l) ≡ word_in start l
    by Base h = base
    by (Task t) h = tasks (TASK_AT + t) (omega arith) (omega arith)
    by (Bits w) h = rest (CONDITION_AT + FIRST_BIT_WORD + w) (omega arith) ∙ sym (no_bits WORD_BITS)
    by l h = rest (position_of l) (omega arith)
