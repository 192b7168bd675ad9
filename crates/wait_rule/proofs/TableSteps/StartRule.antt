-- The rule holds of the words at the start, with task 0 alone.
use Rattle.std.proofs.lemmas.Bool.{both_ways}
use Rattle.std.proofs.Common.{refl, sym, ◌∙◌, ap, subst, arith, inl, inr, le-ltb, lt-ltb, lt_of_not-le}
use Rattle.std.specs.Prelude.{◌-◌, ◌+◌, ◌%◌, ◌^◌, ℕ, zero, suc, ◌≡◌, ◌<◌, ◌≤◌, ◌&&◌, Bool, true, false, cond, eqb, ltb}
use Rattle.std.specs.Prelude.{nat_lt, if◌then◌else◌, Option, Some, None, List, [], ◌∷◌, ◌++◌, length, slice_index}
use native.Mathlib.Decide.{dec_le}
use Rattle.atomic_table.specs.Table.{opening}
use Rattle.wait_model.specs.{Watches.owner, Tables.start, Totals.total, Words.bit_word, Words.flag, Functions.put}
use Rattle.wait_model.specs.declared.layout.TheConstants.{TASKS, ENTRIES, WORD_BITS, ENTRY_AT, RUNNABLE}
use Rattle.wait_model.specs.Locations.{Location, Shows, word_in}
use Rattle.wait_model.proofs.{HistoryLaws.StepTotals.sum_zero, StepLaws.StartLaws.start_kept}
use Rattle.wait_model.proofs.{WordLaws.ShownSteps.start_shown, AccountLaws.SignalCounts.signals_start_raised}
use Rattle.wait_model.proofs.{BitLaws.BitKeepers.bits_start_kept, AccountLaws.DoneCounts.counts_start_balanced}
use Rattle.wait_model.proofs.Functions.{put_at}
use Rattle.wait_model.specs.Locations as place
use Rattle.wait_rule.specs.{declared.journal.Item.Item, Pages.taken_entry, Notes.notes_of, Journals.fresh}
use Rattle.wait_rule.specs.{Journals.seen_as, Start.start_of, Start.IsStart}
use Rattle.wait_rule.specs.Items.{Difference, steps_of, book_of, Fits}
use Rattle.wait_rule.specs.MemberWords.{word_with, ShowsWith, all_differences, AreMembers}
use Rattle.wait_rule.specs.Asked.{nothing_asked, asked_by_items, waits_at, was_given_at, all_asked}
use Rattle.wait_rule.specs.Tickets.{Ticket, no_ticket, is_ticket_of, is_given, ShowsNumber, out_below}
use Rattle.wait_rule.specs.TicketWords.{all_tickets, unlocks_at, unlocked_at, unserved, AreTickets}
use Rattle.wait_rule.specs.Tallies.{amounts_of, tally_of, AreTallies}
use Rattle.wait_rule.specs.Pipes.{ArePipes, End, end_of, no_end, read_end, was_refused, write_end}
use Rattle.wait_rule.specs.Rule.{IsRuled, Law, Holds}
use Rattle.wait_rule.proofs.{TableSteps.ForksAndJoins.alone, WornHeads.WornNotes.none_worn}

start_ruled : (items : ℕ → List Item) → ((t : ℕ) → items t ≡ []) → IsRuled start items
start_ruled items none = record {
  whole = record {
    kept = start_kept;
    told = λ a. refl;
    signals = λ t. signals_start_raised TASKS t;
    bits = bits_start_kept;
    counts = λ d. counts_start_balanced TASKS d;
    interleaved = record { steps = []; allowed = tt; handed = tt; leads = refl };
  };
  histories = λ a. ap steps_of (sym (none a));
  lawful = record {
    tasks = λ t. record { state = inl refl; fatal = λ h. absurd (cc); runnable = λ _. refl };
    entries = λ x e h. absurd (cc);
    marks = λ t m h. absurd (cc);
    spent = λ h. omega arith;
    bits = λ i k far. refl;
  };
  fits = λ t small. subst (λ (xs : List Item). Fits (start.task t) (book_of xs)) (sym (none t))
      (record { up = λ _. refl; stored = inl refl; rose = λ h. absurd (cc) });
  linked = record {
    holder = λ h held. absurd (cc);
    spent = λ a h held. absurd (cc);
    own = λ t. ap (λ (xs : List Item). (notes_of t xs).own) (sym (none t));
    shown = λ a h t held. absurd (cc);
  };
  placed = record {
    apart = λ x y e f is. absurd (cc);
    entries = λ x e is. absurd (cc);
    marks = λ t m is. absurd (cc);
  };
  own = λ x e is. absurd (cc);
  counts = λ a d n held. absurd (cc);
  pages = record {
    each = λ x. inl (record {
      taken = refl;
      none = λ e is. absurd (cc);
      waits = ap (waits_at x) (unasked (owner x));
      given = ap (was_given_at x) (unasked (owner x));
    });
    own = λ t x p at. elim at [
      | inl w ↦ absurd (let z : ◌≡◌ {A = Option ℕ} None (Some p) = sym (ap (waits_at x) (unasked t)) ∙ w in cc)
      | inr g ↦ absurd (let z : ◌≡◌ {A = Option ℕ} None (Some p) = sym (ap (was_given_at x) (unasked t)) ∙ g in cc)
    ];
    hands = λ a x is. absurd (let z : ◌≡◌ {A = Option ℕ} None (Some x) =
        sym (ap (λ (xs : List Item). taken_entry (book_of xs).differs) (none a)) ∙ is in cc);
  };
  quiet = λ x is flag. absurd (cc);
  heard = λ x is. absurd (cc);
  worn = λ t h p w. absurd (none_worn t h p (items t) (none t) w);
}
  where
    unasked : (t : ℕ) → all_asked items t ≡ nothing_asked
    unasked t = ap asked_by_items (none t)

-- no entry stands, and all member words and tickets are 0
start_shows : (ws : List ℕ) → Shows ws start → ShowsWith ws start (λ l. 0)
start_shows ws shown = record { count = shown.count; each = λ l is. shown.each l is ∙ by l }
  where
    by : (l : Location) → word_in start l ≡ word_with start (λ k. 0) l
    by (place.Member k) = refl
    by l = refl

none_set : (n : ℕ) → bit_word n (λ k. false) ≡ 0
unfolding bit_word
none_set zero = refl
none_set (suc n) = let ih = none_set n in omega (arith, ih)

start_members : (differs : ℕ → Difference) → AreMembers start differs (λ l. 0)
start_members differs = record {
  bits = λ h x. false;
  spells = λ h i small. sym (none_set WORD_BITS);
  agrees = λ h x far. by h x (nat_lt x ENTRIES);
  named = λ a h x held. absurd (cc);
  untested = λ a h x held. absurd (cc);
}
  where
    by : (h x : ℕ) (b : Bool) → false ≡ (if b then false else false)
    by h x true = refl
    by h x false = refl

-- no ticket is out
none_out : (tickets : ℕ → Ticket) → ((t : ℕ) → tickets t ≡ no_ticket) → (h n : ℕ) → out_below tickets h n ≡ 0
none_out tickets none h zero = refl
none_out tickets none h (suc n) =
    let here : flag (is_ticket_of h (tickets n)) ≡ 0 = ap (λ (t : Ticket). flag (is_ticket_of h t)) (none n) in
    let rest = none_out tickets none h n in
    omega arith

start_tickets : (tickets : ℕ → Ticket) → ((t : ℕ) → tickets t ≡ no_ticket) → AreTickets start tickets (λ l. 0)
start_tickets tickets none = record {
  draws = λ h. 0;
  serves = λ h. 0;
  number = λ a. 0;
  next = λ h. refl;
  serving = λ h. refl;
  within = λ a h out. not_out a h out;
  each = λ h n low high. absurd (omega arith);
  once = λ a b h one two same. not_out a h one;
  count = λ h. let n : out_below tickets h TASKS ≡ 0 = none_out tickets none h TASKS in
      sym (ap (λ (k : ℕ). 0 + k) n);
  shown = λ a. subst (λ (t : Ticket). ShowsNumber t 0) (sym (none a)) tt;
  turn = λ a h out is. not_out a h out;
  held = λ a h held. absurd (cc);
  unlocks = λ h.
      let made : unlocked_at h start.history ≡ 0 = sum_zero TASKS (λ a. total (unlocks_at h) (start.history a))
      (λ a few. refl) in
      let coming : unserved h tickets ≡ 0 = sum_zero TASKS (λ t. flag (is_given h (tickets t)))
      (λ t few. ap (λ (x : Ticket). flag (is_given h x)) (none t)) in
      omega arith;
}
  where
    not_out : {A : Type 0} (a h : ℕ) → is_ticket_of h (tickets a) ≡ true → A
    not_out a h out = absurd (both_ways false refl (sym (ap (is_ticket_of h) (none a)) ∙ out))

start_tallies : (items : ℕ → List Item) → ((t : ℕ) → items t ≡ []) → AreTallies items (λ l. 0)
start_tallies items none p =
    let sum : tally_of p items ≡ 0 =
    sum_zero TASKS (λ t. amounts_of p (items t)) (λ t few. ap (amounts_of p) (none t)) in
    sym (ap (λ (n : ℕ). n % 2 ^ 64) sum)

-- nobody has an end of a pipe
start_pipes : (items : ℕ → List Item) → ((t : ℕ) → items t ≡ []) → ArePipes (word_with start (λ l. 0)) items
start_pipes items none p few = record {
  writer = 0;
  reader = 0;
  w = no_end;
  r = no_end;
  writes = λ t. ap (end_of (write_end p)) (none t) ∙ sym (nobody t);
  reads = λ t. ap (end_of (read_end p)) (none t) ∙ sym (nobody t);
  writer_task = omega arith;
  reader_task = omega arith;
  refused_w = λ t bad. absurd (both_ways false refl (sym (ap (was_refused (write_end p)) (none t)) ∙ bad));
  refused_r = λ t bad. absurd (both_ways false refl (sym (ap (was_refused (read_end p)) (none t)) ∙ bad));
  flow = record {
    claim_w = refl;
    claim_r = refl;
    idle_w = λ _. refl;
    idle_r = λ _. refl;
    end_w = refl;
    end_r = refl;
    w_put = omega arith;
    w_room = omega arith;
    w_seen = omega arith;
    r_took = omega arith;
    r_there = omega arith;
    r_seen = omega arith;
    stands = λ n low high. absurd (omega arith);
    whole = λ n high. absurd (omega arith);
    rest = [];
    order = refl;
    w_before = refl;
    r_before = refl;
    w_ended = λ never. absurd (cc);
    r_ended = λ never. absurd (cc);
    one = λ never. absurd (cc);
  };
}
  where
    nobody : (t : ℕ) → put (λ _. no_end) 0 no_end t ≡ no_end
    nobody t = put_at (λ (e : End). e ≡ no_end) (λ _. no_end) 0 no_end t (λ _. refl) (λ _. refl)

past_end : (ws : List ℕ) (p : ℕ) → length ws ≤ p → slice_index ws p ≡ 0
past_end [] p far = refl
past_end (w ∷ ws) zero far = absurd (omega arith)
past_end (w ∷ ws) (suc p) far = past_end ws p (omega arith)

start_task : (p : ℕ) → 1 ≤ p → p < ENTRY_AT → start_of p ≡ RUNNABLE
start_task p some_place small = ap (λ b. if b then RUNNABLE else 0)
    (ap (λ b. b && ltb p ENTRY_AT) (lt-ltb 0 p some_place) ∙ lt-ltb p ENTRY_AT small)

start_rest : (p : ℕ) → ENTRY_AT ≤ p → start_of p ≡ 0
start_rest p far = ap (λ b. if b then RUNNABLE else 0)
    (ap (λ b. ltb 0 p && b) (le-ltb p ENTRY_AT far) ∙ and_false (ltb 0 p))
  where
    and_false : (b : Bool) → (b && false) ≡ false
    and_false true = refl
    and_false false = refl

nothing : (b : Bool) → ◌≡◌ {A = List Item} (cond b [] []) []
nothing true = refl
nothing false = refl

pub begins : (ws : List ℕ) → IsStart ws → Holds Law (opening ws [] (fresh 0 1 (TASKS - 1)))
begins ws is = record {
  sole = alone;
  law = record {
    table = start;
    beside = λ l. 0;
    shown = start_shows ws (start_shown ws is.0
        (λ k low high. is.1 k (omega arith) ∙ start_task k low high)
        (is.1 0 (omega arith))
        (λ k far. by_size k far (dec_le (length ws) k)));
    members = start_members (all_differences (seen_as ws (fresh 0 1 (TASKS - 1) ∷ [])).items);
    tickets = start_tickets (all_tickets (seen_as ws (fresh 0 1 (TASKS - 1) ∷ [])).items)
        (λ t. ap (λ (l : List Item). (book_of ((l ++ []) ++ [])).ticket) (nothing (eqb 0 t)));
    tallies = start_tallies (seen_as ws (fresh 0 1 (TASKS - 1) ∷ [])).items
        (λ t. ap (λ (l : List Item). (l ++ []) ++ []) (nothing (eqb 0 t)));
    pipes = start_pipes (seen_as ws (fresh 0 1 (TASKS - 1) ∷ [])).items
        (λ t. ap (λ (l : List Item). (l ++ []) ++ []) (nothing (eqb 0 t)));
    ruled = start_ruled (seen_as ws (fresh 0 1 (TASKS - 1) ∷ [])).items
        (λ t. ap (λ (l : List Item). (l ++ []) ++ []) (nothing (eqb 0 t)));
  };
}
  where
    by_size : (p : ℕ) → ENTRY_AT ≤ p → Dec (length ws ≤ p) → slice_index ws p ≡ 0
    by_size p far (yes out) = past_end ws p out
    by_size p far (no inside) =
        let size = is.0 in
        let within : p < length ws = lt_of_not-le inside in
        is.1 p (omega arith) ∙ start_rest p far
