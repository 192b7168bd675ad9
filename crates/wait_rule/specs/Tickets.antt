-- To be believed.
-- Tickets of heads: what a task knows of the one that it has out.
use Rattle.std.specs.Prelude.{ℕ, ◌≡◌, ◌+◌, ◌%◌, ◌^◌, Bool, true, false, ◌&&◌, ◌==◌, zero, suc, if◌then◌else◌}
use Rattle.wait_model.specs.Words.{flag}

-- A task has no ticket out; or it drew one of a head, with the number that its draw found; or it has read since that
-- this number is served; or it took the head's lock by it; or it gave the lock back, and has not made its serve yet.
pub data Ticket : Type 0 where
  no_ticket : Ticket
  drawn : ℕ → ℕ → Ticket
  served : ℕ → ℕ → Ticket
  taken : ℕ → Ticket
  given : ℕ → Ticket

-- after a load of the served number of a head
abbrev pub after_serving : ℕ → ℕ → Ticket → Ticket
after_serving h w (drawn g n) = if (g == h) && (n == w) then served g n else drawn g n
after_serving h w no_ticket = no_ticket
after_serving h w (served g n) = served g n
after_serving h w (taken g) = taken g
after_serving h w (given g) = given g

-- a ticket of this head is out
abbrev pub is_ticket_of : ℕ → Ticket → Bool
is_ticket_of h no_ticket = false
is_ticket_of h (drawn g n) = g == h
is_ticket_of h (served g n) = g == h
is_ticket_of h (taken g) = g == h
is_ticket_of h (given g) = g == h

-- the task knows that its number is served
abbrev pub is_served : Ticket → Bool
is_served no_ticket = false
is_served (drawn g n) = false
is_served (served g n) = true
is_served (taken g) = true
is_served (given g) = true

-- the task gave the lock of this head back, and its serve is still to come
abbrev pub is_given : ℕ → Ticket → Bool
is_given h no_ticket = false
is_given h (drawn g n) = false
is_given h (served g n) = false
is_given h (taken g) = false
is_given h (given g) = g == h

-- the word that the task drew shows its number
abbrev pub ShowsNumber : Ticket → ℕ → Type 0
ShowsNumber no_ticket k = Unit {0}
ShowsNumber (drawn g n) k = n ≡ k % 2 ^ 64
ShowsNumber (served g n) k = n ≡ k % 2 ^ 64
ShowsNumber (taken g) k = Unit {0}
ShowsNumber (given g) k = Unit {0}

-- how many of the tasks below this number have a ticket of the head out
abbrev pub out_below : (ℕ → Ticket) → ℕ → ℕ → ℕ
out_below tickets h zero = 0
out_below tickets h (suc t) = flag (is_ticket_of h (tickets t)) + out_below tickets h t
