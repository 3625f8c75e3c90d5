-- What a store means, and what reading, writing and upsetting do to that meaning.
-- Assumes nothing.
use Rattle.std.specs.Prelude.{◌≡◌, ℕ, ◌<◌, ◌≤◌, true, cond, is_ok, Ok, Err, Result, ◌==◌, bit_xor, nat_lt}
use Rattle.stores.specs.declared.fault.Cause.TheVariants.{PastCount, TooWide}
use Rattle.stores.specs.declared.fault.Fault.{Fault}
use Rattle.stores.specs.Faults.{fault}

-- no store has more cells than this
abbrev pub most_cells : ℕ
most_cells = 524288

-- a content has 22 bits
abbrev pub content_bits : ℕ
content_bits = 22

abbrev pub content_limit : ℕ
content_limit = 4194304

-- A store means its layer number, its count, and for each cell number a content or a fault. A cell with a content is fitted.
pub record Meaning : Type 0 where
  pub layer : ℕ
  pub count : ℕ
  pub at : ℕ → Result ℕ Fault

-- What every store owes: a count within the greatest, the fault of cause 1 of its own layer at or past the count, and contents of 22 bits.
pub record Proper (m : Meaning) : Type 0 where
  pub few : m.count ≤ most_cells
  pub past : (cell : ℕ) → m.count ≤ cell → m.at cell ≡ Err (fault PastCount m.layer cell)
  pub narrow : (cell content : ℕ) → m.at cell ≡ Ok content → content < content_limit

-- what the layer that is asked tests first of a cell
abbrev pub tested_cell : ℕ → ℕ → ℕ → Result (Unit {0}) Fault
tested_cell layer count cell = cond (nat_lt cell count) (Ok tt) (Err (fault PastCount layer cell))

-- and of a cell and a number to be written there
abbrev pub tested : ℕ → ℕ → ℕ → ℕ → Result (Unit {0}) Fault
tested layer count cell number =
    cond (nat_lt cell count) (cond (nat_lt number content_limit) (Ok tt) (Err (fault TooWide layer cell))) (Err (fault PastCount layer cell))

-- the first refusal, or what comes next
abbrev pub and_then : {T U : Type 0} → Result T Fault → Result U Fault → Result U Fault
and_then (Ok x) next = next
and_then (Err f) next = Err f

-- a fitted cell takes what is written; another answers its fault
abbrev pub granted : Result ℕ Fault → Result (Unit {0}) Fault
granted (Ok content) = Ok tt
granted (Err f) = Err f

-- what a write of that number to the cell answers, and so an upset by it
abbrev pub write_answer : Meaning → ℕ → ℕ → Result (Unit {0}) Fault
write_answer m cell number = and_then (tested m.layer m.count cell number) (granted (m.at cell))

-- one cell holds another content; layer, count and every other cell are as they were
abbrev pub with_content : Meaning → ℕ → ℕ → Meaning
with_content m cell content =
    record { layer = m.layer; count = m.count; at = λ i. cond (i == cell) (Ok content) (m.at i) }

-- the meaning after a call that sets a fitted cell by what it held, and was refused where its answer is a fault
abbrev pub changed : Meaning → ℕ → (ℕ → ℕ) → Result (Unit {0}) Fault → Result ℕ Fault → Meaning
changed m cell new (Ok done) (Ok content) = with_content m cell (new content)
changed m cell new (Ok done) (Err f) = m
changed m cell new (Err f) held = m

-- after a write the cell holds the content that was given, if the write was granted; else nothing is altered
abbrev pub written : Meaning → ℕ → ℕ → Meaning
written m cell content = changed m cell (λ old. content) (write_answer m cell content) (m.at cell)

-- after an upset the bits that the mask names are inverted, if a write of the mask would be granted; else nothing is altered
abbrev pub upset_by : Meaning → ℕ → ℕ → Meaning
upset_by m cell mask = changed m cell (λ old. bit_xor old mask) (write_answer m cell mask) (m.at cell)

-- the same layer, count and faults, and the same cells fitted
pub record SameFrame (m n : Meaning) : Type 0 where
  pub layer : n.layer ≡ m.layer
  pub count : n.count ≡ m.count
  pub faults : (cell : ℕ) (f : Fault) → m.at cell ≡ Err f → n.at cell ≡ Err f
  pub fitted : (cell content : ℕ) → m.at cell ≡ Ok content → is_ok (n.at cell) ≡ true

-- no write and no upset changes the layer number, the count or a fault
abbrev pub FrameStays : Meaning → Type 0
FrameStays m = (cell number : ℕ) → SameFrame m (written m cell number) × SameFrame m (upset_by m cell number)
