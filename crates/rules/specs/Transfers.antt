-- The bus transfers, step by step: what each call answers and the state that it leaves.
-- Assumes nothing.
use Rattle.std.specs.Prelude.{ℕ, ◌+◌, ◌*◌, ◌/◌, ◌%◌, ◌^◌, Bool, true, false, ◌&&◌, Some, None, Ok, Err, Option, Result, ◌==◌}
use Rattle.codes.specs.Cells.{Coding, word_bits, data_of, checks_of, cell_of}
use Rattle.codes.specs.declared.verdict.Verdict.{Verdict}
use Rattle.codes.specs.declared.verdict.Verdict.TheVariants.{Sound, Mended, Bad}
use Rattle.stores.specs.Meaning.{with_content}
use Rattle.stores.specs.declared.fault.Fault.{Fault}
use Rattle.rules.specs.declared.look.Look.{Look}
use Rattle.rules.specs.declared.placement.make.Target.{Target}
use Rattle.rules.specs.declared.placement.make.Target.TheVariants.{Word, ControlWord}
use Rattle.rules.specs.declared.refusal.Refusal.{Refusal}
use Rattle.rules.specs.declared.refusal.Refusal.TheVariants.{ControlByte, Store}
use Rattle.rules.specs.Targets.{Placed, block_of, target_of}
use Rattle.rules.specs.Calls.{Call, dati, datip, dato, datob, Answer, read, wrote, refused}
use Rattle.rules.specs.Control.{parity_enable, on, guarded, treatment, is_bad}
use Rattle.rules.specs.Registers.{examined_registers, latch_loaded, checks_latched, shown, control_written}
use Rattle.rules.specs.Tallies.{tallied_at}
use Rattle.rules.specs.State.{State, bits_of, with_store, with_control_word}

-- what a call answers, and the state that it leaves
pub record Done : Type 0 where
  pub answer : Answer
  pub after : State

-- a refusal changes nothing
abbrev pub refusing : State → Refusal → Done
refusing s r = record { answer = refused r; after = s }

-- a word with one of its bytes put in: the high one, or the low one
abbrev pub merged : Bool → ℕ → ℕ → ℕ
merged true word byte = byte * 2 ^ 8 + word % 2 ^ 8
merged false word byte = word / 2 ^ 8 * 2 ^ 8 + byte

-- bit 0 of the address picks the high byte
abbrev pub high_byte : ℕ → Bool
high_byte address = address % 2 == 1

module _ (code : Coding) (p : Placed) where
  -- The treatment of the cell of a word by its content, in that state.
  abbrev pub treated : State → (word content : ℕ) → Verdict
  treated s word content = treatment (bits_of s) (guarded (bits_of s) word) (code.judged content).verdict

  -- the word of a cell: the mended one where the treatment is mended, else the stored one
  abbrev pub word_of : Verdict → ℕ → ℕ
  word_of Sound content = data_of word_bits content
  word_of Mended content = (code.judged content).word
  word_of Bad content = data_of word_bits content

  -- The examination of a cell: bit 4, the log, bit 15 and the tally follow its verdict.
  abbrev pub examined : State → (word content : ℕ) → State
  examined s word content = record {
    store = s.store;
    registers = examined_registers s.registers (guarded (bits_of s) word) (code.judged content).verdict (block_of p word) (code.judged content).syndrome;
    tallies = tallied_at s.tallies word (treated s word content);
    place = s.place;
  }

  -- a look at the cell of a word: its content, treatment and word, or its fault; a fitted cell is examined
  abbrev pub look_at : State → ℕ → Result ℕ Fault → Result Look Fault
  look_at s word (Ok content) =
      Ok (record { content = content; treatment = treated s word content; word = word_of (treated s word content) content })
  look_at s word (Err f) = Err f

  abbrev pub looked : State → ℕ → Result ℕ Fault → State
  looked s word (Ok content) = examined s word content
  looked s word (Err f) = s

  -- the check latch takes the stored checks of a cell that is read
  abbrev pub latched : State → (word content : ℕ) → State
  latched s word content =
      with_control_word s (latch_loaded s.registers.control (guarded (bits_of s) word) (checks_of word_bits code.width content))

  -- DATI and DATIP
  abbrev pub read_cell : State → (address word : ℕ) → Result ℕ Fault → Done
  read_cell s address word (Ok content) = record {
    answer = read (word_of (treated s word content) content) (treated s word content) (is_bad (treated s word content) && on (bits_of s) parity_enable);
    after = latched (examined s word content) word content;
  }
  read_cell s address word (Err f) = refusing s (Store address f)

  abbrev pub read_from : State → ℕ → Result Target Refusal → Done
  read_from s address (Ok (Word word)) = read_cell s address word (s.store.at word)
  read_from s address (Ok ControlWord) = record { answer = read (shown s.registers) Sound false; after = s }
  read_from s address (Err r) = refusing s r

  -- the checks that a word is written with: its own, or the low K bits of the latch in diagnostic mode
  abbrev pub checks_for : Option ℕ → ℕ → ℕ
  checks_for (Some latch) given = latch % 2 ^ code.width
  checks_for None given = code.checks given

  -- the cell that a word is written as
  abbrev pub cell_for : State → (word given : ℕ) → ℕ
  cell_for s word given =
      cell_of word_bits given (checks_for (checks_latched s.registers.control (guarded (bits_of s) word)) given)

  -- the cell of a word takes a content, if it is fitted
  abbrev pub put : State → (word content : ℕ) → State
  put s word content = with_store s (with_content s.store word content)

  abbrev pub put_if_fitted : State → (word content : ℕ) → Result ℕ Fault → State
  put_if_fitted s word content (Ok old) = put s word content
  put_if_fitted s word content (Err f) = s

  -- DATO
  abbrev pub write_cell : State → (address word given : ℕ) → Result ℕ Fault → Done
  write_cell s address word given (Ok old) = record { answer = wrote Sound; after = put s word (cell_for s word given) }
  write_cell s address word given (Err f) = refusing s (Store address f)

  abbrev pub write_to : State → (address given : ℕ) → Result Target Refusal → Done
  write_to s address given (Ok (Word word)) = write_cell s address word given (s.store.at word)
  write_to s address given (Ok ControlWord) =
      record { answer = wrote Sound; after = with_control_word s (control_written s.registers.control given) }
  write_to s address given (Err r) = refusing s r

  -- the cell that a byte leaves: the old one where the treatment is bad, and the byte is lost
  abbrev pub cell_with_byte : State → (word address byte content : ℕ) → Verdict → ℕ
  cell_with_byte s word address byte content Sound =
      cell_for s word (merged (high_byte address) (data_of word_bits content) byte)
  cell_with_byte s word address byte content Mended =
      cell_for s word (merged (high_byte address) (code.judged content).word byte)
  cell_with_byte s word address byte content Bad = content

  -- DATOB
  abbrev pub write_byte : State → (address word byte : ℕ) → Result ℕ Fault → Done
  write_byte s address word byte (Ok content) = record {
    answer = wrote (treated s word content);
    after = put (examined s word content) word (cell_with_byte (examined s word content) word address byte content (treated s word content));
  }
  write_byte s address word byte (Err f) = refusing s (Store address f)

  abbrev pub byte_to : State → (address byte : ℕ) → Result Target Refusal → Done
  byte_to s address byte (Ok (Word word)) = write_byte s address word byte (s.store.at word)
  byte_to s address byte (Ok ControlWord) = refusing s ControlByte
  byte_to s address byte (Err r) = refusing s r

  -- every call
  unfoldable pub act : State → Call → Done
  act s (dati address) = read_from s address (target_of p address)
  act s (datip address) = read_from s address (target_of p address)
  act s (dato address given) = write_to s address given (target_of p address)
  act s (datob address byte) = byte_to s address byte (target_of p address)
