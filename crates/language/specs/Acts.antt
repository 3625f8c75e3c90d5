-- What a line asks for, or what is wrong with it. Assumes nothing.
use Rattle.std.specs.Prelude.{ℕ, min, cond, List, [], ◌∷◌, ◌++◌, length, take, replicate, Some, None, Ok, Err, codes, Option, Result, option_map}
use Rattle.std.specs.Str.{bytes_eq}
use Rattle.codes.specs.declared.names.CodeName.{CodeName}
use Rattle.codes.specs.declared.names.CodeName.TheVariants.{Am2960, Parity}
use Rattle.maps.specs.declared.bank.Bank.{Bank}
use Rattle.language.specs.declared.act.Act.{Act}
use Rattle.language.specs.declared.act.Act.TheVariants as act
use Rattle.language.specs.declared.act.AskedPlacement.{AskedPlacement}
use Rattle.language.specs.declared.dialect.Dialect.{Dialect}
use Rattle.language.specs.declared.dialect.Dialect.TheVariants.{Stores, Cards}
use Rattle.language.specs.declared.make.AskedMap.{AskedMap}
use Rattle.language.specs.declared.make.BankList.{BankList}
use Rattle.language.specs.declared.make.Make.TheVariants as make
use Rattle.language.specs.declared.wrong.Expected.{Expected}
use Rattle.language.specs.declared.wrong.Expected.TheVariants as expected
use Rattle.language.specs.declared.wrong.Wrong.{Wrong}
use Rattle.lines.specs.Lines.{uncommented, words, first, others}
use Rattle.lines.specs.Numbers.{written, at_most}

-- what was expected, and the word that was found, or none where the line ended
abbrev pub Mistake : Type 0
Mistake = Expected × Option (List ℕ)

-- a result with the found word in place of the reference to it
abbrev pub told : {T : Type 0} → Result T Wrong → Result T Mistake
told (Ok x) = Ok x
told (Err w) = Err (w.expected, option_map (λ word. word.now) w.found)

-- the first mistake, or what comes next
abbrev pub and_then : {T U : Type 0} → Result T Mistake → (T → Result U Mistake) → Result U Mistake
and_then (Ok x) next = next x
and_then (Err m) next = Err m

-- what a word is read as, or the mistake where it cannot be, or there is no word
abbrev pub or_wrong : {T : Type 0} → Expected → Option (List ℕ) → Option T → Result T Mistake
or_wrong e found (Some x) = Ok x
or_wrong e found None = Err (e, found)

abbrev pub read_by : {T : Type 0} → (List ℕ → Option T) → Option (List ℕ) → Option T
read_by f (Some w) = f w
read_by f None = None

-- the number that a word writes, up to a limit
abbrev pub numbered : ℕ → Option (List ℕ) → Result ℕ Mistake
numbered most word = or_wrong (expected.Number most) word (read_by (λ w. at_most most (written w)) word)

-- the code that a word names
abbrev pub code_named : List ℕ → Option CodeName
code_named w =
    cond (bytes_eq w (codes "am2960")) (Some Am2960)
    (cond (bytes_eq w (codes "parity")) (Some Parity) None)

abbrev pub named : Option (List ℕ) → Result CodeName Mistake
named word = or_wrong expected.CodeName word (read_by code_named word)

-- no word is left
abbrev pub ended : List (List ℕ) → Result (Unit {0}) Mistake
ended [] = Ok tt
ended (w ∷ ws) = Err (expected.End, Some w)

-- one, two or three numbers, each up to its limit, and then the end of the line
abbrev pub one_number : ℕ → List (List ℕ) → Result ℕ Mistake
one_number most ws =
    and_then (numbered most (first ws)) (λ n.
    and_then (ended (others ws)) (λ done. Ok n))

abbrev pub two_numbers : ℕ → ℕ → List (List ℕ) → Result (ℕ × ℕ) Mistake
two_numbers most next ws =
    and_then (numbered most (first ws)) (λ m.
    and_then (one_number next (others ws)) (λ n. Ok (m, n)))

abbrev pub three_numbers : ℕ → List (List ℕ) → Result (ℕ × ℕ × ℕ) Mistake
three_numbers most ws =
    and_then (numbered most (first ws)) (λ l.
    and_then (two_numbers most most (others ws)) (λ m. Ok (l, m.0, m.1)))

-- the largest number of a line, word of data, byte, and check bits of a cell
abbrev pub most_number : ℕ
most_number = 4294967295

abbrev pub most_word : ℕ
most_word = 65535

abbrev pub most_byte : ℕ
most_byte = 255

abbrev pub most_checks : ℕ
most_checks = 63

-- what the words after each keyword ask for
abbrev pub code_act : List (List ℕ) → Result Act Mistake
code_act ws =
    and_then (named (first ws)) (λ name.
    and_then (ended (others ws)) (λ done. Ok (act.Code name)))

abbrev pub asked_placement : (capacity start control : ℕ) → AskedPlacement
asked_placement capacity start control = record { capacity = capacity; start = start; control = control }

abbrev pub place_act : List (List ℕ) → Result Act Mistake
place_act ws = and_then (three_numbers most_number ws) (λ n. Ok (act.Place (asked_placement n.0 n.1 n.2)))

abbrev pub checks_act : List (List ℕ) → Result Act Mistake
checks_act ws = and_then (one_number most_word ws) (λ word. Ok (act.Checks word))

abbrev pub judge_act : List (List ℕ) → Result Act Mistake
judge_act ws = and_then (two_numbers most_word most_checks ws) (λ n. Ok (act.Judge n.0 n.1))

abbrev pub dati_act : List (List ℕ) → Result Act Mistake
dati_act ws = and_then (one_number most_number ws) (λ address. Ok (act.Dati address))

abbrev pub datip_act : List (List ℕ) → Result Act Mistake
datip_act ws = and_then (one_number most_number ws) (λ address. Ok (act.Datip address))

abbrev pub dato_act : List (List ℕ) → Result Act Mistake
dato_act ws = and_then (two_numbers most_number most_word ws) (λ n. Ok (act.Dato n.0 n.1))

abbrev pub datob_act : List (List ℕ) → Result Act Mistake
datob_act ws = and_then (two_numbers most_number most_byte ws) (λ n. Ok (act.Datob n.0 n.1))

abbrev pub strike_act : List (List ℕ) → Result Act Mistake
strike_act ws = and_then (two_numbers most_number most_number ws) (λ n. Ok (act.Strike n.0 n.1))

abbrev pub cell_act : List (List ℕ) → Result Act Mistake
cell_act ws = and_then (one_number most_number ws) (λ cell. Ok (act.Cell cell))

-- the words two by two; where their number is odd, the last one has none at its side
abbrev pub pairs : List (List ℕ) → List (List ℕ × Option (List ℕ))
pairs [] = []
pairs (v ∷ []) = (v, None) ∷ []
pairs (v ∷ w ∷ ws) = (v, Some w) ∷ pairs ws

abbrev pub bank : ℕ → ℕ → Bank
bank offset cells = record { offset = offset; length = cells }

-- the banks that pairs of an offset and a length write
abbrev pub banks_of : List (List ℕ × Option (List ℕ)) → Result (List Bank) Mistake
banks_of [] = Ok []
banks_of (p ∷ ps) =
    and_then (numbered most_number (Some p.0)) (λ offset.
    and_then (numbered most_number p.1) (λ cells.
    and_then (banks_of ps) (λ banks. Ok (bank offset cells ∷ banks))))

-- how many banks are listed at most: one more than a map can have
abbrev pub most_listed : ℕ
most_listed = 9

-- the first banks, and empty ones in the places that are left
abbrev pub listed : List Bank → BankList
listed banks = record { banks = take most_listed (banks ++ replicate most_listed (bank 0 0)); used = min most_listed (length banks) }

-- the list of the banks that the words write, up to the end of the line
abbrev pub bank_list : List (List ℕ) → Result BankList Mistake
bank_list ws = and_then (banks_of (pairs ws)) (λ banks. Ok (listed banks))

-- the count of a bank map, and its banks
abbrev pub asked_map : List (List ℕ) → Result AskedMap Mistake
asked_map ws =
    and_then (numbered most_number (first ws)) (λ count.
    and_then (bank_list (others ws)) (λ banks. Ok (record { count = count; banks = banks })))

-- what the words after each make of store ask for
abbrev pub flat_act : List (List ℕ) → Result Act Mistake
flat_act ws = and_then (one_number most_number ws) (λ cells. Ok (act.Store (make.Flat cells)))

abbrev pub split_act : List (List ℕ) → Result Act Mistake
split_act ws = and_then (one_number most_number ws) (λ cells. Ok (act.Store (make.Split cells)))

abbrev pub pair_act : List (List ℕ) → Result Act Mistake
pair_act ws = and_then (two_numbers most_number most_number ws) (λ n. Ok (act.Store (make.Pair n.0 n.1)))

abbrev pub map_act : List (List ℕ) → Result Act Mistake
map_act ws =
    and_then (numbered most_number (first ws)) (λ cells.
    and_then (asked_map (others ws)) (λ map. Ok (act.Store (make.Map cells map))))

abbrev pub banks_act : List (List ℕ) → Result Act Mistake
banks_act ws =
    and_then (numbered most_number (first ws)) (λ cells.
    and_then (numbered most_number (first (others ws))) (λ more.
    and_then (asked_map (others (others ws))) (λ map. Ok (act.Store (make.Banks cells more map)))))

-- what a make and the words after it ask for
abbrev pub make_act : List ℕ → List (List ℕ) → Result Act Mistake
make_act w ws =
    cond (bytes_eq w (codes "flat")) (flat_act ws)
    (cond (bytes_eq w (codes "split")) (split_act ws)
    (cond (bytes_eq w (codes "pair")) (pair_act ws)
    (cond (bytes_eq w (codes "map")) (map_act ws)
    (cond (bytes_eq w (codes "banks")) (banks_act ws)
    (Err (expected.Make, Some w))))))

-- what the words after `store` ask for
abbrev pub store_act : List (List ℕ) → Result Act Mistake
store_act [] = Err (expected.Make, None)
store_act (w ∷ ws) = make_act w ws

-- what a keyword and the words after it ask for: what a bench does to the cells of a store
abbrev pub bench_act : Dialect → List ℕ → List (List ℕ) → Result Act Mistake
bench_act dialect keyword ws =
    cond (bytes_eq keyword (codes "strike")) (strike_act ws)
    (cond (bytes_eq keyword (codes "cell")) (cell_act ws)
    (Err (expected.Act dialect, Some keyword)))

-- where a card is placed and called: bus transfers, a placement, and what a bench does
abbrev pub card_act : List ℕ → List (List ℕ) → Result Act Mistake
card_act keyword ws =
    cond (bytes_eq keyword (codes "dati")) (dati_act ws)
    (cond (bytes_eq keyword (codes "datip")) (datip_act ws)
    (cond (bytes_eq keyword (codes "dato")) (dato_act ws)
    (cond (bytes_eq keyword (codes "datob")) (datob_act ws)
    (cond (bytes_eq keyword (codes "place")) (place_act ws)
    (bench_act Cards keyword ws)))))

-- what any other keyword asks for in a dialect
abbrev pub dialect_act : Dialect → List ℕ → List (List ℕ) → Result Act Mistake
dialect_act Stores keyword ws = bench_act Stores keyword ws
dialect_act Cards keyword ws = card_act keyword ws

-- the code and the store of a job, acts without a store, and those of the dialect
abbrev pub act_of : Dialect → List ℕ → List (List ℕ) → Result Act Mistake
act_of dialect keyword ws =
    cond (bytes_eq keyword (codes "code")) (code_act ws)
    (cond (bytes_eq keyword (codes "store")) (store_act ws)
    (cond (bytes_eq keyword (codes "checks")) (checks_act ws)
    (cond (bytes_eq keyword (codes "judge")) (judge_act ws)
    (dialect_act dialect keyword ws))))

-- what the words of a line ask for, if there are any
abbrev pub asked : Dialect → List (List ℕ) → Result (Option Act) Mistake
asked dialect [] = Ok None
asked dialect (keyword ∷ ws) = and_then (act_of dialect keyword ws) (λ a. Ok (Some a))

-- what a line asks for
abbrev pub parsed : Dialect → List ℕ → Result (Option Act) Mistake
parsed dialect line = asked dialect (words (uncommented line))
