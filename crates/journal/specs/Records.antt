-- An entry, its record of sixteen bytes, and what the three calls answer and leave.
use Rattle.std.specs.Prelude.{⊤, ◌≡◌, ◌≢◌, ℕ, zero, suc, ◌+◌, ◌-◌, ◌/◌, ◌^◌, Bool, false, ◌&&◌, ◌||◌, List, [], ◌∷◌, ◌++◌, length, get_or, take, drop, ltb, leb, eqb, Result, Ok, Err, MatchResult}
use Rattle.rules.specs.Tests.{pick, unless, need, first_unmet}
use Rattle.rules.specs.Numbers.{berth_count, N_OK, N_TIMEOUT_A, N_TIMEOUT_Bs, N_TIMEOUT_Cr, N_WRONG_SN, N_INVALID_FS, N_UNEXP_PDU, N_BUFFER_OVFLW}
use Rattle.rules.specs.Answers.{Paper}
use Rattle.journal.specs.Numbers.{bytes_of, number_of}
use Rattle.journal.specs.declared.Entry.{Entry}
use Rattle.journal.specs.declared.Kind.{Kind}
use Rattle.journal.specs.declared.Kind.TheVariants.{Receive, Send}
use Rattle.journal.specs.declared.JournalError.{JournalError}
use Rattle.journal.specs.declared.JournalError.TheVariants.{NoRoom, Outside}
use Rattle.journal.specs.declared.FirstBad.{FirstBad}

-- ---- the numbers

abbrev pub record_size : ℕ
record_size = 16

-- kind: 1 receive, 2 send
abbrev pub receive_kind : ℕ
receive_kind = 1

abbrev pub send_kind : ℕ
send_kind = 2

-- a delivered length is 1 to 4,095
abbrev pub least_length : ℕ
least_length = 1

abbrev pub most_length : ℕ
most_length = 4095

-- the bytes of a length and of a tick count
abbrev pub length_bytes : ℕ
length_bytes = 2

abbrev pub tick_bytes : ℕ
tick_bytes = 8

-- refusals: 16, no room for 16 bytes; 17, a report or record outside these rules
abbrev pub no_room : ℕ
no_room = 16

abbrev pub outside : ℕ
outside = 17

-- the code's names for these
abbrev pub error_number : JournalError → ℕ
error_number NoRoom = no_room
error_number Outside = outside

abbrev pub kind_number : Kind → ℕ
kind_number Receive = receive_kind
kind_number Send = send_kind

-- a number is that of the kind, or of none
abbrev pub IsKind : ℕ → Result Kind JournalError → Type 0
IsKind n r = MatchResult r (λ kind. kind_number kind ≡ n) (λ error. (error ≡ Outside) × (n ≢ receive_kind) × (n ≢ send_kind))

-- ---- an entry within the rules

-- receive codes are 1, 2, 4, 5 or 7, send codes 1, 2, 3, 6 or 9
abbrev pub receive_codes : List ℕ
receive_codes = N_OK ∷ N_TIMEOUT_A ∷ N_TIMEOUT_Cr ∷ N_WRONG_SN ∷ N_UNEXP_PDU ∷ []

abbrev pub send_codes : List ℕ
send_codes = N_OK ∷ N_TIMEOUT_A ∷ N_TIMEOUT_Bs ∷ N_INVALID_FS ∷ N_BUFFER_OVFLW ∷ []

unfoldable pub one_of : ℕ → List ℕ → Bool
one_of n [] = false
one_of n (m ∷ ms) = eqb n m || one_of n ms

-- a code of this side
abbrev pub allows : Kind → ℕ → Bool
allows Receive code = one_of code receive_codes
allows Send code = one_of code send_codes

-- a code of its kind
unfoldable pub code_allowed : ℕ → ℕ → Bool
code_allowed kind code =
    pick (eqb kind receive_kind) (one_of code receive_codes) (pick (eqb kind send_kind) (one_of code send_codes) false)

-- receive code 1 is of a message delivered
abbrev pub delivered : Entry → Bool
delivered e = eqb e.kind receive_kind && eqb e.code N_OK

-- length 0 unless delivered
unfoldable pub length_allowed : Entry → Bool
length_allowed e = pick (delivered e) (leb least_length e.length && leb e.length most_length) (eqb e.length 0)

-- within the rules: a code of its kind, a berth of the ten, a length where there may be one, and a tick count that eight bytes hold
unfoldable pub within : Entry → Bool
within e =
    code_allowed e.kind e.code && (ltb e.berth berth_count && (length_allowed e && ltb e.tick (256 ^ tick_bytes)))

-- ---- its record: kind, berth, code, zero, length (two bytes), two zeros, tick count in eight bytes, high byte first

unfoldable pub record_of : Entry → List ℕ
record_of e =
    e.kind ∷ e.berth ∷ e.code ∷ 0 ∷ (bytes_of length_bytes e.length ++ (0 ∷ 0 ∷ bytes_of tick_bytes e.tick))

-- the entry in sixteen bytes, or more
unfoldable pub entry_in : List ℕ → Entry
entry_in d =
    record {
      kind = get_or d 0 0;
      berth = get_or d 1 0;
      code = get_or d 2 0;
      length = number_of (take length_bytes (drop 4 d));
      tick = number_of (take tick_bytes (drop 8 d));
    }

-- sixteen bytes are there, bytes 3, 6 and 7 are zero, and the entry is within the rules
unfoldable pub accepts : List ℕ → Bool
accepts d =
    leb record_size (length d) && (eqb (get_or d 3 0) 0 && (eqb (get_or d 6 0) 0 && (eqb (get_or d 7 0) 0 && within (entry_in d))))

-- ---- the answers as numbers: 0 with the refusal, or with the number of the first bad record; 1 with what is answered

abbrev pub refused_paper : ℕ → Paper
refused_paper n = record { number = 0; values = n ∷ [] }

unfoldable pub entry_paper : Entry → Paper
entry_paper e = record { number = 1; values = e.kind ∷ e.berth ∷ e.code ∷ e.length ∷ e.tick ∷ [] }

unfoldable pub write_paper : Result ⊤ JournalError → Paper
write_paper (Err error) = refused_paper (error_number error)
write_paper (Ok _) = record { number = 1; values = [] }

unfoldable pub read_paper : Result Entry JournalError → Paper
read_paper (Err error) = refused_paper (error_number error)
read_paper (Ok entry) = entry_paper entry

unfoldable pub check_paper : Result ℕ FirstBad → Paper
check_paper (Err bad) = refused_paper bad.0
check_paper (Ok good) = record { number = 1; values = good ∷ [] }

-- ---- write: 16, then 17; a refusal leaves every byte, and bytes past 16 are never written

unfoldable pub write_refusal : Entry → List ℕ → ℕ
write_refusal e out = first_unmet (need no_room (leb record_size (length out)) ∷ need outside (within e) ∷ [])

unfoldable pub writes : Entry → List ℕ → Paper
writes e out = unless (write_refusal e out) refused_paper (write_paper (Ok tt))

unfoldable pub written : Entry → List ℕ → List ℕ
written e out = unless (write_refusal e out) (λ n. out) (record_of e ++ drop record_size out)

-- ---- read: the entry of the first sixteen bytes, or 17

unfoldable pub reads : List ℕ → Paper
reads d = pick (accepts d) (entry_paper (entry_in d)) (refused_paper outside)

-- ---- check: all records good, and how many; or the number of the first bad one, counted from 1

-- the records of a file; a last part under sixteen bytes counts as one
abbrev pub record_count : List ℕ → ℕ
record_count file = (length file + (record_size - 1)) / record_size

-- so many records are left, behind so many good ones
unfoldable pub checks_from : ℕ → ℕ → List ℕ → Paper
checks_from zero good rest = check_paper (Ok good)
checks_from (suc left) good rest =
    pick (accepts rest) (checks_from left (good + 1) (drop record_size rest)) (refused_paper (good + 1))

unfoldable pub checks : List ℕ → Paper
checks file = checks_from (record_count file) 0 file
