-- A journal, written and read: an entry as the line of the journal's reader, in bytes.
use Rattle.std.specs.Prelude.{ℕ, List, [], ◌∷◌, ◌++◌, eqb}
use Rattle.rules.specs.Tests.{pick}
use Rattle.rules.specs.Numbers.{N_OK, N_TIMEOUT_A, N_TIMEOUT_Bs, N_TIMEOUT_Cr, N_WRONG_SN, N_INVALID_FS, N_UNEXP_PDU, N_BUFFER_OVFLW}
use Rattle.journal.specs.Records.{receive_kind, send_kind, delivered}
use Rattle.journal.specs.declared.Entry.{Entry}
use Rattle.text.specs.Building.{decimal, small_places, size_places, number_places}
use Rattle.text.specs.Answers.{bad_word, space, LF, numbered_text}

-- ---- the words

-- "tick "
abbrev pub tick_name : List ℕ
tick_name = 116 ∷ 105 ∷ 99 ∷ 107 ∷ 32 ∷ []

-- " berth "
abbrev pub berth_name : List ℕ
berth_name = 32 ∷ 98 ∷ 101 ∷ 114 ∷ 116 ∷ 104 ∷ 32 ∷ []

-- " receive "
abbrev pub receive_name : List ℕ
receive_name = 32 ∷ 114 ∷ 101 ∷ 99 ∷ 101 ∷ 105 ∷ 118 ∷ 101 ∷ 32 ∷ []

-- " send "
abbrev pub send_name : List ℕ
send_name = 32 ∷ 115 ∷ 101 ∷ 110 ∷ 100 ∷ 32 ∷ []

-- " kind "
abbrev pub other_kind_name : List ℕ
other_kind_name = 32 ∷ 107 ∷ 105 ∷ 110 ∷ 100 ∷ 32 ∷ []

-- " length "
abbrev pub length_name : List ℕ
length_name = 32 ∷ 108 ∷ 101 ∷ 110 ∷ 103 ∷ 116 ∷ 104 ∷ 32 ∷ []

-- "code "
abbrev pub other_code_name : List ℕ
other_code_name = 99 ∷ 111 ∷ 100 ∷ 101 ∷ 32 ∷ []

-- ---- the names of the report codes, as the standard has them

-- "N_OK"
abbrev pub ok_name : List ℕ
ok_name = 78 ∷ 95 ∷ 79 ∷ 75 ∷ []

-- "N_TIMEOUT_A"
abbrev pub timeout_a_name : List ℕ
timeout_a_name = 78 ∷ 95 ∷ 84 ∷ 73 ∷ 77 ∷ 69 ∷ 79 ∷ 85 ∷ 84 ∷ 95 ∷ 65 ∷ []

-- "N_TIMEOUT_Bs"
abbrev pub timeout_bs_name : List ℕ
timeout_bs_name = 78 ∷ 95 ∷ 84 ∷ 73 ∷ 77 ∷ 69 ∷ 79 ∷ 85 ∷ 84 ∷ 95 ∷ 66 ∷ 115 ∷ []

-- "N_TIMEOUT_Cr"
abbrev pub timeout_cr_name : List ℕ
timeout_cr_name = 78 ∷ 95 ∷ 84 ∷ 73 ∷ 77 ∷ 69 ∷ 79 ∷ 85 ∷ 84 ∷ 95 ∷ 67 ∷ 114 ∷ []

-- "N_WRONG_SN"
abbrev pub wrong_sn_name : List ℕ
wrong_sn_name = 78 ∷ 95 ∷ 87 ∷ 82 ∷ 79 ∷ 78 ∷ 71 ∷ 95 ∷ 83 ∷ 78 ∷ []

-- "N_INVALID_FS"
abbrev pub invalid_fs_name : List ℕ
invalid_fs_name = 78 ∷ 95 ∷ 73 ∷ 78 ∷ 86 ∷ 65 ∷ 76 ∷ 73 ∷ 68 ∷ 95 ∷ 70 ∷ 83 ∷ []

-- "N_UNEXP_PDU"
abbrev pub unexp_pdu_name : List ℕ
unexp_pdu_name = 78 ∷ 95 ∷ 85 ∷ 78 ∷ 69 ∷ 88 ∷ 80 ∷ 95 ∷ 80 ∷ 68 ∷ 85 ∷ []

-- "N_BUFFER_OVFLW"
abbrev pub buffer_ovflw_name : List ℕ
buffer_ovflw_name = 78 ∷ 95 ∷ 66 ∷ 85 ∷ 70 ∷ 70 ∷ 69 ∷ 82 ∷ 95 ∷ 79 ∷ 86 ∷ 70 ∷ 76 ∷ 87 ∷ []

-- ---- the texts

-- the side by the kind; a kind that is neither is told as a number
unfoldable pub side_text : ℕ → List ℕ
side_text kind =
    pick (eqb kind receive_kind) receive_name
    (pick (eqb kind send_kind) send_name
    (other_kind_name ++ (decimal small_places kind ++ (space ∷ []))))

-- the code by its name; a code without one is told as a number
unfoldable pub name_text : ℕ → List ℕ
name_text code =
    pick (eqb code N_OK) ok_name
    (pick (eqb code N_TIMEOUT_A) timeout_a_name
    (pick (eqb code N_TIMEOUT_Bs) timeout_bs_name
    (pick (eqb code N_TIMEOUT_Cr) timeout_cr_name
    (pick (eqb code N_WRONG_SN) wrong_sn_name
    (pick (eqb code N_INVALID_FS) invalid_fs_name
    (pick (eqb code N_UNEXP_PDU) unexp_pdu_name
    (pick (eqb code N_BUFFER_OVFLW) buffer_ovflw_name
    (other_code_name ++ decimal small_places code))))))))

-- the length of a message delivered, of another nothing
unfoldable pub length_text : Entry → List ℕ
length_text e = pick (delivered e) (length_name ++ decimal size_places e.length) []

-- the words of a record's line: tick count, berth, side, code, length
abbrev pub entry_words : Entry → List ℕ
entry_words e =
    tick_name
    ++ (decimal number_places e.tick
    ++ (berth_name
    ++ (decimal size_places e.berth
    ++ (side_text e.kind
    ++ (name_text e.code
    ++ length_text e)))))

-- the line of the record with this number
unfoldable pub entry_line : ℕ → Entry → List ℕ
entry_line n e = numbered_text n (entry_words e)

-- the line of the first bad record
unfoldable pub bad_line : ℕ → List ℕ
bad_line n = bad_word ++ (space ∷ (decimal number_places n ++ (LF ∷ [])))
