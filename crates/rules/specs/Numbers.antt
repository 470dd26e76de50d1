-- Every number of the rules, under one name.
use Rattle.std.specs.Prelude.{ℕ, ◌+◌}

-- ---- the node and its neighbours

abbrev pub berth_count : ℕ
berth_count = 10

-- the area size A
abbrev pub least_area : ℕ
least_area = 8

abbrev pub largest_area : ℕ
largest_area = 4095

-- the block size BS
abbrev pub largest_block : ℕ
largest_block = 255

-- an STmin byte: milliseconds up to the first, fractions of one from the second to the third
abbrev pub most_millis : ℕ
most_millis = 0x7F

abbrev pub least_fraction : ℕ
least_fraction = 0xF1

abbrev pub most_fraction : ℕ
most_fraction = 0xF9

-- berth k sends on the first plus k, and the node sends to it on the second plus k
abbrev pub from_berth : ℕ
from_berth = 0x640

abbrev pub to_berth : ℕ
to_berth = 0x660

-- ---- what each side remembers

-- a timer that reaches this ends its side
abbrev pub timeout : ℕ
timeout = 1000

-- sequence numbers are below this
abbrev pub sn_count : ℕ
sn_count = 16

-- the longest gap, in ticks
abbrev pub longest_gap : ℕ
longest_gap = 128

-- ---- frames

abbrev pub single_kind : ℕ
single_kind = 0

abbrev pub first_kind : ℕ
first_kind = 1

abbrev pub consecutive_kind : ℕ
consecutive_kind = 2

abbrev pub flow_kind : ℕ
flow_kind = 3

-- a flow control's s
abbrev pub go_status : ℕ
go_status = 0

abbrev pub wait_status : ℕ
wait_status = 1

abbrev pub overflow_status : ℕ
overflow_status = 2

-- the bytes of a whole frame, and what fills it up
abbrev pub frame_size : ℕ
frame_size = 8

abbrev pub filler : ℕ
filler = 0xCC

-- the fewest bytes of a flow control frame
abbrev pub least_flow : ℕ
least_flow = 3

-- the most message bytes of a single frame, those of a first frame, the most of a consecutive frame
abbrev pub single_most : ℕ
single_most = 7

abbrev pub first_bytes : ℕ
first_bytes = 6

abbrev pub consecutive_most : ℕ
consecutive_most = 7

-- the shortest message that takes several frames
abbrev pub least_long : ℕ
least_long = single_most + 1

-- the longest length that a first frame can say in twelve bits
abbrev pub short_most : ℕ
short_most = 4095

-- ---- why a frame is ignored: I1 to I4

abbrev pub no_data : ℕ
no_data = 1

abbrev pub other_kind : ℕ
other_kind = 2

abbrev pub wrong_length : ℕ
wrong_length = 3

abbrev pub not_awaited : ℕ
not_awaited = 4

-- ---- report codes

abbrev pub N_OK : ℕ
N_OK = 1

abbrev pub N_TIMEOUT_A : ℕ
N_TIMEOUT_A = 2

abbrev pub N_TIMEOUT_Bs : ℕ
N_TIMEOUT_Bs = 3

abbrev pub N_TIMEOUT_Cr : ℕ
N_TIMEOUT_Cr = 4

abbrev pub N_WRONG_SN : ℕ
N_WRONG_SN = 5

abbrev pub N_INVALID_FS : ℕ
N_INVALID_FS = 6

abbrev pub N_UNEXP_PDU : ℕ
N_UNEXP_PDU = 7

abbrev pub N_BUFFER_OVFLW : ℕ
N_BUFFER_OVFLW = 9

-- ---- refusals 1 to 18: the most data bytes of a frame that comes in, the fewest bytes of a turn's buffer, and the numbers

abbrev pub most_data : ℕ
most_data = 8

abbrev pub least_buffer : ℕ
least_buffer = 8

abbrev pub out_of_order : ℕ
out_of_order = 1

abbrev pub wrong_store : ℕ
wrong_store = 2

abbrev pub wrong_identifier : ℕ
wrong_identifier = 3

abbrev pub too_many_bytes : ℕ
too_many_bytes = 4

abbrev pub no_such_berth : ℕ
no_such_berth = 5

abbrev pub empty_message : ℕ
empty_message = 6

abbrev pub message_too_long : ℕ
message_too_long = 7

abbrev pub already_sending : ℕ
already_sending = 8

abbrev pub short_buffer : ℕ
short_buffer = 9

abbrev pub bad_setting : ℕ
bad_setting = 10

-- no refusal has this number: that a byte would land outside its berth's area never comes
abbrev pub unused : ℕ
unused = 11

abbrev pub wrong_cards : ℕ
wrong_cards = 12

abbrev pub unknown_parameter : ℕ
unknown_parameter = 13

abbrev pub value_outside : ℕ
value_outside = 14

abbrev pub already_receiving : ℕ
already_receiving = 15

abbrev pub no_such_party : ℕ
no_such_party = 18

-- ---- the parameters that a change names, in the order of the standard's 8.3.5

abbrev pub stmin_parameter : ℕ
stmin_parameter = 0

abbrev pub block_parameter : ℕ
block_parameter = 1

-- ---- the parties that send: 0 scheduler, 1 laptop

abbrev pub the_scheduler : ℕ
the_scheduler = 0

abbrev pub the_laptop : ℕ
the_laptop = 1

-- ---- the cards: a count at its end freezes its card

abbrev pub most_count : ℕ
most_count = 4294967295
