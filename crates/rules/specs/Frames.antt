-- "Frames, by first byte": how a frame is read, how the node's own are laid out, sequence numbers, gaps, and
-- how a message is cut.
use Rattle.std.specs.Prelude.{ℕ, zero, suc, ◌+◌, ◌-◌, ◌*◌, ◌/◌, ◌%◌, min, Bool, not, ◌&&◌, ◌||◌, List, [], ◌∷◌, ◌++◌, length, get_or, take, drop, replicate, ltb, leb, eqb}
use Rattle.rules.specs.Tests.{pick}
use Rattle.rules.specs.Numbers.{sn_count, most_millis, least_fraction, most_fraction, frame_size, filler, least_flow, single_kind, first_kind, consecutive_kind, flow_kind, go_status, overflow_status, single_most, first_bytes, consecutive_most, largest_area, short_most}
use Rattle.rules.specs.declared.BerthSettings.{BerthSettings}
use Rattle.rules.specs.declared.Sn.{Sn}

-- ---- reading a frame

abbrev pub byte_at : List ℕ → ℕ → ℕ
byte_at d i = get_or d i 0

-- the two halves of the first byte
unfoldable pub kind : List ℕ → ℕ
kind d = byte_at d 0 / 16

unfoldable pub low : List ℕ → ℕ
low d = byte_at d 0 % 16

-- single: L is 1 to 7, and the data length is 8 or L + 1
unfoldable pub single_fits : List ℕ → Bool
single_fits d = leb 1 (low d) && (leb (low d) single_most && (eqb (length d) frame_size || eqb (length d) (low d + 1)))

-- first: h x 256 + second byte; if that is 0, a 32-bit length in bytes 2 to 5, high byte first
unfoldable pub short_length : List ℕ → ℕ
short_length d = low d * 256 + byte_at d 1

unfoldable pub escape_length : List ℕ → ℕ
escape_length d = ((byte_at d 2 * 256 + byte_at d 3) * 256 + byte_at d 4) * 256 + byte_at d 5

unfoldable pub announced : List ℕ → ℕ
announced d = pick (eqb (short_length d) 0) (escape_length d) (short_length d)

-- the data length is 8, the length is not 1 to 7, and an escape length is above 4,095
unfoldable pub first_fits : List ℕ → Bool
first_fits d =
    eqb (length d) frame_size
    && pick (eqb (short_length d) 0) (ltb short_most (escape_length d)) (ltb single_most (short_length d))

-- consecutive, with r bytes missing: the data length is 8, or r is at most 7 and it is r + 1
unfoldable pub consecutive_fits : ℕ → List ℕ → Bool
consecutive_fits r d = eqb (length d) frame_size || (leb r consecutive_most && eqb (length d) (r + 1))

-- flow control: the data length is 3 to 8
unfoldable pub flow_fits : List ℕ → Bool
flow_fits d = leb least_flow (length d) && leb (length d) frame_size

-- ---- the node's own frames are always 8 bytes, filled up with CC

unfoldable pub padded : List ℕ → List ℕ
padded s = s ++ replicate (frame_size - length s) filler

abbrev pub headed : ℕ → ℕ → List ℕ → List ℕ
headed k l s = padded ((k * 16 + l) ∷ s)

unfoldable pub single_frame : List ℕ → List ℕ
single_frame m = headed single_kind (length m) m

-- the first bytes of a message of n bytes
unfoldable pub first_frame : ℕ → List ℕ → List ℕ
first_frame n front = headed first_kind (n / 256) (n % 256 ∷ front)

unfoldable pub consecutive_frame : Sn → List ℕ → List ℕ
consecutive_frame sn piece = headed consecutive_kind sn.0 piece

-- go is 30, BS, STmin, the berth's own; overflow is 32 00 00
unfoldable pub go_frame : BerthSettings → List ℕ
go_frame s = headed flow_kind go_status (s.block ∷ s.stmin ∷ [])

unfoldable pub overflow_frame : List ℕ
overflow_frame = headed flow_kind overflow_status (0 ∷ 0 ∷ [])

-- ---- sequence numbers: the first consecutive frame has SN 1; after 15 comes 0

abbrev pub first_sn : Sn
first_sn = record { 0 = 1 }

unfoldable pub next_sn : Sn → Sn
next_sn sn = record { 0 = (sn.0 + 1) % sn_count }

-- ---- blocks

-- one more frame in a block of a size, which counts nothing if that is 0
unfoldable pub counted : ℕ → ℕ → ℕ
counted block n = pick (eqb block 0) 0 (n + 1)

-- one more frame fills the block
unfoldable pub fills_block : ℕ → ℕ → Bool
fills_block block n = not (eqb block 0) && eqb (n + 1) block

-- ---- gaps

-- a peer's STmin 00 to 7F means so many ticks, F1 to F9 one tick, any other value 127
unfoldable pub ticks_meant : ℕ → ℕ
ticks_meant stmin = pick (leb stmin most_millis) stmin (pick (leb least_fraction stmin && leb stmin most_fraction) 1 most_millis)

-- a gap of n ticks above 0 becomes n + 1, and 0 stays 0: the first tick can fall right behind the hand-over
unfoldable pub gap_of : ℕ → ℕ
gap_of stmin = pick (eqb (ticks_meant stmin) 0) 0 (ticks_meant stmin + 1)

-- ---- how a message is cut, over the most bytes of a single frame, those of a first frame, and the most of a consecutive one

-- the bytes that the next frame takes of r
unfoldable pub share : ℕ → ℕ → ℕ
share most r = min most r

abbrev pub rounded_up : ℕ → ℕ → ℕ
rounded_up n most = (n + (most - 1)) / most

-- 1 for what a single frame holds, and 1 plus the rest in consecutive frames, rounded up, for up to `longest`; 0 for any other
unfoldable pub needed : (single first next longest : ℕ) → ℕ → ℕ
needed single first next longest n =
    pick (leb 1 n && leb n single) 1 (pick (ltb single n && leb n longest) (1 + rounded_up (n - first) next) 0)

-- the consecutive frames of what is left, from an SN on; at most `most` of them
unfoldable pub cut_rest : (next : ℕ) → (most : ℕ) → Sn → List ℕ → List (List ℕ)
cut_rest next zero sn m = []
cut_rest next (suc most) sn [] = []
cut_rest next (suc most) sn (x ∷ m) =
    consecutive_frame sn (take next (x ∷ m)) ∷ cut_rest next most (next_sn sn) (drop next (x ∷ m))

-- all frames of a message
unfoldable pub cut : (single first next : ℕ) → List ℕ → List (List ℕ)
cut single first next m =
    pick (leb (length m) single) (single_frame m ∷ [])
    (first_frame (length m) (take first m) ∷ cut_rest next (length m) first_sn (drop first m))

-- the frames needed for a length, and the frames of a message
unfoldable pub frames_needed : ℕ → ℕ
frames_needed n = needed single_most first_bytes consecutive_most largest_area n

unfoldable pub frames_of : List ℕ → List (List ℕ)
frames_of m = cut single_most first_bytes consecutive_most m
