-- What the words say of the engine's own frames: the length of a single and of a first frame, the SN of a consecutive one, the settings of
-- flow control. None is another frame.
use mathlib.Core.Path.{◌≡◌, refl}
use Prim.Native.Nat.{ℕ, ◌+◌, ◌*◌, ◌/◌, ◌%◌, ◌≤◌, ◌<◌}
use native.Mathlib.Omega.{arith}
use mathlib.Core.List.{List, ◌++◌}
use lib.ListN.{length}
use Rattle.rules.specs.Numbers.{sn_count, single_most, short_most}
use Rattle.rules.specs.Frames.{padded, single_frame, first_frame, consecutive_frame, go_frame}
use Rattle.rules.specs.declared.BerthSettings.{BerthSettings}
use Rattle.rules.specs.declared.Sn.{Sn}
use Rattle.rules.proofs.Cases.{eqb_is, eqb-not}
use Rattle.text.specs.Building.{decimal, small_places, size_places}
use Rattle.plain_ladder.specs.Line.{single_word, first_word, consecutive_word, flow_words, frame_words, words_of}

pub single-words : (m : List ℕ) → length m ≤ single_most → words_of (single_frame m) ≡ single_word ++ decimal small_places (length m)
unfolding frame_words single_frame padded
single-words m h =
    let b = 0 * 16 + length m in
    let low : b % 16 ≡ length m = omega arith in
    rw (eqb_is (b / 16) 0 (omega arith), low)

pub first-words : (n : ℕ) (front : List ℕ) → n ≤ short_most → words_of (first_frame n front) ≡ first_word ++ decimal size_places n
unfolding frame_words first_frame padded
first-words n front h =
    let b = 1 * 16 + n / 256 in
    let whole : b % 16 * 256 + n % 256 ≡ n = omega arith in
    rw (eqb-not (b / 16) 0 (omega arith), eqb_is (b / 16) 1 (omega arith), whole)

pub consecutive-words : (sn : Sn) (piece : List ℕ) → sn.0 < sn_count → words_of (consecutive_frame sn piece) ≡ consecutive_word ++ decimal small_places sn.0
unfolding frame_words consecutive_frame padded
consecutive-words sn piece h =
    let b = 2 * 16 + sn.0 in
    let low : b % 16 ≡ sn.0 = omega arith in
    rw (eqb-not (b / 16) 0 (omega arith), eqb-not (b / 16) 1 (omega arith), eqb_is (b / 16) 2 (omega arith), low)

pub go-words : (s : BerthSettings) → words_of (go_frame s) ≡ flow_words s.block s.stmin
unfolding frame_words go_frame padded
go-words s = refl
