-- What `read` finds in sixteen bytes, and the records that `check` takes of a file.
use mathlib.Core.Path.{◌≡◌, refl, sym, ap, ◌∙◌}
use Prim.Native.Nat.{ℕ, suc, ◌+◌, ◌-◌, ◌/◌, ◌≤◌, ◌<◌}
use native.Mathlib.Omega.{arith}
use mathlib.Core.Bool.{true, false, ◌&&◌}
use mathlib.Core.List.{List, [], ◌∷◌, ◌++◌}
use lib.ListN.{length, get_or, take, drop}
use Rattle.std.proofs.Common.{get_or-take, take_all, length-take, length-drop, length-append, append-nil, min}
use Rattle.std.specs.Prelude.{slice_range}
use Rattle.std.proofs.lemmas.List.{nil_from_length, take_rest, take-append-le}
use lib.Seq.{drop-append_seam}
use lib.Seq.{drop-cons}
use Rattle.std.specs.Array.{IsFirstChunk}
use Rattle.std.specs.Int.{w16, w64, from_be_bytes}
use lib.Dec.{eqb}
use Rattle.rules.proofs.Cases.{leb-is, split}
use Rattle.journal.specs.Numbers.{number_of}
use Rattle.journal.specs.Records.{within, entry_in, accepts, refused_paper, record_count, checks_from}
use Rattle.journal.specs.declared.Entry.{Entry}
use Rattle.journal.proofs.Records.{accepted}
use Rattle.journal.proofs.Widths.{number_of_two, number_of_eight}

-- the parts of a record that are numbers of more than a byte
part_two : (d : List ℕ) → 16 ≤ length d → take 2 (drop 4 d) ≡ get_or d 4 0 ∷ get_or d 5 0 ∷ []
part_two d h = rw (drop-cons d 4 0 (omega arith), drop-cons d 5 0 (omega arith)) refl

part_eight : (d : List ℕ) → 16 ≤ length d
    → take 8 (drop 8 d) ≡ get_or d 8 0 ∷ get_or d 9 0 ∷ get_or d 10 0 ∷ get_or d 11 0 ∷ get_or d 12 0 ∷ get_or d 13 0 ∷ get_or d 14 0 ∷ get_or d 15 0 ∷ []
part_eight d h =
    rw (drop-cons d 8 0 (omega arith), drop-cons d 9 0 (omega arith), drop-cons d 10 0 (omega arith), drop-cons d 11 0 (omega arith), drop-cons d 12 0 (omega arith), drop-cons d 13 0 (omega arith), drop-cons d 14 0 (omega arith), drop-cons d 15 0 (omega arith)) refl

-- the entry as `read` makes it, of the bytes and of the eight of its tick count
abbrev pub made_of : (d tick : List ℕ) → Entry
made_of d tick =
    record {
      kind = get_or d 0 0;
      berth = get_or d 1 0;
      code = get_or d 2 0;
      length = from_be_bytes w16 (get_or d 4 0 ∷ get_or d 5 0 ∷ []);
      tick = from_be_bytes w64 tick;
    }

-- the eight are the first of those behind the eighth
module _ (d tick : List ℕ) (behind : IsFirstChunk (slice_range d 8 (length d)) tick 8) where
  long : 16 ≤ length d
  long = omega (arith, length-drop 8 d, rw (take_rest d 8) at behind.enough)

  same : tick ≡ take 8 (drop 8 d)
  same = rw (take_rest d 8) at behind.same

  pub entry_here : entry_in d ≡ made_of d tick
  unfolding entry_in
  entry_here =
      let length-here = ap number_of (part_two d long) ∙ sym (number_of_two (get_or d 4 0) (get_or d 5 0)) in
      let eight = part_eight d long in
      let tick-here =
      ap number_of eight
      ∙ sym (number_of_eight (get_or d 8 0) (get_or d 9 0) (get_or d 10 0) (get_or d 11 0) (get_or d 12 0) (get_or d 13 0) (get_or d 14 0) (get_or d 15 0))
      ∙ ap (from_be_bytes w64) (sym (same ∙ eight)) in
      λ i. record { kind = get_or d 0 0; berth = get_or d 1 0; code = get_or d 2 0; length = length-here i; tick = tick-here i }

  pub accepts_here : accepts d ≡ (eqb (get_or d 3 0) 0 && (eqb (get_or d 6 0) 0 && (eqb (get_or d 7 0) 0 && within (made_of d tick))))
  unfolding accepts
  accepts_here = rw (leb-is 16 (length d) long, entry_here) refl

-- ---- the records of a file, as `chunks` gives them

-- of some bytes the first sixteen are asked, or all where they are fewer
accepts_first : (d : List ℕ) → 16 ≤ length d → accepts (take 16 d) ≡ accepts d
unfolding accepts entry_in
accepts_first d h =
    let e = take 16 d in
    let k : 16 ≤ length e = omega (arith, length-take 16 d) in
    let at : (i : ℕ) → i < 16 → get_or e i 0 ≡ get_or d i 0 = λ i small. get_or-take 16 d i 0 small in
    rw (leb-is 16 (length d) h, leb-is 16 (length e) k, part_two d h, part_two e k, part_eight d h, part_eight e k, at 0 (omega arith), at 1 (omega arith), at 2 (omega arith), at 3 (omega arith), at 4 (omega arith), at 5 (omega arith), at 6 (omega arith), at 7 (omega arith), at 8 (omega arith), at 9 (omega arith), at 10 (omega arith), at 11 (omega arith), at 12 (omega arith), at 13 (omega arith), at 14 (omega arith), at 15 (omega arith))
    refl

accepts_chunk : (d : List ℕ) → accepts (take 16 d) ≡ accepts d
accepts_chunk d = split (length d) 16 (λ few. ap accepts (take_all 16 d few)) (λ more. accepts_first d (omega arith))

module _ (rest chunk behind : List ℕ) (parts : rest ≡ chunk ++ behind) (size : length chunk ≡ min 16 (length rest)) where
  pub first_chunk : take 16 rest ≡ chunk
  first_chunk = split (length rest) 16
      (λ few.
      let none : behind ≡ [] = nil_from_length behind (omega (arith, ap length parts, length-append chunk behind)) in
      take_all 16 rest few ∙ parts ∙ rw none (append-nil chunk))
      (λ more. rw (parts, take-append-le 16 chunk behind (omega arith)) (take_all 16 chunk (omega arith)))

  pub chunk_good : (good : ℕ) → accepts chunk ≡ true → (length behind + 16 ≡ length rest) × (checks_from (record_count behind) (good + 1) behind ≡ checks_from (record_count rest) good rest)
  unfolding checks_from
  chunk_good good e =
      let here : accepts rest ≡ true = sym (accepts_chunk rest) ∙ ap accepts first_chunk ∙ e in
      let whole : 16 ≤ length chunk = (accepted chunk e).long in
      let long : length behind + 16 ≡ length rest = omega (arith, ap length parts, length-append chunk behind) in
      let n : (length rest + 15) / 16 ≡ suc ((length behind + 15) / 16) = omega arith in
      let b : drop 16 rest ≡ behind = rw parts (ap (λ (k : ℕ). drop k (chunk ++ behind)) whole-size ∙ drop-append_seam chunk behind) in
      (long, rw (n, here, b) refl)
    where
      whole-size : 16 ≡ length chunk
      whole-size = omega (arith, (accepted chunk e).long)

  pub chunk_bad : (good : ℕ) → 0 < length rest → accepts chunk ≡ false → checks_from (record_count rest) good rest ≡ refused_paper (good + 1)
  unfolding checks_from
  chunk_bad good some e =
      let here : accepts rest ≡ false = sym (accepts_chunk rest) ∙ ap accepts first_chunk ∙ e in
      let n : (length rest + 15) / 16 ≡ suc ((length rest - 1) / 16) = omega arith in
      rw (n, here) refl
