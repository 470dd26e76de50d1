-- A record by its bytes: where one is read as a frame or a tick, each of its bytes is told, and so it is the record that is made of what was
-- read; and a record that is made is read as what it was made of.
use mathlib.Core.Path.{◌≡◌, refl, sym, ap, ◌∙◌}
use Prim.Native.Nat.{ℕ, zero, suc, ◌+◌, ◌-◌, ◌*◌, ◌/◌, ◌%◌, ◌≤◌, ◌<◌}
use native.Mathlib.Omega.{arith}
use mathlib.Core.Bool.{◌&&◌}
use mathlib.Core.List.{List, [], ◌∷◌, ◌++◌}
use lib.ListN.{length, get_or, take, drop, replicate, length-append, length-drop, length-replicate}
use lib.Seq.{take_all, drop-cons, length-take-le, drop-append-add, drop-append_seam}
use lib.Dec.{T, ltb, eqb}
use mir.Facts.{eqb_yes, ltb_no}
use Rattle.rules.specs.Tests.{each}
use Rattle.rules.proofs.Cases.{is_true, and_left, and_right, eqb_is, ltb-not, pick-either}
use Rattle.records.specs.Records.{zero_byte, unused_in, number_at, frame_in, send_in, record_of}
use Rattle.records.specs.Made.{frame_record, tick_record, turn_record}
use Rattle.records.specs.declared.record.Record.{Record}
use Rattle.records.specs.declared.record.BadRecord.{BadRecord}
use Rattle.std.specs.Prelude.{Result, Ok, Err}
use Rattle.candump.specs.Reading.{padded}
use Rattle.candump.specs.Files.{Bytes}
use Rattle.candump.proofs.Fits.{split_off}

-- ---- what a record that was read tells of its bytes

record FrameTold (d : List ℕ) (identifier long : ℕ) : Type 0 where
  sixteen : length d ≡ 16
  kind : get_or d 0 0 ≡ 1
  count : get_or d 4 0 ≡ long
  few : long ≤ 8
  number : number_at d 2 ≡ identifier
  first : T (unused_in d 1 2)
  middle : T (unused_in d 5 8)
  last : T (unused_in d (8 + long) 16)

record TickTold (d : List ℕ) : Type 0 where
  sixteen : length d ≡ 16
  kind : get_or d 0 0 ≡ 2
  rest : T (unused_in d 1 16)

abbrev Told : List ℕ → Result Record BadRecord → Type 0
Told d (Err bad) = Unit {0}
Told d (Ok (Record.Frame identifier long)) = FrameTold d identifier long
Told d (Ok Record.Tick) = TickTold d
Told d (Ok (Record.Send berth long first)) = Unit {0}
Told d (Ok Record.Turn) = Unit {0}

module _ (d : List ℕ) (sixteen : length d ≡ 16) where
  frame-told : get_or d 0 0 ≡ 1 → Told d (frame_in d)
  unfolding frame_in
  frame-told kind =
      pick-either (Told d) (ltb 8 (get_or d 4 0)) _ _ (λ u. tt)
      (λ u. pick-either (Told d) (unused_in d 1 2 && (unused_in d 5 8 && unused_in d (8 + get_or d 4 0) 16)) _ _
      (λ v.
      record {
        sixteen = sixteen;
        kind = kind;
        count = refl;
        few = ltb_no u;
        number = refl;
        first = and_left (unused_in d 1 2) _ v;
        middle = and_left (unused_in d 5 8) _ (and_right (unused_in d 1 2) _ v);
        last = and_right (unused_in d 5 8) _ (and_right (unused_in d 1 2) _ v);
      })
      (λ v. tt))

  send-told : Told d (send_in d)
  unfolding send_in
  send-told =
      pick-either (Told d) (ltb 1001 (number_at d 2)) _ _ (λ u. tt)
      (λ u. pick-either (Told d) (unused_in d 4 8 && unused_in d 9 16) _ _ (λ v. tt) (λ v. tt))

told : (d : List ℕ) → Told d (record_of d)
unfolding record_of
told d =
    pick-either (Told d) (eqb (length d) 16) _ _
    (λ h. pick-either (Told d) (eqb (get_or d 0 0) 1) _ _ (λ u. frame-told d (eqb_yes h) (eqb_yes u))
    (λ _. pick-either (Told d) (eqb (get_or d 0 0) 3) _ _ (λ _. send-told d (eqb_yes h))
    (λ _. pick-either (Told d) (unused_in d 1 16) _ _
    (λ v. pick-either (Told d) (eqb (get_or d 0 0) 2) _ _ (λ u. record { sixteen = eqb_yes h; kind = eqb_yes u; rest = v })
    (λ _. pick-either (Told d) (eqb (get_or d 0 0) 4) _ _ (λ _. tt) (λ _. tt)))
    (λ _. tt))))
    (λ _. tt)

-- ---- bytes that are zero

zeros-are : (l : List ℕ) → T (each zero_byte l) → l ≡ replicate (length l) 0
zeros-are [] t = refl
zeros-are (x ∷ l) t =
    let e : x ≡ 0 = eqb_yes (and_left (zero_byte x) (each zero_byte l) t) in
    rw e (ap (λ (r : List ℕ). 0 ∷ r) (zeros-are l (and_right (zero_byte x) (each zero_byte l) t)))

are-zeros : (n : ℕ) → T (each zero_byte (replicate n 0))
are-zeros zero = tt
are-zeros (suc n) = are-zeros n

-- from one place up to another, within the record
unused-zeros : (d : List ℕ) (from to : ℕ) → T (unused_in d from to) → to ≤ length d → take (to - from) (drop from d) ≡ replicate (to - from) 0
unfolding unused_in
unused-zeros d from to t h =
    zeros-are (take (to - from) (drop from d)) t
    ∙ ap (λ (n : ℕ). replicate n 0) (length-take-le (to - from) (drop from d) (rw length-drop (omega arith)))

byte_at : (d : List ℕ) (k : ℕ) → Bytes d → get_or d k 0 < 256
unfolding Bytes
byte_at [] k all = omega arith
byte_at (b ∷ d) zero (small, all) = small
byte_at (b ∷ d) (suc k) (small, all) = byte_at d k all

-- ---- a frame

module _ (d : List ℕ) (identifier long : ℕ) (small : Bytes d) where
  frame-parts : FrameTold d identifier long → (length (take long (drop 8 d)) ≡ long) × (d ≡ frame_record identifier long (padded (take long (drop 8 d))))
  unfolding frame_record padded number_at
  frame-parts f =
      let s = f.sixteen in
      let h = f.few in
      let n = f.number in
      let b2 = byte_at d 2 small in
      let b3 = byte_at d 3 small in
      let bytes = take long (drop 8 d) in
      let l : length bytes ≡ long = length-take-le long (drop 8 d) (rw length-drop (omega arith)) in
      let rest = drop (8 + long) d in
      let z1 : take 1 (drop 1 d) ≡ replicate 1 0 = unused-zeros d 1 2 f.first (omega arith) in
      let z5 : take 3 (drop 5 d) ≡ replicate 3 0 = unused-zeros d 5 8 f.middle (omega arith) in
      let left : 16 - (8 + long) ≡ 8 - long = omega arith in
      let z8 : rest ≡ replicate (8 - long) 0 =
      sym (take_all (16 - (8 + long)) rest (rw length-drop (omega arith)))
      ∙ unused-zeros d (8 + long) 16 f.last (omega arith)
      ∙ ap (λ (k : ℕ). replicate k 0) left in
      let c0 : d ≡ get_or d 0 0 ∷ drop 1 d = drop-cons d 0 0 (omega arith) in
      let c1 : drop 1 d ≡ 0 ∷ drop 2 d = rw z1 at (split_off d 1 1 2 refl) in
      let c2 : drop 2 d ≡ get_or d 2 0 ∷ drop 3 d = drop-cons d 2 0 (omega arith) in
      let c3 : drop 3 d ≡ get_or d 3 0 ∷ drop 4 d = drop-cons d 3 0 (omega arith) in
      let c4 : drop 4 d ≡ get_or d 4 0 ∷ drop 5 d = drop-cons d 4 0 (omega arith) in
      let c5 : drop 5 d ≡ 0 ∷ 0 ∷ 0 ∷ drop 8 d = rw z5 at (split_off d 5 3 8 refl) in
      let c8 : drop 8 d ≡ bytes ++ rest = split_off d 8 long (8 + long) refl in
      let high : identifier / 256 % 256 ≡ get_or d 2 0 = omega arith in
      let low : identifier % 256 ≡ get_or d 3 0 = omega arith in
      (l, rw (l, high, low) (cc (f.kind, f.count)))

-- WHERE A RECORD IS READ AS A FRAME it is the record of that frame, byte for byte, with zeros behind its data.
pub frame_back : (d : List ℕ) (identifier long : ℕ) → Bytes d → record_of d ≡ Ok (Record.Frame identifier long)
    → (long ≤ 8) × ((length (take long (drop 8 d)) ≡ long) × (d ≡ frame_record identifier long (padded (take long (drop 8 d)))))
frame_back d identifier long small e = let f : FrameTold d identifier long = rw e at (told d) in (f.few, frame-parts d identifier long small f)

-- AND A TICK'S RECORD is that of a tick.
pub tick-back : (d : List ℕ) → record_of d ≡ Ok Record.Tick → d ≡ tick_record
tick-back d e =
    let t : TickTold d = rw e at (told d) in
    let s = t.sixteen in
    let z : drop 1 d ≡ replicate 15 0 = sym (take_all 15 (drop 1 d) (rw length-drop (omega arith))) ∙ unused-zeros d 1 16 t.rest (omega arith) in
    let c : d ≡ get_or d 0 0 ∷ drop 1 d = drop-cons d 0 0 (omega arith) in
    c ∙ rw (t.kind, z)

-- A RECORD THAT IS MADE of a frame is read as that frame.
pub frame-there : (identifier : ℕ) (bytes : List ℕ) → identifier < 65536 → length bytes ≤ 8
    → record_of (frame_record identifier (length bytes) (padded bytes)) ≡ Ok (Record.Frame identifier (length bytes))
unfolding record_of frame_record padded frame_in unused_in number_at
frame-there identifier bytes low few =
    let zeros : List ℕ = replicate (8 - length bytes) 0 in
    let front : List ℕ = 1 ∷ 0 ∷ identifier / 256 % 256 ∷ identifier % 256 ∷ length bytes ∷ 0 ∷ 0 ∷ 0 ∷ [] in
    let long : length (front ++ (bytes ++ zeros)) ≡ 16 = rw (length-append bytes zeros, length-replicate) (omega arith) in
    let behind : drop (8 + length bytes) (front ++ (bytes ++ zeros)) ≡ zeros = drop-append-add front (bytes ++ zeros) (length bytes) ∙ drop-append_seam bytes zeros in
    let whole : take (16 - (8 + length bytes)) zeros ≡ zeros = take_all (16 - (8 + length bytes)) zeros (rw length-replicate (omega arith)) in
    let number : identifier / 256 % 256 * 256 + identifier % 256 ≡ identifier = omega arith in
    rw (
      eqb_is (length (front ++ (bytes ++ zeros))) 16 long,
      ltb-not 8 (length bytes) few,
      behind,
      whole,
      is_true (each zero_byte zeros) (are-zeros (8 - length bytes)),
      number,
    )

pub tick-there : record_of tick_record ≡ Ok Record.Tick
unfolding record_of unused_in
tick-there = refl

pub turn-there : record_of turn_record ≡ Ok Record.Turn
unfolding record_of unused_in
turn-there = refl
