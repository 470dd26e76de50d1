-- What a record that was read tells of its bytes: a frame's data lie within them, and a message is no longer than the longest.
use Rattle.std.proofs.Common.{◌≡◌, ℕ, ◌+◌, ◌≤◌, Bool, true, false, ◌&&◌, eqb, ltb, List, Result, Ok, Err, length, get_or, refl, ltb-false, eqb-true}
use Rattle.rules.specs.Tests.{pick}
use Rattle.records.specs.Records.{unused_in, number_at, frame_in, send_in, record_of}
use Rattle.records.specs.declared.record.Record.{Record}
use Rattle.records.specs.declared.record.Record.TheVariants.{Frame, Tick, Send, Turn}
use Rattle.records.specs.declared.record.BadRecord.{BadRecord}

abbrev pub Told : List ℕ → Result Record BadRecord → Type 0
Told d (Err bad) = Unit {0}
Told d (Ok (Frame identifier long)) = (length d ≡ 16) × (long ≤ 8)
Told d (Ok Tick) = Unit {0}
Told d (Ok (Send berth long first)) = long ≤ 1001
Told d (Ok Turn) = Unit {0}

module _ (d : List ℕ) where
  picked : (t : Bool) (x y : Result Record BadRecord) → (t ≡ true → Told d x) → (t ≡ false → Told d y) → Told d (pick t x y)
  picked true x y f g = f refl
  picked false x y f g = g refl

  frame-told : length d ≡ 16 → Told d (frame_in d)
  unfolding frame_in
  frame-told h =
      picked (ltb 8 (get_or d 4 0)) _ _ (λ _. tt)
      (λ e. picked (unused_in d 1 2 && (unused_in d 5 8 && unused_in d (8 + get_or d 4 0) 16)) _ _ (λ _. (h, ltb-false 8 (get_or d 4 0) e)) (λ _. tt))

  send-told : Told d (send_in d)
  unfolding send_in
  send-told =
      picked (ltb 1001 (number_at d 2)) _ _ (λ _. tt)
      (λ e. picked (unused_in d 4 8 && unused_in d 9 16) _ _ (λ _. ltb-false 1001 (number_at d 2) e) (λ _. tt))

  pub record-told : Told d (record_of d)
  unfolding record_of
  record-told =
      picked (eqb (length d) 16) _ _
      (λ h. picked (eqb (get_or d 0 0) 1) _ _ (λ _. frame-told (eqb-true (length d) 16 h))
      (λ _. picked (eqb (get_or d 0 0) 3) _ _ (λ _. send-told)
      (λ _. picked (unused_in d 1 16) _ _
      (λ _. picked (eqb (get_or d 0 0) 2) _ _ (λ _. tt) (λ _. picked (eqb (get_or d 0 0) 4) _ _ (λ _. tt) (λ _. tt)))
      (λ _. tt))))
      (λ _. tt)
