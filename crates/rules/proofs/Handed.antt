-- Every frame handed over has eight bytes and the identifier 660 hex + k, and never the first byte 31: the node never sends WAIT. Its kind
-- is that of the side and of the message's frame that was due.
use mathlib.Core.Path.{◌≡◌, refl, sym, ◌∙◌}
use Prim.Native.Nat.{ℕ, zero, suc, ◌+◌, ◌-◌, ◌*◌, ◌/◌, ◌%◌, ◌≤◌, ◌<◌, min}
use native.Mathlib.Omega.{arith}
use mathlib.Core.Bool.{Bool, true, false, not}
use mathlib.Core.Logic.{⊎_elim}
use mathlib.Core.List.{List, [], ◌∷◌}
use lib.ListN.{length, take, drop, replicate, length-take, length-append, length-replicate}
use lib.Dec.{T, ltb}
use Rattle.rules.specs.Tests.{unless}
use Rattle.rules.specs.Numbers.{berth_count, to_berth, filler, first_bytes, consecutive_most, short_most, single_kind, first_kind, consecutive_kind, flow_kind}
use Rattle.rules.specs.Nodes.{berth_at, Held}
use Rattle.rules.specs.Ranges.{AreaRange, TxRange, BerthRange, InOrder}
use Rattle.rules.specs.Frames.{kind, padded, headed, single_frame, first_frame, consecutive_frame, go_frame, overflow_frame, share}
use Rattle.rules.specs.Turns.{flow_due, message_due, due, flow_frame, to_go, message_frame, HandedOver, hand_over}
use Rattle.rules.specs.Stores.{passed_over, reached, handed_at}
use Rattle.rules.specs.Answers.{handed, none}
use Rattle.rules.specs.Events.{Call}
use Rattle.rules.specs.Refusals.{refusal}
use Rattle.rules.specs.Calls.{reply, done, written, refused_outcome, outcome}
use Rattle.rules.specs.Handing.{Fit}
use Rattle.rules.specs.declared.Party.{Party}
use Rattle.rules.specs.declared.Settings.{Settings}
use Rattle.rules.specs.declared.BerthSettings.{BerthSettings}
use Rattle.rules.specs.declared.Rx.{Rx}
use Rattle.rules.specs.declared.Tx.{Tx}
use Rattle.rules.specs.declared.Berth.{Berth}
use Rattle.rules.proofs.Cases.{or_cases, pick-either, Tested, holds, fails, ltb-cases}
use Rattle.rules.proofs.Answered.{turn-answered}
use Rattle.rules.proofs.Ranges.{in-order-range}
use Rattle.rules.proofs.Order.{reached-small}
use Rattle.rules.proofs.Round.{reached-due}

-- ---- the kind of the frame that is due says which side's it is, and which frame of a message

pub flow-kind : (s : BerthSettings) (rx : Rx) → T (flow_due rx) → kind (flow_frame s rx) ≡ flow_kind
unfolding go_frame overflow_frame padded kind
flow-kind s Rx.Idle t = absurd t
flow-kind s (Rx.OwesOverflow u) t = refl
flow-kind s (Rx.OwesGo p u) t = refl
flow-kind s (Rx.Awaits p u) t = absurd t

-- where none is due any number does
abbrev pub due_kind : Tx → ℕ
due_kind Tx.Idle = single_kind
due_kind (Tx.SingleDue party n u) = single_kind
due_kind (Tx.FirstDue party n u) = first_kind
due_kind (Tx.AwaitsFlow party o u) = consecutive_kind
due_kind (Tx.Consecutive party o u) = consecutive_kind

pub message-kind : (s : Settings) (tx : Tx) (area : List ℕ) → s.area ≤ short_most → TxRange s tx → T (message_due tx)
    → kind (message_frame tx area) ≡ due_kind tx
unfolding single_frame first_frame consecutive_frame padded kind
message-kind s Tx.Idle area a r t = absurd t
message-kind s (Tx.SingleDue party n u) area a r t = omega (arith, r.0, r.1, length-take n area)
message-kind s (Tx.FirstDue party n u) area a r t = omega (arith, r.1)
message-kind s (Tx.AwaitsFlow party o u) area a r t = absurd t
message-kind s (Tx.Consecutive party o u) area a r t = omega (arith, r.0.sn-most)

-- ---- eight bytes, and never 31

headed-fit : (k l : ℕ) (s : List ℕ) → length s ≤ 7 → (k * 16 + l ≡ 0x31 → ⊥) → Fit (headed k l s)
unfolding padded
headed-fit k l s h ne =
    record {
      eight = length-append ((k * 16 + l) ∷ s) (replicate (8 - suc (length s)) filler) ∙ omega (arith, length-replicate (8 - suc (length s)) filler);
      no-wait = ne;
    }

flow-fit : (s : BerthSettings) (rx : Rx) → T (flow_due rx) → Fit (flow_frame s rx)
unfolding go_frame overflow_frame
flow-fit s Rx.Idle t = absurd t
flow-fit s (Rx.OwesOverflow u) t = headed-fit 3 2 (0 ∷ 0 ∷ []) (omega arith) (λ e. omega arith)
flow-fit s (Rx.OwesGo p u) t = headed-fit 3 0 (s.block ∷ s.stmin ∷ []) (omega arith) (λ e. omega arith)
flow-fit s (Rx.Awaits p u) t = absurd t

module _ (s : Settings) (sr : AreaRange s.area) where
  message-fit : (tx : Tx) (area : List ℕ) → TxRange s tx → T (message_due tx) → Fit (message_frame tx area)
  unfolding single_frame first_frame consecutive_frame share
  message-fit Tx.Idle area r t = absurd t
  message-fit (Tx.SingleDue party n u) area r t =
      let l = length-take n area in
      let m = r.1 in
      headed-fit 0 (length (take n area)) (take n area) (omega arith) (λ e. omega arith)
  message-fit (Tx.FirstDue party n u) area r t =
      let l = length-take first_bytes area in
      let m = r.1 in
      let a = sr.area-most in
      headed-fit 1 (n / 256) (n % 256 ∷ take first_bytes area) (omega arith) (λ e. omega arith)
  message-fit (Tx.AwaitsFlow party o u) area r t = absurd t
  message-fit (Tx.Consecutive party o u) area r t =
      let l = length-take (min consecutive_most (to_go o)) (drop o.position area) in
      let m = r.0.sn-most in
      headed-fit 2 o.sn.0 (take (min consecutive_most (to_go o)) (drop o.position area)) (omega arith) (λ e. omega arith)

  pub hand-over-fit : (b : Berth) (area : List ℕ) → BerthRange s b → T (due b) → Fit (hand_over b area).frame
  unfolding hand_over due
  hand-over-fit b area r t =
      pick-either (λ (g : HandedOver). Fit g.frame) (flow_due b.rx) _ _ (λ u. flow-fit b.settings b.rx u)
      (λ u. message-fit b.tx area r.send (⊎_elim (λ v. absurd (neither (flow_due b.rx) u v)) (λ v. v) (or_cases (flow_due b.rx) _ t)))
    where
      neither : (x : Bool) → T (not x) → T x → ⊥
      neither true n y = n
      neither false n y = y

due-fit : (h : Held) → InOrder h.node → passed_over h.node < berth_count → Fit (handed_at h (reached h.node)).frame
unfolding handed_at
due-fit h o l =
    let k = reached h.node in
    hand-over-fit h.node.settings o.settings (berth_at h.node k) _ (o.berth k (reached-small h.node)) (reached-due h.node o l).0

-- EVERY FRAME HANDED OVER: eight bytes, identifier 660 hex + k for a berth k of the ten, never the first byte 31
pub handed-fit : (h : Held) (buffer : List ℕ) (id : ℕ) (f : List ℕ) (code passed : ℕ) (party : Party)
    → (outcome h (Call.turn buffer)).answer ≡ handed id f code passed party
    → Fit f × (id ≡ to_berth + reached h.node) × (reached h.node < berth_count)
unfolding outcome refused_outcome reply
handed-fit h buffer id f code passed party = go (refusal h (Call.turn buffer)) refl
  where
    answered : InOrder h.node → Tested (ltb (passed_over h.node) berth_count) (passed_over h.node < berth_count) (berth_count ≤ passed_over h.node)
        → reply h (Call.turn buffer) ≡ handed id f code passed party
        → Fit f × (id ≡ to_berth + reached h.node) × (reached h.node < berth_count)
    answered o (holds t l) e =
        let k = reached h.node in
        let g : handed (to_berth + k) (handed_at h k).frame (handed_at h k).code (passed_over h.node) (handed_at h k).party ≡ handed id f code passed party = rw t at e in
        let same : (handed_at h k).frame ≡ f = cc in
        let known : to_berth + k ≡ id = cc in
        (rw same at (due-fit h o l), sym known, reached-small h.node)
    answered o (fails t l) e =
        let g : none berth_count ≡ handed id f code passed party = rw t at e in
        let x : ◌≡◌ {A = ℕ} 0 1 = cc in
        absurd (omega arith)

    go : (n : ℕ) → refusal h (Call.turn buffer) ≡ n
        → (unless n (refused_outcome h buffer) (record { answer = reply h (Call.turn buffer); held = done h (Call.turn buffer); buffer = written h (Call.turn buffer) })).answer ≡ handed id f code passed party
        → Fit f × (id ≡ to_berth + reached h.node) × (reached h.node < berth_count)
    go zero z e = answered (in-order-range h.node (turn-answered h buffer z).order) (ltb-cases (passed_over h.node) berth_count) e
    go (suc n) z e = let x : ◌≡◌ {A = ℕ} 0 1 = cc in absurd (omega arith)
