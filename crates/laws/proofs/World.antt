-- THE LINE'S LAW over two nodes. Every deed that keeps apart is, for the two sides and the line between them, nothing, a tick, a
-- hand-over, a change of the taker's settings while no reception is under way, or a frame that comes in; so a transfer goes from phase
-- to phase, and at rest only the last is left.
use mathlib.Core.Path.{◌≡◌, refl, sym, ap, ap₂, ◌∙◌, subst}
use Prim.Native.Nat.{ℕ, ◌+◌, ◌≤◌, ◌<◌}
use native.Mathlib.Omega.{arith}
use native.Mathlib.Nat.{zero-add}
use mathlib.Core.Bool.{true, false, not}
use mathlib.Core.List.{List, [], ◌∷◌, ◌++◌, map, append-nil}
use mathlib.Core.Logic.{⊎_elim}
use lib.ListN.{length, take}
use lib.Seq.{sets, length-sets}
use lib.Dec.{T}
use mir.Facts.{yes_eqb, yes_leb, yes_ltb}
use Rattle.rules.specs.Numbers.{berth_count, from_berth, most_data, flow_kind, short_most, the_laptop}
use Rattle.rules.specs.Parties.{scheduler}
use Rattle.rules.specs.Nodes.{fresh, with_tx, berth_at, Held}
use Rattle.rules.specs.Ranges.{in_order}
use Rattle.rules.specs.Frames.{kind, frames_of}
use Rattle.rules.specs.Arrivals.{Came, frame_came}
use Rattle.rules.specs.Ticks.{rx_ticked, rx_code, tx_ticked, tx_code, tx_party, ticked}
use Rattle.rules.specs.Turns.{flow_due, message_due, due, flow_frame, after_flow, message_frame, message_code, message_party, after_message, hand_over, begins_with, sent as sent_berth, busy}
use Rattle.rules.specs.Changes.{changed as changed_berth}
use Rattle.rules.specs.Stores.{right_store, area_of}
use Rattle.rules.specs.Cards.{under_way}
use Rattle.rules.specs.Answers.{receive, send as send_side, Report, reported, word_reports, reports}
use Rattle.rules.specs.Events.{Call, frame, send, arrives, ticks, sends, turns, changes}
use Rattle.rules.specs.Refusals.{needs, refusal, set_up_refusal}
use Rattle.rules.specs.Calls.{refused_outcome, outcome}
use Rattle.rules.specs.Alone.{Part, part_of, hears, state_after, part_after, says, alone}
use Rattle.rules.specs.Clocks.{tick_code}
use Rattle.rules.specs.declared.Settings.{Settings}
use Rattle.rules.specs.declared.BerthSettings.{BerthSettings}
use Rattle.rules.specs.declared.Choice.{Choice}
use Rattle.rules.specs.declared.Party.{Party}
use Rattle.rules.specs.declared.Rx.{Rx}
use Rattle.rules.specs.declared.Tx.{Tx}
use Rattle.rules.specs.declared.Berth.{Berth}
use Rattle.rules.proofs.Areas.{area-length}
use Rattle.rules.proofs.Cases.{is_true, eqb_is, eqb-not, or_cases}
use Rattle.rules.proofs.Ranges.{range-in-order}
use Rattle.rules.proofs.Facts.{set-up-refusal-leaves}
use Rattle.laws.specs.Own.{over, only, of_berth, own_done, own, says_of, said_reports, part_shown, Sound}
use Rattle.laws.specs.Sides.{side_of, frame_side, of_side, handed_in, frames_by}
use Rattle.laws.specs.Line.{Handed, there, back, World, end_a, end_b, reports_by, delivered_in, begun_in, left_a, left_b, call_a, call_b, carried_a, carried_b, Deed, at_a, at_b, set_up_a, set_up_b, carry_a, carry_b, acts, living, Spares, Apart, AllApart, AtRest, exchanged, there_of, back_of, begin, MayBegin, agreed, Arrived}
use Rattle.laws.proofs.Isolation.{settings-step, part_step}
use Rattle.laws.proofs.Reports.{berth-shown}
use Rattle.laws.proofs.SetUp.{sound-step}
use Rattle.laws.proofs.Touch.{Neither, SparedBy, TickOf, TurnOf, ChangeOf, TouchedBy, spared, clocked, turned, changed, whole-heard, touch, carry, said-carried, neither-said, own_is, all-met}
use Rattle.laws.proofs.Frames.{extended}
use Rattle.laws.proofs.Exchanged.{there-exchanged, back-exchanged}
use Rattle.laws.proofs.Line.{Line, at_sender, at_taker, Phase, under-way, hand_s, hand_r, tick_s, tick_r, change_r, took_r, took_s, taker_berth, sender_berth, ticks-S, ticks-R, changes-R, hands-S, hands-R, carries-S, carries-R, there-whole, back_whole, starts, Landed, at_rest}

-- the two sides and the line between them
unfoldable pub line_in : (i j : ℕ) → World → Line
line_in i j w =
    record {
      tx = (berth_at w.a.node i).tx;
      to_r = w.to_b;
      to_s = w.to_a;
      log = w.log;
      said = w.said;
      own = (berth_at w.b.node j).settings;
      rx = (berth_at w.b.node j).rx;
      last = (berth_at w.b.node j).last;
      ina = (part_of j w.b).incoming;
      heard = w.heard;
      begun = w.begun;
      delivered = w.delivered;
    }

-- the line with the sender's end moved on, and with the taker's
unfoldable from_a : Line → Tx → List (List ℕ) → List Report → Line
from_a l tx fs rs = at_sender l tx (l.to_r ++ fs) l.to_s (l.log ++ map there fs) (l.said ++ rs)

unfoldable from_b : Line → BerthSettings → Rx → ℕ → List ℕ → List (List ℕ) → List Report → List BerthSettings → List ℕ → Line
from_b l own rx last ina fs rs bs ds =
    at_taker l own rx last ina l.to_r (l.to_s ++ fs) (l.log ++ map back fs) (l.heard ++ rs) (l.begun ++ bs) (l.delivered ++ ds)

path-A : (l : Line) {tx tx' : Tx} {fs fs' : List (List ℕ)} {rs rs' : List Report} → tx ≡ tx' → fs ≡ fs' → rs ≡ rs' → from_a l tx fs rs ≡ from_a l tx' fs' rs'
path-A l p q r = λ i. from_a l (p i) (q i) (r i)

path-B : (l : Line) {own own' : BerthSettings} {rx rx' : Rx} {last last' : ℕ} {ina ina' : List ℕ} {fs fs' : List (List ℕ)} {rs rs' : List Report} {bs bs' : List BerthSettings} {ds ds' : List ℕ}
    → own ≡ own' → rx ≡ rx' → last ≡ last' → ina ≡ ina' → fs ≡ fs' → rs ≡ rs' → bs ≡ bs' → ds ≡ ds'
    → from_b l own rx last ina fs rs bs ds ≡ from_b l own' rx' last' ina' fs' rs' bs' ds'
path-B l o p q r s t u v = λ i. from_b l (o i) (p i) (q i) (r i) (s i) (t i) (u i) (v i)

-- no frame and no report: only the side has moved
only-A : (l : Line) (tx : Tx) → from_a l tx [] [] ≡ at_sender l tx l.to_r l.to_s l.log l.said
unfolding from_a
only-A l tx = λ i. at_sender l tx (append-nil l.to_r i) l.to_s (append-nil l.log i) (append-nil l.said i)

only-B : (l : Line) (own : BerthSettings) (rx : Rx) (last : ℕ) (ina : List ℕ) → from_b l own rx last ina [] [] [] []
    ≡ at_taker l own rx last ina l.to_r l.to_s l.log l.heard l.begun l.delivered
unfolding from_b
only-B l own rx last ina =
    λ i. at_taker l own rx last ina l.to_r (append-nil l.to_s i) (append-nil l.log i) (append-nil l.heard i) (append-nil l.begun i) (append-nil l.delivered i)

-- flow control, and no report
flow-B : (l : Line) (rx : Rx) (f : List ℕ) → from_b l l.own rx l.last l.ina (f ∷ []) [] [] []
    ≡ at_taker l l.own rx l.last l.ina l.to_r (l.to_s ++ (f ∷ [])) (l.log ++ (back f ∷ [])) l.heard l.begun l.delivered
unfolding from_b
flow-B l rx f =
    λ i. at_taker l l.own rx l.last l.ina l.to_r (l.to_s ++ (f ∷ [])) (l.log ++ (back f ∷ [])) (append-nil l.heard i) (append-nil l.begun i) (append-nil l.delivered i)

module _ (i j : ℕ) (small-i : i < berth_count) (small-j : j < berth_count) (set : Settings) (party : Party) (n : ℕ) (out : List ℕ) (E : BerthSettings → List Handed) where
  -- ---- what a step is for the line

  data StepS (l l' : Line) : Type 0 where
    idle-S : l' ≡ l → StepS l l'
    tick-S : tx_code l.tx ≡ 0 → l' ≡ tick_s i j set party n out E l → StepS l l'
    hand-S : T (message_due l.tx) → l' ≡ hand_s i j set party n out E l → StepS l l'

  data StepR (l l' : Line) : Type 0 where
    idle-R : l' ≡ l → StepR l l'
    tick-R : rx_code l.rx ≡ 0 → l' ≡ tick_r i j set party n out E l → StepR l l'
    hand-R : T (flow_due l.rx) → l' ≡ hand_r i j set party n out E l → StepR l l'
    change-R : (own : BerthSettings) → T (not (under_way l.rx)) → l' ≡ change_r i j set party n out E l own → StepR l l'

  -- the send side of berth i in a node
  abbrev side_a : Held → Part
  side_a h = side_of send_side (part_of i h)

  abbrev side_b : Held → Part
  side_b h = side_of receive (part_of j h)

  line_a : (w : World) (c : Call) → line_in i j (call_a i w c)
      ≡ from_a (line_in i j w) (berth_at (outcome w.a c).held.node i).tx (frames_by send_side i (outcome w.a c).answer) (reports_by send_side i (outcome w.a c).answer)
  unfolding line_in left_a from_a
  line_a w c = refl

  line-B : (w : World) (c : Call) → line_in i j (call_b j w c)
      ≡ from_b (line_in i j w) (berth_at (outcome w.b c).held.node j).settings (berth_at (outcome w.b c).held.node j).rx (berth_at (outcome w.b c).held.node j).last (part_of j (outcome w.b c).held).incoming
      (frames_by receive j (outcome w.b c).answer) (reports_by receive j (outcome w.b c).answer)
      (over (begun_in (berth_at (outcome w.b c).held.node j).settings) (says_of j (outcome w.b c).answer)) (over delivered_in (says_of j (outcome w.b c).answer))
  unfolding line_in left_b from_b
  line-B w c = refl

  -- the side's parts, by name
  tx-of : (h : Held) (p : Part) → side_a h ≡ p → ((berth_at h.node i).tx ≡ p.berth.tx) × ((part_of i h).outgoing ≡ p.outgoing)
  unfolding side_of part_of
  tx-of h p e = (ap (λ (q : Part). q.berth.tx) e, ap (λ (q : Part). q.outgoing) e)

  rx-of : (h : Held) (p : Part) → side_b h ≡ p
      → ((berth_at h.node j).settings ≡ p.berth.settings) × ((berth_at h.node j).rx ≡ p.berth.rx) × ((berth_at h.node j).last ≡ p.berth.last)
      × ((part_of j h).incoming ≡ p.incoming)
  unfolding side_of part_of
  rx-of h p e =
      (ap (λ (q : Part). q.berth.settings) e, ap (λ (q : Part). q.berth.rx) e, ap (λ (q : Part). q.berth.last) e, ap (λ (q : Part). q.incoming) e)

  -- a tick and a turn of the send side alone
  ticked-A : (h : Held) → ((state_after h.node.settings (side_a h) ticks).berth.tx ≡ tx_ticked (berth_at h.node i).tx)
      × ((state_after h.node.settings (side_a h) ticks).outgoing ≡ (part_of i h).outgoing)
      × (said_reports i (says h.node.settings (side_a h) ticks) ≡ reported i send_side (tx_code (berth_at h.node i).tx) (tx_party (berth_at h.node i).tx))
      × (tick_code send_side (side_a h).berth ≡ tx_code (berth_at h.node i).tx)
  unfolding state_after side_of part_of ticked says said_reports reported
  ticked-A h = (refl, refl, refl, refl)

  turned-A : (h : Held) → ((state_after h.node.settings (side_a h) turns).berth.tx ≡ after_message (berth_at h.node i).tx)
      × ((state_after h.node.settings (side_a h) turns).outgoing ≡ (part_of i h).outgoing)
      × (said_reports i (says h.node.settings (side_a h) turns) ≡ reported i send_side (message_code (berth_at h.node i).tx) (message_party (berth_at h.node i).tx))
      × (handed_in (says h.node.settings (side_a h) turns) ≡ message_frame (berth_at h.node i).tx (part_of i h).outgoing ∷ [])
  unfolding state_after side_of part_of hand_over says said_reports handed_in
  turned-A h = (refl, refl, refl, refl)

  due-A : (h : Held) → T (due (side_a h).berth) → T (message_due (berth_at h.node i).tx)
  unfolding due side_of part_of
  due-A h t = t

  -- what a call on A is for the line that spares the send side of berth i, is a tick of it, or a turn of it; the message stays in its area
  abbrev KeptA : World → Call → Type 0
  KeptA w c = (part_of i (outcome w.a c).held).outgoing ≡ out

  pub spared-A : (w : World) (c : Call) → (part_of i w.a).outgoing ≡ out → SparedBy i w.a send_side c
      → (line_in i j (call_a i w c) ≡ line_in i j w) × KeptA w c
  unfolding line_in side_of part_of
  spared-A w c kept s =
      let (tx, o) = tx-of (outcome w.a c).held (side_a w.a) s.part in
      (line_a w c ∙ path-A (line_in i j w) tx s.frames s.reported ∙ only-A (line_in i j w) (line_in i j w).tx, o ∙ kept)

  pub tick-A : (w : World) (c : Call) → (part_of i w.a).outgoing ≡ out → TickOf i w.a send_side c
      → (tx_code (line_in i j w).tx ≡ 0) × (line_in i j (call_a i w c) ≡ tick_s i j set party n out E (line_in i j w)) × KeptA w c
  unfolding line_in side_of part_of
  tick-A w c kept s =
      let (tx, o) = tx-of (outcome w.a c).held (state_after w.a.node.settings (side_a w.a) ticks) s.part in
      let (a, b, r, d) = ticked-A w.a in
      let code : tx_code (berth_at w.a.node i).tx ≡ 0 = sym d ∙ s.none in
      let none : reported i send_side (tx_code (berth_at w.a.node i).tx) (tx_party (berth_at w.a.node i).tx) ≡ [] = ap (λ (m : ℕ). reported i send_side m (tx_party (berth_at w.a.node i).tx)) code ∙ unfold reported in refl in
      (code, line_a w c ∙ path-A (line_in i j w) (tx ∙ a) s.frames (s.reported ∙ r ∙ none) ∙ only-A (line_in i j w) (tx_ticked (line_in i j w).tx), o ∙ b ∙ kept)

  pub turn-A : (w : World) (c : Call) → (part_of i w.a).outgoing ≡ out → TurnOf i w.a send_side c
      → T (message_due (line_in i j w).tx) × (line_in i j (call_a i w c) ≡ hand_s i j set party n out E (line_in i j w)) × KeptA w c
  unfolding line_in side_of part_of
  turn-A w c kept s =
      let (tx, o) = tx-of (outcome w.a c).held (state_after w.a.node.settings (side_a w.a) turns) s.part in
      let (a, b, r, d) = turned-A w.a in
      let f : message_frame (berth_at w.a.node i).tx (part_of i w.a).outgoing ∷ [] ≡ message_frame (berth_at w.a.node i).tx out ∷ [] =
      ap (λ (area : List ℕ). message_frame (berth_at w.a.node i).tx area ∷ []) kept in
      (due-A w.a s.is-due, line_a w c ∙ path-A (line_in i j w) (tx ∙ a) (s.frames ∙ d ∙ f) (s.reported ∙ r) ∙ unfold from_a in refl, o ∙ b ∙ kept)

  step-A : (w : World) (c : Call) → (part_of i w.a).outgoing ≡ out → TouchedBy i w.a send_side c
      → StepS (line_in i j w) (line_in i j (call_a i w c)) × KeptA w c
  step-A w c kept (spared s) = let (e, o) = spared-A w c kept s in (idle-S e, o)
  step-A w c kept (clocked s) = let (z, e, o) = tick-A w c kept s in (tick-S z e, o)
  step-A w c kept (turned s) = let (t, e, o) = turn-A w c kept s in (hand-S t e, o)
  step-A w c kept (changed s) = absurd s.its

  -- a tick and a turn of the receive side alone
  ticked-B : (h : Held) → ((state_after h.node.settings (side_b h) ticks).berth.settings ≡ (berth_at h.node j).settings)
      × ((state_after h.node.settings (side_b h) ticks).berth.rx ≡ rx_ticked (berth_at h.node j).rx)
      × ((state_after h.node.settings (side_b h) ticks).berth.last ≡ (berth_at h.node j).last)
      × ((state_after h.node.settings (side_b h) ticks).incoming ≡ (part_of j h).incoming)
      × (said_reports j (says h.node.settings (side_b h) ticks) ≡ reported j receive (rx_code (berth_at h.node j).rx) scheduler ++ [])
      × (tick_code receive (side_b h).berth ≡ rx_code (berth_at h.node j).rx)
  unfolding state_after side_of part_of ticked says said_reports reported
  ticked-B h = (refl, refl, refl, refl, refl, refl)

  due-B : (h : Held) → T (due (side_b h).berth) → flow_due (berth_at h.node j).rx ≡ true
  unfolding due side_of part_of
  due-B h t = is_true (flow_due (berth_at h.node j).rx) (⊎_elim (λ u. u) (λ u. absurd u) (or_cases (flow_due (berth_at h.node j).rx) false t))

  turned-B : (h : Held) → flow_due (berth_at h.node j).rx ≡ true
      → ((state_after h.node.settings (side_b h) turns).berth.settings ≡ (berth_at h.node j).settings)
      × ((state_after h.node.settings (side_b h) turns).berth.rx ≡ after_flow (berth_at h.node j).rx)
      × ((state_after h.node.settings (side_b h) turns).berth.last ≡ (berth_at h.node j).last)
      × ((state_after h.node.settings (side_b h) turns).incoming ≡ (part_of j h).incoming)
      × (said_reports j (says h.node.settings (side_b h) turns) ≡ [])
      × (handed_in (says h.node.settings (side_b h) turns) ≡ flow_frame (berth_at h.node j).settings (berth_at h.node j).rx ∷ [])
  unfolding state_after side_of part_of hand_over says said_reports handed_in reported
  turned-B h e = (rw e, rw e, rw e, refl, rw e, rw e)

  -- and a change of it
  changed-B : (h : Held) (parameter value : ℕ) → ((state_after h.node.settings (side_b h) (changes parameter value)).berth.rx ≡ (berth_at h.node j).rx)
      × ((state_after h.node.settings (side_b h) (changes parameter value)).berth.last ≡ (berth_at h.node j).last)
      × ((state_after h.node.settings (side_b h) (changes parameter value)).incoming ≡ (part_of j h).incoming)
      × (said_reports j (says h.node.settings (side_b h) (changes parameter value)) ≡ [])
  unfolding state_after side_of part_of changed_berth says said_reports
  changed-B h parameter value = (refl, refl, refl, refl)

  abbrev NoneB : World → Call → Type 0
  NoneB w c = Neither (says_of j (outcome w.b c).answer)

  pub spared-B : (w : World) (c : Call) → NoneB w c → SparedBy j w.b receive c → line_in i j (call_b j w c) ≡ line_in i j w
  unfolding line_in side_of part_of
  spared-B w c (ds, bs) s =
      let (own, rx, last, ina) = rx-of (outcome w.b c).held (side_b w.b) s.part in
      line-B w c ∙ path-B (line_in i j w) own rx last ina s.frames s.reported (bs _) ds
      ∙ only-B (line_in i j w) (line_in i j w).own (line_in i j w).rx (line_in i j w).last (line_in i j w).ina

  pub tick-B : (w : World) (c : Call) → NoneB w c → TickOf j w.b receive c
      → (rx_code (line_in i j w).rx ≡ 0) × (line_in i j (call_b j w c) ≡ tick_r i j set party n out E (line_in i j w))
  unfolding line_in side_of part_of
  tick-B w c (ds, bs) s =
      let (own, rx, last, ina) = rx-of (outcome w.b c).held (state_after w.b.node.settings (side_b w.b) ticks) s.part in
      let (z, a, b, v, r, d) = ticked-B w.b in
      let code : rx_code (berth_at w.b.node j).rx ≡ 0 = sym d ∙ s.none in
      let none : reported j receive (rx_code (berth_at w.b.node j).rx) scheduler ++ [] ≡ [] = ap (λ (m : ℕ). reported j receive m scheduler ++ []) code ∙ unfold reported in refl in (
        code,
        line-B w c ∙ path-B (line_in i j w) (own ∙ z) (rx ∙ a) (last ∙ b) (ina ∙ v) s.frames (s.reported ∙ r ∙ none) (bs _) ds
            ∙ only-B (line_in i j w) (line_in i j w).own (rx_ticked (line_in i j w).rx) (line_in i j w).last (line_in i j w).ina,
      )

  pub turn-B : (w : World) (c : Call) → NoneB w c → TurnOf j w.b receive c
      → T (flow_due (line_in i j w).rx) × (line_in i j (call_b j w c) ≡ hand_r i j set party n out E (line_in i j w))
  unfolding line_in side_of part_of
  turn-B w c (ds, bs) s =
      let (own, rx, last, ina) = rx-of (outcome w.b c).held (state_after w.b.node.settings (side_b w.b) turns) s.part in
      let e = due-B w.b s.is-due in
      let (z, a, b, v, r, d) = turned-B w.b e in (
        rw e tt,
        line-B w c ∙ path-B (line_in i j w) (own ∙ z) (rx ∙ a) (last ∙ b) (ina ∙ v) (s.frames ∙ d) (s.reported ∙ r) (bs _) ds
            ∙ flow-B (line_in i j w) (after_flow (line_in i j w).rx) (flow_frame (line_in i j w).own (line_in i j w).rx),
      )

  change-B : (w : World) (c : Call) → NoneB w c → ChangeOf j w.b receive c
      → T (not (under_way (line_in i j w).rx)) × (line_in i j (call_b j w c) ≡ change_r i j set party n out E (line_in i j w) (line_in i j (call_b j w c)).own)
  unfolding line_in side_of part_of left_b
  change-B w c (ds, bs) s =
      let (own, rx, last, ina) = rx-of (outcome w.b c).held (state_after w.b.node.settings (side_b w.b) (changes s.parameter s.value)) s.part in
      let (a, b, v, r) = changed-B w.b s.parameter s.value in (
        s.free,
        line-B w c ∙ path-B (line_in i j w) refl (rx ∙ a) (last ∙ b) (ina ∙ v) s.frames (s.reported ∙ r) (bs _) ds
            ∙ only-B (line_in i j w) (line_in i j (call_b j w c)).own (line_in i j w).rx (line_in i j w).last (line_in i j w).ina,
      )

  step-B : (w : World) (c : Call) → NoneB w c → TouchedBy j w.b receive c → StepR (line_in i j w) (line_in i j (call_b j w c))
  step-B w c none (spared s) = idle-R (spared-B w c none s)
  step-B w c none (clocked s) = let (z, e) = tick-B w c none s in tick-R z e
  step-B w c none (turned s) = let (t, e) = turn-B w c none s in hand-R t e
  step-B w c none (changed s) = let (t, e) = change-B w c none s in change-R (line_in i j (call_b j w c)).own t e

  -- ---- a frame that is carried

  side-of-flow : (d : List ℕ) → kind d ≡ flow_kind → frame_side d ≡ send_side
  unfolding frame_side
  side-of-flow d e = rw (eqb_is (kind d) flow_kind e)

  side-of-other : (d : List ℕ) → (kind d ≡ flow_kind → ⊥) → frame_side d ≡ receive
  unfolding frame_side
  side-of-other d ne = rw (eqb-not (kind d) flow_kind ne)

  -- a frame at the send side of berth i alone
  abbrev came_a : Held → List ℕ → Came
  came_a h d = frame_came h.node.settings (with_tx fresh (berth_at h.node i).tx) d

  came-A : (h : Held) (d : List ℕ)
      → ((state_after h.node.settings (side_a h) (arrives d)).berth.tx ≡ (came_a h d).berth.tx)
      × ((state_after h.node.settings (side_a h) (arrives d)).outgoing ≡ (part_of i h).outgoing)
      × (said_reports i (says h.node.settings (side_a h) (arrives d)) ≡ reported i receive (came_a h d).old scheduler ++ word_reports i (came_a h d).word)
  unfolding state_after side_of part_of says said_reports
  came-A h d = (refl, refl, refl)

  pub took-A : (w : World) (d : List ℕ) (q : List (List ℕ)) → Sound w.a → length d ≤ most_data → kind d ≡ flow_kind
      → (line_in i j (carried_a i w (d ∷ q)) ≡ took_s i j set party n out E (line_in i j w) q (frame_came w.a.node.settings (sender_berth i j set party n out E (line_in i j w)) d))
      × ((part_of i (outcome w.a (frame (from_berth + i) d)).held).outgoing ≡ (part_of i w.a).outgoing)
  unfolding line_in carried_a left_a took_s
  took-A w d q s l e =
      let r = carry i w.a s small-i send_side d l (side-of-flow d e) in
      let (tx, o) = tx-of (outcome w.a (frame (from_berth + i) d)).held (state_after w.a.node.settings (side_a w.a) (arrives d)) r.part in
      let (a, b, c) = came-A w.a d in (
        (λ k. at_sender (line_in i j w) ((tx ∙ a) k) ((ap (λ (fs : List (List ℕ)). w.to_b ++ fs) r.frames ∙ append-nil w.to_b) k) q
            ((ap (λ (fs : List (List ℕ)). w.log ++ map there fs) r.frames ∙ append-nil w.log) k) (w.said ++ (r.reported ∙ c) k)),
        o ∙ b,
      )

  -- a frame at the receive side of berth j alone
  abbrev came_b : Held → List ℕ → Came
  came_b h d =
      frame_came h.node.settings (with_tx (berth_at h.node j) Tx.Idle) d

  came-B : (h : Held) (d : List ℕ)
      → ((state_after h.node.settings (side_b h) (arrives d)).berth ≡ (came_b h d).berth)
      × ((state_after h.node.settings (side_b h) (arrives d)).incoming ≡ sets (part_of j h).incoming (came_b h d).place (came_b h d).bytes)
      × (says h.node.settings (side_b h) (arrives d) ≡ hears (came_b h d).old (came_b h d).word)
  unfolding state_after side_of part_of says
  came-B h d = (refl, refl, refl)

  pub took-B : (w : World) (d : List ℕ) (q : List (List ℕ)) → Sound w.b → w.b.node.settings ≡ set → length d ≤ most_data → (kind d ≡ flow_kind → ⊥)
      → line_in i j (carried_b j w (d ∷ q)) ≡ took_r i j set party n out E (line_in i j w) q (frame_came set (taker_berth i j set party n out E (line_in i j w)) d)
  unfolding line_in carried_b left_b took_r said_reports
  took-B w d q s same l ne =
      let r = carry j w.b s small-j receive d l (side-of-other d ne) in
      let (own, rx, last, ina) = rx-of (outcome w.b (frame (from_berth + j) d)).held (state_after w.b.node.settings (side_b w.b) (arrives d)) r.part in
      let (a, b, c) = came-B w.b d in
      let now = (berth_at (outcome w.b (frame (from_berth + j) d)).held.node j).settings in
      let bs = said-carried j w.b s small-j (begun_in now) d l (side-of-other d ne) in
      let ds = said-carried j w.b s small-j delivered_in d l (side-of-other d ne) in
      let set_is = own ∙ ap (λ (x : Berth). x.settings) a in
      (λ k. at_taker (line_in i j w) (set_is k) ((rx ∙ ap (λ (x : Berth). x.rx) a) k) ((last ∙ ap (λ (x : Berth). x.last) a) k) ((ina ∙ b) k) q
      ((ap (λ (fs : List (List ℕ)). w.to_a ++ fs) r.frames ∙ append-nil w.to_a) k)
      ((ap (λ (fs : List (List ℕ)). w.log ++ map back fs) r.frames ∙ append-nil w.log) k)
      (w.heard ++ (r.reported ∙ ap (said_reports j) c) k) (w.begun ++ (bs ∙ ap₂ begun_in set_is c) k) (w.delivered ++ (ds ∙ ap delivered_in c) k))
      ∙ ap (λ (x : Settings). took_r i j set party n out E (line_in i j w) q (frame_came x (taker_berth i j set party n out E (line_in i j w)) d)) same

  -- ---- the two nodes stay sound, the message stays in its area, and the transfer is in one of its phases

  pub record Alive (w : World) : Type 0 where
    pub sound-a : Sound w.a
    pub sound-b : Sound w.b
    pub settings-b : w.b.node.settings ≡ set
    pub kept : (part_of i w.a).outgoing ≡ out
    pub steps : ℕ
    pub phase : Phase i j set party n out E (line_in i j w) steps

  -- so they do after a call on either node that leaves the line in a phase
  unfoldable pub after-A : (w : World) (c : Call) (s : Alive w) (m : ℕ) → Phase i j set party n out E (line_in i j (call_a i w c)) m → KeptA w c → Alive (call_a i w c)
  unfolding left_a
  after-A w c s m ph o =
      record { sound-a = sound-step w.a c s.sound-a; sound-b = s.sound-b; settings-b = s.settings-b; kept = o; steps = m; phase = ph }

  unfoldable pub after-B : (w : World) (c : Call) (s : Alive w) (m : ℕ) → Phase i j set party n out E (line_in i j (call_b j w c)) m → Alive (call_b j w c)
  unfolding left_b
  after-B w c s m ph =
      record {
        sound-a = s.sound-a;
        sound-b = sound-step w.b c s.sound-b;
        settings-b = settings-step w.b c ∙ s.settings-b;
        kept = s.kept;
        steps = m;
        phase = ph;
      }

  module _ (fit : n ≤ length out) (some : 1 ≤ n) (in_area : n ≤ set.area) (small : set.area ≤ short_most) where
    -- a phase, however many steps are to come
    abbrev Phased : Line → Type 0
    Phased l = (m : ℕ) × Phase i j set party n out E l m

    phased-S : (l l' : Line) (m : ℕ) → StepS l l' → Phase i j set party n out E l m → Phased l'
    phased-S l l' m (idle-S e) ph = rw e (m, ph)
    phased-S l l' m (tick-S k e) ph = let (m', h, ph') = ticks-S i j set party n out E l m k ph in rw e (m', ph')
    phased-S l l' m (hand-S t e) ph = let (m', h, ph') = hands-S i j set party n out E l m t ph in rw e (m', ph')

    phased-R : (l l' : Line) (m : ℕ) → StepR l l' → Phase i j set party n out E l m → Phased l'
    phased-R l l' m (idle-R e) ph = rw e (m, ph)
    phased-R l l' m (tick-R k e) ph = let (m', h, ph') = ticks-R i j set party n out E l m k ph in rw e (m', ph')
    phased-R l l' m (hand-R t e) ph = let (m', h, ph') = hands-R i j set party n out E l m t ph in rw e (m', ph')
    phased-R l l' m (change-R own t e) ph = rw e (m, changes-R i j set party n out E l m own t ph)

    alive-A : (w : World) (c : Call) → Spares send_side i w.a c → Alive w → Alive (call_a i w c)
    alive-A w c t s =
        let (step, o) = step-A w c s.kept (touch i w.a s.sound-a small-i send_side c t) in
        let (m, ph) = phased-S (line_in i j w) (line_in i j (call_a i w c)) s.steps step s.phase in
        after-A w c s m ph o

    alive-B : (w : World) (c : Call) → Spares receive j w.b c → Alive w → Alive (call_b j w c)
    alive-B w c t s =
        let step = step-B w c (neither-said j w.b s.sound-b small-j c t) (touch j w.b s.sound-b small-j receive c t) in
        let (m, ph) = phased-R (line_in i j w) (line_in i j (call_b j w c)) s.steps step s.phase in
        after-B w c s m ph

    -- a carried frame leads nearer
    pub record NearerWorld (m : ℕ) (w : World) : Type 0 where
      pub alive : Alive w
      pub fewer : alive.steps < m

    pub alive-carried_a : (w : World) (d : List ℕ) (q : List (List ℕ)) → w.to_a ≡ d ∷ q → (s : Alive w) → NearerWorld s.steps (carried_a i w (d ∷ q))
    unfolding carried_a left_a
    alive-carried_a w d q z s =
        let e : (line_in i j w).to_s ≡ d ∷ q = unfold line_in in z in
        let (l, k) = back_whole i j set party n out E fit some in_area small (line_in i j w) s.steps d q e s.phase in
        let (line, o) = took-A w d q s.sound-a (omega (arith, whole-heard)) k in
        let (m, h, ph) = carries-S i j set party n out E w.a.node.settings (line_in i j w) s.steps d q e s.phase in
        record {
          alive = record {
            sound-a = sound-step w.a (frame (from_berth + i) d) s.sound-a;
            sound-b = s.sound-b;
            settings-b = s.settings-b;
            kept = o ∙ s.kept;
            steps = m;
            phase = subst (λ (x : Line). Phase i j set party n out E x m) (sym line) ph;
          };
          fewer = h;
        }

    pub alive-carried_b : (w : World) (d : List ℕ) (q : List (List ℕ)) → w.to_b ≡ d ∷ q → (s : Alive w) → NearerWorld s.steps (carried_b j w (d ∷ q))
    unfolding carried_b left_b
    alive-carried_b w d q z s =
        let e : (line_in i j w).to_r ≡ d ∷ q = unfold line_in in z in
        let (l, k) = there-whole i j set party n out E fit some in_area small (line_in i j w) s.steps d q e s.phase in
        let line = took-B w d q s.sound-b s.settings-b (omega (arith, whole-heard)) k in
        let (m, h, ph) = carries-R i j set party n out E fit some in_area small (line_in i j w) s.steps d q e s.phase in
        record {
          alive = record {
            sound-a = s.sound-a;
            sound-b = sound-step w.b (frame (from_berth + j) d) s.sound-b;
            settings-b = settings-step w.b (frame (from_berth + j) d) ∙ s.settings-b;
            kept = s.kept;
            steps = m;
            phase = subst (λ (x : Line). Phase i j set party n out E x m) (sym line) ph;
          };
          fewer = h;
        }

    alive-carry_a : (w : World) → Alive w → Alive (carried_a i w w.to_a)
    alive-carry_a w s = go w.to_a refl
      where
        go : (q : List (List ℕ)) → w.to_a ≡ q → Alive (carried_a i w q)
        go [] e = unfold carried_a in s
        go (d ∷ q) e = (alive-carried_a w d q e s).alive

    alive-carry_b : (w : World) → Alive w → Alive (carried_b j w w.to_b)
    alive-carry_b w s = go w.to_b refl
      where
        go : (q : List (List ℕ)) → w.to_b ≡ q → Alive (carried_b j w q)
        go [] e = unfold carried_b in s
        go (d ∷ q) e = (alive-carried_b w d q e s).alive

    -- a set-up that is refused leaves everything as it was
    refused-A : (w : World) (number : ℕ) → left_a i w (refused_outcome w.a [] number) ≡ w
    unfolding left_a refused_outcome frames_by reports of_berth of_side only
    refused-A w number = λ k. end_a w w.a (append-nil w.to_b k) w.to_a (append-nil w.log k) (append-nil w.said k)

    refused-B : (w : World) (number : ℕ) → left_b j w (refused_outcome w.b [] number) ≡ w
    unfolding left_b refused_outcome frames_by reports of_berth of_side only over says_of
    refused-B w number =
        λ k. end_b w w.b w.to_b (append-nil w.to_a k) (append-nil w.log k) (append-nil w.heard k) (append-nil w.begun k) (append-nil w.delivered k)

    alive-acts : (w : World) (d : Deed) → Apart i j w d → Alive w → Alive (acts i j w d)
    unfolding acts
    alive-acts w (at_a c) t s = alive-A w c t s
    alive-acts w (at_b c) t s = alive-B w c t s
    alive-acts w (set_up_a area block stmin) t s =
        subst Alive (sym (ap (left_a i w) (set-up-refusal-leaves w.a area block stmin t) ∙ refused-A w (set_up_refusal area block stmin))) s
    alive-acts w (set_up_b area block stmin) t s =
        subst Alive (sym (ap (left_b j w) (set-up-refusal-leaves w.b area block stmin t) ∙ refused-B w (set_up_refusal area block stmin))) s
    alive-acts w carry_a t s = alive-carry_a w s
    alive-acts w carry_b t s = alive-carry_b w s

    pub alive-on : (w : World) (ds : List Deed) → AllApart i j w ds → Alive w → Alive (living i j w ds)
    unfolding living AllApart
    alive-on w [] t s = s
    alive-on w (d ∷ ds) t s = alive-on (acts i j w d) ds t.1 (alive-acts w d t.0 s)

-- ---- the send

send-met : (h : Held) (k party : ℕ) (m : List ℕ) → k < berth_count → Sound h → busy (berth_at h.node k).tx ≡ false → party ≤ the_laptop → 1 ≤ length m
    → length m ≤ h.node.settings.area → refusal h (send k party m) ≡ 0
unfolding refusal needs right_store
send-met h k party m l s z allowed a b =
    let free : T (not (busy (berth_at h.node k).tx)) = rw z tt in
    all-met (needs h (send k party m)) (range-in-order h.node s.order, (yes_eqb s.outgoing, (yes_ltb l, (yes_leb allowed, (yes_ltb a, (yes_leb b, (free, tt)))))))

sent-part : (h : Held) (k party : ℕ) (m : List ℕ) → refusal h (send k party m) ≡ 0
    → ((berth_at (outcome h (send k party m)).held.node k).tx ≡ begins_with (length m) (record { 0 = party }))
    × ((part_of k (outcome h (send k party m)).held).outgoing ≡ sets (area_of h.node.settings.area k h.outgoing) 0 m)
unfolding own_done alone state_after part_after sent_berth part_of
sent-part h k party m e =
    let own-k : own k h (send k party m) ≡ sends (record { 0 = party }) m ∷ [] = own_is k h (send k party m) e ∙ rw (eqb_is k k refl) in
    let p : part_of k (outcome h (send k party m)).held ≡ alone h.node.settings (part_of k h) (sends (record { 0 = party }) m ∷ []) =
    part_step k h (send k party m) ∙ ap (alone h.node.settings (part_of k h)) own-k in
    (ap (λ (x : Part). x.berth.tx) p, ap (λ (x : Part). x.outgoing) p)

sent-bytes : (l m out : List ℕ) → out ≡ sets l 0 m → length m ≤ length l → take (length m) out ≡ m
sent-bytes l m out e h = rw e (rw (zero-add (length m)) at (extended l 0 m (length m) refl (omega arith)))

-- ---- the law

module _ (i j party : ℕ) (m : List ℕ) (a b : Held) (may : MayBegin i j party m a b) where
  abbrev pub the_party : Party
  the_party = record { 0 = party }

  -- the area after the send
  abbrev pub out_a : List ℕ
  out_a = (part_of i (outcome a (send i party m)).held).outgoing

  abbrev pub set_b : Settings
  set_b = b.node.settings

  abbrev pub expected : BerthSettings → List Handed
  expected own = exchanged own (frames_of m)

  abbrev own_b : BerthSettings
  own_b = (berth_at b.node j).settings

  idle-free : busy (berth_at a.node i).tx ≡ false
  idle-free = rw may.idle-a

  -- the send is answered
  pub taken : refusal a (send i party m) ≡ 0
  taken = send-met a i party m may.small-i may.sound-a idle-free may.allowed may.some may.fits-a

  sent-facts : ((berth_at (outcome a (send i party m)).held.node i).tx ≡ begins_with (length m) the_party)
      × (out_a ≡ sets (area_of a.node.settings.area i a.outgoing) 0 m)
  sent-facts = sent-part a i party m taken

  area-a : length (area_of a.node.settings.area i a.outgoing) ≡ a.node.settings.area
  area-a = area-length a.node.settings.area i a.outgoing may.small-i may.sound-a.outgoing

  pub fit-a : length m ≤ length out_a
  fit-a = omega (arith, ap length sent-facts.1 ∙ length-sets (area_of a.node.settings.area i a.outgoing) 0 m, area-a, may.fits-a)

  message : take (length m) out_a ≡ m
  message = sent-bytes (area_of a.node.settings.area i a.outgoing) m out_a sent-facts.1 (omega (arith, area-a, may.fits-a))

  pub small_b : set_b.area ≤ short_most
  small_b = may.sound-b.order.settings.area-most

  room-b : length m ≤ length (part_of j b).incoming
  unfolding part_of
  room-b = omega (arith, area-length set_b.area j b.incoming may.small-j may.sound-b.incoming, may.fits-b)

  first-line : line_in i j (begin i party m a b) ≡ under-way i j set_b the_party (length m) out_a expected own_b (begins_with (length m) the_party) [] [] [] Rx.Idle (berth_at b.node j).last (part_of j b).incoming
  unfolding line_in
  first-line =
      λ k. at_taker (under-way i j set_b the_party (length m) out_a expected own_b (sent-facts.0 k) [] [] [] Rx.Idle (berth_at b.node j).last (part_of j b).incoming)
      own_b (may.idle-b k) (berth_at b.node j).last (part_of j b).incoming [] [] [] [] [] []

  pub begun-alive : Alive i j may.small-i may.small-j set_b the_party (length m) out_a expected (begin i party m a b)
  begun-alive =
      let (k, ph) = starts i j set_b the_party (length m) out_a expected fit-a may.some may.fits-b small_b (λ own. ap (λ (x : List ℕ). exchanged own (frames_of x)) message)
      own_b (berth_at b.node j).last (part_of j b).incoming room-b in
      record {
        sound-a = sound-step a (send i party m) may.sound-a;
        sound-b = may.sound-b;
        settings-b = refl;
        kept = refl;
        steps = k;
        phase = subst (λ (x : Line). Phase i j set_b the_party (length m) out_a expected x k) (sym first-line) ph;
      }

  landed : (w : World) → Alive i j may.small-i may.small-j set_b the_party (length m) out_a expected w → Landed i j set_b the_party (length m) out_a expected (line_in i j w) → Arrived i j party m w
  unfolding line_in part_of part_shown
  landed w s l =
      let o : T (in_order w.b.node) = range-in-order w.b.node s.sound-b.order in
      let bytes : take (length m) (area_of w.b.node.settings.area j w.b.incoming) ≡ m = l.bytes ∙ message in
      record {
        bytes = bytes;
        shown = berth-shown j w.b Choice.Arrived may.small-j o s.sound-b.incoming s.sound-b.outgoing
            ∙ ap (λ (k : ℕ). take k (area_of w.b.node.settings.area j w.b.incoming)) l.last ∙ bytes;
        begun = l.begun;
        delivered = l.delivered;
        last = l.last;
        sender = l.said ∙ unfold reported in refl;
        taker = l.heard ∙ unfold reported in refl;
        handed = l.log;
        frames = ap there_of l.log ∙ there-exchanged (agreed w) (frames_of m);
        flow = ap back_of l.log ∙ back-exchanged (agreed w) (frames_of m);
        idle-a = l.tx;
        idle-b = l.rx;
      }

  -- THE LINE'S LAW. Node A takes either party's message of 1 to A bytes for berth i; berth j of node B is idle and its area holds the
  -- message; both nodes are in order, every store has its length and every list ten cards. Then any calls on both nodes, each node's own ticks too,
  -- with each frame of A's berth i carried to B's berth j and its flow control back, under the identifiers expected, once and in order.
  -- No other frame, send or set-up touches these two sides (one that is refused or ignored touches nothing), and no timer of theirs
  -- reaches 1,000; settings may be changed at any berth. When none is on the way and neither has one due or a gap left, the same bytes
  -- have arrived and the sender reports 1, and the frames both ways are those of the settings that the taker had at Begun.
  pub line-law : (ds : List Deed) → AllApart i j (begin i party m a b) ds → AtRest i j (living i j (begin i party m a b) ds)
      → Arrived i j party m (living i j (begin i party m a b) ds)
  unfolding line_in
  line-law ds apart rest =
      let s = alive-on i j may.small-i may.small-j set_b the_party (length m) out_a expected fit-a may.some may.fits-b small_b (begin i party m a b) ds apart begun-alive in
      landed (living i j (begin i party m a b) ds) s
      (at_rest i j set_b the_party (length m) out_a expected (line_in i j (living i j (begin i party m a b) ds)) s.steps s.phase
      rest.none-there rest.none-back rest.none-due rest.no_gap rest.no_flow)
