-- Short facts about what a frame makes of a berth, and that a refusal leaves everything. Each goes through the branches of its rule.
use mathlib.Core.Path.{◌≡◌, refl, sym, ap}
use Prim.Native.Nat.{ℕ, zero, suc, ◌+◌, ◌≤◌, ◌<◌, min}
use native.Mathlib.Omega.{arith}
use mathlib.Core.Bool.{◌&&◌}
use mathlib.Core.Logic.{⊎_elim}
use mathlib.Core.List.{List, [], ◌∷◌}
use lib.ListN.{length, take, drop, length-take, length-drop}
use lib.Seq.{sets}
use lib.Dec.{T, eqb, leb}
use Rattle.rules.specs.Tests.{unless}
use Rattle.rules.specs.Numbers.{single_kind, first_kind, consecutive_kind, flow_kind, go_status, wait_status, overflow_status, consecutive_most, N_WRONG_SN}
use Rattle.rules.specs.Frames.{kind, low, single_fits, announced, first_fits, consecutive_fits, flow_fits, share}
use Rattle.rules.specs.Arrivals.{Heard, ignored, single_came, above_area, turned_away, begun, first_came, missing, piece, completed, took, wrong_sn, awaited_came, consecutive_came, Told, granted, by_status, flow_ignored, flow_came, Came, heard_by, told_by, by_kind, frame_came}
use Rattle.rules.specs.Parties.{scheduler, reporting}
use Rattle.rules.specs.Ticks.{codes_of}
use Rattle.rules.specs.Turns.{new_block, flow_due, after_flow, HandedOver, hand_over}
use Rattle.rules.specs.Nodes.{berth_at, with_rx, with_tx, Held}
use Rattle.rules.specs.Stores.{area_of, came_at}
use Rattle.rules.specs.Events.{Call, frame, sender_of}
use Rattle.rules.specs.Refusals.{refusal, set_up_refusal}
use Rattle.rules.specs.Calls.{after_frame, done, buffer_of, refused_outcome, outcome, set_up_outcome}
use Rattle.rules.specs.declared.Settings.{Settings}
use Rattle.rules.specs.declared.Taking.{Taking}
use Rattle.rules.specs.declared.Sending.{Sending}
use Rattle.rules.specs.declared.Party.{Party}
use Rattle.rules.specs.declared.Rx.{Rx}
use Rattle.rules.specs.declared.Tx.{Tx}
use Rattle.rules.specs.declared.Berth.{Berth}
use Rattle.rules.specs.Words.{Begun, Failed, Going, Ignored, Waiting, code_number, reason_number}
use Rattle.rules.specs.declared.Code.{Code}
use Rattle.rules.specs.declared.Reason.{Reason}
use Rattle.rules.specs.declared.Reason.TheVariants.{NoData, OtherKind, WrongLength, NotAwaited}
use Rattle.rules.proofs.Areas.{area_same}
use Rattle.rules.proofs.Inside.{answered-inside}
use Rattle.rules.proofs.Cases.{is_true, eqb_is, eqb-not, ltb-is, or_cases, and_left, and_right, tests, pick-either}

-- ---- every branch of a frame at a berth: what holds of each kind's rule holds of the frame

pub frame-either : (P : Came → Type 0) (s : Settings) (b : Berth) (d : List ℕ)
    → ((why : Reason) → P (heard_by b (ignored (reason_number why) b.rx b.last)))
    → P (heard_by b (single_came b.rx b.last d))
    → P (heard_by b (first_came s b.rx b.last d))
    → P (heard_by b (consecutive_came b.settings.block b.rx b.last d))
    → P (told_by b (flow_came b.tx d))
    → P (frame_came s b d)
unfolding frame_came by_kind
frame-either P s b d ignores single first consecutive flow =
    pick-either P (eqb (length d) 0) _ _ (λ t. ignores NoData)
    (λ t. pick-either P (eqb (kind d) single_kind) _ _ (λ u. single)
    (λ u. pick-either P (eqb (kind d) first_kind) _ _ (λ v. first)
    (λ v. pick-either P (eqb (kind d) consecutive_kind) _ _ (λ w. consecutive)
    (λ w. pick-either P (eqb (kind d) flow_kind) _ _ (λ x. flow) (λ x. ignores OtherKind)))))

-- every branch of flow control at a send side: ignored, go, WAIT, and what ends the sending
pub told-either : (P : Told → Type 0) (tx : Tx) (d : List ℕ)
    → ((why : Reason) → P (flow_ignored (reason_number why) tx))
    → ((o : Sending) (party : Party) → P (record { tx = Tx.Consecutive party (granted o d) 0; word = Going }))
    → ((o : Sending) (party : Party) → P (record { tx = Tx.AwaitsFlow party o 0; word = Waiting }))
    → ((code : Code) (party : Party) → P (record { tx = Tx.Idle; word = Failed (code_number code) party }))
    → P (flow_came tx d)
unfolding by_status
told-either P Tx.Idle d ignores goes waits fails = ignores NotAwaited
told-either P (Tx.SingleDue party n t) d ignores goes waits fails = ignores NotAwaited
told-either P (Tx.FirstDue party n t) d ignores goes waits fails = ignores NotAwaited
told-either P (Tx.AwaitsFlow party o t) d ignores goes waits fails =
    pick-either P (flow_fits d) _ _
    (λ u. pick-either P (eqb (low d) go_status) _ _ (λ v. goes o party)
    (λ v. pick-either P (eqb (low d) wait_status) _ _ (λ w. waits o party)
    (λ w. pick-either P (eqb (low d) overflow_status) _ _ (λ x. fails Code.BufferOvflw party) (λ x. fails Code.InvalidFs party))))
    (λ u. ignores WrongLength)
told-either P (Tx.Consecutive party o t) d ignores goes waits fails = ignores NotAwaited

-- two words that are not the same
clash : {X : Type 0} → ◌≡◌ {A = ℕ} 0 1 → X
clash e = absurd (omega arith)

-- ---- an ignored frame leaves berth and area as they were, timers included

abbrev Kept : ℕ → Rx → ℕ → Heard → Type 0
Kept why rx last h = h.word ≡ Ignored why → (h.rx ≡ rx) × (h.last ≡ last) × (h.bytes ≡ [])

module _ (why : ℕ) where
  ignored-kept : (i : ℕ) (rx : Rx) (last : ℕ) → Kept why rx last (ignored i rx last)
  unfolding ignored
  ignored-kept i rx last e = (refl, refl, refl)

  single-kept : (rx : Rx) (last : ℕ) (d : List ℕ) → Kept why rx last (single_came rx last d)
  unfolding single_came
  single-kept rx last d = pick-either (Kept why rx last) (single_fits d) _ _ (λ t e. clash (cc)) (λ t. ignored-kept 3 rx last)

  first-kept : (s : Settings) (rx : Rx) (last : ℕ) (d : List ℕ) → Kept why rx last (first_came s rx last d)
  unfolding first_came turned_away begun
  first-kept s rx last d =
      pick-either (Kept why rx last) (first_fits d) _ _
      (λ t. pick-either (Kept why rx last) (above_area s (announced d)) _ _ (λ u e. clash (cc)) (λ u e. clash (cc)))
      (λ t. ignored-kept 3 rx last)

  awaited-kept : (bs : ℕ) (p : Taking) (t last : ℕ) (d : List ℕ) → Kept why (Rx.Awaits p t) last (awaited_came bs p t last d)
  unfolding awaited_came completed took wrong_sn
  awaited-kept bs p t last d =
      let K = Kept why (Rx.Awaits p t) last in
      pick-either K (consecutive_fits (missing p) d) _ _
      (λ u. pick-either K (eqb (low d) p.sn.0) _ _
      (λ v. pick-either K (leb (missing p) consecutive_most) _ _ (λ w e. clash (cc)) (λ w e. clash (cc)))
      (λ v e. clash (cc)))
      (λ u. ignored-kept 3 (Rx.Awaits p t) last)

  consecutive-kept : (bs : ℕ) (rx : Rx) (last : ℕ) (d : List ℕ) → Kept why rx last (consecutive_came bs rx last d)
  consecutive-kept bs Rx.Idle last d = ignored-kept 4 Rx.Idle last
  consecutive-kept bs (Rx.OwesOverflow t) last d = ignored-kept 4 (Rx.OwesOverflow t) last
  consecutive-kept bs (Rx.OwesGo p t) last d = ignored-kept 4 (Rx.OwesGo p t) last
  consecutive-kept bs (Rx.Awaits p t) last d = awaited-kept bs p t last d

  flow-kept : (tx : Tx) (d : List ℕ) → (flow_came tx d).word ≡ Ignored why → (flow_came tx d).tx ≡ tx
  unfolding flow_ignored
  flow-kept tx d =
      told-either (λ (told : Told). told.word ≡ Ignored why → told.tx ≡ tx) tx d
      (λ i e. refl) (λ o party e. clash (cc)) (λ o party e. clash (cc)) (λ code party e. clash (cc))

  -- AN IGNORED FRAME leaves the berth as it was, timers included, and stores nothing
  pub ignored-leaves : (s : Settings) (b : Berth) (d : List ℕ) → (frame_came s b d).word ≡ Ignored why
      → ((frame_came s b d).berth ≡ b) × ((frame_came s b d).bytes ≡ [])
  unfolding heard_by told_by
  ignored-leaves s b d =
      frame-either (λ (c : Came). c.word ≡ Ignored why → (c.berth ≡ b) × (c.bytes ≡ [])) s b d
      (λ i e. kept (ignored (reason_number i) b.rx b.last) (ignored-kept (reason_number i) b.rx b.last e))
      (λ e. kept (single_came b.rx b.last d) (single-kept b.rx b.last d e))
      (λ e. kept (first_came s b.rx b.last d) (first-kept s b.rx b.last d e))
      (λ e. kept (consecutive_came b.settings.block b.rx b.last d) (consecutive-kept b.settings.block b.rx b.last d e))
      (λ e. (ap (with_tx b) (flow-kept b.tx d e), refl))
    where
      kept : (h : Heard) → (h.rx ≡ b.rx) × (h.last ≡ b.last) × (h.bytes ≡ []) → ((heard_by b h).berth ≡ b) × ((heard_by b h).bytes ≡ [])
      kept h k = ((λ i. with_rx b (k.0 i) (k.1 i)), k.2)

-- ---- every branch of a consecutive frame at a receive side: ignored, the last, one of several, and a wrong SN

pub consecutive-either : (P : Heard → Type 0) (bs : ℕ) (rx : Rx) (last : ℕ) (d : List ℕ)
    → ((why : Reason) → P (ignored (reason_number why) rx last))
    → ((p : Taking) → P (completed p d))
    → ((p : Taking) → P (took bs p last d))
    → P (wrong_sn last)
    → P (consecutive_came bs rx last d)
unfolding awaited_came
consecutive-either P bs Rx.Idle last d ignores completes takes misses = ignores NotAwaited
consecutive-either P bs (Rx.OwesOverflow t) last d ignores completes takes misses = ignores NotAwaited
consecutive-either P bs (Rx.OwesGo p t) last d ignores completes takes misses = ignores NotAwaited
consecutive-either P bs (Rx.Awaits p t) last d ignores completes takes misses =
    pick-either P (consecutive_fits (missing p) d) _ _
    (λ u. pick-either P (eqb (low d) p.sn.0) _ _
    (λ v. pick-either P (leb (missing p) consecutive_most) _ _ (λ w. completes p) (λ w. takes p)) (λ v. misses))
    (λ u. ignores WrongLength)

-- ---- trusting the announced length

-- NOTHING IS STORED, AND BEGUN NEVER COMES, where the length is above A
pub too_long : (s : Settings) (rx : Rx) (last : ℕ) (d : List ℕ) → s.area < announced d
    → ((first_came s rx last d).bytes ≡ []) × ((n : ℕ) → (first_came s rx last d).word ≡ Begun n → ⊥)
unfolding first_came turned_away ignored
too_long s rx last d h =
    let P : Heard → Type 0 = λ c. (c.bytes ≡ []) × ((n : ℕ) → c.word ≡ Begun n → ⊥) in
    pick-either P (first_fits d) _ _
    (λ t. rw (ltb-is s.area (announced d) h) (refl, λ n e. clash (cc))) (λ t. (refl, λ n e. clash (cc)))

-- ---- storing seven bytes from the last frame

-- A RIGHT AWAITED CONSECUTIVE FRAME stores the next min(7, r) bytes of the message, those behind its first byte, at got
pub consecutive-came : (s : Settings) (b : Berth) (p : Taking) (t : ℕ) (d : List ℕ) → b.rx ≡ Rx.Awaits p t → kind d ≡ consecutive_kind
    → T (consecutive_fits (missing p) d) → low d ≡ p.sn.0 → ((frame_came s b d).place ≡ p.got) × ((frame_came s b d).bytes ≡ piece p d)
unfolding frame_came by_kind heard_by awaited_came completed took
consecutive-came s b p t [] r c f l = absurd (unfold kind in omega arith)
consecutive-came s b p t (x ∷ xs) r c f l =
    rw (eqb-not (length (x ∷ xs)) 0 (λ z. omega arith), c, r, is_true (consecutive_fits (missing p) (x ∷ xs)) f, eqb_is (low (x ∷ xs)) p.sn.0 l)
    (pick-either (λ (h : Heard). (h.place ≡ p.got) × (h.bytes ≡ piece p (x ∷ xs))) (leb (missing p) consecutive_most) _ _
    (λ u. (refl, refl)) (λ u. (refl, refl)))

-- A FRAME THAT IS ANSWERED puts the bytes that the rule names down at their place of its berth's area, and leaves the rest of it
pub frame-area : (h : Held) (id : ℕ) (d : List ℕ) → refusal h (frame id d) ≡ 0
    → area_of h.node.settings.area (sender_of id) (done h (frame id d)).incoming
    ≡ sets (area_of h.node.settings.area (sender_of id) h.incoming) (came_at h (sender_of id) d).place (came_at h (sender_of id) d).bytes
unfolding done after_frame
frame-area h id d e = area_same h.node.settings.area (sender_of id) _ _ h.incoming (answered-inside h id d e)

-- THE AREA AFTER A RIGHT AWAITED CONSECUTIVE FRAME: the next min(7, r) bytes stand at got, and every other byte is as it was
pub consecutive-stores : (h : Held) (id : ℕ) (d : List ℕ) (p : Taking) (t : ℕ) → refusal h (frame id d) ≡ 0
    → (berth_at h.node (sender_of id)).rx ≡ Rx.Awaits p t → kind d ≡ consecutive_kind → T (consecutive_fits (missing p) d) → low d ≡ p.sn.0
    → (area_of h.node.settings.area (sender_of id) (done h (frame id d)).incoming
    ≡ sets (area_of h.node.settings.area (sender_of id) h.incoming) p.got (take (min 7 (missing p)) (drop 1 d)))
    × (length (take (min 7 (missing p)) (drop 1 d)) ≡ min 7 (missing p))
unfolding came_at piece share
consecutive-stores h id d p t e r c f l =
    let (at, bytes) = consecutive-came h.node.settings (berth_at h.node (sender_of id)) p t d r c f l in
    (rw (at, bytes) at (frame-area h id d e), omega (arith, enough, length-take (min 7 (missing p)) (drop 1 d)))
  where
    enough : min 7 (missing p) ≤ length (drop 1 d)
    enough =
        unfold consecutive_fits in
        (⊎_elim (λ (u : T (eqb (length d) 8)). omega (tests, length-drop 1 d))
        (λ (u : T (leb (missing p) 7 && eqb (length d) (missing p + 1))). omega (tests, length-drop 1 d, and_left (leb (missing p) 7) _ u, and_right (leb (missing p) 7) _ u))
        (or_cases (eqb (length d) 8) _ f))

-- ---- resetting the SN at a new block

-- FLOW CONTROL LEAVES THE SN: on the side that takes it
pub flow-leaves-sn : (o : Sending) (t : ℕ) (party : Party) (d : List ℕ) (o' : Sending) (t' : ℕ) (party' : Party)
    → (flow_came (Tx.AwaitsFlow party o t) d).tx ≡ Tx.Consecutive party' o' t' → o'.sn ≡ o.sn
unfolding flow_ignored by_status granted
flow-leaves-sn o t party d o' t' party' =
    let K : Told → Type 0 = λ told. told.tx ≡ Tx.Consecutive party' o' t' → o'.sn ≡ o.sn in
    pick-either K (flow_fits d) _ _
    (λ u. pick-either K (eqb (low d) go_status) _ _ (λ v e. same e)
    (λ v. pick-either K (eqb (low d) wait_status) _ _ (λ w e. clash (cc))
    (λ w. pick-either K (eqb (low d) overflow_status) _ _ (λ x e. clash (cc)) (λ x e. clash (cc)))))
    (λ u e. clash (cc))
  where
    same : Tx.Consecutive party (granted o d) 0 ≡ Tx.Consecutive party' o' t' → o'.sn ≡ o.sn
    same e = let g : granted o d ≡ o' = cc in ap (λ (x : Sending). x.sn) (sym g)

-- under WAIT too, where the whole sending stays
pub wait-leaves-sn : (o : Sending) (t : ℕ) (party : Party) (d : List ℕ) (o' : Sending) (t' : ℕ) (party' : Party)
    → (flow_came (Tx.AwaitsFlow party o t) d).tx ≡ Tx.AwaitsFlow party' o' t' → o'.sn ≡ o.sn
unfolding flow_ignored by_status
wait-leaves-sn o t party d o' t' party' =
    let K : Told → Type 0 = λ told. told.tx ≡ Tx.AwaitsFlow party' o' t' → o'.sn ≡ o.sn in
    pick-either K (flow_fits d) _ _
    (λ u. pick-either K (eqb (low d) go_status) _ _ (λ v e. clash (cc))
    (λ v. pick-either K (eqb (low d) wait_status) _ _ (λ w e. same 0 e)
    (λ w. pick-either K (eqb (low d) overflow_status) _ _ (λ x e. clash (cc)) (λ x e. clash (cc)))))
    (λ u e. same t e)
  where
    same : (u : ℕ) → Tx.AwaitsFlow party o u ≡ Tx.AwaitsFlow party' o' t' → o'.sn ≡ o.sn
    same u e = let g : o ≡ o' = cc in ap (λ (x : Sending). x.sn) (sym g)

-- and on the side that gives it
pub go-leaves-sn : (p : Taking) (t : ℕ) (p' : Taking) (t' : ℕ) → after_flow (Rx.OwesGo p t) ≡ Rx.Awaits p' t' → p'.sn ≡ p.sn
go-leaves-sn p t p' t' e = let g : new_block p ≡ p' = cc in ap (λ (x : Taking). x.sn) (sym g)

-- ---- a party where nothing is reported of a send side

-- NO REPORT, NO PARTY: in the answer to a tick and to a turn the party is 0 where the send code is,
pub tick-unnamed : (b : Berth) → (codes_of b).send ≡ 0 → (codes_of b).party ≡ scheduler
unfolding codes_of reporting
tick-unnamed b e = rw e

pub turn-unnamed : (b : Berth) (area : List ℕ) → (hand_over b area).code ≡ 0 → (hand_over b area).party ≡ scheduler
unfolding hand_over reporting
turn-unnamed b area = pick-either (λ (g : HandedOver). g.code ≡ 0 → g.party ≡ scheduler) (flow_due b.rx) _ _ (λ t e. refl) (λ t e. rw e)

-- and with Failed 5, which is the receive side's
pub frame-unnamed : (s : Settings) (b : Berth) (d : List ℕ) (party : Party) → (frame_came s b d).word ≡ Failed N_WRONG_SN party → party ≡ scheduler
unfolding heard_by told_by ignored single_came first_came turned_away begun completed took wrong_sn flow_ignored by_status
frame-unnamed s b d party =
    let K : Heard → Type 0 = λ h. h.word ≡ Failed N_WRONG_SN party → party ≡ scheduler in
    frame-either (λ (c : Came). c.word ≡ Failed N_WRONG_SN party → party ≡ scheduler) s b d (λ why e. clash (cc))
    (pick-either K (single_fits d) _ _ (λ t e. clash (cc)) (λ t e. clash (cc)))
    (pick-either K (first_fits d) _ _ (λ t. pick-either K (above_area s (announced d)) _ _ (λ u e. clash (cc)) (λ u e. clash (cc))) (λ t e. clash (cc)))
    (consecutive-either K b.settings.block b.rx b.last d (λ why e. clash (cc)) (λ p e. clash (cc)) (λ p e. clash (cc)) (λ e. cc))
    (told b.tx)
  where
    told : (tx : Tx) → (flow_came tx d).word ≡ Failed N_WRONG_SN party → party ≡ scheduler
    told Tx.Idle = λ e. clash (cc)
    told (Tx.SingleDue own n t) = λ e. clash (cc)
    told (Tx.FirstDue own n t) = λ e. clash (cc)
    told (Tx.AwaitsFlow own o t) =
        let K : Told → Type 0 = λ x. x.word ≡ Failed N_WRONG_SN party → party ≡ scheduler in
        pick-either K (flow_fits d) _ _
        (λ u. pick-either K (eqb (low d) go_status) _ _ (λ v e. clash (cc))
        (λ v. pick-either K (eqb (low d) wait_status) _ _ (λ w e. clash (cc))
        (λ w. pick-either K (eqb (low d) overflow_status) _ _ (λ x e. clash (cc)) (λ x e. clash (cc)))))
        (λ u e. clash (cc))
    told (Tx.Consecutive own o t) = λ e. clash (cc)

-- ---- refusals

unless-refuses : {X : Type 0} (n : ℕ) (f : ℕ → X) (x : X) → 0 < n → unless n f x ≡ f n
unless-refuses zero f x l = absurd (omega arith)
unless-refuses (suc n) f x l = refl

-- A REFUSAL LEAVES THE WHOLE OUTCOME AS IT WAS: node, stores and buffer; it gives only its number
pub refusal-leaves : (h : Held) (c : Call) → 0 < refusal h c → outcome h c ≡ refused_outcome h (buffer_of c) (refusal h c)
unfolding outcome
refusal-leaves h c l = unless-refuses (refusal h c) _ _ l

pub set-up-refusal-leaves : (h : Held) (a bs stmin : ℕ) → 0 < set_up_refusal a bs stmin
    → set_up_outcome h a bs stmin ≡ refused_outcome h [] (set_up_refusal a bs stmin)
unfolding set_up_outcome
set-up-refusal-leaves h a bs stmin l = unless-refuses (set_up_refusal a bs stmin) _ _ l
