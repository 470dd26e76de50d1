-- No stored byte lands outside its berth's area: from the ranges of a node in order, and so for the stores. The paper's
-- refusal 11 tested for it; no answer hangs on that test.
use mathlib.Core.Path.{◌≡◌, refl, ◌∙◌}
use mathlib.Core.Logic.{◌⊎◌, inl, inr, ⊎_elim}
use Prim.Native.Nat.{ℕ, zero, suc, ◌+◌, ◌*◌, ◌≤◌, ◌<◌}
use native.Mathlib.Omega.{arith}
use mathlib.Core.Bool.{true}
use mathlib.Core.List.{List, [], ◌∷◌, ◌++◌}
use lib.ListN.{length, get_or, set, replicate}
use lib.Seq.{sets, length-sets, get_or-set_other}
use lib.Dec.{leb}
use Rattle.rules.specs.Tests.{all, need, first_unmet, unless}
use Rattle.rules.specs.Numbers.{berth_count, unused}
use Rattle.rules.specs.Frames.{byte_at, kind, low, consecutive_fits, share}
use Rattle.rules.specs.Nodes.{fresh, berth_at, with_rx, Held}
use Rattle.rules.specs.Ranges.{AreaRange, in_block, taking_in_range, berth_in_order, BerthRange, in_order, InOrder}
use Rattle.rules.specs.Arrivals.{piece, completed, awaited_came, heard_by, by_kind, frame_came}
use Rattle.rules.specs.Stores.{right_store, stored, Outside, came_at}
use Rattle.rules.specs.Cards.{zero_card, right_cards}
use Rattle.rules.specs.Events.{frame, sender_of}
use Rattle.rules.specs.Refusals.{needs, refusal}
use Rattle.rules.specs.Calls.{after_frame, done, reply, written, refused_outcome, outcome}
use Rattle.rules.specs.declared.Settings.{Settings}
use Rattle.rules.specs.declared.Rx.{Rx}
use Rattle.rules.specs.declared.Berth.{Berth}
use Rattle.rules.specs.declared.Node.{Node}
use mir.Facts.{yes_leb}
use Rattle.rules.proofs.Cases.{yes_of, never_first}
use Rattle.rules.proofs.Ranges.{in-order-range}
use Rattle.rules.proofs.Answered.{frame-answered}
use Rattle.rules.proofs.Order.{came-ok}

-- ---- place and count

-- AT EVERY BERTH IN ORDER, WHATEVER THE FRAME, the bytes that its rule stores end inside an area of A bytes
pub came-inside : (s : Settings) (b : Berth) (d : List ℕ) → AreaRange s.area → BerthRange s b
    → (frame_came s b d).place + length (frame_came s b d).bytes ≤ s.area
came-inside s b d allowed range = (came-ok s allowed b d range).inside

-- so at every berth of a node in order,
pub frame-inside : (h : Held) (k : ℕ) (d : List ℕ) → k < berth_count → InOrder h.node
    → (came_at h k d).place + length (came_at h k d).bytes ≤ h.node.settings.area
unfolding came_at
frame-inside h k d l o = came-inside h.node.settings (berth_at h.node k) d o.settings (o.berth k l)

-- and so for every frame that is answered
pub answered-inside : (h : Held) (id : ℕ) (d : List ℕ) → refusal h (frame id d) ≡ 0
    → (came_at h (sender_of id) d).place + length (came_at h (sender_of id) d).bytes ≤ h.node.settings.area
answered-inside h id d e =
    let a = frame-answered h id d e in
    frame-inside h (sender_of id) d a.mine (in-order-range h.node a.order)

-- ---- the stores

-- bytes put down change no byte before or behind them
sets-other : (l : List ℕ) (at : ℕ) (v : List ℕ) (i : ℕ) → (i < at) ⊎ (at + length v ≤ i) → get_or (sets l at v) i 0 ≡ get_or l i 0
sets-other l at [] i away = refl
sets-other l at (x ∷ v) i away =
    sets-other (set l at x) (suc at) v i (⊎_elim (λ b. inl (omega arith)) (λ b. inr (omega arith)) away)
    ∙ get_or-set_other l at i x 0 (λ e. ⊎_elim (λ (b : i < at). omega arith) (λ (b : at + length (x ∷ v) ≤ i). omega arith) away)

-- A FRAME CHANGES NO BYTE OUTSIDE ITS BERTH'S AREA, whatever arrives, at any node, stores and cards; the incoming store keeps its length,
-- and the outgoing store stays
pub outside-stays : (h : Held) (id : ℕ) (d : List ℕ)
    → ((i : ℕ) → Outside h.node.settings.area (sender_of id) i
    → byte_at (outcome h (frame id d)).held.incoming i ≡ byte_at h.incoming i)
    × (length (outcome h (frame id d)).held.incoming ≡ length h.incoming)
    × ((outcome h (frame id d)).held.outgoing ≡ h.outgoing)
unfolding outcome refused_outcome done after_frame stored
outside-stays h id d = go (refusal h (frame id d)) refl
  where
    go : (n : ℕ) → refusal h (frame id d) ≡ n
        → let g = (unless n (refused_outcome h []) (record { answer = reply h (frame id d); held = done h (frame id d); buffer = written h (frame id d) })).held in
        ((i : ℕ) → Outside h.node.settings.area (sender_of id) i → byte_at g.incoming i ≡ byte_at h.incoming i)
        × (length g.incoming ≡ length h.incoming) × (g.outgoing ≡ h.outgoing)
    go zero e =
        let c = came_at h (sender_of id) d in
        let at = sender_of id * h.node.settings.area + c.place in
        let fits = answered-inside h id d e in (
          (λ i out. sets-other h.incoming at c.bytes i (⊎_elim (λ b. inl (omega arith)) (λ b. inr (omega arith)) out)),
          length-sets h.incoming at c.bytes,
          refl,
        )
    go (suc n) e = ((λ i out. refl), refl, refl)

-- ---- refusal 11

-- NO ANSWER HANGS ON IT: with the struck row of refusal 11, tested last, every frame has the refusal that it has without
pub row-struck : (h : Held) (id : ℕ) (d : List ℕ)
    → first_unmet
    (needs h (frame id d)
    ++ (need unused (leb ((came_at h (sender_of id) d).place + length (came_at h (sender_of id) d).bytes) h.node.settings.area) ∷ []))
    ≡ refusal h (frame id d)
unfolding refusal
row-struck h id d = never_first (needs h (frame id d)) unused _ (λ e. yes_leb (answered-inside h id d e))

-- ---- an example, at the edge: areas of 8 bytes, and berth 3 awaits two bytes of eight; a frame brings them and five bytes of padding

abbrev edge_node : Node
edge_node =
    record {
      settings = record { area = 8 };
      served = 9;
      berths = set (replicate berth_count fresh) 3 (with_rx fresh (Rx.Awaits (record { total = 8; got = 6; sn = record { 0 = 1 }; taken = 0 }) 0) 0);
    }

abbrev edge_held : Held
edge_held = record { node = edge_node; incoming = replicate 80 0xEE; outgoing = replicate 80 0xEE; cards = replicate berth_count zero_card }

abbrev edge_frame : List ℕ
edge_frame = 0x21 ∷ 7 ∷ 8 ∷ 0 ∷ 0 ∷ 0 ∷ 0 ∷ 0 ∷ []

-- the node is in order; the bytes end where the area ends, and are all that the frame changes in the store
pub filled-here : (in_order edge_node ≡ true)
    × ((came_at edge_held 3 edge_frame).place + length (came_at edge_held 3 edge_frame).bytes ≡ 8)
    × ((outcome edge_held (frame 0x643 edge_frame)).held.incoming ≡ replicate 30 0xEE ++ (7 ∷ 8 ∷ replicate 48 0xEE))
unfolding
    in_order all berth_in_order taking_in_range in_block berth_at came_at frame_came by_kind kind low heard_by awaited_came consecutive_fits
    completed piece share outcome done after_frame stored refusal needs first_unmet right_store right_cards
filled-here = (refl, refl, refl)

-- so it meets the premises, at the berth and for the first byte behind it
pub inside-here : (came_at edge_held 3 edge_frame).place + length (came_at edge_held 3 edge_frame).bytes ≤ 8
inside-here = frame-inside edge_held 3 edge_frame (omega arith) (in-order-range edge_node (yes_of filled-here.0))

pub stays_here : byte_at (outcome edge_held (frame 0x643 edge_frame)).held.incoming 32 ≡ 0xEE
stays_here = (outside-stays edge_held 0x643 edge_frame).0 32 (inr (omega arith))
