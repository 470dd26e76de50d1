-- A frame touches one side of its berth: flow control the send side, any other the receive side. The tests of the frame are those
-- of the rule, taken one after the other; a reason to ignore a frame is the reason that the rule gives.
use Prim.Native.Nat.{ℕ, ◌<◌}
use native.Mathlib.Omega.{arith}
use mathlib.Core.Path.{◌≡◌, refl}
use mathlib.Core.Bool.{Bool, true, false, true≢false}
use mathlib.Core.List.{List}
use lib.ListN.{length}
use lib.Dec.{eqb}
use mir.Facts.{eqb_yes}
use Rattle.rules.specs.Tests.{pick}
use Rattle.rules.specs.Numbers.{single_kind, first_kind, consecutive_kind, flow_kind, no_data, other_kind, wrong_length}
use Rattle.rules.specs.Frames.{kind, single_fits, first_fits, consecutive_fits}
use Rattle.rules.specs.Arrivals.{Heard, ignored, single_came, first_came, missing, awaited_came, consecutive_came, flow_came, heard_by, told_by, by_kind, frame_came}
use Rattle.rules.specs.declared.Settings.{Settings}
use Rattle.rules.specs.declared.Rx.{Rx}
use Rattle.rules.specs.declared.Berth.{Berth}
use Rattle.rules.proofs.Cases.{Tested, holds, fails, eqb-cases, eqb_is, eqb-not, yes_of}
use Rattle.arrivals.specs.Reading.{is_flow, rx_came, unless_fits, why_consecutive, why_ignored}

-- ---- a frame with data, and one without

pub some-data : (d : List ℕ) → 0 < length d → eqb (length d) 0 ≡ false
some-data d l = eqb-not (length d) 0 (λ e. omega (arith, l, e))

pub no-data : (rx : Rx) (d : List ℕ) → length d ≡ 0 → why_ignored rx d ≡ no_data
unfolding why_ignored
no-data rx d e = rw (eqb_is (length d) 0 e)

-- ---- flow control

record Flow (d : List ℕ) : Type 0 where
  some : length d ≡ 0 → ⊥
  is : kind d ≡ flow_kind

flow : (d : List ℕ) → is_flow d ≡ true → Flow d
unfolding is_flow
flow d e = go (eqb-cases (length d) 0)
  where
    go : Tested (eqb (length d) 0) (length d ≡ 0) (length d ≡ 0 → ⊥) → Flow d
    go (holds t z) = absurd (yes_of (rw t at e))
    go (fails t z) = record { some = z; is = eqb_yes (yes_of (rw t at e)) }

pub has-data : (d : List ℕ) → is_flow d ≡ true → 0 < length d
has-data d e = let z = (flow d e).some in omega arith

-- FLOW CONTROL touches only the send side
pub came-flow : (s : Settings) (b : Berth) (d : List ℕ) → is_flow d ≡ true → frame_came s b d ≡ told_by b (flow_came b.tx d)
unfolding frame_came by_kind
came-flow s b d e = let f = flow d e in rw (eqb-not (length d) 0 f.some, f.is)

-- ---- any other frame

-- the tests of a frame in their order, where flow control is ruled out
no_flow : {X Y : Type 0} (heard : X → Y) (none single first consecutive flow : Bool) (n s f c o : X) (t : Y) → pick none false flow ≡ false
    → pick none (heard n) (pick single (heard s) (pick first (heard f) (pick consecutive (heard c) (pick flow t (heard o)))))
    ≡ heard (pick none n (pick single s (pick first f (pick consecutive c o))))
no_flow heard true single first consecutive flow n s f c o t e = refl
no_flow heard false true first consecutive flow n s f c o t e = refl
no_flow heard false false true consecutive flow n s f c o t e = refl
no_flow heard false false false true flow n s f c o t e = refl
no_flow heard false false false false true n s f c o t e = absurd (true≢false e)
no_flow heard false false false false false n s f c o t e = refl

-- ANY OTHER FRAME touches only the receive side
pub came-heard : (s : Settings) (b : Berth) (d : List ℕ) → is_flow d ≡ false → frame_came s b d ≡ heard_by b (rx_came s b.settings.block b.rx b.last d)
unfolding frame_came by_kind rx_came is_flow
came-heard s b d e = no_flow (heard_by b) (eqb (length d) 0) (eqb (kind d) single_kind) (eqb (kind d) first_kind) (eqb (kind d) consecutive_kind) (eqb (kind d) flow_kind) _ _ _ _ _ _ e

-- ---- the reason to ignore it

module _ (rx : Rx) (last : ℕ) where
  -- where there is a reason, the rule ignores the frame for it
  abbrev Reason : ℕ → Heard → Type 0
  Reason why h = (why ≡ 0 → ⊥) → h ≡ ignored why rx last

  unless-fits : (fits : Bool) (h : Heard) → Reason (unless_fits fits) (pick fits h (ignored wrong_length rx last))
  unless-fits true h some = absurd (some refl)
  unless-fits false h some = refl

  tested : (b : Bool) (why why' : ℕ) (h h' : Heard) → Reason why h → Reason why' h' → Reason (pick b why why') (pick b h h')
  tested true why why' h h' r r' = r
  tested false why why' h h' r r' = r'

consecutive : (bs : ℕ) (rx : Rx) (last : ℕ) (d : List ℕ) → Reason rx last (why_consecutive rx d) (consecutive_came bs rx last d)
unfolding awaited_came
consecutive bs Rx.Idle last d some = refl
consecutive bs (Rx.OwesOverflow t) last d some = refl
consecutive bs (Rx.OwesGo p t) last d some = refl
consecutive bs (Rx.Awaits p t) last d some = unless-fits (Rx.Awaits p t) last (consecutive_fits (missing p) d) _ some

-- A REASON TO IGNORE is the rule's
pub why-ignored : (s : Settings) (bs : ℕ) (rx : Rx) (last : ℕ) (d : List ℕ) → (why_ignored rx d ≡ 0 → ⊥) → rx_came s bs rx last d ≡ ignored (why_ignored rx d) rx last
unfolding rx_came why_ignored single_came first_came
why-ignored s bs rx last d =
    tested rx last (eqb (length d) 0) no_data _ _ _ (λ some. refl)
    (tested rx last (eqb (kind d) single_kind) _ _ _ _ (unless-fits rx last (single_fits d) _)
    (tested rx last (eqb (kind d) first_kind) _ _ _ _ (unless-fits rx last (first_fits d) _)
    (tested rx last (eqb (kind d) consecutive_kind) _ other_kind _ _ (consecutive bs rx last d) (λ some. refl))))
