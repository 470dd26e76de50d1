-- Every berth comes free: what ticks alone leave and say of a berth, and of the node.
use Rattle.std.specs.Prelude.{ℕ, zero, suc, ◌-◌, ◌≤◌, ◌<◌, ◌≡◌, false, length, get_or}
use mathlib.Core.List.{List, [], ◌∷◌, Memᴰ}
use Rattle.rules.specs.Numbers.{berth_count}
use Rattle.rules.specs.Parties.{reporting}
use Rattle.rules.specs.Nodes.{berth_at, Held}
use Rattle.rules.specs.Stores.{area_of}
use Rattle.rules.specs.Answers.{Answer, refused, Side, receive, send, Report, reported, reports}
use Rattle.rules.specs.Cards.{card_at, raised, added, under_way, tick_adds}
use Rattle.rules.specs.Alone.{expires, accepts}
use Rattle.rules.specs.Clocks.{Idle, Clock, clock_of, time_left, most_time, end_code, side_party, code_at, code_within}
use Rattle.rules.specs.declared.Berth.{Berth}
use Rattle.rules.specs.declared.Card.{Card}
use Rattle.laws.specs.Own.{over, says_of, of_berth}
use Rattle.laws.specs.Sides.{of_side}
use Rattle.laws.specs.Cards.{frozen_at}

-- the clock of side s of berth k, and its reports in these answers
abbrev pub clock_at : Side → ℕ → Held → Clock
clock_at s k h = clock_of s (berth_at h.node k)

abbrev pub reports_in : Side → ℕ → List Answer → List Report
reports_in s k said = of_side s (of_berth k (over reports said))

-- ---- what ticks leave as it was: the settings, the last length and the two areas of berth k

pub record Keeps (k : ℕ) (h end : Held) : Type 0 where
  pub settings : (berth_at end.node k).settings ≡ (berth_at h.node k).settings
  pub last : (berth_at end.node k).last ≡ (berth_at h.node k).last
  pub incoming : area_of h.node.settings.area k end.incoming ≡ area_of h.node.settings.area k h.incoming
  pub outgoing : area_of h.node.settings.area k end.outgoing ≡ area_of h.node.settings.area k h.outgoing

-- ---- the card: at each tick what the two sides then report is added, so it stays from the tick that freezes it

unfoldable pub card_after : ℕ → Berth → Card → Card
card_after zero b card = card
card_after (suc n) b card =
    added (card_after n b card) (tick_adds (under_way b.rx) (code_at (suc n) (clock_of receive b)) (code_at (suc n) (clock_of send b)))

-- ---- the law: after 1,128 ticks, or more

-- both sides are idle; each side that was not idle has reported exactly one code, that of its state, for its party, and an idle one none; the card
-- counts these reports as they come, so that one that is not frozen has grown by exactly them, but for a code 2 after an overflow owed;
-- settings, last length and areas stay
pub record ComesFree (k : ℕ) (h : Held) (said : List Answer) (end : Held) : Type 0 where
  pub idle : (s : Side) → Idle s (berth_at end.node k)
  pub one_code : (s : Side) → (Idle s (berth_at h.node k) → ⊥)
      → reports_in s k said ≡ record { berth = k; side = s; code = end_code (clock_at s k h); party = side_party s (berth_at h.node k) } ∷ []
  pub no_code : (s : Side) → Idle s (berth_at h.node k) → reports_in s k said ≡ []
  pub card : card_at end.cards k ≡ card_after most_time (berth_at h.node k) (card_at h.cards k)
  pub grown : frozen_at k end ≡ false
      → card_at end.cards k
      ≡ raised (card_at h.cards k) (tick_adds (under_way (berth_at h.node k).rx) (end_code (clock_at receive k h)) (end_code (clock_at send k h)))
  pub kept : Keeps k h end

-- where no other call comes between: none of the ticks is refused, all ten berths come free, and A, the berth served last and both stores
-- stay
pub record AllComeFree (h : Held) (said : List Answer) (end : Held) : Type 0 where
  pub answered : (number : ℕ) → Memᴰ (refused number) said → ⊥
  pub each : (k : ℕ) → k < berth_count → ComesFree k h said end
  pub area : end.node.settings ≡ h.node.settings
  pub served : end.node.served ≡ h.node.served
  pub incoming : end.incoming ≡ h.incoming
  pub outgoing : end.outgoing ≡ h.outgoing

-- ---- tick by tick: after n answered ticks with no frame, send, turn or change of berth k's own between them

-- each side has n ticks less left, or none, and is idle if it had n at most; of the berth the answers say just the two codes of each tick, those of
-- tick i + 1 at place i, and the party with a send code; so in all a side has reported its code if its time ended within the n, for its party, and
-- nothing else; the card counts what is reported; settings, last length and areas stay
pub record LeftAlone (n k : ℕ) (h : Held) (said : List Answer) (end : Held) : Type 0 where
  pub left : (s : Side) → time_left (clock_at s k end) ≡ time_left (clock_at s k h) - n
  pub idle : (s : Side) → time_left (clock_at s k h) ≤ n → Idle s (berth_at end.node k)
  pub ticks : length (over (says_of k) said) ≡ n
  pub when : (i : ℕ) → i < n
      → get_or (over (says_of k) said) i accepts
      ≡ expires (code_at (suc i) (clock_at receive k h)) (code_at (suc i) (clock_at send k h))
      (reporting (code_at (suc i) (clock_at send k h)) (side_party send (berth_at h.node k)))
  pub in_all : (s : Side) → reports_in s k said ≡ reported k s (code_within n (clock_at s k h)) (side_party s (berth_at h.node k))
  pub card : card_at end.cards k ≡ card_after n (berth_at h.node k) (card_at h.cards k)
  pub kept : Keeps k h end
