-- A card per berth: the lent list of ten cards, when a card is frozen, and what one event of a berth adds to its card.
use Rattle.std.specs.Prelude.{ℕ, ◌+◌, Bool, true, false, not, ◌&&◌, ◌||◌, List, [], ◌∷◌, length, get_or, set, eqb}
use Rattle.rules.specs.Tests.{pick}
use Rattle.rules.specs.Numbers.{berth_count, most_count, single_kind, N_OK, N_TIMEOUT_A, N_TIMEOUT_Cr, N_WRONG_SN, N_INVALID_FS, N_UNEXP_PDU, N_BUFFER_OVFLW}
use Rattle.rules.specs.Frames.{kind}
use Rattle.rules.specs.Arrivals.{frame_came}
use Rattle.rules.specs.Ticks.{rx_code, tx_code}
use Rattle.rules.specs.Turns.{hand_over}
use Rattle.rules.specs.Events.{Event, arrives, ticks, sends, turns, changes}
use Rattle.rules.specs.declared.Settings.{Settings}
use Rattle.rules.specs.declared.Rx.{Rx}
use Rattle.rules.specs.declared.Berth.{Berth}
use Rattle.rules.specs.declared.Card.{Card}
use Rattle.rules.specs.declared.Adds.{Adds}
use Rattle.rules.specs.Words.{Word, Delivered, Begun, Failed, Ignored, TooLong, Took, Going, Waiting}

-- ---- the list

-- it is exactly ten cards
unfoldable pub right_cards : List Card → Bool
right_cards cards = eqb (length cards) berth_count

-- nothing added yet
abbrev pub zero_card : Card
zero_card =
    record {
      begun = 0;
      delivered = 0;
      failed2 = 0;
      failed4 = 0;
      failed5 = 0;
      failed7 = 0;
      toolong = 0;
      sent = 0;
      unsent = 0;
    }

-- berth k's card
unfoldable pub card_at : List Card → ℕ → Card
card_at cards k = get_or cards k zero_card

-- ---- a card with any count at 4,294,967,295 is frozen

unfoldable pub frozen : Card → Bool
frozen c =
    (((((((eqb c.begun most_count || eqb c.delivered most_count) || eqb c.failed2 most_count) || eqb c.failed4 most_count)
    || eqb c.failed5 most_count)
    || eqb c.failed7 most_count)
    || eqb c.toolong most_count)
    || eqb c.sent most_count)
    || eqb c.unsent most_count

-- ---- counting: at most 1 to each count, all that an event adds at once; a card that is frozen before it stays as it is

abbrev pub plus : ℕ → Bool → ℕ
plus count adds = pick adds (count + 1) count

abbrev pub raised : Card → Adds → Card
raised c a =
    record {
      begun = plus c.begun a.begun;
      delivered = plus c.delivered a.delivered;
      failed2 = plus c.failed2 a.failed2;
      failed4 = plus c.failed4 a.failed4;
      failed5 = plus c.failed5 a.failed5;
      failed7 = plus c.failed7 a.failed7;
      toolong = plus c.toolong a.toolong;
      sent = plus c.sent a.sent;
      unsent = plus c.unsent a.unsent;
    }

unfoldable pub added : Card → Adds → Card
added c a = pick (frozen c) c (raised c a)

-- the list with what is added to berth k's card
unfoldable pub added_at : List Card → ℕ → Adds → List Card
added_at cards k a = set cards k (added (card_at cards k) a)

-- ---- a frame: what its word says, and which code a Failed has

abbrev pub is_delivered : Word → Bool
is_delivered (Delivered n) = true
is_delivered (Begun n) = false
is_delivered (Failed c party) = false
is_delivered (Ignored i) = false
is_delivered TooLong = false
is_delivered Took = false
is_delivered Going = false
is_delivered Waiting = false

abbrev pub is_begun : Word → Bool
is_begun (Delivered n) = false
is_begun (Begun n) = true
is_begun (Failed c party) = false
is_begun (Ignored i) = false
is_begun TooLong = false
is_begun Took = false
is_begun Going = false
is_begun Waiting = false

abbrev pub is_too_long : Word → Bool
is_too_long (Delivered n) = false
is_too_long (Begun n) = false
is_too_long (Failed c party) = false
is_too_long (Ignored i) = false
is_too_long TooLong = true
is_too_long Took = false
is_too_long Going = false
is_too_long Waiting = false

abbrev pub is_failed : ℕ → Word → Bool
is_failed code (Delivered n) = false
is_failed code (Begun n) = false
is_failed code (Failed c party) = eqb c code
is_failed code (Ignored i) = false
is_failed code TooLong = false
is_failed code Took = false
is_failed code Going = false
is_failed code Waiting = false

-- the frame's kind decides, not the message's length
unfoldable pub is_single : List ℕ → Bool
is_single d = eqb (kind d) single_kind

-- begun with Begun and with a single frame's Delivered, delivered with every Delivered, failed with old code 7 and with Failed 5, too
-- long with TooLong, failed in sending with Failed 6 or 9
unfoldable pub frame_adds : Bool → ℕ → Word → Adds
frame_adds single old w =
    record {
      begun = is_begun w || (single && is_delivered w);
      delivered = is_delivered w;
      failed2 = false;
      failed4 = false;
      failed5 = is_failed N_WRONG_SN w;
      failed7 = eqb old N_UNEXP_PDU;
      toolong = is_too_long w;
      sent = false;
      unsent = is_failed N_INVALID_FS w || is_failed N_BUFFER_OVFLW w;
    }

-- ---- a tick: failed with the receive code 2 or 4 of a side that owed go or awaited, so that code 2 after an overflow owed adds
-- nothing; failed in sending with any send code

abbrev pub under_way : Rx → Bool
under_way Rx.Idle = false
under_way (Rx.OwesOverflow t) = false
under_way (Rx.OwesGo p t) = true
under_way (Rx.Awaits p t) = true

unfoldable pub tick_adds : Bool → ℕ → ℕ → Adds
tick_adds was_under_way receive send =
    record {
      begun = false;
      delivered = false;
      failed2 = was_under_way && eqb receive N_TIMEOUT_A;
      failed4 = was_under_way && eqb receive N_TIMEOUT_Cr;
      failed5 = false;
      failed7 = false;
      toolong = false;
      sent = false;
      unsent = not (eqb send 0);
    }

-- berth by berth
unfoldable pub ticked_cards : List Berth → List Card → List Card
ticked_cards [] cards = cards
ticked_cards (b ∷ bs) [] = []
ticked_cards (b ∷ bs) (c ∷ cards) =
    added c (tick_adds (under_way b.rx) (rx_code b.rx) (tx_code b.tx)) ∷ ticked_cards bs cards

-- ---- a turn: sent with code 1

unfoldable pub turn_adds : ℕ → Adds
turn_adds code =
    record {
      begun = false;
      delivered = false;
      failed2 = false;
      failed4 = false;
      failed5 = false;
      failed7 = false;
      toolong = false;
      sent = eqb code N_OK;
      unsent = false;
    }

-- ---- a send, a change

abbrev pub nothing : Adds
nothing =
    record {
      begun = false;
      delivered = false;
      failed2 = false;
      failed4 = false;
      failed5 = false;
      failed7 = false;
      toolong = false;
      sent = false;
      unsent = false;
    }

-- ---- one event of a berth, from the berth before it, its outgoing area and the event

unfoldable pub adds : Settings → Berth → List ℕ → Event → Adds
adds s b outgoing (arrives d) = frame_adds (is_single d) (frame_came s b d).old (frame_came s b d).word
adds s b outgoing ticks = tick_adds (under_way b.rx) (rx_code b.rx) (tx_code b.tx)
adds s b outgoing (sends party m) = nothing
adds s b outgoing turns = turn_adds (hand_over b outgoing).code
adds s b outgoing (changes parameter value) = nothing
