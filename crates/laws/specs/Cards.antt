-- The law of the cards: which moments of a berth's history each count counts, and what begun equals.
use Rattle.std.specs.Prelude.{ℕ, ◌+◌, ◌≡◌, Bool, false, not, ◌&&◌, ◌||◌, List, replicate, eqb}
use Rattle.rules.specs.Tests.{pick}
use Rattle.rules.specs.Numbers.{berth_count, N_OK, N_TIMEOUT_A, N_TIMEOUT_Cr, N_WRONG_SN, N_INVALID_FS, N_UNEXP_PDU, N_BUFFER_OVFLW}
use Rattle.rules.specs.Nodes.{berth_at, Held}
use Rattle.rules.specs.Events.{Event, arrives, ticks, sends, turns, changes}
use Rattle.rules.specs.Cards.{zero_card, card_at, frozen, is_delivered, is_begun, is_too_long, is_failed, is_single, under_way}
use Rattle.rules.specs.Alone.{Says, hears, expires, accepts, hands, adopts}
use Rattle.rules.specs.declared.Rx.{Rx}
use Rattle.rules.specs.declared.Card.{Card}
use Rattle.laws.specs.Histories.{Moment, word_is, how_many}

-- ten cards of zeros
abbrev pub zero_cards : List Card
zero_cards = replicate berth_count zero_card

-- ---- which moments each count counts

-- the event is a single frame, whatever the message's length
abbrev pub single_frame_came : Event → Bool
single_frame_came (arrives d) = is_single d
single_frame_came ticks = false
single_frame_came (sends party m) = false
single_frame_came turns = false
single_frame_came (changes parameter value) = false

-- a reception begun: Begun, or a single frame's Delivered
abbrev pub begins : Moment → Bool
begins m = word_is is_begun m.said || (single_frame_came m.event && word_is is_delivered m.said)

-- delivered: every Delivered
abbrev pub delivers : Moment → Bool
delivers m = word_is is_delivered m.said

-- failed with 2 or with 4: that receive code of a tick, of a side that owed go or awaited; so code 2 after an overflow owed is none
abbrev pub expires_with : ℕ → Rx → Says → Bool
expires_with n rx (hears old w) = false
expires_with n rx (expires receive send party) = under_way rx && eqb receive n
expires_with n rx accepts = false
expires_with n rx (hands frame code party) = false
expires_with n rx adopts = false

abbrev pub times_out : ℕ → Moment → Bool
times_out n m = expires_with n m.before m.said

-- failed with 5: Failed 5
abbrev pub misses_sn : Moment → Bool
misses_sn m = word_is (is_failed N_WRONG_SN) m.said

-- failed with 7: old code 7
abbrev pub old_is : ℕ → Says → Bool
old_is n (hears old w) = eqb old n
old_is n (expires receive send party) = false
old_is n accepts = false
old_is n (hands frame code party) = false
old_is n adopts = false

abbrev pub ends_old : Moment → Bool
ends_old m = old_is N_UNEXP_PDU m.said

-- turned away as too long: TooLong
abbrev pub turns_away : Moment → Bool
turns_away m = word_is is_too_long m.said

-- sent: code 1 with a frame handed over
abbrev pub hands_with : ℕ → Says → Bool
hands_with n (hears old w) = false
hands_with n (expires receive send party) = false
hands_with n accepts = false
hands_with n (hands frame code party) = eqb code n
hands_with n adopts = false

abbrev pub ends_sending : Moment → Bool
ends_sending m = hands_with N_OK m.said

-- failed in sending: Failed 6 or 9, or a send code of a tick
abbrev pub sending_fails : Says → Bool
sending_fails (hears old w) = is_failed N_INVALID_FS w || is_failed N_BUFFER_OVFLW w
sending_fails (expires receive send party) = not (eqb send 0)
sending_fails accepts = false
sending_fails (hands frame code party) = false
sending_fails adopts = false

abbrev pub fails_sending : Moment → Bool
fails_sending m = sending_fails m.said

-- the counts of a history
abbrev pub counts_of : List Moment → Card
counts_of ms =
    record {
      begun = how_many begins ms;
      delivered = how_many delivers ms;
      failed2 = how_many (times_out N_TIMEOUT_A) ms;
      failed4 = how_many (times_out N_TIMEOUT_Cr) ms;
      failed5 = how_many misses_sn ms;
      failed7 = how_many ends_old ms;
      toolong = how_many turns_away ms;
      sent = how_many ends_sending ms;
      unsent = how_many fails_sending ms;
    }

-- ---- the law

-- the receptions that failed, by any code
abbrev pub failed : Card → ℕ
failed c = c.failed2 + c.failed4 + c.failed5 + c.failed7

-- what the law says of a card and of the receive side beside it, after this history: each count is that of the history, and begun
-- equals delivered plus failed, plus one if the berth owes go or awaits
pub record Tallies (card : Card) (rx : Rx) (ms : List Moment) : Type 0 where
  pub counts : card ≡ counts_of ms
  pub balance : card.begun ≡ card.delivered + failed card + pick (under_way rx) 1 0

-- where the counting may start: a card of zeros, and no reception under way
pub record Unbegun (card : Card) (rx : Rx) : Type 0 where
  pub zeros : card ≡ zero_card
  pub idle : under_way rx ≡ false

-- the same of berth k's card and side, in what is lent
abbrev pub TalliesAt : ℕ → Held → List Moment → Type 0
TalliesAt k h ms = Tallies (card_at h.cards k) (berth_at h.node k).rx ms

abbrev pub UnbegunAt : ℕ → Held → Type 0
UnbegunAt k h = Unbegun (card_at h.cards k) (berth_at h.node k).rx

abbrev pub frozen_at : ℕ → Held → Bool
frozen_at k h = frozen (card_at h.cards k)
