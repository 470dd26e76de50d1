-- Runs, computed, that meet the premises of the laws: so the laws are about something.
use mathlib.Core.Path.{◌≡◌, refl, ap, ap₂, ◌∙◌}
use Prim.Native.Nat.{ℕ, ◌*◌, ◌≤◌, ◌<◌}
use native.Mathlib.Omega.{arith}
use mathlib.Core.Bool.{true, false}
use mathlib.Core.List.{List, [], ◌∷◌, ◌++◌, map}
use lib.ListN.{length, take, set, replicate}
use lib.Dec.{lit<, lit≤}
use Rattle.rules.specs.Tests.{all, first_unmet}
use Rattle.rules.specs.Numbers.{berth_count, the_laptop, N_TIMEOUT_A, N_TIMEOUT_Cr}
use Rattle.rules.specs.Parties.{scheduler, reporting}
use Rattle.rules.specs.Nodes.{fresh_with, fresh, with_rx, with_tx, berth_at, Held, with_berth}
use Rattle.rules.specs.Ranges.{InOrder, settings_allowed, in_block, taking_in_range, sending_in_range, berth_in_order, in_order}
use Rattle.rules.specs.Frames.{kind, low, single_fits, short_length, escape_length, announced, first_fits, consecutive_fits, flow_fits, padded, single_frame, first_frame, consecutive_frame, go_frame, first_sn, next_sn, counted, fills_block, ticks_meant, gap_of, share}
use Rattle.rules.specs.Arrivals.{ignored, single_came, begun, first_came, piece, grown, completed, after_took, took, wrong_sn, awaited_came, granted, by_status, heard_by, told_by, by_kind, frame_came, turned_away}
use Rattle.rules.specs.Ticks.{ran, ticked, codes_of}
use Rattle.rules.specs.Turns.{due, moved, after_consecutive, hand_over, begins_with, sent as sent_berth}
use Rattle.rules.specs.Changes.{value_allowed, changed_settings, changed as changed_berth}
use Rattle.rules.specs.Stores.{right_store, area_of, stored, ticked_node, served_node, set_up_node, distance, least_distance, passed_over, reached, came_at, handed_at}
use Rattle.rules.specs.Answers.{refused, heard, codes, sent, handed, shown, changed, receive, send as send_side, reported, failed_side, word_reports, codes_reports, reports}
use Rattle.rules.specs.Cards.{right_cards, added_at, ticked_cards, zero_card, card_at, frozen, raised, added, is_single, frame_adds, tick_adds, turn_adds, adds}
use Rattle.rules.specs.Events.{Call, frame, tick, send, turn, show, change, Event, arrives, ticks, sends, turns, changes}
use Rattle.rules.specs.Refusals.{needs, refusal, set_up_refusal}
use Rattle.rules.specs.Calls.{showable, shown_length, showing, after_frame, after_turn, done, reply, written, refused_outcome, outcome, set_up_outcome, outcomes, answers, final}
use Rattle.rules.specs.Alone.{part_of, Part, with_card, Says, hears, expires, accepts, hands, state_after, part_after, alone}
use Rattle.rules.specs.Clocks.{Idle, time_left, most_time, end_code}
use Rattle.rules.specs.declared.Settings.{Settings}
use Rattle.rules.specs.declared.BerthSettings.{BerthSettings}
use Rattle.rules.specs.declared.Party.{Party}
use Rattle.rules.specs.declared.Choice.{Choice}
use Rattle.rules.specs.declared.Taking.{Taking}
use Rattle.rules.specs.declared.Sending.{Sending}
use Rattle.rules.specs.declared.Rx.{Rx}
use Rattle.rules.specs.declared.Tx.{Tx}
use Rattle.rules.specs.declared.Berth.{Berth}
use Rattle.rules.specs.declared.Card.{Card}
use Rattle.rules.specs.Words.{Codes, Delivered, Failed, Ignored, Going}
use Rattle.rules.proofs.Ranges.{in-order-range}
use Rattle.laws.specs.Own.{over, only, own_done, own, owns, says_of, of_berth, Sound, set_up, fresh_part, Alone}
use Rattle.laws.specs.Histories.{Moment, history, moments, history_of, how_many}
use Rattle.laws.specs.Cards.{zero_cards, Tallies, TalliesAt, frozen_at}
use Rattle.laws.specs.Gaps.{TwoFrames, Ticking, Spaced}
use Rattle.laws.specs.Rounds.{served, turn_of, StaysDue, Fair}
use Rattle.laws.specs.Sides.{frame_side, of_side, handed_side, frames_by}
use Rattle.laws.specs.Line.{there, back, delivered_in, begun_in, World, left_a, left_b, carried_a, carried_b, Deed, at_a, at_b, set_up_b, carry_a, carry_b, acts, living, spares, AllApart, AtRest, begin, MayBegin, Arrived, blank}
use Rattle.laws.specs.Changes.{settings_after}
use Rattle.laws.specs.Parties.{NamesLast, unnamed_held, unnamed_outcome}
use Rattle.laws.specs.Free.{clock_at, reports_in, card_after, LeftAlone, ComesFree, AllComeFree}
use Rattle.laws.proofs.Isolation.{owns-append}
use Rattle.laws.proofs.SetUp.{each-alone, each-alone-after-set-up, sound-run}
use Rattle.laws.proofs.Changes.{run-settings}
use Rattle.laws.proofs.Parties.{run-names, names-after-set-up, parties-apart}
use Rattle.laws.proofs.Cards.{card-tallies, frozen-stays, tallies-after-set-up}
use Rattle.laws.proofs.Gaps.{run-spaced}
use Rattle.laws.proofs.Fairness.{fair}
use Rattle.laws.proofs.World.{line-law}
use Rattle.laws.proofs.Free.{ticks-owned, run-left-alone, run-comes-free, all-come-free}

-- ---- each berth alone: berth 3 awaits and times out, berth 5 sends and receives

abbrev pair_of : ℕ → ℕ → Codes
pair_of r s = record { receive = r; send = s; party = scheduler }

-- BS 2, STmin 0
abbrev pub two_own : BerthSettings
two_own = record { block = 2; stmin = 0 }

abbrev waiting_berth : Berth
waiting_berth = with_rx (fresh_with two_own) (Rx.Awaits (record { total = 8; got = 6; sn = first_sn; taken = 0 }) 998) 0

abbrev pub two : Held
two =
    record {
      node = record { settings = record { area = 8 }; served = 9; berths = set (replicate berth_count (fresh_with two_own)) 3 waiting_berth };
      incoming = replicate 80 0;
      outgoing = replicate 80 0;
      cards = zero_cards;
    }

-- a send, a change of berth 3, which awaits, and one of berth 5, an ignored frame of kind 7, a turn with a buffer too short, a tick, a turn, a
-- frame, the tick that ends berth 3's reception
abbrev pub two_run : List Call
two_run =
    send 5 0 (1 ∷ 2 ∷ 3 ∷ []) ∷ change 3 1 4 ∷ change 5 0 20 ∷ frame 0x643 (0x70 ∷ []) ∷ turn (0 ∷ []) ∷ tick ∷ turn blank
    ∷ frame 0x645 (0x02 ∷ 0xAA ∷ 0xBB ∷ []) ∷ tick ∷ show 5 Choice.Arrived ∷ []

pub two-sound : Sound two
unfolding in_order all berth_in_order taking_in_range in_block
two-sound = record { order = in-order-range two.node tt; incoming = refl; outgoing = refl; ten = refl }

-- the answers; what is berth 3's own, and what is berth 5's: the refused calls are in neither
pub two-computed : (answers two two_run
    ≡ sent 5 ∷ refused 15 ∷ changed 5 ∷ heard 3 0 (Ignored 2) ∷ refused 9 ∷ codes (replicate 10 (pair_of 0 0))
    ∷ handed 0x665 (0x03 ∷ 1 ∷ 2 ∷ 3 ∷ 0xCC ∷ 0xCC ∷ 0xCC ∷ 0xCC ∷ []) 1 5 scheduler ∷ heard 5 0 (Delivered 2)
    ∷ codes (set (replicate 10 (pair_of 0 0)) 3 (pair_of 4 0)) ∷ shown (0xAA ∷ 0xBB ∷ []) ∷ [])
    × (owns 3 two two_run ≡ arrives (0x70 ∷ []) ∷ ticks ∷ ticks ∷ [])
    × (owns 5 two two_run ≡ sends scheduler (1 ∷ 2 ∷ 3 ∷ []) ∷ changes 0 20 ∷ ticks ∷ turns ∷ arrives (0x02 ∷ 0xAA ∷ 0xBB ∷ []) ∷ ticks ∷ [])
unfolding owns own own_done answers final done reply written outcome refused_outcome refusal needs first_unmet right_store right_cards added_at ticked_cards berth_at in_order all berth_in_order taking_in_range sending_in_range in_block after_frame after_turn came_at frame_came by_kind kind low heard_by told_by ignored single_came single_fits with_berth stored ticked_node ticked ran codes_of sent_berth begins_with passed_over least_distance distance due reached served_node handed_at hand_over reporting area_of single_frame padded showing showable shown_length value_allowed changed_settings changed_berth
two-computed = (refl, refl, refl)

-- so each is as it would be alone
pub two-alone : Alone two.node.settings (part_of 3 two) 3 two (owns 3 two two_run) (answers two two_run) (final two two_run)
    × Alone two.node.settings (part_of 5 two) 5 two (owns 5 two two_run) (answers two two_run) (final two two_run)
two-alone = (each-alone two two_run 3 (lit< tt), each-alone two two_run 5 (lit< tt))

-- the same calls after a set-up of the same node, A 8, BS 2, STmin 0: berth 3 awaits nothing, so its change is answered, and no reception of it
-- ends
abbrev afresh : Held
afresh = set_up two two.node.settings two_own

pub afresh-computed : (set_up_refusal 8 2 0 ≡ 0)
    × (answers afresh two_run
    ≡ sent 5 ∷ changed 3 ∷ changed 5 ∷ heard 3 0 (Ignored 2) ∷ refused 9 ∷ codes (replicate 10 (pair_of 0 0))
    ∷ handed 0x665 (0x03 ∷ 1 ∷ 2 ∷ 3 ∷ 0xCC ∷ 0xCC ∷ 0xCC ∷ 0xCC ∷ []) 1 5 scheduler ∷ heard 5 0 (Delivered 2)
    ∷ codes (replicate 10 (pair_of 0 0)) ∷ shown (0xAA ∷ 0xBB ∷ []) ∷ [])
unfolding set_up_refusal set_up_outcome set_up_node answers final done reply written outcome refused_outcome refusal needs first_unmet right_store right_cards added_at ticked_cards berth_at in_order all settings_allowed berth_in_order taking_in_range sending_in_range in_block after_frame after_turn came_at frame_came by_kind kind low heard_by told_by ignored single_came single_fits with_berth stored ticked_node ticked ran codes_of sent_berth begins_with passed_over least_distance distance due reached served_node handed_at hand_over reporting area_of single_frame padded showing showable shown_length value_allowed changed_settings changed_berth
afresh-computed = (refl, refl)

-- so each is as it would be alone from fresh
pub afresh-alone : (k : ℕ) → k < berth_count → Alone two.node.settings (fresh_part two two.node.settings two_own k) k afresh (owns k afresh two_run) (answers afresh two_run) (final afresh two_run)
afresh-alone k l = each-alone-after-set-up two two.node.settings two_own two_run k l afresh-computed.0

-- and each has the settings of the set-up, with its own changes: BS 4 at berth 3, STmin 20 at berth 5, and none at berth 4
pub afresh-settings : ((berth_at (final afresh two_run).node 3).settings ≡ record { block = 4; stmin = 0 })
    × ((berth_at (final afresh two_run).node 5).settings ≡ record { block = 2; stmin = 20 })
    × ((berth_at (final afresh two_run).node 4).settings ≡ two_own)
unfolding owns own own_done settings_after set_up_refusal set_up_outcome set_up_node answers final done reply written outcome refused_outcome refusal needs first_unmet right_store right_cards added_at ticked_cards berth_at in_order all settings_allowed berth_in_order taking_in_range sending_in_range in_block after_frame after_turn came_at frame_came by_kind kind low heard_by told_by ignored single_came single_fits with_berth stored ticked_node ticked ran codes_of sent_berth begins_with passed_over least_distance distance due reached served_node handed_at hand_over reporting area_of single_frame padded showing showable shown_length value_allowed changed_settings changed_berth
afresh-settings = (run-settings 3 afresh two_run, run-settings 5 afresh two_run, run-settings 4 afresh two_run)

-- ---- fairness: all ten are due, berth 4 was served last, and nine others are served before it

abbrev pub crowd : Held
crowd =
    record {
      node = record {
        settings = record { area = 8 };
        served = 4;
        berths = replicate berth_count (with_tx fresh (Tx.SingleDue scheduler 1 0));
      };
      incoming = replicate 80 0;
      outgoing = replicate 80 7;
      cards = zero_cards;
    }

abbrev pub crowd_run : List Call
crowd_run = replicate 10 (turn blank)

pub crowd-computed : (over turn_of (answers crowd crowd_run)
    ≡ served 5 ∷ served 6 ∷ served 7 ∷ served 8 ∷ served 9 ∷ served 0 ∷ served 1 ∷ served 2 ∷ served 3 ∷ served 4 ∷ [])
    × StaysDue 4 crowd crowd_run
unfolding StaysDue over turn_of answers final done reply written outcome refused_outcome refusal needs first_unmet right_store right_cards added_at ticked_cards berth_at in_order all berth_in_order taking_in_range sending_in_range in_block after_frame after_turn came_at frame_came by_kind kind low heard_by told_by ignored single_came single_fits with_berth stored ticked_node ticked ran codes_of sent_berth begins_with passed_over least_distance distance due reached served_node handed_at hand_over reporting area_of single_frame padded showing showable shown_length
crowd-computed = (refl, ((λ e. tt), ((λ e. tt), ((λ e. tt), ((λ e. tt), ((λ e. tt), ((λ e. tt), ((λ e. tt), ((λ e. tt), ((λ e. tt), ((λ e. tt), tt)))))))))))

pub crowd-fair : Fair 4 (over turn_of (answers crowd crowd_run))
crowd-fair = fair 4 (lit< tt) crowd crowd_run crowd-computed.1

-- ---- the line's law: A 36 and 40, BS 8 and 2, STmin 0 and 1. 36 bytes in five consecutive frames, three blocks, a gap of two ticks; berth
-- 6 of A and the send side of B's berth 7 have traffic of their own, a set-up of B is refused, and a frame of kind 5 comes to the taker

abbrev node_of : ℕ → ℕ → ℕ → Held
node_of a bs stmin =
    record {
      node = set_up_node (record { area = a }) (record { block = bs; stmin = stmin });
      incoming = replicate (10 * a) 0;
      outgoing = replicate (10 * a) 0;
      cards = zero_cards;
    }

abbrev pub harbour : Held
harbour = node_of 36 8 0

abbrev pub mast : Held
mast = node_of 40 2 1

abbrev pub programme : List ℕ
programme =
    1 ∷ 2 ∷ 3 ∷ 4 ∷ 5 ∷ 6 ∷ 7 ∷ 8 ∷ 9 ∷ 10 ∷ 11 ∷ 12 ∷ 13 ∷ 14 ∷ 15 ∷ 16 ∷ 17 ∷ 18 ∷ 19 ∷ 20 ∷ 21 ∷ 22 ∷ 23 ∷ 24 ∷
    25 ∷ 26 ∷ 27 ∷ 28 ∷ 29 ∷ 30 ∷ 31 ∷ 32 ∷ 33 ∷ 34 ∷ 35 ∷ 36 ∷ []

abbrev pub deeds : List Deed
deeds =
    set_up_b 7 0 0 ∷ at_a (send 6 1 (9 ∷ [])) ∷ at_a (turn blank) ∷ carry_b ∷ at_b (frame 0x647 (0x50 ∷ 1 ∷ [])) ∷ at_b (send 7 0 (5 ∷ [])) ∷
    at_b (turn blank) ∷ at_b (turn blank) ∷ carry_a ∷ at_a (turn blank) ∷ at_a (turn blank) ∷ carry_b ∷ at_a tick ∷
    at_b tick ∷ at_a tick ∷ at_b tick ∷ at_a (turn blank) ∷ carry_b ∷ at_b (turn blank) ∷ carry_a ∷ at_a (turn blank) ∷
    carry_b ∷ at_a tick ∷ at_b tick ∷ at_a tick ∷ at_b tick ∷ at_a (turn blank) ∷ carry_b ∷ at_b (turn blank) ∷ carry_a ∷
    at_a (turn blank) ∷ carry_b ∷ []

-- either party may send
pub may-begin : (party : ℕ) → party ≤ the_laptop → MayBegin 2 7 party programme harbour mast
unfolding set_up_node berth_at in_order all berth_in_order
may-begin party allowed =
    record {
      small-i = lit< tt;
      small-j = lit< tt;
      sound-a = record { order = in-order-range harbour.node tt; incoming = refl; outgoing = refl; ten = refl };
      sound-b = record { order = in-order-range mast.node tt; incoming = refl; outgoing = refl; ten = refl };
      idle-a = refl;
      idle-b = refl;
      allowed = allowed;
      some = lit≤ tt;
      fits-a = lit≤ tt;
      fits-b = lit≤ tt;
    }

-- the deeds keep apart, they end at rest, and this was handed over
pub deeds-computed : AllApart 2 7 (begin 2 0 programme harbour mast) deeds
    × AtRest 2 7 (living 2 7 (begin 2 0 programme harbour mast) deeds)
    × ((living 2 7 (begin 2 0 programme harbour mast) deeds).log
    ≡ there (0x10 ∷ 36 ∷ 1 ∷ 2 ∷ 3 ∷ 4 ∷ 5 ∷ 6 ∷ [])
    ∷ back (0x30 ∷ 2 ∷ 1 ∷ 0xCC ∷ 0xCC ∷ 0xCC ∷ 0xCC ∷ 0xCC ∷ [])
    ∷ there (0x21 ∷ 7 ∷ 8 ∷ 9 ∷ 10 ∷ 11 ∷ 12 ∷ 13 ∷ [])
    ∷ there (0x22 ∷ 14 ∷ 15 ∷ 16 ∷ 17 ∷ 18 ∷ 19 ∷ 20 ∷ [])
    ∷ back (0x30 ∷ 2 ∷ 1 ∷ 0xCC ∷ 0xCC ∷ 0xCC ∷ 0xCC ∷ 0xCC ∷ [])
    ∷ there (0x23 ∷ 21 ∷ 22 ∷ 23 ∷ 24 ∷ 25 ∷ 26 ∷ 27 ∷ [])
    ∷ there (0x24 ∷ 28 ∷ 29 ∷ 30 ∷ 31 ∷ 32 ∷ 33 ∷ 34 ∷ [])
    ∷ back (0x30 ∷ 2 ∷ 1 ∷ 0xCC ∷ 0xCC ∷ 0xCC ∷ 0xCC ∷ 0xCC ∷ [])
    ∷ there (0x25 ∷ 35 ∷ 36 ∷ 0xCC ∷ 0xCC ∷ 0xCC ∷ 0xCC ∷ 0xCC ∷ [])
    ∷ [])
unfolding AllApart spares frame_side living acts left_a left_b carried_a carried_b frames_by handed_side of_side of_berth only reports reported word_reports codes_reports failed_side says_of delivered_in over answers final done reply written outcome refused_outcome refusal needs first_unmet right_store right_cards added_at ticked_cards berth_at in_order all settings_allowed berth_in_order taking_in_range sending_in_range in_block after_frame after_turn came_at frame_came by_kind kind low heard_by told_by ignored single_came single_fits with_berth stored ticked_node ticked ran codes_of sent_berth begins_with passed_over least_distance distance due reached served_node handed_at hand_over reporting area_of single_frame padded showing showable shown_length set_up_node first_came short_length escape_length announced first_fits begun awaited_came consecutive_fits piece grown completed after_took took wrong_sn counted fills_block next_sn share flow_fits by_status granted ticks_meant gap_of go_frame first_frame consecutive_frame moved after_consecutive set_up_outcome set_up_refusal
deeds-computed = (
  (lit< tt, ((λ e. tt), ((λ e. tt), (tt, ((λ e. tt), ((λ e. tt), ((λ e. tt), ((λ e. tt), (tt, ((λ e. tt), ((λ e. tt), (tt, ((λ e. tt), ((λ e. tt), ((λ e. tt), ((λ e. tt), ((λ e. tt), (tt, ((λ e. tt), (tt, ((λ e. tt), (tt, ((λ e. tt), ((λ e. tt), ((λ e. tt), ((λ e. tt), ((λ e. tt), (tt, ((λ e. tt), (tt, ((λ e. tt), (tt, tt)))))))))))))))))))))))))))))))),
  record { none-there = refl; none-back = refl; none-due = refl; no_gap = refl; no_flow = refl },
  refl,
)

pub programme-arrived : Arrived 2 7 0 programme (living 2 7 (begin 2 0 programme harbour mast) deeds)
programme-arrived = line-law 2 7 0 programme harbour mast (may-begin 0 (lit≤ tt)) deeds deeds-computed.0 deeds-computed.1

-- ---- the same message by the laptop, and the taker's berth is changed to BS 4 and STmin 0 after the first frame was handed over and before it
-- comes in: two blocks, and no gap. From Begun on a change of it is refused with 15, and after Delivered answered; the sender's berth is changed
-- under way

abbrev pub to_begun : List Deed
to_begun = at_a (turn blank) ∷ at_b (change 7 1 4) ∷ at_b (change 7 0 0) ∷ carry_b ∷ []

abbrev pub from_begun : List Deed
from_begun =
    at_b (change 7 1 1) ∷ at_a (change 2 1 3) ∷ at_b (turn blank) ∷ carry_a ∷ at_a (turn blank) ∷ carry_b ∷ at_a (turn blank) ∷ carry_b ∷
    at_a (turn blank) ∷ carry_b ∷ at_a (turn blank) ∷ carry_b ∷ at_b (turn blank) ∷ carry_a ∷ at_a (turn blank) ∷ carry_b ∷ at_b (change 7 1 1) ∷ []

abbrev pub changing : List Deed → World
changing ds = living 2 7 (begin 2 1 programme harbour mast) ds

pub changes-computed : AllApart 2 7 (begin 2 1 programme harbour mast) (to_begun ++ from_begun)
    × AtRest 2 7 (changing (to_begun ++ from_begun))
    × (refusal (changing to_begun).b (change 7 1 1) ≡ 15)
    × ((changing (to_begun ++ from_begun)).begun ≡ record { block = 4; stmin = 0 } ∷ [])
    × ((berth_at (changing (to_begun ++ from_begun)).b.node 7).settings ≡ record { block = 1; stmin = 0 })
    × ((changing (to_begun ++ from_begun)).log
    ≡ there (0x10 ∷ 36 ∷ 1 ∷ 2 ∷ 3 ∷ 4 ∷ 5 ∷ 6 ∷ [])
    ∷ back (0x30 ∷ 4 ∷ 0 ∷ 0xCC ∷ 0xCC ∷ 0xCC ∷ 0xCC ∷ 0xCC ∷ [])
    ∷ there (0x21 ∷ 7 ∷ 8 ∷ 9 ∷ 10 ∷ 11 ∷ 12 ∷ 13 ∷ [])
    ∷ there (0x22 ∷ 14 ∷ 15 ∷ 16 ∷ 17 ∷ 18 ∷ 19 ∷ 20 ∷ [])
    ∷ there (0x23 ∷ 21 ∷ 22 ∷ 23 ∷ 24 ∷ 25 ∷ 26 ∷ 27 ∷ [])
    ∷ there (0x24 ∷ 28 ∷ 29 ∷ 30 ∷ 31 ∷ 32 ∷ 33 ∷ 34 ∷ [])
    ∷ back (0x30 ∷ 4 ∷ 0 ∷ 0xCC ∷ 0xCC ∷ 0xCC ∷ 0xCC ∷ 0xCC ∷ [])
    ∷ there (0x25 ∷ 35 ∷ 36 ∷ 0xCC ∷ 0xCC ∷ 0xCC ∷ 0xCC ∷ 0xCC ∷ [])
    ∷ [])
unfolding
    AllApart spares living acts left_a left_b carried_a carried_b frames_by handed_side of_side of_berth only reports reported word_reports says_of
    delivered_in begun_in over done reply outcome refused_outcome refusal needs first_unmet right_store right_cards added_at berth_at in_order all
    berth_in_order taking_in_range sending_in_range in_block after_frame after_turn came_at frame_came by_kind kind low heard_by told_by with_berth stored
    sent_berth begins_with passed_over least_distance distance due reached served_node handed_at hand_over reporting area_of padded set_up_node first_came
    short_length escape_length announced first_fits begun awaited_came consecutive_fits piece grown completed after_took took counted fills_block
    next_sn share flow_fits by_status granted ticks_meant gap_of go_frame first_frame consecutive_frame moved after_consecutive value_allowed
    changed_settings changed_berth
changes-computed = (
  ((λ e. tt), ((λ e. tt), ((λ e. tt), (tt, ((λ e. tt), ((λ e. tt), ((λ e. tt), (tt, ((λ e. tt), (tt, ((λ e. tt), (tt, ((λ e. tt), (tt, ((λ e. tt), (tt, ((λ e. tt), (tt, ((λ e. tt), (tt, ((λ e. tt), tt))))))))))))))))))))),
  record { none-there = refl; none-back = refl; none-due = refl; no_gap = refl; no_flow = refl },
  refl,
  refl,
  refl,
  refl,
)

pub changed-arrived : Arrived 2 7 1 programme (changing (to_begun ++ from_begun))
changed-arrived = line-law 2 7 1 programme harbour mast (may-begin 1 (lit≤ tt)) (to_begun ++ from_begun) changes-computed.0 changes-computed.1

-- ---- the law of the gaps: berth 6 asks for 5 ms, and a frame is called for after each tick

abbrev asks_five : List ℕ
asks_five = 0x30 ∷ 0 ∷ 5 ∷ []

abbrev pub to_six : List Call
to_six =
    send 6 0 (take 20 programme) ∷ turn blank ∷ frame 0x646 asks_five ∷ turn blank ∷ tick ∷ turn blank ∷ tick ∷ turn blank ∷ tick ∷ turn blank ∷
    tick ∷ turn blank ∷ tick ∷ turn blank ∷ tick ∷ turn blank ∷ []

abbrev moment : Event → Says → Moment
moment e x = record { before = Rx.Idle; event = e; said = x }

abbrev quiet_tick : Moment
quiet_tick = moment ticks (expires 0 0 scheduler)

abbrev before_going : List Moment
before_going = moment (sends scheduler (take 20 programme)) accepts ∷ moment turns (hands (0x10 ∷ 20 ∷ 1 ∷ 2 ∷ 3 ∷ 4 ∷ 5 ∷ 6 ∷ []) 0 scheduler) ∷ []

abbrev first_of_two : Moment
first_of_two = moment turns (hands (0x21 ∷ 7 ∷ 8 ∷ 9 ∷ 10 ∷ 11 ∷ 12 ∷ 13 ∷ []) 0 scheduler)

abbrev second_of_two : Moment
second_of_two = moment turns (hands (0x22 ∷ 14 ∷ 15 ∷ 16 ∷ 17 ∷ 18 ∷ 19 ∷ 20 ∷ []) 1 scheduler)

-- the turns after each of the first five ticks answer None, the one after the sixth is berth 6's
pub to-six-computed : history_of 6 harbour to_six
    ≡ before_going ++ (moment (arrives asks_five) (hears 0 Going) ∷ [] ++ (first_of_two ∷ replicate 6 quiet_tick ++ second_of_two ∷ []))
unfolding
    history_of moments own own_done says_of outcome done reply refusal needs first_unmet right_store right_cards added_at ticked_cards
    berth_at in_order all berth_in_order sending_in_range in_block after_frame after_turn came_at frame_came by_kind kind low
    told_by with_berth stored ticked_node ticked ran codes_of sent_berth begins_with passed_over least_distance distance due reached served_node
    handed_at hand_over reporting area_of padded set_up_node flow_fits by_status granted ticks_meant gap_of first_frame consecutive_frame counted fills_block
    next_sn share moved after_consecutive
to-six-computed = refl

pub six_frames : TwoFrames (history_of 6 harbour to_six)
unfolding kind how_many
six_frames =
    record {
      earlier = before_going;
      going = moment (arrives asks_five) (hears 0 Going);
      since = [];
      first = first_of_two;
      between = replicate 6 quiet_tick;
      second = second_of_two;
      later = [];
      splits = to-six-computed;
      is-going = tt;
      none-since = refl;
      first-hands = tt;
      none_between = refl;
      second-hands = tt;
    }

pub six-spaced : Spaced six_frames
six-spaced = run-spaced 6 harbour to_six six_frames

-- so 5 ms pass between the two, by ticks 1,000 microseconds apart
pub six-in-time : (end : ℕ) (times : List ℕ) → length times ≡ 6 → Ticking 1000 0 end times → 5000 ≤ end
unfolding ticks_meant six_frames how_many
six-in-time end times = six-spaced.time 1000 0 end times

-- six ticks of which the first falls right behind the hand-over; of such ticks five are just over 4 ms
pub right-behind : Ticking 1000 0 5001 (1 ∷ 1001 ∷ 2001 ∷ 3001 ∷ 4001 ∷ 5001 ∷ []) × Ticking 1000 0 4001 (1 ∷ 1001 ∷ 2001 ∷ 3001 ∷ 4001 ∷ [])
right-behind = (
  (lit≤ tt, (lit≤ tt, (lit≤ tt, (lit≤ tt, (lit≤ tt, (lit≤ tt, lit≤ tt)))))),
  (lit≤ tt, (lit≤ tt, (lit≤ tt, (lit≤ tt, (lit≤ tt, lit≤ tt))))),
)

-- ---- all kinds of ends on one berth: A 8, BS 0, STmin 0

abbrev eight : Settings
eight = record { area = 8 }

abbrev new_part : Part
new_part = record { berth = fresh; incoming = replicate 8 0; outgoing = replicate 8 0; card = zero_card }

-- a single frame, the first frames of a message of eight bytes and of one too long, the second frame, and one with another SN
abbrev single : Event
single = arrives (0x02 ∷ 0xAA ∷ 0xBB ∷ [])

abbrev first : Event
first = arrives (0x10 ∷ 8 ∷ 1 ∷ 2 ∷ 3 ∷ 4 ∷ 5 ∷ 6 ∷ [])

abbrev too_long : Event
too_long = arrives (0x10 ∷ 9 ∷ 1 ∷ 2 ∷ 3 ∷ 4 ∷ 5 ∷ 6 ∷ [])

abbrev second : Event
second = arrives (0x21 ∷ 7 ∷ 8 ∷ [])

abbrev wrong : Event
wrong = arrives (0x22 ∷ 7 ∷ 8 ∷ [])

-- flow control that says overflow, and with a status that has no meaning
abbrev overflow : Event
overflow = arrives (0x32 ∷ 0 ∷ 0 ∷ [])

abbrev unknown : Event
unknown = arrives (0x35 ∷ 0 ∷ 0 ∷ [])

-- sends of one byte and of eight; the ticks that end a side whose timer is 0
abbrev short : Event
short = sends scheduler (9 ∷ [])

abbrev long : Event
long = sends scheduler (1 ∷ 2 ∷ 3 ∷ 4 ∷ 5 ∷ 6 ∷ 7 ∷ 8 ∷ [])

abbrev thousand : List Event
thousand = replicate 1000 ticks

-- a single frame; a message in two frames; a message sent. A reception whose go and a message whose frame nobody calls for: code 2 of both
-- sides in one tick. A reception whose second frame and a message whose flow control do not come: codes 4 and 3 in one tick. A wrong SN;
-- a message that ends with 9, and one with 6. A reception that a first frame cuts off, and that one's, which a single frame does; one that
-- a message too long does, whose overflow nobody calls for: code 2, and nothing failed. A frame that is ignored
abbrev all_ends : List Event
all_ends =
    single ∷ first ∷ turns ∷ second ∷ short ∷ turns ∷ first ∷ short ∷
    (thousand ++ first ∷ turns ∷ long ∷ turns ∷
    (thousand ++ first ∷ turns ∷ wrong ∷ long ∷ turns ∷ overflow ∷ long ∷ turns ∷ unknown ∷ first ∷ first ∷ single ∷ first ∷ too_long ∷
    (thousand ++ arrives [] ∷ [])))

-- then one more message begins
pub all-ends-computed : (frozen (alone eight new_part all_ends).card ≡ false)
    × ((alone eight new_part (all_ends ++ first ∷ [])).card
    ≡ record { begun = 10; delivered = 3; failed2 = 1; failed4 = 1; failed5 = 1; failed7 = 3; toolong = 1; sent = 1; unsent = 4 })
unfolding
    kind low single_fits short_length escape_length announced first_fits consecutive_fits flow_fits padded single_frame first_frame go_frame
    share ignored single_came begun first_came turned_away piece completed wrong_sn awaited_came by_status heard_by told_by by_kind frame_came
    ran ticked hand_over reporting begins_with sent_berth frozen added is_single frame_adds tick_adds turn_adds adds state_after part_after alone
all-ends-computed = (refl, refl)

-- so these are the counts of its history, and the ten begun are three delivered, six failed and the one under way
pub all-ends-tallied : Tallies (alone eight new_part (all_ends ++ first ∷ [])).card (alone eight new_part (all_ends ++ first ∷ [])).berth.rx (history eight new_part (all_ends ++ first ∷ []))
all-ends-tallied = card-tallies eight new_part all_ends first (record { zeros = refl; idle = refl }) all-ends-computed.0

-- ---- a run of the node: ten calls after a set-up, in which berth 5 sends a message and hears a single frame, and a tick

pub afresh-cards : (frozen_at 5 (final afresh two_run) ≡ false)
    × (card_at (final afresh (two_run ++ tick ∷ [])).cards 5
    ≡ record { begun = 1; delivered = 1; failed2 = 0; failed4 = 0; failed5 = 0; failed7 = 0; toolong = 0; sent = 1; unsent = 0 })
unfolding
    set_up_refusal set_up_outcome set_up_node final done outcome refused_outcome refusal needs first_unmet right_store right_cards added_at
    ticked_cards berth_at in_order all settings_allowed berth_in_order taking_in_range sending_in_range in_block after_frame
    after_turn came_at frame_came by_kind kind low heard_by told_by ignored single_came single_fits with_berth stored ticked_node ticked ran
    sent_berth begins_with passed_over least_distance distance due reached served_node handed_at hand_over reporting area_of single_frame padded card_at
    frozen added is_single frame_adds tick_adds turn_adds value_allowed changed_settings changed_berth
afresh-cards = (refl, refl)

pub afresh-tallied : TalliesAt 5 (final afresh (two_run ++ tick ∷ [])) (history_of 5 afresh (two_run ++ tick ∷ []))
afresh-tallied = tallies-after-set-up two two.node.settings two_own two_run tick 5 (lit< tt) afresh-computed.0 refl afresh-cards.0

-- ---- the edge where a card freezes: begun is one below the most, and no reception is under way

abbrev part_with : (begun delivered : ℕ) → Part
part_with begun delivered =
    with_card new_part (record { begun = begun; delivered = delivered; failed2 = 0; failed4 = 0; failed5 = 0; failed7 = 1; toolong = 0; sent = 7; unsent = 0 })

-- a single frame freezes the card and counts in full; another one, a message too long and a message sent leave it
pub edge-computed : (frozen (part_with 4294967294 4294967293).card ≡ false)
    × ((alone eight (part_with 4294967294 4294967293) (single ∷ [])).card ≡ (part_with 4294967295 4294967294).card)
    × (frozen (part_with 4294967295 4294967294).card ≡ true)
    × ((alone eight (part_with 4294967294 4294967293) (single ∷ single ∷ too_long ∷ turns ∷ short ∷ turns ∷ [])).card ≡ (part_with 4294967295 4294967294).card)
unfolding
    kind low single_fits short_length escape_length announced first_fits single_came first_came turned_away heard_by by_kind frame_came
    hand_over reporting begins_with sent_berth frozen added is_single frame_adds turn_adds adds state_after part_after alone
edge-computed = (refl, refl, refl, refl)

-- and so do any events
pub edge-frozen : (es : List Event) → (alone eight (part_with 4294967295 4294967294) es).card ≡ (part_with 4294967295 4294967294).card
edge-frozen es = frozen-stays eight (part_with 4294967295 4294967294) es edge-computed.2

-- ---- every berth comes free: a node with every state of a side, A 8, BS 2, STmin 0; berth 6 sends for the laptop

abbrev taking : ℕ → Taking
taking taken = record { total = 8; got = 6; sn = first_sn; taken = taken }

abbrev sending : ℕ → Sending
sending left = record { length = 8; position = 6; sn = first_sn; block = 0; sent = 0; gap = 128; left = left }

abbrev berth_of : Rx → ℕ → Tx → Berth
berth_of rx last tx = record { settings = two_own; rx = rx; last = last; tx = tx }

abbrev pub laptop : Party
laptop = record { 0 = the_laptop }

abbrev pub stuck : Held
stuck =
    record {
      node = record {
        settings = record { area = 8 };
        served = 3;
        berths =
            berth_of (Rx.OwesOverflow 999) 5 Tx.Idle ∷ berth_of (Rx.OwesGo (taking 0) 0) 0 (Tx.SingleDue scheduler 3 999)
            ∷ berth_of (Rx.Awaits (taking 1) 400) 0 (Tx.FirstDue scheduler 8 0) ∷ berth_of Rx.Idle 8 (Tx.AwaitsFlow scheduler (sending 0) 998) ∷ fresh_with two_own
            ∷ berth_of Rx.Idle 0 (Tx.Consecutive scheduler (sending 0) 500) ∷ berth_of (Rx.Awaits (taking 0) 0) 0 (Tx.Consecutive laptop (sending 128) 0)
            ∷ replicate 3 (fresh_with two_own);
      };
      incoming = replicate 80 1;
      outgoing = replicate 80 2;
      cards = zero_cards;
    }

pub stuck-sound : Sound stuck
unfolding in_order all berth_in_order taking_in_range sending_in_range in_block
stuck-sound = record { order = in-order-range stuck.node tt; incoming = refl; outgoing = refl; ten = refl }

pub stuck-free : AllComeFree stuck (answers stuck (replicate most_time tick)) (final stuck (replicate most_time tick))
stuck-free = all-come-free stuck stuck-sound.order stuck-sound.ten most_time (lit≤ tt)

-- berth 6 has 1,000 and 1,128 ticks left, and ends with 4 and with 2
pub stuck-six : (time_left (clock_at receive 6 stuck) ≡ 1000) × (end_code (clock_at receive 6 stuck) ≡ N_TIMEOUT_Cr)
    × (time_left (clock_at send_side 6 stuck) ≡ 1128) × (end_code (clock_at send_side 6 stuck) ≡ N_TIMEOUT_A)
unfolding berth_at
stuck-six = (refl, refl, refl, refl)

-- so it reports these
pub stuck-reports : (reports_in receive 6 (answers stuck (replicate most_time tick)) ≡ record { berth = 6; side = receive; code = 4; party = scheduler } ∷ [])
    × (reports_in send_side 6 (answers stuck (replicate most_time tick)) ≡ record { berth = 6; side = send_side; code = 2; party = laptop } ∷ [])
unfolding berth_at
stuck-reports = (
  (stuck-free.each 6 (lit< tt)).one_code receive (λ e. let z : ◌≡◌ {A = ℕ} 0 1 = cc in omega arith),
  (stuck-free.each 6 (lit< tt)).one_code send_side (λ e. let z : ◌≡◌ {A = ℕ} 0 1 = cc in omega arith),
)

-- its card counts both; one that the first of them freezes stays there; and the overflow owed at berth 0 is not counted
abbrev failing : (failed4 unsent : ℕ) → Card
failing failed4 unsent = record { begun = 0; delivered = 0; failed2 = 0; failed4 = failed4; failed5 = 0; failed7 = 0; toolong = 0; sent = 0; unsent = unsent }

stuck-cards : (card_after most_time (berth_at stuck.node 6) zero_card ≡ failing 1 1)
    × (card_after most_time (berth_at stuck.node 6) (failing 4294967294 0) ≡ failing 4294967295 0)
    × (card_after most_time (berth_at stuck.node 0) zero_card ≡ zero_card)
unfolding berth_at card_after added frozen tick_adds
stuck-cards = (refl, refl, refl)

pub stuck-counted : card_at (final stuck (replicate most_time tick)).cards 6 ≡ failing 1 1
unfolding card_at
stuck-counted = (stuck-free.each 6 (lit< tt)).card ∙ stuck-cards.0

-- it is not frozen, and so has grown by just these
pub stuck-grown : card_at (final stuck (replicate most_time tick)).cards 6 ≡ raised zero_card (tick_adds true N_TIMEOUT_Cr N_TIMEOUT_A)
unfolding card_at berth_at frozen
stuck-grown = (stuck-free.each 6 (lit< tt)).grown (ap frozen stuck-counted)

-- the others are live: berth 8 hears a single frame, a message is sent to berth 9, and berth 5 has a turn; of these calls the tick alone is
-- berth 6's own
abbrev pub live : List Call
live = frame 0x648 (0x02 ∷ 0xAA ∷ 0xBB ∷ []) ∷ send 9 1 (1 ∷ 2 ∷ 3 ∷ []) ∷ tick ∷ turn blank ∷ []

live-computed : (answers stuck live
    ≡ heard 8 0 (Delivered 2) ∷ sent 9
    ∷ codes (pair_of 2 0 ∷ pair_of 0 2 ∷ replicate 8 (pair_of 0 0))
    ∷ handed 0x665 (0x21 ∷ 2 ∷ 2 ∷ 0xCC ∷ 0xCC ∷ 0xCC ∷ 0xCC ∷ 0xCC ∷ []) 1 1 scheduler ∷ [])
    × (owns 6 stuck live ≡ ticks ∷ [])
unfolding
    owns own own_done answers done reply outcome refusal needs first_unmet right_store right_cards added_at ticked_cards berth_at in_order all
    berth_in_order taking_in_range sending_in_range in_block after_frame after_turn came_at frame_came by_kind kind low heard_by single_came
    single_fits with_berth stored ticked_node ticked ran codes_of sent_berth begins_with passed_over least_distance distance due reached served_node
    handed_at hand_over reporting area_of consecutive_frame share padded
live-computed = (refl, refl)

pub live_owned : owns 6 stuck (live ++ replicate 1127 tick) ≡ replicate most_time ticks
live_owned =
    let sound = sound-run stuck live stuck-sound in
    owns-append 6 stuck live (replicate 1127 tick)
    ∙ ap₂ (λ (x y : List Event). x ++ y) live-computed.1 (ticks-owned 6 1127 (final stuck live) sound.order sound.ten)

pub live-left-alone : LeftAlone most_time 6 stuck (answers stuck (live ++ replicate 1127 tick)) (final stuck (live ++ replicate 1127 tick))
live-left-alone = run-left-alone most_time 6 stuck (live ++ replicate 1127 tick) stuck-sound.order (lit< tt) live_owned

pub live-free : ComesFree 6 stuck (answers stuck (live ++ replicate 1127 tick)) (final stuck (live ++ replicate 1127 tick))
live-free = run-comes-free most_time 6 stuck (live ++ replicate 1127 tick) stuck-sound.order (lit< tt) live_owned (lit≤ tt)

-- ---- 1,127 ticks do not suffice: after a set-up a message to berth 6 is under way whose taker asks for 7F, and one consecutive frame of it was
-- handed over

abbrev pub dip : List Call
dip = send 6 1 (take 20 programme) ∷ turn blank ∷ frame 0x646 (0x30 ∷ 0 ∷ 0x7F ∷ []) ∷ turn blank ∷ []

dipped-time : time_left (clock_at send_side 6 (final harbour dip)) ≡ most_time
unfolding
    final outcome done reply refusal needs first_unmet right_store right_cards added_at ticked_cards berth_at in_order all
    berth_in_order sending_in_range in_block after_frame after_turn came_at frame_came by_kind kind low told_by with_berth stored sent_berth begins_with
    passed_over least_distance distance due reached served_node handed_at hand_over reporting area_of padded set_up_node flow_fits by_status granted
    ticks_meant gap_of first_frame consecutive_frame counted fills_block next_sn share moved after_consecutive
dipped-time = refl

abbrev pub dipped : Held
dipped = final harbour dip

pub dipped-sound : Sound dipped
dipped-sound = sound-run harbour dip (may-begin 0 (lit≤ tt)).sound-a

-- IT IS IN ORDER, AND NO FEWER THAN 1,128 TICKS FREE IT
pub sharp : InOrder dipped.node × ((n : ℕ) → n < most_time → Idle send_side (berth_at (final dipped (replicate n tick)).node 6) → ⊥)
sharp = (
  dipped-sound.order,
  λ n few idle.
      let owned = ticks-owned 6 n dipped dipped-sound.order dipped-sound.ten in
      let left = (run-left-alone n 6 dipped (replicate n tick) dipped-sound.order (lit< tt) owned).left send_side in
      let none : time_left (clock_at send_side 6 (final dipped (replicate n tick))) ≡ 0 = rw idle in
      omega (arith, left, none, dipped-time),
)

-- ---- the service laptop: after a set-up with A 8 and BS 2 one party sends three bytes to berth 3 and the other eight to berth 4, and then each to
-- the other's berth

abbrev pub shared : (one other : ℕ) → List Call
shared one other =
    send 3 one (1 ∷ 2 ∷ 3 ∷ []) ∷ send 4 other (replicate 8 5) ∷ send 3 other (9 ∷ []) ∷ send 4 2 (9 ∷ []) ∷ turn blank ∷ turn blank
    ∷ frame 0x644 (0x32 ∷ 0 ∷ 0 ∷ []) ∷ send 3 other (9 ∷ []) ∷ send 4 one (replicate 8 5) ∷ turn blank ∷ turn blank ∷ frame 0x644 (0x35 ∷ 0 ∷ 0 ∷ []) ∷ []

-- the laptop's to berth 3 first: while it is being sent the scheduler's is refused with 8, and a third party with 18; each report names the
-- party of the last answered send
pub shared-computed : (answers afresh (shared 1 0)
    ≡ sent 3 ∷ sent 4 ∷ refused 8 ∷ refused 18
    ∷ handed 0x663 (0x03 ∷ 1 ∷ 2 ∷ 3 ∷ 0xCC ∷ 0xCC ∷ 0xCC ∷ 0xCC ∷ []) 1 3 laptop
    ∷ handed 0x664 (0x10 ∷ 8 ∷ 5 ∷ 5 ∷ 5 ∷ 5 ∷ 5 ∷ 5 ∷ []) 0 0 scheduler
    ∷ heard 4 0 (Failed 9 scheduler) ∷ sent 3 ∷ sent 4
    ∷ handed 0x663 (0x01 ∷ 9 ∷ 0xCC ∷ 0xCC ∷ 0xCC ∷ 0xCC ∷ 0xCC ∷ 0xCC ∷ []) 1 8 scheduler
    ∷ handed 0x664 (0x10 ∷ 8 ∷ 5 ∷ 5 ∷ 5 ∷ 5 ∷ 5 ∷ 5 ∷ []) 0 0 scheduler
    ∷ heard 4 0 (Failed 6 laptop) ∷ [])
    × (over reports (answers afresh (shared 1 0))
    ≡ record { berth = 3; side = send_side; code = 1; party = laptop } ∷ record { berth = 4; side = send_side; code = 9; party = scheduler }
    ∷ record { berth = 3; side = send_side; code = 1; party = scheduler } ∷ record { berth = 4; side = send_side; code = 6; party = laptop } ∷ [])
unfolding
    over reports reported word_reports failed_side set_up_refusal set_up_outcome set_up_node answers done reply outcome refused_outcome refusal needs first_unmet right_store
    right_cards added_at berth_at in_order all settings_allowed berth_in_order sending_in_range in_block after_frame after_turn came_at frame_came by_kind kind low
    told_by with_berth stored sent_berth begins_with passed_over least_distance distance due reached served_node handed_at hand_over reporting
    area_of single_frame first_frame padded flow_fits by_status
shared-computed = (refl, refl)

pub shared-names : (k : ℕ) → k < berth_count → (last : Party) → NamesLast k last afresh (shared 1 0)
shared-names k l last = names-after-set-up two two.node.settings two_own (shared 1 0) k l afresh-computed.0 last

-- the other way round: the same without the names
pub shared-apart : (map unnamed_outcome (outcomes afresh (shared 1 0)) ≡ map unnamed_outcome (outcomes afresh (shared 0 1)))
    × (unnamed_held (final afresh (shared 1 0)) ≡ unnamed_held (final afresh (shared 0 1)))
shared-apart = parties-apart afresh afresh (shared 1 0) (shared 0 1) (record { start = refl; calls = refl })

-- a tick ends a message of each at these berths: one awaits flow control, the other a turn
abbrev pub late : (one other : Party) → Held
late one other =
    record {
      node = record {
        settings = record { area = 8 };
        served = 9;
        berths = set (set (replicate berth_count (fresh_with two_own)) 3 (berth_of Rx.Idle 0 (Tx.AwaitsFlow one (sending 0) 999))) 4 (berth_of Rx.Idle 0 (Tx.SingleDue other 1 999));
      };
      incoming = replicate 80 0;
      outgoing = replicate 80 0;
      cards = zero_cards;
    }

-- then the other party sends to berth 3
abbrev pub late_run : (other : ℕ) → List Call
late_run other = tick ∷ send 3 other (7 ∷ []) ∷ turn blank ∷ []

pub late-computed : answers (late laptop scheduler) (late_run 0)
    ≡ codes (set (set (replicate 10 (pair_of 0 0)) 3 (record { receive = 0; send = 3; party = laptop })) 4 (pair_of 0 2)) ∷ sent 3
    ∷ handed 0x663 (0x01 ∷ 7 ∷ 0xCC ∷ 0xCC ∷ 0xCC ∷ 0xCC ∷ 0xCC ∷ 0xCC ∷ []) 1 3 scheduler ∷ []
unfolding
    answers done reply outcome refusal needs first_unmet right_store right_cards added_at ticked_cards berth_at in_order all berth_in_order sending_in_range
    in_block after_turn with_berth stored ticked_node ticked ran codes_of sent_berth begins_with passed_over least_distance distance due reached served_node
    handed_at hand_over reporting area_of single_frame padded
late-computed = refl

pub late-names : NamesLast 3 laptop (late laptop scheduler) (late_run 0) × NamesLast 4 scheduler (late laptop scheduler) (late_run 0)
unfolding berth_at
late-names = (run-names 3 laptop (late laptop scheduler) (late_run 0) refl, run-names 4 scheduler (late laptop scheduler) (late_run 0) refl)

pub late-apart : (map unnamed_outcome (outcomes (late laptop scheduler) (late_run 0)) ≡ map unnamed_outcome (outcomes (late scheduler laptop) (late_run 1)))
    × (unnamed_held (final (late laptop scheduler) (late_run 0)) ≡ unnamed_held (final (late scheduler laptop) (late_run 1)))
late-apart = parties-apart (late laptop scheduler) (late scheduler laptop) (late_run 0) (late_run 1) (record { start = refl; calls = refl })
