-- The starred cases, computed by the checker.
use mathlib.Core.Path.{refl}
use Rattle.rules.specs.Tests.{all, first_unmet}
use Rattle.rules.specs.Parties.{reporting}
use Rattle.rules.specs.Nodes.{berth_at, with_berth}
use Rattle.rules.specs.Ranges.{in_block, taking_in_range, sending_in_range, berth_in_order, in_order}
use Rattle.rules.specs.Frames.{kind, low, single_fits, short_length, escape_length, announced, first_fits, consecutive_fits, flow_fits, padded, single_frame, first_frame, consecutive_frame, go_frame, overflow_frame, next_sn, counted, fills_block, ticks_meant, gap_of, share, needed, frames_needed}
use Rattle.rules.specs.Arrivals.{ignored, single_came, turned_away, begun, first_came, piece, grown, completed, after_took, took, wrong_sn, awaited_came, granted, by_status, flow_ignored, heard_by, told_by, by_kind, frame_came}
use Rattle.rules.specs.Ticks.{ran, ticked, codes_of}
use Rattle.rules.specs.Turns.{due, moved, after_consecutive, hand_over, begins_with, sent as sent_berth}
use Rattle.rules.specs.Stores.{right_store, area_of, stored, ticked_node, served_node, distance, least_distance, passed_over, reached, came_at, handed_at}
use Rattle.rules.specs.Cards.{right_cards, added_at, ticked_cards}
use Rattle.rules.specs.Refusals.{needs, refusal}
use Rattle.rules.specs.Calls.{after_frame, after_turn, done, reply, written, refused_outcome, outcome, answers}
use Rattle.rules.specs.Alone.{state_after, part_after, says, says_all}
use Rattle.rules.specs.Handing.{data_total}
use Rattle.rules.specs.Table.{last_frame, AllShown, rising, table}

-- THE STARRED CASES
pub starred : AllShown table
unfolding all first_unmet in_block taking_in_range sending_in_range berth_in_order berth_at in_order kind low single_fits short_length escape_length announced first_fits consecutive_fits flow_fits padded single_frame first_frame consecutive_frame go_frame overflow_frame next_sn counted fills_block ticks_meant gap_of share needed frames_needed ignored single_came turned_away begun first_came piece grown completed after_took took wrong_sn awaited_came granted by_status flow_ignored heard_by told_by by_kind frame_came ran ticked due moved after_consecutive hand_over reporting begins_with sent_berth right_store area_of stored with_berth ticked_node served_node distance least_distance passed_over reached came_at handed_at right_cards added_at ticked_cards needs refusal after_frame after_turn done codes_of reply written refused_outcome outcome answers state_after part_after says says_all data_total last_frame rising
starred = (refl, (refl, (refl, (refl, (refl, (refl, ((refl, refl), (refl, (refl, (refl, (refl, (refl, (refl, (refl, tt))))))))))))))
