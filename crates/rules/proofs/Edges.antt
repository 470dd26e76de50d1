-- The edges of the refusals, computed by the checker.
use mathlib.Core.Path.{◌≡◌, refl}
use mathlib.Core.List.{map}
use Rattle.rules.specs.Tests.{all, first_unmet}
use Rattle.rules.specs.Nodes.{berth_at}
use Rattle.rules.specs.Ranges.{settings_allowed, in_block, taking_in_range, sending_in_range, berth_in_order, in_order}
use Rattle.rules.specs.Changes.{value_allowed}
use Rattle.rules.specs.Stores.{right_store}
use Rattle.rules.specs.Cards.{right_cards}
use Rattle.rules.specs.Refusals.{needs, refusal, set_up_refusal}
use Rattle.rules.specs.Edges.{row_gives, row_says, edge_rows}

-- THE EDGES: each row is given the number that it says
pub edges : map row_gives edge_rows ≡ map row_says edge_rows
unfolding all first_unmet settings_allowed value_allowed in_block taking_in_range sending_in_range berth_in_order berth_at in_order right_store right_cards needs refusal set_up_refusal
edges = refl
