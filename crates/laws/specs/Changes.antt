-- Settings berth by berth: what a change leaves as it was, and what a berth's settings are in a run.
use Rattle.std.specs.Prelude.{ℕ, ◌≡◌, List, [], ◌∷◌}
use Rattle.rules.specs.Nodes.{berth_at, Held}
use Rattle.rules.specs.Changes.{changed_settings}
use Rattle.rules.specs.Stores.{passed_over}
use Rattle.rules.specs.Events.{change, Event, arrives, ticks, sends, turns, changes}
use Rattle.rules.specs.Alone.{part_of}
use Rattle.rules.specs.declared.BerthSettings.{BerthSettings}
use Rattle.laws.specs.Own.{own}

-- the settings after a berth's own events: its changes and nothing else
unfoldable pub settings_after : BerthSettings → List Event → BerthSettings
settings_after given [] = given
settings_after given (arrives d ∷ es) = settings_after given es
settings_after given (ticks ∷ es) = settings_after given es
settings_after given (sends party m ∷ es) = settings_after given es
settings_after given (turns ∷ es) = settings_after given es
settings_after given (changes parameter value ∷ es) = settings_after (changed_settings given parameter value) es

-- a change at berth j, refused or not: its settings are changed in that one parameter, or not at all where it is refused; its two sides and
-- its last length, every other berth's state, areas and card, A, the berth served last, both stores and all cards stay, and the next call
-- for a frame passes over as many berths as before
pub record ChangesOnly (j parameter value : ℕ) (h end : Held) : Type 0 where
  pub settings : (berth_at end.node j).settings ≡ settings_after (berth_at h.node j).settings (own j h (change j parameter value))
  pub others : (k : ℕ) → (j ≡ k → ⊥) → part_of k end ≡ part_of k h
  pub receive : (berth_at end.node j).rx ≡ (berth_at h.node j).rx
  pub last : (berth_at end.node j).last ≡ (berth_at h.node j).last
  pub send : (berth_at end.node j).tx ≡ (berth_at h.node j).tx
  pub area : end.node.settings ≡ h.node.settings
  pub served : end.node.served ≡ h.node.served
  pub incoming : end.incoming ≡ h.incoming
  pub outgoing : end.outgoing ≡ h.outgoing
  pub cards : end.cards ≡ h.cards
  pub round : passed_over end.node ≡ passed_over h.node
