-- A tick that ends no side adds nothing.
use mathlib.Core.Path.{◌≡◌}
use mathlib.Core.Bool.{Bool, true, false}
use Rattle.rules.specs.Cards.{added, tick_adds}
use Rattle.rules.specs.declared.Card.{Card}
use Rattle.rules.proofs.Cards.{added-nothing}

pub no-codes : (c : Card) (was_under_way : Bool) → added c (tick_adds was_under_way 0 0) ≡ c
unfolding tick_adds
no-codes c true = added-nothing c
no-codes c false = added-nothing c

pub ruleset no_codes = (no-codes)
