-- What the tests of a call find, told by the berth's number.
use Rattle.std.specs.Prelude.{ℕ, Result, Ok, Err, Option, Some, None}
use Rattle.rules.specs.declared.places.BerthNumber.{BerthNumber}
use Rattle.rules.specs.declared.Refusal.{Refusal}

-- the berth, or the refusal
abbrev pub numbered : Result BerthNumber Refusal → Result ℕ Refusal
numbered (Ok berth) = Ok berth.number
numbered (Err refusal) = Err refusal

-- the berth of which a message can be shown, or none
abbrev pub shown_number : Option BerthNumber → Option ℕ
shown_number (Some berth) = Some berth.number
shown_number None = None
