-- What is put to a writer first, and then behind it, is put as if at once.
use Rattle.std.proofs.Common.{ℕ, List, ◌++◌, Option}
use Rattle.std.specs.Io.KnownBytes.{Appends}
use Rattle.std.proofs.KnownBytes.{Appends-trans}

pub both_put : (held then last : Option (List ℕ)) (first some : List ℕ) → Appends held then first → Appends then last some → Appends held last (first ++ some)
both_put held then last first some p q = Appends-trans held then last first some p q
