-- The service laptop: whose message a send side sends, and whom a report of it names.
use Rattle.std.specs.Prelude.{ℕ, ◌≡◌, Bool, leb, eqb}
use Rattle.rules.specs.Tests.{pick}
use Rattle.rules.specs.Numbers.{the_scheduler, the_laptop}
use Rattle.rules.specs.declared.Party.{Party}
use Rattle.rules.specs.declared.Tx.{Tx}

abbrev pub scheduler : Party
scheduler = record { 0 = the_scheduler }

-- a party is 0 or 1
abbrev pub party_allowed : ℕ → Bool
party_allowed party = leb party the_laptop

-- the send side keeps the name until the message ends: every state but idle carries it. Where no message is sent, 0 stands for it
abbrev pub party_of : Tx → Party
party_of Tx.Idle = scheduler
party_of (Tx.SingleDue party n t) = party
party_of (Tx.FirstDue party n t) = party
party_of (Tx.AwaitsFlow party o t) = party
party_of (Tx.Consecutive party o t) = party

-- the side keeps this name, or its message has ended
abbrev pub Kept : Party → Tx → Type 0
Kept party Tx.Idle = Unit {0}
Kept party (Tx.SingleDue own n t) = own ≡ party
Kept party (Tx.FirstDue own n t) = own ≡ party
Kept party (Tx.AwaitsFlow own o t) = own ≡ party
Kept party (Tx.Consecutive own o t) = own ≡ party

-- the report names it; where an answer holds no report of a send side the party in it is 0
unfoldable pub reporting : ℕ → Party → Party
reporting code party = pick (eqb code 0) scheduler party
