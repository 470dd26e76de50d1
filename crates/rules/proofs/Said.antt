-- What the rules answer is what the code's own types can say: every code, word and report of theirs is one of the code's.
use Prim.Native.Nat.{ℕ}
use mathlib.Core.Path.{◌≡◌, refl, ap₂}
use mathlib.Core.List.{List, [], ◌∷◌, map}
use Rattle.std.specs.Prelude.{Option, Some, None}
use lib.Dec.{leb, eqb}
use Rattle.rules.specs.Numbers.{consecutive_most}
use Rattle.rules.specs.Parties.{scheduler, party_of, reporting}
use Rattle.rules.specs.Frames.{low, single_fits, announced, first_fits}
use Rattle.rules.specs.Arrivals.{Heard, Told, Came, ignored, old_code, single_came, above_area, turned_away, begun, first_came, completed, took, wrong_sn, consecutive_came, flow_ignored, flow_came, heard_by, told_by, frame_came}
use Rattle.rules.specs.Ticks.{rx_code, tx_code, codes_of}
use Rattle.rules.specs.Turns.{flow_due, to_go, message_code, HandedOver, hand_over}
use Rattle.rules.specs.Words.{Word, Codes, reason_number, code_said, reported_code, reported_party, word_said, codes_said}
use Rattle.rules.specs.declared.Settings.{Settings}
use Rattle.rules.specs.declared.Party.{Party}
use Rattle.rules.specs.declared.Rx.{Rx}
use Rattle.rules.specs.declared.Tx.{Tx}
use Rattle.rules.specs.declared.Berth.{Berth}
use Rattle.rules.specs.declared.Code.{Code}
use Rattle.rules.specs.declared.Reason.{Reason}
use Rattle.rules.specs.declared.Reason.TheVariants.{WrongLength}
use Rattle.rules.specs.declared.Report.{Report}
use Rattle.rules.specs.declared.Word.{Word as CodeWord}
use Rattle.rules.specs.declared.Codes.{Codes as CodeCodes}
use Rattle.rules.proofs.Cases.{pick-either, ran-either}
use Rattle.rules.proofs.Facts.{frame-either, consecutive-either, told-either}

-- ---- a code or none, of a number that the rules say

abbrev pub Coded : ℕ → Type 0
Coded n = (code : Option Code) × (code_said code ≡ n)

silent : Coded 0
silent = (None, refl)

rx-coded : (rx : Rx) → Coded (rx_code rx)
rx-coded Rx.Idle = silent
rx-coded (Rx.OwesOverflow t) = ran-either Coded t _ _ (λ l. silent) (Some Code.TimeoutA, refl)
rx-coded (Rx.OwesGo p t) = ran-either Coded t _ _ (λ l. silent) (Some Code.TimeoutA, refl)
rx-coded (Rx.Awaits p t) = ran-either Coded t _ _ (λ l. silent) (Some Code.TimeoutCr, refl)

tx-coded : (tx : Tx) → Coded (tx_code tx)
tx-coded Tx.Idle = silent
tx-coded (Tx.SingleDue party n t) = ran-either Coded t _ _ (λ l. silent) (Some Code.TimeoutA, refl)
tx-coded (Tx.FirstDue party n t) = ran-either Coded t _ _ (λ l. silent) (Some Code.TimeoutA, refl)
tx-coded (Tx.AwaitsFlow party o t) = ran-either Coded t _ _ (λ l. silent) (Some Code.TimeoutBs, refl)
tx-coded (Tx.Consecutive party o t) =
    pick-either Coded (eqb o.left 0) _ _ (λ u. ran-either Coded t _ _ (λ l. silent) (Some Code.TimeoutA, refl)) (λ u. silent)

old-coded : (rx : Rx) → Coded (old_code rx)
old-coded Rx.Idle = silent
old-coded (Rx.OwesOverflow t) = silent
old-coded (Rx.OwesGo p t) = (Some Code.UnexpPdu, refl)
old-coded (Rx.Awaits p t) = (Some Code.UnexpPdu, refl)

message-coded : (tx : Tx) → Coded (message_code tx)
message-coded Tx.Idle = silent
message-coded (Tx.SingleDue party n t) = (Some Code.Ok, refl)
message-coded (Tx.FirstDue party n t) = silent
message-coded (Tx.AwaitsFlow party o t) = silent
message-coded (Tx.Consecutive party o t) =
    pick-either Coded (leb (to_go o) consecutive_most) _ _ (λ u. (Some Code.Ok, refl)) (λ u. silent)

-- ---- a report or none, of a code that the rules say and the party that they name with it

abbrev pub Reported : ℕ → Party → Type 0
Reported n party = (report : Option Report) × (reported_code report ≡ n) × (reported_party report ≡ party)

named : (c : Code) (party : Party) → party ≡ reporting (code_said (Some c)) party
unfolding reporting
named Code.Ok party = refl
named Code.TimeoutA party = refl
named Code.TimeoutBs party = refl
named Code.TimeoutCr party = refl
named Code.WrongSn party = refl
named Code.InvalidFs party = refl
named Code.UnexpPdu party = refl
named Code.BufferOvflw party = refl

report-of : {n : ℕ} (party : Party) → Coded n → Reported n (reporting n party)
unfolding reporting
report-of {n} party (code, says) = go code says
  where
    go : (c : Option Code) → code_said c ≡ n → Reported n (reporting n party)
    go None e = rw (← e) (None, refl, refl)
    go (Some c) e = rw (← e) (Some (record { code = c; party = party }), refl, named c party)

-- ---- a word that the rules say

abbrev pub Worded : Word → Type 0
Worded w = (word : CodeWord) × (word_said word ≡ w)

-- what a frame says: the code of the reception that it ended, and the word
abbrev pub Said : ℕ → Word → Type 0
Said old w = Coded old × Worded w

abbrev HeardSaid : Heard → Type 0
HeardSaid h = Said h.old h.word

ignored-said : (why : Reason) (rx : Rx) (last : ℕ) → HeardSaid (ignored (reason_number why) rx last)
unfolding ignored
ignored-said why rx last = (silent, (CodeWord.Ignored why, refl))

single-said : (rx : Rx) (last : ℕ) (d : List ℕ) → HeardSaid (single_came rx last d)
unfolding single_came
single-said rx last d =
    pick-either HeardSaid (single_fits d) _ _ (λ t. (old-coded rx, (CodeWord.Delivered (low d), refl))) (λ t. ignored-said WrongLength rx last)

first-said : (s : Settings) (rx : Rx) (last : ℕ) (d : List ℕ) → HeardSaid (first_came s rx last d)
unfolding first_came turned_away begun
first-said s rx last d =
    pick-either HeardSaid (first_fits d) _ _
    (λ t. pick-either HeardSaid (above_area s (announced d)) _ _
    (λ u. (old-coded rx, (CodeWord.TooLong, refl))) (λ u. (old-coded rx, (CodeWord.Begun (announced d), refl))))
    (λ t. ignored-said WrongLength rx last)

consecutive-said : (bs : ℕ) (rx : Rx) (last : ℕ) (d : List ℕ) → HeardSaid (consecutive_came bs rx last d)
unfolding completed took wrong_sn
consecutive-said bs rx last d =
    consecutive-either HeardSaid bs rx last d (λ why. ignored-said why rx last)
    (λ p. (silent, (CodeWord.Delivered p.total, refl))) (λ p. (silent, (CodeWord.Took, refl))) (silent, (CodeWord.Failed Code.WrongSn scheduler, refl))

flow-said : (tx : Tx) (d : List ℕ) → Worded (flow_came tx d).word
unfolding flow_ignored
flow-said tx d =
    told-either (λ (t : Told). Worded t.word) tx d
    (λ why. (CodeWord.Ignored why, refl)) (λ o party. (CodeWord.Going, refl)) (λ o party. (CodeWord.Waiting, refl))
    (λ code party. (CodeWord.Failed code party, refl))

-- EVERY FRAME: its old code and its word are the code's
pub frame-said : (s : Settings) (b : Berth) (d : List ℕ) → Said (frame_came s b d).old (frame_came s b d).word
unfolding heard_by told_by
frame-said s b d =
    frame-either (λ (c : Came). Said c.old c.word) s b d
    (λ why. ignored-said why b.rx b.last) (single-said b.rx b.last d) (first-said s b.rx b.last d)
    (consecutive-said b.settings.block b.rx b.last d) (silent, flow-said b.tx d)

-- EVERY TICK: so are the codes of each berth
pub tick-said : (b : Berth) → (codes : CodeCodes) × (codes_said codes ≡ codes_of b)
unfolding codes_of
tick-said b =
    let receive = rx-coded b.rx in
    let send = report-of (party_of b.tx) (tx-coded b.tx) in
    (record { receive = receive.0; send = send.0 }, rw (receive.1, send.1, send.2) refl)

pub ticks-said : (bs : List Berth) → (codes : List CodeCodes) × (map codes_said codes ≡ map codes_of bs)
ticks-said [] = ([], refl)
ticks-said (b ∷ bs) =
    let first = tick-said b in
    let rest = ticks-said bs in
    (first.0 ∷ rest.0, ap₂ (λ (c : Codes) (cs : List Codes). c ∷ cs) first.1 rest.1)

-- EVERY FRAME HANDED OVER: so is what it reports, with the party
pub handed-said : (b : Berth) (area : List ℕ) → Reported (hand_over b area).code (hand_over b area).party
unfolding hand_over
handed-said b area =
    pick-either (λ (o : HandedOver). Reported o.code o.party) (flow_due b.rx) _ _ (λ u. (None, refl, refl))
    (λ u. report-of (party_of b.tx) (message-coded b.tx))
