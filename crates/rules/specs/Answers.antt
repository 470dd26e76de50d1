-- What the calls answer: the answers in the paper's words, the reports in them, and the paper's number and values for each case.
use Rattle.std.specs.Prelude.{ℕ, zero, suc, ◌-◌, Result, Ok, Err, ⊤, List, [], ◌∷◌, ◌++◌, take, map, leb, eqb}
use Rattle.rules.specs.Tests.{pick}
use Rattle.rules.specs.Refused.{number_of}
use Rattle.rules.specs.Words.{Word, Delivered, Begun, Failed, Ignored, TooLong, Took, Going, Waiting, Codes, code_said, reported_code, reported_party, word_said, codes_said}
use Rattle.rules.specs.Parties.{scheduler}
use Rattle.rules.specs.Numbers.{frame_size, to_berth, N_OK, N_WRONG_SN}
use Rattle.rules.specs.declared.Party.{Party}
use Rattle.rules.specs.declared.Refusal.{Refusal}
use Rattle.rules.specs.declared.Heard.{Heard}
use Rattle.rules.specs.declared.Codes.{Codes as CodeCodes}
use Rattle.rules.specs.declared.Turn.{Turn}

-- refused with a number; set up; heard at a berth with old code and word; for each of ten berths the codes of both sides and the party; sent
-- to a berth; handed over with identifier, frame, code, passed over and party; none with passed over; a part shown; a berth's setting
-- changed
pub data Answer : Type 0 where
  refused : ℕ → Answer
  ready : Answer
  heard : ℕ → ℕ → Word → Answer
  codes : List Codes → Answer
  sent : ℕ → Answer
  handed : ℕ → List ℕ → ℕ → ℕ → Party → Answer
  none : ℕ → Answer
  shown : List ℕ → Answer
  changed : ℕ → Answer

-- ---- reports: berth, side, code, and the party that sends, 0 for the receive side. Delivered reports 1, Failed its code, an
-- old reception 7; TooLong reports nothing

pub data Side : Type 0 where
  receive send : Side

pub record Report : Type 0 where
  pub berth : ℕ
  pub side : Side
  pub code : ℕ
  pub party : Party

-- a code of 0 is no report
unfoldable pub reported : ℕ → Side → ℕ → Party → List Report
reported k side zero party = []
reported k side (suc c) party = record { berth = k; side = side; code = suc c; party = party } ∷ []

-- Failed 5 is the receive side's, 6 and 9 are the send side's
unfoldable pub failed_side : ℕ → Side
failed_side c = pick (eqb c N_WRONG_SN) receive send

unfoldable pub word_reports : ℕ → Word → List Report
word_reports k (Delivered n) = reported k receive N_OK scheduler
word_reports k (Begun n) = []
word_reports k (Failed c party) = reported k (failed_side c) c party
word_reports k (Ignored i) = []
word_reports k TooLong = []
word_reports k Took = []
word_reports k Going = []
word_reports k Waiting = []

-- a tick's reports go by berth, receive before send
unfoldable pub codes_reports : ℕ → List Codes → List Report
codes_reports k [] = []
codes_reports k (c ∷ cs) = reported k receive c.receive scheduler ++ (reported k send c.send c.party ++ codes_reports (suc k) cs)

-- whose an identifier is that the node sends on: berth k's if it is 660 hex + k, nobody's if it is below 660 hex
abbrev pub for_taker {ℓ} : {X : Type ℓ} → ℕ → (ℕ → X) → X → X
for_taker id its nobodys = pick (leb to_berth id) (its (id - to_berth)) nobodys

unfoldable pub reports : Answer → List Report
reports (refused n) = []
reports ready = []
reports (heard k old w) = reported k receive old scheduler ++ word_reports k w
reports (codes cs) = codes_reports 0 cs
reports (sent k) = []
reports (handed id frame code passed party) = for_taker id (λ k. reported k send code party) []
reports (none passed) = []
reports (shown part) = []
reports (changed k) = []

-- ---- the answers of the code, in the paper's words; a frame handed over is the buffer's first eight bytes

unfoldable pub set_up_says : Result ⊤ Refusal → Answer
set_up_says (Err refusal) = refused (number_of refusal)
set_up_says (Ok done) = ready

unfoldable pub frame_says : Result Heard Refusal → Answer
frame_says (Err refusal) = refused (number_of refusal)
frame_says (Ok answer) = heard answer.berth (code_said answer.old) (word_said answer.word)

unfoldable pub tick_says : Result (List CodeCodes) Refusal → Answer
tick_says (Err refusal) = refused (number_of refusal)
tick_says (Ok ended) = codes (map codes_said ended)

unfoldable pub send_says : Result ℕ Refusal → Answer
send_says (Err refusal) = refused (number_of refusal)
send_says (Ok k) = sent k

unfoldable pub turn_says : Result Turn Refusal → List ℕ → Answer
turn_says (Err refusal) buffer = refused (number_of refusal)
turn_says (Ok (Turn.None passed)) buffer = none passed
turn_says (Ok (Turn.HandedOver id report passed)) buffer =
    handed id (take frame_size buffer) (reported_code report) passed (reported_party report)

unfoldable pub change_says : Result ℕ Refusal → Answer
change_says (Err refusal) = refused (number_of refusal)
change_says (Ok k) = changed k

-- ---- the paper's number and values for each case, as plain numbers: the words in the order in which the paper lists them

pub record Paper : Type 0 where
  pub number : ℕ
  pub values : List ℕ

unfoldable pub word_paper : Word → List ℕ
word_paper (Delivered n) = 1 ∷ n ∷ []
word_paper (Begun n) = 2 ∷ n ∷ []
word_paper (Failed c party) = 3 ∷ c ∷ party.0 ∷ []
word_paper (Ignored i) = 4 ∷ i ∷ []
word_paper TooLong = 5 ∷ []
word_paper Took = 6 ∷ []
word_paper Going = 7 ∷ []
word_paper Waiting = 8 ∷ []

unfoldable pub codes_paper : List Codes → List ℕ
codes_paper [] = []
codes_paper (c ∷ cs) = c.receive ∷ c.send ∷ c.party.0 ∷ codes_paper cs

unfoldable pub paper_of : Answer → Paper
paper_of (refused n) = record { number = 0; values = n ∷ [] }
paper_of ready = record { number = 1; values = [] }
paper_of (heard k old w) = record { number = 2; values = k ∷ old ∷ word_paper w }
paper_of (codes cs) = record { number = 3; values = codes_paper cs }
paper_of (sent k) = record { number = 4; values = k ∷ [] }
paper_of (handed id frame code passed party) = record { number = 5; values = id ∷ code ∷ passed ∷ party.0 ∷ frame }
paper_of (none passed) = record { number = 6; values = passed ∷ [] }
paper_of (shown part) = record { number = 7; values = part }
paper_of (changed k) = record { number = 8; values = k ∷ [] }
