-- What a frame did and what a tick's sides report, in the papers' words and numbers, and the code's own types read as these.
use Rattle.std.specs.Prelude.{ℕ, Option, Some, None}
use Rattle.rules.specs.Numbers.{no_data, other_kind, wrong_length, not_awaited, N_OK, N_TIMEOUT_A, N_TIMEOUT_Bs, N_TIMEOUT_Cr, N_WRONG_SN, N_INVALID_FS, N_UNEXP_PDU, N_BUFFER_OVFLW}
use Rattle.rules.specs.Parties.{scheduler}
use Rattle.rules.specs.declared.Party.{Party}
use Rattle.rules.specs.declared.Code.{Code}
use Rattle.rules.specs.declared.Reason.{Reason}
use Rattle.rules.specs.declared.Report.{Report}
use Rattle.rules.specs.declared.Word.{Word as CodeWord}
use Rattle.rules.specs.declared.Codes.{Codes as CodeCodes}

-- delivered and begun with the length; failed with the code, and the party of a send side, 0 of a receive side; ignored with the number of
-- I1 to I4
pub data Word : Type 0 where
  Delivered : ℕ → Word
  Begun : ℕ → Word
  Failed : ℕ → Party → Word
  Ignored : ℕ → Word
  TooLong Took Going Waiting : Word

-- the codes of one berth's two sides, 0 for none, and the party of the send code, 0 where there is none
pub record Codes : Type 0 where
  pub receive : ℕ
  pub send : ℕ
  pub party : Party

-- ---- the code's types as these

abbrev pub code_number : Code → ℕ
code_number Code.Ok = N_OK
code_number Code.TimeoutA = N_TIMEOUT_A
code_number Code.TimeoutBs = N_TIMEOUT_Bs
code_number Code.TimeoutCr = N_TIMEOUT_Cr
code_number Code.WrongSn = N_WRONG_SN
code_number Code.InvalidFs = N_INVALID_FS
code_number Code.UnexpPdu = N_UNEXP_PDU
code_number Code.BufferOvflw = N_BUFFER_OVFLW

abbrev pub reason_number : Reason → ℕ
reason_number Reason.NoData = no_data
reason_number Reason.OtherKind = other_kind
reason_number Reason.WrongLength = wrong_length
reason_number Reason.NotAwaited = not_awaited

-- no code is 0
abbrev pub code_said : Option Code → ℕ
code_said None = 0
code_said (Some code) = code_number code

-- a report's code, and its party; where there is none, 0 and the scheduler
abbrev pub reported_code : Option Report → ℕ
reported_code None = 0
reported_code (Some report) = code_number report.code

abbrev pub reported_party : Option Report → Party
reported_party None = scheduler
reported_party (Some report) = report.party

abbrev pub word_said : CodeWord → Word
word_said (CodeWord.Delivered length) = Delivered length
word_said (CodeWord.Begun length) = Begun length
word_said (CodeWord.Failed code party) = Failed (code_number code) party
word_said (CodeWord.Ignored reason) = Ignored (reason_number reason)
word_said CodeWord.TooLong = TooLong
word_said CodeWord.Took = Took
word_said CodeWord.Going = Going
word_said CodeWord.Waiting = Waiting

abbrev pub codes_said : CodeCodes → Codes
codes_said codes =
    record { receive = code_said codes.receive; send = reported_code codes.send; party = reported_party codes.send }
