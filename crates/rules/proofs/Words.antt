-- The code's codes, reasons, words and reports tell each other by what they are in the papers' words and numbers.
use Prim.Native.Nat.{ℕ}
use native.Mathlib.Omega.{arith}
use mathlib.Core.Path.{◌≡◌, refl, sym, ap, ◌∙◌}
use mathlib.Core.List.{List, [], ◌∷◌, map}
use Rattle.std.specs.Prelude.{Option, Some, None}
use lib.Dec.{eqb}
use Rattle.rules.specs.Tests.{pick}
use Rattle.rules.specs.Words.{Word, Codes, code_number, reason_number, code_said, reported_code, reported_party, word_said, codes_said}
use Rattle.rules.specs.declared.Party.{Party}
use Rattle.rules.specs.declared.Code.{Code}
use Rattle.rules.specs.declared.Reason.{Reason}
use Rattle.rules.specs.declared.Report.{Report}
use Rattle.rules.specs.declared.Word.{Word as CodeWord}
use Rattle.rules.specs.declared.Codes.{Codes as CodeCodes}

-- ---- a code, and a reason, of a number

abbrev code_from : ℕ → Code
code_from n =
    pick (eqb n 1) Code.Ok
    (pick (eqb n 2) Code.TimeoutA
    (pick (eqb n 3) Code.TimeoutBs
    (pick (eqb n 4) Code.TimeoutCr
    (pick (eqb n 5) Code.WrongSn (pick (eqb n 6) Code.InvalidFs (pick (eqb n 7) Code.UnexpPdu Code.BufferOvflw))))))

code-again : (c : Code) → code_from (code_number c) ≡ c
code-again Code.Ok = refl
code-again Code.TimeoutA = refl
code-again Code.TimeoutBs = refl
code-again Code.TimeoutCr = refl
code-again Code.WrongSn = refl
code-again Code.InvalidFs = refl
code-again Code.UnexpPdu = refl
code-again Code.BufferOvflw = refl

pub code-tells : (a b : Code) → code_number a ≡ code_number b → a ≡ b
code-tells a b e = sym (code-again a) ∙ ap code_from e ∙ code-again b

-- no code has the number 0
pub code-some : (c : Code) → code_number c ≡ 0 → ⊥
code-some Code.Ok e = absurd (omega (arith, e))
code-some Code.TimeoutA e = absurd (omega (arith, e))
code-some Code.TimeoutBs e = absurd (omega (arith, e))
code-some Code.TimeoutCr e = absurd (omega (arith, e))
code-some Code.WrongSn e = absurd (omega (arith, e))
code-some Code.InvalidFs e = absurd (omega (arith, e))
code-some Code.UnexpPdu e = absurd (omega (arith, e))
code-some Code.BufferOvflw e = absurd (omega (arith, e))

abbrev reason_from : ℕ → Reason
reason_from n = pick (eqb n 1) Reason.NoData (pick (eqb n 2) Reason.OtherKind (pick (eqb n 3) Reason.WrongLength Reason.NotAwaited))

reason-again : (r : Reason) → reason_from (reason_number r) ≡ r
reason-again Reason.NoData = refl
reason-again Reason.OtherKind = refl
reason-again Reason.WrongLength = refl
reason-again Reason.NotAwaited = refl

pub reason-tells : (a b : Reason) → reason_number a ≡ reason_number b → a ≡ b
reason-tells a b e = sym (reason-again a) ∙ ap reason_from e ∙ reason-again b

-- ---- a code or none, and a report or none

pub said-tells : (a b : Option Code) → code_said a ≡ code_said b → a ≡ b
said-tells None None e = refl
said-tells None (Some c) e = absurd (code-some c (sym e))
said-tells (Some c) None e = absurd (code-some c e)
said-tells (Some c) (Some d) e = ap Some (code-tells c d e)

pub report-tells : (a b : Option Report) → reported_code a ≡ reported_code b → reported_party a ≡ reported_party b → a ≡ b
report-tells None None e f = refl
report-tells None (Some r) e f = absurd (code-some r.code (sym e))
report-tells (Some r) None e f = absurd (code-some r.code e)
report-tells (Some r) (Some s) e f =
    ap (λ (c : Code). Some (record { code = c; party = r.party })) (code-tells r.code s.code e)
    ∙ ap (λ (p : Party). Some (record { code = s.code; party = p })) f

-- ---- words, and what the sides report at a tick

abbrev word_from : Word → CodeWord
word_from (Word.Delivered length) = CodeWord.Delivered length
word_from (Word.Begun length) = CodeWord.Begun length
word_from (Word.Failed code party) = CodeWord.Failed (code_from code) party
word_from (Word.Ignored reason) = CodeWord.Ignored (reason_from reason)
word_from Word.TooLong = CodeWord.TooLong
word_from Word.Took = CodeWord.Took
word_from Word.Going = CodeWord.Going
word_from Word.Waiting = CodeWord.Waiting

word-again : (w : CodeWord) → word_from (word_said w) ≡ w
word-again (CodeWord.Delivered length) = refl
word-again (CodeWord.Begun length) = refl
word-again (CodeWord.Failed code party) = ap (λ (c : Code). CodeWord.Failed c party) (code-again code)
word-again (CodeWord.Ignored reason) = ap (λ (r : Reason). CodeWord.Ignored r) (reason-again reason)
word-again CodeWord.TooLong = refl
word-again CodeWord.Took = refl
word-again CodeWord.Going = refl
word-again CodeWord.Waiting = refl

pub word-tells : (a b : CodeWord) → word_said a ≡ word_said b → a ≡ b
word-tells a b e = sym (word-again a) ∙ ap word_from e ∙ word-again b

pub codes-tells : (a b : CodeCodes) → codes_said a ≡ codes_said b → a ≡ b
codes-tells a b e =
    ap (λ (c : Option Code). record { receive = c; send = a.send }) (said-tells a.receive b.receive (ap (λ (c : Codes). c.receive) e))
    ∙ ap (λ (r : Option Report). record { receive = b.receive; send = r })
    (report-tells a.send b.send (ap (λ (c : Codes). c.send) e) (ap (λ (c : Codes). c.party) e))

pub all-codes-tell : (l m : List CodeCodes) → map codes_said l ≡ map codes_said m → l ≡ m
all-codes-tell [] [] e = refl
all-codes-tell [] (b ∷ m) e = cc
all-codes-tell (a ∷ l) [] e = cc
all-codes-tell (a ∷ l) (b ∷ m) e =
    let head : codes_said a ≡ codes_said b = cc in
    let tail : map codes_said l ≡ map codes_said m = cc in
    let same = codes-tells a b head in
    let rest = all-codes-tell l m tail in
    cc
