-- The promises of a line and of a record determine the answers: that of a line whole, and that of a record by its refusal, or by the text's
-- bytes and the time.
use Prim.Native.Nat.{ℕ}
use native.Mathlib.Omega.{arith}
use mathlib.Core.Path.{◌≡◌, refl, sym, ap, ◌∙◌}
use mathlib.Core.List.{List}
use lib.Dec.{eqb}
use Rattle.std.specs.Prelude.{Option, unwrap_or, Result, Ok, Err}
use Rattle.rules.specs.Tests.{pick}
use Rattle.text.specs.Building.{clipped, text_of as bytes_in}
use Rattle.text.specs.declared.building.Text.{Text}
use Rattle.candump.specs.Lines.{error_number}
use Rattle.candump.specs.Reading.{Line, line_said, reads}
use Rattle.candump.specs.Answers.{wrote, SameWritten}
use Rattle.candump.specs.Writing.{Wrote, writes}
use Rattle.candump.specs.declared.Log.{Log}
use Rattle.candump.specs.declared.LogError.{LogError}
use Rattle.candump.specs.declared.LogError.TheVariants.{OtherForm, Earlier, TooFar}
use Rattle.candump.specs.declared.LineRead.{LineRead}
use Rattle.candump.specs.declared.Written.{Written}

-- ---- a refusal's number tells it, and is not 0

error_of : ℕ → LogError
error_of n = pick (eqb n 19) OtherForm (pick (eqb n 20) Earlier TooFar)

error_back : (e : LogError) → error_of (error_number e) ≡ e
unfolding error_of
error_back OtherForm = refl
error_back Earlier = refl
error_back TooFar = refl

error_one : (d e : LogError) → error_number d ≡ error_number e → d ≡ e
error_one d e h = sym (error_back d) ∙ ap error_of h ∙ error_back e

pub error_some : (e : LogError) → error_number e ≡ 0 → ⊥
error_some OtherForm h = omega (arith, h)
error_some Earlier h = omega (arith, h)
error_some TooFar h = omega (arith, h)

-- ---- a line

refused_same : {x y : Line} → x ≡ y → x.refused ≡ y.refused
refused_same e = ap (λ (x : Line). x.refused) e

line_one : (log : Option Log) (r q : Result LineRead LogError) → line_said log r ≡ line_said log q → r ≡ q
unfolding line_said
line_one log (Ok r) (Ok q) e = ap (λ (x : Line). Ok (record { ticks = x.ticks; bytes = x.bytes; log = unwrap_or x.log r.log })) e
line_one log (Ok r) (Err d) e = absurd (error_some d (sym (refused_same e)))
line_one log (Err d) (Ok q) e = absurd (error_some d (refused_same e))
line_one log (Err d) (Err b) e = ap Err (error_one d b (refused_same e))

-- TWO ANSWERS THAT MEET A PROMISE ARE EQUAL; of a line its text counts.
pub read-determined : (log : Option Log) (l : List ℕ) (r q : Result LineRead LogError) → line_said log r ≡ reads log l → line_said log q ≡ reads log l → r ≡ q
read-determined log l r q m n = line_one log r q (m ∙ sym n)

-- ---- a record

wrote_refused : {x y : Wrote} → x ≡ y → x.refused ≡ y.refused
wrote_refused e = ap (λ (w : Wrote). w.refused) e

wrote_one : (t : ℕ) (r q : Result Written LogError) → wrote t r ≡ wrote t q → SameWritten r q
unfolding wrote
wrote_one t (Ok r) (Ok q) e = (ap (λ (w : Wrote). w.text) e, ap (λ (w : Wrote). w.time) e)
wrote_one t (Ok r) (Err d) e = error_some d (sym (wrote_refused e))
wrote_one t (Err d) (Ok q) e = error_some d (wrote_refused e)
wrote_one t (Err d) (Err b) e = error_one d b (wrote_refused e)

pub write-determined : (name : List ℕ) (t : ℕ) (d : List ℕ) (r q : Result Written LogError) → wrote t r ≡ writes name t d → wrote t q ≡ writes name t d
    → SameWritten r q
write-determined name t d r q m n = wrote_one t r q (m ∙ sym n)

-- ---- the text of what was written, by its bytes

pub text-determined : (w : Written) (r q : Text) → bytes_in r ≡ clipped (wrote w.time (Ok w)).text → bytes_in q ≡ clipped (wrote w.time (Ok w)).text → bytes_in r ≡ bytes_in q
text-determined w r q m n = m ∙ sym n
