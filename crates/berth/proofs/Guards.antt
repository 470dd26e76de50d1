-- A send side that is not busy is idle.
use mathlib.Core.Path.{◌≡◌, refl, sym}
use mathlib.Core.Bool.{true, not, true≢false}
use Rattle.rules.specs.Turns.{busy}
use Rattle.rules.specs.declared.Tx.{Tx}

pub not-busy : (tx : Tx) → not (busy tx) ≡ true → tx ≡ Tx.Idle
not-busy Tx.Idle e = refl
not-busy (Tx.SingleDue party n t) e = absurd (true≢false (sym e))
not-busy (Tx.FirstDue party n t) e = absurd (true≢false (sym e))
not-busy (Tx.AwaitsFlow party o t) e = absurd (true≢false (sym e))
not-busy (Tx.Consecutive party o t) e = absurd (true≢false (sym e))
