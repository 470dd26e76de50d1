-- An example, the paper's: berths 0, 4 and 9 due on a fresh node, which are the number 529. They are served in this order, and then nothing
-- is due.
use Prim.Native.Nat.{ℕ}
use mathlib.Core.Path.{◌≡◌, refl, sym}
use mathlib.Core.List.{[], ◌∷◌}
use lib.Dec.{T}
use Rattle.rules.specs.Tests.{all}
use Rattle.rules.specs.Parties.{scheduler}
use Rattle.rules.specs.Nodes.{fresh, with_tx}
use Rattle.rules.specs.Ranges.{berth_in_order, in_order}
use Rattle.rules.specs.Turns.{due}
use Rattle.rules.specs.Stores.{passed_over}
use Rattle.rules.specs.declared.Tx.{Tx}
use Rattle.rules.specs.declared.Berth.{Berth}
use Rattle.rules.specs.declared.Node.{Node}
use Rattle.rules.proofs.Ranges.{in-order-range}
use Rattle.looks.specs.Bits.{bits_of, is_set, due_bits, passed_from, next_set}
use Rattle.looks.proofs.DueBits.{next-is-passed}

abbrev waiting : Berth
waiting = with_tx fresh (Tx.SingleDue scheduler 3 0)

abbrev pub three_berths : ℕ → Berth → Berth → Berth → Node
three_berths served a b c = record {
  settings = record { area = 40 };
  served = served;
  berths = a ∷ fresh ∷ fresh ∷ fresh ∷ b ∷ fresh ∷ fresh ∷ fresh ∷ fresh ∷ c ∷ [];
}

pub three-bits : due_bits (three_berths 9 waiting waiting waiting).berths ≡ 529
unfolding due_bits bits_of due
three-bits = refl

by-law : (n : Node) → T (in_order n) → passed_over n ≡ next_set (due_bits n.berths) n.served
by-law n t = sym (next-is-passed n (in-order-range n t))

pub three-passed : (passed_over (three_berths 9 waiting waiting waiting) ≡ 0) × (passed_over (three_berths 0 fresh waiting waiting) ≡ 3)
    × (passed_over (three_berths 4 fresh fresh waiting) ≡ 4) × (passed_over (three_berths 9 fresh fresh fresh) ≡ 10)
unfolding due_bits bits_of due next_set passed_from is_set in_order all berth_in_order
three-passed =
    (by-law (three_berths 9 waiting waiting waiting) tt, by-law (three_berths 0 fresh waiting waiting) tt, by-law (three_berths 4 fresh fresh waiting) tt, by-law (three_berths 9 fresh fresh fresh) tt)
