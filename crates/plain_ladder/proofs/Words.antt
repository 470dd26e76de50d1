-- A number that is taken for a word is in that word's range, so what is exchanged is in its ranges.
use mathlib.Core.Path.{◌≡◌, refl, sym}
use Prim.Native.Nat.{ℕ}
use mathlib.Core.Bool.{Bool, true, false}
use mathlib.Core.List.{List}
use lib.Dec.{leb}
use mir.Facts.{leb_yes}
use Rattle.std.specs.Prelude.{Ok, Err, IfOk}
use Rattle.std.proofs.lemmas.Result.{IfOk-at_ok}
use Rattle.rules.specs.Tests.{pick, all}
use Rattle.rules.specs.Numbers.{short_most}
use Rattle.rules.proofs.Cases.{yes_of, and_left, and_right}
use Rattle.plain_ladder.specs.declared.asked.Name.{Name}
use Rattle.plain_ladder.specs.declared.asked.Refusal.{Refusal}
use Rattle.plain_ladder.specs.Ranges.{InRanges}
use Rattle.plain_ladder.specs.Asked.{is_number, value_of, in_range, tested_as}

tested-good : (name : Name) (word : List ℕ) (n : ℕ) → Ok n ≡ tested_as name word → in_range name n ≡ true
unfolding tested_as
tested-good name word n e = IfOk-at_ok (λ k. in_range name k ≡ true) (sym e) (go (is_number word) (in_range name (value_of word)) refl)
  where
    go : (a b : Bool) → in_range name (value_of word) ≡ b
        → IfOk (pick a (pick b (Ok (value_of word)) (Err (Refusal.Outside name))) (Err (Refusal.NoNumber name))) (λ k. in_range name k ≡ true)
    go false b e = tt
    go true false e = tt
    go true true e = e

pub in_ranges : (l b s : List ℕ) (length bs stmin : ℕ) → Ok length ≡ tested_as Name.Length l → Ok bs ≡ tested_as Name.Bs b → Ok stmin ≡ tested_as Name.Stmin s
    → InRanges length bs stmin
unfolding in_range all
in_ranges l b s length bs stmin e f g =
    let t = yes_of (tested-good Name.Length l length e) in
    record {
      length-least = leb_yes (and_left (leb 1 length) (leb length short_most) t);
      length_most = leb_yes (and_right (leb 1 length) (leb length short_most) t);
      own = rw (tested-good Name.Bs b bs f, tested-good Name.Stmin s stmin g);
    }
