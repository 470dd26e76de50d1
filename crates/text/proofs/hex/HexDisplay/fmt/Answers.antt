-- One byte's digits more.
use Rattle.std.proofs.Common.{rules, ◌≡◌, ◌<◌, Some, [], ◌∷◌, ap, sym, ◌∙◌, refl, get_or}
use Rattle.std.proofs.Output.{has_written_append, has_written_of_eq}
use Rattle.std.proofs.lemmas.List.{take_more}
use Rattle.std.specs.Fmt.{styled_digits_output}
use Rattle.text.specs.Building.{hex_text}
use Rattle.text.proofs.Digits.{printed_byte, hex_push}
use Rattle.text.proofs.hex.HexDisplay.fmt.Goals as goal

pub loop-byte-preserved : goal.loop-byte-preserved
loop-byte-preserved g c p =
    let before = c.loop-byte.invariant p in
    let bytes = c.args.self.now.0.now in
    let byte = get_or bytes c.loop-byte.byte-index 0 in
    let small : byte < 256 = search rules in
    let shown : styled_digits_output c.in_radix.result c.laid_out.result ≡ Some (hex_text (byte ∷ [])) = rw (c.in_radix.ensures, c.laid_out.ensures) (ap Some (printed_byte byte small)) in
    let wrote = rw shown at c.in_ok-write.ensures.writes in
    has_written_of_eq _ _ _ _ _ (sym (ap hex_text (take_more bytes c.loop-byte.byte-index 0 c.loop-byte-test.true) ∙ hex_push _ byte)) (has_written_append _ _ _ _ _ _ before (wrote before.plain refl))
