-- A call whose tests found a refusal answers with it and leaves all as it was; so does a turn that finds no berth due, but for its answer.
use Prim.Native.Nat.{ℕ}
use mathlib.Core.Path.{◌≡◌, refl, sym}
use mathlib.Core.List.{List}
use Rattle.std.specs.Prelude.{Ok, Err}
use Rattle.rules.specs.Numbers.{berth_count}
use Rattle.rules.specs.Stores.{passed_over}
use Rattle.rules.specs.Refused.{number_of}
use Rattle.rules.specs.Answers.{frame_says, tick_says, send_says, turn_says, change_says}
use Rattle.rules.specs.Events.{frame, tick, send, turn, change}
use Rattle.rules.specs.Refusals.{refusal}
use Rattle.rules.specs.Calls.{done, reply, written}
use Rattle.rules.specs.declared.Node.{Node}
use Rattle.rules.specs.declared.Card.{Card}
use Rattle.rules.specs.declared.Refusal.{Refusal}
use Rattle.rules.specs.declared.Turn.{Turn}
use Rattle.rules.proofs.Refused.{above-zero}
use Rattle.node.specs.Promises.{lent, FramePromise, TickPromise, SendPromise, TurnPromise, ChangePromise}
use Rattle.node.proofs.Outcomes.{refuses, does}

module _ (n : Node) (found : Refusal) where
  pub refused_frame : (cards : List Card) (incoming : List ℕ) (id : ℕ) (d : List ℕ)
      → ((outgoing : List ℕ) → number_of found ≡ refusal (lent n cards incoming outgoing) (frame id d))
      → FramePromise n cards incoming id d (Err found) n cards incoming
  unfolding frame_says
  refused_frame cards incoming id d e =
      λ outgoing. refuses (lent n cards incoming outgoing) (frame id d) (number_of found) (above-zero found) refl refl (e outgoing)

  pub refused_tick : (cards : List Card)
      → ((incoming outgoing : List ℕ) → number_of found ≡ refusal (lent n cards incoming outgoing) tick)
      → TickPromise n cards (Err found) n cards
  unfolding tick_says
  refused_tick cards e =
      λ incoming outgoing. refuses (lent n cards incoming outgoing) tick (number_of found) (above-zero found) refl refl (e incoming outgoing)

  pub refused_send : (outgoing : List ℕ) (k party : ℕ) (m : List ℕ)
      → ((cards : List Card) (incoming : List ℕ) → number_of found ≡ refusal (lent n cards incoming outgoing) (send k party m))
      → SendPromise n outgoing k party m (Err found) n outgoing
  unfolding send_says
  refused_send outgoing k party m e =
      λ cards incoming. refuses (lent n cards incoming outgoing) (send k party m) (number_of found) (above-zero found) refl refl (e cards incoming)

  pub refused_turn : (cards : List Card) (outgoing buffer : List ℕ)
      → ((incoming : List ℕ) → number_of found ≡ refusal (lent n cards incoming outgoing) (turn buffer))
      → TurnPromise n cards outgoing buffer (Err found) n cards buffer
  unfolding turn_says
  refused_turn cards outgoing buffer e =
      λ incoming. refuses (lent n cards incoming outgoing) (turn buffer) (number_of found) (above-zero found) refl refl (e incoming)

  pub refused_change : (k parameter value : ℕ)
      → ((cards : List Card) (incoming outgoing : List ℕ) → number_of found ≡ refusal (lent n cards incoming outgoing) (change k parameter value))
      → ChangePromise n k parameter value (Err found) n
  unfolding change_says
  refused_change k parameter value e =
      λ cards incoming outgoing.
      refuses (lent n cards incoming outgoing) (change k parameter value) (number_of found) (above-zero found) refl refl (e cards incoming outgoing)

-- no berth is due
pub none_due : (n : Node) (cards : List Card) (outgoing buffer : List ℕ)
    → ((incoming : List ℕ) → 0 ≡ refusal (lent n cards incoming outgoing) (turn buffer))
    → passed_over n ≡ berth_count → TurnPromise n cards outgoing buffer (Ok (Turn.None berth_count)) n cards buffer
unfolding turn_says done reply written
none_due n cards outgoing buffer may ten =
    λ incoming. does (lent n cards incoming outgoing) (turn buffer) refl (may incoming) (rw ten)
