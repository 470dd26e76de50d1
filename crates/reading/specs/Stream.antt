-- A source and a sink, each with the buffer that it is lent, as a reader and a writer: what is handed out, and what is left.
use Rattle.std.specs.Prelude.{ℕ, ◌+◌, ◌-◌, min, ◌≡◌, Bool, ◌&&◌, List, ◌++◌, length, take, drop, eqb}
use Rattle.rules.specs.Tests.{pick}
use Rattle.reading.specs.declared.input.Source.{Source}
use Rattle.reading.specs.declared.output.Sink.{Sink}
use Rattle.reading.specs.declared.stream.Input.{Input}
use Rattle.reading.specs.declared.stream.Output.{Output}
use Rattle.reading.specs.declared.stream.LineOutput.{LineOutput}
use Rattle.reading.specs.Input.{within, held, Refilled}

abbrev pub source_of : Input → Source
source_of input = input.source

abbrev pub input_buffer : Input → List ℕ
input_buffer input = input.buffer.now

abbrev pub sink_of : Output → Sink
sink_of output = output.sink

abbrev pub output_buffer : Output → List ℕ
output_buffer output = output.buffer.now

abbrev pub lines_sink : LineOutput → Sink
lines_sink lines = sink_of lines.output

abbrev pub lines_buffer : LineOutput → List ℕ
lines_buffer lines = output_buffer lines.output

-- nothing is held, and more may come
unfoldable pub wants : Source → List ℕ → Bool
wants s buffer = s.more && eqb (length (held s buffer)) 0

pub record Stays (s : Source) (buffer : List ℕ) (s' : Source) (buffer' : List ℕ) : Type 0 where
  pub source : s' ≡ s
  pub same : buffer' ≡ buffer

-- then there is one refill
abbrev pub Prepared : Source → List ℕ → Source → List ℕ → Type 0
Prepared s buffer s' buffer' = pick (wants s buffer) (Refilled s buffer s' buffer') (Stays s buffer s' buffer')

-- so many bytes of what is held are handed out, or all
unfoldable pub handed : Source → List ℕ → ℕ → Source
handed s buffer n =
    record {
      file = s.file;
      used = (within s (length buffer)).used + min n ((within s (length buffer)).filled - (within s (length buffer)).used);
      filled = (within s (length buffer)).filled;
      more = s.more;
    }

-- what is held is shown, after a refill where there is one
pub record Shows (s : Source) (buffer some : List ℕ) : Type 0 where
  pub source : Source
  pub lent : List ℕ
  pub prepared : Prepared s buffer source lent
  pub shown : some ≡ held source lent

-- the first n bytes of it go to the front of the room, as many as there are and as have room
pub record Reads (s : Source) (buffer room : List ℕ) (n : ℕ) (s' : Source) (buffer' room' : List ℕ) : Type 0 where
  pub source : Source
  pub prepared : Prepared s buffer source buffer'
  pub count : n ≡ min (length (held source buffer')) (length room)
  pub copied : room' ≡ take n (held source buffer') ++ drop n room
  pub rest : s' ≡ handed source buffer' n
