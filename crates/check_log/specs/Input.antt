-- What is done with the bytes that come from standard input. Which bytes come no contract can say; so these say that there are bytes, as many as were
-- read, of which all is true.
use Rattle.std.specs.Prelude.{ℕ, ◌≡◌, List, length, take}
use Rattle.text_stream.specs.Stream.{Stream, feed_all}
use Rattle.report.specs.Printed.{printed}
use Rattle.report.specs.Complaint.{complained}
use Rattle.verdict.specs.Verdict.{verdict_of}
use Rattle.verdict.specs.Fault.{complaint_of}

-- n bytes were fed, in order
pub record Fed (s : Stream) (n : ℕ) (s' : Stream) : Type 0 where
  pub bytes : List ℕ
  pub size : length bytes ≡ n
  pub all : s' ≡ feed_all s bytes

-- some bytes were fed, in order: what came before a read that failed
pub record FedSome (s s' : Stream) : Type 0 where
  pub count : ℕ
  pub fed : Fed s count s'

-- n bytes were read and answered: the first k bytes of one buffer are what is printed, and the first j of the other what a person is told
pub record Spoken (n k j : ℕ) (out said : List ℕ) : Type 0 where
  pub bytes : List ℕ
  pub size : length bytes ≡ n
  pub printed_is : take k out ≡ printed (verdict_of bytes)
  pub told_is : take j said ≡ complained (complaint_of bytes)
  pub out_keeps : 128 ≡ length out
  pub said_keeps : 256 ≡ length said
