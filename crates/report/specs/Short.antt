-- How long what is printed can be.
use Rattle.std.specs.Prelude.{◌≤◌, length}
use Rattle.calculus.specs.declared.Outcome.{Outcome}
use Rattle.report.specs.Printed.{printed}
use Rattle.report.specs.Complaint.{complained}
use Rattle.report.specs.declared.Complaint.{Complaint}

-- the claims: 128 bytes hold the two lines of any result, and 256 bytes any complaint
abbrev pub ResultsAreShort : Type 0
ResultsAreShort = (o : Outcome) → length (printed o) ≤ 128

abbrev pub ComplaintsAreShort : Type 0
ComplaintsAreShort = (c : Complaint) → length (complained c) ≤ 256
