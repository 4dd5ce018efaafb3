-- The line that tells a person what is wrong, and where: "line 28, field 2: 31 malformed: a name of more than 64 bytes".
use Rattle.std.specs.Prelude.{ℕ, List, [], ◌++◌, eqb}
use Rattle.text_fields.specs.Split.{pick, bytes}
use Rattle.report.specs.Printed.{decimal}
use Rattle.report.specs.Words.{meaning, cause}
use Rattle.report.specs.declared.Complaint.{Complaint}

-- the field, where one is at fault
unfoldable pub field_part : ℕ → List ℕ
field_part field = pick (eqb field 0) [] (bytes ", field " ++ decimal field)

-- where: the line and the field, for a fault that lies in a line
unfoldable pub where_part : ℕ → ℕ → List ℕ
where_part line field = pick (eqb line 0) [] (bytes "line " ++ decimal line ++ field_part field ++ bytes ": ")

-- what: the number and its words
unfoldable pub what_part : ℕ → List ℕ
what_part n = decimal n ++ bytes " " ++ meaning n

-- why: the cause, where there is one
unfoldable pub why_part : ℕ → List ℕ
why_part why = pick (eqb why 0) [] (bytes ": " ++ cause why)

-- the line; nothing where there is no fault
unfoldable pub complained : Complaint → List ℕ
complained c =
    pick (eqb c.number 0) [] (where_part c.line c.field ++ what_part c.number ++ why_part c.why ++ bytes "\n")
