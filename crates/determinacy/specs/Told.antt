-- The definitions' answers as the code gives them.
use Rattle.machine.specs.Determinacy.{Judged, declined, single, several}
use Rattle.determinacy.specs.declared.Determinacy.{Determinacy}
use Rattle.determinacy.specs.declared.Determinacy.TheVariants.{Yes, No, Refused}

-- yes; no, with the two numbers of what speaks against the sheet; or its refusal
unfoldable pub told : Judged → Determinacy
told (declined r) = Refused r
told single = Yes
told (several m n) = No m n
