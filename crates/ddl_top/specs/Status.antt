-- The numbers of the statuses.
use Rattle.std.specs.Prelude.{ℕ}
use Rattle.ddl_top.specs.declared.status.Status.{Status}
use Rattle.ddl_top.specs.declared.status.Status.TheVariants as status_is

-- the exit status of a program that ends so
abbrev pub number_of : Status → ℕ
number_of status_is.Parses = 0
number_of status_is.NoParse = 1
number_of status_is.Words = 2
number_of status_is.Refused = 3
number_of status_is.Fault = 4
number_of status_is.Spent = 5
number_of status_is.ReadFault = 6
number_of status_is.WriteFault = 7
number_of status_is.Missing = 8
number_of status_is.NoMemory = 9
number_of status_is.TooLarge = 10
