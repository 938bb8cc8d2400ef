-- The names of the files of drafts.
use Rattle.std.specs.Prelude.{ℕ, List, ◌++◌, codes, Option, Some, None, decimal}
use Rattle.outside.specs.Names.{folder_part}

-- a name with two numbers in it, in a folder or without one
abbrev pub temporary_in : Option (List ℕ) → ℕ → ℕ → List ℕ
temporary_in None process number =
    codes ".jirovamby." ++ (decimal process ++ (codes "." ++ (decimal number ++ codes ".tmp")))
temporary_in (Some folder) process number =
    folder ++ (codes "/.jirovamby." ++ (decimal process ++ (codes "." ++ (decimal number ++ codes ".tmp"))))

-- the name of a draft's file: in the folder of the name that it is for, by the numbers of the process and the file
abbrev pub temporary_of : List ℕ → ℕ → ℕ → List ℕ
temporary_of name process number = temporary_in (folder_part name) process number
