-- The public surface of a package: all that a host knows of it. Numbers of structs, methods and statuses are
-- those of the package; names are their bytes.
use Rattle.std.specs.Prelude.{ℕ, List}

-- The kind of an argument, its refinement left out. A number's kind and a slice's tell the bits of a number.
pub data ArgKind : Type 0 where
  number : (bits : ℕ) → ArgKind
  flag : ArgKind
  reader : ArgKind
  writer : ArgKind
  slice : (bits : ℕ) → ArgKind

-- What a method answers: a status, a number of so many bits, a truth value, or nothing.
pub data AnswerKind : Type 0 where
  status : AnswerKind
  numeric : (bits : ℕ) → AnswerKind
  truth : AnswerKind
  nothing : AnswerKind

pub record PublicArg : Type 0 where
  pub name : List ℕ
  pub kind : ArgKind

pub record PublicMethod : Type 0 where
  pub number : ℕ
  pub name : List ℕ
  pub args : List PublicArg
  pub answers : AnswerKind

pub record PublicStruct : Type 0 where
  pub number : ℕ
  pub name : List ℕ
  pub methods : List PublicMethod

-- `statuses` has the text that a caller sees of each status, by number: ok's, which is empty, the base
-- statuses' and the package's own.
pub record Surface : Type 0 where
  pub package_name : List ℕ
  pub statuses : List (List ℕ)
  pub structs : List PublicStruct
