-- The words of a command, as they come after the program's name.
use Rattle.std.specs.Prelude.{ℕ, Bool, List, [], ◌∷◌, length, Option, None, Some, ◌&&◌, ◌||◌, not, nat_eq, nat_le, codes, if◌then◌else◌}
use Rattle.std.specs.List.{list_all}
use Rattle.std.specs.Option.{option_map}
use Rattle.std.specs.Str.{bytes_eq}

abbrev pub is_between : (low high byte : ℕ) → Bool
is_between low high byte = nat_le low byte && nat_le byte high

-- A lower-case letter, a digit or an underscore.
abbrev pub is_package_byte : ℕ → Bool
is_package_byte byte = is_between 97 122 byte || is_between 48 57 byte || nat_eq byte 95

-- 1 to 32 such bytes, and not `base`.
abbrev pub is_package_name : List ℕ → Bool
is_package_name name = is_between 1 32 (length name) && list_all is_package_byte name && not (bytes_eq name (codes "base"))

-- A package by its words: its name, and the names of its files in order.
pub record PackageWords : Type 0 where
  pub package_name : List ℕ
  pub files : List (List ℕ)

-- What is asked for: that a package is checked, that its C text is written, or that a script is run over its C text, over its source,
-- or over the C text with another name.
pub data Command : Type 0 where
  check : PackageWords → Command
  gen : PackageWords → Command
  run : PackageWords → (script : List ℕ) → Command
  mean : PackageWords → (script : List ℕ) → Command
  exec : PackageWords → (script text : List ℕ) → Command

-- `check PACKAGE FILE...`, `gen PACKAGE FILE...`, `run PACKAGE SCRIPT FILE...`, `mean PACKAGE SCRIPT FILE...` and
-- `exec PACKAGE SCRIPT TEXT FILE...`, with one file or more, by the words after the package's name.
abbrev pub to_check : (package_name : List ℕ) → List (List ℕ) → Option Command
to_check package_name [] = None
to_check package_name (file ∷ files) = Some (check (record { package_name = package_name; files = file ∷ files }))

abbrev pub to_gen : (package_name : List ℕ) → List (List ℕ) → Option Command
to_gen package_name [] = None
to_gen package_name (file ∷ files) = Some (gen (record { package_name = package_name; files = file ∷ files }))

abbrev pub script_words : (package_name : List ℕ) → List (List ℕ) → Option (PackageWords × List ℕ)
script_words package_name [] = None
script_words package_name (script ∷ []) = None
script_words package_name (script ∷ (file ∷ files)) = Some (record { package_name = package_name; files = file ∷ files }, script)

abbrev pub to_run : (package_name : List ℕ) → List (List ℕ) → Option Command
to_run package_name rest = option_map (λ it. run it.0 it.1) (script_words package_name rest)

abbrev pub to_mean : (package_name : List ℕ) → List (List ℕ) → Option Command
to_mean package_name rest = option_map (λ it. mean it.0 it.1) (script_words package_name rest)

abbrev pub to_exec : (package_name : List ℕ) → List (List ℕ) → Option Command
to_exec package_name [] = None
to_exec package_name (script ∷ []) = None
to_exec package_name (script ∷ (text ∷ [])) = None
to_exec package_name (script ∷ (text ∷ (file ∷ files))) = Some (exec (record { package_name = package_name; files = file ∷ files }) script text)

abbrev pub asked_of : (command package_name : List ℕ) → List (List ℕ) → Option Command
asked_of command package_name rest =
    if bytes_eq command (codes "check") then to_check package_name rest
    else if bytes_eq command (codes "gen") then to_gen package_name rest
    else if bytes_eq command (codes "run") then to_run package_name rest
    else if bytes_eq command (codes "mean") then to_mean package_name rest
    else if bytes_eq command (codes "exec") then to_exec package_name rest else None

-- Other words are no command form.
abbrev pub command_of : List (List ℕ) → Option Command
command_of [] = None
command_of (_ ∷ []) = None
command_of (command ∷ (package_name ∷ rest)) = if is_package_name package_name then asked_of command package_name rest else None
