-- The row of the methods that uses of names call, by their numbers.
use Rattle.std.specs.Prelude.{ℕ, List, [], ◌∷◌, ◌++◌}
use Rattle.wf_names_rules.specs.declared.callees.Callee.{Callee}
use Rattle.wf_names_rules.specs.declared.callees.Callee.TheVariants as callees
use Rattle.wf_names_rules.specs.Uses as uses
use Rattle.wf_names_rules.specs.Uses.{Use}
use Rattle.wf_names_rules.specs.Meanings.{Known, callee_of}

-- A row with a callee at its end, where that is a method of the package.
abbrev pub with_callee : List ℕ → Callee → List ℕ
with_callee row (callees.Own m) = row ++ m ∷ []
with_callee row (callees.Hidden m) = row ++ m ∷ []
with_callee row _ = row

abbrev pub with_call : Known → List ℕ → Use → List ℕ
with_call k row (uses.method c) = with_callee row (callee_of k c)
with_call k row _ = row

-- A row with the methods at its end that these uses call, in order, each as often as it is called.
abbrev pub with_calls : Known → List ℕ → List Use → List ℕ
with_calls k row [] = row
with_calls k row (usage ∷ usages) = with_calls k (with_call k row usage) usages
